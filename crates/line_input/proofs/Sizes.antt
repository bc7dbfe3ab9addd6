-- The sizes that are answered are those of what was read, which stands at the front of the slices.
use Rattle.std.specs.Prelude.{Result, Ok, Err, ℕ, ◌+◌, ◌≡◌, refl, Bool, true, false, cond, List, [], ◌∷◌, eqb, length, get_or, take, drop}
use Rattle.std.proofs.Common.{ap, ◌∙◌, arith, take_at}
use Rattle.std.proofs.lemmas.List.{length-map}
use Rattle.line_digits.specs.Number.{value_of}
use Rattle.line_forms.specs.Forms.{rest, kind_in, nodes_in, scopes_in, is_j, is_x}
use Rattle.line_input.specs.declared.Tables.{Tables}
use Rattle.line_input.specs.declared.Asked.{Asked}
use Rattle.line_input.specs.declared.Unread.{Unread}
use Rattle.line_input.specs.Route.{asked, is_u, is_a, unit_in, unasked, lines_before, asked_by}
use Rattle.line_input.specs.Format.{Room, room_of, Reading, stopped, tables, lent, ss_in, ns_in, x_in, read_behind, read_lines, front}

abbrev pub Sized : Result Tables Unread → Reading → Type 0
Sized (Err e) d = Unit {0}
Sized (Ok t) d = (length d.nodes ≡ t.nodes) × (length d.scopes ≡ t.scopes) × (length d.source ≡ t.source) × (length d.names ≡ t.names)

abbrev pub Told : Reading → Type 0
Told d = Sized d.answer d

behind_told : (room : Room) (kind n s : ℕ) (ls : List (List ℕ)) → Told (read_behind room kind n s ls)
unfolding read_behind
behind_told room kind n s ls = go (eqb (length ss) s) (eqb (length ns) n) (is_x room.source x)
  where
    ss : List (List ℕ)
    ss = ss_in room kind n s ls

    ns : List (List ℕ)
    ns = ns_in room kind n s ls

    x : List ℕ
    x = x_in room kind n s ls

    go : (p q r : Bool) → Told (cond p (cond q (cond r (tables kind ss ns x) (stopped (2 + s + n) ss ns)) (stopped (2 + s + length ns) ss ns)) (stopped (2 + length ss) ss []))
    go true true true = (refl, refl, refl, refl)
    go true true false = tt
    go true false r = tt
    go false q r = tt

pub lines_told : (room : Room) (ls : List (List ℕ)) → Told (read_lines room ls)
unfolding read_lines
lines_told room [] = tt
lines_told room (j ∷ ls) = go (is_j room.nodes room.scopes j)
  where
    go : (t : Bool) → Told (cond t (read_behind room (kind_in j) (nodes_in j) (scopes_in j) ls) (stopped 1 [] []))
    go true = behind_told room (kind_in j) (nodes_in j) (scopes_in j) ls
    go false = tt

pub room_lent : (ns ss xs ms : List ℕ) → length ns ≡ 10240 → length ss ≡ 3072 → length xs ≡ 1024 → length ms ≡ 1024 → room_of ns ss xs ms ≡ lent
room_lent ns ss xs ms g h i j = rw (g, h, i, j)

-- what was read stands at the front of a slice
pub part : (l f g : List ℕ) (n : ℕ) → length l ≡ n → g ≡ front l f → take n g ≡ l
part l f g n e h = ap (take n) h ∙ take_at l (drop (length l) f) n e

-- an answer with a unit is one with tables, and its answers are as many as it says
pub asked_told : (room : ℕ) (ls : List (List ℕ)) (i : Result Tables Unread) (got : Asked) → (asked_by room ls i).answer ≡ Ok got
    → (i ≡ Ok got.tables) × (length (asked_by room ls i).answers ≡ got.answers)
unfolding asked_by
asked_told room ls (Err k) got e = let z : ◌≡◌ {A = ℕ} 0 1 = cc in absurd (omega arith)
asked_told room ls (Ok t) got e = go (is_u l) (is_a room a) e
  where
    k : ℕ
    k = lines_before t.nodes t.scopes

    l : List ℕ
    l = get_or ls k []

    a : List ℕ
    a = get_or ls (k + 1) []

    asked_as : Asked
    asked_as = record { tables = t; unit = unit_in l; answers = length (rest a) }

    go : (p q : Bool) → (cond p (cond q (asked t l a) (unasked (k + 2))) (unasked (k + 1))).answer ≡ Ok got
        → (◌≡◌ {A = Result Tables Unread} (Ok t) (Ok got.tables)) × (length (cond p (cond q (asked t l a) (unasked (k + 2))) (unasked (k + 1))).answers ≡ got.answers)
    go true true e =
        let r : asked_as ≡ got = cc in
        (ap (λ (g : Asked). Ok g.tables) r, length-map (rest a) value_of ∙ ap (λ (g : Asked). g.answers) r)
    go true false e = let z : ◌≡◌ {A = ℕ} 0 1 = cc in absurd (omega arith)
    go false q e = let z : ◌≡◌ {A = ℕ} 0 1 = cc in absurd (omega arith)
