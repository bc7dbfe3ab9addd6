-- The two lines as they are tested and read.
use Rattle.std.specs.Prelude.{Result, Ok, Err, ℕ, ◌+◌, ◌≤◌, ◌<◌, min, Bool, cond, ◌&&◌, eqb, get_or, drop}
use Rattle.std.proofs.Math.Path.{◌≡◌, refl, ap, sym}
use Rattle.std.proofs.Common.{◌∙◌, zero-add, add-zero, take_all, get_or-drop, drop-drop}
use Rattle.std.proofs.Math.Bool.{true, false, and-false}
use mathlib.Core.List.{List, [], ◌∷◌, ◌++◌, map}
use native.Mathlib.Omega.{arith}
use Rattle.std.proofs.Math.ListN.{length}
use Rattle.base_common.specs.Upto.{all}
use Rattle.base_common.proofs.UptoLaws.{and_left_lem, and_right_lem}
use Rattle.base_common.specs.Wrote.{put}
use Rattle.line_digits.specs.Number.{is_number, value_of}
use Rattle.line_fields.specs.Split.{fields_in, field_of, firsts}
use Rattle.line_fields.proofs.SplitLaws.{fields_turn}
use Rattle.line_fields.proofs.FieldLaws.{tail_some, number_first}
use Rattle.line_input.specs.declared.Two.{Two}
use Rattle.line_input.specs.declared.Missing.{Missing}
use Rattle.line_input.specs.declared.Missing.TheVariants.{NoUnit, NoAnswers}
use Rattle.line_input.specs.declared.Tables.{Tables}
use Rattle.line_input.specs.declared.Unread.{Unread}
use Rattle.line_input.specs.declared.Asked.{Asked}
use Rattle.line_forms.specs.Forms.{lettered, rest, numbers_of, is_numbers, fits, is_j, kind_in, nodes_in, scopes_in, is_x, tail_of}
use Rattle.line_input.specs.Format.{unread, sizes, nodes_of, scopes_of, Room, stopped, tables, ss_in, ns_in, x_in, read_behind, read_lines, front, first_of}
use Rattle.line_forms.proofs.FormLaws.{rest_tail, numbers_told, fits_told}
use Rattle.line_input.proofs.ReadLaws.{scopes_sized, nodes_sized}
use Rattle.line_input.proofs.InputLaws.{head_room}
use Rattle.line_input.specs.Route.{asked, is_u, unit_in, is_a, Asking, unasked, lines_before, asked_by, two_in, two_of, two_answers}

all_fields : (l : List ℕ) → firsts (length (fields_in (tail_of l))) (tail_of l) ≡ rest l
unfolding firsts
all_fields l = take_all (length (fields_in (tail_of l))) (fields_in (tail_of l)) (omega arith) ∙ sym (rest_tail l)

-- the A line
module _ (room : ℕ) (l : List ℕ) where
  pub answers_letter : lettered 65 l ≡ false → is_a room l ≡ false
  unfolding is_a
  answers_letter e = rw e

  pub answers_bad : all is_number (firsts (length (fields_in (tail_of l))) (tail_of l)) ≡ false → is_a room l ≡ false
  unfolding is_a
  answers_bad e = rw (sym (ap (all is_number) (all_fields l)) ∙ e) (and-false (lettered 65 l))

  pub answers_is : lettered 65 l ≡ true → all is_number (firsts (length (fields_in (tail_of l))) (tail_of l)) ≡ true → is_a room l ≡ fits (length (fields_in (tail_of l))) 1 room
  unfolding is_a
  answers_is e f = rw (e, sym (ap (all is_number) (all_fields l)) ∙ f) (ap (λ (fs : List (List ℕ)). fits (length fs) 1 room) (rest_tail l))

  pub answers_told : is_a room l ≡ true → (length (fields_in (tail_of l)) ≤ room) × (all is_number (firsts (length (fields_in (tail_of l))) (tail_of l)) ≡ true)
  unfolding is_a
  answers_told e =
      let a = and_right_lem (lettered 65 l) (all is_number (rest l) && fits (length (rest l)) 1 room) e in
      let n = and_left_lem (all is_number (rest l)) (fits (length (rest l)) 1 room) a in
      let f = (fits_told (length (rest l)) 1 room (and_right_lem (all is_number (rest l)) (fits (length (rest l)) 1 room) a)).1 in
      let k : length (rest l) ≡ length (fields_in (tail_of l)) = ap length (rest_tail l) in
      (omega arith, ap (all is_number) (all_fields l) ∙ n)

-- the answers, written to the front of their slice
pub answers_put : (l f g : List ℕ) → g ≡ put f 0 (map value_of (firsts (length (fields_in (tail_of l))) (tail_of l))) → g ≡ front (numbers_of (rest l)) f
answers_put l f g e = e ∙ ap (λ (fs : List (List ℕ)). put f 0 (map value_of fs)) (all_fields l) ∙ zero_put f (numbers_of (rest l))
  where
    zero_put : (h vs : List ℕ) → put h 0 vs ≡ front vs h
    zero_put h vs = ap (λ (k : ℕ). vs ++ drop k h) (zero-add (length vs))

-- the U line's one number
module _ (l : List ℕ) (e : is_numbers 85 1 l ≡ true) where
  pub unit_told : (is_number (field_of (tail_of l)) ≡ true) × (value_of (field_of (tail_of l)) ≡ unit_in l)
  unit_told =
      let t = numbers_told 85 1 l e in
      let n = t.0 in
      let s : 0 < length (tail_of l) = tail_some (tail_of l) (omega arith) in
      (number_first 1 (tail_of l) (omega arith) s t.1, sym (ap (λ (fs : List (List ℕ)). get_or (numbers_of fs) 0 0) (rest_tail l ∙ fields_turn (tail_of l) s)))

module _ (room : ℕ) (ls : List (List ℕ)) (f₀ : List ℕ) where
  pub two_unit : is_u (first_of ls) ≡ false → (Err NoUnit ≡ two_of room ls) × (f₀ ≡ front (two_answers room ls) f₀)
  unfolding two_of two_answers
  two_unit e = rw e (refl, refl)

  pub two_answers_lem : is_u (first_of ls) ≡ true → is_a room (first_of (drop 1 ls)) ≡ false → (Err NoAnswers ≡ two_of room ls) × (f₀ ≡ front (two_answers room ls) f₀)
  unfolding two_of two_answers
  two_answers_lem e h = rw (e, h) (refl, refl)

  pub two_both : is_u (first_of ls) ≡ true → is_a room (first_of (drop 1 ls)) ≡ true → (u n : ℕ) (f : List ℕ)
      → u ≡ unit_in (first_of ls) → n ≡ length (rest (first_of (drop 1 ls))) → f ≡ front (numbers_of (rest (first_of (drop 1 ls)))) f₀
      → (Ok (record { unit = u; answers = n }) ≡ two_of room ls) × (f ≡ front (two_answers room ls) f₀)
  unfolding two_of two_answers
  two_both e h u n f p q r = rw (e, h, p, q) (refl, r)

-- the whole answer, where k lines stand before the two
abbrev pub route_by : Tables → ℕ → Result Two Missing → Result Asked Unread
route_by t k (Ok two) = Ok (record { tables = t; unit = two.unit; answers = two.answers })
route_by t k (Err NoUnit) = Err (unread (k + 1))
route_by t k (Err NoAnswers) = Err (unread (k + 2))

line_at : (ls : List (List ℕ)) (k : ℕ) → first_of (drop k ls) ≡ get_or ls k []
line_at ls k = get_or-drop k ls 0 [] ∙ ap (λ (j : ℕ). get_or ls j []) (add-zero k)

pub asked_two : (room : ℕ) (ls : List (List ℕ)) (t : Tables)
    → asked_by room ls (Ok t) ≡ record { answer = route_by t (lines_before t.nodes t.scopes) (two_of room (drop (lines_before t.nodes t.scopes) ls)); answers = two_answers room (drop (lines_before t.nodes t.scopes) ls) }
unfolding asked_by two_of two_answers
asked_two room ls t =
    let k = lines_before t.nodes t.scopes in
    let u : first_of (drop k ls) ≡ get_or ls k [] = line_at ls k in
    let a : first_of (drop 1 (drop k ls)) ≡ get_or ls (k + 1) [] = ap first_of (drop-drop 1 k ls) ∙ line_at ls (k + 1) in
    rw (u, a) (go k (get_or ls k []) (get_or ls (k + 1) []) (is_u (get_or ls k [])) (is_a room (get_or ls (k + 1) [])))
  where
    go : (k : ℕ) (u a : List ℕ) (p q : Bool)
        → ◌≡◌ {A = Asking} (cond p (cond q (asked t u a) (unasked (k + 2))) (unasked (k + 1)))
        (record {
          answer = route_by t k (cond p (cond q (Ok (two_in u a)) (Err NoAnswers)) (Err NoUnit));
          answers = cond p (cond q (numbers_of (rest a)) []) [];
        })
    go k u a true true = refl
    go k u a true false = refl
    go k u a false q = refl

pub asked_none : (room : ℕ) (ls : List (List ℕ)) (e : Unread) → asked_by room ls (Err e) ≡ unasked e.line
unfolding asked_by
asked_none room ls e = refl

-- tables that are read are small
module _ (room : Room) where
  small_behind : (kind nodes scopes : ℕ) (ls : List (List ℕ)) → nodes ≤ 1024 → scopes ≤ 1024 → (got : Tables)
      → (read_behind room kind nodes scopes ls).answer ≡ Ok got → (got.nodes ≤ 10240) × (got.scopes ≤ 3072)
  unfolding read_behind
  small_behind kind nodes scopes ls h g got =
      go (eqb (length (ss_in room kind nodes scopes ls)) scopes) (eqb (length (ns_in room kind nodes scopes ls)) nodes) (is_x room.source (x_in room kind nodes scopes ls))
    where
      ss : List (List ℕ)
      ss = ss_in room kind nodes scopes ls

      ns : List (List ℕ)
      ns = ns_in room kind nodes scopes ls

      never : (i : ℕ) → ◌≡◌ {A = Result Tables Unread} (Err (unread i)) (Ok got) → (got.nodes ≤ 10240) × (got.scopes ≤ 3072)
      never i e = let z : ◌≡◌ {A = ℕ} 0 1 = cc in absurd (omega arith)

      all_read : (t : List ℕ) → (tables kind ss ns t).answer ≡ Ok got → (got.nodes ≤ 10240) × (got.scopes ≤ 3072)
      all_read t e =
          let r : sizes kind ss ns t ≡ got = cc in
          let p : length (nodes_of 0 ns) ≡ got.nodes = ap (λ (g : Tables). g.nodes) r in
          let q : length (scopes_of ss) ≡ got.scopes = ap (λ (g : Tables). g.scopes) r in
          let a = nodes_sized (min 1024 room.names) nodes 0 (drop scopes ls) in
          let b = scopes_sized scopes ls in
          let af = a.few in
          let az = a.size in
          let bf = b.few in
          let bz = b.size in
          (omega arith, omega arith)

      go : (p q r : Bool) → (cond p (cond q (cond r (tables kind ss ns (x_in room kind nodes scopes ls)) (stopped (2 + scopes + nodes) ss ns)) (stopped (2 + scopes + length ns) ss ns)) (stopped (2 + length ss) ss [])).answer ≡ Ok got
          → (got.nodes ≤ 10240) × (got.scopes ≤ 3072)
      go true true true e = all_read (x_in room kind nodes scopes ls) e
      go true true false e = never (2 + scopes + nodes) e
      go true false r e = never (2 + scopes + length ns) e
      go false q r e = never (2 + length ss) e

  pub tables_small : (ls : List (List ℕ)) (got : Tables) → (read_lines room ls).answer ≡ Ok got → (got.nodes ≤ 10240) × (got.scopes ≤ 3072)
  unfolding read_lines
  tables_small [] got e = let z : ◌≡◌ {A = ℕ} 0 1 = cc in absurd (omega arith)
  tables_small (j ∷ ls) got e = go (is_j room.nodes room.scopes j) refl e
    where
      go : (t : Bool) → is_j room.nodes room.scopes j ≡ t → (cond t (read_behind room (kind_in j) (nodes_in j) (scopes_in j) ls) (stopped 1 [] [])).answer ≡ Ok got → (got.nodes ≤ 10240) × (got.scopes ≤ 3072)
      go true f e = let h = head_room room.nodes room.scopes j f in small_behind (kind_in j) (nodes_in j) (scopes_in j) ls h.0 h.1 got e
      go false f e = let z : ◌≡◌ {A = ℕ} 0 1 = cc in absurd (omega arith)

pub asked_as : (room : ℕ) (ls : List (List ℕ)) (t : Tables) (f₀ : List ℕ) (ks : List (List ℕ)) (two : Result Two Missing) (f : List ℕ) (r : Result Asked Unread)
    → ks ≡ drop (lines_before t.nodes t.scopes) ls → two ≡ two_of room ks → f ≡ front (two_answers room ks) f₀ → r ≡ route_by t (lines_before t.nodes t.scopes) two
    → (r ≡ (asked_by room ls (Ok t)).answer) × (f ≡ front (asked_by room ls (Ok t)).answers f₀)
asked_as room ls t f₀ ks two f r e p q h =
    rw (asked_two room ls t, sym e) (h ∙ ap (route_by t (lines_before t.nodes t.scopes)) p, q)
