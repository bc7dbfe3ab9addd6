-- How much of an input is ever read: 2,052 lines (J, 1,024 scopes, 1,024 nodes, X, U, A), and of a line 2,101 bytes, since one of more
-- than 2,100 can't be read. What stands behind the first `enough` bytes changes nothing, so a reader that takes no more of them cuts nothing.
use Prim.Native.Nat.{ℕ, zero, suc, ◌+◌, ◌-◌, ◌*◌, ◌≤◌, ◌<◌, min}
use Rattle.std.proofs.Math.Path.{◌≡◌, refl, sym}
use Rattle.std.proofs.Common.{ap, ◌∙◌, inl, inr, length-take, take_all, drop-drop, leb-true, leb-false, eqb-true, eq-eqb}
use Rattle.std.specs.Prelude.{Result, Ok, Err, Bool, cond, ◌&&◌, ◌⊎◌, List, [], ◌∷◌, leb, eqb, length, take, drop}
use Rattle.std.proofs.Math.Bool.{true, false}
use native.Mathlib.Omega.{arith}
use Rattle.std.proofs.Math.Seq.{take-nil}
use Rattle.base_common.proofs.Bools.{never}
use Rattle.base_common.proofs.UptoLaws.{and_left_lem, and_right_lem}
use Rattle.line_fields.specs.Split.{lines_of, before, onward}
use Rattle.line_fields.proofs.SplitLaws.{line_first, lines_after}
use Rattle.line_forms.specs.Forms.{kind_in, nodes_in, scopes_in, name_of, is_j, is_s, is_n, is_x}
use Rattle.line_forms.proofs.FormLaws.{lettered_long, numbers_letter, node_letter, source_letter}
use Rattle.line_input.specs.declared.Tables.{Tables}
use Rattle.line_input.specs.declared.Unread.{Unread}
use Rattle.line_input.specs.Format.{unread, sizes, scope_lines, node_lines, nodes_of, scopes_of, Room, Reading, tables, read_behind, read_lines, read_input, first_of}
use Rattle.line_input.specs.Route.{is_u, is_a, lines_before, asked_by, read_route, two_of, two_answers, enough}
use Rattle.line_input.proofs.ReadLaws.{scopes_turn, scopes_bad, scopes_none, nodes_turn, nodes_bad, nodes_full, nodes_none, scopes_sized, nodes_sized}
use Rattle.line_input.proofs.RouteLaws.{answers_letter, asked_two, asked_none}
use Rattle.line_input.proofs.InputLaws.{behind_scopes, behind_nodes, behind_source, behind_all, lines_no, lines_on, head_room}

-- the next k lines of two inputs are the same, up to one that is too long in both
abbrev pub Long : List ℕ → Type 0
Long l = 2100 < length l

unfoldable pub Alike : ℕ → List (List ℕ) → List (List ℕ) → Type 0
Alike zero ls ks = Unit {0}
Alike (suc k) ls ks = ((first_of ls ≡ first_of ks) × Alike k (drop 1 ls) (drop 1 ks)) ⊎ (Long (first_of ls) × Long (first_of ks))

-- bytes: what stands before and from byte d on, in the first m bytes
before_take : (d : ℕ) (l : List ℕ) (m : ℕ) → before d (take m l) ≡ take m (before d l)
unfolding before
before_take d [] zero = refl
before_take d [] (suc m) = refl
before_take d (c ∷ l) zero = refl
before_take d (c ∷ l) (suc m) = go (eqb c d) (before_take d l m)
  where
    go : (t : Bool) → before d (take m l) ≡ take m (before d l) → cond t [] (c ∷ before d (take m l)) ≡ take (suc m) (cond t [] (c ∷ before d l))
    go true h = refl
    go false h = ap (λ (x : List ℕ). c ∷ x) h

onward_take : (d : ℕ) (l : List ℕ) (m : ℕ) → onward d (take m l) ≡ take (m - length (before d l)) (onward d l)
unfolding before onward
onward_take d [] zero = sym (take-nil (0 - 0))
onward_take d [] (suc m) = sym (take-nil (suc m - 0))
onward_take d (c ∷ l) zero =
    let z : 0 - length (cond (eqb c d) [] (c ∷ before d l)) ≡ 0 = omega arith in
    rw z
onward_take d (c ∷ l) (suc m) = go (eqb c d) (onward_take d l m)
  where
    go : (t : Bool) → onward d (take m l) ≡ take (m - length (before d l)) (onward d l)
        → cond t (c ∷ take m l) (onward d (take m l)) ≡ take (suc m - length (cond t [] (c ∷ before d l))) (cond t (c ∷ l) (onward d l))
    go true h = let z : suc m - 0 ≡ suc m = omega arith in rw z
    go false h = let z : suc m - suc (length (before d l)) ≡ m - length (before d l) = omega arith in rw z h

behind_take : (l : List ℕ) (j : ℕ) → 0 < j → drop 1 (take j l) ≡ take (j - 1) (drop 1 l)
behind_take l zero h = absurd (omega arith)
behind_take [] (suc j) h = sym (take-nil (suc j - 1))
behind_take (c ∷ l) (suc j) h = let z : suc j - 1 ≡ j = omega arith in rw z

-- so many bytes hold the next k lines, each as long as it is or too long
pub lines_alike : (k m : ℕ) (b : List ℕ) → k * 2101 ≤ m → Alike k (lines_of (take m b)) (lines_of b)
unfolding Alike
lines_alike zero m b h = tt
lines_alike (suc k) m b h = go (leb (length (before 10 b)) 2100) refl (λ j c g. lines_alike k j c g)
  where
    first : first_of (lines_of (take m b)) ≡ take m (before 10 b)
    first = sym (line_first (take m b)) ∙ before_take 10 b m

    go : (t : Bool) → leb (length (before 10 b)) 2100 ≡ t → ((j : ℕ) (c : List ℕ) → k * 2101 ≤ j → Alike k (lines_of (take j c)) (lines_of c)) → Alike (suc k) (lines_of (take m b)) (lines_of b)
    go true e more =
        let s = leb-true (length (before 10 b)) 2100 e in
        let n = m - length (before 10 b) in
        let q : drop 1 (lines_of (take m b)) ≡ lines_of (take (n - 1) (drop 1 (onward 10 b))) =
        sym (lines_after (take m b)) ∙ ap (λ (x : List ℕ). lines_of (drop 1 x)) (onward_take 10 b m) ∙ ap lines_of (behind_take (onward 10 b) n (omega arith)) in
        inl (first ∙ take_all m (before 10 b) (omega arith) ∙ line_first b, rw (q, sym (lines_after b)) (more (n - 1) (drop 1 (onward 10 b)) (omega arith)))
    go false e more =
        let s : 2100 < length (before 10 b) = leb-false (length (before 10 b)) 2100 e in
        inr (rw (first, length-take m (before 10 b)) (omega arith), rw (sym (line_first b)) s)

-- Lines read one a turn, with something kept from one to the next: what the scope lines and the node lines have in common.
module _
    (read : ℕ → ℕ → List (List ℕ) → List (List ℕ)) (next : ℕ → List ℕ → ℕ) (ok : ℕ → List ℕ → Bool)
    (none : (r : ℕ) (ls : List (List ℕ)) → read r 0 ls ≡ [])
    (turn : (r n : ℕ) (ls : List (List ℕ)) → 0 < n → ok r (first_of ls) ≡ true → read r n ls ≡ first_of ls ∷ read (next r (first_of ls)) (n - 1) (drop 1 ls))
    (bad : (r n : ℕ) (ls : List (List ℕ)) → ok r (first_of ls) ≡ false → read r n ls ≡ [])
    (long : (r : ℕ) (l : List ℕ) → Long l → ok r l ≡ false) where
  read_alike : (n k r : ℕ) (ls ks : List (List ℕ)) → n ≤ k → Alike k ls ks → read r n ls ≡ read r n ks
  unfolding Alike
  read_alike zero k r ls ks h a = none r ls ∙ sym (none r ks)
  read_alike (suc n) zero r ls ks h a = absurd (omega arith)
  read_alike (suc n) (suc k) r ls ks h (inl a) = go (ok r (first_of ls)) refl (read_alike n k (next r (first_of ks)) (drop 1 ls) (drop 1 ks) (omega arith) a.1)
    where
      z : suc n - 1 ≡ n
      z = omega arith

      go : (t : Bool) → ok r (first_of ls) ≡ t → read (next r (first_of ks)) n (drop 1 ls) ≡ read (next r (first_of ks)) n (drop 1 ks) → read r (suc n) ls ≡ read r (suc n) ks
      go true e more =
          let p = turn r (suc n) ls (omega arith) e in
          let q = turn r (suc n) ks (omega arith) (rw (sym a.0) e) in
          rw (p, q, z, a.0, more)
      go false e more = bad r (suc n) ls e ∙ sym (bad r (suc n) ks (rw (sym a.0) e))
  read_alike (suc n) (suc k) r ls ks h (inr a) = bad r (suc n) ls (long r (first_of ls) a.0) ∙ sym (bad r (suc n) ks (long r (first_of ks) a.1))

  -- where all n are read, the lines behind them are alike
  read_on : (n k j r : ℕ) (ls ks : List (List ℕ)) → k ≡ n + j → Alike k ls ks → length (read r n ls) ≡ n → Alike j (drop n ls) (drop n ks)
  unfolding Alike
  read_on zero k j r ls ks h a f = let z : k ≡ j = omega arith in rw z at a
  read_on (suc n) zero j r ls ks h a f = absurd (omega arith)
  read_on (suc n) (suc k) j r ls ks h (inl a) f = go (ok r (first_of ls)) refl (λ g. read_on n k j (next r (first_of ls)) (drop 1 ls) (drop 1 ks) (omega arith) a.1 g)
    where
      z : suc n - 1 ≡ n
      z = omega arith

      s : 1 + n ≡ suc n
      s = omega arith

      go : (t : Bool) → ok r (first_of ls) ≡ t → (length (read (next r (first_of ls)) n (drop 1 ls)) ≡ n → Alike j (drop n (drop 1 ls)) (drop n (drop 1 ks))) → Alike j (drop (suc n) ls) (drop (suc n) ks)
      go true e more =
          let l : suc (length (read (next r (first_of ls)) (suc n - 1) (drop 1 ls))) ≡ suc n = sym (ap length (turn r (suc n) ls (omega arith) e)) ∙ f in
          let g : length (read (next r (first_of ls)) n (drop 1 ls)) ≡ n = rw (sym z) (omega arith) in
          rw (sym s, sym (drop-drop n 1 ls), sym (drop-drop n 1 ks)) (more g)
      go false e more =
          let l : 0 ≡ suc n = sym (ap length (bad r (suc n) ls e)) ∙ f in
          absurd (omega arith)
  read_on (suc n) (suc k) j r ls ks h (inr a) f =
      let l : 0 ≡ suc n = sym (ap length (bad r (suc n) ls (long r (first_of ls) a.0))) ∙ f in
      absurd (omega arith)

-- a line that is too long is read as nothing
module _ (l : List ℕ) (h : Long l) where
  long_head : (nodes scopes : ℕ) → is_j nodes scopes l ≡ false
  unfolding is_j
  long_head nodes scopes = rw (numbers_letter 74 3 l (lettered_long 74 l h))

  long_scope : is_s l ≡ false
  long_scope = numbers_letter 83 3 l (lettered_long 83 l h)

  long_node : is_n l ≡ false
  long_node = node_letter l (lettered_long 78 l h)

  long_source : (room : ℕ) → is_x room l ≡ false
  long_source room = source_letter room l (lettered_long 88 l h)

  long_unit : is_u l ≡ false
  long_unit = numbers_letter 85 1 l (lettered_long 85 l h)

  long_answers : (room : ℕ) → is_a room l ≡ false
  long_answers room = answers_letter room l (lettered_long 65 l h)

-- scope lines
module _ (n k : ℕ) (ls ks : List (List ℕ)) where
  scopes_alike : n ≤ k → Alike k ls ks → scope_lines n ls ≡ scope_lines n ks
  scopes_alike h a =
      read_alike (λ r m xs. scope_lines m xs) (λ r l. 0) (λ r l. is_s l) (λ r xs. scopes_none 0 xs refl) (λ r m xs g e. scopes_turn m xs g e) (λ r m xs e. scopes_bad m xs e) (λ r l g. long_scope l g)
      n k 0 ls ks h a

  scopes_on : (j : ℕ) → k ≡ n + j → Alike k ls ks → length (scope_lines n ls) ≡ n → Alike j (drop n ls) (drop n ks)
  scopes_on j h a f =
      read_on (λ r m xs. scope_lines m xs) (λ r l. 0) (λ r l. is_s l) (λ r xs. scopes_none 0 xs refl) (λ r m xs g e. scopes_turn m xs g e) (λ r m xs e. scopes_bad m xs e) (λ r l g. long_scope l g)
      n k j 0 ls ks h a f

-- node lines, with the room that is left for names
unfoldable fits_in : ℕ → List ℕ → Bool
fits_in room l = is_n l && leb (length (name_of l)) room

node_turn : (r n : ℕ) (ls : List (List ℕ)) → 0 < n → fits_in r (first_of ls) ≡ true → node_lines r n ls ≡ first_of ls ∷ node_lines (r - length (name_of (first_of ls))) (n - 1) (drop 1 ls)
unfolding fits_in
node_turn r n ls h e =
    let l = first_of ls in
    nodes_turn r n ls h (and_left_lem (is_n l) (leb (length (name_of l)) r) e) (leb-true (length (name_of l)) r (and_right_lem (is_n l) (leb (length (name_of l)) r) e))

node_bad : (r n : ℕ) (ls : List (List ℕ)) → fits_in r (first_of ls) ≡ false → node_lines r n ls ≡ []
unfolding fits_in
node_bad r n ls e = go (is_n (first_of ls)) refl e
  where
    go : (t : Bool) → is_n (first_of ls) ≡ t → (t && leb (length (name_of (first_of ls))) r) ≡ false → node_lines r n ls ≡ []
    go true f g = nodes_full r n ls f (leb-false (length (name_of (first_of ls))) r g)
    go false f g = nodes_bad r n ls f

node_long : (r : ℕ) (l : List ℕ) → Long l → fits_in r l ≡ false
unfolding fits_in
node_long r l h = rw (long_node l h)

module _ (n k r : ℕ) (ls ks : List (List ℕ)) where
  nodes_alike : n ≤ k → Alike k ls ks → node_lines r n ls ≡ node_lines r n ks
  nodes_alike h a = read_alike node_lines (λ q l. q - length (name_of l)) fits_in (λ q xs. nodes_none q 0 xs refl) node_turn node_bad node_long n k r ls ks h a

  nodes_on : (j : ℕ) → k ≡ n + j → Alike k ls ks → length (node_lines r n ls) ≡ n → Alike j (drop n ls) (drop n ks)
  nodes_on j h a f = read_on node_lines (λ q l. q - length (name_of l)) fits_in (λ q xs. nodes_none q 0 xs refl) node_turn node_bad node_long n k j r ls ks h a f

-- one line that is read, and the lines behind it
first_on : (k : ℕ) (ls ks : List (List ℕ)) → Alike (suc k) ls ks → (Long (first_of ls) → ⊥) → (first_of ls ≡ first_of ks) × Alike k (drop 1 ls) (drop 1 ks)
unfolding Alike
first_on k ls ks (inl a) h = a
first_on k ls ks (inr a) h = absurd (h a.0)

-- the lines behind the J line
module _ (room : Room) (kind n s : ℕ) (ls ks : List (List ℕ)) where
  abbrev ss : List (List ℕ)
  ss = scope_lines s ls

  abbrev ns : List (List ℕ)
  ns = node_lines (min 1024 room.names) n (drop s ls)

  abbrev x : List ℕ
  x = first_of (drop n (drop s ls))

  -- where all scopes and nodes are read
  source_alike : (k : ℕ) → Alike (suc k) (drop n (drop s ls)) (drop n (drop s ks)) → ss ≡ scope_lines s ks → ns ≡ node_lines (min 1024 room.names) n (drop s ks) → length ss ≡ s → length ns ≡ n
      → read_behind room kind n s ls ≡ read_behind room kind n s ks
  unfolding Alike
  source_alike k (inl a) p q f g = go (is_x room.source x) refl
    where
      go : (t : Bool) → is_x room.source x ≡ t → read_behind room kind n s ls ≡ read_behind room kind n s ks
      go true e =
          let d = behind_all room kind n s ls f g e in
          let c = behind_all room kind n s ks (rw (sym p) f) (rw (sym q) g) (rw (sym a.0) e) in
          rw (d, c, p, q, a.0)
      go false e =
          let d = behind_source room kind n s ls f g e in
          let c = behind_source room kind n s ks (rw (sym p) f) (rw (sym q) g) (rw (sym a.0) e) in
          rw (d, c, p, q)
  source_alike k (inr a) p q f g =
      let d = behind_source room kind n s ls f g (long_source x a.0 room.source) in
      let c = behind_source room kind n s ks (rw (sym p) f) (rw (sym q) g) (long_source (first_of (drop n (drop s ks))) a.1 room.source) in
      rw (d, c, p, q)

  behind_alike : (j : ℕ) → Alike (s + (n + suc j)) ls ks → read_behind room kind n s ls ≡ read_behind room kind n s ks
  behind_alike j a = go (eqb (length ss) s) refl
    where
      p : ss ≡ scope_lines s ks
      p = scopes_alike s (s + (n + suc j)) ls ks (omega arith) a

      at_nodes : length ss ≡ s → (t : Bool) → eqb (length ns) n ≡ t → read_behind room kind n s ls ≡ read_behind room kind n s ks
      at_nodes f t e = by t e
        where
          b : Alike (n + suc j) (drop s ls) (drop s ks)
          b = scopes_on s (s + (n + suc j)) ls ks (n + suc j) refl a f

          q : ns ≡ node_lines (min 1024 room.names) n (drop s ks)
          q = nodes_alike n (n + suc j) (min 1024 room.names) (drop s ls) (drop s ks) (omega arith) b

          by : (u : Bool) → eqb (length ns) n ≡ u → read_behind room kind n s ls ≡ read_behind room kind n s ks
          by true e =
              let g = eqb-true (length ns) n e in
              source_alike j (nodes_on n (n + suc j) (min 1024 room.names) (drop s ls) (drop s ks) (suc j) refl b g) p q f g
          by false e =
              let d = behind_nodes room kind n s ls f (λ g. never (sym (eq-eqb (length ns) n g) ∙ e)) in
              let c = behind_nodes room kind n s ks (rw (sym p) f) (λ g. never (sym (eq-eqb (length ns) n (ap length q ∙ g)) ∙ e)) in
              rw (d, c, p, q)

      go : (t : Bool) → eqb (length ss) s ≡ t → read_behind room kind n s ls ≡ read_behind room kind n s ks
      go true e = at_nodes (eqb-true (length ss) s e) (eqb (length ns) n) refl
      go false e =
          let d = behind_scopes room kind n s ls (λ f. never (sym (eq-eqb (length ss) s f) ∙ e)) in
          let c = behind_scopes room kind n s ks (λ f. never (sym (eq-eqb (length ss) s (ap length p ∙ f)) ∙ e)) in
          rw (d, c, p)

-- all that rulecheck reads
module _ (room : Room) (ls ks : List (List ℕ)) where
  head_alike : (k : ℕ) → 2051 ≤ k → first_of ls ≡ first_of ks → Alike k (drop 1 ls) (drop 1 ks) → is_j room.nodes room.scopes (first_of ls) ≡ true → read_lines room ls ≡ read_lines room ks
  head_alike k h e a f =
      let j = first_of ls in
      let r = head_room room.nodes room.scopes j f in
      let n = r.0 in
      let s = r.1 in
      let z : k ≡ scopes_in j + (nodes_in j + suc (k - scopes_in j - nodes_in j - 1)) = omega arith in
      let d = lines_on room ls f in
      let c = lines_on room ks (rw (sym e) f) in
      d ∙ behind_alike room (kind_in j) (nodes_in j) (scopes_in j) (drop 1 ls) (drop 1 ks) (k - scopes_in j - nodes_in j - 1) (rw z at a) ∙ rw e (sym c)

  lines_whole : (k : ℕ) → 2051 ≤ k → Alike (suc k) ls ks → read_lines room ls ≡ read_lines room ks
  unfolding Alike
  lines_whole k h (inl a) = go (is_j room.nodes room.scopes (first_of ls)) refl
    where
      go : (t : Bool) → is_j room.nodes room.scopes (first_of ls) ≡ t → read_lines room ls ≡ read_lines room ks
      go true e = head_alike k h a.0 a.1 e
      go false e = lines_no room ls e ∙ sym (lines_no room ks (rw (sym a.0) e))
  lines_whole k h (inr a) = lines_no room ls (long_head (first_of ls) a.0 room.nodes room.scopes) ∙ sym (lines_no room ks (long_head (first_of ks) a.1 room.nodes room.scopes))

-- What is read is the same, however much stands behind the first `enough` bytes.
pub input_whole : (room : Room) (b : List ℕ) → read_input room (take enough b) ≡ read_input room b
input_whole room b = lines_whole room (lines_of (take enough b)) (lines_of b) 2051 (omega arith) (lines_alike 2052 enough b (omega arith))

-- where tables are read, each line up to X is
record Behind (room : Room) (kind nodes scopes : ℕ) (ls : List (List ℕ)) (n s : ℕ) : Type 0 where
  all_scopes : length (scope_lines scopes ls) ≡ scopes
  all_nodes : length (node_lines (min 1024 room.names) nodes (drop scopes ls)) ≡ nodes
  source : is_x room.source (first_of (drop nodes (drop scopes ls))) ≡ true
  few_nodes : n ≡ nodes * 10
  few_scopes : s ≡ scopes * 3

behind_told : (room : Room) (kind nodes scopes : ℕ) (ls : List (List ℕ)) (got : Tables) → (read_behind room kind nodes scopes ls).answer ≡ Ok got → Behind room kind nodes scopes ls got.nodes got.scopes
behind_told room kind nodes scopes ls got h = by (eqb (length ss) scopes) refl
  where
    ss : List (List ℕ)
    ss = scope_lines scopes ls

    ns : List (List ℕ)
    ns = node_lines (min 1024 room.names) nodes (drop scopes ls)

    l : List ℕ
    l = first_of (drop nodes (drop scopes ls))

    no : {A : Type 0} (i : ℕ) → ◌≡◌ {A = Result Tables Unread} (Err (unread i)) (Ok got) → A
    no i e = let z : ◌≡◌ {A = ℕ} 0 1 = cc in absurd (omega arith)

    by_source : length ss ≡ scopes → length ns ≡ nodes → (t : Bool) → is_x room.source l ≡ t → Behind room kind nodes scopes ls got.nodes got.scopes
    by_source f g true e =
        let d : (tables kind ss ns l).answer ≡ Ok got = sym (ap (λ (r : Reading). r.answer) (behind_all room kind nodes scopes ls f g e)) ∙ h in
        let r : sizes kind ss ns l ≡ got = cc in
        let p : length (nodes_of 0 ns) ≡ got.nodes = ap (λ (t : Tables). t.nodes) r in
        let q : length (scopes_of ss) ≡ got.scopes = ap (λ (t : Tables). t.scopes) r in
        let a = (nodes_sized (min 1024 room.names) nodes 0 (drop scopes ls)).size in
        let b = (scopes_sized scopes ls).size in
        record { all_scopes = f; all_nodes = g; source = e; few_nodes = omega arith; few_scopes = omega arith }
    by_source f g false e = no (2 + scopes + nodes) (sym (ap (λ (r : Reading). r.answer) (behind_source room kind nodes scopes ls f g e)) ∙ h)

    by_nodes : length ss ≡ scopes → (t : Bool) → eqb (length ns) nodes ≡ t → Behind room kind nodes scopes ls got.nodes got.scopes
    by_nodes f true e = by_source f (eqb-true (length ns) nodes e) (is_x room.source l) refl
    by_nodes f false e = no (2 + scopes + length ns) (sym (ap (λ (r : Reading). r.answer) (behind_nodes room kind nodes scopes ls f (λ g. never (sym (eq-eqb (length ns) nodes g) ∙ e)))) ∙ h)

    by : (t : Bool) → eqb (length ss) scopes ≡ t → Behind room kind nodes scopes ls got.nodes got.scopes
    by true e = by_nodes (eqb-true (length ss) scopes e) (eqb (length ns) nodes) refl
    by false e = no (2 + length ss) (sym (ap (λ (r : Reading). r.answer) (behind_scopes room kind nodes scopes ls (λ f. never (sym (eq-eqb (length ss) scopes f) ∙ e)))) ∙ h)

less_alike : (j k : ℕ) (ls ks : List (List ℕ)) → j ≤ k → Alike k ls ks → Alike j ls ks
unfolding Alike
less_alike zero k ls ks h a = tt
less_alike (suc j) zero ls ks h a = absurd (omega arith)
less_alike (suc j) (suc k) ls ks h (inl a) = inl (a.0, less_alike j k (drop 1 ls) (drop 1 ks) (omega arith) a.1)
less_alike (suc j) (suc k) ls ks h (inr a) = inr a

behind_lines : (ls : List (List ℕ)) (nodes scopes n s : ℕ) → n ≡ nodes * 10 → s ≡ scopes * 3 → drop 1 (drop nodes (drop scopes (drop 1 ls))) ≡ drop (lines_before n s) ls
behind_lines ls nodes scopes n s p q =
    let z : 1 + scopes + nodes + 1 ≡ lines_before n s = omega arith in
    rw (drop-drop scopes 1 ls, drop-drop nodes (1 + scopes) ls, drop-drop 1 (1 + scopes + nodes) ls, z)

-- and the lines behind X are alike
module _ (room : Room) (ls ks : List (List ℕ)) (got : Tables) where
  asked_on : (k : ℕ) → 2051 ≤ k → Alike k (drop 1 ls) (drop 1 ks) → is_j room.nodes room.scopes (first_of ls) ≡ true
      → (read_behind room (kind_in (first_of ls)) (nodes_in (first_of ls)) (scopes_in (first_of ls)) (drop 1 ls)).answer ≡ Ok got → Alike 2 (drop (lines_before got.nodes got.scopes) ls) (drop (lines_before got.nodes got.scopes) ks)
  asked_on k h a f e =
      let nodes = nodes_in (first_of ls) in
      let scopes = scopes_in (first_of ls) in
      let r = head_room room.nodes room.scopes (first_of ls) f in
      let r0 = r.0 in
      let r1 = r.1 in
      let t = behind_told room (kind_in (first_of ls)) nodes scopes (drop 1 ls) got e in
      let j : ℕ = k - scopes - nodes - 1 in
      let b = scopes_on scopes k (drop 1 ls) (drop 1 ks) (nodes + suc j) (omega arith) a t.all_scopes in
      let c = nodes_on nodes (nodes + suc j) (min 1024 room.names) (drop scopes (drop 1 ls)) (drop scopes (drop 1 ks)) (suc j) refl b t.all_nodes in
      let d = first_on j (drop nodes (drop scopes (drop 1 ls))) (drop nodes (drop scopes (drop 1 ks))) c (λ g. never (sym t.source ∙ long_source (first_of (drop nodes (drop scopes (drop 1 ls)))) g room.source)) in
      rw (sym (behind_lines ls nodes scopes got.nodes got.scopes t.few_nodes t.few_scopes), sym (behind_lines ks nodes scopes got.nodes got.scopes t.few_nodes t.few_scopes))
      (less_alike 2 j (drop 1 (drop nodes (drop scopes (drop 1 ls)))) (drop 1 (drop nodes (drop scopes (drop 1 ks)))) (omega arith) d.1)

  tables_on : (k : ℕ) → 2051 ≤ k → Alike (suc k) ls ks → (read_lines room ls).answer ≡ Ok got → Alike 2 (drop (lines_before got.nodes got.scopes) ls) (drop (lines_before got.nodes got.scopes) ks)
  unfolding Alike
  tables_on k h a e = by (is_j room.nodes room.scopes (first_of ls)) refl a
    where
      no : {A : Type 0} → ◌≡◌ {A = Result Tables Unread} (Err (unread 1)) (Ok got) → A
      no g = let z : ◌≡◌ {A = ℕ} 0 1 = cc in absurd (omega arith)

      by : (t : Bool) → is_j room.nodes room.scopes (first_of ls) ≡ t → Alike (suc k) ls ks → Alike 2 (drop (lines_before got.nodes got.scopes) ls) (drop (lines_before got.nodes got.scopes) ks)
      by true f (inl a) = asked_on k h a.1 f (sym (ap (λ (r : Reading). r.answer) (lines_on room ls f)) ∙ e)
      by true f (inr a) = never (sym f ∙ long_head (first_of ls) a.0 room.nodes room.scopes)
      by false f a = no (sym (ap (λ (r : Reading). r.answer) (lines_no room ls f)) ∙ e)

two_alike : (room : ℕ) (ls ks : List (List ℕ)) → Alike 2 ls ks → (two_of room ls ≡ two_of room ks) × (two_answers room ls ≡ two_answers room ks)
unfolding Alike two_of two_answers
two_alike room ls ks (inl (e, inl (f, a))) = rw (e, f) (refl, refl)
two_alike room ls ks (inl (e, inr (p, q))) = rw (e, long_answers (first_of (drop 1 ls)) p room, long_answers (first_of (drop 1 ks)) q room) (refl, refl)
two_alike room ls ks (inr (p, q)) = rw (long_unit (first_of ls) p, long_unit (first_of ks) q) (refl, refl)

asked_alike : (room : Room) (answers : ℕ) (ls ks : List (List ℕ)) → Alike 2052 ls ks → (i : Result Tables Unread) → (read_lines room ls).answer ≡ i → asked_by answers ls i ≡ asked_by answers ks i
asked_alike room answers ls ks a (Err k) e = asked_none answers ls k ∙ sym (asked_none answers ks k)
asked_alike room answers ls ks a (Ok got) e =
    let k = lines_before got.nodes got.scopes in
    let t = two_alike answers (drop k ls) (drop k ks) (tables_on room ls ks got 2051 (omega arith) a e) in
    asked_two answers ls got ∙ rw (t.0, t.1) (sym (asked_two answers ks got))

-- The same of what ruleroute reads.
pub route_whole : (room : Room) (answers : ℕ) (b : List ℕ) → read_route room answers (take enough b) ≡ read_route room answers b
route_whole room answers b =
    asked_alike room answers (lines_of (take enough b)) (lines_of b) (lines_alike 2052 enough b (omega arith)) (read_input room (take enough b)).answer refl
    ∙ ap (λ (d : Reading). asked_by answers (lines_of b) d.answer) (input_whole room b)
