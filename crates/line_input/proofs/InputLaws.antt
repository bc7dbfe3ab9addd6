-- The whole input, in the order in which it is read.
use Rattle.std.specs.Prelude.{Some, None, Result, Ok, Err, ℕ, ◌+◌, ◌*◌, ◌≤◌, Bool, ◌&&◌, List, [], ◌∷◌, map, eqb, length, get_or, drop}
use Rattle.std.proofs.Math.Path.{◌≡◌, refl}
use Rattle.std.proofs.Common.{ap, sym, ◌∙◌, append-nil, arith, drop_of_length-le}
use Rattle.std.proofs.Math.Bool.{true, false, cond, and-false}
use Rattle.std.proofs.lemmas.List.{length-map}
use borrow.Author.Tests.{eq-eqb, ne_eqb, eqb-true}
use Rattle.base_common.proofs.Bools.{never}
use Rattle.base_common.proofs.UptoLaws.{and_left_lem, and_right_lem}
use Rattle.base_common.specs.Wrote.{put}
use Rattle.line_digits.specs.Hex.{is_hex, bytes_of}
use Rattle.line_digits.specs.Number.{value_of}
use Rattle.line_fields.specs.Split.{field_of, firsts}
use Rattle.line_input.specs.declared.Head.{Head}
use Rattle.line_input.specs.declared.Tables.{Tables}
use Rattle.line_input.specs.declared.Unread.{Unread}
use Rattle.line_forms.specs.Forms.{lettered, rest, numbers_of, is_numbers, fits, kind_in, nodes_in, scopes_in, is_j, is_x, source_of, tail_of}
use Rattle.line_input.specs.Format.{unread, sizes, nodes_of, scopes_of, names_of, Room, Reading, stopped, tables, ss_in, ns_in, x_in, read_behind, read_lines, front, Given, first_of, head_in, head_of, Gives}
use Rattle.line_forms.proofs.FormLaws.{rest_tail, numbers_told, source_field, fits_told}
use Rattle.line_input.proofs.ReadLaws.{nodes_nil_lem, scopes_nil, names_nil, empty_numbers}

module _ (nodes scopes : ℕ) (l : List ℕ) where
  pub head_numbers : is_numbers 74 3 l ≡ false → head_of nodes scopes l ≡ None
  unfolding head_of is_j
  head_numbers e = rw e

  pub head_nodes : fits (nodes_in l) 10 nodes ≡ false → head_of nodes scopes l ≡ None
  unfolding head_of is_j
  head_nodes e = rw (e, and-false (is_numbers 74 3 l))

  pub head_scopes : is_numbers 74 3 l ≡ true → fits (nodes_in l) 10 nodes ≡ true → fits (scopes_in l) 3 scopes ≡ false → head_of nodes scopes l ≡ None
  unfolding head_of is_j
  head_scopes e f g = rw (e, f, g)

  pub head_is_lem : is_numbers 74 3 l ≡ true → fits (nodes_in l) 10 nodes ≡ true → fits (scopes_in l) 3 scopes ≡ true → head_of nodes scopes l ≡ Some (head_in l)
  unfolding head_of is_j
  head_is_lem e f g = rw (e, f, g)

-- the source's line
pub source_told : (room : ℕ) (l : List ℕ) → is_x room l ≡ true
    → (source_of l ≡ bytes_of (field_of (tail_of l))) × (is_hex (field_of (tail_of l)) ≡ true) × (length (bytes_of (field_of (tail_of l))) ≤ room)
unfolding is_x
source_told room l e =
    let h = get_or (rest l) 0 [] in
    let a = and_right_lem (lettered 88 l) (eqb (length (rest l)) 1 && (is_hex h && fits (length (bytes_of h)) 1 room)) e in
    let k : length (rest l) ≡ 1 = eqb-true (length (rest l)) 1 (and_left_lem (eqb (length (rest l)) 1) (is_hex h && fits (length (bytes_of h)) 1 room) a) in
    let b = and_right_lem (eqb (length (rest l)) 1) (is_hex h && fits (length (bytes_of h)) 1 room) a in
    let f = (fits_told (length (bytes_of h)) 1 room (and_right_lem (is_hex h) (fits (length (bytes_of h)) 1 room) b)).1 in
    let q : h ≡ field_of (tail_of l) = source_field room l (sym (ap length (rest_tail l)) ∙ k) in
    rw (sym q) (refl, and_left_lem (is_hex h) (fits (length (bytes_of h)) 1 room) b, omega arith)

-- three numbers written to an array of three
pub put_three : (f vs : List ℕ) → length f ≡ 3 → length vs ≡ 3 → put f 0 vs ≡ vs
put_three f vs h k =
    let e : drop (0 + length vs) f ≡ [] = drop_of_length-le f {i = 0 + length vs} (omega arith) in
    rw e (append-nil vs)

module _ (room : Room) (kind nodes scopes : ℕ) (ls : List (List ℕ)) where
  abbrev ss : List (List ℕ)
  ss = ss_in room kind nodes scopes ls

  abbrev ns : List (List ℕ)
  ns = ns_in room kind nodes scopes ls

  abbrev x : List ℕ
  x = x_in room kind nodes scopes ls

  pub behind_scopes : (length ss ≡ scopes → ⊥) → read_behind room kind nodes scopes ls ≡ stopped (2 + length ss) ss []
  unfolding read_behind
  behind_scopes h = rw (ne_eqb (length ss) scopes h)

  pub behind_nodes : length ss ≡ scopes → (length ns ≡ nodes → ⊥) → read_behind room kind nodes scopes ls ≡ stopped (2 + scopes + length ns) ss ns
  unfolding read_behind
  behind_nodes e h = rw (eq-eqb (length ss) scopes e, ne_eqb (length ns) nodes h)

  pub behind_source : length ss ≡ scopes → length ns ≡ nodes → is_x room.source x ≡ false → read_behind room kind nodes scopes ls ≡ stopped (2 + scopes + nodes) ss ns
  unfolding read_behind
  behind_source e h f = rw (eq-eqb (length ss) scopes e, eq-eqb (length ns) nodes h, f)

  pub behind_all : length ss ≡ scopes → length ns ≡ nodes → is_x room.source x ≡ true → read_behind room kind nodes scopes ls ≡ tables kind ss ns x
  unfolding read_behind
  behind_all e h f = rw (eq-eqb (length ss) scopes e, eq-eqb (length ns) nodes h, f)

-- the J line's three numbers in such an array
pub head_array : (l : List ℕ) → is_numbers 74 3 l ≡ true → (a f t : List ℕ) → length f ≡ 3 → t ≡ tail_of l → a ≡ put f 0 (map value_of (firsts 3 t)) → a ≡ numbers_of (rest l)
head_array l e a f t h q p =
    let n = numbers_told 74 3 l e in
    let r : map value_of (firsts 3 t) ≡ numbers_of (rest l) = ap (map value_of) (ap (firsts 3) q ∙ n.2) in
    let k : length (numbers_of (rest l)) ≡ 3 = length-map (rest l) value_of ∙ ap length (rest_tail l) ∙ n.0 in
    p ∙ ap (put f 0) r ∙ put_three f (numbers_of (rest l)) h k

-- reading stops at a line, or comes to its end
module _ (d : Reading) (n₀ s₀ x₀ m₀ n s x m : List ℕ) (ss ns : List (List ℕ)) where
  pub gives_scopes : (k k' : ℕ) → d ≡ stopped k ss [] → k' ≡ k → s ≡ front (scopes_of ss) s₀ → Gives d (Err (unread k')) n₀ s₀ x₀ m₀ n₀ s x₀ m₀
  gives_scopes k k' e h b =
      rw (e, h) (record { answer = refl; nodes = ap (λ (l : List ℕ). front l n₀) (sym (nodes_nil_lem 0)); scopes = b; source = refl; names = ap (λ (l : List ℕ). front l m₀) (sym names_nil) })

  pub gives_stopped : (k k' : ℕ) → d ≡ stopped k ss ns → k' ≡ k → s ≡ front (scopes_of ss) s₀ → n ≡ front (nodes_of 0 ns) n₀ → m ≡ front (names_of ns) m₀ → Gives d (Err (unread k')) n₀ s₀ x₀ m₀ n s x₀ m
  gives_stopped k k' e h b a c = rw (e, h) (record { answer = refl; nodes = a; scopes = b; source = refl; names = c })

  pub gives_tables : (kind : ℕ) (l : List ℕ) (t : Tables) → d ≡ tables kind ss ns l → t ≡ sizes kind ss ns l
      → s ≡ front (scopes_of ss) s₀ → n ≡ front (nodes_of 0 ns) n₀ → m ≡ front (names_of ns) m₀ → x ≡ front (source_of l) x₀
      → Gives d (Ok t) n₀ s₀ x₀ m₀ n s x m
  gives_tables kind l t q h f g o p = rw (q, h) (record { answer = refl; nodes = g; scopes = f; source = p; names = o })

empty_head : (nodes scopes : ℕ) → is_j nodes scopes [] ≡ false
unfolding is_j
empty_head nodes scopes = rw (empty_numbers 74 3)

-- the J line that can't be read
pub lines_no : (room : Room) (ls : List (List ℕ)) → is_j room.nodes room.scopes (first_of ls) ≡ false → read_lines room ls ≡ stopped 1 [] []
unfolding read_lines
lines_no room [] e = refl
lines_no room (j ∷ ls) e = rw e

pub lines_on : (room : Room) (ls : List (List ℕ)) → is_j room.nodes room.scopes (first_of ls) ≡ true
    → read_lines room ls ≡ read_behind room (kind_in (first_of ls)) (nodes_in (first_of ls)) (scopes_in (first_of ls)) (drop 1 ls)
unfolding read_lines
lines_on room [] e = never (sym e ∙ empty_head room.nodes room.scopes)
lines_on room (j ∷ ls) e = rw e

-- what the answer on the J line tells
module _ (nodes scopes : ℕ) (l : List ℕ) where
  pub head_none : head_of nodes scopes l ≡ None → is_j nodes scopes l ≡ false
  unfolding head_of
  head_none = go (is_j nodes scopes l)
    where
      go : (t : Bool) → cond t (Some (head_in l)) None ≡ None → t ≡ false
      go true e = let z : ◌≡◌ {A = ℕ} 0 1 = cc in absurd (omega arith)
      go false e = refl

  pub head_some_lem : (h : Head) → head_of nodes scopes l ≡ Some h → (is_j nodes scopes l ≡ true) × (h ≡ head_in l)
  unfolding head_of
  head_some_lem h = go (is_j nodes scopes l)
    where
      go : (t : Bool) → cond t (Some (head_in l)) None ≡ Some h → (t ≡ true) × (h ≡ head_in l)
      go true e = (refl, cc)
      go false e = let z : ◌≡◌ {A = ℕ} 0 1 = cc in absurd (omega arith)

  pub head_room : is_j nodes scopes l ≡ true → (nodes_in l ≤ 1024) × (scopes_in l ≤ 1024) × (nodes_in l * 10 ≤ nodes) × (scopes_in l * 3 ≤ scopes)
  unfolding is_j
  head_room e =
      let a = and_right_lem (is_numbers 74 3 l) (fits (nodes_in l) 10 nodes && fits (scopes_in l) 3 scopes) e in
      let p = fits_told (nodes_in l) 10 nodes (and_left_lem (fits (nodes_in l) 10 nodes) (fits (scopes_in l) 3 scopes) a) in
      let q = fits_told (scopes_in l) 3 scopes (and_right_lem (fits (nodes_in l) 10 nodes) (fits (scopes_in l) 3 scopes) a) in
      (p.0, q.0, p.1, q.1)

-- the parts, as the public contract has them
module _ (d d' : Reading) (r : Result Tables Unread) (n₀ s₀ x₀ m₀ n s x m : List ℕ) where
  pub gives_parts : d ≡ d' → Gives d r n₀ s₀ x₀ m₀ n s x m → (r ≡ d'.answer) × Given d' n₀ s₀ x₀ m₀ n s x m
  gives_parts e g = rw (sym e) (g.answer, record { nodes = g.nodes; scopes = g.scopes; source = g.source; names = g.names })

pub none_read : (n₀ s₀ x₀ m₀ : List ℕ) → Gives (stopped 1 [] []) (Err (unread 1)) n₀ s₀ x₀ m₀ n₀ s₀ x₀ m₀
none_read n₀ s₀ x₀ m₀ =
    record {
      answer = refl;
      nodes = ap (λ (l : List ℕ). front l n₀) (sym (nodes_nil_lem 0));
      scopes = ap (λ (l : List ℕ). front l s₀) (sym scopes_nil);
      source = refl;
      names = ap (λ (l : List ℕ). front l m₀) (sym names_nil);
    }

-- the counts that the code has of the J line, and the lines that it goes on with
pub lines_behind : (room : Room) (ls : List (List ℕ)) (h : Head) (l : List ℕ) (ks : List (List ℕ)) → l ≡ first_of ls → ks ≡ drop 1 ls → head_of room.nodes room.scopes l ≡ Some h
    → read_behind room h.kind h.nodes h.scopes ks ≡ read_lines room ls
lines_behind room ls h l ks e f g =
    let t = head_some_lem room.nodes room.scopes l h g in
    let j : is_j room.nodes room.scopes (first_of ls) ≡ true = rw (sym e) t.0 in
    rw (f, t.1, e) (sym (lines_on room ls j))
