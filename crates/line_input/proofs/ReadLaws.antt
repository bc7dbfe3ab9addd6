-- Scope lines and node lines read one a turn, and what is written of them.
use Prim.Native.Nat.{ℕ, zero, suc, ◌+◌, ◌-◌, ◌*◌, ◌≤◌, ◌<◌}
use Rattle.std.specs.Prelude.{◌≡◌, Bool, cond, leb, set, take, drop}
use Rattle.std.proofs.Math.Path.{refl, ap, subst}
use Rattle.std.proofs.Common.{sym, ◌∙◌, length-append, length-take-le}
use Rattle.std.proofs.Math.Bool.{true, false}
use mathlib.Core.List.{List, [], ◌∷◌, ◌++◌}
use native.Mathlib.Omega.{arith}
use Rattle.std.proofs.Math.ListN.{length}
use Rattle.std.proofs.lemmas.List.{length-map}
use Rattle.std.proofs.lemmas.List.Edits.{sets-eq}
use borrow.Author.Tests.{le-leb, lt-leb, leb-true}
use Rattle.base_common.proofs.Bools.{never}
use Rattle.base_common.specs.Wrote.{Wrote, put}
use Rattle.base_common.proofs.WroteLaws.{wrote_put, length_put}
use Rattle.line_digits.specs.Number.{value_of}
use Rattle.table_put.proofs.Writes.{wrote_done, put_put}
use Rattle.line_fields.specs.Split.{fields_of}
use Rattle.line_forms.specs.Forms.{lettered, rest, numbers_of, is_numbers, is_s, is_n, name_of}
use Rattle.line_input.specs.Format.{leading, named, scope_lines, node_lines, scopes_of, names_of, node_of, nodes_of, front, first_of, NodesRead}
use Rattle.line_forms.proofs.FormLaws.{numbers_told, node_told, rest_tail}

empty_letter : (c : ℕ) → lettered c [] ≡ false
unfolding lettered fields_of
empty_letter c = refl

pub empty_numbers : (c n : ℕ) → is_numbers c n [] ≡ false
unfolding is_numbers
empty_numbers c n = rw (empty_letter c)

empty_node : is_n [] ≡ false
unfolding is_n
empty_node = rw (empty_letter 78)

-- scope lines
module _ (n : ℕ) where
  pub scopes_turn : (ls : List (List ℕ)) → 0 < n → is_s (first_of ls) ≡ true → scope_lines n ls ≡ first_of ls ∷ scope_lines (n - 1) (drop 1 ls)
  unfolding scope_lines leading
  scopes_turn [] h e = never (sym e ∙ empty_numbers 83 3)
  scopes_turn (l ∷ ls) h e =
      let k : n ≡ suc (n - 1) = omega arith in
      ap (λ (m : ℕ). leading is_s (take m (l ∷ ls))) k ∙ rw e

  pub scopes_bad : (ls : List (List ℕ)) → is_s (first_of ls) ≡ false → scope_lines n ls ≡ []
  unfolding scope_lines leading
  scopes_bad ls e = go n ls e
    where
      go : (m : ℕ) (ks : List (List ℕ)) → is_s (first_of ks) ≡ false → leading is_s (take m ks) ≡ []
      go zero ks e = refl
      go (suc m) [] e = refl
      go (suc m) (l ∷ ks) e = rw e

  pub scopes_none : (ls : List (List ℕ)) → n ≡ 0 → scope_lines n ls ≡ []
  unfolding scope_lines leading
  scopes_none ls e = rw e

scopes_cons : (l : List ℕ) (ls : List (List ℕ)) → scopes_of (l ∷ ls) ≡ numbers_of (rest l) ++ scopes_of ls
unfolding scopes_of
scopes_cons l ls = refl

pub scopes_nil : scopes_of [] ≡ []
unfolding scopes_of
scopes_nil = refl

three : (l : List ℕ) → is_s l ≡ true → length (numbers_of (rest l)) ≡ 3
three l e = length-map (rest l) value_of ∙ ap length (rest_tail l) ∙ (numbers_told 83 3 l e).0

pub record ScopesSized (n : ℕ) (ss : List (List ℕ)) : Type 0 where
  pub few : length ss ≤ n
  pub size : length (scopes_of ss) ≡ length ss * 3

pub scopes_sized : (n : ℕ) (ls : List (List ℕ)) → ScopesSized n (scope_lines n ls)
unfolding scope_lines leading scopes_of
scopes_sized zero ls = record { few = omega arith; size = refl }
scopes_sized (suc n) [] = record { few = omega arith; size = refl }
scopes_sized (suc n) (l ∷ ls) = go (is_s l) refl (scopes_sized n ls)
  where
    go : (t : Bool) → is_s l ≡ t → ScopesSized n (leading is_s (take n ls)) → ScopesSized (suc n) (cond t (l ∷ leading is_s (take n ls)) [])
    go true e z =
        let f = z.few in
        let g = z.size in
        record { few = omega arith; size = omega (arith, length-append (numbers_of (rest l)) (scopes_of (leading is_s (take n ls))), three l e) }
    go false e z = record { few = omega arith; size = refl }

-- i of the lines are read: those that are still to read, and how far the table is written
pub record Scoping (s₀ s : List ℕ) (count : ℕ) (whole : List (List ℕ)) (i : ℕ) (ls : List (List ℕ)) : Type 0 where
  pub few : i ≤ count
  pub lines : i + length (scope_lines (count - i) ls) ≡ length whole
  pub table : Wrote s₀ s (i * 3) (scopes_of (scope_lines (count - i) ls)) (scopes_of whole)

pub scoping_start : (s₀ : List ℕ) (count : ℕ) (ls : List (List ℕ)) → count * 3 ≤ length s₀ → Scoping s₀ s₀ count (scope_lines count ls) 0 ls
scoping_start s₀ count ls h =
    let z = scopes_sized count ls in
    let f = z.few in
    let g = z.size in
    let k : count - 0 ≡ count = omega arith in
    record { few = omega arith; lines = rw k (omega arith); table = rw k (record { same = refl; room = omega arith; head = refl; tail = refl }) }

module _ (s₀ s : List ℕ) (count : ℕ) (whole : List (List ℕ)) (i : ℕ) (ls : List (List ℕ)) (o : Scoping s₀ s count whole i ls) where
  pub scoping_turn : i < count → is_s (first_of ls) ≡ true → Scoping s₀ (put s (i * 3) (numbers_of (rest (first_of ls)))) count whole (i + 1) (drop 1 ls)
  scoping_turn h e =
      let l = first_of ls in
      let t = scopes_turn (count - i) ls (omega arith) e in
      let k : count - i - 1 ≡ count - (i + 1) = omega arith in
      let n = three l e in
      let m = o.lines in
      let q : length (scope_lines (count - i) ls) ≡ suc (length (scope_lines (count - (i + 1)) (drop 1 ls))) = ap length t ∙ rw k in
      let w : scopes_of (scope_lines (count - i) ls) ≡ numbers_of (rest l) ++ scopes_of (scope_lines (count - (i + 1)) (drop 1 ls)) = ap scopes_of t ∙ scopes_cons l (scope_lines (count - i - 1) (drop 1 ls)) ∙ rw k in
      let p : Wrote s₀ s (i * 3) (numbers_of (rest l) ++ scopes_of (scope_lines (count - (i + 1)) (drop 1 ls))) (scopes_of whole) = subst (λ (v : List ℕ). Wrote s₀ s (i * 3) v (scopes_of whole)) w o.table in
      let a : i * 3 + length (numbers_of (rest l)) ≡ (i + 1) * 3 = omega arith in
      record { few = omega arith; lines = omega arith; table = subst (λ (v : ℕ). Wrote s₀ (put s (i * 3) (numbers_of (rest l))) v (scopes_of (scope_lines (count - (i + 1)) (drop 1 ls))) (scopes_of whole)) a (wrote_put s₀ s (i * 3) (numbers_of (rest l)) (scopes_of (scope_lines (count - (i + 1)) (drop 1 ls))) (scopes_of whole) p) }

  pub scoping_done : scope_lines (count - i) ls ≡ [] → (i ≡ length whole) × (s ≡ front (scopes_of whole) s₀)
  scoping_done e =
      let m = o.lines in
      let q : length (scope_lines (count - i) ls) ≡ 0 = ap length e in
      (omega arith, (wrote_done s₀ s (i * 3) (scopes_of whole) (rw (e, scopes_nil) at o.table)).1)

-- node lines
module _ (room n : ℕ) where
  pub nodes_turn : (ls : List (List ℕ)) → 0 < n → is_n (first_of ls) ≡ true → length (name_of (first_of ls)) ≤ room
      → node_lines room n ls ≡ first_of ls ∷ node_lines (room - length (name_of (first_of ls))) (n - 1) (drop 1 ls)
  unfolding node_lines leading named
  nodes_turn [] h e f = never (sym e ∙ empty_node)
  nodes_turn (l ∷ ls) h e f =
      let k : n ≡ suc (n - 1) = omega arith in
      ap (λ (m : ℕ). named room (leading is_n (take m (l ∷ ls)))) k ∙ rw (e, le-leb (length (name_of l)) room f)

  pub nodes_bad : (ls : List (List ℕ)) → is_n (first_of ls) ≡ false → node_lines room n ls ≡ []
  unfolding node_lines leading named
  nodes_bad ls e = go n ls e
    where
      go : (m : ℕ) (ks : List (List ℕ)) → is_n (first_of ks) ≡ false → named room (leading is_n (take m ks)) ≡ []
      go zero ks e = refl
      go (suc m) [] e = refl
      go (suc m) (l ∷ ks) e = rw e

  pub nodes_full : (ls : List (List ℕ)) → is_n (first_of ls) ≡ true → room < length (name_of (first_of ls)) → node_lines room n ls ≡ []
  unfolding node_lines leading named
  nodes_full ls e h = go n ls e h
    where
      go : (m : ℕ) (ks : List (List ℕ)) → is_n (first_of ks) ≡ true → room < length (name_of (first_of ks)) → named room (leading is_n (take m ks)) ≡ []
      go zero ks e h = refl
      go (suc m) [] e h = refl
      go (suc m) (l ∷ ks) e h = rw (e, lt-leb (length (name_of l)) room h)

  pub nodes_none : (ls : List (List ℕ)) → n ≡ 0 → node_lines room n ls ≡ []
  unfolding node_lines leading named
  nodes_none ls e = rw e

nodes_cons : (start : ℕ) (l : List ℕ) (ls : List (List ℕ)) → nodes_of start (l ∷ ls) ≡ node_of start l ++ nodes_of (start + length (name_of l)) ls
unfolding nodes_of
nodes_cons start l ls = refl

pub nodes_nil_lem : (start : ℕ) → nodes_of start [] ≡ []
unfolding nodes_of
nodes_nil_lem start = refl

names_cons : (l : List ℕ) (ls : List (List ℕ)) → names_of (l ∷ ls) ≡ name_of l ++ names_of ls
unfolding names_of
names_cons l ls = refl

pub names_nil : names_of [] ≡ []
unfolding names_of
names_nil = refl

pub eight : (l : List ℕ) → is_n l ≡ true → length (numbers_of (take 8 (rest l))) ≡ 8
eight l e =
    let t : 9 ≤ length (rest l) = rw (rest_tail l) (node_told l e).0 in
    length-map (take 8 (rest l)) value_of ∙ length-take-le 8 (rest l) (omega arith)

ten : (start : ℕ) (l : List ℕ) → is_n l ≡ true → length (node_of start l) ≡ 10
ten start l e = length-append (numbers_of (take 8 (rest l))) (start ∷ length (name_of l) ∷ []) ∙ omega (arith, eight l e)

pub record NodesSized (room n start : ℕ) (ns : List (List ℕ)) : Type 0 where
  pub few : length ns ≤ n
  pub size : length (nodes_of start ns) ≡ length ns * 10
  pub fit : length (names_of ns) ≤ room

pub nodes_sized : (room n start : ℕ) (ls : List (List ℕ)) → NodesSized room n start (node_lines room n ls)
unfolding node_lines leading named nodes_of names_of
nodes_sized room zero start ls = record { few = omega arith; size = refl; fit = omega arith }
nodes_sized room (suc n) start [] = record { few = omega arith; size = refl; fit = omega arith }
nodes_sized room (suc n) start (l ∷ ls) = go (is_n l) refl (leb (length (name_of l)) room) refl (nodes_sized (room - length (name_of l)) n (start + length (name_of l)) ls)
  where
    go : (t : Bool) → is_n l ≡ t → (u : Bool) → leb (length (name_of l)) room ≡ u
        → NodesSized (room - length (name_of l)) n (start + length (name_of l)) (named (room - length (name_of l)) (leading is_n (take n ls)))
        → NodesSized room (suc n) start (named room (cond t (l ∷ leading is_n (take n ls)) []))
    go false e u f z = record { few = omega arith; size = refl; fit = omega arith }
    go true e true f z =
        let a = z.few in
        let b = z.size in
        let d = z.fit in
        let h = leb-true (length (name_of l)) room f in
        let ns = named (room - length (name_of l)) (leading is_n (take n ls)) in
        rw f (record {
          few = omega arith;
          size = omega (arith, length-append (node_of start l) (nodes_of (start + length (name_of l)) ns), ten start l e);
          fit = omega (arith, length-append (name_of l) (names_of ns));
        })
    go true e false f z = rw f (record { few = omega arith; size = refl; fit = omega arith })

-- i of the lines are read, and their names take `used` bytes: how far both tables are written
pub record Noding (n₀ n m₀ m : List ℕ) (room count : ℕ) (whole : List (List ℕ)) (i used : ℕ) (ls : List (List ℕ)) : Type 0 where
  pub few : i ≤ count
  pub small : used ≤ room
  pub lines : i + length (node_lines (room - used) (count - i) ls) ≡ length whole
  pub table : Wrote n₀ n (i * 10) (nodes_of used (node_lines (room - used) (count - i) ls)) (nodes_of 0 whole)
  pub names : Wrote m₀ m used (names_of (node_lines (room - used) (count - i) ls)) (names_of whole)

pub noding_start : (n₀ m₀ : List ℕ) (room count : ℕ) (ls : List (List ℕ)) → count * 10 ≤ length n₀ → room ≤ length m₀
    → Noding n₀ n₀ m₀ m₀ room count (node_lines room count ls) 0 0 ls
noding_start n₀ m₀ room count ls h g =
    let z = nodes_sized room count 0 ls in
    let a = z.few in
    let b = z.size in
    let d = z.fit in
    let k : count - 0 ≡ count = omega arith in
    let j : room - 0 ≡ room = omega arith in
    record {
      few = omega arith;
      small = omega arith;
      lines = rw (k, j) (omega arith);
      table = rw (k, j) (record { same = refl; room = omega arith; head = refl; tail = refl });
      names = rw (k, j) (record { same = refl; room = omega arith; head = refl; tail = refl });
    }

module _ (n₀ n m₀ m : List ℕ) (room count : ℕ) (whole : List (List ℕ)) (i used : ℕ) (ls : List (List ℕ)) (o : Noding n₀ n m₀ m room count whole i used ls) where
  more : List (List ℕ)
  more = node_lines (room - (used + length (name_of (first_of ls)))) (count - (i + 1)) (drop 1 ls)

  turned : i < count → is_n (first_of ls) ≡ true → length (name_of (first_of ls)) ≤ room - used → node_lines (room - used) (count - i) ls ≡ first_of ls ∷ more
  unfolding more
  turned h e f =
      let k : count - i - 1 ≡ count - (i + 1) = omega arith in
      let j : room - used - length (name_of (first_of ls)) ≡ room - (used + length (name_of (first_of ls))) = omega arith in
      nodes_turn (room - used) (count - i) ls (omega arith) e f ∙ rw (k, j)

  pub noding_turn : i < count → is_n (first_of ls) ≡ true → length (name_of (first_of ls)) ≤ room - used
      → Noding n₀ (put n (i * 10) (node_of used (first_of ls))) m₀ (put m used (name_of (first_of ls))) room count whole (i + 1) (used + length (name_of (first_of ls))) (drop 1 ls)
  unfolding more
  noding_turn h e f =
      let l = first_of ls in
      let t = turned h e f in
      let b = o.lines in
      let g = o.small in
      let q : length (node_lines (room - used) (count - i) ls) ≡ suc (length more) = ap length t in
      let u : nodes_of used (node_lines (room - used) (count - i) ls) ≡ node_of used l ++ nodes_of (used + length (name_of l)) more = ap (nodes_of used) t ∙ nodes_cons used l more in
      let v : names_of (node_lines (room - used) (count - i) ls) ≡ name_of l ++ names_of more = ap names_of t ∙ names_cons l more in
      let p : Wrote n₀ n (i * 10) (node_of used l ++ nodes_of (used + length (name_of l)) more) (nodes_of 0 whole) = subst (λ (x : List ℕ). Wrote n₀ n (i * 10) x (nodes_of 0 whole)) u o.table in
      let r : Wrote m₀ m used (name_of l ++ names_of more) (names_of whole) = subst (λ (x : List ℕ). Wrote m₀ m used x (names_of whole)) v o.names in
      let a : i * 10 + length (node_of used l) ≡ (i + 1) * 10 = omega (arith, ten used l e) in
      record {
        few = omega arith;
        small = omega arith;
        lines = omega arith;
        table = subst (λ (x : ℕ). Wrote n₀ (put n (i * 10) (node_of used l)) x (nodes_of (used + length (name_of l)) more) (nodes_of 0 whole)) a (wrote_put n₀ n (i * 10) (node_of used l) (nodes_of (used + length (name_of l)) more) (nodes_of 0 whole) p);
        names = wrote_put m₀ m used (name_of l) (names_of more) (names_of whole) r;
      }

  pub noding_done : node_lines (room - used) (count - i) ls ≡ [] → NodesRead whole n₀ m₀ i used n m
  noding_done e =
      let b = o.lines in
      let q : length (node_lines (room - used) (count - i) ls) ≡ 0 = ap length e in
      let r = wrote_done m₀ m used (names_of whole) (rw (e, names_nil) at o.names) in
      record { count = omega arith; size = r.0; nodes = (wrote_done n₀ n (i * 10) (nodes_of 0 whole) (rw (e, nodes_nil_lem) at o.table)).1; names = r.1 }

  -- room for a record, and for the name
  pub noding_room : i < count → is_n (first_of ls) ≡ true → length (name_of (first_of ls)) ≤ room - used → (i * 10 + 10 ≤ length n) × (used + length (name_of (first_of ls)) ≤ length m)
  noding_room h e f =
      let l = first_of ls in
      let t = turned h e f in
      let u : nodes_of used (node_lines (room - used) (count - i) ls) ≡ node_of used l ++ nodes_of (used + length (name_of l)) more = ap (nodes_of used) t ∙ nodes_cons used l more in
      let v : names_of (node_lines (room - used) (count - i) ls) ≡ name_of l ++ names_of more = ap names_of t ∙ names_cons l more in
      let a = ap length u ∙ length-append (node_of used l) (nodes_of (used + length (name_of l)) more) in
      let b = ap length v ∙ length-append (name_of l) (names_of more) in
      let p = o.table.room in
      let q = o.table.same in
      let x = o.names.room in
      let y = o.names.same in
      (omega (arith, ten used l e), omega arith)

-- a node's ten numbers, eight of them written first
pub node_put : (f : List ℕ) (w a b : ℕ) (vs : List ℕ) → length vs ≡ 8 → w + 10 ≤ length f → set (set (put f w vs) (w + 8) a) (w + 9) b ≡ put f w (vs ++ a ∷ b ∷ [])
node_put f w a b vs e h =
    let g = put f w vs in
    let lg : length g ≡ length f = length_put f w vs (omega arith) in
    let s : w + 9 ≡ suc (w + 8) = omega arith in
    let k : w + 8 ≡ w + length vs = omega arith in
    rw (s, k) (sets-eq (a ∷ b ∷ []) g (w + length vs) (omega arith) ∙ put_put f w vs (a ∷ b ∷ []) (omega arith))

-- .. the last one by the place behind
pub node_put_on : (f : List ℕ) (w a b : ℕ) (vs : List ℕ) → length vs ≡ 8 → w + 10 ≤ length f → set (set (put f w vs) (w + 8) a) (w + 8 + 1) b ≡ put f w (vs ++ a ∷ b ∷ [])
node_put_on f w a b vs e h =
    let g = put f w vs in
    let lg : length g ≡ length f = length_put f w vs (omega arith) in
    let s : w + 8 + 1 ≡ suc (w + 8) = omega arith in
    let k : w + 8 ≡ w + length vs = omega arith in
    rw (s, k) (sets-eq (a ∷ b ∷ []) g (w + length vs) (omega arith) ∙ put_put f w vs (a ∷ b ∷ []) (omega arith))

-- a turn, with what the code has in the place of each
pub noding_again : (n₀ n m₀ m : List ℕ) (room count : ℕ) (whole : List (List ℕ)) (i used : ℕ) (ls : List (List ℕ)) → Noding n₀ n m₀ m room count whole i used ls
    → i < count → is_n (first_of ls) ≡ true → length (name_of (first_of ls)) ≤ room - used
    → (n' m' : List ℕ) (used' : ℕ) (ls' : List (List ℕ)) → n' ≡ put n (i * 10) (node_of used (first_of ls)) → m' ≡ put m used (name_of (first_of ls)) → used' ≡ used + length (name_of (first_of ls)) → ls' ≡ drop 1 ls
    → Noding n₀ n' m₀ m' room count whole (i + 1) used' ls'
noding_again n₀ n m₀ m room count whole i used ls o h e f n' m' used' ls' a b c d =
    rw (a, b, c, d) (noding_turn n₀ n m₀ m room count whole i used ls o h e f)
