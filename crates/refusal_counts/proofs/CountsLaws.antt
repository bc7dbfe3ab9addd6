-- Laws of counting, and what is known where no node has a wrong number of children.
use Rattle.std.specs.Prelude.{ℕ, zero, suc, ◌+◌, ◌≤◌, ◌<◌, ◌≡◌, List, ◌∷◌, Bool, not, ◌&&◌, ◌||◌, eqb, ltb, None}
use Rattle.std.proofs.Math.Path.{refl}
use Rattle.std.proofs.Common.{sym, ◌∙◌, ⊎_elim}
use Rattle.std.proofs.Math.Bool.{true, false, cond}
use native.Mathlib.Omega.{arith}
use borrow.Author.Tests.{eq-eqb, ne_eqb, eqb-true, eqb-false, leb-true, ltb-false, not-false}
use Rattle.std.proofs.Math.Dec.{leb}
use Rattle.base_common.specs.Tests.{within}
use Rattle.std.proofs.Math.ListN.{length}
use Rattle.base_common.specs.Upto.{upto}
use Rattle.base_common.proofs.UptoLaws.{upto_nil, upto_cons}
use Rattle.base_common.proofs.Bools.{never, or_first, or_second, or3, or4, or5, in_range_lem}
use Rattle.base_walk.proofs.PreorderLaws.{no_child}
use Rattle.table_records.specs.Table.{kind_of, parent_of, count}
use Rattle.table_records.specs.Facts.{Tree}
use Rattle.table_records.specs.Kinds as k
use Rattle.table_records.specs.Roles as r
use Rattle.refusal_verdict.specs.First.{first}
use Rattle.refusal_verdict.proofs.FirstLaws.{first_none, le_or_lt}
use Rattle.table_children.specs.Children.{keep, how_many}
use Rattle.table_children.proofs.ChildrenLaws.{child_other}
use Rattle.refusal_counts.specs.Counts.{with_role, with_kind, labels, is_default, defaults, wrong_body, wrong_alternate, wrong_default, wrong_try, wrong_clause, wrong_label, wrong_function, wrong_class, wrong_value, wrong_element, wrong_statement, wrong_part, wrong_home, wrong_count_at, is_counted, Counted}

-- how many of the numbers from i up to n pass a test, as a loop meets them
unfoldable pub tally_by : (ℕ → Bool) → ℕ → ℕ → ℕ
tally_by q i n = length (keep q (upto i n))

module _ (q : ℕ → Bool) (n : ℕ) where
  pub by_turn : (i : ℕ) → i < n → tally_by q i n ≡ cond (q i) 1 0 + tally_by q (i + 1) n
  unfolding tally_by keep
  by_turn i h = rw (upto_cons i n h) (go (q i))
    where
      go : (x : Bool) → length (cond x (i ∷ keep q (upto (i + 1) n)) (keep q (upto (i + 1) n))) ≡ cond x 1 0 + length (keep q (upto (i + 1) n))
      go true = omega arith
      go false = omega arith

  pub by_end : (i : ℕ) → n ≤ i → tally_by q i n ≡ 0
  unfolding tally_by keep
  by_end i h = rw (upto_nil i n h)

  -- none, where none passes
  none_by : (f i : ℕ) → n ≤ i + f → ((j : ℕ) → i ≤ j → j < n → q j ≡ false) → tally_by q i n ≡ 0
  none_by zero i hf w = by_end i (omega arith)
  none_by (suc f) i hf w =
      ⊎_elim (λ (h : n ≤ i). by_end i h)
      (λ (h : i < n). by_turn i h ∙ rw (w i (omega arith) h) (omega (arith, none_by f (i + 1) (omega arith) (λ j x y. w j (omega arith) y))))
      (le_or_lt n i)

  pub by_none : (i : ℕ) → ((j : ℕ) → i ≤ j → j < n → q j ≡ false) → tally_by q i n ≡ 0
  by_none i w = none_by n i (omega arith) w

module _ (ns : List ℕ) (p : ℕ) where
  -- the defaults of p as a loop over the nodes behind it counts them
  pub defaults_all : defaults ns p ≡ tally_by (is_default ns p) (p + 1) (count ns)
  unfolding defaults tally_by
  defaults_all = refl

  -- past the nodes below p there is no case of p
  pub defaults_out : Tree ns → (i : ℕ) → p < i → i < count ns → parent_of ns i < p → tally_by (is_default ns p) i (count ns) ≡ 0
  unfolding is_default
  defaults_out t i h l u = by_none (is_default ns p) (count ns) i
      (λ j x y. rw (child_other ns p 15 15 3 3 j (λ e. no_child (parent_of ns) (count ns) t.order p i j h u x y e)))

pub outside : (k lo hi : ℕ) → (lo ≤ k → k ≤ hi → ⊥) → within k lo hi ≡ false
outside k lo hi n = go (leb lo k) (leb k hi) refl refl
  where
    go : (x y : Bool) → leb lo k ≡ x → leb k hi ≡ y → (x && y) ≡ false
    go true true e f = absurd (n (leb-true lo k e) (leb-true k hi f))
    go true false e f = refl
    go false y e f = refl

-- no sentence counts the children of a kind past AccessorProperty
module _ (ns : List ℕ) (i : ℕ) (h : k.AccessorProperty < kind_of ns i) where
  past : (lo hi : ℕ) → hi ≤ 30 → within (kind_of ns i) lo hi ≡ false
  past lo hi l = outside (kind_of ns i) lo hi (λ x y. omega arith)

  other : (j : ℕ) → j ≤ 30 → eqb (kind_of ns i) j ≡ false
  other j l = ne_eqb (kind_of ns i) j (λ e. omega arith)

  pub uncounted : wrong_count_at ns i ≡ false
  unfolding wrong_count_at wrong_statement wrong_part wrong_home wrong_body wrong_alternate wrong_label wrong_default wrong_try wrong_clause wrong_function wrong_class wrong_element
  uncounted =
      rw (past 6 13 (omega arith), other 12 (omega arith), other 6 (omega arith), past 18 19 (omega arith), other 14 (omega arith), other 16 (omega arith), other 17 (omega arith), past 1 2 (omega arith), other 26 (omega arith), past 28 30 (omega arith))

-- .. nor those of a kind that is not `is_counted`
narrow : (n lo hi a b : ℕ) → lo ≤ a → b ≤ hi → within n lo hi ≡ false → within n a b ≡ false
narrow n lo hi a b p q e = outside n a b (λ x y. never (sym (in_range_lem n lo hi (omega arith) (omega arith)) ∙ e))

single : (n lo hi j : ℕ) → lo ≤ j → j ≤ hi → within n lo hi ≡ false → eqb n j ≡ false
single n lo hi j p q e = ne_eqb n j (λ d. never (sym (in_range_lem n lo hi (omega arith) (omega arith)) ∙ e))

pub uncounted_kind : (ns : List ℕ) (i : ℕ) → is_counted (kind_of ns i) ≡ false → wrong_count_at ns i ≡ false
unfolding is_counted wrong_count_at wrong_statement wrong_part wrong_home wrong_body wrong_alternate wrong_label wrong_default wrong_try wrong_clause wrong_function wrong_class wrong_element
uncounted_kind ns i e =
    let n = kind_of ns i in
    let w = or5 (within n 1 2) (within n 6 14) (within n 16 19) (eqb n 26) (within n 28 30) e in
    let statement = single n 6 14 in
    let part = single n 16 19 in
    rw
    (narrow n 6 14 6 13 (omega arith) (omega arith) w.1, statement 12 (omega arith) (omega arith) w.1, statement 6 (omega arith) (omega arith) w.1, narrow n 16 19 18 19 (omega arith) (omega arith) w.2, statement 14 (omega arith) (omega arith) w.1, part 16 (omega arith) (omega arith) w.2, part 17 (omega arith) (omega arith) w.2, w.0, w.3, w.4)

one_of_lem : (n : ℕ) → not (eqb n 1) ≡ false → n ≡ 1
one_of_lem n e = eqb-true n 1 (not-false (eqb n 1) e)

module _ (ns : List ℕ) (e : first (wrong_count_at ns) 0 (count ns) ≡ None) (i : ℕ) (l : i < count ns) where
  groups : (wrong_statement ns i ≡ false) × (wrong_part ns i ≡ false) × (wrong_home ns i ≡ false)
  unfolding wrong_count_at
  groups = or3 (wrong_statement ns i) (wrong_part ns i) (wrong_home ns i) (first_none (wrong_count_at ns) (count ns) 0 e i (omega arith) l)

  of_statement : (wrong_body ns i ≡ false) × (wrong_alternate ns i ≡ false) × (wrong_label ns i ≡ false)
  unfolding wrong_statement
  of_statement = or3 (wrong_body ns i) (wrong_alternate ns i) (wrong_label ns i) groups.0

  of_part : (wrong_default ns i ≡ false) × (wrong_try ns i ≡ false) × (wrong_clause ns i ≡ false)
  unfolding wrong_part
  of_part = or3 (wrong_default ns i) (wrong_try ns i) (wrong_clause ns i) groups.1

  of_home : (wrong_function ns i ≡ false) × (wrong_class ns i ≡ false) × (wrong_element ns i ≡ false)
  unfolding wrong_home
  of_home = or3 (wrong_function ns i) (wrong_class ns i) (wrong_element ns i) groups.2

  label_one_lem : kind_of ns i ≡ k.Labeled → labels ns i ≡ 1
  unfolding wrong_label
  label_one_lem p = one_of_lem (labels ns i) (rw (eq-eqb (kind_of ns i) 6 p) at of_statement.2)

  label_most : k.Break ≤ kind_of ns i → kind_of ns i ≤ k.Continue → labels ns i ≤ 1
  unfolding wrong_label
  label_most p q = ltb-false 1 (labels ns i) (rw (ne_eqb (kind_of ns i) 6 (λ z. omega arith), in_range_lem (kind_of ns i) 18 19 p q) at of_statement.2)

  tries : kind_of ns i ≡ k.Try → (not (eqb (with_role ns i r.Held) 1) ≡ false) × (ltb 1 (with_role ns i r.Alternate) ≡ false) × (ltb 1 (with_role ns i r.Finally) ≡ false) × (eqb (how_many ns i 0 55 r.Alternate r.Finally) 0 ≡ false)
  unfolding wrong_try
  tries p =
      or4 (not (eqb (with_role ns i 3) 1)) (ltb 1 (with_role ns i 4)) (ltb 1 (with_role ns i 5)) (eqb (how_many ns i 0 55 4 5) 0)
      (rw (eq-eqb (kind_of ns i) 16 p) at of_part.1)

  element : k.MethodDefinition ≤ kind_of ns i → kind_of ns i ≤ k.AccessorProperty → (not (eqb (with_role ns i r.Key) 1) || wrong_value ns i) ≡ false
  unfolding wrong_element
  element p q = rw (in_range_lem (kind_of ns i) 28 30 p q) at of_home.2

  value_one : kind_of ns i ≡ k.MethodDefinition → wrong_value ns i ≡ false → with_role ns i r.Value ≡ 1
  unfolding wrong_value
  value_one p w = one_of_lem (with_role ns i 1) (rw (eq-eqb (kind_of ns i) 28 p) at w)

  value_most : wrong_value ns i ≡ false → with_role ns i r.Value ≤ 1
  unfolding wrong_value
  value_most w = go (eqb (kind_of ns i) 28) w
    where
      go : (x : Bool) → cond x (not (eqb (with_role ns i 1) 1)) (ltb 1 (with_role ns i 1)) ≡ false → with_role ns i 1 ≤ 1
      go true w = omega (arith, one_of_lem (with_role ns i 1) w)
      go false w = ltb-false 1 (with_role ns i 1) w

pub counted_of : (ns : List ℕ) → first (wrong_count_at ns) 0 (count ns) ≡ None → Counted ns
unfolding wrong_body wrong_alternate wrong_default wrong_clause wrong_function wrong_class
counted_of ns e = record {
  body = λ i l p q. one_of_lem (with_role ns i 3) (rw (in_range_lem (kind_of ns i) 6 13 p q) at (of_statement ns e i l).0);
  alternate = λ i l p. ltb-false 1 (with_role ns i 4) (rw (eq-eqb (kind_of ns i) 12 p) at (of_statement ns e i l).1);
  label = λ i l. label_one_lem ns e i l;
  jump = λ i l. label_most ns e i l;
  one_default = λ i l p. ltb-false 1 (defaults ns i) (rw (eq-eqb (kind_of ns i) 14 p) at (of_part ns e i l).0);
  try_block = λ i l p. one_of_lem (with_role ns i 3) (tries ns e i l p).0;
  try_clause = λ i l p. ltb-false 1 (with_role ns i 4) (tries ns e i l p).1;
  try_finally = λ i l p. ltb-false 1 (with_role ns i 5) (tries ns e i l p).2;
  try_either = λ i l p. eqb-false (how_many ns i 0 55 4 5) 0 (tries ns e i l p).3;
  clause_block = λ i l p. one_of_lem (with_role ns i 3) (rw (eq-eqb (kind_of ns i) 17 p) at (of_part ns e i l).2);
  function_body = λ i l p q. ltb-false 1 (with_kind ns i 4) (rw (in_range_lem (kind_of ns i) 1 2 p q) at (of_home ns e i l).0);
  class_body = λ i l p. one_of_lem (with_kind ns i 27) (rw (eq-eqb (kind_of ns i) 26 p) at (of_home ns e i l).1);
  key = λ i l p q. one_of_lem (with_role ns i 2) (or_first (not (eqb (with_role ns i 2) 1)) (wrong_value ns i) (element ns e i l p q));
  value = λ i l p q. value_most ns e i l (or_second (not (eqb (with_role ns i 2) 1)) (wrong_value ns i) (element ns e i l p q));
  method = λ i l p. value_one ns e i l p (or_second (not (eqb (with_role ns i 2) 1)) (wrong_value ns i) (element ns e i l (omega arith) (omega arith)));
}
