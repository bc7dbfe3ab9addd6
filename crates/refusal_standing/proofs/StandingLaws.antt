-- What is known where no child is misplaced.
use Rattle.std.specs.Prelude.{ℕ, ◌≤◌, ◌<◌, ◌≡◌, List, true, false, ◌&&◌, ◌||◌, ◌⊎◌, None}
use Rattle.std.proofs.Math.Path.{ap}
use Rattle.std.proofs.Common.{sym, subst, ◌∙◌, eq-or-lt_of_le, arith}
use Rattle.std.proofs.Math.Logic.{inl, inr, ⊎_elim}
use borrow.Author.Tests.{eq-eqb, lt-ltb, eqb-true}
use Rattle.std.proofs.Math.Dec.{eqb}
use Rattle.base_common.specs.Tests.{within}
use Rattle.base_common.proofs.UptoLaws.{and_left_lem, and_right_lem}
use Rattle.base_common.proofs.Bools.{never, or3, or4, or5, either, but, in_range_lem, range_of}
use Rattle.table_records.specs.Table.{kind_of, role_of, count}
use Rattle.table_records.specs.Facts.{Tree}
use Rattle.table_records.specs.Kinds as k
use Rattle.table_records.specs.Roles as r
use Rattle.refusal_verdict.specs.First.{first}
use Rattle.refusal_verdict.proofs.FirstLaws.{first_none}
use Rattle.refusal_standing.specs.Standing.{is_statement, may_be_statement, is_holder, is_held, stray_statement, stray_held, stray_alternate, stray_in_switch, stray_case, try_part, stray_in_try, stray_clause, stray_in_clause, stray_function_body, stray_class_body, stray_element, stray_value, misplaced_statement, misplaced_part, misplaced_element, misplaced, misplaced_child_at, parent_kind, Placed}

both : (a b c d : ℕ) → (eqb a b && eqb c d) ≡ true → (a ≡ b) × (c ≡ d)
both a b c d e = (eqb-true a b (and_left_lem (eqb a b) (eqb c d) e), eqb-true c d (and_right_lem (eqb a b) (eqb c d) e))

pair : (a b c d : ℕ) → a ≡ b → c ≡ d → (eqb a b && eqb c d) ≡ true
pair a b c d p q = rw (eq-eqb a b p, eq-eqb c d q)

-- a child of a kind and a role that is not misplaced under a parent of kind `above`
module _ (kind role above : ℕ) (e : misplaced kind role above ≡ false) where
  groups : (misplaced_statement kind role above ≡ false) × (misplaced_part kind role above ≡ false) × (misplaced_element kind role above ≡ false)
  unfolding misplaced
  groups = or3 (misplaced_statement kind role above) (misplaced_part kind role above) (misplaced_element kind role above) e

  statements : (stray_statement kind role above ≡ false) × (stray_held kind role above ≡ false) × (stray_alternate role above ≡ false)
  unfolding misplaced_statement
  statements = or3 (stray_statement kind role above) (stray_held kind role above) (stray_alternate role above) groups.0

  part : (stray_in_switch kind role above ≡ false) × (stray_case kind role above ≡ false) × (stray_in_try kind role above ≡ false) × (stray_clause kind role above ≡ false) × (stray_in_clause kind role above ≡ false)
  unfolding misplaced_part
  part = or5 (stray_in_switch kind role above) (stray_case kind role above) (stray_in_try kind role above) (stray_clause kind role above) (stray_in_clause kind role above) groups.1

  elements : (stray_function_body kind above ≡ false) × (stray_class_body kind above ≡ false) × (stray_element kind above ≡ false) × (stray_value kind role above ≡ false)
  unfolding misplaced_element
  elements = or4 (stray_function_body kind above) (stray_class_body kind above) (stray_element kind above) (stray_value kind role above) groups.2

  statement_stands : is_statement kind ≡ true → (r.Held ≤ role) × (role ≤ r.Finally) × (is_holder above ≡ true)
  unfolding stray_statement
  statement_stands s =
      let w = but (is_statement kind) (is_held role && is_holder above) statements.0 s in
      let x = range_of role 3 5 (and_left_lem (is_held role) (is_holder above) w) in
      (x.0, x.1, and_right_lem (is_held role) (is_holder above) w)

  held_is_lem : r.Held ≤ role → role ≤ r.Finally → is_holder above ≡ true → (is_statement kind ≡ true) ⊎ ((may_be_statement kind ≡ true) ⊎ ((kind ≡ k.CatchClause) × (above ≡ k.Try)))
  unfolding stray_held
  held_is_lem p q h =
      ⊎_elim (λ s. inl s)
      (λ w. inr (⊎_elim (λ s. inl s) (λ s. inr (both kind 17 above 16 s)) (either (may_be_statement kind) (eqb kind 17 && eqb above 16) w)))
      (either (is_statement kind) (may_be_statement kind || (eqb kind 17 && eqb above 16))
      (but (is_held role && is_holder above) (is_statement kind || (may_be_statement kind || (eqb kind 17 && eqb above 16))) statements.1 (rw (in_range_lem role 3 5 p q, h))))

  holds_alternate : r.Alternate ≤ role → role ≤ r.Finally → (above ≡ k.Try) ⊎ ((above ≡ k.If) × (role ≡ r.Alternate))
  unfolding stray_alternate
  holds_alternate p q =
      ⊎_elim (λ s. inl (eqb-true above 16 s)) (λ s. inr (both above 12 role 4 s))
      (either (eqb above 16) (eqb above 12 && eqb role 4) (but (within role 4 5) (eqb above 16 || (eqb above 12 && eqb role 4)) statements.2 (in_range_lem role 4 5 p q)))

  switch_holds : above ≡ k.Switch → role ≡ r.Held → kind ≡ k.SwitchCase
  unfolding stray_in_switch
  switch_holds p q = eqb-true kind 15 (but (eqb above 14 && eqb role 3) (eqb kind 15) part.0 (pair above 14 role 3 p q))

  case_stands : kind ≡ k.SwitchCase → (above ≡ k.Switch) × (role ≡ r.Held)
  unfolding stray_case
  case_stands p = both above 14 role 3 (but (eqb kind 15) (eqb above 14 && eqb role 3) part.1 (eq-eqb kind 15 p))

  try_holds : above ≡ k.Try → r.Held ≤ role → role ≤ r.Finally → kind ≡ try_part role
  unfolding stray_in_try
  try_holds p a b = eqb-true kind (try_part role) (but (eqb above 16 && is_held role) (eqb kind (try_part role)) part.2 (rw (eq-eqb above 16 p, in_range_lem role 3 5 a b)))

  clause_stands : kind ≡ k.CatchClause → (above ≡ k.Try) × (role ≡ r.Alternate)
  unfolding stray_clause
  clause_stands p = both above 16 role 4 (but (eqb kind 17) (eqb above 16 && eqb role 4) part.3 (eq-eqb kind 17 p))

  clause_holds : above ≡ k.CatchClause → role ≡ r.Held → kind ≡ k.Block
  unfolding stray_in_clause
  clause_holds p q = eqb-true kind 5 (but (eqb above 17 && eqb role 3) (eqb kind 5) part.4 (pair above 17 role 3 p q))

  function_body_stands : kind ≡ k.FunctionBody → (k.Function ≤ above) × (above ≤ k.Arrow)
  unfolding stray_function_body
  function_body_stands p = range_of above 1 2 (but (eqb kind 4) (within above 1 2) elements.0 (eq-eqb kind 4 p))

  class_body_stands : kind ≡ k.ClassBody → above ≡ k.Class
  unfolding stray_class_body
  class_body_stands p = eqb-true above 26 (but (eqb kind 27) (eqb above 26) elements.1 (eq-eqb kind 27 p))

  element_stands : (within kind 28 30 || eqb kind 3) ≡ true → above ≡ k.ClassBody
  unfolding stray_element
  element_stands p = eqb-true above 27 (but (within kind 28 30 || eqb kind 3) (eqb above 27) elements.2 p)

  method_holds : above ≡ k.MethodDefinition → role ≡ r.Value → kind ≡ k.Function
  unfolding stray_value
  method_holds p q = eqb-true kind 1 (but (eqb above 28 && eqb role 1) (eqb kind 1) elements.3 (pair above 28 role 1 p q))

-- node 0 is a Program, under no other kind
module _ (ns : List ℕ) (t : Tree ns) where
  no_program : (i : ℕ) → (kind_of ns i ≡ 0 → ⊥) → 0 < i
  no_program i n = ⊎_elim (λ (q : 0 ≡ i). absurd (n (subst (λ (x : ℕ). kind_of ns x ≡ 0) q t.root))) (λ (h : 0 < i). h) (eq-or-lt_of_le (omega arith))

  not_under : (i : ℕ) → (parent_kind ns i ≡ 0 → ⊥) → 0 < i
  not_under i n =
      ⊎_elim (λ (q : 0 ≡ i). absurd (n (subst (λ (x : ℕ). parent_kind ns x ≡ 0) q (ap (kind_of ns) t.top ∙ t.root)))) (λ (h : 0 < i). h) (eq-or-lt_of_le (omega arith))

  statement_later : (i : ℕ) → is_statement (kind_of ns i) ≡ true → 0 < i
  unfolding is_statement
  statement_later i s = no_program i (λ q. never (sym s ∙ ap is_statement q))

  module _ (e : first (misplaced_child_at ns) 0 (count ns) ≡ None) where
    fine : (i : ℕ) → i < count ns → 0 < i → misplaced (kind_of ns i) (role_of ns i) (parent_kind ns i) ≡ false
    unfolding misplaced_child_at
    fine i l h = rw (lt-ltb 0 i h) at (first_none (misplaced_child_at ns) (count ns) 0 e i (omega arith) l)

    pub placed_of : Placed ns
    placed_of = record {
      stands = λ i l s. statement_stands (kind_of ns i) (role_of ns i) (parent_kind ns i) (fine i l (statement_later i s)) s;
      held = λ i h l. held_is_lem (kind_of ns i) (role_of ns i) (parent_kind ns i) (fine i l h);
      alternate = λ i h l. holds_alternate (kind_of ns i) (role_of ns i) (parent_kind ns i) (fine i l h);
      in_switch = λ i l p. switch_holds (kind_of ns i) (role_of ns i) (parent_kind ns i) (fine i l (not_under i (λ q. omega arith))) p;
      switch_case = λ i l p. case_stands (kind_of ns i) (role_of ns i) (parent_kind ns i) (fine i l (no_program i (λ q. omega arith))) p;
      in_try = λ i l p. try_holds (kind_of ns i) (role_of ns i) (parent_kind ns i) (fine i l (not_under i (λ q. omega arith))) p;
      clause = λ i l p. clause_stands (kind_of ns i) (role_of ns i) (parent_kind ns i) (fine i l (no_program i (λ q. omega arith))) p;
      in_clause = λ i l p. clause_holds (kind_of ns i) (role_of ns i) (parent_kind ns i) (fine i l (not_under i (λ q. omega arith))) p;
      function_body = λ i l p. function_body_stands (kind_of ns i) (role_of ns i) (parent_kind ns i) (fine i l (no_program i (λ q. omega arith))) p;
      class_body = λ i l p. class_body_stands (kind_of ns i) (role_of ns i) (parent_kind ns i) (fine i l (no_program i (λ q. omega arith))) p;
      element = λ i l p q. element_stands (kind_of ns i) (role_of ns i) (parent_kind ns i) (fine i l (no_program i (λ z. omega arith))) (rw (in_range_lem (kind_of ns i) 28 30 p q));
      static_block = λ i l p. element_stands (kind_of ns i) (role_of ns i) (parent_kind ns i) (fine i l (no_program i (λ q. omega arith))) (ap (λ (x : ℕ). within x 28 30 || eqb x 3) p);
      method_value = λ i l p. method_holds (kind_of ns i) (role_of ns i) (parent_kind ns i) (fine i l (not_under i (λ q. omega arith))) p;
    }
