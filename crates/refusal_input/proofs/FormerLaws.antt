-- Refusals 13, 14 and 6 together turn down what document 01's 6 alone did: the same tables are well-formed as before request 4, but for those that 15 (request 5) turns down.
use Rattle.std.specs.Prelude.{ℕ, ◌≡◌, List, ◌↔◌}
use Rattle.std.proofs.Common.{arith}
use Rattle.base_common.proofs.Bools.{or_first, or_second}
use Rattle.table_records.specs.Table.{count, count_scopes}
use Rattle.check_supers.specs.Super.{fails_at}
use Rattle.refusal_verdict.specs.Verdict.{Verdict, Passed}
use Rattle.refusal_verdict.specs.First.{first}
use Rattle.refusal_verdict.proofs.FirstLaws.{first_none, first_nowhere}
use Rattle.refusal_verdict.specs.declared.Refusal.TheVariants as refusal
use Rattle.refusal_verdict.proofs.VerdictLaws.{passed, pass_on_lem, pass_on_test}
use Rattle.refusal_fields.specs.Fields.{wrong_sizes, unlisted_at, stray_at}
use Rattle.refusal_tree.specs.Tree.{misplaced_at}
use Rattle.refusal_scopes.specs.Scopes.{broken_at, misscoped_at}
use Rattle.refusal_standing.specs.Standing.{misplaced_child_at}
use Rattle.refusal_counts.specs.Counts.{wrong_count_at}
use Rattle.refusal_return.specs.Return.{return_in_static}
use Rattle.refusal_input.specs.Input.{tables_or, shape_refusal, input_refusal}
use Rattle.refusal_input.proofs.InputLaws.{input_well_formed}
use Rattle.refusal_input.specs.WellFormed.{NoStaticReturn}
use Rattle.refusal_input.specs.Former.{misshapen_at, former_shape, former_refusal}

module _ (ns ss : List ℕ) where
  -- 13, 14 and 6 are nowhere exactly where the former 6 is nowhere; 15 is a condition of its own
  pub same_shape : (shape_refusal ns ss ≡ Passed) ↔ ((former_shape ns ss ≡ Passed) × NoStaticReturn ns)
  unfolding shape_refusal former_shape misshapen_at
  same_shape = (to, from)
    where
      to : shape_refusal ns ss ≡ Passed → (former_shape ns ss ≡ Passed) × NoStaticReturn ns
      to e =
          let a = passed refusal.Misplaced (first (misplaced_child_at ns) 0 (count ns)) _ e in
          let b = passed refusal.WrongCount (first (wrong_count_at ns) 0 (count ns)) _ a.1 in
          let c = passed refusal.Walk (first (fails_at ns ss) 0 (count ns)) _ b.1 in
          let d = passed refusal.ReturnInStatic (first (return_in_static ns) 0 (count ns)) _ c.1 in (
            rw (
              first_nowhere (misshapen_at ns) (count ns) 0 (λ j x y.
                  rw (first_none (misplaced_child_at ns) (count ns) 0 a.0 j x y, first_none (wrong_count_at ns) (count ns) 0 b.0 j x y)),
              c.0,
            ),
            λ i l. first_none (return_in_static ns) (count ns) 0 d.0 i (omega arith) l,
          )

      from : (former_shape ns ss ≡ Passed) × NoStaticReturn ns → shape_refusal ns ss ≡ Passed
      from q =
          let a = passed refusal.Walk (first (misshapen_at ns) 0 (count ns)) _ q.0 in
          let b = passed refusal.Walk (first (fails_at ns ss) 0 (count ns)) _ a.1 in
          rw (
            first_nowhere (misplaced_child_at ns) (count ns) 0 (λ j x y. or_first (misplaced_child_at ns j) (wrong_count_at ns j) (first_none (misshapen_at ns) (count ns) 0 a.0 j x y)),
            first_nowhere (wrong_count_at ns) (count ns) 0 (λ j x y. or_second (misplaced_child_at ns j) (wrong_count_at ns j) (first_none (misshapen_at ns) (count ns) 0 a.0 j x y)),
            b.0,
            first_nowhere (return_in_static ns) (count ns) 0 (λ j x y. q.1 j y),
          )

module _ (source_type : ℕ) (ns ss source names : List ℕ) where
  -- behind 1 to 5
  behind : (r s : Verdict) → (r ≡ Passed → s ≡ Passed) → tables_or source_type ns ss source names r ≡ Passed → tables_or source_type ns ss source names s ≡ Passed
  unfolding tables_or
  behind r s f =
      pass_on_test refusal.Sizes 0 (wrong_sizes source_type ns ss source names) _ _
      (pass_on_lem refusal.Unlisted (first (unlisted_at source_type ns) 0 (count ns)) _ _
      (pass_on_lem refusal.Tree (first (misplaced_at ns) 0 (count ns)) _ _
      (pass_on_lem refusal.Bytes (first (stray_at ns source names) 0 (count ns)) _ _
      (pass_on_lem refusal.Scopes (first (broken_at ss) 0 (count_scopes ss)) _ _
      (pass_on_lem refusal.Scopes (first (misscoped_at ns ss) 0 (count ns)) r s f)))))

  -- WELL-FORMED: BY DOCUMENT 01'S CONDITIONS, AND FREE OF 15
  pub same_well_formed : (input_refusal source_type ns ss source names ≡ Passed) ↔ ((former_refusal source_type ns ss source names ≡ Passed) × NoStaticReturn ns)
  unfolding input_refusal former_refusal
  same_well_formed = (
    λ e. (behind (shape_refusal ns ss) (former_shape ns ss) (λ x. ((same_shape ns ss).0 x).0) e, (input_well_formed source_type ns ss source names e).returns),
    λ q. behind (former_shape ns ss) (shape_refusal ns ss) (λ x. (same_shape ns ss).1 (x, q.1)) q.0,
  )
