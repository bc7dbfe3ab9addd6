-- What is known of tables that are not refused.
use Rattle.std.specs.Prelude.{ℕ, ◌≡◌, List}
use native.Mathlib.Omega.{arith}
use Rattle.table_records.specs.Table.{count, count_scopes}
use Rattle.check_supers.specs.Super.{fails_at}
use Rattle.refusal_verdict.specs.Verdict.{Passed}
use Rattle.refusal_verdict.specs.First.{first}
use Rattle.refusal_verdict.proofs.FirstLaws.{first_none}
use Rattle.refusal_verdict.specs.declared.Refusal.TheVariants as refusal
use Rattle.refusal_verdict.proofs.VerdictLaws.{passed, passed_test}
use Rattle.refusal_fields.specs.Fields.{wrong_sizes, unlisted_at, stray_at}
use Rattle.refusal_fields.proofs.FieldsLaws.{sizes_of, listed_of, sourced_of, named_of}
use Rattle.refusal_tree.specs.Tree.{misplaced_at}
use Rattle.refusal_tree.proofs.TreeLaws.{tree_of}
use Rattle.refusal_scopes.specs.Scopes.{broken_at, misscoped_at}
use Rattle.refusal_scopes.proofs.ScopesLaws.{chained_of, scoped_of}
use Rattle.refusal_standing.specs.Standing.{misplaced_child_at}
use Rattle.refusal_standing.proofs.StandingLaws.{placed_of}
use Rattle.refusal_counts.specs.Counts.{wrong_count_at}
use Rattle.refusal_counts.proofs.CountsLaws.{counted_of}
use Rattle.refusal_return.specs.Return.{return_in_static}
use Rattle.refusal_input.specs.Input.{tables_or, shape_refusal, input_refusal}
use Rattle.refusal_input.specs.WellFormed.{WellFormed}

module _ (source_type : ℕ) (ns ss source names : List ℕ) where
  pub input_well_formed : input_refusal source_type ns ss source names ≡ Passed → WellFormed source_type ns ss source names
  unfolding input_refusal tables_or shape_refusal
  input_well_formed e =
      let e1 = passed_test refusal.Sizes 0 (wrong_sizes source_type ns ss source names) _ e in
      let e2 = passed refusal.Unlisted (first (unlisted_at source_type ns) 0 (count ns)) _ e1.1 in
      let e3 = passed refusal.Tree (first (misplaced_at ns) 0 (count ns)) _ e2.1 in
      let e4 = passed refusal.Bytes (first (stray_at ns source names) 0 (count ns)) _ e3.1 in
      let e5 = passed refusal.Scopes (first (broken_at ss) 0 (count_scopes ss)) _ e4.1 in
      let e6 = passed refusal.Scopes (first (misscoped_at ns ss) 0 (count ns)) _ e5.1 in
      let e7 = passed refusal.Misplaced (first (misplaced_child_at ns) 0 (count ns)) _ e6.1 in
      let e8 = passed refusal.WrongCount (first (wrong_count_at ns) 0 (count ns)) _ e7.1 in
      let e9 = passed refusal.Walk (first (fails_at ns ss) 0 (count ns)) _ e8.1 in
      let e10 = passed refusal.ReturnInStatic (first (return_in_static ns) 0 (count ns)) _ e9.1 in
      let s = sizes_of source_type ns ss source names e1.0 in
      let t = tree_of ns s.nodes e3.0 in
      let o = sourced_of ns source names e4.0 in
      let c = chained_of ss s.scopes e5.0 in
      record {
        sizes = s;
        listed = listed_of source_type ns e2.0;
        input = record {
          tree = t;
          chained = c;
          scoped = scoped_of ns ss c e6.0;
          spanned = record { span = o.span; small = λ i l. let a = o.inside i l in let b = s.bytes in omega arith };
          named = named_of ns source names e4.0;
        };
        sourced = o;
        shaped = record { placed = placed_of ns t e7.0; counted = counted_of ns e8.0 };
        walks = λ i l. first_none (fails_at ns ss) (count ns) 0 e9.0 i (omega arith) l;
        returns = λ i l. first_none (return_in_static ns) (count ns) 0 e10.0 i (omega arith) l;
      }
