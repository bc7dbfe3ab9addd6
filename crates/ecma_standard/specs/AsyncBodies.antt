-- THE STANDARD'S RULES WITH THE OPTION ON ASYNC AND GENERATOR BODIES ON (document 02, request 8): of well-formed tables, for every telling of the functions that are async or generators
-- that agrees with the flag 8192 on each Function. With the option off the findings are the Rust's, of all tables: `off` (crates/check_dispatch/proofs/ReportedLaws.antt).
use Rattle.std.specs.Prelude.{ℕ, ◌<◌, ◌≡◌, refl, List, [], ◌∷◌, ◌++◌, true, false, not, ◌&&◌, ◌||◌, eqb}
use Rattle.std.proofs.Common.{ap, sym, ◌∙◌}
use Rattle.base_common.specs.Upto.{all}
use Rattle.base_common.specs.Tests.{within}
use Rattle.base_walk.specs.On.{member}
use Rattle.table_records.specs.Table.{count}
use Rattle.refusal_verdict.specs.Verdict.{Passed}
use Rattle.refusal_input.specs.Input.{input_refusal}
use Rattle.refusal_input.proofs.InputLaws.{input_well_formed}
use Rattle.check_dispatch.specs.Findings.{findings_at, findings_of}
use Rattle.check_dispatch.specs.Rule.{Rule}
use Rattle.check_dispatch.specs.Reported.{reported_at, reported}
use Rattle.ecma_trees.specs.Walk.{some, only}
use Rattle.ecma_dispatch.specs.WithCode.{with_code, without_code}
use Rattle.ecma_dispatch.specs.NodesOf.{nodes_of, raised}
use Rattle.ecma_dispatch.proofs.NodesOfLaws.{raised_again}
use Rattle.ecma_dispatch.proofs.OptionLaws.{without34, at34, other_at, codes_on_listed}
use Rattle.ecma_base.specs.Strict.{strict_code}
use Rattle.ecma_base.specs.Telling.{Telling}
use Rattle.ecma_statements.specs.Functions.{annex_holder, function_misplaced, function_misplaced_else, labelled_function_at}
use Rattle.ecma_strict.specs.Bodies.{Flagged}
use Rattle.ecma_strict.proofs.BodiesLaws.{code34, standard16on, functions_on}
use Rattle.check_bodies.specs.Bodies.{async_bodies_at}

module _ (told : Telling) (r : Rule) where
  abbrev pub at : ℕ → ℕ → List ℕ
  at c n = raised c (reported_at r n)

  pub record OptionOn : Type 0 where
    -- "turning it on adds exactly these": without 34 the findings are those with the option off; with any other code they are the same at each node, so that every rule of Standard.antt holds of them
    pub dropped : without_code 34 (reported r) ≡ findings_of r.source_type r.nodes r.scopes r.source r.names
    pub others : (c : ℕ) → member c (34 ∷ []) ≡ false → (n : ℕ) → with_code c (reported_at r n) ≡ with_code c (findings_at r.source_type r.nodes r.scopes r.source r.names n)
    pub codes : all (λ f. within f.code 1 35) (reported r) ≡ true
    -- 14.6, 14.7, 14.11, 14.13, B.3.1, B.3.3, in sloppy code: 16 where no exception of Annex B applies, and for a labelled function; ..
    pub sloppy_functions : (n : ℕ) → n < count r.nodes → strict_code r.nodes r.scopes n ≡ false
        → at 16 n
        ≡ only ((not (annex_holder r.nodes r.scopes n) && function_misplaced told r.nodes r.scopes n) || labelled_function_at r.nodes n) n
        ++ only (not (annex_holder r.nodes r.scopes n) && function_misplaced_else told r.nodes r.scopes n) n
    -- .. 34 where one would, but not for an async function or a generator
    pub async_functions : Flagged told r.nodes → (n : ℕ) → n < count r.nodes
        → at 34 n
        ≡ only (annex_holder r.nodes r.scopes n && function_misplaced told r.nodes r.scopes n) n
        ++ only (annex_holder r.nodes r.scopes n && function_misplaced_else told r.nodes r.scopes n) n
    -- 15, 16 and 34, in strict code and in sloppy code: some finding just where some rule is broken
    pub functions : Flagged told r.nodes → (n : ℕ) → n < count r.nodes
        → some (at 15 n ++ (at 16 n ++ at 34 n))
        ≡ ((function_misplaced told r.nodes r.scopes n || labelled_function_at r.nodes n) || function_misplaced_else told r.nodes r.scopes n)

  -- THE THEOREM
  pub option_on : input_refusal r.source_type r.nodes r.scopes r.source r.names ≡ Passed → eqb r.async_bodies 0 ≡ false → OptionOn
  option_on e on =
      let w = input_well_formed r.source_type r.nodes r.scopes r.source r.names e in
      record {
        dropped = without34 r;
        others = other_at r;
        codes = codes_on_listed r;
        sloppy_functions = λ n h s. same 16 refl n ∙ standard16on r.source_type r.nodes r.scopes r.source r.names w n h told s;
        async_functions = λ f n h. bodies34 n ∙ code34 told r.nodes r.scopes n f;
        functions = λ f n h.
            rw (same 15 refl n, same 16 refl n, bodies34 n) (functions_on r.source_type r.nodes r.scopes r.source r.names w n h told f);
      }
    where
      same : (c : ℕ) → member c (34 ∷ []) ≡ false → (n : ℕ) → at c n ≡ raised c (findings_at r.source_type r.nodes r.scopes r.source r.names n)
      same c q n = ap nodes_of (other_at r c q n)

      bodies34 : (n : ℕ) → at 34 n ≡ raised 34 (async_bodies_at r.nodes r.scopes n)
      bodies34 n = sym (raised_again 34 (reported_at r n)) ∙ ap (raised 34) (at34 r n) ∙ rw on
