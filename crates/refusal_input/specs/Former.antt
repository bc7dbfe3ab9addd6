-- The refusal of the input as document 01 alone has it, before request 4: 6 for each fault of shape, at the lowest node. It is here for the law that the same tables are
-- well-formed (FormerLaws).
use Rattle.std.specs.Prelude.{ℕ, List, Bool, ◌||◌}
use Rattle.table_records.specs.Table.{count}
use Rattle.check_supers.specs.Super.{fails_at}
use Rattle.refusal_verdict.specs.Verdict.{Verdict, Passed, or_next}
use Rattle.refusal_verdict.specs.First.{first}
use Rattle.refusal_verdict.specs.declared.Refusal.TheVariants as refusal
use Rattle.refusal_standing.specs.Standing.{misplaced_child_at}
use Rattle.refusal_counts.specs.Counts.{wrong_count_at}
use Rattle.refusal_input.specs.Input.{tables_or}

-- 6. "Shape, at the lowest node (misplaced child, or parent with a wrong count)."
unfoldable pub misshapen_at : List ℕ → ℕ → Bool
misshapen_at ns i = misplaced_child_at ns i || wrong_count_at ns i

-- ".. Else, at its Super, a walk that the Rust ends in `unreachable!` or a failed `unwrap`."
unfoldable pub former_shape : List ℕ → List ℕ → Verdict
former_shape ns ss = or_next refusal.Walk (first (misshapen_at ns) 0 (count ns)) (or_next refusal.Walk (first (fails_at ns ss) 0 (count ns)) Passed)

-- 1 to 5 are what they were: "The lowest number wins, then the lowest place"
unfoldable pub former_refusal : ℕ → List ℕ → List ℕ → List ℕ → List ℕ → Verdict
former_refusal source_type ns ss source names = tables_or source_type ns ss source names (former_shape ns ss)
