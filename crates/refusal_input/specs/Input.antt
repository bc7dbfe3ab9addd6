-- The refusal of the input: document 01, "Turned down: the input", and document 02, requests 4 and 5. "Tables and their tree are well-formed exactly if none of 1-6 turns them
-- down"; "Well-formed tables are free of both" 13 and 14, and "free of 15 too": they are those of which `input_refusal` is `Passed`.
use Rattle.std.specs.Prelude.{ℕ, List, cond, Err}
use Rattle.table_records.specs.Table.{count, count_scopes}
use Rattle.check_supers.specs.Super.{fails_at}
use Rattle.refusal_verdict.specs.declared.Refused.TheVariants.{At}
use Rattle.refusal_verdict.specs.Verdict.{Verdict, Passed, or_next}
use Rattle.refusal_verdict.specs.First.{first}
use Rattle.refusal_verdict.specs.declared.Refusal.TheVariants as refusal
use Rattle.refusal_fields.specs.Fields.{wrong_sizes, unlisted_at, stray_at}
use Rattle.refusal_tree.specs.Tree.{misplaced_at}
use Rattle.refusal_scopes.specs.Scopes.{broken_at, misscoped_at}
use Rattle.refusal_standing.specs.Standing.{misplaced_child_at}
use Rattle.refusal_counts.specs.Counts.{wrong_count_at}
use Rattle.refusal_return.specs.Return.{return_in_static}

-- 1, 2, 3, 4, 5 (scope records, then nodes), or else what comes after them. The place of 1 is 0.
unfoldable pub tables_or : ℕ → List ℕ → List ℕ → List ℕ → List ℕ → Verdict → Verdict
tables_or source_type ns ss source names later =
    cond (wrong_sizes source_type ns ss source names) (Err (At refusal.Sizes 0))
    (or_next refusal.Unlisted (first (unlisted_at source_type ns) 0 (count ns))
    (or_next refusal.Tree (first (misplaced_at ns) 0 (count ns))
    (or_next refusal.Bytes (first (stray_at ns source names) 0 (count ns))
    (or_next refusal.Scopes (first (broken_at ss) 0 (count_scopes ss))
    (or_next refusal.Scopes (first (misscoped_at ns ss) 0 (count ns)) later)))))

-- The shape of the tree, each test over the whole of it and given with its lowest node.
-- 13: "A node under a parent that may not hold it, or of a kind or role that this parent doesn't take, gets its own number."
-- 14: "A child missing or too many gets another, at the parent."
-- 6: "Keep 6 for the walks that the Rust ends in a failure", at the Super.
-- 15: "(return in a static block) in every call, place the return node, checked after 6"
unfoldable pub shape_refusal : List ℕ → List ℕ → Verdict
shape_refusal ns ss =
    or_next refusal.Misplaced (first (misplaced_child_at ns) 0 (count ns))
    (or_next refusal.WrongCount (first (wrong_count_at ns) 0 (count ns))
    (or_next refusal.Walk (first (fails_at ns ss) 0 (count ns))
    (or_next refusal.ReturnInStatic (first (return_in_static ns) 0 (count ns)) Passed)))

-- "13 (holder or role), then 14 (number of children), each over the whole tree, after 5 and before 6"
unfoldable pub input_refusal : ℕ → List ℕ → List ℕ → List ℕ → List ℕ → Verdict
input_refusal source_type ns ss source names = tables_or source_type ns ss source names (shape_refusal ns ss)
