use native.Mathlib.Omega.{arith}
use Rattle.std.proofs.Common.{sym, ◌∙◌}
use Rattle.table_records.specs.Table.{count, count_scopes, IsTableSize}
use Rattle.refusal_verdict.proofs.VerdictLaws.{cleared}
use Rattle.refusal_fields.proofs.FieldsLaws.{sizes_of}
use Rattle.refusal_tree.proofs.TreeLaws.{tree_of}
use Rattle.refusal_scopes.proofs.ScopesLaws.{chained_of, scoped_of}
use Rattle.refusal_input.proofs.refusal.Goals as goal

-- Rattle finds these three too, but looks for them for four seconds
pub invariant_of-nodes : goal.invariant_of-nodes
invariant_of-nodes c =
    let s : IsTableSize (count c.args.nodes.now) = (sizes_of _ _ _ _ _ (sym c.wrong_sizes.ensures ∙ c.if-wrong_sizes.false)).nodes in
    grind (arith, cleared, tree_of)

pub invariant_of-scopes : goal.invariant_of-scopes
invariant_of-scopes c =
    let s : IsTableSize (count_scopes c.args.scopes.now) = (sizes_of _ _ _ _ _ (sym c.wrong_sizes.ensures ∙ c.if-wrong_sizes.false)).scopes in
    grind (arith, cleared, chained_of)

pub shape_refusal-requires : goal.shape_refusal-requires
shape_refusal-requires c =
    let s : IsTableSize (count_scopes c.args.scopes.now) = (sizes_of _ _ _ _ _ (sym c.wrong_sizes.ensures ∙ c.if-wrong_sizes.false)).scopes in
    grind (arith, cleared, chained_of, scoped_of)
