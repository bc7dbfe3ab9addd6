use Rattle.code_instructions.proofs.PartLaws.{case_in, case_last}
use mathlib.Core.Path.{sym, subst, ap, ◌∙◌}
use Rattle.code_tree.specs.First.{first_of}
use Rattle.code_branch.specs.Branch.{Laid}
use Rattle.code_instructions.proofs.next_case.Goals as goal

pub is_last-requires-clause-n_value : goal.is_last-requires-clause-n_value
is_last-requires-clause-n_value c = let A = subst Laid c.laid.view_is c.laid.invariant in case_in A c.args.n.0 c.requires.b_lt_n c.requires.n_bound c.requires.n_value c.requires.n_value_2 c.args.c.0 c.requires.part

pub returns-then-is_last : goal.returns-then-is_last
returns-then-is_last c = let A = subst Laid c.laid.view_is c.laid.invariant in sym (ap first_of (case_last A c.args.n.0 c.requires.b_lt_n c.requires.n_bound c.requires.n_value c.requires.n_value_2 c.args.c.0 c.requires.part (sym c.is_last.ensures ∙ c.if-is_last.true)))
