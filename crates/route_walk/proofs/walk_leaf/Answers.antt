use mathlib.Core.Path.{sym}
use Rattle.route_walk.proofs.WalkLaws.{ends_as}
use Rattle.route_walk.proofs.walk_leaf.Goals as goal

pub returns : goal.returns
returns c = λ qs h. ends_as _ _ _ _ _ _ _ (sym c.completion_of.ensures.result_value) c.completion_of.ensures.label_in (c.list.ensures _ h)
