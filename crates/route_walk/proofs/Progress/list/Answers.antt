use mathlib.Core.Path.{refl}
use Rattle.route_completion.specs.Sem.{normal}
use Rattle.route_walk.proofs.WalkLaws.{lists}
use Rattle.route_walk.proofs.Progress.list.Goals as goal

pub returns : goal.returns
returns c = λ s h. lists s _ _ c.args.n.0 normal _ refl c.add-self.ensures.written c.add-self.ensures.counted refl h refl tt
