-- What the first part from a node on is to a walk: with it the parts behind it.
use Rattle.std.specs.Prelude.{ℕ, ◌<◌, ◌≡◌, List, [], ◌∷◌, Option, Some, None}
use Rattle.std.proofs.Common.{refl, sym, ap}
use Rattle.std.specs.Option.{is_some}
use Rattle.base_common.proofs.Bools.{never}
use Rattle.table_records.specs.declared.NodeId.{NodeId}
use Rattle.code_tree.specs.First.{first_of}
use Rattle.code_tree.specs.Parts.{parts}
use Rattle.code_shapes.proofs.SearchLaws.{next_is}
use Rattle.route_steps.specs.Steps.{First}

none_first : (ps : List ℕ) → None ≡ first_of ps → ps ≡ []
none_first [] q = refl
none_first (c ∷ cs) q = never (sym (ap is_some q))

pub first_is : (ns : List ℕ) (p i : ℕ) (m : Option NodeId) → p < i → m ≡ first_of (parts ns p i) → First ns p (parts ns p i) m
first_is ns p i None h q = none_first (parts ns p i) q
first_is ns p i (Some c) h q = let r = next_is ns p i c.0 h q in (r.is, r.part)
