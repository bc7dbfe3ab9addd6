-- Small tables, computed.
use Rattle.std.specs.Prelude.{ℕ, ◌≡◌, refl, List, [], ◌∷◌, true, false}
use Rattle.base_walk.specs.Above.{above, climb}
use Rattle.table_ancestry.specs.Ancestry.{nearest_of}
use Rattle.refusal_return.specs.Return.{return_in_static}

-- kind, parent, role
abbrev node : ℕ → ℕ → ℕ → List ℕ → List ℕ
node kind parent role l = kind ∷ parent ∷ role ∷ 0 ∷ 0 ∷ 0 ∷ 0 ∷ 0 ∷ 0 ∷ 0 ∷ l

-- `class { static { { return } } }`
static_return : return_in_static (node 0 0 0 (node 26 0 3 (node 27 1 0 (node 3 2 0 (node 5 3 3 (node 20 4 3 [])))))) 5 ≡ true
unfolding return_in_static nearest_of above climb
static_return = refl

-- `class { static { function f() { return } } }`
function_return : return_in_static (node 0 0 0 (node 26 0 3 (node 27 1 0 (node 3 2 0 (node 1 3 3 (node 4 4 0 (node 20 5 3 []))))))) 6 ≡ false
unfolding return_in_static nearest_of above climb
function_return = refl
