-- 8.2.1 BoundNames on a table in which the PropertyName, the BindingElement and the Initializer of a declaration are each a BindingIdentifier.
use Rattle.std.specs.Prelude.{ℕ, ◌≡◌, refl, List, [], ◌∷◌, true}
use Rattle.base_common.specs.Upto.{upto, range}
use Rattle.table_children.specs.Children.{keep, children}
use Rattle.ecma_trees.specs.Rose.{kids, others, forest, parts_of}
use Rattle.ecma_contains.specs.Contains.{unbound}
use Rattle.ecma_contains.specs.BoundNames.{bound_names, bound_names_of}

abbrev declaration : List ℕ
declaration =
    0 ∷ 0 ∷ 0 ∷ 0 ∷ 9 ∷ 0 ∷ 0 ∷ 0 ∷ 0 ∷ 0
    ∷ 24 ∷ 0 ∷ 3 ∷ 0 ∷ 9 ∷ 0 ∷ 0 ∷ 1 ∷ 0 ∷ 0
    ∷ 25 ∷ 1 ∷ 0 ∷ 1 ∷ 9 ∷ 0 ∷ 256 ∷ 0 ∷ 0 ∷ 0
    ∷ 55 ∷ 2 ∷ 0 ∷ 1 ∷ 5 ∷ 0 ∷ 0 ∷ 0 ∷ 0 ∷ 0
    ∷ 55 ∷ 3 ∷ 0 ∷ 1 ∷ 5 ∷ 0 ∷ 0 ∷ 0 ∷ 0 ∷ 0
    ∷ 31 ∷ 4 ∷ 2 ∷ 1 ∷ 2 ∷ 0 ∷ 0 ∷ 0 ∷ 0 ∷ 0
    ∷ 31 ∷ 4 ∷ 1 ∷ 3 ∷ 4 ∷ 0 ∷ 0 ∷ 0 ∷ 0 ∷ 0
    ∷ 31 ∷ 2 ∷ 1 ∷ 6 ∷ 7 ∷ 0 ∷ 0 ∷ 0 ∷ 0 ∷ 0
    ∷ []

-- the BindingElement alone is bound
pub element_bound : bound_names_of declaration (parts_of declaration 1) (λ j. true) ≡ 6 ∷ []
unfolding bound_names bound_names_of unbound upto range keep children kids others forest parts_of
element_bound = refl
