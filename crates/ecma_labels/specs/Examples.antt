-- Both sides computed, on the tables of document 01's rows: the rules are broken at some nodes, and the changed one differs where it is said to.
use Rattle.std.specs.Prelude.{ℕ, ◌≡◌, refl, true, false, List, [], ◌∷◌}
use Rattle.base_walk.specs.Above.{above, climb}
use Rattle.table_names.specs.Name.{same, name_of}
use Rattle.table_records.specs.Kinds as k
use Rattle.table_records.specs.Roles as role
use Rattle.ecma_trees.specs.Rose.{kids, others, forest, parts_of}
use Rattle.ecma_trees.specs.Unit.{broken}
use Rattle.ecma_labels.specs.Labels.{label_in, contains_duplicate_labels, contains_undefined_continue_target, any_undefined_continue_target, label_rule, label_errors}
use Rattle.ecma_labels.specs.Breaches.{label_set_at, sets_at, in_loop, duplicate_label_at, undefined_continue_at, continue_not_nested_at}
use Rattle.ecma_labels.specs.Changed.{without, contains_undefined_nearest, any_undefined_nearest, nearest_at, undefined_nearest_at, plain_continue_not_nested_at, no_loop_at}

-- kind, parent, role, span, name; the scope, flags and extra are not looked at
abbrev pub row : ℕ → ℕ → ℕ → ℕ → ℕ → ℕ → ℕ → List ℕ → List ℕ
row kind parent r start end name len more = kind ∷ parent ∷ r ∷ start ∷ end ∷ 0 ∷ 0 ∷ 0 ∷ name ∷ len ∷ more

-- each name is `a`
abbrev pub aa : List ℕ
aa = 97 ∷ 97 ∷ 97 ∷ []

-- a: { continue a; }
abbrev pub block : List ℕ
block =
    row k.Program 0 role.Other 0 18 0 0
    (row k.Labeled 0 role.Held 0 18 0 0 (row k.LabelIdentifier 1 role.Label 0 1 0 1
    (row k.Block 1 role.Held 3 18 1 0
    (row k.Continue 3 role.Held 5 16 1 0 (row k.LabelIdentifier 4 role.Label 14 15 1 1 [])))))

-- switch(s){case c:continue;}
abbrev pub switch : List ℕ
switch =
    row k.Program 0 role.Other 0 27 0 0
    (row k.Switch 0 role.Held 0 27 0 0 (row k.IdentifierReference 1 role.Other 7 8 0 1
    (row k.SwitchCase 1 role.Held 10 26 0 0 (row k.IdentifierReference 3 role.Other 15 16 0 1
    (row k.Continue 3 role.Held 17 26 0 0 [])))))

-- a:while(t){a:{continue a;}}: the inner label decides, and not the outer one on a loop
abbrev pub twice : List ℕ
twice =
    row k.Program 0 role.Other 0 27 0 0
    (row k.Labeled 0 role.Held 0 27 0 0 (row k.LabelIdentifier 1 role.Label 0 1 0 1
    (row k.While 1 role.Held 2 27 0 0 (row k.IdentifierReference 3 role.Other 8 9 0 1
    (row k.Block 3 role.Held 10 27 0 0
    (row k.Labeled 5 role.Held 11 26 0 0 (row k.LabelIdentifier 6 role.Label 11 12 1 1
    (row k.Block 6 role.Held 13 26 0 0
    (row k.Continue 8 role.Held 14 25 0 0 (row k.LabelIdentifier 9 role.Label 23 24 2 1 []))))))))))

-- a: { continue a; }: 8.3.3 and 14.8.1 are broken at the continue, 22 alone is raised
pub block_833 : undefined_continue_at block aa 4 ≡ true
unfolding undefined_continue_at sets_at label_in parts_of kids others forest above climb same name_of
block_833 = refl

pub block_1481 : continue_not_nested_at block aa 4 ≡ true
unfolding continue_not_nested_at in_loop above climb
block_1481 = refl

pub block_changed : plain_continue_not_nested_at block aa 4 ≡ false
unfolding plain_continue_not_nested_at in_loop label_in parts_of kids others forest above climb
block_changed = refl

pub block_22 : no_loop_at block aa 4 ≡ true
unfolding no_loop_at undefined_nearest_at nearest_at without label_set_at label_in parts_of kids others forest above climb same name_of
block_22 = refl

-- switch(s){case c:continue;}
pub switch_1481 : continue_not_nested_at switch aa 5 ≡ true
unfolding continue_not_nested_at in_loop above climb
switch_1481 = refl

-- a:while(t){a:{continue a;}}: 8.3.3 is silent at the continue, the changed rule is not, and 8.3.1 has its error
pub twice_833 : any_undefined_continue_target twice aa (parts_of twice 0) ([], []) ≡ false
unfolding contains_undefined_continue_target label_in parts_of kids others forest same name_of
twice_833 = refl

pub twice_changed : any_undefined_nearest twice aa (parts_of twice 0) ([], []) ≡ true
unfolding contains_undefined_nearest without label_in parts_of kids others forest same name_of
twice_changed = refl

pub twice_831 : duplicate_label_at twice aa 6 ≡ true
unfolding duplicate_label_at label_set_at label_in parts_of kids others forest above climb same name_of
twice_831 = refl

pub twice_errors : label_errors twice aa ≡ true
unfolding label_errors label_rule broken contains_duplicate_labels label_in parts_of kids others forest same name_of
twice_errors = refl
