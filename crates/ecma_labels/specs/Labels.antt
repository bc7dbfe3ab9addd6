-- ECMA-262, 8.3 Labels; 14.8 The continue Statement, 14.8.1 Static Semantics: Early Errors; 14.9 The break Statement, 14.9.1 Static Semantics: Early Errors; over the tree of a table.
-- They go through FunctionBody, Block, Labeled, For, ForIn, ForOf, While, DoWhile, If, With, Switch, SwitchCase, Try and CatchClause (kinds 4 to 17). For a
-- function, a class, any other declaration, an expression and every statement not named the standard has "Return false".
use Rattle.table_records.specs.declared.NodeId.{NodeId}
use Rattle.std.specs.Prelude.{ℕ, Bool, true, false, cond, not, ◌&&◌, ◌||◌, List, [], ◌∷◌, ◌++◌, eqb, Option, Some, None, is_some}
use Rattle.base_common.specs.Tests.{within}
use Rattle.table_records.specs.Table.{kind_of, role_of}
use Rattle.table_records.specs.Kinds as k
use Rattle.table_records.specs.Roles as role
use Rattle.table_names.specs.Name.{name_of, has}
use Rattle.ecma_trees.specs.Rose.{Rose, Roses, node, rnil, rcons, fold_parts, tree_of}
use Rattle.ecma_trees.specs.Unit.{broken}

-- what holds statements: kinds 4 to 17
abbrev pub holds : ℕ → Bool
holds kind = within kind k.FunctionBody k.CatchClause

-- IterationStatement: For, ForIn, ForOf, While, DoWhile
abbrev pub is_iteration : ℕ → Bool
is_iteration kind = within kind k.For k.DoWhile

-- the LabelIdentifier of a LabelledStatement, a BreakStatement or a ContinueStatement, among its parts
unfoldable pub label_in : List ℕ → Roses → Option NodeId
label_in ns ks = fold_parts (λ i r. cond (eqb (kind_of ns i) k.LabelIdentifier && eqb (role_of ns i) role.Label) (Some (record { 0 = i })) r) None ks

abbrev pub unlabelled : Option NodeId → Bool
unlabelled label = not (is_some label)

-- "labelSet contains label", where label is the StringValue of LabelIdentifier
abbrev pub contains : List ℕ → List ℕ → List (List ℕ) → Option NodeId → Bool
contains ns names labelSet (Some m) = has labelSet (name_of ns names m.0)
contains ns names labelSet None = false

-- "labelSet does not contain the StringValue of LabelIdentifier"
abbrev pub lacks : List ℕ → List ℕ → List (List ℕ) → Option NodeId → Bool
lacks ns names labelSet (Some m) = not (has labelSet (name_of ns names m.0))
lacks ns names labelSet None = false

-- "the list-concatenation of labelSet and « label »" (the order of a label set does not matter)
abbrev pub adding : List ℕ → List ℕ → List (List ℕ) → Option NodeId → List (List ℕ)
adding ns names labelSet (Some m) = name_of ns names m.0 ∷ labelSet
adding ns names labelSet None = labelSet

module _ (ns names : List ℕ) where
  -- 8.3.1 Static Semantics: ContainsDuplicateLabels, with argument labelSet
  unfoldable mutual
    pub contains_duplicate_labels : Rose → List (List ℕ) → Bool
    contains_duplicate_labels (node n ks) labelSet =
        -- LabelledStatement : LabelIdentifier : LabelledItem
        cond (eqb (kind_of ns n) k.Labeled) (contains ns names labelSet (label_in ns ks) || any_duplicate_labels ks (adding ns names labelSet (label_in ns ks)))
        -- the other statements, lists and clauses that hold statements: of each of these with argument labelSet
        (cond (holds (kind_of ns n)) (any_duplicate_labels ks labelSet)
        false)

    pub any_duplicate_labels : Roses → List (List ℕ) → Bool
    any_duplicate_labels rnil labelSet = false
    any_duplicate_labels (rcons t ts) labelSet = contains_duplicate_labels t labelSet || any_duplicate_labels ts labelSet

  -- 8.3.2 Static Semantics: ContainsUndefinedBreakTarget, with argument labelSet
  unfoldable mutual
    pub contains_undefined_break_target : Rose → List (List ℕ) → Bool
    contains_undefined_break_target (node n ks) labelSet =
        -- BreakStatement : break ;  BreakStatement : break LabelIdentifier ;
        cond (eqb (kind_of ns n) k.Break) (lacks ns names labelSet (label_in ns ks))
        -- LabelledStatement : LabelIdentifier : LabelledItem
        (cond (eqb (kind_of ns n) k.Labeled) (any_undefined_break_target ks (adding ns names labelSet (label_in ns ks)))
        -- the other statements, lists and clauses that hold statements: of each of these with argument labelSet
        (cond (holds (kind_of ns n)) (any_undefined_break_target ks labelSet)
        false))

    pub any_undefined_break_target : Roses → List (List ℕ) → Bool
    any_undefined_break_target rnil labelSet = false
    any_undefined_break_target (rcons t ts) labelSet = contains_undefined_break_target t labelSet || any_undefined_break_target ts labelSet

  -- 8.3.3 Static Semantics: ContainsUndefinedContinueTarget, with arguments iterationSet and labelSet, here one pair
  unfoldable mutual
    pub contains_undefined_continue_target : Rose → List (List ℕ) × List (List ℕ) → Bool
    contains_undefined_continue_target (node n ks) sets =
        -- ContinueStatement : continue ;  ContinueStatement : continue LabelIdentifier ;
        cond (eqb (kind_of ns n) k.Continue) (lacks ns names sets.0 (label_in ns ks))
        -- LabelledStatement : LabelIdentifier : LabelledItem
        (cond (eqb (kind_of ns n) k.Labeled) (any_undefined_continue_target ks (sets.0, adding ns names sets.1 (label_in ns ks)))
        -- BreakableStatement : IterationStatement
        (cond (is_iteration (kind_of ns n)) (any_undefined_continue_target ks (sets.0 ++ sets.1, []))
        -- the other statements, lists and clauses that hold statements: of each of these with arguments iterationSet and « »
        (cond (holds (kind_of ns n)) (any_undefined_continue_target ks (sets.0, []))
        false)))

    pub any_undefined_continue_target : Roses → List (List ℕ) × List (List ℕ) → Bool
    any_undefined_continue_target rnil sets = false
    any_undefined_continue_target (rcons t ts) sets = contains_undefined_continue_target t sets || any_undefined_continue_target ts sets

  -- 14.8.1: "It is a Syntax Error if this ContinueStatement is not nested, directly or indirectly (but not crossing function or static initialization block
  -- boundaries), within an IterationStatement." Of both forms of the statement. nested: whether an IterationStatement was passed on the way down.
  unfoldable mutual
    pub contains_continue_not_nested : Rose → Bool → Bool
    contains_continue_not_nested (node n ks) nested =
        cond (eqb (kind_of ns n) k.Continue) (not nested)
        (cond (is_iteration (kind_of ns n)) (any_continue_not_nested ks true)
        (cond (holds (kind_of ns n)) (any_continue_not_nested ks nested)
        false))

    pub any_continue_not_nested : Roses → Bool → Bool
    any_continue_not_nested rnil nested = false
    any_continue_not_nested (rcons t ts) nested = contains_continue_not_nested t nested || any_continue_not_nested ts nested

  -- 14.9.1, BreakStatement : break ;  "It is a Syntax Error if this BreakStatement is not nested, .. , within an IterationStatement or a SwitchStatement."
  unfoldable mutual
    pub contains_break_not_nested : Rose → Bool → Bool
    contains_break_not_nested (node n ks) nested =
        cond (eqb (kind_of ns n) k.Break) (unlabelled (label_in ns ks) && not nested)
        (cond (is_iteration (kind_of ns n) || eqb (kind_of ns n) k.Switch) (any_break_not_nested ks true)
        (cond (holds (kind_of ns n)) (any_break_not_nested ks nested)
        false))

    pub any_break_not_nested : Roses → Bool → Bool
    any_break_not_nested rnil nested = false
    any_break_not_nested (rcons t ts) nested = contains_break_not_nested t nested || any_break_not_nested ts nested

-- The units: "ScriptBody : StatementList", "ModuleBody : ModuleItemList" (16.1.1, 16.2.1.1), "FunctionBody : FunctionStatementList" (15.2.1) of a function or an
-- arrow, and "ClassStaticBlockBody : ClassStaticBlockStatementList" (15.7.1).
abbrev pub is_unit : List ℕ → ℕ → Bool
is_unit ns a = within (kind_of ns a) k.Program k.StaticBlock

-- "It is a Syntax Error if ContainsDuplicateLabels of .. with argument « » is true", and so for the other rules: ks are the parts of a unit
unfoldable pub label_rule : List ℕ → List ℕ → Roses → Bool
label_rule ns names ks =
    any_duplicate_labels ns names ks []
    || (any_undefined_break_target ns names ks []
    || (any_undefined_continue_target ns names ks ([], [])
    || (any_continue_not_nested ns names ks false || any_break_not_nested ns names ks false)))

-- some unit of the program has such an error
unfoldable pub label_errors : List ℕ → List ℕ → Bool
label_errors ns names = broken (is_unit ns) (label_rule ns names) (tree_of ns)
