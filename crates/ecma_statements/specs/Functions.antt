-- ECMA-262, functions in statement position: 14.6 The if Statement, 14.7 Iteration Statements, 14.11 The with Statement, 14.13 Labelled Statements, with B.3.1 Labelled Function Declarations and
-- B.3.3 FunctionDeclarations in IfStatement Statement Clauses.
use Rattle.table_records.specs.declared.NodeId.{NodeId}
use Rattle.std.specs.Prelude.{ℕ, List, Bool, false, cond, not, ◌&&◌, ◌||◌, eqb, Option, Some, None}
use Rattle.base_common.specs.Tests.{within}
use Rattle.table_records.specs.Table.{kind_of, role_of}
use Rattle.table_records.specs.Kinds as k
use Rattle.table_records.specs.Roles as role
use Rattle.table_children.specs.Children.{held_of, alternate_of}
use Rattle.ecma_trees.specs.Rose.{Rose, Roses, node, rnil, rcons, idx, parts_of}
use Rattle.ecma_trees.specs.Trail.{unit_of}
use Rattle.ecma_base.specs.Strict.{strict_code}
use Rattle.ecma_base.specs.Telling.{Telling, async_or_generator}

-- 15.2, 15.5, 15.6, 15.8: a FunctionDeclaration, GeneratorDeclaration, AsyncFunctionDeclaration or AsyncGeneratorDeclaration: a function that is held as a statement is one of these
abbrev pub is_function : List ℕ → Option NodeId → Bool
is_function ns (Some m) = eqb (kind_of ns m.0) k.Function
is_function ns None = false

-- 14.6, 14.7, 14.11: the statements that end in a Statement: if, the loops, with
abbrev pub ends_in_statement : List ℕ → ℕ → Bool
ends_in_statement ns n = within (kind_of ns n) k.For k.With

-- THE EXCEPTION OF ANNEX B: B.3.3, "if ( Expression ) FunctionDeclaration", also behind else, and B.3.1, LabelledItem : FunctionDeclaration, in code that is not strict. So n may hold one ..
abbrev pub annex_holder : List ℕ → List ℕ → ℕ → Bool
annex_holder ns ss n = not (strict_code ns ss n) && (eqb (kind_of ns n) k.If || eqb (kind_of ns n) k.Labeled)

-- .. which is neither an async function nor a generator
abbrev pub annex_allows : Telling → List ℕ → List ℕ → ℕ → ℕ → Bool
annex_allows told ns ss n f = annex_holder ns ss n && not (async_or_generator told f)

-- 14.6, 14.7, 14.11, 14.13: no Statement is a FunctionDeclaration, GeneratorDeclaration, AsyncFunctionDeclaration or AsyncGeneratorDeclaration. 14.13.1, LabelledItem :
-- FunctionDeclaration: "It is a Syntax Error if any source text is matched by this production." Of a part of n: it is a function, and Annex B does not allow it.
abbrev pub misplaced : Telling → List ℕ → List ℕ → ℕ → Option NodeId → Bool
misplaced told ns ss n (Some m) = eqb (kind_of ns m.0) k.Function && not (annex_allows told ns ss n m.0)
misplaced told ns ss n None = false

-- of the Statement of n, or its LabelledItem; of an if the first Statement
unfoldable pub function_misplaced : Telling → List ℕ → List ℕ → ℕ → Bool
function_misplaced told ns ss n = (ends_in_statement ns n || eqb (kind_of ns n) k.Labeled) && misplaced told ns ss n (held_of ns n)

-- 14.6: of the Statement behind else
unfoldable pub function_misplaced_else : Telling → List ℕ → List ℕ → ℕ → Bool
function_misplaced_else told ns ss n = eqb (kind_of ns n) k.If && misplaced told ns ss n (alternate_of ns n)

-- 14.13.2 IsLabelledFunction(stmt): "1. If stmt is not a LabelledStatement, return false. 2. Let item be the LabelledItem of stmt. 3. If item is LabelledItem : FunctionDeclaration,
-- return true. 4. Let subStmt be the Statement of item. 5. Return IsLabelledFunction(subStmt)." (An async function or a generator is no LabelledItem at all: behind a label it is
-- function_misplaced, whatever holds the label; so here no telling is asked for.)
module _ (ns : List ℕ) where
  unfoldable mutual
    pub is_labelled_function : Rose → Bool
    is_labelled_function (node n ks) = eqb (kind_of ns n) k.Labeled && labelled_item ks

    pub labelled_item : Roses → Bool
    labelled_item rnil = false
    labelled_item (rcons t ts) = cond (eqb (role_of ns (idx t)) role.Held) (eqb (kind_of ns (idx t)) k.Function || is_labelled_function t) (labelled_item ts)

  -- of one of the Statements among the parts of a node
  unfoldable pub labelled_among : Roses → Bool
  labelled_among rnil = false
  labelled_among (rcons t ts) = (within (role_of ns (idx t)) role.Held role.Alternate && is_labelled_function t) || labelled_among ts

-- 14.6.1, 14.7.2.1, 14.7.3.1, 14.7.4.1, 14.7.5.1, 14.11.1: "It is a Syntax Error if IsLabelledFunction(Statement) is true."
unfoldable pub ends_in_labelled : List ℕ → ℕ → Bool
ends_in_labelled ns n = ends_in_statement ns n && labelled_among ns (parts_of ns n)

-- THE RULE AT THE LABEL: n labels a function, and the nearest node above n that is no LabelledStatement ends in a Statement
abbrev pub labels_function : List ℕ → ℕ → Bool
labels_function ns n = eqb (kind_of ns n) k.Labeled && is_function ns (held_of ns n)

abbrev pub label_edge : List ℕ → ℕ → ℕ → Bool
label_edge ns i j = not (eqb (kind_of ns i) k.Labeled)

unfoldable pub labelled_function_at : List ℕ → ℕ → Bool
labelled_function_at ns n = labels_function ns n && ends_in_statement ns (unit_of ns (label_edge ns) n)
