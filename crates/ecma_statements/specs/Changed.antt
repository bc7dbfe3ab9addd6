-- THE RULES AS THE RUST HAS THEM, where they are not the standard's, and the conditions on which they are: in the order of the
-- files Statements and Functions.
use Rattle.table_records.specs.declared.NodeId.{NodeId}
use Rattle.std.specs.Prelude.{ℕ, ◌≡◌, List, Bool, true, false, not, ◌&&◌, ◌||◌, eqb, Option, Some, None}
use Rattle.base_common.specs.Upto.{all, any}
use Rattle.base_common.specs.Tests.{within}
use Rattle.table_records.specs.Table.{kind_of, parent_of, extra_of, ancestors}
use Rattle.table_records.specs.Kinds as k
use Rattle.table_records.specs.Extras as extra
use Rattle.table_children.specs.Children.{held_of, alternate_of}
use Rattle.ecma_trees.specs.Trail.{unit_of}
use Rattle.ecma_base.specs.Telling.{Telling, async_or_generator}
use Rattle.ecma_base.specs.Strict.{strict_code}
use Rattle.ecma_base.specs.Scopes.{may_make_scope, top_scope, scopes_follow}
use Rattle.ecma_statements.specs.Statements.{declarators_of, plain_name, single, bad_head, head_of, of_head, using_declaration, held_using}
use Rattle.ecma_statements.specs.Functions.{ends_in_statement, annex_holder, function_misplaced, function_misplaced_else, labels_function, label_edge, labelled_function_at}

-- 24: heads of for-in and for-of; 13: using

-- nothing is said of several declarations, nor of a `let` or `const` in a for-in whose name is plain
abbrev pub unsaid : List ℕ → ℕ → ℕ → Bool
unsaid ns n d =
    not (single (declarators_of ns d)) || ((eqb (kind_of ns n) k.ForIn && not (eqb (extra_of ns d) extra.Var)) && all (plain_name ns) (declarators_of ns d))

unfoldable pub said_head : List ℕ → List ℕ → ℕ → Bool
said_head ns ss n = within (kind_of ns n) k.ForIn k.ForOf && of_head (λ d. bad_head ns ss n d && not (unsaid ns n d)) (head_of ns n)

-- where they agree, and nowhere else: nothing is left unsaid of a head that breaks the rule
abbrev pub HeadTold : List ℕ → List ℕ → ℕ → Type 0
HeadTold ns ss n = of_head (λ d. bad_head ns ss n d && unsaid ns n d) (head_of ns n) ≡ false

-- in a script, where the scope is the top one
unfoldable pub top_using : ℕ → List ℕ → List ℕ → ℕ → Bool
top_using source_type ns ss n = using_declaration ns n && (eqb source_type 0 && top_scope ns ss n)

-- something else stands around it that makes a scope: a switch, and what no text has there
unfoldable pub other_scope : List ℕ → ℕ → Bool
other_scope ns n = any (λ a. within (kind_of ns a) k.Function k.Arrow || may_make_scope (kind_of ns a)) (ancestors ns n)

-- where they agree: the scopes follow the tree; the declaration is in no clause of a switch, and where it is in such another scope, it is in a holder too
pub record UsingTold (ns ss : List ℕ) (n : ℕ) : Type 0 where
  pub follow : scopes_follow ns ss ≡ true
  pub other : (other_scope ns n && not (held_using ns n)) ≡ false
  pub clause : eqb (kind_of ns (parent_of ns n)) k.SwitchCase ≡ false

-- 16: labelled functions

-- not in strict code, where the labelled function itself is raised
unfoldable pub labelled_function_said : List ℕ → List ℕ → ℕ → Bool
labelled_function_said ns ss n = labels_function ns n && (not (strict_code ns ss n) && ends_in_statement ns (unit_of ns (label_edge ns) n))

-- 15, 16: functions in statement position

-- By the codes the rule has two parts: code 15 is of strict code ..
abbrev pub strict_function : Telling → List ℕ → List ℕ → ℕ → Bool
strict_function told ns ss n = strict_code ns ss n && function_misplaced told ns ss n

abbrev pub strict_function_else : Telling → List ℕ → List ℕ → ℕ → Bool
strict_function_else told ns ss n = strict_code ns ss n && function_misplaced_else told ns ss n

-- .. and code 16 of code that is not strict
abbrev pub sloppy_function : Telling → List ℕ → List ℕ → ℕ → Bool
sloppy_function told ns ss n = not (strict_code ns ss n) && function_misplaced told ns ss n

abbrev pub sloppy_function_else : Telling → List ℕ → List ℕ → ℕ → Bool
sloppy_function_else told ns ss n = not (strict_code ns ss n) && function_misplaced_else told ns ss n

-- The rules are function_misplaced and function_misplaced_else at the telling `ordinary`: every function that is found counts as neither async nor a generator.

-- it is a function, and one of the two
abbrev pub special_function : Telling → List ℕ → Option NodeId → Bool
special_function told ns (Some m) = eqb (kind_of ns m.0) k.Function && async_or_generator told m.0
special_function told ns None = false

-- where they agree: where Annex B lets n hold a function, it holds none of these, unless the function is an error as a labelled one. So in strict code, and at the loops and with, they always agree.
pub record OrdinaryHeld (told : Telling) (ns ss : List ℕ) (n : ℕ) : Type 0 where
  pub held : annex_holder ns ss n ≡ true → labelled_function_at ns n ≡ false → special_function told ns (held_of ns n) ≡ false
  pub behind_else : annex_holder ns ss n ≡ true → special_function told ns (alternate_of ns n) ≡ false
