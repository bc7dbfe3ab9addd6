-- ECMA-262, 8.2.1 Static Semantics: BoundNames, and 14.3.1.1 Static Semantics: Early Errors, of `let`.
use Rattle.std.specs.Prelude.{ℕ, List, [], ◌++◌, Bool, true, cond, eqb}
use Rattle.base_common.specs.Upto.{any}
use Rattle.table_records.specs.Table.{kind_of}
use Rattle.table_records.specs.Kinds as k
use Rattle.table_names.specs.Name.{name_is}
use Rattle.table_names.specs.Words as word
use Rattle.ecma_trees.specs.Rose.{Rose, Roses, node, rnil, rcons, idx, parts_of}
use Rattle.ecma_trees.specs.Walk.{only}
use Rattle.ecma_contains.specs.Contains.{bound_into}

-- 8.2.1, as the BindingIdentifiers whose StringValues they are. "BindingIdentifier : Identifier: Return a List whose sole element is the StringValue of Identifier."; "BindingList : BindingList , LexicalBinding",
-- "BindingPropertyList : BindingPropertyList , BindingProperty" and their like: "Return the list-concatenation of" those of the two; into which parts the others go is said by `bound_into`.
unfoldable mutual
  pub bound_names : List ℕ → Rose → List ℕ
  bound_names ns (node n ks) = only (eqb (kind_of ns n) k.BindingIdentifier) n ++ bound_names_of ns ks (bound_into ns n)

  pub bound_names_of : List ℕ → Roses → (ℕ → Bool) → List ℕ
  bound_names_of ns rnil b = []
  bound_names_of ns (rcons t ts) b = cond (b (idx t)) (bound_names ns t) [] ++ bound_names_of ns ts b

-- 14.3.1.1, LexicalDeclaration : LetOrConst BindingList: "It is a Syntax Error if the BoundNames of BindingList contains "let"." The BindingList of the declaration u is all its parts.
unfoldable pub binds_let : List ℕ → List ℕ → ℕ → Bool
binds_let ns names u = any (λ m. name_is ns names m word.let_word) (bound_names_of ns (parts_of ns u) (λ j. true))
