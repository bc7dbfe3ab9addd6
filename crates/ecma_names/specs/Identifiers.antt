-- ECMA-262: 13.1.1 Static Semantics: Early Errors (Identifiers); 8.6.4 Static Semantics: AssignmentTargetType; 11.2.1 Directive Prologues and the Use Strict Directive; 15.1.3 IsSimpleParameterList; 15.2.1 Early Errors (Function Definitions); 15.2.2 FunctionBodyContainsUseStrict.
use Rattle.std.specs.Prelude.{ℕ, List, [], ◌∷◌, Bool, not, ◌&&◌, ◌||◌, eqb, ◌≡◌}
use Rattle.base_common.specs.Upto.{any}
use Rattle.base_common.specs.Tests.{within}
use Rattle.table_records.specs.Table.{kind_of, parent_of, flags_of, has_flag, scope_of, scope_flags_of, scope_node_of}
use Rattle.table_records.specs.Kinds as k
use Rattle.table_records.specs.NodeFlag as flag
use Rattle.table_children.specs.Children.{children}
use Rattle.table_names.specs.Name.{name_is}
use Rattle.table_names.specs.Words as word
use Rattle.ecma_base.specs.Strict.{strict_code}
use Rattle.ecma_base.specs.Telling.{Telling}
use Rattle.ecma_names.specs.ReservedWords.{reserved_words}
use Rattle.ecma_names.specs.Parameters.{goal_module, yield_parameter, await_parameter}
use Rattle.table_records.specs.ScopeFlag as scope

-- 13.1: BindingIdentifier, IdentifierReference, LabelIdentifier
abbrev pub identifier : List ℕ → ℕ → Bool
identifier ns n = within (kind_of ns n) k.BindingIdentifier k.LabelIdentifier

-- 13.1.1, of strict mode code: "implements", "interface", "let", "package", "private", "protected", "public", "static", or "yield"
abbrev pub strict_reserved : List (List ℕ)
strict_reserved =
    word.implements_word
    ∷ word.interface_word
    ∷ word.let_word
    ∷ word.package_word
    ∷ word.private_word
    ∷ word.protected_word
    ∷ word.public_word
    ∷ word.static_word
    ∷ word.yield_word
    ∷ []

-- 13.1.1, of an Identifier, and of the unescaped `yield` or `await` that stands for one by productions of their own ("IdentifierReference : [~Yield] yield", "BindingIdentifier : await" and so on: where
-- the parameter is there, they are outside the grammar or an error by the same words). The local name of an ExportSpecifier is an IdentifierName, of which 16.2.3.1 forbids the same words.
-- "It is a Syntax Error if ..
unfoldable pub identifier_error : Telling → ℕ → List ℕ → List ℕ → List ℕ → ℕ → Bool
identifier_error told source_type ns ss names n =
    identifier ns n
    -- .. IsStrict(this phrase) is true and the StringValue of IdentifierName is one of" these,
    && ((strict_code ns ss n && any (λ w. name_is ns names n w) strict_reserved)
    -- ".. the goal symbol of the syntactic grammar is Module and the StringValue of IdentifierName is "await"",
    || ((goal_module source_type && name_is ns names n word.await_word)
    -- ".. this production has a [Yield] parameter and StringValue of Identifier is "yield"",
    || ((yield_parameter told source_type ns n && name_is ns names n word.yield_word)
    -- ".. this production has an [Await] parameter and StringValue of Identifier is "await"",
    || ((await_parameter told source_type ns n && name_is ns names n word.await_word)
    -- ".. the StringValue of IdentifierName is the StringValue of any ReservedWord except for yield or await."
    || any (λ w. name_is ns names n w) reserved_words))))

-- 13.1.1, 8.6.4: "either "arguments" or "eval""
abbrev pub eval_or_arguments : List ℕ → List ℕ → ℕ → Bool
eval_or_arguments ns names n = name_is ns names n word.eval_word || name_is ns names n word.arguments_word

-- 13.1.1, BindingIdentifier : Identifier: "It is a Syntax Error if IsStrict(this production) is true and the StringValue of Identifier is either "arguments" or "eval"."
unfoldable pub binds_eval : List ℕ → List ℕ → List ℕ → ℕ → Bool
binds_eval ns ss names n = eqb (kind_of ns n) k.BindingIdentifier && (eval_or_arguments ns names n && strict_code ns ss n)

-- 8.6.4, IdentifierReference : Identifier: "If IsStrict(this IdentifierReference) is true and the StringValue of Identifier is either "eval" or "arguments", return invalid."
-- 13.4.1, 13.15.1, 13.15.5.1, 14.7.5.1: an error where it is the target of an assignment.
unfoldable pub assigns_eval : List ℕ → List ℕ → List ℕ → ℕ → Bool
assigns_eval ns ss names n = eqb (kind_of ns n) k.IdentifierReference && (eval_or_arguments ns names n && (strict_code ns ss n && has_flag (flags_of ns n) flag.Written))

-- 11.2.1: a Use Strict Directive
abbrev pub use_strict_directive : List ℕ → List ℕ → ℕ → Bool
use_strict_directive ns names n = eqb (kind_of ns n) k.Directive && name_is ns names n word.use_strict

-- 15.1.3 IsSimpleParameterList
abbrev pub simple_parameters : List ℕ → ℕ → Bool
simple_parameters ns f = has_flag (flags_of ns f) flag.SimpleParameters

-- 15.2.2 FunctionBodyContainsUseStrict: "If the Directive Prologue of FunctionStatementList contains a Use Strict Directive, return true": b is the FunctionBody
abbrev pub contains_use_strict : List ℕ → List ℕ → ℕ → Bool
contains_use_strict ns names b = any (use_strict_directive ns names) (children ns b)

-- 15.2.1, 15.3.1, 15.4.1 and others: "It is a Syntax Error if FunctionBodyContainsUseStrict of FunctionBody is true and IsSimpleParameterList of FormalParameters is false."
-- At the directive: n is one in the FunctionBody of such a function or arrow.
unfoldable pub use_strict_there : List ℕ → List ℕ → ℕ → Bool
use_strict_there ns names n =
    use_strict_directive ns names n
    && (eqb (kind_of ns (parent_of ns n)) k.FunctionBody
    && (within (kind_of ns (parent_of ns (parent_of ns n))) k.Function k.Arrow && not (simple_parameters ns (parent_of ns (parent_of ns n)))))

-- a directive in the body of a function has that function's scope, and no other directive has one of a function
pub record DirectiveScope (ns ss : List ℕ) (n : ℕ) : Type 0 where
  pub function : has_flag (scope_flags_of ss (scope_of ns n)) scope.FunctionScope ≡ eqb (kind_of ns (parent_of ns n)) k.FunctionBody
  pub whose : kind_of ns (parent_of ns n) ≡ k.FunctionBody → scope_node_of ss (scope_of ns n) ≡ parent_of ns (parent_of ns n)
