-- Names that a place may not have, and directives that a function may not have.
use Rattle.check_diagnostics.specs.declared.Finding.{Finding}
use Rattle.std.specs.Prelude.{ℕ, Bool, cond, not, ◌&&◌, ◌||◌, eqb, Option, None}
use mathlib.Core.List.{List, [], ◌∷◌, foldr}
use Rattle.base_common.specs.Upto.{any}
use Rattle.base_common.specs.Tests.{within}
use Rattle.table_source.specs.SourceType.{is_module}
use Rattle.table_records.specs.Table.{kind_of, parent_of, flags_of, extra_of, scope_of, scope_flags_of, scope_node_of, ancestors, has_flag}
use Rattle.table_records.specs.Kinds as k
use Rattle.table_records.specs.Extras as extra
use Rattle.table_records.specs.NodeFlag as flag
use Rattle.table_records.specs.ScopeFlag as scope
use Rattle.table_names.specs.Name.{name_is}
use Rattle.table_names.specs.Words as word
use Rattle.table_children.specs.Children.{value_of, is_node}
use Rattle.table_ancestry.specs.Ancestry.{has_ancestor}
use Rattle.table_scoping.specs.Scoping.{is_strict}
use Rattle.check_diagnostics.specs.Finding.{error_at}
use Rattle.check_diagnostics.specs.Codes as code
use Rattle.check_diagnostics.specs.Contexts as context

-- why a name is reserved in strict code: it is in a class, or else in a module, or else the code says so
unfoldable pub strict_context : ℕ → List ℕ → ℕ → ℕ
strict_context t ns n = cond (has_ancestor ns k.Class k.Class n) context.in_class (cond (is_module t) context.in_module context.strict_mode)

-- `await` in a module, or where the current scope is a static block's
unfoldable pub await_finding : ℕ → List ℕ → List ℕ → ℕ → Option Finding
await_finding t ns ss n =
    cond (is_module t)
    (error_at ns code.reserved_keyword n n context.module_await)
    (cond (has_flag (scope_flags_of ss (scope_of ns n)) scope.StaticBlockScope) (error_at ns code.class_static_block_await n n context.none) None)

-- "contained in strict mode code and the StringValue of IdentifierName is: .."
abbrev pub strict_words : List (List ℕ)
strict_words =
    word.implements_word
    ∷ word.interface_word
    ∷ word.let_word
    ∷ word.package_word
    ∷ word.private_word
    ∷ word.protected_word
    ∷ word.public_word
    ∷ word.static_word
    ∷ word.yield_word
    ∷ []

unfoldable pub is_strict_word : List ℕ → List ℕ → ℕ → Bool
is_strict_word ns names n = any (λ w. name_is ns names n w) strict_words

unfoldable pub check_identifier : ℕ → List ℕ → List ℕ → List ℕ → ℕ → Option Finding
check_identifier t ns ss names n =
    cond (name_is ns names n word.await_word)
    (await_finding t ns ss n)
    (cond (is_strict_word ns names n && is_strict ns ss n) (error_at ns code.reserved_keyword n n (strict_context t ns n)) None)

abbrev pub is_eval_or_arguments : List ℕ → List ℕ → ℕ → Bool
is_eval_or_arguments ns names n = name_is ns names n word.eval_word || name_is ns names n word.arguments_word

-- `let` is bound by the declaration d: `var` may
abbrev pub let_bound : List ℕ → ℕ → ℕ → Option Finding
let_bound ns n d = cond (eqb (extra_of ns d) extra.Var) None (error_at ns code.invalid_let_declaration n n context.none)

-- one step up in search of the declaration of n, which a function ends
unfoldable pub let_at : List ℕ → ℕ → ℕ → Option Finding → Option Finding
let_at ns n a rest =
    cond (eqb (kind_of ns a) k.VariableDeclaration)
    (let_bound ns n a)
    (cond (within (kind_of ns a) k.Function k.Arrow) None rest)

-- "It is a Syntax Error if the BoundNames of BindingList contains "let"": the search from i up
unfoldable pub let_from : List ℕ → ℕ → ℕ → Option Finding
let_from ns n i = foldr (let_at ns n) None (ancestors ns i)

unfoldable pub check_binding_identifier : ℕ → List ℕ → List ℕ → List ℕ → ℕ → Option Finding
check_binding_identifier t ns ss names n =
    cond (is_strict ns ss n)
    (cond (is_eval_or_arguments ns names n) (error_at ns code.unexpected_identifier_assign n n (strict_context t ns n)) None)
    (cond (name_is ns names n word.let_word) (let_from ns n n) None)

-- a is a field, and p its initialiser
unfoldable pub is_field_value : List ℕ → ℕ → ℕ → Bool
is_field_value ns a p = eqb (kind_of ns a) k.PropertyDefinition && is_node (value_of ns a) p

-- one step up, from p to its parent: a function ends the search; a field's initialiser or a static block has a finding
unfoldable pub arguments_at : List ℕ → ℕ → ℕ → Option Finding → Option Finding
arguments_at ns n p rest =
    cond (eqb (kind_of ns (parent_of ns p)) k.Function)
    None
    (cond (is_field_value ns (parent_of ns p) p || eqb (kind_of ns (parent_of ns p)) k.StaticBlock) (error_at ns code.unexpected_arguments n n context.none) rest)

-- "if Initializer is present and ContainsArguments of Initializer is true", and so for a static block's statements: the search from i up
unfoldable pub arguments_from : List ℕ → ℕ → ℕ → Option Finding
arguments_from ns n i = foldr (arguments_at ns n) None (i ∷ ancestors ns i)

-- "If this IdentifierReference is contained in strict mode code and StringValue of Identifier is "eval" or "arguments", return invalid."
abbrev pub is_invalid_target : List ℕ → List ℕ → List ℕ → ℕ → Bool
is_invalid_target ns ss names n = is_eval_or_arguments ns names n && (is_strict ns ss n && has_flag (flags_of ns n) flag.Written)

-- a class is current within its body
abbrev pub in_class_body : List ℕ → ℕ → Bool
in_class_body ns n = has_ancestor ns k.ClassBody k.ClassBody n

unfoldable pub check_identifier_reference : ℕ → List ℕ → List ℕ → List ℕ → ℕ → Option Finding
check_identifier_reference t ns ss names n =
    cond (is_invalid_target ns ss names n)
    (error_at ns code.unexpected_identifier_assign n n (strict_context t ns n))
    (cond (name_is ns names n word.arguments_word && in_class_body ns n) (arguments_from ns n n) None)

-- a function or an arrow whose parameters are not simple
abbrev pub is_not_simple : List ℕ → ℕ → Bool
is_not_simple ns f = within (kind_of ns f) k.Function k.Arrow && not (has_flag (flags_of ns f) flag.SimpleParameters)

-- "if FunctionBodyContainsUseStrict of FunctionBody is true and IsSimpleParameterList of FormalParameters is false"
unfoldable pub check_directive : List ℕ → List ℕ → List ℕ → ℕ → Option Finding
check_directive ns ss names n =
    cond (name_is ns names n word.use_strict && (has_flag (scope_flags_of ss (scope_of ns n)) scope.FunctionScope && is_not_simple ns (scope_node_of ss (scope_of ns n))))
    (error_at ns code.illegal_use_strict n n context.none)
    None
