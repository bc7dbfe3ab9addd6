-- What statements and declarations raise.
use Rattle.check_diagnostics.specs.declared.Finding.{Finding}
use Rattle.table_records.specs.declared.NodeId.{NodeId}
use Rattle.std.specs.Prelude.{ℕ, ◌+◌, Bool, true, false, cond, not, ◌&&◌, ◌||◌, eqb, leb, Option, None}
use mathlib.Core.List.{List, foldr}
use Rattle.base_common.specs.Tests.{within}
use Rattle.table_source.specs.SourceType.{is_typescript}
use Rattle.table_records.specs.Table.{kind_of, flags_of, extra_of, span_start_of, scope_of, scope_flags_of, has_flag, ancestors}
use Rattle.table_records.specs.Kinds as k
use Rattle.table_records.specs.Roles as role
use Rattle.table_records.specs.Extras as extra
use Rattle.table_records.specs.NodeFlag as flag
use Rattle.table_records.specs.ScopeFlag as scope
use Rattle.table_children.specs.Children.{first_child, how_many, held_of, alternate_of, when_found}
use Rattle.table_scoping.specs.Scoping.{is_strict, in_class_static_block}
use Rattle.check_diagnostics.specs.Codes as code
use Rattle.check_diagnostics.specs.Contexts as context
use Rattle.check_diagnostics.specs.Finding.{error_span, error_at}

-- "Function declaration not allowed in statement position": n holds the statement s; a function is one if it is held. 15 in strict code, else 16, but an If
-- may hold one.
unfoldable pub check_function_declaration : List ℕ → List ℕ → ℕ → Bool → ℕ → Option Finding
check_function_declaration ns ss n is_if s =
    cond (eqb (kind_of ns s) k.Function)
    (cond (is_strict ns ss n) (error_at ns code.function_declaration_strict n s context.none)
    (cond is_if None (error_at ns code.function_declaration_non_strict n s context.none)))
    None

-- the statement that a With or a loop holds
abbrev pub check_body : List ℕ → List ℕ → ℕ → Option Finding
check_body ns ss n = when_found (held_of ns n) (check_function_declaration ns ss n false) None

-- the two of an If
abbrev pub check_consequent : List ℕ → List ℕ → ℕ → Option Finding
check_consequent ns ss n = when_found (held_of ns n) (check_function_declaration ns ss n true) None

abbrev pub check_alternate : List ℕ → List ℕ → ℕ → Option Finding
check_alternate ns ss n = when_found (alternate_of ns n) (check_function_declaration ns ss n true) None

-- "It is a Syntax Error if IsLabelledFunction(Statement) is true": 16 for the labelled function s if the nearest ancestor of the Labeled n that is no
-- Labeled itself is a loop, an If or a With. The program is the last ancestor, so there is always one.
unfoldable pub labelled_function : List ℕ → ℕ → ℕ → ℕ → Option Finding
labelled_function ns n s i =
    foldr (λ a r. cond (eqb (kind_of ns a) k.Labeled) r (cond (within (kind_of ns a) k.For k.With) (error_at ns code.function_declaration_non_strict n s context.none) None)) None (ancestors ns i)

-- a function that a Labeled holds: 15 in strict code
unfoldable pub check_labeled_item : List ℕ → List ℕ → ℕ → ℕ → Option Finding
check_labeled_item ns ss n s =
    cond (eqb (kind_of ns s) k.Function)
    (cond (is_strict ns ss n) (error_at ns code.function_declaration_strict n s context.none) (labelled_function ns n s n))
    None

abbrev pub check_function_declaration_in_labeled_statement : List ℕ → List ℕ → ℕ → Option Finding
check_function_declaration_in_labeled_statement ns ss n = when_found (held_of ns n) (check_labeled_item ns ss n) None

-- no With in strict code, and "`with` gives code 17 in sloppy code too" in TypeScript (document 02, request 13): 17, with the four bytes of the word
unfoldable pub check_with_statement : ℕ → List ℕ → List ℕ → ℕ → Option Finding
check_with_statement source_type ns ss n = cond (is_typescript source_type || is_strict ns ss n) (error_span code.with_statement n (span_start_of ns n) (span_start_of ns n + 4) context.none) None

-- the left of a ForIn or a ForOf
abbrev pub left_of : List ℕ → ℕ → Option NodeId
left_of ns n = first_child ns n 0 55 role.Left role.Left

-- the first declarator of a declaration, and how many there are
abbrev pub declarator_of : List ℕ → ℕ → Option NodeId
declarator_of ns d = first_child ns d k.VariableDeclarator k.VariableDeclarator 0 7

abbrev pub declarators : List ℕ → ℕ → ℕ
declarators ns d = how_many ns d k.VariableDeclarator k.VariableDeclarator 0 7

-- The declarator v of the declaration d has an initialiser, though it is a `var` in strict code, or the loop is no ForIn, or its id is no plain name: 24.
unfoldable pub check_initialiser : List ℕ → List ℕ → ℕ → Bool → ℕ → ℕ → Option Finding
check_initialiser ns ss n isForIn d v =
    cond (has_flag (flags_of ns v) flag.Initialiser && ((is_strict ns ss n && eqb (extra_of ns d) extra.Var) || (not isForIn || not (has_flag (flags_of ns v) flag.PlainName))))
    (error_at ns code.unexpected_initializer_in_for_loop_head n d context.none) None

-- A declaration on the left: of more than one declarator nothing is said.
unfoldable pub check_left : List ℕ → List ℕ → ℕ → Bool → ℕ → Option Finding
check_left ns ss n isForIn d =
    cond (eqb (kind_of ns d) k.VariableDeclaration) (cond (leb (declarators ns d) 1) (when_found (declarator_of ns d) (check_initialiser ns ss n isForIn d) None) None) None

abbrev pub check_for_statement_left : List ℕ → List ℕ → ℕ → Bool → Option Finding
check_for_statement_left ns ss n isForIn = when_found (left_of ns n) (check_left ns ss n isForIn) None

-- no `for await` in a static block: 25
unfoldable pub check_for_of_statement : List ℕ → List ℕ → ℕ → Option Finding
check_for_of_statement ns ss n = cond (has_flag (flags_of ns n) flag.ForAwait && in_class_static_block ns ss n) (error_at ns code.class_static_block_for_await n n context.none) None

-- no `using` or `await using` at the top level of a script: 13
unfoldable pub check_using : ℕ → List ℕ → List ℕ → ℕ → Option Finding
check_using source_type ns ss n =
    cond (within (extra_of ns n) extra.Using extra.AwaitUsing && (eqb source_type 0 && has_flag (scope_flags_of ss (scope_of ns n)) scope.Top))
    (error_at ns code.using_declaration_not_allowed_in_script n n context.none) None

-- no `await using` in a static block: 14
unfoldable pub check_await_using : List ℕ → List ℕ → ℕ → Option Finding
check_await_using ns ss n = cond (eqb (extra_of ns n) extra.AwaitUsing && in_class_static_block ns ss n) (error_at ns code.class_static_block_await_using n n context.none) None
