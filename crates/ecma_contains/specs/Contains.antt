-- ECMA-262, 8.5.1 Static Semantics: Contains, 15.7.9 Static Semantics: ContainsArguments, 8.2.1 Static Semantics: BoundNames, and the rules that they decide: what is sought, where the operation begins, and where it ends.
use Rattle.std.specs.Prelude.{ℕ, List, Bool, not, ◌&&◌, ◌||◌, eqb}
use Rattle.base_common.specs.Upto.{any}
use Rattle.base_common.specs.Tests.{within}
use Rattle.table_records.specs.Table.{kind_of, parent_of, role_of, flags_of, extra_of, has_flag, ancestors}
use Rattle.table_records.specs.Kinds as k
use Rattle.table_records.specs.Roles as role
use Rattle.table_records.specs.Extras as extra
use Rattle.table_records.specs.NodeFlag as flag
use Rattle.table_children.specs.Children.{children}
use Rattle.table_names.specs.Name.{name_is}
use Rattle.table_names.specs.Words as word
use Rattle.ecma_base.specs.Contains.{initializer, static_block, comes}

-- 8.5.1: of a function and of a ClassStaticBlockBody it is false; of an arrow function too, "If symbol is not one of NewTarget, SuperProperty, SuperCall, super, or this"; of a class it looks at the
-- heritage and, by 8.5.2 ComputedPropertyContains, at the computed keys, so not into the Initializer of a field
abbrev pub contains_into : List ℕ → ℕ → ℕ → Bool
contains_into ns i j = not (within (kind_of ns i) k.Function k.StaticBlock || initializer ns i j)

-- 15.7.1: "It is a Syntax Error if ClassStaticBlockStatementList Contains await is true."
abbrev pub block_begin : List ℕ → ℕ → ℕ → Bool
block_begin ns i j = static_block ns i

-- What `await` is part of: AwaitExpression; for await ( .. of .. ); await using; and names, of which 13.1.1 says the same by [Await] (Identifiers)

-- 15.8: AwaitExpression
abbrev pub await_expression : List ℕ → ℕ → Bool
await_expression ns n = eqb (kind_of ns n) k.Await

-- 14.7.5: for await ( .. of .. )
abbrev pub for_await : List ℕ → ℕ → Bool
for_await ns n = eqb (kind_of ns n) k.ForOf && has_flag (flags_of ns n) flag.ForAwait

-- 14.3.1, as explicit resource management has it: await using
abbrev pub await_using : List ℕ → ℕ → Bool
await_using ns n = eqb (kind_of ns n) k.VariableDeclaration && eqb (extra_of ns n) extra.AwaitUsing

-- 15.7.9 ContainsArguments, IdentifierReference : Identifier: "If the StringValue of Identifier is "arguments", return true."
abbrev pub arguments_reference : List ℕ → List ℕ → ℕ → Bool
arguments_reference ns names n = eqb (kind_of ns n) k.IdentifierReference && name_is ns names n word.arguments_word

-- 15.7.1: "It is a Syntax Error if Initializer is present and ContainsArguments of Initializer is true", and "if ContainsArguments of ClassStaticBlockStatementList is true":
-- where the operation begins
abbrev pub arguments_begin : List ℕ → ℕ → ℕ → Bool
arguments_begin ns i j = eqb (kind_of ns i) k.StaticBlock || initializer ns i j

-- 15.7.9: of a function it is false (of a method it looks at the ClassElementName: what else the method has is a function); else it goes into every child: arrows, fields and static blocks too
abbrev pub arguments_into : List ℕ → ℕ → ℕ → Bool
arguments_into ns i j = not (eqb (kind_of ns i) k.Function)

-- 15.3.1, 15.5.1, 15.6.1, 15.8.1, 15.9.1: "It is a Syntax Error if FormalParameters Contains YieldExpression is true", "Contains AwaitExpression".
-- 15.1: FormalParameter, FunctionRestParameter : BindingRestElement
abbrev pub parameter : List ℕ → ℕ → Bool
parameter ns i = eqb (kind_of ns i) k.FormalParameter || (eqb (kind_of ns i) k.BindingRestElement && eqb (kind_of ns (parent_of ns i)) k.FormalParameterRest)

abbrev pub parameter_begin : List ℕ → ℕ → ℕ → Bool
parameter_begin ns i j = parameter ns i

-- 15.8 AwaitExpression, 15.5 YieldExpression
abbrev pub await_or_yield : List ℕ → ℕ → Bool
await_or_yield ns n = within (kind_of ns n) k.Await k.Yield

-- 14.3.1.1: LexicalDeclaration : LetOrConst BindingList: "It is a Syntax Error if the BoundNames of BindingList contains "let"."; the same of using, and of a ForDeclaration (14.7.5.1).
abbrev pub lexical_declaration : List ℕ → ℕ → Bool
lexical_declaration ns u = eqb (kind_of ns u) k.VariableDeclaration && not (eqb (extra_of ns u) extra.Var)

abbrev pub bound_begin : List ℕ → ℕ → ℕ → Bool
bound_begin ns i j = lexical_declaration ns i

-- 8.2.1 BoundNames: the BindingIdentifiers of the declaration and its BindingPatterns (14.3.3). "BindingProperty : PropertyName : BindingElement: Return the BoundNames of BindingElement.",
-- "BindingElement : BindingPattern Initializer: Return the BoundNames of BindingPattern." and so on: into no PropertyName and no Initializer. The BindingElement is the value of a part with a PropertyName,
-- an Initializer that of one without.
abbrev pub property_named : List ℕ → ℕ → Bool
property_named ns i = any (λ c. eqb (role_of ns c) role.Key) (children ns i)

unfoldable pub unbound : List ℕ → ℕ → ℕ → Bool
unbound ns i j = eqb (role_of ns j) role.Key || (eqb (role_of ns j) role.Value && not (property_named ns i))

-- and into nothing that is no part of a BindingList: a function, an arrow function, another declaration (which stand in a PropertyName or an Initializer)
abbrev pub bound_into : List ℕ → ℕ → ℕ → Bool
bound_into ns i j = not ((within (kind_of ns i) k.Function k.Arrow || eqb (kind_of ns i) k.VariableDeclaration) || unbound ns i j)

-- 13.1: a BindingIdentifier whose StringValue is "let"
abbrev pub let_name : List ℕ → List ℕ → ℕ → Bool
let_name ns names n = eqb (kind_of ns n) k.BindingIdentifier && name_is ns names n word.let_word

-- THE RULES AT A NODE: n makes such an operation true: it is sought, and the operation of a node above comes to it
abbrev pub reached : List ℕ → (ℕ → ℕ → Bool) → (ℕ → ℕ → Bool) → ℕ → Bool
reached ns begin into n = any (λ u. comes ns begin into u n) (ancestors ns n)

-- 15.7.1: in a ClassStaticBlockStatementList that Contains await
unfoldable pub await_in_block : List ℕ → ℕ → Bool
await_in_block ns n = reached ns (block_begin ns) (contains_into ns) n

-- 15.7.1: in an Initializer or a ClassStaticBlockStatementList of which ContainsArguments is true
unfoldable pub arguments_in_class : List ℕ → List ℕ → ℕ → Bool
arguments_in_class ns names n = arguments_reference ns names n && reached ns (arguments_begin ns) (arguments_into ns) n

-- 15.3.1, 15.5.1, 15.6.1, 15.8.1, 15.9.1: in a FormalParameter that Contains it
unfoldable pub await_in_parameter : List ℕ → ℕ → Bool
await_in_parameter ns n = await_or_yield ns n && reached ns (parameter_begin ns) (contains_into ns) n

-- 14.3.1.1, 14.7.5.1: among the BoundNames of a declaration
unfoldable pub let_bound : List ℕ → List ℕ → ℕ → Bool
let_bound ns names n = let_name ns names n && reached ns (bound_begin ns) (bound_into ns) n
