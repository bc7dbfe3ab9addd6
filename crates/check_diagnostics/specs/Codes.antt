-- The codes of findings, numbered as document 01 does, under the names of diagnostics.rs.
use Rattle.std.specs.Prelude.{ℕ}

-- redeclaration
abbrev pub redeclaration : ℕ
redeclaration = 1

-- reserved word
abbrev pub reserved_keyword : ℕ
reserved_keyword = 2

-- await in static block
abbrev pub class_static_block_await : ℕ
class_static_block_await = 3

-- eval or arguments assigned
abbrev pub unexpected_identifier_assign : ℕ
unexpected_identifier_assign = 4

-- let in lexical declaration
abbrev pub invalid_let_declaration : ℕ
invalid_let_declaration = 5

-- arguments in field or static block
abbrev pub unexpected_arguments : ℕ
unexpected_arguments = 6

-- private name outside class
abbrev pub private_not_in_class : ℕ
private_not_in_class = 7

-- private name undeclared
abbrev pub private_field_undeclared : ℕ
private_field_undeclared = 8

-- legacy octal
abbrev pub legacy_octal : ℕ
legacy_octal = 9

-- leading-zero decimal
abbrev pub leading_zero_decimal : ℕ
leading_zero_decimal = 10

-- `\8` or `\9`
abbrev pub non_octal_decimal_escape_sequence : ℕ
non_octal_decimal_escape_sequence = 11

-- "use strict" with non-simple parameters
abbrev pub illegal_use_strict : ℕ
illegal_use_strict = 12

-- using in script
abbrev pub using_declaration_not_allowed_in_script : ℕ
using_declaration_not_allowed_in_script = 13

-- await using in static block
abbrev pub class_static_block_await_using : ℕ
class_static_block_await_using = 14

-- strict function declaration
abbrev pub function_declaration_strict : ℕ
function_declaration_strict = 15

-- sloppy one
abbrev pub function_declaration_non_strict : ℕ
function_declaration_non_strict = 16

-- with
abbrev pub with_statement : ℕ
with_statement = 17

-- break
abbrev pub invalid_break : ℕ
invalid_break = 18

-- undefined label
abbrev pub invalid_label_target : ℕ
invalid_label_target = 19

-- jump over a function
abbrev pub invalid_label_jump_target : ℕ
invalid_label_jump_target = 20

-- continue
abbrev pub invalid_continue : ℕ
invalid_continue = 21

-- label of no loop
abbrev pub invalid_label_non_iteration : ℕ
invalid_label_non_iteration = 22

-- label twice
abbrev pub label_redeclaration : ℕ
label_redeclaration = 23

-- for-head initialiser
abbrev pub unexpected_initializer_in_for_loop_head : ℕ
unexpected_initializer_in_for_loop_head = 24

-- for await in static block
abbrev pub class_static_block_for_await : ℕ
class_static_block_for_await = 25

-- class name
abbrev pub require_class_name : ℕ
require_class_name = 26

-- second constructor
abbrev pub duplicate_constructor : ℕ
duplicate_constructor = 27

-- super without heritage
abbrev pub super_without_derived_class : ℕ
super_without_derived_class = 28

-- super call
abbrev pub unexpected_super_call : ℕ
unexpected_super_call = 29

-- super reference
abbrev pub unexpected_super_reference : ℕ
unexpected_super_reference = 30

-- delete of name
abbrev pub delete_of_unqualified : ℕ
delete_of_unqualified = 31

-- delete of private
abbrev pub delete_private_field : ℕ
delete_private_field = 32

-- await or yield in parameters
abbrev pub await_or_yield_in_parameter : ℕ
await_or_yield_in_parameter = 33
