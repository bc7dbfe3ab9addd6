-- The codes that each check raises.
use Rattle.table_records.specs.declared.ClassId.{ClassId}
use Rattle.table_records.specs.declared.NodeId.{NodeId}
use Rattle.std.specs.Prelude.{ℕ, ◌≤◌, ◌≡◌, refl, List, [], ◌∷◌, Bool, true, false, cond, ◌&&◌, Option, Some, None}
use Rattle.table_source.specs.SourceType.{is_typescript}
use Rattle.table_source.proofs.SourceTypeLaws.{no_typescript}
use Rattle.table_records.specs.Table.{ancestors}
use Rattle.table_children.specs.Children.{label_of, held_of, alternate_of, value_of, inner_of, class_body_of}
use Rattle.check_diagnostics.specs.Finding.{listed, error_between}
use Rattle.check_jumps.specs.Jumps.{walk_up, same_label, no_label, plain_break_at, labelled_break_at, plain_continue_at, labelled_continue_at, continue_to, labeled_at, check_break_statement, check_continue_statement, check_labeled_statement}
use Rattle.check_statements.specs.Statements.{check_function_declaration, check_body, check_consequent, check_alternate, labelled_function, check_labeled_item, check_function_declaration_in_labeled_statement, check_with_statement, left_of, declarator_of, check_initialiser, check_left, check_for_statement_left, check_for_of_statement, check_using, check_await_using}
use Rattle.check_identifiers.specs.Identifiers.{await_finding, let_at, let_from, arguments_at, arguments_from, check_identifier, check_binding_identifier, check_identifier_reference, check_directive}
use Rattle.check_literals.specs.declared.Escape.{Escape}
use Rattle.check_literals.specs.declared.Escape.TheVariants.{LegacyOctal, NonOctalDecimal}
use Rattle.check_literals.specs.Literals.{escape_finding, check_number_literal, check_string_literal}
use Rattle.check_expressions.specs.Expressions.{repeats, repeats_after, error_part, proto_keys, field_of, inner_expression, chain_finding, delete_of, delete_finding, in_parameter, in_block, check_object_expression, check_unary_expression}
use Rattle.check_class_table.specs.Classes.{current_class, classes_of}
use Rattle.check_class_table.specs.Elements.{element_span, is_private, compared}
use Rattle.check_classes.specs.ClassChecks.{outside_by, private_outside, undeclared_at, undeclared_in, undeclared_by, private_undeclared, require_class_name, first_pair, second_by, second_constructor, constructors, references}
use Rattle.check_duplicates.specs.declared.Place.{Place}
use Rattle.check_duplicates.specs.Duplicates.{number, is_apart, clash_code, redeclaration, duplicate_by, duplicate_at, previous_of, duplicates_in, duplicate_elements}
use Rattle.check_supers.specs.declared.Reach.{Reach}
use Rattle.check_supers.specs.declared.Reach.TheVariants.{Legal, Illegal, Underived, Fails}
use Rattle.check_supers.specs.Super.{by_reach, reach_of, check_super}
use Rattle.ecma_dispatch.specs.Coded.{Coded}
use Rattle.ecma_dispatch.proofs.WithCodeLaws.{coded_nil, coded_append, coded_flat_map, coded, fine, fine_if, fine_error, fine_clear, both_true, fine_up, fine_found, fine_held}
use Rattle.ecma_dispatch.specs.CheckCodes.{of_break, of_continue, of_label, of_held, of_name, of_binding, of_reference, of_number, of_string, of_delete, of_clash, of_super}

-- JUMPS
plain_break : (ns : List ℕ) (n : ℕ) → fine of_break (walk_up ns (plain_break_at ns n) n) ≡ true
unfolding walk_up plain_break_at
plain_break ns n = fine_up of_break (plain_break_at ns n) (λ a r h. simp (fine_if, fine_error, fine_clear, both_true, h)) (ancestors ns n)

labelled_break : (ns names : List ℕ) (n l : ℕ) → fine of_break (walk_up ns (labelled_break_at ns names n l) n) ≡ true
unfolding walk_up labelled_break_at no_label
labelled_break ns names n l =
    fine_up of_break (labelled_break_at ns names n l) (λ a r h. let q = fine_found of_break (same_label ns names l a) (λ m. None) r (λ m. fine_clear of_break) h in simp (fine_if, fine_error, fine_clear, both_true, q)) (ancestors ns n)

pub break_codes : (ns names : List ℕ) (n : ℕ) → Coded of_break (listed (check_break_statement ns names n))
break_codes ns names n = coded of_break _ (fine_found of_break (label_of ns n) (λ l. walk_up ns (labelled_break_at ns names n l) n) (walk_up ns (plain_break_at ns n) n) (labelled_break ns names n) (plain_break ns n))

plain_continue : (ns : List ℕ) (n : ℕ) → fine of_continue (walk_up ns (plain_continue_at ns n) n) ≡ true
unfolding walk_up plain_continue_at
plain_continue ns n = fine_up of_continue (plain_continue_at ns n) (λ a r h. simp (fine_if, fine_error, fine_clear, both_true, h)) (ancestors ns n)

continue_one : (ns : List ℕ) (n l a m : ℕ) → fine of_continue (continue_to ns n l a m) ≡ true
unfolding continue_to
continue_one ns n l a m = simp (fine_if, fine_error, fine_clear, both_true)

labelled_continue : (ns names : List ℕ) (n l : ℕ) → fine of_continue (walk_up ns (labelled_continue_at ns names n l) n) ≡ true
unfolding walk_up labelled_continue_at no_label
labelled_continue ns names n l =
    fine_up of_continue (labelled_continue_at ns names n l) (λ a r h. let q = fine_found of_continue (same_label ns names l a) (λ m. continue_to ns n l a m) r (λ m. continue_one ns n l a m) h in simp (fine_if, fine_error, fine_clear, both_true, q)) (ancestors ns n)

pub continue_codes : (ns names : List ℕ) (n : ℕ) → Coded of_continue (listed (check_continue_statement ns names n))
continue_codes ns names n =
    coded of_continue _ (fine_found of_continue (label_of ns n) (λ l. walk_up ns (labelled_continue_at ns names n l) n) (walk_up ns (plain_continue_at ns n) n) (labelled_continue ns names n) (plain_continue ns n))

label_twice : (ns names : List ℕ) (n l : ℕ) → fine of_label (walk_up ns (labeled_at ns names n l) n) ≡ true
unfolding walk_up labeled_at
label_twice ns names n l =
    fine_up of_label (labeled_at ns names n l)
    (λ a r h. let q = fine_found of_label (same_label ns names l a) (λ m. error_between ns 23 n m l) r (λ m. fine_error of_label _) h in simp (fine_if, fine_error, fine_clear, both_true, q)) (ancestors ns n)

pub label_codes : (ns names : List ℕ) (n : ℕ) → Coded of_label (listed (check_labeled_statement ns names n))
label_codes ns names n = coded of_label _ (fine_found of_label (label_of ns n) (λ l. walk_up ns (labeled_at ns names n l) n) None (label_twice ns names n) (fine_clear of_label))

-- STATEMENTS
function_fine : (ns ss : List ℕ) (n : ℕ) (is_if : Bool) (s : ℕ) → fine of_held (check_function_declaration ns ss n is_if s) ≡ true
unfolding check_function_declaration
function_fine ns ss n is_if s = simp (fine_if, fine_error, fine_clear, both_true)

pub body_codes : (ns ss : List ℕ) (n : ℕ) → Coded of_held (listed (check_body ns ss n))
body_codes ns ss n = coded of_held _ (fine_held of_held (held_of ns n) (check_function_declaration ns ss n false) (function_fine ns ss n false))

pub consequent_codes : (ns ss : List ℕ) (n : ℕ) → Coded of_held (listed (check_consequent ns ss n))
consequent_codes ns ss n = coded of_held _ (fine_held of_held (held_of ns n) (check_function_declaration ns ss n true) (function_fine ns ss n true))

pub alternate_codes : (ns ss : List ℕ) (n : ℕ) → Coded of_held (listed (check_alternate ns ss n))
alternate_codes ns ss n = coded of_held _ (fine_held of_held (alternate_of ns n) (check_function_declaration ns ss n true) (function_fine ns ss n true))

labelled_one : (ns : List ℕ) (n s i : ℕ) → fine of_held (labelled_function ns n s i) ≡ true
unfolding labelled_function
labelled_one ns n s i = fine_up of_held _ (λ a r h. simp (fine_if, fine_error, fine_clear, both_true, h)) (ancestors ns i)

item_fine : (ns ss : List ℕ) (n s : ℕ) → fine of_held (check_labeled_item ns ss n s) ≡ true
unfolding check_labeled_item
item_fine ns ss n s = let h = labelled_one ns n s n in simp (fine_if, fine_error, fine_clear, both_true, h)

pub labelled_function_codes : (ns ss : List ℕ) (n : ℕ) → Coded of_held (listed (check_function_declaration_in_labeled_statement ns ss n))
labelled_function_codes ns ss n = coded of_held _ (fine_held of_held (held_of ns n) (check_labeled_item ns ss n) (item_fine ns ss n))

pub with_codes : (t : ℕ) (ns ss : List ℕ) (n : ℕ) → Coded (17 ∷ []) (listed (check_with_statement t ns ss n))
unfolding check_with_statement
with_codes t ns ss n = coded (17 ∷ []) (check_with_statement t ns ss n) (simp (fine_if, fine_error, fine_clear, both_true))

initialiser_fine : (ns ss : List ℕ) (n : ℕ) (isForIn : Bool) (d v : ℕ) → fine (24 ∷ []) (check_initialiser ns ss n isForIn d v) ≡ true
unfolding check_initialiser
initialiser_fine ns ss n isForIn d v = simp (fine_if, fine_error, fine_clear, both_true)

left_fine : (ns ss : List ℕ) (n : ℕ) (isForIn : Bool) (d : ℕ) → fine (24 ∷ []) (check_left ns ss n isForIn d) ≡ true
unfolding check_left
left_fine ns ss n isForIn d = let h = fine_held (24 ∷ []) (declarator_of ns d) (check_initialiser ns ss n isForIn d) (initialiser_fine ns ss n isForIn d) in simp (fine_if, fine_error, fine_clear, both_true, h)

pub left_codes : (ns ss : List ℕ) (n : ℕ) (isForIn : Bool) → Coded (24 ∷ []) (listed (check_for_statement_left ns ss n isForIn))
left_codes ns ss n isForIn = coded (24 ∷ []) _ (fine_held (24 ∷ []) (left_of ns n) (check_left ns ss n isForIn) (left_fine ns ss n isForIn))

pub for_of_codes : (ns ss : List ℕ) (n : ℕ) → Coded (25 ∷ []) (listed (check_for_of_statement ns ss n))
unfolding check_for_of_statement
for_of_codes ns ss n = coded (25 ∷ []) (check_for_of_statement ns ss n) (simp (fine_if, fine_error, fine_clear, both_true))

pub using_codes : (t : ℕ) (ns ss : List ℕ) (n : ℕ) → Coded (13 ∷ []) (listed (check_using t ns ss n))
unfolding check_using
using_codes t ns ss n = coded (13 ∷ []) (check_using t ns ss n) (simp (fine_if, fine_error, fine_clear, both_true))

pub await_using_codes : (ns ss : List ℕ) (n : ℕ) → Coded (14 ∷ []) (listed (check_await_using ns ss n))
unfolding check_await_using
await_using_codes ns ss n = coded (14 ∷ []) (check_await_using ns ss n) (simp (fine_if, fine_error, fine_clear, both_true))

pub name_codes : (t : ℕ) (ns ss names : List ℕ) (n : ℕ) → Coded of_name (listed (check_identifier t ns ss names n))
unfolding check_identifier await_finding
name_codes t ns ss names n = coded of_name (check_identifier t ns ss names n) (simp (fine_if, fine_error, fine_clear, both_true))

let_fine : (ns : List ℕ) (n i : ℕ) → fine of_binding (let_from ns n i) ≡ true
unfolding let_from let_at
let_fine ns n i = fine_up of_binding (let_at ns n) (λ a r h. simp (fine_if, fine_error, fine_clear, both_true, h)) (ancestors ns i)

pub binding_codes : (t : ℕ) (ns ss names : List ℕ) (n : ℕ) → Coded of_binding (listed (check_binding_identifier t ns ss names n))
unfolding check_binding_identifier
binding_codes t ns ss names n = coded of_binding (check_binding_identifier t ns ss names n) (let h = let_fine ns n n in simp (fine_if, fine_error, fine_clear, both_true, h))

arguments_fine : (ns : List ℕ) (n i : ℕ) → fine of_reference (arguments_from ns n i) ≡ true
unfolding arguments_from arguments_at
arguments_fine ns n i = fine_up of_reference (arguments_at ns n) (λ a r h. simp (fine_if, fine_error, fine_clear, both_true, h)) (i ∷ ancestors ns i)

pub reference_codes : (t : ℕ) (ns ss names : List ℕ) (n : ℕ) → Coded of_reference (listed (check_identifier_reference t ns ss names n))
unfolding check_identifier_reference
reference_codes t ns ss names n = coded of_reference (check_identifier_reference t ns ss names n) (let h = arguments_fine ns n n in simp (fine_if, fine_error, fine_clear, both_true, h))

pub directive_codes : (ns ss names : List ℕ) (n : ℕ) → Coded (12 ∷ []) (listed (check_directive ns ss names n))
unfolding check_directive
directive_codes ns ss names n = coded (12 ∷ []) (check_directive ns ss names n) (simp (fine_if, fine_error, fine_clear, both_true))

escape_fine : (ns : List ℕ) (n : ℕ) (e : Option Escape) → fine of_string (escape_finding ns n e) ≡ true
escape_fine ns n (Some (LegacyOctal i)) = fine_error of_string _
escape_fine ns n (Some (NonOctalDecimal i)) = fine_error of_string _
escape_fine ns n None = fine_clear of_string

pub string_codes : (ns ss source : List ℕ) (n : ℕ) → Coded of_string (listed (check_string_literal ns ss source n))
unfolding check_string_literal
string_codes ns ss source n = coded of_string (check_string_literal ns ss source n) (let h = escape_fine ns n in simp (fine_if, fine_error, fine_clear, both_true, h))

pub number_codes : (ns ss source : List ℕ) (n : ℕ) → Coded of_number (listed (check_number_literal ns ss source n))
unfolding check_number_literal
number_codes ns ss source n = coded of_number (check_number_literal ns ss source n) (simp (fine_if, fine_error, fine_clear, both_true))

repeat_codes : (ns : List ℕ) (n a : ℕ) (l : List ℕ) → Coded (1 ∷ []) (repeats_after ns n a l)
unfolding repeats_after
repeat_codes ns n a [] = coded_nil (1 ∷ [])
repeat_codes ns n a (b ∷ l) = coded_append (1 ∷ []) (listed (error_between ns 1 n a b)) (repeats_after ns n b l) (record { each = refl }) (repeat_codes ns n b l)

repeats_codes : (ns : List ℕ) (n : ℕ) (l : List ℕ) → Coded (1 ∷ []) (repeats ns n l)
unfolding repeats
repeats_codes ns n [] = coded_nil (1 ∷ [])
repeats_codes ns n (a ∷ l) = repeat_codes ns n a l

pub object_codes : (ns names : List ℕ) (n : ℕ) → Coded (1 ∷ []) (check_object_expression ns names n)
unfolding check_object_expression
object_codes ns names n = repeats_codes ns n (proto_keys ns names n)

part_fine : (ns : List ℕ) (n : ℕ) (x : Option NodeId) → fine of_delete (error_part ns 32 n x) ≡ true
part_fine ns n (Some m) = fine_error of_delete _
part_fine ns n None = fine_error of_delete _

chain_fine : (ns : List ℕ) (n : ℕ) (x : Option NodeId) → fine of_delete (chain_finding ns n x) ≡ true
chain_fine ns n (Some m) = let h = part_fine ns n (field_of ns m.0) in simp (fine_if, fine_error, fine_clear, both_true, h)
chain_fine ns n None = fine_clear of_delete

delete_one : (ns ss : List ℕ) (n e : ℕ) → fine of_delete (delete_of ns ss n e) ≡ true
unfolding delete_of
delete_one ns ss n e = let h = chain_fine ns n (inner_of ns e) in simp (fine_if, fine_error, fine_clear, both_true, h)

delete_fine : (ns ss : List ℕ) (n : ℕ) (x : Option NodeId) → fine of_delete (delete_finding ns ss n x) ≡ true
delete_fine ns ss n (Some m) = delete_one ns ss n (inner_expression ns m.0)
delete_fine ns ss n None = fine_clear of_delete

pub unary_codes : (ns ss : List ℕ) (n : ℕ) → Coded of_delete (listed (check_unary_expression ns ss n))
unfolding check_unary_expression
unary_codes ns ss n = coded of_delete (check_unary_expression ns ss n) (let h = delete_fine ns ss n (value_of ns n) in simp (fine_if, fine_error, fine_clear, both_true, h))

pub parameter_codes : (ns : List ℕ) (n : ℕ) → Coded (33 ∷ []) (listed (in_parameter ns n))
unfolding in_parameter
parameter_codes ns n = coded (33 ∷ []) (in_parameter ns n) (simp (fine_if, fine_error, fine_clear, both_true))

pub block_codes : (ns ss : List ℕ) (n : ℕ) → Coded (3 ∷ []) (listed (in_block ns ss n))
unfolding in_block
block_codes ns ss n = coded (3 ∷ []) (in_block ns ss n) (simp (fine_if, fine_error, fine_clear, both_true))

-- CLASSES
outside_fine : (ns : List ℕ) (n : ℕ) (c : Option ClassId) → fine (7 ∷ []) (outside_by ns n c) ≡ true
outside_fine ns n (Some c) = fine_clear (7 ∷ [])
outside_fine ns n None = fine_error (7 ∷ []) _

pub outside_codes : (ns : List ℕ) (n : ℕ) → Coded (7 ∷ []) (listed (private_outside ns n))
outside_codes ns n = coded (7 ∷ []) _ (outside_fine ns n (current_class ns n))

undeclared_one : (t : ℕ) (ns names : List ℕ) (n c m : ℕ) → fine (8 ∷ []) (undeclared_at t ns names n c m) ≡ true
unfolding undeclared_at
undeclared_one t ns names n c m = simp (fine_if, fine_error, fine_clear, both_true)

undeclared_both : (t : ℕ) (ns names : List ℕ) (n : ℕ) (c : Option ClassId) → Coded (8 ∷ []) (undeclared_by t ns names n c)
unfolding undeclared_in
undeclared_both t ns names n (Some c) = coded_flat_map (8 ∷ []) (λ m. listed (undeclared_at t ns names n c.0 m)) (λ m. coded (8 ∷ []) _ (undeclared_one t ns names n c.0 m)) (references ns c.0)
undeclared_both t ns names n None = coded_nil (8 ∷ [])

pub undeclared_codes : (t : ℕ) (ns names : List ℕ) (n : ℕ) → Coded (8 ∷ []) (private_undeclared t ns names n)
undeclared_codes t ns names n = undeclared_both t ns names n (current_class ns n)

pub class_name_codes : (ns : List ℕ) (n : ℕ) → Coded (26 ∷ []) (listed (require_class_name ns n))
unfolding require_class_name
class_name_codes ns n = coded (26 ∷ []) (require_class_name ns n) (simp (fine_if, fine_error, fine_clear, both_true))

pair_fine : (t : ℕ) (ns : List ℕ) (n : ℕ) (l : List ℕ) → fine (27 ∷ []) (first_pair t ns n l) ≡ true
pair_fine t ns n [] = fine_clear (27 ∷ [])
pair_fine t ns n (a ∷ []) = fine_clear (27 ∷ [])
pair_fine t ns n (a ∷ b ∷ l) = fine_error (27 ∷ []) _

second_fine : (t : ℕ) (ns : List ℕ) (n : ℕ) (x : Option NodeId) → fine (27 ∷ []) (second_by t ns n x) ≡ true
second_fine t ns n (Some b) = pair_fine t ns n (constructors ns b.0)
second_fine t ns n None = fine_clear (27 ∷ [])

pub constructor_codes : (t : ℕ) (ns : List ℕ) (n : ℕ) → Coded (27 ∷ []) (listed (second_constructor t ns n))
constructor_codes t ns n = coded (27 ∷ []) _ (second_fine t ns n (class_body_of ns n))

clash_fine : (t : ℕ) (ns : List ℕ) (d e : ℕ) → fine of_clash (redeclaration t ns d e) ≡ true
unfolding redeclaration clash_code
clash_fine t ns d e = go (is_typescript t && (is_private ns e && is_apart ns d e))
  where
    go : (b : Bool) → fine of_clash (Some (record { code = cond b 35 1; node = record { 0 = 0 }; start = (element_span ns d).start; end = (element_span ns d).end; start2 = (element_span ns e).start; end2 = (element_span ns e).end; context = 0 })) ≡ true
    go true = fine_error of_clash _
    go false = fine_error of_clash _

duplicate_one : (t : ℕ) (ns : List ℕ) (e : ℕ) (p : Place) → fine of_clash (duplicate_by t ns e p) ≡ true
unfolding duplicate_by
duplicate_one t ns e p = let h = clash_fine t ns (number p) e in simp (fine_if, fine_clear, both_true, h)

pub duplicate_codes : (t : ℕ) (ns names : List ℕ) → Coded of_clash (duplicate_elements t ns names)
unfolding duplicate_elements duplicates_in
duplicate_codes t ns names =
    coded_flat_map of_clash (duplicates_in t ns names)
    (λ c. coded_flat_map of_clash (λ e. listed (duplicate_at t ns names c e)) (λ e. coded of_clash _ (duplicate_one t ns e (previous_of t ns names c e))) (compared t ns c)) (classes_of ns)

-- of types 0 and 1 code 1 alone
former_fine : (t : ℕ) → t ≤ 1 → (ns : List ℕ) (e : ℕ) (p : Place) → fine (1 ∷ []) (duplicate_by t ns e p) ≡ true
unfolding duplicate_by redeclaration clash_code
former_fine t s ns e p = rw (no_typescript t s) (simp (fine_if, fine_error, fine_clear, both_true))

pub former_duplicates : (t : ℕ) → t ≤ 1 → (ns names : List ℕ) → Coded (1 ∷ []) (duplicate_elements t ns names)
unfolding duplicate_elements duplicates_in
former_duplicates t s ns names =
    coded_flat_map (1 ∷ []) (duplicates_in t ns names)
    (λ c. coded_flat_map (1 ∷ []) (λ e. listed (duplicate_at t ns names c e)) (λ e. coded (1 ∷ []) _ (former_fine t s ns e (previous_of t ns names c e))) (compared t ns c)) (classes_of ns)

super_fine : (ns : List ℕ) (n : ℕ) (r : Reach) → fine of_super (by_reach ns n r) ≡ true
super_fine ns n Legal = fine_clear of_super
super_fine ns n Illegal = simp (fine_if, fine_error, fine_clear, both_true)
super_fine ns n (Underived c) = fine_error of_super _
super_fine ns n Fails = fine_clear of_super

pub super_codes : (ns ss : List ℕ) (n : ℕ) → Coded of_super (listed (check_super ns ss n))
unfolding check_super
super_codes ns ss n = coded of_super _ (super_fine ns n (reach_of ns ss n))
