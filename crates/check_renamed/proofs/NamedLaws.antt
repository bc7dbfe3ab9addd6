-- The checks that ask for names.
use Rattle.table_records.specs.declared.ClassId.{ClassId}
use Rattle.table_records.specs.declared.NodeId.{NodeId}
use Rattle.std.specs.Prelude.{ℕ, ◌+◌, ◌*◌, ◌≡◌, Bool, true, false, ◌&&◌, eqb, length, Option, Some, None}
use Rattle.std.proofs.Math.Path.{refl, ap, fun_ext}
use Rattle.std.proofs.Common.{sym, ◌∙◌, arith}
use mathlib.Core.List.{List, [], ◌∷◌, flat_map}
use Rattle.std.proofs.Math.Bool.{cond}
use Rattle.base_common.specs.Upto.{upto}
use Rattle.base_common.proofs.UptoLaws.{and_left_lem}
use Rattle.table_records.specs.Table.{count, kind_of}
use Rattle.table_records.specs.Kinds as k
use Rattle.table_records.specs.Facts.{Named}
use Rattle.table_names.specs.Name.{name_of, name_is, same_name}
use Rattle.table_names.specs.Words as word
use Rattle.table_children.specs.Children.{keep, label_of, when_found}
use Rattle.check_diagnostics.specs.Finding.{listed}
use Rattle.check_diagnostics.proofs.Gather.{flat_keep, flat_same_lem}
use Rattle.check_jumps.specs.Jumps.{walk_up, same_label, labelled_break_at, labelled_continue_at, labeled_at, check_break_statement, check_continue_statement, check_labeled_statement}
use Rattle.check_identifiers.specs.Identifiers.{is_strict_word, check_identifier, check_binding_identifier, check_identifier_reference, check_directive}
use Rattle.check_expressions.specs.Expressions.{if_proto, proto_key, check_object_expression}
use Rattle.check_class_table.specs.Classes.{current_class, outer_classes}
use Rattle.check_class_table.specs.Elements.{name_at, has_name_at, element_name, has_name, fixed_name, enters, is_definition, is_private, is_compared, elements, privates, compared, has_private, is_declared}
use Rattle.check_class_table.proofs.ElementsLaws.{any_same}
use Rattle.check_duplicates.specs.declared.Place.{Place}
use Rattle.check_duplicates.specs.Duplicates.{side_of, is_earlier, previous_on, previous_of, clashes, clash_code, redeclaration, duplicate_by, duplicates_in, duplicate_elements}
use Rattle.check_classes.specs.ClassChecks.{is_reference, is_class, references, undeclared_at, undeclared_in, undeclared_by, constructors, constructor_span, first_pair, second_by, check_class}
use Rattle.code_tree.specs.Labels.{is_label}
use Rattle.table_renamed.specs.Alike.{Alike}
use Rattle.table_renamed.proofs.RenamedLaws.{label_in_lem}
use Rattle.table_renamed.proofs.TableLaws.{tables, size}
use Rattle.table_renamed.proofs.NameLaws.{cond_both, name_at_kind, at_key, at_label_lem, two_labels_lem, name_len}
use Rattle.check_renamed.specs.Unreserved.{Unreserved}
use Rattle.check_renamed.proofs.CheckLaws.{checks}

-- what is gathered from nodes that pass a test which both tables answer alike
flat_both : {A : Type 0} (f g : ℕ → List A) (p q : ℕ → Bool) (l : List ℕ) → ((m : ℕ) → p m ≡ q m) → ((m : ℕ) → p m ≡ true → f m ≡ g m) → flat_map f (keep p l) ≡ flat_map g (keep q l)
flat_both f g p q l e h = flat_keep f p l ∙ flat_same_lem _ _ (λ m. cond_both (p m) (q m) (f m) (g m) [] [] (e m) (h m) refl) l ∙ sym (flat_keep g q l)

module _ (ns names ms mnames : List ℕ) (r : Alike ns names ms mnames) where
  -- NAMES AND DIRECTIVES: at a node that has its old name
  other_identifier : (t : ℕ) (ss : List ℕ) (n : ℕ) → name_of ns names n ≡ name_of ms mnames n → check_identifier t ns ss names n ≡ check_identifier t ms ss mnames n
  unfolding check_identifier is_strict_word
  other_identifier t ss n e = simp (tables, checks, e, r.fields)

  pub binding : (t : ℕ) (ss : List ℕ) (n : ℕ) → name_of ns names n ≡ name_of ms mnames n → check_binding_identifier t ns ss names n ≡ check_binding_identifier t ms ss mnames n
  unfolding check_binding_identifier
  binding t ss n e = simp (tables, checks, e, r.fields)

  pub reference : (t : ℕ) (ss : List ℕ) (n : ℕ) → name_of ns names n ≡ name_of ms mnames n → check_identifier_reference t ns ss names n ≡ check_identifier_reference t ms ss mnames n
  unfolding check_identifier_reference
  reference t ss n e = simp (tables, checks, e, r.fields)

  pub directive : (ss : List ℕ) (n : ℕ) → name_of ns names n ≡ name_of ms mnames n → check_directive ns ss names n ≡ check_directive ms ss mnames n
  unfolding check_directive
  directive ss n e = simp (tables, e, r.fields)

  -- LABELS
  pub when_label : {R : Type 0} (x x' : ℕ → R) (y y' : R) (n : ℕ) → ((l : ℕ) → is_label ns l ≡ true → x l ≡ x' l) → y ≡ y' → when_found (label_of ns n) x y ≡ when_found (label_of ms n) x' y'
  when_label x x' y y' n h q = at_label_lem ns names ms mnames r (λ f. when_found f x y) (λ f. when_found f x' y') n h q

  pub same_label_lem : (l x : ℕ) → is_label ns l ≡ true → same_label ns names l x ≡ same_label ms mnames l x
  unfolding same_label
  same_label_lem l x h =
      cond_both (eqb (kind_of ns x) k.Labeled) (eqb (kind_of ms x) k.Labeled) _ _ None None (simp (tables, r.fields))
      (λ q. when_label (λ m. cond (same_name ns names m l) (Some (record { 0 = m })) None) (λ m. cond (same_name ms mnames m l) (Some (record { 0 = m })) None)
      None None x (λ m e. ap (λ b. cond b (Some (record { 0 = m })) None) (two_labels_lem ns names ms mnames r m l e h)) refl) refl

  break_at : (n l : ℕ) → is_label ns l ≡ true → labelled_break_at ns names n l ≡ labelled_break_at ms mnames n l
  unfolding labelled_break_at
  break_at n l h = fun_ext (λ x. fun_ext (λ s. simp (tables, checks, same_label_lem l x h, r.fields)))

  pub break : (n : ℕ) → check_break_statement ns names n ≡ check_break_statement ms mnames n
  unfolding walk_up
  break n =
      when_label (λ l. walk_up ns (labelled_break_at ns names n l) n) (λ l. walk_up ms (labelled_break_at ms mnames n l) n) _ _ n
      (λ l h. simp (tables, break_at n l h, r.fields)) (simp (checks, r.fields))

  continue_at : (n l : ℕ) → is_label ns l ≡ true → labelled_continue_at ns names n l ≡ labelled_continue_at ms mnames n l
  unfolding labelled_continue_at
  continue_at n l h = fun_ext (λ x. fun_ext (λ s. simp (tables, checks, same_label_lem l x h, r.fields)))

  pub continue : (n : ℕ) → check_continue_statement ns names n ≡ check_continue_statement ms mnames n
  unfolding walk_up
  continue n =
      when_label (λ l. walk_up ns (labelled_continue_at ns names n l) n) (λ l. walk_up ms (labelled_continue_at ms mnames n l) n) _ _ n
      (λ l h. simp (tables, continue_at n l h, r.fields)) (simp (checks, r.fields))

  labeled_at_lem : (n l : ℕ) → is_label ns l ≡ true → labeled_at ns names n l ≡ labeled_at ms mnames n l
  unfolding labeled_at
  labeled_at_lem n l h = fun_ext (λ x. fun_ext (λ s. simp (tables, same_label_lem l x h, r.fields)))

  pub labeled : (n : ℕ) → check_labeled_statement ns names n ≡ check_labeled_statement ms mnames n
  unfolding walk_up
  labeled n =
      when_label (λ l. walk_up ns (labeled_at ns names n l) n) (λ l. walk_up ms (labeled_at ms mnames n l) n) _ _ n
      (λ l h. simp (tables, labeled_at_lem n l h, r.fields)) refl

  -- OBJECTS
  proto_key_lem : (p : ℕ) → proto_key ns names p ≡ proto_key ms mnames p
  unfolding proto_key
  proto_key_lem p = rw (at_key ns names ms mnames r (if_proto ns names) (if_proto ms mnames) p (λ m l e. rw e (simp (tables, r.fields))) refl) (simp (tables, r.fields))

  pub object : (n : ℕ) → check_object_expression ns names n ≡ check_object_expression ms mnames n
  unfolding check_object_expression
  object n = simp (tables, checks, proto_key_lem, r.fields)

  -- ELEMENTS
  element_name_lem : (e : ℕ) → element_name ns names e ≡ element_name ms mnames e
  unfolding element_name
  element_name_lem e = at_key ns names ms mnames r (name_at ns names) (name_at ms mnames) e (λ m l h. h) refl

-- THE RESERVED-WORD CHECK: it raises nothing where it finds none of its words, and so at no label
word_clear : (t : ℕ) (ns ss names : List ℕ) (n : ℕ) → name_is ns names n word.await_word ≡ false → is_strict_word ns names n ≡ false → check_identifier t ns ss names n ≡ None
unfolding check_identifier
word_clear t ns ss names n a s = rw (a, s)

label_clear : (t : ℕ) (ns ss names : List ℕ) → Unreserved ns names → length ns ≡ count ns * 10 → (n : ℕ) → is_label ns n ≡ true → check_identifier t ns ss names n ≡ None
label_clear t ns ss names u whole n e = word_clear t ns ss names n (u.await n (label_in_lem ns whole n e) e) (u.strict n (label_in_lem ns whole n e) e)

module _ (ns names ms mnames : List ℕ) (r : Alike ns names ms mnames) (whole : length ns ≡ count ns * 10) (old : Unreserved ns names) (new : Unreserved ms mnames) where
  pub identifier : (t : ℕ) (ss : List ℕ) (n : ℕ) → check_identifier t ns ss names n ≡ check_identifier t ms ss mnames n
  identifier t ss n = go (is_label ns n) refl
    where
      go : (b : Bool) → is_label ns n ≡ b → check_identifier t ns ss names n ≡ check_identifier t ms ss mnames n
      go true e =
          let s = r.fields.size in
          label_clear t ns ss names old whole n e ∙ sym (label_clear t ms ss mnames new (omega arith) n (simp (tables, r.fields) at e))
      go false e = other_identifier ns names ms mnames r t ss n (r.others n e)

-- CLASSES, of source type t
module _ (ns names ms mnames : List ℕ) (r : Alike ns names ms mnames) (w : Named ns names) (v : Named ms mnames) (t : ℕ) where
  has_name_lem : (e : ℕ) → has_name ns e ≡ has_name ms e
  has_name_lem e = at_key ns names ms mnames r (has_name_at ns) (has_name_at ms) e (λ m l h. rw (name_len ns names ms mnames r w v m l h) (simp (tables, r.fields))) refl

  fixed_name_lem : (e : ℕ) → fixed_name t ns e ≡ fixed_name t ms e
  unfolding fixed_name
  fixed_name_lem e = rw (has_name_lem e) (simp (tables, r.fields))

  its_enters : enters t ns ≡ enters t ms
  unfolding enters
  its_enters = fun_ext (λ e. rw (fixed_name_lem e) (simp (tables, checks, r.fields)))

  definition : is_definition ns ≡ is_definition ms
  definition = fun_ext (λ e. simp (tables, r.fields))

  private : is_private ns ≡ is_private ms
  private = fun_ext (λ e. simp (tables, r.fields))

  its_elements : (c : ℕ) → elements t ns c ≡ elements t ms c
  unfolding elements
  its_elements c = simp (its_enters, definition, tables, r.fields)

  its_privates : (c : ℕ) → privates t ns c ≡ privates t ms c
  unfolding privates
  its_privates c = simp (private, its_elements)

  is_compared_lem : is_compared t ns ≡ is_compared t ms
  is_compared_lem = fun_ext (λ e. simp (tables, r.fields))

  its_compared : (c : ℕ) → compared t ns c ≡ compared t ms c
  unfolding compared
  its_compared c = simp (is_compared_lem, its_elements)

  -- DUPLICATES
  side_of_lem : (e : ℕ) → side_of ns e ≡ side_of ms e
  unfolding side_of
  side_of_lem e = simp (tables, r.fields)

  earlier : (e side : ℕ) → is_earlier ns names e side ≡ is_earlier ms mnames e side
  earlier e side = fun_ext (λ d. simp (element_name_lem ns names ms mnames r, side_of_lem, tables, r.fields))

  previous : (c e : ℕ) → previous_of t ns names c e ≡ previous_of t ms mnames c e
  unfolding previous_of previous_on
  previous c e = simp (earlier, side_of_lem, its_elements)

  duplicate_by_lem : (e : ℕ) (p : Place) → duplicate_by t ns e p ≡ duplicate_by t ms e p
  unfolding duplicate_by clashes redeclaration clash_code
  duplicate_by_lem e p = simp (tables, checks, r.fields)

  duplicates_in_lem : duplicates_in t ns names ≡ duplicates_in t ms mnames
  unfolding duplicates_in
  duplicates_in_lem = fun_ext (λ c. simp (duplicate_by_lem, previous, its_compared))

  pub duplicates : duplicate_elements t ns names ≡ duplicate_elements t ms mnames
  unfolding duplicate_elements
  duplicates = simp (duplicates_in_lem, checks, r.fields)

  -- PRIVATE NAMES AND CONSTRUCTORS
  has_private_lem : (c : ℕ) (name : List ℕ) → has_private t ns names c name ≡ has_private t ms mnames c name
  unfolding has_private
  has_private_lem c name = simp (element_name_lem ns names ms mnames r, its_privates)

  declared : (c : ℕ) (name : List ℕ) → is_declared t ns names c name ≡ is_declared t ms mnames c name
  unfolding is_declared
  declared c name =
      any_same (λ d. has_private t ns names d name) (λ d. has_private t ms mnames d name) (λ d. has_private_lem d name) (c ∷ outer_classes ns c)
      ∙ simp (checks, r.fields)

  undeclared_at_lem : (n c m : ℕ) → name_of ns names m ≡ name_of ms mnames m → undeclared_at t ns names n c m ≡ undeclared_at t ms mnames n c m
  unfolding undeclared_at
  undeclared_at_lem n c m e = simp (e, declared, tables, r.fields)

  undeclared_in_lem : (n c : ℕ) → undeclared_in t ns names n c ≡ undeclared_in t ms mnames n c
  unfolding undeclared_in references
  undeclared_in_lem n c =
      flat_both (λ m. listed (undeclared_at t ns names n c m)) (λ m. listed (undeclared_at t ms mnames n c m)) (λ m. is_reference ns m && is_class c (current_class ns m))
      (λ m. is_reference ms m && is_class c (current_class ms m)) (upto (c + 1) (count ns)) (λ m. simp (tables, checks, r.fields))
      (λ m q. ap listed (undeclared_at_lem n c m (name_at_kind ns names ms mnames r m k.PrivateIdentifier (λ z. omega arith) (and_left_lem _ _ (and_left_lem _ _ q)))))
      ∙ simp (size ns ms r.fields)

  undeclared_by_lem : (n : ℕ) (c : Option ClassId) → undeclared_by t ns names n c ≡ undeclared_by t ms mnames n c
  undeclared_by_lem n (Some c) = undeclared_in_lem n c.0
  undeclared_by_lem n None = refl

  its_constructors : (c : ℕ) → constructors ns c ≡ constructors ms c
  unfolding constructors
  its_constructors c = simp (tables, checks, r.fields)

  constructor_span_lem : (e : ℕ) → constructor_span t ns e ≡ constructor_span t ms e
  unfolding constructor_span
  constructor_span_lem e = rw (fixed_name_lem e) (simp (tables, checks, r.fields))

  first_pair_lem : (n : ℕ) (l : List ℕ) → first_pair t ns n l ≡ first_pair t ms n l
  first_pair_lem n [] = refl
  first_pair_lem n (a ∷ []) = refl
  first_pair_lem n (a ∷ b ∷ l) = simp constructor_span_lem

  second_by_lem : (n : ℕ) (f : Option NodeId) → second_by t ns n f ≡ second_by t ms n f
  second_by_lem n (Some b) = simp (first_pair_lem, its_constructors)
  second_by_lem n None = refl

  pub class : (n : ℕ) → check_class t ns names n ≡ check_class t ms mnames n
  unfolding check_class
  class n = simp (undeclared_by_lem, second_by_lem, tables, checks, r.fields)
