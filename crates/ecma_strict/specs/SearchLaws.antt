-- What the checks that search upward raise is what the operations that go down find: codes 4, 5, 6, 33, and 3, 14, 25.
use Rattle.check_diagnostics.specs.declared.Finding.{Finding}
use Rattle.std.specs.Prelude.{ℕ, ◌+◌, ◌≤◌, ◌<◌, ◌≡◌, List, Bool, true, cond, not, ◌&&◌, ◌||◌, eqb, Option, None}
use Rattle.std.proofs.Math.Path.{refl}
use Rattle.std.proofs.Common.{ap, sym, ◌∙◌, ⊎_elim, eq-or-lt_of_le, arith, eq-eqb, ne_eqb, eqb-true}
use Rattle.std.proofs.Math.Bool.{false}
use Rattle.std.proofs.lemmas.Bool.{eqb-false}
use Rattle.base_common.specs.Tests.{within}
use Rattle.base_common.proofs.Bools.{never, either, in_range_lem, range_of}
use Rattle.table_records.specs.Table.{kind_of, parent_of, count, flags_of, extra_of, span_start_of, span_end_of, has_flag}
use Rattle.table_records.specs.Facts.{Tree}
use Rattle.table_records.specs.Kinds as k
use Rattle.table_records.specs.Extras as extra
use Rattle.table_records.specs.NodeFlag as flag
use Rattle.table_names.specs.Name.{name_is}
use Rattle.table_names.specs.Words as word
use Rattle.table_children.specs.Children.{value_of, is_node}
use Rattle.table_ancestry.specs.Ancestry.{has_ancestor}
use Rattle.table_ancestry.proofs.AncestryLaws.{parent_in, ancestors_up}
use Rattle.check_diagnostics.specs.Finding.{error_at}
use Rattle.check_diagnostics.specs.Codes as code
use Rattle.check_diagnostics.specs.Contexts as context
use Rattle.table_scoping.specs.Scoping.{in_static_block}
use Rattle.check_identifiers.specs.Identifiers as its
use Rattle.check_identifiers.proofs.IdentifierLaws.{let_found, let_function, let_on, let_root, arguments_function, arguments_found, arguments_on, arguments_root}
use Rattle.check_expressions.specs.Expressions.{is_parameter, in_formal_parameters, in_parameter, in_block}
use Rattle.check_expressions.proofs.ExpressionLaws.{parameter_found, parameter_stop, parameter_on, parameter_root}
use Rattle.check_statements.specs.Statements.{check_for_of_statement, check_await_using}
use Rattle.refusal_standing.specs.Standing.{Placed}
use Rattle.ecma_trees.specs.Walk.{only}
use Rattle.ecma_trees.specs.Trail.{unit_of}
use Rattle.ecma_base.specs.Nodes.{of_check}
use Rattle.ecma_base.specs.Strict.{strict_code}
use Rattle.ecma_base.proofs.NodesLaws.{if_only}
use Rattle.ecma_names.specs.Identifiers.{eval_or_arguments, binds_eval, assigns_eval}
use Rattle.ecma_contains.specs.Contains.{await_expression, for_await, await_using, parameter, await_or_yield, lexical_declaration}
use Rattle.ecma_base.proofs.ContainsLaws.{positive, upward, unit_root, unit_here, unit_pass}
use Rattle.ecma_contains.specs.Changed.{scoped_in_block, let_edge, let_bound_said, field_edge, field_home, arguments_said, through_class_edge, await_in_parameter_said}

or_true : (b : Bool) → (b || true) ≡ true
or_true true = refl
or_true false = refl

-- CODES 4 AND 5
module _ (ns : List ℕ) (t : Tree ns) (n : ℕ) where
  abbrev let_raised : ℕ → Option Finding
  let_raised u = cond (lexical_declaration ns u) (error_at ns code.invalid_let_declaration n n context.none) None

  not_let : (u : ℕ) → eqb (kind_of ns u) k.VariableDeclaration ≡ false → let_raised u ≡ None
  not_let u e = rw e

  bound : (u : ℕ) → kind_of ns u ≡ k.VariableDeclaration → its.let_bound ns n u ≡ let_raised u
  bound u e = rw (eq-eqb (kind_of ns u) k.VariableDeclaration e) (go (eqb (extra_of ns u) extra.Var))
    where
      go : (b : Bool) → cond b None (error_at ns code.invalid_let_declaration n n context.none) ≡ cond (not b) (error_at ns code.invalid_let_declaration n n context.none) None
      go true = refl
      go false = refl

  let_is : (i : ℕ) → i < count ns → its.let_from ns n i ≡ let_raised (unit_of ns (let_edge ns) i)
  let_is = upward ns t (λ i. its.let_from ns n i ≡ let_raised (unit_of ns (let_edge ns) i)) first step
    where
      first : its.let_from ns n 0 ≡ let_raised (unit_of ns (let_edge ns) 0)
      first = let_root ns n ∙ sym (ap let_raised (unit_root ns t (let_edge ns)) ∙ not_let 0 (ap (λ (x : ℕ). eqb x k.VariableDeclaration) t.root))

      step : (i : ℕ) → 0 < i → i < count ns → its.let_from ns n (parent_of ns i) ≡ let_raised (unit_of ns (let_edge ns) (parent_of ns i)) → its.let_from ns n i ≡ let_raised (unit_of ns (let_edge ns) i)
      step i z h p = go (eqb (kind_of ns (parent_of ns i)) k.VariableDeclaration) refl (within (kind_of ns (parent_of ns i)) k.Function k.Arrow) refl
        where
          go : (x : Bool) → eqb (kind_of ns (parent_of ns i)) k.VariableDeclaration ≡ x → (y : Bool) → within (kind_of ns (parent_of ns i)) k.Function k.Arrow ≡ y → its.let_from ns n i ≡ let_raised (unit_of ns (let_edge ns) i)
          go true x y e =
              let q = eqb-true (kind_of ns (parent_of ns i)) k.VariableDeclaration x in
              let edge : let_edge ns (parent_of ns i) i ≡ true = rw x (or_true (within (kind_of ns (parent_of ns i)) 0 2)) in
              let_found ns t n i (parent_of ns i) z h refl q ∙ bound (parent_of ns i) q ∙ ap let_raised (sym (unit_here ns t (let_edge ns) i z h edge))
          go false x true e =
              let r = range_of (kind_of ns (parent_of ns i)) 1 2 e in
              let r1 = r.1 in
              let edge : let_edge ns (parent_of ns i) i ≡ true = rw (in_range_lem (kind_of ns (parent_of ns i)) 0 2 (omega arith) (omega arith)) in
              let_function ns t n i (parent_of ns i) z h refl (eqb-false (kind_of ns (parent_of ns i)) k.VariableDeclaration x) e
              ∙ sym (ap let_raised (unit_here ns t (let_edge ns) i z h edge) ∙ not_let (parent_of ns i) x)
          go false x false e =
              let_on ns t n i (parent_of ns i) z h refl (eqb-false (kind_of ns (parent_of ns i)) k.VariableDeclaration x) e ∙ p
              ∙ ap let_raised (sym (unit_pass ns t (let_edge ns) i z h (λ c. shut c)))
            where
              out : (b : Bool) → within (kind_of ns (parent_of ns i)) 0 2 ≡ b → (kind_of ns (parent_of ns i) ≡ 0 → ⊥) → within (kind_of ns (parent_of ns i)) 0 2 ≡ false
              out true w c = let r = range_of (kind_of ns (parent_of ns i)) 0 2 w in let r1 = r.1 in never (sym (in_range_lem (kind_of ns (parent_of ns i)) 1 2 (positive (kind_of ns (parent_of ns i)) c) r1) ∙ e)
              out false w c = w

              shut : (kind_of ns (parent_of ns i) ≡ 0 → ⊥) → let_edge ns (parent_of ns i) i ≡ false
              shut c = rw (x, out (within (kind_of ns (parent_of ns i)) 0 2) refl c)

  module _ (source_type : ℕ) (ss names : List ℕ) (h : n < count ns) where
    -- s: strict code, e: eval or arguments, l: `let`, d: a lexical declaration binds it
    binding4 : (s e l d : Bool) (x : ℕ)
        → of_check 4 (cond s (cond e (error_at ns code.unexpected_identifier_assign n n x) None) (cond l (cond d (error_at ns code.invalid_let_declaration n n context.none) None) None)) ≡ only (e && s) n
    binding4 true true l d x = refl
    binding4 true false l d x = refl
    binding4 false true true true x = refl
    binding4 false true true false x = refl
    binding4 false true false d x = refl
    binding4 false false true true x = refl
    binding4 false false true false x = refl
    binding4 false false false d x = refl

    binding5 : (s e l d : Bool) (x : ℕ)
        → of_check 5 (cond s (cond e (error_at ns code.unexpected_identifier_assign n n x) None) (cond l (cond d (error_at ns code.invalid_let_declaration n n context.none) None) None)) ≡ only (l && (not s && d)) n
    binding5 true true true d x = refl
    binding5 true true false d x = refl
    binding5 true false true d x = refl
    binding5 true false false d x = refl
    binding5 false e true true x = refl
    binding5 false e true false x = refl
    binding5 false e false d x = refl

    -- CODE 4, at a binding
    pub binding_is : kind_of ns n ≡ k.BindingIdentifier → of_check code.unexpected_identifier_assign (its.check_binding_identifier source_type ns ss names n) ≡ only (binds_eval ns ss names n) n
    unfolding its.check_binding_identifier binds_eval
    binding_is q =
        rw (eq-eqb (kind_of ns n) k.BindingIdentifier q, let_is n h)
        (binding4 (strict_code ns ss n) (eval_or_arguments ns names n) (name_is ns names n word.let_word) (lexical_declaration ns (unit_of ns (let_edge ns) n)) (its.strict_context source_type ns n))

    -- CODE 5
    pub let_bound_is : kind_of ns n ≡ k.BindingIdentifier → of_check code.invalid_let_declaration (its.check_binding_identifier source_type ns ss names n) ≡ only (let_bound_said ns ss names n) n
    unfolding its.check_binding_identifier let_bound_said
    let_bound_is q =
        rw (eq-eqb (kind_of ns n) k.BindingIdentifier q, let_is n h)
        (binding5 (strict_code ns ss n) (eval_or_arguments ns names n) (name_is ns names n word.let_word) (lexical_declaration ns (unit_of ns (let_edge ns) n)) (its.strict_context source_type ns n))

-- CODES 4 AND 6, AT A REFERENCE
module _ (ns : List ℕ) (t : Tree ns) (n : ℕ) where
  abbrev arguments_raised : ℕ → Option Finding
  arguments_raised u = cond (field_home ns u) (error_at ns code.unexpected_arguments n n context.none) None

  -- the test of the search is that of the edge
  abbrev found : ℕ → Bool
  found i = (eqb (kind_of ns (parent_of ns i)) k.PropertyDefinition && is_node (value_of ns (parent_of ns i)) i) || eqb (kind_of ns (parent_of ns i)) k.StaticBlock

  found_is : (i : ℕ) → (its.is_field_value ns (parent_of ns i) i || eqb (kind_of ns (parent_of ns i)) k.StaticBlock) ≡ found i
  unfolding its.is_field_value
  found_is i = refl

  home_of : (p : ℕ) (x y z : Bool) → eqb (kind_of ns p) 29 ≡ x → eqb (kind_of ns p) 3 ≡ z → ((x && y) || z) ≡ true → field_home ns p ≡ true
  home_of p true y true a c e = rw c
  home_of p true y false a c e = rw (a, c)
  home_of p false y true a c e = rw c
  home_of p false y false a c e = never (sym e)

  edge_of : (w x z : Bool) → (x || z) ≡ true → ((w || z) || x) ≡ true
  edge_of true x z e = refl
  edge_of false true true e = refl
  edge_of false true false e = refl
  edge_of false false true e = refl
  edge_of false false false e = e

  no_edge_of : (w x z : Bool) → w ≡ false → (x || z) ≡ false → ((w || z) || x) ≡ false
  no_edge_of true x z a e = a
  no_edge_of false true z a e = never e
  no_edge_of false false true a e = never e
  no_edge_of false false false a e = refl

  arguments_is : (i : ℕ) → i < count ns → its.arguments_from ns n i ≡ arguments_raised (unit_of ns (field_edge ns) i)
  arguments_is = upward ns t (λ i. its.arguments_from ns n i ≡ arguments_raised (unit_of ns (field_edge ns) i)) first step
    where
      first : its.arguments_from ns n 0 ≡ arguments_raised (unit_of ns (field_edge ns) 0)
      first = arguments_root ns t n ∙ sym (ap arguments_raised (unit_root ns t (field_edge ns)) ∙ rw t.root)

      step : (i : ℕ) → 0 < i → i < count ns → its.arguments_from ns n (parent_of ns i) ≡ arguments_raised (unit_of ns (field_edge ns) (parent_of ns i)) → its.arguments_from ns n i ≡ arguments_raised (unit_of ns (field_edge ns) i)
      step i z h p = go (eqb (kind_of ns (parent_of ns i)) k.Function) refl (found i) refl
        where
          go : (x : Bool) → eqb (kind_of ns (parent_of ns i)) k.Function ≡ x → (y : Bool) → found i ≡ y → its.arguments_from ns n i ≡ arguments_raised (unit_of ns (field_edge ns) i)
          go true x y e =
              let q = eqb-true (kind_of ns (parent_of ns i)) k.Function x in
              let edge : field_edge ns (parent_of ns i) i ≡ true = rw q in
              arguments_function ns t n i (parent_of ns i) z h refl q ∙ sym (ap arguments_raised (unit_here ns t (field_edge ns) i z h edge) ∙ rw q)
          go false x true e =
              let edge : field_edge ns (parent_of ns i) i ≡ true =
              edge_of (within (kind_of ns (parent_of ns i)) 0 1) (eqb (kind_of ns (parent_of ns i)) 29 && is_node (value_of ns (parent_of ns i)) i) (eqb (kind_of ns (parent_of ns i)) 3) e in
              let home : field_home ns (parent_of ns i) ≡ true = home_of (parent_of ns i) (eqb (kind_of ns (parent_of ns i)) 29) (is_node (value_of ns (parent_of ns i)) i) (eqb (kind_of ns (parent_of ns i)) 3) refl refl e in
              arguments_found ns t n i (parent_of ns i) z h refl (eqb-false (kind_of ns (parent_of ns i)) k.Function x) (found_is i ∙ e)
              ∙ sym (ap arguments_raised (unit_here ns t (field_edge ns) i z h edge) ∙ rw home)
          go false x false e =
              arguments_on ns t n i (parent_of ns i) z h refl (eqb-false (kind_of ns (parent_of ns i)) k.Function x) (found_is i ∙ e) ∙ p
              ∙ ap arguments_raised (sym (unit_pass ns t (field_edge ns) i z h (λ c. shut c)))
            where
              out : (b : Bool) → within (kind_of ns (parent_of ns i)) 0 1 ≡ b → (kind_of ns (parent_of ns i) ≡ 0 → ⊥) → within (kind_of ns (parent_of ns i)) 0 1 ≡ false
              out true w c =
                  let r = range_of (kind_of ns (parent_of ns i)) 0 1 w in
                  let r1 = r.1 in
                  let r2 = positive (kind_of ns (parent_of ns i)) c in
                  absurd (eqb-false (kind_of ns (parent_of ns i)) 1 x (omega arith))
              out false w c = w

              shut : (kind_of ns (parent_of ns i) ≡ 0 → ⊥) → field_edge ns (parent_of ns i) i ≡ false
              shut c =
                  no_edge_of (within (kind_of ns (parent_of ns i)) 0 1) (eqb (kind_of ns (parent_of ns i)) 29 && is_node (value_of ns (parent_of ns i)) i) (eqb (kind_of ns (parent_of ns i)) 3)
                  (out (within (kind_of ns (parent_of ns i)) 0 1) refl c) e

  -- a field or a static block stands in the body of a class
  module _ (w : Placed ns) where
    body_above : (p : ℕ) → p < count ns → field_home ns p ≡ true → kind_of ns (parent_of ns p) ≡ k.ClassBody
    body_above p h e =
        ⊎_elim (λ q. w.static_block p h (eqb-true (kind_of ns p) 3 q))
        (λ q. let z = eqb-true (kind_of ns p) 29 q in w.element p h (omega arith) (omega arith))
        (either (eqb (kind_of ns p) 3) (eqb (kind_of ns p) 29) e)

    above : (i : ℕ) → 0 < i → i < count ns → its.in_class_body ns i ≡ (within (kind_of ns (parent_of ns i)) k.ClassBody k.ClassBody || its.in_class_body ns (parent_of ns i))
    unfolding has_ancestor
    above i z h = ancestors_up (λ a r. within (kind_of ns a) k.ClassBody k.ClassBody || r) false ns t i z h

    not_root : (p : ℕ) → field_home ns p ≡ true → 0 < p
    not_root p e = ⊎_elim (λ (q : 0 ≡ p). never (sym e ∙ ap (λ (x : ℕ). field_home ns x) (sym q) ∙ rw t.root)) (λ (z : 0 < p). z) (eq-or-lt_of_le (omega arith))

    home_in_class : (i : ℕ) → i < count ns → field_home ns (unit_of ns (field_edge ns) i) ≡ true → its.in_class_body ns i ≡ true
    home_in_class = upward ns t (λ i. field_home ns (unit_of ns (field_edge ns) i) ≡ true → its.in_class_body ns i ≡ true) first step
      where
        first : field_home ns (unit_of ns (field_edge ns) 0) ≡ true → its.in_class_body ns 0 ≡ true
        first e = never (sym e ∙ ap (λ (x : ℕ). field_home ns x) (unit_root ns t (field_edge ns)) ∙ rw t.root)

        step : (i : ℕ) → 0 < i → i < count ns → (field_home ns (unit_of ns (field_edge ns) (parent_of ns i)) ≡ true → its.in_class_body ns (parent_of ns i) ≡ true)
            → field_home ns (unit_of ns (field_edge ns) i) ≡ true → its.in_class_body ns i ≡ true
        step i z h p e = above i z h ∙ go (field_edge ns (parent_of ns i) i) refl
          where
            go : (b : Bool) → field_edge ns (parent_of ns i) i ≡ b → (within (kind_of ns (parent_of ns i)) k.ClassBody k.ClassBody || its.in_class_body ns (parent_of ns i)) ≡ true
            go true q =
                let l = parent_in ns t i h in
                let f : field_home ns (parent_of ns i) ≡ true = ap (λ (x : ℕ). field_home ns x) (sym (unit_here ns t (field_edge ns) i z h q)) ∙ e in
                let c : kind_of ns (parent_of ns (parent_of ns i)) ≡ 27 = body_above (parent_of ns i) l f in
                let r : its.in_class_body ns (parent_of ns i) ≡ true = above (parent_of ns i) (not_root (parent_of ns i) f) l ∙ rw c in
                rw r (or_true (within (kind_of ns (parent_of ns i)) 27 27))
            go false q =
                let u : unit_of ns (field_edge ns) i ≡ unit_of ns (field_edge ns) (parent_of ns i) = unit_pass ns t (field_edge ns) i z h (λ c. q) in
                rw (p (ap (λ (x : ℕ). field_home ns x) (sym u) ∙ e)) (or_true (within (kind_of ns (parent_of ns i)) 27 27))

    -- v: an invalid target, a: `arguments`, c: in a class, f: in a field or a static block
    reference6 : (v a c f : Bool) (x : ℕ) → (f ≡ true → c ≡ true)
        → of_check 6 (cond v (error_at ns code.unexpected_identifier_assign n n x) (cond (a && c) (cond f (error_at ns code.unexpected_arguments n n context.none) None) None)) ≡ only (a && (not v && f)) n
    reference6 true true c f x h = refl
    reference6 true false c f x h = refl
    reference6 false true true true x h = refl
    reference6 false true true false x h = refl
    reference6 false true false true x h = never (sym (h refl))
    reference6 false true false false x h = refl
    reference6 false false c f x h = refl

    reference4 : (v a c f : Bool) (x : ℕ)
        → of_check 4 (cond v (error_at ns code.unexpected_identifier_assign n n x) (cond (a && c) (cond f (error_at ns code.unexpected_arguments n n context.none) None) None)) ≡ only v n
    reference4 true a c f x = refl
    reference4 false true true true x = refl
    reference4 false true true false x = refl
    reference4 false true false f x = refl
    reference4 false false c f x = refl

    module _ (source_type : ℕ) (ss names : List ℕ) (h : n < count ns) where
      -- CODE 4, at a reference
      pub reference_is : kind_of ns n ≡ k.IdentifierReference → of_check code.unexpected_identifier_assign (its.check_identifier_reference source_type ns ss names n) ≡ only (assigns_eval ns ss names n) n
      unfolding its.check_identifier_reference assigns_eval
      reference_is q =
          rw (eq-eqb (kind_of ns n) k.IdentifierReference q, arguments_is n h)
          (reference4 (its.is_invalid_target ns ss names n) (name_is ns names n word.arguments_word) (its.in_class_body ns n) (field_home ns (unit_of ns (field_edge ns) n)) (its.strict_context source_type ns n))

      -- CODE 6
      pub arguments_said_is : kind_of ns n ≡ k.IdentifierReference → of_check code.unexpected_arguments (its.check_identifier_reference source_type ns ss names n) ≡ only (arguments_said ns ss names n) n
      unfolding its.check_identifier_reference arguments_said assigns_eval
      arguments_said_is q =
          rw (eq-eqb (kind_of ns n) k.IdentifierReference q, arguments_is n h)
          (reference6 (its.is_invalid_target ns ss names n) (name_is ns names n word.arguments_word) (its.in_class_body ns n) (field_home ns (unit_of ns (field_edge ns) n)) (its.strict_context source_type ns n) (home_in_class n h))

-- CODE 33
module _ (ns : List ℕ) (t : Tree ns) where
  parameter_same : (a : ℕ) → is_parameter ns a ≡ parameter ns a
  unfolding is_parameter
  parameter_same a = refl

  not_parameter : (a : ℕ) → kind_of ns a ≤ 2 → parameter ns a ≡ false
  not_parameter a h = rw (ne_eqb (kind_of ns a) 49 (λ z. omega arith), ne_eqb (kind_of ns a) 51 (λ z. omega arith))

  parameters_is : (i : ℕ) → i < count ns → in_formal_parameters ns i ≡ parameter ns (unit_of ns (through_class_edge ns) i)
  parameters_is = upward ns t (λ i. in_formal_parameters ns i ≡ parameter ns (unit_of ns (through_class_edge ns) i)) first step
    where
      first : in_formal_parameters ns 0 ≡ parameter ns (unit_of ns (through_class_edge ns) 0)
      first = parameter_root ns ∙ sym (ap (λ (x : ℕ). parameter ns x) (unit_root ns t (through_class_edge ns)) ∙ not_parameter 0 (let z = t.root in omega arith))

      step : (i : ℕ) → 0 < i → i < count ns → in_formal_parameters ns (parent_of ns i) ≡ parameter ns (unit_of ns (through_class_edge ns) (parent_of ns i)) → in_formal_parameters ns i ≡ parameter ns (unit_of ns (through_class_edge ns) i)
      step i z h p = go (parameter ns (parent_of ns i)) refl (within (kind_of ns (parent_of ns i)) 0 2) refl
        where
          go : (x : Bool) → parameter ns (parent_of ns i) ≡ x → (y : Bool) → within (kind_of ns (parent_of ns i)) 0 2 ≡ y → in_formal_parameters ns i ≡ parameter ns (unit_of ns (through_class_edge ns) i)
          go true x y e =
              let edge : through_class_edge ns (parent_of ns i) i ≡ true = rw x (or_true (within (kind_of ns (parent_of ns i)) 0 2)) in
              parameter_found ns t i (parent_of ns i) z h refl (parameter_same (parent_of ns i) ∙ x) ∙ sym (ap (λ (x : ℕ). parameter ns x) (unit_here ns t (through_class_edge ns) i z h edge) ∙ x)
          go false x true e =
              let edge : through_class_edge ns (parent_of ns i) i ≡ true = rw e in
              parameter_stop ns t i (parent_of ns i) z h refl (parameter_same (parent_of ns i) ∙ x) e ∙ sym (ap (λ (x : ℕ). parameter ns x) (unit_here ns t (through_class_edge ns) i z h edge) ∙ x)
          go false x false e =
              parameter_on ns t i (parent_of ns i) z h refl (parameter_same (parent_of ns i) ∙ x) e ∙ p
              ∙ ap (λ (x : ℕ). parameter ns x) (sym (unit_pass ns t (through_class_edge ns) i z h (λ c. rw (e, x))))

  pub parameter_is : (n : ℕ) → n < count ns → await_or_yield ns n ≡ true → of_check code.await_or_yield_in_parameter (in_parameter ns n) ≡ only (await_in_parameter_said ns n) n
  unfolding in_parameter await_in_parameter_said
  parameter_is n h q = rw (q, parameters_is n h) (if_only 33 (span_start_of ns n) (span_end_of ns n) n context.none (parameter ns (unit_of ns (through_class_edge ns) n)))

-- CODES 3, 14 AND 25, by scopes
module _ (ns ss : List ℕ) (n : ℕ) where
  pub await_block_is : kind_of ns n ≡ k.Await → of_check code.class_static_block_await (in_block ns ss n) ≡ only (await_expression ns n && scoped_in_block ns ss n) n
  unfolding in_block in_static_block scoped_in_block
  await_block_is q = rw (eq-eqb (kind_of ns n) k.Await q) (if_only 3 (span_start_of ns n) (span_start_of ns n + 5) n context.none (scoped_in_block ns ss n))

  pub await_using_is : kind_of ns n ≡ k.VariableDeclaration → of_check code.class_static_block_await_using (check_await_using ns ss n) ≡ only (await_using ns n && scoped_in_block ns ss n) n
  unfolding check_await_using in_static_block scoped_in_block
  await_using_is q = rw (eq-eqb (kind_of ns n) k.VariableDeclaration q) (if_only 14 (span_start_of ns n) (span_end_of ns n) n context.none (eqb (extra_of ns n) extra.AwaitUsing && scoped_in_block ns ss n))

  pub for_await_is : kind_of ns n ≡ k.ForOf → of_check code.class_static_block_for_await (check_for_of_statement ns ss n) ≡ only (for_await ns n && scoped_in_block ns ss n) n
  unfolding check_for_of_statement in_static_block scoped_in_block
  for_await_is q = rw (eq-eqb (kind_of ns n) k.ForOf q) (if_only 25 (span_start_of ns n) (span_end_of ns n) n context.none (has_flag (flags_of ns n) flag.ForAwait && scoped_in_block ns ss n))
