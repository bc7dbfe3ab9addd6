-- What the check of `delete` raises is what 13.5.1.1 says.
use Rattle.check_diagnostics.specs.declared.Finding.{Finding}
use Rattle.table_records.specs.declared.NodeId.{NodeId}
use Prim.Native.Nat.{ℕ, zero, suc, ◌+◌, ◌≤◌, ◌<◌}
use Rattle.std.specs.Prelude.{◌≡◌, List, [], Bool, ◌&&◌, ◌||◌, Option, Some, None}
use Rattle.std.proofs.Math.Path.{refl, sym}
use Rattle.std.proofs.Common.{ap, subst, ◌∙◌, arith}
use Rattle.std.proofs.Math.Bool.{true, false, cond}
use borrow.Author.Tests.{eq-eqb, ne_eqb, eqb-true}
use Rattle.std.proofs.Math.Dec.{eqb}
use Rattle.base_common.proofs.UptoLaws.{and_left_lem}
use Rattle.base_common.proofs.Bools.{in_range_lem}
use Rattle.table_records.specs.Table.{kind_of, role_of, parent_of, count, flags_of, extra_of, has_flag}
use Rattle.table_records.specs.Facts.{Tree}
use Rattle.table_records.specs.Kinds as k
use Rattle.table_records.specs.NodeFlag as flag
use Rattle.table_children.specs.Children.{is_child, first_node, value_of, inner_of}
use Rattle.table_children.proofs.ChildrenLaws.{child_other, found_child}
use Rattle.check_diagnostics.specs.Finding.{error_at}
use Rattle.check_diagnostics.specs.Codes as code
use Rattle.check_diagnostics.specs.Contexts as context
use Rattle.refusal_fields.specs.Fields.{Listed}
use Rattle.check_expressions.specs.Expressions.{inner_expression, error_part, field_of, chain_finding, delete_of, delete_finding, check_unary_expression}
use Rattle.check_expressions.proofs.ExpressionLaws.{inner_bare, inner_empty, inner_on}
use Rattle.ecma_trees.specs.Rose.{Rose, Roses, node, rnil, rcons, idx, parts_of, tree_at, fold_parts}
use Rattle.ecma_trees.proofs.RoseLaws.{PlacedAll, WholeAll, parts_placed, parts_whole, fold_parts_is}
use Rattle.ecma_trees.specs.Walk.{only}
use Rattle.ecma_base.specs.Nodes.{of_check}
use Rattle.ecma_base.specs.Strict.{strict_code}
use Rattle.ecma_literals.specs.Delete.{parenthesized, ultimately, ultimately_first, name_reference, first_is_private, private_reference, derives, deletes_name, deletes_private}
use Rattle.ecma_literals.specs.Changed.{deletes_private_anywhere}

-- the first part of a node in its tree is its first child
abbrev pub first_in : Roses → Option NodeId
first_in rnil = None
first_in (rcons t ts) = Some (record { 0 = idx t })

module _ (ns : List ℕ) (w : Tree ns) (v : Listed ns) where
  pub inner_is : (i : ℕ) → i < count ns → inner_of ns i ≡ first_in (parts_of ns i)
  unfolding first_node is_child
  inner_is i h =
      fold_parts_is (λ k r. cond (is_child ns i 0 55 0 7 k) (Some (record { 0 = k })) r) None ns w i (λ j r n. rw (child_other ns i 0 55 0 7 j n)) h
      ∙ go (parts_of ns i) (parts_placed ns i h)
    where
      fit : (j : ℕ) → parent_of ns j ≡ i → j < count ns → is_child ns i 0 55 0 7 j ≡ true
      fit j q l = rw (eq-eqb (parent_of ns j) i q, in_range_lem (kind_of ns j) 0 55 (omega arith) (v.kind j l), in_range_lem (role_of ns j) 0 7 (omega arith) (v.role j l))

      go : (ks : Roses) → PlacedAll ns i ks → fold_parts (λ k r. cond (is_child ns i 0 55 0 7 k) (Some (record { 0 = k })) r) None ks ≡ first_in ks
      go rnil p = refl
      go (rcons (node j js) ts) p = rw (fit j p.0.up p.0.fits)

  -- the phrase that an expression derives is that of the expression without parentheses
  module _ (phrase : Rose → Bool) (none : (e : ℕ) (ks : Roses) → parenthesized ns e ≡ true → phrase (node e ks) ≡ false) where
    derived_by : (f i : ℕ) → count ns ≤ i + f → i < count ns → ultimately ns phrase (tree_at ns i) ≡ phrase (tree_at ns (inner_expression ns i))
    unfolding ultimately
    derived_by zero i hf h = absurd (omega arith)
    derived_by (suc f) i hf h =
        go (parenthesized ns i) refl (parts_of ns i) refl (inner_is i h) (parts_whole ns i h) (λ m x y. derived_by f m (omega arith) y)
      where
        go : (b : Bool) → parenthesized ns i ≡ b → (ks : Roses) → parts_of ns i ≡ ks → inner_of ns i ≡ first_in (parts_of ns i) → WholeAll ns (parts_of ns i)
            → ((m : ℕ) → i < m → m < count ns → ultimately ns phrase (tree_at ns m) ≡ phrase (tree_at ns (inner_expression ns m)))
            → cond (parenthesized ns i) (ultimately_first ns phrase (parts_of ns i)) (phrase (tree_at ns i)) ≡ phrase (tree_at ns (inner_expression ns i))
        go false q ks e c z r = rw (q, inner_bare ns i q)
        go true q rnil e c z r = rw (q, inner_empty ns i q (rw e at c)) (ap (λ js. ultimately_first ns phrase js) e ∙ sym (none i (parts_of ns i) q))
        go true q (rcons (node m js) ts) e c z r =
            let x : inner_of ns i ≡ Some (record { 0 = m }) = rw e at c in
            let y = found_child ns i 0 55 0 7 (i + 1) m x in
            let l = y.from in
            let u : js ≡ parts_of ns m = (subst (λ ks. WholeAll ns ks) e z).0.0 in
            rw (q, e, inner_on ns i m h q x, u) (r m (omega arith) y.below)

    pub derived : (i : ℕ) → i < count ns → ultimately ns phrase (tree_at ns i) ≡ phrase (tree_at ns (inner_expression ns i))
    derived i h = derived_by (count ns) i (omega arith) h

  not_name : (e : ℕ) (ks : Roses) → parenthesized ns e ≡ true → name_reference ns (node e ks) ≡ false
  unfolding name_reference
  not_name e ks q =
      let z = eqb-true (kind_of ns e) 55 (and_left_lem (eqb (kind_of ns e) 55) (eqb (extra_of ns e) 1) q) in
      ne_eqb (kind_of ns e) 32 (λ y. omega arith)

  not_private : (e : ℕ) (ks : Roses) → parenthesized ns e ≡ true → private_reference ns (node e ks) ≡ false
  unfolding private_reference
  not_private e ks q =
      let z = eqb-true (kind_of ns e) 55 (and_left_lem (eqb (kind_of ns e) 55) (eqb (extra_of ns e) 1) q) in
      rw (ne_eqb (kind_of ns e) 41 (λ y. omega arith), ne_eqb (kind_of ns e) 46 (λ y. omega arith))

  -- what is raised for the expression e, which has no parentheses around it
  module _ (ss : List ℕ) (n : ℕ) where
    part : (f : Option NodeId) → of_check 32 (error_part ns code.delete_private_field n f) ≡ only true n
    part (Some m) = refl
    part None = refl

    part_other : (f : Option NodeId) → of_check 31 (error_part ns code.delete_private_field n f) ≡ []
    part_other (Some m) = refl
    part_other None = refl

    chain31 : (f : Option NodeId) → of_check 31 (chain_finding ns n f) ≡ []
    chain31 (Some m) = go (eqb (kind_of ns m.0) k.PrivateField)
      where
        go : (b : Bool) → of_check 31 (cond b (error_part ns code.delete_private_field n (field_of ns m.0)) None) ≡ []
        go true = part_other (field_of ns m.0)
        go false = refl
    chain31 None = refl

    chain32 : (ks : Roses) → of_check 32 (chain_finding ns n (first_in ks)) ≡ only (first_is_private ns ks) n
    chain32 rnil = refl
    chain32 (rcons t ts) = go (eqb (kind_of ns (idx t)) k.PrivateField)
      where
        go : (b : Bool) → of_check 32 (cond b (error_part ns code.delete_private_field n (field_of ns (idx t))) None) ≡ only b n
        go true = part (field_of ns (idx t))
        go false = refl

    of31 : (e : ℕ) → of_check 31 (delete_of ns ss n e) ≡ only (strict_code ns ss n && name_reference ns (tree_at ns e)) n
    unfolding delete_of name_reference
    of31 e = go (eqb (kind_of ns e) k.IdentifierReference) (eqb (kind_of ns e) k.PrivateField) (eqb (kind_of ns e) k.Chain) (strict_code ns ss n)
      where
        go : (a b c s : Bool)
            → of_check 31 (cond a (cond s (error_at ns code.delete_of_unqualified n e context.none) None) (cond b (error_at ns code.delete_private_field n e context.none) (cond c (chain_finding ns n (inner_of ns e)) None)))
            ≡ only (s && a) n
        go true b c true = refl
        go true b c false = refl
        go false true c true = refl
        go false true c false = refl
        go false false true true = chain31 (inner_of ns e)
        go false false true false = chain31 (inner_of ns e)
        go false false false true = refl
        go false false false false = refl

    of32 : (e : ℕ) → e < count ns → of_check 32 (delete_of ns ss n e) ≡ only (private_reference ns (tree_at ns e)) n
    unfolding delete_of private_reference
    of32 e h = rw (inner_is e h) (go (eqb (kind_of ns e) k.IdentifierReference) refl (eqb (kind_of ns e) k.PrivateField) (eqb (kind_of ns e) k.Chain) refl refl (strict_code ns ss n))
      where
        go : (a : Bool) → eqb (kind_of ns e) k.IdentifierReference ≡ a → (b c : Bool) → eqb (kind_of ns e) k.PrivateField ≡ b → eqb (kind_of ns e) k.Chain ≡ c → (s : Bool)
            → of_check 32 (cond a (cond s (error_at ns code.delete_of_unqualified n e context.none) None) (cond b (error_at ns code.delete_private_field n e context.none) (cond c (chain_finding ns n (first_in (parts_of ns e))) None)))
            ≡ only (b || (c && first_is_private ns (parts_of ns e))) n
        go true q true c x y s = absurd (omega (arith, eqb-true (kind_of ns e) 32 q, eqb-true (kind_of ns e) 41 x))
        go true q false true x y s = absurd (omega (arith, eqb-true (kind_of ns e) 32 q, eqb-true (kind_of ns e) 46 y))
        go true q false false x y true = refl
        go true q false false x y false = refl
        go false q true c x y s = refl
        go false q false true x y s = chain32 (parts_of ns e)
        go false q false false x y s = refl

    inner_below_by : (f i : ℕ) → count ns ≤ i + f → i < count ns → inner_expression ns i < count ns
    inner_below_by zero i hf h = absurd (omega arith)
    inner_below_by (suc f) i hf h = go (parenthesized ns i) refl (inner_of ns i) refl (λ m x y. inner_below_by f m (omega arith) y)
      where
        go : (b : Bool) → parenthesized ns i ≡ b → (r : Option NodeId) → inner_of ns i ≡ r → ((m : ℕ) → i < m → m < count ns → inner_expression ns m < count ns) → inner_expression ns i < count ns
        go false q r e z = rw (inner_bare ns i q) h
        go true q None e z = rw (inner_empty ns i q e) h
        go true q (Some m) e z =
            let y = found_child ns i 0 55 0 7 (i + 1) m.0 e in
            let l = y.from in
            rw (inner_on ns i m.0 h q e) (z m.0 (omega arith) y.below)

    by31 : (f : Option NodeId) → value_of ns n ≡ f → of_check 31 (delete_finding ns ss n f) ≡ only (strict_code ns ss n && derives ns (name_reference ns) f) n
    by31 (Some m) e =
        let y = found_child ns n 0 55 1 1 (n + 1) m.0 e in
        rw (derived (name_reference ns) not_name m.0 y.below) (of31 (inner_expression ns m.0))
    by31 None e = go (strict_code ns ss n)
      where
        go : (b : Bool) → [] ≡ only (b && false) n
        go true = refl
        go false = refl

    by32 : (f : Option NodeId) → value_of ns n ≡ f → of_check 32 (delete_finding ns ss n f) ≡ only (derives ns (private_reference ns) f) n
    by32 (Some m) e =
        let y = found_child ns n 0 55 1 1 (n + 1) m.0 e in
        rw (derived (private_reference ns) not_private m.0 y.below) (of32 (inner_expression ns m.0) (inner_below_by (count ns) m.0 (omega arith) y.below))
    by32 None e = refl

    under : (c : ℕ) (d b : Bool) (r : Option Finding) → of_check c r ≡ only b n → of_check c (cond d r None) ≡ only (d && b) n
    under c true b r h = h
    under c false b r h = refl

    -- CODE 31
    pub delete_name : kind_of ns n ≡ k.Unary → of_check code.delete_of_unqualified (check_unary_expression ns ss n) ≡ only (deletes_name ns ss n) n
    unfolding check_unary_expression deletes_name
    delete_name q =
        rw (eq-eqb (kind_of ns n) k.Unary q)
        (under 31 (has_flag (flags_of ns n) flag.Delete) (strict_code ns ss n && derives ns (name_reference ns) (value_of ns n)) (delete_finding ns ss n (value_of ns n)) (by31 (value_of ns n) refl))

    -- CODE 32
    pub delete_private : kind_of ns n ≡ k.Unary → of_check code.delete_private_field (check_unary_expression ns ss n) ≡ only (deletes_private_anywhere ns n) n
    unfolding check_unary_expression deletes_private_anywhere
    delete_private q =
        rw (eq-eqb (kind_of ns n) k.Unary q)
        (under 32 (has_flag (flags_of ns n) flag.Delete) (derives ns (private_reference ns) (value_of ns n)) (delete_finding ns ss n (value_of ns n)) (by32 (value_of ns n) refl))

-- in strict code the changed rule is the standard's
pub delete_private_agrees : (ns ss : List ℕ) (n : ℕ) → strict_code ns ss n ≡ true → deletes_private_anywhere ns n ≡ deletes_private ns ss n
unfolding deletes_private_anywhere deletes_private
delete_private_agrees ns ss n e = rw e
