-- What a step of a jump's way up knows: the arrays' numbers at a node of the unit, and the unit's own node.
use Rattle.std.specs.Prelude.{Bool}
use Rattle.std.proofs.Common.{eq-eqb, ne_eqb}
use Rattle.table_records.specs.Table.{kind_of}
use Rattle.table_records.specs.Kinds as k
use Rattle.route_completion.specs.Tree.{simple, brk, con, ret, thr}
use Rattle.route_completion.specs.Sem.{normal, breaks, continues, returns, throws, comp_of}
use Rattle.code_tree.specs.Labels.{lab_at}
use Rattle.code_tree.specs.Statements.{leaf_at}
use Rattle.std.specs.Prelude.{ℕ, suc, ◌+◌, ◌-◌, ◌≤◌, ◌<◌, ◌≡◌, refl, List, true, false, cond, ◌||◌, eqb, get_or}
use Rattle.std.proofs.Math.Path.{ap}
use Rattle.std.proofs.Common.{sym, ◌∙◌, arith}
use Rattle.table_records.specs.Table.{count}
use Rattle.route_completion.specs.Sem.{elem}
use Rattle.code_flat.specs.Code.{at, top}
use Rattle.code_tree.specs.Labels.{id_at}
use Rattle.code_tree.specs.Parts.{up_of, shape_at, is_labeled}
use Rattle.code_layout.specs.Widths.{in_unit, width_at}
use Rattle.code_layout.specs.Context.{offset_at}
use Rattle.code_layout.proofs.LayoutLaws.{context_root}
use Rattle.code_layout.proofs.Stands.{in_from}
use Rattle.code_widths.proofs.WidthsLaws.{fits, root_small}
use Rattle.code_targets.specs.Targets.{target, depth_at, labels_at}
use Rattle.code_targets.proofs.TargetsLaws.{target_root}
use Rattle.code_contexts.specs.Contexts.{Ready, Follow}
use Rattle.code_branch.specs.Branch.{comp_by, end_by, is_jump, Arrays}
use Rattle.code_branch.proofs.BranchLaws.{labels_in}
use Rattle.code_branch.specs.declared.Jump.{Jump}
use Rattle.code_branch.specs.declared.Jump.TheVariants.{Break, Continue, Return, Throw}

module _ {ns names : List ℕ} {b : ℕ} {widths levels offsets follows : List ℕ} (A : Arrays ns names b widths levels offsets follows) (n : ℕ) (l : n < count ns) (e : in_unit ns b n ≡ true) where
  pub low : b ≤ n
  low = in_from ns names b A.ready.held.good n e

  pub offset_is : get_or offsets n 0 ≡ offset_at ns names b n
  offset_is = A.places.offset n low l e

  pub width_is_lem : get_or widths n 0 ≡ width_at ns b n
  width_is_lem = A.wide.is n low l e

  level_is : get_or levels n 0 ≡ suc (depth_at ns names b n)
  level_is = A.places.level n low l e

  pub level_some : 1 ≤ get_or levels n 0
  level_some = let u = level_is in omega arith

  pub depth_is : get_or levels n 0 - 1 ≡ depth_at ns names b n
  depth_is = let u = level_is in omega arith

  pub end_small : get_or offsets n 0 + get_or widths n 0 ≤ 786420
  end_small =
      let u = offset_is in
      let w = width_is_lem in
      let a = fits ns names b A.ready.held n l e in
      let s = root_small ns names b A.ready.held in
      let t = A.ready.held.good.tree.small in
      omega arith

  pub follow_is : Follow ns names b n (get_or follows n 0)
  follow_is = A.places.follow n low l e

  pub follow_low : b ≤ get_or follows n 0
  follow_low = follow_is.low

module _ (ns names : List ℕ) where
  pub jump_is : (b : ℕ) (j : Jump) → is_jump ns names b (comp_by ns names j) ≡ true
  jump_is b (Break l) = refl
  jump_is b (Continue l) = refl
  jump_is b Return = refl
  jump_is b Throw = refl

  end_is : (m : ℕ) (j : Jump) → at (m + end_by j) 0 ≡ top m (comp_by ns names j)
  end_is m (Break l) = refl
  end_is m (Continue l) = refl
  end_is m Return = refl
  end_is m Throw = refl

  -- At the unit's own node the way up ends.
  pub end_is_lem : (b n : ℕ) → n ≡ b → (j : Jump) → target ns names b n (comp_by ns names j) ≡ at (width_at ns b b + end_by j) 0
  end_is_lem b n q j = ap (λ k. target ns names b k (comp_by ns names j)) q ∙ target_root ns names b (comp_by ns names j) ∙ sym (end_is (width_at ns b b) j)

  pub labels_root : (b n : ℕ) → n ≡ b → (l : ℕ) → elem l (labels_at ns names b n) ≡ false
  unfolding labels_at
  labels_root b n q l = ap (λ k. elem l (labels_at ns names b k)) q ∙ ap (λ a. elem l a.labels) (context_root ns names b)

module _ {ns names : List ℕ} {b : ℕ} (r : Ready ns names b) (n : ℕ) (h : b < n) (hc : n < count ns) (e : in_unit ns b n ≡ true) (l : ℕ) where
  pub labels_stop : is_labeled (shape_at ns (up_of ns n)) ≡ false → elem l (labels_at ns names b n) ≡ false
  labels_stop q = labels_in ns names b r n h hc e l ∙ ap (λ x. cond x (eqb l (id_at ns names (up_of ns n)) || elem l (labels_at ns names b (up_of ns n))) false) q

  pub labels_hit : is_labeled (shape_at ns (up_of ns n)) ≡ true → eqb l (id_at ns names (up_of ns n)) ≡ true → elem l (labels_at ns names b n) ≡ true
  labels_hit q z = labels_in ns names b r n h hc e l ∙ (λ i. cond (q i) (z i || elem l (labels_at ns names b (up_of ns n))) false)

  pub labels_on : is_labeled (shape_at ns (up_of ns n)) ≡ true → eqb l (id_at ns names (up_of ns n)) ≡ false → elem l (labels_at ns names b n) ≡ elem l (labels_at ns names b (up_of ns n))
  labels_on q z = labels_in ns names b r n h hc e l ∙ (λ i. cond (q i) (z i || elem l (labels_at ns names b (up_of ns n))) false)

module _ (ns names : List ℕ) (n : ℕ) where
  leaf_by : (x y z w : Bool) → eqb (kind_of ns n) k.Break ≡ x → eqb (kind_of ns n) k.Continue ≡ y → eqb (kind_of ns n) k.Return ≡ z → eqb (kind_of ns n) k.Throw ≡ w
      → comp_of (cond x (brk (lab_at ns names n)) (cond y (con (lab_at ns names n)) (cond z ret (cond w thr simple)))) ≡ comp_of (leaf_at ns names n)
  unfolding leaf_at
  leaf_by x y z w ex ey ez ew = λ i. comp_of (cond (sym ex i) (brk (lab_at ns names n)) (cond (sym ey i) (con (lab_at ns names n)) (cond (sym ez i) ret (cond (sym ew i) thr simple))))

  pub leaf_break : kind_of ns n ≡ k.Break → breaks (lab_at ns names n) ≡ comp_of (leaf_at ns names n)
  leaf_break e = leaf_by true (eqb (kind_of ns n) k.Continue) (eqb (kind_of ns n) k.Return) (eqb (kind_of ns n) k.Throw) (eq-eqb (kind_of ns n) k.Break e) refl refl refl

  module _ (n1 : kind_of ns n ≡ k.Break → ⊥) where
    pub leaf_continue : kind_of ns n ≡ k.Continue → continues (lab_at ns names n) ≡ comp_of (leaf_at ns names n)
    leaf_continue e = leaf_by false true (eqb (kind_of ns n) k.Return) (eqb (kind_of ns n) k.Throw) (ne_eqb (kind_of ns n) k.Break n1) (eq-eqb (kind_of ns n) k.Continue e) refl refl

    module _ (n2 : kind_of ns n ≡ k.Continue → ⊥) where
      pub leaf_return : kind_of ns n ≡ k.Return → returns ≡ comp_of (leaf_at ns names n)
      leaf_return e = leaf_by false false true (eqb (kind_of ns n) k.Throw) (ne_eqb (kind_of ns n) k.Break n1) (ne_eqb (kind_of ns n) k.Continue n2) (eq-eqb (kind_of ns n) k.Return e) refl

      module _ (n3 : kind_of ns n ≡ k.Return → ⊥) where
        pub leaf_throw : kind_of ns n ≡ k.Throw → throws ≡ comp_of (leaf_at ns names n)
        leaf_throw e = leaf_by false false false true (ne_eqb (kind_of ns n) k.Break n1) (ne_eqb (kind_of ns n) k.Continue n2) (ne_eqb (kind_of ns n) k.Return n3) (eq-eqb (kind_of ns n) k.Throw e)

        pub leaf_simple : (kind_of ns n ≡ k.Throw → ⊥) → normal ≡ comp_of (leaf_at ns names n)
        leaf_simple n4 = leaf_by false false false false (ne_eqb (kind_of ns n) k.Break n1) (ne_eqb (kind_of ns n) k.Continue n2) (ne_eqb (kind_of ns n) k.Return n3) (ne_eqb (kind_of ns n) k.Throw n4)
