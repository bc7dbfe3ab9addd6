-- Labels are compared by their names: two have the same number where their names are the same.
use Rattle.table_records.specs.declared.NodeId.{NodeId}
use Rattle.std.specs.Prelude.{ℕ, zero, suc, ◌+◌, ◌≤◌, ◌<◌, ◌≡◌, refl, Bool, true, false, cond, ◌&&◌, eqb, Option, Some, None}
use Rattle.std.proofs.Math.Path.{ap}
use Rattle.std.proofs.Common.{sym, subst, ◌∙◌, ⊎_elim, eq-or-lt_of_le, arith, eq-eqb, ne_eqb}
use mathlib.Core.List.{List, foldr}
use Rattle.base_common.specs.Upto.{upto}
use Rattle.base_common.proofs.UptoLaws.{fold_turn, fold_end, and_right_lem}
use Rattle.base_common.proofs.Bools.{never}
use Rattle.base_walk.proofs.PreorderLaws.{lt_or_ge}
use Rattle.table_records.specs.Table.{count, kind_of, role_of}
use Rattle.table_names.specs.Name.{same, name_of, same_name}
use Rattle.table_names.proofs.NameLaws.{same_self, same_eq}
use Rattle.table_children.specs.Children.{label_of}
use Rattle.table_children.proofs.ChildrenLaws.{Child, found_child}
use Rattle.code_tree.specs.Labels.{is_label, name_id, id_by}

module _ (ns names : List ℕ) where
  -- a label of the name w
  abbrev Is : List ℕ → ℕ → Bool
  Is w j = is_label ns j && same (name_of ns names j) w

  -- the first from i on, or else d
  abbrev first_of : List ℕ → ℕ → ℕ → ℕ
  first_of w d i = foldr (λ j r. cond (Is w j) j r) d (upto i (count ns))

  -- where there is one, d is not asked for
  first_same : (w : List ℕ) (d e m : ℕ) → m < count ns → Is w m ≡ true → (f i : ℕ) → count ns ≤ i + f → i ≤ m → first_of w d i ≡ first_of w e i
  first_same w d e m h q zero i hf g = absurd (omega arith)
  first_same w d e m h q (suc f) i hf g =
      fold_turn (λ j r. cond (Is w j) j r) d i (count ns) (omega arith)
      ∙ go (Is w i) refl (λ x. first_same w d e m h q f (i + 1) (omega arith) x)
      ∙ sym (fold_turn (λ j r. cond (Is w j) j r) e i (count ns) (omega arith))
    where
      go : (x : Bool) → Is w i ≡ x → (i + 1 ≤ m → first_of w d (i + 1) ≡ first_of w e (i + 1)) → cond (Is w i) i (first_of w d (i + 1)) ≡ cond (Is w i) i (first_of w e (i + 1))
      go true z r = rw z
      go false z r = rw z (⊎_elim (λ (u : i ≡ m). never (sym q ∙ subst (λ (j : ℕ). Is w j ≡ false) u z)) (λ (u : i < m). r (omega arith)) (eq-or-lt_of_le g))

  -- of two nodes of one name, one of them a label, the number is the same
  id_same : (l m : ℕ) → m < count ns → is_label ns m ≡ true → name_of ns names m ≡ name_of ns names l → name_id ns names l ≡ name_id ns names m
  unfolding name_id
  id_same l m h q e =
      first_same (name_of ns names l) l m m h (rw (q, e) (same_self (name_of ns names l))) (count ns) 0 (omega arith) (omega arith) ∙ ap (λ w. first_of w m 0) (sym e)

  -- it is a node's, and that node has the name
  module _ (l : ℕ) (h : l < count ns) where
    abbrev Named : ℕ → Type 0
    Named r = (r < count ns) × (name_of ns names r ≡ name_of ns names l)

    first_named : (f i : ℕ) → count ns ≤ i + f → Named (first_of (name_of ns names l) l i)
    first_named zero i hf = subst Named (sym (fold_end (λ j r. cond (Is (name_of ns names l) j) j r) l i (count ns) (omega arith))) (h, refl)
    first_named (suc f) i hf =
        ⊎_elim (λ (u : i < count ns). subst Named (sym (fold_turn (λ j r. cond (Is (name_of ns names l) j) j r) l i (count ns) u)) (go u (Is (name_of ns names l) i) refl (first_named f (i + 1) (omega arith))))
        (λ (u : count ns ≤ i). subst Named (sym (fold_end (λ j r. cond (Is (name_of ns names l) j) j r) l i (count ns) u)) (h, refl)) (lt_or_ge i (count ns))
      where
        go : i < count ns → (x : Bool) → Is (name_of ns names l) i ≡ x → Named (first_of (name_of ns names l) l (i + 1)) → Named (cond x i (first_of (name_of ns names l) l (i + 1)))
        go u true e r = (u, same_eq (name_of ns names i) (name_of ns names l) (and_right_lem (is_label ns i) (same (name_of ns names i) (name_of ns names l)) e))
        go u false e r = r

    pub id_named : (name_id ns names l < count ns) × (name_of ns names (name_id ns names l) ≡ name_of ns names l)
    unfolding name_id
    id_named = first_named (count ns) 0 (omega arith)

  -- the label that was found has the name of l
  abbrev pub named_as : ℕ → Option NodeId → Bool
  named_as l (Some m) = same_name ns names m.0 l
  named_as l None = false

  pub id_test : (l : ℕ) → l < count ns → (p : ℕ) (x : Option NodeId) → label_of ns p ≡ x → eqb (name_id ns names l) (id_by ns names x) ≡ named_as l x
  id_test l h p (Some m) q = go (same_name ns names m.0 l) refl
    where
      c : Child ns p 33 33 6 6 (p + 1) m.0
      c = found_child ns p 33 33 6 6 (p + 1) m.0 q

      label : is_label ns m.0 ≡ true
      label =
          let kl = c.kind_low in let kh = c.kind_high in let rl = c.role_low in let rh = c.role_high in
          rw (eq-eqb (kind_of ns m.0) 33 (omega arith), eq-eqb (role_of ns m.0) 6 (omega arith))

      go : (x : Bool) → same_name ns names m.0 l ≡ x → eqb (name_id ns names l) (name_id ns names m.0) ≡ x
      go true e = eq-eqb (name_id ns names l) (name_id ns names m.0) (id_same l m.0 c.below label (same_eq (name_of ns names m.0) (name_of ns names l) e))
      go false e =
          ne_eqb (name_id ns names l) (name_id ns names m.0)
          (λ d.
          let u : name_of ns names m.0 ≡ name_of ns names l = sym (id_named m.0 c.below).1 ∙ ap (name_of ns names) (sym d) ∙ (id_named l h).1 in
          never (sym (same_self (name_of ns names l)) ∙ subst (λ w. same w (name_of ns names l) ≡ false) u e))
  id_test l h p None q = let u = (id_named l h).0 in ne_eqb (name_id ns names l) (count ns) (λ d. omega arith)
