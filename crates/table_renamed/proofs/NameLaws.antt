-- Names where they are asked for: at nodes that are no labels they are the same bytes; two labels have one name before if and only if they have one after.
use Rattle.table_records.specs.declared.NodeId.{NodeId}
use Rattle.std.specs.Prelude.{ℕ, ◌+◌, ◌<◌, ◌≡◌, refl, List, Bool, true, false, cond, ◌&&◌, eqb, length, Option, Some, None}
use Rattle.std.proofs.Common.{ap, sym, ◌∙◌, arith, eq-eqb, ne_eqb, eqb-true}
use Rattle.base_common.proofs.Bools.{never}
use Rattle.table_records.specs.Table.{count, kind_of, role_of, name_len_of}
use Rattle.table_records.specs.Facts.{Named}
use Rattle.table_records.specs.Kinds as k
use Rattle.table_records.specs.Roles as role
use Rattle.table_names.specs.Name.{same, name_of, same_name}
use Rattle.table_names.proofs.NameLaws.{same_self, same_eq, name_length}
use Rattle.table_children.specs.Children.{key_of, label_of}
use Rattle.table_children.proofs.ChildrenLaws.{found_child}
use Rattle.code_tree.specs.Labels.{is_label}
use Rattle.table_renamed.specs.Alike.{Alike}
use Rattle.table_renamed.proofs.TableLaws.{tables}

-- a test that both tables answer alike, with what follows from its answer
pub cond_both : {A : Type 0} (b c : Bool) (x x' y y' : A) → b ≡ c → (b ≡ true → x ≡ x') → y ≡ y' → cond b x y ≡ cond c x' y'
cond_both true true x x' y y' e p q = p refl
cond_both false false x x' y y' e p q = q
cond_both true false x x' y y' e p q = never e
cond_both false true x x' y y' e p q = never (sym e)

pub and_both_lem : (a b x y : Bool) → a ≡ b → (a ≡ true → x ≡ y) → (a && x) ≡ (b && y)
and_both_lem true true x y e p = p refl
and_both_lem false false x y e p = refl
and_both_lem true false x y e p = never e
and_both_lem false true x y e p = never (sym e)

-- strings that are one just where two others are
same_both : (x y v w : List ℕ) → (x ≡ y → v ≡ w) → (v ≡ w → x ≡ y) → same x y ≡ same v w
same_both x y v w f g = go (same x y) (same v w) refl refl
  where
    go : (b c : Bool) → same x y ≡ b → same v w ≡ c → b ≡ c
    go true true p q = refl
    go true false p q = sym (same_self w) ∙ ap (λ z. same z w) (sym (f (same_eq x y p))) ∙ q
    go false true p q = sym p ∙ ap (λ z. same z y) (g (same_eq v w q)) ∙ same_self y
    go false false p q = refl

module _ (ns : List ℕ) where
  other_kind : (i : ℕ) → (kind_of ns i ≡ k.LabelIdentifier → ⊥) → is_label ns i ≡ false
  other_kind i h = rw (ne_eqb (kind_of ns i) k.LabelIdentifier h)

  other_role : (i : ℕ) → (role_of ns i ≡ role.Label → ⊥) → is_label ns i ≡ false
  other_role i h = rw (ne_eqb (role_of ns i) role.Label h) (go (eqb (kind_of ns i) k.LabelIdentifier))
    where
      go : (b : Bool) → (b && false) ≡ false
      go true = refl
      go false = refl

  -- a part that is a label
  label_found : (p m : ℕ) → label_of ns p ≡ Some (record { 0 = m }) → is_label ns m ≡ true
  label_found p m e =
      let c = found_child ns p k.LabelIdentifier k.LabelIdentifier role.Label role.Label (p + 1) m e in
      let kl = c.kind_low in let kh = c.kind_high in let rl = c.role_low in let rh = c.role_high in
      rw (eq-eqb (kind_of ns m) k.LabelIdentifier (omega arith), eq-eqb (role_of ns m) role.Label (omega arith))

module _ (ns names ms mnames : List ℕ) (r : Alike ns names ms mnames) where
  -- at a node of another kind than 33
  pub name_at_kind : (n kind : ℕ) → (kind ≡ k.LabelIdentifier → ⊥) → eqb (kind_of ns n) kind ≡ true → name_of ns names n ≡ name_of ms mnames n
  name_at_kind n kind h e = let q = eqb-true (kind_of ns n) kind e in r.others n (other_kind ns n (λ z. h (sym q ∙ z)))

  -- at the key of an element or a property
  pub at_key : {A : Type 0} (F G : Option NodeId → A) (e : ℕ) → ((m : ℕ) → m < count ns → name_of ns names m ≡ name_of ms mnames m → F (Some (record { 0 = m })) ≡ G (Some (record { 0 = m })))
      → F None ≡ G None → F (key_of ns e) ≡ G (key_of ms e)
  at_key F G e p q = go (key_of ns e) refl ∙ ap G (simp (tables, r.fields))
    where
      go : (f : Option NodeId) → key_of ns e ≡ f → F f ≡ G f
      go (Some m) h =
          let c = found_child ns e 0 55 role.Key role.Key (e + 1) m.0 h in
          let z = c.role_high in
          p m.0 c.below (r.others m.0 (other_role ns m.0 (λ (x : role_of ns m.0 ≡ role.Label). omega arith)))
      go None h = q

  -- at the label of a Labeled or a jump
  pub at_label_lem : {A : Type 0} (F G : Option NodeId → A) (p : ℕ) → ((m : ℕ) → is_label ns m ≡ true → F (Some (record { 0 = m })) ≡ G (Some (record { 0 = m }))) → F None ≡ G None
      → F (label_of ns p) ≡ G (label_of ms p)
  at_label_lem F G p h q = go (label_of ns p) refl ∙ ap G (simp (tables, r.fields))
    where
      go : (f : Option NodeId) → label_of ns p ≡ f → F f ≡ G f
      go (Some m) e = h m.0 (label_found ns p m.0 e)
      go None e = q

  -- two labels
  pub two_labels_lem : (i j : ℕ) → is_label ns i ≡ true → is_label ns j ≡ true → same_name ns names i j ≡ same_name ms mnames i j
  two_labels_lem i j x y = same_both (name_of ns names i) (name_of ns names j) (name_of ms mnames i) (name_of ms mnames j) (r.replaced i j x y) (r.once i j x y)

  -- a name of the same bytes is as long
  pub name_len : Named ns names → Named ms mnames → (m : ℕ) → m < count ns → name_of ns names m ≡ name_of ms mnames m → name_len_of ns m ≡ name_len_of ms m
  name_len w v m l h = sym (name_length ns names w m l) ∙ ap length h ∙ name_length ms mnames v m (simp (tables, r.fields) at l)
