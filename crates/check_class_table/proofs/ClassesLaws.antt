-- Laws of classes: where a class lies, and the classes around it one step at a time.
use Rattle.table_records.specs.declared.ClassId.{ClassId}
use Rattle.table_records.specs.declared.NodeId.{NodeId}
use Prim.Native.Nat.{ℕ, zero, suc, ◌≤◌, ◌<◌}
use Rattle.std.specs.Prelude.{◌≡◌, List, [], ◌∷◌, Bool, eqb, Option, Some, None}
use Rattle.std.proofs.Math.Path.{refl}
use Rattle.std.proofs.Common.{ap, sym, subst, ◌∙◌, eq-or-lt_of_le, eq-eqb, ne_eqb, le-leb}
use Rattle.std.proofs.Math.Bool.{true, false}
use Rattle.std.proofs.Math.Logic.{⊎_elim}
use native.Mathlib.Omega.{arith}
use Rattle.std.proofs.lemmas.Bool.{lt-leb}
use Rattle.base_common.specs.Tests.{within}
use Rattle.base_walk.proofs.AboveLaws.{above_up, above_root}
use Rattle.base_walk.specs.On.{on}
use Rattle.base_walk.proofs.OnLaws.{on_self, on_step}
use Rattle.base_walk.proofs.PreorderLaws.{lt_or_ge}
use Rattle.table_records.specs.Table.{count, kind_of, parent_of, ancestors}
use Rattle.table_records.specs.Facts.{Tree}
use Rattle.table_records.specs.Kinds as k
use Rattle.table_children.specs.Children.{keep, below}
use Rattle.table_children.proofs.ChildrenLaws.{number}
use Rattle.table_ancestry.specs.Ancestry.{nearest_of}
use Rattle.table_ancestry.proofs.AncestryLaws.{nearest_stop, nearest_on, nearest_root}
use Rattle.check_class_table.specs.Classes.{class_at, body_above, is_class_body, outer_classes, in_table, before}

pub in_table_lem : (ns : List ℕ) (f : Option NodeId) → below ns f → in_table ns (class_at f)
in_table_lem ns (Some m) h = h
in_table_lem ns None h = h

pub within_one : (x a : ℕ) → within x a a ≡ eqb x a
within_one x a =
    ⊎_elim (λ (h : x < a). rw (lt-leb a x h, ne_eqb x a (λ e. omega arith)))
    (λ (h : a ≤ x). rw (le-leb a x h) (⊎_elim (λ (g : a < x). rw (lt-leb x a g, ne_eqb x a (λ e. omega arith))) (λ (g : x ≤ a). rw (le-leb x a g, eq-eqb x a (omega arith))) (lt_or_ge a x)))
    (lt_or_ge x a)

-- what is found above node n: it is above, and has the kind
pub record Over (ns : List ℕ) (lo hi n m : ℕ) : Type 0 where
  pub less : m < n
  pub over : on (parent_of ns) m n ≡ true
  pub kind : within (kind_of ns m) lo hi ≡ true

module _ (ns : List ℕ) (t : Tree ns) (lo hi : ℕ) where
  over_by : (f i m : ℕ) → i ≤ f → i < count ns → nearest_of ns lo hi i ≡ Some (record { 0 = m }) → Over ns lo hi i m
  over_by zero i m hf hc e =
      let z : i ≡ 0 = omega arith in
      let s : ◌≡◌ {A = Option NodeId} (Some (record { 0 = m })) None = sym e ∙ ap (nearest_of ns lo hi) z ∙ nearest_root ns lo hi in
      let z : ◌≡◌ {A = ℕ} 0 1 = cc in absurd (omega arith)
  over_by (suc f) i m hf hc e = ⊎_elim (λ (q : 0 ≡ i). over_by f i m (omega arith) hc e) (λ (h : 0 < i). go h (within (kind_of ns (parent_of ns i)) lo hi) refl (λ (q : nearest_of ns lo hi (parent_of ns i) ≡ Some (record { 0 = m })). let p = t.falls i h hc in over_by f (parent_of ns i) m (omega arith) (omega arith) q)) (eq-or-lt_of_le (omega arith))
    where
      go : 0 < i → (b : Bool) → within (kind_of ns (parent_of ns i)) lo hi ≡ b → (nearest_of ns lo hi (parent_of ns i) ≡ Some (record { 0 = m }) → Over ns lo hi (parent_of ns i) m) → Over ns lo hi i m
      go h true w r =
          let p = t.falls i h hc in
          let s : ◌≡◌ {A = Option NodeId} (Some (record { 0 = parent_of ns i })) (Some (record { 0 = m })) = sym (nearest_stop ns t lo hi i (parent_of ns i) h hc refl w) ∙ e in
          let u : parent_of ns i ≡ m = ap number s in
          subst (λ (x : ℕ). Over ns lo hi i x) u
          (record { less = p; over = on_step (parent_of ns) (count ns) t.falls (parent_of ns i) i h hc (on_self (parent_of ns) (parent_of ns i)); kind = w })
      go h false w r =
          let p = t.falls i h hc in
          let o = r (sym (nearest_on ns t lo hi i (parent_of ns i) h hc refl w) ∙ e) in
          let l = o.less in
          record { less = omega arith; over = on_step (parent_of ns) (count ns) t.falls m i h hc o.over; kind = o.kind }

  pub over : (i m : ℕ) → i < count ns → nearest_of ns lo hi i ≡ Some (record { 0 = m }) → Over ns lo hi i m
  over i m hc e = over_by i i m (omega arith) hc e

pub above_before : (ns : List ℕ) → Tree ns → (n : ℕ) → n < count ns → (f : Option NodeId) → body_above ns n ≡ f → before n (class_at f)
above_before ns t n h (Some m) e = (over ns t k.ClassBody k.ClassBody n m.0 h e).less
above_before ns t n h None e = tt

-- the classes around one: none, or the next and those around it
abbrev outer_by : List ℕ → Option NodeId → List ℕ
outer_by ns (Some b) = b.0 ∷ outer_classes ns b.0
outer_by ns None = []

module _ (ns : List ℕ) (t : Tree ns) where
  outer_by_lem : (f i : ℕ) → i ≤ f → i < count ns → outer_classes ns i ≡ outer_by ns (body_above ns i)
  unfolding outer_classes keep
  outer_by_lem zero i hf hc =
      let z : i ≡ 0 = omega arith in
      rw (z, above_root (parent_of ns), nearest_root ns k.ClassBody k.ClassBody)
  outer_by_lem (suc f) i hf hc = ⊎_elim (λ (q : 0 ≡ i). outer_by_lem f i (omega arith) hc) (λ (h : 0 < i). go h (is_class_body ns (parent_of ns i)) refl (let p = t.falls i h hc in outer_by_lem f (parent_of ns i) (omega arith) (omega arith))) (eq-or-lt_of_le (omega arith))
    where
      go : 0 < i → (b : Bool) → is_class_body ns (parent_of ns i) ≡ b → outer_classes ns (parent_of ns i) ≡ outer_by ns (body_above ns (parent_of ns i)) → keep (is_class_body ns) (ancestors ns i) ≡ outer_by ns (body_above ns i)
      go h true w r =
          rw (above_up (parent_of ns) (count ns) t.falls i h hc, w, nearest_stop ns t k.ClassBody k.ClassBody i (parent_of ns i) h hc refl (within_one (kind_of ns (parent_of ns i)) k.ClassBody ∙ w))
      go h false w r =
          rw (above_up (parent_of ns) (count ns) t.falls i h hc, w, nearest_on ns t k.ClassBody k.ClassBody i (parent_of ns i) h hc refl (within_one (kind_of ns (parent_of ns i)) k.ClassBody ∙ w)) r

  pub outer_at : (i b : ℕ) → i < count ns → body_above ns i ≡ Some (record { 0 = b }) → outer_classes ns i ≡ b ∷ outer_classes ns b
  outer_at i b hc e = outer_by_lem i i (omega arith) hc ∙ ap (outer_by ns) e

  pub outer_none : (i : ℕ) → i < count ns → body_above ns i ≡ None → outer_classes ns i ≡ []
  outer_none i hc e = outer_by_lem i i (omega arith) hc ∙ ap (outer_by ns) e

abbrev class_number : Option ClassId → ℕ
class_number (Some c) = c.0
class_number None = 0

-- what the answer says of the search
pub class_found : (f : Option NodeId) (c : ℕ) → class_at f ≡ Some (record { 0 = c }) → f ≡ Some (record { 0 = c })
class_found (Some m) c e = ap (λ (x : ℕ). Some (record { 0 = x })) (ap class_number e)
class_found None c e = let z : ◌≡◌ {A = ℕ} 0 1 = cc in absurd (omega arith)

pub class_none : (f : Option NodeId) → class_at f ≡ None → f ≡ None
class_none (Some m) e = let z : ◌≡◌ {A = ℕ} 0 1 = cc in absurd (omega arith)
class_none None e = refl
