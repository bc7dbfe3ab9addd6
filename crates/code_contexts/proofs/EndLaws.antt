-- Where a part ends within its holder.
use Rattle.table_records.specs.declared.NodeId.{NodeId}
use Prim.Native.Nat.{ℕ, zero, suc, ◌+◌, ◌≤◌, ◌<◌}
use Rattle.std.specs.Prelude.{◌≡◌, ◌⊎◌, Bool, ◌&&◌, ◌||◌, eqb, Option, Some, None}
use Rattle.std.specs.Option.{is_some}
use Rattle.std.proofs.Math.Path.{refl, ap, sym, subst}
use Rattle.std.proofs.Common.{◌∙◌, inl, inr, eq-or-lt_of_le}
use mathlib.Core.List.{List, [], ◌∷◌}
use Rattle.std.proofs.Math.Bool.{true, false, cond, not}
use Rattle.std.proofs.Math.Decide.{dec_lt}
use native.Mathlib.Omega.{arith}
use borrow.Author.Tests.{eq-eqb, ne_eqb, eqb-true}
use Rattle.base_common.proofs.Bools.{never, in_range_lem}
use Rattle.base_common.proofs.UptoLaws.{and_left_lem, and_right_lem}
use Rattle.table_records.specs.Table.{kind_of, parent_of, role_of, count}
use Rattle.table_records.specs.Kinds as k
use Rattle.table_records.specs.Roles as role
use Rattle.table_children.specs.Children.{first_node, is_child, first_child}
use Rattle.table_children.proofs.ChildrenLaws.{node_on, node_stop, found_child}
use Rattle.code_tree.specs.Parts.{up_of, shape_at, is_part, part_by, parts, order_by, order, entered_by}
use Rattle.code_tree.proofs.PartsLaws.{All, parts_end, parts_turn, parts_all, order_all_lem}
use Rattle.code_tree.specs.Parts.{Part}
use Rattle.code_tree.specs.declared.Shape.{Shape}
use Rattle.code_tree.specs.declared.Shape.TheVariants.{Leaf, Class, If, With, Block, Label, Loop, Switch, Case, Try, Catch}
use Rattle.code_layout.specs.Widths.{sum, has_role, is_try, own_width, own_width_by, width_at}
use Rattle.code_layout.specs.Context.{head0, behind, offset_at}
use Rattle.code_layout.specs.Shaped.{Good, Two, Three}
use Rattle.code_layout.proofs.Sums.{In, Row, in_order}
use Rattle.code_layout.proofs.LayoutLaws.{width_is_lem, own_width_on}
use Rattle.code_layout.proofs.ExactLaws.{plain_sum}
use Rattle.code_layout.proofs.Stands.{placed}
use Rattle.code_targets.specs.Targets.{some}
use Rattle.code_targets.proofs.PositiveLaws.{part_some}
use Rattle.code_widths.specs.Widths.{counted}
use Rattle.code_widths.proofs.WidthsLaws.{sum_part, sum_other}
use Rattle.code_contexts.specs.Contexts.{Ready}

-- The parts of anything but a Try stand in node order.
plain_order : (ns : List ℕ) (s : Shape) (ps : List ℕ) → is_try s ≡ false → order_by ns s ps ≡ ps
plain_order ns Leaf ps e = refl
plain_order ns Class ps e = refl
plain_order ns If ps e = refl
plain_order ns With ps e = refl
plain_order ns Block ps e = refl
plain_order ns Label ps e = refl
plain_order ns Loop ps e = refl
plain_order ns Switch ps e = refl
plain_order ns Case ps e = refl
plain_order ns Try ps e = never e
plain_order ns Catch ps e = refl

module _ (ns names : List ℕ) (b : ℕ) (g : Good ns) (p : ℕ) (hp : b ≤ p) (hl : p < count ns) (plain : is_try (shape_at ns p) ≡ false) where
  abbrev Z : ℕ → ℕ
  Z j = width_at ns b j

  abbrev Y : ℕ → ℕ
  Y j = counted ns b j

  pub order_plain : order ns p ≡ parts ns p (p + 1)
  unfolding order
  order_plain = plain_order ns (shape_at ns p) (parts ns p (p + 1)) plain

  one : (c : ℕ) → Part ns p c → Y c ≡ Z c
  unfolding sum
  one c w = let e = plain_sum ns b g p plain (c ∷ []) (w, tt) in omega arith

  test : (c : ℕ) → Part ns p c → (eqb (up_of ns c) p && is_part ns c) ≡ true
  test c w = λ i. eq-eqb (up_of ns c) p w.parent i && w.part i

  part_of : (i : ℕ) → p < i → i < count ns → (eqb (up_of ns i) p && is_part ns i) ≡ true → Part ns p i
  part_of i h l e = record { behind = h; inside = l; parent = eqb-true (up_of ns i) p (and_left_lem (eqb (up_of ns i) p) (is_part ns i) e); part = and_right_lem (eqb (up_of ns i) p) (is_part ns i) e }

  -- The parts from i on stand one after the other, from o on.
  row_end : (f i o j : ℕ) → count ns ≤ i + f → p < i → i ≤ j → Part ns p j → Row Z (λ c k m. offset_at ns names b c ≡ k) o (parts ns p i)
      → offset_at ns names b j + Z j + sum Y (parts ns p (j + 1)) ≡ o + sum Y (parts ns p i)
  row_end zero i o j h hi l w r = absurd (omega (arith, w.inside))
  row_end (suc f) i o j h hi l w r =
      let u = w.inside in
      go (eqb (up_of ns i) p && is_part ns i) refl (subst (Row Z (λ c k m. offset_at ns names b c ≡ k) o) (parts_turn ns p i (omega arith)) r) (eq-or-lt_of_le l)
      (λ o' q s. row_end f (i + 1) o' j (omega arith) (omega arith) q w s)
    where
      go : (x : Bool) → (eqb (up_of ns i) p && is_part ns i) ≡ x → Row Z (λ c k m. offset_at ns names b c ≡ k) o (cond x (i ∷ parts ns p (i + 1)) (parts ns p (i + 1))) → (i ≡ j) ⊎ (i < j)
          → ((o' : ℕ) → i + 1 ≤ j → Row Z (λ c k m. offset_at ns names b c ≡ k) o' (parts ns p (i + 1)) → offset_at ns names b j + Z j + sum Y (parts ns p (j + 1)) ≡ o' + sum Y (parts ns p (i + 1)))
          → offset_at ns names b j + Z j + sum Y (parts ns p (j + 1)) ≡ o + sum Y (parts ns p i)
      go true e r (inl q) ih =
          let v = w.inside in
          let v' = part_of i hi (omega arith) e in
          let s = sum_part ns b p i (omega arith) v'.parent v'.part in
          let y = one i v' in
          let a = r.0 in
          subst (λ k. offset_at ns names b k + Z k + sum Y (parts ns p (k + 1)) ≡ o + sum Y (parts ns p i)) q (omega arith)
      go true e r (inr q) ih =
          let v = w.inside in
          let v' = part_of i hi (omega arith) e in
          let s = sum_part ns b p i (omega arith) v'.parent v'.part in
          let y = one i v' in
          let t = ih (o + Z i) (omega arith) r.1 in
          omega arith
      go false e r (inl q) ih = never (sym (test j w) ∙ subst (λ k. (eqb (up_of ns k) p && is_part ns k) ≡ false) q e)
      go false e r (inr q) ih = let v = w.inside in let s = sum_other ns b p i (omega arith) e in let t = ih o (omega arith) r in omega arith

  -- THE LAW: a part's offset, its width and the words of the parts behind it reach to where its holder's words end.
  pub end_part : (j : ℕ) → Part ns p j → offset_at ns names b j + width_at ns b j + sum (counted ns b) (parts ns p (j + 1)) ≡ offset_at ns names b p + width_at ns b p
  end_part j w =
      let l = w.behind in
      let r = row_end (count ns) (p + 1) (offset_at ns names b p + own_width ns b p) j (omega arith) (omega arith) (omega arith) w (subst (Row Z (λ c k m. offset_at ns names b c ≡ k) (offset_at ns names b p + own_width ns b p)) order_plain (placed ns names b g p hp hl)) in
      let s = plain_sum ns b g p plain (parts ns p (p + 1)) (parts_all ns p) in
      let z : sum Z (order ns p) ≡ sum Z (parts ns p (p + 1)) = ap (sum Z) order_plain in
      let q = width_is_lem ns b p hl in
      omega arith

  -- The part behind j is the first from the next node on; there is one exactly if their words are some.
  behind_from : (f i j : ℕ) → count ns ≤ i + f → p < i → i ≤ j → Part ns p j → behind (parts ns p i) j ≡ head0 (parts ns p (j + 1))
  unfolding behind
  behind_from zero i j h hi l w = absurd (omega (arith, w.inside))
  behind_from (suc f) i j h hi l w =
      let u = w.inside in
      ap (λ ps. behind ps j) (parts_turn ns p i (omega arith))
      ∙ go (eqb (up_of ns i) p && is_part ns i) refl (eq-or-lt_of_le l) (λ q. behind_from f (i + 1) j (omega arith) (omega arith) q w)
    where
      go : (x : Bool) → (eqb (up_of ns i) p && is_part ns i) ≡ x → (i ≡ j) ⊎ (i < j) → (i + 1 ≤ j → behind (parts ns p (i + 1)) j ≡ head0 (parts ns p (j + 1)))
          → behind (cond x (i ∷ parts ns p (i + 1)) (parts ns p (i + 1))) j ≡ head0 (parts ns p (j + 1))
      go true e (inl q) ih = ap (λ t. cond t (head0 (parts ns p (i + 1))) (behind (parts ns p (i + 1)) j)) (eq-eqb i j q) ∙ ap (λ k. head0 (parts ns p (k + 1))) q
      go true e (inr q) ih = ap (λ t. cond t (head0 (parts ns p (i + 1))) (behind (parts ns p (i + 1)) j)) (ne_eqb i j (λ z. omega arith)) ∙ ih (omega arith)
      go false e (inl q) ih = never (sym (test j w) ∙ subst (λ k. (eqb (up_of ns k) p && is_part ns k) ≡ false) q e)
      go false e (inr q) ih = ih (omega arith)

  some_from : (f i : ℕ) → count ns ≤ i + f → p < i → some (head0 (parts ns p i)) ≡ not (eqb (sum Y (parts ns p i)) 0)
  unfolding sum
  some_from zero i h hi = subst (λ l. some (head0 l) ≡ not (eqb (sum Y l) 0)) (sym (parts_end ns p i (omega arith))) refl
  some_from (suc f) i h hi = by (dec_lt i (count ns)) (some_from f (i + 1) (omega arith) (omega arith))
    where
      go : (x : Bool) → (eqb (up_of ns i) p && is_part ns i) ≡ x → i < count ns → some (head0 (parts ns p (i + 1))) ≡ not (eqb (sum Y (parts ns p (i + 1))) 0)
          → some (head0 (cond x (i ∷ parts ns p (i + 1)) (parts ns p (i + 1)))) ≡ not (eqb (sum Y (cond x (i ∷ parts ns p (i + 1)) (parts ns p (i + 1)))) 0)
      go true e l ih =
          let w = part_some ns b g i l (omega arith) in
          yes' i (omega arith) ∙ sym (ap not (ne_eqb (Y i + sum Y (parts ns p (i + 1))) 0 (λ z. omega arith)))
        where
          yes' : (i : ℕ) → 0 < i → some i ≡ true
          yes' zero h = absurd (omega arith)
          yes' (suc i) h = refl
      go false e l ih = ih

      by : Dec (i < count ns) → some (head0 (parts ns p (i + 1))) ≡ not (eqb (sum Y (parts ns p (i + 1))) 0) → some (head0 (parts ns p i)) ≡ not (eqb (sum Y (parts ns p i)) 0)
      by (yes l) ih = subst (λ l. some (head0 l) ≡ not (eqb (sum Y l) 0)) (sym (parts_turn ns p i l)) (go (eqb (up_of ns i) p && is_part ns i) refl l ih)
      by (no l) ih = subst (λ l. some (head0 l) ≡ not (eqb (sum Y l) 0)) (sym (parts_end ns p i (omega arith))) refl

  pub behind_some : (j : ℕ) → Part ns p j → some (behind (order ns p) j) ≡ not (eqb (sum (counted ns b) (parts ns p (j + 1))) 0)
  behind_some j w =
      let l = w.behind in
      ap (λ ps. some (behind ps j)) order_plain ∙ ap some (behind_from (count ns) (p + 1) j (omega arith) (omega arith) (omega arith) w) ∙ some_from (count ns) (j + 1) (omega arith) (omega arith)

  -- There is a part from i on exactly if the words of these are some.
  pub parts_some : (i : ℕ) → p < i → some (head0 (parts ns p i)) ≡ not (eqb (sum (counted ns b) (parts ns p i)) 0)
  parts_some i h = some_from (count ns) i (omega arith) h

  none_from : (f i : ℕ) → count ns ≤ i + f → p < i → sum Y (parts ns p i) ≡ 0 → parts ns p i ≡ []
  unfolding sum
  none_from zero i h hi e = parts_end ns p i (omega arith)
  none_from (suc f) i h hi e = by (dec_lt i (count ns)) (none_from f (i + 1) (omega arith) (omega arith))
    where
      go : (x : Bool) → i < count ns → sum Y (cond x (i ∷ parts ns p (i + 1)) (parts ns p (i + 1))) ≡ 0 → (sum Y (parts ns p (i + 1)) ≡ 0 → parts ns p (i + 1) ≡ [])
          → cond x (i ∷ parts ns p (i + 1)) (parts ns p (i + 1)) ≡ []
      go true l z ih = let w = part_some ns b g i l (omega arith) in absurd (omega arith)
      go false l z ih = ih z

      by : Dec (i < count ns) → (sum Y (parts ns p (i + 1)) ≡ 0 → parts ns p (i + 1) ≡ []) → parts ns p i ≡ []
      by (yes l) ih = parts_turn ns p i l ∙ go (eqb (up_of ns i) p && is_part ns i) l (ap (sum Y) (sym (parts_turn ns p i l)) ∙ e) ih
      by (no l) ih = parts_end ns p i (omega arith)

  -- No words, no parts.
  pub parts_none : (i : ℕ) → p < i → sum (counted ns b) (parts ns p i) ≡ 0 → parts ns p i ≡ []
  parts_none i h e = none_from (count ns) i (omega arith) h e

-- What passes the test is found.
some_found : (q : ℕ → Bool) (m n : ℕ) → m < n → q m ≡ true → (f i : ℕ) → m ≤ i + f → i ≤ m → is_some (first_node q i n) ≡ true
some_found q m n u t zero i h l = ap is_some (node_stop q i n (omega arith) (ap q (let e : i ≡ m = omega arith in e) ∙ t))
some_found q m n u t (suc f) i h l = go (q i) refl (eq-or-lt_of_le l) (λ k. some_found q m n u t f (i + 1) (omega arith) k)
  where
    go : (x : Bool) → q i ≡ x → (i ≡ m) ⊎ (i < m) → (i + 1 ≤ m → is_some (first_node q (i + 1) n) ≡ true) → is_some (first_node q i n) ≡ true
    go true y s ih = ap is_some (node_stop q i n (omega arith) y)
    go false y (inl e) ih = never (sym t ∙ subst (λ k. q k ≡ false) e y)
    go false y (inr e) ih = ap is_some (node_on q i n (omega arith) y) ∙ ih (omega arith)

-- A node with the role x stands in a list.
with_role_in : (ns : List ℕ) (x m : ℕ) (l : List ℕ) → In m l → role_of ns m ≡ x → has_role ns x l ≡ true
with_role_in ns x m [] i e = absurd i
with_role_in ns x m (c ∷ cs) (inl q) e = ap (λ t. t || has_role ns x cs) (eq-eqb (role_of ns c) x (ap (role_of ns) q ∙ e))
with_role_in ns x m (c ∷ cs) (inr i) e = either (eqb (role_of ns c) x) (with_role_in ns x m cs i e)
  where
    either : (t : Bool) → has_role ns x cs ≡ true → (t || has_role ns x cs) ≡ true
    either true r = refl
    either false r = r

role_from : (ns : List ℕ) (p x : ℕ) (l : List ℕ) → All (Part ns p) l → has_role ns x l ≡ true → (c : ℕ) × Part ns p c × (role_of ns c ≡ x)
role_from ns p x [] a e = never (sym e)
role_from ns p x (c ∷ cs) a e = go (eqb (role_of ns c) x) refl e (λ q. role_from ns p x cs a.1 q)
  where
    go : (t : Bool) → eqb (role_of ns c) x ≡ t → (t || has_role ns x cs) ≡ true → (has_role ns x cs ≡ true → (d : ℕ) × Part ns p d × (role_of ns d ≡ x)) → (d : ℕ) × Part ns p d × (role_of ns d ≡ x)
    go true q e ih = (c, a.0, eqb-true (role_of ns c) x q)
    go false q e ih = ih e

-- The parts of a Try, found as children of their kind and role.
module _ (ns names : List ℕ) (b : ℕ) (r : Ready ns names b) (p : ℕ) (hl : p < count ns) (e : shape_at ns p ≡ Try) where
  abbrev is_role : ℕ → Type 0
  is_role x = (x ≡ 3) ⊎ ((x ≡ 4) ⊎ (x ≡ 5))

  abbrev kind_for : ℕ → ℕ
  kind_for x = cond (eqb x role.Alternate) k.CatchClause k.Block

  part_role : (x kind : ℕ) → is_role x → part_by Try kind x ≡ true
  part_role x kind (inl q) = ap (part_by Try kind) q
  part_role x kind (inr (inl q)) = ap (part_by Try kind) q
  part_role x kind (inr (inr q)) = ap (part_by Try kind) q

  no_static : (x : ℕ) → is_role x → kind_for x ≡ k.StaticBlock → ⊥
  no_static x (inl q) z = let y : kind_for x ≡ 5 = ap kind_for q in omega arith
  no_static x (inr (inl q)) z = let y : kind_for x ≡ 17 = ap kind_for q in omega arith
  no_static x (inr (inr q)) z = let y : kind_for x ≡ 5 = ap kind_for q in omega arith

  -- A child of the kind for its role is a part ..
  pub child_part : (x m : ℕ) → is_role x → first_child ns p (kind_for x) (kind_for x) x x ≡ Some (record { 0 = m }) → Part ns p m × (role_of ns m ≡ x)
  unfolding up_of is_part
  child_part x m i q =
      let c = found_child ns p (kind_for x) (kind_for x) x x (p + 1) m q in
      let kl = c.kind_low in
      let kh = c.kind_high in
      let rl = c.role_low in
      let rh = c.role_high in
      let fr = c.from in
      let ro : role_of ns m ≡ x = omega arith in
      let kd : kind_of ns m ≡ kind_for x = omega arith in
      let up : up_of ns m ≡ p = ap (λ t. cond t (entered_by ns (parent_of ns (parent_of ns m))) (parent_of ns m)) (ne_eqb (kind_of ns m) k.StaticBlock (λ z. no_static x i (sym kd ∙ z))) ∙ c.parent in
      (record { behind = omega arith; inside = c.below; parent = up; part = (λ t. part_by ((ap (shape_at ns) up ∙ e) t) (kind_of ns m) (ro t)) ∙ part_role x (kind_of ns m) i }, ro)

  -- .. and a part is such a child.
  pub part_child : (x m : ℕ) → is_role x → Part ns p m → role_of ns m ≡ x → is_some (first_child ns p (kind_for x) (kind_for x) x x) ≡ true
  unfolding is_child
  part_child x m i w ro =
      let d = r.direct m w.inside w.part (ap (shape_at ns) w.parent ∙ e) in
      let kd : kind_of ns m ≡ kind_for x = d.0 ∙ ap kind_for ro in
      let pa : parent_of ns m ≡ p = d.1 ∙ w.parent in
      let l = w.behind in
      some_found (is_child ns p (kind_for x) (kind_for x) x x) m (count ns) w.inside
      (λ t. eq-eqb (parent_of ns m) p pa t && (in_range_lem (kind_of ns m) (kind_for x) (kind_for x) (omega arith) (omega arith) t && in_range_lem (role_of ns m) x x (omega arith) (omega arith) t))
      m (p + 1) (omega arith) (omega arith)

  -- Whether a Try has a part of a role.
  pub has_found : (x : ℕ) → is_role x → (f : Option NodeId) → first_child ns p (kind_for x) (kind_for x) x x ≡ f → has_role ns x (order ns p) ≡ is_some f
  has_found x i (Some m) q = let (w, ro) = child_part x m.0 i q in with_role_in ns x m.0 (order ns p) (in_order ns p m.0 w) ro
  has_found x i None q = go (has_role ns x (order ns p)) refl
    where
      go : (t : Bool) → has_role ns x (order ns p) ≡ t → t ≡ false
      go false z = refl
      go true z = let (c, w, ro) = role_from ns p x (order ns p) (order_all_lem ns p) z in never (sym (part_child x c i w ro) ∙ ap is_some q)

  module _ (hp : b < p) where
    pub try_own : own_width ns b p ≡ cond (has_role ns role.Finally (order ns p)) 2 0
    try_own = own_width_on ns b p hp ∙ ap (λ s. own_width_by ns s (order ns p)) e

    abbrev start : ℕ
    start = offset_at ns names b p + own_width ns b p

    abbrev Placed : List ℕ → Type 0
    Placed l = Row (width_at ns b) (λ c k m. offset_at ns names b c ≡ k) (offset_at ns names b p + own_width ns b p) l

    others : (c d x y : ℕ) → role_of ns c ≡ x → role_of ns d ≡ y → (x ≡ y → ⊥) → c ≡ d → ⊥
    others c d x y a q n z = n (sym a ∙ ap (role_of ns) z ∙ q)

    -- The Block first, then the CatchClause, the finally last.
    pub try_places : Placed (order ns p) → (j : ℕ) → In j (order ns p)
        → ((role_of ns j ≡ 3) × (offset_at ns names b j ≡ offset_at ns names b p + own_width ns b p))
        ⊎ (((role_of ns j ≡ 4) × ((c : ℕ) → In c (order ns p) → role_of ns c ≡ 3 → offset_at ns names b j ≡ offset_at ns names b p + own_width ns b p + width_at ns b c))
        ⊎ ((role_of ns j ≡ 5) × (offset_at ns names b j + width_at ns b j ≡ offset_at ns names b p + width_at ns b p)))
    unfolding sum
    try_places row j i = tri (r.held.good.shaped.tries p hl e)
      where
        w : width_at ns b p ≡ own_width ns b p + sum (width_at ns b) (order ns p)
        w = width_is_lem ns b p hl

        two : (x : ℕ) → (x ≡ 4) ⊎ (x ≡ 5) → (c d : ℕ) → order ns p ≡ c ∷ d ∷ [] → role_of ns c ≡ 3 → role_of ns d ≡ x → Placed (c ∷ d ∷ []) → In j (c ∷ d ∷ [])
            → ((role_of ns j ≡ 3) × (offset_at ns names b j ≡ offset_at ns names b p + own_width ns b p))
            ⊎ (((role_of ns j ≡ 4) × ((c : ℕ) → In c (order ns p) → role_of ns c ≡ 3 → offset_at ns names b j ≡ offset_at ns names b p + own_width ns b p + width_at ns b c))
            ⊎ ((role_of ns j ≡ 5) × (offset_at ns names b j + width_at ns b j ≡ offset_at ns names b p + width_at ns b p)))
        two x y c d q a z s (inl u) = inl (ap (role_of ns) (sym u) ∙ a, subst (λ m. offset_at ns names b m ≡ offset_at ns names b p + own_width ns b p) u s.0)
        two x (inl y) c d q a z s (inr (inl u)) = inr (inl (ap (role_of ns) (sym u) ∙ z ∙ y, λ f v ro. block_is f (subst (In f) q v) ro))
          where
            block_is : (f : ℕ) → In f (c ∷ d ∷ []) → role_of ns f ≡ 3 → offset_at ns names b j ≡ offset_at ns names b p + own_width ns b p + width_at ns b f
            block_is f (inl h) ro = subst (λ m. offset_at ns names b m ≡ offset_at ns names b p + own_width ns b p + width_at ns b f) u (s.1.0 ∙ ap (λ m. offset_at ns names b p + own_width ns b p + width_at ns b m) h)
            block_is f (inr (inl h)) ro = absurd (others d f x 3 z ro (λ k. omega arith) h)
            block_is f (inr (inr h)) ro = absurd h
        two x (inr y) c d q a z s (inr (inl u)) =
            inr (inr (
              ap (role_of ns) (sym u) ∙ z ∙ y,
              subst (λ m. offset_at ns names b m + width_at ns b m ≡ offset_at ns names b p + width_at ns b p) u
                  (let g : sum (width_at ns b) (order ns p) ≡ width_at ns b c + (width_at ns b d + 0) = ap (sum (width_at ns b)) q in omega (arith, w, g, s.1.0)),
            ))
        two x y c d q a z s (inr (inr u)) = absurd u

        three : (c d f : ℕ) → order ns p ≡ c ∷ d ∷ f ∷ [] → role_of ns c ≡ 3 → role_of ns d ≡ 4 → role_of ns f ≡ 5 → Placed (c ∷ d ∷ f ∷ []) → In j (c ∷ d ∷ f ∷ [])
            → ((role_of ns j ≡ 3) × (offset_at ns names b j ≡ offset_at ns names b p + own_width ns b p))
            ⊎ (((role_of ns j ≡ 4) × ((c : ℕ) → In c (order ns p) → role_of ns c ≡ 3 → offset_at ns names b j ≡ offset_at ns names b p + own_width ns b p + width_at ns b c))
            ⊎ ((role_of ns j ≡ 5) × (offset_at ns names b j + width_at ns b j ≡ offset_at ns names b p + width_at ns b p)))
        three c d f q a z y s (inl u) = inl (ap (role_of ns) (sym u) ∙ a, subst (λ m. offset_at ns names b m ≡ offset_at ns names b p + own_width ns b p) u s.0)
        three c d f q a z y s (inr (inl u)) = inr (inl (ap (role_of ns) (sym u) ∙ z, λ h v ro. block_is h (subst (In h) q v) ro))
          where
            block_is : (h : ℕ) → In h (c ∷ d ∷ f ∷ []) → role_of ns h ≡ 3 → offset_at ns names b j ≡ offset_at ns names b p + own_width ns b p + width_at ns b h
            block_is h (inl v) ro = subst (λ m. offset_at ns names b m ≡ offset_at ns names b p + own_width ns b p + width_at ns b h) u (s.1.0 ∙ ap (λ m. offset_at ns names b p + own_width ns b p + width_at ns b m) v)
            block_is h (inr (inl v)) ro = absurd (others d h 4 3 z ro (λ k. omega arith) v)
            block_is h (inr (inr (inl v))) ro = absurd (others f h 5 3 y ro (λ k. omega arith) v)
            block_is h (inr (inr (inr v))) ro = absurd v
        three c d f q a z y s (inr (inr (inl u))) =
            inr (inr (
              ap (role_of ns) (sym u) ∙ y,
              subst (λ m. offset_at ns names b m + width_at ns b m ≡ offset_at ns names b p + width_at ns b p) u
                  (let g : sum (width_at ns b) (order ns p) ≡ width_at ns b c + (width_at ns b d + (width_at ns b f + 0)) = ap (sum (width_at ns b)) q in omega (arith, w, g, s.1.1.0)),
            ))
        three c d f q a z y s (inr (inr (inr u))) = absurd u

        tri : Two ns p 3 4 ⊎ (Two ns p 3 5 ⊎ Three ns p)
            → ((role_of ns j ≡ 3) × (offset_at ns names b j ≡ offset_at ns names b p + own_width ns b p))
            ⊎ (((role_of ns j ≡ 4) × ((c : ℕ) → In c (order ns p) → role_of ns c ≡ 3 → offset_at ns names b j ≡ offset_at ns names b p + own_width ns b p + width_at ns b c))
            ⊎ ((role_of ns j ≡ 5) × (offset_at ns names b j + width_at ns b j ≡ offset_at ns names b p + width_at ns b p)))
        tri (inl v) = let (c, d, q, x, y) = v in two 4 (inl refl) c d q x y (subst Placed q row) (subst (In j) q i)
        tri (inr (inl v)) = let (c, d, q, x, y) = v in two 5 (inr refl) c d q x y (subst Placed q row) (subst (In j) q i)
        tri (inr (inr v)) = let (c, d, f, q, x, y, z) = v in three c d f q x y z (subst Placed q row) (subst (In j) q i)
