-- Refusals 2, 3 and 6 give what the layout asks of the tables.
use Rattle.std.specs.Prelude.{ℕ, zero, suc, ◌+◌, ◌≤◌, ◌<◌, ◌≡◌, Bool, ◌&&◌, ◌||◌, ◌⊎◌}
use Rattle.std.proofs.Math.Path.{refl, ap, sym}
use Rattle.std.proofs.Common.{◌∙◌, subst, inl, inr}
use mathlib.Core.List.{List, [], ◌∷◌, ◌++◌}
use Rattle.std.proofs.Math.Bool.{true, false, cond}
use Rattle.std.proofs.Math.Logic.{⊎_elim}
use Rattle.std.proofs.Math.Decide.{dec_lt}
use native.Mathlib.Omega.{arith}
use borrow.Author.Tests.{eq-eqb, ne_eqb, eqb-true, eqb-false}
use Rattle.std.proofs.Math.Dec.{eqb}
use Rattle.std.proofs.Math.ListN.{length}
use Rattle.base_common.specs.Upto.{upto}
use Rattle.base_common.proofs.UptoLaws.{upto_nil, upto_cons, and_left_lem, and_right_lem}
use Rattle.base_common.specs.Tests.{within}
use Rattle.base_common.proofs.Bools.{never, either, in_range_lem, range_of}
use Rattle.table_records.specs.Table.{kind_of, parent_of, role_of, flags_of, count, has_flag}
use Rattle.table_records.specs.Kinds as k
use Rattle.table_records.specs.NodeFlag as flag
use Rattle.table_records.specs.Facts.{Tree}
use Rattle.table_children.specs.Children.{keep, children, fits, is_child, how_many}
use Rattle.table_children.proofs.ChildrenLaws.{keep_keep, tally, tally_all}
use Rattle.refusal_fields.specs.Fields.{Listed}
use Rattle.refusal_standing.specs.Standing.{Placed}
use Rattle.refusal_counts.specs.Counts.{with_role as number, Counted}
use Rattle.code_tree.specs.Parts.{entered_by, up_of, shape_at, is_part, part_by, parts, with_role, order_by, order}
use Rattle.code_tree.proofs.PartsLaws.{All, parts_all}
use Rattle.code_tree.specs.Parts.{Part}
use Rattle.code_tree.proofs.UpLaws.{up_falls}
use Rattle.code_tree.specs.declared.Shape.{Shape}
use Rattle.code_tree.specs.declared.Shape.TheVariants.{Leaf as Single, Class, If, With, Block, Label, Loop, Switch, Case, Try, Catch}
use Rattle.code_layout.specs.Shaped.{is_one, is_case, is_switch, One, Two, Three, Good}
use Rattle.code_wellformed.proofs.KindsLaws.{one_kind_lem, case_kind, switch_kind, if_kind, try_kind, catch_kind, try_shape, case_shape, switch_shape, body_shape, class_shape, static_shape}

-- Two tests that agree keep the same.
keep_same : (q r : ℕ → Bool) (n f i : ℕ) → n ≤ i + f → ((j : ℕ) → i ≤ j → j < n → q j ≡ r j) → keep q (upto i n) ≡ keep r (upto i n)
unfolding keep
keep_same q r n zero i h w = rw (upto_nil i n (omega arith))
keep_same q r n (suc f) i h w = go (dec_lt i n) (keep_same q r n f (i + 1) (omega arith) (λ j a c. w j (omega arith) c))
  where
    go : Dec (i < n) → keep q (upto (i + 1) n) ≡ keep r (upto (i + 1) n) → keep q (upto i n) ≡ keep r (upto i n)
    go (no a) e = rw (upto_nil i n (omega arith))
    go (yes a) e = rw (upto_cons i n a) (λ m. cond (w i (omega arith) a m) (i ∷ e m) (e m))

and_off : (a : Bool) → (a && false) ≡ false
and_off true = refl
and_off false = refl

module _ (ns : List ℕ) (t : Tree ns) (li : Listed ns) (pl : Placed ns) where
  -- A static block is entered from a class or an export.
  pub static_up : (j : ℕ) → j < count ns → kind_of ns j ≡ k.StaticBlock → shape_at ns (up_of ns j) ≡ Class
  unfolding up_of
  static_up j l e =
      ap (λ x. shape_at ns (cond x (entered_by ns (parent_of ns (parent_of ns j))) (parent_of ns j))) (eq-eqb (kind_of ns j) k.StaticBlock e)
      ∙ go (within (kind_of ns (parent_of ns (parent_of ns (parent_of ns j)))) k.ExportDefault k.ExportNamed && has_flag (flags_of ns (parent_of ns (parent_of ns j))) flag.Declaration) refl
    where
      pos : Dec (0 < j) → 0 < j
      pos (yes h) = h
      pos (no h) = let z : kind_of ns j ≡ 0 = ap (kind_of ns) (let q : j ≡ 0 = omega arith in q) ∙ t.root in absurd (omega arith)

      up : parent_of ns j < count ns
      up = let h = t.falls j (pos (dec_lt 0 j)) l in omega arith

      class : kind_of ns (parent_of ns (parent_of ns j)) ≡ 26
      class = pl.class_body (parent_of ns j) up (pl.static_block j l e)

      export : (m : ℕ) → (53 ≤ m) × (m ≤ 54) → (m ≡ 26) ⊎ ((m ≡ 53) ⊎ (m ≡ 54))
      export m r = by (dec_lt m 54)
        where
          by : Dec (m < 54) → (m ≡ 26) ⊎ ((m ≡ 53) ⊎ (m ≡ 54))
          by (yes h) = inr (inl (omega arith))
          by (no h) = inr (inr (omega arith))

      go : (x : Bool) → (within (kind_of ns (parent_of ns (parent_of ns (parent_of ns j)))) k.ExportDefault k.ExportNamed && has_flag (flags_of ns (parent_of ns (parent_of ns j))) flag.Declaration) ≡ x
          → shape_at ns (cond x (parent_of ns (parent_of ns (parent_of ns j))) (parent_of ns (parent_of ns j))) ≡ Class
      go true q =
          class_shape (kind_of ns (parent_of ns (parent_of ns (parent_of ns j))))
          (export (kind_of ns (parent_of ns (parent_of ns (parent_of ns j)))) (range_of (kind_of ns (parent_of ns (parent_of ns (parent_of ns j)))) 53 54 (and_left_lem _ _ q)))
      go false q = class_shape (kind_of ns (parent_of ns (parent_of ns j))) (inl class)

  pub plain_up : (j : ℕ) → eqb (kind_of ns j) k.StaticBlock ≡ false → up_of ns j ≡ parent_of ns j
  unfolding up_of
  plain_up j e = ap (λ x. cond x (entered_by ns (parent_of ns (parent_of ns j))) (parent_of ns j)) e

  -- The parts with a role are counted as refusal 6 counts children with it.
  module _ (p r : ℕ) (takes : (l : ℕ) → part_by (shape_at ns p) l r ≡ true) where
    agree : (j : ℕ) → j < count ns → ((eqb (up_of ns j) p && is_part ns j) && eqb (role_of ns j) r) ≡ is_child ns p 0 55 r r j
    unfolding is_child is_part
    agree j l = split (eqb (kind_of ns j) k.StaticBlock) refl
      where
        other : (x : Bool) → within (role_of ns j) r r ≡ x → (role_of ns j ≡ r → ⊥) → x ≡ false
        other true e n = let w = range_of (role_of ns j) r r e in absurd (n (omega arith))
        other false e n = refl

        go : (x : Bool) → eqb (parent_of ns j) p ≡ x → (y : Bool) → eqb (role_of ns j) r ≡ y
            → ((x && part_by (shape_at ns (parent_of ns j)) (kind_of ns j) (role_of ns j)) && y) ≡ (x && (within (kind_of ns j) 0 55 && within (role_of ns j) r r))
        go false a y b = refl
        go true a true b =
            let u = eqb-true (parent_of ns j) p a in
            let v = eqb-true (role_of ns j) r b in
            let w : part_by (shape_at ns (parent_of ns j)) (kind_of ns j) (role_of ns j) ≡ true = (λ m. part_by (shape_at ns (u m)) (kind_of ns j) (v m)) ∙ takes (kind_of ns j) in
            rw (w, in_range_lem (kind_of ns j) 0 55 (omega arith) (li.kind j l), in_range_lem (role_of ns j) r r (omega arith) (omega arith))
        go true a false b =
            and_off (part_by (shape_at ns (parent_of ns j)) (kind_of ns j) (role_of ns j))
            ∙ sym (ap (λ z. within (kind_of ns j) 0 55 && z) (other (within (role_of ns j) r r) refl (eqb-false (role_of ns j) r b)) ∙ and_off (within (kind_of ns j) 0 55))

        split : (s : Bool) → eqb (kind_of ns j) k.StaticBlock ≡ s
            → ((eqb (up_of ns j) p && part_by (shape_at ns (up_of ns j)) (kind_of ns j) (role_of ns j)) && eqb (role_of ns j) r) ≡ (eqb (parent_of ns j) p && (within (kind_of ns j) 0 55 && within (role_of ns j) r r))
        split true e =
            let q = eqb-true (kind_of ns j) k.StaticBlock e in
            let a : eqb (up_of ns j) p ≡ false = ne_eqb (up_of ns j) p (λ u. never (sym (takes 0) ∙ ap (λ s. part_by s 0 r) (sym (ap (shape_at ns) u) ∙ static_up j l q))) in
            let c : eqb (parent_of ns j) p ≡ false = ne_eqb (parent_of ns j) p (λ u. never (sym (takes 0) ∙ ap (λ s. part_by s 0 r) (sym (ap (shape_at ns) u) ∙ body_shape (kind_of ns (parent_of ns j)) (pl.static_block j l q)))) in
            ap (λ x. (x && part_by (shape_at ns (up_of ns j)) (kind_of ns j) (role_of ns j)) && eqb (role_of ns j) r) a
            ∙ sym (ap (λ x. x && (within (kind_of ns j) 0 55 && within (role_of ns j) r r)) c)
        split false e =
            let u = plain_up j e in
            (λ i. (eqb (u i) p && part_by (shape_at ns (u i)) (kind_of ns j) (role_of ns j)) && eqb (role_of ns j) r) ∙ go (eqb (parent_of ns j) p) refl (eqb (role_of ns j) r) refl

    role_count : length (with_role ns r (parts ns p (p + 1))) ≡ number ns p r
    unfolding parts tally
    role_count =
        ap length (keep_keep (λ j. eqb (role_of ns j) r) (λ j. eqb (up_of ns j) p && is_part ns j) (upto (p + 1) (count ns))
        ∙ keep_same (λ j. (eqb (up_of ns j) p && is_part ns j) && eqb (role_of ns j) r) (is_child ns p 0 55 r r) (count ns) (count ns) (p + 1) (omega arith) (λ j a c. agree j c))
        ∙ tally_all ns p 0 55 r r

module _ (ns : List ℕ) (p : ℕ) where
  -- The role of a part, by the shape of its holder.
  fitting : (c : ℕ) → Part ns p c → part_by (shape_at ns p) (kind_of ns c) (role_of ns c) ≡ true
  unfolding is_part
  fitting c w = sym (ap (λ x. part_by (shape_at ns x) (kind_of ns c) (role_of ns c)) w.parent) ∙ w.part

  all_of : (r : ℕ) → ((l s : ℕ) → part_by (shape_at ns p) l s ≡ true → s ≡ r) → (ps : List ℕ) → All (Part ns p) ps → with_role ns r ps ≡ ps
  unfolding keep
  all_of r only [] a = refl
  all_of r only (c ∷ cs) a = rw (eq-eqb (role_of ns c) r (only (kind_of ns c) (role_of ns c) (fitting c a.0))) (ap (λ l. c ∷ l) (all_of r only cs a.1))

  halves : ((l s : ℕ) → part_by (shape_at ns p) l s ≡ true → (s ≡ 3) ⊎ (s ≡ 4)) → (ps : List ℕ) → All (Part ns p) ps → length ps ≡ length (with_role ns 3 ps) + length (with_role ns 4 ps)
  unfolding keep
  halves only [] a = refl
  halves only (c ∷ cs) a = ⊎_elim
      (λ e. rw (eq-eqb (role_of ns c) 3 e, ne_eqb (role_of ns c) 4 (λ z. omega arith)) (omega (arith, halves only cs a.1)))
      (λ e. rw (ne_eqb (role_of ns c) 3 (λ z. omega arith), eq-eqb (role_of ns c) 4 e) (omega (arith, halves only cs a.1)))
      (only (kind_of ns c) (role_of ns c) (fitting c a.0))

  -- Those kept by a role have it.
  kept : (r : ℕ) (ps : List ℕ) → All (λ c. role_of ns c ≡ r) (with_role ns r ps)
  unfolding keep
  kept r [] = tt
  kept r (c ∷ cs) = go (eqb (role_of ns c) r) refl (kept r cs)
    where
      go : (x : Bool) → eqb (role_of ns c) r ≡ x → All (λ c. role_of ns c ≡ r) (with_role ns r cs) → All (λ c. role_of ns c ≡ r) (cond x (c ∷ with_role ns r cs) (with_role ns r cs))
      go true e a = (eqb-true (role_of ns c) r e, a)
      go false e a = a

single : (l : List ℕ) → length l ≡ 1 → (c : ℕ) × (l ≡ c ∷ [])
single [] e = absurd (omega arith)
single (c ∷ []) e = (c, refl)
single (c ∷ d ∷ l) e = absurd (omega arith)

-- None, or one.
at_most : (l : List ℕ) → length l ≤ 1 → (l ≡ []) ⊎ ((c : ℕ) × (l ≡ c ∷ []))
at_most [] h = inl refl
at_most (c ∷ []) h = inr (c, refl)
at_most (c ∷ d ∷ l) h = absurd (omega arith)

held_only : (s : Shape) → is_one s ≡ true → (l r : ℕ) → part_by s l r ≡ true → r ≡ 3
held_only Single o l r e = never (sym o)
held_only Class o l r e = never (sym o)
held_only If o l r e = never (sym o)
held_only With o l r e = eqb-true r 3 e
held_only Block o l r e = never (sym o)
held_only Label o l r e = eqb-true r 3 e
held_only Loop o l r e = eqb-true r 3 e
held_only Switch o l r e = never (sym o)
held_only Case o l r e = never (sym o)
held_only Try o l r e = never (sym o)
held_only Catch o l r e = eqb-true r 3 e

held_taken : (s : Shape) → is_one s ≡ true → (l : ℕ) → part_by s l 3 ≡ true
held_taken Single o l = never (sym o)
held_taken Class o l = never (sym o)
held_taken If o l = never (sym o)
held_taken With o l = refl
held_taken Block o l = never (sym o)
held_taken Label o l = refl
held_taken Loop o l = refl
held_taken Switch o l = never (sym o)
held_taken Case o l = never (sym o)
held_taken Try o l = never (sym o)
held_taken Catch o l = refl

held_order : (ns : List ℕ) (s : Shape) → is_one s ≡ true → (ps : List ℕ) → order_by ns s ps ≡ ps
held_order ns Single o ps = never (sym o)
held_order ns Class o ps = never (sym o)
held_order ns If o ps = never (sym o)
held_order ns With o ps = refl
held_order ns Block o ps = never (sym o)
held_order ns Label o ps = refl
held_order ns Loop o ps = refl
held_order ns Switch o ps = never (sym o)
held_order ns Case o ps = never (sym o)
held_order ns Try o ps = never (sym o)
held_order ns Catch o ps = refl

if_only_lem : (r : ℕ) → (eqb r 3 || eqb r 4) ≡ true → (r ≡ 3) ⊎ (r ≡ 4)
if_only_lem r e = ⊎_elim (λ x. inl (eqb-true r 3 x)) (λ x. inr (eqb-true r 4 x)) (either (eqb r 3) (eqb r 4) e)

-- The one or two parts of an If.
abbrev Branches : List ℕ → List ℕ → Type 0
Branches ns l = ((c : ℕ) × (l ≡ c ∷ []))
    ⊎ (((c : ℕ) × (d : ℕ) × (l ≡ c ∷ d ∷ []) × (role_of ns c ≡ 3) × (role_of ns d ≡ 4)) ⊎ ((c : ℕ) × (d : ℕ) × (l ≡ c ∷ d ∷ []) × (role_of ns c ≡ 4) × (role_of ns d ≡ 3)))

two_parts : (ns l : List ℕ) → length l ≡ length (with_role ns 3 l) + length (with_role ns 4 l) → length (with_role ns 3 l) ≡ 1 → length (with_role ns 4 l) ≤ 1 → Branches ns l
unfolding keep
two_parts ns [] h a b = absurd (omega arith)
two_parts ns (c ∷ []) h a b = inl (c, refl)
two_parts ns (c ∷ d ∷ []) h a b = go (eqb (role_of ns c) 3) refl (eqb (role_of ns d) 3) refl (eqb (role_of ns c) 4) refl (eqb (role_of ns d) 4) refl h a b
  where
    go : (x : Bool) → eqb (role_of ns c) 3 ≡ x → (y : Bool) → eqb (role_of ns d) 3 ≡ y → (z : Bool) → eqb (role_of ns c) 4 ≡ z → (w : Bool) → eqb (role_of ns d) 4 ≡ w
        → 2 ≡ length (cond x (c ∷ cond y (d ∷ []) []) (cond y (d ∷ []) [])) + length (cond z (c ∷ cond w (d ∷ []) []) (cond w (d ∷ []) []))
        → length (cond x (c ∷ cond y (d ∷ []) []) (cond y (d ∷ []) [])) ≡ 1 → length (cond z (c ∷ cond w (d ∷ []) []) (cond w (d ∷ []) [])) ≤ 1
        → Branches ns (c ∷ d ∷ [])
    go true e true e' z f w f' h a b = absurd (omega arith)
    go false e false e' z f w f' h a b = absurd (omega arith)
    go true e false e' z f true f' h a b = inr (inl (c, d, refl, eqb-true (role_of ns c) 3 e, eqb-true (role_of ns d) 4 f'))
    go true e false e' true f false f' h a b = let u = eqb-true (role_of ns c) 3 e in let v = eqb-true (role_of ns c) 4 f in absurd (omega arith)
    go true e false e' false f false f' h a b = absurd (omega arith)
    go false e true e' true f w f' h a b = inr (inr (c, d, refl, eqb-true (role_of ns c) 4 f, eqb-true (role_of ns d) 3 e'))
    go false e true e' false f true f' h a b = let u = eqb-true (role_of ns d) 3 e' in let v = eqb-true (role_of ns d) 4 f' in absurd (omega arith)
    go false e true e' false f false f' h a b = absurd (omega arith)
two_parts ns (c ∷ d ∷ e ∷ l) h a b = absurd (omega arith)

-- Roles 4 and 5 counted at once, and one by one.
either_count : (ns l : List ℕ) → length (keep (fits ns 0 55 4 5) l) ≤ length (keep (fits ns 0 55 4 4) l) + length (keep (fits ns 0 55 5 5) l)
unfolding keep
either_count ns [] = omega arith
either_count ns (c ∷ l) = go (fits ns 0 55 4 5 c) refl (fits ns 0 55 4 4 c) refl (fits ns 0 55 5 5 c) refl (either_count ns l)
  where
    one : within (kind_of ns c) 0 55 ≡ true → (r : ℕ) → 4 ≤ r → r ≤ 5 → (within r 4 4 ≡ true) ⊎ (within r 5 5 ≡ true)
    one w r h u = by (dec_lt r 5)
      where
        by : Dec (r < 5) → (within r 4 4 ≡ true) ⊎ (within r 5 5 ≡ true)
        by (yes v) = inl (in_range_lem r 4 4 h (omega arith))
        by (no v) = inr (in_range_lem r 5 5 (omega arith) u)

    some : fits ns 0 55 4 5 c ≡ true → (fits ns 0 55 4 4 c ≡ true) ⊎ (fits ns 0 55 5 5 c ≡ true)
    some e =
        let a = and_left_lem (within (kind_of ns c) 0 55) (within (role_of ns c) 4 5) e in
        let r = range_of (role_of ns c) 4 5 (and_right_lem (within (kind_of ns c) 0 55) (within (role_of ns c) 4 5) e) in
        ⊎_elim (λ x. inl (λ i. both a x i)) (λ x. inr (λ i. both a x i)) (one a (role_of ns c) r.0 r.1)
      where
        both : {x y : Bool} → x ≡ true → y ≡ true → (x && y) ≡ true
        both p q = λ i. p i && q i

    go : (x : Bool) → fits ns 0 55 4 5 c ≡ x → (y : Bool) → fits ns 0 55 4 4 c ≡ y → (z : Bool) → fits ns 0 55 5 5 c ≡ z
        → length (keep (fits ns 0 55 4 5) l) ≤ length (keep (fits ns 0 55 4 4) l) + length (keep (fits ns 0 55 5 5) l)
        → length (cond x (c ∷ keep (fits ns 0 55 4 5) l) (keep (fits ns 0 55 4 5) l))
        ≤ length (cond y (c ∷ keep (fits ns 0 55 4 4) l) (keep (fits ns 0 55 4 4) l)) + length (cond z (c ∷ keep (fits ns 0 55 5 5) l) (keep (fits ns 0 55 5 5) l))
    go true e true f true g h = omega arith
    go true e true f false g h = omega arith
    go true e false f true g h = omega arith
    go true e false f false g h = ⊎_elim (λ q. never (sym q ∙ f)) (λ q. never (sym q ∙ g)) (some e)
    go false e true f true g h = omega arith
    go false e true f false g h = omega arith
    go false e false f true g h = omega arith
    go false e false f false g h = h

module _ (ns : List ℕ) (t : Tree ns) (li : Listed ns) (pl : Placed ns) (co : Counted ns) where
  order_plain : (j : ℕ) (s : Shape) → shape_at ns j ≡ s → order_by ns s (parts ns j (j + 1)) ≡ parts ns j (j + 1) → order ns j ≡ parts ns j (j + 1)
  unfolding order
  order_plain j s x e = ap (λ z. order_by ns z (parts ns j (j + 1))) x ∙ e

  one_of_lem : (j : ℕ) → j < count ns → is_one (shape_at ns j) ≡ true → One ns j
  one_of_lem j l o =
      let w : number ns j 3 ≡ 1 = ⊎_elim (λ u. co.body j l u.0 u.1) (λ u. co.clause_block j l u) (one_kind_lem (kind_of ns j) o) in
      let (c, q) = single (parts ns j (j + 1))
      (ap length (sym (all_of ns j 3 (held_only (shape_at ns j) o) (parts ns j (j + 1)) (parts_all ns j))) ∙ role_count ns t li pl j 3 (held_taken (shape_at ns j) o) ∙ w) in
      (c, order_plain j (shape_at ns j) refl (held_order ns (shape_at ns j) o (parts ns j (j + 1))) ∙ q)

  ifs_of : (j : ℕ) → j < count ns → shape_at ns j ≡ If → One ns j ⊎ (Two ns j 3 4 ⊎ Two ns j 4 3)
  ifs_of j l e =
      let q = if_kind (kind_of ns j) e in
      let a = role_count ns t li pl j 3 (λ m. ap (λ s. part_by s m 3) e) in
      let b = role_count ns t li pl j 4 (λ m. ap (λ s. part_by s m 4) e) in
      let c = co.body j l (omega arith) (omega arith) in
      let d = co.alternate j l q in
      turn (two_parts ns (parts ns j (j + 1)) (halves ns j (λ m r x. if_only_lem r (sym (ap (λ s. part_by s m r) e) ∙ x)) (parts ns j (j + 1)) (parts_all ns j)) (a ∙ c) (omega arith))
    where
      o : order ns j ≡ parts ns j (j + 1)
      o = order_plain j If e refl

      turn : Branches ns (parts ns j (j + 1)) → One ns j ⊎ (Two ns j 3 4 ⊎ Two ns j 4 3)
      turn (inl x) = let (c, q) = x in inl (c, o ∙ q)
      turn (inr (inl x)) = let (c, d, q, y, z) = x in inr (inl (c, d, o ∙ q, y, z))
      turn (inr (inr x)) = let (c, d, q, y, z) = x in inr (inr (c, d, o ∙ q, y, z))

  tries_of : (j : ℕ) → j < count ns → shape_at ns j ≡ Try → Two ns j 3 4 ⊎ (Two ns j 3 5 ⊎ Three ns j)
  unfolding order how_many
  tries_of j l e =
      go (single (with_role ns 3 (parts ns j (j + 1))) (role_count ns t li pl j 3 (λ m. ap (λ s. part_by s m 3) e) ∙ co.try_block j l q))
      (at_most (with_role ns 4 (parts ns j (j + 1))) (subst (λ m. m ≤ 1) (sym r4) (co.try_clause j l q))) (at_most (with_role ns 5 (parts ns j (j + 1))) (subst (λ m. m ≤ 1) (sym r5) (co.try_finally j l q)))
    where
      q : kind_of ns j ≡ 16
      q = try_kind (kind_of ns j) e

      r4 : length (with_role ns 4 (parts ns j (j + 1))) ≡ number ns j 4
      r4 = role_count ns t li pl j 4 (λ m. ap (λ s. part_by s m 4) e)

      r5 : length (with_role ns 5 (parts ns j (j + 1))) ≡ number ns j 5
      r5 = role_count ns t li pl j 5 (λ m. ap (λ s. part_by s m 5) e)

      o : order ns j ≡ with_role ns 3 (parts ns j (j + 1)) ++ (with_role ns 4 (parts ns j (j + 1)) ++ with_role ns 5 (parts ns j (j + 1)))
      o = ap (λ z. order_by ns z (parts ns j (j + 1))) e

      role : (r c : ℕ) → with_role ns r (parts ns j (j + 1)) ≡ c ∷ [] → role_of ns c ≡ r
      role r c u = (subst (All (λ c. role_of ns c ≡ r)) u (kept ns j r (parts ns j (j + 1)))).0

      both : (a d f : List ℕ) → with_role ns 3 (parts ns j (j + 1)) ≡ a → with_role ns 4 (parts ns j (j + 1)) ≡ d → with_role ns 5 (parts ns j (j + 1)) ≡ f → order ns j ≡ a ++ (d ++ f)
      both a d f x y z = o ∙ (λ i. x i ++ (y i ++ z i))

      go : ((c : ℕ) × (with_role ns 3 (parts ns j (j + 1)) ≡ c ∷ [])) → ((with_role ns 4 (parts ns j (j + 1)) ≡ []) ⊎ ((c : ℕ) × (with_role ns 4 (parts ns j (j + 1)) ≡ c ∷ [])))
          → ((with_role ns 5 (parts ns j (j + 1)) ≡ []) ⊎ ((c : ℕ) × (with_role ns 5 (parts ns j (j + 1)) ≡ c ∷ []))) → Two ns j 3 4 ⊎ (Two ns j 3 5 ⊎ Three ns j)
      go x (inl y) (inl z) =
          let a : number ns j 4 ≡ 0 = sym r4 ∙ ap length y in
          let c : number ns j 5 ≡ 0 = sym r5 ∙ ap length z in
          let h = either_count ns (children ns j) in
          absurd (co.try_either j l q (omega arith))
      go x (inr y) (inl z) = let (c, u) = x in let (d, v) = y in inl (c, d, both (c ∷ []) (d ∷ []) [] u v z, role 3 c u, role 4 d v)
      go x (inl y) (inr z) = let (c, u) = x in let (f, v) = z in inr (inl (c, f, both (c ∷ []) [] (f ∷ []) u y v, role 3 c u, role 5 f v))
      go x (inr y) (inr z) = let (c, u) = x in let (d, v) = y in let (f, w) = z in inr (inr (c, d, f, both (c ∷ []) (d ∷ []) (f ∷ []) u v w, role 3 c u, role 4 d v, role 5 f w))

  cases_of_lem : (j : ℕ) → j < count ns → is_part ns j ≡ true → is_case (shape_at ns j) ≡ is_switch (shape_at ns (up_of ns j))
  unfolding is_part
  cases_of_lem j l e = split (eqb (kind_of ns j) k.StaticBlock) refl
    where
      up : is_case (shape_at ns j) ≡ true → is_switch (shape_at ns (parent_of ns j)) ≡ true
      up x = ap is_switch (switch_shape (kind_of ns (parent_of ns j)) (pl.switch_case j l (case_kind (kind_of ns j) x)).0)

      down : up_of ns j ≡ parent_of ns j → is_switch (shape_at ns (parent_of ns j)) ≡ true → is_case (shape_at ns j) ≡ true
      down u x =
          let q = switch_kind (kind_of ns (parent_of ns j)) x in
          let s : shape_at ns (parent_of ns j) ≡ Switch = switch_shape (kind_of ns (parent_of ns j)) q in
          let r = eqb-true (role_of ns j) 3 (sym (ap (λ z. part_by z (kind_of ns j) (role_of ns j)) (ap (shape_at ns) u ∙ s)) ∙ e) in
          ap is_case (case_shape (kind_of ns j) (pl.in_switch j l q r))

      go : up_of ns j ≡ parent_of ns j → (x : Bool) → is_case (shape_at ns j) ≡ x → (y : Bool) → is_switch (shape_at ns (parent_of ns j)) ≡ y → x ≡ y
      go u true a true b = refl
      go u false a false b = refl
      go u true a false b = never (sym (up a) ∙ b)
      go u false a true b = never (sym (down u b) ∙ a)

      split : (s : Bool) → eqb (kind_of ns j) k.StaticBlock ≡ s → is_case (shape_at ns j) ≡ is_switch (shape_at ns (up_of ns j))
      split true x =
          let q = eqb-true (kind_of ns j) k.StaticBlock x in
          ap is_case (static_shape (kind_of ns j) q) ∙ sym (ap is_switch (static_up ns t li pl j l q))
      split false x =
          let u = plain_up ns t li pl j x in
          go u (is_case (shape_at ns j)) refl (is_switch (shape_at ns (parent_of ns j))) refl ∙ ap (λ m. is_switch (shape_at ns m)) (sym u)

  -- "CatchClause, only there"
  catches_of : (j : ℕ) → j < count ns → shape_at ns j ≡ Catch → shape_at ns (up_of ns j) ≡ Try
  catches_of j l e =
      let q = catch_kind (kind_of ns j) e in
      let u = plain_up ns t li pl j (ne_eqb (kind_of ns j) k.StaticBlock (λ h. omega arith)) in
      ap (shape_at ns) u ∙ try_shape (kind_of ns (parent_of ns j)) (pl.clause j l q).0

  -- THE LAW: tables that refusals 2, 3 and 6 pass are what the layout asks for.
  pub good : Good ns
  good = record { tree = t; falls = up_falls ns t; shaped = record { one = one_of_lem; ifs = ifs_of; tries = tries_of; cases = λ j h l e. cases_of_lem j l e; catches = catches_of } }
