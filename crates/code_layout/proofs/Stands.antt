-- Each node's words stand at its place; every place of the code is some node's; and no place is two nodes'.
use Rattle.std.specs.Prelude.{ℕ, zero, suc, ◌+◌, ◌≤◌, ◌<◌, ◌≡◌, ◌⊎◌, Bool, length}
use Rattle.std.proofs.Math.Path.{refl, subst}
use Rattle.std.proofs.Common.{ap, sym, ◌∙◌, inl, inr, eq-or-lt_of_le, eqb-true}
use mathlib.Core.List.{List, [], ◌∷◌}
use Rattle.std.proofs.Math.Bool.{true, false, cond}
use Rattle.std.proofs.Math.Dec.{eqb}
use Rattle.std.proofs.Math.Decide.{dec_lt}
use native.Mathlib.Omega.{arith}
use Rattle.std.proofs.lemmas.Bool.{eqb-false}
use Rattle.table_records.specs.Table.{count}
use Rattle.code_flat.proofs.Correct.{has_left, has_right}
use Rattle.code_flat.specs.Has.{Has}
use Rattle.code_tree.specs.Parts.{up_of, shape_at, order}
use Rattle.code_tree.proofs.PartsLaws.{All, order_all_lem}
use Rattle.code_tree.specs.Parts.{Part}
use Rattle.code_tree.proofs.BoundLaws.{all_map}
use Rattle.code_tree.specs.declared.Shape.{Shape}
use Rattle.code_tree.specs.declared.Shape.TheVariants.{Leaf as Single, Class, If, With, Block, Label, Loop, Switch, Case, Try, Catch}
use Rattle.code_layout.specs.Widths.{sum, in_unit, own_width, width_at}
use Rattle.code_layout.specs.Context.{before, behind, Context, part_context, context_at, offset_at}
use Rattle.code_layout.specs.Words.{words_at, flat, code_at}
use Rattle.code_layout.specs.Shaped.{Good}
use Rattle.code_layout.proofs.Sums.{In, Row, row, order_distinct, in_order}
use Rattle.code_layout.proofs.LayoutLaws.{in_low, in_part, in_above, in_down, width_is_lem, context_part, words_length_lem, code_is, code_length_lem}

module _ (ns names : List ℕ) (b : ℕ) where
  abbrev Z : ℕ → ℕ
  Z j = width_at ns b j

  abbrev at : ℕ → ℕ
  at j = offset_at ns names b j

  down_offset : (sh : Shape) (p : ℕ) (ps : List ℕ) (a : Context) (c o m : ℕ) → (part_context ns names b sh p ps a c o m).offset ≡ o
  down_offset Single p ps a c o m = refl
  down_offset Class p ps a c o m = refl
  down_offset If p ps a c o m = refl
  down_offset With p ps a c o m = refl
  down_offset Block p ps a c o m = refl
  down_offset Label p ps a c o m = refl
  down_offset Loop p ps a c o m = refl
  down_offset Switch p ps a c o m = refl
  down_offset Case p ps a c o m = refl
  down_offset Try p ps a c o m = refl
  down_offset Catch p ps a c o m = refl

  -- Where a list stands, each of its parts stands behind those before it.
  has_part : (C : List ℕ) (P : ℕ → List ℕ) (z : ℕ → ℕ) (l : List ℕ) (o c : ℕ) → All (λ k. length (P k) ≡ z k) l → In c l → Has C o (flat ns names b P l) → Has C (o + before z l c) (P c)
  unfolding flat before
  has_part C P z [] o c a i h = absurd i
  has_part C P z (k ∷ ks) o c a i h = go (eqb k c) refl i (λ j. has_part C P z ks (o + z k) c a.1 j (has_right C o (P k) (flat ns names b P ks) (o + z k) (ap (λ m. o + m) (sym a.0)) h))
    where
      go : (x : Bool) → eqb k c ≡ x → (k ≡ c) ⊎ In c ks → (In c ks → Has C (o + z k + before z ks c) (P c)) → Has C (o + cond x 0 (z k + before z ks c)) (P c)
      go true e j r =
          subst (λ m. Has C m (P c)) (let q : o ≡ o + 0 = omega arith in q) (subst (λ m. Has C o (P m)) (eqb-true k c e) (has_left C o (P k) (flat ns names b P ks) h))
      go false e (inl q) r = absurd (eqb-false k c e q)
      go false e (inr j) r = subst (λ m. Has C m (P c)) (let q : o + z k + before z ks c ≡ o + (z k + before z ks c) = omega arith in q) (r j)

  module _ (g : Good ns) where
    pub offset_part : (p c : ℕ) → b ≤ p → Part ns p c → at c ≡ at p + own_width ns b p + before Z (order ns p) c
    offset_part p c h w =
        ap (λ a. a.offset) (context_part ns names b g.falls p c h w)
        ∙ down_offset (shape_at ns p) p (order ns p) (context_at ns names b p) c (at p + own_width ns b p + before Z (order ns p) c) (behind (order ns p) c)

    -- The parts of p one after the other, behind its own_width words.
    abbrev pub Placed : ℕ → List ℕ → Type 0
    Placed o l = Row Z (λ c k m. at c ≡ k) o l

    pub placed : (p : ℕ) → b ≤ p → p < count ns → Placed (at p + own_width ns b p) (order ns p)
    placed p h l =
        row Z (λ c k m. at c ≡ k) (at p + own_width ns b p) (order ns p) (order_distinct ns p g l)
        (all_map (Part ns p) _ (λ c w. offset_part p c h w) (order ns p) (order_all_lem ns p))

    pub in_from : (p : ℕ) → in_unit ns b p ≡ true → b ≤ p
    in_from p e = go (dec_lt p b)
      where
        go : Dec (p < b) → b ≤ p
        go (yes l) = let y : true ≡ false = sym e ∙ in_low ns b p l in let z : ◌≡◌ {A = ℕ} 0 1 = cc in absurd (omega arith)
        go (no l) = omega arith

    -- THE LAW of places: a code that begins with the holder's has each node's at its place.
    module _ (C : List ℕ) (start : Has C (at b) (code_at ns names b b)) where
      step : (p j : ℕ) → b ≤ p → Part ns p j → p < count ns → Has C (at p) (code_at ns names b p) → Has C (at j) (code_at ns names b j)
      step p j h w l s =
          subst (λ k. Has C k (code_at ns names b j)) (sym (offset_part p j h w))
          (has_part C (code_at ns names b) Z (order ns p) (at p + own_width ns b p) j (all_map (Part ns p) _ (λ c v. code_length_lem ns names b c) (order ns p) (order_all_lem ns p)) (in_order ns p j w)
          (has_right C (at p) (words_at ns names b p) (flat ns names b (code_at ns names b) (order ns p)) (at p + own_width ns b p) (ap (λ m. at p + m) (sym (words_length_lem ns names b p)))
          (subst (Has C (at p)) (code_is ns names b p l) s)))

      stands_by : (n j : ℕ) → j < n → j < count ns → in_unit ns b j ≡ true → Has C (at j) (code_at ns names b j)
      stands_by zero j f hc e = absurd (omega arith)
      stands_by (suc n) j f hc e = go (eq-or-lt_of_le (in_from j e)) (λ p l q v. stands_by n p l q v)
        where
          go : (b ≡ j) ⊎ (b < j) → ((p : ℕ) → p < n → p < count ns → in_unit ns b p ≡ true → Has C (at p) (code_at ns names b p)) → Has C (at j) (code_at ns names b j)
          go (inl q) ih = subst (λ k. Has C (at k) (code_at ns names b k)) q start
          go (inr h) ih =
              let w = in_part ns b g.falls j h hc e in
              let u = in_above ns b g.falls j h hc e in
              let l = w.behind in
              step (up_of ns j) j (in_from (up_of ns j) u) w (omega arith) (ih (up_of ns j) (omega arith) (omega arith) u)

      pub stands : (j : ℕ) → j < count ns → in_unit ns b j ≡ true → Has C (at j) (code_at ns names b j)
      stands j h e = stands_by (suc j) j (omega arith) h e

      pub words_stand : (j : ℕ) → j < count ns → in_unit ns b j ≡ true → Has C (at j) (words_at ns names b j)
      words_stand j h e = has_left C (at j) (words_at ns names b j) (flat ns names b (code_at ns names b) (order ns j)) (subst (Has C (at j)) (code_is ns names b j h) (stands j h e))

    -- Every place is some node's: x lies in what is below j.
    pub record Owner (x : ℕ) : Type 0 where
      pub node : ℕ
      pub inside : node < count ns
      pub belongs : in_unit ns b node ≡ true
      pub low : at node ≤ x
      pub high : x < at node + own_width ns b node

    search' : (p x : ℕ) (l : List ℕ) (o : ℕ) → Placed o l → All (Part ns p) l → o ≤ x → x < o + sum Z l → (c : ℕ) × Part ns p c × (at c ≤ x) × (x < at c + Z c)
    unfolding sum
    search' p x [] o r a h u = absurd (omega arith)
    search' p x (c ∷ cs) o r a h u = go (dec_lt x (o + Z c)) (λ v. search' p x cs (o + Z c) r.1 a.1 v (omega arith))
      where
        go : Dec (x < o + Z c) → (o + Z c ≤ x → (d : ℕ) × Part ns p d × (at d ≤ x) × (x < at d + Z d)) → (d : ℕ) × Part ns p d × (at d ≤ x) × (x < at d + Z d)
        go (yes v) k = (c, a.0, omega (arith, r.0), omega (arith, r.0))
        go (no v) k = k (omega arith)

    pub fills : (f j x : ℕ) → count ns ≤ j + f → j < count ns → in_unit ns b j ≡ true → at j ≤ x → x < at j + Z j → Owner x
    fills zero j x f hc e h u = absurd (omega arith)
    fills (suc n) j x f hc e h u = go (dec_lt x (at j + own_width ns b j)) (λ c w s t. fills n c x (omega (arith, w.behind)) w.inside (in_down ns b g.falls j c (in_from j e) e w) s t)
      where
        go : Dec (x < at j + own_width ns b j) → ((c : ℕ) → Part ns j c → at c ≤ x → x < at c + Z c → Owner x) → Owner x
        go (yes v) k = record { node = j; inside = hc; belongs = e; low = h; high = v }
        go (no v) k =
            let (c, w, s, t) = search' j x (order ns j) (at j + own_width ns b j) (placed j (in_from j e) hc) (order_all_lem ns j) (omega arith) (omega (arith, width_is_lem ns b j hc)) in
            k c w s t

    -- No place is two nodes'. What lies below c is within what lies below its parent.
    abbrev Within : ℕ → ℕ → Type 0
    Within x j = (at j ≤ x) × (x < at j + Z j)

    row_low : (l : List ℕ) (o c : ℕ) → Placed o l → In c l → (o ≤ at c) × (at c + Z c ≤ o + sum Z l)
    unfolding sum
    row_low [] o c r i = absurd i
    row_low (k ∷ ks) o c r (inl e) = subst (λ m. (o ≤ at m) × (at m + Z m ≤ o + (Z k + sum Z ks))) e (omega (arith, r.0), omega (arith, r.0))
    row_low (k ∷ ks) o c r (inr i) = let h = row_low ks (o + Z k) c r.1 i in (omega arith, omega arith)

    row_one : (l : List ℕ) (o c d x : ℕ) → Placed o l → In c l → In d l → Within x c → Within x d → c ≡ d
    row_one [] o c d x r i j u v = absurd i
    row_one (k ∷ ks) o c d x r (inl e) (inl f) u v = sym e ∙ f
    row_one (k ∷ ks) o c d x r (inl e) (inr j) u v =
        let h = row_low ks (o + Z k) d r.1 j in
        let y = subst (λ m. x < at m + Z m) (sym e) u.1 in
        absurd (omega (arith, r.0))
    row_one (k ∷ ks) o c d x r (inr i) (inl f) u v =
        let h = row_low ks (o + Z k) c r.1 i in
        let y = subst (λ m. x < at m + Z m) (sym f) v.1 in
        absurd (omega (arith, r.0))
    row_one (k ∷ ks) o c d x r (inr i) (inr j) u v = row_one ks (o + Z k) c d x r.1 i j u v

    pub part_in : (p c : ℕ) → b ≤ p → p < count ns → Part ns p c → (at p + own_width ns b p ≤ at c) × (at c + Z c ≤ at p + Z p)
    part_in p c h l w =
        let r = row_low (order ns p) (at p + own_width ns b p) c (placed p h l) (in_order ns p c w) in
        (r.0, omega (arith, r.1, width_is_lem ns b p l))

    -- a is c, or above it by parts.
    data Above (a : ℕ) : ℕ → Type 0 where
      self : Above a a
      down : (p c : ℕ) → b ≤ p → p < count ns → Part ns p c → Above a p → Above a c

    above_le : (a c : ℕ) → Above a c → a ≤ c
    above_le a c self = omega arith
    above_le a c (down p c' h l w u) = let q = above_le a p u in omega (arith, w.behind)

    above_in : (a c x : ℕ) → Above a c → Within x c → Within x a
    above_in a c x self v = v
    above_in a c x (down p c' h l w u) v = let q = part_in p c h l w in above_in a p x u (omega arith, omega arith)

    -- Where a is above c and isn't c, some part of a is.
    record Through (a c : ℕ) : Type 0 where
      child : ℕ
      is_part : Part ns a child
      rest : Above child c
      from : b ≤ a
      low : a < count ns

    through : (a c : ℕ) → Above a c → (a ≡ c) ⊎ Through a c
    through a c self = inl refl
    through a c (down p c' h l w u) = go (through a p u)
      where
        go : (a ≡ p) ⊎ Through a p → (a ≡ c) ⊎ Through a c
        go (inl e) = inr (record { child = c; is_part = subst (λ k. Part ns k c) (sym e) w; rest = self; from = subst (λ k. b ≤ k) (sym e) h; low = subst (λ k. k < count ns) (sym e) l })
        go (inr t) = inr (record { child = t.child; is_part = t.is_part; rest = down p c h l w t.rest; from = t.from; low = t.low })

    -- Of two nodes that have a place in common below them, the one with the lower number is above the other.
    nest_up : (j k x : ℕ) → j < k → Above b j → Above b k → Within x j → Within x k → ((p : ℕ) → p < k → Above b p → Within x p → Above j p ⊎ Above p j) → Above j k
    nest_up j k x l u self p q ih = absurd (omega (arith, above_le b j u))
    nest_up j k x l u (down a k' h c w v) p q ih = go (ih a w.behind v (omega (arith, i.0, q.0), omega (arith, i.1, q.1)))
      where
        i : (at a + own_width ns b a ≤ at k) × (at k + Z k ≤ at a + Z a)
        i = part_in a k h c w

        by : (a ≡ j) ⊎ Through a j → Above j k
        by (inl e) = down a k h c w (subst (Above j) (sym e) self)
        by (inr t) =
            let same = row_one (order ns a) (at a + own_width ns b a) t.child k x (placed a h c) (in_order ns a t.child t.is_part) (in_order ns a k w) (above_in t.child j x t.rest p) q in
            let y = above_le t.child j t.rest in
            absurd (omega arith)

        go : Above j a ⊎ Above a j → Above j k
        go (inl v') = down a k h c w v'
        go (inr v') = by (through a j v')

    swap : {X Y : Type 0} → X ⊎ Y → Y ⊎ X
    swap (inl x) = inr x
    swap (inr y) = inl y

    nest_by : (n j k x : ℕ) → j + k < n → Above b j → Above b k → Within x j → Within x k → Above j k ⊎ Above k j
    nest_by zero j k x f u v p q = absurd (omega arith)
    nest_by (suc n) j k x f u v p q = go (dec_lt j k) (dec_lt k j) (λ a l. nest_by n j a x (omega arith) u) (λ a l. nest_by n a k x (omega arith))
      where
        go : Dec (j < k) → Dec (k < j) → ((a : ℕ) → a < k → Above b a → Within x j → Within x a → Above j a ⊎ Above a j)
            → ((a : ℕ) → a < j → Above b a → Above b k → Within x a → Within x k → Above a k ⊎ Above k a) → Above j k ⊎ Above k j
        go (yes l) r s t = inl (nest_up j k x l u v p q (λ a m v' q'. s a m v' p q'))
        go (no l) (yes r) s t = inr (nest_up k j x r v u q p (λ a m u' p'. swap (t a m u' v p' q)))
        go (no l) (no r) s t = inl (subst (Above j) (let e : j ≡ k = omega arith in e) self)

    above_by : (n j : ℕ) → j < n → j < count ns → in_unit ns b j ≡ true → Above b j
    above_by zero j f hc e = absurd (omega arith)
    above_by (suc n) j f hc e = go (eq-or-lt_of_le (in_from j e)) (λ p l q v. above_by n p l q v)
      where
        go : (b ≡ j) ⊎ (b < j) → ((p : ℕ) → p < n → p < count ns → in_unit ns b p ≡ true → Above b p) → Above b j
        go (inl q) ih = subst (Above b) q self
        go (inr h) ih =
            let w = in_part ns b g.falls j h hc e in
            let u = in_above ns b g.falls j h hc e in
            let l = w.behind in
            down (up_of ns j) j (in_from (up_of ns j) u) (omega arith) w (ih (up_of ns j) (omega arith) (omega arith) u)

    own_part : (j k x : ℕ) → Above j k → x < at j + own_width ns b j → Within x k → j ≡ k
    own_part j k x u h q = go (through j k u)
      where
        go : (j ≡ k) ⊎ Through j k → j ≡ k
        go (inl e) = e
        go (inr t) =
            let y = above_in t.child k x t.rest q in
            let z = part_in j t.child t.from t.low t.is_part in
            absurd (omega arith)

    -- THE LAW: a place that two nodes own_width is one node's.
    pub apart : (j k x : ℕ) → j < count ns → k < count ns → in_unit ns b j ≡ true → in_unit ns b k ≡ true → at j ≤ x → x < at j + own_width ns b j → at k ≤ x → x < at k + own_width ns b k → j ≡ k
    apart j k x hj hk ej ek lj uj lk uk =
        let sj = width_is_lem ns b j hj in
        let sk = width_is_lem ns b k hk in
        go sj sk (nest_by (suc (j + k)) j k x (omega arith) (above_by (suc j) j (omega arith) hj ej) (above_by (suc k) k (omega arith) hk ek) (lj, omega arith) (lk, omega arith))
      where
        go : Z j ≡ own_width ns b j + sum Z (order ns j) → Z k ≡ own_width ns b k + sum Z (order ns k) → Above j k ⊎ Above k j → j ≡ k
        go sj sk (inl u) = own_part j k x u uj (lk, omega arith)
        go sj sk (inr u) = sym (own_part k j x u uk (lj, omega arith))
