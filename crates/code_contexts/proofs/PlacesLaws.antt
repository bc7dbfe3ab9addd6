-- One law for each turn of the loop.
use Rattle.std.specs.Prelude.{ℕ, zero, suc, ◌+◌, ◌≤◌, ◌<◌, ◌≡◌, refl, ◌⊎◌, List, [], ◌∷◌, Bool, true, false, not, ◌&&◌, eqb, get_or, length, set}
use Rattle.std.proofs.Common.{ap, ◌∙◌, subst, inl, inr, get_or-set_same, get_or-set_other, eq-or-lt_of_le, arith, le-leb}
use Rattle.std.proofs.Math.Path.{sym}
use Rattle.std.proofs.Math.Bool.{cond}
use Rattle.std.proofs.lemmas.Bool.{lt-leb}
use Rattle.base_common.proofs.Bools.{never}
use Rattle.table_records.specs.Table.{role_of, count}
use Rattle.table_records.specs.Roles as role
use Rattle.table_children.specs.Children.{first_child}
use Rattle.route_completion.specs.Sem.{normal}
use Rattle.code_flat.specs.Code.{at}
use Rattle.code_tree.specs.Parts.{up_of, shape_at, parts, order}
use Rattle.code_tree.proofs.PartsLaws.{All, order_all_lem}
use Rattle.code_tree.specs.Parts.{Part}
use Rattle.code_tree.specs.declared.Shape.{Shape}
use Rattle.code_tree.specs.declared.Shape.TheVariants.{Leaf, Class, If, With, Block, Label, Loop, Switch, Case, Try, Catch}
use Rattle.code_layout.specs.Widths.{sum, has_role, is_try, in_unit, own_width, width_at}
use Rattle.code_layout.specs.Context.{behind, offset_at}
use Rattle.code_layout.specs.Shaped.{Two, Three}
use Rattle.code_layout.proofs.Sums.{In, in_order}
use Rattle.code_layout.proofs.LayoutLaws.{in_root, in_part, in_above, in_down}
use Rattle.code_layout.proofs.Stands.{in_from, placed}
use Rattle.code_layout.proofs.Made.{offset_root}
use Rattle.code_targets.specs.Targets.{some, goes_on_by, next_by, depth_at}
use Rattle.code_targets.proofs.TargetsLaws.{target_root, depth_root, depth_up, next_self, next_up}
use Rattle.code_widths.specs.Widths.{Units, counted}
use Rattle.code_contexts.specs.Contexts.{Ready, goes_by, next_of, Follow, Places}
use Rattle.code_contexts.proofs.EndLaws.{end_part, behind_some, part_child, try_places}
use Rattle.std.specs.Option.{is_some}

goes_is : (s : Shape) (m r : ℕ) → goes_on_by s m r ≡ goes_by s (some m) r
goes_is Leaf m r = refl
goes_is Class m r = refl
goes_is If m r = refl
goes_is With m r = refl
goes_is Block m r = refl
goes_is Label m r = refl
goes_is Loop m r = refl
goes_is Switch m r = refl
goes_is Case m r = refl
goes_is Try m r = refl
goes_is Catch m r = refl

pub try_is : (s : Shape) → is_try s ≡ true → s ≡ Try
try_is Leaf e = never (sym e)
try_is Class e = never (sym e)
try_is If e = never (sym e)
try_is With e = never (sym e)
try_is Block e = never (sym e)
try_is Label e = never (sym e)
try_is Loop e = never (sym e)
try_is Switch e = never (sym e)
try_is Case e = never (sym e)
try_is Try e = refl
try_is Catch e = never (sym e)

module _ (ns names : List ℕ) (b : ℕ) (r : Ready ns names b) where
  -- The depth is no more than the node's number.
  depth_by : (n j : ℕ) → j < n → j < count ns → in_unit ns b j ≡ true → depth_at ns names b j ≤ j
  depth_by zero j f hc e = absurd (omega arith)
  depth_by (suc n) j f hc e = go (eq-or-lt_of_le (in_from ns names b r.held.good j e)) (λ p l q v. depth_by n p l q v)
    where
      step : (x : Bool) (d : ℕ) → cond x (suc d) d ≤ suc d
      step true d = omega arith
      step false d = omega arith

      go : (b ≡ j) ⊎ (b < j) → ((p : ℕ) → p < n → p < count ns → in_unit ns b p ≡ true → depth_at ns names b p ≤ p) → depth_at ns names b j ≤ j
      go (inl q) ih = subst (λ k. depth_at ns names b k ≤ k) q (let d = depth_root ns names b in omega arith)
      go (inr hb) ih =
          let w = in_part ns b r.held.good.falls j hb hc e in
          let u = in_above ns b r.held.good.falls j hb hc e in
          let l = w.behind in
          let i = ih (up_of ns j) (omega arith) (omega arith) u in
          let d = depth_up ns names b r.held.good.falls j hb hc in
          let s = step (is_try (shape_at ns (up_of ns j)) && has_role ns role.Finally (order ns (up_of ns j))) (depth_at ns names b (up_of ns j)) in
          omega (arith, d, s, i, l)

  pub depth_small : (j : ℕ) → j < count ns → in_unit ns b j ≡ true → depth_at ns names b j ≤ j
  depth_small j hc e = depth_by (suc j) j (omega arith) hc e

  pub follow_root : Follow ns names b b b
  unfolding next_of
  follow_root =
      record { low = omega arith; inside = r.held.root; member = in_root ns b; goes = target_root ns names b normal ∙ sym (ap (λ x. cond x (at (width_at ns b b) 0) (next_by (shape_at ns (up_of ns b)) (offset_at ns names b (up_of ns b)) (depth_at ns names b (up_of ns b)) (depth_at ns names b b) (offset_at ns names b b + width_at ns b b))) (le-leb b b (omega arith))) }

  module _ (i : ℕ) (hb : b < i) (hc : i < count ns) (e : in_unit ns b i ≡ true) where
    pub part : Part ns (up_of ns i) i
    part = in_part ns b r.held.good.falls i hb hc e

    pub above_in_lem : in_unit ns b (up_of ns i) ≡ true
    above_in_lem = in_above ns b r.held.good.falls i hb hc e

    pub above_low : b ≤ up_of ns i
    above_low = in_from ns names b r.held.good (up_of ns i) above_in_lem

    pub above_lt : up_of ns i < i
    above_lt = part.behind

    -- Falling through.
    pub follow_self : goes_on_by (shape_at ns (up_of ns i)) (behind (order ns (up_of ns i)) i) (role_of ns i) ≡ true → Follow ns names b i i
    unfolding next_of
    follow_self g =
        record {
          low = omega arith;
          inside = hc;
          member = e;
          goes = next_self ns names b r.held.good.falls i hb hc g ∙ sym (ap (λ x. cond x (at (width_at ns b b) 0) (next_by (shape_at ns (up_of ns i)) (offset_at ns names b (up_of ns i)) (depth_at ns names b (up_of ns i)) (depth_at ns names b i) (offset_at ns names b i + width_at ns b i))) (lt-leb i b hb));
        }

    pub follow_up : goes_on_by (shape_at ns (up_of ns i)) (behind (order ns (up_of ns i)) i) (role_of ns i) ≡ false → (f : ℕ) → Follow ns names b (up_of ns i) f → Follow ns names b i f
    follow_up g f w = record { low = w.low; inside = w.inside; member = w.member; goes = next_up ns names b r.held.good.falls i hb hc g ∙ w.goes }

    -- Whether a part goes on by itself, by the words behind it.
    pub goes_is_lem : goes_on_by (shape_at ns (up_of ns i)) (behind (order ns (up_of ns i)) i) (role_of ns i) ≡ goes_by (shape_at ns (up_of ns i)) (not (eqb (sum (counted ns b) (parts ns (up_of ns i) (i + 1))) 0)) (role_of ns i)
    goes_is_lem = goes_is (shape_at ns (up_of ns i)) (behind (order ns (up_of ns i)) i) (role_of ns i) ∙ go (is_try (shape_at ns (up_of ns i))) refl
      where
        go : (x : Bool) → is_try (shape_at ns (up_of ns i)) ≡ x
            → goes_by (shape_at ns (up_of ns i)) (some (behind (order ns (up_of ns i)) i)) (role_of ns i) ≡ goes_by (shape_at ns (up_of ns i)) (not (eqb (sum (counted ns b) (parts ns (up_of ns i) (i + 1))) 0)) (role_of ns i)
        go true q =
            let s = try_is (shape_at ns (up_of ns i)) q in
            ap (λ t. goes_by t (some (behind (order ns (up_of ns i)) i)) (role_of ns i)) s ∙ sym (ap (λ t. goes_by t (not (eqb (sum (counted ns b) (parts ns (up_of ns i) (i + 1))) 0)) (role_of ns i)) s)
        go false q = ap (λ x. goes_by (shape_at ns (up_of ns i)) x (role_of ns i)) (behind_some ns names b r.held.good (up_of ns i) above_low (omega (arith, above_lt)) q i part)

    -- The offset, in anything but a Try ..
    pub offset_plain : is_try (shape_at ns (up_of ns i)) ≡ false
        → offset_at ns names b i + width_at ns b i + sum (counted ns b) (parts ns (up_of ns i) (i + 1)) ≡ offset_at ns names b (up_of ns i) + width_at ns b (up_of ns i)
    offset_plain q = end_part ns names b r.held.good (up_of ns i) above_low (omega (arith, above_lt)) q i part

    -- .. and in a Try, by role.
    module _ (q : shape_at ns (up_of ns i) ≡ Try) where
      pub try_low : b < up_of ns i
      try_low = go (eq-or-lt_of_le above_low)
        where
          differ : Try ≡ Block → ⊥
          differ z = never (ap is_try z)

          go : (b ≡ up_of ns i) ⊎ (b < up_of ns i) → b < up_of ns i
          go (inl z) = absurd (differ (sym q ∙ ap (shape_at ns) (sym z) ∙ r.held.block))
          go (inr z) = z

      pub offset_try : ((role_of ns i ≡ 3) × (offset_at ns names b i ≡ offset_at ns names b (up_of ns i) + own_width ns b (up_of ns i)))
          ⊎ (((role_of ns i ≡ 4) × ((c : ℕ) → In c (order ns (up_of ns i)) → role_of ns c ≡ 3 → offset_at ns names b i ≡ offset_at ns names b (up_of ns i) + own_width ns b (up_of ns i) + width_at ns b c))
          ⊎ ((role_of ns i ≡ 5) × (offset_at ns names b i + width_at ns b i ≡ offset_at ns names b (up_of ns i) + width_at ns b (up_of ns i))))
      offset_try =
          try_places ns names b r (up_of ns i) (omega (arith, above_lt)) q try_low (placed ns names b r.held.good (up_of ns i) above_low (omega (arith, above_lt))) i (in_order ns (up_of ns i) i part)

      pub offset_block : role_of ns i ≡ 3 → offset_at ns names b i ≡ offset_at ns names b (up_of ns i) + own_width ns b (up_of ns i)
      offset_block h = go offset_try
        where
          go : ((role_of ns i ≡ 3) × (offset_at ns names b i ≡ offset_at ns names b (up_of ns i) + own_width ns b (up_of ns i)))
              ⊎ (((role_of ns i ≡ 4) × ((c : ℕ) → In c (order ns (up_of ns i)) → role_of ns c ≡ 3 → offset_at ns names b i ≡ offset_at ns names b (up_of ns i) + own_width ns b (up_of ns i) + width_at ns b c))
              ⊎ ((role_of ns i ≡ 5) × (offset_at ns names b i + width_at ns b i ≡ offset_at ns names b (up_of ns i) + width_at ns b (up_of ns i))))
              → offset_at ns names b i ≡ offset_at ns names b (up_of ns i) + own_width ns b (up_of ns i)
          go (inl z) = z.1
          go (inr (inl z)) = absurd (omega (arith, z.0, h))
          go (inr (inr z)) = absurd (omega (arith, z.0, h))

      pub offset_finally : role_of ns i ≡ 5 → offset_at ns names b i + width_at ns b i ≡ offset_at ns names b (up_of ns i) + width_at ns b (up_of ns i)
      offset_finally h = go offset_try
        where
          go : ((role_of ns i ≡ 3) × (offset_at ns names b i ≡ offset_at ns names b (up_of ns i) + own_width ns b (up_of ns i)))
              ⊎ (((role_of ns i ≡ 4) × ((c : ℕ) → In c (order ns (up_of ns i)) → role_of ns c ≡ 3 → offset_at ns names b i ≡ offset_at ns names b (up_of ns i) + own_width ns b (up_of ns i) + width_at ns b c))
              ⊎ ((role_of ns i ≡ 5) × (offset_at ns names b i + width_at ns b i ≡ offset_at ns names b (up_of ns i) + width_at ns b (up_of ns i))))
              → offset_at ns names b i + width_at ns b i ≡ offset_at ns names b (up_of ns i) + width_at ns b (up_of ns i)
          go (inl z) = absurd (omega (arith, z.0, h))
          go (inr (inl z)) = absurd (omega (arith, z.0, h))
          go (inr (inr z)) = z.1

      -- c is the Block that was found.
      pub offset_catch : (role_of ns i ≡ 3 → ⊥) → (role_of ns i ≡ 5 → ⊥) → (c : ℕ) → Part ns (up_of ns i) c → role_of ns c ≡ 3
          → offset_at ns names b i ≡ offset_at ns names b (up_of ns i) + own_width ns b (up_of ns i) + width_at ns b c
      offset_catch n m c w ro = go offset_try
        where
          go : ((role_of ns i ≡ 3) × (offset_at ns names b i ≡ offset_at ns names b (up_of ns i) + own_width ns b (up_of ns i)))
              ⊎ (((role_of ns i ≡ 4) × ((c : ℕ) → In c (order ns (up_of ns i)) → role_of ns c ≡ 3 → offset_at ns names b i ≡ offset_at ns names b (up_of ns i) + own_width ns b (up_of ns i) + width_at ns b c))
              ⊎ ((role_of ns i ≡ 5) × (offset_at ns names b i + width_at ns b i ≡ offset_at ns names b (up_of ns i) + width_at ns b (up_of ns i))))
              → offset_at ns names b i ≡ offset_at ns names b (up_of ns i) + own_width ns b (up_of ns i) + width_at ns b c
          go (inl z) = absurd (n z.0)
          go (inr (inl z)) = z.1 c (in_order ns (up_of ns i) c w) ro
          go (inr (inr z)) = absurd (m z.0)

      pub block_found : is_some (first_child ns (up_of ns i) 5 5 3 3) ≡ true
      block_found = go (r.held.good.shaped.tries (up_of ns i) (omega (arith, above_lt)) q)
        where
          first : (c : ℕ) (cs : List ℕ) → order ns (up_of ns i) ≡ c ∷ cs → role_of ns c ≡ 3 → is_some (first_child ns (up_of ns i) 5 5 3 3) ≡ true
          first c cs z x = part_child ns names b r (up_of ns i) (omega (arith, above_lt)) q 3 c (inl refl) (subst (All (Part ns (up_of ns i))) z (order_all_lem ns (up_of ns i))).0 x

          go : Two ns (up_of ns i) 3 4 ⊎ (Two ns (up_of ns i) 3 5 ⊎ Three ns (up_of ns i)) → is_some (first_child ns (up_of ns i) 5 5 3 3) ≡ true
          go (inl v) = let (c, d, z, x, y) = v in first c (d ∷ []) z x
          go (inr (inl v)) = let (c, d, z, x, y) = v in first c (d ∷ []) z x
          go (inr (inr v)) = let (c, d, f, z, x, y, w) = v in first c (d ∷ f ∷ []) z x

      pub block_in : (c : ℕ) → Part ns (up_of ns i) c → in_unit ns b c ≡ true
      block_in c w = in_down ns b r.held.good.falls (up_of ns i) c above_low above_in_lem w

  -- The level of a part, from that of its holder p.
  pub level_is_lem : (i : ℕ) → b < i → i < count ns → (l m p : ℕ) → p ≡ up_of ns i → m ≡ suc (depth_at ns names b (up_of ns i))
      → l ≡ cond (is_try (shape_at ns p) && has_role ns role.Finally (order ns p)) (suc m) m → l ≡ suc (depth_at ns names b i)
  level_is_lem i hb hc l m p ep em el =
      el ∙ (λ k. cond (is_try (shape_at ns (ep k)) && has_role ns role.Finally (order ns (ep k))) (suc (em k)) (em k))
      ∙ go (is_try (shape_at ns (up_of ns i)) && has_role ns role.Finally (order ns (up_of ns i))) (depth_at ns names b (up_of ns i)) ∙ ap suc (sym (depth_up ns names b r.held.good.falls i hb hc))
    where
      go : (x : Bool) (d : ℕ) → cond x (suc (suc d)) (suc d) ≡ suc (cond x (suc d) d)
      go true d = refl
      go false d = refl

  -- The turns.
  module _ (i : ℕ) (hb : b < i) (hc : i < count ns) (levels offsets follows : List ℕ) (c : Places ns names b i levels offsets follows) where
    pub places_skip : in_unit ns b i ≡ false → Places ns names b (i + 1) levels offsets follows
    places_skip e =
        record {
          level = λ j l m u. c.level j l (less j u m) u;
          offset = λ j l m u. c.offset j l (less j u m) u;
          follow = λ j l m u. c.follow j l (less j u m) u;
          unit = λ j l m. c.unit j (omega arith) m;
          after = λ j l m u. c.after j (omega arith) m u;
          other = c.other;
        }
      where
        less : (j : ℕ) → in_unit ns b j ≡ true → j < i + 1 → j < i
        less j u m = go (eq-or-lt_of_le {n = suc j} {m = i + 1} m)
          where
            go : (suc j ≡ i + 1) ⊎ (suc j < i + 1) → j < i
            go (inl q) = never (sym u ∙ ap (in_unit ns b) (let z : j ≡ i = omega arith in z) ∙ e)
            go (inr q) = omega arith

    pub places_turn : in_unit ns b i ≡ true → (l o f : ℕ) → i < length levels → i < length offsets → i < length follows → l ≡ suc (depth_at ns names b i) → o ≡ offset_at ns names b i → Follow ns names b i f
        → Places ns names b (i + 1) (set levels i l) (set offsets i o) (set follows i f)
    places_turn e l o f hl ho hf el eo ef =
        record {
          level = λ j q m u. levels_is j q u (eq-or-lt_of_le {n = suc j} {m = i + 1} m);
          offset = λ j q m u. offsets_is j q u (eq-or-lt_of_le {n = suc j} {m = i + 1} m);
          follow = λ j q m u. follows_is j q u (eq-or-lt_of_le {n = suc j} {m = i + 1} m);
          unit = λ j q m. get_or-set_other levels i j l 0 (λ z. omega arith) ∙ c.unit j (omega arith) m;
          after = λ j q m u. get_or-set_other offsets i j o 0 (λ z. omega arith) ∙ c.after j (omega arith) m u;
          other = λ j m u. get_or-set_other levels i j l 0 (λ z. never (sym e ∙ ap (in_unit ns b) (sym z) ∙ u)) ∙ c.other j m u;
        }
      where
        levels_is : (j : ℕ) → b ≤ j → in_unit ns b j ≡ true → (suc j ≡ i + 1) ⊎ (suc j < i + 1) → get_or (set levels i l) j 0 ≡ suc (depth_at ns names b j)
        levels_is j q u (inl x) = subst (λ k. get_or (set levels i l) k 0 ≡ suc (depth_at ns names b k)) (let z : i ≡ j = omega arith in z) (get_or-set_same levels i l 0 hl ∙ el)
        levels_is j q u (inr x) = get_or-set_other levels i j l 0 (λ z. omega arith) ∙ c.level j q (omega arith) u

        offsets_is : (j : ℕ) → b ≤ j → in_unit ns b j ≡ true → (suc j ≡ i + 1) ⊎ (suc j < i + 1) → get_or (set offsets i o) j 0 ≡ offset_at ns names b j
        offsets_is j q u (inl x) = subst (λ k. get_or (set offsets i o) k 0 ≡ offset_at ns names b k) (let z : i ≡ j = omega arith in z) (get_or-set_same offsets i o 0 ho ∙ eo)
        offsets_is j q u (inr x) = get_or-set_other offsets i j o 0 (λ z. omega arith) ∙ c.offset j q (omega arith) u

        follows_is : (j : ℕ) → b ≤ j → in_unit ns b j ≡ true → (suc j ≡ i + 1) ⊎ (suc j < i + 1) → Follow ns names b j (get_or (set follows i f) j 0)
        follows_is j q u (inl x) = subst (λ k. Follow ns names b k (get_or (set follows i f) k 0)) (let z : i ≡ j = omega arith in z) (subst (Follow ns names b i) (sym (get_or-set_same follows i f 0 hf)) ef)
        follows_is j q u (inr x) = subst (Follow ns names b j) (sym (get_or-set_other follows i j f 0 (λ z. omega arith))) (c.follow j q (omega arith) u)

  pub places_start : (units behinds follows : List ℕ) → b < length behinds → b < length follows → Units ns b (count ns) units
      → ((j : ℕ) → b < j → j < count ns → in_unit ns b j ≡ true → get_or behinds j 0 ≡ sum (counted ns b) (parts ns (up_of ns j) (j + 1)))
      → Places ns names b (b + 1) units (set behinds b 0) (set follows b b)
  places_start units behinds follows lb lf us af =
      record {
        level = λ j l m u. subst (λ k. get_or units k 0 ≡ suc (depth_at ns names b k)) (root j l m) (us.is b r.held.root ∙ ap (λ x. cond x 1 0) (in_root ns b) ∙ sym (ap suc (depth_root ns names b)));
        offset = λ j l m u. subst (λ k. get_or (set behinds b 0) k 0 ≡ offset_at ns names b k) (root j l m) (get_or-set_same behinds b 0 0 lb ∙ sym (offset_root ns names b r.held));
        follow = λ j l m u. subst (λ k. Follow ns names b k (get_or (set follows b b) k 0)) (root j l m) (subst (Follow ns names b b) (sym (get_or-set_same follows b b 0 lf)) follow_root);
        unit = λ j l m. us.is j m;
        after = λ j l m u. get_or-set_other behinds b j 0 0 (λ z. omega arith) ∙ af j (omega arith) m u;
        other = λ j m u. us.is j m ∙ ap (λ x. cond x 1 0) u;
      }
    where
      root : (j : ℕ) → b ≤ j → j < b + 1 → b ≡ j
      root j l m = omega arith
