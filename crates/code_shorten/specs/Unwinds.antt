-- The pending ends of two codes C and D, where D's instruction at φ o does what C's does at o, for the places o of P, except that D's jumps may be
-- ahead: a jump of D goes where C comes to by some more jumps. And how both leave what is pending.
use Rattle.std.specs.Prelude.{ℕ, zero, suc, ◌≤◌, ◌<◌, min, ◌≡◌, refl, Bool, true, false, List, [], ◌∷◌, ◌⊎◌, length, ltb}
use Rattle.std.proofs.Common.{sym, ◌∙◌, ap, subst, true≢false, inl, inr, ltb-true, ltb-false, lt-ltb, le-ltb, arith}
use Rattle.std.proofs.Math.Decide.{dec_le}
use Rattle.route_completion.specs.Sem.{pick}
use Rattle.code_flat.specs.Machine.{fetch, Frame, open', pend, Pos, pos, is_zero, unwind}
use Rattle.code_shorten.specs.Short.{to, aim_of}

-- From t at the depth d, n jumps lead to u, with the depth e as the least.
abbrev pub Way : List ℕ → ℕ → ℕ → ℕ → ℕ → ℕ → Type 0
Way C zero t d u e = (t ≡ u) × (d ≡ e)
Way C (suc n) t d u e = (v : ℕ) × (w : ℕ) × (is_zero t ≡ false) × (aim_of (fetch C t) ≡ to v w) × Way C n v (min d w) u e

way_less : (C : List ℕ) (n t d u e : ℕ) → Way C n t d u e → e ≤ d
way_less C zero t d u e h = omega (arith, h.1)
way_less C (suc n) t d u e h = omega (arith, way_less C n h.0 (min d h.1) u e h.4)

-- The same way from a greater depth x.
way_lift : (C : List ℕ) (n t d x y u e : ℕ) → y ≡ min d x → Way C n t y u e → (w : ℕ) × Way C n t x u w × (e ≡ min d w)
way_lift C zero t d x y u e q h = (x, (h.0, refl), omega (arith, h.1))
way_lift C (suc n) t d x y u e q h =
    let r : (w : ℕ) × Way C n h.0 (min x h.1) u w × (e ≡ min d w) = way_lift C n h.0 d (min x h.1) (min y h.1) u e (omega arith) h.4 in
    (r.0, (h.0, h.1, h.2, h.3, r.1), r.2)

unwind_nil : (t d : ℕ) → unwind [] t d ≡ pos t []
unfolding unwind
unwind_nil t d = refl

open_in : (K : List Frame) (f t d : ℕ) → length K < d → unwind (open' f ∷ K) t d ≡ pos t (open' f ∷ K)
unfolding unwind
open_in K f t d h = ap (λ b. pick b (pos t (open' f ∷ K)) (pos f (pend t d ∷ K))) (lt-ltb (length K) d h)

open_out : (K : List Frame) (f t d : ℕ) → d ≤ length K → unwind (open' f ∷ K) t d ≡ pos f (pend t d ∷ K)
unfolding unwind
open_out K f t d h = ap (λ b. pick b (pos t (open' f ∷ K)) (pos f (pend t d ∷ K))) (le-ltb (length K) d h)

pend_in : (K : List Frame) (u v t d : ℕ) → length K < d → is_zero t ≡ false → unwind (pend u v ∷ K) t d ≡ pos t (pend u v ∷ K)
unfolding unwind
pend_in K u v t d h z =
    ap (λ b. pick b (pick (is_zero t) (unwind K u v) (pos t (pend u v ∷ K))) (unwind K t d)) (lt-ltb (length K) d h)
    ∙ ap (λ b. pick b (unwind K u v) (pos t (pend u v ∷ K))) z

pend_at : (K : List Frame) (u v t d : ℕ) → length K < d → is_zero t ≡ true → unwind (pend u v ∷ K) t d ≡ unwind K u v
unfolding unwind
pend_at K u v t d h z =
    ap (λ b. pick b (pick (is_zero t) (unwind K u v) (pos t (pend u v ∷ K))) (unwind K t d)) (lt-ltb (length K) d h)
    ∙ ap (λ b. pick b (unwind K u v) (pos t (pend u v ∷ K))) z

pend_out : (K : List Frame) (u v t d : ℕ) → d ≤ length K → unwind (pend u v ∷ K) t d ≡ unwind K t d
unfolding unwind
pend_out K u v t d h = ap (λ b. pick b (pick (is_zero t) (unwind K u v) (pos t (pend u v ∷ K))) (unwind K t d)) (le-ltb (length K) d h)

-- Behind what is left at the depth d, a greater depth says nothing.
deeper : (k : Frame) (L : List Frame) (u e w d : ℕ) → e ≡ min d w → length L < d → unwind (k ∷ L) u e ≡ unwind (k ∷ L) u w
deeper k L u e w d q h = go (dec_le w d)
  where
    both : (f : Frame) → d < w → unwind (f ∷ L) u e ≡ unwind (f ∷ L) u w
    both (open' f) l = open_in L f u e (omega arith) ∙ sym (open_in L f u w (omega arith))
    both (pend a b) l = at (is_zero u) refl
      where
        at : (z : Bool) → is_zero u ≡ z → unwind (pend a b ∷ L) u e ≡ unwind (pend a b ∷ L) u w
        at true z = pend_at L a b u e (omega arith) z ∙ sym (pend_at L a b u w (omega arith) z)
        at false z = pend_in L a b u e (omega arith) z ∙ sym (pend_in L a b u w (omega arith) z)

    go : Dec (w ≤ d) → unwind (k ∷ L) u e ≡ unwind (k ∷ L) u w
    go (yes l) = ap (unwind (k ∷ L) u) (omega arith)
    go (no l) = both k (omega arith)

-- The way (u, e) of D is where C's way (t, d) leads.
pub record Ahead (C : List ℕ) (P : ℕ → Type 0) (φ : ℕ → ℕ) (t d u e : ℕ) : Type 0 where
  pub holds : P t
  pub hops : ℕ
  pub last : ℕ
  pub way : Way C hops t d last e
  pub moved : u ≡ φ last

abbrev pub Like : List ℕ → (ℕ → Type 0) → (ℕ → ℕ) → List Frame → List Frame → Type 0
Like C P φ [] [] = Unit {0}
Like C P φ [] (k ∷ L) = ⊥
Like C P φ (open' f ∷ K) [] = ⊥
Like C P φ (open' f ∷ K) (open' g ∷ L) = P f × (g ≡ φ f) × Like C P φ K L
Like C P φ (open' f ∷ K) (pend u e ∷ L) = ⊥
Like C P φ (pend t d ∷ K) [] = ⊥
Like C P φ (pend t d ∷ K) (open' g ∷ L) = ⊥
Like C P φ (pend t d ∷ K) (pend u e ∷ L) = Ahead C P φ t d u e × Like C P φ K L

pub like_length : (C : List ℕ) (P : ℕ → Type 0) (φ : ℕ → ℕ) (K L : List Frame) → Like C P φ K L → length K ≡ length L
like_length C P φ [] [] h = refl
like_length C P φ [] (k ∷ L) h = absurd h
like_length C P φ (open' f ∷ K) [] h = absurd h
like_length C P φ (open' f ∷ K) (open' g ∷ L) h = ap suc (like_length C P φ K L h.2)
like_length C P φ (open' f ∷ K) (pend u e ∷ L) h = absurd h
like_length C P φ (pend t d ∷ K) [] h = absurd h
like_length C P φ (pend t d ∷ K) (open' g ∷ L) h = absurd h
like_length C P φ (pend t d ∷ K) (pend u e ∷ L) h = ap suc (like_length C P φ K L h.1)

module _ (C : List ℕ) (P : ℕ → Type 0) (φ : ℕ → ℕ) (zeros : (o : ℕ) → P o → is_zero (φ o) ≡ is_zero o)
    (onward : (o t d : ℕ) → P o → aim_of (fetch C o) ≡ to t d → P t) where
  -- C and D come to the same place; or C comes to a jump that D is ahead of.
  pub record Same (p q : Pos) : Type 0 where
    pub holds : P p.pc
    pub place : q.pc ≡ φ p.pc
    pub like : Like C P φ p.stack q.stack

  pub record Mid (p q : Pos) : Type 0 where
    pub holds : P p.pc
    pub some : is_zero p.pc ≡ false
    pub t : ℕ
    pub d : ℕ
    pub u : ℕ
    pub e : ℕ
    pub left : List Frame
    pub jump : aim_of (fetch C p.pc) ≡ to t d
    pub like : Like C P φ p.stack left
    pub ahead : Ahead C P φ t d u e
    pub rest : q ≡ unwind left u e

  abbrev pub Both : Pos → Pos → Type 0
  Both p q = Same p q ⊎ Mid p q

  carry : (p p' q q' : Pos) → p ≡ p' → q ≡ q' → Both p' q' → Both p q
  carry p p' q q' a b h = subst (λ x. Both x q) (sym a) (subst (λ y. Both p' y) (sym b) h)

  -- C has come to t, the first of its ways, over K; D goes on over L, where a greater depth says nothing.
  landed : (K L : List Frame) → Like C P φ K L → (t d u e : ℕ) → Ahead C P φ t d u e
      → ((w : ℕ) → e ≡ min d w → unwind L u e ≡ unwind L u w) → (d ≡ e → is_zero u ≡ is_zero t → unwind L u e ≡ pos u L) → Both (pos t K) (unwind L u e)
  landed K L l t d u e a f g = go a.hops a.way
    where
      go : (n : ℕ) → Way C n t d a.last e → Both (pos t K) (unwind L u e)
      go zero h =
          let m : u ≡ φ t = a.moved ∙ ap φ (sym h.0) in
          carry (pos t K) (pos t K) (unwind L u e) (pos u L) refl (g h.1 (ap is_zero m ∙ zeros t a.holds)) (inl (record { holds = a.holds; place = m; like = l }))
      go (suc n) h =
          let r : (w : ℕ) × Way C n h.0 h.1 a.last w × (e ≡ min d w) = way_lift C n h.0 d h.1 (min d h.1) a.last e refl h.4 in
          inr (record {
            holds = a.holds;
            some = h.2;
            t = h.0;
            d = h.1;
            u = u;
            e = r.0;
            left = L;
            jump = h.3;
            like = l;
            ahead = record { holds = onward t h.0 h.1 a.holds h.3; hops = n; last = a.last; way = r.1; moved = a.moved };
            rest = f r.0 r.2;
          })

  pub unwinds : (K L : List Frame) → Like C P φ K L → (t d u e : ℕ) → Ahead C P φ t d u e → Both (unwind K t d) (unwind L u e)
  unwinds [] [] l t d u e a =
      carry (unwind [] t d) (pos t []) (unwind [] u e) (unwind [] u e) (unwind_nil t d) refl
      (landed [] [] l t d u e a (λ w q. unwind_nil u e ∙ sym (unwind_nil u w)) (λ q z. unwind_nil u e))
  unwinds [] (k ∷ L) l t d u e a = absurd l
  unwinds (open' f ∷ K) [] l t d u e a = absurd l
  unwinds (open' f ∷ K) (open' g ∷ L) l t d u e a = go (ltb (length K) d) refl
    where
      same : length K ≡ length L
      same = like_length C P φ K L l.2

      go : (b : Bool) → ltb (length K) d ≡ b → Both (unwind (open' f ∷ K) t d) (unwind (open' g ∷ L) u e)
      go true b =
          let h : length K < d = ltb-true (length K) d b in
          carry (unwind (open' f ∷ K) t d) (pos t (open' f ∷ K)) (unwind (open' g ∷ L) u e) (unwind (open' g ∷ L) u e) (open_in K f t d h) refl
          (landed (open' f ∷ K) (open' g ∷ L) l t d u e a (λ w q. deeper (open' g) L u e w d q (omega (arith, same))) (λ q z. open_in L g u e (omega (arith, same))))
      go false b =
          let h : d ≤ length K = ltb-false (length K) d b in
          carry (unwind (open' f ∷ K) t d) (pos f (pend t d ∷ K)) (unwind (open' g ∷ L) u e) (pos g (pend u e ∷ L)) (open_out K f t d h)
          (open_out L g u e (omega (arith, same, way_less C a.hops t d a.last e a.way))) (inl (record { holds = l.0; place = l.1; like = (a, l.2) }))
  unwinds (open' f ∷ K) (pend x y ∷ L) l t d u e a = absurd l
  unwinds (pend v w ∷ K) [] l t d u e a = absurd l
  unwinds (pend v w ∷ K) (open' g ∷ L) l t d u e a = absurd l
  unwinds (pend v w ∷ K) (pend x y ∷ L) l t d u e a =
      go (ltb (length K) d) refl (unwinds K L l.1 v w x y l.0) (unwinds K L l.1 t d u e a)
    where
      same : length K ≡ length L
      same = like_length C P φ K L l.1

      go : (b : Bool) → ltb (length K) d ≡ b → Both (unwind K v w) (unwind L x y) → Both (unwind K t d) (unwind L u e)
          → Both (unwind (pend v w ∷ K) t d) (unwind (pend x y ∷ L) u e)
      go true b r s = at (is_zero t) refl
        where
          h : length K < d
          h = ltb-true (length K) d b

          -- The place 0 is the end of its way.
          stays : is_zero t ≡ true → (n : ℕ) → Way C n t d a.last e → (t ≡ a.last) × (d ≡ e)
          stays z zero m = m
          stays z (suc n) m = absurd (true≢false (sym z ∙ m.2))

          at : (z : Bool) → is_zero t ≡ z → Both (unwind (pend v w ∷ K) t d) (unwind (pend x y ∷ L) u e)
          at true z =
              let m : (t ≡ a.last) × (d ≡ e) = stays z a.hops a.way in
              carry (unwind (pend v w ∷ K) t d) (unwind K v w) (unwind (pend x y ∷ L) u e) (unwind L x y) (pend_at K v w t d h z)
              (pend_at L x y u e (omega (arith, same, h, m.1)) (ap is_zero (a.moved ∙ ap φ (sym m.0)) ∙ zeros t a.holds ∙ z)) r
          at false z =
              carry (unwind (pend v w ∷ K) t d) (pos t (pend v w ∷ K)) (unwind (pend x y ∷ L) u e) (unwind (pend x y ∷ L) u e) (pend_in K v w t d h z) refl
              (landed (pend v w ∷ K) (pend x y ∷ L) l t d u e a (λ c q. deeper (pend x y) L u e c d q (omega (arith, same, h)))
              (λ q k. pend_in L x y u e (omega (arith, same, h)) (k ∙ z)))
      go false b r s =
          let h : d ≤ length K = ltb-false (length K) d b in
          carry (unwind (pend v w ∷ K) t d) (unwind K t d) (unwind (pend x y ∷ L) u e) (unwind L u e) (pend_out K v w t d h)
          (pend_out L x y u e (omega (arith, same, way_less C a.hops t d a.last e a.way))) s
