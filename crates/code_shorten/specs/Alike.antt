-- If D's instructions do what C's do (Does), D runs as C does, wherever the forward machine runs C without giving up.
use Prim.Native.Nat.{ℕ, zero, suc, ◌+◌, ◌-◌, ◌<◌}
use Rattle.std.specs.Prelude.{◌≡◌, Bool, ◌&&◌, List, [], ◌∷◌, ◌≢◌, length, ltb, eqb}
use Rattle.std.proofs.Math.Path.{refl, ap}
use Rattle.std.proofs.Common.{sym, ◌∙◌, subst, true≢false, inl, inr, ltb-true, lt-ltb, ne_eqb, arith}
use Rattle.std.proofs.Math.Bool.{true, false}
use Rattle.std.proofs.Math.ListN.{get_or}
use Rattle.route_completion.specs.Sem.{plain, asked, pick, is_yes}
use Rattle.route_completion.specs.Ends as run_end
use Rattle.code_flat.specs.Machine.{Res, res, pre, Instr, NONE, LIST, LEAVE, ASK, SELECT, OPEN, END, CASE, decode, fetch, Frame, open', Pos, pos, is_zero, unwind, is_case, chase}
use Rattle.code_flat.proofs.Runs.{inside}
use Rattle.code_flat.specs.Machine.{is_none}
use Rattle.code_flat.specs.Forward.{gave_up, ask_now, behind, forward, measure, step, run}
use Rattle.code_flat.proofs.Steps.{run_step}
use Rattle.code_valid.proofs.ReadingLaws.{decode_none}
use Rattle.code_shorten.specs.Short.{to, place_in, depth_in, aim_of}
use Rattle.code_shorten.specs.Unwinds.{Ahead, Like, like_length, Same, Both, unwinds}

-- The forward machine has not given up.
abbrev pub Kept : Res → Type 0
Kept r = r.end ≢ gave_up

-- D's instruction j at φ o does what C's instruction i does at o, and C's leads to places of P.
abbrev pub Does : List ℕ → (ℕ → Type 0) → (ℕ → ℕ) → ℕ → Instr → Instr → Type 0
Does C P φ o NONE j = ⊥
Does C P φ o (LIST n) j = (j ≡ LIST n) × P (o + 2) × (φ (o + 2) ≡ φ o + 2)
Does C P φ o (LEAVE t d) j = (u : ℕ) × (e : ℕ) × (j ≡ LEAVE u e) × Ahead C P φ t d u e
Does C P φ o (ASK n y z) j = (j ≡ ASK n (φ y) (φ z)) × P y × P z
Does C P φ o (SELECT n c e) j = (j ≡ SELECT n (φ c) (φ e)) × P c × P e
Does C P φ o (OPEN f) j = (j ≡ OPEN (φ f)) × P f × P (o + 2) × (φ (o + 2) ≡ φ o + 2)
Does C P φ o (END e) j = j ≡ END e
Does C P φ o (CASE c t d) j = (u : ℕ) × (e : ℕ) × (j ≡ CASE (φ c) u e) × P c × Ahead C P φ t d u e

-- The opcode 7, and a case's link.
abbrev is_cASE : Instr → Bool
is_cASE NONE = false
is_cASE (LIST n) = false
is_cASE (LEAVE t d) = false
is_cASE (ASK n y z) = false
is_cASE (SELECT n c e) = false
is_cASE (OPEN f) = false
is_cASE (END e) = false
is_cASE (CASE c t d) = true

abbrev link_of : Instr → ℕ
link_of NONE = 0
link_of (LIST n) = 0
link_of (LEAVE t d) = 0
link_of (ASK n y z) = 0
link_of (SELECT n c e) = 0
link_of (OPEN f) = 0
link_of (END e) = 0
link_of (CASE c t d) = c

seven : (x a b c : ℕ) → eqb x 7 ≡ is_cASE (decode x a b c)
seven zero a b c = refl
seven (suc zero) a b c = refl
seven (suc (suc zero)) a b c = refl
seven (suc (suc (suc zero))) a b c = refl
seven (suc (suc (suc (suc zero)))) a b c = refl
seven (suc (suc (suc (suc (suc zero))))) a b c = refl
seven (suc (suc (suc (suc (suc (suc zero)))))) a b c = refl
seven (suc (suc (suc (suc (suc (suc (suc zero))))))) a b c = refl
seven (suc (suc (suc (suc (suc (suc (suc (suc k)))))))) a b c =
    ne_eqb (suc (suc (suc (suc (suc (suc (suc (suc k)))))))) 7 (λ e. omega arith) ∙ sym (ap is_cASE (decode_none (suc (suc (suc (suc (suc (suc (suc (suc k)))))))) a b c (omega arith)))

linked : (x a b c : ℕ) → is_cASE (decode x a b c) ≡ true → a ≡ link_of (decode x a b c)
linked zero a b c h = absurd (true≢false (sym h))
linked (suc zero) a b c h = absurd (true≢false (sym h))
linked (suc (suc zero)) a b c h = absurd (true≢false (sym h))
linked (suc (suc (suc zero))) a b c h = absurd (true≢false (sym h))
linked (suc (suc (suc (suc zero)))) a b c h = absurd (true≢false (sym h))
linked (suc (suc (suc (suc (suc zero))))) a b c h = absurd (true≢false (sym h))
linked (suc (suc (suc (suc (suc (suc zero)))))) a b c h = absurd (true≢false (sym h))
linked (suc (suc (suc (suc (suc (suc (suc zero))))))) a b c h = refl
linked (suc (suc (suc (suc (suc (suc (suc (suc k)))))))) a b c h = absurd (true≢false (sym h ∙ ap is_cASE (decode_none (suc (suc (suc (suc (suc (suc (suc (suc k)))))))) a b c (omega arith))))

opcode : (C : List ℕ) (o : ℕ) → eqb (get_or C o 0) 7 ≡ is_cASE (fetch C o)
unfolding fetch
opcode C o = seven (get_or C o 0) (get_or C (suc o) 0) (get_or C (suc (suc o)) 0) (get_or C (suc (suc (suc o))) 0)

link_at : (C : List ℕ) (o : ℕ) → is_cASE (fetch C o) ≡ true → get_or C (suc o) 0 ≡ link_of (fetch C o)
unfolding fetch
link_at C o h = linked (get_or C o 0) (get_or C (suc o) 0) (get_or C (suc (suc o)) 0) (get_or C (suc (suc (suc o))) 0) h

-- A jump, stepped over.
aim_step : (lim : ℕ) (C : List ℕ) (k : ℕ → List Frame → List ℕ → Res) (i : Instr) (t d pc : ℕ) (K : List Frame) (qs : List ℕ) → aim_of i ≡ to t d
    → step lim C k i pc K qs ≡ forward C pc k (unwind K t d) qs
aim_step lim C k NONE t d pc K qs h = let z : ◌≡◌ {A = ℕ} 0 1 = cc in absurd (omega arith)
aim_step lim C k (LIST n) t d pc K qs h = let z : ◌≡◌ {A = ℕ} 0 1 = cc in absurd (omega arith)
aim_step lim C k (LEAVE u e) t d pc K qs h = let p : u ≡ t = ap place_in h in let q : e ≡ d = ap depth_in h in rw (p, q)
aim_step lim C k (ASK n y z) t d pc K qs h = let w : ◌≡◌ {A = ℕ} 0 1 = cc in absurd (omega arith)
aim_step lim C k (SELECT n c e) t d pc K qs h = let w : ◌≡◌ {A = ℕ} 0 1 = cc in absurd (omega arith)
aim_step lim C k (OPEN f) t d pc K qs h = let w : ◌≡◌ {A = ℕ} 0 1 = cc in absurd (omega arith)
aim_step lim C k (END e) t d pc K qs h = let w : ◌≡◌ {A = ℕ} 0 1 = cc in absurd (omega arith)
aim_step lim C k (CASE c u e) t d pc K qs h = let p : u ≡ t = ap place_in h in let q : e ≡ d = ap depth_in h in rw (p, q)

-- What is no ASK gives up, if it is gone back to.
aim_back : (k : ℕ → List Frame → List ℕ → Res) (i : Instr) (t d : ℕ) (K : List Frame) (qs : List ℕ) → aim_of i ≡ to t d → (ask_now i k K qs).end ≡ gave_up
aim_back k NONE t d K qs h = refl
aim_back k (LIST n) t d K qs h = refl
aim_back k (LEAVE u e) t d K qs h = refl
aim_back k (ASK n y z) t d K qs h = let w : ◌≡◌ {A = ℕ} 0 1 = cc in absurd (omega arith)
aim_back k (SELECT n c e) t d K qs h = refl
aim_back k (OPEN f) t d K qs h = refl
aim_back k (END e) t d K qs h = refl
aim_back k (CASE c u e) t d K qs h = refl

-- An ASK that is not gone back to is stepped over alike.
ask_step : (lim : ℕ) (C : List ℕ) (k : ℕ → List Frame → List ℕ → Res) (i : Instr) (pc : ℕ) (K : List Frame) (qs : List ℕ) → Kept (ask_now i k K qs) → step lim C k i pc K qs ≡ ask_now i k K qs
ask_step lim C k NONE pc K qs w = absurd (w refl)
ask_step lim C k (LIST n) pc K qs w = absurd (w refl)
ask_step lim C k (LEAVE u e) pc K qs w = absurd (w refl)
ask_step lim C k (ASK n y z) pc K qs w = refl
ask_step lim C k (SELECT n c e) pc K qs w = absurd (w refl)
ask_step lim C k (OPEN f) pc K qs w = absurd (w refl)
ask_step lim C k (END e) pc K qs w = absurd (w refl)
ask_step lim C k (CASE c u e) pc K qs w = absurd (w refl)

kept_along : (r s : Res) → r ≡ s → Kept r → Kept s
kept_along r s e w x = w (ap (λ y. y.end) e ∙ x)

-- From further ahead, control goes the same way.
module _ (lim : ℕ) (D : List ℕ) (qs : List ℕ) where
  nearer : (a b : ℕ) → a < b → (q : Pos) → Kept (forward D b (run lim D) q qs) → forward D a (run lim D) q qs ≡ forward D b (run lim D) q qs
  nearer a b h q w = go (ltb b q.pc) refl w
    where
      out : Res
      out = run lim D q.pc q.stack qs

      back : Res
      back = ask_now (behind D q.pc) (run lim D) q.stack qs

      not_zero : (x : ℕ) → a < x → behind D x ≡ fetch D x
      not_zero zero l = absurd (omega arith)
      not_zero (suc x) l = refl

      near : Kept back → (c : Bool) → ltb a q.pc ≡ c → pick c out back ≡ back
      near v true e =
          let s : behind D q.pc ≡ fetch D q.pc = not_zero q.pc (ltb-true a q.pc e) in
          let t : back ≡ ask_now (fetch D q.pc) (run lim D) q.stack qs = ap (λ i. ask_now i (run lim D) q.stack qs) s in
          run_step lim D q.pc q.stack qs
          ∙ ask_step lim D (run lim D) (fetch D q.pc) q.pc q.stack qs (kept_along back (ask_now (fetch D q.pc) (run lim D) q.stack qs) t v)
          ∙ sym t
      near v false e = refl

      go : (c : Bool) → ltb b q.pc ≡ c → Kept (pick c out back) → pick (ltb a q.pc) out back ≡ pick c out back
      go true e v =
          let l : b < q.pc = ltb-true b q.pc e in
          ap (λ c. pick c out back) (lt-ltb a q.pc (omega arith))
      go false e v = near v (ltb a q.pc) refl

module _ (lim : ℕ) (C D : List ℕ) (P : ℕ → Type 0) (φ : ℕ → ℕ)
    (order : (a b : ℕ) → P a → P b → ltb (φ a) (φ b) ≡ ltb a b) (zeros : (o : ℕ) → P o → is_zero (φ o) ≡ is_zero o)
    (does : (o : ℕ) → P o → Does C P φ o (fetch C o) (fetch D (φ o))) where
  onward : (o t d : ℕ) → P o → aim_of (fetch C o) ≡ to t d → P t
  onward o t d p h = go (fetch C o) h (does o p)
    where
      go : (i : Instr) → aim_of i ≡ to t d → Does C P φ o i (fetch D (φ o)) → P t
      go NONE e m = absurd m
      go (LIST n) e m = let w : ◌≡◌ {A = ℕ} 0 1 = cc in absurd (omega arith)
      go (LEAVE u x) e m = let w : u ≡ t = ap place_in e in subst P w m.3.holds
      go (ASK n y z) e m = let w : ◌≡◌ {A = ℕ} 0 1 = cc in absurd (omega arith)
      go (SELECT n c x) e m = let w : ◌≡◌ {A = ℕ} 0 1 = cc in absurd (omega arith)
      go (OPEN f) e m = let w : ◌≡◌ {A = ℕ} 0 1 = cc in absurd (omega arith)
      go (END x) e m = let w : ◌≡◌ {A = ℕ} 0 1 = cc in absurd (omega arith)
      go (CASE c u x) e m = let w : u ≡ t = ap place_in e in subst P w m.4.holds

  case_alike : (o : ℕ) (i j : Instr) → Does C P φ o i j → is_cASE j ≡ is_cASE i
  case_alike o NONE j m = absurd m
  case_alike o (LIST n) j m = ap is_cASE m.0
  case_alike o (LEAVE t d) j m = ap is_cASE m.2
  case_alike o (ASK n y z) j m = ap is_cASE m.0
  case_alike o (SELECT n c e) j m = ap is_cASE m.0
  case_alike o (OPEN f) j m = ap is_cASE m.0
  case_alike o (END e) j m = ap is_cASE m
  case_alike o (CASE c t d) j m = ap is_cASE m.2

  link_alike : (o : ℕ) (i j : Instr) → Does C P φ o i j → is_cASE i ≡ true → P (link_of i) × (link_of j ≡ φ (link_of i))
  link_alike o NONE j m h = absurd m
  link_alike o (LIST n) j m h = absurd (true≢false (sym h))
  link_alike o (LEAVE t d) j m h = absurd (true≢false (sym h))
  link_alike o (ASK n y z) j m h = absurd (true≢false (sym h))
  link_alike o (SELECT n c e) j m h = absurd (true≢false (sym h))
  link_alike o (OPEN f) j m h = absurd (true≢false (sym h))
  link_alike o (END e) j m h = absurd (true≢false (sym h))
  link_alike o (CASE c t d) j m h = (m.3, ap link_of m.2)

  same_case : (p c : ℕ) → P p → P c → is_case D (φ p) (φ c) ≡ is_case C p c
  same_case p c hp hc =
      ap (λ b. b && eqb (get_or D (φ c) 0) 7) (order p c hp hc)
      ∙ ap (λ b. ltb p c && b) (opcode D (φ c) ∙ case_alike c (fetch C c) (fetch D (φ c)) (does c hc) ∙ sym (opcode C c))

  is_seven : (p c : ℕ) → is_case C p c ≡ true → is_cASE (fetch C c) ≡ true
  is_seven p c h = sym (opcode C c) ∙ go (ltb p c) h
    where
      go : (b : Bool) → (b && eqb (get_or C c 0) 7) ≡ true → eqb (get_or C c 0) 7 ≡ true
      go true e = e
      go false e = absurd (true≢false (sym e))

  -- The case that is chosen.
  chases : (a p c e : ℕ) → P p → P c → P e → P (chase C p c e a) × (chase D (φ p) (φ c) (φ e) a ≡ φ (chase C p c e a))
  unfolding chase
  chases zero p c e hp hc he = go (is_case C p c) (is_case D (φ p) (φ c)) (same_case p c hp hc)
    where
      go : (x y : Bool) → y ≡ x → P (pick x c e) × (pick y (φ c) (φ e) ≡ φ (pick x c e))
      go true y h = (hc, ap (λ b. pick b (φ c) (φ e)) h)
      go false y h = (he, ap (λ b. pick b (φ c) (φ e)) h)
  chases (suc a) p c e hp hc he =
      go (is_case C p c) refl (is_case D (φ p) (φ c)) (same_case p c hp hc) (λ l h. chases a c l e hc h he)
    where
      go : (x : Bool) → is_case C p c ≡ x → (y : Bool) → y ≡ x
          → ((l : ℕ) → P l → P (chase C c l e a) × (chase D (φ c) (φ l) (φ e) a ≡ φ (chase C c l e a)))
          → P (pick x (chase C c (get_or C (suc c) 0) e a) e)
          × (pick y (chase D (φ c) (get_or D (suc (φ c)) 0) (φ e) a) (φ e) ≡ φ (pick x (chase C c (get_or C (suc c) 0) e a) e))
      go true q y h f =
          let s : is_cASE (fetch C c) ≡ true = is_seven p c q in
          let m : P (link_of (fetch C c)) × (link_of (fetch D (φ c)) ≡ φ (link_of (fetch C c))) = link_alike c (fetch C c) (fetch D (φ c)) (does c hc) s in
          let k : get_or C (suc c) 0 ≡ link_of (fetch C c) = link_at C c s in
          let l : get_or D (suc (φ c)) 0 ≡ φ (get_or C (suc c) 0) = link_at D (φ c) (case_alike c (fetch C c) (fetch D (φ c)) (does c hc) ∙ s) ∙ m.1 ∙ ap φ (sym k) in
          let r : P (chase C c (get_or C (suc c) 0) e a) × (chase D (φ c) (φ (get_or C (suc c) 0)) (φ e) a ≡ φ (chase C c (get_or C (suc c) 0) e a))
          = f (get_or C (suc c) 0) (subst P (sym k) m.0) in
          (r.0, ap (λ b. pick b (chase D (φ c) (get_or D (suc (φ c)) 0) (φ e) a) (φ e)) h ∙ ap (λ x. chase D (φ c) x (φ e) a) l ∙ r.1)
      go false q y h f = (he, ap (λ b. pick b (chase D (φ c) (get_or D (suc (φ c)) 0) (φ e) a) (φ e)) h)

  abbrev Less : ℕ → List ℕ → Type 0
  Less pc qs = (pc' : ℕ) (K L : List Frame) (qs' : List ℕ) → measure C pc' qs' < measure C pc qs → P pc' → Like C P φ K L → Kept (run lim C pc' K qs')
      → run lim D (φ pc') L qs' ≡ run lim C pc' K qs'

  takes : (pc : ℕ) (qs : List ℕ) → Less pc qs → (K L : List Frame) → Like C P φ K L → (n y z : ℕ) → P y → P z → Kept (ask_now (ASK n y z) (run lim C) K qs)
      → ask_now (ASK n (φ y) (φ z)) (run lim D) L qs ≡ ask_now (ASK n y z) (run lim C) K qs
  takes pc [] ih K L l n y z hy hz w = refl
  takes pc (a ∷ qs) ih K L l n y z hy hz w = ap (pre (asked n ∷ [])) (go (is_yes a) w)
    where
      go : (b : Bool) → Kept (run lim C (pick b y z) K qs) → run lim D (pick b (φ y) (φ z)) L qs ≡ run lim C (pick b y z) K qs
      go true v = ih y K L qs (omega arith) hy l v
      go false v = ih z K L qs (omega arith) hz l v

  -- A way back leads to an ASK.
  back_to : (pc : ℕ) (qs : List ℕ) → Less pc qs → (K L : List Frame) → Like C P φ K L → (x : ℕ) → P x → Kept (ask_now (behind C x) (run lim C) K qs)
      → ask_now (behind D (φ x)) (run lim D) L qs ≡ ask_now (behind C x) (run lim C) K qs
  back_to pc qs ih K L l x h w = at (is_zero x) refl w
    where
      go : (i : Instr) → Does C P φ x i (fetch D (φ x)) → Kept (ask_now i (run lim C) K qs) → ask_now (fetch D (φ x)) (run lim D) L qs ≡ ask_now i (run lim C) K qs
      go NONE m v = absurd m
      go (LIST n) m v = absurd (v refl)
      go (LEAVE t d) m v = absurd (v refl)
      go (ASK n y z) m v = ap (λ i. ask_now i (run lim D) L qs) m.0 ∙ takes pc qs ih K L l n y z m.1 m.2 v
      go (SELECT n c e) m v = absurd (v refl)
      go (OPEN f) m v = absurd (v refl)
      go (END e) m v = absurd (v refl)
      go (CASE c t d) m v = absurd (v refl)

      at : (b : Bool) → is_zero x ≡ b → Kept (ask_now (pick b NONE (fetch C x)) (run lim C) K qs)
          → ask_now (behind D (φ x)) (run lim D) L qs ≡ ask_now (pick b NONE (fetch C x)) (run lim C) K qs
      at true e v = absurd (v refl)
      at false e v = ap (λ b. ask_now (pick b NONE (fetch D (φ x))) (run lim D) L qs) (zeros x h ∙ e) ∙ go (fetch C x) (does x h) v

  -- Both go to one place.
  together : (pc : ℕ) (qs : List ℕ) → Less pc qs → P pc → pc < length C → (p q : Pos) → Same C P φ zeros onward p q → Kept (forward C pc (run lim C) p qs)
      → forward D (φ pc) (run lim D) q qs ≡ forward C pc (run lim C) p qs
  together pc qs ih h i p q s w =
      ap (λ r. forward D (φ pc) (run lim D) r qs) shape
      ∙ ap (λ b. pick b (run lim D (φ p.pc) q.stack qs) (ask_now (behind D (φ p.pc)) (run lim D) q.stack qs)) (order pc p.pc h s.holds)
      ∙ go (ltb pc p.pc) refl w
    where
      shape : q ≡ pos (φ p.pc) q.stack
      shape = ap (λ x. pos x q.stack) s.place

      go : (b : Bool) → ltb pc p.pc ≡ b → Kept (pick b (run lim C p.pc p.stack qs) (ask_now (behind C p.pc) (run lim C) p.stack qs))
          → pick b (run lim D (φ p.pc) q.stack qs) (ask_now (behind D (φ p.pc)) (run lim D) q.stack qs)
          ≡ pick b (run lim C p.pc p.stack qs) (ask_now (behind C p.pc) (run lim C) p.stack qs)
      go true e v =
          let l : pc < p.pc = ltb-true pc p.pc e in
          ih p.pc p.stack q.stack qs (omega arith) s.holds s.like v
      go false e v = back_to pc qs ih p.stack q.stack s.like p.pc s.holds v

  -- C comes to a jump that D is ahead of: it goes forward to it, and steps over it.
  steps_over : (pc : ℕ) (qs : List ℕ) (p : Pos) (t d : ℕ) → is_zero p.pc ≡ false → aim_of (fetch C p.pc) ≡ to t d → Kept (forward C pc (run lim C) p qs)
      → (pc < p.pc) × (forward C pc (run lim C) p qs ≡ forward C p.pc (run lim C) (unwind p.stack t d) qs)
  steps_over pc qs p t d z a w = go (ltb pc p.pc) refl w
    where
      out : Res
      out = run lim C p.pc p.stack qs

      back : Res
      back = ask_now (behind C p.pc) (run lim C) p.stack qs

      go : (b : Bool) → ltb pc p.pc ≡ b → Kept (pick b out back) → (pc < p.pc) × (pick b out back ≡ forward C p.pc (run lim C) (unwind p.stack t d) qs)
      go true e v =
          (ltb-true pc p.pc e, run_step lim C p.pc p.stack qs ∙ aim_step lim C (run lim C) (fetch C p.pc) t d p.pc p.stack qs a)
      go false e v =
          absurd (v (ap (λ b. (ask_now (pick b NONE (fetch C p.pc)) (run lim C) p.stack qs).end) z
          ∙ aim_back (run lim C) (fetch C p.pc) t d p.stack qs a))

  aim_inside : (o t d : ℕ) → aim_of (fetch C o) ≡ to t d → o < length C
  aim_inside o t d a = inside C o (go (fetch C o) a)
    where
      go : (i : Instr) → aim_of i ≡ to t d → is_none i ≡ false
      go NONE e = let w : ◌≡◌ {A = ℕ} 0 1 = cc in absurd (omega arith)
      go (LIST n) e = refl
      go (LEAVE u x) e = refl
      go (ASK n y z) e = refl
      go (SELECT n c x) e = refl
      go (OPEN f) e = refl
      go (END x) e = refl
      go (CASE c u x) e = refl

  -- A jump.
  jumps : (g pc : ℕ) (qs : List ℕ) → length C - pc < g → Less pc qs → P pc → pc < length C → (K L : List Frame) → Like C P φ K L → (t d u e : ℕ) → Ahead C P φ t d u e
      → Kept (forward C pc (run lim C) (unwind K t d) qs) → forward D (φ pc) (run lim D) (unwind L u e) qs ≡ forward C pc (run lim C) (unwind K t d) qs
  jumps zero pc qs m ih h i K L l t d u e a w = absurd (omega arith)
  jumps (suc g) pc qs m ih h i K L l t d u e a w =
      go (unwinds C P φ zeros onward K L l t d u e a) (λ x. jumps g x qs)
    where
      p : Pos
      p = unwind K t d

      q : Pos
      q = unwind L u e

      go : Both C P φ zeros onward p q
          → ((x : ℕ) → length C - x < g → Less x qs → P x → x < length C → (K L : List Frame) → Like C P φ K L → (t d u e : ℕ) → Ahead C P φ t d u e
          → Kept (forward C x (run lim C) (unwind K t d) qs) → forward D (φ x) (run lim D) (unwind L u e) qs ≡ forward C x (run lim C) (unwind K t d) qs)
          → forward D (φ pc) (run lim D) q qs ≡ forward C pc (run lim C) p qs
      go (inl s) f = together pc qs ih h i p q s w
      go (inr s) f =
          let v : (pc < p.pc) × (forward C pc (run lim C) p qs ≡ forward C p.pc (run lim C) (unwind p.stack s.t s.d) qs)
          = steps_over pc qs p s.t s.d s.some s.jump w in
          let j : pc < p.pc = v.0 in
          let o : p.pc < length C = aim_inside p.pc s.t s.d s.jump in
          let r : forward D (φ p.pc) (run lim D) (unwind s.left s.u s.e) qs ≡ forward C p.pc (run lim C) (unwind p.stack s.t s.d) qs
          = f p.pc (omega arith) (λ x K₁ L₁ qs₁ y. ih x K₁ L₁ qs₁ (omega arith)) s.holds o p.stack s.left s.like s.t s.d s.u s.e s.ahead
          (kept_along (forward C pc (run lim C) p qs) (forward C p.pc (run lim C) (unwind p.stack s.t s.d) qs) v.1 w) in
          let a : φ pc < φ p.pc = ltb-true (φ pc) (φ p.pc) (order pc p.pc h s.holds ∙ lt-ltb pc p.pc j) in
          ap (λ y. forward D (φ pc) (run lim D) y qs) s.rest
          ∙ nearer lim D qs (φ pc) (φ p.pc) a (unwind s.left s.u s.e)
          (kept_along (forward C pc (run lim C) p qs) (forward D (φ p.pc) (run lim D) (unwind s.left s.u s.e) qs) (v.1 ∙ sym r) w)
          ∙ r ∙ sym v.1

  -- One instruction.
  steps : (pc : ℕ) (qs : List ℕ) → Less pc qs → P pc → (K L : List Frame) → Like C P φ K L → (i : Instr) → fetch C pc ≡ i → Does C P φ pc i (fetch D (φ pc))
      → Kept (step lim C (run lim C) i pc K qs) → step lim D (run lim D) (fetch D (φ pc)) (φ pc) L qs ≡ step lim C (run lim C) i pc K qs
  steps pc qs ih h K L l NONE e m w = absurd m
  steps pc qs ih h K L l (LIST n) e m w =
      let i : pc < length C = inside C pc (ap is_none e) in
      ap (λ j. step lim D (run lim D) j (φ pc) L qs) m.0
      ∙ ap (λ x. pre (plain n ∷ []) (run lim D x L qs)) (sym m.2)
      ∙ ap (pre (plain n ∷ [])) (ih (pc + 2) K L qs (omega arith) m.1 l w)
  steps pc qs ih h K L l (LEAVE t d) e m w =
      ap (λ j. step lim D (run lim D) j (φ pc) L qs) m.2
      ∙ jumps (suc (length C - pc)) pc qs (omega arith) ih h (inside C pc (ap is_none e)) K L l t d m.0 m.1 m.3 w
  steps pc qs ih h K L l (ASK n y z) e m w = ap (λ j. step lim D (run lim D) j (φ pc) L qs) m.0 ∙ takes pc qs ih K L l n y z m.1 m.2 w
  steps pc qs ih h K L l (SELECT n c x) e m w = ap (λ j. step lim D (run lim D) j (φ pc) L qs) m.0 ∙ go qs ih w
    where
      go : (u : List ℕ) → Less pc u → Kept (step lim C (run lim C) (SELECT n c x) pc K u)
          → step lim D (run lim D) (SELECT n (φ c) (φ x)) (φ pc) L u ≡ step lim C (run lim C) (SELECT n c x) pc K u
      go [] f v = refl
      go (a ∷ u) f v =
          let r : P (chase C pc c x a) × (chase D (φ pc) (φ c) (φ x) a ≡ φ (chase C pc c x a)) = chases a pc c x h m.1 m.2 in
          ap (λ y. pre (asked n ∷ []) (run lim D y L u)) r.1 ∙ ap (pre (asked n ∷ [])) (f (chase C pc c x a) K L u (omega arith) r.0 l v)
  steps pc qs ih h K L l (OPEN f) e m w =
      ap (λ j. step lim D (run lim D) j (φ pc) L qs) m.0
      ∙ ap (λ n. pick (ltb n lim) (run lim D (φ pc + 2) (open' (φ f) ∷ L) qs) (res [] run_end.Astray qs)) (sym (like_length C P φ K L l))
      ∙ go (ltb (length K) lim) w
    where
      i : pc < length C
      i = inside C pc (ap is_none e)

      go : (b : Bool) → Kept (pick b (run lim C (pc + 2) (open' f ∷ K) qs) (res [] run_end.Astray qs))
          → pick b (run lim D (φ pc + 2) (open' (φ f) ∷ L) qs) (res [] run_end.Astray qs) ≡ pick b (run lim C (pc + 2) (open' f ∷ K) qs) (res [] run_end.Astray qs)
      go true v =
          ap (λ x. run lim D x (open' (φ f) ∷ L) qs) (sym m.3)
          ∙ ih (pc + 2) (open' f ∷ K) (open' (φ f) ∷ L) qs (omega (arith, i)) m.2 (m.1, refl, l) v
      go false v = refl
  steps pc qs ih h K L l (END x) e m w = ap (λ j. step lim D (run lim D) j (φ pc) L qs) m
  steps pc qs ih h K L l (CASE c t d) e m w =
      ap (λ j. step lim D (run lim D) j (φ pc) L qs) m.2
      ∙ jumps (suc (length C - pc)) pc qs (omega arith) ih h (inside C pc (ap is_none e)) K L l t d m.0 m.1 m.4 w

  runs_alike : (f pc : ℕ) (K L : List Frame) (qs : List ℕ) → measure C pc qs < f → P pc → Like C P φ K L → Kept (run lim C pc K qs) → run lim D (φ pc) L qs ≡ run lim C pc K qs
  runs_alike zero pc K L qs m h l w = absurd (omega arith)
  runs_alike (suc f) pc K L qs m h l w =
      run_step lim D (φ pc) L qs
      ∙ steps pc qs (λ pc' K' L' qs' y. runs_alike f pc' K' L' qs' (omega arith)) h K L l (fetch C pc) refl (does pc h)
      (kept_along (run lim C pc K qs) (step lim C (run lim C) (fetch C pc) pc K qs) (run_step lim C pc K qs) w)
      ∙ sym (run_step lim C pc K qs)

  -- Where C runs from 0 without giving up, so does D from φ 0, and alike.
  pub alike : P 0 → (qs : List ℕ) → Kept (run lim C 0 [] qs) → run lim D (φ 0) [] qs ≡ run lim C 0 [] qs
  alike h qs w = runs_alike (suc (measure C 0 qs)) 0 [] [] qs (omega arith) h tt w
