-- Threading in place: where some jumps are sent on already, and the others not yet, the last targets are those of the code as it was.
use Prim.Native.Nat.{ℕ, zero, suc, min}
use Rattle.std.specs.Prelude.{◌≡◌, Bool, true, false, List, ◌⊎◌, length, Option, Some, None}
use Rattle.std.proofs.Math.Path.{refl, ap}
use Rattle.std.proofs.Common.{sym, ◌∙◌, inl, inr, arith}
use Rattle.route_completion.specs.Sem.{pick}
use Rattle.code_flat.specs.Machine.{Instr, NONE, LIST, LEAVE, ASK, SELECT, OPEN, END, CASE, is_zero}
use Rattle.code_valid.specs.Instrs.{find}
use Rattle.code_machine.specs.declared.Target.{Target}
use Rattle.code_shorten.specs.Short.{to, place_in, depth_in, aim_of, hop, further, last, aimed, thread}
use Rattle.code_shorten.specs.Threads.{hop_some}
use Rattle.code_shorten.specs.Rings.{Ring, ring, ring_next}
use Rattle.code_shorten.specs.Twice.{ring_stays}
use Rattle.code_shorten.specs.Laws.{Hops, last_is, is_last}

-- At each place stands what stood there, or what is to stand there.
pub record Mixed (is now : List Instr) : Type 0 where
  pub each : (o : ℕ) → (find now 0 o ≡ find is 0 o) ⊎ (find now 0 o ≡ thread is (find is 0 o))

hops_lift : (is : List Instr) (n t d x y u e : ℕ) → y ≡ min d x → Hops is n t y u e → (w : ℕ) × Hops is n t x u w × (e ≡ min d w)
hops_lift is zero t d x y u e q h = (x, (h.0, refl), omega (arith, h.1))
hops_lift is (suc n) t d x y u e q h =
    let r : (w : ℕ) × Hops is n h.0 (min x h.1) u w × (e ≡ min d w) = hops_lift is n h.0 d (min x h.1) (min y h.1) u e (omega arith) h.3 in
    (r.0, (h.0, h.1, h.2, r.1), r.2)

-- A jump, sent on.
sent_on : (is : List Instr) (i : Instr) (v w u e : ℕ) → aim_of i ≡ to v w → last is (suc (length is)) v w ≡ to u e → aim_of (thread is i) ≡ to u e
sent_on is NONE v w u e h l = let x : ◌≡◌ {A = ℕ} 0 1 = cc in absurd (omega arith)
sent_on is (LIST n) v w u e h l = let x : ◌≡◌ {A = ℕ} 0 1 = cc in absurd (omega arith)
sent_on is (LEAVE t d) v w u e h l =
    let p : t ≡ v = ap place_in h in let q : d ≡ w = ap depth_in h in
    ap (λ a. aim_of (aimed a LEAVE (LEAVE t d))) (ap (λ x. last is (suc (length is)) x d) p ∙ ap (last is (suc (length is)) v) q ∙ l)
sent_on is (ASK n y z) v w u e h l = let x : ◌≡◌ {A = ℕ} 0 1 = cc in absurd (omega arith)
sent_on is (SELECT n c k) v w u e h l = let x : ◌≡◌ {A = ℕ} 0 1 = cc in absurd (omega arith)
sent_on is (OPEN f) v w u e h l = let x : ◌≡◌ {A = ℕ} 0 1 = cc in absurd (omega arith)
sent_on is (END k) v w u e h l = let x : ◌≡◌ {A = ℕ} 0 1 = cc in absurd (omega arith)
sent_on is (CASE c t d) v w u e h l =
    let p : t ≡ v = ap place_in h in let q : d ≡ w = ap depth_in h in
    ap (λ a. aim_of (aimed a (CASE c) (CASE c t d))) (ap (λ x. last is (suc (length is)) x d) p ∙ ap (last is (suc (length is)) v) q ∙ l)

no_aim : (is : List Instr) (i : Instr) → aim_of i ≡ None → aim_of (thread is i) ≡ None
no_aim is NONE h = refl
no_aim is (LIST n) h = refl
no_aim is (LEAVE t d) h = let x : ◌≡◌ {A = ℕ} 0 1 = cc in absurd (omega arith)
no_aim is (ASK n y z) h = refl
no_aim is (SELECT n c e) h = refl
no_aim is (OPEN f) h = refl
no_aim is (END e) h = refl
no_aim is (CASE c t d) h = let x : ◌≡◌ {A = ℕ} 0 1 = cc in absurd (omega arith)

hop_is : (is : List Instr) (t : ℕ) (a : Option Target) → is_zero t ≡ false → aim_of (find is 0 t) ≡ a → hop is t ≡ a
unfolding hop
hop_is is t a z h = ap (λ b. pick b None (aim_of (find is 0 t))) z ∙ h

module _ (is now : List Instr) (m : Mixed is now) where
  hop_none : (u : ℕ) → hop is u ≡ None → hop now u ≡ None
  unfolding hop
  hop_none u h = go (is_zero u) h
    where
      still : (find now 0 u ≡ find is 0 u) ⊎ (find now 0 u ≡ thread is (find is 0 u)) → aim_of (find is 0 u) ≡ None → aim_of (find now 0 u) ≡ None
      still (inl e) a = ap aim_of e ∙ a
      still (inr e) a = ap aim_of e ∙ no_aim is (find is 0 u) a

      go : (b : Bool) → pick b None (aim_of (find is 0 u)) ≡ None → pick b None (aim_of (find now 0 u)) ≡ None
      go true e = refl
      go false e = still (m.each u) e

  hops_now : (n t d u e : ℕ) → Hops is n t d u e → hop is u ≡ None → (k : ℕ) × Hops now k t d u e
  hops_now zero t d u e h z = (0, h)
  hops_now (suc n) t d u e h z = go (m.each t) (hops_now n h.0 (min d h.1) u e h.3 z)
    where
      s : (is_zero t ≡ false) × (aim_of (find is 0 t) ≡ to h.0 h.1)
      s = hop_some is t h.0 h.1 h.2

      go : (find now 0 t ≡ find is 0 t) ⊎ (find now 0 t ≡ thread is (find is 0 t)) → (k : ℕ) × Hops now k h.0 (min d h.1) u e → (k : ℕ) × Hops now k t d u e
      go (inl q) r = (suc r.0, (h.0, h.1, hop_is now t (to h.0 h.1) s.0 (ap aim_of q ∙ s.1), r.1))
      go (inr q) r =
          let l : (w : ℕ) × Hops is n h.0 h.1 u w × (e ≡ min d w) = hops_lift is n h.0 d h.1 (min d h.1) u e refl h.3 in
          let a : aim_of (find now 0 t) ≡ to u l.0 = ap aim_of q ∙ sent_on is (find is 0 t) h.0 h.1 u l.0 s.1 (last_is is n h.0 h.1 u l.0 l.1 z) in
          (1, (u, l.0, hop_is now t (to u l.0) s.0 a, (refl, sym l.2)))

  ring_now : (f t d : ℕ) → Ring is t → last now f t d ≡ None
  unfolding last
  ring_now zero t d r = refl
  ring_now (suc f) t d r = go (ring_next is t r) (λ v e k. ring_now f v e k)
    where
      go : (v : ℕ) × (w : ℕ) × (hop is t ≡ to v w) × Ring is v → ((v e : ℕ) → Ring is v → last now f v e ≡ None) → further (last now f) (hop now t) t d ≡ None
      go h k =
          let s : (is_zero t ≡ false) × (aim_of (find is 0 t) ≡ to h.0 h.1) = hop_some is t h.0 h.1 h.2 in
          ap (λ a. further (last now f) a t d) (hop_is now t (to h.0 h.1) s.0 (ap aim_of (same (m.each t) (ring_stays is (find is 0 t) h.0 h.1 s.1 h.3)) ∙ s.1))
          ∙ k h.0 (min d h.1) h.3
        where
          same : (find now 0 t ≡ find is 0 t) ⊎ (find now 0 t ≡ thread is (find is 0 t)) → thread is (find is 0 t) ≡ find is 0 t → find now 0 t ≡ find is 0 t
          same (inl e) q = e
          same (inr e) q = e ∙ q

  pub last_now : (t d : ℕ) → last now (suc (length now)) t d ≡ last is (suc (length is)) t d
  last_now t d = go (last is (suc (length is)) t d) refl
    where
      go : (a : Option Target) → last is (suc (length is)) t d ≡ a → last now (suc (length now)) t d ≡ a
      go None q = ring_now (suc (length now)) t d (ring is t d q)
      go (Some aim) q = let u : ℕ = aim.place in let e : ℕ = aim.depth in
          let r : ((n : ℕ) × Hops is n t d u e) × (hop is u ≡ None) = is_last is t d u e q in
          let k : (n : ℕ) × Hops now n t d u e = hops_now r.0.0 t d u e r.0.1 r.1 in
          last_is now k.0 t d u e k.1 (hop_none u r.1)

  -- So an instruction is threaded alike.
  pub thread_now : (i : Instr) → thread now i ≡ thread is i
  thread_now NONE = refl
  thread_now (LIST n) = refl
  thread_now (LEAVE t d) = ap (λ a. aimed a LEAVE (LEAVE t d)) (last_now t d)
  thread_now (ASK n y z) = refl
  thread_now (SELECT n c e) = refl
  thread_now (OPEN f) = refl
  thread_now (END e) = refl
  thread_now (CASE c t d) = ap (λ a. aimed a (CASE c) (CASE c t d)) (last_now t d)
