-- "A second pass changes nothing", for every valid code; and what the pass makes is valid.
use Prim.Native.Nat.{ℕ, zero, suc, ◌+◌, ◌≤◌, ◌<◌, min}
use Rattle.std.specs.Prelude.{◌≡◌, Bool, List, [], ◌∷◌, map, length, Option, Some, None}
use Rattle.std.proofs.Math.Path.{refl, sym, ap}
use Rattle.std.proofs.Common.{◌∙◌, subst, arith}
use Rattle.std.proofs.Math.Bool.{true, false}
use Rattle.route_completion.specs.Sem.{pick}
use Rattle.code_flat.specs.Machine.{Instr, NONE, LIST, LEAVE, ASK, SELECT, OPEN, END, CASE, is_zero}
use Rattle.code_flat.specs.Machine.{is_none}
use Rattle.code_valid.specs.Instrs.{len, flat, parse, find, begins, names, runs_on}
use Rattle.code_valid.specs.Valid.{is_last, Valid}
use Rattle.code_machine.specs.declared.Target.{Target}
use Rattle.code_shorten.specs.Short.{to, place_in, depth_in, aim_of, hop, further, last, aimed, thread, threaded, reached, moved, relocate, kept, close_up, closed_up, shorter}
use Rattle.code_shorten.specs.Sound.{AreInstrs, Begin, All, Sound, dec_eq, len_pos, find_here, find_there, find_low, find_begin, none_in, valid_sound}
use Rattle.code_shorten.specs.Threads.{threaded_find, threaded_sound, aim_all, hop_some}
use Rattle.code_shorten.specs.Closes.{In, after_in, moved_here, moved_there, zeros}
use Rattle.code_shorten.specs.Reaches.{reached_zero, reached_closed}
use Rattle.code_shorten.specs.Makes.{Yes, Fine, parse_flat, fine_valid}
use Rattle.code_shorten.specs.Rings.{Ring, ring, ring_next}
use Rattle.code_shorten.specs.Stands.{old_of, stays_names, new_find, short_sound, all_reached}

-- A law of each instruction but the first is one of those behind it.
module _ (i : Instr) (is : List Instr) (p : ℕ) (some : is_none i ≡ false) where
  pub later : (o : ℕ) → is_none (find is (p + len i) o) ≡ false → find (i ∷ is) p o ≡ find is (p + len i) o
  later o n =
      let l : 0 < len i = len_pos i some in
      let b : p + len i ≤ o = find_low is (p + len i) o n in
      find_there i is p o (λ w. omega arith)

-- Where all stay, none moves.
moved_all : (S : List ℕ) (is : List Instr) (p o : ℕ) → AreInstrs is → ((x : ℕ) → is_none (find is p x) ≡ false → In S x) → is_none (find is p o) ≡ false → moved S is p p o ≡ o
moved_all S [] p o s h n = absurd (none_in p o n)
moved_all S (i ∷ is) p o s h n =
    go (dec_eq p o) (moved_all S is (p + len i) o s.1 (λ x m. h x (ap is_none (later i is p s.0 x m) ∙ m)))
  where
    go : Dec (p ≡ o) → (is_none (find is (p + len i) o) ≡ false → moved S is (p + len i) (p + len i) o ≡ o) → moved S (i ∷ is) p p o ≡ o
    go (yes e) f = ap (moved S (i ∷ is) p p) (sym e) ∙ moved_here S i is p p ∙ e
    go (no e) f =
        moved_there S i is p p o e ∙ ap (λ q. moved S is (p + len i) q o) (after_in S p p i (h p (ap is_none (find_here i is p) ∙ s.0)))
        ∙ f (ap is_none (sym (find_there i is p o e)) ∙ n)

relocate_same : (f : ℕ → ℕ) (i : Instr) → All (λ x. f x ≡ x) (names i) → relocate f i ≡ i
relocate_same f NONE a = refl
relocate_same f (LIST n) a = refl
relocate_same f (LEAVE t d) a = ap (λ x. LEAVE x d) a.0
relocate_same f (ASK n y z) a = ap (λ x. ASK n x (f z)) a.0 ∙ ap (λ x. ASK n y x) a.1.0
relocate_same f (SELECT n c e) a = ap (λ x. SELECT n x (f e)) a.0 ∙ ap (λ x. SELECT n c x) a.1.0
relocate_same f (OPEN g) a = ap OPEN a.0
relocate_same f (END e) a = refl
relocate_same f (CASE c t d) a = ap (λ x. CASE x (f t) d) a.0 ∙ ap (λ x. CASE c x d) a.1.0

kept_all : (f : ℕ → ℕ) (S : List ℕ) (is : List Instr) (p : ℕ) → AreInstrs is → ((x : ℕ) → is_none (find is p x) ≡ false → In S x)
    → ((x : ℕ) → is_none (find is p x) ≡ false → relocate f (find is p x) ≡ find is p x) → kept f S is p ≡ is
unfolding kept
kept_all f S [] p s h g = refl
kept_all f S (i ∷ is) p s h g =
    let n : is_none (find (i ∷ is) p p) ≡ false = ap is_none (find_here i is p) ∙ s.0 in
    ap (λ b. pick b (relocate f i ∷ kept f S is (p + len i)) (kept f S is (p + len i))) (h p n)
    ∙ ap (λ j. j ∷ kept f S is (p + len i)) (ap (relocate f) (sym (find_here i is p)) ∙ g p n ∙ find_here i is p)
    ∙ ap (λ l. i ∷ l)
    (kept_all f S is (p + len i) s.1 (λ x m. h x (ap is_none (later i is p s.0 x m) ∙ m))
    (λ x m. ap (relocate f) (sym (later i is p s.0 x m)) ∙ g x (ap is_none (later i is p s.0 x m) ∙ m) ∙ later i is p s.0 x m))

map_same : (f : Instr → Instr) (is : List Instr) (p : ℕ) → AreInstrs is → ((x : ℕ) → is_none (find is p x) ≡ false → f (find is p x) ≡ find is p x) → map f is ≡ is
map_same f [] p s g = refl
map_same f (i ∷ is) p s g =
    ap (λ j. j ∷ map f is) (ap f (sym (find_here i is p)) ∙ g p (ap is_none (find_here i is p) ∙ s.0) ∙ find_here i is p)
    ∙ ap (λ l. i ∷ l)
    (map_same f is (p + len i) s.1
    (λ x m. ap f (sym (later i is p s.0 x m)) ∙ g x (ap is_none (later i is p s.0 x m) ∙ m) ∙ later i is p s.0 x m))

-- A code all of which is in S is closed up already.
closed_again : (is : List Instr) → Sound is → (S : List ℕ) → ((x : ℕ) → Begin is x → In S x) → close_up S is ≡ is
unfolding close_up
closed_again is s S h =
    kept_all (moved S is 0 0) S is 0 s.some h
    (λ x n. relocate_same (moved S is 0 0) (find is 0 x) (all (names (find is 0 x)) (s.named x n)))
  where
    all : (xs : List ℕ) → All (Begin is) xs → All (λ x. moved S is 0 0 x ≡ x) xs
    all [] a = tt
    all (x ∷ xs) a = (moved_all S is 0 x s.some h a.0, all xs a.1)

-- The last target is no jump.
pub last_end : (is : List Instr) (f t d u e : ℕ) → last is f t d ≡ to u e → hop is u ≡ None
unfolding last
last_end is zero t d u e h = let x : ◌≡◌ {A = ℕ} 0 1 = cc in absurd (omega arith)
last_end is (suc f) t d u e h = go (hop is t) refl h (λ v w. last_end is f v w u e)
  where
    go : (a : Option Target) → hop is t ≡ a → further (last is f) a t d ≡ to u e → ((v w : ℕ) → last is f v w ≡ to u e → hop is u ≡ None) → hop is u ≡ None
    go None q m k = let x : t ≡ u = ap place_in m in ap (hop is) (sym x) ∙ q
    go (Some aim) q m k = let v : ℕ = aim.place in let w : ℕ = aim.depth in k v (min d w) m

no_aim : (f : ℕ → ℕ) (is : List Instr) (i : Instr) → aim_of i ≡ None → aim_of (relocate f (thread is i)) ≡ None
no_aim f is NONE h = refl
no_aim f is (LIST n) h = refl
no_aim f is (LEAVE t d) h = let x : ◌≡◌ {A = ℕ} 0 1 = cc in absurd (omega arith)
no_aim f is (ASK n y z) h = refl
no_aim f is (SELECT n c e) h = refl
no_aim f is (OPEN g) h = refl
no_aim f is (END e) h = refl
no_aim f is (CASE c t d) h = let x : ◌≡◌ {A = ℕ} 0 1 = cc in absurd (omega arith)

aim_moved : (f : ℕ → ℕ) (i : Instr) (v w : ℕ) → aim_of i ≡ to v w → aim_of (relocate f i) ≡ to (f v) w
aim_moved f NONE v w h = let x : ◌≡◌ {A = ℕ} 0 1 = cc in absurd (omega arith)
aim_moved f (LIST n) v w h = let x : ◌≡◌ {A = ℕ} 0 1 = cc in absurd (omega arith)
aim_moved f (LEAVE t d) v w h = let p : t ≡ v = ap place_in h in let q : d ≡ w = ap depth_in h in ap (λ x. to (f x) d) p ∙ ap (to (f v)) q
aim_moved f (ASK n y z) v w h = let x : ◌≡◌ {A = ℕ} 0 1 = cc in absurd (omega arith)
aim_moved f (SELECT n c e) v w h = let x : ◌≡◌ {A = ℕ} 0 1 = cc in absurd (omega arith)
aim_moved f (OPEN g) v w h = let x : ◌≡◌ {A = ℕ} 0 1 = cc in absurd (omega arith)
aim_moved f (END e) v w h = let x : ◌≡◌ {A = ℕ} 0 1 = cc in absurd (omega arith)
aim_moved f (CASE c t d) v w h = let p : t ≡ v = ap place_in h in let q : d ≡ w = ap depth_in h in ap (λ x. to (f x) d) p ∙ ap (to (f v)) q

-- "Reached jumps that form or lead into a ring stay."
pub ring_stays : (is : List Instr) (i : Instr) (v w : ℕ) → aim_of i ≡ to v w → Ring is v → thread is i ≡ i
ring_stays is NONE v w h r = refl
ring_stays is (LIST n) v w h r = refl
ring_stays is (LEAVE t d) v w h r =
    let p : v ≡ t = sym (ap place_in h) in
    ap (λ a. aimed a LEAVE (LEAVE t d)) (ap (λ x. last is (suc (length is)) x d) (sym p) ∙ r (suc (length is)) d)
ring_stays is (ASK n y z) v w h r = refl
ring_stays is (SELECT n c e) v w h r = refl
ring_stays is (OPEN g) v w h r = refl
ring_stays is (END e) v w h r = refl
ring_stays is (CASE c t d) v w h r =
    let p : v ≡ t = sym (ap place_in h) in
    ap (λ a. aimed a (CASE c) (CASE c t d)) (ap (λ x. last is (suc (length is)) x d) (sym p) ∙ r (suc (length is)) d)

module _ (is : List Instr) (s : Sound is) where
  abbrev T : List Instr
  T = threaded is

  abbrev S : List ℕ
  S = reached T

  abbrev R : List Instr
  R = close_up S T

  abbrev new : ℕ → ℕ
  new = moved S T 0 0

  sound : Sound T
  sound = threaded_sound is s

  abbrev Stays : ℕ → Type 0
  Stays o = Begin T o × In S o

  find_new : (o : ℕ) → Stays o → find R 0 (new o) ≡ relocate new (thread is (find is 0 o))
  find_new o p = new_find T sound S (reached_zero T sound) (reached_closed T sound) o p ∙ ap (relocate new) (threaded_find is o)

  zero_new : (o : ℕ) → Stays o → is_zero (new o) ≡ is_zero o
  zero_new o p = zeros T sound S (reached_zero T sound) (reached_closed T sound) o p

  names_stay : (o : ℕ) → Stays o → All Stays (names (thread is (find is 0 o)))
  names_stay o p = subst (λ i. All Stays (names i)) (threaded_find is o) (stays_names T sound S (reached_zero T sound) (reached_closed T sound) o p)

  -- Where no jump stood, none stands.
  hop_none : (o : ℕ) → Stays o → hop is o ≡ None → hop R (new o) ≡ None
  unfolding hop
  hop_none o p h = ap (λ b. pick b None (aim_of (find R 0 (new o)))) (zero_new o p) ∙ go (is_zero o) h
    where
      go : (b : Bool) → pick b None (aim_of (find is 0 o)) ≡ None → pick b None (aim_of (find R 0 (new o))) ≡ None
      go true e = refl
      go false e = ap aim_of (find_new o p) ∙ no_aim new is (find is 0 o) e

  hop_some_new : (o v w : ℕ) → Stays o → is_zero o ≡ false → aim_of (find R 0 (new o)) ≡ to v w → hop R (new o) ≡ to v w
  unfolding hop
  hop_some_new o v w p z h = ap (λ b. pick b None (aim_of (find R 0 (new o)))) (zero_new o p ∙ z) ∙ h

  -- A ring stays a ring.
  ring_new : (f t d : ℕ) → Ring is t → Stays t → last R f (new t) d ≡ None
  unfolding last
  ring_new zero t d r p = refl
  ring_new (suc f) t d r p = go (ring_next is t r) (λ v e. ring_new f v e)
    where
      go : (v : ℕ) × (w : ℕ) × (hop is t ≡ to v w) × Ring is v → ((v e : ℕ) → Ring is v → Stays v → last R f (new v) e ≡ None)
          → further (last R f) (hop R (new t)) (new t) d ≡ None
      go h k =
          let m : (is_zero t ≡ false) × (aim_of (find is 0 t) ≡ to h.0 h.1) = hop_some is t h.0 h.1 h.2 in
          let i : thread is (find is 0 t) ≡ find is 0 t = ring_stays is (find is 0 t) h.0 h.1 m.1 h.3 in
          let a : aim_of (find R 0 (new t)) ≡ to (new h.0) h.1
          = ap aim_of (find_new t p ∙ ap (relocate new) i) ∙ aim_moved new (find is 0 t) h.0 h.1 m.1 in
          let v : Stays h.0 = aim_all Stays (find is 0 t) h.0 h.1 m.1 (subst (λ j. All Stays (names j)) i (names_stay t p)) in
          ap (λ x. further (last R f) x (new t) d) (hop_some_new t (new h.0) h.1 p m.0 a) ∙ k h.0 (min d h.1) h.3 v

  last_new : (f u e : ℕ) → Stays u → hop is u ≡ None → last R (suc f) (new u) e ≡ to (new u) e
  unfolding last
  last_new f u e p h = ap (λ x. further (last R f) x (new u) e) (hop_none u p h)

  again : (i : Instr) → All Stays (names (thread is i)) → thread R (relocate new (thread is i)) ≡ relocate new (thread is i)
  again NONE a = refl
  again (LIST n) a = refl
  again (LEAVE t d) a = go (last is (suc (length is)) t d) refl a
    where
      go : (b : Option Target) → last is (suc (length is)) t d ≡ b → All Stays (names (aimed b LEAVE (LEAVE t d)))
          → thread R (relocate new (aimed b LEAVE (LEAVE t d))) ≡ relocate new (aimed b LEAVE (LEAVE t d))
      go None h c = ap (λ x. aimed x LEAVE (LEAVE (new t) d)) (ring_new (suc (length R)) t d (ring is t d h) c.0)
      go (Some aim) h c = let u : ℕ = aim.place in let e : ℕ = aim.depth in ap (λ x. aimed x LEAVE (LEAVE (new u) e)) (last_new (length R) u e c.0 (last_end is (suc (length is)) t d u e h))
  again (ASK n y z) a = refl
  again (SELECT n c e) a = refl
  again (OPEN g) a = refl
  again (END e) a = refl
  again (CASE k t d) a = go (last is (suc (length is)) t d) refl a
    where
      go : (b : Option Target) → last is (suc (length is)) t d ≡ b → All Stays (names (aimed b (CASE k) (CASE k t d)))
          → thread R (relocate new (aimed b (CASE k) (CASE k t d))) ≡ relocate new (aimed b (CASE k) (CASE k t d))
      go None h c = ap (λ x. aimed x (CASE (new k)) (CASE (new k) (new t) d)) (ring_new (suc (length R)) t d (ring is t d h) c.1.0)
      go (Some aim) h c = let u : ℕ = aim.place in let e : ℕ = aim.depth in ap (λ x. aimed x (CASE (new k)) (CASE (new k) (new u) e)) (last_new (length R) u e c.1.0 (last_end is (suc (length is)) t d u e h))

  pub sound_new : Sound R
  sound_new = short_sound T sound S (reached_zero T sound) (reached_closed T sound)

  threaded_again : threaded R ≡ R
  unfolding threaded
  threaded_again = map_same (thread R) R 0 sound_new.some go
    where
      go : (x : ℕ) → Begin R x → thread R (find R 0 x) ≡ find R 0 x
      go x b =
          let h : (o : ℕ) × Stays o × (new o ≡ x) = old_of T sound S (reached_zero T sound) (reached_closed T sound) x b in
          let e : find R 0 x ≡ relocate new (thread is (find is 0 h.0)) = ap (find R 0) (sym h.2) ∙ find_new h.0 h.1 in
          ap (thread R) e ∙ again (find is 0 h.0) (names_stay h.0 h.1) ∙ sym e

  pub twice : closed_up (threaded R) ≡ R
  twice = ap closed_up threaded_again ∙ closed_again R sound_new (reached R) (all_reached T sound)

pub second_pass : (C : List ℕ) → Valid C → shorter (shorter C) ≡ shorter C
unfolding shorter
second_pass C v =
    let s : Sound (parse C) = valid_sound C v in
    let r : List Instr = closed_up (threaded (parse C)) in
    ap (λ is. flat (closed_up (threaded is))) (parse_flat r (sound_new (parse C) s).some) ∙ ap flat (twice (parse C) s)

-- What is sound is valid.
sound_fine : (P : ℕ → Bool) (is : List Instr) (p : ℕ) → AreInstrs is → ((o : ℕ) → is_none (find is p o) ≡ false → All (Yes P) (names (find is p o)))
    → ((o : ℕ) → is_none (find is p o) ≡ false → runs_on (find is p o) ≡ true → is_none (find is p (o + len (find is p o))) ≡ false) → Fine P is
sound_fine P [] p s f g = tt
sound_fine P (i ∷ is) p s f g =
    let n : is_none (find (i ∷ is) p p) ≡ false = ap is_none (find_here i is p) ∙ s.0 in (
      s.0,
      subst (λ j. All (Yes P) (names j)) (find_here i is p) (f p n),
      next n,
      sound_fine P is (p + len i) s.1
          (λ o m. subst (λ j. All (Yes P) (names j)) (later i is p s.0 o m) (f o (ap is_none (later i is p s.0 o m) ∙ m)))
          (λ o m r.
          let e : find (i ∷ is) p o ≡ find is (p + len i) o = later i is p s.0 o m in
          let l : 0 < len i = len_pos i s.0 in
          let b : p + len i ≤ o = find_low is (p + len i) o m in
          ap is_none (sym (find_there i is p (o + len (find is (p + len i) o)) (λ w. omega arith)))
          ∙ ap (λ j. is_none (find (i ∷ is) p (o + len j))) (sym e) ∙ g o (ap is_none e ∙ m) (ap runs_on e ∙ r)),
    )
  where
    next : is_none (find (i ∷ is) p p) ≡ false → runs_on i ≡ true → is_last is ≡ false
    next n r =
        let e : find (i ∷ is) p p ≡ i = find_here i is p in
        let l : 0 < len i = len_pos i s.0 in
        go is
        (ap is_none (sym (find_there i is p (p + len i) (λ w. omega arith))) ∙ ap (λ j. is_none (find (i ∷ is) p (p + len j))) (sym e) ∙ g p n (ap runs_on e ∙ r))
      where
        go : (js : List Instr) → is_none (find js (p + len i) (p + len i)) ≡ false → is_last js ≡ false
        go [] m = absurd (none_in (p + len i) (p + len i) m)
        go (j ∷ js) m = refl

sound_valid : (is : List Instr) → Sound is → Valid (flat is)
sound_valid is s =
    fine_valid is (go is s.start)
    (sound_fine (begins is 0) is 0 s.some (λ o n. all (names (find is 0 o)) (s.named o n)) s.next)
  where
    all : (xs : List ℕ) → All (Begin is) xs → All (Yes (begins is 0)) xs
    all [] a = tt
    all (x ∷ xs) a = (find_begin is 0 x a.0, all xs a.1)

    go : (js : List Instr) → is_none (find js 0 0) ≡ false → is_last js ≡ false
    go [] m = absurd (none_in 0 0 m)
    go (j ∷ js) m = refl

pub shorter_valid : (C : List ℕ) → Valid C → Valid (shorter C)
unfolding shorter
shorter_valid C v = sound_valid (closed_up (threaded (parse C))) (sound_new (parse C) (valid_sound C v))
