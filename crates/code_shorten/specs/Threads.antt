-- A code whose jumps are sent to their last targets runs as the code does, and is sound if that is.
use Rattle.std.specs.Prelude.{ℕ, zero, suc, ◌+◌, min, ◌≡◌, refl, Bool, true, false, List, [], ◌∷◌, map, length, eqb, Option, Some, None}
use Rattle.std.proofs.Math.Path.{sym, ap, subst}
use Rattle.std.proofs.Common.{◌∙◌, true≢false, arith}
use Rattle.route_completion.specs.Sem.{pick}
use Rattle.code_flat.specs.Machine.{Instr, NONE, LIST, LEAVE, ASK, SELECT, OPEN, END, CASE, fetch, is_zero}
use Rattle.code_flat.specs.Machine.{is_none}
use Rattle.code_flat.specs.Forward.{run}
use Rattle.code_valid.specs.Instrs.{len, flat, find, names, runs_on}
use Rattle.code_machine.specs.declared.Target.{Target}
use Rattle.code_shorten.specs.Short.{to, place_in, depth_in, aim_of, hop, further, last, aimed, thread, threaded}
use Rattle.code_shorten.specs.Longer.{thread_length}
use Rattle.code_shorten.specs.Reads.{fetched}
use Rattle.code_shorten.specs.Unwinds.{Way, Ahead}
use Rattle.code_shorten.specs.Alike.{Kept, Does, alike}
use Rattle.code_shorten.specs.Sound.{AreInstrs, Begin, All, Sound}

pub thread_none : (all : List Instr) (i : Instr) → is_none (thread all i) ≡ is_none i
thread_none all NONE = refl
thread_none all (LIST n) = refl
thread_none all (LEAVE t d) = go (last all (suc (length all)) t d)
  where
    go : (a : Option Target) → is_none (aimed a LEAVE (LEAVE t d)) ≡ false
    go None = refl
    go (Some aim) = refl
thread_none all (ASK n y z) = refl
thread_none all (SELECT n c e) = refl
thread_none all (OPEN f) = refl
thread_none all (END e) = refl
thread_none all (CASE c t d) = go (last all (suc (length all)) t d)
  where
    go : (a : Option Target) → is_none (aimed a (CASE c) (CASE c t d)) ≡ false
    go None = refl
    go (Some aim) = refl

thread_runs : (all : List Instr) (i : Instr) → runs_on (thread all i) ≡ runs_on i
thread_runs all NONE = refl
thread_runs all (LIST n) = refl
thread_runs all (LEAVE t d) = go (last all (suc (length all)) t d)
  where
    go : (a : Option Target) → runs_on (aimed a LEAVE (LEAVE t d)) ≡ false
    go None = refl
    go (Some aim) = refl
thread_runs all (ASK n y z) = refl
thread_runs all (SELECT n c e) = refl
thread_runs all (OPEN f) = refl
thread_runs all (END e) = refl
thread_runs all (CASE c t d) = go (last all (suc (length all)) t d)
  where
    go : (a : Option Target) → runs_on (aimed a (CASE c) (CASE c t d)) ≡ false
    go None = refl
    go (Some aim) = refl

map_find : (all is : List Instr) (p o : ℕ) → find (map (thread all) is) p o ≡ thread all (find is p o)
unfolding find
map_find all [] p o = refl
map_find all (i ∷ is) p o =
    ap (λ l. pick (eqb p o) (thread all i) (find (map (thread all) is) (p + l) o)) (thread_length all i)
    ∙ ap (λ j. pick (eqb p o) (thread all i) j) (map_find all is (p + len i) o) ∙ go (eqb p o)
  where
    go : (b : Bool) → pick b (thread all i) (thread all (find is (p + len i) o)) ≡ thread all (pick b i (find is (p + len i) o))
    go true = refl
    go false = refl

pub threaded_find : (is : List Instr) (o : ℕ) → find (threaded is) 0 o ≡ thread is (find is 0 o)
unfolding threaded
threaded_find is o = map_find is is 0 o

threaded_begin : (is : List Instr) (o : ℕ) → is_none (find (threaded is) 0 o) ≡ is_none (find is 0 o)
threaded_begin is o = ap is_none (threaded_find is o) ∙ thread_none is (find is 0 o)

pub aim_some : (i : Instr) (t d : ℕ) → aim_of i ≡ to t d → is_none i ≡ false
aim_some NONE t d e = let w : ◌≡◌ {A = ℕ} 0 1 = cc in absurd (omega arith)
aim_some (LIST n) t d e = refl
aim_some (LEAVE u x) t d e = refl
aim_some (ASK n y z) t d e = refl
aim_some (SELECT n c x) t d e = refl
aim_some (OPEN f) t d e = refl
aim_some (END x) t d e = refl
aim_some (CASE c u x) t d e = refl

pub aim_all : (P : ℕ → Type 0) (i : Instr) (t d : ℕ) → aim_of i ≡ to t d → All P (names i) → P t
aim_all P NONE t d e a = let w : ◌≡◌ {A = ℕ} 0 1 = cc in absurd (omega arith)
aim_all P (LIST n) t d e a = let w : ◌≡◌ {A = ℕ} 0 1 = cc in absurd (omega arith)
aim_all P (LEAVE u x) t d e a = let w : u ≡ t = ap place_in e in subst P w a.0
aim_all P (ASK n y z) t d e a = let w : ◌≡◌ {A = ℕ} 0 1 = cc in absurd (omega arith)
aim_all P (SELECT n c x) t d e a = let w : ◌≡◌ {A = ℕ} 0 1 = cc in absurd (omega arith)
aim_all P (OPEN f) t d e a = let w : ◌≡◌ {A = ℕ} 0 1 = cc in absurd (omega arith)
aim_all P (END x) t d e a = let w : ◌≡◌ {A = ℕ} 0 1 = cc in absurd (omega arith)
aim_all P (CASE c u x) t d e a = let w : u ≡ t = ap place_in e in subst P w a.1.0

pub hop_some : (is : List Instr) (t v w : ℕ) → hop is t ≡ to v w → (is_zero t ≡ false) × (aim_of (find is 0 t) ≡ to v w)
unfolding hop
hop_some is t v w h = go (is_zero t) h
  where
    go : (b : Bool) → pick b None (aim_of (find is 0 t)) ≡ to v w → (b ≡ false) × (aim_of (find is 0 t) ≡ to v w)
    go true e = let x : ◌≡◌ {A = ℕ} 0 1 = cc in absurd (omega arith)
    go false e = (refl, e)

-- The last target is come to by jumps.
last_way : (is : List Instr) (f t d u e : ℕ) → last is f t d ≡ to u e → (n : ℕ) × Way (flat is) n t d u e
unfolding last
last_way is zero t d u e h = let x : ◌≡◌ {A = ℕ} 0 1 = cc in absurd (omega arith)
last_way is (suc f) t d u e h = go (hop is t) refl h (λ v w. last_way is f v w u e)
  where
    go : (a : Option Target) → hop is t ≡ a → further (last is f) a t d ≡ to u e → ((v w : ℕ) → last is f v w ≡ to u e → (n : ℕ) × Way (flat is) n v w u e) → (n : ℕ) × Way (flat is) n t d u e
    go None q m k = let x : t ≡ u = ap place_in m in let y : d ≡ e = ap depth_in m in (0, (x, y))
    go (Some aim) q m k = let v : ℕ = aim.place in let w : ℕ = aim.depth in
        let r : (n : ℕ) × Way (flat is) n v (min d w) u e = k v (min d w) m in
        let s : (is_zero t ≡ false) × (aim_of (find is 0 t) ≡ to v w) = hop_some is t v w q in
        (suc r.0, (v, w, s.0, ap aim_of (fetched is t (aim_some (find is 0 t) v w s.1)) ∙ s.1, r.1))

pub last_begin : (is : List Instr) → Sound is → (f t d u e : ℕ) → Begin is t → last is f t d ≡ to u e → Begin is u
unfolding last
last_begin is s zero t d u e b h = let x : ◌≡◌ {A = ℕ} 0 1 = cc in absurd (omega arith)
last_begin is s (suc f) t d u e b h = go (hop is t) refl h (λ v w. last_begin is s f v w u e)
  where
    go : (a : Option Target) → hop is t ≡ a → further (last is f) a t d ≡ to u e → ((v w : ℕ) → Begin is v → last is f v w ≡ to u e → Begin is u) → Begin is u
    go None q m k = let x : t ≡ u = ap place_in m in subst (Begin is) x b
    go (Some aim) q m k = let v : ℕ = aim.place in let w : ℕ = aim.depth in k v (min d w) (aim_all (Begin is) (find is 0 t) v w (hop_some is t v w q).1 (s.named t b)) m

module _ (is : List Instr) (s : Sound is) where
  stays : (t d : ℕ) → Begin is t → Ahead (flat is) (Begin is) (λ x. x) t d t d
  stays t d b = record { holds = b; hops = 0; last = t; way = (refl, refl); moved = refl }

  sent : (t d u e : ℕ) → Begin is t → last is (suc (length is)) t d ≡ to u e → Ahead (flat is) (Begin is) (λ x. x) t d u e
  sent t d u e b h =
      let r : (n : ℕ) × Way (flat is) n t d u e = last_way is (suc (length is)) t d u e h in
      record { holds = b; hops = r.0; last = u; way = r.1; moved = refl }

  does_it : (o : ℕ) (i : Instr) → is_none i ≡ false → All (Begin is) (names i) → (runs_on i ≡ true → Begin is (o + len i)) → Does (flat is) (Begin is) (λ x. x) o i (thread is i)
  does_it o NONE n a r = absurd (true≢false n)
  does_it o (LIST x) n a r = (refl, r refl, refl)
  does_it o (LEAVE t d) n a r = go (last is (suc (length is)) t d) refl
    where
      go : (b : Option Target) → last is (suc (length is)) t d ≡ b → Does (flat is) (Begin is) (λ x. x) o (LEAVE t d) (aimed b LEAVE (LEAVE t d))
      go None e = (t, d, refl, stays t d a.0)
      go (Some aim) e = let u : ℕ = aim.place in let w : ℕ = aim.depth in (u, w, refl, sent t d u w a.0 e)
  does_it o (ASK x y z) n a r = (refl, a.0, a.1.0)
  does_it o (SELECT x c e) n a r = (refl, a.0, a.1.0)
  does_it o (OPEN f) n a r = (refl, a.0, r refl, refl)
  does_it o (END e) n a r = refl
  does_it o (CASE c t d) n a r = go (last is (suc (length is)) t d) refl
    where
      go : (b : Option Target) → last is (suc (length is)) t d ≡ b → Does (flat is) (Begin is) (λ x. x) o (CASE c t d) (aimed b (CASE c) (CASE c t d))
      go None e = (t, d, refl, a.0, stays t d a.1.0)
      go (Some aim) e = let u : ℕ = aim.place in let w : ℕ = aim.depth in (u, w, refl, a.0, sent t d u w a.1.0 e)

  does : (o : ℕ) → Begin is o → Does (flat is) (Begin is) (λ x. x) o (fetch (flat is) o) (fetch (flat (threaded is)) o)
  does o b =
      subst (λ i. Does (flat is) (Begin is) (λ x. x) o i (fetch (flat (threaded is)) o)) (sym (fetched is o b))
      (subst (λ j. Does (flat is) (Begin is) (λ x. x) o (find is 0 o) j) (sym (fetched (threaded is) o (threaded_begin is o ∙ b) ∙ threaded_find is o))
      (does_it o (find is 0 o) b (s.named o b) (s.next o b)))

  -- The forward machine runs the threaded code alike.
  pub threaded_runs : (lim : ℕ) (qs : List ℕ) → Kept (run lim (flat is) 0 [] qs) → run lim (flat (threaded is)) 0 [] qs ≡ run lim (flat is) 0 [] qs
  threaded_runs lim qs w = alike lim (flat is) (flat (threaded is)) (Begin is) (λ x. x) (λ a b p q. refl) (λ o p. refl) does s.start qs w

  map_some : (js : List Instr) → AreInstrs js → AreInstrs (map (thread is) js)
  map_some [] h = tt
  map_some (j ∷ js) h = (thread_none is j ∙ h.0, map_some js h.1)

  over : (o : ℕ) → Begin is o → Begin (threaded is) o
  over o b = threaded_begin is o ∙ b

  names_over : (i : Instr) → All (Begin is) (names i) → All (Begin (threaded is)) (names (thread is i))
  names_over NONE a = tt
  names_over (LIST x) a = tt
  names_over (LEAVE t d) a = go (last is (suc (length is)) t d) refl
    where
      go : (b : Option Target) → last is (suc (length is)) t d ≡ b → All (Begin (threaded is)) (names (aimed b LEAVE (LEAVE t d)))
      go None e = (over t a.0, tt)
      go (Some aim) e = let u : ℕ = aim.place in let w : ℕ = aim.depth in (over u (last_begin is s (suc (length is)) t d u w a.0 e), tt)
  names_over (ASK x y z) a = (over y a.0, (over z a.1.0, tt))
  names_over (SELECT x c e) a = (over c a.0, (over e a.1.0, tt))
  names_over (OPEN f) a = (over f a.0, tt)
  names_over (END e) a = tt
  names_over (CASE c t d) a = go (last is (suc (length is)) t d) refl
    where
      go : (b : Option Target) → last is (suc (length is)) t d ≡ b → All (Begin (threaded is)) (names (aimed b (CASE c) (CASE c t d)))
      go None e = (over c a.0, (over t a.1.0, tt))
      go (Some aim) e = let u : ℕ = aim.place in let w : ℕ = aim.depth in (over c a.0, (over u (last_begin is s (suc (length is)) t d u w a.1.0 e), tt))

  pub threaded_sound : Sound (threaded is)
  unfolding threaded
  threaded_sound =
      record {
        some = map_some is s.some;
        start = over 0 s.start;
        named = λ o b. subst (λ i. All (Begin (threaded is)) (names i)) (sym (threaded_find is o)) (names_over (find is 0 o) (s.named o (sym (threaded_begin is o) ∙ b)));
        next = λ o b r.
            let c : Begin is o = sym (threaded_begin is o) ∙ b in
            let l : len (find (threaded is) 0 o) ≡ len (find is 0 o) = ap len (threaded_find is o) ∙ thread_length is (find is 0 o) in
            subst (λ n. Begin (threaded is) (o + n)) (sym l)
            (over (o + len (find is 0 o)) (s.next o c (sym (thread_runs is (find is 0 o)) ∙ ap runs_on (sym (threaded_find is o)) ∙ r)));
      }
