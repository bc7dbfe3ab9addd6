-- The last target of a kept jump behind the split, found by jumps behind the split and one of the front.
use Prim.Native.Nat.{ℕ, zero, suc, ◌+◌, ◌≤◌, ◌<◌, min}
use Rattle.std.specs.Prelude.{◌≡◌, Bool, not, ◌&&◌, ◌||◌, ltb, Option, Some, None}
use Rattle.std.proofs.Math.Path.{refl, sym, ap}
use Rattle.std.proofs.Common.{◌∙◌, subst, true≢false, lt-ltb, le-ltb, eq-eqb}
use Rattle.std.proofs.Math.Bool.{true, false}
use mathlib.Core.List.{List, [], ◌∷◌}
use Rattle.std.proofs.Math.ListN.{length}
use native.Mathlib.Omega.{arith}
use Rattle.std.proofs.Math.Decide.{dec_lt}
use Rattle.route_completion.specs.Sem.{pick, elem}
use Rattle.code_flat.specs.Machine.{Instr, NONE, LIST, LEAVE, ASK, SELECT, OPEN, END, CASE, is_zero}
use Rattle.code_valid.specs.Instrs.{parse, find, leads}
use Rattle.code_valid.specs.Valid.{Valid}
use Rattle.code_machine.specs.declared.Target.{Target}
use Rattle.code_shorten.specs.Short.{to, place_in, depth_in, aim_of, hop, further, last, aimed, thread}
use Rattle.code_shorten.specs.Longer.{total}
use Rattle.code_shorten.specs.Sound.{AreInstrs, Begin, All, len_pos}
use Rattle.code_shorten.specs.Threads.{hop_some, aim_all}
use Rattle.code_shorten.specs.Closes.{In}
use Rattle.code_shorten.specs.Reaches.{reached_closed}
use Rattle.code_shorten.specs.Rings.{Ring, ring, ring_next, last_up}
use Rattle.code_shorten.specs.Twice.{ring_stays}
use Rattle.code_shorten.specs.Laws.{Hops, last_is, is_last}
use Rattle.code_pass.specs.Stages.{sent_on, kept_places}
use Rattle.code_pass.proofs.KeptLaws.{sent_sound, sent_none}
use Rattle.code_mark.proofs.PlaceLaws.{sound, total_is, sent_find}
use Rattle.code_gather.specs.Gather.{way, follow, hop_behind, hop_sent, entry, is_jump, dropped, with_entry, target}
use Rattle.code_gather.proofs.WayLaws.{behind_hop, hop_begin}

-- There are no more instructions than numbers.
count_total : (is : List Instr) → AreInstrs is → length is ≤ total is
unfolding total
count_total [] s = omega arith
count_total (i ∷ is) s = omega (arith, count_total is s.1, len_pos i s.0)

-- A jump leads to its target alone.
aim_leads : (P : ℕ → Type 0) (p : ℕ) (i : Instr) (t d : ℕ) → aim_of i ≡ to t d → All P (leads p i) → P t
aim_leads P p NONE t d e a = let w : ◌≡◌ {A = ℕ} 0 1 = cc in absurd (omega arith)
aim_leads P p (LIST n) t d e a = let w : ◌≡◌ {A = ℕ} 0 1 = cc in absurd (omega arith)
aim_leads P p (LEAVE u x) t d e a = let w : u ≡ t = ap place_in e in subst P w a.0
aim_leads P p (ASK n y z) t d e a = let w : ◌≡◌ {A = ℕ} 0 1 = cc in absurd (omega arith)
aim_leads P p (SELECT n c x) t d e a = let w : ◌≡◌ {A = ℕ} 0 1 = cc in absurd (omega arith)
aim_leads P p (OPEN f) t d e a = let w : ◌≡◌ {A = ℕ} 0 1 = cc in absurd (omega arith)
aim_leads P p (END x) t d e a = let w : ◌≡◌ {A = ℕ} 0 1 = cc in absurd (omega arith)
aim_leads P p (CASE c u x) t d e a = let w : u ≡ t = ap place_in e in subst P w a.1.0

-- What is sent on is a jump if it was one.
pub thread_aim : (is : List Instr) (i : Instr) → is_jump (aim_of (thread is i)) ≡ is_jump (aim_of i)
thread_aim is NONE = refl
thread_aim is (LIST n) = refl
thread_aim is (LEAVE t d) = go (last is (suc (length is)) t d)
  where
    go : (a : Option Target) → is_jump (aim_of (aimed a LEAVE (LEAVE t d))) ≡ true
    go None = refl
    go (Some aim) = refl
thread_aim is (ASK n y z) = refl
thread_aim is (SELECT n c e) = refl
thread_aim is (OPEN f) = refl
thread_aim is (END e) = refl
thread_aim is (CASE c t d) = go (last is (suc (length is)) t d)
  where
    go : (a : Option Target) → is_jump (aim_of (aimed a (CASE c) (CASE c t d))) ≡ true
    go None = refl
    go (Some aim) = refl

abbrev sends : Option Target → Option Target → Option Target
sends None a = a
sends (Some aim) a = to aim.place aim.depth

-- It goes to the last target, or stays in a ring.
thread_to : (is : List Instr) (i : Instr) (a b : ℕ) → aim_of i ≡ to a b → (x : Option Target) → last is (suc (length is)) a b ≡ x → aim_of (thread is i) ≡ sends x (to a b)
thread_to is NONE a b h x q = let w : ◌≡◌ {A = ℕ} 0 1 = cc in absurd (omega arith)
thread_to is (LIST n) a b h x q = let w : ◌≡◌ {A = ℕ} 0 1 = cc in absurd (omega arith)
thread_to is (LEAVE t d) a b h x q =
    let p : t ≡ a = ap place_in h in let r : d ≡ b = ap depth_in h in
    (λ j. aim_of (aimed (last is (suc (length is)) (p j) (r j)) LEAVE (LEAVE (p j) (r j)))) ∙ ap (λ y. aim_of (aimed y LEAVE (LEAVE a b))) q ∙ go x
  where
    go : (y : Option Target) → aim_of (aimed y LEAVE (LEAVE a b)) ≡ sends y (to a b)
    go None = refl
    go (Some aim) = refl
thread_to is (ASK n y z) a b h x q = let w : ◌≡◌ {A = ℕ} 0 1 = cc in absurd (omega arith)
thread_to is (SELECT n c e) a b h x q = let w : ◌≡◌ {A = ℕ} 0 1 = cc in absurd (omega arith)
thread_to is (OPEN f) a b h x q = let w : ◌≡◌ {A = ℕ} 0 1 = cc in absurd (omega arith)
thread_to is (END e) a b h x q = let w : ◌≡◌ {A = ℕ} 0 1 = cc in absurd (omega arith)
thread_to is (CASE c t d) a b h x q =
    let p : t ≡ a = ap place_in h in let r : d ≡ b = ap depth_in h in
    (λ j. aim_of (aimed (last is (suc (length is)) (p j) (r j)) (CASE c) (CASE c (p j) (r j)))) ∙ ap (λ y. aim_of (aimed y (CASE c) (CASE c a b))) q ∙ go x
  where
    go : (y : Option Target) → aim_of (aimed y (CASE c) (CASE c a b)) ≡ sends y (to a b)
    go None = refl
    go (Some aim) = refl

-- Jumps one after another.
hops_more : (is : List Instr) (n m t d u e x y : ℕ) → Hops is n t d u e → Hops is m u e x y → (k : ℕ) × Hops is k t d x y
hops_more is zero m t d u e x y h g = (m, subst (λ w. Hops is m w d x y) (sym h.0) (subst (λ w. Hops is m u w x y) (sym h.1) g))
hops_more is (suc n) m t d u e x y h g =
    let r : (k : ℕ) × Hops is k h.0 (min d h.1) x y = hops_more is n m h.0 (min d h.1) u e x y h.3 g in
    (suc r.0, (h.0, h.1, h.2, r.1))

hops_low : (is : List Instr) (n t d u e c : ℕ) → Hops is n t d u e → Hops is n t (min c d) u (min c e)
hops_low is zero t d u e c h = (h.0, ap (min c) h.1)
hops_low is (suc n) t d u e c h =
    let z : min c (min d h.1) ≡ min (min c d) h.1 = omega arith in
    (h.0, h.1, h.2, subst (λ w. Hops is n h.0 w u (min c e)) z (hops_low is n h.0 (min d h.1) u e c h.3))

-- What leads into a ring.
ring_before : (is : List Instr) (t v w : ℕ) → hop is t ≡ to v w → Ring is v → Ring is t
unfolding last
ring_before is t v w h r zero d = refl
ring_before is t v w h r (suc f) d = ap (λ a. further (last is f) a t d) h ∙ r f (min d w)

ring_back : (is : List Instr) (n t d u e : ℕ) → Hops is n t d u e → Ring is u → Ring is t
ring_back is zero t d u e h r = subst (Ring is) (sym h.0) r
ring_back is (suc n) t d u e h r = ring_before is t h.0 h.1 h.2 (ring_back is n h.0 (min d h.1) u e h.3 r)

ring_hops : (is : List Instr) (t : ℕ) → Ring is t → hop is t ≡ None → ⊥
ring_hops is t r h =
    let x : (v : ℕ) × (w : ℕ) × (hop is t ≡ to v w) × Ring is v = ring_next is t r in
    let q : None ≡ to x.0 x.1 = sym h ∙ x.2 in let z : ◌≡◌ {A = ℕ} 0 1 = cc in omega arith

-- A dropped jump where one enters is needed.
pub entry_in : (C : List ℕ) (split : ℕ) (xs : List ℕ) (t d : ℕ) → dropped C split t ≡ true → In (with_entry C split (to t d) xs) t
entry_in C split xs t d q = ap (λ c. elem t (pick (c && not (elem t xs)) (t ∷ xs) xs)) q ∙ go (elem t xs) refl
  where
    here : elem t (t ∷ xs) ≡ true
    here = ap (λ c. c || elem t xs) (eq-eqb t t refl)

    go : (c : Bool) → elem t xs ≡ c → elem t (pick (not c) (t ∷ xs) xs) ≡ true
    go true e = e
    go false e = here

module _ (C : List ℕ) (v : Valid C) (split : ℕ) where
  abbrev is : List Instr
  is = parse C

  abbrev S : List ℕ
  S = kept_places C

  -- The way behind the split is of jumps of the code.
  way_hops : (n t d u e : ℕ) → way (hop_behind C split) n t d ≡ to u e → ((k : ℕ) × Hops is k t d u e) × (hop_behind C split u ≡ None)
  unfolding way
  way_hops zero t d u e h = let x : ◌≡◌ {A = ℕ} 0 1 = cc in absurd (omega arith)
  way_hops (suc n) t d u e h = go (hop_behind C split t) refl h (λ y x. way_hops n y x u e)
    where
      go : (a : Option Target) → hop_behind C split t ≡ a → further (way (hop_behind C split) n) a t d ≡ to u e
          → ((y x : ℕ) → way (hop_behind C split) n y x ≡ to u e → ((k : ℕ) × Hops is k y x u e) × (hop_behind C split u ≡ None))
          → ((k : ℕ) × Hops is k t d u e) × (hop_behind C split u ≡ None)
      go None q m k = let x : t ≡ u = ap place_in m in let y : d ≡ e = ap depth_in m in ((0, (x, y)), ap (hop_behind C split) (sym x) ∙ q)
      go (Some aim) q m k = let y : ℕ = aim.place in let w : ℕ = aim.depth in
          let x : (ltb t split ≡ false) × (hop is t ≡ to y w) = behind_hop (ltb t split) (hop is t) y w q in
          let r : ((k : ℕ) × Hops is k y (min d w) u e) × (hop_behind C split u ≡ None) = k y (min d w) m in
          ((suc r.0.0, (y, w, x.1, r.0.1)), r.1)

  way_none : (n t d : ℕ) → way (hop_behind C split) n t d ≡ None → last is n t d ≡ None
  unfolding way last
  way_none zero t d h = refl
  way_none (suc n) t d h = go (hop_behind C split t) refl h (λ y x. way_none n y x)
    where
      go : (a : Option Target) → hop_behind C split t ≡ a → further (way (hop_behind C split) n) a t d ≡ None
          → ((y x : ℕ) → way (hop_behind C split) n y x ≡ None → last is n y x ≡ None) → further (last is n) (hop is t) t d ≡ None
      go None q m k = let x : to t d ≡ None = m in let z : ◌≡◌ {A = ℕ} 0 1 = cc in absurd (omega arith)
      go (Some aim) q m k = let y : ℕ = aim.place in let w : ℕ = aim.depth in
          let x : (ltb t split ≡ false) × (hop is t ≡ to y w) = behind_hop (ltb t split) (hop is t) y w q in
          ap (λ a. further (last is n) a t d) x.1 ∙ k y (min d w) m

  last_none : (t d : ℕ) → last is (length C + 1) t d ≡ None → last is (suc (length is)) t d ≡ None
  last_none t d h = go (last is (suc (length is)) t d) refl
    where
      go : (a : Option Target) → last is (suc (length is)) t d ≡ a → a ≡ None
      go None q = refl
      go (Some aim) q =
          let n : length is ≤ total is = count_total is (sound C v).some in
          let x : None ≡ to aim.place aim.depth = sym h ∙ last_up is (length C + 1) (suc (length is)) t d aim.place aim.depth (omega (arith, total_is C v)) q in
          let z : ◌≡◌ {A = ℕ} 0 1 = cc in absurd (omega arith)

  begins_on : (n t d u e : ℕ) → Hops is n t d u e → Begin is t → Begin is u
  begins_on zero t d u e h b = subst (Begin is) h.0 b
  begins_on (suc n) t d u e h b = begins_on n h.0 (min d h.1) u e h.3 (hop_begin C v t h.0 h.1 h.2 b)

  -- On the way of a kept jump to a ring, all is kept.
  ring_kept : (o t d : ℕ) → Begin is o → In S o → aim_of (find is 0 o) ≡ to t d → Ring is t → In S t
  ring_kept o t d b k h r =
      let s : find (sent_on C) 0 o ≡ find is 0 o = sent_find C v o ∙ ring_stays is (find is 0 o) t d h r in
      aim_leads (In S) o (find (sent_on C) 0 o) t d (ap aim_of s ∙ h) (reached_closed (sent_on C) (sent_sound C v) o (sent_none C v o ∙ b) k)

  kept_on : (n t d u e : ℕ) → Hops is n t d u e → Begin is t → (Ring is t → In S t) → Ring is u → In S u
  kept_on zero t d u e h b k r = subst (In S) h.0 (k (subst (Ring is) (sym h.0) r))
  kept_on (suc n) t d u e h b k r =
      kept_on n h.0 (min d h.1) u e h.3 (hop_begin C v t h.0 h.1 h.2 b)
      (λ q. ring_kept t h.0 h.1 b (k (ring_before is t h.0 h.1 h.2 q)) (hop_some is t h.0 h.1 h.2).1 q) r

  -- A jump of the front, sent on: none, or it was a jump and ..
  sent_some : (t x y : ℕ) → hop_sent C split t ≡ to x y → (t < split) × (hop is t ≡ None → ⊥) × ((a : ℕ) × (b : ℕ) × (hop is t ≡ to a b) × (sends (last is (suc (length is)) a b) (to a b) ≡ to x y))
  unfolding hop
  sent_some t x y h = go (dec_lt t split)
    where
      i : Instr
      i = find is 0 t

      at : (z : Bool) → pick z None (aim_of (find (sent_on C) 0 t)) ≡ to x y → (a : ℕ) × (b : ℕ) × (pick z None (aim_of i) ≡ to a b) × (sends (last is (suc (length is)) a b) (to a b) ≡ to x y)
      at true e = let w : ◌≡◌ {A = ℕ} 0 1 = cc in absurd (omega arith)
      at false e = try (aim_of i) refl
        where
          try : (a : Option Target) → aim_of i ≡ a → (a : ℕ) × (b : ℕ) × (aim_of i ≡ to a b) × (sends (last is (suc (length is)) a b) (to a b) ≡ to x y)
          try None q =
              let r : false ≡ true = ap is_jump (sym q) ∙ sym (thread_aim is i) ∙ ap (λ j. is_jump (aim_of j)) (sym (sent_find C v t)) ∙ ap is_jump e in
              absurd (true≢false (sym r))
          try (Some aim) q =
              (aim.place, aim.depth, q, sym (thread_to is i aim.place aim.depth q (last is (suc (length is)) aim.place aim.depth) refl) ∙ ap aim_of (sym (sent_find C v t)) ∙ e)

      go : Dec (t < split) → (t < split) × (hop is t ≡ None → ⊥) × ((a : ℕ) × (b : ℕ) × (hop is t ≡ to a b) × (sends (last is (suc (length is)) a b) (to a b) ≡ to x y))
      go (no l) =
          let q : None ≡ to x y = sym (ap (λ c. pick c (pick (is_zero t) None (aim_of (find (sent_on C) 0 t))) None) (le-ltb t split (omega arith))) ∙ h in
          let w : ◌≡◌ {A = ℕ} 0 1 = cc in absurd (omega arith)
      go (yes l) =
          let r = at (is_zero t) (sym (ap (λ c. pick c (pick (is_zero t) None (aim_of (find (sent_on C) 0 t))) None) (lt-ltb t split l)) ∙ h) in
          (l, (λ q. let w : None ≡ to r.0 r.1 = sym q ∙ r.2 in let z : ◌≡◌ {A = ℕ} 0 1 = cc in omega arith), r)

  sent_nowhere : (t : ℕ) → hop_sent C split t ≡ None → hop_behind C split t ≡ None → hop is t ≡ None
  unfolding hop
  sent_nowhere t h g = go (dec_lt t split)
    where
      i : Instr
      i = find is 0 t

      at : (z : Bool) → pick z None (aim_of (find (sent_on C) 0 t)) ≡ None → pick z None (aim_of i) ≡ None
      at true e = refl
      at false e = try (aim_of i) refl
        where
          try : (a : Option Target) → aim_of i ≡ a → aim_of i ≡ None
          try None q = q
          try (Some aim) q =
              let r : true ≡ false = ap is_jump (sym q) ∙ sym (thread_aim is i) ∙ ap (λ j. is_jump (aim_of j)) (sym (sent_find C v t)) ∙ ap is_jump e in
              absurd (true≢false r)

      go : Dec (t < split) → pick (is_zero t) None (aim_of i) ≡ None
      go (yes l) = at (is_zero t) (sym (ap (λ c. pick c (pick (is_zero t) None (aim_of (find (sent_on C) 0 t))) None) (lt-ltb t split l)) ∙ h)
      go (no l) = sym (ap (λ c. pick c None (pick (is_zero t) None (aim_of i))) (le-ltb t split (omega arith))) ∙ g

  module _ (p : ℕ) (b : Begin is p) (k : In S p) where
    abbrev jump : Instr
    jump = find is 0 p

    -- The way of the kept jump at p.
    pub record Way (t d : ℕ) : Type 0 where
      pub from : ℕ
      pub at : ℕ
      pub aim : aim_of (find (parse C) 0 p) ≡ to from at
      pub hops : (n : ℕ) × Hops (parse C) n from at t d
      pub begun : Begin (parse C) from
      pub ends : hop_behind C split t ≡ None

    start : (a : Option Target) (t d : ℕ) → aim_of jump ≡ a → follow (way (hop_behind C split) (length C + 1)) a ≡ to t d → Way t d
    start None t d q h = let z : ◌≡◌ {A = ℕ} 0 1 = cc in absurd (omega arith)
    start (Some aim) t d q h =
        let r = way_hops (length C + 1) aim.place aim.depth t d h in
        record { from = aim.place; at = aim.depth; aim = q; hops = r.0; begun = aim_all (Begin is) jump aim.place aim.depth q ((sound C v).named p b); ends = r.1 }

    entry_is : entry C split p jump ≡ follow (way (hop_behind C split) (length C + 1)) (aim_of jump)
    unfolding entry
    entry_is = ap (λ c. pick c (follow (way (hop_behind C split) (length C + 1)) (aim_of jump)) None) k

    pub entry_way : (t d : ℕ) → entry C split p jump ≡ to t d → Way t d
    entry_way t d h = start (aim_of jump) t d refl (sym entry_is ∙ h)

    -- No entry: no jump, or a ring behind the split.
    pub target_none : entry C split p jump ≡ None → target C jump ≡ None
    target_none h = go (aim_of jump) refl (sym entry_is ∙ h)
      where
        go : (a : Option Target) → aim_of jump ≡ a → follow (way (hop_behind C split) (length C + 1)) a ≡ None → follow (last is (suc (length is))) a ≡ None
        go None q m = refl
        go (Some aim) q m = last_none aim.place aim.depth (way_none (length C + 1) aim.place aim.depth m)

    target_by : (t d : ℕ) → (w : Way t d) → target C jump ≡ last is (suc (length is)) w.from w.at
    target_by t d w = ap (follow (last is (suc (length is)))) w.aim

    -- No jump stands at the entry: it is the last target.
    pub target_end : (t d : ℕ) → entry C split p jump ≡ to t d → hop_sent C split t ≡ None → target C jump ≡ to t d
    target_end t d h g =
        let w : Way t d = entry_way t d h in
        target_by t d w ∙ last_is is w.hops.0 w.from w.at t d w.hops.1 (sent_nowhere t g w.ends)

    pub entry_begin : (t d : ℕ) → entry C split p jump ≡ to t d → Begin is t
    entry_begin t d h = let w : Way t d = entry_way t d h in begins_on w.hops.0 w.from w.at t d w.hops.1 w.begun

    -- A jump of the front stands there. It is sent on to its last target, or stays in a ring.
    module _ (t d x y : ℕ) (h : entry C split p jump ≡ to t d) (g : hop_sent C split t ≡ to x y) where
      w : Way t d
      w = entry_way t d h

      case : (P : Type 0) → ((n : ℕ) → Hops is n t d x (min d y) → hop is x ≡ None → P) → (Ring is x → Ring is t → hop is t ≡ to x y → P) → P
      case P f r =
          let s = (sent_some t x y g).2 in
          go s.0 s.1 s.2 (last is (suc (length is)) s.0 s.1) refl s.3
        where
          go : (a c : ℕ) → hop is t ≡ to a c → (z : Option Target) → last is (suc (length is)) a c ≡ z → sends (last is (suc (length is)) a c) (to a c) ≡ to x y → P
          go a c j None q m =
              let e : to a c ≡ to x y = sym (ap (λ o. sends o (to a c)) q) ∙ m in
              let ex : a ≡ x = ap place_in e in let ey : c ≡ y = ap depth_in e in
              let o : Ring is a = ring is a c q in
              r (subst (Ring is) ex o) (ring_before is t a c j o) (j ∙ e)
          go a c j (Some aim) q m =
              let e : to aim.place aim.depth ≡ to x y = sym (ap (λ o. sends o (to a c)) q) ∙ m in
              let l = is_last is a c x y (q ∙ e) in
              f (suc l.0.0) (a, c, j, hops_low is l.0.0 a c x y d l.0.1) l.1

      -- If a jump stands where it leads, that is kept.
      pub next_begin : Begin is x
      next_begin =
          let s = (sent_some t x y g).2 in
          let bt : Begin is t = entry_begin t d h in
          case (Begin is x) (λ n l z. begins_on n t d x (min d y) l bt) (λ rx rt j. hop_begin C v t x y j bt)

      pub next_kept : is_jump (hop is x) ≡ true → In S x
      next_kept j =
          case (In S x) (λ n l z. absurd (true≢false (sym (sym (ap is_jump z) ∙ j))))
          (λ rx rt m. ring_kept t x y (entry_begin t d h) (kept_on w.hops.0 w.from w.at t d w.hops.1 w.begun (λ q. ring_kept p w.from w.at b k w.aim q) rt) (hop_some is t x y m).1 rx)

      pub target_ring : is_jump (hop is x) ≡ true → target C jump ≡ None
      target_ring j =
          case (target C jump ≡ None) (λ n l z. absurd (true≢false (sym (sym (ap is_jump z) ∙ j))))
          (λ rx rt m. target_by t d w ∙ ring_back is w.hops.0 w.from w.at t d w.hops.1 rt (suc (length is)) w.at)

      pub target_on : is_jump (hop is x) ≡ false → target C jump ≡ to x (min d y)
      target_on j =
          case (target C jump ≡ to x (min d y))
          (λ n l z. let r = hops_more is w.hops.0 n w.from w.at t d x (min d y) w.hops.1 l in target_by t d w ∙ last_is is r.0 w.from w.at x (min d y) r.1 z)
          (λ rx rt m. absurd (ring_hops is x rx (none (hop is x) refl)))
        where
          none : (a : Option Target) → hop is x ≡ a → a ≡ None
          none None q = refl
          none (Some aim) q = absurd (true≢false (sym (ap is_jump q) ∙ j))

    pub entry_needed : (xs : List ℕ) (t d : ℕ) → entry C split p jump ≡ to t d → dropped C split t ≡ true → In (with_entry C split (entry C split p jump) xs) t
    entry_needed xs t d h q = ap (λ a. elem t (with_entry C split a xs)) h ∙ entry_in C split xs t d q
