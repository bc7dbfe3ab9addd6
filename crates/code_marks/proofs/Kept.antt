-- A run from a place where an instruction begins stays at such places, in every code whose instructions lead only to them.
use Prim.Native.Nat.{ℕ, zero, suc, ◌+◌, ◌<◌}
use Rattle.std.specs.Prelude.{◌≡◌, Bool, ◌&&◌, length, get_or, ltb, eqb}
use Rattle.std.proofs.Math.Path.{refl}
use Rattle.std.proofs.Common.{sym, ap, subst, true≢false, inl, inr, ltb-true, eqb-true, arith}
use Rattle.std.proofs.Math.Bool.{true, false}
use mathlib.Core.List.{List, [], ◌∷◌}
use Rattle.route_completion.specs.Sem.{Entry, plain, asked, pick, is_yes}
use Rattle.route_completion.specs.Ends as run_end
use Rattle.code_flat.specs.Machine.{Instr, NONE, LIST, LEAVE, ASK, SELECT, OPEN, END, CASE, decode, fetch, Frame, open', pend, Pos, pos, is_zero, unwind, is_case, chase}
use Rattle.code_flat.specs.Leg.{Leg, ends, waits, before, leg_jump, leg_step, leg}
use Rattle.code_marks.specs.Stop.{Stop, held, over, after, behind, stops}
use Rattle.code_marks.proofs.Sound.{OrNone, Leads}

-- The pending ends lead to T too.
abbrev pub Frames : (ℕ → Type 0) → List Frame → Type 0
Frames T [] = Unit {0}
Frames T (open' f ∷ K) = T f × Frames T K
Frames T (pend t d ∷ K) = OrNone T t × Frames T K

abbrev pub StopAt : (ℕ → Type 0) → Stop → Type 0
StopAt T (held es p r) = T p.pc × Frames T p.stack
StopAt T (over r) = Unit {0}

abbrev LegAt : (ℕ → Type 0) → Leg → Type 0
LegAt T (ends es e) = Unit {0}
LegAt T (waits es n f K) = ((a : ℕ) → T (f a)) × Frames T K

module _ (T : ℕ → Type 0) where
  abbrev At : Pos → Type 0
  At p = OrNone T p.pc × Frames T p.stack

  unwind_at : (K : List Frame) (t d : ℕ) → Frames T K → OrNone T t → At (unwind K t d)
  unfolding unwind
  unwind_at [] t d h u = (u, tt)
  unwind_at (open' f ∷ K) t d h u = go (ltb (length K) d)
    where
      go : (b : Bool) → At (pick b (pos t (open' f ∷ K)) (pos f (pend t d ∷ K)))
      go true = (u, h)
      go false = (inr h.0, (u, h.1))
  unwind_at (pend x v ∷ K) t d h u = go (ltb (length K) d) (is_zero t) (unwind_at K x v h.1 h.0) (unwind_at K t d h.1 u)
    where
      go : (b z : Bool) → At (unwind K x v) → At (unwind K t d) → At (pick b (pick z (unwind K x v) (pos t (pend x v ∷ K))) (unwind K t d))
      go true true p q = p
      go true false p q = (u, h)
      go false z p q = q

  pick_at : (b : Bool) (x y : ℕ) → T x → T y → T (pick b x y)
  pick_at true x y u v = u
  pick_at false x y u v = v

  before_at : (es : List Entry) (l : Leg) → LegAt T l → LegAt T (before es l)
  before_at es (ends fs e) h = tt
  before_at es (waits fs n f K) h = h

  after_at : (es : List Entry) (s : Stop) → StopAt T s → StopAt T (after es s)
  after_at es (held fs p r) h = h
  after_at es (over r) h = tt

  module _ (lim : ℕ) (C : List ℕ) (leads : (x : ℕ) → T x → Leads T x (fetch C x)) where
    -- A CASE names the next one, or none.
    link_at : (c : ℕ) → T c → get_or C c 0 ≡ 7 → OrNone T (get_or C (suc c) 0)
    unfolding fetch
    link_at c t e =
        (subst (Leads T c) (ap (λ x. decode x (get_or C (suc c) 0) (get_or C (suc (suc c)) 0) (get_or C (suc (suc (suc c))) 0)) e) (leads c t)).0

    both : (x y : Bool) → (x && y) ≡ true → (x ≡ true) × (y ≡ true)
    both true true e = (refl, refl)
    both true false e = absurd (true≢false (sym e))
    both false y e = absurd (true≢false (sym e))

    case_at : (p c : ℕ) → OrNone T c → is_case C p c ≡ true → T c × (get_or C c 0 ≡ 7)
    case_at p c (inl z) e = let l : p < c = ltb-true p c (both (ltb p c) (eqb (get_or C c 0) 7) e).0 in absurd (omega arith)
    case_at p c (inr t) e = (t, eqb-true (get_or C c 0) 7 (both (ltb p c) (eqb (get_or C c 0) 7) e).1)

    chase_at : (a p c e : ℕ) → OrNone T c → T e → T (chase C p c e a)
    unfolding chase
    chase_at zero p c e h u = go (is_case C p c) refl
      where
        go : (b : Bool) → is_case C p c ≡ b → T (pick b c e)
        go true q = (case_at p c h q).0
        go false q = u
    chase_at (suc a) p c e h u = go (is_case C p c) refl (λ w. chase_at a c (get_or C (suc c) 0) e w u)
      where
        go : (b : Bool) → is_case C p c ≡ b → (OrNone T (get_or C (suc c) 0) → T (chase C c (get_or C (suc c) 0) e a)) → T (pick b (chase C c (get_or C (suc c) 0) e a) e)
        go true q ih = let w = case_at p c h q in ih (link_at c w.0 w.1)
        go false q ih = u

    module _ (k : List Entry → ℕ → List Frame → Leg) (ok : (es : List Entry) (t : ℕ) (J : List Frame) → T t → Frames T J → LegAt T (k es t J)) where
      jump_at : (p : Pos) → At p → LegAt T (leg_jump k p)
      jump_at p h = go p.pc h.0
        where
          go : (t : ℕ) → OrNone T t → LegAt T (pick (is_zero t) (ends [] run_end.Astray) (k [] t p.stack))
          go zero u = tt
          go (suc t) (inl e) = absurd (omega arith)
          go (suc t) (inr u) = ok [] (suc t) p.stack u h.1

      step_at : (i : Instr) (pc : ℕ) (K : List Frame) → Leads T pc i → Frames T K → LegAt T (leg_step lim C k i pc K)
      step_at NONE pc K l h = tt
      step_at (LIST n) pc K l h = ok (plain n ∷ []) (pc + 2) K l h
      step_at (LEAVE t d) pc K l h = jump_at (unwind K t d) (unwind_at K t d h l)
      step_at (ASK n y z) pc K l h = ((λ a. pick_at (is_yes a) y z l.0 l.1), h)
      step_at (SELECT n c e) pc K l h = ((λ a. chase_at a pc c e l.0 l.1), h)
      step_at (OPEN f) pc K l h = go (ltb (length K) lim)
        where
          go : (b : Bool) → LegAt T (pick b (k [] (pc + 2) (open' f ∷ K)) (ends [] run_end.Astray))
          go true = ok [] (pc + 2) (open' f ∷ K) l.0 (l.1, h)
          go false = tt
      step_at (END e) pc K l h = tt
      step_at (CASE c t d) pc K l h = jump_at (unwind K t d) (unwind_at K t d h l.1)

    leg_at : (b pc : ℕ) (K : List Frame) → T pc → Frames T K → LegAt T (leg lim C b pc K)
    unfolding leg
    leg_at zero pc K t h = step_at (λ es u J. ends [] run_end.Astray) (λ es u J v w. tt) (fetch C pc) pc K (leads pc t) h
    leg_at (suc b) pc K t h =
        step_at (λ es u J. before es (leg lim C b u J)) (λ es u J v w. before_at es (leg lim C b u J) (leg_at b u J v w)) (fetch C pc) pc K (leads pc t) h

    pub stops_at : (n b pc : ℕ) (K : List Frame) (qs : List ℕ) → T pc → Frames T K → StopAt T (stops lim C n b pc K qs)
    unfolding stops
    stops_at zero b pc K qs t h = (t, h)
    stops_at (suc n) b pc K qs t h = go (leg lim C b pc K) (leg_at b pc K t h) qs (λ x J u v w. stops_at n (length C) x J u v w)
      where
        go : (l : Leg) → LegAt T l → (u : List ℕ) → ((x : ℕ) (J : List Frame) (v : List ℕ) → T x → Frames T J → StopAt T (stops lim C n (length C) x J v))
            → StopAt T (behind (stops lim C n (length C)) l u)
        go (ends es e) m u ih = tt
        go (waits es j f J) m [] ih = tt
        go (waits es j f J) m (a ∷ u) ih =
            after_at es (after (asked j ∷ []) (stops lim C n (length C) (f a) J u)) (after_at (asked j ∷ []) (stops lim C n (length C) (f a) J u) (ih (f a) J u (m.0 a) m.1))
