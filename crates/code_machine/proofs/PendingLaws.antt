-- Laws of the pending ends as an array.
use Rattle.std.specs.Prelude.{ℕ, zero, suc, ◌+◌, ◌-◌, ◌*◌, ◌/◌, ◌%◌, ◌≤◌, ◌<◌, ◌≡◌, refl, Bool, true, false, List, ◌∷◌, ◌≢◌, length, get_or, set, ltb}
use Rattle.std.proofs.Common.{sym, ◌∙◌, get_or-set_same, get_or-set_other, lt-ltb, le-ltb, arith}
use Rattle.std.proofs.Math.Path.{ap}
use Rattle.route_completion.specs.Sem.{pick}
use Rattle.code_flat.specs.Machine.{Frame, open', pend, Pos, pos, is_zero, unwind}
use Rattle.code_machine.specs.Pending.{half, frame_by, frame_of, stack, comes}
use Rattle.code_machine.specs.declared.Passing.{Passing}
use Rattle.code_machine.specs.declared.Target.{Target}
use Rattle.code_machine.specs.declared.Passing.TheVariants.{Here, Into, Below}

pub stack_length : (ends : List ℕ) (n : ℕ) → length (stack ends n) ≡ n
unfolding stack
stack_length ends zero = refl
stack_length ends (suc n) = ap suc (stack_length ends n)

-- What stands below a place of the array is not changed there.
stack_set : (ends : List ℕ) (n m x : ℕ) → n ≤ m → stack (set ends m x) n ≡ stack ends n
unfolding stack
stack_set ends zero m x h = refl
stack_set ends (suc n) m x h = λ i. frame_of (get i) ∷ stack_set ends n m x (omega arith) i
  where
    get : get_or (set ends m x) n 0 ≡ get_or ends n 0
    get = get_or-set_other ends m n x 0 (λ q. absurd (omega arith))

-- One more end.
pub stack_push : (ends : List ℕ) (n x : ℕ) → n < length ends → stack (set ends n x) (suc n) ≡ frame_of x ∷ stack ends n
unfolding stack
stack_push ends n x h = λ i. frame_of (get i) ∷ stack_set ends n n x (omega arith) i
  where
    get : get_or (set ends n x) n 0 ≡ x
    get = get_or-set_same ends n x 0 h

-- The end on top.
pub stack_top : (ends : List ℕ) (n m : ℕ) → n ≡ suc m → stack ends n ≡ frame_of (get_or ends m 0) ∷ stack ends m
unfolding stack
stack_top ends n m e = ap (stack ends) e

-- What a number stands for.
pub open_frame : (end : ℕ) → end < half → frame_of end ≡ open' (end % half)
open_frame end h =
    let q : end / half ≡ 0 = omega arith in
    ap (λ d. frame_by d (end % half)) q

pub wait_frame : (end : ℕ) → half ≤ end → frame_of end ≡ pend (end % half) (end / half - 1)
wait_frame end h =
    let q : end / half ≡ suc (end / half - 1) = omega arith in
    ap (λ d. frame_by d (end % half)) q

pub open_made : (f : ℕ) → f < half → frame_of f ≡ open' f
open_made f h =
    let q : f % half ≡ f = omega arith in
    open_frame f h ∙ ap open' q

pub wait_made : (t d : ℕ) → t < half → frame_of ((d + 1) * half + t) ≡ pend t d
wait_made t d h =
    let u : ((d + 1) * half + t) / half ≡ suc d = omega arith in
    let v : ((d + 1) * half + t) % half ≡ t = omega arith in
    λ i. frame_by (u i) (v i)

pub on_true : {A : Type 0} (t : Bool) (x y : A) → t ≡ true → pick t x y ≡ x
on_true t x y h = ap (λ b. pick b x y) h

pub on_false : {A : Type 0} (t : Bool) (x y : A) → t ≡ false → pick t x y ≡ y
on_false t x y h = ap (λ b. pick b x y) h

-- A jump at the end on top, with K below.
module _ (end : ℕ) (K : List Frame) (target : Target) where
  abbrev unwinds : Frame → Pos
  unwinds f = unwind (f ∷ K) target.place target.depth

  at_open : end < half → unwinds (frame_of end)
      ≡ pick (ltb (length K) target.depth) (pos target.place (frame_of end ∷ K)) (pos (end % half) (pend target.place target.depth ∷ K))
  unfolding unwind
  at_open h =
      ap unwinds (open_frame end h)
      ∙ ap (λ f. pick (ltb (length K) target.depth) (pos target.place (f ∷ K)) (pos (end % half) (pend target.place target.depth ∷ K))) (sym (open_frame end h))

  pub open_here : end < half → length K < target.depth → unwinds (frame_of end) ≡ comes (frame_of end) K target Here
  open_here h l = at_open h ∙ on_true (ltb (length K) target.depth) _ _ (lt-ltb (length K) target.depth l)

  pub open_into : end < half → target.depth ≤ length K → (t : ℕ) → t ≡ end % half → unwinds (frame_of end) ≡ comes (frame_of end) K target (Into t)
  open_into h l t e =
      at_open h ∙ on_false (ltb (length K) target.depth) _ _ (le-ltb (length K) target.depth l) ∙ ap (λ u. pos u (pend target.place target.depth ∷ K)) (sym e)

  at_wait : (on : Target) → frame_of end ≡ pend on.place on.depth → unwinds (frame_of end)
      ≡ pick (ltb (length K) target.depth) (pick (is_zero target.place) (unwind K on.place on.depth) (pos target.place (frame_of end ∷ K))) (unwind K target.place target.depth)
  unfolding unwind
  at_wait on e =
      ap unwinds e
      ∙ ap (λ f. pick (ltb (length K) target.depth) (pick (is_zero target.place) (unwind K on.place on.depth) (pos target.place (f ∷ K))) (unwind K target.place target.depth)) (sym e)

  pub wait_below : half ≤ end → target.depth ≤ length K → unwinds (frame_of end) ≡ comes (frame_of end) K target (Below target)
  wait_below h l = at_wait (record { place = end % half; depth = end / half - 1 }) (wait_frame end h) ∙ on_false (ltb (length K) target.depth) _ _ (le-ltb (length K) target.depth l)

  pub wait_next : length K < target.depth → target.place ≡ 0 → (on : Target) → frame_of end ≡ pend on.place on.depth
      → unwinds (frame_of end) ≡ comes (frame_of end) K target (Below on)
  wait_next l z on e = at_wait on e ∙ on_true (ltb (length K) target.depth) _ _ (lt-ltb (length K) target.depth l) ∙ ap (λ t. pick (is_zero t) (unwind K on.place on.depth) (pos target.place (frame_of end ∷ K))) z

  pub wait_here : half ≤ end → length K < target.depth → target.place ≢ 0 → unwinds (frame_of end) ≡ comes (frame_of end) K target Here
  wait_here h l z =
      at_wait (record { place = end % half; depth = end / half - 1 }) (wait_frame end h) ∙ on_true (ltb (length K) target.depth) _ _ (lt-ltb (length K) target.depth l)
      ∙ ap (λ b. pick b (unwind K (end % half) (end / half - 1)) (pos target.place (frame_of end ∷ K))) (some target.place z)
    where
      some : (t : ℕ) → t ≢ 0 → is_zero t ≡ false
      some zero n = absurd (n refl)
      some (suc t) n = refl

-- A jump with none pending.
pub unwind_none : (ends : List ℕ) (left : ℕ) (on : Target) → left ≡ 0 → unwind (stack ends left) on.place on.depth ≡ pos on.place (stack ends 0)
unfolding unwind stack
unwind_none ends left on e = ap (λ n. unwind (stack ends n) on.place on.depth) e

-- .. and at the end on top, where r says what it comes to.
module _ (ends : List ℕ) (left top : ℕ) (on : Target) (r : Passing) (e : left ≡ suc top)
    (m : (K : List Frame) → length K ≡ top → unwind (frame_of (get_or ends top 0) ∷ K) on.place on.depth ≡ comes (frame_of (get_or ends top 0)) K on r) where
  meets : (q : Passing) → r ≡ q → unwind (stack ends left) on.place on.depth ≡ comes (frame_of (get_or ends top 0)) (stack ends top) on q
  meets q h =
      ap (λ K. unwind K on.place on.depth) (stack_top ends left top e) ∙ m (stack ends top) (stack_length ends top)
      ∙ ap (comes (frame_of (get_or ends top 0)) (stack ends top) on) h

  pub unwind_here : r ≡ Here → unwind (stack ends left) on.place on.depth ≡ pos on.place (stack ends left)
  unwind_here h = meets Here h ∙ ap (pos on.place) (sym (stack_top ends left top e))

  pub unwind_into : (t : ℕ) → r ≡ Into t → (end : ℕ) → frame_of end ≡ pend on.place on.depth → top < length ends
      → unwind (stack ends left) on.place on.depth ≡ pos t (stack (set ends top end) left)
  unwind_into t h end f l =
      meets (Into t) h ∙ ap (λ F. pos t (F ∷ stack ends top)) (sym f) ∙ ap (pos t) (sym (stack_push ends top end l)) ∙ ap (λ n. pos t (stack (set ends top end) n)) (sym e)

  pub unwind_below : (b : Target) → r ≡ Below b → unwind (stack ends left) on.place on.depth ≡ unwind (stack ends top) b.place b.depth
  unwind_below b h = meets (Below b) h
