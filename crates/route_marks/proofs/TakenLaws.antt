-- Where a route was stopped, and what is shown of it.
use Rattle.std.specs.Prelude.{ℕ, ◌+◌, ◌≤◌, ◌<◌, ◌≡◌, refl, ◌≢◌, List, Bool, true, false, cond, leb, length}
use Rattle.std.proofs.Common.{sym, ◌∙◌, ap, subst, inl, inr, arith, le-leb}
use Rattle.std.proofs.lemmas.Bool.{lt-leb}
use Rattle.route_list.specs.Listing.{most, saturated}
use Rattle.code_flat.specs.Machine.{room, Res, Pos}
use Rattle.code_flat.proofs.Runs.{Ends, run_ends}
use Rattle.code_marks.specs.Stop.{Stop, held, over, stopped, taken_up}
use Rattle.code_marks.proofs.StopLaws.{finished, stopped_law, never_stopped}
use Rattle.code_machine.specs.Halted.{stopped_end, route_to, StandsAt, Told}
use Rattle.code_machine.specs.declared.Ran.{Ran}
use Rattle.route_marks.specs.Marks.{mark_at, set_mark}
use Rattle.route_marks.specs.Taken.{gone_on, stop_of, marks_after, marks_shown}
use Rattle.route_marks.specs.declared.Begin.TheVariants.{Mark}

-- No run ends with 4 by itself.
ends_so : (C qs : List ℕ) (p : Pos) (stop : ℕ) (s : Stop) → taken_up room C p qs ≡ finished room C s → (t : Pos) → StandsAt s t → (M : List ℕ) (to : ℕ)
    → (route_to s).end ≡ stopped_end → marks_after M to s ≡ set_mark M to t
ends_so C qs p stop (held es q r) e t h M to z = ap (set_mark M to) h
ends_so C qs p stop (over r) e t h M to z = absurd (go (run_ends room C (length C) p.pc p.stack qs))
  where
    go : Ends (taken_up room C p qs).end → ⊥
    go (inl l) = omega (arith, l, ap (λ x. x.end) e, z)
    go (inr l) = omega (arith, l, ap (λ x. x.end) e, z)

unmarked : (M : List ℕ) (to : ℕ) (s : Stop) → (route_to s).end ≢ stopped_end → marks_after M to s ≡ M
unmarked M to (held es q r) d = absurd (d refl)
unmarked M to (over r) d = refl

module _ (M C qs : List ℕ) (p : Pos) (stop to len n : ℕ) (small : len < most) (counted : n ≡ saturated (length (route_to (stopped room C stop p qs)).list)) where
  pub short_marks : len < n → marks_shown M to (stopped room C stop p qs) len ≡ M
  unfolding marks_shown
  short_marks h = rw (lt-leb (length (route_to (stopped room C stop p qs)).list) len (omega arith))

  pub held_marks : n ≤ len → (e : ℕ) → e ≡ (route_to (stopped room C stop p qs)).end → e ≡ stopped_end → (t : Pos) → StandsAt (stopped room C stop p qs) t
      → marks_shown M to (stopped room C stop p qs) len ≡ set_mark M to t
  unfolding marks_shown
  held_marks h e q z t w =
      rw (le-leb (length (route_to (stopped room C stop p qs)).list) len (omega arith))
      (ends_so C qs p stop (stopped room C stop p qs) (stopped_law room C stop p qs) t w M to (sym q ∙ z))

  pub over_marks : n ≤ len → (e : ℕ) → e ≡ (route_to (stopped room C stop p qs)).end → e ≢ stopped_end → marks_shown M to (stopped room C stop p qs) len ≡ M
  unfolding marks_shown
  over_marks h e q d =
      rw (le-leb (length (route_to (stopped room C stop p qs)).list) len (omega arith)) (unmarked M to (stopped room C stop p qs) (λ z. d (q ∙ z)))

-- More answers than there are never stop it.
pub resumed_is : (M C qs : List ℕ) (m n : ℕ) → n ≡ length qs + 1 → stop_of M C qs (Mark m) n ≡ gone_on M C qs m
resumed_is M C qs m n e = never_stopped room C n (mark_at M m) qs (omega arith)

-- .. and so no mark is set.
pub none_set : (M : List ℕ) (to len : ℕ) (r : Res) → marks_shown M to (over r) len ≡ M
unfolding marks_shown
none_set M to len r = go (leb (length (route_to (over r)).list) len)
  where
    go : (b : Bool) → cond b M M ≡ M
    go true = refl
    go false = refl

-- What a run from one place tells, where it is another's.
module _ (C qs : List ℕ) (stop : ℕ) (p q : Pos) (e : p ≡ q) where
  pub told_from : (f g : List ℕ) (ran : Ran) → Told (stopped room C stop p qs) f g ran → Told (stopped room C stop q qs) f g ran
  told_from f g ran t = subst (λ x. Told (stopped room C stop x qs) f g ran) e t

  pub stands_from : (x : Pos) → StandsAt (stopped room C stop p qs) x → StandsAt (stopped room C stop q qs) x
  stands_from x t = subst (λ y. StandsAt (stopped room C stop y qs) x) e t
