-- The loop's law: the bound on the turns is never met.
use Prim.Native.Nat.{ℕ, zero, suc, ◌≤◌, ◌<◌}
use Rattle.std.specs.Prelude.{◌≡◌, Bool, true, false, ◌||◌, length}
use Rattle.std.proofs.Math.Path.{refl, ap}
use Rattle.std.proofs.Math.Bool.{not}
use mathlib.Core.List.{List, [], ◌∷◌}
use Rattle.std.proofs.Common.{arith}
use Rattle.route_completion.specs.Sem.{Out, more, asked, ask, go_on, turn, turns, rounds, is_yes, loop_continues}
use Rattle.route_completion.specs.Rest.{Shrinks}

ask_cong : (n : ℕ) (qs : List ℕ) (k k' : ℕ → List ℕ → Out) → ((a : ℕ) (r : List ℕ) → length r < length qs → k a r ≡ k' a r) → ask n qs k ≡ ask n qs k'
ask_cong n [] k k' h = refl
ask_cong n (a ∷ qs) k k' h = ap (more (asked n ∷ [])) (h a qs (omega arith))

go_on_cong : (b : Bool) (o : Out) (k k' : List ℕ → Out) → k o.rest ≡ k' o.rest → go_on b o k ≡ go_on b o k'
go_on_cong true o k k' h = ap (more o.nodes) h
go_on_cong false o k k' h = refl

turn_cong : (ls : List ℕ) (b : Bool) (o : Out) (k k' : List ℕ → Out) (r : List ℕ) → k o.rest ≡ k' o.rest → turn ls b o k r ≡ turn ls b o k' r
turn_cong ls true o k k' r h = go_on_cong (loop_continues ls o.comp) o k k' h
turn_cong ls false o k k' r h = refl

module _ (n : ℕ) (test : Bool) (ls : List ℕ) (body : List ℕ → Out) (less : Shrinks body) where
  turns_same : (f g : ℕ) (qs : List ℕ) → length qs ≤ f → length qs ≤ g → turns n test ls body f qs ≡ turns n test ls body g qs
  unfolding turns
  turns_same zero zero qs p q = refl
  turns_same zero (suc g) [] p q = refl
  turns_same zero (suc g) (a ∷ qs) p q = absurd (omega arith)
  turns_same (suc f) zero [] p q = refl
  turns_same (suc f) zero (a ∷ qs) p q = absurd (omega arith)
  turns_same (suc f) (suc g) qs p q =
      ask_cong n qs (λ a r. turn ls (is_yes a || not test) (body r) (turns n test ls body f) r) (λ a r. turn ls (is_yes a || not test) (body r) (turns n test ls body g) r)
      (λ a r h. turn_cong ls (is_yes a || not test) (body r) (turns n test ls body f) (turns n test ls body g) r
      (turns_same f g (body r).rest (omega (arith, less r)) (omega (arith, less r))))

  -- A loop takes an answer and, unless that says no, runs its body and goes on with itself.
  pub rounds_law : (qs : List ℕ)
      → rounds n test ls body qs ≡ ask n qs (λ a r. turn ls (is_yes a || not test) (body r) (rounds n test ls body) r)
  unfolding turns rounds
  rounds_law [] = refl
  rounds_law (a ∷ qs) =
      ap (more (asked n ∷ []))
      (turn_cong ls (is_yes a || not test) (body qs) (turns n test ls body (length qs)) (rounds n test ls body) qs
      (turns_same (length qs) (length (body qs).rest) (body qs).rest (less qs) (omega arith)))
