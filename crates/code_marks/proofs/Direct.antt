-- Marks do not depend on the stops before them: two stops, one after another, are one.
use Prim.Native.Nat.{ℕ, zero, suc, ◌+◌, ◌≤◌}
use Rattle.std.specs.Prelude.{◌≡◌, length, take}
use Rattle.std.proofs.Math.Path.{refl, sym, ap}
use Rattle.std.proofs.Common.{◌∙◌, length-append, length-take}
use mathlib.Core.List.{List, [], ◌∷◌, ◌++◌}
use native.Mathlib.Omega.{arith}
use Rattle.route_completion.specs.Sem.{Entry, asked}
use Rattle.code_flat.specs.Machine.{Frame, Pos}
use Rattle.code_flat.specs.Leg.{Leg, ends, waits, leg}
use Rattle.code_marks.specs.Stop.{Stop, held, over, after, behind, stops, stopped, Call, goes_on, calls, so_far}
use Rattle.code_marks.proofs.StopLaws.{given, Held, Took, held_after, given_after, held_first, other_answers, took}
use Rattle.code_marks.proofs.StepsLaws.{after_none, after_twice}

-- A stop, and f from there with the answers left.
abbrev pub on_from : Stop → (Pos → List ℕ → Stop) → Stop
on_from (held es p r) f = after es (f p r)
on_from (over r) f = over r

on_after : (es : List Entry) (s : Stop) (f : Pos → List ℕ → Stop) → after es (on_from s f) ≡ on_from (after es s) f
on_after es (held fs p r) f = sym (after_twice es fs (f p r))
on_after es (over r) f = refl

module _ (lim : ℕ) (C : List ℕ) where
  -- Behind n answers, and behind m more.
  stops_twice : (n m k : ℕ) → k ≡ n + m → (b pc : ℕ) → b ≡ length C → (K : List Frame) (qs : List ℕ)
      → stops lim C k b pc K qs ≡ on_from (stops lim C n b pc K qs) (λ p r. stopped lim C m p r)
  unfolding stops
  stops_twice zero m k e b pc z K qs =
      let k≡m : k ≡ m = omega arith in
      ap (λ x. stops lim C x b pc K qs) k≡m ∙ ap (λ x. stops lim C m x pc K qs) z ∙ sym (after_none (stops lim C m (length C) pc K qs))
  stops_twice (suc n) m zero e b pc z K qs = absurd (omega arith)
  stops_twice (suc n) m (suc k) e b pc z K qs = go (leg lim C b pc K) qs (λ t J u. stops_twice n m k (omega arith) (length C) t refl J u)
    where
      go : (l : Leg) (u : List ℕ)
          → ((t : ℕ) (J : List Frame) (v : List ℕ) → stops lim C k (length C) t J v ≡ on_from (stops lim C n (length C) t J v) (λ p r. stopped lim C m p r))
          → behind (stops lim C k (length C)) l u ≡ on_from (behind (stops lim C n (length C)) l u) (λ p r. stopped lim C m p r)
      go (ends es x) u ih = refl
      go (waits es x f J) [] ih = refl
      go (waits es x f J) (a ∷ u) ih =
          ap (λ s. after es (after (asked x ∷ []) s)) (ih (f a) J u)
          ∙ ap (after es) (on_after (asked x ∷ []) (stops lim C n (length C) (f a) J u) (λ p r. stopped lim C m p r))
          ∙ on_after es (after (asked x ∷ []) (stops lim C n (length C) (f a) J u)) (λ p r. stopped lim C m p r)

  pub stopped_twice : (n m : ℕ) (p : Pos) (qs : List ℕ) → stopped lim C (n + m) p qs ≡ on_from (stopped lim C n p qs) (λ q r. stopped lim C m q r)
  stopped_twice n m p qs = stops_twice n m (n + m) refl (length C) p.pc refl p.stack qs

  -- Any number of stops is one, behind the answers taken so far.
  pub calls_direct : (cs : List Call) (p : Pos) → Held (calls lim C p cs) → stopped lim C (length (so_far cs)) p (so_far cs) ≡ given [] (calls lim C p cs)
  unfolding calls so_far stops
  calls_direct [] p h = refl
  calls_direct (c ∷ cs) p h =
      ap (λ x. stopped lim C x p (take c.number c.answers ++ so_far cs)) long
      ∙ stopped_twice c.number (length (so_far cs)) p (take c.number c.answers ++ so_far cs)
      ∙ ap (λ s. on_from s (λ q r. stopped lim C (length (so_far cs)) q r)) (other_answers lim C c.number (length C) p.pc p.stack c.answers (so_far cs) here)
      ∙ go (stopped lim C c.number p c.answers) h (λ q g. calls_direct cs q g)
    where
      here : Held (stopped lim C c.number p c.answers)
      here = held_first lim C (stopped lim C c.number p c.answers) (λ q. calls lim C q cs) h

      enough : (s : Stop) → Took c.number c.answers s → Held s → c.number ≤ length c.answers
      enough (held es q r) t g = t.2
      enough (over r) t g = absurd g

      long : length (take c.number c.answers ++ so_far cs) ≡ c.number + length (so_far cs)
      long =
          omega (
            arith,
            length-append (take c.number c.answers) (so_far cs),
            length-take c.number c.answers,
            enough (stopped lim C c.number p c.answers) (took lim C c.number (length C) p.pc p.stack c.answers) here,
          )

      go : (s : Stop) → Held (goes_on s (λ q. calls lim C q cs))
          → ((q : Pos) → Held (calls lim C q cs) → stopped lim C (length (so_far cs)) q (so_far cs) ≡ given [] (calls lim C q cs))
          → on_from (given (so_far cs) s) (λ q r. stopped lim C (length (so_far cs)) q r) ≡ given [] (goes_on s (λ q. calls lim C q cs))
      go (held es q r) g ih = ap (after es) (ih q (held_after lim C es (calls lim C q cs) g)) ∙ given_after lim C es [] (calls lim C q cs)
      go (over r) g ih = absurd g
