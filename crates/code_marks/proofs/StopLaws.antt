-- The laws of a stopped run, for every list of numbers as code.
use Prim.Native.Nat.{ℕ, zero, suc, ◌+◌, ◌≤◌, ◌<◌}
use Rattle.std.specs.Prelude.{◌≡◌, length, take}
use Rattle.std.proofs.Math.Path.{refl, sym, ap}
use Rattle.std.proofs.Common.{◌∙◌, length-append, length-take}
use mathlib.Core.List.{List, [], ◌∷◌, ◌++◌, append_assoc}
use Rattle.std.proofs.Math.ListN.{drop}
use native.Mathlib.Omega.{arith}
use Rattle.route_completion.specs.Sem.{Entry, asked}
use Rattle.route_completion.specs.Route.{asks}
use Rattle.route_completion.proofs.TakenLaws.{asks_append}
use Rattle.code_flat.specs.Machine.{Res, res, pre, Frame, Pos, pos, run}
use Rattle.code_flat.specs.Leg.{Leg, ends, waits, listed, leg, onward}
use Rattle.code_flat.proofs.LegLaws.{run_leg, leg_plain}
use Rattle.code_marks.specs.Stop.{Stop, held, over, after, behind, stops, stopped, taken_up, Call, goes_on, calls, so_far}

-- What a stopped run comes to when it goes on with the answers that are left.
abbrev pub finished : ℕ → List ℕ → Stop → Res
finished lim C (held es p r) = pre es (taken_up lim C p r)
finished lim C (over r) = r

-- The stop with other answers left.
abbrev pub given : List ℕ → Stop → Stop
given qs (held es p r) = held es p qs
given qs (over r) = over r

abbrev pub listed_in : Stop → List Entry
listed_in (held es p r) = es
listed_in (over r) = r.nodes

abbrev pub Held : Stop → Type 0
Held (held es p r) = Unit {0}
Held (over r) = ⊥

-- As many answers are taken as were named, and no fewer were there; or the run has ended before that.
abbrev pub Took : ℕ → List ℕ → Stop → Type 0
Took n qs (held es p r) = (asks es ≡ n) × (drop n qs ≡ r) × (n ≤ length qs)
Took n qs (over r) = (asks r.nodes < n) × (drop (asks r.nodes) qs ≡ r.rest)

module _ (lim : ℕ) (C : List ℕ) where
  pub finished_after : (es : List Entry) (s : Stop) → finished lim C (after es s) ≡ pre es (finished lim C s)
  finished_after es (held fs p r) = ap (λ l. res l (taken_up lim C p r).end (taken_up lim C p r).rest) (append_assoc es fs (taken_up lim C p r).nodes)
  finished_after es (over r) = refl

  -- A run is what it lists up to a stop and what follows.
  pub stops_law : (n b pc : ℕ) (K : List Frame) (qs : List ℕ) → run lim C b pc K qs ≡ finished lim C (stops lim C (suc n) b pc K qs)
  unfolding stops
  stops_law zero b pc K qs = run_leg lim C b pc K qs ∙ go (leg lim C b pc K) qs
    where
      go : (l : Leg) (u : List ℕ) → onward lim C l u ≡ finished lim C (behind (stops lim C zero (length C)) l u)
      go (ends es e) u = refl
      go (waits es m f J) [] = refl
      go (waits es m f J) (a ∷ u) = sym (finished_after es (held (asked m ∷ []) (pos (f a) J) u))
  stops_law (suc n) b pc K qs = run_leg lim C b pc K qs ∙ go (leg lim C b pc K) qs (λ t J u. stops_law n (length C) t J u)
    where
      go : (l : Leg) (u : List ℕ) → ((t : ℕ) (J : List Frame) (v : List ℕ) → run lim C (length C) t J v ≡ finished lim C (stops lim C (suc n) (length C) t J v))
          → onward lim C l u ≡ finished lim C (behind (stops lim C (suc n) (length C)) l u)
      go (ends es e) u ih = refl
      go (waits es m f J) [] ih = refl
      go (waits es m f J) (a ∷ u) ih =
          ap (λ r. pre es (pre (asked m ∷ []) r)) (ih (f a) J u)
          ∙ ap (pre es) (sym (finished_after (asked m ∷ []) (stops lim C (suc n) (length C) (f a) J u)))
          ∙ sym (finished_after es (after (asked m ∷ []) (stops lim C (suc n) (length C) (f a) J u)))

  pub stopped_law : (n : ℕ) (p : Pos) (qs : List ℕ) → taken_up lim C p qs ≡ finished lim C (stopped lim C n p qs)
  unfolding stops
  stopped_law zero p qs = refl
  stopped_law (suc n) p qs = stops_law n (length C) p.pc p.stack qs

  -- Where a run stops, only the answers up to there count.
  pub held_after : (es : List Entry) (s : Stop) → Held (after es s) → Held s
  held_after es (held fs p r) h = h
  held_after es (over r) h = h

  pub given_after : (es : List Entry) (qs : List ℕ) (s : Stop) → after es (given qs s) ≡ given qs (after es s)
  given_after es qs (held fs p r) = refl
  given_after es qs (over r) = refl

  pub other_answers : (n b pc : ℕ) (K : List Frame) (qs more : List ℕ) → Held (stops lim C n b pc K qs)
      → stops lim C n b pc K (take n qs ++ more) ≡ given more (stops lim C n b pc K qs)
  unfolding stops
  other_answers zero b pc K qs more h = refl
  other_answers (suc n) b pc K qs more h = go (leg lim C b pc K) qs (λ t J u g. other_answers n (length C) t J u more g) h
    where
      go : (l : Leg) (u : List ℕ)
          → ((t : ℕ) (J : List Frame) (v : List ℕ) → Held (stops lim C n (length C) t J v) → stops lim C n (length C) t J (take n v ++ more) ≡ given more (stops lim C n (length C) t J v))
          → Held (behind (stops lim C n (length C)) l u)
          → behind (stops lim C n (length C)) l (take (suc n) u ++ more) ≡ given more (behind (stops lim C n (length C)) l u)
      go (ends es e) u ih g = absurd g
      go (waits es m f J) [] ih g = absurd g
      go (waits es m f J) (a ∷ u) ih g =
          ap (λ s. after es (after (asked m ∷ []) s))
          (ih (f a) J u (held_after (asked m ∷ []) (stops lim C n (length C) (f a) J u) (held_after es (after (asked m ∷ []) (stops lim C n (length C) (f a) J u)) g)))
          ∙ ap (after es) (given_after (asked m ∷ []) more (stops lim C n (length C) (f a) J u))
          ∙ given_after es more (after (asked m ∷ []) (stops lim C n (length C) (f a) J u))

  -- How many answers a stopped run has taken.
  took_after : (n : ℕ) (qs : List ℕ) (es : List Entry) (s : Stop) → asks es ≡ 0 → Took n qs s → Took n qs (after es s)
  took_after n qs es (held fs p r) z t = (omega (arith, asks_append es fs, t.0), t.1, t.2)
  took_after n qs es (over r) z t =
      let e : asks (es ++ r.nodes) ≡ asks r.nodes = omega (arith, asks_append es r.nodes) in
      (omega (arith, t.0), ap (λ x. drop x qs) e ∙ t.1)

  took_asked : (n m a : ℕ) (qs : List ℕ) (s : Stop) → Took n qs s → Took (suc n) (a ∷ qs) (after (asked m ∷ []) s)
  unfolding asks
  took_asked n m a qs (held fs p r) t = (ap suc t.0, t.1, omega (arith, t.2))
  took_asked n m a qs (over r) t = (omega (arith, t.0), t.1)

  pub took : (n b pc : ℕ) (K : List Frame) (qs : List ℕ) → Took n qs (stops lim C n b pc K qs)
  unfolding stops asks
  took zero b pc K qs = (refl, refl, omega arith)
  took (suc n) b pc K qs = go (leg lim C b pc K) (leg_plain lim C b pc K) qs (λ t J u. took n (length C) t J u)
    where
      none : (es : List Entry) (e : ℕ) (u : List ℕ) → asks es ≡ 0 → Took (suc n) u (over (res es e u))
      none es e u z = (omega arith, ap (λ x. drop x u) z)

      go : (l : Leg) → asks (listed l) ≡ 0 → (u : List ℕ) → ((t : ℕ) (J : List Frame) (v : List ℕ) → Took n v (stops lim C n (length C) t J v))
          → Took (suc n) u (behind (stops lim C n (length C)) l u)
      go (ends es e) z u ih = none es e u z
      go (waits es m f J) z [] ih = none es 3 [] z
      go (waits es m f J) z (a ∷ u) ih =
          took_after (suc n) (a ∷ u) es (after (asked m ∷ []) (stops lim C n (length C) (f a) J u)) z
          (took_asked n m a u (stops lim C n (length C) (f a) J u) (ih (f a) J u))

  -- A run that is to be stopped behind more answers than there are is never stopped.
  pub never_stopped : (n : ℕ) (p : Pos) (qs : List ℕ) → length qs < n → stopped lim C n p qs ≡ over (taken_up lim C p qs)
  never_stopped n p qs h = go (stopped lim C n p qs) (took n (length C) p.pc p.stack qs) (stopped_law n p qs)
    where
      go : (s : Stop) → Took n qs s → taken_up lim C p qs ≡ finished lim C s → s ≡ over (taken_up lim C p qs)
      go (held es q r) t e = absurd (omega (arith, t.2, h))
      go (over r) t e = ap over (sym e)

  -- One stop, and other answers behind it.
  pub split_law : (n : ℕ) (p : Pos) (qs more : List ℕ) → Held (stopped lim C n p qs)
      → taken_up lim C p (take n qs ++ more) ≡ finished lim C (given more (stopped lim C n p qs))
  split_law n p qs more h = stopped_law n p (take n qs ++ more) ∙ ap (finished lim C) (other_answers n (length C) p.pc p.stack qs more h)

  -- Any number of stops.
  pub held_first : (s : Stop) (k : Pos → Stop) → Held (goes_on s k) → Held s
  held_first (held es p r) k h = tt
  held_first (over r) k h = h

  pub calls_law : (cs : List Call) (p : Pos) (more : List ℕ) → Held (calls lim C p cs)
      → taken_up lim C p (so_far cs ++ more) ≡ finished lim C (given more (calls lim C p cs))
  unfolding calls so_far
  calls_law [] p more h = refl
  calls_law (c ∷ cs) p more h =
      ap (taken_up lim C p) (append_assoc (take c.number c.answers) (so_far cs) more)
      ∙ split_law c.number p c.answers (so_far cs ++ more) (held_first (stopped lim C c.number p c.answers) (λ q. calls lim C q cs) h)
      ∙ go (stopped lim C c.number p c.answers) h (λ q g. calls_law cs q more g)
    where
      go : (s : Stop) → Held (goes_on s (λ q. calls lim C q cs))
          → ((q : Pos) → Held (calls lim C q cs) → taken_up lim C q (so_far cs ++ more) ≡ finished lim C (given more (calls lim C q cs)))
          → finished lim C (given (so_far cs ++ more) s) ≡ finished lim C (given more (goes_on s (λ q. calls lim C q cs)))
      go (held es q r) g ih =
          ap (pre es) (ih q (held_after es (calls lim C q cs) g)) ∙ sym (finished_after es (given more (calls lim C q cs)))
          ∙ ap (finished lim C) (given_after es more (calls lim C q cs))
      go (over r) g ih = absurd g

  -- .. take as many answers as they name.
  pub calls_took : (cs : List Call) (p : Pos) → Held (calls lim C p cs) → asks (listed_in (calls lim C p cs)) ≡ length (so_far cs)
  unfolding calls so_far asks
  calls_took [] p h = refl
  calls_took (c ∷ cs) p h = go (stopped lim C c.number p c.answers) (took c.number (length C) p.pc p.stack c.answers) h (λ q g. calls_took cs q g)
    where
      more : (es : List Entry) (s : Stop) → asks (listed_in (after es s)) ≡ asks es + asks (listed_in s)
      more es (held fs q r) = asks_append es fs
      more es (over r) = asks_append es r.nodes

      go : (s : Stop) → Took c.number c.answers s → Held (goes_on s (λ q. calls lim C q cs))
          → ((q : Pos) → Held (calls lim C q cs) → asks (listed_in (calls lim C q cs)) ≡ length (so_far cs))
          → asks (listed_in (goes_on s (λ q. calls lim C q cs))) ≡ length (take c.number c.answers ++ so_far cs)
      go (held es q r) t g ih =
          more es (calls lim C q cs)
          ∙ omega (arith, t.0, t.2, ih q (held_after es (calls lim C q cs) g), length-append (take c.number c.answers) (so_far cs), length-take c.number c.answers)
      go (over r) t g ih = absurd g
