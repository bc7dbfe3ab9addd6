-- What the loop over the instructions keeps: the entries so far are counted and laid over the slice, and the rest of the run is still to come.
use Rattle.std.specs.Prelude.{ℕ, suc, ◌+◌, ◌-◌, ◌≤◌, ◌<◌, ◌≡◌, refl, ◌≢◌, List, [], ◌∷◌, ◌++◌, map, length, drop, set}
use Rattle.std.proofs.Common.{sym, ◌∙◌, subst, append-nil}
use Rattle.std.proofs.Math.Path.{ap}
use Rattle.std.proofs.lemmas.List.{map-append, length-map}
use native.Mathlib.Omega.{arith}
use Rattle.route_completion.specs.Sem.{Entry, plain, asked}
use Rattle.route_completion.specs.Route.{asks, node_of, route_of}
use Rattle.route_completion.proofs.TakenLaws.{asks_append}
use Rattle.route_list.specs.Listing.{most, saturated, next, laid, Listing}
use Rattle.route_list.proofs.ListingLaws.{listing_first, listing_more}
use Rattle.code_flat.specs.Machine.{room, res, Pos, pos, code_route}
use Rattle.code_marks.specs.Stop.{Stop, held, over, after, stops, stopped}
use Rattle.code_marks.proofs.StepsLaws.{after_none, after_twice}
use Rattle.code_marks.proofs.StopLaws.{never_stopped}
use Rattle.code_machine.specs.Pending.{half, stack}
use Rattle.code_machine.specs.Turn.{up_to, Ends, Going}
use Rattle.code_machine.specs.Halted.{stopped_end, route_to, StandsAt, Told, stop_from}
use Rattle.code_machine.specs.declared.Place.{Place}
use Rattle.code_machine.specs.declared.Ran.{Ran}

-- The run that comes to s, stopped behind so many answers, stands at p after the entries so far; n of them are counted.
pub record Kept (C qs : List ℕ) (stop : ℕ) (s : Stop) (ends f₀ f : List ℕ) (p : Place) (n : ℕ) : Type 0 where
  pub within : p.at ≤ stop
  pub named : p.at ≡ stop → p.pc < half
  pub shown : List Entry
  pub halts : s ≡ after shown (up_to C qs ends p (stop - p.at))
  pub takes : asks shown ≡ p.at
  pub listing : Listing f₀ f (map node_of shown) n

pub kept_first : (C qs ends f : List ℕ) (stop t n b : ℕ) → t < half → b ≡ length C
    → Kept C qs stop (stopped room C stop (pos t (stack ends n)) qs) ends f f (record { pc = t; at = 0; budget = b; pending = n }) 0
unfolding asks
kept_first C qs ends f stop t n b l h =
    let z : stop ≡ stop - 0 = omega arith in
    record {
      within = omega arith;
      named = λ e. l;
      shown = [];
      halts = (λ i. stops room C (z i) (sym h i) t (stack ends n) qs) ∙ sym (after_none (stops room C (stop - 0) b t (stack ends n) qs));
      takes = refl;
      listing = listing_first f;
    }

asks_most : (es : List Entry) → asks es ≤ length es
unfolding asks
asks_most [] = omega arith
asks_most (plain n ∷ es) = omega (arith, asks_most es)
asks_most (asked n ∷ es) = omega (arith, asks_most es)

-- An instruction more, and the rest of the run.
module _ (C qs ends ends' f₀ f : List ℕ) (stop : ℕ) (s : Stop) (p : Place) (n : ℕ) (k : Kept C qs stop s ends f₀ f p n) (d : p.at ≢ stop)
    (l : List ℕ) (q : Place) (g : Going C qs ends ends' p l q) where
  nodes : map node_of k.shown ++ l ≡ map node_of (k.shown ++ g.shown)
  nodes = ap (λ x. map node_of k.shown ++ x) (sym g.nodes) ∙ sym (map-append node_of k.shown g.shown)

  kept : length l ≤ 1 → (f' : List ℕ) (m : ℕ) → Listing f₀ f' (map node_of k.shown ++ l) m → Kept C qs stop s ends' f₀ f' q m
  kept short f' m h =
      let one : asks g.shown ≤ 1 = omega (arith, asks_most g.shown, length-map g.shown node_of, ap length g.nodes) in
      record {
        within = omega (arith, k.within, g.takes, one);
        named = λ e. g.named (λ z. d (z ∙ e));
        shown = k.shown ++ g.shown;
        halts =
            k.halts ∙ ap (after k.shown) (g.halts (stop - p.at) (stop - q.at) (omega (arith, k.within, g.takes, one)) (omega (arith, k.within)))
            ∙ sym (after_twice k.shown g.shown (up_to C qs ends' q (stop - q.at)));
        takes = omega (arith, asks_append k.shown g.shown, k.takes, g.takes);
        listing = subst (λ x. Listing f₀ f' x m) nodes h;
      }

-- One that lists nothing.
pub kept_on : (C qs ends ends' f₀ f : List ℕ) (stop : ℕ) (s : Stop) (p : Place) (n : ℕ) → Kept C qs stop s ends f₀ f p n → p.at ≢ stop → (q : Place)
    → Going C qs ends ends' p [] q → Kept C qs stop s ends' f₀ f q n
kept_on C qs ends ends' f₀ f stop s p n k d q g =
    kept C qs ends ends' f₀ f stop s p n k d [] q g (omega arith) f n (subst (λ x. Listing f₀ f x n) (sym (append-nil (map node_of k.shown))) k.listing)

-- One that lists x.
pub kept_more : (C qs ends ends' f₀ f : List ℕ) (stop : ℕ) (s : Stop) (p : Place) (n : ℕ) → length f₀ ≤ most → Kept C qs stop s ends f₀ f p n → p.at ≢ stop → (x : ℕ) (q : Place)
    → Going C qs ends ends' p (x ∷ []) q → Kept C qs stop s ends' f₀ (set f n x) q (next n)
kept_more C qs ends ends' f₀ f stop s p n m k d x q g =
    kept C qs ends ends' f₀ f stop s p n k d (x ∷ []) q g (omega arith) (set f n x) (next n) (listing_more f₀ f (map node_of k.shown) n x m k.listing)

module _ (C qs ends f₀ f : List ℕ) (stop : ℕ) (s : Stop) (p : Place) (n : ℕ) (k : Kept C qs stop s ends f₀ f p n) where
  told : (z : Stop) (e : ℕ) → s ≡ z → route_to z ≡ route_of k.shown e → Told s f₀ f (record { end = e; entries = n; taken = p.at })
  told z e h r =
      let w : route_to s ≡ route_of k.shown e = ap route_to h ∙ r in
      record {
        end = sym (ap (λ x. x.end) w);
        entries = k.listing.counts ∙ ap (λ x. saturated (length x.list)) (sym w);
        taken = sym k.takes ∙ ap (λ x. x.taken) (sym w);
        list = k.listing.wrote ∙ ap (λ x. laid x.list f₀) (sym w);
      }

  -- The stop is reached.
  held_now : p.at ≡ stop → s ≡ held (k.shown ++ []) (pos p.pc (stack ends p.pending)) (drop p.at qs)
  unfolding stops
  held_now e =
      let z : stop - p.at ≡ 0 = omega arith in
      k.halts ∙ ap (λ m. after k.shown (up_to C qs ends p m)) z

  pub kept_held : p.at ≡ stop → Told s f₀ f (record { end = stopped_end; entries = n; taken = p.at })
  kept_held e = told (held (k.shown ++ []) (pos p.pc (stack ends p.pending)) (drop p.at qs)) stopped_end (held_now e) (ap (λ l. route_of l stopped_end) (append-nil k.shown))

  pub kept_stands : p.at ≡ stop → (t : ℕ) → t ≡ p.pc → StandsAt s (pos t (stack ends p.pending))
  kept_stands e t h = subst (λ z. StandsAt z (pos t (stack ends p.pending))) (sym (held_now e)) (ap (λ x. pos x (stack ends p.pending)) (sym h))

  -- The run has ended before it.
  over_now : p.at ≢ stop → (e : ℕ) → Ends C qs ends p e → s ≡ over (res (k.shown ++ []) e (drop p.at qs))
  over_now d e h =
      let z : stop - p.at ≡ suc (stop - p.at - 1) = omega (arith, k.within) in
      k.halts ∙ ap (λ m. after k.shown (up_to C qs ends p m)) z ∙ ap (after k.shown) (h (stop - p.at - 1))

  pub kept_over : p.at ≢ stop → (e : ℕ) → Ends C qs ends p e → Told s f₀ f (record { end = e; entries = n; taken = p.at })
  kept_over d e h = told (over (res (k.shown ++ []) e (drop p.at qs))) e (over_now d e h) (ap (λ l. route_of l e) (append-nil k.shown))

  pub over_stands : p.at ≢ stop → (e : ℕ) → Ends C qs ends p e → (x : Pos) → StandsAt s x
  over_stands d e h x = subst (λ z. StandsAt z x) (sym (over_now d e h)) tt

-- A run from the start that is never stopped is the whole run.
never_held : (C qs ends : List ℕ) (n : ℕ) → n ≡ length qs + 1 → route_to (stop_from C qs ends (record { place = 0; pending = 0 }) n) ≡ code_route C qs
unfolding stack
never_held C qs ends n e = ap route_to (never_stopped room C n (pos 0 []) qs (omega arith))

pub told_run : (C qs ends f₀ f : List ℕ) (n : ℕ) (ran : Ran) → Told (stop_from C qs ends (record { place = 0; pending = 0 }) n) f₀ f ran → n ≡ length qs + 1
    → (ran.end ≡ (code_route C qs).end) × ((ran.entries ≡ saturated (length (code_route C qs).list)) × ((ran.taken ≡ (code_route C qs).taken) × (f ≡ laid (code_route C qs).list f₀)))
told_run C qs ends f₀ f n ran t h =
    let w = never_held C qs ends n h in
    (t.end ∙ ap (λ r. r.end) w, (t.entries ∙ ap (λ r. saturated (length r.list)) w, (t.taken ∙ ap (λ r. r.taken) w, t.list ∙ ap (λ r. laid r.list f₀) w)))
