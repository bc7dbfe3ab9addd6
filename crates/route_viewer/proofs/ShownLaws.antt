-- Where a route fits and where it does not.
use Rattle.std.specs.Prelude.{ℕ, ◌≤◌, ◌<◌, ◌≡◌, List, ◌++◌, length, Err}
use Rattle.std.proofs.Common.{ap, sym, arith, le-leb, take_all}
use Rattle.std.proofs.lemmas.Bool.{lt-leb}
use Rattle.std.proofs.Math.ListN.{drop}
use Rattle.route_completion.specs.Route.{Route}
use Rattle.route_list.specs.Listing.{most, saturated, laid}
use Rattle.refusal_verdict.specs.declared.Refusal.TheVariants as refusal
use Rattle.refusal_verdict.specs.declared.Refused.TheVariants.{Short}
use Rattle.route_viewer.specs.Shown.{routed, shown_answer, shown_slice}

module _ (r : Route) (s : List ℕ) (small : length s < most) (n : ℕ) (counted : n ≡ saturated (length r.list)) where
  pub short_answer : length s < n → shown_answer r (length s) ≡ Err (Short refusal.RouteSlice n)
  unfolding shown_answer
  short_answer h = rw (lt-leb (length r.list) (length s) (omega arith)) (λ i. Err (Short refusal.RouteSlice (sym counted i)))

  pub short_slice : length s < n → shown_slice r s ≡ s
  unfolding shown_slice
  short_slice h = rw (lt-leb (length r.list) (length s) (omega arith))

  pub whole : n ≤ length s → n ≡ length r.list
  whole h = omega arith

  pub whole_answer : n ≤ length s → (e t : ℕ) → e ≡ r.end → t ≡ r.taken → shown_answer r (length s) ≡ routed e n t
  unfolding shown_answer
  whole_answer h e t p q = rw (le-leb (length r.list) (length s) (omega arith)) (λ i. routed (sym p i) (sym (whole h) i) (sym q i))

  pub whole_slice : n ≤ length s → shown_slice r s ≡ laid r.list s
  unfolding shown_slice laid
  whole_slice h = rw (le-leb (length r.list) (length s) (omega arith)) (ap (λ l. l ++ drop (length r.list) s) (sym (take_all (length s) r.list (omega arith))))
