-- What is shown of a route.
use Rattle.std.specs.Prelude.{ℕ, List, cond, leb, length, Result, Ok, Err}
use Rattle.refusal_verdict.specs.declared.Refusal.TheVariants as refusal
use Rattle.refusal_verdict.specs.declared.Refused.{Refused}
use Rattle.refusal_verdict.specs.declared.Refused.TheVariants.{Short}
use Rattle.route_list.specs.Over.{over}
use Rattle.route_completion.specs.Route.{Route}
use Rattle.route_list.specs.Listing.{saturated}
use Rattle.route_viewer.specs.declared.Route as shown

-- what a call of routes answers: a route by its end, the entries listed and the answers taken, or a refusal
abbrev pub Routed : Type 0
Routed = Result shown.Route Refused

abbrev pub routed : ℕ → ℕ → ℕ → Routed
routed end entries taken = Ok (record { end = end; entries = entries; taken = taken })

-- 12: "The route slice is shorter than the route", with the length needed; else the end, the list's length and the answers taken
unfoldable pub shown_answer : Route → ℕ → Routed
shown_answer r len = cond (leb (length r.list) len) (routed r.end (length r.list) r.taken) (Err (Short refusal.RouteSlice (saturated (length r.list))))

-- the list, where it fits
unfoldable pub shown_slice : Route → List ℕ → List ℕ
shown_slice r s = cond (leb (length r.list) (length s)) (over r.list s) s
