-- The call of document 02, 10/13, "that runs a lent code slice": "It gives 18, then 12." The run is the machine's (code_flat, Machine.antt), which "ends
-- with 5 where more instructions pass without an answer than the slice has numbers, or where pending ends run below none or above 512".
use Rattle.std.specs.Prelude.{ℕ, List, Result, Ok, Err}
use Rattle.code_flat.specs.Machine.{code_route}
use Rattle.code_valid.specs.Valid.{check}
use Rattle.route_viewer.specs.declared.Route.{Route}
use Rattle.route_viewer.specs.Shown.{Routed, shown_answer, shown_slice}
use Rattle.call_run.specs.declared.NoRoute.{NoRoute}
use Rattle.call_run.specs.declared.NoRoute.TheVariants.{Invalid, Refused}

abbrev pub shown_by : Routed → Result Route NoRoute
shown_by (Ok r) = Ok r
shown_by (Err e) = Err (Refused e)

abbrev pub answer_by : Result (Unit {0}) ℕ → Routed → Result Route NoRoute
answer_by (Ok v) r = shown_by r
answer_by (Err p) r = Err (Invalid p)

-- Numbers that are no code leave the slice as it was.
abbrev pub slice_by : Result (Unit {0}) ℕ → List ℕ → List ℕ → List ℕ
slice_by (Ok v) s s₀ = s
slice_by (Err p) s s₀ = s₀

unfoldable pub run_answer : List ℕ → List ℕ → ℕ → Result Route NoRoute
run_answer C qs len = answer_by (check C) (shown_answer (code_route C qs) len)

unfoldable pub run_slice : List ℕ → List ℕ → List ℕ → List ℕ
run_slice C qs s = slice_by (check C) (shown_slice (code_route C qs) s) s
