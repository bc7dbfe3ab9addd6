-- Codes run by the machine: document 01's unit, an If whose alternate stands first, a finally block, and lists of numbers that are no unit's code.
use Rattle.std.specs.Prelude.{◌≡◌, refl, [], ◌∷◌}
use Rattle.route_completion.specs.Tree.{simple, leaf, if3}
use Rattle.route_completion.specs.Route.{asks}
use Rattle.route_completion.specs.Examples.{one, gives, row, tried}
use Rattle.code_flat.specs.Code.{code, size, place, unit}
use Rattle.code_flat.specs.Machine.{run, runs, fetch, unwind, chase, code_route}

-- while, its Block, switch, case, continue, x, and the ends.
pub row_code : unit row
    ≡ (2 ∷ 3 ∷ 0 ∷ 3 ∷ 1 ∷ 10 ∷ 7 ∷ 2 ∷ 34 ∷ 0
    ∷ 2 ∷ 13 ∷ 0
    ∷ 4 ∷ 2 ∷ 20 ∷ 17 ∷ 2 ∷ 29 ∷ 0
    ∷ 7 ∷ 0 ∷ 24 ∷ 0
    ∷ 1 ∷ 3 ∷ 2 ∷ 3 ∷ 0
    ∷ 1 ∷ 4 ∷ 2 ∷ 3 ∷ 0
    ∷ 6 ∷ 0 ∷ 6 ∷ 1 ∷ 6 ∷ 2 ∷ 6 ∷ 5 ∷ [])
unfolding unit code size place
row_code = refl

pub row1 : code_route (unit row) (1 ∷ 0 ∷ 0 ∷ []) ≡ gives (1 ∷ 2 ∷ 3 ∷ 1 ∷ []) 0 3
unfolding run runs fetch unwind chase unit code size place asks
row1 = refl

pub row2 : code_route (unit row) (1 ∷ 5 ∷ 0 ∷ []) ≡ gives (1 ∷ 2 ∷ 4 ∷ 1 ∷ []) 0 3
unfolding run runs fetch unwind chase unit code size place asks
row2 = refl

pub row3 : code_route (unit row) (1 ∷ []) ≡ gives (1 ∷ []) 3 1
unfolding run runs fetch unwind chase unit code size place asks
row3 = refl

-- The alternate 3 stands before the held statement 4.
pub turned : code_route (unit (one (if3 2 (leaf 3 simple) (leaf 4 simple)))) (1 ∷ []) ≡ gives (2 ∷ 4 ∷ []) 0 1
unfolding run runs fetch unwind chase unit code size place asks
turned = refl

-- No code, no instruction, and a jump to what is pending where nothing is: 5. A ring ends once more instructions have passed than the code has
-- numbers.
pub empty : code_route [] (1 ∷ []) ≡ gives [] 5 0
unfolding run runs fetch asks
empty = refl

pub zeros : code_route (0 ∷ 0 ∷ 0 ∷ []) (1 ∷ []) ≡ gives [] 5 0
unfolding run runs fetch asks
zeros = refl

pub below : code_route (1 ∷ 8 ∷ 2 ∷ 0 ∷ 0 ∷ []) (1 ∷ []) ≡ gives (8 ∷ []) 5 0
unfolding run runs fetch unwind asks
below = refl

pub ring : code_route (1 ∷ 8 ∷ 1 ∷ 9 ∷ 2 ∷ 2 ∷ 0 ∷ []) (1 ∷ []) ≡ gives (8 ∷ 9 ∷ 9 ∷ 9 ∷ []) 5 0
unfolding run runs fetch unwind asks
ring = refl

-- A return waits for its finally block, a continue there replaces it, and a throw goes on behind it.
pub finally_runs : code_route (unit tried) (1 ∷ 1 ∷ 1 ∷ 1 ∷ 0 ∷ 0 ∷ 7 ∷ []) ≡ gives (1 ∷ 2 ∷ 3 ∷ 5 ∷ 6 ∷ 1 ∷ 2 ∷ 4 ∷ 5 ∷ []) 2 6
unfolding run runs fetch unwind chase unit code size place asks
finally_runs = refl

-- The finally block at 5 is opened and left twice: behind the second time nothing is pending.
pub once_opened : code_route (5 ∷ 5 ∷ 2 ∷ 10 ∷ 0 ∷ 1 ∷ 7 ∷ 2 ∷ 0 ∷ 1 ∷ 2 ∷ 0 ∷ 0 ∷ []) [] ≡ gives (7 ∷ []) 5 0
unfolding run runs fetch unwind asks
once_opened = refl
