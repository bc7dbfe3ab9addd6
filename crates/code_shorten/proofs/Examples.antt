-- The pass on document 01's unit, on a jump out of two finally blocks, and on a ring; and codes that are refused.
use Rattle.std.specs.Prelude.{◌≡◌, refl, [], ◌∷◌, Ok, Err}
use Rattle.route_completion.specs.Tree.{simple, ret, leaf, block, try_f, nil, cons}
use Rattle.route_completion.specs.Examples.{one, two, row}
use Rattle.code_flat.specs.Code.{code, size, place, unit}
use Rattle.code_valid.specs.Instrs.{flat, parse, find, begins}
use Rattle.code_valid.specs.Valid.{all_begin, first_bad, check}
use Rattle.code_shorten.specs.Short.{hop, last, threaded, named, round, rounds, moved, kept, close_up, shorter}

-- An entry that is no instruction; one cut off; a target inside an instruction; a last instruction that runs on; no code.
pub no_instruction : check (1 ∷ 5 ∷ 9 ∷ []) ≡ Err 2
unfolding check parse first_bad all_begin begins
no_instruction = refl

pub cut_off : check (6 ∷ 0 ∷ 2 ∷ 0 ∷ []) ≡ Err 2
unfolding check parse first_bad all_begin begins
cut_off = refl

pub inside : check (6 ∷ 0 ∷ 2 ∷ 1 ∷ 0 ∷ []) ≡ Err 2
unfolding check parse first_bad all_begin begins
inside = refl

pub runs_on : check (6 ∷ 0 ∷ 1 ∷ 7 ∷ []) ≡ Err 2
unfolding check parse first_bad all_begin begins
runs_on = refl

pub empty : check [] ≡ Err 0
unfolding check parse
empty = refl

pub row_good : check (unit row) ≡ Ok tt
unfolding check parse first_bad all_begin begins unit code size place
row_good = refl

-- A ring of two jumps, and one that leads into it, stay; what stands behind them goes.
pub ring : shorter (2 ∷ 3 ∷ 0 ∷ 2 ∷ 6 ∷ 0 ∷ 2 ∷ 3 ∷ 0 ∷ 6 ∷ 0 ∷ []) ≡ 2 ∷ 3 ∷ 0 ∷ 2 ∷ 6 ∷ 0 ∷ 2 ∷ 3 ∷ 0 ∷ []
unfolding shorter flat parse find hop last threaded named round rounds moved kept close_up
ring = refl

pub row_short : shorter (unit row)
    ≡ (2 ∷ 3 ∷ 0 ∷ 3 ∷ 1 ∷ 10 ∷ 7 ∷ 2 ∷ 34 ∷ 0 ∷ 2 ∷ 13 ∷ 0 ∷ 4 ∷ 2 ∷ 20 ∷ 17 ∷ 2 ∷ 29 ∷ 0 ∷ 7 ∷ 0 ∷ 24 ∷ 0 ∷ 1 ∷ 3 ∷ 2 ∷ 3 ∷ 0 ∷ 1 ∷ 4 ∷ 2 ∷ 3 ∷ 0 ∷ 6 ∷ 0 ∷ [])
unfolding shorter flat parse find hop last threaded named round rounds moved kept close_up unit code size place
row_short = refl

-- `try { 3; {} } finally { 6; } return 7; 8;`: behind 3 a jump inside the try leads to one out of it, and goes out of it itself. The empty block,
-- the statement behind the return, and the ends that nothing comes to are dropped.
pub leaving : shorter (unit (cons (try_f (block (two (leaf 3 simple) (block nil))) (block (one (leaf 6 simple)))) (two (leaf 7 ret) (leaf 8 simple))))
    ≡ (5 ∷ 10 ∷ 2 ∷ 5 ∷ 1 ∷ 1 ∷ 3 ∷ 2 ∷ 18 ∷ 0 ∷ 2 ∷ 13 ∷ 1 ∷ 1 ∷ 6 ∷ 2 ∷ 0 ∷ 1 ∷ 1 ∷ 7 ∷ 2 ∷ 23 ∷ 0 ∷ 6 ∷ 1 ∷ [])
unfolding shorter flat parse find hop last threaded named round rounds moved kept close_up unit code size place
leaving = refl
