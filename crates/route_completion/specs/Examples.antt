-- Document 01's route, and a few units more, run.
use Rattle.std.specs.Prelude.{ℕ, ◌≡◌, refl, true, false, List, [], ◌∷◌}
use Rattle.route_completion.specs.Tree.{near, named, Stmt, Stmts, simple, brk, con, ret, thr, leaf, if1, if2, if3, block, label, loop, switch, try_f, nil, cons, none, case}
use Rattle.route_completion.specs.Sem.{exec, turns, rounds}
use Rattle.route_completion.specs.Route.{Route, asks, route}

abbrev pub one : Stmt → Stmts
one s = cons s nil

abbrev pub two : Stmt → Stmt → Stmts
two s t = cons s (one t)

abbrev pub gives : List ℕ → ℕ → ℕ → Route
gives l e t = record { list = l; end = e; taken = t }

-- `a: while(t){ switch(s){ case c: continue a; } x; }`: label 7, while 1, switch 2, continue 3, x 4.
abbrev pub row : Stmts
row = one (label 7 (loop 1 true true (block (two (switch 2 (case false (one (leaf 3 (con (named 7)))) none)) (leaf 4 simple)))))

pub row1 : route row (1 ∷ 0 ∷ 0 ∷ []) ≡ gives (1 ∷ 2 ∷ 3 ∷ 1 ∷ []) 0 3
unfolding exec turns rounds asks
row1 = refl

pub row2 : route row (1 ∷ 5 ∷ 0 ∷ []) ≡ gives (1 ∷ 2 ∷ 4 ∷ 1 ∷ []) 0 3
unfolding exec turns rounds asks
row2 = refl

-- The answers are spent at the switch, which is not listed then.
pub row3 : route row (1 ∷ []) ≡ gives (1 ∷ []) 3 1
unfolding exec turns rounds asks
row3 = refl

-- A do loop runs its body before it asks; a `for` without a test goes on at 0; a break leaves the switch, with a label the loop.
abbrev pub mixed : Stmts
mixed =
    two (loop 1 false true (block (two (switch 2 (case false (one (leaf 3 (brk near))) (case true (one (leaf 4 simple)) none))) (leaf 5 simple))))
    (label 9 (loop 6 true false (if3 7 (leaf 8 simple) (leaf 9 (brk (named 9))))))

pub mixed1 : route mixed (0 ∷ 1 ∷ 8 ∷ 0 ∷ 0 ∷ 0 ∷ 0 ∷ 1 ∷ 4 ∷ []) ≡ gives (2 ∷ 3 ∷ 5 ∷ 1 ∷ 2 ∷ 4 ∷ 5 ∷ 1 ∷ 6 ∷ 7 ∷ 8 ∷ 6 ∷ 7 ∷ 9 ∷ []) 0 8
unfolding exec turns rounds asks
mixed1 = refl

-- A break with a label leaves the loop that has it, not the nearest one.
abbrev pub outer : Stmts
outer = one (label 9 (loop 1 true true (block (two (loop 2 true true (leaf 3 (brk (named 9)))) (leaf 4 simple)))))

pub outer1 : route outer (1 ∷ 1 ∷ []) ≡ gives (1 ∷ 2 ∷ 3 ∷ []) 0 2
unfolding exec turns rounds asks
outer1 = refl

-- `default` is counted where it stands, and is taken where there is no such case.
abbrev pub chosen : Stmts
chosen = one (switch 1 (case true (one (leaf 2 (brk near))) (case false (one (leaf 3 simple)) none)))

pub chosen1 : route chosen (1 ∷ []) ≡ gives (1 ∷ 3 ∷ []) 0 1
unfolding exec asks
chosen1 = refl

pub chosen2 : route chosen (2 ∷ []) ≡ gives (1 ∷ 2 ∷ []) 0 1
unfolding exec asks
chosen2 = refl

-- A return in a try waits for its finally; a continue there replaces it, and a throw goes on behind it.
abbrev pub tried : Stmts
tried = two (loop 1 true true (try_f (if2 2 (leaf 3 ret) (leaf 4 thr)) (block (one (if1 5 (leaf 6 (con near))))))) (leaf 7 simple)

pub tried1 : route tried (1 ∷ 1 ∷ 1 ∷ 1 ∷ 0 ∷ 0 ∷ 7 ∷ []) ≡ gives (1 ∷ 2 ∷ 3 ∷ 5 ∷ 6 ∷ 1 ∷ 2 ∷ 4 ∷ 5 ∷ []) 2 6
unfolding exec turns rounds asks
tried1 = refl
