-- The route of a unit: the list of its nodes, its end and the answers that it takes. And what is said of routes: their parts, and the targets
-- of break and continue.
use Rattle.std.specs.Prelude.{ℕ, zero, suc, ◌≡◌, Bool, true, false, ◌||◌, List, [], ◌∷◌, ◌++◌, map, ◌⊎◌, eqb}
use Rattle.route_completion.specs.Tree.{near, named, Stmt, Stmts, Cases, leaf, if1, if2, if3, withs, block, label, loop, switch, try_c, try_f, nil, cons, none, case}
use Rattle.route_completion.specs.Sem.{Entry, plain, asked, Comp, normal, breaks, continues, returns, throws, spent, pick, no_break, no_label, loop_continues, comp_of, execs}
use Rattle.route_completion.specs.Ends as run_end

-- A unit in which a break or a continue has no target is refused (9).
abbrev pub end_of : Comp → ℕ
end_of normal = run_end.FellThrough
end_of (breaks l) = run_end.Astray
end_of (continues l) = run_end.Astray
end_of returns = run_end.Returned
end_of throws = run_end.Thrown
end_of spent = run_end.Spent

abbrev pub node_of : Entry → ℕ
node_of (plain n) = n
node_of (asked n) = n

-- The answers taken: the entries that take one.
unfoldable pub asks : List Entry → ℕ
asks [] = zero
asks (plain n ∷ es) = asks es
asks (asked n ∷ es) = suc (asks es)

pub record Route : Type 0 where
  pub list : List ℕ
  pub end : ℕ
  pub taken : ℕ

abbrev pub route_of : List Entry → ℕ → Route
route_of es e = record { list = map node_of es; end = e; taken = asks es }

-- The route of a unit, by the completion rules.
abbrev pub route : Stmts → List ℕ → Route
route ss qs = route_of (execs ss qs).nodes (end_of (execs ss qs).comp)

-- No number stands in the list twice.
abbrev pub Mem : ℕ → List ℕ → Type 0
Mem x [] = ⊥
Mem x (y ∷ l) = (x ≡ y) ⊎ Mem x l

abbrev pub Once : List ℕ → Type 0
Once [] = Unit {0}
Once (x ∷ l) = (Mem x l → ⊥) × Once l

abbrev pub onto : ℕ → List (List ℕ) → List (List ℕ)
onto n [] = (n ∷ []) ∷ []
onto n (p ∷ ps) = (n ∷ p) ∷ ps

-- A route is cut behind each entry that takes an answer; the last part may be empty.
unfoldable pub parts : List Entry → List (List ℕ)
parts [] = [] ∷ []
parts (plain n ∷ es) = onto n (parts es)
parts (asked n ∷ es) = (n ∷ []) ∷ parts es

abbrev pub AllOnce : List (List ℕ) → Type 0
AllOnce [] = Unit {0}
AllOnce (p ∷ ps) = Once p × AllOnce ps

-- The nodes of a unit that can be listed, in node order.
unfoldable mutual
  pub nodes_of : Stmt → List ℕ
  nodes_of (leaf n l) = n ∷ []
  nodes_of (if1 n s) = n ∷ nodes_of s
  nodes_of (if2 n s t) = n ∷ (nodes_of s ++ nodes_of t)
  nodes_of (if3 n t s) = n ∷ (nodes_of t ++ nodes_of s)
  nodes_of (withs n s) = n ∷ nodes_of s
  nodes_of (block ss) = nodes_of_all ss
  nodes_of (label l s) = nodes_of s
  nodes_of (loop n before test s) = n ∷ nodes_of s
  nodes_of (switch n cs) = n ∷ nodes_of_cases cs
  nodes_of (try_c b h) = nodes_of b ++ nodes_of h
  nodes_of (try_f b f) = nodes_of b ++ nodes_of f

  pub nodes_of_all : Stmts → List ℕ
  nodes_of_all nil = []
  nodes_of_all (cons s ss) = nodes_of s ++ nodes_of_all ss

  pub nodes_of_cases : Cases → List ℕ
  nodes_of_cases none = []
  nodes_of_cases (case d ss cs) = nodes_of_all ss ++ nodes_of_cases cs

-- A scope says which completions have a target; at the top of a unit no break and no continue has one.
abbrev pub top_scope : Comp → Bool
top_scope normal = true
top_scope (breaks l) = false
top_scope (continues l) = false
top_scope returns = true
top_scope throws = true
top_scope spent = true

-- "A break leaves the nearest loop or Switch", "a continue goes to the next answer of the nearest loop".
abbrev pub loop_scope : List ℕ → (Comp → Bool) → Comp → Bool
loop_scope ls σ c = loop_continues ls c || σ (no_break c)

-- A break "with a label" leaves "the nearest Labeled of that name". A continue to the label l has no target in a statement so labelled, until
-- the loop that it holds, "only Labeled between", gives it one.
abbrev pub label_scope : ℕ → (Comp → Bool) → Comp → Bool
label_scope l σ normal = σ normal
label_scope l σ (breaks m) = σ (no_label l (breaks m))
label_scope l σ (continues near) = σ (continues near)
label_scope l σ (continues (named m)) = pick (eqb m l) false (σ (continues (named m)))
label_scope l σ returns = σ returns
label_scope l σ throws = σ throws
label_scope l σ spent = σ spent

-- Every break and every continue has its target.
abbrev mutual
  pub Scoped : Stmt → List ℕ → (Comp → Bool) → Type 0
  Scoped (leaf n l) ls σ = σ (comp_of l) ≡ true
  Scoped (if1 n s) ls σ = Scoped s [] σ
  Scoped (if2 n s t) ls σ = Scoped s [] σ × Scoped t [] σ
  Scoped (if3 n t s) ls σ = Scoped t [] σ × Scoped s [] σ
  Scoped (withs n s) ls σ = Scoped s [] σ
  Scoped (block ss) ls σ = ScopedAll ss σ
  Scoped (label l s) ls σ = Scoped s (l ∷ ls) (label_scope l σ)
  Scoped (loop n before test s) ls σ = Scoped s [] (loop_scope ls σ)
  Scoped (switch n cs) ls σ = ScopedCases cs (λ c. σ (no_break c))
  Scoped (try_c b h) ls σ = Scoped b [] σ × Scoped h [] σ
  Scoped (try_f b f) ls σ = Scoped b [] σ × Scoped f [] σ

  pub ScopedAll : Stmts → (Comp → Bool) → Type 0
  ScopedAll nil σ = Unit {0}
  ScopedAll (cons s ss) σ = Scoped s [] σ × ScopedAll ss σ

  pub ScopedCases : Cases → (Comp → Bool) → Type 0
  ScopedCases none σ = Unit {0}
  ScopedCases (case d ss cs) σ = ScopedAll ss σ × ScopedCases cs σ
