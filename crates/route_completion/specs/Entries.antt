-- What can be said of the entries of a route, each by itself.
use Rattle.std.specs.Prelude.{Bool, true, false, List, [], ◌∷◌}
use Rattle.route_completion.specs.Tree.{Stmt, Stmts, Cases, leaf, if1, if2, if3, withs, block, label, loop, switch, try_c, try_f, nil, cons, none, case}
use Rattle.route_completion.specs.Sem.{Entry, plain, asked}

-- "If, Switch and each loop turn take one answer and are listed as they do": whether an entry is one of these.
abbrev pub takes_answer : Entry → Bool
takes_answer (plain n) = false
takes_answer (asked n) = true

-- P holds of each entry of a list.
abbrev pub Each : (Entry → Type 0) → List Entry → Type 0
Each P [] = Unit {0}
Each P (e ∷ es) = P e × Each P es

-- P holds of each entry that a tree can list.
abbrev mutual
  pub Lists : (Entry → Type 0) → Stmt → Type 0
  Lists P (leaf n l) = P (plain n)
  Lists P (if1 n s) = P (asked n) × Lists P s
  Lists P (if2 n s t) = P (asked n) × (Lists P s × Lists P t)
  Lists P (if3 n t s) = P (asked n) × (Lists P t × Lists P s)
  Lists P (withs n s) = P (plain n) × Lists P s
  Lists P (block ss) = ListsAll P ss
  Lists P (label l s) = Lists P s
  Lists P (loop n before test s) = P (asked n) × Lists P s
  Lists P (switch n cs) = P (asked n) × ListsCases P cs
  Lists P (try_c b h) = Lists P b × Lists P h
  Lists P (try_f b f) = Lists P b × Lists P f

  pub ListsAll : (Entry → Type 0) → Stmts → Type 0
  ListsAll P nil = Unit {0}
  ListsAll P (cons s ss) = Lists P s × ListsAll P ss

  pub ListsCases : (Entry → Type 0) → Cases → Type 0
  ListsCases P none = Unit {0}
  ListsCases P (case d ss cs) = ListsAll P ss × ListsCases P cs
