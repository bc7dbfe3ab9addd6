-- The flat code of a unit. Document 01: "The code takes at most 16 numbers per node of the unit and is made without the answers." Each node's own
-- numbers stand together, in node order. Opcodes.antt has the instructions.
use Rattle.std.specs.Prelude.{ℕ, zero, suc, ◌+◌, List, [], ◌∷◌, ◌++◌}
use Rattle.route_completion.specs.Tree.{Stmt, Stmts, Cases, leaf, if1, if2, if3, withs, block, label, loop, switch, try_c, try_f, nil, cons, none, case}
use Rattle.route_completion.specs.Sem.{Comp, normal, breaks, continues, returns, throws, spent, pick, loop_continues, no_break, no_label, default_at, comp_of}
use Rattle.route_completion.specs.Ends as run_end
use Rattle.code_flat.specs.Opcodes as op

-- Where control goes: to a place of the code, at a depth of the pending ends; or the run has ended.
pub data Stat : Type 0 where
  at : ℕ → ℕ → Stat
  ended : ℕ → Stat

abbrev pub place_of : Stat → ℕ
place_of (at t d) = t
place_of (ended e) = 0

abbrev pub depth_of : Stat → ℕ
depth_of (at t d) = d
depth_of (ended e) = 0

-- How many numbers a statement takes: the sum of its nodes' own (Own.antt).
unfoldable mutual
  pub size : Stmt → ℕ
  size (leaf n l) = 5
  size (if1 n s) = 7 + size s
  size (if2 n s t) = 7 + size s + size t
  size (if3 n t s) = 7 + size t + size s
  size (withs n s) = 2 + size s
  size (block ss) = 3 + sizes ss
  size (label l s) = size s
  size (loop n before test s) = 10 + size s
  size (switch n cs) = 7 + size_cases cs
  size (try_c b h) = size b + size h
  size (try_f b f) = 2 + size b + size f

  pub sizes : Stmts → ℕ
  sizes nil = 0
  sizes (cons s ss) = size s + sizes ss

  pub size_cases : Cases → ℕ
  size_cases none = 0
  size_cases (case d ss cs) = 4 + sizes ss + size_cases cs

abbrev pub goto : Stat → List ℕ
goto s = op.Leave ∷ place_of s ∷ depth_of s ∷ []

abbrev pub case_to : ℕ → Stat → List ℕ
case_to c s = op.Case ∷ c ∷ place_of s ∷ depth_of s ∷ []

-- The environment says where each completion leads. The number δ is the depth at which the statement stands.
abbrev pub next : (Comp → Stat) → Stat → Comp → Stat
next ρ x normal = x
next ρ x (breaks l) = ρ (breaks l)
next ρ x (continues l) = ρ (continues l)
next ρ x returns = ρ returns
next ρ x throws = ρ throws
next ρ x spent = ρ spent

-- In the block of a try with a catch at t.
abbrev pub in_try : (Comp → Stat) → ℕ → ℕ → Comp → Stat
in_try ρ t δ normal = ρ normal
in_try ρ t δ (breaks l) = ρ (breaks l)
in_try ρ t δ (continues l) = ρ (continues l)
in_try ρ t δ returns = ρ returns
in_try ρ t δ throws = at t δ
in_try ρ t δ spent = ρ spent

-- In the body of a loop whose ASK stands at m.
abbrev pub in_loop : List ℕ → ℕ → ℕ → (Comp → Stat) → Comp → Stat
in_loop ls m δ ρ c = pick (loop_continues ls c) (at m δ) (ρ (no_break c))

-- Where a list of statements begins: an empty one has no code.
abbrev pub first : Stmts → ℕ → ℕ → (Comp → Stat) → Stat
first nil o δ ρ = ρ normal
first (cons s ss) o δ ρ = at o δ

-- The next case, for the choice and for the fall through.
abbrev pub link : Cases → ℕ → ℕ
link none o = 0
link (case d ss cs) o = o

abbrev pub through : Cases → ℕ → ℕ → (Comp → Stat) → Stat
through none o δ ρ = ρ normal
through (case d ss cs) o δ ρ = at o δ

-- The place of the i-th case; z behind the last.
unfoldable pub place : Cases → ℕ → ℕ → ℕ → ℕ
place none o z i = z
place (case d ss cs) o z zero = o
place (case d ss cs) o z (suc i) = place cs (o + 4 + sizes ss) z i

-- The code that stands at o.
unfoldable mutual
  pub code : Stmt → List ℕ → ℕ → ℕ → (Comp → Stat) → List ℕ
  code (leaf n l) ls o δ ρ = op.List ∷ n ∷ goto (ρ (comp_of l))
  code (if1 n s) ls o δ ρ = op.Ask ∷ n ∷ (o + 7) ∷ (o + 4) ∷ goto (ρ normal) ++ code s [] (o + 7) δ ρ
  code (if2 n s t) ls o δ ρ =
      op.Ask ∷ n ∷ (o + 7) ∷ (o + 7 + size s) ∷ goto (ρ normal) ++ (code s [] (o + 7) δ ρ ++ code t [] (o + 7 + size s) δ ρ)
  code (if3 n t s) ls o δ ρ =
      op.Ask ∷ n ∷ (o + 7 + size t) ∷ (o + 7) ∷ goto (ρ normal) ++ (code t [] (o + 7) δ ρ ++ code s [] (o + 7 + size t) δ ρ)
  code (withs n s) ls o δ ρ = op.List ∷ n ∷ code s [] (o + 2) δ ρ
  code (block ss) ls o δ ρ = goto (first ss (o + 3) δ ρ) ++ codes ss (o + 3) δ ρ
  code (label l s) ls o δ ρ = code s (l ∷ ls) o δ (λ c. ρ (no_label l c))
  code (loop n before test s) ls o δ ρ =
      op.Leave ∷ pick before (o + 3) (o + 10) ∷ δ ∷ op.Ask ∷ n ∷ (o + 10) ∷ pick test (o + 7) (o + 10) ∷ goto (ρ normal) ++ code s [] (o + 10) δ (in_loop ls (o + 3) δ ρ)
  code (switch n cs) ls o δ ρ =
      op.Select ∷ n ∷ link cs (o + 7) ∷ place cs (o + 7) (o + 4) (default_at cs) ∷ goto (ρ normal) ++ code_cases cs (o + 7) δ (λ c. ρ (no_break c))
  code (try_c b h) ls o δ ρ = code b [] o δ (in_try ρ (o + size b) δ) ++ code h [] (o + size b) δ ρ
  code (try_f b f) ls o δ ρ = op.Open ∷ (o + 2 + size b) ∷ code b [] (o + 2) (suc δ) ρ ++ code f [] (o + 2 + size b) (suc δ) (next ρ (at 0 (suc δ)))

  pub codes : Stmts → ℕ → ℕ → (Comp → Stat) → List ℕ
  codes nil o δ ρ = []
  codes (cons s ss) o δ ρ = code s [] o δ (next ρ (first ss (o + size s) δ ρ)) ++ codes ss (o + size s) δ ρ

  pub code_cases : Cases → ℕ → ℕ → (Comp → Stat) → List ℕ
  code_cases none o δ ρ = []
  code_cases (case d ss cs) o δ ρ =
      case_to (link cs (o + 4 + sizes ss)) (first ss (o + 4) δ (next ρ (through cs (o + 4 + sizes ss) δ ρ)))
      ++ (codes ss (o + 4) δ (next ρ (through cs (o + 4 + sizes ss) δ ρ)) ++ code_cases cs (o + 4 + sizes ss) δ ρ)

-- Behind a unit's statements stand the four ends that a completion comes to. A break or a continue that has no target ends it astray.
abbrev pub top : ℕ → Comp → Stat
top m normal = at m 0
top m (breaks l) = at (m + 6) 0
top m (continues l) = at (m + 6) 0
top m returns = at (m + 2) 0
top m throws = at (m + 4) 0
top m spent = ended run_end.Spent

abbrev pub ends : List ℕ
ends = op.End ∷ run_end.FellThrough ∷ op.End ∷ run_end.Returned ∷ op.End ∷ run_end.Thrown ∷ op.End ∷ run_end.Astray ∷ []

unfoldable pub unit : Stmts → List ℕ
unit ss = codes ss 0 0 (top (sizes ss)) ++ ends

-- The finally blocks of a tree nest at most r deep.
abbrev mutual
  pub Room : Stmt → ℕ → Type 0
  Room (leaf n l) r = Unit {0}
  Room (if1 n s) r = Room s r
  Room (if2 n s t) r = Room s r × Room t r
  Room (if3 n t s) r = Room t r × Room s r
  Room (withs n s) r = Room s r
  Room (block ss) r = RoomAll ss r
  Room (label l s) r = Room s r
  Room (loop n before test s) r = Room s r
  Room (switch n cs) r = RoomCases cs r
  Room (try_c b h) r = Room b r × Room h r
  Room (try_f b f) zero = ⊥
  Room (try_f b f) (suc r) = Room b r × Room f r

  pub RoomAll : Stmts → ℕ → Type 0
  RoomAll nil r = Unit {0}
  RoomAll (cons s ss) r = Room s r × RoomAll ss r

  pub RoomCases : Cases → ℕ → Type 0
  RoomCases none r = Unit {0}
  RoomCases (case d ss cs) r = RoomAll ss r × RoomCases cs r
