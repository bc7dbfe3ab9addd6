-- Which part a statement goes on with.
use Rattle.table_records.specs.declared.NodeId.{NodeId}
use Rattle.std.specs.Prelude.{ℕ, ◌+◌, ◌≡◌, List, [], ◌∷◌, cond, eqb, ltb, length, drop, Option, Some, None}
use Rattle.table_records.specs.Table.{role_of}
use Rattle.table_records.specs.Roles as role
use Rattle.route_completion.specs.Tree.{Stmt}
use Rattle.route_completion.specs.Sem.{Out, normal, out, is_yes, pick, catching, finally, exec}
use Rattle.code_tree.specs.Parts.{parts, with_role}
use Rattle.code_tree.specs.Parts.{Part}
use Rattle.code_tree.specs.First.{first_of}
use Rattle.code_tree.specs.Statements.{default_at}

-- What was found is the first of ps, which are parts of p in node order.
abbrev pub First : List ℕ → ℕ → List ℕ → Option NodeId → Type 0
First ns p ps (Some c) = (ps ≡ c.0 ∷ parts ns p (c.0 + 1)) × Part ns p c.0
First ns p ps None = ps ≡ []

-- What was found is a part of p.
abbrev pub part_of : List ℕ → ℕ → Option NodeId → Type 0
part_of ns p (Some c) = Part ns p c.0
part_of ns p None = Unit {0}

-- "If runs role 3 on yes, else role 4", in whichever order they stand.
abbrev pub branch_of : List ℕ → List ℕ → ℕ → Option NodeId
branch_of ns [] a = None
branch_of ns (c ∷ []) a = pick (is_yes a) (Some (record { 0 = c })) None
branch_of ns (c ∷ d ∷ ds) a = cond (eqb (role_of ns c) role.Alternate) (pick (is_yes a) (Some (record { 0 = d })) (Some (record { 0 = c }))) (pick (is_yes a) (Some (record { 0 = c })) (Some (record { 0 = d })))

-- The cases from `default` on.
abbrev pub from_default : List ℕ → List ℕ → List ℕ
from_default ns [] = []
from_default ns (c ∷ cs) = cond (default_at ns c) (c ∷ cs) (from_default ns cs)

-- "A Switch answer n picks the n-th SwitchCase from 0, `default` counted, else `default`, else leaves the switch": the cases that then run.
unfoldable pub cases_from : List ℕ → List ℕ → ℕ → List ℕ
cases_from ns cs a = cond (ltb a (length cs)) (drop a cs) (from_default ns cs)

-- The first part of p with the role r.
unfoldable pub role_in : List ℕ → ℕ → ℕ → Option NodeId
role_in ns p r = first_of (with_role ns r (parts ns p (p + 1)))

module _ (S : ℕ → Stmt) where
  -- What was found runs, or nothing does.
  abbrev pub ran_of : Option NodeId → List ℕ → Out
  ran_of (Some c) qs = exec (S c.0) [] qs
  ran_of None qs = out [] normal qs

  -- A Try's Block with its catch, if it has one; and with its finally.
  abbrev pub caught_by : Option NodeId → Out → Out
  caught_by (Some h) o = catching o (λ r. exec (S h.0) [] r)
  caught_by None o = o

  abbrev pub finally_by : Option NodeId → Out → Out
  finally_by (Some f) o = finally o (λ r. exec (S f.0) [] r)
  finally_by None o = o
