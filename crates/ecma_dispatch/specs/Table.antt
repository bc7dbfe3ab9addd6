-- A table of checks by kind, and what it raises with a code.
use Rattle.std.specs.Prelude.{ℕ, List, [], ◌∷◌, ◌++◌, Bool, true, false, cond, not, ◌&&◌, eqb}
use Rattle.base_common.specs.Upto.{all, any}
use Rattle.base_walk.specs.On.{member}
use Rattle.check_diagnostics.specs.declared.Finding.{Finding}
use Rattle.ecma_dispatch.specs.WithCode.{with_code}
use Rattle.ecma_dispatch.specs.Coded.{Coded}

-- what a check raises, with the codes that it can have
pub record Check : Type 0 where
  pub codes : List ℕ
  pub findings : List Finding
  pub coded : Coded codes findings

-- the checks of a kind, in order
pub record Row : Type 0 where
  pub kind : ℕ
  pub checks : List Check

-- the findings of some checks, one after the other
abbrev pub together : List Check → List Finding
together [] = []
together (e ∷ []) = e.findings
together (e ∷ f ∷ es) = e.findings ++ together (f ∷ es)

-- the findings of the row of a kind
abbrev pub of_kind : ℕ → List Row → List Finding
of_kind k [] = []
of_kind k (r ∷ rs) = cond (eqb k r.kind) (together r.checks) (of_kind k rs)

-- some check can raise the code
abbrev pub can_raise : ℕ → List Check → Bool
can_raise c es = any (λ e. member c e.codes) es

-- the findings of a check that have a code: all of them, if it has no other
abbrev pub part : ℕ → List ℕ → List Finding → List Finding
part c [] fs = []
part c (d ∷ []) fs = fs
part c (d ∷ e ∷ cs) fs = with_code c fs

-- one part before others, of which there are some or none
abbrev pub before : Bool → Bool → List Finding → List Finding → List Finding
before true true fs gs = fs ++ gs
before true false fs gs = fs
before false true fs gs = gs
before false false fs gs = gs

-- those of some checks
abbrev pub parts : ℕ → List Check → List Finding
parts c [] = []
parts c (e ∷ es) = before (member c e.codes) (can_raise c es) (part c e.codes e.findings) (parts c es)

-- a case, if there is one
abbrev pub case : Bool → Bool → List Finding → List Finding → List Finding
case true b fs gs = cond b fs gs
case false b fs gs = gs

-- THE FINDINGS OF A KIND WITH A CODE: a case for each row whose checks can raise it
abbrev pub by_code : ℕ → ℕ → List Row → List Finding
by_code c k [] = []
by_code c k (r ∷ rs) = case (can_raise c r.checks) (eqb k r.kind) (parts c r.checks) (by_code c k rs)

-- no row is of the kind
abbrev pub free : ℕ → List Row → Bool
free k rs = all (λ r. not (eqb k r.kind)) rs

-- no two rows are of one kind
abbrev pub apart : List Row → Bool
apart [] = true
apart (r ∷ rs) = free r.kind rs && apart rs

-- every code of the table is one of these
abbrev pub among : List ℕ → List Row → Bool
among cs rs = all (λ r. all (λ e. all (λ c. member c cs) e.codes) r.checks) rs
