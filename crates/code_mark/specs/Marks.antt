-- What is reached, marked in place: the number that begins a reached instruction is raised by 8, and a jump leads to its last target.
use Rattle.std.specs.Prelude.{ℕ, ◌+◌, ◌≡◌, Bool, false, List, [], length, get_or, ltb, Option, Some, None}
use Rattle.route_completion.specs.Sem.{pick, elem}
use Rattle.code_valid.specs.Instrs.{parse, leads}
use Rattle.code_machine.specs.declared.Target.{Target}
use Rattle.code_shorten.specs.Sound.{Begin}
use Rattle.code_shorten.specs.Closes.{In, Closed}
use Rattle.code_pass.specs.Stages.{sent_on, kept_places, mark}
use Rattle.code_mark.specs.Read.{read_at, sent_by, rule_in}

-- Where a jump to t leads at the depth d.
abbrev pub place_or : Option Target → ℕ → ℕ
place_or None t = t
place_or (Some aim) t = aim.place

abbrev pub target_in : List ℕ → ℕ → ℕ → ℕ
target_in f t d = place_or (rule_in f t d) t

-- Where the instruction at p leads, if it is marked.
unfoldable pub leads_in : List ℕ → ℕ → List ℕ
leads_in f p = pick (ltb (get_or f p 0) mark) [] (leads p (sent_by (rule_in f) (read_at f p)))

-- f is C with the places of S marked, which are reached.
pub record Inked (C S f : List ℕ) : Type 0 where
  pub same : length f ≡ length C
  pub each : (x : ℕ) → get_or f x 0 ≡ get_or C x 0 + pick (elem x S) mark 0
  pub begun : (x : ℕ) → In S x → Begin (parse C) x
  pub within : (x : ℕ) → In S x → In (kept_places C) x

-- S, or more, is marked.
pub record Grown (C S f : List ℕ) : Type 0 where
  pub set : List ℕ
  pub inked : Inked C set f
  pub more : (x : ℕ) → In S x → In set x

-- What a round over the code comes to: if nothing is new, what is marked is closed.
pub record Rounded (C S f : List ℕ) (news : Bool) : Type 0 where
  pub grown : Grown C S f
  pub shut : news ≡ false → Closed (sent_on C) grown.set

-- The code's start is marked.
pub record Started (C f : List ℕ) : Type 0 where
  pub set : List ℕ
  pub inked : Inked C set f
  pub start : In set 0

-- All that is reached is marked.
pub record Reached (C f : List ℕ) : Type 0 where
  pub set : List ℕ
  pub inked : Inked C set f
  pub start : In set 0
  pub shut : Closed (sent_on C) set
