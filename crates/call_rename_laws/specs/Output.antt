-- What is true of the tables that the renaming call writes. Document 02, request 12/13, "Labels renamed".
use Rattle.std.specs.Prelude.{ℕ, ◌≤◌, ◌≡◌, List, length, Ok}
use Rattle.check_dispatch.specs.Rule.{Rule}
use Rattle.route_list.specs.Over.{over}
use Rattle.call_rename.specs.Rename.{Renaming, renaming}
use Rattle.call_renamed.specs.Same.{with_tables, LabelsRenamed, Same}

-- the call, of a rule: the option on async and generator bodies is not asked
abbrev pub renaming_of : Rule → List ℕ → List ℕ → Renaming
renaming_of x s u = renaming x.source_type x.nodes x.scopes x.source x.names s u

-- The n bytes `mnames` and the node table `ms` are what was written for x, at the front of the slices s and u.
pub record Output (x : Rule) (s u : List ℕ) (n : ℕ) (ms mnames : List ℕ) : Type 0 where
  pub left : renaming_of x s u ≡ record { answer = Ok n; nodes = over ms s; names = over mnames u }
  pub bytes : n ≡ length mnames
  -- "every label name .. is replaced by a name, one to one over the whole tree, the tables stay well-formed, and no old or new name is one that the reserved-word
  -- check looks for",
  pub labels : LabelsRenamed x ms mnames
  -- so "findings are equal in code, node, spans and context, and routes of units are equal too"
  pub same : Same x (with_tables x ms mnames)
  -- "Renaming twice gives the bytes of renaming once", in all slices that hold them
  pub twice : (s u : List ℕ) → length ms ≤ length s → length mnames ≤ length u
      → renaming_of (with_tables x ms mnames) s u ≡ record { answer = Ok n; nodes = over ms s; names = over mnames u }
