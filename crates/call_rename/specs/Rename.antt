-- What `rename` answers and leaves, for every input and all slices. Document 02, request 12/13, "Labels renamed". What is written, `nodes_renamed` and
-- `names_renamed`, stands in call_labels (Written), with the short names (Short), the order of first appearance (Order) and 19's test (Unfit).
use Rattle.std.specs.Prelude.{ℕ, List, Bool, cond, ◌&&◌, leb, length, Option, Some, None, Result, Ok, Err}
use Rattle.table_records.specs.Table.{count}
use Rattle.refusal_verdict.specs.declared.Refused.{Refused}
use Rattle.refusal_verdict.specs.declared.Refused.TheVariants.{At, Short}
use Rattle.refusal_verdict.specs.Verdict.{Verdict}
use Rattle.refusal_verdict.specs.First.{first}
use Rattle.refusal_verdict.specs.declared.Refusal.TheVariants as refusal
use Rattle.refusal_input.specs.Input.{input_refusal}
use Rattle.route_list.specs.Over.{over}
use Rattle.call_labels.specs.Unfit.{unfit_at}
use Rattle.call_labels.specs.Written.{most_bytes, nodes_renamed, names_renamed}

-- the answer, and both slices as the call leaves them
pub record Renaming : Type 0 where
  pub answer : Result ℕ Refused
  pub nodes : List ℕ
  pub names : List ℕ

-- what is not "20 (either slice too short, or names above 1,048,576 bytes)": nodesLen and namesLen are the lengths of the slices
abbrev pub fits : List ℕ → List ℕ → ℕ → ℕ → Bool
fits ns names nodesLen namesLen =
    leb (length (nodes_renamed ns names)) nodesLen && (leb (length (names_renamed ns names)) namesLen && leb (length (names_renamed ns names)) most_bytes)

-- "It writes a node table and a names slice of its own", from the start of the slices s and t, with no entry past the last one changed; or 20, "with the names
-- length needed", which leaves both as they were.
unfoldable pub written : List ℕ → List ℕ → List ℕ → List ℕ → Renaming
written ns names s t =
    cond (fits ns names (length s) (length t))
    (record { answer = Ok (length (names_renamed ns names)); nodes = over (nodes_renamed ns names) s; names = over (names_renamed ns names) t })
    (record { answer = Err (Short refusal.RenamedSlices (length (names_renamed ns names))); nodes = s; names = t })

-- "19 (a label that the reserved-word check looks for, or a 700th different label), place the first such node": before 20, and nothing is written
abbrev pub after_unfit : Option ℕ → List ℕ → List ℕ → Renaming → Renaming
after_unfit (Some place) s t r = record { answer = Err (At refusal.Label place); nodes = s; names = t }
after_unfit None s t r = r

unfoldable pub labelled : List ℕ → List ℕ → List ℕ → List ℕ → Renaming
labelled ns names s t = after_unfit (first (unfit_at ns names) 0 (count ns)) s t (written ns names s t)

-- "The call gives them after 1-6 and 13-15; findings don't stop it."
abbrev pub after_input : Verdict → List ℕ → List ℕ → Renaming → Renaming
after_input (Err e) s t r = record { answer = Err e; nodes = s; names = t }
after_input (Ok u) s t r = r

unfoldable pub renaming : ℕ → List ℕ → List ℕ → List ℕ → List ℕ → List ℕ → List ℕ → Renaming
renaming source_type ns ss source names s t = after_input (input_refusal source_type ns ss source names) s t (labelled ns names s t)
