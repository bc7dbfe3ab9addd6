-- Refusals 7 and 9 of document 01, which the calls `code` and `route` give, and the targets of jumps.
use Rattle.std.specs.Prelude.{ℕ, Bool, true, false, cond, not, ◌&&◌, eqb, ltb, ◌<◌, ◌≡◌, Option, Some, Ok, Err}
use mathlib.Core.List.{List, [], ◌∷◌, foldr}
use Rattle.base_common.specs.Tests.{within}
use Rattle.table_records.specs.Table.{kind_of, count, ancestors}
use Rattle.table_records.specs.Kinds as k
use Rattle.table_children.specs.Children.{label_of, when_found}
use Rattle.refusal_verdict.specs.First.{first}
use Rattle.refusal_verdict.specs.declared.Refused.TheVariants.{At}
use Rattle.refusal_verdict.specs.Verdict.{Verdict, Passed, or_next}
use Rattle.refusal_verdict.specs.declared.Refusal.TheVariants as refusal
use Rattle.check_diagnostics.specs.declared.Finding.{Finding}
use Rattle.check_jumps.specs.Jumps.{is_unit, is_iteration, is_breakable, same_label, labeled_item}
use Rattle.check_dispatch.specs.Rule.{Rule}
use Rattle.check_dispatch.specs.Reported.{reported}
use Rattle.check_dispatch.specs.Findings.{findings_of}

-- 7: "The number named as unit is no node of kind 0-3."
unfoldable pub names_unit : List ℕ → ℕ → Bool
names_unit ns u = ltb u (count ns) && is_unit (kind_of ns u)

-- The way up from a jump n: an ancestor answers, or hands on what those above it answer, but nothing is sought outside "its nearest unit (kind 0-3)".
unfoldable pub seek : List ℕ → (ℕ → Bool → Bool) → ℕ → Bool
seek ns answer n = foldr (λ a r. cond (is_unit (kind_of ns a)) false (answer a r)) false (ancestors ns n)

-- "A break leaves the nearest loop or Switch"
unfoldable pub plain_break : List ℕ → ℕ → Bool → Bool
plain_break ns a r = cond (is_breakable (kind_of ns a)) true r

-- ".. with a label the nearest Labeled of that name."
unfoldable pub named_break : List ℕ → List ℕ → ℕ → ℕ → Bool → Bool
named_break ns names l a r = when_found (same_label ns names l a) (λ m. true) r

-- "A continue goes to the next answer of the nearest loop"
unfoldable pub plain_continue : List ℕ → ℕ → Bool → Bool
plain_continue ns a r = cond (is_iteration (kind_of ns a)) true r

-- ".. with a label of the one that the nearest Labeled so named holds, only Labeled between."
unfoldable pub named_continue : List ℕ → List ℕ → ℕ → ℕ → Bool → Bool
named_continue ns names l a r = when_found (same_label ns names l a) (λ m. is_iteration (kind_of ns (labeled_item ns a))) r

-- "These are the targets."
abbrev pub break_target : List ℕ → List ℕ → ℕ → Bool
break_target ns names n = when_found (label_of ns n) (λ l. seek ns (named_break ns names l) n) (seek ns (plain_break ns) n)

abbrev pub continue_target : List ℕ → List ℕ → ℕ → Bool
continue_target ns names n = when_found (label_of ns n) (λ l. seek ns (named_continue ns names l) n) (seek ns (plain_continue ns) n)

-- the Break or Continue n has a target
unfoldable pub has_target : List ℕ → List ℕ → ℕ → Bool
has_target ns names n = cond (eqb (kind_of ns n) k.Break) (break_target ns names n) (continue_target ns names n)

-- "a Break or Continue that by ECMA-262 has no target inside its nearest unit (kind 0-3)"
unfoldable pub lost_at : List ℕ → List ℕ → ℕ → Bool
lost_at ns names n = within (kind_of ns n) k.Break k.Continue && not (has_target ns names n)

-- "9 the first finding's node or, without findings, the lowest such Break or Continue"
abbrev pub finding_or : List Finding → Option ℕ → Option ℕ
finding_or [] lost = lost
finding_or (f ∷ fs) lost = Some f.node.0

unfoldable pub state_place : Rule → Option ℕ
state_place r = finding_or (reported r) (first (lost_at r.nodes r.names) 0 (count r.nodes))

-- 7 and 9 in their order: "The lowest number wins"; 7 gives "the unit's number". Request 1: "8 is no longer given".
unfoldable pub unit_refusal : List ℕ → ℕ → Verdict
unit_refusal ns u = cond (names_unit ns u) Passed (Err (At refusal.Unit u))

abbrev pub refused_or : Verdict → Verdict → Verdict
refused_or (Err e) r = Err e
refused_or (Ok u) r = r

unfoldable pub state_answer : Rule → ℕ → Verdict
state_answer r u = refused_or (unit_refusal r.nodes u) (or_next refusal.Findings (state_place r) Passed)

-- WHAT IS KNOWN WHERE NEITHER 7 NOR 9 APPLIES
pub record Sound (source_type : ℕ) (ns ss source names : List ℕ) (u : ℕ) : Type 0 where
  pub below : u < count ns
  pub unit : is_unit (kind_of ns u) ≡ true
  pub clear : findings_of source_type ns ss source names ≡ []
