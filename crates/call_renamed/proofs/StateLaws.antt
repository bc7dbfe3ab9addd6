-- Refusals 7 and 9, and the code's length, in two tables that differ in labels alone.
use Rattle.std.specs.Prelude.{ℕ, ◌≡◌, List, Bool, true, eqb}
use Rattle.std.proofs.Math.Path.{fun_ext}
use Rattle.table_records.specs.Table.{kind_of}
use Rattle.table_records.specs.Kinds as k
use Rattle.check_dispatch.specs.Rule.{rule}
use Rattle.check_dispatch.specs.Reported.{reported}
use Rattle.refusal_state.specs.Targets.{names_unit, seek, plain_break, named_break, plain_continue, named_continue, has_target, lost_at, state_place, unit_refusal, state_answer}
use Rattle.code_tree.specs.Labels.{is_label}
use Rattle.code_length.specs.Length.{of_unit, code_length}
use Rattle.table_renamed.specs.Alike.{Alike}
use Rattle.table_renamed.proofs.TableLaws.{tables}
use Rattle.table_renamed.proofs.NameLaws.{cond_both}
use Rattle.check_renamed.proofs.CheckLaws.{checks}
use Rattle.check_renamed.proofs.NamedLaws.{when_label, same_label_lem}

module _ (ns names ms mnames : List ℕ) (r : Alike ns names ms mnames) where
  pub same_length : (u : ℕ) → code_length ns u ≡ code_length ms u
  unfolding code_length of_unit
  same_length u = simp (tables, r.fields)

  unit_refusal_lem : (u : ℕ) → unit_refusal ns u ≡ unit_refusal ms u
  unfolding unit_refusal names_unit
  unit_refusal_lem u = simp (tables, r.fields)

  -- TARGETS
  its_seek : (answer : ℕ → Bool → Bool) (n : ℕ) → seek ns answer n ≡ seek ms answer n
  unfolding seek
  its_seek answer n = simp (tables, r.fields)

  plain_break_lem : plain_break ns ≡ plain_break ms
  unfolding plain_break
  plain_break_lem = fun_ext (λ x. fun_ext (λ s. simp (tables, r.fields)))

  plain_continue_lem : plain_continue ns ≡ plain_continue ms
  unfolding plain_continue
  plain_continue_lem = fun_ext (λ x. fun_ext (λ s. simp (tables, r.fields)))

  named_break_lem : (l : ℕ) → is_label ns l ≡ true → named_break ns names l ≡ named_break ms mnames l
  unfolding named_break
  named_break_lem l h = fun_ext (λ x. fun_ext (λ s. simp (same_label_lem ns names ms mnames r l x h)))

  named_continue_lem : (l : ℕ) → is_label ns l ≡ true → named_continue ns names l ≡ named_continue ms mnames l
  unfolding named_continue
  named_continue_lem l h = fun_ext (λ x. fun_ext (λ s. simp (same_label_lem ns names ms mnames r l x h, tables, checks, r.fields)))

  has_target_lem : (n : ℕ) → has_target ns names n ≡ has_target ms mnames n
  unfolding has_target
  has_target_lem n =
      cond_both (eqb (kind_of ns n) k.Break) (eqb (kind_of ms n) k.Break) _ _ _ _ (simp (tables, r.fields))
      (λ e. when_label ns names ms mnames r (λ l. seek ns (named_break ns names l) n) (λ l. seek ms (named_break ms mnames l) n) (seek ns (plain_break ns) n) (seek ms (plain_break ms) n) n
      (λ l h. simp (its_seek, named_break_lem l h)) (simp (its_seek, plain_break_lem)))
      (when_label ns names ms mnames r (λ l. seek ns (named_continue ns names l) n) (λ l. seek ms (named_continue ms mnames l) n) (seek ns (plain_continue ns) n) (seek ms (plain_continue ms) n) n
      (λ l h. simp (its_seek, named_continue_lem l h)) (simp (its_seek, plain_continue_lem)))

  lost_at_lem : lost_at ns names ≡ lost_at ms mnames
  unfolding lost_at
  lost_at_lem = fun_ext (λ n. rw (has_target_lem n) (simp (tables, r.fields)))

  -- 7 and 9, where the findings are equal
  pub same_state : (t o : ℕ) (ss source : List ℕ) → reported (rule t o ns ss source names) ≡ reported (rule t o ms ss source mnames) → (u : ℕ)
      → state_answer (rule t o ns ss source names) u ≡ state_answer (rule t o ms ss source mnames) u
  unfolding state_answer state_place
  same_state t o ss source e u = rw (e, lost_at_lem, unit_refusal_lem u) (simp (tables, r.fields))
