-- Laws of refusals 7 and 9 as loops meet them. Where the tree has no findings, each break and continue has its target.
use Rattle.table_records.specs.declared.NodeId.{NodeId}
use Rattle.std.specs.Prelude.{ℕ, zero, suc, ◌+◌, ◌≤◌, ◌<◌, ◌≡◌, Bool, ◌&&◌, ltb, length, get_or, Option, Some, None, Ok, Err}
use Rattle.std.proofs.Math.Path.{refl, ap}
use Rattle.std.proofs.Common.{sym, subst, ◌∙◌, eq-or-lt_of_le, arith}
use mathlib.Core.List.{List, [], ◌∷◌, ◌++◌, flat_map}
use Rattle.std.proofs.Math.Bool.{true, false, cond, not}
use Rattle.std.proofs.Math.Logic.{⊎_elim}
use borrow.Author.Tests.{eqb-true, eqb-false, le-leb, lt-leb, ltb-true}
use Rattle.std.proofs.Math.Dec.{eqb}
use Rattle.base_common.specs.Upto.{upto}
use Rattle.base_common.proofs.UptoLaws.{and_left_lem, and_right_lem}
use Rattle.base_common.proofs.Bools.{never, range_of}
use Rattle.base_common.specs.Tests.{within}
use Rattle.base_common.specs.Wrote.{put}
use Rattle.base_common.proofs.WroteLaws.{length_put}
use Rattle.table_records.specs.Table.{kind_of, parent_of, count}
use Rattle.table_records.specs.Kinds as k
use Rattle.table_records.specs.Facts.{Tree}
use Rattle.table_children.specs.Children.{label_of, when_found}
use Rattle.table_ancestry.proofs.AncestryLaws.{ancestors_up}
use Rattle.refusal_verdict.specs.First.{first}
use Rattle.refusal_verdict.proofs.FirstLaws.{first_on, first_end, le_or_lt}
use Rattle.refusal_verdict.specs.declared.Refused.TheVariants.{At}
use Rattle.refusal_verdict.specs.Verdict.{Verdict, Passed, or_next}
use Rattle.refusal_verdict.specs.declared.Refusal.TheVariants as refusal
use Rattle.refusal_verdict.proofs.VerdictLaws.{no_pass, passed}
use Rattle.check_diagnostics.specs.declared.Finding.{Finding}
use Rattle.check_diagnostics.specs.Codes as code
use Rattle.check_diagnostics.specs.Contexts as context
use Rattle.check_diagnostics.specs.Finding.{listed, numbers, sink, error_at}
use Rattle.check_diagnostics.proofs.Gather.{flat_turn}
use Rattle.check_jumps.specs.Jumps.{is_unit, is_iteration, is_breakable, same_label, labeled_item, walk_up, plain_break_at, labelled_break_at, plain_continue_at, labelled_continue_at, continue_to, no_label, check_break_statement, check_continue_statement}
use Rattle.check_jumps.proofs.JumpsLaws.{walk_up_lem}
use Rattle.check_duplicates.specs.Duplicates.{duplicate_elements}
use Rattle.check_dispatch.specs.Findings.{findings_at, findings_of}
use Rattle.check_dispatch.specs.Rule.{rule}
use Rattle.check_dispatch.specs.Reported.{reported}
use Rattle.check_dispatch.proofs.ReportedLaws.{none_reported}
use Rattle.refusal_state.specs.Targets.{names_unit, seek, plain_break, named_break, plain_continue, named_continue, break_target, continue_target, has_target, lost_at, finding_or, state_place, unit_refusal, refused_or, state_answer, Sound}

raised : {A : Type 0} → (f : Finding) → Some f ≡ None → A
raised f e = let z : ◌≡◌ {A = ℕ} 0 1 = cc in absurd (omega arith)

-- A check that raises nothing on its way up to the unit has found what is sought.
module _ (ns : List ℕ) (t : Tree ns) (says : ℕ → Option Finding → Option Finding) (answer : ℕ → Bool → Bool)
    (unit : (a : ℕ) (r : Option Finding) → is_unit (kind_of ns a) ≡ true → says a r ≡ None → ⊥)
    (step : (a : ℕ) (r : Option Finding) (x : Bool) → is_unit (kind_of ns a) ≡ false → says a r ≡ None → (r ≡ None → x ≡ true) → answer a x ≡ true) where
  seek_up : (i : ℕ) → 0 < i → i < count ns → seek ns answer i ≡ cond (is_unit (kind_of ns (parent_of ns i))) false (answer (parent_of ns i) (seek ns answer (parent_of ns i)))
  unfolding seek
  seek_up i h l = ancestors_up _ _ ns t i h l

  found_by : (f i : ℕ) → i ≤ f → 0 < i → i < count ns → walk_up ns says i ≡ None → seek ns answer i ≡ true
  found_by zero i hf h l e = absurd (omega arith)
  found_by (suc f) i hf h l e =
      let p = parent_of ns i in
      let w = t.falls i h l in
      go (is_unit (kind_of ns p)) refl (sym (walk_up_lem ns says t i p h l refl) ∙ e) (λ z c. found_by f p (omega arith) z (omega arith) c)
    where
      go : (x : Bool) → is_unit (kind_of ns (parent_of ns i)) ≡ x → says (parent_of ns i) (walk_up ns says (parent_of ns i)) ≡ None
          → (0 < parent_of ns i → walk_up ns says (parent_of ns i) ≡ None → seek ns answer (parent_of ns i) ≡ true) → seek ns answer i ≡ true
      go true x s r = absurd (unit (parent_of ns i) (walk_up ns says (parent_of ns i)) x s)
      go false x s r =
          seek_up i h l ∙ rw x
          (step (parent_of ns i) (walk_up ns says (parent_of ns i)) (seek ns answer (parent_of ns i)) x s
          (r (⊎_elim (λ (z : 0 ≡ parent_of ns i). never (sym (ap (λ (y : ℕ). is_unit y) t.root) ∙ ap (λ (j : ℕ). is_unit (kind_of ns j)) z ∙ x)) (λ z. z) (eq-or-lt_of_le (omega arith)))))

  pub found : (i : ℕ) → 0 < i → i < count ns → walk_up ns says i ≡ None → seek ns answer i ≡ true
  found i = found_by i i (omega arith)

module _ (ns names : List ℕ) (t : Tree ns) (n : ℕ) (h : 0 < n) (l : n < count ns) where
  plain_break_lem : walk_up ns (plain_break_at ns n) n ≡ None → seek ns (plain_break ns) n ≡ true
  unfolding plain_break_at plain_break
  plain_break_lem = found ns t (plain_break_at ns n) (plain_break ns) (λ a r u e. raised _ (rw u at e)) (λ a r x u e w. go a r x (is_breakable (kind_of ns a)) refl (rw u at e) w) n h l
    where
      go : (a : ℕ) (r : Option Finding) (x b : Bool) → is_breakable (kind_of ns a) ≡ b → cond (is_breakable (kind_of ns a)) None r ≡ None → (r ≡ None → x ≡ true) → cond (is_breakable (kind_of ns a)) true x ≡ true
      go a r x true q e w = rw q
      go a r x false q e w = rw q (w (rw q at e))

  plain_continue_lem : walk_up ns (plain_continue_at ns n) n ≡ None → seek ns (plain_continue ns) n ≡ true
  unfolding plain_continue_at plain_continue
  plain_continue_lem = found ns t (plain_continue_at ns n) (plain_continue ns) (λ a r u e. raised _ (rw u at e)) (λ a r x u e w. go a r x (is_iteration (kind_of ns a)) refl (rw u at e) w) n h l
    where
      go : (a : ℕ) (r : Option Finding) (x b : Bool) → is_iteration (kind_of ns a) ≡ b → cond (is_iteration (kind_of ns a)) None r ≡ None → (r ≡ None → x ≡ true) → cond (is_iteration (kind_of ns a)) true x ≡ true
      go a r x true q e w = rw q
      go a r x false q e w = rw q (w (rw q at e))

  module _ (m : ℕ) where
    no_label_lem : (kind : ℕ) → no_label ns n m kind ≡ None → ⊥
    unfolding no_label
    no_label_lem kind = go (eqb kind k.Program)
      where
        go : (b : Bool) → cond b (error_at ns code.invalid_label_target n m context.none) (error_at ns code.invalid_label_jump_target n m context.none) ≡ None → ⊥
        go true e = raised _ e
        go false e = raised _ e

    named_break_lem : walk_up ns (labelled_break_at ns names n m) n ≡ None → seek ns (named_break ns names m) n ≡ true
    unfolding labelled_break_at named_break
    named_break_lem =
        found ns t (labelled_break_at ns names n m) (named_break ns names m) (λ a r u e. no_label_lem (kind_of ns a) (rw u at e))
        (λ a r x u e w. go (same_label ns names m a) r x (rw u at e) w) n h l
      where
        go : (y : Option NodeId) (r : Option Finding) (x : Bool) → when_found y (λ j. None) r ≡ None → (r ≡ None → x ≡ true) → when_found y (λ j. true) x ≡ true
        go (Some j) r x e w = refl
        go None r x e w = w e

    named_continue_lem : walk_up ns (labelled_continue_at ns names n m) n ≡ None → seek ns (named_continue ns names m) n ≡ true
    unfolding labelled_continue_at named_continue continue_to
    named_continue_lem =
        found ns t (labelled_continue_at ns names n m) (named_continue ns names m) (λ a r u e. no_label_lem (kind_of ns a) (rw u at e))
        (λ a r x u e w. go a (same_label ns names m a) r x (rw u at e) w) n h l
      where
        to : (a j : ℕ) (b : Bool) → is_iteration (kind_of ns (labeled_item ns a)) ≡ b → continue_to ns n m a j ≡ None → is_iteration (kind_of ns (labeled_item ns a)) ≡ true
        to a j true q e = q
        to a j false q e = raised _ (rw q at e)

        go : (a : ℕ) (y : Option NodeId) (r : Option Finding) (x : Bool) → when_found y (λ j. continue_to ns n m a j) r ≡ None → (r ≡ None → x ≡ true)
            → when_found y (λ j. is_iteration (kind_of ns (labeled_item ns a))) x ≡ true
        go a (Some j) r x e w = to a j.0 (is_iteration (kind_of ns (labeled_item ns a))) refl e
        go a None r x e w = w e

  -- a Break that raises nothing has its target ..
  break_found : check_break_statement ns names n ≡ None → break_target ns names n ≡ true
  break_found = go (label_of ns n)
    where
      go : (y : Option NodeId) → when_found y (λ m. walk_up ns (labelled_break_at ns names n m) n) (walk_up ns (plain_break_at ns n) n) ≡ None
          → when_found y (λ m. seek ns (named_break ns names m) n) (seek ns (plain_break ns) n) ≡ true
      go (Some m) e = named_break_lem m.0 e
      go None e = plain_break_lem e

  -- .. and so a Continue
  continue_found : check_continue_statement ns names n ≡ None → continue_target ns names n ≡ true
  continue_found = go (label_of ns n)
    where
      go : (y : Option NodeId) → when_found y (λ m. walk_up ns (labelled_continue_at ns names n m) n) (walk_up ns (plain_continue_at ns n) n) ≡ None
          → when_found y (λ m. seek ns (named_continue ns names m) n) (seek ns (plain_continue ns) n) ≡ true
      go (Some m) e = named_continue_lem m.0 e
      go None e = plain_continue_lem e

-- lists of findings
none_both : (xs ys : List Finding) → xs ++ ys ≡ [] → (xs ≡ []) × (ys ≡ [])
none_both [] ys e = (refl, e)
none_both (x ∷ xs) ys e = let z : ◌≡◌ {A = ℕ} 0 1 = cc in absurd (omega arith)

none_listed : (r : Option Finding) → listed r ≡ [] → r ≡ None
none_listed (Some f) e = let z : ◌≡◌ {A = ℕ} 0 1 = cc in absurd (omega arith)
none_listed None e = refl

module _ (f : ℕ → List Finding) (n : ℕ) where
  none_by : (g i : ℕ) → n ≤ i + g → flat_map f (upto i n) ≡ [] → (j : ℕ) → i ≤ j → j < n → f j ≡ []
  none_by zero i hf e j a b = absurd (omega arith)
  none_by (suc g) i hf e j a b =
      let w = none_both (f i) (flat_map f (upto (i + 1) n)) (sym (flat_turn f i n (omega arith)) ∙ e) in
      ⊎_elim (λ (q : i ≡ j). subst (λ (x : ℕ). f x ≡ []) q w.0) (λ (q : i < j). none_by g (i + 1) (omega arith) w.1 j (omega arith) b) (eq-or-lt_of_le a)

-- a slice of seven takes the first finding alone
full_by : (s : List ℕ) (w : ℕ) (fs : List Finding) → length s ≤ w → sink s w fs ≡ s
unfolding sink
full_by s w [] h = refl
full_by s w (f ∷ fs) h = rw (lt-leb (w + 7) (length s) (omega arith)) (full_by s (w + 7) fs (omega arith))

first_written : (s : List ℕ) (f : Finding) (fs : List Finding) → length s ≡ 7 → get_or (sink s 0 (f ∷ fs)) 1 0 ≡ f.node.0
unfolding sink
first_written s f fs h =
    rw (le-leb 7 (length s) (omega arith)) (ap (λ (l : List ℕ). get_or l 1 0) (full_by (put s 0 (numbers f)) 7 fs (let w = length_put s 0 (numbers f) (omega arith) in omega arith)))

module _ (source_type : ℕ) (ns ss source names : List ℕ) where
  -- without findings no node has one
  pub none_at : findings_of source_type ns ss source names ≡ [] → (n : ℕ) → n < count ns → findings_at source_type ns ss source names n ≡ []
  unfolding findings_of
  none_at e n l = none_by (findings_at source_type ns ss source names) (count ns) (count ns) 0 (omega arith) (none_both (duplicate_elements source_type ns names) (flat_map (findings_at source_type ns ss source names) (upto 0 (count ns))) e).1 n (omega arith) l

  module _ (n : ℕ) where
    at_break : kind_of ns n ≡ k.Break → findings_at source_type ns ss source names n ≡ [] → check_break_statement ns names n ≡ None
    unfolding findings_at
    at_break q e = none_listed (check_break_statement ns names n) (rw q at e)

    at_continue : kind_of ns n ≡ k.Continue → findings_at source_type ns ss source names n ≡ [] → check_continue_statement ns names n ≡ None
    unfolding findings_at
    at_continue q e = none_listed (check_continue_statement ns names n) (rw q at e)

  -- NO FINDINGS: EACH BREAK AND CONTINUE HAS ITS TARGET
  module _ (t : Tree ns) (e : findings_of source_type ns ss source names ≡ []) where
    jump_later : (n : ℕ) → k.Break ≤ kind_of ns n → 0 < n
    jump_later n q = ⊎_elim (λ (z : 0 ≡ n). let r = t.root in let w : kind_of ns 0 ≡ kind_of ns n = ap (kind_of ns) z in absurd (omega arith)) (λ z. z) (eq-or-lt_of_le (omega arith))

    pub targets_found : (n : ℕ) → n < count ns → k.Break ≤ kind_of ns n → kind_of ns n ≤ k.Continue → has_target ns names n ≡ true
    unfolding has_target
    targets_found n l a b = go (eqb (kind_of ns n) k.Break) refl
      where
        go : (x : Bool) → eqb (kind_of ns n) k.Break ≡ x → cond x (break_target ns names n) (continue_target ns names n) ≡ true
        go true q = break_found ns names t n (jump_later n a) l (at_break n (eqb-true (kind_of ns n) k.Break q) (none_at e n l))
        go false q =
            let w = eqb-false (kind_of ns n) k.Break q in
            let z : kind_of ns n ≡ k.Continue = ⊎_elim (λ (r : k.Break ≡ kind_of ns n). absurd (w (sym r))) (λ (r : k.Break < kind_of ns n). omega arith) (eq-or-lt_of_le a) in
            continue_found ns names t n (jump_later n a) l (at_continue n z (none_at e n l))

    none_lost : (n : ℕ) → n < count ns → lost_at ns names n ≡ false
    unfolding lost_at
    none_lost n l = go (within (kind_of ns n) k.Break k.Continue) refl
      where
        go : (x : Bool) → within (kind_of ns n) k.Break k.Continue ≡ x → (x && not (has_target ns names n)) ≡ false
        go true q = let w = range_of (kind_of ns n) k.Break k.Continue q in rw (targets_found n l w.0 w.1)
        go false q = refl

    none_first_lem : (f i : ℕ) → count ns ≤ i + f → first (lost_at ns names) i (count ns) ≡ None
    none_first_lem zero i hf = first_end (lost_at ns names) i (count ns) (omega arith)
    none_first_lem (suc f) i hf =
        ⊎_elim (λ (h : count ns ≤ i). first_end (lost_at ns names) i (count ns) h)
        (λ (h : i < count ns). first_on (lost_at ns names) i (count ns) h (none_lost i h) ∙ none_first_lem f (i + 1) (omega arith)) (le_or_lt (count ns) i)

  -- the place of refusal 9, where there are no findings, and where the first was written to a slice of seven
  module _ (async_bodies : ℕ) where
    place_clear : Tree ns → reported (rule source_type async_bodies ns ss source names) ≡ [] → state_place (rule source_type async_bodies ns ss source names) ≡ None
    unfolding state_place
    place_clear t e = ap (λ l. finding_or l (first (lost_at ns names) 0 (count ns))) e ∙ none_first_lem t (none_reported (rule source_type async_bodies ns ss source names) e) (count ns) 0 (omega arith)

    pub place_none : Tree ns → length (reported (rule source_type async_bodies ns ss source names)) ≡ 0 → state_place (rule source_type async_bodies ns ss source names) ≡ None
    place_none t h = place_clear t (go (reported (rule source_type async_bodies ns ss source names)) h)
      where
        go : (l : List Finding) → length l ≡ 0 → l ≡ []
        go [] h = refl
        go (f ∷ fs) h = absurd (omega arith)

    pub place_some : (s : List ℕ) → length s ≡ 7 → (length (reported (rule source_type async_bodies ns ss source names)) ≡ 0 → ⊥)
        → state_place (rule source_type async_bodies ns ss source names) ≡ Some (get_or (sink s 0 (reported (rule source_type async_bodies ns ss source names))) 1 0)
    unfolding state_place
    place_some s q h = go (reported (rule source_type async_bodies ns ss source names)) h
      where
        go : (l : List Finding) → (length l ≡ 0 → ⊥) → finding_or l (first (lost_at ns names) 0 (count ns)) ≡ Some (get_or (sink s 0 l) 1 0)
        go [] h = absurd (h refl)
        go (f ∷ fs) h = ap Some (sym (first_written s f fs q))

refused_or_lem : (v r : Verdict) → refused_or v r ≡ Passed → (v ≡ Passed) × (r ≡ Passed)
refused_or_lem (Err f) r e = no_pass f e
refused_or_lem (Ok u) r e = (refl, e)

no_finding : (fs : List Finding) (lost : Option ℕ) → finding_or fs lost ≡ None → fs ≡ []
no_finding [] lost e = refl
no_finding (f ∷ fs) lost e = let z : ◌≡◌ {A = ℕ} 0 1 = cc in absurd (omega arith)

unit_passed : (ns : List ℕ) (u : ℕ) → unit_refusal ns u ≡ Passed → names_unit ns u ≡ true
unfolding unit_refusal
unit_passed ns u = go (names_unit ns u)
  where
    go : (x : Bool) → cond x Passed (Err (At refusal.Unit u)) ≡ Passed → x ≡ true
    go true e = refl
    go false e = no_pass (At refusal.Unit u) e

pub state_passed : (source_type async_bodies : ℕ) (ns ss source names : List ℕ) (u : ℕ) → state_answer (rule source_type async_bodies ns ss source names) u ≡ Passed → Sound source_type ns ss source names u
unfolding state_answer state_place names_unit
state_passed source_type async_bodies ns ss source names u e =
    let w = refused_or_lem (unit_refusal ns u) (or_next refusal.Findings (state_place (rule source_type async_bodies ns ss source names)) Passed) e in
    let v = unit_passed ns u w.0 in
    record {
      below = ltb-true u (count ns) (and_left_lem (ltb u (count ns)) (is_unit (kind_of ns u)) v);
      unit = and_right_lem (ltb u (count ns)) (is_unit (kind_of ns u)) v;
      clear = none_reported (rule source_type async_bodies ns ss source names) (no_finding (reported (rule source_type async_bodies ns ss source names)) (first (lost_at ns names) 0 (count ns)) (passed refusal.Findings (state_place (rule source_type async_bodies ns ss source names)) Passed w.1).0);
    }
