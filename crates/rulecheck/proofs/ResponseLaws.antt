-- The text as the code comes to it: from the answer of `check` and its slice, and from the slices that were read.
use Rattle.std.specs.Prelude.{Result, Ok, Err, ℕ, ◌*◌, ◌≡◌, Bool, leb, take}
use Rattle.std.proofs.Math.Path.{refl, ap, sym, subst}
use Rattle.std.proofs.Common.{◌∙◌, zero-add, leb-true}
use Rattle.std.proofs.Math.Bool.{true, false, cond}
use mathlib.Core.List.{List, [], ◌∷◌, ◌++◌}
use Rattle.std.proofs.Math.ListN.{length, drop}
use Rattle.base_common.specs.Wrote.{put}
use Rattle.check_diagnostics.specs.declared.Finding.{Finding}
use Rattle.check_diagnostics.specs.Finding.{numbers, flat}
use Rattle.refusal_verdict.specs.declared.Refusal.TheVariants as refusal
use Rattle.refusal_verdict.specs.declared.Refused.{Refused}
use Rattle.refusal_verdict.specs.declared.Refused.TheVariants.{At, Short}
use Rattle.refusal_verdict.specs.Verdict.{Verdict, Passed, unless}
use Rattle.refusal_input.specs.Input.{input_refusal}
use Rattle.check_dispatch.specs.Rule.{rule}
use Rattle.check_dispatch.specs.Reported.{reported}
use Rattle.check_dispatch.proofs.ReportedLaws.{off}
use Rattle.call_check.specs.Check.{report_answer, report_slice, check_answer, check_slice}
use Rattle.line_fields.specs.Split.{lines_of}
use Rattle.line_input.specs.declared.Tables.{Tables}
use Rattle.line_input.specs.declared.Unread.{Unread}
use Rattle.line_input.specs.Format.{Reading, lent, read_input, front, Given}
use Rattle.line_input.proofs.Sizes.{Sized, lines_told, part}
use Rattle.line_input.proofs.Whole.{input_whole}
use Rattle.line_input.specs.Route.{enough}
use Rattle.line_print.specs.Print.{line_of}
use Rattle.line_answers.specs.Answer.{finding_lines, answer_text, Counted, refusal_text, findings_room}
use Rattle.rulecheck.specs.Response.{lines_for, verdict_text, check_text, input_text, response}

-- the findings as they stand in the slice
lines_flat : (fs : List Finding) (r : List ℕ) → finding_lines (length fs) (flat fs ++ r) ≡ lines_for fs
unfolding finding_lines flat lines_for
lines_flat [] r = refl
lines_flat (f ∷ fs) r = ap (λ (x : List ℕ). line_of 70 (numbers f) ++ x) (lines_flat fs r)

-- what `check` answers and leaves gives the text
module _ (fs : List Finding) (s : List ℕ) (h : length s ≡ findings_room) where
  report_text : answer_text (report_answer fs (length s)) (report_slice fs s) ≡ verdict_text Passed fs
  unfolding report_answer report_slice answer_text verdict_text
  report_text = rw h (go (leb (7 * length fs) findings_room))
    where
      go : (t : Bool) → answer_text (cond t (Ok (length fs)) (Err (Short refusal.FindingsSlice (7 * length fs)))) (cond t (flat fs ++ drop (7 * length fs) s) s)
          ≡ cond t (lines_for fs ++ line_of 69 (length fs ∷ [])) (refusal_text (Short refusal.FindingsSlice (7 * length fs)))
      go true = ap (λ (x : List ℕ). x ++ line_of 69 (length fs ∷ [])) (lines_flat fs (drop (7 * length fs) s))
      go false = refl

  by_text : (v : Verdict) → answer_text (unless v Err (report_answer fs (length s))) (unless v (λ e. s) (report_slice fs s)) ≡ verdict_text v fs
  unfolding answer_text verdict_text
  by_text (Err e) = refl
  by_text (Ok u) = report_text

report_counted : (fs : List Finding) (len : ℕ) → Counted (report_answer fs len) len
unfolding report_answer
report_counted fs len = go (leb (7 * length fs) len) refl
  where
    go : (t : Bool) → leb (7 * length fs) len ≡ t → Counted (cond t (Ok (length fs)) (Err (Short refusal.FindingsSlice (7 * length fs)))) len
    go true e = leb-true (7 * length fs) len e
    go false e = tt

by_counted : (v : Verdict) (fs : List Finding) (len : ℕ) → Counted (unless v Err (report_answer fs len)) len
by_counted (Err e) fs len = tt
by_counted (Ok u) fs len = report_counted fs len

module _ (kind : ℕ) (ns ss source names : List ℕ) where
  pub check_text_lem : (s : List ℕ) → length s ≡ findings_room → answer_text (check_answer (rule kind 0 ns ss source names) (length s)) (check_slice (rule kind 0 ns ss source names) s) ≡ check_text kind ns ss source names
  unfolding check_answer check_slice check_text
  check_text_lem s h =
      by_text (reported (rule kind 0 ns ss source names)) s h (input_refusal kind ns ss source names)
      ∙ ap (verdict_text (input_refusal kind ns ss source names)) (off kind ns ss source names)

  pub check_counted : (len : ℕ) → Counted (check_answer (rule kind 0 ns ss source names) len) len
  unfolding check_answer
  check_counted len = by_counted (input_refusal kind ns ss source names) (reported (rule kind 0 ns ss source names)) len

-- the same of the slices as the code has them
module _ (kind : ℕ) (s g : List ℕ) (r : Result ℕ Refused) (ns ss xs ms : List ℕ) (h : length s ≡ findings_room) (a : r ≡ check_answer (rule kind 0 ns ss xs ms) (length s)) (b : g ≡ check_slice (rule kind 0 ns ss xs ms) s) where
  pub checked_counted : length g ≡ length s → Counted r (length g)
  checked_counted e = rw (e, a) (check_counted kind ns ss xs ms (length s))

  pub checked_text : (ns' ss' xs' ms' : List ℕ) → ns ≡ ns' → ss ≡ ss' → xs ≡ xs' → ms ≡ ms' → answer_text r g ≡ check_text kind ns' ss' xs' ms'
  checked_text ns' ss' xs' ms' p q u v = rw (a, b, sym p, sym q, sym u, sym v) (check_text_lem kind ns ss xs ms s h)

-- the text by what `read` answers
module _ (b : List ℕ) where
  pub text_unread : (d : Unread) → (read_input lent b).answer ≡ Err d → response b ≡ refusal_text (At refusal.Unread d.line)
  unfolding response
  text_unread d e = rw e

  pub text_tables : (got : Tables) (n₀ s₀ x₀ m₀ ns ss xs ms : List ℕ) → (read_input lent b).answer ≡ Ok got → Given (read_input lent b) n₀ s₀ x₀ m₀ ns ss xs ms
      → check_text got.kind (take got.nodes ns) (take got.scopes ss) (take got.source xs) (take got.names ms) ≡ response b
  unfolding response
  text_tables got n₀ s₀ x₀ m₀ ns ss xs ms e g =
      let d : Reading = read_input lent b in
      let t : Sized (Ok got) d = subst (λ (i : Result Tables Unread). Sized i d) e (lines_told lent (lines_of b)) in
      rw (e, part d.nodes n₀ ns got.nodes t.0 g.nodes, part d.scopes s₀ ss got.scopes t.1 g.scopes, part d.source x₀ xs got.source t.2 g.source, part d.names m₀ ms got.names t.3 g.names)

-- a text put at a slice's start
pub put_front : (f t : List ℕ) → put f 0 t ≡ front t f
put_front f t = ap (λ (k : ℕ). t ++ drop k f) (zero-add (length t))

pub front_put : (f g t u : List ℕ) (r : ℕ) → t ≡ u → (r ≡ length t) × (g ≡ put f 0 t) → (r ≡ length u) × (g ≡ front u f)
front_put f g t u r e p = (p.0 ∙ ap length e, p.1 ∙ put_front f t ∙ ap (λ (x : List ℕ). front x f) e)

pub front_same : (f g t u : List ℕ) (r : ℕ) → t ≡ u → (r ≡ length t) × (g ≡ front t f) → (r ≡ length u) × (g ≡ front u f)
front_same f g t u r e p = rw (sym e) p

-- Nothing is cut: the program reads at most `enough` bytes, and more of them change nothing.
pub response_whole : (b : List ℕ) → response (take enough b) ≡ response b
unfolding response
response_whole b = ap (λ (d : Reading). input_text d.answer d) (input_whole lent b)
