-- The report of findings, as the code comes to it.
use Rattle.std.specs.Prelude.{ℕ, ◌+◌, ◌*◌, ◌≤◌, ◌<◌, ◌≡◌, List, ◌++◌, take, drop, Ok, Err}
use Rattle.std.proofs.Common.{sym, ◌∙◌, ap, le-leb, take_all}
use Rattle.std.proofs.lemmas.List.{take-append-le}
use native.Mathlib.Omega.{arith}
use Rattle.std.proofs.lemmas.Bool.{lt-leb}
use Rattle.std.proofs.Math.ListN.{length}
use Rattle.check_diagnostics.specs.declared.Finding.{Finding}
use Rattle.check_diagnostics.specs.Finding.{flat, sink}
use Rattle.check_diagnostics.proofs.FindingLaws.{length_flat_lem, sink_all}
use Rattle.call_check.specs.Check.{report_answer, report_slice}
use Rattle.refusal_verdict.specs.declared.Refusal.TheVariants as refusal
use Rattle.refusal_verdict.specs.declared.Refused.TheVariants.{Short}

module _ (fs : List Finding) (s : List ℕ) where
  pub answer_short : length s < 7 * length fs → report_answer fs (length s) ≡ Err (Short refusal.FindingsSlice (7 * length fs))
  unfolding report_answer
  answer_short h = rw (lt-leb (7 * length fs) (length s) h)

  pub slice_short : length s < 7 * length fs → report_slice fs s ≡ s
  unfolding report_slice
  slice_short h = rw (lt-leb (7 * length fs) (length s) h)

  pub answer_room : 7 * length fs ≤ length s → report_answer fs (length s) ≡ Ok (length fs)
  unfolding report_answer
  answer_room h = rw (le-leb (7 * length fs) (length s) h)

  pub slice_room : 7 * length fs ≤ length s → report_slice fs s ≡ sink s 0 fs
  unfolding report_slice
  slice_room h =
      let l = length_flat_lem fs in
      let e : 0 + length (flat fs) ≡ 7 * length fs = omega arith in
      rw (le-leb (7 * length fs) (length s) h) (sym (sink_all s 0 fs (omega arith) ∙ rw e))

  -- Counted in an array that has room for all of them, and copied from there.
  pub slice_copied : (few : List ℕ) (n : ℕ) → n ≡ 7 * length fs → n ≤ length few → n ≤ length s → (take n (sink few 0 fs) ++ drop n s) ≡ report_slice fs s
  unfolding report_slice
  slice_copied few n q a h =
      let l = length_flat_lem fs in
      let e : sink few 0 fs ≡ flat fs ++ drop (0 + length (flat fs)) few = sink_all few 0 fs (omega arith) in
      let t : take n (flat fs ++ drop (0 + length (flat fs)) few) ≡ flat fs = take-append-le n (flat fs) (drop (0 + length (flat fs)) few) (omega arith) ∙ take_all n (flat fs) (omega arith) in
      rw (le-leb (7 * length fs) (length s) (omega arith)) (ap (λ x. x ++ drop n s) (ap (take n) e ∙ t) ∙ ap (λ m. flat fs ++ drop m s) q)
