use Rattle.code_mark.proofs.MarkLaws.{no_marks, news_one, marks_one, leads_low, leads_by, leads_leave, leads_case, leads_not}
use Rattle.code_shorten.specs.Marking.{marks_at, news_at}
use Rattle.code_mark.specs.Marks.{target_in, leads_in}
use Rattle.code_flat.specs.Opcodes as op
use Rattle.std.proofs.Math.Decide.{dec_lt}
use Rattle.std.proofs.lemmas.Grind.{common_steps}
use native.Mathlib.Omega.{arith}
use lib.ListN.{get_or}
use mathlib.Core.List.{[], ◌∷◌}
use mathlib.Core.Logic.{◌⊎◌, inl, inr}
use mathlib.Core.Path.{◌≡◌, sym, ◌∙◌, ap}
use Prim.Native.Nat.{ℕ, ◌+◌, ◌≤◌, ◌<◌}
use Rattle.code_mark.proofs.mark_leads.Goals as goal

-- An ASK or a SELECT.
either_of : (x : ℕ) → op.Ask ≤ x → x < op.Open → (x ≡ op.Ask) ⊎ (x ≡ op.Select)
either_of x h k = elim (dec_lt x op.Select) [ yes l ↦ inl (omega arith) | no l ↦ inr (omega arith) ]

pub returns-then-word-lt-RAISE : goal.returns-then-word-lt-RAISE
returns-then-word-lt-RAISE c =
    let C = c.args.code.now in
    let e : leads_in C c.args.p ≡ [] = leads_low C c.args.p (omega (arith, c.word.ensures)) in
    record { news = (no_marks C).0 ∙ ap (news_at C) (sym e); marks = (no_marks C).1 ∙ ap (marks_at C) (sym e) }

pub returns-in-1 : goal.returns-in-1
returns-in-1 c =
    let C = c.args.code.now in
    let e : leads_in C c.args.p ≡ (c.args.p + 2) ∷ [] = leads_by C c.args.p (omega (arith, c.word.ensures)) op.List (sym c.opcode_at.ensures ∙ c.in-1.is) in
    record { news = c.mark.ensures.news ∙ sym (news_one C (c.args.p + 2)) ∙ ap (news_at C) (sym e); marks = c.mark.ensures.marks ∙ sym (marks_one C (c.args.p + 2)) ∙ ap (marks_at C) (sym e) }

pub returns-in-2 : goal.returns-in-2
returns-in-2 c =
    let C = c.args.code.now in
    let t : c.target_of-target.result ≡ target_in C (get_or C (c.args.p + 1) 0) (get_or C (c.args.p + 2) 0) = c.target_of-target.ensures ∙ (λ j. target_in C (c.word-a.ensures j) (c.word-b.ensures j)) in
    let e : leads_in C c.args.p ≡ c.target_of-target.result ∷ [] = leads_leave C c.args.p (omega (arith, c.word.ensures)) (sym c.opcode_at.ensures ∙ c.in-2.is) ∙ ap (λ y. y ∷ []) (sym t) in
    record { news = c.mark-in-2.ensures.news ∙ sym (news_one C c.target_of-target.result) ∙ ap (news_at C) (sym e); marks = c.mark-in-2.ensures.marks ∙ sym (marks_one C c.target_of-target.result) ∙ ap (marks_at C) (sym e) }

pub returns-in-5 : goal.returns-in-5
returns-in-5 c =
    let C = c.args.code.now in
    let e : leads_in C c.args.p ≡ (c.args.p + 2) ∷ c.word-a.result ∷ [] = leads_by C c.args.p (omega (arith, c.word.ensures)) op.Open (sym c.opcode_at.ensures ∙ c.in-5.is) ∙ ap (λ y. (c.args.p + 2) ∷ y ∷ []) (sym (c.word-a.ensures)) in
    record { news = c.mark_both.ensures.news ∙ ap (news_at C) (sym e); marks = c.mark_both.ensures.marks ∙ ap (marks_at C) (sym e) }

pub returns-in-7 : goal.returns-in-7
returns-in-7 c =
    let C = c.args.code.now in
    let t : c.target_of-target-in-7.result ≡ target_in C (get_or C (c.args.p + 2) 0) (get_or C (c.args.p + 3) 0) = c.target_of-target-in-7.ensures ∙ (λ j. target_in C (c.word-b.ensures j) (c.word-c.ensures j)) in
    let e : leads_in C c.args.p ≡ c.word-a.result ∷ c.target_of-target-in-7.result ∷ [] = leads_case C c.args.p (omega (arith, c.word.ensures)) (sym c.opcode_at.ensures ∙ c.in-7.is) ∙ (λ j. (sym (c.word-a.ensures)) j ∷ sym t j ∷ []) in
    record { news = c.mark_both-in-7.ensures.news ∙ ap (news_at C) (sym e); marks = c.mark_both-in-7.ensures.marks ∙ ap (marks_at C) (sym e) }

pub returns-in-3 : goal.returns-in-3
returns-in-3 c =
    let C = c.args.code.now in
    let e : leads_in C c.args.p ≡ c.word-b.result ∷ c.word-c.result ∷ [] =
    elim (either_of c.opcode_at.result (grind (arith, common_steps)) (omega arith)) [
      | inl i ↦ leads_by C c.args.p (omega (arith, c.word.ensures)) op.Ask (sym c.opcode_at.ensures ∙ i) ∙ (λ j. sym c.word-b.ensures j ∷ sym c.word-c.ensures j ∷ [])
      | inr i ↦ leads_by C c.args.p (omega (arith, c.word.ensures)) op.Select (sym c.opcode_at.ensures ∙ i) ∙ (λ j. sym c.word-b.ensures j ∷ sym c.word-c.ensures j ∷ [])
    ] in
    record { news = c.mark_both-in-3.ensures.news ∙ ap (news_at C) (sym e); marks = c.mark_both-in-3.ensures.marks ∙ ap (marks_at C) (sym e) }

pub returns-in_default : goal.returns-in_default
returns-in_default c =
    let C = c.args.code.now in
    let e : leads_in C c.args.p ≡ [] = leads_not C c.args.p (omega (arith, c.word.ensures)) c.opcode_at.result (sym c.opcode_at.ensures) (grind (arith, common_steps)) (grind (arith, common_steps)) (grind (arith, common_steps)) (grind (arith, common_steps)) (grind (arith, common_steps)) (grind (arith, common_steps)) in
    record { news = (no_marks C).0 ∙ ap (news_at C) (sym e); marks = (no_marks C).1 ∙ ap (marks_at C) (sym e) }

pub returns-in_default-2 : goal.returns-in_default-2
returns-in_default-2 c =
    let C = c.args.code.now in
    let e : leads_in C c.args.p ≡ [] = leads_not C c.args.p (omega (arith, c.word.ensures)) c.opcode_at.result (sym c.opcode_at.ensures) (grind (arith, common_steps)) (grind (arith, common_steps)) (grind (arith, common_steps)) (grind (arith, common_steps)) (grind (arith, common_steps)) (grind (arith, common_steps)) in
    record { news = (no_marks C).0 ∙ ap (news_at C) (sym e); marks = (no_marks C).1 ∙ ap (marks_at C) (sym e) }
