-- The text of an answer, line by line, and how long it is.
use Rattle.refusal_verdict.specs.declared.Refusal.TheVariants as refusal
use Rattle.refusal_verdict.specs.declared.Refused.TheVariants.{Short}
use Rattle.std.specs.Prelude.{ℕ, zero, suc, ◌+◌, ◌-◌, ◌*◌, ◌≤◌, ◌<◌, ◌≡◌, refl, List, [], ◌∷◌, ◌++◌, length, get_or, take, drop, Result, Ok, Err}
use Rattle.std.proofs.Common.{ap, subst, ◌∙◌, arith, length-append, length-take, drop-drop}
use Rattle.base_common.specs.Wrote.{Wrote, put}
use Rattle.base_common.proofs.WroteLaws.{wrote_start, wrote_put, length_put}
use Rattle.table_put.proofs.Writes.{put_put}
use Rattle.line_print.specs.Print.{line_of}
use Rattle.line_print.proofs.PrintLaws.{line_numbers}
use Rattle.refusal_verdict.specs.declared.Refused.{Refused}
use Rattle.line_answers.specs.Answer.{refusal_line, finding_lines, findings_text, refusal_text, answer_text, Counted}

lines_cons : (n : ℕ) (l : List ℕ) → finding_lines (suc n) l ≡ line_of 70 (take 7 l) ++ finding_lines n (drop 7 l)
unfolding finding_lines
lines_cons n l = refl

lines_nil : (l : List ℕ) → finding_lines 0 l ≡ []
unfolding finding_lines
lines_nil l = refl

-- what is left to print from finding i on: its line, and what is left after that
module _ (n i : ℕ) (l : List ℕ) where
  lines_step : i < n → finding_lines (n - i) (drop (i * 7) l) ≡ line_of 70 (take 7 (drop (i * 7) l)) ++ finding_lines (n - (i + 1)) (drop ((i + 1) * 7) l)
  lines_step h =
      let s : n - i ≡ suc (n - (i + 1)) = omega arith in
      let k : i * 7 + 7 ≡ (i + 1) * 7 = omega arith in
      let d : drop 7 (drop (i * 7) l) ≡ drop ((i + 1) * 7) l = drop-drop 7 (i * 7) l ∙ ap (λ (j : ℕ). drop j l) k in
      ap (λ (m : ℕ). finding_lines m (drop (i * 7) l)) s ∙ lines_cons (n - (i + 1)) (drop (i * 7) l) ∙ ap (λ (r : List ℕ). line_of 70 (take 7 (drop (i * 7) l)) ++ finding_lines (n - (i + 1)) r) d

  lines_over : n ≤ i → finding_lines (n - i) (drop (i * 7) l) ≡ []
  lines_over h =
      let z : n - i ≡ 0 = omega arith in
      ap (λ (m : ℕ). finding_lines m (drop (i * 7) l)) z ∙ lines_nil (drop (i * 7) l)

pub lines_start : (f l : List ℕ) (n : ℕ) → length (finding_lines n l) ≤ length f → Wrote f f 0 (finding_lines (n - 0) (drop (0 * 7) l)) (finding_lines n l)
lines_start f l n h =
    let e : n ≡ n - 0 = omega arith in
    subst (λ (m : ℕ). Wrote f f 0 (finding_lines m l) (finding_lines n l)) e (wrote_start f (finding_lines n l) h)

-- a finding a turn
module _ (f₀ f : List ℕ) (w n i : ℕ) (l whole : List ℕ) (o : Wrote f₀ f w (finding_lines (n - i) (drop (i * 7) l)) whole) where
  abbrev line : List ℕ
  line = line_of 70 (take 7 (drop (i * 7) l))

  pub lines_turn : i < n → Wrote f₀ (put f w line) (w + length line) (finding_lines (n - (i + 1)) (drop ((i + 1) * 7) l)) whole
  lines_turn h = wrote_put f₀ f w line _ whole (subst (λ (x : List ℕ). Wrote f₀ f w x whole) (lines_step n i l h) o)

  pub lines_room : i < n → w + length line ≤ length f
  lines_room h =
      let r = o.room in
      let s = o.same in
      omega (arith, ap length (lines_step n i l h) ∙ length-append line (finding_lines (n - (i + 1)) (drop ((i + 1) * 7) l)))

  pub lines_end : n ≤ i → Wrote f₀ f w [] whole
  lines_end h = subst (λ (x : List ℕ). Wrote f₀ f w x whole) (lines_over n i l h) o

-- every number of the list has 32 bits
abbrev pub Numbers : List ℕ → Type 0
Numbers l = (i : ℕ) → get_or l i 0 < 4294967296

numbers_take : (k : ℕ) (l : List ℕ) → Numbers l → Numbers (take k l)
numbers_take zero l w i = omega arith
numbers_take (suc k) [] w i = w i
numbers_take (suc k) (a ∷ l) w zero = w zero
numbers_take (suc k) (a ∷ l) w (suc i) = numbers_take k l (λ j. w (suc j)) i

numbers_drop : (k : ℕ) (l : List ℕ) → Numbers l → Numbers (drop k l)
numbers_drop zero l w i = w i
numbers_drop (suc k) [] w i = w i
numbers_drop (suc k) (a ∷ l) w i = numbers_drop k l (λ j. w (suc j)) i

-- a finding takes at most 79 bytes
pub length_lines : (n : ℕ) (l : List ℕ) → Numbers l → length (finding_lines n l) ≤ 79 * n
length_lines zero l w = omega (arith, ap length (lines_nil l))
length_lines (suc n) l w =
    omega (arith, ap length (lines_cons n l) ∙ length-append (line_of 70 (take 7 l)) (finding_lines n (drop 7 l)), line_numbers 70 (take 7 l) (numbers_take 7 l w), length-take 7 l, length_lines n (drop 7 l) (numbers_drop 7 l w))

pub numbers_one : (n : ℕ) → n < 4294967296 → Numbers (n ∷ [])
numbers_one n h zero = h
numbers_one n h (suc i) = omega arith

pub numbers_two : (m n : ℕ) → m < 4294967296 → n < 4294967296 → Numbers (m ∷ n ∷ [])
numbers_two m n g h zero = g
numbers_two m n g h (suc i) = numbers_one n h i

pub length_findings : (n : ℕ) (l : List ℕ) → Numbers l → n < 4294967296 → length (findings_text n l) ≤ 79 * n + 13
length_findings n l w h =
    omega (arith, length-append (finding_lines n l) (line_of 69 (n ∷ [])), length_lines n l w, line_numbers 69 (n ∷ []) (numbers_one n h))

-- the lines, and the line of their count behind them
module _ (f g : List ℕ) (n : ℕ) (l : List ℕ) (h : length (findings_text n l) ≤ length f) (e : g ≡ put f 0 (finding_lines n l)) where
  pub count_room : length (finding_lines n l) + length (line_of 69 (n ∷ [])) ≤ length g
  count_room =
      let a = length-append (finding_lines n l) (line_of 69 (n ∷ [])) in
      omega (arith, ap length e ∙ length_put f 0 (finding_lines n l) (omega arith))

  pub count_put : put g (length (finding_lines n l)) (line_of 69 (n ∷ [])) ≡ put f 0 (findings_text n l)
  count_put =
      let a = length-append (finding_lines n l) (line_of 69 (n ∷ [])) in
      let z : length (finding_lines n l) ≡ 0 + length (finding_lines n l) = omega arith in
      ap (λ (x : List ℕ). put x (length (finding_lines n l)) (line_of 69 (n ∷ []))) e
      ∙ ap (λ (k : ℕ). put (put f 0 (finding_lines n l)) k (line_of 69 (n ∷ []))) z
      ∙ put_put f 0 (finding_lines n l) (line_of 69 (n ∷ [])) (omega arith)

-- an answer by its kind
module _ (r : Result ℕ Refused) (l : List ℕ) where
  pub counted_findings : (n : ℕ) → r ≡ Ok n → Counted r (length l) → 7 * n ≤ length l
  counted_findings n e h = subst (λ (x : Result ℕ Refused). Counted x (length l)) e h

  pub text_findings : (n : ℕ) → r ≡ Ok n → answer_text r l ≡ findings_text n l
  unfolding answer_text
  text_findings n e = rw e

  pub text_refused : (f : Refused) → r ≡ Err f → answer_text r l ≡ refusal_text f
  unfolding answer_text
  text_refused f e = rw e

module _ (r : Result ℕ Refused) (l : List ℕ) where
  pub text_short : (needed : ℕ) → r ≡ Err (Short refusal.FindingsSlice needed) → answer_text r l ≡ refusal_line 10 0
  unfolding answer_text
  text_short needed e = rw e
