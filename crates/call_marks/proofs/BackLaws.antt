-- What was written of a mark is read: a mark that a call has set is set, and holds where the route stood.
use Rattle.std.specs.Prelude.{ℕ, zero, suc, ◌+◌, ◌-◌, ◌*◌, ◌≤◌, ◌<◌, ◌≡◌, refl, List, [], ◌∷◌, ◌++◌, true, ◌&&◌, length, get_or, set}
use Rattle.std.proofs.Common.{sym, ◌∙◌, ap, arith, add-zero, lt-ltb, le-leb, length-append, length-set, get_or-set_same, get_or-set_other, get_or-append-add}
use Rattle.std.proofs.Math.ListN.{get_or-append}
use Rattle.std.proofs.lemmas.List.Edits.{sets}
use Rattle.std.proofs.Math.Seq.{length-sets}
use Rattle.code_flat.specs.Machine.{Frame, open', pend, Pos, pos}
use Rattle.code_machine.specs.Pending.{frame_by}
use Rattle.route_marks.specs.Marks.{marks, part_at, first_of, is_set, ends_at, mark_at, end_numbers, ends_numbers, mark_numbers, set_mark}
use Rattle.route_marks.proofs.MarksLaws.{numbers_length}
use Rattle.call_marks.specs.Theorem.{all_parts}

sets_before : (vs M : List ℕ) (o k : ℕ) → k < o → get_or (sets M o vs) k 0 ≡ get_or M k 0
sets_before [] M o k h = refl
sets_before (v ∷ vs) M o k h = sets_before vs (set M o v) (suc o) k (omega arith) ∙ get_or-set_other M o k v 0 (λ q. absurd (omega arith))

sets_at : (vs M : List ℕ) (o i : ℕ) → i < length vs → o + length vs ≤ length M → get_or (sets M o vs) (o + i) 0 ≡ get_or vs i 0
sets_at [] M o i h l = absurd (omega arith)
sets_at (v ∷ vs) M o zero h l =
    ap (λ k. get_or (sets (set M o v) (suc o) vs) k 0) (add-zero o) ∙ sets_before vs (set M o v) (suc o) o (omega arith) ∙ get_or-set_same M o v 0 (omega arith)
sets_at (v ∷ vs) M o (suc i) h l =
    let e : o + suc i ≡ suc o + i = omega arith in
    ap (λ k. get_or (sets (set M o v) (suc o) vs) k 0) e ∙ sets_at vs (set M o v) (suc o) i (omega arith) (omega (arith, length-set M o v))

two : (f : Frame) → length (end_numbers f) ≡ 2
two (open' f) = refl
two (pend t d) = refl

frame_back : (f : Frame) → frame_by (get_or (end_numbers f) 1 0) (get_or (end_numbers f) 0 0) ≡ f
frame_back (open' f) = refl
frame_back (pend t d) = refl

ends_back : (K : List Frame) (A : List ℕ) (o : ℕ) → ((i : ℕ) → i < length (ends_numbers K) → get_or A (o + i) 0 ≡ get_or (ends_numbers K) i 0) → ends_at A o (length K) ≡ K
unfolding ends_numbers ends_at
ends_back [] A o h = refl
ends_back (f ∷ K) A o h = λ i. (both ∙ frame_back f) i ∷ ends_back K A o low i
  where
    whole : length (ends_numbers K ++ end_numbers f) ≡ length K * 2 + 2
    whole = length-append (ends_numbers K) (end_numbers f) ∙ omega (arith, numbers_length K, two f)

    low : (i : ℕ) → i < length (ends_numbers K) → get_or A (o + i) 0 ≡ get_or (ends_numbers K) i 0
    low i l = h i (omega (arith, whole, numbers_length K)) ∙ get_or-append (ends_numbers K) (end_numbers f) 0 i l

    number : (n : ℕ) → n < 2 → get_or A (o + (length K * 2 + n)) 0 ≡ get_or (end_numbers f) n 0
    number n l =
        let e : length K * 2 + n ≡ length (ends_numbers K) + n = omega (arith, numbers_length K) in
        h (length K * 2 + n) (omega (arith, whole)) ∙ ap (λ k. get_or (ends_numbers K ++ end_numbers f) k 0) e ∙ get_or-append-add (ends_numbers K) (end_numbers f) n 0

    both : frame_by (get_or A (o + length K * 2 + 1) 0) (get_or A (o + length K * 2) 0) ≡ frame_by (get_or (end_numbers f) 1 0) (get_or (end_numbers f) 0 0)
    both =
        let e : o + length K * 2 + 1 ≡ o + (length K * 2 + 1) = omega arith in
        let d : o + length K * 2 ≡ o + (length K * 2 + 0) = omega arith in
        λ i. frame_by ((ap (λ k. get_or A k 0) e ∙ number 1 (omega arith)) i) ((ap (λ k. get_or A k 0) d ∙ number 0 (omega arith)) i)

module _ (M : List ℕ) (m : ℕ) (p : Pos) (whole : length M ≡ all_parts) (one : m < marks) (room : length p.stack ≤ 512) where
  stored : (i : ℕ) → i < length (mark_numbers p) → get_or (set_mark M m p) (part_at m + i) 0 ≡ get_or (mark_numbers p) i 0
  stored i l = sets_at (mark_numbers p) M (part_at m) i l (omega (arith, numbers_length p.stack))

  first : first_of (set_mark M m p) m ≡ suc (length p.stack)
  first = ap (λ k. get_or (set_mark M m p) k 0) (sym (add-zero (part_at m))) ∙ stored 0 (omega arith)

  pub set_back : is_set (set_mark M m p) m ≡ true
  set_back =
      λ i. lt-ltb m marks one i && (le-leb 1 (first_of (set_mark M m p) m) (omega (arith, first)) i && le-leb (first_of (set_mark M m p) m) 513 (omega (arith, first)) i)

  pub mark_back : mark_at (set_mark M m p) m ≡ p
  mark_back =
      let n : first_of (set_mark M m p) m - 1 ≡ length p.stack = omega (arith, first) in
      λ i. pos (stored 1 (omega arith) i) ((ap (ends_at (set_mark M m p) (part_at m + 2)) n ∙ ends_back p.stack (set_mark M m p) (part_at m + 2) each) i)
    where
      each : (i : ℕ) → i < length (ends_numbers p.stack) → get_or (set_mark M m p) (part_at m + 2 + i) 0 ≡ get_or (ends_numbers p.stack) i 0
      each i l =
          let e : part_at m + 2 + i ≡ part_at m + suc (suc i) = omega arith in
          ap (λ k. get_or (set_mark M m p) k 0) e ∙ stored (suc (suc i)) (omega arith)

pub length_set : (M : List ℕ) (m : ℕ) (p : Pos) → length (set_mark M m p) ≡ length M
length_set M m p = length-sets M (part_at m) (mark_numbers p)
