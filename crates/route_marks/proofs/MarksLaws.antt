-- Laws of the array of marks: how it is read and written, and that what was written is read.
use Rattle.std.specs.Prelude.{ℕ, zero, suc, ◌+◌, ◌*◌, ◌/◌, ◌%◌, ◌≤◌, ◌<◌, ◌≡◌, refl, List, [], ◌∷◌, ◌++◌, true, ltb, leb, length, get_or, set}
use Rattle.std.proofs.Common.{sym, ◌∙◌, ap, arith, add-one, add-zero, ltb-true, leb-true, length-append}
use Rattle.std.proofs.lemmas.List.Edits.{sets}
use Rattle.base_common.proofs.UptoLaws.{and_left_lem, and_right_lem}
use Rattle.code_flat.specs.Machine.{Frame, open', pend, pos}
use Rattle.code_machine.specs.Pending.{half, frame_by, frame_of, stack}
use Rattle.code_machine.proofs.PendingLaws.{stack_push, stack_top, stack_length}
use Rattle.route_marks.specs.Marks.{marks, part_at, first_of, is_set, ends_at, end_numbers, ends_numbers, set_mark}

-- A pair read.
pub pair_frame : (t d : ℕ) → t < half → frame_of (d * half + t) ≡ frame_by d t
pair_frame t d h =
    let u : (d * half + t) / half ≡ d = omega arith in
    let v : (d * half + t) % half ≡ t = omega arith in
    λ i. frame_by (u i) (v i)

pub read_first : (M ends : List ℕ) (o : ℕ) → stack ends 0 ≡ ends_at M o 0
unfolding stack ends_at
read_first M ends o = refl

pub read_more : (M ends : List ℕ) (o i x : ℕ) → i < length ends → stack ends i ≡ ends_at M o i → frame_of x ≡ frame_by (get_or M (o + i * 2 + 1) 0) (get_or M (o + i * 2) 0)
    → stack (set ends i x) (i + 1) ≡ ends_at M o (i + 1)
unfolding ends_at
read_more M ends o i x l e f =
    rw (add-one i) (stack_push ends i x l ∙ (λ j. f j ∷ e j))

-- A pair written.
pair_numbers : (d t : ℕ) → end_numbers (frame_by d t) ≡ t ∷ d ∷ []
pair_numbers zero t = refl
pair_numbers (suc d) t = refl

pub numbers_length : (K : List Frame) → length (ends_numbers K) ≡ length K * 2
unfolding ends_numbers
numbers_length [] = refl
numbers_length (open' f ∷ K) = length-append (ends_numbers K) (f ∷ 0 ∷ []) ∙ omega (arith, numbers_length K)
numbers_length (pend t d ∷ K) = length-append (ends_numbers K) (t ∷ suc d ∷ []) ∙ omega (arith, numbers_length K)

-- Stores that follow stores.
pub sets_twice : (vs us M : List ℕ) (o : ℕ) → sets (sets M o vs) (o + length vs) us ≡ sets M o (vs ++ us)
sets_twice [] us M o = ap (λ k. sets M k us) (add-zero o)
sets_twice (v ∷ vs) us M o =
    let e : o + suc (length vs) ≡ suc o + length vs = omega arith in
    ap (λ k. sets (sets (set M o v) (suc o) vs) k us) e ∙ sets_twice vs us (set M o v) (suc o)

-- One more pending end is written.
pub write_more : (M f ends : List ℕ) (o i x y : ℕ) → f ≡ sets M o (ends_numbers (stack ends i)) → x ≡ get_or ends i 0 % half → y ≡ get_or ends i 0 / half
    → set (set f (o + i * 2) x) (o + i * 2 + 1) y ≡ sets M o (ends_numbers (stack ends (i + 1)))
unfolding ends_numbers
write_more M f ends o i x y e hx hy =
    ap (λ g. set (set g (o + i * 2) x) (o + i * 2 + 1) y) e
    ∙ ap (λ k. set (set (sets M o (ends_numbers (stack ends i))) (o + i * 2) x) k y) (add-one (o + i * 2))
    ∙ ap (λ k. sets (sets M o (ends_numbers (stack ends i))) k (x ∷ y ∷ [])) at
    ∙ sets_twice (ends_numbers (stack ends i)) (x ∷ y ∷ []) M o
    ∙ ap (λ l. sets M o (ends_numbers (stack ends i) ++ l)) (sym numbers)
    ∙ ap (λ K. sets M o (ends_numbers K)) (sym (stack_top ends (i + 1) i (omega arith)))
  where
    at : o + i * 2 ≡ o + length (ends_numbers (stack ends i))
    at = omega (arith, numbers_length (stack ends i), stack_length ends i)

    numbers : end_numbers (frame_of (get_or ends i 0)) ≡ x ∷ y ∷ []
    numbers = pair_numbers (get_or ends i 0 / half) (get_or ends i 0 % half) ∙ (λ j. sym hx j ∷ sym hy j ∷ [])

pub write_first : (M ends : List ℕ) (o : ℕ) → M ≡ sets M o (ends_numbers (stack ends 0))
unfolding ends_numbers stack
write_first M ends o = refl

-- The first two numbers, and then the pending ends: the mark.
pub mark_written : (M ends : List ℕ) (m t n a o : ℕ) → o ≡ part_at m → a ≡ n + 1
    → sets (set (set M o a) (o + 1) t) (o + 2) (ends_numbers (stack ends n)) ≡ set_mark M m (pos t (stack ends n))
mark_written M ends m t n a o e f =
    let two : o + 2 ≡ suc (suc o) = omega arith in
    let first : a ≡ suc (length (stack ends n)) = omega (arith, stack_length ends n) in
    ap (λ k. sets (set (set M o a) k t) (o + 2) (ends_numbers (stack ends n))) (add-one o)
    ∙ ap (λ k. sets (set (set M o a) (suc o) t) k (ends_numbers (stack ends n))) two
    ∙ (λ i. sets M (e i) (first i ∷ t ∷ ends_numbers (stack ends n)))

-- A mark that is set.
pub record SetFacts (M : List ℕ) (m : ℕ) : Type 0 where
  pub one : m < marks
  pub some : 1 ≤ first_of M m
  pub most : first_of M m ≤ 513

pub set_facts : (M : List ℕ) (m : ℕ) → is_set M m ≡ true → SetFacts M m
set_facts M m e =
    let r = and_right_lem (ltb m marks) _ e in
    record {
      one = ltb-true m marks (and_left_lem (ltb m marks) _ e);
      some = leb-true 1 (first_of M m) (and_left_lem (leb 1 (first_of M m)) (leb (first_of M m) 513) r);
      most = leb-true (first_of M m) 513 (and_right_lem (leb 1 (first_of M m)) (leb (first_of M m) 513) r);
    }
