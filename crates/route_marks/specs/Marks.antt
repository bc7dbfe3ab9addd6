-- The array of marks: a part for each of the "eight marks", which holds a place in the code and the pending ends. Any numbers may stand in it.
use Rattle.std.specs.Prelude.{ℕ, zero, suc, ◌+◌, ◌-◌, ◌*◌, List, [], ◌∷◌, ◌++◌, Bool, ◌&&◌, ltb, leb, length, get_or}
use Rattle.std.proofs.lemmas.List.Edits.{sets}
use Rattle.code_flat.specs.Machine.{Frame, open', pend, Pos, pos}
use Rattle.code_machine.specs.Pending.{frame_by}

-- "16 (mark above 7 ..": so many marks.
abbrev pub marks : ℕ
marks = 8

-- The part of mark m begins at part_at m: a first number, the place, and 512 pairs.
abbrev pub part_at : ℕ → ℕ
part_at m = m * 1026

-- Its first number: 0 if the mark is not set, else one more than its pending ends. Above 513 it counts as not set.
abbrev pub first_of : List ℕ → ℕ → ℕ
first_of M m = get_or M (part_at m) 0

abbrev pub is_set : List ℕ → ℕ → Bool
is_set M m = ltb m marks && (leb 1 (first_of M m) && leb (first_of M m) 513)

-- Its place in the code.
abbrev pub place_of : List ℕ → ℕ → ℕ
place_of M m = get_or M (part_at m + 1) 0

-- Its pending ends, from the lowest: for each a place, and 0 if the finally block there is open, else one more than the depth of the way that waits.
-- These are the n pairs from o on; the last is on top.
unfoldable pub ends_at : List ℕ → ℕ → ℕ → List Frame
ends_at M o zero = []
ends_at M o (suc n) = frame_by (get_or M (o + n * 2 + 1) 0) (get_or M (o + n * 2) 0) ∷ ends_at M o n

-- What a mark holds.
abbrev pub mark_at : List ℕ → ℕ → Pos
mark_at M m = pos (place_of M m) (ends_at M (part_at m + 2) (first_of M m - 1))

-- The numbers of a pending end, of all, and of a mark.
abbrev pub end_numbers : Frame → List ℕ
end_numbers (open' f) = f ∷ 0 ∷ []
end_numbers (pend t d) = t ∷ suc d ∷ []

unfoldable pub ends_numbers : List Frame → List ℕ
ends_numbers [] = []
ends_numbers (f ∷ K) = ends_numbers K ++ end_numbers f

abbrev pub mark_numbers : Pos → List ℕ
mark_numbers p = suc (length p.stack) ∷ p.pc ∷ ends_numbers p.stack

-- The array with mark m set: its numbers are stored one after the other from the part's start on, and all others stay as they were.
abbrev pub set_mark : List ℕ → ℕ → Pos → List ℕ
set_mark M m p = sets M (part_at m) (mark_numbers p)
