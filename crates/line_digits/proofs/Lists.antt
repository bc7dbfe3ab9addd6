-- Lists as a loop over a slice goes through them.
use Rattle.std.specs.Prelude.{ℕ, zero, suc, ◌+◌, ◌-◌, ◌≤◌, ◌<◌, ◌≡◌, refl, List, [], ◌∷◌, length, get_or, take, drop}
use Rattle.std.proofs.Common.{add-one, arith, length-drop, drop_of_length-le, drop-cons, take_all}

-- what is left from place i on: its first, and what is left after that
pub drop_step : (l : List ℕ) (i : ℕ) → i < length l → drop i l ≡ get_or l i 0 ∷ drop (i + 1) l
drop_step l i h = rw (add-one i) (drop-cons l i 0 h)

pub drop_end : (l : List ℕ) (i : ℕ) → length l ≤ i → drop i l ≡ []
drop_end l i h = drop_of_length-le l h

-- a part of a slice from place i to the slice's end
pub part_from : (l : List ℕ) (i : ℕ) → take (length l - i) (drop i l) ≡ drop i l
part_from l i = take_all (length l - i) (drop i l) (rw (length-drop i l) (omega arith))

pub drop_none : (l : List ℕ) (i : ℕ) → length l ≡ 0 → drop i l ≡ l
drop_none [] zero h = refl
drop_none [] (suc i) h = refl
drop_none (a ∷ l) i h = absurd (omega arith)
