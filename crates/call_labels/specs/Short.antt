-- The short names. Document 02, request 12: "labels become a, b, .., z, aa and so on, without do, if and in".
use Rattle.std.specs.Prelude.{ℕ, ◌+◌, ◌-◌, ◌/◌, ◌%◌, Bool, cond, ◌||◌, ltb}
use mathlib.Core.List.{List, [], ◌∷◌, ◌++◌, map, flat_map, foldr}
use Rattle.base_common.specs.Upto.{upto}
use Rattle.table_names.specs.Name.{same}

-- the byte of `a`, and how many letters there are
abbrev pub letter_a : ℕ
letter_a = 97

abbrev pub letters : ℕ
letters = 26

-- how many short names there are, 26 and 26 * 26 - 3: "a 700th different label" has none
abbrev pub most : ℕ
most = 699

-- `do`, `if`, `in`: the words of two letters at most that no label may have
abbrev is_short_word : List ℕ → Bool
is_short_word x = same x (100 ∷ 111 ∷ []) || (same x (105 ∷ 102 ∷ []) || same x (105 ∷ 110 ∷ []))

-- the names of one letter, then those of two, in order, without these
unfoldable pub short_names : List (List ℕ)
short_names =
    foldr (λ x r. cond (is_short_word x) r (x ∷ r)) []
    (map (λ i. (letter_a + i) ∷ []) (upto 0 letters) ++ flat_map (λ i. map (λ j. (letter_a + i) ∷ (letter_a + j) ∷ []) (upto 0 letters)) (upto 0 letters))

-- the k-th of them by itself (ShortLaws.short_names_lem): the pair has the number k − 26 among all pairs, and one more for each word left out (do 92, if 213, in 221)
abbrev pub pair_of : ℕ → ℕ
pair_of m = cond (ltb m 92) m (cond (ltb m 212) (m + 1) (cond (ltb m 219) (m + 2) (m + 3)))

unfoldable pub short_name : ℕ → List ℕ
short_name k = cond (ltb k letters) ((letter_a + k) ∷ []) ((letter_a + pair_of (k - letters) / letters) ∷ (letter_a + pair_of (k - letters) % letters) ∷ [])
