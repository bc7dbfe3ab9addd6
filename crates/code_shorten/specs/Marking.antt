-- Numbers marked in place: each is raised by 8, which no number has that begins an instruction.
use Rattle.std.specs.Prelude.{ℕ, ◌+◌, Bool, true, false, ◌&&◌, ◌||◌, List, [], ◌∷◌, length, get_or, set, ltb}
use Rattle.route_completion.specs.Sem.{pick}

abbrev pub raise : ℕ
raise = 8

-- The numbers with t marked.
unfoldable pub marked_at : List ℕ → ℕ → List ℕ
marked_at C t = pick (ltb (get_or C t 0) raise) (set C t (get_or C t 0 + raise)) C

-- It was not marked before.
unfoldable pub new_at : List ℕ → ℕ → Bool
new_at C t = ltb t (length C) && ltb (get_or C t 0) raise

-- One place after another.
unfoldable pub marks_at : List ℕ → List ℕ → List ℕ
marks_at C [] = C
marks_at C (t ∷ ts) = marks_at (marked_at C t) ts

unfoldable pub news_at : List ℕ → List ℕ → Bool
news_at C [] = false
news_at C (t ∷ ts) = new_at C t || news_at (marked_at C t) ts

-- How many numbers can still be marked.
unfoldable pub low : List ℕ → ℕ
low [] = 0
low (x ∷ l) = pick (ltb x raise) 1 0 + low l

abbrev pub bit : Bool → ℕ
bit true = 1
bit false = 0
