-- What `shorten` answers and leaves, for every slice.
use Rattle.std.specs.Prelude.{ℕ, List, ◌++◌, length, drop, Result, Ok, Err}
use Rattle.code_valid.specs.Valid.{check}
use Rattle.code_shorten.specs.Short.{shorter}
-- "Room that it frees is reported as old length less new length."
pub use Rattle.code_shorten.specs.Claims.{freed}

-- One thing where 18 does not turn the slice down, another of its place where it does.
abbrev pub by : {A : Type 0} → Result (Unit {0}) ℕ → A → (ℕ → A) → A
by (Ok v) a f = a
by (Err p) a f = f p

-- The new length; 18 with its place, "checked before anything is changed".
unfoldable pub shorten_answer : List ℕ → Result ℕ ℕ
shorten_answer C = by (check C) (Ok (length (shorter C))) Err

-- The first entries are the shorter code, "those behind stay as they were"; 18 leaves the slice as it was.
unfoldable pub shorten_slice : List ℕ → List ℕ
shorten_slice C = by (check C) (shorter C ++ drop (length (shorter C)) C) (λ p. C)
