-- "Success changes no entry past the last one written."
use Rattle.std.specs.Prelude.{ℕ, List, ◌++◌, length, drop}

-- a slice with these numbers at its front, and the rest as it was
abbrev pub over : List ℕ → List ℕ → List ℕ
over l s = l ++ drop (length l) s
