-- The codes that each check raises.
use Rattle.std.specs.Prelude.{ℕ, List, [], ◌∷◌}

abbrev pub of_break : List ℕ
of_break = 18 ∷ 19 ∷ 20 ∷ []

abbrev pub of_continue : List ℕ
of_continue = 19 ∷ 20 ∷ 21 ∷ 22 ∷ []

abbrev pub of_label : List ℕ
of_label = 23 ∷ []

abbrev pub of_held : List ℕ
of_held = 15 ∷ 16 ∷ []

-- NAMES AND DIRECTIVES
abbrev pub of_name : List ℕ
of_name = 2 ∷ 3 ∷ []

abbrev pub of_binding : List ℕ
of_binding = 4 ∷ 5 ∷ []

abbrev pub of_reference : List ℕ
of_reference = 4 ∷ 6 ∷ []

-- LITERALS
abbrev pub of_number : List ℕ
of_number = 9 ∷ 10 ∷ []

abbrev pub of_string : List ℕ
of_string = 9 ∷ 11 ∷ []

-- EXPRESSIONS
abbrev pub of_delete : List ℕ
of_delete = 31 ∷ 32 ∷ []

-- 1, and in TypeScript 35
abbrev pub of_clash : List ℕ
of_clash = 1 ∷ 35 ∷ []

-- SUPER
abbrev pub of_super : List ℕ
of_super = 28 ∷ 29 ∷ 30 ∷ []
