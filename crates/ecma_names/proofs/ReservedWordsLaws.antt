-- The list of words is the standard's line of them.
use Rattle.std.specs.Prelude.{ℕ, ◌≡◌, refl}
use mathlib.Core.List.{List, [], ◌∷◌, foldr, ◌++◌}
use Rattle.ecma_names.specs.ReservedWords.{reserved_words}

-- 12.7.2: "ReservedWord :: one of await break case catch class const continue debugger default delete do else enum export extends false finally for function if import in instanceof new null return super switch this throw true try typeof var void while with yield", without `await` and `yield`,
-- each with a space behind it
abbrev pub reserved_text : List ℕ
reserved_text =
    98 ∷ 114 ∷ 101 ∷ 97 ∷ 107 ∷ 32
    ∷ 99 ∷ 97 ∷ 115 ∷ 101 ∷ 32
    ∷ 99 ∷ 97 ∷ 116 ∷ 99 ∷ 104 ∷ 32
    ∷ 99 ∷ 108 ∷ 97 ∷ 115 ∷ 115 ∷ 32
    ∷ 99 ∷ 111 ∷ 110 ∷ 115 ∷ 116 ∷ 32
    ∷ 99 ∷ 111 ∷ 110 ∷ 116 ∷ 105 ∷ 110 ∷ 117 ∷ 101 ∷ 32
    ∷ 100 ∷ 101 ∷ 98 ∷ 117 ∷ 103 ∷ 103 ∷ 101 ∷ 114 ∷ 32
    ∷ 100 ∷ 101 ∷ 102 ∷ 97 ∷ 117 ∷ 108 ∷ 116 ∷ 32
    ∷ 100 ∷ 101 ∷ 108 ∷ 101 ∷ 116 ∷ 101 ∷ 32
    ∷ 100 ∷ 111 ∷ 32
    ∷ 101 ∷ 108 ∷ 115 ∷ 101 ∷ 32
    ∷ 101 ∷ 110 ∷ 117 ∷ 109 ∷ 32
    ∷ 101 ∷ 120 ∷ 112 ∷ 111 ∷ 114 ∷ 116 ∷ 32
    ∷ 101 ∷ 120 ∷ 116 ∷ 101 ∷ 110 ∷ 100 ∷ 115 ∷ 32
    ∷ 102 ∷ 97 ∷ 108 ∷ 115 ∷ 101 ∷ 32
    ∷ 102 ∷ 105 ∷ 110 ∷ 97 ∷ 108 ∷ 108 ∷ 121 ∷ 32
    ∷ 102 ∷ 111 ∷ 114 ∷ 32
    ∷ 102 ∷ 117 ∷ 110 ∷ 99 ∷ 116 ∷ 105 ∷ 111 ∷ 110 ∷ 32
    ∷ 105 ∷ 102 ∷ 32
    ∷ 105 ∷ 109 ∷ 112 ∷ 111 ∷ 114 ∷ 116 ∷ 32
    ∷ 105 ∷ 110 ∷ 32
    ∷ 105 ∷ 110 ∷ 115 ∷ 116 ∷ 97 ∷ 110 ∷ 99 ∷ 101 ∷ 111 ∷ 102 ∷ 32
    ∷ 110 ∷ 101 ∷ 119 ∷ 32
    ∷ 110 ∷ 117 ∷ 108 ∷ 108 ∷ 32
    ∷ 114 ∷ 101 ∷ 116 ∷ 117 ∷ 114 ∷ 110 ∷ 32
    ∷ 115 ∷ 117 ∷ 112 ∷ 101 ∷ 114 ∷ 32
    ∷ 115 ∷ 119 ∷ 105 ∷ 116 ∷ 99 ∷ 104 ∷ 32
    ∷ 116 ∷ 104 ∷ 105 ∷ 115 ∷ 32
    ∷ 116 ∷ 104 ∷ 114 ∷ 111 ∷ 119 ∷ 32
    ∷ 116 ∷ 114 ∷ 117 ∷ 101 ∷ 32
    ∷ 116 ∷ 114 ∷ 121 ∷ 32
    ∷ 116 ∷ 121 ∷ 112 ∷ 101 ∷ 111 ∷ 102 ∷ 32
    ∷ 118 ∷ 97 ∷ 114 ∷ 32
    ∷ 118 ∷ 111 ∷ 105 ∷ 100 ∷ 32
    ∷ 119 ∷ 104 ∷ 105 ∷ 108 ∷ 101 ∷ 32
    ∷ 119 ∷ 105 ∷ 116 ∷ 104 ∷ 32
    ∷ []

pub words_hold : foldr (λ w r. w ++ 32 ∷ r) [] reserved_words ≡ reserved_text
words_hold = refl
