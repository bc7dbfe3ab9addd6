-- The words that names are compared with, as bytes.
use Rattle.std.specs.Prelude.{ℕ, List, [], ◌∷◌}

-- `use strict`
abbrev pub use_strict : List ℕ
use_strict = 117 ∷ 115 ∷ 101 ∷ 32 ∷ 115 ∷ 116 ∷ 114 ∷ 105 ∷ 99 ∷ 116 ∷ []

-- `await`
abbrev pub await_word : List ℕ
await_word = 97 ∷ 119 ∷ 97 ∷ 105 ∷ 116 ∷ []

-- `__proto__`
abbrev pub proto : List ℕ
proto = 95 ∷ 95 ∷ 112 ∷ 114 ∷ 111 ∷ 116 ∷ 111 ∷ 95 ∷ 95 ∷ []

-- `eval`
abbrev pub eval_word : List ℕ
eval_word = 101 ∷ 118 ∷ 97 ∷ 108 ∷ []

-- `arguments`
abbrev pub arguments_word : List ℕ
arguments_word = 97 ∷ 114 ∷ 103 ∷ 117 ∷ 109 ∷ 101 ∷ 110 ∷ 116 ∷ 115 ∷ []

-- `let`
abbrev pub let_word : List ℕ
let_word = 108 ∷ 101 ∷ 116 ∷ []

-- `implements`
abbrev pub implements_word : List ℕ
implements_word = 105 ∷ 109 ∷ 112 ∷ 108 ∷ 101 ∷ 109 ∷ 101 ∷ 110 ∷ 116 ∷ 115 ∷ []

-- `interface`
abbrev pub interface_word : List ℕ
interface_word = 105 ∷ 110 ∷ 116 ∷ 101 ∷ 114 ∷ 102 ∷ 97 ∷ 99 ∷ 101 ∷ []

-- `package`
abbrev pub package_word : List ℕ
package_word = 112 ∷ 97 ∷ 99 ∷ 107 ∷ 97 ∷ 103 ∷ 101 ∷ []

-- `private`
abbrev pub private_word : List ℕ
private_word = 112 ∷ 114 ∷ 105 ∷ 118 ∷ 97 ∷ 116 ∷ 101 ∷ []

-- `protected`
abbrev pub protected_word : List ℕ
protected_word = 112 ∷ 114 ∷ 111 ∷ 116 ∷ 101 ∷ 99 ∷ 116 ∷ 101 ∷ 100 ∷ []

-- `public`
abbrev pub public_word : List ℕ
public_word = 112 ∷ 117 ∷ 98 ∷ 108 ∷ 105 ∷ 99 ∷ []

-- `static`
abbrev pub static_word : List ℕ
static_word = 115 ∷ 116 ∷ 97 ∷ 116 ∷ 105 ∷ 99 ∷ []

-- `yield`
abbrev pub yield_word : List ℕ
yield_word = 121 ∷ 105 ∷ 101 ∷ 108 ∷ 100 ∷ []
