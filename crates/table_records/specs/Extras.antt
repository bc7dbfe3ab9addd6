-- A node's extra number, by its kind.
use Rattle.std.specs.Prelude.{ℕ}

-- of a VariableDeclaration
abbrev pub Var : ℕ
Var = 0

abbrev pub Let : ℕ
Let = 1

abbrev pub Const : ℕ
Const = 2

abbrev pub Using : ℕ
Using = 3

abbrev pub AwaitUsing : ℕ
AwaitUsing = 4

-- of a MethodDefinition
abbrev pub Constructor : ℕ
Constructor = 0

abbrev pub PlainMethod : ℕ
PlainMethod = 1

abbrev pub Get : ℕ
Get = 2

abbrev pub Set : ℕ
Set = 3

-- of a NumericLiteral
abbrev pub Decimal : ℕ
Decimal = 0

abbrev pub Float : ℕ
Float = 1

abbrev pub Binary : ℕ
Binary = 2

abbrev pub Octal : ℕ
Octal = 3

abbrev pub Hexadecimal : ℕ
Hexadecimal = 4

-- of an ObjectProperty
abbrev pub Init : ℕ
Init = 0

abbrev pub PropertyGet : ℕ
PropertyGet = 1

abbrev pub PropertySet : ℕ
PropertySet = 2

-- of anything else
abbrev pub Parenthesis : ℕ
Parenthesis = 1
