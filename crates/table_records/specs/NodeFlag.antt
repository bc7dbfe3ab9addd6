-- A node's flags, which are added up.
use Rattle.std.specs.Prelude.{ℕ}

-- static
abbrev pub Static : ℕ
Static = 2

-- private key
abbrev pub PrivateKey : ℕ
PrivateKey = 4

-- written to
abbrev pub Written : ℕ
Written = 8

-- `for await`
abbrev pub ForAwait : ℕ
ForAwait = 16

-- declaration
abbrev pub Declaration : ℕ
Declaration = 32

-- has heritage
abbrev pub Heritage : ℕ
Heritage = 64

-- method
abbrev pub Method : ℕ
Method = 128

-- has initialiser
abbrev pub Initialiser : ℕ
Initialiser = 256

-- of a For: has a test
abbrev pub Test : ℕ
Test = 256

-- id is a plain name
abbrev pub PlainName : ℕ
PlainName = 512

-- simple parameters
abbrev pub SimpleParameters : ℕ
SimpleParameters = 1024

-- `delete`
abbrev pub Delete : ℕ
Delete = 2048

-- `default`
abbrev pub Default : ℕ
Default = 4096
