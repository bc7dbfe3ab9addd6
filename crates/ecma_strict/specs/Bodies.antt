-- What is told of the functions agrees with the flag that document 02, request 8, gives them: 8192, async or generator. (It doesn't tell one from the other, and an Arrow has none.)
use Rattle.std.specs.Prelude.{ℕ, ◌≡◌, List}
use Rattle.table_records.specs.Table.{kind_of, flags_of, has_flag}
use Rattle.table_records.specs.Kinds as k
use Rattle.check_bodies.specs.Bodies.{AsyncOrGenerator}
use Rattle.ecma_base.specs.Telling.{Telling, async_or_generator}

abbrev pub Flagged : Telling → List ℕ → Type 0
Flagged told ns = (f : ℕ) → kind_of ns f ≡ k.Function → async_or_generator told f ≡ has_flag (flags_of ns f) AsyncOrGenerator
