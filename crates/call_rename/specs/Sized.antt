-- What the functions of `rename` rely on behind the refusals of the input.
use Rattle.std.specs.Prelude.{ℕ, ◌*◌, ◌≤◌, ◌≡◌, List, length}
use Rattle.table_records.specs.Table.{count}
use Rattle.table_records.specs.Facts.{Tree, Named}
use Rattle.call_labels.specs.Written.{most_bytes}

pub record Sized (ns names : List ℕ) : Type 0 where
  pub tree : Tree ns
  pub within : Named ns names
  pub whole : length ns ≡ count ns * 10
  pub small : length names ≤ most_bytes
