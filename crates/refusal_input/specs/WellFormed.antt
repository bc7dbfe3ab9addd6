-- What is known of well-formed tables: consequences of `input_refusal` being `Passed` (InputLaws), for those who read the tables.
use Rattle.std.specs.Prelude.{ℕ, ◌<◌, ◌≡◌, List, false}
use Rattle.table_records.specs.Table.{count}
use Rattle.table_records.specs.Facts.{Input, Sourced}
use Rattle.check_supers.specs.Super.{fails_at}
use Rattle.refusal_fields.specs.Fields.{Sizes, Listed}
use Rattle.refusal_standing.specs.Standing.{Placed}
use Rattle.refusal_counts.specs.Counts.{Counted}
use Rattle.refusal_return.specs.Return.{return_in_static}

-- no child is misplaced, and no node has a wrong number of children
pub record Shaped (ns : List ℕ) : Type 0 where
  pub placed : Placed ns
  pub counted : Counted ns

-- no Return stands in a static block
abbrev pub NoStaticReturn : List ℕ → Type 0
NoStaticReturn ns = (i : ℕ) → i < count ns → return_in_static ns i ≡ false

pub record WellFormed (source_type : ℕ) (ns ss source names : List ℕ) : Type 0 where
  pub sizes : Sizes source_type ns ss source names
  pub listed : Listed ns
  pub input : Input ns ss names
  pub sourced : Sourced ns source
  pub shaped : Shaped ns
  pub walks : (i : ℕ) → i < count ns → fails_at ns ss i ≡ false
  pub returns : NoStaticReturn ns
