-- What a call is given of a rule: the source type, the options and the tables. A further option is a further field.
use Rattle.std.specs.Prelude.{ℕ, List}

pub record Rule : Type 0 where
  pub source_type : ℕ
  -- "With a new option on": 0 is off, any other number on
  pub async_bodies : ℕ
  pub nodes : List ℕ
  pub scopes : List ℕ
  pub source : List ℕ
  pub names : List ℕ

abbrev pub rule : ℕ → ℕ → List ℕ → List ℕ → List ℕ → List ℕ → Rule
rule source_type async_bodies ns ss source names = record { source_type = source_type; async_bodies = async_bodies; nodes = ns; scopes = ss; source = source; names = names }
