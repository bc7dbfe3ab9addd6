-- The numbers of a text's tables, and tellings, for the examples.
use Rattle.std.specs.Prelude.{ℕ, List, false, eqb}
use Rattle.ecma_base.specs.Telling.{Telling}

-- the numbers of a tree: nodes, scopes, bytes of names, bytes of source
pub record Tree : Type 0 where
  pub nodes : List ℕ
  pub scopes : List ℕ
  pub names : List ℕ
  pub source : List ℕ

-- of these texts the tables don't tell what the function at a node is
abbrev pub async_at : ℕ → Telling
async_at n = record { async = λ f. eqb f n; generator = λ f. false }

abbrev pub generator_at : ℕ → Telling
generator_at n = record { async = λ f. false; generator = λ f. eqb f n }
