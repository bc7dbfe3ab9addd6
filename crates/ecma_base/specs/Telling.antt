-- What the tables don't tell: which functions are async, and which are generators (a node record has no flag for it). A rule that asks for it is stated for every telling.
use Rattle.std.specs.Prelude.{ℕ, Bool, false, ◌||◌}

-- async: the Function or Arrow is async; generator: the Function is a generator; an async generator is both
pub record Telling : Type 0 where
  pub async : ℕ → Bool
  pub generator : ℕ → Bool

-- GeneratorDeclaration, AsyncFunctionDeclaration, AsyncGeneratorDeclaration, and so for expressions and methods
abbrev pub async_or_generator : Telling → ℕ → Bool
async_or_generator told f = told.async f || told.generator f

-- the telling by which no function is either
abbrev pub ordinary : Telling
ordinary = record { async = λ f. false; generator = λ f. false }
