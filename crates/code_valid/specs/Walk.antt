-- What a walk over the instructions of a code gives.
use Rattle.std.specs.Prelude.{ℕ, ◌+◌, ◌≡◌, ◌≢◌, ◌≤◌, ◌<◌, ◌⊎◌, Option, None, Some}
use Rattle.code_flat.specs.Machine.{Instr}
use Rattle.code_valid.specs.declared.Instruction.{Instruction}
use Rattle.code_valid.specs.declared.Instructions.{Instructions}
use Rattle.code_valid.specs.Instrs.{len}

-- i says of the instruction that stands at p where it begins and how many numbers it takes, and q is the place behind it.
pub record Turn (standing : ℕ → Instr) (p : ℕ) (i : Instruction) (q : ℕ) : Type 0 where
  pub place : i.place ≡ p
  pub size : i.size ≡ len (standing p)
  pub some : len (standing p) ≢ 0
  pub next : q ≡ p + i.size

module _ {C : Type 0} (standing : C → ℕ → Instr) where
  -- The walk gives the instruction that stands where it is, and goes on behind it.
  pub record Steps (old : Instructions C) (i : Instruction) (new : Instructions C) : Type 0 where
    pub code : new.code ≡ old.code
    pub end : new.end ≡ old.end
    pub inside : old.at < old.end
    pub turn : Turn (standing old.code) old.at i new.at

  -- It stays at its end, or where no instruction stands.
  pub record Stops (old new : Instructions C) : Type 0 where
    pub same : new ≡ old
    pub none : (old.end ≤ old.at) ⊎ (len (standing old.code old.at) ≡ 0)

  abbrev pub Gives : Instructions C → Option Instruction → Instructions C → Type 0
  Gives old None new = Stops old new
  Gives old (Some i) new = Steps old i new
