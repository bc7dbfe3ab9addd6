-- WHAT A TYPESCRIPT MODULE HAS DIFFERENT FROM A MODULE OF JAVASCRIPT (document 02, request 13), of all tables.
use Rattle.std.specs.Prelude.{ℕ, ◌≡◌, false}
use mathlib.Core.List.{List, [], ◌∷◌}
use Rattle.base_walk.specs.On.{member}
use Rattle.check_duplicates.specs.Duplicates.{duplicate_elements}
use Rattle.check_dispatch.specs.Findings.{findings_at, findings_of}
use Rattle.check_dispatch.specs.Rule.{rule}
use Rattle.check_dispatch.specs.Reported.{reported_at}
use Rattle.ecma_dispatch.specs.WithCode.{with_code}
use Rattle.ecma_dispatch.specs.Coded.{Coded}
use Rattle.ecma_dispatch.specs.NodesOf.{raised}

pub record Typescript (ns ss source names : List ℕ) : Type 0 where
  -- at a node all codes but 8, 17 and 27 are as in a module of JavaScript, 1 at an object among them, ..
  pub others : (c : ℕ) → member c (8 ∷ 17 ∷ 27 ∷ []) ≡ false → (n : ℕ) → with_code c (findings_at 2 ns ss source names n) ≡ with_code c (findings_at 1 ns ss source names n)
  -- .. 27 is raised where it was, and 34 is what it was
  pub second_constructors : (n : ℕ) → raised 27 (findings_at 2 ns ss source names n) ≡ raised 27 (findings_at 1 ns ss source names n)
  pub bodies : (async_bodies n : ℕ) → with_code 34 (reported_at (rule 2 async_bodies ns ss source names) n) ≡ with_code 34 (reported_at (rule 1 async_bodies ns ss source names) n)
  -- the classes raise 1 and 35 alone
  pub classes : Coded (1 ∷ 35 ∷ []) (duplicate_elements 2 ns names)
  -- of the tree: all codes but 1, 8, 17, 27 and 35
  pub whole : (c : ℕ) → member c (1 ∷ 8 ∷ 17 ∷ 27 ∷ 35 ∷ []) ≡ false → with_code c (findings_of 2 ns ss source names) ≡ with_code c (findings_of 1 ns ss source names)
