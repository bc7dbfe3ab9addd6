-- 8.5.1 Contains, of a unit, is what the nodes say whose unit it is: so a unit breaks a rule on `super` just where one of its Supers does.
use Rattle.std.specs.Prelude.{ℕ, ◌+◌, ◌<◌, ◌≡◌, refl, List, [], ◌∷◌, Bool, true, false, cond, ◌&&◌, eqb}
use Rattle.std.proofs.Common.{ap, ◌∙◌, eqb-true}
use Rattle.base_common.specs.Upto.{upto}
use Rattle.table_records.specs.Table.{count}
use Rattle.table_records.specs.Facts.{Tree}
use Rattle.ecma_trees.specs.Walk.{each, some, only}
use Rattle.ecma_trees.proofs.WalkLaws.{each_same}
use Rattle.ecma_trees.specs.Trail.{unit_of}
use Rattle.ecma_base.specs.Telling.{Telling}
use Rattle.ecma_base.proofs.ContainsLaws.{contains_is}
use Rattle.ecma_elements.specs.ClassElements.{is_first_constructor}
use Rattle.ecma_supers.specs.Raised.{in_unit}
use Rattle.ecma_supers.specs.Supers.{is_super_call, is_super_property, begins, unit_contains, is_bare, bars_call, bars_property, bare_error, call_error, property_error, standard_bare, standard_stray, standard_property}

module _ (ns : List ℕ) (sought : ℕ → Bool) where
  contains_is_lem : Tree ns → (u : ℕ) → u < count ns → unit_contains ns sought u ≡ some (in_unit ns sought u)
  unfolding begins
  contains_is_lem t u h = contains_is ns t sought (begins ns) (λ j. refl) u h

  -- a rule on the unit and what it contains, node by node
  pub unit_rule : Tree ns → (rule : ℕ → Bool) (u : ℕ) → u < count ns
      → (rule u && unit_contains ns sought u) ≡ some (in_unit ns (λ j. sought j && rule (unit_of ns (begins ns) j)) u)
  unit_rule t rule u h = go (rule u) refl
    where
      on : rule u ≡ true → (j : ℕ) (b : Bool) → eqb (unit_of ns (begins ns) j) u ≡ b → cond b (only (sought j) j) [] ≡ cond b (only (sought j && rule (unit_of ns (begins ns) j)) j) []
      on r j true e = rw (eqb-true (unit_of ns (begins ns) j) u e, r) (and (sought j))
        where
          and : (x : Bool) → only x j ≡ only (x && true) j
          and true = refl
          and false = refl
      on r j false e = refl

      off : rule u ≡ false → (j : ℕ) (b : Bool) → eqb (unit_of ns (begins ns) j) u ≡ b → [] ≡ cond b (only (sought j && rule (unit_of ns (begins ns) j)) j) []
      off r j true e = rw (eqb-true (unit_of ns (begins ns) j) u e, r) (and (sought j))
        where
          and : (x : Bool) → [] ≡ only (x && false) j
          and true = refl
          and false = refl
      off r j false e = refl

      none : (l : List ℕ) → false ≡ some (each {B = ℕ} (λ j. []) l)
      none [] = refl
      none (x ∷ l) = none l

      go : (b : Bool) → rule u ≡ b → (b && unit_contains ns sought u) ≡ some (in_unit ns (λ j. sought j && rule (unit_of ns (begins ns) j)) u)
      go true r =
          contains_is_lem t u h
          ∙ ap (λ (l : List ℕ). some l)
          (each_same (λ j. cond (eqb (unit_of ns (begins ns) j) u) (only (sought j) j) []) (λ j. cond (eqb (unit_of ns (begins ns) j) u) (only (sought j && rule (unit_of ns (begins ns) j)) j) []) (u + 1) (count ns)
          (λ j a b. on r j (eqb (unit_of ns (begins ns) j) u) refl))
      go false r =
          none (upto (u + 1) (count ns))
          ∙ ap (λ (l : List ℕ). some l)
          (each_same (λ j. []) (λ j. cond (eqb (unit_of ns (begins ns) j) u) (only (sought j && rule (unit_of ns (begins ns) j)) j) []) (u + 1) (count ns)
          (λ j a b. off r j (eqb (unit_of ns (begins ns) j) u) refl))

-- so of each rule
module _ (ns names : List ℕ) (t : Tree ns) (u : ℕ) (h : u < count ns) where
  pub unit_bare : bare_error ns names u ≡ some (in_unit ns (standard_bare ns names) u)
  unit_bare = unit_rule ns (is_super_call ns) t (is_bare ns (is_first_constructor ns names)) u h

  pub unit_stray : (told : Telling) → call_error told ns names u ≡ some (in_unit ns (standard_stray told ns names) u)
  unit_stray told = unit_rule ns (is_super_call ns) t (bars_call told ns names) u h

  pub unit_property : property_error ns u ≡ some (in_unit ns (standard_property ns) u)
  unit_property = unit_rule ns (is_super_property ns) t (bars_property ns) u h
