-- A whole rule at once: from an operation of the standard on units, and the checker's answer at each node, to the two theorems, of a unit and of the program.
use Rattle.std.specs.Prelude.{ℕ, ◌+◌, ◌<◌, ◌≡◌, ◌↔◌, Bool, true, false, cond, ◌&&◌, ◌||◌, eqb}
use Rattle.std.proofs.Common.{◌∙◌, ap}
use mathlib.Core.List.{List, [], foldr}
use Rattle.base_common.specs.Upto.{upto}
use Rattle.table_records.specs.Table.{parent_of, count, ancestors}
use Rattle.table_records.specs.Facts.{Tree}
use Rattle.ecma_trees.specs.Rose.{Rose, Roses, node, rnil, rcons, parts_of, tree_of}
use Rattle.ecma_trees.specs.Walk.{each, some, Says}
use Rattle.ecma_trees.proofs.WalkLaws.{each_same, some_each}
use Rattle.ecma_trees.specs.Unit.{lists, home_of, in_unit, broken}
use Rattle.ecma_trees.proofs.UnitLaws.{unit_fold, literal_is}
use Rattle.ecma_trees.proofs.ProgramLaws.{program_is}

-- into: what is gone through. It is no unit, and below what is neither there is nothing to say.
pub record Going (ns : List ℕ) (unit into : ℕ → Bool) (silent : ℕ → Type 0) : Type 0 where
  pub tree : Tree ns
  pub root : unit 0 ≡ true
  pub shut : (i : ℕ) → into i ≡ true → unit i ≡ false
  pub quiet : (j : ℕ) → 0 < j → j < count ns → unit (parent_of ns j) ≡ false → into (parent_of ns j) ≡ false → (into j ≡ false) × silent j

-- visit, f: the operation as one that lists; bad: the checker's findings at a node
module _ {A : Type 0} (visit : ℕ → A → List ℕ) (f : ℕ → A → A) (start : A) (ns : List ℕ) (unit into : ℕ → Bool)
    (go : Going ns unit into (λ j. (a : A) → visit j a ≡ []))
    (bad : ℕ → List ℕ) (here : (j : ℕ) → j < count ns → visit j (foldr (in_unit unit start f) start (ancestors ns j)) ≡ bad j)
  where
    -- node by node
    pub list_is : (u : ℕ) → u < count ns → unit u ≡ true
        → lists visit into f (parts_of ns u) start ≡ each (λ j. cond (eqb (home_of ns unit j) u) (bad j) []) (upto (u + 1) (count ns))
    list_is u c x =
        unit_fold visit into f ns go.tree unit start go.root go.shut go.quiet u c x
        ∙ each_same _ _ (u + 1) (count ns) (λ j p q. ap (λ l. cond (eqb (home_of ns unit j) u) l []) (here j q))

    -- op, op_all: the operation as the standard has it
    module _ (op : Rose → A → Bool) (op_all : Roses → A → Bool)
        (nil : (a : A) → op_all rnil a ≡ false)
        (cons : (t : Rose) (ts : Roses) (a : A) → op_all (rcons t ts) a ≡ (op t a || op_all ts a))
        (step : (n : ℕ) (ks : Roses) (a : A) → n < count ns → ks ≡ parts_of ns n → op (node n ks) a ≡ (some (visit n a) || (into n && op_all ks (f n a))))
      where
        pub unit_iff : (u : ℕ) → u < count ns → unit u ≡ true
            → (op_all (parts_of ns u) start ≡ true) ↔ Says (λ j. cond (eqb (home_of ns unit j) u) (bad j) []) (u + 1) (count ns)
        unit_iff u c x =
            rw (literal_is visit into f ns op op_all nil cons step u c start, list_is u c x) (some_each (λ j. cond (eqb (home_of ns unit j) u) (bad j) []) (u + 1) (count ns))

        pub program_iff : (broken unit (λ ks. op_all ks start) (tree_of ns) ≡ true) ↔ Says bad 1 (count ns)
        program_iff = program_is unit (λ ks. op_all ks start) ns go.tree go.root bad unit_iff

-- The same with all that a rule is in one record.
pub record Rule (A : Type 0) (ns : List ℕ) (unit into : ℕ → Bool) : Type 0 where
  -- the operation of the standard, on a tree and on the parts of a unit, and what it is handed there
  pub op : Rose → A → Bool
  pub op_all : Roses → A → Bool
  pub start : A
  -- the same as an operation that lists, and what it hands down
  pub visit : ℕ → A → List ℕ
  pub down : ℕ → A → A
  -- the checker's findings at a node
  pub bad : ℕ → List ℕ
  pub nil : (a : A) → op_all rnil a ≡ false
  pub cons : (t : Rose) (ts : Roses) (a : A) → op_all (rcons t ts) a ≡ (op t a || op_all ts a)
  pub clause : (n : ℕ) (ks : Roses) (a : A) → n < count ns → ks ≡ parts_of ns n → op (node n ks) a ≡ (some (visit n a) || (into n && op_all ks (down n a)))
  pub going : Going ns unit into (λ j. (a : A) → visit j a ≡ [])
  pub here : (j : ℕ) → j < count ns → visit j (foldr (in_unit unit start down) start (ancestors ns j)) ≡ bad j

module _ {A : Type 0} {ns : List ℕ} {unit into : ℕ → Bool} (r : Rule A ns unit into) where
  pub rule_list : (u : ℕ) → u < count ns → unit u ≡ true
      → lists r.visit into r.down (parts_of ns u) r.start ≡ each (λ j. cond (eqb (home_of ns unit j) u) (r.bad j) []) (upto (u + 1) (count ns))
  rule_list = list_is r.visit r.down r.start ns unit into r.going r.bad r.here

  pub rule_unit : (u : ℕ) → u < count ns → unit u ≡ true → (r.op_all (parts_of ns u) r.start ≡ true) ↔ Says (λ j. cond (eqb (home_of ns unit j) u) (r.bad j) []) (u + 1) (count ns)
  rule_unit = unit_iff r.visit r.down r.start ns unit into r.going r.bad r.here r.op r.op_all r.nil r.cons r.clause

  pub rule_program : (broken unit (λ ks. r.op_all ks r.start) (tree_of ns) ≡ true) ↔ Says r.bad 1 (count ns)
  rule_program = program_iff r.visit r.down r.start ns unit into r.going r.bad r.here r.op r.op_all r.nil r.cons r.clause

  pub rule_some : (u : ℕ) → u < count ns → unit u ≡ true → r.op_all (parts_of ns u) r.start ≡ some (each (λ j. cond (eqb (home_of ns unit j) u) (r.bad j) []) (upto (u + 1) (count ns)))
  rule_some u c x = literal_is r.visit into r.down ns r.op r.op_all r.nil r.cons r.clause u c r.start ∙ ap some (rule_list u c x)
