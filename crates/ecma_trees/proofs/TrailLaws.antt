-- A walk down the tree, in which what a node hands down may depend on the part, is the fold over the way up.
use Prim.Native.Nat.{ℕ, zero, suc, ◌+◌, ◌≤◌, ◌<◌}
use Rattle.std.specs.Prelude.{◌≡◌, Bool, true, false, cond, eqb}
use Rattle.std.proofs.Math.Path.{refl, ap}
use Rattle.std.proofs.Common.{sym, ◌∙◌, arith}
use mathlib.Core.List.{List, [], ◌∷◌, foldr}
use Rattle.base_common.specs.Upto.{upto}
use Rattle.table_records.specs.Table.{parent_of, count}
use Rattle.table_records.specs.Facts.{Tree}
use Rattle.ecma_trees.specs.Rose.{tree_of, parts_of}
use Rattle.ecma_trees.proofs.RoseLaws.{Under}
use Rattle.ecma_trees.specs.Walk.{each, walk}
use Rattle.ecma_trees.proofs.WalkLaws.{table_is}
use Rattle.ecma_trees.specs.Unit.{says_all}
use Rattle.ecma_trees.proofs.UnitLaws.{unit_is}
use Rattle.ecma_trees.specs.Trail.{climb, trail, handed_down, unit_of}

module _ (ns : List ℕ) (t : Tree ns) where
  climb_more : (f g i : ℕ) → i ≤ f → i ≤ g → i < count ns → climb ns f i ≡ climb ns g i
  unfolding climb
  climb_more zero zero i hf hg hc = refl
  climb_more zero (suc g) zero hf hg hc = refl
  climb_more zero (suc g) (suc i) hf hg hc = absurd (omega arith)
  climb_more (suc f) zero zero hf hg hc = refl
  climb_more (suc f) zero (suc i) hf hg hc = absurd (omega arith)
  climb_more (suc f) (suc g) zero hf hg hc = refl
  climb_more (suc f) (suc g) (suc i) hf hg hc =
      let p = t.falls (suc i) (omega arith) hc in
      ap (λ (l : List ℕ). suc i ∷ l) (climb_more f g (parent_of ns (suc i)) (omega arith) (omega arith) (omega arith))

  pub trail_up : (i : ℕ) → 0 < i → i < count ns → trail ns i ≡ i ∷ trail ns (parent_of ns i)
  unfolding trail climb
  trail_up zero h hc = absurd (omega arith)
  trail_up (suc i) h hc =
      let p = t.falls (suc i) h hc in
      ap (λ (l : List ℕ). suc i ∷ l) (climb_more i (parent_of ns (suc i)) (parent_of ns (suc i)) (omega arith) (omega arith) (omega arith))

pub trail_root : (ns : List ℕ) → trail ns 0 ≡ []
unfolding trail climb
trail_root ns = refl

pub handed_law : {A : Type 0} (ns : List ℕ) (down : ℕ → ℕ → A → A) (d : A) → Tree ns → (j : ℕ) → 0 < j → j < count ns
    → handed_down ns down d j ≡ down (parent_of ns j) j (handed_down ns down d (parent_of ns j))
handed_law ns down d t j z h = ap (foldr (λ k r. down (parent_of ns k) k r) d) (trail_up ns t j z h)

pub handed_root : {A : Type 0} (ns : List ℕ) (down : ℕ → ℕ → A → A) (d : A) → handed_down ns down d 0 ≡ d
handed_root ns down d = ap (foldr (λ k r. down (parent_of ns k) k r) d) (trail_root ns)

-- THE BRIDGE: a walk down the tree, in which what a node hands down may depend on the part, says at each node what the fold over the way up from it says.
pub bridge : {A B : Type 0} (visit : ℕ → A → List B) (down : ℕ → ℕ → A → A) (d : A) (ns : List ℕ) → Tree ns
    → walk visit down (tree_of ns) d ≡ each (λ j. visit j (handed_down ns down d j)) (upto 0 (count ns))
bridge visit down d ns w =
    ap (walk visit down (tree_of ns)) (sym (handed_root ns down d)) ∙ table_is visit down ns (handed_down ns down d) (handed_law ns down d w) w

-- The same of an operation on units, where a node may begin a unit with some of its parts only (a method with its body, and not with its computed key).
pub unit_bridge : {A B : Type 0} (visit : ℕ → A → List B) (into : ℕ → ℕ → Bool) (down : ℕ → ℕ → A → A) (ns : List ℕ) → Tree ns → (edge : ℕ → ℕ → Bool) (start : ℕ → ℕ → A) (d : A)
    → ((j : ℕ) → edge 0 j ≡ true)
    → ((i j : ℕ) → into i j ≡ true → edge i j ≡ false)
    → ((i j : ℕ) → Under ns i j → edge i j ≡ false → into i j ≡ false → ((k : ℕ) → into j k ≡ false) × ((a : A) → visit j a ≡ []))
    → (u : ℕ) → u < count ns
    → says_all visit into down (parts_of ns u) (edge u) (start u)
    ≡ each (λ j. cond (eqb (unit_of ns edge j) u) (visit j (handed_down ns (λ i j a. cond (edge i j) (start i j) (down i j a)) d j)) []) (upto (u + 1) (count ns))
unit_bridge visit into down ns w edge start d root shut quiet u c =
    unit_is visit into down ns w edge start (handed_down ns (λ i j a. cond (edge i j) (start i j) (down i j a)) d) (unit_of ns edge)
    (handed_law ns (λ i j a. cond (edge i j) (start i j) (down i j a)) d w) (handed_root ns (λ i j r. cond (edge i j) i r) 0) (handed_law ns (λ i j r. cond (edge i j) i r) 0 w)
    shut quiet u root c

-- Two folds over one list agree, if they do at the start and at each step.
pub agree_on : {A C : Type 0} (R : A → C → Type 0) (f : ℕ → A → A) (d : A) (g : ℕ → C → C) (e : C) → R d e → ((k : ℕ) (r : A) (s : C) → R r s → R (f k r) (g k s))
    → (l : List ℕ) → R (foldr f d l) (foldr g e l)
agree_on R f d g e first step [] = first
agree_on R f d g e first step (k ∷ l) = step k (foldr f d l) (foldr g e l) (agree_on R f d g e first step l)
