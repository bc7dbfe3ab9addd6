-- What an operation says of a unit is what the table's nodes that are in the unit say.
use Rattle.std.specs.Prelude.{ℕ, zero, suc, ◌+◌, ◌-◌, ◌≤◌, ◌<◌, ◌≡◌, Bool, ◌&&◌, ◌||◌}
use Rattle.std.proofs.Math.Path.{refl, sym, ap}
use Rattle.std.proofs.Common.{◌∙◌}
use Rattle.std.proofs.Math.Bool.{true, false, cond, true≢false}
use mathlib.Core.List.{List, [], ◌∷◌, ◌++◌, append-nil, foldr}
use Rattle.std.proofs.Math.Dec.{eqb}
use borrow.Author.Tests.{eqb-true, eqb-false, eq-eqb}
use native.Mathlib.Omega.{arith}
use Rattle.base_common.specs.Upto.{upto}
use Rattle.base_walk.proofs.AboveLaws.{fold_up, fold_root}
use Rattle.table_records.specs.Table.{parent_of, count, ancestors}
use Rattle.table_records.specs.Facts.{Tree}
use Rattle.ecma_trees.specs.Rose.{Rose, Roses, node, rnil, rcons, idx, marks, marks_all, parts_of, rest_of}
use Rattle.ecma_trees.proofs.RoseLaws.{Placed, PlacedAll, Under, Low, Whole, WholeAll, parts_placed, parts_whole, parts_marks, rest_low}
use Rattle.ecma_trees.specs.Walk.{each, some}
use Rattle.ecma_trees.proofs.WalkLaws.{each_append, some_append}
use Rattle.ecma_trees.specs.Unit.{says, says_all, lists, home_of, in_unit}

-- edge i j: with its part j the node i begins a unit; home: the unit of a node, the nearest that begins above it.
module _ {A B : Type 0} (visit : ℕ → A → List B) (into : ℕ → ℕ → Bool) (down : ℕ → ℕ → A → A)
    (ns : List ℕ) (w : Tree ns) (edge : ℕ → ℕ → Bool) (start : ℕ → ℕ → A) (att : ℕ → A) (home : ℕ → ℕ)
    (attLaw : (j : ℕ) → 0 < j → j < count ns → att j ≡ cond (edge (parent_of ns j) j) (start (parent_of ns j) j) (down (parent_of ns j) j (att (parent_of ns j))))
    (homeRoot : home 0 ≡ 0)
    (homeLaw : (j : ℕ) → 0 < j → j < count ns → home j ≡ cond (edge (parent_of ns j) j) (parent_of ns j) (home (parent_of ns j)))
    (shut : (i j : ℕ) → into i j ≡ true → edge i j ≡ false)
    (quiet : (i j : ℕ) → Under ns i j → edge i j ≡ false → into i j ≡ false → ((k : ℕ) → into j k ≡ false) × ((a : A) → visit j a ≡ []))
    (u : ℕ)
  where
    -- what a node says, if it is in the unit u
    abbrev pub own : ℕ → List B
    own j = cond (eqb (home j) u) (visit j (att j)) []

    home_up : (i j : ℕ) → Under ns i j → home j ≡ cond (edge i j) i (home i)
    home_up i j h = homeLaw j h.pos h.fits ∙ ap (λ x. cond (edge x j) x (home x)) h.up

    att_up : (i j : ℕ) → Under ns i j → att j ≡ cond (edge i j) (start i j) (down i j (att i))
    att_up i j h = attLaw j h.pos h.fits ∙ ap (λ x. cond (edge x j) (start x j) (down x j (att x))) h.up

    home_less : (k j : ℕ) → j ≤ k → j < count ns → home j ≤ j
    home_less zero zero l h = rw homeRoot (omega arith)
    home_less zero (suc j) l h = absurd (omega arith)
    home_less (suc k) zero l h = rw homeRoot (omega arith)
    home_less (suc k) (suc j) l h =
        let p = w.falls (suc j) (omega arith) h in
        rw (homeLaw (suc j) (omega arith) h) (go (edge (parent_of ns (suc j)) (suc j)) (home_less k (parent_of ns (suc j)) (omega arith) (omega arith)))
      where
        go : (b : Bool) → home (parent_of ns (suc j)) ≤ parent_of ns (suc j) → cond b (parent_of ns (suc j)) (home (parent_of ns (suc j))) ≤ suc j
        go true q = let p = w.falls (suc j) (omega arith) h in omega arith
        go false q = let p = w.falls (suc j) (omega arith) h in omega arith

    -- if it is in the unit u, nothing below it is; and it says nothing
    Shut : ℕ → Type 0
    Shut i = home i ≡ u → (k : ℕ) → into i k ≡ false

    Silent : ℕ → Type 0
    Silent i = home i ≡ u → ((k : ℕ) → into i k ≡ false) × ((a : A) → visit i a ≡ [])

    silent_kid : (i j : ℕ) → Under ns i j → u < i → (home i ≡ u → into i j ≡ false) → Silent j
    unfolding Silent
    silent_kid i j h l s e = go (edge i j) refl
      where
        go : (b : Bool) → edge i j ≡ b → ((k : ℕ) → into j k ≡ false) × ((a : A) → visit j a ≡ [])
        go true x =
            let q : i ≡ u = sym (home_up i j h ∙ rw x) ∙ e in
            absurd (omega arith)
        go false x = quiet i j h x (s (sym (home_up i j h ∙ rw x) ∙ e))

    silent_own : (i : ℕ) → Silent i → own i ≡ []
    unfolding Silent
    silent_own i s = go (eqb (home i) u) refl
      where
        go : (b : Bool) → eqb (home i) u ≡ b → cond b (visit i (att i)) [] ≡ []
        go true e = (s (eqb-true _ _ e)).1 (att i)
        go false e = refl

    mutual
      unfolding marks Silent Shut

      silent_tree : (t : Rose) → Placed ns t → u < idx t → Silent (idx t) → each own (marks t) ≡ []
      silent_tree (node i ks) p l s = rw (silent_own i s) (silent_all ks i p l (λ e. (s e).0))

      silent_all : (ts : Roses) (i : ℕ) → PlacedAll ns i ts → u < i → Shut i → each own (marks_all ts) ≡ []
      silent_all rnil i p l s = refl
      silent_all (rcons t ts) i p l s =
          let z = w.falls (idx t) p.0.pos p.0.fits in
          let y = p.0.up in
          each_append own (marks t) (marks_all ts)
          ∙ rw (silent_tree t p.1 (omega arith) (silent_kid i (idx t) p.0 l (λ e. s e (idx t))), silent_all ts i p.2 l s)

    -- trees that hang above u are in no unit that begins at u
    silent_low : (ts : Roses) → Low ns u ts → each own (marks_all ts) ≡ []
    unfolding marks Silent
    silent_low rnil p = refl
    silent_low (rcons t ts) p =
        each_append own (marks t) (marks_all ts)
        ∙ rw (silent_tree t p.3 p.1 (λ e. absurd (go (edge (parent_of ns (idx t)) (idx t)) refl e)), silent_low ts p.4)
      where
        go : (b : Bool) → edge (parent_of ns (idx t)) (idx t) ≡ b → home (idx t) ≡ u → ⊥
        go true x e =
            let z : home (idx t) ≡ parent_of ns (idx t) = homeLaw (idx t) (omega arith) p.2 ∙ rw x in
            omega arith
        go false x e =
            let z : home (idx t) ≡ home (parent_of ns (idx t)) = homeLaw (idx t) (omega arith) p.2 ∙ rw x in
            let k = home_less (parent_of ns (idx t)) (parent_of ns (idx t)) (omega arith) (omega arith) in
            omega arith

    -- the parts of i in the tests b and with g in hand: those that b takes are in the unit and are handed what they should be; the others say nothing
    Hands : ℕ → (ℕ → Bool) → (ℕ → A) → Type 0
    Hands i b g = (j : ℕ) → Under ns i j → (b j ≡ true → (g j ≡ att j) × (home j ≡ u)) × (b j ≡ false → Silent j)

    says_part : (b : Bool) (t : Rose) (a : A) → (b ≡ true → says visit into down t a ≡ each own (marks t)) → (b ≡ false → each own (marks t) ≡ []) → cond b (says visit into down t a) [] ≡ each own (marks t)
    says_part true t a p q = p refl
    says_part false t a p q = sym (q refl)

    hands_down : (i : ℕ) → u < i → home i ≡ u → Hands i (into i) (λ j. down i j (att i))
    unfolding Hands
    hands_down i l e j h =
        ((λ x. (sym (att_up i j h ∙ rw (shut i j x)), home_up i j h ∙ rw (shut i j x) e)), λ x. silent_kid i j h l (λ q. x))

    mutual
      unfolding says marks Hands

      says_is : (t : Rose) → Placed ns t → u < idx t → home (idx t) ≡ u → says visit into down t (att (idx t)) ≡ each own (marks t)
      says_is (node i ks) p l e = rw (eq-eqb (home i) u e) (ap (λ m. visit i (att i) ++ m) (says_all_is ks i (into i) (λ j. down i j (att i)) p (omega arith) (hands_down i l e)))

      says_all_is : (ts : Roses) (i : ℕ) (b : ℕ → Bool) (g : ℕ → A) → PlacedAll ns i ts → u ≤ i → Hands i b g → says_all visit into down ts b g ≡ each own (marks_all ts)
      says_all_is rnil i b g p l h = refl
      says_all_is (rcons t ts) i b g p l h =
          let z = w.falls (idx t) p.0.pos p.0.fits in
          let y = p.0.up in
          let q : u < idx t = omega arith in
          ap (λ m. m ++ says_all visit into down ts b g)
          (says_part (b (idx t)) t (g (idx t))
          (λ x. rw ((h (idx t) p.0).0 x).0 (says_is t p.1 q ((h (idx t) p.0).0 x).1))
          (λ x. silent_tree t p.1 q ((h (idx t) p.0).1 x)))
          ∙ ap (λ m. each own (marks t) ++ m) (says_all_is ts i b g p.2 l h)
          ∙ sym (each_append own (marks t) (marks_all ts))

    home_below : (j : ℕ) → 0 < j → j < count ns → home j < j
    home_below j z h =
        let p = w.falls j z h in
        rw (homeLaw j z h) (go (edge (parent_of ns j) j) (home_less (parent_of ns j) (parent_of ns j) (omega arith) (omega arith)))
      where
        go : (b : Bool) → home (parent_of ns j) ≤ parent_of ns j → cond b (parent_of ns j) (home (parent_of ns j)) < j
        go true q = let p = w.falls j z h in omega arith
        go false q = let p = w.falls j z h in omega arith

    hands_unit : ((j : ℕ) → edge 0 j ≡ true) → u < count ns → Hands u (edge u) (start u)
    unfolding Hands Silent
    hands_unit root c j h =
        ((λ x. (sym (att_up u j h ∙ rw x), home_up u j h ∙ rw x)), λ x e. absurd (go x (sym (home_up u j h ∙ rw x) ∙ e) (eqb u 0) refl))
      where
        go : edge u j ≡ false → home u ≡ u → (b : Bool) → eqb u 0 ≡ b → ⊥
        go x e true q = true≢false (sym (root j) ∙ ap (λ y. edge y j) (sym (eqb-true u 0 q)) ∙ x)
        go x e false q =
            let n = eqb-false u 0 q in
            let l = home_below u (omega arith) c in
            omega arith

    -- What the operation says of the unit u is what the table's nodes that are in that unit say, one after the other.
    pub unit_is : ((j : ℕ) → edge 0 j ≡ true) → u < count ns → says_all visit into down (parts_of ns u) (edge u) (start u) ≡ each own (upto (u + 1) (count ns))
    unit_is root c =
        says_all_is (parts_of ns u) u (edge u) (start u) (parts_placed ns u c) (omega arith) (hands_unit root c)
        ∙ sym (append-nil (each own (marks_all (parts_of ns u))))
        ∙ ap (λ m. each own (marks_all (parts_of ns u)) ++ m) (sym (silent_low (rest_of ns u) (rest_low ns w u c)))
        ∙ sym (each_append own (marks_all (parts_of ns u)) (marks_all (rest_of ns u)))
        ∙ ap (each own) (parts_marks ns u)

pub unit_fold : {A B : Type 0} (visit : ℕ → A → List B) (into : ℕ → Bool) (f : ℕ → A → A) (ns : List ℕ) → Tree ns → (edge : ℕ → Bool) (start : A)
    → edge 0 ≡ true
    → ((i : ℕ) → into i ≡ true → edge i ≡ false)
    → ((j : ℕ) → 0 < j → j < count ns → edge (parent_of ns j) ≡ false → into (parent_of ns j) ≡ false → (into j ≡ false) × ((a : A) → visit j a ≡ []))
    → (u : ℕ) → u < count ns → edge u ≡ true
    → lists visit into f (parts_of ns u) start
    ≡ each (λ j. cond (eqb (home_of ns edge j) u) (visit j (foldr (in_unit edge start f) start (ancestors ns j))) []) (upto (u + 1) (count ns))
unit_fold visit into f ns w edge start z shut quiet u c x =
    ap (λ b. says_all visit (λ i j. into i) (λ i j a. f i a) (parts_of ns u) (λ j. b) (λ j. start)) (sym x)
    ∙ unit_is visit (λ i j. into i) (λ i j a. f i a) ns w (λ i j. edge i) (λ i j. start) (λ j. foldr (in_unit edge start f) start (ancestors ns j)) (home_of ns edge)
    (fold_up (in_unit edge start f) start (parent_of ns) (count ns) w.falls) (fold_root (λ a r. cond (edge a) a r) 0 (parent_of ns)) (fold_up (λ a r. cond (edge a) a r) 0 (parent_of ns) (count ns) w.falls)
    (λ i j. shut i)
    (λ i j h p q. let r = quiet j h.pos h.fits (rw h.up p) (rw h.up q) in ((λ k. r.0), r.1))
    u (λ j. z) c

-- a node stands behind its unit
pub home_before : (ns : List ℕ) (edge : ℕ → Bool) → Tree ns → (j : ℕ) → 0 < j → j < count ns → home_of ns edge j < j
home_before ns edge w =
    home_below {A = Unit {0}} {B = ℕ} (λ j a. []) (λ i j. false) (λ i j a. a) ns w (λ i j. edge i) (λ i j. tt) (λ j. tt) (home_of ns edge) (λ j z h. refl)
    (fold_root (λ a r. cond (edge a) a r) 0 (parent_of ns)) (fold_up (λ a r. cond (edge a) a r) 0 (parent_of ns) (count ns) w.falls) (λ i j e. absurd (true≢false (sym e))) (λ i j h p q. ((λ k. refl), λ a. refl)) 0

-- every node is in a unit, if the program is one
pub home_edge : (ns : List ℕ) (edge : ℕ → Bool) → edge 0 ≡ true → (j : ℕ) → edge (home_of ns edge j) ≡ true
home_edge ns edge z j = go (ancestors ns j)
  where
    by : (a r : ℕ) (b : Bool) → edge a ≡ b → edge r ≡ true → edge (cond b a r) ≡ true
    by a r true e h = e
    by a r false e h = h

    go : (l : List ℕ) → edge (foldr (λ a r. cond (edge a) a r) 0 l) ≡ true
    go [] = z
    go (a ∷ l) = by a (foldr (λ a r. cond (edge a) a r) 0 l) (edge a) refl (go l)

-- A Boolean operation that is written out for itself, with an equation for each node, is the one that lists, asked whether it lists any.
module _ {A B : Type 0} (visit : ℕ → A → List B) (into : ℕ → Bool) (f : ℕ → A → A) (ns : List ℕ)
    (op : Rose → A → Bool) (op_all : Roses → A → Bool)
    (nil : (a : A) → op_all rnil a ≡ false)
    (cons : (t : Rose) (ts : Roses) (a : A) → op_all (rcons t ts) a ≡ (op t a || op_all ts a))
    (step : (n : ℕ) (ks : Roses) (a : A) → n < count ns → ks ≡ parts_of ns n → op (node n ks) a ≡ (some (visit n a) || (into n && op_all ks (f n a))))
  where
    unentered : (ts : Roses) (g : ℕ → A) → says_all visit (λ i j. into i) (λ i j a. f i a) ts (λ j. false) g ≡ []
    unfolding says
    unentered rnil g = refl
    unentered (rcons t ts) g = unentered ts g

    some_into : (x b : Bool) (ts : Roses) (a : A) → (x || (b && some (lists visit into f ts a))) ≡ (x || some (says_all visit (λ i j. into i) (λ i j a. f i a) ts (λ j. b) (λ j. a)))
    some_into x true ts a = refl
    some_into x false ts a = rw (unentered ts (λ j. a))

    mutual
      unfolding says

      op_is : (t : Rose) (a : A) → idx t < count ns → Placed ns t → Whole ns t → op t a ≡ some (says visit (λ i j. into i) (λ i j a. f i a) t a)
      op_is (node n ks) a h p q =
          step n ks a h q.0
          ∙ rw (op_all_is ks n (f n a) p q.1) (some_into (some (visit n a)) (into n) ks (f n a))
          ∙ sym (some_append (visit n a) (says_all visit (λ i j. into i) (λ i j a. f i a) ks (λ j. into n) (λ j. f n a)))

      op_all_is : (ts : Roses) (i : ℕ) (a : A) → PlacedAll ns i ts → WholeAll ns ts → op_all ts a ≡ some (lists visit into f ts a)
      op_all_is rnil i a p q = nil a
      op_all_is (rcons t ts) i a p q =
          cons t ts a
          ∙ rw (op_is t a p.0.fits p.1 q.0, op_all_is ts i a p.2 q.1) refl
          ∙ sym (some_append (says visit (λ i j. into i) (λ i j a. f i a) t a) (lists visit into f ts a))

    pub literal_is : (u : ℕ) → u < count ns → (a : A) → op_all (parts_of ns u) a ≡ some (lists visit into f (parts_of ns u) a)
    literal_is u h a = op_all_is (parts_of ns u) u a (parts_placed ns u h) (parts_whole ns u h)
