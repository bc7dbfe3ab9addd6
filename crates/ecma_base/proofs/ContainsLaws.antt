-- The operations that go down, node by node: the parts of u contain what is sought just where some node is sought whose way up first comes to an edge at u.
use Rattle.std.specs.Prelude.{ℕ, zero, suc, ◌+◌, ◌≤◌, ◌<◌, ◌≡◌, refl, List, [], ◌++◌, Bool, true, false, cond, not, ◌&&◌, ◌||◌, eqb}
use Rattle.std.proofs.Common.{ap, sym, subst, ◌∙◌, ⊎_elim, eq-or-lt_of_le, arith, eq-eqb, ne_eqb, eqb-true}
use Rattle.std.proofs.lemmas.Bool.{eqb-false}
use Rattle.base_common.specs.Upto.{upto}
use Rattle.base_common.proofs.UptoLaws.{and_left_lem, and_right_lem}
use Rattle.base_common.proofs.Bools.{never}
use Rattle.table_records.specs.Table.{kind_of, parent_of, count}
use Rattle.table_records.specs.Facts.{Tree}
use Rattle.table_ancestry.proofs.AncestryLaws.{parent_in}
use Rattle.ecma_trees.specs.Rose.{Rose, Roses, node, rnil, rcons, idx, parts_of, marks, marks_all}
use Rattle.ecma_trees.proofs.RoseLaws.{Under, Placed, PlacedAll, parts_placed}
use Rattle.ecma_trees.specs.Walk.{each, some, only}
use Rattle.ecma_trees.proofs.WalkLaws.{each_append, some_append, some_only}
use Rattle.ecma_trees.specs.Unit.{says, says_all}
use Rattle.ecma_trees.specs.Trail.{unit_of}
use Rattle.ecma_trees.proofs.TrailLaws.{unit_bridge, handed_law, handed_root}
use Rattle.ecma_base.specs.Contains.{contains, contains_any, contains_from, contains_in, comes}

pub positive : (a : ℕ) → (a ≡ 0 → ⊥) → 1 ≤ a
positive a n = ⊎_elim (λ (e : 0 ≡ a). absurd (n (sym e))) (λ (z : 0 < a). z) (eq-or-lt_of_le (omega arith))

-- only node 0 is a Program
pub root_only : (ns : List ℕ) → Tree ns → (i : ℕ) → i < count ns → kind_of ns i ≡ 0 → i ≡ 0
root_only ns t i h q = ⊎_elim (λ (e : 0 ≡ i). sym e) (λ (z : 0 < i). absurd (t.inner i z h q)) (eq-or-lt_of_le (omega arith))

-- an induction up the tree
pub upward : (ns : List ℕ) → Tree ns → (P : ℕ → Type 0) → P 0 → ((i : ℕ) → 0 < i → i < count ns → P (parent_of ns i) → P i) → (i : ℕ) → i < count ns → P i
upward ns t P first step i h = go i i (omega arith) h
  where
    go : (f i : ℕ) → i ≤ f → i < count ns → P i
    go zero i hf h = let e : 0 ≡ i = omega arith in subst P e first
    go (suc f) i hf h =
        ⊎_elim (λ (e : 0 ≡ i). subst P e first)
        (λ (z : 0 < i). let p = t.falls i z h in step i z h (go f (parent_of ns i) (omega arith) (omega arith)))
        (eq-or-lt_of_le (omega arith))

-- the nearest edge, one step up, and at the program
module _ (ns : List ℕ) (t : Tree ns) (edge : ℕ → ℕ → Bool) where
  pub unit_up : (j : ℕ) → 0 < j → j < count ns → unit_of ns edge j ≡ cond (edge (parent_of ns j) j) (parent_of ns j) (unit_of ns edge (parent_of ns j))
  unit_up j z h = handed_law ns (λ i j r. cond (edge i j) i r) 0 t j z h

  pub unit_root : unit_of ns edge 0 ≡ 0
  unit_root = handed_root ns (λ i j r. cond (edge i j) i r) 0

some_if : (x : Bool) (l m : List ℕ) → ((x && some l) || some m) ≡ some (cond x l [] ++ m)
some_if true l m = sym (some_append l m)
some_if false l m = refl

-- a step up
module _ (ns : List ℕ) (t : Tree ns) where
  module _ (edge : ℕ → ℕ → Bool) (i : ℕ) (z : 0 < i) (h : i < count ns) where
    pub unit_here : edge (parent_of ns i) i ≡ true → unit_of ns edge i ≡ parent_of ns i
    unit_here e = unit_up ns t edge i z h ∙ rw e

    -- no edge, or only that of the program, which is where the way up ends in any case
    pub unit_pass : ((kind_of ns (parent_of ns i) ≡ 0 → ⊥) → edge (parent_of ns i) i ≡ false) → unit_of ns edge i ≡ unit_of ns edge (parent_of ns i)
    unit_pass f = unit_up ns t edge i z h ∙ go (eqb (kind_of ns (parent_of ns i)) 0) refl
      where
        both : (b : Bool) (x : ℕ) → cond b x x ≡ x
        both true x = refl
        both false x = refl

        go : (b : Bool) → eqb (kind_of ns (parent_of ns i)) 0 ≡ b → cond (edge (parent_of ns i) i) (parent_of ns i) (unit_of ns edge (parent_of ns i)) ≡ unit_of ns edge (parent_of ns i)
        go true e =
            let q : parent_of ns i ≡ 0 = root_only ns t (parent_of ns i) (parent_in ns t i h) (eqb-true (kind_of ns (parent_of ns i)) 0 e) in
            let u : unit_of ns edge (parent_of ns i) ≡ parent_of ns i = ap (λ (x : ℕ). unit_of ns edge x) q ∙ unit_root ns t edge ∙ sym q in
            rw u (both (edge (parent_of ns i) i) (parent_of ns i))
        go false e = rw (f (eqb-false (kind_of ns (parent_of ns i)) 0 e))

-- the Boolean operation, as one that lists what it finds
module _ (sought : ℕ → Bool) (into : ℕ → ℕ → Bool) where
  abbrev lists : Roses → (ℕ → Bool) → List ℕ
  lists ks b = says_all {A = Unit {0}} (λ n a. only (sought n) n) into (λ i j a. a) ks b (λ j. tt)

  mutual
    unfolding contains says

    literal : (t : Rose) → contains sought into t ≡ some (says {A = Unit {0}} (λ n a. only (sought n) n) into (λ i j a. a) t tt)
    literal (node n ks) =
        rw (literal_all ks (into n)) (ap (λ b. b || some (lists ks (into n))) (sym (some_only (sought n) n)) ∙ sym (some_append (only (sought n) n) (lists ks (into n))))

    literal_all : (ks : Roses) (b : ℕ → Bool) → contains_any sought into ks b ≡ some (lists ks b)
    literal_all rnil b = refl
    literal_all (rcons t ts) b = rw (literal t, literal_all ts b) (some_if (b (idx t)) (says {A = Unit {0}} (λ n a. only (sought n) n) into (λ i j a. a) t tt) (lists ts b))

-- THE OPERATION NODE BY NODE
pub contains_is : (ns : List ℕ) → Tree ns → (sought : ℕ → Bool) (edge : ℕ → ℕ → Bool) → ((j : ℕ) → edge 0 j ≡ true) → (u : ℕ) → u < count ns
    → contains_in ns sought edge u ≡ some (each (λ j. cond (eqb (unit_of ns edge j) u) (only (sought j) j) []) (upto (u + 1) (count ns)))
contains_is ns t sought edge root u h =
    literal_all sought (λ i j. not (edge i j)) (parts_of ns u) (edge u)
    ∙ ap some (unit_bridge {A = Unit {0}} (λ n a. only (sought n) n) (λ i j. not (edge i j)) (λ i j a. a) ns t edge (λ i j. tt) tt root (λ i j. shut (edge i j)) (λ i j p x y. quiet (edge i j) x y) u h)
  where
    shut : (b : Bool) → not b ≡ true → b ≡ false
    shut true e = never (sym e)
    shut false e = refl

    quiet : {C : Type 0} → (b : Bool) → b ≡ false → not b ≡ false → C
    quiet true x y = never x
    quiet false x y = never y

nothing : (a : Bool) → false ≡ (a && false)
nothing true = refl
nothing false = refl

module _ (ns : List ℕ) (t : Tree ns) (sought : ℕ → Bool) (into begin : ℕ → ℕ → Bool) (u : ℕ) (g : ℕ → List ℕ)
    (says' : (j : ℕ) → j < count ns → comes ns begin into u j ≡ true → sought j ≡ true → some (g j) ≡ true)
  where
    abbrev at : ℕ → Bool
    at j = comes ns begin into u j

    abbrev says_at : ℕ → List ℕ
    says_at j = cond (at j && sought j) (g j) []

    step : (j : ℕ) → 0 < j → j < count ns → at j ≡ cond (eqb (parent_of ns j) u) (begin (parent_of ns j) j) (at (parent_of ns j) && into (parent_of ns j) j)
    step j z h = handed_law ns (λ i k r. cond (eqb i u) (begin i k) (r && into i k)) false t j z h

    here : (i : ℕ) → i < count ns → some (says_at i) ≡ (at i && sought i)
    here i h = go (at i) (sought i) refl refl
      where
        go : (a b : Bool) → at i ≡ a → sought i ≡ b → some (cond (a && b) (g i) []) ≡ (a && b)
        go true true p q = says' i h p q
        go true false p q = refl
        go false b p q = refl

    both : (a s c : Bool) → ((a && s) || (a && c)) ≡ (a && (s || c))
    both true s c = refl
    both false s c = refl

    spread : (a b c r : Bool) → (((a && b) && c) || (a && r)) ≡ (a && ((b && c) || r))
    spread true b c r = refl
    spread false b c r = refl

    down : (i : ℕ) → u < i → (j : ℕ) → Under ns i j → at j ≡ (at i && into i j)
    down i l j v = step j v.pos v.fits ∙ rw (v.up, ne_eqb i u (λ q. omega arith))

    after : (i : ℕ) → u ≤ i → (j : ℕ) → Under ns i j → u < j
    after i l j v = let f = t.falls j v.pos v.fits in let e = v.up in omega arith

    mutual
      unfolding contains marks

      of_tree : (x : Rose) → Placed ns x → u < idx x → idx x < count ns → some (each says_at (marks x)) ≡ (at (idx x) && contains sought into x)
      of_tree (node i ks) p l h =
          some_append (says_at i) (each says_at (marks_all ks))
          ∙ rw (here i h, of_trees ks i (at i) (into i) (down i l) (omega arith) p) (both (at i) (sought i) (contains_any sought into ks (into i)))

      of_trees : (ks : Roses) (i : ℕ) (a : Bool) (b : ℕ → Bool) → ((j : ℕ) → Under ns i j → at j ≡ (a && b j)) → u ≤ i → PlacedAll ns i ks → some (each says_at (marks_all ks)) ≡ (a && contains_any sought into ks b)
      of_trees rnil i a b e l p = nothing a
      of_trees (rcons x xs) i a b e l p =
          ap some (each_append says_at (marks x) (marks_all xs)) ∙ some_append (each says_at (marks x)) (each says_at (marks_all xs))
          ∙ rw (of_tree x p.1 (after i l (idx x) p.0) p.0.fits, of_trees xs i a b e l p.2, e (idx x) p.0) (spread a (b (idx x)) (contains sought into x) (contains_any sought into xs b))

    -- it is true of u exactly if g says something at some node below u that it comes to and that is sought
    pub comes_is : u < count ns → contains_from ns sought into begin u ≡ some (each says_at (marks_all (parts_of ns u)))
    comes_is h = sym (of_trees (parts_of ns u) u true (begin u) (λ j v. step j v.pos v.fits ∙ rw (v.up, eq-eqb u u refl)) (omega arith) (parts_placed ns u h))

-- what an operation of u comes to has, as the first edge on its way up, one at a node of which `home` holds: where it begins at u there is an edge, and where it goes on there is none
-- but at such a node
module _ (ns : List ℕ) (t : Tree ns) (into begin edge : ℕ → ℕ → Bool) (home : ℕ → Bool) (u : ℕ) (start : home u ≡ true)
    (first : (j : ℕ) → begin u j ≡ true → edge u j ≡ true) (on' : (i j : ℕ) → (kind_of ns i ≡ 0 → ⊥) → into i j ≡ true → edge i j ≡ true → home i ≡ true)
  where
    comes_to : (j : ℕ) → 0 < j → j < count ns → comes ns begin into u j ≡ cond (eqb (parent_of ns j) u) (begin (parent_of ns j) j) (comes ns begin into u (parent_of ns j) && into (parent_of ns j) j)
    comes_to j z h = handed_law ns (λ i k r. cond (eqb i u) (begin i k) (r && into i k)) false t j z h

    not_from : comes ns begin into u 0 ≡ true → true ≡ false
    not_from e = sym e ∙ handed_root ns (λ i k r. cond (eqb i u) (begin i k) (r && into i k)) false

    pub comes_home : (j : ℕ) → j < count ns → comes ns begin into u j ≡ true → home (unit_of ns edge j) ≡ true
    comes_home = upward ns t (λ j. comes ns begin into u j ≡ true → home (unit_of ns edge j) ≡ true) (λ e. never (not_from e)) step
      where
        step : (j : ℕ) → 0 < j → j < count ns → (comes ns begin into u (parent_of ns j) ≡ true → home (unit_of ns edge (parent_of ns j)) ≡ true) → comes ns begin into u j ≡ true → home (unit_of ns edge j) ≡ true
        step j z h r e = ap home (unit_up ns t edge j z h) ∙ go (eqb (parent_of ns j) u) refl (sym (comes_to j z h) ∙ e)
          where
            go : (x : Bool) → eqb (parent_of ns j) u ≡ x → cond x (begin (parent_of ns j) j) (comes ns begin into u (parent_of ns j) && into (parent_of ns j) j) ≡ true
                → home (cond (edge (parent_of ns j) j) (parent_of ns j) (unit_of ns edge (parent_of ns j))) ≡ true
            go true x q =
                let y : parent_of ns j ≡ u = eqb-true (parent_of ns j) u x in
                let b : begin u j ≡ true = ap (λ (i : ℕ). begin i j) (sym y) ∙ q in
                let g : edge (parent_of ns j) j ≡ true = ap (λ (i : ℕ). edge i j) y ∙ first j b in
                rw g (ap home y ∙ start)
            go false x q = by (edge (parent_of ns j) j) refl
              where
                came : comes ns begin into u (parent_of ns j) ≡ true
                came = and_left_lem (comes ns begin into u (parent_of ns j)) (into (parent_of ns j) j) q

                not_root : kind_of ns (parent_of ns j) ≡ 0 → ⊥
                not_root k =
                    let o : parent_of ns j ≡ 0 = root_only ns t (parent_of ns j) (parent_in ns t j h) k in
                    never (not_from (ap (λ (i : ℕ). comes ns begin into u i) (sym o) ∙ came))

                by : (b : Bool) → edge (parent_of ns j) j ≡ b → home (cond b (parent_of ns j) (unit_of ns edge (parent_of ns j))) ≡ true
                by true b = on' (parent_of ns j) j not_root (and_right_lem (comes ns begin into u (parent_of ns j)) (into (parent_of ns j) j) q) b
                by false b = r came
