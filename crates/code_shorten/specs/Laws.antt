-- What the pass does, said without its bounds: for a program that makes the shorter code in another way.
use Rattle.std.specs.Prelude.{ℕ, zero, suc, ◌+◌, min, ◌≡◌, Bool, true, false, length, eqb, Option, Some, None}
use Rattle.std.proofs.Math.Path.{refl, ap}
use Rattle.std.proofs.Common.{sym, ◌∙◌, arith}
use mathlib.Core.List.{List, [], ◌∷◌}
use Rattle.route_completion.specs.Sem.{pick, elem}
use Rattle.code_flat.specs.Machine.{Instr, NONE, LIST, LEAVE, ASK, SELECT, OPEN, END, CASE}
use Rattle.code_valid.specs.Instrs.{len, find, leads}
use Rattle.code_machine.specs.declared.Target.{Target}
use Rattle.code_shorten.specs.Short.{to, place_in, depth_in, hop, further, last, reached, moved, relocate, kept, close_up}
use Rattle.code_shorten.specs.Sound.{Begin, All, Sound}
use Rattle.code_shorten.specs.Closes.{In, Closed}
use Rattle.code_shorten.specs.Reaches.{reached_zero, reached_closed}
use Rattle.code_shorten.specs.Stands.{least}
use Rattle.code_shorten.specs.Rings.{enough}
use Rattle.code_shorten.specs.Twice.{last_end}

-- From t at the depth d, n jumps lead to u, with e as the least depth.
abbrev pub Hops : List Instr → ℕ → ℕ → ℕ → ℕ → ℕ → Type 0
Hops is zero t d u e = (t ≡ u) × (d ≡ e)
Hops is (suc n) t d u e = (v : ℕ) × (w : ℕ) × (hop is t ≡ to v w) × Hops is n v (min d w) u e

-- THE LAST TARGET is where jumps lead and no jump stands,
hops_last : (is : List Instr) (n t d u e : ℕ) → Hops is n t d u e → hop is u ≡ None → last is (suc n) t d ≡ to u e
unfolding last
hops_last is zero t d u e h z =
    ap (λ a. further (last is zero) a t d) (ap (hop is) h.0 ∙ z) ∙ ap (λ x. to x d) h.0 ∙ ap (to u) h.1
hops_last is (suc n) t d u e h z =
    ap (λ a. further (last is (suc n)) a t d) h.2 ∙ hops_last is n h.0 (min d h.1) u e h.3 z

pub last_is : (is : List Instr) (n t d u e : ℕ) → Hops is n t d u e → hop is u ≡ None → last is (suc (length is)) t d ≡ to u e
last_is is n t d u e h z = enough is (suc n) t d u e (hops_last is n t d u e h z)

last_hops : (is : List Instr) (f t d u e : ℕ) → last is f t d ≡ to u e → (n : ℕ) × Hops is n t d u e
unfolding last
last_hops is zero t d u e h = let x : ◌≡◌ {A = ℕ} 0 1 = cc in absurd (omega arith)
last_hops is (suc f) t d u e h = go (hop is t) refl h (λ v w. last_hops is f v w u e)
  where
    go : (a : Option Target) → hop is t ≡ a → further (last is f) a t d ≡ to u e → ((v w : ℕ) → last is f v w ≡ to u e → (n : ℕ) × Hops is n v w u e) → (n : ℕ) × Hops is n t d u e
    go None q m k = let x : t ≡ u = ap place_in m in let y : d ≡ e = ap depth_in m in (0, (x, y))
    go (Some aim) q m k = let v : ℕ = aim.place in let w : ℕ = aim.depth in let r : (n : ℕ) × Hops is n v (min d w) u e = k v (min d w) m in (suc r.0, (v, w, q, r.1))

pub is_last : (is : List Instr) (t d u e : ℕ) → last is (suc (length is)) t d ≡ to u e → ((n : ℕ) × Hops is n t d u e) × (hop is u ≡ None)
is_last is t d u e h = (last_hops is (suc (length is)) t d u e h, last_end is (suc (length is)) t d u e h)

-- and there is none in a ring only: no number of jumps comes to an end.
pub in_ring : (is : List Instr) (t d : ℕ) → last is (suc (length is)) t d ≡ None → (n u e : ℕ) → Hops is n t d u e → hop is u ≡ None → ⊥
in_ring is t d h n u e k z = let q : None ≡ to u e = sym h ∙ last_is is n t d u e k z in let x : ◌≡◌ {A = ℕ} 0 1 = cc in omega arith

-- WHAT IS REACHED is the least closed set: any S that holds 0, is closed, and lies in each closed set has the places of `reached`.
pub reached_is : (is : List Instr) → Sound is → (S : List ℕ) → In S 0 → Closed is S
    → ((Q : ℕ → Bool) → Q 0 ≡ true → ((o : ℕ) → Begin is o → Q o ≡ true → All (λ x. Q x ≡ true) (leads o (find is 0 o))) → (o : ℕ) → In S o → Q o ≡ true)
    → (o : ℕ) → elem o S ≡ elem o (reached is)
reached_is is s S z c l o = go (elem o S) refl (elem o (reached is)) refl
  where
    go : (a : Bool) → elem o S ≡ a → (b : Bool) → elem o (reached is) ≡ b → a ≡ b
    go true p true q = refl
    go true p false q = sym (l (λ x. elem x (reached is)) (reached_zero is s) (reached_closed is s) o p) ∙ q
    go false p true q = sym p ∙ least is s (In S) z c (length is) o q
    go false p false q = refl

relocate_by : (f g : ℕ → ℕ) → ((x : ℕ) → f x ≡ g x) → (i : Instr) → relocate f i ≡ relocate g i
relocate_by f g h NONE = refl
relocate_by f g h (LIST n) = refl
relocate_by f g h (LEAVE t d) = ap (λ x. LEAVE x d) (h t)
relocate_by f g h (ASK n y z) = ap (λ x. ASK n x (f z)) (h y) ∙ ap (λ x. ASK n (g y) x) (h z)
relocate_by f g h (SELECT n c e) = ap (λ x. SELECT n x (f e)) (h c) ∙ ap (λ x. SELECT n (g c) x) (h e)
relocate_by f g h (OPEN k) = ap OPEN (h k)
relocate_by f g h (END e) = refl
relocate_by f g h (CASE c t d) = ap (λ x. CASE x (f t) d) (h c) ∙ ap (λ x. CASE (g c) x d) (h t)

module _ (S T : List ℕ) (h : (o : ℕ) → elem o S ≡ elem o T) where
  moved_by : (is : List Instr) (p q o : ℕ) → moved S is p q o ≡ moved T is p q o
  unfolding moved
  moved_by [] p q o = refl
  moved_by (i ∷ is) p q o =
      ap (λ b. pick (eqb p o) q (moved S is (p + len i) (pick b (q + len i) q) o)) (h p)
      ∙ ap (λ r. pick (eqb p o) q r) (moved_by is (p + len i) (pick (elem p T) (q + len i) q) o)

  kept_by : (f g : ℕ → ℕ) → ((x : ℕ) → f x ≡ g x) → (is : List Instr) (p : ℕ) → kept f S is p ≡ kept g T is p
  unfolding kept
  kept_by f g e [] p = refl
  kept_by f g e (i ∷ is) p =
      ap (λ b. pick b (relocate f i ∷ kept f S is (p + len i)) (kept f S is (p + len i))) (h p)
      ∙ ap (λ r. pick (elem p T) (relocate f i ∷ r) r) (kept_by f g e is (p + len i))
      ∙ ap (λ j. pick (elem p T) (j ∷ kept g T is (p + len i)) (kept g T is (p + len i))) (relocate_by f g e i)

  -- Sets with the same places close up alike.
  pub close_up_by : (is : List Instr) → close_up S is ≡ close_up T is
  unfolding close_up
  close_up_by is = kept_by (moved S is 0 0) (moved T is 0 0) (moved_by is 0 0) is 0
