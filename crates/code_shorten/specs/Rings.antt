-- A jump that has found no last target after as many jumps as there are instructions, and one more, never finds one: it leads into a ring.
use Prim.Native.Nat.{ℕ, zero, suc, ◌+◌, ◌≤◌, ◌<◌, min}
use Rattle.std.proofs.Math.Path.{◌≡◌, refl, ap}
use Rattle.std.proofs.Common.{sym, ◌∙◌, subst, true≢false}
use Rattle.std.specs.Prelude.{Bool, ◌&&◌, length, Option, Some, None}
use Rattle.std.proofs.Math.Bool.{true, false}
use mathlib.Core.List.{List, [], ◌∷◌}
use native.Mathlib.Omega.{arith}
use Rattle.std.proofs.Math.Decide.{dec_le}
use Rattle.route_completion.specs.Sem.{pick}
use Rattle.code_flat.specs.Machine.{Instr}
use Rattle.code_flat.specs.Machine.{is_none}
use Rattle.code_valid.specs.Instrs.{len, find}
use Rattle.code_machine.specs.declared.Target.{Target}
use Rattle.code_shorten.specs.Short.{to, hop, further, last}
use Rattle.code_shorten.specs.Sound.{Begin, dec_eq, find_there, none_in}
use Rattle.code_shorten.specs.Threads.{aim_some, hop_some}

-- How many places from p on are such.
unfoldable tally : (ℕ → Bool) → List Instr → ℕ → ℕ
tally Q [] p = 0
tally Q (i ∷ is) p = pick (Q p) 1 0 + tally Q is (p + len i)

tally_most : (Q : ℕ → Bool) (is : List Instr) (p : ℕ) → tally Q is p ≤ length is
unfolding tally
tally_most Q [] p = omega arith
tally_most Q (i ∷ is) p = go (Q p) (tally_most Q is (p + len i))
  where
    go : (b : Bool) → tally Q is (p + len i) ≤ length is → pick b 1 0 + tally Q is (p + len i) ≤ suc (length is)
    go true h = omega arith
    go false h = omega arith

module _ (Q R : ℕ → Bool) (more : (o : ℕ) → Q o ≡ true → R o ≡ true) where
  tally_more : (is : List Instr) (p : ℕ) → tally Q is p ≤ tally R is p
  unfolding tally
  tally_more [] p = omega arith
  tally_more (i ∷ is) p = go (Q p) refl (R p) refl (tally_more is (p + len i))
    where
      go : (a : Bool) → Q p ≡ a → (b : Bool) → R p ≡ b → tally Q is (p + len i) ≤ tally R is (p + len i)
          → pick a 1 0 + tally Q is (p + len i) ≤ pick b 1 0 + tally R is (p + len i)
      go true e true k h = omega arith
      go true e false k h = absurd (true≢false (sym (more p e) ∙ k))
      go false e b k h = omega arith

  tally_less : (is : List Instr) (p x : ℕ) → is_none (find is p x) ≡ false → Q x ≡ false → R x ≡ true → tally Q is p < tally R is p
  unfolding tally
  tally_less [] p x n q r = absurd (none_in p x n)
  tally_less (i ∷ is) p x n q r = go (dec_eq p x) (tally_less is (p + len i) x)
    where
      first : (a b : Bool) → a ≡ false → b ≡ true → pick a 1 0 + tally Q is (p + len i) < pick b 1 0 + tally R is (p + len i)
      first true b e k = absurd (true≢false e)
      first false true e k = omega (arith, tally_more is (p + len i))
      first false false e k = absurd (true≢false (sym k))

      rest : (a : Bool) → Q p ≡ a → (b : Bool) → R p ≡ b → tally Q is (p + len i) < tally R is (p + len i)
          → pick a 1 0 + tally Q is (p + len i) < pick b 1 0 + tally R is (p + len i)
      rest true e true k h = omega arith
      rest true e false k h = absurd (true≢false (sym (more p e) ∙ k))
      rest false e b k h = omega arith

      go : Dec (p ≡ x) → (is_none (find is (p + len i) x) ≡ false → Q x ≡ false → R x ≡ true → tally Q is (p + len i) < tally R is (p + len i))
          → pick (Q p) 1 0 + tally Q is (p + len i) < pick (R p) 1 0 + tally R is (p + len i)
      go (yes e) f = first (Q p) (R p) (ap Q e ∙ q) (ap R e ∙ r)
      go (no e) f = rest (Q p) refl (R p) refl (f (ap is_none (sym (find_there i is p x e)) ∙ n) q r)

abbrev is_to : Option Target → Bool
is_to None = false
is_to (Some aim) = true

module _ (is : List Instr) where
  -- The depth says nothing of it.
  any_depth : (f t d e : ℕ) → is_to (last is f t d) ≡ is_to (last is f t e)
  unfolding last
  any_depth zero t d e = refl
  any_depth (suc f) t d e = go (hop is t) (λ v x y. any_depth f v x y)
    where
      go : (a : Option Target) → ((v x y : ℕ) → is_to (last is f v x) ≡ is_to (last is f v y)) → is_to (further (last is f) a t d) ≡ is_to (further (last is f) a t e)
      go None k = refl
      go (Some aim) k = let v : ℕ = aim.place in let w : ℕ = aim.depth in k v (min d w) (min e w)

  solved : ℕ → ℕ → Bool
  solved f t = is_to (last is f t 0)

  solved_next : (f t : ℕ) → solved f t ≡ true → solved (suc f) t ≡ true
  unfolding last solved
  solved_next zero t h = absurd (true≢false (sym h))
  solved_next (suc f) t h = go (hop is t) h (λ v. solved_next f v)
    where
      go : (a : Option Target) → is_to (further (last is f) a t 0) ≡ true → ((v : ℕ) → is_to (last is f v 0) ≡ true → is_to (last is (suc f) v 0) ≡ true)
          → is_to (further (last is (suc f)) a t 0) ≡ true
      go None e k = refl
      go (Some aim) e k = let v : ℕ = aim.place in let w : ℕ = aim.depth in any_depth (suc f) v (min 0 w) 0 ∙ k v (any_depth f v 0 (min 0 w) ∙ e)

  solved_up : (g f t : ℕ) → f ≤ g → solved f t ≡ true → solved g t ≡ true
  solved_up zero f t h e = let q : f ≡ 0 = omega arith in subst (λ x. solved x t ≡ true) q e
  solved_up (suc g) f t h e = go (dec_le f g) (λ l. solved_up g f t l e)
    where
      go : Dec (f ≤ g) → (f ≤ g → solved g t ≡ true) → solved (suc g) t ≡ true
      go (yes l) k = solved_next g t (k l)
      go (no l) k = let q : f ≡ suc g = omega arith in subst (λ x. solved x t ≡ true) q e

  -- A jump that has found its last target after f jumps.
  found : ℕ → ℕ → Bool
  found f o = is_to (hop is o) && solved f o

  found_next : (f o : ℕ) → found f o ≡ true → found (suc f) o ≡ true
  unfolding found
  found_next f o h = go (is_to (hop is o)) h
    where
      go : (a : Bool) → (a && solved f o) ≡ true → (a && solved (suc f) o) ≡ true
      go true e = solved_next f o e
      go false e = absurd (true≢false (sym e))

  -- One that finds it just then has f others before it.
  late : (f t : ℕ) → solved f t ≡ false → solved (suc f) t ≡ true → f ≤ tally (found (suc f)) is 0
  unfolding last solved found
  late zero t n y = omega arith
  late (suc f) t n y = go (hop is t) refl n y (λ v. late f v)
    where
      go : (a : Option Target) → hop is t ≡ a → is_to (further (last is f) a t 0) ≡ false → is_to (further (last is (suc f)) a t 0) ≡ true
          → ((v : ℕ) → is_to (last is f v 0) ≡ false → is_to (last is (suc f) v 0) ≡ true → f ≤ tally (found (suc f)) is 0) → suc f ≤ tally (found (suc (suc f))) is 0
      go None q m r k = absurd (true≢false m)
      go (Some aim) q m r k = let v : ℕ = aim.place in let w : ℕ = aim.depth in
          let l : f ≤ tally (found (suc f)) is 0 = k v (any_depth f v 0 (min 0 w) ∙ m) (any_depth (suc f) v 0 (min 0 w) ∙ r) in
          let b : Begin is t = aim_some (find is 0 t) v w (hop_some is t v w q).1 in
          let g : tally (found (suc f)) is 0 < tally (found (suc (suc f))) is 0
          = tally_less (found (suc f)) (found (suc (suc f))) (found_next (suc f)) is 0 t b (ap (λ a. is_to a && solved (suc f) t) q ∙ n) (ap (λ a. is_to a && solved (suc (suc f)) t) q ∙ y) in
          omega arith

  never : (t : ℕ) → solved (suc (length is)) t ≡ false → (f : ℕ) → solved f t ≡ false
  unfolding last solved
  never t h zero = refl
  never t h (suc f) = go (solved (suc f) t) refl (never t h f)
    where
      go : (b : Bool) → solved (suc f) t ≡ b → solved f t ≡ false → solved (suc f) t ≡ false
      go true e n =
          let l : f ≤ tally (found (suc f)) is 0 = late f t n e in
          absurd (true≢false (sym (solved_up (suc (length is)) (suc f) t (omega (arith, tally_most (found (suc f)) is 0)) e) ∙ h))
      go false e n = e

  none_of : (a : Option Target) → is_to a ≡ false → a ≡ None
  none_of None h = refl
  none_of (Some aim) h = absurd (true≢false h)

  -- It leads into a ring.
  abbrev pub Ring : ℕ → Type 0
  Ring t = (f d : ℕ) → last is f t d ≡ None

  pub ring : (t d : ℕ) → last is (suc (length is)) t d ≡ None → Ring t
  unfolding solved
  ring t d h f e = none_of (last is f t e) (any_depth f t e 0 ∙ never t (any_depth (suc (length is)) t 0 d ∙ ap is_to h) f)

  -- The next jump leads into it too.
  pub ring_next : (t : ℕ) → Ring t → (v : ℕ) × (w : ℕ) × (hop is t ≡ to v w) × Ring v
  unfolding last
  ring_next t r = go (hop is t) refl (λ f. r (suc f) 0)
    where
      go : (a : Option Target) → hop is t ≡ a → ((f : ℕ) → further (last is f) a t 0 ≡ None) → (v : ℕ) × (w : ℕ) × (hop is t ≡ to v w) × Ring v
      go None q m = let h : to t 0 ≡ None = m 0 in let x : ◌≡◌ {A = ℕ} 0 1 = cc in absurd (omega arith)
      go (Some aim) q m = let v : ℕ = aim.place in let w : ℕ = aim.depth in (v, w, q, λ f d. none_of (last is f v d) (any_depth f v d (min 0 w) ∙ ap is_to (m f)))

  last_next : (f t d u e : ℕ) → last is f t d ≡ to u e → last is (suc f) t d ≡ to u e
  unfolding last
  last_next zero t d u e h = let x : ◌≡◌ {A = ℕ} 0 1 = cc in absurd (omega arith)
  last_next (suc f) t d u e h = go (hop is t) h (λ v w. last_next f v w u e)
    where
      go : (a : Option Target) → further (last is f) a t d ≡ to u e → ((v w : ℕ) → last is f v w ≡ to u e → last is (suc f) v w ≡ to u e) → further (last is (suc f)) a t d ≡ to u e
      go None m k = m
      go (Some aim) m k = let v : ℕ = aim.place in let w : ℕ = aim.depth in k v (min d w) m

  pub last_up : (g f t d u e : ℕ) → f ≤ g → last is f t d ≡ to u e → last is g t d ≡ to u e
  last_up zero f t d u e l h = let q : f ≡ 0 = omega arith in subst (λ x. last is x t d ≡ to u e) q h
  last_up (suc g) f t d u e l h = go (dec_le f g) (λ k. last_up g f t d u e k h)
    where
      go : Dec (f ≤ g) → (f ≤ g → last is g t d ≡ to u e) → last is (suc g) t d ≡ to u e
      go (yes k) m = last_next g t d u e (m k)
      go (no k) m = let q : f ≡ suc g = omega arith in subst (λ x. last is x t d ≡ to u e) q h

  -- The bound on the jumps says nothing of it.
  pub enough : (f t d u e : ℕ) → last is f t d ≡ to u e → last is (suc (length is)) t d ≡ to u e
  enough f t d u e h = go (last is (suc (length is)) t d) refl (dec_le f (suc (length is)))
    where
      go : (a : Option Target) → last is (suc (length is)) t d ≡ a → Dec (f ≤ suc (length is)) → a ≡ to u e
      go None q l = sym (ring t d q f d) ∙ h
      go (Some aim) q (yes l) = let v : ℕ = aim.place in let w : ℕ = aim.depth in sym q ∙ last_up (suc (length is)) f t d u e l h
      go (Some aim) q (no l) = let v : ℕ = aim.place in let w : ℕ = aim.depth in sym (last_up f (suc (length is)) t d v w (omega arith) q) ∙ h
