-- Kinds that stand together: a chain of cases with one list is one case of a range.
use Rattle.std.specs.Prelude.{ℕ, suc, ◌≤◌, ◌≡◌, refl, List, [], Bool, true, false, cond, eqb}
use Rattle.std.proofs.Common.{arith, eqb-true}
use Rattle.std.proofs.lemmas.Bool.{eqb-false}
use Rattle.base_common.specs.Tests.{within}
use Rattle.base_common.proofs.Bools.{range_of}

-- a number outside of a range
beyond : (k lo hi : ℕ) → ((lo ≤ k) → (k ≤ hi) → ⊥) → within k lo hi ≡ false
beyond k lo hi h = go (within k lo hi) refl
  where
    go : (b : Bool) → within k lo hi ≡ b → b ≡ false
    go true w = absurd (h (range_of k lo hi w).0 (range_of k lo hi w).1)
    go false w = refl

module _ {A : Type 0} (k : ℕ) where
  -- the three names
  pub any_name : (x r : List A) → cond (eqb k 31) x (cond (eqb k 32) x (cond (eqb k 33) x r)) ≡ cond (within k 31 33) x r
  any_name x r = go (eqb k 31) (eqb k 32) (eqb k 33) refl refl refl
    where
      go : (a b c : Bool) → eqb k 31 ≡ a → eqb k 32 ≡ b → eqb k 33 ≡ c → cond (eqb k 31) x (cond (eqb k 32) x (cond (eqb k 33) x r)) ≡ cond (within k 31 33) x r
      go true b c p q s = rw (eqb-true k 31 p)
      go false true c p q s = rw (eqb-true k 32 q)
      go false false true p q s = rw (eqb-true k 33 s)
      go false false false p q s =
          let e1 = eqb-false k 31 p in
          let e2 = eqb-false k 32 q in
          let e3 = eqb-false k 33 s in
          rw (p, q, s, beyond k 31 33 (λ l u. omega arith))

  pub await_or_yield : (x : List A) → cond (eqb k 47) x (cond (eqb k 48) x []) ≡ cond (within k 47 48) x []
  await_or_yield x = go (eqb k 47) (eqb k 48) refl refl
    where
      go : (a b : Bool) → eqb k 47 ≡ a → eqb k 48 ≡ b → cond (eqb k 47) x (cond (eqb k 48) x []) ≡ cond (within k 47 48) x []
      go true b p q = rw (eqb-true k 47 p)
      go false true p q = rw (eqb-true k 48 q)
      go false false p q =
          let e1 = eqb-false k 47 p in
          let e2 = eqb-false k 48 q in
          rw (p, q, beyond k 47 48 (λ l u. omega arith))

  -- statements that hold another: With, Labeled, ForIn, ForOf, While, DoWhile, For, If
  pub holders : (b i f : List A)
      → cond (eqb k 13) b (cond (eqb k 6) f (cond (eqb k 8) b (cond (eqb k 9) b (cond (eqb k 10) b (cond (eqb k 11) b (cond (eqb k 7) b (cond (eqb k 12) i [])))))))
      ≡ cond (eqb k 6) f (cond (eqb k 12) i (cond (within k 7 13) b []))
  holders b i f = go (eqb k 13) (eqb k 6) (eqb k 8) (eqb k 9) (eqb k 10) (eqb k 11) (eqb k 7) (eqb k 12) refl refl refl refl refl refl refl refl
    where
      above : {a : ℕ} → a ≤ k → (k ≡ a → ⊥) → suc a ≤ k
      above l h = omega arith

      none : 7 ≤ k → k ≤ 13 → (k ≡ 7 → ⊥) → (k ≡ 8 → ⊥) → (k ≡ 9 → ⊥) → (k ≡ 10 → ⊥) → (k ≡ 11 → ⊥) → (k ≡ 12 → ⊥) → (k ≡ 13 → ⊥) → ⊥
      none l u h1 h2 h3 h4 h5 h6 h7 = let z = above (above (above (above (above (above (above l h1) h2) h3) h4) h5) h6) h7 in omega (arith, z, u)

      go : (a c d e g h j l : Bool) → eqb k 13 ≡ a → eqb k 6 ≡ c → eqb k 8 ≡ d → eqb k 9 ≡ e → eqb k 10 ≡ g → eqb k 11 ≡ h → eqb k 7 ≡ j → eqb k 12 ≡ l
          → cond (eqb k 13) b (cond (eqb k 6) f (cond (eqb k 8) b (cond (eqb k 9) b (cond (eqb k 10) b (cond (eqb k 11) b (cond (eqb k 7) b (cond (eqb k 12) i [])))))))
          ≡ cond (eqb k 6) f (cond (eqb k 12) i (cond (within k 7 13) b []))
      go true c d e g h j l p1 p2 p3 p4 p5 p6 p7 p8 = rw (eqb-true k 13 p1)
      go false true d e g h j l p1 p2 p3 p4 p5 p6 p7 p8 = rw (eqb-true k 6 p2)
      go false false true e g h j l p1 p2 p3 p4 p5 p6 p7 p8 = rw (eqb-true k 8 p3)
      go false false false true g h j l p1 p2 p3 p4 p5 p6 p7 p8 = rw (eqb-true k 9 p4)
      go false false false false true h j l p1 p2 p3 p4 p5 p6 p7 p8 = rw (eqb-true k 10 p5)
      go false false false false false true j l p1 p2 p3 p4 p5 p6 p7 p8 = rw (eqb-true k 11 p6)
      go false false false false false false true l p1 p2 p3 p4 p5 p6 p7 p8 = rw (eqb-true k 7 p7)
      go false false false false false false false true p1 p2 p3 p4 p5 p6 p7 p8 = rw (eqb-true k 12 p8)
      go false false false false false false false false p1 p2 p3 p4 p5 p6 p7 p8 =
          rw (p1, p2, p3, p4, p5, p6, p7, p8, beyond k 7 13 (λ l u. none l u (eqb-false k 7 p7) (eqb-false k 8 p3) (eqb-false k 9 p4) (eqb-false k 10 p5) (eqb-false k 11 p6) (eqb-false k 12 p8) (eqb-false k 13 p1)))
