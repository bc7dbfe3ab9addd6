-- Laws of the numbers of a kept instruction that is sent on.
use Prim.Native.Nat.{ℕ, zero, suc, ◌-◌, ◌≤◌, ◌<◌}
use Rattle.std.specs.Prelude.{◌≡◌, set, None}
use Rattle.std.proofs.Math.Path.{refl, sym, ap}
use Rattle.std.proofs.Common.{◌∙◌, subst, true≢false}
use Rattle.std.proofs.Math.Bool.{true}
use mathlib.Core.List.{List, [], ◌∷◌}
use Rattle.std.proofs.Math.ListN.{length, get_or}
use native.Mathlib.Omega.{arith}
use Rattle.code_flat.specs.Opcodes as op
use Rattle.code_flat.specs.Machine.{Instr, NONE, LIST, LEAVE, ASK, SELECT, OPEN, END, CASE, decode}
use Rattle.code_valid.specs.Instrs.{len, words}
use Rattle.code_valid.proofs.ReadingLaws.{decode_none}
use Rattle.code_shorten.specs.Short.{to, aim_of, last, aimed, thread}
use Rattle.code_gather.specs.Gather.{follow, is_jump}

words_decode : (x a b c j : ℕ) → j < len (decode x a b c) → get_or (x ∷ a ∷ b ∷ c ∷ []) j 0 ≡ get_or (words (decode x a b c)) j 0
words_decode zero a b c j h = absurd (omega arith)
words_decode (suc zero) a b c zero h = refl
words_decode (suc zero) a b c (suc zero) h = refl
words_decode (suc zero) a b c (suc (suc j)) h = absurd (omega arith)
words_decode (suc (suc zero)) a b c zero h = refl
words_decode (suc (suc zero)) a b c (suc zero) h = refl
words_decode (suc (suc zero)) a b c (suc (suc zero)) h = refl
words_decode (suc (suc zero)) a b c (suc (suc (suc j))) h = absurd (omega arith)
words_decode (suc (suc (suc zero))) a b c zero h = refl
words_decode (suc (suc (suc zero))) a b c (suc zero) h = refl
words_decode (suc (suc (suc zero))) a b c (suc (suc zero)) h = refl
words_decode (suc (suc (suc zero))) a b c (suc (suc (suc zero))) h = refl
words_decode (suc (suc (suc zero))) a b c (suc (suc (suc (suc j)))) h = absurd (omega arith)
words_decode (suc (suc (suc (suc zero)))) a b c zero h = refl
words_decode (suc (suc (suc (suc zero)))) a b c (suc zero) h = refl
words_decode (suc (suc (suc (suc zero)))) a b c (suc (suc zero)) h = refl
words_decode (suc (suc (suc (suc zero)))) a b c (suc (suc (suc zero))) h = refl
words_decode (suc (suc (suc (suc zero)))) a b c (suc (suc (suc (suc j)))) h = absurd (omega arith)
words_decode (suc (suc (suc (suc (suc zero))))) a b c zero h = refl
words_decode (suc (suc (suc (suc (suc zero))))) a b c (suc zero) h = refl
words_decode (suc (suc (suc (suc (suc zero))))) a b c (suc (suc j)) h = absurd (omega arith)
words_decode (suc (suc (suc (suc (suc (suc zero)))))) a b c zero h = refl
words_decode (suc (suc (suc (suc (suc (suc zero)))))) a b c (suc zero) h = refl
words_decode (suc (suc (suc (suc (suc (suc zero)))))) a b c (suc (suc j)) h = absurd (omega arith)
words_decode (suc (suc (suc (suc (suc (suc (suc zero))))))) a b c zero h = refl
words_decode (suc (suc (suc (suc (suc (suc (suc zero))))))) a b c (suc zero) h = refl
words_decode (suc (suc (suc (suc (suc (suc (suc zero))))))) a b c (suc (suc zero)) h = refl
words_decode (suc (suc (suc (suc (suc (suc (suc zero))))))) a b c (suc (suc (suc zero))) h = refl
words_decode (suc (suc (suc (suc (suc (suc (suc zero))))))) a b c (suc (suc (suc (suc j)))) h = absurd (omega arith)
words_decode (suc (suc (suc (suc (suc (suc (suc (suc k)))))))) a b c j h =
    let z : len (decode (suc (suc (suc (suc (suc (suc (suc (suc k)))))))) a b c) ≡ 0 = ap len (decode_none (suc (suc (suc (suc (suc (suc (suc (suc k)))))))) a b c (omega arith)) in absurd (omega arith)

-- The numbers of the instruction that they make.
pub words_are : (x a b c : ℕ) (i : Instr) → decode x a b c ≡ i → (j : ℕ) → j < len i → get_or (x ∷ a ∷ b ∷ c ∷ []) j 0 ≡ get_or (words i) j 0
words_are x a b c i e j h = words_decode x a b c j (subst (λ k. j < len k) (sym e) h) ∙ ap (λ k. get_or (words k) j 0) e

-- One that has no last target stays.
pub thread_stays : (is : List Instr) (i : Instr) → follow (last is (suc (length is))) (aim_of i) ≡ None → thread is i ≡ i
thread_stays is NONE h = refl
thread_stays is (LIST n) h = refl
thread_stays is (LEAVE t d) h = ap (λ a. aimed a LEAVE (LEAVE t d)) h
thread_stays is (ASK n y z) h = refl
thread_stays is (SELECT n c e) h = refl
thread_stays is (OPEN f) h = refl
thread_stays is (END e) h = refl
thread_stays is (CASE c t d) h = ap (λ a. aimed a (CASE c) (CASE c t d)) h

-- The others get it in their last two numbers.
pub words_sent : (is : List Instr) (i : Instr) (u e x a b c size : ℕ) → follow (last is (suc (length is))) (aim_of i) ≡ to u e → decode x a b c ≡ i → size ≡ len i → (j : ℕ) → j < size
    → get_or (set (set (x ∷ a ∷ b ∷ c ∷ []) (size - 2) u) (size - 1) e) j 0 ≡ get_or (words (thread is i)) j 0
words_sent is NONE u e x a b c size h d s j l = let w : ◌≡◌ {A = ℕ} 0 1 = cc in absurd (omega arith)
words_sent is (LIST n) u e x a b c size h d s j l = let w : ◌≡◌ {A = ℕ} 0 1 = cc in absurd (omega arith)
words_sent is (LEAVE t k) u e x a b c size h d s j l =
    ap (λ n. get_or (set (set (x ∷ a ∷ b ∷ c ∷ []) (n - 2) u) (n - 1) e) j 0) s ∙ go j (omega arith) ∙ ap (λ y. get_or (words (aimed y LEAVE (LEAVE t k))) j 0) (sym h)
  where
    go : (m : ℕ) → m < 3 → get_or (x ∷ u ∷ e ∷ c ∷ []) m 0 ≡ get_or (op.Leave ∷ u ∷ e ∷ []) m 0
    go zero r = words_are x a b c (LEAVE t k) d 0 (omega arith)
    go (suc zero) r = refl
    go (suc (suc zero)) r = refl
    go (suc (suc (suc m))) r = absurd (omega arith)
words_sent is (ASK n y z) u e x a b c size h d s j l = let w : ◌≡◌ {A = ℕ} 0 1 = cc in absurd (omega arith)
words_sent is (SELECT n y z) u e x a b c size h d s j l = let w : ◌≡◌ {A = ℕ} 0 1 = cc in absurd (omega arith)
words_sent is (OPEN f) u e x a b c size h d s j l = let w : ◌≡◌ {A = ℕ} 0 1 = cc in absurd (omega arith)
words_sent is (END k) u e x a b c size h d s j l = let w : ◌≡◌ {A = ℕ} 0 1 = cc in absurd (omega arith)
words_sent is (CASE o t k) u e x a b c size h d s j l =
    ap (λ n. get_or (set (set (x ∷ a ∷ b ∷ c ∷ []) (n - 2) u) (n - 1) e) j 0) s ∙ go j (omega arith) ∙ ap (λ y. get_or (words (aimed y (CASE o) (CASE o t k))) j 0) (sym h)
  where
    go : (m : ℕ) → m < 4 → get_or (x ∷ a ∷ u ∷ e ∷ []) m 0 ≡ get_or (op.Case ∷ o ∷ u ∷ e ∷ []) m 0
    go zero r = words_are x a b c (CASE o t k) d 0 (omega arith)
    go (suc zero) r = words_are x a b c (CASE o t k) d 1 (omega arith)
    go (suc (suc zero)) r = refl
    go (suc (suc (suc zero))) r = refl
    go (suc (suc (suc (suc m)))) r = absurd (omega arith)

-- A jump takes three numbers at least.
pub jump_long : (i : Instr) → is_jump (aim_of i) ≡ true → 3 ≤ len i
jump_long NONE h = absurd (true≢false (sym h))
jump_long (LIST n) h = absurd (true≢false (sym h))
jump_long (LEAVE t d) h = omega arith
jump_long (ASK n y z) h = absurd (true≢false (sym h))
jump_long (SELECT n c e) h = absurd (true≢false (sym h))
jump_long (OPEN f) h = absurd (true≢false (sym h))
jump_long (END e) h = absurd (true≢false (sym h))
jump_long (CASE c t d) h = omega arith
