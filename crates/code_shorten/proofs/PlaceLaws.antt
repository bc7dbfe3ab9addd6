-- Laws of where instructions begin, and of how many numbers they take.
use Prim.Native.Nat.{ℕ, zero, suc, ◌+◌, ◌≤◌, ◌<◌}
use Rattle.std.specs.Prelude.{◌≡◌, ◌⊎◌}
use Rattle.std.proofs.Math.Path.{refl, sym, ap}
use Rattle.std.proofs.Common.{◌∙◌, subst, inl, inr}
use Rattle.std.proofs.Math.Bool.{false}
use mathlib.Core.List.{List, [], ◌∷◌}
use native.Mathlib.Omega.{arith}
use Rattle.code_flat.specs.Machine.{Instr, NONE, LIST, LEAVE, ASK, SELECT, OPEN, END, CASE, decode}
use Rattle.code_flat.specs.Machine.{is_none}
use Rattle.code_valid.specs.Instrs.{len, find}
use Rattle.code_valid.proofs.ReadingLaws.{decode_none}
use Rattle.code_shorten.specs.Longer.{total}
use Rattle.code_shorten.specs.Sound.{AreInstrs, dec_eq, len_pos, find_here, find_there, find_low, none_in}

-- Nothing begins inside an instruction.
pub find_inside : (is : List Instr) (q p k : ℕ) → AreInstrs is → is_none (find is q p) ≡ false → 0 < k → k < len (find is q p) → is_none (find is q (p + k)) ≡ false → ⊥
find_inside [] q p k s b l m c = none_in q p b
find_inside (i ∷ is) q p k s b l m c = go (dec_eq q p) (find_inside is (q + len i) p k s.1)
  where
    go : Dec (q ≡ p) → (is_none (find is (q + len i) p) ≡ false → 0 < k → k < len (find is (q + len i) p) → is_none (find is (q + len i) (p + k)) ≡ false → ⊥) → ⊥
    go (yes e) ih =
        let f : find (i ∷ is) q p ≡ i = ap (find (i ∷ is) q) (sym e) ∙ find_here i is q in
        let g : find (i ∷ is) q (p + k) ≡ find is (q + len i) (p + k) = find_there i is q (p + k) (λ w. omega arith) in
        let h : q + len i ≤ p + k = find_low is (q + len i) (p + k) (sym (ap is_none g) ∙ c) in
        omega (arith, ap len f)
    go (no e) ih =
        let f : find (i ∷ is) q p ≡ find is (q + len i) p = find_there i is q p e in
        let h : q + len i ≤ p = find_low is (q + len i) p (sym (ap is_none f) ∙ b) in
        let g : find (i ∷ is) q (p + k) ≡ find is (q + len i) (p + k) = find_there i is q (p + k) (λ w. omega (arith, len_pos i s.0)) in
        ih (sym (ap is_none f) ∙ b) l (subst (λ j. k < len j) f m) (sym (ap is_none g) ∙ c)

-- Behind an instruction another begins, or the code ends.
pub next_place : (is : List Instr) (q p : ℕ) → AreInstrs is → is_none (find is q p) ≡ false
    → (is_none (find is q (p + len (find is q p))) ≡ false) ⊎ (p + len (find is q p) ≡ q + total is)
unfolding total
next_place [] q p s b = absurd (none_in q p b)
next_place (i ∷ is) q p s b = go (dec_eq q p) (next_place is (q + len i) p s.1)
  where
    behind : (r : List Instr) (o : ℕ) → o ≡ q + len i → AreInstrs r → (is_none (find (i ∷ r) q o) ≡ false) ⊎ (o ≡ q + (len i + total r))
    behind [] o e u = inr (omega arith)
    behind (j ∷ r) o e u =
        inl (ap is_none (find_there i (j ∷ r) q o (λ w. omega (arith, len_pos i s.0))) ∙ ap (λ x. is_none (find (j ∷ r) (q + len i) x)) e ∙ ap is_none (find_here j r (q + len i)) ∙ u.0)

    go : Dec (q ≡ p) → (is_none (find is (q + len i) p) ≡ false → (is_none (find is (q + len i) (p + len (find is (q + len i) p))) ≡ false) ⊎ (p + len (find is (q + len i) p) ≡ q + len i + total is))
        → (is_none (find (i ∷ is) q (p + len (find (i ∷ is) q p))) ≡ false) ⊎ (p + len (find (i ∷ is) q p) ≡ q + (len i + total is))
    go (yes e) ih =
        let f : find (i ∷ is) q p ≡ i = ap (find (i ∷ is) q) (sym e) ∙ find_here i is q in
        behind is (p + len (find (i ∷ is) q p)) (omega (arith, ap len f)) s.1
    go (no e) ih =
        let f : find (i ∷ is) q p ≡ find is (q + len i) p = find_there i is q p e in
        let b' : is_none (find is (q + len i) p) ≡ false = sym (ap is_none f) ∙ b in
        let h : q + len i ≤ p = find_low is (q + len i) p b' in
        later f h (ih b')
      where
        later : find (i ∷ is) q p ≡ find is (q + len i) p → q + len i ≤ p
            → (is_none (find is (q + len i) (p + len (find is (q + len i) p))) ≡ false) ⊎ (p + len (find is (q + len i) p) ≡ q + len i + total is)
            → (is_none (find (i ∷ is) q (p + len (find (i ∷ is) q p))) ≡ false) ⊎ (p + len (find (i ∷ is) q p) ≡ q + (len i + total is))
        later f h (inl c) =
            inl (ap (λ j. is_none (find (i ∷ is) q (p + len j))) f ∙ ap is_none (find_there i is q (p + len (find is (q + len i) p)) (λ w. omega (arith, len_pos i s.0))) ∙ c)
        later f h (inr c) = inr (omega (arith, ap len f))

-- Operands that an instruction does not have say nothing.
pub decode_same : (x a b c a' b' c' : ℕ) → (1 < len (decode x a b c) → a' ≡ a) → (2 < len (decode x a b c) → b' ≡ b) → (3 < len (decode x a b c) → c' ≡ c) → decode x a' b' c' ≡ decode x a b c
decode_same zero a b c a' b' c' f g h = refl
decode_same (suc zero) a b c a' b' c' f g h = ap LIST (f (omega arith))
decode_same (suc (suc zero)) a b c a' b' c' f g h = λ j. LEAVE (f (omega arith) j) (g (omega arith) j)
decode_same (suc (suc (suc zero))) a b c a' b' c' f g h = λ j. ASK (f (omega arith) j) (g (omega arith) j) (h (omega arith) j)
decode_same (suc (suc (suc (suc zero)))) a b c a' b' c' f g h = λ j. SELECT (f (omega arith) j) (g (omega arith) j) (h (omega arith) j)
decode_same (suc (suc (suc (suc (suc zero))))) a b c a' b' c' f g h = ap OPEN (f (omega arith))
decode_same (suc (suc (suc (suc (suc (suc zero)))))) a b c a' b' c' f g h = ap END (f (omega arith))
decode_same (suc (suc (suc (suc (suc (suc (suc zero))))))) a b c a' b' c' f g h = λ j. CASE (f (omega arith) j) (g (omega arith) j) (h (omega arith) j)
decode_same (suc (suc (suc (suc (suc (suc (suc (suc k)))))))) a b c a' b' c' f g h =
    decode_none (suc (suc (suc (suc (suc (suc (suc (suc k)))))))) a' b' c' (omega arith) ∙ sym (decode_none (suc (suc (suc (suc (suc (suc (suc (suc k)))))))) a b c (omega arith))

-- No instruction is longer.
pub len_most : (i : Instr) → len i ≤ 4
len_most NONE = omega arith
len_most (LIST n) = omega arith
len_most (LEAVE t d) = omega arith
len_most (ASK n y z) = omega arith
len_most (SELECT n c e) = omega arith
len_most (OPEN f) = omega arith
len_most (END e) = omega arith
len_most (CASE c t d) = omega arith
