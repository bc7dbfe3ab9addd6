-- The pass never lengthens code, whatever list of numbers it is.
use Rattle.std.specs.Prelude.{ℕ, zero, suc, ◌+◌, ◌≤◌, ◌≡◌, refl, Bool, true, false, List, [], ◌∷◌, map, length, Option, Some, None}
use Rattle.std.proofs.Common.{length-append, arith}
use Rattle.route_completion.specs.Sem.{pick, elem}
use Rattle.code_flat.specs.Machine.{Instr, NONE, LIST, LEAVE, ASK, SELECT, OPEN, END, CASE}
use Rattle.code_valid.specs.Instrs.{len, words, flat, parse}
use Rattle.code_machine.specs.declared.Target.{Target}
use Rattle.code_shorten.specs.Short.{aimed, last, thread, threaded, reached, relocate, moved, kept, close_up, closed_up, shorter}

pub words_length : (i : Instr) → length (words i) ≡ len i
words_length NONE = refl
words_length (LIST n) = refl
words_length (LEAVE t d) = refl
words_length (ASK n y z) = refl
words_length (SELECT n c e) = refl
words_length (OPEN f) = refl
words_length (END e) = refl
words_length (CASE c t d) = refl

pub relocate_length : (φ : ℕ → ℕ) (i : Instr) → len (relocate φ i) ≡ len i
relocate_length φ NONE = refl
relocate_length φ (LIST n) = refl
relocate_length φ (LEAVE t d) = refl
relocate_length φ (ASK n y z) = refl
relocate_length φ (SELECT n c e) = refl
relocate_length φ (OPEN f) = refl
relocate_length φ (END e) = refl
relocate_length φ (CASE c t d) = refl

pub thread_length : (is : List Instr) (i : Instr) → len (thread is i) ≡ len i
thread_length is NONE = refl
thread_length is (LIST n) = refl
thread_length is (LEAVE t d) = go (last is (suc (length is)) t d)
  where
    go : (a : Option Target) → len (aimed a LEAVE (LEAVE t d)) ≡ 3
    go None = refl
    go (Some aim) = refl
thread_length is (ASK n y z) = refl
thread_length is (SELECT n c e) = refl
thread_length is (OPEN f) = refl
thread_length is (END e) = refl
thread_length is (CASE c t d) = go (last is (suc (length is)) t d)
  where
    go : (a : Option Target) → len (aimed a (CASE c) (CASE c t d)) ≡ 4
    go None = refl
    go (Some aim) = refl

unfoldable pub total : List Instr → ℕ
total [] = 0
total (i ∷ is) = len i + total is

pub flat_length : (is : List Instr) → length (flat is) ≡ total is
unfolding flat total
flat_length [] = refl
flat_length (i ∷ is) = simp length-append (omega (arith, words_length i, flat_length is))

pub map_length : (all is : List Instr) → total (map (thread all) is) ≡ total is
unfolding total
map_length all [] = refl
map_length all (i ∷ is) = omega (arith, thread_length all i, map_length all is)

pub kept_length : (φ : ℕ → ℕ) (S : List ℕ) (is : List Instr) (p : ℕ) → total (kept φ S is p) ≤ total is
unfolding kept total
kept_length φ S [] p = omega arith
kept_length φ S (i ∷ is) p = go (elem p S) (kept_length φ S is (p + len i))
  where
    go : (b : Bool) → total (kept φ S is (p + len i)) ≤ total is
        → total (pick b (relocate φ i ∷ kept φ S is (p + len i)) (kept φ S is (p + len i))) ≤ len i + total is
    go true h = omega (arith, relocate_length φ i)
    go false h = omega arith

pub parse_length : (C : List ℕ) → total (parse C) ≤ length C
unfolding parse total
parse_length [] = omega arith
parse_length (zero ∷ C) = omega arith
parse_length (suc zero ∷ []) = omega arith
parse_length (suc zero ∷ n ∷ C) = omega (arith, parse_length C)
parse_length (suc (suc zero) ∷ []) = omega arith
parse_length (suc (suc zero) ∷ t ∷ []) = omega arith
parse_length (suc (suc zero) ∷ t ∷ d ∷ C) = omega (arith, parse_length C)
parse_length (suc (suc (suc zero)) ∷ []) = omega arith
parse_length (suc (suc (suc zero)) ∷ n ∷ []) = omega arith
parse_length (suc (suc (suc zero)) ∷ n ∷ y ∷ []) = omega arith
parse_length (suc (suc (suc zero)) ∷ n ∷ y ∷ z ∷ C) = omega (arith, parse_length C)
parse_length (suc (suc (suc (suc zero))) ∷ []) = omega arith
parse_length (suc (suc (suc (suc zero))) ∷ n ∷ []) = omega arith
parse_length (suc (suc (suc (suc zero))) ∷ n ∷ c ∷ []) = omega arith
parse_length (suc (suc (suc (suc zero))) ∷ n ∷ c ∷ e ∷ C) = omega (arith, parse_length C)
parse_length (suc (suc (suc (suc (suc zero)))) ∷ []) = omega arith
parse_length (suc (suc (suc (suc (suc zero)))) ∷ f ∷ C) = omega (arith, parse_length C)
parse_length (suc (suc (suc (suc (suc (suc zero))))) ∷ []) = omega arith
parse_length (suc (suc (suc (suc (suc (suc zero))))) ∷ e ∷ C) = omega (arith, parse_length C)
parse_length (suc (suc (suc (suc (suc (suc (suc zero)))))) ∷ []) = omega arith
parse_length (suc (suc (suc (suc (suc (suc (suc zero)))))) ∷ c ∷ []) = omega arith
parse_length (suc (suc (suc (suc (suc (suc (suc zero)))))) ∷ c ∷ t ∷ []) = omega arith
parse_length (suc (suc (suc (suc (suc (suc (suc zero)))))) ∷ c ∷ t ∷ d ∷ C) = omega (arith, parse_length C)
parse_length (suc (suc (suc (suc (suc (suc (suc (suc k))))))) ∷ C) = omega arith

pub never_longer : (C : List ℕ) → length (shorter C) ≤ length C
unfolding shorter threaded close_up
never_longer C =
    let T : List Instr = map (thread (parse C)) (parse C) in
    omega (arith, flat_length (closed_up T), kept_length (moved (reached T) T 0 0) (reached T) T 0, map_length (parse C) (parse C), parse_length C)
