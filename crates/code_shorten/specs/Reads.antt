-- What the machine fetches from a flat list of instructions, where one begins.
use Rattle.std.specs.Prelude.{ℕ, ◌+◌, ◌≡◌, refl, Bool, true, false, List, [], ◌∷◌, eqb}
use Rattle.std.proofs.Common.{subst, true≢false, eqb-true, arith}
use Rattle.route_completion.specs.Sem.{pick}
use Rattle.code_flat.specs.Machine.{Instr, NONE, LIST, LEAVE, ASK, SELECT, OPEN, END, CASE, fetch}
use Rattle.code_flat.specs.Machine.{is_none}
use Rattle.code_flat.proofs.Correct.{has_left, has_right, has_self}
use Rattle.code_flat.specs.Has.{Has}
use Rattle.code_valid.specs.Instrs.{len, words, flat, find}
use Rattle.code_shorten.specs.Longer.{words_length}

fetch_has : (C : List ℕ) (o : ℕ) (i : Instr) → is_none i ≡ false → Has C o (words i) → fetch C o ≡ i
unfolding fetch
fetch_has C o NONE n h = absurd (true≢false n)
fetch_has C o (LIST a) n h = rw (h.0, h.1.0)
fetch_has C o (LEAVE t d) n h = rw (h.0, h.1.0, h.1.1.0)
fetch_has C o (ASK a y z) n h = rw (h.0, h.1.0, h.1.1.0, h.1.1.1.0)
fetch_has C o (SELECT a c e) n h = rw (h.0, h.1.0, h.1.1.0, h.1.1.1.0)
fetch_has C o (OPEN f) n h = rw (h.0, h.1.0)
fetch_has C o (END e) n h = rw (h.0, h.1.0)
fetch_has C o (CASE c t d) n h = rw (h.0, h.1.0, h.1.1.0, h.1.1.1.0)

pub find_has : (C : List ℕ) (is : List Instr) (p o : ℕ) → Has C p (flat is) → is_none (find is p o) ≡ false → Has C o (words (find is p o))
unfolding flat find
find_has C [] p o h n = absurd (true≢false n)
find_has C (i ∷ is) p o h n =
    go (eqb p o) refl n (find_has C is (p + len i) o (has_right C p (words i) (flat is) (p + len i) (omega (arith, words_length i)) h))
  where
    go : (b : Bool) → eqb p o ≡ b → is_none (pick b i (find is (p + len i) o)) ≡ false
        → (is_none (find is (p + len i) o) ≡ false → Has C o (words (find is (p + len i) o))) → Has C o (words (pick b i (find is (p + len i) o)))
    go true e m f = subst (λ x. Has C x (words i)) (eqb-true p o e) (has_left C p (words i) (flat is) h)
    go false e m f = f m

-- An instruction that begins at o is fetched there.
pub fetched : (is : List Instr) (o : ℕ) → is_none (find is 0 o) ≡ false → fetch (flat is) o ≡ find is 0 o
fetched is o n = fetch_has (flat is) o (find is 0 o) n (find_has (flat is) is 0 o (has_self (flat is)) n)
