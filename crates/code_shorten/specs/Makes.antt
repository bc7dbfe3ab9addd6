-- The code of a unit is a list of instructions that lead to one another: pieces, and how they are put together.
use Rattle.std.specs.Prelude.{ℕ, ◌+◌, ◌≡◌, refl, Bool, true, false, not, ◌&&◌, ◌||◌, List, [], ◌∷◌, ◌++◌, length, eqb, Ok, Err}
use Rattle.std.proofs.Common.{sym, ◌∙◌, ap, subst, true≢false, append_assoc, eq-eqb, arith}
use Rattle.route_completion.specs.Sem.{pick}
use Rattle.code_flat.specs.Machine.{Instr, NONE, LIST, LEAVE, ASK, SELECT, OPEN, END, CASE}
use Rattle.code_flat.specs.Machine.{is_none}
use Rattle.code_valid.specs.Instrs.{len, words, flat, parse, begins, names, runs_on}
use Rattle.code_valid.specs.Valid.{all_begin, is_last, first_bad, judge, check, Valid}
use Rattle.code_shorten.specs.Longer.{total, flat_length}
use Rattle.code_shorten.specs.Sound.{AreInstrs, All}

abbrev pub Yes : (ℕ → Bool) → ℕ → Type 0
Yes P x = P x ≡ true

-- Each is an instruction that names places of P, and the last doesn't run on.
abbrev pub Fine : (ℕ → Bool) → List Instr → Type 0
Fine P [] = Unit {0}
Fine P (i ∷ is) = (is_none i ≡ false) × All (Yes P) (names i) × (runs_on i ≡ true → is_last is ≡ false) × Fine P is

-- P holds all places of the list, which begins at o.
abbrev pub Holds : (ℕ → Bool) → List Instr → ℕ → Type 0
Holds P is o = (x : ℕ) → begins is o x ≡ true → P x ≡ true

not_last : (a b : List Instr) → is_last a ≡ false → is_last (a ++ b) ≡ false
not_last [] b h = absurd (true≢false h)
not_last (i ∷ a) b h = refl

pub fine_join : (P : ℕ → Bool) (a b : List Instr) → Fine P a → Fine P b → Fine P (a ++ b)
fine_join P [] b f g = g
fine_join P (i ∷ a) b f g = (f.0, f.1, (λ r. not_last a b (f.2 r)), fine_join P a b f.3 g)

pub flat_join : (a b : List Instr) → flat (a ++ b) ≡ flat a ++ flat b
unfolding flat
flat_join [] b = refl
flat_join (i ∷ a) b = ap (λ l. words i ++ l) (flat_join a b) ∙ sym (append_assoc (words i) (flat a) (flat b))

or_left : (a b : Bool) → a ≡ true → (a || b) ≡ true
or_left true b h = refl
or_left false b h = absurd (true≢false (sym h))

or_right : (a b : Bool) → b ≡ true → (a || b) ≡ true
or_right true b h = refl
or_right false b h = h

pub here : (i : Instr) (is : List Instr) (o : ℕ) → is_none i ≡ false → begins (i ∷ is) o o ≡ true
unfolding begins
here i is o n = or_left (eqb o o && not (is_none i)) (begins is (o + len i) o) (ap (λ b. b && not (is_none i)) (eq-eqb o o refl) ∙ ap not n)

pub there : (i : Instr) (is : List Instr) (o x : ℕ) → begins is (o + len i) x ≡ true → begins (i ∷ is) o x ≡ true
unfolding begins
there i is o x h = or_right (eqb o x && not (is_none i)) (begins is (o + len i) x) h

pub in_left : (a b : List Instr) (o x : ℕ) → begins a o x ≡ true → begins (a ++ b) o x ≡ true
unfolding begins
in_left [] b o x h = absurd (true≢false (sym h))
in_left (i ∷ a) b o x h = go (eqb o x && not (is_none i)) h (in_left a b (o + len i) x)
  where
    go : (t : Bool) → (t || begins a (o + len i) x) ≡ true → (begins a (o + len i) x ≡ true → begins (a ++ b) (o + len i) x ≡ true) → (t || begins (a ++ b) (o + len i) x) ≡ true
    go true e f = refl
    go false e f = f e

pub in_right : (a b : List Instr) (o m x : ℕ) → m ≡ o + total a → begins b m x ≡ true → begins (a ++ b) o x ≡ true
unfolding begins total
in_right [] b o m x e h = let q : m ≡ o = omega arith in subst (λ y. begins b y x ≡ true) q h
in_right (i ∷ a) b o m x e h = or_right (eqb o x && not (is_none i)) (begins (a ++ b) (o + len i) x) (in_right a b (o + len i) m x (omega arith) h)

pub some : (is : List Instr) (o x : ℕ) → begins is o x ≡ true → is_last is ≡ false
unfolding begins
some [] o x h = absurd (true≢false (sym h))
some (i ∷ is) o x h = refl

pub total_of : (is : List Instr) (w : List ℕ) (n : ℕ) → flat is ≡ w → length w ≡ n → total is ≡ n
total_of is w n e h = sym (flat_length is) ∙ ap length e ∙ h

pub fine_some : (P : ℕ → Bool) (is : List Instr) → Fine P is → AreInstrs is
fine_some P [] f = tt
fine_some P (i ∷ is) f = (f.0, fine_some P is f.3)

-- The numbers of instructions read as these.
pub parse_flat : (is : List Instr) → AreInstrs is → parse (flat is) ≡ is
unfolding parse flat
parse_flat [] s = refl
parse_flat (NONE ∷ is) s = absurd (true≢false s.0)
parse_flat (LIST n ∷ is) s = ap (λ l. LIST n ∷ l) (parse_flat is s.1)
parse_flat (LEAVE t d ∷ is) s = ap (λ l. LEAVE t d ∷ l) (parse_flat is s.1)
parse_flat (ASK n y z ∷ is) s = ap (λ l. ASK n y z ∷ l) (parse_flat is s.1)
parse_flat (SELECT n c e ∷ is) s = ap (λ l. SELECT n c e ∷ l) (parse_flat is s.1)
parse_flat (OPEN f ∷ is) s = ap (λ l. OPEN f ∷ l) (parse_flat is s.1)
parse_flat (END e ∷ is) s = ap (λ l. END e ∷ l) (parse_flat is s.1)
parse_flat (CASE c t d ∷ is) s = ap (λ l. CASE c t d ∷ l) (parse_flat is s.1)

-- A fine list is judged good.
and_both : (a b : Bool) → a ≡ true → b ≡ true → (a && b) ≡ true
and_both true b h k = k
and_both false b h k = absurd (true≢false (sym h))

all_begins : (all : List Instr) (xs : List ℕ) → All (Yes (begins all 0)) xs → all_begin all xs ≡ true
unfolding all_begin
all_begins all [] a = refl
all_begins all (x ∷ xs) a = and_both (begins all 0 x) (all_begin all xs) a.0 (all_begins all xs a.1)

fine_good : (all is : List Instr) (p : ℕ) → Fine (begins all 0) is → first_bad all is p ≡ Ok tt
unfolding first_bad
fine_good all [] p f = refl
fine_good all (i ∷ is) p f =
    ap (λ b. pick b (first_bad all is (p + len i)) (Err p))
    (and_both (not (is_none i)) (all_begin all (names i) && not (runs_on i && is_last is)) (ap not f.0)
    (and_both (all_begin all (names i)) (not (runs_on i && is_last is)) (all_begins all (names i) f.1) (go (runs_on i) f.2)))
    ∙ fine_good all is (p + len i) f.3
  where
    go : (r : Bool) → (r ≡ true → is_last is ≡ false) → not (r && is_last is) ≡ true
    go true h = ap not (h refl)
    go false h = refl

pub fine_valid : (is : List Instr) → is_last is ≡ false → Fine (begins is 0) is → Valid (flat is)
unfolding check
fine_valid [] n f = absurd (true≢false n)
fine_valid (i ∷ is) n f = ap judge (parse_flat (i ∷ is) (fine_some (begins (i ∷ is) 0) (i ∷ is) f)) ∙ fine_good (i ∷ is) (i ∷ is) 0 f
