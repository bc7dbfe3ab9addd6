-- What tests say of their parts: of a chain of `||` that says false, each part says false.
use Rattle.std.specs.Prelude.{ℕ, ◌≤◌, ◌≡◌, refl, Bool, true, false, not, ◌&&◌, ◌||◌, ◌⊎◌, leb}
use Rattle.std.proofs.Common.{sym, inl, inr, arith, le-leb, leb-true}
use Rattle.std.proofs.lemmas.Bool.{not-false}
use Rattle.base_common.specs.Tests.{within}
use Rattle.base_common.proofs.UptoLaws.{and_left_lem, and_right_lem}

pub never : {A : Type 0} → true ≡ false → A
never q = let z : ◌≡◌ {A = ℕ} 0 1 = cc in absurd (omega arith)

pub or_first : (a b : Bool) → (a || b) ≡ false → a ≡ false
or_first true b e = never e
or_first false b e = refl

pub or_second : (a b : Bool) → (a || b) ≡ false → b ≡ false
or_second true b e = never e
or_second false b e = e

pub or3 : (a b c : Bool) → (a || (b || c)) ≡ false → (a ≡ false) × (b ≡ false) × (c ≡ false)
or3 a b c e =
    let r = or_second a (b || c) e in
    (or_first a (b || c) e, or_first b c r, or_second b c r)

pub or4 : (a b c d : Bool) → (a || (b || (c || d))) ≡ false → (a ≡ false) × (b ≡ false) × (c ≡ false) × (d ≡ false)
or4 a b c d e =
    let r = or3 b c d (or_second a (b || (c || d)) e) in
    (or_first a (b || (c || d)) e, r.0, r.1, r.2)

pub or5 : (a b c d f : Bool) → (a || (b || (c || (d || f)))) ≡ false → (a ≡ false) × (b ≡ false) × (c ≡ false) × (d ≡ false) × (f ≡ false)
or5 a b c d f e =
    let r = or4 b c d f (or_second a (b || (c || (d || f))) e) in
    (or_first a (b || (c || (d || f))) e, r.0, r.1, r.2, r.3)

-- a test of one part or the other that says true
pub either : (a b : Bool) → (a || b) ≡ true → (a ≡ true) ⊎ (b ≡ true)
either true b e = inl refl
either false b e = inr e

-- where "a but not b" says false, b follows from a
pub but : (a b : Bool) → (a && not b) ≡ false → a ≡ true → b ≡ true
but true b e q = not-false b e
but false b e q = never (sym q)

pub in_range_lem : (a lo hi : ℕ) → lo ≤ a → a ≤ hi → within a lo hi ≡ true
in_range_lem a lo hi p q = rw (le-leb lo a p, le-leb a hi q)

pub range_of : (a lo hi : ℕ) → within a lo hi ≡ true → (lo ≤ a) × (a ≤ hi)
range_of a lo hi e = (leb-true lo a (and_left_lem (leb lo a) (leb a hi) e), leb-true a hi (and_right_lem (leb lo a) (leb a hi) e))
