-- What a node's words say of the whole code.
use Rattle.std.specs.Prelude.{◌≤◌, refl, ◌⊎◌, set}
use Rattle.std.proofs.Common.{length-set, get_or-set_same, get_or-set_other, eq-or-lt_of_le}
use Rattle.std.specs.Prelude.{ℕ, zero, suc, ◌+◌, ◌-◌, ◌<◌, ◌≡◌, List, [], ◌∷◌, length, get_or}
use Rattle.std.proofs.Common.{ap, sym, ◌∙◌, subst, inl, inr, ext_get_or, add-zero, arith}
use Rattle.std.proofs.Math.Decide.{dec_lt}
use Rattle.code_flat.specs.Has.{Has}
use Rattle.code_put.specs.Put.{Put, Done}

-- What stands somewhere, read number by number.
has_at : (C : List ℕ) (o : ℕ) (l : List ℕ) (i : ℕ) → Has C o l → i < length l → get_or C (o + i) 0 ≡ get_or l i 0
has_at C o [] i p q = absurd (omega arith)
has_at C o (x ∷ l) zero p q = ap (λ k. get_or C k 0) (add-zero o) ∙ p.0
has_at C o (x ∷ l) (suc i) p q = ap (λ k. get_or C k 0) (let e : o + suc i ≡ suc o + i = omega arith in e) ∙ has_at C (suc o) l i p.1 (omega arith)

-- Words that the whole code has at o are written there: what was done stays done, and these entries are. No disjointness is asked for.
module _ (whole f g : List ℕ) (o n : ℕ) (words l : List ℕ) (e : length l ≡ n) (w : (k : ℕ) → k < n → get_or words k 0 ≡ get_or l k 0) (h : Has whole o l) (p : Put f o words n g) where
  pub put_done : (k : ℕ) → k < n → Done whole g (o + k)
  put_done k q = p.here k q ∙ w k q ∙ sym (has_at whole o l k h (omega arith))

  pub put_keeps : (x : ℕ) → Done whole f x → Done whole g x
  put_keeps x d = go (dec_lt x o) (dec_lt x (o + n))
    where
      go : Dec (x < o) → Dec (x < o + n) → Done whole g x
      go (yes a) c = p.elsewhere x (inl a) ∙ d
      go (no a) (yes c) = subst (Done whole g) (let z : o + (x - o) ≡ x = omega arith in z) (put_done (x - o) (omega arith))
      go (no a) (no c) = p.elsewhere x (inr (omega arith)) ∙ d

-- Where every entry is done, it is the whole code.
pub all_done : (whole g : List ℕ) → length g ≡ length whole → ((x : ℕ) → x < length g → Done whole g x) → g ≡ whole
all_done whole g e d = ext_get_or 0 g whole e d

module _ (f : List ℕ) (o : ℕ) (words : List ℕ) where
  pub put_start : Put f o words 0 f
  put_start = record { same = refl; here = λ k l. absurd (omega arith); elsewhere = λ x l. refl }

  pub put_turn : (i : ℕ) (g : List ℕ) → o + i < length g → Put f o words i g → Put f o words (i + 1) (set g (o + i) (get_or words i 0))
  put_turn i g l p =
      record {
        same = length-set g (o + i) (get_or words i 0) ∙ p.same;
        here = λ k m. inside k (eq-or-lt_of_le {n = suc k} {m = i + 1} m);
        elsewhere = λ x m. outside x m;
      }
    where
      inside : (k : ℕ) → (suc k ≡ i + 1) ⊎ (suc k < i + 1) → get_or (set g (o + i) (get_or words i 0)) (o + k) 0 ≡ get_or words k 0
      inside k (inl q) = subst (λ j. get_or (set g (o + i) (get_or words i 0)) (o + j) 0 ≡ get_or words j 0) (let z : i ≡ k = omega arith in z) (get_or-set_same g (o + i) (get_or words i 0) 0 l)
      inside k (inr q) = get_or-set_other g (o + i) (o + k) (get_or words i 0) 0 (λ z. omega arith) ∙ p.here k (omega arith)

      outside : (x : ℕ) → (x < o) ⊎ (o + (i + 1) ≤ x) → get_or (set g (o + i) (get_or words i 0)) x 0 ≡ get_or f x 0
      outside x (inl q) = get_or-set_other g (o + i) x (get_or words i 0) 0 (λ z. omega arith) ∙ p.elsewhere x (inl q)
      outside x (inr q) = get_or-set_other g (o + i) x (get_or words i 0) 0 (λ z. omega arith) ∙ p.elsewhere x (inr (omega arith))
