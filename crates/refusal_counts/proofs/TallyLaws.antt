-- Laws of what one pass notes of each node: of digits, of one child more, and of the counts that the digits come to.
use Rattle.std.specs.Prelude.{ℕ, zero, suc, ◌+◌, ◌*◌, ◌/◌, ◌%◌, ◌≤◌, ◌<◌, ◌≡◌, ◌≢◌, refl, List, [], ◌∷◌, ◌++◌, Bool, true, false, cond, ◌&&◌, ◌⊎◌, eqb, ltb, length, get_or, set, replicate, min}
use Rattle.std.proofs.Common.{ap, sym, subst, ◌∙◌, ⊎_elim, eq-or-lt_of_le, arith, inl, inr, get_or-set_same, get_or-set_other}
use borrow.Author.Tests.{ne_eqb, eqb-true, eqb-false, lt-leb, lt-ltb, ltb-true}
use native.Mathlib.Nat.{div-div-eq-div-mul}
use Rattle.std.proofs.lemmas.List.{length-append}
use Rattle.std.proofs.Math.Nat.{min-eq_left, zero-div}
use Rattle.base_common.specs.Upto.{upto}
use Rattle.base_common.specs.Tests.{within}
use Rattle.base_common.proofs.UptoLaws.{upto_nil, upto_snoc}
use Rattle.base_walk.proofs.PreorderLaws.{lt_or_ge, no_child}
use Rattle.table_records.specs.Table.{kind_of, parent_of, role_of, count}
use Rattle.table_records.specs.Kinds as k
use Rattle.table_records.specs.Facts.{Tree}
use Rattle.table_children.specs.Children.{keep, children, how_many, is_child}
use Rattle.table_children.proofs.ChildrenLaws.{keep_keep}
use Rattle.refusal_counts.specs.Counts.{is_default, defaults}
use Rattle.refusal_counts.specs.declared.Sort.{Sort}
use Rattle.refusal_counts.specs.declared.Sort.TheVariants.{Value, Key, Held, Alternate, Finally, Handler, Label, FunctionBody, ClassBody, Default}
use Rattle.refusal_counts.proofs.CountsLaws.{outside}
use Rattle.refusal_counts.specs.Tally.{is_of, number, so_far, weight, digit, one_more, Adds, Notes, Tallied}

-- the sorts by number, and powers of 4: their weights
abbrev pub place : Sort → ℕ
place Value = 0
place Key = 1
place Held = 2
place Alternate = 3
place Finally = 4
place Handler = 5
place Label = 6
place FunctionBody = 7
place ClassBody = 8
place Default = 9

power : ℕ → ℕ
power zero = 1
power (suc k) = 4 * power k

place_low : (s : Sort) → place s < 10
place_low Value = omega arith
place_low Key = omega arith
place_low Held = omega arith
place_low Alternate = omega arith
place_low Finally = omega arith
place_low Handler = omega arith
place_low Label = omega arith
place_low FunctionBody = omega arith
place_low ClassBody = omega arith
place_low Default = omega arith

weight_place : (s : Sort) → weight s ≡ power (place s)
unfolding power
weight_place Value = refl
weight_place Key = refl
weight_place Held = refl
weight_place Alternate = refl
weight_place Finally = refl
weight_place Handler = refl
weight_place Label = refl
weight_place FunctionBody = refl
weight_place ClassBody = refl
weight_place Default = refl

-- the digit at a place
at : ℕ → ℕ → ℕ
at j n = n / power j % 4

at_place : (s : Sort) (n : ℕ) → digit n s ≡ at (place s) n
unfolding digit at
at_place s n = ap (λ (w : ℕ). n / w % 4) (weight_place s)

shift : (j n : ℕ) → at (suc j) n ≡ at j (n / 4)
unfolding at power
shift j n = ap (λ (x : ℕ). x % 4) (sym (div-div-eq-div-mul n 4 (power j)))

-- one more at a place: its digit is one more, every other stays, and the number stays below the powers above
at_same : (k n : ℕ) → at k n < 3 → at k (n + power k) ≡ at k n + 1
unfolding at power
at_same zero n h = omega arith
at_same (suc k) n h =
    let e : (n + 4 * power k) / 4 ≡ n / 4 + power k = omega arith in
    let s : at k (n / 4) < 3 = subst (λ (x : ℕ). x < 3) (shift k n) h in
    shift k (n + 4 * power k) ∙ ap (at k) e ∙ at_same k (n / 4) s ∙ ap (λ (x : ℕ). x + 1) (sym (shift k n))

at_other : (j k n : ℕ) → j ≢ k → at k n < 3 → at j (n + power k) ≡ at j n
unfolding at power
at_other zero zero n d h = absurd (d refl)
at_other zero (suc k) n d h = omega arith
at_other (suc j) zero n d h =
    let e : (n + 1) / 4 ≡ n / 4 = omega arith in
    shift j (n + 1) ∙ ap (at j) e ∙ sym (shift j n)
at_other (suc j) (suc k) n d h =
    let e : (n + 4 * power k) / 4 ≡ n / 4 + power k = omega arith in
    let s : at k (n / 4) < 3 = subst (λ (x : ℕ). x < 3) (shift k n) h in
    shift j (n + 4 * power k) ∙ ap (at j) e ∙ at_other j k (n / 4) (λ q. d (ap suc q)) s ∙ sym (shift j n)

at_small : (k m n : ℕ) → k < m → n < power m → at k n < 3 → n + power k < power m
unfolding at power
at_small k zero n l b h = absurd (omega arith)
at_small zero (suc m) n l b h = omega arith
at_small (suc k) (suc m) n l b h =
    let s : at k (n / 4) < 3 = subst (λ (x : ℕ). x < 3) (shift k n) h in
    omega (arith, at_small k m (n / 4) (omega arith) (omega arith) s)

-- one child more, if it is of the sort at a place
more : ℕ → Bool → ℕ → ℕ
more k b n = cond (b && ltb (at k n) 2) (n + power k) n

more_place : (s : Sort) (b : Bool) (n : ℕ) → cond (b && ltb (digit n s) 2) (n + weight s) n ≡ more (place s) b n
unfolding more
more_place s b n = rw (at_place s n, weight_place s)

more_same : (k n : ℕ) (b : Bool) → at k (more k b n) ≡ one_more (at k n) b
unfolding more
more_same k n false = refl
more_same k n true = go (ltb (at k n) 2) refl
  where
    go : (x : Bool) → ltb (at k n) 2 ≡ x → at k (cond x (n + power k) n) ≡ cond x (at k n + 1) (at k n)
    go true e = let h = ltb-true (at k n) 2 e in at_same k n (omega arith)
    go false e = refl

more_other : (j k n : ℕ) (b : Bool) → j ≢ k → at j (more k b n) ≡ at j n
unfolding more
more_other j k n false d = refl
more_other j k n true d = go (ltb (at k n) 2) refl
  where
    go : (x : Bool) → ltb (at k n) 2 ≡ x → at j (cond x (n + power k) n) ≡ at j n
    go true e = let h = ltb-true (at k n) 2 e in at_other j k n d (omega arith)
    go false e = refl

more_small : (k m n : ℕ) (b : Bool) → k < m → n < power m → more k b n < power m
unfolding more
more_small k m n false l h = h
more_small k m n true l h = go (ltb (at k n) 2) refl
  where
    go : (x : Bool) → ltb (at k n) 2 ≡ x → cond x (n + power k) n < power m
    go true e = let u = ltb-true (at k n) 2 e in at_small k m n l h (omega arith)
    go false e = h

-- one child more, by the first k of the tests bs
pub noted : List Bool → ℕ → ℕ → ℕ
noted bs zero n = n
noted bs (suc k) n = more k (get_or bs k false) (noted bs k n)

module _ (bs : List Bool) (n : ℕ) where
  noted_after : (k j : ℕ) → k ≤ j → at j (noted bs k n) ≡ at j n
  unfolding noted
  noted_after zero j h = refl
  noted_after (suc k) j h = more_other j k (noted bs k n) (get_or bs k false) (λ e. omega arith) ∙ noted_after k j (omega arith)

  noted_at : (k j : ℕ) → j < k → at j (noted bs k n) ≡ one_more (at j n) (get_or bs j false)
  unfolding noted
  noted_at zero j h = absurd (omega arith)
  noted_at (suc k) j h =
      ⊎_elim
      (λ (e : j ≡ k). subst (λ (x : ℕ). at x (more k (get_or bs k false) (noted bs k n)) ≡ one_more (at x n) (get_or bs x false)) (sym e)
      (more_same k (noted bs k n) (get_or bs k false) ∙ ap (λ (x : ℕ). one_more x (get_or bs k false)) (noted_after k k (omega arith))))
      (λ (l : j < k). more_other j k (noted bs k n) (get_or bs k false) (λ e. omega arith) ∙ noted_at k j l)
      (eq-or-lt_of_le (omega arith))

  noted_small : (k m : ℕ) → k ≤ m → n < power m → noted bs k n < power m
  unfolding noted
  noted_small zero m l h = h
  noted_small (suc k) m l h = more_small k m (noted bs k n) (get_or bs k false) (omega arith) (noted_small k m (omega arith) h)

top : power 10 ≡ 1048576
unfolding power
top = refl

-- the tests of a child, in the order of the sorts
pub tests : List ℕ → ℕ → ℕ → List Bool
tests ns p c =
    is_of ns p Value c
    ∷ is_of ns p Key c
    ∷ is_of ns p Held c
    ∷ is_of ns p Alternate c
    ∷ is_of ns p Finally c
    ∷ is_of ns p Handler c
    ∷ is_of ns p Label c
    ∷ is_of ns p FunctionBody c
    ∷ is_of ns p ClassBody c
    ∷ is_of ns p Default c
    ∷ []

module _ (ns : List ℕ) (p c : ℕ) where
  test_of : (s : Sort) → get_or (tests ns p c) (place s) false ≡ is_of ns p s c
  unfolding tests
  test_of Value = refl
  test_of Key = refl
  test_of Held = refl
  test_of Alternate = refl
  test_of Finally = refl
  test_of Handler = refl
  test_of Label = refl
  test_of FunctionBody = refl
  test_of ClassBody = refl
  test_of Default = refl

  -- what is noted after the first k of them
  abbrev pub after : ℕ → ℕ → ℕ
  after n k = noted (tests ns p c) k n

  pub none_noted : (n : ℕ) → n ≡ after n 0
  unfolding noted
  none_noted n = refl

  pub one_noted : (n : ℕ) (s : Sort) (m r : ℕ) → m ≡ after n (place s) → r ≡ cond (is_of ns p s c && ltb (digit m s) 2) (m + weight s) m → r ≡ after n (suc (place s))
  unfolding noted
  one_noted n s m r h e = e ∙ more_place s (is_of ns p s c) m ∙ rw (h, ← test_of s)

  pub all_noted : (n r : ℕ) → n < 1048576 → r ≡ after n 10 → Adds ns p c n r
  all_noted n r h e = record {
    small = rw e (omega (arith, top, noted_small (tests ns p c) n 10 10 (omega arith) (omega (arith, top))));
    digits = λ s. rw e (at_place s (after n 10) ∙ noted_at (tests ns p c) n 10 (place s) (place_low s) ∙ rw (test_of s, at_place s n));
  }

-- a child of no sort
module _ (ns : List ℕ) (c : ℕ) (e : role_of ns c ≡ 0) where
  no_role : (p lo hi a b : ℕ) → 0 < a → is_child ns p lo hi a b c ≡ false
  unfolding is_child
  no_role p lo hi a b l = rw (e, lt-leb a 0 l) (go (eqb (parent_of ns c) p) (within (kind_of ns c) lo hi))
    where
      go : (x y : Bool) → (x && (y && false)) ≡ false
      go true true = refl
      go true false = refl
      go false y = refl

  no_kind : (p j : ℕ) → kind_of ns c ≢ j → is_child ns p j j 0 7 c ≡ false
  unfolding is_child
  no_kind p j d = rw (outside (kind_of ns c) j j (λ x y. d (omega arith))) (go (eqb (parent_of ns c) p))
    where
      go : (x : Bool) → (x && false) ≡ false
      go true = refl
      go false = refl

  pub no_sort : kind_of ns c ≢ k.FunctionBody → kind_of ns c ≢ k.ClassBody → (p : ℕ) (s : Sort) → is_of ns p s c ≡ false
  unfolding is_default
  no_sort f g p Value = no_role p 0 55 1 1 (omega arith)
  no_sort f g p Key = no_role p 0 55 2 2 (omega arith)
  no_sort f g p Held = no_role p 0 55 3 3 (omega arith)
  no_sort f g p Alternate = no_role p 0 55 4 4 (omega arith)
  no_sort f g p Finally = no_role p 0 55 5 5 (omega arith)
  no_sort f g p Handler = no_role p 0 55 4 5 (omega arith)
  no_sort f g p Label = no_role p 33 33 6 6 (omega arith)
  no_sort f g p FunctionBody = no_kind p 4 f
  no_sort f g p ClassBody = no_kind p 27 g
  no_sort f g p Default = rw (no_role p 15 15 3 3 (omega arith))

pub plain_adds : (ns : List ℕ) (p c n : ℕ) → n < 1048576 → ((s : Sort) → is_of ns p s c ≡ false) → Adds ns p c n n
plain_adds ns p c n h e = record { small = h; digits = λ s. rw (e s) }

-- what is kept of two lists in a row
keep_append : (q : ℕ → Bool) (l r : List ℕ) → keep q (l ++ r) ≡ keep q l ++ keep q r
unfolding keep
keep_append q [] r = refl
keep_append q (k ∷ l) r = go (q k) (keep_append q l r)
  where
    go : (x : Bool) → keep q (l ++ r) ≡ keep q l ++ keep q r → cond x (k ∷ keep q (l ++ r)) (keep q (l ++ r)) ≡ cond x (k ∷ keep q l) (keep q l) ++ keep q r
    go true e = ap (λ (m : List ℕ). k ∷ m) e
    go false e = e

not_of : (ns : List ℕ) (p : ℕ) (s : Sort) (c : ℕ) → parent_of ns c ≢ p → is_of ns p s c ≡ false
unfolding is_child is_default
not_of ns p Value c d = rw (ne_eqb (parent_of ns c) p d)
not_of ns p Key c d = rw (ne_eqb (parent_of ns c) p d)
not_of ns p Held c d = rw (ne_eqb (parent_of ns c) p d)
not_of ns p Alternate c d = rw (ne_eqb (parent_of ns c) p d)
not_of ns p Finally c d = rw (ne_eqb (parent_of ns c) p d)
not_of ns p Handler c d = rw (ne_eqb (parent_of ns c) p d)
not_of ns p Label c d = rw (ne_eqb (parent_of ns c) p d)
not_of ns p FunctionBody c d = rw (ne_eqb (parent_of ns c) p d)
not_of ns p ClassBody c d = rw (ne_eqb (parent_of ns c) p d)
not_of ns p Default c d = rw (ne_eqb (parent_of ns c) p d)

-- the counts so far, of the nodes below m
module _ (ns : List ℕ) (p : ℕ) (s : Sort) where
  so_far_early : (m : ℕ) → m ≤ p + 1 → so_far ns p s m ≡ 0
  unfolding so_far keep
  so_far_early m h = rw (upto_nil (p + 1) m h)

  so_far_more : (m : ℕ) → p < m → so_far ns p s (m + 1) ≡ so_far ns p s m + cond (is_of ns p s m) 1 0
  unfolding so_far keep
  so_far_more m h =
      rw (upto_snoc (p + 1) m (omega arith), keep_append (is_of ns p s) (upto (p + 1) m) (m ∷ []), length-append (keep (is_of ns p s) (upto (p + 1) m)) (keep (is_of ns p s) (m ∷ [])))
      (ap (λ (x : ℕ). length (keep (is_of ns p s) (upto (p + 1) m)) + x) (go (is_of ns p s m)))
    where
      go : (x : Bool) → length (cond x (m ∷ []) []) ≡ cond x 1 0
      go true = refl
      go false = refl

  so_far_apart : (m : ℕ) → parent_of ns m ≢ p → so_far ns p s (m + 1) ≡ so_far ns p s m
  so_far_apart m d =
      ⊎_elim (λ (h : p < m). so_far_more m h ∙ rw (not_of ns p s m d) (omega arith))
      (λ (h : m ≤ p). so_far_early (m + 1) (omega arith) ∙ sym (so_far_early m (omega arith)))
      (lt_or_ge p m)

  -- past the nodes below p there is none of its children
  so_far_out : Tree ns → (i : ℕ) → p < i → i < count ns → parent_of ns i < p → (f j : ℕ) → i ≤ j → j ≤ count ns → count ns ≤ j + f → so_far ns p s (count ns) ≡ so_far ns p s j
  so_far_out t i h l u zero j x y z = ap (so_far ns p s) (omega arith)
  so_far_out t i h l u (suc f) j x y z =
      ⊎_elim (λ (m : j < count ns). so_far_out t i h l u f (j + 1) (omega arith) (omega arith) (omega arith) ∙ so_far_apart j (λ e. no_child (parent_of ns) (count ns) t.order p i j h u x m e))
      (λ (m : count ns ≤ j). ap (so_far ns p s) (omega arith))
      (lt_or_ge j (count ns))

-- .. and of all nodes
so_far_all : (ns : List ℕ) (p : ℕ) (s : Sort) → so_far ns p s (count ns) ≡ number ns p s
unfolding so_far how_many children is_child defaults
so_far_all ns p Value = sym (ap length (keep_keep _ _ (upto (p + 1) (count ns))))
so_far_all ns p Key = sym (ap length (keep_keep _ _ (upto (p + 1) (count ns))))
so_far_all ns p Held = sym (ap length (keep_keep _ _ (upto (p + 1) (count ns))))
so_far_all ns p Alternate = sym (ap length (keep_keep _ _ (upto (p + 1) (count ns))))
so_far_all ns p Finally = sym (ap length (keep_keep _ _ (upto (p + 1) (count ns))))
so_far_all ns p Handler = sym (ap length (keep_keep _ _ (upto (p + 1) (count ns))))
so_far_all ns p Label = sym (ap length (keep_keep _ _ (upto (p + 1) (count ns))))
so_far_all ns p FunctionBody = sym (ap length (keep_keep _ _ (upto (p + 1) (count ns))))
so_far_all ns p ClassBody = sym (ap length (keep_keep _ _ (upto (p + 1) (count ns))))
so_far_all ns p Default = refl

-- numbers up to 2
two_of : (n : ℕ) → min 2 (suc (suc n)) ≡ 2
two_of n = min-eq_left (omega arith)

up_min : (n : ℕ) (b : Bool) → one_more (min 2 n) b ≡ min 2 (n + cond b 1 0)
up_min zero true = refl
up_min zero false = refl
up_min (suc zero) true = refl
up_min (suc zero) false = refl
up_min (suc (suc n)) true =
    let e : suc (suc n) + 1 ≡ suc (suc (suc n)) = omega arith in
    rw (two_of n, e, two_of (suc n))
up_min (suc (suc n)) false =
    let e : suc (suc n) + 0 ≡ suc (suc n) = omega arith in
    rw (e, two_of n)

one_of : (n : ℕ) → eqb (min 2 n) 1 ≡ eqb n 1
one_of zero = refl
one_of (suc zero) = refl
one_of (suc (suc n)) = rw (two_of n, ne_eqb (suc (suc n)) 1 (λ e. omega arith))

more_of : (n : ℕ) → ltb 1 (min 2 n) ≡ ltb 1 n
more_of zero = refl
more_of (suc zero) = refl
more_of (suc (suc n)) = rw (two_of n, lt-ltb 1 (suc (suc n)) (omega arith))

none_of : (n : ℕ) → eqb (min 2 n) 0 ≡ eqb n 0
none_of zero = refl
none_of (suc zero) = refl
none_of (suc (suc n)) = rw (two_of n, ne_eqb (suc (suc n)) 0 (λ e. omega arith))

-- what a digit says at the end
module _ (ns : List ℕ) (p seen : ℕ) (s : Sort) (w : Notes ns p seen (count ns)) where
  in_all : digit seen s ≡ min 2 (number ns p s)
  in_all = w.digits s ∙ ap (min 2) (so_far_all ns p s)

  pub says_one : eqb (digit seen s) 1 ≡ eqb (number ns p s) 1
  says_one = rw in_all (one_of (number ns p s))

  pub says_more : ltb 1 (digit seen s) ≡ ltb 1 (number ns p s)
  says_more = rw in_all (more_of (number ns p s))

  pub says_none : eqb (digit seen s) 0 ≡ eqb (number ns p s) 0
  says_none = rw in_all (none_of (number ns p s))

-- the array: cleared, and one node more
blank : (s : Sort) → digit 0 s ≡ 0
unfolding digit
blank s = ap (λ (x : ℕ). x % 4) (zero-div (weight s))

zeros : (n k : ℕ) → get_or (replicate {A = ℕ} n 0) k 0 ≡ 0
zeros zero k = refl
zeros (suc n) zero = refl
zeros (suc n) (suc k) = zeros n k

pub tallied_start : (ns : List ℕ) (n : ℕ) → Tallied ns (replicate {A = ℕ} n 0) 1
tallied_start ns n p h = rw (zeros n p) (record { small = omega arith; digits = λ s. rw (blank s, so_far_early ns p s 1 (omega arith)) })

-- what is noted of one node alone: over the nodes behind it, one more, and past those below it
pub notes_start : (ns : List ℕ) (p : ℕ) → Notes ns p 0 (p + 1)
notes_start ns p = record { small = omega arith; digits = λ s. rw (blank s, so_far_early ns p s (p + 1) (omega arith)) }

pub notes_more : (ns : List ℕ) (p c seen after : ℕ) → p < c → Notes ns p seen c → Adds ns p c seen after → Notes ns p after (c + 1)
notes_more ns p c seen after h w d = record {
  small = d.small;
  digits = λ s. d.digits s ∙ rw (w.digits s, so_far_more ns p s c h) (up_min (so_far ns p s c) (is_of ns p s c));
}

pub notes_out : (ns : List ℕ) → Tree ns → (p i seen : ℕ) → p < i → i < count ns → parent_of ns i < p → Notes ns p seen i → Notes ns p seen (count ns)
notes_out ns t p i seen h l u w = record {
  small = w.small;
  digits = λ s. w.digits s ∙ ap (min 2) (sym (so_far_out ns p s t i h l u (count ns) i (omega arith) (omega arith) (omega arith)));
}

same_or_not : (a b : ℕ) → (a ≡ b) ⊎ (a ≢ b)
same_or_not a b = go (eqb a b) refl
  where
    go : (x : Bool) → eqb a b ≡ x → (a ≡ b) ⊎ (a ≢ b)
    go true e = inl (eqb-true a b e)
    go false e = inr (eqb-false a b e)

module _ (ns seen : List ℕ) (c q after : ℕ) (e : q ≡ parent_of ns c) (w : Tallied ns seen c) (d : Adds ns q c (get_or seen q 0) after) where
  here : q < c → q < count ns → q < length seen → Notes ns q (get_or (set seen q after) q 0) (c + 1)
  here f b l =
      rw (get_or-set_same seen q after 0 l) (record {
        small = d.small;
        digits = λ s. d.digits s ∙ rw ((w q b).digits s, so_far_more ns q s c f) (up_min (so_far ns q s c) (is_of ns q s c));
      })

  there : (p : ℕ) → p < count ns → q ≢ p → Notes ns p (get_or (set seen q after) p 0) (c + 1)
  there p h n =
      rw (get_or-set_other seen q p after 0 (λ x. n (sym x))) (record {
        small = (w p h).small;
        digits = λ s. (w p h).digits s ∙ rw (so_far_apart ns p s c (λ x. n (e ∙ x)));
      })

  pub tallied_more : Tree ns → count ns ≤ length seen → 0 < c → c < count ns → Tallied ns (set seen q after) (c + 1)
  tallied_more t room from below p h =
      ⊎_elim (λ (u : q ≡ p). subst (λ (x : ℕ). Notes ns x (get_or (set seen q after) x 0) (c + 1)) u (here (omega (arith, falls)) (omega (arith, falls)) (omega (arith, falls))))
      (λ (n : q ≢ p). there p h n)
      (same_or_not q p)
    where
      falls : q < c
      falls = omega (arith, e, t.falls c from below)
