-- Laws of children: membership, the interval of p, counts and searches as a loop meets them.
use Rattle.table_records.specs.declared.NodeId.{NodeId}
use Prim.Native.Nat.{ℕ, zero, suc, ◌+◌, ◌≤◌, ◌<◌}
use Rattle.std.specs.Prelude.{◌≡◌, List, [], ◌∷◌, Bool, ◌&&◌, ◌||◌, ◌⊎◌, ◌↔◌, leb, ltb, Option, Some, None}
use Rattle.std.proofs.Math.Path.{refl, sym, subst}
use Rattle.std.proofs.Common.{ap, ◌∙◌, inl, inr, eq-or-lt_of_le}
use Rattle.std.proofs.Math.Bool.{true, false, cond}
use Rattle.std.proofs.Math.Logic.{⊎_elim}
use native.Mathlib.Omega.{arith}
use mir.Val.{bool_byte}
use borrow.Author.Tests.{eq-eqb, ne_eqb, eqb-true, eqb-false, leb-true, ltb-false}
use Rattle.std.proofs.Math.Dec.{eqb}
use Rattle.std.proofs.Math.ListN.{length}
use Rattle.base_common.specs.Upto.{upto}
use Rattle.base_common.proofs.UptoLaws.{upto_nil, upto_cons, and_left_lem, and_right_lem, fold_turn, fold_end}
use Rattle.base_common.specs.Tests.{within}
use Rattle.base_common.proofs.Bools.{never}
use Rattle.base_walk.specs.On.{member, on}
use Rattle.base_walk.proofs.PreorderLaws.{child_in, no_child, lt_or_ge}
use Rattle.table_records.specs.Table.{kind_of, role_of, parent_of, count}
use Rattle.table_records.specs.Facts.{Tree}
use Rattle.table_children.specs.Children.{keep, children, fits, how_many, is_child, first_node, next_child}

le_or_lt : (a b : ℕ) → (a ≤ b) ⊎ (b < a)
le_or_lt a b = ⊎_elim (λ (h : b < a). inr h) (λ (h : a ≤ b). inl h) (lt_or_ge b a)

-- a test, as the number that it adds to a count
pub one_more : (b : Bool) → (bool_byte b ≡ cond b 1 0) × (bool_byte b ≤ 1)
one_more true = (refl, omega arith)
one_more false = (refl, omega arith)

-- the test of one node, and the count from a node on
unfoldable pub tally : List ℕ → ℕ → ℕ → ℕ → ℕ → ℕ → ℕ → ℕ
tally ns p lo hi a b i = length (keep (is_child ns p lo hi a b) (upto i (count ns)))

-- what is kept of the numbers from i up to n
module _ (q : ℕ → Bool) (n : ℕ) where
  kept : (f i k : ℕ) → n ≤ i + f → member k (keep q (upto i n)) ≡ true → (i ≤ k) × (k < n) × (q k ≡ true)
  unfolding keep
  kept zero i k hf e = never (sym e ∙ rw (upto_nil i n (omega arith)))
  kept (suc f) i k hf e =
      ⊎_elim (λ (h : n ≤ i). never (sym e ∙ rw (upto_nil i n h)))
      (λ (h : i < n). go h (q i) refl (rw (upto_cons i n h) at e) (λ m. kept f (i + 1) k (omega arith) m)) (le_or_lt n i)
    where
      go : i < n → (x : Bool) → q i ≡ x → member k (cond (q i) (i ∷ keep q (upto (i + 1) n)) (keep q (upto (i + 1) n))) ≡ true
          → (member k (keep q (upto (i + 1) n)) ≡ true → (i + 1 ≤ k) × (k < n) × (q k ≡ true)) → (i ≤ k) × (k < n) × (q k ≡ true)
      go h true x m r = hit (eqb k i) refl (rw x at m)
        where
          hit : (y : Bool) → eqb k i ≡ y → (eqb k i || member k (keep q (upto (i + 1) n))) ≡ true → (i ≤ k) × (k < n) × (q k ≡ true)
          hit true y z = let u = eqb-true k i y in (omega arith, omega arith, subst (λ (j : ℕ). q j ≡ true) (sym u) x)
          hit false y z = let w = r (rw y at z) in (omega arith, w.1, w.2)
      go h false x m r = let w = r (rw x at m) in (omega arith, w.1, w.2)

  keeps : (f i k : ℕ) → n ≤ i + f → i ≤ k → k < n → q k ≡ true → member k (keep q (upto i n)) ≡ true
  unfolding keep
  keeps zero i k hf a b e = absurd (omega arith)
  keeps (suc f) i k hf a b e = rw (upto_cons i n (omega arith)) (go (q i) refl (λ h. keeps f (i + 1) k (omega arith) h b e))
    where
      go : (x : Bool) → q i ≡ x → (i + 1 ≤ k → member k (keep q (upto (i + 1) n)) ≡ true) → member k (cond (q i) (i ∷ keep q (upto (i + 1) n)) (keep q (upto (i + 1) n))) ≡ true
      go true x r = rw x (hit (eqb k i) refl)
        where
          hit : (y : Bool) → eqb k i ≡ y → (eqb k i || member k (keep q (upto (i + 1) n))) ≡ true
          hit true y = rw y
          hit false y = let ne = eqb-false k i y in rw y (⊎_elim (λ (u : i ≡ k). absurd (ne (sym u))) (λ (u : i < k). r (omega arith)) (eq-or-lt_of_le a))
      go false x r = rw x (⊎_elim (λ (u : i ≡ k). never (sym e ∙ subst (λ (j : ℕ). q j ≡ false) u x)) (λ (u : i < k). r (omega arith)) (eq-or-lt_of_le a))

-- THE CHILDREN OF p: the nodes after it whose parent it is
pub child_of : (ns : List ℕ) (p k : ℕ) → (member k (children ns p) ≡ true) ↔ ((p < k) × (k < count ns) × (parent_of ns k ≡ p))
unfolding children
child_of ns p k = (to, from)
  where
    to : member k (keep (λ j. eqb (parent_of ns j) p) (upto (p + 1) (count ns))) ≡ true → (p < k) × (k < count ns) × (parent_of ns k ≡ p)
    to e = let w = kept (λ j. eqb (parent_of ns j) p) (count ns) (count ns) (p + 1) k (omega arith) e in (omega arith, w.1, eqb-true (parent_of ns k) p w.2)

    from : (p < k) × (k < count ns) × (parent_of ns k ≡ p) → member k (keep (λ j. eqb (parent_of ns j) p) (upto (p + 1) (count ns))) ≡ true
    from w = keeps (λ j. eqb (parent_of ns j) p) (count ns) (count ns) (p + 1) k (omega arith) (omega arith) w.1 (eq-eqb (parent_of ns k) p w.2)

-- they are below p
pub child_on : (ns : List ℕ) → Tree ns → (p k : ℕ) → member k (children ns p) ≡ true → on (parent_of ns) p k ≡ true
child_on ns t p k e =
    let w = (child_of ns p k).0 e in
    child_in (parent_of ns) (count ns) t.order p k k (omega arith) w.1 w.2 (omega arith) (omega arith)

pub keep_keep : (t q : ℕ → Bool) (l : List ℕ) → keep t (keep q l) ≡ keep (λ k. q k && t k) l
unfolding keep
keep_keep t q [] = refl
keep_keep t q (k ∷ l) = go (q k) refl (keep_keep t q l)
  where
    go : (x : Bool) → q k ≡ x → keep t (keep q l) ≡ keep (λ k. q k && t k) l → keep t (cond (q k) (k ∷ keep q l) (keep q l)) ≡ cond (q k && t k) (k ∷ keep (λ k. q k && t k) l) (keep (λ k. q k && t k) l)
    go true e h = rw (e, h)
    go false e h = rw e h

module _ (ns : List ℕ) (p lo hi a b : ℕ) where
  pub tally_all : tally ns p lo hi a b (p + 1) ≡ how_many ns p lo hi a b
  unfolding tally how_many children is_child
  tally_all = sym (ap length (keep_keep _ _ (upto (p + 1) (count ns))))

  pub tally_turn : (i : ℕ) → i < count ns → tally ns p lo hi a b i ≡ cond (is_child ns p lo hi a b i) 1 0 + tally ns p lo hi a b (i + 1)
  unfolding tally keep
  tally_turn i h = rw (upto_cons i (count ns) h) (go (is_child ns p lo hi a b i))
    where
      go : (x : Bool) → length (cond x (i ∷ keep (is_child ns p lo hi a b) (upto (i + 1) (count ns))) (keep (is_child ns p lo hi a b) (upto (i + 1) (count ns))))
          ≡ cond x 1 0 + length (keep (is_child ns p lo hi a b) (upto (i + 1) (count ns)))
      go true = omega arith
      go false = omega arith

  pub tally_end : (i : ℕ) → count ns ≤ i → tally ns p lo hi a b i ≡ 0
  unfolding tally keep
  tally_end i h = rw (upto_nil i (count ns) h)

  -- a node that is no child is not counted
  other : (i : ℕ) → (parent_of ns i ≡ p → ⊥) → is_child ns p lo hi a b i ≡ false
  unfolding is_child
  other i n = rw (ne_eqb (parent_of ns i) p n)

  none_by : (f i : ℕ) → count ns ≤ i + f → ((j : ℕ) → i ≤ j → j < count ns → parent_of ns j ≡ p → ⊥) → tally ns p lo hi a b i ≡ 0
  none_by zero i hf n = tally_end i (omega arith)
  none_by (suc f) i hf n =
      ⊎_elim (λ (h : count ns ≤ i). tally_end i h)
      (λ (h : i < count ns). tally_turn i h ∙ rw (other i (n i (omega arith) h)) (omega (arith, none_by f (i + 1) (omega arith) (λ j x y. n j (omega arith) y))))
      (le_or_lt (count ns) i)

  -- past the nodes below p there is no child of p
  pub tally_out : Tree ns → (i : ℕ) → p < i → i < count ns → parent_of ns i < p → tally ns p lo hi a b i ≡ 0
  tally_out t i h l u = none_by (count ns) i (omega arith) (λ j x y. no_child (parent_of ns) (count ns) t.order p i j h u x y)

pub parent_in : (ns : List ℕ) → Tree ns → (i : ℕ) → i < count ns → parent_of ns i < count ns
parent_in ns t i l =
    ⊎_elim (λ (q : 0 ≡ i). subst (λ (x : ℕ). parent_of ns x < count ns) q (let z = t.top in omega arith))
    (λ (h : 0 < i). let z = t.falls i h l in omega arith) (eq-or-lt_of_le (omega arith))

-- the first node that passes a test, as a loop meets it
module _ (q : ℕ → Bool) (i n : ℕ) where
  pub node_on : i < n → q i ≡ false → first_node q i n ≡ first_node q (i + 1) n
  unfolding first_node
  node_on h e = fold_turn _ _ i n h ∙ rw e

  pub node_stop : i < n → q i ≡ true → first_node q i n ≡ Some (record { 0 = i })
  unfolding first_node
  node_stop h e = fold_turn _ _ i n h ∙ rw e

  pub node_end : n ≤ i → first_node q i n ≡ None
  unfolding first_node
  node_end h = fold_end _ _ i n h

  pub node_past : ltb i n ≡ false → first_node q i n ≡ None
  node_past e = node_end (ltb-false i n e)

no_node_by : (q : ℕ → Bool) (n f i : ℕ) → n ≤ i + f → ((j : ℕ) → i ≤ j → j < n → q j ≡ false) → first_node q i n ≡ None
no_node_by q n zero i hf nn = node_end q i n (omega arith)
no_node_by q n (suc f) i hf nn =
    ⊎_elim (λ (h : n ≤ i). node_end q i n h)
    (λ (h : i < n). node_on q i n h (nn i (omega arith) h) ∙ no_node_by q n f (i + 1) (omega arith) (λ j x y. nn j (omega arith) y))
    (le_or_lt n i)

-- where no node passes, none is found
pub no_node : (q : ℕ → Bool) (n i : ℕ) → ((j : ℕ) → i ≤ j → j < n → q j ≡ false) → first_node q i n ≡ None
no_node q n i nn = no_node_by q n n i (omega arith) nn

module _ (ns : List ℕ) (p lo hi a b : ℕ) where
  pub child_other : (i : ℕ) → (parent_of ns i ≡ p → ⊥) → is_child ns p lo hi a b i ≡ false
  unfolding is_child
  child_other i n = rw (ne_eqb (parent_of ns i) p n)

  -- past the nodes below p there is no child of p
  pub child_out : Tree ns → (i : ℕ) → p < i → i < count ns → parent_of ns i < p → next_child ns p lo hi a b i ≡ None
  child_out t i h l u = no_node (is_child ns p lo hi a b) (count ns) i (λ j x y. child_other j (λ e. no_child (parent_of ns) (count ns) t.order p i j h u x y e))

  -- what a child that fits is
  pub record Child (start m : ℕ) : Type 0 where
    pub from : start ≤ m
    pub below : m < count ns
    pub parent : parent_of ns m ≡ p
    pub kind_low : lo ≤ kind_of ns m
    pub kind_high : kind_of ns m ≤ hi
    pub role_low : a ≤ role_of ns m
    pub role_high : role_of ns m ≤ b

  pub child_here : (f i : ℕ) → f ≤ i → i < count ns → is_child ns p lo hi a b i ≡ true → Child f i
  unfolding is_child
  child_here f i g l e =
      let x = and_right_lem (eqb (parent_of ns i) p) (fits ns lo hi a b i) e in
      let y = and_left_lem (within (kind_of ns i) lo hi) (within (role_of ns i) a b) x in
      let z = and_right_lem (within (kind_of ns i) lo hi) (within (role_of ns i) a b) x in
      record {
        from = g;
        below = l;
        parent = eqb-true (parent_of ns i) p (and_left_lem (eqb (parent_of ns i) p) (fits ns lo hi a b i) e);
        kind_low = leb-true lo (kind_of ns i) (and_left_lem (leb lo (kind_of ns i)) (leb (kind_of ns i) hi) y);
        kind_high = leb-true (kind_of ns i) hi (and_right_lem (leb lo (kind_of ns i)) (leb (kind_of ns i) hi) y);
        role_low = leb-true a (role_of ns i) (and_left_lem (leb a (role_of ns i)) (leb (role_of ns i) b) z);
        role_high = leb-true (role_of ns i) b (and_right_lem (leb a (role_of ns i)) (leb (role_of ns i) b) z);
      }

-- the number of what was found
abbrev pub number : Option NodeId → ℕ
number (Some m) = m.0
number None = 0

module _ (ns : List ℕ) (p lo hi a b : ℕ) where
  found_by : (f i m : ℕ) → count ns ≤ i + f → next_child ns p lo hi a b i ≡ Some (record { 0 = m }) → Child ns p lo hi a b i m
  found_by zero i m hf e = let s : ◌≡◌ {A = Option NodeId} (Some (record { 0 = m })) None = sym e ∙ node_end (is_child ns p lo hi a b) i (count ns) (omega arith) in let z : ◌≡◌ {A = ℕ} 0 1 = cc in absurd (omega arith)
  found_by (suc f) i m hf e =
      ⊎_elim (λ (h : count ns ≤ i). let s : ◌≡◌ {A = Option NodeId} (Some (record { 0 = m })) None = sym e ∙ node_end (is_child ns p lo hi a b) i (count ns) h in let z : ◌≡◌ {A = ℕ} 0 1 = cc in absurd (omega arith))
      (λ (h : i < count ns). go h (is_child ns p lo hi a b i) refl (λ x. found_by f (i + 1) m (omega arith) (sym (node_on (is_child ns p lo hi a b) i (count ns) h x) ∙ e)))
      (le_or_lt (count ns) i)
    where
      go : i < count ns → (x : Bool) → is_child ns p lo hi a b i ≡ x → (is_child ns p lo hi a b i ≡ false → Child ns p lo hi a b (i + 1) m) → Child ns p lo hi a b i m
      go h true q r =
          let s : ◌≡◌ {A = Option NodeId} (Some (record { 0 = i })) (Some (record { 0 = m })) = sym (node_stop (is_child ns p lo hi a b) i (count ns) h q) ∙ e in
          let u : i ≡ m = ap number s in
          subst (λ (x : ℕ). Child ns p lo hi a b i x) u (child_here ns p lo hi a b i i (omega arith) h q)
      go h false q r =
          let w = r q in
          let g = w.from in
          record { from = omega arith; below = w.below; parent = w.parent; kind_low = w.kind_low; kind_high = w.kind_high; role_low = w.role_low; role_high = w.role_high }

  -- what is found is a child that fits
  pub found_child : (i m : ℕ) → next_child ns p lo hi a b i ≡ Some (record { 0 = m }) → Child ns p lo hi a b i m
  found_child i m e = found_by (count ns) i m (omega arith) e
