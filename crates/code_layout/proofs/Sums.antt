-- Lists of different nodes, and sums over them.
use Rattle.std.specs.Prelude.{ℕ, zero, suc, ◌+◌, ◌≤◌, ◌<◌, ◌≡◌, ◌⊎◌, Bool, true, false, ◌&&◌, ◌||◌, eqb}
use Rattle.std.proofs.Math.Path.{refl, subst}
use Rattle.std.proofs.Common.{ap, sym, ◌∙◌, inl, inr, eq-eqb, ne_eqb}
use mathlib.Core.List.{List, [], ◌∷◌, ◌++◌}
use Rattle.std.proofs.Math.Bool.{cond}
use Rattle.std.proofs.Math.Decide.{dec_lt}
use native.Mathlib.Omega.{arith}
use Rattle.table_records.specs.Table.{kind_of, role_of, count}
use Rattle.table_records.specs.Roles as role
use Rattle.table_children.specs.Children.{keep}
use Rattle.code_tree.specs.Parts.{up_of, shape_at, is_part, part_by, parts, with_role, order_by, order}
use Rattle.code_tree.proofs.PartsLaws.{All, parts_end, parts_turn}
use Rattle.code_tree.specs.Parts.{Part}
use Rattle.code_tree.proofs.BoundLaws.{all_map}
use Rattle.code_tree.specs.declared.Shape.{Shape}
use Rattle.code_tree.specs.declared.Shape.TheVariants.{Leaf as Single, Class, If, With, Block, Label, Loop, Switch, Case, Try, Catch}
use Rattle.code_layout.specs.Widths.{sum}
use Rattle.code_layout.specs.Context.{head0, before, behind}
use Rattle.code_layout.specs.Shaped.{Good, Two, Three}

abbrev pub Distinct : List ℕ → Type 0
Distinct [] = Unit {0}
Distinct (c ∷ cs) = All (λ d. c ≡ d → ⊥) cs × Distinct cs

-- x stands in a list.
abbrev pub In : ℕ → List ℕ → Type 0
In x [] = ⊥
In x (c ∷ cs) = (c ≡ x) ⊎ In x cs

pub all_in_lem : (P : ℕ → Type 0) (x : ℕ) (l : List ℕ) → All P l → In x l → P x
all_in_lem P x [] a i = absurd i
all_in_lem P x (c ∷ cs) a (inl e) = subst P e a.0
all_in_lem P x (c ∷ cs) a (inr i) = all_in_lem P x cs a.1 i

pub sum_same : (y z : ℕ → ℕ) (l : List ℕ) → All (λ c. y c ≡ z c) l → sum y l ≡ sum z l
unfolding sum
sum_same y z [] a = refl
sum_same y z (c ∷ cs) a = λ i. a.0 i + sum_same y z cs a.1 i

pub before_same : (y z : ℕ → ℕ) (l : List ℕ) (x : ℕ) → All (λ c. y c ≡ z c) l → before y l x ≡ before z l x
unfolding before
before_same y z [] x a = refl
before_same y z (c ∷ cs) x a = λ i. cond (eqb c x) 0 (a.0 i + before_same y z cs x a.1 i)

-- What is said of each part by the sums before it and the part behind it, is said of them one after the other.
module _ (z : ℕ → ℕ) (D : ℕ → ℕ → ℕ → Type 0) where
  abbrev pub Row : ℕ → List ℕ → Type 0
  Row o [] = Unit {0}
  Row o (c ∷ cs) = D c o (head0 cs) × Row (o + z c) cs

  pub row : (o : ℕ) (l : List ℕ) → Distinct l → All (λ c. D c (o + before z l c) (behind l c)) l → Row o l
  unfolding before behind
  row o [] d a = tt
  row o (c ∷ cs) d a = (
    subst (λ k. D c k (head0 cs)) (let e : o + 0 ≡ o = omega arith in e)
        (subst (λ t. D c (o + cond t 0 (z c + before z cs c)) (cond t (head0 cs) (behind cs c))) (eq-eqb c c refl) a.0),
    row (o + z c) cs d.1 (tail cs d.0 a.1),
  )
    where
      one : (e : ℕ) → (c ≡ e → ⊥) → D e (o + cond (eqb c e) 0 (z c + before z cs e)) (cond (eqb c e) (head0 cs) (behind cs e)) → D e (o + z c + before z cs e) (behind cs e)
      one e n p =
          subst (λ k. D e k (behind cs e)) (let q : o + (z c + before z cs e) ≡ o + z c + before z cs e = omega arith in q)
          (subst (λ t. D e (o + cond t 0 (z c + before z cs e)) (cond t (head0 cs) (behind cs e))) (ne_eqb c e n) p)

      tail : (l : List ℕ) → All (λ e. c ≡ e → ⊥) l → All (λ e. D e (o + cond (eqb c e) 0 (z c + before z cs e)) (cond (eqb c e) (head0 cs) (behind cs e))) l
          → All (λ e. D e (o + z c + before z cs e) (behind cs e)) l
      tail [] n p = tt
      tail (e ∷ es) n p = (one e n.0 p.0, tail es n.1 p.1)

-- The parts of a node are different.
module _ (ns : List ℕ) (p : ℕ) where
  parts_low : (g i : ℕ) → count ns ≤ i + g → All (λ d. i ≤ d) (parts ns p i) × Distinct (parts ns p i)
  parts_low zero i f = subst (λ l. All (λ d. i ≤ d) l × Distinct l) (sym (parts_end ns p i (omega arith))) (tt, tt)
  parts_low (suc g) i f = go (parts_low g (i + 1) (omega arith)) (dec_lt i (count ns))
    where
      by : (x : Bool) → All (λ d. i + 1 ≤ d) (parts ns p (i + 1)) × Distinct (parts ns p (i + 1))
          → All (λ d. i ≤ d) (cond x (i ∷ parts ns p (i + 1)) (parts ns p (i + 1))) × Distinct (cond x (i ∷ parts ns p (i + 1)) (parts ns p (i + 1)))
      by true r = (
        (omega arith, all_map (λ d. i + 1 ≤ d) (λ d. i ≤ d) (λ d h. omega arith) (parts ns p (i + 1)) r.0),
        (all_map (λ d. i + 1 ≤ d) (λ d. i ≡ d → ⊥) (λ d h e. omega arith) (parts ns p (i + 1)) r.0, r.1),
      )
      by false r = (all_map (λ d. i + 1 ≤ d) (λ d. i ≤ d) (λ d h. omega arith) (parts ns p (i + 1)) r.0, r.1)

      go : All (λ d. i + 1 ≤ d) (parts ns p (i + 1)) × Distinct (parts ns p (i + 1)) → Dec (i < count ns) → All (λ d. i ≤ d) (parts ns p i) × Distinct (parts ns p i)
      go r (no h) = subst (λ l. All (λ d. i ≤ d) l × Distinct l) (sym (parts_end ns p i (omega arith))) (tt, tt)
      go r (yes h) = subst (λ l. All (λ d. i ≤ d) l × Distinct l) (sym (parts_turn ns p i h)) (by (eqb (up_of ns i) p && is_part ns i) r)

  parts_distinct : Distinct (parts ns p (p + 1))
  parts_distinct = (parts_low (count ns) (p + 1) (omega arith)).1

  apart : (c d r s : ℕ) → role_of ns c ≡ r → role_of ns d ≡ s → (r ≡ s → ⊥) → c ≡ d → ⊥
  apart c d r s x y n e = n (sym x ∙ ap (role_of ns) e ∙ y)

  two_distinct : (r s : ℕ) → (r ≡ s → ⊥) → Two ns p r s → Distinct (order ns p)
  two_distinct r s n w = let (c, d, q, x, y) = w in subst Distinct (sym q) ((apart c d r s x y n, tt), (tt, tt))

  three_distinct : Three ns p → Distinct (order ns p)
  three_distinct w =
      let (c, d, e, q, x, y, z) = w in
      subst Distinct (sym q) ((apart c d 3 4 x y (λ h. omega arith), (apart c e 3 5 x z (λ h. omega arith), tt)), ((apart d e 4 5 y z (λ h. omega arith), tt), (tt, tt)))

  pub order_distinct : Good ns → p < count ns → Distinct (order ns p)
  unfolding order
  order_distinct g h = go (shape_at ns p) refl
    where
      plain : (sh : Shape) → shape_at ns p ≡ sh → order_by ns sh (parts ns p (p + 1)) ≡ parts ns p (p + 1) → Distinct (order_by ns (shape_at ns p) (parts ns p (p + 1)))
      plain sh x e = subst Distinct (sym (ap (λ s. order_by ns s (parts ns p (p + 1))) x ∙ e)) parts_distinct

      go : (sh : Shape) → shape_at ns p ≡ sh → Distinct (order_by ns (shape_at ns p) (parts ns p (p + 1)))
      go Single x = plain Single x refl
      go Class x = plain Class x refl
      go If x = plain If x refl
      go With x = plain With x refl
      go Block x = plain Block x refl
      go Label x = plain Label x refl
      go Loop x = plain Loop x refl
      go Switch x = plain Switch x refl
      go Case x = plain Case x refl
      go Try x = tri (g.shaped.tries p h x)
        where
          tri : Two ns p 3 4 ⊎ (Two ns p 3 5 ⊎ Three ns p) → Distinct (order ns p)
          tri (inl w) = two_distinct 3 4 (λ e. omega arith) w
          tri (inr (inl w)) = two_distinct 3 5 (λ e. omega arith) w
          tri (inr (inr w)) = three_distinct w
      go Catch x = plain Catch x refl

-- Every part stands in the list of its parent's parts.
pub in_append : (x : ℕ) (a c : List ℕ) → In x a ⊎ In x c → In x (a ++ c)
in_append x [] c (inl i) = absurd i
in_append x [] c (inr i) = i
in_append x (k ∷ a) c (inl (inl e)) = inl e
in_append x (k ∷ a) c (inl (inr i)) = inr (in_append x a c (inl i))
in_append x (k ∷ a) c (inr i) = inr (in_append x a c (inr i))

pub in_keep : (q : ℕ → Bool) (x : ℕ) (a : List ℕ) → q x ≡ true → In x a → In x (keep q a)
unfolding keep
in_keep q x [] e i = absurd i
in_keep q x (c ∷ a) e (inl p) = subst (λ t. In x (cond t (c ∷ keep q a) (keep q a))) (sym (ap q p ∙ e)) (inl p)
in_keep q x (c ∷ a) e (inr i) = go (q c) (in_keep q x a e i)
  where
    go : (t : Bool) → In x (keep q a) → In x (cond t (c ∷ keep q a) (keep q a))
    go true r = inr r
    go false r = r

module _ (ns : List ℕ) (p c : ℕ) (w : Part ns p c) where
  in_here : (i : ℕ) → i ≡ c → In c (parts ns p i)
  in_here i e =
      let l = w.inside in
      let t : (eqb (up_of ns i) p && is_part ns i) ≡ true = ap (λ k. eqb (up_of ns k) p && is_part ns k) e ∙ rw (eq-eqb (up_of ns c) p w.parent) w.part in
      subst (In c) (sym (parts_turn ns p i (omega arith) ∙ ap (λ t. cond t (i ∷ parts ns p (i + 1)) (parts ns p (i + 1))) t)) (inl e)

  in_parts : (g i : ℕ) → c ≤ i + g → i ≤ c → In c (parts ns p i)
  in_parts zero i f h = in_here i (omega arith)
  in_parts (suc g) i f h = go (dec_lt i c) (λ l. in_parts g (i + 1) (omega arith) (omega arith))
    where
      by : (x : Bool) → In c (parts ns p (i + 1)) → In c (cond x (i ∷ parts ns p (i + 1)) (parts ns p (i + 1)))
      by true r = inr r
      by false r = r

      go : Dec (i < c) → (i < c → In c (parts ns p (i + 1))) → In c (parts ns p i)
      go (no n) r = in_here i (omega arith)
      go (yes l) r = let u = w.inside in subst (In c) (sym (parts_turn ns p i (omega arith))) (by (eqb (up_of ns i) p && is_part ns i) (r l))

  by_role : (r : ℕ) (ps : List ℕ) → In c ps → eqb (role_of ns c) r ≡ true → In c (with_role ns r ps)
  by_role r ps i e = in_keep (λ j. eqb (role_of ns j) r) c ps e i

  in_try : (ps : List ℕ) → In c ps → (x y z : Bool) → eqb (role_of ns c) role.Held ≡ x → eqb (role_of ns c) role.Alternate ≡ y → eqb (role_of ns c) role.Finally ≡ z
      → (x || (y || z)) ≡ true → In c (order_by ns Try ps)
  in_try ps i true y z a d e q = in_append c (with_role ns role.Held ps) _ (inl (by_role role.Held ps i a))
  in_try ps i false true z a d e q =
      in_append c (with_role ns role.Held ps) _ (inr (in_append c (with_role ns role.Alternate ps) _ (inl (by_role role.Alternate ps i d))))
  in_try ps i false false true a d e q =
      in_append c (with_role ns role.Held ps) _ (inr (in_append c (with_role ns role.Alternate ps) _ (inr (by_role role.Finally ps i e))))
  in_try ps i false false false a d e q = let z : ◌≡◌ {A = ℕ} 0 1 = cc in absurd (omega arith)

  pub in_order : In c (order ns p)
  unfolding order is_part
  in_order = go (shape_at ns p) refl (in_parts c (p + 1) (omega arith) (let l = w.behind in omega arith))
    where
      at : (sh : Shape) → shape_at ns p ≡ sh → In c (order_by ns sh (parts ns p (p + 1))) → In c (order_by ns (shape_at ns p) (parts ns p (p + 1)))
      at sh x i = subst (λ s. In c (order_by ns s (parts ns p (p + 1)))) (sym x) i

      go : (sh : Shape) → shape_at ns p ≡ sh → In c (parts ns p (p + 1)) → In c (order_by ns (shape_at ns p) (parts ns p (p + 1)))
      go Single x i = at Single x i
      go Class x i = at Class x i
      go If x i = at If x i
      go With x i = at With x i
      go Block x i = at Block x i
      go Label x i = at Label x i
      go Loop x i = at Loop x i
      go Switch x i = at Switch x i
      go Case x i = at Case x i
      go Try x i =
          at Try x
          (in_try (parts ns p (p + 1)) i (eqb (role_of ns c) role.Held) (eqb (role_of ns c) role.Alternate) (eqb (role_of ns c) role.Finally) refl refl refl
          (sym (ap (λ s. part_by s (kind_of ns c) (role_of ns c)) (ap (shape_at ns) w.parent ∙ x)) ∙ w.part))
      go Catch x i = at Catch x i
