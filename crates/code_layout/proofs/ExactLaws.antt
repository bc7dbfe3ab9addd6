-- The sum over the nodes is the length of the code.
use Prim.Native.Nat.{ℕ, zero, suc, ◌+◌, ◌≤◌, ◌<◌}
use Rattle.std.specs.Prelude.{◌≡◌, ◌⊎◌, List, [], ◌∷◌, ◌++◌, Bool, ◌&&◌, ◌||◌, length}
use Rattle.std.proofs.Math.Path.{refl, ap, sym, subst}
use Rattle.std.proofs.Common.{◌∙◌, inl, inr}
use Rattle.std.proofs.Math.Bool.{true, false, cond}
use Rattle.std.proofs.Math.Dec.{eqb, ltb}
use Rattle.std.proofs.Math.Decide.{dec_lt}
use native.Mathlib.Omega.{arith}
use borrow.Author.Tests.{eq-eqb, ne_eqb, eqb-true, lt-ltb, le-ltb}
use Rattle.base_common.specs.Upto.{upto}
use Rattle.base_common.proofs.UptoLaws.{upto_cons, upto_nil}
use Rattle.table_records.specs.Table.{kind_of, role_of, count}
use Rattle.table_records.specs.Roles as role
use Rattle.table_children.specs.Children.{keep}
use Rattle.code_flat.specs.Code.{unit}
use Rattle.code_flat.proofs.Correct.{unit_length}
use Rattle.code_tree.specs.Parts.{up_of, shape_at, is_part, part_by, parts, with_role, order_by, order}
use Rattle.code_tree.specs.Statements.{body_of}
use Rattle.code_tree.proofs.PartsLaws.{All, parts_all, order_all_lem}
use Rattle.code_tree.specs.Parts.{Part}
use Rattle.code_tree.proofs.BoundLaws.{all_map}
use Rattle.code_tree.specs.declared.Shape.{Shape}
use Rattle.code_tree.specs.declared.Shape.TheVariants.{Leaf as Single, Class, If, With, Block, Label, Loop, Switch, Case, Try, Catch}
use Rattle.code_layout.specs.Widths.{has_role, sum, in_unit, own_width, own_width_by, width_at}
use Rattle.code_layout.specs.Shaped.{Good, Two, Three, Held}
use Rattle.code_layout.proofs.Sums.{sum_same}
use Rattle.code_layout.proofs.LayoutLaws.{in_root, in_low, in_up, in_above, own_width_on, own_width_root, width_is_lem}
use Rattle.code_layout.specs.Widths.{is_try, number_by}
use Rattle.code_layout.specs.Exact.{open_at, number_at, exact_length}
use Rattle.code_layout.proofs.Made.{width_unit}

-- Sums.
pub sum_append : (z : ℕ → ℕ) (a c : List ℕ) → sum z (a ++ c) ≡ sum z a + sum z c
unfolding sum
sum_append z [] c = omega arith
sum_append z (k ∷ a) c = omega (arith, sum_append z a c)

pub sum_keep : (z : ℕ → ℕ) (q : ℕ → Bool) (l : List ℕ) → sum z (keep q l) ≡ sum (λ j. cond (q j) (z j) 0) l
unfolding sum keep
sum_keep z q [] = refl
sum_keep z q (k ∷ l) = go (q k) (sum_keep z q l)
  where
    go : (x : Bool) → sum z (keep q l) ≡ sum (λ j. cond (q j) (z j) 0) l → sum z (cond x (k ∷ keep q l) (keep q l)) ≡ cond x (z k) 0 + sum (λ j. cond (q j) (z j) 0) l
    go true ih = ap (λ m. z k + m) ih
    go false ih = ih ∙ (let e : sum (λ j. cond (q j) (z j) 0) l ≡ 0 + sum (λ j. cond (q j) (z j) 0) l = omega arith in e)

pub sum_add : (y z : ℕ → ℕ) (l : List ℕ) → sum (λ j. y j + z j) l ≡ sum y l + sum z l
unfolding sum
sum_add y z [] = omega arith
sum_add y z (k ∷ l) = omega (arith, sum_add y z l)

pub sum_none : (z : ℕ → ℕ) (l : List ℕ) → All (λ j. z j ≡ 0) l → sum z l ≡ 0
unfolding sum
sum_none z [] a = refl
sum_none z (k ∷ l) a = omega (arith, a.0, sum_none z l a.1)

-- What holds of the numbers of a range holds of each of its list.
pub upto_all : (P : ℕ → Type 0) (n g i : ℕ) → n ≤ i + g → ((j : ℕ) → i ≤ j → j < n → P j) → All P (upto i n)
upto_all P n zero i f h = subst (All P) (sym (upto_nil i n (omega arith))) tt
upto_all P n (suc g) i f h = go (dec_lt i n) (upto_all P n g (i + 1) (omega arith) (λ j l u. h j (omega arith) u))
  where
    go : Dec (i < n) → All P (upto (i + 1) n) → All P (upto i n)
    go (yes l) r = subst (All P) (sym (upto_cons i n l)) (h i (omega arith) l, r)
    go (no l) r = subst (All P) (sym (upto_nil i n (omega arith))) tt

module _ (ns : List ℕ) (b : ℕ) (g : Good ns) where
  abbrev Z : ℕ → ℕ
  Z j = width_at ns b j

  abbrev pub Y : ℕ → ℕ
  Y j = Z j + open_at ns j

  -- A Try's parts by role are its parts.
  roles : (ps : List ℕ) → All (λ c. part_by Try (kind_of ns c) (role_of ns c) ≡ true) ps → sum Y (order_by ns Try ps) ≡ sum Y ps
  roles ps a =
      sum_append Y (with_role ns 3 ps) (with_role ns 4 ps ++ with_role ns 5 ps)
      ∙ (λ i. sum_keep Y (λ j. eqb (role_of ns j) 3) ps i + (sum_append Y (with_role ns 4 ps) (with_role ns 5 ps) ∙ (λ k. sum_keep Y (λ j. eqb (role_of ns j) 4) ps k + sum_keep Y (λ j. eqb (role_of ns j) 5) ps k)) i)
      ∙ three ps a
    where
      one : (c r : ℕ) → (eqb r 3 || (eqb r 4 || eqb r 5)) ≡ true → cond (eqb r 3) (Y c) 0 + (cond (eqb r 4) (Y c) 0 + cond (eqb r 5) (Y c) 0) ≡ Y c
      one c r e = go (eqb r 3) refl (eqb r 4) refl (eqb r 5) refl e
        where
          go : (x : Bool) → eqb r 3 ≡ x → (y : Bool) → eqb r 4 ≡ y → (z : Bool) → eqb r 5 ≡ z → (x || (y || z)) ≡ true → cond x (Y c) 0 + (cond y (Y c) 0 + cond z (Y c) 0) ≡ Y c
          go true p true q z s e = absurd (omega (arith, eqb-true r 3 p, eqb-true r 4 q))
          go true p false q true s e = absurd (omega (arith, eqb-true r 3 p, eqb-true r 5 s))
          go true p false q false s e = omega arith
          go false p true q true s e = absurd (omega (arith, eqb-true r 4 q, eqb-true r 5 s))
          go false p true q false s e = omega arith
          go false p false q true s e = omega arith
          go false p false q false s e = let z : ◌≡◌ {A = ℕ} 0 1 = cc in absurd (omega arith)

      three : (ps : List ℕ) → All (λ c. part_by Try (kind_of ns c) (role_of ns c) ≡ true) ps
          → sum (λ j. cond (eqb (role_of ns j) 3) (Y j) 0) ps + (sum (λ j. cond (eqb (role_of ns j) 4) (Y j) 0) ps + sum (λ j. cond (eqb (role_of ns j) 5) (Y j) 0) ps) ≡ sum Y ps
      three ps a =
          ap (λ m. sum (λ j. cond (eqb (role_of ns j) 3) (Y j) 0) ps + m) (sym (sum_add (λ j. cond (eqb (role_of ns j) 4) (Y j) 0) (λ j. cond (eqb (role_of ns j) 5) (Y j) 0) ps))
          ∙ sym (sum_add (λ j. cond (eqb (role_of ns j) 3) (Y j) 0) (λ j. cond (eqb (role_of ns j) 4) (Y j) 0 + cond (eqb (role_of ns j) 5) (Y j) 0) ps)
          ∙ sum_same _ Y ps (all_map _ _ (λ c e. one c (role_of ns c) e) ps a)

  -- OPEN's words stand at the Try and count at its finally.
  open_is : (i c r : ℕ) → Part ns i c → role_of ns c ≡ r → (x : Bool) → is_try (shape_at ns i) ≡ x → open_at ns c ≡ cond (eqb r role.Finally && x) 2 0
  unfolding open_at
  open_is i c r w e x q = (λ k. cond (eqb (e k) role.Finally && (ap (λ p. is_try (shape_at ns p)) w.parent ∙ q) k) 2 0)

  and_no : (x : Bool) → ◌≡◌ {A = ℕ} (cond (x && false) 2 0) 0
  and_no true = refl
  and_no false = refl

  pub plain_sum : (i : ℕ) → is_try (shape_at ns i) ≡ false → (ps : List ℕ) → All (Part ns i) ps → sum Y ps ≡ sum Z ps
  plain_sum i x ps a =
      sum_same Y Z ps (all_map (Part ns i) _ (λ c w. let e : open_at ns c ≡ 0 = open_is i c (role_of ns c) w refl false x ∙ and_no (eqb (role_of ns c) role.Finally) in omega arith) ps a)

  try_sum : (i : ℕ) → shape_at ns i ≡ Try → Two ns i 3 4 ⊎ (Two ns i 3 5 ⊎ Three ns i) → sum Y (order ns i) ≡ sum Z (order ns i) + cond (has_role ns role.Finally (order ns i)) 2 0
  unfolding sum
  try_sum i x (inl t) =
      let (c, d, q, y, z) = t in
      let a = subst (All (Part ns i)) q (order_all_lem ns i) in
      let u : open_at ns c ≡ 0 = open_is i c 3 a.0 y true (ap is_try x) in
      let v : open_at ns d ≡ 0 = open_is i d 4 a.1.0 z true (ap is_try x) in
      let h : has_role ns role.Finally (c ∷ d ∷ []) ≡ false = (λ k. eqb (y k) 5 || (eqb (z k) 5 || false)) in
      subst (λ l. sum Y l ≡ sum Z l + cond (has_role ns role.Finally l) 2 0) (sym q)
      (subst (λ t. Y c + (Y d + 0) ≡ (Z c + (Z d + 0)) + cond t 2 0) (sym h) (omega arith))
  try_sum i x (inr (inl t)) =
      let (c, d, q, y, z) = t in
      let a = subst (All (Part ns i)) q (order_all_lem ns i) in
      let u : open_at ns c ≡ 0 = open_is i c 3 a.0 y true (ap is_try x) in
      let v : open_at ns d ≡ 2 = open_is i d 5 a.1.0 z true (ap is_try x) in
      let h : has_role ns role.Finally (c ∷ d ∷ []) ≡ true = (λ k. eqb (y k) 5 || (eqb (z k) 5 || false)) in
      subst (λ l. sum Y l ≡ sum Z l + cond (has_role ns role.Finally l) 2 0) (sym q)
      (subst (λ t. Y c + (Y d + 0) ≡ (Z c + (Z d + 0)) + cond t 2 0) (sym h) (omega arith))
  try_sum i x (inr (inr t)) =
      let (c, d, e, q, y, z, w) = t in
      let a = subst (All (Part ns i)) q (order_all_lem ns i) in
      let u : open_at ns c ≡ 0 = open_is i c 3 a.0 y true (ap is_try x) in
      let v : open_at ns d ≡ 0 = open_is i d 4 a.1.0 z true (ap is_try x) in
      let v' : open_at ns e ≡ 2 = open_is i e 5 a.1.1.0 w true (ap is_try x) in
      let h : has_role ns role.Finally (c ∷ d ∷ e ∷ []) ≡ true = (λ k. eqb (y k) 5 || (eqb (z k) 5 || (eqb (w k) 5 || false))) in
      subst (λ l. sum Y l ≡ sum Z l + cond (has_role ns role.Finally l) 2 0) (sym q)
      (subst (λ t. Y c + (Y d + (Y e + 0)) ≡ (Z c + (Z d + (Z e + 0))) + cond t 2 0) (sym h) (omega arith))

  -- A node's number and the sizes of its parts.
  pub node_number : (i : ℕ) → b < i → i < count ns → Y i ≡ number_at ns i + sum Y (parts ns i (i + 1))
  unfolding order is_part
  node_number i hb hc = go (shape_at ns i) refl
    where
      plain : (sh : Shape) → shape_at ns i ≡ sh → order_by ns sh (parts ns i (i + 1)) ≡ parts ns i (i + 1) → own_width_by ns sh (order ns i) ≡ number_by sh → is_try sh ≡ false → Y i ≡ number_at ns i + sum Y (parts ns i (i + 1))
      plain sh x o w n =
          let s = width_is_lem ns b i hc in
          let v : own_width ns b i ≡ number_by (shape_at ns i) = own_width_on ns b i hb ∙ ap (λ k. own_width_by ns k (order ns i)) x ∙ w ∙ sym (ap number_by x) in
          let p : sum Z (order ns i) ≡ sum Z (parts ns i (i + 1)) = ap (sum Z) (ap (λ k. order_by ns k (parts ns i (i + 1))) x ∙ o) in
          let y : sum Y (parts ns i (i + 1)) ≡ sum Z (parts ns i (i + 1)) = plain_sum i (ap is_try x ∙ n) (parts ns i (i + 1)) (parts_all ns i) in
          omega arith

      tried : shape_at ns i ≡ Try → Y i ≡ number_at ns i + sum Y (parts ns i (i + 1))
      tried x =
          let s = width_is_lem ns b i hc in
          let v : own_width ns b i ≡ cond (has_role ns role.Finally (order ns i)) 2 0 = own_width_on ns b i hb ∙ ap (λ k. own_width_by ns k (order ns i)) x in
          let t = try_sum i x (g.shaped.tries i hc x) in
          let n : number_by (shape_at ns i) ≡ 0 = ap number_by x in
          let r : sum Y (order ns i) ≡ sum Y (parts ns i (i + 1)) =
          ap (λ k. sum Y (order_by ns k (parts ns i (i + 1)))) x
          ∙ roles (parts ns i (i + 1)) (all_map (Part ns i) _ (λ c w. sym (ap (λ k. part_by k (kind_of ns c) (role_of ns c)) (ap (shape_at ns) w.parent ∙ x)) ∙ w.part) (parts ns i (i + 1)) (parts_all ns i)) in
          omega arith

      go : (sh : Shape) → shape_at ns i ≡ sh → Y i ≡ number_at ns i + sum Y (parts ns i (i + 1))
      go Single x = plain Single x refl refl refl
      go Class x = plain Class x refl refl refl
      go If x = plain If x refl refl refl
      go With x = plain With x refl refl refl
      go Block x = plain Block x refl refl refl
      go Label x = plain Label x refl refl refl
      go Loop x = plain Loop x refl refl refl
      go Switch x = plain Switch x refl refl refl
      go Case x = plain Case x refl refl refl
      go Try x = tried x
      go Catch x = plain Catch x refl refl refl

  -- The unit's nodes whose holder is i are the parts of i, where it is the unit's.
  abbrev kids : ℕ → ℕ
  kids i = sum (λ j. cond (in_unit ns b j && eqb (up_of ns j) i) (Y j) 0) (upto (i + 1) (count ns))

  kids_is : (i : ℕ) → b ≤ i → kids i ≡ cond (in_unit ns b i) (sum Y (parts ns i (i + 1))) 0
  unfolding parts
  kids_is i h = go (in_unit ns b i) refl
    where
      up : (j : ℕ) → i + 1 ≤ j → j < count ns → in_unit ns b j ≡ (is_part ns j && in_unit ns b (up_of ns j))
      up j l u = in_up ns b g.falls j (omega arith) u

      yes' : in_unit ns b i ≡ true → (j : ℕ) → i + 1 ≤ j → j < count ns → (x : Bool) → eqb (up_of ns j) i ≡ x → cond (in_unit ns b j && x) (Y j) 0 ≡ cond (x && is_part ns j) (Y j) 0
      yes' e j l u true p = ap (λ t. cond (t && true) (Y j) 0) (up j l u ∙ ap (λ t. is_part ns j && t) (ap (in_unit ns b) (eqb-true (up_of ns j) i p) ∙ e)) ∙ tidy (is_part ns j)
        where
          tidy : (t : Bool) → cond ((t && true) && true) (Y j) 0 ≡ cond t (Y j) 0
          tidy true = refl
          tidy false = refl
      yes' e j l u false p = tidy (in_unit ns b j)
        where
          tidy : (t : Bool) → cond (t && false) (Y j) 0 ≡ 0
          tidy true = refl
          tidy false = refl

      no' : in_unit ns b i ≡ false → (j : ℕ) → i + 1 ≤ j → j < count ns → (x : Bool) → eqb (up_of ns j) i ≡ x → cond (in_unit ns b j && x) (Y j) 0 ≡ 0
      no' e j l u true p = ap (λ t. cond (t && true) (Y j) 0) (up j l u ∙ ap (λ t. is_part ns j && t) (ap (in_unit ns b) (eqb-true (up_of ns j) i p) ∙ e)) ∙ tidy (is_part ns j)
        where
          tidy : (t : Bool) → cond ((t && false) && true) (Y j) 0 ≡ 0
          tidy true = refl
          tidy false = refl
      no' e j l u false p = tidy (in_unit ns b j)
        where
          tidy : (t : Bool) → cond (t && false) (Y j) 0 ≡ 0
          tidy true = refl
          tidy false = refl

      go : (x : Bool) → in_unit ns b i ≡ x → kids i ≡ cond x (sum Y (parts ns i (i + 1))) 0
      go true e =
          sum_same _ (λ j. cond (eqb (up_of ns j) i && is_part ns j) (Y j) 0) (upto (i + 1) (count ns))
          (upto_all _ (count ns) (count ns) (i + 1) (omega arith) (λ j l u. yes' e j l u (eqb (up_of ns j) i) refl))
          ∙ sym (sum_keep Y (λ j. eqb (up_of ns j) i && is_part ns j) (upto (i + 1) (count ns)))
      go false e = sum_none _ (upto (i + 1) (count ns)) (upto_all _ (count ns) (count ns) (i + 1) (omega arith) (λ j l u. no' e j l u (eqb (up_of ns j) i) refl))

  -- The unit's nodes from i on whose holder stands before i: their sizes sum up what is left.
  abbrev front : ℕ → ℕ
  front i = sum (λ j. cond (in_unit ns b j && ltb (up_of ns j) i) (Y j) 0) (upto i (count ns))

  abbrev L : ℕ → ℕ
  L j = cond (in_unit ns b j) (number_at ns j) 0

  split_by : (t x y z : Bool) (m : ℕ) → (x ≡ (y || z)) → (y && z) ≡ false → cond (t && x) m 0 ≡ cond (t && y) m 0 + cond (t && z) m 0
  split_by true x true true m p q = let z : ◌≡◌ {A = ℕ} 0 1 = cc in absurd (omega arith)
  split_by true x true false m p q = ap (λ s. cond s m 0) p ∙ (let e : m ≡ m + 0 = omega arith in e)
  split_by true x false true m p q = ap (λ s. cond s m 0) p ∙ (let e : m ≡ 0 + m = omega arith in e)
  split_by true x false false m p q = ap (λ s. cond s m 0) p
  split_by false x y z m p q = refl

  tests : (u i : ℕ) → (ltb u (i + 1) ≡ (ltb u i || eqb u i)) × ((ltb u i && eqb u i) ≡ false)
  tests u i = go (dec_lt u i) (dec_lt i u)
    where
      go : Dec (u < i) → Dec (i < u) → (ltb u (i + 1) ≡ (ltb u i || eqb u i)) × ((ltb u i && eqb u i) ≡ false)
      go (yes l) r = (lt-ltb u (i + 1) (omega arith) ∙ sym (ap (λ t. t || eqb u i) (lt-ltb u i l)), (λ k. lt-ltb u i l k && ne_eqb u i (λ e. omega arith) k))
      go (no l) (yes r) = (le-ltb u (i + 1) (omega arith) ∙ sym (λ k. le-ltb u i (omega arith) k || ne_eqb u i (λ e. omega arith) k), ap (λ t. t && eqb u i) (le-ltb u i (omega arith)))
      go (no l) (no r) =
          let e : u ≡ i = omega arith in
          (lt-ltb u (i + 1) (omega arith) ∙ sym (λ k. le-ltb u i (omega arith) k || eq-eqb u i e k), ap (λ t. t && eqb u i) (le-ltb u i (omega arith)))

  front_next : (i : ℕ) → front (i + 1) ≡ sum (λ j. cond (in_unit ns b j && ltb (up_of ns j) i) (Y j) 0) (upto (i + 1) (count ns)) + kids i
  front_next i =
      sum_same _ (λ j. cond (in_unit ns b j && ltb (up_of ns j) i) (Y j) 0 + cond (in_unit ns b j && eqb (up_of ns j) i) (Y j) 0) (upto (i + 1) (count ns))
      (upto_all _ (count ns) (count ns) (i + 1) (omega arith)
      (λ j l u. let t = tests (up_of ns j) i in split_by (in_unit ns b j) (ltb (up_of ns j) (i + 1)) (ltb (up_of ns j) i) (eqb (up_of ns j) i) (Y j) t.0 t.1))
      ∙ sum_add (λ j. cond (in_unit ns b j && ltb (up_of ns j) i) (Y j) 0) (λ j. cond (in_unit ns b j && eqb (up_of ns j) i) (Y j) 0) (upto (i + 1) (count ns))

  front_step : (i : ℕ) → b < i → i < count ns → front i ≡ L i + front (i + 1)
  unfolding sum
  front_step i hb hc = go (in_unit ns b i) refl
    where
      turn : (x : Bool) → in_unit ns b i ≡ x → front i ≡ cond (x && true) (Y i) 0 + sum (λ j. cond (in_unit ns b j && ltb (up_of ns j) i) (Y j) 0) (upto (i + 1) (count ns))
      turn x e =
          ap (sum (λ j. cond (in_unit ns b j && ltb (up_of ns j) i) (Y j) 0)) (upto_cons i (count ns) hc)
          ∙ (λ k. cond (e k && lt-ltb (up_of ns i) i (g.falls i (omega arith) hc) k) (Y i) 0 + sum (λ j. cond (in_unit ns b j && ltb (up_of ns j) i) (Y j) 0) (upto (i + 1) (count ns)))

      go : (x : Bool) → in_unit ns b i ≡ x → front i ≡ L i + front (i + 1)
      go true e =
          let t = turn true e in
          let f = front_next i in
          let k : kids i ≡ sum Y (parts ns i (i + 1)) = kids_is i (omega arith) ∙ ap (λ x. cond x (sum Y (parts ns i (i + 1))) 0) e in
          let n = node_number i hb hc in
          let m : L i ≡ number_at ns i = ap (λ x. cond x (number_at ns i) 0) e in
          omega arith
      go false e =
          let t = turn false e in
          let f = front_next i in
          let k : kids i ≡ 0 = kids_is i (omega arith) ∙ ap (λ x. cond x (sum Y (parts ns i (i + 1))) 0) e in
          let m : L i ≡ 0 = ap (λ x. cond x (number_at ns i) 0) e in
          omega arith

  front_all : (f i : ℕ) → count ns ≤ i + f → b < i → front i ≡ sum L (upto i (count ns))
  unfolding sum
  front_all zero i h hb =
      ap (sum (λ j. cond (in_unit ns b j && ltb (up_of ns j) i) (Y j) 0)) (upto_nil i (count ns) (omega arith)) ∙ sym (ap (sum L) (upto_nil i (count ns) (omega arith)))
  front_all (suc f) i h hb = go (dec_lt i (count ns)) (front_all f (i + 1) (omega arith) (omega arith))
    where
      go : Dec (i < count ns) → front (i + 1) ≡ sum L (upto (i + 1) (count ns)) → front i ≡ sum L (upto i (count ns))
      go (yes l) r = front_step i hb l ∙ ap (λ m. L i + m) r ∙ sym (ap (sum L) (upto_cons i (count ns) l))
      go (no l) r =
          ap (sum (λ j. cond (in_unit ns b j && ltb (up_of ns j) i) (Y j) 0)) (upto_nil i (count ns) (omega arith)) ∙ sym (ap (sum L) (upto_nil i (count ns) (omega arith)))

  front_root : front (b + 1) ≡ kids b
  front_root =
      sum_same _ (λ j. cond (in_unit ns b j && eqb (up_of ns j) b) (Y j) 0) (upto (b + 1) (count ns))
      (upto_all _ (count ns) (count ns) (b + 1) (omega arith) (λ j l u. go j l u (in_unit ns b j) refl))
    where
      low : (j : ℕ) → b + 1 ≤ j → j < count ns → in_unit ns b j ≡ true → ltb (up_of ns j) b ≡ false
      low j l u e = by (dec_lt (up_of ns j) b)
        where
          by : Dec (up_of ns j < b) → ltb (up_of ns j) b ≡ false
          by (yes v) =
              let y : true ≡ false = sym (in_above ns b g.falls j (omega arith) u e) ∙ in_low ns b (up_of ns j) v in
              let z : ◌≡◌ {A = ℕ} 0 1 = cc in absurd (omega arith)
          by (no v) = le-ltb (up_of ns j) b (omega arith)

      go : (j : ℕ) → b + 1 ≤ j → j < count ns → (x : Bool) → in_unit ns b j ≡ x → cond (in_unit ns b j && ltb (up_of ns j) (b + 1)) (Y j) 0 ≡ cond (in_unit ns b j && eqb (up_of ns j) b) (Y j) 0
      go j l u true e = ap (λ t. cond (in_unit ns b j && t) (Y j) 0) ((tests (up_of ns j) b).0 ∙ ap (λ t. t || eqb (up_of ns j) b) (low j l u e))
      go j l u false e = (λ k. cond (e k && ltb (up_of ns j) (b + 1)) (Y j) 0) ∙ sym (λ k. cond (e k && eqb (up_of ns j) b) (Y j) 0)

  pub body_sum : b < count ns → shape_at ns b ≡ Block → sum L (upto (b + 1) (count ns)) ≡ Z b
  unfolding order
  body_sum hc x =
      let f = front_all (count ns) (b + 1) (omega arith) (omega arith) in
      let r = front_root in
      let k : kids b ≡ sum Y (parts ns b (b + 1)) = kids_is b (omega arith) ∙ ap (λ t. cond t (sum Y (parts ns b (b + 1))) 0) (in_root ns b) in
      let y = plain_sum b (ap is_try x) (parts ns b (b + 1)) (parts_all ns b) in
      let o : sum Z (order ns b) ≡ sum Z (parts ns b (b + 1)) = ap (λ t. sum Z (order_by ns t (parts ns b (b + 1)))) x in
      let s = width_is_lem ns b b hc in
      let w = own_width_root ns b in
      omega arith

-- THE LAW
pub exact_length_lem : (ns names : List ℕ) (b : ℕ) → Held ns names b → exact_length ns b ≡ length (unit (body_of ns names b))
unfolding exact_length
exact_length_lem ns names b h =
    let s = body_sum ns b h.good h.root h.block in
    let z = width_unit ns names b h in
    let u = unit_length (body_of ns names b) in
    omega arith
