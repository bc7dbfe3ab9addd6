-- Laws of the searches for a part.
use Rattle.table_records.specs.declared.NodeId.{NodeId}
use Rattle.std.specs.Prelude.{ℕ, zero, suc, ◌+◌, ◌≤◌, ◌<◌, ◌≡◌, Bool, true, false, ◌&&◌, eqb, length, drop, Option, Some, None}
use Rattle.std.proofs.Math.Path.{refl, ap, sym}
use Rattle.std.proofs.Common.{◌∙◌, subst, arith, eq-eqb, ne_eqb, eqb-true, lt-ltb, le-ltb}
use mathlib.Core.List.{List, [], ◌∷◌}
use Rattle.std.proofs.Math.Bool.{cond}
use Rattle.std.proofs.Math.Decide.{dec_lt}
use Rattle.base_common.proofs.UptoLaws.{and_left_lem, and_right_lem}
use Rattle.table_records.specs.Table.{count, role_of}
use Rattle.table_records.specs.Roles as role
use Rattle.table_children.specs.Children.{keep}
use Rattle.route_completion.specs.Sem.{is_yes, pick}
use Rattle.code_tree.specs.Parts.{up_of, is_part, parts, with_role}
use Rattle.code_tree.proofs.PartsLaws.{All, parts_turn, parts_end}
use Rattle.code_tree.specs.Parts.{Part}
use Rattle.code_tree.specs.Statements.{default_at}
use Rattle.code_tree.specs.First.{first_of}
use Rattle.route_steps.specs.Steps.{branch_of, from_default, cases_from, role_in}

module _ (ns : List ℕ) (p : ℕ) where
  module _ (i : ℕ) (h : i < count ns) (u : ℕ) (q : Bool) (a : u ≡ up_of ns i) (b : q ≡ is_part ns i) (ps : List ℕ) (e : parts ns p i ≡ ps) where
    turned : (x : Bool) → (eqb u p && q) ≡ x → parts ns p i ≡ cond x (i ∷ parts ns p (i + 1)) (parts ns p (i + 1))
    turned x t = parts_turn ns p i h ∙ ap (λ y. cond y (i ∷ parts ns p (i + 1)) (parts ns p (i + 1))) ((λ m. eqb (sym a m) p && sym b m) ∙ t)

    pub part_hit : (eqb u p && q) ≡ true → p < i → (ps ≡ i ∷ parts ns p (i + 1)) × Part ns p i
    part_hit t l =
        (sym e ∙ turned true t, record { behind = l; inside = h; parent = sym a ∙ eqb-true u p (and_left_lem (eqb u p) q t); part = sym b ∙ and_right_lem (eqb u p) q t })

    pub part_miss : (eqb u p && q) ≡ false → parts ns p (i + 1) ≡ ps
    part_miss t = sym (turned false t) ∙ e

  pub part_none : (i : ℕ) → count ns ≤ i → (ps : List ℕ) → parts ns p i ≡ ps → ps ≡ []
  part_none i h ps e = sym e ∙ parts_end ns p i h

  -- From a part on.
  pub from_part : (c : ℕ) → Part ns p c → parts ns p c ≡ c ∷ parts ns p (c + 1)
  from_part c w =
      parts_turn ns p c w.inside ∙ ap (λ y. cond y (c ∷ parts ns p (c + 1)) (parts ns p (c + 1))) ((λ m. eqb (up_of ns c) p && w.part m) ∙ (λ m. eq-eqb (up_of ns c) p w.parent m && true))

  -- The search for the a-th, with `left` still to pass.
  pub nth_on : (ps qs : List ℕ) (left c : ℕ) → drop left ps ≡ qs → ps ≡ c ∷ parts ns p (c + 1) → (left ≡ 0 → ⊥) → (k : ℕ) → k + 1 ≡ left → drop k (parts ns p (c + 1)) ≡ qs
  nth_on ps qs left c e f n k z = (λ m. drop k (parts ns p (c + 1))) ∙ sym (let y : left ≡ suc k = omega (arith, z) in (λ m. drop (y m) (f m))) ∙ e

  pub nth_hit : (ps qs : List ℕ) (left c : ℕ) → drop left ps ≡ qs → ps ≡ c ∷ parts ns p (c + 1) → left ≡ 0 → qs ≡ c ∷ parts ns p (c + 1)
  nth_hit ps qs left c e f z = sym e ∙ (λ m. drop (z m) (f m))

  drop_none : (n : ℕ) → drop {A = ℕ} n [] ≡ []
  drop_none zero = refl
  drop_none (suc n) = refl

  pub nth_none : (ps qs : List ℕ) (left : ℕ) → drop left ps ≡ qs → ps ≡ [] → qs ≡ []
  nth_none ps qs left e f = sym e ∙ ap (drop left) f ∙ drop_none left

  -- The search for `default`.
  pub default_on : (ps qs : List ℕ) (c : ℕ) → from_default ns ps ≡ qs → ps ≡ c ∷ parts ns p (c + 1) → (d : Bool) → d ≡ default_at ns c → d ≡ false → from_default ns (parts ns p (c + 1)) ≡ qs
  default_on ps qs c e f d q z = sym (ap (from_default ns) f ∙ ap (λ x. cond x (c ∷ parts ns p (c + 1)) (from_default ns (parts ns p (c + 1)))) (sym q ∙ z)) ∙ e

  pub default_hit : (ps qs : List ℕ) (c : ℕ) → from_default ns ps ≡ qs → ps ≡ c ∷ parts ns p (c + 1) → (d : Bool) → d ≡ default_at ns c → d ≡ true → qs ≡ c ∷ parts ns p (c + 1)
  default_hit ps qs c e f d q z = sym e ∙ ap (from_default ns) f ∙ ap (λ x. cond x (c ∷ parts ns p (c + 1)) (from_default ns (parts ns p (c + 1)))) (sym q ∙ z)

  pub default_none : (ps qs : List ℕ) → from_default ns ps ≡ qs → ps ≡ [] → qs ≡ []
  default_none ps qs e f = sym e ∙ ap (from_default ns) f

  -- The a-th case, or else the default.
  long : (ps : List ℕ) (a c : ℕ) (cs : List ℕ) → drop a ps ≡ c ∷ cs → a < length ps
  long [] zero c cs e = let z : ◌≡◌ {A = ℕ} 0 1 = cc in absurd (omega arith)
  long [] (suc a) c cs e = let z : ◌≡◌ {A = ℕ} 0 1 = cc in absurd (omega arith)
  long (x ∷ ps) zero c cs e = omega arith
  long (x ∷ ps) (suc a) c cs e = let h = long ps a c cs e in omega arith

  short : (ps : List ℕ) (a : ℕ) → drop a ps ≡ [] → length ps ≤ a
  short [] a e = omega arith
  short (x ∷ ps) zero e = let z : ◌≡◌ {A = ℕ} 0 1 = cc in absurd (omega arith)
  short (x ∷ ps) (suc a) e = let h = short ps a e in omega arith

  pub case_nth : (ps : List ℕ) (a c : ℕ) (cs : List ℕ) → drop a ps ≡ c ∷ cs → cases_from ns ps a ≡ c ∷ cs
  unfolding cases_from
  case_nth ps a c cs e = ap (λ x. cond x (drop a ps) (from_default ns ps)) (lt-ltb a (length ps) (long ps a c cs e)) ∙ e

  pub case_default : (ps : List ℕ) (a : ℕ) → drop a ps ≡ [] → cases_from ns ps a ≡ from_default ns ps
  unfolding cases_from
  case_default ps a e = ap (λ x. cond x (drop a ps) (from_default ns ps)) (le-ltb a (length ps) (short ps a e))

  -- The search by role.
  abbrev role_from : ℕ → List ℕ → Option NodeId
  role_from r ps = first_of (with_role ns r ps)

  pub role_start : (r : ℕ) → role_from r (parts ns p (p + 1)) ≡ role_in ns p r
  unfolding role_in
  role_start r = refl

  pub role_on : (r : ℕ) (ps : List ℕ) (c : ℕ) → role_from r ps ≡ role_in ns p r → ps ≡ c ∷ parts ns p (c + 1) → (m : ℕ) → m ≡ role_of ns c → (m ≡ r → ⊥) → role_from r (parts ns p (c + 1)) ≡ role_in ns p r
  unfolding keep
  role_on r ps c e f m q n =
      sym (ap (role_from r) f ∙ ap (λ x. first_of (cond x (c ∷ with_role ns r (parts ns p (c + 1))) (with_role ns r (parts ns p (c + 1))))) (ne_eqb (role_of ns c) r (λ d. n (q ∙ d)))) ∙ e

  pub role_hit : (r : ℕ) (ps : List ℕ) (c : ℕ) → role_from r ps ≡ role_in ns p r → ps ≡ c ∷ parts ns p (c + 1) → (m : ℕ) → m ≡ role_of ns c → m ≡ r → Some (record { 0 = c }) ≡ role_in ns p r
  unfolding keep
  role_hit r ps c e f m q n =
      sym (ap (role_from r) f ∙ ap (λ x. first_of (cond x (c ∷ with_role ns r (parts ns p (c + 1))) (with_role ns r (parts ns p (c + 1))))) (eq-eqb (role_of ns c) r (sym q ∙ n))) ∙ e

  pub role_none : (r : ℕ) (ps : List ℕ) → role_from r ps ≡ role_in ns p r → ps ≡ [] → None ≡ role_in ns p r
  unfolding keep
  role_none r ps e f = sym (ap (role_from r) f) ∙ e

  -- No part from i on stands before i.
  parts_low : (low g i : ℕ) → count ns ≤ i + g → low ≤ i → All (λ c. low ≤ c) (parts ns p i)
  parts_low low zero i f h = subst (All (λ c. low ≤ c)) (sym (parts_end ns p i (omega arith))) tt
  parts_low low (suc g) i f h = go (parts_low low g (i + 1) (omega arith) (omega arith)) (dec_lt i (count ns))
    where
      by : (x : Bool) → All (λ c. low ≤ c) (parts ns p (i + 1)) → All (λ c. low ≤ c) (cond x (i ∷ parts ns p (i + 1)) (parts ns p (i + 1)))
      by true r = (h, r)
      by false r = r

      go : All (λ c. low ≤ c) (parts ns p (i + 1)) → Dec (i < count ns) → All (λ c. low ≤ c) (parts ns p i)
      go r (no l) = subst (All (λ c. low ≤ c)) (sym (parts_end ns p i (omega arith))) tt
      go r (yes l) = subst (All (λ c. low ≤ c)) (sym (parts_turn ns p i l)) (by (eqb (up_of ns i) p && is_part ns i) r)

  pub first_low_lem : (i c : ℕ) (cs : List ℕ) → parts ns p i ≡ c ∷ cs → i ≤ c
  first_low_lem i c cs e = (subst (All (λ d. i ≤ d)) e (parts_low i (count ns) i (omega arith) (omega arith))).0

-- The branch of an If.
yes_is : (a : ℕ) → (a ≡ 0 → ⊥) → is_yes a ≡ true
yes_is zero n = absurd (n refl)
yes_is (suc a) n = refl

module _ (ns ps : List ℕ) (a c : ℕ) (cs : List ℕ) (e : ps ≡ c ∷ cs) where
  pub branch_one_no : cs ≡ [] → a ≡ 0 → None ≡ branch_of ns ps a
  branch_one_no f z = sym ((λ i. branch_of ns ((e ∙ ap (λ l. c ∷ l) f) i) (z i)))

  pub branch_one_yes : cs ≡ [] → (a ≡ 0 → ⊥) → Some (record { 0 = c }) ≡ branch_of ns ps a
  branch_one_yes f n = sym (ap (λ l. branch_of ns l a) (e ∙ ap (λ l. c ∷ l) f) ∙ ap (λ b. pick b (Some (record { 0 = c })) None) (yes_is a n))

  module _ (d : ℕ) (ds : List ℕ) (f : cs ≡ d ∷ ds) (m : ℕ) (q : m ≡ role_of ns c) where
    both : (x y : Bool) → eqb m role.Alternate ≡ x → is_yes a ≡ y → cond x (pick y (Some (record { 0 = d })) (Some (record { 0 = c }))) (pick y (Some (record { 0 = c })) (Some (record { 0 = d }))) ≡ branch_of ns ps a
    both x y u v =
        sym (ap (λ l. branch_of ns l a) (e ∙ ap (λ l. c ∷ l) f)
        ∙ (λ i. cond (((λ j. eqb (sym q j) role.Alternate) ∙ u) i) (pick (v i) (Some (record { 0 = d })) (Some (record { 0 = c }))) (pick (v i) (Some (record { 0 = c })) (Some (record { 0 = d })))))

    pub branch_alternate_no : m ≡ role.Alternate → a ≡ 0 → Some (record { 0 = c }) ≡ branch_of ns ps a
    branch_alternate_no u z = both true false (eq-eqb m role.Alternate u) (ap is_yes z)

    pub branch_alternate_yes : m ≡ role.Alternate → (a ≡ 0 → ⊥) → Some (record { 0 = d }) ≡ branch_of ns ps a
    branch_alternate_yes u n = both true true (eq-eqb m role.Alternate u) (yes_is a n)

    pub branch_held_no : (m ≡ role.Alternate → ⊥) → a ≡ 0 → Some (record { 0 = d }) ≡ branch_of ns ps a
    branch_held_no u z = both false false (ne_eqb m role.Alternate u) (ap is_yes z)

    pub branch_held_yes : (m ≡ role.Alternate → ⊥) → (a ≡ 0 → ⊥) → Some (record { 0 = c }) ≡ branch_of ns ps a
    branch_held_yes u n = both false true (ne_eqb m role.Alternate u) (yes_is a n)

pub branch_none : (ns ps : List ℕ) (a : ℕ) → ps ≡ [] → None ≡ branch_of ns ps a
branch_none ns ps a e = sym (ap (λ l. branch_of ns l a) e)
