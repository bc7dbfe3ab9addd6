-- One law for each turn of the loops; and how wide a node of the unit is at most.
use Rattle.code_widths.specs.Widths.{Units}
use Prim.Native.Nat.{ℕ, zero, suc, ◌+◌, ◌-◌, ◌*◌, ◌≤◌, ◌<◌}
use Rattle.std.specs.Prelude.{◌≡◌, refl, ◌⊎◌, List, ◌∷◌, Bool, ◌&&◌, eqb, get_or, length, set}
use Rattle.std.proofs.Math.Path.{ap, subst}
use Rattle.std.proofs.Common.{sym, ◌∙◌, inl, inr, length-set, get_or-set_same, get_or-set_other, eq-or-lt_of_le}
use Rattle.std.proofs.Math.Bool.{true, false, cond}
use Rattle.std.proofs.Math.Decide.{dec_lt}
use native.Mathlib.Omega.{arith}
use borrow.Author.Tests.{eq-eqb, eqb-true}
use Rattle.base_common.specs.Upto.{upto}
use Rattle.base_common.proofs.UptoLaws.{upto_nil, upto_cons}
use Rattle.base_common.proofs.Bools.{never}
use Rattle.table_records.specs.Table.{count, role_of}
use Rattle.table_records.specs.Roles as role
use Rattle.code_tree.specs.Parts.{up_of, shape_at, is_part, parts, order_by, order}
use Rattle.code_tree.proofs.PartsLaws.{parts_end, parts_turn, parts_all}
use Rattle.code_tree.specs.Parts.{Part}
use Rattle.code_tree.specs.declared.Shape.{Shape}
use Rattle.code_tree.specs.declared.Shape.TheVariants.{Leaf, Class, If, With, Block, Label, Loop, Switch, Case, Try, Catch}
use Rattle.code_layout.specs.Widths.{sum, in_unit, width_at, number_by, is_try, open_words}
use Rattle.code_layout.specs.Context.{offset_at}
use Rattle.code_layout.specs.Exact.{open_at, number_at}
use Rattle.code_layout.specs.Shaped.{Good, Held}
use Rattle.code_layout.proofs.LayoutLaws.{in_root, in_low, in_up, in_part, in_above, width_is_lem, own_width_root}
use Rattle.code_layout.proofs.ExactLaws.{plain_sum, node_number, body_sum}
use Rattle.code_layout.proofs.Stands.{in_from, part_in}
use Rattle.code_layout.proofs.Made.{offset_root}
use Rattle.code_widths.specs.Widths.{Zeros, counted, Counts, Widths}

-- Which nodes are the unit's, one by one.
module _ (ns : List ℕ) (b : ℕ) (g : Good ns) (j : ℕ) where
  pub unit_low : j < b → cond {A = ℕ} (in_unit ns b j) 1 0 ≡ 0
  unit_low h = ap (λ x. cond x 1 0) (in_low ns b j h)

  pub unit_root_lem : j ≡ b → cond {A = ℕ} (in_unit ns b j) 1 0 ≡ 1
  unit_root_lem h = ap (λ x. cond x 1 0) (ap (in_unit ns b) h ∙ in_root ns b)

  pub unit_no : b < j → j < count ns → is_part ns j ≡ false → cond {A = ℕ} (in_unit ns b j) 1 0 ≡ 0
  unit_no h l e = ap (λ x. cond x 1 0) (in_up ns b g.falls j h l ∙ ap (λ x. x && in_unit ns b (up_of ns j)) e)

  pub unit_part : b < j → j < count ns → is_part ns j ≡ true → cond {A = ℕ} (in_unit ns b j) 1 0 ≡ cond (in_unit ns b (up_of ns j)) 1 0
  unit_part h l e = ap (λ x. cond x 1 0) (in_up ns b g.falls j h l ∙ ap (λ x. x && in_unit ns b (up_of ns j)) e)

pub unit_test : (x : Bool) → cond {A = ℕ} x 1 0 ≡ 0 → x ≡ false
unit_test true e = absurd (omega arith)
unit_test false e = refl

pub unit_is_lem : (x : Bool) → (cond {A = ℕ} x 1 0 ≡ 0 → ⊥) → x ≡ true
unit_is_lem true e = refl
unit_is_lem false e = absurd (e refl)

-- The words of the parts of p from i on, node by node.
module _ (ns : List ℕ) (b p : ℕ) where
  abbrev pub Y : ℕ → ℕ
  Y j = counted ns b j

  pub sum_end : (i : ℕ) → count ns ≤ i → sum Y (parts ns p i) ≡ 0
  unfolding sum
  sum_end i h = ap (sum Y) (parts_end ns p i h)

  pub sum_part : (i : ℕ) → i < count ns → up_of ns i ≡ p → is_part ns i ≡ true → sum Y (parts ns p i) ≡ Y i + sum Y (parts ns p (i + 1))
  unfolding sum
  sum_part i h e q = ap (sum Y) (parts_turn ns p i h ∙ ap (λ t. cond t (i ∷ parts ns p (i + 1)) (parts ns p (i + 1))) (λ k. eq-eqb (up_of ns i) p e k && q k))

  pub sum_other : (i : ℕ) → i < count ns → (eqb (up_of ns i) p && is_part ns i) ≡ false → sum Y (parts ns p i) ≡ sum Y (parts ns p (i + 1))
  sum_other i h e = ap (sum Y) (parts_turn ns p i h ∙ ap (λ t. cond t (i ∷ parts ns p (i + 1)) (parts ns p (i + 1))) e)

  sum_step : (i : ℕ) → i < count ns → sum Y (parts ns p (i + 1)) ≤ sum Y (parts ns p i)
  unfolding sum
  sum_step i h = subst (λ l. sum Y (parts ns p (i + 1)) ≤ sum Y l) (sym (parts_turn ns p i h)) (go (eqb (up_of ns i) p && is_part ns i))
    where
      go : (x : Bool) → sum Y (parts ns p (i + 1)) ≤ sum Y (cond x (i ∷ parts ns p (i + 1)) (parts ns p (i + 1)))
      go true = omega arith
      go false = omega arith

  pub sum_less : (f i : ℕ) → sum Y (parts ns p (i + f)) ≤ sum Y (parts ns p i)
  sum_less zero i = subst (λ k. sum Y (parts ns p k) ≤ sum Y (parts ns p i)) (let e : i ≡ i + 0 = omega arith in e) (omega arith)
  sum_less (suc f) i = go (dec_lt i (count ns)) (sum_less f (i + 1))
    where
      go : Dec (i < count ns) → sum Y (parts ns p (i + 1 + f)) ≤ sum Y (parts ns p (i + 1)) → sum Y (parts ns p (i + suc f)) ≤ sum Y (parts ns p i)
      go (yes l) r =
          let s = sum_step i l in
          subst (λ k. sum Y (parts ns p k) ≤ sum Y (parts ns p i)) (let e : i + 1 + f ≡ i + suc f = omega arith in e) (omega arith)
      go (no l) r = let e = sum_end (i + suc f) (omega arith) in omega arith

-- Widths from what stands below, and how wide a node of the unit is at most.
number_small : (s : Shape) → number_by s ≤ 10
number_small Leaf = omega arith
number_small Class = omega arith
number_small If = omega arith
number_small With = omega arith
number_small Block = omega arith
number_small Label = omega arith
number_small Loop = omega arith
number_small Switch = omega arith
number_small Case = omega arith
number_small Try = omega arith
number_small Catch = omega arith

module _ (ns : List ℕ) where
  pub open_small : (j : ℕ) → open_at ns j ≤ 2
  unfolding open_at
  open_small j = go (eqb (role_of ns j) role.Finally && is_try (shape_at ns (up_of ns j)))
    where
      go : (x : Bool) → cond x open_words 0 ≤ 2
      go true = omega arith
      go false = omega arith

  sum_small : (b f i : ℕ) → count ns ≤ i + f → i ≤ count ns → sum (λ j. cond (in_unit ns b j) (number_at ns j) 0) (upto i (count ns)) + i * 12 ≤ count ns * 12
  unfolding sum
  sum_small b zero i h l = rw (upto_nil i (count ns) (omega arith)) (omega arith)
  sum_small b (suc f) i h l = go (dec_lt i (count ns)) (sum_small b f (i + 1) (omega arith))
    where
      one : (x : Bool) → cond x (number_at ns i) 0 ≤ 12
      one true = let a = number_small (shape_at ns i) in let c = open_small i in omega arith
      one false = omega arith

      go : Dec (i < count ns) → (i + 1 ≤ count ns → sum (λ j. cond (in_unit ns b j) (number_at ns j) 0) (upto (i + 1) (count ns)) + (i + 1) * 12 ≤ count ns * 12)
          → sum (λ j. cond (in_unit ns b j) (number_at ns j) 0) (upto i (count ns)) + i * 12 ≤ count ns * 12
      go (yes q) r = let a = r (omega arith) in let c = one (in_unit ns b i) in rw (upto_cons i (count ns) q) (omega arith)
      go (no q) r = rw (upto_nil i (count ns) (omega arith)) (omega arith)

module _ (ns names : List ℕ) (b : ℕ) (h : Held ns names b) where
  pub width_turn : (i : ℕ) → b < i → i < count ns → width_at ns b i ≡ number_by (shape_at ns i) + sum (counted ns b) (parts ns i (i + 1))
  width_turn i hb hc = let n = node_number ns b h.good i hb hc in omega arith

  pub width_root : width_at ns b b ≡ sum (counted ns b) (parts ns b (b + 1))
  unfolding order
  width_root =
      let y = plain_sum ns b h.good b (ap is_try h.block) (parts ns b (b + 1)) (parts_all ns b) in
      let o : sum (width_at ns b) (order ns b) ≡ sum (width_at ns b) (parts ns b (b + 1)) = ap (λ t. sum (width_at ns b) (order_by ns t (parts ns b (b + 1)))) h.block in
      let s = width_is_lem ns b b h.root in
      let w = own_width_root ns b in
      omega arith

  pub root_small : width_at ns b b ≤ count ns * 12
  root_small =
      let s = sum_small ns b (count ns) (b + 1) (omega arith) (omega (arith, h.root)) in
      let e = body_sum ns b h.good h.root h.block in
      omega arith

  -- What stands below a node of the unit lies within the unit's words.
  fits_by : (n j : ℕ) → j < n → j < count ns → in_unit ns b j ≡ true → offset_at ns names b j + width_at ns b j ≤ width_at ns b b
  fits_by zero j f hc e = absurd (omega arith)
  fits_by (suc n) j f hc e = go (eq-or-lt_of_le (in_from ns names b h.good j e)) (λ p l q v. fits_by n p l q v)
    where
      go : (b ≡ j) ⊎ (b < j) → ((p : ℕ) → p < n → p < count ns → in_unit ns b p ≡ true → offset_at ns names b p + width_at ns b p ≤ width_at ns b b) → offset_at ns names b j + width_at ns b j ≤ width_at ns b b
      go (inl q) ih = subst (λ k. offset_at ns names b k + width_at ns b k ≤ width_at ns b b) q (let o = offset_root ns names b h in omega arith)
      go (inr hb) ih =
          let w = in_part ns b h.good.falls j hb hc e in
          let u = in_above ns b h.good.falls j hb hc e in
          let l = w.behind in
          let r = ih (up_of ns j) (omega arith) (omega arith) u in
          let i = part_in ns names b h.good (up_of ns j) j (in_from ns names b h.good (up_of ns j) u) (omega arith) w in
          omega (arith, i.1)

  pub fits : (j : ℕ) → j < count ns → in_unit ns b j ≡ true → offset_at ns names b j + width_at ns b j ≤ width_at ns b b
  fits j hc e = fits_by (suc j) j (omega arith) hc e

  pub width_small : (j : ℕ) → j < count ns → in_unit ns b j ≡ true → width_at ns b j ≤ 786420
  width_small j hc e = let f = fits j hc e in let r = root_small in let s = h.good.tree.small in omega arith

  -- The words of some parts of a node of the unit.
  pub parts_small : (p i : ℕ) → b ≤ p → p < i → p < count ns → in_unit ns b p ≡ true → sum (counted ns b) (parts ns p i) ≤ 786420
  parts_small p i hb hi hc e =
      let w = width_small p hc e in
      let s = subst (λ k. sum (counted ns b) (parts ns p k) ≤ sum (counted ns b) (parts ns p (p + 1))) (let q : p + 1 + (i - (p + 1)) ≡ i = omega arith in q) (sum_less ns b p (i - (p + 1)) (p + 1)) in
      go w s (eq-or-lt_of_le hb)
    where
      go : width_at ns b p ≤ 786420 → sum (counted ns b) (parts ns p i) ≤ sum (counted ns b) (parts ns p (p + 1)) → (b ≡ p) ⊎ (b < p) → sum (counted ns b) (parts ns p i) ≤ 786420
      go w s (inl q) = let r = subst (λ k. width_at ns b k ≡ sum (counted ns b) (parts ns k (k + 1))) q width_root in omega arith
      go w s (inr l) = let r = width_turn p l hc in omega arith

  -- THE TURN, for a node of the unit and for another.
  module _ (i : ℕ) (hb : b < i) (hc : i < count ns) (widths behinds : List ℕ) (lw : count ns ≤ length widths) (lb : count ns ≤ length behinds) (c : Counts ns b (i + 1) widths behinds) where
    abbrev up : ℕ
    up = up_of ns i

    pub counts_skip : in_unit ns b i ≡ false → Counts ns b i widths behinds
    counts_skip e =
        record {
          done = λ k l m u. go k u (eq-or-lt_of_le l) (λ q. c.done k q m u);
          after = λ k l m u. go k u (eq-or-lt_of_le l) (λ q. c.after k q m u);
          before = λ k l m u. c.before k l (omega arith) u ∙ sym (sum_other ns b k i hc (other k l m u (eqb (up_of ns i) k) refl (is_part ns i) refl));
        }
      where
        go : {A : Type 0} (k : ℕ) → in_unit ns b k ≡ true → (i ≡ k) ⊎ (i < k) → (i + 1 ≤ k → A) → A
        go k u (inl q) f = never (sym u ∙ ap (in_unit ns b) (sym q) ∙ e)
        go k u (inr q) f = f (omega arith)

        other : (k : ℕ) → b ≤ k → k < i → in_unit ns b k ≡ true → (x : Bool) → eqb (up_of ns i) k ≡ x → (y : Bool) → is_part ns i ≡ y → (x && y) ≡ false
        other k l m u true p true q =
            let v : in_unit ns b i ≡ true = in_up ns b h.good.falls i hb hc ∙ (λ t. q t && (ap (in_unit ns b) (eqb-true (up_of ns i) k p) ∙ u) t) in
            never (sym v ∙ e)
        other k l m u true p false q = refl
        other k l m u false p y q = refl

    abbrev own : ℕ
    own = get_or widths i 0 + number_by (shape_at ns i)

    abbrev rest : ℕ
    rest = get_or widths up 0

    pub own_is : in_unit ns b i ≡ true → own ≡ width_at ns b i
    own_is e = let w = c.before i (omega arith) (omega arith) e in let t = width_turn i hb hc in omega arith

    pub own_small : in_unit ns b i ≡ true → get_or widths i 0 ≤ 786420
    own_small e = let w = own_is e in let s = width_small i hc e in omega arith

    pub rest_small : in_unit ns b i ≡ true → rest ≤ 786420
    rest_small e =
        let w = in_part ns b h.good.falls i hb hc e in
        let u = in_above ns b h.good.falls i hb hc e in
        let l = in_from ns names b h.good (up_of ns i) u in
        let k = w.behind in
        let s = parts_small (up_of ns i) (i + 1) l (omega arith) (omega arith) u in
        let q = c.before (up_of ns i) l (omega arith) u in
        omega arith

    pub counts_turn : in_unit ns b i ≡ true → (w r : ℕ) → w ≡ own → r ≡ rest → Counts ns b i (set (set widths i w) up (r + w + open_at ns i)) (set behinds i r)
    counts_turn e w r ew er =
        record {
          done = λ k l m u. dones k m u (eq-or-lt_of_le l);
          after = λ k l m u. afters k m u (eq-or-lt_of_le l);
          before = λ k l m u. befores k l m u (eqb (up_of ns i) k) refl;
        }
      where
        part : Part ns (up_of ns i) i
        part = in_part ns b h.good.falls i hb hc e

        above : in_unit ns b (up_of ns i) ≡ true
        above = in_above ns b h.good.falls i hb hc e

        low : b ≤ up_of ns i
        low = in_from ns names b h.good (up_of ns i) above

        less : up_of ns i < i
        less = part.behind

        rest_is : rest ≡ sum (counted ns b) (parts ns (up_of ns i) (i + 1))
        rest_is = c.before (up_of ns i) low (omega (arith, less)) above

        other_up : (k : ℕ) → (up ≡ k → ⊥) → get_or (set (set widths i w) up (r + w + open_at ns i)) k 0 ≡ get_or (set widths i w) k 0
        other_up k n = get_or-set_other (set widths i w) up k (r + w + open_at ns i) 0 (λ q. n (sym q))

        dones : (k : ℕ) → k < count ns → in_unit ns b k ≡ true → (i ≡ k) ⊎ (i < k) → get_or (set (set widths i w) up (r + w + open_at ns i)) k 0 ≡ width_at ns b k
        dones k m u (inl q) =
            subst (λ k. get_or (set (set widths i w) up (r + w + open_at ns i)) k 0 ≡ width_at ns b k) q
            (other_up i (λ z. omega (arith, less)) ∙ get_or-set_same widths i w 0 (omega arith) ∙ ew ∙ own_is e)
        dones k m u (inr q) = other_up k (λ z. omega (arith, less)) ∙ get_or-set_other widths i k w 0 (λ z. omega arith) ∙ c.done k (omega arith) m u

        afters : (k : ℕ) → k < count ns → in_unit ns b k ≡ true → (i ≡ k) ⊎ (i < k) → get_or (set behinds i r) k 0 ≡ sum (counted ns b) (parts ns (up_of ns k) (k + 1))
        afters k m u (inl q) =
            subst (λ k. get_or (set behinds i r) k 0 ≡ sum (counted ns b) (parts ns (up_of ns k) (k + 1))) q (get_or-set_same behinds i r 0 (omega arith) ∙ er ∙ rest_is)
        afters k m u (inr q) = get_or-set_other behinds i k r 0 (λ z. omega arith) ∙ c.after k (omega arith) m u

        befores : (k : ℕ) → b ≤ k → k < i → in_unit ns b k ≡ true → (x : Bool) → eqb (up_of ns i) k ≡ x → get_or (set (set widths i w) up (r + w + open_at ns i)) k 0 ≡ sum (counted ns b) (parts ns k i)
        befores k l m u true p =
            let q = eqb-true (up_of ns i) k p in
            subst (λ k. get_or (set (set widths i w) up (r + w + open_at ns i)) k 0 ≡ sum (counted ns b) (parts ns k i)) q
            (get_or-set_same (set widths i w) up (r + w + open_at ns i) 0 (omega (arith, less, length-set widths i w))
            ∙ (let s = sum_part ns b (up_of ns i) i hc refl part.part in let o = own_is e in omega (arith, rest_is)))
        befores k l m u false p =
            let n : up_of ns i ≡ k → ⊥ = λ z. never (sym (eq-eqb (up_of ns i) k z) ∙ p) in
            other_up k n ∙ get_or-set_other widths i k w 0 (λ z. omega arith) ∙ c.before k l (omega arith) u
            ∙ sym (sum_other ns b k i hc (ap (λ x. x && is_part ns i) p))

  pub counts_start : (widths behinds : List ℕ) → Zeros (count ns) widths → Counts ns b (count ns) widths behinds
  counts_start widths behinds z =
      record { done = λ k l m u. absurd (omega arith); after = λ k l m u. absurd (omega arith); before = λ k l m u. z.is k m ∙ sym (sum_end ns b k (count ns) (omega arith)) }

  pub counts_end : (i : ℕ) → i ≡ b + 1 → (widths behinds : List ℕ) → Counts ns b i widths behinds → Widths ns b widths behinds
  counts_end i q widths behinds c =
      record { is = λ k l m u. go k m u (eq-or-lt_of_le l); after = λ k l m u. c.after k (omega arith) m u }
    where
      go : (k : ℕ) → k < count ns → in_unit ns b k ≡ true → (b ≡ k) ⊎ (b < k) → get_or widths k 0 ≡ width_at ns b k
      go k m u (inl e) =
          subst (λ k. get_or widths k 0 ≡ width_at ns b k) e
          (c.before b (omega arith) (omega arith) (in_root ns b) ∙ ap (λ x. sum (counted ns b) (parts ns b x)) q ∙ sym width_root)
      go k m u (inr e) = c.done k (omega arith) m u

module _ (ns : List ℕ) (b j : ℕ) where
  pub units_next : (u : ℕ) (l : List ℕ) → j < length l → u ≡ cond (in_unit ns b j) 1 0 → Units ns b j l → Units ns b (j + 1) (set l j u)
  units_next u l h e g = record { is = λ k q. go k (eq-or-lt_of_le q) }
    where
      go : (k : ℕ) → (suc k ≡ j + 1) ⊎ (suc k < j + 1) → get_or (set l j u) k 0 ≡ cond (in_unit ns b k) 1 0
      go k (inl x) = subst (λ i. get_or (set l j u) i 0 ≡ cond (in_unit ns b i) 1 0) (let y : j ≡ k = omega arith in y) (get_or-set_same l j u 0 h ∙ e)
      go k (inr x) = get_or-set_other l j k u 0 (λ q. omega arith) ∙ g.is k (omega arith)

  pub zeros_next : (l : List ℕ) → j < length l → Zeros j l → Zeros (j + 1) (set l j 0)
  zeros_next l h g = record { is = λ k q. go k (eq-or-lt_of_le q) }
    where
      go : (k : ℕ) → (suc k ≡ j + 1) ⊎ (suc k < j + 1) → get_or (set l j 0) k 0 ≡ 0
      go k (inl x) = subst (λ i. get_or (set l j 0) i 0 ≡ 0) (let y : j ≡ k = omega arith in y) (get_or-set_same l j 0 0 h)
      go k (inr x) = get_or-set_other l j k 0 0 (λ q. omega arith) ∙ g.is k (omega arith)
