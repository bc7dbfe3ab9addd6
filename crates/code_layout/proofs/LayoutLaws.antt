-- One law for each step up, and for each step down: who is in_unit, what holds at a node, sizes and words.
use Prim.Native.Nat.{ℕ, zero, suc, ◌+◌, ◌≤◌, ◌<◌}
use Rattle.std.specs.Prelude.{◌≡◌, Bool, ◌&&◌, eqb}
use Rattle.std.proofs.Math.Path.{refl, ap}
use Rattle.std.proofs.Common.{sym, ◌∙◌, arith, le-leb, eq-eqb, ne_eqb}
use mathlib.Core.List.{List, [], ◌∷◌, ◌++◌}
use Rattle.std.proofs.Math.Bool.{true, false, cond}
use Rattle.std.proofs.Math.ListN.{length, length-append}
use Rattle.std.proofs.lemmas.Bool.{lt-leb}
use Rattle.base_common.proofs.UptoLaws.{and_left_lem, and_right_lem}
use Rattle.base_walk.specs.Above.{Falls}
use Rattle.base_walk.proofs.AboveLaws.{fold_up}
use Rattle.table_records.specs.Table.{count}
use Rattle.table_records.specs.Roles as role
use Rattle.code_tree.specs.Parts.{up_of, shape_at, is_part, order}
use Rattle.code_tree.proofs.PartsLaws.{All, order_all_lem}
use Rattle.code_tree.specs.Parts.{Part}
use Rattle.code_tree.proofs.BoundLaws.{all_map}
use Rattle.code_tree.specs.declared.Shape.{Shape}
use Rattle.code_tree.specs.declared.Shape.TheVariants.{Leaf as Single, Class, If, With, Block, Label, Loop, Switch, Case, Try, Catch}
use Rattle.code_flat.specs.Opcodes as op
use Rattle.code_layout.specs.Widths.{has_role, sum, open_words, own_width_by, in_unit, own_width, width_by, width_at}
use Rattle.code_layout.specs.Context.{behind, Context, part_context_at, root_context, context_at}
use Rattle.code_layout.specs.Words.{last_from, words_by, words_at, flat, code_by, code_at}
use Rattle.code_layout.proofs.Sums.{sum_same}

module _ (ns : List ℕ) (b : ℕ) where
  pub in_root : in_unit ns b b ≡ true
  unfolding in_unit
  in_root = rw (le-leb b b (omega arith)) (eq-eqb b b refl)

  pub in_low : (j : ℕ) → j < b → in_unit ns b j ≡ false
  unfolding in_unit
  in_low j h = rw (le-leb j b (omega arith)) (ne_eqb j b (λ e. omega arith))

  module _ (t : Falls (up_of ns) (count ns)) (j : ℕ) (hb : b < j) (hc : j < count ns) where
    pub in_up : in_unit ns b j ≡ (is_part ns j && in_unit ns b (up_of ns j))
    unfolding in_unit
    in_up = rw (lt-leb j b hb) (ap (λ r. is_part ns j && r) (fold_up _ _ (up_of ns) (count ns) t j (omega arith) hc))

    pub in_part : in_unit ns b j ≡ true → Part ns (up_of ns j) j
    in_part e = record { behind = t j (omega arith) hc; inside = hc; parent = refl; part = and_left_lem (is_part ns j) (in_unit ns b (up_of ns j)) (sym in_up ∙ e) }

    pub in_above : in_unit ns b j ≡ true → in_unit ns b (up_of ns j) ≡ true
    in_above e = and_right_lem (is_part ns j) (in_unit ns b (up_of ns j)) (sym in_up ∙ e)

  pub in_down : Falls (up_of ns) (count ns) → (p c : ℕ) → b ≤ p → in_unit ns b p ≡ true → Part ns p c → in_unit ns b c ≡ true
  in_down t p c h e w =
      let l = w.behind in
      in_up t c (omega arith) w.inside ∙ (λ i. w.part i && in_unit ns b (w.parent i)) ∙ e

  pub own_width_on : (j : ℕ) → b < j → own_width ns b j ≡ own_width_by ns (shape_at ns j) (order ns j)
  unfolding own_width
  own_width_on j h = rw (ne_eqb j b (λ e. omega arith))

  pub own_width_root : own_width ns b b ≡ 0
  unfolding own_width
  own_width_root = rw (eq-eqb b b refl)

  -- The bound of the nesting says nothing where it reaches the count.
  width_bound : (f g j : ℕ) → j < count ns → count ns ≤ j + f → count ns ≤ j + g → width_by ns b f j ≡ width_by ns b g j
  unfolding width_by
  width_bound zero g j h x y = absurd (omega arith)
  width_bound (suc f) zero j h x y = absurd (omega arith)
  width_bound (suc f) (suc g) j h x y =
      ap (λ k. own_width ns b j + k)
      (sum_same (width_by ns b f) (width_by ns b g) (order ns j)
      (all_map (Part ns j) _ (λ c p. width_bound f g c p.inside (omega (arith, p.behind)) (omega (arith, p.behind))) (order ns j) (order_all_lem ns j)))

  pub width_is_lem : (j : ℕ) → j < count ns → width_at ns b j ≡ own_width ns b j + sum (width_at ns b) (order ns j)
  unfolding width_at width_by
  width_is_lem j h = width_bound (count ns) (suc (count ns)) j h (omega arith) (omega arith)

module _ (ns names : List ℕ) (b : ℕ) where
  pub context_root : context_at ns names b b ≡ root_context ns names b
  unfolding context_at
  context_root = rw (le-leb b b (omega arith))

  pub context_up : Falls (up_of ns) (count ns) → (j : ℕ) → b < j → j < count ns → context_at ns names b j ≡ part_context_at ns names b (up_of ns j) j (context_at ns names b (up_of ns j))
  unfolding context_at
  context_up t j hb hc = rw (lt-leb j b hb) (ap (part_context_at ns names b (up_of ns j) j) (fold_up _ _ (up_of ns) (count ns) t j (omega arith) hc))

  pub context_part : Falls (up_of ns) (count ns) → (p c : ℕ) → b ≤ p → Part ns p c → context_at ns names b c ≡ part_context_at ns names b p c (context_at ns names b p)
  context_part t p c h w =
      let l = w.behind in
      context_up t c (omega arith) w.inside ∙ ap (λ k. part_context_at ns names b k c (context_at ns names b k)) w.parent

  pub words_on : (j : ℕ) → b < j → words_at ns names b j ≡ words_by ns names b (shape_at ns j) j (order ns j) (context_at ns names b j) (behind (order ns (up_of ns j)) j)
  unfolding words_at
  words_on j h = rw (ne_eqb j b (λ e. omega arith))

  pub words_root : words_at ns names b b ≡ []
  unfolding words_at
  words_root = rw (eq-eqb b b refl)

  -- A node's words are as many as it says.
  length_by : (sh : Shape) (j : ℕ) (ps : List ℕ) (a : Context) (m : ℕ) → length (words_by ns names b sh j ps a m) ≡ own_width_by ns sh ps
  length_by Single j ps a m = refl
  length_by Class j ps a m = refl
  length_by If j ps a m = refl
  length_by With j ps a m = refl
  length_by Block j ps a m = refl
  length_by Label j ps a m = refl
  length_by Loop j ps a m = refl
  length_by Switch j ps a m = refl
  length_by Case j ps a m = refl
  length_by Try j ps a m = go (has_role ns role.Finally ps)
    where
      go : (x : Bool) → length (cond x (op.Open ∷ last_from ns b ps (a.offset + 2) ∷ []) []) ≡ cond x open_words 0
      go true = refl
      go false = refl
  length_by Catch j ps a m = refl

  pub words_length_lem : (j : ℕ) → length (words_at ns names b j) ≡ own_width ns b j
  unfolding words_at own_width
  words_length_lem j = go (eqb j b)
    where
      go : (x : Bool) → length (cond x [] (words_by ns names b (shape_at ns j) j (order ns j) (context_at ns names b j) (behind (order ns (up_of ns j)) j))) ≡ cond x 0 (own_width_by ns (shape_at ns j) (order ns j))
      go true = refl
      go false = length_by (shape_at ns j) j (order ns j) (context_at ns names b j) (behind (order ns (up_of ns j)) j)

  pub flat_same_lem : (P Q : ℕ → List ℕ) (l : List ℕ) → All (λ c. P c ≡ Q c) l → flat ns names b P l ≡ flat ns names b Q l
  unfolding flat
  flat_same_lem P Q [] a = refl
  flat_same_lem P Q (c ∷ cs) a = λ i. a.0 i ++ flat_same_lem P Q cs a.1 i

  code_bound : (f g j : ℕ) → j < count ns → count ns ≤ j + f → count ns ≤ j + g → code_by ns names b f j ≡ code_by ns names b g j
  unfolding code_by
  code_bound zero g j h x y = absurd (omega arith)
  code_bound (suc f) zero j h x y = absurd (omega arith)
  code_bound (suc f) (suc g) j h x y =
      ap (λ k. words_at ns names b j ++ k)
      (flat_same_lem (code_by ns names b f) (code_by ns names b g) (order ns j)
      (all_map (Part ns j) _ (λ c p. code_bound f g c p.inside (omega (arith, p.behind)) (omega (arith, p.behind))) (order ns j) (order_all_lem ns j)))

  pub code_is : (j : ℕ) → j < count ns → code_at ns names b j ≡ words_at ns names b j ++ flat ns names b (code_at ns names b) (order ns j)
  unfolding code_at code_by
  code_is j h = code_bound (count ns) (suc (count ns)) j h (omega arith) (omega arith)

  length_flat : (P : ℕ → List ℕ) (z : ℕ → ℕ) (l : List ℕ) → All (λ c. length (P c) ≡ z c) l → length (flat ns names b P l) ≡ sum z l
  unfolding flat sum
  length_flat P z [] a = refl
  length_flat P z (c ∷ cs) a = length-append (P c) (flat ns names b P cs) ∙ (λ i. a.0 i + length_flat P z cs a.1 i)

  length_code : (f j : ℕ) → length (code_by ns names b f j) ≡ width_by ns b f j
  unfolding code_by width_by
  length_code zero j = refl
  length_code (suc f) j =
      length-append (words_at ns names b j) (flat ns names b (code_by ns names b f) (order ns j))
      ∙ (λ i. words_length_lem j i + length_flat (code_by ns names b f) (width_by ns b f) (order ns j) (all_map (Part ns j) _ (λ c p. length_code f c) (order ns j) (order_all_lem ns j)) i)

  -- What stands below a node is as long as its size says.
  pub code_length_lem : (j : ℕ) → length (code_at ns names b j) ≡ width_at ns b j
  unfolding code_at width_at
  code_length_lem j = length_code (count ns) j
