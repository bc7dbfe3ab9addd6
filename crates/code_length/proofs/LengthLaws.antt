-- The sum over the unit's nodes is the length of its code.
use Rattle.table_records.specs.declared.NodeId.{NodeId}
use Prim.Native.Nat.{ℕ, zero, suc, ◌+◌, ◌≤◌, ◌<◌}
use Rattle.std.specs.Prelude.{◌≡◌, ◌⊎◌, Bool, false, not, ◌&&◌, ◌||◌, eqb, Option, Some, None}
use Rattle.std.proofs.Math.Path.{refl, ap, sym}
use Rattle.std.proofs.Common.{subst, ◌∙◌, inl, inr, ⊎_elim, eq-or-lt_of_le}
use mathlib.Core.List.{List, [], ◌∷◌, foldr}
use Rattle.std.proofs.Math.Bool.{true, cond}
use Rattle.std.proofs.Math.Decide.{dec_lt}
use native.Mathlib.Omega.{arith}
use borrow.Author.Tests.{eq-eqb, ne_eqb, eqb-true, eqb-false}
use Rattle.std.proofs.Math.ListN.{length}
use Rattle.base_common.specs.Upto.{upto}
use Rattle.base_common.proofs.UptoLaws.{upto_cons, and_left_lem, and_right_lem}
use Rattle.base_common.specs.Tests.{within}
use Rattle.base_common.proofs.Bools.{never, either, in_range_lem, range_of}
use Rattle.table_records.specs.Table.{kind_of, parent_of, role_of, flags_of, count, has_flag}
use Rattle.table_records.specs.Facts.{Tree, Named}
use Rattle.table_records.specs.Kinds as k
use Rattle.table_records.specs.Roles as role
use Rattle.table_records.specs.NodeFlag as flag
use Rattle.table_children.specs.Children.{is_child, next_child, function_body_of}
use Rattle.table_children.proofs.ChildrenLaws.{tally, tally_all, tally_turn, node_on, node_stop, number}
use Rattle.table_ancestry.proofs.AncestryLaws.{ancestors_up, ancestors_root}
use Rattle.check_jumps.specs.Jumps.{is_unit}
use Rattle.refusal_fields.specs.Fields.{Listed}
use Rattle.refusal_standing.specs.Standing.{is_statement, is_holder, is_held, parent_kind, Placed}
use Rattle.refusal_counts.specs.Counts.{Counted}
use Rattle.code_flat.specs.Code.{unit, sizes}
use Rattle.code_flat.proofs.Correct.{unit_length}
use Rattle.code_tree.specs.Parts.{entered_by, up_of, shape_at, is_part, part_by}
use Rattle.code_tree.specs.Parts.{Part}
use Rattle.code_tree.specs.Statements.{holder_of, unit_by, unit_of}
use Rattle.code_tree.proofs.UpLaws.{up_falls}
use Rattle.code_tree.specs.declared.Shape.TheVariants.{Class}
use Rattle.code_layout.specs.Widths.{sum, in_unit, is_try}
use Rattle.code_layout.specs.Exact.{open_at, number_at, exact_length}
use Rattle.code_layout.proofs.ExactLaws.{sum_none, upto_all, exact_length_lem}
use Rattle.code_layout.proofs.LayoutLaws.{in_root, in_low, in_part, in_above, in_down}
use Rattle.code_layout.proofs.Sums.{sum_same}
use Rattle.code_wellformed.proofs.KindsLaws.{switch_shape, try_shape, class_shape}
use Rattle.code_wellformed.proofs.Parts.{static_up, plain_up}
use Rattle.code_wellformed.proofs.Holder.{Root, holder_root, holder_in_lem}
use Rattle.code_wellformed.proofs.HolderReady.{holder_ready}
use Rattle.code_length.specs.Length.{number_of, unit_number, is_listed, is_exported, is_entered, is_closed, of_unit, added_by, code_length}
use Rattle.code_length.specs.Kinds.{open_holder}
use Rattle.code_length.proofs.KindsLaws.{holder_is_lem, holder_open, try_holds, body_holds_none, export_holds_none, switch_stands, branch_part, finally_block, block_number, try_is, held_part, part_is_lem, may_count_lem, number_part, number_static, number_case, number_finally, number_some}

-- Of at most one child that fits, the first that is found is it.
module _ (ns : List ℕ) (p lo hi a b j : ℕ) (l : j < count ns) (e : is_child ns p lo hi a b j ≡ true) where
  tally_here : (i : ℕ) → i ≡ j → 1 ≤ tally ns p lo hi a b i
  tally_here i z =
      let u = tally_turn ns p lo hi a b i (omega arith) in
      let v : ◌≡◌ {A = ℕ} (cond (is_child ns p lo hi a b i) 1 0) 1 = rw (z, e) in
      omega arith

  tallied : (f i : ℕ) → j ≤ i + f → i ≤ j → 1 ≤ tally ns p lo hi a b i
  tallied zero i h q = tally_here i (omega arith)
  tallied (suc f) i h q =
      ⊎_elim (λ (z : i ≡ j). tally_here i z)
      (λ (z : i < j). let u = tally_turn ns p lo hi a b i (omega arith) in let v = tallied f (i + 1) (omega arith) (omega arith) in omega arith) (eq-or-lt_of_le q)

  first_here : (i : ℕ) → i ≡ j → next_child ns p lo hi a b i ≡ Some (record { 0 = j })
  first_here i z = rw z (node_stop (is_child ns p lo hi a b) j (count ns) l e)

  first_is : (f i : ℕ) → j ≤ i + f → i ≤ j → tally ns p lo hi a b i ≤ 1 → next_child ns p lo hi a b i ≡ Some (record { 0 = j })
  first_is zero i h q o = first_here i (omega arith)
  first_is (suc f) i h q o =
      ⊎_elim (λ (z : i ≡ j). first_here i z)
      (λ (z : i < j). go z (is_child ns p lo hi a b i) refl (λ o. first_is f (i + 1) (omega arith) (omega arith) o)) (eq-or-lt_of_le q)
    where
      go : i < j → (x : Bool) → is_child ns p lo hi a b i ≡ x → (tally ns p lo hi a b (i + 1) ≤ 1 → next_child ns p lo hi a b (i + 1) ≡ Some (record { 0 = j })) → next_child ns p lo hi a b i ≡ Some (record { 0 = j })
      go z true x r =
          let u = tally_turn ns p lo hi a b i (omega arith) in
          let v : ◌≡◌ {A = ℕ} (cond (is_child ns p lo hi a b i) 1 0) 1 = rw x in
          let y = tallied j (i + 1) (omega arith) (omega arith) in
          absurd (omega arith)
      go z false x r =
          let u = tally_turn ns p lo hi a b i (omega arith) in
          let v : ◌≡◌ {A = ℕ} (cond (is_child ns p lo hi a b i) 1 0) 0 = rw x in
          node_on (is_child ns p lo hi a b) i (count ns) (omega arith) x ∙ r (omega arith)

-- Sums.
fold_sum : (z : ℕ → ℕ) (l : List ℕ) → foldr (λ n r. z n + r) 0 l ≡ sum z l
unfolding sum
fold_sum z [] = refl
fold_sum z (c ∷ l) = ap (λ r. z c + r) (fold_sum z l)

-- What adds nothing may be left out.
sum_from : (z : ℕ → ℕ) (n f i m : ℕ) → m ≤ i + f → i ≤ m → m ≤ n → ((j : ℕ) → i ≤ j → j < m → z j ≡ 0) → sum z (upto i n) ≡ sum z (upto m n)
unfolding sum
sum_from z n zero i m h a c q = ap (λ x. sum z (upto x n)) (let e : i ≡ m = omega arith in e)
sum_from z n (suc f) i m h a c q = go (dec_lt i m) (λ x. sum_from z n f (i + 1) m (omega arith) x c (λ j u v. q j (omega arith) v))
  where
    go : Dec (i < m) → (i + 1 ≤ m → sum z (upto (i + 1) n) ≡ sum z (upto m n)) → sum z (upto i n) ≡ sum z (upto m n)
    go (no x) r = ap (λ x. sum z (upto x n)) (let e : i ≡ m = omega arith in e)
    go (yes x) r =
        let y = q i (omega arith) x in
        let w = r (omega arith) in
        ap (sum z) (upto_cons i n (omega arith)) ∙ omega arith

and_no : (x : Bool) → ◌≡◌ {A = ℕ} (cond (x && false) 2 0) 0
and_no true = refl
and_no false = refl

module _ (ns : List ℕ) (t : Tree ns) (li : Listed ns) (pl : Placed ns) (co : Counted ns) (u : ℕ) (lu : u < count ns) (eu : is_unit (kind_of ns u) ≡ true) where
  low_kind : kind_of ns u ≤ k.StaticBlock
  low_kind = (range_of (kind_of ns u) k.Program k.StaticBlock eu).1

  -- Steps of the way up.
  step : (j : ℕ) → 0 < j → j < count ns → of_unit ns u j ≡ cond (eqb (parent_of ns j) u) true (cond (is_closed ns (parent_of ns j)) false (of_unit ns u (parent_of ns j)))
  unfolding of_unit
  step j h l = ancestors_up _ _ ns t j h l

  top : of_unit ns u 0 ≡ false
  unfolding of_unit
  top = ancestors_root _ _ ns

  here : (j : ℕ) → 0 < j → j < count ns → parent_of ns j ≡ u → of_unit ns u j ≡ true
  here j h l q = step j h l ∙ ap (λ x. cond x true (cond (is_closed ns (parent_of ns j)) false (of_unit ns u (parent_of ns j)))) (eq-eqb (parent_of ns j) u q)

  on : (j : ℕ) → 0 < j → j < count ns → is_closed ns (parent_of ns j) ≡ false → of_unit ns u (parent_of ns j) ≡ true → of_unit ns u j ≡ true
  on j h l c e = step j h l ∙ go (eqb (parent_of ns j) u)
    where
      go : (x : Bool) → cond x true (cond (is_closed ns (parent_of ns j)) false (of_unit ns u (parent_of ns j))) ≡ true
      go true = refl
      go false = ap (λ y. cond y false (of_unit ns u (parent_of ns j))) c ∙ e

  back : (j : ℕ) → 0 < j → j < count ns → of_unit ns u j ≡ true → (parent_of ns j ≡ u) ⊎ ((is_closed ns (parent_of ns j) ≡ false) × (of_unit ns u (parent_of ns j) ≡ true))
  back j h l e = go (eqb (parent_of ns j) u) refl (is_closed ns (parent_of ns j)) refl (sym (step j h l) ∙ e)
    where
      go : (x : Bool) → eqb (parent_of ns j) u ≡ x → (y : Bool) → is_closed ns (parent_of ns j) ≡ y → cond x true (cond y false (of_unit ns u (parent_of ns j))) ≡ true
          → (parent_of ns j ≡ u) ⊎ ((is_closed ns (parent_of ns j) ≡ false) × (of_unit ns u (parent_of ns j) ≡ true))
      go true p y q z = inl (eqb-true (parent_of ns j) u p)
      go false p true q z = never (sym z)
      go false p false q z = inr (q, z)

  -- A node whose kind is no unit's is another.
  back_on : (j : ℕ) → 0 < j → j < count ns → 3 < parent_kind ns j → of_unit ns u j ≡ true → (is_closed ns (parent_of ns j) ≡ false) × (of_unit ns u (parent_of ns j) ≡ true)
  back_on j h l q e =
      ⊎_elim (λ x. let y = low_kind in let z : parent_kind ns j ≡ kind_of ns u = ap (kind_of ns) x in absurd (omega arith)) (λ x. x) (back j h l e)

  later : (j : ℕ) → (kind_of ns j ≡ 0 → ⊥) → 0 < j
  later j n = ⊎_elim (λ (z : 0 ≡ j). absurd (n (ap (kind_of ns) (sym z) ∙ t.root))) (λ z. z) (eq-or-lt_of_le (omega arith))

  member : (j : ℕ) → of_unit ns u j ≡ true → 0 < j
  member j e = ⊎_elim (λ (z : 0 ≡ j). never (sym e ∙ ap (of_unit ns u) (sym z) ∙ top)) (λ z. z) (eq-or-lt_of_le (omega arith))

  parent_in : (j : ℕ) → 0 < j → j < count ns → parent_of ns j < count ns
  parent_in j h l = let f = t.falls j h l in omega arith

  -- What is no function, arrow or class is open; so is a class that is entered.
  unclosed : (a : ℕ) → within (kind_of ns a) k.Function k.Arrow ≡ false → eqb (kind_of ns a) k.Class ≡ false → is_closed ns a ≡ false
  unclosed a e f = λ i. e i || (f i && not (is_entered ns a))

  unclosed_kind : (a : ℕ) → 3 ≤ kind_of ns a → (kind_of ns a ≡ k.Class → ⊥) → is_closed ns a ≡ false
  unclosed_kind a h n = unclosed a (outside (within (kind_of ns a) k.Function k.Arrow) refl) (ne_eqb (kind_of ns a) k.Class n)
    where
      outside : (x : Bool) → within (kind_of ns a) k.Function k.Arrow ≡ x → x ≡ false
      outside true e = let r = (range_of (kind_of ns a) k.Function k.Arrow e).1 in absurd (omega arith)
      outside false e = refl

  entered : (c : ℕ) → kind_of ns c ≡ k.Class → is_entered ns c ≡ true → is_closed ns c ≡ false
  entered c q e = λ i. within (q i) k.Function k.Arrow || (eqb (q i) k.Class && not (e i))

  opened : (c : ℕ) → kind_of ns c ≡ k.Class → is_closed ns c ≡ false → is_entered ns c ≡ true
  opened c q e = go (is_entered ns c) refl
    where
      go : (x : Bool) → is_entered ns c ≡ x → is_entered ns c ≡ true
      go true z = z
      go false z = never (sym (λ i. within (q i) k.Function k.Arrow || (eqb (q i) k.Class && not (z i))) ∙ e)

  -- A static block's ClassBody and class.
  module _ (j : ℕ) (l : j < count ns) (q : kind_of ns j ≡ k.StaticBlock) where
    abbrev body : ℕ
    body = parent_of ns j

    abbrev class : ℕ
    class = parent_of ns (parent_of ns j)

    static_later : 0 < j
    static_later = later j (λ z. omega arith)

    body_in_lem : body < count ns
    body_in_lem = parent_in j static_later l

    body_kind : kind_of ns body ≡ k.ClassBody
    body_kind = pl.static_block j l q

    body_later : 0 < body
    body_later = later body (λ z. let r = body_kind in omega arith)

    class_in : class < count ns
    class_in = parent_in body body_later body_in_lem

    class_kind : kind_of ns class ≡ k.Class
    class_kind = pl.class_body body body_in_lem body_kind

    class_later : 0 < class
    class_later = later class (λ z. let r = class_kind in omega arith)

    static_from : up_of ns j ≡ cond (is_exported ns class) (parent_of ns class) class
    unfolding up_of
    static_from = ap (λ x. cond x (entered_by ns (parent_of ns (parent_of ns j))) (parent_of ns j)) (eq-eqb (kind_of ns j) k.StaticBlock q)

  plain_from : (j : ℕ) → (kind_of ns j ≡ k.StaticBlock → ⊥) → up_of ns j ≡ parent_of ns j
  plain_from j n = plain_up ns t li pl j (ne_eqb (kind_of ns j) k.StaticBlock n)

  is_static_lem : (j : ℕ) → (kind_of ns j ≡ k.StaticBlock) ⊎ (kind_of ns j ≡ k.StaticBlock → ⊥)
  is_static_lem j = go (eqb (kind_of ns j) k.StaticBlock) refl
    where
      go : (x : Bool) → eqb (kind_of ns j) k.StaticBlock ≡ x → (kind_of ns j ≡ k.StaticBlock) ⊎ (kind_of ns j ≡ k.StaticBlock → ⊥)
      go true e = inl (eqb-true (kind_of ns j) k.StaticBlock e)
      go false e = inr (eqb-false (kind_of ns j) k.StaticBlock e)

  export_kind : (c : ℕ) → is_exported ns c ≡ true → (53 ≤ parent_kind ns c) × (parent_kind ns c ≤ 54)
  export_kind c e = range_of (parent_kind ns c) k.ExportDefault k.ExportNamed (and_left_lem (within (parent_kind ns c) k.ExportDefault k.ExportNamed) (has_flag (flags_of ns c) flag.Declaration) e)

  export_shape : (a : ℕ) → 53 ≤ kind_of ns a → kind_of ns a ≤ 54 → shape_at ns a ≡ Class
  export_shape a h r =
      ⊎_elim (λ (z : kind_of ns a ≡ 54). class_shape (kind_of ns a) (inr (inr z))) (λ (z : kind_of ns a < 54). class_shape (kind_of ns a) (inr (inl (omega arith)))) (eq-or-lt_of_le r)

  -- FROM THE TABLE TO THE CODE: a node of the unit that may add a number is one of the code's.
  abbrev Held : ℕ → Type 0
  Held j = (role.Held ≤ role_of ns j) × (role_of ns j ≤ role.Finally) × (is_holder (parent_kind ns j) ≡ true)

  abbrev Counts : ℕ → Type 0
  Counts j = Held j ⊎ ((kind_of ns j ≡ k.SwitchCase) ⊎ (kind_of ns j ≡ k.StaticBlock))

  abbrev Place : ℕ → Type 0
  Place h = (b : ℕ) × (holder_of ns u ≡ Some (record { 0 = b })) × (b ≤ h) × (in_unit ns b h ≡ true)

  abbrev Reached : ℕ → Type 0
  Reached j = (b : ℕ) × (holder_of ns u ≡ Some (record { 0 = b })) × (b < j) × (in_unit ns b j ≡ true)

  placed : (j : ℕ) → Reached j → Place j
  placed j w = let (b, e, h, i) = w in (b, e, omega arith, i)

  place_down : (p j : ℕ) → Part ns p j → Place p → Reached j
  place_down p j w x = let (b, e, h, i) = x in let l = w.behind in (b, e, omega arith, in_down ns b (up_falls ns t) p j h i w)

  listed_held : (j : ℕ) → is_listed ns j ≡ true → Held j
  listed_held j e =
      let r = range_of (role_of ns j) role.Held role.Finally (and_left_lem (is_held (role_of ns j)) (is_holder (parent_kind ns j)) e) in
      (r.0, r.1, and_right_lem (is_held (role_of ns j)) (is_holder (parent_kind ns j)) e)

  holder_self : within (kind_of ns u) k.Function k.Arrow ≡ false → holder_of ns u ≡ Some (record { 0 = u })
  unfolding holder_of
  holder_self e = ap (λ x. cond x (function_body_of ns u) (Some (record { 0 = u }))) e

  -- A FunctionBody of the unit is the one.
  holder_body : (h : ℕ) → h < count ns → kind_of ns h ≡ k.FunctionBody → parent_of ns h ≡ u → holder_of ns u ≡ Some (record { 0 = h })
  unfolding holder_of is_child
  holder_body h l q p =
      let f = pl.function_body h l q in
      let x : parent_kind ns h ≡ kind_of ns u = ap (kind_of ns) p in
      let lo : 1 ≤ kind_of ns u = omega (arith, f.0) in
      let hi : kind_of ns u ≤ 2 = omega (arith, f.1) in
      let d = t.falls h (later h (λ z. omega arith)) l in
      let c : is_child ns u k.FunctionBody k.FunctionBody 0 7 h ≡ true = (λ i. eq-eqb (parent_of ns h) u p i && (in_range_lem (kind_of ns h) 4 4 (omega arith) (omega arith) i && in_range_lem (role_of ns h) 0 7 (omega arith) (li.role h l) i)) in
      let n = co.function_body u lu lo hi in
      ap (λ x. cond x (function_body_of ns u) (Some (record { 0 = u }))) (in_range_lem (kind_of ns u) k.Function k.Arrow lo hi)
      ∙ first_is ns u k.FunctionBody k.FunctionBody 0 7 h l c h (u + 1) (omega arith) (omega arith) (subst (λ m. m ≤ 1) (sym (tally_all ns u k.FunctionBody k.FunctionBody 0 7)) n)

  -- What holds a statement of the unit is in its code, or is where the code begins.
  module _ (h : ℕ) (l : h < count ns) (a : is_holder (kind_of ns h) ≡ true) (again : Counts h → of_unit ns u h ≡ true → Reached h) where
    holder_unit : h ≡ u → Place h
    holder_unit q =
        let o : within (kind_of ns u) k.Function k.Arrow ≡ false = ap (λ x. within (kind_of ns x) k.Function k.Arrow) (sym q) ∙ holder_open (kind_of ns h) (li.kind h l) a in
        (u, holder_self o, omega arith, ap (in_unit ns u) q ∙ in_root ns u)

    holder_function : of_unit ns u h ≡ true → kind_of ns h ≡ k.FunctionBody → Place h
    holder_function e q =
        let z = member h e in
        let f = pl.function_body h l q in
        ⊎_elim (λ p. (h, holder_body h l q p, omega arith, in_root ns h))
        (λ w. never (sym (ap (λ x. x || (eqb (parent_kind ns h) k.Class && not (is_entered ns (parent_of ns h)))) (in_range_lem (parent_kind ns h) k.Function k.Arrow f.0 f.1)) ∙ w.0))
        (back h z l e)

    holder_inner : of_unit ns u h ≡ true → Place h
    holder_inner e = go (either _ _ (holder_is_lem (kind_of ns h) (li.kind h l) a))
      where
        held : is_statement (kind_of ns h) ≡ true → Place h
        held q = placed h (again (inl (pl.stands h l q)) e)

        clause : (eqb (kind_of ns h) k.CatchClause ≡ true) ⊎ (is_statement (kind_of ns h) ≡ true) → Place h
        clause (inl q) =
            let c = pl.clause h l (eqb-true (kind_of ns h) k.CatchClause q) in
            let r = c.1 in
            placed h (again (inl (omega arith, omega arith, try_holds (parent_kind ns h) c.0)) e)
        clause (inr q) = held q

        case : (eqb (kind_of ns h) k.SwitchCase ≡ true) ⊎ ((eqb (kind_of ns h) k.CatchClause || is_statement (kind_of ns h)) ≡ true) → Place h
        case (inl q) = placed h (again (inr (inl (eqb-true (kind_of ns h) k.SwitchCase q))) e)
        case (inr q) = clause (either _ _ q)

        static : (eqb (kind_of ns h) k.StaticBlock ≡ true) ⊎ ((eqb (kind_of ns h) k.SwitchCase || (eqb (kind_of ns h) k.CatchClause || is_statement (kind_of ns h))) ≡ true) → Place h
        static (inl q) = placed h (again (inr (inr (eqb-true (kind_of ns h) k.StaticBlock q))) e)
        static (inr q) = case (either _ _ q)

        function : (eqb (kind_of ns h) k.FunctionBody ≡ true)
            ⊎ ((eqb (kind_of ns h) k.StaticBlock || (eqb (kind_of ns h) k.SwitchCase || (eqb (kind_of ns h) k.CatchClause || is_statement (kind_of ns h)))) ≡ true) → Place h
        function (inl q) = holder_function e (eqb-true (kind_of ns h) k.FunctionBody q)
        function (inr q) = static (either _ _ q)

        go : (eqb (kind_of ns h) k.Program ≡ true)
            ⊎ ((eqb (kind_of ns h) k.FunctionBody || (eqb (kind_of ns h) k.StaticBlock || (eqb (kind_of ns h) k.SwitchCase || (eqb (kind_of ns h) k.CatchClause || is_statement (kind_of ns h))))) ≡ true) → Place h
        go (inl q) = absurd (t.inner h (member h e) l (eqb-true (kind_of ns h) k.Program q))
        go (inr q) = function (either _ _ q)

  -- A statement with a role that its holder takes is its part.
  part_of_holder : (j : ℕ) → 0 < j → j < count ns → Held j → part_by (shape_at ns (parent_of ns j)) (kind_of ns j) (role_of ns j) ≡ true
  part_of_holder j h l w =
      let lo = w.0 in
      let hi = w.1 in
      ⊎_elim (λ (z : role.Held ≡ role_of ns j). subst (λ r. part_by (shape_at ns (parent_of ns j)) (kind_of ns j) r ≡ true) z (held_part (parent_kind ns j) (li.kind (parent_of ns j) (parent_in j h l)) w.2 (kind_of ns j)))
      (λ (z : role.Held < role_of ns j). other z (pl.alternate j h l z hi)) (eq-or-lt_of_le lo)
    where
      tried : (r : ℕ) → 3 < r → r ≤ 5 → (eqb r role.Held || (eqb r role.Alternate || eqb r role.Finally)) ≡ true
      tried r x y =
          ⊎_elim (λ (z : r ≡ 5). ap (λ m. eqb m role.Held || (eqb m role.Alternate || eqb m role.Finally)) z)
          (λ (z : r < 5). let e : r ≡ 4 = omega arith in ap (λ m. eqb m role.Held || (eqb m role.Alternate || eqb m role.Finally)) e) (eq-or-lt_of_le y)

      other : role.Held < role_of ns j → (parent_kind ns j ≡ k.Try) ⊎ ((parent_kind ns j ≡ k.If) × (role_of ns j ≡ role.Alternate)) → part_by (shape_at ns (parent_of ns j)) (kind_of ns j) (role_of ns j) ≡ true
      other z (inl x) = ap (λ s. part_by s (kind_of ns j) (role_of ns j)) (try_shape (parent_kind ns j) x) ∙ tried (role_of ns j) z w.1
      other z (inr x) = branch_part (parent_kind ns j) (kind_of ns j) (role_of ns j) x.0 x.1

  reach : (f j : ℕ) → j ≤ f → j < count ns → Counts j → of_unit ns u j ≡ true → Reached j
  unfolding is_part
  reach zero j h l c e = let z = member j e in absurd (omega arith)
  reach (suc f) j h l c e = go c (λ p x y. reach f p (omega arith) (omega arith) y)
    where
      z : 0 < j
      z = member j e

      below : parent_of ns j < j
      below = t.falls j z l

      go : Counts j → ((p : ℕ) → p < j → Counts p → of_unit ns u p ≡ true → Reached p) → Reached j
      go (inl w) ih =
          let s : kind_of ns j ≡ k.StaticBlock → ⊥ = λ x. never (sym w.2 ∙ body_holds_none (parent_kind ns j) (pl.static_block j l x)) in
          place_down (parent_of ns j) j
          (record { behind = below; inside = l; parent = plain_from j s; part = ap (λ p. part_by (shape_at ns p) (kind_of ns j) (role_of ns j)) (plain_from j s) ∙ part_of_holder j z l w })
          (⊎_elim (λ x. holder_unit (parent_of ns j) (parent_in j z l) w.2 (ih (parent_of ns j) below) x) (λ x. holder_inner (parent_of ns j) (parent_in j z l) w.2 (ih (parent_of ns j) below) x.1) (back j z l e))
      go (inr (inl q)) ih = switched (pl.switch_case j l q).0 (pl.switch_case j l q).1
        where
          switched : parent_kind ns j ≡ k.Switch → role_of ns j ≡ role.Held → Reached j
          switched p r =
              let b = back_on j z l (omega arith) e in
              let v = plain_from j (λ x. omega arith) in
              let s = pl.stands (parent_of ns j) (parent_in j z l) (switch_stands (parent_kind ns j) p) in
              place_down (parent_of ns j) j
              (record {
                behind = below;
                inside = l;
                parent = v;
                part = ap (λ p. part_by (shape_at ns p) (kind_of ns j) (role_of ns j)) v ∙ ap (λ s. part_by s (kind_of ns j) (role_of ns j)) (switch_shape (parent_kind ns j) p) ∙ eq-eqb (role_of ns j) role.Held r;
              })
              (placed (parent_of ns j) (ih (parent_of ns j) below (inl s) b.1))
      go (inr (inr q)) ih =
          let kb = body_kind j l q in
          let kc = class_kind j l q in
          let b = back_on j z l (omega arith) e in
          let c = back_on (body j l q) (body_later j l q) (body_in_lem j l q) (omega arith) b.1 in
          let dc = t.falls (body j l q) (body_later j l q) (body_in_lem j l q) in
          blocks (is_exported ns (class j l q)) refl (opened (class j l q) kc c.0) c.1 (omega (arith, below, dc))
        where
          hold : (p : ℕ) → p < j → up_of ns j ≡ p → shape_at ns p ≡ Class → Place p → Reached j
          hold p d v s w =
              place_down p j
              (record {
                behind = d;
                inside = l;
                parent = v;
                part = ap (λ p. part_by (shape_at ns p) (kind_of ns j) (role_of ns j)) v ∙ ap (λ s. part_by s (kind_of ns j) (role_of ns j)) s ∙ eq-eqb (kind_of ns j) k.StaticBlock q;
              })
              w

          blocks : (x : Bool) → is_exported ns (class j l q) ≡ x → is_entered ns (class j l q) ≡ true → of_unit ns u (class j l q) ≡ true → class j l q < j → Reached j
          blocks true x n o d =
              let K = export_kind (class j l q) x in
              let lo = K.0 in
              let g = back_on (class j l q) (class_later j l q) (class_in j l q) (omega arith) o in
              let de = t.falls (class j l q) (class_later j l q) (class_in j l q) in
              let lp = parent_in (class j l q) (class_later j l q) (class_in j l q) in
              hold (parent_of ns (class j l q)) (omega arith) (static_from j l q ∙ ap (λ y. cond y (parent_of ns (class j l q)) (class j l q)) x) (export_shape (parent_of ns (class j l q)) K.0 K.1)
              (placed (parent_of ns (class j l q))
              (ih (parent_of ns (class j l q)) (omega arith)
              (inl (listed_held (parent_of ns (class j l q))
              (⊎_elim (λ y. never (sym (and_right_lem (is_held (role_of ns (class j l q))) (is_holder (parent_kind ns (class j l q))) y) ∙ export_holds_none (parent_kind ns (class j l q)) K.0 K.1))
              (λ y. and_right_lem (is_exported ns (class j l q)) (is_listed ns (parent_of ns (class j l q))) y) (either _ _ n))))
              g.1))
          blocks false x n o d =
              hold (class j l q) d (static_from j l q ∙ ap (λ y. cond y (parent_of ns (class j l q)) (class j l q)) x) (class_shape (kind_of ns (class j l q)) (inl (class_kind j l q)))
              (placed (class j l q)
              (ih (class j l q) d
              (inl (listed_held (class j l q)
              (⊎_elim (λ y. y) (λ y. never (sym (and_left_lem (is_exported ns (class j l q)) (is_listed ns (parent_of ns (class j l q))) y) ∙ x)) (either _ _ n))))
              o))

  -- FROM THE CODE TO THE TABLE.
  module _ (b : ℕ) (held : holder_of ns u ≡ Some (record { 0 = b })) where
    root : Root ns u lu low_kind b held
    root = holder_root ns u lu low_kind b held

    root_low : kind_of ns b ≤ 4
    root_low = ⊎_elim (λ w. let y = low_kind in let q : kind_of ns b ≡ kind_of ns u = ap (kind_of ns) w.0 in omega arith) (λ w. let y = w.0 in omega arith) root

    -- What is right below b.
    first : (j : ℕ) → b < j → j < count ns → parent_of ns j ≡ b → is_closed ns (parent_of ns j) ≡ false → of_unit ns u j ≡ true
    first j h l p c =
        ⊎_elim (λ w. here j (omega arith) l (p ∙ w.0))
        (λ w. let y = w.1 in on j (omega arith) l c (ap (of_unit ns u) p ∙ here b (omega arith) w.2 w.3)) root

    -- A part that is no static block: a case or a statement, in a holder that is open.
    abbrev Stands : ℕ → Type 0
    Stands j = ((kind_of ns j ≡ k.SwitchCase) ⊎ (is_listed ns j ≡ true)) × (is_closed ns (parent_of ns j) ≡ false)

    stands_part : (j : ℕ) → 0 < j → j < count ns → is_part ns j ≡ true → (kind_of ns j ≡ k.StaticBlock → ⊥) → Stands j
    unfolding is_part
    stands_part j z l e n = go (part_is_lem (parent_kind ns j) (kind_of ns j) (role_of ns j) (li.kind (parent_of ns j) (parent_in j z l)) p)
      where
        p : part_by (shape_at ns (parent_of ns j)) (kind_of ns j) (role_of ns j) ≡ true
        p = sym (ap (λ m. part_by (shape_at ns m) (kind_of ns j) (role_of ns j)) (plain_from j n)) ∙ e

        stand : role.Held ≤ role_of ns j → role_of ns j ≤ role.Finally → (eqb (parent_kind ns j) k.Switch ≡ true) ⊎ (is_holder (parent_kind ns j) ≡ true) → (kind_of ns j ≡ k.SwitchCase) ⊎ (is_listed ns j ≡ true)
        stand lo hi (inl x) =
            let q = eqb-true (parent_kind ns j) k.Switch x in
            inl (pl.in_switch j l q (eqb-true (role_of ns j) role.Held (sym (ap (λ s. part_by s (kind_of ns j) (role_of ns j)) (switch_shape (parent_kind ns j) q)) ∙ p)))
        stand lo hi (inr x) = inr (λ i. in_range_lem (role_of ns j) role.Held role.Finally lo hi i && x i)

        off : (x : Bool) → not x ≡ true → x ≡ false
        off true e = never (sym e)
        off false e = refl

        go : (kind_of ns j ≡ k.StaticBlock) ⊎ ((role.Held ≤ role_of ns j) × (role_of ns j ≤ role.Finally) × (open_holder (parent_kind ns j) ≡ true)) → Stands j
        go (inl q) = absurd (n q)
        go (inr w) =
            let o = and_right_lem (eqb (parent_kind ns j) k.Switch || is_holder (parent_kind ns j)) (not (within (parent_kind ns j) k.Function k.Arrow) && not (eqb (parent_kind ns j) k.Class)) w.2 in (
              stand w.0 w.1 (either _ _ (and_left_lem (eqb (parent_kind ns j) k.Switch || is_holder (parent_kind ns j)) (not (within (parent_kind ns j) k.Function k.Arrow) && not (eqb (parent_kind ns j) k.Class)) w.2)),
              unclosed (parent_of ns j) (off _ (and_left_lem (not (within (parent_kind ns j) k.Function k.Arrow)) (not (eqb (parent_kind ns j) k.Class)) o))
                  (off _ (and_right_lem (not (within (parent_kind ns j) k.Function k.Arrow)) (not (eqb (parent_kind ns j) k.Class)) o)),
            )

    -- A class or export of the code is listed.
    listed : (j : ℕ) → b < j → j < count ns → in_unit ns b j ≡ true → 26 ≤ kind_of ns j → is_listed ns j ≡ true
    listed j h l e q =
        ⊎_elim (λ x. absurd (omega arith)) (λ x. x) (stands_part j (omega arith) l (in_part ns b (up_falls ns t) j h l e).part (λ x. omega arith)).0

    above_root : (j : ℕ) → b < j → j < count ns → in_unit ns b j ≡ true → (b ≡ up_of ns j) ⊎ (b < up_of ns j)
    above_root j h l e = go (dec_lt (up_of ns j) b)
      where
        go : Dec (up_of ns j < b) → (b ≡ up_of ns j) ⊎ (b < up_of ns j)
        go (yes x) = never (sym (in_above ns b (up_falls ns t) j h l e) ∙ in_low ns b (up_of ns j) x)
        go (no x) = eq-or-lt_of_le (omega arith)

    pub inside : (f j : ℕ) → j ≤ f → b < j → j < count ns → in_unit ns b j ≡ true → of_unit ns u j ≡ true
    inside zero j hf h l e = absurd (omega arith)
    inside (suc f) j hf h l e = go (is_static_lem j) (λ p d x y. inside f p (omega arith) x (omega arith) y)
      where
        w : Part ns (up_of ns j) j
        w = in_part ns b (up_falls ns t) j h l e

        i : in_unit ns b (up_of ns j) ≡ true
        i = in_above ns b (up_falls ns t) j h l e

        go : (kind_of ns j ≡ k.StaticBlock) ⊎ (kind_of ns j ≡ k.StaticBlock → ⊥) → ((p : ℕ) → p < j → b < p → in_unit ns b p ≡ true → of_unit ns u p ≡ true) → of_unit ns u j ≡ true
        go (inr n) ih =
            let v = plain_from j n in
            let s = stands_part j (omega arith) l w.part n in
            let d = t.falls j (omega arith) l in
            ⊎_elim (λ x. first j h l (sym (x ∙ v)) s.1)
            (λ x. on j (omega arith) l s.1 (ih (parent_of ns j) d (subst (λ p. b < p) v x) (ap (in_unit ns b) (sym v) ∙ i))) (above_root j h l e)
        go (inl q) ih = blocks (is_exported ns (class j l q)) refl
          where
            -- From the class, which is entered, down to the block.
            down : is_entered ns (class j l q) ≡ true → of_unit ns u (class j l q) ≡ true → of_unit ns u j ≡ true
            down n o =
                let kb = body_kind j l q in
                on j (omega arith) l (unclosed_kind (body j l q) (omega arith) (λ x. omega arith)) (on (body j l q) (body_later j l q) (body_in_lem j l q) (entered (class j l q) (class_kind j l q) n) o)

            high : (p : ℕ) → up_of ns j ≡ p → 26 ≤ kind_of ns p → b < p
            high p v x =
                let y = root_low in
                ⊎_elim (λ z. let r : kind_of ns b ≡ kind_of ns p = ap (kind_of ns) (z ∙ v) in absurd (omega arith)) (λ z. subst (λ m. b < m) v z) (above_root j h l e)

            blocks : (x : Bool) → is_exported ns (class j l q) ≡ x → of_unit ns u j ≡ true
            blocks true x =
                let K = export_kind (class j l q) x in
                let lo = K.0 in
                let v = static_from j l q ∙ ap (λ y. cond y (parent_of ns (class j l q)) (class j l q)) x in
                let r : b < parent_of ns (class j l q) = high (parent_of ns (class j l q)) v (omega arith) in
                let y : in_unit ns b (parent_of ns (class j l q)) ≡ true = ap (in_unit ns b) (sym v) ∙ i in
                let lp = parent_in (class j l q) (class_later j l q) (class_in j l q) in
                let m = listed (parent_of ns (class j l q)) r lp y (omega arith) in
                let d : parent_of ns (class j l q) < j = subst (λ p. p < j) v w.behind in
                down ((λ k. is_listed ns (class j l q) || (x k && m k)) ∙ or_on (is_listed ns (class j l q)))
                (on (class j l q) (class_later j l q) (class_in j l q) (unclosed_kind (parent_of ns (class j l q)) (omega arith) (λ z. omega arith)) (ih (parent_of ns (class j l q)) d r y))
              where
                or_on : (x : Bool) → (x || true) ≡ true
                or_on true = refl
                or_on false = refl
            blocks false x =
                let kc = class_kind j l q in
                let v = static_from j l q ∙ ap (λ y. cond y (parent_of ns (class j l q)) (class j l q)) x in
                let r : b < class j l q = high (class j l q) v (omega arith) in
                let y : in_unit ns b (class j l q) ≡ true = ap (in_unit ns b) (sym v) ∙ i in
                let m = listed (class j l q) r (class_in j l q) y (omega arith) in
                let d : class j l q < j = subst (λ p. p < j) v w.behind in
                down (ap (λ z. z || (is_exported ns (class j l q) && is_listed ns (parent_of ns (class j l q)))) m) (ih (class j l q) d r y)

    -- The number of each node of the code.
    numbers : (j : ℕ) → b < j → j < count ns → in_unit ns b j ≡ true → number_at ns j ≡ number_of (kind_of ns j) (role_of ns j) (parent_kind ns j)
    unfolding open_at
    numbers j h l e = go (is_static_lem j)
      where
        z : 0 < j
        z = omega arith

        go : (kind_of ns j ≡ k.StaticBlock) ⊎ (kind_of ns j ≡ k.StaticBlock → ⊥) → number_at ns j ≡ number_of (kind_of ns j) (role_of ns j) (parent_kind ns j)
        go (inl q) =
            let o : open_at ns j ≡ 0 = ap (λ s. cond (eqb (role_of ns j) role.Finally && is_try s) 2 0) (static_up ns t li pl j l q) ∙ and_no (eqb (role_of ns j) role.Finally) in
            let n = number_static (kind_of ns j) (role_of ns j) (parent_kind ns j) q in
            omega arith
        go (inr n) = by (eqb (role_of ns j) role.Finally && eqb (parent_kind ns j) k.Try) refl
          where
            o : (x : Bool) → (eqb (role_of ns j) role.Finally && eqb (parent_kind ns j) k.Try) ≡ x → open_at ns j ≡ cond x 2 0
            o x q =
                ap (λ m. cond (eqb (role_of ns j) role.Finally && is_try (shape_at ns m)) 2 0) (plain_from j n)
                ∙ ap (λ y. cond (eqb (role_of ns j) role.Finally && y) 2 0) (try_is (parent_kind ns j) (li.kind (parent_of ns j) (parent_in j z l))) ∙ ap (λ y. cond y 2 0) q

            by : (x : Bool) → (eqb (role_of ns j) role.Finally && eqb (parent_kind ns j) k.Try) ≡ x → number_at ns j ≡ number_of (kind_of ns j) (role_of ns j) (parent_kind ns j)
            by true x =
                let r = eqb-true (role_of ns j) role.Finally (and_left_lem (eqb (role_of ns j) role.Finally) (eqb (parent_kind ns j) k.Try) x) in
                let p = eqb-true (parent_kind ns j) k.Try (and_right_lem (eqb (role_of ns j) role.Finally) (eqb (parent_kind ns j) k.Try) x) in
                let q = finally_block (kind_of ns j) (role_of ns j) r (pl.in_try j l p (omega arith) (omega arith)) in
                let y = o true x in
                let v = number_finally (kind_of ns j) (role_of ns j) (parent_kind ns j) q r p in
                let w = block_number (kind_of ns j) q in
                omega arith
            by false x =
                let y = o false x in
                let v = ⊎_elim (λ q. number_case (kind_of ns j) (role_of ns j) (parent_kind ns j) q)
                (λ m.
                let w = listed_held j m in
                number_part (kind_of ns j) (role_of ns j) (parent_kind ns j) (li.kind j l) (may_count_lem (kind_of ns j) (⊎_elim inl (λ x. inr (⊎_elim inl (λ y. inr y.0) x)) (pl.held j z l w.0 w.1 w.2))) m x) (stands_part j z l (in_part ns b (up_falls ns t) j h l e).part n).0 in
                omega arith

  -- BOTH: each node adds the same.
  abbrev N : ℕ → ℕ
  N j = number_of (kind_of ns j) (role_of ns j) (parent_kind ns j)

  counted : (j : ℕ) → j < count ns → eqb (N j) 0 ≡ false → Counts j
  counted j l e = go (either _ _ (number_some (kind_of ns j) (role_of ns j) (parent_kind ns j) (li.kind j l) e))
    where
      held : (is_statement (kind_of ns j) ≡ true) ⊎ (is_listed ns j ≡ true) → Counts j
      held (inl q) = inl (pl.stands j l q)
      held (inr q) = inl (listed_held j q)

      case : (eqb (kind_of ns j) k.SwitchCase ≡ true) ⊎ ((is_statement (kind_of ns j) || is_listed ns j) ≡ true) → Counts j
      case (inl q) = inr (inl (eqb-true (kind_of ns j) k.SwitchCase q))
      case (inr q) = held (either _ _ q)

      go : (eqb (kind_of ns j) k.StaticBlock ≡ true) ⊎ ((eqb (kind_of ns j) k.SwitchCase || (is_statement (kind_of ns j) || is_listed ns j)) ≡ true) → Counts j
      go (inl q) = inr (inr (eqb-true (kind_of ns j) k.StaticBlock q))
      go (inr q) = case (either _ _ q)

  -- A node of the unit adds nothing, or is in the code.
  none_or : (j : ℕ) → j < count ns → of_unit ns u j ≡ true → (N j ≡ 0) ⊎ Reached j
  none_or j l e = go (eqb (N j) 0) refl
    where
      go : (x : Bool) → eqb (N j) 0 ≡ x → (N j ≡ 0) ⊎ Reached j
      go true q = inl (eqb-true (N j) 0 q)
      go false q = inr (reach j j (omega arith) l (counted j l q) e)

  module _ (b : ℕ) (held : holder_of ns u ≡ Some (record { 0 = b })) where
    same_holder : (c : ℕ) → holder_of ns u ≡ Some (record { 0 = c }) → c ≡ b
    same_holder c e = ap number (sym e ∙ held)

    adds : (j : ℕ) → b < j → j < count ns → added_by ns u j ≡ cond (in_unit ns b j) (number_at ns j) 0
    adds j h l = go (of_unit ns u j) refl (in_unit ns b j) refl
      where
        go : (x : Bool) → of_unit ns u j ≡ x → (y : Bool) → in_unit ns b j ≡ y → cond x (N j) 0 ≡ cond y (number_at ns j) 0
        go true e true d = sym (numbers b held j h l d)
        go true e false d =
            ⊎_elim (λ q. q) (λ w. let (c, f, m, i) = w in never (sym i ∙ ap (λ x. in_unit ns x j) (same_holder c f) ∙ d)) (none_or j l e)
        go false e true d = never (sym (inside b held j j (omega arith) h l d) ∙ e)
        go false e false d = refl

    low : (j : ℕ) → j < b + 1 → j < count ns → added_by ns u j ≡ 0
    low j h l = go (of_unit ns u j) refl
      where
        go : (x : Bool) → of_unit ns u j ≡ x → cond x (N j) 0 ≡ 0
        go true e = ⊎_elim (λ q. q) (λ w. let (c, f, m, i) = w in let z = same_holder c f in absurd (omega arith)) (none_or j l e)
        go false e = refl

    summed : foldr (λ n r. added_by ns u n + r) 0 (upto 0 (count ns)) ≡ sum (λ j. cond (in_unit ns b j) (number_at ns j) 0) (upto (b + 1) (count ns))
    summed =
        let i = holder_in_lem ns u lu low_kind b held in
        fold_sum (added_by ns u) (upto 0 (count ns))
        ∙ sum_from (added_by ns u) (count ns) (b + 1) 0 (b + 1) (omega arith) (omega arith) (omega arith) (λ j a c. low j c (omega arith))
        ∙ sum_same (added_by ns u) (λ j. cond (in_unit ns b j) (number_at ns j) 0) (upto (b + 1) (count ns)) (upto_all _ (count ns) (count ns) (b + 1) (omega arith) (λ j a c. adds j (omega arith) c))

  -- A unit without statements: nothing adds.
  nothing : holder_of ns u ≡ None → foldr (λ n r. added_by ns u n + r) 0 (upto 0 (count ns)) ≡ 0
  nothing e = fold_sum (added_by ns u) (upto 0 (count ns)) ∙ sum_none (added_by ns u) (upto 0 (count ns)) (upto_all _ (count ns) (count ns) 0 (omega arith) (λ j a c. go j c (of_unit ns u j) refl))
    where
      absent : (c : ℕ) → holder_of ns u ≡ Some (record { 0 = c }) → ⊥
      absent c f = let d : ◌≡◌ {A = Option NodeId} (Some (record { 0 = c })) None = sym f ∙ e in let z : ◌≡◌ {A = ℕ} 0 1 = cc in omega arith

      go : (j : ℕ) → j < count ns → (x : Bool) → of_unit ns u j ≡ x → cond x (N j) 0 ≡ 0
      go j l true q = ⊎_elim (λ y. y) (λ w. let (c, f, m, i) = w in absurd (absent c f)) (none_or j l q)
      go j l false q = refl

  -- THE LAW: for every unit of well-formed tables the sum is the length of the code.
  pub code_length_lem : (names : List ℕ) → Named ns names → length (unit (unit_of ns names u)) ≡ code_length ns u
  unfolding unit_of code_length exact_length sizes
  code_length_lem names n = go (holder_of ns u) refl
    where
      go : (x : Option NodeId) → holder_of ns u ≡ x → length (unit (unit_by ns names x)) ≡ unit_number + foldr (λ n r. added_by ns u n + r) 0 (upto 0 (count ns))
      go (Some m) e =
          sym (exact_length_lem ns names m.0 (holder_ready ns u lu low_kind m.0 e t li pl co names n).held) ∙ ap (λ x. unit_number + x) (sym (summed m.0 e))
      go None e = unit_length (unit_by ns names None) ∙ sym (ap (λ x. unit_number + x) (nothing e))
