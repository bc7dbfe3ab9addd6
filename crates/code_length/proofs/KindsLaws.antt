-- What holds of kinds by computing it for each of them.
use Rattle.std.specs.Prelude.{ℕ, zero, suc, ◌≤◌, ◌<◌, ◌≡◌, refl, ◌⊎◌, Bool, true, false, not, ◌&&◌, ◌||◌, eqb}
use Rattle.std.proofs.Common.{ap, sym, ◌∙◌, inl, inr, ⊎_elim, eq-or-lt_of_le, arith, eqb-true, eq-eqb}
use Rattle.base_common.specs.Tests.{within}
use Rattle.base_common.proofs.Bools.{never, either}
use Rattle.base_common.proofs.UptoLaws.{and_left_lem, and_right_lem}
use Rattle.table_records.specs.Kinds as k
use Rattle.table_records.specs.Roles as role
use Rattle.refusal_standing.specs.Standing.{is_statement, is_holder, is_held, may_be_statement, try_part}
use Rattle.code_tree.specs.Parts.{shape_by, part_by}
use Rattle.code_tree.specs.declared.Shape.{Shape}
use Rattle.code_tree.specs.declared.Shape.TheVariants.{Leaf as Single, Class, If, With, Block, Label, Loop, Switch, Case, Try, Catch}
use Rattle.code_layout.specs.Widths.{number_by, is_try}
use Rattle.code_length.specs.Length.{number_of}
use Rattle.code_length.specs.Kinds.{every_below, implies, holder_is, has_parts, Holding, open_holder, may_count, counts}

below : (q : ℕ → Bool) (n i : ℕ) → every_below q n ≡ true → i < n → q i ≡ true
below q zero i e l = absurd (omega arith)
below q (suc n) i e l =
    ⊎_elim (λ (z : i ≡ n). ap q z ∙ and_left_lem (q n) (every_below q n) e) (λ (z : i < n). below q n i (and_right_lem (q n) (every_below q n) e) z) (eq-or-lt_of_le (omega arith))

implied : (a b : Bool) → implies a b ≡ true → a ≡ true → b ≡ true
implied true b e q = e
implied false b e q = never (sym q)

-- A test of each kind, 0 to 55, that one implies another.
of_kinds : (p q : ℕ → Bool) → every_below (λ i. implies (p i) (q i)) 56 ≡ true → (kind : ℕ) → kind ≤ 55 → p kind ≡ true → q kind ≡ true
of_kinds p q e kind l h = implied (p kind) (q kind) (below (λ i. implies (p i) (q i)) 56 kind e (omega arith)) h

pub holder_is_lem : (kind : ℕ) → kind ≤ 55 → is_holder kind ≡ true → holder_is kind ≡ true
unfolding is_holder is_statement
holder_is_lem = of_kinds is_holder holder_is refl

not_true_lem : (x : Bool) → not x ≡ true → x ≡ false
not_true_lem true e = never (sym e)
not_true_lem false e = refl

-- .. and no function or arrow.
pub holder_open : (kind : ℕ) → kind ≤ 55 → is_holder kind ≡ true → within kind k.Function k.Arrow ≡ false
unfolding is_holder
holder_open kind h e = not_true_lem (within kind k.Function k.Arrow) (of_kinds is_holder (λ i. not (within i k.Function k.Arrow)) refl kind h e)

pub try_is : (kind : ℕ) → kind ≤ 55 → is_try (shape_by kind) ≡ eqb kind k.Try
unfolding shape_by
try_is kind h = go (eqb kind k.Try) refl
  where
    go : (x : Bool) → eqb kind k.Try ≡ x → is_try (shape_by kind) ≡ x
    go true e = ap (λ i. is_try (shape_by i)) (eqb-true kind k.Try e)
    go false e = not_true_lem (is_try (shape_by kind)) (of_kinds (λ i. not (eqb i k.Try)) (λ i. not (is_try (shape_by i))) refl kind h (ap not e))

-- A statement with role 3 is a part of its holder.
pub held_part : (kind : ℕ) → kind ≤ 55 → is_holder kind ≡ true → (l : ℕ) → part_by (shape_by kind) l role.Held ≡ true
unfolding is_holder shape_by
held_part kind h e l = of_kinds is_holder (λ i. part_by (shape_by i) l role.Held) refl kind h e

pub try_holds : (kind : ℕ) → kind ≡ k.Try → is_holder kind ≡ true
unfolding is_holder
try_holds kind e = ap is_holder e

pub body_holds_none : (kind : ℕ) → kind ≡ k.ClassBody → is_holder kind ≡ false
unfolding is_holder
body_holds_none kind e = ap is_holder e

pub export_holds_none : (kind : ℕ) → k.ExportDefault ≤ kind → kind ≤ k.ExportNamed → is_holder kind ≡ false
unfolding is_holder
export_holds_none kind a b =
    ⊎_elim (λ (y : kind ≡ k.ExportNamed). ap is_holder y) (λ (y : kind < k.ExportNamed). let w : kind ≡ k.ExportDefault = omega arith in ap is_holder w) (eq-or-lt_of_le b)

pub switch_stands : (kind : ℕ) → kind ≡ k.Switch → is_statement kind ≡ true
unfolding is_statement
switch_stands kind e = ap is_statement e

pub branch_part : (kind l r : ℕ) → kind ≡ k.If → r ≡ role.Alternate → part_by (shape_by kind) l r ≡ true
unfolding shape_by
branch_part kind l r p q = λ i. part_by (shape_by (p i)) l (q i)

pub finally_block : (kind r : ℕ) → r ≡ role.Finally → kind ≡ try_part r → kind ≡ k.Block
unfolding try_part
finally_block kind r q e = e ∙ ap try_part q

pub block_number : (kind : ℕ) → kind ≡ k.Block → number_by (shape_by kind) ≡ 3
unfolding shape_by
block_number kind e = ap (λ x. number_by (shape_by x)) e

held_role_lem : (s : Shape) (l r : ℕ) → has_parts s ≡ true → eqb r role.Held ≡ true → Holding s l r
held_role_lem s l r h e = let q = eqb-true r role.Held e in inr (omega arith, omega arith, h)

part_holding : (s : Shape) (l r : ℕ) → part_by s l r ≡ true → Holding s l r
part_holding Single l r e = never (sym e)
part_holding Class l r e = inl (eqb-true l k.StaticBlock e)
part_holding If l r e =
    ⊎_elim (λ x. held_role_lem If l r refl x) (λ x. let q = eqb-true r role.Alternate x in inr (omega arith, omega arith, refl)) (either (eqb r role.Held) (eqb r role.Alternate) e)
part_holding With l r e = held_role_lem With l r refl e
part_holding Block l r e = held_role_lem Block l r refl e
part_holding Label l r e = held_role_lem Label l r refl e
part_holding Loop l r e = held_role_lem Loop l r refl e
part_holding Switch l r e = held_role_lem Switch l r refl e
part_holding Case l r e = held_role_lem Case l r refl e
part_holding Try l r e =
    ⊎_elim (λ x. held_role_lem Try l r refl x)
    (λ y. ⊎_elim (λ x. let q = eqb-true r role.Alternate x in inr (omega arith, omega arith, refl)) (λ x. let q = eqb-true r role.Finally x in inr (omega arith, omega arith, refl))
    (either (eqb r role.Alternate) (eqb r role.Finally) y))
    (either (eqb r role.Held) (eqb r role.Alternate || eqb r role.Finally) e)
part_holding Catch l r e = held_role_lem Catch l r refl e

holds_is : (kind : ℕ) → kind ≤ 55 → has_parts (shape_by kind) ≡ true → open_holder kind ≡ true
unfolding is_holder shape_by
holds_is = of_kinds (λ i. has_parts (shape_by i)) open_holder refl

pub part_is_lem : (kind l r : ℕ) → kind ≤ 55 → part_by (shape_by kind) l r ≡ true → (l ≡ k.StaticBlock) ⊎ ((role.Held ≤ r) × (r ≤ role.Finally) × (open_holder kind ≡ true))
part_is_lem kind l r h e = ⊎_elim (λ x. inl x) (λ w. inr (w.0, w.1, holds_is kind h w.2)) (part_holding (shape_by kind) l r e)

-- A statement of its holder that is no finally has the number that it has in the program; what is neither, the number of a node with role 0 there.
number_held : (kind r above : ℕ) → (is_held r && is_holder above) ≡ true → (eqb r role.Finally && eqb above k.Try) ≡ false → number_of kind r above ≡ number_of kind role.Held k.Program
unfolding number_of is_holder
number_held kind r above h f = rw (h, f)

number_other : (kind r above : ℕ) → (is_held r && is_holder above) ≡ false → (eqb r role.Finally && eqb above k.Try) ≡ false → number_of kind r above ≡ number_of kind role.Other k.Program
unfolding number_of is_holder
number_other kind r above h f = rw (h, f)

or_right_lem : (x y : Bool) → y ≡ true → (x || y) ≡ true
or_right_lem true y e = refl
or_right_lem false y e = e

pub may_count_lem : (kind : ℕ) → (is_statement kind ≡ true) ⊎ ((may_be_statement kind ≡ true) ⊎ (kind ≡ k.CatchClause)) → may_count kind ≡ true
may_count_lem kind w = or_right_lem (eqb kind k.StaticBlock) _ (or_right_lem (eqb kind k.SwitchCase) _ (go w))
  where
    go : (is_statement kind ≡ true) ⊎ ((may_be_statement kind ≡ true) ⊎ (kind ≡ k.CatchClause)) → (eqb kind k.CatchClause || (is_statement kind || may_be_statement kind)) ≡ true
    go (inl x) = or_right_lem (eqb kind k.CatchClause) (is_statement kind || may_be_statement kind) (ap (λ y. y || may_be_statement kind) x)
    go (inr (inl x)) = or_right_lem (eqb kind k.CatchClause) (is_statement kind || may_be_statement kind) (or_right_lem (is_statement kind) (may_be_statement kind) x)
    go (inr (inr x)) = ap (λ y. y || (is_statement kind || may_be_statement kind)) (eq-eqb kind k.CatchClause x)

pub number_part : (kind r above : ℕ) → kind ≤ 55 → may_count kind ≡ true → (is_held r && is_holder above) ≡ true → (eqb r role.Finally && eqb above k.Try) ≡ false
    → number_by (shape_by kind) ≡ number_of kind r above
unfolding is_statement may_be_statement is_holder shape_by number_of
number_part kind r above h e held finally =
    eqb-true (number_by (shape_by kind)) (number_of kind role.Held k.Program)
    (of_kinds may_count (λ i. eqb (number_by (shape_by i)) (number_of i role.Held k.Program)) refl kind h e)
    ∙ sym (number_held kind r above held finally)

pub number_static : (kind r above : ℕ) → kind ≡ k.StaticBlock → number_by (shape_by kind) ≡ number_of kind r above
unfolding shape_by number_of
number_static kind r above e = ap (λ x. number_by (shape_by x)) e ∙ sym (ap (λ x. number_of x r above) e)

pub number_case : (kind r above : ℕ) → kind ≡ k.SwitchCase → number_by (shape_by kind) ≡ number_of kind r above
unfolding shape_by number_of
number_case kind r above e = ap (λ x. number_by (shape_by x)) e ∙ sym (ap (λ x. number_of x r above) e)

pub number_finally : (kind r above : ℕ) → kind ≡ k.Block → r ≡ role.Finally → above ≡ k.Try → number_of kind r above ≡ 5
unfolding number_of
number_finally kind r above e p q = λ i. number_of (e i) (p i) (q i)

few_count : (kind : ℕ) → kind ≤ 55 → not (eqb (number_of kind role.Other k.Program) 0) ≡ true → counts false kind ≡ true
unfolding is_statement may_be_statement is_holder number_of
few_count = of_kinds (λ i. not (eqb (number_of i role.Other k.Program) 0)) (counts false) refl

-- A finally of a Try is held.
no_finally : (r above : ℕ) → (is_held r && is_holder above) ≡ false → (eqb r role.Finally && eqb above k.Try) ≡ false
unfolding is_holder
no_finally r above h = go (eqb r role.Finally && eqb above k.Try) refl
  where
    go : (x : Bool) → (eqb r role.Finally && eqb above k.Try) ≡ x → x ≡ false
    go true e =
        let p = eqb-true r role.Finally (and_left_lem (eqb r role.Finally) (eqb above k.Try) e) in
        let q = eqb-true above k.Try (and_right_lem (eqb r role.Finally) (eqb above k.Try) e) in
        never (sym (λ i. is_held (p i) && is_holder (q i)) ∙ h)
    go false e = refl

pub number_some : (kind r above : ℕ) → kind ≤ 55 → eqb (number_of kind r above) 0 ≡ false → counts (is_held r && is_holder above) kind ≡ true
number_some kind r above h e = go (is_held r && is_holder above) refl
  where
    go : (x : Bool) → (is_held r && is_holder above) ≡ x → counts x kind ≡ true
    go true q = or_right_lem (eqb kind k.StaticBlock) _ (or_right_lem (eqb kind k.SwitchCase) _ (or_right_lem (is_statement kind) true refl))
    go false q = few_count kind h (ap not (sym (ap (λ x. eqb x 0) (number_other kind r above q (no_finally r above q))) ∙ e))
