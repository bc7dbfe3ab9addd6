-- What the shape of a node says of its kind.
use Rattle.std.specs.Prelude.{ℕ, ◌≤◌, ◌≡◌, refl, Bool, true, false, cond, ◌||◌, ◌⊎◌, eqb}
use Rattle.std.proofs.Common.{ap, sym, inl, inr, arith, eqb-true}
use Rattle.base_common.specs.Tests.{within}
use Rattle.base_common.proofs.Bools.{never, range_of}
use Rattle.table_records.specs.Kinds as k
use Rattle.code_tree.specs.Parts.{is_class, shape_by}
use Rattle.code_tree.specs.declared.Shape.{Shape}
use Rattle.code_tree.specs.declared.Shape.TheVariants.{Leaf as Single, Class, If, With, Block, Label, Loop, Switch, Case, Try, Catch}
use Rattle.code_layout.specs.Shaped.{is_one, is_case, is_switch}
use Rattle.code_layout.specs.Widths.{is_try}

choose : (Q : Shape → Type 0) (x : Bool) (a r : Shape) → (x ≡ true → Q a) → Q r → Q (cond x a r)
choose Q true a r f g = f refl
choose Q false a r f g = g

-- To show something of the shape of a node, show it of each shape, under what the kind then is.
pub by_kind : (kind : ℕ) (Q : Shape → Type 0) → Q Block → (kind ≡ 6 → Q Label) → (7 ≤ kind → kind ≤ 11 → Q Loop) → (kind ≡ 12 → Q If) → (kind ≡ 13 → Q With)
    → (kind ≡ 14 → Q Switch) → (kind ≡ 15 → Q Case) → (kind ≡ 16 → Q Try) → (kind ≡ 17 → Q Catch) → Q Class → Q Single → Q (shape_by kind)
unfolding shape_by
by_kind kind Q block label loop if with switch case try catch class single =
    choose Q (eqb kind k.Program || (eqb kind k.StaticBlock || (eqb kind k.FunctionBody || eqb kind k.Block))) Block _ (λ e. block)
    (choose Q (eqb kind k.Labeled) Label _ (λ e. label (eqb-true kind 6 e))
    (choose Q (within kind k.For k.DoWhile) Loop _ (λ e. loop (range_of kind 7 11 e).0 (range_of kind 7 11 e).1)
    (choose Q (eqb kind k.If) If _ (λ e. if (eqb-true kind 12 e))
    (choose Q (eqb kind k.With) With _ (λ e. with (eqb-true kind 13 e))
    (choose Q (eqb kind k.Switch) Switch _ (λ e. switch (eqb-true kind 14 e))
    (choose Q (eqb kind k.SwitchCase) Case _ (λ e. case (eqb-true kind 15 e))
    (choose Q (eqb kind k.Try) Try _ (λ e. try (eqb-true kind 16 e))
    (choose Q (eqb kind k.CatchClause) Catch _ (λ e. catch (eqb-true kind 17 e)) (choose Q (is_class kind) Class Single (λ e. class) single)))))))))

absent : {A : Type 0} → false ≡ true → A
absent e = never (sym e)

abbrev is_if : Shape → Bool
is_if Single = false
is_if Class = false
is_if If = true
is_if With = false
is_if Block = false
is_if Label = false
is_if Loop = false
is_if Switch = false
is_if Case = false
is_if Try = false
is_if Catch = false

-- What holds one statement: kinds 6 to 13, or a CatchClause.
pub one_kind_lem : (kind : ℕ) → is_one (shape_by kind) ≡ true → ((6 ≤ kind) × (kind ≤ 13)) ⊎ (kind ≡ 17)
one_kind_lem kind =
    by_kind kind (λ s. is_one s ≡ true → ((6 ≤ kind) × (kind ≤ 13)) ⊎ (kind ≡ 17)) absent (λ q e. inl (omega arith, omega arith)) (λ p q e. inl (omega arith, omega arith)) (λ q. absent)
    (λ q e. inl (omega arith, omega arith)) (λ q. absent) (λ q. absent) (λ q. absent) (λ q e. inr q) absent absent

pub case_kind : (kind : ℕ) → is_case (shape_by kind) ≡ true → kind ≡ 15
case_kind kind =
    by_kind kind (λ s. is_case s ≡ true → kind ≡ 15) absent (λ q. absent) (λ p q. absent) (λ q. absent) (λ q. absent) (λ q. absent) (λ q e. q) (λ q. absent) (λ q. absent) absent absent

pub switch_kind : (kind : ℕ) → is_switch (shape_by kind) ≡ true → kind ≡ 14
switch_kind kind =
    by_kind kind (λ s. is_switch s ≡ true → kind ≡ 14) absent (λ q. absent) (λ p q. absent) (λ q. absent) (λ q. absent) (λ q e. q) (λ q. absent) (λ q. absent) (λ q. absent) absent absent

pub if_kind : (kind : ℕ) → shape_by kind ≡ If → kind ≡ 12
if_kind kind e = if_by (ap is_if e)
  where
    if_by : is_if (shape_by kind) ≡ true → kind ≡ 12
    if_by = by_kind kind (λ s. is_if s ≡ true → kind ≡ 12) absent (λ q. absent) (λ p q. absent) (λ q x. q) (λ q. absent) (λ q. absent) (λ q. absent) (λ q. absent) (λ q. absent) absent absent

pub try_kind : (kind : ℕ) → shape_by kind ≡ Try → kind ≡ 16
try_kind kind e = try_by (ap is_try e)
  where
    try_by : is_try (shape_by kind) ≡ true → kind ≡ 16
    try_by = by_kind kind (λ s. is_try s ≡ true → kind ≡ 16) absent (λ q. absent) (λ p q. absent) (λ q. absent) (λ q. absent) (λ q. absent) (λ q. absent) (λ q x. q) (λ q. absent) absent absent

abbrev is_catch : Shape → Bool
is_catch Single = false
is_catch Class = false
is_catch If = false
is_catch With = false
is_catch Block = false
is_catch Label = false
is_catch Loop = false
is_catch Switch = false
is_catch Case = false
is_catch Try = false
is_catch Catch = true

pub catch_kind : (kind : ℕ) → shape_by kind ≡ Catch → kind ≡ 17
catch_kind kind e = catch_by (ap is_catch e)
  where
    catch_by : is_catch (shape_by kind) ≡ true → kind ≡ 17
    catch_by = by_kind kind (λ s. is_catch s ≡ true → kind ≡ 17) absent (λ q. absent) (λ p q. absent) (λ q. absent) (λ q. absent) (λ q. absent) (λ q. absent) (λ q. absent) (λ q x. q) absent absent

pub try_shape : (kind : ℕ) → kind ≡ 16 → shape_by kind ≡ Try
unfolding shape_by
try_shape kind e = ap shape_by e

pub case_shape : (kind : ℕ) → kind ≡ 15 → shape_by kind ≡ Case
unfolding shape_by
case_shape kind e = ap shape_by e

pub switch_shape : (kind : ℕ) → kind ≡ 14 → shape_by kind ≡ Switch
unfolding shape_by
switch_shape kind e = ap shape_by e

pub body_shape : (kind : ℕ) → kind ≡ 27 → shape_by kind ≡ Single
unfolding shape_by
body_shape kind e = ap shape_by e

pub class_shape : (kind : ℕ) → (kind ≡ 26) ⊎ ((kind ≡ 53) ⊎ (kind ≡ 54)) → shape_by kind ≡ Class
unfolding shape_by
class_shape kind (inl e) = ap shape_by e
class_shape kind (inr (inl e)) = ap shape_by e
class_shape kind (inr (inr e)) = ap shape_by e

pub static_shape : (kind : ℕ) → kind ≡ 3 → shape_by kind ≡ Block
unfolding shape_by
static_shape kind e = ap shape_by e
