-- Classes: ClassTable and ClassTableBuilder (class/table.rs, class/builder.rs). A class has the number of its ClassBody, since it is declared when that is entered.
use Rattle.table_records.specs.declared.ClassId.{ClassId}
use Rattle.table_records.specs.declared.NodeId.{NodeId}
use Rattle.std.specs.Prelude.{ℕ, ◌<◌, List, Bool, cond, eqb, Option, Some, None}
use Rattle.base_common.specs.Upto.{upto}
use Rattle.table_records.specs.Table.{count, kind_of, ancestors}
use Rattle.table_records.specs.Kinds as k
use Rattle.table_children.specs.Children.{keep, class_body_of}
use Rattle.table_ancestry.specs.Ancestry.{nearest_of}

-- the class whose ClassBody was found
abbrev pub class_at : Option NodeId → Option ClassId
class_at (Some b) = Some (record { 0 = b.0 })
class_at None = None

-- the nearest ClassBody above n
abbrev pub body_above : List ℕ → ℕ → Option NodeId
body_above ns n = nearest_of ns k.ClassBody k.ClassBody n

-- The class that is current where node n is checked. The Rust enters a class with its ClassBody and leaves it after the check of its Class: so that is the class
-- itself at a Class, and else the nearest ClassBody, n or above. What stands in a Class beside its ClassBody, as heritage and decorators, is outside.
unfoldable pub current_class : List ℕ → ℕ → Option ClassId
current_class ns n =
    cond (eqb (kind_of ns n) k.Class)
    (class_at (class_body_of ns n))
    (cond (eqb (kind_of ns n) k.ClassBody) (Some (record { 0 = n })) (class_at (body_above ns n)))

-- the class around class c: `parent_ids`
abbrev pub parent_class : List ℕ → ℕ → Option ClassId
parent_class ns c = class_at (body_above ns c)

abbrev pub is_class_body : List ℕ → ℕ → Bool
is_class_body ns c = eqb (kind_of ns c) k.ClassBody

-- the classes around class c, nearest first: `ancestors` without the class itself
unfoldable pub outer_classes : List ℕ → ℕ → List ℕ
outer_classes ns c = keep (is_class_body ns) (ancestors ns c)

-- all classes, in the order in which they are declared: `iter_enumerated`
unfoldable pub classes_of : List ℕ → List ℕ
classes_of ns = keep (is_class_body ns) (upto 0 (count ns))

-- the class is in the table
abbrev pub in_table : List ℕ → Option ClassId → Type 0
in_table ns (Some c) = c.0 < count ns
in_table ns None = Unit {0}

-- the class is before node n
abbrev pub before : ℕ → Option ClassId → Type 0
before n (Some c) = c.0 < n
before n None = Unit {0}
