-- Where findings are told: lists of nodes and of findings that the theorems speak of.
use Rattle.table_records.specs.declared.NodeId.{NodeId}
use Rattle.std.specs.Prelude.{ℕ, Bool, false, cond, eqb, Option, Some, None}
use mathlib.Core.List.{List, [], foldr, flat_map}
use Rattle.base_common.specs.Upto.{upto}
use Rattle.table_records.specs.Table.{kind_of, count, ancestors}
use Rattle.table_records.specs.Kinds as k
use Rattle.table_children.specs.Children.{keep, class_body_of}
use Rattle.check_diagnostics.specs.declared.Finding.{Finding}
use Rattle.check_diagnostics.specs.Finding.{listed, error_at}
use Rattle.check_diagnostics.specs.Codes as code
use Rattle.check_diagnostics.specs.Contexts as context
use Rattle.ecma_privates.specs.PrivateNames.{is_class_body}

-- 7 and 8: the nearest ClassBody around a node, and whether it is a given one
unfoldable pub body_around : List ℕ → ℕ → Option NodeId
body_around ns n = foldr (λ a r. cond (is_class_body ns a) (Some (record { 0 = a })) r) None (ancestors ns n)

abbrev pub same_node : Option NodeId → Option NodeId → Bool
same_node (Some a) (Some b) = eqb a.0 b.0
same_node (Some a) None = false
same_node None g = false

-- 8: a finding for each of these nodes, at the Class whose body is nearest
abbrev pub reported : List ℕ → List ℕ → List Finding
reported ns l =
    flat_map (λ n. cond (eqb (kind_of ns n) k.Class) (flat_map (λ m. listed (error_at ns code.private_field_undeclared n m context.none)) (keep (λ m. same_node (body_around ns m) (class_body_of ns n)) l)) [])
    (upto 0 (count ns))
