-- Which elements of a class are compared, and what their clashes raise: document 02, request 13, of private and other names alike, without the places that the check keeps.
use Rattle.std.specs.Prelude.{ℕ, ◌-◌, Bool, not, ◌&&◌, ◌||◌, ltb}
use mathlib.Core.List.{List, flat_map}
use Rattle.base_common.specs.Upto.{any}
use Rattle.table_children.specs.Children.{keep}
use Rattle.check_diagnostics.specs.declared.Finding.{Finding}
use Rattle.check_diagnostics.specs.Finding.{listed}
use Rattle.check_class_table.specs.Elements.{elements, compared}
use Rattle.check_duplicates.specs.Duplicates.{side_of, is_earlier, clashes, redeclaration}

-- d is the last of a list that passes a test
unfoldable pub is_last : (ℕ → Bool) → List ℕ → ℕ → Bool
is_last q l d = q d && not (any (λ m. ltb d m && q m) l)

-- e is compared with d, "the last such of its name": the last earlier element of its key on its own side or, where there is none, on the other (a public name has one side)
abbrev pub is_paired : ℕ → List ℕ → List ℕ → ℕ → ℕ → ℕ → Bool
is_paired source_type ns names c e d =
    is_last (is_earlier ns names e (side_of ns e)) (elements source_type ns c) d
    || (not (any (is_earlier ns names e (side_of ns e)) (elements source_type ns c)) && is_last (is_earlier ns names e (1 - side_of ns e)) (elements source_type ns c) d)

-- the elements that e is compared and clashes with
abbrev pub clashing : ℕ → List ℕ → List ℕ → ℕ → ℕ → List ℕ
clashing source_type ns names c e = keep (λ d. is_paired source_type ns names c e d && clashes ns d e) (elements source_type ns c)

-- one finding for each pair that clashes, in element order
unfoldable pub clash_findings : ℕ → List ℕ → List ℕ → ℕ → List Finding
clash_findings source_type ns names c = flat_map (λ e. flat_map (λ d. listed (redeclaration source_type ns d e)) (clashing source_type ns names c e)) (compared source_type ns c)
