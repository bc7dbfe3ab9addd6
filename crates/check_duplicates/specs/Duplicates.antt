-- Names declared twice in a class: `check_duplicate_class_elements`, with public names in TypeScript (document 02, request 13). One definition for both kinds of key.
use Rattle.std.specs.Prelude.{ℕ, ◌-◌, Bool, cond, not, ◌&&◌, ◌||◌, eqb, ltb, Option, Some, None, is_some}
use mathlib.Core.List.{List, foldl, flat_map}
use Rattle.std.specs.Bool.{xor}
use Rattle.table_source.specs.SourceType.{is_typescript}
use Rattle.table_names.specs.Name.{same}
use Rattle.check_diagnostics.specs.declared.Finding.{Finding}
use Rattle.check_diagnostics.specs.Finding.{listed}
use Rattle.check_diagnostics.specs.Codes as code
use Rattle.check_diagnostics.specs.Contexts as context
use Rattle.check_class_table.specs.Classes.{classes_of}
use Rattle.check_class_table.specs.Elements.{element_name, element_span, is_static, is_private, is_getter, is_setter, is_keyed, elements, compared}
use Rattle.table_records.specs.declared.ElementId.{ElementId}
use Rattle.check_duplicates.specs.declared.Place.{Place}

abbrev pub nowhere : Place
nowhere = record { element = None }

abbrev pub here : ℕ → Place
here e = record { element = Some (record { 0 = e }) }

-- an element is there, and which
abbrev pub number_or : Option ElementId → ℕ
number_or (Some e) = e.0
number_or None = 0

abbrev pub there : Place → Bool
there p = is_some p.element

abbrev pub number : Place → ℕ
number p = number_or p.element

-- the last of a list that passes a test
abbrev pub step : (ℕ → Bool) → Place → ℕ → Place
step q p d = cond (q d) (here d) p

unfoldable pub last_of : (ℕ → Bool) → List ℕ → Place
last_of q l = foldl (step q) nowhere l

-- "two places per name, getter side and setter side": setters of a private name are on side 1, all other elements on side 0. So a public name has one place.
unfoldable pub side_of : List ℕ → ℕ → ℕ
side_of ns e = cond (is_private ns e && is_setter ns e) 1 0

-- d has the key of e: both are private or both are not, and they have one name
abbrev pub same_key : List ℕ → List ℕ → ℕ → ℕ → Bool
same_key ns names d e = is_keyed ns (is_private ns e) d && same (element_name ns names d) (element_name ns names e)

-- d stands before e, has its key, and is on this side
abbrev pub is_earlier : List ℕ → List ℕ → ℕ → ℕ → ℕ → Bool
is_earlier ns names e side d = ltb d e && (same_key ns names d e && eqb (side_of ns d) side)

-- `previous[side]` where element e of class c is met: the last earlier element of its key on that side
unfoldable pub previous_on : ℕ → List ℕ → List ℕ → ℕ → ℕ → ℕ → Place
previous_on source_type ns names c e side = last_of (is_earlier ns names e side) (elements source_type ns c)

abbrev pub or_else : Place → Place → Place
or_else p q = cond (there p) p q

-- `previous[index].or(previous[1 - index])`; of a public name "the last such of its name"
unfoldable pub previous_of : ℕ → List ℕ → List ℕ → ℕ → ℕ → Place
previous_of source_type ns names c e = or_else (previous_on source_type ns names c e (side_of ns e)) (previous_on source_type ns names c e (1 - side_of ns e))

-- one is a getter, the other a setter
abbrev pub is_pair : List ℕ → ℕ → ℕ → Bool
is_pair ns d e = (is_getter ns d && is_setter ns e) || (is_setter ns d && is_getter ns e)

abbrev pub is_apart : List ℕ → ℕ → ℕ → Bool
is_apart ns d e = xor (is_static ns d) (is_static ns e)

-- Two elements of one key clash. Private: "unless the name is used once for a getter and once for a setter .., and the getter and setter are either both static or both non-static" (15.7.1). Public: "clash
-- exactly if both are static or both are not, and they are not a getter and a setter" (request 13).
unfoldable pub clashes : List ℕ → ℕ → ℕ → Bool
clashes ns d e = cond (is_private ns e) (not (is_pair ns d e) || is_apart ns d e) (not (is_pair ns d e) && not (is_apart ns d e))

abbrev pub static_and_instance_private : ℕ
static_and_instance_private = 35

-- "A static and an instance private element of one name that clash give code 35 in place of 1", in TypeScript
unfoldable pub clash_code : ℕ → List ℕ → ℕ → ℕ → ℕ
clash_code source_type ns d e = cond (is_typescript source_type && (is_private ns e && is_apart ns d e)) static_and_instance_private code.redeclaration

-- raised at node 0, with the spans of the earlier element and of this one
unfoldable pub redeclaration : ℕ → List ℕ → ℕ → ℕ → Option Finding
redeclaration source_type ns d e =
    Some (record {
      code = clash_code source_type ns d e;
      node = record { 0 = 0 };
      start = (element_span ns d).start;
      end = (element_span ns d).end;
      start2 = (element_span ns e).start;
      end2 = (element_span ns e).end;
      context = context.none;
    })

-- what element e of class c raises, given the earlier one
unfoldable pub duplicate_by : ℕ → List ℕ → ℕ → Place → Option Finding
duplicate_by source_type ns e p = cond (there p && clashes ns (number p) e) (redeclaration source_type ns (number p) e) None

abbrev pub duplicate_at : ℕ → List ℕ → List ℕ → ℕ → ℕ → Option Finding
duplicate_at source_type ns names c e = duplicate_by source_type ns e (previous_of source_type ns names c e)

-- the findings of one class, element by element, private or not, and of all classes
unfoldable pub duplicates_in : ℕ → List ℕ → List ℕ → ℕ → List Finding
duplicates_in source_type ns names c = flat_map (λ e. listed (duplicate_at source_type ns names c e)) (compared source_type ns c)

unfoldable pub duplicate_elements : ℕ → List ℕ → List ℕ → List Finding
duplicate_elements source_type ns names = flat_map (duplicates_in source_type ns names) (classes_of ns)
