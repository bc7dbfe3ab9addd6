-- Document 02, request 12: "If every label name (a label is a node of kind 33 with role 6) is replaced by a name, one to one over the whole tree".
use Rattle.std.specs.Prelude.{ℕ, ◌<◌, ◌≡◌, List, true, false, length}
use Rattle.table_records.specs.Table.{count, kind_of, parent_of, role_of, span_start_of, span_end_of, scope_of, flags_of, extra_of}
use Rattle.table_names.specs.Name.{name_of}
use Rattle.code_tree.specs.Labels.{is_label}

-- The nodes `ms` with `mnames` are the nodes `ns` with `names`, their labels renamed. Names are compared as bytes: they may stand elsewhere, and the empty name is one like any other.
pub record Renamed (ns names ms mnames : List ℕ) : Type 0 where
  -- a node keeps all but its name,
  pub size : length ns ≡ length ms
  pub kind : (i : ℕ) → i < count ns → kind_of ns i ≡ kind_of ms i
  pub parent : (i : ℕ) → i < count ns → parent_of ns i ≡ parent_of ms i
  pub role : (i : ℕ) → i < count ns → role_of ns i ≡ role_of ms i
  pub start : (i : ℕ) → i < count ns → span_start_of ns i ≡ span_start_of ms i
  pub end : (i : ℕ) → i < count ns → span_end_of ns i ≡ span_end_of ms i
  pub scope : (i : ℕ) → i < count ns → scope_of ns i ≡ scope_of ms i
  pub flags : (i : ℕ) → i < count ns → flags_of ns i ≡ flags_of ms i
  pub extra : (i : ℕ) → i < count ns → extra_of ns i ≡ extra_of ms i
  -- .. and if it is no label its name too;
  pub others : (i : ℕ) → i < count ns → is_label ns i ≡ false → name_of ns names i ≡ name_of ms mnames i
  -- labels of one name get one name,
  pub replaced : (i j : ℕ) → i < count ns → j < count ns → is_label ns i ≡ true → is_label ns j ≡ true
      → name_of ns names i ≡ name_of ns names j → name_of ms mnames i ≡ name_of ms mnames j
  -- .. and those that get one name had one: "one to one over the whole tree"
  pub once : (i j : ℕ) → i < count ns → j < count ns → is_label ns i ≡ true → is_label ns j ≡ true
      → name_of ms mnames i ≡ name_of ms mnames j → name_of ns names i ≡ name_of ns names j
