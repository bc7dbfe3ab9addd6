-- The relation as the laws use it: at every number, in the table or not (past its end every field is 0), so that no law carries a bound.
use Rattle.std.specs.Prelude.{ℕ, ◌≡◌, List, true, false, length}
use Rattle.table_records.specs.Table.{kind_of, parent_of, role_of, span_start_of, span_end_of, scope_of, flags_of, extra_of}
use Rattle.table_names.specs.Name.{name_of}
use Rattle.code_tree.specs.Labels.{is_label}

-- two tables that differ in names alone
pub record Fields (ns ms : List ℕ) : Type 0 where
  pub size : length ns ≡ length ms
  pub kind : (i : ℕ) → kind_of ns i ≡ kind_of ms i
  pub parent : (i : ℕ) → parent_of ns i ≡ parent_of ms i
  pub role : (i : ℕ) → role_of ns i ≡ role_of ms i
  pub start : (i : ℕ) → span_start_of ns i ≡ span_start_of ms i
  pub end : (i : ℕ) → span_end_of ns i ≡ span_end_of ms i
  pub scope : (i : ℕ) → scope_of ns i ≡ scope_of ms i
  pub flags : (i : ℕ) → flags_of ns i ≡ flags_of ms i
  pub extra : (i : ℕ) → extra_of ns i ≡ extra_of ms i

-- .. and in those of labels alone, one to one
pub record Alike (ns names ms mnames : List ℕ) : Type 0 where
  pub fields : Fields ns ms
  pub others : (i : ℕ) → is_label ns i ≡ false → name_of ns names i ≡ name_of ms mnames i
  pub replaced : (i j : ℕ) → is_label ns i ≡ true → is_label ns j ≡ true → name_of ns names i ≡ name_of ns names j → name_of ms mnames i ≡ name_of ms mnames j
  pub once : (i j : ℕ) → is_label ns i ≡ true → is_label ns j ≡ true → name_of ms mnames i ≡ name_of ms mnames j → name_of ns names i ≡ name_of ns names j
