-- Document 02, request 12: "no old or new name is one that the reserved-word check looks for".
use Rattle.std.specs.Prelude.{ℕ, ◌<◌, ◌≡◌, List, true, false}
use Rattle.table_records.specs.Table.{count}
use Rattle.table_names.specs.Name.{name_is}
use Rattle.table_names.specs.Words as word
use Rattle.check_identifiers.specs.Identifiers.{is_strict_word}
use Rattle.code_tree.specs.Labels.{is_label}

-- the check looks for `await`, and for the nine words that strict code reserves
pub record Unreserved (ns names : List ℕ) : Type 0 where
  pub await : (i : ℕ) → i < count ns → is_label ns i ≡ true → name_is ns names i word.await_word ≡ false
  pub strict : (i : ℕ) → i < count ns → is_label ns i ≡ true → is_strict_word ns names i ≡ false
