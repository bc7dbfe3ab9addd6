-- Document 02, request 12: "one that the reserved-word check looks for".
use Rattle.std.specs.Prelude.{ℕ, List, ◌∷◌, Bool}
use Rattle.base_common.specs.Upto.{any}
use Rattle.table_names.specs.Name.{same}
use Rattle.table_names.specs.Words as word
use Rattle.check_identifiers.specs.Identifiers.{strict_words}

-- await, implements, interface, let, package, private, protected, public, static, yield
abbrev pub is_reserved : List ℕ → Bool
is_reserved name = any (λ w. same name w) (word.await_word ∷ strict_words)
