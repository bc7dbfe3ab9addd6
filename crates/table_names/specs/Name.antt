-- Names: strings of bytes.
use Rattle.std.specs.Prelude.{ℕ, List, [], ◌∷◌, Bool, true, false, ◌&&◌, eqb, take, drop}
use Rattle.base_common.specs.Upto.{any}
use Rattle.table_records.specs.Table.{name_start_of, name_len_of}

-- two strings are the same
unfoldable pub same : List ℕ → List ℕ → Bool
same [] [] = true
same [] (y ∷ ys) = false
same (x ∷ xs) [] = false
same (x ∷ xs) (y ∷ ys) = eqb x y && same xs ys

-- the name of a node: `name length` bytes from `name start`
unfoldable pub name_of : List ℕ → List ℕ → ℕ → List ℕ
name_of ns names n = take (name_len_of ns n) (drop (name_start_of ns n) names)

-- two nodes have the same name
abbrev pub same_name : List ℕ → List ℕ → ℕ → ℕ → Bool
same_name ns names a b = same (name_of ns names a) (name_of ns names b)

-- a node has this word as its name
abbrev pub name_is : List ℕ → List ℕ → ℕ → List ℕ → Bool
name_is ns names n word = same (name_of ns names n) word

-- a list of strings has a string
abbrev pub has : List (List ℕ) → List ℕ → Bool
has strings x = any (λ y. same y x) strings

-- what a clause sees of a `NamedNodes`: the nodes and the bytes of their names
pub record NamedTable : Type 0 where
  pub nodes : List ℕ
  pub names : List ℕ
