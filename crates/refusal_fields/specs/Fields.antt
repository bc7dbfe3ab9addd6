-- What sizes and what numbers are wrong: document 01, refusals 1, 2 and 4.
use Rattle.std.specs.Prelude.{ℕ, ◌+◌, ◌/◌, ◌%◌, ◌*◌, ◌≤◌, ◌<◌, ◌≡◌, List, Bool, cond, not, ◌&&◌, ◌||◌, true, eqb, ltb, leb, length}
use Rattle.base_common.specs.Tests.{within}
use Rattle.table_source.specs.SourceType.{Typescript, is_typescript}
use Rattle.table_records.specs.Table.{kind_of, role_of, flags_of, extra_of, span_start_of, span_end_of, name_start_of, name_len_of, count, count_scopes, IsTableSize}
use Rattle.table_records.specs.Kinds as k
use Rattle.table_records.specs.Roles as role
use Rattle.table_records.specs.Extras as extra
use Rattle.check_bodies.specs.Bodies.{AsyncOrGenerator}
use Rattle.check_class_table.specs.Elements.{NoFixedName}

-- 1. "A table is empty or no whole number of records; more than 65,535 records": a table of so many numbers, `width` to a record
unfoldable pub wrong_table : ℕ → ℕ → Bool
wrong_table len width = eqb len 0 || (not (eqb (len % width) 0) || ltb 65535 (len / width))

-- 1. .. "source or names above 1,048,576 bytes"; "1 now begins at source type 3" (document 02, request 13)
unfoldable pub wrong_sizes : ℕ → List ℕ → List ℕ → List ℕ → List ℕ → Bool
wrong_sizes source_type ns ss source names =
    wrong_table (length ns) 10 || (wrong_table (length ss) 3 || (ltb 1048576 (length source) || (ltb 1048576 (length names) || ltb Typescript source_type)))

-- the flag that a kind has of its own: "8192, async or generator, allowed on Function only" (document 02, request 8); "Flag 16384 (on kinds 28 to 30 in type 2, refused by 2 elsewhere)" (request 13)
unfoldable pub own_flag : ℕ → ℕ → ℕ
own_flag source_type kind =
    cond (eqb kind k.Function) AsyncOrGenerator
    (cond (is_typescript source_type && within kind k.MethodDefinition k.AccessorProperty) NoFixedName 0)

-- a sum of some of the flags 2, 4, .., 4096, an even number up to 8190, with the kind's own flag or without
unfoldable pub listed_flags : ℕ → ℕ → ℕ → Bool
listed_flags source_type kind sum = eqb (sum % 2) 0 && (leb sum 8190 || (leb (own_flag source_type kind) sum && leb sum (own_flag source_type kind + 8190)))

-- the largest extra of a kind; they are listed from 0 on
unfoldable pub most_extra : ℕ → ℕ
most_extra kind =
    cond (eqb kind k.VariableDeclaration) extra.AwaitUsing
    (cond (eqb kind k.MethodDefinition) extra.Set
    (cond (eqb kind k.NumericLiteral) extra.Hexadecimal
    (cond (eqb kind k.ObjectProperty) extra.PropertySet
    (cond (eqb kind k.AnythingElse) extra.Parenthesis 0))))

-- a class names a scope and a string a length, which may be any number here
unfoldable pub listed_extra : ℕ → ℕ → Bool
listed_extra kind x = eqb kind k.Class || (eqb kind k.StringLiteral || leb x (most_extra kind))

-- 2. "A node's kind, role, flag sum or extra not listed."
unfoldable pub unlisted_at : ℕ → List ℕ → ℕ → Bool
unlisted_at source_type ns i =
    ltb k.AnythingElse (kind_of ns i)
    || (ltb role.Left (role_of ns i)
    || (not (listed_flags source_type (kind_of ns i) (flags_of ns i))
    || not (listed_extra (kind_of ns i) (extra_of ns i))))

-- 4. "Span start after its end, or a span or name outside its bytes." A name of length 0 lies within them too.
unfoldable pub stray_at : List ℕ → List ℕ → List ℕ → ℕ → Bool
stray_at ns source names i =
    ltb (span_end_of ns i) (span_start_of ns i)
    || (ltb (length source) (span_end_of ns i)
    || ltb (length names) (name_start_of ns i + name_len_of ns i))

-- what is known where no size is wrong
pub record Sizes (source_type : ℕ) (ns ss source names : List ℕ) : Type 0 where
  pub nodes : IsTableSize (count ns)
  pub scopes : IsTableSize (count_scopes ss)
  pub whole : length ns ≡ count ns * 10
  pub whole_scopes : length ss ≡ count_scopes ss * 3
  pub bytes : length source ≤ 1048576
  pub name_bytes : length names ≤ 1048576
  pub type : source_type ≤ 2

-- what is known where every number is listed
pub record Listed (ns : List ℕ) : Type 0 where
  pub kind : (i : ℕ) → i < count ns → kind_of ns i ≤ 55
  pub role : (i : ℕ) → i < count ns → role_of ns i ≤ 7
  pub extra : (i : ℕ) → i < count ns → listed_extra (kind_of ns i) (extra_of ns i) ≡ true
