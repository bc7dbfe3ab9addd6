-- THE RULES AS THE RUST HAS THEM, where they are not the standard's, and the conditions on which they are: those of the file Identifiers.
use Rattle.std.specs.Prelude.{ℕ, ◌≡◌, List, [], ◌∷◌, Bool, true, false, cond, not, ◌&&◌, ◌||◌, eqb}
use Rattle.base_common.specs.Upto.{any}
use Rattle.base_common.specs.Tests.{within}
use Rattle.table_records.specs.Table.{kind_of, parent_of, flags_of, scope_of, scope_flags_of, scope_node_of, has_flag}
use Rattle.table_records.specs.Kinds as k
use Rattle.table_records.specs.NodeFlag as flag
use Rattle.table_records.specs.ScopeFlag as scope
use Rattle.ecma_trees.specs.Trail.{handed_down}
use Rattle.table_names.specs.Name.{name_is}
use Rattle.table_names.specs.Words as word
use Rattle.ecma_base.specs.Telling.{Telling}
use Rattle.ecma_base.specs.Strict.{strict_code}
use Rattle.ecma_base.specs.Contains.{initializer}
use Rattle.ecma_base.specs.Scopes.{block_scope, scopes_follow}
use Rattle.ecma_names.specs.ReservedWords.{reserved_words}
use Rattle.ecma_names.specs.Parameters.{goal_module}
use Rattle.ecma_names.specs.Identifiers.{identifier, strict_reserved, use_strict_directive, simple_parameters}

-- 2, and 3 at a name: reserved words

-- 2: of 13.1.1 only the words of strict code, and `await` in a module
unfoldable pub reserved_name : ℕ → List ℕ → List ℕ → List ℕ → ℕ → Bool
reserved_name source_type ns ss names n =
    identifier ns n && ((strict_code ns ss n && any (λ w. name_is ns names n w) strict_reserved) || (goal_module source_type && name_is ns names n word.await_word))

-- 3: of [Await], only where the name's own scope is a static block's, and not in a module, where 2 is raised
unfoldable pub await_name_scoped : ℕ → List ℕ → List ℕ → List ℕ → ℕ → Bool
await_name_scoped source_type ns ss names n = identifier ns n && (name_is ns names n word.await_word && (not (goal_module source_type) && block_scope ns ss n))

-- Where a name stands, by the tree. The node i gives its part j a [Yield] and an [Await] of its own: a function all but the name of a declaration, an arrow its body, a static block its statements, a field
-- its Initializer.
abbrev pub own_edge : List ℕ → ℕ → ℕ → Bool
own_edge ns i j =
    (eqb (kind_of ns i) k.Function && not (has_flag (flags_of ns i) flag.Declaration && eqb (kind_of ns j) k.BindingIdentifier))
    || ((eqb (kind_of ns i) k.Arrow && eqb (kind_of ns j) k.FunctionBody) || (eqb (kind_of ns i) k.StaticBlock || initializer ns i j))

-- the nearest such node above n (the program if there is none) and, before it, the arrows in whose parameters n stands there
unfoldable pub givers : List ℕ → ℕ → List ℕ
givers ns n = handed_down ns (λ i j r. cond (own_edge ns i j) (i ∷ []) (cond (eqb (kind_of ns i) k.Arrow) (i ∷ r) r)) (0 ∷ []) n

abbrev pub in_generator : Telling → List ℕ → ℕ → Bool
in_generator told ns n = any (λ u. eqb (kind_of ns u) k.Function && told.generator u) (givers ns n)

abbrev pub in_async : Telling → List ℕ → ℕ → Bool
in_async told ns n = any (λ u. within (kind_of ns u) k.Function k.Arrow && told.async u) (givers ns n)

abbrev pub in_block : List ℕ → ℕ → Bool
in_block ns n = any (λ u. eqb (kind_of ns u) k.StaticBlock) (givers ns n)

-- an `await` of a script: the scopes follow the tree, it stands in nothing async, and one that stands in a static block has the block's own scope: it is in no further scope
-- within the block, in no parameters of an arrow there, and not the name of a declaration there
pub record AwaitTold (told : Telling) (ns ss : List ℕ) (n : ℕ) : Type 0 where
  pub follow : scopes_follow ns ss ≡ true
  pub ordinary : in_async told ns n ≡ false
  pub block : in_block ns n ≡ true → block_scope ns ss n ≡ true

-- where they agree and, if the scopes follow the tree, nowhere else: the name is no word that is reserved everywhere (of which no parser gives a tree); a sloppy `yield` stands in no generator
pub record NameTold (told : Telling) (source_type : ℕ) (ns ss names : List ℕ) (n : ℕ) : Type 0 where
  pub reserved : any (λ w. name_is ns names n w) reserved_words ≡ false
  pub yield : name_is ns names n word.yield_word ≡ true → strict_code ns ss n ≡ false → in_generator told ns n ≡ false
  pub await : name_is ns names n word.await_word ≡ true → goal_module source_type ≡ false → AwaitTold told ns ss n

-- 12: "use strict"

-- the function is the one whose scope is the directive's
unfoldable pub use_strict_scoped : List ℕ → List ℕ → List ℕ → ℕ → Bool
use_strict_scoped ns ss names n =
    use_strict_directive ns names n
    && (has_flag (scope_flags_of ss (scope_of ns n)) scope.FunctionScope
    && (within (kind_of ns (scope_node_of ss (scope_of ns n))) k.Function k.Arrow && not (simple_parameters ns (scope_node_of ss (scope_of ns n)))))

-- a directive stands in the prologue of a Script, a Module or a FunctionBody
abbrev pub directive_placed : List ℕ → ℕ → Bool
directive_placed ns n = eqb (kind_of ns (parent_of ns n)) k.Program || eqb (kind_of ns (parent_of ns n)) k.FunctionBody

-- where they agree: the scopes follow the tree, and the directive stands in such a prologue
pub record DirectiveTold (ns ss : List ℕ) (n : ℕ) : Type 0 where
  pub follow : scopes_follow ns ss ≡ true
  pub placed : directive_placed ns n ≡ true
