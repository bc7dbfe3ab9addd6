-- What the checks of names and directives raise is what the rules say.
use Rattle.std.specs.Prelude.{ℕ, ◌≡◌, refl, List, Bool, true, false, cond, not, ◌&&◌, ◌||◌, eqb, None}
use Rattle.std.proofs.Common.{ap, ◌∙◌, eq-eqb, eqb-true}
use Rattle.base_common.specs.Upto.{any}
use Rattle.base_common.specs.Tests.{within}
use Rattle.base_common.proofs.Bools.{never}
use Rattle.table_records.specs.Table.{kind_of, parent_of, span_start_of, span_end_of, scope_of, scope_flags_of, scope_node_of, has_flag}
use Rattle.table_records.specs.Kinds as k
use Rattle.table_records.specs.ScopeFlag as scope
use Rattle.table_names.specs.Name.{same, name_of, name_is}
use Rattle.table_names.proofs.NameLaws.{same_eq}
use Rattle.table_names.specs.Words as word
use Rattle.check_diagnostics.specs.Finding.{error_at}
use Rattle.check_diagnostics.specs.Codes as code
use Rattle.check_diagnostics.specs.Contexts as context
use Rattle.check_identifiers.specs.Identifiers.{strict_context, await_finding, is_strict_word, check_identifier, is_not_simple, check_directive}
use Rattle.ecma_trees.specs.Walk.{only}
use Rattle.ecma_base.specs.Nodes.{of_check}
use Rattle.ecma_base.specs.Strict.{strict_code}
use Rattle.ecma_base.proofs.NodesLaws.{if_only}
use Rattle.ecma_names.specs.Parameters.{goal_module}
use Rattle.ecma_names.specs.Identifiers.{identifier, strict_reserved, use_strict_directive, simple_parameters, use_strict_there, DirectiveScope}
use Rattle.ecma_names.specs.Changed.{reserved_name, await_name_scoped, use_strict_scoped}

-- `await` is none of the words that are reserved in strict code
apart : any (λ w. same word.await_word w) strict_reserved ≡ false
unfolding same
apart = refl

-- a name is among words as the word that it is
pub among_as : {b : Bool} (x w : List ℕ) (l : List (List ℕ)) → same x w ≡ true → any (λ v. same w v) l ≡ b → any (λ v. same x v) l ≡ b
among_as x w l e q = ap (λ (y : List ℕ). any (λ v. same y v) l) (same_eq x w e) ∙ q

pub await_apart : (ns names : List ℕ) (n : ℕ) → name_is ns names n word.await_word ≡ true → any (λ w. name_is ns names n w) strict_reserved ≡ false
await_apart ns names n e = among_as (name_of ns names n) word.await_word strict_reserved e apart

module _ (source_type : ℕ) (ns ss names : List ℕ) (n : ℕ) where
  -- a: `await`; w: a word of strict code; s: strict code; m: a module; b: the scope is a static block's
  name2 : (a w s m b : Bool) (x : ℕ) → (a ≡ true → w ≡ false)
      → of_check 2 (cond a (cond m (error_at ns code.reserved_keyword n n context.module_await) (cond b (error_at ns code.class_static_block_await n n context.none) None)) (cond (w && s) (error_at ns code.reserved_keyword n n x) None))
      ≡ only ((s && w) || (m && a)) n
  name2 true true s m b x h = never (h refl)
  name2 true false true true b x h = refl
  name2 true false false true b x h = refl
  name2 true false true false true x h = refl
  name2 true false true false false x h = refl
  name2 true false false false true x h = refl
  name2 true false false false false x h = refl
  name2 false true true m b x h = refl
  name2 false true false true b x h = refl
  name2 false true false false b x h = refl
  name2 false false true true b x h = refl
  name2 false false true false b x h = refl
  name2 false false false true b x h = refl
  name2 false false false false b x h = refl

  name3 : (a w s m b : Bool) (x : ℕ)
      → of_check 3 (cond a (cond m (error_at ns code.reserved_keyword n n context.module_await) (cond b (error_at ns code.class_static_block_await n n context.none) None)) (cond (w && s) (error_at ns code.reserved_keyword n n x) None))
      ≡ only (a && (not m && b)) n
  name3 true w s true b x = refl
  name3 true w s false true x = refl
  name3 true w s false false x = refl
  name3 false true true m b x = refl
  name3 false true false m b x = refl
  name3 false false s m b x = refl

  -- CODE 2
  pub reserved_is : identifier ns n ≡ true → of_check code.reserved_keyword (check_identifier source_type ns ss names n) ≡ only (reserved_name source_type ns ss names n) n
  unfolding check_identifier await_finding is_strict_word reserved_name
  reserved_is q =
      rw q
      (name2 (name_is ns names n word.await_word) (any (λ w. name_is ns names n w) strict_reserved) (strict_code ns ss n) (goal_module source_type) (has_flag (scope_flags_of ss (scope_of ns n)) scope.StaticBlockScope)
      (strict_context source_type ns n) (await_apart ns names n))

  -- CODE 3, at a name
  pub await_name_is : identifier ns n ≡ true → of_check code.class_static_block_await (check_identifier source_type ns ss names n) ≡ only (await_name_scoped source_type ns ss names n) n
  unfolding check_identifier await_finding is_strict_word await_name_scoped
  await_name_is q =
      rw q
      (name3 (name_is ns names n word.await_word) (any (λ w. name_is ns names n w) strict_reserved) (strict_code ns ss n) (goal_module source_type) (has_flag (scope_flags_of ss (scope_of ns n)) scope.StaticBlockScope)
      (strict_context source_type ns n))

-- CODE 12
pub use_strict_is : (ns ss names : List ℕ) (n : ℕ) → kind_of ns n ≡ k.Directive → of_check code.illegal_use_strict (check_directive ns ss names n) ≡ only (use_strict_scoped ns ss names n) n
unfolding check_directive use_strict_scoped
use_strict_is ns ss names n q =
    rw (eq-eqb (kind_of ns n) k.Directive q)
    (if_only 12 (span_start_of ns n) (span_end_of ns n) n context.none
    (name_is ns names n word.use_strict && (has_flag (scope_flags_of ss (scope_of ns n)) scope.FunctionScope && is_not_simple ns (scope_node_of ss (scope_of ns n)))))

pub use_strict_agrees : (ns ss names : List ℕ) (n : ℕ) → DirectiveScope ns ss n → use_strict_scoped ns ss names n ≡ use_strict_there ns names n
unfolding use_strict_scoped use_strict_there
use_strict_agrees ns ss names n w = ap (λ b. use_strict_directive ns names n && b) (rw w.function (go (eqb (kind_of ns (parent_of ns n)) k.FunctionBody) refl))
  where
    of : ℕ → Bool
    of f = within (kind_of ns f) k.Function k.Arrow && not (simple_parameters ns f)

    go : (b : Bool) → eqb (kind_of ns (parent_of ns n)) k.FunctionBody ≡ b → (b && of (scope_node_of ss (scope_of ns n))) ≡ (b && of (parent_of ns (parent_of ns n)))
    go true e = ap of (w.whose (eqb-true (kind_of ns (parent_of ns n)) k.FunctionBody e))
    go false e = refl
