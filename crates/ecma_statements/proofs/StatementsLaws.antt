-- What the checks of statements raise is what the rules say.
use Rattle.table_records.specs.declared.NodeId.{NodeId}
use Rattle.std.specs.Prelude.{ℕ, ◌+◌, ◌≤◌, ◌≡◌, Bool, cond, ◌&&◌, ◌||◌, length, Option, Some, None}
use Rattle.std.proofs.Math.Path.{refl, ap}
use Rattle.std.proofs.Common.{sym, ◌∙◌, arith}
use mathlib.Core.List.{List, [], ◌∷◌}
use Rattle.std.proofs.Math.Bool.{true, false, not}
use borrow.Author.Tests.{eq-eqb, lt-leb}
use Rattle.std.proofs.Math.Dec.{eqb}
use Rattle.base_common.specs.Upto.{upto}
use Rattle.base_common.specs.Tests.{within}
use Rattle.table_source.proofs.SourceTypeLaws.{no_typescript}
use Rattle.table_records.specs.Table.{kind_of, parent_of, count, extra_of, span_start_of, span_end_of}
use Rattle.table_records.specs.Kinds as k
use Rattle.table_records.specs.Extras as extra
use Rattle.table_children.specs.Children.{keep, is_child, when_found}
use Rattle.table_children.proofs.ChildrenLaws.{tally, tally_all}
use Rattle.check_diagnostics.proofs.Gather.{kept_first_lem, kept_none}
use Rattle.check_diagnostics.specs.Finding.{error_at}
use Rattle.check_diagnostics.specs.Codes as code
use Rattle.check_diagnostics.specs.Contexts as context
use Rattle.check_statements.specs.Statements.{check_with_statement, declarator_of, declarators, check_initialiser, check_left, check_for_statement_left, check_using}
use Rattle.ecma_trees.specs.Walk.{only}
use Rattle.ecma_base.specs.Nodes.{of_check}
use Rattle.ecma_base.proofs.NodesLaws.{if_only}
use Rattle.ecma_base.specs.Strict.{strict_code}
use Rattle.ecma_statements.specs.Statements.{strict_with, declarators_of, initialized, plain_name, single, annex_head, bad_head, head_of, of_head, initialized_head, held_using, bad_using}
use Rattle.ecma_base.specs.Scopes.{top_scope}
use Rattle.ecma_statements.specs.Changed.{unsaid, said_head, HeadTold, top_using}

-- CODE 17
pub with_is : (t : ℕ) → t ≤ 1 → (ns ss : List ℕ) (n : ℕ) → kind_of ns n ≡ k.With → of_check code.with_statement (check_with_statement t ns ss n) ≡ only (strict_with ns ss n) n
unfolding check_with_statement strict_with
with_is t s ns ss n q = rw (eq-eqb (kind_of ns n) k.With q, no_typescript t s) (if_only 17 (span_start_of ns n) (span_start_of ns n + 4) n context.none (strict_code ns ss n))

-- CODE 24
-- what the Rust says of a head with one declaration: i an initialiser, s strict code, v a `var`, f a for-in, p a plain name
one_head : (i s v f p : Bool) → (i && ((s && v) || (not f || not p))) ≡ ((i && not ((f && v) && (p && not s))) && not ((f && not v) && p))
one_head true true true true true = refl
one_head true true true true false = refl
one_head true true true false true = refl
one_head true true true false false = refl
one_head true true false true true = refl
one_head true true false true false = refl
one_head true true false false true = refl
one_head true true false false false = refl
one_head true false true true true = refl
one_head true false true true false = refl
one_head true false true false true = refl
one_head true false true false false = refl
one_head true false false true true = refl
one_head true false false true false = refl
one_head true false false false true = refl
one_head true false false false false = refl
one_head false s v f p = refl

or_false : (b : Bool) → (b || false) ≡ b
or_false true = refl
or_false false = refl

and_true : (b : Bool) → (b && true) ≡ b
and_true true = refl
and_true false = refl

and_false : (b : Bool) → (b && false) ≡ false
and_false true = refl
and_false false = refl

how_many_is : (ns : List ℕ) (d : ℕ) → declarators ns d ≡ length (declarators_of ns d)
unfolding tally
how_many_is ns d = sym (tally_all ns d 25 25 0 7)

module _ (ns ss : List ℕ) (n : ℕ) (f : Bool) (e : eqb (kind_of ns n) k.ForIn ≡ f) where
  several : (d a b : ℕ) (l : List ℕ) → declarators_of ns d ≡ a ∷ b ∷ l → (bad_head ns ss n d && not (unsaid ns n d)) ≡ false
  several d a b l q = rw (q, lt-leb (length (a ∷ b ∷ l)) 1 (omega arith)) (and_false (bad_head ns ss n d))

  head_left : (d : ℕ) → (x : Bool) → eqb (kind_of ns d) k.VariableDeclaration ≡ x → (r : Option NodeId) → declarator_of ns d ≡ r
      → of_check 24 (cond x (cond (single (declarators_of ns d)) (when_found r (check_initialiser ns ss n f d) None) None) None) ≡ only (bad_head ns ss n d && not (unsaid ns n d)) n
  unfolding bad_head annex_head check_initialiser
  head_left d false x r q = rw x
  head_left d true x None q =
      let z : declarators_of ns d ≡ [] = kept_none (is_child ns d 25 25 0 7) (count ns) (d + 1) q in
      rw (x, z)
  head_left d true x (Some v) q = go (keep (is_child ns d 25 25 0 7) (upto (v.0 + 1) (count ns))) (kept_first_lem (is_child ns d 25 25 0 7) (count ns) (d + 1) v.0 q)
    where
      go : (l : List ℕ) → declarators_of ns d ≡ v.0 ∷ l
          → of_check 24 (cond true (cond (single (declarators_of ns d)) (check_initialiser ns ss n f d v.0) None) None) ≡ only (bad_head ns ss n d && not (unsaid ns n d)) n
      go [] z =
          rw (x, z, or_false (initialized ns v.0), and_true (plain_name ns v.0), e)
          (ap (λ b. of_check 24 (cond b (error_at ns code.unexpected_initializer_in_for_loop_head n d context.none) None))
          (one_head (initialized ns v.0) (strict_code ns ss n) (eqb (extra_of ns d) extra.Var) f (plain_name ns v.0))
          ∙ if_only 24 (span_start_of ns d) (span_end_of ns d) n context.none
          ((initialized ns v.0 && not ((f && eqb (extra_of ns d) extra.Var) && (plain_name ns v.0 && not (strict_code ns ss n)))) && not ((f && not (eqb (extra_of ns d) extra.Var)) && plain_name ns v.0)))
      go (b ∷ l) z =
          let y : single (declarators_of ns d) ≡ false = ap (λ (m : List ℕ). single m) z ∙ lt-leb (length (v.0 ∷ b ∷ l)) 1 (omega arith) in
          ap (λ b. of_check 24 (cond true (cond b (check_initialiser ns ss n f d v.0) None) None)) y ∙ ap (λ y. only y n) (sym (several d v.0 b l z))

  head_by : (r : Option NodeId) → of_check 24 (when_found r (check_left ns ss n f) None) ≡ only (of_head (λ d. bad_head ns ss n d && not (unsaid ns n d)) r) n
  unfolding check_left
  head_by (Some d) = rw (how_many_is ns d.0) (head_left d.0 (eqb (kind_of ns d.0) k.VariableDeclaration) refl (declarator_of ns d.0) refl)
  head_by None = refl

  pub head_is : within (kind_of ns n) k.ForIn k.ForOf ≡ true → of_check code.unexpected_initializer_in_for_loop_head (check_for_statement_left ns ss n f) ≡ only (said_head ns ss n) n
  unfolding said_head
  head_is q = rw q (head_by (head_of ns n))

-- where nothing is left unsaid of a head that breaks the rule, the changed rule is the standard's
pub head_agrees : (ns ss : List ℕ) (n : ℕ) → HeadTold ns ss n → said_head ns ss n ≡ initialized_head ns ss n
unfolding said_head initialized_head
head_agrees ns ss n e = ap (λ b. within (kind_of ns n) k.ForIn k.ForOf && b) (go (head_of ns n) e)
  where
    by : (b u : Bool) → (b && u) ≡ false → (b && not u) ≡ b
    by true true q = sym q
    by true false q = refl
    by false u q = refl

    go : (r : Option NodeId) → of_head (λ d. bad_head ns ss n d && unsaid ns n d) r ≡ false → of_head (λ d. bad_head ns ss n d && not (unsaid ns n d)) r ≡ of_head (bad_head ns ss n) r
    go (Some d) q = by (bad_head ns ss n d.0) (unsaid ns n d.0) q
    go None q = refl

-- CODE 13
pub using_is : (source_type : ℕ) (ns ss : List ℕ) (n : ℕ) → kind_of ns n ≡ k.VariableDeclaration
    → of_check code.using_declaration_not_allowed_in_script (check_using source_type ns ss n) ≡ only (top_using source_type ns ss n) n
unfolding check_using top_using
using_is source_type ns ss n q =
    rw (eq-eqb (kind_of ns n) k.VariableDeclaration q)
    (if_only 13 (span_start_of ns n) (span_end_of ns n) n context.none (within (extra_of ns n) extra.Using extra.AwaitUsing && (eqb source_type 0 && top_scope ns ss n)))

pub using_agrees : (source_type : ℕ) (ns ss : List ℕ) (n : ℕ) → top_scope ns ss n ≡ not (held_using ns n) → eqb (kind_of ns (parent_of ns n)) k.SwitchCase ≡ false → top_using source_type ns ss n ≡ bad_using source_type ns n
unfolding top_using bad_using
using_agrees source_type ns ss n top clause = rw (top, clause, or_false (eqb source_type 0 && not (held_using ns n)))
