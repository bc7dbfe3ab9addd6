-- What the search for `super` needs of scopes that follow the tree.
use Rattle.std.specs.Prelude.{ℕ, ◌≤◌, ◌<◌, ◌≡◌, refl, List, Bool, true, false, ◌||◌, ◌⊎◌, eqb}
use Rattle.std.proofs.Common.{ap, ◌∙◌, inl, inr, ⊎_elim, arith, ne_eqb}
use Rattle.base_common.specs.Tests.{within}
use Rattle.base_common.proofs.Bools.{range_of}
use Rattle.table_records.specs.Table.{kind_of, parent_of, scope_of, count}
use Rattle.table_records.specs.Facts.{Tree}
use Rattle.ecma_base.specs.Scopes.{makes_scope, may_make_scope, scope_kind, scopes_follow}
use Rattle.ecma_base.proofs.ScopesLaws.{not_program, no_function, root, block_flag, function_flag, arrow_flag, made, same_or_made, same_only, made_kind, root_kind, class_name, class_body, class_element}
use Rattle.ecma_supers.specs.ScopesFit.{ScopesFit}
use Rattle.ecma_supers.specs.ScopesFit.{is_function_scope}
use Rattle.ecma_supers.specs.ScopesFit.{is_arrow_scope}
use Rattle.ecma_supers.specs.ScopesFit.{is_block_scope}

-- kinds 28 to 30 make no scope
no_scope : (a : ℕ) → 28 ≤ a → a ≤ 30 → (makes_scope a ≡ false) × (may_make_scope a ≡ false)
no_scope a l u = (
  none (within a 1 3) (eqb a 5) (within a 7 9) (out 1 3 (omega arith)) (ne_eqb a 5 (λ q. omega arith)) (out 7 9 (omega arith)),
  none (within a 13 14) (eqb a 17) (eqb a 26) (out 13 14 (omega arith)) (ne_eqb a 17 (λ q. omega arith)) (ne_eqb a 26 (λ q. omega arith)),
)
  where
    out : (lo hi : ℕ) → hi < a → within a lo hi ≡ false
    out lo hi h = go (within a lo hi) refl
      where
        go : (x : Bool) → within a lo hi ≡ x → x ≡ false
        go true q = let r = range_of a lo hi q in let r1 = r.1 in absurd (omega arith)
        go false q = refl

    none : (x y z : Bool) → x ≡ false → y ≡ false → z ≡ false → (x || (y || z)) ≡ false
    none x y z p q r = rw (p, q, r)

module _ (ns ss : List ℕ) (tree : Tree ns) (w : scopes_follow ns ss ≡ true) where
  -- the flags of a scope whose node is of a kind
  flags : (j a : ℕ) → j < count ns → scope_kind ns ss j ≡ a → (is_block_scope ss (scope_of ns j) ≡ eqb a 3) × (is_function_scope ss (scope_of ns j) ≡ within a 1 2) × (is_arrow_scope ss (scope_of ns j) ≡ eqb a 2)
  flags j a h e = (
    block_flag ns ss tree w j h ∙ ap (λ (x : ℕ). eqb x 3) e,
    function_flag ns ss tree w j h ∙ ap (λ (x : ℕ). within x 1 2) e,
    arrow_flag ns ss tree w j h ∙ ap (λ (x : ℕ). eqb x 2) e,
  )

  later : (j : ℕ) → (kind_of ns j ≡ 0 → ⊥) → 0 < j
  later = not_program ns tree

  pub fit_of : ScopesFit ns ss
  fit_of = record {
    top = root ns ss tree w;
    top_flags = let f = flags 0 0 tree.some (root_kind ns ss tree w 0 (root ns ss tree w)) in (rw (root ns ss tree w) at f.1, rw (root ns ss tree w) at f.0);
    function = λ j z h e. let m = made ns ss tree w j z h (rw e) in let f = flags j 1 h (made_kind ns ss tree w j m ∙ e) in (m, f.0, f.1, f.2);
    arrow = λ j z h e. let m = made ns ss tree w j z h (rw e) in let f = flags j 2 h (made_kind ns ss tree w j m ∙ e) in (m, f.0, f.1, f.2);
    block = λ j z h e. let m = made ns ss tree w j z h (rw e) in let f = flags j 3 h (made_kind ns ss tree w j m ∙ e) in (m, f.0);
    class = λ c h e. class_name ns ss tree w c (later c (λ q. omega arith)) h e;
    body = λ j h e. class_body ns ss tree w j (later j (λ q. omega arith)) h e;
    in_body = λ j z h e. (same_only ns ss tree w j z h (rw e) (rw e), class_element ns ss tree w j z h e);
    element = λ j z h l u. let n = no_scope (kind_of ns (parent_of ns j)) l u in same_only ns ss tree w j z h n.0 n.1;
    other = λ j z h e.
        ⊎_elim (λ q. inl q)
        (λ m. let f = flags j (kind_of ns (parent_of ns j)) h (made_kind ns ss tree w j m) in let n = no_function (kind_of ns (parent_of ns j)) e in inr (m, f.0 ∙ n.0, f.1 ∙ n.1))
        (same_or_made ns ss tree w j z h);
  }
