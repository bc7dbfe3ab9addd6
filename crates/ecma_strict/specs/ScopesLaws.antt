-- What is known where the scopes follow the tree.
use Rattle.std.specs.Prelude.{ℕ, ◌<◌, ◌≡◌, refl, List, Bool, true, false, not, ◌||◌, eqb}
use Rattle.std.proofs.Common.{ap, ◌∙◌, inl, inr, ⊎_elim, eq-or-lt_of_le, arith, eqb-true}
use Rattle.std.proofs.lemmas.Bool.{eqb-false}
use Rattle.base_common.specs.Tests.{within}
use Rattle.base_common.proofs.Bools.{either, in_range_lem, range_of}
use Rattle.table_records.specs.Table.{kind_of, parent_of, count, scope_of, scope_node_of}
use Rattle.table_records.specs.Facts.{Tree}
use Rattle.table_records.specs.Kinds as k
use Rattle.table_ancestry.proofs.AncestryLaws.{parent_in}
use Rattle.refusal_standing.specs.Standing.{Placed}
use Rattle.ecma_base.specs.Scopes.{scopes_follow}
use Rattle.ecma_base.proofs.ScopesLaws.{not_program, no_function, root, block_flag, function_flag, made, same_or_made, same_only, made_kind, root_kind}
use Rattle.ecma_strict.specs.AgreeLaws.{ScopesTold}
use Rattle.ecma_base.proofs.ContainsLaws.{root_only}
use Rattle.ecma_names.specs.Identifiers.{DirectiveScope}
use Rattle.ecma_names.specs.Changed.{directive_placed}

module _ (ns ss : List ℕ) (t : Tree ns) (w : scopes_follow ns ss ≡ true) where
  -- `within` has one less: a kind from 1 to 3 that is not 3
  function_or_block : (a : ℕ) → within a 1 3 ≡ true → within a 1 2 ≡ not (eqb a 3)
  function_or_block a e = go (eqb a 3) refl
    where
      go : (x : Bool) → eqb a 3 ≡ x → within a 1 2 ≡ not x
      go true q = rw (eqb-true a 3 q)
      go false q =
          let r = range_of a 1 3 e in
          let r0 = r.0 in
          let r1 = r.1 in
          in_range_lem a 1 2 r0 (⊎_elim (λ (y : a ≡ 3). absurd (eqb-false a 3 q y)) (λ (y : a < 3). omega arith) (eq-or-lt_of_le r1))

  pub scopes_told : ScopesTold ns ss
  scopes_told = record {
    top = (root ns ss t w);
    neither = (block_flag ns ss t w 0 t.some ∙ rw (root_kind ns ss t w 0 (root ns ss t w)), function_flag ns ss t w 0 t.some ∙ rw (root_kind ns ss t w 0 (root ns ss t w)));
    inside = λ i z h e.
        let m = made ns ss t w i z h (ap (λ b. b || (eqb (kind_of ns (parent_of ns i)) k.Block || within (kind_of ns (parent_of ns i)) k.For k.ForOf)) e) in
        (block_flag ns ss t w i h ∙ ap (λ (x : ℕ). eqb x 3) (made_kind ns ss t w i m), function_flag ns ss t w i h ∙ ap (λ (x : ℕ). within x 1 2) (made_kind ns ss t w i m) ∙ function_or_block (kind_of ns (parent_of ns i)) e);
    elsewhere = λ i z h e.
        ⊎_elim (λ q. inl q)
        (λ m. inr (
          m.later,
          m.around,
          block_flag ns ss t w i h ∙ ap (λ (x : ℕ). eqb x 3) (made_kind ns ss t w i m) ∙ (no_function (kind_of ns (parent_of ns i)) e).0,
          function_flag ns ss t w i h ∙ ap (λ (x : ℕ). within x 1 2) (made_kind ns ss t w i m) ∙ (no_function (kind_of ns (parent_of ns i)) e).1,
        ))
        (same_or_made ns ss t w i z h);
  }

  module _ (v : Placed ns) where
    -- a directive under the program or in the body of a function
    pub directive_scope : (n : ℕ) → 0 < n → n < count ns → directive_placed ns n ≡ true → DirectiveScope ns ss n
    directive_scope n z h e =
        ⊎_elim (λ q. program (eqb-true (kind_of ns (parent_of ns n)) 0 q)) (λ q. body (eqb-true (kind_of ns (parent_of ns n)) 4 q))
        (either (eqb (kind_of ns (parent_of ns n)) 0) (eqb (kind_of ns (parent_of ns n)) 4) e)
      where
        program : kind_of ns (parent_of ns n) ≡ 0 → DirectiveScope ns ss n
        program q =
            let o : parent_of ns n ≡ 0 = root_only ns t (parent_of ns n) (parent_in ns t n h) q in
            let s : scope_of ns n ≡ 0 = same_only ns ss t w n z h (rw q) (rw q) ∙ ap (λ (x : ℕ). scope_of ns x) o ∙ (root ns ss t w) in
            record { function = function_flag ns ss t w n h ∙ rw (root_kind ns ss t w n s, q); whose = λ y. absurd (omega arith) }

        body : kind_of ns (parent_of ns n) ≡ 4 → DirectiveScope ns ss n
        body q =
            let l = parent_in ns t n h in
            let y : 0 < parent_of ns n = not_program ns t (parent_of ns n) (λ (c : kind_of ns (parent_of ns n) ≡ 0). omega arith) in
            let r = v.function_body (parent_of ns n) l q in
            let r0 = r.0 in
            let r1 = r.1 in
            let i : within (kind_of ns (parent_of ns (parent_of ns n))) 1 2 ≡ true = in_range_lem (kind_of ns (parent_of ns (parent_of ns n))) 1 2 r0 r1 in
            let j : within (kind_of ns (parent_of ns (parent_of ns n))) 1 3 ≡ true = in_range_lem (kind_of ns (parent_of ns (parent_of ns n))) 1 3 r0 (omega arith) in
            let m = made ns ss t w (parent_of ns n) y l (ap (λ b. b || (eqb (kind_of ns (parent_of ns (parent_of ns n))) k.Block || within (kind_of ns (parent_of ns (parent_of ns n))) k.For k.ForOf)) j) in
            let s : scope_of ns n ≡ scope_of ns (parent_of ns n) = same_only ns ss t w n z h (rw q) (rw q) in
            let o : scope_node_of ss (scope_of ns n) ≡ parent_of ns (parent_of ns n) = ap (λ (x : ℕ). scope_node_of ss x) s ∙ m.whose in
            record { function = function_flag ns ss t w n h ∙ ap (λ (x : ℕ). within (kind_of ns x) 1 2) o ∙ rw (q, i); whose = λ c. o }
