-- Counting by role and counting by kind and role, where no child is misplaced.
use Rattle.std.specs.Prelude.{ℕ, zero, suc, ◌+◌, ◌≤◌, ◌<◌, ◌≡◌, List, Bool, ◌&&◌, ◌||◌, None}
use Rattle.std.proofs.Math.Path.{refl, sym}
use Rattle.std.proofs.Common.{ap, ◌∙◌, ⊎_elim, arith, eq-eqb, eqb-true}
use Rattle.std.proofs.Math.Bool.{true, false}
use Rattle.std.proofs.lemmas.Bool.{eqb-false}
use Rattle.std.proofs.Math.Dec.{eqb}
use Rattle.std.proofs.Math.ListN.{length}
use Rattle.base_common.specs.Tests.{within}
use Rattle.base_common.specs.Upto.{upto}
use Rattle.base_common.proofs.Bools.{in_range_lem, range_of}
use Rattle.table_records.specs.Table.{kind_of, role_of, parent_of, count}
use Rattle.table_records.specs.Facts.{Tree}
use Rattle.table_records.specs.Kinds as k
use Rattle.table_records.specs.Roles as r
use Rattle.table_children.specs.Children.{children, is_child}
use Rattle.table_children.proofs.ChildrenLaws.{tally, tally_all, keep_keep}
use Rattle.refusal_verdict.specs.First.{first}
use Rattle.refusal_verdict.proofs.FirstLaws.{le_or_lt}
use Rattle.refusal_fields.specs.Fields.{Listed}
use Rattle.refusal_standing.specs.Standing.{is_statement, may_be_statement, is_holder, try_part, misplaced_child_at, Placed}
use Rattle.refusal_standing.proofs.StandingLaws.{placed_of}
use Rattle.refusal_counts.specs.Counts.{with_role}
use Rattle.refusal_counts.proofs.CountsLaws.{tally_by, by_turn, by_end}
use Rattle.refusal_input.specs.ByKind.{with_both, statement, is, ByKind}

-- two tests that agree count alike
same_tally : (p q : ℕ → Bool) (n f i : ℕ) → n ≤ i + f → ((j : ℕ) → i ≤ j → j < n → p j ≡ q j) → tally_by p i n ≡ tally_by q i n
same_tally p q n zero i hf w = by_end p n i (omega arith) ∙ sym (by_end q n i (omega arith))
same_tally p q n (suc f) i hf w =
    ⊎_elim (λ (h : n ≤ i). by_end p n i h ∙ sym (by_end q n i h))
    (λ (h : i < n). by_turn p n i h ∙ rw (w i (omega arith) h, same_tally p q n f (i + 1) (omega arith) (λ j x y. w j (omega arith) y)) (sym (by_turn q n i h)))
    (le_or_lt n i)

neither : (x y : Bool) → (x && false) ≡ (y && false)
neither true true = refl
neither true false = refl
neither false true = refl
neither false false = refl

-- the tests of one child: by role among the listed kinds, and by kind and role
module _ (takes : ℕ → Bool) (kind role want : ℕ) (listed : kind ≤ 55) (only : role ≡ want → takes kind ≡ true) where
  same_fit : (within kind 0 55 && within role want want) ≡ (takes kind && eqb role want)
  same_fit = go (eqb role want) refl
    where
      outside : (x : Bool) → within role want want ≡ x → (role ≡ want → ⊥) → within role want want ≡ false
      outside true e n = let w = range_of role want want e in absurd (n (omega arith))
      outside false e n = e

      go : (x : Bool) → eqb role want ≡ x → (within kind 0 55 && within role want want) ≡ (takes kind && eqb role want)
      go true e =
          let q = eqb-true role want e in
          rw (e, only q, in_range_lem kind 0 55 (omega arith) listed, in_range_lem role want want (omega arith) (omega arith))
      go false e = rw (e, outside (within role want want) refl (eqb-false role want e)) (neither (within kind 0 55) (takes kind))

module _ (ns : List ℕ) (listed : Listed ns) (takes : ℕ → Bool) (p role : ℕ) where
  -- each child of p with this role is of a kind that passes
  one_count : ((c : ℕ) → p < c → c < count ns → parent_of ns c ≡ p → role_of ns c ≡ role → takes (kind_of ns c) ≡ true) → with_role ns p role ≡ with_both takes ns p role
  unfolding tally tally_by is_child with_both children
  one_count only =
      sym (tally_all ns p 0 55 role role)
      ∙ same_tally (is_child ns p 0 55 role role) (λ c. eqb (parent_of ns c) p && (takes (kind_of ns c) && eqb (role_of ns c) role)) (count ns) (count ns) (p + 1) (omega arith)
      (λ c x y. go c y (eqb (parent_of ns c) p) refl (λ q h. only c (omega arith) y q h))
      ∙ sym (ap length (keep_keep _ _ (upto (p + 1) (count ns))))
    where
      go : (c : ℕ) → c < count ns → (x : Bool) → eqb (parent_of ns c) p ≡ x → (parent_of ns c ≡ p → role_of ns c ≡ role → takes (kind_of ns c) ≡ true)
          → (eqb (parent_of ns c) p && (within (kind_of ns c) 0 55 && within (role_of ns c) role role)) ≡ (eqb (parent_of ns c) p && (takes (kind_of ns c) && eqb (role_of ns c) role))
      go c l true e f = rw e (same_fit takes (kind_of ns c) (role_of ns c) role (listed.kind c l) (f (eqb-true (parent_of ns c) p e)))
      go c l false e f = rw e

holder : (x : ℕ) → k.Labeled ≤ x → x ≤ k.With → is_holder x ≡ true
unfolding is_holder
holder x a b = go (eqb x 0) (within x 3 13) (in_range_lem x 3 13 (omega arith) (omega arith))
  where
    go : (u v : Bool) → v ≡ true → (u || (v || within x 15 17)) ≡ true
    go true v e = refl
    go false v e = rw e

second : (x y : Bool) → y ≡ true → (x || y) ≡ true
second true y e = refl
second false y e = e

-- what kinds 6 to 13 hold is a statement
held_statement : (ns : List ℕ) → Placed ns → (p c role : ℕ) → p < c → c < count ns → parent_of ns c ≡ p → role_of ns c ≡ role → r.Held ≤ role → role ≤ r.Finally
    → k.Labeled ≤ kind_of ns p → kind_of ns p ≤ k.With → statement (kind_of ns c) ≡ true
held_statement ns placed p c role h l q e a b u v =
    let w : kind_of ns (parent_of ns c) ≡ kind_of ns p = ap (kind_of ns) q in
    ⊎_elim (λ (s : is_statement (kind_of ns c) ≡ true). rw s)
    (λ z. ⊎_elim (λ (s : may_be_statement (kind_of ns c) ≡ true). second (is_statement (kind_of ns c)) (may_be_statement (kind_of ns c)) s) (λ s. let y = s.1 in absurd (omega arith)) z)
    (placed.held c (omega arith) l (omega arith) (omega arith) (holder (kind_of ns (parent_of ns c)) (omega arith) (omega arith)))

pub by_kind : (ns : List ℕ) → Tree ns → Listed ns → first (misplaced_child_at ns) 0 (count ns) ≡ None → ByKind ns
unfolding try_part
by_kind ns t listed e =
    let d = placed_of ns t e in
    let one : (p role kind : ℕ) → ((c : ℕ) → p < c → c < count ns → parent_of ns c ≡ p → role_of ns c ≡ role → kind_of ns c ≡ kind) → with_role ns p role ≡ with_both (is kind) ns p role
    = λ p role kind f. one_count ns listed (is kind) p role (λ c x y q h. eq-eqb (kind_of ns c) kind (f c x y q h)) in
    record {
      body = λ i l a b. one_count ns listed statement i 3 (λ c x y q h. held_statement ns d i c 3 x y q h (omega arith) (omega arith) a b);
      alternate = λ i l a. one_count ns listed statement i 4 (λ c x y q h. held_statement ns d i c 4 x y q h (omega arith) (omega arith) (omega arith) (omega arith));
      try_block = λ i l a. one i 3 5 (λ c x y q h. d.in_try c y (ap (kind_of ns) q ∙ a) (omega arith) (omega arith) ∙ ap try_part h);
      try_clause = λ i l a. one i 4 17 (λ c x y q h. d.in_try c y (ap (kind_of ns) q ∙ a) (omega arith) (omega arith) ∙ ap try_part h);
      try_finally = λ i l a. one i 5 5 (λ c x y q h. d.in_try c y (ap (kind_of ns) q ∙ a) (omega arith) (omega arith) ∙ ap try_part h);
      clause_block = λ i l a. one i 3 5 (λ c x y q h. d.in_clause c y (ap (kind_of ns) q ∙ a) h);
      method = λ i l a. one i 1 1 (λ c x y q h. d.method_value c y (ap (kind_of ns) q ∙ a) h);
    }
