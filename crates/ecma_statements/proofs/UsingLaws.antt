-- Where a using declaration stands, where the scopes follow the tree.
use Rattle.std.specs.Prelude.{ℕ, ◌<◌, ◌≡◌, refl, List, Bool, not, ◌&&◌, ◌||◌, eqb}
use Rattle.std.proofs.Common.{ap, sym, ◌∙◌, ⊎_elim, eq-or-lt_of_le, arith, eq-eqb, ne_eqb, eqb-true}
use Rattle.std.proofs.Math.Bool.{true, false}
use Rattle.std.proofs.lemmas.Bool.{eqb-false}
use Rattle.base_common.specs.Tests.{within}
use Rattle.base_common.proofs.Bools.{never, or_first, or_second, either, in_range_lem, range_of}
use Rattle.table_records.specs.Table.{kind_of, parent_of, count, scope_of}
use Rattle.table_records.specs.Facts.{Tree}
use Rattle.table_records.specs.Kinds as k
use Rattle.table_ancestry.proofs.AncestryLaws.{parent_in, ancestors_up, ancestors_root}
use Rattle.refusal_standing.specs.Standing.{Placed}
use Rattle.ecma_base.specs.Scopes.{makes_scope, may_make_scope, top_scope, scopes_follow}
use Rattle.ecma_base.proofs.ScopesLaws.{not_program, root, top_flag, made, same_or_made, same_only}
use Rattle.ecma_statements.specs.Statements.{holds_using, held_using}
use Rattle.ecma_base.proofs.ContainsLaws.{upward}
use Rattle.ecma_statements.specs.Changed.{other_scope}

-- the holders of a using declaration, but for FunctionBody, make a scope; what is no holder, no function and no arrow makes none
holders_make : (a : ℕ) → holds_using a ≡ true → eqb a 4 ≡ false → makes_scope a ≡ true
holders_make a e q =
    ⊎_elim (λ x.
    let r = range_of a 3 5 x in
    let r0 = r.0 in
    let r1 = r.1 in
    ⊎_elim (λ (y : 3 ≡ a). rw (sym y)) (λ (y : 3 < a). ⊎_elim (λ (u : a ≡ 5). rw u) (λ (u : a < 5). absurd (eqb-false a 4 q (omega arith))) (eq-or-lt_of_le r1)) (eq-or-lt_of_le r0))
    (λ x. or_last (within a 1 3) (eqb a 5) (within a 7 9) x)
    (either (within a 3 5) (within a 7 9) e)
  where
    or_last : (x y z : Bool) → z ≡ true → (x || (y || z)) ≡ true
    or_last true y z e = refl
    or_last false true z e = refl
    or_last false false z e = e

make_none : (a : ℕ) → holds_using a ≡ false → within a 1 2 ≡ false → makes_scope a ≡ false
make_none a e f = go (makes_scope a) refl
  where
    low : within a 3 5 ≡ false
    low = or_first (within a 3 5) (within a 7 9) e

    go : (x : Bool) → makes_scope a ≡ x → x ≡ false
    go true q =
        ⊎_elim (λ x.
        let r = range_of a 1 3 x in
        let r0 = r.0 in
        let r1 = r.1 in
        ⊎_elim (λ (y : a ≡ 3). never (sym (in_range_lem a 3 5 (omega arith) (omega arith)) ∙ low)) (λ (y : a < 3). never (sym (in_range_lem a 1 2 r0 (omega arith)) ∙ f)) (eq-or-lt_of_le r1))
        (λ x. ⊎_elim (λ y. let u = eqb-true a 5 y in never (sym (in_range_lem a 3 5 (omega arith) (omega arith)) ∙ low)) (λ y. never (sym y ∙ or_second (within a 3 5) (within a 7 9) e)) (either (eqb a 5) (within a 7 9) x))
        (either (within a 1 3) (eqb a 5 || within a 7 9) q)
    go false q = refl

module _ (ns ss : List ℕ) (t : Tree ns) (w : scopes_follow ns ss ≡ true) (v : Placed ns) where
  held_up : (i : ℕ) → 0 < i → i < count ns → held_using ns i ≡ (holds_using (kind_of ns (parent_of ns i)) || held_using ns (parent_of ns i))
  unfolding held_using
  held_up i z h = ancestors_up (λ a r. holds_using (kind_of ns a) || r) false ns t i z h

  other_up : (i : ℕ) → 0 < i → i < count ns → other_scope ns i ≡ ((within (kind_of ns (parent_of ns i)) k.Function k.Arrow || may_make_scope (kind_of ns (parent_of ns i))) || other_scope ns (parent_of ns i))
  unfolding other_scope
  other_up i z h = ancestors_up (λ a r. (within (kind_of ns a) k.Function k.Arrow || may_make_scope (kind_of ns a)) || r) false ns t i z h

  -- where a Block and the like holds it, the scope is not the program's
  held : (i : ℕ) → i < count ns → held_using ns i ≡ true → 0 < scope_of ns i
  unfolding held_using
  held = upward ns t (λ i. held_using ns i ≡ true → 0 < scope_of ns i) first step
    where
      first : held_using ns 0 ≡ true → 0 < scope_of ns 0
      first e = never (sym e ∙ ancestors_root (λ a r. holds_using (kind_of ns a) || r) false ns)

      step : (i : ℕ) → 0 < i → i < count ns → (held_using ns (parent_of ns i) ≡ true → 0 < scope_of ns (parent_of ns i)) → held_using ns i ≡ true → 0 < scope_of ns i
      step i z h r e = ⊎_elim (λ q. here q) (λ q. below (r q)) (either (holds_using (kind_of ns (parent_of ns i))) (held_using ns (parent_of ns i)) (sym (held_up i z h) ∙ e))
        where
          below : 0 < scope_of ns (parent_of ns i) → 0 < scope_of ns i
          below l = ⊎_elim (λ (q : scope_of ns i ≡ scope_of ns (parent_of ns i)). omega arith) (λ m. m.later) (same_or_made ns ss t w i z h)

          here : holds_using (kind_of ns (parent_of ns i)) ≡ true → 0 < scope_of ns i
          here q = go (eqb (kind_of ns (parent_of ns i)) 4) refl
            where
              go : (x : Bool) → eqb (kind_of ns (parent_of ns i)) 4 ≡ x → 0 < scope_of ns i
              go true x =
                  let c = eqb-true (kind_of ns (parent_of ns i)) 4 x in
                  let l = parent_in ns t i h in
                  let r = v.function_body (parent_of ns i) l c in
                  let r0 = r.0 in
                  let r1 = r.1 in
                  let j : within (kind_of ns (parent_of ns (parent_of ns i))) 1 3 ≡ true = in_range_lem (kind_of ns (parent_of ns (parent_of ns i))) 1 3 r0 (omega arith) in
                  below (made ns ss t w (parent_of ns i) (not_program ns t (parent_of ns i) (λ (y : kind_of ns (parent_of ns i) ≡ 0). omega arith)) l
                  (ap (λ b. b || (eqb (kind_of ns (parent_of ns (parent_of ns i))) k.Block || within (kind_of ns (parent_of ns (parent_of ns i))) k.For k.ForOf)) j)).later
              go false x = (made ns ss t w i z h (holders_make (kind_of ns (parent_of ns i)) q x)).later

  free : (i : ℕ) → i < count ns → held_using ns i ≡ false → other_scope ns i ≡ false → scope_of ns i ≡ 0
  free = upward ns t (λ i. held_using ns i ≡ false → other_scope ns i ≡ false → scope_of ns i ≡ 0) (λ e o. (root ns ss t w)) step
    where
      step : (i : ℕ) → 0 < i → i < count ns → (held_using ns (parent_of ns i) ≡ false → other_scope ns (parent_of ns i) ≡ false → scope_of ns (parent_of ns i) ≡ 0)
          → held_using ns i ≡ false → other_scope ns i ≡ false → scope_of ns i ≡ 0
      step i z h r e o =
          let x = sym (held_up i z h) ∙ e in
          let y = sym (other_up i z h) ∙ o in
          let a = or_first (holds_using (kind_of ns (parent_of ns i))) (held_using ns (parent_of ns i)) x in
          let c = or_first (within (kind_of ns (parent_of ns i)) k.Function k.Arrow || may_make_scope (kind_of ns (parent_of ns i))) (other_scope ns (parent_of ns i)) y in
          same_only ns ss t w i z h (make_none (kind_of ns (parent_of ns i)) a (or_first (within (kind_of ns (parent_of ns i)) k.Function k.Arrow) (may_make_scope (kind_of ns (parent_of ns i))) c))
          (or_second (within (kind_of ns (parent_of ns i)) k.Function k.Arrow) (may_make_scope (kind_of ns (parent_of ns i))) c)
          ∙ r (or_second (holds_using (kind_of ns (parent_of ns i))) (held_using ns (parent_of ns i)) x)
          (or_second (within (kind_of ns (parent_of ns i)) k.Function k.Arrow || may_make_scope (kind_of ns (parent_of ns i))) (other_scope ns (parent_of ns i)) y)

  -- a declaration in no other scope
  pub using_scope : (n : ℕ) → n < count ns → (other_scope ns n && not (held_using ns n)) ≡ false → top_scope ns ss n ≡ not (held_using ns n)
  using_scope n h o = top_flag ns ss t w n h ∙ go (held_using ns n) refl (other_scope ns n) refl
    where
      go : (x : Bool) → held_using ns n ≡ x → (y : Bool) → other_scope ns n ≡ y → eqb (scope_of ns n) 0 ≡ not x
      go true e y d = ne_eqb (scope_of ns n) 0 (λ z. let l = held n h e in omega arith)
      go false e true d = never (sym (rw (d, e)) ∙ o)
      go false e false d = eq-eqb (scope_of ns n) 0 (free n h e d)
