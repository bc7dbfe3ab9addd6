-- The scope at each node: which completions have a target there. b is the node that holds the unit's statements.
use Rattle.std.specs.Prelude.{ℕ, zero, suc, ◌≤◌, ◌<◌, ◌≡◌, Bool, true, cond, leb}
use Rattle.std.proofs.Common.{ap, sym, subst, ◌∙◌, ⊎_elim, eq-or-lt_of_le, arith, le-leb}
use mathlib.Core.List.{List, [], ◌∷◌, foldr}
use Rattle.std.proofs.lemmas.Bool.{lt-leb}
use Rattle.base_common.proofs.Bools.{never}
use Rattle.base_walk.specs.Above.{Falls, above}
use Rattle.base_walk.proofs.AboveLaws.{fold_up}
use Rattle.base_walk.proofs.PreorderLaws.{lt_or_ge}
use Rattle.table_records.specs.Table.{count}
use Rattle.route_completion.specs.Sem.{Comp, no_break}
use Rattle.route_completion.specs.Route.{top_scope, loop_scope, label_scope}
use Rattle.code_tree.specs.Labels.{id_at}
use Rattle.code_tree.specs.Parts.{up_of, shape_at}
use Rattle.code_tree.specs.Parts.{Part}
use Rattle.code_tree.specs.declared.Shape.{Shape}
use Rattle.code_tree.specs.declared.Shape.TheVariants.{Leaf as Single, Class, If, With, Block, Label, Loop, Switch, Case, Try, Catch}
use Rattle.code_layout.specs.Widths.{in_unit}
use Rattle.code_layout.proofs.LayoutLaws.{in_root, in_low, in_part, in_above, in_down}

-- The labels right above a node, and its scope.
pub record Scope : Type 0 where
  pub labels : List ℕ
  pub scope : Comp → Bool

abbrev pub scope_of : List ℕ → (Comp → Bool) → Scope
scope_of ls σ = record { labels = ls; scope = σ }

module _ (ns names : List ℕ) (b : ℕ) where
  -- From the node p with the shape s to its parts.
  abbrev pub part_scope : Shape → ℕ → Scope → Scope
  part_scope Single p a = scope_of [] a.scope
  part_scope Class p a = scope_of [] a.scope
  part_scope If p a = scope_of [] a.scope
  part_scope With p a = scope_of [] a.scope
  part_scope Block p a = scope_of [] a.scope
  part_scope Label p a = scope_of (id_at ns names p ∷ a.labels) (label_scope (id_at ns names p) a.scope)
  part_scope Loop p a = scope_of [] (loop_scope a.labels a.scope)
  part_scope Switch p a = scope_of [] (λ c. a.scope (no_break c))
  part_scope Case p a = scope_of [] a.scope
  part_scope Try p a = scope_of [] a.scope
  part_scope Catch p a = scope_of a.labels a.scope

  abbrev pub root_scope : Scope
  root_scope = scope_of [] top_scope

  unfoldable pub scope_at : ℕ → Scope
  scope_at j = foldr (λ a r. cond (leb a b) root_scope (part_scope (shape_at ns (up_of ns a)) (up_of ns a) r)) root_scope (j ∷ above (up_of ns) j)

  -- The scope of the parts of p.
  abbrev pub under : ℕ → Scope
  under p = part_scope (shape_at ns p) p (scope_at p)

  pub scope_root : scope_at b ≡ root_scope
  unfolding scope_at
  scope_root = rw (le-leb b b (omega arith))

  module _ (t : Falls (up_of ns) (count ns)) where
    pub scope_up : (j : ℕ) → b < j → j < count ns → scope_at j ≡ under (up_of ns j)
    unfolding scope_at
    scope_up j hb hc =
        rw (lt-leb j b hb) (ap (λ r. part_scope (shape_at ns (up_of ns j)) (up_of ns j) r) (fold_up _ _ (up_of ns) (count ns) t j (omega arith) hc))

    -- A node of the unit's statements, or b.
    pub record Member (p : ℕ) : Type 0 where
      pub from : b ≤ p
      pub below : p < count ns
      pub inside : in_unit ns b p ≡ true

    pub member_root : b < count ns → Member b
    member_root l = record { from = omega arith; below = l; inside = in_root ns b }

    -- It is a part of its holder, which is one too ..
    module _ (p : ℕ) (h : b < p) (l : Member p) where
      pub member_part : Part ns (up_of ns p) p
      member_part = in_part ns b t p h l.below l.inside

      pub member_up : Member (up_of ns p)
      member_up =
          let e = in_above ns b t p h l.below l.inside in
          let f = t p (omega arith) l.below in
          let c = l.below in
          record {
            from = ⊎_elim (λ (q : up_of ns p < b). never (sym e ∙ in_low ns b (up_of ns p) q)) (λ (q : b ≤ up_of ns p). q) (lt_or_ge (up_of ns p) b);
            below = omega arith;
            inside = e;
          }

    -- .. and so are its own parts.
    pub member_down : (p j : ℕ) → Member p → Part ns p j → Member j
    member_down p j l w =
        let f = l.from in
        let h = w.behind in
        record { from = omega arith; below = w.inside; inside = in_down ns b t p j l.from l.inside w }

    -- What holds at b, and of a node where it holds of its holder, holds of all of them.
    climb_by : (P : ℕ → Type 0) → P b → ((p : ℕ) → b < p → Member p → P (up_of ns p) → P p) → (f p : ℕ) → p ≤ f → Member p → P p
    climb_by P z s zero p hf l = let w = l.from in subst P (omega arith) z
    climb_by P z s (suc f) p hf l =
        ⊎_elim (λ (q : b ≡ p). subst P q z)
        (λ (h : b < p). let c = l.below in let w = t p (omega arith) l.below in s p h l (climb_by P z s f (up_of ns p) (omega arith) (member_up p h l)))
        (eq-or-lt_of_le l.from)

    pub climb : (P : ℕ → Type 0) → P b → ((p : ℕ) → b < p → Member p → P (up_of ns p) → P p) → (p : ℕ) → Member p → P p
    climb P z s p l = climb_by P z s p p (omega arith) l
