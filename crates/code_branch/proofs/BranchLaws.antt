-- One law for each step of the walk up.
use Rattle.std.specs.Prelude.{ℕ, ◌≤◌, ◌<◌, ◌≡◌, refl, ◌⊎◌, List, true, false, cond, ◌&&◌, ◌||◌, eqb}
use Rattle.std.proofs.Common.{ap, sym, ◌∙◌, inl, inr, eq-or-lt_of_le, arith}
use Rattle.base_common.proofs.Bools.{never}
use Rattle.table_records.specs.Table.{count}
use Rattle.route_completion.specs.Tree.{near, named}
use Rattle.route_completion.specs.Sem.{Comp, normal, breaks, continues, returns, throws, spent, elem}
use Rattle.code_tree.specs.Labels.{id_at}
use Rattle.code_tree.specs.Parts.{up_of, shape_at, is_labeled}
use Rattle.code_tree.specs.declared.Shape.{Shape}
use Rattle.code_tree.specs.declared.Shape.TheVariants.{Leaf, Class, If, With, Block, Label, Loop, Switch, Case, Try, Catch}
use Rattle.code_layout.specs.Widths.{in_unit}
use Rattle.code_layout.proofs.LayoutLaws.{in_part, in_above}
use Rattle.code_layout.proofs.Stands.{in_from}
use Rattle.code_targets.specs.Targets.{is_catch, target, labels_at}
use Rattle.code_targets.proofs.TargetsLaws.{break_near, break_named, continue_near, continue_named, return_up, throw_up, labels_up}
use Rattle.code_contexts.specs.Contexts.{Ready}
use Rattle.code_branch.specs.Branch.{stops_at, land_at, is_jump}

module _ (ns names : List ℕ) (b : ℕ) where
  -- THE LAW of the way up.
  pub target_up : Ready ns names b → (j : ℕ) → b < j → j < count ns → (c : Comp) → is_jump ns names b c ≡ true
      → target ns names b j c ≡ cond (stops_at ns names b c j) (land_at ns names b c j) (target ns names b (up_of ns j) c)
  target_up r j hb hc normal e = never (sym e)
  target_up r j hb hc (breaks near) e = break_near ns names b r.held.good.falls j hb hc
  target_up r j hb hc (breaks (named l)) e = break_named ns names b r.held.good.falls j hb hc l
  target_up r j hb hc (continues near) e = continue_near ns names b r.held.good.falls j hb hc
  target_up r j hb hc (continues (named l)) e = continue_named ns names b r.held.good.falls j hb hc l
  target_up r j hb hc returns e = return_up ns names b r.held.good.falls j hb hc
  target_up r j hb hc throws e = throw_up ns names b r.held.good.falls j hb hc
  target_up r j hb hc spent e = never (sym e)

  pub jump_on : Ready ns names b → (j : ℕ) → b < j → j < count ns → (c : Comp) → is_jump ns names b c ≡ true → stops_at ns names b c j ≡ false → target ns names b (up_of ns j) c ≡ target ns names b j c
  jump_on r j hb hc c e s = sym (target_up r j hb hc c e ∙ ap (λ x. cond x (land_at ns names b c j) (target ns names b (up_of ns j) c)) s)

  pub jump_stop : Ready ns names b → (j : ℕ) → b < j → j < count ns → (c : Comp) → is_jump ns names b c ≡ true → stops_at ns names b c j ≡ true → land_at ns names b c j ≡ target ns names b j c
  jump_stop r j hb hc c e s = sym (target_up r j hb hc c e ∙ ap (λ x. cond x (land_at ns names b c j) (target ns names b (up_of ns j) c)) s)

  -- The labels right above a node of the unit: a CatchClause, which stands in a Try, has none.
  pub labels_in : Ready ns names b → (j : ℕ) → b < j → j < count ns → in_unit ns b j ≡ true → (l : ℕ)
      → elem l (labels_at ns names b j) ≡ cond (is_labeled (shape_at ns (up_of ns j))) (eqb l (id_at ns names (up_of ns j)) || elem l (labels_at ns names b (up_of ns j))) false
  labels_in r j hb hc u l = labels_up ns names b r.held.good.falls j hb hc l ∙ ap (cond (is_labeled (shape_at ns (up_of ns j))) (eqb l (id_at ns names (up_of ns j)) || elem l (labels_at ns names b (up_of ns j)))) (none (shape_at ns (up_of ns j)) refl)
    where
      up : in_unit ns b (up_of ns j) ≡ true
      up = in_above ns b r.held.good.falls j hb hc u

      low : b ≤ up_of ns j
      low = in_from ns names b r.held.good (up_of ns j) up

      less : up_of ns j < j
      less = (in_part ns b r.held.good.falls j hb hc u).behind

      differ : Catch ≡ Block → ⊥
      differ z = never (ap (is_catch) z)

      catch : shape_at ns (up_of ns j) ≡ Catch → (b ≡ up_of ns j) ⊎ (b < up_of ns j) → elem l (labels_at ns names b (up_of ns j)) ≡ false
      catch q (inl z) = absurd (differ (sym q ∙ ap (shape_at ns) (sym z) ∙ r.held.block))
      catch q (inr z) =
          let k : up_of ns j < count ns = omega (arith, less) in
          let t = r.held.good.shaped.catches (up_of ns j) k q in
          labels_up ns names b r.held.good.falls (up_of ns j) z k l
          ∙ (λ i. cond (is_labeled (t i)) (eqb l (id_at ns names (up_of ns (up_of ns j))) || elem l (labels_at ns names b (up_of ns (up_of ns j)))) (is_catch (t i) && elem l (labels_at ns names b (up_of ns (up_of ns j)))))

      none : (s : Shape) → shape_at ns (up_of ns j) ≡ s → (is_catch (shape_at ns (up_of ns j)) && elem l (labels_at ns names b (up_of ns j))) ≡ false
      none Catch q = (λ i. is_catch (q i) && catch q (eq-or-lt_of_le low) i)
      none Leaf q = (λ i. is_catch (q i) && elem l (labels_at ns names b (up_of ns j)))
      none Class q = (λ i. is_catch (q i) && elem l (labels_at ns names b (up_of ns j)))
      none If q = (λ i. is_catch (q i) && elem l (labels_at ns names b (up_of ns j)))
      none With q = (λ i. is_catch (q i) && elem l (labels_at ns names b (up_of ns j)))
      none Block q = (λ i. is_catch (q i) && elem l (labels_at ns names b (up_of ns j)))
      none Label q = (λ i. is_catch (q i) && elem l (labels_at ns names b (up_of ns j)))
      none Loop q = (λ i. is_catch (q i) && elem l (labels_at ns names b (up_of ns j)))
      none Switch q = (λ i. is_catch (q i) && elem l (labels_at ns names b (up_of ns j)))
      none Case q = (λ i. is_catch (q i) && elem l (labels_at ns names b (up_of ns j)))
      none Try q = (λ i. is_catch (q i) && elem l (labels_at ns names b (up_of ns j)))
