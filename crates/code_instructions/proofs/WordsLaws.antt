-- An array that begins with a node's words: one law for each shape.
use Rattle.std.specs.Prelude.{ℕ, ◌+◌, ◌<◌, ◌≡◌, List, [], ◌∷◌, true, false, cond}
use Rattle.std.proofs.Math.Path.{refl, ap, subst}
use Rattle.std.proofs.Common.{sym, ◌∙◌}
use Rattle.table_records.specs.Roles as role
use Rattle.route_completion.specs.Sem.{normal, pick, comp_of}
use Rattle.code_flat.specs.Code.{Stat, at, place_of, depth_of}
use Rattle.code_flat.specs.Has.{Has}
use Rattle.code_flat.specs.Opcodes as op
use Rattle.code_tree.specs.Parts.{up_of, shape_at, order}
use Rattle.code_tree.specs.Statements.{leaf_at, before_at, test_at}
use Rattle.code_tree.specs.declared.Shape.{Shape}
use Rattle.code_tree.specs.declared.Shape.TheVariants.{Leaf, Class, If, With, Block, Label, Loop, Switch, Case, Try, Catch}
use Rattle.code_layout.specs.Widths.{has_role, width_at}
use Rattle.code_layout.specs.Context.{ifz, head0, behind, context_at, offset_at}
use Rattle.code_layout.specs.Words.{last_from, default_from, if_yes, if_no, words_by, words_at}
use Rattle.code_layout.proofs.LayoutLaws.{words_on}
use Rattle.code_targets.specs.Targets.{target, depth_at}

module _ (ns names : List ℕ) (b j : ℕ) (h : b < j) where
  by : (s : Shape) → shape_at ns j ≡ s → words_by ns names b s j (order ns j) (context_at ns names b j) (behind (order ns (up_of ns j)) j) ≡ words_at ns names b j
  by s q = sym (words_on ns names b j h ∙ ap (λ s. words_by ns names b s j (order ns j) (context_at ns names b j) (behind (order ns (up_of ns j)) j)) q)

  pub leaf_has : shape_at ns j ≡ Leaf → (t : Stat) → t ≡ target ns names b j (comp_of (leaf_at ns names j))
      → Has (op.List ∷ j ∷ op.Leave ∷ place_of t ∷ depth_of t ∷ 0 ∷ 0 ∷ 0 ∷ 0 ∷ 0 ∷ []) 0 (words_at ns names b j)
  unfolding target
  leaf_has q t e = subst (Has (op.List ∷ j ∷ op.Leave ∷ place_of t ∷ depth_of t ∷ 0 ∷ 0 ∷ 0 ∷ 0 ∷ 0 ∷ []) 0) (by Leaf q) (refl, (refl, (refl, (ap place_of e, (ap depth_of e, tt)))))

  pub class_has : shape_at ns j ≡ Class → (t : Stat) → t ≡ ifz (head0 (order ns j)) (target ns names b j normal) (at (offset_at ns names b j + 5) (depth_at ns names b j))
      → Has (op.List ∷ j ∷ op.Leave ∷ place_of t ∷ depth_of t ∷ 0 ∷ 0 ∷ 0 ∷ 0 ∷ 0 ∷ []) 0 (words_at ns names b j)
  unfolding target depth_at
  class_has q t e = subst (Has (op.List ∷ j ∷ op.Leave ∷ place_of t ∷ depth_of t ∷ 0 ∷ 0 ∷ 0 ∷ 0 ∷ 0 ∷ []) 0) (by Class q) (refl, (refl, (refl, (ap place_of e, (ap depth_of e, tt)))))

  pub if_has : shape_at ns j ≡ If → (t : Stat) → t ≡ target ns names b j normal → (x y : ℕ) → x ≡ if_yes ns b (order ns j) (offset_at ns names b j) → y ≡ if_no ns b (order ns j) (offset_at ns names b j)
      → Has (op.Ask ∷ j ∷ x ∷ y ∷ op.Leave ∷ place_of t ∷ depth_of t ∷ 0 ∷ 0 ∷ 0 ∷ []) 0 (words_at ns names b j)
  unfolding target
  if_has q t e x y ex ey = subst (Has (op.Ask ∷ j ∷ x ∷ y ∷ op.Leave ∷ place_of t ∷ depth_of t ∷ 0 ∷ 0 ∷ 0 ∷ []) 0) (by If q) (refl, (refl, (ex, (ey, (refl, (ap place_of e, (ap depth_of e, tt)))))))

  pub with_has : shape_at ns j ≡ With → Has (op.List ∷ j ∷ 0 ∷ 0 ∷ 0 ∷ 0 ∷ 0 ∷ 0 ∷ 0 ∷ 0 ∷ []) 0 (words_at ns names b j)
  with_has q = subst (Has (op.List ∷ j ∷ 0 ∷ 0 ∷ 0 ∷ 0 ∷ 0 ∷ 0 ∷ 0 ∷ 0 ∷ []) 0) (by With q) (refl, (refl, tt))

  pub block_has : shape_at ns j ≡ Block → (t : Stat) → t ≡ ifz (head0 (order ns j)) (target ns names b j normal) (at (offset_at ns names b j + 3) (depth_at ns names b j))
      → Has (op.Leave ∷ place_of t ∷ depth_of t ∷ 0 ∷ 0 ∷ 0 ∷ 0 ∷ 0 ∷ 0 ∷ 0 ∷ []) 0 (words_at ns names b j)
  unfolding target depth_at
  block_has q t e = subst (Has (op.Leave ∷ place_of t ∷ depth_of t ∷ 0 ∷ 0 ∷ 0 ∷ 0 ∷ 0 ∷ 0 ∷ 0 ∷ []) 0) (by Block q) (refl, (ap place_of e, (ap depth_of e, tt)))

  pub loop_has : shape_at ns j ≡ Loop → (t : Stat) → t ≡ target ns names b j normal → (o d x y : ℕ) → o ≡ offset_at ns names b j → d ≡ depth_at ns names b j
      → x ≡ pick (before_at ns j) (o + 3) (o + 10) → y ≡ pick (test_at ns j) (o + 7) (o + 10)
      → Has (op.Leave ∷ x ∷ d ∷ op.Ask ∷ j ∷ (o + 10) ∷ y ∷ op.Leave ∷ place_of t ∷ depth_of t ∷ []) 0 (words_at ns names b j)
  unfolding target depth_at
  loop_has q t e o d x y eo ed ex ey =
      subst (Has (op.Leave ∷ x ∷ d ∷ op.Ask ∷ j ∷ (o + 10) ∷ y ∷ op.Leave ∷ place_of t ∷ depth_of t ∷ []) 0) (by Loop q) (
        refl,
        (
          ex ∙ ap (λ k. pick (before_at ns j) (k + 3) (k + 10)) eo,
          (ed, (refl, (refl, (ap (λ k. k + 10) eo, (ey ∙ ap (λ k. pick (test_at ns j) (k + 7) (k + 10)) eo, (refl, (ap place_of e, (ap depth_of e, tt)))))))),
        ),
      )

  pub switch_has : shape_at ns j ≡ Switch → (t : Stat) → t ≡ target ns names b j normal → (x y : ℕ) → x ≡ ifz (head0 (order ns j)) 0 (offset_at ns names b j + 7)
      → y ≡ default_from ns b (order ns j) (offset_at ns names b j + 7) (offset_at ns names b j + 4)
      → Has (op.Select ∷ j ∷ x ∷ y ∷ op.Leave ∷ place_of t ∷ depth_of t ∷ 0 ∷ 0 ∷ 0 ∷ []) 0 (words_at ns names b j)
  unfolding target
  switch_has q t e x y ex ey = subst (Has (op.Select ∷ j ∷ x ∷ y ∷ op.Leave ∷ place_of t ∷ depth_of t ∷ 0 ∷ 0 ∷ 0 ∷ []) 0) (by Switch q) (refl, (refl, (ex, (ey, (refl, (ap place_of e, (ap depth_of e, tt)))))))

  pub case_has : shape_at ns j ≡ Case → (t : Stat) → t ≡ ifz (head0 (order ns j)) (target ns names b j normal) (at (offset_at ns names b j + 4) (depth_at ns names b j))
      → (x : ℕ) → x ≡ ifz (behind (order ns (up_of ns j)) j) 0 (offset_at ns names b j + width_at ns b j)
      → Has (op.Case ∷ x ∷ place_of t ∷ depth_of t ∷ 0 ∷ 0 ∷ 0 ∷ 0 ∷ 0 ∷ 0 ∷ []) 0 (words_at ns names b j)
  unfolding target depth_at
  case_has q t e x ex = subst (Has (op.Case ∷ x ∷ place_of t ∷ depth_of t ∷ 0 ∷ 0 ∷ 0 ∷ 0 ∷ 0 ∷ 0 ∷ []) 0) (by Case q) (refl, (ex, (ap place_of e, (ap depth_of e, tt))))

  pub open_has : shape_at ns j ≡ Try → has_role ns role.Finally (order ns j) ≡ true → (x : ℕ) → x ≡ last_from ns b (order ns j) (offset_at ns names b j + 2)
      → Has (op.Open ∷ x ∷ 0 ∷ 0 ∷ 0 ∷ 0 ∷ 0 ∷ 0 ∷ 0 ∷ 0 ∷ []) 0 (words_at ns names b j)
  open_has q f x ex =
      subst (Has (op.Open ∷ x ∷ 0 ∷ 0 ∷ 0 ∷ 0 ∷ 0 ∷ 0 ∷ 0 ∷ 0 ∷ []) 0)
      (sym (ap (λ y. cond y (op.Open ∷ last_from ns b (order ns j) (offset_at ns names b j + 2) ∷ []) []) f) ∙ by Try q) (refl, (ex, tt))

  -- No words: a Try without a finally, a Labeled, a CatchClause.
  pub catch_has : shape_at ns j ≡ Try → has_role ns role.Finally (order ns j) ≡ false → (r : List ℕ) → Has r 0 (words_at ns names b j)
  catch_has q f r = subst (Has r 0) (sym (ap (λ y. cond y (op.Open ∷ last_from ns b (order ns j) (offset_at ns names b j + 2) ∷ []) []) f) ∙ by Try q) tt

  pub label_has : shape_at ns j ≡ Label → (r : List ℕ) → Has r 0 (words_at ns names b j)
  label_has q r = subst (Has r 0) (by Label q) tt

  pub clause_has : shape_at ns j ≡ Catch → (r : List ℕ) → Has r 0 (words_at ns names b j)
  clause_has q r = subst (Has r 0) (by Catch q) tt
