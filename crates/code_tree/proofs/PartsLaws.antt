-- What is known of a part: where it stands, its parent, that it is one.
use Rattle.std.specs.Prelude.{ℕ, zero, suc, ◌+◌, ◌≤◌, ◌<◌, ◌≡◌, refl, List, [], ◌∷◌, ◌++◌, Bool, true, false, cond, ◌&&◌}
use Rattle.std.proofs.Math.Path.{ap}
use Rattle.std.proofs.Common.{sym, subst, arith, eqb-true}
use Rattle.std.proofs.Math.Dec.{eqb}
use Rattle.std.proofs.Math.Decide.{dec_lt}
use Rattle.base_common.proofs.UptoLaws.{upto_cons, upto_nil, and_left_lem, and_right_lem}
use Rattle.table_records.specs.Table.{count}
use Rattle.table_records.specs.Roles as role
use Rattle.table_children.specs.Children.{keep}
use Rattle.code_tree.specs.declared.Shape.{Shape}
use Rattle.code_tree.specs.declared.Shape.TheVariants.{Leaf as Single, Class, If, With, Block, Label, Loop, Switch, Case, Try, Catch}
use Rattle.code_tree.specs.Parts.{up_of, shape_at, is_part, parts, with_role, order_by, order}
use Rattle.code_tree.specs.Parts.{Part}

-- What holds of each of a list.
abbrev pub All : (ℕ → Type 0) → List ℕ → Type 0
All P [] = Unit {0}
All P (j ∷ js) = P j × All P js

pub all_append : (P : ℕ → Type 0) (a b : List ℕ) → All P a → All P b → All P (a ++ b)
all_append P [] b x y = y
all_append P (j ∷ a) b x y = (x.0, all_append P a b x.1 y)

pub all_keep : (P : ℕ → Type 0) (q : ℕ → Bool) (a : List ℕ) → All P a → All P (keep q a)
unfolding keep
all_keep P q [] x = tt
all_keep P q (j ∷ a) x = go (q j) (all_keep P q a x.1)
  where
    go : (t : Bool) → All P (keep q a) → All P (cond t (j ∷ keep q a) (keep q a))
    go true r = (x.0, r)
    go false r = r

module _ (ns : List ℕ) (p : ℕ) where
  pub parts_end : (i : ℕ) → count ns ≤ i → parts ns p i ≡ []
  unfolding parts keep
  parts_end i h = ap (keep (λ j. eqb (up_of ns j) p && is_part ns j)) (upto_nil i (count ns) h)

  pub parts_turn : (i : ℕ) → i < count ns → parts ns p i ≡ cond (eqb (up_of ns i) p && is_part ns i) (i ∷ parts ns p (i + 1)) (parts ns p (i + 1))
  unfolding parts keep
  parts_turn i h = ap (keep (λ j. eqb (up_of ns j) p && is_part ns j)) (upto_cons i (count ns) h)

  parts_from : (g i : ℕ) → count ns ≤ i + g → p < i → All (Part ns p) (parts ns p i)
  parts_from zero i f h = subst (All (Part ns p)) (sym (parts_end i (omega arith))) tt
  parts_from (suc g) i f h = go (parts_from g (i + 1) (omega arith) (omega arith)) (dec_lt i (count ns))
    where
      by : i < count ns → (x : Bool) → (eqb (up_of ns i) p && is_part ns i) ≡ x → All (Part ns p) (parts ns p (i + 1))
          → All (Part ns p) (cond x (i ∷ parts ns p (i + 1)) (parts ns p (i + 1)))
      by l true e r = (record { behind = h; inside = l; parent = eqb-true (up_of ns i) p (and_left_lem (eqb (up_of ns i) p) (is_part ns i) e); part = and_right_lem (eqb (up_of ns i) p) (is_part ns i) e }, r)
      by l false e r = r

      go : All (Part ns p) (parts ns p (i + 1)) → Dec (i < count ns) → All (Part ns p) (parts ns p i)
      go r (no l) = subst (All (Part ns p)) (sym (parts_end i (omega arith))) tt
      go r (yes l) = subst (All (Part ns p)) (sym (parts_turn i l)) (by l (eqb (up_of ns i) p && is_part ns i) refl r)

  pub parts_all : All (Part ns p) (parts ns p (p + 1))
  parts_all = parts_from (count ns) (p + 1) (omega arith) (omega arith)

  order_all : (sh : Shape) (ps : List ℕ) → All (Part ns p) ps → All (Part ns p) (order_by ns sh ps)
  order_all Single ps a = a
  order_all Class ps a = a
  order_all If ps a = a
  order_all With ps a = a
  order_all Block ps a = a
  order_all Label ps a = a
  order_all Loop ps a = a
  order_all Switch ps a = a
  order_all Case ps a = a
  order_all Try ps a =
      all_append (Part ns p) (with_role ns role.Held ps) _ (all_keep (Part ns p) _ ps a)
      (all_append (Part ns p) (with_role ns role.Alternate ps) _ (all_keep (Part ns p) _ ps a) (all_keep (Part ns p) _ ps a))
  order_all Catch ps a = a

  pub order_all_lem : All (Part ns p) (order ns p)
  unfolding order
  order_all_lem = order_all (shape_at ns p) (parts ns p (p + 1)) parts_all
