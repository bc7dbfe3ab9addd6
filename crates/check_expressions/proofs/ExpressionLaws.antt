-- Laws of the searches and of the list of repeated keys, as a loop meets them.
use Rattle.table_records.specs.declared.NodeId.{NodeId}
use Prim.Native.Nat.{ℕ, zero, suc, ◌+◌, ◌-◌, ◌<◌, ◌≤◌}
use Rattle.std.specs.Prelude.{◌≡◌, Bool, Option, Some, None}
use Rattle.std.proofs.Math.Path.{refl, ap, sym}
use Rattle.std.proofs.Common.{◌∙◌}
use mathlib.Core.List.{List, [], ◌++◌, flat_map}
use Rattle.std.proofs.Math.Bool.{true, false}
use native.Mathlib.Omega.{arith}
use Rattle.base_common.specs.Upto.{upto}
use Rattle.base_common.specs.Tests.{within}
use Rattle.table_records.specs.Table.{count, kind_of, parent_of}
use Rattle.table_records.specs.Facts.{Tree}
use Rattle.table_records.specs.Kinds as k
use Rattle.table_children.specs.Children.{keep, is_child, inner_of, next_child, below}
use Rattle.table_children.proofs.ChildrenLaws.{found_child}
use Rattle.table_ancestry.proofs.AncestryLaws.{ancestors_up, ancestors_root}
use Rattle.check_diagnostics.specs.Finding.{listed}
use Rattle.check_diagnostics.specs.declared.Finding.{Finding}
use Rattle.check_diagnostics.proofs.Gather.{kept_first_lem, kept_none}
use Rattle.check_expressions.specs.Expressions.{proto_key, to_list, repeats_after, repeats, check_object_expression, is_parenthesis, inside, stripped, inner_expression, is_parameter, in_formal_parameters, repeated, later}

-- the search for a parameter: a is the parent of i
module _ (ns : List ℕ) (t : Tree ns) (i a : ℕ) (h : 0 < i) (l : i < count ns) (e : a ≡ parent_of ns i) where
  pub parameter_found : is_parameter ns a ≡ true → in_formal_parameters ns i ≡ true
  unfolding in_formal_parameters
  parameter_found q = ancestors_up _ _ ns t i h l ∙ rw (← e, q)

  pub parameter_stop : is_parameter ns a ≡ false → within (kind_of ns a) k.Program k.Arrow ≡ true → in_formal_parameters ns i ≡ false
  unfolding in_formal_parameters
  parameter_stop q w = ancestors_up _ _ ns t i h l ∙ rw (← e, q, w)

  pub parameter_on : is_parameter ns a ≡ false → within (kind_of ns a) k.Program k.Arrow ≡ false → in_formal_parameters ns i ≡ in_formal_parameters ns a
  unfolding in_formal_parameters
  parameter_on q w = ancestors_up _ _ ns t i h l ∙ rw (← e, q, w)

pub parameter_root : (ns : List ℕ) → in_formal_parameters ns 0 ≡ false
unfolding in_formal_parameters
parameter_root ns = ancestors_root _ _ ns

-- parentheses taken off
module _ (ns : List ℕ) where
  -- nothing to take off
  still : (f i : ℕ) → inside ns i ≡ i → stripped ns f i ≡ i
  unfolding stripped
  still zero i e = refl
  still (suc f) i e = rw e (still f i e)

  -- more steps than are needed change nothing
  stripped_more : (f g i : ℕ) → count ns ≤ i + f → count ns ≤ i + g → i < count ns → stripped ns f i ≡ stripped ns g i
  unfolding stripped inside
  stripped_more zero g i hf hg l = absurd (omega arith)
  stripped_more (suc f) zero i hf hg l = absurd (omega arith)
  stripped_more (suc f) (suc g) i hf hg l = go (is_parenthesis ns i) refl (inner_of ns i) refl (λ m x y. stripped_more f g m (omega arith) (omega arith) y)
    where
      go : (b : Bool) → is_parenthesis ns i ≡ b → (r : Option NodeId) → inner_of ns i ≡ r → ((m : ℕ) → i < m → m < count ns → stripped ns f m ≡ stripped ns g m) → stripped ns (suc f) i ≡ stripped ns (suc g) i
      go false q r e h = still (suc f) i (rw q) ∙ sym (still (suc g) i (rw q))
      go true q None e h = still (suc f) i (rw (q, e)) ∙ sym (still (suc g) i (rw (q, e)))
      go true q (Some m) e h =
          let c = found_child ns i 0 55 0 7 (i + 1) m.0 e in
          let x = c.from in
          rw (q, e) (h m.0 (omega arith) c.below)

  pub inner_bare : (i : ℕ) → is_parenthesis ns i ≡ false → inner_expression ns i ≡ i
  unfolding inner_expression inside
  inner_bare i q = still (count ns) i (rw q)

  pub inner_empty : (i : ℕ) → is_parenthesis ns i ≡ true → inner_of ns i ≡ None → inner_expression ns i ≡ i
  unfolding inner_expression inside
  inner_empty i q e = still (count ns) i (rw (q, e))

  one_off : (f i m : ℕ) → is_parenthesis ns i ≡ true → inner_of ns i ≡ Some (record { 0 = m }) → stripped ns (suc f) i ≡ stripped ns f m
  unfolding stripped inside
  one_off f i m q e = rw (q, e)

  pub inner_on : (i m : ℕ) → i < count ns → is_parenthesis ns i ≡ true → inner_of ns i ≡ Some (record { 0 = m }) → inner_expression ns i ≡ inner_expression ns m
  unfolding inner_expression
  inner_on i m l q e =
      let c = found_child ns i 0 55 0 7 (i + 1) m e in
      let x = c.from in
      let y = c.below in
      let s : count ns ≡ suc (count ns - 1) = omega arith in
      ap (λ (j : ℕ). stripped ns j i) s ∙ one_off (count ns - 1) i m q e ∙ stripped_more (count ns - 1) (count ns) m (omega arith) (omega arith) y

-- the findings that are left, after the key that came last, if any
abbrev pub repeats_from : List ℕ → ℕ → Option NodeId → List ℕ → List Finding
repeats_from ns n None l = repeats ns n l
repeats_from ns n (Some a) l = repeats_after ns n a.0 l

pub repeats_turn : (ns : List ℕ) (n : ℕ) (a b : Option NodeId) (l : List ℕ) → repeats_from ns n a (to_list b ++ l) ≡ listed (repeated ns n a b) ++ repeats_from ns n (later a b) l
unfolding repeats repeats_after
repeats_turn ns n None None l = refl
repeats_turn ns n None (Some b) l = refl
repeats_turn ns n (Some a) None l = refl
repeats_turn ns n (Some a) (Some b) l = refl

pub repeats_end : (ns : List ℕ) (n : ℕ) (a : Option NodeId) → repeats_from ns n a [] ≡ []
unfolding repeats repeats_after
repeats_end ns n None = refl
repeats_end ns n (Some a) = refl

-- the keys of the properties from i on
unfoldable pub keys_from : List ℕ → List ℕ → ℕ → ℕ → List ℕ
keys_from ns names n i = flat_map (λ p. to_list (proto_key ns names p)) (keep (is_child ns n k.ObjectProperty k.ObjectProperty 0 7) (upto i (count ns)))

module _ (ns names : List ℕ) (n i : ℕ) where
  pub keys_turn : (p : ℕ) → next_child ns n k.ObjectProperty k.ObjectProperty 0 7 i ≡ Some (record { 0 = p }) → keys_from ns names n i ≡ to_list (proto_key ns names p) ++ keys_from ns names n (p + 1)
  unfolding keys_from flat_map
  keys_turn p e = rw (kept_first_lem (is_child ns n k.ObjectProperty k.ObjectProperty 0 7) (count ns) i p e)

  pub keys_end : next_child ns n k.ObjectProperty k.ObjectProperty 0 7 i ≡ None → keys_from ns names n i ≡ []
  unfolding keys_from flat_map
  keys_end e = rw (kept_none (is_child ns n k.ObjectProperty k.ObjectProperty 0 7) (count ns) i e)

pub keys_start : (ns names : List ℕ) (n : ℕ) → check_object_expression ns names n ≡ repeats_from ns n None (keys_from ns names n (n + 1))
unfolding check_object_expression keys_from
keys_start ns names n = refl

-- one property: what is raised for it, and what is left
pub object_turn : (ns names : List ℕ) (n i p : ℕ) (a b : Option NodeId) → next_child ns n k.ObjectProperty k.ObjectProperty 0 7 i ≡ Some (record { 0 = p }) → b ≡ proto_key ns names p
    → repeats_from ns n a (keys_from ns names n i) ≡ listed (repeated ns n a b) ++ repeats_from ns n (later a b) (keys_from ns names n (p + 1))
object_turn ns names n i p a b e q = ap (repeats_from ns n a) (keys_turn ns names n i p e ∙ rw (← q)) ∙ repeats_turn ns n a b (keys_from ns names n (p + 1))

-- no property is left
pub object_end : (ns names : List ℕ) (n i : ℕ) (a : Option NodeId) → next_child ns n k.ObjectProperty k.ObjectProperty 0 7 i ≡ None → repeats_from ns n a (keys_from ns names n i) ≡ []
object_end ns names n i a e = ap (repeats_from ns n a) (keys_end ns names n i e) ∙ repeats_end ns n a

pub later_below : (ns : List ℕ) (a b : Option NodeId) → below ns a → below ns b → below ns (later a b)
later_below ns a None x y = x
later_below ns a (Some b) x y = y
