-- Laws of elements: those of a class as a scan of the nodes after its ClassBody meets them.
use Rattle.std.specs.Prelude.{ℕ, zero, suc, ◌+◌, ◌≤◌, ◌<◌, ◌≡◌, refl, List, [], ◌∷◌, Bool, true, false, cond, ◌&&◌, ◌||◌, eqb, Some, None}
use Rattle.std.proofs.Common.{ap, ◌∙◌, ⊎_elim, arith, ne_eqb}
use Rattle.std.proofs.Math.Path.{sym}
use Rattle.base_common.specs.Upto.{upto, any}
use Rattle.base_common.proofs.UptoLaws.{fold_turn, fold_end}
use Rattle.base_walk.proofs.PreorderLaws.{no_child, lt_or_ge}
use Rattle.table_records.specs.Table.{count, parent_of}
use Rattle.table_records.specs.Facts.{Tree}
use Rattle.table_names.specs.Name.{same}
use Rattle.table_children.specs.Children.{keep, children}
use Rattle.table_children.proofs.ChildrenLaws.{keep_keep}
use Rattle.check_class_table.specs.Classes.{body_above}
use Rattle.check_class_table.proofs.ClassesLaws.{outer_at, outer_none}
use Rattle.check_class_table.specs.Elements.{element_name, is_private, is_definition, enters, elements, privates, is_compared, compared, has_private, is_declared, is_compared_definition, is_compared_element, is_definition_in, is_named}

-- the tests in the order that costs least
order : (a b c d : Bool) → (((a && b) && c) && d) ≡ ((a && (d && b)) && c)
order false b c d = refl
order true b c true = go b c
  where
    go : (b c : Bool) → ((b && c) && true) ≡ (b && c)
    go false c = refl
    go true true = refl
    go true false = refl
order true b c false = go b c
  where
    go : (b c : Bool) → ((b && c) && false) ≡ false
    go false c = refl
    go true true = refl
    go true false = refl

swap : (a b c : Bool) → ((a && b) && c) ≡ (a && (c && b))
swap false b c = refl
swap true true true = refl
swap true true false = refl
swap true false true = refl
swap true false false = refl

-- what is kept depends on the test's answers alone
pub keep_same : (p q : ℕ → Bool) → ((i : ℕ) → p i ≡ q i) → (l : List ℕ) → keep p l ≡ keep q l
unfolding keep
keep_same p q h [] = refl
keep_same p q h (i ∷ l) = rw (h i, keep_same p q h l)

pub any_keep_lem : (p q : ℕ → Bool) (l : List ℕ) → any p (keep q l) ≡ any (λ i. q i && p i) l
unfolding keep
any_keep_lem p q [] = refl
any_keep_lem p q (i ∷ l) = go (q i) (any_keep_lem p q l)
  where
    go : (b : Bool) → any p (keep q l) ≡ any (λ i. q i && p i) l → any p (cond b (i ∷ keep q l) (keep q l)) ≡ ((b && p i) || any (λ i. q i && p i) l)
    go true h = rw h
    go false h = h

pub any_same : (p q : ℕ → Bool) → ((i : ℕ) → p i ≡ q i) → (l : List ℕ) → any p l ≡ any q l
any_same p q h [] = refl
any_same p q h (i ∷ l) = rw (h i, any_same p q h l)

-- the elements that pass a test, as a scan meets them
pub elements_scan : (t : ℕ) (ns : List ℕ) (c : ℕ) → elements t ns c ≡ keep (λ e. (eqb (parent_of ns e) c && is_definition ns e) && enters t ns e) (upto (c + 1) (count ns))
unfolding elements children
elements_scan t ns c = ap (keep (enters t ns)) (keep_keep _ _ (upto (c + 1) (count ns))) ∙ keep_keep _ _ (upto (c + 1) (count ns))

pub tested_scan : (t : ℕ) (ns : List ℕ) (c : ℕ) (q : ℕ → Bool)
    → keep q (elements t ns c) ≡ keep (λ e. (eqb (parent_of ns e) c && (q e && is_definition ns e)) && enters t ns e) (upto (c + 1) (count ns))
tested_scan t ns c q =
    ap (keep q) (elements_scan t ns c)
    ∙ keep_keep _ _ (upto (c + 1) (count ns))
    ∙ keep_same _ _ (λ e. order (eqb (parent_of ns e) c) (is_definition ns e) (enters t ns e) (q e)) (upto (c + 1) (count ns))

pub compared_scan : (t : ℕ) (ns : List ℕ) (c : ℕ) → compared t ns c ≡ keep (is_compared_element t ns c) (upto (c + 1) (count ns))
unfolding compared is_compared_element is_compared_definition
compared_scan t ns c = tested_scan t ns c (is_compared t ns)

-- past the nodes below c there is none
pub compared_out : (t : ℕ) (ns : List ℕ) → Tree ns → (c i j : ℕ) → c < i → parent_of ns i < c → i ≤ j → j < count ns → is_compared_element t ns c j ≡ false
unfolding is_compared_element is_compared_definition
compared_out t ns w c i j h u x y = rw (ne_eqb (parent_of ns j) c (λ e. no_child (parent_of ns) (count ns) w.order c i j h u x y e))

named_out : (t : ℕ) (ns names : List ℕ) → Tree ns → (c i j : ℕ) (private : Bool) (name : List ℕ) → c < i → parent_of ns i < c → i ≤ j → j < count ns → is_named t ns names c private name j ≡ false
unfolding is_named is_definition_in
named_out t ns names w c i j private name h u x y = rw (ne_eqb (parent_of ns j) c (λ e. no_child (parent_of ns) (count ns) w.order c i j h u x y e))

-- the search for a private element of a name, from node i on
module _ (t : ℕ) (ns names : List ℕ) (c : ℕ) (name : List ℕ) where
  unfoldable pub has_private_from : ℕ → Bool
  has_private_from i = any (is_named t ns names c true name) (upto i (count ns))

  pub has_start : has_private_from (c + 1) ≡ has_private t ns names c name
  unfolding has_private_from has_private privates is_named is_definition_in
  has_start =
      sym (ap (any (λ e. same (element_name ns names e) name)) (tested_scan t ns c (is_private ns))
      ∙ any_keep_lem (λ e. same (element_name ns names e) name) _ (upto (c + 1) (count ns))
      ∙ any_same _ _ (λ e. swap (eqb (parent_of ns e) c && (is_private ns e && is_definition ns e)) (enters t ns e) (same (element_name ns names e) name)) (upto (c + 1) (count ns)))

  pub has_stop : (i : ℕ) → i < count ns → is_named t ns names c true name i ≡ true → has_private_from i ≡ true
  unfolding has_private_from
  has_stop i h e = fold_turn _ _ i (count ns) h ∙ rw e

  pub has_on : (i : ℕ) → i < count ns → is_named t ns names c true name i ≡ false → has_private_from i ≡ has_private_from (i + 1)
  unfolding has_private_from
  has_on i h e = fold_turn _ _ i (count ns) h ∙ rw e

  pub has_end : (i : ℕ) → count ns ≤ i → has_private_from i ≡ false
  unfolding has_private_from
  has_end i h = fold_end _ _ i (count ns) h

  has_none : (f i : ℕ) → count ns ≤ i + f → ((j : ℕ) → i ≤ j → j < count ns → is_named t ns names c true name j ≡ false) → has_private_from i ≡ false
  has_none zero i hf n = has_end i (omega arith)
  has_none (suc f) i hf n =
      ⊎_elim (λ (h : i < count ns). has_on i h (n i (omega arith) h) ∙ has_none f (i + 1) (omega arith) (λ j x y. n j (omega arith) y))
      (λ (h : count ns ≤ i). has_end i h) (lt_or_ge i (count ns))

  pub has_out : Tree ns → (i : ℕ) → c < i → i < count ns → parent_of ns i < c → has_private_from i ≡ false
  has_out w i h l u = has_none (count ns) i (omega arith) (λ j x y. named_out t ns names w c i j true name h u x y)

-- a name declared in a class or around it, one class at a time
module _ (t : ℕ) (ns names : List ℕ) (w : Tree ns) (name : List ℕ) (c : ℕ) (h : c < count ns) where
  pub declared_here : has_private t ns names c name ≡ true → is_declared t ns names c name ≡ true
  unfolding is_declared
  declared_here e = rw e

  pub declared_outer : (d : ℕ) → has_private t ns names c name ≡ false → body_above ns c ≡ Some (record { 0 = d }) → is_declared t ns names c name ≡ is_declared t ns names d name
  unfolding is_declared
  declared_outer d e b = rw (e, outer_at ns w c d h b)

  pub declared_none : has_private t ns names c name ≡ false → body_above ns c ≡ None → is_declared t ns names c name ≡ false
  unfolding is_declared
  declared_none e b = rw (e, outer_none ns w c h b)
