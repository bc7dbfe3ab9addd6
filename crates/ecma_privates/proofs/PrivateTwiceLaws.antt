-- THE FINDINGS WITH CODE 1 AT A CLASS ARE BREACHES OF 15.7.1's RULE ON PrivateBoundIdentifiers.
use Rattle.table_records.specs.declared.NodeId.{NodeId}
use Rattle.std.specs.Prelude.{ℕ, ◌+◌, ◌-◌, ◌≤◌, ◌≡◌, Bool, ◌&&◌, ◌||◌, length, Option, Some, None}
use Rattle.std.proofs.Math.Path.{refl, ap, sym}
use Rattle.std.proofs.Common.{◌∙◌, arith}
use mathlib.Core.List.{List, [], ◌∷◌, ◌++◌, foldl, flat_map}
use Rattle.std.proofs.Math.Bool.{true, false, cond, not, xor}
use borrow.Author.Tests.{lt-ltb, le-ltb, eqb-true}
use Rattle.std.proofs.Math.Dec.{eqb, ltb}
use Rattle.base_common.specs.Upto.{upto, any}
use Rattle.base_common.proofs.Bools.{never}
use Rattle.base_walk.specs.On.{member}
use Rattle.table_records.specs.Table.{parent_of, count}
use Rattle.table_names.specs.Name.{same}
use Rattle.table_names.proofs.NameLaws.{same_self, same_eq}
use Rattle.table_children.specs.Children.{keep, children, key_of, value_of}
use Rattle.table_children.proofs.ChildrenLaws.{keep_keep}
use Rattle.ecma_trees.specs.Walk.{some}
use Rattle.check_diagnostics.specs.Finding.{listed}
use Rattle.check_class_table.specs.Elements.{name_at, has_name_at, element_name, is_definition, is_private}
use Rattle.check_class_table.specs.Elements as e
use Rattle.check_duplicates.specs.declared.Place.{Place}
use Rattle.check_duplicates.specs.Duplicates.{nowhere, here, step, last_of, or_else}
use Rattle.check_dispatch.specs.Former.{enters, elements, privates, side_of, is_earlier, previous_on, previous_of, is_duplicate, redeclaration, duplicate_by, duplicate_at, duplicates_in}
use Rattle.check_dispatch.proofs.FormerLaws.{Sort, gets, sets, neither, sort}
use Rattle.ecma_dispatch.specs.WithCode.{with_code}
use Rattle.ecma_dispatch.specs.NodesOf.{nodes_of, raised}
use Rattle.ecma_dispatch.proofs.NodesOfLaws.{raised_flat}
use Rattle.ecma_elements.proofs.RaisingLaws.{keep_same}
use Rattle.table_lists.proofs.ListLaws.{keep_alike, member_here, member_there, any_hit_lem, any_find_lem, kept_in, in_kept, keep_none, keep_all, Rising, keep_rising, upto_rising}
use Rattle.ecma_elements.specs.ClassElements.{is_static, name_found, key_name}
use Rattle.ecma_privates.specs.PrivateNames.{is_private_bound, private_bound, entries, is_getter, is_setter, matched, allowed, private_twice}
use Rattle.ecma_privates.specs.Changed.{named, is_entered, private_entered, PrivatesEntered, last, or_found, unlike, clash_in, private_again, OnceOrTwice}
use Rattle.ecma_elements.proofs.ClassElementsLaws.{body_in_lem}
use Rattle.ecma_elements.specs.Raised.{times}

module _ (ns : List ℕ) where
  unmatched : (a b : ℕ) → (is_getter ns a && is_setter ns b) ≡ false → (is_setter ns a && is_getter ns b) ≡ false → matched ns a b ≡ false
  unfolding matched
  unmatched a b p q = rw (p, q)

  statics : (x y : Bool) → xor x y ≡ not (not (xor y x))
  unfolding xor
  statics true true = refl
  statics true false = refl
  statics false true = refl
  statics false false = refl

  -- the check's pairs that clash are those that are not matched
  duplicate_is : (d e : ℕ) → is_duplicate ns d e ≡ not (matched ns d e)
  unfolding is_duplicate matched
  duplicate_is d e = go (sort ns d) (sort ns e)
    where
      go : Sort ns d → Sort ns e → is_duplicate ns d e ≡ not (matched ns d e)
      go (gets p q x) (gets r s y) = rw (p, q, r, s, x, y)
      go (gets p q x) (sets r s y) = rw (p, q, r, s, x, y) (statics (is_static ns e) (is_static ns d))
      go (gets p q x) (neither r s) = rw (p, q, r, s)
      go (sets p q x) (gets r s y) = rw (p, q, r, x, y) (statics (is_static ns e) (is_static ns d))
      go (sets p q x) (sets r s y) = rw (p, q, r, s, x, y)
      go (sets p q x) (neither r s) = rw (p, q, r, s)
      go (neither p q) (gets r s y) = rw (p, q, r)
      go (neither p q) (sets r s y) = rw (p, q, r, s)
      go (neither p q) (neither r s) = rw (p, q, r, s)

  -- in a rising list: what is before its first, its second and its third member
  module _ (a : ℕ) where
    before_first : (l : List ℕ) → Rising (a ∷ l) → keep (λ d. ltb d a) (a ∷ l) ≡ []
    unfolding keep
    before_first l r = rw (le-ltb a a (omega arith), keep_none (λ d. ltb d a) l (λ x m. le-ltb x a (let z = r.0 x m in omega arith)))

    before_second : (b : ℕ) (l : List ℕ) → Rising (a ∷ b ∷ l) → keep (λ d. ltb d b) (a ∷ b ∷ l) ≡ a ∷ []
    unfolding keep
    before_second b l r =
        rw (lt-ltb a b (r.0 b (member_here b l)), le-ltb b b (omega arith), keep_none (λ d. ltb d b) l (λ x m. le-ltb x b (let z = r.1.0 x m in omega arith)))

    before_third : (b c : ℕ) (l : List ℕ) → Rising (a ∷ b ∷ c ∷ l) → keep (λ d. ltb d c) (a ∷ b ∷ c ∷ l) ≡ a ∷ b ∷ []
    unfolding keep
    before_third b c l r =
        rw (
          lt-ltb a c (r.0 c (member_there c b (c ∷ l) (member_here c l))),
          lt-ltb b c (r.1.0 c (member_here c l)),
          le-ltb c c (omega arith),
          keep_none (λ d. ltb d c) l (λ x m. le-ltb x c (let z = r.1.1.0 x m in omega arith)),
        )

    clash_first : (l : List ℕ) → Rising (a ∷ l) → clash_in ns (a ∷ l) a ≡ false
    unfolding clash_in keep
    clash_first l r = rw (before_first l r)

    clash_second : (b : ℕ) (l : List ℕ) → Rising (a ∷ b ∷ l) → clash_in ns (a ∷ b ∷ l) b ≡ not (matched ns a b)
    unfolding clash_in keep
    clash_second b l r = rw (before_second b l r) (go (not (xor (is_setter ns a) (is_setter ns b))))
      where
        go : (x : Bool) → unlike ns b (or_found (last (cond x (a ∷ []) [])) (Some (record { 0 = a }))) ≡ not (matched ns a b)
        go true = refl
        go false = refl

    -- a third entry clashes, where the first two do not
    clash_third : (b c : ℕ) (l : List ℕ) → Rising (a ∷ b ∷ c ∷ l) → matched ns a b ≡ true → clash_in ns (a ∷ b ∷ c ∷ l) c ≡ true
    unfolding clash_in keep xor
    clash_third b c l r m = rw (before_third b c l r) (go (sort ns a) (sort ns b) (sort ns c))
      where
        go : Sort ns a → Sort ns b → Sort ns c
            → unlike ns c (or_found (last (keep (λ d. not (xor (is_setter ns d) (is_setter ns c))) (a ∷ b ∷ []))) (Some (record { 0 = b }))) ≡ true
        go (gets p q x) (gets r s y) z = never (sym m ∙ unmatched a b (rw (p, s)) (rw (q)))
        go (gets p q x) (sets r s y) (gets t u v) = rw (q, s, u, unmatched a c (rw (p, u)) (rw q))
        go (gets p q x) (sets r s y) (sets t u v) = rw (q, s, u, unmatched b c (rw r) (rw (s, t)))
        go (gets p q x) (sets r s y) (neither t u) = rw (q, s, u, unmatched a c (rw (p, u)) (rw q))
        go (gets p q x) (neither r s) z = never (sym m ∙ unmatched a b (rw (p, s)) (rw q))
        go (sets p q x) (gets r s y) (gets t u v) = rw (q, s, u, unmatched b c (rw (r, u)) (rw s))
        go (sets p q x) (gets r s y) (sets t u v) = rw (q, s, u, unmatched a c (rw p) (rw (q, t)))
        go (sets p q x) (gets r s y) (neither t u) = rw (q, s, u, unmatched b c (rw (r, u)) (rw s))
        go (sets p q x) (sets r s y) z = never (sym m ∙ unmatched a b (rw p) (rw (q, r)))
        go (sets p q x) (neither r s) z = never (sym m ∙ unmatched a b (rw p) (rw (q, r)))
        go (neither p q) y z = never (sym m ∙ unmatched a b (rw p) (rw q))

  -- of the entries of one name, some clash just where they are not allowed
  clash_any : (l : List ℕ) → Rising l → any (clash_in ns l) l ≡ not (allowed ns l)
  clash_any [] r = refl
  clash_any (a ∷ []) r = rw (clash_first a [] r)
  clash_any (a ∷ b ∷ []) r = rw (clash_first a (b ∷ []) r, clash_second a b [] r) (go (matched ns a b))
    where
      go : (x : Bool) → (not x || false) ≡ not x
      go true = refl
      go false = refl
  clash_any (a ∷ b ∷ c ∷ l) r = go (matched ns a b) refl
    where
      go : (x : Bool) → matched ns a b ≡ x → any (clash_in ns (a ∷ b ∷ c ∷ l)) (a ∷ b ∷ c ∷ l) ≡ true
      go true m =
          any_hit_lem (clash_in ns (a ∷ b ∷ c ∷ l)) (a ∷ b ∷ c ∷ l) c (member_there c a (b ∷ c ∷ l) (member_there c b (c ∷ l) (member_here c l))) (clash_third a b c l r m)
      go false m =
          any_hit_lem (clash_in ns (a ∷ b ∷ c ∷ l)) (a ∷ b ∷ c ∷ l) b (member_there b a (b ∷ c ∷ l) (member_here b (c ∷ l))) (clash_second a b (c ∷ l) r ∙ rw m)

pub some_kept : (q : ℕ → Bool) (l : List ℕ) → some (keep q l) ≡ any q l
unfolding keep
some_kept q [] = refl
some_kept q (x ∷ l) = go (q x) (some_kept q l)
  where
    go : (b : Bool) → some (keep q l) ≡ any q l → some (cond b (x ∷ keep q l) (keep q l)) ≡ (b || any q l)
    go true h = refl
    go false h = h

pub both_ways : (a b : Bool) → (a ≡ true → b ≡ true) → (b ≡ true → a ≡ true) → a ≡ b
both_ways true b f g = sym (f refl)
both_ways false true f g = g refl
both_ways false false f g = refl

-- of all entries of a class
module _ (ns names : List ℕ) (l : List ℕ) (r : Rising l) where
  of_name_lem : (e d : ℕ) → member d (entries ns names l e) ≡ true → (member d l ≡ true) × (entries ns names l d ≡ entries ns names l e)
  unfolding entries
  of_name_lem e d m =
      let w = kept_in (λ x. same (key_name ns names x) (key_name ns names e)) l d m in
      (w.0, ap (λ (y : List ℕ). keep (λ x. same (key_name ns names x) y) l) (same_eq (key_name ns names d) (key_name ns names e) w.1))

  self_named : (e : ℕ) → member e l ≡ true → member e (entries ns names l e) ≡ true
  unfolding entries
  self_named e m = in_kept (λ x. same (key_name ns names x) (key_name ns names e)) l e m (same_self (key_name ns names e))

  rising_named : (e : ℕ) → Rising (entries ns names l e)
  unfolding entries
  rising_named e = keep_rising (λ x. same (key_name ns names x) (key_name ns names e)) l r

  -- there is a finding just where the standard's rule is broken ..
  pub again_some : some (private_again ns names l) ≡ private_twice ns names l
  unfolding private_again private_twice
  again_some = some_kept (λ e. clash_in ns (entries ns names l e) e) l ∙ both_ways (any (λ e. clash_in ns (entries ns names l e) e) l) (any (λ e. not (allowed ns (entries ns names l e))) l) to from
    where
      to : any (λ e. clash_in ns (entries ns names l e) e) l ≡ true → any (λ e. not (allowed ns (entries ns names l e))) l ≡ true
      to h =
          let w = any_find_lem (λ e. clash_in ns (entries ns names l e) e) l h in
          any_hit_lem (λ e. not (allowed ns (entries ns names l e))) l w.at w.in'
          (sym (clash_any ns (entries ns names l w.at) (rising_named w.at))
          ∙ any_hit_lem (clash_in ns (entries ns names l w.at)) (entries ns names l w.at) w.at (self_named w.at w.in') w.does)

      from : any (λ e. not (allowed ns (entries ns names l e))) l ≡ true → any (λ e. clash_in ns (entries ns names l e) e) l ≡ true
      from h =
          let w = any_find_lem (λ e. not (allowed ns (entries ns names l e))) l h in
          let v = any_find_lem (clash_in ns (entries ns names l w.at)) (entries ns names l w.at) (clash_any ns (entries ns names l w.at) (rising_named w.at) ∙ w.does) in
          let u = of_name_lem w.at v.at v.in' in
          any_hit_lem (λ e. clash_in ns (entries ns names l e) e) l v.at u.0 (ap (λ (y : List ℕ). clash_in ns y v.at) u.1 ∙ v.does)

  one_or_two : (e : ℕ) (n : List ℕ) → Rising n → member e n ≡ true → length n ≤ 2 → clash_in ns n e ≡ (some (keep (λ d. ltb d e) n) && not (allowed ns n))
  one_or_two e [] z m h = never (sym m)
  one_or_two e (a ∷ []) z m h = go (eqb e a) refl m
    where
      go : (x : Bool) → eqb e a ≡ x → (x || false) ≡ true → clash_in ns (a ∷ []) e ≡ (some (keep (λ d. ltb d e) (a ∷ [])) && false)
      go true q y = rw (eqb-true e a q, clash_first ns a [] z, before_first ns a [] z)
      go false q y = never (sym y)
  one_or_two e (a ∷ b ∷ []) z m h = go (eqb e a) refl (eqb e b) refl m
    where
      go : (x : Bool) → eqb e a ≡ x → (y : Bool) → eqb e b ≡ y → (x || (y || false)) ≡ true → clash_in ns (a ∷ b ∷ []) e ≡ (some (keep (λ d. ltb d e) (a ∷ b ∷ [])) && not (matched ns a b))
      go true q y p u = rw (eqb-true e a q, clash_first ns a (b ∷ []) z, before_first ns a (b ∷ []) z)
      go false q true p u = rw (eqb-true e b p, clash_second ns a b [] z, before_second ns a b [] z)
      go false q false p u = never (sym u)
  one_or_two e (a ∷ b ∷ c ∷ n) z m h = absurd (omega arith)

  -- .. and exactly one for each name that breaks it, at its second entry, where no name has more than two
  pub again_once : OnceOrTwice ns names l
      → private_again ns names l ≡ keep (λ e. some (keep (λ d. ltb d e) (entries ns names l e)) && not (allowed ns (entries ns names l e))) l
  unfolding private_again
  again_once w =
      keep_alike (λ e. clash_in ns (entries ns names l e) e) (λ e. some (keep (λ d. ltb d e) (entries ns names l e)) && not (allowed ns (entries ns names l e))) l
      (λ e m. one_or_two e (entries ns names l e) (rising_named e) (self_named e m) (w e m))

-- THE CHECK
abbrev place_or : Place → Option NodeId → Place
place_or p (Some m) = here m.0
place_or p None = p

last_some : (b : ℕ) (l : List ℕ) → last (b ∷ l) ≡ None → ⊥
last_some b [] h = let z : ◌≡◌ {A = ℕ} 0 1 = cc in omega arith
last_some b (c ∷ l) h = last_some c l h

last_none : (l : List ℕ) → last l ≡ None → l ≡ []
last_none [] h = refl
last_none (b ∷ l) h = absurd (last_some b l h)

last_else : (p q : Place) (b : ℕ) (l : List ℕ) → place_or p (last (b ∷ l)) ≡ place_or q (last (b ∷ l))
last_else p q b [] = refl
last_else p q b (c ∷ l) = last_else p q c l

last_is_lem : (q : ℕ → Bool) (l : List ℕ) (p : Place) → foldl (step q) p l ≡ place_or p (last (keep q l))
unfolding keep
last_is_lem q [] p = refl
last_is_lem q (d ∷ l) p = go (q d) (λ (x : Place). last_is_lem q l x)
  where
    add : (x : List ℕ) → place_or (here d) (last x) ≡ place_or p (last (d ∷ x))
    add [] = refl
    add (b ∷ x) = last_else (here d) p b x

    go : (b : Bool) → ((x : Place) → foldl (step q) x l ≡ place_or x (last (keep q l))) → foldl (step q) (cond b (here d) p) l ≡ place_or p (last (cond b (d ∷ keep q l) (keep q l)))
    go true h = h (here d) ∙ add (keep q l)
    go false h = h p

pub name_is_lem : (ns names : List ℕ) (e : ℕ) → element_name ns names e ≡ key_name ns names e
unfolding element_name key_name
name_is_lem ns names e = go (key_of ns e)
  where
    go : (f : Option NodeId) → name_at ns names f ≡ name_found ns names f
    go (Some m) = refl
    go None = refl

module _ (ns names : List ℕ) (c e : ℕ) where
  abbrev before : List ℕ
  before = keep (λ d. ltb d e) (entries ns names (privates ns c) e)

  reorder : (a b s : Bool) → (a && (b && s)) ≡ (b && (a && s))
  reorder true true s = refl
  reorder true false s = refl
  reorder false true s = refl
  reorder false false s = refl

  on_side_lem : (s : ℕ) → keep (is_earlier ns names e s) (privates ns c) ≡ keep (λ d. eqb (side_of ns d) s) before
  unfolding entries
  on_side_lem s =
      keep_same (is_earlier ns names e s) (λ d. same (key_name ns names d) (key_name ns names e) && (ltb d e && eqb (side_of ns d) s))
      (λ d. rw (name_is_lem ns names d, name_is_lem ns names e) (reorder (ltb d e) (same (key_name ns names d) (key_name ns names e)) (eqb (side_of ns d) s))) (privates ns c)
      ∙ sym (keep_keep (λ d. ltb d e && eqb (side_of ns d) s) (λ d. same (key_name ns names d) (key_name ns names e)) (privates ns c))
      ∙ sym (keep_keep (λ d. eqb (side_of ns d) s) (λ d. ltb d e) (keep (λ d. same (key_name ns names d) (key_name ns names e)) (privates ns c)))

  own : (d : ℕ) → eqb (side_of ns d) (side_of ns e) ≡ not (xor (is_setter ns d) (is_setter ns e))
  unfolding side_of xor
  own d = go (is_setter ns d) (is_setter ns e)
    where
      go : (a b : Bool) → eqb (cond a 1 0) (cond b 1 0) ≡ not (xor a b)
      go true true = refl
      go true false = refl
      go false true = refl
      go false false = refl

  opposite : (d : ℕ) → eqb (side_of ns d) (1 - side_of ns e) ≡ xor (is_setter ns d) (is_setter ns e)
  unfolding side_of xor
  opposite d = go (is_setter ns d) (is_setter ns e)
    where
      go : (a b : Bool) → eqb (cond a 1 0) (1 - cond b 1 0) ≡ xor a b
      go true true = refl
      go true false = refl
      go false true = refl
      go false false = refl

  abbrev mine : List ℕ
  mine = keep (λ d. not (xor (is_setter ns d) (is_setter ns e))) before

  prev_own : previous_on ns names c e (side_of ns e) ≡ place_or nowhere (last mine)
  unfolding previous_on last_of
  prev_own =
      last_is_lem (is_earlier ns names e (side_of ns e)) (privates ns c) nowhere
      ∙ ap (λ (l : List ℕ). place_or nowhere (last l)) (on_side_lem (side_of ns e) ∙ keep_same (λ d. eqb (side_of ns d) (side_of ns e)) (λ d. not (xor (is_setter ns d) (is_setter ns e))) own before)

  prev_other : previous_on ns names c e (1 - side_of ns e) ≡ place_or nowhere (last (keep (λ d. xor (is_setter ns d) (is_setter ns e)) before))
  unfolding previous_on last_of
  prev_other =
      last_is_lem (is_earlier ns names e (1 - side_of ns e)) (privates ns c) nowhere
      ∙ ap (λ (l : List ℕ). place_or nowhere (last l)) (on_side_lem (1 - side_of ns e) ∙ keep_same (λ d. eqb (side_of ns d) (1 - side_of ns e)) (λ d. xor (is_setter ns d) (is_setter ns e)) opposite before)

  -- where none is on its side, all are on the other
  all_other : mine ≡ [] → keep (λ d. xor (is_setter ns d) (is_setter ns e)) before ≡ before
  all_other h = keep_all (λ d. xor (is_setter ns d) (is_setter ns e)) before (λ x m. go x m (xor (is_setter ns x) (is_setter ns e)) refl)
    where
      go : (x : ℕ) → member x before ≡ true → (b : Bool) → xor (is_setter ns x) (is_setter ns e) ≡ b → xor (is_setter ns x) (is_setter ns e) ≡ true
      go x m true q = q
      go x m false q =
          never (sym (in_kept (λ d. not (xor (is_setter ns d) (is_setter ns e))) before x m (rw q)) ∙ ap (member x) h)

  prev_is : previous_of ns names c e ≡ place_or nowhere (or_found (last mine) (last before))
  unfolding previous_of
  prev_is = rw (prev_own, prev_other) (go (last mine) refl)
    where
      go : (f : Option NodeId) → last mine ≡ f
          → or_else (place_or nowhere f) (place_or nowhere (last (keep (λ d. xor (is_setter ns d) (is_setter ns e)) before))) ≡ place_or nowhere (or_found f (last before))
      go (Some m) q = refl
      go None q = ap (λ (l : List ℕ). place_or nowhere (last l)) (all_other (last_none mine q))

  raised_by_lem : (f : Option NodeId) → raised 1 (listed (duplicate_by ns e (place_or nowhere f))) ≡ cond (unlike ns e f) (0 ∷ []) []
  unfolding duplicate_by redeclaration nodes_of with_code
  raised_by_lem (Some d) = rw (duplicate_is ns d.0 e) (go (not (matched ns d.0 e)))
    where
      go : (b : Bool) → raised 1 (listed (cond b (redeclaration ns d.0 e) None)) ≡ cond b (0 ∷ []) []
      go true = refl
      go false = refl
  raised_by_lem None = refl

  raised_here : raised 1 (listed (duplicate_at ns names c e)) ≡ cond (clash_in ns (entries ns names (privates ns c) e) e) (0 ∷ []) []
  unfolding clash_in
  raised_here = rw prev_is (raised_by_lem (or_found (last mine) (last before)))

-- the elements that the check goes over
entered_is : (ns : List ℕ) (e : ℕ) → enters ns e ≡ is_entered ns e
unfolding enters is_entered e.has_body
entered_is ns e = rw (body_in_lem ns (value_of ns e), go (key_of ns e))
  where
    go : (f : Option NodeId) → has_name_at ns f ≡ named ns f
    go (Some m) = refl
    go None = refl

pub privates_are : (ns : List ℕ) (b : ℕ) → privates ns b ≡ private_entered ns b
unfolding privates elements private_entered is_private_bound
privates_are ns b =
    keep_keep (is_private ns) (enters ns) (keep (is_definition ns) (children ns b))
    ∙ keep_keep (λ x. enters ns x && is_private ns x) (is_definition ns) (children ns b)
    ∙ keep_same (λ x. is_definition ns x && (enters ns x && is_private ns x)) (λ x. (is_definition ns x && is_private ns x) && is_entered ns x)
    (λ x. rw (entered_is ns x) (go (is_definition ns x) (is_entered ns x) (is_private ns x))) (children ns b)
  where
    go : (d n p : Bool) → (d && (n && p)) ≡ ((d && p) && n)
    go true true true = refl
    go true true false = refl
    go true false true = refl
    go true false false = refl
    go false n p = refl

pub entered_rising : (ns : List ℕ) (b : ℕ) → Rising (private_entered ns b)
unfolding private_entered children
entered_rising ns b = keep_rising _ (keep (λ x. eqb (parent_of ns x) b) (upto (b + 1) (count ns))) (keep_rising _ (upto (b + 1) (count ns)) (upto_rising (b + 1) (count ns)))

flat_times : (n : ℕ) (q : ℕ → Bool) (l : List ℕ) → flat_map (λ x. cond (q x) (n ∷ []) []) l ≡ times n (keep q l)
unfolding flat_map keep
flat_times n q [] = refl
flat_times n q (x ∷ l) = rw (flat_times n q l) (go (q x))
  where
    go : (b : Bool) → cond b (n ∷ []) [] ++ times n (keep q l) ≡ times n (cond b (x ∷ keep q l) (keep q l))
    go true = refl
    go false = refl

pub flat_alike : (f g : ℕ → List ℕ) → ((x : ℕ) → f x ≡ g x) → (l : List ℕ) → flat_map f l ≡ flat_map g l
unfolding flat_map
flat_alike f g h [] = refl
flat_alike f g h (x ∷ l) = rw (h x, flat_alike f g h l)

-- 1 at a class: a finding, raised_here at node 0, for each entry that clashes with an earlier one
pub private_again_lem : (ns names : List ℕ) (b : ℕ) → raised 1 (duplicates_in ns names b) ≡ times 0 (private_again ns names (private_entered ns b))
unfolding duplicates_in private_again
private_again_lem ns names b =
    raised_flat 1 (λ e. listed (duplicate_at ns names b e)) (privates ns b)
    ∙ flat_alike (λ e. raised 1 (listed (duplicate_at ns names b e))) (λ e. cond (clash_in ns (entries ns names (privates ns b) e) e) (0 ∷ []) []) (λ e. raised_here ns names b e) (privates ns b)
    ∙ flat_times 0 (λ e. clash_in ns (entries ns names (privates ns b) e) e) (privates ns b)
    ∙ ap (λ (l : List ℕ). times 0 (keep (λ e. clash_in ns (entries ns names l e) e) l)) (privates_are ns b)

-- where the Rust enters all private elements, these are PrivateBoundIdentifiers
pub entered_all : (ns : List ℕ) (b : ℕ) → PrivatesEntered ns b → private_entered ns b ≡ private_bound ns b
unfolding private_entered private_bound
entered_all ns b w = keep_alike (λ e. is_private_bound ns e && is_entered ns e) (is_private_bound ns) (children ns b) (λ e m. go e (is_private_bound ns e) refl (w e m))
  where
    go : (e : ℕ) (x : Bool) → is_private_bound ns e ≡ x → (is_private_bound ns e ≡ true → is_entered ns e ≡ true) → (is_private_bound ns e && is_entered ns e) ≡ is_private_bound ns e
    go e true q h = rw (q, h q)
    go e false q h = rw q
