-- EACH CLASH, AND NOTHING ELSE, GIVES ITS ONE FINDING: of every class of all tables, by one argument over both kinds of key.
use Rattle.std.specs.Prelude.{ℕ, ◌+◌, ◌-◌, ◌<◌, ◌≡◌, Bool, cond, ◌&&◌, ◌||◌, length, None}
use Rattle.std.proofs.Math.Path.{refl, ap, sym}
use Rattle.std.proofs.Common.{subst, ◌∙◌, arith, lt-ltb, le-ltb}
use mathlib.Core.List.{List, [], ◌∷◌, foldl, flat_map}
use Rattle.std.proofs.Math.Bool.{true, false, not}
use Rattle.std.proofs.Math.Dec.{eqb, ltb}
use Rattle.base_common.specs.Upto.{upto, any}
use Rattle.base_walk.specs.On.{member}
use Rattle.table_records.specs.Table.{count}
use Rattle.table_names.specs.Name.{same}
use Rattle.table_children.specs.Children.{keep}
use Rattle.table_children.proofs.ChildrenLaws.{keep_keep}
use Rattle.table_lists.proofs.ListLaws.{keep_alike, any_alike, keep_second, Rising, keep_rising, upto_rising}
use Rattle.check_diagnostics.specs.Finding.{listed}
use Rattle.check_diagnostics.proofs.Gather.{flat_same_lem}
use Rattle.check_class_table.specs.Elements.{element_name, is_private, is_setter, elements, compared}
use Rattle.check_class_table.proofs.ElementsLaws.{keep_same, any_same, elements_scan}
use Rattle.check_duplicates.specs.declared.Place.{Place}
use Rattle.check_duplicates.specs.Duplicates.{nowhere, here, there, number, step, last_of, side_of, is_earlier, previous_on, or_else, previous_of, clashes, redeclaration, duplicate_by, duplicates_in, duplicate_elements}
use Rattle.check_class_table.specs.Classes.{classes_of}
use Rattle.check_pairs.specs.Pairs.{is_last, is_paired, clashing, clash_findings}

-- none, or the one that is kept
abbrev pub placed : Place → List ℕ
placed p = cond (there p) (number p ∷ []) []

-- the last of a list, where another was seen before
last_else : (q : ℕ → Bool) (l : List ℕ) (p : Place) → foldl (step q) p l ≡ or_else (foldl (step q) nowhere l) p
last_else q [] p = refl
last_else q (d ∷ l) p =
    last_else q l (step q p d)
    ∙ go (q d) (there (foldl (step q) nowhere l)) refl
    ∙ sym (ap (λ (x : Place). or_else x p) (last_else q l (step q nowhere d)))
  where
    go : (x b : Bool) → there (foldl (step q) nowhere l) ≡ b → cond b (foldl (step q) nowhere l) (cond x (here d) p) ≡ or_else (cond b (foldl (step q) nowhere l) (cond x (here d) nowhere)) p
    go x true h = rw h
    go true false h = refl
    go false false h = refl

-- there is a last one just where some passes
there_any : (q : ℕ → Bool) (l : List ℕ) → there (foldl (step q) nowhere l) ≡ any q l
there_any q [] = refl
there_any q (d ∷ l) = ap (λ (x : Place). there x) (last_else q l (step q nowhere d)) ∙ go (q d) (there (foldl (step q) nowhere l)) refl (sym (there_any q l))
  where
    go : (x b : Bool) → there (foldl (step q) nowhere l) ≡ b → any q l ≡ b → there (cond b (foldl (step q) nowhere l) (cond x (here d) nowhere)) ≡ (x || any q l)
    go true true h a = h
    go false true h a = h ∙ sym a
    go true false h a = refl
    go false false h a = sym a

-- in a list that begins below its other members: whether the first is the last that passes, and which of the others is
first_last : (q : ℕ → Bool) (d : ℕ) (l : List ℕ) → ((x : ℕ) → member x l ≡ true → d < x) → is_last q (d ∷ l) d ≡ (q d && not (any q l))
unfolding is_last
first_last q d l r = rw (le-ltb d d (omega arith), any_alike (λ m. ltb d m && q m) q l (λ m x. rw (lt-ltb d m (r m x))))

rest_last : (q : ℕ → Bool) (d : ℕ) (l : List ℕ) → ((x : ℕ) → member x l ≡ true → d < x) → keep (is_last q (d ∷ l)) l ≡ keep (is_last q l) l
unfolding is_last
rest_last q d l r = keep_alike (is_last q (d ∷ l)) (is_last q l) l (λ x m. rw (le-ltb x d (let z = r x m in omega arith)))

-- in a rising list the last that passes is the one behind which none does
only_last : (q : ℕ → Bool) (l : List ℕ) → Rising l → keep (is_last q l) l ≡ placed (foldl (step q) nowhere l)
unfolding keep
only_last q [] r = refl
only_last q (d ∷ l) r =
    rw (first_last q d l r.0, rest_last q d l r.0, only_last q l r.1)
    (go (q d) (there (foldl (step q) nowhere l)) refl (sym (there_any q l)) ∙ ap placed (sym (last_else q l (step q nowhere d))))
  where
    go : (x b : Bool) → there (foldl (step q) nowhere l) ≡ b → any q l ≡ b
        → cond (x && not (any q l)) (d ∷ placed (foldl (step q) nowhere l)) (placed (foldl (step q) nowhere l)) ≡ placed (cond (there (foldl (step q) nowhere l)) (foldl (step q) nowhere l) (cond x (here d) nowhere))
    go true true h a = ap (λ (b : Bool). cond (not b) (d ∷ placed (foldl (step q) nowhere l)) (placed (foldl (step q) nowhere l))) a ∙ sym (ap (λ (b : Bool). placed (cond b (foldl (step q) nowhere l) (here d))) h)
    go false true h a = sym (ap (λ (b : Bool). placed (cond b (foldl (step q) nowhere l) nowhere)) h)
    go true false h a =
        ap (λ (b : Bool). cond (not b) (d ∷ placed (foldl (step q) nowhere l)) (placed (foldl (step q) nowhere l))) a
        ∙ ap (λ (b : Bool). d ∷ cond b (number (foldl (step q) nowhere l) ∷ []) []) h
        ∙ sym (ap (λ (b : Bool). placed (cond b (foldl (step q) nowhere l) (here d))) h)
    go false false h a = ap (λ (b : Bool). cond b (number (foldl (step q) nowhere l) ∷ []) []) h ∙ sym (ap (λ (b : Bool). placed (cond b (foldl (step q) nowhere l) nowhere)) h)

or_false_lem : (b : Bool) → (b || false) ≡ b
or_false_lem true = refl
or_false_lem false = refl

-- those of one side or, where there is none, of the other: at most one
module _ (own other : ℕ → Bool) (l : List ℕ) (r : Rising l) where
  side_part : (b : Bool) → there (foldl (step own) nowhere l) ≡ b → keep (λ d. is_last own l d || (not b && is_last other l d)) l ≡ placed (cond b (foldl (step own) nowhere l) (foldl (step other) nowhere l))
  side_part true h = keep_same (λ d. is_last own l d || false) (is_last own l) (λ d. or_false_lem (is_last own l d)) l ∙ only_last own l r
  side_part false h = keep_second (is_last own l) (is_last other l) l (only_last own l r ∙ rw h) ∙ only_last other l r

  sides : keep (λ d. is_last own l d || (not (any own l) && is_last other l d)) l ≡ placed (or_else (foldl (step own) nowhere l) (foldl (step other) nowhere l))
  sides = ap (λ (b : Bool). keep (λ d. is_last own l d || (not b && is_last other l d)) l) (sym (there_any own l)) ∙ side_part (there (foldl (step own) nowhere l)) refl

module _ (t : ℕ) (ns names : List ℕ) (c : ℕ) where
  rising : Rising (elements t ns c)
  rising = subst Rising (sym (elements_scan t ns c)) (keep_rising _ (upto (c + 1) (count ns)) (upto_rising (c + 1) (count ns)))

  -- e is compared with one element at most, the one that the check keeps
  pub paired : (e : ℕ) → keep (is_paired t ns names c e) (elements t ns c) ≡ placed (previous_of t ns names c e)
  unfolding previous_of previous_on last_of
  paired e = sides (is_earlier ns names e (side_of ns e)) (is_earlier ns names e (1 - side_of ns e)) (elements t ns c) rising

  raised_by_lem : (e : ℕ) (p : Place) → flat_map (λ d. listed (redeclaration t ns d e)) (keep (λ d. clashes ns d e) (placed p)) ≡ listed (duplicate_by t ns e p)
  unfolding duplicate_by redeclaration keep flat_map
  raised_by_lem e p = go (there p) (clashes ns (number p) e) refl
    where
      go : (b x : Bool) → clashes ns (number p) e ≡ x
          → flat_map (λ d. listed (redeclaration t ns d e)) (keep (λ d. clashes ns d e) (cond b (number p ∷ []) [])) ≡ listed (cond (b && x) (redeclaration t ns (number p) e) None)
      go true true h = rw h
      go true false h = rw h
      go false x h = refl

  raised_at_lem : (e : ℕ) → flat_map (λ d. listed (redeclaration t ns d e)) (clashing t ns names c e) ≡ listed (duplicate_by t ns e (previous_of t ns names c e))
  raised_at_lem e =
      ap (flat_map (λ d. listed (redeclaration t ns d e))) (sym (keep_keep (λ d. clashes ns d e) (is_paired t ns names c e) (elements t ns c)) ∙ ap (keep (λ d. clashes ns d e)) (paired e))
      ∙ raised_by_lem e (previous_of t ns names c e)

  -- THE THEOREM, of one class
  pub one_each : duplicates_in t ns names c ≡ clash_findings t ns names c
  unfolding duplicates_in clash_findings
  one_each =
      flat_same_lem (λ e. listed (duplicate_by t ns e (previous_of t ns names c e))) (λ e. flat_map (λ d. listed (redeclaration t ns d e)) (clashing t ns names c e)) (λ e. sym (raised_at_lem e)) (compared t ns c)

-- .. and of all classes
pub each_clash : (t : ℕ) (ns names : List ℕ) → duplicate_elements t ns names ≡ flat_map (clash_findings t ns names) (classes_of ns)
unfolding duplicate_elements
each_clash t ns names = flat_same_lem (duplicates_in t ns names) (clash_findings t ns names) (one_each t ns names) (classes_of ns)

-- a clash gives one finding
pub one_finding : (t : ℕ) (ns : List ℕ) (d e : ℕ) → length (listed (redeclaration t ns d e)) ≡ 1
unfolding redeclaration
one_finding t ns d e = refl

-- "each with the last such of its name": a non-private element is compared with the last earlier non-private one of its name
module _ (t : ℕ) (ns names : List ℕ) (c e : ℕ) (h : is_private ns e ≡ false) where
  abbrev pub such_of : ℕ → Bool
  such_of d = ltb d e && (not (is_private ns d) && same (element_name ns names d) (element_name ns names e))

  own_side : (d : ℕ) → is_earlier ns names e 0 d ≡ such_of d
  unfolding side_of
  own_side d = rw h (go (ltb d e) (is_private ns d) (same (element_name ns names d) (element_name ns names e)) (is_setter ns d))
    where
      go : (l p n s : Bool) → (l && ((not p && n) && eqb (cond (p && s) 1 0) 0)) ≡ (l && (not p && n))
      go true true n s = refl
      go true false true s = refl
      go true false false s = refl
      go false p n s = refl

  other_side : (d : ℕ) → is_earlier ns names e 1 d ≡ false
  unfolding side_of
  other_side d = rw h (go (ltb d e) (is_private ns d) (same (element_name ns names d) (element_name ns names e)) (is_setter ns d))
    where
      go : (l p n s : Bool) → (l && ((not p && n) && eqb (cond (p && s) 1 0) 1)) ≡ false
      go true true n s = refl
      go true false true s = refl
      go true false false s = refl
      go false p n s = refl

  own_last : (d : ℕ) → is_last (is_earlier ns names e 0) (elements t ns c) d ≡ is_last such_of (elements t ns c) d
  unfolding is_last
  own_last d =
      ap (λ (b : Bool). b && not (any (λ m. ltb d m && is_earlier ns names e 0 m) (elements t ns c))) (own_side d)
      ∙ ap (λ (b : Bool). such_of d && not b) (any_same (λ m. ltb d m && is_earlier ns names e 0 m) (λ m. ltb d m && such_of m) (λ m. ap (λ (b : Bool). ltb d m && b) (own_side m)) (elements t ns c))

  none_last : (d : ℕ) → is_last (is_earlier ns names e 1) (elements t ns c) d ≡ false
  unfolding is_last
  none_last d = ap (λ (b : Bool). b && not (any (λ m. ltb d m && is_earlier ns names e 1 m) (elements t ns c))) (other_side d)

  one_side : side_of ns e ≡ 0
  unfolding side_of
  one_side = rw h

  pub public_last : (d : ℕ) → is_paired t ns names c e d ≡ is_last such_of (elements t ns c) d
  public_last d =
      ap (λ (s : ℕ). is_last (is_earlier ns names e s) (elements t ns c) d || (not (any (is_earlier ns names e s) (elements t ns c)) && is_last (is_earlier ns names e (1 - s)) (elements t ns c) d)) one_side
      ∙ rw (none_last d) (go (is_last (is_earlier ns names e 0) (elements t ns c) d) (any (is_earlier ns names e 0) (elements t ns c)))
      ∙ own_last d
    where
      go : (x y : Bool) → (x || (not y && false)) ≡ x
      go true y = refl
      go false true = refl
      go false false = refl
