-- THE FINDINGS WITH CODES 7 AND 8 ARE WHERE AllPrivateIdentifiersValid (15.7.7) IS FALSE.
use Rattle.table_records.specs.declared.NodeId.{NodeId}
use Rattle.std.specs.Prelude.{ℕ, zero, suc, ◌+◌, ◌≤◌, ◌<◌, ◌≡◌, Bool, ◌&&◌, ◌||◌, length, Option, Some, None, is_some}
use Rattle.std.proofs.Math.Path.{refl, ap, sym}
use Rattle.std.proofs.Common.{subst, ◌∙◌, eq-or-lt_of_le, arith}
use mathlib.Core.List.{List, [], ◌∷◌, ◌++◌, foldr, flat_map}
use Rattle.std.proofs.Math.Bool.{true, false, cond, not}
use Rattle.std.proofs.Math.Logic.{⊎_elim}
use borrow.Author.Tests.{eq-eqb, eqb-true, lt-leb, le-leb}
use Rattle.std.proofs.Math.Dec.{eqb}
use Rattle.base_common.specs.Upto.{upto, any}
use Rattle.base_common.proofs.UptoLaws.{and_left_lem}
use Rattle.base_common.specs.Tests.{within}
use Rattle.base_common.proofs.Bools.{never}
use Rattle.base_walk.specs.On.{member}
use Rattle.base_walk.proofs.PreorderLaws.{lt_or_ge}
use Rattle.table_records.specs.Table.{kind_of, parent_of, role_of, count, ancestors}
use Rattle.table_records.specs.Facts.{Tree}
use Rattle.table_records.specs.Kinds as k
use Rattle.table_names.specs.Name.{same, name_of, has}
use Rattle.table_children.specs.Children.{keep, is_child, class_body_of}
use Rattle.table_children.proofs.ChildrenLaws.{keep_keep, found_child, tally, tally_all}
use Rattle.table_ancestry.specs.Ancestry.{nearest_of}
use Rattle.table_ancestry.proofs.AncestryLaws.{ancestors_up, ancestors_root}
use Rattle.refusal_fields.specs.Fields.{Listed}
use Rattle.refusal_input.specs.WellFormed.{Shaped}
use Rattle.ecma_trees.specs.Rose.{Rose, Roses, node, rnil, rcons, tree_of}
use Rattle.ecma_trees.specs.Walk.{each, walk, walk_all, some, only}
use Rattle.ecma_trees.proofs.WalkLaws.{fold_is, some_append, some_only}
use Rattle.check_diagnostics.specs.declared.Finding.{Finding}
use Rattle.check_diagnostics.specs.Finding.{listed, error_at}
use Rattle.check_diagnostics.specs.Codes as code
use Rattle.check_diagnostics.specs.Contexts as context
use Rattle.check_diagnostics.proofs.Gather.{flat_keep, kept_first_lem, kept_none}
use Rattle.check_class_table.specs.Classes.{class_at, body_above, current_class, outer_classes}
use Rattle.check_class_table.proofs.ClassesLaws.{within_one, over, outer_at}
use Rattle.check_class_table.specs.Elements.{element_name}
use Rattle.check_classes.specs.ClassChecks.{outside_by, private_outside, is_class, references}
use Rattle.check_classes.specs.ClassChecks as now
use Rattle.check_dispatch.specs.Former.{privates, has_private, is_declared, undeclared_at, undeclared_in, undeclared_by, private_undeclared}
use Rattle.check_dispatch.proofs.FormerLaws.{same_undeclared}
use Rattle.check_dispatch.specs.Findings.{findings_at}
use Rattle.ecma_dispatch.specs.WithCode.{with_code}
use Rattle.ecma_dispatch.proofs.DispatchLaws.{at_code}
use Rattle.ecma_dispatch.specs.NodesOf.{nodes_of, raised}
use Rattle.ecma_elements.proofs.RaisingLaws.{keep_upto, flat_upto, keep_from}
use Rattle.ecma_dispatch.proofs.NodesOfLaws.{raised_again}
use Rattle.table_lists.proofs.ListLaws.{kept_in, in_kept, keep_none, in_upto, upto_in}
use Rattle.ecma_elements.specs.ClassElements.{key_name}
use Rattle.ecma_privates.specs.PrivateNames.{private_bound, strings, is_class_body, new_names, valid, all_valid, invalid, is_use, invalid_identifiers}
use Rattle.ecma_privates.specs.Raised.{same_node, body_around}
use Rattle.ecma_privates.specs.Changed.{private_entered, is_table_use, invalid_in_table, PrivatesPlain, is_outside, OutsideUsed}
use Rattle.ecma_privates.proofs.PrivateTwiceLaws.{name_is_lem, privates_are, entered_all, both_ways}

module _ (ns names : List ℕ) (uses : ℕ → Bool) (bound : ℕ → List ℕ) where
  abbrev says : ℕ → List (List ℕ) → List ℕ
  says n l = only (uses n && not (has l (name_of ns names n))) n

  abbrev hands : ℕ → ℕ → List (List ℕ) → List (List ℕ)
  hands i j l = new_names ns names uses bound i l

  here : (u c : Bool) → cond u c true ≡ not (u && not c)
  here true true = refl
  here true false = refl
  here false c = refl

  neither : (a b : Bool) → not (a || b) ≡ (not a && not b)
  neither true b = refl
  neither false b = refl

  -- the operation is false just where it lists something
  mutual
    unfolding valid walk

    valid_is : (t : Rose) (l : List (List ℕ)) → valid ns names uses bound t l ≡ not (some (walk says hands t l))
    valid_is (node n ks) l =
        rw (all_is ks (new_names ns names uses bound n l), some_append (says n l) (walk_all says hands ks (λ j. new_names ns names uses bound n l)), some_only (uses n && not (has l (name_of ns names n))) n)
        (rw (here (uses n) (has l (name_of ns names n))) (sym (neither (uses n && not (has l (name_of ns names n))) (some (walk_all says hands ks (λ j. new_names ns names uses bound n l))))))

    all_is : (ts : Roses) (l : List (List ℕ)) → all_valid ns names uses bound ts l ≡ not (some (walk_all says hands ts (λ j. l)))
    all_is rnil l = refl
    all_is (rcons t ts) l =
        rw (valid_is t l, all_is ts l, some_append (walk says hands t l) (walk_all says hands ts (λ j. l)))
        (sym (neither (some (walk says hands t l)) (some (walk_all says hands ts (λ j. l)))))

  pub valid_none : (t : Rose) (l : List (List ℕ)) → valid ns names uses bound t l ≡ not (some (invalid ns names uses bound t l))
  unfolding invalid
  valid_none t l = valid_is t l

  -- the names that the operation is handed at a node
  abbrev bound_at : ℕ → List (List ℕ)
  bound_at j = foldr (λ a l. new_names ns names uses bound a l) [] (ancestors ns j)

  -- it is false at this node
  abbrev pub invalid_at : ℕ → Bool
  invalid_at j = uses j && not (has (bound_at j) (name_of ns names j))

  each_only : (q : ℕ → Bool) (l : List ℕ) → each (λ j. only (q j) j) l ≡ keep q l
  unfolding keep
  each_only q [] = refl
  each_only q (x ∷ l) = rw (each_only q l) (go (q x))
    where
      go : (b : Bool) → only b x ++ keep q l ≡ cond b (x ∷ keep q l) (keep q l)
      go true = refl
      go false = refl

  pub invalid_list : Tree ns → invalid ns names uses bound (tree_of ns) [] ≡ keep invalid_at (upto 0 (count ns))
  unfolding invalid
  invalid_list t = fold_is says (λ i l. new_names ns names uses bound i l) [] ns t ∙ each_only invalid_at (upto 0 (count ns))

  -- a name is among them just where a ClassBody around binds it
  any_append_lem : (p : List ℕ → Bool) (a b : List (List ℕ)) → any p (a ++ b) ≡ (any p a || any p b)
  any_append_lem p [] b = refl
  any_append_lem p (x ∷ a) b = rw (any_append_lem p a b) (go (p x))
    where
      go : (y : Bool) → (y || (any p a || any p b)) ≡ ((y || any p a) || any p b)
      go true = refl
      go false = refl

  in_strings : (l : List ℕ) (x : List ℕ) → has (strings ns names l) x ≡ any (λ e. same (key_name ns names e) x) l
  in_strings [] x = refl
  in_strings (e ∷ l) x = rw (in_strings l x)

  new_is : (n : ℕ) (l : List (List ℕ)) (x : List ℕ)
      → has (new_names ns names uses bound n l) x ≡ ((is_class_body ns n && any (λ e. same (key_name ns names e) x) (bound n)) || has l x)
  new_is n l x = go (is_class_body ns n) refl
    where
      go : (b : Bool) → is_class_body ns n ≡ b → has (new_names ns names uses bound n l) x ≡ ((is_class_body ns n && any (λ e. same (key_name ns names e) x) (bound n)) || has l x)
      go true e = rw (e, ← in_strings (bound n) x) (any_append_lem (λ y. same y x) (strings ns names (bound n)) l)
      go false e = rw e

  pub bound_is : (as' : List ℕ) (x : List ℕ)
      → has (foldr (λ a l. new_names ns names uses bound a l) [] as') x ≡ any (λ d. any (λ e. same (key_name ns names e) x) (bound d)) (keep (is_class_body ns) as')
  unfolding keep
  bound_is [] x = refl
  bound_is (a ∷ as') x = new_is a (foldr (λ a l. new_names ns names uses bound a l) [] as') x ∙ rw (bound_is as' x) (go (is_class_body ns a))
    where
      go : (b : Bool) → ((b && any (λ e. same (key_name ns names e) x) (bound a)) || any (λ d. any (λ e. same (key_name ns names e) x) (bound d)) (keep (is_class_body ns) as'))
          ≡ any (λ d. any (λ e. same (key_name ns names e) x) (bound d)) (cond b (a ∷ keep (is_class_body ns) as') (keep (is_class_body ns) as'))
      go true = refl
      go false = refl

-- the nearest ClassBody, as the check finds it
pub around_is : (ns : List ℕ) (n : ℕ) → body_above ns n ≡ body_around ns n
unfolding nearest_of body_around
around_is ns n = go (ancestors ns n)
  where
    go : (l : List ℕ)
        → foldr {B = Option NodeId} (λ a r. cond (within (kind_of ns a) k.ClassBody k.ClassBody) (Some (record { 0 = a })) r) None l ≡ foldr {B = Option NodeId} (λ a r. cond (is_class_body ns a) (Some (record { 0 = a })) r) None l
    go [] = refl
    go (a ∷ l) = rw (within_one (kind_of ns a) k.ClassBody, go l)

current_is : (ns : List ℕ) (m : ℕ) → eqb (kind_of ns m) k.PrivateIdentifier ≡ true → current_class ns m ≡ class_at (body_around ns m)
unfolding current_class
current_is ns m e = let q : kind_of ns m ≡ k.PrivateIdentifier = eqb-true (kind_of ns m) k.PrivateIdentifier e in rw (q, around_is ns m)

-- 7: one finding at each PrivateIdentifier outside of ClassBodies
module _ (t : ℕ) (ns ss source names : List ℕ) (n : ℕ) where
  outside_raised : (f : Option NodeId) → raised 7 (listed (outside_by ns n (class_at f))) ≡ only (not (is_some f)) n
  unfolding nodes_of with_code
  outside_raised (Some b) = refl
  outside_raised None = refl

  pub private_outside_lem : raised 7 (findings_at t ns ss source names n) ≡ only (is_outside ns n) n
  unfolding is_outside nodes_of with_code
  private_outside_lem = sym (raised_again 7 (findings_at t ns ss source names n)) ∙ rw (at_code 7 t ns ss source names n) (go (eqb (kind_of ns n) k.PrivateIdentifier) refl)
    where
      go : (b : Bool) → eqb (kind_of ns n) k.PrivateIdentifier ≡ b → raised 7 (cond b (listed (private_outside ns n)) []) ≡ only (b && not (is_some (body_around ns n))) n
      go true q = rw (current_is ns n q) (outside_raised (body_around ns n))
      go false q = refl

-- a node is listed just where it is kept
listed_at : (q : ℕ → Bool) (n j : ℕ) → j < n → member j (keep q (upto 0 n)) ≡ q j
listed_at q n j h =
    both_ways (member j (keep q (upto 0 n))) (q j) (λ m. (kept_in q (upto 0 n) j m).1) (λ e. in_kept q (upto 0 n) j (in_upto n j h) e)

module _ (ns names : List ℕ) (w : Tree ns) where
  -- no ClassBody around, no name
  none_around : (l : List ℕ) → is_some {T = NodeId} (foldr (λ a r. cond (is_class_body ns a) (Some (record { 0 = a })) r) None l) ≡ false → keep (is_class_body ns) l ≡ []
  unfolding keep
  none_around [] h = refl
  none_around (a ∷ l) h = go (is_class_body ns a) h (λ z. none_around l z)
    where
      go : (b : Bool) → is_some {T = NodeId} (cond b (Some (record { 0 = a })) (foldr (λ a r. cond (is_class_body ns a) (Some (record { 0 = a })) r) None l)) ≡ false
          → (is_some {T = NodeId} (foldr (λ a r. cond (is_class_body ns a) (Some (record { 0 = a })) r) None l) ≡ false → keep (is_class_body ns) l ≡ []) → cond b (a ∷ keep (is_class_body ns) l) (keep (is_class_body ns) l) ≡ []
      go true e r = never e
      go false e r = r e

  module _ (j : ℕ) where
    abbrev handed : List (List ℕ)
    handed = foldr (λ a l. new_names ns names (is_use ns) (private_bound ns) a l) [] (ancestors ns j)

    bare : is_some (body_around ns j) ≡ false → has handed (name_of ns names j) ≡ false
    unfolding body_around
    bare e = bound_is ns names (is_use ns) (private_bound ns) (ancestors ns j) (name_of ns names j) ∙ rw (none_around (ancestors ns j) e)

    opens : is_use ns j ≡ true → is_some (body_around ns j) ≡ false → is_outside ns j ≡ true
    unfolding is_use is_outside
    opens q e = rw (and_left_lem (eqb (kind_of ns j) k.PrivateIdentifier) (within (kind_of ns (parent_of ns j)) k.PrivateField k.PrivateIn) q, e)

    inside : is_some (body_around ns j) ≡ true → is_outside ns j ≡ false
    unfolding is_outside
    inside e = rw e (by (eqb (kind_of ns j) k.PrivateIdentifier))
      where
        by : (b : Bool) → (b && false) ≡ false
        by true = refl
        by false = refl

  -- where a PrivateIdentifier there is a use, it is one that the standard's operation finds outside of ClassBodies
  pub outside_invalid : (j : ℕ) → j < count ns → OutsideUsed ns j → is_outside ns j ≡ (member j (invalid_identifiers ns names) && not (is_some (body_around ns j)))
  outside_invalid j h u =
      rw (invalid_list ns names (is_use ns) (private_bound ns) w, listed_at (invalid_at ns names (is_use ns) (private_bound ns)) (count ns) j h)
      (go (is_some (body_around ns j)) refl)
    where
      shuts : is_use ns j ≡ false → (x : Bool) → is_outside ns j ≡ x → is_outside ns j ≡ false
      shuts q true z = never (sym (u z) ∙ q)
      shuts q false z = z

      off : (x : Bool) → false ≡ (x && false)
      off true = refl
      off false = refl

      by : is_some (body_around ns j) ≡ false → (b : Bool) → is_use ns j ≡ b → is_outside ns j ≡ ((b && true) && true)
      by e true q = opens j q e
      by e false q = shuts q (is_outside ns j) refl

      go : (b : Bool) → is_some (body_around ns j) ≡ b → is_outside ns j ≡ ((is_use ns j && not (has (handed j) (name_of ns names j))) && not b)
      go true e = inside j e ∙ off (is_use ns j && not (has (handed j) (name_of ns names j)))
      go false e = rw (bare j e) (by e (is_use ns j) refl)

any_alike : (p q : ℕ → Bool) → ((x : ℕ) → p x ≡ q x) → (l : List ℕ) → any p l ≡ any q l
any_alike p q h [] = refl
any_alike p q h (x ∷ l) = rw (h x, any_alike p q h l)

class_same : (c : ℕ) (f : Option NodeId) → is_class c (class_at f) ≡ same_node f (Some (record { 0 = c }))
class_same c (Some d) = refl
class_same c None = refl

same_found : (c : ℕ) (f : Option NodeId) → same_node f (Some (record { 0 = c })) ≡ true → f ≡ Some (record { 0 = c })
same_found c (Some d) e = ap (λ (x : ℕ). Some (record { 0 = x })) (eqb-true d.0 c e)
same_found c None e = never (sym e)

-- 8: at a Class, one finding for each PrivateIdentifier that is not valid and whose nearest ClassBody is that class's
module _ (ns names : List ℕ) (w : Tree ns) where
  bound_by : (d : ℕ) (x : List ℕ) → has_private ns names d x ≡ any (λ e. same (key_name ns names e) x) (private_entered ns d)
  unfolding has_private
  bound_by d x =
      any_alike (λ e. same (element_name ns names e) x) (λ e. same (key_name ns names e) x) (λ e. rw (name_is_lem ns names e)) (privates ns d)
      ∙ ap (λ (l : List ℕ). any (λ e. same (key_name ns names e) x) l) (privates_are ns d)

  abbrev handed_in : ℕ → List (List ℕ)
  handed_in m = foldr (λ a l. new_names ns names (is_table_use ns) (private_entered ns) a l) [] (ancestors ns m)

  declared_is : (m c : ℕ) → m < count ns → body_around ns m ≡ Some (record { 0 = c }) → (x : List ℕ) → is_declared ns names c x ≡ has (handed_in m) x
  unfolding is_declared outer_classes
  declared_is m c h e x =
      ap (any (λ d. has_private ns names d x)) (sym (outer_at ns w m c h (around_is ns m ∙ e)))
      ∙ any_alike (λ d. has_private ns names d x) (λ d. any (λ e. same (key_name ns names e) x) (private_entered ns d)) (λ d. bound_by d x) (keep (is_class_body ns) (ancestors ns m))
      ∙ sym (bound_is ns names (is_table_use ns) (private_entered ns) (ancestors ns m) x)

  abbrev error8 : ℕ → ℕ → List Finding
  error8 n m = listed (error_at ns code.private_field_undeclared n m context.none)

  abbrev invalid_here : ℕ → Bool
  invalid_here m = invalid_at ns names (is_table_use ns) (private_entered ns) m

  use_kind : (m : ℕ) → is_table_use ns m ≡ true → eqb (kind_of ns m) k.PrivateIdentifier ≡ true
  unfolding is_table_use
  use_kind m q = and_left_lem (eqb (kind_of ns m) k.PrivateIdentifier) (within (kind_of ns (parent_of ns m)) k.OtherMember k.PrivateIn) q

  -- what the check raises of one reference
  piece : (n c m : ℕ) → m < count ns
      → cond (is_table_use ns m && is_class c (current_class ns m)) (listed (undeclared_at ns names n c m)) [] ≡ cond (invalid_here m && same_node (body_around ns m) (Some (record { 0 = c }))) (error8 n m) []
  unfolding undeclared_at
  piece n c m h = go (is_table_use ns m) refl
    where
      raise : (b : Bool) → listed (cond b None (error_at ns code.private_field_undeclared n m context.none)) ≡ cond (not b && true) (error8 n m) []
      raise true = refl
      raise false = refl

      off : (b : Bool) → [] ≡ cond (b && false) (error8 n m) []
      off true = refl
      off false = refl

      by : (b : Bool) → same_node (body_around ns m) (Some (record { 0 = c })) ≡ b
          → cond b (listed (cond (is_declared ns names c (name_of ns names m)) None (error_at ns code.private_field_undeclared n m context.none))) [] ≡ cond (not (has (handed_in m) (name_of ns names m)) && b) (error8 n m) []
      by true e = rw (declared_is m c h (same_found c (body_around ns m) e) (name_of ns names m)) (raise (has (handed_in m) (name_of ns names m)))
      by false e = off (not (has (handed_in m) (name_of ns names m)))

      go : (a : Bool) → is_table_use ns m ≡ a
          → cond (a && is_class c (current_class ns m)) (listed (cond (is_declared ns names c (name_of ns names m)) None (error_at ns code.private_field_undeclared n m context.none))) []
          ≡ cond ((a && not (has (handed_in m) (name_of ns names m))) && same_node (body_around ns m) (Some (record { 0 = c }))) (error8 n m) []
      go true q = rw (current_is ns m (use_kind m q), class_same c (body_around ns m)) (by (same_node (body_around ns m) (Some (record { 0 = c }))) refl)
      go false q = refl

  refs : (n c : ℕ) → undeclared_in ns names n c ≡ flat_map (λ m. cond (is_table_use ns m && is_class c (current_class ns m)) (listed (undeclared_at ns names n c m)) []) (upto (c + 1) (count ns))
  unfolding undeclared_in references is_table_use
  refs n c = flat_keep (λ m. listed (undeclared_at ns names n c m)) (λ m. is_table_use ns m && is_class c (current_class ns m)) (upto (c + 1) (count ns))

  early : (c x : ℕ) → c < count ns → x < c + 1 → (invalid_here x && same_node (body_around ns x) (Some (record { 0 = c }))) ≡ false
  early c x h l = go (same_node (body_around ns x) (Some (record { 0 = c }))) refl (invalid_here x)
    where
      go : (b : Bool) → same_node (body_around ns x) (Some (record { 0 = c })) ≡ b → (a : Bool) → (a && same_node (body_around ns x) (Some (record { 0 = c }))) ≡ false
      go true e a =
          let o = (over ns w k.ClassBody k.ClassBody x c (omega arith) (around_is ns x ∙ same_found c (body_around ns x) e)).less in
          absurd (omega arith)
      go false e true = e
      go false e false = refl

  in_class_lem : (n c : ℕ) → c < count ns → undeclared_in ns names n c ≡ flat_map (error8 n) (keep (λ m. same_node (body_around ns m) (Some (record { 0 = c }))) (invalid_in_table ns names))
  in_class_lem n c h =
      refs n c
      ∙ flat_upto (λ m. cond (is_table_use ns m && is_class c (current_class ns m)) (listed (undeclared_at ns names n c m)) []) (λ m. cond (invalid_here m && same_node (body_around ns m) (Some (record { 0 = c }))) (error8 n m) [])
      (c + 1) (count ns) (λ m a b. piece n c m b)
      ∙ sym (flat_keep (error8 n) (λ m. invalid_here m && same_node (body_around ns m) (Some (record { 0 = c }))) (upto (c + 1) (count ns)))
      ∙ ap (flat_map (error8 n))
      (sym (keep_from (λ m. invalid_here m && same_node (body_around ns m) (Some (record { 0 = c }))) (count ns) (c + 1) (omega arith) (λ x l. early c x h l))
      ∙ sym (keep_keep (λ m. same_node (body_around ns m) (Some (record { 0 = c }))) invalid_here (upto 0 (count ns)))
      ∙ ap (keep (λ m. same_node (body_around ns m) (Some (record { 0 = c })))) (sym (invalid_list ns names (is_table_use ns) (private_entered ns) w)))

  in_found : (n : ℕ) (f : Option NodeId) → class_body_of ns n ≡ f → undeclared_by ns names n (class_at f) ≡ flat_map (error8 n) (keep (λ m. same_node (body_around ns m) f) (invalid_in_table ns names))
  unfolding flat_map
  in_found n (Some c) e = in_class_lem n c.0 (found_child ns n k.ClassBody k.ClassBody 0 7 (n + 1) c.0 e).below
  in_found n None e = sym (ap (flat_map (error8 n)) (keep_none (λ m. same_node (body_around ns m) None) (invalid_in_table ns names) (λ x m. go (body_around ns x))))
    where
      go : (f : Option NodeId) → same_node f None ≡ false
      go (Some a) = refl
      go None = refl

  at_class_lem : (n : ℕ) → eqb (kind_of ns n) k.Class ≡ true → current_class ns n ≡ class_at (class_body_of ns n)
  unfolding current_class
  at_class_lem n e = rw e

  pub private_undeclared_lem : (t : ℕ) → t ≤ 1 → (ss source : List ℕ) (n : ℕ)
      → with_code 8 (findings_at t ns ss source names n)
      ≡ cond (eqb (kind_of ns n) k.Class) (flat_map (λ m. listed (error_at ns code.private_field_undeclared n m context.none)) (keep (λ m. same_node (body_around ns m) (class_body_of ns n)) (invalid_in_table ns names))) []
  private_undeclared_lem t s ss source n = at_code 8 t ns ss source names n ∙ go (eqb (kind_of ns n) k.Class) refl
    where
      go : (b : Bool) → eqb (kind_of ns n) k.Class ≡ b → cond b (now.private_undeclared t ns names n) [] ≡ cond b (flat_map (error8 n) (keep (λ m. same_node (body_around ns m) (class_body_of ns n)) (invalid_in_table ns names))) []
      go true e = same_undeclared t s ns names n ∙ ap (undeclared_by ns names n) (at_class_lem n e) ∙ in_found n (class_body_of ns n) refl
      go false e = refl

  -- on the condition, the Rust's list is the standard's
  use_same : PrivatesPlain ns → (j : ℕ) → j < count ns → is_table_use ns j ≡ is_use ns j
  unfolding is_table_use is_use
  use_same p j h = go (eqb (kind_of ns j) k.PrivateIdentifier) refl
    where
      above : (x : ℕ) → (x ≡ k.OtherMember → ⊥) → within x k.OtherMember k.PrivateIn ≡ within x k.PrivateField k.PrivateIn
      above x n =
          ⊎_elim (λ (l : x < 40). rw (lt-leb 40 x l, lt-leb 41 x (omega arith)))
          (λ (l : 40 ≤ x). ⊎_elim (λ (q : 40 ≡ x). absurd (n (sym q))) (λ (q : 40 < x). rw (le-leb 40 x l, le-leb 41 x (omega arith))) (eq-or-lt_of_le l)) (lt_or_ge x 40)

      go : (b : Bool) → eqb (kind_of ns j) k.PrivateIdentifier ≡ b
          → (b && within (kind_of ns (parent_of ns j)) k.OtherMember k.PrivateIn) ≡ (b && within (kind_of ns (parent_of ns j)) k.PrivateField k.PrivateIn)
      go true q = above (kind_of ns (parent_of ns j)) (p.members j h (eqb-true (kind_of ns j) k.PrivateIdentifier q))
      go false q = refl

  abbrev handed_as : ℕ → List (List ℕ)
  handed_as m = foldr (λ a l. new_names ns names (is_use ns) (private_bound ns) a l) [] (ancestors ns m)

  names_same : PrivatesPlain ns → (i : ℕ) → i < count ns → (l : List (List ℕ)) → new_names ns names (is_table_use ns) (private_entered ns) i l ≡ new_names ns names (is_use ns) (private_bound ns) i l
  names_same p i h l = rw (entered_all ns i (p.entered i h))

  handed_same : PrivatesPlain ns → (f j : ℕ) → j ≤ f → j < count ns → handed_in j ≡ handed_as j
  handed_same p zero j hf h =
      let z : j ≡ 0 = omega arith in
      rw z (ancestors_root (λ a l. new_names ns names (is_table_use ns) (private_entered ns) a l) [] ns ∙ sym (ancestors_root (λ a l. new_names ns names (is_use ns) (private_bound ns) a l) [] ns))
  handed_same p (suc f) j hf h =
      ⊎_elim (λ (q : 0 ≡ j). handed_same p f j (omega arith) h)
      (λ (q : 0 < j). let l = w.falls j q h in step q (handed_same p f (parent_of ns j) (omega arith) (omega arith))) (eq-or-lt_of_le (omega arith))
    where
      step : 0 < j → handed_in (parent_of ns j) ≡ handed_as (parent_of ns j) → handed_in j ≡ handed_as j
      step q r =
          let l = w.falls j q h in
          ancestors_up (λ a l. new_names ns names (is_table_use ns) (private_entered ns) a l) [] ns w j q h
          ∙ ap (λ (x : List (List ℕ)). new_names ns names (is_table_use ns) (private_entered ns) (parent_of ns j) x) r
          ∙ names_same p (parent_of ns j) (omega arith) (handed_as (parent_of ns j))
          ∙ sym (ancestors_up (λ a l. new_names ns names (is_use ns) (private_bound ns) a l) [] ns w j q h)

  pub invalid_same : PrivatesPlain ns → invalid_in_table ns names ≡ invalid_identifiers ns names
  invalid_same p =
      invalid_list ns names (is_table_use ns) (private_entered ns) w
      ∙ keep_upto invalid_here (invalid_at ns names (is_use ns) (private_bound ns)) 0 (count ns)
      (λ j a b. rw (use_same p j b, handed_same p j j (omega arith) b))
      ∙ sym (invalid_list ns names (is_use ns) (private_bound ns) w)

-- a ClassBody is that of its Class: so each of these is found at one Class
module _ (ns : List ℕ) (w : Tree ns) (listed' : Listed ns) (shaped : Shaped ns) (b : ℕ) (h : b < count ns) (e : kind_of ns b ≡ k.ClassBody) where
  abbrev up : ℕ
  up = parent_of ns b

  abbrev bodies : List ℕ
  bodies = keep (is_child ns up k.ClassBody k.ClassBody 0 7) (upto (up + 1) (count ns))

  below_up : (0 < b) × (up < b)
  below_up = ⊎_elim (λ (q : 0 ≡ b). absurd (let z : kind_of ns 0 ≡ k.ClassBody = subst (λ (x : ℕ). kind_of ns x ≡ k.ClassBody) (sym q) e in let y = w.root in omega arith)) (λ (q : 0 < b). (q, w.falls b q h)) (eq-or-lt_of_le (omega arith))

  pub class_above_lem : kind_of ns up ≡ k.Class
  class_above_lem = shaped.placed.class_body b h e

  is_body : is_child ns up k.ClassBody k.ClassBody 0 7 b ≡ true
  unfolding is_child
  is_body = rw (eq-eqb up up refl, within_one (kind_of ns b) k.ClassBody, eq-eqb (kind_of ns b) k.ClassBody e, le-leb 0 (role_of ns b) (omega arith), le-leb (role_of ns b) 7 (listed'.role b h))

  member_body : member b bodies ≡ true
  member_body = in_kept (is_child ns up k.ClassBody k.ClassBody 0 7) (upto (up + 1) (count ns)) b (let z = below_up.1 in upto_in (up + 1) (count ns) b (omega arith) h) is_body

  one_body : length bodies ≡ 1
  unfolding tally
  one_body = let z = below_up.1 in tally_all ns up k.ClassBody k.ClassBody 0 7 ∙ shaped.counted.class_body up (omega arith) class_above_lem

  single : (l : List ℕ) (a : ℕ) → length (a ∷ l) ≡ 1 → member b (a ∷ l) ≡ true → a ≡ b
  single [] a s m = go (eqb b a) refl m
    where
      go : (x : Bool) → eqb b a ≡ x → (x || false) ≡ true → a ≡ b
      go true q z = sym (eqb-true b a q)
      go false q z = never (sym z)
  single (c ∷ l) a s m = absurd (omega arith)

  pub body_of_class : class_body_of ns up ≡ Some (record { 0 = b })
  body_of_class = go (class_body_of ns up) refl
    where
      go : (f : Option NodeId) → class_body_of ns up ≡ f → f ≡ Some (record { 0 = b })
      go (Some a) q =
          let z = kept_first_lem (is_child ns up k.ClassBody k.ClassBody 0 7) (count ns) (up + 1) a.0 q in
          ap (λ (x : ℕ). Some (record { 0 = x }))
          (single (keep (is_child ns up k.ClassBody k.ClassBody 0 7) (upto (a.0 + 1) (count ns))) a.0 (sym (ap length z) ∙ one_body) (sym (ap (member b) z) ∙ member_body))
      go None q =
          let z = kept_none (is_child ns up k.ClassBody k.ClassBody 0 7) (count ns) (up + 1) q in
          never (sym (sym (ap (member b) z) ∙ member_body))
