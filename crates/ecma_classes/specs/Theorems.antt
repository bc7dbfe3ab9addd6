-- THE THEOREMS: in well-formed tables the findings with these codes are the breaches of ECMA-262's rules, one finding for each; where the Rust keeps a changed rule, they are
-- breaches of that, and a law says on which condition it is the standard's. `raised c fs` is the nodes that raise the findings of fs with code c.
use Rattle.std.specs.Prelude.{ℕ, ◌+◌, ◌≤◌, ◌<◌, ◌≡◌, Bool, not, ◌&&◌, ◌||◌, eqb, ltb, Some, is_some}
use Rattle.std.proofs.Math.Path.{refl, ap, sym}
use Rattle.std.proofs.Common.{subst, ◌∙◌}
use mathlib.Core.List.{List, [], ◌∷◌, ◌++◌, flat_map}
use Rattle.std.proofs.Math.Bool.{true, false, cond}
use Rattle.base_common.specs.Upto.{upto, any}
use Rattle.base_walk.specs.On.{member}
use Rattle.table_records.specs.Table.{kind_of, parent_of, count}
use Rattle.table_records.specs.Kinds as k
use Rattle.table_children.specs.Children.{keep, class_body_of}
use Rattle.table_children.proofs.ChildrenLaws.{found_child}
use Rattle.ecma_trees.specs.Rose.{tree_of}
use Rattle.ecma_trees.specs.Walk.{some, only}
use Rattle.ecma_trees.proofs.WalkLaws.{some_append}
use Rattle.check_diagnostics.specs.declared.Finding.{Finding}
use Rattle.check_diagnostics.specs.Finding.{listed, error_at}
use Rattle.check_diagnostics.specs.Codes as code
use Rattle.check_diagnostics.specs.Contexts as context
use Rattle.check_class_table.specs.Classes.{classes_of}
use Rattle.check_dispatch.specs.Findings.{findings_at, findings_of}
use Rattle.check_dispatch.specs.Former.{duplicates_in, duplicate_elements}
use Rattle.check_dispatch.proofs.FormerLaws.{same_duplicates}
use Rattle.refusal_input.specs.WellFormed.{WellFormed}
use Rattle.ecma_dispatch.specs.WithCode.{with_code}
use Rattle.ecma_dispatch.proofs.DispatchLaws.{whole_one, whole_other}
use Rattle.ecma_dispatch.specs.NodesOf.{raised}
use Rattle.ecma_dispatch.proofs.NodesOfLaws.{raised_append, raised_flat, raised_again}
use Rattle.ecma_elements.proofs.RaisingLaws.{flat_upto, flat_members, keep_upto, any_upto, any_kept, any_three}
use Rattle.table_lists.proofs.ListLaws.{Rising, kept_in}
use Rattle.ecma_elements.specs.ClassElements.{name_missing, constructor_twice, is_first_constructor, proto_twice}
use Rattle.ecma_privates.specs.PrivateNames.{private_bound, entries, allowed, private_twice, is_class_body, is_use, all_private_identifiers_valid, invalid_identifiers}
use Rattle.ecma_supers.specs.Supers.{is_super_call, is_super_property, is_bare, bars_call, bars_property, bare_error, call_error, property_error, super_error, standard_bare, standard_stray, standard_property, unit}
use Rattle.ecma_elements.specs.Changed.{built_twice, ConstructorsNamed, proto_again, KeysPlain, ProtosTwiceAtMost}
use Rattle.ecma_supers.specs.Changed.{OneConstructor, each_bare, OneInClass, table_bare, table_stray, table_property, MethodNamed, MethodsNamed, CallStands, PropertyStands, SupersStand, ConstructorOrdinary, ConstructorsOrdinary}
use Rattle.ecma_privates.specs.Changed.{private_entered, private_again, PrivatesEntered, OnceOrTwice, invalid_in_table, PrivatesPlain, is_outside, OutsideUsed, UsedOutside}
use Rattle.ecma_supers.specs.SupersByScopes.{bare_by_scopes, stray_by_scopes, property_by_scopes}
use Rattle.ecma_elements.proofs.ClassElementsLaws.{class_name_lem, second_constructor_lem, constructors_agree}
use Rattle.ecma_elements.specs.Raised.{times}
use Rattle.ecma_privates.specs.Raised.{same_node, body_around, reported}
use Rattle.ecma_supers.specs.Raised.{in_unit}
use Rattle.ecma_elements.proofs.ObjectsLaws.{proto_again_lem, proto_agrees, proto_once, proto_at, proto_once_at}
use Rattle.ecma_privates.proofs.PrivateTwiceLaws.{some_kept, flat_alike, private_again_lem, again_some, again_once, entered_all, entered_rising}
use Rattle.ecma_privates.proofs.PrivateNamesLaws.{invalid_at, invalid_list, valid_none, private_outside_lem, outside_invalid, private_undeclared_lem, invalid_same, class_above_lem, body_of_class}
use Rattle.ecma_base.specs.Telling.{Telling, ordinary}
use Rattle.ecma_base.specs.Scopes.{scopes_follow}
use Rattle.ecma_supers.proofs.ScopesFitLaws.{fit_of}
use Rattle.ecma_supers.specs.ScopesFit.{ScopesFit}
use Rattle.ecma_supers.proofs.SupersLaws.{unit_is_lem, super_bare_lem, super_call_lem, super_property_lem, bare_same, stray_same, property_rule_same, super_same}
use Rattle.ecma_supers.proofs.SupersByScopesLaws.{bare_by_scopes_lem, stray_by_scopes_lem, property_by_scopes_lem}
use Rattle.ecma_classes.specs.FirstConstructorLaws.{one_here, first_same}
use Rattle.ecma_supers.proofs.ContainsLaws.{unit_bare, unit_stray, unit_property}
use Rattle.ecma_classes.specs.WholeLaws.{some_flat, some_times, below_of, all_raised, any_unit}

-- from each node to the whole tree
module _ (t : ℕ) (ns ss source names : List ℕ) where
  whole : (c : ℕ) → member c (1 ∷ 35 ∷ []) ≡ false → (rule : ℕ → Bool) → ((j : ℕ) → j < count ns → raised c (findings_at t ns ss source names j) ≡ only (rule j) j)
      → raised c (findings_of t ns ss source names) ≡ keep rule (upto 0 (count ns))
  unfolding flat_map keep
  whole c e rule h =
      sym (raised_again c (findings_of t ns ss source names))
      ∙ ap (raised c) (whole_other t ns ss source names c e)
      ∙ raised_flat c (λ j. with_code c (findings_at t ns ss source names j)) (upto 0 (count ns))
      ∙ flat_upto (λ j. raised c (with_code c (findings_at t ns ss source names j))) (λ j. only (rule j) j) 0 (count ns) (λ j a b. raised_again c (findings_at t ns ss source names j) ∙ h j b)
      ∙ flat_only rule (upto 0 (count ns))
    where
      put : (b : Bool) (x : ℕ) (l : List ℕ) → only b x ++ l ≡ cond b (x ∷ l) l
      put true x l = refl
      put false x l = refl

      flat_only : (q : ℕ → Bool) (l : List ℕ) → flat_map (λ j. only (q j) j) l ≡ keep q l
      flat_only q [] = refl
      flat_only q (x ∷ l) = rw (flat_only q l) (put (q x) x (keep q l))

module _ (t : ℕ) (js : t ≤ 1) (ns ss source names : List ℕ) (w : WellFormed t ns ss source names) where
  abbrev nodes : List ℕ
  nodes = upto 0 (count ns)

  abbrev findings : List Finding
  findings = findings_of t ns ss source names

  -- the nodes that raise the findings with code c at a node
  abbrev at : ℕ → ℕ → List ℕ
  at c n = raised c (findings_at t ns ss source names n)

  -- 26: class declarations that lack their name (15.7)
  pub class_name_at : (n : ℕ) → n < count ns → at 26 n ≡ only (name_missing ns n) n
  class_name_at n h = class_name_lem t ns ss source names n

  pub code26 : raised 26 findings ≡ keep (name_missing ns) nodes
  code26 = whole t ns ss source names 26 refl (name_missing ns) class_name_at

  -- 27: classes with a second constructor (15.7.1); changed: with a body
  pub code27 : raised 27 findings ≡ keep (built_twice ns) nodes
  code27 = whole t ns ss source names 27 refl (built_twice ns) (λ j h. second_constructor_lem t ns ss source names j)

  pub constructors_at : (n : ℕ) → n < count ns → ConstructorsNamed ns names n → at 27 n ≡ only (constructor_twice ns names n) n
  constructors_at n h c = second_constructor_lem t ns ss source names n ∙ ap (λ (b : Bool). only b n) (constructors_agree ns names n c)

  pub code27_standard : ((n : ℕ) → n < count ns → ConstructorsNamed ns names n) → raised 27 findings ≡ keep (constructor_twice ns names) nodes
  code27_standard c = whole t ns ss source names 27 refl (constructor_twice ns names) (λ n h. constructors_at n h (c n h))

  -- 1: changed: each entry of PrivateBoundIdentifiers that clashes with an earlier one (15.7.1), raised at node 0; each `__proto__` of an object but the first (13.2.5.1)
  pub code1 : raised 1 findings ≡ flat_map (λ b. times 0 (private_again ns names (private_entered ns b))) (keep (is_class_body ns) nodes) ++ flat_map (λ n. times n (proto_again ns names n)) nodes
  unfolding duplicate_elements classes_of
  code1 =
      sym (raised_again 1 findings)
      ∙ ap (raised 1) (whole_one t ns ss source names js ∙ rw (same_duplicates t js ns names))
      ∙ raised_append 1 (duplicate_elements ns names) (flat_map (λ j. with_code 1 (findings_at t ns ss source names j)) nodes)
      ∙ rw (raised_flat 1 (duplicates_in ns names) (keep (is_class_body ns) nodes), raised_flat 1 (λ j. with_code 1 (findings_at t ns ss source names j)) nodes)
      (rw (
        flat_alike (λ b. raised 1 (duplicates_in ns names b)) (λ b. times 0 (private_again ns names (private_entered ns b))) (λ b. private_again_lem ns names b) (keep (is_class_body ns) nodes),
        flat_alike (λ j. raised 1 (with_code 1 (findings_at t ns ss source names j))) (λ n. times n (proto_again ns names n)) (λ j. raised_again 1 (findings_at t ns ss source names j) ∙ proto_again_lem ns names w.listed t ss source j) nodes,
      ))

  -- in a class there are such just where the standard's rule is broken ..
  pub code1_class : (b : ℕ) → PrivatesEntered ns b → some (private_again ns names (private_entered ns b)) ≡ private_twice ns names (private_bound ns b)
  code1_class b p = again_some ns names (private_entered ns b) (entered_rising ns b) ∙ ap (private_twice ns names) (entered_all ns b p)

  -- .. and one for each name that breaks it, its second entry, where no name has more than two
  pub code1_class_once : (b : ℕ) → PrivatesEntered ns b → OnceOrTwice ns names (private_bound ns b)
      → private_again ns names (private_entered ns b) ≡ keep (λ e. some (keep (λ d. ltb d e) (entries ns names (private_bound ns b) e)) && not (allowed ns (entries ns names (private_bound ns b) e))) (private_bound ns b)
  code1_class_once b p o =
      ap (private_again ns names) (entered_all ns b p) ∙ again_once ns names (private_bound ns b) (subst (λ (l : List ℕ). Rising l) (entered_all ns b p) (entered_rising ns b)) o

  -- in an object there are such just where the standard's rule is broken, and one, if no more than two properties are named so
  pub code1_object : (n : ℕ) → KeysPlain ns names n → some (proto_again ns names n) ≡ proto_twice ns names n
  code1_object n p = proto_agrees ns names n p

  pub code1_object_once : (n : ℕ) → KeysPlain ns names n → ProtosTwiceAtMost ns names n → times n (proto_again ns names n) ≡ only (proto_twice ns names n) n
  code1_object_once n p l = proto_once ns names n p l

  -- so of the findings at a node ..
  pub protos_at : (n : ℕ) → n < count ns → (kind_of ns n ≡ k.Object → KeysPlain ns names n) → some (at 1 n) ≡ proto_twice ns names n
  protos_at n h p = ap (λ (l : List ℕ). some l) (proto_again_lem ns names w.listed t ss source n) ∙ some_times n (proto_again ns names n) ∙ proto_at ns names n p

  pub protos_once_at : (n : ℕ) → n < count ns → (kind_of ns n ≡ k.Object → KeysPlain ns names n × ProtosTwiceAtMost ns names n) → at 1 n ≡ only (proto_twice ns names n) n
  protos_once_at n h p = proto_again_lem ns names w.listed t ss source n ∙ proto_once_at ns names n p

  -- .. and of all findings: those of the classes, and those at nodes
  pub privates_once : ((b : ℕ) → b < count ns → is_class_body ns b ≡ true → PrivatesEntered ns b × OnceOrTwice ns names (private_bound ns b))
      → raised 1 findings
      ≡ flat_map (λ b. times 0 (keep (λ e. some (keep (λ d. ltb d e) (entries ns names (private_bound ns b) e)) && not (allowed ns (entries ns names (private_bound ns b) e))) (private_bound ns b))) (keep (is_class_body ns) nodes)
      ++ flat_map (at 1) nodes
  privates_once p =
      code1
      ∙ rw (
        flat_members (λ b. times 0 (private_again ns names (private_entered ns b)))
            (λ b. times 0 (keep (λ e. some (keep (λ d. ltb d e) (entries ns names (private_bound ns b) e)) && not (allowed ns (entries ns names (private_bound ns b) e))) (private_bound ns b))) (keep (is_class_body ns) nodes)
            (λ b m. let q = kept_in (is_class_body ns) nodes b m in let r = p b (below_of (count ns) b q.0) q.1 in ap (times 0) (code1_class_once b r.0 r.1)),
        flat_alike (λ n. times n (proto_again ns names n)) (at 1) (λ n. sym (proto_again_lem ns names w.listed t ss source n)) nodes,
      )

  -- there is one just where a class or an object breaks the standard's rule
  pub redeclared : ((b : ℕ) → b < count ns → is_class_body ns b ≡ true → PrivatesEntered ns b) → ((n : ℕ) → n < count ns → kind_of ns n ≡ k.Object → KeysPlain ns names n)
      → some (raised 1 findings) ≡ (any (λ b. is_class_body ns b && private_twice ns names (private_bound ns b)) nodes || any (proto_twice ns names) nodes)
  redeclared p q =
      ap (λ (l : List ℕ). some l) code1
      ∙ some_append (flat_map (λ b. times 0 (private_again ns names (private_entered ns b))) (keep (is_class_body ns) nodes)) (flat_map (λ n. times n (proto_again ns names n)) nodes)
      ∙ rw (
        some_flat (λ b. times 0 (private_again ns names (private_entered ns b))) (keep (is_class_body ns) nodes) ∙ any_kept (is_class_body ns) (λ b. some (times 0 (private_again ns names (private_entered ns b)))) nodes
            ∙ any_upto (λ b. is_class_body ns b && some (times 0 (private_again ns names (private_entered ns b)))) (λ b. is_class_body ns b && private_twice ns names (private_bound ns b)) 0 (count ns)
            (λ b a h. class_part_lem b h (is_class_body ns b) refl),
        some_flat (λ n. times n (proto_again ns names n)) nodes
            ∙ any_upto (λ n. some (times n (proto_again ns names n))) (proto_twice ns names) 0 (count ns) (λ n a h. some_times n (proto_again ns names n) ∙ proto_at ns names n (q n h)),
      )
    where
      class_part_lem : (b : ℕ) → b < count ns → (x : Bool) → is_class_body ns b ≡ x → (x && some (times 0 (private_again ns names (private_entered ns b)))) ≡ (x && private_twice ns names (private_bound ns b))
      class_part_lem b h true e = some_times 0 (private_again ns names (private_entered ns b)) ∙ code1_class b (p b h e)
      class_part_lem b h false e = refl

  -- 7: PrivateIdentifiers in no ClassBody; the standard's: those of them at which AllPrivateIdentifiersValid (15.7.7) is false
  pub code7 : raised 7 findings ≡ keep (is_outside ns) nodes
  code7 = whole t ns ss source names 7 refl (is_outside ns) (λ j h. private_outside_lem t ns ss source names j)

  pub outside_at : (j : ℕ) → j < count ns → OutsideUsed ns j → at 7 j ≡ only (member j (invalid_identifiers ns names) && not (is_some (body_around ns j))) j
  outside_at j h u = private_outside_lem t ns ss source names j ∙ ap (λ (b : Bool). only b j) (outside_invalid ns names w.input.tree j h u)

  pub code7_standard : UsedOutside ns → raised 7 findings ≡ keep (λ j. member j (invalid_identifiers ns names) && not (is_some (body_around ns j))) nodes
  code7_standard u = whole t ns ss source names 7 refl (λ j. member j (invalid_identifiers ns names) && not (is_some (body_around ns j))) (λ j h. outside_at j h (u j h))

  -- 8: at a Class, one for each PrivateIdentifier at which AllPrivateIdentifiersValid is false and whose nearest ClassBody is the class's; changed: by what the Rust enters
  pub code8 : with_code 8 findings ≡ reported ns (invalid_in_table ns names)
  code8 =
      whole_other t ns ss source names 8 refl
      ∙ flat_upto (λ n. with_code 8 (findings_at t ns ss source names n))
      (λ n. cond (eqb (kind_of ns n) k.Class) (flat_map (λ m. listed (error_at ns code.private_field_undeclared n m context.none)) (keep (λ m. same_node (body_around ns m) (class_body_of ns n)) (invalid_in_table ns names))) []) 0 (count ns)
      (λ n a b. private_undeclared_lem ns names w.input.tree t js ss source n)

  pub code8_standard : PrivatesPlain ns → with_code 8 findings ≡ reported ns (invalid_identifiers ns names)
  code8_standard p = code8 ∙ ap (reported ns) (invalid_same ns names w.input.tree p)

  -- each at one Class: a ClassBody is that of one Class, its parent
  pub code8_once : (b : ℕ) → b < count ns → kind_of ns b ≡ k.ClassBody → (kind_of ns (parent_of ns b) ≡ k.Class) × (class_body_of ns (parent_of ns b) ≡ Some (record { 0 = b }))
  code8_once b h e = (class_above_lem ns w.input.tree w.listed w.shaped b h e, body_of_class ns w.input.tree w.listed w.shaped b h e)

  pub code8_alone : (n b : ℕ) → class_body_of ns n ≡ Some (record { 0 = b }) → n ≡ parent_of ns b
  code8_alone n b e = sym (found_child ns n k.ClassBody k.ClassBody 0 7 (n + 1) b e).parent

  -- AllPrivateIdentifiersValid is true just where it lists nothing ..
  pub valid_lists_lem : all_private_identifiers_valid ns names ≡ not (some (invalid_identifiers ns names))
  valid_lists_lem = valid_none ns names (is_use ns) (private_bound ns) (tree_of ns) []

  -- .. and just where there is no finding with code 7 or 8
  pub valid_clean : PrivatesPlain ns → UsedOutside ns → all_private_identifiers_valid ns names ≡ not (some (raised 7 findings) || some (raised 8 findings))
  valid_clean p u =
      rw (code7_standard u, ← raised_again 8 findings, code8_standard p)
      (valid_lists_lem ∙ ap not (all_raised ns w.input.tree w.listed w.shaped (invalid_identifiers ns names) inside))
    where
      inside : (x : ℕ) → member x (invalid_identifiers ns names) ≡ true → x < count ns
      inside x m =
          below_of (count ns) x
          (kept_in (invalid_at ns names (is_use ns) (private_bound ns)) nodes x (sym (ap (member x) (invalid_list ns names (is_use ns) (private_bound ns) w.input.tree)) ∙ m)).0

  -- a unit breaks an early error, by Contains (8.5.1), just where one of its Supers does
  pub units28 : (u : ℕ) → u < count ns → bare_error ns names u ≡ some (in_unit ns (standard_bare ns names) u)
  units28 u h = unit_bare ns names w.input.tree u h

  pub units29 : (told : Telling) (u : ℕ) → u < count ns → call_error told ns names u ≡ some (in_unit ns (standard_stray told ns names) u)
  units29 told u h = unit_stray ns names w.input.tree u h told

  pub units30 : (u : ℕ) → u < count ns → property_error ns u ≡ some (in_unit ns (standard_property ns) u)
  units30 u h = unit_property ns names w.input.tree u h

  -- the program is no Super
  no_call : is_super_call ns 0 ≡ false
  unfolding is_super_call
  no_call = rw w.input.tree.root

  no_property : is_super_property ns 0 ≡ false
  unfolding is_super_property
  no_property = rw w.input.tree.root

  -- some unit breaks one just where some Super does
  any28 : any (bare_error ns names) nodes ≡ any (standard_bare ns names) nodes
  any28 = any_unit ns w.input.tree (is_super_call ns) (is_bare ns (is_first_constructor ns names)) no_call

  any29 : (told : Telling) → any (call_error told ns names) nodes ≡ any (standard_stray told ns names) nodes
  any29 told = any_unit ns w.input.tree (is_super_call ns) (bars_call told ns names) no_call

  any30 : any (property_error ns) nodes ≡ any (standard_property ns) nodes
  any30 = any_unit ns w.input.tree (is_super_property ns) (bars_property ns) no_property

  -- 28, 29, 30 of all well-formed tables: changed: by the Rust's search through the scopes, whatever they are
  pub code28_scopes : raised 28 findings ≡ keep (bare_by_scopes ns ss) nodes
  code28_scopes = whole t ns ss source names 28 refl (bare_by_scopes ns ss) (λ j h. bare_by_scopes_lem t ns ss source names j)

  pub code29_scopes : raised 29 findings ≡ keep (stray_by_scopes ns ss) nodes
  code29_scopes = whole t ns ss source names 29 refl (stray_by_scopes ns ss) (λ j h. stray_by_scopes_lem t ns ss source names j)

  pub code30_scopes : raised 30 findings ≡ keep (property_by_scopes ns ss) nodes
  code30_scopes = whole t ns ss source names 30 refl (property_by_scopes ns ss) (λ j h. property_by_scopes_lem t ns ss source names j)

  -- .. and `super` where an early error forbids it, where the scopes follow the tree; changed: by what the Rust takes for a constructor and for a call
  module _ (follow : scopes_follow ns ss ≡ true) where
    fit : ScopesFit ns ss
    fit = fit_of ns ss w.input.tree follow

    at28 : (n : ℕ) → n < count ns → at 28 n ≡ only (table_bare ns n) n
    at28 n h = super_bare_lem ns ss w.input.tree w.input.chained w.input.scoped w.shaped.placed fit n h t source names

    at29 : (n : ℕ) → n < count ns → at 29 n ≡ only (table_stray ns n) n
    at29 n h = super_call_lem ns ss w.input.tree w.input.chained w.input.scoped w.shaped.placed fit n h t source names

    at30 : (n : ℕ) → n < count ns → at 30 n ≡ only (table_property ns n) n
    at30 n h = super_property_lem ns ss w.input.tree w.input.chained w.input.scoped w.shaped.placed fit n h t source names

    pub code28 : raised 28 findings ≡ keep (table_bare ns) nodes
    code28 = whole t ns ss source names 28 refl (table_bare ns) at28

    pub code29 : raised 29 findings ≡ keep (table_stray ns) nodes
    code29 = whole t ns ss source names 29 refl (table_stray ns) at29

    pub code30 : raised 30 findings ≡ keep (table_property ns) nodes
    code30 = whole t ns ss source names 30 refl (table_property ns) at30

    -- at a Super that stands so, where the table calls its unit a constructor just if it is: the standard's
    pub property_at : (n : ℕ) → n < count ns → PropertyStands ns n → at 30 n ≡ only (standard_property ns n) n
    property_at n h s = at30 n h ∙ ap (λ (b : Bool). only b n) (property_rule_same ns names w.input.tree n h s)

    pub stray_at_lem : (told : Telling) (n : ℕ) → n < count ns → CallStands ns n → MethodNamed told ns names (unit ns n) → at 29 n ≡ only (standard_stray told ns names n) n
    stray_at_lem told n h s m = at29 n h ∙ ap (λ (b : Bool). only b n) (stray_same ns names w.input.tree n h s told m)

    pub bare_at : (told : Telling) (n : ℕ) → n < count ns → CallStands ns n → MethodNamed told ns names (unit ns n) → ConstructorOrdinary told ns names (unit ns n) → OneInClass ns names (unit ns n)
        → at 28 n ≡ only (standard_bare ns names n) n
    bare_at told n h s m o once =
        at28 n h ∙ ap (λ (b : Bool). only b n) (bare_same ns names w.input.tree n h s told m o ∙ first_same ns names w.input.tree w.listed w.shaped n h once)

    below : (n : ℕ) → n < count ns → unit ns n < count ns
    below n h = (unit_is_lem ns w.input.tree n h).below

    module _ (stand : SupersStand ns) where
      pub code30_standard : raised 30 findings ≡ keep (standard_property ns) nodes
      code30_standard = whole t ns ss source names 30 refl (standard_property ns) (λ n h. property_at n h (stand n h).1)

      -- there is a finding just where some unit breaks the rule
      pub program30 : some (raised 30 findings) ≡ any (property_error ns) nodes
      program30 = ap (λ (l : List ℕ). some l) code30_standard ∙ some_kept (standard_property ns) nodes ∙ sym any30

      -- 28 and 29 of every telling of which functions are async or generators; at `ordinary`, by which the Rust goes, the condition of 28 holds
      pub all_ordinary : ConstructorsOrdinary ordinary ns names
      all_ordinary u h m e = refl

      module _ (told : Telling) (named : MethodsNamed told ns names) where
        -- 28 of each constructor, and of the first where no class has two
        pub code28_each : ConstructorsOrdinary told ns names → raised 28 findings ≡ keep (each_bare ns names) nodes
        code28_each o = code28 ∙ keep_upto (table_bare ns) (each_bare ns names) 0 (count ns) (λ j a b. bare_same ns names w.input.tree j b (stand j b).0 told (named (unit ns j) (below j b)) (o (unit ns j) (below j b)))

        pub code28_standard : ConstructorsOrdinary told ns names → OneConstructor ns names → raised 28 findings ≡ keep (standard_bare ns names) nodes
        code28_standard o once =
            whole t ns ss source names 28 refl (standard_bare ns names)
            (λ n h. bare_at told n h (stand n h).0 (named (unit ns n) (below n h)) (o (unit ns n) (below n h)) (one_here ns names w.input.tree w.listed w.shaped n h once))

        pub code29_standard : raised 29 findings ≡ keep (standard_stray told ns names) nodes
        code29_standard = whole t ns ss source names 29 refl (standard_stray told ns names) (λ n h. stray_at_lem told n h (stand n h).0 (named (unit ns n) (below n h)))

        pub program28 : ConstructorsOrdinary told ns names → OneConstructor ns names → some (raised 28 findings) ≡ any (bare_error ns names) nodes
        program28 o once = ap (λ (l : List ℕ). some l) (code28_standard o once) ∙ some_kept (standard_bare ns names) nodes ∙ sym any28

        pub program29 : some (raised 29 findings) ≡ any (call_error told ns names) nodes
        program29 = ap (λ (l : List ℕ). some l) code29_standard ∙ some_kept (standard_stray told ns names) nodes ∙ sym (any29 told)

        -- and no finding of the three just where no production's early error on `super` applies
        pub super_clean : OneConstructor ns names → any (super_error told ns names) nodes ≡ (some (raised 28 findings) || (some (raised 29 findings) || some (raised 30 findings)))
        super_clean once =
            any_three (bare_error ns names) (call_error told ns names) (property_error ns) nodes
            ∙ rw (any28, any29 told, any30)
            (sym (any_three (standard_bare ns names) (standard_stray told ns names) (standard_property ns) nodes)
            ∙ any_upto (λ j. standard_bare ns names j || (standard_stray told ns names j || standard_property ns j)) (λ j. table_bare ns j || (table_stray ns j || table_property ns j)) 0 (count ns)
            (λ j a b.
            ap (λ (x : Bool). x || (standard_stray told ns names j || standard_property ns j)) (sym (first_same ns names w.input.tree w.listed w.shaped j b (one_here ns names w.input.tree w.listed w.shaped j b once)))
            ∙ super_same ns names w.input.tree j b (stand j b).0 told (named (unit ns j) (below j b)) (stand j b).1)
            ∙ any_three (table_bare ns) (table_stray ns) (table_property ns) nodes
            ∙ sym (rw (code28, code29, code30, some_kept (table_bare ns) nodes, some_kept (table_stray ns) nodes, some_kept (table_property ns) nodes)))
