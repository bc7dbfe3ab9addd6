-- THE FINDINGS WITH CODES 28, 29 AND 30 ARE BREACHES OF THE EARLY ERRORS ON `super`.
use Rattle.std.specs.Prelude.{ℕ, zero, suc, ◌≤◌, ◌<◌, ◌≡◌, List, [], Bool, ◌&&◌, ◌||◌, ◌⊎◌, Some}
use Rattle.std.proofs.Math.Path.{refl, ap, sym}
use Rattle.std.proofs.Common.{subst, ◌∙◌, eq-or-lt_of_le, arith, ne_eqb, eqb-true}
use Rattle.std.proofs.Math.Bool.{true, false, cond, not}
use Rattle.std.proofs.Math.Logic.{inl, inr, ⊎_elim}
use Rattle.std.proofs.lemmas.Bool.{eqb-false}
use Rattle.std.proofs.Math.Dec.{eqb}
use Rattle.base_common.proofs.UptoLaws.{and_left_lem, and_right_lem}
use Rattle.base_common.specs.Tests.{within}
use Rattle.base_common.proofs.Bools.{never, in_range_lem, range_of}
use Rattle.table_records.specs.Table.{kind_of, parent_of, flags_of, extra_of, count, has_flag}
use Rattle.table_records.specs.Facts.{Tree, Chained, Scoped}
use Rattle.table_records.specs.Kinds as k
use Rattle.table_records.specs.Extras as extra
use Rattle.table_records.specs.NodeFlag as flag
use Rattle.refusal_standing.specs.Standing.{Placed}
use Rattle.ecma_trees.specs.Walk.{only}
use Rattle.ecma_trees.specs.Trail.{unit_of}
use Rattle.ecma_trees.proofs.TrailLaws.{handed_law, handed_root}
use Rattle.check_diagnostics.specs.Finding.{listed}
use Rattle.check_class_table.specs.Classes.{body_above}
use Rattle.check_supers.specs.Super.{if_call, is_method_like, object_use, method_use, function_use, reach_of, is_call, by_reach, check_super}
use Rattle.check_supers.specs.declared.Reach.{Reach}
use Rattle.check_supers.specs.declared.Reach.TheVariants.{Legal, Illegal, Underived}
use Rattle.check_dispatch.specs.Findings.{findings_at}
use Rattle.ecma_dispatch.specs.WithCode.{with_code}
use Rattle.ecma_dispatch.proofs.DispatchLaws.{at_code}
use Rattle.ecma_dispatch.specs.NodesOf.{nodes_of, raised}
use Rattle.ecma_base.specs.Telling.{Telling, async_or_generator}
use Rattle.ecma_dispatch.proofs.NodesOfLaws.{raised_again}
use Rattle.ecma_elements.specs.ClassElements.{names_constructor}
use Rattle.ecma_supers.specs.Supers.{begins, is_method, is_constructor_method, class_of, has_heritage, is_object_method, is_block_or_field, is_bare, bars_call, bars_property, is_super_call, is_super_property, standard_stray, standard_property}
use Rattle.ecma_elements.proofs.ClassElementsLaws.{range_two, names_called}
use Rattle.ecma_supers.specs.Changed.{each_bare, is_table_call, is_table_property, table_bare, table_stray, table_property, CallStands, PropertyStands, MethodNamed, ConstructorOrdinary}
use Rattle.ecma_elements.specs.Changed.{called_constructor, is_table_constructor}
use Rattle.ecma_supers.specs.ScopesFit.{ScopesFit}
use Rattle.ecma_supers.proofs.SuperSearchLaws.{is_value, value_is, in_unit, search_is, no_root, above_other, above_body}

-- a unit is the program, a function, a static block or a field
abbrev unit_kind : List ℕ → ℕ → Bool
unit_kind ns u = eqb (kind_of ns u) k.Function || (eqb (kind_of ns u) k.StaticBlock || within (kind_of ns u) k.PropertyDefinition k.AccessorProperty)

module _ (ns : List ℕ) (tree : Tree ns) where
  abbrev unit : ℕ → ℕ
  unit j = unit_of ns (begins ns) j

  begins_kind : (i j : ℕ) → begins ns i j ≡ true → (i ≡ 0) ⊎ (unit_kind ns i ≡ true)
  unfolding begins
  begins_kind i j e = go (eqb i 0) refl (eqb (kind_of ns i) k.Function) (eqb (kind_of ns i) k.StaticBlock) (within (kind_of ns i) k.PropertyDefinition k.AccessorProperty) (is_value ns i j) e
    where
      go : (z : Bool) → eqb i 0 ≡ z → (a b c d : Bool) → (z || (a || (b || (c && d)))) ≡ true → (i ≡ 0) ⊎ ((a || (b || c)) ≡ true)
      go true q a b c d x = inl (eqb-true i 0 q)
      go false q true b c d x = inr refl
      go false q false true c d x = inr refl
      go false q false false true d x = inr refl
      go false q false false false d x = never (sym x)

  pub record InUnit (u : ℕ) : Type 0 where
    pub below : u < count ns
    pub kind : (u ≡ 0) ⊎ (unit_kind ns u ≡ true)

  unit_by_lem : (f j : ℕ) → j ≤ f → j < count ns → InUnit (unit j)
  unit_by_lem zero j hf h =
      let q : 0 ≡ j = omega arith in
      subst (λ (x : ℕ). InUnit (unit x)) q (let r : unit 0 ≡ 0 = handed_root ns (λ i j r. cond (begins ns i j) i r) 0 in let s = tree.some in record { below = omega arith; kind = inl r })
  unit_by_lem (suc f) j hf h =
      ⊎_elim (λ (q : 0 ≡ j). unit_by_lem f j (omega arith) h)
      (λ (q : 0 < j).
      let l = tree.falls j q h in
      subst (λ (x : ℕ). InUnit x) (sym (handed_law ns (λ i j r. cond (begins ns i j) i r) 0 tree j q h))
      (go q (begins ns (parent_of ns j) j) refl (unit_by_lem f (parent_of ns j) (omega arith) (omega arith)))) (eq-or-lt_of_le (omega arith))
    where
      go : 0 < j → (b : Bool) → begins ns (parent_of ns j) j ≡ b → InUnit (unit (parent_of ns j)) → InUnit (cond b (parent_of ns j) (unit (parent_of ns j)))
      go q true e r = let l = tree.falls j q h in record { below = omega arith; kind = begins_kind (parent_of ns j) j e }
      go q false e r = r

  pub unit_is_lem : (j : ℕ) → j < count ns → InUnit (unit j)
  unit_is_lem j h = unit_by_lem j j (omega arith) h

-- what a unit says, in the words of the rules
abbrev expected : List ℕ → Bool → ℕ → Reach
expected ns call u =
    cond (is_constructor_method ns (is_table_constructor ns) u) (cond call (cond (has_heritage ns u) Legal (Underived (record { 0 = class_of ns u }))) Legal) (cond (bars_property ns u) Illegal (if_call call))

module _ (ns ss : List ℕ) (tree : Tree ns) (chained : Chained ss) (scoped : Scoped ns ss) (placed : Placed ns) (fit : ScopesFit ns ss) (n : ℕ) (call : Bool) where
  at_program : in_unit ns ss tree chained scoped placed fit n call 0 ≡ expected ns call 0
  unfolding is_constructor_method is_method is_object_method bars_property
  at_program = rw tree.root

  module _ (u : ℕ) (z : 0 < u) (h : u < count ns) where
    at_other : eqb (kind_of ns u) k.Function ≡ false → in_unit ns ss tree chained scoped placed fit n call u ≡ expected ns call u
    unfolding is_constructor_method is_method is_object_method bars_property
    at_other e = rw (ne_eqb u 0 (λ q. omega arith), e)

    abbrev p : ℕ
    p = parent_of ns u

    of_object : kind_of ns u ≡ k.Function → kind_of ns p ≡ k.ObjectProperty → function_use ns n call (body_above ns u) u ≡ expected ns call u
    unfolding function_use is_constructor_method is_method is_object_method bars_property object_use
    of_object e q = rw (ne_eqb u 0 (λ q. omega arith), q, value_is ns p u, e) (go (is_method_like ns p) (is_value ns p u))
      where
        go : (m v : Bool) → cond m (cond v (if_call call) Illegal) Illegal ≡ cond (not (m && v)) Illegal (if_call call)
        go true true = refl
        go true false = refl
        go false v = refl

    of_class : kind_of ns u ≡ k.Function → kind_of ns p ≡ k.MethodDefinition → function_use ns n call (body_above ns u) u ≡ expected ns call u
    unfolding function_use is_constructor_method is_method is_object_method bars_property method_use has_heritage
    of_class e q =
        let l = tree.falls u z h in
        let r : 0 < p = no_root ns ss tree chained scoped placed fit n call p (λ x. omega arith) in
        let b : kind_of ns (parent_of ns p) ≡ k.ClassBody = placed.element p (omega arith) (omega arith) (omega arith) in
        let c : body_above ns u ≡ Some (record { 0 = parent_of ns p }) =
        above_other ns ss tree chained scoped placed fit n call u z h (λ x. omega arith) ∙ above_body ns ss tree chained scoped placed fit n call p r (omega arith) b in
        rw (ne_eqb u 0 (λ q. omega arith), c, q, value_is ns p u, e) (go (is_value ns p u) (eqb (extra_of ns p) extra.Constructor) call (has_flag (flags_of ns (class_of ns u)) flag.Heritage))
      where
        go : (v x c h : Bool)
            → cond v (cond c (cond x (cond h Legal (Underived (record { 0 = class_of ns u }))) Illegal) Legal) Illegal
            ≡ cond (v && x) (cond c (cond h Legal (Underived (record { 0 = class_of ns u }))) Legal) (cond (not (v || false)) Illegal (if_call c))
        go true true c h = refl
        go true false true h = refl
        go true false false h = refl
        go false x c h = refl

    of_none : kind_of ns u ≡ k.Function → eqb (kind_of ns p) k.ObjectProperty ≡ false → eqb (kind_of ns p) k.MethodDefinition ≡ false → function_use ns n call (body_above ns u) u ≡ expected ns call u
    unfolding function_use is_constructor_method is_method is_object_method bars_property
    of_none e q r = rw (ne_eqb u 0 (λ q. omega arith), q, r, e)

    at_function : kind_of ns u ≡ k.Function → in_unit ns ss tree chained scoped placed fit n call u ≡ expected ns call u
    at_function e = rw (ne_eqb u 0 (λ q. omega arith), e) (go (eqb (kind_of ns p) k.ObjectProperty) refl (eqb (kind_of ns p) k.MethodDefinition) refl)
      where
        go : (o : Bool) → eqb (kind_of ns p) k.ObjectProperty ≡ o → (m : Bool) → eqb (kind_of ns p) k.MethodDefinition ≡ m → function_use ns n call (body_above ns u) u ≡ expected ns call u
        go true q m r = of_object e (eqb-true (kind_of ns p) k.ObjectProperty q)
        go false q true r = of_class e (eqb-true (kind_of ns p) k.MethodDefinition r)
        go false q false r = of_none e q r

    at_later : in_unit ns ss tree chained scoped placed fit n call u ≡ expected ns call u
    at_later = go (eqb (kind_of ns u) k.Function) refl
      where
        go : (b : Bool) → eqb (kind_of ns u) k.Function ≡ b → in_unit ns ss tree chained scoped placed fit n call u ≡ expected ns call u
        go true q = at_function (eqb-true (kind_of ns u) k.Function q)
        go false q = at_other q

  at_unit : (u : ℕ) → u < count ns → in_unit ns ss tree chained scoped placed fit n call u ≡ expected ns call u
  at_unit u h =
      ⊎_elim (λ (q : 0 ≡ u). subst (λ (x : ℕ). in_unit ns ss tree chained scoped placed fit n call x ≡ expected ns call x) q at_program) (λ (q : 0 < u). at_later u q h) (eq-or-lt_of_le (omega arith))

-- a method bars no SuperProperty
method_function : (ns : List ℕ) (u : ℕ) → is_method ns u ≡ true → kind_of ns u ≡ k.Function
unfolding is_method
method_function ns u e = eqb-true (kind_of ns u) k.Function (and_left_lem (eqb (kind_of ns u) k.Function) (eqb (kind_of ns (parent_of ns u)) k.MethodDefinition && is_value ns (parent_of ns u) u) e)

method_takes : (ns : List ℕ) → Tree ns → (u : ℕ) → is_method ns u ≡ true → bars_property ns u ≡ false
unfolding bars_property
method_takes ns tree u e = rw (ne_eqb u 0 (λ q. let r : kind_of ns 0 ≡ k.Function = subst (λ (x : ℕ). kind_of ns x ≡ k.Function) q (method_function ns u e) in let s = tree.root in omega arith), method_function ns u e, e)

-- the findings of what is expected
module _ (ns : List ℕ) (tree : Tree ns) (n u : ℕ) where
  raised28 : raised 28 (listed (by_reach ns n (expected ns (is_call ns n) u))) ≡ only (is_call ns n && (is_constructor_method ns (is_table_constructor ns) u && not (has_heritage ns u))) n
  unfolding nodes_of with_code
  raised28 = go (is_call ns n) refl (is_constructor_method ns (is_table_constructor ns) u) (has_heritage ns u) (bars_property ns u)
    where
      go : (c : Bool) → is_call ns n ≡ c → (m h t : Bool)
          → raised 28 (listed (by_reach ns n (cond m (cond c (cond h Legal (Underived (record { 0 = class_of ns u }))) Legal) (cond t Illegal (if_call c))))) ≡ only (c && (m && not h)) n
      go true e true true t = refl
      go true e true false t = refl
      go true e false h true = rw e
      go true e false h false = rw e
      go false e true h t = refl
      go false e false h true = rw e
      go false e false h false = refl

  raised29 : raised 29 (listed (by_reach ns n (expected ns (is_call ns n) u))) ≡ only (is_call ns n && not (is_constructor_method ns (is_table_constructor ns) u)) n
  unfolding nodes_of with_code
  raised29 = go (is_call ns n) refl (is_constructor_method ns (is_table_constructor ns) u) (has_heritage ns u) (bars_property ns u)
    where
      go : (c : Bool) → is_call ns n ≡ c → (m h t : Bool)
          → raised 29 (listed (by_reach ns n (cond m (cond c (cond h Legal (Underived (record { 0 = class_of ns u }))) Legal) (cond t Illegal (if_call c))))) ≡ only (c && not m) n
      go true e true true t = refl
      go true e true false t = refl
      go true e false h true = rw e
      go true e false h false = rw e
      go false e true h t = refl
      go false e false h true = rw e
      go false e false h false = refl

  constructor_method_lem : is_constructor_method ns (is_table_constructor ns) u ≡ true → is_method ns u ≡ true
  unfolding is_constructor_method
  constructor_method_lem e = and_left_lem (is_method ns u) (is_table_constructor ns (parent_of ns u)) e

  raised30 : raised 30 (listed (by_reach ns n (expected ns (is_call ns n) u))) ≡ only (not (is_call ns n) && bars_property ns u) n
  unfolding nodes_of with_code
  raised30 = go (is_call ns n) refl (is_constructor_method ns (is_table_constructor ns) u) refl (has_heritage ns u) (bars_property ns u) refl
    where
      go : (c : Bool) → is_call ns n ≡ c → (m : Bool) → is_constructor_method ns (is_table_constructor ns) u ≡ m → (h t : Bool) → bars_property ns u ≡ t
          → raised 30 (listed (by_reach ns n (cond m (cond c (cond h Legal (Underived (record { 0 = class_of ns u }))) Legal) (cond t Illegal (if_call c))))) ≡ only (not c && t) n
      go true e true q true t r = refl
      go true e true q false t r = refl
      go true e false q h true r = rw e
      go true e false q h false r = rw e
      go false e true q h true r = never (sym r ∙ method_takes ns tree u (constructor_method_lem q))
      go false e true q h false r = refl
      go false e false q h true r = rw e
      go false e false q h false r = refl

-- THE THEOREMS: one finding at each Super that breaks a rule, none at any other node
module _ (ns ss : List ℕ) (tree : Tree ns) (chained : Chained ss) (scoped : Scoped ns ss) (placed : Placed ns) (fit : ScopesFit ns ss) (n : ℕ) (h : n < count ns) where
  checked : kind_of ns n ≡ k.Super → check_super ns ss n ≡ by_reach ns n (expected ns (is_call ns n) (unit_of ns (begins ns) n))
  unfolding check_super reach_of
  checked e =
      ap (by_reach ns n)
      (search_is ns ss tree chained scoped placed fit n (is_call ns n) h e
      ∙ at_unit ns ss tree chained scoped placed fit n (is_call ns n) (unit_of ns (begins ns) n) (unit_is_lem ns tree n h).below)

  module _ (t : ℕ) (source names : List ℕ) where
    pub super_bare_lem : raised 28 (findings_at t ns ss source names n) ≡ only (table_bare ns n) n
    unfolding is_bare is_table_call nodes_of with_code
    super_bare_lem = sym (raised_again 28 (findings_at t ns ss source names n)) ∙ rw (at_code 28 t ns ss source names n) (go (eqb (kind_of ns n) k.Super) refl)
      where
        go : (b : Bool) → eqb (kind_of ns n) k.Super ≡ b
            → raised 28 (cond b (with_code 28 (listed (check_super ns ss n))) []) ≡ only ((b && is_call ns n) && (is_constructor_method ns (is_table_constructor ns) (unit_of ns (begins ns) n) && not (has_heritage ns (unit_of ns (begins ns) n)))) n
        go true e = raised_again 28 (listed (check_super ns ss n)) ∙ rw (checked (eqb-true (kind_of ns n) k.Super e)) (raised28 ns tree n (unit_of ns (begins ns) n))
        go false e = refl

    pub super_call_lem : raised 29 (findings_at t ns ss source names n) ≡ only (table_stray ns n) n
    unfolding is_table_call nodes_of with_code
    super_call_lem = sym (raised_again 29 (findings_at t ns ss source names n)) ∙ rw (at_code 29 t ns ss source names n) (go (eqb (kind_of ns n) k.Super) refl)
      where
        go : (b : Bool) → eqb (kind_of ns n) k.Super ≡ b
            → raised 29 (cond b (with_code 29 (listed (check_super ns ss n))) []) ≡ only ((b && is_call ns n) && not (is_constructor_method ns (is_table_constructor ns) (unit_of ns (begins ns) n))) n
        go true e = raised_again 29 (listed (check_super ns ss n)) ∙ rw (checked (eqb-true (kind_of ns n) k.Super e)) (raised29 ns tree n (unit_of ns (begins ns) n))
        go false e = refl

    pub super_property_lem : raised 30 (findings_at t ns ss source names n) ≡ only (table_property ns n) n
    unfolding is_table_property nodes_of with_code
    super_property_lem = sym (raised_again 30 (findings_at t ns ss source names n)) ∙ rw (at_code 30 t ns ss source names n) (go (eqb (kind_of ns n) k.Super) refl)
      where
        go : (b : Bool) → eqb (kind_of ns n) k.Super ≡ b
            → raised 30 (cond b (with_code 30 (listed (check_super ns ss n))) []) ≡ only ((b && not (is_call ns n)) && bars_property ns (unit_of ns (begins ns) n)) n
        go true e = raised_again 30 (listed (check_super ns ss n)) ∙ rw (checked (eqb-true (kind_of ns n) k.Super e)) (raised30 ns tree n (unit_of ns (begins ns) n))
        go false e = refl

pub method_kind : (ns : List ℕ) (u : ℕ) → is_method ns u ≡ true → kind_of ns (parent_of ns u) ≡ k.MethodDefinition
unfolding is_method
method_kind ns u e =
    eqb-true (kind_of ns (parent_of ns u)) k.MethodDefinition
    (and_left_lem (eqb (kind_of ns (parent_of ns u)) k.MethodDefinition) (is_value ns (parent_of ns u) u) (and_right_lem (eqb (kind_of ns u) k.Function) (eqb (kind_of ns (parent_of ns u)) k.MethodDefinition && is_value ns (parent_of ns u) u) e))

-- where a Super stands in a SuperCall or a SuperProperty and the table calls constructor what is, the rules are the standard's; of 28, asked of each constructor
module _ (ns names : List ℕ) (tree : Tree ns) (n : ℕ) (h : n < count ns) where
  call_same : CallStands ns n → is_table_call ns n ≡ is_super_call ns n
  unfolding is_table_call is_super_call
  call_same stand = go (eqb (kind_of ns n) k.Super) refl
    where
      or_none : (b : Bool) → (b || false) ≡ b
      or_none true = refl
      or_none false = refl

      go : (b : Bool) → eqb (kind_of ns n) k.Super ≡ b → (b && within (kind_of ns (parent_of ns n)) k.Call k.New) ≡ (b && eqb (kind_of ns (parent_of ns n)) k.Call)
      go true e =
          range_two (kind_of ns (parent_of ns n)) 38
          ∙ ap (λ (b : Bool). eqb (kind_of ns (parent_of ns n)) 38 || b) (ne_eqb (kind_of ns (parent_of ns n)) 39 (stand (eqb-true (kind_of ns n) k.Super e)))
          ∙ or_none (eqb (kind_of ns (parent_of ns n)) 38)
      go false e = refl

  property_same : PropertyStands ns n → is_table_property ns n ≡ is_super_property ns n
  unfolding is_table_property is_super_property
  property_same stand = go (eqb (kind_of ns n) k.Super) refl
    where
      member : (a : ℕ) → within a 38 40 ≡ true → (b : Bool) → eqb a 40 ≡ b → not (within a 38 39) ≡ b
      member a w true e = rw (eqb-true a 40 e)
      member a w false e =
          let r = range_of a 38 40 w in
          let r0 = r.0 in
          let r1 = r.1 in
          ⊎_elim (λ (q : a ≡ 40). absurd (eqb-false a 40 e q)) (λ (q : a < 40). rw (in_range_lem a 38 39 r0 (omega arith))) (eq-or-lt_of_le r1)

      go : (b : Bool) → eqb (kind_of ns n) k.Super ≡ b → (b && not (within (kind_of ns (parent_of ns n)) k.Call k.New)) ≡ (b && eqb (kind_of ns (parent_of ns n)) k.OtherMember)
      go true e = member (kind_of ns (parent_of ns n)) (stand (eqb-true (kind_of ns n) k.Super e)) (eqb (kind_of ns (parent_of ns n)) k.OtherMember) refl
      go false e = refl

  abbrev u : ℕ
  u = unit_of ns (begins ns) n

  below : u < count ns
  below = (unit_is_lem ns tree n h).below

  -- no two of the productions
  not_program_lem : u ≡ 0 → is_method ns u ≡ false
  unfolding is_method
  not_program_lem e = rw (e, tree.root)

  not_function : is_block_or_field ns u ≡ true → is_method ns u ≡ false
  unfolding is_method
  not_function e = rw (ne_eqb (kind_of ns u) k.Function (λ q. never (sym e ∙ rw q)))

  not_object : is_object_method ns u ≡ true → is_method ns u ≡ false
  unfolding is_method is_object_method
  not_object e =
      rw (eqb-true (kind_of ns (parent_of ns u)) k.ObjectProperty (and_left_lem (eqb (kind_of ns (parent_of ns u)) k.ObjectProperty) _ (and_right_lem (eqb (kind_of ns u) k.Function) _ e)))
      (off (eqb (kind_of ns u) k.Function))
    where
      off : (b : Bool) → (b && false) ≡ false
      off true = refl
      off false = refl

  pub property_rule_same : PropertyStands ns n → table_property ns n ≡ standard_property ns n
  property_rule_same stand = rw (property_same stand)

  module _ (stand : CallStands ns n) (told : Telling) (w : MethodNamed told ns names u) where
    called : is_method ns u ≡ true → names_constructor ns names (parent_of ns u) ≡ called_constructor ns names (parent_of ns u)
    called e = names_called ns names (parent_of ns u) (rw (method_kind ns u e))

    named : is_method ns u ≡ true → is_table_constructor ns (parent_of ns u) ≡ (names_constructor ns names (parent_of ns u) && not (async_or_generator told u))
    named e = rw (called e) (w e)

    -- a unit bars SuperCall unless it is a constructor
    bars_call_lem : bars_call told ns names u ≡ not (is_constructor_method ns (is_table_constructor ns) u)
    unfolding bars_call is_constructor_method
    bars_call_lem =
        ⊎_elim (λ (q : u ≡ 0). rw (not_program_lem q, q))
        (λ (q : unit_kind ns u ≡ true). go (eqb u 0) refl (eqb (kind_of ns u) k.Function) (is_block_or_field ns u) refl q (is_object_method ns u) refl (is_method ns u) refl) (unit_is_lem ns tree n h).kind
      where
        by : (t b s : Bool) → t ≡ (b && not s) → (not b || (s || false)) ≡ not t
        by t true true e = rw e
        by t true false e = rw e
        by t false s e = rw e

        go : (z : Bool) → eqb u 0 ≡ z → (f b : Bool) → is_block_or_field ns u ≡ b → (f || b) ≡ true → (o : Bool) → is_object_method ns u ≡ o → (m : Bool) → is_method ns u ≡ m
            → (z || (b || (o || ((m && not (names_constructor ns names (parent_of ns u))) || (((m || o) && async_or_generator told u) || (f && not (m || o))))))) ≡ not (m && is_table_constructor ns (parent_of ns u))
        go true x f b q r o s true t = never (sym t ∙ not_program_lem (eqb-true u 0 x))
        go true x f b q r o s false t = refl
        go false x f true q r o s true t = never (sym t ∙ not_function q)
        go false x f true q r o s false t = refl
        go false x true false q r true s true t = never (sym t ∙ not_object s)
        go false x true false q r true s false t = refl
        go false x true false q r false s true t = by (is_table_constructor ns (parent_of ns u)) (names_constructor ns names (parent_of ns u)) (async_or_generator told u) (named t)
        go false x true false q r false s false t = refl
        go false x false false q r o s m t = never (sym r)

    pub stray_same : table_stray ns n ≡ standard_stray told ns names n
    stray_same = rw (call_same stand, bars_call_lem)

    constructor_same : ConstructorOrdinary told ns names u → is_constructor_method ns (is_table_constructor ns) u ≡ is_constructor_method ns (names_constructor ns names) u
    unfolding is_constructor_method
    constructor_same o = go (is_method ns u) refl
      where
        by : is_method ns u ≡ true → (b : Bool) → names_constructor ns names (parent_of ns u) ≡ b → (b && not (async_or_generator told u)) ≡ b
        by e true q = rw (o e (sym (called e) ∙ q))
        by e false q = refl

        go : (b : Bool) → is_method ns u ≡ b → (b && is_table_constructor ns (parent_of ns u)) ≡ (b && names_constructor ns names (parent_of ns u))
        go true e = named e ∙ by e (names_constructor ns names (parent_of ns u)) refl
        go false e = refl

    pub bare_same : ConstructorOrdinary told ns names u → table_bare ns n ≡ each_bare ns names n
    unfolding is_bare
    bare_same o = rw (call_same stand, constructor_same o)

    -- without that condition one of the three rules is broken where one of the standard's is: what is a constructor by its name alone breaks that of 29
    named_too : is_constructor_method ns (is_table_constructor ns) u ≡ true → is_constructor_method ns (names_constructor ns names) u ≡ true
    unfolding is_constructor_method
    named_too e =
        let m = and_left_lem (is_method ns u) (is_table_constructor ns (parent_of ns u)) e in
        rw m (and_left_lem (names_constructor ns names (parent_of ns u)) (not (async_or_generator told u)) (sym (named m) ∙ and_right_lem (is_method ns u) (is_table_constructor ns (parent_of ns u)) e))

    pub super_same : PropertyStands ns n → (each_bare ns names n || (standard_stray told ns names n || standard_property ns n)) ≡ (table_bare ns n || (table_stray ns n || table_property ns n))
    unfolding is_bare
    super_same property = rw (call_same stand, bars_call_lem, property_same property) (go (is_super_call ns n) (is_constructor_method ns (is_table_constructor ns) u) refl)
      where
        first : (a x : Bool) → (a || (true || x)) ≡ true
        first true x = refl
        first false x = refl

        go : (c b : Bool) → is_constructor_method ns (is_table_constructor ns) u ≡ b
            → ((c && (is_constructor_method ns (names_constructor ns names) u && not (has_heritage ns u))) || ((c && not b) || standard_property ns n))
            ≡ ((c && (b && not (has_heritage ns u))) || ((c && not b) || standard_property ns n))
        go true true e = rw (named_too e)
        go true false e = first (is_constructor_method ns (names_constructor ns names) u && not (has_heritage ns u)) (standard_property ns n)
        go false b e = refl
