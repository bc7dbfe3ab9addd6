-- From nodes to the program: a rule of the standard, which is a test of the tree, holds just where no finding is raised.
use Rattle.table_records.specs.declared.NodeId.{NodeId}
use Rattle.std.specs.Prelude.{ℕ, zero, suc, ◌+◌, ◌-◌, ◌≤◌, ◌<◌, ◌≡◌, Bool, cond, not, ◌&&◌, ◌||◌, eqb, Option, Some, None, is_some}
use Rattle.std.proofs.Math.Path.{refl, ap}
use Rattle.std.proofs.Common.{sym, subst, ◌∙◌, ⊎_elim, eq-or-lt_of_le, arith, eq-eqb, eqb-true}
use mathlib.Core.List.{List, [], ◌∷◌, flat_map}
use Rattle.std.proofs.Math.Bool.{true, false}
use Rattle.base_common.specs.Upto.{range, upto, any}
use Rattle.base_common.proofs.UptoLaws.{and_left_lem, and_right_lem}
use Rattle.base_common.proofs.Bools.{never}
use Rattle.base_walk.specs.On.{member}
use Rattle.table_records.specs.Table.{kind_of, parent_of, count}
use Rattle.table_records.specs.Facts.{Tree}
use Rattle.table_records.specs.Kinds as k
use Rattle.table_children.specs.Children.{keep, class_body_of}
use Rattle.check_class_table.proofs.ClassesLaws.{within_one, over}
use Rattle.refusal_fields.specs.Fields.{Listed}
use Rattle.refusal_input.specs.WellFormed.{Shaped}
use Rattle.ecma_trees.specs.Walk.{some, only}
use Rattle.ecma_trees.proofs.WalkLaws.{some_append, some_each, some_only}
use Rattle.ecma_trees.specs.Trail.{unit_of}
use Rattle.ecma_trees.proofs.TrailLaws.{handed_law, handed_root}
use Rattle.check_diagnostics.specs.declared.Finding.{Finding}
use Rattle.check_diagnostics.specs.Finding.{listed, error_at}
use Rattle.check_diagnostics.specs.Codes as code
use Rattle.check_diagnostics.specs.Contexts as context
use Rattle.ecma_dispatch.specs.WithCode.{with_code}
use Rattle.ecma_dispatch.specs.NodesOf.{nodes_of, raised}
use Rattle.ecma_dispatch.proofs.NodesOfLaws.{raised_flat}
use Rattle.ecma_elements.proofs.RaisingLaws.{any_upto}
use Rattle.table_lists.proofs.ListLaws.{any_hit_lem, any_find_lem, kept_in, in_kept, member_here, in_upto}
use Rattle.ecma_supers.specs.Supers.{begins, unit_contains}
use Rattle.ecma_elements.specs.Raised.{times}
use Rattle.ecma_privates.specs.Raised.{same_node, body_around}
use Rattle.ecma_supers.specs.Raised.{in_unit}
use Rattle.ecma_privates.proofs.PrivateTwiceLaws.{some_kept, both_ways}
use Rattle.ecma_privates.proofs.PrivateNamesLaws.{around_is, class_above_lem, body_of_class}
use Rattle.ecma_supers.proofs.ContainsLaws.{unit_rule}

pub some_flat : {A : Type 0} (f : ℕ → List A) (l : List ℕ) → some (flat_map f l) ≡ any (λ x. some (f x)) l
unfolding flat_map
some_flat f [] = refl
some_flat f (x ∷ l) = some_append (f x) (flat_map f l) ∙ rw (some_flat f l)

pub some_times : (n : ℕ) (l : List ℕ) → some (times n l) ≡ some l
some_times n [] = refl
some_times n (x ∷ l) = refl

some_in : (l : List ℕ) → some l ≡ true → (x : ℕ) × (member x l ≡ true)
some_in [] e = never (sym e)
some_in (x ∷ l) e = (x, member_here x l)

in_some : (l : List ℕ) (x : ℕ) → member x l ≡ true → some l ≡ true
in_some [] x m = never (sym m)
in_some (y ∷ l) x m = refl

pub below_of : (n x : ℕ) → member x (upto 0 n) ≡ true → x < n
unfolding upto range
below_of n x m = omega (arith, go 0 (n - 0) m)
  where
    go : (i f : ℕ) → member x (range i f) ≡ true → x < i + f
    go i zero m = never (sym m)
    go i (suc f) m = by (eqb x i) refl m (λ z. go (suc i) f z)
      where
        by : (b : Bool) → eqb x i ≡ b → (b || member x (range (suc i) f)) ≡ true → (member x (range (suc i) f) ≡ true → x < suc i + f) → x < i + suc f
        by true q z r = omega (arith, eqb-true x i q)
        by false q z r = omega (arith, r z)

-- private names: l is the PrivateIdentifiers that are not valid
module _ (ns : List ℕ) (tree : Tree ns) (listed' : Listed ns) (shaped : Shaped ns) (l : List ℕ) (inside : (x : ℕ) → member x l ≡ true → x < count ns) where
  abbrev nodes : List ℕ
  nodes = upto 0 (count ns)

  abbrev mine : ℕ → List ℕ
  mine n = keep (λ m. same_node (body_around ns m) (class_body_of ns n)) l

  abbrev error8 : ℕ → ℕ → List Finding
  error8 n m = listed (error_at ns code.private_field_undeclared n m context.none)

  raised8 : (n : ℕ) (x : List ℕ) → raised 8 (flat_map (error8 n) x) ≡ times n x
  unfolding flat_map nodes_of with_code
  raised8 n [] = refl
  raised8 n (m ∷ x) = rw (raised8 n x)

  class_raises : (n : ℕ) → some (raised 8 (cond (eqb (kind_of ns n) k.Class) (flat_map (error8 n) (mine n)) [])) ≡ (eqb (kind_of ns n) k.Class && some (mine n))
  unfolding nodes_of with_code
  class_raises n = go (eqb (kind_of ns n) k.Class)
    where
      go : (b : Bool) → some (raised 8 (cond b (flat_map (error8 n) (mine n)) [])) ≡ (b && some (mine n))
      go true = ap (λ (x : List ℕ). some x) (raised8 n (mine n)) ∙ some_times n (mine n)
      go false = refl

  abbrev outside : ℕ → Bool
  outside j = member j l && not (is_some (body_around ns j))

  abbrev reported : List Finding
  reported = flat_map (λ n. cond (eqb (kind_of ns n) k.Class) (flat_map (error8 n) (mine n)) []) nodes

  reported_some : some (raised 8 reported) ≡ any (λ n. eqb (kind_of ns n) k.Class && some (mine n)) nodes
  reported_some =
      ap (λ (x : List ℕ). some x) (raised_flat 8 (λ n. cond (eqb (kind_of ns n) k.Class) (flat_map (error8 n) (mine n)) []) nodes)
      ∙ some_flat (λ n. raised 8 (cond (eqb (kind_of ns n) k.Class) (flat_map (error8 n) (mine n)) [])) nodes
      ∙ any_same nodes
    where
      any_same : (x : List ℕ) → any (λ n. some (raised 8 (cond (eqb (kind_of ns n) k.Class) (flat_map (error8 n) (mine n)) []))) x ≡ any (λ n. eqb (kind_of ns n) k.Class && some (mine n)) x
      any_same [] = refl
      any_same (n ∷ x) = rw (class_raises n, any_same x)

  same_self : (f : Option NodeId) → is_some f ≡ true → same_node f f ≡ true
  same_self (Some b) e = eq-eqb b.0 b.0 refl
  same_self None e = never (sym e)

  -- one that is in a ClassBody is reported at its class
  in_class_lem : (m b : ℕ) → member m l ≡ true → body_around ns m ≡ Some (record { 0 = b }) → any (λ n. eqb (kind_of ns n) k.Class && some (mine n)) nodes ≡ true
  in_class_lem m b i e =
      let h = inside m i in
      let o = over ns tree k.ClassBody k.ClassBody m b h (around_is ns m ∙ e) in
      let s = o.less in
      let q : kind_of ns b ≡ k.ClassBody = eqb-true (kind_of ns b) k.ClassBody (sym (within_one (kind_of ns b) k.ClassBody) ∙ o.kind) in
      let c = class_above_lem ns tree listed' shaped b (omega arith) q in
      let d = body_of_class ns tree listed' shaped b (omega arith) q in
      let z : 0 < b = ⊎_elim (λ (x : 0 ≡ b). absurd (let y : kind_of ns 0 ≡ k.ClassBody = subst (λ (i : ℕ). kind_of ns i ≡ k.ClassBody) (sym x) q in let r = tree.root in omega arith)) (λ (x : 0 < b). x) (eq-or-lt_of_le (omega arith)) in
      let f = tree.falls b z (omega arith) in
      any_hit_lem (λ n. eqb (kind_of ns n) k.Class && some (mine n)) nodes (parent_of ns b) (in_upto (count ns) (parent_of ns b) (omega arith))
      (rw (eq-eqb (kind_of ns (parent_of ns b)) k.Class c)
      (in_some (mine (parent_of ns b)) m
      (in_kept (λ x. same_node (body_around ns x) (class_body_of ns (parent_of ns b))) l m i (rw (e, d) (eq-eqb b b refl)))))

  pub all_raised : some l ≡ (some (keep outside nodes) || some (raised 8 reported))
  all_raised = rw (some_kept outside nodes, reported_some) (both_ways (some l) (any outside nodes || any (λ n. eqb (kind_of ns n) k.Class && some (mine n)) nodes) to from)
    where
      second : (a b : Bool) → b ≡ true → (a || b) ≡ true
      second true b e = refl
      second false b e = e

      first : (a b : Bool) → a ≡ true → (a || b) ≡ true
      first true b e = refl
      first false b e = never (sym e)

      by : (m : ℕ) → member m l ≡ true → (f : Option NodeId) → body_around ns m ≡ f → (any outside nodes || any (λ n. eqb (kind_of ns n) k.Class && some (mine n)) nodes) ≡ true
      by m i (Some b) e = second (any outside nodes) _ (in_class_lem m b.0 i e)
      by m i None e = first (any outside nodes) _ (any_hit_lem outside nodes m (in_upto (count ns) m (inside m i)) (rw (i, e)))

      to : some l ≡ true → (any outside nodes || any (λ n. eqb (kind_of ns n) k.Class && some (mine n)) nodes) ≡ true
      to e = let x = some_in l e in by x.0 x.1 (body_around ns x.0) refl

      left : any outside nodes ≡ true → some l ≡ true
      left e = let x = any_find_lem outside nodes e in in_some l x.at (and_left_lem (member x.at l) (not (is_some (body_around ns x.at))) x.does)

      right : any (λ n. eqb (kind_of ns n) k.Class && some (mine n)) nodes ≡ true → some l ≡ true
      right e =
          let x = any_find_lem (λ n. eqb (kind_of ns n) k.Class && some (mine n)) nodes e in
          let y = some_in (mine x.at) (and_right_lem (eqb (kind_of ns x.at) k.Class) (some (mine x.at)) x.does) in
          in_some l y.0 (kept_in (λ m. same_node (body_around ns m) (class_body_of ns x.at)) l y.0 y.1).0

      from : (any outside nodes || any (λ n. eqb (kind_of ns n) k.Class && some (mine n)) nodes) ≡ true → some l ≡ true
      from e = go (any outside nodes) refl e
        where
          go : (b : Bool) → any outside nodes ≡ b → (b || any (λ n. eqb (kind_of ns n) k.Class && some (mine n)) nodes) ≡ true → some l ≡ true
          go true q z = left q
          go false q z = right z

-- units: a node but the program is behind its unit
module _ (ns : List ℕ) (tree : Tree ns) where
  unit_by_lem : (f j : ℕ) → j ≤ f → 0 < j → j < count ns → unit_of ns (begins ns) j < j
  unit_by_lem zero j hf z h = absurd (omega arith)
  unit_by_lem (suc f) j hf z h =
      let l = tree.falls j z h in
      subst (λ (x : ℕ). x < j) (sym (handed_law ns (λ i j r. cond (begins ns i j) i r) 0 tree j z h))
      (go (begins ns (parent_of ns j) j) (⊎_elim (λ (q : 0 ≡ parent_of ns j). let r : unit_of ns (begins ns) (parent_of ns j) ≡ 0 = ap (unit_of ns (begins ns)) (sym q) ∙ handed_root ns (λ i j r. cond (begins ns i j) i r) 0 in omega arith)
      (λ (q : 0 < parent_of ns j). let r = unit_by_lem f (parent_of ns j) (omega arith) q (omega arith) in omega arith) (eq-or-lt_of_le (omega arith))))
    where
      go : (b : Bool) → unit_of ns (begins ns) (parent_of ns j) < j → cond b (parent_of ns j) (unit_of ns (begins ns) (parent_of ns j)) < j
      go true r = tree.falls j z h
      go false r = r

  -- some unit has a node that breaks a rule just where some node breaks it, if the program doesn't
  units_all : (rule : ℕ → Bool) → rule 0 ≡ false → any (λ u. some (in_unit ns rule u)) (upto 0 (count ns)) ≡ any rule (upto 0 (count ns))
  units_all rule e = both_ways _ _ to from
    where
      positive : (j : ℕ) → rule j ≡ true → 0 < j
      positive j r = ⊎_elim (λ (q : 0 ≡ j). never (sym (subst (λ (x : ℕ). rule x ≡ true) (sym q) r) ∙ e)) (λ (q : 0 < j). q) (eq-or-lt_of_le (omega arith))

      inner : (b c : Bool) (j : ℕ) → some (cond b (only c j) []) ≡ true → c ≡ true
      inner true c j q = sym (some_only c j) ∙ q
      inner false c j q = never (sym q)

      to : any (λ u. some (in_unit ns rule u)) (upto 0 (count ns)) ≡ true → any rule (upto 0 (count ns)) ≡ true
      to q =
          let x = any_find_lem (λ u. some (in_unit ns rule u)) (upto 0 (count ns)) q in
          let s = (some_each (λ j. cond (eqb (unit_of ns (begins ns) j) x.at) (only (rule j) j) []) (x.at + 1) (count ns)).0 x.does in
          any_hit_lem rule (upto 0 (count ns)) s.at (in_upto (count ns) s.at s.high) (inner (eqb (unit_of ns (begins ns) s.at) x.at) (rule s.at) s.at s.does)

      from : any rule (upto 0 (count ns)) ≡ true → any (λ u. some (in_unit ns rule u)) (upto 0 (count ns)) ≡ true
      from q =
          let x = any_find_lem rule (upto 0 (count ns)) q in
          let h = below_of (count ns) x.at x.in' in
          let u = unit_by_lem x.at x.at (omega arith) (positive x.at x.does) h in
          any_hit_lem (λ u. some (in_unit ns rule u)) (upto 0 (count ns)) (unit_of ns (begins ns) x.at) (in_upto (count ns) (unit_of ns (begins ns) x.at) (omega arith))
          ((some_each (λ j. cond (eqb (unit_of ns (begins ns) j) (unit_of ns (begins ns) x.at)) (only (rule j) j) []) (unit_of ns (begins ns) x.at + 1) (count ns)).1
          (record { at = x.at; low = omega arith; high = h; does = rw (eq-eqb (unit_of ns (begins ns) x.at) (unit_of ns (begins ns) x.at) refl, x.does) }))

  -- some unit breaks a rule, by Contains (8.5.1), just where some node does
  pub any_unit : (sought rule : ℕ → Bool) → sought 0 ≡ false
      → any (λ u. rule u && unit_contains ns sought u) (upto 0 (count ns)) ≡ any (λ n. sought n && rule (unit_of ns (begins ns) n)) (upto 0 (count ns))
  any_unit sought rule e =
      any_upto (λ u. rule u && unit_contains ns sought u) (λ u. some (in_unit ns (λ n. sought n && rule (unit_of ns (begins ns) n)) u)) 0 (count ns) (λ u a b. unit_rule ns sought tree rule u b)
      ∙ units_all (λ n. sought n && rule (unit_of ns (begins ns) n)) (rw e)
