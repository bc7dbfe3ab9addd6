-- What each statement of the tables does, by its shape.
use Rattle.table_records.specs.declared.NodeId.{NodeId}
use Prim.Native.Nat.{ℕ, zero, suc, ◌+◌, ◌<◌}
use Rattle.std.proofs.Math.Path.{◌≡◌, refl, ap}
use Rattle.std.proofs.Common.{sym, ◌∙◌, inl, inr, eq-eqb, ne_eqb, eqb-true}
use Rattle.std.specs.Prelude.{◌⊎◌, Bool, ◌||◌, eqb, ltb, length, Option, Some, None}
use mathlib.Core.List.{List, [], ◌∷◌, ◌++◌, foldr, append-nil}
use Rattle.std.proofs.Math.Bool.{true, false, cond}
use Rattle.std.proofs.Math.ListN.{drop}
use native.Mathlib.Omega.{arith}
use Rattle.base_walk.specs.Above.{above}
use Rattle.base_walk.proofs.AboveLaws.{above_up}
use Rattle.table_records.specs.Table.{count, role_of, kind_of}
use Rattle.table_records.specs.Roles as role
use Rattle.table_records.specs.Kinds as k
use Rattle.table_children.specs.Children.{label_of}
use Rattle.table_children.specs.Children.{keep}
use Rattle.route_completion.specs.Tree.{Stmt, if2, if3, nil, try_c, try_f}
use Rattle.route_completion.specs.Sem.{out, elem, breaks, continues, returns, throws, plain, more, normal, ask, pick, is_yes, unbreak, unlabel, loops, comp_of, and_then, exec, execs, exec_from, entry, default_at as defaultPlace, count as countCases}
use Rattle.code_tree.specs.Labels.{lab_by, id_at}
use Rattle.code_tree.specs.Parts.{up_of, shape_at, shape_by, is_labeled, parts, with_role, order_by, order}
use Rattle.code_tree.proofs.PartsLaws.{All, parts_all}
use Rattle.code_tree.specs.Parts.{Part}
use Rattle.code_tree.proofs.BoundLaws.{fuel_enough}
use Rattle.code_tree.proofs.ClassLaws.{class_runs}
use Rattle.code_tree.specs.Statements.{leaf_at, before_at, test_at, default_at, list_of, one_of, if_of, try_of, cases_of, build, stmt_at, body_of, holder_of, unit_by, unit_of}
use Rattle.code_tree.specs.declared.Shape.{Shape}
use Rattle.code_tree.specs.declared.Shape.TheVariants.{Leaf as Single, Class, If, With, Block, Label, Loop, Switch, Case, Try, Catch}
use Rattle.code_layout.specs.Shaped.{is_case, is_switch, One, Two, Three, Good}
use Rattle.route_steps.specs.Statement.{labels_of, statement}
use Rattle.code_tree.specs.First.{first_of}
use Rattle.route_steps.specs.Steps.{branch_of, from_default, cases_from, role_in, ran_of, caught_by, finally_by}

module _ (ns names : List ℕ) (g : Good ns) where
  abbrev S : ℕ → Stmt
  S = statement ns names

  abbrev P : ℕ → List ℕ
  P j = parts ns j (j + 1)

  statement_is : (j : ℕ) → j < count ns → S j ≡ build ns names S j (order ns j) (shape_at ns j)
  unfolding statement stmt_at
  statement_is j h = fuel_enough ns names (count ns) (suc (count ns)) j h (omega arith) (omega arith)

  -- In a shape whose parts run in node order.
  by_shape : (j : ℕ) → j < count ns → (sh : Shape) → shape_at ns j ≡ sh → S j ≡ build ns names S j (order_by ns sh (P j)) sh
  unfolding order
  by_shape j h sh x = statement_is j h ∙ (λ i. build ns names S j (order_by ns (x i) (P j)) (x i))

  -- The label set.
  pub labels_on : (p : ℕ) → 0 < p → p < count ns → shape_at ns p ≡ Label → labels_of ns names p ≡ id_at ns names p ∷ labels_of ns names (up_of ns p)
  unfolding labels_of
  labels_on p h l x =
      ap (λ s. cond (is_labeled s) (id_at ns names p ∷ foldr (λ a r. cond (is_labeled (shape_at ns a)) (id_at ns names a ∷ r) []) [] (above (up_of ns) p)) []) x
      ∙ ap (λ k. id_at ns names p ∷ foldr (λ a r. cond (is_labeled (shape_at ns a)) (id_at ns names a ∷ r) []) [] k) (above_up (up_of ns) (count ns) g.falls p h l)

  pub labels_off : (p : ℕ) → is_labeled (shape_at ns p) ≡ false → labels_of ns names p ≡ []
  unfolding labels_of
  labels_off p x = ap (λ b. cond b (id_at ns names p ∷ foldr (λ a r. cond (is_labeled (shape_at ns a)) (id_at ns names a ∷ r) []) [] (above (up_of ns) p)) []) x

  module _ (j : ℕ) (h : j < count ns) (ls qs : List ℕ) where
    pub leaf_is : shape_at ns j ≡ Single → exec (S j) ls qs ≡ out (plain j ∷ []) (comp_of (leaf_at ns names j)) qs
    unfolding exec
    leaf_is x = ap (λ s. exec s ls qs) (by_shape j h Single x)

    pub class_is : shape_at ns j ≡ Class → exec (S j) ls qs ≡ more (plain j ∷ []) (execs (list_of S (P j)) qs)
    class_is x = ap (λ s. exec s ls qs) (by_shape j h Class x) ∙ class_runs j (list_of S (P j)) ls qs

    pub block_is_lem : shape_at ns j ≡ Block → exec (S j) ls qs ≡ execs (list_of S (P j)) qs
    unfolding exec
    block_is_lem x = ap (λ s. exec s ls qs) (by_shape j h Block x)

    pub case_is : shape_at ns j ≡ Case → exec (S j) ls qs ≡ execs (list_of S (P j)) qs
    unfolding exec
    case_is x = ap (λ s. exec s ls qs) (by_shape j h Case x)

    pub with_is_lem : shape_at ns j ≡ With → exec (S j) ls qs ≡ more (plain j ∷ []) (exec (one_of S (P j)) [] qs)
    unfolding exec
    with_is_lem x = ap (λ s. exec s ls qs) (by_shape j h With x)

    pub label_is_lem : shape_at ns j ≡ Label → exec (S j) ls qs ≡ unlabel (id_at ns names j) (exec (one_of S (P j)) (id_at ns names j ∷ ls) qs)
    unfolding exec
    label_is_lem x = ap (λ s. exec s ls qs) (by_shape j h Label x)

    pub loop_is : shape_at ns j ≡ Loop → exec (S j) ls qs ≡ unbreak (loops (before_at ns j) j (test_at ns j) ls (λ r. exec (one_of S (P j)) [] r) qs)
    unfolding exec
    loop_is x = ap (λ s. exec s ls qs) (by_shape j h Loop x)

    pub catch_is : shape_at ns j ≡ Catch → exec (S j) ls qs ≡ exec (one_of S (P j)) ls qs
    catch_is x = ap (λ s. exec s ls qs) (by_shape j h Catch x)

    ifs : (ps : List ℕ) → One ns j ⊎ (Two ns j 3 4 ⊎ Two ns j 4 3) → order ns j ≡ ps → exec (if_of ns S j ps) ls qs ≡ ask j qs (λ a r. ran_of S (branch_of ns ps a) r)
    unfolding exec
    ifs [] (inl w) e = let z : ◌≡◌ {A = ℕ} 0 1 = cc w.1 in absurd (omega arith)
    ifs [] (inr (inl w)) e = let z : ◌≡◌ {A = ℕ} 0 1 = cc w.2 in absurd (omega arith)
    ifs [] (inr (inr w)) e = let z : ◌≡◌ {A = ℕ} 0 1 = cc w.2 in absurd (omega arith)
    ifs (c ∷ []) w e = ap (ask j qs) (λ i a r. one (is_yes a) r i)
      where
        one : (b : Bool) (r : List ℕ) → pick b (exec (S c) [] r) (out [] normal r) ≡ ran_of S (pick b (Some (record { 0 = c })) None) r
        one true r = refl
        one false r = refl
    ifs (c ∷ d ∷ ds) w e = go (eqb (role_of ns c) role.Alternate)
      where
        two : (x y : ℕ) (b : Bool) (r : List ℕ) → pick b (exec (S x) [] r) (exec (S y) [] r) ≡ ran_of S (pick b (Some (record { 0 = x })) (Some (record { 0 = y }))) r
        two x y true r = refl
        two x y false r = refl

        go : (t : Bool) → exec (cond t (if3 j (S c) (S d)) (if2 j (S c) (S d))) ls qs
            ≡ ask j qs (λ a r. ran_of S (cond t (pick (is_yes a) (Some (record { 0 = d })) (Some (record { 0 = c }))) (pick (is_yes a) (Some (record { 0 = c })) (Some (record { 0 = d })))) r)
        go true = ap (ask j qs) (λ i a r. two d c (is_yes a) r i)
        go false = ap (ask j qs) (λ i a r. two c d (is_yes a) r i)

    pub if_is : shape_at ns j ≡ If → exec (S j) ls qs ≡ ask j qs (λ a r. ran_of S (branch_of ns (P j) a) r)
    unfolding order
    if_is x = ap (λ s. exec s ls qs) (by_shape j h If x) ∙ ifs (P j) (g.shaped.ifs j h x) (ap (λ s. order_by ns s (P j)) x)

  -- A switch.
  case_block : (c : ℕ) → c < count ns → is_case (shape_at ns c) ≡ true → (qs : List ℕ) → exec (S c) [] qs ≡ execs (list_of S (order ns c)) qs
  unfolding exec
  case_block c h x qs = ap (λ s. exec s [] qs) (statement_is c h) ∙ go (shape_at ns c) x
    where
      go : (sh : Shape) → is_case sh ≡ true → exec (build ns names S c (order ns c) sh) [] qs ≡ execs (list_of S (order ns c)) qs
      go Single y = let z : ◌≡◌ {A = ℕ} 0 1 = cc in absurd (omega arith)
      go Class y = let z : ◌≡◌ {A = ℕ} 0 1 = cc in absurd (omega arith)
      go If y = let z : ◌≡◌ {A = ℕ} 0 1 = cc in absurd (omega arith)
      go With y = let z : ◌≡◌ {A = ℕ} 0 1 = cc in absurd (omega arith)
      go Block y = refl
      go Label y = let z : ◌≡◌ {A = ℕ} 0 1 = cc in absurd (omega arith)
      go Loop y = let z : ◌≡◌ {A = ℕ} 0 1 = cc in absurd (omega arith)
      go Switch y = let z : ◌≡◌ {A = ℕ} 0 1 = cc in absurd (omega arith)
      go Case y = refl
      go Try y = let z : ◌≡◌ {A = ℕ} 0 1 = cc in absurd (omega arith)
      go Catch y = let z : ◌≡◌ {A = ℕ} 0 1 = cc in absurd (omega arith)

  abbrev Cased : ℕ → Type 0
  Cased c = (qs : List ℕ) → exec (S c) [] qs ≡ execs (list_of S (order ns c)) qs

  from_first : (ps : List ℕ) → All Cased ps → (qs : List ℕ) → exec_from (cases_of ns S ps) zero qs ≡ execs (list_of S ps) qs
  unfolding exec
  from_first [] a qs = refl
  from_first (c ∷ ps) a qs = λ i. and_then (sym (a.0 qs) i) (λ r. from_first ps a.1 r i)

  from_nth : (ps : List ℕ) → All Cased ps → (n : ℕ) (qs : List ℕ) → exec_from (cases_of ns S ps) n qs ≡ execs (list_of S (drop n ps)) qs
  unfolding exec
  from_nth ps a zero qs = from_first ps a qs
  from_nth [] a (suc n) qs = refl
  from_nth (c ∷ ps) a (suc n) qs = from_nth ps a.1 n qs

  count_cases : (ps : List ℕ) → countCases (cases_of ns S ps) ≡ length ps
  count_cases [] = refl
  count_cases (c ∷ ps) = ap suc (count_cases ps)

  from_default_lem : (ps : List ℕ) → drop (defaultPlace (cases_of ns S ps)) ps ≡ from_default ns ps
  from_default_lem [] = refl
  from_default_lem (c ∷ ps) = go (default_at ns c) (from_default_lem ps)
    where
      go : (b : Bool) → drop (defaultPlace (cases_of ns S ps)) ps ≡ from_default ns ps → drop (pick b zero (suc (defaultPlace (cases_of ns S ps)))) (c ∷ ps) ≡ cond b (c ∷ ps) (from_default ns ps)
      go true r = refl
      go false r = r

  from_entry : (ps : List ℕ) (a : ℕ) → drop (entry a (cases_of ns S ps)) ps ≡ cases_from ns ps a
  unfolding cases_from
  from_entry ps a = ap (λ n. drop (pick (ltb a n) a (defaultPlace (cases_of ns S ps))) ps) (count_cases ps) ∙ go (ltb a (length ps))
    where
      go : (b : Bool) → drop (pick b a (defaultPlace (cases_of ns S ps))) ps ≡ cond b (drop a ps) (from_default ns ps)
      go true = refl
      go false = from_default_lem ps

  cased_all : (j : ℕ) → shape_at ns j ≡ Switch → (ps : List ℕ) → All (Part ns j) ps → All Cased ps
  cased_all j x [] a = tt
  cased_all j x (c ∷ ps) a =
      let p = a.0 in
      (case_block c p.inside (g.shaped.cases c (omega (arith, p.behind)) p.inside p.part ∙ ap (λ k. is_switch (shape_at ns k)) p.parent ∙ ap is_switch x), cased_all j x ps a.1)

  pub switch_is : (j : ℕ) → j < count ns → (ls qs : List ℕ) → shape_at ns j ≡ Switch
      → exec (S j) ls qs ≡ ask j qs (λ a r. unbreak (execs (list_of S (cases_from ns (P j) a)) r))
  unfolding exec
  switch_is j h ls qs x =
      ap (λ s. exec s ls qs) (by_shape j h Switch x)
      ∙ ap (ask j qs)
      (λ i a r. unbreak ((from_nth (P j) (cased_all j x (P j) (parts_all ns j)) (entry a (cases_of ns S (P j))) r ∙ ap (λ k. execs (list_of S k) r) (from_entry (P j) a)) i))

  -- A Try.
  keep_append : (q : ℕ → Bool) (a b : List ℕ) → keep q (a ++ b) ≡ keep q a ++ keep q b
  unfolding keep
  keep_append q [] b = refl
  keep_append q (c ∷ a) b = ap (λ l. cond (q c) (c ∷ l) l) (keep_append q a b) ∙ go (q c)
    where
      go : (x : Bool) → cond x (c ∷ (keep q a ++ keep q b)) (keep q a ++ keep q b) ≡ cond x (c ∷ keep q a) (keep q a) ++ keep q b
      go true = refl
      go false = refl

  keep_twice : (q : ℕ → Bool) (a : List ℕ) → keep q (keep q a) ≡ keep q a
  unfolding keep
  keep_twice q [] = refl
  keep_twice q (c ∷ a) = go (q c) refl (keep_twice q a)
    where
      go : (x : Bool) → q c ≡ x → keep q (keep q a) ≡ keep q a → keep q (cond x (c ∷ keep q a) (keep q a)) ≡ cond x (c ∷ keep q a) (keep q a)
      go true e r = (λ i. cond (e i) (c ∷ r i) (r i))
      go false e r = r

  keep_other : (q s : ℕ → Bool) → ((c : ℕ) → s c ≡ true → q c ≡ false) → (a : List ℕ) → keep q (keep s a) ≡ []
  unfolding keep
  keep_other q s n [] = refl
  keep_other q s n (c ∷ a) = go (s c) refl (keep_other q s n a)
    where
      go : (x : Bool) → s c ≡ x → keep q (keep s a) ≡ [] → keep q (cond x (c ∷ keep s a) (keep s a)) ≡ []
      go true e r = (λ i. cond (n c e i) (c ∷ keep q (keep s a)) (r i))
      go false e r = r

  abbrev W : ℕ → ℕ → List ℕ
  W j r = with_role ns r (P j)

  apart : (r s : ℕ) → (r ≡ s → ⊥) → (c : ℕ) → eqb (role_of ns c) s ≡ true → eqb (role_of ns c) r ≡ false
  apart r s n c e = ne_eqb (role_of ns c) r (λ d. n (sym d ∙ eqb-true (role_of ns c) s e))

  held_kept : (j : ℕ) → with_role ns 3 (W j 3 ++ (W j 4 ++ W j 5)) ≡ W j 3 ++ ([] ++ [])
  held_kept j =
      keep_append _ (W j 3) (W j 4 ++ W j 5)
      ∙ (λ i. keep_twice (λ c. eqb (role_of ns c) 3) (P j) i ++ keep_append (λ c. eqb (role_of ns c) 3) (W j 4) (W j 5) i)
      ∙ (λ i. W j 3 ++ (keep_other (λ c. eqb (role_of ns c) 3) (λ c. eqb (role_of ns c) 4) (apart 3 4 (λ e. omega arith)) (P j) i ++ keep_other (λ c. eqb (role_of ns c) 3) (λ c. eqb (role_of ns c) 5) (apart 3 5 (λ e. omega arith)) (P j) i))

  catch_kept : (j : ℕ) → with_role ns 4 (W j 3 ++ (W j 4 ++ W j 5)) ≡ [] ++ (W j 4 ++ [])
  catch_kept j =
      keep_append _ (W j 3) (W j 4 ++ W j 5)
      ∙ (λ i. keep_other (λ c. eqb (role_of ns c) 4) (λ c. eqb (role_of ns c) 3) (apart 4 3 (λ e. omega arith)) (P j) i ++ keep_append (λ c. eqb (role_of ns c) 4) (W j 4) (W j 5) i)
      ∙ (λ i. [] ++ (keep_twice (λ c. eqb (role_of ns c) 4) (P j) i ++ keep_other (λ c. eqb (role_of ns c) 4) (λ c. eqb (role_of ns c) 5) (apart 4 5 (λ e. omega arith)) (P j) i))

  finally_kept : (j : ℕ) → with_role ns 5 (W j 3 ++ (W j 4 ++ W j 5)) ≡ [] ++ ([] ++ W j 5)
  finally_kept j =
      keep_append _ (W j 3) (W j 4 ++ W j 5)
      ∙ (λ i. keep_other (λ c. eqb (role_of ns c) 5) (λ c. eqb (role_of ns c) 3) (apart 5 3 (λ e. omega arith)) (P j) i ++ keep_append (λ c. eqb (role_of ns c) 5) (W j 4) (W j 5) i)
      ∙ (λ i. [] ++ (keep_other (λ c. eqb (role_of ns c) 5) (λ c. eqb (role_of ns c) 4) (apart 5 4 (λ e. omega arith)) (P j) i ++ keep_twice (λ c. eqb (role_of ns c) 5) (P j) i))

  module _ (j : ℕ) (h : j < count ns) (x : shape_at ns j ≡ Try) where
    ordered : order ns j ≡ W j 3 ++ (W j 4 ++ W j 5)
    unfolding order
    ordered = ap (λ s. order_by ns s (P j)) x

    held_role : (ps : List ℕ) → order ns j ≡ ps → role_in ns j 3 ≡ first_of (with_role ns 3 ps)
    unfolding role_in
    held_role ps e = ap first_of (sym (held_kept j ∙ append-nil (W j 3)) ∙ ap (with_role ns 3) (sym ordered ∙ e))

    catch_role : (ps : List ℕ) → order ns j ≡ ps → role_in ns j 4 ≡ first_of (with_role ns 4 ps)
    unfolding role_in
    catch_role ps e = ap first_of (sym (catch_kept j ∙ append-nil (W j 4)) ∙ ap (with_role ns 4) (sym ordered ∙ e))

    finally_role : (ps : List ℕ) → order ns j ≡ ps → role_in ns j 5 ≡ first_of (with_role ns 5 ps)
    unfolding role_in
    finally_role ps e = ap first_of (sym (finally_kept j) ∙ ap (with_role ns 5) (sym ordered ∙ e))

    two_roles : (r c d m n : ℕ) → role_of ns c ≡ m → role_of ns d ≡ n → first_of (with_role ns r (c ∷ d ∷ [])) ≡ first_of (cond (eqb m r) (c ∷ cond (eqb n r) (d ∷ []) []) (cond (eqb n r) (d ∷ []) []))
    unfolding keep
    two_roles r c d m n y z = λ i. first_of (cond (eqb (y i) r) (c ∷ cond (eqb (z i) r) (d ∷ []) []) (cond (eqb (z i) r) (d ∷ []) []))

    three_roles : (r c d e : ℕ) → role_of ns c ≡ 3 → role_of ns d ≡ 4 → role_of ns e ≡ 5
        → first_of (with_role ns r (c ∷ d ∷ e ∷ [])) ≡ first_of (cond (eqb 3 r) (c ∷ cond (eqb 4 r) (d ∷ cond (eqb 5 r) (e ∷ []) []) (cond (eqb 5 r) (e ∷ []) [])) (cond (eqb 4 r) (d ∷ cond (eqb 5 r) (e ∷ []) []) (cond (eqb 5 r) (e ∷ []) [])))
    unfolding keep
    three_roles r c d e y z w =
        λ i. first_of (cond (eqb (y i) r) (c ∷ cond (eqb (z i) r) (d ∷ cond (eqb (w i) r) (e ∷ []) []) (cond (eqb (w i) r) (e ∷ []) [])) (cond (eqb (z i) r) (d ∷ cond (eqb (w i) r) (e ∷ []) []) (cond (eqb (w i) r) (e ∷ []) [])))

    module _ (ls qs : List ℕ) where
      abbrev Tried : Type 0
      Tried = exec (S j) ls qs ≡ finally_by S (role_in ns j 5) (caught_by S (role_in ns j 4) (ran_of S (role_in ns j 3) qs))

      built : (ps : List ℕ) → order ns j ≡ ps → S j ≡ try_of ns S ps
      built ps e = statement_is j h ∙ (λ i. build ns names S j (e i) (x i))

      tries : Two ns j 3 4 ⊎ (Two ns j 3 5 ⊎ Three ns j) → Tried
      unfolding exec
      tries (inl (c, d, e, y, z)) =
          ap (λ s. exec s ls qs) (built (c ∷ d ∷ []) e ∙ (λ i. cond (eqb (z i) 5) (try_f (S c) (S d)) (try_c (S c) (S d))))
          ∙ (λ i. finally_by S (sym (finally_role (c ∷ d ∷ []) e ∙ two_roles 5 c d 3 4 y z) i) (caught_by S (sym (catch_role (c ∷ d ∷ []) e ∙ two_roles 4 c d 3 4 y z) i) (ran_of S (sym (held_role (c ∷ d ∷ []) e ∙ two_roles 3 c d 3 4 y z) i) qs)))
      tries (inr (inl (c, d, e, y, z))) =
          ap (λ s. exec s ls qs) (built (c ∷ d ∷ []) e ∙ (λ i. cond (eqb (z i) 5) (try_f (S c) (S d)) (try_c (S c) (S d))))
          ∙ (λ i. finally_by S (sym (finally_role (c ∷ d ∷ []) e ∙ two_roles 5 c d 3 5 y z) i) (caught_by S (sym (catch_role (c ∷ d ∷ []) e ∙ two_roles 4 c d 3 5 y z) i) (ran_of S (sym (held_role (c ∷ d ∷ []) e ∙ two_roles 3 c d 3 5 y z) i) qs)))
      tries (inr (inr (c, d, e, q, y, z, w))) =
          ap (λ s. exec s ls qs) (built (c ∷ d ∷ e ∷ []) q)
          ∙ (λ i. finally_by S (sym (finally_role (c ∷ d ∷ e ∷ []) q ∙ three_roles 5 c d e y z w) i) (caught_by S (sym (catch_role (c ∷ d ∷ e ∷ []) q ∙ three_roles 4 c d e y z w) i) (ran_of S (sym (held_role (c ∷ d ∷ e ∷ []) q ∙ three_roles 3 c d e y z w) i) qs)))

      pub try_is : Tried
      try_is = tries (g.shaped.tries j h x)

  -- Statements of a list, one by one; what holds one.
  module _ (ps : List ℕ) (qs : List ℕ) where
    pub list_on_lem : (c : ℕ) (cs : List ℕ) → ps ≡ c ∷ cs → execs (list_of S ps) qs ≡ and_then (exec (S c) [] qs) (λ r. execs (list_of S cs) r)
    unfolding exec
    list_on_lem c cs e = ap (λ k. execs (list_of S k) qs) e

    pub list_end : ps ≡ [] → execs (list_of S ps) qs ≡ out [] normal qs
    unfolding exec
    list_end e = ap (λ k. execs (list_of S k) qs) e

    pub one_on : (ls : List ℕ) (c : ℕ) (cs : List ℕ) → ps ≡ c ∷ cs → exec (one_of S ps) ls qs ≡ exec (S c) ls qs
    one_on ls c cs e = ap (λ k. exec (one_of S k) ls qs) e

    pub one_end : (ls : List ℕ) → ps ≡ [] → exec (one_of S ps) ls qs ≡ out [] normal qs
    unfolding exec
    one_end ls e = ap (λ k. exec (one_of S k) ls qs) e

  -- What the unit's holder holds.
  pub body_is : (b : ℕ) → shape_at ns b ≡ Block → body_of ns names b ≡ list_of S (P b)
  unfolding body_of statement order
  body_is b x = ap (λ s. list_of (stmt_at ns names (count ns)) (order_by ns s (P b))) x

  pub unit_is_lem : (u b : ℕ) → holder_of ns u ≡ Some (record { 0 = b }) → shape_at ns b ≡ Block → unit_of ns names u ≡ list_of S (P b)
  unfolding unit_of
  unit_is_lem u b e x = ap (unit_by ns names) e ∙ body_is b x

  -- Only nodes below node 0 are Labeled.
  pub labeled_inner : (p : ℕ) → is_labeled (shape_at ns p) ≡ true → 0 < p
  unfolding shape_by
  labeled_inner zero x = let z : ◌≡◌ {A = ℕ} 0 1 = cc g.tree.root in absurd (omega arith)
  labeled_inner (suc p) x = omega arith

  -- The search for a label.
  labeled_label : (sh : Shape) → is_labeled sh ≡ true → sh ≡ Label
  labeled_label Single y = let z : ◌≡◌ {A = ℕ} 0 1 = cc in absurd (omega arith)
  labeled_label Class y = let z : ◌≡◌ {A = ℕ} 0 1 = cc in absurd (omega arith)
  labeled_label If y = let z : ◌≡◌ {A = ℕ} 0 1 = cc in absurd (omega arith)
  labeled_label With y = let z : ◌≡◌ {A = ℕ} 0 1 = cc in absurd (omega arith)
  labeled_label Block y = let z : ◌≡◌ {A = ℕ} 0 1 = cc in absurd (omega arith)
  labeled_label Label y = refl
  labeled_label Loop y = let z : ◌≡◌ {A = ℕ} 0 1 = cc in absurd (omega arith)
  labeled_label Switch y = let z : ◌≡◌ {A = ℕ} 0 1 = cc in absurd (omega arith)
  labeled_label Case y = let z : ◌≡◌ {A = ℕ} 0 1 = cc in absurd (omega arith)
  labeled_label Try y = let z : ◌≡◌ {A = ℕ} 0 1 = cc in absurd (omega arith)
  labeled_label Catch y = let z : ◌≡◌ {A = ℕ} 0 1 = cc in absurd (omega arith)

  pub labels_hit : (i p : ℕ) → p < count ns → is_labeled (shape_at ns p) ≡ true → eqb i (id_at ns names p) ≡ true → elem i (labels_of ns names p) ≡ true
  labels_hit i p h x e =
      ap (elem i) (labels_on p (labeled_inner p x) h (labeled_label (shape_at ns p) x)) ∙ ap (λ b. b || elem i (labels_of ns names (up_of ns p))) e

  pub labels_next : (i p : ℕ) → p < count ns → is_labeled (shape_at ns p) ≡ true → eqb i (id_at ns names p) ≡ false → elem i (labels_of ns names p) ≡ elem i (labels_of ns names (up_of ns p))
  labels_next i p h x e =
      ap (elem i) (labels_on p (labeled_inner p x) h (labeled_label (shape_at ns p) x)) ∙ ap (λ b. b || elem i (labels_of ns names (up_of ns p))) e

  pub labels_stop : (i p : ℕ) → is_labeled (shape_at ns p) ≡ false → elem i (labels_of ns names p) ≡ false
  labels_stop i p x = ap (elem i) (labels_off p x)

-- How a statement without parts completes.
module _ (ns names : List ℕ) (j m : ℕ) (e : m ≡ kind_of ns j) where
  unlike : (n : ℕ) → (m ≡ n → ⊥) → eqb (kind_of ns j) n ≡ false
  unlike n d = ne_eqb (kind_of ns j) n (λ q. d (e ∙ q))

  alike : (n : ℕ) → m ≡ n → eqb (kind_of ns j) n ≡ true
  alike n d = eq-eqb (kind_of ns j) n (sym e ∙ d)

  module _ (x : Option NodeId) (q : x ≡ label_of ns j) where
    pub comp_break : m ≡ k.Break → breaks (lab_by ns names x) ≡ comp_of (leaf_at ns names j)
    unfolding leaf_at
    comp_break a = rw (alike k.Break a) (ap (λ y. breaks (lab_by ns names y)) q)

    pub comp_continue : (m ≡ k.Break → ⊥) → m ≡ k.Continue → continues (lab_by ns names x) ≡ comp_of (leaf_at ns names j)
    unfolding leaf_at
    comp_continue a b = rw (unlike k.Break a, alike k.Continue b) (ap (λ y. continues (lab_by ns names y)) q)

  pub comp_return : (m ≡ k.Break → ⊥) → (m ≡ k.Continue → ⊥) → m ≡ k.Return → returns ≡ comp_of (leaf_at ns names j)
  unfolding leaf_at
  comp_return a b c = rw (unlike k.Break a, unlike k.Continue b, alike k.Return c)

  pub comp_throw : (m ≡ k.Break → ⊥) → (m ≡ k.Continue → ⊥) → (m ≡ k.Return → ⊥) → m ≡ k.Throw → throws ≡ comp_of (leaf_at ns names j)
  unfolding leaf_at
  comp_throw a b c d = rw (unlike k.Break a, unlike k.Continue b, unlike k.Return c, alike k.Throw d)

  pub comp_normal : (m ≡ k.Break → ⊥) → (m ≡ k.Continue → ⊥) → (m ≡ k.Return → ⊥) → (m ≡ k.Throw → ⊥) → normal ≡ comp_of (leaf_at ns names j)
  unfolding leaf_at
  comp_normal a b c d = rw (unlike k.Break a, unlike k.Continue b, unlike k.Return c, unlike k.Throw d)

-- A unit that no node holds statements of.
pub unit_none : (ns names : List ℕ) (u : ℕ) → holder_of ns u ≡ None → unit_of ns names u ≡ nil
unfolding unit_of
unit_none ns names u e = ap (unit_by ns names) e
