-- Document 02, request 12: "the tables stay well-formed".
-- Refusals 1 to 6 and 13 to 15 ask of a name only that it lies within the bytes.
use Rattle.table_records.specs.declared.NodeId.{NodeId}
use Rattle.std.specs.Prelude.{ℕ, ◌+◌, ◌-◌, ◌*◌, ◌≤◌, ◌<◌, ◌≡◌, refl, Bool, List, true, false, cond, ◌&&◌, ◌||◌, eqb, ltb, length, Option, Some, None}
use Rattle.std.proofs.Common.{sym, ◌∙◌, ⊎_elim, arith}
use Rattle.std.proofs.Math.Path.{ap, fun_ext}
use Rattle.std.proofs.Math.Bool.{not}
use mathlib.Core.List.{◌∷◌, foldr}
use borrow.Author.Tests.{le-ltb}
use Rattle.std.proofs.Math.ListN.{get_or-eq_default}
use Rattle.base_walk.specs.On.{member}
use Rattle.base_walk.specs.Above.{above}
use Rattle.base_walk.proofs.PreorderLaws.{lt_or_ge}
use Rattle.table_records.specs.Table.{count, kind_of, parent_of, name_start_of, name_len_of, ancestors, depth_of, scope_node_of, outer}
use Rattle.table_records.specs.Facts.{Named}
use Rattle.table_children.specs.Children.{is_child}
use Rattle.check_supers.specs.Super.{fails_at}
use Rattle.refusal_verdict.specs.Verdict.{Passed}
use Rattle.refusal_fields.specs.Fields.{wrong_sizes, unlisted_at, stray_at}
use Rattle.refusal_tree.specs.Tree.{misplaced_at}
use Rattle.refusal_scopes.specs.Scopes.{chain_on, misscoped_at}
use Rattle.refusal_standing.specs.Standing.{misplaced_child_at}
use Rattle.refusal_counts.specs.Counts.{is_default, defaults, wrong_body, wrong_alternate, wrong_default, wrong_try, wrong_clause, wrong_label, wrong_function, wrong_class, wrong_value, wrong_element, wrong_statement, wrong_part, wrong_home, wrong_count_at}
use Rattle.refusal_return.specs.Return.{is_static, return_in_static}
use Rattle.refusal_input.specs.Input.{tables_or, shape_refusal, input_refusal}
use Rattle.refusal_input.proofs.InputLaws.{input_well_formed}
use Rattle.table_renamed.specs.Renamed.{Renamed}
use Rattle.table_renamed.specs.Alike.{Fields}
use Rattle.table_renamed.proofs.RenamedLaws.{everywhere}
use Rattle.table_renamed.proofs.TableLaws.{parent, parents, tables}
use Rattle.check_renamed.proofs.SuperLaws.{reach}

module _ (ns ms : List ℕ) (a : Fields ns ms) where
  unlisted : (t : ℕ) → unlisted_at t ns ≡ unlisted_at t ms
  unfolding unlisted_at
  unlisted t = fun_ext (λ i. simp (tables, a))

  on_walk : (i : ℕ) → member (parent_of ns i) ((i - 1) ∷ ancestors ns (i - 1)) ≡ member (parent_of ms i) ((i - 1) ∷ ancestors ms (i - 1))
  on_walk i =
      ap (λ (x : ℕ). member x ((i - 1) ∷ ancestors ns (i - 1))) (parent ns ms a i)
      ∙ ap (λ (f : ℕ → ℕ). member (parent_of ms i) ((i - 1) ∷ above f (i - 1))) (parents ns ms a)

  misplaced : misplaced_at ns ≡ misplaced_at ms
  unfolding misplaced_at
  misplaced =
      fun_ext
      (λ i.
      ap (λ (b : Bool). cond (eqb i 0) (not (eqb (kind_of ns i) 0) || not (eqb (parent_of ns i) 0)) (eqb (kind_of ns i) 0 || (not b || ltb 512 (depth_of ns i)))) (on_walk i)
      ∙ simp (tables, a))

  chain : (ss : List ℕ) (s i : ℕ) → chain_on ns ss s i ≡ chain_on ms ss s i
  unfolding chain_on
  chain ss s i = ap (λ (f : ℕ → ℕ). foldr (λ t r. member (scope_node_of ss t) (i ∷ above f i) && r) true (s ∷ outer ss s)) (parents ns ms a)

  misscoped : (ss : List ℕ) → misscoped_at ns ss ≡ misscoped_at ms ss
  unfolding misscoped_at
  misscoped ss = fun_ext (λ i. simp (chain, tables, a))

  misplaced_child : misplaced_child_at ns ≡ misplaced_child_at ms
  unfolding misplaced_child_at
  misplaced_child = fun_ext (λ i. simp (tables, a))

  default : (p : ℕ) → is_default ns p ≡ is_default ms p
  unfolding is_default is_child
  default p = fun_ext (λ c. simp (tables, a))

  wrong_count : wrong_count_at ns ≡ wrong_count_at ms
  unfolding wrong_count_at wrong_statement wrong_part wrong_home wrong_body wrong_alternate wrong_label wrong_default wrong_try wrong_clause wrong_function wrong_class wrong_element wrong_value defaults
  wrong_count = fun_ext (λ i. simp (tables, default, a))

  fails : (ss : List ℕ) → fails_at ns ss ≡ fails_at ms ss
  unfolding fails_at
  fails ss = fun_ext (λ i. simp (tables, reach, a))

  static : (f : Option NodeId) → is_static ns f ≡ is_static ms f
  static (Some u) = simp (tables, a)
  static None = refl

  returns : return_in_static ns ≡ return_in_static ms
  unfolding return_in_static
  returns = fun_ext (λ i. simp (tables, static, a))

-- a name is within the bytes, in the table or not
inside : (ns names : List ℕ) → length ns ≡ count ns * 10 → Named ns names → (i : ℕ) → ltb (length names) (name_start_of ns i + name_len_of ns i) ≡ false
inside ns names e w i =
    le-ltb _ _
    (⊎_elim (λ (h : i < count ns). w.inside i h)
    (λ (h : count ns ≤ i).
    let s = get_or-eq_default ns 0 {n = i * 10 + 8} (omega arith) in
    let l = get_or-eq_default ns 0 {n = i * 10 + 9} (omega arith) in
    omega arith) (lt_or_ge i (count ns)))

module _ (t : ℕ) (ns ss source names ms mnames : List ℕ) (p : input_refusal t ns ss source names ≡ Passed) (w : Named ms mnames) (small : length mnames ≤ 1048576) where
  module _ (a : Fields ns ms) where
    stray : stray_at ns source names ≡ stray_at ms source mnames
    unfolding stray_at
    stray =
        let f = input_well_formed t ns ss source names p in
        let e = f.sizes.whole in
        let s = a.size in
        fun_ext (λ i. rw (inside ns names e f.input.named i, inside ms mnames (omega arith) w i) (simp (tables, a)))

    sizes : wrong_sizes t ns ss source names ≡ wrong_sizes t ms ss source mnames
    unfolding wrong_sizes
    sizes = rw (le-ltb 1048576 (length names) (input_well_formed t ns ss source names p).sizes.name_bytes, le-ltb 1048576 (length mnames) small) (simp (tables, a))

    same_refusal : input_refusal t ns ss source names ≡ input_refusal t ms ss source mnames
    unfolding input_refusal tables_or shape_refusal
    same_refusal =
        rw (sizes, stray, unlisted ns ms a t, misplaced ns ms a, misscoped ns ms a ss, misplaced_child ns ms a, wrong_count ns ms a, fails ns ms a ss, returns ns ms a)
        (simp (tables, a))

  -- well-formed tables whose labels are renamed are well-formed, if their names lie within at most 1,048,576 bytes
  pub kept : Renamed ns names ms mnames → input_refusal t ms ss source mnames ≡ Passed
  kept r = sym (same_refusal (everywhere ns names ms mnames (input_well_formed t ns ss source names p).sizes.whole r).fields) ∙ p
