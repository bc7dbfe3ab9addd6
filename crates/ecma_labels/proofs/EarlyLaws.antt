-- THE PROGRAM HAS AN EARLY ERROR BY 8.3, 14.8.1 OR 14.9.1 JUST WHERE SOME NODE HAS A FINDING 18 TO 23.
use Prim.Native.Nat.{ℕ, ◌+◌, ◌≤◌, ◌<◌}
use Rattle.std.specs.Prelude.{◌≡◌, Bool, cond, ◌||◌, ◌↔◌, eqb}
use Rattle.std.proofs.Math.Path.{refl, sym, ap}
use Rattle.std.proofs.Common.{◌∙◌, subst, true≢false, ⊎_elim, eqb-true, eq-or-lt_of_le, arith}
use Rattle.std.proofs.Math.Bool.{true, false}
use mathlib.Core.List.{List, [], ◌∷◌, ◌++◌, flat_map}
use Rattle.base_common.specs.Upto.{upto}
use Rattle.table_records.specs.Table.{count}
use Rattle.table_records.specs.Facts.{Tree}
use Rattle.refusal_input.specs.WellFormed.{Shaped}
use Rattle.check_diagnostics.specs.declared.Finding.{Finding}
use Rattle.check_dispatch.specs.Findings.{findings_at}
use Rattle.ecma_dispatch.specs.WithCode.{with_code}
use Rattle.ecma_dispatch.specs.NodesOf.{nodes_of}
use Rattle.ecma_trees.specs.Rose.{parts_of}
use Rattle.ecma_trees.specs.Walk.{each, some, Says, only}
use Rattle.ecma_trees.proofs.WalkLaws.{each_same, some_append, some_each, some_only}
use Rattle.ecma_trees.specs.Unit.{home_of}
use Rattle.ecma_trees.proofs.ProgramLaws.{program_is}
use Rattle.ecma_labels.specs.Labels.{is_unit, label_rule, label_errors, any_duplicate_labels}
use Rattle.ecma_labels.specs.Breaches.{duplicate_label_at, undefined_break_at, undefined_continue_at, continue_not_nested_at, break_not_nested_at}
use Rattle.ecma_labels.specs.Changed.{undefined_nearest_at, plain_continue_not_nested_at}
use Rattle.ecma_labels.specs.Findings.{label_findings, in_unit_of}
use Rattle.ecma_labels.proofs.BreachLaws.{duplicate_some, undefined_break_some, undefined_continue_some, continue_nested_some, break_nested_some}
use Rattle.ecma_labels.proofs.CodeLaws.{code18, code21, code23}
use Rattle.ecma_labels.proofs.DifferenceLaws.{targets, not_nested, off_duplicates}

-- one rule or another, in a unit
or_unit : (ns : List ℕ) (f g : ℕ → Bool) (u : ℕ) (l : List ℕ) → (some (each (in_unit_of ns f u) l) || some (each (in_unit_of ns g u) l)) ≡ some (each (in_unit_of ns (λ j. f j || g j) u) l)
or_unit ns f g u [] = refl
or_unit ns f g u (j ∷ l) =
    rw (some_append (in_unit_of ns f u j) (each (in_unit_of ns f u) l), some_append (in_unit_of ns g u j) (each (in_unit_of ns g u) l), some_append (in_unit_of ns (λ j. f j || g j) u j) (each (in_unit_of ns (λ j. f j || g j) u) l), sym (or_unit ns f g u l))
    (go (eqb (home_of ns (is_unit ns) j) u) (f j) (g j) (some (each (in_unit_of ns f u) l)) (some (each (in_unit_of ns g u) l)))
  where
    go : (h a b x y : Bool) → ((some (cond h (only a j) []) || x) || (some (cond h (only b j) []) || y)) ≡ (some (cond h (only (a || b) j) []) || (x || y))
    go false a b x y = refl
    go true true b x y = refl
    go true false true true y = refl
    go true false true false y = refl
    go true false false x y = refl

or_assoc : (a b c : Bool) → (a || (b || c)) ≡ ((a || b) || c)
or_assoc true b c = refl
or_assoc false b c = refl

or_true : (a : Bool) → (a || true) ≡ true
or_true true = refl
or_true false = refl

-- a rule that the nodes of a unit break alike
pub same_unit : (ns : List ℕ) (f g : ℕ → Bool) (u : ℕ) → ((j : ℕ) → j < count ns → home_of ns (is_unit ns) j ≡ u → f j ≡ g j)
    → each (in_unit_of ns f u) (upto (u + 1) (count ns)) ≡ each (in_unit_of ns g u) (upto (u + 1) (count ns))
same_unit ns f g u h = each_same (in_unit_of ns f u) (in_unit_of ns g u) (u + 1) (count ns) (λ j p q. go j q (eqb (home_of ns (is_unit ns) j) u) refl)
  where
    go : (j : ℕ) → j < count ns → (b : Bool) → eqb (home_of ns (is_unit ns) j) u ≡ b → cond b (only (f j) j) [] ≡ cond b (only (g j) j) []
    go j q true e = rw (h j q (eqb-true (home_of ns (is_unit ns) j) u e))
    go j q false e = refl

module _ (ns names : List ℕ) where
  -- the five rules, as the Rust has them
  abbrev pub broken_at : ℕ → Bool
  broken_at j =
      duplicate_label_at ns names j
      || (undefined_break_at ns names j || (undefined_nearest_at ns names j || (plain_continue_not_nested_at ns names j || break_not_nested_at ns names j)))

  module _ (t : Tree ns) (w : Shaped ns) where
    module _ (u : ℕ) (c : u < count ns) (x : is_unit ns u ≡ true) where
      abbrev here : (ℕ → Bool) → Bool
      here f = some (each (in_unit_of ns f u) (upto (u + 1) (count ns)))

      -- the two rules of continue, with 8.3.1 beside them
      continues : (d : Bool) → any_duplicate_labels ns names (parts_of ns u) [] ≡ d
          → (d || (here (undefined_continue_at ns names) || here (continue_not_nested_at ns names))) ≡ (d || (here (undefined_nearest_at ns names) || here (plain_continue_not_nested_at ns names)))
      continues true e = refl
      continues false e =
          or_unit ns (undefined_continue_at ns names) (continue_not_nested_at ns names) u (upto (u + 1) (count ns))
          ∙ ap some (same_unit ns (λ j. undefined_continue_at ns names j || continue_not_nested_at ns names j) (λ j. undefined_nearest_at ns names j || plain_continue_not_nested_at ns names j) u same)
          ∙ sym (or_unit ns (undefined_nearest_at ns names) (plain_continue_not_nested_at ns names) u (upto (u + 1) (count ns)))
        where
          swap : (a b c : Bool) → (a || b) ≡ (c || b) → (b || a) ≡ (b || c)
          swap a true c e = refl
          swap true false true e = refl
          swap true false false e = e
          swap false false true e = e
          swap false false false e = refl

          same : (j : ℕ) → j < count ns → home_of ns (is_unit ns) j ≡ u → (undefined_continue_at ns names j || continue_not_nested_at ns names j) ≡ (undefined_nearest_at ns names j || plain_continue_not_nested_at ns names j)
          same j h q =
              swap (continue_not_nested_at ns names j) (undefined_continue_at ns names j) (plain_continue_not_nested_at ns names j) (not_nested ns names t j h)
              ∙ ap (λ b. b || plain_continue_not_nested_at ns names j) (off_duplicates ns names t w u c x e j h q)

      pub unit_is : label_rule ns names (parts_of ns u) ≡ here broken_at
      unfolding label_rule
      unit_is =
          rw (
            duplicate_some ns names t w u c x,
            undefined_break_some ns names t w u c x,
            undefined_continue_some ns names t w u c x,
            continue_nested_some ns names t w u c x,
            break_nested_some ns names t w u c x,
          )
          (arrange (here (duplicate_label_at ns names)) (here (undefined_break_at ns names)) (here (undefined_continue_at ns names)) (here (continue_not_nested_at ns names))
          (here (undefined_nearest_at ns names)) (here (plain_continue_not_nested_at ns names)) (here (break_not_nested_at ns names)) (continues (here (duplicate_label_at ns names)) (duplicate_some ns names t w u c x))
          ∙ ap (λ b. here (duplicate_label_at ns names) || (here (undefined_break_at ns names) || (here (undefined_nearest_at ns names) || b)))
          (or_unit ns (plain_continue_not_nested_at ns names) (break_not_nested_at ns names) u (upto (u + 1) (count ns)))
          ∙ ap (λ b. here (duplicate_label_at ns names) || (here (undefined_break_at ns names) || b))
          (or_unit ns (undefined_nearest_at ns names) (λ j. plain_continue_not_nested_at ns names j || break_not_nested_at ns names j) u (upto (u + 1) (count ns)))
          ∙ ap (λ b. here (duplicate_label_at ns names) || b)
          (or_unit ns (undefined_break_at ns names) (λ j. undefined_nearest_at ns names j || (plain_continue_not_nested_at ns names j || break_not_nested_at ns names j)) u (upto (u + 1) (count ns)))
          ∙ or_unit ns (duplicate_label_at ns names) (λ j. undefined_break_at ns names j || (undefined_nearest_at ns names j || (plain_continue_not_nested_at ns names j || break_not_nested_at ns names j))) u
          (upto (u + 1) (count ns)))
        where
          arrange : (d b s q n r p : Bool) → (d || (s || q)) ≡ (d || (n || r)) → (d || (b || (s || (q || p)))) ≡ (d || (b || (n || (r || p))))
          arrange true b s q n r p e = refl
          arrange false true s q n r p e = refl
          arrange false false s q n r p e = or_assoc s q p ∙ ap (λ x. x || p) e ∙ sym (or_assoc n r p)

    pub program_broken : (label_errors ns names ≡ true) ↔ Says (λ j. only (broken_at j) j) 1 (count ns)
    unfolding label_errors
    program_broken =
        program_is (is_unit ns) (label_rule ns names) ns t (rw t.root) (λ j. only (broken_at j) j)
        (λ u c x. rw (unit_is u c x) (some_each (in_unit_of ns broken_at u) (u + 1) (count ns)))

    module _ (source_type : ℕ) (ss source : List ℕ) where
      some_nodes : (fs : List Finding) → some fs ≡ some (nodes_of fs)
      unfolding nodes_of
      some_nodes [] = refl
      some_nodes (f ∷ fs) = refl

      shuffle : (a b c d e f : Bool) → (a || (b || (c || (d || (e || (f || false)))))) ≡ (f || ((b || (c || e)) || (d || a)))
      shuffle true b c d e f = rw (or_true d, or_true (b || (c || e)), or_true f)
      shuffle false true c d e f = rw (or_true f)
      shuffle false false true d e f = rw (or_true f)
      shuffle false false false true e f = rw (or_true e, or_true f)
      shuffle false false false false true f = rw (or_true f)
      shuffle false false false false false f = refl

      pub some_findings : (j : ℕ) → j < count ns → some (label_findings source_type ns ss source names j) ≡ broken_at j
      unfolding flat_map
      some_findings j h =
          some_append (W 18) (W 19 ++ (W 20 ++ (W 21 ++ (W 22 ++ (W 23 ++ [])))))
          ∙ ap (λ b. some (W 18) || b) (some_append (W 19) (W 20 ++ (W 21 ++ (W 22 ++ (W 23 ++ [])))))
          ∙ ap (λ b. some (W 18) || (some (W 19) || b)) (some_append (W 20) (W 21 ++ (W 22 ++ (W 23 ++ []))))
          ∙ ap (λ b. some (W 18) || (some (W 19) || (some (W 20) || b))) (some_append (W 21) (W 22 ++ (W 23 ++ [])))
          ∙ ap (λ b. some (W 18) || (some (W 19) || (some (W 20) || (some (W 21) || b)))) (some_append (W 22) (W 23 ++ []))
          ∙ ap (λ b. some (W 18) || (some (W 19) || (some (W 20) || (some (W 21) || (some (W 22) || b))))) (some_append (W 23) [])
          ∙ shuffle (some (W 18)) (some (W 19)) (some (W 20)) (some (W 21)) (some (W 22)) (some (W 23))
          ∙ ap (λ b. b || ((some (W 19) || (some (W 20) || some (W 22))) || (some (W 21) || some (W 18)))) (test 23 (duplicate_label_at ns names j) (code23 ns names t source_type ss source j h))
          ∙ ap (λ b. duplicate_label_at ns names j || (b || (some (W 21) || some (W 18)))) three
          ∙ ap (λ b. duplicate_label_at ns names j || ((undefined_break_at ns names j || undefined_nearest_at ns names j) || (b || some (W 18)))) (test 21 (plain_continue_not_nested_at ns names j) (code21 ns names t source_type ss source j h))
          ∙ ap (λ b. duplicate_label_at ns names j || ((undefined_break_at ns names j || undefined_nearest_at ns names j) || (plain_continue_not_nested_at ns names j || b))) (test 18 (break_not_nested_at ns names j) (code18 ns names t source_type ss source j h))
          ∙ ap (λ b. duplicate_label_at ns names j || b) (sym (or_assoc (undefined_break_at ns names j) (undefined_nearest_at ns names j) (plain_continue_not_nested_at ns names j || break_not_nested_at ns names j)))
        where
          W : ℕ → List Finding
          W c = with_code c (findings_at source_type ns ss source names j)

          test : (c : ℕ) (b : Bool) → nodes_of (W c) ≡ only b j → some (W c) ≡ b
          test c b e = some_nodes (W c) ∙ ap some e ∙ some_only b j

          three : (some (W 19) || (some (W 20) || some (W 22))) ≡ (undefined_break_at ns names j || undefined_nearest_at ns names j)
          three =
              rw (some_nodes (W 19), some_nodes (W 20), some_nodes (W 22), sym (some_append (nodes_of (W 20)) (nodes_of (W 22))), sym (some_append (nodes_of (W 19)) (nodes_of (W 20) ++ nodes_of (W 22))))
              (ap some (targets ns names t w source_type ss source j h) ∙ some_only (undefined_break_at ns names j || undefined_nearest_at ns names j) j)

      at_root : broken_at 0 ≡ false
      unfolding duplicate_label_at undefined_break_at undefined_nearest_at plain_continue_not_nested_at break_not_nested_at
      at_root = rw t.root

      pub errors_iff : (label_errors ns names ≡ true) ↔ Says (label_findings source_type ns ss source names) 0 (count ns)
      errors_iff = (
        (λ e. let s = program_broken.0 e in let l = s.low in record { at = s.at; low = omega arith; high = s.high; does = some_findings s.at s.high ∙ sym (some_only (broken_at s.at) s.at) ∙ s.does }),
        λ s. program_broken.1 (record { at = s.at; low = after s.at (sym (some_findings s.at s.high) ∙ s.does); high = s.high; does = some_only (broken_at s.at) s.at ∙ sym (some_findings s.at s.high) ∙ s.does }),
      )
        where
          after : (j : ℕ) → broken_at j ≡ true → 1 ≤ j
          after j e = ⊎_elim (λ (q : 0 ≡ j). absurd (true≢false (sym e ∙ subst (λ x. broken_at x ≡ false) q at_root))) (λ (q : 0 < j). q) (eq-or-lt_of_le (omega arith))
