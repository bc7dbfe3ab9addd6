-- The bound of the nesting says nothing where it reaches the count of nodes.
use Rattle.std.specs.Prelude.{ℕ, zero, suc, ◌+◌, ◌≤◌, ◌<◌, ◌≡◌, refl, List, [], ◌∷◌, cond, eqb}
use Rattle.std.proofs.Common.{ap, arith}
use Rattle.table_records.specs.Table.{role_of, count}
use Rattle.table_records.specs.Roles as role
use Rattle.route_completion.specs.Tree.{Stmt, if1, if2, if3, withs, block, label, loop, switch, try_c, try_f, cons, case}
use Rattle.code_tree.specs.Parts.{shape_at, order}
use Rattle.code_tree.specs.Statements.{before_at, test_at, default_at, list_of, one_of, if_of, try_of, class_of, cases_of, build, stmt_at}
use Rattle.code_tree.specs.Labels.{id_at}
use Rattle.code_tree.specs.declared.Shape.{Shape}
use Rattle.code_tree.specs.declared.Shape.TheVariants.{Leaf as Single, Class, If, With, Block, Label, Loop, Switch, Case, Try, Catch}
use Rattle.code_tree.proofs.PartsLaws.{All, order_all_lem}
use Rattle.code_tree.specs.Parts.{Part}

-- Two functions that agree on the parts, and on theirs, build one statement.
module _ (ns names : List ℕ) (S T : ℕ → Stmt) where
  abbrev pub Agree : ℕ → Type 0
  Agree c = S c ≡ T c

  pub same_list_lem : (ps : List ℕ) → All Agree ps → list_of S ps ≡ list_of T ps
  same_list_lem [] a = refl
  same_list_lem (c ∷ ps) a = λ i. cons (a.0 i) (same_list_lem ps a.1 i)

  pub same_one : (ps : List ℕ) → All Agree ps → one_of S ps ≡ one_of T ps
  same_one [] a = refl
  same_one (c ∷ ps) a = a.0

  pub same_if : (j : ℕ) (ps : List ℕ) → All Agree ps → if_of ns S j ps ≡ if_of ns T j ps
  same_if j [] a = refl
  same_if j (c ∷ []) a = ap (if1 j) a.0
  same_if j (c ∷ d ∷ ds) a = λ i. cond (eqb (role_of ns c) role.Alternate) (if3 j (a.0 i) (a.1.0 i)) (if2 j (a.0 i) (a.1.0 i))

  pub same_try : (ps : List ℕ) → All Agree ps → try_of ns S ps ≡ try_of ns T ps
  same_try [] a = refl
  same_try (b ∷ []) a = a.0
  same_try (b ∷ c ∷ []) a = λ i. cond (eqb (role_of ns c) role.Finally) (try_f (a.0 i) (a.1.0 i)) (try_c (a.0 i) (a.1.0 i))
  same_try (b ∷ c ∷ d ∷ ds) a = λ i. try_f (try_c (a.0 i) (a.1.0 i)) (a.1.1.0 i)

  same_cases : (ps : List ℕ) → All (λ c. All Agree (order ns c)) ps → cases_of ns S ps ≡ cases_of ns T ps
  same_cases [] a = refl
  same_cases (c ∷ ps) a = λ i. case (default_at ns c) (same_list_lem (order ns c) a.0 i) (same_cases ps a.1 i)

  pub same_build : (j : ℕ) (ps : List ℕ) (sh : Shape) → All Agree ps → All (λ c. All Agree (order ns c)) ps → build ns names S j ps sh ≡ build ns names T j ps sh
  same_build j ps Single a w = refl
  same_build j ps Class a w = ap (class_of j) (same_list_lem ps a)
  same_build j ps If a w = same_if j ps a
  same_build j ps With a w = ap (withs j) (same_one ps a)
  same_build j ps Block a w = ap block (same_list_lem ps a)
  same_build j ps Label a w = ap (label (id_at ns names j)) (same_one ps a)
  same_build j ps Loop a w = ap (loop j (before_at ns j) (test_at ns j)) (same_one ps a)
  same_build j ps Switch a w = ap (switch j) (same_cases ps w)
  same_build j ps Case a w = ap block (same_list_lem ps a)
  same_build j ps Try a w = same_try ps a
  same_build j ps Catch a w = same_one ps a

pub all_map : (P Q : ℕ → Type 0) → ((c : ℕ) → P c → Q c) → (ps : List ℕ) → All P ps → All Q ps
all_map P Q f [] a = tt
all_map P Q f (c ∷ ps) a = (f c a.0, all_map P Q f ps a.1)

-- THE LAW
pub fuel_enough : (ns names : List ℕ) (f g j : ℕ) → j < count ns → count ns ≤ j + f → count ns ≤ j + g → stmt_at ns names f j ≡ stmt_at ns names g j
unfolding stmt_at
fuel_enough ns names zero g j h a c = absurd (omega arith)
fuel_enough ns names (suc f) zero j h a c = absurd (omega arith)
fuel_enough ns names (suc f) (suc g) j h a c =
    same_build ns names (stmt_at ns names f) (stmt_at ns names g) j (order ns j) (shape_at ns j)
    (all_map (Part ns j) _ (λ d p. fuel_enough ns names f g d p.inside (omega (arith, p.behind)) (omega (arith, p.behind))) (order ns j) (order_all_lem ns j))
    (all_map (Part ns j) _
    (λ d p. all_map (Part ns d) _ (λ e q. fuel_enough ns names f g e q.inside (omega (arith, p.behind, q.behind)) (omega (arith, p.behind, q.behind))) (order ns d) (order_all_lem ns d))
    (order ns j) (order_all_lem ns j))
