-- Room for the pending ends: the finally blocks of a node nest at most 512 less its depth deep.
use Rattle.table_records.specs.declared.NodeId.{NodeId}
use Prim.Native.Nat.{ℕ, zero, suc, ◌+◌, ◌≤◌, ◌<◌}
use Rattle.std.proofs.Common.{subst, arith}
use mathlib.Core.List.{List, [], ◌∷◌}
use Rattle.std.specs.Prelude.{Bool, true, false, cond, eqb, Option, Some, None}
use Rattle.table_records.specs.Table.{role_of, count, depth_of}
use Rattle.table_records.specs.Roles as role
use Rattle.table_records.specs.Facts.{Tree}
use Rattle.route_completion.specs.Tree.{Stmt, Stmts, if2, if3, try_c, try_f, nil, cons}
use Rattle.code_flat.specs.Code.{Room, RoomAll, RoomCases}
use Rattle.code_tree.specs.Parts.{shape_at, order}
use Rattle.code_tree.specs.Statements.{list_of, one_of, if_of, holder_of, try_of, class_of, cases_of, build, stmt_at, body_of, unit_by, unit_of}
use Rattle.code_tree.specs.declared.Shape.{Shape}
use Rattle.code_tree.specs.declared.Shape.TheVariants.{Leaf as Single, Class, If, With, Block, Label, Loop, Switch, Case, Try, Catch}
use Rattle.code_tree.proofs.PartsLaws.{All, order_all_lem}
use Rattle.code_tree.specs.Parts.{Part}
use Rattle.code_tree.proofs.UpLaws.{up_step}
use Rattle.code_tree.proofs.BoundLaws.{all_map}

-- A part finds room in r less one, and so in more; and r is at least one.
module _ (ns names : List ℕ) (S : ℕ → Stmt) (r : ℕ) where
  pub record Fits (c : ℕ) : Type 0 where
    pub some : 0 < r
    pub room : (q : ℕ) → r ≤ suc q → Room (S c) q

  list_room : (ps : List ℕ) → All Fits ps → RoomAll (list_of S ps) r
  list_room [] a = tt
  list_room (c ∷ ps) a = (a.0.room r (omega arith), list_room ps a.1)

  one_room : (ps : List ℕ) → All Fits ps → Room (one_of S ps) r
  one_room [] a = tt
  one_room (c ∷ ps) a = a.0.room r (omega arith)

  if_room : (j : ℕ) (ps : List ℕ) → All Fits ps → Room (if_of ns S j ps) r
  if_room j [] a = tt
  if_room j (c ∷ []) a = a.0.room r (omega arith)
  if_room j (c ∷ d ∷ ds) a = go (eqb (role_of ns c) role.Alternate)
    where
      go : (x : Bool) → Room (cond x (if3 j (S c) (S d)) (if2 j (S c) (S d))) r
      go true = (a.0.room r (omega arith), a.1.0.room r (omega arith))
      go false = (a.0.room r (omega arith), a.1.0.room r (omega arith))

  fin_room : (b f : Stmt) (q : ℕ) → 0 < q → ((p : ℕ) → q ≤ suc p → Room b p) → ((p : ℕ) → q ≤ suc p → Room f p) → Room (try_f b f) q
  fin_room b f zero h u v = absurd (omega arith)
  fin_room b f (suc q) h u v = (u q (omega arith), v q (omega arith))

  try_room : (ps : List ℕ) → All Fits ps → Room (try_of ns S ps) r
  try_room [] a = tt
  try_room (b ∷ []) a = a.0.room r (omega arith)
  try_room (b ∷ c ∷ []) a = go (eqb (role_of ns c) role.Finally)
    where
      go : (x : Bool) → Room (cond x (try_f (S b) (S c)) (try_c (S b) (S c))) r
      go true = fin_room (S b) (S c) r a.0.some a.0.room a.1.0.room
      go false = (a.0.room r (omega arith), a.1.0.room r (omega arith))
  try_room (b ∷ c ∷ d ∷ ds) a =
      fin_room (try_c (S b) (S c)) (S d) r a.0.some (λ p h. (a.0.room p h, a.1.0.room p h)) a.1.1.0.room

  class_room : (j : ℕ) (bs : Stmts) → RoomAll bs r → Room (class_of j bs) r
  class_room j nil a = tt
  class_room j (cons c bs) a = a

  cases_room : (ps : List ℕ) → All (λ c. All Fits (order ns c)) ps → RoomCases (cases_of ns S ps) r
  cases_room [] a = tt
  cases_room (c ∷ ps) a = (list_room (order ns c) a.0, cases_room ps a.1)

  build_room : (j : ℕ) (ps : List ℕ) (sh : Shape) → All Fits ps → All (λ c. All Fits (order ns c)) ps → Room (build ns names S j ps sh) r
  build_room j ps Single a w = tt
  build_room j ps Class a w = class_room j (list_of S ps) (list_room ps a)
  build_room j ps If a w = if_room j ps a
  build_room j ps With a w = one_room ps a
  build_room j ps Block a w = list_room ps a
  build_room j ps Label a w = one_room ps a
  build_room j ps Loop a w = one_room ps a
  build_room j ps Switch a w = cases_room ps w
  build_room j ps Case a w = list_room ps a
  build_room j ps Try a w = try_room ps a
  build_room j ps Catch a w = one_room ps a

module _ (ns names : List ℕ) (t : Tree ns) where
  depth_part : (j c : ℕ) → Part ns j c → depth_of ns j < depth_of ns c
  depth_part j c p = subst (λ k. depth_of ns k < depth_of ns c) p.parent (up_step ns t c (omega (arith, p.behind)) p.inside).deeper

  -- THE LAW, for a node ..
  pub room_node : (f j r : ℕ) → j < count ns → 512 ≤ depth_of ns j + r → Room (stmt_at ns names f j) r
  unfolding stmt_at
  room_node zero j r h k = tt
  room_node (suc f) j r h k =
      build_room ns names (stmt_at ns names f) r j (order ns j) (shape_at ns j)
      (all_map (Part ns j) _ (λ c p. fit c (depth_part j c p) p (λ q. room_node f c q p.inside)) (order ns j) (order_all_lem ns j))
      (all_map (Part ns j) _
      (λ c p. all_map (Part ns c) _ (λ d q. fit2 c d (depth_part j c p) (depth_part c d q) q (λ s. room_node f d s q.inside)) (order ns c) (order_all_lem ns c)) (order ns j) (order_all_lem ns j))
    where
      fit : (c : ℕ) → depth_of ns j < depth_of ns c → Part ns j c → ((q : ℕ) → 512 ≤ depth_of ns c + q → Room (stmt_at ns names f c) q) → Fits ns names (stmt_at ns names f) r c
      fit c e p i = let x = t.depth c p.inside in record { some = omega arith; room = λ q l. i q (omega arith) }

      fit2 : (c d : ℕ) → depth_of ns j < depth_of ns c → depth_of ns c < depth_of ns d → Part ns c d
          → ((q : ℕ) → 512 ≤ depth_of ns d + q → Room (stmt_at ns names f d) q) → Fits ns names (stmt_at ns names f) r d
      fit2 c d e e' p i = let x = t.depth d p.inside in record { some = omega arith; room = λ q l. i q (omega arith) }

  -- .. and for the whole of a unit: 512 pending ends are enough.
  body_room : (b : ℕ) → RoomAll (body_of ns names b) 512
  unfolding body_of
  body_room b = go (order ns b) (order_all_lem ns b)
    where
      go : (ps : List ℕ) → All (Part ns b) ps → RoomAll (list_of (stmt_at ns names (count ns)) ps) 512
      go [] a = tt
      go (c ∷ ps) a = (room_node (count ns) c 512 a.0.inside (omega arith), go ps a.1)

  unit_room : (x : Option NodeId) → RoomAll (unit_by ns names x) 512
  unit_room (Some b) = body_room b.0
  unit_room None = tt

  pub unit_room_lem : (u : ℕ) → RoomAll (unit_of ns names u) 512
  unfolding unit_of
  unit_room_lem u = unit_room (holder_of ns u)
