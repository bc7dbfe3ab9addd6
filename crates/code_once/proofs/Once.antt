-- No node stands twice in a unit's statements: what the theorem of routes asks for, with `try` in any child order and static blocks. The nodes of a statement lie on ways up that meet only above it.
use Rattle.table_records.specs.declared.NodeId.{NodeId}
use Prim.Native.Nat.{ℕ, zero, suc, ◌+◌, ◌-◌, ◌≤◌, ◌<◌}
use Rattle.std.specs.Prelude.{◌≡◌, ◌⊎◌, Bool, true, false, eqb, Option, Some, None}
use Rattle.std.proofs.Math.Path.{refl, ap, subst}
use Rattle.std.proofs.Common.{sym, ◌∙◌, inl, inr, arith, ne_eqb}
use mathlib.Core.List.{List, [], ◌∷◌, ◌++◌}
use Rattle.std.proofs.Math.Bool.{cond}
use Rattle.std.proofs.Math.Decide.{dec_lt}
use Rattle.table_records.specs.Table.{kind_of, parent_of, role_of, count}
use Rattle.table_records.specs.Kinds as k
use Rattle.table_records.specs.Roles as role
use Rattle.route_completion.specs.Tree.{Stmt, Stmts, if2, if3, try_c, try_f, nil, cons}
use Rattle.route_completion.specs.Route.{Mem, Once, nodes_of, nodes_of_all, nodes_of_cases}
use Rattle.code_tree.specs.Parts.{entered_by, up_of, shape_at, order}
use Rattle.code_tree.specs.Statements.{list_of, one_of, if_of, try_of, class_of, cases_of, build, stmt_at, body_of, holder_of, unit_by, unit_of}
use Rattle.code_tree.proofs.PartsLaws.{All, order_all_lem}
use Rattle.code_tree.specs.Parts.{Part}
use Rattle.code_tree.proofs.BoundLaws.{all_map}
use Rattle.code_tree.specs.declared.Shape.{Shape}
use Rattle.code_tree.specs.declared.Shape.TheVariants.{Leaf as Single, Class, If, With, Block, Label, Loop, Switch, Case, Try, Catch}
use Rattle.code_layout.specs.Shaped.{Good}
use Rattle.code_layout.proofs.Sums.{Distinct, order_distinct}

mem_append : (x : ℕ) (a c : List ℕ) → Mem x (a ++ c) → Mem x a ⊎ Mem x c
mem_append x [] c m = inr m
mem_append x (y ∷ a) c (inl e) = inl (inl e)
mem_append x (y ∷ a) c (inr m) = go (mem_append x a c m)
  where
    go : Mem x a ⊎ Mem x c → Mem x (y ∷ a) ⊎ Mem x c
    go (inl q) = inl (inr q)
    go (inr q) = inr q

once_append : (a c : List ℕ) → Once a → Once c → ((x : ℕ) → Mem x a → Mem x c → ⊥) → Once (a ++ c)
once_append [] c u v n = v
once_append (y ∷ a) c u v n = (λ m. go (mem_append y a c m), once_append a c u.1 v (λ x p q. n x (inr p) q))
  where
    go : Mem y a ⊎ Mem y c → ⊥
    go (inl q) = u.0 q
    go (inr q) = n y (inl refl) q

module _ (ns names : List ℕ) (g : Good ns) where
  -- n steps up.
  abbrev ups : ℕ → ℕ → ℕ
  ups zero x = x
  ups (suc n) x = ups n (up_of ns x)

  ups_add : (n k x : ℕ) → ups k (ups n x) ≡ ups (n + k) x
  ups_add zero k x = ap (λ m. ups m x) (let e : k ≡ 0 + k = omega arith in e)
  ups_add (suc n) k x = ups_add n k (up_of ns x) ∙ ap (λ m. ups m x) (let e : suc (n + k) ≡ suc n + k = omega arith in e)

  -- x stands at j or below it, and in the table.
  record Under (j x : ℕ) : Type 0 where
    steps : ℕ
    way : ups steps x ≡ j

  itself : (j : ℕ) → Under j j
  itself j = record { steps = 0; way = refl }

  under_up : (j c x : ℕ) → Part ns j c → Under c x → Under j x
  under_up j c x w u = record { steps = u.steps + 1; way = sym (ups_add u.steps 1 x) ∙ ap (up_of ns) u.way ∙ w.parent }

  top_up : up_of ns 0 ≡ 0
  unfolding up_of
  top_up = ap (λ x. cond x (entered_by ns (parent_of ns (parent_of ns 0))) (parent_of ns 0)) (ne_eqb (kind_of ns 0) k.StaticBlock (λ z. let r = g.tree.root in omega arith)) ∙ g.tree.top

  -- Up from a node above 0 to smaller numbers, as long as it isn't 0.
  ups_less : (k j d : ℕ) → j < count ns → j < d → ups k j ≡ d → ⊥
  ups_less zero j d h l e = omega arith
  ups_less (suc k) j d h l e = go (dec_lt 0 j) (λ q. ups_less k (up_of ns j) d q)
    where
      go : Dec (0 < j) → (up_of ns j < count ns → up_of ns j < d → ups k (up_of ns j) ≡ d → ⊥) → ⊥
      go (yes p) ih = let f = g.falls j p h in ih (omega arith) (omega arith) e
      go (no p) ih =
          let z : j ≡ 0 = omega arith in
          let q : up_of ns j ≡ 0 = ap (up_of ns) z ∙ top_up in
          ih (omega arith) (omega arith) e

  -- Below two parts of one node stands no node in common.
  apart_by : (j c d x n m : ℕ) → j < count ns → Part ns j c → Part ns j d → (c ≡ d → ⊥) → ups n x ≡ c → ups m x ≡ d → n ≤ m → ⊥
  apart_by j c d x n m h v w ne p q l = go (m - n) refl
    where
      rest : ups (m - n) c ≡ d
      rest = ap (ups (m - n)) (sym p) ∙ ups_add n (m - n) x ∙ ap (λ k. ups k x) (let e : n + (m - n) ≡ m = omega arith in e) ∙ q

      go : (k : ℕ) → m - n ≡ k → ⊥
      go zero e = ne (sym (ap (λ k. ups k c) e) ∙ rest)
      go (suc k) e = ups_less k j d h w.behind (ap (ups k) (sym v.parent) ∙ sym (ap (λ k. ups k c) e) ∙ rest)

  apart : (j c d x : ℕ) → j < count ns → Part ns j c → Part ns j d → (c ≡ d → ⊥) → Under c x → Under d x → ⊥
  apart j c d x h v w ne a b = go (dec_lt b.steps a.steps)
    where
      go : Dec (b.steps < a.steps) → ⊥
      go (yes l) = apart_by j d c x b.steps a.steps h w v (λ z. ne (sym z)) b.way a.way (omega arith)
      go (no l) = apart_by j c d x a.steps b.steps h v w ne a.way b.way (omega arith)

  -- A part's nodes are below it, so that its holder is none of them.
  not_holder : (j c : ℕ) → j < count ns → Part ns j c → Under c j → ⊥
  not_holder j c h w u = ups_less u.steps j c h w.behind u.way

  -- The nodes of a statement at j: each once, each at j or below it.
  record Nodes (j : ℕ) (l : List ℕ) : Type 0 where
    once : Once l
    under : (x : ℕ) → Mem x l → Under j x

  module _ (P : ℕ → List ℕ) (j : ℕ) (hj : j < count ns) where
    -- The nodes of a list of different parts of j.
    abbrev joined : List ℕ → List ℕ
    joined [] = []
    joined (c ∷ cs) = P c ++ joined cs

    mem_joined : (x : ℕ) (l : List ℕ) → All (Part ns j) l → All (λ c. Nodes c (P c)) l → Mem x (joined l) → (c : ℕ) × Part ns j c × Under c x × ((d : ℕ) → All (λ e. d ≡ e → ⊥) l → d ≡ c → ⊥)
    mem_joined x [] a b m = absurd m
    mem_joined x (c ∷ cs) a b m = go (mem_append x (P c) (joined cs) m) (λ q. mem_joined x cs a.1 b.1 q)
      where
        go : Mem x (P c) ⊎ Mem x (joined cs) → (Mem x (joined cs) → (e : ℕ) × Part ns j e × Under e x × ((d : ℕ) → All (λ e. d ≡ e → ⊥) cs → d ≡ e → ⊥))
            → (e : ℕ) × Part ns j e × Under e x × ((d : ℕ) → All (λ e. d ≡ e → ⊥) (c ∷ cs) → d ≡ e → ⊥)
        go (inl q) ih = (c, a.0, b.0.under x q, λ d n. n.0)
        go (inr q) ih = let (e, w, u, f) = ih q in (e, w, u, λ d n. f d n.1)

    once_joined : (l : List ℕ) → Distinct l → All (Part ns j) l → All (λ c. Nodes c (P c)) l → Once (joined l)
    once_joined [] d a b = tt
    once_joined (c ∷ cs) d a b =
        once_append (P c) (joined cs) b.0.once (once_joined cs d.1 a.1 b.1)
        (λ x p q. let (e, w, u, f) = mem_joined x cs a.1 b.1 q in apart j c e x hj a.0 w (f c d.0) (b.0.under x p) u)

    module _ (l : List ℕ) (d : Distinct l) (a : All (Part ns j) l) (b : All (λ c. Nodes c (P c)) l) where
      joined_nodes : Nodes j (joined l)
      joined_nodes = record { once = once_joined l d a b; under = λ x m. let (c, w, u, f) = mem_joined x l a b m in under_up j c x w u }

      -- .. with j itself in front.
      with_nodes : Nodes j (j ∷ joined l)
      with_nodes = record { once = (λ m. let (c, w, u, f) = mem_joined j l a b m in not_holder j c hj w u, once_joined l d a b); under = go }
        where
          go : (x : ℕ) → Mem x (j ∷ joined l) → Under j x
          go x (inl e) = subst (Under j) (sym e) (itself j)
          go x (inr m) = joined_nodes.under x m

  only_nodes : (j : ℕ) → Nodes j (j ∷ [])
  only_nodes j = record { once = (λ m. m, tt); under = go }
    where
      go : (x : ℕ) → Mem x (j ∷ []) → Under j x
      go x (inl e) = subst (Under j) (sym e) (itself j)
      go x (inr m) = absurd m

  no_nodes : (j : ℕ) → Nodes j []
  no_nodes j = record { once = tt; under = λ x m. absurd m }

  -- The nodes of the statements that S gives.
  module _ (S : ℕ → Stmt) (j : ℕ) (hj : j < count ns) where
    abbrev P : ℕ → List ℕ
    P c = nodes_of (S c)

    list_nodes : (l : List ℕ) → nodes_of_all (list_of S l) ≡ joined (λ c. nodes_of (S c)) j hj l
    unfolding nodes_of_all
    list_nodes [] = refl
    list_nodes (c ∷ cs) = ap (λ l. nodes_of (S c) ++ l) (list_nodes cs)

    module _ (l : List ℕ) (d : Distinct l) (a : All (Part ns j) l) (b : All (λ c. Nodes c (nodes_of (S c))) l) where
      of_list : Nodes j (nodes_of_all (list_of S l))
      of_list = subst (Nodes j) (sym (list_nodes l)) (joined_nodes (λ c. nodes_of (S c)) j hj l d a b)

      of_list_with : Nodes j (j ∷ nodes_of_all (list_of S l))
      of_list_with = subst (λ m. Nodes j (j ∷ m)) (sym (list_nodes l)) (with_nodes (λ c. nodes_of (S c)) j hj l d a b)

  append_nil : (l : List ℕ) → l ++ [] ≡ l
  append_nil [] = refl
  append_nil (x ∷ l) = ap (λ m. x ∷ m) (append_nil l)

  append_three : (l m n : List ℕ) → l ++ (m ++ n) ≡ (l ++ m) ++ n
  append_three [] m n = refl
  append_three (x ∷ l) m n = ap (λ k. x ∷ k) (append_three l m n)

  module _ (S : ℕ → Stmt) (j : ℕ) (hj : j < count ns) where
    abbrev N : ℕ → Type 0
    N c = Nodes c (nodes_of (S c))

    abbrev J : List ℕ → List ℕ
    J l = joined (λ c. nodes_of (S c)) j hj l

    one : (ps : List ℕ) → All (Part ns j) ps → All N ps → Nodes j (nodes_of (one_of S ps))
    unfolding nodes_of
    one [] a b = no_nodes j
    one (c ∷ cs) a b = record { once = b.0.once; under = λ x m. under_up j c x a.0 (b.0.under x m) }

    one_with : (ps : List ℕ) → All (Part ns j) ps → All N ps → Nodes j (j ∷ nodes_of (one_of S ps))
    unfolding nodes_of
    one_with [] a b = only_nodes j
    one_with (c ∷ cs) a b = subst (λ l. Nodes j (j ∷ l)) (append_nil (nodes_of (S c))) (with_nodes (λ c. nodes_of (S c)) j hj (c ∷ []) (tt, tt) (a.0, tt) (b.0, tt))

    ifs : (ps : List ℕ) → Distinct ps → All (Part ns j) ps → All N ps → Nodes j (nodes_of (if_of ns S j ps))
    unfolding nodes_of
    ifs [] d a b = no_nodes j
    ifs (c ∷ []) d a b = one_with (c ∷ []) a b
    ifs (c ∷ e ∷ es) d a b = go (eqb (role_of ns c) role.Alternate)
      where
        two : Nodes j (j ∷ (nodes_of (S c) ++ nodes_of (S e)))
        two =
            subst (λ l. Nodes j (j ∷ (nodes_of (S c) ++ l))) (append_nil (nodes_of (S e)))
            (with_nodes (λ c. nodes_of (S c)) j hj (c ∷ e ∷ []) ((d.0.0, tt), (tt, tt)) (a.0, (a.1.0, tt)) (b.0, (b.1.0, tt)))

        go : (x : Bool) → Nodes j (nodes_of (cond x (if3 j (S c) (S e)) (if2 j (S c) (S e))))
        go true = two
        go false = two

    tries : (ps : List ℕ) → Distinct ps → All (Part ns j) ps → All N ps → Nodes j (nodes_of (try_of ns S ps))
    unfolding nodes_of
    tries [] d a b = no_nodes j
    tries (c ∷ []) d a b = one (c ∷ []) a b
    tries (c ∷ e ∷ []) d a b = go (eqb (role_of ns e) role.Finally)
      where
        two : Nodes j (nodes_of (S c) ++ nodes_of (S e))
        two = subst (λ l. Nodes j (nodes_of (S c) ++ l)) (append_nil (nodes_of (S e))) (joined_nodes (λ c. nodes_of (S c)) j hj (c ∷ e ∷ []) d a b)

        go : (x : Bool) → Nodes j (nodes_of (cond x (try_f (S c) (S e)) (try_c (S c) (S e))))
        go true = two
        go false = two
    tries (c ∷ e ∷ f ∷ fs) d a b =
        subst (Nodes j) (ap (λ l. nodes_of (S c) ++ (nodes_of (S e) ++ l)) (append_nil (nodes_of (S f))) ∙ append_three (nodes_of (S c)) (nodes_of (S e)) (nodes_of (S f)))
        (joined_nodes (λ c. nodes_of (S c)) j hj (c ∷ e ∷ f ∷ []) ((d.0.0, (d.0.1.0, tt)), ((d.1.0.0, tt), (tt, tt))) (a.0, (a.1.0, (a.1.1.0, tt))) (b.0, (b.1.0, (b.1.1.0, tt))))

    classes : (ss : Stmts) → Nodes j (j ∷ nodes_of_all ss) → Nodes j (nodes_of (class_of j ss))
    unfolding nodes_of nodes_of_all
    classes nil n = n
    classes (cons s ss) n = n

    case_nodes : (l : List ℕ) → nodes_of_cases (cases_of ns S l) ≡ joined (λ c. nodes_of_all (list_of S (order ns c))) j hj l
    unfolding nodes_of_cases
    case_nodes [] = refl
    case_nodes (c ∷ cs) = ap (λ l. nodes_of_all (list_of S (order ns c)) ++ l) (case_nodes cs)

    built : (ps : List ℕ) → Distinct ps → All (Part ns j) ps → All N ps → All (λ c. Nodes c (nodes_of_all (list_of S (order ns c)))) ps → (s : Shape) → Nodes j (nodes_of (build ns names S j ps s))
    unfolding nodes_of
    built ps d a b q Single = only_nodes j
    built ps d a b q Class = classes (list_of S ps) (of_list_with S j hj ps d a b)
    built ps d a b q If = ifs ps d a b
    built ps d a b q With = one_with ps a b
    built ps d a b q Block = of_list S j hj ps d a b
    built ps d a b q Label = one ps a b
    built ps d a b q Loop = one_with ps a b
    built ps d a b q Switch = subst (λ l. Nodes j (j ∷ l)) (sym (case_nodes ps)) (with_nodes (λ c. nodes_of_all (list_of S (order ns c))) j hj ps d a q)
    built ps d a b q Case = of_list S j hj ps d a b
    built ps d a b q Try = tries ps d a b
    built ps d a b q Catch = one ps a b

  statement_nodes : (f j : ℕ) → j < count ns → Nodes j (nodes_of (stmt_at ns names f j))
  unfolding stmt_at nodes_of nodes_of_all
  statement_nodes zero j h = no_nodes j
  statement_nodes (suc f) j h =
      built (stmt_at ns names f) j h (order ns j) (order_distinct ns j g h) (order_all_lem ns j)
      (all_map (Part ns j) _ (λ c p. statement_nodes f c p.inside) (order ns j) (order_all_lem ns j))
      (all_map (Part ns j) _
      (λ c p. of_list (stmt_at ns names f) c p.inside (order ns c) (order_distinct ns c g p.inside) (order_all_lem ns c) (all_map (Part ns c) _ (λ d q. statement_nodes f d q.inside) (order ns c) (order_all_lem ns c)))
      (order ns j) (order_all_lem ns j)) (shape_at ns j)

  -- THE LAW
  pub body_once : (b : ℕ) → b < count ns → Once (nodes_of_all (body_of ns names b))
  unfolding body_of
  body_once b h =
      (of_list (stmt_at ns names (count ns)) b h (order ns b) (order_distinct ns b g h) (order_all_lem ns b)
      (all_map (Part ns b) _ (λ c p. statement_nodes (count ns) c p.inside) (order ns b) (order_all_lem ns b))).once

  -- .. and of a whole unit, whose holder stands in the table.
  pub unit_once : (u : ℕ) → ((b : ℕ) → holder_of ns u ≡ Some (record { 0 = b }) → b < count ns) → Once (nodes_of_all (unit_of ns names u))
  unfolding unit_of nodes_of_all
  unit_once u inside = go (holder_of ns u) refl
    where
      go : (x : Option NodeId) → holder_of ns u ≡ x → Once (nodes_of_all (unit_by ns names x))
      go (Some m) e = body_once m.0 (inside m.0 e)
      go None e = tt
