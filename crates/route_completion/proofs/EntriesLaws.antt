-- What holds of each entry that a tree can list holds of each entry that it lists.
use Prim.Native.Nat.{ℕ, zero, suc}
use Rattle.std.specs.Prelude.{Bool, ◌||◌, List, [], ◌∷◌, ◌++◌, length}
use Rattle.std.proofs.Math.Bool.{true, false, not}
use Rattle.route_completion.specs.Tree.{Stmt, Stmts, Cases, leaf, if1, if2, if3, withs, block, label, loop, switch, try_c, try_f, nil, cons, none, case}
use Rattle.route_completion.specs.Sem.{Entry, asked, Out, normal, out, ask, go_on, unbreak, turn, turns, rounds, loops, pick, is_yes, is_normal, is_throw, is_spent, finally_if, loop_continues, exec, execs, exec_from, entry}
use Rattle.route_completion.specs.Entries.{Each, Lists, ListsAll, ListsCases}

-- Where P gives Q, it does so at each entry.
pub each_as : (P Q : Entry → Type 0) → ((e : Entry) → P e → Q e) → (es : List Entry) → Each P es → Each Q es
each_as P Q f [] h = tt
each_as P Q f (e ∷ es) h = (f e h.0, each_as P Q f es h.1)

mutual
  pub lists_as : (P Q : Entry → Type 0) → ((e : Entry) → P e → Q e) → (s : Stmt) → Lists P s → Lists Q s
  lists_as P Q f (leaf n l) h = f _ h
  lists_as P Q f (if1 n s) h = (f _ h.0, lists_as P Q f s h.1)
  lists_as P Q f (if2 n s t) h = (f _ h.0, (lists_as P Q f s h.1.0, lists_as P Q f t h.1.1))
  lists_as P Q f (if3 n t s) h = (f _ h.0, (lists_as P Q f t h.1.0, lists_as P Q f s h.1.1))
  lists_as P Q f (withs n s) h = (f _ h.0, lists_as P Q f s h.1)
  lists_as P Q f (block ss) h = lists_all_as P Q f ss h
  lists_as P Q f (label l s) h = lists_as P Q f s h
  lists_as P Q f (loop n before test s) h = (f _ h.0, lists_as P Q f s h.1)
  lists_as P Q f (switch n cs) h = (f _ h.0, lists_cases_as P Q f cs h.1)
  lists_as P Q f (try_c b c) h = (lists_as P Q f b h.0, lists_as P Q f c h.1)
  lists_as P Q f (try_f b c) h = (lists_as P Q f b h.0, lists_as P Q f c h.1)

  pub lists_all_as : (P Q : Entry → Type 0) → ((e : Entry) → P e → Q e) → (ss : Stmts) → ListsAll P ss → ListsAll Q ss
  lists_all_as P Q f nil h = tt
  lists_all_as P Q f (cons s ss) h = (lists_as P Q f s h.0, lists_all_as P Q f ss h.1)

  pub lists_cases_as : (P Q : Entry → Type 0) → ((e : Entry) → P e → Q e) → (cs : Cases) → ListsCases P cs → ListsCases Q cs
  lists_cases_as P Q f none h = tt
  lists_cases_as P Q f (case d ss cs) h = (lists_all_as P Q f ss h.0, lists_cases_as P Q f cs h.1)

module _ (P : Entry → Type 0) where
  -- All outcomes of k have such entries alone.
  abbrev Gives : (List ℕ → Out) → Type 0
  Gives k = (r : List ℕ) → Each P (k r).nodes

  joined : (a b : List Entry) → Each P a → Each P b → Each P (a ++ b)
  joined [] b p q = q
  joined (e ∷ a) b p q = (p.0, joined a b p.1 q)

  ask_each : (n : ℕ) (qs : List ℕ) (k : ℕ → List ℕ → Out) → P (asked n) → ((a : ℕ) → Gives (k a)) → Each P (ask n qs k).nodes
  ask_each n [] k p h = tt
  ask_each n (a ∷ qs) k p h = (p, h a qs)

  go_on_each : (b : Bool) (o : Out) (k : List ℕ → Out) → Each P o.nodes → Gives k → Each P (go_on b o k).nodes
  go_on_each true o k p h = joined o.nodes (k o.rest).nodes p (h o.rest)
  go_on_each false o k p h = p

  finally_each : (b : Bool) (o : Out) (k : List ℕ → Out) → Each P o.nodes → Gives k → Each P (finally_if b o k).nodes
  finally_each true o k p h = p
  finally_each false o k p h = joined o.nodes (k o.rest).nodes p (h o.rest)

  pick_each : (b : Bool) (o p : Out) → Each P o.nodes → Each P p.nodes → Each P (pick b o p).nodes
  pick_each true o p u v = u
  pick_each false o p u v = v

  turn_each : (ls : List ℕ) (b : Bool) (o : Out) (k : List ℕ → Out) (r : List ℕ) → Each P o.nodes → Gives k → Each P (turn ls b o k r).nodes
  turn_each ls true o k r p h = go_on_each (loop_continues ls o.comp) o k p h
  turn_each ls false o k r p h = tt

  module _ (n : ℕ) (test : Bool) (ls : List ℕ) (body : List ℕ → Out) (p : P (asked n)) (h : Gives body) where
    turns_each : (f : ℕ) → Gives (turns n test ls body f)
    unfolding turns
    turns_each zero qs = tt
    turns_each (suc f) qs =
        ask_each n qs (λ a r. turn ls (is_yes a || not test) (body r) (turns n test ls body f) r) p
        (λ a r. turn_each ls (is_yes a || not test) (body r) (turns n test ls body f) r (h r) (turns_each f))

    loops_each : (before : Bool) → Gives (loops before n test ls body)
    unfolding rounds
    loops_each true qs = turns_each (length qs) qs
    loops_each false qs = go_on_each (loop_continues ls (body qs).comp) (body qs) (rounds n test ls body) (h qs) (λ r. turns_each (length r) r)

  mutual
    unfolding exec

    pub exec_each : (s : Stmt) (ls : List ℕ) → Lists P s → Gives (exec s ls)
    exec_each (leaf n l) ls p qs = (p, tt)
    exec_each (if1 n s) ls p qs =
        ask_each n qs (λ a r. pick (is_yes a) (exec s [] r) (out [] normal r)) p.0
        (λ a r. pick_each (is_yes a) (exec s [] r) (out [] normal r) (exec_each s [] p.1 r) tt)
    exec_each (if2 n s t) ls p qs =
        ask_each n qs (λ a r. pick (is_yes a) (exec s [] r) (exec t [] r)) p.0
        (λ a r. pick_each (is_yes a) (exec s [] r) (exec t [] r) (exec_each s [] p.1.0 r) (exec_each t [] p.1.1 r))
    exec_each (if3 n t s) ls p qs =
        ask_each n qs (λ a r. pick (is_yes a) (exec s [] r) (exec t [] r)) p.0
        (λ a r. pick_each (is_yes a) (exec s [] r) (exec t [] r) (exec_each s [] p.1.1 r) (exec_each t [] p.1.0 r))
    exec_each (withs n s) ls p qs = (p.0, exec_each s [] p.1 qs)
    exec_each (block ss) ls p qs = execs_each ss p qs
    exec_each (label l s) ls p qs = exec_each s (l ∷ ls) p qs
    exec_each (loop n before test s) ls p qs = loops_each n test ls (λ r. exec s [] r) p.0 (λ r. exec_each s [] p.1 r) before qs
    exec_each (switch n cs) ls p qs = ask_each n qs (λ a r. unbreak (exec_from cs (entry a cs) r)) p.0 (λ a r. exec_from_each cs p.1 (entry a cs) r)
    exec_each (try_c b h) ls p qs = go_on_each (is_throw (exec b [] qs).comp) (exec b [] qs) (λ r. exec h [] r) (exec_each b [] p.0 qs) (λ r. exec_each h [] p.1 r)
    exec_each (try_f b f) ls p qs = finally_each (is_spent (exec b [] qs).comp) (exec b [] qs) (λ r. exec f [] r) (exec_each b [] p.0 qs) (λ r. exec_each f [] p.1 r)

    pub execs_each : (ss : Stmts) → ListsAll P ss → Gives (execs ss)
    execs_each nil p qs = tt
    execs_each (cons s ss) p qs = go_on_each (is_normal (exec s [] qs).comp) (exec s [] qs) (λ r. execs ss r) (exec_each s [] p.0 qs) (λ r. execs_each ss p.1 r)

    pub exec_from_each : (cs : Cases) → ListsCases P cs → (i : ℕ) → Gives (exec_from cs i)
    exec_from_each none p i qs = tt
    exec_from_each (case d ss cs) p zero qs =
        go_on_each (is_normal (execs ss qs).comp) (execs ss qs) (λ r. exec_from cs zero r) (execs_each ss p.0 qs) (λ r. exec_from_each cs p.1 zero r)
    exec_from_each (case d ss cs) p (suc i) qs = exec_from_each cs p.1 i qs
