-- Where every break and every continue has its target, a unit ends with 0, 1, 2 or 3.
use Prim.Native.Nat.{ℕ, zero, suc, ◌≤◌}
use Rattle.std.specs.Prelude.{◌≡◌, refl, Bool, ◌||◌, length, eqb}
use Rattle.std.proofs.Common.{sym, true≢false, arith}
use Rattle.std.proofs.Math.Bool.{true, false, not}
use mathlib.Core.List.{List, [], ◌∷◌}
use Rattle.route_completion.specs.Tree.{near, named, Stmt, Stmts, Cases, leaf, if1, if2, if3, withs, block, label, loop, switch, try_c, try_f, nil, cons, none, case}
use Rattle.route_completion.specs.Sem.{Out, Comp, normal, breaks, continues, returns, throws, spent, out, ask, go_on, unbreak, no_break, no_label, turn, turns, rounds, loops, pick, is_yes, is_normal, is_throw, is_spent, finally_if, loop_continues, exec, execs, exec_from, entry}
use Rattle.route_completion.specs.Route.{end_of, top_scope, loop_scope, label_scope, Scoped, ScopedAll, ScopedCases}
use Rattle.route_completion.specs.Scope.{Base, In}

base_break : (σ : Comp → Bool) → Base σ → Base (λ c. σ (no_break c))
base_break σ g = record { falls = g.falls; returned = g.returned; thrown = g.thrown; stopped = g.stopped }

base_label : (l : ℕ) (σ : Comp → Bool) → Base σ → Base (label_scope l σ)
base_label l σ g = record { falls = g.falls; returned = g.returned; thrown = g.thrown; stopped = g.stopped }

base_loop : (ls : List ℕ) (σ : Comp → Bool) → Base σ → Base (loop_scope ls σ)
base_loop ls σ g = record { falls = refl; returned = g.returned; thrown = g.thrown; stopped = g.stopped }

ask_in : (σ : Comp → Bool) (n : ℕ) (qs : List ℕ) (k : ℕ → List ℕ → Out) → Base σ → ((a : ℕ) (r : List ℕ) → In σ (k a r)) → In σ (ask n qs k)
ask_in σ n [] k g h = g.stopped
ask_in σ n (a ∷ qs) k g h = h a qs

go_on_in : (σ : Comp → Bool) (b : Bool) (o : Out) (k : List ℕ → Out) → In σ o → ((r : List ℕ) → In σ (k r)) → In σ (go_on b o k)
go_on_in σ true o k p h = h o.rest
go_on_in σ false o k p h = p

pick_in : (σ : Comp → Bool) (b : Bool) (o o' : Out) → In σ o → In σ o' → In σ (pick b o o')
pick_in σ true o o' p q = p
pick_in σ false o o' p q = q

finally_in : (σ : Comp → Bool) (b : Bool) (o : Out) (k : List ℕ → Out) → In σ o → ((r : List ℕ) → In σ (k r)) → In σ (finally_if b o k)
finally_in σ true o k p h = p
finally_in σ false o k p h = go (is_normal (k o.rest).comp)
  where
    go : (b : Bool) → σ (pick b o.comp (k o.rest).comp) ≡ true
    go true = p
    go false = h o.rest

label_in : (l : ℕ) (σ : Comp → Bool) (c : Comp) → label_scope l σ c ≡ true → σ (no_label l c) ≡ true
label_in l σ normal h = h
label_in l σ (breaks near) h = h
label_in l σ (breaks (named m)) h = h
label_in l σ (continues near) h = h
label_in l σ (continues (named m)) h = go (eqb m l) h
  where
    go : (b : Bool) → pick b false (σ (continues (named m))) ≡ true → σ (continues (named m)) ≡ true
    go true e = absurd (true≢false (sym e))
    go false e = e
label_in l σ returns h = h
label_in l σ throws h = h
label_in l σ spent h = h

module _ (σ : Comp → Bool) (g : Base σ) (n : ℕ) (test : Bool) (ls : List ℕ) (body : List ℕ → Out) (ok : (r : List ℕ) → In (loop_scope ls σ) (body r)) where
  round_in : (b : Bool) (o : Out) (k : List ℕ → Out) → b || σ (no_break o.comp) ≡ true → ((r : List ℕ) → In (λ c. σ (no_break c)) (k r))
      → In (λ c. σ (no_break c)) (go_on b o k)
  round_in true o k p h = h o.rest
  round_in false o k p h = p

  turns_in : (f : ℕ) (qs : List ℕ) → In (λ c. σ (no_break c)) (turns n test ls body f qs)
  unfolding turns
  turns_in zero qs = g.stopped
  turns_in (suc f) qs =
      ask_in (λ c. σ (no_break c)) n qs (λ a r. turn ls (is_yes a || not test) (body r) (turns n test ls body f) r) (base_break σ g)
      (λ a r. go (is_yes a || not test) r (turns_in f))
    where
      go : (b : Bool) (r : List ℕ) → ((u : List ℕ) → In (λ c. σ (no_break c)) (turns n test ls body f u))
          → In (λ c. σ (no_break c)) (turn ls b (body r) (turns n test ls body f) r)
      go true r h = round_in (loop_continues ls (body r).comp) (body r) (turns n test ls body f) (ok r) h
      go false r h = g.falls

  loops_in : (before : Bool) (qs : List ℕ) → In (λ c. σ (no_break c)) (loops before n test ls body qs)
  unfolding rounds
  loops_in true qs = turns_in (length qs) qs
  loops_in false qs = round_in (loop_continues ls (body qs).comp) (body qs) (rounds n test ls body) (ok qs) (λ r. turns_in (length r) r)

mutual
  unfolding exec

  pub scoped : (s : Stmt) (ls : List ℕ) (σ : Comp → Bool) → Base σ → Scoped s ls σ → (qs : List ℕ) → In σ (exec s ls qs)
  scoped (leaf n l) ls σ g h qs = h
  scoped (if1 n s) ls σ g h qs =
      ask_in σ n qs (λ a r. pick (is_yes a) (exec s [] r) (out [] normal r)) g
      (λ a r. pick_in σ (is_yes a) (exec s [] r) (out [] normal r) (scoped s [] σ g h r) g.falls)
  scoped (if2 n s t) ls σ g h qs =
      ask_in σ n qs (λ a r. pick (is_yes a) (exec s [] r) (exec t [] r)) g
      (λ a r. pick_in σ (is_yes a) (exec s [] r) (exec t [] r) (scoped s [] σ g h.0 r) (scoped t [] σ g h.1 r))
  scoped (if3 n t s) ls σ g h qs =
      ask_in σ n qs (λ a r. pick (is_yes a) (exec s [] r) (exec t [] r)) g
      (λ a r. pick_in σ (is_yes a) (exec s [] r) (exec t [] r) (scoped s [] σ g h.1 r) (scoped t [] σ g h.0 r))
  scoped (withs n s) ls σ g h qs = scoped s [] σ g h qs
  scoped (block ss) ls σ g h qs = scopeds ss σ g h qs
  scoped (label l s) ls σ g h qs = label_in l σ (exec s (l ∷ ls) qs).comp (scoped s (l ∷ ls) (label_scope l σ) (base_label l σ g) h qs)
  scoped (loop n before test s) ls σ g h qs = loops_in σ g n test ls (λ r. exec s [] r) (λ r. scoped s [] (loop_scope ls σ) (base_loop ls σ g) h r) before qs
  scoped (switch n cs) ls σ g h qs =
      ask_in σ n qs (λ a r. unbreak (exec_from cs (entry a cs) r)) g (λ a r. scoped_from cs (λ c. σ (no_break c)) (base_break σ g) h (entry a cs) r)
  scoped (try_c b c) ls σ g h qs = go_on_in σ (is_throw (exec b [] qs).comp) (exec b [] qs) (λ r. exec c [] r) (scoped b [] σ g h.0 qs) (λ r. scoped c [] σ g h.1 r)
  scoped (try_f b f) ls σ g h qs = finally_in σ (is_spent (exec b [] qs).comp) (exec b [] qs) (λ r. exec f [] r) (scoped b [] σ g h.0 qs) (λ r. scoped f [] σ g h.1 r)

  pub scopeds : (ss : Stmts) (σ : Comp → Bool) → Base σ → ScopedAll ss σ → (qs : List ℕ) → In σ (execs ss qs)
  scopeds nil σ g h qs = g.falls
  scopeds (cons s ss) σ g h qs = go_on_in σ (is_normal (exec s [] qs).comp) (exec s [] qs) (λ r. execs ss r) (scoped s [] σ g h.0 qs) (λ r. scopeds ss σ g h.1 r)

  pub scoped_from : (cs : Cases) (σ : Comp → Bool) → Base σ → ScopedCases cs σ → (i : ℕ) (qs : List ℕ) → In σ (exec_from cs i qs)
  scoped_from none σ g h i qs = g.falls
  scoped_from (case d ss cs) σ g h zero qs =
      go_on_in σ (is_normal (execs ss qs).comp) (execs ss qs) (λ r. exec_from cs zero r) (scopeds ss σ g h.0 qs) (λ r. scoped_from cs σ g h.1 zero r)
  scoped_from (case d ss cs) σ g h (suc i) qs = scoped_from cs σ g h.1 i qs

top_base : Base top_scope
top_base = record { falls = refl; returned = refl; thrown = refl; stopped = refl }

-- The end of a unit in which all have their targets.
pub scoped_end : (ss : Stmts) → ScopedAll ss top_scope → (qs : List ℕ) → end_of (execs ss qs).comp ≤ 3
scoped_end ss h qs = go (execs ss qs).comp (scopeds ss top_scope top_base h qs)
  where
    go : (c : Comp) → top_scope c ≡ true → end_of c ≤ 3
    go normal p = omega arith
    go (breaks l) p = absurd (true≢false (sym p))
    go (continues l) p = absurd (true≢false (sym p))
    go returns p = omega arith
    go throws p = omega arith
    go spent p = omega arith
