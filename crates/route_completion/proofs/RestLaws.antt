-- No statement makes the answers more: what is left is at most what was there.
use Rattle.std.specs.Prelude.{ℕ, zero, suc, ◌≤◌, Bool, true, false, not, ◌||◌, List, [], ◌∷◌, length}
use Rattle.std.proofs.Common.{arith}
use Rattle.route_completion.specs.Tree.{Stmt, Stmts, Cases, leaf, if1, if2, if3, withs, block, label, loop, switch, try_c, try_f, nil, cons, none, case}
use Rattle.route_completion.specs.Sem.{Out, normal, out, ask, go_on, turn, turns, rounds, loops, pick, is_yes, is_normal, is_throw, is_spent, finally_if, loop_continues, exec, execs, exec_from, entry}
use Rattle.route_completion.specs.Rest.{Shrinks}

ask_rest : (n : ℕ) (qs : List ℕ) (k : ℕ → List ℕ → Out) → ((a : ℕ) → Shrinks (k a)) → length (ask n qs k).rest ≤ length qs
ask_rest n [] k h = omega arith
ask_rest n (a ∷ qs) k h = omega (arith, h a qs)

go_on_rest : (b : Bool) (o : Out) (k : List ℕ → Out) (qs : List ℕ) → length o.rest ≤ length qs → Shrinks k → length (go_on b o k).rest ≤ length qs
go_on_rest true o k qs p h = omega (arith, h o.rest)
go_on_rest false o k qs p h = p

finally_rest : (b : Bool) (o : Out) (k : List ℕ → Out) (qs : List ℕ) → length o.rest ≤ length qs → Shrinks k → length (finally_if b o k).rest ≤ length qs
finally_rest true o k qs p h = p
finally_rest false o k qs p h = omega (arith, h o.rest)

turn_rest : (ls : List ℕ) (b : Bool) (o : Out) (k : List ℕ → Out) (r : List ℕ) → length o.rest ≤ length r → Shrinks k
    → length (turn ls b o k r).rest ≤ length r
turn_rest ls true o k r p h = go_on_rest (loop_continues ls o.comp) o k r p h
turn_rest ls false o k r p h = omega arith

turns_rest : (n : ℕ) (test : Bool) (ls : List ℕ) (body : List ℕ → Out) → Shrinks body → (f : ℕ) → Shrinks (turns n test ls body f)
unfolding turns
turns_rest n test ls body h zero qs = omega arith
turns_rest n test ls body h (suc f) qs =
    ask_rest n qs (λ a r. turn ls (is_yes a || not test) (body r) (turns n test ls body f) r)
    (λ a r. turn_rest ls (is_yes a || not test) (body r) (turns n test ls body f) r (h r) (turns_rest n test ls body h f))

rounds_rest : (n : ℕ) (test : Bool) (ls : List ℕ) (body : List ℕ → Out) → Shrinks body → Shrinks (rounds n test ls body)
unfolding rounds
rounds_rest n test ls body h qs = turns_rest n test ls body h (length qs) qs

loops_rest : (before : Bool) (n : ℕ) (test : Bool) (ls : List ℕ) (body : List ℕ → Out) → Shrinks body → Shrinks (loops before n test ls body)
loops_rest true n test ls body h qs = rounds_rest n test ls body h qs
loops_rest false n test ls body h qs = go_on_rest (loop_continues ls (body qs).comp) (body qs) (rounds n test ls body) qs (h qs) (rounds_rest n test ls body h)

pick_rest : (b : Bool) (o p : Out) (qs : List ℕ) → length o.rest ≤ length qs → length p.rest ≤ length qs → length (pick b o p).rest ≤ length qs
pick_rest true o p qs h k = h
pick_rest false o p qs h k = k

mutual
  unfolding exec

  pub exec_rest : (s : Stmt) (ls : List ℕ) → Shrinks (exec s ls)
  exec_rest (leaf n l) ls qs = omega arith
  exec_rest (if1 n s) ls qs =
      ask_rest n qs (λ a r. pick (is_yes a) (exec s [] r) (out [] normal r))
      (λ a r. pick_rest (is_yes a) (exec s [] r) (out [] normal r) r (exec_rest s [] r) (omega arith))
  exec_rest (if2 n s t) ls qs =
      ask_rest n qs (λ a r. pick (is_yes a) (exec s [] r) (exec t [] r))
      (λ a r. pick_rest (is_yes a) (exec s [] r) (exec t [] r) r (exec_rest s [] r) (exec_rest t [] r))
  exec_rest (if3 n t s) ls qs =
      ask_rest n qs (λ a r. pick (is_yes a) (exec s [] r) (exec t [] r))
      (λ a r. pick_rest (is_yes a) (exec s [] r) (exec t [] r) r (exec_rest s [] r) (exec_rest t [] r))
  exec_rest (withs n s) ls qs = exec_rest s [] qs
  exec_rest (block ss) ls qs = execs_rest ss qs
  exec_rest (label l s) ls qs = exec_rest s (l ∷ ls) qs
  exec_rest (loop n before test s) ls qs = loops_rest before n test ls (λ r. exec s [] r) (λ r. exec_rest s [] r) qs
  exec_rest (switch n cs) ls qs = ask_rest n qs _ (λ a r. exec_from_rest cs (entry a cs) r)
  exec_rest (try_c b h) ls qs = go_on_rest (is_throw (exec b [] qs).comp) (exec b [] qs) (λ r. exec h [] r) qs (exec_rest b [] qs) (λ r. exec_rest h [] r)
  exec_rest (try_f b f) ls qs = finally_rest (is_spent (exec b [] qs).comp) (exec b [] qs) (λ r. exec f [] r) qs (exec_rest b [] qs) (λ r. exec_rest f [] r)

  pub execs_rest : (ss : Stmts) → Shrinks (execs ss)
  execs_rest nil qs = omega arith
  execs_rest (cons s ss) qs = go_on_rest (is_normal (exec s [] qs).comp) (exec s [] qs) (λ r. execs ss r) qs (exec_rest s [] qs) (λ r. execs_rest ss r)

  pub exec_from_rest : (cs : Cases) (i : ℕ) → Shrinks (exec_from cs i)
  exec_from_rest none i qs = omega arith
  exec_from_rest (case d ss cs) zero qs = go_on_rest (is_normal (execs ss qs).comp) (execs ss qs) (λ r. exec_from cs zero r) qs (execs_rest ss qs) (λ r. exec_from_rest cs zero r)
  exec_from_rest (case d ss cs) (suc i) qs = exec_from_rest cs i qs
