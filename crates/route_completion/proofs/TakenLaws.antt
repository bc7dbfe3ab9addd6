-- The answers taken are as many as the entries that take one; what is left is the list without them.
use Rattle.std.specs.Prelude.{ℕ, zero, suc, ◌+◌, ◌≡◌, refl, Bool, true, false, not, ◌||◌, List, [], ◌∷◌, ◌++◌, length, drop}
use Rattle.std.proofs.Common.{sym, ◌∙◌, ap, drop-drop, arith}
use Rattle.route_completion.specs.Tree.{Stmt, Stmts, Cases, leaf, if1, if2, if3, withs, block, label, loop, switch, try_c, try_f, nil, cons, none, case}
use Rattle.route_completion.specs.Sem.{Entry, plain, asked, Out, normal, out, ask, go_on, unbreak, turn, turns, rounds, loops, pick, is_yes, is_normal, is_throw, is_spent, finally_if, loop_continues, exec, execs, exec_from, entry}
use Rattle.route_completion.specs.Route.{asks}
use Rattle.route_completion.specs.Taken.{Takes, Taking}

pub asks_append : (a b : List Entry) → asks (a ++ b) ≡ asks a + asks b
unfolding asks
asks_append [] b = omega arith
asks_append (plain n ∷ a) b = asks_append a b
asks_append (asked n ∷ a) b = omega (arith, asks_append a b)

joined : (a b : List Entry) (qs r t : List ℕ) → drop (asks a) qs ≡ r → drop (asks b) r ≡ t → drop (asks (a ++ b)) qs ≡ t
joined a b qs r t p q = ap (λ x. drop x qs) (asks_append a b) ∙ sym (drop-drop (asks b) (asks a) qs) ∙ ap (drop (asks b)) p ∙ q

ask_takes : (n : ℕ) (qs : List ℕ) (k : ℕ → List ℕ → Out) → ((a : ℕ) → Taking (k a)) → Takes (ask n qs k) qs
unfolding asks
ask_takes n [] k h = refl
ask_takes n (a ∷ qs) k h = h a qs

go_on_takes : (b : Bool) (o : Out) (k : List ℕ → Out) (qs : List ℕ) → Takes o qs → Taking k → Takes (go_on b o k) qs
go_on_takes true o k qs p h = joined o.nodes (k o.rest).nodes qs o.rest (k o.rest).rest p (h o.rest)
go_on_takes false o k qs p h = p

finally_takes : (b : Bool) (o : Out) (k : List ℕ → Out) (qs : List ℕ) → Takes o qs → Taking k → Takes (finally_if b o k) qs
finally_takes true o k qs p h = p
finally_takes false o k qs p h = joined o.nodes (k o.rest).nodes qs o.rest (k o.rest).rest p (h o.rest)

turn_takes : (ls : List ℕ) (b : Bool) (o : Out) (k : List ℕ → Out) (r : List ℕ) → Takes o r → Taking k → Takes (turn ls b o k r) r
unfolding asks
turn_takes ls true o k r p h = go_on_takes (loop_continues ls o.comp) o k r p h
turn_takes ls false o k r p h = refl

turns_takes : (n : ℕ) (test : Bool) (ls : List ℕ) (body : List ℕ → Out) → Taking body → (f : ℕ) → Taking (turns n test ls body f)
unfolding turns asks
turns_takes n test ls body h zero qs = refl
turns_takes n test ls body h (suc f) qs =
    ask_takes n qs (λ a r. turn ls (is_yes a || not test) (body r) (turns n test ls body f) r)
    (λ a r. turn_takes ls (is_yes a || not test) (body r) (turns n test ls body f) r (h r) (turns_takes n test ls body h f))

rounds_takes : (n : ℕ) (test : Bool) (ls : List ℕ) (body : List ℕ → Out) → Taking body → Taking (rounds n test ls body)
unfolding rounds
rounds_takes n test ls body h qs = turns_takes n test ls body h (length qs) qs

loops_takes : (before : Bool) (n : ℕ) (test : Bool) (ls : List ℕ) (body : List ℕ → Out) → Taking body → Taking (loops before n test ls body)
loops_takes true n test ls body h qs = rounds_takes n test ls body h qs
loops_takes false n test ls body h qs = go_on_takes (loop_continues ls (body qs).comp) (body qs) (rounds n test ls body) qs (h qs) (rounds_takes n test ls body h)

pick_takes : (b : Bool) (o p : Out) (qs : List ℕ) → Takes o qs → Takes p qs → Takes (pick b o p) qs
pick_takes true o p qs h k = h
pick_takes false o p qs h k = k

mutual
  unfolding exec asks

  pub exec_takes : (s : Stmt) (ls : List ℕ) → Taking (exec s ls)
  exec_takes (leaf n l) ls qs = refl
  exec_takes (if1 n s) ls qs =
      ask_takes n qs (λ a r. pick (is_yes a) (exec s [] r) (out [] normal r))
      (λ a r. pick_takes (is_yes a) (exec s [] r) (out [] normal r) r (exec_takes s [] r) refl)
  exec_takes (if2 n s t) ls qs =
      ask_takes n qs (λ a r. pick (is_yes a) (exec s [] r) (exec t [] r))
      (λ a r. pick_takes (is_yes a) (exec s [] r) (exec t [] r) r (exec_takes s [] r) (exec_takes t [] r))
  exec_takes (if3 n t s) ls qs =
      ask_takes n qs (λ a r. pick (is_yes a) (exec s [] r) (exec t [] r))
      (λ a r. pick_takes (is_yes a) (exec s [] r) (exec t [] r) r (exec_takes s [] r) (exec_takes t [] r))
  exec_takes (withs n s) ls qs = exec_takes s [] qs
  exec_takes (block ss) ls qs = execs_takes ss qs
  exec_takes (label l s) ls qs = exec_takes s (l ∷ ls) qs
  exec_takes (loop n before test s) ls qs = loops_takes before n test ls (λ r. exec s [] r) (λ r. exec_takes s [] r) qs
  exec_takes (switch n cs) ls qs = ask_takes n qs (λ a r. unbreak (exec_from cs (entry a cs) r)) (λ a r. exec_from_takes cs (entry a cs) r)
  exec_takes (try_c b h) ls qs = go_on_takes (is_throw (exec b [] qs).comp) (exec b [] qs) (λ r. exec h [] r) qs (exec_takes b [] qs) (λ r. exec_takes h [] r)
  exec_takes (try_f b f) ls qs = finally_takes (is_spent (exec b [] qs).comp) (exec b [] qs) (λ r. exec f [] r) qs (exec_takes b [] qs) (λ r. exec_takes f [] r)

  pub execs_takes : (ss : Stmts) → Taking (execs ss)
  execs_takes nil qs = refl
  execs_takes (cons s ss) qs = go_on_takes (is_normal (exec s [] qs).comp) (exec s [] qs) (λ r. execs ss r) qs (exec_takes s [] qs) (λ r. execs_takes ss r)

  pub exec_from_takes : (cs : Cases) (i : ℕ) → Taking (exec_from cs i)
  exec_from_takes none i qs = refl
  exec_from_takes (case d ss cs) zero qs = go_on_takes (is_normal (execs ss qs).comp) (execs ss qs) (λ r. exec_from cs zero r) qs (execs_takes ss qs) (λ r. exec_from_takes cs zero r)
  exec_from_takes (case d ss cs) (suc i) qs = exec_from_takes cs i qs
