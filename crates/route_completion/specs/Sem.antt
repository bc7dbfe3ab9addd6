-- What a statement does with a list of answers, by the completion rules of ECMA-262 (6.2.4 and 14). Document 01, "Routes": "A unit runs its
-- statements by ECMA-262's completion rules". Values are left out, so UpdateEmpty says nothing here.
use Rattle.std.specs.Prelude.{ℕ, zero, suc, Bool, true, false, not, ◌||◌, List, [], ◌∷◌, ◌++◌, length, eqb, ltb}
use Rattle.route_completion.specs.Tree.{Lab, near, named, Stmt, Stmts, Cases, Leaf, simple, brk, con, ret, thr, leaf, if1, if2, if3, withs, block, label, loop, switch, try_c, try_f, nil, cons, none, case}

-- An entry of a route: a node that is listed, or one that is listed as it takes an answer.
pub data Entry : Type 0 where
  plain : ℕ → Entry
  asked : ℕ → Entry

-- A Completion Record (6.2.4): its [[Type]], with the [[Target]] of a break and a continue.
-- `spent` is none of the standard's: no answer is left, and the run stops where it is.
pub data Comp : Type 0 where
  normal : Comp
  breaks : Lab → Comp
  continues : Lab → Comp
  returns : Comp
  throws : Comp
  spent : Comp

-- What is listed, how it completes, and the answers that are left.
pub record Out : Type 0 where
  pub nodes : List Entry
  pub comp : Comp
  pub rest : List ℕ

abbrev pub out : List Entry → Comp → List ℕ → Out
out es c r = record { nodes = es; comp = c; rest = r }

-- More entries in front.
abbrev pub more : List Entry → Out → Out
more es o = out (es ++ o.nodes) o.comp o.rest

-- "0 is no, any other number yes."
abbrev pub is_yes : ℕ → Bool
is_yes zero = false
is_yes (suc n) = true

abbrev pub pick {ℓ} : {A : Type ℓ} → Bool → A → A → A
pick true a b = a
pick false a b = b

abbrev pub elem : ℕ → List ℕ → Bool
elem l [] = false
elem l (x ∷ xs) = eqb l x || elem l xs

-- "If, Switch and each loop turn take one answer and are listed as they do, or stop the run if none is left": k goes on with the answer.
abbrev pub ask : ℕ → List ℕ → (ℕ → List ℕ → Out) → Out
ask n [] k = out [] spent []
ask n (a ∷ qs) k = more (asked n ∷ []) (k a qs)

abbrev pub is_normal : Comp → Bool
is_normal normal = true
is_normal (breaks l) = false
is_normal (continues l) = false
is_normal returns = false
is_normal throws = false
is_normal spent = false

-- Go on with k where the test of the completion holds.
abbrev pub go_on : Bool → Out → (List ℕ → Out) → Out
go_on true o k = more o.nodes (k o.rest)
go_on false o k = o

abbrev pub is_throw : Comp → Bool
is_throw normal = false
is_throw (breaks l) = false
is_throw (continues l) = false
is_throw returns = false
is_throw throws = true
is_throw spent = false

abbrev pub is_spent : Comp → Bool
is_spent normal = false
is_spent (breaks l) = false
is_spent (continues l) = false
is_spent returns = false
is_spent throws = false
is_spent spent = true

-- 14.15.3, `try Block Finally`: o, and then the finally block k; "If F is a normal completion, set F to B". Spent answers run no finally.
abbrev pub finally_if : Bool → Out → (List ℕ → Out) → Out
finally_if true o k = o
finally_if false o k = out (o.nodes ++ (k o.rest).nodes) (pick (is_normal (k o.rest).comp) o.comp (k o.rest).comp) (k o.rest).rest

abbrev pub finally : Out → (List ℕ → Out) → Out
finally o k = finally_if (is_spent o.comp) o k

-- 14.15.3, `try Block Catch`: "If B is a throw completion", the catch k.
abbrev pub catching : Out → (List ℕ → Out) → Out
catching o k = go_on (is_throw o.comp) o k

-- 14.2.2, StatementList: "Let sl be ? Evaluation of StatementList", and then the next statement.
abbrev pub and_then : Out → (List ℕ → Out) → Out
and_then o k = go_on (is_normal o.comp) o k

-- 14.7.1.1 LoopContinues ( completion, labelSet ).
abbrev pub loop_continues : List ℕ → Comp → Bool
loop_continues ls normal = true
loop_continues ls (breaks l) = false
loop_continues ls (continues near) = true
loop_continues ls (continues (named l)) = elem l ls
loop_continues ls returns = false
loop_continues ls throws = false
loop_continues ls spent = false

-- 14.13.4 LabelledEvaluation, BreakableStatement: at a loop or a switch a break completion whose target is empty becomes a normal one.
abbrev pub no_break : Comp → Comp
no_break normal = normal
no_break (breaks near) = normal
no_break (breaks (named l)) = breaks (named l)
no_break (continues l) = continues l
no_break returns = returns
no_break throws = throws
no_break spent = spent

-- 14.13.4 LabelledEvaluation, LabelledStatement: a break completion whose target is the label becomes a normal one.
abbrev pub no_label : ℕ → Comp → Comp
no_label l normal = normal
no_label l (breaks near) = breaks near
no_label l (breaks (named m)) = pick (eqb m l) normal (breaks (named m))
no_label l (continues m) = continues m
no_label l returns = returns
no_label l throws = throws
no_label l spent = spent

abbrev pub unbreak : Out → Out
unbreak o = out o.nodes (no_break o.comp) o.rest

abbrev pub unlabel : ℕ → Out → Out
unlabel l o = out o.nodes (no_label l o.comp) o.rest

-- A turn of a loop whose answer is taken: yes runs the body o and goes on with k where LoopContinues; "no leaves the loop".
abbrev pub turn : List ℕ → Bool → Out → (List ℕ → Out) → List ℕ → Out
turn ls true o k r = go_on (loop_continues ls o.comp) o k
turn ls false o k r = out [] normal r

-- The turns of a loop that takes its answer next; "a `for` without a test goes on whatever it says".
-- The number bounds the turns: each takes an answer, so that where it is 0 none is left (Laws.rounds_law).
unfoldable pub turns : ℕ → Bool → List ℕ → (List ℕ → Out) → ℕ → List ℕ → Out
turns n test ls body zero qs = out [] spent qs
turns n test ls body (suc f) qs = ask n qs (λ a r. turn ls (is_yes a || not test) (body r) (turns n test ls body f) r)

unfoldable pub rounds : ℕ → Bool → List ℕ → (List ℕ → Out) → List ℕ → Out
rounds n test ls body qs = turns n test ls body (length qs) qs

-- 14.7.3.2 WhileLoopEvaluation, 14.7.4.3 ForBodyEvaluation and 14.7.5.7 ForIn/OfBodyEvaluation test before the body, 14.7.2.2
-- DoWhileLoopEvaluation after it: "Loops take theirs before the body, DoWhile after".
abbrev pub loops : Bool → ℕ → Bool → List ℕ → (List ℕ → Out) → List ℕ → Out
loops true n test ls body qs = rounds n test ls body qs
loops false n test ls body qs = go_on (loop_continues ls (body qs).comp) (body qs) (rounds n test ls body)

abbrev pub count : Cases → ℕ
count none = zero
count (case d ss cs) = suc (count cs)

-- The place of `default`, or of the end.
abbrev pub default_at : Cases → ℕ
default_at none = zero
default_at (case d ss cs) = pick d zero (suc (default_at cs))

-- "A Switch answer n picks the n-th SwitchCase from 0, `default` counted, else `default`, else leaves the switch".
abbrev pub entry : ℕ → Cases → ℕ
entry a cs = pick (ltb a (count cs)) a (default_at cs)

-- 14.8.2, 14.9.2, 14.10.1, 14.14.1: the completion of a Continue, Break, Return and Throw. "Declarations do nothing more."
abbrev pub comp_of : Leaf → Comp
comp_of simple = normal
comp_of (brk l) = breaks l
comp_of (con l) = continues l
comp_of ret = returns
comp_of thr = throws

unfoldable mutual
  -- 14.13.4 LabelledEvaluation with the label set ls; every other statement than a loop, a switch or a labelled one drops the set.
  pub exec : Stmt → List ℕ → List ℕ → Out
  exec (leaf n l) ls qs = out (plain n ∷ []) (comp_of l) qs
  exec (if1 n s) ls qs = ask n qs (λ a r. pick (is_yes a) (exec s [] r) (out [] normal r))
  exec (if2 n s t) ls qs = ask n qs (λ a r. pick (is_yes a) (exec s [] r) (exec t [] r))
  exec (if3 n t s) ls qs = ask n qs (λ a r. pick (is_yes a) (exec s [] r) (exec t [] r))
  exec (withs n s) ls qs = more (plain n ∷ []) (exec s [] qs)
  exec (block ss) ls qs = execs ss qs
  exec (label l s) ls qs = unlabel l (exec s (l ∷ ls) qs)
  exec (loop n before test s) ls qs = unbreak (loops before n test ls (λ r. exec s [] r) qs)
  exec (switch n cs) ls qs = ask n qs (λ a r. unbreak (exec_from cs (entry a cs) r))
  exec (try_c b h) ls qs = catching (exec b [] qs) (λ r. exec h [] r)
  exec (try_f b f) ls qs = finally (exec b [] qs) (λ r. exec f [] r)

  -- "Those of one holder run in node order."
  pub execs : Stmts → List ℕ → Out
  execs nil qs = out [] normal qs
  execs (cons s ss) qs = and_then (exec s [] qs) (λ r. execs ss r)

  -- 14.12.2 CaseBlockEvaluation from the i-th case on: "later cases follow".
  pub exec_from : Cases → ℕ → List ℕ → Out
  exec_from none i qs = out [] normal qs
  exec_from (case d ss cs) zero qs = and_then (execs ss qs) (λ r. exec_from cs zero r)
  exec_from (case d ss cs) (suc i) qs = exec_from cs i qs
