-- A route is cut behind each entry that takes an answer: no part has a node twice.
use Prim.Native.Nat.{ℕ, zero, suc}
use Rattle.std.specs.Prelude.{◌≡◌, refl, Bool, ◌||◌, ◌⊎◌, length}
use Rattle.std.proofs.Common.{subst, inl, inr}
use Rattle.std.proofs.Math.Bool.{true, false, not}
use mathlib.Core.List.{List, [], ◌∷◌, ◌++◌}
use Rattle.route_completion.specs.Tree.{Stmt, Stmts, Cases, leaf, if1, if2, if3, withs, block, label, loop, switch, try_c, try_f, nil, cons, none, case}
use Rattle.route_completion.specs.Sem.{Entry, plain, asked, Out, normal, out, ask, go_on, unbreak, turn, turns, rounds, loops, pick, is_yes, is_normal, is_throw, is_spent, finally_if, loop_continues, exec, execs, exec_from, entry}
use Rattle.route_completion.specs.Route.{Mem, Once, onto, parts, AllOnce, nodes_of, nodes_of_all, nodes_of_cases}

pub mem_left : (x : ℕ) (a b : List ℕ) → Mem x a → Mem x (a ++ b)
mem_left x (y ∷ a) b (inl h) = inl h
mem_left x (y ∷ a) b (inr h) = inr (mem_left x a b h)
mem_left x [] b x'' = elim x'' [ ]

pub mem_right : (x : ℕ) (a b : List ℕ) → Mem x b → Mem x (a ++ b)
mem_right x [] b h = h
mem_right x (y ∷ a) b h = inr (mem_right x a b h)

mem_split : (x : ℕ) (a b : List ℕ) → Mem x (a ++ b) → Mem x a ⊎ Mem x b
mem_split x [] b h = inr h
mem_split x (y ∷ a) b (inl h) = inl (inl h)
mem_split x (y ∷ a) b (inr h) = go (mem_split x a b h)
  where
    go : Mem x a ⊎ Mem x b → Mem x (y ∷ a) ⊎ Mem x b
    go (inl u) = inl (inr u)
    go (inr u) = inr u

once_left : (a b : List ℕ) → Once (a ++ b) → Once a
once_left [] b h = tt
once_left (x ∷ a) b h = ((λ m. h.0 (mem_left x a b m)), once_left a b h.1)

once_right : (a b : List ℕ) → Once (a ++ b) → Once b
once_right [] b h = h
once_right (x ∷ a) b h = once_right a b h.1

once_apart : (a b : List ℕ) → Once (a ++ b) → (x : ℕ) → Mem x a → Mem x b → ⊥
once_apart (y ∷ a) b h x (inl e) v = h.0 (mem_right y a b (subst (λ z. Mem z b) e v))
once_apart (y ∷ a) b h x (inr u) v = once_apart a b h.1 x u v
once_apart [] b h x x5 v = elim x5 [ ]

-- What has been listed since the last answer is seen: no entry lists a node that is.
unfoldable Fresh : (ℕ → Type 0) → List Entry → Type 0
Fresh seen [] = Unit {0}
Fresh seen (plain n ∷ es) = (seen n → ⊥) × Fresh (λ x. (x ≡ n) ⊎ seen x) es
Fresh seen (asked n ∷ es) = (seen n → ⊥) × Fresh (λ x. ⊥) es

unfoldable after : (ℕ → Type 0) → List Entry → ℕ → Type 0
after seen [] = seen
after seen (plain n ∷ es) = after (λ x. (x ≡ n) ⊎ seen x) es
after seen (asked n ∷ es) = after (λ x. ⊥) es

fresh_append : (seen : ℕ → Type 0) (a b : List Entry) → Fresh seen a → Fresh (after seen a) b → Fresh seen (a ++ b)
unfolding Fresh after
fresh_append seen [] b p q = q
fresh_append seen (plain n ∷ a) b p q = (p.0, fresh_append (λ x. (x ≡ n) ⊎ seen x) a b p.1 q)
fresh_append seen (asked n ∷ a) b p q = (p.0, fresh_append (λ x. ⊥) a b p.1 q)

after_append : (seen : ℕ → Type 0) (a b : List Entry) (x : ℕ) → after seen (a ++ b) x → after (after seen a) b x
unfolding after
after_append seen [] b x h = h
after_append seen (plain n ∷ a) b x h = after_append (λ y. (y ≡ n) ⊎ seen y) a b x h
after_append seen (asked n ∷ a) b x h = after_append (λ y. ⊥) a b x h

-- Where no node of E has been seen, the entries are fresh, and behind them only nodes of P have come to be seen.
record Within (E P : List ℕ) (es : List Entry) : Type 1 where
  fresh : (seen : ℕ → Type 0) → ((x : ℕ) → Mem x E → seen x → ⊥) → Fresh seen es
  seens : (seen : ℕ → Type 0) (x : ℕ) → after seen es x → Mem x P ⊎ seen x

weaken : (E E' P P' : List ℕ) (es : List Entry) → ((x : ℕ) → Mem x E → Mem x E') → ((x : ℕ) → Mem x P → Mem x P') → Within E P es → Within E' P' es
weaken E E' P P' es f g w = record { fresh = λ seen h. w.fresh seen (λ x m. h x (f x m)); seens = λ seen x a. go seen x (w.seens seen x a) }
  where
    go : (seen : ℕ → Type 0) (x : ℕ) → Mem x P ⊎ seen x → Mem x P' ⊎ seen x
    go seen x (inl m) = inl (g x m)
    go seen x (inr s) = inr s

nothing : Within [] [] []
unfolding Fresh after
nothing = record { fresh = λ seen h. tt; seens = λ seen x a. inr a }

joined : (E P E' P' : List ℕ) (a b : List Entry) → Within E P a → Within E' P' b → ((x : ℕ) → Mem x P → Mem x E' → ⊥) → Within (E ++ E') (P ++ P') (a ++ b)
joined E P E' P' a b u v h =
    record {
      fresh = λ seen k. fresh_append seen a b (u.fresh seen (λ x m. k x (mem_left x E E' m)))
          (v.fresh (after seen a) (λ x m s. not_both seen x m (k x (mem_right x E E' m)) (u.seens seen x s)));
      seens = λ seen x s. go seen x (v.seens (after seen a) x (after_append seen a b x s));
    }
  where
    not_both : (seen : ℕ → Type 0) (x : ℕ) → Mem x E' → (seen x → ⊥) → Mem x P ⊎ seen x → ⊥
    not_both seen x m k (inl p) = h x p m
    not_both seen x m k (inr s) = k s

    more' : (seen : ℕ → Type 0) (x : ℕ) → Mem x P ⊎ seen x → Mem x (P ++ P') ⊎ seen x
    more' seen x (inl p) = inl (mem_left x P P' p)
    more' seen x (inr s) = inr s

    go : (seen : ℕ → Type 0) (x : ℕ) → Mem x P' ⊎ after seen a x → Mem x (P ++ P') ⊎ seen x
    go seen x (inl p) = inl (mem_right x P P' p)
    go seen x (inr s) = more' seen x (u.seens seen x s)

one_of : (n : ℕ) → Within (n ∷ []) (n ∷ []) (plain n ∷ [])
unfolding Fresh after
one_of n = record { fresh = λ seen h. (h n (inl refl), tt); seens = λ seen x a. go seen x a }
  where
    go : (seen : ℕ → Type 0) (x : ℕ) → (x ≡ n) ⊎ seen x → Mem x (n ∷ []) ⊎ seen x
    go seen x (inl e) = inl (inl e)
    go seen x (inr s) = inr s

asked_of : (n : ℕ) (E P : List ℕ) (es : List Entry) → Within E P es → Within (n ∷ []) (n ∷ P) (asked n ∷ es)
unfolding Fresh after
asked_of n E P es w = record { fresh = λ seen h. (h n (inl refl), w.fresh (λ x. ⊥) (λ x m s. s)); seens = λ seen x a. go seen x (w.seens (λ y. ⊥) x a) }
  where
    go : (seen : ℕ → Type 0) (x : ℕ) → Mem x P ⊎ ⊥ → Mem x (n ∷ P) ⊎ seen x
    go seen x (inl e) = inl (inr e)
    go seen x (inr x'') = elim x'' [ ]

-- From here on over outcomes.
ask_within : (n : ℕ) (E P : List ℕ) (qs : List ℕ) (k : ℕ → List ℕ → Out) → ((a : ℕ) (r : List ℕ) → Within E P (k a r).nodes) → Within (n ∷ []) (n ∷ P) (ask n qs k).nodes
ask_within n E P [] k h = weaken [] (n ∷ []) [] (n ∷ P) [] (λ x m. absurd m) (λ x m. absurd m) nothing
ask_within n E P (a ∷ qs) k h = asked_of n E P (k a qs).nodes (h a qs)

go_on_within : (E P E' P' : List ℕ) (b : Bool) (o : Out) (k : List ℕ → Out) → Within E P o.nodes → ((r : List ℕ) → Within E' P' (k r).nodes)
    → ((x : ℕ) → Mem x P → Mem x E' → ⊥) → Within (E ++ E') (P ++ P') (go_on b o k).nodes
go_on_within E P E' P' true o k u v h = joined E P E' P' o.nodes (k o.rest).nodes u (v o.rest) h
go_on_within E P E' P' false o k u v h = weaken E (E ++ E') P (P ++ P') o.nodes (λ x m. mem_left x E E' m) (λ x m. mem_left x P P' m) u

finally_within : (E P E' P' : List ℕ) (b : Bool) (o : Out) (k : List ℕ → Out) → Within E P o.nodes → ((r : List ℕ) → Within E' P' (k r).nodes)
    → ((x : ℕ) → Mem x P → Mem x E' → ⊥) → Within (E ++ E') (P ++ P') (finally_if b o k).nodes
finally_within E P E' P' false o k u v h = joined E P E' P' o.nodes (k o.rest).nodes u (v o.rest) h
finally_within E P E' P' true o k u v h = weaken E (E ++ E') P (P ++ P') o.nodes (λ x m. mem_left x E E' m) (λ x m. mem_left x P P' m) u

pick_within : (E P E' P' : List ℕ) (b : Bool) (o o' : Out) → Within E P o.nodes → Within E' P' o'.nodes → Within (E ++ E') (P ++ P') (pick b o o').nodes
pick_within E P E' P' true o o' u v = weaken E (E ++ E') P (P ++ P') o.nodes (λ x m. mem_left x E E' m) (λ x m. mem_left x P P' m) u
pick_within E P E' P' false o o' u v = weaken E' (E ++ E') P' (P ++ P') o'.nodes (λ x m. mem_right x E E' m) (λ x m. mem_right x P P' m) v

module _ (n : ℕ) (test : Bool) (ls : List ℕ) (body : List ℕ → Out) (B : List ℕ) (apart : Mem n B → ⊥) (ok : (r : List ℕ) → Within B B (body r).nodes) where
  not_in : (x : ℕ) → Mem x B → Mem x (n ∷ []) → ⊥
  not_in x m (inl e) = apart (subst (λ z. Mem z B) e m)
  not_in x m (inr x'') = elim x'' [ ]

  -- The body, and then the next turns.
  body_within : (b : Bool) (o : Out) (k : List ℕ → Out) → Within B B o.nodes → ((r : List ℕ) → Within (n ∷ []) (n ∷ B) (k r).nodes)
      → Within (n ∷ B) (n ∷ B) (go_on b o k).nodes
  body_within b o k u v =
      weaken (B ++ (n ∷ [])) (n ∷ B) (B ++ (n ∷ B)) (n ∷ B) (go_on b o k).nodes (λ x m. swap x (mem_split x B (n ∷ []) m)) (λ x m. both x (mem_split x B (n ∷ B) m))
      (go_on_within B B (n ∷ []) (n ∷ B) b o k u v not_in)
    where
      swap : (x : ℕ) → Mem x B ⊎ Mem x (n ∷ []) → Mem x (n ∷ B)
      swap x (inl m) = inr m
      swap x (inr (inl e)) = inl e
      swap x (inr (inr x3)) = elim x3 [ ]

      both : (x : ℕ) → Mem x B ⊎ Mem x (n ∷ B) → Mem x (n ∷ B)
      both x (inl m) = inr m
      both x (inr m) = m

  dup : (x : ℕ) → Mem x (n ∷ n ∷ B) → Mem x (n ∷ B)
  dup x (inl e) = inl e
  dup x (inr m) = m

  turns_within : (f : ℕ) (qs : List ℕ) → Within (n ∷ []) (n ∷ B) (turns n test ls body f qs).nodes
  unfolding turns
  turns_within zero qs = weaken [] (n ∷ []) [] (n ∷ B) [] (λ x m. absurd m) (λ x m. absurd m) nothing
  turns_within (suc f) qs =
      weaken (n ∷ []) (n ∷ []) (n ∷ n ∷ B) (n ∷ B) (ask n qs (λ a r. turn ls (is_yes a || not test) (body r) (turns n test ls body f) r)).nodes (λ x m. m) dup
      (ask_within n (n ∷ B) (n ∷ B) qs (λ a r. turn ls (is_yes a || not test) (body r) (turns n test ls body f) r) (λ a r. go (is_yes a || not test) r (turns_within f)))
    where
      go : (b : Bool) (r : List ℕ) → ((u : List ℕ) → Within (n ∷ []) (n ∷ B) (turns n test ls body f u).nodes)
          → Within (n ∷ B) (n ∷ B) (turn ls b (body r) (turns n test ls body f) r).nodes
      go true r h = body_within (loop_continues ls (body r).comp) (body r) (turns n test ls body f) (ok r) h
      go false r h = weaken [] (n ∷ B) [] (n ∷ B) [] (λ x m. absurd m) (λ x m. absurd m) nothing

  loops_within : (before : Bool) (qs : List ℕ) → Within (n ∷ B) (n ∷ B) (loops before n test ls body qs).nodes
  unfolding rounds
  loops_within true qs = weaken (n ∷ []) (n ∷ B) (n ∷ B) (n ∷ B) (turns n test ls body (length qs) qs).nodes (λ x m. mem_left x (n ∷ []) B m) (λ x m. m) (turns_within (length qs) qs)
  loops_within false qs = body_within (loop_continues ls (body qs).comp) (body qs) (rounds n test ls body) (ok qs) (λ r. turns_within (length r) r)

single : (n : ℕ) (P : List ℕ) (es : List Entry) → Within (n ∷ []) (n ∷ P) es → Within (n ∷ P) (n ∷ P) es
single n P es w = weaken (n ∷ []) (n ∷ P) (n ∷ P) (n ∷ P) es (λ x m. mem_left x (n ∷ []) P m) (λ x m. m) w

mutual
  unfolding exec nodes_of

  exec_within : (s : Stmt) (ls : List ℕ) → Once (nodes_of s) → (qs : List ℕ) → Within (nodes_of s) (nodes_of s) (exec s ls qs).nodes
  exec_within (leaf n l) ls h qs = one_of n
  exec_within (if1 n s) ls h qs =
      single n (nodes_of s) (ask n qs (λ a r. pick (is_yes a) (exec s [] r) (out [] normal r))).nodes
      (ask_within n (nodes_of s) (nodes_of s) qs (λ a r. pick (is_yes a) (exec s [] r) (out [] normal r)) (λ a r. go (is_yes a) r (exec_within s [] h.1 r)))
    where
      go : (b : Bool) (r : List ℕ) → Within (nodes_of s) (nodes_of s) (exec s [] r).nodes → Within (nodes_of s) (nodes_of s) (pick b (exec s [] r) (out [] normal r)).nodes
      go true r w = w
      go false r w = weaken [] (nodes_of s) [] (nodes_of s) [] (λ x m. absurd m) (λ x m. absurd m) nothing
  exec_within (if2 n s t) ls h qs =
      single n (nodes_of s ++ nodes_of t) (ask n qs (λ a r. pick (is_yes a) (exec s [] r) (exec t [] r))).nodes
      (ask_within n (nodes_of s ++ nodes_of t) (nodes_of s ++ nodes_of t) qs (λ a r. pick (is_yes a) (exec s [] r) (exec t [] r))
      (λ a r. pick_within (nodes_of s) (nodes_of s) (nodes_of t) (nodes_of t) (is_yes a) (exec s [] r) (exec t [] r)
      (exec_within s [] (once_left (nodes_of s) (nodes_of t) h.1) r) (exec_within t [] (once_right (nodes_of s) (nodes_of t) h.1) r)))
  exec_within (if3 n t s) ls h qs =
      single n (nodes_of t ++ nodes_of s) (ask n qs (λ a r. pick (is_yes a) (exec s [] r) (exec t [] r))).nodes
      (ask_within n (nodes_of t ++ nodes_of s) (nodes_of t ++ nodes_of s) qs (λ a r. pick (is_yes a) (exec s [] r) (exec t [] r))
      (λ a r. go (is_yes a) r (exec_within t [] (once_left (nodes_of t) (nodes_of s) h.1) r) (exec_within s [] (once_right (nodes_of t) (nodes_of s) h.1) r)))
    where
      go : (b : Bool) (r : List ℕ) → Within (nodes_of t) (nodes_of t) (exec t [] r).nodes → Within (nodes_of s) (nodes_of s) (exec s [] r).nodes
          → Within (nodes_of t ++ nodes_of s) (nodes_of t ++ nodes_of s) (pick b (exec s [] r) (exec t [] r)).nodes
      go true r u v = pick_within (nodes_of t) (nodes_of t) (nodes_of s) (nodes_of s) false (exec t [] r) (exec s [] r) u v
      go false r u v = pick_within (nodes_of t) (nodes_of t) (nodes_of s) (nodes_of s) true (exec t [] r) (exec s [] r) u v
  exec_within (withs n s) ls h qs =
      joined (n ∷ []) (n ∷ []) (nodes_of s) (nodes_of s) (plain n ∷ []) (exec s [] qs).nodes (one_of n) (exec_within s [] h.1 qs) (once_apart (n ∷ []) (nodes_of s) h)
  exec_within (block ss) ls h qs = execs_within ss h qs
  exec_within (label l s) ls h qs = exec_within s (l ∷ ls) h qs
  exec_within (loop n before test s) ls h qs = loops_within n test ls (λ r. exec s [] r) (nodes_of s) h.0 (λ r. exec_within s [] h.1 r) before qs
  exec_within (switch n cs) ls h qs =
      single n (nodes_of_cases cs) (ask n qs (λ a r. unbreak (exec_from cs (entry a cs) r))).nodes
      (ask_within n (nodes_of_cases cs) (nodes_of_cases cs) qs (λ a r. unbreak (exec_from cs (entry a cs) r)) (λ a r. exec_from_within cs h.1 (entry a cs) r))
  exec_within (try_c b c) ls h qs =
      go_on_within (nodes_of b) (nodes_of b) (nodes_of c) (nodes_of c) (is_throw (exec b [] qs).comp) (exec b [] qs) (λ r. exec c [] r)
      (exec_within b [] (once_left (nodes_of b) (nodes_of c) h) qs) (λ r. exec_within c [] (once_right (nodes_of b) (nodes_of c) h) r) (once_apart (nodes_of b) (nodes_of c) h)
  exec_within (try_f b c) ls h qs =
      finally_within (nodes_of b) (nodes_of b) (nodes_of c) (nodes_of c) (is_spent (exec b [] qs).comp) (exec b [] qs) (λ r. exec c [] r)
      (exec_within b [] (once_left (nodes_of b) (nodes_of c) h) qs) (λ r. exec_within c [] (once_right (nodes_of b) (nodes_of c) h) r) (once_apart (nodes_of b) (nodes_of c) h)

  execs_within : (ss : Stmts) → Once (nodes_of_all ss) → (qs : List ℕ) → Within (nodes_of_all ss) (nodes_of_all ss) (execs ss qs).nodes
  execs_within nil h qs = nothing
  execs_within (cons s ss) h qs =
      go_on_within (nodes_of s) (nodes_of s) (nodes_of_all ss) (nodes_of_all ss) (is_normal (exec s [] qs).comp) (exec s [] qs) (λ r. execs ss r)
      (exec_within s [] (once_left (nodes_of s) (nodes_of_all ss) h) qs) (λ r. execs_within ss (once_right (nodes_of s) (nodes_of_all ss) h) r) (once_apart (nodes_of s) (nodes_of_all ss) h)

  exec_from_within : (cs : Cases) → Once (nodes_of_cases cs) → (i : ℕ) (qs : List ℕ) → Within (nodes_of_cases cs) (nodes_of_cases cs) (exec_from cs i qs).nodes
  exec_from_within none h i qs = nothing
  exec_from_within (case d ss cs) h zero qs =
      go_on_within (nodes_of_all ss) (nodes_of_all ss) (nodes_of_cases cs) (nodes_of_cases cs) (is_normal (execs ss qs).comp) (execs ss qs) (λ r. exec_from cs zero r)
      (execs_within ss (once_left (nodes_of_all ss) (nodes_of_cases cs) h) qs) (λ r. exec_from_within cs (once_right (nodes_of_all ss) (nodes_of_cases cs) h) zero r)
      (once_apart (nodes_of_all ss) (nodes_of_cases cs) h)
  exec_from_within (case d ss cs) h (suc i) qs =
      weaken (nodes_of_cases cs) (nodes_of_all ss ++ nodes_of_cases cs) (nodes_of_cases cs) (nodes_of_all ss ++ nodes_of_cases cs) (exec_from cs i qs).nodes
      (λ x m. mem_right x (nodes_of_all ss) (nodes_of_cases cs) m) (λ x m. mem_right x (nodes_of_all ss) (nodes_of_cases cs) m)
      (exec_from_within cs (once_right (nodes_of_all ss) (nodes_of_cases cs) h) i qs)

-- The first part holds nothing that was seen before, and each part holds no node twice.
abbrev FirstNot : (ℕ → Type 0) → List (List ℕ) → Type 0
FirstNot seen [] = Unit {0}
FirstNot seen (p ∷ ps) = (x : ℕ) → Mem x p → seen x → ⊥

fresh_parts : (seen : ℕ → Type 0) (es : List Entry) → Fresh seen es → FirstNot seen (parts es) × AllOnce (parts es)
unfolding Fresh parts
fresh_parts seen [] h = ((λ x m s. m), (tt, tt))
fresh_parts seen (plain n ∷ es) h = go (parts es) (fresh_parts (λ x. (x ≡ n) ⊎ seen x) es h.1)
  where
    first : (p : List ℕ) → ((x : ℕ) → Mem x p → (x ≡ n) ⊎ seen x → ⊥) → (x : ℕ) → Mem x (n ∷ p) → seen x → ⊥
    first p u x (inl e) s = h.0 (subst seen e s)
    first p u x (inr m) s = u x m (inr s)

    go : (ps : List (List ℕ)) → FirstNot (λ x. (x ≡ n) ⊎ seen x) ps × AllOnce ps → FirstNot seen (onto n ps) × AllOnce (onto n ps)
    go [] u = (first [] (λ x m s. m), (((λ m. m), tt), tt))
    go (p ∷ ps) u = (first p u.0, (((λ m. u.0 n m (inl refl)), u.1.0), u.1.1))
fresh_parts seen (asked n ∷ es) h = (first, (((λ m. m), tt), (fresh_parts (λ x. ⊥) es h.1).1))
  where
    first : (x : ℕ) → Mem x (n ∷ []) → seen x → ⊥
    first x (inl e) s = h.0 (subst seen e s)
    first x (inr x5) s = elim x5 [ ]

-- Where the numbers of the nodes are all different, no part of a route has a node twice.
pub parts_once : (ss : Stmts) → Once (nodes_of_all ss) → (qs : List ℕ) → AllOnce (parts (execs ss qs).nodes)
parts_once ss h qs = (fresh_parts (λ x. ⊥) (execs ss qs).nodes ((execs_within ss h qs).fresh (λ x. ⊥) (λ x m s. s))).1
