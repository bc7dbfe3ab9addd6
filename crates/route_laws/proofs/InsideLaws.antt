-- Whatever a unit lists is one of its nodes.
use Rattle.std.specs.Prelude.{ℕ, refl, List, ◌∷◌, ◌++◌}
use Rattle.std.proofs.Common.{inl, inr}
use Rattle.route_completion.specs.Tree.{Stmt, Stmts, Cases, leaf, if1, if2, if3, withs, block, label, loop, switch, try_c, try_f, nil, cons, none, case}
use Rattle.route_completion.specs.Sem.{Entry, execs}
use Rattle.route_completion.specs.Route.{node_of, nodes_of, nodes_of_all, nodes_of_cases}
use Rattle.route_completion.proofs.Parts.{mem_left, mem_right}
use Rattle.route_completion.specs.Entries.{Each, Lists, ListsAll, ListsCases}
use Rattle.route_completion.proofs.EntriesLaws.{lists_as, lists_all_as, lists_cases_as, execs_each}
use Rattle.route_laws.specs.Inside.{In}

under : (n : ℕ) (N : List ℕ) (e : Entry) → In N e → In (n ∷ N) e
under n N e m = inr m

left : (N M : List ℕ) (e : Entry) → In N e → In (N ++ M) e
left N M e m = mem_left (node_of e) N M m

right : (N M : List ℕ) (e : Entry) → In M e → In (N ++ M) e
right N M e m = mem_right (node_of e) N M m

-- Two statements that stand side by side; and under a node n.
beside : (s t : Stmt) → Lists (In (nodes_of s)) s → Lists (In (nodes_of t)) t → Lists (In (nodes_of s ++ nodes_of t)) s × Lists (In (nodes_of s ++ nodes_of t)) t
beside s t p q = (
  lists_as (In (nodes_of s)) (In (nodes_of s ++ nodes_of t)) (left (nodes_of s) (nodes_of t)) s p,
  lists_as (In (nodes_of t)) (In (nodes_of s ++ nodes_of t)) (right (nodes_of s) (nodes_of t)) t q,
)

below : (n : ℕ) (s t : Stmt) → Lists (In (nodes_of s)) s → Lists (In (nodes_of t)) t
    → Lists (In (n ∷ (nodes_of s ++ nodes_of t))) s × Lists (In (n ∷ (nodes_of s ++ nodes_of t))) t
below n s t p q = (
  lists_as (In (nodes_of s ++ nodes_of t)) (In (n ∷ (nodes_of s ++ nodes_of t))) (under n (nodes_of s ++ nodes_of t)) s (beside s t p q).0,
  lists_as (In (nodes_of s ++ nodes_of t)) (In (n ∷ (nodes_of s ++ nodes_of t))) (under n (nodes_of s ++ nodes_of t)) t (beside s t p q).1,
)

mutual
  unfolding nodes_of

  one_in : (s : Stmt) → Lists (In (nodes_of s)) s
  one_in (leaf n l) = inl refl
  one_in (if1 n s) = (inl refl, lists_as (In (nodes_of s)) (In (n ∷ nodes_of s)) (under n (nodes_of s)) s (one_in s))
  one_in (if2 n s t) = (inl refl, below n s t (one_in s) (one_in t))
  one_in (if3 n t s) = (inl refl, below n t s (one_in t) (one_in s))
  one_in (withs n s) = (inl refl, lists_as (In (nodes_of s)) (In (n ∷ nodes_of s)) (under n (nodes_of s)) s (one_in s))
  one_in (block ss) = all_in ss
  one_in (label l s) = one_in s
  one_in (loop n before test s) = (inl refl, lists_as (In (nodes_of s)) (In (n ∷ nodes_of s)) (under n (nodes_of s)) s (one_in s))
  one_in (switch n cs) = (inl refl, lists_cases_as (In (nodes_of_cases cs)) (In (n ∷ nodes_of_cases cs)) (under n (nodes_of_cases cs)) cs (cases_in cs))
  one_in (try_c b h) = beside b h (one_in b) (one_in h)
  one_in (try_f b f) = beside b f (one_in b) (one_in f)

  all_in : (ss : Stmts) → ListsAll (In (nodes_of_all ss)) ss
  all_in nil = tt
  all_in (cons s ss) = (
    lists_as (In (nodes_of s)) (In (nodes_of s ++ nodes_of_all ss)) (left (nodes_of s) (nodes_of_all ss)) s (one_in s),
    lists_all_as (In (nodes_of_all ss)) (In (nodes_of s ++ nodes_of_all ss)) (right (nodes_of s) (nodes_of_all ss)) ss (all_in ss),
  )

  cases_in : (cs : Cases) → ListsCases (In (nodes_of_cases cs)) cs
  cases_in none = tt
  cases_in (case d ss cs) = (
    lists_all_as (In (nodes_of_all ss)) (In (nodes_of_all ss ++ nodes_of_cases cs)) (left (nodes_of_all ss) (nodes_of_cases cs)) ss (all_in ss),
    lists_cases_as (In (nodes_of_cases cs)) (In (nodes_of_all ss ++ nodes_of_cases cs)) (right (nodes_of_all ss) (nodes_of_cases cs)) cs (cases_in cs),
  )

pub execs_in : (ss : Stmts) (qs : List ℕ) → Each (In (nodes_of_all ss)) (execs ss qs).nodes
execs_in ss qs = execs_each (In (nodes_of_all ss)) ss (all_in ss) qs
