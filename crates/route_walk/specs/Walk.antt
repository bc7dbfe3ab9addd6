-- A walk of the tree by the completion rules: what it lists, what it takes, how it completes.
use Rattle.std.specs.Prelude.{ℕ, ◌+◌, ◌≤◌, ◌<◌, ◌≡◌, List, [], ◌∷◌, length, drop, set, get_or, Option, Some, None}
use Rattle.table_records.specs.Table.{count}
use Rattle.table_records.specs.Facts.{Tree, Named}
use Rattle.route_completion.specs.Tree.{near, named}
use Rattle.route_completion.specs.Sem.{Entry, asked, Comp, normal, breaks, continues, returns, throws, spent, Out, out}
use Rattle.route_completion.specs.Route.{node_of, asks, end_of, Route}
use Rattle.route_list.specs.Listing.{next, saturated, laid}
use Rattle.code_tree.specs.Labels.{name_id}
use Rattle.code_tree.specs.Statements.{holder_of}
use Rattle.code_layout.specs.Shaped.{Good, Held}
use Rattle.route_walk.specs.declared.Run.{Run}
use Rattle.route_walk.specs.declared.Progress.{Progress}
use Rattle.route_walk.specs.declared.Completion.{Completion}
use Rattle.route_walk.specs.declared.Completion.TheVariants as how

-- What is known of the tables that a walk reads.
pub record Walkable (ns names : List ℕ) : Type 0 where
  pub good : Good ns
  pub named : Named ns names

-- What a clause sees of `Given`, which a walk reads: the tables and the answers.
pub record Read : Type 0 where
  pub nodes : List ℕ
  pub names : List ℕ
  pub answers : List ℕ

-- What is asked of a unit: the node that holds its statements, where it has one, is a list of them in such tables.
-- A `requires` and no struct's invariant: it ties two lent slices and a unit, and `walk_unit` and `shown` (call_walk) alone ask for it.
pub record Enterable (ns names : List ℕ) (u : ℕ) : Type 0 where
  pub tree : Tree ns
  pub root : u < count ns
  pub held : (b : ℕ) → holder_of ns u ≡ Some (record { 0 = b }) → Held ns names b

-- The Completion Record that the walk's number stands for: a label by its node.
abbrev pub comp_at : List ℕ → List ℕ → Completion → Comp
comp_at ns names how.Normal = normal
comp_at ns names how.Break = breaks near
comp_at ns names (how.BreakTo l) = breaks (named (name_id ns names l.0))
comp_at ns names how.Continue = continues near
comp_at ns names (how.ContinueTo l) = continues (named (name_id ns names l.0))
comp_at ns names how.Return = returns
comp_at ns names how.Throw = throws
comp_at ns names how.Spent = spent

-- Its label is a node.
abbrev pub label_in : List ℕ → Completion → Type 0
label_in ns how.Normal = Unit {0}
label_in ns how.Break = Unit {0}
label_in ns (how.BreakTo l) = l.0 < count ns
label_in ns how.Continue = Unit {0}
label_in ns (how.ContinueTo l) = l.0 < count ns
label_in ns how.Return = Unit {0}
label_in ns how.Throw = Unit {0}
label_in ns how.Spent = Unit {0}

-- The slice f with the entries es stored from the n-th on, and their count then.
unfoldable pub written : List ℕ → ℕ → List Entry → List ℕ
written f n [] = f
written f n (e ∷ es) = written (set f n (node_of e)) (next n) es

unfoldable pub counted : ℕ → List Entry → ℕ
counted n [] = n
counted n (e ∷ es) = counted (next n) es

-- From `start` on a walk has done what o says, stands at r and completes as `how` says; s is what it reads.
pub record Walked (s : Read) (start : Progress) (o : Out) (r : Progress) (how : Completion) : Type 0 where
  pub same_slice : r.out.ghost_name ≡ start.out.ghost_name
  pub wrote : r.out.now ≡ written start.out.now start.entries o.nodes
  pub counts : r.entries ≡ counted start.entries o.nodes
  pub took : r.taken ≡ start.taken + asks o.nodes
  pub rest : o.rest ≡ drop r.taken s.answers
  pub inside : r.taken ≤ length s.answers
  pub ended : o.comp ≡ comp_at s.nodes s.names how
  pub label : label_in s.nodes how

-- The node n takes the next answer, a, and is listed as it does.
pub record Answered (s : Read) (start : Progress) (n a : ℕ) (r : Progress) : Type 0 where
  pub left : start.taken < length s.answers
  pub answer : a ≡ get_or s.answers start.taken 0
  pub taken : r.taken ≡ start.taken + 1
  pub walked : Walked s start (out (asked n ∷ []) normal (drop (start.taken + 1) s.answers)) r how.Normal

-- No answer is left, and nothing is done.
pub record Unanswered (s : Read) (start r : Progress) : Type 0 where
  pub none : length s.answers ≤ start.taken
  pub same : r ≡ start

-- The node n takes the next answer, where one is left.
abbrev pub Takes : Read → Progress → ℕ → Progress → Option ℕ → Type 0
Takes s start n r (Some a) = Answered s start n a r
Takes s start n r None = Unanswered s start r

-- What a whole walk comes to is the route w: its list, counted and laid over the slice f, which is then g; the answers taken; the end.
pub record Shows (ns names : List ℕ) (w : Route) (f g : List ℕ) (r : Run) : Type 0 where
  pub counts : r.entries ≡ saturated (length w.list)
  pub wrote : g ≡ laid w.list f
  pub took : r.taken ≡ w.taken
  pub ended : end_of (comp_at ns names r.how) ≡ w.end
