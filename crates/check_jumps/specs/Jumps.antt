-- What a break, a continue and a label raise: each is a walk over the ancestors of the statement, nearest first.
use Rattle.check_diagnostics.specs.declared.Finding.{Finding}
use Rattle.table_records.specs.declared.NodeId.{NodeId}
use Rattle.std.specs.Prelude.{ℕ, zero, suc, Bool, cond, ◌||◌, eqb, Option, Some, None}
use mathlib.Core.List.{List, foldr}
use Rattle.base_common.specs.Tests.{within}
use Rattle.table_records.specs.Table.{kind_of, count, ancestors}
use Rattle.table_records.specs.Kinds as k
use Rattle.table_names.specs.Name.{same_name}
use Rattle.table_children.specs.Children.{label_of, held_of, when_found}
use Rattle.check_diagnostics.specs.Codes as code
use Rattle.check_diagnostics.specs.Contexts as context
use Rattle.check_diagnostics.specs.Finding.{error_at, error_between}

-- "function or static initialization block boundaries": Function, Arrow, StaticBlock
abbrev pub is_boundary : ℕ → Bool
is_boundary kind = within kind k.Function k.StaticBlock

-- a unit, which no jump leaves: the Program or a boundary
abbrev pub is_unit : ℕ → Bool
is_unit kind = within kind k.Program k.StaticBlock

-- an IterationStatement: For, ForIn, ForOf, While, DoWhile
abbrev pub is_iteration : ℕ → Bool
is_iteration kind = within kind k.For k.DoWhile

-- "an IterationStatement or a SwitchStatement"
abbrev pub is_breakable : ℕ → Bool
is_breakable kind = is_iteration kind || eqb kind k.Switch

-- A walk up from n: an ancestor gives what it raises, or hands on what those above it give. Past the program nothing is raised.
unfoldable pub walk_up : List ℕ → (ℕ → Option Finding → Option Finding) → ℕ → Option Finding
walk_up ns says n = foldr says None (ancestors ns n)

-- the label of a, where a is a Labeled and its label has the name of the label l
unfoldable pub same_label : List ℕ → List ℕ → ℕ → ℕ → Option NodeId
same_label ns names l a = cond (eqb (kind_of ns a) k.Labeled) (when_found (label_of ns a) (λ m. cond (same_name ns names m l) (Some (record { 0 = m })) None) None) None

-- What the Labeled a labels, "only Labeled between": the statement that it holds, or under nested Labeled what the last of them holds. A Labeled that
-- holds nothing is left as it is. What is held stands after its holder, so as many steps as there are nodes are enough.
unfoldable pub under : List ℕ → ℕ → ℕ → ℕ
under ns zero a = a
under ns (suc steps) a = cond (eqb (kind_of ns a) k.Labeled) (when_found (held_of ns a) (λ m. under ns steps m) a) a

abbrev pub labeled_item : List ℕ → ℕ → ℕ
labeled_item ns a = under ns (count ns) a

-- WHAT THE ANCESTOR a SAYS TO THE STATEMENT n; r is what the ancestors above it say.
-- To a break without a label: an iteration statement or a switch is its target; in its unit there is none: 18.
unfoldable pub plain_break_at : List ℕ → ℕ → ℕ → Option Finding → Option Finding
plain_break_at ns n a r = cond (is_unit (kind_of ns a)) (error_at ns code.invalid_break n n context.none) (cond (is_breakable (kind_of ns a)) None r)

-- A jump with the label l finds no such label up to a unit of this kind: in the whole program 19, else 20.
unfoldable pub no_label : List ℕ → ℕ → ℕ → ℕ → Option Finding
no_label ns n l kind = cond (eqb kind k.Program) (error_at ns code.invalid_label_target n l context.none) (error_at ns code.invalid_label_jump_target n l context.none)

-- To a break with the label l: a Labeled of that name is its target.
unfoldable pub labelled_break_at : List ℕ → List ℕ → ℕ → ℕ → ℕ → Option Finding → Option Finding
labelled_break_at ns names n l a r = cond (is_unit (kind_of ns a)) (no_label ns n l (kind_of ns a)) (when_found (same_label ns names l a) (λ m. None) r)

-- To a continue without a label: an iteration statement is its target; in its unit there is none: 21.
unfoldable pub plain_continue_at : List ℕ → ℕ → ℕ → Option Finding → Option Finding
plain_continue_at ns n a r = cond (is_unit (kind_of ns a)) (error_at ns code.invalid_continue n n context.none) (cond (is_iteration (kind_of ns a)) None r)

-- A continue with the label l, at the Labeled a of that name whose label is m: its target if a labels an iteration statement, and else 22.
unfoldable pub continue_to : List ℕ → ℕ → ℕ → ℕ → ℕ → Option Finding
continue_to ns n l a m = cond (is_iteration (kind_of ns (labeled_item ns a))) None (error_between ns code.invalid_label_non_iteration n m l)

-- To a continue with the label l: the nearest Labeled of that name decides, on a loop or not.
unfoldable pub labelled_continue_at : List ℕ → List ℕ → ℕ → ℕ → ℕ → Option Finding → Option Finding
labelled_continue_at ns names n l a r = cond (is_unit (kind_of ns a)) (no_label ns n l (kind_of ns a)) (when_found (same_label ns names l a) (λ m. continue_to ns n l a m) r)

-- To a Labeled with the label l: nothing at a boundary, 23 at a Labeled of that name.
unfoldable pub labeled_at : List ℕ → List ℕ → ℕ → ℕ → ℕ → Option Finding → Option Finding
labeled_at ns names n l a r = cond (is_boundary (kind_of ns a)) None (when_found (same_label ns names l a) (λ m. error_between ns code.label_redeclaration n m l) r)

-- THE CHECKS
abbrev pub check_break_statement : List ℕ → List ℕ → ℕ → Option Finding
check_break_statement ns names n = when_found (label_of ns n) (λ l. walk_up ns (labelled_break_at ns names n l) n) (walk_up ns (plain_break_at ns n) n)

abbrev pub check_continue_statement : List ℕ → List ℕ → ℕ → Option Finding
check_continue_statement ns names n = when_found (label_of ns n) (λ l. walk_up ns (labelled_continue_at ns names n l) n) (walk_up ns (plain_continue_at ns n) n)

-- a Labeled without a label, which no well-formed table has, raises nothing
abbrev pub check_labeled_statement : List ℕ → List ℕ → ℕ → Option Finding
check_labeled_statement ns names n = when_found (label_of ns n) (λ l. walk_up ns (labeled_at ns names n l) n) None
