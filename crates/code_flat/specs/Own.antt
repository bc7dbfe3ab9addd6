-- The code's length is the sum of a number for each node of the unit, which depends on the node's kind, role, flags and parent's kind alone.
-- It is defined without the code (Sum.antt has the law).
use Rattle.std.specs.Prelude.{ℕ, ◌+◌, List, [], ◌∷◌, ◌++◌}
use Rattle.route_completion.specs.Tree.{Stmt, Stmts, Cases, leaf, if1, if2, if3, withs, block, label, loop, switch, try_c, try_f, nil, cons, none, case}

-- A simple statement (kinds 18-22 and, as statements, 1, 24, 26, 53, 54), If, With, Block, Labeled, a loop (7-11), Switch, SwitchCase, the role 5
-- under Try, beside what its Block takes, and the unit's own node. Every other node takes 0: Try, CatchClause, a unit's FunctionBody too.
pub data Shape : Type 0 where
  s_simple : Shape
  s_if : Shape
  s_with : Shape
  s_block : Shape
  s_label : Shape
  s_loop : Shape
  s_switch : Shape
  s_case : Shape
  s_finally : Shape
  s_unit : Shape

abbrev pub own : Shape → ℕ
own s_simple = 5
own s_if = 7
own s_with = 2
own s_block = 3
own s_label = 0
own s_loop = 10
own s_switch = 7
own s_case = 4
own s_finally = 2
own s_unit = 8

unfoldable pub total : List Shape → ℕ
total [] = 0
total (k ∷ ks) = own k + total ks

-- The nodes of a tree, in node order.
unfoldable mutual
  pub shapes : Stmt → List Shape
  shapes (leaf n l) = s_simple ∷ []
  shapes (if1 n s) = s_if ∷ shapes s
  shapes (if2 n s t) = s_if ∷ (shapes s ++ shapes t)
  shapes (if3 n t s) = s_if ∷ (shapes t ++ shapes s)
  shapes (withs n s) = s_with ∷ shapes s
  shapes (block ss) = s_block ∷ shapes_all ss
  shapes (label l s) = s_label ∷ shapes s
  shapes (loop n before test s) = s_loop ∷ shapes s
  shapes (switch n cs) = s_switch ∷ shapes_cases cs
  shapes (try_c b h) = shapes b ++ shapes h
  shapes (try_f b f) = shapes b ++ (s_finally ∷ shapes f)

  pub shapes_all : Stmts → List Shape
  shapes_all nil = []
  shapes_all (cons s ss) = shapes s ++ shapes_all ss

  pub shapes_cases : Cases → List Shape
  shapes_cases none = []
  shapes_cases (case d ss cs) = s_case ∷ (shapes_all ss ++ shapes_cases cs)
