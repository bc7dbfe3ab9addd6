-- Small tables, computed.
use Rattle.std.specs.Prelude.{ℕ, ◌≡◌, refl, List, []}
use Rattle.base_common.specs.Upto.{upto, range}
use Rattle.base_walk.specs.Above.{above, climb}
use Rattle.refusal_standing.specs.Standing.{is_holder, may_be_statement}
use Rattle.code_tree.specs.Examples.{node, tried, exported, declared, expressed}
use Rattle.code_length.specs.Length.{number_of, of_unit, code_length}

-- `try { throw } catch { } finally { x }`: the blocks 3, 3 and 5, throw and x 5 each, the unit 8.
tried_length : code_length tried 0 ≡ 29
unfolding code_length of_unit number_of is_holder may_be_statement above climb upto range
tried_length = refl

-- `export class { static { x } }`: the export 5, the block 3, x 5, the unit 8; the class isn't listed.
exported_length : code_length exported 0 ≡ 21
unfolding code_length of_unit number_of is_holder may_be_statement above climb upto range
exported_length = refl

-- `class { static { x } }`
declared_length : code_length declared 0 ≡ 21
unfolding code_length of_unit number_of is_holder may_be_statement above climb upto range
declared_length = refl

-- `(class { static { x } })`: the statement alone, 5, and the unit 8.
expressed_length : code_length expressed 0 ≡ 13
unfolding code_length of_unit number_of is_holder may_be_statement above climb upto range
expressed_length = refl

-- `function f() { x }` in a program, and the function as unit: its own 5 there, x 5 here.
abbrev nested : List ℕ
nested = node 0 0 0 0 (node 1 0 3 0 (node 4 1 0 0 (node 22 2 3 0 [])))

program_length : code_length nested 0 ≡ 13
unfolding code_length of_unit number_of is_holder may_be_statement above climb upto range
program_length = refl

function_length : code_length nested 1 ≡ 13
unfolding code_length of_unit number_of is_holder may_be_statement above climb upto range
function_length = refl

-- `while (t) if (t) with (o) switch (s) { case c: x }`: 10, 7, 2, 7, 4 and 5, the unit 8.
abbrev held : List ℕ
held = node 0 0 0 0 (node 10 0 3 0 (node 12 1 3 0 (node 13 2 3 0 (node 14 3 3 0 (node 15 4 3 0 (node 22 5 3 0 []))))))

held_length : code_length held 0 ≡ 43
unfolding code_length of_unit number_of is_holder may_be_statement above climb upto range
held_length = refl

-- `for (let a ..) x`: the declaration in the head, role 7, isn't a statement.
abbrev head : List ℕ
head = node 0 0 0 0 (node 7 0 3 0 (node 24 1 7 0 (node 22 1 3 0 [])))

head_length : code_length head 0 ≡ 23
unfolding code_length of_unit number_of is_holder may_be_statement above climb upto range
head_length = refl
