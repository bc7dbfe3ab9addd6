-- Small tables, computed: the definitions say what they should.
use Rattle.std.specs.Prelude.{ℕ, ◌≡◌, refl, List, [], ◌∷◌}
use Rattle.base_common.specs.Upto.{upto, range}
use Rattle.base_walk.specs.Above.{above, climb}
use Rattle.table_children.specs.Children.{keep}
use Rattle.code_tree.specs.Parts.{up_of, shape_by, is_part, parts, order}
use Rattle.code_tree.specs.Statements.{leaf_at}
use Rattle.code_tree.specs.Examples.{node, tried, declared}
use Rattle.code_layout.specs.Widths.{sum, in_unit, own_width, width_by, width_at}
use Rattle.code_layout.specs.Context.{before, behind, context_at, offset_at}
use Rattle.code_layout.specs.Words.{words_at, flat, code_by, code_at}
use Rattle.code_layout.specs.Exact.{open_at, exact_length}

-- `try { throw } catch { } finally { x }`, with the finally first and the block last in the table:
-- OPEN; the block; the throw, to the catch; the catch's block; the finally; x, to what is pending.
tried_code : code_at tried [] 0 0 ≡ 5 ∷ 13 ∷ 2 ∷ 5 ∷ 1 ∷ 1 ∷ 7 ∷ 2 ∷ 10 ∷ 1 ∷ 2 ∷ 21 ∷ 0 ∷ 2 ∷ 16 ∷ 1 ∷ 1 ∷ 3 ∷ 2 ∷ 0 ∷ 1 ∷ []
unfolding code_at code_by flat words_at context_at own_width width_at width_by sum before behind above climb order parts is_part up_of shape_by leaf_at keep upto range
tried_code = refl

tried_offset : offset_at tried [] 0 2 ≡ 13
unfolding context_at own_width width_at width_by sum before behind above climb order parts is_part up_of shape_by keep upto range
tried_offset = refl

tried_length : exact_length tried 0 ≡ 29
unfolding exact_length in_unit open_at sum above climb is_part up_of shape_by upto range
tried_length = refl

-- `try { } catch { throw }`: the throw isn't caught by its own Try, but ends the unit.
abbrev thrown : List ℕ
thrown = node 0 0 0 0 (node 16 0 3 0 (node 5 1 3 0 (node 17 1 4 0 (node 5 3 3 0 (node 21 4 3 0 [])))))

thrown_code : code_at thrown [] 0 0 ≡ 2 ∷ 11 ∷ 0 ∷ 2 ∷ 6 ∷ 0 ∷ 1 ∷ 5 ∷ 2 ∷ 15 ∷ 0 ∷ []
unfolding code_at code_by flat words_at context_at own_width width_at width_by sum before behind above climb order parts is_part up_of shape_by leaf_at keep upto range
thrown_code = refl

-- `class { static { x } }`
declared_code : code_at declared [] 0 0 ≡ 1 ∷ 1 ∷ 2 ∷ 5 ∷ 0 ∷ 2 ∷ 8 ∷ 0 ∷ 1 ∷ 4 ∷ 2 ∷ 13 ∷ 0 ∷ []
unfolding code_at code_by flat words_at context_at own_width width_at width_by sum before behind above climb order parts is_part up_of shape_by leaf_at keep upto range
declared_code = refl
