-- Small tables, computed: the definitions say what they should.
use Rattle.std.specs.Prelude.{ℕ, ◌≡◌, refl, List, [], ◌∷◌}
use Rattle.base_common.specs.Upto.{upto, range}
use Rattle.table_children.specs.Children.{keep}
use Rattle.route_completion.specs.Tree.{leaf, simple, thr, block, withs, try_c, try_f, nil, cons}
use Rattle.code_tree.specs.Parts.{up_of, shape_by, is_part, parts, order}
use Rattle.code_tree.specs.Statements.{leaf_at, stmt_at, body_of, unit_of, holder_of}

-- kind, parent, role, flags
abbrev pub node : ℕ → ℕ → ℕ → ℕ → List ℕ → List ℕ
node kind parent role flags l = kind ∷ parent ∷ role ∷ 0 ∷ 0 ∷ 0 ∷ flags ∷ 0 ∷ 0 ∷ 0 ∷ l

-- `try { throw } catch { } finally { x }`, with the finally first and the block last in the table.
abbrev pub tried : List ℕ
tried = node 0 0 0 0 (node 16 0 3 0 (node 5 1 5 0 (node 22 2 3 0 (node 17 1 4 0 (node 5 4 3 0 (node 5 1 3 0 (node 21 6 3 0 [])))))))

tried_unit : unit_of tried [] 0 ≡ cons (try_f (try_c (block (cons (leaf 7 thr) nil)) (block nil)) (block (cons (leaf 3 simple) nil))) nil
unfolding unit_of holder_of body_of stmt_at order parts is_part up_of shape_by leaf_at keep upto range
tried_unit = refl

-- `export class { static { x } }`: the export is listed, and then x.
abbrev pub exported : List ℕ
exported = node 0 0 0 0 (node 54 0 3 0 (node 26 1 0 32 (node 27 2 0 0 (node 3 3 0 0 (node 22 4 3 0 [])))))

exported_unit : unit_of exported [] 0 ≡ cons (withs 1 (block (cons (block (cons (leaf 5 simple) nil)) nil))) nil
unfolding unit_of holder_of body_of stmt_at order parts is_part up_of shape_by leaf_at keep upto range
exported_unit = refl

-- `class { static { x } }`
abbrev pub declared : List ℕ
declared = node 0 0 0 0 (node 26 0 3 0 (node 27 1 0 0 (node 3 2 0 0 (node 22 3 3 0 []))))

declared_unit : unit_of declared [] 0 ≡ cons (withs 1 (block (cons (block (cons (leaf 4 simple) nil)) nil))) nil
unfolding unit_of holder_of body_of stmt_at order parts is_part up_of shape_by leaf_at keep upto range
declared_unit = refl

-- `(class { static { x } })`: an expression, whose class isn't entered.
abbrev pub expressed : List ℕ
expressed = node 0 0 0 0 (node 22 0 3 0 (node 26 1 0 0 (node 27 2 0 0 (node 3 3 0 0 (node 22 4 3 0 [])))))

expressed_unit : unit_of expressed [] 0 ≡ cons (leaf 1 simple) nil
unfolding unit_of holder_of body_of stmt_at order parts is_part up_of shape_by leaf_at keep upto range
expressed_unit = refl
