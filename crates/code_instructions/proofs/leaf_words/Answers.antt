use Rattle.code_instructions.proofs.WordsLaws.{leaf_has}
use mathlib.Core.Path.{sym, subst}
use Rattle.code_layout.specs.Words.{words_at}
use Rattle.code_flat.specs.Has.{Has}
use Rattle.code_branch.specs.Branch.{stat_of}
use Rattle.code_instructions.proofs.leaf_words.Goals as goal

pub returns : goal.returns
returns c = let a = c.args in
    let ns = a.laid.now.nodes in
    let nm = a.laid.now.names in
    let b = a.laid.now.body in
    let n = a.n.0 in
    subst (λ r. Has r 0 (words_at ns nm b n)) (sym c.listing.ensures) (leaf_has ns nm b n c.requires.b_lt_n c.requires.n_value_2 (stat_of c.leaf_target-t.result) c.leaf_target-t.ensures)
