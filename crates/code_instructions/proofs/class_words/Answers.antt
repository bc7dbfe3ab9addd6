use Rattle.code_instructions.proofs.WordsLaws.{class_has}
use Prim.Native.Nat.{◌+◌}
use mathlib.Core.Path.{sym, ap, ◌∙◌, subst}
use Rattle.route_completion.specs.Sem.{normal}
use Rattle.code_tree.specs.Parts.{order}
use Rattle.code_targets.specs.Targets.{target, depth_at}
use Rattle.code_layout.specs.Context.{ifz, head0, offset_at}
use Rattle.code_layout.specs.Words.{words_at}
use Rattle.code_flat.specs.Has.{Has}
use Rattle.code_flat.specs.Code.{at}
use Rattle.code_branch.specs.Branch.{stat_of}
use Rattle.code_instructions.proofs.class_words.Goals as goal

pub returns : goal.returns
returns c = let a = c.args in
    let ns = a.laid.now.nodes in
    let nm = a.laid.now.names in
    let b = a.laid.now.body in
    let n = a.n.0 in
    subst (λ r. Has r 0 (words_at ns nm b n)) (sym c.listing.ensures) (class_has ns nm b n c.requires.b_lt_n c.requires.n_value_2 (stat_of c.entry_of-t.result) (c.entry_of-t.ensures ∙ ap (λ k. ifz (head0 (order ns n)) (target ns nm b n normal) (at (offset_at ns nm b n + k) (depth_at ns nm b n))) c.number_by-own.ensures.value))
