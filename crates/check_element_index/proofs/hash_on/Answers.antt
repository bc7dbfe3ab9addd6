use Rattle.std.proofs.Common.{ap, ◌∙◌, arith}
use Rattle.std.proofs.lemmas.List.{take_all}
use Rattle.std.specs.Prelude.{List, ℕ}
use Rattle.std.specs.List.{fold}
use Rattle.check_element_index.specs.Index.{hash_step}
use Rattle.check_element_index.proofs.hash_on.Goals as goal

pub returns : goal.returns
returns c = c.loop-byte.invariant ∙ ap (λ (xs : List ℕ). fold hash_step c.args.hashed xs) (take_all c.loop-byte.byte-index c.args.bytes.now (omega arith))
