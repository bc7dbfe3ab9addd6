use Rattle.std.specs.Prelude.{length}
use Rattle.std.proofs.Common.{refl}
use Rattle.check_element_index.proofs.IndexLaws.{entered_start}
use Rattle.check_element_index.proofs.build.Goals as goal

pub loop-i-init : goal.loop-i-init
loop-i-init c = let a = c.args in
    entered_start a.source_type a.named.now.nodes a.named.now.names (length a.last.now) a.last.now a.entries.now c.requires.some refl c.requires.cleared c.requires.room
