use Rattle.std.proofs.Common.{ap, sym, ◌∙◌, length}
use Rattle.check_element_index.proofs.IndexLaws.{entered_other, entered_more}
use Rattle.check_element_index.proofs.enter.Goals as goal

pub returns-then-is_element : goal.returns-then-is_element
returns-then-is_element c = let a = c.args in
    let v = ap (λ v. v.nodes) c.named.view_is in
    entered_more a.source_type a.named.now.nodes a.named.now.names (length a.last.now) a.last.now a.entries.now a.e.0 c.requires.entered c.bucket_of-b.result c.key_number.result (rw v at (sym c.is_element.ensures ∙ c.if-is_element.true)) c.requires.e_bound c.bucket_of-b.ensures.value c.bucket_of-b.ensures.inside
    (rw (c.key_of-key.ensures.value, c.from.ensures, v) at c.key_number.ensures) (rw (c.key_of-key.ensures.value, c.from.ensures, v) at c.key_of-key.ensures.below)

pub returns-else-is_element : goal.returns-else-is_element
returns-else-is_element c = let a = c.args in
    let v = ap (λ v. v.nodes) c.named.view_is in
    entered_other a.source_type a.named.now.nodes a.named.now.names (length a.last.now) a.last.now a.entries.now a.e.0 c.requires.entered (rw v at (sym c.is_element.ensures ∙ c.if-is_element.false))
