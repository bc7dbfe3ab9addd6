use Rattle.std.proofs.Common.{sym, arith}
use Rattle.std.proofs.lemmas.List.{length-take-le}
use Rattle.check_element_index.proofs.hash.Goals as goal

pub slice_bounds-hash_on-end : goal.slice_bounds-hash_on-end
slice_bounds-hash_on-end c = sym (length-take-le 32 c.args.name.now (omega (arith, c.if-name.false)))
