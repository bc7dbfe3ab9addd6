use lib.Seq.{set_out}
use native.Mathlib.Omega.{arith}
use mathlib.Core.Path.{sym}
use Rattle.route_list.proofs.store.Goals as goal

pub returns-else-k-out : goal.returns-else-k-out
returns-else-k-out c = sym (set_out c.args.out.now c.args.k c.args.node (omega arith))
