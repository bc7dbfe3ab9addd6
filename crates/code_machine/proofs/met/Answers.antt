use native.Mathlib.Omega.{arith}
use Rattle.code_machine.proofs.PendingLaws.{open_here, open_into, wait_below, wait_next, wait_here}
use Rattle.code_machine.proofs.met.Goals as goal

pub returns-then-below-target : goal.returns-then-below-target
returns-then-below-target c = record { depth_value = λ K e. open_here c.args.end K c.args.target (omega arith) (omega arith); shallow = tt }

pub returns-then-end-lt-HALF : goal.returns-then-end-lt-HALF
returns-then-end-lt-HALF c = record { depth_value = λ K e. open_into c.args.end K c.args.target (omega arith) (omega arith) c.place_of.result c.place_of.ensures; shallow = omega arith }

pub returns-then-target-below : goal.returns-then-target-below
returns-then-target-below c = record { depth_value = λ K e. wait_below c.args.end K c.args.target (omega arith) (omega arith); shallow = tt }

pub returns-then-target-eq0 : goal.returns-then-target-eq0
returns-then-target-eq0 c = record { depth_value = λ K e. wait_next c.args.end K c.args.target (omega arith) (omega arith) c.target_of.result c.target_of.ensures; shallow = tt }

pub returns : goal.returns
returns c = record { depth_value = λ K e. wait_here c.args.end K c.args.target (omega arith) (omega arith) c.if-target-eq0.false; shallow = tt }
