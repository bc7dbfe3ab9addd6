use mathlib.Core.List.{◌++◌}
use Rattle.check_diagnostics.specs.Finding.{listed}
use Rattle.check_diagnostics.proofs.RaisesLaws.{adds_then}
use Rattle.check_classes.specs.ClassChecks.{check_class}
use Rattle.check_classes.proofs.check_class.Goals as goal

pub returns-clause-adds : goal.returns-clause-adds
unfolding check_class
returns-clause-adds c =
    rw (← c.elements.view_is, ← c.named.view_is, ← c.require_class_name.ensures, ← c.second_constructor.ensures)
    (adds_then _ _ _ _ (listed c.require_class_name.result ++ listed c.second_constructor.result) (rw (← c.elements.view_is, ← c.named.view_is) at c.check_private_identifier.ensures.adds)
    (adds_then _ _ _ (listed c.require_class_name.result) (listed c.second_constructor.result) c.raise.ensures.adds c.raise-2.ensures.adds))
