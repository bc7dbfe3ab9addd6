-- The rule that a call is lent.
use Rattle.std.specs.Prelude.{◌≡◌}
use Rattle.check_element_index.specs.Index.{Buckets}
use Rattle.check_dispatch.specs.declared.Rule.{Rule as Lent}
use Rattle.check_dispatch.specs.Rule.{Rule, rule}

abbrev pub rule_of : Lent → Rule
rule_of l = rule l.source_type l.async_bodies l.nodes.now l.scopes.now l.source.now l.names.now

-- Elements of its table.
pub record SameTable (l : Lent) (s : Buckets) : Type 0 where
  pub source_type : s.source_type ≡ l.source_type
  pub nodes : s.nodes ≡ l.nodes.now
  pub names : s.names ≡ l.names.now
