-- Success of the renaming call, and what is true of what it wrote.
use Rattle.std.specs.Prelude.{ℕ, ◌≡◌, List, Ok}
use Rattle.check_dispatch.specs.Rule.{Rule}
use Rattle.call_labels.specs.Written.{nodes_renamed, names_renamed}
use Rattle.call_rename.proofs.TwiceLaws.{done, twice}
use Rattle.call_renamed.proofs.WrittenLaws.{labels_written, same_written}
use Rattle.call_rename_laws.specs.Output.{renaming_of, Output}

pub output : (x : Rule) (s u : List ℕ) (n : ℕ) → (renaming_of x s u).answer ≡ Ok n → Output x s u n (nodes_renamed x.nodes x.names) (names_renamed x.nodes x.names)
output x s u n e =
    let d = done x.source_type x.nodes x.scopes x.source x.names s u n e in
    let l = labels_written x d.passed d.fit d.small in
    record {
      left = d.left;
      bytes = d.bytes;
      labels = l;
      same = same_written x d.passed d.fit d.small;
      twice = twice x.source_type x.nodes x.scopes x.source x.names s u n e l.stays;
    }
