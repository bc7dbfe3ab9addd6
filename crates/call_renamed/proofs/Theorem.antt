-- THE THEOREM OF RENAMED LABELS: document 02, request 12, "then findings are equal in code, node, spans and context, and routes of units are equal too".
use Rattle.std.specs.Prelude.{ℕ, ◌≡◌, List}
use Rattle.std.proofs.Common.{sym, ◌∙◌}
use Rattle.check_dispatch.specs.Rule.{Rule}
use Rattle.refusal_input.proofs.InputLaws.{input_well_formed}
use Rattle.refusal_input.specs.WellFormed.{WellFormed}
use Rattle.call_routes.specs.Calls.{code_refusal}
use Rattle.table_renamed.specs.Alike.{Alike}
use Rattle.table_renamed.proofs.RenamedLaws.{everywhere}
use Rattle.check_renamed.proofs.FindingsLaws.{findings_renamed}
use Rattle.call_renamed.specs.Same.{with_tables, refused_input, LabelsRenamed, Read, Same}
use Rattle.call_renamed.proofs.UnitLaws.{same_unit_lem}
use Rattle.call_renamed.proofs.StateLaws.{same_length, same_state}
use Rattle.call_renamed.proofs.CallLaws.{same_calls}

module _ (x : Rule) (ms mnames : List ℕ) (r : LabelsRenamed x ms mnames) where
  old : WellFormed x.source_type x.nodes x.scopes x.source x.names
  old = input_well_formed x.source_type x.nodes x.scopes x.source x.names r.formed

  new : WellFormed x.source_type ms x.scopes x.source mnames
  new = input_well_formed x.source_type ms x.scopes x.source mnames r.stays

  alike : Alike x.nodes x.names ms mnames
  alike = everywhere x.nodes x.names ms mnames old.sizes.whole r.renamed

  its_input : refused_input x ≡ refused_input (with_tables x ms mnames)
  its_input = r.formed ∙ sym r.stays

  read : Read x (with_tables x ms mnames)
  unfolding code_refusal
  read =
      let f =
      findings_renamed x.nodes x.names ms mnames r.renamed old.sizes.whole old.input.named new.input.named r.old r.new x.source_type x.scopes x.source
      x.async_bodies
      in
      record {
        input = its_input;
        findings = f;
        refusal = λ u. rw (its_input, same_state x.nodes x.names ms mnames alike x.source_type x.async_bodies x.scopes x.source f u);
        long = same_length x.nodes x.names ms mnames alike;
        unit = same_unit_lem x.nodes x.names ms mnames alike;
      }

  pub labels_renamed : Same x (with_tables x ms mnames)
  labels_renamed = same_calls x (with_tables x ms mnames) read
