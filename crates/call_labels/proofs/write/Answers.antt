use Rattle.table_records.specs.Table as table
use Rattle.base_common.specs.Wrote.{put}
use Rattle.call_labels.specs.Written.{new_name_of, record_with, record_of, nodes_renamed, names_renamed}
use Rattle.call_labels.proofs.WrittenLaws.{next_length}
use Rattle.call_labels.proofs.WriteLaws.{written_length, write_room, write_turn}
use native.Mathlib.Omega.{arith}
use mathlib.Core.Path.{◌≡◌, ap, ◌∙◌}
use Prim.Native.Nat.{◌+◌, ◌*◌}
use Rattle.call_labels.proofs.write.Goals as goal

pub put_record-requires : goal.put_record-requires
put_record-requires c =
    let a = c.args in
    let ns = a.labels.now.nodes in
    let names = a.labels.now.names in
    let v = c.loop-i.invariant in
    let i = c.loop-i.i in
    let n = table.count ns in
    let size = ap table.count (c.deref.ensures.same ∙ ap (λ v. v.nodes) (c.named.view_is ∙ c.labels.view_is)) in
    let here = ap table.count (c.deref-in-loop-i.ensures.same ∙ ap (λ v. v.nodes) (c.named.view_is ∙ c.labels.view_is)) in
    record { n_bound = omega arith; start_bound = omega (arith, c.requires.names_len_bound, written_length (new_name_of ns names) a.renamed_names.now c.loop-i.renamed_names c.loop-i.w i n (names_renamed ns names) v.2); len_bound = c.new_length-len.ensures.1; n_in_bounds = write_room (record_of ns names) a.renamed_nodes.now c.loop-i.renamed_nodes (i * 10) i n (nodes_renamed ns names) v.1 (omega arith) }

pub put_name-requires : goal.put_name-requires
put_name-requires c =
    let a = c.args in
    let ns = a.labels.now.nodes in
    let names = a.labels.now.names in
    let v = c.loop-i.invariant in
    let i = c.loop-i.i in
    let n = table.count ns in
    let size = ap table.count (c.deref.ensures.same ∙ ap (λ v. v.nodes) (c.named.view_is ∙ c.labels.view_is)) in
    record { n_bound = omega arith; n_in_bounds = write_room (new_name_of ns names) a.renamed_names.now c.loop-i.renamed_names c.loop-i.w i n (names_renamed ns names) v.2 (omega arith) }

pub loop-i-preserved : goal.loop-i-preserved
loop-i-preserved c =
    let a = c.args in
    let ns = a.labels.now.nodes in
    let names = a.labels.now.names in
    let v = c.loop-i.invariant in
    let i = c.loop-i.i in
    let n = table.count ns in
    let size = ap table.count (c.deref.ensures.same ∙ ap (λ v. v.nodes) (c.named.view_is ∙ c.labels.view_is)) in
    let here = c.deref-in-loop-i.ensures.same ∙ ap (λ v. v.nodes) (c.named.view_is ∙ c.labels.view_is) in
    let k = c.new_length-len.ensures.0 in
    let s : record_with c.deref-in-loop-i.result.now i c.loop-i.w c.new_length-len.result ≡ record_of ns names i = rw (here, v.0, k) in (
      omega (arith, v.0, k, next_length (new_name_of ns names) i),
      write_turn (record_of ns names) a.renamed_nodes.now c.loop-i.renamed_nodes (i * 10) i n (nodes_renamed ns names) v.1 (omega arith) _ ((i + 1) * 10) (c.put_record.ensures ∙ ap (put c.loop-i.renamed_nodes (i * 10)) s) (omega arith),
      write_turn (new_name_of ns names) a.renamed_names.now c.loop-i.renamed_names c.loop-i.w i n (names_renamed ns names) v.2 (omega arith) _ (c.loop-i.w + c.new_length-len.result) c.put_name.ensures (ap (λ z. c.loop-i.w + z) k),
    )
