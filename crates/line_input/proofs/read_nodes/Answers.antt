use Rattle.line_input.proofs.ReadLaws.{noding_again, noding_start, noding_done, nodes_bad, nodes_full, nodes_none}
use Rattle.line_input.specs.Format.{NodesRead, first_of, node_of, node_lines}
use Rattle.line_forms.specs.Forms.{name_of}
use Rattle.line_fields.specs.Split.{lines_of}
use Rattle.base_common.specs.Wrote.{put}
use lib.ListN.{length}
use native.Mathlib.Omega.{arith}
use native.Mathlib.Nat.{min-le_right}
use mathlib.Core.List.{List}
use mathlib.Core.Path.{◌≡◌, ◌∙◌, ap, subst}
use Prim.Native.Nat.{ℕ, ◌+◌, ◌-◌, ◌*◌, min}
use Rattle.line_input.proofs.read_nodes.Goals as goal

pub loop-lines-init : goal.loop-lines-init
loop-lines-init c =
    let a = c.args in
    let e = c.min-room.ensures in
    let m = min-le_right 1024 (length a.names.now) in
    noding_start a.nodes.now a.names.now c.min-room.result a.n (lines_of a.b.now) c.requires (omega arith)

pub returns-then-not-is_node : goal.returns-then-not-is_node
returns-then-not-is_node c =
    let a = c.args in
    let o = c.loop-lines in
    let r = c.min-room.result in
    subst (λ (x : ℕ). NodesRead (node_lines x a.n (lines_of a.b.now)) a.nodes.now a.names.now o.lines o.bytes o.nodes o.names) c.min-room.ensures
    (noding_done a.nodes.now o.nodes a.names.now o.names r a.n (node_lines r a.n (lines_of a.b.now)) o.lines o.bytes (lines_of o.t.now) o.invariant
    (nodes_bad (r - o.bytes) (a.n - o.lines) (lines_of o.t.now) (cc (c.if-not-is_node.true))))

pub returns-then-room-bytes : goal.returns-then-room-bytes
returns-then-room-bytes c =
    let a = c.args in
    let o = c.loop-lines in
    let r = c.min-room.result in
    let ls = lines_of o.t.now in
    let l : length c.name-text.result.now ≡ length (name_of (first_of ls)) = ap length c.name-text.ensures ∙ ap (λ (x : List ℕ). length (name_of x)) c.line-l.ensures in
    subst (λ (x : ℕ). NodesRead (node_lines x a.n (lines_of a.b.now)) a.nodes.now a.names.now o.lines o.bytes o.nodes o.names) c.min-room.ensures
    (noding_done a.nodes.now o.nodes a.names.now o.names r a.n (node_lines r a.n (lines_of a.b.now)) o.lines o.bytes ls o.invariant
    (nodes_full (r - o.bytes) (a.n - o.lines) ls (cc (c.if-not-is_node.false)) (omega (arith, c.if-room-bytes.true))))

pub loop-lines-preserved : goal.loop-lines-preserved
loop-lines-preserved c =
    let a = c.args in
    let o = c.loop-lines in
    let r = c.min-room.result in
    let ls = lines_of o.t.now in
    let q : c.name-text.result.now ≡ name_of (first_of ls) = c.name-text.ensures ∙ ap name_of c.line-l.ensures in
    let l : length c.name-text.result.now ≡ length (name_of (first_of ls)) = ap length q in
    noding_again a.nodes.now o.nodes a.names.now o.names r a.n (node_lines r a.n (lines_of a.b.now)) o.lines o.bytes ls o.invariant
    (omega (arith, c.loop-lines-test.true)) (cc (c.if-not-is_node.false)) (omega (arith, c.if-room-bytes.false))
    _ _ _ _
    (c.write_node.ensures ∙ ap (λ (x : List ℕ). put o.nodes (o.lines * 10) (node_of o.bytes x)) c.line-l.ensures)
    (c.copy.ensures ∙ ap (put o.names o.bytes) q) (ap (λ (k : ℕ). o.bytes + k) l) c.after-t.ensures

pub returns : goal.returns
returns c =
    let a = c.args in
    let o = c.loop-lines in
    let r = c.min-room.result in
    let few = o.invariant.few in
    let e : o.lines ≡ a.n = omega arith in
    subst (λ (k : ℕ). NodesRead (node_lines (min 1024 (length a.names.now)) a.n (lines_of a.b.now)) a.nodes.now a.names.now k o.bytes o.nodes o.names) e
    (subst (λ (x : ℕ). NodesRead (node_lines x a.n (lines_of a.b.now)) a.nodes.now a.names.now o.lines o.bytes o.nodes o.names) c.min-room.ensures
    (noding_done a.nodes.now o.nodes a.names.now o.names r a.n (node_lines r a.n (lines_of a.b.now)) o.lines o.bytes (lines_of o.t.now) o.invariant
    (nodes_none (r - o.bytes) (a.n - o.lines) (lines_of o.t.now) (omega arith))))
