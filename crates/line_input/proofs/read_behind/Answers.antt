-- `lines::read_behind` meets its contract.
use Rattle.line_input.proofs.InputLaws.{gives_scopes, behind_scopes}
use Rattle.line_input.specs.Format.{scope_lines, Room, room_of, read_behind}
use Rattle.line_fields.specs.Split.{lines_of}
use lib.ListN.{length}
use mathlib.Core.List.{[]}
use mathlib.Core.Path.{◌∙◌, ap}
use Prim.Native.Nat.{ℕ, ◌+◌}
use Rattle.line_input.proofs.read_behind.Goals as goal

pub returns-then-got-s : goal.returns-then-got-s
returns-then-got-s c =
    let a = c.args in
    let ls = lines_of a.b.now in
    let room : Room = room_of a.nodes.now a.scopes.now a.source.now a.names.now in
    let e = c.read_scopes-got.ensures in
    rw c.at_line.ensures (gives_scopes (read_behind room a.head.kind a.head.nodes a.head.scopes ls) a.nodes.now a.scopes.now a.source.now a.names.now a.nodes.now c.read_scopes-got.new.scopes a.source.now a.names.now
    (scope_lines a.head.scopes ls) [] (2 + length (scope_lines a.head.scopes ls)) (2 + c.read_scopes-got.result)
    (behind_scopes room a.head.kind a.head.nodes a.head.scopes ls (λ q. c.if-got-s.true (e.0 ∙ q)))
    (ap (λ (k : ℕ). 2 + k) e.0) e.1)
