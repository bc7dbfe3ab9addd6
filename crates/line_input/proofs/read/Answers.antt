-- `lines::read` meets its contract.
use Rattle.line_input.proofs.InputLaws.{head_none, gives_parts, none_read, lines_behind, lines_no}
use Rattle.line_input.specs.Format.{head_of, first_of, unread, Room, room_of, read_behind, read_lines}
use Rattle.line_input.specs.declared.Head.{Head}
use Rattle.line_input.specs.declared.Tables.{Tables}
use Rattle.line_input.specs.declared.Unread.{Unread}
use Rattle.line_fields.specs.Split.{lines_of}
use Rattle.std.specs.Prelude.{Option, Some, None, Result, Err}
use Rattle.std.proofs.lemmas.Result.{err_from_is_err_and}
use lib.ListN.{length}
use native.Mathlib.Omega.{arith}
use mathlib.Core.Path.{◌≡◌, ◌∙◌, ap, sym}
use Rattle.line_input.proofs.read.Goals as goal

pub returns : goal.returns
returns c =
    let a = c.args in
    let room : Room = room_of a.nodes.now a.scopes.now a.source.now a.names.now in
    let h = c.in_ok-head.head in
    let o = c.ok_or.ensures.value in
    let w = c.in_ok-head.was in
    let s : ◌≡◌ {A = Option Head} c.read_head.result (Some h) = grind arith in
    let facts = gives_parts (read_behind room h.kind h.nodes h.scopes (lines_of c.after.result.now)) (read_lines room (lines_of a.input.now)) c.read_behind.result a.nodes.now a.scopes.now a.source.now a.names.now
    c.read_behind.new.nodes c.read_behind.new.scopes c.read_behind.new.source c.read_behind.new.names
    (lines_behind room (lines_of a.input.now) h c.line.result.now (lines_of c.after.result.now) c.line.ensures c.after.ensures (sym c.read_head.ensures ∙ s))
    c.read_behind.ensures in record { answer = facts.0; tables = facts.1 }

pub returns-in_err-head : goal.returns-in_err-head
returns-in_err-head c =
    let a = c.args in
    let room : Room = room_of a.nodes.now a.scopes.now a.source.now a.names.now in
    let o = c.ok_or.ensures.value in
    let w = c.in_err-head.was in
    let s : ◌≡◌ {A = Option Head} c.read_head.result None = grind arith in
    let x : ◌≡◌ {A = Result Head Unread} (Err c.in_err-head.field-0.0) (Err (unread 1)) = grind arith in
    let p = err_from_is_err_and c.from_residual.result c.from_residual.ensures.1 in
    let q : ◌≡◌ {A = Result Tables Unread} c.from_residual.result (Err (unread 1)) = cc (p.1, p.2) in
    let j = head_none (length a.nodes.now) (length a.scopes.now) (first_of (lines_of a.input.now)) (ap (head_of (length a.nodes.now) (length a.scopes.now)) (sym c.line.ensures) ∙ (sym c.read_head.ensures ∙ s)) in
    let facts = gives_parts _ (read_lines room (lines_of a.input.now)) _ a.nodes.now a.scopes.now a.source.now a.names.now a.nodes.now a.scopes.now a.source.now a.names.now
    (sym (lines_no room (lines_of a.input.now) j)) (none_read a.nodes.now a.scopes.now a.source.now a.names.now) in record { answer = q ∙ facts.0; tables = facts.1 }
