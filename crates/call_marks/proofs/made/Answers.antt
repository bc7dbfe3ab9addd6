use Rattle.call_marks.specs.Made.{shown_or, list_or, marks_or}
use Rattle.call_marks.proofs.MarkedLaws.{made_room, list_room_lem, marks_room}
use Rattle.call_routes.proofs.CallsLaws.{front_code, told_code, slice_over}
use Rattle.code_tree.specs.Statements.{unit_of}
use Rattle.code_flat.specs.Code.{unit}
use lib.ListN.{length, take}
use mathlib.Core.Path.{sym, ◌∙◌, ap}
use Rattle.call_marks.proofs.made.Goals as goal

pub returns : goal.returns
returns c = let a = c.args in let M = a.marks.now in let g = a.section.now in let o = a.out.now in let k = a.code.now in let l = unit (unit_of a.nodes.now a.names.now a.u.0) in let n = c.in_ok-n.n in let t = told_code l (length k) n c.in_ok-n.ensures.value in let s = c.in_ok-n.ensures.code_after ∙ slice_over l k t.1 in let f = c.front.ensures ∙ ap (take n) s ∙ front_code l k n t.0 in record { answer = c.shown.ensures.answer ∙ ap (λ x. shown_or x M g (length o)) f ∙ sym (made_room l M g (length k) t.1 (length o)); code = c.in_ok-n.ensures.code_after; list = c.shown.ensures.list ∙ ap (λ x. list_or x M g o) f ∙ sym (list_room_lem l M g (length k) t.1 o); marks = c.shown.ensures.marks ∙ ap (λ x. marks_or x M g (length o)) f ∙ sym (marks_room l M g (length k) t.1 (length o)) }
