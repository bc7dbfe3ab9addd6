-- `lines::read_asked` meets its contract.
use Rattle.line_input.proofs.RouteLaws.{route_by, asked_as}
use Rattle.line_input.specs.Route.{lines_before}
use Rattle.line_fields.specs.Split.{lines_of}
use lib.ListN.{length}
use Rattle.std.specs.Prelude.{Result, Err}
use Rattle.line_input.specs.declared.Two.{Two}
use Rattle.line_input.specs.declared.Missing.{Missing}
use Rattle.line_input.specs.declared.Missing.TheVariants.{NoUnit, NoAnswers}
use mathlib.Core.Path.{◌≡◌, ap, sym}
use Rattle.line_input.proofs.read_asked.Goals as goal

pub returns-in-Ok : goal.returns-in-Ok
returns-in-Ok c =
    let a = c.args in
    asked_as (length a.answers.now) (lines_of a.input.now) a.tables a.answers.now (lines_of c.skip_lines.result.now) c.read_two.result _ _
    c.skip_lines.ensures c.read_two.ensures.0 c.read_two.ensures.1 (sym (ap (route_by a.tables (lines_before a.tables.nodes a.tables.scopes)) c.in-Ok.is))

pub returns-in-Err-NoUnit : goal.returns-in-Err-NoUnit
returns-in-Err-NoUnit c =
    let a = c.args in
    let e : ◌≡◌ {A = Result Two Missing} c.read_two.result (Err NoUnit) = cc (c.in-Err-NoUnit.is, c.in-Err-NoUnit.field-0-is) in
    rw c.at_line.ensures (asked_as (length a.answers.now) (lines_of a.input.now) a.tables a.answers.now (lines_of c.skip_lines.result.now) c.read_two.result _ _
    c.skip_lines.ensures c.read_two.ensures.0 c.read_two.ensures.1 (sym (ap (route_by a.tables (lines_before a.tables.nodes a.tables.scopes)) e)))

pub returns-in-Err-NoAnswers : goal.returns-in-Err-NoAnswers
returns-in-Err-NoAnswers c =
    let a = c.args in
    let e : ◌≡◌ {A = Result Two Missing} c.read_two.result (Err NoAnswers) = cc (c.in-Err-NoAnswers.is, c.in-Err-NoAnswers.field-0-is) in
    rw c.at_line-in-Err-NoAnswers.ensures (asked_as (length a.answers.now) (lines_of a.input.now) a.tables a.answers.now (lines_of c.skip_lines.result.now) c.read_two.result _ _
    c.skip_lines.ensures c.read_two.ensures.0 c.read_two.ensures.1 (sym (ap (route_by a.tables (lines_before a.tables.nodes a.tables.scopes)) e)))
