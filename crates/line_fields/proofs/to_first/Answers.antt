-- `line_fields::to_first` meets its contract.
use Rattle.std.proofs.Common.{rules}
use Rattle.std.specs.List.{position_or_len}
use Rattle.std.proofs.lemmas.Iterator.{YieldsList-from_slice}
use Rattle.std.proofs.lemmas.Iterator.Search.{position_from_yields_List}
use borrow.Author.Tests.{tests}
use lib.ListN.{length}
use native.Mathlib.Omega.{arith}
use mathlib.Core.Path.{◌≡◌}
use Rattle.std.proofs.Math.Dec.{eqb}
use Rattle.line_fields.specs.Split.{to_first}
use Rattle.line_fields.proofs.SplitLaws.{first_place, before_short, place_or_end}
use Rattle.line_fields.proofs.to_first.Goals as goal

pub returns : goal.returns
returns c =
    let s = c.args.s.now in
    let d = c.args.d in
    let p = position_from_yields_List (λ x. eqb x d) _ _ c.position.result c.position.ensures.ran (YieldsList-from_slice s cc) (λ x b q k. search (rules, tests)) in
    let f = first_place d s in
    let b = before_short d s in
    let u = place_or_end (position_or_len (λ x. eqb x d) s) (length s) (omega arith) in
    let e : c.unwrap_or.result ≡ to_first d s = cc in
    (e, omega arith)
