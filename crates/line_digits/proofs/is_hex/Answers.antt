-- `digits::is_hex` meets its contract.
use Rattle.std.proofs.Common.{rules, refl}
use Rattle.std.specs.List.{list_all}
use Rattle.std.proofs.lemmas.Iterator.{YieldsList-from_slice}
use Rattle.std.proofs.lemmas.Iterator.Search.{all_from_yields_List}
use Rattle.std.proofs.lemmas.List.Recursion.{same_from_clauses}
use Rattle.base_common.specs.Upto.{all}
use borrow.Author.Tests.{tests}
use mathlib.Core.Bool.{true, ◌&&◌}
use mathlib.Core.Path.{◌≡◌}
use Rattle.line_digits.specs.Hex.{is_hex_digit, is_hex}
use Rattle.line_digits.proofs.is_hex.Goals as goal

pub returns-then-all : goal.returns-then-all
unfolding is_hex
returns-then-all c =
    let a = all_from_yields_List is_hex_digit _ _ c.all.result c.all.ensures.ran (YieldsList-from_slice c.args.s.now cc) (λ x b q k. search (rules, tests)) in
    let e = same_from_clauses (all is_hex_digit) (list_all is_hex_digit) (λ x r. is_hex_digit x && r) refl (λ x l. refl) (λ x l. refl) c.args.s.now in
    let z : all is_hex_digit c.args.s.now ≡ true = cc in
    rw z

pub returns-else-all : goal.returns-else-all
unfolding is_hex
returns-else-all c =
    let a = all_from_yields_List is_hex_digit _ _ c.all.result c.all.ensures.ran (YieldsList-from_slice c.args.s.now cc) (λ x b q k. search (rules, tests)) in
    let e = same_from_clauses (all is_hex_digit) (list_all is_hex_digit) (λ x r. is_hex_digit x && r) refl (λ x l. refl) (λ x l. refl) c.args.s.now in
    cc
