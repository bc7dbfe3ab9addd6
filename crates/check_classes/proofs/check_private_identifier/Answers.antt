use Rattle.std.specs.Prelude.{Option}
use Rattle.table_records.specs.declared.ClassId.{ClassId}
use mathlib.Core.List.{[]}
use mathlib.Core.Path.{◌≡◌, sym, ap, subst, ◌∙◌}
use native.Mathlib.Omega.{arith}
use Rattle.check_diagnostics.proofs.RaisesLaws.{adds_none}
use Rattle.check_class_table.specs.Classes.{in_table}
use Rattle.check_classes.specs.ClassChecks.{undeclared_by, undeclared_in, private_undeclared}
use Rattle.check_classes.proofs.check_private_identifier.Goals as goal

pub returns-in_default : goal.returns-in_default
returns-in_default c = let a = c.args in
    let s = a.elements.now in
    let q = rw (ap (λ v. v.nodes) c.named.view_is ∙ ap (λ v. v.nodes) c.elements.view_is) at c.current_class.ensures.value in
    let o : private_undeclared s.source_type s.nodes s.names a.n.0 ≡ [] = ap (undeclared_by s.source_type s.nodes s.names a.n.0) (sym q ∙ c.in_default.is) in
    record { adds = rw o (adds_none a.findings.now); upper_bound = omega arith }

pub undeclared_in-requires : goal.undeclared_in-requires
undeclared_in-requires c = let q = rw (ap (λ v. v.nodes) c.named.view_is ∙ ap (λ v. v.nodes) c.elements.view_is) at c.current_class.ensures.in_table in
    record { c_bound = subst (λ (r : Option ClassId). in_table c.args.elements.now.nodes r) c.in-Some.is q; raised_bound = c.requires.raised_bound }

pub returns : goal.returns
returns c = let a = c.args in
    let s = a.elements.now in
    let q = rw (ap (λ v. v.nodes) c.named.view_is ∙ ap (λ v. v.nodes) c.elements.view_is) at c.current_class.ensures.value in
    let o : private_undeclared s.source_type s.nodes s.names a.n.0 ≡ undeclared_in s.source_type s.nodes s.names a.n.0 c.in-Some.c.0 = ap (undeclared_by s.source_type s.nodes s.names a.n.0) (sym q ∙ c.in-Some.is) in
    record { adds = rw o c.undeclared_in.ensures.adds; upper_bound = c.undeclared_in.ensures.upper_bound }
