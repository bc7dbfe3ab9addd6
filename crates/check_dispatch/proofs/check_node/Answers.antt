use Rattle.check_dispatch.specs.Findings.{findings_at}
use Rattle.check_diagnostics.proofs.RaisesLaws.{of_three, of_two, adds_none}
use Rattle.check_dispatch.proofs.FindingsLaws.{no_case}
use native.Mathlib.Omega.{arith}
use Rattle.check_dispatch.proofs.check_node.Goals as goal

pub check_class-requires : goal.check_class-requires
check_class-requires c = let i = c.requires.input in let h = c.requires.n_bound in record { n_bound = rw c.requires.same.nodes h; n_bound_2 = rw c.requires.same.nodes (omega (arith, i.spanned.span c.args.n.0 h, i.spanned.small c.args.n.0 h)); raised_bound = omega arith }

pub check_await_expression-requires : goal.check_await_expression-requires
check_await_expression-requires c = let i = c.requires.input in record { scoped = i.scoped; spanned = i.spanned; n_bound = c.requires.n_bound; raised_bound = omega arith }

pub check_object_expression-requires : goal.check_object_expression-requires
check_object_expression-requires c = let i = c.requires.input in record { n_bound = c.requires.n_bound; raised_bound = omega arith }

pub returns-in-31 : goal.returns-in-31
unfolding findings_at
returns-in-31 c = record { adds = rw (← c.kind.ensures, c.in-31.is, ← c.check_identifier-a.ensures, ← c.check_binding_identifier-b.ensures) (rw of_two at c.raise_all.ensures.adds); upper_bound = omega (arith, c.raise_all.ensures.upper_bound) }

pub returns-in-32 : goal.returns-in-32
unfolding findings_at
returns-in-32 c = record { adds = rw (← c.kind.ensures, c.in-32.is, ← c.check_identifier-a-in-32.ensures, ← c.check_identifier_reference-b.ensures) (rw of_two at c.raise_all-in-32.ensures.adds); upper_bound = omega (arith, c.raise_all-in-32.ensures.upper_bound) }

pub returns-in-33 : goal.returns-in-33
unfolding findings_at
returns-in-33 c = record { adds = rw (← c.kind.ensures, c.in-33.is, ← c.check_identifier.ensures) c.raise.ensures.adds; upper_bound = omega (arith, c.raise.ensures.upper_bound) }

pub returns-in-34 : goal.returns-in-34
unfolding findings_at
returns-in-34 c = record { adds = rw (← c.kind.ensures, c.in-34.is, ← c.check_private_identifier_outside_class.ensures) c.raise-in-34.ensures.adds; upper_bound = omega (arith, c.raise-in-34.ensures.upper_bound) }

pub returns-in-35 : goal.returns-in-35
unfolding findings_at
returns-in-35 c = record { adds = rw (← c.kind.ensures, c.in-35.is, ← c.check_number_literal.ensures) c.raise-in-35.ensures.adds; upper_bound = omega (arith, c.raise-in-35.ensures.upper_bound) }

pub returns-in-36 : goal.returns-in-36
unfolding findings_at
returns-in-36 c = record { adds = rw (← c.kind.ensures, c.in-36.is, ← c.check_string_literal.ensures) c.raise-in-36.ensures.adds; upper_bound = omega (arith, c.raise-in-36.ensures.upper_bound) }

pub returns-in-23 : goal.returns-in-23
unfolding findings_at
returns-in-23 c = record { adds = rw (← c.kind.ensures, c.in-23.is, ← c.check_directive.ensures) c.raise-in-23.ensures.adds; upper_bound = omega (arith, c.raise-in-23.ensures.upper_bound) }

pub returns-in-13 : goal.returns-in-13
unfolding findings_at
returns-in-13 c = record { adds = rw (← c.kind.ensures, c.in-13.is, ← c.check_body-a.ensures, ← c.check_with_statement-b.ensures) (rw of_two at c.raise_all-in-13.ensures.adds); upper_bound = omega (arith, c.raise_all-in-13.ensures.upper_bound) }

pub returns-in-18 : goal.returns-in-18
unfolding findings_at
returns-in-18 c = record { adds = rw (← c.kind.ensures, c.in-18.is, ← c.check_break_statement.ensures) c.raise-in-18.ensures.adds; upper_bound = omega (arith, c.raise-in-18.ensures.upper_bound) }

pub returns-in-19 : goal.returns-in-19
unfolding findings_at
returns-in-19 c = record { adds = rw (← c.kind.ensures, c.in-19.is, ← c.check_continue_statement.ensures) c.raise-in-19.ensures.adds; upper_bound = omega (arith, c.raise-in-19.ensures.upper_bound) }

pub returns-in-6 : goal.returns-in-6
unfolding findings_at
returns-in-6 c = record { adds = rw (← c.kind.ensures, c.in-6.is, ← c.check_labeled_statement-a.ensures, ← c.check_function_declaration_in_labeled_statement-b.ensures) (rw of_two at c.raise_all-in-6.ensures.adds); upper_bound = omega (arith, c.raise_all-in-6.ensures.upper_bound) }

pub returns-in-8 : goal.returns-in-8
unfolding findings_at
returns-in-8 c = record { adds = rw (← c.kind.ensures, c.in-8.is, ← c.check_body-a-in-8.ensures, ← c.check_for_statement_left-b.ensures) (rw of_two at c.raise_all-in-8.ensures.adds); upper_bound = omega (arith, c.raise_all-in-8.ensures.upper_bound) }

pub returns-in-9 : goal.returns-in-9
unfolding findings_at
returns-in-9 c = record { adds = rw (← c.kind.ensures, c.in-9.is, ← c.check_body-a-in-9.ensures, ← c.check_for_of_statement-b.ensures, ← c.check_for_statement_left-d.ensures) (rw of_three at c.raise_all-in-9.ensures.adds); upper_bound = omega (arith, c.raise_all-in-9.ensures.upper_bound) }

pub returns-in-10 : goal.returns-in-10
unfolding findings_at
returns-in-10 c = record { adds = rw (← c.kind.ensures, c.in-10.is, ← c.check_body.ensures) c.raise-in-10.ensures.adds; upper_bound = omega (arith, c.raise-in-10.ensures.upper_bound) }

pub returns-in-11 : goal.returns-in-11
unfolding findings_at
returns-in-11 c = record { adds = rw (← c.kind.ensures, c.in-11.is, ← c.check_body-in-11.ensures) c.raise-in-11.ensures.adds; upper_bound = omega (arith, c.raise-in-11.ensures.upper_bound) }

pub returns-in-7 : goal.returns-in-7
unfolding findings_at
returns-in-7 c = record { adds = rw (← c.kind.ensures, c.in-7.is, ← c.check_body-in-7.ensures) c.raise-in-7.ensures.adds; upper_bound = omega (arith, c.raise-in-7.ensures.upper_bound) }

pub returns-in-12 : goal.returns-in-12
unfolding findings_at
returns-in-12 c = record { adds = rw (← c.kind.ensures, c.in-12.is, ← c.check_consequent-a.ensures, ← c.check_alternate-b.ensures) (rw of_two at c.raise_all-in-12.ensures.adds); upper_bound = omega (arith, c.raise_all-in-12.ensures.upper_bound) }

pub returns-in-26 : goal.returns-in-26
unfolding findings_at
returns-in-26 c = let t = c.requires.same in record { adds = rw (← c.kind.ensures, c.in-26.is) (rw (t.source_type, t.nodes, t.names) at c.check_class.ensures.adds); upper_bound = omega (arith, c.check_class.ensures.upper_bound) }

pub returns-in-37 : goal.returns-in-37
unfolding findings_at
returns-in-37 c = record { adds = rw (← c.kind.ensures, c.in-37.is, ← c.check_super.ensures) c.raise-in-37.ensures.adds; upper_bound = omega (arith, c.raise-in-37.ensures.upper_bound) }

pub returns-in-47 : goal.returns-in-47
unfolding findings_at
returns-in-47 c = record { adds = rw (← c.kind.ensures, c.in-47.is) c.check_await_expression.ensures.adds; upper_bound = omega (arith, c.check_await_expression.ensures.upper_bound) }

pub returns-in-43 : goal.returns-in-43
unfolding findings_at
returns-in-43 c = record { adds = rw (← c.kind.ensures, c.in-43.is) c.check_object_expression.ensures.adds; upper_bound = omega (arith, c.check_object_expression.ensures.upper_bound) }

pub returns-in-45 : goal.returns-in-45
unfolding findings_at
returns-in-45 c = record { adds = rw (← c.kind.ensures, c.in-45.is, ← c.check_unary_expression.ensures) c.raise-in-45.ensures.adds; upper_bound = omega (arith, c.raise-in-45.ensures.upper_bound) }

pub returns-in-48 : goal.returns-in-48
unfolding findings_at
returns-in-48 c = record { adds = rw (← c.kind.ensures, c.in-48.is, ← c.check_yield_expression.ensures) c.raise-in-48.ensures.adds; upper_bound = omega (arith, c.raise-in-48.ensures.upper_bound) }

pub returns-in-24 : goal.returns-in-24
unfolding findings_at
returns-in-24 c = record { adds = rw (← c.kind.ensures, c.in-24.is, ← c.check_using-a.ensures, ← c.check_await_using-b.ensures) (rw of_two at c.raise_all-in-24.ensures.adds); upper_bound = omega (arith, c.raise_all-in-24.ensures.upper_bound) }

pub returns-in_default : goal.returns-in_default
returns-in_default c = let r = c.args.rule.now in record { adds = rw (no_case r.source_type r.nodes.now r.scopes.now r.source.now r.names.now c.args.n.0 _ c.kind.ensures (λ q. omega arith) (λ q. omega arith) (λ q. omega arith) (λ q. omega arith) (λ q. omega arith) (λ q. omega arith) (λ q. omega arith) (λ q. omega arith) (λ q. omega arith) (λ q. omega arith) (λ q. omega arith) (λ q. omega arith) (λ q. omega arith) (λ q. omega arith) (λ q. omega arith) (λ q. omega arith) (λ q. omega arith) (λ q. omega arith) (λ q. omega arith) (λ q. omega arith) (λ q. omega arith) (λ q. omega arith) (λ q. omega arith) (λ q. omega arith)) (adds_none c.args.findings.now); upper_bound = omega arith }
