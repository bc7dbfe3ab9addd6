use Rattle.std.specs.Prelude.{Option}
use Rattle.check_diagnostics.specs.declared.Finding.{Finding}
use Prim.Native.Nat.{◌+◌, ◌<◌, ◌≤◌}
use mathlib.Core.List.{◌++◌, []}
use mathlib.Core.Path.{◌≡◌, sym, ap, subst, ◌∙◌}
use native.Mathlib.Omega.{arith}
use Rattle.table_records.specs.Table.{count}
use Rattle.table_records.specs.Facts.{Tree}
use Rattle.check_diagnostics.specs.Finding.{listed}
use Rattle.check_diagnostics.proofs.Gather.{left_start, left_turn, left_end}
use Rattle.check_duplicates.proofs.DuplicatesLaws.{duplicates_from, from_start_lem, from_turn, from_end_lem, from_out}
use Rattle.check_duplicates.proofs.duplicates_in.Goals as goal

pub loop-i-init : goal.loop-i-init
loop-i-init c = let a = c.args in
    let s = a.elements.now in
    (omega arith, left_start _ _ _ (from_start_lem s.source_type s.nodes s.names a.c.0))

pub returns-then-parent-c : goal.returns-then-parent-c
returns-then-parent-c c = let a = c.args in
    let s = a.elements.now in
    let v = ap (λ v. v.nodes) c.named.view_is ∙ ap (λ v. v.nodes) c.elements.view_is in
    let n = ap count (c.deref.ensures.same ∙ v) in
    let h : c.loop-i.i < count c.args.elements.now.nodes = omega arith in
    let t = (subst Tree v c.deref.ensures.tree).small in
    let q = rw (c.deref-in-loop-i.ensures.same, v) at c.parent.ensures in
    let o : duplicates_from s.source_type s.nodes s.names a.c.0 c.loop-i.i ≡ [] = from_out s.source_type s.nodes s.names a.c.0 (subst Tree v c.deref.ensures.tree) c.loop-i.i (omega arith) h (omega arith) in
    record { adds = left_end _ _ _ _ c.loop-i.invariant.1 o; upper_bound = omega arith }

pub raised_at-requires : goal.raised_at-requires
raised_at-requires c = let v = ap (λ v. v.nodes) c.named.view_is ∙ ap (λ v. v.nodes) c.elements.view_is in
    let n = ap count (c.deref.ensures.same ∙ v) in
    let h : c.loop-i.i < count c.args.elements.now.nodes = omega arith in record { i_bound = h; c_lt_i = omega arith }

pub raise-requires : goal.raise-requires
raise-requires c = let v = ap (λ v. v.nodes) c.named.view_is ∙ ap (λ v. v.nodes) c.elements.view_is in
    let n = ap count (c.deref.ensures.same ∙ v) in
    let t = (subst Tree v c.deref.ensures.tree).small in
    let p = c.requires.raised_bound in
    omega arith

pub loop-i-preserved : goal.loop-i-preserved
loop-i-preserved c = let a = c.args in
    let s = a.elements.now in
    let v = ap (λ v. v.nodes) c.named.view_is ∙ ap (λ v. v.nodes) c.elements.view_is in
    let n = ap count (c.deref.ensures.same ∙ v) in
    let h : c.loop-i.i < count c.args.elements.now.nodes = omega arith in
    let rest = duplicates_from s.source_type s.nodes s.names a.c.0 (c.loop-i.i + 1) in
    let e : duplicates_from s.source_type s.nodes s.names a.c.0 c.loop-i.i ≡ listed c.raised_at.result ++ rest = from_turn s.source_type s.nodes s.names a.c.0 c.loop-i.i h ∙ ap (λ (x : Option Finding). listed x ++ rest) (sym c.raised_at.ensures) in
    (omega (arith, c.raise.ensures.upper_bound), left_turn _ _ _ _ _ (listed c.raised_at.result) rest c.loop-i.invariant.1 e c.raise.ensures.adds)

pub returns : goal.returns
returns c = let a = c.args in
    let s = a.elements.now in
    let v = ap (λ v. v.nodes) c.named.view_is ∙ ap (λ v. v.nodes) c.elements.view_is in
    let n = ap count (c.deref.ensures.same ∙ v) in
    let h : count c.args.elements.now.nodes ≤ c.loop-i.i = omega arith in
    let b = c.loop-i.auto.i-end (omega arith) in
    let t = (subst Tree v c.deref.ensures.tree).small in
    record { adds = left_end _ _ _ _ c.loop-i.invariant.1 (from_end_lem s.source_type s.nodes s.names a.c.0 c.loop-i.i h); upper_bound = omega arith }
