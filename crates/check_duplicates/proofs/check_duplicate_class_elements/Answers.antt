use Prim.Native.Nat.{◌+◌, ◌<◌, ◌≤◌}
use mathlib.Core.Path.{ap, subst, ◌∙◌}
use native.Mathlib.Omega.{arith}
use Rattle.table_records.specs.Table.{count}
use Rattle.table_records.specs.Facts.{Tree}
use Rattle.check_diagnostics.proofs.Gather.{left_start, left_turn, left_end}
use Rattle.check_duplicates.specs.Scans.{class_at}
use Rattle.check_duplicates.proofs.DuplicatesLaws.{classes_from, all_start, all_turn, all_end}
use Rattle.check_duplicates.proofs.check_duplicate_class_elements.Goals as goal

pub loop-i-init : goal.loop-i-init
loop-i-init c = let a = c.args in
    let s = a.elements.now in
    (omega arith, left_start _ _ _ (all_start s.source_type s.nodes s.names))

pub duplicates_at-requires : goal.duplicates_at-requires
duplicates_at-requires c = let v = ap (λ v. v.nodes) c.named.view_is ∙ ap (λ v. v.nodes) c.elements.view_is in
    let n = ap count (c.deref.ensures.same ∙ v) in
    let h : c.loop-i.i < count c.args.elements.now.nodes = omega arith in
    let t = (subst Tree v c.deref.ensures.tree).small in
    let p = c.requires.raised_bound in
    record { i_bound = h; raised_bound = omega arith }

pub loop-i-preserved : goal.loop-i-preserved
loop-i-preserved c = let a = c.args in
    let s = a.elements.now in
    let v = ap (λ v. v.nodes) c.named.view_is ∙ ap (λ v. v.nodes) c.elements.view_is in
    let n = ap count (c.deref.ensures.same ∙ v) in
    let h : c.loop-i.i < count c.args.elements.now.nodes = omega arith in (
      omega (arith, c.duplicates_at.ensures.upper_bound),
      left_turn _ _ _ _ _ (class_at s.source_type s.nodes s.names c.loop-i.i) (classes_from s.source_type s.nodes s.names (c.loop-i.i + 1)) c.loop-i.invariant.1
          (all_turn s.source_type s.nodes s.names c.loop-i.i h) c.duplicates_at.ensures.adds,
    )

pub returns : goal.returns
returns c = let a = c.args in
    let s = a.elements.now in
    let v = ap (λ v. v.nodes) c.named.view_is ∙ ap (λ v. v.nodes) c.elements.view_is in
    let n = ap count (c.deref.ensures.same ∙ v) in
    let h : count c.args.elements.now.nodes ≤ c.loop-i.i = omega arith in
    let t = (subst Tree v c.deref.ensures.tree).small in
    record { adds = left_end _ _ _ _ c.loop-i.invariant.1 (all_end s.source_type s.nodes s.names c.loop-i.i h); upper_bound = omega arith }
