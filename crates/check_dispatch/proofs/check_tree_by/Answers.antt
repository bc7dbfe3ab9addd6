use Rattle.check_dispatch.specs.Lent.{rule_of}
use Rattle.check_dispatch.specs.Reported.{reported_at, reported}
use Rattle.check_diagnostics.proofs.RaisesLaws.{adds_then}
use Rattle.check_diagnostics.proofs.Gather.{flat_turn, flat_end, left_start, left_turn, left_end}
use Rattle.check_duplicates.specs.Duplicates.{duplicate_elements}
use Rattle.table_records.specs.Table.{count}
use Rattle.base_common.specs.Upto.{upto}
use Prim.Native.Nat.{ℕ, ◌<◌, ◌≤◌}
use native.Mathlib.Omega.{arith}
use borrow.Author.Rules.{rules}
use Rattle.check_diagnostics.specs.Raises.{Adds, Raises}
use Rattle.check_diagnostics.specs.declared.Finding.{Finding}
use Rattle.check_diagnostics.specs.declared.Findings.{Findings}
use mathlib.Core.List.{List, ◌++◌, flat_map}
use mathlib.Core.Path.{◌≡◌, refl, ◌∙◌}
use Rattle.check_dispatch.proofs.check_tree_by.Goals as goal

pub loop-i-init : goal.loop-i-init
loop-i-init c = (omega arith, left_start _ _ _ refl)

pub check_node_and_bodies-requires : goal.check_node_and_bodies-requires
check_node_and_bodies-requires c = let h : c.loop-i.i < count c.args.rule.now.nodes.now = omega arith in
    let z = c.requires.input.tree.small in
    record { input = c.requires.input; sourced = c.requires.sourced; same = c.requires.same; n_bound = h; raised_bound = omega (arith, c.loop-i.invariant.0, c.check_duplicate_class_elements.ensures.upper_bound, c.new-all.ensures.raised) }

pub loop-i-preserved : goal.loop-i-preserved
loop-i-preserved c = let a = c.args in
    let h : c.loop-i.i < count c.args.rule.now.nodes.now = omega arith in
    let f = reported_at (rule_of a.rule.now) in
    (omega (arith, c.loop-i.invariant.0, c.check_node_and_bodies.ensures.upper_bound), left_turn _ _ _ _ _ (f c.loop-i.i) _ c.loop-i.invariant.1 (flat_turn f c.loop-i.i (count a.rule.now.nodes.now) h) c.check_node_and_bodies.ensures.adds)

-- what the lent slice ends as, where the struct still holds it
finished : (before : List ℕ) (end : List ℕ) (a b d : Findings) (l m : List Finding) → a.slice.now ≡ before → a.raised ≡ 0 → Adds a b l → Adds b d m → end ≡ d.slice.now → Raises before end 0 d.raised (l ++ m)
finished before end a b d l m s z x y e =
    let r = (adds_then a b d l m x y).raises in
    record { place = omega (arith, r.place); slice = e ∙ r.slice ∙ rw (s, z) }

pub returns : goal.returns
unfolding reported
returns c = let a = c.args in
    let h : count c.args.rule.now.nodes.now ≤ c.loop-i.i = omega arith in
    let f = reported_at (rule_of a.rule.now) in
    finished a.findings.now _ c.new-all.result c.check_duplicate_class_elements.new.findings c.loop-i.all (duplicate_elements a.rule.now.source_type a.rule.now.nodes.now a.rule.now.names.now) (flat_map f (upto 0 (count a.rule.now.nodes.now)))
    c.new-all.ensures.slice c.new-all.ensures.raised (let t = c.requires.same in rw (t.source_type, t.nodes, t.names) at c.check_duplicate_class_elements.ensures.adds) (left_end _ _ _ _ c.loop-i.invariant.1 (flat_end f c.loop-i.i (count a.rule.now.nodes.now) h))
    (let g = c.loop-i.invariant.1.same_slice in let g2 = c.check_duplicate_class_elements.ensures.adds.same_slice in let g3 = c.new-all.ensures.same_slice in search rules)
