-- `lines::write_node` meets its contract.
use Rattle.line_forms.specs.Forms.{numbers_of, rest}
use Rattle.base_common.specs.Wrote.{put}
use lib.ListN.{set, take}
use mathlib.Core.List.{List, [], ◌∷◌, ◌++◌, map}
use Prim.Native.Nat.{ℕ, ◌+◌}
use Rattle.line_input.proofs.ReadLaws.{node_put_on, eight}
use Rattle.line_forms.proofs.FormLaws.{node_told}
use Rattle.line_digits.specs.Number.{value_of}
use native.Mathlib.Omega.{arith}
use mathlib.Core.Path.{◌≡◌, ap, ◌∙◌}
use Rattle.line_input.proofs.write_node.Goals as goal

pub write_numbers-requires : goal.write_numbers-requires
write_numbers-requires c = let t = node_told c.args.l.now c.requires.0 in let h = c.requires.1 in let n = t.0 in rw c.onward.ensures (omega arith, omega arith, t.1)

pub returns : goal.returns
returns c =
    let a = c.args in
    let p = c.requires in
    let t = node_told a.l.now p.0 in
    let vs : List ℕ = numbers_of (take 8 (rest a.l.now)) in
    let e : c.write_numbers.new.out ≡ put a.nodes.now a.w vs = c.write_numbers.ensures ∙ rw c.onward.ensures (ap (λ (fs : List (List ℕ)). put a.nodes.now a.w (map value_of fs)) t.2) in
    ap (λ (x : List ℕ). set (set x (a.w + 8) a.start) (a.w + 8 + 1) a.len) e
    ∙ node_put_on a.nodes.now a.w a.start a.len vs (eight a.l.now p.0) p.1
    ∙ ap (λ (x : ℕ). put a.nodes.now a.w (vs ++ a.start ∷ x ∷ [])) p.2
