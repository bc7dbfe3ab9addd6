use mathlib.Core.Bool.{true}
use mathlib.Core.Path.{subst, ◌≡◌, ◌∙◌, ap, sym}
use Rattle.line_forms.specs.Forms.{rest, is_s}
use Rattle.line_digits.specs.Number.{value_of}
use Rattle.base_common.specs.Wrote.{put}
use mathlib.Core.List.{List, map}
use Rattle.line_input.proofs.ReadLaws.{Scoping, scoping_start, scoping_turn}
use Rattle.line_input.specs.Format.{first_of, scope_lines}
use Rattle.line_forms.proofs.FormLaws.{numbers_told}
use Rattle.line_fields.specs.Split.{lines_of}
use native.Mathlib.Omega.{arith}
use Prim.Native.Nat.{ℕ, ◌+◌, ◌*◌}
use Rattle.line_input.proofs.read_scopes.Goals as goal

pub loop-i-init : goal.loop-i-init
loop-i-init c = scoping_start c.args.scopes.now c.args.n (lines_of c.args.b.now) c.requires

pub loop-i-preserved : goal.loop-i-preserved
loop-i-preserved c =
    let a = c.args in
    let o = c.loop-i in
    let ls = lines_of o.t.now in
    let whole = scope_lines a.n (lines_of a.b.now) in
    let s : is_s (first_of ls) ≡ true = cc (c.if-not-is_numbers.false) in
    let t = numbers_told 83 3 (first_of ls) s in
    let e : c.write_numbers.new.out ≡ put o.scopes (o.i * 3) (map value_of (rest (first_of ls))) =
    c.write_numbers.ensures ∙ rw (c.onward.ensures, c.line-l.ensures) (ap (λ (fs : List (List ℕ)). put o.scopes (o.i * 3) (map value_of fs)) t.2) in
    subst (λ (x : List ℕ). Scoping a.scopes.now x a.n whole (o.i + 1) (lines_of c.after-t.result.now)) (sym e)
    (subst (λ (ks : List (List ℕ)). Scoping a.scopes.now (put o.scopes (o.i * 3) (map value_of (rest (first_of ls)))) a.n whole (o.i + 1) ks) (sym c.after-t.ensures)
    (scoping_turn a.scopes.now o.scopes a.n whole o.i ls o.invariant (omega arith) s))
