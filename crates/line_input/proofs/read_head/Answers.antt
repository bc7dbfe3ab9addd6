-- `lines::read_head` meets its contract.
use Rattle.line_input.proofs.InputLaws.{head_array, head_nodes, head_scopes, head_is_lem}
use Rattle.line_forms.specs.Forms.{is_numbers, nodes_in, scopes_in, kind_in}
use lib.ListN.{get_or}
use mathlib.Core.List.{List}
use mathlib.Core.Bool.{true}
use mathlib.Core.Path.{◌≡◌, ap, sym, refl}
use Prim.Native.Nat.{ℕ}
use Rattle.line_input.proofs.read_head.Goals as goal
use Rattle.line_input.proofs.read_head.Goals.{then-not-fits-via-then-not-fits, then-not-fits-via-else-not-fits+then-not-fits-2}

pub returns-then-not-fits : goal.returns-then-not-fits
returns-then-not-fits c =
    let l = c.args.l.now in
    let s : is_numbers 74 3 l ≡ true = cc (c.if-not-is_numbers.false) in
    let v = head_array l s _ _ _ refl c.onward.ensures c.write_numbers.ensures in
    let n : get_or c.write_numbers.new.out 1 0 ≡ nodes_in l = ap (λ (x : List ℕ). get_or x 1 0) v in
    let m : get_or c.write_numbers.new.out 2 0 ≡ scopes_in l = ap (λ (x : List ℕ). get_or x 2 0) v in
    elim c.then-not-fits.branch [
      | then-not-fits-via-then-not-fits w ↦ sym (head_nodes c.args.nodes c.args.scopes l (cc (w.if-not-fits.true)))
      | then-not-fits-via-else-not-fits+then-not-fits-2 w ↦ sym (head_scopes c.args.nodes c.args.scopes l s (cc (w.if-not-fits.false)) (cc (w.fits-else-not-fits.ensures, w.if-not-fits-2.true)))
    ]

pub returns : goal.returns
returns c =
    let l = c.args.l.now in
    let s : is_numbers 74 3 l ≡ true = cc (c.if-not-is_numbers.false) in
    let v = head_array l s _ _ _ refl c.onward.ensures c.write_numbers.ensures in
    let k : get_or c.write_numbers.new.out 0 0 ≡ kind_in l = ap (λ (x : List ℕ). get_or x 0 0) v in
    let n : get_or c.write_numbers.new.out 1 0 ≡ nodes_in l = ap (λ (x : List ℕ). get_or x 1 0) v in
    let m : get_or c.write_numbers.new.out 2 0 ≡ scopes_in l = ap (λ (x : List ℕ). get_or x 2 0) v in
    rw (k, n, m) (sym (head_is_lem c.args.nodes c.args.scopes l s (cc (c.if-not-fits.false)) (cc (c.if-not-fits-2.false))))
