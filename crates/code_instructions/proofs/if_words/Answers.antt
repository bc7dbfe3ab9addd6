use Rattle.code_instructions.proofs.PartLaws.{first_head, if_some, if_part, if_in, if_alone, if_both}
use Rattle.code_instructions.proofs.WordsLaws.{if_has}
use Prim.Native.Nat.{◌+◌}
use native.Mathlib.Omega.{arith}
use mathlib.Core.Path.{◌≡◌, sym, ap, ◌∙◌, subst}
use mathlib.Core.Bool.{true, false, cond}
use borrow.Author.Tests.{eq-eqb, ne_eqb}
use lib.Dec.{eqb}
use lib.ListN.{get_or}
use Rattle.table_records.specs.Table.{role_of, count}
use Rattle.code_tree.specs.Parts.{parts}
use Rattle.code_tree.specs.First.{first_of}
use Rattle.code_layout.specs.Words.{words_at}
use Rattle.code_flat.specs.Has.{Has}
use Rattle.code_branch.specs.Branch.{stat_of, Plan, Laid}
use Rattle.code_branch.proofs.JumpLaws as array
use Rattle.code_instructions.proofs.if_words.Goals as goal

pub overflow_add-second-2 : goal.overflow_add-second-2
overflow_add-second-2 c =
    let n = c.args.n.0 in
    let r = c.requires in
    let k = c.in-Some.c.0 in
    let v = c.laid.view_is in
    let A = subst Laid v c.laid.invariant in
    let e = first_head _ _ (sym c.in-Some.is ∙ c.next_part.ensures ∙ ap (λ (p : Plan). first_of (parts p.nodes n (n + 1))) v) in
    let s = array.end_small A n r.n_bound r.n_value in
    let t = array.end_small A k (if_part A n r.b_lt_n r.n_bound r.n_value r.n_value_2 k e).inside (if_in A n r.b_lt_n r.n_bound r.n_value r.n_value_2 k e) in
    omega (arith, s, t, ap (λ (p : Plan). get_or p.offsets n 0) v, ap (λ (p : Plan). get_or p.widths k 0) v)

pub returns-then-second-o : goal.returns-then-second-o
returns-then-second-o c =
    let l = c.args.laid.now in
    let n = c.args.n.0 in
    let r = c.requires in
    let k = c.in-Some.c.0 in
    let v = c.laid.view_is in
    let A = subst Laid v c.laid.invariant in
    let o = get_or c.laid.inside.offsets.now n 0 in
    let e = first_head _ _ (sym c.in-Some.is ∙ c.next_part.ensures ∙ ap (λ (p : Plan). first_of (parts p.nodes n (n + 1))) v) in
    let g : get_or l.widths k 0 + 7 ≡ get_or l.widths n 0 = omega (arith, c.if-second-o.true, ap (λ (p : Plan). get_or p.widths n 0) v, ap (λ (p : Plan). get_or p.widths k 0) v) in
    let w = if_alone A n r.b_lt_n r.n_bound r.n_value r.n_value_2 k e g o (ap (λ (p : Plan). get_or p.offsets n 0) v ∙ array.offset_is A n r.n_bound r.n_value) in
    subst (λ x. Has x 0 (words_at l.nodes l.names l.body n)) (sym c.asking.ensures) (if_has l.nodes l.names l.body n r.b_lt_n r.n_value_2 (stat_of c.normal_target-t.result) c.normal_target-t.ensures (o + 7) (o + 4) w.0 w.1)

pub role-requires : goal.role-requires
role-requires c =
    let n = c.args.n.0 in
    let r = c.requires in
    let k = c.in-Some.c.0 in
    let v = c.laid.view_is in
    let A = subst Laid v c.laid.invariant in
    let e = first_head _ _ (sym c.in-Some.is ∙ c.next_part.ensures ∙ ap (λ (p : Plan). first_of (parts p.nodes n (n + 1))) v) in
    rw (c.deref.ensures.same, ap (λ (p : Plan). p.nodes) v) (if_part A n r.b_lt_n r.n_bound r.n_value r.n_value_2 k e).inside

pub bounds-laid-inside-c : goal.bounds-laid-inside-c
bounds-laid-inside-c c =
    let n = c.args.n.0 in
    let r = c.requires in
    let k = c.in-Some.c.0 in
    let v = c.laid.view_is in
    let A = subst Laid v c.laid.invariant in
    let e = first_head _ _ (sym c.in-Some.is ∙ c.next_part.ensures ∙ ap (λ (p : Plan). first_of (parts p.nodes n (n + 1))) v) in
    omega (arith, (if_part A n r.b_lt_n r.n_bound r.n_value r.n_value_2 k e).inside, ap (λ (p : Plan). count p.nodes) v, c.laid.invariant.wide.long)

pub returns-in_default : goal.returns-in_default
returns-in_default c =
    let n = c.args.n.0 in
    let r = c.requires in
    let v = c.laid.view_is in
    absurd (if_some (subst Laid v c.laid.invariant) n r.b_lt_n r.n_bound r.n_value r.n_value_2 (sym c.in_default.is ∙ c.next_part.ensures ∙ ap (λ (p : Plan). first_of (parts p.nodes n (n + 1))) v))

pub returns-then-role-eq-ALTERNATE : goal.returns-then-role-eq-ALTERNATE
returns-then-role-eq-ALTERNATE c =
    let l = c.args.laid.now in
    let n = c.args.n.0 in
    let r = c.requires in
    let k = c.in-Some.c.0 in
    let v = c.laid.view_is in
    let A = subst Laid v c.laid.invariant in
    let e = first_head _ _ (sym c.in-Some.is ∙ c.next_part.ensures ∙ ap (λ (p : Plan). first_of (parts p.nodes n (n + 1))) v) in
    let o = get_or c.laid.inside.offsets.now n 0 in
    let second = o + 7 + get_or c.laid.inside.widths.now k 0 in
    let m = ap (λ (p : Plan). get_or p.widths k 0) v in
    let g : get_or l.widths k 0 + 7 ≡ get_or l.widths n 0 → o + 7 + get_or c.laid.inside.widths.now k 0 ≡ o + get_or c.laid.inside.widths.now n 0 = λ q. omega (arith, q, m, ap (λ (p : Plan). get_or p.widths n 0) v) in
    let w = if_both A n r.b_lt_n r.n_bound r.n_value r.n_value_2 k e (λ q. c.if-second-o.false (g q)) o (ap (λ (p : Plan). get_or p.offsets n 0) v ∙ array.offset_is A n r.n_bound r.n_value) in
    let i : eqb (role_of l.nodes k) 4 ≡ true = eq-eqb (role_of l.nodes k) 4 (cc (ap (λ (p : Plan). p.nodes) v)) in
    let x = ap (λ t. cond t (o + 7 + get_or l.widths k 0) (o + 7)) (sym i) ∙ w.0 in
    let y = ap (λ t. cond t (o + 7) (o + 7 + get_or l.widths k 0)) (sym i) ∙ w.1 in
    subst (λ x. Has x 0 (words_at l.nodes l.names l.body n)) (sym c.asking-then-role-eq-ALTERNATE.ensures) (if_has l.nodes l.names l.body n r.b_lt_n r.n_value_2 (stat_of c.normal_target-t.result) c.normal_target-t.ensures second (o + 7) (ap (λ j. o + 7 + j) m ∙ x) y)

pub returns : goal.returns
returns c =
    let l = c.args.laid.now in
    let n = c.args.n.0 in
    let r = c.requires in
    let k = c.in-Some.c.0 in
    let v = c.laid.view_is in
    let A = subst Laid v c.laid.invariant in
    let e = first_head _ _ (sym c.in-Some.is ∙ c.next_part.ensures ∙ ap (λ (p : Plan). first_of (parts p.nodes n (n + 1))) v) in
    let o = get_or c.laid.inside.offsets.now n 0 in
    let second = o + 7 + get_or c.laid.inside.widths.now k 0 in
    let m = ap (λ (p : Plan). get_or p.widths k 0) v in
    let g : get_or l.widths k 0 + 7 ≡ get_or l.widths n 0 → o + 7 + get_or c.laid.inside.widths.now k 0 ≡ o + get_or c.laid.inside.widths.now n 0 = λ q. omega (arith, q, m, ap (λ (p : Plan). get_or p.widths n 0) v) in
    let w = if_both A n r.b_lt_n r.n_bound r.n_value r.n_value_2 k e (λ q. c.if-second-o.false (g q)) o (ap (λ (p : Plan). get_or p.offsets n 0) v ∙ array.offset_is A n r.n_bound r.n_value) in
    let i : eqb (role_of l.nodes k) 4 ≡ false = ne_eqb (role_of l.nodes k) 4 (λ q. c.if-role-eq-ALTERNATE.false (cc (ap (λ (p : Plan). p.nodes) v))) in
    let x = ap (λ t. cond t (o + 7 + get_or l.widths k 0) (o + 7)) (sym i) ∙ w.0 in
    let y = ap (λ t. cond t (o + 7) (o + 7 + get_or l.widths k 0)) (sym i) ∙ w.1 in
    subst (λ x. Has x 0 (words_at l.nodes l.names l.body n)) (sym c.asking-2.ensures) (if_has l.nodes l.names l.body n r.b_lt_n r.n_value_2 (stat_of c.normal_target-t.result) c.normal_target-t.ensures (o + 7) second x (ap (λ j. o + 7 + j) m ∙ y))
