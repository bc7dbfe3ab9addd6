-- One scan over the code finds whether an instruction begins at a place.
use Prim.Native.Nat.{ℕ, zero, suc, ◌+◌, ◌≤◌, ◌<◌}
use Rattle.std.specs.Prelude.{◌≡◌, ◌≢◌, ◌⊎◌, Bool, ◌||◌, ◌↔◌, List, get_or, ltb}
use Rattle.std.proofs.Math.Path.{refl}
use Rattle.std.proofs.Common.{inl, inr, sym, ◌∙◌, ap, subst, true≢false, arith}
use Rattle.std.proofs.Math.Bool.{true, false}
use Rattle.std.proofs.Math.Dec.{eqb}
use borrow.Author.Tests.{eqb-true, eqb-false, eq-eqb, ltb-true, lt-ltb}
use Rattle.route_completion.specs.Sem.{pick}
use Rattle.code_flat.specs.Opcodes as op
use Rattle.code_flat.specs.Machine.{NONE, LIST, LEAVE, ASK, SELECT, OPEN, END, CASE, fetch}
use Rattle.base_common.proofs.UptoLaws.{and_left_lem, and_right_lem}
use Rattle.code_marks.specs.Begins.{width, offset, Begins}
use Rattle.code_valid.specs.declared.Instruction.{Instruction}
use Rattle.code_valid.specs.Instrs.{len}
use Rattle.code_valid.specs.Walk.{Turn}
use Rattle.route_marks.specs.Taken.{leads, begins_at}

-- An instruction takes at most four numbers.
pub width_most : (x : ℕ) → width x ≤ 4
width_most x = go (eqb x op.List) (eqb x op.Leave) (eqb x op.Ask) (eqb x op.Select) (eqb x op.Open) (eqb x op.End) (eqb x op.Case)
  where
    go : (a b c d e f g : Bool) → pick a 2 (pick b 3 (pick c 4 (pick d 4 (pick e 2 (pick f 2 (pick g 4 0)))))) ≤ 4
    go true b c d e f g = omega arith
    go false true c d e f g = omega arith
    go false false true d e f g = omega arith
    go false false false true e f g = omega arith
    go false false false false true f g = omega arith
    go false false false false false true g = omega arith
    go false false false false false false true = omega arith
    go false false false false false false false = omega arith

-- So many are those of what the machine reads there.
pub width_read : (C : List ℕ) (o : ℕ) → width (get_or C o 0) ≡ len (fetch C o)
unfolding fetch
width_read C o =
    let x = get_or C o 0 in
    go (eqb x op.List) (eqb x op.Leave) (eqb x op.Ask) (eqb x op.Select) (eqb x op.Open) (eqb x op.End) (eqb x op.Case) (get_or C (suc o) 0) (get_or C (suc (suc o)) 0) (get_or C (suc (suc (suc o))) 0)
  where
    go : (a b c d e f g : Bool) (u v w : ℕ) → pick a 2 (pick b 3 (pick c 4 (pick d 4 (pick e 2 (pick f 2 (pick g 4 0))))))
        ≡ len (pick a (LIST u) (pick b (LEAVE u v) (pick c (ASK u v w) (pick d (SELECT u v w) (pick e (OPEN u) (pick f (END u) (pick g (CASE u v w) NONE)))))))
    go true b c d e f g u v w = refl
    go false true c d e f g u v w = refl
    go false false true d e f g u v w = refl
    go false false false true e f g u v w = refl
    go false false false false true f g u v w = refl
    go false false false false false true g u v w = refl
    go false false false false false false true u v w = refl
    go false false false false false false false u v w = refl

module _ (C : List ℕ) where
  offset_last : (o k : ℕ) → offset C o (suc k) ≡ offset C o k + width (get_or C (offset C o k) 0)
  offset_last o zero = refl
  offset_last o (suc k) = offset_last (o + width (get_or C o 0)) k

  -- What is no instruction leads nowhere.
  stays : (o k : ℕ) → width (get_or C o 0) ≡ 0 → offset C o k ≡ o
  stays o zero h = refl
  stays o (suc k) h =
      let e : o + width (get_or C o 0) ≡ o = omega arith in
      ap (λ x. offset C x k) e ∙ stays o k h

  further : (o k : ℕ) → o ≤ offset C o k
  further o zero = omega arith
  further o (suc k) = omega (arith, further (o + width (get_or C o 0)) k)

-- The scan for x stands at o: from instruction to instruction the start leads there, and from there to x if at all.
pub record Scanned (C : List ℕ) (x o : ℕ) : Type 0 where
  pub index : ℕ
  pub place : offset C 0 index ≡ o
  pub ahead : (k : ℕ) → offset C 0 k ≡ x → (j : ℕ) × (offset C o j ≡ x)

pub scan_first : (C : List ℕ) (x : ℕ) → Scanned C x 0
scan_first C x = record { index = 0; place = refl; ahead = λ k e. (k, e) }

module _ (C : List ℕ) (x o : ℕ) (s : Scanned C x o) where
  -- It goes on, where it isn't at x.
  scan_on : o ≢ x → (w : ℕ) → w ≡ width (get_or C o 0) → Scanned C x (o + w)
  scan_on h w e =
      record {
        index = suc s.index;
        place = offset_last C 0 s.index ∙ ap (λ p. p + width (get_or C p 0)) s.place ∙ ap (λ v. o + v) (sym e);
        ahead = λ k q. go (s.ahead k q);
      }
    where
      go : (j : ℕ) × (offset C o j ≡ x) → (j : ℕ) × (offset C (o + w) j ≡ x)
      go (zero, q) = absurd (h q)
      go (suc j, q) = (j, ap (λ v. offset C (o + v) j) e ∙ q)

  pub scan_more : o < x → (w : ℕ) → w ≡ width (get_or C o 0) → Scanned C x (o + w)
  scan_more h w e = scan_on (λ q. omega arith) w e

  pub scan_here : o ≡ x → (w : ℕ) → w ≡ width (get_or C x 0) → 0 < w → Begins C x
  scan_here e w q h = record { index = s.index; place = s.place ∙ e; some = omega arith }

  -- By a turn of the walk over the instructions.
  module _ (i : Instruction) (q : ℕ) (t : Turn (fetch C) o i q) where
    behind : o + width (get_or C o 0) ≡ q
    behind = ap (λ v. o + v) (width_read C o ∙ sym t.size) ∙ sym t.next

    pub turn_more : i.place ≢ x → Scanned C x q
    turn_more h = subst (Scanned C x) behind (scan_on (λ e. h (t.place ∙ e)) (width (get_or C o 0)) refl)

    pub turn_here : i.place ≡ x → Begins C x
    turn_here h =
        let e : o ≡ x = sym t.place ∙ h in
        scan_here e (width (get_or C x 0)) refl (subst (λ v. 0 < width (get_or C v 0)) e (omega (arith, width_read C o, t.some)))

  pub scan_none : width (get_or C o 0) ≡ 0 → Begins C x → ⊥
  scan_none z b = go (s.ahead b.index b.place)
    where
      go : (j : ℕ) × (offset C o j ≡ x) → ⊥
      go (j, e) = omega (arith, ap (λ v. width (get_or C v 0)) (sym (stays C o j z) ∙ e), z, b.some)

  pub scan_past : x < o → Begins C x → ⊥
  scan_past h b = go (s.ahead b.index b.place)
    where
      go : (j : ℕ) × (offset C o j ≡ x) → ⊥
      go (j, e) = omega (arith, further C o j, e)

  pub scan_end : (end : ℕ) → x < end → (end ≤ o) ⊎ (len (fetch C o) ≡ 0) → Begins C x → ⊥
  scan_end end l (inl m) = scan_past (omega arith)
  scan_end end l (inr z) = scan_none (width_read C o ∙ z)

-- The test of 17 is what `Begins` says.
module _ (C : List ℕ) (x : ℕ) where
  leads_some : (n o : ℕ) → leads C x n o ≡ true → (j : ℕ) × (offset C o j ≡ x)
  unfolding leads
  leads_some zero o e = (0, eqb-true o x e)
  leads_some (suc n) o e = go (eqb o x) refl e (leads_some n (o + width (get_or C o 0)))
    where
      go : (b : Bool) → eqb o x ≡ b → (b || leads C x n (o + width (get_or C o 0))) ≡ true
          → (leads C x n (o + width (get_or C o 0)) ≡ true → (j : ℕ) × (offset C (o + width (get_or C o 0)) j ≡ x)) → (j : ℕ) × (offset C o j ≡ x)
      go true q h ih = (0, eqb-true o x q)
      go false q h ih = let (j, p) = ih h in (suc j, p)

  leads_all : (n o j : ℕ) → offset C o j ≡ x → x ≤ o + n → leads C x n o ≡ true
  unfolding leads
  leads_all zero o j p h = eq-eqb o x (omega (arith, further C o j))
  leads_all (suc n) o j p h = go (eqb o x) refl j p (leads_all n (o + width (get_or C o 0)))
    where
      go : (b : Bool) → eqb o x ≡ b → (j : ℕ) → offset C o j ≡ x → ((j : ℕ) → offset C (o + width (get_or C o 0)) j ≡ x → x ≤ o + width (get_or C o 0) + n → leads C x n (o + width (get_or C o 0)) ≡ true)
          → (b || leads C x n (o + width (get_or C o 0))) ≡ true
      go true q j p ih = refl
      go false q zero p ih = absurd (eqb-false o x q p)
      go false q (suc j) p ih = more (width (get_or C o 0)) refl
        where
          more : (w : ℕ) → width (get_or C o 0) ≡ w → leads C x n (o + width (get_or C o 0)) ≡ true
          more zero z = absurd (eqb-false o x q (sym (stays C o (suc j) z) ∙ p))
          more (suc w) z = ih j p (omega arith)

  pub begins_is : (begins_at C x ≡ true) ↔ Begins C x
  unfolding begins_at
  begins_is = (
    λ e. let (j, p) = leads_some x 0 (and_left_lem (leads C x x 0) (ltb 0 (width (get_or C x 0))) e) in
        record { index = j; place = p; some = ltb-true 0 (width (get_or C x 0)) (and_right_lem (leads C x x 0) (ltb 0 (width (get_or C x 0))) e) },
    λ b. rw (leads_all x 0 b.index b.place (omega arith), lt-ltb 0 (width (get_or C x 0)) b.some),
  )

  -- What answers as `Begins` does, answers as the test.
  pub same_test : (t : Bool) → (t ≡ true) ↔ Begins C x → t ≡ begins_at C x
  same_test true h = sym (begins_is.1 (h.0 refl))
  same_test false h = go (begins_at C x) refl
    where
      go : (b : Bool) → begins_at C x ≡ b → false ≡ begins_at C x
      go true e = absurd (true≢false (sym (h.1 (begins_is.0 e))))
      go false e = sym e
