-- Laws of walks over the instructions of a code.
use Rattle.std.specs.Prelude.{ℕ, ◌+◌, ◌≡◌, ◌≤◌, ◌<◌, ◌⊎◌, Bool, List, length, eqb, true, false, Err}
use Rattle.std.proofs.Common.{inl, inr, sym, ◌∙◌, ap, arith}
use Rattle.std.proofs.Math.Decide.{dec_lt}
use borrow.Author.Tests.{eq-eqb, ne_eqb}
use Rattle.code_flat.specs.Machine.{Instr}
use Rattle.code_valid.specs.declared.Instruction.{Instruction}
use Rattle.code_valid.specs.Instrs.{len, begins}
use Rattle.code_valid.specs.Valid.{sound, first_bad}
use Rattle.code_valid.specs.Reading.{standing, from, Entry}
use Rattle.code_valid.specs.Walk.{Turn}
use Rattle.code_valid.proofs.ReadingLaws.{standing_past, standing_in, search_past, search_here, search_on, entry_next, bad_here, bad_on}

-- The place of an instruction is where the walk stood.
pub turn_here : (is : ℕ → Instr) (p : ℕ) (i : Instruction) (q : ℕ) → Turn is p i q → Turn is i.place i q
turn_here is p i q t = rw (sym t.place) at t

-- Where a walk up to the end of a code stops, no instruction stands.
pub none_left : (C : List ℕ) (p end : ℕ) → end ≡ length C → (end ≤ p) ⊎ (len (standing C p) ≡ 0) → len (standing C p) ≡ 0
none_left C p end e (inl h) = ap len (standing_past C p (omega arith))
none_left C p end e (inr z) = z

module _ (C : List ℕ) (p : ℕ) (i : Instruction) (q : ℕ) (t : Turn (standing C) p i q) where
  behind : q ≡ p + len (standing C p)
  behind = t.next ∙ ap (λ w. p + w) t.size

  pub turn_inside : i.place < length C
  turn_inside = let h = standing_in C p t.some in let e = t.place in omega arith

  pub turn_search : (o : ℕ) → i.place < o → begins (from C q) q o ≡ begins (from C p) p o
  turn_search o h = ap (λ w. begins (from C w) w o) behind ∙ sym (search_on C p o t.some (let e = t.place in omega arith))

  pub turn_found : (o : ℕ) → o ≤ i.place → eqb i.place o ≡ begins (from C p) p o
  turn_found o h = ap (λ w. eqb w o) t.place ∙ go (dec_lt o p)
    where
      go : Dec (o < p) → eqb p o ≡ begins (from C p) p o
      go (yes l) = ne_eqb p o (λ e. omega arith) ∙ sym (search_past C p o l)
      go (no l) = let e : p ≡ o = let f = t.place in omega arith in eq-eqb p o e ∙ sym (search_here C p o t.some e)

  pub turn_entry : Entry C p → Entry C q
  turn_entry e = rw behind (entry_next C p e t.some)

  module _ (all : List Instr) where
    abbrev judged : Bool
    judged = sound all (standing C i.place) (from C (i.place + i.size))

    same : sound all (standing C p) (from C (p + len (standing C p))) ≡ judged
    same = sym (λ j. sound all (standing C (t.place j)) (from C (t.place j + t.size j)))

    pub turn_sound : judged ≡ true → first_bad all (from C q) q ≡ first_bad all (from C p) p
    turn_sound h = ap (λ w. first_bad all (from C w) w) behind ∙ sym (bad_on C all p t.some (same ∙ h))

    pub turn_bad : judged ≡ false → Err i.place ≡ first_bad all (from C p) p
    turn_bad h = ap Err t.place ∙ sym (bad_here C all p t.some (same ∙ h))
