-- Laws of a walk over what is behind the split, which looks for entries.
use Prim.Native.Nat.{ℕ, ◌+◌, ◌≤◌, ◌<◌}
use Rattle.std.specs.Prelude.{◌≡◌, ◌≢◌, ◌⊎◌, Bool, ◌||◌}
use Rattle.std.proofs.Math.Path.{refl, sym, ap}
use Rattle.std.proofs.Common.{◌∙◌, subst, inl, inr, true≢false}
use Rattle.std.proofs.Math.Bool.{true, false}
use mathlib.Core.List.{List}
use Rattle.std.proofs.Math.ListN.{length, get_or}
use native.Mathlib.Omega.{arith}
use Rattle.std.proofs.Math.Decide.{dec_lt}
use Rattle.route_completion.specs.Sem.{elem}
use Rattle.code_valid.specs.Instrs.{len, parse, find}
use Rattle.code_valid.specs.Valid.{Valid}
use Rattle.code_shorten.specs.Sound.{Begin, len_pos}
use Rattle.code_pass.specs.Stages.{mark, Sent}
use Rattle.code_mark.specs.Read.{standing_in}
use Rattle.code_mark.proofs.PlaceLaws.{sound, total_is, next_begin}
use Rattle.code_gather.specs.Gather.{entry_read, comes, entered_by, entered, dropped, needed, Behind}
use Rattle.code_gather.proofs.WayLaws.{stands, entry_same}
use Rattle.code_gather.proofs.FrontReads.{dropped_front, dropped_out, dropped_begin, sent_low}
use Rattle.code_gather.proofs.BackLaws.{back_next, back_end, needed_entered, needed_dropped}

-- An instruction begins there, or the code ends.
abbrev pub At : List ℕ → ℕ → Type 0
At C p = Begin (parse C) p ⊎ (p ≡ length C)

pub at_begin : (C : List ℕ) (p n : ℕ) → n ≡ length C → At C p → p < n → Begin (parse C) p
at_begin C p n e (inl b) l = b
at_begin C p n e (inr q) l = absurd (omega arith)

pub split_behind : (C f : List ℕ) (split : ℕ) → Sent C f split → Behind C f split
split_behind C f split s = record { same = s.same; behind = s.behind }

module _ (C : List ℕ) (v : Valid C) (f : List ℕ) (split : ℕ) (h : Behind C f split) where
  module _ (p : ℕ) (b : Begin (parse C) p) (l : split ≤ p) where
    pub size_is : len (standing_in f p) ≡ len (find (parse C) 0 p)
    size_is = ap len (stands C v f split h p b l)

    pub size_some : len (standing_in f p) ≢ 0
    size_some z = omega (arith, size_is, len_pos (find (parse C) 0 p) b)

    pub at_next : (n : ℕ) → n ≡ len (standing_in f p) → At C (p + n)
    at_next n e = subst (λ k. At C (p + k)) (sym (e ∙ size_is)) (next_begin C v p b)

    entered_first : (x n : ℕ) → n ≡ len (standing_in f p) → entered C split x p ≡ (comes x (entry_read f split p) || entered C split x (p + n))
    entered_first x n e =
        back_next (entered_by C split x) false (parse C) 0 p (p + n) (sound C v).some b (ap (λ k. p + k) (e ∙ size_is))
        ∙ ap (λ a. comes x a || entered C split x (p + n)) (sym (entry_same C v f split h p b l))

    pub entered_next : (x n : ℕ) → n ≡ len (standing_in f p) → comes x (entry_read f split p) ≡ false → entered C split x (p + n) ≡ entered C split x p
    entered_next x n e q = sym (entered_first x n e ∙ ap (λ c. c || entered C split x (p + n)) q)

    pub entered_here : (x : ℕ) → comes x (entry_read f split p) ≡ true → entered C split x p ≡ true
    entered_here x q = entered_first x (len (standing_in f p)) refl ∙ ap (λ c. c || entered C split x (p + len (standing_in f p))) q

  -- The walk comes to the end of the code.
  pub at_done : (p end : ℕ) → At C p → split ≤ p → end ≡ length f → (end ≤ p) ⊎ (len (standing_in f p) ≡ 0) → length f ≤ p
  at_done p end a l e (inl x) = omega arith
  at_done p end a l e (inr z) = go (dec_lt p (length f))
    where
      go : Dec (p < length f) → length f ≤ p
      go (yes x) = absurd (size_some p (at_begin C p (length f) h.same a x) l z)
      go (no x) = omega arith

  pub entered_end : (x p : ℕ) → length f ≤ p → entered C split x p ≡ false
  entered_end x p l = back_end (entered_by C split x) false (parse C) 0 p (sound C v).some (omega (arith, total_is C v, h.same))

-- What is needed is entered.
pub needed_none : (C : List ℕ) (split : ℕ) → ((x : ℕ) → dropped C split x ≡ true → entered C split x split ≡ false) → (x : ℕ) → elem x (needed C split split) ≡ false
needed_none C split h x = go (elem x (needed C split split)) refl
  where
    go : (b : Bool) → elem x (needed C split split) ≡ b → b ≡ false
    go false e = refl
    go true e =
        let d : dropped C split x ≡ true = needed_dropped C split x split (parse C) 0 e in
        absurd (true≢false (sym e ∙ needed_entered C split x split d (parse C) 0 ∙ h x d))

-- In the second state, a number of the front that begins a dropped instruction is not raised.
pub dropped_low : (C : List ℕ) (v : Valid C) (f : List ℕ) (split x : ℕ) → Sent C f split → dropped C split x ≡ true → (x < split) × (get_or f x 0 < mark)
dropped_low C v f split x s d =
    let l = dropped_front C split x d in (l, sent_low C v f x (dropped_begin C split x d) (λ j m. s.front x j (dropped_begin C split x d) l m) (dropped_out C split x d))

pub if_not : (b : Bool) → (b ≡ true → ⊥) → b ≡ false
if_not true h = absurd (h refl)
if_not false h = refl

pub at_more : (C : List ℕ) (v : Valid C) (p : ℕ) → Begin (parse C) p → (n : ℕ) → n ≡ len (find (parse C) 0 p) → At C (p + n)
at_more C v p b n e = subst (λ k. At C (p + k)) (sym e) (next_begin C v p b)
