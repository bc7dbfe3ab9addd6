-- Laws of where instructions begin, in a valid code, and of what is reached of it.
use Prim.Native.Nat.{ℕ, suc, ◌+◌, ◌-◌, ◌≤◌, ◌<◌}
use Rattle.std.specs.Prelude.{◌≡◌, ◌⊎◌}
use Rattle.std.proofs.Math.Path.{sym, ap}
use Rattle.std.proofs.Common.{◌∙◌, subst, inl, inr, true≢false}
use Rattle.std.proofs.Math.Bool.{false}
use mathlib.Core.List.{List}
use Rattle.std.proofs.Math.ListN.{length, get_or}
use native.Mathlib.Omega.{arith}
use Rattle.std.proofs.Math.Decide.{dec_lt}
use Rattle.code_flat.specs.Machine.{Instr, fetch}
use Rattle.code_flat.proofs.Runs.{inside}
use Rattle.code_flat.specs.Machine.{is_none}
use Rattle.code_valid.specs.Instrs.{len, flat, parse, find}
use Rattle.code_valid.specs.Valid.{Valid}
use Rattle.code_valid.proofs.ReadingLaws.{decode_none}
use Rattle.code_shorten.specs.Short.{thread}
use Rattle.code_shorten.specs.Longer.{total, flat_length}
use Rattle.code_shorten.specs.Reads.{fetched}
use Rattle.code_shorten.specs.Sound.{Begin, Sound, flat_parse, valid_sound}
use Rattle.code_shorten.specs.Threads.{threaded_find}
use Rattle.code_shorten.proofs.PlaceLaws.{find_inside, next_place}
use Rattle.code_pass.specs.Stages.{sent_on, mark}

module _ (C : List ℕ) (v : Valid C) where
  abbrev is : List Instr
  is = parse C

  pub sound : Sound is
  sound = valid_sound C v

  flat_is : flat is ≡ C
  flat_is = flat_parse C sound.some

  pub total_is : total is ≡ length C
  total_is = sym (flat_length is) ∙ ap length flat_is

  module _ (o : ℕ) (b : Begin is o) where
    pub fetch_is : fetch C o ≡ find is 0 o
    fetch_is = ap (λ c. fetch c o) (sym flat_is) ∙ fetched is o b

    pub place_in : o < length C
    place_in = inside C o (ap is_none fetch_is ∙ b)

    -- The numbers of instructions are below a mark.
    pub first_low : get_or C o 0 < mark
    unfolding fetch
    first_low = go (dec_lt 7 (get_or C o 0))
      where
        go : Dec (7 < get_or C o 0) → get_or C o 0 < mark
        go (no h) = omega arith
        go (yes h) = absurd (true≢false (sym (ap is_none (decode_none (get_or C o 0) (get_or C (suc o) 0) (get_or C (suc (suc o)) 0) (get_or C (suc (suc (suc o))) 0) h)) ∙ ap is_none fetch_is ∙ b))

    pub next_begin : Begin is (o + len (find is 0 o)) ⊎ (o + len (find is 0 o) ≡ length C)
    next_begin = go (next_place is 0 o sound.some b)
      where
        go : (is_none (find is 0 (o + len (find is 0 o))) ≡ false) ⊎ (o + len (find is 0 o) ≡ 0 + total is) → Begin is (o + len (find is 0 o)) ⊎ (o + len (find is 0 o) ≡ length C)
        go (inl c) = inl c
        go (inr e) = inr (omega (arith, total_is))

    -- An instruction that begins behind o stands behind that at o.
    pub no_overlap : (x : ℕ) → Begin is x → o < x → o + len (find is 0 o) ≤ x
    no_overlap x c l = go (dec_lt x (o + len (find is 0 o)))
      where
        go : Dec (x < o + len (find is 0 o)) → o + len (find is 0 o) ≤ x
        go (no h) = omega arith
        go (yes h) =
            let e : o + (x - o) ≡ x = omega arith in
            absurd (find_inside is 0 o (x - o) sound.some b (omega arith) (omega arith) (subst (Begin is) (sym e) c))

  pub fits : (o : ℕ) (b : Begin is o) → o + len (find is 0 o) ≤ length C
  fits o b = go (next_begin o b)
    where
      go : Begin is (o + len (find is 0 o)) ⊎ (o + len (find is 0 o) ≡ length C) → o + len (find is 0 o) ≤ length C
      go (inl c) = omega (arith, place_in (o + len (find is 0 o)) c)
      go (inr e) = omega arith

  -- What is sent on.
  pub sent_find : (o : ℕ) → find (sent_on C) 0 o ≡ thread is (find is 0 o)
  sent_find o = threaded_find is o
