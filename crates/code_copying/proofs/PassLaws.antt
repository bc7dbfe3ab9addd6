-- The whole pass by a copy: jumps sent on, what is reached marked, and closed up into a second slice.
use Rattle.std.specs.Prelude.{ℕ, ◌≡◌, refl, Bool, true, false, List, ◌++◌, drop}
use Rattle.std.proofs.Math.Path.{sym, ap}
use Rattle.std.proofs.Common.{◌∙◌}
use Rattle.std.proofs.Math.ListN.{length}
use Rattle.route_completion.specs.Sem.{elem}
use Rattle.code_flat.specs.Machine.{Instr}
use Rattle.code_valid.specs.Instrs.{flat, parse}
use Rattle.code_valid.specs.Valid.{Valid}
use Rattle.code_shorten.specs.Short.{threaded, reached, close_up, shorter}
use Rattle.code_shorten.specs.Longer.{flat_length, map_length}
use Rattle.code_shorten.specs.Sound.{Sound, flat_parse, valid_sound}
use Rattle.code_shorten.specs.Threads.{threaded_sound}
use Rattle.code_shorten.specs.Closes.{In}
use Rattle.code_shorten.specs.Stands.{least}
use Rattle.code_shorten.specs.Laws.{close_up_by}
use Rattle.code_copying.specs.Marking.{Reached}

-- What is marked has the places of what is reached.
same_set : (is : List Instr) → Sound is → (M : List ℕ) (r : Reached is M) (o : ℕ) → elem o r.set ≡ elem o (reached is)
same_set is s M r o = go (elem o r.set) refl (elem o (reached is)) refl
  where
    go : (a : Bool) → elem o r.set ≡ a → (b : Bool) → elem o (reached is) ≡ b → a ≡ b
    go true p true q = refl
    go true p false q = sym (r.inked.within o p) ∙ q
    go false p true q = sym p ∙ least is s (In r.set) r.start r.shut (length is) o q
    go false p false q = refl

module _ (C : List ℕ) (v : Valid C) where
  pub pass_sound : Sound (threaded (parse C))
  pass_sound = threaded_sound (parse C) (valid_sound C v)

  pub pass_closes : (M : List ℕ) (r : Reached (threaded (parse C)) M) → flat (close_up r.set (threaded (parse C))) ≡ shorter C
  unfolding shorter
  pass_closes M r = ap flat (close_up_by r.set (reached (threaded (parse C))) (same_set (threaded (parse C)) pass_sound M r) (threaded (parse C)))

  -- What closing up gives is the shorter code.
  pub pass_end : (M g : List ℕ) (n : ℕ) (r : Reached (threaded (parse C)) M)
      → (n ≡ length (flat (close_up r.set (threaded (parse C))))) × (g ≡ flat (close_up r.set (threaded (parse C))) ++ drop n C)
      → (n ≡ length (shorter C)) × (g ≡ shorter C ++ drop n C)
  pass_end M g n r h = (h.0 ∙ ap length (pass_closes M r), h.1 ∙ ap (λ l. l ++ drop n C) (pass_closes M r))

  -- The copy is as long as the code.
  pub pass_length : (M : List ℕ) → Reached (threaded (parse C)) M → length C ≡ length M
  unfolding threaded
  pass_length M r =
      sym (ap length (flat_parse C (valid_sound C v).some)) ∙ flat_length (parse C) ∙ sym (map_length (parse C) (parse C)) ∙ sym (flat_length (threaded (parse C))) ∙ sym r.inked.same
