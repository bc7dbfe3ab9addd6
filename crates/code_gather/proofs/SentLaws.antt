-- Laws of a kept jump behind the split that is sent on.
use Prim.Native.Nat.{ℕ, ◌+◌, ◌≤◌, min}
use Rattle.std.specs.Prelude.{◌≡◌, Option, None}
use Rattle.std.proofs.Math.Path.{refl, sym, ap}
use Rattle.std.proofs.Common.{◌∙◌}
use Rattle.std.proofs.Math.Bool.{true, false}
use mathlib.Core.List.{List, []}
use Rattle.route_completion.specs.Sem.{elem}
use Rattle.code_valid.specs.Instrs.{len, parse, find}
use Rattle.code_valid.specs.Valid.{Valid}
use Rattle.code_machine.specs.declared.Target.{Target}
use Rattle.code_shorten.specs.Short.{to, hop}
use Rattle.code_shorten.specs.Sound.{Begin}
use Rattle.code_shorten.specs.Closes.{In}
use Rattle.code_pass.specs.Stages.{kept_places}
use Rattle.code_mark.proofs.PlaceLaws.{sound}
use Rattle.code_gather.specs.Gather.{entry, entry_read, is_jump, dropped, with_entry, needed_by, needed, hop_sent, Says, Saved, Behind, target}
use Rattle.code_gather.proofs.WayLaws.{entry_same}
use Rattle.code_gather.proofs.BackLaws.{back_next}
use Rattle.code_gather.proofs.TargetLaws.{target_none, target_end, target_ring, target_on, entry_begin, entry_needed, next_begin, next_kept}

module _ (C : List ℕ) (v : Valid C) (split p : ℕ) (b : Begin (parse C) p) where
  -- What is needed from an instruction on, and from behind it.
  pub needed_step : (x : ℕ) → x ≡ p + len (find (parse C) 0 p) → needed C split p ≡ with_entry C split (entry C split p (find (parse C) 0 p)) (needed C split x)
  needed_step x e = back_next (needed_by C split) [] (parse C) 0 p x (sound C v).some b e

  module _ (f : List ℕ) (h : Behind C f split) (l : split ≤ p) where
    pub entry_at : (a : Option Target) → a ≡ entry_read f split p → entry C split p (find (parse C) 0 p) ≡ a
    entry_at a e = sym (e ∙ entry_same C v f split h p b l)

    module _ (k : In (kept_places C) p) where
      pub at_none : None ≡ entry_read f split p → None ≡ target C (find (parse C) 0 p)
      at_none e = sym (target_none C v split p b k (entry_at None e))

      module _ (t d : ℕ) (e : to t d ≡ entry_read f split p) where
        pub at_begin : Begin (parse C) t
        at_begin = entry_begin C v split p b k t d (entry_at (to t d) e)

        pub at_saved : (block n : ℕ) → Saved C f split p block n → dropped C split t ≡ true → Says f block n t
        at_saved block n s q =
            let x : ℕ = p + len (find (parse C) 0 p) in
            s.all t (ap (elem t) (needed_step x refl) ∙ entry_needed C v split p b k (needed C split x) t d (entry_at (to t d) e) q)

        pub at_end : None ≡ hop_sent C split t → to t d ≡ target C (find (parse C) 0 p)
        at_end q = sym (target_end C v split p b k t d (entry_at (to t d) e) (sym q))

        module _ (x y : ℕ) (g : to x y ≡ hop_sent C split t) where
          pub at_next : Begin (parse C) x
          at_next = next_begin C v split p b k t d x y (entry_at (to t d) e) (sym g)

          pub at_kept : is_jump (hop (parse C) x) ≡ true → In (kept_places C) x
          at_kept j = next_kept C v split p b k t d x y (entry_at (to t d) e) (sym g) j

          pub at_ring : is_jump (hop (parse C) x) ≡ true → None ≡ target C (find (parse C) 0 p)
          at_ring j = sym (target_ring C v split p b k t d x y (entry_at (to t d) e) (sym g) j)

          pub at_on : is_jump (hop (parse C) x) ≡ false → (z : ℕ) → z ≡ min d y → to x z ≡ target C (find (parse C) 0 p)
          at_on j z q = ap (to x) q ∙ sym (target_on C v split p b k t d x y (entry_at (to t d) e) (sym g) j)
