-- Laws of the block of slots: what is needed behind a kept jump, and how room is freed.
use Prim.Native.Nat.{ℕ, suc, ◌+◌, ◌-◌, ◌*◌, ◌≤◌, ◌<◌}
use Rattle.std.specs.Prelude.{◌≡◌, Bool, not, ◌&&◌, eqb, Option, Some, None}
use Rattle.std.proofs.Math.Path.{refl, sym, ap}
use Rattle.std.proofs.Common.{◌∙◌, subst, true≢false}
use Rattle.std.proofs.Math.Bool.{true, false}
use mathlib.Core.List.{List, ◌∷◌}
use Rattle.std.proofs.Math.ListN.{length, get_or}
use native.Mathlib.Omega.{arith}
use Rattle.std.proofs.Math.Decide.{dec_lt}
use Rattle.route_completion.specs.Sem.{pick, elem}
use Rattle.code_valid.specs.Instrs.{len, parse, find}
use Rattle.code_valid.specs.Valid.{Valid}
use Rattle.code_machine.specs.declared.Target.{Target}
use Rattle.code_shorten.specs.Short.{to, aim_of}
use Rattle.code_shorten.specs.Sound.{Begin, dec_eq}
use Rattle.code_shorten.specs.Closes.{In}
use Rattle.code_shorten.specs.Reaches.{or_right}
use Rattle.code_pass.specs.Stages.{sent_on}
use Rattle.code_gather.specs.Gather.{entry_read, dropped, entered, with_entry, needed, Slot, Says, Saved, Behind, Found, Freed}
use Rattle.code_gather.proofs.BackLaws.{needed_entered}
use Rattle.code_gather.proofs.SentLaws.{needed_step, entry_at}
use Rattle.code_gather.proofs.TargetLaws.{entry_in}

-- What three numbers say, where they are copied.
pub slot_same : (C f g : List ℕ) (split a b : ℕ) → ((k : ℕ) → k < 3 → get_or g (b + k) 0 ≡ get_or f (a + k) 0) → Slot C f split a → Slot C g split b
slot_same C f g split a b h s =
    let x : get_or g b 0 ≡ get_or f a 0 = ap (λ y. get_or g y 0) (let z : b ≡ b + 0 = omega arith in z) ∙ h 0 (omega arith) ∙ ap (λ y. get_or f y 0) (let z : a + 0 ≡ a = omega arith in z) in
    record {
      out = ap (dropped C split) x ∙ s.out;
      leads = ap (λ y. aim_of (find (sent_on C) 0 y)) x ∙ s.leads ∙ (λ j. to (sym (h 1 (omega arith)) j) (sym (h 2 (omega arith)) j));
    }

module _ (C : List ℕ) (v : Valid C) (split p : ℕ) (b : Begin (parse C) p) (f : List ℕ) (h : Behind C f split) (l : split ≤ p) (block n size : ℕ) (ends : block + 3 * n ≡ split)
    (s : Saved C f split p block n) (e : size ≡ len (find (parse C) 0 p)) where
  abbrev x : ℕ
  x = p + size

  step : (a : Option Target) → a ≡ entry_read f split p → needed C split p ≡ with_entry C split a (needed C split x)
  step a q = needed_step C v split p b x (ap (λ k. p + k) e) ∙ ap (λ y. with_entry C split y (needed C split x)) (entry_at C v split p b f h l a q)

  -- Nothing less is needed.
  stay : needed C split p ≡ needed C split x → Freed C f split x block
  stay q =
      record {
        count = n;
        ends = ends;
        all_saved = record { slots = s.slots; all = λ y k. s.all y (ap (elem y) q ∙ k); few = subst (λ k. n ≤ length k) q s.few };
      }

  -- Where nothing is saved, nothing was needed.
  pub free_empty : split ≤ block → Freed C f split x block
  free_empty m =
      record {
        count = n;
        ends = ends;
        all_saved = record { slots = s.slots; all = λ y k. let w = s.all y (more y k) in absurd (omega (arith, w.1)); few = omega arith };
      }
    where
      kept_in : (y : ℕ) (a : Option Target) → In (needed C split x) y → In (with_entry C split a (needed C split x)) y
      kept_in y None k = k
      kept_in y (Some aim) k = go (dropped C split aim.place && not (elem aim.place (needed C split x)))
        where
          go : (c : Bool) → In (pick c (aim.place ∷ needed C split x) (needed C split x)) y
          go true = or_right (eqb y aim.place) (elem y (needed C split x)) k
          go false = k

      more : (y : ℕ) → In (needed C split x) y → In (needed C split p) y
      more y k = ap (elem y) (step (entry_read f split p) refl) ∙ kept_in y (entry_read f split p) k

  pub free_none : None ≡ entry_read f split p → Freed C f split x block
  free_none q = stay (step None q)

  module _ (t d : ℕ) (q : to t d ≡ entry_read f split p) where
    with_is : (c : Bool) → dropped C split t ≡ c → (r : Bool) → elem t (needed C split x) ≡ r → needed C split p ≡ pick (c && not r) (t ∷ needed C split x) (needed C split x)
    with_is c i r j =
        step (to t d) q ∙ ap (λ y. pick (y && not (elem t (needed C split x))) (t ∷ needed C split x) (needed C split x)) i
        ∙ ap (λ y. pick (c && not y) (t ∷ needed C split x) (needed C split x)) j

    -- What no slot says was kept, or is no jump.
    pub free_lost : Found f block split t None → Freed C f split x block
    free_lost g = stay (go (dropped C split t) refl)
      where
        go : (c : Bool) → dropped C split t ≡ c → needed C split p ≡ needed C split x
        go false i = with_is false i (elem t (needed C split x)) refl
        go true i =
            let w : Says f block n t = s.all t (ap (elem t) (step (to t d) q) ∙ entry_in C split (needed C split x) t d i) in
            absurd (g w.0 (omega (arith, w.1)) w.2)

    module _ (at : ℕ) (g : Found f block split t (Some at)) where
      inside : g.0 < n
      inside = omega (arith, g.1, g.2)

      out : dropped C split t ≡ true
      out = sym (ap (dropped C split) (ap (λ y. get_or f y 0) (sym g.1) ∙ g.3)) ∙ (s.slots g.0 inside).out

      -- Another jump enters there.
      pub free_later : entered C split t x ≡ true → Freed C f split x block
      free_later k = stay (with_is true out true (needed_entered C split t x out (parse C) 0 ∙ k))

      -- None does: the first slot takes its room.
      module _ (k : entered C split t x ≡ false) (f' : List ℕ) (copied : (y : ℕ) → y < 3 → get_or f' (at + y) 0 ≡ get_or f (block + y) 0)
          (below : (y : ℕ) → y < at → get_or f' y 0 ≡ get_or f y 0) (above : (y : ℕ) → at + 3 ≤ y → get_or f' y 0 ≡ get_or f y 0) where
        less : needed C split p ≡ t ∷ needed C split x
        less = with_is true out false (needed_entered C split t x out (parse C) 0 ∙ k)

        -- The slots but the first.
        moved_slot : (j : ℕ) → j < n - 1 → Slot C f' split (block + 3 + 3 * j)
        moved_slot j u = go (dec_eq (j + 1) g.0)
          where
            go : Dec (j + 1 ≡ g.0) → Slot C f' split (block + 3 + 3 * j)
            go (yes w) =
                let z : at ≡ block + 3 + 3 * j = omega (arith, g.1) in
                let first : Slot C f split block = subst (Slot C f split) (let y : block + 3 * 0 ≡ block = omega arith in y) (s.slots 0 (omega arith)) in
                subst (Slot C f' split) z (slot_same C f f' split block at copied first)
            go (no w) =
                let z : block + 3 * (j + 1) ≡ block + 3 + 3 * j = omega arith in
                subst (Slot C f' split) z (slot_same C f f' split (block + 3 * (j + 1)) (block + 3 * (j + 1)) (λ y r. apart y r (dec_lt (j + 1) g.0)) (s.slots (j + 1) (omega arith)))
              where
                apart : (y : ℕ) → y < 3 → Dec (j + 1 < g.0) → get_or f' (block + 3 * (j + 1) + y) 0 ≡ get_or f (block + 3 * (j + 1) + y) 0
                apart y r (yes o) = below (block + 3 * (j + 1) + y) (omega (arith, g.1))
                apart y r (no o) = above (block + 3 * (j + 1) + y) (omega (arith, g.1))

        moved_says : (y : ℕ) → In (needed C split x) y → Says f' (block + 3) (n - 1) y
        moved_says y i = go (s.all y (ap (elem y) less ∙ or_right (eqb y t) (elem y (needed C split x)) i))
          where
            other : y ≡ t → ⊥
            other w = true≢false (sym i ∙ ap (λ o. elem o (needed C split x)) w ∙ needed_entered C split t x out (parse C) 0 ∙ k)

            go : Says f block n y → Says f' (block + 3) (n - 1) y
            go w = try (dec_eq w.0 g.0) (dec_eq w.0 0)
              where
                try : Dec (w.0 ≡ g.0) → Dec (w.0 ≡ 0) → Says f' (block + 3) (n - 1) y
                try (yes a) c =
                    let z : block + 3 * w.0 ≡ at = omega (arith, g.1) in
                    absurd (other (sym w.2 ∙ ap (λ o. get_or f o 0) z ∙ g.3))
                try (no a) (yes c) =
                    let z : block + 3 + 3 * (g.0 - 1) ≡ at + 0 = omega (arith, g.1) in
                    let o : block + 0 ≡ block + 3 * w.0 = omega arith in
                    (g.0 - 1, omega (arith, inside), ap (λ r. get_or f' r 0) z ∙ copied 0 (omega arith) ∙ ap (λ r. get_or f r 0) o ∙ w.2)
                try (no a) (no c) =
                    let z : block + 3 + 3 * (w.0 - 1) ≡ block + 3 * w.0 = omega arith in
                    (w.0 - 1, omega (arith, w.1), ap (λ r. get_or f' r 0) z ∙ apart (dec_lt w.0 g.0) ∙ w.2)
                  where
                    apart : Dec (w.0 < g.0) → get_or f' (block + 3 * w.0) 0 ≡ get_or f (block + 3 * w.0) 0
                    apart (yes o) = below (block + 3 * w.0) (omega (arith, g.1))
                    apart (no o) = above (block + 3 * w.0) (omega (arith, g.1))

        pub free_moved : Freed C f' split x (block + 3)
        free_moved =
            let z : length (needed C split p) ≡ suc (length (needed C split x)) = ap length less in
            record {
              count = n - 1;
              ends = omega (arith, inside);
              all_saved = record { slots = moved_slot; all = moved_says; few = omega (arith, s.few) };
            }
