-- Laws of the walk that gathers what is behind the split.
use Prim.Native.Nat.{ℕ, ◌+◌, ◌*◌, ◌≤◌, ◌<◌}
use Rattle.std.specs.Prelude.{◌≡◌, ◌≢◌, ◌⊎◌, Bool}
use Rattle.std.proofs.Math.Path.{refl, sym, ap}
use Rattle.std.proofs.Common.{◌∙◌, subst, inl, inr, true≢false}
use Rattle.std.proofs.Math.Bool.{true, false}
use mathlib.Core.List.{List}
use Rattle.std.proofs.Math.ListN.{length, get_or}
use native.Mathlib.Omega.{arith}
use Rattle.route_completion.specs.Sem.{pick, elem}
use Rattle.code_valid.specs.Instrs.{len, words, parse, find}
use Rattle.code_valid.specs.Valid.{Valid}
use Rattle.code_shorten.specs.Sound.{Begin, len_pos}
use Rattle.code_shorten.specs.Closes.{In}
use Rattle.code_put.specs.Put.{Put}
use Rattle.code_pass.specs.Stages.{kept_places, new_place, kept_to, sent_on, mark, Split, Fronted, Gathered}
use Rattle.code_pass.proofs.KeptLaws.{sent_len, kept_parse}
use Rattle.code_mark.specs.Read.{standing_in}
use Rattle.code_mark.proofs.PlaceLaws.{first_low}
use Rattle.code_mark.proofs.KeptLaws.{kept_new}
use Rattle.code_gather.specs.Gather.{Saved, Behind, Freed, Gathering}
use Rattle.code_gather.proofs.BackLaws.{needed_fits}
use Rattle.code_gather.proofs.JumpLaws.{entry_unmarked}
use Rattle.code_gather.proofs.EnteredLaws.{At, at_begin, at_more, size_is}
use Rattle.code_gather.proofs.StepLaws.{old_low, begins_before, kept_sum}
use Rattle.code_gather.proofs.FreeLaws.{slot_same, free_none}
use Rattle.code_gather.proofs.NowLaws.{fronted_behind}

-- The walk has come to p, and q numbers are kept before it; the slots begin at the block.
pub record Going (C f : List ℕ) (split p q block : ℕ) : Type 0 where
  pub at : At C p
  pub value : q ≡ kept_to C p
  pub gathered : Gathered C f split p
  pub freed : Freed C f split p block

module _ (C : List ℕ) (v : Valid C) (split : ℕ) (cut : Split C split) where
  abbrev S : List ℕ
  S = kept_places C

  pub going_first : (f : List ℕ) (front block n : ℕ) → front ≡ kept_to C split → Fronted C f split → block + 3 * n ≡ split → Saved C f split split block n → Going C f split split front block
  going_first f front block n e s ends w =
      record {
        at = cut.begins;
        value = e;
        gathered = record { fronted = s; back = λ o j k l m r. absurd (omega arith) };
        freed = record { count = n; ends = ends; all_saved = w };
      }

  -- There is room before the slots.
  room : (f : List ℕ) (p block : ℕ) → Freed C f split p block → kept_to C p ≤ block
  room f p block d = omega (arith, d.ends, d.all_saved.few, needed_fits C split v p, cut.behind)

  module _ (f : List ℕ) (p q block : ℕ) (g : Going C f split p q block) (l : split ≤ p) (m : p < length f) where
    h : Behind C f split
    h = fronted_behind C f split g.gathered.fronted

    pub going_begin : Begin (parse C) p
    going_begin = at_begin C p (length f) h.same g.at m

    pub going_some : len (standing_in f p) ≢ 0
    going_some z = omega (arith, size_is C v f split h p going_begin l, len_pos (find (parse C) 0 p) going_begin)

    pub going_size : (n : ℕ) → n ≡ len (standing_in f p) → n ≡ len (find (parse C) 0 p)
    going_size n e = e ∙ size_is C v f split h p going_begin l

    sum : (n : ℕ) → n ≡ len (standing_in f p) → kept_to C (p + n) ≡ q + pick (elem p S) n 0
    sum n e = kept_sum C v p going_begin n (going_size n e) q g.value

    only : (n o : ℕ) → n ≡ len (standing_in f p) → Begin (parse C) o → o < p + n → (o < p) ⊎ (o ≡ p)
    only n o e c r = begins_before C v p going_begin n (going_size n e) o c r

    marked_by : (c : Bool) → elem p S ≡ c → get_or f p 0 ≡ get_or C p 0 + pick c mark 0
    marked_by c e = h.behind p l ∙ ap (λ x. get_or C p 0 + pick x mark 0) e

    pub going_in : mark ≤ get_or f p 0 → In S p
    going_in a = go (elem p S) refl
      where
        go : (c : Bool) → elem p S ≡ c → c ≡ true
        go true e = refl
        go false e = let z : get_or f p 0 ≡ get_or C p 0 + 0 = marked_by false e in absurd (omega (arith, first_low C v p going_begin))

    going_out : get_or f p 0 < mark → elem p S ≡ false
    going_out a = go (elem p S) refl
      where
        go : (c : Bool) → elem p S ≡ c → c ≡ false
        go false e = refl
        go true e = let z : get_or f p 0 ≡ get_or C p 0 + mark = marked_by true e in absurd (omega arith)

    -- What is dropped is passed.
    pub going_pass : (n : ℕ) → n ≡ len (standing_in f p) → get_or f p 0 < mark → Going C f split (p + n) q block
    going_pass n e a =
        record {
          at = at_more C v p going_begin n (going_size n e);
          value = sym (sum n e ∙ ap (λ c. q + pick c n 0) (going_out a) ∙ (let z : q + 0 ≡ q = omega arith in z));
          gathered = record {
            fronted = g.gathered.fronted;
            back = λ o j k r t u. new o j k r u (only n o e (kept_parse C v o k) t);
          };
          freed = free_none C v split p going_begin f h l block g.freed.count n g.freed.ends g.freed.all_saved (going_size n e) (sym (entry_unmarked f split p a));
        }
      where
        new : (o j : ℕ) → In S o → split ≤ o → j < len (find (sent_on C) 0 o) → (o < p) ⊎ (o ≡ p) → get_or f (new_place C o + j) 0 ≡ get_or (words (find (sent_on C) 0 o)) j 0
        new o j k r u (inl t) = g.gathered.back o j k r t u
        new o j k r u (inr t) = absurd (true≢false (sym k ∙ ap (λ y. elem y S) t ∙ going_out a))

    -- What is kept is copied, when room is freed for it.
    pub going_keep : (n : ℕ) → n ≡ len (standing_in f p) → mark ≤ get_or f p 0 → (f₁ f₂ : List ℕ) (block' : ℕ) (w : List ℕ) → length f₁ ≡ length f
        → ((x : ℕ) → (x < block) ⊎ (split ≤ x) → get_or f₁ x 0 ≡ get_or f x 0) → Freed C f₁ split (p + n) block'
        → ((j : ℕ) → j < n → get_or w j 0 ≡ get_or (words (find (sent_on C) 0 p)) j 0) → Put f₁ q w n f₂ → Going C f₂ split (p + n) (q + n) block'
    going_keep n e a f₁ f₂ block' w same outside d is u =
        record {
          at = at_more C v p going_begin n (going_size n e);
          value = sym total;
          gathered = record {
            fronted = record {
              same = u.same ∙ same ∙ h.same;
              front = λ o j k r t. keeps (new_place C o + j) (omega (arith, old_low C v p o j k (omega arith) t, g.value)) ∙ g.gathered.fronted.front o j k r t;
              behind = λ x r. u.elsewhere x (inr (omega (arith, fits_in, d.ends))) ∙ outside x (inr r) ∙ h.behind x r;
            };
            back = λ o j k r t y. new o j k r y (only n o e (kept_parse C v o k) t);
          };
          freed = record {
            count = d.count;
            ends = d.ends;
            all_saved = record {
              slots = λ j r. slot_same C f₁ f₂ split (block' + 3 * j) (block' + 3 * j) (λ y t. u.elsewhere (block' + 3 * j + y) (inr (omega (arith, fits_in)))) (d.all_saved.slots j r);
              all = λ x r. let y = d.all_saved.all x r in (y.0, y.1, u.elsewhere (block' + 3 * y.0) (inr (omega (arith, fits_in))) ∙ y.2);
              few = d.all_saved.few;
            };
          };
        }
      where
        k : In S p
        k = going_in a

        total : kept_to C (p + n) ≡ q + n
        total = sum n e ∙ ap (λ c. q + pick c n 0) k

        fits_in : q + n ≤ block'
        fits_in = omega (arith, room f₁ (p + n) block' d, total)

        before : q ≤ block
        before = omega (arith, room f p block g.freed, g.value)

        keeps : (x : ℕ) → x < q → get_or f₂ x 0 ≡ get_or f x 0
        keeps x r = u.elsewhere x (inl r) ∙ outside x (inl (omega (arith, before)))

        new : (o j : ℕ) → In S o → split ≤ o → j < len (find (sent_on C) 0 o) → (o < p) ⊎ (o ≡ p) → get_or f₂ (new_place C o + j) 0 ≡ get_or (words (find (sent_on C) 0 o)) j 0
        new o j i r y (inl t) = keeps (new_place C o + j) (omega (arith, old_low C v p o j i t y, g.value)) ∙ g.gathered.back o j i r t y
        new o j i r y (inr t) =
            let z : new_place C p + j ≡ q + j = omega (arith, kept_new C v p going_begin, g.value) in
            let s : j < n = omega (arith, going_size n e, sent_len C v p, subst (λ x. j < len (find (sent_on C) 0 x)) t y) in
            subst (λ x. get_or f₂ (new_place C x + j) 0 ≡ get_or (words (find (sent_on C) 0 x)) j 0) (sym t)
            (ap (λ x. get_or f₂ x 0) z ∙ u.here j s ∙ is j s)

  pub going_end : (f : List ℕ) (p q block : ℕ) → Going C f split p q block → length f ≤ p → Gathered C f split (length C)
  going_end f p q block g l =
      let e : length f ≡ length C = g.gathered.fronted.same in
      record { fronted = g.gathered.fronted; back = λ o j k r t u. g.gathered.back o j k r (omega arith) u }

  -- The slots are moved to the end of the front.
  module _ (f f' : List ℕ) (kept saved block : ℕ) (g : Gathering C f split kept saved) (ends : block + 3 * saved ≡ split) (same : length f' ≡ length f)
      (copied : (y : ℕ) → y < 3 * saved → get_or f' (block + y) 0 ≡ get_or f (kept + y) 0) (below : (y : ℕ) → y < block → get_or f' y 0 ≡ get_or f y 0)
      (above : (y : ℕ) → split ≤ y → get_or f' y 0 ≡ get_or f y 0) where
    pub moved_fronted : Fronted C f' split
    moved_fronted =
        record {
          same = same ∙ g.fronted.same;
          front = λ o j k l r. below (new_place C o + j) (omega (arith, old_low C v split o j k l r, g.value, g.room)) ∙ g.fronted.front o j k l r;
          behind = λ x l. above x l ∙ g.fronted.behind x l;
        }

    copy : (j y : ℕ) → j < saved → y < 3 → get_or f' (block + 3 * j + y) 0 ≡ get_or f (kept + 3 * j + y) 0
    copy j y l r =
        ap (λ z. get_or f' z 0) (let z : block + 3 * j + y ≡ block + (3 * j + y) = omega arith in z) ∙ copied (3 * j + y) (omega arith)
        ∙ ap (λ z. get_or f z 0) (let z : kept + (3 * j + y) ≡ kept + 3 * j + y = omega arith in z)

    pub moved_saved : Saved C f' split split block saved
    moved_saved =
        record {
          slots = λ j l. slot_same C f f' split (kept + 3 * j) (block + 3 * j) (λ y r. copy j y l r) (g.all_saved.slots j l);
          all = λ x i. let w = g.all_saved.all x i in (w.0, w.1, copied (3 * w.0) (omega (arith, w.1)) ∙ w.2);
          few = g.all_saved.few;
        }
