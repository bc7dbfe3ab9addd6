-- Laws of the walk that gathers the front.
use Prim.Native.Nat.{ℕ, zero, suc, ◌+◌, ◌-◌, ◌*◌, ◌%◌, ◌≤◌, ◌<◌}
use Rattle.std.specs.Prelude.{◌≡◌, ◌≢◌, ◌⊎◌, Bool, not, ◌&&◌, ltb, leb}
use Rattle.std.proofs.Math.Path.{refl, sym, ap}
use Rattle.std.proofs.Common.{◌∙◌, subst, inl, inr, true≢false, lt-ltb, ne_eqb}
use Rattle.std.proofs.Math.Bool.{true, false}
use mathlib.Core.List.{List, [], ◌∷◌}
use Rattle.std.proofs.Math.ListN.{length, get_or}
use native.Mathlib.Omega.{arith}
use Rattle.std.proofs.Math.Decide.{dec_lt}
use Rattle.route_completion.specs.Sem.{pick, elem}
use Rattle.code_flat.specs.Machine.{Instr, NONE, LIST, LEAVE, ASK, SELECT, OPEN, END, CASE}
use Rattle.code_valid.specs.Instrs.{len, words, parse, find}
use Rattle.code_valid.specs.Valid.{Valid}
use Rattle.code_shorten.specs.Short.{to, aim_of}
use Rattle.code_shorten.specs.Sound.{Begin, len_pos}
use Rattle.code_shorten.specs.Closes.{In}
use Rattle.code_put.specs.Put.{Put}
use Rattle.code_pass.specs.Stages.{kept_places, new_place, kept_to, sent_on, mark, cycle, sent_word, tagged, Split, Sent}
use Rattle.code_pass.proofs.KeptLaws.{sent_len, kept_parse}
use Rattle.code_mark.specs.Read.{read_at, standing_in}
use Rattle.code_mark.proofs.PlaceLaws.{sound, place_in, fits, no_overlap, sent_find}
use Rattle.code_mark.proofs.KeptLaws.{kept_none, kept_new}
use Rattle.code_gather.specs.Gather.{is_jump, dropped, entered, needed, Slot, Slots, Says, Behind, Pushed, Gathering}
use Rattle.code_gather.proofs.BackLaws.{below, below_more, below_one, below_all, needed_entered, needed_dropped}
use Rattle.code_gather.proofs.EnteredLaws.{At, at_begin, at_more}
use Rattle.code_gather.proofs.StepLaws.{old_low, begins_before, kept_sum}
use Rattle.code_gather.proofs.FrontReads.{sent_plain, sent_rest, sent_read, sent_standing, sent_low, sent_high, dropped_front, dropped_out, dropped_begin, dropped_jump}
use Rattle.code_gather.proofs.FreeLaws.{slot_same}
use Rattle.code_gather.proofs.TargetLaws.{thread_aim}

-- A jump goes where its last two numbers say.
aim_words : (i : Instr) → is_jump (aim_of i) ≡ true → aim_of i ≡ to (get_or (words i) (len i - 2) 0) (get_or (words i) (len i - 1) 0)
aim_words NONE h = absurd (true≢false (sym h))
aim_words (LIST n) h = absurd (true≢false (sym h))
aim_words (LEAVE t d) h = refl
aim_words (ASK n y z) h = absurd (true≢false (sym h))
aim_words (SELECT n c e) h = absurd (true≢false (sym h))
aim_words (OPEN f) h = absurd (true≢false (sym h))
aim_words (END e) h = absurd (true≢false (sym h))
aim_words (CASE c t d) h = refl

-- What stands there is what is read there.
pub standing_read : (f : List ℕ) (p : ℕ) → len (standing_in f p) ≢ 0 → standing_in f p ≡ read_at f p
unfolding standing_in
standing_read f p n = go (leb (p + len (read_at f p)) (length f)) n
  where
    go : (b : Bool) → len (pick b (read_at f p) NONE) ≢ 0 → pick b (read_at f p) NONE ≡ read_at f p
    go true m = refl
    go false m = absurd (omega arith)

pub long_size : (f : List ℕ) (p n : ℕ) → n ≡ len (standing_in f p) → n ≢ 0 → 3 ≤ len (read_at f p) → 3 ≤ n
long_size f p n e z h = omega (arith, e, ap len (standing_read f p (λ q. z (e ∙ q))))

-- The walk has come to p: what is kept before it is gathered, what is needed of it is saved, and the rest is as it was.
pub record Fronting (C f₀ f : List ℕ) (split p kept saved : ℕ) : Type 0 where
  pub at : At C p
  pub low : p ≤ split
  pub same : length f ≡ length C
  pub value : kept ≡ kept_to C p
  pub few : saved ≤ below p (needed C split split)
  pub front : (o j : ℕ) → In (kept_places C) o → o < p → j < len (find (sent_on C) 0 o) → get_or f (new_place C o + j) 0 ≡ tagged C o j
  pub slots : Slots C f split kept saved
  pub all : (x : ℕ) → In (needed C split split) x → x < p → Says f kept saved x
  pub rest : (x : ℕ) → p ≤ x → get_or f x 0 ≡ get_or f₀ x 0

module _ (C : List ℕ) (v : Valid C) (split : ℕ) (cut : Split C split) (f₀ : List ℕ) (s : Sent C f₀ split) where
  abbrev S : List ℕ
  S = kept_places C

  abbrev N : List ℕ
  N = needed C split split

  pub fronting_first : Fronting C f₀ f₀ split 0 0 0
  fronting_first =
      record {
        at = inl (sound C v).start;
        low = omega arith;
        same = s.same;
        value = sym (kept_none C v);
        few = omega arith;
        front = λ o j k l m. absurd (omega arith);
        slots = λ j l. absurd (omega arith);
        all = λ x i l. absurd (omega arith);
        rest = λ x l. refl;
      }

  module _ (f : List ℕ) (p kept saved : ℕ) (g : Fronting C f₀ f split p kept saved) (l : p < split) where
    pub front_begin : Begin (parse C) p
    front_begin = go cut.begins
      where
        go : Begin (parse C) split ⊎ (split ≡ length C) → Begin (parse C) p
        go (inl c) = at_begin C p (length C) refl g.at (omega (arith, place_in C v split c))
        go (inr e) = at_begin C p (length C) refl g.at (omega arith)

    b : Begin (parse C) p
    b = front_begin

    abbrev i : Instr
    i = find (sent_on C) 0 p

    sent : (j : ℕ) → j < len i → get_or f (p + j) 0 ≡ sent_word C p j
    sent j m = g.rest (p + j) (omega arith) ∙ s.front p j b l m

    pub front_size : len (standing_in f p) ≡ len (find (parse C) 0 p)
    front_size = ap len (sent_standing C v f p b sent g.same) ∙ sent_len C v p

    pub front_some : len (standing_in f p) ≢ 0
    front_some z = omega (arith, front_size, len_pos (find (parse C) 0 p) b)

    pub front_behind : Behind C f split
    front_behind = record { same = g.same; behind = λ x m. g.rest x (omega arith) ∙ s.behind x m }

    -- The front ends where an instruction begins, or at the end.
    pub front_low : (n : ℕ) → n ≡ len (standing_in f p) → p + n ≤ split
    front_low n e = go cut.begins
      where
        go : Begin (parse C) split ⊎ (split ≡ length C) → p + n ≤ split
        go (inl c) = omega (arith, e, front_size, no_overlap C v p b split c l)
        go (inr q) = omega (arith, e, front_size, fits C v p b)

    -- Of what begins before the next place only that at p is new.
    only : (n o : ℕ) → n ≡ len (standing_in f p) → Begin (parse C) o → o < p + n → (o < p) ⊎ (o ≡ p)
    only n o e c m = begins_before C v p b n (e ∙ front_size) o c m

    sum : (n : ℕ) → n ≡ len (standing_in f p) → kept_to C (p + n) ≡ kept + pick (elem p S) n 0
    sum n e = kept_sum C v p b n (e ∙ front_size) kept g.value

    -- Kept or not, by its number.
    pub front_in : mark ≤ get_or f p 0 → In S p
    front_in h = go (elem p S) refl
      where
        go : (c : Bool) → elem p S ≡ c → c ≡ true
        go true q = refl
        go false q = absurd (omega (arith, sent_low C v f p b sent q))

    pub front_out : get_or f p 0 < mark → elem p S ≡ false
    front_out h = go (elem p S) refl
      where
        go : (c : Bool) → elem p S ≡ c → c ≡ false
        go false q = refl
        go true q = absurd (omega (arith, sent_high C v f p b sent q))

    -- A KEPT INSTRUCTION is pushed in.
    pub front_keep : (n : ℕ) → n ≡ len (standing_in f p) → n ≤ 4 → mark ≤ get_or f p 0 → kept + 3 * saved ≤ p → (f' : List ℕ)
        → Pushed f kept (3 * saved) ((get_or f p 0 % mark + 8 * (p % cycle)) ∷ get_or f (p + 1) 0 ∷ get_or f (p + 2) 0 ∷ get_or f (p + 3) 0 ∷ []) n f'
        → Fronting C f₀ f' split (p + n) (kept + n) saved
    front_keep n e most h room f' u =
        record {
          at = at_more C v p b n (e ∙ front_size);
          low = front_low n e;
          same = u.same ∙ g.same;
          value = sym (sum n e ∙ ap (λ c. kept + pick c n 0) k);
          few = omega (arith, g.few, below_more p (p + n) N (omega arith));
          front = λ o j q m r. new o j q r (only n o e (kept_parse C v o q) m);
          slots = λ j m.
              slot_same C f f' split (kept + 3 * j) (kept + n + 3 * j)
              (λ y r. ap (λ z. get_or f' z 0) (let z : kept + n + 3 * j + y ≡ kept + n + (3 * j + y) = omega arith in z) ∙ u.moved (3 * j + y) (omega arith)
              ∙ ap (λ z. get_or f z 0) (let z : kept + (3 * j + y) ≡ kept + 3 * j + y = omega arith in z)) (g.slots j m);
          all = λ x q m. old x q (only n x e (dropped_begin C split x (needed_dropped C split x split (parse C) 0 q)) m);
          rest = λ x m. u.above x (omega arith) ∙ g.rest x (omega arith);
        }
      where
        k : In S p
        k = front_in h

        others : (j : ℕ) → 0 < j → j < len i → get_or f (p + j) 0 ≡ tagged C p j
        others j a m =
            sent_rest C v f p b sent j a m ∙ (let z : get_or (words i) j 0 ≡ get_or (words i) j 0 + 0 = omega arith in z)
            ∙ ap (λ c. get_or (words i) j 0 + pick c (8 * (p % cycle)) 0) (sym (ne_eqb j 0 (λ q. omega arith)))

        first : (j : ℕ) → j < len i → get_or ((get_or f p 0 % mark + 8 * (p % cycle)) ∷ get_or f (p + 1) 0 ∷ get_or f (p + 2) 0 ∷ get_or f (p + 3) 0 ∷ []) j 0 ≡ tagged C p j
        first zero m = ap (λ x. x + 8 * (p % cycle)) (sent_plain C v f p b sent)
        first (suc zero) m = others 1 (omega arith) m
        first (suc (suc zero)) m = others 2 (omega arith) m
        first (suc (suc (suc zero))) m = others 3 (omega arith) m
        first (suc (suc (suc (suc j)))) m = absurd (omega (arith, e, front_size, sent_len C v p))

        new : (o j : ℕ) → In S o → j < len (find (sent_on C) 0 o) → (o < p) ⊎ (o ≡ p) → get_or f' (new_place C o + j) 0 ≡ tagged C o j
        new o j q r (inl m) = u.below (new_place C o + j) (omega (arith, old_low C v p o j q m r, g.value)) ∙ g.front o j q m r
        new o j q r (inr m) =
            let z : new_place C p + j ≡ kept + j = omega (arith, kept_new C v p b, g.value) in
            let t : j < len i = subst (λ x. j < len (find (sent_on C) 0 x)) m r in
            subst (λ x. get_or f' (new_place C x + j) 0 ≡ tagged C x j) (sym m)
            (ap (λ y. get_or f' y 0) z ∙ u.here j (omega (arith, e, front_size, sent_len C v p)) ∙ first j t)

        old : (x : ℕ) → In N x → (x < p) ⊎ (x ≡ p) → Says f' (kept + n) saved x
        old x q (inl m) =
            let w : Says f kept saved x = g.all x q m in
            (w.0, w.1, ap (λ z. get_or f' z 0) (let z : kept + n + 3 * w.0 ≡ kept + n + (3 * w.0) = refl in z) ∙ u.moved (3 * w.0) (omega (arith, w.1)) ∙ w.2)
        old x q (inr m) = absurd (true≢false (sym k ∙ ap (λ y. elem y S) (sym m) ∙ dropped_out C split x (needed_dropped C split x split (parse C) 0 q)))

    -- A dropped one that is not needed is left.
    pub front_pass : (n : ℕ) → n ≡ len (standing_in f p) → get_or f p 0 < mark → (In N p → ⊥) → Fronting C f₀ f split (p + n) kept saved
    front_pass n e h no_need =
        record {
          at = at_more C v p b n (e ∙ front_size);
          low = front_low n e;
          same = g.same;
          value = sym (sum n e ∙ ap (λ c. kept + pick c n 0) (front_out h) ∙ (let z : kept + 0 ≡ kept = omega arith in z));
          few = omega (arith, g.few, below_more p (p + n) N (omega arith));
          front = λ o j q m r. new o j q r (only n o e (kept_parse C v o q) m);
          slots = g.slots;
          all = λ x q m. old x q (only n x e (dropped_begin C split x (needed_dropped C split x split (parse C) 0 q)) m);
          rest = λ x m. g.rest x (omega arith);
        }
      where
        new : (o j : ℕ) → In S o → j < len (find (sent_on C) 0 o) → (o < p) ⊎ (o ≡ p) → get_or f (new_place C o + j) 0 ≡ tagged C o j
        new o j q r (inl m) = g.front o j q m r
        new o j q r (inr m) = absurd (true≢false (sym q ∙ ap (λ y. elem y S) m ∙ front_out h))

        old : (x : ℕ) → In N x → (x < p) ⊎ (x ≡ p) → Says f kept saved x
        old x q (inl m) = g.all x q m
        old x q (inr m) = absurd (no_need (ap (λ y. elem y N) (sym m) ∙ q))

    -- What is needed, as it is asked.
    jumps : is_jump (aim_of (read_at f p)) ≡ is_jump (aim_of (find (parse C) 0 p))
    jumps = ap (λ j. is_jump (aim_of j)) (sent_read C v f p b sent ∙ sent_find C v p) ∙ thread_aim (parse C) (find (parse C) 0 p)

    both : (x y : Bool) → (x && y) ≡ true → (x ≡ true) × (y ≡ true)
    both true true q = (refl, refl)
    both true false q = absurd (true≢false (sym q))
    both false y q = absurd (true≢false (sym q))

    three : (x y z : Bool) → x ≡ true → y ≡ false → z ≡ true → (x && (not y && z)) ≡ true
    three true false true q r t = refl
    three true false false q r t = absurd (true≢false (sym t))
    three true true z q r t = absurd (true≢false r)
    three false y z q r t = absurd (true≢false (sym q))

    pub front_dropped : get_or f p 0 < mark → is_jump (aim_of (read_at f p)) ≡ true → dropped C split p ≡ true
    front_dropped h j = three (ltb p split) (elem p S) (is_jump (aim_of (find (parse C) 0 p))) (lt-ltb p split l) (front_out h) (sym jumps ∙ j)

    pub front_unneeded : get_or f p 0 < mark → (is_jump (aim_of (read_at f p)) && entered C split p split) ≡ false → In N p → ⊥
    front_unneeded h q k =
        let d : dropped C split p ≡ true = needed_dropped C split p split (parse C) 0 k in
        let j : is_jump (aim_of (read_at f p)) ≡ true = jumps ∙ dropped_jump C split p d in
        let t : entered C split p split ≡ true = sym (needed_entered C split p split d (parse C) 0) ∙ k in
        true≢false (sym (ap (λ x. x && entered C split p split) j ∙ t) ∙ q)

    -- One that is needed is saved.
    pub front_save : (n : ℕ) → n ≡ len (standing_in f p) → get_or f p 0 < mark → (is_jump (aim_of (read_at f p)) && entered C split p split) ≡ true → 3 ≤ n → kept + 3 * saved ≤ p → (f' : List ℕ)
        → Put f (kept + 3 * saved) (p ∷ get_or f (p + n - 2) 0 ∷ get_or f (p + n - 1) 0 ∷ []) 3 f' → Fronting C f₀ f' split (p + n) kept (saved + 1)
    front_save n e h q big room f' u =
        record {
          at = at_more C v p b n (e ∙ front_size);
          low = front_low n e;
          same = u.same ∙ g.same;
          value = sym (sum n e ∙ ap (λ c. kept + pick c n 0) (front_out h) ∙ (let z : kept + 0 ≡ kept = omega arith in z));
          few = omega (arith, g.few, below_one p (p + n) N (omega arith) need);
          front = λ o j k m r. new o j k r (only n o e (kept_parse C v o k) m);
          slots = λ j m. slot j m (dec_lt j saved);
          all = λ x k m. old x k (only n x e (dropped_begin C split x (needed_dropped C split x split (parse C) 0 k)) m);
          rest = λ x m. u.elsewhere x (inr (omega arith)) ∙ g.rest x (omega arith);
        }
      where
        is_both : (is_jump (aim_of (read_at f p)) ≡ true) × (entered C split p split ≡ true)
        is_both = both (is_jump (aim_of (read_at f p))) (entered C split p split) q

        out : dropped C split p ≡ true
        out = front_dropped h is_both.0

        need : In N p
        need = needed_entered C split p split out (parse C) 0 ∙ is_both.1

        at : ℕ
        at = kept + 3 * saved

        size : n ≡ len i
        size = e ∙ front_size ∙ sym (sent_len C v p)

        new : (o j : ℕ) → In S o → j < len (find (sent_on C) 0 o) → (o < p) ⊎ (o ≡ p) → get_or f' (new_place C o + j) 0 ≡ tagged C o j
        new o j k r (inl m) = u.elsewhere (new_place C o + j) (inl (omega (arith, old_low C v p o j k m r, g.value))) ∙ g.front o j k m r
        new o j k r (inr m) = absurd (true≢false (sym k ∙ ap (λ y. elem y S) m ∙ front_out h))

        word : (k x : ℕ) → k < n → x ≡ p + k → 0 < k → get_or f x 0 ≡ get_or (words i) k 0
        word k x m z a = ap (λ y. get_or f y 0) z ∙ sent_rest C v f p b sent k a (omega (arith, size))

        last_slot : Slot C f' split (kept + 3 * saved)
        last_slot =
            let x : get_or f' (kept + 3 * saved) 0 ≡ p = ap (λ y. get_or f' y 0) (let z : kept + 3 * saved ≡ kept + 3 * saved + 0 = omega arith in z) ∙ u.here 0 (omega arith) in
            let a : get_or f' (kept + 3 * saved + 1) 0 ≡ get_or (words i) (len i - 2) 0 = u.here 1 (omega arith) ∙ word (n - 2) (p + n - 2) (omega arith) (omega arith) (omega arith) ∙ ap (λ y. get_or (words i) (y - 2) 0) size in
            let c : get_or f' (kept + 3 * saved + 2) 0 ≡ get_or (words i) (len i - 1) 0 = u.here 2 (omega arith) ∙ word (n - 1) (p + n - 1) (omega arith) (omega arith) (omega arith) ∙ ap (λ y. get_or (words i) (y - 1) 0) size in
            let j : is_jump (aim_of i) ≡ true = ap (λ y. is_jump (aim_of y)) (sym (sent_read C v f p b sent)) ∙ is_both.0 in
            record { out = ap (dropped C split) x ∙ out; leads = ap (λ y. aim_of (find (sent_on C) 0 y)) x ∙ aim_words i j ∙ (λ t. to (sym a t) (sym c t)) }

        slot : (j : ℕ) → j < saved + 1 → Dec (j < saved) → Slot C f' split (kept + 3 * j)
        slot j m (yes r) = slot_same C f f' split (kept + 3 * j) (kept + 3 * j) (λ y t. u.elsewhere (kept + 3 * j + y) (inl (omega arith))) (g.slots j r)
        slot j m (no r) = subst (λ y. Slot C f' split (kept + 3 * y)) (let z : saved ≡ j = omega arith in z) last_slot

        old : (x : ℕ) → In N x → (x < p) ⊎ (x ≡ p) → Says f' kept (saved + 1) x
        old x k (inl m) =
            let w : Says f kept saved x = g.all x k m in
            (w.0, omega (arith, w.1), u.elsewhere (kept + 3 * w.0) (inl (omega (arith, w.1))) ∙ w.2)
        old x k (inr m) =
            (saved, omega arith, ap (λ y. get_or f' y 0) (let z : kept + 3 * saved ≡ kept + 3 * saved + 0 = omega arith in z) ∙ u.here 0 (omega arith) ∙ sym m)

  -- THE END.
  pub front_end : (f : List ℕ) (p kept saved : ℕ) → Fronting C f₀ f split p kept saved → split ≤ p → kept + 3 * saved ≤ p → Gathering C f split kept saved
  front_end f p kept saved g l room =
      let e : p ≡ split = omega (arith, g.low) in
      record {
        fronted = record {
          same = g.same;
          front = λ o j k m r. g.front o j k (omega arith) r;
          behind = λ x m. g.rest x (omega arith) ∙ s.behind x m;
        };
        value = g.value ∙ ap (kept_to C) e;
        room = omega arith;
        all_saved = record {
          slots = g.slots;
          all = λ x k. g.all x k (omega (arith, dropped_front C split x (needed_dropped C split x split (parse C) 0 k)));
          few = omega (arith, g.few, below_all p N);
        };
      }
