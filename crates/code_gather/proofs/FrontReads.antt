-- Laws of what is read of the front, where it stands and where it is gathered.
use Prim.Native.Nat.{ℕ, ◌+◌, ◌*◌, ◌%◌, ◌≤◌, ◌<◌}
use Rattle.std.specs.Prelude.{◌≡◌, not, ◌&&◌, ltb, Option, Some, None}
use Rattle.std.proofs.Math.Path.{refl, sym, ap}
use Rattle.std.proofs.Common.{◌∙◌, true≢false, ltb-true, ne_eqb}
use Rattle.std.proofs.Math.Bool.{true, false}
use mathlib.Core.List.{List}
use Rattle.std.proofs.Math.ListN.{length, get_or}
use native.Mathlib.Omega.{arith}
use Rattle.route_completion.specs.Sem.{pick, elem}
use Rattle.code_flat.specs.Machine.{Instr, NONE, LIST, LEAVE, ASK, SELECT, OPEN, END, CASE, decode}
use Rattle.code_flat.specs.Machine.{is_none}
use Rattle.code_valid.specs.Instrs.{len, words, parse, find}
use Rattle.code_valid.specs.Valid.{Valid}
use Rattle.code_machine.specs.declared.Target.{Target}
use Rattle.code_shorten.specs.Short.{aim_of}
use Rattle.code_pass.proofs.KeptLaws.{sent_len, sent_none, kept_parse}
use Rattle.code_shorten.specs.Sound.{Begin, len_pos, and_left, and_right, not_true}
use Rattle.code_shorten.specs.Threads.{aim_some}
use Rattle.code_shorten.specs.Closes.{In}
use Rattle.code_pass.specs.Stages.{kept_places, new_place, sent_on, mark, cycle, sent_word, Fronted}
use Rattle.code_mark.specs.Read.{read_at, standing_in}
use Rattle.code_mark.proofs.PlaceLaws.{fits}
use Rattle.code_mark.proofs.ReadLaws.{raised_plain, marked_plain, standing_whole}
use Rattle.code_gather.specs.Gather.{is_jump, dropped}

-- An instruction is what its numbers make.
decode_words : (i : Instr) (x a b c : ℕ) → is_none i ≡ false → x ≡ get_or (words i) 0 0 → (1 < len i → a ≡ get_or (words i) 1 0) → (2 < len i → b ≡ get_or (words i) 2 0)
    → (3 < len i → c ≡ get_or (words i) 3 0) → decode x a b c ≡ i
decode_words NONE x a b c n e f g h = absurd (true≢false n)
decode_words (LIST k) x a b c n e f g h = λ j. decode (e j) (f (omega arith) j) b c
decode_words (LEAVE t d) x a b c n e f g h = λ j. decode (e j) (f (omega arith) j) (g (omega arith) j) c
decode_words (ASK k y z) x a b c n e f g h = λ j. decode (e j) (f (omega arith) j) (g (omega arith) j) (h (omega arith) j)
decode_words (SELECT k y z) x a b c n e f g h = λ j. decode (e j) (f (omega arith) j) (g (omega arith) j) (h (omega arith) j)
decode_words (OPEN k) x a b c n e f g h = λ j. decode (e j) (f (omega arith) j) b c
decode_words (END k) x a b c n e f g h = λ j. decode (e j) (f (omega arith) j) b c
decode_words (CASE k t d) x a b c n e f g h = λ j. decode (e j) (f (omega arith) j) (g (omega arith) j) (h (omega arith) j)

pub head_low : (i : Instr) → get_or (words i) 0 0 < mark
head_low NONE = omega arith
head_low (LIST k) = omega arith
head_low (LEAVE t d) = omega arith
head_low (ASK k y z) = omega arith
head_low (SELECT k y z) = omega arith
head_low (OPEN k) = omega arith
head_low (END k) = omega arith
head_low (CASE k t d) = omega arith

pub read_words : (f : List ℕ) (q : ℕ) (i : Instr) → is_none i ≡ false → get_or f q 0 % mark ≡ get_or (words i) 0 0 → ((j : ℕ) → 0 < j → j < len i → get_or f (q + j) 0 ≡ get_or (words i) j 0) → read_at f q ≡ i
unfolding read_at
read_words f q i n e h = decode_words i (get_or f q 0 % mark) (get_or f (q + 1) 0) (get_or f (q + 2) 0) (get_or f (q + 3) 0) n e (λ l. h 1 (omega arith) l) (λ l. h 2 (omega arith) l) (λ l. h 3 (omega arith) l)

-- What a dropped jump is.
module _ (C : List ℕ) (split x : ℕ) (d : dropped C split x ≡ true) where
  pub dropped_front : x < split
  dropped_front = ltb-true x split (and_left (ltb x split) _ d)

  pub dropped_out : elem x (kept_places C) ≡ false
  dropped_out = not_true (elem x (kept_places C)) (and_left (not (elem x (kept_places C))) _ (and_right (ltb x split) _ d))

  pub dropped_jump : is_jump (aim_of (find (parse C) 0 x)) ≡ true
  dropped_jump = and_right (not (elem x (kept_places C))) _ (and_right (ltb x split) _ d)

  pub dropped_begin : Begin (parse C) x
  dropped_begin = go (aim_of (find (parse C) 0 x)) refl dropped_jump
    where
      go : (a : Option Target) → aim_of (find (parse C) 0 x) ≡ a → is_jump a ≡ true → Begin (parse C) x
      go None q j = absurd (true≢false (sym j))
      go (Some aim) q j = aim_some (find (parse C) 0 x) aim.place aim.depth q

module _ (C : List ℕ) (v : Valid C) where
  -- In the second state, where the front stands.
  module _ (f : List ℕ) (o : ℕ) (b : Begin (parse C) o) (s : (j : ℕ) → j < len (find (sent_on C) 0 o) → get_or f (o + j) 0 ≡ sent_word C o j) where
    abbrev i : Instr
    i = find (sent_on C) 0 o

    some : is_none i ≡ false
    some = sent_none C v o ∙ b

    pub sent_first : get_or f o 0 ≡ get_or (words i) 0 0 + pick (elem o (kept_places C)) mark 0
    sent_first = ap (λ x. get_or f x 0) (let z : o ≡ o + 0 = omega arith in z) ∙ s 0 (len_pos i some)

    pub sent_rest : (j : ℕ) → 0 < j → j < len i → get_or f (o + j) 0 ≡ get_or (words i) j 0
    sent_rest j h m =
        s j m ∙ ap (λ c. get_or (words i) j 0 + pick (c && elem o (kept_places C)) mark 0) (ne_eqb j 0 (λ e. omega arith))
        ∙ (let z : get_or (words i) j 0 + 0 ≡ get_or (words i) j 0 = omega arith in z)

    pub sent_plain : get_or f o 0 % mark ≡ get_or (words i) 0 0
    sent_plain = ap (λ x. x % mark) sent_first ∙ marked_plain (get_or (words i) 0 0) (elem o (kept_places C)) (head_low i)

    pub sent_read : read_at f o ≡ i
    sent_read = read_words f o i some sent_plain sent_rest

    pub sent_standing : length f ≡ length C → standing_in f o ≡ i
    sent_standing n = standing_whole f o i sent_read (omega (arith, sent_len C v o, fits C v o b))

    pub sent_low : elem o (kept_places C) ≡ false → get_or f o 0 < mark
    sent_low e = let z : get_or f o 0 ≡ get_or (words i) 0 0 + 0 = sent_first ∙ ap (λ c. get_or (words i) 0 0 + pick c mark 0) e in omega (arith, head_low i)

    pub sent_high : elem o (kept_places C) ≡ true → mark ≤ get_or f o 0
    sent_high e = let z : get_or f o 0 ≡ get_or (words i) 0 0 + mark = sent_first ∙ ap (λ c. get_or (words i) 0 0 + pick c mark 0) e in omega arith

  -- Where it is gathered.
  module _ (f : List ℕ) (split : ℕ) (s : Fronted C f split) (o : ℕ) (k : In (kept_places C) o) (l : o < split) where
    abbrev there : Instr
    there = find (sent_on C) 0 o

    there_some : is_none there ≡ false
    there_some = sent_none C v o ∙ kept_parse C v o k

    there_first : get_or f (new_place C o) 0 % mark ≡ get_or (words there) 0 0
    there_first =
        ap (λ x. get_or f x 0 % mark) (let z : new_place C o ≡ new_place C o + 0 = omega arith in z)
        ∙ ap (λ x. x % mark) (s.front o 0 k l (len_pos there there_some)) ∙ raised_plain (get_or (words there) 0 0) (o % cycle) (head_low there)

    there_rest : (j : ℕ) → 0 < j → j < len there → get_or f (new_place C o + j) 0 ≡ get_or (words there) j 0
    there_rest j h m =
        s.front o j k l m ∙ ap (λ c. get_or (words there) j 0 + pick c (8 * (o % cycle)) 0) (ne_eqb j 0 (λ e. omega arith))
        ∙ (let z : get_or (words there) j 0 + 0 ≡ get_or (words there) j 0 = omega arith in z)

    pub fronted_read : read_at f (new_place C o) ≡ there
    fronted_read = read_words f (new_place C o) there there_some there_first there_rest
