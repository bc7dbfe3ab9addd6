-- Laws of the jumps of the front, sent on in place, one instruction after another.
use Prim.Native.Nat.{ℕ, zero, suc, ◌+◌, ◌%◌, ◌≤◌, ◌<◌, min}
use Rattle.std.specs.Prelude.{◌≡◌, ◌≢◌, ◌⊎◌, Bool, ◌&&◌, length, set, eqb, ltb, leb, Option, Some, None}
use Rattle.std.proofs.Math.Path.{refl, sym, ap}
use Rattle.std.proofs.Common.{◌∙◌, subst, inl, inr, true≢false, length-set, get_or-set_same, get_or-set_other, ltb-true, ltb-false}
use Rattle.std.proofs.Math.Bool.{true, false}
use mathlib.Core.List.{List, [], ◌∷◌}
use Rattle.std.proofs.Math.ListN.{get_or}
use borrow.Author.Tests.{ne_eqb, leb-true}
use native.Mathlib.Omega.{arith}
use Rattle.std.proofs.Math.Decide.{dec_lt}
use Rattle.route_completion.specs.Sem.{pick, elem}
use Rattle.code_flat.specs.Opcodes as op
use Rattle.code_flat.specs.Machine.{Instr, NONE, LIST, LEAVE, ASK, SELECT, OPEN, END, CASE, decode, is_zero}
use Rattle.code_flat.specs.Machine.{is_none}
use Rattle.code_flat.specs.Has.{Has}
use Rattle.code_flat.proofs.Correct.{has_self}
use Rattle.code_valid.specs.Instrs.{len, words, flat, parse, find}
use Rattle.code_valid.specs.Valid.{Valid}
use Rattle.code_valid.proofs.ReadingLaws.{decode_none}
use Rattle.code_machine.specs.declared.Target.{Target}
use Rattle.code_shorten.specs.Short.{to, aim_of, aimed, further, last, thread}
use Rattle.code_shorten.specs.Longer.{thread_length, words_length}
use Rattle.code_shorten.specs.Reads.{find_has}
use Rattle.code_shorten.specs.Sound.{Begin, dec_eq, len_pos, flat_parse}
use Rattle.code_shorten.specs.Threading.{written}
use Rattle.code_pass.specs.Stages.{sent_on, kept_places, mark, Marked, Split, sent_word, Sent}
use Rattle.code_mark.specs.Read.{read_at, standing_in, hop_in, last_in, rule_in, sent_by, sent_in, threaded_in}
use Rattle.code_mark.specs.Now.{now}
use Rattle.code_pass.proofs.KeptLaws.{sent_none}
use Rattle.code_mark.proofs.PlaceLaws.{sound, place_in, next_begin, fits, no_overlap, sent_find}
use Rattle.code_mark.proofs.ReadLaws.{marked_plain, standing_whole, behind_read}
use Rattle.code_mark.proofs.NowLaws.{now_find, sent_is}
use Rattle.code_shorten.proofs.PlaceLaws.{len_most}

-- What the functions read.
pub aim_not : (x a b c : ℕ) → x ≢ op.Leave → x ≢ op.Case → aim_of (decode x a b c) ≡ None
aim_not x a b c h k = rw (ne_eqb x op.Leave h, ne_eqb x op.Case k) (go (eqb x op.List) (eqb x op.Ask) (eqb x op.Select) (eqb x op.Open) (eqb x op.End))
  where
    go : (p q r s t : Bool) → aim_of (pick p (LIST a) (pick q (ASK a b c) (pick r (SELECT a b c) (pick s (OPEN a) (pick t (END a) NONE))))) ≡ None
    go true q r s t = refl
    go false true r s t = refl
    go false false true s t = refl
    go false false false true t = refl
    go false false false false true = refl
    go false false false false false = refl

pub not_zero : (u : ℕ) → u ≢ 0 → is_zero u ≡ false
not_zero zero z = absurd (z refl)
not_zero (suc u) z = refl

module _ (f : List ℕ) (p : ℕ) where
  pub aim_leave : get_or f p 0 % mark ≡ op.Leave → aim_of (read_at f p) ≡ to (get_or f (p + 1) 0) (get_or f (p + 2) 0)
  unfolding read_at
  aim_leave e = ap (λ x. aim_of (decode x (get_or f (p + 1) 0) (get_or f (p + 2) 0) (get_or f (p + 3) 0))) e

  pub aim_case : get_or f p 0 % mark ≡ op.Case → aim_of (read_at f p) ≡ to (get_or f (p + 2) 0) (get_or f (p + 3) 0)
  unfolding read_at
  aim_case e = ap (λ x. aim_of (decode x (get_or f (p + 1) 0) (get_or f (p + 2) 0) (get_or f (p + 3) 0))) e

  pub aim_none : get_or f p 0 % mark ≢ op.Leave → get_or f p 0 % mark ≢ op.Case → aim_of (read_at f p) ≡ None
  unfolding read_at
  aim_none l k = aim_not (get_or f p 0 % mark) (get_or f (p + 1) 0) (get_or f (p + 2) 0) (get_or f (p + 3) 0) l k

module _ (f : List ℕ) (t : ℕ) where
  pub hop_zero : t ≡ 0 → hop_in f t ≡ None
  unfolding hop_in
  hop_zero z = ap (λ x. pick (is_zero x) None (aim_of (read_at f t))) z

  pub hop_on : t ≢ 0 → hop_in f t ≡ aim_of (read_at f t)
  unfolding hop_in
  hop_on n = ap (λ z. pick z None (aim_of (read_at f t))) (not_zero t n)

module _ (f : List ℕ) (n t d : ℕ) where
  last_step : last_in f (n + 1) t d ≡ further (last_in f n) (hop_in f t) t d
  unfolding last_in
  last_step = let e : n + 1 ≡ suc n = omega arith in ap (λ k. last_in f k t d) e

  pub last_end : hop_in f t ≡ None → last_in f (n + 1) t d ≡ to t d
  last_end e = last_step ∙ ap (λ a. further (last_in f n) a t d) e

  pub last_on : (u w : ℕ) → hop_in f t ≡ to u w → last_in f (n + 1) t d ≡ last_in f n u (min d w)
  last_on u w e = last_step ∙ ap (λ a. further (last_in f n) a t d) e

  pub last_out : n ≡ 0 → last_in f n t d ≡ None
  unfolding last_in
  last_out e = ap (λ k. last_in f k t d) e

module _ (f : List ℕ) (p : ℕ) where
  pub thread_leave : get_or f p 0 % mark ≡ op.Leave → threaded_in f p ≡ sent_in f (p + 1)
  unfolding threaded_in
  thread_leave e = ap (λ x. pick (eqb x op.Leave) (sent_in f (p + 1)) (pick (eqb x op.Case) (sent_in f (p + 2)) f)) e

  pub thread_case : get_or f p 0 % mark ≡ op.Case → threaded_in f p ≡ sent_in f (p + 2)
  unfolding threaded_in
  thread_case e = ap (λ x. pick (eqb x op.Leave) (sent_in f (p + 1)) (pick (eqb x op.Case) (sent_in f (p + 2)) f)) e

  pub thread_other : get_or f p 0 % mark ≢ op.Leave → get_or f p 0 % mark ≢ op.Case → threaded_in f p ≡ f
  unfolding threaded_in
  thread_other h k = rw (ne_eqb (get_or f p 0 % mark) op.Leave h, ne_eqb (get_or f p 0 % mark) op.Case k)

  -- How many numbers it takes is said by the first.
  pub reads_first : (x a b c : ℕ) → get_or f p 0 % mark ≡ x → len (decode x a b c) ≡ len (read_at f p)
  unfolding read_at
  reads_first x a b c e = go x a b c (get_or f (p + 1) 0) (get_or f (p + 2) 0) (get_or f (p + 3) 0) ∙ ap (λ y. len (decode y (get_or f (p + 1) 0) (get_or f (p + 2) 0) (get_or f (p + 3) 0))) (sym e)
    where
      go : (x a b c a' b' c' : ℕ) → len (decode x a b c) ≡ len (decode x a' b' c')
      go x a b c a' b' c' = at (eqb x op.List) (eqb x op.Leave) (eqb x op.Ask) (eqb x op.Select) (eqb x op.Open) (eqb x op.End) (eqb x op.Case)
        where
          at : (h i j k l m n : Bool)
              → len (pick h (LIST a) (pick i (LEAVE a b) (pick j (ASK a b c) (pick k (SELECT a b c) (pick l (OPEN a) (pick m (END a) (pick n (CASE a b c) NONE)))))))
              ≡ len (pick h (LIST a') (pick i (LEAVE a' b') (pick j (ASK a' b' c') (pick k (SELECT a' b' c') (pick l (OPEN a') (pick m (END a') (pick n (CASE a' b' c') NONE)))))))
          at true i j k l m n = refl
          at false true j k l m n = refl
          at false false true k l m n = refl
          at false false false true l m n = refl
          at false false false false true m n = refl
          at false false false false false true n = refl
          at false false false false false false true = refl
          at false false false false false false false = refl

-- An instruction that stands whole.
pub stands_in : (f : List ℕ) (p : ℕ) → len (standing_in f p) ≢ 0 → (x : ℕ) → get_or f p 0 % mark ≡ x → p + len (decode x 0 0 0) ≤ length f
unfolding standing_in
stands_in f p s x e = go (leb (p + len (read_at f p)) (length f)) refl s
  where
    go : (b : Bool) → leb (p + len (read_at f p)) (length f) ≡ b → len (pick b (read_at f p) NONE) ≢ 0 → p + len (decode x 0 0 0) ≤ length f
    go true q h = let l : p + len (read_at f p) ≤ length f = leb-true (p + len (read_at f p)) (length f) q in omega (arith, reads_first f p x 0 0 0 e)
    go false q h = absurd (h refl)

-- The numbers of an instruction.
words_of : (x a b c j : ℕ) → j < len (decode x a b c) → get_or (x ∷ a ∷ b ∷ c ∷ []) j 0 ≡ get_or (words (decode x a b c)) j 0
words_of zero a b c j h = absurd (omega arith)
words_of (suc zero) a b c zero h = refl
words_of (suc zero) a b c (suc zero) h = refl
words_of (suc zero) a b c (suc (suc j)) h = absurd (omega arith)
words_of (suc (suc zero)) a b c zero h = refl
words_of (suc (suc zero)) a b c (suc zero) h = refl
words_of (suc (suc zero)) a b c (suc (suc zero)) h = refl
words_of (suc (suc zero)) a b c (suc (suc (suc j))) h = absurd (omega arith)
words_of (suc (suc (suc zero))) a b c zero h = refl
words_of (suc (suc (suc zero))) a b c (suc zero) h = refl
words_of (suc (suc (suc zero))) a b c (suc (suc zero)) h = refl
words_of (suc (suc (suc zero))) a b c (suc (suc (suc zero))) h = refl
words_of (suc (suc (suc zero))) a b c (suc (suc (suc (suc j)))) h = absurd (omega arith)
words_of (suc (suc (suc (suc zero)))) a b c zero h = refl
words_of (suc (suc (suc (suc zero)))) a b c (suc zero) h = refl
words_of (suc (suc (suc (suc zero)))) a b c (suc (suc zero)) h = refl
words_of (suc (suc (suc (suc zero)))) a b c (suc (suc (suc zero))) h = refl
words_of (suc (suc (suc (suc zero)))) a b c (suc (suc (suc (suc j)))) h = absurd (omega arith)
words_of (suc (suc (suc (suc (suc zero))))) a b c zero h = refl
words_of (suc (suc (suc (suc (suc zero))))) a b c (suc zero) h = refl
words_of (suc (suc (suc (suc (suc zero))))) a b c (suc (suc j)) h = absurd (omega arith)
words_of (suc (suc (suc (suc (suc (suc zero)))))) a b c zero h = refl
words_of (suc (suc (suc (suc (suc (suc zero)))))) a b c (suc zero) h = refl
words_of (suc (suc (suc (suc (suc (suc zero)))))) a b c (suc (suc j)) h = absurd (omega arith)
words_of (suc (suc (suc (suc (suc (suc (suc zero))))))) a b c zero h = refl
words_of (suc (suc (suc (suc (suc (suc (suc zero))))))) a b c (suc zero) h = refl
words_of (suc (suc (suc (suc (suc (suc (suc zero))))))) a b c (suc (suc zero)) h = refl
words_of (suc (suc (suc (suc (suc (suc (suc zero))))))) a b c (suc (suc (suc zero))) h = refl
words_of (suc (suc (suc (suc (suc (suc (suc zero))))))) a b c (suc (suc (suc (suc j)))) h = absurd (omega arith)
words_of (suc (suc (suc (suc (suc (suc (suc (suc k)))))))) a b c j h =
    absurd (omega (arith, ap len (decode_none (suc (suc (suc (suc (suc (suc (suc (suc k)))))))) a b c (omega arith))))

-- What stands somewhere, read number by number.
has_at : (D : List ℕ) (o : ℕ) (l : List ℕ) (i : ℕ) → Has D o l → i < length l → get_or D (o + i) 0 ≡ get_or l i 0
has_at D o [] i p q = absurd (omega arith)
has_at D o (x ∷ l) zero p q = ap (λ j. get_or D j 0) (let z : o + 0 ≡ o = omega arith in z) ∙ p.0
has_at D o (x ∷ l) (suc i) p q = ap (λ j. get_or D j 0) (let e : o + suc i ≡ suc o + i = omega arith in e) ∙ has_at D (suc o) l i p.1 (omega arith)

-- An instruction is read where its numbers stand, the first of them raised or not.
pub words_read : (f : List ℕ) (o : ℕ) (i : Instr) → is_none i ≡ false → get_or f o 0 % mark ≡ get_or (words i) 0 0
    → ((j : ℕ) → 0 < j → j < len i → get_or f (o + j) 0 ≡ get_or (words i) j 0) → read_at f o ≡ i
unfolding read_at
words_read f o NONE s x k = absurd (true≢false s)
words_read f o (LIST a) s x k = λ t. decode (x t) (k 1 (omega arith) (omega arith) t) (get_or f (o + 2) 0) (get_or f (o + 3) 0)
words_read f o (LEAVE a d) s x k = λ t. decode (x t) (k 1 (omega arith) (omega arith) t) (k 2 (omega arith) (omega arith) t) (get_or f (o + 3) 0)
words_read f o (ASK n y z) s x k = λ t. decode (x t) (k 1 (omega arith) (omega arith) t) (k 2 (omega arith) (omega arith) t) (k 3 (omega arith) (omega arith) t)
words_read f o (SELECT n c e) s x k = λ t. decode (x t) (k 1 (omega arith) (omega arith) t) (k 2 (omega arith) (omega arith) t) (k 3 (omega arith) (omega arith) t)
words_read f o (OPEN a) s x k = λ t. decode (x t) (k 1 (omega arith) (omega arith) t) (get_or f (o + 2) 0) (get_or f (o + 3) 0)
words_read f o (END a) s x k = λ t. decode (x t) (k 1 (omega arith) (omega arith) t) (get_or f (o + 2) 0) (get_or f (o + 3) 0)
words_read f o (CASE c a d) s x k = λ t. decode (x t) (k 1 (omega arith) (omega arith) t) (k 2 (omega arith) (omega arith) t) (k 3 (omega arith) (omega arith) t)

-- The first number is one of the seven.
pub words_low : (i : Instr) → get_or (words i) 0 0 < mark
words_low NONE = omega arith
words_low (LIST a) = omega arith
words_low (LEAVE a d) = omega arith
words_low (ASK n y z) = omega arith
words_low (SELECT n c e) = omega arith
words_low (OPEN a) = omega arith
words_low (END a) = omega arith
words_low (CASE c a d) = omega arith

pub thread_first : (is : List Instr) (i : Instr) → get_or (words (thread is i)) 0 0 ≡ get_or (words i) 0 0
thread_first is NONE = refl
thread_first is (LIST a) = refl
thread_first is (LEAVE t d) = go (last is (suc (length is)) t d)
  where
    go : (x : Option Target) → get_or (words (aimed x LEAVE (LEAVE t d))) 0 0 ≡ op.Leave
    go None = refl
    go (Some aim) = refl
thread_first is (ASK n y z) = refl
thread_first is (SELECT n c e) = refl
thread_first is (OPEN a) = refl
thread_first is (END a) = refl
thread_first is (CASE c t d) = go (last is (suc (length is)) t d)
  where
    go : (x : Option Target) → get_or (words (aimed x (CASE c) (CASE c t d))) 0 0 ≡ op.Case
    go None = refl
    go (Some aim) = refl

-- A place and a depth, written at q.
module _ (f : List ℕ) (q : ℕ) where
  written_same : (k : Option Target) → length (written f q k) ≡ length f
  written_same None = refl
  written_same (Some aim) = let u : ℕ = aim.place in let w : ℕ = aim.depth in length-set (set f q u) (q + 1) w ∙ length-set f q u

  written_other : (k : Option Target) (y : ℕ) → y ≢ q → y ≢ q + 1 → get_or (written f q k) y 0 ≡ get_or f y 0
  written_other None y h l = refl
  written_other (Some aim) y h l = let u : ℕ = aim.place in let w : ℕ = aim.depth in get_or-set_other (set f q u) (q + 1) y w 0 l ∙ get_or-set_other f q y u 0 h

  abbrev place_now : Option Target → ℕ
  place_now None = get_or f q 0
  place_now (Some aim) = aim.place

  abbrev depth_now : Option Target → ℕ
  depth_now None = get_or f (q + 1) 0
  depth_now (Some aim) = aim.depth

  written_first : (k : Option Target) → q < length f → get_or (written f q k) q 0 ≡ place_now k
  written_first None h = refl
  written_first (Some aim) h = let u : ℕ = aim.place in let w : ℕ = aim.depth in get_or-set_other (set f q u) (q + 1) q w 0 (λ e. omega arith) ∙ get_or-set_same f q u 0 h

  written_second : (k : Option Target) → q + 1 < length f → get_or (written f q k) (q + 1) 0 ≡ depth_now k
  written_second None h = refl
  written_second (Some aim) h = let u : ℕ = aim.place in let w : ℕ = aim.depth in get_or-set_same (set f q u) (q + 1) w 0 (omega (arith, length-set f q u))

-- The instruction at p, sent on where it stands: its first number, and what is not of it, stay.
record Threaded (f : List ℕ) (p : ℕ) (i : Instr) : Type 0 where
  same : length (threaded_in f p) ≡ length f
  other : (y : ℕ) → (y < p + 1) ⊎ (p + len i ≤ y) → get_or (threaded_in f p) y 0 ≡ get_or f y 0
  here : (j : ℕ) → 0 < j → j < len i → get_or (threaded_in f p) (p + j) 0 ≡ get_or (words (sent_by (rule_in f) i)) j 0

module _ (f : List ℕ) (p : ℕ) where
  abbrev a : ℕ
  a = get_or f (p + 1) 0

  abbrev b : ℕ
  b = get_or f (p + 2) 0

  abbrev c : ℕ
  c = get_or f (p + 3) 0

  -- No jump.
  module _ (x : ℕ) (e : get_or f p 0 % mark ≡ x) (h : x ≢ op.Leave) (k : x ≢ op.Case) where
    stays : threaded_in f p ≡ f
    stays = thread_other f p (λ w. h (sym e ∙ w)) (λ w. k (sym e ∙ w))

    sent_stays : sent_by (rule_in f) (decode x a b c) ≡ decode x a b c
    sent_stays = rw (ne_eqb x op.Leave h, ne_eqb x op.Case k) (go (eqb x op.List) (eqb x op.Ask) (eqb x op.Select) (eqb x op.Open) (eqb x op.End))
      where
        go : (l m n o q : Bool) → sent_by (rule_in f) (pick l (LIST a) (pick m (ASK a b c) (pick n (SELECT a b c) (pick o (OPEN a) (pick q (END a) NONE)))))
            ≡ pick l (LIST a) (pick m (ASK a b c) (pick n (SELECT a b c) (pick o (OPEN a) (pick q (END a) NONE))))
        go true m n o q = refl
        go false true n o q = refl
        go false false true o q = refl
        go false false false true q = refl
        go false false false false true = refl
        go false false false false false = refl

    operand : (j : ℕ) → 0 < j → j < 4 → get_or f (p + j) 0 ≡ get_or (x ∷ a ∷ b ∷ c ∷ []) j 0
    operand zero l m = absurd (omega arith)
    operand (suc zero) l m = refl
    operand (suc (suc zero)) l m = refl
    operand (suc (suc (suc zero))) l m = refl
    operand (suc (suc (suc (suc j)))) l m = absurd (omega arith)

    other_threaded : Threaded f p (decode x a b c)
    other_threaded =
        record {
          same = ap length stays;
          other = λ y w. ap (λ g. get_or g y 0) stays;
          here = λ j l m.
              ap (λ g. get_or g (p + j) 0) stays ∙ operand j l (omega (arith, len_most (decode x a b c))) ∙ words_of x a b c j m
              ∙ ap (λ i. get_or (words i) j 0) (sym sent_stays);
        }

  leave_threaded : get_or f p 0 % mark ≡ op.Leave → p + 3 ≤ length f → Threaded f p (LEAVE a b)
  unfolding sent_in
  leave_threaded e l =
      record {
        same = ap length g ∙ written_same f (p + 1) k;
        other = λ y w. ap (λ h. get_or h y 0) g ∙ written_other f (p + 1) k y (off y w) (off' y w);
        here = λ j m n. ap (λ h. get_or h (p + j) 0) g ∙ at j m n;
      }
    where
      two : p + 1 + 1 ≡ p + 2
      two = omega arith

      k : Option Target
      k = rule_in f a b

      g : threaded_in f p ≡ written f (p + 1) k
      g = thread_leave f p e ∙ ap (λ y. written f (p + 1) (rule_in f a (get_or f y 0))) two

      off : (y : ℕ) → (y < p + 1) ⊎ (p + 3 ≤ y) → y ≢ p + 1
      off y (inl w) z = omega arith
      off y (inr w) z = omega arith

      off' : (y : ℕ) → (y < p + 1) ⊎ (p + 3 ≤ y) → y ≢ p + 1 + 1
      off' y (inl w) z = omega arith
      off' y (inr w) z = omega arith

      first : (x : Option Target) → place_now f (p + 1) x ≡ get_or (words (aimed x LEAVE (LEAVE a b))) 1 0
      first None = refl
      first (Some aim) = refl

      second : (x : Option Target) → depth_now f (p + 1) x ≡ get_or (words (aimed x LEAVE (LEAVE a b))) 2 0
      second None = ap (λ y. get_or f y 0) two
      second (Some aim) = refl

      at : (j : ℕ) → 0 < j → j < 3 → get_or (written f (p + 1) k) (p + j) 0 ≡ get_or (words (aimed k LEAVE (LEAVE a b))) j 0
      at zero m n = absurd (omega arith)
      at (suc zero) m n = written_first f (p + 1) k (omega arith) ∙ first k
      at (suc (suc zero)) m n = ap (λ y. get_or (written f (p + 1) k) y 0) (sym two) ∙ written_second f (p + 1) k (omega arith) ∙ second k
      at (suc (suc (suc j))) m n = absurd (omega arith)

  case_threaded : get_or f p 0 % mark ≡ op.Case → p + 4 ≤ length f → Threaded f p (CASE a b c)
  unfolding sent_in
  case_threaded e l =
      record {
        same = ap length g ∙ written_same f (p + 2) k;
        other = λ y w. ap (λ h. get_or h y 0) g ∙ written_other f (p + 2) k y (off y w) (off' y w);
        here = λ j m n. ap (λ h. get_or h (p + j) 0) g ∙ at j m n;
      }
    where
      three : p + 2 + 1 ≡ p + 3
      three = omega arith

      k : Option Target
      k = rule_in f b c

      g : threaded_in f p ≡ written f (p + 2) k
      g = thread_case f p e ∙ ap (λ y. written f (p + 2) (rule_in f b (get_or f y 0))) three

      off : (y : ℕ) → (y < p + 1) ⊎ (p + 4 ≤ y) → y ≢ p + 2
      off y (inl w) z = omega arith
      off y (inr w) z = omega arith

      off' : (y : ℕ) → (y < p + 1) ⊎ (p + 4 ≤ y) → y ≢ p + 2 + 1
      off' y (inl w) z = omega arith
      off' y (inr w) z = omega arith

      link : (x : Option Target) → a ≡ get_or (words (aimed x (CASE a) (CASE a b c))) 1 0
      link None = refl
      link (Some aim) = refl

      first : (x : Option Target) → place_now f (p + 2) x ≡ get_or (words (aimed x (CASE a) (CASE a b c))) 2 0
      first None = refl
      first (Some aim) = refl

      second : (x : Option Target) → depth_now f (p + 2) x ≡ get_or (words (aimed x (CASE a) (CASE a b c))) 3 0
      second None = ap (λ y. get_or f y 0) three
      second (Some aim) = refl

      at : (j : ℕ) → 0 < j → j < 4 → get_or (written f (p + 2) k) (p + j) 0 ≡ get_or (words (aimed k (CASE a) (CASE a b c))) j 0
      at zero m n = absurd (omega arith)
      at (suc zero) m n = written_other f (p + 2) k (p + 1) (λ z. omega arith) (λ z. omega arith) ∙ link k
      at (suc (suc zero)) m n = written_first f (p + 2) k (omega arith) ∙ first k
      at (suc (suc (suc zero))) m n = ap (λ y. get_or (written f (p + 2) k) y 0) (sym three) ∙ written_second f (p + 2) k (omega arith) ∙ second k
      at (suc (suc (suc (suc j)))) m n = absurd (omega arith)

  threaded : p + len (read_at f p) ≤ length f → Threaded f p (read_at f p)
  unfolding read_at
  threaded l = go (dec_eq (get_or f p 0 % mark) op.Leave) (dec_eq (get_or f p 0 % mark) op.Case)
    where
      go : Dec (get_or f p 0 % mark ≡ op.Leave) → Dec (get_or f p 0 % mark ≡ op.Case) → Threaded f p (decode (get_or f p 0 % mark) a b c)
      go (yes e) k =
          let i : decode (get_or f p 0 % mark) a b c ≡ LEAVE a b = ap (λ x. decode x a b c) e in
          subst (Threaded f p) (sym i) (leave_threaded e (omega (arith, ap len i)))
      go (no h) (yes e) =
          let i : decode (get_or f p 0 % mark) a b c ≡ CASE a b c = ap (λ x. decode x a b c) e in
          subst (Threaded f p) (sym i) (case_threaded e (omega (arith, ap len i)))
      go (no h) (no k) = other_threaded (get_or f p 0 % mark) refl h k

-- Numbers of the code.
module _ (C : List ℕ) (v : Valid C) where
  pub code_word : (o j : ℕ) → Begin (parse C) o → j < len (find (parse C) 0 o) → get_or C (o + j) 0 ≡ get_or (words (find (parse C) 0 o)) j 0
  code_word o j b l =
      let e : flat (parse C) ≡ C = flat_parse C (sound C v).some in
      let h : Has (flat (parse C)) o (words (find (parse C) 0 o)) = find_has (flat (parse C)) (parse C) 0 o (has_self (flat (parse C))) b in
      ap (λ c. get_or c (o + j) 0) (sym e) ∙ has_at (flat (parse C)) o (words (find (parse C) 0 o)) j h (omega (arith, words_length (find (parse C) 0 o)))

  -- SECOND STATE: what is read.
  module _ (f : List ℕ) (split : ℕ) (s : Sent C f split) where
    pub sent_read : (o : ℕ) → Begin (parse C) o → read_at f o ≡ find (now C split) 0 o
    sent_read o b = go (ltb o split) refl ∙ sym (now_find C v split o)
      where
        i : Instr
        i = find (sent_on C) 0 o

        first : o < split → get_or f o 0 % mark ≡ get_or (words i) 0 0
        first l =
            ap (λ x. x % mark)
            (ap (λ x. get_or f x 0) (let z : o ≡ o + 0 = omega arith in z) ∙ s.front o 0 b l (len_pos i (sent_none C v o ∙ b)))
            ∙ marked_plain (get_or (words i) 0 0) (elem o (kept_places C)) (words_low i)

        rest : o < split → (j : ℕ) → 0 < j → j < len i → get_or f (o + j) 0 ≡ get_or (words i) j 0
        rest l j h m =
            s.front o j b l m
            ∙ ap (λ c. get_or (words i) j 0 + pick (c && elem o (kept_places C)) mark 0) (ne_eqb j 0 (λ e. omega arith))
            ∙ (let z : get_or (words i) j 0 + 0 ≡ get_or (words i) j 0 = omega arith in z)

        go : (c : Bool) → ltb o split ≡ c → read_at f o ≡ pick c i (find (parse C) 0 o)
        go true e = let l : o < split = ltb-true o split e in words_read f o i (sent_none C v o ∙ b) (first l) (rest l)
        go false e = behind_read C v f split s.behind o b (ltb-false o split e)

-- The walk over the front, which has come to p.
pub record Sending (C f : List ℕ) (split p : ℕ) : Type 0 where
  pub at : Begin (parse C) p ⊎ (p ≡ length C)
  pub low : p ≤ split
  pub sent : Sent C f p

module _ (C : List ℕ) (v : Valid C) (split : ℕ) (c : Split C split) where
  pub sending_first : (f : List ℕ) → Marked C f → Sending C f split 0
  sending_first f m =
      record {
        at = inl (sound C v).start;
        low = omega arith;
        sent = record { same = m.same; front = λ o j b l h. absurd (omega arith); behind = λ x h. m.each x };
      }

  module _ (f : List ℕ) (p : ℕ) (g : Sending C f split p) where
    begins : p < split → Begin (parse C) p
    begins l = go g.at
      where
        in' : Begin (parse C) split ⊎ (split ≡ length C) → p < length C
        in' (inl b) = omega (arith, place_in C v split b)
        in' (inr e) = omega arith

        go : Begin (parse C) p ⊎ (p ≡ length C) → Begin (parse C) p
        go (inl b) = b
        go (inr e) = absurd (omega (arith, in' c.begins))

    module _ (l : p < split) where
      began : Begin (parse C) p
      began = begins l

      abbrev i : Instr
      i = find (parse C) 0 p

      reads : read_at f p ≡ i
      reads = behind_read C v f p g.sent.behind p began (omega arith)

      stands : standing_in f p ≡ i
      stands = standing_whole f p i reads (omega (arith, fits C v p began, g.sent.same))

      pub sending_some : len (standing_in f p) ≢ 0
      sending_some z = omega (arith, len_pos i began, ap len stands, z)

      done : Threaded f p i
      done = subst (Threaded f p) reads (threaded f p (omega (arith, ap len reads, fits C v p began, g.sent.same)))

      sends : sent_by (rule_in f) i ≡ find (sent_on C) 0 p
      sends = sent_is C v p f (sent_read C v f p g.sent) g.sent.same i ((sound C v).named p began) ∙ sym (sent_find C v p)

      -- The instruction at p, as it is sent on.
      word : (j : ℕ) → j < len (find (sent_on C) 0 p) → get_or (threaded_in f p) (p + j) 0 ≡ sent_word C p j
      word zero h =
          ap (λ x. get_or (threaded_in f p) x 0) (let z : p + 0 ≡ p = omega arith in z) ∙ done.other p (inl (omega arith)) ∙ g.sent.behind p (omega arith)
          ∙ ap (λ x. x + pick (elem p (kept_places C)) mark 0)
          (ap (λ x. get_or C x 0) (let z : p ≡ p + 0 = omega arith in z) ∙ code_word C v p 0 began (len_pos i began) ∙ sym (thread_first (parse C) i) ∙ ap (λ k. get_or (words k) 0 0) (sym (sent_find C v p)))
      word (suc j) h =
          done.here (suc j) (omega arith) (omega (arith, ap len (sent_find C v p), thread_length (parse C) i))
          ∙ ap (λ k. get_or (words k) (suc j) 0) sends
          ∙ (let z : get_or (words (find (sent_on C) 0 p)) (suc j) 0 ≡ get_or (words (find (sent_on C) 0 p)) (suc j) 0 + 0 = omega arith in z)
          ∙ ap (λ c. get_or (words (find (sent_on C) 0 p)) (suc j) 0 + pick (c && elem p (kept_places C)) mark 0) (sym (ne_eqb (suc j) 0 (λ e. omega arith)))

      pub sending_next : Sending C (threaded_in f p) split (p + len (standing_in f p))
      sending_next =
          subst (λ k. Sending C (threaded_in f p) split (p + len k)) (sym stands)
          (record {
            at = next_begin C v p began;
            low = near c.begins;
            sent = record {
              same = done.same ∙ g.sent.same;
              front = λ o j d h m. front o j d m (dec_lt o p) (dec_eq o p) h;
              behind = λ x h. done.other x (inr h) ∙ g.sent.behind x (omega arith);
            };
          })
        where
          near : Begin (parse C) split ⊎ (split ≡ length C) → p + len i ≤ split
          near (inl d) = no_overlap C v p began split d l
          near (inr e) = omega (arith, fits C v p began)

          front : (o j : ℕ) → Begin (parse C) o → j < len (find (sent_on C) 0 o) → Dec (o < p) → Dec (o ≡ p) → o < p + len i → get_or (threaded_in f p) (o + j) 0 ≡ sent_word C o j
          front o j d m (yes h) q k =
              let s : len (find (sent_on C) 0 o) ≡ len (find (parse C) 0 o) = ap len (sent_find C v o) ∙ thread_length (parse C) (find (parse C) 0 o) in
              done.other (o + j) (inl (omega (arith, no_overlap C v o d p began h))) ∙ g.sent.front o j d h m
          front o j d m (no h) (yes q) k =
              subst (λ x. get_or (threaded_in f p) (x + j) 0 ≡ sent_word C x j) (sym q) (word j (subst (λ x. j < len (find (sent_on C) 0 x)) q m))
          front o j d m (no h) (no q) k = absurd (omega (arith, no_overlap C v p began o d (omega arith)))

    pub sending_end : split ≤ p → Sent C f split
    sending_end l = subst (Sent C f) (let z : p ≡ split = omega (arith, g.low) in z) g.sent
