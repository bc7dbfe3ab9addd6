-- The pass by a copy, its jumps: threading where they stand, one instruction after another, makes the threaded code. `last_more` and `count_total`,
-- `aim_not` and `not_zero` stand in code_mark (NowLaws.antt, SendLaws.antt).
use Prim.Native.Nat.{ℕ, zero, suc, ◌+◌, ◌≤◌, ◌<◌, min}
use Rattle.std.proofs.Math.Path.{◌≡◌, refl, ap}
use Rattle.std.proofs.Common.{sym, ◌∙◌, subst, inl, inr, true≢false, length-append}
use Rattle.std.specs.Prelude.{◌≢◌, ◌⊎◌, Bool, length, get_or, set, eqb, Option, Some, None}
use Rattle.std.proofs.Math.Bool.{true, false}
use mathlib.Core.List.{List, [], ◌∷◌, ◌++◌, map, append_assoc, append-nil, map-append}
use Rattle.std.proofs.Math.Seq.{append_snoc}
use Rattle.std.proofs.lemmas.List.{set_at, get_or_at}
use borrow.Author.Tests.{eq-eqb, ne_eqb}
use native.Mathlib.Omega.{arith}
use Rattle.route_completion.specs.Sem.{pick}
use Rattle.code_flat.specs.Opcodes as op
use Rattle.code_flat.specs.Machine.{Instr, NONE, LIST, LEAVE, ASK, SELECT, OPEN, END, CASE, decode, fetch, is_zero}
use Rattle.code_flat.specs.Machine.{is_none}
use Rattle.code_valid.specs.Instrs.{len, words, flat, parse, find, names}
use Rattle.code_valid.specs.Valid.{Valid}
use Rattle.code_valid.specs.Reading.{standing}
use Rattle.code_valid.proofs.ReadingLaws.{whole}
use Rattle.code_machine.specs.declared.Target.{Target}
use Rattle.code_shorten.specs.Short.{to, aim_of, hop, further, last, aimed, thread, threaded}
use Rattle.code_shorten.specs.Longer.{thread_length, total, flat_length, map_length}
use Rattle.code_shorten.specs.Reads.{fetched}
use Rattle.code_shorten.specs.Sound.{AreInstrs, Begin, All, Sound, len_pos, flat_parse, valid_sound}
use Rattle.code_shorten.specs.Threads.{thread_none, threaded_find, threaded_sound, aim_all}
use Rattle.code_shorten.specs.Makes.{flat_join}
use Rattle.code_shorten.specs.Place.{Mixed, last_now}
use Rattle.code_shorten.specs.Threading.{written}
use Rattle.code_mark.proofs.NowLaws.{last_more, count_total}
use Rattle.code_mark.proofs.SendLaws.{aim_not, not_zero}
use Rattle.code_copying.specs.Threading.{hop_at, last_at, sent, threaded_at, Threading}

-- What is read of a list of instructions whose jumps lead to instructions.
module _ (is : List Instr) (shut : (o v w : ℕ) → Begin is o → aim_of (find is 0 o) ≡ to v w → Begin is v) where
  hop_read : (t : ℕ) → Begin is t → hop_at (flat is) t ≡ hop is t
  unfolding hop_at hop
  hop_read t b = ap (λ i. pick (is_zero t) None (aim_of i)) (fetched is t b)

  hop_begin : (t v w : ℕ) → Begin is t → hop is t ≡ to v w → Begin is v
  unfolding hop
  hop_begin t v w b e = from (is_zero t) e
    where
      from : (z : Bool) → pick z None (aim_of (find is 0 t)) ≡ to v w → Begin is v
      from true q = let x : ◌≡◌ {A = ℕ} 0 1 = cc in absurd (omega arith)
      from false q = shut t v w b q

  last_read : (f t d : ℕ) → Begin is t → last_at (flat is) f t d ≡ last is f t d
  unfolding last_at last
  last_read zero t d b = refl
  last_read (suc f) t d b = ap (λ a. further (last_at (flat is) f) a t d) (hop_read t b) ∙ go (hop is t) refl (λ v w c. last_read f v w c)
    where
      go : (a : Option Target) → hop is t ≡ a → ((v w : ℕ) → Begin is v → last_at (flat is) f v w ≡ last is f v w) → further (last_at (flat is) f) a t d ≡ further (last is f) a t d
      go None e h = refl
      go (Some aim) e h = let v : ℕ = aim.place in let w : ℕ = aim.depth in h v (min d w) (hop_begin t v w b e)

some_left : (a b : List Instr) → AreInstrs (a ++ b) → AreInstrs a
some_left [] b s = tt
some_left (i ∷ a) b s = (s.0, some_left a b s.1)

some_right : (a b : List Instr) → AreInstrs (a ++ b) → AreInstrs b
some_right [] b s = s
some_right (i ∷ a) b s = some_right a b s.1

some_thread : (all a b : List Instr) → AreInstrs a → AreInstrs b → AreInstrs (map (thread all) a ++ b)
some_thread all [] b s u = u
some_thread all (i ∷ a) b s u = (thread_none all i ∙ s.0, some_thread all a b s.1 u)

-- What stands behind a list.
find_after : (a : List Instr) (i : Instr) (b : List Instr) (p : ℕ) → AreInstrs a → find (a ++ i ∷ b) p (p + total a) ≡ i
unfolding find total
find_after [] i b p s =
    let z : p ≡ p + 0 = omega arith in
    ap (λ t. pick t i (find b (p + len i) (p + 0))) (eq-eqb p (p + 0) z)
find_after (x ∷ a) i b p s =
    let w : 0 < len x = len_pos x s.0 in
    let z : p + (len x + total a) ≡ p + len x + total a = omega arith in
    ap (λ t. pick t x (find (a ++ i ∷ b) (p + len x) (p + (len x + total a)))) (ne_eqb p (p + (len x + total a)) (λ e. omega arith))
    ∙ ap (find (a ++ i ∷ b) (p + len x)) z ∙ find_after a i b (p + len x) s.1

total_join : (a b : List Instr) → total (a ++ b) ≡ total a + total b
unfolding total
total_join [] b = omega arith
total_join (i ∷ a) b = omega (arith, total_join a b)

mixed_at : (all a b : List Instr) (p o : ℕ) → (find (map (thread all) a ++ b) p o ≡ find (a ++ b) p o) ⊎ (find (map (thread all) a ++ b) p o ≡ thread all (find (a ++ b) p o))
unfolding find
mixed_at all [] b p o = inl refl
mixed_at all (i ∷ a) b p o = go (eqb p o) (mixed_at all a b (p + len i) o)
  where
    moved : find (map (thread all) a ++ b) (p + len (thread all i)) o ≡ find (map (thread all) a ++ b) (p + len i) o
    moved = ap (λ l. find (map (thread all) a ++ b) (p + l) o) (thread_length all i)

    go : (t : Bool) → (find (map (thread all) a ++ b) (p + len i) o ≡ find (a ++ b) (p + len i) o) ⊎ (find (map (thread all) a ++ b) (p + len i) o ≡ thread all (find (a ++ b) (p + len i) o))
        → (pick t (thread all i) (find (map (thread all) a ++ b) (p + len (thread all i)) o) ≡ pick t i (find (a ++ b) (p + len i) o))
        ⊎ (pick t (thread all i) (find (map (thread all) a ++ b) (p + len (thread all i)) o) ≡ thread all (pick t i (find (a ++ b) (p + len i) o)))
    go true h = inr refl
    go false (inl e) = inl (moved ∙ e)
    go false (inr e) = inr (moved ∙ e)

-- Numbers behind X, whose length is p.
module _ (X : List ℕ) (p : ℕ) (at : length X ≡ p) where
  snoc_length : (x : ℕ) → length (X ++ x ∷ []) ≡ p + 1
  snoc_length x = simp length-append (omega (arith, at))

  get_first : (x : ℕ) (l : List ℕ) → get_or (X ++ x ∷ l) p 0 ≡ x
  get_first x l = get_or_at X x l 0 p at

  get_second : (x y : ℕ) (l : List ℕ) → get_or (X ++ x ∷ y ∷ l) (p + 1) 0 ≡ y
  get_second x y l = ap (λ c. get_or c (p + 1) 0) (sym (append_snoc X x (y ∷ l))) ∙ get_or_at (X ++ x ∷ []) y l 0 (p + 1) (snoc_length x)

  set_second : (x y u : ℕ) (l : List ℕ) → set (X ++ x ∷ y ∷ l) (p + 1) u ≡ X ++ x ∷ u ∷ l
  set_second x y u l =
      ap (λ c. set c (p + 1) u) (sym (append_snoc X x (y ∷ l))) ∙ set_at (X ++ x ∷ []) y l u (p + 1) (snoc_length x) ∙ append_snoc X x (u ∷ l)

-- A place and a depth behind x.
abbrev aim_behind : List ℕ → ℕ → ℕ → ℕ → List ℕ → Option Target → List ℕ
aim_behind X x t d l None = X ++ x ∷ t ∷ d ∷ l
aim_behind X x t d l (Some aim) = X ++ x ∷ aim.place ∷ aim.depth ∷ l

module _ (X : List ℕ) (p : ℕ) (at : length X ≡ p) (x t d : ℕ) (l : List ℕ) where
  third : (y z : ℕ) → X ++ x ∷ y ∷ z ∷ l ≡ (X ++ x ∷ []) ++ y ∷ z ∷ l
  third y z = sym (append_snoc X x (y ∷ z ∷ l))

  sent_is : (a : Option Target) → last_at (X ++ x ∷ t ∷ d ∷ l) (length (X ++ x ∷ t ∷ d ∷ l) + 1) t d ≡ a → sent (X ++ x ∷ t ∷ d ∷ l) (p + 1) ≡ aim_behind X x t d l a
  unfolding sent
  sent_is a e =
      ap (λ y. written C (p + 1) (last_at C (length C + 1) y (get_or C (p + 1 + 1) 0))) (get_second X p at x t (d ∷ l))
      ∙ ap (λ y. written C (p + 1) (last_at C (length C + 1) t y)) depth
      ∙ ap (written C (p + 1)) e ∙ go a
    where
      C : List ℕ
      C = X ++ x ∷ t ∷ d ∷ l

      depth : get_or C (p + 1 + 1) 0 ≡ d
      depth = ap (λ c. get_or c (p + 1 + 1) 0) (third t d) ∙ get_second (X ++ x ∷ []) (p + 1) (snoc_length X p at x) t d l

      go : (b : Option Target) → written C (p + 1) b ≡ aim_behind X x t d l b
      go None = refl
      go (Some aim) = let u : ℕ = aim.place in let k : ℕ = aim.depth in
          ap (λ c. set c (p + 1 + 1) k) (set_second X p at x t u (d ∷ l))
          ∙ ap (λ c. set c (p + 1 + 1) k) (third u d)
          ∙ set_second (X ++ x ∷ []) (p + 1) (snoc_length X p at x) u d k l
          ∙ append_snoc X x (u ∷ k ∷ l)

-- One instruction more.
module _ (is : List Instr) (s : Sound is) (a : List Instr) (i : Instr) (b : List Instr) (whole' : a ++ i ∷ b ≡ is) (p : ℕ) (place : p ≡ total a) where
  abbrev now : List Instr
  now = map (thread is) a ++ i ∷ b

  abbrev X : List ℕ
  X = flat (map (thread is) a)

  some_a : AreInstrs a
  some_a = some_left a (i ∷ b) (subst AreInstrs (sym whole') s.some)

  some_b : AreInstrs (i ∷ b)
  some_b = some_right a (i ∷ b) (subst AreInstrs (sym whole') s.some)

  some_now : AreInstrs now
  some_now = some_thread is a (i ∷ b) some_a some_b

  mixed : Mixed is now
  mixed = record { each = λ o. subst (λ js. (find (map (thread is) a ++ i ∷ b) 0 o ≡ find js 0 o) ⊎ (find (map (thread is) a ++ i ∷ b) 0 o ≡ thread is (find js 0 o))) whole' (mixed_at is a (i ∷ b) 0 o) }

  same_none : (o : ℕ) → is_none (find now 0 o) ≡ is_none (find is 0 o)
  same_none o = go (mixed.each o)
    where
      go : (find now 0 o ≡ find is 0 o) ⊎ (find now 0 o ≡ thread is (find is 0 o)) → is_none (find now 0 o) ≡ is_none (find is 0 o)
      go (inl e) = ap is_none e
      go (inr e) = ap is_none e ∙ thread_none is (find is 0 o)

  shut : (o v w : ℕ) → Begin now o → aim_of (find now 0 o) ≡ to v w → Begin now v
  shut o v w c e = same_none v ∙ go (mixed.each o)
    where
      u : Sound (threaded is)
      u = threaded_sound is s

      old : Begin is o
      old = sym (same_none o) ∙ c

      go : (find now 0 o ≡ find is 0 o) ⊎ (find now 0 o ≡ thread is (find is 0 o)) → Begin is v
      go (inl q) = aim_all (Begin is) (find is 0 o) v w (ap aim_of (sym q) ∙ e) (s.named o old)
      go (inr q) =
          let f : find (threaded is) 0 o ≡ thread is (find is 0 o) = threaded_find is o in
          let g : Begin (threaded is) o = ap is_none f ∙ thread_none is (find is 0 o) ∙ old in
          let h : Begin (threaded is) v = aim_all (Begin (threaded is)) (find (threaded is) 0 o) v w (ap aim_of (f ∙ sym q) ∙ e) (u.named o g) in
          sym (ap is_none (threaded_find is v) ∙ thread_none is (find is 0 v)) ∙ h

  length_now : length (flat now) ≡ p + len i + total b
  unfolding total
  length_now = flat_length now ∙ total_join (map (thread is) a) (i ∷ b) ∙ (let m : total (map (thread is) a) ≡ total a = map_length is a in omega arith)

  pub inside : p < length (flat now)
  inside = omega (arith, length_now, len_pos i some_b.0)

  here : find now 0 p ≡ i
  here =
      let m : 0 + total (map (thread is) a) ≡ p = omega (arith, map_length is a, place) in
      ap (find now 0) (sym m) ∙ find_after (map (thread is) a) i b 0 (some_left (map (thread is) a) (i ∷ b) some_now)

  pub stands : standing (flat now) p ≡ i
  stands = whole (flat now) p i (fetched now p (ap is_none here ∙ some_b.0) ∙ here) (omega (arith, length_now))

  last_is : (t d : ℕ) → Begin is t → last_at (flat now) (length (flat now) + 1) t d ≡ last is (suc (length is)) t d
  last_is t d c =
      last_read now shut (length (flat now) + 1) t d (same_none t ∙ c)
      ∙ last_more now (length (flat now) + 1) t d (omega (arith, count_total now some_now, flat_length now))
      ∙ last_now is now mixed t d

  parts : flat now ≡ X ++ (words i ++ flat b)
  unfolding flat
  parts = flat_join (map (thread is) a) (i ∷ b)

  length_x : length X ≡ p
  length_x = flat_length (map (thread is) a) ∙ map_length is a ∙ sym place

  done : flat (map (thread is) (a ++ i ∷ []) ++ b) ≡ X ++ (words (thread is i) ++ flat b)
  unfolding flat
  done =
      ap (λ js. flat (js ++ b)) (map-append (thread is) a (i ∷ []))
      ∙ ap flat (append_assoc (map (thread is) a) (thread is i ∷ []) b)
      ∙ flat_join (map (thread is) a) (thread is i ∷ b)

  abbrev X' : List ℕ
  X' = X ++ op.Case ∷ []

  threaded_is : (C : List ℕ) (j : Instr) → is_none j ≡ false → All (Begin is) (names j) → C ≡ X ++ (words j ++ flat b)
      → ((t d : ℕ) → Begin is t → last_at C (length C + 1) t d ≡ last is (suc (length is)) t d) → threaded_at C p ≡ X ++ (words (thread is j) ++ flat b)
  unfolding threaded_at
  threaded_is C j n m e last' = go j n m e
    where
      R : List ℕ
      R = flat b

      by : (x : ℕ) (l : List ℕ) → C ≡ X ++ x ∷ l → threaded_at C p ≡ pick (eqb x op.Leave) (sent C (p + 1)) (pick (eqb x op.Case) (sent C (p + 2)) C)
      by x l q = ap (λ y. pick (eqb y op.Leave) (sent C (p + 1)) (pick (eqb y op.Case) (sent C (p + 2)) C)) (ap (λ c. get_or c p 0) q ∙ get_first X p length_x x l)

      leave : (t d : ℕ) (k : Option Target) → aim_behind X op.Leave t d R k ≡ X ++ (words (aimed k LEAVE (LEAVE t d)) ++ R)
      leave t d None = refl
      leave t d (Some aim) = refl

      case' : (c t d : ℕ) (k : Option Target) → aim_behind X' c t d R k ≡ X ++ (words (aimed k (CASE c) (CASE c t d)) ++ R)
      case' c t d None = append_snoc X op.Case (c ∷ t ∷ d ∷ R)
      case' c t d (Some aim) = let u : ℕ = aim.place in let w : ℕ = aim.depth in append_snoc X op.Case (c ∷ u ∷ w ∷ R)

      go : (h : Instr) → is_none h ≡ false → All (Begin is) (names h) → C ≡ X ++ (words h ++ R) → threaded_at C p ≡ X ++ (words (thread is h) ++ R)
      go NONE z a' q = absurd (true≢false z)
      go (LIST x) z a' q = by op.List (x ∷ R) q ∙ q
      go (ASK x y w) z a' q = by op.Ask (x ∷ y ∷ w ∷ R) q ∙ q
      go (SELECT x c w) z a' q = by op.Select (x ∷ c ∷ w ∷ R) q ∙ q
      go (OPEN f) z a' q = by op.Open (f ∷ R) q ∙ q
      go (END w) z a' q = by op.End (w ∷ R) q ∙ q
      go (LEAVE t d) z a' q =
          by op.Leave (t ∷ d ∷ R) q ∙ ap (λ c. sent c (p + 1)) q
          ∙ sent_is X p length_x op.Leave t d R (last is (suc (length is)) t d) (ap (λ c. last_at c (length c + 1) t d) (sym q) ∙ last' t d a'.0)
          ∙ leave t d (last is (suc (length is)) t d)
      go (CASE c t d) z a' q =
          let q' : C ≡ X' ++ c ∷ t ∷ d ∷ R = q ∙ sym (append_snoc X op.Case (c ∷ t ∷ d ∷ R)) in
          let two : p + 2 ≡ p + 1 + 1 = omega arith in
          by op.Case (c ∷ t ∷ d ∷ R) q ∙ ap (λ k. sent C k) two ∙ ap (λ k. sent k (p + 1 + 1)) q'
          ∙ sent_is X' (p + 1) (snoc_length X p length_x op.Case) c t d R (last is (suc (length is)) t d) (ap (λ k. last_at k (length k + 1) t d) (sym q') ∙ last' t d a'.1.0)
          ∙ case' c t d (last is (suc (length is)) t d)

  old : find is 0 p ≡ i
  old =
      let z : 0 + total a ≡ p = omega (arith, place) in
      ap (λ js. find js 0 p) (sym whole') ∙ ap (find (a ++ i ∷ b) 0) (sym z) ∙ find_after a i b 0 some_a

  pub next : threaded_at (flat now) p ≡ flat (map (thread is) (a ++ i ∷ []) ++ b)
  next =
      threaded_is (flat now) i some_b.0 (subst (λ j. All (Begin is) (names j)) old (s.named p (ap is_none old ∙ some_b.0))) parts last_is ∙ sym done

-- The loop over all instructions.
pub threading_first : (C : List ℕ) → Valid C → Threading (parse C) C 0
unfolding total
threading_first C v = record { done = []; rest = parse C; all = refl; code = sym (flat_parse C (valid_sound C v).some); place = refl }

module _ (is : List Instr) (s : Sound is) (C : List ℕ) (p : ℕ) (h : Threading is C p) where
  ended : h.rest ≡ [] → length C ≡ p
  ended e =
      ap length (h.code ∙ ap (λ r. flat (map (thread is) h.done ++ r)) e ∙ ap flat (append-nil (map (thread is) h.done)))
      ∙ flat_length (map (thread is) h.done) ∙ map_length is h.done ∙ sym h.place

  module _ (i : Instr) (b : List Instr) (e : h.rest ≡ i ∷ b) where
    all' : h.done ++ i ∷ b ≡ is
    all' = ap (λ r. h.done ++ r) (sym e) ∙ h.all

    code' : C ≡ flat (now is s h.done i b all' p h.place)
    code' = h.code ∙ ap (λ r. flat (map (thread is) h.done ++ r)) e

    stands' : standing C p ≡ i
    stands' = ap (λ c. standing c p) code' ∙ stands is s h.done i b all' p h.place

    inside' : p < length C
    inside' = subst (λ c. p < length c) (sym code') (inside is s h.done i b all' p h.place)

    next' : Threading is (threaded_at C p) (p + len (standing C p))
    unfolding total
    next' =
        record {
          done = h.done ++ i ∷ [];
          rest = b;
          all = append_snoc h.done i b ∙ all';
          code = ap (λ c. threaded_at c p) code' ∙ next is s h.done i b all' p h.place;
          place = omega (arith, ap len stands', h.place, total_join h.done (i ∷ []));
        }

    some' : len (standing C p) ≢ 0
    some' z = omega (arith, ap len stands', z, len_pos i (some_b is s h.done i b all' p h.place).0)

  pub threading_some : p < length C → len (standing C p) ≢ 0
  threading_some l = go h.rest refl
    where
      go : (r : List Instr) → h.rest ≡ r → len (standing C p) ≢ 0
      go [] e = absurd (omega (arith, ended e))
      go (i ∷ b) e = some' i b e

  pub threading_next : p < length C → Threading is (threaded_at C p) (p + len (standing C p))
  threading_next l = go h.rest refl
    where
      go : (r : List Instr) → h.rest ≡ r → Threading is (threaded_at C p) (p + len (standing C p))
      go [] e = absurd (omega (arith, ended e))
      go (i ∷ b) e = next' i b e

  pub threading_end : length C ≤ p → C ≡ flat (threaded is)
  unfolding threaded
  threading_end l = go h.rest refl
    where
      go : (r : List Instr) → h.rest ≡ r → C ≡ flat (map (thread is) is)
      go [] e =
          h.code ∙ ap (λ r. flat (map (thread is) h.done ++ r)) e ∙ ap flat (append-nil (map (thread is) h.done))
          ∙ ap (λ js. flat (map (thread is) js)) (sym (append-nil h.done) ∙ ap (λ r. h.done ++ r) (sym e) ∙ h.all)
      go (i ∷ b) e = absurd (omega (arith, inside' i b e))

-- What the functions read.
module _ (C : List ℕ) (t : ℕ) where
  pub hop_zero : t ≡ 0 → hop_at C t ≡ None
  unfolding hop_at
  hop_zero z = ap (λ x. pick (is_zero x) None (aim_of (fetch C t))) z

  module _ (n : t ≢ 0) where
    hop_by : (x : ℕ) → get_or C t 0 ≡ x → hop_at C t ≡ aim_of (decode x (get_or C (t + 1) 0) (get_or C (t + 2) 0) (get_or C (t + 3) 0))
    unfolding hop_at fetch
    hop_by x e =
        let one : suc t ≡ t + 1 = omega arith in
        let two : suc (suc t) ≡ t + 2 = omega arith in
        let three : suc (suc (suc t)) ≡ t + 3 = omega arith in
        ap (λ z. pick z None (aim_of (fetch C t))) (not_zero t n) ∙ (λ j. aim_of (decode (e j) (get_or C (one j) 0) (get_or C (two j) 0) (get_or C (three j) 0)))

    pub hop_leave : get_or C t 0 ≡ op.Leave → hop_at C t ≡ to (get_or C (t + 1) 0) (get_or C (t + 2) 0)
    hop_leave e = hop_by op.Leave e

    pub hop_case : get_or C t 0 ≡ op.Case → hop_at C t ≡ to (get_or C (t + 2) 0) (get_or C (t + 3) 0)
    hop_case e = hop_by op.Case e

    pub hop_other : get_or C t 0 ≢ op.Leave → get_or C t 0 ≢ op.Case → hop_at C t ≡ None
    hop_other h k = hop_by (get_or C t 0) refl ∙ aim_not (get_or C t 0) (get_or C (t + 1) 0) (get_or C (t + 2) 0) (get_or C (t + 3) 0) h k

module _ (C : List ℕ) (f t d : ℕ) where
  last_step : last_at C (f + 1) t d ≡ further (last_at C f) (hop_at C t) t d
  unfolding last_at
  last_step = let e : f + 1 ≡ suc f = omega arith in ap (λ k. last_at C k t d) e

  pub last_end : hop_at C t ≡ None → last_at C (f + 1) t d ≡ to t d
  last_end e = last_step ∙ ap (λ a. further (last_at C f) a t d) e

  pub last_on : (u w : ℕ) → hop_at C t ≡ to u w → last_at C (f + 1) t d ≡ last_at C f u (min d w)
  last_on u w e = last_step ∙ ap (λ a. further (last_at C f) a t d) e

  pub last_out : f ≡ 0 → last_at C f t d ≡ None
  unfolding last_at
  last_out e = ap (λ k. last_at C k t d) e

module _ (C : List ℕ) (p : ℕ) where
  pub thread_leave : get_or C p 0 ≡ op.Leave → threaded_at C p ≡ sent C (p + 1)
  unfolding threaded_at
  thread_leave e = ap (λ x. pick (eqb x op.Leave) (sent C (p + 1)) (pick (eqb x op.Case) (sent C (p + 2)) C)) e

  pub thread_case : get_or C p 0 ≡ op.Case → threaded_at C p ≡ sent C (p + 2)
  unfolding threaded_at
  thread_case e = ap (λ x. pick (eqb x op.Leave) (sent C (p + 1)) (pick (eqb x op.Case) (sent C (p + 2)) C)) e

  pub thread_other : get_or C p 0 ≢ op.Leave → get_or C p 0 ≢ op.Case → threaded_at C p ≡ C
  unfolding threaded_at
  thread_other h k = rw (ne_eqb (get_or C p 0) op.Leave h, ne_eqb (get_or C p 0) op.Case k)
