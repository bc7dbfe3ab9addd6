-- Laws of last targets over a slice: they are those of the code that came in, whatever of its front is sent on.
use Prim.Native.Nat.{ℕ, zero, suc, ◌+◌, ◌≤◌, min}
use Rattle.std.specs.Prelude.{◌≡◌, ◌⊎◌, Bool, ltb, eqb, Option, Some, None}
use Rattle.std.proofs.Math.Path.{refl, sym, ap}
use Rattle.std.proofs.Common.{◌∙◌, inl, inr, eqb-true}
use Rattle.std.proofs.Math.Bool.{true, false}
use mathlib.Core.List.{List, [], ◌∷◌}
use Rattle.std.proofs.Math.ListN.{length}
use native.Mathlib.Omega.{arith}
use Rattle.route_completion.specs.Sem.{pick}
use Rattle.code_flat.specs.Machine.{Instr, LIST, LEAVE, ASK, SELECT, OPEN, END, CASE, NONE, is_zero}
use Rattle.code_flat.specs.Machine.{is_none}
use Rattle.code_valid.specs.Instrs.{len, parse, find, names}
use Rattle.code_valid.specs.Valid.{Valid}
use Rattle.code_machine.specs.declared.Target.{Target}
use Rattle.code_shorten.specs.Short.{to, aim_of, hop, further, last, aimed, thread}
use Rattle.code_shorten.specs.Longer.{thread_length, total}
use Rattle.code_shorten.specs.Sound.{AreInstrs, Begin, All, len_pos}
use Rattle.code_shorten.specs.Threads.{thread_none, aim_all}
use Rattle.code_shorten.specs.Rings.{ring, last_up}
use Rattle.code_shorten.specs.Place.{Mixed, last_now}
use Rattle.code_pass.specs.Stages.{sent_on}
use Rattle.code_mark.specs.Read.{read_at, hop_in, last_in, rule_in, sent_by}
use Rattle.code_mark.specs.Now.{front_sent, now}
use Rattle.code_pass.proofs.KeptLaws.{sent_none, sent_sound}
use Rattle.code_mark.proofs.PlaceLaws.{sound, total_is, sent_find}

-- More jumps than there are instructions come to no other end.
pub last_more : (is : List Instr) (f t d : ℕ) → suc (length is) ≤ f → last is f t d ≡ last is (suc (length is)) t d
last_more is f t d l = go (last is (suc (length is)) t d) refl
  where
    go : (a : Option Target) → last is (suc (length is)) t d ≡ a → last is f t d ≡ a
    go None q = ring is t d q f d
    go (Some aim) q = let u : ℕ = aim.place in let e : ℕ = aim.depth in last_up is f (suc (length is)) t d u e l q

pub count_total : (is : List Instr) → AreInstrs is → length is ≤ total is
unfolding total
count_total [] s = omega arith
count_total (i ∷ is) s = omega (arith, len_pos i s.0, count_total is s.1)

-- The front sent on.
pub front_find : (all is : List Instr) (p split o : ℕ) → find (front_sent all is p split) p o ≡ pick (ltb o split) (thread all (find is p o)) (find is p o)
unfolding find front_sent
front_find all [] p split o = go (ltb o split)
  where
    go : (b : Bool) → NONE ≡ pick b NONE NONE
    go true = refl
    go false = refl
front_find all (i ∷ is) p split o = go (eqb p o) refl (front_find all is (p + len i) split o)
  where
    first : Instr
    first = pick (ltb p split) (thread all i) i

    long : (b : Bool) → len (pick b (thread all i) i) ≡ len i
    long true = thread_length all i
    long false = refl

    go : (b : Bool) → eqb p o ≡ b → find (front_sent all is (p + len i) split) (p + len i) o ≡ pick (ltb o split) (thread all (find is (p + len i) o)) (find is (p + len i) o)
        → pick b first (find (front_sent all is (p + len i) split) (p + len first) o)
        ≡ pick (ltb o split) (thread all (pick b i (find is (p + len i) o))) (pick b i (find is (p + len i) o))
    go true e h = ap (λ x. pick (ltb x split) (thread all i) i) (eqb-true p o e)
    go false e h = ap (λ l. find (front_sent all is (p + len i) split) (p + l) o) (long (ltb p split)) ∙ h

front_some : (all is : List Instr) (p split : ℕ) → AreInstrs is → AreInstrs (front_sent all is p split)
unfolding front_sent
front_some all [] p split s = tt
front_some all (i ∷ is) p split s = (go (ltb p split), front_some all is (p + len i) split s.1)
  where
    go : (b : Bool) → is_none (pick b (thread all i) i) ≡ false
    go true = thread_none all i ∙ s.0
    go false = s.0

front_total : (all is : List Instr) (p split : ℕ) → total (front_sent all is p split) ≡ total is
unfolding front_sent total
front_total all [] p split = refl
front_total all (i ∷ is) p split = omega (arith, go (ltb p split), front_total all is (p + len i) split)
  where
    go : (b : Bool) → len (pick b (thread all i) i) ≡ len i
    go true = thread_length all i
    go false = refl

module _ (C : List ℕ) (v : Valid C) (split : ℕ) where
  pub now_find : (o : ℕ) → find (now C split) 0 o ≡ pick (ltb o split) (find (sent_on C) 0 o) (find (parse C) 0 o)
  now_find o = front_find (parse C) (parse C) 0 split o ∙ ap (λ i. pick (ltb o split) i (find (parse C) 0 o)) (sym (sent_find C v o))

  -- Some jumps are sent on, the others not yet.
  pub now_mixed : Mixed (parse C) (now C split)
  now_mixed = record { each = λ o. go o (ltb o split) (front_find (parse C) (parse C) 0 split o) }
    where
      go : (o : ℕ) (b : Bool) → find (now C split) 0 o ≡ pick b (thread (parse C) (find (parse C) 0 o)) (find (parse C) 0 o)
          → (find (now C split) 0 o ≡ find (parse C) 0 o) ⊎ (find (now C split) 0 o ≡ thread (parse C) (find (parse C) 0 o))
      go o true e = inr e
      go o false e = inl e

  -- Its jumps lead to instructions.
  now_shut : (o t d : ℕ) → Begin (parse C) o → aim_of (find (now C split) 0 o) ≡ to t d → Begin (parse C) t
  now_shut o t d b e = go (ltb o split) (ap aim_of (sym (now_find o)) ∙ e)
    where
      go : (c : Bool) → aim_of (pick c (find (sent_on C) 0 o) (find (parse C) 0 o)) ≡ to t d → Begin (parse C) t
      go true h = sym (sent_none C v t) ∙ aim_all (Begin (sent_on C)) (find (sent_on C) 0 o) t d h ((sent_sound C v).named o (sent_none C v o ∙ b))
      go false h = aim_all (Begin (parse C)) (find (parse C) 0 o) t d h ((sound C v).named o b)

  -- A slice where that is read.
  module _ (f : List ℕ) (reads : (o : ℕ) → Begin (parse C) o → read_at f o ≡ find (now C split) 0 o) where
    pub hop_reads : (t : ℕ) → Begin (parse C) t → hop_in f t ≡ hop (now C split) t
    unfolding hop_in hop
    hop_reads t b = ap (λ i. pick (is_zero t) None (aim_of i)) (reads t b)

    hop_begin : (t u w : ℕ) → Begin (parse C) t → hop (now C split) t ≡ to u w → Begin (parse C) u
    unfolding hop
    hop_begin t u w b e = from (is_zero t) e
      where
        from : (z : Bool) → pick z None (aim_of (find (now C split) 0 t)) ≡ to u w → Begin (parse C) u
        from true q = let x : ◌≡◌ {A = ℕ} 0 1 = cc in absurd (omega arith)
        from false q = now_shut t u w b q

    last_reads : (n t d : ℕ) → Begin (parse C) t → last_in f n t d ≡ last (now C split) n t d
    unfolding last_in last
    last_reads zero t d b = refl
    last_reads (suc n) t d b = ap (λ a. further (last_in f n) a t d) (hop_reads t b) ∙ go (hop (now C split) t) refl (λ u w c. last_reads n u w c)
      where
        go : (a : Option Target) → hop (now C split) t ≡ a → ((u w : ℕ) → Begin (parse C) u → last_in f n u w ≡ last (now C split) n u w)
            → further (last_in f n) a t d ≡ further (last (now C split) n) a t d
        go None e h = refl
        go (Some aim) e h = let u : ℕ = aim.place in let w : ℕ = aim.depth in h u (min d w) (hop_begin t u w b e)

    -- The last target is that of the code that came in.
    pub rule_is : length f ≡ length C → (t d : ℕ) → Begin (parse C) t → rule_in f t d ≡ last (parse C) (suc (length (parse C))) t d
    rule_is e t d b =
        last_reads (length f + 1) t d b
        ∙ last_more (now C split) (length f + 1) t d (omega (arith, count_total (now C split) (front_some (parse C) (parse C) 0 split (sound C v).some), front_total (parse C) (parse C) 0 split, total_is C v))
        ∙ last_now (parse C) (now C split) now_mixed t d

    -- So an instruction is sent on alike.
    pub sent_is : length f ≡ length C → (i : Instr) → All (Begin (parse C)) (names i) → sent_by (rule_in f) i ≡ thread (parse C) i
    sent_is e NONE a = refl
    sent_is e (LIST n) a = refl
    sent_is e (LEAVE t d) a = ap (λ x. aimed x LEAVE (LEAVE t d)) (rule_is e t d a.0)
    sent_is e (ASK n y z) a = refl
    sent_is e (SELECT n c k) a = refl
    sent_is e (OPEN k) a = refl
    sent_is e (END k) a = refl
    sent_is e (CASE c t d) a = ap (λ x. aimed x (CASE c) (CASE c t d)) (rule_is e t d a.1.0)
