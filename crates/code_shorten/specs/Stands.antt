-- The closed code is sound, and a path reaches all of it.
use Rattle.std.specs.Prelude.{ℕ, zero, suc, ◌+◌, ◌≤◌, ◌<◌, ◌≡◌, refl, Bool, true, false, ◌&&◌, List, [], ◌∷◌, ◌⊎◌, length, eqb}
use Rattle.std.proofs.Common.{sym, ◌∙◌, true≢false, inl, inr, eqb-true, arith}
use Rattle.std.proofs.Math.Path.{ap, subst}
use Rattle.route_completion.specs.Sem.{pick, elem}
use Rattle.code_flat.specs.Machine.{Instr, NONE, LIST, LEAVE, ASK, SELECT, OPEN, END, CASE}
use Rattle.code_flat.specs.Machine.{is_none}
use Rattle.code_valid.specs.Instrs.{len, find, names, runs_on, leads}
use Rattle.code_shorten.specs.Short.{named, rounds, reached, moved, relocate, kept, close_up}
use Rattle.code_shorten.specs.Longer.{relocate_length}
use Rattle.code_shorten.specs.Sound.{AreInstrs, Begin, All, Sound, dec_eq, and_left, and_right, len_pos, find_here, find_there, find_low, none_in}
use Rattle.code_shorten.specs.Closes.{In, Closed, after, after_in, moved_here, moved_there, moved_next, relocate_none, named as named_in, moved_zero, closed_find, runs_in}
use Rattle.code_shorten.specs.Reaches.{or_case, round_out, reached_zero, reached_closed, in_all}

kept_some : (f : ℕ → ℕ) (S : List ℕ) (is : List Instr) (p : ℕ) → AreInstrs is → AreInstrs (kept f S is p)
unfolding kept
kept_some f S [] p s = tt
kept_some f S (i ∷ is) p s = go (elem p S) (kept_some f S is (p + len i) s.1)
  where
    go : (b : Bool) → AreInstrs (kept f S is (p + len i)) → AreInstrs (pick b (relocate f i ∷ kept f S is (p + len i)) (kept f S is (p + len i)))
    go true h = (relocate_none f i ∙ s.0, h)
    go false h = h

-- Each instruction of the closed code comes from one that stays.
record From (S : List ℕ) (is : List Instr) (p q x : ℕ) : Type 0 where
  old : ℕ
  begun : is_none (find is p old) ≡ false
  stays : In S old
  place : moved S is p q old ≡ x

from_rest : (S : List ℕ) (i : Instr) (is : List Instr) (p q x : ℕ) → is_none i ≡ false → From S is (p + len i) (after S p q i) x → From S (i ∷ is) p q x
from_rest S i is p q x s h =
    let l : 0 < len i = len_pos i s in
    let b : p + len i ≤ h.old = find_low is (p + len i) h.old h.begun in
    let d : p ≡ h.old → ⊥ = λ w. omega arith in
    record { old = h.old; begun = ap is_none (find_there i is p h.old d) ∙ h.begun; stays = h.stays; place = moved_there S i is p q h.old d ∙ h.place }

kept_from : (f : ℕ → ℕ) (S : List ℕ) (is : List Instr) (p q x : ℕ) → AreInstrs is → is_none (find (kept f S is p) q x) ≡ false → From S is p q x
unfolding kept
kept_from f S [] p q x s n = absurd (none_in q x n)
kept_from f S (i ∷ is) p q x s n = go (elem p S) refl n (λ r. kept_from f S is (p + len i) r x s.1)
  where
    rest : List Instr
    rest = kept f S is (p + len i)

    go : (b : Bool) → elem p S ≡ b → is_none (find (pick b (relocate f i ∷ rest) rest) q x) ≡ false
        → ((r : ℕ) → is_none (find rest r x) ≡ false → From S is (p + len i) r x) → From S (i ∷ is) p q x
    go true e m k = at (dec_eq q x)
      where
        at : Dec (q ≡ x) → From S (i ∷ is) p q x
        at (yes w) = record { old = p; begun = ap is_none (find_here i is p) ∙ s.0; stays = e; place = moved_here S i is p q ∙ w }
        at (no w) =
            from_rest S i is p q x s.0
            (subst (λ r. From S is (p + len i) r x) (sym (after_in S p q i e))
            (k (q + len i) (ap (λ l. is_none (find rest (q + l) x)) (sym (relocate_length f i)) ∙ ap is_none (sym (find_there (relocate f i) rest q x w)) ∙ m)))
    go false e m k = from_rest S i is p q x s.0 (subst (λ r. From S is (p + len i) r x) (sym (ap (λ b. pick b (q + len i) q) e)) (k q m))

relocate_runs : (f : ℕ → ℕ) (i : Instr) → runs_on (relocate f i) ≡ runs_on i
relocate_runs f NONE = refl
relocate_runs f (LIST n) = refl
relocate_runs f (LEAVE t d) = refl
relocate_runs f (ASK n y z) = refl
relocate_runs f (SELECT n c e) = refl
relocate_runs f (OPEN g) = refl
relocate_runs f (END e) = refl
relocate_runs f (CASE c t d) = refl

relocate_all : (f : ℕ → ℕ) (A B : ℕ → Type 0) → ((o : ℕ) → A o → B (f o)) → (i : Instr) → All A (names i) → All B (names (relocate f i))
relocate_all f A B h NONE a = tt
relocate_all f A B h (LIST n) a = tt
relocate_all f A B h (LEAVE t d) a = (h t a.0, tt)
relocate_all f A B h (ASK n y z) a = (h y a.0, (h z a.1.0, tt))
relocate_all f A B h (SELECT n c e) a = (h c a.0, (h e a.1.0, tt))
relocate_all f A B h (OPEN g) a = (h g a.0, tt)
relocate_all f A B h (END e) a = tt
relocate_all f A B h (CASE c t d) a = (h c a.0, (h t a.1.0, tt))

module _ (is : List Instr) (s : Sound is) (S : List ℕ) (zero∈ : In S 0) (shut : Closed is S) where
  abbrev pub new : ℕ → ℕ
  new = moved S is 0 0

  abbrev pub Stays : ℕ → Type 0
  Stays o = Begin is o × In S o

  abbrev pub short : List Instr
  short = close_up S is

  pub new_find : (o : ℕ) → Stays o → find short 0 (new o) ≡ relocate new (find is 0 o)
  new_find o p = closed_find is s S zero∈ shut o p

  new_begin : (o : ℕ) → Stays o → Begin short (new o)
  new_begin o p = ap is_none (new_find o p) ∙ relocate_none new (find is 0 o) ∙ p.0

  pub old_of : (x : ℕ) → Begin short x → (o : ℕ) × Stays o × (new o ≡ x)
  unfolding close_up
  old_of x b =
      let h : From S is 0 0 x = kept_from new S is 0 0 x s.some b in
      (h.old, (h.begun, h.stays), h.place)

  pub stays_names : (o : ℕ) → Stays o → All Stays (names (find is 0 o))
  stays_names o p = named_in is s S zero∈ shut o (find is 0 o) (s.named o p.0) (shut o p.0 p.1)

  new_next : (o : ℕ) → Stays o → runs_on (find is 0 o) ≡ true → Stays (o + len (find is 0 o)) × (new (o + len (find is 0 o)) ≡ new o + len (find is 0 o))
  new_next o p r =
      ((s.next o p.0 r, runs_in is s S zero∈ shut o (find is 0 o) (shut o p.0 p.1) r), moved_next S is 0 0 o p.0 p.1 (s.next o p.0 r))

  pub short_sound : Sound short
  unfolding close_up
  short_sound =
      record {
        some = kept_some new S is 0 s.some;
        start = subst (Begin short) (moved_zero is s S zero∈ shut) (new_begin 0 (s.start, zero∈));
        named = λ x b.
            let h : (o : ℕ) × Stays o × (new o ≡ x) = old_of x b in
            subst (λ y. All (Begin short) (names (find short 0 y))) h.2
            (subst (λ i. All (Begin short) (names i)) (sym (new_find h.0 h.1)) (relocate_all new Stays (Begin short) new_begin (find is 0 h.0) (stays_names h.0 h.1)));
        next = λ x b r.
            let h : (o : ℕ) × Stays o × (new o ≡ x) = old_of x b in
            let i : Instr = find is 0 h.0 in
            let e : find short 0 x ≡ relocate new i = ap (find short 0) (sym h.2) ∙ new_find h.0 h.1 in
            let n : Stays (h.0 + len i) × (new (h.0 + len i) ≡ new h.0 + len i) = new_next h.0 h.1 (sym (relocate_runs new i) ∙ ap runs_on (sym e) ∙ r) in
            subst (Begin short) (n.1 ∙ ap (λ y. y + len i) h.2 ∙ ap (λ l. x + l) (sym (ap len e ∙ relocate_length new i))) (new_begin (h.0 + len i) n.0);
      }

  -- Where an instruction led, the closed one leads.
  leads_new : (T : List ℕ) (o : ℕ) → Stays o → All (In T) (leads (new o) (relocate new (find is 0 o))) → All (λ y. In T (new y)) (leads o (find is 0 o))
  leads_new T o p a = go (runs_on (find is 0 o)) refl (subst (λ b. All (In T) (pick b ((new o + len (relocate new i)) ∷ names (relocate new i)) (names (relocate new i)))) (relocate_runs new i) a)
    where
      i : Instr
      i = find is 0 o

      back : (j : Instr) → All (In T) (names (relocate new j)) → All (λ y. In T (new y)) (names j)
      back NONE h = tt
      back (LIST n) h = tt
      back (LEAVE t d) h = h
      back (ASK n y z) h = h
      back (SELECT n c e) h = h
      back (OPEN g) h = h
      back (END e) h = tt
      back (CASE c t d) h = h

      go : (b : Bool) → runs_on (find is 0 o) ≡ b → All (In T) (pick b ((new o + len (relocate new i)) ∷ names (relocate new i)) (names (relocate new i)))
          → All (λ y. In T (new y)) (pick b ((o + len i) ∷ names i) (names i))
      go true r h = (subst (In T) (ap (λ l. new o + l) (relocate_length new i) ∙ sym (new_next o p r).1) h.0, back i h.1)
      go false r h = back i h

-- What names x from S.
record By (is : List Instr) (p : ℕ) (S : List ℕ) (x : ℕ) : Type 0 where
  from : ℕ
  begun : is_none (find is p from) ≡ false
  stays : In S from
  leads_to : elem x (leads from (find is p from)) ≡ true

named_from : (is : List Instr) (p : ℕ) (S : List ℕ) (x : ℕ) → AreInstrs is → named is p S x ≡ true → By is p S x
unfolding named
named_from [] p S x s h = absurd (true≢false (sym h))
named_from (i ∷ is) p S x s h = go (or_case (elem p S && elem x (leads p i)) (named is (p + len i) S x) h) (named_from is (p + len i) S x s.1)
  where
    go : ((elem p S && elem x (leads p i)) ≡ true) ⊎ (named is (p + len i) S x ≡ true) → (named is (p + len i) S x ≡ true → By is (p + len i) S x) → By (i ∷ is) p S x
    go (inl e) f =
        record {
          from = p;
          begun = ap is_none (find_here i is p) ∙ s.0;
          stays = and_left (elem p S) (elem x (leads p i)) e;
          leads_to = ap (λ j. elem x (leads p j)) (find_here i is p) ∙ and_right (elem p S) (elem x (leads p i)) e;
        }
    go (inr e) f =
        let r : By is (p + len i) S x = f e in
        let l : 0 < len i = len_pos i s.0 in
        let b : p + len i ≤ r.from = find_low is (p + len i) r.from r.begun in
        let q : find (i ∷ is) p r.from ≡ find is (p + len i) r.from = find_there i is p r.from (λ w. omega arith) in
        record { from = r.from; begun = ap is_none q ∙ r.begun; stays = r.stays; leads_to = ap (λ j. elem x (leads r.from j)) q ∙ r.leads_to }

-- Whatever the rounds reach is in any set that holds 0 and where its instructions lead.
pub least : (is : List Instr) → Sound is → (Q : ℕ → Type 0) → Q 0 → ((o : ℕ) → Begin is o → Q o → All Q (leads o (find is 0 o))) → (k o : ℕ) → In (rounds is k) o → Q o
unfolding rounds
least is s Q z h zero o e = go (or_case (eqb o 0) false e)
  where
    go : (eqb o 0 ≡ true) ⊎ (false ≡ true) → Q o
    go (inl q) = subst Q (sym (eqb-true o 0 q)) z
    go (inr q) = absurd (true≢false (sym q))
least is s Q z h (suc k) o e = go (or_case (elem o (rounds is k)) (named is 0 (rounds is k) o) (round_out is (rounds is k) is 0 o s.some e).0) (least is s Q z h k)
  where
    go : (elem o (rounds is k) ≡ true) ⊎ (named is 0 (rounds is k) o ≡ true) → ((x : ℕ) → In (rounds is k) x → Q x) → Q o
    go (inl q) f = f o q
    go (inr q) f =
        let r : By is 0 (rounds is k) o = named_from is 0 (rounds is k) o s.some q in
        in_all is s Q (leads r.from (find is 0 r.from)) o (h r.from r.begun (f r.from r.stays)) r.leads_to

-- All of the closed code is reached.
pub all_reached : (is : List Instr) (s : Sound is) → (x : ℕ) → Begin (close_up (reached is) is) x → In (reached (close_up (reached is) is)) x
all_reached is s x b = subst (In T) h.2 (least is s Q zero_q step (length is) h.0 h.1.1).1
  where
    S : List ℕ
    S = reached is

    R : List Instr
    R = close_up S is

    T : List ℕ
    T = reached R

    u : Sound R
    u = short_sound is s S (reached_zero is s) (reached_closed is s)

    h : (o : ℕ) × Stays is s S (reached_zero is s) (reached_closed is s) o × (moved S is 0 0 o ≡ x)
    h = old_of is s S (reached_zero is s) (reached_closed is s) x b

    Q : ℕ → Type 0
    Q o = In S o × In T (moved S is 0 0 o)

    zero_q : Q 0
    zero_q = (reached_zero is s, subst (In T) (sym (moved_zero is s S (reached_zero is s) (reached_closed is s))) (reached_zero R u))

    both : (xs : List ℕ) → All (In S) xs → All (λ y. In T (moved S is 0 0 y)) xs → All Q xs
    both [] a c = tt
    both (y ∷ ys) a c = ((a.0, c.0), both ys a.1 c.1)

    step : (o : ℕ) → Begin is o → Q o → All Q (leads o (find is 0 o))
    step o c q =
        let p : Begin is o × In S o = (c, q.0) in
        let e : find R 0 (moved S is 0 0 o) ≡ relocate (moved S is 0 0) (find is 0 o) = new_find is s S (reached_zero is s) (reached_closed is s) o p in
        both (leads o (find is 0 o)) (reached_closed is s o c q.0)
        (leads_new is s S (reached_zero is s) (reached_closed is s) T o p
        (subst (λ i. All (In T) (leads (moved S is 0 0 o) i)) e
        (reached_closed R u (moved S is 0 0 o) (new_begin is s S (reached_zero is s) (reached_closed is s) o p) q.1)))
