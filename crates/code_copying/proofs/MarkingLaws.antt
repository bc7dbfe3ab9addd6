-- The pass by a copy, its marks: a round marks only what is reached, and where nothing is new all of it is marked. What one mark comes to stands in
-- code_mark (MarkLaws.antt), what begins where in code_shorten (PlaceLaws.antt).
use Prim.Native.Nat.{ℕ, suc, ◌+◌, ◌-◌, ◌≤◌, ◌<◌}
use Rattle.std.specs.Prelude.{◌≡◌, ◌≢◌, ◌⊎◌, Bool, ◌||◌, length, set, eqb}
use Rattle.std.proofs.Math.Path.{refl, sym, ap}
use Rattle.std.proofs.Common.{◌∙◌, subst, inl, inr, true≢false, length-set, get_or-set_same, get_or-set_other}
use Rattle.std.proofs.Math.Bool.{true, false}
use mathlib.Core.List.{List, [], ◌∷◌}
use Rattle.std.proofs.Math.ListN.{get_or}
use borrow.Author.Tests.{ne_eqb, lt-ltb, le-ltb}
use native.Mathlib.Omega.{arith}
use Rattle.std.proofs.Math.Decide.{dec_lt}
use Rattle.route_completion.specs.Sem.{pick, elem}
use Rattle.code_flat.specs.Opcodes as op
use Rattle.code_flat.specs.Machine.{Instr, NONE, END, decode, fetch}
use Rattle.code_flat.proofs.Runs.{inside}
use Rattle.code_flat.specs.Machine.{is_none}
use Rattle.code_valid.specs.Instrs.{len, flat, find, leads}
use Rattle.code_valid.proofs.ReadingLaws.{decode_none}
use Rattle.code_shorten.specs.Short.{reached}
use Rattle.code_shorten.specs.Longer.{total, flat_length}
use Rattle.code_shorten.specs.Reads.{fetched}
use Rattle.code_shorten.specs.Sound.{Begin, All, Sound, dec_eq, len_pos}
use Rattle.code_shorten.specs.Closes.{In}
use Rattle.code_shorten.specs.Reaches.{reached_zero, reached_closed, leads_begin}
use Rattle.code_shorten.specs.Marking.{raise, marked_at, new_at, marks_at, news_at}
use Rattle.code_shorten.proofs.PlaceLaws.{find_inside, next_place, decode_same}
use Rattle.code_mark.proofs.MarkLaws.{mark_old, mark_new, elem_other, elem_here, or_true, or_left, or_right}
use Rattle.code_copying.specs.Marking.{plain, leads_at, Inked, Grown, Rounded, Reached, Started}

-- Where a marked instruction leads.
module _ (C : List ℕ) (p : ℕ) where
  pub leads_low : get_or C p 0 < raise → leads_at C p ≡ []
  unfolding leads_at
  leads_low h = rw (lt-ltb (get_or C p 0) raise h)

  pub leads_by : raise ≤ get_or C p 0 → (k : ℕ) → get_or C p 0 - raise ≡ k → leads_at C p ≡ leads p (decode k (get_or C (p + 1) 0) (get_or C (p + 2) 0) (get_or C (p + 3) 0))
  unfolding leads_at
  leads_by h k e =
      rw (le-ltb (get_or C p 0) raise h) (ap (λ x. leads p (decode x (get_or C (p + 1) 0) (get_or C (p + 2) 0) (get_or C (p + 3) 0))) e)

  pub leads_not : raise ≤ get_or C p 0 → (k : ℕ) → get_or C p 0 - raise ≡ k → k ≢ op.List → k ≢ op.Leave → k ≢ op.Ask → k ≢ op.Select → k ≢ op.Open → k ≢ op.Case → leads_at C p ≡ []
  leads_not h k e a b c d f g = leads_by h k e ∙ go (get_or C (p + 1) 0) (get_or C (p + 2) 0) (get_or C (p + 3) 0) (eqb k op.End)
    where
      last : (x y z : ℕ) (t : Bool) → leads p (pick t (END x) NONE) ≡ []
      last x y z true = refl
      last x y z false = refl

      go : (x y z : ℕ) (t : Bool) → leads p (decode k x y z) ≡ []
      go x y z t =
          rw (ne_eqb k op.List a, ne_eqb k op.Leave b, ne_eqb k op.Ask c, ne_eqb k op.Select d, ne_eqb k op.Open f, ne_eqb k op.Case g) (last x y z (eqb k op.End))

pub plain_low : (x : ℕ) → x < raise → plain x ≡ x
plain_low x h = rw (lt-ltb x raise h)

pub plain_high : (x : ℕ) → raise ≤ x → plain x ≡ x - raise
plain_high x h = rw (le-ltb x raise h)

module _ (is : List Instr) (s : Sound is) where
  abbrev F : List ℕ
  F = flat is

  module _ (p : ℕ) (b : Begin is p) where
    fetch_is : fetch F p ≡ find is 0 p
    fetch_is = fetched is p b

    pub place_in : p < length F
    place_in = inside F p (ap is_none fetch_is ∙ b)

    pub first_low : get_or F p 0 < raise
    unfolding fetch
    first_low = go (dec_lt 7 (get_or F p 0))
      where
        go : Dec (7 < get_or F p 0) → get_or F p 0 < raise
        go (no h) = omega arith
        go (yes h) = absurd (true≢false (sym (ap is_none (decode_none (get_or F p 0) (get_or F (suc p) 0) (get_or F (suc (suc p)) 0) (get_or F (suc (suc (suc p))) 0) h)) ∙ ap is_none fetch_is ∙ b))

    module _ (S C : List ℕ) (k : Inked is S C) where
      pub mark_is : (c : Bool) → elem p S ≡ c → get_or C p 0 ≡ get_or F p 0 + pick c raise 0
      mark_is c e = k.each p ∙ ap (λ x. get_or F p 0 + pick x raise 0) e

      operand : (n : ℕ) → 0 < n → n < len (find is 0 p) → get_or C (p + n) 0 ≡ get_or F (p + n) 0
      operand n l m = go (elem (p + n) S) refl
        where
          go : (c : Bool) → elem (p + n) S ≡ c → get_or C (p + n) 0 ≡ get_or F (p + n) 0
          go true e = absurd (find_inside is 0 p n s.some b l m (k.begun (p + n) e))
          go false e = k.each (p + n) ∙ ap (λ x. get_or F (p + n) 0 + pick x raise 0) e ∙ (let z : get_or F (p + n) 0 + 0 ≡ get_or F (p + n) 0 = omega arith in z)

      bare : decode (get_or F p 0) (get_or C (p + 1) 0) (get_or C (p + 2) 0) (get_or C (p + 3) 0) ≡ find is 0 p
      unfolding fetch
      bare =
          let one : p + 1 ≡ suc p = omega arith in
          let two : p + 2 ≡ suc (suc p) = omega arith in
          let three : p + 3 ≡ suc (suc (suc p)) = omega arith in
          decode_same (get_or F p 0) (get_or F (suc p) 0) (get_or F (suc (suc p)) 0) (get_or F (suc (suc (suc p))) 0) (get_or C (p + 1) 0) (get_or C (p + 2) 0) (get_or C (p + 3) 0)
          (λ m. operand 1 (omega arith) (subst (λ i. 1 < len i) fetch_is m) ∙ ap (λ x. get_or F x 0) one)
          (λ m. operand 2 (omega arith) (subst (λ i. 2 < len i) fetch_is m) ∙ ap (λ x. get_or F x 0) two)
          (λ m. operand 3 (omega arith) (subst (λ i. 3 < len i) fetch_is m) ∙ ap (λ x. get_or F x 0) three)
          ∙ fetch_is

      plain_is : plain (get_or C p 0) ≡ get_or F p 0
      plain_is = go (elem p S) refl
        where
          go : (c : Bool) → elem p S ≡ c → plain (get_or C p 0) ≡ get_or F p 0
          go true e =
              let m : get_or C p 0 ≡ get_or F p 0 + 8 = mark_is true e in
              ap (λ t. pick t (get_or C p 0) (get_or C p 0 - raise)) (le-ltb (get_or C p 0) raise (omega arith)) ∙ (let z : get_or C p 0 - 8 ≡ get_or F p 0 = omega arith in z)
          go false e =
              let m : get_or C p 0 ≡ get_or F p 0 + 0 = mark_is false e in
              ap (λ t. pick t (get_or C p 0) (get_or C p 0 - raise)) (lt-ltb (get_or C p 0) raise (omega (arith, first_low))) ∙ (let z : get_or C p 0 ≡ get_or F p 0 = omega arith in z)

      -- The instruction that its numbers make without the mark.
      pub decoded : decode (plain (get_or C p 0)) (get_or C (p + 1) 0) (get_or C (p + 2) 0) (get_or C (p + 3) 0) ≡ find is 0 p
      decoded = ap (λ x. decode x (get_or C (p + 1) 0) (get_or C (p + 2) 0) (get_or C (p + 3) 0)) plain_is ∙ bare

      -- How many numbers it takes.
      pub size_is : (w : ℕ) → ((x y z : ℕ) → w ≡ len (decode (plain (get_or C p 0)) x y z)) → w ≡ len (find is 0 p)
      size_is w h = h (get_or C (p + 1) 0) (get_or C (p + 2) 0) (get_or C (p + 3) 0) ∙ ap len decoded

      leads_is : leads_at C p ≡ pick (elem p S) (leads p (find is 0 p)) []
      leads_is = go (elem p S) refl
        where
          go : (c : Bool) → elem p S ≡ c → leads_at C p ≡ pick c (leads p (find is 0 p)) []
          go true e =
              let m : get_or C p 0 ≡ get_or F p 0 + 8 = mark_is true e in
              leads_by C p (omega arith) (get_or F p 0) (omega arith) ∙ ap (leads p) bare
          go false e =
              let m : get_or C p 0 ≡ get_or F p 0 + 0 = mark_is false e in
              leads_low C p (omega (arith, first_low))

  -- A mark more.
  record Marked (S C C' ts : List ℕ) (news : Bool) : Type 0 where
    set' : List ℕ
    inked : Inked is set' C'
    more : (o : ℕ) → In S o → In set' o
    holds : All (In set') ts
    still : news ≡ false → set' ≡ S

  mark_one : (S C : List ℕ) (t : ℕ) → Inked is S C → Begin is t → In (reached is) t → Marked S C (marked_at C t) (t ∷ []) (new_at C t)
  mark_one S C t k b r = go (elem t S) refl
    where
      go : (c : Bool) → elem t S ≡ c → Marked S C (marked_at C t) (t ∷ []) (new_at C t)
      go true e =
          let m : get_or C t 0 ≡ get_or F t 0 + 8 = mark_is t b S C k true e in
          let o = mark_old C t (omega arith) in
          record { set' = S; inked = subst (Inked is S) o.1 k; more = λ x h. h; holds = (e, tt); still = λ n. refl }
      go false e =
          let m : get_or C t 0 ≡ get_or F t 0 + 0 = mark_is t b S C k false e in
          let l : t < length C = omega (arith, place_in t b, k.same) in
          let o = mark_new C t l (omega (arith, first_low t b)) in
          record {
            set' = t ∷ S;
            inked = subst (Inked is (t ∷ S)) o.1 ink;
            more = λ x h. or_true (eqb x t) (elem x S) h;
            holds = (elem_here t S, tt);
            still = λ n. absurd (true≢false (o.0 ∙ n));
          }
        where
          case : (P : ℕ → Type 0) → P t → ((x : ℕ) → In S x → P x) → (x : ℕ) → In (t ∷ S) x → P x
          case P z f x h = at (dec_eq x t)
            where
              at : Dec (x ≡ t) → P x
              at (yes q) = subst P (sym q) z
              at (no q) = f x (sym (elem_other x t S q) ∙ h)

          ink : Inked is (t ∷ S) (set C t (get_or C t 0 + raise))
          ink =
              record {
                same = length-set C t (get_or C t 0 + raise) ∙ k.same;
                each = λ x. at x (dec_eq x t);
                begun = case (Begin is) b k.begun;
                within = case (In (reached is)) r k.within;
              }
            where
              at : (x : ℕ) → Dec (x ≡ t) → get_or (set C t (get_or C t 0 + raise)) x 0 ≡ get_or F x 0 + pick (elem x (t ∷ S)) raise 0
              at x (yes q) =
                  let m : get_or C t 0 ≡ get_or F t 0 + 0 = mark_is t b S C k false e in
                  let l : t < length C = omega (arith, place_in t b, k.same) in
                  subst (λ y. get_or (set C t (get_or C t 0 + raise)) y 0 ≡ get_or F y 0 + pick (elem y (t ∷ S)) raise 0) (sym q)
                  (get_or-set_same C t (get_or C t 0 + raise) 0 l ∙ (let z : get_or C t 0 + 8 ≡ get_or F t 0 + 8 = omega arith in z) ∙ ap (λ c. get_or F t 0 + pick c raise 0) (sym (elem_here t S)))
              at x (no q) =
                  get_or-set_other C t x (get_or C t 0 + raise) 0 q ∙ k.each x ∙ ap (λ c. get_or F x 0 + pick c raise 0) (sym (elem_other x t S q))

  mark_all : (S C ts : List ℕ) → Inked is S C → All (Begin is) ts → All (In (reached is)) ts → Marked S C (marks_at C ts) ts (news_at C ts)
  unfolding marks_at news_at
  mark_all S C [] k b r = record { set' = S; inked = k; more = λ x h. h; holds = tt; still = λ n. refl }
  mark_all S C (t ∷ ts) k b r =
      let m : Marked S C (marked_at C t) (t ∷ []) (new_at C t) = mark_one S C t k b.0 r.0 in
      let n : Marked m.set' (marked_at C t) (marks_at (marked_at C t) ts) ts (news_at (marked_at C t) ts) = mark_all m.set' (marked_at C t) ts m.inked b.1 r.1 in
      record {
        set' = n.set';
        inked = n.inked;
        more = λ x h. n.more x (m.more x h);
        holds = (n.more t m.holds.0, n.holds);
        still = λ e. n.still (or_right (new_at C t) (news_at (marked_at C t) ts) e) ∙ m.still (or_left (new_at C t) (news_at (marked_at C t) ts) e);
      }

  -- A round over the code, which stands at p.
  pub record Going (S C : List ℕ) (p : ℕ) (news : Bool) : Type 0 where
    pub grown : Grown is S C
    pub at : Begin is p ⊎ (p ≡ total is)
    pub shut : news ≡ false → (o : ℕ) → o < p → Begin is o → In grown.set o → All (In grown.set) (leads o (find is 0 o))

  pub going_first : (S C : List ℕ) → Inked is S C → Going S C 0 false
  going_first S C k =
      record { grown = record { set = S; inked = k; more = λ o h. h }; at = inl s.start; shut = λ e o l b h. absurd (omega arith) }

  module _ (S C : List ℕ) (p : ℕ) (news : Bool) (g : Going S C p news) where
    at_end : length C ≡ total is
    at_end = g.grown.inked.same ∙ flat_length is

    begins : p < length C → Begin is p
    begins l = go g.at
      where
        go : Begin is p ⊎ (p ≡ total is) → Begin is p
        go (inl b) = b
        go (inr e) = absurd (omega (arith, at_end))

    pub going_size : p < length C → (w : ℕ) → ((x y z : ℕ) → w ≡ len (decode (plain (get_or C p 0)) x y z)) → w ≡ len (find is 0 p)
    going_size l w h = size_is p (begins l) g.grown.set C g.grown.inked w h

    pub going_some : p < length C → len (find is 0 p) ≢ 0
    going_some l z = omega (arith, len_pos (find is 0 p) (begins l), z)

    pub going_next : p < length C → Going S (marks_at C (leads_at C p)) (p + len (find is 0 p)) (news || news_at C (leads_at C p))
    going_next l =
        record {
          grown = record { set = m.set'; inked = m.inked; more = λ o h. m.more o (g.grown.more o h) };
          at = behind (next_place is 0 p s.some b);
          shut = λ e o d c h. closed e o d c h;
        }
      where
        T : List ℕ
        T = g.grown.set

        b : Begin is p
        b = begins l

        is' : leads_at C p ≡ pick (elem p T) (leads p (find is 0 p)) []
        is' = leads_is p b T C g.grown.inked

        all : (P : ℕ → Type 0) → (In T p → All P (leads p (find is 0 p))) → All P (leads_at C p)
        all P f = subst (All P) (sym is') (go (elem p T) refl)
          where
            go : (c : Bool) → elem p T ≡ c → All P (pick c (leads p (find is 0 p)) [])
            go true e = f e
            go false e = tt

        m : Marked T C (marks_at C (leads_at C p)) (leads_at C p) (news_at C (leads_at C p))
        m =
            mark_all T C (leads_at C p) g.grown.inked (all (Begin is) (λ e. leads_begin is s p b))
            (all (In (reached is)) (λ e. reached_closed is s p b (g.grown.inked.within p e)))

        behind : (is_none (find is 0 (p + len (find is 0 p))) ≡ false) ⊎ (p + len (find is 0 p) ≡ 0 + total is) → Begin is (p + len (find is 0 p)) ⊎ (p + len (find is 0 p) ≡ total is)
        behind (inl c) = inl c
        behind (inr e) = inr (omega arith)

        closed : (news || news_at C (leads_at C p)) ≡ false → (o : ℕ) → o < p + len (find is 0 p) → Begin is o → In m.set' o → All (In m.set') (leads o (find is 0 o))
        closed e o d c h = go (dec_lt o p) (dec_eq o p)
          where
            still : m.set' ≡ T
            still = m.still (or_right news (news_at C (leads_at C p)) e)

            go : Dec (o < p) → Dec (o ≡ p) → All (In m.set') (leads o (find is 0 o))
            go (yes i) q =
                subst (λ S'. All (In S') (leads o (find is 0 o))) (sym still)
                (g.shut (or_left news (news_at C (leads_at C p)) e) o i c (subst (λ S'. In S' o) still h))
            go (no i) (yes q) =
                let t : In T p = subst (In T) q (subst (λ S'. In S' o) still h) in
                subst (λ x. All (In m.set') (leads x (find is 0 x))) (sym q)
                (subst (All (In m.set')) (is' ∙ ap (λ x. pick x (leads p (find is 0 p)) []) t) m.holds)
            go (no i) (no q) =
                let k : p + (o - p) ≡ o = omega arith in
                absurd (find_inside is 0 p (o - p) s.some b (not_yet i q) (omega arith) (subst (Begin is) (sym k) c))
              where
                not_yet : (o < p → ⊥) → (o ≡ p → ⊥) → 0 < o - p
                not_yet x y = omega arith

    pub going_end : length C ≤ p → Rounded is S C news
    going_end l = record { grown = g.grown; shut = λ e o b h. g.shut e o (omega (arith, place_in o b, g.grown.inked.same)) b h }

  -- All rounds.
  pub inked_first : Inked is [] F
  inked_first =
      record {
        same = refl;
        each = λ o. (let z : get_or F o 0 ≡ get_or F o 0 + 0 = omega arith in z);
        begun = λ o h. absurd (true≢false (sym h));
        within = λ o h. absurd (true≢false (sym h));
      }

  pub started_first : Started is (marked_at F 0)
  started_first =
      let m : Marked [] F (marked_at F 0) (0 ∷ []) (new_at F 0) = mark_one [] F 0 inked_first s.start (reached_zero is s) in
      record { set = m.set'; inked = m.inked; start = m.holds.0 }

  pub started_next : (C C' : List ℕ) (news : Bool) → (h : Started is C) → Rounded is h.set C' news → Started is C'
  started_next C C' news h r = record { set = r.grown.set; inked = r.grown.inked; start = r.grown.more 0 h.start }

  pub started_end : (C C' : List ℕ) (news : Bool) → (h : Started is C) → Rounded is h.set C' news → news ≡ false → Reached is C'
  started_end C C' news h r e =
      record { set = r.grown.set; inked = r.grown.inked; start = r.grown.more 0 h.start; shut = r.shut e }

-- What the rounds keep: the start is marked, and after a round without news all that is reached.
pub record Marks (is : List Instr) (C : List ℕ) (again : Bool) : Type 0 where
  pub started : Started is C
  pub shut : again ≡ false → Reached is C

pub marks_first : (is : List Instr) (C : List ℕ) → Started is C → Marks is C true
marks_first is C h = record { started = h; shut = λ e. absurd (true≢false e) }

pub marks_next : (is : List Instr) (s : Sound is) (C C' : List ℕ) (news : Bool) → Started is C → ((S : List ℕ) → Inked is S C → Rounded is S C' news) → Marks is C' news
marks_next is s C C' news h r =
    let k : Rounded is h.set C' news = r h.set h.inked in
    record { started = started_next is s C C' news h k; shut = started_end is s C C' news h k }
