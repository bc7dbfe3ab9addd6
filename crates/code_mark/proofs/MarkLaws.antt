-- Laws of marks: a round marks only what is reached, and where nothing is new all of it is marked.
use Prim.Native.Nat.{ℕ, zero, suc, ◌+◌, ◌%◌, ◌≤◌, ◌<◌}
use Rattle.std.specs.Prelude.{◌≡◌, ◌≢◌, ◌⊎◌, Bool, ◌&&◌, ◌||◌, length, set, eqb, Option, Some, None}
use Rattle.std.proofs.Math.Path.{refl, sym, ap}
use Rattle.std.proofs.Common.{◌∙◌, subst, inl, inr, true≢false, length-set, get_or-set_same, get_or-set_other}
use Rattle.std.proofs.Math.Bool.{true, false}
use mathlib.Core.List.{List, [], ◌∷◌}
use Rattle.std.proofs.Math.ListN.{get_or}
use Rattle.std.proofs.Math.Seq.{set_out}
use Rattle.std.proofs.Math.Dec.{ltb}
use borrow.Author.Tests.{eq-eqb, ne_eqb, lt-ltb, le-ltb}
use native.Mathlib.Omega.{arith}
use Rattle.std.proofs.Math.Decide.{dec_lt}
use Rattle.route_completion.specs.Sem.{pick, elem}
use Rattle.code_flat.specs.Opcodes as op
use Rattle.code_flat.specs.Machine.{Instr, NONE, LEAVE, END, CASE, decode}
use Rattle.code_valid.specs.Instrs.{len, parse, find, leads}
use Rattle.code_valid.specs.Valid.{Valid}
use Rattle.code_machine.specs.declared.Target.{Target}
use Rattle.code_shorten.specs.Short.{aimed}
use Rattle.code_shorten.specs.Sound.{Begin, All, dec_eq, len_pos}
use Rattle.code_shorten.specs.Closes.{In}
use Rattle.code_shorten.specs.Reaches.{reached_zero, reached_closed, leads_begin}
use Rattle.code_shorten.specs.Stands.{least}
use Rattle.code_shorten.specs.Marking.{raise, marked_at, new_at, marks_at, news_at, low, bit}
use Rattle.code_pass.specs.Stages.{sent_on, kept_places, mark, Marked}
use Rattle.code_mark.specs.Read.{read_at, standing_in, sent_by, rule_in}
use Rattle.code_mark.specs.Marks.{place_or, target_in, leads_in, Inked, Grown, Rounded, Started, Reached}
use Rattle.code_pass.proofs.KeptLaws.{sent_none, sent_sound}
use Rattle.code_mark.proofs.PlaceLaws.{sound, place_in, first_low, next_begin, no_overlap, sent_find}
use Rattle.code_mark.proofs.ReadLaws.{ink_read, ink_standing}
use Rattle.code_mark.proofs.NowLaws.{now_find, sent_is}

-- One mark, as a function sets it.
module _ (C : List ℕ) (t : ℕ) where
  by_low : (b : Bool) → ltb (get_or C t 0) raise ≡ b → marked_at C t ≡ pick b (set C t (get_or C t 0 + raise)) C
  unfolding marked_at
  by_low b e = ap (λ x. pick x (set C t (get_or C t 0 + raise)) C) e

  pub mark_old : raise ≤ get_or C t 0 → (false ≡ new_at C t) × (C ≡ marked_at C t)
  unfolding new_at
  mark_old h =
      let e : ltb (get_or C t 0) raise ≡ false = le-ltb (get_or C t 0) raise h in
      (sym (ap (λ b. ltb t (length C) && b) e ∙ and_false (ltb t (length C))), sym (by_low false e))
    where
      and_false : (b : Bool) → (b && false) ≡ false
      and_false true = refl
      and_false false = refl

  pub mark_out : length C ≤ t → (false ≡ new_at C t) × (C ≡ marked_at C t)
  unfolding new_at
  mark_out h = (sym (ap (λ b. b && ltb (get_or C t 0) raise) (le-ltb t (length C) h)), go (ltb (get_or C t 0) raise) refl)
    where
      go : (b : Bool) → ltb (get_or C t 0) raise ≡ b → C ≡ marked_at C t
      go true e = sym (by_low true e ∙ set_out C t (get_or C t 0 + raise) h)
      go false e = sym (by_low false e)

  pub mark_new : t < length C → get_or C t 0 < raise → (true ≡ new_at C t) × (set C t (get_or C t 0 + raise) ≡ marked_at C t)
  unfolding new_at
  mark_new l h =
      let e : ltb (get_or C t 0) raise ≡ true = lt-ltb (get_or C t 0) raise h in
      (sym (ap (λ b. b && ltb (get_or C t 0) raise) (lt-ltb t (length C) l) ∙ e), sym (by_low true e))

or_false : (b : Bool) → (b || false) ≡ b
or_false true = refl
or_false false = refl

pub news_one : (C : List ℕ) (t : ℕ) → news_at C (t ∷ []) ≡ new_at C t
unfolding news_at
news_one C t = or_false (new_at C t)

pub news_two : (C : List ℕ) (t u : ℕ) → news_at C (t ∷ u ∷ []) ≡ (new_at C t || new_at (marked_at C t) u)
unfolding news_at
news_two C t u = ap (λ b. new_at C t || b) (or_false (new_at (marked_at C t) u))

pub marks_one : (C : List ℕ) (t : ℕ) → marks_at C (t ∷ []) ≡ marked_at C t
unfolding marks_at
marks_one C t = refl

pub marks_two : (C : List ℕ) (t u : ℕ) → marks_at C (t ∷ u ∷ []) ≡ marked_at (marked_at C t) u
unfolding marks_at
marks_two C t u = refl

pub no_marks : (C : List ℕ) → (false ≡ news_at C []) × (C ≡ marks_at C [])
unfolding news_at marks_at
no_marks C = (refl, refl)

-- Where a marked instruction leads.
module _ (f : List ℕ) (p : ℕ) where
  abbrev a : ℕ
  a = get_or f (p + 1) 0

  abbrev b : ℕ
  b = get_or f (p + 2) 0

  abbrev c : ℕ
  c = get_or f (p + 3) 0

  pub leads_low : get_or f p 0 < mark → leads_in f p ≡ []
  unfolding leads_in
  leads_low h = rw (lt-ltb (get_or f p 0) mark h)

  pub leads_by : mark ≤ get_or f p 0 → (k : ℕ) → get_or f p 0 % mark ≡ k → leads_in f p ≡ leads p (sent_by (rule_in f) (decode k a b c))
  unfolding leads_in read_at
  leads_by h k e =
      ap (λ t. pick t [] (leads p (sent_by (rule_in f) (decode (get_or f p 0 % mark) a b c)))) (le-ltb (get_or f p 0) mark h)
      ∙ ap (λ x. leads p (sent_by (rule_in f) (decode x a b c))) e

  pub leads_leave : mark ≤ get_or f p 0 → get_or f p 0 % mark ≡ op.Leave → leads_in f p ≡ target_in f a b ∷ []
  leads_leave h e = leads_by h op.Leave e ∙ go (rule_in f a b)
    where
      go : (x : Option Target) → leads p (aimed x LEAVE (LEAVE a b)) ≡ place_or x a ∷ []
      go None = refl
      go (Some aim) = refl

  pub leads_case : mark ≤ get_or f p 0 → get_or f p 0 % mark ≡ op.Case → leads_in f p ≡ a ∷ target_in f b c ∷ []
  leads_case h e = leads_by h op.Case e ∙ go (rule_in f b c)
    where
      go : (x : Option Target) → leads p (aimed x (CASE a) (CASE a b c)) ≡ a ∷ place_or x b ∷ []
      go None = refl
      go (Some aim) = refl

  pub leads_not : mark ≤ get_or f p 0 → (k : ℕ) → get_or f p 0 % mark ≡ k → k ≢ op.List → k ≢ op.Leave → k ≢ op.Ask → k ≢ op.Select → k ≢ op.Open → k ≢ op.Case → leads_in f p ≡ []
  leads_not h k e l m n o q r = leads_by h k e ∙ go a b c (eqb k op.End)
    where
      last : (x y z : ℕ) (t : Bool) → leads p (sent_by (rule_in f) (pick t (END x) NONE)) ≡ []
      last x y z true = refl
      last x y z false = refl

      go : (x y z : ℕ) (t : Bool) → leads p (sent_by (rule_in f) (decode k x y z)) ≡ []
      go x y z t =
          rw (ne_eqb k op.List l, ne_eqb k op.Leave m, ne_eqb k op.Ask n, ne_eqb k op.Select o, ne_eqb k op.Open q, ne_eqb k op.Case r) (last x y z (eqb k op.End))

-- How many can still be marked.
low_set : (C : List ℕ) (t v : ℕ) → t < length C → get_or C t 0 < raise → raise ≤ v → low (set C t v) + 1 ≡ low C
unfolding low
low_set [] t v l h k = absurd (omega arith)
low_set (x ∷ C) zero v l h k = rw (lt-ltb x raise h, le-ltb v raise k) (omega arith)
low_set (x ∷ C) (suc t) v l h k = omega (arith, low_set C t v (omega arith) h k)

low_mark : (C : List ℕ) (t : ℕ) → low (marked_at C t) + bit (new_at C t) ≤ low C
low_mark C t = go (dec_lt t (length C)) (dec_lt (get_or C t 0) raise)
  where
    stays : (false ≡ new_at C t) × (C ≡ marked_at C t) → low (marked_at C t) + bit (new_at C t) ≤ low C
    stays e = omega (arith, ap low e.1, ap bit e.0)

    go : Dec (t < length C) → Dec (get_or C t 0 < raise) → low (marked_at C t) + bit (new_at C t) ≤ low C
    go (no l) h = stays (mark_out C t (omega arith))
    go (yes l) (no h) = stays (mark_old C t (omega arith))
    go (yes l) (yes h) =
        let e = mark_new C t l h in
        omega (arith, ap low e.1, ap bit e.0, low_set C t (get_or C t 0 + raise) l h (omega arith))

pub low_marks : (C ts : List ℕ) → low (marks_at C ts) + bit (news_at C ts) ≤ low C
unfolding marks_at news_at
low_marks C [] = omega arith
low_marks C (t ∷ ts) =
    let a : low (marked_at C t) + bit (new_at C t) ≤ low C = low_mark C t in
    let b : low (marks_at (marked_at C t) ts) + bit (news_at (marked_at C t) ts) ≤ low (marked_at C t) = low_marks (marked_at C t) ts in
    omega (arith, bits (new_at C t) (news_at (marked_at C t) ts))
  where
    bits : (x y : Bool) → bit (x || y) ≤ bit x + bit y
    bits true y = omega arith
    bits false y = omega arith

pub low_or : (x y : Bool) (l l' l₀ : ℕ) → l + bit x ≤ l₀ → l' + bit y ≤ l → l' + bit (x || y) ≤ l₀
low_or true y l l' l₀ h k = omega arith
low_or false y l l' l₀ h k = omega arith

pub elem_other : (o t : ℕ) (S : List ℕ) → (o ≡ t → ⊥) → elem o (t ∷ S) ≡ elem o S
elem_other o t S h = ap (λ b. b || elem o S) (ne_eqb o t h)

pub elem_here : (t : ℕ) (S : List ℕ) → elem t (t ∷ S) ≡ true
elem_here t S = ap (λ b. b || elem t S) (eq-eqb t t refl)

pub or_true : (x y : Bool) → y ≡ true → (x || y) ≡ true
or_true true y h = refl
or_true false y h = h

pub or_left : (x y : Bool) → (x || y) ≡ false → x ≡ false
or_left true y h = h
or_left false y h = refl

pub or_right : (x y : Bool) → (x || y) ≡ false → y ≡ false
or_right true y h = absurd (true≢false h)
or_right false y h = h

module _ (C : List ℕ) (v : Valid C) where
  abbrev is : List Instr
  is = parse C

  -- What a slice with marks is read as.
  module _ (S f : List ℕ) (k : Inked C S f) where
    inked_read : (o : ℕ) → Begin is o → read_at f o ≡ find is 0 o
    inked_read o b = ink_read C v f S k.begun 0 (λ x l. k.each x) o b (omega arith)

    pub inked_standing : (o : ℕ) → Begin is o → standing_in f o ≡ find is 0 o
    inked_standing o b = ink_standing C v f S k.begun 0 (λ x l. k.each x) k.same o b (omega arith)

    mark_is : (x : ℕ) (c : Bool) → elem x S ≡ c → get_or f x 0 ≡ get_or C x 0 + pick c mark 0
    mark_is x c e = k.each x ∙ ap (λ y. get_or C x 0 + pick y mark 0) e

    -- Its jumps lead to their last targets.
    sent_at : (p : ℕ) → Begin is p → sent_by (rule_in f) (read_at f p) ≡ find (sent_on C) 0 p
    sent_at p b =
        ap (sent_by (rule_in f)) (inked_read p b)
        ∙ sent_is C v 0 f (λ o c. inked_read o c ∙ sym (now_find C v 0 o ∙ ap (λ x. pick x (find (sent_on C) 0 o) (find is 0 o)) (le-ltb o 0 (omega arith)))) k.same (find is 0 p) ((sound C v).named p b)
        ∙ sym (sent_find C v p)

    leads_is : (p : ℕ) → Begin is p → leads_in f p ≡ pick (elem p S) (leads p (find (sent_on C) 0 p)) []
    unfolding leads_in
    leads_is p b = go (elem p S) refl
      where
        go : (c : Bool) → elem p S ≡ c → pick (ltb (get_or f p 0) mark) [] (leads p (sent_by (rule_in f) (read_at f p))) ≡ pick c (leads p (find (sent_on C) 0 p)) []
        go true e =
            let m : get_or f p 0 ≡ get_or C p 0 + 8 = mark_is p true e in
            ap (λ t. pick t [] (leads p (sent_by (rule_in f) (read_at f p)))) (le-ltb (get_or f p 0) mark (omega arith)) ∙ ap (leads p) (sent_at p b)
        go false e =
            let m : get_or f p 0 ≡ get_or C p 0 + 0 = mark_is p false e in
            ap (λ t. pick t [] (leads p (sent_by (rule_in f) (read_at f p)))) (lt-ltb (get_or f p 0) mark (omega (arith, first_low C v p b)))

  -- A mark more.
  record More (S f f' ts : List ℕ) (news : Bool) : Type 0 where
    set' : List ℕ
    inked : Inked C set' f'
    more : (o : ℕ) → In S o → In set' o
    holds : All (In set') ts
    still : news ≡ false → set' ≡ S

  mark_one : (S f : List ℕ) (t : ℕ) → Inked C S f → Begin is t → In (kept_places C) t → More S f (marked_at f t) (t ∷ []) (new_at f t)
  mark_one S f t k b r = go (elem t S) refl
    where
      go : (c : Bool) → elem t S ≡ c → More S f (marked_at f t) (t ∷ []) (new_at f t)
      go true e =
          let m : get_or f t 0 ≡ get_or C t 0 + 8 = mark_is S f k t true e in
          let o = mark_old f t (omega arith) in
          record { set' = S; inked = subst (Inked C S) o.1 k; more = λ x h. h; holds = (e, tt); still = λ n. refl }
      go false e =
          let m : get_or f t 0 ≡ get_or C t 0 + 0 = mark_is S f k t false e in
          let l : t < length f = omega (arith, place_in C v t b, k.same) in
          let o = mark_new f t l (omega (arith, first_low C v t b)) in
          record {
            set' = t ∷ S;
            inked = subst (Inked C (t ∷ S)) o.1 ink;
            more = λ x h. or_true (eqb x t) (elem x S) h;
            holds = (elem_here t S, tt);
            still = λ n. absurd (true≢false (o.0 ∙ n));
          }
        where
          case : (P : ℕ → Type 0) → P t → ((x : ℕ) → In S x → P x) → (x : ℕ) → In (t ∷ S) x → P x
          case P z h x i = at (dec_eq x t)
            where
              at : Dec (x ≡ t) → P x
              at (yes q) = subst P (sym q) z
              at (no q) = h x (sym (elem_other x t S q) ∙ i)

          ink : Inked C (t ∷ S) (set f t (get_or f t 0 + raise))
          ink =
              record {
                same = length-set f t (get_or f t 0 + raise) ∙ k.same;
                each = λ x. at x (dec_eq x t);
                begun = case (Begin is) b k.begun;
                within = case (In (kept_places C)) r k.within;
              }
            where
              at : (x : ℕ) → Dec (x ≡ t) → get_or (set f t (get_or f t 0 + raise)) x 0 ≡ get_or C x 0 + pick (elem x (t ∷ S)) mark 0
              at x (yes q) =
                  let m : get_or f t 0 ≡ get_or C t 0 + 0 = mark_is S f k t false e in
                  let l : t < length f = omega (arith, place_in C v t b, k.same) in
                  subst (λ y. get_or (set f t (get_or f t 0 + raise)) y 0 ≡ get_or C y 0 + pick (elem y (t ∷ S)) mark 0) (sym q)
                  (get_or-set_same f t (get_or f t 0 + raise) 0 l ∙ (let z : get_or f t 0 + 8 ≡ get_or C t 0 + 8 = omega arith in z) ∙ ap (λ c. get_or C t 0 + pick c mark 0) (sym (elem_here t S)))
              at x (no q) =
                  get_or-set_other f t x (get_or f t 0 + raise) 0 q ∙ k.each x ∙ ap (λ c. get_or C x 0 + pick c mark 0) (sym (elem_other x t S q))

  mark_all : (S f ts : List ℕ) → Inked C S f → All (Begin is) ts → All (In (kept_places C)) ts → More S f (marks_at f ts) ts (news_at f ts)
  unfolding marks_at news_at
  mark_all S f [] k b r = record { set' = S; inked = k; more = λ x h. h; holds = tt; still = λ n. refl }
  mark_all S f (t ∷ ts) k b r =
      let m : More S f (marked_at f t) (t ∷ []) (new_at f t) = mark_one S f t k b.0 r.0 in
      let n : More m.set' (marked_at f t) (marks_at (marked_at f t) ts) ts (news_at (marked_at f t) ts) = mark_all m.set' (marked_at f t) ts m.inked b.1 r.1 in
      record {
        set' = n.set';
        inked = n.inked;
        more = λ x h. n.more x (m.more x h);
        holds = (n.more t m.holds.0, n.holds);
        still = λ e. n.still (or_right (new_at f t) (news_at (marked_at f t) ts) e) ∙ m.still (or_left (new_at f t) (news_at (marked_at f t) ts) e);
      }

  -- A round over the code, which stands at p.
  pub record Going (S f : List ℕ) (p : ℕ) (news : Bool) : Type 0 where
    pub grown : Grown C S f
    pub at : Begin is p ⊎ (p ≡ length C)
    pub shut : news ≡ false → (o : ℕ) → o < p → Begin (sent_on C) o → In grown.set o → All (In grown.set) (leads o (find (sent_on C) 0 o))

  pub going_first : (S f : List ℕ) → Inked C S f → Going S f 0 false
  going_first S f k =
      record { grown = record { set = S; inked = k; more = λ o h. h }; at = inl (sound C v).start; shut = λ e o l b h. absurd (omega arith) }

  module _ (S f : List ℕ) (p : ℕ) (news : Bool) (g : Going S f p news) where
    begins : p < length f → Begin is p
    begins l = go g.at
      where
        go : Begin is p ⊎ (p ≡ length C) → Begin is p
        go (inl b) = b
        go (inr e) = absurd (omega (arith, g.grown.inked.same))

    stands : p < length f → standing_in f p ≡ find is 0 p
    stands l = inked_standing g.grown.set f g.grown.inked p (begins l)

    pub going_some : p < length f → len (standing_in f p) ≢ 0
    going_some l z = omega (arith, len_pos (find is 0 p) (begins l), ap len (stands l), z)

    pub going_next : p < length f → Going S (marks_at f (leads_in f p)) (p + len (standing_in f p)) (news || news_at f (leads_in f p))
    going_next l =
        record {
          grown = record { set = m.set'; inked = m.inked; more = λ o h. m.more o (g.grown.more o h) };
          at = subst (λ i. Begin is (p + len i) ⊎ (p + len i ≡ length C)) (sym (stands l)) (next_begin C v p b);
          shut = λ e o d c h. closed e o (subst (λ i. o < p + len i) (stands l) d) c h;
        }
      where
        T : List ℕ
        T = g.grown.set

        b : Begin is p
        b = begins l

        c' : Begin (sent_on C) p
        c' = sent_none C v p ∙ b

        is' : leads_in f p ≡ pick (elem p T) (leads p (find (sent_on C) 0 p)) []
        is' = leads_is T f g.grown.inked p b

        all : (P : ℕ → Type 0) → (In T p → All P (leads p (find (sent_on C) 0 p))) → All P (leads_in f p)
        all P h = subst (All P) (sym is') (go (elem p T) refl)
          where
            go : (c : Bool) → elem p T ≡ c → All P (pick c (leads p (find (sent_on C) 0 p)) [])
            go true e = h e
            go false e = tt

        over : (xs : List ℕ) → All (Begin (sent_on C)) xs → All (Begin is) xs
        over [] h = tt
        over (x ∷ xs) h = (sym (sent_none C v x) ∙ h.0, over xs h.1)

        m : More T f (marks_at f (leads_in f p)) (leads_in f p) (news_at f (leads_in f p))
        m =
            mark_all T f (leads_in f p) g.grown.inked (all (Begin is) (λ e. over (leads p (find (sent_on C) 0 p)) (leads_begin (sent_on C) (sent_sound C v) p c')))
            (all (In (kept_places C)) (λ e. reached_closed (sent_on C) (sent_sound C v) p c' (g.grown.inked.within p e)))

        closed : (news || news_at f (leads_in f p)) ≡ false → (o : ℕ) → o < p + len (find is 0 p) → Begin (sent_on C) o → In m.set' o → All (In m.set') (leads o (find (sent_on C) 0 o))
        closed e o d c h = go (dec_lt o p) (dec_eq o p)
          where
            still : m.set' ≡ T
            still = m.still (or_right news (news_at f (leads_in f p)) e)

            go : Dec (o < p) → Dec (o ≡ p) → All (In m.set') (leads o (find (sent_on C) 0 o))
            go (yes i) q =
                subst (λ S'. All (In S') (leads o (find (sent_on C) 0 o))) (sym still)
                (g.shut (or_left news (news_at f (leads_in f p)) e) o i c (subst (λ S'. In S' o) still h))
            go (no i) (yes q) =
                let t : In T p = subst (In T) q (subst (λ S'. In S' o) still h) in
                subst (λ x. All (In m.set') (leads x (find (sent_on C) 0 x))) (sym q)
                (subst (All (In m.set')) (is' ∙ ap (λ x. pick x (leads p (find (sent_on C) 0 p)) []) t) m.holds)
            go (no i) (no q) =
                let k : p + len (find is 0 p) ≤ o = no_overlap C v p b o (sym (sent_none C v o) ∙ c) (omega arith) in
                absurd (omega arith)

    pub going_end : length f ≤ p → Rounded C S f news
    going_end l =
        record {
          grown = g.grown;
          shut = λ e o b h. g.shut e o (omega (arith, place_in C v o (sym (sent_none C v o) ∙ b), g.grown.inked.same)) b h;
        }

  -- All rounds.
  inked_first : Inked C [] C
  inked_first =
      record {
        same = refl;
        each = λ o. (let z : get_or C o 0 ≡ get_or C o 0 + 0 = omega arith in z);
        begun = λ o h. absurd (true≢false (sym h));
        within = λ o h. absurd (true≢false (sym h));
      }

  pub started_first : Started C (marked_at C 0)
  started_first =
      let m : More [] C (marked_at C 0) (0 ∷ []) (new_at C 0) = mark_one [] C 0 inked_first (sound C v).start (reached_zero (sent_on C) (sent_sound C v)) in
      record { set = m.set'; inked = m.inked; start = m.holds.0 }

  started_next : (f f' : List ℕ) (news : Bool) → (h : Started C f) → Rounded C h.set f' news → Started C f'
  started_next f f' news h r = record { set = r.grown.set; inked = r.grown.inked; start = r.grown.more 0 h.start }

  started_end : (f f' : List ℕ) (news : Bool) → (h : Started C f) → Rounded C h.set f' news → news ≡ false → Reached C f'
  started_end f f' news h r e =
      record { set = r.grown.set; inked = r.grown.inked; start = r.grown.more 0 h.start; shut = r.shut e }

  -- What is marked then has the places of what is kept.
  reached_set : (f : List ℕ) (r : Reached C f) (o : ℕ) → elem o r.set ≡ elem o (kept_places C)
  reached_set f r o = go (elem o r.set) refl (elem o (kept_places C)) refl
    where
      go : (a : Bool) → elem o r.set ≡ a → (b : Bool) → elem o (kept_places C) ≡ b → a ≡ b
      go true p true q = refl
      go true p false q = sym (r.inked.within o p) ∙ q
      go false p true q = sym p ∙ least (sent_on C) (sent_sound C v) (In r.set) r.start r.shut (length (sent_on C)) o q
      go false p false q = refl

  pub reached_end : (f : List ℕ) → Reached C f → Marked C f
  reached_end f r = record { same = r.inked.same; each = λ x. r.inked.each x ∙ ap (λ b. get_or C x 0 + pick b mark 0) (reached_set f r x) }

-- What the rounds keep: the start is marked, and after a round without news all that is reached.
pub record Marks (C f : List ℕ) (again : Bool) : Type 0 where
  pub started : Started C f
  pub shut : again ≡ false → Reached C f

pub marks_next : (C : List ℕ) (v : Valid C) (f f' : List ℕ) (news : Bool) → Started C f → ((S : List ℕ) → Inked C S f → Rounded C S f' news) → Marks C f' news
marks_next C v f f' news h r =
    let k : Rounded C h.set f' news = r h.set h.inked in
    record { started = started_next C v f f' news h k; shut = started_end C v f f' news h k }
