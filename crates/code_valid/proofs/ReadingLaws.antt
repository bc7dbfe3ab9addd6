-- Laws of what is read at a place.
use Prim.Native.Nat.{ℕ, zero, suc, ◌+◌, ◌*◌, ◌-◌, ◌/◌, ◌≤◌, ◌<◌}
use Rattle.std.specs.Prelude.{◌≡◌, ◌≢◌, Bool, ◌&&◌, ◌||◌, List, [], ◌∷◌, drop, set, replicate, eqb, Ok, Err}
use Rattle.std.proofs.Math.Path.{refl, ap}
use Rattle.std.proofs.Common.{sym, ◌∙◌, subst, length-drop, drop_of_length-le, get_or-drop, drop-drop, get_or-set_same, get_or-set_other, add-mul, div-mul-le_self}
use Rattle.std.proofs.Math.Bool.{true, false, not}
use Rattle.std.proofs.Math.ListN.{length, get_or}
use Rattle.std.proofs.Math.Seq.{set_out}
use Rattle.std.proofs.Math.Nat.{lt-div-mul-add}
use Rattle.std.proofs.Math.Dec.{leb}
use borrow.Author.Tests.{eq-eqb, ne_eqb, le-leb, lt-leb, leb-true}
use native.Mathlib.Omega.{arith}
use Rattle.std.proofs.Math.Decide.{dec_lt}
use Rattle.route_completion.specs.Sem.{pick}
use Rattle.code_flat.specs.Opcodes as op
use Rattle.code_flat.specs.Machine.{Instr, NONE, LIST, LEAVE, ASK, SELECT, OPEN, END, CASE, decode, fetch}
use Rattle.code_flat.proofs.Runs.{past}
use Rattle.code_flat.specs.Machine.{is_none}
use Rattle.code_valid.specs.Instrs.{len, parse, begins, names, runs_on}
use Rattle.code_valid.specs.Valid.{all_begin, is_last, sound, first_bad, judge, check}
use Rattle.code_valid.specs.Reading.{standing, from, Entry, Table}

-- No other number is an instruction.
pub decode_not : (x a b c : ℕ) → x ≢ op.List → x ≢ op.Leave → x ≢ op.Ask → x ≢ op.Select → x ≢ op.Open → x ≢ op.End → x ≢ op.Case → decode x a b c ≡ NONE
decode_not x a b c h k l m n o p =
    rw (ne_eqb x op.List h, ne_eqb x op.Leave k, ne_eqb x op.Ask l, ne_eqb x op.Select m, ne_eqb x op.Open n, ne_eqb x op.End o, ne_eqb x op.Case p) refl

pub decode_none : (x a b c : ℕ) → 7 < x → decode x a b c ≡ NONE
decode_none x a b c h =
    decode_not x a b c (λ e. omega arith) (λ e. omega arith) (λ e. omega arith) (λ e. omega arith) (λ e. omega arith) (λ e. omega arith) (λ e. omega arith)

pub none_len : (i : Instr) → len i ≡ 0 → i ≡ NONE
none_len NONE h = refl
none_len (LIST n) h = absurd (omega arith)
none_len (LEAVE t d) h = absurd (omega arith)
none_len (ASK n y z) h = absurd (omega arith)
none_len (SELECT n c e) h = absurd (omega arith)
none_len (OPEN f) h = absurd (omega arith)
none_len (END e) h = absurd (omega arith)
none_len (CASE c t d) h = absurd (omega arith)

pub some_len : (i : Instr) → len i ≢ 0 → is_none i ≡ false
some_len NONE h = absurd (h refl)
some_len (LIST n) h = refl
some_len (LEAVE t d) h = refl
some_len (ASK n y z) h = refl
some_len (SELECT n c e) h = refl
some_len (OPEN f) h = refl
some_len (END e) h = refl
some_len (CASE c t d) h = refl

-- The first instruction, and those behind it.
abbrev headed : Instr → List Instr → List Instr
headed i r = i ∷ pick (is_none i) [] r

pub whole : (C : List ℕ) (p : ℕ) (i : Instr) → fetch C p ≡ i → p + len i ≤ length C → standing C p ≡ i
unfolding standing
whole C p i f l = ap (λ j. pick (leb (p + len j) (length C)) j NONE) f ∙ ap (λ b. pick b i NONE) (le-leb (p + len i) (length C) l)

pub cut : (C : List ℕ) (p : ℕ) (i : Instr) → fetch C p ≡ i → length C < p + len i → standing C p ≡ NONE
unfolding standing
cut C p i f l = ap (λ j. pick (leb (p + len j) (length C)) j NONE) f ∙ ap (λ b. pick b i NONE) (lt-leb (p + len i) (length C) l)

none_there : (C : List ℕ) (p : ℕ) → fetch C p ≡ NONE → standing C p ≡ NONE
unfolding standing
none_there C p f = ap (λ j. pick (leb (p + len j) (length C)) j NONE) f ∙ go (leb (p + 0) (length C))
  where
    go : (b : Bool) → pick b NONE NONE ≡ NONE
    go true = refl
    go false = refl

abbrev Head : List ℕ → Type 0
Head D = parse D ≡ headed (standing D 0) (parse (drop (len (standing D 0)) D))

some : (D : List ℕ) (i : Instr) → is_none i ≡ false → fetch D 0 ≡ i → len i ≤ length D → parse D ≡ i ∷ parse (drop (len i) D) → Head D
some D i n f l e =
    e ∙ ap (λ b. i ∷ pick b [] (parse (drop (len i) D))) (sym n) ∙ ap (λ j. headed j (parse (drop (len j) D))) (sym (whole D 0 i f (omega arith)))

nothing : (D : List ℕ) → standing D 0 ≡ NONE → parse D ≡ NONE ∷ [] → Head D
nothing D s e = e ∙ ap (λ j. headed j (parse (drop (len j) D))) (sym s)

head : (D : List ℕ) → 0 < length D → Head D
unfolding parse fetch
head [] h = absurd (omega arith)
head (zero ∷ C) h = nothing (zero ∷ C) (none_there (zero ∷ C) 0 refl) refl
head (suc zero ∷ []) h = nothing (1 ∷ []) (cut (1 ∷ []) 0 (LIST 0) refl (omega arith)) refl
head (suc zero ∷ n ∷ C) h = some (1 ∷ n ∷ C) (LIST n) refl refl (omega arith) refl
head (suc (suc zero) ∷ []) h = nothing (2 ∷ []) (cut (2 ∷ []) 0 (LEAVE 0 0) refl (omega arith)) refl
head (suc (suc zero) ∷ t ∷ []) h = nothing (2 ∷ t ∷ []) (cut (2 ∷ t ∷ []) 0 (LEAVE t 0) refl (omega arith)) refl
head (suc (suc zero) ∷ t ∷ d ∷ C) h = some (2 ∷ t ∷ d ∷ C) (LEAVE t d) refl refl (omega arith) refl
head (suc (suc (suc zero)) ∷ []) h = nothing (3 ∷ []) (cut (3 ∷ []) 0 (ASK 0 0 0) refl (omega arith)) refl
head (suc (suc (suc zero)) ∷ n ∷ []) h = nothing (3 ∷ n ∷ []) (cut (3 ∷ n ∷ []) 0 (ASK n 0 0) refl (omega arith)) refl
head (suc (suc (suc zero)) ∷ n ∷ y ∷ []) h = nothing (3 ∷ n ∷ y ∷ []) (cut (3 ∷ n ∷ y ∷ []) 0 (ASK n y 0) refl (omega arith)) refl
head (suc (suc (suc zero)) ∷ n ∷ y ∷ z ∷ C) h = some (3 ∷ n ∷ y ∷ z ∷ C) (ASK n y z) refl refl (omega arith) refl
head (suc (suc (suc (suc zero))) ∷ []) h = nothing (4 ∷ []) (cut (4 ∷ []) 0 (SELECT 0 0 0) refl (omega arith)) refl
head (suc (suc (suc (suc zero))) ∷ n ∷ []) h = nothing (4 ∷ n ∷ []) (cut (4 ∷ n ∷ []) 0 (SELECT n 0 0) refl (omega arith)) refl
head (suc (suc (suc (suc zero))) ∷ n ∷ c ∷ []) h = nothing (4 ∷ n ∷ c ∷ []) (cut (4 ∷ n ∷ c ∷ []) 0 (SELECT n c 0) refl (omega arith)) refl
head (suc (suc (suc (suc zero))) ∷ n ∷ c ∷ e ∷ C) h = some (4 ∷ n ∷ c ∷ e ∷ C) (SELECT n c e) refl refl (omega arith) refl
head (suc (suc (suc (suc (suc zero)))) ∷ []) h = nothing (5 ∷ []) (cut (5 ∷ []) 0 (OPEN 0) refl (omega arith)) refl
head (suc (suc (suc (suc (suc zero)))) ∷ f ∷ C) h = some (5 ∷ f ∷ C) (OPEN f) refl refl (omega arith) refl
head (suc (suc (suc (suc (suc (suc zero))))) ∷ []) h = nothing (6 ∷ []) (cut (6 ∷ []) 0 (END 0) refl (omega arith)) refl
head (suc (suc (suc (suc (suc (suc zero))))) ∷ e ∷ C) h = some (6 ∷ e ∷ C) (END e) refl refl (omega arith) refl
head (suc (suc (suc (suc (suc (suc (suc zero)))))) ∷ []) h = nothing (7 ∷ []) (cut (7 ∷ []) 0 (CASE 0 0 0) refl (omega arith)) refl
head (suc (suc (suc (suc (suc (suc (suc zero)))))) ∷ c ∷ []) h = nothing (7 ∷ c ∷ []) (cut (7 ∷ c ∷ []) 0 (CASE c 0 0) refl (omega arith)) refl
head (suc (suc (suc (suc (suc (suc (suc zero)))))) ∷ c ∷ t ∷ []) h = nothing (7 ∷ c ∷ t ∷ []) (cut (7 ∷ c ∷ t ∷ []) 0 (CASE c t 0) refl (omega arith)) refl
head (suc (suc (suc (suc (suc (suc (suc zero)))))) ∷ c ∷ t ∷ d ∷ C) h = some (7 ∷ c ∷ t ∷ d ∷ C) (CASE c t d) refl refl (omega arith) refl
head (suc (suc (suc (suc (suc (suc (suc (suc k))))))) ∷ C) h =
    nothing (suc (suc (suc (suc (suc (suc (suc (suc k))))))) ∷ C)
    (none_there (suc (suc (suc (suc (suc (suc (suc (suc k))))))) ∷ C) 0 (decode_none (suc (suc (suc (suc (suc (suc (suc (suc k)))))))) (get_or C 0 0) (get_or C 1 0) (get_or C 2 0) (omega arith))) refl

-- At a place of a longer list.
module _ (C : List ℕ) (p : ℕ) where
  fetch_from : fetch (drop p C) 0 ≡ fetch C p
  unfolding fetch
  fetch_from =
      let z : p + 0 ≡ p = omega arith in
      let one : p + 1 ≡ suc p = omega arith in
      let two : p + 2 ≡ suc (suc p) = omega arith in
      let three : p + 3 ≡ suc (suc (suc p)) = omega arith in
      λ j. decode ((get_or-drop p C 0 0 ∙ ap (λ k. get_or C k 0) z) j) ((get_or-drop p C 1 0 ∙ ap (λ k. get_or C k 0) one) j)
      ((get_or-drop p C 2 0 ∙ ap (λ k. get_or C k 0) two) j) ((get_or-drop p C 3 0 ∙ ap (λ k. get_or C k 0) three) j)

  standing_from : p < length C → standing (drop p C) 0 ≡ standing C p
  standing_from h = go (dec_lt (length C) (p + len (fetch C p)))
    where
      go : Dec (length C < p + len (fetch C p)) → standing (drop p C) 0 ≡ standing C p
      go (yes l) =
          cut (drop p C) 0 (fetch C p) fetch_from (omega (arith, length-drop p C)) ∙ sym (cut C p (fetch C p) refl l)
      go (no l) =
          whole (drop p C) 0 (fetch C p) fetch_from (omega (arith, length-drop p C)) ∙ sym (whole C p (fetch C p) refl (omega arith))

  -- The instructions from p on: the one at p, and if it is one those behind it.
  pub from_at : p < length C → from C p ≡ headed (standing C p) (from C (p + len (standing C p)))
  from_at h =
      head (drop p C) (omega (arith, length-drop p C))
      ∙ ap (λ i. headed i (parse (drop (len i) (drop p C)))) (standing_from h)
      ∙ ap (λ l. headed (standing C p) (parse l)) (drop-drop (len (standing C p)) p C)

  pub from_end : length C ≤ p → from C p ≡ []
  unfolding parse
  from_end h = ap parse (drop_of_length-le C h)

  pub standing_past : length C ≤ p → standing C p ≡ NONE
  standing_past h = none_there C p (past C p h)

  pub standing_in : len (standing C p) ≢ 0 → p < length C
  standing_in h = go (dec_lt p (length C))
    where
      go : Dec (p < length C) → p < length C
      go (yes l) = l
      go (no l) = absurd (h (ap len (standing_past (omega arith))))

  pub standing_fits : len (standing C p) ≤ length C - p
  unfolding standing
  standing_fits = go (leb (p + len (fetch C p)) (length C)) refl
    where
      go : (b : Bool) → leb (p + len (fetch C p)) (length C) ≡ b → len (pick b (fetch C p) NONE) ≤ length C - p
      go true e = let l : p + len (fetch C p) ≤ length C = leb-true (p + len (fetch C p)) (length C) e in omega arith
      go false e = omega arith

  -- What stands whole is what the machine fetches.
  pub standing_fetch : len (standing C p) ≢ 0 → standing C p ≡ fetch C p
  unfolding standing
  standing_fetch h = go (leb (p + len (fetch C p)) (length C)) h
    where
      go : (b : Bool) → len (pick b (fetch C p) NONE) ≢ 0 → pick b (fetch C p) NONE ≡ fetch C p
      go true n = refl
      go false n = absurd (n refl)

  -- By its first number alone.
  module _ (w : ℕ) (h : (a b c : ℕ) → w ≡ len (decode (get_or C p 0) a b c)) where
    width_is : w ≡ len (fetch C p)
    unfolding fetch
    width_is = h (get_or C (suc p) 0) (get_or C (suc (suc p)) 0) (get_or C (suc (suc (suc p))) 0)

    pub size_fits : p < length C → w ≤ length C - p → w ≡ len (standing C p)
    size_fits i l = width_is ∙ ap len (sym (whole C p (fetch C p) refl (omega (arith, width_is))))

    pub size_cut : length C - p < w → 0 ≡ len (standing C p)
    size_cut l = ap len (sym (cut C p (fetch C p) refl (omega (arith, width_is))))

-- A search for the instruction that begins at o.
begins_past : (is : List Instr) (p o : ℕ) → o < p → begins is p o ≡ false
unfolding begins
begins_past [] p o h = refl
begins_past (i ∷ is) p o h =
    ap (λ b. (b && not (is_none i)) || begins is (p + len i) o) (ne_eqb p o (λ e. omega arith)) ∙ begins_past is (p + len i) o (omega arith)

or_true : (b : Bool) → (true || b) ≡ true
or_true b = refl

module _ (C : List ℕ) (p o : ℕ) where
  pub search_past : o < p → begins (from C p) p o ≡ false
  search_past h = begins_past (from C p) p o h

  -- None stands at p.
  pub search_none : len (standing C p) ≡ 0 → begins (from C p) p o ≡ false
  unfolding begins
  search_none z = go (dec_lt p (length C))
    where
      no' : (b : Bool) → ((b && false) || false) ≡ false
      no' true = refl
      no' false = refl

      go : Dec (p < length C) → begins (from C p) p o ≡ false
      go (yes l) =
          ap (λ is. begins is p o) (from_at C p l ∙ ap (λ i. headed i (from C (p + len (standing C p)))) (none_len (standing C p) z)) ∙ no' (eqb p o)
      go (no l) = ap (λ is. begins is p o) (from_end C p (omega arith))

  -- One stands at p.
  module _ (s : len (standing C p) ≢ 0) where
    parted : from C p ≡ standing C p ∷ from C (p + len (standing C p))
    parted = from_at C p (standing_in C p s) ∙ ap (λ b. standing C p ∷ pick b [] (from C (p + len (standing C p)))) (some_len (standing C p) s)

    pub search_here : p ≡ o → begins (from C p) p o ≡ true
    unfolding begins
    search_here e =
        ap (λ is. begins is p o) parted
        ∙ ap (λ b. (b && not (is_none (standing C p))) || begins (from C (p + len (standing C p))) (p + len (standing C p)) o) (eq-eqb p o e)
        ∙ ap (λ b. not b || begins (from C (p + len (standing C p))) (p + len (standing C p)) o) (some_len (standing C p) s)

    pub search_on : p < o → begins (from C p) p o ≡ begins (from C (p + len (standing C p))) (p + len (standing C p)) o
    unfolding begins
    search_on l =
        ap (λ is. begins is p o) parted
        ∙ ap (λ b. (b && not (is_none (standing C p))) || begins (from C (p + len (standing C p))) (p + len (standing C p)) o) (ne_eqb p o (λ e. omega arith))

-- The table.
pub entry_first : (C : List ℕ) → Entry C 0
entry_first C o h = refl

pub entry_next : (C : List ℕ) (p : ℕ) → Entry C p → len (standing C p) ≢ 0 → Entry C (p + len (standing C p))
entry_next C p e s o h =
    let n : p < o = go (len (standing C p)) s h in
    sym (search_on C p o s n) ∙ e o (omega arith)
  where
    go : (w : ℕ) → w ≢ 0 → p + w ≤ o → p < o
    go zero z l = absurd (z refl)
    go (suc w) z l = omega arith

pub table_first : (C table : List ℕ) (stride : ℕ) → 0 < stride → ((k : ℕ) → get_or table k 0 ≡ 0) → Table C table stride
table_first C table stride h z =
    record {
      positive = h;
      low = λ k. subst (λ x. x ≤ k * stride) (sym (z k)) (omega arith);
      entry = λ k. subst (Entry C) (sym (z k)) (entry_first C);
    }

table_set : (C table : List ℕ) (stride p k : ℕ) → Table C table stride → Entry C p → p ≤ k * stride → k < length table → Table C (set table k p) stride
table_set C table stride p k t e l i =
    record {
      positive = t.positive;
      low = λ j. at (λ x. x ≤ j * stride) j (λ q. subst (λ m. p ≤ m * stride) (sym q) l) (t.low j);
      entry = λ j. at (Entry C) j (λ q. e) (t.entry j);
    }
  where
    at : (P : ℕ → Type 0) (j : ℕ) → (j ≡ k → P p) → P (get_or table j 0) → P (get_or (set table k p) j 0)
    at P j f g = go (dec_lt j k) (dec_lt k j)
      where
        other : j ≢ k → P (get_or (set table k p) j 0)
        other n = subst P (sym (get_or-set_other table k j p 0 n)) g

        go : Dec (j < k) → Dec (k < j) → P (get_or (set table k p) j 0)
        go (yes a) b = other (λ q. omega arith)
        go (no a) (yes b) = other (λ q. omega arith)
        go (no a) (no b) =
            let q : j ≡ k = omega arith in
            subst (λ m. P (get_or (set table k p) m 0)) (sym q) (subst P (sym (get_or-set_same table k p 0 i)) (f q))

pub table_more : (C table : List ℕ) (stride p : ℕ) → Table C table stride → Entry C p → Table C (set table (p / stride + 1) p) stride
table_more C table stride p t e = in_range (dec_lt k (length table))
  where
    k : ℕ
    k = p / stride + 1

    l : p ≤ k * stride
    l = let u : p < p / stride * stride + stride = lt-div-mul-add t.positive in let v : k * stride ≡ p / stride * stride + stride = add-mul (p / stride) 1 stride ∙ (let w : 1 * stride ≡ stride = omega arith in ap (λ x. p / stride * stride + x) w) in omega arith

    in_range : Dec (k < length table) → Table C (set table k p) stride
    in_range (no i) = subst (λ m. Table C m stride) (sym (set_out table k p (omega arith))) t
    in_range (yes i) = table_set C table stride p k t e l i

-- What the first number says.
module _ (x a b c : ℕ) where
  pub names_not : x ≢ op.Leave → x ≢ op.Ask → x ≢ op.Select → x ≢ op.Open → x ≢ op.Case → names (decode x a b c) ≡ []
  names_not h k l m n =
      rw (ne_eqb x op.Leave h, ne_eqb x op.Ask k, ne_eqb x op.Select l, ne_eqb x op.Open m, ne_eqb x op.Case n) (go (eqb x op.List) (eqb x op.End))
    where
      go : (p q : Bool) → names (pick p (LIST a) (pick q (END a) NONE)) ≡ []
      go true q = refl
      go false true = refl
      go false false = refl

  pub runs_on_not : x ≢ op.List → x ≢ op.Open → runs_on (decode x a b c) ≡ false
  runs_on_not h k = rw (ne_eqb x op.List h, ne_eqb x op.Open k) (go (eqb x op.Leave) (eqb x op.Ask) (eqb x op.Select) (eqb x op.End) (eqb x op.Case))
    where
      go : (p q r s t : Bool) → runs_on (pick p (LEAVE a b) (pick q (ASK a b c) (pick r (SELECT a b c) (pick s (END a) (pick t (CASE a b c) NONE))))) ≡ false
      go true q r s t = refl
      go false true r s t = refl
      go false false true s t = refl
      go false false false true t = refl
      go false false false false true = refl
      go false false false false false = refl

and_true : (b : Bool) → (b && true) ≡ b
and_true true = refl
and_true false = refl

-- The instruction at p.
module _ (C : List ℕ) (p : ℕ) (s : len (standing C p) ≢ 0) where
  decoded : (x : ℕ) → get_or C p 0 ≡ x → standing C p ≡ decode x (get_or C (p + 1) 0) (get_or C (p + 2) 0) (get_or C (p + 3) 0)
  unfolding fetch
  decoded x e =
      let one : suc p ≡ p + 1 = omega arith in
      let two : suc (suc p) ≡ p + 2 = omega arith in
      let three : suc (suc (suc p)) ≡ p + 3 = omega arith in
      standing_fetch C p s ∙ (λ j. decode (e j) (get_or C (one j) 0) (get_or C (two j) 0) (get_or C (three j) 0))

  pub stands_in : (x : ℕ) → get_or C p 0 ≡ x → p + len (decode x (get_or C (p + 1) 0) (get_or C (p + 2) 0) (get_or C (p + 3) 0)) ≤ length C
  stands_in x e = let d = ap len (decoded x e) in let i = standing_in C p s in let f = standing_fits C p in omega (arith, d, i, f)

  pub names_one : (x o : ℕ) → get_or C p 0 ≡ x → names (decode x (get_or C (p + 1) 0) (get_or C (p + 2) 0) (get_or C (p + 3) 0)) ≡ o ∷ []
      → all_begin (parse C) (names (standing C p)) ≡ begins (parse C) 0 o
  unfolding all_begin
  names_one x o e n = ap (λ i. all_begin (parse C) (names i)) (decoded x e) ∙ ap (all_begin (parse C)) n ∙ and_true (begins (parse C) 0 o)

  pub names_two : (x o q : ℕ) → get_or C p 0 ≡ x → names (decode x (get_or C (p + 1) 0) (get_or C (p + 2) 0) (get_or C (p + 3) 0)) ≡ o ∷ q ∷ []
      → all_begin (parse C) (names (standing C p)) ≡ (begins (parse C) 0 o && begins (parse C) 0 q)
  unfolding all_begin
  names_two x o q e n =
      ap (λ i. all_begin (parse C) (names i)) (decoded x e) ∙ ap (all_begin (parse C)) n ∙ ap (λ b. begins (parse C) 0 o && b) (and_true (begins (parse C) 0 q))

  pub names_none : get_or C p 0 ≢ op.Leave → get_or C p 0 ≢ op.Ask → get_or C p 0 ≢ op.Select → get_or C p 0 ≢ op.Open → get_or C p 0 ≢ op.Case
      → all_begin (parse C) (names (standing C p)) ≡ true
  unfolding all_begin
  names_none h k l m n =
      ap (λ i. all_begin (parse C) (names i)) (decoded (get_or C p 0) refl)
      ∙ ap (all_begin (parse C)) (names_not (get_or C p 0) (get_or C (p + 1) 0) (get_or C (p + 2) 0) (get_or C (p + 3) 0) h k l m n)

  -- It is sound or not.
  abbrev behind : List Instr
  behind = from C (p + len (standing C p))

  begun : (b : Bool) → all_begin (parse C) (names (standing C p)) ≡ b → sound (parse C) (standing C p) behind ≡ (b && not (runs_on (standing C p) && is_last behind))
  begun b e =
      ap (λ n. not n && (all_begin (parse C) (names (standing C p)) && not (runs_on (standing C p) && is_last behind))) (some_len (standing C p) s)
      ∙ ap (λ t. t && not (runs_on (standing C p) && is_last behind)) e

  pub sound_not : all_begin (parse C) (names (standing C p)) ≡ false → sound (parse C) (standing C p) behind ≡ false
  sound_not e = begun false e

  pub sound_inside : all_begin (parse C) (names (standing C p)) ≡ true → len (standing C p) < length C - p → sound (parse C) (standing C p) behind ≡ true
  sound_inside e l =
      begun true e
      ∙ ap (λ is. not (runs_on (standing C p) && is_last is)) (from_at C (p + len (standing C p)) (omega arith))
      ∙ go (runs_on (standing C p))
    where
      go : (b : Bool) → not (b && false) ≡ true
      go true = refl
      go false = refl

  pub sound_last : all_begin (parse C) (names (standing C p)) ≡ true → length C - p ≤ len (standing C p) → (r : Bool)
      → ((a b c : ℕ) → r ≡ runs_on (decode (get_or C p 0) a b c)) → sound (parse C) (standing C p) behind ≡ not r
  sound_last e l r h =
      begun true e
      ∙ ap (λ is. not (runs_on (standing C p) && is_last is)) (from_end C (p + len (standing C p)) (omega arith))
      ∙ ap not (and_true (runs_on (standing C p)))
      ∙ ap not (ap runs_on (decoded (get_or C p 0) refl) ∙ sym (h (get_or C (p + 1) 0) (get_or C (p + 2) 0) (get_or C (p + 3) 0)))

-- The search for the first that is unsound.
module _ (C : List ℕ) (all : List Instr) (p : ℕ) where
  pub bad_end : length C ≤ p → first_bad all (from C p) p ≡ Ok tt
  unfolding first_bad
  bad_end h = ap (λ is. first_bad all is p) (from_end C p h)

  pub bad_none : p < length C → len (standing C p) ≡ 0 → first_bad all (from C p) p ≡ Err p
  unfolding first_bad
  bad_none l z = ap (λ is. first_bad all is p) (from_at C p l ∙ ap (λ i. headed i (from C (p + len (standing C p)))) (none_len (standing C p) z))

  module _ (s : len (standing C p) ≢ 0) where
    pub bad_here : sound all (standing C p) (from C (p + len (standing C p))) ≡ false → first_bad all (from C p) p ≡ Err p
    unfolding first_bad
    bad_here h =
        ap (λ is. first_bad all is p) (parted C p p s)
        ∙ ap (λ b. pick b (first_bad all (from C (p + len (standing C p))) (p + len (standing C p))) (Err p)) h

    pub bad_on : sound all (standing C p) (from C (p + len (standing C p))) ≡ true
        → first_bad all (from C p) p ≡ first_bad all (from C (p + len (standing C p))) (p + len (standing C p))
    unfolding first_bad
    bad_on h =
        ap (λ is. first_bad all is p) (parted C p p s)
        ∙ ap (λ b. pick b (first_bad all (from C (p + len (standing C p))) (p + len (standing C p))) (Err p)) h

-- The verdict on a list that isn't empty.
pub check_some : (C : List ℕ) → 0 < length C → check C ≡ first_bad (parse C) (parse C) 0
unfolding check
check_some C h = ap judge (from_at C 0 h) ∙ ap (λ is. first_bad is is 0) (sym (from_at C 0 h))

-- By how many numbers it takes.
pub search_at : (C : List ℕ) (p o r : ℕ) → r ≡ len (standing C p) → p ≡ o → not (eqb r 0) ≡ begins (from C p) p o
search_at C p o r e q = go (dec_eq r)
  where
    dec_eq : (x : ℕ) → Dec (x ≡ 0)
    dec_eq zero = yes refl
    dec_eq (suc x) = no (λ z. omega arith)

    go : Dec (r ≡ 0) → not (eqb r 0) ≡ begins (from C p) p o
    go (yes z) = ap not (eq-eqb r 0 z) ∙ sym (search_none C p o (sym e ∙ z))
    go (no z) = ap not (ne_eqb r 0 z) ∙ sym (search_here C p o (λ w. z (e ∙ w)) q)

-- Where a search of the table's begins.
pub table_at : (C table : List ℕ) (stride o : ℕ) → Table C table stride
    → begins (from C (get_or table (o / stride) 0)) (get_or table (o / stride) 0) o ≡ begins (parse C) 0 o
table_at C table stride o t =
    let u : o / stride * stride ≤ o = div-mul-le_self o stride in
    let v : get_or table (o / stride) 0 ≤ o / stride * stride = t.low (o / stride) in
    t.entry (o / stride) o (omega arith)

pub check_none : (C : List ℕ) → length C ≡ 0 → check C ≡ Err 0
unfolding check parse
check_none [] h = refl
check_none (x ∷ C) h = absurd (omega arith)

-- A table of zeros.
pub zeros : (n k : ℕ) → get_or (replicate {A = ℕ} n 0) k 0 ≡ 0
zeros zero k = refl
zeros (suc n) zero = refl
zeros (suc n) (suc k) = zeros n k
