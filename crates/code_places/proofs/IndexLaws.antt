-- Laws of the index while it is filled.
use Prim.Native.Nat.{ℕ, ◌+◌, ◌-◌, ◌*◌, ◌/◌, ◌≤◌, ◌<◌}
use Rattle.std.specs.Prelude.{◌≡◌, ◌≢◌, ◌⊎◌, length, set, min, ltb}
use Rattle.std.proofs.Math.Path.{sym, ap, subst}
use Rattle.std.proofs.Common.{◌∙◌, inl, inr, add-mul, get_or-set_same, get_or-set_other}
use Rattle.std.proofs.Math.Nat.{div-lt_iff_lt-mul, lt-mul-div-succ, mul-le-mul_left, mul-le-mul_right}
use Rattle.std.proofs.Math.ListN.{get_or, get_or-map}
use Rattle.std.proofs.lemmas.List.{map-set, length-map}
use mathlib.Core.List.{List}
use native.Mathlib.Omega.{arith}
use Rattle.std.proofs.Math.Decide.{dec_lt}
use Rattle.route_completion.specs.Sem.{pick, elem}
use Rattle.code_valid.specs.Instrs.{len, parse, find}
use Rattle.code_valid.specs.Valid.{Valid}
use Rattle.code_shorten.proofs.PlaceLaws.{len_most}
use Rattle.code_shorten.specs.Sound.{Begin, len_pos}
use Rattle.code_pass.specs.Stages.{sent_on, kept_places, kept_to, cycle, Marked, Index}
use Rattle.code_pass.proofs.KeptLaws.{At, begin_apart, kept_low, kept_next, sent_sound, sent_none, sent_begin, at_next, at_begin, begin_fits}
use Rattle.code_mark.specs.Read.{standing_in}
use Rattle.code_places.specs.declared.index.Stride.{Stride}
use Rattle.code_places.specs.Placing.{begins, news, stride_in, stride_for}
use Rattle.code_places.proofs.PlacingLaws.{marked_len, marked_kept}

-- Each place that a target can name stands before the last entry.
covers_all : (strides n stride o : ℕ) → 2 ≤ strides → stride ≡ stride_for strides n → o < n → o < 4294967296 → o / stride < strides - 1
unfolding stride_for
covers_all strides n stride o two e h k =
    let m : ℕ = min n 4294967296 in
    let s : stride ≡ m / (strides - 1) + 4 = e in
    let under : m < (strides - 1) * (m / (strides - 1) + 1) = lt-mul-div-succ m (omega arith) in
    let wide : (strides - 1) * (m / (strides - 1) + 1) ≤ (strides - 1) * stride = mul-le-mul_left (strides - 1) (omega arith) in
    (div-lt_iff_lt-mul {k = stride} {x = o} {y = strides - 1} (omega arith)).1 (omega (arith, under, wide))

-- The index is filled as far as the k-th entry, by a walk that stands at p.
pub record Row (C : List ℕ) (stride j b n : ℕ) : Type 0 where
  pub begun : Begin (sent_on C) b
  pub from : j * stride ≤ b
  pub first : (o : ℕ) → Begin (sent_on C) o → j * stride ≤ o → b ≤ o
  pub new : n ≡ kept_to C b

pub record Filling (C : List ℕ) (strides : ℕ) (begins news : List ℕ) (stride p kept k next : ℕ) : Type 0 where
  pub at : At C p
  pub count : kept ≡ kept_to C p
  pub row : next ≡ k * stride
  pub near : k < strides → p < next + 4
  pub before : k < strides → (o : ℕ) → Begin (sent_on C) o → o < p → o < next
  pub rows : (j : ℕ) → j < k → Row C stride j (get_or begins j 0) (get_or news j 0)

module _ (C f : List ℕ) (v : Valid C) (m : Marked C f) (strides stride : ℕ) (wide : 4 ≤ stride) where
  pub filling_first : (begins news : List ℕ) → Filling C strides begins news stride 0 0 0 0
  filling_first begins news =
      record {
        at = inl (sent_sound C v).start;
        count = sym (kept_low (kept_places C) (sent_on C) 0 0 (omega arith));
        row = omega arith;
        near = λ h. omega arith;
        before = λ h o b l. absurd (omega arith);
        rows = λ j l. absurd (omega arith);
      }

  module _ (begins news : List ℕ) (p kept k next : ℕ) (g : Filling C strides begins news stride p kept k next) where
    pub filling_begin : p < length f → Begin (sent_on C) p
    filling_begin h = at_begin C v p g.at (omega (arith, m.same))

    module _ (h : p < length f) where
      begun : Begin (sent_on C) p
      begun = filling_begin h

      filling_len : len (standing_in f p) ≡ len (find (sent_on C) 0 p)
      filling_len = marked_len C v f m.same p (m.each p) begun

      pub filling_some : len (standing_in f p) ≢ 0
      filling_some z = omega (arith, filling_len, len_pos (find (sent_on C) 0 p) begun)

      module _ (w n : ℕ) (e : w ≡ len (standing_in f p)) (d : n ≡ pick (ltb (get_or f p 0) 8) 0 w) where
        size : w ≡ len (find (sent_on C) 0 p)
        size = e ∙ filling_len

        short : w ≤ 4
        short = omega (arith, size, len_most (find (sent_on C) 0 p))

        at' : At C (p + w)
        at' = subst (λ x. At C (p + x)) (sym size) (at_next C v p begun)

        count' : kept + n ≡ kept_to C (p + w)
        count' =
            let n_is : n ≡ pick (elem p (kept_places C)) (len (find (sent_on C) 0 p)) 0
            = d ∙ marked_kept C v f m.same p (m.each p) begun w ∙ ap (λ x. pick (elem p (kept_places C)) x 0) size in
            omega (arith, g.count, n_is, kept_next (kept_places C) (sent_on C) 0 p (sent_sound C v).some begun, ap (λ x. kept_to C (p + x)) size)

        -- What begins before the next place begins here or before.
        up_to : (o : ℕ) → Begin (sent_on C) o → o < p + w → o ≤ p
        up_to o b l = go (dec_lt p o)
          where
            go : Dec (p < o) → o ≤ p
            go (yes x) = absurd (omega (arith, size, begin_apart (sent_on C) 0 p o (sent_sound C v).some begun b x))
            go (no x) = omega arith

        pub filling_skip : (k < strides → p < next) → Filling C strides begins news stride (p + w) (kept + n) k next
        filling_skip a =
            record {
              at = at';
              count = count';
              row = g.row;
              near = λ l. omega (arith, short, a l);
              before = λ l o b x. omega (arith, up_to o b x, a l);
              rows = g.rows;
            }

        pub filling_set : k < strides → next ≤ p → k < length begins → k < length news
            → Filling C strides (set begins k p) (set news k kept) stride (p + w) (kept + n) (k + 1) (next + stride)
        filling_set l a in_begins in_news =
            record {
              at = at';
              count = count';
              row = let z : (k + 1) * stride ≡ k * stride + stride = add-mul k 1 stride ∙ (let w : 1 * stride ≡ stride = omega arith in ap (λ x. k * stride + x) w) in omega (arith, g.row);
              near = λ x. omega (arith, short, g.near l);
              before = λ x o b y. omega (arith, up_to o b y, g.near l);
              rows = λ j x. go j (dec_lt j k) x;
            }
          where
            here : Row C stride k p kept
            here =
                record {
                  begun = begun;
                  from = omega (arith, g.row);
                  first = λ o b x. go o b x (dec_lt o p);
                  new = g.count;
                }
              where
                go : (o : ℕ) → Begin (sent_on C) o → k * stride ≤ o → Dec (o < p) → p ≤ o
                go o b x (yes y) = absurd (omega (arith, g.row, g.before l o b y))
                go o b x (no y) = omega arith

            go : (j : ℕ) → Dec (j < k) → j < k + 1 → Row C stride j (get_or (set begins k p) j 0) (get_or (set news k kept) j 0)
            go j (yes y) x =
                subst (λ b. Row C stride j b (get_or (set news k kept) j 0)) (sym (get_or-set_other begins k j p 0 (λ q. omega arith)))
                (subst (Row C stride j (get_or begins j 0)) (sym (get_or-set_other news k j kept 0 (λ q. omega arith))) (g.rows j y))
            go j (no y) x =
                let z : k ≡ j = omega arith in
                subst (λ i. Row C stride i (get_or (set begins k p) i 0) (get_or (set news k kept) i 0)) z
                (subst (λ b. Row C stride k b (get_or (set news k kept) k 0)) (sym (get_or-set_same begins k p 0 in_begins))
                (subst (Row C stride k p) (sym (get_or-set_same news k kept 0 in_news)) here))

    -- The walk comes to the end of the code.
    pub filling_last : (end : ℕ) → p ≤ length f → end ≡ length f → (end ≤ p) ⊎ (len (standing_in f p) ≡ 0) → p ≡ length f
    filling_last end l e (inl h) = omega arith
    filling_last end l e (inr z) = go (dec_lt p (length f))
      where
        go : Dec (p < length f) → p ≡ length f
        go (yes h) = absurd (filling_some h z)
        go (no h) = omega arith

    pub filling_end : 2 ≤ strides → length f ≤ p → stride ≡ stride_for strides (length C) → stride < cycle → (b' n' : List ℕ) → length b' ≡ strides → length n' ≡ strides
        → ((j : ℕ) → j < k → get_or b' j 0 ≡ get_or begins j 0) → ((j : ℕ) → j < k → get_or n' j 0 ≡ get_or news j 0)
        → ((j : ℕ) → k ≤ j → j < strides → get_or b' j 0 ≡ p) → ((j : ℕ) → k ≤ j → j < strides → get_or n' j 0 ≡ kept)
        → Index C b' n' stride
    filling_end two h s small b' n' sb sn eb en rb rn =
        record {
          positive = omega arith;
          small = small;
          same = omega arith;
          covers = λ o x y. omega (arith, covers_all strides (length C) stride o two s x y, sb);
          from = λ j x. from' j x (dec_lt j k);
          begun = λ j x. begun' j x (dec_lt j k);
          first = λ j o x b y. first' j o x b y (dec_lt j k);
          new = λ j x. new' j x (dec_lt j k);
        }
      where
        ends : p ≡ length C
        ends = go g.at
          where
            go : At C p → p ≡ length C
            go (inl b) = absurd (omega (arith, begin_fits C v p b, len_pos (find (sent_on C) 0 p) b, m.same))
            go (inr e) = e

        from' : (j : ℕ) → j < length b' → Dec (j < k) → (j * stride ≤ get_or b' j 0) ⊎ (get_or b' j 0 ≡ length C)
        from' j x (yes y) = inl (subst (λ b. j * stride ≤ b) (sym (eb j y)) (g.rows j y).from)
        from' j x (no y) = inr (rb j (omega arith) (omega arith) ∙ ends)

        begun' : (j : ℕ) → j < length b' → Dec (j < k) → Begin (parse C) (get_or b' j 0) ⊎ (get_or b' j 0 ≡ length C)
        begun' j x (yes y) = inl (subst (Begin (parse C)) (sym (eb j y)) (sym (sent_none C v (get_or begins j 0)) ∙ (g.rows j y).begun))
        begun' j x (no y) = inr (rb j (omega arith) (omega arith) ∙ ends)

        first' : (j o : ℕ) → j < length b' → Begin (parse C) o → j * stride ≤ o → Dec (j < k) → get_or b' j 0 ≤ o
        first' j o x b y (yes z) = subst (λ q. q ≤ o) (sym (eb j z)) ((g.rows j z).first o (sent_begin C v o b) y)
        first' j o x b y (no z) =
            absurd (omega (arith, g.before (omega arith) o (sent_begin C v o b) (omega (arith, begin_fits C v o (sent_begin C v o b), len_pos (find (sent_on C) 0 o) (sent_begin C v o b), ends)), g.row, mul-le-mul_right {m = k} {n = j} stride (omega arith)))

        new' : (j : ℕ) → j < length b' → Dec (j < k) → get_or n' j 0 ≡ kept_to C (get_or b' j 0)
        new' j x (yes y) = en j y ∙ (g.rows j y).new ∙ ap (kept_to C) (sym (eb j y))
        new' j x (no y) = rn j (omega arith) (omega arith) ∙ g.count ∙ ap (kept_to C) (sym (rb j (omega arith) (omega arith)))

-- The index, both in one.
pub begin_in : (index : List Stride) (k : ℕ) → get_or (begins index) k 0 ≡ (stride_in index k).begin
begin_in index k = get_or-map (λ s. s.begin) index k (record { begin = 0; new = 0 })

pub new_in : (index : List Stride) (k : ℕ) → get_or (news index) k 0 ≡ (stride_in index k).new
new_in index k = get_or-map (λ s. s.new) index k (record { begin = 0; new = 0 })

module _ (C f : List ℕ) (v : Valid C) (m : Marked C f) (strides stride : ℕ) (wide : 4 ≤ stride) (index : List Stride) (p kept k next : ℕ)
    (g : Filling C strides (begins index) (news index) stride p kept k next) where
  abbrev entry : Stride
  entry = record { begin = p; new = kept }

  pub filling_put : (h : p < length f) (w n : ℕ) → w ≡ len (standing_in f p) → n ≡ pick (ltb (get_or f p 0) 8) 0 w → k < strides → next ≤ p → k < length index
      → Filling C strides (begins (set index k entry)) (news (set index k entry)) stride (p + w) (kept + n) (k + 1) (next + stride)
  filling_put h w n e d l a inside =
      subst (λ b. Filling C strides b (news (set index k entry)) stride (p + w) (kept + n) (k + 1) (next + stride)) (sym (map-set (λ s. s.begin) index k entry))
      (subst (λ c. Filling C strides (set (begins index) k p) c stride (p + w) (kept + n) (k + 1) (next + stride)) (sym (map-set (λ s. s.new) index k entry))
      (filling_set C f v m strides stride wide (begins index) (news index) p kept k next g h w n e d l a (omega (arith, length-map index (λ s. s.begin))) (omega (arith, length-map index (λ s. s.new)))))

  pub filling_rest : 2 ≤ strides → length f ≤ p → stride ≡ stride_for strides (length C) → stride < cycle → (index' : List Stride) → length index' ≡ strides
      → ((j : ℕ) → j < k → stride_in index' j ≡ stride_in index j) → ((j : ℕ) → k ≤ j → j < length index' → stride_in index' j ≡ entry)
      → Index C (begins index') (news index') stride
  filling_rest two h s small index' same before rest =
      filling_end C f v m strides stride wide (begins index) (news index) p kept k next g two h s small (begins index') (news index')
      (length-map index' (λ s. s.begin) ∙ same) (length-map index' (λ s. s.new) ∙ same)
      (λ j x. begin_in index' j ∙ ap (λ s. s.begin) (before j x) ∙ sym (begin_in index j))
      (λ j x. new_in index' j ∙ ap (λ s. s.new) (before j x) ∙ sym (new_in index j))
      (λ j x y. begin_in index' j ∙ ap (λ s. s.begin) (rest j x (omega (arith, same))))
      (λ j x y. new_in index' j ∙ ap (λ s. s.new) (rest j x (omega (arith, same))))
