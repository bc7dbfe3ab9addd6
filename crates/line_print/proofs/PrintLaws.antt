-- Digits and lines as they are written.
use Rattle.std.specs.Prelude.{ℕ, zero, suc, ◌+◌, ◌-◌, ◌*◌, ◌/◌, ◌%◌, ◌^◌, ◌≤◌, ◌<◌, ◌≡◌, refl, Bool, true, false, List, [], ◌∷◌, ◌++◌, map, ltb, length, get_or, set, take, drop}
use Rattle.std.proofs.Common.{ap, sym, subst, ◌∙◌, append_assoc, append-nil, arith, pow-suc, mul-suc, length-append, length-take-le, drop_at, lt-ltb, le-ltb, ltb-true, ltb-false, add-one}
use Rattle.std.proofs.lemmas.List.{set_split, take-set-le}
use Rattle.base_common.specs.Wrote.{Wrote, put}
use Rattle.base_common.proofs.WroteLaws.{wrote_put, length_put}
use Rattle.line_digits.proofs.Lists.{drop_step, drop_end}
use Rattle.table_put.proofs.Writes.{put_put, put_end, wrote_done}
use Rattle.line_fields.specs.Split.{joined}
use Rattle.line_print.specs.Print.{spelled, decimal, tails, fields_for, line_of}

spelled_less : (f n : ℕ) → n < 10 → spelled (suc f) n ≡ (48 + n) ∷ []
unfolding spelled
spelled_less f n h = rw (lt-ltb n 10 h)

spelled_more : (f n : ℕ) → 10 ≤ n → spelled (suc f) n ≡ spelled f (n / 10) ++ (48 + n % 10) ∷ []
unfolding spelled
spelled_more f n h = rw (le-ltb n 10 h)

-- any number of steps that is enough gives the same
spelled_enough : (f g n : ℕ) → n < f → n < g → spelled f n ≡ spelled g n
spelled_enough zero g n h k = absurd (omega arith)
spelled_enough (suc f) zero n h k = absurd (omega arith)
spelled_enough (suc f) (suc g) n h k = go (ltb n 10) refl (spelled_enough f g (n / 10))
  where
    go : (t : Bool) → ltb n 10 ≡ t → (n / 10 < f → n / 10 < g → spelled f (n / 10) ≡ spelled g (n / 10)) → spelled (suc f) n ≡ spelled (suc g) n
    go true e r = let l = ltb-true n 10 e in spelled_less f n l ∙ sym (spelled_less g n l)
    go false e r =
        let l = ltb-false n 10 e in
        spelled_more f n l ∙ ap (λ (s : List ℕ). s ++ (48 + n % 10) ∷ []) (r (omega arith) (omega arith)) ∙ sym (spelled_more g n l)

pub decimal_less : (n : ℕ) → n < 10 → decimal n ≡ (48 + n) ∷ []
unfolding decimal
decimal_less n h = spelled_less n n h

pub decimal_more : (n : ℕ) → 10 ≤ n → decimal n ≡ decimal (n / 10) ++ (48 + n % 10) ∷ []
unfolding decimal
decimal_more n h = spelled_more n n h ∙ ap (λ (s : List ℕ). s ++ (48 + n % 10) ∷ []) (spelled_enough n (suc (n / 10)) (n / 10) (omega arith) (omega arith))

pub length_more : (n : ℕ) → 10 ≤ n → length (decimal n) ≡ length (decimal (n / 10)) + 1
length_more n h = ap length (decimal_more n h) ∙ length-append (decimal (n / 10)) ((48 + n % 10) ∷ [])

pub length_less : (n : ℕ) → n < 10 → length (decimal n) ≡ 1
length_less n h = ap length (decimal_less n h)

-- how many digits there are
length_decimal : (k n : ℕ) → n < 10 ^ suc k → length (decimal n) ≤ suc k
length_decimal zero n h = omega (arith, length_less n (omega arith))
length_decimal (suc k) n h = go (ltb n 10) refl (length_decimal k (n / 10))
  where
    go : (t : Bool) → ltb n 10 ≡ t → (n / 10 < 10 ^ suc k → length (decimal (n / 10)) ≤ suc k) → length (decimal n) ≤ suc (suc k)
    go true e r = omega (arith, length_less n (ltb-true n 10 e))
    go false e r =
        let l = ltb-false n 10 e in
        let p : 10 ^ suc (suc k) ≡ 10 ^ suc k * 10 = pow-suc 10 (suc k) in
        omega (arith, length_more n l, r (omega arith))

-- .. by the power of ten at or below n
pub length_power : (k n : ℕ) → 10 ^ k ≤ n → n < 10 * 10 ^ k → k + 1 ≡ length (decimal n)
length_power zero n h l = sym (length_less n (omega arith))
length_power (suc k) n h l =
    let p : 10 ^ suc k ≡ 10 ^ k * 10 = pow-suc 10 k in
    omega (arith, length_more n (omega arith), length_power k (n / 10) (omega arith) (omega arith))

pub length_zero : (n : ℕ) → n ≡ 0 → 1 ≡ length (decimal n)
length_zero n e = sym (length_less n (omega arith))

pub length_word : (n : ℕ) → n < 18446744073709551616 → length (decimal n) ≤ 20
length_word n h = length_decimal 19 n (omega arith)

pub length_number : (n : ℕ) → n < 4294967296 → length (decimal n) ≤ 10
length_number n h = length_decimal 9 n (omega arith)

-- a digit written before those that are written: place i comes behind the digits that are left
module _ (f whole : List ℕ) (at i rest : ℕ) (e : i ≡ at + length (decimal rest)) (h : i ≤ length f) (o : take at f ++ decimal rest ++ drop i f ≡ whole) where
  pub digit_turn : 10 ≤ rest → take at (set f (i - 1) (48 + rest % 10)) ++ decimal (rest / 10) ++ drop (i - 1) (set f (i - 1) (48 + rest % 10)) ≡ whole
  digit_turn k =
      let d = 48 + rest % 10 in
      let n = length_more rest k in
      let s : i ≡ suc (i - 1) = omega arith in
      let l : length (take (i - 1) f) ≡ i - 1 = length-take-le (i - 1) f (omega arith) in
      let p : drop (i - 1) (set f (i - 1) d) ≡ d ∷ drop i f =
      ap (drop (i - 1)) (set_split f (i - 1) d (omega arith)) ∙ drop_at (take (i - 1) f) (d ∷ drop (suc (i - 1)) f) (i - 1) l ∙ ap (λ (j : ℕ). d ∷ drop j f) (sym s) in
      let q : take at (set f (i - 1) d) ≡ take at f = take-set-le at f (i - 1) d (omega arith) in
      rw (p, q) (behind (take at f) (decimal (rest / 10)) (drop i f) d ∙ ap (λ (x : List ℕ). take at f ++ x ++ drop i f) (sym (decimal_more rest k)) ∙ o)
    where
      behind : (a b c : List ℕ) (d : ℕ) → a ++ b ++ d ∷ c ≡ a ++ (b ++ d ∷ []) ++ c
      behind a b c d = simp append_assoc

  pub digit_last : rest < 10 → set f at (48 + rest) ≡ whole
  digit_last k =
      let n = length_less rest k in
      let j : i ≡ suc at = omega arith in
      set_split f at (48 + rest) (omega arith)
      ∙ ap (λ (m : ℕ). take at f ++ (48 + rest) ∷ drop m f) (sym j)
      ∙ sym (append_assoc (take at f) ((48 + rest) ∷ []) (drop i f))
      ∙ ap (λ (x : List ℕ). take at f ++ x ++ drop i f) (sym (decimal_less rest k)) ∙ o

joined_tails : (f : List ℕ) (fs : List (List ℕ)) → joined (f ∷ fs) ≡ f ++ tails fs
unfolding joined tails
joined_tails f [] = sym (append-nil f)
joined_tails f (g ∷ fs) = ap (λ (x : List ℕ). f ++ 44 ∷ x) (joined_tails g fs)

fields_cons : (n : ℕ) (ns : List ℕ) → fields_for (n ∷ ns) ≡ (44 ∷ decimal n) ++ fields_for ns
unfolding fields_for tails
fields_cons n ns = refl

fields_nil : fields_for [] ≡ []
unfolding fields_for tails
fields_nil = refl

-- numbers of at most k digits each
length_fields : (k : ℕ) (ns : List ℕ) → ((i : ℕ) → length (decimal (get_or ns i 0)) ≤ k) → length (fields_for ns) ≤ suc k * length ns
length_fields k [] w = omega (arith, ap length fields_nil)
length_fields k (n ∷ ns) w =
    omega (arith, ap length (fields_cons n ns) ∙ length-append (44 ∷ decimal n) (fields_for ns), w 0, length_fields k ns (λ i. w (suc i)), mul-suc (suc k) (length ns))

-- one number a turn
module _ (f₀ f : List ℕ) (w : ℕ) (ns : List ℕ) (i : ℕ) (whole : List ℕ) (o : Wrote f₀ f w (fields_for (drop i ns)) whole) where
  pub fields_turn : i < length ns → Wrote f₀ (put f w (44 ∷ decimal (get_or ns i 0))) (w + length (44 ∷ decimal (get_or ns i 0))) (fields_for (drop (i + 1) ns)) whole
  fields_turn h =
      let e : fields_for (drop i ns) ≡ (44 ∷ decimal (get_or ns i 0)) ++ fields_for (drop (i + 1) ns) = ap fields_for (drop_step ns i h) ∙ fields_cons (get_or ns i 0) (drop (i + 1) ns) in
      wrote_put f₀ f w (44 ∷ decimal (get_or ns i 0)) (fields_for (drop (i + 1) ns)) whole (subst (λ (x : List ℕ). Wrote f₀ f w x whole) e o)

  pub fields_room : i < length ns → w + length (44 ∷ decimal (get_or ns i 0)) ≤ length f
  fields_room h =
      let r = o.room in
      let s = o.same in
      omega (arith, ap length (ap fields_for (drop_step ns i h) ∙ fields_cons (get_or ns i 0) (drop (i + 1) ns)) ∙ length-append (44 ∷ decimal (get_or ns i 0)) (fields_for (drop (i + 1) ns)))

  pub fields_end : length ns ≤ i → Wrote f₀ f w [] whole
  fields_end h = subst (λ (x : List ℕ). Wrote f₀ f w x whole) (ap fields_for (drop_end ns i h) ∙ fields_nil) o

-- a byte, and what follows it
set_put : (f : List ℕ) (w c : ℕ) → w < length f → set f w c ≡ put f w (c ∷ [])
set_put f w c h = set_split f w c h ∙ rw (add-one w) (sym (append_assoc (take w f) (c ∷ []) (drop (suc w) f)))

pub byte_put : (f : List ℕ) (w c : ℕ) (vs : List ℕ) → w + 1 + length vs ≤ length f → put (set f w c) (w + 1) vs ≡ put f w (c ∷ vs)
byte_put f w c vs h = ap (λ (g : List ℕ). put g (w + 1) vs) (set_put f w c (omega arith)) ∙ put_put f w (c ∷ []) vs (omega arith)

line_tails : (letter : ℕ) (ns : List ℕ) → line_of letter ns ≡ (letter ∷ fields_for ns) ++ 10 ∷ []
unfolding line_of fields_for
line_tails letter ns = ap (λ (y : List ℕ). y ++ 10 ∷ []) (joined_tails (letter ∷ []) (map decimal ns))

-- how long a line is
pub length_line : (letter : ℕ) (ns : List ℕ) → length (line_of letter ns) ≡ 2 + length (fields_for ns)
length_line letter ns = omega (arith, ap length (line_tails letter ns) ∙ length-append (letter ∷ fields_for ns) (10 ∷ []))

-- each number takes at most eleven bytes with its comma, and each word 21
pub line_numbers : (letter : ℕ) (ns : List ℕ) → ((i : ℕ) → get_or ns i 0 < 4294967296) → length (line_of letter ns) ≤ 2 + 11 * length ns
line_numbers letter ns w = omega (arith, length_line letter ns, length_fields 10 ns (λ i. length_number (get_or ns i 0) (w i)))

pub line_words : (letter : ℕ) (ns : List ℕ) → ((i : ℕ) → get_or ns i 0 < 18446744073709551616) → length (line_of letter ns) ≤ 2 + 21 * length ns
line_words letter ns w = omega (arith, length_line letter ns, length_fields 20 ns (λ i. length_word (get_or ns i 0) (w i)))

-- the letter, the fields, the end
pub line_put : (f : List ℕ) (w letter : ℕ) (ns : List ℕ) (e : ℕ) (g : List ℕ) → w + 2 + length (fields_for ns) ≤ length f → e ≡ w + 1 + length (fields_for ns)
    → g ≡ put (set f w letter) (w + 1) (fields_for ns) → (set g e 10 ≡ put f w (line_of letter ns)) × (e + 1 ≡ w + length (line_of letter ns))
line_put f w letter ns e g h k q =
    let t = fields_for ns in
    let p : g ≡ put f w (letter ∷ t) = q ∙ byte_put f w letter t (omega arith) in
    let l : length g ≡ length f = ap length p ∙ length_put f w (letter ∷ t) (omega arith) in
    let j : e ≡ w + length (letter ∷ t) = omega arith in
    (set_put g e 10 (omega arith) ∙ rw (p, j, line_tails letter ns) (put_put f w (letter ∷ t) (10 ∷ []) (omega arith)), omega (arith, length_line letter ns))

-- all that was to be put at place w is written
pub put_done : (f₀ f : List ℕ) (w k : ℕ) (vs : List ℕ) → w + length vs ≤ length f₀ → Wrote f₀ f k [] (take w f₀ ++ vs) → (k ≡ w + length vs) × (f ≡ put f₀ w vs)
put_done f₀ f w k vs h o =
    ((wrote_done f₀ f k (take w f₀ ++ vs) o).0 ∙ length-append (take w f₀) vs ∙ ap (λ (j : ℕ). j + length vs) (length-take-le w f₀ (omega arith)), put_end f₀ w vs h f k o)
