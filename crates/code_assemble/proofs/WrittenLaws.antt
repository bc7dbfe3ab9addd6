-- One law for each turn of the loop, and what the slice is in the end.
use Rattle.base_common.proofs.Bools.{never}
use Rattle.std.specs.Prelude.{ℕ, suc, ◌+◌, ◌-◌, ◌≤◌, ◌<◌, ◌≡◌, refl, ◌⊎◌, List, Bool, true, false, length, get_or, drop, Result, Ok}
use Rattle.std.proofs.Math.Path.{ap, sym}
use Rattle.std.proofs.Common.{◌∙◌, subst, inl, inr, length-append, length-drop, ext_get_or, get_or-drop, get_or-append-add, eq-or-lt_of_le, arith, le-leb}
use Rattle.std.proofs.Math.Bool.{cond}
use Rattle.std.proofs.Math.ListN.{get_or-append}
use Rattle.std.proofs.Math.Decide.{dec_lt}
use Rattle.std.proofs.lemmas.Bool.{lt-leb}
use Rattle.table_records.specs.Table.{count}
use Rattle.code_flat.specs.Code.{unit, ends}
use Rattle.code_flat.proofs.Correct.{has_right, has_self}
use Rattle.code_flat.specs.Has.{Has}
use Rattle.route_list.specs.Over.{over}
use Rattle.code_tree.specs.Statements.{body_of}
use Rattle.code_layout.specs.Widths.{in_unit, own_width, width_at}
use Rattle.code_layout.specs.Context.{offset_at}
use Rattle.code_layout.specs.Words.{words_at, code_at}
use Rattle.code_layout.proofs.LayoutLaws.{own_width_root, width_is_lem, words_length_lem, code_length_lem}
use Rattle.code_layout.proofs.Stands.{in_from, Owner}
use Rattle.code_layout.proofs.Made.{width_unit, code_unit, unit_has, unit_full, has_at}
use Rattle.code_widths.proofs.WidthsLaws.{fits}
use Rattle.code_contexts.specs.Contexts.{Ready}
use Rattle.code_branch.specs.Branch.{Arrays}
use Rattle.code_branch.proofs.JumpLaws as array
use Rattle.code_put.specs.Put.{Put, Done}
use Rattle.code_put.proofs.PutLaws.{put_done, put_keeps}
use Rattle.refusal_verdict.specs.declared.Refused.{Refused}
use Rattle.code_assemble.specs.Assembled.{short, assembled, assembled_slice}
use Rattle.code_assemble.specs.Written.{whole, Emitted, Written}

abbrev coded : ℕ → Result ℕ Refused
coded n = Ok n

abbrev too_short : ℕ → Result ℕ Refused
too_short n = short n

-- The answers.
module _ (c : List ℕ) where
  pub fits_answer : (n : ℕ) (s : List ℕ) → n ≡ length c → n ≤ length s → Ok n ≡ assembled c (length s)
  unfolding assembled
  fits_answer n s e h = ap coded e ∙ sym (ap (λ x. cond x (Ok (length c)) (short (length c))) (le-leb (length c) (length s) (omega arith)))

  pub fits_slice : (n : ℕ) (s : List ℕ) → n ≡ length c → n ≤ length s → over c s ≡ assembled_slice c s
  unfolding assembled_slice
  fits_slice n s e h = sym (ap (λ x. cond x (over c s) s) (le-leb (length c) (length s) (omega arith)))

  pub short_answer : (n : ℕ) (s : List ℕ) → n ≡ length c → length s < n → short n ≡ assembled c (length s)
  unfolding assembled
  short_answer n s e h = ap too_short e ∙ sym (ap (λ x. cond x (Ok (length c)) (short (length c))) (lt-leb (length c) (length s) (omega arith)))

  pub short_slice : (n : ℕ) (s : List ℕ) → n ≡ length c → length s < n → s ≡ assembled_slice c s
  unfolding assembled_slice
  short_slice n s e h = sym (ap (λ x. cond x (over c s) s) (lt-leb (length c) (length s) (omega arith)))

-- A slice that begins with c, and is as it was behind it.
pub over_is : (c f g : List ℕ) → length c ≤ length f → length g ≡ length f → ((x : ℕ) → x < length c → Done c g x) → ((x : ℕ) → length c ≤ x → get_or g x 0 ≡ get_or f x 0) → g ≡ over c f
over_is c f g h e d r =
    let l : length (over c f) ≡ length f = length-append c (drop (length c) f) ∙ ap (λ k. length c + k) (length-drop (length c) f) ∙ (let z : length c + (length f - length c) ≡ length f = omega arith in z) in
    ext_get_or 0 g (over c f) (e ∙ sym l) (λ x p. go x (dec_lt x (length c)))
  where
    go : (x : ℕ) → Dec (x < length c) → get_or g x 0 ≡ get_or (over c f) x 0
    go x (yes p) = d x p ∙ sym (get_or-append c (drop (length c) f) 0 x p)
    go x (no p) =
        let q : length c + (x - length c) ≡ x = omega arith in
        r x (omega arith) ∙ sym (ap (λ k. get_or (over c f) k 0) (sym q) ∙ get_or-append-add c (drop (length c) f) (x - length c) 0 ∙ get_or-drop (length c) f (x - length c) 0 ∙ ap (λ k. get_or f k 0) q)

module _ {ns names : List ℕ} {b : ℕ} (r : Ready ns names b) where
  pub length_whole : length (unit (body_of ns names b)) ≡ width_at ns b b + 8
  length_whole = ap length (sym (code_unit ns names b r.held)) ∙ length-append (code_at ns names b b) ends ∙ ap (λ k. k + 8) (code_length_lem ns names b b)

  pub emit_fits : (j : ℕ) → j < count ns → in_unit ns b j ≡ true → offset_at ns names b j + own_width ns b j ≤ width_at ns b b
  emit_fits j l e = let f = fits ns names b r.held j l e in let w = width_is_lem ns b j l in omega arith

  pub emit_put : (j : ℕ) → j < count ns → in_unit ns b j ≡ true → (words : List ℕ) → Has words 0 (words_at ns names b j) → (o n : ℕ) → o ≡ offset_at ns names b j → n ≡ own_width ns b j → (f g : List ℕ) → Put f o words n g
      → Emitted ns names b j f g
  emit_put j l e words hw o n eo en f g p =
      record {
        same = p.same;
        done = λ u k q. subst (λ m. Done (whole ns names b) g (m + k)) eo (put_done (whole ns names b) f g o n words (words_at ns names b j) len is has p k (omega arith));
        keeps = λ x d. put_keeps (whole ns names b) f g o n words (words_at ns names b j) len is has p x d;
        behind = λ x q. let a = emit_fits j l e in let c = length_whole in p.elsewhere x (inr (omega arith));
      }
    where
      len : length (words_at ns names b j) ≡ n
      len = words_length_lem ns names b j ∙ sym en

      is : (k : ℕ) → k < n → get_or words k 0 ≡ get_or (words_at ns names b j) k 0
      is k q = ap (λ m. get_or words m 0) (let z : k ≡ 0 + k = omega arith in z) ∙ has_at ns names b r.held words 0 (words_at ns names b j) k hw (omega (arith, len))

      has : Has (whole ns names b) o (words_at ns names b j)
      has = subst (λ m. Has (whole ns names b) m (words_at ns names b j)) (sym eo) (unit_has ns names b r.held j l e)

  pub write_start : (i : ℕ) → i ≡ b + 1 → (f : List ℕ) → Written ns names b i f f
  write_start i q f =
      record {
        same = refl;
        done = λ j l u k m. absurd (let s = in_from ns names b r.held.good j u in let z : j ≡ b = omega arith in let w : own_width ns b j ≡ 0 = ap (own_width ns b) z ∙ own_width_root ns b in omega arith);
        behind = λ x l. refl;
      }

  pub write_turn : (i : ℕ) (f₀ f g : List ℕ) → Written ns names b i f₀ f → Emitted ns names b i f g → Written ns names b (i + 1) f₀ g
  write_turn i f₀ f g w m =
      record { same = m.same ∙ w.same; done = λ j l u k q. go j u k q (eq-or-lt_of_le {n = suc j} {m = i + 1} l); behind = λ x l. m.behind x l ∙ w.behind x l }
    where
      go : (j : ℕ) → in_unit ns b j ≡ true → (k : ℕ) → k < own_width ns b j → (suc j ≡ i + 1) ⊎ (suc j < i + 1) → Done (whole ns names b) g (offset_at ns names b j + k)
      go j u k q (inl y) = subst (λ j. in_unit ns b j ≡ true → k < own_width ns b j → Done (whole ns names b) g (offset_at ns names b j + k)) (let z : i ≡ j = omega arith in z) (λ u q. m.done u k q) u q
      go j u k q (inr y) = m.keeps (offset_at ns names b j + k) (w.done j (omega arith) u k q)

  -- THE END: all words, and the ends behind them.
  pub write_end : (i : ℕ) → count ns ≤ i → (f₀ f g : List ℕ) → length (unit (body_of ns names b)) ≤ length f₀ → Written ns names b i f₀ f → (o : ℕ) → o ≡ width_at ns b b → Put f o ends 8 g → g ≡ over (unit (body_of ns names b)) f₀
  write_end i hi f₀ f g h w o eo p =
      over_is (unit (body_of ns names b)) f₀ g h (p.same ∙ w.same) (λ x l. go x (omega (arith, length_whole)) (dec_lt x o)) (λ x l. p.elsewhere x (inr (omega (arith, length_whole))) ∙ w.behind x l)
    where
      whole_has : Has (whole ns names b) o ends
      whole_has =
          has_right (whole ns names b) 0 (code_at ns names b b) ends o (eo ∙ sym (code_length_lem ns names b b) ∙ (let z : length (code_at ns names b b) ≡ 0 + length (code_at ns names b b) = omega arith in z))
          (subst (Has (whole ns names b) 0) (sym (code_unit ns names b r.held)) (has_self (whole ns names b)))

      owned : (x : ℕ) → Owner ns names b r.held.good x → Done (whole ns names b) f x
      owned x t =
          let k = x - offset_at ns names b t.node in
          subst (Done (whole ns names b) f) (let z : offset_at ns names b t.node + k ≡ x = omega (arith, t.low) in z)
          (w.done t.node (omega (arith, t.inside)) t.belongs k (omega (arith, t.low, t.high)))

      go : (x : ℕ) → x < o + 8 → Dec (x < o) → Done (whole ns names b) g x
      go x l (yes q) = p.elsewhere x (inl q) ∙ owned x (unit_full ns names b r.held x (let z = width_unit ns names b r.held in omega arith))
      go x l (no q) =
          let k = x - o in
          let z : o + k ≡ x = omega arith in
          subst (Done (whole ns names b) g) z (p.here k (omega arith) ∙ sym (has_at ns names b r.held (whole ns names b) o ends k whole_has (omega arith)))

-- The ends alone.
pub ends_over : (s g : List ℕ) → 8 ≤ length s → Put s 0 ends 8 g → g ≡ over ends s
ends_over s g h p = over_is ends s g h p.same (λ x l. ap (λ k. get_or g k 0) (let z : x ≡ 0 + x = omega arith in z) ∙ p.here x (omega arith)) (λ x l. p.elsewhere x (inr (omega arith)))

-- Which nodes are the unit's, by their levels.
module _ {ns names : List ℕ} {b : ℕ} {widths levels offsets follows : List ℕ} (A : Arrays ns names b widths levels offsets follows) (n : ℕ) (l : n < count ns) where
  level_by : (x : Bool) → in_unit ns b n ≡ x → (get_or levels n 0 ≡ 0 → x ≡ false) × ((get_or levels n 0 ≡ 0 → ⊥) → x ≡ true)
  level_by true q = (λ z. absurd (let s = array.level_some A n l q in omega arith), λ z. refl)
  level_by false q = (λ z. refl, λ z. absurd (z (A.places.other n l q)))

  pub level_none : get_or levels n 0 ≡ 0 → in_unit ns b n ≡ false
  level_none z = (level_by (in_unit ns b n) refl).0 z

  pub level_in : (get_or levels n 0 ≡ 0 → ⊥) → in_unit ns b n ≡ true
  level_in z = (level_by (in_unit ns b n) refl).1 z

module _ {ns names : List ℕ} {b : ℕ} (r : Ready ns names b) where
  pub emit_skip : (j : ℕ) → in_unit ns b j ≡ false → (f : List ℕ) → Emitted ns names b j f f
  emit_skip j e f = record { same = refl; done = λ u. never (sym u ∙ e); keeps = λ x d. d; behind = λ x l. refl }
