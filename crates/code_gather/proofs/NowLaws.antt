-- Laws of where instructions stand in a slice whose front is gathered, and of the jumps that are saved.
use Prim.Native.Nat.{ℕ, zero, suc, ◌+◌, ◌*◌, ◌≤◌, ◌<◌}
use Rattle.std.specs.Prelude.{◌≡◌, ◌≢◌, Bool, not, ◌&&◌, ltb, Option, Some, None}
use Rattle.std.proofs.Math.Path.{refl, sym, ap}
use Rattle.std.proofs.Common.{◌∙◌, true≢false, lt-ltb, le-ltb}
use Rattle.std.proofs.Math.Bool.{true, false}
use mathlib.Core.List.{List}
use Rattle.std.proofs.Math.ListN.{get_or}
use native.Mathlib.Omega.{arith}
use Rattle.std.proofs.Math.Decide.{dec_lt}
use Rattle.route_completion.specs.Sem.{pick, elem}
use Rattle.code_flat.specs.Machine.{is_zero}
use Rattle.code_valid.specs.Instrs.{parse, find}
use Rattle.code_valid.specs.Valid.{Valid}
use Rattle.code_machine.specs.declared.Target.{Target}
use Rattle.code_shorten.specs.Short.{aim_of, hop}
use Rattle.code_shorten.specs.Sound.{Begin, len_pos}
use Rattle.code_shorten.specs.Closes.{In}
use Rattle.code_pass.specs.Stages.{kept_places, new_place, sent_on, Fronted}
use Rattle.code_pass.proofs.KeptLaws.{sent_none, kept_parse}
use Rattle.code_mark.specs.Read.{read_at}
use Rattle.code_mark.proofs.PlaceLaws.{sent_find}
use Rattle.code_places.specs.Placing.{kept_place, Tagged}
use Rattle.code_gather.specs.Gather.{is_jump, dropped, hop_sent, place_in, Says, Found, Behind}
use Rattle.code_gather.proofs.WayLaws.{read}
use Rattle.code_gather.proofs.TargetLaws.{thread_aim}
use Rattle.code_gather.proofs.FrontReads.{fronted_read}

abbrev un : Option ℕ → ℕ
un None = 0
un (Some x) = x

pub fronted_behind : (C f : List ℕ) (split : ℕ) → Fronted C f split → Behind C f split
fronted_behind C f split s = record { same = s.same; behind = s.behind }

pub fronted_tagged : (C f : List ℕ) (split : ℕ) → Valid C → Fronted C f split → Tagged C f split
fronted_tagged C f split v s =
    record {
      same = s.same;
      firsts = λ o k l.
          ap (λ x. get_or f x 0) (let z : new_place C o ≡ new_place C o + 0 = omega arith in z)
          ∙ s.front o 0 k l (len_pos (find (sent_on C) 0 o) (sent_none C v o ∙ kept_parse C v o k));
      behind = s.behind;
    }

module _ (C : List ℕ) (v : Valid C) (f : List ℕ) (split : ℕ) (s : Fronted C f split) (t : ℕ) where
  -- What a look-up tells.
  kept_some : (x : ℕ) → Some x ≡ kept_place C t → In (kept_places C) t × (x ≡ new_place C t)
  kept_some x e = go (elem t (kept_places C)) e
    where
      go : (c : Bool) → Some x ≡ pick c (Some (new_place C t)) None → (c ≡ true) × (x ≡ new_place C t)
      go true q = (refl, ap un q)
      go false q = let z : ◌≡◌ {A = ℕ} 0 1 = cc in absurd (omega arith)

  kept_none : None ≡ kept_place C t → elem t (kept_places C) ≡ false
  kept_none e = go (elem t (kept_places C)) e
    where
      go : (c : Bool) → None ≡ pick c (Some (new_place C t)) None → c ≡ false
      go true q = let z : ◌≡◌ {A = ℕ} 0 1 = cc in absurd (omega arith)
      go false q = refl

  pub place_front : (a : Option ℕ) → t < split → a ≡ kept_place C t → a ≡ place_in C split t
  place_front a l e = e ∙ sym (ap (λ c. pick c (kept_place C t) (Some t)) (lt-ltb t split l))

  pub place_behind : split ≤ t → Some t ≡ place_in C split t
  place_behind l = sym (ap (λ c. pick c (kept_place C t) (Some t)) (le-ltb t split l))

  hop_is : t ≢ 0 → hop (parse C) t ≡ aim_of (find (parse C) 0 t)
  unfolding hop
  hop_is n = go t n
    where
      go : (u : ℕ) → u ≢ 0 → pick (is_zero u) None (aim_of (find (parse C) 0 t)) ≡ aim_of (find (parse C) 0 t)
      go zero m = absurd (omega arith)
      go (suc u) m = refl

  pub hop_start : t ≡ 0 → hop (parse C) t ≡ None
  unfolding hop
  hop_start e = ap (λ u. pick (is_zero u) None (aim_of (find (parse C) 0 t))) e

  -- A jump stands where it is looked up, if one stood there.
  pub now_some : (x : ℕ) → Begin (parse C) t → t ≢ 0 → Some x ≡ place_in C split t → is_jump (aim_of (read_at f x)) ≡ is_jump (hop (parse C) t)
  now_some x b n e = go (dec_lt t split) ∙ ap is_jump (sym (hop_is n))
    where
      go : Dec (t < split) → is_jump (aim_of (read_at f x)) ≡ is_jump (aim_of (find (parse C) 0 t))
      go (yes l) =
          let k = kept_some x (e ∙ ap (λ c. pick c (kept_place C t) (Some t)) (lt-ltb t split l)) in
          ap (λ y. is_jump (aim_of (read_at f y))) k.1 ∙ ap (λ i. is_jump (aim_of i)) (fronted_read C v f split s t k.0 l ∙ sent_find C v t)
          ∙ thread_aim (parse C) (find (parse C) 0 t)
      go (no l) =
          let k : x ≡ t = ap un (e ∙ ap (λ c. pick c (kept_place C t) (Some t)) (le-ltb t split (omega arith))) in
          ap (λ y. is_jump (aim_of (read_at f y))) k ∙ ap (λ i. is_jump (aim_of i)) (read C v f split (fronted_behind C f split s) t b (omega arith))

  pub now_none : None ≡ place_in C split t → (is_jump (hop (parse C) t) ≡ true → In (kept_places C) t) → false ≡ is_jump (hop (parse C) t)
  now_none e h = go (dec_lt t split)
    where
      try : elem t (kept_places C) ≡ false → (c : Bool) → is_jump (hop (parse C) t) ≡ c → false ≡ c
      try k true q = absurd (true≢false (sym (h q) ∙ k))
      try k false q = refl

      go : Dec (t < split) → false ≡ is_jump (hop (parse C) t)
      go (yes l) = try (kept_none (e ∙ ap (λ c. pick c (kept_place C t) (Some t)) (lt-ltb t split l))) (is_jump (hop (parse C) t)) refl
      go (no l) =
          let q : None ≡ Some t = e ∙ ap (λ c. pick c (kept_place C t) (Some t)) (le-ltb t split (omega arith)) in
          let z : ◌≡◌ {A = ℕ} 0 1 = cc in absurd (omega arith)

  -- A jump of the front, sent on.
  sent_is : t < split → t ≢ 0 → hop_sent C split t ≡ aim_of (find (sent_on C) 0 t)
  sent_is l n = ap (λ c. pick c (pick (is_zero t) None (aim_of (find (sent_on C) 0 t))) None) (lt-ltb t split l) ∙ go t n
    where
      go : (u : ℕ) → u ≢ 0 → pick (is_zero u) None (aim_of (find (sent_on C) 0 t)) ≡ aim_of (find (sent_on C) 0 t)
      go zero m = absurd (omega arith)
      go (suc u) m = refl

  pub sent_kept : (x : ℕ) → t < split → t ≢ 0 → Some x ≡ kept_place C t → aim_of (read_at f x) ≡ hop_sent C split t
  sent_kept x l n e =
      let k = kept_some x e in
      ap (λ y. aim_of (read_at f y)) k.1 ∙ ap aim_of (fronted_read C v f split s t k.0 l) ∙ sym (sent_is l n)

  module _ (block n : ℕ) (fits : block + 3 * n ≡ split) (l : t < split) (nz : t ≢ 0) where
    pub sent_lost : None ≡ kept_place C t → Found f block split t None → (dropped C split t ≡ true → Says f block n t) → None ≡ hop_sent C split t
    sent_lost e h k = sym (sent_is l nz ∙ go (aim_of (find (sent_on C) 0 t)) refl)
      where
        out : dropped C split t ≡ true → ⊥
        out d = let w = k d in h w.0 (omega (arith, w.1)) w.2

        go : (a : Option Target) → aim_of (find (sent_on C) 0 t) ≡ a → a ≡ None
        go None q = refl
        go (Some aim) q =
            let j : is_jump (aim_of (find (parse C) 0 t)) ≡ true = sym (thread_aim (parse C) (find (parse C) 0 t)) ∙ ap (λ i. is_jump (aim_of i)) (sym (sent_find C v t)) ∙ ap is_jump q in
            absurd (out (all (ltb t split) (lt-ltb t split l) (elem t (kept_places C)) (kept_none e) (is_jump (aim_of (find (parse C) 0 t))) j))
          where
            all : (a : Bool) → a ≡ true → (b : Bool) → b ≡ false → (c : Bool) → c ≡ true → (a && (not b && c)) ≡ true
            all true x false y true z = refl
            all true x false y false z = absurd (true≢false (sym z))
            all true x true y c z = absurd (true≢false y)
            all false x b y c z = absurd (true≢false (sym x))
