-- Laws of where jumps behind the split lead: what a function reads there is the code's.
use Prim.Native.Nat.{ℕ, zero, suc, ◌+◌, ◌≤◌, ◌<◌, min}
use Rattle.std.specs.Prelude.{◌≡◌, Bool, ltb, Option, Some, None}
use Rattle.std.proofs.Math.Path.{refl, sym, ap}
use Rattle.std.proofs.Common.{◌∙◌, lt-ltb, le-ltb}
use Rattle.std.proofs.Math.Bool.{true, false}
use mathlib.Core.List.{List}
use Rattle.std.proofs.Math.ListN.{length, get_or}
use native.Mathlib.Omega.{arith}
use Rattle.std.proofs.Math.Decide.{dec_lt}
use Rattle.route_completion.specs.Sem.{pick, elem}
use Rattle.code_flat.specs.Machine.{Instr, is_zero}
use Rattle.code_valid.specs.Instrs.{parse, find}
use Rattle.code_valid.specs.Valid.{Valid}
use Rattle.code_machine.specs.declared.Target.{Target}
use Rattle.code_shorten.specs.Short.{to, aim_of, hop, further}
use Rattle.code_shorten.specs.Sound.{Begin}
use Rattle.code_shorten.specs.Threads.{hop_some, aim_all}
use Rattle.code_pass.specs.Stages.{kept_places, mark}
use Rattle.code_mark.specs.Read.{read_at, standing_in}
use Rattle.code_mark.proofs.PlaceLaws.{sound, first_low}
use Rattle.code_mark.proofs.ReadLaws.{behind_read, behind_standing}
use Rattle.code_gather.specs.Gather.{way, follow, hop_behind, hop_read, entry, entry_read, Behind}

-- A jump behind the split is one of the code.
pub behind_hop : (b : Bool) (a : Option Target) (v w : ℕ) → pick b None a ≡ to v w → (b ≡ false) × (a ≡ to v w)
behind_hop true a v w h = let x : ◌≡◌ {A = ℕ} 0 1 = cc in absurd (omega arith)
behind_hop false a v w h = (refl, h)

pub hop_begin : (C : List ℕ) (v : Valid C) (t u e : ℕ) → hop (parse C) t ≡ to u e → Begin (parse C) t → Begin (parse C) u
hop_begin C v t u e h b = aim_all (Begin (parse C)) (find (parse C) 0 t) u e (hop_some (parse C) t u e h).1 ((sound C v).named t b)

mark_or : (x : ℕ) (b : Bool) (a : Option Target) → x < mark → pick (ltb (x + pick b mark 0) mark) None a ≡ pick b a None
mark_or x true a h = ap (λ c. pick c None a) (le-ltb (x + mark) mark (omega arith))
mark_or x false a h = ap (λ c. pick c None a) (lt-ltb (x + 0) mark (omega arith))

module _ (C : List ℕ) (v : Valid C) (f : List ℕ) (split : ℕ) (h : Behind C f split) where
  pub read : (o : ℕ) → Begin (parse C) o → split ≤ o → read_at f o ≡ find (parse C) 0 o
  read o b l = behind_read C v f split h.behind o b l

  pub stands : (o : ℕ) → Begin (parse C) o → split ≤ o → standing_in f o ≡ find (parse C) 0 o
  stands o b l = behind_standing C v f split h.behind h.same o b l

  hop_same : (t : ℕ) → Begin (parse C) t → hop_read f split t ≡ hop_behind C split t
  unfolding hop
  hop_same t b = go (dec_lt t split)
    where
      go : Dec (t < split) → hop_read f split t ≡ hop_behind C split t
      go (yes l) =
          ap (λ c. pick c None (pick (is_zero t) None (aim_of (read_at f t)))) (lt-ltb t split l)
          ∙ sym (ap (λ c. pick c None (pick (is_zero t) None (aim_of (find (parse C) 0 t)))) (lt-ltb t split l))
      go (no l) = ap (λ i. pick (ltb t split) None (pick (is_zero t) None (aim_of i))) (read t b (omega arith))

  way_same : (n t d : ℕ) → Begin (parse C) t → way (hop_read f split) n t d ≡ way (hop_behind C split) n t d
  unfolding way
  way_same zero t d b = refl
  way_same (suc n) t d b = ap (λ a. further (way (hop_read f split) n) a t d) (hop_same t b) ∙ go (hop_behind C split t) refl (λ u e k. way_same n u e k)
    where
      go : (a : Option Target) → hop_behind C split t ≡ a → ((u e : ℕ) → Begin (parse C) u → way (hop_read f split) n u e ≡ way (hop_behind C split) n u e)
          → further (way (hop_read f split) n) a t d ≡ further (way (hop_behind C split) n) a t d
      go None q k = refl
      go (Some aim) q k =
          let x : (ltb t split ≡ false) × (hop (parse C) t ≡ to aim.place aim.depth) = behind_hop (ltb t split) (hop (parse C) t) aim.place aim.depth q in
          k aim.place (min d aim.depth) (hop_begin C v t aim.place aim.depth x.1 b)

  -- THE ENTRY, as it is read.
  pub entry_same : (p : ℕ) → Begin (parse C) p → split ≤ p → entry_read f split p ≡ entry C split p (find (parse C) 0 p)
  unfolding entry entry_read
  entry_same p b l =
      ap (λ x. pick (ltb x mark) None (follow (way (hop_read f split) (length f + 1)) (aim_of (read_at f p)))) (h.behind p l)
      ∙ mark_or (get_or C p 0) (elem p (kept_places C)) (follow (way (hop_read f split) (length f + 1)) (aim_of (read_at f p))) (first_low C v p b)
      ∙ ap (λ a. pick (elem p (kept_places C)) a None) same
    where
      i : Instr
      i = find (parse C) 0 p

      go : (a : Option Target) → aim_of i ≡ a → follow (way (hop_read f split) (length C + 1)) a ≡ follow (way (hop_behind C split) (length C + 1)) a
      go None q = refl
      go (Some aim) q = way_same (length C + 1) aim.place aim.depth (aim_all (Begin (parse C)) i aim.place aim.depth q ((sound C v).named p b))

      same : follow (way (hop_read f split) (length f + 1)) (aim_of (read_at f p)) ≡ follow (way (hop_behind C split) (length C + 1)) (aim_of i)
      same =
          ap (λ j. follow (way (hop_read f split) (length f + 1)) (aim_of j)) (read p b l)
          ∙ ap (λ n. follow (way (hop_read f split) (n + 1)) (aim_of i)) h.same ∙ go (aim_of i) refl
