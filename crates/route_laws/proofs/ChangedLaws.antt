-- Two runs on answers that are alike up to position k agree, for every list of numbers as code.
use Rattle.std.specs.Prelude.{ℕ, zero, suc, ◌≤◌, ◌<◌, ◌≡◌, refl, List, [], ◌∷◌, ◌++◌, map, ◌≢◌, length, get_or, take}
use Rattle.std.proofs.Common.{sym, ◌∙◌, ap, subst₂, length-append, arith}
use Rattle.std.proofs.lemmas.List.{length-map}
use Rattle.route_completion.specs.Sem.{Entry, plain, asked}
use Rattle.route_completion.specs.Route.{asks, node_of}
use Rattle.route_completion.proofs.TakenLaws.{asks_append}
use Rattle.code_flat.specs.Machine.{Res, res, pre, Frame, run}
use Rattle.code_flat.specs.Leg.{Leg, ends, waits, listed, leg, onward}
use Rattle.code_flat.proofs.LegLaws.{run_leg, leg_plain}
use Rattle.route_laws.specs.Changed.{up_to, beyond, Agree, Alike}
use Rattle.route_laws.specs.Shared.{shared}
use Rattle.route_laws.proofs.SharedLaws.{shared_longest}

-- What `up_to` takes is a beginning.
pub up_to_begins : (k : ℕ) (es : List Entry) → up_to k es ++ beyond k es ≡ es
unfolding up_to beyond
up_to_begins k [] = refl
up_to_begins k (plain n ∷ es) = ap (λ l. plain n ∷ l) (up_to_begins k es)
up_to_begins zero (asked n ∷ es) = refl
up_to_begins (suc k) (asked n ∷ es) = ap (λ l. asked n ∷ l) (up_to_begins k es)

-- .. that has answer k in it, where it is taken,
pub up_to_takes : (k : ℕ) (es : List Entry) → k < asks es → asks (up_to k es) ≡ suc k
unfolding up_to asks
up_to_takes k [] h = absurd (omega arith)
up_to_takes k (plain n ∷ es) h = up_to_takes k es h
up_to_takes zero (asked n ∷ es) h = refl
up_to_takes (suc k) (asked n ∷ es) h = ap suc (up_to_takes k es (omega arith))

-- .. and is all where it isn't.
pub up_to_all : (k : ℕ) (es : List Entry) → asks es ≤ k → up_to k es ≡ es
unfolding up_to asks
up_to_all k [] h = refl
up_to_all k (plain n ∷ es) h = ap (λ l. plain n ∷ l) (up_to_all k es h)
up_to_all zero (asked n ∷ es) h = absurd (omega arith)
up_to_all (suc k) (asked n ∷ es) h = ap (λ l. asked n ∷ l) (up_to_all k es (omega arith))

-- In front of it may stand what takes no answer.
up_to_plain : (k : ℕ) (es fs : List Entry) → asks es ≡ 0 → up_to k (es ++ fs) ≡ es ++ up_to k fs
unfolding up_to asks
up_to_plain k [] fs h = refl
up_to_plain k (plain n ∷ es) fs h = ap (λ l. plain n ∷ l) (up_to_plain k es fs h)
up_to_plain k (asked n ∷ es) fs h = absurd (omega arith)

pre_agree : (k : ℕ) (es : List Entry) (r s : Res) → asks es ≡ 0 → Agree k r s → Agree k (pre es r) (pre es s)
pre_agree k es r s z h =
    record {
      first = up_to_plain k es r.nodes z ∙ ap (λ l. es ++ l) h.first ∙ sym (up_to_plain k es s.nodes z);
      whole = λ p. let w = h.whole (omega (arith, asks_append es r.nodes)) in (ap (λ l. es ++ l) w.0, w.1);
    }

-- Where the answers differ the entry is the same.
last_agree : (n : ℕ) (r s : Res) → Agree zero (pre (asked n ∷ []) r) (pre (asked n ∷ []) s)
unfolding up_to asks
last_agree n r s = record { first = refl; whole = λ p. absurd (omega arith) }

ask_agree : (k n : ℕ) (r s : Res) → Agree k r s → Agree (suc k) (pre (asked n ∷ []) r) (pre (asked n ∷ []) s)
unfolding up_to asks
ask_agree k n r s h =
    record {
      first = ap (λ l. asked n ∷ l) h.first;
      whole = λ p. let w = h.whole (omega arith) in (ap (λ l. asked n ∷ l) w.0, w.1);
    }

same_list : (k : ℕ) (es : List Entry) (e : ℕ) (qs ps : List ℕ) → Agree k (res es e qs) (res es e ps)
same_list k es e qs ps = record { first = refl; whole = λ p. (refl, refl) }

module _ (lim : ℕ) (C : List ℕ) where
  pub agree : (k : ℕ) (qs ps : List ℕ) → Alike k qs ps → (b pc : ℕ) (K : List Frame) → Agree k (run lim C b pc K qs) (run lim C b pc K ps)
  agree k [] [] h b pc K = record { first = refl; whole = λ p. (refl, refl) }
  agree k [] (c ∷ ps) h b pc K = absurd h
  agree k (a ∷ qs) [] h b pc K = absurd h
  agree zero (a ∷ qs) (c ∷ ps) h b pc K =
      subst₂ (Agree zero) (sym (run_leg lim C b pc K (a ∷ qs))) (sym (run_leg lim C b pc K (c ∷ ps))) (go (leg lim C b pc K) (leg_plain lim C b pc K))
    where
      go : (l : Leg) → asks (listed l) ≡ 0 → Agree zero (onward lim C l (a ∷ qs)) (onward lim C l (c ∷ ps))
      go (ends es e) z = same_list zero es e (a ∷ qs) (c ∷ ps)
      go (waits es n f J) z =
          pre_agree zero es (pre (asked n ∷ []) (run lim C (length C) (f a) J qs)) (pre (asked n ∷ []) (run lim C (length C) (f c) J ps)) z
          (last_agree n (run lim C (length C) (f a) J qs) (run lim C (length C) (f c) J ps))
  agree (suc k) (a ∷ qs) (c ∷ ps) h b pc K =
      subst₂ (Agree (suc k)) (sym (run_leg lim C b pc K (a ∷ qs))) (sym (run_leg lim C b pc K (c ∷ ps)))
      (go (leg lim C b pc K) (leg_plain lim C b pc K) (λ t J. agree k qs ps h.1 (length C) t J))
    where
      go : (l : Leg) → asks (listed l) ≡ 0 → ((t : ℕ) (J : List Frame) → Agree k (run lim C (length C) t J qs) (run lim C (length C) t J ps))
          → Agree (suc k) (onward lim C l (a ∷ qs)) (onward lim C l (c ∷ ps))
      go (ends es e) z ih = same_list (suc k) es e (a ∷ qs) (c ∷ ps)
      go (waits es n f J) z ih =
          pre_agree (suc k) es (pre (asked n ∷ []) (run lim C (length C) (f a) J qs)) (pre (asked n ∷ []) (run lim C (length C) (f c) J ps)) z
          (ask_agree k n (run lim C (length C) (f a) J qs) (run lim C (length C) (f c) J ps)
          (rw (← h.0) (ih (f a) J)))

pub alike : (k : ℕ) (qs ps : List ℕ) → length qs ≡ length ps → ((i : ℕ) → i ≢ k → get_or qs i 0 ≡ get_or ps i 0) → Alike k qs ps
alike k [] [] e h = tt
alike k [] (c ∷ ps) e h = absurd (omega arith)
alike k (a ∷ qs) [] e h = absurd (omega arith)
alike zero (a ∷ qs) (c ∷ ps) e h = tt
alike (suc k) (a ∷ qs) (c ∷ ps) e h = (h zero (omega arith), alike k qs ps (omega arith) (λ i d. h (suc i) (λ q. d (omega arith))))

-- The numbers of the nodes, up to where the entries are the same.
take_map : (a b : List Entry) → take (length a) (map node_of (a ++ b)) ≡ map node_of a
take_map [] b = refl
take_map (x ∷ a) b = ap (λ l. node_of x ∷ l) (take_map a b)

pub same_take : (k : ℕ) (es fs : List Entry) → up_to k es ≡ up_to k fs → take (length (up_to k es)) (map node_of es) ≡ take (length (up_to k es)) (map node_of fs)
same_take k es fs h =
    ap (λ l. take (length (up_to k es)) (map node_of l)) (sym (up_to_begins k es)) ∙ take_map (up_to k es) (beyond k es) ∙ ap (map node_of) h ∙ sym (take_map (up_to k fs) (beyond k fs))
    ∙ ap (λ l. take (length (up_to k fs)) (map node_of l)) (up_to_begins k fs) ∙ ap (λ l. take (length l) (map node_of fs)) (sym h)

up_to_within : (k : ℕ) (es : List Entry) → length (up_to k es) ≤ length (map node_of es)
up_to_within k es =
    omega (arith, length-map es node_of, ap (λ l. length l) (up_to_begins k es), length-append (up_to k es) (beyond k es))

pub same_share : (k : ℕ) (es fs : List Entry) → up_to k es ≡ up_to k fs → length (up_to k es) ≤ shared (map node_of es) (map node_of fs)
same_share k es fs h =
    shared_longest (length (up_to k es)) (map node_of es) (map node_of fs) (same_take k es fs h) (up_to_within k es)
    (omega (arith, ap (λ l. length l) h, up_to_within k fs))
