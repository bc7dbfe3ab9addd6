-- Laws of raising: nothing, one list after the other, and how many a check raises.
use Rattle.std.specs.Prelude.{ℕ, ◌+◌, ◌<◌, ◌≤◌, List, [], ◌∷◌, ◌++◌, ◌≡◌, refl, length, take, get_or, Option, Some, None}
use Rattle.std.proofs.Common.{sym, ◌∙◌, append-nil, arith, length-append}
use Rattle.std.proofs.lemmas.List.{flat_map_more, take_more}
use mathlib.Core.List.{flat_map}
use Rattle.check_diagnostics.specs.declared.Finding.{Finding}
use Rattle.check_diagnostics.specs.declared.Findings.{Findings}
use Rattle.check_diagnostics.specs.Finding.{listed}
use Rattle.check_diagnostics.proofs.FindingLaws.{sink_append, sink_nil}
use Rattle.check_diagnostics.specs.Raises.{Raises, Adds}

-- nothing is raised
pub raises_none : (s : List ℕ) (at : ℕ) → Raises s s at at []
raises_none s at = record { place = omega arith; slice = sym (sink_nil s at) }

-- one after the other
pub raises_then : (s s' s'' : List ℕ) (at w v : ℕ) (l m : List Finding) → Raises s s' at w l → Raises s' s'' w v m → Raises s s'' at v (l ++ m)
raises_then s s' s'' at w v l m a b =
    let p = a.place in
    let q = b.place in
    record {
      place = omega (arith, length-append l m);
      slice = b.slice ∙ rw (a.slice, p) (sym (sink_append s at l m));
    }

-- a check raises one finding at the most
pub listed_small : (r : Option Finding) → length (listed r) ≤ 1
listed_small (Some f) = omega arith
listed_small None = omega arith

-- a loop over the results of checks raises one more
pub raises_more : (s s' s'' : List ℕ) (at w v : ℕ) (rs : List (Option Finding)) (i : ℕ) (d : Option Finding) → i < length rs
    → Raises s s' at w (flat_map listed (take i rs)) → Raises s' s'' w v (listed (get_or rs i d)) → Raises s s'' at v (flat_map listed (take (i + 1) rs))
unfolding flat_map
raises_more s s' s'' at w v rs i d h a b =
    rw (take_more rs i d h, ← flat_map_more listed [] (take i rs) (get_or rs i d))
    (raises_then s s' s'' at w v (flat_map listed (take i rs)) (listed (get_or rs i d)) a b)

-- the findings of two results, and of three
pub of_two : (a b : Option Finding) → flat_map listed (a ∷ b ∷ []) ≡ listed a ++ listed b
unfolding flat_map
of_two a b = rw append-nil

pub of_three : (a b c : Option Finding) → flat_map listed (a ∷ b ∷ c ∷ []) ≡ listed a ++ (listed b ++ listed c)
unfolding flat_map
of_three a b c = rw append-nil

-- the same of the slice that a struct holds: nothing, one list after the other, and a loop over the results of checks
pub adds_none : (a : Findings) → Adds a a []
adds_none a = record { same_slice = refl; raises = raises_none a.slice.now a.raised }

pub adds_then : (a b d : Findings) (l m : List Finding) → Adds a b l → Adds b d m → Adds a d (l ++ m)
adds_then a b d l m x y = record {
  same_slice = y.same_slice ∙ x.same_slice;
  raises = raises_then a.slice.now b.slice.now d.slice.now a.raised b.raised d.raised l m x.raises y.raises;
}

pub adds_more : (a b d : Findings) (rs : List (Option Finding)) (i : ℕ) (e : Option Finding) → i < length rs
    → Adds a b (flat_map listed (take i rs)) → Adds b d (listed (get_or rs i e)) → Adds a d (flat_map listed (take (i + 1) rs))
adds_more a b d rs i e h x y = record {
  same_slice = y.same_slice ∙ x.same_slice;
  raises = raises_more a.slice.now b.slice.now d.slice.now a.raised b.raised d.raised rs i e h x.raises y.raises;
}
