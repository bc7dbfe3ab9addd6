-- One answer changed: what is said of two lists of answers, and of two runs.
use Rattle.std.specs.Prelude.{ℕ, zero, suc, ◌≤◌, ◌≡◌, List, [], ◌∷◌, ◌≢◌, length, get_or}
use Rattle.route_completion.specs.Sem.{Entry, plain, asked}
use Rattle.route_completion.specs.Route.{asks}
use Rattle.code_flat.specs.Machine.{Res}

-- "two answer lists of one length differ only at position k, from 0".
pub record OneChanged (k : ℕ) (qs ps : List ℕ) : Type 0 where
  pub long : length qs ≡ length ps
  pub others : (i : ℕ) → i ≢ k → get_or qs i 0 ≡ get_or ps i 0

-- The entries "up to and including the entry that takes answer k"; all of them if none does.
unfoldable pub up_to : ℕ → List Entry → List Entry
up_to k [] = []
up_to k (plain n ∷ es) = plain n ∷ up_to k es
up_to zero (asked n ∷ es) = asked n ∷ []
up_to (suc k) (asked n ∷ es) = asked n ∷ up_to k es

-- The entries behind that one.
unfoldable pub beyond : ℕ → List Entry → List Entry
beyond k [] = []
beyond k (plain n ∷ es) = beyond k es
beyond zero (asked n ∷ es) = es
beyond (suc k) (asked n ∷ es) = beyond k es

-- Two runs agree up to and including the entry that takes answer k; and to the end "if the first route takes k answers or fewer".
pub record Agree (k : ℕ) (r s : Res) : Type 0 where
  pub first : up_to k r.nodes ≡ up_to k s.nodes
  pub whole : asks r.nodes ≤ k → (r.nodes ≡ s.nodes) × (r.end ≡ s.end)

-- What of the answers the law needs: the first k are the same, and each list has one more; or the lists are the same, and shorter.
abbrev pub Alike : ℕ → List ℕ → List ℕ → Type 0
Alike k [] [] = Unit {0}
Alike k [] (c ∷ ps) = ⊥
Alike k (a ∷ qs) [] = ⊥
Alike zero (a ∷ qs) (c ∷ ps) = Unit {0}
Alike (suc k) (a ∷ qs) (c ∷ ps) = (a ≡ c) × Alike k qs ps
