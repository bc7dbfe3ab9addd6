-- Where kept instructions come to stand, looked up in a slice whose front is gathered (code_pass, Stages.antt).
use Rattle.std.specs.Prelude.{ℕ, ◌+◌, ◌-◌, ◌/◌, ◌^◌, min, ◌≤◌, ◌<◌, ◌≡◌, List, Option, Some, None, length, get_or, map}
use Rattle.route_completion.specs.Sem.{pick, elem}
use Rattle.code_valid.specs.Valid.{Valid}
use Rattle.code_shorten.specs.Closes.{In}
use Rattle.code_pass.specs.Stages.{kept_places, new_place, kept_to, marked, tagged, Split, Index}
use Rattle.code_places.specs.declared.index.Stride.{Stride}
use Rattle.code_places.specs.declared.index.Places.{Places}

-- What the entries of an index tell, each for itself.
abbrev pub begins : List Stride → List ℕ
begins index = map (λ s. s.begin) index

abbrev pub news : List Stride → List ℕ
news index = map (λ s. s.new) index

-- The k-th entry, of nothing past the end.
abbrev pub stride_in : List Stride → ℕ → Stride
stride_in index k = get_or index k (record { begin = 0; new = 0 })

-- The stride of an index of so many entries, for a code of so many numbers: all places that a target can name stand before the last entry.
unfoldable pub stride_for : ℕ → ℕ → ℕ
stride_for strides n = min n (2 ^ 32) / (strides - 1) + 4

-- The new place of the instruction at o; none where it is not kept.
abbrev pub kept_place : List ℕ → ℕ → Option ℕ
kept_place C o = pick (elem o (kept_places C)) (Some (new_place C o)) None

-- What a search reads: the numbers that begin the kept instructions of the front say their old places, and behind the split nothing is changed.
pub record Tagged (C f : List ℕ) (split : ℕ) : Type 0 where
  pub same : length f ≡ length C
  pub firsts : (o : ℕ) → In (kept_places C) o → o < split → get_or f (new_place C o) 0 ≡ tagged C o 0
  pub behind : (x : ℕ) → split ≤ x → get_or f x 0 ≡ marked C x

-- The index, the split, and how many kept numbers stand before it.
pub record Placed (C begins news : List ℕ) (stride split front : ℕ) : Type 0 where
  pub valid : Valid C
  pub index : Index C begins news stride
  pub cut : Split C split
  pub count : front ≡ kept_to C split

abbrev pub PlacedBy : List ℕ → Places → Type 0
PlacedBy C p = Placed C (begins p.index.now) (news p.index.now) p.stride p.split p.front
