-- The states of one slice while the pass of document 02, 10/13, goes over it: C is the code that came in, f what the slice holds.
-- The numbers 1 to 7 begin instructions. Such a number is raised by multiples of 8 to say more of its instruction for a time.
use Rattle.std.specs.Prelude.{ℕ, ◌+◌, ◌*◌, ◌^◌, ◌%◌, ◌/◌, ◌≤◌, ◌<◌, ◌≡◌, ◌&&◌, List, [], ◌∷◌, ◌⊎◌, length, get_or, ltb, eqb}
use Rattle.route_completion.specs.Sem.{pick, elem}
use Rattle.code_flat.specs.Machine.{Instr}
use Rattle.code_valid.specs.Instrs.{len, words, parse, find}
use Rattle.code_shorten.specs.Short.{threaded, reached, shorter}
use Rattle.code_shorten.specs.Sound.{Begin}
use Rattle.code_shorten.specs.Closes.{In}
-- Where the kept instruction at o comes to stand: `new_place`.
pub use Rattle.code_shorten.specs.Claims.{new_place}

-- The instructions with their jumps sent on, and the places of those that a path reaches then, which are kept.
abbrev pub sent_on : List ℕ → List Instr
sent_on C = threaded (parse C)

abbrev pub kept_places : List ℕ → List ℕ
kept_places C = reached (sent_on C)

-- How many numbers of the instructions before o are kept; the list begins at p.
unfoldable pub kept_before : List ℕ → List Instr → ℕ → ℕ → ℕ
kept_before S [] p o = 0
kept_before S (i ∷ is) p o = pick (ltb p o && elem p S) (len i) 0 + kept_before S is (p + len i) o

abbrev pub kept_to : List ℕ → ℕ → ℕ
kept_to C o = kept_before (kept_places C) (sent_on C) 0 o

-- FIRST STATE. What is kept is marked, by 8; all else is as it came.
abbrev pub mark : ℕ
mark = 8

abbrev pub marked : List ℕ → ℕ → ℕ
marked C x = get_or C x 0 + pick (elem x (kept_places C)) mark 0

pub record Marked (C f : List ℕ) : Type 0 where
  pub same : length f ≡ length C
  pub each : (x : ℕ) → get_or f x 0 ≡ marked C x

-- The split: the first place from the new length on where an instruction begins, or the end. What stands before it is the front, and the rest is to
-- stay as it is.
pub record Split (C : List ℕ) (split : ℕ) : Type 0 where
  pub behind : length (shorter C) ≤ split
  pub near : split < length (shorter C) + 4
  pub begins : Begin (parse C) split ⊎ (split ≡ length C)
  pub first : (o : ℕ) → Begin (parse C) o → length (shorter C) ≤ o → split ≤ o

-- An index of places: the k-th entries tell the first place from k times the stride on where an instruction begins, or the end, and how many kept
-- numbers stand before it. A stride is below 2 ^ 29, so places in one stride differ in their remainders. Each place that a target can name stands
-- before an entry: what is looked for ends there, also in a code that is longer than 2 ^ 32.
abbrev pub cycle : ℕ
cycle = 2 ^ 29

pub record Index (C begins news : List ℕ) (stride : ℕ) : Type 0 where
  pub positive : 0 < stride
  pub small : stride < cycle
  pub same : length news ≡ length begins
  pub covers : (o : ℕ) → o < length C → o < 2 ^ 32 → o / stride + 1 < length begins
  pub from : (k : ℕ) → k < length begins → (k * stride ≤ get_or begins k 0) ⊎ (get_or begins k 0 ≡ length C)
  pub begun : (k : ℕ) → k < length begins → Begin (parse C) (get_or begins k 0) ⊎ (get_or begins k 0 ≡ length C)
  pub first : (k o : ℕ) → k < length begins → Begin (parse C) o → k * stride ≤ o → get_or begins k 0 ≤ o
  pub new : (k : ℕ) → k < length begins → get_or news k 0 ≡ kept_to C (get_or begins k 0)

-- SECOND STATE. The jumps of the front, kept or not, are sent on where they stand.
abbrev pub sent_word : List ℕ → ℕ → ℕ → ℕ
sent_word C o j = get_or (words (find (sent_on C) 0 o)) j 0 + pick (eqb j 0 && elem o (kept_places C)) mark 0

pub record Sent (C f : List ℕ) (split : ℕ) : Type 0 where
  pub same : length f ≡ length C
  pub front : (o j : ℕ) → Begin (parse C) o → o < split → j < len (find (sent_on C) 0 o) → get_or f (o + j) 0 ≡ sent_word C o j
  pub behind : (x : ℕ) → split ≤ x → get_or f x 0 ≡ marked C x

-- THIRD STATE. The kept instructions of the front stand at their new places, jumps sent on, but name old places; the number that begins one is raised
-- by 8 times the remainder of its old place. From the split on nothing is changed.
abbrev pub tagged : List ℕ → ℕ → ℕ → ℕ
tagged C o j = get_or (words (find (sent_on C) 0 o)) j 0 + pick (eqb j 0) (8 * (o % cycle)) 0

pub record Fronted (C f : List ℕ) (split : ℕ) : Type 0 where
  pub same : length f ≡ length C
  pub front : (o j : ℕ) → In (kept_places C) o → o < split → j < len (find (sent_on C) 0 o) → get_or f (new_place C o + j) 0 ≡ tagged C o j
  pub behind : (x : ℕ) → split ≤ x → get_or f x 0 ≡ marked C x

-- FOURTH STATE. So do those behind the split, whose beginnings are not raised, as far as p.
pub record Gathered (C f : List ℕ) (split p : ℕ) : Type 0 where
  pub fronted : Fronted C f split
  pub back : (o j : ℕ) → In (kept_places C) o → split ≤ o → o < p → j < len (find (sent_on C) 0 o)
      → get_or f (new_place C o + j) 0 ≡ get_or (words (find (sent_on C) 0 o)) j 0
