-- The jumps that are saved while a code is gathered at the front of its slice (code_pass, Stages.antt): C is the code that came in, f what the slice
-- holds.
use Rattle.std.specs.Prelude.{ℕ, zero, suc, ◌+◌, ◌*◌, ◌≤◌, ◌<◌, ◌≡◌, Bool, true, false, not, ◌&&◌, ◌||◌, List, [], ◌∷◌, length, get_or, ltb, leb, eqb, Option, Some, None}
use Rattle.route_completion.specs.Sem.{pick, elem}
use Rattle.code_flat.specs.Machine.{Instr, is_zero}
use Rattle.code_valid.specs.Instrs.{len, parse, find}
use Rattle.code_machine.specs.declared.Target.{Target}
use Rattle.code_shorten.specs.Short.{to, aim_of, hop, further, last}
use Rattle.code_shorten.specs.Closes.{In}
use Rattle.code_pass.specs.Stages.{sent_on, kept_places, kept_to, mark, marked, Fronted}
use Rattle.code_mark.specs.Read.{read_at}
use Rattle.code_places.specs.Placing.{kept_place}

-- Where at most n jumps lead from t on at the depth d, each read by h; none where more follow one another.
unfoldable pub way : (ℕ → Option Target) → ℕ → ℕ → ℕ → Option Target
way h zero t d = None
way h (suc n) t d = further (way h n) (h t) t d

abbrev pub follow : (ℕ → ℕ → Option Target) → Option Target → Option Target
follow k None = None
follow k (Some aim) = k aim.place aim.depth

-- The jumps behind the split, of the code and as a function reads them.
abbrev pub hop_behind : List ℕ → ℕ → ℕ → Option Target
hop_behind C split t = pick (ltb t split) None (hop (parse C) t)

abbrev pub hop_read : List ℕ → ℕ → ℕ → Option Target
hop_read f split t = pick (ltb t split) None (pick (is_zero t) None (aim_of (read_at f t)))

-- THE ENTRY of the instruction i at p, if it is a kept jump: where it leads by jumps behind the split alone, to the front or to a place where no jump
-- stands.
unfoldable pub entry : List ℕ → ℕ → ℕ → Instr → Option Target
entry C split p i = pick (elem p (kept_places C)) (follow (way (hop_behind C split) (length C + 1)) (aim_of i)) None

unfoldable pub entry_read : List ℕ → ℕ → ℕ → Option Target
entry_read f split p = pick (ltb (get_or f p 0) mark) None (follow (way (hop_read f split) (length f + 1)) (aim_of (read_at f p)))

-- What the instructions at `from` and behind come to, from the last on; the list begins at p.
unfoldable pub back : {A : Type 0} → (ℕ → Instr → A → A) → A → ℕ → List Instr → ℕ → A
back g z from [] p = z
back g z from (i ∷ is) p = pick (leb from p) (g p i (back g z from is (p + len i))) (back g z from is (p + len i))

abbrev pub comes : ℕ → Option Target → Bool
comes x None = false
comes x (Some aim) = eqb aim.place x

-- Some kept jump from a place on enters at x.
abbrev pub entered_by : List ℕ → ℕ → ℕ → ℕ → Instr → Bool → Bool
entered_by C split x p i b = comes x (entry C split p i) || b

abbrev pub entered : List ℕ → ℕ → ℕ → ℕ → Bool
entered C split x from = back (entered_by C split x) false from (parse C) 0

abbrev pub is_jump : Option Target → Bool
is_jump None = false
is_jump (Some aim) = true

-- A jump of the front that is not kept.
abbrev pub dropped : List ℕ → ℕ → ℕ → Bool
dropped C split x = ltb x split && (not (elem x (kept_places C)) && is_jump (aim_of (find (parse C) 0 x)))

-- THE SAVED ONES: the dropped jumps where kept ones from a place on enter, each once: by the last that enters there.
abbrev pub with_entry : List ℕ → ℕ → Option Target → List ℕ → List ℕ
with_entry C split None xs = xs
with_entry C split (Some aim) xs = pick (dropped C split aim.place && not (elem aim.place xs)) (aim.place ∷ xs) xs

abbrev pub needed_by : List ℕ → ℕ → ℕ → Instr → List ℕ → List ℕ
needed_by C split p i xs = with_entry C split (entry C split p i) xs

abbrev pub needed : List ℕ → ℕ → ℕ → List ℕ
needed C split from = back (needed_by C split) [] from (parse C) 0

-- Three numbers that say a dropped jump: its place, and where it leads when it is sent on.
pub record Slot (C f : List ℕ) (split at : ℕ) : Type 0 where
  pub out : dropped C split (get_or f at 0) ≡ true
  pub leads : aim_of (find (sent_on C) 0 (get_or f at 0)) ≡ to (get_or f (at + 1) 0) (get_or f (at + 2) 0)

-- n such, from `at` on.
abbrev pub Slots : List ℕ → List ℕ → ℕ → ℕ → ℕ → Type 0
Slots C f split at n = (j : ℕ) → j < n → Slot C f split (at + 3 * j)

-- One of them says x.
abbrev pub Says : List ℕ → ℕ → ℕ → ℕ → Type 0
Says f at n x = (j : ℕ) × (j < n) × (get_or f (at + 3 * j) 0 ≡ x)

-- They say all that is needed from a place on, and are no more.
pub record Saved (C f : List ℕ) (split from at n : ℕ) : Type 0 where
  pub slots : Slots C f split at n
  pub all : (x : ℕ) → In (needed C split from) x → Says f at n x
  pub few : n ≤ length (needed C split from)

-- Behind the split the slice holds the code, with what is kept marked.
pub record Behind (C f : List ℕ) (split : ℕ) : Type 0 where
  pub same : length f ≡ length C
  pub behind : (x : ℕ) → split ≤ x → get_or f x 0 ≡ marked C x

-- Where the last targets of the kept jump i lie.
abbrev pub target : List ℕ → Instr → Option Target
target C i = follow (last (parse C) (suc (length (parse C)))) (aim_of i)

-- The jump of the front at t, sent on.
abbrev pub hop_sent : List ℕ → ℕ → ℕ → Option Target
hop_sent C split t = pick (ltb t split) (pick (is_zero t) None (aim_of (find (sent_on C) 0 t))) None

-- f with w of some words put at o, before n numbers that stood there and move up.
pub record Pushed (f : List ℕ) (o n : ℕ) (words : List ℕ) (w : ℕ) (g : List ℕ) : Type 0 where
  pub same : length g ≡ length f
  pub here : (j : ℕ) → j < w → get_or g (o + j) 0 ≡ get_or words j 0
  pub moved : (x : ℕ) → x < n → get_or g (o + w + x) 0 ≡ get_or f (o + x) 0
  pub below : (x : ℕ) → x < o → get_or g x 0 ≡ get_or f x 0
  pub above : (x : ℕ) → o + w + n ≤ x → get_or g x 0 ≡ get_or f x 0

-- Of the slots from `at` to the split one says t, or none does.
abbrev pub Found : List ℕ → ℕ → ℕ → ℕ → Option ℕ → Type 0
Found f at split t None = (j : ℕ) → at + 3 * j < split → get_or f (at + 3 * j) 0 ≡ t → ⊥
Found f at split t (Some x) = (j : ℕ) × (x ≡ at + 3 * j) × (x < split) × (get_or f x 0 ≡ t)

-- THE FRONT is gathered, and what is needed behind it is saved.
pub record Gathering (C f : List ℕ) (split kept saved : ℕ) : Type 0 where
  pub fronted : Fronted C f split
  pub value : kept ≡ kept_to C split
  pub room : kept + 3 * saved ≤ split
  pub all_saved : Saved C f split split kept saved

-- Where the instruction now stands that stood at t; none where it is of the front and was dropped.
abbrev pub place_in : List ℕ → ℕ → ℕ → Option ℕ
place_in C split t = pick (ltb t split) (kept_place C t) (Some t)

-- The block of slots begins at `at`, and saves what is needed from p on.
pub record Freed (C f : List ℕ) (split p at : ℕ) : Type 0 where
  pub count : ℕ
  pub ends : at + 3 * count ≡ split
  pub all_saved : Saved C f split p at count
