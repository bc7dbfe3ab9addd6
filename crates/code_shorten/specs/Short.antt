-- The pass of request 10: "sends each jump to its last target, drops what no path reaches and closes up the room". A jump is LEAVE and CASE.
use Rattle.std.specs.Prelude.{ℕ, zero, suc, ◌+◌, min, Bool, false, ◌&&◌, ◌||◌, List, [], ◌∷◌, map, length, eqb, Option, Some, None}
use Rattle.route_completion.specs.Sem.{pick, elem}
use Rattle.code_flat.specs.Machine.{Instr, NONE, LIST, LEAVE, ASK, SELECT, OPEN, END, CASE, is_zero}
use Rattle.code_machine.specs.declared.Target.{Target}
use Rattle.code_valid.specs.Instrs.{len, flat, parse, find, leads}

-- To a place, at a depth.
abbrev pub to : ℕ → ℕ → Option Target
to t d = Some (record { place = t; depth = d })

-- Its place and its depth; 0 where it goes nowhere.
abbrev pub place_in : Option Target → ℕ
place_in None = 0
place_in (Some aim) = aim.place

abbrev pub depth_in : Option Target → ℕ
depth_in None = 0
depth_in (Some aim) = aim.depth

-- Where a jump goes, to a place at a depth; none where there is no jump.
abbrev pub aim_of : Instr → Option Target
aim_of NONE = None
aim_of (LIST n) = None
aim_of (LEAVE t d) = to t d
aim_of (ASK n y z) = None
aim_of (SELECT n c e) = None
aim_of (OPEN f) = None
aim_of (END e) = None
aim_of (CASE c t d) = to t d

-- The jump that stands at t. The place 0 stands for what is pending, and no jump is there.
unfoldable pub hop : List Instr → ℕ → Option Target
hop is t = pick (is_zero t) None (aim_of (find is 0 t))

abbrev pub further : (ℕ → ℕ → Option Target) → Option Target → ℕ → ℕ → Option Target
further k None t d = to t d
further k (Some aim) t d = k aim.place (min d aim.depth)

-- The last target from t on, with the least depth on the way; none where more than f jumps follow one another: in a ring.
unfoldable pub last : List Instr → ℕ → ℕ → ℕ → Option Target
last is zero t d = None
last is (suc f) t d = further (last is f) (hop is t) t d

-- A jump that leads into a ring stays.
abbrev pub aimed : Option Target → (ℕ → ℕ → Instr) → Instr → Instr
aimed None k i = i
aimed (Some aim) k i = k aim.place aim.depth

abbrev pub thread : List Instr → Instr → Instr
thread is NONE = NONE
thread is (LIST n) = LIST n
thread is (LEAVE t d) = aimed (last is (suc (length is)) t d) LEAVE (LEAVE t d)
thread is (ASK n y z) = ASK n y z
thread is (SELECT n c e) = SELECT n c e
thread is (OPEN f) = OPEN f
thread is (END e) = END e
thread is (CASE c t d) = aimed (last is (suc (length is)) t d) (CASE c) (CASE c t d)

unfoldable pub threaded : List Instr → List Instr
threaded is = map (thread is) is

-- One that stands at a place of S, from p on, leads to o.
unfoldable pub named : List Instr → ℕ → List ℕ → ℕ → Bool
named [] p S o = false
named (i ∷ is) p S o = (elem p S && elem o (leads p i)) || named is (p + len i) S o

-- The places of S, and those where its instructions lead.
unfoldable pub round : List Instr → List Instr → ℕ → List ℕ → List ℕ
round all [] p S = []
round all (i ∷ is) p S = pick (elem p S || named all 0 S p) (p ∷ round all is (p + len i) S) (round all is (p + len i) S)

unfoldable pub rounds : List Instr → ℕ → List ℕ
rounds is zero = 0 ∷ []
rounds is (suc f) = round is is 0 (rounds is f)

-- What a path reaches from 0: as many rounds as there are instructions are enough.
abbrev pub reached : List Instr → List ℕ
reached is = rounds is (length is)

-- Where the instruction at o comes to stand, if those of S stay and are closed up; the list begins at p, and comes to stand at q.
unfoldable pub moved : List ℕ → List Instr → ℕ → ℕ → ℕ → ℕ
moved S [] p q o = 0
moved S (i ∷ is) p q o = pick (eqb p o) q (moved S is (p + len i) (pick (elem p S) (q + len i) q) o)

abbrev pub relocate : (ℕ → ℕ) → Instr → Instr
relocate φ NONE = NONE
relocate φ (LIST n) = LIST n
relocate φ (LEAVE t d) = LEAVE (φ t) d
relocate φ (ASK n y z) = ASK n (φ y) (φ z)
relocate φ (SELECT n c e) = SELECT n (φ c) (φ e)
relocate φ (OPEN f) = OPEN (φ f)
relocate φ (END e) = END e
relocate φ (CASE c t d) = CASE (φ c) (φ t) d

unfoldable pub kept : (ℕ → ℕ) → List ℕ → List Instr → ℕ → List Instr
kept φ S [] p = []
kept φ S (i ∷ is) p = pick (elem p S) (relocate φ i ∷ kept φ S is (p + len i)) (kept φ S is (p + len i))

unfoldable pub close_up : List ℕ → List Instr → List Instr
close_up S is = kept (moved S is 0 0) S is 0

abbrev pub closed_up : List Instr → List Instr
closed_up is = close_up (reached is) is

unfoldable pub shorter : List ℕ → List ℕ
shorter C = flat (closed_up (threaded (parse C)))
