-- A route taken up and stopped, and what it leaves of the array of marks.
use Rattle.std.specs.Prelude.{ℕ, zero, suc, ◌+◌, ◌<◌, ◌≡◌, List, [], Bool, true, cond, ◌&&◌, ◌||◌, eqb, ltb, leb, length, get_or}
use Rattle.code_flat.specs.Machine.{room, Pos, pos}
use Rattle.code_marks.specs.Stop.{Stop, held, over, stopped, taken_up}
use Rattle.code_marks.specs.Begins.{width}
use Rattle.code_machine.specs.Halted.{route_to}
use Rattle.route_marks.specs.Marks.{marks, is_set, mark_at, set_mark}
use Rattle.route_marks.specs.declared.Begin.{Begin}
use Rattle.route_marks.specs.declared.Begin.TheVariants.{Start, Mark}
use Rattle.route_marks.specs.declared.Section.{Section}

-- Where a route begins: at its start, or at a mark.
abbrev pub begin_at : List ℕ → Begin → Pos
begin_at M Start = pos 0 []
begin_at M (Mark m) = mark_at M m

-- 17: "holds a place where no instruction of the unit's code begins". From o at most n instructions lead to x, ..
unfoldable pub leads : List ℕ → ℕ → ℕ → ℕ → Bool
leads C x zero o = eqb o x
leads C x (suc n) o = eqb o x || leads C x n (o + width (get_or C o 0))

-- .. and one begins there. It is that of Begins (BeginsLaws.begins_is): each takes a number at least, so that x lead as far as any.
unfoldable pub begins_at : List ℕ → ℕ → Bool
begins_at C x = leads C x x 0 && ltb 0 (width (get_or C x 0))

-- A mark that is taken up is set: refusal 16 has been tested.
-- A `requires` and no struct's invariant: it ties a number to the lent array of marks, which the same call changes.
abbrev pub CanBegin : List ℕ → Begin → Type 0
CanBegin M Start = Unit {0}
CanBegin M (Mark m) = is_set M m ≡ true

-- 16 has been tested of a section: the mark that it begins at is set, and there is one of the number that it is to be stopped under.
-- A `requires` too, and the number no ghost field of `Section`: a call has its section before this is known, since the refusals of the code call go first.
pub record Tested (M : List ℕ) (s : Section) : Type 0 where
  pub begin : CanBegin M s.begin
  pub to : s.to < marks

-- "A route may be stopped right after the entry that takes the last of a named number of answers (for 0, at its start) .. and taken up again from there";
-- "its number, list length and answers taken count from the mark".
abbrev pub stop_of : List ℕ → List ℕ → List ℕ → Begin → ℕ → Stop
stop_of M C qs begin stop = stopped room C stop (begin_at M begin) qs

-- .. of a section.
abbrev pub stop_of_section : List ℕ → List ℕ → Section → Stop
stop_of_section M C s = stop_of M C s.answers.now s.begin s.stop

-- Taken up, and not stopped again: "with 5 where it comes to no other end", as the machine has it on any code, place and pending ends.
abbrev pub gone_on : List ℕ → List ℕ → List ℕ → ℕ → Stop
gone_on M C qs m = over (taken_up room C (mark_at M m) qs)

-- "A route that ends before the named number sets no mark".
abbrev pub marks_after : List ℕ → ℕ → Stop → List ℕ
marks_after M to (held es p r) = set_mark M to p
marks_after M to (over r) = M

-- ".. nor does a refusal": 12, where the route slice of that length is shorter than the route.
unfoldable pub marks_shown : List ℕ → ℕ → Stop → ℕ → List ℕ
marks_shown M to s room = cond (leb (length (route_to s).list) room) (marks_after M to s) M
