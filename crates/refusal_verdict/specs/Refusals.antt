-- The refusals by the numbers that documents 01 and 02 give them. 0, a line that can't be read, is the programs' alone; 8 is no longer given: units that
-- hold a Try have routes.
use Rattle.std.specs.Prelude.{ℕ}
use Rattle.refusal_verdict.specs.declared.Refusal.{Refusal}
use Rattle.refusal_verdict.specs.declared.Refusal.TheVariants.{Unread, Sizes, Unlisted, Tree, Bytes, Scopes, Walk, Unit, Findings, FindingsSlice, CodeSlice, RouteSlice, Misplaced, WrongCount, ReturnInStatic, Mark, MarkPlace, NoCode, Label, RenamedSlices}
use Rattle.refusal_verdict.specs.declared.Refused.{Refused}
use Rattle.refusal_verdict.specs.declared.Refused.TheVariants.{At, Short}

abbrev pub number : Refusal → ℕ
number Unread = 0
number Sizes = 1
number Unlisted = 2
number Tree = 3
number Bytes = 4
number Scopes = 5
number Walk = 6
number Unit = 7
number Findings = 9
number FindingsSlice = 10
number CodeSlice = 11
number RouteSlice = 12
number Misplaced = 13
number WrongCount = 14
number ReturnInStatic = 15
number Mark = 16
number MarkPlace = 17
number NoCode = 18
number Label = 19
number RenamedSlices = 20

-- what is told of it: the number, the place, and the length needed where a slice is too short
abbrev pub number_of : Refused → ℕ
number_of (At r place) = number r
number_of (Short r needed) = number r

abbrev pub place_of : Refused → ℕ
place_of (At r place) = place
place_of (Short r needed) = 0

abbrev pub needed_of : Refused → ℕ
needed_of (At r place) = 0
needed_of (Short r needed) = needed
