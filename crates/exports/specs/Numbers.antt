-- Document 01's numbers for each case of an answer: the refusal's number, 0 where there is none, its place, and the length that 10, 11, 12 and 20 give beside.
-- The place of 18 is an offset in a lent code slice.
use Rattle.std.specs.Prelude.{ℕ, Result, Ok, Err}
use Rattle.refusal_verdict.specs.declared.Refused.{Refused}
use Rattle.refusal_verdict.specs.declared.Refusal.TheVariants as refusal
use Rattle.refusal_verdict.specs.Refusals.{number, number_of, place_of, needed_of}
use Rattle.route_viewer.specs.declared.Route.{Route}
use Rattle.route_viewer.specs.Shown.{Routed}
use Rattle.call_run.specs.declared.NoRoute.{NoRoute}
use Rattle.call_run.specs.declared.NoRoute.TheVariants as no_route
use Rattle.call_shorten.specs.Shorten.{freed}
use Rattle.exports.specs.declared.CheckAnswer.{CheckAnswer}
use Rattle.exports.specs.declared.CodeAnswer.{CodeAnswer}
use Rattle.exports.specs.declared.RouteAnswer.{RouteAnswer}
use Rattle.exports.specs.declared.SharedAnswer.{SharedAnswer}
use Rattle.exports.specs.declared.RenameAnswer.{RenameAnswer}
use Rattle.exports.specs.declared.RunAnswer.{RunAnswer}
use Rattle.exports.specs.declared.ShortenAnswer.{ShortenAnswer}

abbrev pub check_numbers : Result ℕ Refused → CheckAnswer
check_numbers (Ok n) = record { refusal = 0; place = 0; findings = n; needed = 0 }
check_numbers (Err e) = record { refusal = number_of e; place = place_of e; findings = 0; needed = needed_of e }

abbrev pub code_numbers : Result ℕ Refused → CodeAnswer
code_numbers (Ok n) = record { refusal = 0; place = 0; length = n; needed = 0 }
code_numbers (Err e) = record { refusal = number_of e; place = place_of e; length = 0; needed = needed_of e }

abbrev pub route_numbers : Routed → RouteAnswer
route_numbers (Ok r) = record { refusal = 0; place = 0; entries = r.entries; needed = 0; taken = r.taken; end = r.end }
route_numbers (Err e) = record { refusal = number_of e; place = place_of e; entries = 0; needed = needed_of e; taken = 0; end = 0 }

abbrev pub shared_numbers : Result ℕ Refused → SharedAnswer
shared_numbers (Ok n) = record { refusal = 0; place = 0; shared = n; needed = 0 }
shared_numbers (Err e) = record { refusal = number_of e; place = place_of e; shared = 0; needed = needed_of e }

abbrev pub rename_numbers : Result ℕ Refused → RenameAnswer
rename_numbers (Ok n) = record { refusal = 0; place = 0; names = n; needed = 0 }
rename_numbers (Err e) = record { refusal = number_of e; place = place_of e; names = 0; needed = needed_of e }

abbrev pub run_numbers : Result Route NoRoute → RunAnswer
run_numbers (Ok r) = record { refusal = 0; end = r.end; place = 0; entries = r.entries; needed = 0; taken = r.taken }
run_numbers (Err (no_route.Invalid p)) = record { refusal = number refusal.NoCode; end = 0; place = p; entries = 0; needed = 0; taken = 0 }
run_numbers (Err (no_route.Refused e)) = record { refusal = number_of e; end = 0; place = place_of e; entries = 0; needed = needed_of e; taken = 0 }

-- Of a slice of so many entries.
abbrev pub shorten_numbers : ℕ → Result ℕ ℕ → ShortenAnswer
shorten_numbers old (Ok new) = record { refusal = 0; place = 0; length = new; freed = freed old new }
shorten_numbers old (Err p) = record { refusal = number refusal.NoCode; place = p; length = 0; freed = 0 }
