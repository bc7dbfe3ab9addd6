use mathlib.Core.Path.{◌≡◌}
use Rattle.code_contexts.specs.Contexts.{Places}
use Rattle.code_contexts.specs.Turn.{Room, SameArrays}
use Rattle.code_contexts.proofs.fill_places.Given as goal

abbrev pub invariant-loop-j : goal.invariant-loop-j
invariant-loop-j l =
    record {
      same_arrays : SameArrays l.initial.draft l.draft;
      room : Room l.nodes l.draft;
      widths : l.draft.widths.now ≡ l.initial.draft.widths.now;
      places : Places l.nodes l.names l.b.0 l.j l.draft.levels.now l.draft.offsets.now l.draft.follows.now;
    }
