use Rattle.code_contexts.proofs.PlacesLaws.{places_start}
use native.Mathlib.Omega.{arith}
use mathlib.Core.Path.{refl}
use Prim.Native.Nat.{ℕ}
use lib.ListN.{length-set}
use Rattle.code_contexts.proofs.fill_places.Goals as goal

pub loop-j-init : goal.loop-j-init
loop-j-init c =
    let a = c.args in
    let d = a.draft.now in
    let r = c.requires.room in
    let root = c.requires.ready.held.root in
    record {
      same_arrays = record { widths = refl; levels = refl; offsets = refl; follows = refl };
      room = record { widths = r.widths; levels = r.levels; offsets = omega (arith, length-set {A = ℕ}); follows = omega (arith, length-set {A = ℕ}) };
      widths = refl;
      places = places_start a.nodes.now a.names.now a.b.0 c.requires.ready d.levels.now d.offsets.now d.follows.now (omega arith) (omega arith) c.requires.units c.requires.widths.after;
    }
