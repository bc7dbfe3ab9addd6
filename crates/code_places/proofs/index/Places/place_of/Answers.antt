use Rattle.std.proofs.Common.{◌≡◌, ℕ, ◌+◌, ◌<◌, ◌≤◌, Some, sym, ◌∙◌, ap, arith}
use Rattle.std.proofs.lemmas.Result.{Ok-from_Ok_iff}
use Rattle.std.specs.Result.{result_unwrap_or}
use Rattle.route_completion.specs.Sem.{pick}
use Rattle.code_pass.specs.Stages.{kept_places, sent_on, new_place}
use Rattle.code_pass.proofs.KeptLaws.{sent_sound, kept_begin, kept_fits, place_is}
use Rattle.code_places.proofs.index.Places.place_of.Goals.{then-o-self, else-o-self}
use Rattle.code_places.proofs.index.Places.place_of.Goals as goal

pub returns : goal.returns
returns c =
    λ C k t i.
    let o = c.args.o in
    let e : c.if-o-self.place ≡ new_place C o = elim c.if-o-self.branch [
      | then-o-self w ↦
          let g = w.front_place.ensures C k t (omega (arith, w.if-o-self.true)) in
          w.place-is ∙ w.unwrap_or-place.ensures ∙ ap (λ r. Rattle.std.specs.Option.unwrap_or r 0) (g ∙ ap (λ b. pick b (Some (new_place C o)) Rattle.std.proofs.Common.None) i)
      | else-o-self w ↦ w.place-is ∙ w.tail_place-place.ensures C k t (omega (arith, w.if-o-self.false)) i
    ] in
    let b = kept_begin C k.valid o i in
    let low : new_place C o < 4294967296 = omega (arith, place_is C k.valid o b, kept_fits (kept_places C) (sent_on C) 0 o (sent_sound C k.valid).some b) in
    c.unwrap_or.ensures ∙ ap (λ r. result_unwrap_or r 0) (Ok-from_Ok_iff c.try_from.result _ c.if-o-self.place c.try_from.ensures (omega (arith, e))) ∙ e
