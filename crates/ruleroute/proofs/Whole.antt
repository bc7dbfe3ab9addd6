-- What is written is what is printed of the whole input.
use Rattle.std.specs.Prelude.{◌≡◌, ℕ, List, IfSome, None, Some, length, take}
use Rattle.std.proofs.Common.{ap, sym, subst, ◌∙◌}
use Rattle.std.specs.declared.option.Option.{Option}
use Rattle.std.specs.Io.KnownBytes.{Appends}
use Rattle.route_viewer.specs.Shown.{Routed}
use Rattle.line_input.specs.Route.{enough}
use Rattle.ruleroute.specs.Answer.{entries_of, printed, routed_of, text_of}
use Rattle.ruleroute.proofs.AnswerLaws.{entries_whole, routed_whole}

-- the text of the answer for what was read is that for all bytes of the input
pub answered : (left : Option (List ℕ)) (n : ℕ) (read f out : List ℕ) (answer : Routed) → n ≡ enough → IfSome left (λ bytes. read ≡ take n bytes)
    → (answer ≡ routed_of read (length f)) × (out ≡ entries_of read f) → IfSome left (λ bytes. text_of answer out ≡ printed bytes f)
answered None n read f out answer e h p = tt
answered (Some bytes) n read f out answer e h p =
    let whole : read ≡ take enough bytes = h ∙ ap (λ k. take k bytes) e in
    ap (λ r. text_of r out) (p.0 ∙ ap (λ b. routed_of b (length f)) whole ∙ routed_whole bytes (length f))
    ∙ ap (text_of (routed_of bytes (length f))) (p.1 ∙ ap (λ b. entries_of b f) whole ∙ entries_whole bytes f)

pub appended : (left old new : Option (List ℕ)) (f shown : List ℕ) → IfSome left (λ bytes. shown ≡ printed bytes f) → Appends old new shown
    → IfSome left (λ bytes. Appends old new (printed bytes f))
appended None old new f shown e h = tt
appended (Some bytes) old new f shown e h = subst (Appends old new) e h

-- both, as the code comes to them
pub appended_whole : (left old new : Option (List ℕ)) (n : ℕ) (got read f out : List ℕ) (answer : Routed) → n ≡ enough → IfSome left (λ bytes. got ≡ take n bytes) → read ≡ got
    → (answer ≡ routed_of read (length f)) × (out ≡ entries_of read f) → Appends old new (text_of answer out) → IfSome left (λ bytes. Appends old new (printed bytes f))
appended_whole left old new n got read f out answer e h q p w =
    appended left old new f (text_of answer out) (answered left n read f out answer e (subst (λ k. IfSome left (λ bytes. k ≡ take n bytes)) (sym q) h) p) w
