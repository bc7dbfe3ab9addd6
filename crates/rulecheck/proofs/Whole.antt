-- What is written is the response to the whole input.
use Rattle.std.specs.Prelude.{◌≡◌, ℕ, List, IfSome, None, Some, length, take}
use Rattle.std.proofs.Common.{ap, sym, subst, ◌∙◌}
use Rattle.std.proofs.Math.Seq.{take-append_seam}
use Rattle.std.specs.declared.option.Option.{Option}
use Rattle.std.specs.Io.KnownBytes.{Appends}
use Rattle.line_input.specs.Format.{front}
use Rattle.line_input.specs.Route.{enough}
use Rattle.rulecheck.specs.Response.{response}
use Rattle.rulecheck.proofs.ResponseLaws.{response_whole}

-- the response to what was read, which stands at a slice's front, is that to all bytes of the input
pub answered : (left : Option (List ℕ)) (n : ℕ) (read shown out f : List ℕ) (end : ℕ) → n ≡ enough → IfSome left (λ bytes. read ≡ take n bytes)
    → (end ≡ length (response read)) × (out ≡ front (response read) f) → shown ≡ take end out → IfSome left (λ bytes. shown ≡ response bytes)
answered None n read shown out f end e h p s = tt
answered (Some bytes) n read shown out f end e h p s =
    s ∙ ap (λ k. take k out) p.0 ∙ ap (take (length (response read))) p.1 ∙ take-append_seam (response read) _
    ∙ ap response (h ∙ ap (λ k. take k bytes) e) ∙ response_whole bytes

pub appended : (left old new : Option (List ℕ)) (shown : List ℕ) → IfSome left (λ bytes. shown ≡ response bytes) → Appends old new shown
    → IfSome left (λ bytes. Appends old new (response bytes))
appended None old new shown e h = tt
appended (Some bytes) old new shown e h = subst (Appends old new) e h

-- both, as the code comes to them
pub appended_whole : (left old new : Option (List ℕ)) (n : ℕ) (got read shown out f : List ℕ) (end : ℕ) → n ≡ enough → IfSome left (λ bytes. got ≡ take n bytes) → read ≡ got
    → (end ≡ length (response read)) × (out ≡ front (response read) f) → shown ≡ take end out → Appends old new shown → IfSome left (λ bytes. Appends old new (response bytes))
appended_whole left old new n got read shown out f end e h q p s w =
    appended left old new shown (answered left n read shown out f end e (subst (λ k. IfSome left (λ bytes. k ≡ take n bytes)) (sym q) h) p s) w
