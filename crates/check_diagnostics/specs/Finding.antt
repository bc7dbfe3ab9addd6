-- Findings, their seven numbers, and a slice that takes as many of them as it has room for.
use Rattle.std.specs.Prelude.{ℕ, ◌+◌, List, [], ◌∷◌, ◌++◌, cond, leb, length, Option, Some, None}
use Rattle.base_common.specs.Wrote.{put}
use Rattle.table_records.specs.Table.{span_start_of, span_end_of}
use Rattle.check_diagnostics.specs.declared.Finding.{Finding}

-- code, raising node, first span, second span, context
abbrev pub numbers : Finding → List ℕ
numbers f = f.code ∷ f.node.0 ∷ f.start ∷ f.end ∷ f.start2 ∷ f.end2 ∷ f.context ∷ []

-- the numbers of findings, one finding after the other
unfoldable pub flat : List Finding → List ℕ
flat [] = []
flat (f ∷ fs) = numbers f ++ flat fs

-- what a check raises, as a list
abbrev pub listed : Option Finding → List Finding
listed (Some f) = f ∷ []
listed None = []

-- raised at node n, with the span from s to e
abbrev pub error_span : ℕ → ℕ → ℕ → ℕ → ℕ → Option Finding
error_span code n s e context = Some (record { code = code; node = record { 0 = n }; start = s; end = e; start2 = 0; end2 = 0; context = context })

-- raised at node n, with the span of m
abbrev pub error_at : List ℕ → ℕ → ℕ → ℕ → ℕ → Option Finding
error_at ns code n m context = error_span code n (span_start_of ns m) (span_end_of ns m) context

-- raised at node n, with the spans of a and of b
abbrev pub error_between : List ℕ → ℕ → ℕ → ℕ → ℕ → Option Finding
error_between ns code n a b =
    Some (record { code = code; node = record { 0 = n }; start = span_start_of ns a; end = span_end_of ns a; start2 = span_start_of ns b; end2 = span_end_of ns b; context = 0 })

-- a slice with findings written from w on, each where there is room for it
unfoldable pub sink : List ℕ → ℕ → List Finding → List ℕ
sink s w [] = s
sink s w (f ∷ fs) = sink (cond (leb (w + 7) (length s)) (put s w (numbers f)) s) (w + 7) fs
