-- What `run` comes to, by what `map_err` makes of the check's error and of the viewer's.
use Rattle.std.specs.Prelude.{ℕ, ◌≡◌, refl, List, Result, Ok, Err, ⊤, MatchResult, IsErrAnd}
use Rattle.std.proofs.Common.{arith, ap, sym, subst, ◌∙◌}
use Rattle.refusal_verdict.proofs.VerdictLaws.{handed}
use Rattle.route_viewer.specs.declared.Route.{Route}
use Rattle.route_viewer.specs.Shown.{Routed}
use Rattle.call_run.specs.declared.NoRoute.{NoRoute}
use Rattle.call_run.specs.declared.NoRoute.TheVariants.{Invalid, Refused}
use Rattle.call_run.specs.Run.{shown_by, answer_by, slice_by}

abbrev pub Placed : Result ⊤ ℕ → Result ⊤ NoRoute → Type 0
Placed v w = MatchResult v (λ x. w ≡ Ok x) (λ p. IsErrAnd w (λ e. e ≡ Invalid p))

apart : {X : Type 0} (u : ⊤) (e : NoRoute) → Ok u ≡ Err e → X
apart u e q = let z : ◌≡◌ {A = ℕ} 0 1 = cc in absurd (omega arith)

pub invalid_answer : (v : Result ⊤ ℕ) (w : Result ⊤ NoRoute) (e : NoRoute) (r : Routed) → Placed v w → w ≡ Err e → Err e ≡ answer_by v r
invalid_answer (Ok x) w e r m q = apart x e (sym m ∙ q)
invalid_answer (Err p) w e r m q = ap Err (subst (λ (k : Result ⊤ NoRoute). IsErrAnd k (λ y. y ≡ Invalid p)) q m)

pub invalid_slice : (v : Result ⊤ ℕ) (w : Result ⊤ NoRoute) (e : NoRoute) (s s₀ : List ℕ) → Placed v w → w ≡ Err e → s₀ ≡ slice_by v s s₀
invalid_slice (Ok x) w e s s₀ m q = apart x e (sym m ∙ q)
invalid_slice (Err p) w e s s₀ m q = refl

pub valid_answer : (v : Result ⊤ ℕ) (w : Result ⊤ NoRoute) (u : ⊤) (r : Routed) → Placed v w → w ≡ Ok u → shown_by r ≡ answer_by v r
valid_answer (Ok x) w u r m q = refl
valid_answer (Err p) w u r m q = absurd (subst (λ (k : Result ⊤ NoRoute). IsErrAnd k (λ y. y ≡ Invalid p)) q m)

pub valid_slice : (v : Result ⊤ ℕ) (w : Result ⊤ NoRoute) (u : ⊤) (s s₀ : List ℕ) → Placed v w → w ≡ Ok u → s ≡ slice_by v s s₀
valid_slice (Ok x) w u s s₀ m q = refl
valid_slice (Err p) w u s s₀ m q = absurd (subst (λ (k : Result ⊤ NoRoute). IsErrAnd k (λ y. y ≡ Invalid p)) q m)

pub shown : (v : Routed) (w : Result Route NoRoute) → MatchResult v (λ x. w ≡ Ok x) (λ p. IsErrAnd w (λ e. e ≡ Refused p)) → w ≡ shown_by v
shown (Ok x) w m = m
shown (Err p) w m = handed w (Refused p) m
