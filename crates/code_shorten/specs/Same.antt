-- THE ROUTES STAY: the shorter code runs as the code does, for all answers. It holds for every valid code that the forward machine of
-- code_flat runs without giving up: control goes forward between answers, or back to an ASK, so that the budget of instructions is never spent.
use Rattle.std.specs.Prelude.{ℕ, ◌≡◌, List, [], length}
use Rattle.std.proofs.Common.{sym, ◌∙◌, ap, subst}
use Rattle.code_flat.specs.Machine.{Instr, Res, run}
use Rattle.code_flat.proofs.Meet.{meet}
use Rattle.code_flat.specs.Forward.{run as runF}
use Rattle.code_valid.specs.Instrs.{flat, parse}
use Rattle.code_valid.specs.Valid.{Valid}
use Rattle.code_shorten.specs.Short.{threaded, reached, closed_up, shorter}
use Rattle.code_shorten.specs.Alike.{Kept}
use Rattle.code_shorten.specs.Sound.{Sound, flat_parse, valid_sound}
use Rattle.code_shorten.specs.Threads.{threaded_runs, threaded_sound}
use Rattle.code_shorten.specs.Closes.{closed_runs}
use Rattle.code_shorten.specs.Reaches.{reached_zero, reached_closed}

-- The whole run of a code, with room for lim pending ends.
abbrev pub whole : ℕ → List ℕ → List ℕ → Res
whole lim C qs = run lim C (length C) 0 [] qs

-- The forward machine runs the code without giving up.
abbrev pub Forward : ℕ → List ℕ → List ℕ → Type 0
Forward lim C qs = Kept (runF lim C 0 [] qs)

short_runs : (lim : ℕ) (is : List Instr) → Sound is → (qs : List ℕ) → Forward lim (flat is) qs
    → runF lim (flat (closed_up (threaded is))) 0 [] qs ≡ runF lim (flat is) 0 [] qs
short_runs lim is s qs w =
    let t : runF lim (flat (threaded is)) 0 [] qs ≡ runF lim (flat is) 0 [] qs = threaded_runs is s lim qs w in
    let u : Sound (threaded is) = threaded_sound is s in
    closed_runs (threaded is) u (reached (threaded is)) (reached_zero (threaded is) u) (reached_closed (threaded is) u) lim qs (λ e. w (sym (ap (λ r. r.end) t) ∙ e)) ∙ t

pub same_forward : (lim : ℕ) (C : List ℕ) → Valid C → (qs : List ℕ) → Forward lim C qs → runF lim (shorter C) 0 [] qs ≡ runF lim C 0 [] qs
unfolding shorter
same_forward lim C v qs w =
    let s : Sound (parse C) = valid_sound C v in
    let e : flat (parse C) ≡ C = flat_parse C s.some in
    short_runs lim (parse C) s qs (subst (λ x. Forward lim x qs) (sym e) w) ∙ ap (λ x. runF lim x 0 [] qs) e

pub same_run : (lim : ℕ) (C : List ℕ) → Valid C → (qs : List ℕ) → Forward lim C qs → whole lim (shorter C) qs ≡ whole lim C qs
same_run lim C v qs w =
    let t : runF lim (shorter C) 0 [] qs ≡ runF lim C 0 [] qs = same_forward lim C v qs w in
    meet lim (shorter C) qs (λ e. w (sym (ap (λ r. r.end) t) ∙ e)) ∙ t ∙ sym (meet lim C qs w)
