-- No statement makes the answers more: what is left is at most what was there.
use Rattle.std.specs.Prelude.{ℕ, ◌≤◌, List, length}
use Rattle.route_completion.specs.Sem.{Out}

abbrev pub Shrinks : (List ℕ → Out) → Type 0
Shrinks k = (r : List ℕ) → length (k r).rest ≤ length r
