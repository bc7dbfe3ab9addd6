-- What the code call's answer says of the code slice, and of the answer of `shared`.
use Prim.Native.Nat.{ℕ, ◌≤◌}
use Rattle.std.specs.Prelude.{◌≡◌, Bool, true, false, cond, leb, length, take, Result, Ok, Err}
use Rattle.std.proofs.Math.Path.{refl}
use Rattle.std.proofs.Common.{◌∙◌, ap, arith}
use mathlib.Core.List.{List}
use Rattle.refusal_verdict.specs.declared.Refused.{Refused}
use Rattle.refusal_verdict.specs.Verdict.{Verdict, Passed, unless}
use Rattle.code_assemble.specs.Assembled.{short as code_short}
use Rattle.route_list.specs.Listing.{saturated}
use Rattle.route_laws.specs.Shared.{shared}
use Rattle.route_shared.specs.Shared.{shared_entries}
use Rattle.check_dispatch.specs.Rule.{Rule}
use Rattle.code_flat.specs.Code.{unit}
use Rattle.route_list.specs.Over.{over}
use Rattle.code_tree.specs.Statements.{unit_of}
use Rattle.code_length.specs.Length.{code_length}
use Rattle.call_routes.specs.Calls.{code_refusal, code_answer, code_slice}
use Rattle.call_routes.proofs.CallsLaws.{ready, code_route_lem, front_code, over_length}
use Rattle.call_shared.specs.Shared.{shared_length, shared_answer}

-- The answer of `shared` by that of `code`: n is what is shared.
abbrev pub shared_by : ℕ → Result ℕ Refused → Result ℕ Refused
shared_by n (Ok l) = Ok n
shared_by n (Err e) = Err e

pub shared_by_lem : (r : Rule) (u : ℕ) (first second : List ℕ) (len : ℕ) → shared_by (shared_length r u first second) (code_answer r u len) ≡ shared_answer r u first second len
unfolding code_answer shared_answer
shared_by_lem r u first second len = go (code_refusal r u) (leb (code_length r.nodes u) len)
  where
    n : ℕ
    n = shared_length r u first second

    C : ℕ
    C = length (unit (unit_of r.nodes r.names u))

    l : ℕ
    l = code_length r.nodes u

    go : (v : Verdict) (x : Bool) → shared_by n (unless v Err (cond x (Ok C) (code_short l))) ≡ unless v Err (cond x (Ok n) (code_short l))
    go (Err e) x = refl
    go (Ok v) true = refl
    go (Ok v) false = refl

module _ (r : Rule) (u n : ℕ) (s : List ℕ) (e : Ok n ≡ code_answer r u (length s)) where
  -- Where there is a code, nothing is refused, and the slice begins with it.
  pub told : (code_refusal r u ≡ Passed) × (n ≡ length (unit (unit_of r.nodes r.names u))) × (code_slice r u s ≡ over (unit (unit_of r.nodes r.names u)) s)
  unfolding code_answer code_slice
  told = go (code_refusal r u) refl (leb (code_length r.nodes u) (length s)) e
    where
      C : List ℕ
      C = unit (unit_of r.nodes r.names u)

      l : ℕ
      l = code_length r.nodes u

      go : (v : Verdict) → code_refusal r u ≡ v → (x : Bool) → Ok n ≡ unless v Err (cond x (Ok (length C)) (code_short l))
          → (code_refusal r u ≡ Passed) × (n ≡ length C) × (unless v (λ e. s) (cond x (over C s) s) ≡ over C s)
      go (Err f) q x d = let z : ◌≡◌ {A = ℕ} 0 1 = cc in absurd (omega arith)
      go (Ok v) q true d = (q, cc, refl)
      go (Ok v) q false d = let z : ◌≡◌ {A = ℕ} 0 1 = cc in absurd (omega arith)

  pub inside : n ≤ length (code_slice r u s)
  inside = let (q, d, w) = told in omega (arith, ap length w, d, over_length (unit (unit_of r.nodes r.names u)) s)

  pub begins : take n (code_slice r u s) ≡ unit (unit_of r.nodes r.names u)
  begins = let (q, d, w) = told in ap (take n) w ∙ front_code (unit (unit_of r.nodes r.names u)) s n d

  -- What the runs of the code share, the routes by the completion rules do.
  pub shares : (first second : List ℕ) → shared_entries (take n (code_slice r u s)) first second ≡ shared_length r u first second
  shares first second =
      let (q, d, w) = told in
      let t = (ready r.source_type r.async_bodies r.nodes r.scopes r.source r.names u q).tree in
      ap (λ c. shared_entries c first second) begins
      ∙ (λ i. saturated (shared (code_route_lem r.nodes r.names t u first i).list (code_route_lem r.nodes r.names t u second i).list))
