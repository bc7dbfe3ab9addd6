-- "With the option off, findings equal the Rust's as before": of all tables.
use Rattle.std.specs.Prelude.{ℕ, ◌≡◌, refl}
use Rattle.std.proofs.Math.Path.{ap}
use Rattle.std.proofs.Common.{arith}
use mathlib.Core.List.{List, [], ◌∷◌, ◌++◌, flat_map}
use Rattle.base_common.specs.Upto.{upto}
use Rattle.table_records.specs.Table.{count}
use Rattle.check_diagnostics.specs.declared.Finding.{Finding}
use Rattle.check_duplicates.specs.Duplicates.{duplicate_elements}
use Rattle.check_dispatch.specs.Findings.{findings_at, findings_of}
use Rattle.check_dispatch.specs.Rule.{Rule, rule}
use Rattle.check_dispatch.specs.Reported.{reported_at, reported}

pub nil_right_lem : (l : List Finding) → l ++ [] ≡ l
nil_right_lem [] = refl
nil_right_lem (f ∷ l) = ap (λ m. f ∷ m) (nil_right_lem l)

flat_same_lem : (f g : ℕ → List Finding) → ((n : ℕ) → f n ≡ g n) → (l : List ℕ) → flat_map f l ≡ flat_map g l
unfolding flat_map
flat_same_lem f g h [] = refl
flat_same_lem f g h (n ∷ l) = rw (h n, flat_same_lem f g h l)

module _ (source_type : ℕ) (ns ss source names : List ℕ) where
  pub off_at : (n : ℕ) → reported_at (rule source_type 0 ns ss source names) n ≡ findings_at source_type ns ss source names n
  unfolding reported_at
  off_at n = nil_right_lem (findings_at source_type ns ss source names n)

  pub off : reported (rule source_type 0 ns ss source names) ≡ findings_of source_type ns ss source names
  unfolding reported findings_of
  off = ap (λ (l : List Finding). duplicate_elements source_type ns names ++ l) (flat_same_lem (reported_at (rule source_type 0 ns ss source names)) (findings_at source_type ns ss source names) off_at (upto 0 (count ns)))

-- without any there is none of the Rust's
nil_both : (l m : List Finding) → l ++ m ≡ [] → (l ≡ []) × (m ≡ [])
nil_both [] m e = (refl, e)
nil_both (f ∷ l) m e = let z : ◌≡◌ {A = ℕ} 0 1 = cc in absurd (omega arith)

flat_none : (f g : ℕ → List Finding) → ((n : ℕ) → g n ≡ [] → f n ≡ []) → (l : List ℕ) → flat_map g l ≡ [] → flat_map f l ≡ []
unfolding flat_map
flat_none f g h [] e = refl
flat_none f g h (n ∷ l) e = let w = nil_both (g n) (flat_map g l) e in rw (h n w.0) (flat_none f g h l w.1)

pub none_reported : (r : Rule) → reported r ≡ [] → findings_of r.source_type r.nodes r.scopes r.source r.names ≡ []
unfolding reported reported_at findings_of
none_reported r e =
    let w = nil_both (duplicate_elements r.source_type r.nodes r.names) (flat_map (reported_at r) (upto 0 (count r.nodes))) e in
    rw w.0
    (flat_none (findings_at r.source_type r.nodes r.scopes r.source r.names) (reported_at r) (λ n q. (nil_both (findings_at r.source_type r.nodes r.scopes r.source r.names n) _ q).0)
    (upto 0 (count r.nodes)) w.1)
