-- What is known where refusals 1, 2 and 4 do not apply.
use Rattle.std.specs.Prelude.{◌-◌, refl, Bool, true}
use Rattle.std.proofs.Common.{lt-ltb, le-ltb, ltb-true}
use Rattle.std.specs.Prelude.{ℕ, ◌+◌, ◌/◌, ◌%◌, ◌≤◌, ◌<◌, ◌≡◌, List, false, not, eqb, ltb, length, None}
use Rattle.std.proofs.Common.{arith, eqb-true, ltb-false}
use Rattle.std.proofs.lemmas.Bool.{eqb-false, not-false}
use Rattle.base_common.proofs.Bools.{or3, or4, or5}
use Rattle.table_records.specs.Table.{kind_of, role_of, flags_of, extra_of, span_start_of, span_end_of, name_start_of, name_len_of, count}
use Rattle.table_records.specs.Facts.{Named, Sourced}
use Rattle.refusal_verdict.specs.First.{first}
use Rattle.refusal_verdict.proofs.FirstLaws.{first_none}
use Rattle.refusal_fields.specs.Fields.{wrong_table, wrong_sizes, listed_flags, listed_extra, unlisted_at, stray_at, Sizes, Listed}

right_table : (len width : ℕ) → wrong_table len width ≡ false → (len ≡ 0 → ⊥) × (len % width ≡ 0) × (len / width ≤ 65535)
unfolding wrong_table
right_table len width e =
    let w = or3 (eqb len 0) (not (eqb (len % width) 0)) (ltb 65535 (len / width)) e in
    (eqb-false len 0 w.0, eqb-true (len % width) 0 (not-false (eqb (len % width) 0) w.1), ltb-false 65535 (len / width) w.2)

pub sizes_of : (source_type : ℕ) (ns ss source names : List ℕ) → wrong_sizes source_type ns ss source names ≡ false → Sizes source_type ns ss source names
unfolding wrong_sizes
sizes_of source_type ns ss source names e =
    let w = or5 (wrong_table (length ns) 10) (wrong_table (length ss) 3) (ltb 1048576 (length source)) (ltb 1048576 (length names)) (ltb 2 source_type) e in
    let n = right_table (length ns) 10 w.0 in
    let s = right_table (length ss) 3 w.1 in
    let n0 = n.0 in
    let s0 = s.0 in
    record {
      nodes = record { some = omega arith; small = n.2 };
      scopes = record { some = omega arith; small = s.2 };
      whole = omega arith;
      whole_scopes = omega arith;
      bytes = ltb-false 1048576 (length source) w.2;
      name_bytes = ltb-false 1048576 (length names) w.3;
      type = ltb-false 2 source_type w.4;
    }

pub listed_of : (source_type : ℕ) (ns : List ℕ) → first (unlisted_at source_type ns) 0 (count ns) ≡ None → Listed ns
unfolding unlisted_at
listed_of source_type ns e = record {
  kind = λ i l. ltb-false 55 (kind_of ns i) (fine i l).0;
  role = λ i l. ltb-false 7 (role_of ns i) (fine i l).1;
  extra = λ i l. not-false (listed_extra (kind_of ns i) (extra_of ns i)) (fine i l).3;
}
  where
    fine : (i : ℕ) → i < count ns →
        (ltb 55 (kind_of ns i) ≡ false) × (ltb 7 (role_of ns i) ≡ false) × (not (listed_flags source_type (kind_of ns i) (flags_of ns i)) ≡ false) × (not (listed_extra (kind_of ns i) (extra_of ns i)) ≡ false)
    fine i l =
        or4 (ltb 55 (kind_of ns i)) (ltb 7 (role_of ns i)) (not (listed_flags source_type (kind_of ns i) (flags_of ns i))) (not (listed_extra (kind_of ns i) (extra_of ns i)))
        (first_none (unlisted_at source_type ns) (count ns) 0 e i (omega arith) l)

module _ (ns source names : List ℕ) (e : first (stray_at ns source names) 0 (count ns) ≡ None) where
  fine : (i : ℕ) → i < count ns →
      (ltb (span_end_of ns i) (span_start_of ns i) ≡ false) × (ltb (length source) (span_end_of ns i) ≡ false) × (ltb (length names) (name_start_of ns i + name_len_of ns i) ≡ false)
  unfolding stray_at
  fine i l =
      or3 (ltb (span_end_of ns i) (span_start_of ns i)) (ltb (length source) (span_end_of ns i)) (ltb (length names) (name_start_of ns i + name_len_of ns i))
      (first_none (stray_at ns source names) (count ns) 0 e i (omega arith) l)

  pub sourced_of : Sourced ns source
  sourced_of = record {
    span = λ i l. ltb-false (span_end_of ns i) (span_start_of ns i) (fine i l).0;
    inside = λ i l. ltb-false (length source) (span_end_of ns i) (fine i l).1;
  }

  pub named_of : Named ns names
  named_of = record { inside = λ i l. ltb-false (length names) (name_start_of ns i + name_len_of ns i) (fine i l).2 }

-- bytes that start, or end, after the last one
pub outside_first : (len s l : ℕ) → len < s → ltb len (s + l) ≡ true
outside_first len s l h = lt-ltb len (s + l) (omega arith)

pub outside_rest : (len s l : ℕ) → s ≤ len → ltb (len - s) l ≡ ltb len (s + l)
outside_rest len s l h = go (ltb len (s + l)) refl
  where
    go : (x : Bool) → ltb len (s + l) ≡ x → ltb (len - s) l ≡ x
    go true e = lt-ltb (len - s) l (omega (arith, ltb-true len (s + l) e))
    go false e = le-ltb (len - s) l (omega (arith, ltb-false len (s + l) e))
