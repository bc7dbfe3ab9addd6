-- From the tables to every number: what `Alike` says follows from `Renamed`.
use Rattle.std.specs.Prelude.{ℕ, ◌*◌, ◌+◌, ◌≤◌, ◌<◌, ◌≡◌, List, true, length, get_or}
use Rattle.std.proofs.Common.{sym, ◌∙◌, ⊎_elim, arith}
use Rattle.std.proofs.Math.ListN.{get_or-eq_default}
use Rattle.base_common.proofs.Bools.{never}
use Rattle.base_walk.proofs.PreorderLaws.{lt_or_ge}
use Rattle.table_records.specs.Table.{count}
use Rattle.table_names.specs.Name.{name_of}
use Rattle.code_tree.specs.Labels.{is_label}
use Rattle.table_renamed.specs.Renamed.{Renamed}
use Rattle.table_renamed.specs.Alike.{Alike}

-- a label is in the table
pub label_in_lem : (ns : List ℕ) → length ns ≡ count ns * 10 → (i : ℕ) → is_label ns i ≡ true → i < count ns
label_in_lem ns whole i e =
    ⊎_elim (λ (h : i < count ns). h) (λ (h : count ns ≤ i). never (sym e ∙ rw (get_or-eq_default ns 0 {n = i * 10} (omega arith)))) (lt_or_ge i (count ns))

module _ (ns names ms mnames : List ℕ) (whole : length ns ≡ count ns * 10) (r : Renamed ns names ms mnames) where
  -- a field, which stands at q i, behind the start of node i
  field : (q : ℕ → ℕ) → ((i : ℕ) → i * 10 ≤ q i) → ((i : ℕ) → i < count ns → get_or ns (q i) 0 ≡ get_or ms (q i) 0) → (i : ℕ) → get_or ns (q i) 0 ≡ get_or ms (q i) 0
  field q b f i =
      let s = r.size in
      let c = b i in
      ⊎_elim (λ (h : i < count ns). f i h) (λ (h : count ns ≤ i). get_or-eq_default ns 0 {n = q i} (omega arith) ∙ sym (get_or-eq_default ms 0 {n = q i} (omega arith))) (lt_or_ge i (count ns))

  past : (i : ℕ) → count ns ≤ i → name_of ns names i ≡ name_of ms mnames i
  unfolding name_of
  past i h = let s = r.size in rw (get_or-eq_default ns 0 {n = i * 10 + 9} (omega arith), get_or-eq_default ms 0 {n = i * 10 + 9} (omega arith))

  pub everywhere : Alike ns names ms mnames
  everywhere =
      record {
        fields = record {
          size = r.size;
          kind = field (λ i. i * 10) (λ i. omega arith) r.kind;
          parent = field (λ i. i * 10 + 1) (λ i. omega arith) r.parent;
          role = field (λ i. i * 10 + 2) (λ i. omega arith) r.role;
          start = field (λ i. i * 10 + 3) (λ i. omega arith) r.start;
          end = field (λ i. i * 10 + 4) (λ i. omega arith) r.end;
          scope = field (λ i. i * 10 + 5) (λ i. omega arith) r.scope;
          flags = field (λ i. i * 10 + 6) (λ i. omega arith) r.flags;
          extra = field (λ i. i * 10 + 7) (λ i. omega arith) r.extra;
        };
        others = λ i e. ⊎_elim (λ (h : i < count ns). r.others i h e) (λ (h : count ns ≤ i). past i h) (lt_or_ge i (count ns));
        replaced = λ i j e f. r.replaced i j (label_in_lem ns whole i e) (label_in_lem ns whole j f) e f;
        once = λ i j e f. r.once i j (label_in_lem ns whole i e) (label_in_lem ns whole j f) e f;
      }
