-- Laws of the first labels: a search for a name among theirs, and one label more.
use Rattle.table_records.specs.declared.NodeId.{NodeId}
use Rattle.std.specs.Prelude.{ℕ, zero, suc, ◌+◌, ◌-◌, ◌≤◌, ◌<◌, ◌≡◌, List, [], ◌∷◌, ◌++◌, map, true, false, length, get_or, set, Result, Ok, Err, ⊤}
use Rattle.std.proofs.Common.{ap, sym, subst, ◌∙◌, ⊎_elim, eq-or-lt_of_le, arith, length-set, get_or-set_same, get_or-set_other}
use Rattle.std.proofs.lemmas.List.{map-append}
use Rattle.base_common.specs.Upto.{upto}
use Rattle.base_common.proofs.UptoLaws.{upto_nil, upto_cons, upto_snoc}
use Rattle.refusal_verdict.proofs.FirstLaws.{le_or_lt}
use Rattle.table_records.specs.Table.{count}
use Rattle.table_names.specs.Name.{same, name_of}
use Rattle.call_labels.specs.Short.{most}
use Rattle.call_labels.specs.Order.{seeing, seen_before, place_in}
use Rattle.call_labels.specs.Firsts.{kept_from, Firsts, Entered}
use Rattle.call_labels.specs.Unfit.{unfit_at}
use Rattle.call_labels.specs.declared.Kept.{Kept}

module _ (ns names kept : List ℕ) (size k : ℕ) (x : List ℕ) where
  pub place_stop : k < size → same (name_of ns names (get_or kept k 0)) x ≡ true → place_in (kept_from ns names kept size k) x ≡ 0
  unfolding kept_from place_in
  place_stop h e = rw (upto_cons k size h, e)

  pub place_on : k < size → same (name_of ns names (get_or kept k 0)) x ≡ false → place_in (kept_from ns names kept size k) x ≡ suc (place_in (kept_from ns names kept size (k + 1)) x)
  unfolding kept_from place_in
  place_on h e = rw (upto_cons k size h, e)

  pub place_end_lem : size ≤ k → place_in (kept_from ns names kept size k) x ≡ 0
  unfolding kept_from place_in
  place_end_lem h = rw (upto_nil k size h)

length_by_lem : (ns names kept : List ℕ) (size f k : ℕ) → size ≤ k + f → length (kept_from ns names kept size k) ≡ size - k
unfolding kept_from
length_by_lem ns names kept size zero k hf = let z : size - k ≡ 0 = omega arith in rw (upto_nil k size (omega arith), z)
length_by_lem ns names kept size (suc f) k hf =
    ⊎_elim (λ (h : size ≤ k). let z : size - k ≡ 0 = omega arith in rw (upto_nil k size h, z))
    (λ (h : k < size). rw (upto_cons k size h) (ap suc (length_by_lem ns names kept size f (k + 1) (omega arith)) ∙ omega arith)) (le_or_lt size k)

pub firsts_length : (ns names kept : List ℕ) (size : ℕ) (seen : List (List ℕ)) → Firsts ns names kept size seen → length seen ≡ size
firsts_length ns names kept size seen w = ap length (sym w.named) ∙ length_by_lem ns names kept size size 0 (omega arith) ∙ omega arith

map_same_lem : (g h : ℕ → List ℕ) (n f i : ℕ) → n ≤ i + f → ((j : ℕ) → j < n → g j ≡ h j) → map g (upto i n) ≡ map h (upto i n)
map_same_lem g h n zero i hf e = rw (upto_nil i n (omega arith))
map_same_lem g h n (suc f) i hf e =
    ⊎_elim (λ (l : n ≤ i). rw (upto_nil i n l)) (λ (l : i < n). rw (upto_cons i n l, e i l, map_same_lem g h n f (i + 1) (omega arith) e)) (le_or_lt n i)

pub firsts_start : (ns names kept : List ℕ) → most ≤ length kept → Firsts ns names kept 0 (seen_before ns names 0)
unfolding kept_from seeing
firsts_start ns names kept h =
    record { nodes = record { few = omega arith; room = h; inside = λ k l. absurd (omega arith) }; named = rw (upto_nil 0 0 (omega arith)) }

pub firsts_add : (ns names kept : List ℕ) (size i : ℕ) (seen : List (List ℕ)) → Firsts ns names kept size seen → size < most → i < count ns
    → Firsts ns names (set kept size i) (size + 1) (seen ++ name_of ns names i ∷ [])
unfolding kept_from
firsts_add ns names kept size i seen w h l =
    let r = w.nodes.room in
    let last : get_or (set kept size i) size 0 ≡ i = get_or-set_same kept size i 0 (omega arith) in
    let before : (k : ℕ) → k < size → get_or (set kept size i) k 0 ≡ get_or kept k 0 = λ k g. get_or-set_other kept size k i 0 (λ e. omega arith) in
    record {
      nodes =
          record {
            few = omega arith;
            room = rw (length-set kept size i) r;
            inside = λ k g.
                ⊎_elim (λ (e : k ≡ size). rw (e, last) l) (λ (e : k < size). rw (before k e) (w.nodes.inside k e)) (eq-or-lt_of_le (omega arith));
          };
      named =
          ap (map (λ j. name_of ns names (get_or (set kept size i) j 0))) (upto_snoc 0 size (omega arith))
          ∙ map-append (λ j. name_of ns names (get_or (set kept size i) j 0)) (upto 0 size) (size ∷ [])
          ∙ rw (last, map_same_lem (λ j. name_of ns names (get_or (set kept size i) j 0)) (λ j. name_of ns names (get_or kept j 0)) size size 0 (omega arith) (λ j g. ap (name_of ns names) (before j g)))
          (ap (λ r. r ++ name_of ns names i ∷ []) w.named);
    }

-- what a node came to, by what was answered
pub entered_unfit : (ns names : List ℕ) (i : ℕ) (kept : Kept) (r : Result ⊤ NodeId) (p : NodeId) → Entered ns names i kept r → r ≡ Err p → unfit_at ns names i ≡ true
entered_unfit ns names i kept r p e q = let w : Entered ns names i kept (Err p) = subst (Entered ns names i kept) q e in w.1

pub entered_few : (ns names : List ℕ) (i : ℕ) (kept : Kept) (r : Result ⊤ NodeId) (u : ⊤) → Entered ns names i kept r → r ≡ Ok u
    → (unfit_at ns names i ≡ false) × Firsts ns names kept.nodes kept.size (seen_before ns names (i + 1))
entered_few ns names i kept r u e q = subst (Entered ns names i kept) q e
