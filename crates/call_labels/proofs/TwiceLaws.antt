-- What is written, read back; and document 02, request 12: "Renaming twice gives the bytes of renaming once."
use Prim.Native.Nat.{ℕ, zero, suc, ◌+◌, ◌*◌, ◌≤◌, ◌<◌}
use Rattle.std.specs.Prelude.{◌≡◌, ◌⊎◌, Bool, cond, not, ◌&&◌, ◌||◌, length, get_or, drop, None}
use Rattle.std.proofs.Math.Path.{refl, ap}
use Rattle.std.proofs.Common.{sym, subst, ◌∙◌, inl, inr, arith}
use Rattle.std.proofs.Math.Logic.{⊎_elim}
use mathlib.Core.List.{List, [], ◌∷◌, ◌++◌, map, map-append, flat_map}
use Rattle.std.proofs.Math.Bool.{true, false}
use Rattle.std.proofs.Math.Dec.{leb}
use Rattle.std.proofs.Math.ListN.{length-map, take}
use Rattle.std.proofs.Math.Seq.{take-append_seam, drop-append_seam}
use Rattle.base_common.specs.Upto.{upto}
use Rattle.base_common.proofs.UptoLaws.{upto_nil, upto_cons}
use Rattle.base_common.proofs.Bools.{never, or_second}
use Rattle.check_diagnostics.proofs.Gather.{flat_turn, flat_end}
use Rattle.refusal_verdict.specs.First.{first}
use Rattle.refusal_verdict.proofs.FirstLaws.{le_or_lt, first_nowhere}
use Rattle.table_records.specs.Table.{count}
use Rattle.table_names.specs.Name.{same, name_of, has}
use Rattle.table_names.proofs.NameLaws.{same_self, same_eq}
use Rattle.code_tree.specs.Labels.{is_label}
use Rattle.call_labels.specs.Short.{most, short_name}
use Rattle.call_labels.proofs.ShortLaws.{short_some}
use Rattle.call_labels.specs.Reserved.{is_reserved}
use Rattle.call_labels.specs.Order.{add, seeing, seen_before, label_names, place_in, new_name}
use Rattle.call_labels.proofs.OrderLaws.{Known, label_known, new_once, new_free}
use Rattle.call_labels.specs.Unfit.{is_new, unfit_at}
use Rattle.call_labels.proofs.UnfitLaws.{fit, renamable}
use Rattle.call_labels.specs.Written.{new_name_of, names_to, record_of, nodes_renamed, names_renamed}
use Rattle.call_labels.proofs.WrittenLaws.{label_new, other_new, piece, in_piece, records_length}

-- WHAT IS WRITTEN, READ BACK
module _ (ns names : List ℕ) where
  pub written_count : count (nodes_renamed ns names) ≡ count ns
  written_count = let e = records_length ns names in omega arith

  pub written_at : (i c q : ℕ) → i < count ns → c < 10 → q ≡ i * 10 + c → get_or (nodes_renamed ns names) q 0 ≡ get_or (record_of ns names i) c 0
  unfolding nodes_renamed
  written_at i c q h g e = in_piece (record_of ns names) (λ j. refl) i (count ns) c q h g e

  pub written_label : (i : ℕ) → i < count ns → is_label (nodes_renamed ns names) i ≡ is_label ns i
  written_label i h = rw (written_at i 0 (i * 10) h (omega arith) (omega arith), written_at i 2 (i * 10 + 2) h (omega arith) refl)

  pub written_name : (i : ℕ) → i < count ns → name_of (nodes_renamed ns names) (names_renamed ns names) i ≡ new_name_of ns names i
  unfolding name_of names_renamed
  written_name i h =
      rw (written_at i 8 (i * 10 + 8) h (omega arith) refl, written_at i 9 (i * 10 + 9) h (omega arith) refl)
      (ap (λ l. take (length (new_name_of ns names i)) (drop (length (names_to ns names i)) l)) (piece (new_name_of ns names) i (count ns) h)
      ∙ rw (drop-append_seam (names_to ns names i)) (take-append_seam (new_name_of ns names i) _))

-- MEMBERS OF A LIST OF NAMES
same_map : (f : List ℕ → List ℕ) (x y : List ℕ) → (f x ≡ f y → x ≡ y) → same (f x) (f y) ≡ same x y
same_map f x y h = go (same (f x) (f y)) (same x y) refl refl
  where
    go : (b c : Bool) → same (f x) (f y) ≡ b → same x y ≡ c → b ≡ c
    go true true p q = refl
    go true false p q = sym (same_self y) ∙ ap (λ z. same z y) (sym (h (same_eq _ _ p))) ∙ q
    go false true p q = sym p ∙ ap (λ z. same (f z) (f y)) (same_eq x y q) ∙ same_self (f y)
    go false false p q = refl

later : (y : List ℕ) (l : List (List ℕ)) (w : List ℕ) → has l w ≡ true → has (y ∷ l) w ≡ true
later y l w e = rw e (go (same y w))
  where
    go : (b : Bool) → (b || true) ≡ true
    go true = refl
    go false = refl

split : (l : List (List ℕ)) (z y : List ℕ) → has (l ++ z ∷ []) y ≡ true → (has l y ≡ true) ⊎ (z ≡ y)
split [] z y e = go (same z y) refl e
  where
    go : (b : Bool) → same z y ≡ b → (b || false) ≡ true → (has [] y ≡ true) ⊎ (z ≡ y)
    go true p q = inr (same_eq z y p)
    go false p q = never (sym q)
split (w ∷ l) z y e = go (same w y) e (split l z y)
  where
    go : (b : Bool) → (b || has (l ++ z ∷ []) y) ≡ true → (has (l ++ z ∷ []) y ≡ true → (has l y ≡ true) ⊎ (z ≡ y)) → ((b || has l y) ≡ true) ⊎ (z ≡ y)
    go true q r = inl refl
    go false q r = r q

some_add : (l : List (List ℕ)) (w : List ℕ) → (w ≡ [] → ⊥) → add l w ≡ cond (has l w) l (l ++ w ∷ [])
some_add l [] h = absurd (h refl)
some_add l (b ∷ bs) h = refl

some_new : (l : List (List ℕ)) (w : List ℕ) → (w ≡ [] → ⊥) → new_name l w ≡ short_name (place_in l w)
some_new l [] h = absurd (h refl)
some_new l (b ∷ bs) h = refl

some_isnew : (l : List (List ℕ)) (w : List ℕ) → (w ≡ [] → ⊥) → is_new l w ≡ not (has l w)
some_isnew l [] h = absurd (h refl)
some_isnew l (b ∷ bs) h = refl

module _ (L : List (List ℕ)) (few : length L ≤ most) where
  -- every member is one of L
  abbrev In : List (List ℕ) → Type 0
  In l = (y : List ℕ) → has l y ≡ true → Known L y

  -- what is asked of names is answered alike after the renaming
  map_has : (l : List (List ℕ)) (z : List ℕ) → In l → Known L z → has (map (new_name L) l) (new_name L z) ≡ has l z
  map_has [] z h k = refl
  map_has (y ∷ l) z h k = rw (same_map (new_name L) y z (new_once L few y z (h y (rw (same_self y))) k), map_has l z (λ w e. h w (later y l w e)) k)

  map_place : (l : List (List ℕ)) (z : List ℕ) → In l → Known L z → place_in (map (new_name L) l) (new_name L z) ≡ place_in l z
  unfolding place_in
  map_place [] z h k = refl
  map_place (y ∷ l) z h k = rw (same_map (new_name L) y z (new_once L few y z (h y (rw (same_self y))) k), map_place l z (λ w e. h w (later y l w e)) k)

  map_add : (l : List (List ℕ)) (z : List ℕ) → In l → Known L z → add (map (new_name L) l) (new_name L z) ≡ map (new_name L) (add l z)
  map_add l [] h k = refl
  map_add l (b ∷ bs) h k =
      some_add (map (new_name L) l) (new_name L (b ∷ bs)) (λ e. short_some _ (sym e)) ∙ rw (map_has l (b ∷ bs) h k) (go (has l (b ∷ bs)))
    where
      go : (c : Bool) → cond c (map (new_name L) l) (map (new_name L) l ++ new_name L (b ∷ bs) ∷ []) ≡ map (new_name L) (cond c l (l ++ (b ∷ bs) ∷ []))
      go true = refl
      go false = sym (map-append (new_name L) l ((b ∷ bs) ∷ []))

  in_add : (l : List (List ℕ)) (z : List ℕ) → In l → Known L z → In (add l z)
  in_add l [] h k y e = h y e
  in_add l (b ∷ bs) h k y e = go (has l (b ∷ bs)) e
    where
      go : (c : Bool) → has (cond c l (l ++ (b ∷ bs) ∷ [])) y ≡ true → Known L y
      go true q = h y q
      go false q = ⊎_elim (λ (u : has l y ≡ true). h y u) (λ (u : b ∷ bs ≡ y). subst (Known L) u k) (split l (b ∷ bs) y q)

  module _ (ns names ms mnames : List ℕ) (n : ℕ) (same_label_lem : (i : ℕ) → i < n → is_label ms i ≡ is_label ns i)
      (named : (i : ℕ) → i < n → is_label ns i ≡ true → name_of ms mnames i ≡ new_name L (name_of ns names i))
      (known : (i : ℕ) → i < n → is_label ns i ≡ true → Known L (name_of ns names i)) where
    see_map : (f i : ℕ) → n ≤ i + f → (seen : List (List ℕ)) → In seen → seeing ms mnames (map (new_name L) seen) (upto i n) ≡ map (new_name L) (seeing ns names seen (upto i n))
    unfolding seeing
    see_map zero i hf seen h = rw (upto_nil i n (omega arith))
    see_map (suc f) i hf seen h =
        ⊎_elim (λ (g : n ≤ i). rw (upto_nil i n g)) (λ (g : i < n). rw (upto_cons i n g) (go g (is_label ns i) refl (see_map f (i + 1) (omega arith)))) (le_or_lt n i)
      where
        go : i < n → (b : Bool) → is_label ns i ≡ b
            → ((s : List (List ℕ)) → In s → seeing ms mnames (map (new_name L) s) (upto (i + 1) n) ≡ map (new_name L) (seeing ns names s (upto (i + 1) n)))
            → seeing ms mnames (cond (is_label ms i) (add (map (new_name L) seen) (name_of ms mnames i)) (map (new_name L) seen)) (upto (i + 1) n)
            ≡ map (new_name L) (seeing ns names (cond (is_label ns i) (add seen (name_of ns names i)) seen) (upto (i + 1) n))
        go g true e r =
            rw (same_label_lem i g, e, named i g e, map_add seen (name_of ns names i) h (known i g e)) (r (add seen (name_of ns names i)) (in_add seen (name_of ns names i) h (known i g e)))
        go g false e r = rw (same_label_lem i g, e) (r seen h)

  -- the names seen are among them
  module _ (ns names : List ℕ) (n : ℕ) (known : (i : ℕ) → i < n → is_label ns i ≡ true → Known L (name_of ns names i)) where
    see_in : (f i : ℕ) → n ≤ i + f → (seen : List (List ℕ)) → In seen → In (seeing ns names seen (upto i n))
    unfolding seeing
    see_in zero i hf seen h = rw (upto_nil i n (omega arith)) h
    see_in (suc f) i hf seen h =
        ⊎_elim (λ (g : n ≤ i). rw (upto_nil i n g) h) (λ (g : i < n). rw (upto_cons i n g) (go g (is_label ns i) refl (see_in f (i + 1) (omega arith)))) (le_or_lt n i)
      where
        go : i < n → (b : Bool) → is_label ns i ≡ b → ((s : List (List ℕ)) → In s → In (seeing ns names s (upto (i + 1) n)))
            → In (seeing ns names (cond b (add seen (name_of ns names i)) seen) (upto (i + 1) n))
        go g true e r = r (add seen (name_of ns names i)) (in_add seen (name_of ns names i) h (known i g e))
        go g false e r = r seen h

  -- a name that is new stays so
  map_new : (l : List (List ℕ)) (z : List ℕ) → In l → Known L z → is_new (map (new_name L) l) (new_name L z) ≡ is_new l z
  map_new l [] h k = refl
  map_new l (b ∷ bs) h k = some_isnew (map (new_name L) l) (new_name L (b ∷ bs)) (λ e. short_some _ (sym e)) ∙ ap not (map_has l (b ∷ bs) h k)

  -- a new name stays
  new_new : (z : List ℕ) → Known L z → new_name (map (new_name L) L) (new_name L z) ≡ new_name L z
  new_new [] k = refl
  new_new (b ∷ bs) k = some_new _ (new_name L (b ∷ bs)) (λ e. short_some _ (sym e)) ∙ ap short_name (map_place L (b ∷ bs) own k)
    where
      own : In L
      own [] e = tt
      own (c ∷ cs) e = e

nodes_by : (ns names : List ℕ) → nodes_renamed ns names ≡ flat_map (record_of ns names) (upto 0 (count ns))
unfolding nodes_renamed
nodes_by ns names = refl

-- lists of pieces that agree below n
flat_below : (f g : ℕ → List ℕ) (n k i : ℕ) → n ≤ i + k → ((j : ℕ) → j < n → f j ≡ g j) → flat_map f (upto i n) ≡ flat_map g (upto i n)
flat_below f g n zero i hk e = flat_end f i n (omega arith) ∙ sym (flat_end g i n (omega arith))
flat_below f g n (suc k) i hk e =
    ⊎_elim (λ (h : n ≤ i). flat_end f i n h ∙ sym (flat_end g i n h))
    (λ (h : i < n). flat_turn f i n h ∙ rw (e i h, flat_below f g n k (i + 1) (omega arith) e) (sym (flat_turn g i n h))) (le_or_lt n i)

-- TWICE
module _ (ns names : List ℕ) (few : length (label_names ns names) ≤ most) where
  abbrev ms : List ℕ
  ms = nodes_renamed ns names

  abbrev mnames : List ℕ
  mnames = names_renamed ns names

  abbrev L : List (List ℕ)
  L = label_names ns names

  pub seen_alike : (n : ℕ) → n ≤ count ns → seen_before ms mnames n ≡ map (new_name L) (seen_before ns names n)
  seen_alike n l =
      see_map L few ns names ms mnames n (λ i h. written_label ns names i (omega arith)) (λ i h e. written_name ns names i (omega arith) ∙ label_new ns names i e)
      (λ i h e. label_known ns names i (omega arith) e) n 0 (omega arith) [] (λ y e. never (sym e))

  all_labels : label_names ms mnames ≡ map (new_name L) L
  all_labels = ap (λ z. seeing ms mnames [] (upto 0 z)) (written_count ns names) ∙ seen_alike (count ns) (omega arith)

  same_name : (i : ℕ) → i < count ns → new_name_of ms mnames i ≡ new_name_of ns names i
  same_name i h = go (is_label ns i) refl
    where
      go : (b : Bool) → is_label ns i ≡ b → new_name_of ms mnames i ≡ new_name_of ns names i
      go true e =
          label_new ms mnames i (written_label ns names i h ∙ e)
          ∙ rw (all_labels, written_name ns names i h, label_new ns names i e) (new_new L few (name_of ns names i) (label_known ns names i h e))
      go false e = other_new ms mnames i (written_label ns names i h ∙ e) ∙ written_name ns names i h

  same_names : (n : ℕ) → n ≤ count ns → names_to ms mnames n ≡ names_to ns names n
  same_names n h = flat_below (new_name_of ms mnames) (new_name_of ns names) n n 0 (omega arith) (λ j g. same_name j (omega arith))

  same_record : (i : ℕ) → i < count ns → record_of ms mnames i ≡ record_of ns names i
  same_record i h =
      rw (
        same_name i h,
        same_names i (omega arith),
        written_at ns names i 0 (i * 10) h (omega arith) (omega arith),
        written_at ns names i 1 (i * 10 + 1) h (omega arith) refl,
        written_at ns names i 2 (i * 10 + 2) h (omega arith) refl,
        written_at ns names i 3 (i * 10 + 3) h (omega arith) refl,
        written_at ns names i 4 (i * 10 + 4) h (omega arith) refl,
        written_at ns names i 5 (i * 10 + 5) h (omega arith) refl,
        written_at ns names i 6 (i * 10 + 6) h (omega arith) refl,
        written_at ns names i 7 (i * 10 + 7) h (omega arith) refl,
      )

  pub twice_names : names_renamed ms mnames ≡ names_renamed ns names
  unfolding names_renamed
  twice_names = ap (names_to (nodes_renamed ns names) (names_to ns names (count ns))) (written_count ns names) ∙ same_names (count ns) (omega arith)

  pub twice_nodes : nodes_renamed ms mnames ≡ nodes_renamed ns names
  twice_nodes = as_pieces ∙ flat_below (record_of ms mnames) (record_of ns names) (count ns) (count ns) 0 (omega arith) same_record ∙ from_pieces
    where
      as_pieces : nodes_renamed ms mnames ≡ flat_map (record_of ms mnames) (upto 0 (count ns))
      as_pieces = nodes_by ms mnames ∙ ap (λ n. flat_map (record_of ms mnames) (upto 0 n)) (written_count ns names)

      from_pieces : flat_map (record_of ns names) (upto 0 (count ns)) ≡ nodes_renamed ns names
      from_pieces = sym (nodes_by ns names)

-- 19 applies nowhere in what was renamed
module _ (ns names : List ℕ) (e : first (unfit_at ns names) 0 (count ns) ≡ None) where
  few : length (label_names ns names) ≤ most
  few = (renamable ns names e).few

  fit_again : (i : ℕ) → i < count ns → unfit_at (nodes_renamed ns names) (names_renamed ns names) i ≡ false
  unfolding unfit_at
  fit_again i h = go (is_label ns i) refl
    where
      go : (b : Bool) → is_label ns i ≡ b
          → (is_label (nodes_renamed ns names) i && (is_reserved (name_of (nodes_renamed ns names) (names_renamed ns names) i)
          || (is_new (seen_before (nodes_renamed ns names) (names_renamed ns names) i) (name_of (nodes_renamed ns names) (names_renamed ns names) i)
          && leb most (length (seen_before (nodes_renamed ns names) (names_renamed ns names) i))))) ≡ false
      go true l =
          rw (
            written_label ns names i h,
            l,
            written_name ns names i h,
            label_new ns names i l,
            seen_alike ns names few i (omega arith),
            new_free (label_names ns names) few (name_of ns names i) (label_known ns names i h l),
            map_new (label_names ns names) few (seen_before ns names i) (name_of ns names i) (see_in (label_names ns names) few ns names i (λ j g k. label_known ns names j (omega arith) k) i 0 (omega arith) [] (λ y q. never (sym q))) (label_known ns names i h l),
            length-map (seen_before ns names i) (new_name (label_names ns names)),
          )
          (or_second (is_reserved (name_of ns names i)) _ (fit ns names e i h l))
      go false l = rw (written_label ns names i h, l)

  pub twice_fit : first (unfit_at (nodes_renamed ns names) (names_renamed ns names)) 0 (count (nodes_renamed ns names)) ≡ None
  twice_fit = first_nowhere (unfit_at (nodes_renamed ns names) (names_renamed ns names)) (count (nodes_renamed ns names)) 0 (λ j a b. fit_again j (omega (arith, written_count ns names)))
