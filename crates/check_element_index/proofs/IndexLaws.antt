-- Laws of the index: the last number below n that passes a test, how a node is entered, and what a step down a chain passes over.
use Rattle.std.specs.Prelude.{ℕ, zero, suc, ◌+◌, ◌-◌, ◌≤◌, ◌<◌, ◌≡◌, refl, List, [], Option, Some, None, Bool, true, false, cond, not, ◌&&◌, eqb, length, get_or, set, replicate}
use Rattle.std.proofs.Common.{ap, subst, ◌∙◌, ⊎_elim, eq-or-lt_of_le, add-one, eq-eqb, eqb-true, ne_eqb, true≢false, arith}
use Rattle.std.proofs.Math.Path.{sym}
use Rattle.std.proofs.lemmas.List.{length-set, get_or-replicate, get_or-set_same, get_or-set_other}
use Rattle.std.proofs.lemmas.Bool.Decides.{eqb_tells}
use Rattle.base_common.proofs.UptoLaws.{and_left_lem, and_right_lem}
use Rattle.table_records.specs.Table.{count, parent_of}
use Rattle.table_records.specs.declared.NodeId.{NodeId}
use Rattle.table_names.specs.Name.{same, name_of}
use Rattle.table_children.specs.Children.{key_of, below}
use Rattle.table_names.proofs.NameLaws.{same_eq}
use Rattle.check_class_table.specs.Elements.{name_at, element_name, is_private, is_definition, is_keyed, enters, is_definition_in, is_named}
use Rattle.check_element_index.specs.Index.{hash, bucket, bucket_of, is_element, in_bucket, last_below, key_number, entry_in, Entered, has_key}
use Rattle.check_element_index.specs.declared.Entry.{Entry}

module _ (p : ℕ → Bool) where
  pub last_turn : (n : ℕ) → last_below p (n + 1) ≡ cond (p n) (n + 1) (last_below p n)
  unfolding last_below
  last_turn n = rw (add-one n)

  pub last_le : (n : ℕ) → last_below p n ≤ n
  unfolding last_below
  last_le zero = omega arith
  last_le (suc n) = go (p n) (last_le n)
    where
      go : (b : Bool) → last_below p n ≤ n → cond b (suc n) (last_below p n) ≤ suc n
      go true h = omega arith
      go false h = omega arith

  -- what changes only at numbers that pass the test is the same at the last of them
  pub skip : {A : Type 0} (f : ℕ → A) → ((n : ℕ) → p n ≡ false → f (n + 1) ≡ f n) → (n : ℕ) → f n ≡ f (last_below p n)
  unfolding last_below
  skip f h zero = refl
  skip f h (suc n) = go (p n) refl (skip f h n)
    where
      go : (b : Bool) → p n ≡ b → f n ≡ f (last_below p n) → f (suc n) ≡ f (cond b (suc n) (last_below p n))
      go true q r = refl
      go false q r = ap f (sym (add-one n)) ∙ h n q ∙ r

  pub last_last : (n : ℕ) → last_below p (last_below p n) ≡ last_below p n
  last_last n = sym (skip (last_below p) (λ i e. last_turn i ∙ ap (λ (b : Bool). cond b (i + 1) (last_below p i)) e) n)

  -- a number that is the last passes the test
  pub last_holds : (d : ℕ) → last_below p (d + 1) ≡ d + 1 → p d ≡ true
  last_holds d e = go (p d) refl (sym (last_turn d) ∙ e)
    where
      go : (b : Bool) → p d ≡ b → cond b (d + 1) (last_below p d) ≡ d + 1 → p d ≡ true
      go true q x = q
      go false q x = let l = last_le d in absurd (omega arith)

  pub last_here : (d : ℕ) → p d ≡ true → last_below p (d + 1) ≡ d + 1
  last_here d e = last_turn d ∙ ap (λ (b : Bool). cond b (d + 1) (last_below p d)) e

module _ (t : ℕ) (ns names : List ℕ) (size : ℕ) where
  -- the nodes are entered one after the other
  pub entered_start : (last : List ℕ) (entries : List Entry) → 0 < size → length last ≡ size → last ≡ replicate size 0 → count ns ≤ length entries → Entered t ns names size last entries 0
  unfolding last_below
  entered_start last entries h l c r =
      record {
        some = h;
        sized = l;
        room = r;
        is_last = λ b x. ap (λ (xs : List ℕ). get_or xs b 0) c ∙ get_or-replicate size b 0 0 x;
        is_earlier = λ e x y. absurd (omega arith);
        is_key = λ e x y. absurd (omega arith);
        key_below = λ e x y. absurd (omega arith);
      }

  other_turn : (b n : ℕ) → in_bucket t ns names size b n ≡ false → last_below (in_bucket t ns names size b) (n + 1) ≡ last_below (in_bucket t ns names size b) n
  other_turn b n e = last_turn (in_bucket t ns names size b) n ∙ ap (λ (x : Bool). cond x (n + 1) (last_below (in_bucket t ns names size b) n)) e

  -- a number below n + 1 is n, or below n
  by_newest : {P : Type 0} (i n : ℕ) → i < n + 1 → (i ≡ n → P) → (i < n → P) → P
  by_newest i n h f g = ⊎_elim (λ (z : suc i ≡ n + 1). f (omega arith)) (λ (z : suc i < n + 1). g (omega arith)) (eq-or-lt_of_le h)

  module _ (last : List ℕ) (entries : List Entry) (n : ℕ) (w : Entered t ns names size last entries n) where
    pub entered_other : is_element t ns n ≡ false → Entered t ns names size last entries (n + 1)
    unfolding in_bucket
    entered_other e =
        record {
          some = w.some;
          sized = w.sized;
          room = w.room;
          is_last = λ b x. w.is_last b x ∙ sym (other_turn b n (rw e));
          is_earlier = λ i x y. by_newest i n x (λ z. none i z y) (λ l. w.is_earlier i l y);
          is_key = λ i x y. by_newest i n x (λ z. none i z y) (λ l. w.is_key i l y);
          key_below = λ i x y. by_newest i n x (λ z. none i z y) (λ l. w.key_below i l y);
        }
      where
        none : {P : Type 0} (i : ℕ) → i ≡ n → is_element t ns i ≡ true → P
        none i z y = absurd (true≢false (sym y ∙ ap (is_element t ns) z ∙ e))

    abbrev kept : ℕ → ℕ → Entry
    kept b k = record { earlier = get_or last b 0; key = k }

    pub entered_more : (b k : ℕ) → is_element t ns n ≡ true → n < count ns → b ≡ bucket_of ns names size n → b < size → k ≡ key_number (key_of ns n) → below ns (key_of ns n)
        → Entered t ns names size (set last b (n + 1)) (set entries n (kept b k)) (n + 1)
    unfolding in_bucket
    entered_more b k e h q l v u =
        record {
          some = w.some;
          sized = length-set last b (n + 1) ∙ w.sized;
          room = rw (length-set entries n (kept b k)) w.room;
          is_last = λ a x. ⊎_elim (λ y. own a y.1) (λ y. others a x y.1) (eqb_tells a b);
          is_earlier = λ i x y. by_newest i n x (newest i) (λ z. ap (λ (x : Entry). x.earlier) (older i z) ∙ w.is_earlier i z y);
          is_key = λ i x y. by_newest i n x (newest_key i) (λ z. ap (λ (x : Entry). x.key) (older i z) ∙ w.is_key i z y);
          key_below = λ i x y. by_newest i n x (λ z. subst (λ (j : ℕ). below ns (key_of ns j)) (sym z) u) (λ z. w.key_below i z y);
        }
      where
        hit : in_bucket t ns names size b n ≡ true
        hit = rw (e, eq-eqb (bucket_of ns names size n) b (sym q))

        own : (a : ℕ) → a ≡ b → get_or (set last b (n + 1)) a 0 ≡ last_below (in_bucket t ns names size a) (n + 1)
        own a y =
            let s = w.sized in
            subst (λ (x : ℕ). get_or (set last b (n + 1)) x 0 ≡ last_below (in_bucket t ns names size x) (n + 1)) (sym y)
            (get_or-set_same last b (n + 1) 0 (omega arith) ∙ sym (last_turn (in_bucket t ns names size b) n ∙ ap (λ (x : Bool). cond x (n + 1) (last_below (in_bucket t ns names size b) n)) hit))

        others : (a : ℕ) → a < size → (a ≡ b → ⊥) → get_or (set last b (n + 1)) a 0 ≡ last_below (in_bucket t ns names size a) (n + 1)
        others a x y =
            get_or-set_other last b a (n + 1) 0 y
            ∙ w.is_last a x
            ∙ sym (other_turn a n (rw (e, ne_eqb (bucket_of ns names size n) a (λ z. y (sym z ∙ sym q)))))

        older : (i : ℕ) → i < n → entry_in (set entries n (kept b k)) i ≡ entry_in entries i
        older i z = get_or-set_other entries n i (kept b k) _ (λ (j : i ≡ n). absurd (omega arith))

        new : entry_in (set entries n (kept b k)) n ≡ kept b k
        new = let r = w.room in get_or-set_same entries n (kept b k) _ (omega arith)

        newest : (i : ℕ) → i ≡ n → (entry_in (set entries n (kept b k)) i).earlier ≡ last_below (in_bucket t ns names size (bucket_of ns names size i)) i
        newest i z =
            subst (λ (x : ℕ). (entry_in (set entries n (kept b k)) x).earlier ≡ last_below (in_bucket t ns names size (bucket_of ns names size x)) x) (sym z)
            (ap (λ (x : Entry). x.earlier) new ∙ w.is_last b l ∙ ap (λ (x : ℕ). last_below (in_bucket t ns names size x) n) q)

        newest_key : (i : ℕ) → i ≡ n → (entry_in (set entries n (kept b k)) i).key ≡ key_number (key_of ns i)
        newest_key i z = subst (λ (x : ℕ). (entry_in (set entries n (kept b k)) x).key ≡ key_number (key_of ns x)) (sym z) (ap (λ (x : Entry). x.key) new ∙ v)

-- an element with a key in class c is in the bucket of that key
pub named_in : (t : ℕ) (ns names : List ℕ) (size c : ℕ) (private : Bool) (name : List ℕ) (e : ℕ) → is_named t ns names c private name e ≡ true → in_bucket t ns names size (bucket size c private (hash name)) e ≡ true
unfolding is_named is_definition_in in_bucket bucket_of
named_in t ns names size c private name e h =
    let a = and_left_lem (is_definition_in ns c private e) (same (element_name ns names e) name && enters t ns e) h in
    let b = and_right_lem (is_definition_in ns c private e) (same (element_name ns names e) name && enters t ns e) h in
    let p : parent_of ns e ≡ c = eqb-true (parent_of ns e) c (and_left_lem (eqb (parent_of ns e) c) (is_keyed ns private e && is_definition ns e) a) in
    let d = and_right_lem (eqb (parent_of ns e) c) (is_keyed ns private e && is_definition ns e) a in
    let k : is_private ns e ≡ private = keyed private (is_private ns e) (and_left_lem (is_keyed ns private e) (is_definition ns e) d) in
    let n : element_name ns names e ≡ name = same_eq (element_name ns names e) name (and_left_lem (same (element_name ns names e) name) (enters t ns e) b) in
    rw (and_right_lem (is_keyed ns private e) (is_definition ns e) d, and_right_lem (same (element_name ns names e) name) (enters t ns e) b, p, k, n, eq-eqb (bucket size c private (hash name)) (bucket size c private (hash name)) refl)
  where
    keyed : (x y : Bool) → cond x y (not y) ≡ true → y ≡ x
    keyed true y e = e
    keyed false true e = absurd (true≢false (sym e))
    keyed false false e = refl

-- The chain of bucket b. A number is in it, plus one, where it is the last of the bucket below it.
module _ (t : ℕ) (ns names : List ℕ) (size : ℕ) (last : List ℕ) (entries : List Entry) (w : Entered t ns names size last entries (count ns)) (b : ℕ) where
  abbrev test : ℕ → Bool
  test = in_bucket t ns names size b

  pub chain_start : b < size → get_or last b 0 ≡ last_below test (count ns)
  chain_start h = w.is_last b h

  -- what is in the chain is an element
  pub chain_element : (d : ℕ) → last_below test (d + 1) ≡ d + 1 → is_element t ns d ≡ true
  unfolding in_bucket
  chain_element d e = and_left_lem (is_element t ns d) (eqb (bucket_of ns names size d) b) (last_holds test d e)

  pub chain_step : (d : ℕ) → d < count ns → last_below test (d + 1) ≡ d + 1 → (entry_in entries d).earlier ≡ last_below test d
  unfolding in_bucket
  chain_step d h e =
      let y = last_holds test d e in
      let a = and_left_lem (is_element t ns d) (eqb (bucket_of ns names size d) b) y in
      let q = eqb-true (bucket_of ns names size d) b (and_right_lem (is_element t ns d) (eqb (bucket_of ns names size d) b) y) in
      w.is_earlier d h a ∙ ap (λ (x : ℕ). last_below (in_bucket t ns names size x) d) q

-- what is an element and has a key in class c is one of that name
pub key_named : (t : ℕ) (ns names : List ℕ) (c : ℕ) (private : Bool) (name : List ℕ) (e : ℕ) → is_element t ns e ≡ true → has_key ns names c private name e ≡ is_named t ns names c private name e
unfolding has_key is_named is_definition_in
key_named t ns names c private name e h =
    let a = and_left_lem (is_definition ns e) (enters t ns e) h in
    let b = and_right_lem (is_definition ns e) (enters t ns e) h in
    rw (a, b) (go (eqb (parent_of ns e) c) (is_keyed ns private e) (same (element_name ns names e) name))
  where
    go : (x y z : Bool) → (x && (y && z)) ≡ ((x && (y && true)) && (z && true))
    go false y z = refl
    go true false z = refl
    go true true false = refl
    go true true true = refl

-- the name of an element by its key's number
module _ (ns names : List ℕ) (e k : ℕ) (q : k ≡ key_number (key_of ns e)) (h : below ns (key_of ns e)) where
  pub nameless : k ≡ 0 → element_name ns names e ≡ []
  unfolding element_name
  nameless z = go (key_of ns e) (sym q ∙ z)
    where
      go : (o : Option NodeId) → key_number o ≡ 0 → name_at ns names o ≡ []
      go (Some m) x = absurd (omega arith)
      go None x = refl

  pub name_by_key : (k ≡ 0 → ⊥) → element_name ns names e ≡ name_of ns names (k - 1)
  unfolding element_name
  name_by_key z = go (key_of ns e) q
    where
      go : (o : Option NodeId) → k ≡ key_number o → name_at ns names o ≡ name_of ns names (k - 1)
      go (Some m) x = let y : m.0 ≡ k - 1 = omega arith in ap (name_of ns names) y
      go None x = absurd (z x)
