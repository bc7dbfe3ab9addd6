-- THE FINDINGS WITH CODE 1 AT AN OBJECT ARE BREACHES OF 13.2.5.1.
use Rattle.table_records.specs.declared.NodeId.{NodeId}
use Rattle.std.specs.Prelude.{ℕ, ◌+◌, ◌≤◌, ◌≡◌, Bool, cond, not, ◌&&◌, Option, Some, None}
use Rattle.std.proofs.Math.Path.{refl, sym}
use Rattle.std.proofs.Common.{ap, ◌∙◌, arith}
use mathlib.Core.List.{List, [], ◌∷◌, ◌++◌, flat_map, foldr}
use Rattle.std.proofs.Math.Bool.{true, false}
use borrow.Author.Tests.{lt-ltb, le-leb, eqb-true, ne_eqb}
use Rattle.std.proofs.Math.Dec.{eqb, ltb}
use Rattle.std.proofs.Math.ListN.{length}
use Rattle.base_common.specs.Upto.{upto}
use Rattle.base_common.proofs.Bools.{never}
use Rattle.table_records.specs.Table.{kind_of, role_of, parent_of, flags_of, count, has_flag}
use Rattle.table_records.specs.Kinds as k
use Rattle.table_records.specs.NodeFlag as flag
use Rattle.table_names.specs.Name.{same, name_of}
use Rattle.table_names.specs.Words as word
use Rattle.table_children.specs.Children.{keep, children, is_child, key_of}
use Rattle.table_children.proofs.ChildrenLaws.{keep_keep, number}
use Rattle.check_class_table.proofs.ClassesLaws.{within_one}
use Rattle.refusal_fields.specs.Fields.{Listed}
use Rattle.ecma_trees.specs.Walk.{some, only}
use Rattle.check_expressions.specs.Expressions.{properties, is_plain, if_proto, proto_key, to_list, proto_keys, repeats_after, repeats, check_object_expression}
use Rattle.check_dispatch.specs.Findings.{findings_at}
use Rattle.ecma_dispatch.specs.WithCode.{with_code}
use Rattle.ecma_dispatch.proofs.DispatchLaws.{at_code}
use Rattle.ecma_dispatch.specs.NodesOf.{nodes_of, raised}
use Rattle.table_lists.proofs.ListLaws.{keep_alike}
use Rattle.ecma_elements.proofs.RaisingLaws.{keep_upto}
use Rattle.ecma_dispatch.proofs.NodesOfLaws.{raised_again}
use Rattle.ecma_elements.specs.ClassElements.{name_found, key_name, literal_name, prop_name, is_proto, proto_twice}
use Rattle.ecma_elements.proofs.ClassElementsLaws.{literal_written}
use Rattle.ecma_elements.specs.Raised.{times}
use Rattle.ecma_elements.specs.Changed.{named_proto, is_keyed_proto, written_key, later, proto_again, KeysPlain, ProtosTwiceAtMost}

-- what g makes of each member
abbrev made : (ℕ → ℕ) → List ℕ → List ℕ
made g l = foldr (λ x r. g x ∷ r) [] l

made_times : (n : ℕ) (g : ℕ → ℕ) (l : List ℕ) → times n (made g l) ≡ times n l
made_times n g [] = refl
made_times n g (x ∷ l) = rw (made_times n g l)

made_later : (n : ℕ) (g : ℕ → ℕ) (l : List ℕ) → times n (later (made g l)) ≡ times n (later l)
made_later n g [] = refl
made_later n g (x ∷ l) = made_times n g l

flat_made : (f : ℕ → List ℕ) (g : ℕ → ℕ) (q : ℕ → Bool) → ((p : ℕ) → f p ≡ cond (q p) (g p ∷ []) []) → (l : List ℕ) → flat_map f l ≡ made g (keep q l)
unfolding flat_map keep
flat_made f g q h [] = refl
flat_made f g q h (p ∷ l) = rw (h p, flat_made f g q h l) (go (q p))
  where
    go : (b : Bool) → cond b (g p ∷ []) [] ++ made g (keep q l) ≡ made g (cond b (p ∷ keep q l) (keep q l))
    go true = refl
    go false = refl

after_times : (ns : List ℕ) (n a : ℕ) (l : List ℕ) → raised 1 (repeats_after ns n a l) ≡ times n l
unfolding nodes_of with_code repeats_after
after_times ns n a [] = refl
after_times ns n a (b ∷ l) = rw (after_times ns n b l)

repeats_times : (ns : List ℕ) (n : ℕ) (l : List ℕ) → raised 1 (repeats ns n l) ≡ times n (later l)
unfolding nodes_of with_code repeats
repeats_times ns n [] = refl
repeats_times ns n (a ∷ l) = after_times ns n a l

module _ (ns names : List ℕ) where
  key_made : (f : Option NodeId) (b : Bool) → to_list (cond b (if_proto ns names f) None) ≡ cond (b && named_proto ns names f) (number f ∷ []) []
  key_made (Some m) true = go (eqb (kind_of ns m.0) k.IdentifierReference) (same (name_of ns names m.0) word.proto)
    where
      go : (r x : Bool) → to_list (cond r None (cond x (Some m) None)) ≡ cond (not r && x) (m.0 ∷ []) []
      go true x = refl
      go false true = refl
      go false false = refl
  key_made (Some m) false = refl
  key_made None true = refl
  key_made None false = refl

  -- the properties, by their key alone
  abbrev keyed : ℕ → Bool
  keyed p = is_plain ns p && named_proto ns names (key_of ns p)

  keys_made : (l : List ℕ) → flat_map (λ p. to_list (proto_key ns names p)) l ≡ made (λ p. number (key_of ns p)) (keep keyed l)
  unfolding proto_key
  keys_made l = flat_made (λ p. to_list (proto_key ns names p)) (λ p. number (key_of ns p)) keyed (λ p. key_made (key_of ns p) (is_plain ns p)) l

  property : (n p : ℕ) → role_of ns p ≤ 7 → (is_child ns n k.ObjectProperty k.ObjectProperty 0 7 p && keyed p) ≡ (eqb (parent_of ns p) n && is_keyed_proto ns names p)
  unfolding is_child is_keyed_proto
  property n p h =
      rw (within_one (kind_of ns p) k.ObjectProperty, le-leb (role_of ns p) 7 h, le-leb 0 (role_of ns p) (omega arith))
      (go (eqb (parent_of ns p) n) (eqb (kind_of ns p) k.ObjectProperty) (keyed p))
    where
      go : (a b c : Bool) → ((a && (b && true)) && c) ≡ (a && (b && c))
      go true true c = refl
      go true false c = refl
      go false b c = refl

  scanned : Listed ns → (n : ℕ) → keep keyed (properties ns n) ≡ keep (is_keyed_proto ns names) (children ns n)
  unfolding children
  scanned w n =
      keep_keep keyed (is_child ns n k.ObjectProperty k.ObjectProperty 0 7) (upto (n + 1) (count ns))
      ∙ keep_upto (λ p. is_child ns n k.ObjectProperty k.ObjectProperty 0 7 p && keyed p) (λ p. eqb (parent_of ns p) n && is_keyed_proto ns names p) (n + 1) (count ns)
      (λ p a b. property n p (w.role p b))
      ∙ sym (keep_keep (is_keyed_proto ns names) (λ p. eqb (parent_of ns p) n) (upto (n + 1) (count ns)))

  objects : Listed ns → (n : ℕ) → eqb (kind_of ns n) k.Object ≡ true → raised 1 (check_object_expression ns names n) ≡ times n (proto_again ns names n)
  unfolding check_object_expression proto_again
  objects w n h =
      repeats_times ns n (proto_keys ns names n)
      ∙ rw (keys_made (properties ns n), scanned w n, h) (made_later n (λ p. number (key_of ns p)) (keep (is_keyed_proto ns names) (children ns n)))

  no_object : (n : ℕ) → eqb (kind_of ns n) k.Object ≡ false → proto_again ns names n ≡ []
  unfolding proto_again
  no_object n e = rw e

  -- 1 at an Object: a finding for each such property but the first
  pub proto_again_lem : Listed ns → (t : ℕ) (ss source : List ℕ) (n : ℕ) → raised 1 (findings_at t ns ss source names n) ≡ times n (proto_again ns names n)
  unfolding nodes_of with_code
  proto_again_lem w t ss source n = sym (raised_again 1 (findings_at t ns ss source names n)) ∙ rw (at_code 1 t ns ss source names n) (go (eqb (kind_of ns n) k.Object) refl)
    where
      go : (b : Bool) → eqb (kind_of ns n) k.Object ≡ b → raised 1 (cond b (check_object_expression ns names n) []) ≡ times n (proto_again ns names n)
      go true e = objects w n e
      go false e = sym (ap (times n) (no_object n e))

  -- a key that is written so is no reference
  no_reference : (m : ℕ) → written_key ns (Some (record { 0 = m })) ≡ true → eqb (kind_of ns m) k.IdentifierReference ≡ false
  no_reference m w = ne_eqb (kind_of ns m) k.IdentifierReference (λ (e : kind_of ns m ≡ 32). never (sym w ∙ rw e))

  -- the name that a key gives is its PropName
  key_plain : (f : Option NodeId) → (named_proto ns names f ≡ true → written_key ns f ≡ true) → named_proto ns names f ≡ same (cond (literal_name ns f) (name_found ns names f) []) word.proto
  unfolding same
  key_plain (Some m) w = rw (literal_written ns (Some m)) (go (written_key ns (Some m)) refl (named_proto ns names (Some m)) refl)
    where
      go : (c : Bool) → written_key ns (Some m) ≡ c → (b : Bool) → named_proto ns names (Some m) ≡ b → named_proto ns names (Some m) ≡ same (cond c (name_of ns names m.0) []) word.proto
      go true c b q = rw (no_reference m.0 c)
      go false c true q = never (sym (w q) ∙ c)
      go false c false q = q
  key_plain None w = refl

  proto_same : (p : ℕ) → has_flag (flags_of ns p) flag.PrivateKey ≡ false → (named_proto ns names (key_of ns p) ≡ true → written_key ns (key_of ns p) ≡ true) → is_keyed_proto ns names p ≡ is_proto ns names p
  unfolding is_keyed_proto is_proto prop_name key_name
  proto_same p h w = rw (h, key_plain (key_of ns p) w)

  some_later : (l : List ℕ) → some (later l) ≡ ltb 1 (length l)
  some_later [] = refl
  some_later (a ∷ []) = refl
  some_later (a ∷ b ∷ l) = sym (lt-ltb 1 (length (a ∷ b ∷ l)) (omega arith))

  module _ (n : ℕ) (w : KeysPlain ns names n) where
    kept_same : keep (is_keyed_proto ns names) (children ns n) ≡ keep (is_proto ns names) (children ns n)
    kept_same = keep_alike (is_keyed_proto ns names) (is_proto ns names) (children ns n) (λ p m. proto_same p (w.public p m) (w.written p m))

    -- where names at keys are PropNames, there is a finding just where the standard's rule is broken ..
    pub proto_agrees : some (proto_again ns names n) ≡ proto_twice ns names n
    unfolding proto_again proto_twice
    proto_agrees = rw (kept_same) (go (eqb (kind_of ns n) k.Object))
      where
        go : (b : Bool) → some (cond b (later (keep (is_proto ns names) (children ns n))) []) ≡ (b && ltb 1 (length (keep (is_proto ns names) (children ns n))))
        go true = some_later (keep (is_proto ns names) (children ns n))
        go false = refl

    -- .. and exactly one, if there are no more than two such properties
    pub proto_once : ProtosTwiceAtMost ns names n → times n (proto_again ns names n) ≡ only (proto_twice ns names n) n
    unfolding proto_again proto_twice
    proto_once h = rw (kept_same) (go (eqb (kind_of ns n) k.Object) (keep (is_proto ns names) (children ns n)) h)
      where
        go : (b : Bool) (l : List ℕ) → length l ≤ 2 → times n (cond b (later l) []) ≡ only (b && ltb 1 (length l)) n
        go true [] h = refl
        go true (x ∷ []) h = refl
        go true (x ∷ y ∷ []) h = refl
        go true (x ∷ y ∷ z ∷ l) h = absurd (omega arith)
        go false l h = refl

  -- of another node there is nothing to ask
  no_twice : (n : ℕ) → eqb (kind_of ns n) k.Object ≡ false → proto_twice ns names n ≡ false
  unfolding proto_twice
  no_twice n e = rw e

  pub proto_at : (n : ℕ) → (kind_of ns n ≡ k.Object → KeysPlain ns names n) → some (proto_again ns names n) ≡ proto_twice ns names n
  proto_at n p = go (eqb (kind_of ns n) k.Object) refl
    where
      go : (b : Bool) → eqb (kind_of ns n) k.Object ≡ b → some (proto_again ns names n) ≡ proto_twice ns names n
      go true e = proto_agrees n (p (eqb-true (kind_of ns n) k.Object e))
      go false e = rw (no_object n e, no_twice n e)

  pub proto_once_at : (n : ℕ) → (kind_of ns n ≡ k.Object → KeysPlain ns names n × ProtosTwiceAtMost ns names n) → times n (proto_again ns names n) ≡ only (proto_twice ns names n) n
  proto_once_at n p = go (eqb (kind_of ns n) k.Object) refl
    where
      go : (b : Bool) → eqb (kind_of ns n) k.Object ≡ b → times n (proto_again ns names n) ≡ only (proto_twice ns names n) n
      go true e = let q = p (eqb-true (kind_of ns n) k.Object e) in proto_once n q.0 q.1
      go false e = rw (no_object n e, no_twice n e)
