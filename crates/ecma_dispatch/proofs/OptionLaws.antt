-- The option on async bodies: with it on 34 is added and nothing else, of all tables. With it off, findings are the Rust's (check_dispatch/proofs/ReportedLaws.antt, `off`).
use Rattle.std.specs.Prelude.{ℕ, ◌≡◌, Bool, true, false, cond, ◌||◌, eqb}
use Rattle.std.proofs.Math.Path.{refl}
use Rattle.std.proofs.Common.{ap, sym, ◌∙◌, eqb-true}
use mathlib.Core.List.{List, [], ◌∷◌, ◌++◌, flat_map}
use Rattle.base_common.specs.Upto.{upto, all}
use Rattle.base_common.specs.Tests.{within}
use Rattle.base_common.proofs.UptoLaws.{and_left_lem, and_right_lem}
use Rattle.base_common.proofs.Bools.{never}
use Rattle.base_walk.specs.On.{member}
use Rattle.table_records.specs.Table.{kind_of, count}
use Rattle.table_records.specs.Kinds as k
use Rattle.table_children.specs.Children.{held_of, alternate_of}
use Rattle.table_scoping.specs.Scoping.{is_strict}
use Rattle.check_diagnostics.specs.declared.Finding.{Finding}
use Rattle.check_diagnostics.specs.Finding.{listed}
use Rattle.check_bodies.specs.Bodies.{check_async_body, check_async_held, check_async_alternate, async_bodies_at}
use Rattle.check_duplicates.specs.Duplicates.{duplicate_elements}
use Rattle.check_dispatch.specs.Findings.{findings_at, findings_of}
use Rattle.check_dispatch.specs.Rule.{Rule}
use Rattle.check_dispatch.specs.Reported.{reported_at, reported}
use Rattle.check_dispatch.proofs.ReportedLaws.{nil_right_lem}
use Rattle.ecma_dispatch.specs.WithCode.{with_code, without_code}
use Rattle.ecma_dispatch.proofs.WithCodeLaws.{with_append, with_flat_map, coded_none, coded_all, coded_nil, coded_append, coded_cond, coded_flat_map, coded_more, each_code, coded, fine, fine_if, fine_error, fine_clear, both_true, fine_held}
use Rattle.ecma_dispatch.specs.Coded.{Coded}
use Rattle.ecma_dispatch.specs.CheckCodes.{of_clash}
use Rattle.ecma_dispatch.proofs.CheckCodesLaws.{duplicate_codes}
use Rattle.ecma_dispatch.specs.Dispatch.{listed_codes}
use Rattle.ecma_dispatch.proofs.DispatchLaws.{coded_at}
use Rattle.ecma_dispatch.specs.Option.{of_body}

-- the codes with the option on; 35 in TypeScript alone
abbrev codes_on : List ℕ
codes_on = 34 ∷ 35 ∷ listed_codes

-- WITHOUT A CODE
without_append : (c : ℕ) (fs gs : List Finding) → without_code c (fs ++ gs) ≡ without_code c fs ++ without_code c gs
unfolding without_code
without_append c [] gs = refl
without_append c (f ∷ fs) gs = go (eqb f.code c) (without_append c fs gs)
  where
    go : (b : Bool) → without_code c (fs ++ gs) ≡ without_code c fs ++ without_code c gs
        → cond b (without_code c (fs ++ gs)) (f ∷ without_code c (fs ++ gs)) ≡ cond b (without_code c fs) (f ∷ without_code c fs) ++ without_code c gs
    go true h = h
    go false h = ap (λ l. f ∷ l) h

without_flat_map : (c : ℕ) (g : ℕ → List Finding) (l : List ℕ) → without_code c (flat_map g l) ≡ flat_map (λ j. without_code c (g j)) l
unfolding without_code flat_map
without_flat_map c g [] = refl
without_flat_map c g (j ∷ l) = without_append c (g j) (flat_map g l) ∙ ap (λ m. without_code c (g j) ++ m) (without_flat_map c g l)

-- of lists of other codes all is kept, of lists of the code alone nothing
without_none : (c : ℕ) (cs : List ℕ) (fs : List Finding) → member c cs ≡ false → Coded cs fs → without_code c fs ≡ fs
unfolding without_code
without_none c cs fs n w = go fs w.each
  where
    other : (f : Finding) → member f.code cs ≡ true → eqb f.code c ≡ true → true ≡ false
    other f e q = sym e ∙ ap (λ x. member x cs) (eqb-true f.code c q) ∙ n

    go : (fs : List Finding) → all (λ f. member f.code cs) fs ≡ true → without_code c fs ≡ fs
    go [] e = refl
    go (f ∷ fs) e = by (eqb f.code c) refl (go fs (and_right_lem (member f.code cs) (all (λ f. member f.code cs) fs) e))
      where
        by : (b : Bool) → eqb f.code c ≡ b → without_code c fs ≡ fs → cond b (without_code c fs) (f ∷ without_code c fs) ≡ f ∷ fs
        by true q h = never (other f (and_left_lem (member f.code cs) (all (λ f. member f.code cs) fs) e) q)
        by false q h = ap (λ l. f ∷ l) h

without_all : (c : ℕ) (fs : List Finding) → Coded (c ∷ []) fs → without_code c fs ≡ []
unfolding without_code
without_all c fs w = go fs w.each
  where
    is : (x : Bool) → (x || false) ≡ true → x ≡ true
    is true e = refl
    is false e = e

    go : (fs : List Finding) → all (λ f. member f.code (c ∷ [])) fs ≡ true → without_code c fs ≡ []
    go [] e = refl
    go (f ∷ fs) e =
        rw (is (eqb f.code c) (and_left_lem (member f.code (c ∷ [])) (all (λ f. member f.code (c ∷ [])) fs) e))
        (go fs (and_right_lem (member f.code (c ∷ [])) (all (λ f. member f.code (c ∷ [])) fs) e))

flat_same : (f g : ℕ → List Finding) → ((n : ℕ) → f n ≡ g n) → (l : List ℕ) → flat_map f l ≡ flat_map g l
unfolding flat_map
flat_same f g h [] = refl
flat_same f g h (n ∷ l) = rw (h n, flat_same f g h l)

-- THE BODIES HAVE CODE 34
body_fine : (ns : List ℕ) (n s : ℕ) → fine of_body (check_async_body ns n s) ≡ true
unfolding check_async_body
body_fine ns n s = simp (fine_if, fine_error, fine_clear, both_true)

held_codes : (ns : List ℕ) (n : ℕ) → Coded of_body (listed (check_async_held ns n))
held_codes ns n = coded of_body (check_async_held ns n) (fine_held of_body (held_of ns n) (check_async_body ns n) (body_fine ns n))

alternate_codes : (ns : List ℕ) (n : ℕ) → Coded of_body (listed (check_async_alternate ns n))
alternate_codes ns n = coded of_body (check_async_alternate ns n) (fine_held of_body (alternate_of ns n) (check_async_body ns n) (body_fine ns n))

bodies_codes : (ns ss : List ℕ) (n : ℕ) → Coded of_body (async_bodies_at ns ss n)
unfolding async_bodies_at
bodies_codes ns ss n =
    coded_cond of_body (is_strict ns ss n) [] (cond (eqb (kind_of ns n) k.If) (listed (check_async_held ns n) ++ listed (check_async_alternate ns n)) (cond (eqb (kind_of ns n) k.Labeled) (listed (check_async_held ns n)) [])) (coded_nil of_body)
    (coded_cond of_body (eqb (kind_of ns n) k.If) (listed (check_async_held ns n) ++ listed (check_async_alternate ns n)) (cond (eqb (kind_of ns n) k.Labeled) (listed (check_async_held ns n)) []) (coded_append of_body (listed (check_async_held ns n)) (listed (check_async_alternate ns n)) (held_codes ns n) (alternate_codes ns n))
    (coded_cond of_body (eqb (kind_of ns n) k.Labeled) (listed (check_async_held ns n)) [] (held_codes ns n) (coded_nil of_body)))

module _ (r : Rule) where
  abbrev rust : ℕ → List Finding
  rust n = findings_at r.source_type r.nodes r.scopes r.source r.names n

  abbrev pub bodies : ℕ → List Finding
  bodies n = cond (eqb r.async_bodies 0) [] (async_bodies_at r.nodes r.scopes n)

  bodies_coded : (n : ℕ) → Coded of_body (bodies n)
  bodies_coded n = coded_cond of_body (eqb r.async_bodies 0) [] (async_bodies_at r.nodes r.scopes n) (coded_nil of_body) (bodies_codes r.nodes r.scopes n)

  rust_coded : (n : ℕ) → Coded listed_codes (rust n)
  rust_coded n = coded_at r.source_type r.nodes r.scopes r.source r.names n

  -- "turning it on adds exactly these": without 34 the findings are the Rust's, ..
  without_at : (n : ℕ) → without_code 34 (reported_at r n) ≡ rust n
  unfolding reported_at
  without_at n = without_append 34 (rust n) (bodies n) ∙ rw (without_none 34 listed_codes (rust n) refl (rust_coded n), without_all 34 (bodies n) (bodies_coded n)) (nil_right_lem (rust n))

  pub without34 : without_code 34 (reported r) ≡ findings_of r.source_type r.nodes r.scopes r.source r.names
  unfolding reported findings_of
  without34 =
      without_append 34 (duplicate_elements r.source_type r.nodes r.names) (flat_map (reported_at r) (upto 0 (count r.nodes)))
      ∙ rw (without_none 34 of_clash (duplicate_elements r.source_type r.nodes r.names) refl (duplicate_codes r.source_type r.nodes r.names), without_flat_map 34 (reported_at r) (upto 0 (count r.nodes)))
      (ap (λ l. duplicate_elements r.source_type r.nodes r.names ++ l) (flat_same (λ n. without_code 34 (reported_at r n)) rust without_at (upto 0 (count r.nodes))))

  -- .. with it those of the bodies, node by node, ..
  pub at34 : (n : ℕ) → with_code 34 (reported_at r n) ≡ bodies n
  unfolding reported_at
  at34 n = with_append 34 (rust n) (bodies n) ∙ rw (coded_none 34 listed_codes (rust n) refl (rust_coded n)) (coded_all 34 (bodies n) (bodies_coded n))

  pub whole34 : with_code 34 (reported r) ≡ flat_map bodies (upto 0 (count r.nodes))
  unfolding reported
  whole34 =
      with_append 34 (duplicate_elements r.source_type r.nodes r.names) (flat_map (reported_at r) (upto 0 (count r.nodes)))
      ∙ rw (coded_none 34 of_clash (duplicate_elements r.source_type r.nodes r.names) refl (duplicate_codes r.source_type r.nodes r.names))
      (with_flat_map 34 (reported_at r) (upto 0 (count r.nodes)) ∙ flat_same (λ n. with_code 34 (reported_at r n)) bodies at34 (upto 0 (count r.nodes)))

  -- .. and with another code those of the Rust
  pub other_at : (c : ℕ) → member c of_body ≡ false → (n : ℕ) → with_code c (reported_at r n) ≡ with_code c (rust n)
  unfolding reported_at
  other_at c e n = with_append c (rust n) (bodies n) ∙ rw (coded_none c of_body (bodies n) e (bodies_coded n)) (nil_right_lem (with_code c (rust n)))

  -- every finding's code is listed
  pub codes_on_listed : all (λ f. within f.code 1 35) (reported r) ≡ true
  unfolding reported reported_at
  codes_on_listed =
      each_code (λ c. within c 1 35) codes_on refl
      (coded_append codes_on (duplicate_elements r.source_type r.nodes r.names) (flat_map (reported_at r) (upto 0 (count r.nodes))) (coded_more of_clash codes_on refl (duplicate_codes r.source_type r.nodes r.names))
      (coded_flat_map codes_on (reported_at r) (λ n. coded_append codes_on (rust n) (bodies n) (coded_more listed_codes codes_on refl (rust_coded n)) (coded_more of_body codes_on refl (bodies_coded n))) (upto 0 (count r.nodes))))
