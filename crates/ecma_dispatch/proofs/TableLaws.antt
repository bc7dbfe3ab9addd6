-- The one lemma of the dispatch: the findings of a kind with a code are those of the rows that can raise it; and the codes of a table are the codes of its findings.
use Rattle.std.specs.Prelude.{ℕ, ◌≡◌, refl, List, [], ◌∷◌, ◌++◌, Bool, true, false, cond, not, ◌||◌, eqb}
use Rattle.std.proofs.Common.{ap, sym, ◌∙◌, eqb-true}
use Rattle.std.proofs.lemmas.Bool.{not-true}
use Rattle.base_common.specs.Upto.{all}
use Rattle.base_common.proofs.UptoLaws.{and_left_lem, and_right_lem}
use Rattle.base_common.proofs.Bools.{never, or_first, or_second}
use Rattle.base_walk.specs.On.{member}
use Rattle.check_diagnostics.specs.declared.Finding.{Finding}
use Rattle.ecma_dispatch.specs.WithCode.{with_code}
use Rattle.ecma_dispatch.proofs.WithCodeLaws.{with_append, with_nil, coded_none, coded_all, coded_nil, coded_append, coded_more}
use Rattle.ecma_dispatch.specs.Coded.{Coded}
use Rattle.ecma_dispatch.specs.Table.{Check, Row, together, of_kind, can_raise, part, before, parts, case, by_code, free, apart, among}

nil_right : {A : Type 0} (l : List A) → l ++ [] ≡ l
nil_right [] = refl
nil_right (x ∷ l) = ap (λ m. x ∷ m) (nil_right l)

-- a list of one code
alone : (c d : ℕ) → member c (d ∷ []) ≡ true → d ≡ c
alone c d e = sym (eqb-true c d (is (eqb c d) e))
  where
    is : (b : Bool) → (b || false) ≡ true → b ≡ true
    is true q = refl
    is false q = q

module _ (c : ℕ) where
  part_is : (cs : List ℕ) (fs : List Finding) → member c cs ≡ true → Coded cs fs → with_code c fs ≡ part c cs fs
  part_is [] fs e w = never (sym e)
  part_is (d ∷ []) fs e w = let q = alone c d e in rw (← q) (coded_all d fs w)
  part_is (d ∷ x ∷ cs) fs e w = refl

  -- checks that can't raise the code
  none_of : (es : List Check) → can_raise c es ≡ false → with_code c (together es) ≡ []
  none_of [] h = with_nil c
  none_of (e ∷ []) h = coded_none c e.codes e.findings (or_first (member c e.codes) false h) e.coded
  none_of (e ∷ f ∷ es) h =
      with_append c e.findings (together (f ∷ es))
      ∙ rw (coded_none c e.codes e.findings (or_first (member c e.codes) (can_raise c (f ∷ es)) h) e.coded) (none_of (f ∷ es) (or_second (member c e.codes) (can_raise c (f ∷ es)) h))

  parts_are : (es : List Check) → with_code c (together es) ≡ parts c es
  parts_are [] = with_nil c
  parts_are (e ∷ []) = go (member c e.codes) refl
    where
      go : (b : Bool) → member c e.codes ≡ b → with_code c e.findings ≡ before b false (part c e.codes e.findings) []
      go true h = part_is e.codes e.findings h e.coded
      go false h = coded_none c e.codes e.findings h e.coded
  parts_are (e ∷ f ∷ es) = with_append c e.findings (together (f ∷ es)) ∙ go (member c e.codes) refl (can_raise c (f ∷ es)) refl (parts_are (f ∷ es))
    where
      go : (b : Bool) → member c e.codes ≡ b → (d : Bool) → can_raise c (f ∷ es) ≡ d → with_code c (together (f ∷ es)) ≡ parts c (f ∷ es)
          → with_code c e.findings ++ with_code c (together (f ∷ es)) ≡ before b d (part c e.codes e.findings) (parts c (f ∷ es))
      go true h true g i = rw (part_is e.codes e.findings h e.coded, i)
      go true h false g i = rw (none_of (f ∷ es) g) (nil_right (with_code c e.findings) ∙ part_is e.codes e.findings h e.coded)
      go false h true g i = rw (coded_none c e.codes e.findings h e.coded) i
      go false h false g i = rw (coded_none c e.codes e.findings h e.coded) i

  -- a kind of no row
  free_none : (k : ℕ) (rs : List Row) → free k rs ≡ true → by_code c k rs ≡ []
  free_none k [] h = refl
  free_none k (r ∷ rs) h = go (can_raise c r.checks) (eqb k r.kind) refl (free_none k rs (and_right_lem (not (eqb k r.kind)) (free k rs) h))
    where
      go : (b d : Bool) → eqb k r.kind ≡ d → by_code c k rs ≡ [] → case b d (parts c r.checks) (by_code c k rs) ≡ []
      go true true q i = never (sym q ∙ not-true (eqb k r.kind) (and_left_lem (not (eqb k r.kind)) (free k rs) h))
      go true false q i = i
      go false d q i = i

  -- THE LEMMA
  pub by_code_is : (k : ℕ) (rs : List Row) → apart rs ≡ true → with_code c (of_kind k rs) ≡ by_code c k rs
  by_code_is k [] h = with_nil c
  by_code_is k (r ∷ rs) h = go (can_raise c r.checks) refl (eqb k r.kind) refl (by_code_is k rs (and_right_lem (free r.kind rs) (apart rs) h))
    where
      go : (b : Bool) → can_raise c r.checks ≡ b → (d : Bool) → eqb k r.kind ≡ d → with_code c (of_kind k rs) ≡ by_code c k rs
          → with_code c (cond d (together r.checks) (of_kind k rs)) ≡ case b d (parts c r.checks) (by_code c k rs)
      go true g true q i = parts_are r.checks
      go true g false q i = i
      go false g true q i = none_of r.checks g ∙ sym (free_none k rs (rw (eqb-true k r.kind q) (and_left_lem (free r.kind rs) (apart rs) h)))
      go false g false q i = i

-- the codes of a table
module _ (cs : List ℕ) where
  coded_checks : (es : List Check) → all (λ e. all (λ c. member c cs) e.codes) es ≡ true → Coded cs (together es)
  coded_checks [] h = coded_nil cs
  coded_checks (e ∷ []) h = coded_more e.codes cs (and_left_lem (all (λ c. member c cs) e.codes) true h) e.coded
  coded_checks (e ∷ f ∷ es) h =
      coded_append cs e.findings (together (f ∷ es)) (coded_more e.codes cs (and_left_lem (all (λ c. member c cs) e.codes) (all (λ e. all (λ c. member c cs) e.codes) (f ∷ es)) h) e.coded)
      (coded_checks (f ∷ es) (and_right_lem (all (λ c. member c cs) e.codes) (all (λ e. all (λ c. member c cs) e.codes) (f ∷ es)) h))

  pub coded_table : (k : ℕ) (rs : List Row) → among cs rs ≡ true → Coded cs (of_kind k rs)
  coded_table k [] h = coded_nil cs
  coded_table k (r ∷ rs) h = go (eqb k r.kind) (coded_table k rs (and_right_lem (all (λ e. all (λ c. member c cs) e.codes) r.checks) (among cs rs) h))
    where
      go : (b : Bool) → Coded cs (of_kind k rs) → Coded cs (cond b (together r.checks) (of_kind k rs))
      go true i = coded_checks r.checks (and_left_lem (all (λ e. all (λ c. member c cs) e.codes) r.checks) (among cs rs) h)
      go false i = i
