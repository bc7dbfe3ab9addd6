-- Laws of the findings with a code, and of lists whose findings have certain codes only.
use Rattle.table_records.specs.declared.NodeId.{NodeId}
use Rattle.std.specs.Prelude.{ℕ, ◌≡◌, refl, Bool, true, false, cond, ◌||◌, eqb, Option, Some, None}
use Rattle.std.proofs.Common.{ap, sym, subst, ◌∙◌, eq-eqb, eqb-true}
use mathlib.Core.List.{List, [], ◌∷◌, ◌++◌, foldr, flat_map}
use Rattle.base_common.specs.Upto.{all}
use Rattle.base_common.proofs.UptoLaws.{and_left_lem, and_right_lem}
use Rattle.base_common.proofs.Bools.{never}
use Rattle.base_walk.specs.On.{member}
use Rattle.table_children.specs.Children.{when_found}
use Rattle.check_diagnostics.specs.declared.Finding.{Finding}
use Rattle.check_diagnostics.specs.Finding.{listed}
use Rattle.ecma_dispatch.specs.WithCode.{with_code}
use Rattle.ecma_dispatch.specs.Coded.{Coded}

pub with_append : (c : ℕ) (fs gs : List Finding) → with_code c (fs ++ gs) ≡ with_code c fs ++ with_code c gs
unfolding with_code
with_append c [] gs = refl
with_append c (f ∷ fs) gs = go (eqb f.code c) (with_append c fs gs)
  where
    go : (b : Bool) → with_code c (fs ++ gs) ≡ with_code c fs ++ with_code c gs
        → cond b (f ∷ with_code c (fs ++ gs)) (with_code c (fs ++ gs)) ≡ cond b (f ∷ with_code c fs) (with_code c fs) ++ with_code c gs
    go true h = ap (λ l. f ∷ l) h
    go false h = h

pub with_nil : (c : ℕ) → with_code c [] ≡ []
unfolding with_code
with_nil c = refl

pub with_cond : (c : ℕ) (b : Bool) (fs gs : List Finding) → with_code c (cond b fs gs) ≡ cond b (with_code c fs) (with_code c gs)
with_cond c true fs gs = refl
with_cond c false fs gs = refl

-- the findings with a code of many nodes, node by node
pub with_flat_map : {A : Type 0} (c : ℕ) (g : A → List Finding) (l : List A) → with_code c (flat_map g l) ≡ flat_map (λ j. with_code c (g j)) l
unfolding with_code flat_map
with_flat_map c g [] = refl
with_flat_map c g (j ∷ l) = with_append c (g j) (flat_map g l) ∙ ap (λ m. with_code c (g j) ++ m) (with_flat_map c g l)

-- one finding: it is kept where the code is its own
pub with_one : (c : ℕ) (f : Finding) → f.code ≡ c → with_code c (f ∷ []) ≡ f ∷ []
unfolding with_code
with_one c f e = rw (eq-eqb f.code c e)

-- one of certain codes only has none of another
pub coded_none : (c : ℕ) (cs : List ℕ) (fs : List Finding) → member c cs ≡ false → Coded cs fs → with_code c fs ≡ []
unfolding with_code
coded_none c cs fs n w = go fs w.each
  where
    other : (f : Finding) → member f.code cs ≡ true → eqb f.code c ≡ true → true ≡ false
    other f e q = sym e ∙ ap (λ x. member x cs) (eqb-true f.code c q) ∙ n

    go : (fs : List Finding) → all (λ f. member f.code cs) fs ≡ true → with_code c fs ≡ []
    go [] e = refl
    go (f ∷ fs) e = by (eqb f.code c) refl (go fs (and_right_lem (member f.code cs) (all (λ f. member f.code cs) fs) e))
      where
        by : (b : Bool) → eqb f.code c ≡ b → with_code c fs ≡ [] → cond b (f ∷ with_code c fs) (with_code c fs) ≡ []
        by true q h = never (other f (and_left_lem (member f.code cs) (all (λ f. member f.code cs) fs) e) q)
        by false q h = h

-- one of a single code is as it is
pub coded_all : (c : ℕ) (fs : List Finding) → Coded (c ∷ []) fs → with_code c fs ≡ fs
unfolding with_code
coded_all c fs w = go fs w.each
  where
    is : (x : Bool) → (x || false) ≡ true → x ≡ true
    is true e = refl
    is false e = e

    go : (fs : List Finding) → all (λ f. member f.code (c ∷ [])) fs ≡ true → with_code c fs ≡ fs
    go [] e = refl
    go (f ∷ fs) e =
        rw (is (eqb f.code c) (and_left_lem (member f.code (c ∷ [])) (all (λ f. member f.code (c ∷ [])) fs) e))
        (ap (λ l. f ∷ l) (go fs (and_right_lem (member f.code (c ∷ [])) (all (λ f. member f.code (c ∷ [])) fs) e)))

module _ (cs : List ℕ) where
  pub coded_nil : Coded cs []
  coded_nil = record { each = refl }

  pub coded_append : (fs gs : List Finding) → Coded cs fs → Coded cs gs → Coded cs (fs ++ gs)
  coded_append fs gs p q = record { each = go fs p.each }
    where
      go : (fs : List Finding) → all (λ f. member f.code cs) fs ≡ true → all (λ f. member f.code cs) (fs ++ gs) ≡ true
      go [] e = q.each
      go (f ∷ fs) e = rw (and_left_lem (member f.code cs) (all (λ f. member f.code cs) fs) e) (go fs (and_right_lem (member f.code cs) (all (λ f. member f.code cs) fs) e))

  pub coded_cond : (b : Bool) (fs gs : List Finding) → Coded cs fs → Coded cs gs → Coded cs (cond b fs gs)
  coded_cond true fs gs p q = p
  coded_cond false fs gs p q = q

  pub coded_flat_map : {A : Type 0} (g : A → List Finding) → ((a : A) → Coded cs (g a)) → (l : List A) → Coded cs (flat_map g l)
  unfolding flat_map
  coded_flat_map g h [] = coded_nil
  coded_flat_map g h (a ∷ l) = coded_append (g a) (flat_map g l) (h a) (coded_flat_map g h l)

-- what holds of the codes holds of each finding's
of_each : (p : ℕ → Bool) (cs : List ℕ) → all p cs ≡ true → (c : ℕ) → member c cs ≡ true → p c ≡ true
of_each p [] e c q = never (sym q)
of_each p (x ∷ cs) e c q = by (eqb c x) refl (of_each p cs (and_right_lem (p x) (all p cs) e) c) q
  where
    by : (b : Bool) → eqb c x ≡ b → (member c cs ≡ true → p c ≡ true) → (b || member c cs) ≡ true → p c ≡ true
    by true h r q = subst (λ y. p y ≡ true) (sym (eqb-true c x h)) (and_left_lem (p x) (all p cs) e)
    by false h r q = r q

pub each_code : (p : ℕ → Bool) (cs : List ℕ) → all p cs ≡ true → {fs : List Finding} → Coded cs fs → all (λ f. p f.code) fs ≡ true
each_code p cs e {fs} w = go fs w.each
  where
    go : (fs : List Finding) → all (λ f. member f.code cs) fs ≡ true → all (λ f. p f.code) fs ≡ true
    go [] h = refl
    go (f ∷ fs) h = rw (of_each p cs e f.code (and_left_lem (member f.code cs) (all (λ f. member f.code cs) fs) h)) (go fs (and_right_lem (member f.code cs) (all (λ f. member f.code cs) fs) h))

-- fewer codes are codes among more
pub coded_more : (cs ds : List ℕ) → all (λ c. member c ds) cs ≡ true → {fs : List Finding} → Coded cs fs → Coded ds fs
coded_more cs ds e {fs} w = record { each = each_code (λ c. member c ds) cs e w }

-- what a check raises has one of these codes
unfoldable pub fine : List ℕ → Option Finding → Bool
fine cs (Some f) = member f.code cs
fine cs None = true

pub fine_if : (cs : List ℕ) (b : Bool) (r s : Option Finding) → fine cs (cond b r s) ≡ cond b (fine cs r) (fine cs s)
fine_if cs true r s = refl
fine_if cs false r s = refl

pub fine_error : (cs : List ℕ) (f : Finding) → fine cs (Some f) ≡ member f.code cs
unfolding fine
fine_error cs f = refl

pub fine_clear : (cs : List ℕ) → fine cs None ≡ true
unfolding fine
fine_clear cs = refl

pub both_true : (b : Bool) → cond b true true ≡ true
both_true true = refl
both_true false = refl

pub fine_up : (cs : List ℕ) (says : ℕ → Option Finding → Option Finding) → ((a : ℕ) (r : Option Finding) → fine cs r ≡ true → fine cs (says a r) ≡ true) → (l : List ℕ) → fine cs (foldr says None l) ≡ true
fine_up cs says h [] = fine_clear cs
fine_up cs says h (a ∷ l) = h a (foldr says None l) (fine_up cs says h l)

pub fine_found : (cs : List ℕ) (x : Option NodeId) (f : ℕ → Option Finding) (r : Option Finding) → ((m : ℕ) → fine cs (f m) ≡ true) → fine cs r ≡ true → fine cs (when_found x f r) ≡ true
fine_found cs (Some m) f r p q = p m.0
fine_found cs None f r p q = q

pub fine_held : (cs : List ℕ) (x : Option NodeId) (f : ℕ → Option Finding) → ((m : ℕ) → fine cs (f m) ≡ true) → fine cs (when_found x f None) ≡ true
fine_held cs (Some m) f p = p m.0
fine_held cs None f p = fine_clear cs

pub coded : (cs : List ℕ) (r : Option Finding) → fine cs r ≡ true → Coded cs (listed r)
unfolding fine
coded cs (Some f) e = record { each = rw e }
coded cs None e = record { each = refl }
