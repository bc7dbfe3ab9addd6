-- 13.1.1 and the codes 2 and 3 at a name: they agree just where the name is no word that is reserved everywhere, a sloppy `yield` has no [Yield], and an `await` of a script has [Await] just in
-- a static block's own scope.
use Rattle.std.specs.Prelude.{ℕ, ◌≡◌, refl, List, [], ◌∷◌, ◌++◌, Bool, true, false, not, ◌&&◌, ◌||◌}
use Rattle.std.proofs.Math.Path.{ap, sym}
use Rattle.std.proofs.Common.{◌∙◌}
use Rattle.base_common.specs.Upto.{any}
use Rattle.base_common.proofs.Bools.{never, or_first, or_second}
use Rattle.table_names.specs.Name.{same, name_of, name_is}
use Rattle.table_names.specs.Words as word
use Rattle.ecma_trees.specs.Walk.{some, only}
use Rattle.ecma_trees.proofs.WalkLaws.{some_append, some_only}
use Rattle.ecma_base.specs.Telling.{Telling}
use Rattle.ecma_base.specs.Strict.{strict_code}
use Rattle.ecma_base.specs.Scopes.{block_scope}
use Rattle.ecma_names.specs.ReservedWords.{reserved_words}
use Rattle.ecma_names.specs.Parameters.{goal_module, yield_parameter, await_parameter}
use Rattle.ecma_names.specs.Identifiers.{identifier, strict_reserved, identifier_error}
use Rattle.ecma_names.proofs.IdentifiersLaws.{among_as, await_apart}
use Rattle.ecma_names.specs.Changed.{reserved_name, await_name_scoped}

-- THE WORDS: `yield` is one of those of strict code; a word that is reserved everywhere is neither one of them nor `await`
yield_strict : any (λ w. same word.yield_word w) strict_reserved ≡ true
unfolding same
yield_strict = refl

reserved_apart : any (λ w. any (λ v. same w v) (word.await_word ∷ strict_reserved)) reserved_words ≡ false
unfolding same
reserved_apart = refl

apart_from : (l m : List (List ℕ)) → any (λ w. any (λ v. same w v) m) l ≡ false → (x : List ℕ) → any (λ w. same x w) l ≡ true → any (λ v. same x v) m ≡ false
apart_from [] m e x q = never (sym q)
apart_from (w ∷ l) m e x q = go (same x w) refl q (apart_from l m (or_second (any (λ v. same w v) m) (any (λ w. any (λ v. same w v) m) l) e) x)
  where
    go : (b : Bool) → same x w ≡ b → (b || any (λ v. same x v) l) ≡ true → (any (λ w. same x w) l ≡ true → any (λ v. same x v) m ≡ false) → any (λ v. same x v) m ≡ false
    go true p q f = among_as x w m p (or_first (any (λ v. same w v) m) (any (λ w. any (λ v. same w v) m) l) e)
    go false p q f = f q

-- BY CASES. s: strict code; w: a word of strict code; m: a module; a: `await`; y: `yield`; p, q: [Yield], [Await]; b: the scope is a static block's; r: a word that is reserved
-- everywhere
abbrev rule : Bool → Bool → Bool → Bool → Bool → Bool → Bool → Bool → Bool
rule s w m a y p q r = (s && w) || ((m && a) || ((p && y) || ((q && a) || r)))

abbrev found : Bool → Bool → Bool → Bool → Bool → ℕ → List ℕ
found s w m a b n = only ((s && w) || (m && a)) n ++ only (a && (not m && b)) n

and_false : (x : Bool) → (x && false) ≡ false
and_false true = refl
and_false false = refl

or_true : (x : Bool) → (x || true) ≡ true
or_true true = refl
or_true false = refl

agree : (s w m a y p q b r : Bool) (n : ℕ) → (a ≡ true → w ≡ false) → (y ≡ true → w ≡ true) → r ≡ false → (y ≡ true → s ≡ false → p ≡ false) → (a ≡ true → m ≡ false → q ≡ b)
    → found s w m a b n ≡ only (rule s w m a y p q r) n
agree s w m a y p q b true n f g h i j = never h
agree s true m true y p q b false n f g h i j = never (f refl)
agree s false m true true p q b false n f g h i j = never (sym (g refl))
agree s false true true false p q b false n f g h i j = rw (and_false s)
agree s false false true false p q true false n f g h i j = rw (and_false s, and_false p, j refl refl)
agree s false false true false p q false false n f g h i j = rw (and_false s, and_false p, j refl refl)
agree true true m false y p q b false n f g h i j = refl
agree false true m false true p q b false n f g h i j = rw (and_false m, and_false q, i refl refl)
agree false true m false false p q b false n f g h i j = rw (and_false m, and_false q, and_false p)
agree s false m false true p q b false n f g h i j = never (sym (g refl))
agree s false m false false p q b false n f g h i j = rw (and_false s, and_false m, and_false q, and_false p)

-- the same backwards: what they say, as one test
found_is : (s w m a b : Bool) (n : ℕ) → some (found s w m a b n) ≡ (((s && w) || (m && a)) || (a && (not m && b)))
found_is s w m a b n =
    some_append (only ((s && w) || (m && a)) n) (only (a && (not m && b)) n) ∙ rw (some_only ((s && w) || (m && a)) n, some_only (a && (not m && b)) n)

abbrev Same : Bool → Bool → Bool → Bool → Bool → Bool → Bool → Bool → Bool → Type 0
Same s w m a y p q b r = (((s && w) || (m && a)) || (a && (not m && b))) ≡ rule s w m a y p q r

no_reserved : (s w m a y p q b r : Bool) → (r ≡ true → (a ≡ false) × (w ≡ false)) → Same s w m a y p q b r → r ≡ false
no_reserved s w m a y p q b false k e = refl
no_reserved s w m true y p q b true k e = (k refl).0
no_reserved s true m false y p q b true k e = (k refl).1
no_reserved s false m false y p q b true k e = sym (rw (and_false s, and_false m, and_false q, or_true (p && y)) at e)

no_yield : (s w m a y p q b r : Bool) → (a ≡ true → w ≡ false) → (y ≡ true → w ≡ true) → (r ≡ true → (a ≡ false) × (w ≡ false))
    → Same s w m a y p q b r → y ≡ true → s ≡ false → p ≡ false
no_yield true w m a y p q b r f g k e i j = never j
no_yield false w m a false p q b r f g k e i j = never (sym i)
no_yield false false m a true p q b r f g k e i j = never (sym (g refl))
no_yield false true m true true p q b r f g k e i j = never (f refl)
no_yield false true m false true p q b true f g k e i j = never (k refl).1
no_yield false true m false true true q b false f g k e i j = sym (rw (and_false m) at e)
no_yield false true m false true false q b false f g k e i j = refl

await_scoped : (s w m a y p q b r : Bool) → (a ≡ true → w ≡ false) → (y ≡ true → w ≡ true) → (r ≡ true → (a ≡ false) × (w ≡ false))
    → Same s w m a y p q b r → a ≡ true → m ≡ false → q ≡ b
await_scoped s w m false y p q b r f g k e i j = never (sym i)
await_scoped s w true true y p q b r f g k e i j = never j
await_scoped s true false true y p q b r f g k e i j = never (f refl)
await_scoped s false false true true p q b r f g k e i j = never (sym (g refl))
await_scoped s false false true false p q b true f g k e i j = never (k refl).0
await_scoped s false false true false p true b false f g k e i j = sym (rw (and_false s, and_false p) at e)
await_scoped s false false true false p false b false f g k e i j = sym (rw (and_false s, and_false p) at e)

-- one way only: x, z: two of the bullets as they are
sound : (x m a z q b r : Bool) → (b ≡ true → q ≡ true) → ((x || (m && a)) || (a && (not m && b))) ≡ true → (x || ((m && a) || (z || ((q && a) || r)))) ≡ true
sound true m a z q b r h e = refl
sound false m false z q b r h e = never (sym (rw (and_false m) at e))
sound false true true z q b r h e = refl
sound false false true z q true r h e = rw (h refl, or_true z)
sound false false true z q false r h e = never (sym e)

-- AT A NAME
module _ (told : Telling) (t : ℕ) (ns ss names : List ℕ) (n : ℕ) where
  abbrev s : Bool
  s = strict_code ns ss n

  abbrev m : Bool
  m = goal_module t

  abbrev a : Bool
  a = name_is ns names n word.await_word

  abbrev y : Bool
  y = name_is ns names n word.yield_word

  abbrev p : Bool
  p = yield_parameter told t ns n

  abbrev c : Bool
  c = await_parameter told t ns n

  abbrev b : Bool
  b = block_scope ns ss n

  abbrev strict_word : Bool
  strict_word = any (λ w. name_is ns names n w) strict_reserved

  abbrev reserved_word : Bool
  reserved_word = any (λ w. name_is ns names n w) reserved_words

  yield_is : name_is ns names n word.yield_word ≡ true → strict_word ≡ true
  yield_is e = among_as (name_of ns names n) word.yield_word strict_reserved e yield_strict

  reserved_is_not : reserved_word ≡ true → (name_is ns names n word.await_word ≡ false) × (strict_word ≡ false)
  reserved_is_not e =
      let q = apart_from reserved_words (word.await_word ∷ strict_reserved) reserved_apart (name_of ns names n) e in
      (or_first (name_is ns names n word.await_word) strict_word q, or_second (name_is ns names n word.await_word) strict_word q)

  pub record Alike : Type 0 where
    pub reserved : any (λ w. name_is ns names n w) reserved_words ≡ false
    pub yield : name_is ns names n word.yield_word ≡ true → strict_code ns ss n ≡ false → yield_parameter told t ns n ≡ false
    pub await : name_is ns names n word.await_word ≡ true → goal_module t ≡ false → await_parameter told t ns n ≡ block_scope ns ss n

  pub names_agree : identifier ns n ≡ true → Alike
      → only (reserved_name t ns ss names n) n ++ only (await_name_scoped t ns ss names n) n ≡ only (identifier_error told t ns ss names n) n
  unfolding reserved_name await_name_scoped identifier_error
  names_agree e w =
      rw e
      (agree s strict_word m a y p c b reserved_word n (await_apart ns names n) yield_is w.reserved w.yield w.await)

  -- a finding is right where [Await] is in all of a static block's own scope
  pub names_sound : identifier ns n ≡ true → (block_scope ns ss n ≡ true → await_parameter told t ns n ≡ true)
      → some (only (reserved_name t ns ss names n) n ++ only (await_name_scoped t ns ss names n) n) ≡ true
      → identifier_error told t ns ss names n ≡ true
  unfolding reserved_name await_name_scoped identifier_error
  names_sound e f q = rw e (sound (s && strict_word) m a (p && y) c b reserved_word f (sym (found_is s strict_word m a b n) ∙ (rw e at q)))

  -- and nowhere else
  pub names_agree_only : identifier ns n ≡ true
      → only (reserved_name t ns ss names n) n ++ only (await_name_scoped t ns ss names n) n ≡ only (identifier_error told t ns ss names n) n
      → Alike
  unfolding reserved_name await_name_scoped identifier_error
  names_agree_only e q =
      let z = sym (found_is s strict_word m a b n) ∙ ap some (rw e at q) ∙ some_only (rule s strict_word m a y p c reserved_word) n in
      record {
        reserved = no_reserved s strict_word m a y p c b reserved_word reserved_is_not z;
        yield = no_yield s strict_word m a y p c b reserved_word (await_apart ns names n) yield_is reserved_is_not z;
        await = await_scoped s strict_word m a y p c b reserved_word (await_apart ns names n) yield_is reserved_is_not z;
      }
