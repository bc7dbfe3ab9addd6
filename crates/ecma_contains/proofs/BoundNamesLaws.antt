-- A name among the BoundNames is one to which the operation comes.
use Rattle.std.specs.Prelude.{ℕ, ◌≡◌, refl, List, [], ◌∷◌, ◌++◌, Bool, true, false, cond, ◌&&◌, ◌||◌, eqb}
use Rattle.std.proofs.Math.Path.{ap}
use Rattle.std.proofs.Common.{sym, ◌∙◌}
use Rattle.base_common.specs.Upto.{any}
use Rattle.table_records.specs.Table.{kind_of}
use Rattle.table_records.specs.Kinds as k
use Rattle.table_names.specs.Name.{name_is}
use Rattle.table_names.specs.Words as word
use Rattle.ecma_trees.specs.Rose.{Rose, Roses, node, rnil, rcons, idx, parts_of}
use Rattle.ecma_trees.specs.Walk.{only}
use Rattle.ecma_base.specs.Contains.{contains, contains_any, contains_from}
use Rattle.ecma_contains.specs.Contains.{lexical_declaration, bound_begin, bound_into, let_name}
use Rattle.ecma_contains.specs.BoundNames.{bound_names, bound_names_of, binds_let}

any_append : (p : ℕ → Bool) (l m : List ℕ) → any p (l ++ m) ≡ (any p l || any p m)
any_append p [] m = refl
any_append p (x ∷ l) m = rw (any_append p l m) (go (p x) (any p l) (any p m))
  where
    go : (a b c : Bool) → (a || (b || c)) ≡ ((a || b) || c)
    go true b c = refl
    go false b c = refl

any_only : (p : ℕ → Bool) (b : Bool) (n : ℕ) → any p (only b n) ≡ (b && p n)
any_only p true n = go (p n)
  where
    go : (a : Bool) → (a || false) ≡ a
    go true = refl
    go false = refl
any_only p false n = refl

any_cond : (p : ℕ → Bool) (b : Bool) (l : List ℕ) → any p (cond b l []) ≡ (b && any p l)
any_cond p true l = refl
any_cond p false l = refl

module _ (ns names : List ℕ) where
  abbrev is_let : ℕ → Bool
  is_let m = name_is ns names m word.let_word

  mutual
    unfolding contains bound_names bound_names_of

    named : (t : Rose) → any is_let (bound_names ns t) ≡ contains (let_name ns names) (bound_into ns) t
    named (node n ks) =
        any_append is_let (only (eqb (kind_of ns n) k.BindingIdentifier) n) (bound_names_of ns ks (bound_into ns n))
        ∙ rw (any_only is_let (eqb (kind_of ns n) k.BindingIdentifier) n, named_all ks (bound_into ns n))

    named_all : (ks : Roses) (b : ℕ → Bool) → any is_let (bound_names_of ns ks b) ≡ contains_any (let_name ns names) (bound_into ns) ks b
    named_all rnil b = refl
    named_all (rcons t ts) b =
        any_append is_let (cond (b (idx t)) (bound_names ns t) []) (bound_names_of ns ts b)
        ∙ rw (any_cond is_let (b (idx t)) (bound_names ns t), named t, named_all ts b)

  pub binds_let_is : (u : ℕ) → lexical_declaration ns u ≡ true → binds_let ns names u ≡ contains_from ns (let_name ns names) (bound_into ns) (bound_begin ns) u
  unfolding binds_let
  binds_let_is u q = named_all (parts_of ns u) (λ j. true) ∙ ap (λ (x : Bool). contains_any (let_name ns names) (bound_into ns) (parts_of ns u) (λ j. x)) (sym q)
