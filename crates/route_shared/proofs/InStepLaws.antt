-- What the loop over the entries of two runs keeps: so many entries are shared, and the rest of both runs is still to come.
use Rattle.std.specs.Prelude.{ℕ, suc, ◌+◌, ◌≡◌, refl, ◌≢◌, List, [], ◌∷◌, ◌++◌, map}
use Rattle.std.proofs.Common.{sym, ◌∙◌, ap, eq-eqb, ne_eqb, arith}
use Rattle.std.proofs.lemmas.List.{map-append}
use Rattle.route_completion.specs.Sem.{pick}
use Rattle.route_completion.specs.Route.{node_of}
use Rattle.route_list.specs.Listing.{saturated, next}
use Rattle.route_laws.specs.Shared.{shared}
use Rattle.code_flat.specs.Machine.{code_route}
use Rattle.code_machine.specs.Pending.{stack}
use Rattle.code_machine.specs.Turn.{start_of, from, Ends, Going}
use Rattle.code_machine.proofs.TurnLaws.{ends_run, going_run}
use Rattle.code_machine.specs.declared.Place.{Place}
use Rattle.route_shared.specs.Shared.{shared_entries}

-- The nodes that are listed from p on.
abbrev pub nodes_from : List ℕ → List ℕ → List ℕ → Place → List ℕ
nodes_from C qs ends p = map node_of (from C qs ends p).nodes

-- The run for qs stands at p, that for ps at q; n is the count of what they share so far.
pub record InStep (C qs ps ends others : List ℕ) (p q : Place) (n : ℕ) : Type 0 where
  pub many : ℕ
  pub counts : n ≡ saturated many
  pub rest : shared (code_route C qs).list (code_route C ps).list ≡ many + shared (nodes_from C qs ends p) (nodes_from C ps others q)

pub in_step_first : (C qs ps ends others : List ℕ) (p q : Place) → p ≡ start_of C → q ≡ start_of C → InStep C qs ps ends others p q 0
unfolding stack
in_step_first C qs ps ends others p q u v =
    record {
      many = 0;
      counts = omega arith;
      rest =
          let e : shared (nodes_from C qs ends p) (nodes_from C ps others q) ≡ 0 + shared (nodes_from C qs ends p) (nodes_from C ps others q) = omega arith in
          (λ i. shared (nodes_from C qs ends (sym u i)) (nodes_from C ps others (sym v i))) ∙ e;
    }

-- The entry that comes next.
listed : (C qs ends after : List ℕ) (p : Place) (x : ℕ) (q : Place) → Going C qs ends after p (x ∷ []) q → nodes_from C qs ends p ≡ x ∷ nodes_from C qs after q
listed C qs ends after p x q g =
    ap (λ r. map node_of r.nodes) (going_run C qs ends after p (x ∷ []) q g) ∙ map-append node_of g.shown (from C qs after q).nodes ∙ ap (λ l. l ++ nodes_from C qs after q) g.nodes

none_first : (ys : List ℕ) → shared [] ys ≡ 0
unfolding shared
none_first ys = refl

none_second : (xs : List ℕ) → shared xs [] ≡ 0
unfolding shared
none_second [] = refl
none_second (x ∷ xs) = refl

same_entry : (x y : ℕ) (xs ys : List ℕ) → x ≡ y → shared (x ∷ xs) (y ∷ ys) ≡ suc (shared xs ys)
unfolding shared
same_entry x y xs ys e = ap (λ b. pick b (suc (shared xs ys)) 0) (eq-eqb x y e)

other_entry : (x y : ℕ) (xs ys : List ℕ) → x ≢ y → shared (x ∷ xs) (y ∷ ys) ≡ 0
unfolding shared
other_entry x y xs ys d = ap (λ b. pick b (suc (shared xs ys)) 0) (ne_eqb x y d)

module _ (C qs ps ends others : List ℕ) (p q : Place) (n : ℕ) (k : InStep C qs ps ends others p q n) where
  -- Nothing more is shared.
  done : shared (nodes_from C qs ends p) (nodes_from C ps others q) ≡ 0 → n ≡ shared_entries C qs ps
  done h =
      let e : shared (code_route C qs).list (code_route C ps).list ≡ k.many = k.rest ∙ omega (arith, h) in
      k.counts ∙ ap saturated (sym e)

  pub first_over : (e : ℕ) → Ends C qs ends p e → n ≡ shared_entries C qs ps
  first_over e h = done (ap (λ r. shared (map node_of r.nodes) (nodes_from C ps others q)) (ends_run C qs ends p e h) ∙ none_first (nodes_from C ps others q))

  pub second_over : (e : ℕ) → Ends C ps others q e → n ≡ shared_entries C qs ps
  second_over e h = done (ap (λ r. shared (nodes_from C qs ends p) (map node_of r.nodes)) (ends_run C ps others q e h) ∙ none_second (nodes_from C qs ends p))

  -- The next entry of each.
  module _ (after beyond : List ℕ) (x : ℕ) (p' : Place) (g : Going C qs ends after p (x ∷ []) p') (y : ℕ) (q' : Place) (h : Going C ps others beyond q (y ∷ []) q') where
    both : shared (nodes_from C qs ends p) (nodes_from C ps others q) ≡ shared (x ∷ nodes_from C qs after p') (y ∷ nodes_from C ps beyond q')
    both = λ i. shared (listed C qs ends after p x p' g i) (listed C ps others beyond q y q' h i)

    pub differ : x ≢ y → n ≡ shared_entries C qs ps
    differ d = done (both ∙ other_entry x y (nodes_from C qs after p') (nodes_from C ps beyond q') d)

    pub in_step_more : x ≡ y → InStep C qs ps after beyond p' q' (next n)
    in_step_more e =
        record {
          many = k.many + 1;
          counts = omega (arith, k.counts);
          rest =
              let one : shared (nodes_from C qs ends p) (nodes_from C ps others q) ≡ suc (shared (nodes_from C qs after p') (nodes_from C ps beyond q')) = both ∙ same_entry x y (nodes_from C qs after p') (nodes_from C ps beyond q') e in
              k.rest ∙ omega (arith, one);
        }
