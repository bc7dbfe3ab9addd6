-- Where [Yield] and [Await] come from: at every node from its givers (Changed), and what scopes that follow the tree tell of them.
use Rattle.std.specs.Prelude.{ℕ, ◌≤◌, ◌<◌, ◌≡◌, refl, List, [], ◌∷◌, Bool, true, false, cond, ◌&&◌, ◌||◌, eqb}
use Rattle.std.proofs.Common.{ap, sym, ◌∙◌, ⊎_elim, arith, ne_eqb, eqb-true}
use Rattle.base_common.specs.Upto.{any}
use Rattle.base_common.proofs.UptoLaws.{and_left_lem}
use Rattle.base_common.specs.Tests.{within}
use Rattle.base_common.proofs.Bools.{never, or_first, or_second, in_range_lem, range_of}
use Rattle.table_records.specs.Table.{kind_of, parent_of, flags_of, has_flag, count, scope_of, scope_flags_of, scope_node_of}
use Rattle.table_records.specs.Facts.{Tree}
use Rattle.table_records.specs.Kinds as k
use Rattle.table_records.specs.NodeFlag as flag
use Rattle.table_records.specs.ScopeFlag as scope
use Rattle.table_children.specs.Children.{value_of, is_node}
use Rattle.table_ancestry.proofs.AncestryLaws.{parent_in}
use Rattle.refusal_standing.specs.Standing.{Placed}
use Rattle.ecma_trees.proofs.TrailLaws.{handed_law, handed_root}
use Rattle.ecma_base.specs.Telling.{Telling}
use Rattle.ecma_base.specs.Contains.{initializer}
use Rattle.ecma_base.proofs.ContainsLaws.{upward}
use Rattle.ecma_base.specs.Scopes.{makes_scope, scopes_follow, block_scope, Made}
use Rattle.ecma_base.proofs.ScopesLaws.{not_program, block_flag, made, same_or_made, same_only, made_kind, class_body, root_kind, root}
use Rattle.ecma_names.specs.Parameters.{goal_module, Parameters, of_goal, hands_on, parameters_of, yield_parameter, await_parameter}
use Rattle.ecma_names.specs.Changed.{own_edge, givers, in_generator, in_async, in_block, AwaitTold}

or_false : (b : Bool) → (b || false) ≡ b
or_false true = refl
or_false false = refl

or_swap : (a b : Bool) → (a || b) ≡ (b || a)
or_swap true true = refl
or_swap true false = refl
or_swap false true = refl
or_swap false false = refl

both : {a b c d : Bool} → a ≡ b → c ≡ d → ◌≡◌ {A = Parameters} (record { yield = a; await = c }) (record { yield = b; await = d })
both {a} {b} {c} {d} p q = ap (λ (x : Bool). record { yield = x; await = c }) p ∙ ap (λ (x : Bool). record { yield = b; await = x }) q

-- the list of givers, one step down
abbrev next : List ℕ → ℕ → ℕ → List ℕ → List ℕ
next ns i j l = cond (own_edge ns i j) (i ∷ []) (cond (eqb (kind_of ns i) k.Arrow) (i ∷ l) l)

module _ (ns : List ℕ) (t : Tree ns) where
  givers_up : (j : ℕ) → 0 < j → j < count ns → givers ns j ≡ next ns (parent_of ns j) j (givers ns (parent_of ns j))
  unfolding givers
  givers_up j z h = handed_law ns (λ i j r. next ns i j r) (0 ∷ []) t j z h

  givers_root : givers ns 0 ≡ 0 ∷ []
  unfolding givers
  givers_root = handed_root ns (λ i j r. next ns i j r) (0 ∷ [])

module _ (told : Telling) (s : ℕ) (ns : List ℕ) where
  -- what a giver gives: a generator [Yield]; what is async, a static block and a module [Await]
  abbrev yield_by : ℕ → Bool
  yield_by u = eqb (kind_of ns u) k.Function && told.generator u

  abbrev async_by : ℕ → Bool
  async_by u = within (kind_of ns u) k.Function k.Arrow && told.async u

  abbrev await_by : ℕ → Bool
  await_by u = async_by u || (eqb (kind_of ns u) k.StaticBlock || (eqb (kind_of ns u) k.Program && goal_module s))

  abbrev given : List ℕ → Parameters
  given l = record { yield = any yield_by l; await = any await_by l }

  -- one step down: a node hands its part what the givers of the part give
  step : (i j : ℕ) (l : List ℕ) → hands_on told ns i j (given l) ≡ given (next ns i j l)
  step i j l = go (eqb (kind_of ns i) 1) refl (eqb (kind_of ns i) 2) refl (eqb (kind_of ns i) 3) refl (initializer ns i j) refl
    where
      function : kind_of ns i ≡ 1 → (d : Bool) → (has_flag (flags_of ns i) flag.Declaration && eqb (kind_of ns j) 31) ≡ d → hands_on told ns i j (given l) ≡ given (next ns i j l)
      function q true d = rw (q, d)
      function q false d = rw (q, d, q) (both (sym (or_false (told.generator i))) (sym (or_false (told.async i || false) ∙ or_false (told.async i))))

      arrow : kind_of ns i ≡ 2 → (d : Bool) → eqb (kind_of ns j) 4 ≡ d → hands_on told ns i j (given l) ≡ given (next ns i j l)
      arrow q true d = rw (q, d, q) (both refl (sym (or_false (told.async i || false) ∙ or_false (told.async i))))
      arrow q false d = rw (q, d, q) (both refl (or_swap (any await_by l) (told.async i) ∙ ap (λ (x : Bool). x || any await_by l) (sym (or_false (told.async i)))))

      field : (f : eqb (kind_of ns i) 1 ≡ false) → (r : eqb (kind_of ns i) 2 ≡ false) → (b : eqb (kind_of ns i) 3 ≡ false) → initializer ns i j ≡ true → hands_on told ns i j (given l) ≡ given (next ns i j l)
      field f r b v =
          let e = range_of (kind_of ns i) 29 30 (and_left_lem (within (kind_of ns i) 29 30) (is_node (value_of ns i) j) v) in
          let e0 = e.0 in
          let p : eqb (kind_of ns i) 0 ≡ false = ne_eqb (kind_of ns i) 0 (λ (c : kind_of ns i ≡ 0). omega arith) in
          let n : within (kind_of ns i) 1 2 ≡ false = out (within (kind_of ns i) 1 2) refl e0 in
          rw (f, r, b, v) (both (sym (rw f)) (sym (rw (n, b, p))))
        where
          out : (x : Bool) → within (kind_of ns i) 1 2 ≡ x → 29 ≤ kind_of ns i → within (kind_of ns i) 1 2 ≡ false
          out true x l = let y = range_of (kind_of ns i) 1 2 x in let y1 = y.1 in absurd (omega arith)
          out false x l = x

      go : (f : Bool) → eqb (kind_of ns i) 1 ≡ f → (r : Bool) → eqb (kind_of ns i) 2 ≡ r → (b : Bool) → eqb (kind_of ns i) 3 ≡ b → (v : Bool) → initializer ns i j ≡ v
          → hands_on told ns i j (given l) ≡ given (next ns i j l)
      go true f r g b e v x = function (eqb-true (kind_of ns i) 1 f) (has_flag (flags_of ns i) flag.Declaration && eqb (kind_of ns j) 31) refl
      go false f true g b e v x = arrow (eqb-true (kind_of ns i) 2 g) (eqb (kind_of ns j) 4) refl
      go false f false g true e v x = let q = eqb-true (kind_of ns i) 3 e in rw q (both (sym (rw q)) (sym (rw q)))
      go false f false g false e true x = field f g e x
      go false f false g false e false x = rw (f, g, e, x)

  module _ (t : Tree ns) where
    -- AT EVERY NODE: both parameters are what its givers give
    pub given_all : (n : ℕ) → n < count ns → parameters_of told s ns n ≡ given (givers ns n)
    given_all = upward ns t (λ j. parameters_of told s ns j ≡ given (givers ns j)) first (λ j z h p. up j z h ∙ ap (hands_on told ns (parent_of ns j) j) p ∙ step (parent_of ns j) j (givers ns (parent_of ns j)) ∙ ap given (sym (givers_up ns t j z h)))
      where
        up : (j : ℕ) → 0 < j → j < count ns → parameters_of told s ns j ≡ hands_on told ns (parent_of ns j) j (parameters_of told s ns (parent_of ns j))
        up j z h = handed_law ns (hands_on told ns) (of_goal s) t j z h

        first : parameters_of told s ns 0 ≡ given (givers ns 0)
        first = handed_root ns (hands_on told ns) (of_goal s) ∙ sym (ap given (givers_root ns t) ∙ rw (t.root, or_false (goal_module s)))

    pub yield_from : (n : ℕ) → n < count ns → yield_parameter told s ns n ≡ in_generator told ns n
    yield_from n h = ap (λ p. p.yield) (given_all n h)

    await_from : (n : ℕ) → n < count ns → await_parameter told s ns n ≡ any await_by (givers ns n)
    await_from n h = ap (λ p. p.await) (given_all n h)

    module _ (ss : List ℕ) (v : Placed ns) where
      -- IN A STATIC BLOCK'S OWN SCOPE the block is the only giver
      module _ (w : scopes_follow ns ss ≡ true) where
        element_scope : (i : ℕ) → i < count ns → within (kind_of ns i) 29 30 ≡ true → block_scope ns ss i ≡ false
        element_scope i h e =
            let r = range_of (kind_of ns i) 29 30 e in
            let r0 = r.0 in
            let r1 = r.1 in
            let z : 0 < i = not_program ns t i (λ (c : kind_of ns i ≡ 0). omega arith) in
            let b : kind_of ns (parent_of ns i) ≡ 27 = v.element i h (omega arith) r1 in
            let l = parent_in ns t i h in
            let y : 0 < parent_of ns i = not_program ns t (parent_of ns i) (λ (c : kind_of ns (parent_of ns i) ≡ 0). omega arith) in
            let o : scope_of ns i ≡ scope_of ns (parent_of ns i) = same_only ns ss t w i z h (rw b) (rw b) in
            ap (λ (x : ℕ). has_flag (scope_flags_of ss x) scope.StaticBlockScope) o
            ∙ block_flag ns ss t w (parent_of ns i) l
            ∙ ap (λ (x : ℕ). eqb x 3) (made_kind ns ss t w (parent_of ns i) (class_body ns ss t w (parent_of ns i) y l b).0 ∙ v.class_body (parent_of ns i) l b)

        block_givers : (n : ℕ) → n < count ns → block_scope ns ss n ≡ true → givers ns n ≡ scope_node_of ss (scope_of ns n) ∷ []
        block_givers =
            upward ns t (λ j. block_scope ns ss j ≡ true → givers ns j ≡ scope_node_of ss (scope_of ns j) ∷ [])
            (λ e. never (sym e ∙ block_flag ns ss t w 0 t.some ∙ rw (root_kind ns ss t w 0 (root ns ss t w)))) step_down
          where
            step_down : (j : ℕ) → 0 < j → j < count ns → (block_scope ns ss (parent_of ns j) ≡ true → givers ns (parent_of ns j) ≡ scope_node_of ss (scope_of ns (parent_of ns j)) ∷ [])
                → block_scope ns ss j ≡ true → givers ns j ≡ scope_node_of ss (scope_of ns j) ∷ []
            step_down j z h p e = givers_up ns t j z h ∙ ⊎_elim same new (same_or_made ns ss t w j z h)
              where
                new : Made ns ss j → next ns (parent_of ns j) j (givers ns (parent_of ns j)) ≡ scope_node_of ss (scope_of ns j) ∷ []
                new m =
                    rw (m.whose, eqb-true (kind_of ns (parent_of ns j)) 3 (ap (λ (x : ℕ). eqb x 3) (sym (made_kind ns ss t w j m)) ∙ sym (block_flag ns ss t w j h) ∙ e))

                same : scope_of ns j ≡ scope_of ns (parent_of ns j) → next ns (parent_of ns j) j (givers ns (parent_of ns j)) ≡ scope_node_of ss (scope_of ns j) ∷ []
                same q = go (makes_scope (kind_of ns (parent_of ns j))) refl
                  where
                    go : (b : Bool) → makes_scope (kind_of ns (parent_of ns j)) ≡ b → next ns (parent_of ns j) j (givers ns (parent_of ns j)) ≡ scope_node_of ss (scope_of ns j) ∷ []
                    go true x = new (made ns ss t w j z h x)
                    go false x =
                        rw (out 1 (omega arith) (omega arith), out 2 (omega arith) (omega arith), out 3 (omega arith) (omega arith), field (within (kind_of ns (parent_of ns j)) 29 30) refl)
                        (p there ∙ ap (λ (x : ℕ). scope_node_of ss x ∷ []) (sym q))
                      where
                        there : block_scope ns ss (parent_of ns j) ≡ true
                        there = ap (λ (x : ℕ). has_flag (scope_flags_of ss x) scope.StaticBlockScope) (sym q) ∙ e

                        out : (c : ℕ) → 1 ≤ c → c ≤ 3 → eqb (kind_of ns (parent_of ns j)) c ≡ false
                        out c l u =
                            ne_eqb (kind_of ns (parent_of ns j)) c (λ (y : kind_of ns (parent_of ns j) ≡ c).
                            never (sym (in_range_lem (kind_of ns (parent_of ns j)) 1 3 (omega arith) (omega arith)) ∙ or_first (within (kind_of ns (parent_of ns j)) 1 3) _ x))

                        field : (b : Bool) → within (kind_of ns (parent_of ns j)) 29 30 ≡ b → b ≡ false
                        field true y = never (sym there ∙ element_scope (parent_of ns j) (parent_in ns t j h) y)
                        field false y = refl

        -- so it has [Await], whatever the functions are, and nothing async gives it
        block_kind : (n : ℕ) → n < count ns → block_scope ns ss n ≡ true → kind_of ns (scope_node_of ss (scope_of ns n)) ≡ 3
        block_kind n h e = eqb-true (kind_of ns (scope_node_of ss (scope_of ns n))) 3 (sym (block_flag ns ss t w n h) ∙ e)

        pub block_await : (n : ℕ) → n < count ns → block_scope ns ss n ≡ true → await_parameter told s ns n ≡ true
        block_await n h e = await_from n h ∙ ap (any await_by) (block_givers n h e) ∙ rw (block_kind n h e)

        block_ordinary : (n : ℕ) → n < count ns → block_scope ns ss n ≡ true → in_async told ns n ≡ false
        block_ordinary n h e = ap (any async_by) (block_givers n h e) ∙ rw (block_kind n h e)

        -- THE CONDITION is the weakest one
        pub await_only : (n : ℕ) → n < count ns → await_parameter told s ns n ≡ block_scope ns ss n → AwaitTold told ns ss n
        await_only n h e = record { follow = w; ordinary = go (block_scope ns ss n) refl; block = λ b. sym e ∙ await_from n h ∙ some (givers ns n) b }
          where
            none : (l : List ℕ) → any await_by l ≡ false → any async_by l ≡ false
            none [] q = refl
            none (u ∷ l) q = rw (or_first (async_by u) _ (or_first (await_by u) (any await_by l) q)) (none l (or_second (await_by u) (any await_by l) q))

            some : (l : List ℕ) → any (λ u. eqb (kind_of ns u) k.StaticBlock) l ≡ true → any await_by l ≡ true
            some [] q = q
            some (u ∷ l) q = here (eqb (kind_of ns u) 3) refl (λ x. some l x)
              where
                here : (b : Bool) → eqb (kind_of ns u) 3 ≡ b → (any (λ u. eqb (kind_of ns u) k.StaticBlock) l ≡ true → any await_by l ≡ true) → any await_by (u ∷ l) ≡ true
                here true b f = rw (eqb-true (kind_of ns u) 3 b)
                here false b f = ap (λ (x : Bool). await_by u || x) (f (rw b at q)) ∙ late (await_by u)
                  where
                    late : (x : Bool) → (x || true) ≡ true
                    late true = refl
                    late false = refl

            go : (b : Bool) → block_scope ns ss n ≡ b → in_async told ns n ≡ false
            go true x = block_ordinary n h x
            go false x = none (givers ns n) (sym (await_from n h) ∙ e ∙ x)

      -- `await` in a script: [Await] is there just where its own scope is a static block's
      pub await_told : goal_module s ≡ false → (n : ℕ) → n < count ns → AwaitTold told ns ss n → await_parameter told s ns n ≡ block_scope ns ss n
      await_told g n h c = go (block_scope ns ss n) refl (in_block ns n) refl
        where
          none : (l : List ℕ) → any async_by l ≡ false → any (λ u. eqb (kind_of ns u) k.StaticBlock) l ≡ false → any await_by l ≡ false
          none [] a b = refl
          none (u ∷ l) a b =
              ap (λ (x : Bool). x || any await_by l) (off (or_first (async_by u) (any async_by l) a) (or_first (eqb (kind_of ns u) 3) (any (λ u. eqb (kind_of ns u) 3) l) b))
              ∙ none l (or_second (async_by u) (any async_by l) a) (or_second (eqb (kind_of ns u) 3) (any (λ u. eqb (kind_of ns u) 3) l) b)
            where
              last : (x : Bool) → (x && false) ≡ false
              last true = refl
              last false = refl

              off : async_by u ≡ false → eqb (kind_of ns u) 3 ≡ false → await_by u ≡ false
              off a b = rw (a, b, g) (last (eqb (kind_of ns u) 0))

          go : (b : Bool) → block_scope ns ss n ≡ b → (i : Bool) → in_block ns n ≡ i → await_parameter told s ns n ≡ block_scope ns ss n
          go true b i x = block_await c.follow n h b ∙ sym b
          go false b true x = never (sym (c.block x) ∙ b)
          go false b false x = await_from n h ∙ none (givers ns n) c.ordinary x ∙ sym b
