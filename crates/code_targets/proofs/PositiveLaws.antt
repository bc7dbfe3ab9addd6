-- Every statement has words, so that no jump goes to the first word of the code: a target at place 0 is always what is pending.
use Rattle.std.specs.Prelude.{ℕ, zero, suc, ◌+◌, ◌≤◌, ◌<◌, ◌≡◌, refl, ◌⊎◌, List, [], ◌∷◌, Bool, true, false, cond, ◌&&◌, ◌||◌, eqb}
use Rattle.std.proofs.Math.Path.{ap}
use Rattle.std.proofs.Common.{sym, ◌∙◌, subst, inl, inr, eq-or-lt_of_le}
use native.Mathlib.Omega.{arith}
use Rattle.base_common.proofs.Bools.{never}
use Rattle.table_records.specs.Table.{count, role_of}
use Rattle.table_records.specs.Roles as role
use Rattle.route_completion.specs.Tree.{near, named}
use Rattle.route_completion.specs.Sem.{Comp, normal, breaks, continues, returns, throws, spent, pick, is_spent, no_break, no_label, loop_continues}
use Rattle.code_flat.specs.Code.{Stat, at, place_of, depth_of, next, in_try, in_loop, top}
use Rattle.code_tree.specs.Labels.{id_at}
use Rattle.code_tree.specs.Parts.{up_of, shape_at, order}
use Rattle.code_tree.proofs.PartsLaws.{All, order_all_lem}
use Rattle.code_tree.specs.Parts.{Part}
use Rattle.code_tree.specs.declared.Shape.{Shape}
use Rattle.code_tree.specs.declared.Shape.TheVariants.{Leaf, Class, If, With, Block, Label, Loop, Switch, Case, Try, Catch}
use Rattle.code_layout.specs.Widths.{has_role, is_try, sum, in_unit, own_width, own_width_by, width_at, number_by}
use Rattle.code_layout.specs.Context.{ifz, behind, before, Context, part_context, context_at}
use Rattle.code_layout.specs.Shaped.{is_one, Good, Held, Two, Three}
use Rattle.code_layout.proofs.Sums.{In, in_order}
use Rattle.code_layout.proofs.LayoutLaws.{width_is_lem, own_width_on, context_root, context_up, in_part, in_above}
use Rattle.code_layout.proofs.Stands.{in_from}
use Rattle.code_targets.specs.Targets.{target}

module _ (ns : List ℕ) (b : ℕ) (g : Good ns) where
  abbrev Z : ℕ → ℕ
  Z j = width_at ns b j

  -- What has a part that has words has words.
  first_has : (j : ℕ) → j < count ns → (c : ℕ) (cs : List ℕ) → order ns j ≡ c ∷ cs → 0 < Z c → 0 < Z j
  unfolding sum
  first_has j l c cs q h = let w = width_is_lem ns b j l in let e : sum Z (order ns j) ≡ Z c + sum Z cs = ap (sum Z) q in omega arith

  pub width_some : (f j : ℕ) → count ns ≤ j + f → j < count ns → b < j → 0 < width_at ns b j
  width_some zero j h l hb = absurd (omega arith)
  width_some (suc f) j h l hb = go (λ c k m q. width_some f c k m q) (shape_at ns j) refl
    where
      own : (s : Shape) → shape_at ns j ≡ s → is_try s ≡ false → 0 < number_by s → 0 < width_at ns b j
      own s x t n =
          let w = width_is_lem ns b j l in
          let o : own_width ns b j ≡ number_by s = own_width_on ns b j hb ∙ ap (λ k. own_width_by ns k (order ns j)) x ∙ ap (λ y. cond (y && has_role ns role.Finally (order ns j)) 2 (number_by s)) t in
          omega arith

      below : ((c : ℕ) → count ns ≤ c + f → c < count ns → b < c → 0 < width_at ns b c) → (c : ℕ) (cs : List ℕ) → order ns j ≡ c ∷ cs → 0 < width_at ns b j
      below ih c cs q =
          let a = (subst (All (Part ns j)) q (order_all_lem ns j)).0 in
          let k = a.behind in
          first_has j l c cs q (ih c (omega arith) a.inside (omega arith))

      tries : ((c : ℕ) → count ns ≤ c + f → c < count ns → b < c → 0 < width_at ns b c) → Two ns j 3 4 ⊎ (Two ns j 3 5 ⊎ Three ns j) → 0 < width_at ns b j
      tries ih (inl w) = let (c, d, q, x, y) = w in below ih c (d ∷ []) q
      tries ih (inr (inl w)) = let (c, d, q, x, y) = w in below ih c (d ∷ []) q
      tries ih (inr (inr w)) = let (c, d, e, q, x, y, z) = w in below ih c (d ∷ e ∷ []) q

      go : ((c : ℕ) → count ns ≤ c + f → c < count ns → b < c → 0 < width_at ns b c) → (s : Shape) → shape_at ns j ≡ s → 0 < width_at ns b j
      go ih Leaf x = own Leaf x refl (omega arith)
      go ih Class x = own Class x refl (omega arith)
      go ih If x = own If x refl (omega arith)
      go ih With x = own With x refl (omega arith)
      go ih Block x = own Block x refl (omega arith)
      go ih Label x = let (c, q) = g.shaped.one j l (ap is_one x) in below ih c [] q
      go ih Loop x = own Loop x refl (omega arith)
      go ih Switch x = own Switch x refl (omega arith)
      go ih Case x = own Case x refl (omega arith)
      go ih Try x = tries ih (g.shaped.tries j l x)
      go ih Catch x = let (c, q) = g.shaped.one j l (ap is_one x) in below ih c [] q

  -- A node of the unit has words.
  pub part_some : (j : ℕ) → j < count ns → b < j → 0 < width_at ns b j
  part_some j l h = width_some (count ns) j (omega arith) l h

-- Not the first word of the code.
abbrev pub Lands : Stat → Type 0
Lands s = (0 < place_of s) ⊎ (0 < depth_of s)

abbrev AllLand : (Comp → Stat) → Type 0
AllLand ρ = (c : Comp) → is_spent c ≡ false → Lands (ρ c)

module _ (ns names : List ℕ) (b : ℕ) where
  -- One step down: o is the part's offset, its words are some.
  module _ (p j : ℕ) (a : Context) (o m : ℕ) (h : AllLand a.env) (w : 0 < width_at ns b j) (fin : eqb (role_of ns j) role.Finally ≡ true → has_role ns role.Finally (order ns p) ≡ true) where
    behind_lands : (m : ℕ) → Lands (ifz m (a.env normal) (at (o + width_at ns b j) a.depth))
    behind_lands zero = h normal refl
    behind_lands (suc m) = inl (omega arith)

    next_lands : (ρ : Comp → Stat) (s : Stat) → AllLand ρ → Lands s → AllLand (next ρ s)
    next_lands ρ s r x normal e = x
    next_lands ρ s r x (breaks l) e = r (breaks l) e
    next_lands ρ s r x (continues l) e = r (continues l) e
    next_lands ρ s r x returns e = r returns e
    next_lands ρ s r x throws e = r throws e
    next_lands ρ s r x spent e = r spent e

    no_break_lands : AllLand (λ c. a.env (no_break c))
    no_break_lands normal e = h normal refl
    no_break_lands (breaks near) e = h normal refl
    no_break_lands (breaks (named l)) e = h (breaks (named l)) refl
    no_break_lands (continues l) e = h (continues l) refl
    no_break_lands returns e = h returns refl
    no_break_lands throws e = h throws refl
    no_break_lands spent e = never e

    loop_lands : AllLand (in_loop a.labels (a.offset + 3) a.depth a.env)
    loop_lands c e = go (loop_continues a.labels c) (no_break_lands c e)
      where
        go : (x : Bool) → Lands (a.env (no_break c)) → Lands (pick x (at (a.offset + 3) a.depth) (a.env (no_break c)))
        go true r = inl (omega arith)
        go false r = r

    label_lands : (l : ℕ) → AllLand (λ c. a.env (no_label l c))
    label_lands l normal e = h normal refl
    label_lands l (breaks near) e = h (breaks near) refl
    label_lands l (breaks (named k)) e = go (eqb k l)
      where
        go : (x : Bool) → Lands (a.env (pick x normal (breaks (named k))))
        go true = h normal refl
        go false = h (breaks (named k)) refl
    label_lands l (continues k) e = h (continues k) refl
    label_lands l returns e = h returns refl
    label_lands l throws e = h throws refl
    label_lands l spent e = never e

    caught_lands : (d : ℕ) → AllLand (in_try a.env (o + width_at ns b j) d)
    caught_lands d normal e = h normal refl
    caught_lands d (breaks l) e = h (breaks l) refl
    caught_lands d (continues l) e = h (continues l) refl
    caught_lands d returns e = h returns refl
    caught_lands d throws e = inl (omega arith)
    caught_lands d spent e = never e

    try_lands : AllLand (part_context ns names b Try p (order ns p) a j o m).env
    try_lands c e = go (eqb (role_of ns j) role.Finally) fin (has_role ns role.Finally (order ns p)) refl (eqb (role_of ns j) role.Held && has_role ns role.Alternate (order ns p))
      where
        deep : (z : Bool) → z ≡ true → 0 < cond z (suc a.depth) a.depth
        deep true e = omega arith
        deep false e = never (sym e)

        go : (x : Bool) → (x ≡ true → has_role ns role.Finally (order ns p) ≡ true) → (z : Bool) → has_role ns role.Finally (order ns p) ≡ z → (y : Bool)
            → Lands (cond x (next a.env (at 0 (cond (has_role ns role.Finally (order ns p)) (suc a.depth) a.depth))) (cond y (in_try a.env (o + width_at ns b j) (cond (has_role ns role.Finally (order ns p)) (suc a.depth) a.depth)) a.env) c)
        go true f z q y = next_lands a.env (at 0 (cond (has_role ns role.Finally (order ns p)) (suc a.depth) a.depth)) h (inr (deep (has_role ns role.Finally (order ns p)) (f refl))) c e
        go false f z q true = caught_lands (cond (has_role ns role.Finally (order ns p)) (suc a.depth) a.depth) c e
        go false f z q false = h c e

    step_lands : (s : Shape) → AllLand (part_context ns names b s p (order ns p) a j o m).env
    step_lands Leaf = h
    step_lands Class = next_lands a.env (ifz m (a.env normal) (at (o + width_at ns b j) a.depth)) h (behind_lands m)
    step_lands If = h
    step_lands With = h
    step_lands Block = next_lands a.env (ifz m (a.env normal) (at (o + width_at ns b j) a.depth)) h (behind_lands m)
    step_lands Label = label_lands (id_at ns names p)
    step_lands Loop = loop_lands
    step_lands Switch = next_lands (λ c. a.env (no_break c)) (ifz m (a.env normal) (at (o + width_at ns b j) a.depth)) no_break_lands (behind_lands m)
    step_lands Case = next_lands a.env (ifz m (a.env normal) (at (o + width_at ns b j) a.depth)) h (behind_lands m)
    step_lands Try = try_lands
    step_lands Catch = h

  -- A part with the role 5 is one that the list has.
  has_finally : (x : ℕ) (l : List ℕ) → In x l → eqb (role_of ns x) role.Finally ≡ true → has_role ns role.Finally l ≡ true
  has_finally x [] i e = absurd i
  has_finally x (c ∷ cs) (inl q) e = ap (λ t. t || has_role ns role.Finally cs) (ap (λ k. eqb (role_of ns k) role.Finally) q ∙ e)
  has_finally x (c ∷ cs) (inr i) e = either (eqb (role_of ns c) role.Finally) (has_finally x cs i e)
    where
      either : (t : Bool) → has_role ns role.Finally cs ≡ true → (t || has_role ns role.Finally cs) ≡ true
      either true r = refl
      either false r = r

  module _ (h : Held ns names b) (some : 0 < width_at ns b b) where
    lands_by : (n j : ℕ) → j < n → j < count ns → in_unit ns b j ≡ true → AllLand (context_at ns names b j).env
    lands_by zero j f hc e = absurd (omega arith)
    lands_by (suc n) j f hc e = go (eq-or-lt_of_le (in_from ns names b h.good j e)) (λ p l q v. lands_by n p l q v)
      where
        root : AllLand (top (width_at ns b b))
        root normal e = inl (omega arith)
        root (breaks l) e = inl (omega arith)
        root (continues l) e = inl (omega arith)
        root returns e = inl (omega arith)
        root throws e = inl (omega arith)
        root spent e = never e

        go : (b ≡ j) ⊎ (b < j) → ((p : ℕ) → p < n → p < count ns → in_unit ns b p ≡ true → AllLand (context_at ns names b p).env) → AllLand (context_at ns names b j).env
        go (inl q) ih = subst (λ k. AllLand (context_at ns names b k).env) q (subst (λ a. AllLand a.env) (sym (context_root ns names b)) root)
        go (inr hb) ih =
            let w = in_part ns b h.good.falls j hb hc e in
            let u = in_above ns b h.good.falls j hb hc e in
            let l = w.behind in
            let a = context_at ns names b (up_of ns j) in
            subst (λ a. AllLand a.env) (sym (context_up ns names b h.good.falls j hb hc))
            (step_lands (up_of ns j) j a (a.offset + own_width ns b (up_of ns j) + before (width_at ns b) (order ns (up_of ns j)) j) (behind (order ns (up_of ns j)) j)
            (ih (up_of ns j) (omega arith) (omega arith) u) (part_some ns b h.good j hc hb)
            (has_finally j (order ns (up_of ns j)) (in_order ns (up_of ns j) j w)) (shape_at ns (up_of ns j)))

    -- THE LAW: no jump goes to the first word of the code; a place 0 comes with a depth of pending ends.
    pub lands : (j : ℕ) → j < count ns → in_unit ns b j ≡ true → (c : Comp) → is_spent c ≡ false → Lands (target ns names b j c)
    unfolding target
    lands j hc e = lands_by (suc j) j (omega arith) hc e
