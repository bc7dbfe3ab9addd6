-- What the widths and offsets say of a node's parts: whether it has any, which is the last, where each begins.
use Rattle.std.specs.Prelude.{ℕ, zero, suc, ◌+◌, ◌-◌, ◌≤◌, ◌<◌, ◌≡◌, ◌⊎◌, Bool, true, false, not, eqb, Option, Some, None}
use Rattle.std.proofs.Math.Path.{refl, ap, sym}
use Rattle.std.proofs.Common.{◌∙◌, subst, inl, inr, arith, eq-eqb, ne_eqb, eqb-true}
use mathlib.Core.List.{List, [], ◌∷◌}
use Rattle.std.proofs.Math.Bool.{cond}
use Rattle.std.proofs.Math.ListN.{get_or}
use Rattle.base_common.proofs.Bools.{never}
use Rattle.table_records.specs.Table.{role_of, count}
use Rattle.table_records.specs.Roles as role
use Rattle.table_children.specs.Children.{first_child}
use Rattle.code_tree.specs.Parts.{up_of, shape_at, parts, order}
use Rattle.code_tree.proofs.PartsLaws.{All, order_all_lem}
use Rattle.code_tree.specs.Parts.{Part}
use Rattle.code_tree.specs.Statements.{default_at}
use Rattle.code_tree.specs.declared.Shape.{Shape}
use Rattle.code_tree.specs.declared.Shape.TheVariants.{Leaf, Class, If, With, Block, Label, Loop, Switch, Case, Try, Catch}
use Rattle.code_layout.specs.Widths.{sum, has_role, is_try, number_by, in_unit, own_width, own_width_by, width_at}
use Rattle.code_layout.specs.Context.{ifz, head0, behind, offset_at}
use Rattle.code_layout.specs.Words.{last_from, default_from, if_yes, if_no}
use Rattle.code_layout.specs.Shaped.{is_case, is_switch, One, Two, Three}
use Rattle.code_layout.proofs.Sums.{In, Row, in_order}
use Rattle.code_layout.proofs.LayoutLaws.{width_is_lem, own_width_on, in_down}
use Rattle.code_layout.proofs.Stands.{placed}
use Rattle.code_targets.specs.Targets.{some}
use Rattle.code_targets.proofs.PositiveLaws.{part_some}
use Rattle.code_widths.specs.Widths.{counted}
use Rattle.code_widths.proofs.WidthsLaws.{width_turn}
use Rattle.code_contexts.proofs.EndLaws.{order_plain, end_part, behind_some, parts_some, parts_none, child_part, has_found, try_own}
use Rattle.code_contexts.proofs.PlacesLaws.{part, above_in_lem, above_low, above_lt}
use Rattle.code_shapes.proofs.SearchLaws.{number_of, Next, next_is}
use Rattle.code_branch.specs.Branch.{Arrays}
use Rattle.code_tree.specs.First.{first_of}
use Rattle.std.specs.Option.{is_some}
use Rattle.table_records.specs.declared.NodeId.{NodeId}
use Rattle.code_branch.proofs.JumpLaws as array

pub ifz_none : {A : Type 0} (m : ℕ) (x y : A) → m ≡ 0 → x ≡ ifz m x y
ifz_none m x y e = sym (ap (λ k. ifz k x y) e)

pub ifz_some : {A : Type 0} (m : ℕ) (x y : A) → some m ≡ true → y ≡ ifz m x y
ifz_some zero x y e = never (sym e)
ifz_some (suc m) x y e = refl

some_not : (m : ℕ) → some m ≡ false → m ≡ 0
some_not zero e = refl
some_not (suc m) e = never e

pub first_head : (l : List ℕ) (c : ℕ) → Some (record { 0 = c }) ≡ first_of l → c ≡ head0 l
first_head [] c q = never (ap is_some q)
first_head (x ∷ xs) c q = ap (number_of c) q

-- What a search goes on with.
module _ (ns : List ℕ) (p : ℕ) where
  -- What a search has before it: the part that it found, and those behind.
  abbrev pub rest_of : Option NodeId → List ℕ
  rest_of None = []
  rest_of (Some c) = c.0 ∷ parts ns p (c.0 + 1)

  abbrev pub IsFound : Option NodeId → Type 0
  IsFound None = Unit {0}
  IsFound (Some c) = Part ns p c.0

  abbrev pub left_of : Option NodeId → ℕ
  left_of None = 0
  left_of (Some c) = count ns - c.0

  pub rest_is : (i : ℕ) (m : Option NodeId) → p < i → m ≡ first_of (parts ns p i) → rest_of m ≡ parts ns p i
  rest_is i None h q = go (parts ns p i) q
    where
      go : (l : List ℕ) → None ≡ first_of l → [] ≡ l
      go [] z = refl
      go (c ∷ cs) z = never (sym (ap is_some z))
  rest_is i (Some c) h q = sym (next_is ns p i c.0 h q).is

  pub found_is : (i : ℕ) (m : Option NodeId) → p < i → m ≡ first_of (parts ns p i) → IsFound m
  found_is i None h q = tt
  found_is i (Some c) h q = (next_is ns p i c.0 h q).part

  pub left_less : (c : ℕ) → Part ns p c → (m : Option NodeId) → m ≡ first_of (parts ns p (c + 1)) → left_of m < count ns - c
  left_less c w None q = let l = w.inside in omega arith
  left_less c w (Some d) q =
      let b = w.behind in
      let x = next_is ns p (c + 1) d.0 (omega arith) q in
      omega (arith, w.inside, x.from, x.part.inside)

module _ {ns names : List ℕ} {b : ℕ} {widths levels offsets follows : List ℕ} (A : Arrays ns names b widths levels offsets follows) (n : ℕ) (h : b < n) (l : n < count ns) (e : in_unit ns b n ≡ true) where
  wide_is : get_or widths n 0 ≡ number_by (shape_at ns n) + sum (counted ns b) (parts ns n (n + 1))
  wide_is = array.width_is_lem A n l e ∙ width_turn ns names b A.ready.held n h l

  pub number_fits : number_by (shape_at ns n) ≤ get_or widths n 0
  number_fits = let w = wide_is in omega arith

  -- A case stands in a Switch.
  pub case_holder : shape_at ns n ≡ Case → is_try (shape_at ns (up_of ns n)) ≡ false
  case_holder q = go (shape_at ns (up_of ns n)) (sym (A.ready.held.good.shaped.cases n (omega arith) l (part ns names b A.ready n h l e).part) ∙ ap is_case q)
    where
      go : (s : Shape) → is_switch s ≡ true → is_try s ≡ false
      go Leaf x = refl
      go Class x = refl
      go If x = refl
      go With x = refl
      go Block x = refl
      go Label x = refl
      go Loop x = refl
      go Switch x = refl
      go Case x = refl
      go Try x = never (sym x)
      go Catch x = refl

  -- Of a node that is no Try: it has no parts, or some.
  module _ (p : is_try (shape_at ns n) ≡ false) where
    head_some : some (head0 (order ns n)) ≡ not (eqb (sum (counted ns b) (parts ns n (n + 1))) 0)
    head_some = ap (λ ps. some (head0 ps)) (order_plain ns names b A.ready.held.good n (omega arith) l p) ∙ parts_some ns names b A.ready.held.good n (omega arith) l p (n + 1) (omega arith)

    pub head_none : get_or widths n 0 ≡ number_by (shape_at ns n) → head0 (order ns n) ≡ 0
    head_none q =
        let w = wide_is in
        let z : sum (counted ns b) (parts ns n (n + 1)) ≡ 0 = omega arith in
        some_not (head0 (order ns n)) (head_some ∙ ap (λ k. not (eqb k 0)) z)

    pub head_has : (get_or widths n 0 ≡ number_by (shape_at ns n) → ⊥) → some (head0 (order ns n)) ≡ true
    head_has q =
        let w = wide_is in
        head_some
        ∙ ap not (ne_eqb (sum (counted ns b) (parts ns n (n + 1))) 0 (λ z. q (let y : get_or widths n 0 ≡ number_by (shape_at ns n) = omega arith in y)))

  -- The words of the parts behind n, from where its words and its holder's end.
  module _ (p : ℕ) (ep : p ≡ up_of ns n) (pl : is_try (shape_at ns p) ≡ false) where
    holder_in : in_unit ns b p ≡ true
    holder_in = ap (in_unit ns b) ep ∙ above_in_lem ns names b A.ready n h l e

    pub holder_lt : p < n
    holder_lt = let u = above_lt ns names b A.ready n h l e in omega arith

    part_of : Part ns p n
    part_of = subst (λ k. Part ns k n) (sym ep) (part ns names b A.ready n h l e)

    pub holder_small : get_or offsets p 0 + get_or widths p 0 ≤ 786420
    holder_small = let u = holder_lt in array.end_small A p (omega arith) holder_in

    end_is : get_or offsets n 0 + get_or widths n 0 + sum (counted ns b) (parts ns p (n + 1)) ≡ get_or offsets p 0 + get_or widths p 0
    end_is =
        let u = holder_lt in
        let lo = above_low ns names b A.ready n h l e in
        let q = end_part ns names b A.ready.held.good p (omega arith) (omega arith) pl n part_of in
        let a = array.offset_is A n l e in
        let c = array.width_is_lem A n l e in
        let d = array.offset_is A p (omega arith) holder_in in
        let f = array.width_is_lem A p (omega arith) holder_in in
        omega arith

    pub last_yes : get_or offsets n 0 + get_or widths n 0 ≡ get_or offsets p 0 + get_or widths p 0 → true ≡ eqb (sum (counted ns b) (parts ns p (n + 1))) 0
    last_yes q = let a = end_is in sym (eq-eqb (sum (counted ns b) (parts ns p (n + 1))) 0 (omega arith))

    pub last_is_lem : eqb (get_or offsets n 0 + get_or widths n 0) (get_or offsets p 0 + get_or widths p 0) ≡ eqb (sum (counted ns b) (parts ns p (n + 1))) 0
    last_is_lem = go (eqb (get_or offsets n 0 + get_or widths n 0) (get_or offsets p 0 + get_or widths p 0)) refl
      where
        go : (x : Bool) → eqb (get_or offsets n 0 + get_or widths n 0) (get_or offsets p 0 + get_or widths p 0) ≡ x → x ≡ eqb (sum (counted ns b) (parts ns p (n + 1))) 0
        go true q = last_yes (eqb-true (get_or offsets n 0 + get_or widths n 0) (get_or offsets p 0 + get_or widths p 0) q)
        go false q =
            sym (ne_eqb (sum (counted ns b) (parts ns p (n + 1))) 0
            (λ z. let a = end_is in never (sym (eq-eqb (get_or offsets n 0 + get_or widths n 0) (get_or offsets p 0 + get_or widths p 0) (omega arith)) ∙ q)))

    pub behind_none : eqb (sum (counted ns b) (parts ns p (n + 1))) 0 ≡ true → behind (order ns p) n ≡ 0
    behind_none q =
        let u = holder_lt in
        let lo = above_low ns names b A.ready n h l e in
        some_not (behind (order ns p) n) (behind_some ns names b A.ready.held.good p (omega arith) (omega arith) pl n part_of ∙ ap not q)

    pub behind_has : eqb (sum (counted ns b) (parts ns p (n + 1))) 0 ≡ false → some (behind (order ns p) n) ≡ true
    behind_has q =
        let u = holder_lt in
        let lo = above_low ns names b A.ready n h l e in
        behind_some ns names b A.ready.held.good p (omega arith) (omega arith) pl n part_of ∙ ap not q

    pub parts_over : eqb (sum (counted ns b) (parts ns p (n + 1))) 0 ≡ true → parts ns p (n + 1) ≡ []
    parts_over q =
        let u = holder_lt in
        let lo = above_low ns names b A.ready n h l e in
        parts_none ns names b A.ready.held.good p (omega arith) (omega arith) pl (n + 1) (omega arith) (eqb-true (sum (counted ns b) (parts ns p (n + 1))) 0 q)

  -- An If has a part.
  pub if_some : shape_at ns n ≡ If → None ≡ first_of (parts ns n (n + 1)) → ⊥
  if_some q z = go (A.ready.held.good.shaped.ifs n l q)
    where
      is_none : (d : ℕ) (ds : List ℕ) → order ns n ≡ d ∷ ds → ⊥
      is_none d ds x = never (sym (ap is_some (z ∙ ap first_of (sym (order_plain ns names b A.ready.held.good n (omega arith) l (ap is_try q)) ∙ x))))

      go : (u : One ns n ⊎ (Two ns n 3 4 ⊎ Two ns n 4 3)) → ⊥
      go (inl v) = let (d, z) = v in is_none d [] z
      go (inr (inl v)) = let (d, f, z, x, y) = v in is_none d (f ∷ []) z
      go (inr (inr v)) = let (d, f, z, x, y) = v in is_none d (f ∷ []) z

  -- An If: its first part c, alone or not.
  module _ (q : shape_at ns n ≡ If) (c : ℕ) (ec : c ≡ head0 (parts ns n (n + 1))) where
    if_order : order ns n ≡ parts ns n (n + 1)
    if_order = order_plain ns names b A.ready.held.good n (omega arith) l (ap is_try q)

    first_is : (d : ℕ) (ds : List ℕ) → order ns n ≡ d ∷ ds → d ≡ c
    first_is d ds z = sym (ec ∙ ap head0 (sym if_order ∙ z))

    pub if_part : Part ns n c
    if_part = go (A.ready.held.good.shaped.ifs n l q)
      where
        first : (d : ℕ) (ds : List ℕ) → order ns n ≡ d ∷ ds → Part ns n c
        first d ds z = subst (Part ns n) (first_is d ds z) (subst (All (Part ns n)) z (order_all_lem ns n)).0

        go : (u : One ns n ⊎ (Two ns n 3 4 ⊎ Two ns n 4 3)) → Part ns n c
        go (inl v) = let (d, z) = v in first d [] z
        go (inr (inl v)) = let (d, f, z, x, y) = v in first d (f ∷ []) z
        go (inr (inr v)) = let (d, f, z, x, y) = v in first d (f ∷ []) z

    pub if_in : in_unit ns b c ≡ true
    if_in = in_down ns b A.ready.held.good.falls n c (omega arith) e if_part

    if_width : width_at ns b n ≡ 7 + sum (width_at ns b) (order ns n)
    if_width = width_is_lem ns b n l ∙ ap (λ k. k + sum (width_at ns b) (order ns n)) (own_width_on ns b n h ∙ ap (λ s. own_width_by ns s (order ns n)) q)

    -- Both branches, by whether the first part is all that it holds.
    abbrev Branches : ℕ → ℕ → Type 0
    Branches x y = (x ≡ if_yes ns b (order ns n) (offset_at ns names b n)) × (y ≡ if_no ns b (order ns n) (offset_at ns names b n))

    pub if_alone : get_or widths c 0 + 7 ≡ get_or widths n 0 → (o : ℕ) → o ≡ offset_at ns names b n → (o + 7 ≡ if_yes ns b (order ns n) (offset_at ns names b n)) × (o + 4 ≡ if_no ns b (order ns n) (offset_at ns names b n))
    unfolding sum
    if_alone w o eo = go (A.ready.held.good.shaped.ifs n l q)
      where
        one : (d : ℕ) → order ns n ≡ d ∷ [] → Branches (o + 7) (o + 4)
        one d z = (ap (λ k. k + 7) eo ∙ sym (ap (λ ps. if_yes ns b ps (offset_at ns names b n)) z), ap (λ k. k + 4) eo ∙ sym (ap (λ ps. if_no ns b ps (offset_at ns names b n)) z))

        two : (d f : ℕ) → order ns n ≡ d ∷ f ∷ [] → ⊥
        two d f z =
            let a = (subst (All (Part ns n)) z (order_all_lem ns n)).1.0 in
            let s = part_some ns b A.ready.held.good f a.inside (omega (arith, a.behind)) in
            let y = if_width ∙ ap (λ ps. 7 + sum (width_at ns b) ps) z in
            let u = array.width_is_lem A n l e in
            let v = array.width_is_lem A c if_part.inside if_in in
            let x : width_at ns b d ≡ width_at ns b c = ap (width_at ns b) (first_is d (f ∷ []) z) in
            omega arith

        go : One ns n ⊎ (Two ns n 3 4 ⊎ Two ns n 4 3) → Branches (o + 7) (o + 4)
        go (inl v) = let (d, z) = v in one d z
        go (inr (inl v)) = let (d, f, z, x, y) = v in absurd (two d f z)
        go (inr (inr v)) = let (d, f, z, x, y) = v in absurd (two d f z)

    pub if_both : (get_or widths c 0 + 7 ≡ get_or widths n 0 → ⊥) → (o : ℕ) → o ≡ offset_at ns names b n
        → (cond (eqb (role_of ns c) role.Alternate) (o + 7 + get_or widths c 0) (o + 7) ≡ if_yes ns b (order ns n) (offset_at ns names b n))
        × (cond (eqb (role_of ns c) role.Alternate) (o + 7) (o + 7 + get_or widths c 0) ≡ if_no ns b (order ns n) (offset_at ns names b n))
    unfolding sum
    if_both w o eo = go (A.ready.held.good.shaped.ifs n l q)
      where
        wc : get_or widths c 0 ≡ width_at ns b c
        wc = array.width_is_lem A c if_part.inside if_in

        one : (d : ℕ) → order ns n ≡ d ∷ [] → ⊥
        one d z =
            let y = if_width ∙ ap (λ ps. 7 + sum (width_at ns b) ps) z in
            let u = array.width_is_lem A n l e in
            let v = wc in
            let x : width_at ns b d ≡ width_at ns b c = ap (width_at ns b) (first_is d [] z) in
            w (omega arith)

        two : (d f : ℕ) → order ns n ≡ d ∷ f ∷ []
            → Branches (cond (eqb (role_of ns c) role.Alternate) (o + 7 + get_or widths c 0) (o + 7)) (cond (eqb (role_of ns c) role.Alternate) (o + 7) (o + 7 + get_or widths c 0))
        two d f z =
            let x = first_is d (f ∷ []) z in (
              (λ t. cond (eqb (role_of ns (sym x t)) role.Alternate) (eo t + 7 + (wc ∙ ap (width_at ns b) (sym x)) t) (eo t + 7)) ∙ sym (ap (λ ps. if_yes ns b ps (offset_at ns names b n)) z),
              (λ t. cond (eqb (role_of ns (sym x t)) role.Alternate) (eo t + 7) (eo t + 7 + (wc ∙ ap (width_at ns b) (sym x)) t)) ∙ sym (ap (λ ps. if_no ns b ps (offset_at ns names b n)) z),
            )

        go : One ns n ⊎ (Two ns n 3 4 ⊎ Two ns n 4 3)
            → Branches (cond (eqb (role_of ns c) role.Alternate) (o + 7 + get_or widths c 0) (o + 7)) (cond (eqb (role_of ns c) role.Alternate) (o + 7) (o + 7 + get_or widths c 0))
        go (inl v) = let (d, z) = v in absurd (one d z)
        go (inr (inl v)) = let (d, f, z, x, y) = v in two d f z
        go (inr (inr v)) = let (d, f, z, x, y) = v in two d f z

  -- A Try: where its finally begins.
  module _ (q : shape_at ns n ≡ Try) (f : ℕ) (ef : first_child ns n 5 5 5 5 ≡ Some (record { 0 = f })) where
    pub finally_part : Part ns n f
    finally_part = (child_part ns names b A.ready n l q 5 f (inr (inr refl)) ef).0

    finally_role : role_of ns f ≡ 5
    finally_role = (child_part ns names b A.ready n l q 5 f (inr (inr refl)) ef).1

    pub finally_in_lem : in_unit ns b f ≡ true
    finally_in_lem = in_down ns b A.ready.held.good.falls n f (omega arith) e finally_part

    pub finally_has : has_role ns role.Finally (order ns n) ≡ true
    finally_has = has_found ns names b A.ready n l q 5 (inr (inr refl)) (Some (record { 0 = f })) ef

    pub finally_at : offset_at ns names b f ≡ last_from ns b (order ns n) (offset_at ns names b n + 2)
    finally_at = go (A.ready.held.good.shaped.tries n l q)
      where
        own : own_width ns b n ≡ 2
        own = try_own ns names b A.ready n l q h ∙ ap (λ x. cond x 2 0) finally_has

        row : Row (width_at ns b) (λ c k m. offset_at ns names b c ≡ k) (offset_at ns names b n + 2) (order ns n)
        row = subst (λ k. Row (width_at ns b) (λ c k m. offset_at ns names b c ≡ k) (offset_at ns names b n + k) (order ns n)) own (placed ns names b A.ready.held.good n (omega arith) l)

        is : (c x : ℕ) → role_of ns c ≡ x → (x ≡ 5 → ⊥) → c ≡ f → ⊥
        is c x a z y = z (sym a ∙ ap (role_of ns) y ∙ finally_role)

        two : (c d x : ℕ) → role_of ns c ≡ 3 → Row (width_at ns b) (λ c k m. offset_at ns names b c ≡ k) (offset_at ns names b n + 2) (c ∷ d ∷ []) → In f (c ∷ d ∷ []) → offset_at ns names b f ≡ last_from ns b (c ∷ d ∷ []) (offset_at ns names b n + 2)
        two c d x a r (inl y) = absurd (is c 3 a (λ k. omega arith) y)
        two c d x a r (inr (inl y)) = subst (λ k. offset_at ns names b k ≡ offset_at ns names b n + 2 + width_at ns b c) y r.1.0
        two c d x a r (inr (inr y)) = absurd y

        three : (c d g : ℕ) → role_of ns c ≡ 3 → role_of ns d ≡ 4 → Row (width_at ns b) (λ c k m. offset_at ns names b c ≡ k) (offset_at ns names b n + 2) (c ∷ d ∷ g ∷ []) → In f (c ∷ d ∷ g ∷ []) → offset_at ns names b f ≡ last_from ns b (c ∷ d ∷ g ∷ []) (offset_at ns names b n + 2)
        three c d g a z r (inl y) = absurd (is c 3 a (λ k. omega arith) y)
        three c d g a z r (inr (inl y)) = absurd (is d 4 z (λ k. omega arith) y)
        three c d g a z r (inr (inr (inl y))) = subst (λ k. offset_at ns names b k ≡ offset_at ns names b n + 2 + width_at ns b c + width_at ns b d) y r.1.1.0
        three c d g a z r (inr (inr (inr y))) = absurd y

        go : Two ns n 3 4 ⊎ (Two ns n 3 5 ⊎ Three ns n) → offset_at ns names b f ≡ last_from ns b (order ns n) (offset_at ns names b n + 2)
        go (inl v) = let (c, d, z, x, y) = v in subst (λ ps. offset_at ns names b f ≡ last_from ns b ps (offset_at ns names b n + 2)) (sym z) (two c d 4 x (subst (Row (width_at ns b) (λ c k m. offset_at ns names b c ≡ k) (offset_at ns names b n + 2)) z row) (subst (In f) z (in_order ns n f finally_part)))
        go (inr (inl v)) = let (c, d, z, x, y) = v in subst (λ ps. offset_at ns names b f ≡ last_from ns b ps (offset_at ns names b n + 2)) (sym z) (two c d 5 x (subst (Row (width_at ns b) (λ c k m. offset_at ns names b c ≡ k) (offset_at ns names b n + 2)) z row) (subst (In f) z (in_order ns n f finally_part)))
        go (inr (inr v)) = let (c, d, g, z, x, y, w) = v in subst (λ ps. offset_at ns names b f ≡ last_from ns b ps (offset_at ns names b n + 2)) (sym z) (three c d g x y (subst (Row (width_at ns b) (λ c k m. offset_at ns names b c ≡ k) (offset_at ns names b n + 2)) z row) (subst (In f) z (in_order ns n f finally_part)))

  pub finally_none : shape_at ns n ≡ Try → first_child ns n 5 5 5 5 ≡ None → has_role ns role.Finally (order ns n) ≡ false
  finally_none q ef = has_found ns names b A.ready n l q 5 (inr (inr refl)) None ef

-- The first `default` of some cases, by its offset.
module _ (ns names : List ℕ) (b : ℕ) where
  unfoldable pub default_of : List ℕ → ℕ → ℕ
  default_of [] z = z
  default_of (c ∷ cs) z = cond (default_at ns c) (offset_at ns names b c) (default_of cs z)

  pub default_yes : (c : ℕ) (cs : List ℕ) (z : ℕ) → default_at ns c ≡ true → default_of (c ∷ cs) z ≡ offset_at ns names b c
  unfolding default_of
  default_yes c cs z q = ap (λ x. cond x (offset_at ns names b c) (default_of cs z)) q

  pub default_no : (c : ℕ) (cs : List ℕ) (z : ℕ) → default_at ns c ≡ false → default_of (c ∷ cs) z ≡ default_of cs z
  unfolding default_of
  default_no c cs z q = ap (λ x. cond x (offset_at ns names b c) (default_of cs z)) q

  pub default_end : (z : ℕ) → default_of [] z ≡ z
  unfolding default_of
  default_end z = refl

  default_row : (cs : List ℕ) (o z : ℕ) → Row (width_at ns b) (λ c k m. offset_at ns names b c ≡ k) o cs → default_from ns b cs o z ≡ default_of cs z
  unfolding default_of default_from
  default_row [] o z r = refl
  default_row (c ∷ cs) o z r = λ i. cond (default_at ns c) (sym r.0 i) (default_row cs (o + width_at ns b c) z r.1 i)

module _ {ns names : List ℕ} {b : ℕ} {widths levels offsets follows : List ℕ} (A : Arrays ns names b widths levels offsets follows) (n : ℕ) (h : b < n) (l : n < count ns) (e : in_unit ns b n ≡ true) (q : shape_at ns n ≡ Switch) where
  switch_order : order ns n ≡ parts ns n (n + 1)
  switch_order = order_plain ns names b A.ready.held.good n (omega arith) l (ap is_try q)

  pub default_is_lem : (z : ℕ) → default_from ns b (order ns n) (offset_at ns names b n + 7) z ≡ default_of ns names b (parts ns n (n + 1)) z
  default_is_lem z =
      default_row ns names b (order ns n) (offset_at ns names b n + 7) z
      (subst (λ k. Row (width_at ns b) (λ c k m. offset_at ns names b c ≡ k) (offset_at ns names b n + k) (order ns n)) (own_width_on ns b n h ∙ ap (λ s. own_width_by ns s (order ns n)) q) (placed ns names b A.ready.held.good n (omega arith) l))
      ∙ ap (λ ps. default_of ns names b ps z) switch_order

  pub default_none : head0 (order ns n) ≡ 0 → (z : ℕ) → z ≡ default_from ns b (order ns n) (offset_at ns names b n + 7) z
  unfolding default_from
  default_none m z = go (order ns n) refl m
    where
      go : (ps : List ℕ) → order ns n ≡ ps → head0 ps ≡ 0 → z ≡ default_from ns b ps (offset_at ns names b n + 7) z
      go [] u v = refl
      go (c ∷ cs) u v = let a = (subst (All (Part ns n)) u (order_all_lem ns n)).0 in absurd (omega (arith, a.behind, v))

  -- The turns of the search: c is a case.
  pub case_in : (c : ℕ) → Part ns n c → in_unit ns b c ≡ true
  case_in c w = in_down ns b A.ready.held.good.falls n c (omega arith) e w

  pub case_last : (c : ℕ) → Part ns n c → eqb (sum (counted ns b) (parts ns n (c + 1))) 0 ≡ true → parts ns n (c + 1) ≡ []
  case_last c w s =
      let u = w.behind in
      parts_none ns names b A.ready.held.good n (omega arith) l (ap is_try q) (c + 1) (omega arith) (eqb-true (sum (counted ns b) (parts ns n (c + 1))) 0 s)

pub some_zero : (m : ℕ) → some m ≡ true → m ≡ 0 → ⊥
some_zero m e z = never (sym e ∙ ap some z)

-- a first part that is no 0 is there
first_is_head : (l : List ℕ) (c : ℕ) → c ≡ head0 l → (c ≡ 0 → ⊥) → ◌≡◌ {A = Option NodeId} (Some (record { 0 = c })) (first_of l)
first_is_head [] c e n = absurd (n e)
first_is_head (x ∷ l) c e n = rw e

module _ {ns names : List ℕ} {b : ℕ} {widths levels offsets follows : List ℕ} (A : Arrays ns names b widths levels offsets follows) (n : ℕ) (h : b < n) (l : n < count ns) (e : in_unit ns b n ≡ true) (q : shape_at ns n ≡ Switch) where
  -- The turns of the search: c is a case.
  pub case_first : (head0 (order ns n) ≡ 0 → ⊥) → (c : ℕ) → c ≡ head0 (parts ns n (n + 1)) → Next ns n (n + 1) c
  case_first m c z = next_is ns n (n + 1) c (omega arith) (first_is_head (parts ns n (n + 1)) c z (λ y. m (ap head0 (switch_order A n h l e q) ∙ sym z ∙ y)))

  pub case_next : (c : ℕ) → Part ns n c → eqb (sum (counted ns b) (parts ns n (c + 1))) 0 ≡ false → (d : ℕ) → d ≡ head0 (parts ns n (c + 1)) → Next ns n (c + 1) d
  case_next c w s d z =
      let u = w.behind in
      next_is ns n (c + 1) d (omega arith) (first_is_head (parts ns n (c + 1)) d z
      (λ y. some_zero (head0 (parts ns n (c + 1))) (parts_some ns names b A.ready.held.good n (omega arith) l (ap is_try q) (c + 1) (omega arith) ∙ ap not s) (sym z ∙ y)))
