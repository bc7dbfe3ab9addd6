-- The code of a node's statement is the words of the node and, behind them, of its parts in code order.
use Prim.Native.Nat.{ℕ, zero, suc, ◌+◌, ◌≤◌, ◌<◌}
use Rattle.std.specs.Prelude.{◌≡◌, ◌⊎◌, Bool, ◌||◌}
use Rattle.std.proofs.Math.Path.{refl, ap, sym, subst}
use Rattle.std.proofs.Common.{◌∙◌, inl, inr}
use mathlib.Core.List.{List, [], ◌∷◌, ◌++◌, append_assoc, append-nil}
use Rattle.std.proofs.Math.Bool.{true, false, cond}
use Rattle.std.proofs.Math.Dec.{eqb}
use native.Mathlib.Omega.{arith}
use Rattle.table_records.specs.Table.{kind_of, role_of, count}
use Rattle.table_records.specs.Roles as role
use Rattle.route_completion.specs.Tree.{Stmt, if2, if3, try_c, try_f, case}
use Rattle.route_completion.specs.Sem.{Comp, normal, pick, no_break, default_at as defaultIn}
use Rattle.code_flat.specs.Code.{Stat, at, goto, case_to, next, in_try, first, link, through, place, size, sizes, size_cases, code, codes, code_cases, top}
use Rattle.code_tree.specs.Parts.{up_of, shape_at, is_part, part_by, order}
use Rattle.code_tree.specs.Statements.{default_at, list_of, cases_of, try_of, build, stmt_at, body_of}
use Rattle.code_tree.proofs.PartsLaws.{All, order_all_lem}
use Rattle.code_tree.specs.Parts.{Part}
use Rattle.code_tree.proofs.BoundLaws.{all_map}
use Rattle.code_tree.proofs.ClassLaws.{class_code, class_size}
use Rattle.code_tree.specs.declared.Shape.{Shape}
use Rattle.code_tree.specs.declared.Shape.TheVariants.{Leaf as Single, Class, If, With, Block, Label, Loop, Switch, Case, Try, Catch}
use Rattle.code_layout.specs.Widths.{has_role, sum, own_width_by, own_width, width_at}
use Rattle.code_layout.specs.Context.{ifz, head0, behind, Context, context, try_env, part_context, context_at}
use Rattle.code_layout.specs.Words.{last_from, default_from, words_by, words_at, flat, code_at}
use Rattle.code_layout.specs.Shaped.{is_one, is_case, is_switch, One, Two, Three, Good}
use Rattle.code_layout.proofs.Sums.{Row, row, order_distinct}
use Rattle.code_layout.proofs.LayoutLaws.{own_width_on, own_width_root, width_is_lem, context_root, context_part, words_on, words_root, flat_same_lem, code_is}

pub ifz_pos : {A : Type 0} (n : ℕ) (x y : A) → 0 < n → ifz n x y ≡ y
ifz_pos zero x y h = absurd (omega arith)
ifz_pos (suc n) x y h = refl

-- The code of a statement that stands where a says.
abbrev pub piece : Stmt → Context → List ℕ
piece s a = code s a.labels a.offset a.depth a.env

module _ (ns names : List ℕ) (b : ℕ) where
  abbrev A : ℕ → Context
  A j = context_at ns names b j

  abbrev Z : ℕ → ℕ
  Z j = width_at ns b j

  abbrev next0 : ℕ → ℕ
  next0 c = behind (order ns (up_of ns c)) c

  -- What is known of the part c of j at the place o, with the next part m.
  pub record Down (sh : Shape) (j : ℕ) (ps : List ℕ) (c o m : ℕ) : Type 0 where
    pub pos : 0 < c
    pub nxt : next0 c ≡ m
    pub att_is : A c ≡ part_context ns names b sh j ps (A j) c o m

  pub downs : Good ns → (j : ℕ) → b ≤ j → j < count ns → Row Z (Down (shape_at ns j) j (order ns j)) ((A j).offset + own_width ns b j) (order ns j)
  downs g j h l =
      row Z (Down (shape_at ns j) j (order ns j)) ((A j).offset + own_width ns b j) (order ns j) (order_distinct ns j g l)
      (all_map (Part ns j) _
      (λ c p. record { pos = omega (arith, p.behind); nxt = ap (λ k. behind (order ns k) c) p.parent; att_is = context_part ns names b g.falls j c h p }) (order ns j) (order_all_lem ns j))

  module _ (S : ℕ → Stmt) where
    abbrev P : ℕ → List ℕ
    P c = piece (S c) (A c)

    abbrev Fit : ℕ → Type 0
    Fit c = size (S c) ≡ Z c

    abbrev fl : (ℕ → List ℕ) → List ℕ → List ℕ
    fl R l = flat ns names b R l

    -- Lists of statements.
    module _ (ρ : Comp → Stat) (δ : ℕ) where
      first_is : (js : List ℕ) (o : ℕ) → All (λ c. 0 < c) js → first (list_of S js) o δ ρ ≡ ifz (head0 js) (ρ normal) (at o δ)
      first_is [] o a = refl
      first_is (c ∷ cs) o a = sym (ifz_pos c (ρ normal) (at o δ) a.0)

      abbrev Listed : ℕ → ℕ → ℕ → Type 0
      Listed c o m = (0 < c) × (A c ≡ context o δ [] (next ρ (ifz m (ρ normal) (at (o + Z c) δ))))

      listed_pos : (js : List ℕ) (o : ℕ) → Row Z Listed o js → All (λ c. 0 < c) js
      listed_pos [] o r = tt
      listed_pos (c ∷ cs) o r = (r.0.0, listed_pos cs (o + Z c) r.1)

      list_is : (js : List ℕ) (o : ℕ) → Row Z Listed o js → All Fit js → (codes (list_of S js) o δ ρ ≡ fl P js) × (sizes (list_of S js) ≡ sum Z js)
      unfolding code size flat sum
      list_is [] o r a = (refl, refl)
      list_is (c ∷ cs) o r a =
          let ih = list_is cs (o + Z c) r.1 a.1 in
          let e = a.0 in (
            (λ i. code (S c) [] o δ (next ρ (first (list_of S cs) (o + e i) δ ρ)) ++ codes (list_of S cs) (o + e i) δ ρ)
                ∙ (λ i. code (S c) [] o δ (next ρ (first_is cs (o + Z c) (listed_pos cs (o + Z c) r.1) i)) ++ ih.0 i)
                ∙ ap (λ x. piece (S c) x ++ fl P cs) (sym r.0.1),
            (λ i. e i + ih.1 i),
          )

    list_down : (sh : Shape) (j : ℕ) (ps : List ℕ)
        → ((c o m : ℕ) → part_context ns names b sh j ps (A j) c o m ≡ context o (A j).depth [] (next (A j).env (ifz m ((A j).env normal) (at (o + Z c) (A j).depth))))
        → (js : List ℕ) (o : ℕ) → Row Z (Down sh j ps) o js → Row Z (Listed (A j).env (A j).depth) o js
    list_down sh j ps e [] o r = tt
    list_down sh j ps e (c ∷ cs) o r = ((r.0.pos, r.0.att_is ∙ e c o (head0 cs)), list_down sh j ps e cs (o + Z c) r.1)

    -- The cases of a switch: each with its words, and its statements behind them.
    abbrev Q : ℕ → List ℕ
    Q c = words_by ns names b Case c (order ns c) (A c) (next0 c) ++ fl P (order ns c)

    -- What is known of a case: its statements, in code and in size.
    pub record Cased (c : ℕ) : Type 0 where
      pub starts : first (list_of S (order ns c)) ((A c).offset + 4) (A c).depth (A c).env ≡ ifz (head0 (order ns c)) ((A c).env normal) (at ((A c).offset + 4) (A c).depth)
      pub holds : codes (list_of S (order ns c)) ((A c).offset + 4) (A c).depth (A c).env ≡ fl P (order ns c)
      pub long : 4 + sizes (list_of S (order ns c)) ≡ Z c

    cased : Good ns → (c : ℕ) → b < c → c < count ns → shape_at ns c ≡ Case → All Fit (order ns c) → Cased c
    cased g c h l x a =
        let w : Row Z (Down Case c (order ns c)) ((A c).offset + 4) (order ns c) =
        (subst (λ k. Row Z (Down Case c (order ns c)) ((A c).offset + k) (order ns c)) (own_width_on ns b c h ∙ ap (λ s. own_width_by ns s (order ns c)) x)
        (subst (λ s. Row Z (Down s c (order ns c)) ((A c).offset + own_width ns b c) (order ns c)) x (downs g c (omega arith) l))) in
        let v = list_down Case c (order ns c) (λ d o m. refl) (order ns c) ((A c).offset + 4) w in
        let r = list_is (A c).env (A c).depth (order ns c) ((A c).offset + 4) v a in
        record {
          starts = first_is (A c).env (A c).depth (order ns c) ((A c).offset + 4) (listed_pos (A c).env (A c).depth (order ns c) ((A c).offset + 4) v);
          holds = r.0;
          long = ap (λ k. 4 + k) r.1 ∙ sym (width_is_lem ns b c l ∙ ap (λ k. k + sum Z (order ns c)) (own_width_on ns b c h ∙ ap (λ s. own_width_by ns s (order ns c)) x));
        }

    module _ (ρ : Comp → Stat) (δ : ℕ) where
      abbrev out : Comp → Stat
      out x = ρ (no_break x)

      abbrev Switched : ℕ → ℕ → ℕ → Type 0
      Switched c o m = (0 < c) × (next0 c ≡ m) × (A c ≡ context o δ [] (next out (ifz m (ρ normal) (at (o + Z c) δ))))

      link_is : (cs : List ℕ) (o p : ℕ) → Row Z Switched p cs → link (cases_of ns S cs) o ≡ ifz (head0 cs) 0 o
      link_is [] o p r = refl
      link_is (c ∷ cs) o p r = sym (ifz_pos c 0 o r.0.0)

      through_is : (cs : List ℕ) (o p : ℕ) → Row Z Switched p cs → through (cases_of ns S cs) o δ out ≡ ifz (head0 cs) (ρ normal) (at o δ)
      through_is [] o p r = refl
      through_is (c ∷ cs) o p r = sym (ifz_pos c (ρ normal) (at o δ) r.0.0)

      default_is : (cs : List ℕ) (o z : ℕ) → All Cased cs → place (cases_of ns S cs) o z (defaultIn (cases_of ns S cs)) ≡ default_from ns b cs o z
      unfolding place default_from
      default_is [] o z a = refl
      default_is (c ∷ cs) o z a = go (default_at ns c) (default_is cs (o + Z c) z a.1)
        where
          e : o + 4 + sizes (list_of S (order ns c)) ≡ o + Z c
          e = omega (arith, a.0.long)

          go : (x : Bool) → place (cases_of ns S cs) (o + Z c) z (defaultIn (cases_of ns S cs)) ≡ default_from ns b cs (o + Z c) z
              → place (case x (list_of S (order ns c)) (cases_of ns S cs)) o z (pick x zero (suc (defaultIn (cases_of ns S cs)))) ≡ cond x o (default_from ns b cs (o + Z c) z)
          go true r = refl
          go false r = ap (λ k. place (cases_of ns S cs) k z (defaultIn (cases_of ns S cs))) e ∙ r

      cases_is : (cs : List ℕ) (o : ℕ) → Row Z Switched o cs → All Cased cs → (code_cases (cases_of ns S cs) o δ out ≡ fl Q cs) × (size_cases (cases_of ns S cs) ≡ sum Z cs)
      unfolding code size flat sum
      cases_is [] o r a = (refl, refl)
      cases_is (c ∷ cs) o r a =
          let ih = cases_is cs (o + Z c) r.1 a.1 in
          let ss = list_of S (order ns c) in
          let q : o + 4 + sizes ss ≡ o + Z c = omega (arith, a.0.long) in
          let l : link (cases_of ns S cs) (o + 4 + sizes ss) ≡ ifz (next0 c) 0 (o + Z c) =
          ap (link (cases_of ns S cs)) q ∙ link_is cs (o + Z c) (o + Z c) r.1 ∙ ap (λ m. ifz m 0 (o + Z c)) (sym r.0.1) in
          let t : through (cases_of ns S cs) (o + 4 + sizes ss) δ out ≡ ifz (head0 cs) (ρ normal) (at (o + Z c) δ) =
          ap (λ k. through (cases_of ns S cs) k δ out) q ∙ through_is cs (o + Z c) (o + Z c) r.1 in
          let w : code_cases (cases_of ns S cs) (o + 4 + sizes ss) δ out ≡ fl Q cs = ap (λ k. code_cases (cases_of ns S cs) k δ out) q ∙ ih.0 in (
            (λ i. case_to (l i) (first ss (o + 4) δ (next out (t i))) ++ (codes ss (o + 4) δ (next out (t i)) ++ w i))
                ∙ ap (λ x. case_to (ifz (next0 c) 0 (x.offset + Z c)) (first ss (x.offset + 4) x.depth x.env) ++ (codes ss (x.offset + 4) x.depth x.env ++ fl Q cs)) (sym r.0.2)
                ∙ (λ i. case_to (ifz (next0 c) 0 ((A c).offset + Z c)) (a.0.starts i) ++ (a.0.holds i ++ fl Q cs))
                ∙ sym (append_assoc (words_by ns names b Case c (order ns c) (A c) (next0 c)) (fl P (order ns c)) (fl Q cs)),
            (λ i. a.0.long i + ih.1 i),
          )

    switch_down : (j : ℕ) (ps js : List ℕ) (o : ℕ) → Row Z (Down Switch j ps) o js → Row Z (Switched (A j).env (A j).depth) o js
    switch_down j ps [] o r = tt
    switch_down j ps (c ∷ cs) o r = ((r.0.pos, r.0.nxt, r.0.att_is), switch_down j ps cs (o + Z c) r.1)

    -- One node, by its shape, with its parts ps in code order.
    module _ (j : ℕ) where
      abbrev o : ℕ
      o = (A j).offset

      abbrev δ : ℕ
      δ = (A j).depth

      abbrev ρ : Comp → Stat
      ρ = (A j).env

      abbrev Made : (ℕ → List ℕ) → Shape → List ℕ → Stmt → Type 0
      Made R sh ps s = (piece s (A j) ≡ words_by ns names b sh j ps (A j) (next0 j) ++ fl R ps) × (size s ≡ own_width_by ns sh ps + sum Z ps)

      abbrev Downs : Shape → List ℕ → Type 0
      Downs sh ps = Row Z (Down sh j ps) (o + own_width_by ns sh ps) ps

      -- The one part c.
      one_piece : (c : ℕ) (a : Context) → A c ≡ a → piece (S c) a ≡ P c ++ []
      one_piece c a h = sym (append-nil (P c) ∙ ap (piece (S c)) h)

      zeroed : o + 0 ≡ o
      zeroed = omega arith

      leaf_none : Made P Single [] (build ns names S j [] Single)
      unfolding code size flat sum
      leaf_none = (refl, refl)

      if_one : (c : ℕ) → Downs If (c ∷ []) → Fit c → Made P If (c ∷ []) (build ns names S j (c ∷ []) If)
      unfolding code size flat sum
      if_one c r f = (ap (λ l. (3 ∷ j ∷ (o + 7) ∷ (o + 4) ∷ goto (ρ normal)) ++ l) (one_piece c (context (o + 7) δ [] ρ) r.0.att_is), omega (arith, f))

      if_two : (c d : ℕ) → Downs If (c ∷ d ∷ []) → Fit c → Fit d → Made P If (c ∷ d ∷ []) (build ns names S j (c ∷ d ∷ []) If)
      unfolding code size flat sum
      if_two c d r f h = go (eqb (role_of ns c) role.Alternate)
        where
          x : piece (S c) (context (o + 7) δ [] ρ) ≡ P c
          x = sym (ap (piece (S c)) r.0.att_is)

          y : code (S d) [] (o + 7 + size (S c)) δ ρ ≡ P d ++ []
          y = ap (λ k. code (S d) [] (o + 7 + k) δ ρ) f ∙ one_piece d (context (o + 7 + Z c) δ [] ρ) r.1.0.att_is

          go : (t : Bool)
              → (piece (cond t (if3 j (S c) (S d)) (if2 j (S c) (S d))) (A j)
              ≡ (3 ∷ j ∷ cond t (o + 7 + Z c) (o + 7) ∷ cond t (o + 7) (o + 7 + Z c) ∷ goto (ρ normal)) ++ (P c ++ (P d ++ [])))
              × (size (cond t (if3 j (S c) (S d)) (if2 j (S c) (S d))) ≡ 7 + (Z c + (Z d + 0)))
          go true = ((λ i. (3 ∷ j ∷ (o + 7 + f i) ∷ (o + 7) ∷ goto (ρ normal)) ++ (x i ++ y i)), omega (arith, f, h))
          go false = ((λ i. (3 ∷ j ∷ (o + 7) ∷ (o + 7 + f i) ∷ goto (ρ normal)) ++ (x i ++ y i)), omega (arith, f, h))

      with_one : (c : ℕ) → Downs With (c ∷ []) → Fit c → Made P With (c ∷ []) (build ns names S j (c ∷ []) With)
      unfolding code size flat sum
      with_one c r f = (ap (λ l. (1 ∷ j ∷ []) ++ l) (one_piece c (context (o + 2) δ [] ρ) r.0.att_is), omega (arith, f))

      label_one : (c : ℕ) → Downs Label (c ∷ []) → Fit c → Made P Label (c ∷ []) (build ns names S j (c ∷ []) Label)
      unfolding code size flat sum
      label_one c r f = (
        one_piece c (part_context ns names b Label j (c ∷ []) (A j) c o 0) (r.0.att_is ∙ ap (λ k. part_context ns names b Label j (c ∷ []) (A j) c k 0) zeroed),
        omega (arith, f),
      )

      catch_one : (c : ℕ) → Downs Catch (c ∷ []) → Fit c → Made P Catch (c ∷ []) (build ns names S j (c ∷ []) Catch)
      unfolding code size flat sum
      catch_one c r f = (
        one_piece c (part_context ns names b Catch j (c ∷ []) (A j) c o 0) (r.0.att_is ∙ ap (λ k. part_context ns names b Catch j (c ∷ []) (A j) c k 0) zeroed),
        omega (arith, f),
      )

      loop_one : (c : ℕ) → Downs Loop (c ∷ []) → Fit c → Made P Loop (c ∷ []) (build ns names S j (c ∷ []) Loop)
      unfolding code size flat sum
      loop_one c r f = (
        ap (λ l. words_by ns names b Loop j (c ∷ []) (A j) (next0 j) ++ l) (one_piece c (part_context ns names b Loop j (c ∷ []) (A j) c (o + 10) 0) r.0.att_is),
        omega (arith, f),
      )

      block_list : (ps : List ℕ) → Downs Block ps → All Fit ps → Made P Block ps (build ns names S j ps Block)
      unfolding code size
      block_list ps r f =
          let v = list_down Block j ps (λ c k m. refl) ps (o + 3) r in
          let l = list_is ρ δ ps (o + 3) v f in
          ((λ i. goto (first_is ρ δ ps (o + 3) (listed_pos ρ δ ps (o + 3) v) i) ++ l.0 i), ap (λ k. 3 + k) l.1)

      -- A class, or an export, with its static blocks.
      class_list : (ps : List ℕ) → Downs Class ps → All Fit ps → Made P Class ps (build ns names S j ps Class)
      class_list ps r f =
          let v = list_down Class j ps (λ c k m. refl) ps (o + 5) r in
          let l = list_is ρ δ ps (o + 5) v f in (
            class_code j (list_of S ps) (A j).labels o δ ρ ∙ (λ i. (1 ∷ j ∷ goto (first_is ρ δ ps (o + 5) (listed_pos ρ δ ps (o + 5) v) i)) ++ l.0 i),
            class_size j (list_of S ps) ∙ ap (λ k. 5 + k) l.1,
          )

      switch_list : (ps : List ℕ) → Downs Switch ps → All Cased ps → Made Q Switch ps (build ns names S j ps Switch)
      unfolding code size
      switch_list ps r f =
          let v = switch_down j ps ps (o + 7) r in
          let l = cases_is ρ δ ps (o + 7) v f in
          ((λ i. (4 ∷ j ∷ link_is ρ δ ps (o + 7) (o + 7) v i ∷ default_is ρ δ ps (o + 7) (o + 4) f i ∷ goto (ρ normal)) ++ l.0 i), ap (λ k. 7 + k) l.1)

      -- Try: a catch; a finally; both.
      module _ (c d : ℕ) (f : Fit c) (h : Fit d) (x : role_of ns c ≡ 3) where
        abbrev ps : List ℕ
        ps = c ∷ d ∷ []

        try_catch : role_of ns d ≡ 4 → Downs Try (c ∷ d ∷ []) → Made P Try (c ∷ d ∷ []) (build ns names S j (c ∷ d ∷ []) Try)
        unfolding code size flat sum
        try_catch y r = (
          ap (λ s. piece s (A j)) bt
              ∙ (λ i. code (S c) [] o δ (in_try ρ (o + f i) δ) ++ code (S d) [] (o + f i) δ ρ)
              ∙ (λ i. sym pc i ++ sym pd i)
              ∙ sym (ap (λ t. cond t (5 ∷ last_from ns b (c ∷ d ∷ []) (o + 2) ∷ []) [] ++ (P c ++ (P d ++ []))) F),
          ap size bt ∙ (let e : size (S c) + size (S d) ≡ 0 + (Z c + (Z d + 0)) = omega (arith, f, h) in e) ∙ sym (ap (λ t. cond t 2 0 + (Z c + (Z d + 0))) F),
        )
          where
            F : has_role ns role.Finally (c ∷ d ∷ []) ≡ false
            F = λ i. eqb (x i) 5 || (eqb (y i) 5 || false)

            K : has_role ns role.Alternate (c ∷ d ∷ []) ≡ true
            K = λ i. eqb (x i) 4 || (eqb (y i) 4 || false)

            bt : try_of ns S (c ∷ d ∷ []) ≡ try_c (S c) (S d)
            bt = ap (λ t. cond (eqb t 5) (try_f (S c) (S d)) (try_c (S c) (S d))) y

            oz : o + cond (has_role ns role.Finally (c ∷ d ∷ [])) 2 0 ≡ o
            oz = ap (λ t. o + cond t 2 0) F ∙ zeroed

            at_c : A c ≡ context o δ [] (in_try ρ (o + Z c) δ)
            at_c = r.0.att_is ∙ (λ i. context (oz i) (cond (F i) (suc δ) δ) [] (try_env ns names b (x i) (K i) (oz i + Z c) (cond (F i) (suc δ) δ) ρ))

            ad : A d ≡ context (o + Z c) δ [] ρ
            ad = r.1.0.att_is ∙ (λ i. context (oz i + Z c) (cond (F i) (suc δ) δ) [] (try_env ns names b (y i) (K i) (oz i + Z c + Z d) (cond (F i) (suc δ) δ) ρ))

            pc : P c ≡ code (S c) [] o δ (in_try ρ (o + Z c) δ)
            pc = ap (piece (S c)) at_c

            pd : P d ++ [] ≡ code (S d) [] (o + Z c) δ ρ
            pd = append-nil (P d) ∙ ap (piece (S d)) ad

        try_fin : role_of ns d ≡ 5 → Downs Try (c ∷ d ∷ []) → Made P Try (c ∷ d ∷ []) (build ns names S j (c ∷ d ∷ []) Try)
        unfolding code size flat sum
        try_fin y r = (
          ap (λ s. piece s (A j)) bt
              ∙ (λ i. (5 ∷ (o + 2 + f i) ∷ []) ++ (code (S c) [] (o + 2) (suc δ) ρ ++ code (S d) [] (o + 2 + f i) (suc δ) (next ρ (at 0 (suc δ)))))
              ∙ (λ i. (5 ∷ (o + 2 + Z c) ∷ []) ++ (sym pc i ++ sym pd i))
              ∙ sym (ap (λ t. cond t (5 ∷ (o + 2 + Z c) ∷ []) [] ++ (P c ++ (P d ++ []))) F),
          ap size bt ∙ (let e : 2 + size (S c) + size (S d) ≡ 2 + (Z c + (Z d + 0)) = omega (arith, f, h) in e) ∙ sym (ap (λ t. cond t 2 0 + (Z c + (Z d + 0))) F),
        )
          where
            F : has_role ns role.Finally (c ∷ d ∷ []) ≡ true
            F = λ i. eqb (x i) 5 || (eqb (y i) 5 || false)

            K : has_role ns role.Alternate (c ∷ d ∷ []) ≡ false
            K = λ i. eqb (x i) 4 || (eqb (y i) 4 || false)

            bt : try_of ns S (c ∷ d ∷ []) ≡ try_f (S c) (S d)
            bt = ap (λ t. cond (eqb t 5) (try_f (S c) (S d)) (try_c (S c) (S d))) y

            oz : o + cond (has_role ns role.Finally (c ∷ d ∷ [])) 2 0 ≡ o + 2
            oz = ap (λ t. o + cond t 2 0) F

            at_c : A c ≡ context (o + 2) (suc δ) [] ρ
            at_c = r.0.att_is ∙ (λ i. context (oz i) (cond (F i) (suc δ) δ) [] (try_env ns names b (x i) (K i) (oz i + Z c) (cond (F i) (suc δ) δ) ρ))

            ad : A d ≡ context (o + 2 + Z c) (suc δ) [] (next ρ (at 0 (suc δ)))
            ad = r.1.0.att_is ∙ (λ i. context (oz i + Z c) (cond (F i) (suc δ) δ) [] (try_env ns names b (y i) (K i) (oz i + Z c + Z d) (cond (F i) (suc δ) δ) ρ))

            pc : P c ≡ code (S c) [] (o + 2) (suc δ) ρ
            pc = ap (piece (S c)) at_c

            pd : P d ++ [] ≡ code (S d) [] (o + 2 + Z c) (suc δ) (next ρ (at 0 (suc δ)))
            pd = append-nil (P d) ∙ ap (piece (S d)) ad

        try_both : (e : ℕ) → Fit e → role_of ns d ≡ 4 → role_of ns e ≡ 5 → Downs Try (c ∷ d ∷ e ∷ []) → Made P Try (c ∷ d ∷ e ∷ []) (build ns names S j (c ∷ d ∷ e ∷ []) Try)
        unfolding code size flat sum
        try_both e k y w r = (
          (λ i. (5 ∷ q i ∷ []) ++ ((code (S c) [] (o + 2) (suc δ) (in_try ρ (o + 2 + f i) (suc δ)) ++ code (S d) [] (o + 2 + f i) (suc δ) ρ) ++ code (S e) [] (q i) (suc δ) (next ρ (at 0 (suc δ)))))
              ∙ (λ i. (5 ∷ (o + 2 + Z c + Z d) ∷ []) ++ ((sym pc i ++ sym pd i) ++ sym pe i))
              ∙ ap (λ l. (5 ∷ (o + 2 + Z c + Z d) ∷ []) ++ l) (append_assoc (P c) (P d) (P e ++ []))
              ∙ sym (ap (λ t. cond t (5 ∷ (o + 2 + Z c + Z d) ∷ []) [] ++ (P c ++ (P d ++ (P e ++ [])))) F),
          (let m : 2 + (size (S c) + size (S d)) + size (S e) ≡ 2 + (Z c + (Z d + (Z e + 0))) = omega (arith, f, h, k) in m) ∙ sym (ap (λ t. cond t 2 0 + (Z c + (Z d + (Z e + 0)))) F),
        )
          where
            F : has_role ns role.Finally (c ∷ d ∷ e ∷ []) ≡ true
            F = λ i. eqb (x i) 5 || (eqb (y i) 5 || (eqb (w i) 5 || false))

            K : has_role ns role.Alternate (c ∷ d ∷ e ∷ []) ≡ true
            K = λ i. eqb (x i) 4 || (eqb (y i) 4 || (eqb (w i) 4 || false))

            q : o + 2 + (size (S c) + size (S d)) ≡ o + 2 + Z c + Z d
            q = omega (arith, f, h)

            oz : o + cond (has_role ns role.Finally (c ∷ d ∷ e ∷ [])) 2 0 ≡ o + 2
            oz = ap (λ t. o + cond t 2 0) F

            at_c : A c ≡ context (o + 2) (suc δ) [] (in_try ρ (o + 2 + Z c) (suc δ))
            at_c = r.0.att_is ∙ (λ i. context (oz i) (cond (F i) (suc δ) δ) [] (try_env ns names b (x i) (K i) (oz i + Z c) (cond (F i) (suc δ) δ) ρ))

            ad : A d ≡ context (o + 2 + Z c) (suc δ) [] ρ
            ad = r.1.0.att_is ∙ (λ i. context (oz i + Z c) (cond (F i) (suc δ) δ) [] (try_env ns names b (y i) (K i) (oz i + Z c + Z d) (cond (F i) (suc δ) δ) ρ))

            ae : A e ≡ context (o + 2 + Z c + Z d) (suc δ) [] (next ρ (at 0 (suc δ)))
            ae = r.1.1.0.att_is ∙ (λ i. context (oz i + Z c + Z d) (cond (F i) (suc δ) δ) [] (try_env ns names b (w i) (K i) (oz i + Z c + Z d + Z e) (cond (F i) (suc δ) δ) ρ))

            pc : P c ≡ code (S c) [] (o + 2) (suc δ) (in_try ρ (o + 2 + Z c) (suc δ))
            pc = ap (piece (S c)) at_c

            pd : P d ≡ code (S d) [] (o + 2 + Z c) (suc δ) ρ
            pd = ap (piece (S d)) ad

            pe : P e ++ [] ≡ code (S e) [] (o + 2 + Z c + Z d) (suc δ) (next ρ (at 0 (suc δ)))
            pe = append-nil (P e) ∙ ap (piece (S e)) ae

      -- All shapes; R is what is known of the parts' code.
      module _ (g : Good ns) (hb : b < j) (hc : j < count ns) (R : ℕ → List ℕ) where
        abbrev Result : Type 0
        Result = (piece (build ns names S j (order ns j) (shape_at ns j)) (A j) ≡ words_at ns names b j ++ fl R (order ns j))
            × (size (build ns names S j (order ns j) (shape_at ns j)) ≡ Z j)

        downs_at : (sh : Shape) → shape_at ns j ≡ sh → (ps : List ℕ) → order ns j ≡ ps → Downs sh ps
        downs_at sh x ps q =
            subst (λ l. Row Z (Down sh j l) (o + own_width_by ns sh l) l) q
            (subst (λ s. Row Z (Down s j (order ns j)) (o + own_width_by ns s (order ns j)) (order ns j)) x
            (subst (λ k. Row Z (Down (shape_at ns j) j (order ns j)) (o + k) (order ns j)) (own_width_on ns b j hb) (downs g j (omega arith) hc)))

        finish : (sh : Shape) → shape_at ns j ≡ sh → (ps : List ℕ) → order ns j ≡ ps → (X : ℕ → List ℕ) → Made X sh ps (build ns names S j ps sh) → All (λ c. X c ≡ R c) (order ns j) → Result
        finish sh x ps q X m a = (
          (λ i. piece (build ns names S j (q i) (x i)) (A j)) ∙ m.0 ∙ (λ i. words_by ns names b (sym x i) j (sym q i) (A j) (next0 j) ++ fl X (sym q i))
              ∙ (λ i. sym (words_on ns names b j hb) i ++ flat_same_lem ns names b X R (order ns j) a i),
          (λ i. size (build ns names S j (q i) (x i))) ∙ m.1 ∙ (λ i. own_width_by ns (sym x i) (sym q i) + sum Z (sym q i))
              ∙ sym (width_is_lem ns b j hc ∙ ap (λ k. k + sum Z (order ns j)) (own_width_on ns b j hb)),
        )

        -- What has no part has none.
        no_parts : (sh : Shape) → shape_at ns j ≡ sh → ((l r : ℕ) → part_by sh l r ≡ false) → (ps : List ℕ) → All (Part ns j) ps → ps ≡ []
        unfolding is_part
        no_parts sh x n [] a = refl
        no_parts sh x n (c ∷ cs) a = go (is_part ns c) a.0.part (dead (is_part ns c) refl)
          where
            dead : (t : Bool) → is_part ns c ≡ t → t ≡ false
            dead t e = sym e ∙ (λ i. part_by (shape_at ns (a.0.parent i)) (kind_of ns c) (role_of ns c)) ∙ ap (λ s. part_by s (kind_of ns c) (role_of ns c)) x ∙ n (kind_of ns c) (role_of ns c)

            go : (t : Bool) → t ≡ true → t ≡ false → c ∷ cs ≡ []
            go true e f = let z : ◌≡◌ {A = ℕ} 0 1 = cc in absurd (omega arith)
            go false e f = let z : ◌≡◌ {A = ℕ} 0 1 = cc in absurd (omega arith)

        node : is_case (shape_at ns j) ≡ false → (is_switch (shape_at ns j) ≡ false → All Fit (order ns j) × All (λ c. P c ≡ R c) (order ns j))
            → (shape_at ns j ≡ Switch → All Cased (order ns j) × All (λ c. Q c ≡ R c) (order ns j)) → Result
        node n u v = go (shape_at ns j) refl
          where
            one : (sh : Shape) → shape_at ns j ≡ sh → is_one sh ≡ true → is_switch sh ≡ false → ((c : ℕ) → Downs sh (c ∷ []) → Fit c → Made P sh (c ∷ []) (build ns names S j (c ∷ []) sh)) → Result
            one sh x y z m =
                let (c, q) = g.shaped.one j hc (ap is_one x ∙ y) in
                let w = u (ap is_switch x ∙ z) in
                finish sh x (c ∷ []) q P (m c (downs_at sh x (c ∷ []) q) (subst (All Fit) q w.0).0) w.1

            ifs : shape_at ns j ≡ If → One ns j ⊎ (Two ns j 3 4 ⊎ Two ns j 4 3) → Result
            ifs x (inl t) =
                let (c, q) = t in
                let w = u (ap is_switch x) in
                finish If x (c ∷ []) q P (if_one c (downs_at If x (c ∷ []) q) (subst (All Fit) q w.0).0) w.1
            ifs x (inr (inl t)) =
                let (c, d, q, y, z) = t in
                let w = u (ap is_switch x) in
                let f = subst (All Fit) q w.0 in
                finish If x (c ∷ d ∷ []) q P (if_two c d (downs_at If x (c ∷ d ∷ []) q) f.0 f.1.0) w.1
            ifs x (inr (inr t)) =
                let (c, d, q, y, z) = t in
                let w = u (ap is_switch x) in
                let f = subst (All Fit) q w.0 in
                finish If x (c ∷ d ∷ []) q P (if_two c d (downs_at If x (c ∷ d ∷ []) q) f.0 f.1.0) w.1

            tries : shape_at ns j ≡ Try → Two ns j 3 4 ⊎ (Two ns j 3 5 ⊎ Three ns j) → Result
            tries x (inl t) =
                let (c, d, q, y, z) = t in
                let w = u (ap is_switch x) in
                let f = subst (All Fit) q w.0 in
                finish Try x (c ∷ d ∷ []) q P (try_catch c d f.0 f.1.0 y z (downs_at Try x (c ∷ d ∷ []) q)) w.1
            tries x (inr (inl t)) =
                let (c, d, q, y, z) = t in
                let w = u (ap is_switch x) in
                let f = subst (All Fit) q w.0 in
                finish Try x (c ∷ d ∷ []) q P (try_fin c d f.0 f.1.0 y z (downs_at Try x (c ∷ d ∷ []) q)) w.1
            tries x (inr (inr t)) =
                let (c, d, e, q, y, z, y') = t in
                let w = u (ap is_switch x) in
                let f = subst (All Fit) q w.0 in
                finish Try x (c ∷ d ∷ e ∷ []) q P (try_both c d f.0 f.1.0 y e f.1.1.0 z y' (downs_at Try x (c ∷ d ∷ e ∷ []) q)) w.1

            go : (sh : Shape) → shape_at ns j ≡ sh → Result
            go Single x = finish Single x [] (no_parts Single x (λ l r. refl) (order ns j) (order_all_lem ns j)) P leaf_none (u (ap is_switch x)).1
            go Class x = let w = u (ap is_switch x) in finish Class x (order ns j) refl P (class_list (order ns j) (downs_at Class x (order ns j) refl) w.0) w.1
            go If x = ifs x (g.shaped.ifs j hc x)
            go With x = one With x refl refl with_one
            go Block x = let w = u (ap is_switch x) in finish Block x (order ns j) refl P (block_list (order ns j) (downs_at Block x (order ns j) refl) w.0) w.1
            go Label x = one Label x refl refl label_one
            go Loop x = one Loop x refl refl loop_one
            go Switch x = let w = v x in finish Switch x (order ns j) refl Q (switch_list (order ns j) (downs_at Switch x (order ns j) refl) w.0) w.1
            go Case x = let y : true ≡ false = sym (ap is_case x) ∙ n in let z : ◌≡◌ {A = ℕ} 0 1 = cc in absurd (omega arith)
            go Try x = tries x (g.shaped.tries j hc x)
            go Catch x = one Catch x refl refl catch_one

  case_by : (sh : Shape) → is_case sh ≡ true → sh ≡ Case
  case_by Single y = let z : ◌≡◌ {A = ℕ} 0 1 = cc in absurd (omega arith)
  case_by Class y = let z : ◌≡◌ {A = ℕ} 0 1 = cc in absurd (omega arith)
  case_by If y = let z : ◌≡◌ {A = ℕ} 0 1 = cc in absurd (omega arith)
  case_by With y = let z : ◌≡◌ {A = ℕ} 0 1 = cc in absurd (omega arith)
  case_by Block y = let z : ◌≡◌ {A = ℕ} 0 1 = cc in absurd (omega arith)
  case_by Label y = let z : ◌≡◌ {A = ℕ} 0 1 = cc in absurd (omega arith)
  case_by Loop y = let z : ◌≡◌ {A = ℕ} 0 1 = cc in absurd (omega arith)
  case_by Switch y = let z : ◌≡◌ {A = ℕ} 0 1 = cc in absurd (omega arith)
  case_by Case y = refl
  case_by Try y = let z : ◌≡◌ {A = ℕ} 0 1 = cc in absurd (omega arith)
  case_by Catch y = let z : ◌≡◌ {A = ℕ} 0 1 = cc in absurd (omega arith)

  -- Every statement, at every bound that reaches the end of the table.
  module _ (g : Good ns) where
    abbrev Right : ℕ → ℕ → Type 0
    Right f j = (piece (stmt_at ns names f j) (A j) ≡ code_at ns names b j) × (size (stmt_at ns names f j) ≡ Z j)

    not_case : (p c : ℕ) → Part ns p c → is_switch (shape_at ns p) ≡ false → is_case (shape_at ns c) ≡ false
    not_case p c w x = g.shaped.cases c (omega (arith, w.behind)) w.inside w.part ∙ ap (λ k. is_switch (shape_at ns k)) w.parent ∙ x

    a_case : (p c : ℕ) → Part ns p c → shape_at ns p ≡ Switch → shape_at ns c ≡ Case
    a_case p c w x = case_by (shape_at ns c) (g.shaped.cases c (omega (arith, w.behind)) w.inside w.part ∙ ap (λ k. is_switch (shape_at ns k)) w.parent ∙ ap is_switch x)

    -- A case, from its statements.
    case_right : (S : ℕ → Stmt) (c : ℕ) → b < c → c < count ns → shape_at ns c ≡ Case
        → All (λ d. (P S d ≡ code_at ns names b d) × (size (S d) ≡ Z d)) (order ns c) → Cased S c × (Q S c ≡ code_at ns names b c)
    case_right S c h l x a = (
      cased S g c h l x (all_map _ _ (λ d p. p.1) (order ns c) a),
      (λ i. words_by ns names b (sym x i) c (order ns c) (A c) (next0 c) ++ flat_same_lem ns names b (P S) (code_at ns names b) (order ns c) (all_map _ _ (λ d p. p.0) (order ns c) a) i)
          ∙ ap (λ w. w ++ flat ns names b (code_at ns names b) (order ns c)) (sym (words_on ns names b c h))
          ∙ sym (code_is ns names b c l),
    )

    pub stmt_right : (f j : ℕ) → count ns ≤ j + f → b < j → j < count ns → is_case (shape_at ns j) ≡ false → Right f j
    unfolding stmt_at
    stmt_right zero j h hb hc n = absurd (omega arith)
    stmt_right (suc f) j h hb hc n = step (λ c x y z w. stmt_right f c x y z w)
      where
        step : ((c : ℕ) → count ns ≤ c + f → b < c → c < count ns → is_case (shape_at ns c) ≡ false → Right f c) → Right (suc f) j
        step ih =
            let r = node (stmt_at ns names f) j g hb hc (code_at ns names b) n (λ x. (all_map (Part ns j) _ (λ c w. (part c w x).1) (order ns j) (order_all_lem ns j), all_map (Part ns j) _ (λ c w. (part c w x).0) (order ns j) (order_all_lem ns j)))
            (λ x. (all_map (Part ns j) _ (λ c w. (held c w x).0) (order ns j) (order_all_lem ns j), all_map (Part ns j) _ (λ c w. (held c w x).1) (order ns j) (order_all_lem ns j))) in
            (r.0 ∙ sym (code_is ns names b j hc), r.1)
          where
            part : (c : ℕ) → Part ns j c → is_switch (shape_at ns j) ≡ false → Right f c
            part c w x = ih c (omega (arith, w.behind)) (omega (arith, w.behind)) w.inside (not_case j c w x)

            held : (c : ℕ) → Part ns j c → shape_at ns j ≡ Switch → Cased (stmt_at ns names f) c × (Q (stmt_at ns names f) c ≡ code_at ns names b c)
            held c w x =
                let y = a_case j c w x in
                case_right (stmt_at ns names f) c (omega (arith, w.behind)) w.inside y
                (all_map (Part ns c) _ (λ d v. ih d (omega (arith, w.behind, v.behind)) (omega (arith, w.behind, v.behind)) v.inside (not_case c d v (ap is_switch y))) (order ns c) (order_all_lem ns c))

  -- The statements that the holder holds.
  pub body_right : Good ns → b < count ns → shape_at ns b ≡ Block → (codes (body_of ns names b) 0 0 (top (width_at ns b b)) ≡ code_at ns names b b) × (sizes (body_of ns names b) ≡ width_at ns b b)
  unfolding body_of
  body_right g hc x =
      let S = stmt_at ns names (count ns) in
      let a = all_map (Part ns b) _ (λ c w. stmt_right g (count ns) c (omega arith) w.behind w.inside (not_case g b c w (ap is_switch x))) (order ns b) (order_all_lem ns b) in
      let d = subst (λ s. Row (width_at ns b) (Down s b (order ns b)) ((A b).offset + own_width ns b b) (order ns b)) x (downs g b (omega arith) hc) in
      let r = list_down S Block b (order ns b) (λ c k m. refl) (order ns b) ((A b).offset + own_width ns b b) d in
      let q : (A b).offset + own_width ns b b ≡ 0 = (λ i. (context_root ns names b i).offset + own_width_root ns b i) in
      let l = list_is S (context_at ns names b b).env (context_at ns names b b).depth (order ns b) ((A b).offset + own_width ns b b) r (all_map _ _ (λ c w. w.1) (order ns b) a) in (
        (λ i. codes (list_of S (order ns b)) (sym q i) (sym (context_root ns names b) i).depth (sym (context_root ns names b) i).env)
            ∙ l.0
            ∙ flat_same_lem ns names b (P S) (code_at ns names b) (order ns b) (all_map _ _ (λ c w. w.0) (order ns b) a)
            ∙ sym (code_is ns names b b hc ∙ ap (λ w. w ++ flat ns names b (code_at ns names b) (order ns b)) (words_root ns names b)),
        l.1 ∙ sym (width_is_lem ns b b hc ∙ ap (λ k. k + sum (width_at ns b) (order ns b)) (own_width_root ns b) ∙ (let e : 0 + sum (width_at ns b) (order ns b) ≡ sum (width_at ns b) (order ns b) = omega arith in e)),
      )
