-- Each instruction of a unit's code leads only to places where an instruction begins.
use Prim.Native.Nat.{ℕ, zero, suc, ◌+◌, ◌≤◌, ◌<◌}
use Rattle.std.specs.Prelude.{◌≡◌, Bool, true, false, ◌⊎◌, length, get_or}
use Rattle.std.proofs.Math.Path.{refl}
use Rattle.std.proofs.Common.{sym, ◌∙◌, ap, subst, arith}
use mathlib.Core.List.{List, [], ◌∷◌, ◌++◌}
use Rattle.std.proofs.Math.Logic.{inl, inr}
use Rattle.std.proofs.Math.ListN.{get_or-eq_default}
use Rattle.route_completion.specs.Tree.{Stmt, Stmts, Cases, leaf, if1, if2, if3, withs, block, label, loop, switch, try_c, try_f, nil, cons, none, case}
use Rattle.route_completion.specs.Sem.{Comp, normal, breaks, continues, returns, throws, spent, pick, loop_continues, no_break, no_label, default_at, comp_of}
use Rattle.code_flat.specs.Opcodes as op
use Rattle.code_flat.specs.Code.{Stat, at, place_of, depth_of, goto, next, in_try, in_loop, first, link, through, size, sizes, size_cases, place, code, codes, code_cases, top, ends, unit}
use Rattle.code_flat.specs.Machine.{Instr, NONE, LIST, LEAVE, ASK, SELECT, OPEN, END, CASE, decode, fetch}
use Rattle.code_flat.proofs.Size.{code_length, codes_length}
use Rattle.code_flat.proofs.Correct.{has_left, has_right, has_self, unit_length}
use Rattle.code_flat.specs.Has.{Has}
use Rattle.code_marks.specs.Begins.{width, offset, Begins}
use Rattle.code_marks.proofs.Places.{Path, hop, move_p, move_h, begins, seven, walk, walks, begin}

abbrev pub OrNone : (ℕ → Type 0) → ℕ → Type 0
OrNone T t = (t ≡ 0) ⊎ T t

-- The instruction at o leads only to T. The place 0 is what is pending, or no case.
abbrev pub Leads : (ℕ → Type 0) → ℕ → Instr → Type 0
Leads T o NONE = Unit {0}
Leads T o (LIST n) = T (o + 2)
Leads T o (LEAVE t d) = OrNone T t
Leads T o (ASK n y z) = T y × T z
Leads T o (SELECT n c e) = OrNone T c × T e
Leads T o (OPEN f) = T (o + 2) × T f
Leads T o (END e) = Unit {0}
Leads T o (CASE c t d) = OrNone T c × OrNone T t

-- The k instructions from o on lead only to T, and end at m.
abbrev Leading : List ℕ → (ℕ → Type 0) → ℕ → ℕ → ℕ → Type 0
Leading C T o zero m = o ≡ m
Leading C T o (suc k) m = Leads T o (fetch C o) × Leading C T (o + width (get_or C o 0)) k m

record Seg (C : List ℕ) (o m : ℕ) : Type 0 where
  index : ℕ
  leading : Leading C (Begins C) o index m

module _ (C : List ℕ) where
  abbrev T : ℕ → Type 0
  T = Begins C

  fetch_is : (o w a b c : ℕ) → get_or C o 0 ≡ w → get_or C (suc o) 0 ≡ a → get_or C (suc (suc o)) 0 ≡ b → get_or C (suc (suc (suc o))) 0 ≡ c → fetch C o ≡ decode w a b c
  unfolding fetch
  fetch_is o w a b c p q r s = λ i. decode (p i) (q i) (r i) (s i)

  one : (o w m a b c : ℕ) → get_or C o 0 ≡ w → get_or C (suc o) 0 ≡ a → get_or C (suc (suc o)) 0 ≡ b → get_or C (suc (suc (suc o))) 0 ≡ c
      → Leads T o (decode w a b c) → o + width w ≡ m → Seg C o m
  one o w m a b c p q r s l e =
      record { index = 1; leading = (subst (Leads T o) (sym (fetch_is o w a b c p q r s)) l, ap (λ x. o + width x) p ∙ e) }

  join : (o m n : ℕ) → Seg C o m → Seg C m n → Seg C o n
  join o m n s t = go s.index o s.leading
    where
      go : (k x : ℕ) → Leading C T x k m → Seg C x n
      go zero x e = subst (λ y. Seg C y n) (sym e) t
      go (suc k) x l = let r = go k (x + width (get_or C x 0)) l.1 in record { index = suc r.index; leading = (l.0, r.leading) }

  none' : (o m : ℕ) → o ≡ m → Seg C o m
  none' o m e = record { index = 0; leading = e }

  move_s : (o a b : ℕ) → a ≡ b → Seg C o a → Seg C o b
  move_s o a b e s = subst (Seg C o) e s

  move_b : (a b : ℕ) → a ≡ b → T a → T b
  move_b a b e s = subst T e s

  -- A goto, an ASK or SELECT with the goto behind it.
  jump : (o m : ℕ) (x : Stat) (l : List ℕ) → Has C o (goto x ++ l) → OrNone T (place_of x) → o + 3 ≡ m → Seg C o m
  jump o m x l h t e = one o op.Leave m (place_of x) (depth_of x) _ h.0 h.1.0 h.1.1.0 refl t e

  asks : (o n y z : ℕ) (x : Stat) (l : List ℕ) → Has C o (op.Ask ∷ n ∷ y ∷ z ∷ goto x ++ l) → T y → T z → OrNone T (place_of x) → Seg C o (o + 7)
  asks o n y z x l h u v t =
      join o (suc (suc (suc (suc o)))) (o + 7) (one o op.Ask (suc (suc (suc (suc o)))) n y z h.0 h.1.0 h.1.1.0 h.1.1.1.0 (u, v) (omega arith))
      (jump (suc (suc (suc (suc o)))) (o + 7) x l h.1.1.1.1 t (omega arith))

  -- Where completions lead.
  abbrev Env : (Comp → Stat) → Type 0
  Env ρ = (c : Comp) → OrNone T (place_of (ρ c))

  env_next : (ρ : Comp → Stat) (x : Stat) → Env ρ → OrNone T (place_of x) → Env (next ρ x)
  env_next ρ x e t normal = t
  env_next ρ x e t (breaks l) = e (breaks l)
  env_next ρ x e t (continues l) = e (continues l)
  env_next ρ x e t returns = e returns
  env_next ρ x e t throws = e throws
  env_next ρ x e t spent = e spent

  env_try : (ρ : Comp → Stat) (t δ : ℕ) → Env ρ → T t → Env (in_try ρ t δ)
  env_try ρ t δ e b normal = e normal
  env_try ρ t δ e b (breaks l) = e (breaks l)
  env_try ρ t δ e b (continues l) = e (continues l)
  env_try ρ t δ e b returns = e returns
  env_try ρ t δ e b throws = inr b
  env_try ρ t δ e b spent = e spent

  env_loop : (ls : List ℕ) (m δ : ℕ) (ρ : Comp → Stat) → Env ρ → T m → Env (in_loop ls m δ ρ)
  env_loop ls m δ ρ e b c = go (loop_continues ls c)
    where
      go : (x : Bool) → OrNone T (place_of (pick x (at m δ) (ρ (no_break c))))
      go true = inr b
      go false = e (no_break c)

  pick_t : (b : Bool) (x y : ℕ) → T x → T y → T (pick b x y)
  pick_t true x y u v = u
  pick_t false x y u v = v

  first_t : (ss : Stmts) (o δ : ℕ) (ρ : Comp → Stat) → Has C o (codes ss o δ ρ) → Path C o → Env ρ → OrNone T (place_of (first ss o δ ρ))
  unfolding code
  first_t nil o δ ρ h p e = e normal
  first_t (cons s ss) o δ ρ h p e =
      inr (begin C s [] o δ (next ρ (first ss (o + size s) δ ρ)) (has_left C o (code s [] o δ (next ρ (first ss (o + size s) δ ρ))) (codes ss (o + size s) δ ρ) h) p)

  through_t : (cs : Cases) (o δ : ℕ) (ρ : Comp → Stat) → Has C o (code_cases cs o δ ρ) → Path C o → Env ρ → OrNone T (place_of (through cs o δ ρ))
  unfolding code
  through_t none o δ ρ h p e = e normal
  through_t (case d ss cs) o δ ρ h p e = inr (begins C o op.Case p h.0 (omega arith))

  link_t : (cs : Cases) (o δ : ℕ) (ρ : Comp → Stat) → Has C o (code_cases cs o δ ρ) → Path C o → OrNone T (link cs o)
  unfolding code
  link_t none o δ ρ h p = inl refl
  link_t (case d ss cs) o δ ρ h p = inr (begins C o op.Case p h.0 (omega arith))

  -- The cases behind the first.
  module _ (d : Bool) (ss : Stmts) (cs : Cases) (o δ : ℕ) (ρ : Comp → Stat) (h : Has C o (code_cases (case d ss cs) o δ ρ)) (p : Path C o) where
    ρ' : Comp → Stat
    ρ' = next ρ (through cs (o + 4 + sizes ss) δ ρ)

    has_body : Has C (o + 4) (codes ss (o + 4) δ ρ')
    unfolding code ρ'
    has_body =
        has_left C (o + 4) (codes ss (o + 4) δ ρ') (code_cases cs (o + 4 + sizes ss) δ ρ)
        (move_h C (suc (suc (suc (suc o)))) (o + 4) (codes ss (o + 4) δ ρ' ++ code_cases cs (o + 4 + sizes ss) δ ρ) (omega arith) h.1.1.1.1)

    has_next : Has C (o + 4 + sizes ss) (code_cases cs (o + 4 + sizes ss) δ ρ)
    unfolding code ρ'
    has_next =
        has_right C (o + 4) (codes ss (o + 4) δ ρ') (code_cases cs (o + 4 + sizes ss) δ ρ) (o + 4 + sizes ss) (omega (arith, codes_length ss (o + 4) δ ρ'))
        (move_h C (suc (suc (suc (suc o)))) (o + 4) (codes ss (o + 4) δ ρ' ++ code_cases cs (o + 4 + sizes ss) δ ρ) (omega arith) h.1.1.1.1)

    path_body : Path C (o + 4)
    unfolding code
    path_body = hop C o op.Case (o + 4) h.0 (omega arith) p

    path_next : Path C (o + 4 + sizes ss)
    path_next = walks C ss (o + 4) δ ρ' has_body path_body

  place_t : (cs : Cases) (o δ : ℕ) (ρ : Comp → Stat) → Has C o (code_cases cs o δ ρ) → Path C o → (z : ℕ) → T z → (i : ℕ) → T (place cs o z i)
  unfolding code place
  place_t none o δ ρ h p z b i = b
  place_t (case d ss cs) o δ ρ h p z b zero = begins C o op.Case p h.0 (omega arith)
  place_t (case d ss cs) o δ ρ h p z b (suc i) =
      place_t cs (o + 4 + sizes ss) δ ρ (has_next d ss cs o δ ρ h p) (path_next d ss cs o δ ρ h p) z b i

  mutual
    unfolding code size

    sound : (s : Stmt) (ls : List ℕ) (o δ : ℕ) (ρ : Comp → Stat) → Has C o (code s ls o δ ρ) → Path C o → Env ρ → Seg C o (o + size s)
    sound (leaf n l) ls o δ ρ h p e =
        join o (suc (suc o)) (o + 5)
        (one o op.List (suc (suc o)) n _ _ h.0 h.1.0 refl refl
        (move_b (suc (suc o)) (o + 2) (omega arith) (begins C (suc (suc o)) op.Leave (hop C o op.List (suc (suc o)) h.0 (omega arith) p) h.1.1.0 (omega arith))) (omega arith))
        (jump (suc (suc o)) (o + 5) (ρ (comp_of l)) [] h.1.1 (e (comp_of l)) (omega arith))
    sound (if1 n s) ls o δ ρ h p e =
        move_s o (o + 7 + size s) (o + (7 + size s)) (omega arith)
        (join o (o + 7) (o + 7 + size s)
        (asks o n (o + 7) (o + 4) (ρ normal) (code s [] (o + 7) δ ρ) h (begin C s [] (o + 7) δ ρ hb p7)
        (move_b (suc (suc (suc (suc o)))) (o + 4) (omega arith)
        (begins C (suc (suc (suc (suc o)))) op.Leave (hop C o op.Ask (suc (suc (suc (suc o)))) h.0 (omega arith) p) h.1.1.1.1.0 (omega arith))) (e normal))
        (sound s [] (o + 7) δ ρ hb p7 e))
      where
        hb : Has C (o + 7) (code s [] (o + 7) δ ρ)
        hb = move_h C (suc (suc (suc (suc (suc (suc (suc o))))))) (o + 7) (code s [] (o + 7) δ ρ) (omega arith) h.1.1.1.1.1.1.1

        p7 : Path C (o + 7)
        p7 = seven C o op.Ask h.0 refl h.1.1.1.1.0 p
    sound (if2 n s t) ls o δ ρ h p e =
        move_s o (o + 7 + size s + size t) (o + (7 + size s + size t)) (omega arith)
        (join o (o + 7) (o + 7 + size s + size t)
        (asks o n (o + 7) (o + 7 + size s) (ρ normal) (code s [] (o + 7) δ ρ ++ code t [] (o + 7 + size s) δ ρ) h (begin C s [] (o + 7) δ ρ hs p7)
        (begin C t [] (o + 7 + size s) δ ρ ht pt) (e normal))
        (join (o + 7) (o + 7 + size s) (o + 7 + size s + size t) (sound s [] (o + 7) δ ρ hs p7 e) (sound t [] (o + 7 + size s) δ ρ ht pt e)))
      where
        hb : Has C (o + 7) (code s [] (o + 7) δ ρ ++ code t [] (o + 7 + size s) δ ρ)
        hb =
            move_h C (suc (suc (suc (suc (suc (suc (suc o))))))) (o + 7) (code s [] (o + 7) δ ρ ++ code t [] (o + 7 + size s) δ ρ) (omega arith)
            h.1.1.1.1.1.1.1

        hs : Has C (o + 7) (code s [] (o + 7) δ ρ)
        hs = has_left C (o + 7) (code s [] (o + 7) δ ρ) (code t [] (o + 7 + size s) δ ρ) hb

        ht : Has C (o + 7 + size s) (code t [] (o + 7 + size s) δ ρ)
        ht = has_right C (o + 7) (code s [] (o + 7) δ ρ) (code t [] (o + 7 + size s) δ ρ) (o + 7 + size s) (omega (arith, code_length s [] (o + 7) δ ρ)) hb

        p7 : Path C (o + 7)
        p7 = seven C o op.Ask h.0 refl h.1.1.1.1.0 p

        pt : Path C (o + 7 + size s)
        pt = walk C s [] (o + 7) δ ρ hs p7
    sound (if3 n t s) ls o δ ρ h p e =
        move_s o (o + 7 + size t + size s) (o + (7 + size t + size s)) (omega arith)
        (join o (o + 7) (o + 7 + size t + size s)
        (asks o n (o + 7 + size t) (o + 7) (ρ normal) (code t [] (o + 7) δ ρ ++ code s [] (o + 7 + size t) δ ρ) h (begin C s [] (o + 7 + size t) δ ρ hs ps)
        (begin C t [] (o + 7) δ ρ ht p7) (e normal))
        (join (o + 7) (o + 7 + size t) (o + 7 + size t + size s) (sound t [] (o + 7) δ ρ ht p7 e) (sound s [] (o + 7 + size t) δ ρ hs ps e)))
      where
        hb : Has C (o + 7) (code t [] (o + 7) δ ρ ++ code s [] (o + 7 + size t) δ ρ)
        hb =
            move_h C (suc (suc (suc (suc (suc (suc (suc o))))))) (o + 7) (code t [] (o + 7) δ ρ ++ code s [] (o + 7 + size t) δ ρ) (omega arith)
            h.1.1.1.1.1.1.1

        ht : Has C (o + 7) (code t [] (o + 7) δ ρ)
        ht = has_left C (o + 7) (code t [] (o + 7) δ ρ) (code s [] (o + 7 + size t) δ ρ) hb

        hs : Has C (o + 7 + size t) (code s [] (o + 7 + size t) δ ρ)
        hs = has_right C (o + 7) (code t [] (o + 7) δ ρ) (code s [] (o + 7 + size t) δ ρ) (o + 7 + size t) (omega (arith, code_length t [] (o + 7) δ ρ)) hb

        p7 : Path C (o + 7)
        p7 = seven C o op.Ask h.0 refl h.1.1.1.1.0 p

        ps : Path C (o + 7 + size t)
        ps = walk C t [] (o + 7) δ ρ ht p7
    sound (withs n s) ls o δ ρ h p e =
        move_s o (o + 2 + size s) (o + (2 + size s)) (omega arith)
        (join o (o + 2) (o + 2 + size s) (one o op.List (o + 2) n _ _ h.0 h.1.0 refl refl (begin C s [] (o + 2) δ ρ hs p2) (omega arith)) (sound s [] (o + 2) δ ρ hs p2 e))
      where
        hs : Has C (o + 2) (code s [] (o + 2) δ ρ)
        hs = move_h C (suc (suc o)) (o + 2) (code s [] (o + 2) δ ρ) (omega arith) h.1.1

        p2 : Path C (o + 2)
        p2 = hop C o op.List (o + 2) h.0 (omega arith) p
    sound (block ss) ls o δ ρ h p e =
        move_s o (o + 3 + sizes ss) (o + (3 + sizes ss)) (omega arith)
        (join o (o + 3) (o + 3 + sizes ss) (jump o (o + 3) (first ss (o + 3) δ ρ) (codes ss (o + 3) δ ρ) h (first_t ss (o + 3) δ ρ hs p3 e) refl) (sounds ss (o + 3) δ ρ hs p3 e))
      where
        hs : Has C (o + 3) (codes ss (o + 3) δ ρ)
        hs = move_h C (suc (suc (suc o))) (o + 3) (codes ss (o + 3) δ ρ) (omega arith) h.1.1.1

        p3 : Path C (o + 3)
        p3 = hop C o op.Leave (o + 3) h.0 (omega arith) p
    sound (label l s) ls o δ ρ h p e = sound s (l ∷ ls) o δ (λ c. ρ (no_label l c)) h p (λ c. e (no_label l c))
    sound (loop n before test s) ls o δ ρ h p e =
        move_s o (o + 10 + size s) (o + (10 + size s)) (omega arith)
        (join o (suc (suc (suc o))) (o + 10 + size s)
        (one o op.Leave (suc (suc (suc o))) (pick before (o + 3) (o + 10)) δ _ h.0 h.1.0 h.1.1.0 refl (inr (pick_t before (o + 3) (o + 10) b3 b10)) (omega arith))
        (join (suc (suc (suc o))) (o + 10) (o + 10 + size s)
        (move_s (suc (suc (suc o))) (suc (suc (suc o)) + 7) (o + 10) (omega arith)
        (asks (suc (suc (suc o))) n (o + 10) (pick test (o + 7) (o + 10)) (ρ normal) (code s [] (o + 10) δ (in_loop ls (o + 3) δ ρ)) h.1.1.1 b10 (pick_t test (o + 7) (o + 10) b7 b10) (e normal)))
        (sound s [] (o + 10) δ (in_loop ls (o + 3) δ ρ) hs p10 (env_loop ls (o + 3) δ ρ e b3))))
      where
        hs : Has C (o + 10) (code s [] (o + 10) δ (in_loop ls (o + 3) δ ρ))
        hs =
            move_h C (suc (suc (suc (suc (suc (suc (suc (suc (suc (suc o)))))))))) (o + 10) (code s [] (o + 10) δ (in_loop ls (o + 3) δ ρ)) (omega arith)
            h.1.1.1.1.1.1.1.1.1.1

        p3 : Path C (suc (suc (suc o)))
        p3 = hop C o op.Leave (suc (suc (suc o))) h.0 (omega arith) p

        p7 : Path C (suc (suc (suc (suc (suc (suc (suc o)))))))
        p7 = hop C (suc (suc (suc o))) op.Ask (suc (suc (suc (suc (suc (suc (suc o))))))) h.1.1.1.0 (omega arith) p3

        p10 : Path C (o + 10)
        p10 = hop C (suc (suc (suc (suc (suc (suc (suc o))))))) op.Leave (o + 10) h.1.1.1.1.1.1.1.0 (omega arith) p7

        b3 : T (o + 3)
        b3 = move_b (suc (suc (suc o))) (o + 3) (omega arith) (begins C (suc (suc (suc o))) op.Ask p3 h.1.1.1.0 (omega arith))

        b7 : T (o + 7)
        b7 =
            move_b (suc (suc (suc (suc (suc (suc (suc o))))))) (o + 7) (omega arith)
            (begins C (suc (suc (suc (suc (suc (suc (suc o))))))) op.Leave p7 h.1.1.1.1.1.1.1.0 (omega arith))

        b10 : T (o + 10)
        b10 = begin C s [] (o + 10) δ (in_loop ls (o + 3) δ ρ) hs p10
    sound (switch n cs) ls o δ ρ h p e =
        move_s o (o + 7 + size_cases cs) (o + (7 + size_cases cs)) (omega arith)
        (join o (suc (suc (suc (suc o)))) (o + 7 + size_cases cs)
        (one o op.Select (suc (suc (suc (suc o)))) n (link cs (o + 7)) (place cs (o + 7) (o + 4) (default_at cs)) h.0 h.1.0 h.1.1.0 h.1.1.1.0
        (link_t cs (o + 7) δ ρ₁ hs p7, place_t cs (o + 7) δ ρ₁ hs p7 (o + 4) b4 (default_at cs)) (omega arith))
        (join (suc (suc (suc (suc o)))) (o + 7) (o + 7 + size_cases cs)
        (jump (suc (suc (suc (suc o)))) (o + 7) (ρ normal) (code_cases cs (o + 7) δ ρ₁) h.1.1.1.1 (e normal) (omega arith))
        (sound_cases cs (o + 7) δ ρ₁ hs p7 (λ c. e (no_break c)))))
      where
        ρ₁ : Comp → Stat
        ρ₁ = λ c. ρ (no_break c)

        hs : Has C (o + 7) (code_cases cs (o + 7) δ ρ₁)
        hs = move_h C (suc (suc (suc (suc (suc (suc (suc o))))))) (o + 7) (code_cases cs (o + 7) δ ρ₁) (omega arith) h.1.1.1.1.1.1.1

        p7 : Path C (o + 7)
        p7 = seven C o op.Select h.0 refl h.1.1.1.1.0 p

        b4 : T (o + 4)
        b4 =
            move_b (suc (suc (suc (suc o)))) (o + 4) (omega arith)
            (begins C (suc (suc (suc (suc o)))) op.Leave (hop C o op.Select (suc (suc (suc (suc o)))) h.0 (omega arith) p) h.1.1.1.1.0 (omega arith))
    sound (try_c b c) ls o δ ρ h p e =
        move_s o (o + size b + size c) (o + (size b + size c)) (omega arith)
        (join o (o + size b) (o + size b + size c) (sound b [] o δ (in_try ρ (o + size b) δ) hl p (env_try ρ (o + size b) δ e (begin C c [] (o + size b) δ ρ hr pr)))
        (sound c [] (o + size b) δ ρ hr pr e))
      where
        hl : Has C o (code b [] o δ (in_try ρ (o + size b) δ))
        hl = has_left C o (code b [] o δ (in_try ρ (o + size b) δ)) (code c [] (o + size b) δ ρ) h

        hr : Has C (o + size b) (code c [] (o + size b) δ ρ)
        hr = has_right C o (code b [] o δ (in_try ρ (o + size b) δ)) (code c [] (o + size b) δ ρ) (o + size b) (omega (arith, code_length b [] o δ (in_try ρ (o + size b) δ))) h

        pr : Path C (o + size b)
        pr = walk C b [] o δ (in_try ρ (o + size b) δ) hl p
    sound (try_f b f) ls o δ ρ h p e =
        move_s o (o + 2 + size b + size f) (o + (2 + size b + size f)) (omega arith)
        (join o (o + 2) (o + 2 + size b + size f)
        (one o op.Open (o + 2) (o + 2 + size b) _ _ h.0 h.1.0 refl refl
        (begin C b [] (o + 2) (suc δ) ρ hl p2, begin C f [] (o + 2 + size b) (suc δ) (next ρ (at 0 (suc δ))) hr pr) (omega arith))
        (join (o + 2) (o + 2 + size b) (o + 2 + size b + size f) (sound b [] (o + 2) (suc δ) ρ hl p2 e)
        (sound f [] (o + 2 + size b) (suc δ) (next ρ (at 0 (suc δ))) hr pr (env_next ρ (at 0 (suc δ)) e (inl refl)))))
      where
        hb : Has C (o + 2) (code b [] (o + 2) (suc δ) ρ ++ code f [] (o + 2 + size b) (suc δ) (next ρ (at 0 (suc δ))))
        hb =
            move_h C (suc (suc o)) (o + 2) (code b [] (o + 2) (suc δ) ρ ++ code f [] (o + 2 + size b) (suc δ) (next ρ (at 0 (suc δ)))) (omega arith) h.1.1

        hl : Has C (o + 2) (code b [] (o + 2) (suc δ) ρ)
        hl = has_left C (o + 2) (code b [] (o + 2) (suc δ) ρ) (code f [] (o + 2 + size b) (suc δ) (next ρ (at 0 (suc δ)))) hb

        hr : Has C (o + 2 + size b) (code f [] (o + 2 + size b) (suc δ) (next ρ (at 0 (suc δ))))
        hr =
            has_right C (o + 2) (code b [] (o + 2) (suc δ) ρ) (code f [] (o + 2 + size b) (suc δ) (next ρ (at 0 (suc δ)))) (o + 2 + size b)
            (omega (arith, code_length b [] (o + 2) (suc δ) ρ)) hb

        p2 : Path C (o + 2)
        p2 = hop C o op.Open (o + 2) h.0 (omega arith) p

        pr : Path C (o + 2 + size b)
        pr = walk C b [] (o + 2) (suc δ) ρ hl p2

    sounds : (ss : Stmts) (o δ : ℕ) (ρ : Comp → Stat) → Has C o (codes ss o δ ρ) → Path C o → Env ρ → Seg C o (o + sizes ss)
    sounds nil o δ ρ h p e = none' o (o + 0) (omega arith)
    sounds (cons s ss) o δ ρ h p e =
        move_s o (o + size s + sizes ss) (o + (size s + sizes ss)) (omega arith)
        (join o (o + size s) (o + size s + sizes ss)
        (sound s [] o δ (next ρ (first ss (o + size s) δ ρ)) hl p (env_next ρ (first ss (o + size s) δ ρ) e (first_t ss (o + size s) δ ρ hr pr e)))
        (sounds ss (o + size s) δ ρ hr pr e))
      where
        hl : Has C o (code s [] o δ (next ρ (first ss (o + size s) δ ρ)))
        hl = has_left C o (code s [] o δ (next ρ (first ss (o + size s) δ ρ))) (codes ss (o + size s) δ ρ) h

        hr : Has C (o + size s) (codes ss (o + size s) δ ρ)
        hr =
            has_right C o (code s [] o δ (next ρ (first ss (o + size s) δ ρ))) (codes ss (o + size s) δ ρ) (o + size s)
            (omega (arith, code_length s [] o δ (next ρ (first ss (o + size s) δ ρ)))) h

        pr : Path C (o + size s)
        pr = walk C s [] o δ (next ρ (first ss (o + size s) δ ρ)) hl p

    sound_cases : (cs : Cases) (o δ : ℕ) (ρ : Comp → Stat) → Has C o (code_cases cs o δ ρ) → Path C o → Env ρ → Seg C o (o + size_cases cs)
    sound_cases none o δ ρ h p e = none' o (o + 0) (omega arith)
    sound_cases (case d ss cs) o δ ρ h p e =
        move_s o (o + 4 + sizes ss + size_cases cs) (o + (4 + sizes ss + size_cases cs)) (omega arith)
        (join o (o + 4) (o + 4 + sizes ss + size_cases cs)
        (one o op.Case (o + 4) (link cs (o + 4 + sizes ss)) (place_of x) (depth_of x) h.0 h.1.0 h.1.1.0 h.1.1.1.0
        (link_t cs (o + 4 + sizes ss) δ ρ hr pr, first_t ss (o + 4) δ ρ₁ hl p4 e₁) refl)
        (join (o + 4) (o + 4 + sizes ss) (o + 4 + sizes ss + size_cases cs) (sounds ss (o + 4) δ ρ₁ hl p4 e₁) (sound_cases cs (o + 4 + sizes ss) δ ρ hr pr e)))
      where
        ρ₁ : Comp → Stat
        ρ₁ = next ρ (through cs (o + 4 + sizes ss) δ ρ)

        x : Stat
        x = first ss (o + 4) δ ρ₁

        hb : Has C (o + 4) (codes ss (o + 4) δ ρ₁ ++ code_cases cs (o + 4 + sizes ss) δ ρ)
        hb = move_h C (suc (suc (suc (suc o)))) (o + 4) (codes ss (o + 4) δ ρ₁ ++ code_cases cs (o + 4 + sizes ss) δ ρ) (omega arith) h.1.1.1.1

        hl : Has C (o + 4) (codes ss (o + 4) δ ρ₁)
        hl = has_left C (o + 4) (codes ss (o + 4) δ ρ₁) (code_cases cs (o + 4 + sizes ss) δ ρ) hb

        hr : Has C (o + 4 + sizes ss) (code_cases cs (o + 4 + sizes ss) δ ρ)
        hr = has_right C (o + 4) (codes ss (o + 4) δ ρ₁) (code_cases cs (o + 4 + sizes ss) δ ρ) (o + 4 + sizes ss) (omega (arith, codes_length ss (o + 4) δ ρ₁)) hb

        p4 : Path C (o + 4)
        p4 = hop C o op.Case (o + 4) h.0 (omega arith) p

        pr : Path C (o + 4 + sizes ss)
        pr = walks C ss (o + 4) δ ρ₁ hl p4

        e₁ : Env ρ₁
        e₁ = env_next ρ (through cs (o + 4 + sizes ss) δ ρ) e (through_t cs (o + 4 + sizes ss) δ ρ hr pr e)

  -- Every instruction that the start leads to, up to the end of the code, is one of them.
  none_there_lem : (o k : ℕ) → length C ≤ o → offset C o k ≡ o
  none_there_lem o zero h = refl
  none_there_lem o (suc k) h =
      let e : o + width (get_or C o 0) ≡ o = ap (λ w. o + width w) (get_or-eq_default C 0 h) ∙ omega arith in
      ap (λ x. offset C x k) e ∙ none_there_lem o k h

  leads_at : (k j o x : ℕ) → Leading C T o k (length C) → offset C o j ≡ x → 0 < width (get_or C x 0) → Leads T x (fetch C x)
  leads_at zero j o x l e s =
      absurd (go (sym e ∙ none_there_lem o j (omega (arith, l))))
    where
      go : x ≡ o → ⊥
      go q =
          let z : get_or C x 0 ≡ 0 = get_or-eq_default C 0 (omega (arith, q, l)) in
          absurd (omega (arith, s, ap width z))
  leads_at (suc k) zero o x l e s = subst (λ y. Leads T y (fetch C y)) e l.0
  leads_at (suc k) (suc j) o x l e s = leads_at k j (o + width (get_or C o 0)) x l.1 e s

-- The unit.
pub unit_leads : (ss : Stmts) (x : ℕ) → Begins (unit ss) x → Leads (Begins (unit ss)) x (fetch (unit ss) x)
unfolding unit
unit_leads ss x b = leads_at C seg.index b.index 0 x seg.leading b.place b.some
  where
    C : List ℕ
    C = unit ss

    m : ℕ
    m = sizes ss

    h : Has C 0 (codes ss 0 0 (top m) ++ ends)
    h = has_self C

    hl : Has C 0 (codes ss 0 0 (top m))
    hl = has_left C 0 (codes ss 0 0 (top m)) ends h

    hr : Has C m ends
    hr = has_right C 0 (codes ss 0 0 (top m)) ends m (omega (arith, codes_length ss 0 0 (top m))) h

    p0 : Path C 0
    p0 = record { index = 0; place = refl }

    pm : Path C m
    pm = move_p C (0 + m) m (omega arith) (walks C ss 0 0 (top m) hl p0)

    p2 : Path C (suc (suc m))
    p2 = hop C m op.End (suc (suc m)) hr.0 (omega arith) pm

    p4 : Path C (suc (suc (suc (suc m))))
    p4 = hop C (suc (suc m)) op.End (suc (suc (suc (suc m)))) hr.1.1.0 (omega arith) p2

    p6 : Path C (suc (suc (suc (suc (suc (suc m))))))
    p6 = hop C (suc (suc (suc (suc m)))) op.End (suc (suc (suc (suc (suc (suc m)))))) hr.1.1.1.1.0 (omega arith) p4

    env : Env C (top m)
    env normal = inr (begins C m op.End pm hr.0 (omega arith))
    env (breaks l) = inr (move_b C (suc (suc (suc (suc (suc (suc m)))))) (m + 6) (omega arith) (begins C (suc (suc (suc (suc (suc (suc m)))))) op.End p6 hr.1.1.1.1.1.1.0 (omega arith)))
    env (continues l) = inr (move_b C (suc (suc (suc (suc (suc (suc m)))))) (m + 6) (omega arith) (begins C (suc (suc (suc (suc (suc (suc m)))))) op.End p6 hr.1.1.1.1.1.1.0 (omega arith)))
    env returns = inr (move_b C (suc (suc m)) (m + 2) (omega arith) (begins C (suc (suc m)) op.End p2 hr.1.1.0 (omega arith)))
    env throws = inr (move_b C (suc (suc (suc (suc m)))) (m + 4) (omega arith) (begins C (suc (suc (suc (suc m)))) op.End p4 hr.1.1.1.1.0 (omega arith)))
    env spent = inl refl

    end : (o k : ℕ) → get_or C o 0 ≡ 6 → o + 2 ≡ k → Seg C o k
    end o k e q = one C o op.End k _ _ _ e refl refl refl tt q

    seg : Seg C 0 (length C)
    seg =
        join C 0 m (length C) (move_s C 0 (0 + m) m (omega arith) (sounds C ss 0 0 (top m) hl p0 env))
        (join C m (suc (suc m)) (length C) (end m (suc (suc m)) hr.0 (omega arith))
        (join C (suc (suc m)) (suc (suc (suc (suc m)))) (length C) (end (suc (suc m)) (suc (suc (suc (suc m)))) hr.1.1.0 (omega arith))
        (join C (suc (suc (suc (suc m)))) (suc (suc (suc (suc (suc (suc m)))))) (length C)
        (end (suc (suc (suc (suc m)))) (suc (suc (suc (suc (suc (suc m)))))) hr.1.1.1.1.0 (omega arith))
        (end (suc (suc (suc (suc (suc (suc m)))))) (length C) hr.1.1.1.1.1.1.0 (omega (arith, unit_length ss))))))

-- An instruction begins at its start.
pub unit_begins : (ss : Stmts) → Begins (unit ss) 0
unfolding unit code
unit_begins nil = begins (unit nil) 0 6 (record { index = 0; place = refl }) refl (omega arith)
unit_begins (cons s ss) =
    begin C s [] 0 0 ρ (has_left C 0 (code s [] 0 0 ρ) (codes ss (0 + size s) 0 (top m)) (has_left C 0 (code s [] 0 0 ρ ++ codes ss (0 + size s) 0 (top m)) ends (has_self C)))
    (record { index = 0; place = refl })
  where
    C : List ℕ
    C = unit (cons s ss)

    m : ℕ
    m = sizes (cons s ss)

    ρ : Comp → Stat
    ρ = next (top m) (first ss (0 + size s) 0 (top m))
