-- The code of a statement is made of whole instructions.
use Rattle.std.specs.Prelude.{ℕ, zero, suc, ◌+◌, ◌<◌, ◌≡◌, refl, get_or}
use Rattle.std.proofs.Common.{sym, ◌∙◌, ap, subst, arith}
use mathlib.Core.List.{List, [], ◌∷◌, ◌++◌}
use Rattle.route_completion.specs.Tree.{Stmt, Stmts, Cases, leaf, if1, if2, if3, withs, block, label, loop, switch, try_c, try_f, nil, cons, none, case}
use Rattle.route_completion.specs.Sem.{Comp, no_break, no_label}
use Rattle.code_flat.specs.Opcodes as op
use Rattle.code_flat.specs.Code.{Stat, at, next, in_try, in_loop, first, through, size, sizes, size_cases, code, codes, code_cases}
use Rattle.code_flat.proofs.Size.{code_length, codes_length}
use Rattle.code_flat.proofs.Correct.{has_left, has_right}
use Rattle.code_flat.specs.Has.{Has}
use Rattle.code_marks.specs.Begins.{width, offset, Begins}

-- From instruction to instruction the start of the code leads to x.
pub record Path (C : List ℕ) (x : ℕ) : Type 0 where
  pub index : ℕ
  pub place : offset C 0 index ≡ x

module _ (C : List ℕ) where
  offset_next : (o k : ℕ) → offset C o (suc k) ≡ offset C o k + width (get_or C (offset C o k) 0)
  offset_next o zero = refl
  offset_next o (suc k) = offset_next (o + width (get_or C o 0)) k

  pub hop : (o w m : ℕ) → get_or C o 0 ≡ w → o + width w ≡ m → Path C o → Path C m
  hop o w m e f p =
      record {
        index = suc p.index;
        place = offset_next 0 p.index ∙ ap (λ x. x + width (get_or C x 0)) p.place ∙ ap (λ y. o + width y) e ∙ f;
      }

  pub move_p : (a b : ℕ) → a ≡ b → Path C a → Path C b
  move_p a b e p = subst (Path C) e p

  pub move_h : (a b : ℕ) (l : List ℕ) → a ≡ b → Has C a l → Has C b l
  move_h a b l e h = subst (λ x. Has C x l) e h

  some : (o w : ℕ) → get_or C o 0 ≡ w → 0 < width w → 0 < width (get_or C o 0)
  some o w e h = subst (λ x. 0 < width x) (sym e) h

  pub begins : (o w : ℕ) → Path C o → get_or C o 0 ≡ w → 0 < width w → Begins C o
  begins o w p e h = record { index = p.index; place = p.place; some = some o w e h }

  -- An ASK or a SELECT, and the goto behind it.
  pub seven : (o w : ℕ) → get_or C o 0 ≡ w → width w ≡ 4 → get_or C (suc (suc (suc (suc o)))) 0 ≡ op.Leave → Path C o → Path C (o + 7)
  seven o w e f g p = hop (suc (suc (suc (suc o)))) op.Leave (o + 7) g (omega arith) (hop o w (suc (suc (suc (suc o)))) e (omega arith) p)

  -- Behind the code of a statement the next instruction begins.
  mutual
    unfolding code size

    pub walk : (s : Stmt) (ls : List ℕ) (o δ : ℕ) (ρ : Comp → Stat) → Has C o (code s ls o δ ρ) → Path C o → Path C (o + size s)
    walk (leaf n l) ls o δ ρ h p = hop (suc (suc o)) op.Leave (o + 5) h.1.1.0 (omega arith) (hop o op.List (suc (suc o)) h.0 (omega arith) p)
    walk (if1 n s) ls o δ ρ h p =
        move_p (o + 7 + size s) (o + (7 + size s)) (omega arith)
        (walk s [] (o + 7) δ ρ (move_h (suc (suc (suc (suc (suc (suc (suc o))))))) (o + 7) (code s [] (o + 7) δ ρ) (omega arith) h.1.1.1.1.1.1.1)
        (seven o op.Ask h.0 refl h.1.1.1.1.0 p))
    walk (if2 n s t) ls o δ ρ h p =
        move_p (o + 7 + size s + size t) (o + (7 + size s + size t)) (omega arith)
        (walk t [] (o + 7 + size s) δ ρ
        (has_right C (o + 7) (code s [] (o + 7) δ ρ) (code t [] (o + 7 + size s) δ ρ) (o + 7 + size s) (omega (arith, code_length s [] (o + 7) δ ρ)) hb)
        (walk s [] (o + 7) δ ρ (has_left C (o + 7) (code s [] (o + 7) δ ρ) (code t [] (o + 7 + size s) δ ρ) hb) (seven o op.Ask h.0 refl h.1.1.1.1.0 p)))
      where
        hb : Has C (o + 7) (code s [] (o + 7) δ ρ ++ code t [] (o + 7 + size s) δ ρ)
        hb =
            move_h (suc (suc (suc (suc (suc (suc (suc o))))))) (o + 7) (code s [] (o + 7) δ ρ ++ code t [] (o + 7 + size s) δ ρ) (omega arith)
            h.1.1.1.1.1.1.1
    walk (if3 n t s) ls o δ ρ h p =
        move_p (o + 7 + size t + size s) (o + (7 + size t + size s)) (omega arith)
        (walk s [] (o + 7 + size t) δ ρ
        (has_right C (o + 7) (code t [] (o + 7) δ ρ) (code s [] (o + 7 + size t) δ ρ) (o + 7 + size t) (omega (arith, code_length t [] (o + 7) δ ρ)) hb)
        (walk t [] (o + 7) δ ρ (has_left C (o + 7) (code t [] (o + 7) δ ρ) (code s [] (o + 7 + size t) δ ρ) hb) (seven o op.Ask h.0 refl h.1.1.1.1.0 p)))
      where
        hb : Has C (o + 7) (code t [] (o + 7) δ ρ ++ code s [] (o + 7 + size t) δ ρ)
        hb =
            move_h (suc (suc (suc (suc (suc (suc (suc o))))))) (o + 7) (code t [] (o + 7) δ ρ ++ code s [] (o + 7 + size t) δ ρ) (omega arith)
            h.1.1.1.1.1.1.1
    walk (withs n s) ls o δ ρ h p =
        move_p (o + 2 + size s) (o + (2 + size s)) (omega arith)
        (walk s [] (o + 2) δ ρ (move_h (suc (suc o)) (o + 2) (code s [] (o + 2) δ ρ) (omega arith) h.1.1) (hop o op.List (o + 2) h.0 (omega arith) p))
    walk (block ss) ls o δ ρ h p =
        move_p (o + 3 + sizes ss) (o + (3 + sizes ss)) (omega arith)
        (walks ss (o + 3) δ ρ (move_h (suc (suc (suc o))) (o + 3) (codes ss (o + 3) δ ρ) (omega arith) h.1.1.1) (hop o op.Leave (o + 3) h.0 (omega arith) p))
    walk (label l s) ls o δ ρ h p = walk s (l ∷ ls) o δ (λ c. ρ (no_label l c)) h p
    walk (loop n before test s) ls o δ ρ h p =
        move_p (o + 10 + size s) (o + (10 + size s)) (omega arith)
        (walk s [] (o + 10) δ (in_loop ls (o + 3) δ ρ)
        (move_h (suc (suc (suc (suc (suc (suc (suc (suc (suc (suc o)))))))))) (o + 10) (code s [] (o + 10) δ (in_loop ls (o + 3) δ ρ)) (omega arith) h.1.1.1.1.1.1.1.1.1.1)
        (move_p (suc (suc (suc o)) + 7) (o + 10) (omega arith)
        (seven (suc (suc (suc o))) op.Ask h.1.1.1.0 refl h.1.1.1.1.1.1.1.0 (hop o op.Leave (suc (suc (suc o))) h.0 (omega arith) p))))
    walk (switch n cs) ls o δ ρ h p =
        move_p (o + 7 + size_cases cs) (o + (7 + size_cases cs)) (omega arith)
        (walk_cases cs (o + 7) δ (λ c. ρ (no_break c))
        (move_h (suc (suc (suc (suc (suc (suc (suc o))))))) (o + 7) (code_cases cs (o + 7) δ (λ c. ρ (no_break c))) (omega arith) h.1.1.1.1.1.1.1)
        (seven o op.Select h.0 refl h.1.1.1.1.0 p))
    walk (try_c b c) ls o δ ρ h p =
        move_p (o + size b + size c) (o + (size b + size c)) (omega arith)
        (walk c [] (o + size b) δ ρ
        (has_right C o (code b [] o δ (in_try ρ (o + size b) δ)) (code c [] (o + size b) δ ρ) (o + size b) (omega (arith, code_length b [] o δ (in_try ρ (o + size b) δ))) h)
        (walk b [] o δ (in_try ρ (o + size b) δ) (has_left C o (code b [] o δ (in_try ρ (o + size b) δ)) (code c [] (o + size b) δ ρ) h) p))
    walk (try_f b f) ls o δ ρ h p =
        move_p (o + 2 + size b + size f) (o + (2 + size b + size f)) (omega arith)
        (walk f [] (o + 2 + size b) (suc δ) (next ρ (at 0 (suc δ)))
        (has_right C (o + 2) (code b [] (o + 2) (suc δ) ρ) (code f [] (o + 2 + size b) (suc δ) (next ρ (at 0 (suc δ)))) (o + 2 + size b)
        (omega (arith, code_length b [] (o + 2) (suc δ) ρ)) hb)
        (walk b [] (o + 2) (suc δ) ρ (has_left C (o + 2) (code b [] (o + 2) (suc δ) ρ) (code f [] (o + 2 + size b) (suc δ) (next ρ (at 0 (suc δ)))) hb)
        (hop o op.Open (o + 2) h.0 (omega arith) p)))
      where
        hb : Has C (o + 2) (code b [] (o + 2) (suc δ) ρ ++ code f [] (o + 2 + size b) (suc δ) (next ρ (at 0 (suc δ))))
        hb =
            move_h (suc (suc o)) (o + 2) (code b [] (o + 2) (suc δ) ρ ++ code f [] (o + 2 + size b) (suc δ) (next ρ (at 0 (suc δ)))) (omega arith) h.1.1

    pub walks : (ss : Stmts) (o δ : ℕ) (ρ : Comp → Stat) → Has C o (codes ss o δ ρ) → Path C o → Path C (o + sizes ss)
    walks nil o δ ρ h p = move_p o (o + 0) (omega arith) p
    walks (cons s ss) o δ ρ h p =
        move_p (o + size s + sizes ss) (o + (size s + sizes ss)) (omega arith)
        (walks ss (o + size s) δ ρ
        (has_right C o (code s [] o δ (next ρ (first ss (o + size s) δ ρ))) (codes ss (o + size s) δ ρ) (o + size s)
        (omega (arith, code_length s [] o δ (next ρ (first ss (o + size s) δ ρ)))) h)
        (walk s [] o δ (next ρ (first ss (o + size s) δ ρ)) (has_left C o (code s [] o δ (next ρ (first ss (o + size s) δ ρ))) (codes ss (o + size s) δ ρ) h) p))

    pub walk_cases : (cs : Cases) (o δ : ℕ) (ρ : Comp → Stat) → Has C o (code_cases cs o δ ρ) → Path C o → Path C (o + size_cases cs)
    walk_cases none o δ ρ h p = move_p o (o + 0) (omega arith) p
    walk_cases (case d ss cs) o δ ρ h p =
        move_p (o + 4 + sizes ss + size_cases cs) (o + (4 + sizes ss + size_cases cs)) (omega arith)
        (walk_cases cs (o + 4 + sizes ss) δ ρ
        (has_right C (o + 4) (codes ss (o + 4) δ ρ') (code_cases cs (o + 4 + sizes ss) δ ρ) (o + 4 + sizes ss) (omega (arith, codes_length ss (o + 4) δ ρ')) hb)
        (walks ss (o + 4) δ ρ' (has_left C (o + 4) (codes ss (o + 4) δ ρ') (code_cases cs (o + 4 + sizes ss) δ ρ) hb) (hop o op.Case (o + 4) h.0 (omega arith) p)))
      where
        ρ' : Comp → Stat
        ρ' = next ρ (through cs (o + 4 + sizes ss) δ ρ)

        hb : Has C (o + 4) (codes ss (o + 4) δ ρ' ++ code_cases cs (o + 4 + sizes ss) δ ρ)
        hb = move_h (suc (suc (suc (suc o)))) (o + 4) (codes ss (o + 4) δ ρ' ++ code_cases cs (o + 4 + sizes ss) δ ρ) (omega arith) h.1.1.1.1

  -- An instruction begins where the code of a statement does.
  pub begin : (s : Stmt) (ls : List ℕ) (o δ : ℕ) (ρ : Comp → Stat) → Has C o (code s ls o δ ρ) → Path C o → Begins C o
  unfolding code size
  begin (leaf n l) ls o δ ρ h p = begins o op.List p h.0 (omega arith)
  begin (if1 n s) ls o δ ρ h p = begins o op.Ask p h.0 (omega arith)
  begin (if2 n s t) ls o δ ρ h p = begins o op.Ask p h.0 (omega arith)
  begin (if3 n t s) ls o δ ρ h p = begins o op.Ask p h.0 (omega arith)
  begin (withs n s) ls o δ ρ h p = begins o op.List p h.0 (omega arith)
  begin (block ss) ls o δ ρ h p = begins o op.Leave p h.0 (omega arith)
  begin (label l s) ls o δ ρ h p = begin s (l ∷ ls) o δ (λ c. ρ (no_label l c)) h p
  begin (loop n before test s) ls o δ ρ h p = begins o op.Leave p h.0 (omega arith)
  begin (switch n cs) ls o δ ρ h p = begins o op.Select p h.0 (omega arith)
  begin (try_c b c) ls o δ ρ h p = begin b [] o δ (in_try ρ (o + size b) δ) (has_left C o (code b [] o δ (in_try ρ (o + size b) δ)) (code c [] (o + size b) δ ρ) h) p
  begin (try_f b f) ls o δ ρ h p = begins o op.Open p h.0 (omega arith)
