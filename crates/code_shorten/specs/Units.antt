-- The code of every unit is valid.
use Prim.Native.Nat.{ℕ, zero, suc, ◌+◌}
use Rattle.std.specs.Prelude.{◌≡◌, Bool, false, List, [], ◌∷◌, ◌++◌, ◌⊎◌, length, eqb}
use Rattle.std.proofs.Math.Path.{refl, ap}
use Rattle.std.proofs.Common.{sym, ◌∙◌, subst, true≢false, inl, inr, arith}
use Rattle.std.proofs.Math.Bool.{true}
use Rattle.route_completion.specs.Tree.{near, named, Stmt, Stmts, Cases, Leaf, simple, brk, con, ret, thr, leaf, if1, if2, if3, withs, block, label, loop, switch, try_c, try_f, nil, cons, none, case}
use Rattle.route_completion.specs.Sem.{Comp, normal, breaks, continues, returns, throws, spent, pick, is_spent, loop_continues, no_break, no_label, default_at, comp_of}
use Rattle.code_flat.specs.Code.{Stat, at, place_of, depth_of, goto, case_to, next, in_try, in_loop, first, link, through, place, size, sizes, code, codes, code_cases, top, ends, unit}
use Rattle.code_flat.proofs.Size.{code_length, codes_length}
use Rattle.code_flat.specs.Machine.{Instr, LIST, LEAVE, ASK, SELECT, OPEN, END, CASE}
use Rattle.code_valid.specs.Instrs.{flat, begins}
use Rattle.code_valid.specs.Valid.{is_last, Valid}
use Rattle.code_shorten.specs.Longer.{total}
use Rattle.code_shorten.specs.Makes.{Yes, Fine, Holds, fine_join, flat_join, here, there, in_left, in_right, some, total_of, fine_valid}

spent_leaf : (l : Leaf) → is_spent (comp_of l) ≡ false
spent_leaf simple = refl
spent_leaf (brk l) = refl
spent_leaf (con l) = refl
spent_leaf ret = refl
spent_leaf thr = refl

spent_break : (c : Comp) → is_spent (no_break c) ≡ is_spent c
spent_break normal = refl
spent_break (breaks near) = refl
spent_break (breaks (named l)) = refl
spent_break (continues l) = refl
spent_break returns = refl
spent_break throws = refl
spent_break spent = refl

spent_label : (l : ℕ) (c : Comp) → is_spent (no_label l c) ≡ is_spent c
spent_label l normal = refl
spent_label l (breaks near) = refl
spent_label l (breaks (named m)) = go (eqb m l)
  where
    go : (b : Bool) → is_spent (pick b normal (breaks (named m))) ≡ false
    go true = refl
    go false = refl
spent_label l (continues m) = refl
spent_label l returns = refl
spent_label l throws = refl
spent_label l spent = refl

-- P holds where each completion leads, and 0.
abbrev Targets : (Comp → Stat) → (ℕ → Bool) → Type 0
Targets ρ P = Yes P 0 × ((c : Comp) → is_spent c ≡ false → Yes P (place_of (ρ c)))

targets_next : (P : ℕ → Bool) (ρ : Comp → Stat) (x : Stat) → Targets ρ P → Yes P (place_of x) → Targets (next ρ x) P
targets_next P ρ x t h = (t.0, go)
  where
    go : (c : Comp) → is_spent c ≡ false → Yes P (place_of (next ρ x c))
    go normal e = h
    go (breaks l) e = t.1 (breaks l) e
    go (continues l) e = t.1 (continues l) e
    go returns e = t.1 returns e
    go throws e = t.1 throws e
    go spent e = absurd (true≢false e)

targets_try : (P : ℕ → Bool) (ρ : Comp → Stat) (x δ : ℕ) → Targets ρ P → Yes P x → Targets (in_try ρ x δ) P
targets_try P ρ x δ t h = (t.0, go)
  where
    go : (c : Comp) → is_spent c ≡ false → Yes P (place_of (in_try ρ x δ c))
    go normal e = t.1 normal e
    go (breaks l) e = t.1 (breaks l) e
    go (continues l) e = t.1 (continues l) e
    go returns e = t.1 returns e
    go throws e = h
    go spent e = absurd (true≢false e)

targets_break : (P : ℕ → Bool) (ρ : Comp → Stat) → Targets ρ P → Targets (λ c. ρ (no_break c)) P
targets_break P ρ t = (t.0, λ c e. t.1 (no_break c) (spent_break c ∙ e))

targets_label : (P : ℕ → Bool) (ρ : Comp → Stat) (l : ℕ) → Targets ρ P → Targets (λ c. ρ (no_label l c)) P
targets_label P ρ l t = (t.0, λ c e. t.1 (no_label l c) (spent_label l c ∙ e))

targets_loop : (P : ℕ → Bool) (ls : List ℕ) (m δ : ℕ) (ρ : Comp → Stat) → Targets ρ P → Yes P m → Targets (in_loop ls m δ ρ) P
targets_loop P ls m δ ρ t h = (t.0, λ c e. go (loop_continues ls c) (ρ (no_break c)) (t.1 (no_break c) (spent_break c ∙ e)))
  where
    go : (b : Bool) (s : Stat) → Yes P (place_of s) → Yes P (place_of (pick b (at m δ) s))
    go true s q = h
    go false s q = q

yes_pick : (P : ℕ → Bool) (b : Bool) (x y : ℕ) → Yes P x → Yes P y → Yes P (pick b x y)
yes_pick P true x y p q = p
yes_pick P false x y p q = q

quiet : {b : Bool} → false ≡ true → b ≡ false
quiet r = absurd (true≢false (sym r))

-- The instructions of a statement's code, of a list's, and of cases'.
record Made (w : List ℕ) (o : ℕ) (ρ : Comp → Stat) : Type 0 where
  is : List Instr
  same : flat is ≡ w
  starts : begins is o o ≡ true
  fine : (P : ℕ → Bool) → Targets ρ P → Holds P is o → Fine P is

record MadeAll (ss : Stmts) (o δ : ℕ) (ρ : Comp → Stat) : Type 0 where
  is : List Instr
  same : flat is ≡ codes ss o δ ρ
  starts : (is_last is ≡ true) ⊎ (begins is o o ≡ true)
  lead : (P : ℕ → Bool) → Targets ρ P → Holds P is o → Yes P (place_of (first ss o δ ρ))
  fine : (P : ℕ → Bool) → Targets ρ P → Holds P is o → Fine P is

record MadeCases (cs : Cases) (o δ : ℕ) (ρ : Comp → Stat) : Type 0 where
  is : List Instr
  same : flat is ≡ code_cases cs o δ ρ
  links : (P : ℕ → Bool) → Targets ρ P → Holds P is o → Yes P (link cs o) × Yes P (place_of (through cs o δ ρ))
  each : (P : ℕ → Bool) → Holds P is o → (z i : ℕ) → Yes P z → Yes P (place cs o z i)
  fine : (P : ℕ → Bool) → Targets ρ P → Holds P is o → Fine P is

leaf_made : (n : ℕ) (l : Leaf) (ls : List ℕ) (o δ : ℕ) (ρ : Comp → Stat) → Made (code (leaf n l) ls o δ ρ) o ρ
unfolding code flat
leaf_made n l ls o δ ρ =
    record {
      is = LIST n ∷ LEAVE (place_of (ρ (comp_of l))) (depth_of (ρ (comp_of l))) ∷ [];
      same = refl;
      starts = here (LIST n) (LEAVE (place_of (ρ (comp_of l))) (depth_of (ρ (comp_of l))) ∷ []) o refl;
      fine = λ P t h. (refl, tt, (λ r. refl), (refl, (t.1 (comp_of l) (spent_leaf l), tt), quiet, tt));
    }

if1_made : (n : ℕ) (s : Stmt) (ls : List ℕ) (o δ : ℕ) (ρ : Comp → Stat) → Made (code s [] (o + 7) δ ρ) (o + 7) ρ → Made (code (if1 n s) ls o δ ρ) o ρ
unfolding code flat total
if1_made n s ls o δ ρ A =
    let i : Instr = ASK n (o + 7) (o + 4) in
    let j : Instr = LEAVE (place_of (ρ normal)) (depth_of (ρ normal)) in
    let rest : (x : ℕ) → begins A.is (o + 7) x ≡ true → begins (i ∷ j ∷ A.is) o x ≡ true = λ x. in_right (i ∷ j ∷ []) A.is o (o + 7) x refl in
    record {
      is = i ∷ j ∷ A.is;
      same = ap (λ l. 3 ∷ n ∷ (o + 7) ∷ (o + 4) ∷ goto (ρ normal) ++ l) A.same;
      starts = here i (j ∷ A.is) o refl;
      fine = λ P t h. (
        refl,
        (h (o + 7) (rest (o + 7) A.starts), (h (o + 4) (there i (j ∷ A.is) o (o + 4) (here j A.is (o + 4) refl)), tt)),
        quiet,
        (refl, (t.1 normal refl, tt), quiet, A.fine P t (λ x e. h x (rest x e))),
      );
    }

-- An ASK with its LEAVE, and two statements behind.
module _ (n y z o δ : ℕ) (ρ : Comp → Stat) (a b : List ℕ) (m : ℕ) (A : Made a (o + 7) ρ) (B : Made b (o + 7 + m) ρ) (long : length a ≡ m) where
  two : List Instr
  two = ASK n y z ∷ LEAVE (place_of (ρ normal)) (depth_of (ρ normal)) ∷ (A.is ++ B.is)

  two_made : ((P : ℕ → Bool) → Yes P (o + 7) → Yes P (o + 7 + m) → Yes P y × Yes P z) → Made (3 ∷ n ∷ y ∷ z ∷ goto (ρ normal) ++ (a ++ b)) o ρ
  unfolding two flat total
  two_made f =
      let i : Instr = ASK n y z in
      let j : Instr = LEAVE (place_of (ρ normal)) (depth_of (ρ normal)) in
      let rest : (x : ℕ) → begins (A.is ++ B.is) (o + 7) x ≡ true → begins two o x ≡ true = λ x. in_right (i ∷ j ∷ []) (A.is ++ B.is) o (o + 7) x refl in
      let left : (x : ℕ) → begins A.is (o + 7) x ≡ true → begins two o x ≡ true = λ x e. rest x (in_left A.is B.is (o + 7) x e) in
      let right : (x : ℕ) → begins B.is (o + 7 + m) x ≡ true → begins two o x ≡ true
      = λ x e. rest x (in_right A.is B.is (o + 7) (o + 7 + m) x (omega (arith, total_of A.is a m A.same long)) e) in
      record {
        is = two;
        same = ap (λ l. 3 ∷ n ∷ y ∷ z ∷ goto (ρ normal) ++ l) (flat_join A.is B.is ∙ ap (λ l. l ++ flat B.is) A.same ∙ ap (λ l. a ++ l) B.same);
        starts = here i (j ∷ (A.is ++ B.is)) o refl;
        fine = λ P t h.
            let g : Yes P y × Yes P z = f P (h (o + 7) (left (o + 7) A.starts)) (h (o + 7 + m) (right (o + 7 + m) B.starts)) in (
              refl,
              (g.0, (g.1, tt)),
              quiet,
              (refl, (t.1 normal refl, tt), quiet, fine_join P A.is B.is (A.fine P t (λ x e. h x (left x e))) (B.fine P t (λ x e. h x (right x e)))),
            );
      }

withs_made : (n : ℕ) (s : Stmt) (ls : List ℕ) (o δ : ℕ) (ρ : Comp → Stat) → Made (code s [] (o + 2) δ ρ) (o + 2) ρ → Made (code (withs n s) ls o δ ρ) o ρ
unfolding code flat
withs_made n s ls o δ ρ A =
    record {
      is = LIST n ∷ A.is;
      same = ap (λ l. 1 ∷ n ∷ l) A.same;
      starts = here (LIST n) A.is o refl;
      fine = λ P t h. (refl, tt, (λ r. some A.is (o + 2) (o + 2) A.starts), A.fine P t (λ x e. h x (there (LIST n) A.is o x e)));
    }

block_made : (ss : Stmts) (ls : List ℕ) (o δ : ℕ) (ρ : Comp → Stat) → MadeAll ss (o + 3) δ ρ → Made (code (block ss) ls o δ ρ) o ρ
unfolding code flat
block_made ss ls o δ ρ A =
    let i : Instr = LEAVE (place_of (first ss (o + 3) δ ρ)) (depth_of (first ss (o + 3) δ ρ)) in
    record {
      is = i ∷ A.is;
      same = ap (λ l. goto (first ss (o + 3) δ ρ) ++ l) A.same;
      starts = here i A.is o refl;
      fine = λ P t h.
          let g : Holds P A.is (o + 3) = λ x e. h x (there i A.is o x e) in
          (refl, (A.lead P t g, tt), quiet, A.fine P t g);
    }

label_made : (l : ℕ) (s : Stmt) (ls : List ℕ) (o δ : ℕ) (ρ : Comp → Stat) → Made (code s (l ∷ ls) o δ (λ c. ρ (no_label l c))) o (λ c. ρ (no_label l c))
    → Made (code (label l s) ls o δ ρ) o ρ
unfolding code
label_made l s ls o δ ρ A = record { is = A.is; same = A.same; starts = A.starts; fine = λ P t h. A.fine P (targets_label P ρ l t) h }

loop_made : (n : ℕ) (before test : Bool) (s : Stmt) (ls : List ℕ) (o δ : ℕ) (ρ : Comp → Stat)
    → Made (code s [] (o + 10) δ (in_loop ls (o + 3) δ ρ)) (o + 10) (in_loop ls (o + 3) δ ρ) → Made (code (loop n before test s) ls o δ ρ) o ρ
unfolding code flat total
loop_made n before test s ls o δ ρ A =
    let i : Instr = LEAVE (pick before (o + 3) (o + 10)) δ in
    let j : Instr = ASK n (o + 10) (pick test (o + 7) (o + 10)) in
    let k : Instr = LEAVE (place_of (ρ normal)) (depth_of (ρ normal)) in
    let rest : (x : ℕ) → begins A.is (o + 10) x ≡ true → begins (i ∷ j ∷ k ∷ A.is) o x ≡ true = λ x. in_right (i ∷ j ∷ k ∷ []) A.is o (o + 10) x refl in
    record {
      is = i ∷ j ∷ k ∷ A.is;
      same = ap (λ l. 2 ∷ pick before (o + 3) (o + 10) ∷ δ ∷ 3 ∷ n ∷ (o + 10) ∷ pick test (o + 7) (o + 10) ∷ goto (ρ normal) ++ l) A.same;
      starts = here i (j ∷ k ∷ A.is) o refl;
      fine = λ P t h.
          let three : Yes P (o + 3) = h (o + 3) (there i (j ∷ k ∷ A.is) o (o + 3) (here j (k ∷ A.is) (o + 3) refl)) in
          let seven : Yes P (o + 7) = h (o + 7) (in_right (i ∷ j ∷ []) (k ∷ A.is) o (o + 7) (o + 7) refl (here k A.is (o + 7) refl)) in
          let ten : Yes P (o + 10) = h (o + 10) (rest (o + 10) A.starts) in (
            refl,
            (yes_pick P before (o + 3) (o + 10) three ten, tt),
            quiet,
            (
              refl,
              (ten, (yes_pick P test (o + 7) (o + 10) seven ten, tt)),
              quiet,
              (refl, (t.1 normal refl, tt), quiet, A.fine P (targets_loop P ls (o + 3) δ ρ t three) (λ x e. h x (rest x e))),
            ),
          );
    }

switch_made : (n : ℕ) (cs : Cases) (ls : List ℕ) (o δ : ℕ) (ρ : Comp → Stat) → MadeCases cs (o + 7) δ (λ c. ρ (no_break c)) → Made (code (switch n cs) ls o δ ρ) o ρ
unfolding code flat total
switch_made n cs ls o δ ρ A =
    let i : Instr = SELECT n (link cs (o + 7)) (place cs (o + 7) (o + 4) (default_at cs)) in
    let j : Instr = LEAVE (place_of (ρ normal)) (depth_of (ρ normal)) in
    let rest : (x : ℕ) → begins A.is (o + 7) x ≡ true → begins (i ∷ j ∷ A.is) o x ≡ true = λ x. in_right (i ∷ j ∷ []) A.is o (o + 7) x refl in
    record {
      is = i ∷ j ∷ A.is;
      same = ap (λ l. 4 ∷ n ∷ link cs (o + 7) ∷ place cs (o + 7) (o + 4) (default_at cs) ∷ goto (ρ normal) ++ l) A.same;
      starts = here i (j ∷ A.is) o refl;
      fine = λ P t h.
          let g : Holds P A.is (o + 7) = λ x e. h x (rest x e) in
          let four : Yes P (o + 4) = h (o + 4) (there i (j ∷ A.is) o (o + 4) (here j A.is (o + 4) refl)) in (
            refl,
            ((A.links P (targets_break P ρ t) g).0, (A.each P g (o + 4) (default_at cs) four, tt)),
            quiet,
            (refl, (t.1 normal refl, tt), quiet, A.fine P (targets_break P ρ t) g),
          );
    }

try_cMade : (b h : Stmt) (ls : List ℕ) (o δ : ℕ) (ρ : Comp → Stat) → Made (code b [] o δ (in_try ρ (o + size b) δ)) o (in_try ρ (o + size b) δ)
    → Made (code h [] (o + size b) δ ρ) (o + size b) ρ → Made (code (try_c b h) ls o δ ρ) o ρ
unfolding code
try_cMade b h ls o δ ρ A B =
    let right : (x : ℕ) → begins B.is (o + size b) x ≡ true → begins (A.is ++ B.is) o x ≡ true
    = λ x. in_right A.is B.is o (o + size b) x (omega (arith, total_of A.is (code b [] o δ (in_try ρ (o + size b) δ)) (size b) A.same (code_length b [] o δ (in_try ρ (o + size b) δ)))) in
    record {
      is = A.is ++ B.is;
      same = flat_join A.is B.is ∙ ap (λ l. l ++ flat B.is) A.same ∙ ap (λ l. code b [] o δ (in_try ρ (o + size b) δ) ++ l) B.same;
      starts = in_left A.is B.is o o A.starts;
      fine = λ P t k.
          fine_join P A.is B.is
          (A.fine P (targets_try P ρ (o + size b) δ t (k (o + size b) (right (o + size b) B.starts))) (λ x e. k x (in_left A.is B.is o x e)))
          (B.fine P t (λ x e. k x (right x e)));
    }

try_fMade : (b f : Stmt) (ls : List ℕ) (o δ : ℕ) (ρ : Comp → Stat) → Made (code b [] (o + 2) (suc δ) ρ) (o + 2) ρ
    → Made (code f [] (o + 2 + size b) (suc δ) (next ρ (at 0 (suc δ)))) (o + 2 + size b) (next ρ (at 0 (suc δ))) → Made (code (try_f b f) ls o δ ρ) o ρ
unfolding code flat
try_fMade b f ls o δ ρ A B =
    let i : Instr = OPEN (o + 2 + size b) in
    let left : (x : ℕ) → begins A.is (o + 2) x ≡ true → begins (i ∷ (A.is ++ B.is)) o x ≡ true = λ x e. there i (A.is ++ B.is) o x (in_left A.is B.is (o + 2) x e) in
    let right : (x : ℕ) → begins B.is (o + 2 + size b) x ≡ true → begins (i ∷ (A.is ++ B.is)) o x ≡ true
    = λ x e. there i (A.is ++ B.is) o x (in_right A.is B.is (o + 2) (o + 2 + size b) x (omega (arith, total_of A.is (code b [] (o + 2) (suc δ) ρ) (size b) A.same (code_length b [] (o + 2) (suc δ) ρ))) e) in
    record {
      is = i ∷ (A.is ++ B.is);
      same =
          ap (λ l. 5 ∷ (o + 2 + size b) ∷ l)
          (flat_join A.is B.is ∙ ap (λ l. l ++ flat B.is) A.same ∙ ap (λ l. code b [] (o + 2) (suc δ) ρ ++ l) B.same);
      starts = here i (A.is ++ B.is) o refl;
      fine = λ P t k. (
        refl,
        (k (o + 2 + size b) (right (o + 2 + size b) B.starts), tt),
        (λ r. some (A.is ++ B.is) (o + 2) (o + 2) (in_left A.is B.is (o + 2) (o + 2) A.starts)),
        fine_join P A.is B.is (A.fine P t (λ x e. k x (left x e))) (B.fine P (targets_next P ρ (at 0 (suc δ)) t t.0) (λ x e. k x (right x e))),
      );
    }

nil_made : (o δ : ℕ) (ρ : Comp → Stat) → MadeAll nil o δ ρ
unfolding code flat
nil_made o δ ρ = record { is = []; same = refl; starts = inl refl; lead = λ P t h. t.1 normal refl; fine = λ P t h. tt }

cons_made : (s : Stmt) (ss : Stmts) (o δ : ℕ) (ρ : Comp → Stat) → Made (code s [] o δ (next ρ (first ss (o + size s) δ ρ))) o (next ρ (first ss (o + size s) δ ρ))
    → MadeAll ss (o + size s) δ ρ → MadeAll (cons s ss) o δ ρ
unfolding code
cons_made s ss o δ ρ A B =
    let ρ₁ : Comp → Stat = next ρ (first ss (o + size s) δ ρ) in
    let right : (x : ℕ) → begins B.is (o + size s) x ≡ true → begins (A.is ++ B.is) o x ≡ true
    = λ x. in_right A.is B.is o (o + size s) x (omega (arith, total_of A.is (code s [] o δ (next ρ (first ss (o + size s) δ ρ))) (size s) A.same (code_length s [] o δ (next ρ (first ss (o + size s) δ ρ))))) in
    record {
      is = A.is ++ B.is;
      same = flat_join A.is B.is ∙ ap (λ l. l ++ flat B.is) A.same ∙ ap (λ l. code s [] o δ (next ρ (first ss (o + size s) δ ρ)) ++ l) B.same;
      starts = inr (in_left A.is B.is o o A.starts);
      lead = λ P t h. h o (in_left A.is B.is o o A.starts);
      fine = λ P t h.
          let g : Holds P B.is (o + size s) = λ x e. h x (right x e) in
          fine_join P A.is B.is (A.fine P (targets_next P ρ (first ss (o + size s) δ ρ) t (B.lead P t g)) (λ x e. h x (in_left A.is B.is o x e))) (B.fine P t g);
    }

none_made : (o δ : ℕ) (ρ : Comp → Stat) → MadeCases none o δ ρ
unfolding code flat place
none_made o δ ρ = record { is = []; same = refl; links = λ P t h. (t.0, t.1 normal refl); each = λ P h z i e. e; fine = λ P t h. tt }

-- A case, its statements, and the cases behind.
module _ (d : Bool) (ss : Stmts) (cs : Cases) (o δ : ℕ) (ρ : Comp → Stat)
    (A : MadeAll ss (o + 4) δ (next ρ (through cs (o + 4 + sizes ss) δ ρ))) (B : MadeCases cs (o + 4 + sizes ss) δ ρ) where
  abbrev m : ℕ
  m = o + 4 + sizes ss

  abbrev ρ₁ : Comp → Stat
  ρ₁ = next ρ (through cs m δ ρ)

  abbrev i : Instr
  i = CASE (link cs m) (place_of (first ss (o + 4) δ ρ₁)) (depth_of (first ss (o + 4) δ ρ₁))

  abbrev cased : List Instr
  cased = i ∷ (A.is ++ B.is)

  left : (x : ℕ) → begins A.is (o + 4) x ≡ true → begins cased o x ≡ true
  left x e = there i (A.is ++ B.is) o x (in_left A.is B.is (o + 4) x e)

  right : (x : ℕ) → begins B.is m x ≡ true → begins cased o x ≡ true
  right x e =
      there i (A.is ++ B.is) o x
      (in_right A.is B.is (o + 4) m x (omega (arith, total_of A.is (codes ss (o + 4) δ ρ₁) (sizes ss) A.same (codes_length ss (o + 4) δ ρ₁))) e)

  each_case : (P : ℕ → Bool) → Holds P cased o → (z k : ℕ) → Yes P z → Yes P (place (case d ss cs) o z k)
  unfolding place
  each_case P h z zero e = h o (here i (A.is ++ B.is) o refl)
  each_case P h z (suc k) e = B.each P (λ x q. h x (right x q)) z k e

  case_made : MadeCases (case d ss cs) o δ ρ
  unfolding code flat
  case_made =
      record {
        is = cased;
        same =
            ap (λ l. case_to (link cs m) (first ss (o + 4) δ ρ₁) ++ l)
            (flat_join A.is B.is ∙ ap (λ l. l ++ flat B.is) A.same ∙ ap (λ l. codes ss (o + 4) δ ρ₁ ++ l) B.same);
        links = λ P t h. (h o (here i (A.is ++ B.is) o refl), h o (here i (A.is ++ B.is) o refl));
        each = each_case;
        fine = λ P t h.
            let hB : Holds P B.is m = λ x e. h x (right x e) in
            let hA : Holds P A.is (o + 4) = λ x e. h x (left x e) in
            let b : Yes P (link cs m) × Yes P (place_of (through cs m δ ρ)) = B.links P t hB in
            let u : Targets ρ₁ P = targets_next P ρ (through cs m δ ρ) t b.1 in
            (refl, (b.0, (A.lead P u hA, tt)), quiet, fine_join P A.is B.is (A.fine P u hA) (B.fine P t hB));
      }

mutual
  unfolding code

  made : (s : Stmt) (ls : List ℕ) (o δ : ℕ) (ρ : Comp → Stat) → Made (code s ls o δ ρ) o ρ
  made (leaf n l) ls o δ ρ = leaf_made n l ls o δ ρ
  made (if1 n s) ls o δ ρ = if1_made n s ls o δ ρ (made s [] (o + 7) δ ρ)
  made (if2 n s t) ls o δ ρ =
      two_made n (o + 7) (o + 7 + size s) o δ ρ (code s [] (o + 7) δ ρ) (code t [] (o + 7 + size s) δ ρ) (size s) (made s [] (o + 7) δ ρ) (made t [] (o + 7 + size s) δ ρ)
      (code_length s [] (o + 7) δ ρ) (λ P p q. (p, q))
  made (if3 n t s) ls o δ ρ =
      two_made n (o + 7 + size t) (o + 7) o δ ρ (code t [] (o + 7) δ ρ) (code s [] (o + 7 + size t) δ ρ) (size t) (made t [] (o + 7) δ ρ) (made s [] (o + 7 + size t) δ ρ)
      (code_length t [] (o + 7) δ ρ) (λ P p q. (q, p))
  made (withs n s) ls o δ ρ = withs_made n s ls o δ ρ (made s [] (o + 2) δ ρ)
  made (block ss) ls o δ ρ = block_made ss ls o δ ρ (made_all ss (o + 3) δ ρ)
  made (label l s) ls o δ ρ = label_made l s ls o δ ρ (made s (l ∷ ls) o δ (λ c. ρ (no_label l c)))
  made (loop n before test s) ls o δ ρ = loop_made n before test s ls o δ ρ (made s [] (o + 10) δ (in_loop ls (o + 3) δ ρ))
  made (switch n cs) ls o δ ρ = switch_made n cs ls o δ ρ (made_cases cs (o + 7) δ (λ c. ρ (no_break c)))
  made (try_c b h) ls o δ ρ = try_cMade b h ls o δ ρ (made b [] o δ (in_try ρ (o + size b) δ)) (made h [] (o + size b) δ ρ)
  made (try_f b f) ls o δ ρ = try_fMade b f ls o δ ρ (made b [] (o + 2) (suc δ) ρ) (made f [] (o + 2 + size b) (suc δ) (next ρ (at 0 (suc δ))))

  made_all : (ss : Stmts) (o δ : ℕ) (ρ : Comp → Stat) → MadeAll ss o δ ρ
  made_all nil o δ ρ = nil_made o δ ρ
  made_all (cons s ss) o δ ρ = cons_made s ss o δ ρ (made s [] o δ (next ρ (first ss (o + size s) δ ρ))) (made_all ss (o + size s) δ ρ)

  made_cases : (cs : Cases) (o δ : ℕ) (ρ : Comp → Stat) → MadeCases cs o δ ρ
  made_cases none o δ ρ = none_made o δ ρ
  made_cases (case d ss cs) o δ ρ =
      case_made d ss cs o δ ρ (made_all ss (o + 4) δ (next ρ (through cs (o + 4 + sizes ss) δ ρ))) (made_cases cs (o + 4 + sizes ss) δ ρ)

-- The four ends.
abbrev endings : List Instr
endings = END 0 ∷ END 1 ∷ END 2 ∷ END 5 ∷ []

fine_ends : (P : ℕ → Bool) → Fine P endings
fine_ends P = (refl, tt, quiet, (refl, tt, quiet, (refl, tt, quiet, (refl, tt, quiet, tt))))

module _ (ss : Stmts) where
  abbrev z : ℕ
  z = sizes ss

  abbrev whole : MadeAll ss 0 0 (top z)
  whole = made_all ss 0 0 (top z)

  abbrev all : List Instr
  all = whole.is ++ endings

  behind : (x : ℕ) → begins endings z x ≡ true → begins all 0 x ≡ true
  behind x e = in_right whole.is endings 0 z x (omega (arith, total_of whole.is (codes ss 0 0 (top z)) z whole.same (codes_length ss 0 0 (top z)))) e

  -- Whatever stands first begins at 0.
  zero_in : begins all 0 0 ≡ true
  zero_in = go whole.is whole.starts
    where
      go : (a : List Instr) → (is_last a ≡ true) ⊎ (begins a 0 0 ≡ true) → begins (a ++ endings) 0 0 ≡ true
      go [] h = here (END 0) (END 1 ∷ END 2 ∷ END 5 ∷ []) 0 refl
      go (i ∷ a) (inl h) = absurd (true≢false (sym h))
      go (i ∷ a) (inr h) = in_left (i ∷ a) endings 0 0 h

  targets_top : Targets (top z) (begins all 0)
  unfolding total
  targets_top = (zero_in, go)
    where
      end0 : begins all 0 z ≡ true
      end0 = behind z (here (END 0) (END 1 ∷ END 2 ∷ END 5 ∷ []) z refl)

      end1 : begins all 0 (z + 2) ≡ true
      end1 = behind (z + 2) (there (END 0) (END 1 ∷ END 2 ∷ END 5 ∷ []) z (z + 2) (here (END 1) (END 2 ∷ END 5 ∷ []) (z + 2) refl))

      end2 : begins all 0 (z + 4) ≡ true
      end2 = behind (z + 4) (in_right (END 0 ∷ END 1 ∷ []) (END 2 ∷ END 5 ∷ []) z (z + 4) (z + 4) refl (here (END 2) (END 5 ∷ []) (z + 4) refl))

      end5 : begins all 0 (z + 6) ≡ true
      end5 = behind (z + 6) (in_right (END 0 ∷ END 1 ∷ END 2 ∷ []) (END 5 ∷ []) z (z + 6) (z + 6) refl (here (END 5) [] (z + 6) refl))

      go : (c : Comp) → is_spent c ≡ false → begins all 0 (place_of (top z c)) ≡ true
      go normal e = end0
      go (breaks l) e = end5
      go (continues l) e = end5
      go returns e = end1
      go throws e = end2
      go spent e = absurd (true≢false e)

  unit_flat : flat all ≡ unit ss
  unfolding unit flat
  unit_flat = flat_join whole.is endings ∙ ap (λ l. l ++ ends) whole.same

  -- No code of a unit is refused with 18.
  pub unit_valid : Valid (unit ss)
  unit_valid =
      subst Valid unit_flat
      (fine_valid all (some all 0 0 zero_in)
      (fine_join (begins all 0) whole.is endings (whole.fine (begins all 0) targets_top (λ x e. in_left whole.is endings 0 x e)) (fine_ends (begins all 0))))
