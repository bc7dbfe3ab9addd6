-- The forward machine's run of the code is what the statement does, for every tree whose finally blocks find room.
use Prim.Native.Nat.{ℕ, zero, suc, ◌+◌, ◌≤◌, ◌<◌}
use Rattle.std.specs.Prelude.{◌≡◌, Bool, ◌||◌, ◌&&◌, length, get_or, ltb, eqb, ◌⊎◌}
use Rattle.std.proofs.Math.Path.{refl, sym, ap}
use Rattle.std.proofs.Common.{◌∙◌, subst, true≢false, length-append, eq-eqb, ltb-true, ltb-false, lt-ltb, le-ltb, inl, inr, arith, add-zero}
use Rattle.std.proofs.Math.Bool.{true, false, not}
use mathlib.Core.List.{List, [], ◌∷◌, ◌++◌, append_assoc, append-nil}
use Rattle.route_completion.specs.Tree.{near, named, Stmt, Stmts, Cases, Leaf, simple, brk, con, ret, thr, leaf, if1, if2, if3, withs, block, label, loop, switch, try_c, try_f, nil, cons, none, case}
use Rattle.route_completion.specs.Sem.{Entry, plain, asked, Out, Comp, normal, breaks, continues, returns, throws, spent, out, more, ask, go_on, and_then, catching, finally, finally_if, unbreak, turn, turns, rounds, loops, pick, is_yes, is_normal, is_spent, loop_continues, no_break, no_label, exec, execs, exec_from, entry, count, default_at, comp_of}
use Rattle.route_completion.specs.Route.{end_of}
use Rattle.code_flat.specs.Code.{Stat, at, ended, goto, case_to, next, in_try, in_loop, first, link, through, size, sizes, size_cases, place, code, codes, code_cases, top, ends, unit, Room, RoomAll, RoomCases}
use Rattle.code_flat.specs.Opcodes as op
use Rattle.code_flat.specs.Machine.{Res, res, pre, Instr, LIST, LEAVE, ASK, SELECT, OPEN, END, CASE, Frame, open', pend, Pos, pos, is_zero, unwind, is_case, chase, end_as, decode, fetch, result}
use Rattle.code_flat.specs.Forward.{ask_now, behind, forward, step, run}
use Rattle.code_flat.proofs.Steps.{run_step, run_pos, resume}
use Rattle.route_completion.specs.Rest.{Shrinks}
use Rattle.route_completion.proofs.RestLaws.{exec_rest}
use Rattle.route_completion.specs.Ends as run_end
use Rattle.code_flat.proofs.Size.{code_length, codes_length, size_pos}
use Rattle.code_flat.specs.Has.{Has}

pub has_left : (C : List ℕ) (o : ℕ) (a b : List ℕ) → Has C o (a ++ b) → Has C o a
has_left C o [] b h = tt
has_left C o (x ∷ a) b h = (h.0, has_left C (suc o) a b h.1)

pub has_right : (C : List ℕ) (o : ℕ) (a b : List ℕ) (m : ℕ) → m ≡ o + length a → Has C o (a ++ b) → Has C m b
has_right C o [] b m e h = let p : o ≡ m = omega arith in subst (λ x. Has C x b) p h
has_right C o (x ∷ a) b m e h = has_right C (suc o) a b m (omega arith) h.1

has_move : (C : List ℕ) (o m : ℕ) (l : List ℕ) → o ≡ m → Has C o l → Has C m l
has_move C o m l e h = subst (λ x. Has C x l) e h

pub has_of : (C : List ℕ) (o : ℕ) (l : List ℕ) → ((i : ℕ) → i < length l → get_or C (o + i) 0 ≡ get_or l i 0) → Has C o l
has_of C o [] h = tt
has_of C o (x ∷ l) h =
    (rw (add-zero o) at (h 0 (omega arith)), has_of C (suc o) l (λ i p. ap (λ x. get_or C x 0) (omega arith) ∙ h (suc i) (omega arith)))

pub has_self : (C : List ℕ) → Has C 0 C
has_self C = has_of C 0 C (λ i p. ap (λ x. get_or C x 0) (omega arith))

is_zero_not : (t : ℕ) → 0 < t → is_zero t ≡ false
is_zero_not zero h = absurd (omega arith)
is_zero_not (suc t) h = refl

unwind_here : (K : List Frame) (t d : ℕ) → 0 < t → length K ≡ d → unwind K t d ≡ pos t K
unfolding unwind
unwind_here [] t d z h = refl
unwind_here (open' f ∷ K) t d z h = ap (λ b. pick b (pos t (open' f ∷ K)) (pos f (pend t d ∷ K))) (lt-ltb (length K) d (omega arith))
unwind_here (pend u v ∷ K) t d z h =
    ap (λ b. pick b (pick (is_zero t) (unwind K u v) (pos t (pend u v ∷ K))) (unwind K t d)) (lt-ltb (length K) d (omega arith))
    ∙ ap (λ b. pick b (unwind K u v) (pos t (pend u v ∷ K))) (is_zero_not t z)

unwind_back : (K : List Frame) (u v d : ℕ) → suc (length K) ≡ d → unwind (pend u v ∷ K) 0 d ≡ unwind K u v
unfolding unwind
unwind_back K u v d h = ap (λ b. pick b (unwind K u v) (unwind K 0 d)) (lt-ltb (length K) d (omega arith))

unwind_open : (K : List Frame) (f t d : ℕ) → d ≤ length K → unwind (open' f ∷ K) t d ≡ pos f (pend t d ∷ K)
unfolding unwind
unwind_open K f t d h = ap (λ b. pick b (pos t (open' f ∷ K)) (pos f (pend t d ∷ K))) (le-ltb (length K) d h)

unwind_pend : (K : List Frame) (u v t d : ℕ) → d ≤ length K → unwind (pend u v ∷ K) t d ≡ unwind K t d
unfolding unwind
unwind_pend K u v t d h = ap (λ b. pick b (pick (is_zero t) (unwind K u v) (pos t (pend u v ∷ K))) (unwind K t d)) (le-ltb (length K) d h)

spent_break : (c : Comp) → is_spent (no_break c) ≡ is_spent c
spent_break normal = refl
spent_break (breaks near) = refl
spent_break (breaks (named l)) = refl
spent_break (continues l) = refl
spent_break returns = refl
spent_break throws = refl
spent_break spent = refl

spent_label : (l : ℕ) (c : Comp) → is_spent (no_label l c) ≡ is_spent c
spent_label l normal = refl
spent_label l (breaks near) = refl
spent_label l (breaks (named m)) = go (eqb m l)
  where
    go : (b : Bool) → is_spent (pick b normal (breaks (named m))) ≡ false
    go true = refl
    go false = refl
spent_label l (continues m) = refl
spent_label l returns = refl
spent_label l throws = refl
spent_label l spent = refl

module _ (lim : ℕ) (C : List ℕ) where
  abbrev pub IsAsk : ℕ → Type 0
  IsAsk t = (n : ℕ) × (y : ℕ) × (z : ℕ) × (fetch C t ≡ ASK n y z)

  -- A place that lies ahead, or an ASK.
  abbrev pub Fwd : ℕ → ℕ → Type 0
  Fwd e x = (e ≤ x) ⊎ ((0 < x) × IsAsk x)

  fwd_less : (d e x : ℕ) → d ≤ e → Fwd e x → Fwd d x
  fwd_less d e x p (inl h) = inl (omega arith)
  fwd_less d e x p (inr h) = inr h

  -- The way to the target lands ahead, or at an ASK; and the target is at no greater depth.
  abbrev pub Lands : ℕ → ℕ → List Frame → Stat → Type 0
  Lands e δ K (at t d) = Fwd e (unwind K t d).pc × (d ≤ δ)
  Lands e δ K (ended x) = ⊥

  lands_less : (d e δ : ℕ) (K : List Frame) (s : Stat) → d ≤ e → Lands e δ K s → Lands d δ K s
  lands_less d e δ K (at t x) p h = (fwd_less d e (unwind K t x).pc p h.0, h.1)
  lands_less d e δ K (ended x) p h = h

  lands_here : (e δ : ℕ) (K : List Frame) (t : ℕ) → 0 < t → length K ≡ δ → Fwd e t → Lands e δ K (at t δ)
  lands_here e δ K t z h f = (rw (unwind_here K t δ z h) f, omega arith)

  lands_open : (e f δ : ℕ) (K : List Frame) (s : Stat) (d : ℕ) → length K ≡ δ → d ≤ f → Lands e δ K s → Lands d (suc δ) (open' f ∷ K) s
  lands_open e f δ K (at t x) d h p l = (rw (unwind_open K f t x (omega (arith, l.1))) (inl p), omega (arith, l.1))
  lands_open e f δ K (ended x) d h p l = l

  lands_pend : (e δ : ℕ) (K : List Frame) (u v : ℕ) (s : Stat) → length K ≡ δ → Lands e δ K s → Lands e (suc δ) (pend u v ∷ K) s
  lands_pend e δ K u v (at t x) h l = (rw (unwind_pend K u v t x (omega (arith, l.1))) l.0, omega (arith, l.1))
  lands_pend e δ K u v (ended x) h l = l

  -- What the targets of a statement that ends at e must be, at the depth δ over the stack K.
  pub record Good (δ : ℕ) (K : List Frame) (ρ : Comp → Stat) (e : ℕ) : Type 0 where
    pub stops : ρ spent ≡ ended 3
    pub lands : (c : Comp) → is_spent c ≡ false → Lands e δ K (ρ c)
    pub depth : length K ≡ δ

  good_next : (δ : ℕ) (K : List Frame) (ρ : Comp → Stat) (e m : ℕ) (x : Stat) → m ≤ e → Lands m δ K x → Good δ K ρ e → Good δ K (next ρ x) m
  good_next δ K ρ e m x p h g = record { stops = g.stops; lands = go; depth = g.depth }
    where
      go : (c : Comp) → is_spent c ≡ false → Lands m δ K (next ρ x c)
      go normal q = h
      go (breaks l) q = lands_less m e δ K (ρ (breaks l)) p (g.lands (breaks l) q)
      go (continues l) q = lands_less m e δ K (ρ (continues l)) p (g.lands (continues l) q)
      go returns q = lands_less m e δ K (ρ returns) p (g.lands returns q)
      go throws q = lands_less m e δ K (ρ throws) p (g.lands throws q)
      go spent q = absurd (true≢false q)

  good_less : (δ : ℕ) (K : List Frame) (ρ : Comp → Stat) (e m : ℕ) → m ≤ e → Good δ K ρ e → Good δ K ρ m
  good_less δ K ρ e m p g = record { stops = g.stops; lands = λ c q. lands_less m e δ K (ρ c) p (g.lands c q); depth = g.depth }

  good_try : (δ : ℕ) (K : List Frame) (ρ : Comp → Stat) (e t : ℕ) → 0 < t → t ≤ e → Good δ K ρ e → Good δ K (in_try ρ t δ) t
  good_try δ K ρ e t z p g = record { stops = g.stops; lands = go; depth = g.depth }
    where
      go : (c : Comp) → is_spent c ≡ false → Lands t δ K (in_try ρ t δ c)
      go normal q = lands_less t e δ K (ρ normal) p (g.lands normal q)
      go (breaks l) q = lands_less t e δ K (ρ (breaks l)) p (g.lands (breaks l) q)
      go (continues l) q = lands_less t e δ K (ρ (continues l)) p (g.lands (continues l) q)
      go returns q = lands_less t e δ K (ρ returns) p (g.lands returns q)
      go throws q = lands_here t δ K t z g.depth (inl (omega arith))
      go spent q = absurd (true≢false q)

  good_open : (δ : ℕ) (K : List Frame) (ρ : Comp → Stat) (e f : ℕ) → Good δ K ρ e → Good (suc δ) (open' f ∷ K) ρ f
  good_open δ K ρ e f g = record { stops = g.stops; lands = λ c q. lands_open e f δ K (ρ c) f g.depth (omega arith) (g.lands c q); depth = ap suc g.depth }

  good_pend : (δ : ℕ) (K : List Frame) (ρ : Comp → Stat) (e u v : ℕ) → Lands e δ K (at u v) → Good δ K ρ e → Good (suc δ) (pend u v ∷ K) (next ρ (at 0 (suc δ))) e
  good_pend δ K ρ e u v h g = record { stops = g.stops; lands = go; depth = ap suc g.depth }
    where
      go : (c : Comp) → is_spent c ≡ false → Lands e (suc δ) (pend u v ∷ K) (next ρ (at 0 (suc δ)) c)
      go normal q = (rw (unwind_back K u v (suc δ) (ap suc g.depth)) h.0, omega arith)
      go (breaks l) q = lands_pend e δ K u v (ρ (breaks l)) g.depth (g.lands (breaks l) q)
      go (continues l) q = lands_pend e δ K u v (ρ (continues l)) g.depth (g.lands (continues l) q)
      go returns q = lands_pend e δ K u v (ρ returns) g.depth (g.lands returns q)
      go throws q = lands_pend e δ K u v (ρ throws) g.depth (g.lands throws q)
      go spent q = absurd (true≢false q)

  good_break : (δ : ℕ) (K : List Frame) (ρ : Comp → Stat) (e : ℕ) → Good δ K ρ e → Good δ K (λ c. ρ (no_break c)) e
  good_break δ K ρ e g = record { stops = g.stops; lands = λ c q. g.lands (no_break c) (spent_break c ∙ q); depth = g.depth }

  good_label : (δ : ℕ) (K : List Frame) (ρ : Comp → Stat) (e : ℕ) (l : ℕ) → Good δ K ρ e → Good δ K (λ c. ρ (no_label l c)) e
  good_label δ K ρ e l g = record { stops = g.stops; lands = λ c q. g.lands (no_label l c) (spent_label l c ∙ q); depth = g.depth }

  good_loop : (δ : ℕ) (K : List Frame) (ρ : Comp → Stat) (ls : List ℕ) (e m : ℕ) → 0 < m → IsAsk m → Good δ K ρ e → Good δ K (in_loop ls m δ ρ) e
  good_loop δ K ρ ls e m z a g =
      record { stops = g.stops; lands = λ c q. go (loop_continues ls c) (ρ (no_break c)) (g.lands (no_break c) (spent_break c ∙ q)); depth = g.depth }
    where
      go : (b : Bool) (s : Stat) → Lands e δ K s → Lands e δ K (pick b (at m δ) s)
      go true s h = lands_here e δ K m z g.depth (inr (z, a))
      go false s h = h

  good_move : (δ : ℕ) (K : List Frame) (ρ : Comp → Stat) (d e : ℕ) → d ≡ e → Good δ K ρ d → Good δ K ρ e
  good_move δ K ρ d e p g = subst (λ x. Good δ K ρ x) p g

  -- What follows an outcome.
  unfoldable pub fin : (Comp → Stat) → List Frame → Out → Res
  fin ρ K o = pre o.nodes (resume lim C (ρ o.comp) K o.rest)

  fin_more : (ρ : Comp → Stat) (K : List Frame) (es : List Entry) (o : Out) → pre es (fin ρ K o) ≡ fin ρ K (more es o)
  unfolding fin
  fin_more ρ K es o =
      let z = resume lim C (ρ o.comp) K o.rest in
      ap (λ l. res l z.end z.rest) (sym (append_assoc es o.nodes z.nodes))

  resume_here : (t d : ℕ) (K : List Frame) → 0 < t → length K ≡ d → (qs : List ℕ) → resume lim C (at t d) K qs ≡ run lim C t K qs
  unfolding resume
  resume_here t d K z h qs = ap (λ p. run_pos lim C p qs) (unwind_here K t d z h)

  fetches : (o a b c d : ℕ) → get_or C o 0 ≡ a → get_or C (suc o) 0 ≡ b → get_or C (suc (suc o)) 0 ≡ c → get_or C (suc (suc (suc o))) 0 ≡ d
      → fetch C o ≡ decode a b c d
  unfolding fetch
  fetches o a b c d p q r s = λ i. decode (p i) (q i) (r i) (s i)

  run_at : (o : ℕ) (i : Instr) → fetch C o ≡ i → (K : List Frame) (qs : List ℕ) → run lim C o K qs ≡ step lim C (run lim C) i o K qs
  run_at o i h K qs = run_step lim C o K qs ∙ ap (λ x. step lim C (run lim C) x o K qs) h

  -- Back to an ASK.
  behind_is : (t : ℕ) → 0 < t → behind C t ≡ fetch C t
  behind_is zero h = absurd (omega arith)
  behind_is (suc t) h = refl

  on_forward : (o : ℕ) (p : Pos) (qs : List ℕ) → Fwd (suc o) p.pc → forward C o (run lim C) p qs ≡ run_pos lim C p qs
  on_forward o p qs (inl h) = ap (λ b. pick b (run lim C p.pc p.stack qs) (ask_now (behind C p.pc) (run lim C) p.stack qs)) (lt-ltb o p.pc h)
  on_forward o p qs (inr (z, h)) = go (ltb o p.pc)
    where
      go : (b : Bool) → pick b (run lim C p.pc p.stack qs) (ask_now (behind C p.pc) (run lim C) p.stack qs) ≡ run lim C p.pc p.stack qs
      go true = refl
      go false =
          ap (λ i. ask_now i (run lim C) p.stack qs) (behind_is p.pc z ∙ h.3)
          ∙ sym (run_at p.pc (ASK h.0 h.1 h.2) h.3 p.stack qs)

  on_list : (o n : ℕ) (l : List ℕ) → Has C o (op.List ∷ n ∷ l) → (K : List Frame) (qs : List ℕ) → run lim C o K qs ≡ pre (plain n ∷ []) (run lim C (o + 2) K qs)
  on_list o n l h K qs = run_at o (LIST n) (fetches o op.List n _ _ h.0 h.1.0 refl refl) K qs

  on_open : (o f : ℕ) (l : List ℕ) → Has C o (op.Open ∷ f ∷ l) → (K : List Frame) → length K < lim → (qs : List ℕ) → run lim C o K qs ≡ run lim C (o + 2) (open' f ∷ K) qs
  on_open o f l h K p qs =
      run_at o (OPEN f) (fetches o op.Open f _ _ h.0 h.1.0 refl refl) K qs
      ∙ ap (λ b. pick b (run lim C (o + 2) (open' f ∷ K) qs) (res [] run_end.Astray qs)) (lt-ltb (length K) lim p)

  on_end : (o e : ℕ) (l : List ℕ) → Has C o (op.End ∷ e ∷ l) → (K : List Frame) (qs : List ℕ) → run lim C o K qs ≡ res [] (end_as e) qs
  on_end o e l h K qs = run_at o (END e) (fetches o op.End e _ _ h.0 h.1.0 refl refl) K qs

  on_leave : (o t d : ℕ) (l : List ℕ) → Has C o (op.Leave ∷ t ∷ d ∷ l) → (K : List Frame) → Fwd (suc o) (unwind K t d).pc → (qs : List ℕ)
      → run lim C o K qs ≡ resume lim C (at t d) K qs
  unfolding resume
  on_leave o t d l h K p qs =
      run_at o (LEAVE t d) (fetches o op.Leave t d _ h.0 h.1.0 h.1.1.0 refl) K qs ∙ on_forward o (unwind K t d) qs p

  on_goto : (o δ : ℕ) (s : Stat) → Has C o (goto s) → (K : List Frame) → Lands (suc o) δ K s → (qs : List ℕ) → run lim C o K qs ≡ resume lim C s K qs
  on_goto o δ (at t d) h K p qs = on_leave o t d [] h K p.0 qs
  on_goto o δ (ended e) h K p qs = absurd p

  -- A CASE leaves as a LEAVE does.
  on_case_to : (o δ c : ℕ) (s : Stat) (l : List ℕ) → Has C o (case_to c s ++ l) → (K : List Frame) → Lands (suc o) δ K s → (qs : List ℕ) → run lim C o K qs ≡ resume lim C s K qs
  unfolding resume
  on_case_to o δ c (at t d) l h K p qs =
      run_at o (CASE c t d) (fetches o op.Case c t d h.0 h.1.0 h.1.1.0 h.1.1.1.0) K qs ∙ on_forward o (unwind K t d) qs p.0
  on_case_to o δ c (ended e) l h K p qs = absurd p

  asking : (o n y z : ℕ) (l : List ℕ) → Has C o (op.Ask ∷ n ∷ y ∷ z ∷ l) → fetch C o ≡ ASK n y z
  asking o n y z l h = fetches o op.Ask n y z h.0 h.1.0 h.1.1.0 h.1.1.1.0

  on_ask : (o n y z : ℕ) (l : List ℕ) → Has C o (op.Ask ∷ n ∷ y ∷ z ∷ l) → (ρ : Comp → Stat) (K : List Frame) → ρ spent ≡ ended 3
      → (qs : List ℕ) (k : ℕ → List ℕ → Out) → ((a : ℕ) (r : List ℕ) → length r < length qs → run lim C (pick (is_yes a) y z) K r ≡ fin ρ K (k a r))
      → run lim C o K qs ≡ fin ρ K (ask n qs k)
  unfolding fin resume
  on_ask o n y z l h ρ K e [] k f = run_at o (ASK n y z) (asking o n y z l h) K [] ∙ ap (λ s. resume lim C s K []) (sym e)
  on_ask o n y z l h ρ K e (a ∷ qs) k f = run_at o (ASK n y z) (asking o n y z l h) K (a ∷ qs) ∙ ap (pre (asked n ∷ [])) (f a qs (omega arith))

  on_select : (o n c e : ℕ) (l : List ℕ) → Has C o (op.Select ∷ n ∷ c ∷ e ∷ l) → (ρ : Comp → Stat) (K : List Frame) → ρ spent ≡ ended 3
      → (qs : List ℕ) (k : ℕ → List ℕ → Out) → ((a : ℕ) (r : List ℕ) → run lim C (chase C o c e a) K r ≡ fin ρ K (k a r))
      → run lim C o K qs ≡ fin ρ K (ask n qs k)
  unfolding fin resume
  on_select o n m d l h ρ K e [] k f =
      run_at o (SELECT n m d) (fetches o op.Select n m d h.0 h.1.0 h.1.1.0 h.1.1.1.0) K [] ∙ ap (λ s. resume lim C s K []) (sym e)
  on_select o n m d l h ρ K e (a ∷ qs) k f =
      run_at o (SELECT n m d) (fetches o op.Select n m d h.0 h.1.0 h.1.1.0 h.1.1.1.0) K (a ∷ qs) ∙ ap (pre (asked n ∷ [])) (f a qs)

  on_then : (ρ : Comp → Stat) (K : List Frame) (x : Stat) (k : List ℕ → Out) → ((r : List ℕ) → resume lim C x K r ≡ fin ρ K (k r))
      → (o : Out) → fin (next ρ x) K o ≡ fin ρ K (and_then o k)
  unfolding fin
  on_then ρ K x k h o = go o.comp
    where
      go : (c : Comp) → fin (next ρ x) K (out o.nodes c o.rest) ≡ fin ρ K (and_then (out o.nodes c o.rest) k)
      go normal = ap (pre o.nodes) (h o.rest) ∙ fin_more ρ K o.nodes (k o.rest)
      go (breaks l) = refl
      go (continues l) = refl
      go returns = refl
      go throws = refl
      go spent = refl

  on_catch : (ρ : Comp → Stat) (K : List Frame) (t δ : ℕ) (k : List ℕ → Out) → 0 < t → length K ≡ δ
      → ((r : List ℕ) → run lim C t K r ≡ fin ρ K (k r)) → (o : Out) → fin (in_try ρ t δ) K o ≡ fin ρ K (catching o k)
  unfolding fin
  on_catch ρ K t δ k z p f o = go o.comp
    where
      go : (c : Comp) → fin (in_try ρ t δ) K (out o.nodes c o.rest) ≡ fin ρ K (catching (out o.nodes c o.rest) k)
      go normal = refl
      go (breaks l) = refl
      go (continues l) = refl
      go returns = refl
      go throws = ap (pre o.nodes) (resume_here t δ K z p o.rest ∙ f o.rest) ∙ fin_more ρ K o.nodes (k o.rest)
      go spent = refl

  on_turn : (ρ : Comp → Stat) (K : List Frame) (ls : List ℕ) (m δ : ℕ) (k : List ℕ → Out) (o : Out) → 0 < m → length K ≡ δ
      → run lim C m K o.rest ≡ fin (λ c. ρ (no_break c)) K (k o.rest)
      → fin (in_loop ls m δ ρ) K o ≡ fin (λ c. ρ (no_break c)) K (go_on (loop_continues ls o.comp) o k)
  unfolding fin
  on_turn ρ K ls m δ k o z p h = go (loop_continues ls o.comp)
    where
      go : (b : Bool) → pre o.nodes (resume lim C (pick b (at m δ) (ρ (no_break o.comp))) K o.rest) ≡ fin (λ c. ρ (no_break c)) K (go_on b o k)
      go true = ap (pre o.nodes) (resume_here m δ K z p o.rest ∙ h) ∙ fin_more (λ c. ρ (no_break c)) K o.nodes (k o.rest)
      go false = refl

  -- The loop's ASK stands at m, its body at b, and at e its way out.
  module _ (ρ : Comp → Stat) (K : List Frame) (ls : List ℕ) (m b e n δ : ℕ) (test : Bool) (body : List ℕ → Out) (l : List ℕ)
      (h : Has C m (op.Ask ∷ n ∷ b ∷ pick test e b ∷ l)) (z : 0 < m) (stop : ρ spent ≡ ended 3) (deep : length K ≡ δ) (away : (r : List ℕ) → run lim C e K r ≡ resume lim C (ρ normal) K r)
      (less : Shrinks body) (ok : (r : List ℕ) → run lim C b K r ≡ fin (in_loop ls m δ ρ) K (body r)) where
    on_turns : (f : ℕ) (qs : List ℕ) → length qs ≤ f → run lim C m K qs ≡ fin (λ c. ρ (no_break c)) K (turns n test ls body f qs)
    unfolding turns fin
    on_turns zero [] p = on_ask m n b (pick test e b) l h (λ c. ρ (no_break c)) K stop [] (λ a r. out [] spent []) (λ a r q. absurd (omega arith))
    on_turns zero (a ∷ qs) p = absurd (omega arith)
    on_turns (suc f) qs p =
        on_ask m n b (pick test e b) l h (λ c. ρ (no_break c)) K stop qs (λ a r. turn ls (is_yes a || not test) (body r) (turns n test ls body f) r)
        (λ a r q. go (is_yes a) test r (on_turn ρ K ls m δ (turns n test ls body f) (body r) z deep (on_turns f (body r).rest (omega (arith, less r)))))
      where
        go : (x y : Bool) (r : List ℕ)
            → fin (in_loop ls m δ ρ) K (body r) ≡ fin (λ c. ρ (no_break c)) K (go_on (loop_continues ls (body r).comp) (body r) (turns n test ls body f))
            → run lim C (pick x b (pick y e b)) K r ≡ fin (λ c. ρ (no_break c)) K (turn ls (x || not y) (body r) (turns n test ls body f) r)
        go true y r k = ok r ∙ k
        go false true r k = away r
        go false false r k = ok r ∙ k

    on_rounds : (qs : List ℕ) → run lim C m K qs ≡ fin (λ c. ρ (no_break c)) K (rounds n test ls body qs)
    unfolding rounds
    on_rounds qs = on_turns (length qs) qs (omega arith)

    on_loops : (before : Bool) (qs : List ℕ) → run lim C (pick before m b) K qs ≡ fin (λ c. ρ (no_break c)) K (loops before n test ls body qs)
    on_loops true qs = on_rounds qs
    on_loops false qs = ok qs ∙ on_turn ρ K ls m δ (rounds n test ls body) (body qs) z deep (on_rounds (body qs).rest)

  -- A way out of a finally block drops what was pending; behind it, what was pending goes on.
  module _ (ρ : Comp → Stat) (K : List Frame) (δ e : ℕ) (g : Good δ K ρ e) where
    drop_at : (s : Stat) → Lands e δ K s → (t d : ℕ) (r : List ℕ) → resume lim C s (pend t d ∷ K) r ≡ resume lim C s K r
    unfolding resume
    drop_at (at u v) p t d r = ap (λ x. run_pos lim C x r) (unwind_pend K t d u v (omega (arith, g.depth, p.1)))
    drop_at (ended x) p t d r = absurd p

    spent_any : (J : List Frame) (r : List ℕ) → resume lim C (ρ spent) J r ≡ res [] run_end.Spent r
    unfolding resume
    spent_any J r = ap (λ s. resume lim C s J r) g.stops

    on_close : (t d : ℕ) (r : List ℕ) (c : Comp) → resume lim C (next ρ (at 0 (suc δ)) c) (pend t d ∷ K) r ≡ resume lim C (pick (is_normal c) (at t d) (ρ c)) K r
    unfolding resume
    on_close t d r normal = ap (λ x. run_pos lim C x r) (unwind_back K t d (suc δ) (ap suc g.depth))
    on_close t d r (breaks l) = drop_at (ρ (breaks l)) (g.lands (breaks l) refl) t d r
    on_close t d r (continues l) = drop_at (ρ (continues l)) (g.lands (continues l) refl) t d r
    on_close t d r returns = drop_at (ρ returns) (g.lands returns refl) t d r
    on_close t d r throws = drop_at (ρ throws) (g.lands throws refl) t d r
    on_close t d r spent = spent_any (pend t d ∷ K) r ∙ sym (spent_any K r)

    -- A way out through the open finally block at f, whatever the target s: it runs, with s pending.
    module _ (f : ℕ) (k : List ℕ → Out)
        (ok : (t d : ℕ) → Lands e δ K (at t d) → (r : List ℕ) → run lim C f (pend t d ∷ K) r ≡ fin (next ρ (at 0 (suc δ))) (pend t d ∷ K) (k r)) where
      on_via : (s : Stat) → Lands e δ K s → (r : List ℕ)
          → resume lim C s (open' f ∷ K) r ≡ pre (k r).nodes (resume lim C (pick (is_normal (k r).comp) s (ρ (k r).comp)) K (k r).rest)
      unfolding resume fin
      on_via (at t d) p r =
          ap (λ x. run_pos lim C x r) (unwind_open K f t d (omega (arith, g.depth, p.1)))
          ∙ ok t d p r
          ∙ ap (pre (k r).nodes) (on_close t d (k r).rest (k r).comp)
      on_via (ended x) p r = absurd p

      pick_env : (b : Bool) (c c' : Comp) → pick b (ρ c) (ρ c') ≡ ρ (pick b c c')
      pick_env true c c' = refl
      pick_env false c c' = refl

      on_out : (o : Out) → fin ρ (open' f ∷ K) o ≡ fin ρ K (finally o k)
      unfolding fin
      on_out o = go o.comp
        where
          all : (c : Comp) → is_spent c ≡ false → pre o.nodes (resume lim C (ρ c) (open' f ∷ K) o.rest) ≡ fin ρ K (finally_if false (out o.nodes c o.rest) k)
          all c p =
              ap (pre o.nodes) (on_via (ρ c) (g.lands c p) o.rest ∙ ap (λ s. pre (k o.rest).nodes (resume lim C s K (k o.rest).rest)) (pick_env (is_normal (k o.rest).comp) c (k o.rest).comp))
              ∙ fin_more ρ K o.nodes (out (k o.rest).nodes (pick (is_normal (k o.rest).comp) c (k o.rest).comp) (k o.rest).rest)

          go : (c : Comp) → fin ρ (open' f ∷ K) (out o.nodes c o.rest) ≡ fin ρ K (finally (out o.nodes c o.rest) k)
          go normal = all normal refl
          go (breaks l) = all (breaks l) refl
          go (continues l) = all (continues l) refl
          go returns = all returns refl
          go throws = all throws refl
          go spent = ap (pre o.nodes) (spent_any (open' f ∷ K) o.rest ∙ sym (spent_any K o.rest))

  goto_len : (s : Stat) → length (goto s) ≡ 3
  goto_len s = refl

  -- A goto at m, and what stands behind it.
  has_goto : (m k : ℕ) (s : Stat) (a : List ℕ) → m ≡ k → Has C m (goto s ++ a) → Has C k (goto s)
  has_goto m k s a e h = has_move C m k (goto s) e (has_left C m (goto s) a h)

  has_behind : (m k : ℕ) (s : Stat) (a : List ℕ) → m + 3 ≡ k → Has C m (goto s ++ a) → Has C k a
  has_behind m k s a e h = has_right C m (goto s) a k (omega (arith, goto_len s)) h

  first_lands : (ss : Stmts) (o δ e : ℕ) (ρ : Comp → Stat) (K : List Frame) → 0 < o → o ≤ e → Good δ K ρ e → Lands o δ K (first ss o δ ρ)
  first_lands nil o δ e ρ K z p g = lands_less o e δ K (ρ normal) p (g.lands normal refl)
  first_lands (cons s ss) o δ e ρ K z p g = lands_here o δ K o z g.depth (inl (omega arith))

  through_lands : (cs : Cases) (o δ e : ℕ) (ρ : Comp → Stat) (K : List Frame) → 0 < o → o ≤ e → Good δ K ρ e → Lands o δ K (through cs o δ ρ)
  through_lands none o δ e ρ K z p g = lands_less o e δ K (ρ normal) p (g.lands normal refl)
  through_lands (case d ss cs) o δ e ρ K z p g = lands_here o δ K o z g.depth (inl (omega arith))

  case_here : (p c e : ℕ) (x : ℕ) → p < c → get_or C c 0 ≡ 7 → pick (is_case C p c) x e ≡ x
  case_here p c e x l h = ap (λ b. pick (b && eqb (get_or C c 0) 7) x e) (lt-ltb p c l) ∙ ap (λ b. pick b x e) (eq-eqb (get_or C c 0) 7 h)

  case_not : (p c e : ℕ) (x : ℕ) → c ≤ p → pick (is_case C p c) x e ≡ e
  case_not p c e x l = ap (λ b. pick (b && eqb (get_or C c 0) 7) x e) (le-ltb p c l)

  -- The chain of the cases leads to their places.
  chase_is : (cs : Cases) (p o δ : ℕ) (ρ : Comp → Stat) → p < o → Has C o (code_cases cs o δ ρ) → (e a : ℕ) → chase C p (link cs o) e a ≡ place cs o e a
  unfolding chase place code
  chase_is none p o δ ρ z h e zero = case_not p 0 e 0 (omega arith)
  chase_is none p o δ ρ z h e (suc a) = case_not p 0 e (chase C 0 (get_or C 1 0) e a) (omega arith)
  chase_is (case d ss cs) p o δ ρ z h e zero = case_here p o e o z h.0
  chase_is (case d ss cs) p o δ ρ z h e (suc a) =
      case_here p o e (chase C o (get_or C (suc o) 0) e a) z h.0
      ∙ ap (λ x. chase C o x e a) h.1.0
      ∙ chase_is cs o (o + 4 + sizes ss) δ ρ (omega arith)
      (has_right C (o + 4) (codes ss (o + 4) δ ρ') (code_cases cs (o + 4 + sizes ss) δ ρ) (o + 4 + sizes ss)
      (omega (arith, codes_length ss (o + 4) δ ρ'))
      (has_move C (suc (suc (suc (suc o)))) (o + 4) (codes ss (o + 4) δ ρ' ++ code_cases cs (o + 4 + sizes ss) δ ρ) (omega arith) h.1.1.1.1)) e a
    where
      ρ' : Comp → Stat
      ρ' = next ρ (through cs (o + 4 + sizes ss) δ ρ)

  place_end : (cs : Cases) (o e a : ℕ) → count cs ≤ a → place cs o e a ≡ e
  unfolding place
  place_end none o e a p = refl
  place_end (case d ss cs) o e zero p = absurd (omega arith)
  place_end (case d ss cs) o e (suc a) p = place_end cs (o + 4 + sizes ss) e a (omega arith)

  place_in : (cs : Cases) (o e z a : ℕ) → a < count cs → place cs o e a ≡ place cs o z a
  unfolding place
  place_in none o e z a p = absurd (omega arith)
  place_in (case d ss cs) o e z zero p = refl
  place_in (case d ss cs) o e z (suc a) p = place_in cs (o + 4 + sizes ss) e z a (omega arith)

  choice : (cs : Cases) (o e z a : ℕ) → e ≡ place cs o z (default_at cs) → place cs o e a ≡ place cs o z (entry a cs)
  choice cs o e z a h = go (ltb a (count cs)) refl
    where
      go : (b : Bool) → ltb a (count cs) ≡ b → place cs o e a ≡ place cs o z (pick b a (default_at cs))
      go true q = place_in cs o e z a (ltb-true a (count cs) q)
      go false q = place_end cs o e a (ltb-false a (count cs) q) ∙ h

  -- The statements' laws, with those of their parts as premises: S is what the code a of the length k does, which stands at o.
  abbrev Runs : ℕ → ℕ → ℕ → List ℕ → (Comp → Stat) → (List ℕ → Out) → Type 0
  Runs δ o k a ρ S = Has C o a → (K : List Frame) → Good δ K ρ (o + k) → (qs : List ℕ) → run lim C o K qs ≡ fin ρ K (S qs)

  on_leaf : (δ o n : ℕ) (c : Comp) (ρ : Comp → Stat) → is_spent c ≡ false → Runs δ o 5 (op.List ∷ n ∷ goto (ρ c)) ρ (λ qs. out (plain n ∷ []) c qs)
  unfolding fin
  on_leaf δ o n c ρ z h K g qs =
      on_list o n (goto (ρ c)) h K qs
      ∙ ap (pre (plain n ∷ []))
      (on_goto (o + 2) δ (ρ c) (has_move C (suc (suc o)) (o + 2) (goto (ρ c)) (omega arith) h.1.1) K
      (lands_less (suc (o + 2)) (o + 5) δ K (ρ c) (omega arith) (g.lands c z)) qs)

  on_seq : (δ o ka kb : ℕ) (ρ : Comp → Stat) (x : Stat) (a b : List ℕ) (S T : List ℕ → Out) → length a ≡ ka
      → Runs δ o ka a (next ρ x) S
      → ((K : List Frame) → Good δ K ρ (o + ka + kb) → Lands (o + ka) δ K x)
      → (Has C (o + ka) b → (K : List Frame) → Good δ K ρ (o + ka + kb) → (r : List ℕ) → resume lim C x K r ≡ fin ρ K (T r))
      → Runs δ o (ka + kb) (a ++ b) ρ (λ qs. and_then (S qs) T)
  on_seq δ o ka kb ρ x a b S T e sa lx sb h K g qs =
      sa (has_left C o a b h) K (good_next δ K ρ (o + ka + kb) (o + ka) x (omega arith) (lx K g') g') qs
      ∙ on_then ρ K x T (sb (has_right C o a b (o + ka) (omega arith) h) K g') (S qs)
    where
      g' : Good δ K ρ (o + ka + kb)
      g' = good_move δ K ρ (o + (ka + kb)) (o + ka + kb) (omega arith) g

  on_if1 : (δ o n ka : ℕ) (ρ : Comp → Stat) (a : List ℕ) (S : List ℕ → Out)
      → Runs δ (o + 7) ka a ρ S
      → Runs δ o (7 + ka) (op.Ask ∷ n ∷ (o + 7) ∷ (o + 4) ∷ goto (ρ normal) ++ a) ρ (λ qs. ask n qs (λ x r. pick (is_yes x) (S r) (out [] normal r)))
  unfolding fin
  on_if1 δ o n ka ρ a S sa h K g qs =
      on_ask o n (o + 7) (o + 4) (goto (ρ normal) ++ a) h ρ K g.stops qs (λ x r. pick (is_yes x) (S r) (out [] normal r)) (λ x r q. go (is_yes x) r)
    where
      g' : Good δ K ρ (o + 7 + ka)
      g' = good_move δ K ρ (o + (7 + ka)) (o + 7 + ka) (omega arith) g

      go : (x : Bool) (r : List ℕ) → run lim C (pick x (o + 7) (o + 4)) K r ≡ fin ρ K (pick x (S r) (out [] normal r))
      go true r = sa (has_behind (suc (suc (suc (suc o)))) (o + 7) (ρ normal) a (omega arith) h.1.1.1.1) K g' r
      go false r =
          on_goto (o + 4) δ (ρ normal) (has_goto (suc (suc (suc (suc o)))) (o + 4) (ρ normal) a (omega arith) h.1.1.1.1) K
          (lands_less (suc (o + 4)) (o + 7 + ka) δ K (ρ normal) (omega arith) (g'.lands normal refl)) r

  -- An If with an alternate: f says that the held statement stands first.
  on_if2 : (δ o n ka kb : ℕ) (f : Bool) (ρ : Comp → Stat) (a b : List ℕ) (S T : List ℕ → Out) → length a ≡ ka
      → Runs δ (o + 7) ka a ρ S → Runs δ (o + 7 + ka) kb b ρ T
      → Runs δ o (7 + ka + kb) (op.Ask ∷ n ∷ pick f (o + 7) (o + 7 + ka) ∷ pick f (o + 7 + ka) (o + 7) ∷ goto (ρ normal) ++ (a ++ b)) ρ
      (λ qs. ask n qs (λ x r. pick (is_yes x) (pick f (S r) (T r)) (pick f (T r) (S r))))
  on_if2 δ o n ka kb f ρ a b S T e sa sb h K g qs =
      on_ask o n (pick f (o + 7) (o + 7 + ka)) (pick f (o + 7 + ka) (o + 7)) (goto (ρ normal) ++ (a ++ b)) h ρ K g.stops qs
      (λ x r. pick (is_yes x) (pick f (S r) (T r)) (pick f (T r) (S r))) (λ x r q. go (is_yes x) f r)
    where
      g' : Good δ K ρ (o + 7 + ka + kb)
      g' = good_move δ K ρ (o + (7 + ka + kb)) (o + 7 + ka + kb) (omega arith) g

      ha : Has C (o + 7) (a ++ b)
      ha = has_behind (suc (suc (suc (suc o)))) (o + 7) (ρ normal) (a ++ b) (omega arith) h.1.1.1.1

      left : (r : List ℕ) → run lim C (o + 7) K r ≡ fin ρ K (S r)
      left r = sa (has_left C (o + 7) a b ha) K (good_less δ K ρ (o + 7 + ka + kb) (o + 7 + ka) (omega arith) g') r

      right : (r : List ℕ) → run lim C (o + 7 + ka) K r ≡ fin ρ K (T r)
      right r = sb (has_right C (o + 7) a b (o + 7 + ka) (omega arith) ha) K g' r

      go : (x y : Bool) (r : List ℕ) → run lim C (pick x (pick y (o + 7) (o + 7 + ka)) (pick y (o + 7 + ka) (o + 7))) K r ≡ fin ρ K (pick x (pick y (S r) (T r)) (pick y (T r) (S r)))
      go true true r = left r
      go true false r = right r
      go false true r = right r
      go false false r = left r

  on_block : (δ o k : ℕ) (ρ : Comp → Stat) (x : Stat) (a : List ℕ) (S : List ℕ → Out)
      → ((K : List Frame) → Good δ K ρ (o + 3 + k) → Lands (o + 3) δ K x)
      → (Has C (o + 3) a → (K : List Frame) → Good δ K ρ (o + 3 + k) → (r : List ℕ) → resume lim C x K r ≡ fin ρ K (S r))
      → Runs δ o (3 + k) (goto x ++ a) ρ S
  on_block δ o k ρ x a S lx sa h K g qs =
      on_goto o δ x (has_left C o (goto x) a h) K (lands_less (suc o) (o + 3) δ K x (omega arith) (lx K g')) qs
      ∙ sa (has_behind o (o + 3) x a refl h) K g' qs
    where
      g' : Good δ K ρ (o + 3 + k)
      g' = good_move δ K ρ (o + (3 + k)) (o + 3 + k) (omega arith) g

  on_loop : (δ o n ka : ℕ) (before test : Bool) (ls : List ℕ) (ρ : Comp → Stat) (a : List ℕ) (S : List ℕ → Out) → Shrinks S
      → Runs δ (o + 10) ka a (in_loop ls (o + 3) δ ρ) S
      → Runs δ o (10 + ka)
      (op.Leave ∷ pick before (o + 3) (o + 10) ∷ δ ∷ op.Ask ∷ n ∷ (o + 10) ∷ pick test (o + 7) (o + 10) ∷ goto (ρ normal) ++ a) ρ (λ qs. unbreak (loops before n test ls S qs))
  unfolding fin
  on_loop δ o n ka before test ls ρ a S less sa h K g qs =
      on_leave o (pick before (o + 3) (o + 10)) δ (op.Ask ∷ n ∷ (o + 10) ∷ pick test (o + 7) (o + 10) ∷ goto (ρ normal) ++ a) h K (go before) qs
      ∙ resume_here (pick before (o + 3) (o + 10)) δ K (pos' before) g.depth qs
      ∙ on_loops ρ K ls (o + 3) (o + 10) (o + 7) n δ test S (goto (ρ normal) ++ a) hb (omega arith) g.stops g.depth
      (on_goto (o + 7) δ (ρ normal) (has_goto (suc (suc (suc (suc (o + 3))))) (o + 7) (ρ normal) a (omega arith) hb.1.1.1.1) K
      (lands_less (suc (o + 7)) (o + 10 + ka) δ K (ρ normal) (omega arith) (g'.lands normal refl)))
      less
      (sa (has_behind (suc (suc (suc (suc (o + 3))))) (o + 10) (ρ normal) a (omega arith) hb.1.1.1.1) K
      (good_loop δ K ρ ls (o + 10 + ka) (o + 3) (omega arith) (n, o + 10, pick test (o + 7) (o + 10), asking (o + 3) n (o + 10) (pick test (o + 7) (o + 10)) (goto (ρ normal) ++ a) hb) g'))
      before qs
    where
      g' : Good δ K ρ (o + 10 + ka)
      g' = good_move δ K ρ (o + (10 + ka)) (o + 10 + ka) (omega arith) g

      hb : Has C (o + 3) (op.Ask ∷ n ∷ (o + 10) ∷ pick test (o + 7) (o + 10) ∷ goto (ρ normal) ++ a)
      hb = has_move C (suc (suc (suc o))) (o + 3) (op.Ask ∷ n ∷ (o + 10) ∷ pick test (o + 7) (o + 10) ∷ goto (ρ normal) ++ a) (omega arith) h.1.1.1

      pos' : (x : Bool) → 0 < pick x (o + 3) (o + 10)
      pos' true = omega arith
      pos' false = omega arith

      go : (x : Bool) → Fwd (suc o) (unwind K (pick x (o + 3) (o + 10)) δ).pc
      go true = rw (unwind_here K (o + 3) δ (omega arith) g.depth) (inl (omega arith))
      go false = rw (unwind_here K (o + 10) δ (omega arith) g.depth) (inl (omega arith))

  on_switch : (δ o n kb : ℕ) (cs : Cases) (ρ : Comp → Stat) (b : List ℕ)
      → ((e a : ℕ) → Has C (o + 7) b → chase C o (link cs (o + 7)) e a ≡ place cs (o + 7) e a)
      → (Has C (o + 7) b → (K : List Frame) → Good δ K (λ c. ρ (no_break c)) (o + 7 + kb) → (z : ℕ) → ((r : List ℕ) → run lim C z K r ≡ resume lim C (ρ normal) K r)
      → (i : ℕ) (qs : List ℕ) → run lim C (place cs (o + 7) z i) K qs ≡ fin (λ c. ρ (no_break c)) K (exec_from cs i qs))
      → Runs δ o (7 + kb) (op.Select ∷ n ∷ link cs (o + 7) ∷ place cs (o + 7) (o + 4) (default_at cs) ∷ goto (ρ normal) ++ b) ρ
      (λ qs. ask n qs (λ a r. unbreak (exec_from cs (entry a cs) r)))
  unfolding fin
  on_switch δ o n kb cs ρ b ch sb h K g qs =
      on_select o n (link cs (o + 7)) (place cs (o + 7) (o + 4) (default_at cs)) (goto (ρ normal) ++ b) h ρ K g.stops qs
      (λ a r. unbreak (exec_from cs (entry a cs) r))
      (λ a r. ap (λ x. run lim C x K r) (ch (place cs (o + 7) (o + 4) (default_at cs)) a hb ∙ choice cs (o + 7) (place cs (o + 7) (o + 4) (default_at cs)) (o + 4) a refl)
      ∙ sb hb K (good_break δ K ρ (o + 7 + kb) g') (o + 4)
      (on_goto (o + 4) δ (ρ normal) (has_goto (suc (suc (suc (suc o)))) (o + 4) (ρ normal) b (omega arith) h.1.1.1.1) K
      (lands_less (suc (o + 4)) (o + 7 + kb) δ K (ρ normal) (omega arith) (g'.lands normal refl)))
      (entry a cs) r)
    where
      g' : Good δ K ρ (o + 7 + kb)
      g' = good_move δ K ρ (o + (7 + kb)) (o + 7 + kb) (omega arith) g

      hb : Has C (o + 7) b
      hb = has_behind (suc (suc (suc (suc o)))) (o + 7) (ρ normal) b (omega arith) h.1.1.1.1

  on_try_c : (δ o ka kb : ℕ) (ρ : Comp → Stat) (a b : List ℕ) (S T : List ℕ → Out) → length a ≡ ka → 0 < ka
      → Runs δ o ka a (in_try ρ (o + ka) δ) S → Runs δ (o + ka) kb b ρ T
      → Runs δ o (ka + kb) (a ++ b) ρ (λ qs. catching (S qs) T)
  on_try_c δ o ka kb ρ a b S T e z sa sb h K g qs =
      sa (has_left C o a b h) K (good_try δ K ρ (o + ka + kb) (o + ka) (omega arith) (omega arith) g') qs
      ∙ on_catch ρ K (o + ka) δ T (omega arith) g.depth (sb (has_right C o a b (o + ka) (omega arith) h) K g') (S qs)
    where
      g' : Good δ K ρ (o + ka + kb)
      g' = good_move δ K ρ (o + (ka + kb)) (o + ka + kb) (omega arith) g

  on_try_f : (δ o ka kb : ℕ) (ρ : Comp → Stat) (a b : List ℕ) (S T : List ℕ → Out) → length a ≡ ka → δ < lim
      → Runs (suc δ) (o + 2) ka a ρ S → Runs (suc δ) (o + 2 + ka) kb b (next ρ (at 0 (suc δ))) T
      → Runs δ o (2 + ka + kb) (op.Open ∷ (o + 2 + ka) ∷ a ++ b) ρ (λ qs. finally (S qs) T)
  on_try_f δ o ka kb ρ a b S T e d sa sb h K g qs =
      on_open o (o + 2 + ka) (a ++ b) h K (omega (arith, g.depth)) qs
      ∙ sa (has_left C (o + 2) a b ha) (open' (o + 2 + ka) ∷ K) (good_open δ K ρ (o + 2 + ka + kb) (o + 2 + ka) g') qs
      ∙ on_out ρ K δ (o + 2 + ka + kb) g' (o + 2 + ka) T
      (λ t d l r. sb (has_right C (o + 2) a b (o + 2 + ka) (omega arith) ha) (pend t d ∷ K) (good_pend δ K ρ (o + 2 + ka + kb) t d l g') r) (S qs)
    where
      g' : Good δ K ρ (o + 2 + ka + kb)
      g' = good_move δ K ρ (o + (2 + ka + kb)) (o + 2 + ka + kb) (omega arith) g

      ha : Has C (o + 2) (a ++ b)
      ha = has_move C (suc (suc o)) (o + 2) (a ++ b) (omega arith) h.1.1

  -- The fall through to the next case.
  on_through : (cs : Cases) (o δ z : ℕ) (ρ : Comp → Stat) (K : List Frame) → 0 < o → length K ≡ δ
      → ((r : List ℕ) → run lim C (place cs o z zero) K r ≡ fin ρ K (exec_from cs zero r)) → (r : List ℕ) → resume lim C (through cs o δ ρ) K r ≡ fin ρ K (exec_from cs zero r)
  unfolding fin exec place
  on_through none o δ z ρ K w h f r = refl
  on_through (case d ss cs) o δ z ρ K w h f r = resume_here o δ K w h r ∙ f r

  on_case : (δ o ka kb l : ℕ) (ρ : Comp → Stat) (x y : Stat) (a b : List ℕ) (S T : List ℕ → Out) (K : List Frame) → length a ≡ ka
      → Has C o (case_to l x ++ (a ++ b)) → Good δ K ρ (o + 4 + ka + kb)
      → Lands (o + 4 + ka) δ K y
      → (Good δ K (next ρ y) (o + 4 + ka) → Lands (o + 4) δ K x)
      → (Has C (o + 4) a → Good δ K (next ρ y) (o + 4 + ka) → (r : List ℕ) → resume lim C x K r ≡ fin (next ρ y) K (S r))
      → (Has C (o + 4 + ka) b → (r : List ℕ) → resume lim C y K r ≡ fin ρ K (T r))
      → (qs : List ℕ) → run lim C o K qs ≡ fin ρ K (and_then (S qs) T)
  on_case δ o ka kb l ρ x y a b S T K e h g ly lx sa sb qs =
      on_case_to o δ l x (a ++ b) h K (lands_less (suc o) (o + 4) δ K x (omega arith) (lx g')) qs
      ∙ sa (has_left C (o + 4) a b hb) g' qs
      ∙ on_then ρ K y T (sb (has_right C (o + 4) a b (o + 4 + ka) (omega arith) hb)) (S qs)
    where
      g' : Good δ K (next ρ y) (o + 4 + ka)
      g' = good_next δ K ρ (o + 4 + ka + kb) (o + 4 + ka) y (omega arith) ly g

      hb : Has C (o + 4) (a ++ b)
      hb = has_move C (suc (suc (suc (suc o)))) (o + 4) (a ++ b) (omega arith) h.1.1.1.1

  leaf_not : (l : Leaf) → is_spent (comp_of l) ≡ false
  leaf_not simple = refl
  leaf_not (brk l) = refl
  leaf_not (con l) = refl
  leaf_not ret = refl
  leaf_not thr = refl

  mutual
    unfolding code size exec place fin

    pub correct : (s : Stmt) (ls : List ℕ) (o δ r : ℕ) (ρ : Comp → Stat) → δ + r ≤ lim → Room s r → Runs δ o (size s) (code s ls o δ ρ) ρ (exec s ls)
    correct (leaf n l) ls o δ r ρ m w h K g qs = on_leaf δ o n (comp_of l) ρ (leaf_not l) h K g qs
    correct (if1 n s) ls o δ r ρ m w h K g qs =
        on_if1 δ o n (size s) ρ (code s [] (o + 7) δ ρ) (λ u. exec s [] u) (λ h' K' g' u. correct s [] (o + 7) δ r ρ m w h' K' g' u) h K g qs
    correct (if2 n s t) ls o δ r ρ m w h K g qs =
        on_if2 δ o n (size s) (size t) true ρ (code s [] (o + 7) δ ρ) (code t [] (o + 7 + size s) δ ρ) (λ u. exec s [] u) (λ u. exec t [] u) (code_length s [] _ _ _)
        (λ h' K' g' u. correct s [] (o + 7) δ r ρ m w.0 h' K' g' u) (λ h' K' g' u. correct t [] (o + 7 + size s) δ r ρ m w.1 h' K' g' u) h K g qs
    correct (if3 n t s) ls o δ r ρ m w h K g qs =
        on_if2 δ o n (size t) (size s) false ρ (code t [] (o + 7) δ ρ) (code s [] (o + 7 + size t) δ ρ) (λ u. exec t [] u) (λ u. exec s [] u) (code_length t [] _ _ _)
        (λ h' K' g' u. correct t [] (o + 7) δ r ρ m w.0 h' K' g' u) (λ h' K' g' u. correct s [] (o + 7 + size t) δ r ρ m w.1 h' K' g' u) h K g qs
    correct (withs n s) ls o δ r ρ m w h K g qs =
        on_list o n (code s [] (o + 2) δ ρ) h K qs
        ∙ ap (pre (plain n ∷ []))
        (correct s [] (o + 2) δ r ρ m w (has_move C (suc (suc o)) (o + 2) (code s [] (o + 2) δ ρ) (omega arith) h.1.1) K
        (good_move δ K ρ (o + (2 + size s)) (o + 2 + size s) (omega arith) g) qs)
    correct (block ss) ls o δ r ρ m w h K g qs =
        on_block δ o (sizes ss) ρ (first ss (o + 3) δ ρ) (codes ss (o + 3) δ ρ) (λ u. execs ss u)
        (λ K' g'. first_lands ss (o + 3) δ (o + 3 + sizes ss) ρ K' (omega arith) (omega arith) g')
        (λ h' K' g' u. corrects ss (o + 3) δ r ρ m w (omega arith) h' K' g' u) h K g qs
    correct (label l s) ls o δ r ρ m w h K g qs = correct s (l ∷ ls) o δ r (λ c. ρ (no_label l c)) m w h K (good_label δ K ρ (o + size s) l g) qs
    correct (loop n before test s) ls o δ r ρ m w h K g qs =
        on_loop δ o n (size s) before test ls ρ (code s [] (o + 10) δ (in_loop ls (o + 3) δ ρ)) (λ u. exec s [] u) (exec_rest s [])
        (λ h' K' g' u. correct s [] (o + 10) δ r (in_loop ls (o + 3) δ ρ) m w h' K' g' u) h K g qs
    correct (switch n cs) ls o δ r ρ m w h K g qs =
        on_switch δ o n (size_cases cs) cs ρ (code_cases cs (o + 7) δ (λ c. ρ (no_break c)))
        (λ e a h'. chase_is cs o (o + 7) δ (λ c. ρ (no_break c)) (omega arith) h' e a)
        (λ h' K' g' z f i u. correct_from cs (o + 7) δ r (λ c. ρ (no_break c)) m w (omega arith) h' K' g' z f i u) h K g qs
    correct (try_c b c) ls o δ r ρ m w h K g qs =
        on_try_c δ o (size b) (size c) ρ (code b [] o δ (in_try ρ (o + size b) δ)) (code c [] (o + size b) δ ρ) (λ u. exec b [] u) (λ u. exec c [] u)
        (code_length b [] _ _ _) (size_pos b) (λ h' K' g' u. correct b [] o δ r (in_try ρ (o + size b) δ) m w.0 h' K' g' u)
        (λ h' K' g' u. correct c [] (o + size b) δ r ρ m w.1 h' K' g' u) h K g qs
    correct (try_f b f) ls o δ zero ρ m w h K g qs = absurd w
    correct (try_f b f) ls o δ (suc r) ρ m w h K g qs =
        on_try_f δ o (size b) (size f) ρ (code b [] (o + 2) (suc δ) ρ) (code f [] (o + 2 + size b) (suc δ) (next ρ (at 0 (suc δ)))) (λ u. exec b [] u) (λ u. exec f [] u)
        (code_length b [] _ _ _) (omega arith) (λ h' K' g' u. correct b [] (o + 2) (suc δ) r ρ (omega arith) w.0 h' K' g' u)
        (λ h' K' g' u. correct f [] (o + 2 + size b) (suc δ) r (next ρ (at 0 (suc δ))) (omega arith) w.1 h' K' g' u) h K g qs

    pub corrects : (ss : Stmts) (o δ r : ℕ) (ρ : Comp → Stat) → δ + r ≤ lim → RoomAll ss r → 0 < o → Has C o (codes ss o δ ρ) → (K : List Frame) → Good δ K ρ (o + sizes ss)
        → (qs : List ℕ) → resume lim C (first ss o δ ρ) K qs ≡ fin ρ K (execs ss qs)
    corrects nil o δ r ρ m w z h K g qs = refl
    corrects (cons s ss) o δ r ρ m w z h K g qs =
        resume_here o δ K z g.depth qs
        ∙ on_seq δ o (size s) (sizes ss) ρ (first ss (o + size s) δ ρ) (code s [] o δ (next ρ (first ss (o + size s) δ ρ))) (codes ss (o + size s) δ ρ) (λ u. exec s [] u) (λ u. execs ss u)
        (code_length s [] _ _ _) (λ h' K' g' u. correct s [] o δ r (next ρ (first ss (o + size s) δ ρ)) m w.0 h' K' g' u)
        (λ K' g'. first_lands ss (o + size s) δ (o + size s + sizes ss) ρ K' (omega arith) (omega arith) g')
        (λ h' K' g' u. corrects ss (o + size s) δ r ρ m w.1 (omega arith) h' K' g' u) h K g qs

    -- At z stands a goto to where the cases end.
    pub correct_from : (cs : Cases) (o δ r : ℕ) (ρ : Comp → Stat) → δ + r ≤ lim → RoomCases cs r → 0 < o → Has C o (code_cases cs o δ ρ) → (K : List Frame) → Good δ K ρ (o + size_cases cs)
        → (z : ℕ) → ((u : List ℕ) → run lim C z K u ≡ resume lim C (ρ normal) K u) → (i : ℕ) (qs : List ℕ) → run lim C (place cs o z i) K qs ≡ fin ρ K (exec_from cs i qs)
    correct_from none o δ r ρ m w p h K g z f i qs = f qs
    correct_from (case d ss cs) o δ r ρ m w p h K g z f zero qs =
        on_case δ o (sizes ss) (size_cases cs) (link cs (o + 4 + sizes ss)) ρ (first ss (o + 4) δ (next ρ (through cs (o + 4 + sizes ss) δ ρ))) (through cs (o + 4 + sizes ss) δ ρ)
        (codes ss (o + 4) δ (next ρ (through cs (o + 4 + sizes ss) δ ρ))) (code_cases cs (o + 4 + sizes ss) δ ρ) (λ u. execs ss u) (λ u. exec_from cs zero u) K
        (codes_length ss _ _ _) h (good_move δ K ρ (o + (4 + sizes ss + size_cases cs)) (o + 4 + sizes ss + size_cases cs) (omega arith) g)
        (through_lands cs (o + 4 + sizes ss) δ (o + 4 + sizes ss + size_cases cs) ρ K (omega arith) (omega arith)
        (good_move δ K ρ (o + (4 + sizes ss + size_cases cs)) (o + 4 + sizes ss + size_cases cs) (omega arith) g))
        (λ g'. first_lands ss (o + 4) δ (o + 4 + sizes ss) (next ρ (through cs (o + 4 + sizes ss) δ ρ)) K (omega arith) (omega arith) g')
        (λ h' g' u. corrects ss (o + 4) δ r (next ρ (through cs (o + 4 + sizes ss) δ ρ)) m w.0 (omega arith) h' K g' u)
        (λ h' u. on_through cs (o + 4 + sizes ss) δ z ρ K (omega arith) g.depth
        (λ v. correct_from cs (o + 4 + sizes ss) δ r ρ m w.1 (omega arith) h' K (good_move δ K ρ (o + (4 + sizes ss + size_cases cs)) (o + 4 + sizes ss + size_cases cs) (omega arith) g) z f zero v) u) qs
    correct_from (case d ss cs) o δ r ρ m w p h K g z f (suc i) qs =
        correct_from cs (o + 4 + sizes ss) δ r ρ m w.1 (omega arith)
        (has_right C (o + 4) (codes ss (o + 4) δ (next ρ (through cs (o + 4 + sizes ss) δ ρ))) (code_cases cs (o + 4 + sizes ss) δ ρ) (o + 4 + sizes ss)
        (omega (arith, codes_length ss (o + 4) δ (next ρ (through cs (o + 4 + sizes ss) δ ρ))))
        (has_move C (suc (suc (suc (suc o)))) (o + 4)
        (codes ss (o + 4) δ (next ρ (through cs (o + 4 + sizes ss) δ ρ)) ++ code_cases cs (o + 4 + sizes ss) δ ρ) (omega arith) h.1.1.1.1))
        K (good_move δ K ρ (o + (4 + sizes ss + size_cases cs)) (o + 4 + sizes ss + size_cases cs) (omega arith) g) z f i qs

top_good : (lim : ℕ) (C : List ℕ) (m e : ℕ) → m ≡ e → Good lim C 0 [] (top m) e
unfolding unwind
top_good lim C m e p = record { stops = refl; lands = go; depth = refl }
  where
    go : (c : Comp) → is_spent c ≡ false → Lands lim C e 0 [] (top m c)
    go normal q = (inl (omega arith), omega arith)
    go (breaks l) q = (inl (omega arith), omega arith)
    go (continues l) q = (inl (omega arith), omega arith)
    go returns q = (inl (omega arith), omega arith)
    go throws q = (inl (omega arith), omega arith)
    go spent q = absurd (true≢false q)

-- At the end of a unit.
at_end : (lim : ℕ) (C : List ℕ) (m : ℕ) → Has C m ends → (o : Out) → fin lim C (top m) [] o ≡ result o
unfolding fin resume unwind
at_end lim C m h o = ap (pre o.nodes) (go o.comp) ∙ ap (λ l. res l (end_of o.comp) o.rest) (append-nil o.nodes)
  where
    one : Has C (m + 2) (op.End ∷ 1 ∷ op.End ∷ 2 ∷ op.End ∷ 5 ∷ [])
    one = has_move C (suc (suc m)) (m + 2) (op.End ∷ 1 ∷ op.End ∷ 2 ∷ op.End ∷ 5 ∷ []) (omega arith) h.1.1

    two : Has C (m + 4) (op.End ∷ 2 ∷ op.End ∷ 5 ∷ [])
    two = has_move C (suc (suc (m + 2))) (m + 4) (op.End ∷ 2 ∷ op.End ∷ 5 ∷ []) (omega arith) one.1.1

    four : Has C (m + 6) (op.End ∷ 5 ∷ [])
    four = has_move C (suc (suc (m + 4))) (m + 6) (op.End ∷ 5 ∷ []) (omega arith) two.1.1

    go : (c : Comp) → resume lim C (top m c) [] o.rest ≡ res [] (end_of c) o.rest
    go normal = on_end lim C m 0 (op.End ∷ 1 ∷ op.End ∷ 2 ∷ op.End ∷ 5 ∷ []) h [] o.rest
    go (breaks l) = on_end lim C (m + 6) 5 [] four [] o.rest
    go (continues l) = on_end lim C (m + 6) 5 [] four [] o.rest
    go returns = on_end lim C (m + 2) 1 (op.End ∷ 2 ∷ op.End ∷ 5 ∷ []) one [] o.rest
    go throws = on_end lim C (m + 4) 2 (op.End ∷ 5 ∷ []) two [] o.rest
    go spent = refl

-- A unit from its first place on.
from_start : (lim : ℕ) (C : List ℕ) (ss : Stmts) (ρ : Comp → Stat) → RoomAll ss lim → Has C 0 (codes ss 0 0 ρ) → Good lim C 0 [] ρ (sizes ss)
    → ((u : List ℕ) → run lim C (sizes ss) [] u ≡ resume lim C (ρ normal) [] u) → (qs : List ℕ) → run lim C 0 [] qs ≡ fin lim C ρ [] (execs ss qs)
unfolding code size exec fin
from_start lim C nil ρ w h g f qs = f qs
from_start lim C (cons s ss) ρ w h g f qs =
    on_seq lim C 0 0 (size s) (sizes ss) ρ (first ss (0 + size s) 0 ρ) (code s [] 0 0 (next ρ (first ss (0 + size s) 0 ρ))) (codes ss (0 + size s) 0 ρ) (λ u. exec s [] u) (λ u. execs ss u)
    (code_length s [] _ _ _) (λ h' K' g' u. correct lim C s [] 0 0 lim (next ρ (first ss (0 + size s) 0 ρ)) (omega arith) w.0 h' K' g' u)
    (λ K' g'. first_lands lim C ss (0 + size s) 0 (0 + size s + sizes ss) ρ K' (omega (arith, size_pos s)) (omega arith) g')
    (λ h' K' g' u. corrects lim C ss (0 + size s) 0 lim ρ (omega arith) w.1 (omega (arith, size_pos s)) h' K' g' u) h [] (good_move lim C 0 [] ρ (size s + sizes ss) (0 + (size s + sizes ss)) (omega arith) g) qs

-- For every unit and every list of answers: the run of its code is what the unit does.
pub unit_correct : (lim : ℕ) (ss : Stmts) → RoomAll ss lim → (qs : List ℕ) → run lim (unit ss) 0 [] qs ≡ result (execs ss qs)
unfolding unit resume unwind
unit_correct lim ss w qs =
    from_start lim (unit ss) ss (top (sizes ss)) w (has_left (unit ss) 0 (codes ss 0 0 (top (sizes ss))) ends (has_self (unit ss))) (top_good lim (unit ss) (sizes ss) (sizes ss) refl) (λ u. refl) qs
    ∙ at_end lim (unit ss) (sizes ss)
    (has_right (unit ss) 0 (codes ss 0 0 (top (sizes ss))) ends (sizes ss) (omega (arith, codes_length ss 0 0 (top (sizes ss)))) (has_self (unit ss)))
    (execs ss qs)

pub unit_length : (ss : Stmts) → length (unit ss) ≡ sizes ss + 8
unfolding unit
unit_length ss = simp length-append (omega (arith, codes_length ss 0 0 (top (sizes ss))))
