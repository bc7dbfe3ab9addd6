-- Laws of one instruction of the machine, by its kind.
use Prim.Native.Nat.{ℕ, zero, suc, ◌+◌, ◌-◌, ◌≤◌, ◌<◌}
use Rattle.std.specs.Prelude.{◌≡◌, refl, ◌≢◌, true, false, length, drop, set, ltb}
use Rattle.std.proofs.Math.Path.{sym, ap}
use Rattle.std.proofs.Common.{◌∙◌, drop_of_length-le, drop-cons, ne_eqb, lt-ltb, le-ltb}
use mathlib.Core.List.{List, [], ◌∷◌}
use Rattle.std.proofs.Math.ListN.{get_or}
use native.Mathlib.Omega.{arith}
use Rattle.route_completion.specs.Sem.{plain, asked, pick, is_yes}
use Rattle.route_completion.specs.Route.{asks}
use Rattle.route_completion.specs.Ends as run_end
use Rattle.code_flat.specs.Opcodes as op
use Rattle.code_flat.specs.Machine.{room, res, pre, Instr, ASK, SELECT, decode, fetch, open', pos, is_case, chase, measure}
use Rattle.code_flat.proofs.Runs.{past}
use Rattle.code_marks.specs.Stop.{Stop, over, after, stops}
use Rattle.code_marks.proofs.StopLaws.{finished, finished_after, stops_law}
use Rattle.code_marks.specs.Steps.{pass, jump, step}
use Rattle.code_marks.proofs.StepsLaws.{after_none, stops_step}
use Rattle.code_machine.specs.Pending.{half, frame_of, stack}
use Rattle.code_machine.proofs.PendingLaws.{stack_length, stack_push, on_true, on_false}
use Rattle.code_machine.specs.declared.Place.{Place}
use Rattle.code_machine.specs.declared.Landing.{Landing}
use Rattle.code_machine.specs.declared.Step.TheVariants.{Over, On, Listed}
use Rattle.code_machine.specs.Turn.{from, up_to, Passes, Lands, Lists, Opens, Ends, Going, Turned}

-- What a step says of a run that isn't stopped.
pub ends_run : (C qs ends : List ℕ) (p : Place) (e : ℕ) → Ends C qs ends p e → from C qs ends p ≡ res [] e (drop p.at qs)
ends_run C qs ends p e h = stops_law room C 0 p.budget p.pc (stack ends p.pending) (drop p.at qs) ∙ ap (finished room C) (h 0)

pub going_run : (C qs ends ends' : List ℕ) (p : Place) (l : List ℕ) (q : Place) (g : Going C qs ends ends' p l q) → from C qs ends p ≡ pre g.shown (from C qs ends' q)
going_run C qs ends ends' p l q g =
    stops_law room C (asks g.shown) p.budget p.pc (stack ends p.pending) (drop p.at qs)
    ∙ ap (finished room C) (g.halts (suc (asks g.shown)) 1 (omega arith) (omega arith))
    ∙ finished_after room C g.shown (up_to C qs ends' q 1)
    ∙ ap (pre g.shown) (sym (stops_law room C 0 q.budget q.pc (stack ends' q.pending) (drop q.at qs)))

-- The chain of cases, as a loop goes along it.
module _ (C : List ℕ) (p c e a : ℕ) where
  pub chase_end : is_case C p c ≡ false → chase C p c e a ≡ e
  unfolding chase
  chase_end h = go a
    where
      go : (b : ℕ) → chase C p c e b ≡ e
      go zero = ap (λ t. pick t c e) h
      go (suc b) = ap (λ t. pick t (chase C c (get_or C (suc c) 0) e b) e) h

  pub chase_here : is_case C p c ≡ true → a ≡ 0 → chase C p c e a ≡ c
  unfolding chase
  chase_here h q = ap (chase C p c e) q ∙ ap (λ t. pick t c e) h

  pub chase_on : is_case C p c ≡ true → (b : ℕ) → a ≡ suc b → chase C p c e a ≡ chase C c (get_or C (c + 1) 0) e b
  unfolding chase
  chase_on h b q =
      let o : suc c ≡ c + 1 = omega arith in
      ap (chase C p c e) q ∙ ap (λ t. pick t (chase C c (get_or C (suc c) 0) e b) e) h ∙ ap (λ k. chase C c (get_or C k 0) e b) o

-- An instruction passes; b is what is left.
passed : (b : ℕ) (k : ℕ → Stop) (r : List ℕ) → b ≢ 0 → pass b k r ≡ k (b - 1)
passed zero k r h = absurd (h refl)
passed (suc b) k r h =
    let e : suc b - 1 ≡ b = omega arith in
    ap k (sym e)

stuck : (b : ℕ) (k : ℕ → Stop) (r : List ℕ) → b ≡ 0 → pass b k r ≡ over (res [] run_end.Astray r)
stuck zero k r h = refl
stuck (suc b) k r h = absurd (omega arith)

-- The instruction at p.
module _ (C qs ends : List ℕ) (p : Place) where
  -- One step, of a run that is stopped behind one more answer than m.
  abbrev stepped : ℕ → Instr → Stop
  stepped m i = step room C (stops room C (suc m)) (stops room C m (length C)) i p.budget p.pc (stack ends p.pending) (drop p.at qs)

  fetches : (i : Instr) → fetch C p.pc ≡ i → (m : ℕ) → up_to C qs ends p (suc m) ≡ stepped m i
  fetches i q m = stops_step room C m p.budget p.pc (stack ends p.pending) (drop p.at qs) ∙ ap (stepped m) q

  -- Past the code.
  pub on_past : length C ≤ p.pc → Ends C qs ends p 5
  on_past h m = fetches _ (past C p.pc h) m

  -- Its words.
  module _ (o x y z : ℕ) (ho : o ≡ get_or C p.pc 0) (hx : x ≡ get_or C (p.pc + 1) 0) (hy : y ≡ get_or C (p.pc + 2) 0) (hz : z ≡ get_or C (p.pc + 3) 0) where
    fetched : fetch C p.pc ≡ decode o x y z
    unfolding fetch
    fetched =
        let one : suc p.pc ≡ p.pc + 1 = omega arith in
        let two : suc (suc p.pc) ≡ p.pc + 2 = omega arith in
        let three : suc (suc (suc p.pc)) ≡ p.pc + 3 = omega arith in
        λ j. decode (sym ho j) ((ap (λ k. get_or C k 0) one ∙ sym hx) j) ((ap (λ k. get_or C k 0) two ∙ sym hy) j) ((ap (λ k. get_or C k 0) three ∙ sym hz) j)

    pub on_instr : (i : ℕ) → o ≡ i → (m : ℕ) → up_to C qs ends p (suc m) ≡ stepped m (decode i x y z)
    on_instr i q m = fetches (decode i x y z) (fetched ∙ ap (λ k. decode k x y z) q) m

    -- No instruction.
    pub on_none : o ≢ op.List → o ≢ op.Leave → o ≢ op.Ask → o ≢ op.Select → o ≢ op.Open → o ≢ op.End → o ≢ op.Case → Ends C qs ends p 5
    on_none a b c d e f g m =
        on_instr o refl m
        ∙ rw (ne_eqb o op.List a, ne_eqb o op.Leave b, ne_eqb o op.Ask c, ne_eqb o op.Select d, ne_eqb o op.Open e, ne_eqb o op.End f, ne_eqb o op.Case g) refl

-- One instruction passes.
module _ (C qs ends ends' : List ℕ) (p : Place) (t n : ℕ) (to : Passes C qs ends ends' p t n) where
  pub pass_stuck : p.budget ≡ 0 → Turned C qs ends ends' p (Over 5)
  pass_stuck z m = to m ∙ stuck p.budget (λ b. stops room C (suc m) b t (stack ends' n) (drop p.at qs)) (drop p.at qs) z

  pub pass_on : p.budget ≢ 0 → n ≤ room → Turned C qs ends ends' p (On (record { pc = t; at = p.at; budget = p.budget - 1; pending = n }))
  unfolding asks
  pass_on z w =
      record {
        less = omega arith;
        most = w;
        named = λ d. absurd (d refl);
        shown = [];
        nodes = refl;
        takes = omega arith;
        halts = goes;
      }
    where
      goes : (m k : ℕ) → m ≡ asks [] + k → 0 < m → up_to C qs ends p m ≡ after [] (stops room C k (p.budget - 1) t (stack ends' n) (drop p.at qs))
      goes zero k e l = absurd (omega arith)
      goes (suc m) k e l =
          let s : suc m ≡ k = omega arith in
          to m ∙ passed p.budget (λ b. stops room C (suc m) b t (stack ends' n) (drop p.at qs)) (drop p.at qs) z
          ∙ ap (λ x. stops room C x (p.budget - 1) t (stack ends' n) (drop p.at qs)) s
          ∙ sym (after_none (stops room C k (p.budget - 1) t (stack ends' n) (drop p.at qs)))

-- Control goes to where a jump has come to.
module _ (C qs ends ends' : List ℕ) (p : Place) (land : Landing) (to : Lands C qs ends ends' p land) where
  pub land_zero : land.place ≡ 0 → Turned C qs ends ends' p (Over 5)
  land_zero h m = to m ∙ ap (λ t. jump (stops room C (suc m)) p.budget (pos t (stack ends' land.pending)) (drop p.at qs)) h

  pub land_on : land.place ≢ 0 → (t : ℕ) → t ≡ land.place → Passes C qs ends ends' p t land.pending
  land_on h t e m = to m ∙ go land.place h ∙ ap (λ u. pass p.budget (λ b. stops room C (suc m) b u (stack ends' land.pending) (drop p.at qs)) (drop p.at qs)) (sym e)
    where
      go : (u : ℕ) → u ≢ 0 → jump (stops room C (suc m)) p.budget (pos u (stack ends' land.pending)) (drop p.at qs)
          ≡ pass p.budget (λ b. stops room C (suc m) b u (stack ends' land.pending) (drop p.at qs)) (drop p.at qs)
      go zero d = absurd (d refl)
      go (suc u) d = refl

-- The node x is listed, and the run goes on at t.
module _ (C qs ends : List ℕ) (p : Place) (x t : ℕ) (to : Lists C qs ends p x t) where
  pub list_stuck : p.budget ≡ 0 → Turned C qs ends ends p (Over 5)
  list_stuck z m = to m ∙ stuck p.budget (λ b. after (plain x ∷ []) (stops room C (suc m) b t (stack ends p.pending) (drop p.at qs))) (drop p.at qs) z

  pub list_on : p.budget ≢ 0 → p.pending ≤ room → Turned C qs ends ends p (Listed (record { node = x; then = record { pc = t; at = p.at; budget = p.budget - 1; pending = p.pending } }))
  unfolding asks
  list_on z w =
      record {
        less = omega arith;
        most = w;
        named = λ d. absurd (d refl);
        shown = plain x ∷ [];
        nodes = refl;
        takes = omega arith;
        halts = goes;
      }
    where
      goes : (m k : ℕ) → m ≡ asks (plain x ∷ []) + k → 0 < m
          → up_to C qs ends p m ≡ after (plain x ∷ []) (stops room C k (p.budget - 1) t (stack ends p.pending) (drop p.at qs))
      goes zero k e l = absurd (omega arith)
      goes (suc m) k e l =
          let s : suc m ≡ k = omega arith in
          to m ∙ passed p.budget (λ b. after (plain x ∷ []) (stops room C (suc m) b t (stack ends p.pending) (drop p.at qs))) (drop p.at qs) z
          ∙ ap (λ y. after (plain x ∷ []) (stops room C y (p.budget - 1) t (stack ends p.pending) (drop p.at qs))) s

-- The finally block at f is opened, and the run goes on at t.
module _ (C qs ends : List ℕ) (p : Place) (f t : ℕ) (to : Opens C qs ends p f t) where
  pub open_none : p.pending ≡ room → Turned C qs ends ends p (Over 5)
  open_none z m = to m ∙ on_false (ltb (length (stack ends p.pending)) room) _ _ (le-ltb (length (stack ends p.pending)) room (omega (arith, stack_length ends p.pending)))

  pub open_on : length ends ≡ room → p.pending ≢ room → p.pending ≤ room → (end : ℕ) → frame_of end ≡ open' f
      → Passes C qs ends (set ends p.pending end) p t (p.pending + 1)
  open_on w d l end e m =
      to m ∙ on_true (ltb (length (stack ends p.pending)) room) _ _ (lt-ltb (length (stack ends p.pending)) room (omega (arith, stack_length ends p.pending)))
      ∙ ap (λ K. pass p.budget (λ b. stops room C (suc m) b t K (drop p.at qs)) (drop p.at qs)) pushed
    where
      next : suc p.pending ≡ p.pending + 1
      next = omega arith

      pushed : open' f ∷ stack ends p.pending ≡ stack (set ends p.pending end) (p.pending + 1)
      pushed =
          ap (λ F. F ∷ stack ends p.pending) (sym e) ∙ sym (stack_push ends p.pending end (omega (arith, w)))
          ∙ ap (stack (set ends p.pending end)) next

-- The answers from i on.
module _ (qs : List ℕ) (i : ℕ) where
  dropped : i < length qs → drop i qs ≡ get_or qs i 0 ∷ drop (i + 1) qs
  dropped h =
      let e : suc i ≡ i + 1 = omega arith in
      drop-cons qs i 0 h ∙ ap (λ k. get_or qs i 0 ∷ drop k qs) e

  no_more : length qs ≤ i → drop i qs ≡ []
  no_more h = drop_of_length-le qs h

  less_by : (C : List ℕ) (b : ℕ) → i < length qs → measure C (length C) (drop (i + 1) qs) < measure C b (drop i qs)
  less_by C b h = go (ap length (dropped h))
    where
      go : length (drop i qs) ≡ suc (length (drop (i + 1) qs)) → measure C (length C) (drop (i + 1) qs) < measure C b (drop i qs)
      go e = rw e (omega arith)

is_yes_at : (a : ℕ) → a ≢ 0 → is_yes a ≡ true
is_yes_at zero h = absurd (h refl)
is_yes_at (suc a) h = refl

-- An answer is taken, or none is left, at an instruction i.
module _ (C qs ends : List ℕ) (p : Place) (i : Instr) where
  abbrev step_on : ℕ → List ℕ → Stop
  step_on m r = step room C (stops room C (suc m)) (stops room C m (length C)) i p.budget p.pc (stack ends p.pending) r

  module _ (here : (m : ℕ) → up_to C qs ends p (suc m) ≡ step_on m (drop p.at qs)) where
    spent_by : length qs ≤ p.at → ((m : ℕ) → step_on m [] ≡ over (res [] run_end.Spent [])) → Turned C qs ends ends p (Over 3)
    spent_by h q m = here m ∙ ap (step_on m) (no_more qs p.at h) ∙ q m ∙ ap (λ r. over (res [] run_end.Spent r)) (sym (no_more qs p.at h))

    -- n is listed, and the run goes on at t.
    took_by : (n t : ℕ) → t < half → p.pending ≤ room → p.at < length qs
        → ((m : ℕ) → step_on m (get_or qs p.at 0 ∷ drop (p.at + 1) qs) ≡ after (asked n ∷ []) (stops room C m (length C) t (stack ends p.pending) (drop (p.at + 1) qs)))
        → Turned C qs ends ends p (Listed (record { node = n; then = record { pc = t; at = p.at + 1; budget = length C; pending = p.pending } }))
    unfolding asks
    took_by n t s w h q =
        record {
          less = less_by qs p.at C p.budget h;
          most = w;
          named = λ d. s;
          shown = asked n ∷ [];
          nodes = refl;
          takes = omega arith;
          halts = goes;
        }
      where
        goes : (m k : ℕ) → m ≡ asks (asked n ∷ []) + k → 0 < m
            → up_to C qs ends p m ≡ after (asked n ∷ []) (stops room C k (length C) t (stack ends p.pending) (drop (p.at + 1) qs))
        goes zero k e l = absurd (omega arith)
        goes (suc m) k e l =
            let u : m ≡ k = omega arith in
            here m ∙ ap (step_on m) (dropped qs p.at h) ∙ q m ∙ ap (λ y. after (asked n ∷ []) (stops room C y (length C) t (stack ends p.pending) (drop (p.at + 1) qs))) u

-- The ASK at p.
module _ (C qs ends : List ℕ) (p : Place) (o : get_or C p.pc 0 ≡ op.Ask) where
  ask_at : (n y z : ℕ) → n ≡ get_or C (p.pc + 1) 0 → y ≡ get_or C (p.pc + 2) 0 → z ≡ get_or C (p.pc + 3) 0
      → (m : ℕ) → up_to C qs ends p (suc m) ≡ step_on C qs ends p (ASK n y z) m (drop p.at qs)
  ask_at n y z hn hy hz = on_instr C qs ends p (get_or C p.pc 0) n y z refl hn hy hz op.Ask o

  pub ask_none : length qs ≤ p.at → Turned C qs ends ends p (Over 3)
  ask_none h =
      spent_by C qs ends p (ASK (get_or C (p.pc + 1) 0) (get_or C (p.pc + 2) 0) (get_or C (p.pc + 3) 0))
      (ask_at (get_or C (p.pc + 1) 0) (get_or C (p.pc + 2) 0) (get_or C (p.pc + 3) 0) refl refl refl) h (λ m. refl)

  pub ask_yes : (n y : ℕ) → n ≡ get_or C (p.pc + 1) 0 → y ≡ get_or C (p.pc + 2) 0 → y < half → p.pending ≤ room → p.at < length qs → get_or qs p.at 0 ≢ 0
      → Turned C qs ends ends p (Listed (record { node = n; then = record { pc = y; at = p.at + 1; budget = length C; pending = p.pending } }))
  ask_yes n y hn hy s w h a =
      took_by C qs ends p (ASK n y (get_or C (p.pc + 3) 0)) (ask_at n y (get_or C (p.pc + 3) 0) hn hy refl) n y s w h
      (λ m. ap (λ b. after (asked n ∷ []) (stops room C m (length C) (pick b y (get_or C (p.pc + 3) 0)) (stack ends p.pending) (drop (p.at + 1) qs))) (is_yes_at (get_or qs p.at 0) a))

  pub ask_no : (n z : ℕ) → n ≡ get_or C (p.pc + 1) 0 → z ≡ get_or C (p.pc + 3) 0 → z < half → p.pending ≤ room → p.at < length qs → get_or qs p.at 0 ≡ 0
      → Turned C qs ends ends p (Listed (record { node = n; then = record { pc = z; at = p.at + 1; budget = length C; pending = p.pending } }))
  ask_no n z hn hz s w h a =
      took_by C qs ends p (ASK n (get_or C (p.pc + 2) 0) z) (ask_at n (get_or C (p.pc + 2) 0) z hn refl hz) n z s w h
      (λ m. ap (λ b. after (asked n ∷ []) (stops room C m (length C) (pick (is_yes b) (get_or C (p.pc + 2) 0) z) (stack ends p.pending) (drop (p.at + 1) qs))) a)

-- The SELECT at p.
module _ (C qs ends : List ℕ) (p : Place) (o : get_or C p.pc 0 ≡ op.Select) where
  select_at : (n c e : ℕ) → n ≡ get_or C (p.pc + 1) 0 → c ≡ get_or C (p.pc + 2) 0 → e ≡ get_or C (p.pc + 3) 0
      → (m : ℕ) → up_to C qs ends p (suc m) ≡ step_on C qs ends p (SELECT n c e) m (drop p.at qs)
  select_at n c e hn hc he = on_instr C qs ends p (get_or C p.pc 0) n c e refl hn hc he op.Select o

  pub select_none : length qs ≤ p.at → Turned C qs ends ends p (Over 3)
  select_none h =
      spent_by C qs ends p (SELECT (get_or C (p.pc + 1) 0) (get_or C (p.pc + 2) 0) (get_or C (p.pc + 3) 0))
      (select_at (get_or C (p.pc + 1) 0) (get_or C (p.pc + 2) 0) (get_or C (p.pc + 3) 0) refl refl refl) h (λ m. refl)

  pub select_case : (n c e t : ℕ) → n ≡ get_or C (p.pc + 1) 0 → c ≡ get_or C (p.pc + 2) 0 → e ≡ get_or C (p.pc + 3) 0 → t ≡ chase C p.pc c e (get_or qs p.at 0)
      → t < half → p.pending ≤ room → p.at < length qs → Turned C qs ends ends p (Listed (record { node = n; then = record { pc = t; at = p.at + 1; budget = length C; pending = p.pending } }))
  select_case n c e t hn hc he ht s w h =
      took_by C qs ends p (SELECT n c e) (select_at n c e hn hc he) n t s w h
      (λ m. ap (λ k. after (asked n ∷ []) (stops room C m (length C) k (stack ends p.pending) (drop (p.at + 1) qs))) (sym ht))
