-- MARKS IN A ROUTE, over the calls: "For a mark taken up on the tables and unit of all its stops, the list so far followed by what comes after, if not
-- stopped again, equals the route, its end too, for the answers taken so far joined with the further ones."
use Rattle.std.specs.Prelude.{ℕ, ◌+◌, ◌≤◌, ◌<◌, Bool, cond, length, take, Ok, Err}
use Rattle.std.proofs.Math.Path.{◌≡◌, refl, ap}
use Rattle.std.proofs.Common.{sym, subst, ◌∙◌, inl, inr, arith}
use mathlib.Core.List.{List, [], ◌∷◌, ◌++◌, map, map-append, append-nil}
use Rattle.std.proofs.Math.Bool.{true, false}
use Rattle.std.proofs.Math.Dec.{leb}
use Rattle.std.proofs.Math.Seq.{take-length}
use Rattle.check_dispatch.specs.Rule.{Rule}
use Rattle.refusal_verdict.specs.declared.Refusal.TheVariants as refusal
use Rattle.refusal_verdict.specs.declared.Refused.TheVariants.{At, Short}
use Rattle.refusal_verdict.specs.Verdict.{Verdict, Passed, unless}
use Rattle.refusal_state.specs.Targets.{refused_or}
use Rattle.route_completion.specs.Sem.{Entry}
use Rattle.route_completion.specs.Route.{asks, node_of, route}
use Rattle.route_list.specs.Over.{over as onto}
use Rattle.route_list.specs.Listing.{saturated}
use Rattle.route_viewer.specs.Shown.{shown_answer, shown_slice}
use Rattle.code_assemble.specs.Assembled.{short as code_short}
use Rattle.route_viewer.specs.Shown.{Routed, routed}
use Rattle.code_flat.specs.Machine.{room, Pos, pos}
use Rattle.code_flat.proofs.Runs.{Ends, run_ends}
use Rattle.code_tree.specs.Statements.{unit_of}
use Rattle.code_tree.proofs.RoomLaws.{unit_room_lem}
use Rattle.code_length.specs.Length.{code_length}
use Rattle.code_marks.specs.Stop.{Stop, held, over, after, stops, stopped, taken_up, Call, goes_on, calls, so_far}
use Rattle.code_marks.proofs.StopLaws.{finished, stopped_law}
use Rattle.code_marks.proofs.ClaimsLaws.{marked, marked_route, mark_kept}
use Rattle.code_machine.specs.Halted.{stopped_end, route_to}
use Rattle.route_marks.specs.Marks.{marks, place_of, mark_at}
use Rattle.route_marks.specs.Taken.{stop_of, marks_after, marks_shown}
use Rattle.route_marks.proofs.BeginsLaws.{begins_is}
use Rattle.route_marks.specs.declared.Begin.TheVariants.{Start, Mark}
use Rattle.call_routes.specs.Calls.{code_refusal}
use Rattle.call_routes.proofs.CallsLaws.{both, ready, front_code}
use Rattle.call_marks.specs.Marked.{code_of, sixteen_of, seventeen_of, mark_answer, mark_slice, marks_left}
use Rattle.call_marks.proofs.MarkedLaws.{sixteen_passed}
use Rattle.call_marks.specs.Theorem.{all_parts}
use Rattle.call_marks.proofs.BackLaws.{set_back, mark_back, length_set}
use Rattle.call_marks.specs.Theorem.{History, first, again, kept, Reached, HeldAt, Standing, one, TakenUp}

abbrev end_is : Routed → ℕ
end_is (Ok r) = r.end
end_is (Err e) = 0

abbrev entries_are : Routed → ℕ
entries_are (Ok r) = r.entries
entries_are (Err e) = 0

module _ (r : Rule) (u : ℕ) (v w : Verdict) (s : Stop) (codeLen n t : ℕ) where
  reached : (len : ℕ) → mark_answer r u v w s codeLen len ≡ routed stopped_end n t → Reached r u v w s codeLen len n
  unfolding mark_answer shown_answer
  reached len h = go (refused_or (code_refusal r u) v) refl (leb (code_length r.nodes u) codeLen) refl w refl (leb (length (route_to s).list) len) refl h
    where
      go : (a : Verdict) → refused_or (code_refusal r u) v ≡ a → (b : Bool) → leb (code_length r.nodes u) codeLen ≡ b → (d : Verdict) → w ≡ d → (e : Bool)
          → leb (length (route_to s).list) len ≡ e
          → unless a Err (cond b (unless d Err (cond e (routed (route_to s).end (length (route_to s).list) (route_to s).taken) (Err (Short refusal.RouteSlice (saturated (length (route_to s).list)))))) (code_short (code_length r.nodes u)))
          ≡ routed stopped_end n t
          → Reached r u v w s codeLen len n
      go (Err f) qa b qb d qd e qe x = let z : ◌≡◌ {A = ℕ} 0 1 = cc in absurd (omega arith)
      go (Ok p) qa false qb d qd e qe x = let z : ◌≡◌ {A = ℕ} 0 1 = cc in absurd (omega arith)
      go (Ok p) qa true qb (Err f) qd e qe x = let z : ◌≡◌ {A = ℕ} 0 1 = cc in absurd (omega arith)
      go (Ok p) qa true qb (Ok y) qd false qe x = let z : ◌≡◌ {A = ℕ} 0 1 = cc in absurd (omega arith)
      go (Ok p) qa true qb (Ok y) qd true qe x = record { before = qa; roomy = qb; behind = qd; fits = qe; end = ap end_is x; many = sym (ap entries_are x) }

  slice_is : (o : List ℕ) → Reached r u v w s codeLen (length o) n → take n (mark_slice r u v w s codeLen o) ≡ (route_to s).list
  unfolding mark_slice shown_slice
  slice_is o k =
      ap (take n) (λ i. unless (k.before i) (λ e. o) (cond (k.roomy i) (unless (k.behind i) (λ e. o) (cond (k.fits i) (onto (route_to s).list o) o)) o))
      ∙ front_code (route_to s).list o n k.many

  marks_is : (len : ℕ) (M : List ℕ) (to : ℕ) → Reached r u v w s codeLen len n → marks_left r u v w s codeLen len M to ≡ marks_after M to s
  unfolding marks_left marks_shown
  marks_is len M to k =
      λ i. unless (k.before i) (λ e. M) (cond (k.roomy i) (unless (k.behind i) (λ e. M) (cond (k.fits i) (marks_after M to s) M)) M)

held_by : (C : List ℕ) (p : Pos) (qs : List ℕ) (stop : ℕ) → (route_to (stopped room C stop p qs)).end ≡ stopped_end → HeldAt (stopped room C stop p qs)
held_by C p qs stop z = go (stopped room C stop p qs) refl (stopped_law room C stop p qs) z
  where
    go : (s : Stop) → stopped room C stop p qs ≡ s → taken_up room C p qs ≡ finished room C s → (route_to s).end ≡ stopped_end → HeldAt (stopped room C stop p qs)
    go (held es q l) e f y = record { entries = es; place = q; left = l; is = e }
    go (over x) e f y = absurd (no (run_ends room C (length C) p.pc p.stack qs))
      where
        no : Ends (taken_up room C p qs).end → ⊥
        no (inl l) = omega (arith, l, ap (λ x. x.end) f, y)
        no (inr l) = omega (arith, l, ap (λ x. x.end) f, y)

one_is : (qs : List ℕ) → so_far (one qs ∷ []) ≡ qs
unfolding so_far
one_is qs = append-nil (take (length qs) qs) ∙ take-length qs

one_held : (C qs : List ℕ) (es : List Entry) (m : Pos) → stopped room C (length qs) (pos 0 []) qs ≡ held es m [] → calls room C (pos 0 []) (one qs ∷ []) ≡ held (es ++ []) m []
unfolding calls
one_held C qs es m e = ap (λ s. goes_on s (λ q. held [] q [])) e

module _ (C qs : List ℕ) (es : List Entry) (m : Pos) (stop : ℕ) (answers : List ℕ) (fs : List Entry) (p : Pos) (left : List ℕ)
    (e : stopped room C (length qs) (pos 0 []) qs ≡ held es m []) (f : stopped room C stop m answers ≡ held fs p left) where
  abbrev both_calls : List Call
  both_calls = one qs ∷ record { number = stop; answers = answers } ∷ []

  both_held : calls room C (pos 0 []) both_calls ≡ held (es ++ (fs ++ [])) p []
  unfolding calls
  both_held = ap (λ s. goes_on s (λ q. goes_on (stopped room C stop q answers) (λ x. held [] x []))) e ∙ ap (λ s. after es (goes_on s (λ x. held [] x []))) f

  both_answers : so_far both_calls ≡ qs ++ take stop answers
  unfolding so_far
  both_answers = λ i. take-length qs i ++ append-nil (take stop answers) i

  joined : stopped room C (length (qs ++ take stop answers)) (pos 0 []) (qs ++ take stop answers) ≡ held (es ++ fs) p []
  joined =
      (λ i. stopped room C (length (sym both_answers i)) (pos 0 []) (sym both_answers i))
      ∙ (marked room C (pos 0 []) both_calls (es ++ (fs ++ [])) p [] both_held).direct
      ∙ ap (λ l. held (es ++ l) p []) (append-nil fs)

-- The mark that a stopped call has set.
module _ (r : Rule) (u : ℕ) (M : List ℕ) (m : ℕ) (qs l : List ℕ) (es : List Entry) (p : Pos) (whole : length M ≡ all_parts) (o : m < marks) (passed : code_refusal r u ≡ Passed)
    (stands : stopped room (code_of r u) (length qs) (pos 0 []) qs ≡ held es p []) (list : map node_of es ≡ l) where
  few : length p.stack ≤ 512
  few = (mark_kept room (unit_of r.nodes r.names u) (one qs ∷ []) (es ++ []) p [] (one_held (code_of r u) qs es p stands)).room

  standing : (s : Stop) (left : List ℕ) (fs : List Entry) → s ≡ held fs p left → (N : List ℕ) → N ≡ marks_after M m s → Standing r u N m qs l
  standing s left fs e N h =
      let w : N ≡ marks_after M m (held fs p left) = h ∙ ap (marks_after M m) e in
      subst (λ N. Standing r u N m qs l) (sym w)
      (record {
        whole = length_set M m p ∙ whole;
        set = set_back M m p whole o few;
        passed = passed;
        entries = es;
        stands = stands ∙ ap (λ q. held es q []) (sym (mark_back M m p whole o few));
        list = list;
      })

at_start : (C : List ℕ) → stopped room C 0 (pos 0 []) [] ≡ held [] (pos 0 []) []
unfolding stops
at_start C = refl

module _ (r : Rule) (u : ℕ) where
  standing_of : (N : List ℕ) (m : ℕ) (qs l : List ℕ) → History r u N m qs l → Standing r u N m qs l
  standing_of N m qs l (first N' m' qs' l' M stop answers codeLen out n t whole h eN eq el) =
      let s = stop_of M (code_of r u) answers Start stop in
      let k = reached r u (sixteen_of M Start m) (seventeen_of M (code_of r u) Start) s codeLen n t (length out) h in
      let x = held_by (code_of r u) (pos 0 []) answers stop k.end in
      let b = both (code_refusal r u) (sixteen_of M Start m) k.before in
      let w : map node_of x.entries ≡ l = sym (el ∙ slice_is r u (sixteen_of M Start m) (seventeen_of M (code_of r u) Start) s codeLen n t out k ∙ ap (λ y. (route_to y).list) x.is) in
      let j = joined (code_of r u) [] [] (pos 0 []) stop answers x.entries x.place x.left (at_start (code_of r u)) x.is in
      let d : stopped room (code_of r u) (length qs) (pos 0 []) qs ≡ held x.entries x.place [] = (λ i. stopped room (code_of r u) (length (eq i)) (pos 0 []) (eq i)) ∙ j in
      standing r u M m qs l x.entries x.place whole (sixteen_passed M Start m b.1).1 b.0 d w s x.left x.entries x.is N
      (eN ∙ marks_is r u (sixteen_of M Start m) (seventeen_of M (code_of r u) Start) s codeLen n t (length out) M m k)
  standing_of N m qs l (again N' m' qs' l' M from ps k₀ y stop answers codeLen out n t h eN eq el) =
      let a = standing_of M from ps k₀ y in
      let s = stop_of M (code_of r u) answers (Mark from) stop in
      let k = reached r u (sixteen_of M (Mark from) m) (seventeen_of M (code_of r u) (Mark from)) s codeLen n t (length out) h in
      let x = held_by (code_of r u) (mark_at M from) answers stop k.end in
      let b = both (code_refusal r u) (sixteen_of M (Mark from) m) k.before in
      let v = slice_is r u (sixteen_of M (Mark from) m) (seventeen_of M (code_of r u) (Mark from)) s codeLen n t out k ∙ ap (λ z. (route_to z).list) x.is in
      let w : map node_of (a.entries ++ x.entries) ≡ l = map-append node_of a.entries x.entries ∙ (λ i. a.list i ++ sym v i) ∙ sym el in
      let j = joined (code_of r u) ps a.entries (mark_at M from) stop answers x.entries x.place x.left a.stands x.is in
      let d : stopped room (code_of r u) (length qs) (pos 0 []) qs ≡ held (a.entries ++ x.entries) x.place [] = (λ i. stopped room (code_of r u) (length (eq i)) (pos 0 []) (eq i)) ∙ j in
      standing r u M m qs l (a.entries ++ x.entries) x.place a.whole (sixteen_passed M (Mark from) m b.1).1 b.0 d w s x.left x.entries x.is N
      (eN ∙ marks_is r u (sixteen_of M (Mark from) m) (seventeen_of M (code_of r u) (Mark from)) s codeLen n t (length out) M m k)
  standing_of N m qs l (kept N' m' qs' l' M y w z e) =
      let a = standing_of M m qs l y in
      record { whole = w; set = z; passed = a.passed; entries = a.entries; stands = a.stands ∙ ap (λ q. held a.entries q []) (sym e); list = a.list }

-- THE THEOREM
pub marks_in_a_route : (r : Rule) (u : ℕ) (M : List ℕ) (m : ℕ) (qs l : List ℕ) → History r u M m qs l → (more : List ℕ) → TakenUp r u M m qs l more
marks_in_a_route r u M m qs l y more =
    let a = standing_of r u M m qs l y in
    let ss = unit_of r.nodes r.names u in
    let t = (ready r.source_type r.async_bodies r.nodes r.scopes r.source r.names u a.passed).tree in
    let e = one_held (code_of r u) qs a.entries (mark_at M m) a.stands in
    let k = marked_route room ss (unit_room_lem r.nodes r.names t u) (one qs ∷ []) (a.entries ++ []) (mark_at M m) [] e more in
    let g = mark_kept room ss (one qs ∷ []) (a.entries ++ []) (mark_at M m) [] e in
    record {
      sixteen = ap (λ b. cond b Passed (Err (At refusal.Mark m))) a.set;
      seventeen = ap (λ b. cond b Passed (Err (At refusal.MarkPlace m))) ((begins_is (code_of r u) (place_of M m)).1 g.place);
      list =
          ap (λ x. (route ss (x ++ more)).list) (sym (one_is qs)) ∙ k.list
          ∙ ap (λ x. x ++ map node_of (taken_up room (code_of r u) (mark_at M m) more).nodes) (ap (map node_of) (append-nil a.entries) ∙ a.list);
      end = ap (λ x. (route ss (x ++ more)).end) (sym (one_is qs)) ∙ k.end;
      taken =
          ap (λ x. (route ss (x ++ more)).taken) (sym (one_is qs)) ∙ k.taken
          ∙ ap (λ x. length x + asks (taken_up room (code_of r u) (mark_at M m) more).nodes) (one_is qs);
    }
