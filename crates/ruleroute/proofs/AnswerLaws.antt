-- The answer as the code comes to it, from the slices that were read.
use Rattle.std.specs.Prelude.{Result, Ok, Err, ℕ, zero, suc, ◌+◌, ◌<◌, ◌≡◌, refl, List, [], ◌∷◌, ◌++◌, length, get_or, take}
use Rattle.std.proofs.Common.{ap, ◌∙◌, arith, append_assoc, append-nil}
use Rattle.std.proofs.Math.Path.{sym, subst}
use Rattle.std.proofs.KnownBytes.{Appends-trans}
use Rattle.std.specs.declared.option.Option.{Option}
use Rattle.std.specs.Io.KnownBytes.{Appends}
use Rattle.refusal_verdict.specs.declared.Refusal.{Refusal}
use Rattle.refusal_verdict.specs.declared.Refusal.TheVariants as refusal
use Rattle.refusal_verdict.specs.declared.Refused.TheVariants.{At, Short}
use Rattle.refusal_verdict.specs.Refusals.{number}
use Rattle.route_viewer.specs.Shown.{Routed, routed}
use Rattle.check_dispatch.specs.Rule.{rule}
use Rattle.call_routes.specs.Calls.{route_answer, route_slice}
use Rattle.line_fields.specs.Split.{lines_of}
use Rattle.line_input.specs.declared.Tables.{Tables}
use Rattle.line_input.specs.declared.Asked.{Asked}
use Rattle.line_input.specs.declared.Unread.{Unread}
use Rattle.line_input.specs.Format.{Room, Reading, lent, read_input, front, Given}
use Rattle.line_input.specs.Route.{read_route, enough}
use Rattle.line_input.proofs.Sizes.{Sized, lines_told, asked_told, part}
use Rattle.line_input.proofs.Whole.{input_whole, route_whole}
use Rattle.line_print.specs.Print.{line_of}
use Rattle.line_answers.specs.Answer.{refusal_line}
use Rattle.ruleroute.specs.Answer.{entry_line, last_line, lines_for, answers_room, code_room, routed_by, entries_by, routed_of, entries_of}

-- the numbers of a line
pub number_one : (a : ℕ) → a < 4294967296 → (i : ℕ) → get_or (a ∷ []) i 0 < 4294967296
number_one a h zero = h
number_one a h (suc i) = omega arith

pub words_three : (a b d : ℕ) → a < 18446744073709551616 → b < 18446744073709551616 → d < 18446744073709551616 → (i : ℕ) → get_or (a ∷ b ∷ d ∷ []) i 0 < 18446744073709551616
words_three a b d p q r zero = p
words_three a b d p q r (suc zero) = q
words_three a b d p q r (suc (suc zero)) = r
words_three a b d p q r (suc (suc (suc i))) = omega arith

-- the route call's answer for the fronts of the slices
pub fronted : (kind u len k : ℕ) (ns ss xs ms gs ns' ss' xs' ms' gs' out : List ℕ) (r : Routed) (f : List ℕ) → ns ≡ ns' → ss ≡ ss' → xs ≡ xs' → ms ≡ ms' → gs ≡ gs' → len ≡ code_room
    → r ≡ route_answer (rule kind 0 ns ss xs ms) u gs len k → f ≡ route_slice (rule kind 0 ns ss xs ms) u gs len out
    → (r ≡ route_answer (rule kind 0 ns' ss' xs' ms') u gs' code_room k) × (f ≡ route_slice (rule kind 0 ns' ss' xs' ms') u gs' code_room out)
fronted kind u len k ns ss xs ms gs ns' ss' xs' ms' gs' out r f p q s t v w a b = (rw (sym p, sym q, sym s, sym t, sym v, sym w) a, rw (sym p, sym q, sym s, sym t, sym v, sym w) b)

-- by what `read_route` answers, in slices of the programs' lengths
module _ (b : List ℕ) where
  pub answer_unasked : (d : Unread) (k : ℕ) → (read_route lent answers_room b).answer ≡ Err d → routed_of b k ≡ Err (At refusal.Unread d.line)
  unfolding routed_of routed_by
  answer_unasked d k h = rw h

  pub entries_unasked : (d : Unread) (out : List ℕ) → (read_route lent answers_room b).answer ≡ Err d → entries_of b out ≡ out
  unfolding entries_of entries_by
  entries_unasked d out h = rw h

  module _ (got : Asked) (n₀ s₀ x₀ m₀ a₀ ns ss xs ms gs : List ℕ) (h : (read_route lent answers_room b).answer ≡ Ok got)
      (g : Given (read_input lent b) n₀ s₀ x₀ m₀ ns ss xs ms) (q : gs ≡ front (read_route lent answers_room b).answers a₀) where
    parts : (take got.tables.nodes ns ≡ (read_input lent b).nodes) × (take got.tables.scopes ss ≡ (read_input lent b).scopes) × (take got.tables.source xs ≡ (read_input lent b).source)
        × (take got.tables.names ms ≡ (read_input lent b).names) × (take got.answers gs ≡ (read_route lent answers_room b).answers)
    parts =
        let d : Reading = read_input lent b in
        let o = asked_told answers_room (lines_of b) d.answer got h in
        let t : Sized (Ok got.tables) d = subst (λ (i : Result Tables Unread). Sized i d) o.0 (lines_told lent (lines_of b)) in
        (part d.nodes n₀ ns got.tables.nodes t.0 g.nodes, part d.scopes s₀ ss got.tables.scopes t.1 g.scopes, part d.source x₀ xs got.tables.source t.2 g.source, part d.names m₀ ms got.tables.names t.3 g.names, part (read_route lent answers_room b).answers a₀ gs got.answers o.1 q)

    pub answer_asked : (k : ℕ) → route_answer (rule got.tables.kind 0 (take got.tables.nodes ns) (take got.tables.scopes ss) (take got.tables.source xs) (take got.tables.names ms)) got.unit (take got.answers gs) code_room k ≡ routed_of b k
    unfolding routed_of routed_by
    answer_asked k = rw (h, parts.0, parts.1, parts.2, parts.3, parts.4)

    pub entries_asked : (out : List ℕ) → route_slice (rule got.tables.kind 0 (take got.tables.nodes ns) (take got.tables.scopes ss) (take got.tables.source xs) (take got.tables.names ms)) got.unit (take got.answers gs) code_room out ≡ entries_of b out
    unfolding entries_of entries_by
    entries_asked out = rw (h, parts.0, parts.1, parts.2, parts.3, parts.4)

-- the answer and what the slice holds, for slices that are said to be of these lengths
module _ (room : Room) (len : ℕ) (b : List ℕ) (q : room ≡ lent) (z : len ≡ answers_room) (r : Result Asked Unread) (e : r ≡ (read_route room len b).answer) where
  told : r ≡ (read_route lent answers_room b).answer
  told = e ∙ (λ i. (read_route (q i) (z i) b).answer)

  pub routed_unasked : (d : Unread) (out : List ℕ) → r ≡ Err d → (◌≡◌ {A = Routed} (Err (At refusal.Unread d.line)) (routed_of b (length out))) × (out ≡ entries_of b out)
  routed_unasked d out h = (sym (answer_unasked b d (length out) (sym told ∙ h)), sym (entries_unasked b d out (sym told ∙ h)))

  module _ (got : Asked) (h : r ≡ Ok got) (n₀ s₀ x₀ m₀ a₀ ns ss xs ms gs : List ℕ)
      (g : Given (read_input room b) n₀ s₀ x₀ m₀ ns ss xs ms) (k : gs ≡ front (read_route room len b).answers a₀) where
    pub routed_asked : (out : List ℕ)
        → (route_answer (rule got.tables.kind 0 (take got.tables.nodes ns) (take got.tables.scopes ss) (take got.tables.source xs) (take got.tables.names ms)) got.unit (take got.answers gs) code_room (length out) ≡ routed_of b (length out))
        × (route_slice (rule got.tables.kind 0 (take got.tables.nodes ns) (take got.tables.scopes ss) (take got.tables.source xs) (take got.tables.names ms)) got.unit (take got.answers gs) code_room out ≡ entries_of b out)
    routed_asked out =
        let o = sym told ∙ h in
        let given = subst (λ (x : Room). Given (read_input x b) n₀ s₀ x₀ m₀ ns ss xs ms) q g in
        let stood = k ∙ (λ i. front (read_route (q i) (z i) b).answers a₀) in
        (answer_asked b got n₀ s₀ x₀ m₀ a₀ ns ss xs ms gs o given stood (length out), entries_asked b got n₀ s₀ x₀ m₀ a₀ ns ss xs ms gs o given stood out)

-- Nothing is cut: the program reads at most `enough` bytes, and more of them change nothing.
pub routed_whole : (b : List ℕ) (room : ℕ) → routed_of (take enough b) room ≡ routed_of b room
unfolding routed_of
routed_whole b room = rw (route_whole lent answers_room b, input_whole lent b)

pub entries_whole : (b out : List ℕ) → entries_of (take enough b) out ≡ entries_of b out
unfolding entries_of
entries_whole b out = rw (route_whole lent answers_room b, input_whole lent b)

-- the lines of no entry, and of one more
pub lines_none : lines_for [] ≡ []
unfolding lines_for
lines_none = refl

lines_more : (xs : List ℕ) (i : ℕ) → i < length xs → lines_for (take i xs) ++ entry_line (get_or xs i 0) ≡ lines_for (take (suc i) xs)
unfolding lines_for
lines_more [] i h = absurd (omega arith)
lines_more (x ∷ xs) zero h = sym (append-nil (entry_line x))
lines_more (x ∷ xs) (suc i) h = append_assoc (entry_line x) (lines_for (take i xs)) (entry_line (get_or xs i 0)) ∙ ap (λ l. entry_line x ++ l) (lines_more xs i (omega arith))

pub lines_next : (xs : List ℕ) (i : ℕ) → i < length xs → lines_for (take i xs) ++ entry_line (get_or xs i 0) ≡ lines_for (take (i + 1) xs)
lines_next xs i h = lines_more xs i h ∙ ap (λ k. lines_for (take k xs)) {x = suc i} {y = i + 1} (omega arith)

pub lines_appended : (a b c : Option (List ℕ)) (xs : List ℕ) (i : ℕ) → i < length xs → Appends a b (lines_for (take i xs)) → Appends b c (entry_line (get_or xs i 0)) → Appends a c (lines_for (take (i + 1) xs))
lines_appended a b c xs i h p q = subst (Appends a c) (lines_next xs i h) (Appends-trans a b c _ _ p q)

-- the last line by the answer
module _ (r : Routed) where
  pub last_route : (end entries taken : ℕ) → r ≡ routed end entries taken → last_line r ≡ line_of 90 (end ∷ entries ∷ taken ∷ [])
  unfolding last_line
  last_route end entries taken e = rw e

  pub last_refused : (k : Refusal) (place : ℕ) → r ≡ Err (At k place) → last_line r ≡ refusal_line (number k) place
  unfolding last_line
  last_refused k place e = rw e

  pub last_short : (needed : ℕ) → r ≡ Err (Short refusal.RouteSlice needed) → last_line r ≡ refusal_line 12 0
  unfolding last_line
  last_short needed e = rw e

  pub last_code_short : (needed : ℕ) → r ≡ Err (Short refusal.CodeSlice needed) → last_line r ≡ refusal_line 11 0
  unfolding last_line
  last_code_short needed e = rw e
