-- 11 is never given: the code slice has room for the code of every unit of a tree that can be read.
use Rattle.std.specs.Prelude.{Result, Ok, Err, ℕ, ◌≤◌, ◌≡◌, refl, List, Bool, true, false, cond, ◌≢◌, leb, length}
use Rattle.std.proofs.Common.{subst, arith, le-leb}
use Rattle.refusal_verdict.specs.declared.Refusal.TheVariants as refusal
use Rattle.refusal_verdict.specs.declared.Refused.TheVariants.{At, Short}
use Rattle.refusal_verdict.specs.Verdict.{Verdict, unless}
use Rattle.route_completion.specs.Route.{Route as Listed, route}
use Rattle.code_tree.specs.Statements.{unit_of}
use Rattle.route_list.specs.Listing.{saturated}
use Rattle.code_assemble.specs.Assembled.{short as code_short}
use Rattle.route_viewer.specs.Shown.{Routed, routed, shown_answer}
use Rattle.check_dispatch.specs.Rule.{Rule, rule}
use Rattle.code_length.specs.Length.{code_length}
use Rattle.code_length.proofs.MostLaws.{length_most}
use Rattle.call_routes.specs.Calls.{route_answer, code_refusal}
use Rattle.call_routes.proofs.PlacedLaws.{Placed, code_placed}
use Rattle.line_fields.specs.Split.{lines_of}
use Rattle.line_input.specs.declared.Tables.{Tables}
use Rattle.line_input.specs.declared.Asked.{Asked}
use Rattle.line_input.specs.declared.Unread.{Unread}
use Rattle.line_input.specs.Format.{Reading, lent, read_input}
use Rattle.line_input.specs.Route.{read_route}
use Rattle.line_input.proofs.RouteLaws.{tables_small}
use Rattle.line_input.proofs.Sizes.{Sized, lines_told, asked_told}
use Rattle.ruleroute.specs.Answer.{answers_room, code_room, routed_by, routed_of}

-- What is shown of a route is no such answer.
shown_fits : (r : Listed) (room needed : ℕ) → shown_answer r room ≢ code_short needed
unfolding shown_answer
shown_fits r room needed = go (leb (length r.list) room)
  where
    go : (b : Bool) → cond b (routed r.end (length r.list) r.taken) (Err (Short refusal.RouteSlice (saturated (length r.list)))) ≢ code_short needed
    go true e = let z : ◌≡◌ {A = ℕ} 0 1 = cc in absurd (omega arith)
    go false e = let z : ◌≡◌ {A = ℕ} 0 1 = cc in absurd (omega arith)

-- The route call doesn't answer it where the slice has room for the code.
answer_fits : (r : Rule) (u : ℕ) (answers : List ℕ) (len room needed : ℕ) → code_length r.nodes u ≤ len → route_answer r u answers len room ≢ code_short needed
unfolding route_answer
answer_fits r u answers len room needed h = go (code_refusal r u) (code_placed r u) (leb (code_length r.nodes u) len) (le-leb _ _ h)
  where
    shown : Routed
    shown = shown_answer (route (unit_of r.nodes r.names u) answers) room

    go : (v : Verdict) → Placed v → (b : Bool) → b ≡ true → unless v Err (cond b shown (code_short (code_length r.nodes u))) ≢ code_short needed
    go (Err (At k p)) h b t e = let z : ◌≡◌ {A = ℕ} 0 1 = cc in absurd (omega arith)
    go (Err (Short k n)) h b t e = h.placed k n refl
    go (Ok v) h true t e = shown_fits (route (unit_of r.nodes r.names u) answers) room needed e
    go (Ok v) h false t e = let z : ◌≡◌ {A = ℕ} 0 1 = cc in absurd (omega arith)

-- THE LAW, for all bytes and every room for the route
pub code_fits : (b : List ℕ) (room needed : ℕ) → routed_of b room ≢ code_short needed
unfolding routed_of routed_by
code_fits b room needed = go (read_route lent answers_room b).answer refl
  where
    d : Reading
    d = read_input lent b

    go : (r : Result Asked Unread) → (read_route lent answers_room b).answer ≡ r → routed_by r d (read_route lent answers_room b).answers room ≢ code_short needed
    go (Err x) q e = let z : ◌≡◌ {A = ℕ} 0 1 = cc in absurd (omega arith)
    go (Ok got) q e =
        let o = asked_told answers_room (lines_of b) d.answer got q in
        let small = tables_small lent (lines_of b) got.tables o.0 in
        let t : Sized (Ok got.tables) d = subst (λ (i : Result Tables Unread). Sized i d) o.0 (lines_told lent (lines_of b)) in
        let most = length_most d.nodes got.unit in
        answer_fits (rule got.tables.kind 0 d.nodes d.scopes d.source d.names) got.unit (read_route lent answers_room b).answers code_room room needed (omega (arith, small, t.0, most)) e
