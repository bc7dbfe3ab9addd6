-- The way to the next entry.
use Rattle.std.specs.Prelude.{ℕ, suc, ◌≤◌, ◌<◌, ◌≡◌, refl, length, drop}
use Rattle.std.proofs.Common.{sym, ◌∙◌, arith}
use Rattle.std.proofs.Math.Path.{ap}
use mathlib.Core.List.{List, [], ◌∷◌, map}
use Rattle.route_completion.specs.Sem.{Entry}
use Rattle.route_completion.specs.Route.{asks, node_of}
use Rattle.code_flat.specs.Machine.{room, res, measure}
use Rattle.code_marks.specs.Stop.{over, after}
use Rattle.code_marks.proofs.StepsLaws.{after_none}
use Rattle.code_machine.specs.Turn.{up_to, Ends, Going}
use Rattle.code_machine.specs.declared.Place.{Place}

-- From p the run has come to q, and has listed nothing.
pub record Quiet (C qs ends ends' : List ℕ) (p q : Place) : Type 0 where
  pub less : measure C q.budget (drop q.at qs) ≤ measure C p.budget (drop p.at qs)
  pub most : q.pending ≤ room
  pub same : q.at ≡ p.at
  pub halts : (m : ℕ) → 0 < m → up_to C qs ends p m ≡ up_to C qs ends' q m

pub quiet_first : (C qs ends : List ℕ) (p : Place) → p.pending ≤ room → Quiet C qs ends ends p p
quiet_first C qs ends p m = record { less = omega arith; most = m; same = refl; halts = λ m z. refl }

none : (es : List Entry) → map node_of es ≡ [] → es ≡ []
none [] h = refl
none (e ∷ es) h = absurd (omega (arith, ap length h))

module _ (C qs ends mid ends' : List ℕ) (p o q : Place) (k : Quiet C qs ends mid p o) where
  -- One more instruction that lists nothing.
  pub quiet_on : Going C qs mid ends' o [] q → Quiet C qs ends ends' p q
  unfolding asks
  quiet_on g =
      let e : g.shown ≡ [] = none g.shown g.nodes in
      record {
        less = omega (arith, k.less, g.less);
        most = g.most;
        same = omega (arith, k.same, g.takes, ap asks e);
        halts = λ m z. k.halts m z ∙ g.halts m m (omega (arith, ap asks e)) z ∙ ap (λ l. after l (up_to C qs ends' q m)) e ∙ after_none (up_to C qs ends' q m);
      }

  -- .. or one that lists something.
  pub quiet_going : (l : List ℕ) → Going C qs mid ends' o l q → Going C qs ends ends' p l q
  quiet_going l g =
      record {
        less = omega (arith, k.less, g.less);
        most = g.most;
        named = λ d. g.named (λ e. d (sym k.same ∙ e));
        shown = g.shown;
        nodes = g.nodes;
        takes = omega (arith, k.same, g.takes);
        halts = λ m n e z. k.halts m z ∙ g.halts m n e z;
      }

pub quiet_over : (C qs ends mid : List ℕ) (p o : Place) (e : ℕ) → Quiet C qs ends mid p o → Ends C qs mid o e → Ends C qs ends p e
quiet_over C qs ends mid p o e k h m = k.halts (suc m) (omega arith) ∙ h m ∙ ap (λ i. over (res [] e (drop i qs))) k.same
