use Rattle.std.proofs.Common.{◌≡◌, ◌++◌, drop, length, sym, ◌∙◌, ap, subst}
use Rattle.code_shorten.specs.Short.{close_up, shorter}
use Rattle.code_pass.specs.Stages.{sent_on, kept_places}
use Rattle.code_close.specs.Closing.{Moved, Starts, Raised, Restored, Saved}
use Rattle.code_close.proofs.ClosingLaws.{n_some, n_starts, n_raised, t_some, t_starts, t_raised, closed}
use Rattle.code_close.proofs.close_up.Goals as goal

pub returns : goal.returns
returns c =
    λ C k e g s.
    let split = c.args.places.now.split in
    let f = c.move_targets.new.code in
    let v = k.valid in
    let w = k.cut in
    let m : Moved C f split = c.move_targets.ensures C k e g in
    let p = c.make_plain.ensures (close_up (kept_places C) (sent_on C)) (n_some C v split w) (subst (Starts (close_up (kept_places C) (sent_on C)) 0) (sym e) (n_starts C v split w)) (subst (Raised (close_up (kept_places C) (sent_on C)) f 0) (sym e) (n_raised C v split w f m)) in
    let l : length c.make_plain.new.code ≡ length C = p.same ∙ m.same in
    let q = c.make_plain-2.ensures (sent_on C) (t_some C v split w) (subst (Starts (sent_on C) split) (sym l) (t_starts C v split w)) (subst (Raised (sent_on C) c.make_plain.new.code split) (sym l) (t_raised C v split w f c.make_plain.new.code m p)) in
    let r = subst (λ n. Restored c.make_plain-2.new.code c.restore.new.code n split c.args.saved.now) e c.restore.ensures in
    closed C v split w f c.make_plain.new.code c.make_plain-2.new.code c.restore.new.code c.args.saved.now m p q r (subst (λ n. Saved C n split c.args.saved.now) e s) ∙ ap (λ n. shorter C ++ drop n C) (sym e)
