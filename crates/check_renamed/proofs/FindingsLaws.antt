-- THE FINDINGS OF TWO RULES, of which one is the other with its labels renamed, are equal: in all seven numbers and in their order, for every source type, with the option and without.
use Rattle.std.specs.Prelude.{ℕ, ◌*◌, ◌≡◌, refl, List, true, eqb, length}
use Rattle.std.proofs.Common.{ap, arith}
use Rattle.std.proofs.Math.Path.{fun_ext}
use Rattle.table_records.specs.Table.{count, kind_of}
use Rattle.table_records.specs.Kinds as k
use Rattle.table_records.specs.Facts.{Named}
use Rattle.table_names.specs.Name.{name_of}
use Rattle.check_dispatch.specs.Rule.{rule}
use Rattle.check_dispatch.specs.Findings.{findings_at}
use Rattle.check_dispatch.specs.Reported.{reported_at, reported}
use Rattle.table_renamed.specs.Renamed.{Renamed}
use Rattle.table_renamed.specs.Alike.{Alike}
use Rattle.table_renamed.proofs.RenamedLaws.{everywhere}
use Rattle.table_renamed.proofs.TableLaws.{tables}
use Rattle.table_renamed.proofs.NameLaws.{cond_both, name_at_kind}
use Rattle.check_renamed.specs.Unreserved.{Unreserved}
use Rattle.check_renamed.proofs.CheckLaws.{checks}
use Rattle.check_renamed.proofs.SuperLaws.{super}
use Rattle.check_renamed.proofs.NamedLaws.{identifier, binding, reference, directive, break, continue, labeled, object, duplicates, class}

module _ (ns names ms mnames : List ℕ) (renamed : Renamed ns names ms mnames) (whole : length ns ≡ count ns * 10) (w : Named ns names) (v : Named ms mnames)
    (old : Unreserved ns names) (new : Unreserved ms mnames) (t : ℕ) (ss source : List ℕ)
  where
    r : Alike ns names ms mnames
    r = everywhere ns names ms mnames whole renamed

    test : (n kind : ℕ) → eqb (kind_of ns n) kind ≡ eqb (kind_of ms n) kind
    test n kind = ap (λ x. eqb x kind) (r.fields.kind n)

    kept : (n kind : ℕ) → (kind ≡ k.LabelIdentifier → ⊥) → eqb (kind_of ns n) kind ≡ true → name_of ns names n ≡ name_of ms mnames n
    kept n kind h e = name_at_kind ns names ms mnames r n kind h e

    findings_at_lem : findings_at t ns ss source names ≡ findings_at t ms ss source mnames
    unfolding findings_at
    findings_at_lem =
        fun_ext (λ n.
        rw (
          identifier ns names ms mnames r whole old new t ss n,
          class ns names ms mnames r w v t n,
          object ns names ms mnames r n,
        )
        (cond_both _ _ _ _ _ _ (test n k.BindingIdentifier) (λ e. rw (binding ns names ms mnames r t ss n (kept n k.BindingIdentifier (λ z. omega arith) e)))
        (cond_both _ _ _ _ _ _ (test n k.IdentifierReference) (λ e. rw (reference ns names ms mnames r t ss n (kept n k.IdentifierReference (λ z. omega arith) e)))
        (cond_both _ _ _ _ _ _ (test n k.LabelIdentifier) (λ e. refl)
        (cond_both _ _ _ _ _ _ (test n k.PrivateIdentifier) (λ e. simp (checks, r.fields))
        (cond_both _ _ _ _ _ _ (test n k.NumericLiteral) (λ e. simp (checks, r.fields))
        (cond_both _ _ _ _ _ _ (test n k.StringLiteral) (λ e. simp (checks, r.fields))
        (cond_both _ _ _ _ _ _ (test n k.Directive) (λ e. rw (directive ns names ms mnames r ss n (kept n k.Directive (λ z. omega arith) e)))
        (simp (break ns names ms mnames r, continue ns names ms mnames r, labeled ns names ms mnames r) (simp (super, checks, r.fields) (simp (tables, r.fields))))))))))))

    reported_at_lem : (o : ℕ) → reported_at (rule t o ns ss source names) ≡ reported_at (rule t o ms ss source mnames)
    unfolding reported_at
    reported_at_lem o = fun_ext (λ n. rw (findings_at_lem) (simp (checks, r.fields)))

    -- "findings are equal in code, node, spans and context": o is the option of request 8
    pub findings_renamed : (o : ℕ) → reported (rule t o ns ss source names) ≡ reported (rule t o ms ss source mnames)
    unfolding reported
    findings_renamed o = rw (duplicates ns names ms mnames r w v t, reported_at_lem o) (simp (tables, r.fields))
