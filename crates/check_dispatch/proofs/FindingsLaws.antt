-- A node of a kind that has no case has no finding.
use Rattle.std.specs.Prelude.{ℕ, ◌≡◌, List, [], Bool, cond, eqb}
use Rattle.std.proofs.Common.{ap, ◌∙◌, ne_eqb}
use Rattle.table_records.specs.Table.{kind_of}
use Rattle.table_records.specs.Kinds as k
use Rattle.check_diagnostics.specs.declared.Finding.{Finding}
use Rattle.check_dispatch.specs.Findings.{findings_at}

-- the case of another kind
other : (x a : ℕ) (fs rest : List Finding) → (x ≡ a → ⊥) → cond (eqb x a) fs rest ≡ rest
other x a fs rest h = ap (λ (b : Bool). cond b fs rest) (ne_eqb x a h)

pub no_case : (source_type : ℕ) (ns ss source names : List ℕ) (n x : ℕ) → x ≡ kind_of ns n
    → (x ≡ k.BindingIdentifier → ⊥)
    → (x ≡ k.IdentifierReference → ⊥)
    → (x ≡ k.LabelIdentifier → ⊥)
    → (x ≡ k.PrivateIdentifier → ⊥)
    → (x ≡ k.NumericLiteral → ⊥)
    → (x ≡ k.StringLiteral → ⊥)
    → (x ≡ k.Directive → ⊥)
    → (x ≡ k.With → ⊥)
    → (x ≡ k.Break → ⊥)
    → (x ≡ k.Continue → ⊥)
    → (x ≡ k.Labeled → ⊥)
    → (x ≡ k.ForIn → ⊥)
    → (x ≡ k.ForOf → ⊥)
    → (x ≡ k.While → ⊥)
    → (x ≡ k.DoWhile → ⊥)
    → (x ≡ k.For → ⊥)
    → (x ≡ k.If → ⊥)
    → (x ≡ k.Class → ⊥)
    → (x ≡ k.Super → ⊥)
    → (x ≡ k.Await → ⊥)
    → (x ≡ k.Object → ⊥)
    → (x ≡ k.Unary → ⊥)
    → (x ≡ k.Yield → ⊥)
    → (x ≡ k.VariableDeclaration → ⊥)
    → findings_at source_type ns ss source names n ≡ []
unfolding findings_at
no_case source_type ns ss source names n x e h1 h2 h3 h4 h5 h6 h7 h8 h9 h10 h11 h12 h13 h14 h15 h16 h17 h18 h19 h20 h21 h22 h23 h24 =
    rw (← e) (other x k.BindingIdentifier _ _ h1 ∙ (other x k.IdentifierReference _ _ h2 ∙ (other x k.LabelIdentifier _ _ h3 ∙ (other x k.PrivateIdentifier _ _ h4 ∙ (other x k.NumericLiteral _ _ h5 ∙ (other x k.StringLiteral _ _ h6 ∙ (other x k.Directive _ _ h7 ∙ (other x k.With _ _ h8 ∙ (other x k.Break _ _ h9 ∙ (other x k.Continue _ _ h10 ∙ (other x k.Labeled _ _ h11 ∙ (other x k.ForIn _ _ h12 ∙ (other x k.ForOf _ _ h13 ∙ (other x k.While _ _ h14 ∙ (other x k.DoWhile _ _ h15 ∙ (other x k.For _ _ h16 ∙ (other x k.If _ _ h17 ∙ (other x k.Class _ _ h18 ∙ (other x k.Super _ _ h19 ∙ (other x k.Await _ _ h20 ∙ (other x k.Object _ _ h21 ∙ (other x k.Unary _ _ h22 ∙ (other x k.Yield _ _ h23 ∙ (other x k.VariableDeclaration _ _ h24))))))))))))))))))))))))
