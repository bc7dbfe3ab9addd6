-- ECMA-262, 13.5.1 The delete Operator, 13.5.1.1 Static Semantics: Early Errors of UnaryExpression : delete UnaryExpression.
use Rattle.table_records.specs.declared.NodeId.{NodeId}
use Rattle.std.specs.Prelude.{ℕ, List, Bool, false, cond, ◌&&◌, ◌||◌, eqb, Option, Some, None}
use Rattle.table_records.specs.Table.{kind_of, flags_of, extra_of, has_flag}
use Rattle.table_records.specs.Kinds as k
use Rattle.table_records.specs.Extras as extra
use Rattle.table_records.specs.NodeFlag as flag
use Rattle.table_children.specs.Children.{value_of}
use Rattle.ecma_trees.specs.Rose.{Rose, Roses, node, rnil, rcons, idx, tree_at}
use Rattle.ecma_base.specs.Strict.{strict_code}

-- 13.2, PrimaryExpression : CoverParenthesizedExpressionAndArrowParameterList
abbrev pub parenthesized : List ℕ → ℕ → Bool
parenthesized ns e = eqb (kind_of ns e) k.AnythingElse && eqb (extra_of ns e) extra.Parenthesis

-- 13.5.1.1: "PrimaryExpression : CoverParenthesizedExpressionAndArrowParameterList and [it] ultimately derives a phrase that, if used in place of UnaryExpression, would
-- produce a Syntax Error according to these rules. This rule is recursively applied."
module _ (ns : List ℕ) (phrase : Rose → Bool) where
  unfoldable mutual
    pub ultimately : Rose → Bool
    ultimately (node e ks) = cond (parenthesized ns e) (ultimately_first ks) (phrase (node e ks))

    pub ultimately_first : Roses → Bool
    ultimately_first rnil = false
    ultimately_first (rcons t ts) = ultimately t

-- 13.2, PrimaryExpression : IdentifierReference
unfoldable pub name_reference : List ℕ → Rose → Bool
name_reference ns (node e ks) = eqb (kind_of ns e) k.IdentifierReference

abbrev pub first_is_private : List ℕ → Roses → Bool
first_is_private ns rnil = false
first_is_private ns (rcons t ts) = eqb (kind_of ns (idx t)) k.PrivateField

-- 13.3, MemberExpression : MemberExpression . PrivateIdentifier, CallExpression : CallExpression . PrivateIdentifier; OptionalChain : ?. PrivateIdentifier,
-- OptionalChain : OptionalChain . PrivateIdentifier: a chain is one node around its last link
unfoldable pub private_reference : List ℕ → Rose → Bool
private_reference ns (node e ks) = eqb (kind_of ns e) k.PrivateField || (eqb (kind_of ns e) k.Chain && first_is_private ns ks)

-- 13.5.1.1: the derived UnaryExpression is, or derives in parentheses, such a phrase
abbrev pub derives : List ℕ → (Rose → Bool) → Option NodeId → Bool
derives ns phrase (Some m) = ultimately ns phrase (tree_at ns m.0)
derives ns phrase None = false

-- 13.5, UnaryExpression : delete UnaryExpression
abbrev pub delete_expression : List ℕ → ℕ → Bool
delete_expression ns n = eqb (kind_of ns n) k.Unary && has_flag (flags_of ns n) flag.Delete

-- 13.5.1.1: "It is a Syntax Error if IsStrict(the UnaryExpression) is true and the derived UnaryExpression is" a name, ..
unfoldable pub deletes_name : List ℕ → List ℕ → ℕ → Bool
deletes_name ns ss n = delete_expression ns n && (strict_code ns ss n && derives ns (name_reference ns) (value_of ns n))

-- .. or a private reference
unfoldable pub deletes_private : List ℕ → List ℕ → ℕ → Bool
deletes_private ns ss n = delete_expression ns n && (strict_code ns ss n && derives ns (private_reference ns) (value_of ns n))
