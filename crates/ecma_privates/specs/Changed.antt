-- THE RULES AS THE RUST HAS THEM, where they are not the standard's, and the conditions on which they are: in the order of the codes 1 (at a class), 7 and 8.
use Rattle.table_records.specs.declared.NodeId.{NodeId}
use Rattle.std.specs.Prelude.{ℕ, ◌<◌, ◌≤◌, ◌≡◌, List, [], ◌∷◌, Bool, true, false, not, ◌&&◌, eqb, ltb, length, Option, Some, None, is_some}
use Rattle.std.specs.Bool.{xor}
use Rattle.base_common.specs.Tests.{within}
use Rattle.base_walk.specs.On.{member}
use Rattle.table_records.specs.Table.{kind_of, parent_of, name_len_of, count}
use Rattle.table_records.specs.Kinds as k
use Rattle.table_children.specs.Children.{keep, children, key_of, value_of}
use Rattle.ecma_trees.specs.Rose.{tree_of}
use Rattle.ecma_elements.specs.Changed.{is_table_constructor, body_in}
use Rattle.ecma_privates.specs.PrivateNames.{is_private_bound, entries, is_setter, matched, invalid, is_use}
use Rattle.ecma_privates.specs.Raised.{body_around}

-- 1 at a class: private names

abbrev pub bodiless : List ℕ → ℕ → Bool
bodiless ns e = eqb (kind_of ns e) k.MethodDefinition && not (body_in ns (value_of ns e))

abbrev pub named : List ℕ → Option NodeId → Bool
named ns (Some m) = not (eqb (kind_of ns m.0) k.IdentifierReference) && not (eqb (name_len_of ns m.0) 0)
named ns None = false

-- no constructor, no method without a body and nothing without a name (an IdentifierReference as key gives none) is entered
unfoldable pub is_entered : List ℕ → ℕ → Bool
is_entered ns e = not (eqb (kind_of ns e) k.MethodDefinition && is_table_constructor ns e) && (not (bodiless ns e) && named ns (key_of ns e))

unfoldable pub private_entered : List ℕ → ℕ → List ℕ
private_entered ns b = keep (λ e. is_private_bound ns e && is_entered ns e) (children ns b)

-- CONDITION: all private elements of the class are entered
abbrev pub PrivatesEntered : List ℕ → ℕ → Type 0
PrivatesEntered ns b = (e : ℕ) → member e (children ns b) ≡ true → is_private_bound ns e ≡ true → is_entered ns e ≡ true

-- An entry is held against one earlier entry: the last one that is a setter just if this one is, or else the last one.
abbrev pub last : List ℕ → Option NodeId
last [] = None
last (a ∷ []) = Some (record { 0 = a })
last (a ∷ b ∷ l) = last (b ∷ l)

abbrev pub or_found : Option NodeId → Option NodeId → Option NodeId
or_found (Some m) g = Some m
or_found None g = g

abbrev pub unlike : List ℕ → ℕ → Option NodeId → Bool
unlike ns e (Some d) = not (matched ns d.0 e)
unlike ns e None = false

-- e clashes with an earlier one of l, the entries of its name
unfoldable pub clash_in : List ℕ → List ℕ → ℕ → Bool
clash_in ns l e =
    unlike ns e (or_found (last (keep (λ d. not (xor (is_setter ns d) (is_setter ns e))) (keep (λ d. ltb d e) l))) (last (keep (λ d. ltb d e) l)))

-- CHANGED RULE: a breach of its own is each entry that clashes with an earlier one
unfoldable pub private_again : List ℕ → List ℕ → List ℕ → List ℕ
private_again ns names l = keep (λ e. clash_in ns (entries ns names l e) e) l

-- CONDITION: no name has more than two entries
abbrev pub OnceOrTwice : List ℕ → List ℕ → List ℕ → Type 0
OnceOrTwice ns names l = (e : ℕ) → member e l ≡ true → length (entries ns names l e) ≤ 2

-- 7: private names outside of classes

-- CHANGED RULE: each PrivateIdentifier in no ClassBody, whatever it stands under
unfoldable pub is_outside : List ℕ → ℕ → Bool
is_outside ns n = eqb (kind_of ns n) k.PrivateIdentifier && not (is_some (body_around ns n))

-- CONDITION: a PrivateIdentifier outside of ClassBodies is a use; each is
abbrev pub OutsideUsed : List ℕ → ℕ → Type 0
OutsideUsed ns j = is_outside ns j ≡ true → is_use ns j ≡ true

abbrev pub UsedOutside : List ℕ → Type 0
UsedOutside ns = (j : ℕ) → j < count ns → OutsideUsed ns j

-- 8: private names that no class binds

-- a PrivateIdentifier under any member expression is a use
unfoldable pub is_table_use : List ℕ → ℕ → Bool
is_table_use ns n = eqb (kind_of ns n) k.PrivateIdentifier && within (kind_of ns (parent_of ns n)) k.OtherMember k.PrivateIn

-- CHANGED RULE: AllPrivateIdentifiersValid by these uses, and a class binds what is entered
abbrev pub invalid_in_table : List ℕ → List ℕ → List ℕ
invalid_in_table ns names = invalid ns names (is_table_use ns) (private_entered ns) (tree_of ns) []

-- CONDITION: no member expression without a private name holds a PrivateIdentifier, and all private elements are entered
pub record PrivatesPlain (ns : List ℕ) : Type 0 where
  pub members : (j : ℕ) → j < count ns → kind_of ns j ≡ k.PrivateIdentifier → kind_of ns (parent_of ns j) ≡ k.OtherMember → ⊥
  pub entered : (b : ℕ) → b < count ns → PrivatesEntered ns b
