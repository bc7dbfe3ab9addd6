-- What is known where the scopes follow the tree.
use Rattle.std.specs.Prelude.{ℕ, ◌<◌, ◌≡◌, List, Bool, ◌&&◌, ◌||◌, ◌⊎◌, ltb}
use Rattle.std.proofs.Math.Path.{refl}
use Rattle.std.proofs.Common.{ap, sym, ◌∙◌, eq-or-lt_of_le, arith}
use Rattle.std.proofs.Math.Bool.{true, false}
use Rattle.std.proofs.Math.Logic.{inl, inr, ⊎_elim}
use borrow.Author.Tests.{eq-eqb, ne_eqb, eqb-true, ltb-true}
use Rattle.std.proofs.Math.Dec.{eqb}
use Rattle.base_common.specs.Upto.{upto, all}
use Rattle.base_common.proofs.UptoLaws.{all_upto, and_left_lem, and_right_lem}
use Rattle.base_common.specs.Tests.{within}
use Rattle.base_common.proofs.Bools.{never, either, in_range_lem, range_of}
use Rattle.table_records.specs.Table.{kind_of, parent_of, extra_of, count, scope_of, scope_parent_of, scope_node_of}
use Rattle.table_records.specs.Facts.{Tree}
use Rattle.table_records.specs.Kinds as k
use Rattle.ecma_base.specs.Scopes.{makes_scope, may_make_scope, same_scope, new_scope, follows_at, iff, implies, block_scope, function_scope, arrow_scope, top_scope, scope_kind, flagged_at, class_at, scopes_follow, Made}

pub not_program : (ns : List ℕ) → Tree ns → (i : ℕ) → (kind_of ns i ≡ 0 → ⊥) → 0 < i
not_program ns t i n = ⊎_elim (λ (q : 0 ≡ i). absurd (n (ap (λ (x : ℕ). kind_of ns x) (sym q) ∙ t.root))) (λ (h : 0 < i). h) (eq-or-lt_of_le (omega arith))

same : (a b : Bool) → iff a b ≡ true → a ≡ b
same true true e = refl
same true false e = sym e
same false true e = e
same false false e = refl

-- what is no function, no arrow and no static block is none of them
pub no_function : (a : ℕ) → within a 1 3 ≡ false → (eqb a 3 ≡ false) × (within a 1 2 ≡ false)
no_function a e = (ne_eqb a 3 (λ q. never (sym (in_range_lem a 1 3 (omega arith) (omega arith)) ∙ e)), go (within a 1 2) refl)
  where
    go : (x : Bool) → within a 1 2 ≡ x → x ≡ false
    go true q = let r = range_of a 1 2 q in let r0 = r.0 in let r1 = r.1 in never (sym (in_range_lem a 1 3 r0 (omega arith)) ∙ e)
    go false q = refl

module _ (ns ss : List ℕ) (t : Tree ns) (w : scopes_follow ns ss ≡ true) where
  abbrev start : Bool
  start = eqb (scope_of ns 0) 0 && eqb (scope_node_of ss 0) 0

  abbrev all_flagged : Bool
  all_flagged = all (flagged_at ns ss) (upto 0 (count ns))

  abbrev all_follow : Bool
  all_follow = all (follows_at ns ss) (upto 1 (count ns))

  abbrev all_classes : Bool
  all_classes = all (class_at ns ss) (upto 1 (count ns))

  pub root : scope_of ns 0 ≡ 0
  unfolding scopes_follow
  root = eqb-true (scope_of ns 0) 0 (and_left_lem (eqb (scope_of ns 0) 0) (eqb (scope_node_of ss 0) 0) (and_left_lem start (all_flagged && (all_follow && all_classes)) w))

  pub root_node : scope_node_of ss 0 ≡ 0
  unfolding scopes_follow
  root_node = eqb-true (scope_node_of ss 0) 0 (and_right_lem (eqb (scope_of ns 0) 0) (eqb (scope_node_of ss 0) 0) (and_left_lem start (all_flagged && (all_follow && all_classes)) w))

  tests : (all_flagged && (all_follow && all_classes)) ≡ true
  unfolding scopes_follow
  tests = and_right_lem start (all_flagged && (all_follow && all_classes)) w

  flagged : (i : ℕ) → i < count ns → flagged_at ns ss i ≡ true
  flagged i h = all_upto (flagged_at ns ss) 0 (count ns) (and_left_lem all_flagged (all_follow && all_classes) tests) i (omega arith) h

  follows : (i : ℕ) → 0 < i → i < count ns → follows_at ns ss i ≡ true
  follows i z h = all_upto (follows_at ns ss) 1 (count ns) (and_left_lem all_follow all_classes (and_right_lem all_flagged (all_follow && all_classes) tests)) i (omega arith) h

  classes : (i : ℕ) → 0 < i → i < count ns → class_at ns ss i ≡ true
  classes i z h = all_upto (class_at ns ss) 1 (count ns) (and_right_lem all_follow all_classes (and_right_lem all_flagged (all_follow && all_classes) tests)) i (omega arith) h

  -- the four flags
  abbrev b : ℕ → Bool
  b i = iff (block_scope ns ss i) (eqb (scope_kind ns ss i) k.StaticBlock)

  abbrev f : ℕ → Bool
  f i = iff (function_scope ns ss i) (within (scope_kind ns ss i) k.Function k.Arrow)

  abbrev a : ℕ → Bool
  a i = iff (arrow_scope ns ss i) (eqb (scope_kind ns ss i) k.Arrow)

  abbrev p : ℕ → Bool
  p i = iff (top_scope ns ss i) (eqb (scope_of ns i) 0)

  pub block_flag : (i : ℕ) → i < count ns → block_scope ns ss i ≡ eqb (scope_kind ns ss i) k.StaticBlock
  unfolding flagged_at
  block_flag i h = same (block_scope ns ss i) (eqb (scope_kind ns ss i) k.StaticBlock) (and_left_lem (b i) (f i && (a i && p i)) (flagged i h))

  pub function_flag : (i : ℕ) → i < count ns → function_scope ns ss i ≡ within (scope_kind ns ss i) k.Function k.Arrow
  unfolding flagged_at
  function_flag i h = same (function_scope ns ss i) (within (scope_kind ns ss i) k.Function k.Arrow) (and_left_lem (f i) (a i && p i) (and_right_lem (b i) (f i && (a i && p i)) (flagged i h)))

  pub arrow_flag : (i : ℕ) → i < count ns → arrow_scope ns ss i ≡ eqb (scope_kind ns ss i) k.Arrow
  unfolding flagged_at
  arrow_flag i h = same (arrow_scope ns ss i) (eqb (scope_kind ns ss i) k.Arrow) (and_left_lem (a i) (p i) (and_right_lem (f i) (a i && p i) (and_right_lem (b i) (f i && (a i && p i)) (flagged i h))))

  pub top_flag : (i : ℕ) → i < count ns → top_scope ns ss i ≡ eqb (scope_of ns i) 0
  unfolding flagged_at
  top_flag i h = same (top_scope ns ss i) (eqb (scope_of ns i) 0) (and_right_lem (a i) (p i) (and_right_lem (f i) (a i && p i) (and_right_lem (b i) (f i && (a i && p i)) (flagged i h))))

  new : (i : ℕ) → new_scope ns ss i ≡ true → Made ns ss i
  new i e =
      record {
        later = ltb-true 0 (scope_of ns i) (and_left_lem (ltb 0 (scope_of ns i)) (eqb (scope_parent_of ss (scope_of ns i)) (scope_of ns (parent_of ns i)) && eqb (scope_node_of ss (scope_of ns i)) (parent_of ns i)) e);
        around = eqb-true (scope_parent_of ss (scope_of ns i)) (scope_of ns (parent_of ns i))
            (and_left_lem (eqb (scope_parent_of ss (scope_of ns i)) (scope_of ns (parent_of ns i))) (eqb (scope_node_of ss (scope_of ns i)) (parent_of ns i))
            (and_right_lem (ltb 0 (scope_of ns i)) (eqb (scope_parent_of ss (scope_of ns i)) (scope_of ns (parent_of ns i)) && eqb (scope_node_of ss (scope_of ns i)) (parent_of ns i)) e));
        whose = eqb-true (scope_node_of ss (scope_of ns i)) (parent_of ns i)
            (and_right_lem (eqb (scope_parent_of ss (scope_of ns i)) (scope_of ns (parent_of ns i))) (eqb (scope_node_of ss (scope_of ns i)) (parent_of ns i))
            (and_right_lem (ltb 0 (scope_of ns i)) (eqb (scope_parent_of ss (scope_of ns i)) (scope_of ns (parent_of ns i)) && eqb (scope_node_of ss (scope_of ns i)) (parent_of ns i)) e));
      }

  pub made : (i : ℕ) → 0 < i → i < count ns → makes_scope (kind_of ns (parent_of ns i)) ≡ true → Made ns ss i
  unfolding follows_at
  made i z h e = new i (rw e at (follows i z h))

  pub same_or_made : (i : ℕ) → 0 < i → i < count ns → (scope_of ns i ≡ scope_of ns (parent_of ns i)) ⊎ Made ns ss i
  unfolding follows_at
  same_or_made i z h = go (makes_scope (kind_of ns (parent_of ns i))) refl
    where
      go : (x : Bool) → makes_scope (kind_of ns (parent_of ns i)) ≡ x → (scope_of ns i ≡ scope_of ns (parent_of ns i)) ⊎ Made ns ss i
      go true e = inr (made i z h e)
      go false e =
          ⊎_elim (λ q. inl (eqb-true (scope_of ns i) (scope_of ns (parent_of ns i)) q)) (λ q. inr (new i (and_right_lem (may_make_scope (kind_of ns (parent_of ns i))) (new_scope ns ss i) q)))
          (either (same_scope ns i) (may_make_scope (kind_of ns (parent_of ns i)) && new_scope ns ss i) (rw e at (follows i z h)))

  pub same_only : (i : ℕ) → 0 < i → i < count ns → makes_scope (kind_of ns (parent_of ns i)) ≡ false → may_make_scope (kind_of ns (parent_of ns i)) ≡ false → scope_of ns i ≡ scope_of ns (parent_of ns i)
  unfolding follows_at
  same_only i z h e g =
      ⊎_elim (λ q. eqb-true (scope_of ns i) (scope_of ns (parent_of ns i)) q) (λ q. never (sym (and_left_lem (may_make_scope (kind_of ns (parent_of ns i))) (new_scope ns ss i) q) ∙ g))
      (either (same_scope ns i) (may_make_scope (kind_of ns (parent_of ns i)) && new_scope ns ss i) (rw e at (follows i z h)))

  -- the kind of the node of a scope that i's parent makes is its parent's
  pub made_kind : (i : ℕ) → Made ns ss i → scope_kind ns ss i ≡ kind_of ns (parent_of ns i)
  made_kind i m = ap (λ (x : ℕ). kind_of ns x) m.whose

  -- the scope of what no parent makes a scope for is the program's
  pub root_kind : (i : ℕ) → scope_of ns i ≡ 0 → scope_kind ns ss i ≡ 0
  root_kind i e = ap (λ (x : ℕ). kind_of ns (scope_node_of ss x)) e ∙ ap (λ (x : ℕ). kind_of ns x) root_node ∙ t.root

  -- classes
  module _ (i : ℕ) (z : 0 < i) (h : i < count ns) where
    abbrev named : Bool
    named = implies (eqb (kind_of ns i) k.Class) (eqb (scope_node_of ss (extra_of ns i)) i)

    abbrev in_own : Bool
    in_own = implies (eqb (kind_of ns i) k.ClassBody) (new_scope ns ss i && eqb (scope_of ns i) (extra_of ns (parent_of ns i)))

    abbrev is_element : Bool
    is_element = within (kind_of ns i) k.MethodDefinition k.AccessorProperty || eqb (kind_of ns i) k.StaticBlock

    abbrev element : Bool
    element = implies (eqb (kind_of ns (parent_of ns i)) k.ClassBody) is_element

    then' : (a b : Bool) → implies a b ≡ true → a ≡ true → b ≡ true
    then' true b e q = e
    then' false b e q = never (sym q)

    pub class_name : kind_of ns i ≡ k.Class → scope_node_of ss (extra_of ns i) ≡ i
    unfolding class_at
    class_name e = eqb-true (scope_node_of ss (extra_of ns i)) i (then' (eqb (kind_of ns i) k.Class) (eqb (scope_node_of ss (extra_of ns i)) i) (and_left_lem named (in_own && element) (classes i z h)) (eq-eqb (kind_of ns i) k.Class e))

    pub class_body : kind_of ns i ≡ k.ClassBody → Made ns ss i × (scope_of ns i ≡ extra_of ns (parent_of ns i))
    unfolding class_at
    class_body e =
        let x = then' (eqb (kind_of ns i) k.ClassBody) (new_scope ns ss i && eqb (scope_of ns i) (extra_of ns (parent_of ns i))) (and_left_lem in_own element (and_right_lem named (in_own && element) (classes i z h))) (eq-eqb (kind_of ns i) k.ClassBody e) in
        (new i (and_left_lem (new_scope ns ss i) (eqb (scope_of ns i) (extra_of ns (parent_of ns i))) x), eqb-true (scope_of ns i) (extra_of ns (parent_of ns i)) (and_right_lem (new_scope ns ss i) (eqb (scope_of ns i) (extra_of ns (parent_of ns i))) x))

    pub class_element : kind_of ns (parent_of ns i) ≡ k.ClassBody → is_element ≡ true
    unfolding class_at
    class_element e = then' (eqb (kind_of ns (parent_of ns i)) k.ClassBody) is_element (and_right_lem in_own element (and_right_lem named (in_own && element) (classes i z h))) (eq-eqb (kind_of ns (parent_of ns i)) k.ClassBody e)
