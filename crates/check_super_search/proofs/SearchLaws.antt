-- The search, as its loop meets it, and that the class it names is in the table.
use Rattle.table_records.specs.declared.ScopeId.{ScopeId}
use Rattle.table_records.specs.declared.NodeId.{NodeId}
use Prim.Native.Nat.{ℕ, zero, suc, ◌+◌, ◌≤◌, ◌<◌}
use Rattle.std.specs.Prelude.{◌≡◌, refl, Bool, true, false, not, eqb, Option, Some, None}
use Rattle.std.proofs.Math.Path.{ap}
use Rattle.std.proofs.Common.{sym, subst, ◌∙◌, eqb-true, ⊎_elim, arith}
use mathlib.Core.List.{List, [], ◌∷◌}
use Rattle.std.proofs.Math.Bool.{cond}
use Rattle.std.proofs.lemmas.Bool.{eqb-false}
use Rattle.base_common.proofs.Bools.{never}
use Rattle.base_walk.specs.On.{on}
use Rattle.base_walk.proofs.OnLaws.{on_le, on_step, on_trans, on_self}
use Rattle.base_walk.proofs.PreorderLaws.{lt_or_ge}
use Rattle.table_records.specs.Table.{kind_of, parent_of, scope_of, count, outer, count_scopes, scope_parent_of, scope_node_of, has_flag, flags_of, extra_of, scope_flags_of}
use Rattle.table_records.specs.Facts.{Tree, Chained, Scoped}
use Rattle.table_records.specs.Kinds as k
use Rattle.table_records.specs.Extras as extra
use Rattle.table_records.specs.NodeFlag as flag
use Rattle.table_records.specs.ScopeFlag as scope
use Rattle.table_children.specs.Children.{first_node, below}
use Rattle.table_children.proofs.ChildrenLaws.{node_on, node_stop, node_end, number}
use Rattle.table_ancestry.specs.Ancestry.{nearest_of}
use Rattle.base_common.specs.Tests.{within}
use Rattle.table_ancestry.proofs.AncestryLaws.{parent_in, nearest_stop, nearest_on, nearest_root}
use Rattle.check_class_table.specs.Classes.{body_above}
use Rattle.check_supers.specs.Super.{if_call, part_at, place_of, heritage_use, first_class, dummy_use, derived_use, is_value_of, is_method_like, object_use, method_use, function_use, is_class_scope, at_class, scope_step, step_at, leave_class, class_after, or_rest, reach_from, reach_of, is_call}
use Rattle.check_supers.proofs.SuperLaws.{outer_next, reach_end, place_some}
use Rattle.check_supers.specs.declared.ElementPart.{ElementPart}
use Rattle.check_supers.specs.declared.ElementPart.TheVariants.{Value, Key}
use Rattle.check_supers.specs.declared.Reach.{Reach}
use Rattle.check_supers.specs.declared.Reach.TheVariants.{Legal, Illegal, Underived, Fails}
use Rattle.check_supers.specs.declared.Step.{Step}
use Rattle.check_supers.specs.declared.Step.TheVariants.{Stop, Leave, On}
use Rattle.check_super_search.specs.Search.{is_stop, stop_reach, underived_in, around_of, scopes_in, at_most, AroundSuper}

-- a step that is none that ends the search
pub not_stop : (x : Step) → ((r : Reach) → x ≡ Stop r → ⊥) → is_stop x ≡ false
not_stop (Stop r) h = absurd (h r refl)
not_stop Leave h = refl
not_stop On h = refl

-- a step that ends the search
stopped : (x : Step) (r : Reach) → is_stop x ≡ true → or_rest x r ≡ stop_reach x
stopped (Stop q) r e = refl
stopped Leave r e = never (sym e)
stopped On r e = never (sym e)

going : (x : Step) (r : Reach) → is_stop x ≡ false → or_rest x r ≡ r
going (Stop q) r e = never e
going Leave r e = refl
going On r e = refl

-- one scope of the search; x is what it says
module _ (ns ss : List ℕ) (n : ℕ) (call : Bool) (class : Option NodeId) (start s : ℕ) (x : Step) (e : x ≡ step_at ns ss n call class start s) where
  turn : reach_from ns ss n call (s ∷ outer ss s) class start ≡ or_rest x (reach_from ns ss n call (outer ss s) (class_after ns class x) (scope_node_of ss s))
  unfolding reach_from
  turn = ap (λ (y : Step). or_rest y (reach_from ns ss n call (outer ss s) (class_after ns class y) (scope_node_of ss s))) (sym e)

  pub search_stop : is_stop x ≡ true → reach_from ns ss n call (s ∷ outer ss s) class start ≡ stop_reach x
  search_stop q = turn ∙ stopped x _ q

  pub search_on_lem : is_stop x ≡ false → Chained ss → (p : ℕ) → p ≡ scope_parent_of ss s → 0 < s → s < count_scopes ss
      → reach_from ns ss n call (s ∷ outer ss s) class start ≡ reach_from ns ss n call (p ∷ outer ss p) (class_after ns class x) (scope_node_of ss s)
  search_on_lem q c p f h l = turn ∙ going x _ q ∙ ap (λ (o : List ℕ). reach_from ns ss n call o (class_after ns class x) (scope_node_of ss s)) (outer_next ss c s p f h l)

  pub search_end : is_stop x ≡ false → s ≡ 0 → reach_from ns ss n call (s ∷ outer ss s) class start ≡ Illegal
  search_end q z = turn ∙ going x _ q ∙ ap (λ (t : ℕ). reach_from ns ss n call (outer ss t) (class_after ns class x) (scope_node_of ss s)) z ∙ reach_end ns ss n call (class_after ns class x) (scope_node_of ss s)

-- the scopes of the search are around the Super's, and their nodes in the table
pub node_in : (ns ss : List ℕ) → Tree ns → Scoped ns ss → (n s : ℕ) → n < count ns → on (scope_parent_of ss) s (scope_of ns n) ≡ true → scope_node_of ss s < count ns
node_in ns ss t w n s l o = let q = on_le (parent_of ns) (count ns) t.falls (scope_node_of ss s) n l (w.chain n l s o) in omega arith

pub around : (ss : List ℕ) → Chained ss → (a s p : ℕ) → a < count_scopes ss → s < count_scopes ss → 0 < s → p ≡ scope_parent_of ss s → on (scope_parent_of ss) s a ≡ true → on (scope_parent_of ss) p a ≡ true
around ss c a s p la ls h e o =
    subst (λ (x : ℕ). on (scope_parent_of ss) x a ≡ true) (sym e)
    (on_trans (scope_parent_of ss) (count_scopes ss) c.falls (scope_parent_of ss s) s a la
    (on_step (scope_parent_of ss) (count_scopes ss) c.falls (scope_parent_of ss s) s h ls (on_self (scope_parent_of ss) (scope_parent_of ss s))) o)

abbrev step_in : List ℕ → Step → Type 0
step_in ns (Stop r) = underived_in ns r
step_in ns Leave = Unit {0}
step_in ns On = Unit {0}

first_below : (q : ℕ → Bool) (n f i : ℕ) → n ≤ i + f → (r : Option NodeId) → first_node q i n ≡ r → (m : ℕ) → r ≡ Some (record { 0 = m }) → m < n
first_below q n zero i hf r e m d = let s : ◌≡◌ {A = Option NodeId} (Some (record { 0 = m })) None = sym d ∙ sym e ∙ node_end q i n (omega arith) in let z : ◌≡◌ {A = ℕ} 0 1 = cc in absurd (omega arith)
first_below q n (suc f) i hf r e m d =
    ⊎_elim (λ (h : i < n). go h (q i) refl (λ w. first_below q n f (i + 1) (omega arith) r w m d))
    (λ (h : n ≤ i). let s : ◌≡◌ {A = Option NodeId} (Some (record { 0 = m })) None = sym d ∙ sym e ∙ node_end q i n h in let z : ◌≡◌ {A = ℕ} 0 1 = cc in absurd (omega arith))
    (lt_or_ge i n)
  where
    go : i < n → (x : Bool) → q i ≡ x → (first_node q (i + 1) n ≡ r → m < n) → m < n
    go h true y w = let s : ◌≡◌ {A = Option NodeId} (Some (record { 0 = i })) (Some (record { 0 = m })) = sym (node_stop q i n h y) ∙ e ∙ d in let u = ap number s in omega arith
    go h false y w = w (sym (node_on q i n h y) ∙ e)

module _ (ns : List ℕ) (t : Tree ns) where
  in_cond : (b : Bool) (x y : Reach) → underived_in ns x → underived_in ns y → underived_in ns (cond b x y)
  in_cond true x y p q = p
  in_cond false x y p q = q

  heritage_in : (b : ℕ) → b < count ns → underived_in ns (heritage_use ns b)
  heritage_in b l = in_cond (has_flag (flags_of ns (parent_of ns b)) flag.Heritage) Legal (Underived (record { 0 = parent_of ns b })) tt (parent_in ns t b l)

  dummy_in : (n : ℕ) (r : Option NodeId) → below ns r → underived_in ns (dummy_use ns n r)
  dummy_in n (Some b) l = in_cond (on (parent_of ns) (parent_of ns b.0) n) (heritage_use ns b.0) Fails (heritage_in b.0 l) tt
  dummy_in n None l = tt

  first_in_lem : (r : Option NodeId) → first_class ns ≡ r → below ns r
  first_in_lem (Some b) e = first_below _ (count ns) (count ns) 0 (omega arith) (Some b) e b.0 refl
  first_in_lem None e = tt

  derived_in : (n : ℕ) (class : Option NodeId) → below ns class → underived_in ns (derived_use ns n class)
  derived_in n (Some b) l = heritage_in b.0 l
  derived_in n None l = dummy_in n (first_class ns) (first_in_lem (first_class ns) refl)

  call_in : (call : Bool) → underived_in ns (if_call call)
  call_in call = in_cond call Illegal Legal tt tt

  function_in : (n : ℕ) (call : Bool) (class : Option NodeId) (f : ℕ) → below ns class → underived_in ns (function_use ns n call class f)
  unfolding function_use object_use method_use
  function_in n call class f l =
      in_cond (eqb f 0) Fails (rest) tt
      (in_cond (eqb (kind_of ns p) k.ObjectProperty) object (cond (eqb (kind_of ns p) k.MethodDefinition) method Illegal) object_in (in_cond (eqb (kind_of ns p) k.MethodDefinition) method Illegal method_in tt))
    where
      p : ℕ
      p = parent_of ns f

      object : Reach
      object = cond (is_method_like ns p) (cond (is_value_of ns p f) (if_call call) Illegal) Illegal

      method : Reach
      method = cond (is_value_of ns p f) (cond call (cond (eqb (extra_of ns p) extra.Constructor) (derived_use ns n class) Illegal) Legal) Illegal

      rest : Reach
      rest = cond (eqb (kind_of ns p) k.ObjectProperty) object (cond (eqb (kind_of ns p) k.MethodDefinition) method Illegal)

      object_in : underived_in ns object
      object_in = in_cond (is_method_like ns p) (cond (is_value_of ns p f) (if_call call) Illegal) Illegal (in_cond (is_value_of ns p f) (if_call call) Illegal (call_in call) tt) tt

      method_in : underived_in ns method
      method_in =
          in_cond (is_value_of ns p f) (cond call (cond (eqb (extra_of ns p) extra.Constructor) (derived_use ns n class) Illegal) Legal) Illegal
          (in_cond call (cond (eqb (extra_of ns p) extra.Constructor) (derived_use ns n class) Illegal) Legal
          (in_cond (eqb (extra_of ns p) extra.Constructor) (derived_use ns n class) Illegal (derived_in n class l) tt) tt) tt

  at_in : (call : Bool) (p : Option ElementPart) → step_in ns (at_class call p)
  at_in call (Some Value) = call_in call
  at_in call (Some Key) = tt
  at_in call None = tt

  step_cond : (b : Bool) (x y : Step) → step_in ns x → step_in ns y → step_in ns (cond b x y)
  step_cond true x y p q = p
  step_cond false x y p q = q

  step_in_lem : (ss : List ℕ) (n : ℕ) (call : Bool) (class : Option NodeId) (start s : ℕ) → below ns class → step_in ns (step_at ns ss n call class start s)
  unfolding step_at
  step_in_lem ss n call class start s l =
      step_cond (is_class_scope ns class s) (at_class call (place_of ns start)) plain (at_in call (place_of ns start))
      (step_cond (has_flag (scope_flags_of ss s) scope.StaticBlockScope) (Stop (if_call call)) other (call_in call)
      (step_cond (not (has_flag (scope_flags_of ss s) scope.FunctionScope)) On last tt
      (step_cond (has_flag (scope_flags_of ss s) scope.ArrowScope) On (Stop (function_use ns n call class (scope_node_of ss s))) tt (function_in n call class (scope_node_of ss s) l))))
    where
      last : Step
      last = cond (has_flag (scope_flags_of ss s) scope.ArrowScope) On (Stop (function_use ns n call class (scope_node_of ss s)))

      other : Step
      other = cond (not (has_flag (scope_flags_of ss s) scope.FunctionScope)) On last

      plain : Step
      plain = cond (has_flag (scope_flags_of ss s) scope.StaticBlockScope) (Stop (if_call call)) other

  or_in : (x : Step) (r : Reach) → step_in ns x → underived_in ns r → underived_in ns (or_rest x r)
  or_in (Stop q) r a b = a
  or_in Leave r a b = b
  or_in On r a b = b

  reach_in_from : ((b : ℕ) → b < count ns → below ns (body_above ns b)) → (ss : List ℕ) (n : ℕ) (call : Bool) (l : List ℕ) (class : Option NodeId) (start : ℕ) → below ns class
      → underived_in ns (reach_from ns ss n call l class start)
  unfolding reach_from
  reach_in_from above_in_lem ss n call [] class start w = tt
  reach_in_from above_in_lem ss n call (s ∷ l) class start w =
      or_in (step_at ns ss n call class start s) _ (step_in_lem ss n call class start s w)
      (reach_in_from above_in_lem ss n call l (class_after ns class (step_at ns ss n call class start s)) (scope_node_of ss s) (after (step_at ns ss n call class start s) class w))
    where
      leave : (class : Option NodeId) → below ns class → below ns (leave_class ns class)
      leave (Some b) w = above_in_lem b.0 w
      leave None w = tt

      after : (x : Step) (class : Option NodeId) → below ns class → below ns (class_after ns class x)
      after (Stop r) class w = w
      after Leave class w = leave class w
      after On class w = w

  -- the nearest one of some kinds is in the table
  nearest_in : (low high f i : ℕ) → i ≤ f → i < count ns → below ns (nearest_of ns low high i)
  nearest_in low high zero i hf l = subst (λ (r : Option NodeId). below ns r) (sym (ap (nearest_of ns low high) (let z : i ≡ 0 = omega arith in z) ∙ nearest_root ns low high)) tt
  nearest_in low high (suc f) i hf l =
      ⊎_elim (λ (h : 0 < i). go h (within (kind_of ns (parent_of ns i)) low high) refl (nearest_in low high f (parent_of ns i) (let z = t.falls i h l in omega arith) (parent_in ns t i l)))
      (λ (h : i ≤ 0). subst (λ (r : Option NodeId). below ns r) (sym (ap (nearest_of ns low high) (let z : i ≡ 0 = omega arith in z) ∙ nearest_root ns low high)) tt)
      (lt_or_ge 0 i)
    where
      go : 0 < i → (x : Bool) → within (kind_of ns (parent_of ns i)) low high ≡ x → below ns (nearest_of ns low high (parent_of ns i)) → below ns (nearest_of ns low high i)
      go h true e w = subst (λ (r : Option NodeId). below ns r) (sym (nearest_stop ns t low high i (parent_of ns i) h l refl e)) (parent_in ns t i l)
      go h false e w = subst (λ (r : Option NodeId). below ns r) (sym (nearest_on ns t low high i (parent_of ns i) h l refl e)) w

  pub reach_in : (ss : List ℕ) (n : ℕ) → n < count ns → underived_in ns (reach_of ns ss n)
  unfolding reach_of
  reach_in ss n l =
      reach_in_from (λ b h. nearest_in k.ClassBody k.ClassBody b b (omega arith) h) ss n (is_call ns n) (scope_of ns n ∷ outer ss (scope_of ns n)) (body_above ns n) n (nearest_in k.ClassBody k.ClassBody n n (omega arith) l)

spent : (ns ss : List ℕ) (n : ℕ) (call : Bool) (class : Option NodeId) (start : ℕ) → reach_from ns ss n call [] class start ≡ Illegal
unfolding reach_from
spent ns ss n call class start = refl

-- the scopes around s
module _ (ss : List ℕ) (c : Chained ss) (s : ℕ) (l : s < count_scopes ss) (left : Option ScopeId) (f : left ≡ around_of ss s) where
  around_by : (P : Option ScopeId → Type 0) → (s ≡ 0 → P None) → (0 < s → P (Some (record { 0 = scope_parent_of ss s }))) → P left
  around_by P p q = rw f (go (eqb s 0) refl)
    where
      go : (t : Bool) → eqb s 0 ≡ t → P (cond t None (Some (record { 0 = scope_parent_of ss s })))
      go true e = p (eqb-true s 0 e)
      go false e = q (let h = eqb-false s 0 e in omega arith)

  -- there are fewer of them than scopes up to s, which is why a search ends
  pub around_less : at_most left < suc s
  around_less = around_by (λ x. at_most x < suc s) (λ e. omega arith) (λ h. omega (arith, c.falls s h l))

  pub around_super : (ns : List ℕ) (n : ℕ) → scope_of ns n < count_scopes ss → on (scope_parent_of ss) s (scope_of ns n) ≡ true → AroundSuper ns ss n left
  around_super ns n k o =
      around_by (AroundSuper ns ss n) (λ e. tt) (λ h. (omega (arith, c.falls s h l), around ss c (scope_of ns n) s (scope_parent_of ss s) k l h refl o))

  next_scopes : (ns : List ℕ) (n : ℕ) (call : Bool) (class : Option NodeId) (start : ℕ) (x : Step) → x ≡ step_at ns ss n call class start s → is_stop x ≡ false
      → reach_from ns ss n call (s ∷ outer ss s) class start ≡ reach_from ns ss n call (scopes_in ss left) (class_after ns class x) (scope_node_of ss s)
  next_scopes ns n call class start x e q =
      around_by (λ y. reach_from ns ss n call (s ∷ outer ss s) class start ≡ reach_from ns ss n call (scopes_in ss y) (class_after ns class x) (scope_node_of ss s))
      (λ z. search_end ns ss n call class start s x e q z ∙ sym (spent ns ss n call (class_after ns class x) (scope_node_of ss s)))
      (λ h. search_on_lem ns ss n call class start s x e q c (scope_parent_of ss s) refl h l)

-- a step at the class's scope, and at another
module _ (ns ss : List ℕ) (n : ℕ) (call : Bool) (class : Option NodeId) (start s : ℕ) where
  step_class : is_class_scope ns class s ≡ true → (p : Option ElementPart) → place_of ns start ≡ p → step_at ns ss n call class start s ≡ at_class call p
  unfolding step_at
  step_class e p q = rw (e, q)

  step_other : is_class_scope ns class s ≡ false → step_at ns ss n call class start s ≡ scope_step ns ss n call class s
  unfolding step_at
  step_other e = rw e

  goes_on_lem : is_stop (scope_step ns ss n call class s) ≡ false → scope_step ns ss n call class s ≡ On
  goes_on_lem = go (has_flag (scope_flags_of ss s) scope.StaticBlockScope) (has_flag (scope_flags_of ss s) scope.FunctionScope) (has_flag (scope_flags_of ss s) scope.ArrowScope)
    where
      r : Reach
      r = function_use ns n call class (scope_node_of ss s)

      go : (a b d : Bool) → is_stop (cond a (Stop (if_call call)) (cond (not b) On (cond d On (Stop r)))) ≡ false → cond a (Stop (if_call call)) (cond (not b) On (cond d On (Stop r))) ≡ On
      go true b d e = never e
      go false false d e = refl
      go false true true e = refl
      go false true false e = never e

-- the search as the loop has it: what is left of it equals the whole
module _ (ns ss : List ℕ) (t : Tree ns) (n : ℕ) (l : n < count ns) where
  abbrev pub Answers : Reach → Type 0
  Answers r = (r ≡ reach_of ns ss n) × underived_in ns r

  pub answers : (r : Reach) → r ≡ reach_of ns ss n → Answers r
  answers r e = (e, subst (λ (x : Reach). underived_in ns x) (sym e) (reach_in ns t ss n l))

  pub all_spent : (call : Bool) (class : Option NodeId) (start : ℕ) → reach_from ns ss n call [] class start ≡ reach_of ns ss n → Answers Illegal
  all_spent call class start i = answers Illegal (sym (spent ns ss n call class start) ∙ i)

  module _ (call : Bool) (class : Option NodeId) (start s : ℕ) (i : reach_from ns ss n call (s ∷ outer ss s) class start ≡ reach_of ns ss n) where
    stops : (x : Step) → x ≡ step_at ns ss n call class start s → is_stop x ≡ true → (r : Reach) → r ≡ stop_reach x → Answers r
    stops x e q r f = answers r (f ∙ sym (search_stop ns ss n call class start s x e q) ∙ i)

    pub class_fails : is_class_scope ns class s ≡ true → place_of ns start ≡ None → Answers Fails
    class_fails e p = stops (Stop Fails) (sym (step_class ns ss n call class start s e None p)) refl Fails refl

    pub class_value : is_class_scope ns class s ≡ true → place_of ns start ≡ Some Value → (r : Reach) → r ≡ if_call call → Answers r
    class_value e p r f = stops (Stop (if_call call)) (sym (step_class ns ss n call class start s e (Some Value) p)) refl r f

    pub class_key : Chained ss → is_class_scope ns class s ≡ true → place_of ns start ≡ Some Key → s < count_scopes ss → (left : Option ScopeId) → left ≡ around_of ss s → (k : Option NodeId) → k ≡ leave_class ns class → (b : ℕ) → b ≡ scope_node_of ss s
        → reach_from ns ss n call (scopes_in ss left) k b ≡ reach_of ns ss n
    class_key c e p h left f k g b d = rw (g, d) (sym (next_scopes ss c s h left f ns n call class start Leave (sym (step_class ns ss n call class start s e (Some Key) p)) refl) ∙ i)

    pub scope_stops : is_class_scope ns class s ≡ false → (x : Step) → x ≡ scope_step ns ss n call class s → is_stop x ≡ true → (r : Reach) → r ≡ stop_reach x → Answers r
    scope_stops e x f q r g = stops x (f ∙ sym (step_other ns ss n call class start s e)) q r g

    pub scope_goes : Chained ss → is_class_scope ns class s ≡ false → (x : Step) → x ≡ scope_step ns ss n call class s → is_stop x ≡ false → s < count_scopes ss → (left : Option ScopeId) → left ≡ around_of ss s → (b : ℕ) → b ≡ scope_node_of ss s
        → reach_from ns ss n call (scopes_in ss left) class b ≡ reach_of ns ss n
    scope_goes c e x f q h left g b d =
        let o : scope_step ns ss n call class s ≡ On = goes_on_lem ns ss n call class start s (ap is_stop (sym f) ∙ q) in
        rw d (sym (next_scopes ss c s h left g ns n call class start On (sym (step_other ns ss n call class start s e ∙ o)) refl) ∙ i)

-- the part that the parent of a node tells
module _ (ns : List ℕ) (t : Tree ns) (x a : ℕ) (e : a ≡ parent_of ns x) (h : 0 < x) (l : x < count ns) where
  pub place_value : part_at ns a x ≡ Some Value → place_of ns x ≡ Some Value
  place_value q = place_some ns t x a e h l Value q

  pub place_key : part_at ns a x ≡ Some Key → place_of ns x ≡ Some Key
  place_key q = place_some ns t x a e h l Key q
