-- Where control goes from the end of a node, in numbers.
use Rattle.std.specs.Prelude.{ℕ, suc, ◌+◌, ◌-◌, ◌≤◌, ◌<◌, ◌≡◌, refl, List, true, false, get_or}
use Rattle.std.proofs.Math.Path.{ap, sym}
use Rattle.std.proofs.Common.{◌∙◌, arith, le-leb}
use Rattle.std.proofs.Math.Bool.{cond}
use Rattle.std.proofs.lemmas.Bool.{lt-leb}
use Rattle.base_common.proofs.Bools.{never}
use Rattle.table_records.specs.Table.{count}
use Rattle.code_flat.specs.Code.{at}
use Rattle.code_tree.specs.Parts.{up_of, shape_at}
use Rattle.code_tree.specs.declared.Shape.{Shape}
use Rattle.code_tree.specs.declared.Shape.TheVariants.{Leaf, Class, If, With, Block, Label, Loop, Switch, Case, Try, Catch}
use Rattle.code_layout.specs.Widths.{in_unit, width_at, is_try}
use Rattle.code_layout.specs.Context.{offset_at}
use Rattle.code_layout.proofs.LayoutLaws.{in_root}
use Rattle.code_widths.proofs.WidthsLaws.{fits, root_small}
use Rattle.code_targets.specs.Targets.{is_loop, next_by, depth_at}
use Rattle.code_contexts.specs.Contexts.{next_of}
use Rattle.code_contexts.proofs.PlacesLaws.{above_in_lem, above_low, above_lt}
use Rattle.code_branch.specs.Branch.{Arrays}

module _ (o δ d e : ℕ) where
  try_next : (s : Shape) → is_try s ≡ true → next_by s o δ d e ≡ at 0 d
  try_next Leaf x = never (sym x)
  try_next Class x = never (sym x)
  try_next If x = never (sym x)
  try_next With x = never (sym x)
  try_next Block x = never (sym x)
  try_next Label x = never (sym x)
  try_next Loop x = never (sym x)
  try_next Switch x = never (sym x)
  try_next Case x = never (sym x)
  try_next Try x = refl
  try_next Catch x = never (sym x)

  loop_next : (s : Shape) → is_loop s ≡ true → next_by s o δ d e ≡ at (o + 3) δ
  loop_next Leaf x = never (sym x)
  loop_next Class x = never (sym x)
  loop_next If x = never (sym x)
  loop_next With x = never (sym x)
  loop_next Block x = never (sym x)
  loop_next Label x = never (sym x)
  loop_next Loop x = refl
  loop_next Switch x = never (sym x)
  loop_next Case x = never (sym x)
  loop_next Try x = never (sym x)
  loop_next Catch x = never (sym x)

  plain_next : (s : Shape) → is_try s ≡ false → is_loop s ≡ false → next_by s o δ d e ≡ at e δ
  plain_next Leaf x y = refl
  plain_next Class x y = refl
  plain_next If x y = refl
  plain_next With x y = refl
  plain_next Block x y = refl
  plain_next Label x y = refl
  plain_next Loop x y = never y
  plain_next Switch x y = refl
  plain_next Case x y = refl
  plain_next Try x y = never x
  plain_next Catch x y = refl

module _ (ns names : List ℕ) (b : ℕ) (widths levels offsets follows : List ℕ) (A : Arrays ns names b widths levels offsets follows) (f : ℕ) where
  pub next_root : f ≤ b → at (get_or widths b 0) 0 ≡ next_of ns names b f
  unfolding next_of
  next_root h =
      ap (λ w. at w 0) (A.wide.is b (omega arith) A.ready.held.root (in_root ns b))
      ∙ sym (ap (λ x. cond x (at (width_at ns b b) 0) (next_by (shape_at ns (up_of ns f)) (offset_at ns names b (up_of ns f)) (depth_at ns names b (up_of ns f)) (depth_at ns names b f) (offset_at ns names b f + width_at ns b f))) (le-leb f b h))

  module _ (h : b < f) (l : f < count ns) (e : in_unit ns b f ≡ true) where
    part_next : next_of ns names b f ≡ next_by (shape_at ns (up_of ns f)) (offset_at ns names b (up_of ns f)) (depth_at ns names b (up_of ns f)) (depth_at ns names b f) (offset_at ns names b f + width_at ns b f)
    unfolding next_of
    part_next = ap (λ x. cond x (at (width_at ns b b) 0) (next_by (shape_at ns (up_of ns f)) (offset_at ns names b (up_of ns f)) (depth_at ns names b (up_of ns f)) (depth_at ns names b f) (offset_at ns names b f + width_at ns b f))) (lt-leb f b h)

    pub up_lt : up_of ns f < f
    up_lt = above_lt ns names b A.ready f h l e

    up_level : get_or levels (up_of ns f) 0 ≡ suc (depth_at ns names b (up_of ns f))
    up_level = let u = up_lt in A.places.level (up_of ns f) (above_low ns names b A.ready f h l e) (omega arith) (above_in_lem ns names b A.ready f h l e)

    own_level : get_or levels f 0 ≡ suc (depth_at ns names b f)
    own_level = A.places.level f (omega arith) l e

    up_offset : get_or offsets (up_of ns f) 0 ≡ offset_at ns names b (up_of ns f)
    up_offset = let u = up_lt in A.places.offset (up_of ns f) (above_low ns names b A.ready f h l e) (omega arith) (above_in_lem ns names b A.ready f h l e)

    pub up_deep : 1 ≤ get_or levels (up_of ns f) 0
    up_deep = let u = up_level in omega arith

    pub own_deep : 1 ≤ get_or levels f 0
    own_deep = let u = own_level in omega arith

    pub up_small : get_or offsets (up_of ns f) 0 ≤ 786420
    up_small =
        let u = up_offset in
        let v = up_lt in
        let a = fits ns names b A.ready.held (up_of ns f) (omega arith) (above_in_lem ns names b A.ready f h l e) in
        let s = root_small ns names b A.ready.held in
        let t = A.ready.held.good.tree.small in
        omega arith

    pub end_small : get_or offsets f 0 + get_or widths f 0 ≤ 786420
    end_small =
        let u = A.places.offset f (omega arith) l e in
        let w = A.wide.is f (omega arith) l e in
        let a = fits ns names b A.ready.held f l e in
        let s = root_small ns names b A.ready.held in
        let t = A.ready.held.good.tree.small in
        omega arith

    pub next_try : is_try (shape_at ns (up_of ns f)) ≡ true → at 0 (get_or levels f 0 - 1) ≡ next_of ns names b f
    next_try q =
        ap (λ k. at 0 k) (let u = own_level in let z : get_or levels f 0 - 1 ≡ depth_at ns names b f = omega arith in z)
        ∙ sym (part_next ∙ try_next (offset_at ns names b (up_of ns f)) (depth_at ns names b (up_of ns f)) (depth_at ns names b f) (offset_at ns names b f + width_at ns b f) (shape_at ns (up_of ns f)) q)

    pub next_loop : is_loop (shape_at ns (up_of ns f)) ≡ true → at (get_or offsets (up_of ns f) 0 + 3) (get_or levels (up_of ns f) 0 - 1) ≡ next_of ns names b f
    next_loop q =
        (λ i. at (up_offset i + 3) ((let u = up_level in let z : get_or levels (up_of ns f) 0 - 1 ≡ depth_at ns names b (up_of ns f) = omega arith in z) i))
        ∙ sym (part_next ∙ loop_next (offset_at ns names b (up_of ns f)) (depth_at ns names b (up_of ns f)) (depth_at ns names b f) (offset_at ns names b f + width_at ns b f) (shape_at ns (up_of ns f)) q)

    pub next_plain : is_try (shape_at ns (up_of ns f)) ≡ false → is_loop (shape_at ns (up_of ns f)) ≡ false → at (get_or offsets f 0 + get_or widths f 0) (get_or levels (up_of ns f) 0 - 1) ≡ next_of ns names b f
    next_plain x y =
        (λ i. at (A.places.offset f (omega arith) l e i + A.wide.is f (omega arith) l e i) ((let u = up_level in let z : get_or levels (up_of ns f) 0 - 1 ≡ depth_at ns names b (up_of ns f) = omega arith in z) i))
        ∙ sym (part_next ∙ plain_next (offset_at ns names b (up_of ns f)) (depth_at ns names b (up_of ns f)) (depth_at ns names b f) (offset_at ns names b f + width_at ns b f) (shape_at ns (up_of ns f)) x y)
