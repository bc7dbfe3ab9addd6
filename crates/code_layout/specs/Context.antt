-- Where each node's words stand, and where control goes from it: by role in a Try, in node order elsewhere. b is the node that holds the unit's statements.
use Rattle.std.specs.Prelude.{ℕ, zero, suc, ◌+◌, Bool, cond, ◌&&◌, eqb, leb}
use mathlib.Core.List.{List, [], ◌∷◌, foldr}
use Rattle.base_walk.specs.Above.{above}
use Rattle.table_records.specs.Table.{role_of}
use Rattle.table_records.specs.Roles as role
use Rattle.route_completion.specs.Sem.{Comp, normal, no_break, no_label}
use Rattle.code_flat.specs.Code.{Stat, at, next, in_try, in_loop, top}
use Rattle.code_tree.specs.Labels.{id_at}
use Rattle.code_tree.specs.Parts.{up_of, shape_at, order}
use Rattle.code_tree.specs.declared.Shape.{Shape}
use Rattle.code_tree.specs.declared.Shape.TheVariants.{Leaf, Class, If, With, Block, Label, Loop, Switch, Case, Try, Catch}
use Rattle.code_layout.specs.Widths.{has_role, own_width, width_at}

-- Where there is none (0), or else.
abbrev pub ifz : {A : Type 0} → ℕ → A → A → A
ifz zero x y = x
ifz (suc n) x y = y

abbrev pub head0 : List ℕ → ℕ
head0 [] = 0
head0 (j ∷ js) = j

-- Of a list of nodes: the sum over those before x; and the one behind x (0: none).
unfoldable pub before : (ℕ → ℕ) → List ℕ → ℕ → ℕ
before z [] x = 0
before z (c ∷ cs) x = cond (eqb c x) 0 (z c + before z cs x)

unfoldable pub behind : List ℕ → ℕ → ℕ
behind [] x = 0
behind (c ∷ cs) x = cond (eqb c x) (head0 cs) (behind cs x)

-- What holds at a node: where its words stand, the depth of the pending ends, the labels right above it, and where each completion leads.
pub record Context : Type 0 where
  pub offset : ℕ
  pub depth : ℕ
  pub labels : List ℕ
  pub env : Comp → Stat

abbrev pub context : ℕ → ℕ → List ℕ → (Comp → Stat) → Context
context o δ ls ρ = record { offset = o; depth = δ; labels = ls; env = ρ }

module _ (ns names : List ℕ) (b : ℕ) where
  -- In a Try at the depth δ, by the role r of a part whose words end at e; k says whether the Try has a catch, which then begins at e, behind its Block.
  -- "It goes to the nearest Try in the unit that has a catch and holds the throw in its role 3 Block"; what falls out of a finally goes on with the end that is pending.
  abbrev pub try_env : ℕ → Bool → ℕ → ℕ → (Comp → Stat) → Comp → Stat
  try_env r k e δ ρ = cond (eqb r role.Finally) (next ρ (at 0 δ)) (cond (eqb r role.Held && k) (in_try ρ e δ) ρ)

  -- "a pending end for each finally that is open": its Block and its catch run under it, and so does the finally itself.
  abbrev pub try_depth : List ℕ → ℕ → ℕ
  try_depth ps δ = cond (has_role ns role.Finally ps) (suc δ) δ

  -- From the holder p, with the parts ps and the context a, to its part c at the offset o; m is the next part (0: none).
  abbrev pub part_context : Shape → ℕ → List ℕ → Context → ℕ → ℕ → ℕ → Context
  part_context Leaf p ps a c o m = context o a.depth [] a.env
  part_context Class p ps a c o m = context o a.depth [] (next a.env (ifz m (a.env normal) (at (o + width_at ns b c) a.depth)))
  part_context If p ps a c o m = context o a.depth [] a.env
  part_context With p ps a c o m = context o a.depth [] a.env
  part_context Block p ps a c o m = context o a.depth [] (next a.env (ifz m (a.env normal) (at (o + width_at ns b c) a.depth)))
  part_context Label p ps a c o m = context o a.depth (id_at ns names p ∷ a.labels) (λ x. a.env (no_label (id_at ns names p) x))
  part_context Loop p ps a c o m = context o a.depth [] (in_loop a.labels (a.offset + 3) a.depth a.env)
  part_context Switch p ps a c o m = context o a.depth [] (next (λ x. a.env (no_break x)) (ifz m (a.env normal) (at (o + width_at ns b c) a.depth)))
  part_context Case p ps a c o m = context o a.depth [] (next a.env (ifz m (a.env normal) (at (o + width_at ns b c) a.depth)))
  part_context Try p ps a c o m = context o (try_depth ps a.depth) [] (try_env (role_of ns c) (has_role ns role.Alternate ps) (o + width_at ns b c) (try_depth ps a.depth) a.env)
  part_context Catch p ps a c o m = context o a.depth a.labels a.env

  -- The offset of a part: behind its holder's own words and the parts before it in code order.
  abbrev pub part_context_at : ℕ → ℕ → Context → Context
  part_context_at p c a = part_context (shape_at ns p) p (order ns p) a c (a.offset + own_width ns b p + before (width_at ns b) (order ns p) c) (behind (order ns p) c)

  -- The unit's four ends stand behind all words.
  abbrev pub root_context : Context
  root_context = context 0 0 [] (top (width_at ns b b))

  unfoldable pub context_at : ℕ → Context
  context_at j = foldr (λ a r. cond (leb a b) root_context (part_context_at (up_of ns a) a r)) root_context (j ∷ above (up_of ns) j)

  abbrev pub offset_at : ℕ → ℕ
  offset_at j = (context_at j).offset
