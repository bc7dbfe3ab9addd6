-- What is proved of the layout, in one place.
use Rattle.std.specs.Prelude.{ℕ, zero, suc, ◌+◌, ◌-◌, ◌<◌, ◌≡◌, List, [], ◌∷◌, ◌++◌, true, length, get_or}
use Rattle.std.proofs.Math.Path.{ap}
use Rattle.std.proofs.Common.{sym, ◌∙◌, subst, add-zero, arith}
use Rattle.table_records.specs.Table.{count}
use Rattle.code_flat.specs.Code.{sizes, codes, top, unit, ends}
use Rattle.code_flat.proofs.Correct.{has_left, has_of, has_self}
use Rattle.code_flat.specs.Has.{Has}
use Rattle.code_tree.specs.Statements.{body_of}
use Rattle.code_layout.specs.Widths.{in_unit, width_at}
use Rattle.code_layout.specs.Context.{offset_at}
use Rattle.code_layout.specs.Words.{words_at, code_at}
use Rattle.code_layout.specs.Shaped.{Held}
use Rattle.code_layout.proofs.LayoutLaws.{in_root, context_root, words_length_lem, code_length_lem}
use Rattle.code_layout.proofs.Nodes.{body_right}
use Rattle.code_layout.proofs.Stands.{words_stand, Owner, fills}

module _ (ns names : List ℕ) (b : ℕ) (h : Held ns names b) where
  -- The size of the holder is the length of the statements' code ..
  pub width_unit : width_at ns b b ≡ sizes (body_of ns names b)
  width_unit = sym (body_right ns names b h.good h.root h.block).1

  -- .. and the words of the nodes, in code order, with the ends behind them, are the unit's code.
  pub code_unit : code_at ns names b b ++ ends ≡ unit (body_of ns names b)
  unfolding unit
  code_unit = ap (λ l. l ++ ends) (sym (body_right ns names b h.good h.root h.block).0 ∙ ap (λ k. codes (body_of ns names b) 0 0 (top k)) width_unit)

  pub offset_root : offset_at ns names b b ≡ 0
  offset_root = ap (λ a. a.offset) (context_root ns names b)

  -- THE LAW OF PLACES: the unit's code has each node's words at its place.
  pub unit_has : (j : ℕ) → j < count ns → in_unit ns b j ≡ true → Has (unit (body_of ns names b)) (offset_at ns names b j) (words_at ns names b j)
  unit_has j l e =
      words_stand ns names b h.good (unit (body_of ns names b))
      (subst (λ o. Has (unit (body_of ns names b)) o (code_at ns names b b)) (sym offset_root)
      (has_left (unit (body_of ns names b)) 0 (code_at ns names b b) ends (subst (Has (unit (body_of ns names b)) 0) (sym code_unit) (has_self (unit (body_of ns names b)))))) j l e

  -- Every place before the ends is some node's.
  pub unit_full : (x : ℕ) → x < sizes (body_of ns names b) → Owner ns names b h.good x
  unit_full x l = fills ns names b h.good (count ns) b x (omega arith) h.root (in_root ns b) (omega (arith, offset_root)) (omega (arith, offset_root, width_unit))

  -- What stands somewhere, read number by number.
  pub has_at : (C : List ℕ) (o : ℕ) (l : List ℕ) (i : ℕ) → Has C o l → i < length l → get_or C (o + i) 0 ≡ get_or l i 0
  has_at C o [] i p q = absurd (omega arith)
  has_at C o (x ∷ l) zero p q = ap (λ k. get_or C k 0) (add-zero o) ∙ p.0
  has_at C o (x ∷ l) (suc i) p q = ap (λ k. get_or C k 0) (let e : o + suc i ≡ suc o + i = omega arith in e) ∙ has_at C (suc o) l i p.1 (omega arith)

  has_append : (C : List ℕ) (o m : ℕ) (a c : List ℕ) → m ≡ o + length a → Has C o a → Has C m c → Has C o (a ++ c)
  has_append C o m [] c e p q = subst (λ k. Has C k c) (let z : m ≡ o = omega arith in z) q
  has_append C o m (x ∷ a) c e p q = (p.0, has_append C (suc o) m a c (omega arith) p.1 q)

  -- THE MAKER'S LAW: a slice that has the words of each of the unit's nodes at its offset, and the ends behind them, begins with the unit's code.
  -- The order of writing is free.
  pub written : (C : List ℕ) → ((j : ℕ) → j < count ns → in_unit ns b j ≡ true → Has C (offset_at ns names b j) (words_at ns names b j)) → Has C (width_at ns b b) ends → Has C 0 (unit (body_of ns names b))
  written C w e =
      subst (Has C 0) code_unit
      (has_append C 0 (width_at ns b b) (code_at ns names b b) ends (sym (code_length_lem ns names b b) ∙ (let z : length (code_at ns names b b) ≡ 0 + length (code_at ns names b b) = omega arith in z))
      (has_of C 0 (code_at ns names b b) (λ i p. at i (unit_full i (omega (arith, code_length_lem ns names b b, width_unit))))) e)
    where
      self : (j : ℕ) → j < count ns → in_unit ns b j ≡ true → Has (code_at ns names b b) (offset_at ns names b j) (words_at ns names b j)
      self = words_stand ns names b h.good (code_at ns names b b) (subst (λ o. Has (code_at ns names b b) o (code_at ns names b b)) (sym offset_root) (has_self (code_at ns names b b)))

      at : (i : ℕ) → Owner ns names b h.good i → get_or C (0 + i) 0 ≡ get_or (code_at ns names b b) i 0
      at i r =
          let k = r.node in
          let t = i - offset_at ns names b k in
          let q : offset_at ns names b k + t ≡ i = omega (arith, r.low) in
          let l : t < length (words_at ns names b k) = omega (arith, r.low, r.high, words_length_lem ns names b k) in
          ap (λ m. get_or C m 0) (let z : 0 + i ≡ offset_at ns names b k + t = omega arith in z)
          ∙ has_at C (offset_at ns names b k) (words_at ns names b k) t (w k r.inside r.belongs) l
          ∙ sym (has_at (code_at ns names b b) (offset_at ns names b k) (words_at ns names b k) t (self k r.inside r.belongs) l)
          ∙ ap (λ m. get_or (code_at ns names b b) m 0) q
