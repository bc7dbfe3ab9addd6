-- Walks one behind the other, walks that take an answer, and what a whole walk has listed.
use Rattle.std.specs.Prelude.{ℕ, suc, ◌+◌, ◌≤◌, ◌<◌, ◌≡◌, refl, List, [], ◌∷◌, ◌++◌, map, Bool, true, false, length, set, get_or, eqb}
use Rattle.std.proofs.Math.Path.{ap}
use Rattle.std.proofs.Common.{sym, ◌∙◌, subst, append-nil, drop_of_length-le, drop-cons, arith}
use Rattle.std.proofs.Math.ListN.{drop}
use Rattle.std.proofs.Math.Seq.{append_snoc}
use Rattle.route_completion.specs.Sem.{Entry, plain, asked, Comp, normal, spent, Out, out, more, ask, go_on, pick, is_normal, is_spent, finally, finally_if, no_label, exec, execs}
use Rattle.route_completion.specs.Tree.{Stmts, nil}
use Rattle.code_tree.specs.Labels.{name_id}
use Rattle.table_records.specs.declared.NodeId.{NodeId}
use Rattle.route_completion.specs.Route.{node_of, asks, end_of, route}
use Rattle.route_completion.proofs.TakenLaws.{asks_append}
use Rattle.route_list.specs.Listing.{most, next, Listing}
use Rattle.route_list.proofs.ListingLaws.{listing_first, listing_more}
use Rattle.route_walk.specs.declared.Progress.{Progress}
use Rattle.route_walk.specs.declared.Run.{Run}
use Rattle.route_walk.specs.declared.Completion.{Completion}
use Rattle.route_walk.specs.declared.Completion.TheVariants.{BreakTo}
use Rattle.route_walk.specs.Walk.{Read, comp_at, label_in, written, counted, Walked, Shows}

written_append : (f : List ℕ) (n : ℕ) (a b : List Entry) → written f n (a ++ b) ≡ written (written f n a) (counted n a) b
unfolding written counted
written_append f n [] b = refl
written_append f n (e ∷ a) b = written_append (set f n (node_of e)) (next n) a b

counted_append : (n : ℕ) (a b : List Entry) → counted n (a ++ b) ≡ counted (counted n a) b
unfolding counted
counted_append n [] b = refl
counted_append n (e ∷ a) b = counted_append (next n) a b

-- What was listed before, and then es.
pub listing_all : (f₀ : List ℕ) → length f₀ ≤ most → (f l : List ℕ) (n : ℕ) (es : List Entry) → Listing f₀ f l n → Listing f₀ (written f n es) (l ++ map node_of es) (counted n es)
unfolding written counted
listing_all f₀ m f l n [] h = subst (λ k. Listing f₀ f k n) (sym (append-nil l)) h
listing_all f₀ m f l n (e ∷ es) h =
    subst (λ k. Listing f₀ (written (set f n (node_of e)) (next n) es) k (counted (next n) es)) (append_snoc l (node_of e) (map node_of es))
    (listing_all f₀ m (set f n (node_of e)) (l ++ node_of e ∷ []) (next n) es (listing_more f₀ f l n (node_of e) m h))

module _ (s : Read) where
  -- Nothing is done.
  pub still : (start r : Progress) (c : Comp) (how : Completion) → r ≡ start → start.taken ≤ length s.answers → c ≡ comp_at s.nodes s.names how → label_in s.nodes how
      → Walked s start (out [] c (drop start.taken s.answers)) r how
  unfolding written counted asks
  still start r c how e h q l =
      let t = ap (λ p. p.taken) e in
      record {
        same_slice = ap (λ p. p.out.ghost_name) e;
        wrote = ap (λ p. p.out.now) e;
        counts = ap (λ p. p.entries) e;
        took = omega (arith, t);
        rest = ap (λ k. drop k s.answers) (sym t);
        inside = omega (arith, t);
        ended = q;
        label = l;
      }

  -- A node is listed.
  pub lists : (start r : Progress) (n : ℕ) (c : Comp) (how : Completion) → r.out.ghost_name ≡ start.out.ghost_name → r.out.now ≡ set start.out.now start.entries n → r.entries ≡ next start.entries → r.taken ≡ start.taken
      → start.taken ≤ length s.answers → c ≡ comp_at s.nodes s.names how → label_in s.nodes how → Walked s start (out (plain n ∷ []) c (drop start.taken s.answers)) r how
  unfolding written counted asks
  lists start r n c how b w e t h q l =
      record { same_slice = b; wrote = w; counts = e; took = omega (arith, t); rest = ap (λ k. drop k s.answers) (sym t); inside = omega (arith, t); ended = q; label = l }

  -- A node is listed as it takes an answer.
  pub takes : (start r : Progress) (n : ℕ) (how : Completion) → r.out.ghost_name ≡ start.out.ghost_name → r.out.now ≡ set start.out.now start.entries n → r.entries ≡ next start.entries → r.taken ≡ start.taken + 1
      → start.taken < length s.answers → normal ≡ comp_at s.nodes s.names how → label_in s.nodes how → Walked s start (out (asked n ∷ []) normal (drop (start.taken + 1) s.answers)) r how
  unfolding written counted asks
  takes start r n how b w e t h q l =
      record { same_slice = b; wrote = w; counts = e; took = omega (arith, t); rest = ap (λ k. drop k s.answers) (sym t); inside = omega (arith, t); ended = q; label = l }

  -- One behind the other.
  pub then : (start mid r : Progress) (o p : Out) (how how' : Completion) → Walked s start o mid how → Walked s mid p r how' → Walked s start (more o.nodes p) r how'
  then start mid r o p how how' u v =
      record {
        same_slice = v.same_slice ∙ u.same_slice;
        wrote = v.wrote ∙ (λ i. written (u.wrote i) (u.counts i) p.nodes) ∙ sym (written_append start.out.now start.entries o.nodes p.nodes);
        counts = v.counts ∙ ap (λ k. counted k p.nodes) u.counts ∙ sym (counted_append start.entries o.nodes p.nodes);
        took = let e = asks_append o.nodes p.nodes in omega (arith, u.took, v.took, e);
        rest = v.rest;
        inside = v.inside;
        ended = v.ended;
        label = v.label;
      }

  -- Goes on, or stays.
  pub goes : (start mid r : Progress) (o : Out) (how how' : Completion) (k : List ℕ → Out) (b : Bool) → b ≡ true → Walked s start o mid how → Walked s mid (k (drop mid.taken s.answers)) r how'
      → Walked s start (go_on b o k) r how'
  goes start mid r o how how' k b e u v =
      subst (λ x. Walked s start (go_on x o k) r how') (sym e)
      (then start mid r o (k o.rest) how how' u (subst (λ x. Walked s mid (k x) r how') (sym u.rest) v))

  pub stays : (start r : Progress) (o : Out) (how : Completion) (k : List ℕ → Out) (b : Bool) → b ≡ false → Walked s start o r how → Walked s start (go_on b o k) r how
  stays start r o how k b e u = subst (λ x. Walked s start (go_on x o k) r how) (sym e) u

  -- What is listed, and then k.
  pub lists_then : (start mid r : Progress) (n : ℕ) (how how' : Completion) (k : List ℕ → Out) → Walked s start (out (plain n ∷ []) normal (drop start.taken s.answers)) mid how
      → Walked s mid (k (drop mid.taken s.answers)) r how' → Walked s start (more (plain n ∷ []) (k (drop start.taken s.answers))) r how'
  lists_then start mid r n how how' k u v =
      then start mid r (out (plain n ∷ []) normal (drop start.taken s.answers)) (k (drop start.taken s.answers)) how how' u (subst (λ x. Walked s mid (k x) r how') (sym u.rest) v)

  -- An answer is taken, and k goes on; or none is left.
  pub asks_on : (start mid r : Progress) (n a : ℕ) (how how' : Completion) (k : ℕ → List ℕ → Out) → start.taken < length s.answers → a ≡ get_or s.answers start.taken 0 → mid.taken ≡ start.taken + 1
      → Walked s start (out (asked n ∷ []) normal (drop (start.taken + 1) s.answers)) mid how → Walked s mid (k a (drop mid.taken s.answers)) r how'
      → Walked s start (ask n (drop start.taken s.answers) k) r how'
  asks_on start mid r n a how how' k l e t u v =
      let qs = s.answers in
      subst (λ x. Walked s start (ask n x k) r how') (sym (drop-cons qs start.taken 0 l))
      (then start mid r (out (asked n ∷ []) normal (drop (start.taken + 1) qs)) (k (get_or qs start.taken 0) (drop (suc start.taken) qs)) how how' u
      (let z : mid.taken ≡ suc start.taken = omega (arith, t) in
      subst (λ x. Walked s mid (k (get_or qs start.taken 0) (drop x qs)) r how') z (subst (λ x. Walked s mid (k x (drop mid.taken qs)) r how') e v)))

  pub asks_none : (start r : Progress) (n : ℕ) (how : Completion) (k : ℕ → List ℕ → Out) → length s.answers ≤ start.taken → start.taken ≤ length s.answers → r ≡ start
      → spent ≡ comp_at s.nodes s.names how → label_in s.nodes how → Walked s start (ask n (drop start.taken s.answers) k) r how
  asks_none start r n how k l m e q w =
      let z : drop start.taken s.answers ≡ [] = drop_of_length-le s.answers l in
      subst (λ x. Walked s start (ask n x k) r how) (sym z)
      (subst (λ x. Walked s start (out [] spent x) r how) z (still start r spent how e m q w))

  -- Its completion alone is changed.
  pub ends_as : (start r : Progress) (o : Out) (c : Comp) (how how' : Completion) → c ≡ comp_at s.nodes s.names how' → label_in s.nodes how' → Walked s start o r how
      → Walked s start (out o.nodes c o.rest) r how'
  ends_as start r o c how how' q l u =
      record { same_slice = u.same_slice; wrote = u.wrote; counts = u.counts; took = u.took; rest = u.rest; inside = u.inside; ended = q; label = l }

  -- 14.15.3: "If F is a normal completion, set F to B".
  pub lasts : (start mid r : Progress) (o : Out) (how how' end : Completion) (k : List ℕ → Out) → is_spent o.comp ≡ false → Walked s start o mid how → Walked s mid (k (drop mid.taken s.answers)) r how'
      → comp_at s.nodes s.names end ≡ pick (is_normal (comp_at s.nodes s.names how')) (comp_at s.nodes s.names how) (comp_at s.nodes s.names how') → label_in s.nodes end
      → Walked s start (finally o k) r end
  lasts start mid r o how how' end k f u v q l =
      subst (λ x. Walked s start (finally_if x o k) r end) (sym f)
      (ends_as start r (more o.nodes (k o.rest)) (pick (is_normal (k o.rest).comp) o.comp (k o.rest).comp) how' end
      (let w = subst (λ x. Walked s mid (k x) r how') (sym u.rest) v in
      (λ i. pick (is_normal (w.ended i)) (u.ended i) (w.ended i)) ∙ sym q) l
      (then start mid r o (k o.rest) how how' u (subst (λ x. Walked s mid (k x) r how') (sym u.rest) v)))

  -- Where no answer was left, the finally block isn't walked.
  pub lasts_spent : (start r : Progress) (o : Out) (how : Completion) (k : List ℕ → Out) → is_spent o.comp ≡ true → Walked s start o r how → Walked s start (finally o k) r how
  lasts_spent start r o how k f u = subst (λ x. Walked s start (finally_if x o k) r how) (sym f) u

  -- A break to a label, at a Labeled.
  pub unlabel_hit : (h : Completion) (l : NodeId) (i : ℕ) (b : Bool) → h ≡ BreakTo l → b ≡ eqb (name_id s.nodes s.names l.0) i → b ≡ true → normal ≡ no_label i (comp_at s.nodes s.names h)
  unlabel_hit h l i b e q t = sym (ap (λ x. no_label i (comp_at s.nodes s.names x)) e ∙ ap (λ x. pick x normal (comp_at s.nodes s.names (BreakTo l))) (sym q ∙ t))

  pub unlabel_miss : (h : Completion) (l : NodeId) (i : ℕ) (b : Bool) → h ≡ BreakTo l → b ≡ eqb (name_id s.nodes s.names l.0) i → b ≡ false → comp_at s.nodes s.names (BreakTo l) ≡ no_label i (comp_at s.nodes s.names h)
  unlabel_miss h l i b e q t = sym (ap (λ x. no_label i (comp_at s.nodes s.names x)) e ∙ ap (λ x. pick x normal (comp_at s.nodes s.names (BreakTo l))) (sym q ∙ t))

  -- From the first answer on, a walk of the statements ss is their route; g is the slice then.
  pub whole : (start r : Progress) (how : Completion) (g : List ℕ) → start.entries ≡ 0 → start.taken ≡ 0 → length start.out.now ≤ most → g ≡ r.out.now → (ss : Stmts) → Walked s start (execs ss (drop start.taken s.answers)) r how
      → Shows s.nodes s.names (route ss s.answers) start.out.now g (record { entries = r.entries; taken = r.taken; how = how })
  whole start r how g none first m e ss w =
      let qs = s.answers in
      let f = start.out.now in
      let o = execs ss qs in
      let v = subst (λ k. Walked s start (execs ss (drop k qs)) r how) first w in
      let l = listing_all f m f [] 0 o.nodes (listing_first f) in
      record {
        counts = v.counts ∙ ap (λ k. counted k o.nodes) none ∙ l.counts;
        wrote = e ∙ v.wrote ∙ ap (λ k. written f k o.nodes) none ∙ l.wrote;
        took = omega (arith, v.took, first);
        ended = ap end_of (sym v.ended);
      }

-- A unit without statements: nothing is listed or taken.
pub whole_none : (ns names qs f : List ℕ) (r : Run) → length f ≤ most → r.entries ≡ 0 → r.taken ≡ 0 → normal ≡ comp_at ns names r.how → Shows ns names (route nil qs) f f r
unfolding exec written counted asks
whole_none ns names qs f r m e t q =
    let l = listing_all f m f [] 0 [] (listing_first f) in
    record { counts = e ∙ l.counts; wrote = l.wrote; took = t; ended = ap end_of (sym q) }
