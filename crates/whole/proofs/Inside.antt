-- The inside test on a ring of whole corners. Assumes nothing.
use Rattle.std.proofs.Common.{◌≡◌, ℕ, ◌+◌, ◌%◌, cond, eqb, List, [], ◌∷◌, ◌++◌, count_by, sym, refl, ap, ◌∙◌}
use Rattle.std.specs.List.{AllZip}
use Rattle.std.proofs.lemmas.List.Sums.{sum_by-cons}
use Rattle.plane.specs.declared.edge.Edge.{Edge}
use Rattle.plane.specs.Rings.{paired, edges, passes}
use Rattle.single.specs.declared.tolerance.Single.{Single}
use Rattle.single.specs.declared.corner.Corner.{Corner}
use Rattle.single.specs.Single.{single}
use Rattle.whole.specs.Spots.{Spot, passed_z}
use Rattle.whole.specs.Exact.{WholeCorner, WholeRing, ExactInside}
use Rattle.whole.proofs.Sides.{exact_passed}

-- edges between whole corners, in order
abbrev WholeEdges : List (Edge Corner) → List (Edge Spot) → Type 0
WholeEdges = AllZip (λ e z. WholeCorner e.from z.from × WholeCorner e.to z.to)

paired_whole : (ps qs : List Corner) (is js : List Spot) → WholeRing ps is → WholeRing qs js → WholeEdges (paired ps qs) (paired is js)
paired_whole [] qs [] js p q = tt
paired_whole [] qs (i ∷ is) js p q = absurd p
paired_whole (a ∷ ps) qs [] js p q = absurd p
paired_whole (a ∷ ps) [] (i ∷ is) [] p q = tt
paired_whole (a ∷ ps) [] (i ∷ is) (j ∷ js) p q = absurd q
paired_whole (a ∷ ps) (b ∷ qs) (i ∷ is) [] p q = absurd q
paired_whole (a ∷ ps) (b ∷ qs) (i ∷ is) (j ∷ js) p q = ((p.0, q.0), paired_whole ps qs is js p.1 q.1)

append_whole : (ps qs : List Corner) (is js : List Spot) → WholeRing ps is → WholeRing qs js → WholeRing (ps ++ qs) (is ++ js)
append_whole [] qs [] js p q = q
append_whole [] qs (i ∷ is) js p q = absurd p
append_whole (a ∷ ps) qs [] js p q = absurd p
append_whole (a ∷ ps) qs (i ∷ is) js p q = (p.0, append_whole ps qs is js p.1 q)

edges_whole : (ps : List Corner) (is : List Spot) → WholeRing ps is → WholeEdges (edges ps) (edges is)
unfolding edges
edges_whole [] [] p = tt
edges_whole [] (i ∷ is) p = absurd p
edges_whole (a ∷ ps) [] p = absurd p
edges_whole (a ∷ ps) (i ∷ is) p = paired_whole (a ∷ ps) (ps ++ a ∷ []) (i ∷ is) (is ++ i ∷ []) p (append_whole ps (a ∷ []) is (i ∷ []) p.1 (p.0, tt))

module _ (s : Single) (p : Corner) (i : Spot) (P : WholeCorner p i) where
  count_whole : (es : List (Edge Corner)) (zs : List (Edge Spot)) → WholeEdges es zs → count_by (passes single s p) es ≡ count_by (λ e. passed_z i e.from e.to) zs
  count_whole [] [] w = refl
  count_whole [] (z ∷ zs) w = absurd w
  count_whole (e ∷ es) [] w = absurd w
  count_whole (e ∷ es) (z ∷ zs) w =
      sum_by-cons (λ e. cond (passes single s p e) 1 0) e es
      ∙ (λ t. cond (exact_passed p e.from e.to i z.from z.to P w.0.0 w.0.1 t) 1 0 + count_whole es zs w.1 t)
      ∙ sym (sum_by-cons (λ e. cond (passed_z i e.from e.to) 1 0) z zs)

pub exact_inside : ExactInside
exact_inside s p ps i zs P W = ap (λ (n : ℕ). eqb (n % 2) 1) (count_whole s p i P (edges ps) (edges zs) (edges_whole ps zs W))
