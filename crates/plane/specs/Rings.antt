-- The edges of a ring of corners, and the inside test over the meaning of any arithmetic. Assumes nothing.
use Rattle.std.specs.Prelude.{◌%◌, Bool, List, [], ◌∷◌, ◌++◌, take, drop, count_by, ◌==◌}
use Rattle.std.specs.Slice.Iter.{iter_rest}
use Rattle.plane.specs.Meaning.{Meaning}
use Rattle.plane.specs.declared.edge.Edge.{Edge}
use Rattle.plane.specs.declared.edge.Edges.{Edges}

-- each corner of the first list with the corner at its index in the second
abbrev pub paired : {C : Type 0} → List C → List C → List (Edge C)
paired [] qs = []
paired (p ∷ ps) [] = []
paired (p ∷ ps) (q ∷ qs) = record { from = p; to = q } ∷ paired ps qs

-- the edges of a ring: each corner with the next, and the last with the first
unfoldable pub edges : {C : Type 0} → List C → List (Edge C)
edges ps = paired ps (drop 1 ps ++ take 1 ps)

-- the edges still to come: each corner left with the next, and the last with the ring's first
abbrev pub edges_left : {C : Type 0} → Edges C → List (Edge C)
edges_left s = paired (iter_rest s.rest) (drop 1 (iter_rest s.rest) ++ take 1 s.ring.now)

module _ {S R C M P : Type 0} (meaning : Meaning S R C M P) (a : S) where
  -- whether an edge counts for a point
  abbrev pub passes : C → Edge C → Bool
  passes p e = meaning.passed a p e.from e.to

  -- a point lies inside a ring where an odd number of its edges count for the point
  abbrev pub inside : C → List C → Bool
  inside p ring = count_by (passes p) (edges ring) % 2 == 1
