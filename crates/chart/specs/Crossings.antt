-- Which pairs of edges of two rings cross, over the meaning of any arithmetic. Assumes nothing.
use Rattle.std.specs.Prelude.{ℕ, Bool, true, false, List, map, count_by}
use Rattle.std.specs.List.{flat_map}
use Rattle.plane.specs.declared.edge.Edge.{Edge}
use Rattle.plane.specs.declared.answer.Meet.{Meet}
use Rattle.plane.specs.declared.answer.Meet.TheVariants.{Apart, Crossing, Overlap}
use Rattle.plane.specs.Meaning.{Meaning}
use Rattle.plane.specs.Rings.{edges}

-- only a crossing is one: edges that overlap do not cross
abbrev pub is_crossing : {M : Type 0} → Meet M → Bool
is_crossing Apart = false
is_crossing (Crossing m n) = true
is_crossing (Overlap m n o p) = false

-- every element of the first list with every element of the second: by the first, then by the second
abbrev pub pairs : {X Y : Type 0} → List X → List Y → List (X × Y)
pairs xs ys = flat_map (λ x. map (λ y. (x, y)) ys) xs

module _ {S R C M P : Type 0} (meaning : Meaning S R C M P) (a : S) where
  -- how two edges meet
  abbrev pub meeting : Edge C → Edge C → Meet M
  meeting e f = meaning.meet a e.from e.to f.from f.to

  -- whether they cross
  abbrev pub crosses : Edge C → Edge C → Bool
  crosses e f = is_crossing (meeting e f)

  -- how many pairs of an edge of each ring cross
  abbrev pub crossings : List C → List C → ℕ
  crossings one two = count_by (λ (p : Edge C × Edge C). crosses p.0 p.1) (pairs (edges one) (edges two))
