-- How many pairs pass a test, by the elements of the first list. Assumes nothing.
use Rattle.std.proofs.Common.{◌≡◌, ℕ, ◌+◌, ◌*◌, ◌≤◌, Bool, cond, List, [], ◌∷◌, map, length, count_by, sym, refl, ap, ◌∙◌, ap₂, arith}
use Rattle.std.specs.List.{sum_by}
use Rattle.std.proofs.lemmas.List.Sums.{sum_by-append, sum_by-cons, count_by-le-length}
use Rattle.plane.specs.declared.edge.Edge.{Edge}
use Rattle.plane.specs.Meaning.{Meaning}
use Rattle.plane.specs.Outlines.{most_corners}
use Rattle.plane.specs.Rings.{edges}
use Rattle.plane.proofs.Edges.{length-edges}
use Rattle.chart.specs.declared.layout.Corners.{Corners}
use Rattle.chart.specs.Crossings.{pairs, crosses, crossings}

module _ {X Y : Type 0} (test : X → Y → Bool) where
  abbrev pub both : X × Y → Bool
  both p = test p.0 p.1

  count_by_with : (x : X) (ys : List Y) → count_by both (map (λ y. (x, y)) ys) ≡ count_by (test x) ys
  count_by_with x [] = refl
  count_by_with x (y ∷ ys) =
      sum_by-cons (λ p. cond (both p) 1 0) (x, y) (map (λ y. (x, y)) ys) ∙ ap (λ n. cond (test x y) 1 0 + n) (count_by_with x ys) ∙ sym (sum_by-cons (λ y. cond (test x y) 1 0) y ys)

  -- the pairs that pass, counted by the first element
  pub count_by-pairs : (xs : List X) (ys : List Y) → count_by both (pairs xs ys) ≡ sum_by (λ x. count_by (test x) ys) xs
  count_by-pairs [] ys = refl
  count_by-pairs (x ∷ xs) ys =
      sum_by-append (λ p. cond (both p) 1 0) (map (λ y. (x, y)) ys) (pairs xs ys) ∙ ap₂ (λ m n. m + n) (count_by_with x ys) (count_by-pairs xs ys) ∙ sym (sum_by-cons (λ x. count_by (test x) ys) x xs)

  few_pairs : (xs : List X) (ys : List Y) → length ys ≤ most_corners → count_by both (pairs xs ys) ≤ length xs * most_corners
  few_pairs [] ys h = omega arith
  few_pairs (x ∷ xs) ys h =
      omega (arith, count_by-pairs (x ∷ xs) ys, sum_by-cons (λ x. count_by (test x) ys) x xs, count_by-pairs xs ys, count_by-le-length (test x) ys, few_pairs xs ys h)

module _ {S R C M P : Type 0} (meaning : Meaning S R C M P) (a : S) (one two : List C) where
  -- how many crossings each edge of ring one has
  abbrev pub crossed : Edge C → ℕ
  crossed e = count_by (crosses meaning a e) (edges two)

  pub by_edge : crossings meaning a one two ≡ sum_by crossed (edges one)
  by_edge = count_by-pairs (crosses meaning a) (edges one) (edges two)

  -- short rings have few crossings
  pub few_crossings : (n : Corners) → n ≡ record { one = length one; two = length two } → (n.one ≤ most_corners) × (n.two ≤ most_corners) → crossings meaning a one two ≤ most_corners * most_corners
  few_crossings n is few =
      omega (arith, few_pairs (crosses meaning a) (edges one) (edges two) (omega (arith, length-edges two, ap (λ n. n.two) is, few.1)), length-edges one, ap (λ n. n.one) is, few.0)
