-- How raw pairs become an outline's corners, over the meaning of any arithmetic. Assumes nothing.
use Rattle.std.specs.Prelude.{◌≡◌, ℕ, cond, List, [], ◌∷◌, length, is_none, Some, None, Option, nat_lt, position}
use Rattle.plane.specs.Meaning.{Meaning}
use Rattle.plane.specs.Refusals.{Told, tells}

-- the most corners that an outline holds
abbrev pub most_corners : ℕ
most_corners = 1024

module _ {S R C M P : Type 0} (meaning : Meaning S R C M P) where
  -- each corner is the one that the pair at its index is admitted as, and there are no others
  abbrev pub Corners : List R → List C → Type 0
  Corners [] [] = Unit {0}
  Corners [] (c ∷ cs) = ⊥
  Corners (r ∷ rs) [] = ⊥
  Corners (r ∷ rs) (c ∷ cs) = (meaning.admitted r ≡ Some c) × Corners rs cs

  -- the index of the first pair that is not admitted
  abbrev pub first_wild : List R → Option ℕ
  first_wild raw = position (λ r. is_none (meaning.admitted r)) raw

  -- why so many places do not take these pairs: 2 for a corner too many, 3 for one not admitted, 10 for want of a place
  abbrev pub checked : List R → ℕ → Option Told
  checked raw places = cond (nat_lt most_corners (length raw)) (Some (tells 2 most_corners)) (elim (first_wild raw) [ Some k ↦ Some (tells 3 k) | None ↦ cond (nat_lt places (length raw)) (Some (tells 10 0)) None ])
