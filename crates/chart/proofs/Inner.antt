-- Which ring lies inside the other, by the corners that were read. Assumes nothing.
use Rattle.std.proofs.Common.{◌≡◌, cond, List, [], ◌∷◌, Some, None, Option, Bor, sym, ap, ◌∙◌, ap₂}
use Rattle.std.specs.List.{slice_get}
use Rattle.std.specs.Option.{option_copied}
use Rattle.plane.specs.declared.ring.Ring.TheVariants.{One, Two}
use Rattle.plane.specs.Meaning.{Meaning}
use Rattle.plane.specs.Rings.{inside}
use Rattle.chart.specs.Charts.{inner_of}

-- a ring's first corner, as it is read
pub first_read : {C : Type 0} (ring corners : List C) (o : Option (Bor C)) (p : Bor C) → corners ≡ ring → option_copied o ≡ slice_get corners 0 → o ≡ Some p → slice_get ring 0 ≡ Some p.now
first_read ring corners o p e v is = ap (λ l. slice_get l 0) (sym e) ∙ sym v ∙ ap option_copied is

module _ {S R C M P : Type 0} (meaning : Meaning S R C M P) (a : S) where
  pub inner_first : (one two : List C) (p q : C) → slice_get one 0 ≡ Some p → slice_get two 0 ≡ Some q → inner_of meaning a one two ≡ cond (inside meaning a p two) (Some One) (cond (inside meaning a q one) (Some Two) None)
  inner_first [] two p q e f = absurd cc
  inner_first (x ∷ xs) [] p q e f = absurd cc
  inner_first (x ∷ xs) (y ∷ ys) p q e f =
      let same : x ≡ p = cc in
      let same' : y ≡ q = cc in
      ap₂ (λ u v. cond (inside meaning a u (y ∷ ys)) (Some One) (cond (inside meaning a v (x ∷ xs)) (Some Two) None)) same same'
