-- What an arithmetic means, as one record of functions, and the law on its marks. Assumes nothing.
use Rattle.std.specs.Prelude.{◌≡◌, Bool, true, ◌⊎◌, Some, Option}
use Rattle.plane.specs.declared.answer.Side.{Side}
use Rattle.plane.specs.declared.answer.End.{End}
use Rattle.plane.specs.declared.answer.Meet.{Meet}
use Rattle.plane.specs.declared.answer.Meet.TheVariants.{Apart, Crossing, Overlap}

-- over the arithmetic's own values, raw pairs, corners, marks and points; only `admitted` takes no value and so no tolerance
pub record Meaning (S R C M P : Type 0) : Type 0 where
  -- the corner that a raw pair is admitted as, if it is
  pub admitted : R → Option C
  -- the side of the third corner along the edge from the first to the second
  pub side : S → C → C → C → Side
  -- how the edge between the first two corners meets the edge between the last two
  pub meet : S → C → C → C → C → Meet M
  -- whether the first mark stands before the second or level with it
  pub not_after : S → M → M → Bool
  -- whether the edge between the last two corners counts for the first, as a point
  pub passed : S → C → C → C → Bool
  -- the side of the second edge's direction from the first's
  pub turn : S → C → C → C → C → Side
  -- whether two edges have a negative dot product
  pub against : S → C → C → C → C → Bool
  -- the end of its edge at which a mark stands, if it stands at one
  pub end_of : S → M → Option End
  -- the point of a mark on the edge between two corners
  pub point_at : S → C → C → M → P
  -- the point of a corner
  pub point_of : S → C → P

-- a corner is admitted where it is the corner of some pair
abbrev pub Admitted : {S R C M P : Type 0} → Meaning S R C M P → C → Type 0
Admitted {R = R} meaning c = (pair : R) × (meaning.admitted pair ≡ Some c)

-- m is one of the marks of an answer
abbrev pub Marks : {M : Type 0} → M → Meet M → Type 0
Marks m Apart = ⊥
Marks m (Crossing p q) = (m ≡ p) ⊎ (m ≡ q)
Marks m (Overlap p q r s) = ((m ≡ p) ⊎ (m ≡ q)) ⊎ ((m ≡ r) ⊎ (m ≡ s))

module _ {S R C M P : Type 0} (meaning : Meaning S R C M P) (a : S) where
  -- `meet` gives the mark m, for some two edges
  pub record Given (m : M) : Type 0 where
    pub from : C
    pub to : C
    pub from' : C
    pub to' : C
    pub is : Marks m (meaning.meet a from to from' to')

  -- of any two marks that `meet` gives one is not after the other, and not after is transitive among them
  pub record Ordered : Type 0 where
    pub total : (m n : M) → Given m → Given n → (meaning.not_after a m n ≡ true) ⊎ (meaning.not_after a n m ≡ true)
    pub trans : (m n o : M) → Given m → Given n → Given o → meaning.not_after a m n ≡ true → meaning.not_after a n o ≡ true → meaning.not_after a m o ≡ true
