-- Numbers of two bytes. Assumes nothing.
use Rattle.std.proofs.Common.{◌≡◌, ℕ, ◌+◌, ◌*◌, ◌/◌, ◌%◌, ◌<◌, ◌≤◌, [], ◌∷◌, ℤ, pos, negsuc, nat_abs, arith}
use Rattle.std.proofs.lemmas.Grind.{common_steps}
use Rattle.decimetre.specs.Exact.{Pair}
use Rattle.job.specs.Format.{bits_of, InTwoBytes, number_bytes, number_of}
use Rattle.job.specs.Laws.{Fine}

-- a number is read back from its bytes
pub number_back : (z : ℤ) → InTwoBytes z → number_of (bits_of z / 256) (bits_of z % 256) ≡ z
number_back (pos n) h = grind (arith, common_steps)
number_back (negsuc n) h = grind (arith, common_steps)

-- and bytes from their number
module _ (a b : ℕ) (p : a < 256) (q : b < 256) where
  pub bits_back : bits_of (number_of a b) ≡ a * 256 + b
  bits_back = grind (arith, common_steps)

  pub in_two : InTwoBytes (number_of a b)
  in_two = grind (arith, common_steps)

  pub bytes_back : number_bytes (number_of a b) ≡ a ∷ b ∷ []
  bytes_back = grind (arith, common_steps)

-- the numbers of a pair that is admitted are near, so two bytes hold them
near_in_two : (z : ℤ) → nat_abs z ≤ 16384 → InTwoBytes z
near_in_two (pos n) h = omega arith
near_in_two (negsuc n) h = omega arith

pub fine_in_two : (p : Pair) → Fine p → InTwoBytes p.x × InTwoBytes p.y
fine_in_two p e = grind (arith, common_steps, near_in_two)
