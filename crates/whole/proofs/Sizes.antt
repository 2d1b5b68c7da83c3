-- How large the numbers of a formula over near whole corners can get. Assumes nothing.
use Rattle.std.proofs.Common.{◌≡◌, ℕ, ◌+◌, ◌*◌, ◌^◌, ◌≤◌, ℤ, ◌+ℤ◌, ◌-ℤ◌, ◌*ℤ◌, neg_ℤ, nat_abs, le_trans, le_of_eq, mul-le-mul, arith}
use lib.Ieee.{Float, neg}
use Rattle.std.proofs.lemmas.Int.{ints, unsigned_abs-mul}
use Rattle.floats.specs.Operations.{◌⊕◌, ◌⊖◌, ◌⊗◌}
use Rattle.floats.specs.Numbers.{IsWhole}
use Rattle.floats.proofs.Whole.{sum_whole, difference_whole, product_whole, negation_whole}

abs_neg : (z : ℤ) → nat_abs (neg_ℤ z) ≡ nat_abs z
abs_neg z = grind (arith, ints)

abs_add : (z w : ℤ) → nat_abs (z +ℤ w) ≤ nat_abs z + nat_abs w
abs_add z w = grind (arith, ints)

-- x is the whole number z, within n
pub record Near (x : Float) (z : ℤ) (n : ℕ) : Type 0 where
  pub whole : IsWhole x z
  pub near : nat_abs z ≤ n

module _ (x y : Float) (z w : ℤ) (m n : ℕ) (p : Near x z m) (q : Near y w n) where
  pub plus : m + n ≤ 2 ^ 24 → Near (x ⊕ y) (z +ℤ w) (m + n)
  plus h =
      let b : nat_abs (z +ℤ w) ≤ m + n = omega (arith, abs_add z w, p.near, q.near) in
      record { whole = sum_whole x y z w p.whole q.whole (le_trans b h); near = b }

  pub less : m + n ≤ 2 ^ 24 → Near (x ⊖ y) (z -ℤ w) (m + n)
  less h =
      let b : nat_abs (z -ℤ w) ≤ m + n = omega (arith, abs_add z (neg_ℤ w), abs_neg w, p.near, q.near) in
      record { whole = difference_whole x y z w p.whole q.whole (le_trans b h); near = b }

  pub times : m * n ≤ 2 ^ 24 → Near (x ⊗ y) (z *ℤ w) (m * n)
  times h =
      let b : nat_abs (z *ℤ w) ≤ m * n = le_trans (le_of_eq (unsigned_abs-mul z w)) (mul-le-mul p.near q.near) in
      record { whole = product_whole x y z w p.whole q.whole (le_trans b h); near = b }

pub turned : (x : Float) (z : ℤ) (n : ℕ) → Near x z n → Near (neg x) (neg_ℤ z) n
turned x z n p = record { whole = negation_whole x z p.whole; near = le_trans (le_of_eq (abs_neg z)) p.near }
