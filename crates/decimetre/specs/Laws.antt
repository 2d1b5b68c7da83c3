-- The exact arithmetic keeps the law on its marks. Assumes nothing.
use Rattle.std.specs.Prelude.{◌≡◌, ℕ, ◌*◌, ◌<◌, ◌≤◌, Bool, true, false, ◌⊎◌, nat_le, refl}
use Rattle.std.proofs.Common.{inl, inr, arith, mul-le-mul_right, le_of_mul-le-mul_right, mul_right_comm}
use Rattle.std.proofs.lemmas.Bool.{leb-true, leb-false, le-leb}
use Rattle.plane.specs.Meaning.{Ordered}
use Rattle.decimetre.specs.declared.corner.Decimetre.{Decimetre}
use Rattle.decimetre.specs.Exact.{exact, upper_of, lower_of}
use Rattle.decimetre.specs.Propers.{given_proper, lower_positive}

leb_total : (a b : ℕ) → (nat_le a b ≡ true) ⊎ (nat_le b a ≡ true)
leb_total a b = go (nat_le a b) refl
  where
    go : (t : Bool) → nat_le a b ≡ t → (nat_le a b ≡ true) ⊎ (nat_le b a ≡ true)
    go true e = inl e
    go false e = inr (le-leb b a (omega (arith, leb-false a b e)))

-- u / l ≤ v / m and v / m ≤ w / n, by cross multiplication
cross_trans : (u l v m w n : ℕ) → 0 < m → u * m ≤ v * l → v * n ≤ w * m → u * n ≤ w * l
cross_trans u l v m w n above h k = le_of_mul-le-mul_right {k = m} scaled above
  where
    scaled : u * n * m ≤ w * l * m
    scaled = omega (arith, mul_right_comm u n m, mul-le-mul_right n h, mul_right_comm v l n, mul-le-mul_right l k, mul_right_comm w m l)

pub ordered : (self : Decimetre) → Ordered exact self
ordered self = record {
  total = λ m n _ _. leb_total (upper_of m * lower_of n) (upper_of n * lower_of m);
  trans = λ m n o _ given _ h k.
      le-leb (upper_of m * lower_of o) (upper_of o * lower_of m) (cross_trans (upper_of m) (lower_of m) (upper_of n) (lower_of n) (upper_of o) (lower_of o) (lower_positive n (given_proper self n given)) (leb-true (upper_of m * lower_of n) (upper_of n * lower_of m) h) (leb-true (upper_of n * lower_of o) (upper_of o * lower_of n) k));
}
