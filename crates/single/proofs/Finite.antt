-- Admitted corners are finite, and so are the formulas over them. Assumes nothing.
use Rattle.std.specs.Prelude.{◌≡◌, ℕ, ◌*◌, ◌^◌, ◌≤◌, Bool, true, false, T, ℤ, pos, neg_ℤ, int_le, refl, Float}
use Rattle.std.proofs.Common.{subst, arith, lit<, lit≤}
use Rattle.std.specs.Float.Ieee.{up, down, neg, le, of_bits}
use Rattle.std.specs.Float.Ieee.Fits.{down_pos}
use Rattle.std.specs.Float.Ieee.Exact.{HasValue}
use lib.Ieee.Scale.{finite}
use Rattle.std.specs.Float.{float_is_finite, nan, inf, fin}
use Rattle.std.proofs.lemmas.Bool.{and_parts}
use Rattle.std.proofs.lemmas.Float.{T_from_true}
use Rattle.std.proofs.lemmas.Int.{ints}
use Rattle.floats.specs.Operations.{◌⊖◌, ◌⊗◌}
use Rattle.floats.specs.Numbers.{signed, IsFraction}
use Rattle.floats.specs.Bounds.{Within}
use Rattle.floats.proofs.Fractions.{own_fraction, le_fraction}
use Rattle.floats.proofs.Units.{middle}
use Rattle.floats.proofs.Sums.{neg_fraction}
use Rattle.floats.proofs.Bounds.{within_turned, within_more, sum_bounded, difference_bounded, product_bounded}
use Rattle.single.specs.declared.corner.Corner.{Corner}
use Rattle.single.specs.Admitted.{farthest, in_reach, is_admitted}
use Rattle.single.specs.Meets.{denom_of, num1_of, num2_of}
use Rattle.single.specs.Sane.{FiniteCorner, AllAdmitted, FiniteParts}

-- ---- one number

farthest_value : (c : ℕ) → HasValue farthest false (2 ^ 59 * c) c
unfolding of_bits
farthest_value c = (refl, omega arith)

farthest_fraction : (c : ℕ) → IsFraction farthest (pos (2 ^ 59 * c)) c
farthest_fraction c = record { sign = false; size = 2 ^ 59 * c; value = farthest_value c; is = refl }

size_in : (s : Bool) (m n : ℕ) → T (int_le (neg_ℤ (pos n)) (signed s m)) → T (int_le (signed s m) (pos n)) → m ≤ n
size_in false m n p q = grind (arith, ints)
size_in true m n p q = grind (arith, ints)

fin_within : (s : Bool) (m : ℕ) (e : ℤ) → le (neg farthest) (fin s m e) ≡ true → le (fin s m e) farthest ≡ true → Within 59 (fin s m e)
fin_within s m e p q =
    let c = down e in
    let n = 2 ^ 59 * c in
    let C = down_pos e in
    let X = own_fraction s m e in
    size_in s (m * up e) n
    (subst T (le_fraction (neg farthest) (fin s m e) (neg_ℤ (pos n)) (signed s (m * up e)) c C (neg_fraction farthest (pos n) c (farthest_fraction c)) X) (T_from_true _ p))
    (subst T (le_fraction (fin s m e) farthest (signed s (m * up e)) (pos n) c C X (farthest_fraction c)) (T_from_true _ q))

pub reach_within : (v : Float) → in_reach v ≡ true → Within 59 v
reach_within v h =
    let p = and_parts (le (neg farthest) v) (le v farthest) h in
    on v (middle (neg farthest) v farthest (unfold neg of_bits in tt) (unfold of_bits in tt) (T_from_true _ p.0) (T_from_true _ p.1)) p.0 p.1
  where
    on : (v : Float) → T (finite v) → le (neg farthest) v ≡ true → le v farthest ≡ true → Within 59 v
    on nan f p q = absurd f
    on (inf s) f p q = absurd f
    on (fin s m e) f p q = fin_within s m e p q

pub within_finite : (k : ℕ) (x : Float) → Within k x → float_is_finite x ≡ true
unfolding float_is_finite
within_finite k nan p = absurd p
within_finite k (inf s) p = absurd p
within_finite k (fin s m e) p = refl

-- ---- one corner

pub record WithinCorner (c : Corner) : Type 0 where
  pub on_x : Within 59 c.x
  pub on_y : Within 59 c.y

pub admitted_within : (c : Corner) → is_admitted c ≡ true → WithinCorner c
admitted_within c h = let p = and_parts (in_reach c.x) (in_reach c.y) h in record { on_x = reach_within c.x p.0; on_y = reach_within c.y p.1 }

pub admitted_finite : (c : Corner) → is_admitted c ≡ true → FiniteCorner c
admitted_finite c h = let w = admitted_within c h in record { on_x = within_finite 59 c.x w.on_x; on_y = within_finite 59 c.y w.on_y }

-- ---- D, S and T

-- a coordinate times a difference of two
term : (x u v : Float) → Within 59 x → Within 59 u → Within 59 v → Within 119 (x ⊗ (u ⊖ v))
term x u v p q r = product_bounded x (u ⊖ v) 59 60 (lit≤ tt) p (difference_bounded u v 59 (lit< tt) q r)

module _ (a b c : Corner) (A : WithinCorner a) (B : WithinCorner b) (C : WithinCorner c) where
  pub num1_within : Within 121 (num1_of a b c)
  num1_within =
      sum_bounded _ _ 120 (lit< tt)
      (sum_bounded _ _ 119 (lit< tt) (term _ _ _ A.on_x C.on_y B.on_y) (term _ _ _ B.on_x A.on_y C.on_y))
      (within_more 119 120 _ (lit≤ tt) (term _ _ _ C.on_x B.on_y A.on_y))

  pub num2_within : Within 121 (num2_of a b c)
  num2_within = within_turned 121 _ num1_within

pub denom_within : (a b c d : Corner) → WithinCorner a → WithinCorner b → WithinCorner c → WithinCorner d → Within 122 (denom_of a b c d)
denom_within a b c d A B C D =
    sum_bounded _ _ 121 (lit< tt)
    (sum_bounded _ _ 120 (lit< tt)
    (sum_bounded _ _ 119 (lit< tt) (term _ _ _ A.on_x D.on_y C.on_y) (term _ _ _ B.on_x C.on_y D.on_y))
    (within_more 119 120 _ (lit≤ tt) (term _ _ _ D.on_x B.on_y A.on_y)))
    (within_more 119 121 _ (lit≤ tt) (term _ _ _ C.on_x A.on_y B.on_y))

pub parts_finite : (a b c d : Corner) → AllAdmitted a b c d → FiniteParts a b c d
parts_finite a b c d h =
    let A = admitted_within a h.first in
    let B = admitted_within b h.second in
    let C = admitted_within c h.third in
    let D = admitted_within d h.fourth in
    record { denom = within_finite 122 _ (denom_within a b c d A B C D); num1 = within_finite 121 _ (num1_within a c d A C D); num2 = within_finite 121 _ (num2_within a b c A B C) }
