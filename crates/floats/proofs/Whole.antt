-- On whole numbers within the format's digits the rounded operations are exact, and so are the comparisons. Assumes nothing.
use Rattle.std.proofs.Common.{◌≡◌, ℕ, zero, suc, ◌*◌, ◌^◌, ◌<◌, ◌≤◌, Bool, true, false, not, ℤ, pos, negsuc, ◌+ℤ◌, ◌*ℤ◌, neg_ℤ, nat_abs, sym, refl, ap, ◌∙◌, subst, zero-lt-suc, mul-pos, arith}
use lib.Ieee.{Float, Format, binary32, prec, unlike, round, neg, sub, mul, of_int, of_bits}
use lib.Ieee.Exact.{HasValue}
use lib.Ieee.Back.{round_whole}
use Rattle.floats.specs.Operations.{nought, unit}
use Rattle.floats.specs.Numbers.{signed, IsWhole}
use Rattle.floats.specs.Whole.{WholeHeld, WholeSum, WholeDifference, WholeProduct, WholeNegation, WholeCompared, SameDifference, SameProduct, MinusNought}
use Rattle.floats.proofs.Fractions.{signed-size, nought_fraction, unit_fraction, lt_fraction, le_fraction, eq_fraction}
use Rattle.floats.proofs.Sums.{Rounded, totals, add-value, neg_value, signed_neg, neg_fraction, add_rounded, sub_rounded}
use Rattle.floats.proofs.Products.{signed_mul, mul_value, mul_rounded}

-- ---- by value

-- a whole number that is rounded is kept
whole : (f : Format) (x : Float) (z : ℤ) → Rounded f x z 1 → nat_abs z ≤ 2 ^ prec f → IsWhole x z
whole f x z r h = record {
  sign = r.sign;
  size = r.size;
  value = subst (λ (v : Float). HasValue v r.sign r.size 1) (sym r.rounds) (round_whole f r.sign r.size (subst (λ (k : ℕ). k ≤ 2 ^ prec f) (ap nat_abs r.is ∙ signed-size r.sign r.size) h));
  is = r.is;
}

pub sum_whole : WholeSum
sum_whole x y z w p q h = whole binary32 _ _ (add_rounded binary32 x y z w 1 (zero-lt-suc 0) p q) h

pub difference_whole : WholeDifference
difference_whole x y z w p q h = whole binary32 _ _ (sub_rounded binary32 x y z w 1 (zero-lt-suc 0) p q) h

pub product_whole : WholeProduct
product_whole x y z w p q h = whole binary32 _ _ (mul_rounded binary32 x y z w 1 1 (zero-lt-suc 0) (zero-lt-suc 0) p q) h

pub negation_whole : WholeNegation
negation_whole x z p = neg_fraction x z 1 p

pub compared : WholeCompared
compared x y z w p q = record {
  below = lt_fraction x y z w 1 (zero-lt-suc 0) p q;
  up_to = le_fraction x y z w 1 (zero-lt-suc 0) p q;
  level = eq_fraction x y z w 1 (zero-lt-suc 0) p q;
}

pub nought_whole : IsWhole nought (pos 0)
nought_whole = nought_fraction 1

pub unit_whole : IsWhole unit (pos 1)
unit_whole = unit_fraction 1

-- ---- float by float: what is held exactly is rounded once on both sides

abbrev is_below : ℤ → Bool
is_below (pos n) = false
is_below (negsuc n) = true

by_parts : (z : ℤ) → signed (is_below z) (nat_abs z) ≡ z
by_parts (pos n) = refl
by_parts (negsuc n) = refl

below_some : (z : ℤ) → is_below z ≡ true → 0 < nat_abs z
below_some (pos n) e = absurd (mathlib.Core.Bool.false≢true e)
below_some (negsuc n) e = omega arith

float_value : (f : Format) (z : ℤ) → nat_abs z ≤ 2 ^ prec f → HasValue (of_int f z) (is_below z) (nat_abs z) 1
unfolding of_int
float_value f (pos n) h = round_whole f false n h
float_value f (negsuc n) h = round_whole f true (suc n) h

pub held : WholeHeld
held z h = record { sign = is_below z; size = nat_abs z; value = float_value binary32 z h; is = sym (by_parts z) }

float-rounds : (f : Format) (s : Bool) (n : ℕ) → (s ≡ true → 0 < n) → round f s n 1 ≡ of_int f (signed s n)
unfolding of_int
float-rounds f false n h = refl
float-rounds f true zero h = absurd (omega (arith, h refl))
float-rounds f true (suc n) h = refl

pub same_difference : SameDifference
unfolding sub
same_difference z w h k =
    let f = binary32 in
    let s = is_below z in
    let t = not (is_below w) in
    let a = nat_abs z in
    let b = nat_abs w in
    let r = totals f s t a b 1 in
    add-value f (of_int f z) (neg (of_int f w)) s t a b 1 (zero-lt-suc 0) (float_value f z h) (neg_value (of_int f w) (is_below w) b 1 (float_value f w k))
    ∙ r.rounds ∙ float-rounds f r.sign r.size (r.clear (below_some z)) ∙ ap (of_int f) (sym r.is)
    ∙ ap (of_int f) (λ i. by_parts z i +ℤ (sym (signed_neg (is_below w) b) ∙ ap neg_ℤ (by_parts w)) i)

pub same_product : SameProduct
same_product z w h k p q =
    let f = binary32 in
    let s = is_below z in
    let t = is_below w in
    let a = nat_abs z in
    let b = nat_abs w in
    mul_value f (of_int f z) (of_int f w) s t a b 1 1 (zero-lt-suc 0) (zero-lt-suc 0) (float_value f z h) (float_value f w k)
    ∙ float-rounds f (unlike s t) (a * b) (λ _. mul-pos p q) ∙ ap (of_int f) (sym (signed_mul s t a b) ∙ (λ i. by_parts z i *ℤ by_parts w i))

pub minus_nought : MinusNought
unfolding mul of_int of_bits neg
minus_nought = refl
