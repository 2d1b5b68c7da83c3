-- Results of bounded floats are bounded, and so finite. Assumes nothing.
use Rattle.std.proofs.Common.{◌≡◌, ℕ, zero, suc, ◌+◌, ◌*◌, ◌^◌, ◌<◌, ◌≤◌, Bool, true, false, cond, T, eqb, ltb, ℤ, pos, sym, refl, ap, ◌∙◌, subst, le_trans, le_of_eq, mul-le-mul_right, zero-lt-suc, mul-le-mul, mul-pos, one-mul, pow-suc, mul-one, arith, lit<, leb→le, pow_mono, pow-add}
use native.Mathlib.Nat.{mul-mul-mul_comm}
use lib.Pow.{pow-lt}
use lib.Ieee.{Float, Format, nan, inf, fin, binary32, prec, low, up, down, unlike, odd, units, round, neg, add, sub, mul, div, eq, le, is_nan, of_bits}
use lib.Ieee.Fits.{down_pos, round_is}
use lib.Ieee.Exact.{HasValue, round_exact}
use lib.Ieee.Order.{round_mono}
use lib.Ieee.Scale.{finite}
use Rattle.std.proofs.lemmas.Bool.{cond-false, ne_eqb}
use Rattle.floats.specs.Operations.{◌⊕◌, ◌⊗◌, ◌⊘◌, nought}
use Rattle.floats.specs.Numbers.{IsFraction}
use Rattle.floats.specs.Bounds.{Within, SumBounded, DifferenceBounded, ProductBounded, QuotientNumber}
use Rattle.floats.proofs.Fractions.{both_finite, le_fraction}
use Rattle.floats.proofs.Sums.{totals}
use Rattle.floats.proofs.Turned.{round_turned}

-- ---- what is rounded is a number with the sign that it was given

abbrev pub Bears : Bool → Float → Type 0
Bears s nan = ⊥
Bears s (inf t) = t ≡ s
Bears s (fin t m e) = t ≡ s

odd_bears : (d : ℕ) (s : Bool) (q k l : ℕ) → Bears s (odd d s q k l)
unfolding odd
odd_bears d s zero k l = refl
odd_bears d s (suc q) k l = refl

units_bears : (f : Format) (s : Bool) (q k : ℕ) → Bears s (units f s q k)
unfolding units
units_bears f s q k = either (ltb (q * 2 ^ k) _)
  where
    either : (b : Bool) → Bears s (cond b (odd (suc (prec f)) s q k (low f)) (inf s))
    either true = odd_bears (suc (prec f)) s q k (low f)
    either false = refl

pub round_bears : (f : Format) (s : Bool) (a c : ℕ) → Bears s (round f s a c)
round_bears f s a c = subst (Bears s) (sym (round_is f s a c)) (units_bears f s _ _)

bears_number : (s : Bool) (x : Float) → Bears s x → is_nan x ≡ false
unfolding is_nan
bears_number s nan b = absurd b
bears_number s (inf t) b = refl
bears_number s (fin t m e) b = refl

-- ---- a fraction up to 2 ^ k is rounded to at most 2 ^ k

power_kept : (k : ℕ) → k ≤ 127 → HasValue (round binary32 false (2 ^ k) 1) false (2 ^ k) 1
power_kept k h =
    let l : k + 149 < 277 = omega arith in
    round_exact binary32 false (2 ^ k) 1 1 (k + 149) (zero-lt-suc 0) (lit< tt)
    (subst (λ (n : ℕ). n < 2 ^ 277) (sym (one-mul (2 ^ (k + 149)))) (pow-lt l))
    (sym (pow-add 2 k 149) ∙ sym (one-mul (2 ^ (k + 149))) ∙ sym (mul-one (1 * 2 ^ (k + 149))))

above_all : (s t : Bool) (p : ℕ) (d : ℤ) → s ≡ false → T (le (inf s) (fin t p d)) → ⊥
unfolding le
above_all true t p d b h = mathlib.Core.Bool.true≢false b
above_all false t p d b h = h

under : (x y : Float) (k : ℕ) → Bears false x → T (le x y) → HasValue y false (2 ^ k) 1 → Within k x
under nan y k b h v = absurd b
under (inf s) nan k b h v = absurd v
under (inf s) (inf t) k b h v = absurd v
under (inf s) (fin t p d) k b h v = above_all s t p d b h
under (fin s m e) nan k b h v = absurd v
under (fin s m e) (inf t) k b h v = absurd v
under (fin s m e) (fin t p d) k b h v =
    let n = 2 ^ k * down e in
    let q : IsFraction (fin t p d) (pos n) (down e) = record { sign = false; size = n; value = (v.0, omega (arith, ap (λ (i : ℕ). i * down e) v.1)); is = refl } in
    let r : IsFraction (fin s m e) (pos (m * up e)) (down e) = record { sign = false; size = m * up e; value = (b, refl); is = refl } in
    leb→le (m * up e) n (subst T (le_fraction (fin s m e) (fin t p d) (pos (m * up e)) (pos n) (down e) (down_pos e) r q) h)

pub within_turned : (k : ℕ) (x : Float) → Within k x → Within k (neg x)
unfolding neg
within_turned k nan p = p
within_turned k (inf s) p = p
within_turned k (fin s m e) p = p

pub within_more : (j k : ℕ) (x : Float) → j ≤ k → Within j x → Within k x
within_more j k nan h p = p
within_more j k (inf s) h p = p
within_more j k (fin s m e) h p = le_trans p (mul-le-mul_right (down e) (pow_mono h))

plain_round : (a c k : ℕ) → 0 < c → k ≤ 127 → a ≤ 2 ^ k * c → Within k (round binary32 false a c)
plain_round a c k C K h =
    under (round binary32 false a c) (round binary32 false (2 ^ k) 1) k (round_bears binary32 false a c) (round_mono binary32 a c (2 ^ k) 1 C (zero-lt-suc 0) (omega arith)) (power_kept k K)

within_round : (s : Bool) (a c k : ℕ) → 0 < c → k ≤ 127 → a ≤ 2 ^ k * c → Within k (round binary32 s a c)
within_round false a c k C K h = plain_round a c k C K h
within_round true a c k C K h =
    subst (Within k) (sym (round_turned binary32 false a c)) (within_turned k (round binary32 false a c) (plain_round a c k C K h))

-- ---- the operations

pub within_finite : (k : ℕ) (x : Float) → Within k x → T (finite x)
within_finite k nan p = p
within_finite k (inf s) p = p
within_finite k (fin s m e) p = tt

-- what holds of any that are bounded
pub by_bounds : (P : Float → Float → Type 0) (j k : ℕ) → ((s : Bool) (m : ℕ) (e : ℤ) (t : Bool) (n : ℕ) (d : ℤ) → m * up e ≤ 2 ^ j * down e → n * up d ≤ 2 ^ k * down d → P (fin s m e) (fin t n d))
    → (x y : Float) → Within j x → Within k y → P x y
by_bounds P j k f x y p q = both_finite (λ x y. Within j x → Within k y → P x y) f x y (within_finite j x p) (within_finite k y q) p q

pub sum_bounded : SumBounded
unfolding add
sum_bounded x y k K = by_bounds (λ x y. Within (suc k) (x ⊕ y)) k k
    (λ s m e t n d p q.
    let a = m * up e * down d in
    let b = n * up d * down e in
    let c = down e * down d in
    let r = totals binary32 s t a b c in
    let A : a ≤ 2 ^ k * c = omega (arith, mul-le-mul_right (down d) p) in
    let B : b ≤ 2 ^ k * c = omega (arith, mul-le-mul_right (down e) q) in
    let most : r.size ≤ 2 ^ suc k * c = subst (λ (i : ℕ). r.size ≤ i * c) (sym (pow-suc 2 k)) (omega (arith, r.most)) in
    subst (Within (suc k)) (sym r.rounds) (within_round r.sign r.size c (suc k) (mul-pos (down_pos e) (down_pos d)) (omega arith) most)) x y

pub difference_bounded : DifferenceBounded
unfolding sub
difference_bounded x y k K p q = sum_bounded x (neg y) k K p (within_turned k y q)

pub product_bounded : ProductBounded
unfolding mul
product_bounded x y j k K = by_bounds (λ x y. Within (j + k) (x ⊗ y)) j k
    (λ s m e t n d p q. within_round (unlike s t) (m * up e * (n * up d)) (down e * down d) (j + k) (mul-pos (down_pos e) (down_pos d)) K
    (le_trans (mul-le-mul p q) (le_of_eq (mul-mul-mul_comm (2 ^ j) (down e) (2 ^ k) (down d) ∙ ap (λ (i : ℕ). i * (down e * down d)) (sym (pow-add 2 j k)))))) x y

-- a zero is level with 0
zero-level : (t : Bool) (n : ℕ) (d : ℤ) → n ≡ 0 → eq (fin t n d) nought ≡ true
unfolding eq of_bits
zero-level t n d z = ap (λ (i : ℕ). eq (fin t i d) nought) z ∙ at_zero t
  where
    at_zero : (t : Bool) → eq (fin t 0 d) nought ≡ true
    at_zero true = grind arith
    at_zero false = grind arith

pub quotient_number : QuotientNumber
unfolding div
quotient_number x y j k p q = by_bounds (λ x y. eq y nought ≡ false → is_nan (x ⊘ y) ≡ false) j k
    (λ s m e t n d _ _ h.
    let some : (n ≡ 0) → ⊥ = λ z. mathlib.Core.Bool.true≢false (sym (zero-level t n d z) ∙ h) in
    ap is_nan (cond-false (eqb n 0) (cond (eqb m 0) nan (inf (unlike s t))) _ (ne_eqb n 0 some))
    ∙ bears_number (unlike s t) _ (round_bears binary32 (unlike s t) (m * up e * down d) (n * up d * down e))) x y p q
