-- A product or a quotient of finite floats is that of the fractions, rounded once. Assumes nothing.
use Rattle.std.proofs.Common.{◌≡◌, ℕ, zero, suc, ◌*◌, ◌<◌, Bool, true, false, cond, eqb, ℤ, ◌*ℤ◌, refl, ap, ◌∙◌, mul-pos, mul-zero, zero-mul, arith}
use lib.Ieee.{Float, Format, nan, inf, up, down, unlike, round, mul, div}
use lib.Ieee.Fits.{down_pos}
use lib.Ieee.Exact.{HasValue}
use lib.Ieee.Positive.{first_pos}
use lib.Ieee.Scale.{round_same}
use Rattle.std.proofs.lemmas.Bool.{cond-false, ne_eqb}
use Rattle.floats.specs.Numbers.{signed, IsFraction}
use Rattle.floats.proofs.Fractions.{by_value}
use Rattle.floats.proofs.Sums.{Rounded}

pub signed_mul : (s t : Bool) (a b : ℕ) → signed s a *ℤ signed t b ≡ signed (unlike s t) (a * b)
signed_mul false false a b = refl
signed_mul false true a zero = rw mul-zero refl
signed_mul false true a (suc b) = refl
signed_mul true false zero b = rw zero-mul refl
signed_mul true false (suc a) b = refl
signed_mul true true zero zero = refl
signed_mul true true zero (suc b) = rw zero-mul refl
signed_mul true true (suc a) zero = rw mul-zero refl
signed_mul true true (suc a) (suc b) = refl

-- x is a / c and y is b / d in size
pub mul_value : (f : Format) (x y : Float) (s t : Bool) (a b c d : ℕ) → 0 < c → 0 < d → HasValue x s a c → HasValue y t b d → mul f x y ≡ round f (unlike s t) (a * b) (c * d)
unfolding mul
mul_value f x y s t a b c d C D p q =
    by_value (λ x y. mul f x y ≡ round f (unlike s t) (a * b) (c * d)) s t a b c d
    (λ m e n g p q. round_same f (unlike s t) (m * up e * (n * up g)) (down e * down g) (a * b) (c * d) (mul-pos (down_pos e) (down_pos g)) (mul-pos C D)
    (crossed (m * up e) (n * up g) a b (down e) (down g) c d p q)) x y p q
  where
    crossed : (u v a b E G c d : ℕ) → u * c ≡ a * E → v * d ≡ b * G → u * v * (c * d) ≡ a * b * (E * G)
    crossed u v a b E G c d p q = omega (arith, ap (λ (k : ℕ). k * (v * d)) p, ap (λ (k : ℕ). k * (a * E)) q)

pub mul_rounded : (f : Format) (x y : Float) (z w : ℤ) (c d : ℕ) → 0 < c → 0 < d → IsFraction x z c → IsFraction y w d → Rounded f (mul f x y) (z *ℤ w) (c * d)
mul_rounded f x y z w c d C D p q = record {
  sign = unlike p.sign q.sign;
  size = p.size * q.size;
  is = (λ i. p.is i *ℤ q.is i) ∙ signed_mul p.sign q.sign p.size q.size;
  rounds = mul_value f x y p.sign q.sign p.size q.size c d C D p.value q.value;
}

-- x is a / c and y is b / c in size: the denominator drops out
pub div_value : (f : Format) (x y : Float) (s t : Bool) (a b c : ℕ) → 0 < b → 0 < c → HasValue x s a c → HasValue y t b c → div f x y ≡ round f (unlike s t) a b
unfolding div
div_value f x y s t a b c B C p q =
    by_value (λ x y. div f x y ≡ round f (unlike s t) a b) s t a b c c
    (λ m e n g p q.
    let w : 0 < b * down g = mul-pos B (down_pos g) in
    let some : (n ≡ 0) → ⊥ = λ z. omega (arith, ap (λ (i : ℕ). i * up g * c) z, q) in
    cond-false (eqb n 0) (cond (eqb m 0) nan (inf (unlike s t))) _ (ne_eqb n 0 some)
    ∙ round_same f (unlike s t) (m * up e * down g) (n * up g * down e) a b (mul-pos (first_pos (n * up g) c (omega (arith, q))) (down_pos e)) B
    (scaled (m * up e) (n * up g) a b (down e) (down g) c C p q)) x y p q
  where
    scaled : (u v a b E G c : ℕ) → 0 < c → u * c ≡ a * E → v * c ≡ b * G → u * G * b ≡ a * (v * E)
    scaled u v a b E G c C p q = native.Mathlib.Nat.eq_of_mul-eq-mul_right c C (u * G * b) (a * (v * E)) (omega (arith, ap (λ (k : ℕ). k * (G * b)) p, ap (λ (k : ℕ). k * (a * E)) q))
