-- Finite floats as fractions: at a common denominator they compare as whole numbers do. Assumes nothing.
use Rattle.std.proofs.Common.{◌≡◌, ℕ, zero, suc, ◌+◌, ◌*◌, ◌<◌, Bool, true, false, not, ◌&&◌, ◌||◌, T, ltb, ltb→lt, ℤ, pos, nat_abs, sym, refl, ap, ◌∙◌, subst₂, inl, inr, mul-le-mul_right, lt_of_mul-lt-mul_right, mul-lt-mul_of_pos_right, mul-pos, le_of_mul-le-mul_right, arith}
use lib.Signed.{lt_z, le_z}
use lib.Ieee.{Float, nan, inf, fin, up, down, below, level, lt, eq, le, of_bits}
use lib.Ieee.Fits.{down_pos}
use lib.Ieee.Exact.{HasValue}
use lib.Ieee.Scale.{finite}
use Rattle.std.proofs.lemmas.Int.{ints}
use Rattle.std.proofs.lemmas.Bool.{cases_lt, lt-ltb, le-ltb}
use Rattle.std.proofs.lemmas.Bool.Decides.{nat_tests}
use Rattle.floats.specs.Operations.{nought, unit}
use Rattle.floats.specs.Numbers.{signed, IsFraction, same_z}

-- ---- finite floats

-- what holds of any that are given by sign, digits and exponent
pub both_finite : (P : Float → Float → Type 0) → ((s : Bool) (m : ℕ) (e : ℤ) (t : Bool) (n : ℕ) (d : ℤ) → P (fin s m e) (fin t n d)) → (x y : Float) → T (finite x) → T (finite y) → P x y
both_finite P f nan y p q = absurd p
both_finite P f (inf s) y p q = absurd p
both_finite P f (fin s m e) nan p q = absurd q
both_finite P f (fin s m e) (inf t) p q = absurd q
both_finite P f (fin s m e) (fin t n d) p q = f s m e t n d

value-finite : (x : Float) (s : Bool) (a c : ℕ) → HasValue x s a c → T (finite x)
value-finite nan s a c p = p
value-finite (inf t) s a c p = p
value-finite (fin t m e) s a c p = tt

-- what holds of any that stand for a / c and b / d
pub by_value : (P : Float → Float → Type 0) (s t : Bool) (a b c d : ℕ) → ((m : ℕ) (e : ℤ) (n : ℕ) (g : ℤ) → m * up e * c ≡ a * down e → n * up g * d ≡ b * down g → P (fin s m e) (fin t n g))
    → (x y : Float) → HasValue x s a c → HasValue y t b d → P x y
by_value P s t a b c d f x y p q =
    both_finite (λ x y. HasValue x s a c → HasValue y t b d → P x y) (λ u m e v n g p q. subst₂ (λ u v. P (fin u m e) (fin v n g)) (sym p.0) (sym q.0) (f m e n g p.1 q.1))
    x y (value-finite x s a c p) (value-finite y t b d q) p q

-- ---- whole numbers by sign and size

pub signed-size : (s : Bool) (n : ℕ) → nat_abs (signed s n) ≡ n
signed-size false n = refl
signed-size true zero = refl
signed-size true (suc n) = refl

-- a number above 0 has no minus sign
pub positive_parts : (s : Bool) (n : ℕ) → T (lt_z (pos 0) (signed s n)) → (s ≡ false) × (0 < n)
positive_parts false n h = (refl, ltb→lt 0 n h)
positive_parts true zero h = absurd h
positive_parts true (suc n) h = absurd h

-- a finite float as a fraction with its own denominator
pub own_fraction : (s : Bool) (m : ℕ) (e : ℤ) → IsFraction (fin s m e) (signed s (m * up e)) (down e)
own_fraction s m e = record { sign = s; size = m * up e; value = (refl, refl); is = refl }

pub nought_fraction : (c : ℕ) → IsFraction nought (pos 0) c
nought_fraction c = record { sign = false; size = 0; value = unfold of_bits in (refl, omega arith); is = refl }

pub unit_fraction : (c : ℕ) → IsFraction unit (pos c) c
unit_fraction c = record { sign = false; size = c; value = unfold of_bits in (refl, omega arith); is = refl }

-- ---- comparisons by sign and size

-- they are those of whole numbers
pub lt_signed : (s t : Bool) (a b : ℕ) → below s a t b ≡ lt_z (signed s a) (signed t b)
lt_signed false false a b = refl
lt_signed false true a b = grind (arith, ints)
lt_signed true false a b = grind (arith, ints)
lt_signed true true a b = grind (arith, ints)

pub eq_signed : (s t : Bool) (a b : ℕ) → level s a t b ≡ same_z (signed s a) (signed t b)
eq_signed false false a b = grind (arith, nat_tests)
eq_signed false true a b = grind (arith, ints)
eq_signed true false a b = grind (arith, ints)
eq_signed true true a b = grind (arith, ints)

-- and sizes in the same proportion compare alike
pub ltb_alike : (a b a' b' c k : ℕ) → 0 < c → 0 < k → a * c ≡ a' * k → b * c ≡ b' * k → ltb a b ≡ ltb a' b'
ltb_alike a b a' b' c k C K p q =
    elim (cases_lt a b) [
      | inl l ↦ lt-ltb a b l ∙ sym (lt-ltb a' b' (lt_of_mul-lt-mul_right k (omega (arith, mul-lt-mul_of_pos_right l C))))
      | inr l ↦ le-ltb a b l ∙ sym (le-ltb a' b' (le_of_mul-le-mul_right (omega (arith, mul-le-mul_right c l)) K))
    ]

pub lt_alike : (s t : Bool) (a b a' b' c k : ℕ) → 0 < c → 0 < k → a * c ≡ a' * k → b * c ≡ b' * k → lt_z (signed s a) (signed t b) ≡ lt_z (signed s a') (signed t b')
lt_alike s t a b a' b' c k C K p q = sym (lt_signed s t a b) ∙ go s t ∙ lt_signed s t a' b'
  where
    go : (s t : Bool) → below s a t b ≡ below s a' t b'
    go false false = ltb_alike a b a' b' c k C K p q
    go false true = refl
    go true false = ltb_alike 0 (a + b) 0 (a' + b') c k C K (omega arith) (omega arith)
    go true true = ltb_alike b a b' a' c k C K q p

-- ---- floats that stand for z / c and w / c

module _ (m n : ℕ) (e d : ℤ) (a b c : ℕ) (C : 0 < c) (p : m * up e * c ≡ a * down e) (q : n * up d * c ≡ b * down d) where
  fin_alike : (s t : Bool) → lt_z (signed s (m * up e * down d)) (signed t (n * up d * down e)) ≡ lt_z (signed s a) (signed t b)
  fin_alike s t =
      lt_alike s t (m * up e * down d) (n * up d * down e) a b c (down e * down d) C (mul-pos (down_pos e) (down_pos d))
      (omega (arith, ap (λ (k : ℕ). k * down d) p)) (omega (arith, ap (λ (k : ℕ). k * down e) q))

lt_value : (x y : Float) (s t : Bool) (a b c : ℕ) → 0 < c → HasValue x s a c → HasValue y t b c → lt x y ≡ lt_z (signed s a) (signed t b)
unfolding lt
lt_value x y s t a b c C p q =
    by_value (λ x y. lt x y ≡ lt_z (signed s a) (signed t b)) s t a b c c
    (λ m e n d p q. lt_signed s t (m * up e * down d) (n * up d * down e) ∙ fin_alike m n e d a b c C p q s t) x y p q

eq_value : (x y : Float) (s t : Bool) (a b c : ℕ) → 0 < c → HasValue x s a c → HasValue y t b c → eq x y ≡ same_z (signed s a) (signed t b)
unfolding eq
eq_value x y s t a b c C p q =
    by_value (λ x y. eq x y ≡ same_z (signed s a) (signed t b)) s t a b c c
    (λ m e n d p q. eq_signed s t (m * up e * down d) (n * up d * down e)
    ∙ (λ i. not (fin_alike m n e d a b c C p q s t i) && not (fin_alike n m d e b a c C q p t s i))) x y p q

module _ (x y : Float) (z w : ℤ) (c : ℕ) (C : 0 < c) (p : IsFraction x z c) (q : IsFraction y w c) where
  pub lt_fraction : lt x y ≡ lt_z z w
  lt_fraction = lt_value x y p.sign q.sign p.size q.size c C p.value q.value ∙ (λ i. lt_z (sym p.is i) (sym q.is i))

  pub eq_fraction : eq x y ≡ same_z z w
  eq_fraction = eq_value x y p.sign q.sign p.size q.size c C p.value q.value ∙ (λ i. same_z (sym p.is i) (sym q.is i))

  pub le_fraction : le x y ≡ le_z z w
  unfolding le
  le_fraction = (λ i. lt_fraction i || eq_fraction i) ∙ joined z w
    where
      joined : (i j : ℤ) → (lt_z i j || same_z i j) ≡ le_z i j
      joined i j = grind (arith, ints)
