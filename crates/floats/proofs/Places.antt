-- Any three floats that are numbers, the infinities among them, stand in the order of some whole numbers; up to and equal, of two of them, are told by which is below. Assumes nothing.
use Rattle.std.proofs.Common.{◌≡◌, ℕ, ◌+◌, ◌*◌, ◌<◌, Bool, true, false, not, ◌&&◌, T, ℤ, pos, inl, inr, sym, ap, ◌∙◌, mul-pos, arith}
use lib.Signed.{lt_z}
use lib.Ieee.{Float, nan, inf, fin, up, down, lt, eq, le, is_nan}
use lib.Ieee.Bits.{is_true}
use lib.Ieee.Fits.{down_pos}
use lib.Ieee.Positive.{num, den, den_pos}
use Rattle.std.proofs.lemmas.Bool.{cases_Bool, both_ways, not_from_true, not_from_false}
use Rattle.std.proofs.lemmas.Float.{le_of_not-lt, lt-or-eq, T_from_true, T_from_false}
use Rattle.std.proofs.lemmas.Int.{ints}
use Rattle.floats.specs.Numbers.{signed}
use Rattle.floats.proofs.Fractions.{lt_signed, lt_alike}
use Rattle.floats.proofs.Order.{test_fails, never_both, below_not_level, above_not_level}

-- a float in parts of a denominator k times its own, the infinities at ±b
abbrev place : ℕ → ℕ → Float → ℤ
place k b nan = pos 0
place k b (inf s) = signed s b
place k b (fin s m e) = signed s (m * up e * k)

-- both beyond what is finite, and in parts of one denominator
record Shared (x y : Float) (k l b : ℕ) : Type 0 where
  x_short : num x * k < b
  y_short : num y * l < b
  one : den x * k ≡ den y * l
  some : 0 < l

far : (s t : Bool) (a b : ℕ) → a < b → (lt_z (signed s b) (signed t a) ≡ s) × (lt_z (signed t a) (signed s b) ≡ not s)
far false false a b h = (grind (arith, ints), grind (arith, ints))
far false true a b h = (grind (arith, ints), grind (arith, ints))
far true false a b h = (grind (arith, ints), grind (arith, ints))
far true true a b h = (grind (arith, ints), grind (arith, ints))

apart : (s t : Bool) (b : ℕ) → 0 < b → (s && not t) ≡ lt_z (signed s b) (signed t b)
apart false false b h = grind (arith, ints)
apart false true b h = grind (arith, ints)
apart true false b h = grind (arith, ints)
apart true true b h = grind (arith, ints)

lt_place : (x y : Float) (k l b : ℕ) → T (not (is_nan x)) → T (not (is_nan y)) → Shared x y k l b → lt x y ≡ lt_z (place k b x) (place l b y)
unfolding lt is_nan
lt_place nan y k l b p q h = absurd p
lt_place (inf s) nan k l b p q h = absurd q
lt_place (fin s m e) nan k l b p q h = absurd q
lt_place (inf s) (inf t) k l b p q h = apart s t b (omega (arith, h.x_short))
lt_place (inf s) (fin t n d) k l b p q h = sym (far s t (n * up d * l) b h.y_short).0
lt_place (fin s m e) (inf t) k l b p q h = sym (far t s (m * up e * k) b h.x_short).1
lt_place (fin s m e) (fin t n d) k l b p q h =
    lt_signed s t (m * up e * down d) (n * up d * down e)
    ∙ lt_alike s t (m * up e * down d) (n * up d * down e) (m * up e * k) (n * up d * l) l (down e) h.some (down_pos e)
    (omega (arith, ap (λ (i : ℕ). m * up e * i) h.one)) (omega arith)

pub record Row (x y z : Float) : Type 0 where
  pub i : ℤ
  pub j : ℤ
  pub k : ℤ
  pub xy : lt x y ≡ lt_z i j
  pub yx : lt y x ≡ lt_z j i
  pub yz : lt y z ≡ lt_z j k
  pub zy : lt z y ≡ lt_z k j
  pub xz : lt x z ≡ lt_z i k
  pub zx : lt z x ≡ lt_z k i

module _ (x y z : Float) (X : T (not (is_nan x))) (Y : T (not (is_nan y))) (Z : T (not (is_nan z))) where
  pub row : Row x y z
  row =
      let i = den y * den z in
      let j = den x * den z in
      let k = den x * den y in
      let b = num x * i + num y * j + num z * k + 1 in
      let I : 0 < i = mul-pos (den_pos y) (den_pos z) in
      let J : 0 < j = mul-pos (den_pos x) (den_pos z) in
      let K : 0 < k = mul-pos (den_pos x) (den_pos y) in
      let xy : den x * i ≡ den y * j = omega arith in
      let yz : den y * j ≡ den z * k = omega arith in
      let x_short : num x * i < b = omega arith in
      let y_short : num y * j < b = omega arith in
      let z_short : num z * k < b = omega arith in
      record {
        i = place i b x;
        j = place j b y;
        k = place k b z;
        xy = lt_place x y i j b X Y (record { x_short = x_short; y_short = y_short; one = xy; some = J });
        yx = lt_place y x j i b Y X (record { x_short = y_short; y_short = x_short; one = sym xy; some = I });
        yz = lt_place y z j k b Y Z (record { x_short = y_short; y_short = z_short; one = yz; some = K });
        zy = lt_place z y k j b Z Y (record { x_short = z_short; y_short = y_short; one = sym yz; some = J });
        xz = lt_place x z i k b X Z (record { x_short = x_short; y_short = z_short; one = xy ∙ yz; some = K });
        zx = lt_place z x k i b Z X (record { x_short = z_short; y_short = x_short; one = sym (xy ∙ yz); some = I });
      }

module _ (x y : Float) (X : T (not (is_nan x))) (Y : T (not (is_nan y))) where
  -- up to a number is what that number is not below
  pub le_numbers : le x y ≡ not (lt y x)
  le_numbers = elim (cases_Bool (lt y x)) [
    | inl e ↦ test_fails (le x y) (never_both y x (T_from_true (lt y x) e)) ∙ sym (not_from_true (lt y x) e)
    | inr e ↦ is_true (le x y) (le_of_not-lt y x Y X (T_from_false (lt y x) e)) ∙ sym (not_from_false (lt y x) e)
  ]

  -- equal numbers are those of which neither is below the other
  pub eq_numbers : eq x y ≡ (not (lt x y) && not (lt y x))
  eq_numbers = elim (cases_Bool (lt x y)) [
    | inl e ↦ below_not_level x y (T_from_true (lt x y) e) ∙ sym (ap (λ b. not b && not (lt y x)) e)
    | inr e ↦ elim (cases_Bool (lt y x)) [
      | inl f ↦ above_not_level x y (T_from_true (lt y x) f) ∙ sym (ap (λ b. not (lt x y) && not b) f ∙ ap (λ b. not b && false) e)
      | inr f ↦ elim (lt-or-eq x y (le_of_not-lt y x Y X (T_from_false (lt y x) f))) [
        | inl l ↦ absurd (both_ways (lt x y) e (is_true (lt x y) l))
        | inr l ↦ is_true (eq x y) l ∙ sym (ap (λ b. not b && not (lt y x)) e ∙ ap not f)
      ]
    ]
  ]
