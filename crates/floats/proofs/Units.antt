-- Parts of a difference stay from 0 to 1. Assumes nothing.
use Rattle.std.proofs.Common.{◌≡◌, ℕ, zero, suc, ◌+◌, ◌-◌, ◌*◌, ◌%◌, ◌^◌, ◌<◌, ◌≤◌, Bool, true, false, ◌&&◌, T, eqb, ltb, leb, ℤ, pos, negsuc, ◌-ℤ◌, sym, refl, ap, ◌∙◌, subst, inl, inr, mul-le-mul_right, mul-pos, arith, lit<, leb→le, pow-add}
use mathlib.Core.Bool.{false≢true}
use lib.Signed.{lt_z, le_z}
use lib.Pow.{pow-lt}
use lib.Ieee.{Float, nan, inf, fin, binary32, up, down, unlike, round, neg, lt, le, fits, of_bits}
use lib.Ieee.Fits.{down_pos, and_l, and_r}
use lib.Ieee.Order.{round_mono}
use lib.Ieee.Scale.{finite}
use Rattle.std.proofs.lemmas.Float.{le_trans, lt_of_lt_of_le}
use Rattle.std.proofs.lemmas.Int.{ints}
use Rattle.std.proofs.lemmas.Bool.{cases_lt}
use Rattle.floats.specs.Operations.{◌⊖◌, ◌⊘◌, nought, unit}
use Rattle.floats.specs.Numbers.{signed, IsFraction}
use Rattle.floats.specs.Units.{InUnit, Steps, StepsOrdered, StepSome, PartInUnit, RestInUnit}
use Rattle.floats.proofs.Fractions.{both_finite, positive_parts, own_fraction, nought_fraction, unit_fraction, lt_fraction, le_fraction}
use Rattle.floats.proofs.Bounds.{within_finite, by_bounds}
use Rattle.floats.proofs.Sums.{sub_rounded}
use Rattle.floats.proofs.Products.{div_value}
use Rattle.floats.proofs.Turned.{round_turned}
use Rattle.floats.proofs.Quotients.{Q, from_nought, to_unit, at_nought}

-- ---- a fraction that is not below 0, rounded: with a minus sign only where it is 0

minus-up_to : T (le (neg nought) nought) × T (le nought (neg nought)) × T (le nought unit)
unfolding of_bits neg le
minus-up_to = (tt, tt, tt)

minus_is : (a c : ℕ) → 0 < c → a ≡ 0 → round binary32 true a c ≡ neg nought
minus_is a c C e = round_turned binary32 false a c ∙ ap neg (at_nought a c C e)

round_from_nought : (s : Bool) (a c : ℕ) → 0 < c → (s ≡ true → a ≡ 0) → T (le nought (round binary32 s a c))
round_from_nought false a c C h = from_nought a c C
round_from_nought true a c C h = subst (λ (x : Float). T (le nought x)) (sym (minus_is a c C (h refl))) minus-up_to.1

round_ordered : (s t : Bool) (a b c : ℕ) → 0 < c → (s ≡ true → a ≡ 0) → (t ≡ true → b ≡ 0) → a ≤ b → T (le (round binary32 s a c) (round binary32 t b c))
round_ordered false false a b c C f g h = round_mono binary32 a c b c C C (omega (arith, mul-le-mul_right c h))
round_ordered true t a b c C f g h =
    subst (λ (x : Float). T (le x (round binary32 t b c))) (sym (minus_is a c C (f refl))) (le_trans (neg nought) nought (round binary32 t b c) minus-up_to.0 (round_from_nought t b c C g))
round_ordered false true a b c C f g h =
    subst (λ (x : Float). T (le (Q a c) x)) (sym (minus_is b c C (g refl)))
    (subst (λ (x : Float). T (le x (neg nought))) (sym (at_nought a c C (omega (arith, g refl)))) minus-up_to.1)

-- a / c up to 1
round_in_unit : (s : Bool) (a c : ℕ) → 0 < c → (s ≡ true → a ≡ 0) → a ≤ c → InUnit (round binary32 s a c)
round_in_unit s a c C f h = record { low = round_from_nought s a c C f; high = high s f }
  where
    high : (s : Bool) → (s ≡ true → a ≡ 0) → T (le (round binary32 s a c) unit)
    high false f = to_unit a c C h
    high true f = subst (λ (x : Float). T (le x unit)) (sym (minus_is a c C (f refl))) (le_trans (neg nought) nought unit minus-up_to.0 minus-up_to.2)

-- a number that is not below 0 has a minus sign only where it is 0
clear : (s : Bool) (n : ℕ) → T (le_z (pos 0) (signed s n)) → s ≡ true → n ≡ 0
clear false n h e = absurd (false≢true e)
clear true n h e = grind (arith, ints)

-- ---- finite floats

-- what lies between two is finite too
pub middle : (u w v : Float) → T (finite u) → T (finite v) → T (le u w) → T (le w v) → T (finite w)
unfolding le
middle nan w v p q h k = absurd p
middle (inf s) w v p q h k = absurd p
middle (fin s m e) w nan p q h k = absurd q
middle (fin s m e) w (inf t) p q h k = absurd q
middle (fin s m e) nan (fin t n d) p q h k = absurd h
middle (fin s m e) (inf true) (fin t n d) p q h k = absurd h
middle (fin s m e) (inf false) (fin t n d) p q h k = absurd k
middle (fin s m e) (fin r l g) (fin t n d) p q h k = tt

-- in parts of a denominator k times its own
spread : (s : Bool) (m : ℕ) (e : ℤ) (k c : ℕ) → down e * k ≡ c → IsFraction (fin s m e) (signed s (m * up e * k)) c
spread s m e k c h = record { sign = s; size = m * up e * k; value = (refl, omega (arith, ap (λ (i : ℕ). m * up e * i) h)); is = refl }

sizes : (s t : Bool) (a b : ℕ) → T (le_z (pos 0) (signed s a)) → T (le_z (signed s a) (signed t b)) → a ≤ b
sizes false false a b p q = leb→le a b q
sizes false true a zero p q = leb→le a 0 q
sizes false true a (suc b) p q = absurd q
sizes true t zero b p q = omega arith
sizes true t (suc a) b p q = absurd p

-- ---- differences

steps : (u w v : Float) (i j k : ℤ) (c : ℕ) → 0 < c → IsFraction u i c → IsFraction w j c → IsFraction v k c → T (le u w) → T (le w v) → Steps u w v
steps u w v i j k c C p q r g h =
    let ij : T (le_z i j) = subst T (le_fraction u w i j c C p q) g in
    let jk : T (le_z j k) = subst T (le_fraction w v j k c C q r) h in
    let a = sub_rounded binary32 w u j i c C q p in
    let b = sub_rounded binary32 v u k i c C r p in
    let A : T (le_z (pos 0) (signed a.sign a.size)) = subst (λ (z : ℤ). T (le_z (pos 0) z)) a.is (forth i j ij) in
    let B : T (le_z (pos 0) (signed b.sign b.size)) = subst (λ (z : ℤ). T (le_z (pos 0) z)) b.is (far i j k ij jk) in
    let AB : T (le_z (signed a.sign a.size) (signed b.sign b.size)) = subst T (λ t. le_z (a.is t) (b.is t)) (short i j k jk) in
    record {
      forth = subst (λ (x : Float). T (le nought x)) (sym a.rounds) (round_from_nought a.sign a.size c C (clear a.sign a.size A));
      short = subst T (λ t. le (sym a.rounds t) (sym b.rounds t))
          (round_ordered a.sign b.sign a.size b.size c C (clear a.sign a.size A) (clear b.sign b.size B) (sizes a.sign b.sign a.size b.size A AB));
    }
  where
    forth : (i j : ℤ) → T (le_z i j) → T (le_z (pos 0) (j -ℤ i))
    forth i j h = grind (arith, ints)

    far : (i j k : ℤ) → T (le_z i j) → T (le_z j k) → T (le_z (pos 0) (k -ℤ i))
    far i j k g h = grind (arith, ints)

    short : (i j k : ℤ) → T (le_z j k) → T (le_z (j -ℤ i) (k -ℤ i))
    short i j k h = grind (arith, ints)

pub steps_ordered : StepsOrdered
steps_ordered u w v j k p q g h = on u w v (within_finite j u p) (middle u w v (within_finite j u p) (within_finite k v q) g h) (within_finite k v q) g h
  where
    on : (u w v : Float) → T (finite u) → T (finite w) → T (finite v) → T (le u w) → T (le w v) → Steps u w v
    on nan w v p q r g h = absurd p
    on (inf s) w v p q r g h = absurd p
    on (fin s m e) nan v p q r g h = absurd q
    on (fin s m e) (inf t) v p q r g h = absurd q
    on (fin s m e) (fin t n d) nan p q r g h = absurd r
    on (fin s m e) (fin t n d) (inf a) p q r g h = absurd r
    on (fin s m e) (fin t n d) (fin a l b) p q r g h =
        let c = down e * (down d * down b) in
        steps (fin s m e) (fin t n d) (fin a l b) _ _ _ c (mul-pos (down_pos e) (mul-pos (down_pos d) (down_pos b)))
        (spread s m e (down d * down b) c refl) (spread t n d (down e * down b) c (omega arith)) (spread a l b (down e * down d) c (omega arith)) g h

-- ---- a difference that is not 0: single-precision numbers are multiples of 2 ^ -149

multiple : (s : Bool) (m : ℕ) (e : ℤ) → T (fits binary32 (fin s m e)) → (a : ℕ) × (m * up e * 2 ^ 149 ≡ a * down e)
unfolding fits
multiple s zero e h = (0, omega arith)
multiple s (suc m) (pos k) h = (suc m * 2 ^ k * 2 ^ 149, omega arith)
multiple s (suc m) (negsuc k) h =
    let a = eqb (suc m % 2) 1 && ltb (suc m) (2 ^ 24) in
    let b = leb (2 ^ suc k) (2 ^ 149) in
    let d = ltb (suc m * 1) (2 ^ 128 * 2 ^ suc k) in
    let fine : 2 ^ suc k ≤ 2 ^ 149 = leb→le (2 ^ suc k) (2 ^ 149) (and_r a b (and_l (a && b) d h)) in
    let r : suc k ≤ 149 = exponent (suc k) fine in
    (suc m * 2 ^ (149 - suc k), split (149 - suc k) (suc k) (suc m) (omega arith))
  where
    exponent : (i : ℕ) → 2 ^ i ≤ 2 ^ 149 → i ≤ 149
    exponent i h = elim (cases_lt 149 i) [ inl l ↦ absurd (omega (arith, pow-lt l, h)) | inr l ↦ l ]

    split : (i j n : ℕ) → i + j ≡ 149 → n * 1 * 2 ^ 149 ≡ n * 2 ^ i * 2 ^ j
    split i j n e = ap (λ (k : ℕ). n * 1 * 2 ^ k) (sym e) ∙ ap (λ (k : ℕ). n * 1 * k) (pow-add 2 i j) ∙ omega arith

on_grid : (s : Bool) (m : ℕ) (e : ℤ) (a : ℕ) → m * up e * 2 ^ 149 ≡ a * down e → IsFraction (fin s m e) (signed s a) (2 ^ 149)
on_grid s m e a h = record { sign = s; size = a; value = (refl, h); is = refl }

pub step_some : StepSome
step_some u v f g j k p q = by_bounds (λ u v. T (fits binary32 u) → T (fits binary32 v) → T (lt u v) → T (lt nought (v ⊖ u))) j k
    (λ s m e t n d _ _ f g h.
    let a = multiple s m e f in
    let b = multiple t n d g in
    let c = 2 ^ 149 in
    let C : 0 < c = lit< tt in
    let x = on_grid s m e a.0 a.1 in
    let y = on_grid t n d b.0 b.1 in
    let r = sub_rounded binary32 (fin t n d) (fin s m e) (signed t b.0) (signed s a.0) c C y x in
    let w = positive_parts r.sign r.size (subst (λ (z : ℤ). T (lt_z (pos 0) z)) r.is (gap (signed s a.0) (signed t b.0) (subst T (lt_fraction (fin s m e) (fin t n d) _ _ c C x y) h))) in
    subst (λ (z : Float). T (lt nought z)) (sym (r.rounds ∙ ap (λ (z : Bool). round binary32 z r.size c) w.0))
    (lt_of_lt_of_le nought (Q 1 c) (Q r.size c) (unfold round of_bits lt in tt) (round_mono binary32 1 c r.size c C C (omega (arith, mul-le-mul_right c w.1))))) u v p q f g
  where
    gap : (i j : ℤ) → T (lt_z i j) → T (lt_z (pos 0) (j -ℤ i))
    gap i j h = grind (arith, ints)

-- ---- parts

pub part_in_unit : PartInUnit
unfolding spread
part_in_unit x y k q g h = both_finite (λ x y. T (le nought x) → T (le x y) → T (lt nought y) → InUnit (x ⊘ y))
    (λ s m e t n d g h l.
    let c = down e * down d in
    let C : 0 < c = mul-pos (down_pos e) (down_pos d) in
    let a = m * up e * down d in
    let b = n * up d * down e in
    let X = spread s m e (down d) c refl in
    let Y = spread t n d (down e) c (omega arith) in
    let A : T (le_z (pos 0) (signed s a)) = subst T (le_fraction nought (fin s m e) (pos 0) (signed s a) c C (nought_fraction c) X) g in
    let AB : T (le_z (signed s a) (signed t b)) = subst T (le_fraction (fin s m e) (fin t n d) (signed s a) (signed t b) c C X Y) h in
    let B = positive_parts t b (subst T (lt_fraction nought (fin t n d) (pos 0) (signed t b) c C (nought_fraction c) Y) l) in
    subst InUnit (sym (div_value binary32 (fin s m e) (fin t n d) s t a b c B.1 C X.value Y.value ∙ ap (λ (z : Bool). round binary32 z a b) (like s t B.0)))
    (round_in_unit s a b B.1 (clear s a A) (sizes s t a b A AB))) x y (middle nought x y (unfold of_bits in tt) (within_finite k y q) g h) (within_finite k y q) g h
  where
    like : (s t : Bool) → t ≡ false → unlike s t ≡ s
    like false t e = ap (unlike false) e
    like true t e = ap (unlike true) e

pub rest_in_unit : RestInUnit
rest_in_unit q r = on q (middle nought q unit (unfold of_bits in tt) (unfold of_bits in tt) r.low r.high) r.low r.high
  where
    low : (i j : ℤ) → T (le_z i j) → T (le_z (pos 0) (j -ℤ i))
    low i j h = grind (arith, ints)

    high : (i j : ℤ) → T (le_z (pos 0) i) → T (le_z (j -ℤ i) j)
    high i j h = grind (arith, ints)

    on : (q : Float) → T (finite q) → T (le nought q) → T (le q unit) → InUnit (unit ⊖ q)
    on nan p g h = absurd p
    on (inf s) p g h = absurd p
    on (fin s m e) p g h =
        let c = down e in
        let C = down_pos e in
        let z = signed s (m * up e) in
        let X = own_fraction s m e in
        let A : T (le_z (pos 0) z) = subst T (le_fraction nought (fin s m e) (pos 0) z c C (nought_fraction c) X) g in
        let B : T (le_z z (pos c)) = subst T (le_fraction (fin s m e) unit z (pos c) c C X (unit_fraction c)) h in
        let r = sub_rounded binary32 unit (fin s m e) (pos c) z c C (unit_fraction c) X in
        let L : T (le_z (pos 0) (signed r.sign r.size)) = subst (λ (k : ℤ). T (le_z (pos 0) k)) r.is (low z (pos c) B) in
        let H : T (le_z (signed r.sign r.size) (pos c)) = subst (λ (k : ℤ). T (le_z k (pos c))) r.is (high z (pos c) A) in
        subst InUnit (sym r.rounds) (round_in_unit r.sign r.size c C (clear r.sign r.size L) (sizes r.sign false r.size c L H))
