-- The marks that admitted corners give are numbers from 0 to 1. Assumes nothing.
use Rattle.std.proofs.Common.{◌≡◌, ℕ, ◌*◌, Bool, true, false, cond, not, ◌&&◌, ◌||◌, T, leb, pos, IfSome, Some, None, Option, sym, refl, ◌∙◌, subst, inl, inr, arith, lit<}
use lib.Signed.{lt_z}
use lib.Ieee.{Float, nan, inf, fin, binary32, up, down, lt, le, eq, ne, is_nan, fits, of_bits}
use lib.Ieee.Fits.{down_pos}
use lib.Ieee.Bits.{is_true}
use Rattle.std.specs.Float.{float_with_sign}
use Rattle.std.proofs.lemmas.Int.{ints}
use Rattle.std.proofs.lemmas.Float.{le_trans, le_of_not-lt, T_from_true, T_from_false}
use Rattle.std.proofs.lemmas.Bool.{cases_Bool, cond_both, and_parts, or_parts, both_ways, not-true}
use Rattle.plane.specs.declared.answer.Meet.{Meet}
use Rattle.plane.specs.declared.answer.Meet.TheVariants.{Apart, Crossing}
use Rattle.plane.specs.declared.mark.Mark.{Mark}
use Rattle.plane.specs.declared.mark.Mark.TheVariants.{Start, Inside, End}
use Rattle.plane.specs.Marks.{both, overlap_of}
use Rattle.floats.specs.Operations.{◌⊖◌, ◌⊘◌, nought, unit}
use Rattle.floats.specs.Numbers.{signed}
use Rattle.floats.specs.Bounds.{Within}
use Rattle.floats.specs.Units.{InUnit}
use Rattle.floats.proofs.Order.{le_not_level, eq_turned}
use Rattle.floats.proofs.Fractions.{own_fraction, nought_fraction, eq_fraction, le_fraction}
use Rattle.floats.proofs.Bounds.{difference_bounded, quotient_number}
use Rattle.floats.proofs.Units.{steps_ordered, step_some, part_in_unit, rest_in_unit}
use Rattle.single.specs.declared.corner.Corner.{Corner}
use Rattle.single.specs.declared.corner.Weights.{Weights}
use Rattle.single.specs.Triangle.{orientation_of}
use Rattle.single.specs.Meets.{ulp, is_parallel, classified, is_out, denom_of, num1_of, num2_of, crossing_of, along, between_of, is_level, parallel_of, meet_of}
use Rattle.single.specs.Sane.{AllAdmitted, SaneMark, SaneMeet}
use Rattle.single.proofs.Finite.{WithinCorner, admitted_within, num1_within, num2_within, denom_within}

-- ---- a mark from a number

pub classified_sane : (q : Float) → InUnit q → SaneMark (classified q)
classified_sane q u =
    cond_both (eq q nought) Start (cond (eq q unit) End (Inside (record { before = unit ⊖ q; behind = q }))) SaneMark (λ _. tt)
    (λ s. cond_both (eq q unit) End (Inside (record { before = unit ⊖ q; behind = q })) SaneMark (λ _. tt)
    (λ e. record { above = le_not_level nought q u.low (eq_turned nought q ∙ s); below = le_not_level q unit u.high e; rest = refl; within_unit = rest_in_unit q u }))

-- ---- edges that are not parallel

-- what is level with 0 is small
small : (k : ℕ) (v : Float) → Within k v → eq v nought ≡ true → le (float_with_sign false v) ulp ≡ true
unfolding float_with_sign
small k nan w h = absurd w
small k (inf s) w h = absurd w
small k (fin s m e) w h = is_true (le (fin false m e) ulp) (le_trans (fin false m e) nought ulp low (unfold le of_bits in tt))
  where
    none : (s : Bool) (n : ℕ) → (not (lt_z (signed s n) (pos 0)) && not (lt_z (pos 0) (signed s n))) ≡ true → n ≡ 0
    none false n g = grind (arith, ints)
    none true n g = grind (arith, ints)

    low : T (le (fin false m e) nought)
    low =
        let c = down e in
        let n = m * up e in
        let X = own_fraction s m e in
        let Y = own_fraction false m e in
        let z : n ≡ 0 = none s n (sym (eq_fraction (fin s m e) nought (signed s n) (pos 0) c (down_pos e) X (nought_fraction c)) ∙ h) in
        subst T (sym (le_fraction (fin false m e) nought (pos n) (pos 0) c (down_pos e) Y (nought_fraction c))) (subst (λ (i : ℕ). T (leb i 0)) (sym z) tt)

not_level : (k : ℕ) (v epsilon : Float) → Within k v → is_parallel v epsilon ≡ false → eq v nought ≡ false
not_level k v epsilon w h =
    elim (cases_Bool (eq v nought)) [
      | inl e ↦ absurd (both_ways (le (float_with_sign false v) ulp) (or_parts (lt (float_with_sign false v) epsilon) (le (float_with_sign false v) ulp) h).1 (small k v w e))
      | inr e ↦ e
    ]

within_unit : (q : Float) → is_nan q ≡ false → lt q nought ≡ false → lt unit q ≡ false → InUnit q
within_unit q n l h = record {
  low = le_of_not-lt q nought (T_from_false (is_nan q) n) (unfold is_nan of_bits in tt) (T_from_false (lt q nought) l);
  high = le_of_not-lt unit q (unfold is_nan of_bits in tt) (T_from_false (is_nan q) n) (T_from_false (lt unit q) h);
}

crossing_sane : (s t : Float) → is_nan s ≡ false → is_nan t ≡ false → SaneMeet (crossing_of s t)
crossing_sane s t m n =
    cond_both (is_out s t) Apart (Crossing (classified s) (classified t)) SaneMeet (λ _. tt)
    (λ o.
    let x = or_parts (lt s nought || lt unit s || lt t nought) (lt unit t) o in
    let y = or_parts (lt s nought || lt unit s) (lt t nought) x.0 in
    let z = or_parts (lt s nought) (lt unit s) y.0 in
    (classified_sane s (within_unit s m z.0 z.1), classified_sane t (within_unit t n y.1 x.1)))

-- ---- parallel edges

abbrev SaneFound : Option (Mark Weights) → Type 0
SaneFound o = IfSome o SaneMark

-- the part from u to w of the way from u to v
part_sane : (u w v : Float) → T (fits binary32 u) → T (fits binary32 v) → Within 59 u → Within 59 v → eq u v ≡ false → T (le u w) → T (le w v) → InUnit ((w ⊖ u) ⊘ (v ⊖ u))
part_sane u w v f g U V n p q =
    let s = steps_ordered u w v 59 59 U V p q in
    part_in_unit (w ⊖ u) (v ⊖ u) 60 (difference_bounded v u 59 (lit< tt) V U) s.forth s.short
    (step_some u v f g 59 59 U V (le_not_level u v (le_trans u w v p q) n))

along_sane : (u v w : Float) → T (fits binary32 u) → T (fits binary32 v) → Within 59 u → Within 59 v → eq u v ≡ false → SaneFound (along u v w)
along_sane u v w f g U V n =
    cond_both (le u w && le w v) _ _ SaneFound
    (λ h. let p = and_parts (le u w) (le w v) h in classified_sane _ (part_sane u w v f g U V n (T_from_true _ p.0) (T_from_true _ p.1)))
    (λ _. cond_both (le w u && le v w) _ _ SaneFound
    (λ h. let p = and_parts (le w u) (le v w) h in classified_sane _ (rest_in_unit _ (part_sane v w u g f V U (eq_turned v u ∙ n) (T_from_true _ p.1) (T_from_true _ p.0))))
    (λ _. tt))

-- a corner's numbers are of the format
pub record Fit (c : Corner) : Type 0 where
  pub on_x : fits binary32 c.x ≡ true
  pub on_y : fits binary32 c.y ≡ true

between_sane : (a b c : Corner) → Fit a → Fit b → WithinCorner a → WithinCorner b → SaneFound (between_of a b c)
between_sane a b c f g A B =
    cond_both (ne a.x b.x) _ _ SaneFound
    (λ h. along_sane a.x b.x c.x (T_from_true _ f.on_x) (T_from_true _ g.on_x) A.on_x B.on_x (unfold ne in not-true _ h))
    (λ _. cond_both (ne a.y b.y) _ _ SaneFound
    (λ h. along_sane a.y b.y c.y (T_from_true _ f.on_y) (T_from_true _ g.on_y) A.on_y B.on_y (unfold ne in not-true _ h))
    (λ _. cond_both (eq a.x c.x && eq a.y c.y) (Some Start) None SaneFound (λ _. tt) (λ _. tt)))

both_sane : (p q : Option (Mark Weights)) (f : Mark Weights → Mark Weights → Meet (Mark Weights)) (rest : Meet (Mark Weights)) → SaneFound p → SaneFound q → ((m n : Mark Weights) → SaneMark m → SaneMark n → SaneMeet (f m n)) → SaneMeet rest → SaneMeet (both p q f rest)
both_sane None q f rest P Q F R = R
both_sane (Some m) None f rest P Q F R = R
both_sane (Some m) (Some n) f rest P Q F R = F m n P Q

overlap_sane : (c d a b : Option (Mark Weights)) → SaneFound c → SaneFound d → SaneFound a → SaneFound b → SaneMeet (overlap_of c d a b)
overlap_sane c d a b C D A B =
    both_sane c d _ _ C D (λ m n M N. (M, tt, N, tt))
    (both_sane a b _ _ A B (λ m n M N. (tt, M, tt, N))
    (both_sane c b _ _ C B (λ m n M N. (M, tt, tt, N))
    (both_sane c a _ _ C A (λ m n M N. (M, tt, tt, N))
    (both_sane d b _ _ D B (λ m n M N. (M, tt, tt, N))
    (both_sane d a _ _ D A (λ m n M N. (M, tt, tt, N)) tt)))))

-- ---- any two edges

-- of four corners
pub record AllFit (a b c d : Corner) : Type 0 where
  pub first : Fit a
  pub second : Fit b
  pub third : Fit c
  pub fourth : Fit d

-- what is their meeting is sane
pub meet_sane : (a b c d : Corner) (epsilon : Float) (m : Meet (Mark Weights)) → m ≡ meet_of a b c d epsilon → AllFit a b c d → AllAdmitted a b c d → SaneMeet m
meet_sane a b c d epsilon m e fit all =
    let f = fit.first in
    let g = fit.second in
    let h = fit.third in
    let i = fit.fourth in
    let A = admitted_within a all.first in
    let B = admitted_within b all.second in
    let C = admitted_within c all.third in
    let D = admitted_within d all.fourth in
    let w = denom_within a b c d A B C D in
    subst SaneMeet (sym e)
    (cond_both (is_parallel (denom_of a b c d) epsilon) (parallel_of a b c d epsilon) (crossing_of (num1_of a c d ⊘ denom_of a b c d) (num2_of a b c ⊘ denom_of a b c d)) SaneMeet
    (λ _. cond_both (is_level (orientation_of a b c epsilon)) (overlap_of (between_of a b c) (between_of a b d) (between_of c d a) (between_of c d b)) Apart SaneMeet
    (λ _. overlap_sane (between_of a b c) (between_of a b d) (between_of c d a) (between_of c d b) (between_sane a b c f g A B) (between_sane a b d f g A B) (between_sane c d a h i C D) (between_sane c d b h i C D)) (λ _. tt))
    (λ p. let n = not_level 122 (denom_of a b c d) epsilon w p in
    crossing_sane _ _ (quotient_number (num1_of a c d) (denom_of a b c d) 121 122 (num1_within a c d A C D) w n) (quotient_number (num2_of a b c) (denom_of a b c d) 121 122 (num2_within a b c A B C) w n)))
