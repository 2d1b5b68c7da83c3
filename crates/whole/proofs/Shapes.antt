-- Whole edges meet as they do exactly. Assumes nothing.
use Rattle.std.proofs.Common.{◌≡◌, ℕ, ◌<◌, Bool, true, false, cond, ◌||◌, eqb, ℤ, nat_abs, Some, None, Option, refl, ap, ◌∙◌, arith}
use mathlib.Core.Bool.{or_assoc}
use lib.Ieee.{Float, lt}
use Rattle.std.proofs.lemmas.Bool.Decides.{nat_tests}
use Rattle.plane.specs.declared.answer.Meet.{Meet}
use Rattle.plane.specs.declared.answer.Meet.TheVariants.{Apart, Crossing}
use Rattle.plane.specs.declared.mark.Mark.{Mark}
use Rattle.plane.specs.declared.mark.Mark.TheVariants.{Start, Inside, End}
use Rattle.plane.specs.Marks.{both, overlap_of}
use Rattle.floats.specs.Operations.{nought, unit, ◌⊘◌}
use Rattle.floats.specs.Quotients.{outside_z, Placed}
use Rattle.single.specs.declared.corner.Corner.{Corner}
use Rattle.single.specs.declared.corner.Weights.{Weights}
use Rattle.single.specs.Triangle.{orientation_of}
use Rattle.single.specs.Meets.{denom_of, num1_of, num2_of, is_level, is_out, classified, crossing_of, parallel_of, between_of}
use Rattle.whole.specs.Spots.{Spot, area_z, side_z, Place, place_z, denom_z, num1_z, num2_z, crossing_z, parallel_z}
use Rattle.whole.specs.Exact.{WholeCorner, Slight, place_of, found_at, shape_of, ExactMeet}
use Rattle.whole.proofs.Sides.{exact_side}
use Rattle.whole.proofs.Meets.{denom-near, exact_parallel, s_placed, t_placed}
use Rattle.whole.proofs.Between.{mark_place, exact_between}

shape_cond : (b : Bool) (m n : Meet (Mark Weights)) → shape_of (cond b m n) ≡ cond b (shape_of m) (shape_of n)
shape_cond true m n = refl
shape_cond false m n = refl

-- ---- parallel edges

both_shape : (p q : Option (Mark Weights)) (f : Mark Weights → Mark Weights → Meet (Mark Weights)) (s : Place → Place → Meet Place) (rest : Meet (Mark Weights)) (r : Meet Place)
    → ((m n : Mark Weights) → shape_of (f m n) ≡ s (place_of m) (place_of n)) → shape_of rest ≡ r → shape_of (both p q f rest) ≡ both (found_at p) (found_at q) s r
both_shape None q f s rest r h e = e
both_shape (Some m) None f s rest r h e = e
both_shape (Some m) (Some n) f s rest r h e = h m n

overlap_shape : (c d a b : Option (Mark Weights)) → shape_of (overlap_of c d a b) ≡ overlap_of (found_at c) (found_at d) (found_at a) (found_at b)
overlap_shape c d a b =
    both_shape c d _ _ _ _ (λ _ _. refl)
    (both_shape a b _ _ _ _ (λ _ _. refl)
    (both_shape c b _ _ _ _ (λ _ _. refl)
    (both_shape c a _ _ _ _ (λ _ _. refl)
    (both_shape d b _ _ _ _ (λ _ _. refl)
    (both_shape d a _ _ _ _ (λ _ _. refl) refl)))))

parallel_shape : (epsilon : Float) → Slight epsilon → (a b c d : Corner) (i j k l : Spot) → WholeCorner a i → WholeCorner b j → WholeCorner c k → WholeCorner d l
    → shape_of (parallel_of a b c d epsilon) ≡ parallel_z i j k l
parallel_shape epsilon e a b c d i j k l A B C D =
    shape_cond (is_level (orientation_of a b c epsilon)) (overlap_of (between_of a b c) (between_of a b d) (between_of c d a) (between_of c d b)) Apart
    ∙ (λ t. cond (is_level (exact_side epsilon e a b c i j k A B C t)) (overlap_shape (between_of a b c) (between_of a b d) (between_of c d a) (between_of c d b) t) Apart)
    ∙ ap (λ (s : Meet Place). cond (is_level (side_z (area_z i j k))) s Apart)
    (λ t. overlap_of (exact_between a b c i j k A B C t) (exact_between a b d i j l A B D t) (exact_between c d a k l i C D A t) (exact_between c d b k l j C D B t))

-- ---- edges that are not parallel

crossed : (o u : Bool) (p q : Place) → cond (o || u) Apart (Crossing p q) ≡ crossing_z (cond o None (Some p)) (cond u None (Some q))
crossed true u p q = refl
crossed false true p q = refl
crossed false false p q = refl

crossing_shape : (s t : Float) (i j w : ℤ) → Placed s i w → Placed t j w → shape_of (crossing_of s t) ≡ crossing_z (place_z i w) (place_z j w)
crossing_shape s t i j w p q =
    shape_cond (is_out s t) Apart (Crossing (classified s) (classified t))
    ∙ (λ k. cond (or_assoc (lt s nought || lt unit s) (lt t nought) (lt unit t) k) Apart (Crossing (mark_place s k) (mark_place t k)))
    ∙ (λ k. cond (p.out k || q.out k) Apart (Crossing (cond (p.start k) Start (cond (p.end k) End (Inside tt))) (cond (q.start k) Start (cond (q.end k) End (Inside tt)))))
    ∙ crossed (outside_z i w) (outside_z j w) _ _

-- ---- both

either : (b : Bool) (p p' q q' : Meet Place) → p ≡ p' → (b ≡ false → q ≡ q') → cond b p q ≡ cond b p' q'
either true p p' q q' f g = f
either false p p' q q' f g = g refl

positive : (m : ℕ) → eqb m 0 ≡ false → 0 < m
positive m e = grind (arith, nat_tests)

pub exact_meet : ExactMeet
exact_meet epsilon e a b c d i j k l A B C D =
    let w = denom_z i j k l in
    let s = num1_of a c d ⊘ denom_of a b c d in
    let t = num2_of a b c ⊘ denom_of a b c d in
    ap (λ (z : Bool). shape_of (cond z (parallel_of a b c d epsilon) (crossing_of s t))) (exact_parallel epsilon e (denom_of a b c d) w (denom-near a b c d i j k l A B C D).whole)
    ∙ shape_cond (eqb (nat_abs w) 0) (parallel_of a b c d epsilon) (crossing_of s t)
    ∙ either (eqb (nat_abs w) 0) _ _ _ _ (parallel_shape epsilon e a b c d i j k l A B C D)
    (λ z. let h = positive (nat_abs w) z in crossing_shape s t (num1_z i k l) (num2_z i j k) w (s_placed a b c d i j k l A B C D h) (t_placed a b c d i j k l A B C D h))
