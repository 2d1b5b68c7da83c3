-- The examples stand: their charts pass the test of a sound chart, and what is answered and handed over there is computed.
use Rattle.std.proofs.Common.{◌≡◌, ℕ, zero, suc, [], sym, refl, ap, ◌∙◌, subst, inl, inr, arith}
use lib.ListN.{get_or-eq_default}
use Rattle.plane.specs.declared.ring.Ring.{Ring}
use Rattle.plane.specs.declared.ring.Ring.TheVariants.{One, Two}
use Rattle.rules.specs.declared.event.Event.TheVariants.{Crossing, Corner, Closing}
use Rattle.rules.specs.Chart.{Chart, Sound, Place, corner, crossing, next, Reaches, at_once, past_a_corner, Alternate}
use Rattle.rules.specs.Promise.{Needs}
use Rattle.rules.specs.Example.{star, StarStands, reversed_star, reversed_after, ReversedStarStands, squares, SquaresStand, nested, NestedStand, ExamplesStand}
use Rattle.rules.proofs.SoundByTest.{sound_by_test}

-- what is reached from a place is read off the next place

reached_here : (c : Chart) {p : Place} {y : ℕ} {r : Ring} (z : ℕ) (q : Ring) → next c p ≡ crossing z q → Reaches c p y r → y ≡ z
reached_here c z q e (at_once d) = cc
reached_here c z q e (past_a_corner d h) = cc

reached_on : (c : Chart) {p : Place} {y : ℕ} {r : Ring} (s : Ring) (i : ℕ) → next c p ≡ corner s i → Reaches c p y r → Reaches c (corner s i) y r
reached_on c s i e (at_once d) = cc
reached_on c {y = y} {r = r} s i e (past_a_corner d h) = subst (λ p. Reaches c p y r) (sym d ∙ e) h

-- the star

star_sound : Sound star
star_sound = grind arith

star_alternates : Alternate star
star_alternates zero y r h k = ap star.leaving (reached_here star 1 Two refl k)
star_alternates (suc zero) y r h k = ap star.leaving (reached_here star 3 One refl k)
star_alternates (suc (suc zero)) y r h k = ap star.leaving (reached_here star 4 One refl k)
star_alternates (suc (suc (suc zero))) y r h k = ap star.leaving (reached_here star 2 Two refl k)
star_alternates (suc (suc (suc (suc zero)))) y r h k = ap star.leaving (reached_here star 5 Two refl k)
star_alternates (suc (suc (suc (suc (suc zero))))) y r h k = ap star.leaving (reached_here star 0 One refl k)
star_alternates (suc (suc (suc (suc (suc (suc x)))))) y r h k = absurd (omega arith)

star_stands : StarStands
star_stands = record {
  sound = star_sound;
  alternate = star_alternates;
  answers = refl;
  all_taken = refl;
  one_loop = refl;
  tallied = refl;
  from_two = refl;
  choice_dropped = refl;
}

-- the star with both rings reversed

thirteen : Needs reversed_star reversed_after.walk 13
thirteen = (3, refl, (Crossing 5 2 1, refl, inr ((λ q. cc), (Corner One 0, refl, inr ((λ q. cc), (Closing, refl, inl (refl, refl)))))))

reversed_star_stands : ReversedStarStands
reversed_star_stands = record {
  sound = sound_by_test reversed_star refl refl (λ r e k. get_or-eq_default _ [] k);
  answers = refl;
  ten = refl;
  thirteen = thirteen;
  too_long = (13, thirteen, omega arith, refl);
}

-- two squares

squares_alternate : Alternate squares
squares_alternate zero y r h k = ap squares.leaving (reached_here squares 1 Two refl (reached_on squares One 2 refl k))
squares_alternate (suc zero) y r h k = ap squares.leaving (reached_here squares 0 One refl (reached_on squares Two 0 refl k))
squares_alternate (suc (suc x)) y r h k = absurd (omega arith)

squares_stand : SquaresStand
squares_stand = record {
  sound = sound_by_test squares refl refl (λ r e k. get_or-eq_default _ [] k);
  alternate = squares_alternate;
  answers = refl;
  ends = refl;
  one_loop = refl;
}

-- a triangle inside another

nested_stand : NestedStand
nested_stand = record {
  sound = sound_by_test nested refl refl (λ r e k. get_or-eq_default _ [] k);
  alternate = λ x y r h k. absurd (omega arith);
  answers = refl;
  one_loop = refl;
}

pub examples_stand : ExamplesStand
examples_stand = record { inwards = star_stands; outwards = reversed_star_stands; overlapping = squares_stand; inside = nested_stand }
