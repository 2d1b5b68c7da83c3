-- Sides, directions and a round of the inside test on whole corners. Assumes nothing.
use Rattle.std.proofs.Common.{◌≡◌, ℕ, ◌+◌, ◌^◌, ◌≤◌, cond, not, ◌&&◌, T, ℤ, pos, ◌-ℤ◌, neg_ℤ, sym, ◌∙◌, subst, inl, inr, arith, lit≤}
use lib.IntN.{+ℤ_idr}
use lib.Signed.{lt_z, le_z}
use lib.Ieee.Bits.{is_true}
use lib.Ieee.{Float, neg, lt, le, of_bits}
use Rattle.std.proofs.lemmas.Float.{le_trans, lt_of_lt_of_le, T_from_true, T_from_false}
use Rattle.std.proofs.lemmas.Bool.{cases_Bool}
use Rattle.std.proofs.lemmas.Int.{ints}
use Rattle.plane.specs.declared.answer.Side.TheVariants.{Left, Right, Level}
use Rattle.floats.specs.Operations.{nought, unit}
use Rattle.floats.specs.Numbers.{IsWhole}
use Rattle.floats.proofs.Order.{not_below}
use Rattle.floats.proofs.Turned.{lt_turned}
use Rattle.floats.proofs.Whole.{negation_whole, compared, nought_whole, unit_whole}
use Rattle.single.specs.declared.corner.Corner.{Corner}
use Rattle.single.specs.Vectors.{origin, minus, perp_dot, dot_of}
use Rattle.single.specs.Triangle.{side_of}
use Rattle.whole.specs.Spots.{Spot, minus_z, perp_z, dot_z, area_z, side_z}
use Rattle.whole.specs.Exact.{near, WholeCorner, WalkSlight, ExactSide, ExactTurn, ExactAgainst, ExactPassed}
use Rattle.whole.proofs.Sizes.{Near, plus, less, times}

-- ---- vectors

-- a vector at whole numbers, within n
pub record NearVector (u : Corner) (z : Spot) (n : ℕ) : Type 0 where
  pub on_x : Near u.x z.x n
  pub on_y : Near u.y z.y n

pub corner : (c : Corner) (z : Spot) → WholeCorner c z → NearVector c z near
corner c z w = record { on_x = record { whole = w.x_whole; near = w.x_near }; on_y = record { whole = w.y_whole; near = w.y_near } }

pub minus-near : (u v : Corner) (z w : Spot) (m n : ℕ) → NearVector u z m → NearVector v w n → m + n ≤ 2 ^ 24 → NearVector (minus u v) (minus_z z w) (m + n)
minus-near u v z w m n p q h = record { on_x = less _ _ _ _ m n p.on_x q.on_x h; on_y = less _ _ _ _ m n p.on_y q.on_y h }

-- between two corners
pub gap : (a b : Corner) (i j : Spot) → WholeCorner a i → WholeCorner b j → NearVector (minus b a) (minus_z j i) 2048
gap a b i j A B = minus-near b a j i near near (corner b j B) (corner a i A) (lit≤ tt)

-- products of two such
module _ (u v : Corner) (z w : Spot) (p : NearVector u z 2048) (q : NearVector v w 2048) where
  pub perp_whole : IsWhole (perp_dot u v) (perp_z z w)
  perp_whole = (less _ _ _ _ (2 ^ 22) (2 ^ 22) (times _ _ _ _ 2048 2048 p.on_x q.on_y (lit≤ tt)) (times _ _ _ _ 2048 2048 p.on_y q.on_x (lit≤ tt)) (lit≤ tt)).whole

  dot_whole : IsWhole (dot_of u v) (dot_z z w)
  dot_whole = (plus _ _ _ _ (2 ^ 22) (2 ^ 22) (times _ _ _ _ 2048 2048 p.on_x q.on_x (lit≤ tt)) (times _ _ _ _ 2048 2048 p.on_y q.on_y (lit≤ tt)) (lit≤ tt)).whole

-- ---- a tolerance from 0 to below 1 changes no comparison of a whole number with 0

above_is : (z : ℤ) → lt_z (pos 0) z ≡ le_z (pos 1) z
above_is z = grind (arith, ints)

rest_is : (z : ℤ) → T (not (lt_z (pos 0) z)) → T (le_z z (pos 0))
rest_is z h = grind (arith, ints)

turned_is : (z : ℤ) → lt_z (pos 0) (neg_ℤ z) ≡ lt_z z (pos 0)
turned_is z = grind (arith, ints)

module _ (epsilon : Float) (low : T (le nought epsilon)) (high : T (lt epsilon unit)) where
  above : (v : Float) (z : ℤ) → IsWhole v z → lt epsilon v ≡ lt_z (pos 0) z
  above v z p = elim (cases_Bool (lt_z (pos 0) z)) [
    | inl t ↦ is_true (lt epsilon v) (lt_of_lt_of_le epsilon unit v high (subst T (above_is z ∙ sym (compared unit v (pos 1) z unit_whole p).up_to) (T_from_true _ t))) ∙ sym t
    | inr n ↦ not_below epsilon v (le_trans v nought epsilon (subst T (sym (compared v nought z (pos 0) p nought_whole).up_to) (rest_is z (T_from_false _ n))) low) ∙ sym n
  ]

  below : (v : Float) (z : ℤ) → IsWhole v z → lt v (neg epsilon) ≡ lt_z z (pos 0)
  below v z p = (lt_turned v epsilon).1 ∙ above (neg v) (neg_ℤ z) (negation_whole v z p) ∙ turned_is z

  pub side_slight : (v : Float) (z : ℤ) → IsWhole v z → side_of v epsilon ≡ side_z z
  side_slight v z p = λ i. cond (above v z p i) Left (cond (below v z p i) Right Level)

-- ---- the theorems

pub walk_slight : WalkSlight
unfolding le lt of_bits
walk_slight = (tt, tt)

pub exact_side : ExactSide
exact_side epsilon e a b c i j k A B C = side_slight epsilon e.0 e.1 _ (area_z i j k) (perp_whole _ _ _ _ (gap a b i j A B) (gap a c i k A C))

pub exact_turn : ExactTurn
exact_turn epsilon e a b c d i j k l A B C D =
    side_slight epsilon e.0 e.1 _ _ (perp_whole _ _ _ _ (from_origin _ _ (gap a b i j A B)) (from_origin _ _ (gap c d k l C D)))
    ∙ (λ t. side_z (perp_z (same (minus_z j i) t) (same (minus_z l k) t)))
  where
    from_origin : (u : Corner) (z : Spot) → NearVector u z 2048 → NearVector (minus u origin) (record { x = z.x -ℤ pos 0; y = z.y -ℤ pos 0 }) 2048
    from_origin u z p =
        let o : Near nought (pos 0) 0 = record { whole = nought_whole; near = lit≤ tt } in
        record { on_x = less _ _ _ _ 2048 0 p.on_x o (lit≤ tt); on_y = less _ _ _ _ 2048 0 p.on_y o (lit≤ tt) }

    same : (z : Spot) → ◌≡◌ {A = Spot} (record { x = z.x -ℤ pos 0; y = z.y -ℤ pos 0 }) z
    same z = λ t. record { x = +ℤ_idr z.x t; y = +ℤ_idr z.y t }

pub exact_against : ExactAgainst
exact_against a b c d i j k l A B C D = (compared _ nought _ (pos 0) (dot_whole _ _ _ _ (gap a b i j A B) (gap c d k l C D)) nought_whole).below

pub exact_passed : ExactPassed
exact_passed p a b i j k P A B =
    let u = gap a p j i A P in
    let w = perp_whole _ _ _ _ u (gap a b j k A B) in
    let from : le nought (minus p a).y ≡ le_z j.y i.y = (compared nought _ (pos 0) _ nought_whole u.on_y.whole).up_to ∙ from_nought i.y j.y in
    let up : lt p.y b.y ≡ lt_z i.y k.y = (compared _ _ _ _ P.y_whole B.y_whole).below in
    let right = (compared _ nought _ (pos 0) w nought_whole).below in
    let left = (compared nought _ (pos 0) _ nought_whole w).below in
    λ t. cond (from t) (up t && right t) (not (up t) && left t)
  where
    from_nought : (z w : ℤ) → le_z (pos 0) (z -ℤ w) ≡ le_z w z
    from_nought z w = grind (arith, ints)
