-- Whole edges that are not parallel: whether and where they cross is decided exactly. Assumes nothing.
use Rattle.std.proofs.Common.{◌≡◌, ℕ, ◌+◌, ◌^◌, ◌<◌, Bool, true, false, cond, ◌||◌, T, ℤ, pos, ◌-ℤ◌, ◌*ℤ◌, nat_abs, sym, refl, ap, ◌∙◌, subst, arith, inl, inr, eq-zero-or-pos, lit≤, le→leb}
use lib.Ieee.{Float, nan, inf, fin, lt, le, of_bits}
use mathlib.Core.Bool.{or_assoc}
use lib.Ieee.Bits.{is_true}
use lib.Ieee.Exact.{HasValue}
use Rattle.std.specs.Float.{float_with_sign}
use Rattle.std.proofs.lemmas.Float.{le_trans, le_of_lt}
use Rattle.std.proofs.lemmas.Bool.{eq-eqb, ne_eqb, or_from, or_right}
use Rattle.plane.specs.declared.answer.Meet.TheVariants.{Apart, Crossing}
use Rattle.plane.specs.declared.mark.Mark.{Mark}
use Rattle.floats.specs.Operations.{nought, unit, ◌⊖◌, ◌⊗◌, ◌⊘◌}
use Rattle.floats.specs.Numbers.{IsWhole}
use Rattle.floats.specs.Quotients.{Placed}
use Rattle.floats.proofs.Fractions.{signed-size}
use Rattle.floats.proofs.Order.{never_both, not_below, test_fails}
use Rattle.floats.proofs.Whole.{compared, nought_whole, unit_whole}
use Rattle.floats.proofs.Quotients as quotients
use Rattle.single.specs.declared.corner.Corner.{Corner}
use Rattle.single.specs.declared.corner.Weights.{Weights}
use Rattle.single.specs.Meets.{ulp, is_parallel, denom_of, num_of, num1_of, num2_of, is_out, classified, crossing_of, parallel_of}
use Rattle.whole.specs.Spots.{Spot, denom_z, num_z, num1_z, num2_z}
use Rattle.whole.specs.Exact.{WholeCorner, is_apart, ExactParallel, ExactCrossing}
use Rattle.whole.proofs.Sizes.{Near, plus, less, times, turned}
use Rattle.whole.proofs.Sides.{corner}

-- ---- D, S and T

-- a coordinate times a difference of two
term : (x u v : Float) (i j k : ℤ) → Near x i 1024 → Near u j 1024 → Near v k 1024 → Near (x ⊗ (u ⊖ v)) (i *ℤ (j -ℤ k)) (2 ^ 21)
term x u v i j k p q r = times _ _ _ _ 1024 2048 p (less _ _ _ _ 1024 1024 q r (lit≤ tt)) (lit≤ tt)

module _ (a b c d : Corner) (i j k l : Spot) (A : WholeCorner a i) (B : WholeCorner b j) (C : WholeCorner c k) (D : WholeCorner d l) where
  pub denom-near : Near (denom_of a b c d) (denom_z i j k l) (2 ^ 23)
  denom-near =
      let p = corner a i A in
      let q = corner b j B in
      let r = corner c k C in
      let s = corner d l D in
      plus _ _ _ _ (2 ^ 21 + 2 ^ 21 + 2 ^ 21) (2 ^ 21)
      (plus _ _ _ _ (2 ^ 21 + 2 ^ 21) (2 ^ 21)
      (plus _ _ _ _ (2 ^ 21) (2 ^ 21)
      (term _ _ _ _ _ _ p.on_x s.on_y r.on_y)
      (term _ _ _ _ _ _ q.on_x r.on_y s.on_y) (lit≤ tt))
      (term _ _ _ _ _ _ s.on_x q.on_y p.on_y) (lit≤ tt))
      (term _ _ _ _ _ _ r.on_x p.on_y q.on_y) (lit≤ tt)

num_near : (p q r : Corner) (i j k : Spot) → WholeCorner p i → WholeCorner q j → WholeCorner r k → Near (num_of p q r) (num_z i j k) (2 ^ 21 + 2 ^ 21 + 2 ^ 21)
num_near p q r i j k P Q R =
    let u = corner p i P in
    let v = corner q j Q in
    let w = corner r k R in
    plus _ _ _ _ (2 ^ 21 + 2 ^ 21) (2 ^ 21)
    (plus _ _ _ _ (2 ^ 21) (2 ^ 21)
    (term _ _ _ _ _ _ u.on_x w.on_y v.on_y)
    (term _ _ _ _ _ _ v.on_x u.on_y w.on_y) (lit≤ tt))
    (term _ _ _ _ _ _ w.on_x v.on_y u.on_y) (lit≤ tt)

-- ---- only 0 counts as the D of parallel edges

size-value : (x : Float) (s : Bool) (a c : ℕ) → HasValue x s a c → HasValue (float_with_sign false x) false a c
unfolding float_with_sign
size-value nan s a c p = p
size-value (inf t) s a c p = p
size-value (fin t m e) s a c p = (refl, p.1)

size_whole : (x : Float) (z : ℤ) → IsWhole x z → IsWhole (float_with_sign false x) (pos (nat_abs z))
size_whole x z p = record {
  sign = false;
  size = p.size;
  value = size-value x p.sign p.size 1 p.value;
  is = ap pos (ap nat_abs p.is ∙ signed-size p.sign p.size);
}

pub exact_parallel : ExactParallel
exact_parallel epsilon e v z p =
    let w = float_with_sign false v in
    let q = size_whole v z p in
    elim (eq-zero-or-pos (nat_abs z)) [
      | inl n ↦
          let k : T (le w nought) = subst T (sym (compared w nought (pos (nat_abs z)) (pos 0) q nought_whole).up_to) (le→leb (nat_abs z) 0 (omega (arith, n))) in
          or_right (lt w epsilon) (le w ulp) (is_true (le w ulp) (le_trans w nought ulp k (unfold le of_bits in tt))) ∙ sym (eq-eqb (nat_abs z) 0 n)
      | inr n ↦
          let k : T (le unit w) = subst T (sym (compared unit w (pos 1) (pos (nat_abs z)) unit_whole q).up_to) (le→leb 1 (nat_abs z) n) in
          or_from (lt w epsilon) (le w ulp)
          (not_below w epsilon (le_trans epsilon unit w (le_of_lt epsilon unit e.1) k))
          (test_fails (le w ulp) (λ t. never_both ulp unit (unfold lt of_bits in tt) (le_trans unit w ulp k t)))
          ∙ sym (ne_eqb (nat_abs z) 0 (λ h. omega (arith, n, h)))
    ]

-- ---- s and t

module _ (a b c d : Corner) (i j k l : Spot) (A : WholeCorner a i) (B : WholeCorner b j) (C : WholeCorner c k) (D : WholeCorner d l) (h : 0 < nat_abs (denom_z i j k l)) where
  pub s_placed : Placed (num1_of a c d ⊘ denom_of a b c d) (num1_z i k l) (denom_z i j k l)
  s_placed = let n = denom-near a b c d i j k l A B C D in quotients.placed _ _ _ _ (num_near a c d i k l A C D).whole n.whole h n.near

  pub t_placed : Placed (num2_of a b c ⊘ denom_of a b c d) (num2_z i j k) (denom_z i j k l)
  t_placed = let n = denom-near a b c d i j k l A B C D in quotients.placed _ _ _ _ (turned _ _ _ (num_near a b c i j k A B C)).whole n.whole h n.near

pub exact_crossing : ExactCrossing
exact_crossing epsilon e a b c d i j k l A B C D h =
    let s = num1_of a c d ⊘ denom_of a b c d in
    let t = num2_of a b c ⊘ denom_of a b c d in
    let flat : is_parallel (denom_of a b c d) epsilon ≡ false =
    exact_parallel epsilon e _ _ (denom-near a b c d i j k l A B C D).whole ∙ ne_eqb (nat_abs (denom_z i j k l)) 0 (λ z. omega (arith, h, z)) in
    ap (λ (f : Bool). is_apart (cond f (parallel_of a b c d epsilon) (crossing_of s t))) flat
    ∙ apart (is_out s t) (classified s) (classified t)
    ∙ or_assoc (lt s nought || lt unit s) (lt t nought) (lt unit t)
    ∙ (λ u. (s_placed a b c d i j k l A B C D h).out u || (t_placed a b c d i j k l A B C D h).out u)
  where
    apart : (o : Bool) (m n : Mark Weights) → is_apart (cond o Apart (Crossing m n)) ≡ o
    apart true m n = refl
    apart false m n = refl
