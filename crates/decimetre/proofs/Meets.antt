-- When a side is level. Assumes nothing.
use Rattle.std.proofs.Common.{◌≡◌, zero, suc, Bool, true, false, cond, eqb, ℤ, pos, negsuc, nat_abs, refl, ◌∙◌, arith}
use Rattle.std.proofs.lemmas.Int.{ints}
use Rattle.std.proofs.lemmas.Bool.{cond-true}
use Rattle.plane.specs.declared.answer.Side.{Side}
use Rattle.plane.specs.declared.answer.Side.TheVariants.{Level}
use Rattle.decimetre.specs.declared.corner.Corner.{Corner}
use Rattle.decimetre.specs.Exact.{area2, side_of, side_at, near3}

-- exactly where the product is 0
level : (z : ℤ) (x : Bool) → cond x (side_of z ≡ Level) (side_of z ≡ Level → ⊥) → eqb (nat_abs z) 0 ≡ x
level (pos zero) true h = refl
level (pos zero) false h = absurd (h refl)
level (pos (suc n)) true h = grind (arith, ints)
level (pos (suc n)) false h = grind (arith, ints)
level (negsuc n) true h = grind (arith, ints)
level (negsuc n) false h = grind (arith, ints)

pub level_at : (a b c : Corner) (x : Bool) (r : Side) → near3 a b c ≡ true → r ≡ side_at a b c → cond x (r ≡ Level) (r ≡ Level → ⊥) → eqb (nat_abs (area2 a b c)) 0 ≡ x
level_at a b c x r near is h =
    let e : r ≡ side_of (area2 a b c) = is ∙ cond-true (near3 a b c) (side_of (area2 a b c)) Level near in
    level (area2 a b c) x (rw e at h)
