-- A round of the inside test, by the tests of the code. Assumes nothing.
use Rattle.std.proofs.Common.{◌≡◌, Bool, true, false, cond, not, ℤ, pos, ◌-ℤ◌, sym, refl, ap, ◌∙◌, arith}
use lib.Signed.{lt_z, le_z}
use Rattle.std.proofs.lemmas.Int.{ints}
use Rattle.decimetre.specs.declared.corner.Corner.{Corner}
use Rattle.decimetre.specs.Exact.{perp, passed_of}

-- p is below a where what leads from a to p is below 0
below : (p a : ℤ) → lt_z p a ≡ not (le_z (pos 0) (p -ℤ a))
below p a = grind (arith, ints)

cond_not : {X : Type 0} (s : Bool) (x y : X) → cond s x y ≡ cond (not s) y x
cond_not true x y = refl
cond_not false x y = refl

-- what the code answers, by the numbers that it reads
pub passed_is : (p a b : Corner) (starts ends : Bool) (z : ℤ) → starts ≡ le_z (pos 0) (p.y -ℤ a.y) → ends ≡ lt_z p.y b.y → z ≡ perp p a b → cond starts (cond ends (lt_z z (pos 0)) false) (cond ends false (lt_z (pos 0) z)) ≡ passed_of p a b
passed_is p a b starts ends z from past is =
    let on = cond (lt_z p.y b.y) (lt_z (perp p a b) (pos 0)) false in
    let off = cond (lt_z p.y b.y) false (lt_z (pos 0) (perp p a b)) in
    rw (from, past, is) (cond_not (le_z (pos 0) (p.y -ℤ a.y)) on off ∙ ap (λ s. cond s off on) (sym (below p.y a.y)))
