-- A float with its sign turned round. Assumes nothing.
use Rattle.std.proofs.Common.{◌≡◌, ℕ, zero, suc, ◌*◌, ◌^◌, Bool, true, false, cond, not, ◌&&◌, ltb, sym, refl, ap, ◌∙◌, add_comm}
use mathlib.Core.Bool.{not-not}
use lib.Ieee.{Float, Format, nan, inf, fin, prec, low, up, down, odd, units, round, below, neg, lt}
use lib.Ieee.Fits.{round_is}

-- ---- comparisons

below_turned : (s t : Bool) (a b : ℕ) → (below (not s) a t b ≡ below (not t) b s a) × (below s a (not t) b ≡ below t b (not s) a)
below_turned false false a b = (ap (ltb 0) (add_comm a b), refl)
below_turned false true a b = (refl, refl)
below_turned true false a b = (refl, refl)
below_turned true true a b = (refl, ap (ltb 0) (add_comm a b))

inf_turned : (s t : Bool) → ((not s && not t) ≡ (not t && not s)) × ((s && not (not t)) ≡ (t && not (not s)))
inf_turned false false = (refl, refl)
inf_turned false true = (refl, refl)
inf_turned true false = (refl, refl)
inf_turned true true = (refl, refl)

-- x turned round is below y where y turned round is below x, and likewise on the right
pub lt_turned : (x y : Float) → (lt (neg x) y ≡ lt (neg y) x) × (lt x (neg y) ≡ lt y (neg x))
unfolding lt neg
lt_turned nan nan = (refl, refl)
lt_turned nan (inf t) = (refl, refl)
lt_turned nan (fin t n d) = (refl, refl)
lt_turned (inf s) nan = (refl, refl)
lt_turned (fin s m e) nan = (refl, refl)
lt_turned (inf s) (inf t) = inf_turned s t
lt_turned (inf s) (fin t n d) = (refl, sym (not-not s))
lt_turned (fin s m e) (inf t) = (refl, not-not t)
lt_turned (fin s m e) (fin t n d) = below_turned s t (m * up e * down d) (n * up d * down e)

-- ---- rounding: the sign is handed through

odd_turned : (d : ℕ) (s : Bool) (q k l : ℕ) → odd d (not s) q k l ≡ neg (odd d s q k l)
unfolding odd neg
odd_turned d s zero k l = refl
odd_turned d s (suc q) k l = refl

units_turned : (f : Format) (s : Bool) (q k : ℕ) → units f (not s) q k ≡ neg (units f s q k)
unfolding units neg
units_turned f s q k = either (ltb (q * 2 ^ k) _)
  where
    either : (b : Bool) → cond b (odd (suc (prec f)) (not s) q k (low f)) (inf (not s)) ≡ neg (cond b (odd (suc (prec f)) s q k (low f)) (inf s))
    either true = odd_turned (suc (prec f)) s q k (low f)
    either false = refl

pub round_turned : (f : Format) (s : Bool) (a c : ℕ) → round f (not s) a c ≡ neg (round f s a c)
round_turned f s a c = round_is f (not s) a c ∙ units_turned f s _ _ ∙ ap neg (sym (round_is f s a c))
