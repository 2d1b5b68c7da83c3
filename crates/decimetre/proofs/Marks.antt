-- What a share's mark is: it stands in the ratio that was asked for, and there is one wherever the ratio lies from 0 to 1. Assumes nothing.
use Rattle.std.proofs.Common.{◌≡◌, ℕ, ◌*◌, ◌<◌, ◌≤◌, Bool, true, false, cond, [], ◌∷◌, ℤ, pos, negsuc, ◌*ℤ◌, neg_ℤ, nat_abs, ◌≤ℤ◌, ◌<ℤ◌, Some, None, Option, sym, refl, ap, ◌∙◌, ap₂, mul-le-mul_right, arith, lit≤}
use native.Mathlib.Nat.{le_of_mul-le-mul_left}
use lib.Signed.{lt_z}
use Rattle.std.proofs.lemmas.Int.{ints}
use Rattle.plane.specs.declared.mark.Mark.TheVariants.{Start, Inside, End}
use Rattle.decimetre.specs.Exact.{Mark, portion, share, upper_of, lower_of}
use Rattle.decimetre.proofs.Integers.{*ℤ_negℤ}
use Rattle.decimetre.proofs.Ratios.{third_ratio}
use Rattle.decimetre.proofs.Ring.{var, ◌⊗◌, ⊝◌, ring}

-- the mark m is at u over l
pub record Stands (u l : ℤ) (m : Mark) : Type 0 where
  pub ratio : pos (upper_of m) *ℤ l ≡ u *ℤ pos (lower_of m)
  pub parted : 0 < lower_of m

-- if there is one
abbrev pub StandsIf : ℤ → ℤ → Option Mark → Type 0
StandsIf u l None = Unit {0}
StandsIf u l (Some m) = Stands u l m

positive : (z : ℤ) → pos 0 <ℤ z → pos (nat_abs z) ≡ z
positive z h = omega (arith, ints)

portion_stands : (u l : ℤ) → pos 0 <ℤ l → StandsIf u l (portion u l)
portion_stands u l above = go (lt_z u (pos 0)) (lt_z l u) (lt_z (pos 0) u) (lt_z u l) refl refl refl refl
  where
    go : (p q r s : Bool) → lt_z u (pos 0) ≡ p → lt_z l u ≡ q → lt_z (pos 0) u ≡ r → lt_z u l ≡ s → StandsIf u l (cond p None (cond q None (cond r (cond s (Some (Inside (record { upper = nat_abs u; lower = nat_abs l }))) (Some End)) (Some Start))))
    go true q r s e f g h = tt
    go false true r s e f g h = tt
    go false false true true e f g h = record { ratio = ap₂ ◌*ℤ◌ (positive u (omega (arith, ints))) (sym (positive l above)); parted = omega (arith, ints) }
    go false false true false e f g h = record { ratio = omega (arith, ints); parted = lit≤ tt }
    go false false false s e f g h = record { ratio = omega (arith, ints); parted = lit≤ tt }

stands_negated : (u l : ℤ) (o : Option Mark) → StandsIf (neg_ℤ u) (neg_ℤ l) o → StandsIf u l o
stands_negated u l None h = tt
stands_negated u l (Some m) h = record {
  ratio = ring (pos (upper_of m) ∷ l ∷ []) (var 0 ⊗ var 1) (⊝ (var 0 ⊗ ⊝ var 1)) refl ∙ ap neg_ℤ h.ratio ∙ ring (u ∷ pos (lower_of m) ∷ []) (⊝ (⊝ var 0 ⊗ var 1)) (var 0 ⊗ var 1) refl;
  parted = h.parted;
}

-- the mark of a share stands where the share says
pub share_stands : (u l : ℤ) → (l ≡ pos 0 → ⊥) → StandsIf u l (share u l)
share_stands u l n = go (lt_z l (pos 0)) refl
  where
    go : (t : Bool) → lt_z l (pos 0) ≡ t → StandsIf u l (cond t (portion (neg_ℤ u) (neg_ℤ l)) (portion u l))
    go true e = stands_negated u l (portion (neg_ℤ u) (neg_ℤ l)) (portion_stands (neg_ℤ u) (neg_ℤ l) (omega (arith, ints)))
    go false e = portion_stands u l (omega (arith, ints))

-- there is a mark
abbrev pub IsMark : Option Mark → Type 0
IsMark None = ⊥
IsMark (Some m) = Unit {0}

portion_is : (u l : ℤ) → pos 0 ≤ℤ u → u ≤ℤ l → IsMark (portion u l)
portion_is u l low high = go (lt_z u (pos 0)) (lt_z l u) (lt_z (pos 0) u) (lt_z u l) refl refl
  where
    go : (p q r s : Bool) → lt_z u (pos 0) ≡ p → lt_z l u ≡ q → IsMark (cond p None (cond q None (cond r (cond s (Some (Inside (record { upper = nat_abs u; lower = nat_abs l }))) (Some End)) (Some Start))))
    go true q r s e f = omega (arith, ints)
    go false true r s e f = omega (arith, ints)
    go false false true true e f = tt
    go false false true false e f = tt
    go false false false s e f = tt

-- u over l lies from 0 to 1 where v over m does
between : (u l : ℤ) (v m : ℕ) → pos 0 <ℤ l → v ≤ m → 0 < m → pos v *ℤ l ≡ pos m *ℤ u → (pos 0 ≤ℤ u) × (u ≤ℤ l)
between u (negsuc n) v m above within parted e = absurd (omega (arith, ints))
between (negsuc k) (pos n) v m above within parted e = absurd (omega (arith, ints))
between (pos k) (pos n) v m above within parted e =
    let wide = mul-le-mul_right n within in
    let less = le_of_mul-le-mul_left {m = k} {n = n} {k = m} (omega (arith, ints)) parted in
    (omega (arith, ints), omega (arith, ints))

-- and then its share is a mark
pub share_is : (u l : ℤ) (v m : ℕ) → (l ≡ pos 0 → ⊥) → v ≤ m → 0 < m → pos v *ℤ l ≡ pos m *ℤ u → IsMark (share u l)
share_is u l v m n within parted e = go (lt_z l (pos 0)) refl
  where
    go : (t : Bool) → lt_z l (pos 0) ≡ t → IsMark (cond t (portion (neg_ℤ u) (neg_ℤ l)) (portion u l))
    go true h = let b = between (neg_ℤ u) (neg_ℤ l) v m (omega (arith, ints)) within parted (*ℤ_negℤ (pos v) l ∙ ap neg_ℤ e ∙ sym (*ℤ_negℤ (pos m) u)) in portion_is (neg_ℤ u) (neg_ℤ l) b.0 b.1
    go false h = let b = between u l v m (omega (arith, ints)) within parted e in portion_is u l b.0 b.1

-- a mark at u over l is at v over n where that is the same ratio
pub stands_at : (m : Mark) (v n : ℕ) (u l : ℤ) → (l ≡ pos 0 → ⊥) → Stands u l m → pos v *ℤ l ≡ pos n *ℤ u → upper_of m * n ≡ v * lower_of m
stands_at m v n u l apart h e = ap nat_abs (third_ratio (pos (upper_of m)) (pos (lower_of m)) (pos v) (pos n) u l apart h.ratio e)
