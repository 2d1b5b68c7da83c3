-- Places on two edges as fractions, compared by cross multiplication. Assumes nothing.
use Rattle.std.proofs.Common.{◌≡◌, ℕ, ◌<◌, [], ◌∷◌, ℤ, pos, ◌+ℤ◌, ◌-ℤ◌, ◌*ℤ◌, sym, refl, ap, ◌∙◌, ap₂, arith}
use lib.IntN.{*ℤ_comm}
use Rattle.std.proofs.lemmas.Int.{ints}
use Rattle.decimetre.proofs.Integers.{no_zero_product, *ℤ_cancel}
use Rattle.decimetre.proofs.Ring.{var, num, ◌⊕◌, ◌⊖◌, ◌⊗◌, ring}

-- the place at u / l from p to q, where u / l is S / D, times D and m
same_ratio : (p q u l m S D : ℤ) → u *ℤ D ≡ S *ℤ l → D *ℤ ((p *ℤ (l -ℤ u) +ℤ q *ℤ u) *ℤ m) ≡ l *ℤ m *ℤ (p *ℤ (D -ℤ S) +ℤ q *ℤ S)
same_ratio p q u l m S D e =
    let env = p ∷ q ∷ u ∷ l ∷ m ∷ S ∷ D ∷ [] in
    let p' = var 0 in
    let q' = var 1 in
    let u' = var 2 in
    let l' = var 3 in
    let m' = var 4 in
    let S' = var 5 in
    let D' = var 6 in
    ring env (D' ⊗ ((p' ⊗ (l' ⊖ u') ⊕ q' ⊗ u') ⊗ m')) ((p' ⊗ (l' ⊗ D' ⊖ u' ⊗ D') ⊕ q' ⊗ (u' ⊗ D')) ⊗ m') refl
    ∙ ap (λ z. (p *ℤ (l *ℤ D -ℤ z) +ℤ q *ℤ z) *ℤ m) e
    ∙ ring env ((p' ⊗ (l' ⊗ D' ⊖ S' ⊗ l') ⊕ q' ⊗ (S' ⊗ l')) ⊗ m') (l' ⊗ m' ⊗ (p' ⊗ (D' ⊖ S') ⊕ q' ⊗ S')) refl

-- the place at u / l from p to q is that at v / m from r to s, where u / l is S / D, v / m is T / D, and it is so of S / D and T / D
pub one_place : (p q r s u l v m S T D : ℤ) → (D ≡ pos 0 → ⊥) → u *ℤ D ≡ S *ℤ l → v *ℤ D ≡ T *ℤ m → p *ℤ (D -ℤ S) +ℤ q *ℤ S ≡ r *ℤ (D -ℤ T) +ℤ s *ℤ T → (p *ℤ (l -ℤ u) +ℤ q *ℤ u) *ℤ m ≡ (r *ℤ (m -ℤ v) +ℤ s *ℤ v) *ℤ l
one_place p q r s u l v m S T D n e f one = *ℤ_cancel D _ _ n (same_ratio p q u l m S D e ∙ ap₂ ◌*ℤ◌ (*ℤ_comm l m) one ∙ sym (same_ratio r s v m l T D f))

-- two ratios that agree with a third agree
pub third_ratio : (u l v m S D : ℤ) → (D ≡ pos 0 → ⊥) → u *ℤ D ≡ S *ℤ l → v *ℤ D ≡ m *ℤ S → u *ℤ m ≡ v *ℤ l
third_ratio u l v m S D n e f =
    let env = u ∷ l ∷ v ∷ m ∷ S ∷ D ∷ [] in
    let u' = var 0 in
    let l' = var 1 in
    let v' = var 2 in
    let m' = var 3 in
    let S' = var 4 in
    let D' = var 5 in
    *ℤ_cancel D (u *ℤ m) (v *ℤ l) n
    (ring env (D' ⊗ (u' ⊗ m')) (u' ⊗ D' ⊗ m') refl ∙ ap (λ z. z *ℤ m) e
    ∙ ring env (S' ⊗ l' ⊗ m') (m' ⊗ S' ⊗ l') refl ∙ ap (λ z. z *ℤ l) (sym f)
    ∙ ring env (v' ⊗ D' ⊗ l') (D' ⊗ (v' ⊗ l')) refl)

-- where p is q and r is s, what is made of their differences is 0
pub vanishes : (k w p q r s e f : ℤ) → (k ≡ pos 0 → ⊥) → p ≡ q → r ≡ s → k *ℤ w ≡ (r -ℤ s) *ℤ e -ℤ (p -ℤ q) *ℤ f → w ≡ pos 0
vanishes k w p q r s e f n h g is =
    no_zero_product k w n
    (is ∙ ap₂ (λ y z. (y -ℤ s) *ℤ e -ℤ (z -ℤ q) *ℤ f) g h
    ∙ ring (q ∷ s ∷ e ∷ f ∷ []) ((var 1 ⊖ var 1) ⊗ var 2 ⊖ (var 0 ⊖ var 0) ⊗ var 3) (num (pos 0)) refl)

pub above_zero : {n : ℕ} → 0 < n → pos n ≡ pos 0 → ⊥
above_zero {n} h e = omega (arith, ints)

pub equal_of : (p q : ℤ) → p -ℤ q ≡ pos 0 → p ≡ q
equal_of p q e = omega (arith, ints)
