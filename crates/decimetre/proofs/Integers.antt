-- Laws of the product of integers: it is associative, distributes over sums, and cancels. Assumes nothing.
use Rattle.std.proofs.Common.{◌≡◌, zero, suc, ◌*◌, ℤ, pos, negsuc, ◌+ℤ◌, ◌-ℤ◌, ◌*ℤ◌, neg_ℤ, refl, ap, ◌∙◌, arith}
use Rattle.std.proofs.lemmas.Int.{ints}
use borrow.Author.Differences.{up, down, same_in, sum_is_lem, neg_is, product_is}

pub *ℤ_distrib : (a b c : ℤ) → a *ℤ (b +ℤ c) ≡ a *ℤ b +ℤ a *ℤ c
*ℤ_distrib a b c =
    let above = ap (λ x. up a * x) (sum_is_lem b c) in
    let below = ap (λ x. down a * x) (sum_is_lem b c) in
    same_in _ _ (omega (arith, sum_is_lem, product_is))

pub *ℤ_assoc : (a b c : ℤ) → a *ℤ b *ℤ c ≡ a *ℤ (b *ℤ c)
*ℤ_assoc a b c =
    let p = product_is a b in
    let q = product_is b c in
    let l1 = ap (λ x. x * up c) p.0 in
    let l2 = ap (λ x. x * down c) p.0 in
    let l3 = ap (λ x. x * up c) p.1 in
    let l4 = ap (λ x. x * down c) p.1 in
    let r1 = ap (λ x. up a * x) q.0 in
    let r2 = ap (λ x. down a * x) q.0 in
    let r3 = ap (λ x. up a * x) q.1 in
    let r4 = ap (λ x. down a * x) q.1 in
    same_in _ _ (omega (arith, product_is))

pub *ℤ_negℤ : (a b : ℤ) → a *ℤ neg_ℤ b ≡ neg_ℤ (a *ℤ b)
*ℤ_negℤ a b =
    let n = neg_is b in
    let r1 = ap (λ x. up a * x) n.0 in
    let r2 = ap (λ x. down a * x) n.0 in
    let r3 = ap (λ x. up a * x) n.1 in
    let r4 = ap (λ x. down a * x) n.1 in
    same_in _ _ (omega (arith, product_is, neg_is))

-- a factor other than 0 cancels
pub no_zero_product : (k z : ℤ) → (k ≡ pos 0 → ⊥) → k *ℤ z ≡ pos 0 → z ≡ pos 0
no_zero_product (pos zero) z n e = absurd (n refl)
no_zero_product (pos (suc k)) (pos z) n e = ap pos (omega (arith, ints))
no_zero_product (pos (suc k)) (negsuc z) n e = absurd (omega (arith, ints))
no_zero_product (negsuc k) (pos z) n e = ap pos (omega (arith, ints))
no_zero_product (negsuc k) (negsuc z) n e = absurd (omega (arith, ints))

pub *ℤ_cancel : (k a b : ℤ) → (k ≡ pos 0 → ⊥) → k *ℤ a ≡ k *ℤ b → a ≡ b
*ℤ_cancel k a b n e =
    let apart = no_zero_product k (a -ℤ b) n (*ℤ_distrib k a (neg_ℤ b) ∙ ap (λ z. k *ℤ a +ℤ z) (*ℤ_negℤ k b) ∙ omega (arith, ints)) in
    omega (arith, ints)
