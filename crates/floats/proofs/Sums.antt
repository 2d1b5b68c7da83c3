-- A sum or a difference of finite floats is that of the fractions, rounded once. Assumes nothing.
use Rattle.std.proofs.Common.{◌≡◌, ℕ, zero, suc, ◌+◌, ◌-◌, ◌*◌, ◌<◌, ◌≤◌, Bool, true, false, cond, not, ◌&&◌, ltb, ℤ, ◌+ℤ◌, ◌-ℤ◌, neg_ℤ, sym, refl, ap, ◌∙◌, inl, inr, mul_comm, mul-pos, arith}
use native.Mathlib.Nat.{mul-sub}
use lib.Ieee.{Float, Format, nan, inf, fin, up, down, round, sum, neg, add, sub}
use lib.Ieee.Fits.{down_pos}
use lib.Ieee.Exact.{HasValue}
use lib.Ieee.Scale.{round_same}
use Rattle.std.proofs.lemmas.Int.{ints}
use Rattle.std.proofs.lemmas.Bool.{cases_Bool, ltb-true, ltb-false, cond-true, cond-false}
use Rattle.floats.specs.Numbers.{signed, IsFraction}
use Rattle.floats.proofs.Fractions.{by_value, ltb_alike}

-- x is z / c, rounded once
pub record Rounded (f : Format) (x : Float) (z : ℤ) (c : ℕ) : Type 0 where
  pub sign : Bool
  pub size : ℕ
  pub is : z ≡ signed sign size
  pub rounds : x ≡ round f sign size c

-- ---- by signs and sizes

-- the total has a sign and a size, is a minus zero only where the first part is, and is no larger than both sizes together
pub record Totals (f : Format) (s : Bool) (a : ℕ) (t : Bool) (b c : ℕ) : Type 0 where
  pub sign : Bool
  pub size : ℕ
  pub is : signed s a +ℤ signed t b ≡ signed sign size
  pub rounds : sum f s a t b c ≡ round f sign size c
  pub clear : (s ≡ true → 0 < a) → sign ≡ true → 0 < size
  pub most : size ≤ a + b

never : {P : Type 0} → false ≡ true → P
never e = absurd (mathlib.Core.Bool.false≢true e)

pub totals : (f : Format) (s t : Bool) (a b c : ℕ) → Totals f s a t b c
unfolding sum
totals f false false a b c = record { sign = false; size = a + b; is = refl; rounds = refl; clear = λ _. never; most = omega arith }
totals f true true a b c = record { sign = true; size = a + b; is = omega (arith, ints); rounds = refl; clear = λ h _. omega (arith, h refl); most = omega arith }
totals f false true a b c =
    elim (cases_Bool (ltb a b)) [
      | inl e ↦ let l : a < b = ltb-true a b e in record { sign = true; size = b - a; is = omega (arith, ints); rounds = cond-true (ltb a b) _ _ e; clear = λ _ _. omega arith; most = omega arith }
      | inr e ↦ let l = ltb-false a b e in record { sign = false; size = a - b; is = omega (arith, ints); rounds = cond-false (ltb a b) _ _ e; clear = λ _. never; most = omega arith }
    ]
totals f true false a b c =
    elim (cases_Bool (ltb a b)) [
      | inl e ↦ let l : a < b = ltb-true a b e in record { sign = false; size = b - a; is = omega (arith, ints); rounds = cond-true (ltb a b) _ _ e; clear = λ _. never; most = omega arith }
      | inr e ↦ elim (cases_Bool (ltb b a)) [
        | inl g ↦
            let l : b < a = ltb-true b a g in
            record { sign = true; size = a - b; is = omega (arith, ints); rounds = cond-false (ltb a b) _ _ e ∙ ap (λ (k : Bool). round f k (a - b) c) g; clear = λ _ _. omega arith; most = omega arith }
        | inr g ↦
            let l = ltb-false a b e in
            let r = ltb-false b a g in
            record { sign = false; size = a - b; is = omega (arith, ints); rounds = cond-false (ltb a b) _ _ e ∙ ap (λ (k : Bool). round f k (a - b) c) g; clear = λ _. never; most = omega arith }
      ]
    ]

-- in the same proportion to another denominator
gap_alike : (a b c a' b' c' : ℕ) → a * c' ≡ a' * c → b * c' ≡ b' * c → (b - a) * c' ≡ (b' - a') * c
gap_alike a b c a' b' c' p q = spread b a c' ∙ (λ i. q i - p i) ∙ sym (spread b' a' c)
  where
    spread : (x y k : ℕ) → (x - y) * k ≡ x * k - y * k
    spread x y k = mul_comm (x - y) k ∙ mul-sub k x y ∙ (λ i. mul_comm k x i - mul_comm k y i)

module _ (f : Format) (a b c a' b' c' : ℕ) (C : 0 < c) (C' : 0 < c') (p : a * c' ≡ a' * c) (q : b * c' ≡ b' * c) where
  unlike_alike : (s t : Bool) → cond (ltb a b) (round f t (b - a) c) (round f (s && ltb b a) (a - b) c) ≡ cond (ltb a' b') (round f t (b' - a') c') (round f (s && ltb b' a') (a' - b') c')
  unlike_alike s t =
      (λ i. cond (ltb_alike a b a' b' c' c C' C p q i) (round_same f t (b - a) c (b' - a') c' C C' (gap_alike a b c a' b' c' p q) i) (round f (s && ltb_alike b a b' a' c' c C' C q p i) (a - b) c))
      ∙ ap (cond (ltb a' b') (round f t (b' - a') c')) (round_same f (s && ltb b' a') (a - b) c (a' - b') c' C C' (gap_alike b a c b' a' c' q p))

  pub sum_alike : (s t : Bool) → sum f s a t b c ≡ sum f s a' t b' c'
  unfolding sum
  sum_alike false false = round_same f false (a + b) c (a' + b') c' C C' (omega arith)
  sum_alike true true = round_same f true (a + b) c (a' + b') c' C C' (omega arith)
  sum_alike false true = unlike_alike false true
  sum_alike true false = unlike_alike true false

-- ---- floats that stand for z / c and w / c

pub add-value : (f : Format) (x y : Float) (s t : Bool) (a b c : ℕ) → 0 < c → HasValue x s a c → HasValue y t b c → add f x y ≡ sum f s a t b c
unfolding add
add-value f x y s t a b c C p q =
    by_value (λ x y. add f x y ≡ sum f s a t b c) s t a b c c
    (λ m e n d p q. sum_alike f (m * up e * down d) (n * up d * down e) (down e * down d) a b c (mul-pos (down_pos e) (down_pos d)) C
    (omega (arith, ap (λ (k : ℕ). k * down d) p)) (omega (arith, ap (λ (k : ℕ). k * down e) q)) s t) x y p q

pub neg_value : (x : Float) (s : Bool) (a c : ℕ) → HasValue x s a c → HasValue (neg x) (not s) a c
unfolding neg
neg_value nan s a c p = p
neg_value (inf u) s a c p = p
neg_value (fin u m e) s a c p = (ap not p.0, p.1)

pub signed_neg : (s : Bool) (n : ℕ) → neg_ℤ (signed s n) ≡ signed (not s) n
signed_neg false n = refl
signed_neg true zero = refl
signed_neg true (suc n) = refl

pub neg_fraction : (x : Float) (z : ℤ) (c : ℕ) → IsFraction x z c → IsFraction (neg x) (neg_ℤ z) c
neg_fraction x z c p = record {
  sign = not p.sign;
  size = p.size;
  value = neg_value x p.sign p.size c p.value;
  is = ap neg_ℤ p.is ∙ signed_neg p.sign p.size;
}

module _ (f : Format) (x y : Float) (z w : ℤ) (c : ℕ) (C : 0 < c) (p : IsFraction x z c) (q : IsFraction y w c) where
  pub add_rounded : Rounded f (add f x y) (z +ℤ w) c
  add_rounded =
      let t = totals f p.sign q.sign p.size q.size c in
      record {
        sign = t.sign;
        size = t.size;
        is = (λ i. p.is i +ℤ q.is i) ∙ t.is;
        rounds = add-value f x y p.sign q.sign p.size q.size c C p.value q.value ∙ t.rounds;
      }

pub sub_rounded : (f : Format) (x y : Float) (z w : ℤ) (c : ℕ) → 0 < c → IsFraction x z c → IsFraction y w c → Rounded f (sub f x y) (z -ℤ w) c
unfolding sub
sub_rounded f x y z w c C p q = add_rounded f x (neg y) z (neg_ℤ w) c C p (neg_fraction y w c q)
