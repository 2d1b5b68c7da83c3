-- Which number a signed value of the code is, and how large. Assumes nothing.
use Rattle.std.specs.Prelude.{◌≡◌, ℕ, zero, suc, ◌+◌, ◌*◌, ◌^◌, ◌<◌, ◌≤◌, true, false, ℤ, pos, negsuc, ◌+ℤ◌, ◌-ℤ◌, ◌*ℤ◌, neg_ℤ, FitsSigned, ◌==◌, ◌≢◌, nat_eq, unsigned_abs, refl}
use Rattle.std.proofs.Common.{sym, ap, ap₂, subst, ◌∙◌, arith, mul-le-mul, le_trans, lit≤, to_z, of_z}
use Rattle.std.proofs.Math.IntN.{+ℤ_idl}
use Rattle.std.specs.Int.{w16, w32, w64}
use Rattle.std.proofs.lemmas.Int.{ints, to_z-of_z, to_z_pos, unsigned_abs-mul}
use Rattle.decimetre.specs.declared.corner.Corner.{Corner}
use Rattle.decimetre.specs.declared.math.Vector2.{Vector2}
use Rattle.decimetre.specs.Exact.{denom, num_of, Near}
use Rattle.decimetre.specs.Vectors.{Leads, Wide}

pub product_bound : (a b : ℤ) (m n : ℕ) → unsigned_abs a ≤ m → unsigned_abs b ≤ n → unsigned_abs (a *ℤ b) ≤ m * n
product_bound a b m n h k = rw (unsigned_abs-mul a b) (mul-le-mul h k)

pub sum_bound : (a b : ℤ) (m n : ℕ) → unsigned_abs a ≤ m → unsigned_abs b ≤ n → unsigned_abs (a +ℤ b) ≤ m + n
sum_bound a b m n h k = omega (arith, ints)

pub difference_bound : (a b : ℤ) (m n : ℕ) → unsigned_abs a ≤ m → unsigned_abs b ≤ n → unsigned_abs (a -ℤ b) ≤ m + n
difference_bound a b m n h k = omega (arith, ints)

fits_64 : (z : ℤ) → unsigned_abs z ≤ 2 ^ 62 → FitsSigned w64 z
fits_64 z h = omega (arith, ints)

-- a value of 64 bits, to its bits and back
abbrev b64 : ℤ → ℤ
b64 z = to_z w64 (of_z w64 z)

back_64 : (z : ℤ) → unsigned_abs z ≤ 2 ^ 62 → b64 z ≡ z
back_64 z h = to_z-of_z w64 z (fits_64 z h)

-- the value v of the code is the number z, of at most n
pub record Reads (n : ℕ) (v z : ℤ) : Type 0 where
  pub is : v ≡ z
  pub bound : unsigned_abs z ≤ n

-- what a call returned
pub value : {z : ℤ} {n : ℕ} (r : ℤ) → unsigned_abs r ≤ n → r ≡ z → n ≤ 2 ^ 62 → Reads n (b64 r) z
value r h e k = record { is = back_64 r (le_trans h k) ∙ e; bound = rw e at h }

-- a number of 32 bits, widened
pub whole : (n : ℕ) → n < 2 ^ 32 → Reads (2 ^ 32) (to_z w64 n) (pos n)
whole n h = record { is = to_z_pos w64 n (omega arith); bound = omega arith }

-- a number of 16 bits, as it is passed on, and widened
pub narrow16 : (z : ℤ) → FitsSigned w16 z → to_z w16 (of_z w16 z) ≡ z
narrow16 z h = to_z-of_z w16 z h

pub coordinate16 : (z : ℤ) → FitsSigned w16 z → Reads 32768 (b64 (to_z w16 (of_z w16 z))) z
coordinate16 z h =
    let small : unsigned_abs z ≤ 32768 = omega (arith, ints) in
    record { is = ap b64 (narrow16 z h) ∙ back_64 z (le_trans small (lit≤ tt)); bound = small }

-- a coordinate of a near corner, as it is passed on, and widened
pub narrow : (z : ℤ) → unsigned_abs z ≤ 16384 → to_z w32 (of_z w32 z) ≡ z
narrow z h = to_z-of_z w32 z (omega (arith, ints))

pub narrow_size : (z : ℤ) → unsigned_abs z ≤ 16384 → unsigned_abs (to_z w32 (of_z w32 z)) ≤ 16384
narrow_size z h = rw (narrow z h) h

pub coordinate : (z : ℤ) → unsigned_abs z ≤ 16384 → Reads 16384 (b64 (to_z w32 (of_z w32 z))) z
coordinate z h = record { is = ap b64 (narrow z h) ∙ back_64 z (le_trans h (lit≤ tt)); bound = h }

pub corner_x : (c : Corner) → Near c → Reads 16384 (b64 (to_z w32 (of_z w32 c.x))) c.x
corner_x c h = coordinate c.x h.0

pub corner_y : (c : Corner) → Near c → Reads 16384 (b64 (to_z w32 (of_z w32 c.y))) c.y
corner_y c h = coordinate c.y h.1

-- a coordinate of a vector
pub vector_x : (v : Vector2) → Reads 32768 (b64 v.x) v.x
vector_x v = value v.x v.short.0 refl (lit≤ tt)

pub vector_y : (v : Vector2) → Reads 32768 (b64 v.y) v.y
vector_y v = value v.y v.short.1 refl (lit≤ tt)

-- and of what leads from a to b
pub lead_x : {a b : Corner} {v : Vector2} → Leads a b v → Reads 32768 (b64 v.x) (b.x -ℤ a.x)
lead_x {v} p = value v.x v.short.0 p.on_x (lit≤ tt)

pub lead_y : {a b : Corner} {v : Vector2} → Leads a b v → Reads 32768 (b64 v.y) (b.y -ℤ a.y)
lead_y {v} p = value v.y v.short.1 p.on_y (lit≤ tt)

module _ {m n : ℕ} {v w a b : ℤ} (p : Reads m v a) (q : Reads n w b) where
  pub plus_fits : m + n ≤ 2 ^ 62 → FitsSigned w64 (v +ℤ w)
  plus_fits k = rw (p.is, q.is) (fits_64 (a +ℤ b) (le_trans (sum_bound a b m n p.bound q.bound) k))

  pub plus : m + n ≤ 2 ^ 62 → Reads (m + n) (b64 (v +ℤ w)) (a +ℤ b)
  plus k =
      let h = sum_bound a b m n p.bound q.bound in
      record { is = ap b64 (ap₂ ◌+ℤ◌ p.is q.is) ∙ back_64 (a +ℤ b) (le_trans h k); bound = h }

  pub less_fits : m + n ≤ 2 ^ 62 → FitsSigned w64 (v -ℤ w)
  less_fits k = rw (p.is, q.is) (fits_64 (a -ℤ b) (le_trans (difference_bound a b m n p.bound q.bound) k))

  pub less : m + n ≤ 2 ^ 62 → Reads (m + n) (b64 (v -ℤ w)) (a -ℤ b)
  less k =
      let h = difference_bound a b m n p.bound q.bound in
      record { is = ap b64 (ap₂ ◌-ℤ◌ p.is q.is) ∙ back_64 (a -ℤ b) (le_trans h k); bound = h }

  pub times_fits : m * n ≤ 2 ^ 62 → FitsSigned w64 (v *ℤ w)
  times_fits k = rw (p.is, q.is) (fits_64 (a *ℤ b) (le_trans (product_bound a b m n p.bound q.bound) k))

  pub times : m * n ≤ 2 ^ 62 → Reads (m * n) (b64 (v *ℤ w)) (a *ℤ b)
  times k =
      let h = product_bound a b m n p.bound q.bound in
      record { is = ap b64 (ap₂ ◌*ℤ◌ p.is q.is) ∙ back_64 (a *ℤ b) (le_trans h k); bound = h }

pub negated_fits : {n : ℕ} {v z : ℤ} → Reads n v z → n ≤ 2 ^ 61 → FitsSigned w64 (pos 0 -ℤ v)
negated_fits {z = z} p k = rw p.is (fits_64 (pos 0 -ℤ z) (omega (arith, ints, p.bound)))

pub negated : {n : ℕ} {v z : ℤ} → Reads n v z → n ≤ 2 ^ 62 → Reads n (b64 (pos 0 -ℤ v)) (neg_ℤ z)
negated {n} {v} {z} p k =
    let h : unsigned_abs (neg_ℤ z) ≤ n = omega (arith, ints, p.bound) in
    record { is = ap (λ y. b64 (pos 0 -ℤ y)) p.is ∙ ap b64 (+ℤ_idl (neg_ℤ z)) ∙ back_64 (neg_ℤ z) (le_trans h k); bound = h }

-- the bound, of the value
pub bound_of : {n : ℕ} {v z : ℤ} → Reads n v z → unsigned_abs v ≤ n
bound_of {n} p = subst (λ y. unsigned_abs y ≤ n) (sym p.is) p.bound

wide_x : {u : Vector2} {a : Corner} → Wide u a → Reads 16384 (b64 u.x) a.x
wide_x {a} p = record { is = ap b64 p.on_x ∙ back_64 a.x (le_trans p.near.0 (lit≤ tt)); bound = p.near.0 }

wide_y : {u : Vector2} {a : Corner} → Wide u a → Reads 16384 (b64 u.y) a.y
wide_y {a} p = record { is = ap b64 p.on_y ∙ back_64 a.y (le_trans p.near.1 (lit≤ tt)); bound = p.near.1 }

-- a coordinate times a difference of two others, as the code has it
abbrev term_of : Vector2 → Vector2 → Vector2 → ℤ
term_of u v w = b64 u.x *ℤ b64 (b64 v.y -ℤ b64 w.y)

module _ {v w : Vector2} {b c : Corner} (q : Wide v b) (r : Wide w c) where
  rise : Reads 32768 (b64 (b64 v.y -ℤ b64 w.y)) (b.y -ℤ c.y)
  rise = less (wide_y q) (wide_y r) (lit≤ tt)

  pub rise_fits : FitsSigned w64 (b64 v.y -ℤ b64 w.y)
  rise_fits = less_fits (wide_y q) (wide_y r) (lit≤ tt)

  pub term : {u : Vector2} {a : Corner} → Wide u a → Reads 536870912 (b64 (term_of u v w)) (a.x *ℤ (b.y -ℤ c.y))
  term p = times (wide_x p) rise (lit≤ tt)

  pub term_fits : {u : Vector2} {a : Corner} → Wide u a → FitsSigned w64 (term_of u v w)
  term_fits p = times_fits (wide_x p) rise (lit≤ tt)

module _ {t u v w : Vector2} {a b c d : Corner} (p : Wide t a) (q : Wide u b) (r : Wide v c) (s : Wide w d) where
  pub denom_reads : Reads (2 ^ 31) (b64 (b64 (b64 (b64 (term_of t w v) +ℤ b64 (term_of u v w)) +ℤ b64 (term_of w u t)) +ℤ b64 (term_of v t u))) (denom a b c d)
  unfolding denom
  denom_reads = plus (plus (plus (term s r p) (term r s q) (lit≤ tt)) (term q p s) (lit≤ tt)) (term p q r) (lit≤ tt)

module _ {u v w : Vector2} {p q r : Corner} (k : Wide u p) (l : Wide v q) (m : Wide w r) where
  pub num_reads : Reads 1610612736 (b64 (b64 (b64 (term_of u w v) +ℤ b64 (term_of v u w)) +ℤ b64 (term_of w v u))) (num_of p q r)
  unfolding num_of
  num_reads = plus (plus (term m l k) (term k m l) (lit≤ tt)) (term l k m) (lit≤ tt)

-- bits that are 0 are of the number 0, and others are not
pub is_zero : {n : ℕ} {z : ℤ} (v : ℤ) → Reads n (b64 v) z → of_z w64 v ≡ 0 → (unsigned_abs z == 0) ≡ true
is_zero v p k = ap (λ y. nat_eq (unsigned_abs y) 0) (sym p.is ∙ ap (to_z w64) k)

not_none : (z : ℤ) → (of_z w64 z ≢ 0) → (unsigned_abs z == 0) ≡ false
not_none (pos zero) h = absurd (h refl)
not_none (pos (suc n)) h = grind arith
not_none (negsuc n) h = grind arith

pub not_zero : {v z : ℤ} → v ≡ z → (of_z w64 v ≢ 0) → (unsigned_abs z == 0) ≡ false
not_zero {z = z} e h = not_none z (λ k. h (ap (of_z w64) e ∙ k))
