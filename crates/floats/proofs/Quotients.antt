-- A rounded quotient of whole numbers keeps its place among 0 and 1. Assumes nothing.
use Rattle.std.proofs.Common.{◌≡◌, ℕ, zero, suc, ◌*◌, ◌^◌, ◌<◌, ◌≤◌, Bool, true, false, cond, ◌||◌, T, eqb, ltb, ℤ, pos, nat_abs, sym, refl, ap, ◌∙◌, subst, inl, inr, zero-lt-suc, eq-zero-or-pos, arith, lit<, lit≤, ltb→lt, leb→le}
use mathlib.Core.Bool.{or-false}
use lib.Signed.{lt_z, le_z}
use lib.Ieee.{Float, binary32, unlike, round, neg, sub, lt, eq, le, of_bits}
use lib.Ieee.Bits.{is_true}
use lib.Ieee.Scale.{round_same}
use lib.Ieee.Order.{round_mono}
use lib.Ieee.Positive.{positive, between, sub_anti}
use Rattle.std.proofs.lemmas.Bool.{cases_order, cases_eq, ne_eqb, eq-eqb, lt-ltb, le-ltb}
use Rattle.std.proofs.lemmas.Float.{le_of_lt, lt_of_lt_of_le, lt_of_le_of_lt}
use Rattle.std.proofs.lemmas.Int.{ints}
use Rattle.floats.specs.Operations.{◌⊖◌, nought, unit}
use Rattle.floats.specs.Numbers.{signed, same_z}
use Rattle.floats.specs.Quotients.{outside_z, Ends, QuotientPlaced, RestPlaced}
use Rattle.floats.proofs.Fractions.{signed-size, positive_parts}
use Rattle.floats.proofs.Products.{div_value}
use Rattle.floats.proofs.Turned.{lt_turned, round_turned}
use Rattle.floats.proofs.Order.{not_below, below_not_level, above_not_level}

-- ---- the steps next to 0 and 1

-- a / b, rounded
abbrev pub Q : ℕ → ℕ → Float
Q a b = round binary32 false a b

nought_is : Q 0 1 ≡ nought
unfolding round of_bits
nought_is = refl

unit_is : Q 1 1 ≡ unit
unfolding round of_bits
unit_is = refl

module _ (a b : ℕ) (B : 0 < b) where
  pub from_nought : T (le nought (Q a b))
  from_nought = subst (λ (x : Float). T (le x (Q a b))) nought_is (round_mono binary32 0 1 a b (zero-lt-suc 0) B (omega arith))

  pub to_unit : a ≤ b → T (le (Q a b) unit)
  to_unit h = subst (λ (x : Float). T (le (Q a b) x)) unit_is (round_mono binary32 a b 1 1 B (zero-lt-suc 0) (omega arith))

  pub at_unit : a ≡ b → Q a b ≡ unit
  at_unit e = round_same binary32 false a b 1 1 B (zero-lt-suc 0) (omega arith) ∙ unit_is

  pub at_nought : a ≡ 0 → Q a b ≡ nought
  at_nought e = round_same binary32 false a b 0 1 B (zero-lt-suc 0) (omega (arith, ap (λ (i : ℕ). i * 1) e)) ∙ nought_is

-- for divisors up to 2 ^ 23
module _ (a b : ℕ) (B : 0 < b) (small : b ≤ 2 ^ 23) where
  above_nought : 0 < a → T (lt nought (Q a b))
  above_nought h = lt_of_lt_of_le nought (Q 1 (2 ^ 23)) (Q a b) (unfold round of_bits lt in tt) (round_mono binary32 1 (2 ^ 23) a b (lit< tt) B (omega arith))

  below_unit : a < b → T (lt (Q a b) unit)
  below_unit h = lt_of_le_of_lt (Q a b) (Q 8388607 (2 ^ 23)) unit (round_mono binary32 a b 8388607 (2 ^ 23) B (lit< tt) (omega arith)) (unfold round of_bits lt in tt)

  above_unit : b < a → T (lt unit (Q a b))
  above_unit h = lt_of_lt_of_le unit (Q 8388609 (2 ^ 23)) (Q a b) (unfold round of_bits lt in tt) (round_mono binary32 8388609 (2 ^ 23) a b (lit< tt) B (omega arith))

  starts : eq (Q a b) nought ≡ eqb a 0
  starts = elim (eq-zero-or-pos a) [
    | inl e ↦ ap (λ (x : Float). eq x nought) (at_nought a b B e) ∙ (unfold of_bits eq in sym (eq-eqb a 0 e))
    | inr h ↦ above_not_level (Q a b) nought (above_nought h) ∙ sym (ne_eqb a 0 (λ e. omega arith))
  ]

  ends : eq (Q a b) unit ≡ eqb a b
  ends = elim (cases_order a b) [
    | inl e ↦ ap (λ (x : Float). eq x unit) (at_unit a b B e) ∙ (unfold of_bits eq in sym (eq-eqb a b e))
    | inr r ↦ elim r [
      | inl l ↦ below_not_level (Q a b) unit (below_unit l) ∙ sym (ne_eqb a b (λ e. omega arith))
      | inr l ↦ above_not_level (Q a b) unit (above_unit l) ∙ sym (ne_eqb a b (λ e. omega arith))
    ]
  ]

  beyond : lt unit (Q a b) ≡ ltb b a
  beyond = elim (cases_order a b) [
    | inl e ↦ ap (lt unit) (at_unit a b B e) ∙ (unfold of_bits lt in sym (le-ltb b a (omega arith)))
    | inr r ↦ elim r [
      | inl l ↦ not_below unit (Q a b) (to_unit a b B (omega arith)) ∙ sym (le-ltb b a (omega arith))
      | inr l ↦ is_true (lt unit (Q a b)) (above_unit l) ∙ sym (lt-ltb b a l)
    ]
  ]

  -- and below 0

  turned_before : lt (neg (Q a b)) nought ≡ ltb 0 a
  turned_before = (lt_turned (Q a b) nought).0 ∙ elim (eq-zero-or-pos a) [
    | inl e ↦ ap (lt (neg nought)) (at_nought a b B e) ∙ (unfold of_bits neg lt in sym (le-ltb 0 a (omega arith)))
    | inr h ↦ is_true (lt (neg nought) (Q a b)) (lt_of_le_of_lt (neg nought) nought (Q a b) (unfold of_bits neg le in tt) (above_nought h)) ∙ sym (lt-ltb 0 a h)
  ]

  under-unit : T (lt (neg (Q a b)) unit)
  under-unit = subst T (sym (lt_turned (Q a b) unit).0) (lt_of_lt_of_le (neg unit) nought (Q a b) (unfold of_bits neg lt in tt) (from_nought a b B))

  turned_beyond : lt unit (neg (Q a b)) ≡ false
  turned_beyond = not_below unit (neg (Q a b)) (le_of_lt (neg (Q a b)) unit under-unit)

  turned_starts : eq (neg (Q a b)) nought ≡ eqb a 0
  turned_starts = elim (eq-zero-or-pos a) [
    | inl e ↦ ap (λ (x : Float). eq (neg x) nought) (at_nought a b B e) ∙ (unfold of_bits neg eq in sym (eq-eqb a 0 e))
    | inr h ↦ below_not_level (neg (Q a b)) nought (subst T (sym (turned_before ∙ lt-ltb 0 a h)) tt) ∙ sym (ne_eqb a 0 (λ e. omega arith))
  ]

-- ---- by whole numbers

out_is : (s t : Bool) (a b : ℕ) → 0 < b → cond (unlike s t) (ltb 0 a) (ltb b a) ≡ outside_z (signed s a) (signed t b)
out_is false false a b h = grind (arith, ints)
out_is false true a b h = grind (arith, ints)
out_is true false a b h = grind (arith, ints)
out_is true true a b h = grind (arith, ints)

start_is : (s : Bool) (a : ℕ) → eqb a 0 ≡ same_z (signed s a) (pos 0)
start_is false a = grind (arith, ints)
start_is true a = grind (arith, ints)

end_is : (s t : Bool) (a b : ℕ) → 0 < b → cond (unlike s t) false (eqb a b) ≡ same_z (signed s a) (signed t b)
end_is false false a b h = grind (arith, ints)
end_is false true a b h = grind (arith, ints)
end_is true false a b h = grind (arith, ints)
end_is true true a b h = grind (arith, ints)

-- what a rounded fraction a / b is, with the sign u
record Signed (q : Float) (u : Bool) (a b : ℕ) : Type 0 where
  out : (lt q nought || lt unit q) ≡ cond u (ltb 0 a) (ltb b a)
  start : eq q nought ≡ eqb a 0
  end : eq q unit ≡ cond u false (eqb a b)

by_sign : (u : Bool) (a b : ℕ) → 0 < b → b ≤ 2 ^ 23 → Signed (round binary32 u a b) u a b
by_sign false a b B S = record { out = λ i. not_below (Q a b) nought (from_nought a b B) i || beyond a b B S i; start = starts a b B S; end = ends a b B S }
by_sign true a b B S =
    subst (λ (q : Float). Signed q true a b) (sym (round_turned binary32 false a b))
    (record {
      out = (λ i. turned_before a b B S i || turned_beyond a b B S i) ∙ or-false (ltb 0 a);
      start = turned_starts a b B S;
      end = below_not_level (neg (Q a b)) unit (under-unit a b B S);
    })

pub placed : QuotientPlaced
placed x y z w p q h k =
    let s = p.sign in
    let t = q.sign in
    let a = p.size in
    let b = q.size in
    let e : nat_abs w ≡ b = ap nat_abs q.is ∙ signed-size t b in
    let B : 0 < b = omega (arith, e) in
    let S : b ≤ 2 ^ 23 = subst (λ (i : ℕ). i ≤ 2 ^ 23) e k in
    let d = div_value binary32 x y s t a b 1 B (zero-lt-suc 0) p.value q.value in
    let r = by_sign (unlike s t) a b B S in
    record {
      out = ap (λ (v : Float). lt v nought || lt unit v) d ∙ r.out ∙ out_is s t a b B ∙ (λ i. outside_z (sym p.is i) (sym q.is i));
      start = ap (λ (v : Float). eq v nought) d ∙ r.start ∙ start_is s a ∙ (λ i. same_z (sym p.is i) (pos 0));
      end = ap (λ (v : Float). eq v unit) d ∙ r.end ∙ end_is s t a b B ∙ (λ i. same_z (sym p.is i) (sym q.is i));
    }

-- ---- 1 less a quotient, for divisors up to 2,048: a second rounding, which keeps off 0 and 1

ends_as : (q : Float) (s s' e e' : Bool) → s ≡ s' → e ≡ e' → Ends q s e → Ends q s' e'
ends_as q s s' e e' f g r = record { at_nought = r.at_nought ∙ f; at_unit = r.at_unit ∙ g }

module _ (a b : ℕ) (B : 0 < b) (small : b ≤ 2048) where
  inner : 0 < a → a < b → Ends (unit ⊖ Q a b) false false
  inner h k =
      let first : T (positive (Q 1 2048)) = unfold round in tt in
      let last : T (positive (Q 2047 2048)) = unfold round in tt in
      let whole : T (positive unit) = unfold of_bits in tt in
      let low : T (le (Q 1 2048) (Q a b)) = round_mono binary32 1 2048 a b (lit< tt) B (omega arith) in
      let high : T (le (Q a b) (Q 2047 2048)) = round_mono binary32 a b 2047 2048 B (lit< tt) (omega arith) in
      let p : T (positive (Q a b)) = between (Q 1 2048) (Q a b) (Q 2047 2048) first last low high in
      let under : T (le (Q a b) unit) = to_unit a b B (omega arith) in
      let last_under : T (le (Q 2047 2048) unit) = to_unit 2047 2048 (lit< tt) (lit≤ tt) in
      record {
        at_nought = above_not_level (unit ⊖ Q a b) nought (lt_of_lt_of_le nought (unit ⊖ Q 2047 2048) (unit ⊖ Q a b) (unfold round of_bits lt sub in tt) (sub_anti binary32 unit (Q a b) (Q 2047 2048) whole p last high last_under));
        at_unit = below_not_level (unit ⊖ Q a b) unit (lt_of_le_of_lt (unit ⊖ Q a b) (unit ⊖ Q 1 2048) unit (sub_anti binary32 unit (Q 1 2048) (Q a b) whole first p low under) (unfold round of_bits lt sub in tt));
      }

  rest_at : a ≤ b → Ends (unit ⊖ Q a b) (eqb a b) (eqb a 0)
  rest_at l = elim (eq-zero-or-pos a) [
    | inl e ↦ ends_as _ _ _ _ _ (sym (ne_eqb a b (λ k. omega arith))) (sym (eq-eqb a 0 e)) (subst (λ (q : Float). Ends (unit ⊖ q) false true) (sym (at_nought a b B e)) (unfold of_bits eq sub in record { at_nought = refl; at_unit = refl }))
    | inr h ↦ elim (cases_eq a b) [
      | inl e ↦ ends_as _ _ _ _ _ (sym (eq-eqb a b e)) (sym (ne_eqb a 0 (λ k. omega arith))) (subst (λ (q : Float). Ends (unit ⊖ q) true false) (sym (at_unit a b B e)) (unfold of_bits eq sub in record { at_nought = refl; at_unit = refl }))
      | inr n ↦ ends_as _ _ _ _ _ (sym (ne_eqb a b n)) (sym (ne_eqb a 0 (λ k. omega arith))) (inner h (strict n))
    ]
  ]
    where
      strict : (a ≡ b → ⊥) → a < b
      strict n = omega arith

rest_signed : (s t : Bool) (a b : ℕ) → T (le_z (pos 0) (signed s a)) → T (le_z (signed s a) (signed t b)) → T (lt_z (pos 0) (signed t b)) → b ≤ 2048
    → Ends (unit ⊖ round binary32 (unlike s t) a b) (same_z (signed s a) (signed t b)) (same_z (signed s a) (pos 0))
rest_signed false false a b z l w k =
    let B = ltb→lt 0 b w in
    ends_as _ _ _ _ _ (end_is false false a b B) (start_is false a) (rest_at a b B k (leb→le a b l))
rest_signed true false zero b z l w k =
    let B = ltb→lt 0 b w in
    subst (λ (q : Float). Ends (unit ⊖ q) (same_z (pos 0) (pos b)) true) (ap neg (sym (at_nought 0 b B refl)) ∙ sym (round_turned binary32 false 0 b))
    (ends_as _ _ _ _ _ (sym (ne_eqb 0 b (λ e. omega arith)) ∙ end_is false false 0 b B) refl (unfold of_bits eq sub neg in record { at_nought = refl; at_unit = refl }))
rest_signed true false (suc a) b z l w k = absurd z
rest_signed s true a zero z l w k = absurd w
rest_signed s true a (suc b) z l w k = absurd w

pub rest_placed : RestPlaced
rest_placed x y z w p q f g h k =
    let s = p.sign in
    let t = q.sign in
    let a = p.size in
    let b = q.size in
    let W : T (lt_z (pos 0) (signed t b)) = subst (λ (i : ℤ). T (lt_z (pos 0) i)) q.is h in
    let B = (positive_parts t b W).1 in
    let r = rest_signed s t a b (subst (λ (i : ℤ). T (le_z (pos 0) i)) p.is f) (subst T (λ i. le_z (p.is i) (q.is i)) g) W
    (subst (λ (i : ℕ). i ≤ 2048) (ap nat_abs q.is ∙ signed-size t b) k) in
    subst (λ (v : Float). Ends (unit ⊖ v) (same_z z w) (same_z z (pos 0))) (sym (div_value binary32 x y s t a b 1 B (zero-lt-suc 0) p.value q.value))
    (ends_as _ _ _ _ _ (λ i. same_z (sym p.is i) (sym q.is i)) (λ i. same_z (sym p.is i) (pos 0)) r)
