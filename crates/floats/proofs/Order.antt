-- The order of floats with not-a-number last, and tests that fail. Assumes nothing.
use Rattle.std.proofs.Common.{◌≡◌, Bool, true, false, not, ◌||◌, T, inl, inr, sym, refl, ◌∙◌}
use lib.Dec.{not_T}
use lib.Ieee.{Float, nan, inf, fin, lt, eq, le, is_nan}
use lib.Ieee.Bits.{is_true, is_false}
use Rattle.std.proofs.lemmas.Bool.{cases_Bool, both_ways, not_from_true, not_from_false}
use Rattle.std.proofs.lemmas.Float.{lt_irrefl, le_of_lt, lt-or-eq, lt_of_not-le, le_left, le_trans, lt_of_lt_of_le, eq_flip, eq-not_lt, T_from_true, T_from_false}
use Rattle.floats.specs.Order.{OrderTotal, OrderTransitive, NanLast, NumbersOrdered}

pub test_fails : (b : Bool) → (T b → ⊥) → b ≡ false
test_fails b f = is_false b (not_T b f)

-- nothing is below what is up to it
pub never_both : (x y : Float) → T (lt x y) → T (le y x) → ⊥
never_both x y p q = lt_irrefl x (lt_of_lt_of_le x y x p q)

-- what is up to another and not level with it is below it
pub le_not_level : (x y : Float) → T (le x y) → eq x y ≡ false → T (lt x y)
le_not_level x y p e = elim (lt-or-eq x y p) [ inl l ↦ l | inr t ↦ absurd (both_ways (eq x y) e (is_true (eq x y) t)) ]

-- level either way round
pub eq_turned : (x y : Float) → eq x y ≡ eq y x
eq_turned x y = elim (cases_Bool (eq x y)) [
  | inl e ↦ e ∙ sym (is_true (eq y x) (eq_flip x y (T_from_true (eq x y) e)))
  | inr e ↦ e ∙ sym (test_fails (eq y x) (λ t. both_ways (eq x y) e (is_true (eq x y) (eq_flip y x t))))
]

-- ---- tests that fail

pub not_below : (x y : Float) → T (le y x) → lt x y ≡ false
not_below x y h = test_fails (lt x y) (λ t. never_both x y t h)

pub below_not_level : (x y : Float) → T (lt x y) → eq x y ≡ false
below_not_level x y h = test_fails (eq x y) (λ t. eq-not_lt x y t h)

pub above_not_level : (x y : Float) → T (lt y x) → eq x y ≡ false
above_not_level x y h = eq_turned x y ∙ below_not_level y x h

-- ---- with not-a-number last

pub numbers : NumbersOrdered
numbers x y X Y = elim (cases_Bool (le y x)) [
  | inl e ↦ not_below x y (T_from_true (le y x) e) ∙ sym (not_from_true (le y x) e)
  | inr e ↦ is_true (lt x y) (lt_of_not-le y x (T_from_false (is_nan y) Y) (T_from_false (is_nan x) X) (T_from_false (le y x) e)) ∙ sym (not_from_false (le y x) e)
]

pub total : OrderTotal
total x y = at (is_nan x) (is_nan y) (le x y) (le y x) (λ X Y n. le_of_lt y x (lt_of_not-le x y X Y n))
  where
    at : (m n p q : Bool) → (T (not m) → T (not n) → T (not p) → T q) → T ((n || p) || (m || q))
    at m true p q h = tt
    at m false true q h = tt
    at true false false q h = tt
    at false false false q h = h tt tt tt

pub transitive : OrderTransitive
transitive x y z p q = at (is_nan y) (is_nan z) (le x y) (le y z) (le x z) (le_left y z) (le_trans x y z) p q
  where
    at : (n o p q r : Bool) → (T q → T (not n)) → (T p → T q → T r) → T (n || p) → T (o || q) → T (o || r)
    at n true p q r f g s t = tt
    at true false p true r f g s t = absurd (f tt)
    at true false p false r f g s t = absurd t
    at false false p q r f g s t = g s t

pub last : NanLast
unfolding is_nan le
last nan = (tt, λ _. refl)
last (inf s) = (tt, λ t. absurd t)
last (fin s m e) = (tt, λ t. absurd t)
