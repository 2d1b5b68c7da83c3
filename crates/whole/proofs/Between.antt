-- A whole corner on the line of a whole edge is found at its exact place. Assumes nothing.
use Rattle.std.proofs.Common.{◌≡◌, ◌<◌, Bool, true, false, cond, not, ◌&&◌, T, ℤ, pos, ◌-ℤ◌, nat_abs, Some, None, Option, sym, refl, ap, ◌∙◌, le_trans, arith, lit≤}
use lib.Signed.{lt_z, le_z}
use lib.Ieee.{Float, le, eq, ne}
use Rattle.std.proofs.lemmas.Int.{ints}
use Rattle.plane.specs.declared.mark.Mark.{Mark}
use Rattle.plane.specs.declared.mark.Mark.TheVariants.{Start, Inside, End}
use Rattle.floats.specs.Operations.{nought, unit, ◌⊖◌, ◌⊘◌}
use Rattle.floats.specs.Numbers.{IsWhole, same_z}
use Rattle.floats.specs.Quotients.{outside_z, Placed, Ends}
use Rattle.floats.proofs.Whole.{compared}
use Rattle.floats.proofs.Quotients.{placed, rest_placed}
use Rattle.single.specs.declared.corner.Weights.{Weights}
use Rattle.single.specs.Meets.{classified, along}
use Rattle.whole.specs.Spots.{Place, place_z}
use Rattle.whole.specs.Exact.{place_of, found_at, ExactBetween}
use Rattle.whole.proofs.Sizes.{Near, less}
use Rattle.whole.proofs.Sides.{corner}

-- ---- on whole numbers: w is from u up to v, or back from u down to v, in the order of the tests

abbrev up_z : ℤ → ℤ → ℤ → Bool
up_z u v w = le_z u w && le_z w v

abbrev down_z : ℤ → ℤ → ℤ → Bool
down_z u v w = le_z w u && le_z v w

up_in : (u v w : ℤ) → up_z u v w ≡ true → same_z u v ≡ false → outside_z (w -ℤ u) (v -ℤ u) ≡ false
up_in u v w h n = grind (arith, ints)

down_in : (u v w : ℤ) → down_z u v w ≡ true → same_z u v ≡ false → outside_z (w -ℤ u) (v -ℤ u) ≡ false
down_in u v w h n = grind (arith, ints)

neither_in : (u v w : ℤ) → up_z u v w ≡ false → down_z u v w ≡ false → same_z u v ≡ false → outside_z (w -ℤ u) (v -ℤ u) ≡ true
neither_in u v w h k n = grind (arith, ints)

from_end : (u v w : ℤ) → same_z (w -ℤ v) (u -ℤ v) ≡ same_z (w -ℤ u) (pos 0)
from_end u v w = grind (arith, ints)

from_start : (u v w : ℤ) → same_z (w -ℤ v) (pos 0) ≡ same_z (w -ℤ u) (v -ℤ u)
from_start u v w = grind (arith, ints)

some_gap : (u v : ℤ) → same_z u v ≡ false → 0 < nat_abs (v -ℤ u)
some_gap u v n = grind (arith, ints)

down_bounds : (u v w : ℤ) → down_z u v w ≡ true → same_z u v ≡ false → T (le_z (pos 0) (w -ℤ v)) × T (le_z (w -ℤ v) (u -ℤ v)) × T (lt_z (pos 0) (u -ℤ v))
down_bounds u v w h n = (grind (arith, ints), grind (arith, ints), grind (arith, ints))

-- ---- on one axis

pub mark_place : (q : Float) → place_of (classified q) ≡ cond (eq q nought) Start (cond (eq q unit) End (Inside tt))
mark_place q = by (eq q nought) (eq q unit)
  where
    by : (s e : Bool) → place_of (cond s Start (cond e End (Inside (record { before = unit ⊖ q; behind = q })))) ≡ cond s Start (cond e End (Inside tt))
    by true e = refl
    by false true = refl
    by false false = refl

found : (q : Float) (z w : ℤ) → eq q nought ≡ same_z z (pos 0) → eq q unit ≡ same_z z w → outside_z z w ≡ false → found_at (Some (classified q)) ≡ place_z z w
found q z w s e o = ap Some (mark_place q) ∙ (λ i. cond (sym o i) None (Some (cond (s i) Start (cond (e i) End (Inside tt)))))

choose : (x y : Bool) (m n : Option (Mark Weights)) (p : Option Place) → (x ≡ true → found_at m ≡ p) → (x ≡ false → y ≡ true → found_at n ≡ p) → (x ≡ false → y ≡ false → None ≡ p)
    → found_at (cond x m (cond y n None)) ≡ p
choose true y m n p f g h = f refl
choose false true m n p f g h = g refl refl
choose false false m n p f g h = h refl refl

module _ (U V W : Float) (u v w : ℤ) (p : Near U u 1024) (q : Near V v 1024) (r : Near W w 1024) (n : same_z u v ≡ false) where
  forth : Placed ((W ⊖ U) ⊘ (V ⊖ U)) (w -ℤ u) (v -ℤ u)
  forth =
      let a = less _ _ _ _ 1024 1024 r p (lit≤ tt) in
      let b = less _ _ _ _ 1024 1024 q p (lit≤ tt) in
      placed _ _ _ _ a.whole b.whole (some_gap u v n) (le_trans b.near (lit≤ tt))

  back : down_z u v w ≡ true → Ends (unit ⊖ (W ⊖ V) ⊘ (U ⊖ V)) (same_z (w -ℤ v) (u -ℤ v)) (same_z (w -ℤ v) (pos 0))
  back m =
      let a = less _ _ _ _ 1024 1024 r q (lit≤ tt) in
      let b = less _ _ _ _ 1024 1024 p q (lit≤ tt) in
      let k = down_bounds u v w m n in
      rest_placed _ _ _ _ a.whole b.whole k.0 k.1 k.2 b.near

  along_whole : found_at (along U V W) ≡ place_z (w -ℤ u) (v -ℤ u)
  along_whole =
      let le_is : (X Y : Float) (x y : ℤ) → IsWhole X x → IsWhole Y y → le X Y ≡ le_z x y = λ X Y x y P Q. (compared X Y x y P Q).up_to in
      (λ i. found_at (cond (le_is U W u w p.whole r.whole i && le_is W V w v r.whole q.whole i) (Some (classified ((W ⊖ U) ⊘ (V ⊖ U))))
      (cond (le_is W U w u r.whole p.whole i && le_is V W v w q.whole r.whole i) (Some (classified (unit ⊖ (W ⊖ V) ⊘ (U ⊖ V)))) None)))
      ∙ choose (up_z u v w) (down_z u v w) _ _ _
      (λ m. found _ (w -ℤ u) (v -ℤ u) forth.start forth.end (up_in u v w m n))
      (λ _ m. found _ (w -ℤ u) (v -ℤ u) ((back m).at_nought ∙ from_end u v w) ((back m).at_unit ∙ from_start u v w) (down_in u v w m n))
      (λ l m. λ i. cond (sym (neither_in u v w l m n) i) None (Some (cond (same_z (w -ℤ u) (pos 0)) Start (cond (same_z (w -ℤ u) (v -ℤ u)) End (Inside tt)))))

-- ---- in the plane

eq_is : (x y : Float) (z w : ℤ) → IsWhole x z → IsWhole y w → eq x y ≡ same_z z w
eq_is x y z w p q = (compared x y z w p q).level

ne_is : (x y : Float) (z w : ℤ) → IsWhole x z → IsWhole y w → ne x y ≡ not (same_z z w)
unfolding ne
ne_is x y z w p q = ap not (eq_is x y z w p q)

pick : (s t e : Bool) (m n : Option (Mark Weights)) (p q : Option Place) → (s ≡ false → found_at m ≡ p) → (t ≡ false → found_at n ≡ q)
    → found_at (cond (not s) m (cond (not t) n (cond e (Some Start) None))) ≡ cond (not s) p (cond (not t) q (cond e (Some Start) None))
pick false t e m n p q f g = f refl
pick true false e m n p q f g = g refl
pick true true true m n p q f g = refl
pick true true false m n p q f g = refl

pub exact_between : ExactBetween
exact_between a b c i j k A B C =
    let p = corner a i A in
    let q = corner b j B in
    let r = corner c k C in
    (λ t. found_at (cond (ne_is a.x b.x i.x j.x A.x_whole B.x_whole t) (along a.x b.x c.x)
    (cond (ne_is a.y b.y i.y j.y A.y_whole B.y_whole t) (along a.y b.y c.y)
    (cond (eq_is a.x c.x i.x k.x A.x_whole C.x_whole t && eq_is a.y c.y i.y k.y A.y_whole C.y_whole t) (Some Start) None))))
    ∙ pick (same_z i.x j.x) (same_z i.y j.y) (same_z i.x k.x && same_z i.y k.y) _ _ _ _
    (along_whole a.x b.x c.x i.x j.x k.x p.on_x q.on_x r.on_x)
    (along_whole a.y b.y c.y i.y j.y k.y p.on_y q.on_y r.on_y)
