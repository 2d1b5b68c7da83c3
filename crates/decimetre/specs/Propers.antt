-- The marks that a meeting gives are proper. Assumes nothing.
use Rattle.std.specs.Prelude.{◌≡◌, ◌^◌, ◌<◌, ◌≤◌, Bool, true, false, cond, ℤ, pos, ◌+ℤ◌, ◌-ℤ◌, ◌*ℤ◌, neg_ℤ, Some, None, Option, ◌==◌, int_lt, unsigned_abs, refl}
use Rattle.std.proofs.Common.{sym, subst, ⊎_elim, arith, lit≤}
use Rattle.std.proofs.lemmas.Int.{ints}
use Rattle.std.proofs.lemmas.Bool.{cond_both, and_parts}
use Rattle.plane.specs.declared.answer.Meet.{Meet}
use Rattle.plane.specs.declared.answer.Meet.TheVariants.{Apart, Crossing, Overlap}
use Rattle.plane.specs.Meaning.{Marks, Given}
use Rattle.decimetre.specs.declared.corner.Corner.{Corner}
use Rattle.decimetre.specs.declared.corner.Decimetre.{Decimetre}
use Rattle.plane.specs.declared.mark.Mark.TheVariants.{Start, Inside, End}
use Rattle.plane.specs.Marks.{both, overlap_of}
use Rattle.decimetre.specs.Exact.{Mark, area2, denom, num1, num2, portion, share, crossing, between_at, parallel, meet_of, meet_at, near, near2, near3, near4, Near, exact, lower_of}
use Rattle.decimetre.specs.Plane.{Proper, ProperMeet}
use Rattle.decimetre.specs.Nears.{near_told}
use Rattle.decimetre.specs.Numbers.{product_bound, sum_bound, difference_bound}

abbrev ProperIf : Option Mark → Type 0
ProperIf None = Unit {0}
ProperIf (Some m) = Proper m

portion_proper : (u l : ℤ) → unsigned_abs l ≤ 2 ^ 31 → ProperIf (portion u l)
portion_proper u l bound = go (int_lt u (pos 0)) (int_lt l u) (int_lt (pos 0) u) (int_lt u l) refl refl
  where
    go : (a b c d : Bool) → int_lt (pos 0) u ≡ c → int_lt u l ≡ d → ProperIf (cond a None (cond b None (cond c (cond d (Some (Inside (record { upper = unsigned_abs u; lower = unsigned_abs l }))) (Some End)) (Some Start))))
    go true b c d p q = tt
    go false true c d p q = tt
    go false false true true p q = (omega (arith, ints), omega (arith, ints), bound)
    go false false true false p q = tt
    go false false false d p q = tt

share_proper : (u l : ℤ) → unsigned_abs l ≤ 2 ^ 31 → ProperIf (share u l)
share_proper u l bound =
    cond_both (int_lt l (pos 0)) (portion (neg_ℤ u) (neg_ℤ l)) (portion u l) ProperIf (λ _. portion_proper (neg_ℤ u) (neg_ℤ l) (omega (arith, ints))) (λ _. portion_proper u l bound)

crossing_proper : (s t : Option Mark) → ProperIf s → ProperIf t → ProperMeet (crossing s t)
crossing_proper None t p q = tt
crossing_proper (Some s) None p q = tt
crossing_proper (Some s) (Some t) p q = (p, q)

apart_bound : (p q : ℤ) → unsigned_abs p ≤ 16384 → unsigned_abs q ≤ 16384 → unsigned_abs (p -ℤ q) ≤ 2 ^ 31
apart_bound p q h k = omega (arith, ints)

between_proper : (a b c : Corner) → Near a → Near b → ProperIf (between_at a b c)
between_proper a b c na nb = go (unsigned_abs (b.x -ℤ a.x) == 0) (unsigned_abs (b.y -ℤ a.y) == 0) (unsigned_abs (c.x -ℤ a.x) == 0) (unsigned_abs (c.y -ℤ a.y) == 0)
  where
    go : (p q r s : Bool) → ProperIf (cond p (cond q (cond r (cond s (Some Start) None) None) (share (c.y -ℤ a.y) (b.y -ℤ a.y))) (share (c.x -ℤ a.x) (b.x -ℤ a.x)))
    go false q r s = share_proper (c.x -ℤ a.x) (b.x -ℤ a.x) (apart_bound b.x a.x nb.0 na.0)
    go true false r s = share_proper (c.y -ℤ a.y) (b.y -ℤ a.y) (apart_bound b.y a.y nb.1 na.1)
    go true true false s = tt
    go true true true false = tt
    go true true true true = tt

both_proper : (s t : Option Mark) (f : Mark → Mark → Meet Mark) (other : Meet Mark) → ProperIf s → ProperIf t → ((p q : Mark) → Proper p → Proper q → ProperMeet (f p q)) → ProperMeet other → ProperMeet (both s t f other)
both_proper None t f other hs ht h k = k
both_proper (Some s) None f other hs ht h k = k
both_proper (Some s) (Some t) f other hs ht h k = h s t hs ht

overlap_proper : (c d a b : Option Mark) → ProperIf c → ProperIf d → ProperIf a → ProperIf b → ProperMeet (overlap_of c d a b)
overlap_proper c d a b hc hd ha hb =
    both_proper c d _ _ hc hd (λ p q h k. (h, tt, k, tt)) (both_proper a b _ _ ha hb (λ p q h k. (tt, h, tt, k)) (both_proper c b _ _ hc hb (λ p q h k. (h, tt, tt, k)) (both_proper c a _ _ hc ha (λ p q h k. (h, tt, tt, k)) (both_proper d b _ _ hd hb (λ p q h k. (h, tt, tt, k)) (both_proper d a _ _ hd ha (λ p q h k. (h, tt, tt, k)) tt)))))

-- D is at most 2 ^ 31 in size
abbrev part : Corner → Corner → Corner → ℤ
part p q r = p.x *ℤ (q.y -ℤ r.y)

part_bound : (p q r : Corner) → Near p → Near q → Near r → unsigned_abs (part p q r) ≤ 536870912
part_bound p q r h k l = product_bound p.x (q.y -ℤ r.y) 16384 32768 h.0 (difference_bound q.y r.y 16384 16384 k.1 l.1)

pub denom_bound : (a b c d : Corner) → Near a → Near b → Near c → Near d → unsigned_abs (denom a b c d) ≤ 2 ^ 31
unfolding denom
denom_bound a b c d na nb nc nd =
    let p = part a d c in
    let q = part b c d in
    let r = part d b a in
    let s = part c a b in
    sum_bound (p +ℤ q +ℤ r) s 1610612736 536870912 (sum_bound (p +ℤ q) r 1073741824 536870912 (sum_bound p q 536870912 536870912 (part_bound a d c na nd nc) (part_bound b c d nb nc nd)) (part_bound d b a nd nb na)) (part_bound c a b nc na nb)

module _ (a b c d : Corner) where
  parallel_proper : Near a → Near b → Near c → Near d → ProperMeet (parallel a b c d)
  parallel_proper na nb nc nd =
      cond_both (unsigned_abs (area2 a b c) == 0) (overlap_of (between_at a b c) (between_at a b d) (between_at c d a) (between_at c d b)) Apart ProperMeet (λ _. overlap_proper (between_at a b c) (between_at a b d) (between_at c d a) (between_at c d b) (between_proper a b c na nb) (between_proper a b d na nb) (between_proper c d a nc nd) (between_proper c d b nc nd)) (λ _. tt)

  meet_proper : Near a → Near b → Near c → Near d → ProperMeet (meet_of a b c d)
  meet_proper na nb nc nd =
      let bound = denom_bound a b c d na nb nc nd in
      let s = share (num1 a b c d) (denom a b c d) in
      let t = share (num2 a b c d) (denom a b c d) in
      cond_both (unsigned_abs (denom a b c d) == 0) (parallel a b c d) (crossing s t) ProperMeet (λ _. parallel_proper na nb nc nd) (λ _. crossing_proper s t (share_proper (num1 a b c d) (denom a b c d) bound) (share_proper (num2 a b c d) (denom a b c d) bound))

  pub at_proper : ProperMeet (meet_at a b c d)
  at_proper = cond_both (near4 a b c d) (meet_of a b c d) Apart ProperMeet found (λ _. tt)
    where
      found : near4 a b c d ≡ true → ProperMeet (meet_of a b c d)
      found e =
          let four = and_parts (near3 a b c) (near d) e in
          let three = and_parts (near2 a b) (near c) four.0 in
          let two = and_parts (near a) (near b) three.0 in
          meet_proper (near_told a two.0) (near_told b two.1) (near_told c three.1) (near_told d four.1)

mark_proper : (m : Mark) (r : Meet Mark) → ProperMeet r → Marks m r → Proper m
mark_proper m Apart p h = absurd h
mark_proper m (Crossing s t) p h = ⊎_elim (λ e. subst Proper (sym e) p.0) (λ e. subst Proper (sym e) p.1) h
mark_proper m (Overlap s t u v) p h = ⊎_elim (⊎_elim (λ e. subst Proper (sym e) p.0) (λ e. subst Proper (sym e) p.1)) (⊎_elim (λ e. subst Proper (sym e) p.2) (λ e. subst Proper (sym e) p.3)) h

pub given_proper : (self : Decimetre) (m : Mark) → Given exact self m → Proper m
given_proper self m h = mark_proper m _ (at_proper h.from h.to h.from' h.to') h.is

pub lower_positive : (m : Mark) → Proper m → 0 < lower_of m
lower_positive Start p = lit≤ tt
lower_positive (Inside part) p = omega arith
lower_positive End p = lit≤ tt
