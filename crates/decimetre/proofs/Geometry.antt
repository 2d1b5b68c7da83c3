-- The laws of the plane that the answers of the exact arithmetic keep. Assumes nothing.
use Rattle.std.proofs.Common.{◌≡◌, Bool, true, false, cond, eqb, ℤ, pos, ◌*ℤ◌, neg_ℤ, nat_abs, ◌≤ℤ◌, ◌<ℤ◌, Some, None, Decides, Option, sym, refl, ap, ◌∙◌, subst, inl, inr, ⊎_elim, arith}
use lib.Signed.{lt_z}
use Rattle.std.proofs.lemmas.Int.{ints}
use Rattle.std.proofs.lemmas.Bool.{cond_both, eqb-true, eqb-false}
use Rattle.plane.specs.declared.answer.Side.TheVariants.{Left, Right, Level}
use Rattle.plane.specs.declared.answer.Meet.{Meet}
use Rattle.plane.specs.declared.answer.Meet.TheVariants.{Apart, Overlap}
use Rattle.decimetre.specs.declared.corner.Corner.{Corner}
use Rattle.plane.specs.declared.mark.Mark.TheVariants.{Start, End}
use Rattle.plane.specs.Marks.{both, overlap_of}
use Rattle.decimetre.specs.Exact.{Mark, area2, side_at, near3, near4, denom, num1, num2, share, crossing, between_at, parallel, meet_of, meet_at, upper_of, lower_of, perp, passed_at, cross}
use Rattle.decimetre.specs.Plane.{doubled_area, SideBySign, AtOnePoint, CrossesAt, SharedCrosses, NotParallel, Climbs, HalfOpen}
use Rattle.decimetre.proofs.Ratios.{one_place, vanishes, equal_of, above_zero}
use Rattle.decimetre.proofs.Identities.{area_swept, perp_climbs, perp_falls, denom-cross, one_x, one_y, first_gap, second_gap}
use Rattle.decimetre.proofs.Marks.{StandsIf, share_stands, IsMark, share_is, stands_at}

-- a side is the sign of the doubled area
pub side_by_sign : (a b c : Corner) → near3 a b c ≡ true → SideBySign a b c (side_at a b c)
side_by_sign a b c near = rw near (go (lt_z (pos 0) (area2 a b c)) (lt_z (area2 a b c) (pos 0)) refl refl)
  where
    go : (s t : Bool) → lt_z (pos 0) (area2 a b c) ≡ s → lt_z (area2 a b c) (pos 0) ≡ t → SideBySign a b c (cond s Left (cond t Right Level))
    go true t e f = subst (λ z. pos 0 <ℤ z) (area_swept a b c) (omega (arith, ints))
    go false true e f = subst (λ z. z <ℤ pos 0) (area_swept a b c) (omega (arith, ints))
    go false false e f = sym (area_swept a b c) ∙ omega (arith, ints)

-- what holds of every answer that is no crossing holds of parallel edges
both_any : (P : Meet Mark → Type 0) (s t : Option Mark) (f : Mark → Mark → Meet Mark) (other : Meet Mark) → ((p q : Mark) → P (f p q)) → P other → P (both s t f other)
both_any P None t f other h k = k
both_any P (Some s) None f other h k = k
both_any P (Some s) (Some t) f other h k = h s t

parallel_any : (P : Meet Mark → Type 0) (a b c d : Corner) → P Apart → ((p q r s : Mark) → P (Overlap p q r s)) → P (parallel a b c d)
parallel_any P a b c d apart over = cond_both (eqb (nat_abs (area2 a b c)) 0) _ Apart P (λ _. overlap_any (between_at a b c) (between_at a b d) (between_at c d a) (between_at c d b)) (λ _. apart)
  where
    overlap_any : (c d a b : Option Mark) → P (overlap_of c d a b)
    overlap_any c d a b = both_any P c d _ _ (λ p q. over p Start q End) (both_any P a b _ _ (λ p q. over Start p End q) (both_any P c b _ _ (λ p q. over p Start End q) (both_any P c a _ _ (λ p q. over p Start Start q) (both_any P d b _ _ (λ p q. over p End End q) (both_any P d a _ _ (λ p q. over p End Start q) apart)))))

-- the two ways of a meeting
meet_ways : (P : Meet Mark → Type 0) (a b c d : Corner) → (denom a b c d ≡ pos 0 → P (parallel a b c d)) → ((denom a b c d ≡ pos 0 → ⊥) → P (crossing (share (num1 a b c d) (denom a b c d)) (share (num2 a b c d) (denom a b c d)))) → P (meet_of a b c d)
meet_ways P a b c d level crosses = cond_both (eqb (nat_abs (denom a b c d)) 0) _ _ P
    (λ e. level (zero_of (denom a b c d) (eqb-true _ _ e)))
    (λ e. crosses (λ z. eqb-false _ _ e (ap nat_abs z)))
  where
    zero_of : (z : ℤ) → nat_abs z ≡ 0 → z ≡ pos 0
    zero_of z e = omega (arith, ints)

-- D is 0 exactly where the cross product is
cross-zero : (a b c d : Corner) → denom a b c d ≡ pos 0 → cross a b c d ≡ pos 0
cross-zero a b c d e = let is = denom-cross a b c d in omega (arith, ints)

denom-zero : (a b c d : Corner) → cross a b c d ≡ pos 0 → denom a b c d ≡ pos 0
denom-zero a b c d e = let is = denom-cross a b c d in omega (arith, ints)

-- a crossing is of edges that are not parallel, an overlap of edges that are
pub not_parallel : (a b c d : Corner) → NotParallel a b c d (meet_at a b c d)
not_parallel a b c d = cond_both (near4 a b c d) (meet_of a b c d) Apart (NotParallel a b c d)
    (λ _. meet_ways (NotParallel a b c d) a b c d (λ zero. parallel_any (NotParallel a b c d) a b c d tt (λ p q r s. cross-zero a b c d zero))
    (λ n. go n (share (num1 a b c d) (denom a b c d)) (share (num2 a b c d) (denom a b c d))))
    (λ _. tt)
  where
    go : (denom a b c d ≡ pos 0 → ⊥) → (s t : Option Mark) → NotParallel a b c d (crossing s t)
    go n None t = tt
    go n (Some s) None = tt
    go n (Some s) (Some t) = λ e. n (denom-zero a b c d e)

-- both marks of a crossing are one point
pub at_one_point : (a b c d : Corner) → AtOnePoint a b c d (meet_at a b c d)
at_one_point a b c d = cond_both (near4 a b c d) (meet_of a b c d) Apart (AtOnePoint a b c d)
    (λ _. meet_ways (AtOnePoint a b c d) a b c d (λ _. parallel_any (AtOnePoint a b c d) a b c d tt (λ p q r s. tt))
    (λ n. go n (share (num1 a b c d) (denom a b c d)) (share (num2 a b c d) (denom a b c d)) (share_stands (num1 a b c d) (denom a b c d) n) (share_stands (num2 a b c d) (denom a b c d) n)))
    (λ _. tt)
  where
    go : (denom a b c d ≡ pos 0 → ⊥) → (s t : Option Mark) → StandsIf (num1 a b c d) (denom a b c d) s → StandsIf (num2 a b c d) (denom a b c d) t → AtOnePoint a b c d (crossing s t)
    go n None t h k = tt
    go n (Some s) None h k = tt
    go n (Some s) (Some t) h k = record {
      on_x = one_place a.x b.x c.x d.x (pos (upper_of s)) (pos (lower_of s)) (pos (upper_of t)) (pos (lower_of t)) (num1 a b c d) (num2 a b c d) (denom a b c d) n h.ratio k.ratio (one_x a b c d);
      on_y = one_place a.y b.y c.y d.y (pos (upper_of s)) (pos (lower_of s)) (pos (upper_of t)) (pos (lower_of t)) (num1 a b c d) (num2 a b c d) (denom a b c d) n h.ratio k.ratio (one_y a b c d);
    }

-- two edges that are not parallel and share a point cross, and there
pub shared_crosses : (a b c d : Corner) → near4 a b c d ≡ true → SharedCrosses a b c d (meet_at a b c d)
shared_crosses a b c d near u l v m first second apart one =
    rw near (meet_ways (CrossesAt u l v m) a b c d (λ zero. absurd (n zero))
    (λ _. go (share S D) (share T D) (share_stands S D n) (share_stands T D n) (share_is S D u l n first.within first.parted on_first) (share_is T D v m n second.within second.parted on_second)))
  where
    S : ℤ
    S = num1 a b c d

    T : ℤ
    T = num2 a b c d

    D : ℤ
    D = denom a b c d

    n : D ≡ pos 0 → ⊥
    n e = apart (cross-zero a b c d e)

    on_first : pos u *ℤ D ≡ pos l *ℤ S
    on_first = equal_of _ _ (vanishes (pos m) _ _ _ _ _ _ _ (above_zero second.parted) one.on_x one.on_y (first_gap a b c d (pos u) (pos l) (pos v) (pos m)))

    on_second : pos v *ℤ D ≡ pos m *ℤ T
    on_second = equal_of _ _ (vanishes (pos l) _ _ _ _ _ _ _ (above_zero first.parted) one.on_x one.on_y (second_gap a b c d (pos u) (pos l) (pos v) (pos m)))

    go : (s t : Option Mark) → StandsIf S D s → StandsIf T D t → IsMark s → IsMark t → CrossesAt u l v m (crossing s t)
    go None t h k i j = i
    go (Some s) None h k i j = j
    go (Some s) (Some t) h k i j = (stands_at s u l S D n h on_first, stands_at t v m T D n k on_second)

-- an edge that climbs past p neither way does not count
uncounted : (p a b : Corner) → (Climbs p a b → ⊥) → (Climbs p b a → ⊥) → Decides false (HalfOpen p a b)
uncounted p a b up down = ((λ e. absurd cc), ⊎_elim (λ k. absurd (up k)) (λ k. absurd (down k)))

-- and one that climbs past p at most one way counts by the sign of the area
climbs_from : (p a b : Corner) → a.y ≤ℤ p.y → p.y <ℤ b.y → Decides (lt_z (perp p a b) (pos 0)) (HalfOpen p a b)
climbs_from p a b from short = (
  (λ e. inl (record { from = from; short = short; left = subst (λ z. pos 0 <ℤ z) (sym is) (omega (arith, ints)) })),
  ⊎_elim (λ k. let h : pos 0 <ℤ neg_ℤ (perp p a b) = subst (λ z. pos 0 <ℤ z) is k.left in sym (omega (arith, ints))) (λ k. let h = k.from in absurd (omega (arith, ints))),
)
  where
    is : doubled_area a b p ≡ neg_ℤ (perp p a b)
    is = perp_climbs p a b

climbs_to : (p a b : Corner) → b.y ≤ℤ p.y → p.y <ℤ a.y → Decides (lt_z (pos 0) (perp p a b)) (HalfOpen p a b)
climbs_to p a b from short = (
  (λ e. inr (record { from = from; short = short; left = subst (λ z. pos 0 <ℤ z) (sym is) (omega (arith, ints)) })),
  ⊎_elim (λ k. let h = k.from in absurd (omega (arith, ints))) (λ k. let h : pos 0 <ℤ perp p a b = subst (λ z. pos 0 <ℤ z) is k.left in sym (omega (arith, ints))),
)
  where
    is : doubled_area b a p ≡ perp p a b
    is = perp_falls p a b

-- an edge counts for a point exactly where it climbs past it, from one of its ends to the other
pub half_open : (p a b : Corner) → near3 p a b ≡ true → Decides (passed_at p a b) (HalfOpen p a b)
half_open p a b near = rw near (go (lt_z p.y a.y) (lt_z p.y b.y) refl refl)
  where
    go : (s t : Bool) → lt_z p.y a.y ≡ s → lt_z p.y b.y ≡ t → Decides (cond s (cond t false (lt_z (pos 0) (perp p a b))) (cond t (lt_z (perp p a b) (pos 0)) false)) (HalfOpen p a b)
    go true true e f = uncounted p a b (λ k. let h = k.from in omega (arith, ints)) (λ k. let h = k.from in omega (arith, ints))
    go true false e f = climbs_to p a b (omega (arith, ints)) (omega (arith, ints))
    go false true e f = climbs_from p a b (omega (arith, ints)) (omega (arith, ints))
    go false false e f = uncounted p a b (λ k. let h = k.short in omega (arith, ints)) (λ k. let h = k.short in omega (arith, ints))
