-- Places of a chart: the place after one is one, and no two come before the same one, since `prev` reads the place before off the chart.
use Rattle.std.proofs.Common.{◌≡◌, ℕ, ◌-◌, ◌<◌, cond, eqb, List, [], ◌∷◌, Some, None, Option, sym, refl, ap, ◌∙◌, subst, inl, inr, arith}
use Rattle.std.proofs.lemmas.Bool.{eqb-true, eqb-false, eq-eqb, ne_eqb, cond-true, cond-false, cond_both}
use Rattle.plane.specs.declared.ring.Ring.{Ring}
use Rattle.rules.specs.Lists.{In, Once, first, behind}
use Rattle.rules.specs.Chart.{Chart, Sound, Place, corner, crossing, other, next_corner, reach, next}
use Rattle.rules.specs.declared.event.Event.{Event}
use Rattle.rules.specs.declared.event.Event.TheVariants.{Corner}
use Rattle.rules.specs.Rules.{event_of}

-- a place of the chart
abbrev pub Valid : Chart → Place → Type 0
Valid c (corner r i) = i < c.corners r
Valid c (crossing x r) = x < c.count

-- the event of a place
abbrev pub event_at : Chart → Place → Event
event_at c (corner r i) = Corner r i
event_at c (crossing x r) = event_of c x

-- a crossing's own place: left along its leaving side
abbrev pub own : Chart → ℕ → Place
own c x = crossing x (c.leaving x)

-- the last of a list
abbrev pub last : List ℕ → Option ℕ
last [] = None
last (x ∷ []) = Some x
last (x ∷ (y ∷ ys)) = last (y ∷ ys)

-- what stands right before y
abbrev pub before : ℕ → List ℕ → Option ℕ
before y [] = None
before y (x ∷ []) = None
before y (x ∷ (z ∷ zs)) = cond (eqb y z) (Some x) (before y (z ∷ zs))

pub in_first : (l : List ℕ) (y : ℕ) → first l ≡ Some y → In y l
in_first [] y p = cc
in_first (x ∷ xs) y p = inl (cc)

-- what stands behind another is not the list's first
pub in_tail : (z : ℕ) (zs : List ℕ) (x y : ℕ) → behind x (z ∷ zs) ≡ Some y → In y zs
in_tail z [] x y p = grind arith
in_tail z (w ∷ ws) x y p = cond_both (eqb x z) (Some w) (behind x (w ∷ ws)) (λ o. o ≡ Some y → In y (w ∷ ws)) (λ _. in_first (w ∷ ws) y) (λ _ q. inr (in_tail w ws x y q)) p

pub in_behind : (l : List ℕ) (x y : ℕ) → behind x l ≡ Some y → In y l
in_behind [] x y p = cc
in_behind (z ∷ zs) x y p = inr (in_tail z zs x y p)

-- y does not stand behind the first of the list
before_not_in : (x : ℕ) (xs : List ℕ) (y : ℕ) → (In y xs → ⊥) → before y (x ∷ xs) ≡ None
before_not_in x [] y h = refl
before_not_in x (z ∷ zs) y h = cond-false (eqb y z) (Some x) (before y (z ∷ zs)) (ne_eqb y z (λ e. h (inl e))) ∙ before_not_in z zs y (λ i. h (inr i))

pub before_first : (l : List ℕ) (y : ℕ) → Once l → first l ≡ Some y → before y l ≡ None
before_first [] y u p = refl
before_first (x ∷ xs) y u p = before_not_in x xs y (λ h. u.0 (subst (λ z. In z xs) (cc) h))

pub before_behind : (l : List ℕ) (x y : ℕ) → Once l → behind x l ≡ Some y → before y l ≡ Some x
before_behind [] x y u p = cc
before_behind (z ∷ []) x y u p = absurd (in_tail z [] x y p)
before_behind (z ∷ (w ∷ ws)) x y u p =
    cond_both (eqb x z) (Some w) (behind x (w ∷ ws)) (λ o. o ≡ Some y → before y (z ∷ (w ∷ ws)) ≡ Some x)
    (λ e q. cond-true (eqb y w) (Some z) (before y (w ∷ ws)) (eq-eqb y w (cc)) ∙ ap Some (sym (eqb-true x z e)))
    (λ e q. cond-false (eqb y w) (Some z) (before y (w ∷ ws)) (ne_eqb y w (λ s. u.1.0 (rw (← s) (in_tail w ws x y q)))) ∙ before_behind (w ∷ ws) x y u.1 q)
    p

-- what has nothing behind it stands last
pub last_in : (l : List ℕ) (x : ℕ) → In x l → behind x l ≡ None → last l ≡ Some x
last_in [] x i p = absurd i
last_in (z ∷ []) x (inl e) p = ap Some (sym e)
last_in (z ∷ []) x (inr i) p = absurd i
last_in (z ∷ (w ∷ ws)) x i p =
    cond_both (eqb x z) (Some w) (behind x (w ∷ ws)) (λ o. o ≡ None → last (w ∷ ws) ≡ Some x)
    (λ e q. cc)
    (λ e q. last_in (w ∷ ws) x (not_first (eqb-false x z e) i) q)
    p
  where
    not_first : (x ≡ z → ⊥) → In x (z ∷ (w ∷ ws)) → In x (w ∷ ws)
    not_first d (inl e) = absurd (d e)
    not_first d (inr j) = j

pub last_none : (l : List ℕ) → first l ≡ None → last l ≡ None
last_none [] p = refl
last_none (x ∷ xs) p = cc

-- the corner before corner j of a ring, round the ring
abbrev pub before_corner : Chart → Ring → ℕ → ℕ
before_corner c r j = cond (eqb j 0) (c.corners r - 1) (j - 1)

-- a crossing on edge i of ring r, left along that ring, or else the corner that begins the edge
abbrev pub left_along : Ring → ℕ → Option ℕ → Place
left_along r i (Some x) = crossing x r
left_along r i None = corner r i

-- the place before a place
abbrev pub prev : Chart → Place → Place
prev c (corner r j) = left_along r (before_corner c r j) (last (c.along r (before_corner c r j)))
prev c (crossing y s) = left_along (other s) (c.edge (other s) y) (before y (c.along (other s) (c.edge (other s) y)))

pub next_corner_below : (c : Chart) (r : Ring) (i : ℕ) → i < c.corners r → next_corner c r i < c.corners r
next_corner_below c r i h = grind arith

pub before_next_corner : (c : Chart) (r : Ring) (i : ℕ) → i < c.corners r → before_corner c r (next_corner c r i) ≡ i
before_next_corner c r i h = grind arith

module _ (c : Chart) (sound : Sound c) where
  valid_reach : (r : Ring) (i : ℕ) (o : Option ℕ) → i < c.corners r → ((y : ℕ) → o ≡ Some y → In y (c.along r i)) → Valid c (reach c r i o)
  valid_reach r i (Some y) h f = (sound.on_its_edge r i y (f y refl)).0
  valid_reach r i None h f = next_corner_below c r i h

  pub valid_next : (p : Place) → Valid c p → Valid c (next c p)
  valid_next (corner r i) h = valid_reach r i (first (c.along r i)) h (in_first (c.along r i))
  valid_next (crossing x r) h = grind (arith, valid_reach, in_behind)

  prev-reach-corner : (r : Ring) (i : ℕ) (q : Option ℕ) → i < c.corners r → last (c.along r i) ≡ q → prev c (corner r (next_corner c r i)) ≡ left_along r i q
  prev-reach-corner r i q h e = grind arith

  from_corner : (r : Ring) (i : ℕ) → i < c.corners r → (o : Option ℕ) → first (c.along r i) ≡ o → prev c (reach c r i o) ≡ corner r i
  from_corner r i h (Some y) e = grind (arith, in_first, before_first)
  from_corner r i h None e = prev-reach-corner r i None h (last_none (c.along r i) e)

  from_crossing : (r : Ring) (x i : ℕ) → In x (c.along r i) → i < c.corners r → (o : Option ℕ) → behind x (c.along r i) ≡ o → prev c (reach c r i o) ≡ crossing x r
  from_crossing r x i h k (Some y) e = grind (arith, in_behind, before_behind)
  from_crossing r x i h k None e = prev-reach-corner r i (Some x) k (last_in (c.along r i) x h e)

  -- prev undoes next
  pub prev_next : (p : Place) → Valid c p → prev c (next c p) ≡ p
  prev_next (corner r i) h = from_corner r i h (first (c.along r i)) refl
  prev_next (crossing x r) h = grind (arith, from_crossing)

pub next_injective : (c : Chart) → Sound c → (p q : Place) → Valid c p → Valid c q → next c p ≡ next c q → p ≡ q
next_injective c sound p q h k e = sym (prev_next c sound p h) ∙ (ap (prev c) e ∙ prev_next c sound q k)
