-- Where sides alternate, every crossing of a loop is passed at its own leaving side.
use Rattle.std.proofs.Common.{◌≡◌, ℕ, ◌<◌, List, [], ◌∷◌, Some, None, Option, refl, ap, ◌∙◌, arith}
use Rattle.plane.specs.declared.ring.Ring.{Ring}
use Rattle.rules.specs.declared.event.Event.{Event}
use Rattle.rules.specs.Lists.{first}
use Rattle.rules.specs.Chart.{Chart, Sound, Place, corner, crossing, next, reach, other, Reaches, at_once, past_a_corner, Alternate}
use Rattle.rules.proofs.Places.{Valid, own, valid_next}
use Rattle.rules.proofs.Stretches.{Leads}

-- the ring that is followed from a place on
abbrev pub ring_of : Place → Ring
ring_of (corner r i) = r
ring_of (crossing x r) = r

module _ (c : Chart) where
  reach-side : (r s : Ring) (i y : ℕ) (o : Option ℕ) → reach c r i o ≡ crossing y s → s ≡ other r
  reach-side r s i y None h = cc
  reach-side r s i y (Some x) h = cc

  next_side : (p : Place) (y : ℕ) (s : Ring) → next c p ≡ crossing y s → s ≡ other (ring_of p)
  next_side (corner r i) y s h = reach-side r s i y (first (c.along r i)) h
  next_side (crossing x r) y s h = grind arith

  next_ring : (p : Place) (s : Ring) (j : ℕ) → next c p ≡ corner s j → s ≡ ring_of p
  next_ring (corner r i) s j h = grind arith
  next_ring (crossing x r) s j h = grind arith

  reaches_side : (p : Place) (y : ℕ) (r : Ring) → Reaches c p y r → r ≡ other (ring_of p)
  reaches_side p y r (at_once e) = next_side p y r e
  reaches_side p y r (past_a_corner {s = s} {i = i} e k) = reaches_side (corner s i) y r k ∙ ap other (next_ring p s i e)

-- a crossing at its own side, or a corner from which the next crossing is reached so
abbrev pub Keeps : Chart → Place → Type 0
Keeps c (corner r i) = (i < c.corners r) × ((y : ℕ) (s : Ring) → Reaches c (corner r i) y s → s ≡ c.leaving y)
Keeps c (crossing x r) = (x < c.count) × (r ≡ c.leaving x)

pub keeps_valid : (c : Chart) (p : Place) → Keeps c p → Valid c p
keeps_valid c (corner r i) k = k.0
keeps_valid c (crossing x r) k = k.0

pub keeps_own : (c : Chart) (x : ℕ) → x < c.count → Keeps c (own c x)
keeps_own c x h = (h, refl)

pub keeps_is_own : (c : Chart) (x : ℕ) (r : Ring) → Keeps c (crossing x r) → crossing x r ≡ own c x
keeps_is_own c x r k = ap (λ s. crossing x s) k.1

module _ (c : Chart) (sound : Sound c) (alt : Alternate c) where
  own_side : (x y : ℕ) (r s : Ring) → x < c.count → r ≡ c.leaving x → Reaches c (crossing x r) y s → s ≡ c.leaving y
  own_side x y r s h e k = grind (arith, reaches_side)

  -- all crossings reached first from p are reached at their own side
  Sided : Place → Type 0
  Sided p = (y : ℕ) (s : Ring) → Reaches c p y s → s ≡ c.leaving y

  keeps_sided : (p : Place) → Keeps c p → Sided p
  unfolding Sided
  keeps_sided (corner r i) k = k.1
  keeps_sided (crossing x r) k = λ y s. own_side x y r s k.0 k.1

  sided_next : (p q : Place) → Sided p → next c p ≡ q → Valid c q → Keeps c q
  unfolding Sided
  sided_next p (corner r i) h e v = (v, (λ y s k. h y s (past_a_corner e k)))
  sided_next p (crossing x r) h e v = (v, h x r (at_once e))

  pub keeps_next : (p : Place) → Keeps c p → Keeps c (next c p)
  keeps_next p k = sided_next p (next c p) (keeps_sided p k) refl (valid_next c sound p (keeps_valid c p k))

  pub leads_keeps : (q p : Place) (l : List Event) → Keeps c p → Leads c q l p → Keeps c q
  leads_keeps q p [] v h = rw h v
  leads_keeps q p (e ∷ l) v h = rw h.1 (keeps_next h.0 (leads_keeps h.0 p l v h.3))
