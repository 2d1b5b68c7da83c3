-- What one more event of a trail can be, and where the latest event of the loop under way stands; with it, an induction over trails.
use Rattle.std.proofs.Common.{◌≡◌, ℕ, ◌<◌, Bool, false, ◌&&◌, eqb, List, [], ◌∷◌, Some, None, Option, refl, ap, ◌∙◌, arith}
use Rattle.std.proofs.lemmas.Bool.{eqb-true, cond_both}
use Rattle.plane.specs.declared.ring.Ring.{Ring}
use Rattle.plane.specs.declared.ring.Ring.TheVariants.{One}
use Rattle.rules.specs.declared.event.Event.{Event}
use Rattle.rules.specs.declared.event.Event.TheVariants.{Crossing, Corner, Closing}
use Rattle.rules.specs.Lists.{In, has, upto, first_but}
use Rattle.rules.specs.Chart.{Chart, Sound, Place, corner, crossing, next}
use Rattle.rules.specs.Rules.{under_way, crossings, event_of, start, due_place, at, in_order, begun_at, or_else, round_of, first_due, due_in, due}
use Rattle.rules.proofs.Members.{in_joined, from_joined, in_upto, first_but_some}
use Rattle.rules.proofs.Places.{Valid, event_at, valid_next}
use Rattle.rules.proofs.Trails.{Allowed, Trail, begun, went_on}

-- the place of the latest event of the loop under way
abbrev pub spot : Chart → Event → List Event → Place
spot c e [] = start c e
spot c e (f ∷ es) = due_place c f es

pub due_next : (c : Chart) (e : Event) (es : List Event) → due_place c e es ≡ next c (spot c e es)
due_next c e [] = refl
due_next c e (f ∷ es) = refl

-- at this corner a round of the corners is complete
abbrev pub round_over : Chart → ℕ → Bool
round_over c i = eqb c.count 0 && eqb i 0

-- at this place no loop closes
abbrev pub Free : Chart → List Event → Place → Type 0
Free c past (corner r i) = round_over c i ≡ false
Free c past (crossing x r) = has x (crossings past) ≡ false

-- what is handed over at rest
pub data Starts (c : Chart) (past : List Event) (e : Event) : Type 0 where
  with_crossing : (x : ℕ) → e ≡ event_of c x → x < c.count → has x (crossings past) ≡ false → Starts c past e
  with_round : (r : Ring) → e ≡ Corner r 0 → c.count ≡ 0 → past ≡ [] → Starts c past e

-- what is handed over at a place
pub data HandedAt (c : Chart) (past : List Event) (p : Place) (e : Event) : Type 0 where
  closes : e ≡ Closing → HandedAt c past p e
  goes_on : e ≡ event_at c p → Free c past p → HandedAt c past p e

pub handed_at : (c : Chart) (past : List Event) (p : Place) (e : Event) → at c past p ≡ e → HandedAt c past p e
handed_at c past (corner r i) e d = grind arith
handed_at c past (crossing x r) e d = grind arith

round_first : (o : Option Ring) (past : List Event) (e : Event) → round_of o past ≡ Some e → (r : Ring) × (e ≡ Corner r 0) × (past ≡ [])
round_first (Some r) [] e d = (r, cc, refl)
round_first (Some r) (f ∷ es) e d = cc
round_first None es e d = cc

begun_first : (c : Chart) (o : Option ℕ) (e : Event) → begun_at c o ≡ Some e → (x : ℕ) × (o ≡ Some x) × (e ≡ event_of c x)
begun_first c (Some x) e d = (x, refl, cc)
begun_first c None e d = cc

module _ (c : Chart) (sound : Sound c) where
  pub in_order_below : (x : ℕ) → In x (in_order c) → x < c.count
  in_order_below x i = let j = from_joined (c.along One) x _ i in (sound.on_its_edge One j.0 x j.1).0

  pub in_order_all : (x : ℕ) → x < c.count → In x (in_order c)
  in_order_all x h = let k = sound.all_there One x h in in_joined (c.along One) x (c.edge One x) (upto (c.corners One)) (in_upto (c.corners One) (c.edge One x) k.0) k.1

  free_choice : (past : List Event) (o : Option ℕ) (x : ℕ) → Allowed c past o → or_else o (first_but (crossings past) (in_order c)) ≡ Some x → (x < c.count) × (has x (crossings past) ≡ false)
  free_choice past (Some y) x al d = let e : y ≡ x = cc in rw (← e) (al.0, al.1)
  free_choice past None x al d = let n = first_but_some (crossings past) (in_order c) x d in (in_order_below x n.0, n.1)

  pub starts : (past : List Event) (o : Option ℕ) (e : Event) → Allowed c past o → first_due c (record { past = past; chosen = o }) ≡ Some e → Starts c past e
  starts past o e al d =
      cond_both (eqb c.count 0) (round_of c.inner past) (begun_at c (or_else o (first_but (crossings past) (in_order c)))) (λ q. q ≡ Some e → Starts c past e)
      (λ h q. let r = round_first c.inner past e q in with_round r.0 r.1 (eqb-true c.count 0 h) r.2)
      (λ _ q. let b = begun_first c (or_else o (first_but (crossings past) (in_order c))) e q in let k = free_choice past o b.0 al b.1 in with_crossing b.0 b.2 k.0 k.1)
      d

  -- the latest event of the loop under way is that of its place, and the place is one of the chart
  abbrev pub Stood : List Event → Type 0
  Stood [] = Unit {0}
  Stood (e ∷ es) = (e ≡ event_at c (spot c e es)) × Valid c (spot c e es)

  pub valid_due : (f : Event) (us : List Event) → Stood (f ∷ us) → Valid c (due_place c f us)
  valid_due f us h = rw (due_next c f us) (valid_next c sound (spot c f us) h.1)

  put : (p : Place) (past u : List Event) → under_way past ≡ u → Stood (event_at c p ∷ u) → Stood (under_way (event_at c p ∷ past))
  put p past u w h = grind arith

  stood_first : (past : List Event) (e : Event) → under_way past ≡ [] → Starts c past e → Stood (under_way (e ∷ past))
  stood_first past e w (with_crossing x is below _) = grind arith
  stood_first past e w (with_round r is _ _) = grind arith

  stood_next : (past : List Event) (e f : Event) (us : List Event) → under_way past ≡ f ∷ us → Stood (f ∷ us) → HandedAt c past (due_place c f us) e → Stood (under_way (e ∷ past))
  stood_next past e f us w h (closes is) = rw is tt
  stood_next past e f us w h (goes_on is _) = grind (arith, valid_due)

  stood_more : (past : List Event) (o : Option ℕ) (e : Event) (u : List Event) → under_way past ≡ u → Stood u → Allowed c past o → due_in c (record { past = past; chosen = o }) u ≡ Some e → Stood (under_way (e ∷ past))
  stood_more past o e [] w h al d = stood_first past e w (starts past o e al d)
  stood_more past o e (f ∷ us) w h al d = grind (arith, stood_next)

  pub stood : {past : List Event} → Trail c past → Stood (under_way past)
  stood begun = tt
  stood (went_on {past = past} {e = e} o t al d) = stood_more past o e (under_way past) refl (stood t) al d

  -- what one more event of a trail is
  pub data Came (past : List Event) (e : Event) : Type 0 where
    first_of_loop : under_way past ≡ [] → Starts c past e → Came past e
    end_of_loop : (f : Event) (us : List Event) → under_way past ≡ f ∷ us → e ≡ Closing → Came past e
    within_loop : (q : Place) (rest : List Event) → past ≡ event_at c q ∷ rest → Valid c q → e ≡ event_at c (next c q) → Free c past (next c q) → Came past e

  latest : (past : List Event) (f : Event) (us : List Event) → under_way past ≡ f ∷ us → (rest : List Event) × (past ≡ f ∷ rest)
  latest [] f us w = cc
  latest (Crossing x a b ∷ es) f us w = (es, cc)
  latest (Corner r i ∷ es) f us w = (es, cc)
  latest (Closing ∷ es) f us w = cc

  came_next : (past : List Event) (e f : Event) (us : List Event) → under_way past ≡ f ∷ us → Stood (f ∷ us) → HandedAt c past (due_place c f us) e → Came past e
  came_next past e f us w h (closes is) = end_of_loop f us w is
  came_next past e f us w h (goes_on is free) =
      let l = latest past f us w in
      within_loop (spot c f us) l.0 (l.1 ∙ ap (λ g. g ∷ l.0) h.0) h.1 (is ∙ ap (event_at c) (due_next c f us)) (rw (← due_next c f us) free)

  came_in : (past : List Event) (o : Option ℕ) (e : Event) (u : List Event) → under_way past ≡ u → Stood u → Allowed c past o → due_in c (record { past = past; chosen = o }) u ≡ Some e → Came past e
  came_in past o e [] w h al d = first_of_loop w (starts past o e al d)
  came_in past o e (f ∷ us) w h al d = came_next past e f us w h (handed_at c past (due_place c f us) e (cc))

  pub came : (past : List Event) (o : Option ℕ) (e : Event) → Trail c past → Allowed c past o → due c (record { past = past; chosen = o }) ≡ Some e → Came past e
  came past o e t al d = came_in past o e (under_way past) refl (stood t) al d

  -- induction over trails
  pub on_trails : (P : List Event → Type 0) → P [] → ((past : List Event) (e : Event) → Trail c past → P past → Came past e → P (e ∷ past)) → {past : List Event} → Trail c past → P past
  on_trails P none more begun = none
  on_trails P none more (went_on {past = past} {e = e} o t al d) = more past e t (on_trails P none more t) (came past o e t al d)
