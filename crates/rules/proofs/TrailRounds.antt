-- On every trail where there are crossings and sides alternate, each loop is a full round, and the loop under way is a stretch from its start.
use Rattle.std.proofs.Common.{◌≡◌, ℕ, ◌<◌, Bool, true, false, cond, eqb, ◌⊎◌, List, [], ◌∷◌, ◌++◌, Some, Option, sym, refl, ap, ◌∙◌, subst, inl, inr}
use Rattle.std.proofs.lemmas.Bool.{eq-eqb}
use Rattle.plane.specs.declared.ring.Ring.{Ring}
use Rattle.rules.specs.declared.event.Event.{Event}
use Rattle.rules.specs.declared.event.Event.TheVariants.{Crossing, Corner, Closing}
use Rattle.rules.specs.Lists.{In, Once, has}
use Rattle.rules.specs.Chart.{Chart, Sound, Place, corner, crossing, Alternate}
use Rattle.rules.specs.Rules.{crossings, under_way, due, due_in, first_due, due_place, at, event_of}
use Rattle.rules.proofs.Members.{has_in}
use Rattle.rules.proofs.Places.{event_at, own}
use Rattle.rules.proofs.Trails.{Allowed, Trail, begun, went_on}
use Rattle.rules.proofs.NextEvent.{Starts, with_crossing, with_round, starts}
use Rattle.rules.proofs.Unrepeated.{trail_once}
use Rattle.rules.proofs.Loops.{closed}
use Rattle.rules.proofs.Stretches.{Leads, first_in}
use Rattle.rules.proofs.Rounds.{flat, Round}
use Rattle.rules.proofs.ClosesAtStart.{closes_own}

pub crossings_parts : (past : List Event) → crossings past ≡ crossings (under_way past) ++ flat (closed past)
crossings_parts [] = refl
crossings_parts (Crossing x a b ∷ es) = ap {B = List ℕ} (λ t. x ∷ t) (crossings_parts es)
crossings_parts (Corner r i ∷ es) = crossings_parts es
crossings_parts (Closing ∷ es) = crossings_parts es

-- the loop under way goes from its start's own place to the place that is due
abbrev pub Under : Chart → List Event → Type 0
Under c [] = Unit {0}
Under c (e ∷ es) = (x : ℕ) × (x < c.count) × Leads c (due_place c e es) (e ∷ es) (own c x)

pub record Standing (c : Chart) (past : List Event) : Type 0 where
  pub rounds : (l : List Event) → In l (closed past) → Round c l
  pub under : Under c (under_way past)

module _ (c : Chart) (sound : Sound c) (some : eqb c.count 0 ≡ false) where
  -- at rest a loop begins at a crossing that was not handed over
  pub first_fresh : (past : List Event) (o : Option ℕ) (e : Event) → Allowed c past o → first_due c (record { past = past; chosen = o }) ≡ Some e → (x : ℕ) × (e ≡ event_of c x) × (x < c.count) × (has x (crossings past) ≡ false)
  first_fresh past o e a h = go (starts c sound past o e a h)
    where
      go : Starts c past e → (x : ℕ) × (e ≡ event_of c x) × (x < c.count) × (has x (crossings past) ≡ false)
      go (with_crossing x is below free) = (x, is, below, free)
      go (with_round r _ none _) = cc (eq-eqb c.count 0 none)

  -- at a corner no loop closes
  pub at_corner : (past : List Event) (r : Ring) (i : ℕ) → at c past (corner r i) ≡ Corner r i
  at_corner past r i = rw some

  under_more : (e f : Event) (fs : List Event) → Under c (f ∷ fs) → e ≡ event_at c (due_place c f fs) → Under c (e ∷ (f ∷ fs))
  under_more e f fs k h = (k.0, k.1, (due_place c f fs, refl, h, k.2))

  -- one more event, and none of them a closing
  stands_begun : (past : List Event) (x : ℕ) → under_way past ≡ [] → x < c.count → Standing c past → Standing c (event_of c x ∷ past)
  stands_begun past x u v k = record {
    rounds = k.rounds;
    under = rw u (x, v, (own c x, refl, refl, refl));
  }

  stands_crossing : (past : List Event) (f : Event) (fs : List Event) (y : ℕ) (s : Ring) → under_way past ≡ f ∷ fs → due_place c f fs ≡ crossing y s → Standing c past → Standing c (event_of c y ∷ past)
  stands_crossing past f fs y s u d k = record {
    rounds = k.rounds;
    under = rw u (under_more (event_of c y) f fs (subst (Under c) u k.under) (sym (ap (event_at c) d)));
  }

  stands_corner : (past : List Event) (f : Event) (fs : List Event) (r : Ring) (i : ℕ) → under_way past ≡ f ∷ fs → due_place c f fs ≡ corner r i → Standing c past → Standing c (Corner r i ∷ past)
  stands_corner past f fs r i u d k = record {
    rounds = k.rounds;
    under = rw u (under_more (Corner r i) f fs (subst (Under c) u k.under) (sym (ap (event_at c) d)));
  }

  module _ (alt : Alternate c) where
    stands_closing : (past : List Event) (f : Event) (fs : List Event) (y : ℕ) (s : Ring) → under_way past ≡ f ∷ fs → due_place c f fs ≡ crossing y s → has y (crossings past) ≡ true → Once (crossings past) → Standing c past → Standing c (Closing ∷ past)
    stands_closing past f fs y s u d h once k = record {
      rounds = λ l i. go l i;
      under = tt;
    }
      where
        whole : Round c (f ∷ fs)
        whole =
            let w : Under c (f ∷ fs) = subst (Under c) u k.under in
            let i = first_in c (due_place c f fs) f fs w.0 (c.leaving w.0) w.2 in
            let p : crossings past ≡ crossings (f ∷ fs) ++ flat (closed past) = crossings_parts past ∙ ap (λ t. crossings t ++ flat (closed past)) u in
            record {
              start_at = w.0;
              known = w.1;
              begins = i;
              goes_round = closes_own c sound alt w.0 y s (f ∷ fs) (closed past) w.1 i (rw (← d) w.2) k.rounds (rw (← p) once) (rw (← p) (has_in y (crossings past) h));
            }

        go : (l : List Event) → (l ≡ under_way past) ⊎ In l (closed past) → Round c l
        go l (inl e) = rw (e ∙ u) whole
        go l (inr i) = k.rounds l i

    stands_at : (past : List Event) (f : Event) (fs : List Event) (q : Place) → under_way past ≡ f ∷ fs → due_place c f fs ≡ q → Once (crossings past) → Standing c past → Standing c (at c past q ∷ past)
    stands_at past f fs (corner r i) u d _ k = rw (at_corner past r i) (stands_corner past f fs r i u d k)
    stands_at past f fs (crossing y s) u d once k = go (has y (crossings past)) refl
      where
        go : (b : Bool) → has y (crossings past) ≡ b → Standing c (cond b Closing (event_of c y) ∷ past)
        go true h = stands_closing past f fs y s u d h once k
        go false h = stands_crossing past f fs y s u d k

    pub stands_on : (past : List Event) (o : Option ℕ) (e : Event) → Allowed c past o → due c (record { past = past; chosen = o }) ≡ Some e → Once (crossings past) → Standing c past → Standing c (e ∷ past)
    stands_on past o e a h once k = go (under_way past) refl h
      where
        go : (u : List Event) → under_way past ≡ u → due_in c (record { past = past; chosen = o }) u ≡ Some e → Standing c (e ∷ past)
        go [] u d = let j = first_fresh past o e a d in rw j.1 (stands_begun past j.0 u j.2 k)
        go (f ∷ fs) u d = let j : at c past (due_place c f fs) ≡ e = cc in rw (← j) (stands_at past f fs (due_place c f fs) u refl once k)

    pub trail_stands : (past : List Event) → Trail c past → Standing c past
    trail_stands [] begun = record { rounds = λ l i. elim i [ ]; under = tt }
    trail_stands (e ∷ past) (went_on o t a d) = stands_on past o e a d (trail_once c sound t) (trail_stands past t)
