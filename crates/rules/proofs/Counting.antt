-- The totals of a walk: they count its loops, crossings and corners, and none passes what the chart has.
use Rattle.std.proofs.Common.{◌≡◌, ℕ, ◌+◌, ◌<◌, ◌≤◌, cond, ltb, List, [], ◌∷◌, ◌++◌, map, length, Some, None, refl, ap, arith}
use Rattle.std.proofs.lemmas.List.{length-append, length-map}
use Rattle.plane.specs.declared.ring.Ring.{Ring}
use Rattle.plane.specs.declared.ring.Ring.TheVariants.{One, Two}
use Rattle.rules.specs.declared.event.Event.{Event}
use Rattle.rules.specs.declared.event.Event.TheVariants.{Crossing, Corner, Closing}
use Rattle.rules.specs.Lists.{In, upto}
use Rattle.rules.specs.Chart.{Chart, Sound}
use Rattle.rules.specs.declared.totals.Totals.{Totals}
use Rattle.rules.specs.Rules.{State, under_way, crossings, corners_of, closings, totals, gave, step, Finished}
use Rattle.rules.specs.Counts.{most_counted, counted}
use Rattle.rules.specs.Strings.{Reached}
use Rattle.rules.specs.Promise.{Counted}
use Rattle.rules.proofs.Members.{in_left, in_right, in_map, in_upto, upto_below, upto_once, length-upto, once_fits}
use Rattle.rules.proofs.Trails.{Trail, Traced, handed_traced}
use Rattle.rules.proofs.Reached.{reached_traced}
use Rattle.rules.proofs.NextEvent.{Starts, with_crossing, with_round, Came, first_of_loop, end_of_loop, within_loop, on_trails}
use Rattle.rules.proofs.Unrepeated.{items, trail_once, trail_once_corners, known-crossing, known-corner}
use Rattle.rules.proofs.AtEnd.{none_lost}
use Rattle.rules.proofs.Loops.{count_loops}

count_items : (past : List Event) → length (crossings past) + length (corners_of past) ≡ length (items past)
count_items [] = refl
count_items (Crossing x a b ∷ es) = let h = count_items es in omega arith
count_items (Corner r i ∷ es) = let h = count_items es in omega arith
count_items (Closing ∷ es) = count_items es

-- the corners of a chart

abbrev all_corners : Chart → List (Ring × ℕ)
all_corners c = map (λ i. (One, i)) (upto (c.corners One)) ++ map (λ i. (Two, i)) (upto (c.corners Two))

in_all_corners : (c : Chart) (r : Ring) (i : ℕ) → i < c.corners r → In (r, i) (all_corners c)
in_all_corners c One i h = in_left (One, i) (map (λ i. (One, i)) (upto (c.corners One))) _ (in_map (λ i. (One, i)) i (upto (c.corners One)) (in_upto (c.corners One) i h))
in_all_corners c Two i h = in_right (Two, i) (map (λ i. (One, i)) (upto (c.corners One))) _ (in_map (λ i. (Two, i)) i (upto (c.corners Two)) (in_upto (c.corners Two) i h))

length-all_corners : (c : Chart) → length (all_corners c) ≡ c.corners One + c.corners Two
length-all_corners c = simp (length-append, length-map, length-upto)

-- one where a loop is under way
abbrev going : List Event → ℕ
going [] = 0
going (e ∷ es) = 1

module _ (c : Chart) (sound : Sound c) where
  pub few_crossings : {past : List Event} → Trail c past → length (crossings past) ≤ c.count
  few_crossings {past} t = rw (← length-upto c.count)
      (once_fits (crossings past) (upto c.count) (trail_once c sound t) (λ x i. in_upto c.count x (known-crossing c sound t x i)))

  pub few_corners : {past : List Event} → Trail c past → length (corners_of past) ≤ c.corners One + c.corners Two
  few_corners {past} t = rw (← length-all_corners c)
      (once_fits (corners_of past) (all_corners c) (trail_once_corners c sound t) (λ p i. in_all_corners c p.0 p.1 (known-corner c sound t p.0 p.1 i)))

  pub few_items : {past : List Event} → Trail c past → length (items past) ≤ c.count + c.corners One + c.corners Two
  few_items {past} t = grind (arith, few_crossings, few_corners, count_items)

  -- every loop but the round of the corners begins with a crossing
  MoreCrossings : List Event → Type 0
  MoreCrossings past = closings past + going (under_way past) ≤ length (crossings past) + 1

  begun_more : (past : List Event) (e : Event) → MoreCrossings past → under_way past ≡ [] → Starts c past e → MoreCrossings (e ∷ past)
  unfolding MoreCrossings
  begun_more past e h w (with_crossing x is _ _) = grind arith
  begun_more past e h w (with_round r is _ none) = grind arith

  went_more : (past : List Event) (e : Event) → Trail c past → MoreCrossings past → Came c sound past e → MoreCrossings (e ∷ past)
  unfolding MoreCrossings
  went_more past e _ h (first_of_loop w s) = begun_more past e h w s
  went_more past e _ h (end_of_loop f us w is) = grind arith
  went_more past e _ h (within_loop q rest was _ is _) = grind arith

  pub few_loops : {past : List Event} → Trail c past → closings past ≤ c.count + 1
  unfolding MoreCrossings
  few_loops t = let h = on_trails c sound MoreCrossings (omega arith) went_more t in let k = few_crossings t in omega arith

  all_crossings : (s : State) → Trail c s.past → Finished c s → length (crossings s.past) ≡ c.count
  all_crossings s t h =
      let a = few_crossings t in
      let b = once_fits (upto c.count) (crossings s.past) (upto_once c.count) (λ x i. none_lost c sound s h x (upto_below c.count x i)) in
      let n = length-upto c.count in
      omega arith

  -- one more event of a trail is counted

  fits : (n : ℕ) (t u : Totals) → n < most_counted → t ≡ u → cond (ltb n most_counted) (Some t) None ≡ Some u
  fits n t u h e = grind arith

  counted_one : c.count < most_counted → c.corners One + c.corners Two ≤ most_counted → (e : Event) (past : List Event) → Trail c (e ∷ past) → counted (totals past) e ≡ Some (totals (e ∷ past))
  counted_one xs cs (Crossing x a b) past t =
      let h = few_crossings t in
      fits (length (crossings past)) _ _ (omega arith) (ap (λ (n : ℕ). record { loops = closings past; crossings = n; corners = length (corners_of past) }) (omega arith))
  counted_one xs cs (Corner r i) past t =
      let h = few_corners t in
      fits (length (corners_of past)) _ _ (omega arith) (ap (λ (n : ℕ). record { loops = closings past; crossings = length (crossings past); corners = n }) (omega arith))
  counted_one xs cs Closing past t = let h = few_loops t in fits (closings past) _ _ (omega arith) refl

  no_overflow : (s : State) → Traced c s → c.count < most_counted → c.corners One + c.corners Two ≤ most_counted → (e : Event) → (step c s).0 ≡ gave e → counted (totals s.past) e ≡ Some (totals (e ∷ s.past))
  no_overflow s h xs cs e = grind (arith, counted_one, handed_traced)

  pub counted_at : (s : State) → Reached c s → Counted c s
  counted_at s r = let h = reached_traced c s r in record {
    each_loop = count_loops s;
    few_crossings = few_crossings h.trail;
    few_corners = few_corners h.trail;
    few_loops = few_loops h.trail;
    all_crossings = all_crossings s h.trail;
    no_overflow = no_overflow s h;
  }
