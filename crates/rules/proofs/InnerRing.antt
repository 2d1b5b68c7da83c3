-- Where there is no crossing, the walk goes once round the ring inside the other: a finished walk gave its corners, in order, as the only loop.
use Rattle.std.proofs.Common.{◌≡◌, ℕ, zero, suc, ◌+◌, ◌<◌, ◌≤◌, Bool, true, false, eqb, List, [], ◌∷◌, map, reverse, length, Some, None, Option, sym, refl, ap, ◌∙◌, subst, inl, arith}
use mathlib.Core.List.{map-append, reverse-cons}
use Rattle.std.proofs.lemmas.Bool.{eqb-true, eqb-false}
use Rattle.plane.specs.declared.ring.Ring.{Ring}
use Rattle.rules.specs.declared.event.Event.{Event}
use Rattle.rules.specs.declared.event.Event.TheVariants.{Corner, Closing}
use Rattle.rules.specs.Lists.{In, upto, first}
use Rattle.rules.specs.Chart.{Chart, Sound, corner, reach, next, next_corner}
use Rattle.rules.specs.Rules.{State, under_way, due_place, at, round_of, first_due, due_in, due, Finished}
use Rattle.rules.specs.Promise.{loops, inner_loops}
use Rattle.rules.proofs.Trails.{Trail, begun, went_on}
use Rattle.rules.proofs.AtEnd.{at_rest}
use Rattle.rules.proofs.Loops.{closed, loops_closed}

-- the first k corners of a ring, the latest first
abbrev back : Ring → ℕ → List Event
back r zero = []
back r (suc k) = Corner r k ∷ back r k

back_forth : (r : Ring) (k : ℕ) → reverse (back r k) ≡ map (Corner r) (upto k)
back_forth r zero = refl
back_forth r (suc k) = grind (arith, reverse-cons, map-append, back_forth r k)

back_under_way : (r : Ring) (k : ℕ) → under_way (back r k) ≡ back r k
back_under_way r zero = refl
back_under_way r (suc k) = ap {B = List Event} (λ l. Corner r k ∷ l) (back_under_way r k)

back_length : (r : Ring) (k : ℕ) → length (back r k) ≡ k
back_length r zero = refl
back_length r (suc k) = ap suc (back_length r k)

back_closed : (r : Ring) (k : ℕ) → closed (back r k) ≡ []
back_closed r zero = refl
back_closed r (suc k) = back_closed r k

empty : (l : List ℕ) → ((x : ℕ) → In x l → ⊥) → l ≡ []
empty [] f = refl
empty (x ∷ l) f = absurd (f x (inl refl))

module _ (c : Chart) (sound : Sound c) (none : c.count ≡ 0) where
  -- the pasts there are
  data RoundSoFar (past : List Event) : Type 0 where
    not_begun : past ≡ [] → RoundSoFar past
    amid : (r : Ring) (k : ℕ) → c.inner ≡ Some r → k < c.corners r → past ≡ back r (suc k) → RoundSoFar past
    over : (r : Ring) → c.inner ≡ Some r → past ≡ Closing ∷ back r (c.corners r) → RoundSoFar past

  bare : (r : Ring) (i : ℕ) → c.along r i ≡ []
  bare r i = empty (c.along r i) (λ x j. let h = (sound.on_its_edge r i x j).0 in omega arith)

  next_bare : (r : Ring) (i : ℕ) → next c (corner r i) ≡ corner r (next_corner c r i)
  next_bare r i = ap (λ l. reach c r i (first l)) (bare r i)

  due-corner : (r : Ring) (k : ℕ) → k < c.corners r → due_place c (Corner r k) (back r k) ≡ corner r (next_corner c r k)
  due-corner r zero h = next_bare r 0
  due-corner r (suc k) h = grind (arith, next_bare, due-corner r k (omega arith))

  first_is : (past : List Event) (o : Option ℕ) → first_due c (record { past = past; chosen = o }) ≡ round_of c.inner past
  first_is past o = grind arith

  amid_is : (r : Ring) (k : ℕ) (o : Option ℕ) → k < c.corners r → due c (record { past = back r (suc k); chosen = o }) ≡ Some (at c (back r (suc k)) (corner r (next_corner c r k)))
  amid_is r k o h =
      ap (due_in c (record { past = back r (suc k); chosen = o })) (back_under_way r (suc k)) ∙ ap (λ p. Some (at c (back r (suc k)) p)) (due-corner r k h)

  begin_round : (i : Option Ring) (e : Event) → c.inner ≡ i → round_of i [] ≡ Some e → RoundSoFar (e ∷ [])
  begin_round None e is d = cc
  begin_round (Some r) e is d = let p : Corner r 0 ≡ e = cc in amid r 0 is (sound.some_corner r) (ap (λ f. f ∷ []) (sym p))

  at_last : (r : Ring) (k : ℕ) → k + 1 ≡ c.corners r → at c (back r (suc k)) (corner r (next_corner c r k)) ≡ Closing
  at_last r k h = grind arith

  at_next : (r : Ring) (k : ℕ) → suc k < c.corners r → at c (back r (suc k)) (corner r (next_corner c r k)) ≡ Corner r (suc k)
  at_next r k h = grind arith

  more_round : (r : Ring) (k : ℕ) (e : Event) → c.inner ≡ Some r → k < c.corners r → at c (back r (suc k)) (corner r (next_corner c r k)) ≡ e → RoundSoFar (e ∷ back r (suc k))
  more_round r k e is h d = go (eqb (k + 1) (c.corners r)) refl
    where
      go : (b : Bool) → eqb (k + 1) (c.corners r) ≡ b → RoundSoFar (e ∷ back r (suc k))
      go true q =
          let n = eqb-true (k + 1) (c.corners r) q in
          let m : suc k ≡ c.corners r = omega arith in
          over r is (ap (λ f. f ∷ back r (suc k)) (sym d ∙ at_last r k n) ∙ ap (λ j. Closing ∷ back r j) m)
      go false q =
          let n = eqb-false (k + 1) (c.corners r) q in
          let m : suc k < c.corners r = omega arith in
          amid r (suc k) is m (ap (λ f. f ∷ back r (suc k)) (sym d ∙ at_next r k m))

  -- once the round is over nothing is due
  none_due : (s : State) (r : Ring) → c.inner ≡ Some r → s.past ≡ Closing ∷ back r (c.corners r) → due c s ≡ None
  none_due s r i is =
      ap (λ p. due c (record { past = p; chosen = s.chosen })) is ∙ first_is (Closing ∷ back r (c.corners r)) s.chosen
      ∙ ap (λ j. round_of j (Closing ∷ back r (c.corners r))) i

  more_past : (past : List Event) (o : Option ℕ) (e : Event) → due c (record { past = past; chosen = o }) ≡ Some e → RoundSoFar past → RoundSoFar (e ∷ past)
  more_past past o e d (not_begun is) =
      rw is
      (begin_round c.inner e refl (sym (first_is [] o) ∙ subst (λ p. due c (record { past = p; chosen = o }) ≡ Some e) is d))
  more_past past o e d (amid r k i h is) =
      let q = sym (amid_is r k o h) ∙ subst (λ p. due c (record { past = p; chosen = o }) ≡ Some e) is d in
      subst (λ p. RoundSoFar (e ∷ p)) (sym is) (more_round r k e i h (cc))
  more_past past o e d (over r i is) =
      cc (none_due (record { past = past; chosen = o }) r i is)

  round_so_far : (past : List Event) → Trail c past → RoundSoFar past
  round_so_far [] begun = not_begun refl
  round_so_far (e ∷ past) (went_on o t a d) = more_past past o e d (round_so_far past t)

  -- while an event is due, the loop under way is all that came, at most a corner of the ring for each of its corners
  pub round_under_way : (s : State) (e : Event) → Trail c s.past → due c s ≡ Some e → (r : Ring) × (c.inner ≡ Some r) × (length s.past ≤ c.corners r) × (under_way s.past ≡ s.past)
  round_under_way s e t d = go (round_so_far s.past t)
    where
      first : (i : Option Ring) → c.inner ≡ i → round_of i [] ≡ Some e → s.past ≡ [] → (r : Ring) × (c.inner ≡ Some r) × (length s.past ≤ c.corners r) × (under_way s.past ≡ s.past)
      first None _ q is = cc
      first (Some r) i q is = (r, i, rw is (omega arith), rw is refl)

      go : RoundSoFar s.past → (r : Ring) × (c.inner ≡ Some r) × (length s.past ≤ c.corners r) × (under_way s.past ≡ s.past)
      go (not_begun is) = first c.inner refl (sym (first_is [] s.chosen) ∙ subst (λ p. due c (record { past = p; chosen = s.chosen }) ≡ Some e) is d) is
      go (amid r k i h is) = grind (arith, back_length, back_under_way)
      go (over r i is) = cc (none_due s r i is)

  -- a finished walk is not begun, for want of a ring inside, or its round is over
  data Ended (s : State) : Type 0 where
    for_want : s.past ≡ [] → round_of c.inner [] ≡ None → Ended s
    all_round : (r : Ring) → c.inner ≡ Some r → s.past ≡ Closing ∷ back r (c.corners r) → Ended s

  has_ended : (s : State) → Trail c s.past → Finished c s → Ended s
  has_ended s t h = go (round_so_far s.past t)
    where
      go : RoundSoFar s.past → Ended s
      go (not_begun is) = for_want is (sym (first_is [] s.chosen) ∙ subst (λ p. due c (record { past = p; chosen = s.chosen }) ≡ None) is h)
      go (amid r k i b is) = cc (back_under_way r (suc k), at_rest c s h)
      go (over r i is) = all_round r i is

  closed_round : (r : Ring) → closed (Closing ∷ back r (c.corners r)) ≡ back r (c.corners r) ∷ []
  closed_round r i = back_under_way r (c.corners r) i ∷ back_closed r (c.corners r) i

  pub inner-ring : (s : State) → Trail c s.past → Finished c s → loops s ≡ inner_loops c c.inner
  inner-ring s t h = loops_closed s ∙ go (has_ended s t h)
    where
      go : Ended s → map reverse (reverse (closed s.past)) ≡ inner_loops c c.inner
      go (for_want is d) = grind arith
      go (all_round r i is) = grind (arith, closed_round, back_forth)

  -- the round of a finished walk is one of its loops, and has the ring's corners
  pub whole_round : (s : State) (r : Ring) → Trail c s.past → Finished c s → c.inner ≡ Some r → (l : List Event) × In l (closed s.past) × (length l ≡ c.corners r)
  whole_round s r t h i = go (has_ended s t h)
    where
      go : Ended s → (l : List Event) × In l (closed s.past) × (length l ≡ c.corners r)
      go (for_want is d) = absurd cc
      go (all_round q j is) =
          let p : q ≡ r = cc in
          (back q (c.corners q), rw is (inl (sym (back_under_way q (c.corners q)))), back_length q (c.corners q) ∙ ap c.corners p)
