-- The loops of a finished walk are rounds over all crossings, so that those of two finished walks pair off.
use Rattle.std.proofs.Common.{◌≡◌, ℕ, ◌<◌, List, [], ◌∷◌, ◌++◌, reverse, sym, refl, ap, ◌∙◌, subst, inl, inr, append-nil}
use mathlib.Core.List.{reverse-cons}
use Rattle.std.proofs.lemmas.List.Concat.{flat_map-append}
use Rattle.rules.specs.declared.event.Event.{Event}
use Rattle.rules.specs.Lists.{In, Once, Paired}
use Rattle.rules.specs.Chart.{Chart, Sound, Alternate}
use Rattle.rules.specs.Rules.{State, crossings, Finished}
use Rattle.rules.specs.Promise.{loops}
use Rattle.rules.proofs.Members.{in_left, in_right, in_either, in_reverse, once_left, once_right, once_apart, once_both}
use Rattle.rules.proofs.Trails.{Trail}
use Rattle.rules.proofs.Unrepeated.{trail_once}
use Rattle.rules.proofs.AtEnd.{at_rest, none_lost}
use Rattle.rules.proofs.Loops.{closed, loops_paired}
use Rattle.rules.proofs.Rounds.{flat, Round, Alike, pairs_off, holding, round_from}
use Rattle.rules.proofs.TrailRounds.{crossings_parts, Standing}

flat-reverse : (l : List Event) (ls : List (List Event)) → flat (reverse (l ∷ ls)) ≡ flat (reverse ls) ++ crossings l
flat-reverse l ls = ap flat (reverse-cons l ls) ∙ flat_map-append crossings (reverse ls) (l ∷ []) ∙ ap (λ t. flat (reverse ls) ++ t) (append-nil (crossings l))

pub from_flat-reverse : (x : ℕ) (ls : List (List Event)) → In x (flat (reverse ls)) → In x (flat ls)
from_flat-reverse x [] i = i
from_flat-reverse x (l ∷ ls) i = elim (in_either x (flat (reverse ls)) (crossings l) (rw (← flat-reverse l ls) i)) [ inl j ↦ in_right x (crossings l) (flat ls) (from_flat-reverse x ls j) | inr j ↦ in_left x (crossings l) (flat ls) j ]

pub to_flat-reverse : (x : ℕ) (ls : List (List Event)) → In x (flat ls) → In x (flat (reverse ls))
to_flat-reverse x [] i = i
to_flat-reverse x (l ∷ ls) i = rw (flat-reverse l ls) (elim (in_either x (crossings l) (flat ls) i) [ inl j ↦ in_right x (flat (reverse ls)) (crossings l) j | inr j ↦ in_left x (flat (reverse ls)) (crossings l) (to_flat-reverse x ls j) ])

pub once_flat-reverse : (ls : List (List Event)) → Once (flat ls) → Once (flat (reverse ls))
once_flat-reverse [] o = o
once_flat-reverse (l ∷ ls) o = rw (flat-reverse l ls)
    (once_both (flat (reverse ls)) (crossings l) (once_flat-reverse ls (once_right (crossings l) (flat ls) o)) (once_left (crossings l) (flat ls) o) (λ x i j. once_apart x (crossings l) (flat ls) o j (from_flat-reverse x ls i)))

-- the crossings of a finished walk are those of its loops
pub finished-flat : (c : Chart) (s : State) → Finished c s → crossings s.past ≡ flat (closed s.past)
finished-flat c s h = crossings_parts s.past ∙ ap (λ t. crossings t ++ flat (closed s.past)) (at_rest c s h)

module _ (c : Chart) (sound : Sound c) (alt : Alternate c) where
  round_known : (x : ℕ) (ls : List (List Event)) → ((l : List Event) → In l ls → Round c l) → In x (flat ls) → x < c.count
  round_known x ls r i =
      let h = holding x ls i in
      (round_from c sound alt x h.loop (r h.loop (subst (In h.loop) (sym h.is) (in_right h.loop h.before (h.loop ∷ h.behind_it) (inl refl)))) h.has_it).1

  finished_alike : (s t : State) → Trail c s.past → Trail c t.past → Standing c s.past → Standing c t.past → Finished c s → Finished c t → Alike c (reverse (closed s.past)) (reverse (closed t.past))
  finished_alike s t r r' k k' h h' = record {
    rounds = λ l i. k.rounds l (in_reverse l (closed s.past) i);
    rounds' = λ l i. k'.rounds l (in_reverse l (closed t.past) i);
    once = once_flat-reverse (closed s.past) (rw (← finished-flat c s h) (trail_once c sound r));
    once' = once_flat-reverse (closed t.past) (rw (← finished-flat c t h') (trail_once c sound r'));
    to = λ x i. to_flat-reverse x (closed t.past) (rw (← finished-flat c t h') (none_lost c sound t h' x (round_known x (closed s.past) k.rounds (from_flat-reverse x (closed s.past) i))));
    from = λ x i. to_flat-reverse x (closed s.past) (rw (← finished-flat c s h) (none_lost c sound s h x (round_known x (closed t.past) k'.rounds (from_flat-reverse x (closed t.past) i))));
  }

  pub finished-pair : (s t : State) → Trail c s.past → Trail c t.past → Standing c s.past → Standing c t.past → Finished c s → Finished c t → Paired (loops s) (loops t)
  finished-pair s t r r' k k' h h' = loops_paired s t (pairs_off c sound alt (reverse (closed s.past)) (reverse (closed t.past)) (finished_alike s t r r' k k' h h'))
