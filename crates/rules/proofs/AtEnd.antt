-- A finished walk is at rest, and has handed over every crossing.
use Rattle.std.proofs.Common.{◌≡◌, ℕ, ◌<◌, eqb, List, [], ◌∷◌, Some, None, Option, refl, arith}
use Rattle.std.proofs.lemmas.Bool.{eqb-true, cond_both}
use Rattle.rules.specs.declared.event.Event.{Event}
use Rattle.rules.specs.Lists.{In, first_but}
use Rattle.rules.specs.Chart.{Chart, Sound}
use Rattle.rules.specs.Rules.{State, under_way, crossings, in_order, begun_at, or_else, round_of, first_due, due_in, Finished}
use Rattle.rules.proofs.Members.{first_but_none}
use Rattle.rules.proofs.NextEvent.{in_order_all}

-- amid a loop an event is always due
pub at_rest : (c : Chart) (s : State) → Finished c s → under_way s.past ≡ []
at_rest c s h = go (under_way s.past) h
  where
    go : (u : List Event) → due_in c s u ≡ None → u ≡ []
    go [] d = refl
    go (e ∷ es) d = cc

not_begun : (c : Chart) (o q : Option ℕ) → begun_at c (or_else o q) ≡ None → q ≡ None
not_begun c (Some x) q d = cc
not_begun c None None d = refl
not_begun c None (Some x) d = cc

none_left : (c : Chart) → Sound c → (s : State) → first_due c s ≡ None → (x : ℕ) → x < c.count → In x (crossings s.past)
none_left c sound s d x h =
    cond_both (eqb c.count 0) (round_of c.inner s.past) (begun_at c (or_else s.chosen (first_but (crossings s.past) (in_order c)))) (λ o. o ≡ None → In x (crossings s.past))
    (λ e _. absurd (let z = eqb-true c.count 0 e in omega arith))
    (λ _ q. first_but_none (crossings s.past) (in_order c) (not_begun c s.chosen _ q) x (in_order_all c sound x h))
    d

pub none_lost : (c : Chart) → Sound c → (s : State) → Finished c s → (x : ℕ) → x < c.count → In x (crossings s.past)
none_lost c sound s h = go (under_way s.past) h
  where
    go : (u : List Event) → due_in c s u ≡ None → (x : ℕ) → x < c.count → In x (crossings s.past)
    go [] d = none_left c sound s d
    go (e ∷ es) d = cc
