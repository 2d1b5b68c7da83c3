-- The pasts that the rules can lead to, as if no limit stood.
use Rattle.std.proofs.Common.{◌≡◌, ℕ, ◌<◌, false, List, [], ◌∷◌, Some, None, Option}
use Rattle.rules.specs.declared.event.Event.{Event}
use Rattle.rules.specs.Lists.{has}
use Rattle.rules.specs.Chart.{Chart}
use Rattle.rules.specs.Rules.{State, opened, due, hand_over, crossings, under_way, amid}

-- a choice that a begin can leave
abbrev pub Allowed : Chart → List Event → Option ℕ → Type 0
Allowed c past None = Unit {0}
Allowed c past (Some x) = (x < c.count) × (has x (crossings past) ≡ false) × (amid (under_way past) ≡ false)

pub data Trail (c : Chart) : List Event → Type 0 where
  begun : Trail c []
  went_on : {past : List Event} {e : Event} (o : Option ℕ) → Trail c past → Allowed c past o → due c (record { past = past; chosen = o }) ≡ Some e → Trail c (e ∷ past)

-- a walk on a trail
pub record Traced (c : Chart) (s : State) : Type 0 where
  pub trail : Trail c s.past
  pub allowed : Allowed c s.past s.chosen

module _ (c : Chart) where
  pub opened_traced : Traced c opened
  opened_traced = record { trail = begun; allowed = tt }

  pub handed_traced : (s : State) (e : Event) → Traced c s → due c s ≡ Some e → Traced c (hand_over s e)
  handed_traced s e h d = record { trail = went_on s.chosen h.trail h.allowed d; allowed = tt }
