-- What the takers come to over many events. Assumes nothing.
use Rattle.std.specs.Prelude.{◌≡◌, ℕ, ◌+◌, List, [], ◌∷◌, ◌++◌, take}
use Rattle.rules.specs.declared.event.Event.{Event}
use Rattle.rules.specs.declared.totals.Totals.{Totals}
use Rattle.rules.specs.Rules.{Taken, accepts, refuses, totals}
use Rattle.rules.specs.Strings.{Makes}
use Rattle.takers.specs.Takers.{tallied, listed, capped}

-- the list that accepted es holds what it held, then es, and has the room that it had
abbrev pub ListHolds : Type 0
ListHolds = (room : ℕ) (held : List Event) (after : ℕ × List Event) (es : List Event) → Makes listed (room, held) es after → after ≡ (room, held ++ es)

-- each count of the one is the other's and that of es
pub record Adds (t u : Totals) (es : List Event) : Type 0 where
  pub more_loops : u.loops ≡ t.loops + (totals es).loops
  pub more_crossings : u.crossings ≡ t.crossings + (totals es).crossings
  pub more_corners : u.corners ≡ t.corners + (totals es).corners

-- the tally that accepted es is what it was and the counts of es
abbrev pub TallyAdds : Type 0
TallyAdds = (t u : Totals) (es : List Event) → Makes tallied t es u → Adds t u es

-- of events that are offered one after another, those that a taker accepts
abbrev pub accepted : {S : Type 0} → (S → Event → Taken S) → S → List Event → List Event
accepted rule s [] = []
accepted rule s (e ∷ es) = elim (rule s e) [ accepts t ↦ e ∷ accepted rule t es | refuses why ↦ accepted rule s es ]

-- a cap of k accepts exactly the first k that its taker accepts, and then none
abbrev pub CapsAt : Type 0 → Type 0
CapsAt S = (rule : S → Event → Taken S) (k : ℕ) (s : S) (es : List Event) → accepted (capped rule) (k, s) es ≡ take k (accepted rule s es)
