-- Counting one more event. Assumes nothing.
use Rattle.std.specs.Prelude.{ℕ, ◌+◌, cond, Some, None, Option, nat_lt}
use Rattle.rules.specs.declared.event.Event.{Event}
use Rattle.rules.specs.declared.event.Event.TheVariants.{Crossing, Corner, Closing}
use Rattle.rules.specs.declared.totals.Totals.{Totals}

-- the most that a count holds: 32 bits
abbrev pub most_counted : ℕ
most_counted = 4294967295

-- the totals with one more event, where the count that it adds to holds one more
abbrev pub counted : Totals → Event → Option Totals
counted t (Crossing x a b) = cond (nat_lt t.crossings most_counted) (Some (record { loops = t.loops; crossings = t.crossings + 1; corners = t.corners })) None
counted t (Corner r i) = cond (nat_lt t.corners most_counted) (Some (record { loops = t.loops; crossings = t.crossings; corners = t.corners + 1 })) None
counted t Closing = cond (nat_lt t.loops most_counted) (Some (record { loops = t.loops + 1; crossings = t.crossings; corners = t.corners })) None
