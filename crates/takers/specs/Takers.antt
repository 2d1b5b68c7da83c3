-- The rules of the takers: what each makes of an event in each of its states. Assumes nothing.
use Rattle.std.specs.Prelude.{ℕ, zero, suc, cond, List, [], ◌∷◌, ◌++◌, length, Some, None, Option, nat_lt}
use Rattle.plane.specs.Refusals.{Told, tells}
use Rattle.rules.specs.declared.event.Event.{Event}
use Rattle.rules.specs.declared.totals.Totals.{Totals}
use Rattle.rules.specs.Counts.{counted}
use Rattle.rules.specs.Rules.{Taken, accepts, refuses}

-- what is told where an event is refused
abbrev pub refusal_of : {S : Type 0} → Taken S → Option Told
refusal_of (accepts t) = None
refusal_of (refuses why) = Some why

-- the state after an event: a refusal alters nothing
abbrev pub after : {S : Type 0} → S → Taken S → S
after s (accepts t) = t
after s (refuses why) = s

-- no place is number 10
abbrev pub placed : {S : Type 0} → Option S → Taken S
placed (Some t) = accepts t
placed None = refuses (tells 10 0)

-- the tally: one more of the event's kind, where its count holds one more
abbrev pub tallied : Totals → Event → Taken Totals
tallied t e = placed (counted t e)

-- the list, with room for so many events: one more at the end, where there is room
abbrev pub listed : ℕ × List Event → Event → Taken (ℕ × List Event)
listed (room, es) e = placed (cond (nat_lt (length es) room) (Some (room, es ++ e ∷ [])) None)

-- what another taker makes of an event, where n more may be passed on after it
abbrev pub passed_on : {S : Type 0} → ℕ → Taken S → Taken (ℕ × S)
passed_on n (accepts t) = accepts (n, t)
passed_on n (refuses why) = refuses why

-- the cap: so many events to another taker, and then number 11
abbrev pub capped : {S : Type 0} → (S → Event → Taken S) → ℕ × S → Event → Taken (ℕ × S)
capped rule (zero, s) e = refuses (tells 11 0)
capped rule (suc n, s) e = passed_on n (rule s e)
