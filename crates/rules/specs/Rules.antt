-- The rules of the walk: what each call answers, and what is then handed over. Assumes nothing.
use Rattle.std.specs.Prelude.{◌≡◌, ℕ, zero, suc, ◌+◌, ◌*◌, Bool, true, false, cond, ◌&&◌, List, [], ◌∷◌, length, Some, None, Option, ◌==◌, nat_le}
use Rattle.std.specs.List.{flat_map}
use Rattle.plane.specs.declared.refusal.Refusal.TheVariants.{Unknown, InsideLoop, HandedOver, LoopTooLong}
use Rattle.plane.specs.Refusals.{Told, told}
use Rattle.plane.specs.declared.ring.Ring.{Ring}
use Rattle.plane.specs.declared.ring.Ring.TheVariants.{One, Two}
use Rattle.rules.specs.declared.event.Event.{Event}
use Rattle.rules.specs.declared.event.Event.TheVariants.{Crossing, Corner, Closing}
use Rattle.rules.specs.declared.totals.Totals.{Totals}
use Rattle.rules.specs.Lists.{has, upto, first_but}
use Rattle.rules.specs.Chart.{Chart, Place, corner, crossing, next}

-- A walk is what it has handed over since its opening or latest rewind, the latest event first, and the crossing chosen for the next loop.
pub record State : Type 0 where
  pub past : List Event
  pub chosen : Option ℕ

-- a walk just opened, or just rewound
abbrev pub opened : State
opened = record { past = []; chosen = None }

-- the events of the loop under way, those since the latest closing; none at rest
abbrev pub under_way : List Event → List Event
under_way [] = []
under_way (Crossing x a b ∷ es) = Crossing x a b ∷ under_way es
under_way (Corner r i ∷ es) = Corner r i ∷ under_way es
under_way (Closing ∷ es) = []

-- the crossings handed over
abbrev pub crossings : List Event → List ℕ
crossings [] = []
crossings (Crossing x a b ∷ es) = x ∷ crossings es
crossings (Corner r i ∷ es) = crossings es
crossings (Closing ∷ es) = crossings es

-- the corners handed over
abbrev pub corners_of : List Event → List (Ring × ℕ)
corners_of [] = []
corners_of (Crossing x a b ∷ es) = corners_of es
corners_of (Corner r i ∷ es) = (r, i) ∷ corners_of es
corners_of (Closing ∷ es) = corners_of es

-- how many loops were closed
abbrev pub closings : List Event → ℕ
closings [] = 0
closings (Crossing x a b ∷ es) = closings es
closings (Corner r i ∷ es) = closings es
closings (Closing ∷ es) = closings es + 1

-- what was handed over, counted
abbrev pub totals : List Event → Totals
totals past = record { loops = closings past; crossings = length (crossings past); corners = length (corners_of past) }

-- a crossing as it is handed over: with its edges on ring one and ring two
abbrev pub event_of : Chart → ℕ → Event
event_of c x = Crossing x (c.edge One x) (c.edge Two x)

-- the place at which a loop begins, by its first event, which is never a closing: that line only fills the case
abbrev pub start : Chart → Event → Place
start c (Crossing x a b) = crossing x (c.leaving x)
start c (Corner r i) = corner r i
start c Closing = corner One 0

-- the place that comes next in the loop under way, by its events, the latest first: from where the loop began, one place on for each event
abbrev pub due_place : Chart → Event → List Event → Place
due_place c e [] = next c (start c e)
due_place c e (f ∷ es) = next c (due_place c f es)

-- what is handed over at a place that a loop under way comes to: at a crossing already handed over, or where there is no crossing back at corner 0, a closing
abbrev pub at : Chart → List Event → Place → Event
at c past (corner r i) = cond (c.count == 0 && i == 0) Closing (Corner r i)
at c past (crossing x r) = cond (has x (crossings past)) Closing (event_of c x)

-- the crossings in ring one's order: edge by edge, and along each edge
abbrev pub in_order : Chart → List ℕ
in_order c = flat_map (c.along One) (upto (c.corners One))

-- a loop begun at a crossing, if there is one to begin at
abbrev pub begun_at : Chart → Option ℕ → Option Event
begun_at c None = None
begun_at c (Some x) = Some (event_of c x)

-- the first choice, or else the second
abbrev pub or_else : Option ℕ → Option ℕ → Option ℕ
or_else (Some x) o = Some x
or_else None o = o

-- where there is no crossing: the only loop is the ring inside the other, from its corner 0, and it is begun once
abbrev pub round_of : Option Ring → List Event → Option Event
round_of (Some r) [] = Some (Corner r 0)
round_of (Some r) (e ∷ es) = None
round_of None es = None

-- at rest, the first event of the next loop: the crossing chosen, or else the first in ring one's order that was not handed over
abbrev pub first_due : Chart → State → Option Event
first_due c s = cond (c.count == 0) (round_of c.inner s.past) (begun_at c (or_else s.chosen (first_but (crossings s.past) (in_order c))))

-- the event due, by the events of the loop under way
abbrev pub due_in : Chart → State → List Event → Option Event
due_in c s [] = first_due c s
due_in c s (e ∷ es) = Some (at c s.past (due_place c e es))

-- the event that the rules name next, as if no limit stood, if they name one
abbrev pub due : Chart → State → Option Event
due c s = due_in c s (under_way s.past)

-- the walk once an event is handed over: a choice serves one loop
abbrev pub hand_over : State → Event → State
hand_over s e = record { past = e ∷ s.past; chosen = None }

-- how many events a loop may have, its closing among them: one for each pair of edges, and one
abbrev pub limit : Chart → ℕ
limit c = c.corners One * c.corners Two + 1

-- the loop under way has had as many as it may, and did not close
abbrev pub at_limit : Chart → State → Bool
at_limit c s = length (under_way s.past) == limit c

-- the walk is at rest, and no event is left: amid a loop one always is due
abbrev pub Finished : Chart → State → Type 0
Finished c s = due c s ≡ None

-- What the walk answers to a call: an event, that none is left, that it did as asked, or a refusal by what it tells.
pub data Answer : Type 0 where
  gave : Event → Answer
  finished : Answer
  done : Answer
  refused : Told → Answer

-- the answer to a step, by the event that is due, and the walk after it
abbrev pub stepped : Chart → State → Option Event → Answer × State
stepped c s None = (finished, s)
stepped c s (Some e) = cond (at_limit c s) (refused (told LoopTooLong), s) (gave e, hand_over s e)

-- the answer to a step, which sees in turn whether the walk is finished and the loop under way is too long, and the walk after it
abbrev pub step : Chart → State → Answer × State
step c s = stepped c s (due c s)

-- the test whether a loop is under way, by its events
abbrev pub amid : List Event → Bool
amid [] = false
amid (e ∷ es) = true

-- the answer to a begin at crossing x, refused in this order as too long, unknown, inside a loop or handed over, and the walk after it
abbrev pub begin : Chart → State → ℕ → Answer × State
begin c s x =
    cond (at_limit c s) (refused (told LoopTooLong), s)
    (cond (nat_le c.count x) (refused (told (Unknown 0)), s)
    (cond (amid (under_way s.past)) (refused (told InsideLoop), s)
    (cond (has x (crossings s.past)) (refused (told HandedOver), s)
    (done, record { past = s.past; chosen = Some x }))))

-- What a taker, whose states are S, makes of an event: its next state, or a refusal of its own.
pub data Taken (S : Type 0) : Type 0 where
  accepts : S → Taken S
  refuses : Told → Taken S

-- why a run ended: all that was asked for was handed over, the walk is finished, the loop under way is too long, or the taker refused an event
pub data Reason : Type 0 where
  spent : Reason
  at_end : Reason
  long : Reason
  by_taker : Told → Reason

-- what a run handed over, oldest first, why it ended, and the walk and the taker after it
pub record Ran (S : Type 0) : Type 0 where
  pub handed : List Event
  pub why : Reason
  pub walk : State
  pub taker : S

-- a run that ends here
abbrev pub ended : {S : Type 0} → Reason → State → S → Ran S
ended w s t = record { handed = []; why = w; walk = s; taker = t }

-- a run that first handed this event over
abbrev pub one_more : {S : Type 0} → Event → Ran S → Ran S
one_more e r = record { handed = e ∷ r.handed; why = r.why; walk = r.walk; taker = r.taker }

-- a run under the limit, by what the taker makes of the event that is due: one that it refuses is not handed over
abbrev pub run_taken : {S : Type 0} → (State → S → Ran S) → State → S → Event → Taken S → Ran S
run_taken more s t e (refuses n) = ended (by_taker n) s t
run_taken more s t e (accepts u) = one_more e (more (hand_over s e) u)

-- a run that may hand over one more, by the event that is due; `more` goes on from there
abbrev pub run_due : {S : Type 0} → Chart → (S → Event → Taken S) → (State → S → Ran S) → State → S → Option Event → Ran S
run_due c rule more s t None = ended at_end s t
run_due c rule more s t (Some e) = cond (at_limit c s) (ended long s t) (run_taken more s t e (rule t e))

-- a run of up to k events into a taker: before each it sees in turn whether k were handed over, the walk is finished, the loop under way is too long, and the taker refuses
abbrev pub run : {S : Type 0} → Chart → (S → Event → Taken S) → ℕ → State → S → Ran S
run c rule zero s t = ended spent s t
run c rule (suc k) s t = run_due c rule (run c rule k) s t (due c s)
