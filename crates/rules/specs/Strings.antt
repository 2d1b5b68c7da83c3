-- Strings of calls on a walk just opened: what they answer, and where they lead. Assumes nothing.
use Rattle.std.specs.Prelude.{◌≡◌, ℕ, cond, List, [], ◌∷◌, ◌++◌, length, Some, None, Option, ◌==◌, slice_set}
use Rattle.std.specs.List.{slice_get}
use Rattle.plane.specs.declared.refusal.Refusal.TheVariants.{Unknown}
use Rattle.plane.specs.Refusals.{told}
use Rattle.rules.specs.declared.event.Event.{Event}
use Rattle.rules.specs.Chart.{Chart}
use Rattle.rules.specs.Rules.{State, opened, Answer, gave, finished, done, refused, step, begin, Taken, accepts, Reason, Ran, run}

-- A begin is given a crossing, and a run how many events at most and the number of a taker.
pub data Call : Type 0 where
  a_begin : ℕ → Call
  a_step : Call
  a_run : ℕ → ℕ → Call
  a_rewind : Call

-- what a call answered: the walk's answer, or of a run how many events it handed over and why it ended
pub data Reply : Type 0 where
  says : Answer → Reply
  ran : ℕ → Reason → Reply

-- a call, its reply, and the events that it handed over, oldest first
pub record Entry : Type 0 where
  pub call : Call
  pub reply : Reply
  pub handed : List Event

-- the walk, and the state of each taker; takers are numbered from 0
pub record Scene (S : Type 0) : Type 0 where
  pub walk : State
  pub takers : List S

-- the events that an answer hands over
abbrev pub given_by : Answer → List Event
given_by (gave e) = e ∷ []
given_by finished = []
given_by done = []
given_by (refused n) = []

-- a call that touches no taker, by what the walk answered
abbrev pub answered : {S : Type 0} → Call → Scene S → Answer × State → Entry × Scene S
answered call m r = (record { call = call; reply = says r.0; handed = given_by r.0 }, record { walk = r.1; takers = m.takers })

-- a run into taker j, by how it went
abbrev pub has_run : {S : Type 0} → Call → ℕ → Scene S → Ran S → Entry × Scene S
has_run call j m r = (record { call = call; reply = ran (length r.handed) r.why; handed = r.handed }, record { walk = r.walk; takers = slice_set m.takers j r.taker })

-- a run of up to k events into taker j, by its state: where there is no such taker it is refused as unknown, and nothing happens
abbrev pub run_into : {S : Type 0} → Chart → (S → Event → Taken S) → Scene S → ℕ → ℕ → Option S → Entry × Scene S
run_into c rule m k j None = answered (a_run k j) m (refused (told (Unknown 0)), m.walk)
run_into c rule m k j (Some t) = has_run (a_run k j) j m (run c rule k m.walk t)

-- one call; a rewind opens the walk anew and leaves the takers as they are
abbrev pub make : {S : Type 0} → Chart → (S → Event → Taken S) → Scene S → Call → Entry × Scene S
make c rule m (a_begin x) = answered (a_begin x) m (begin c m.walk x)
make c rule m a_step = answered a_step m (step c m.walk)
make c rule m (a_run k j) = run_into c rule m k j (slice_get m.takers j)
make c rule m a_rewind = answered a_rewind m (done, opened)

-- a string of calls: an entry for each, oldest first, and the scene after them
abbrev pub play : {S : Type 0} → Chart → (S → Event → Taken S) → Scene S → List Call → List Entry × Scene S
play c rule m [] = ([], m)
play c rule m (k ∷ ks) = let r = make c rule m k in let l = play c rule r.1 ks in (r.0 ∷ l.0, l.1)

-- the scene that further calls lead to
abbrev pub later : {S : Type 0} → Chart → (S → Event → Taken S) → Scene S → List Call → Scene S
later c rule m ks = (play c rule m ks).1

-- a walk just opened, beside the takers
abbrev pub at_first : {S : Type 0} → List S → Scene S
at_first ts = record { walk = opened; takers = ts }

-- the scene after a string of calls on a walk just opened
abbrev pub after : {S : Type 0} → Chart → (S → Event → Taken S) → List S → List Call → Scene S
after c rule ts ks = later c rule (at_first ts) ks

-- the entries of such a string
abbrev pub entries : {S : Type 0} → Chart → (S → Event → Taken S) → List S → List Call → List Entry
entries c rule ts ks = (play c rule (at_first ts) ks).0

-- what of the events so far still counts after a call: after a rewind none
abbrev pub kept : Call → List Event → List Event
kept (a_begin x) l = l
kept a_step l = l
kept (a_run k j) l = l
kept a_rewind l = []

-- the events handed over since the opening or the latest rewind, oldest first; `so_far` is what came before these entries
abbrev pub since_rewind : List Event → List Entry → List Event
since_rewind so_far [] = so_far
since_rewind so_far (e ∷ es) = since_rewind (kept e.call so_far ++ e.handed) es

-- the choice after a begin at crossing x, by its reply: x where it did as asked, else the choice before
abbrev pub chosen_by : ℕ → Reply → Option ℕ → Option ℕ
chosen_by x (says done) o = Some x
chosen_by x (says (gave e)) o = o
chosen_by x (says finished) o = o
chosen_by x (says (refused n)) o = o
chosen_by x (ran n w) o = o

-- a choice stands until an event is handed over
abbrev pub still : List Event → Option ℕ → Option ℕ
still [] o = o
still (e ∷ es) o = None

-- the choice after a call, by its reply and what it handed over: a rewind drops it
abbrev pub choice_after : Call → Reply → List Event → Option ℕ → Option ℕ
choice_after (a_begin x) r l o = chosen_by x r o
choice_after a_step r l o = still l o
choice_after (a_run k j) r l o = still l o
choice_after a_rewind r l o = None

-- the crossing chosen for the next loop, by the entries; `o` is the choice before them
abbrev pub latest_choice : Option ℕ → List Entry → Option ℕ
latest_choice o [] = o
latest_choice o (e ∷ es) = latest_choice (choice_after e.call e.reply e.handed o) es

-- what of a call's events went to taker j: those of a run into it
abbrev pub to_taker : ℕ → Call → List Event → List Event
to_taker j (a_begin x) l = []
to_taker j a_step l = []
to_taker j (a_run k i) l = cond (i == j) l []
to_taker j a_rewind l = []

-- the events that taker j accepted over the whole string, in order
abbrev pub accepted : ℕ → List Entry → List Event
accepted j [] = []
accepted j (e ∷ es) = to_taker j e.call e.handed ++ accepted j es

-- from t, the rule accepts the events one by one and makes u of them
pub data Makes {S : Type 0} (rule : S → Event → Taken S) : S → List Event → S → Type 0 where
  of_none : {t : S} → Makes rule t [] t
  of_one : {t u v : S} {e : Event} {es : List Event} → rule t e ≡ accepts u → Makes rule u es v → Makes rule t (e ∷ es) v

-- a taker, before and after: it holds what its rule makes of the events, and where there was none there is none, and no events
abbrev pub Holds : {S : Type 0} → (S → Event → Taken S) → Option S → List Event → Option S → Type 0
Holds rule (Some t) l (Some u) = Makes rule t l u
Holds rule (Some t) l None = ⊥
Holds rule None l (Some u) = ⊥
Holds rule None l None = l ≡ []

-- a walk that steps and begins lead to from the opening, refused ones among them; a run leads where steps do, and a rewind to the opening
pub data Reached (c : Chart) : State → Type 0 where
  at_opening : Reached c opened
  by_step : {s : State} → Reached c s → Reached c (step c s).1
  by_begin : {s : State} → Reached c s → (x : ℕ) → Reached c (begin c s x).1
