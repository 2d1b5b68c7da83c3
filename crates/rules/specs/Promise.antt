-- What the walk promises of every string of begins, steps, runs and rewinds on a walk just opened, refused calls among them. Assumes nothing.
use Rattle.std.specs.Prelude.{◌≡◌, ℕ, zero, suc, ◌+◌, ◌<◌, ◌≤◌, ◌⊎◌, List, [], ◌∷◌, ◌++◌, map, reverse, length, Some, None, Option, ◌≢◌}
use Rattle.std.specs.List.{slice_get}
use Rattle.plane.specs.declared.refusal.Refusal.TheVariants.{LoopTooLong}
use Rattle.plane.specs.Refusals.{told}
use Rattle.plane.specs.declared.ring.Ring.{Ring}
use Rattle.plane.specs.declared.ring.Ring.TheVariants.{One, Two}
use Rattle.rules.specs.declared.event.Event.{Event}
use Rattle.rules.specs.declared.event.Event.TheVariants.{Crossing, Corner, Closing}
use Rattle.rules.specs.Lists.{In, Once, upto, Paired}
use Rattle.rules.specs.Chart.{Chart, Sound, Alternate}
use Rattle.rules.specs.Counts.{most_counted, counted}
use Rattle.rules.specs.Rules.{State, Taken, gave, refused, spent, long, event_of, due, hand_over, under_way, crossings, corners_of, totals, limit, Finished, step, begin, run}
use Rattle.rules.specs.Strings.{Call, a_begin, a_step, a_run, a_rewind, Entry, Scene, later, after, entries, since_rewind, latest_choice, accepted, Holds}

-- the complete loops among events that are given oldest first: each loop oldest first, without its closing; `so_far` is the loop being gathered
abbrev pub gather : List Event → List Event → List (List Event)
gather so_far [] = []
gather so_far (Crossing x a b ∷ es) = gather (so_far ++ (Crossing x a b ∷ [])) es
gather so_far (Corner r i ∷ es) = gather (so_far ++ (Corner r i ∷ [])) es
gather so_far (Closing ∷ es) = so_far ∷ gather [] es

-- the complete loops of a walk, in the order in which they were handed over
abbrev pub loops : State → List (List Event)
loops s = gather [] (reverse s.past)

-- the loops where there is no crossing: the corners of the ring inside the other, in order, or none
abbrev pub inner_loops : Chart → Option Ring → List (List Event)
inner_loops c None = []
inner_loops c (Some r) = map (Corner r) (upto (c.corners r)) ∷ []

-- A walk's totals count what it has handed over.
pub record Counted (c : Chart) (s : State) : Type 0 where
  -- its complete loops
  pub each_loop : (totals s.past).loops ≡ length (loops s)
  -- no more crossings and corners than the chart has
  pub few_crossings : (totals s.past).crossings ≤ c.count
  pub few_corners : (totals s.past).corners ≤ c.corners One + c.corners Two
  -- at most one loop more than the chart has crossings
  pub few_loops : (totals s.past).loops ≤ c.count + 1
  -- at the end every crossing
  pub all_crossings : Finished c s → (totals s.past).crossings ≡ c.count
  -- and no count overflows with the next event, where it holds one more than the chart's crossings, and all its corners
  pub no_overflow : c.count < most_counted → c.corners One + c.corners Two ≤ most_counted → (e : Event) → (step c s).0 ≡ gave e → counted (totals s.past) e ≡ Some (totals (e ∷ s.past))

-- What a string of calls on a walk just opened, beside the takers ts, came to: its entries are es, and it led to the scene m.
pub record Faithful {S : Type 0} (c : Chart) (rule : S → Event → Taken S) (ts : List S) (es : List Entry) (m : Scene S) : Type 0 where
  -- the walk stands on what was handed over since the opening or latest rewind, and on the choice that a begin left
  pub handed : since_rewind [] es ≡ reverse m.walk.past
  pub choice : latest_choice None es ≡ m.walk.chosen
  -- a crossing that was chosen comes next
  pub choice_comes : (x : ℕ) → m.walk.chosen ≡ Some x → (step c m.walk).0 ≡ gave (event_of c x)
  -- no crossing came twice, and no corner
  pub no_crossing_twice : Once (crossings m.walk.past)
  pub no_corner_twice : Once (corners_of m.walk.past)
  -- none came that the chart has not
  pub known_crossings : (x : ℕ) → In x (crossings m.walk.past) → x < c.count
  pub known_corners : (r : Ring) (i : ℕ) → In (r, i) (corners_of m.walk.past) → i < c.corners r
  -- each crossing came with its own edges
  pub true_edges : (x a b : ℕ) → In (Crossing x a b) m.walk.past → (a ≡ c.edge One x) × (b ≡ c.edge Two x)
  -- a finished walk is at rest, and handed over every crossing, or where there is none the ring inside the other
  pub at_rest : Finished c m.walk → under_way m.walk.past ≡ []
  pub no_loss : Finished c m.walk → (x : ℕ) → x < c.count → In x (crossings m.walk.past)
  pub no_loss_inside : c.count ≡ 0 → Finished c m.walk → loops m.walk ≡ inner_loops c c.inner
  -- the totals are true
  pub counted : Counted c m.walk
  -- each taker holds what its rule makes of all that it accepted, in order
  pub takers_hold : (j : ℕ) → Holds rule (slice_get ts j) (accepted j es) (slice_get m.takers j)

-- j further events, as if no limit stood, and the last of them is the first closing among them
abbrev pub ClosesIn : Chart → State → ℕ → Type 0
ClosesIn c s zero = ⊥
ClosesIn c s (suc j) = (e : Event) × (due c s ≡ Some e) × (((e ≡ Closing) × (j ≡ 0)) ⊎ ((e ≢ Closing) × ClosesIn c (hand_over s e) j))

-- the loop under way, or at rest the next one, has m events in all, its closing among them, as if no limit stood
abbrev pub Needs : Chart → State → ℕ → Type 0
Needs c s m = (j : ℕ) × (m ≡ length (under_way s.past) + j) × ClosesIn c s j

-- the loop under way needs more events than a loop may have, and has had that many
abbrev pub TooLong : Chart → State → Type 0
TooLong c s = (m : ℕ) × Needs c s m × (limit c < m) × (length (under_way s.past) ≡ limit c)

-- How the loops and the runs of a walk end.
pub record Bounded {S : Type 0} (c : Chart) (rule : S → Event → Taken S) (s : State) : Type 0 where
  -- as if no limit stood, every loop closes within as many events as the chart has crossings and corners, and one
  pub ends : (Finished c s → ⊥) → (m : ℕ) × Needs c s m × (m ≤ c.count + c.corners One + c.corners Two + 1)
  -- a step, a begin, and a run that is not spent, say too long exactly where the loop under way is
  pub step_long : ((step c s).0 ≡ refused (told LoopTooLong) → TooLong c s) × (TooLong c s → (step c s).0 ≡ refused (told LoopTooLong))
  pub begin_long : (x : ℕ) → ((begin c s x).0 ≡ refused (told LoopTooLong) → TooLong c s) × (TooLong c s → (begin c s x).0 ≡ refused (told LoopTooLong))
  pub run_long : (k : ℕ) (t : S) → ((run c rule k s t).why ≢ spent) → ((run c rule k s t).why ≡ long → TooLong c (run c rule k s t).walk) × (TooLong c (run c rule k s t).walk → (run c rule k s t).why ≡ long)
  -- a run is spent exactly where it handed over all that was asked for
  pub run_spent : (k : ℕ) (t : S) → ((run c rule k s t).why ≡ spent → length (run c rule k s t).handed ≡ k) × (length (run c rule k s t).handed ≡ k → (run c rule k s t).why ≡ spent)

-- the calls are begins and steps only, n of them steps
abbrev pub BeginsAndSteps : List Call → ℕ → Type 0
BeginsAndSteps [] n = n ≡ 0
BeginsAndSteps (a_begin x ∷ ks) n = BeginsAndSteps ks n
BeginsAndSteps (a_step ∷ ks) n = (m : ℕ) × (n ≡ suc m) × BeginsAndSteps ks m
BeginsAndSteps (a_run k j ∷ ks) n = ⊥
BeginsAndSteps (a_rewind ∷ ks) n = ⊥

-- Two strings on one chart, of which the first led to the walk s, and the second to the scene m.
pub record Agreeing {T : Type 0} (c : Chart) (s : State) (rule : T → Event → Taken T) (m : Scene T) : Type 0 where
  -- if the first ends finished, after the second enough further steps finish, whatever begins come among them
  pub will_finish : Finished c s → (n : ℕ) × ((more : List Call) (k : ℕ) → BeginsAndSteps more k → n ≤ k → Finished c (later c rule m more).walk)
  -- where both end finished they gave the same loops, paired one to one, each read from some event on
  pub same_loops : Finished c s → Finished c m.walk → Paired (loops s) (loops m.walk)

-- The promise at a chart, with takers whose states are S and T: every string is faithful and bounded, and where sides alternate any two agree.
pub record PromiseOf (S T : Type 0) (c : Chart) : Type 0 where
  pub faithful : (rule : S → Event → Taken S) (ts : List S) (ks : List Call) → Faithful c rule ts (entries c rule ts ks) (after c rule ts ks)
  pub bounded : (rule : S → Event → Taken S) (ts : List S) (ks : List Call) → Bounded c rule (after c rule ts ks).walk
  pub agreeing : Alternate c → (rule : S → Event → Taken S) (ts : List S) (ks : List Call) (rule' : T → Event → Taken T) (ts' : List T) (ks' : List Call) → Agreeing c (after c rule ts ks).walk rule' (after c rule' ts' ks')

-- The promise, at every sound chart.
abbrev pub PromiseOver : Type 0 → Type 0 → Type 0
PromiseOver S T = (c : Chart) → Sound c → PromiseOf S T c
