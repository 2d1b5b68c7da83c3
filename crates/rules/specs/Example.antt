-- Charts that the promise speaks of: a star, the same with both rings reversed, two squares that overlap at a corner, and a triangle inside another. Assumes nothing.
use Rattle.std.specs.Prelude.{◌≡◌, ℕ, zero, suc, ◌+◌, List, [], ◌∷◌, map, reverse, length, Some, None, Option, slice_index_or}
use Rattle.plane.specs.declared.refusal.Refusal.TheVariants.{Unknown, InsideLoop, HandedOver, LoopTooLong, LimitReached}
use Rattle.plane.specs.Refusals.{told}
use Rattle.plane.specs.declared.ring.Ring.{Ring}
use Rattle.plane.specs.declared.ring.Ring.TheVariants.{One, Two}
use Rattle.rules.specs.declared.event.Event.{Event}
use Rattle.rules.specs.declared.event.Event.TheVariants.{Crossing, Corner, Closing}
use Rattle.rules.specs.Chart.{Chart, Sound, Alternate}
use Rattle.rules.specs.Rules.{Taken, accepts, refuses, gave, finished, refused, done, at_end, long, by_taker, event_of, totals, Finished}
use Rattle.rules.specs.Strings.{Call, a_begin, a_step, a_run, a_rewind, Scene, Reply, says, ran, Entry, entries, after}
use Rattle.rules.specs.Promise.{Needs, TooLong, loops}

-- one thing for ring one, another for ring two
abbrev pub for_ring : {A : Type 0} → A → A → Ring → A
for_ring a b One = a
for_ring a b Two = b

-- a crossing's edges on ring one and on ring two, and the ring along which a loop leaves it
abbrev pub Record : Type 0
Record = ℕ × ℕ × Ring

-- the record of a crossing
abbrev pub record_of : List Record → ℕ → Record
record_of records x = slice_index_or records x (0, 0, One)

-- a chart written out: a record for each crossing, for each edge of either ring the crossings along it, and the ring inside the other
abbrev pub drawn : List Record → List (List ℕ) → List (List ℕ) → Option Ring → Chart
drawn records one two inner = record {
  corners = λ r. length (for_ring one two r);
  count = length records;
  edge = λ r x. for_ring (record_of records x).0 (record_of records x).1 r;
  leaving = λ x. (record_of records x).2;
  along = λ r e. slice_index_or (for_ring one two r) e [];
  inner = inner;
}

-- what the calls of a string answered
abbrev pub replies : List Entry → List Reply
replies es = map (λ e. e.reply) es

-- a taker that counts every event
abbrev pub counter : ℕ → Event → Taken ℕ
counter n e = accepts (n + 1)

-- a taker that counts, and refuses the fourth event
abbrev pub three : ℕ → Event → Taken ℕ
three zero e = accepts 1
three (suc zero) e = accepts 2
three (suc (suc zero)) e = accepts 3
three (suc (suc (suc n))) e = refuses (told LimitReached)

-- The star: two triangles, each edge of which crosses two edges of the other.

-- its crossings along the edges of ring one
abbrev pub star_one : List (List ℕ)
star_one = (0 ∷ 1 ∷ []) ∷ (3 ∷ 2 ∷ []) ∷ (4 ∷ 5 ∷ []) ∷ []

-- and along those of ring two
abbrev pub star_two : List (List ℕ)
star_two = (2 ∷ 4 ∷ []) ∷ (5 ∷ 0 ∷ []) ∷ (1 ∷ 3 ∷ []) ∷ []

-- the star, where each crossing is left inwards
abbrev pub star : Chart
star = drawn ((0, 1, One) ∷ (0, 2, Two) ∷ (1, 0, Two) ∷ (1, 2, One) ∷ (2, 0, One) ∷ (2, 1, Two) ∷ []) star_one star_two None

-- a run over all of it
abbrev pub star_after : Scene ℕ
star_after = after star counter (0 ∷ []) (a_run 9 0 ∷ [])

-- the walk gives the hexagon of the six crossings in one loop, read from crossing 0 on, or from the one that a begin chose last
pub record StarStands : Type 0 where
  pub sound : Sound star
  pub alternate : Alternate star
  pub answers : replies (entries star counter (0 ∷ []) (a_run 9 0 ∷ [])) ≡ ran 7 at_end ∷ []
  pub all_taken : star_after.takers ≡ 7 ∷ []
  pub one_loop : loops star_after.walk ≡ map (event_of star) (0 ∷ 1 ∷ 3 ∷ 2 ∷ 4 ∷ 5 ∷ []) ∷ []
  pub tallied : totals star_after.walk.past ≡ record { loops = 1; crossings = 6; corners = 0 }
  pub from_two : loops (after star counter (0 ∷ []) (a_begin 3 ∷ a_begin 2 ∷ a_run 9 0 ∷ [])).walk ≡ map (event_of star) (2 ∷ 4 ∷ 5 ∷ 0 ∷ 1 ∷ 3 ∷ []) ∷ []
  pub choice_dropped : replies (entries star counter [] (a_begin 2 ∷ a_rewind ∷ a_step ∷ [])) ≡ says done ∷ says done ∷ says (gave (event_of star 0)) ∷ []

-- the star with both rings reversed: each crossing is left outwards
abbrev pub reversed_star : Chart
reversed_star = drawn ((0, 1, Two) ∷ (0, 2, One) ∷ (1, 0, One) ∷ (1, 2, Two) ∷ (2, 0, Two) ∷ (2, 1, One) ∷ []) star_one star_two None

-- calls on it
abbrev pub reversed_calls : List Call
reversed_calls = a_run 20 0 ∷ a_step ∷ a_begin 5 ∷ []

-- and where they lead
abbrev pub reversed_after : Scene ℕ
reversed_after = after reversed_star counter (0 ∷ []) reversed_calls

-- the outer loop, past all crossings and corners, needs thirteen events: it is too long after ten, and run, step and begin say so
pub record ReversedStarStands : Type 0 where
  pub sound : Sound reversed_star
  pub answers : replies (entries reversed_star counter (0 ∷ []) reversed_calls) ≡ ran 10 long ∷ says (refused (told LoopTooLong)) ∷ says (refused (told LoopTooLong)) ∷ []
  pub ten : reverse reversed_after.walk.past ≡ Crossing 0 0 1 ∷ Corner Two 2 ∷ Crossing 1 0 2 ∷ Corner One 1 ∷ Crossing 3 1 2 ∷ Corner Two 0 ∷ Crossing 2 1 0 ∷ Corner One 2 ∷ Crossing 4 2 0 ∷ Corner Two 1 ∷ []
  pub thirteen : Needs reversed_star reversed_after.walk 13
  pub too_long : TooLong reversed_star reversed_after.walk

-- Two squares that overlap at a corner.
abbrev pub squares : Chart
squares = drawn ((1, 0, One) ∷ (2, 3, Two) ∷ []) ([] ∷ (0 ∷ []) ∷ (1 ∷ []) ∷ [] ∷ []) ((0 ∷ []) ∷ [] ∷ [] ∷ (1 ∷ []) ∷ []) None

-- calls on them
abbrev pub square_calls : List Call
square_calls = a_begin 2 ∷ a_begin 1 ∷ a_step ∷ a_begin 0 ∷ a_run 9 1 ∷ a_run 9 0 ∷ a_step ∷ a_step ∷ a_begin 1 ∷ []

-- and where they lead
abbrev pub squares_after : Scene ℕ
squares_after = after squares three (0 ∷ []) square_calls

-- the walk gives the squares' common part in one loop, and refuses what it has to
pub record SquaresStand : Type 0 where
  pub sound : Sound squares
  pub alternate : Alternate squares
  pub answers : replies (entries squares three (0 ∷ []) square_calls) ≡ says (refused (told (Unknown 0))) ∷ says done ∷ says (gave (Crossing 1 2 3)) ∷ says (refused (told InsideLoop)) ∷ says (refused (told (Unknown 0))) ∷ ran 3 (by_taker (told LimitReached)) ∷ says (gave Closing) ∷ says finished ∷ says (refused (told HandedOver)) ∷ []
  pub ends : Finished squares squares_after.walk
  pub one_loop : loops squares_after.walk ≡ (Crossing 1 2 3 ∷ Corner Two 0 ∷ Crossing 0 1 0 ∷ Corner One 2 ∷ []) ∷ []

-- A triangle, ring two, inside another.
abbrev pub nested : Chart
nested = drawn [] ([] ∷ [] ∷ [] ∷ []) ([] ∷ [] ∷ [] ∷ []) (Some Two)

-- the walk gives the inner triangle
pub record NestedStand : Type 0 where
  pub sound : Sound nested
  pub alternate : Alternate nested
  pub answers : replies (entries nested counter (0 ∷ []) (a_run 9 0 ∷ [])) ≡ ran 4 at_end ∷ []
  pub one_loop : loops (after nested counter (0 ∷ []) (a_run 9 0 ∷ [])).walk ≡ (Corner Two 0 ∷ Corner Two 1 ∷ Corner Two 2 ∷ []) ∷ []

-- All of them.
pub record ExamplesStand : Type 0 where
  pub inwards : StarStands
  pub outwards : ReversedStarStands
  pub overlapping : SquaresStand
  pub inside : NestedStand
