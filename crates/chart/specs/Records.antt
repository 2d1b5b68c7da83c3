-- What is written down of the crossings of two rings, over the meaning of any arithmetic. Assumes nothing.
use Rattle.std.specs.Prelude.{ℕ, Bool, false, List, Some, None, Option}
use Rattle.std.specs.List.{slice_get, filter_map, flat_map, enumerate_from}
use Rattle.plane.specs.declared.answer.Meet.{Meet}
use Rattle.plane.specs.declared.answer.Meet.TheVariants.{Apart, Crossing, Overlap}
use Rattle.plane.specs.declared.answer.Side.{Side}
use Rattle.plane.specs.declared.answer.Side.TheVariants.{Left, Right, Level}
use Rattle.plane.specs.declared.ring.Ring.{Ring}
use Rattle.plane.specs.declared.ring.Ring.TheVariants.{One, Two}
use Rattle.plane.specs.Meaning.{Meaning}
use Rattle.plane.specs.declared.edge.Edge.{Edge}
use Rattle.plane.specs.Rings.{edges}
use Rattle.chart.specs.declared.record.Record.{Record}
use Rattle.chart.specs.declared.record.Spot.{Spot}
use Rattle.chart.specs.Crossings.{meeting}

-- the ring along which a crossing is left, where ring two's edge starts level with ring one's: by the side of its end
abbrev pub leaving_level : Side → Ring
leaving_level Left = Two
leaving_level Right = One
leaving_level Level = One

-- the same by the side of its start, and then of its end
abbrev pub leaving_by : Side → Side → Ring
leaving_by Left end = One
leaving_by Right end = Two
leaving_by Level end = leaving_level end

-- what is written down of two edges of these numbers that meet so, and that are left along that ring
abbrev pub record_by : {M : Type 0} → Ring → ℕ → ℕ → Meet M → Option (Record M)
record_by side i j Apart = None
record_by side i j (Crossing m n) = Some (record { one = record { edge = i; mark = m }; two = record { edge = j; mark = n }; leaving = side })
record_by side i j (Overlap m n o p) = None

module _ {S R C M P : Type 0} (meaning : Meaning S R C M P) (a : S) where
  -- the ring along which a loop leaves the crossing of two edges
  abbrev pub leaving_side : Edge C → Edge C → Ring
  leaving_side e f = leaving_by (meaning.side a e.from e.to f.from) (meaning.side a e.from e.to f.to)

  -- the record of an edge of ring one and an edge of ring two, each behind its number, if they cross
  abbrev pub record_at : ℕ × Edge C → ℕ × Edge C → Option (Record M)
  record_at e f = record_by (leaving_side e.1 f.1) e.0 f.0 (meeting meaning a e.1 f.1)

  -- the records of an edge of ring one with all of ring two
  abbrev pub records_on : List C → ℕ × Edge C → List (Record M)
  records_on two e = filter_map (record_at e) (enumerate_from 0 (edges two))

  -- the records of two rings: by the edge of ring one, then by that of ring two
  abbrev pub records_of : List C → List C → List (Record M)
  records_of one two = flat_map (records_on two) (enumerate_from 0 (edges one))

module _ {M : Type 0} where
  -- where a crossing lies on a ring
  abbrev pub on : Ring → Record M → Spot M
  on One c = c.one
  on Two c = c.two

  -- the edge of a ring on which crossing x lies
  abbrev pub edge_at : List (Record M) → Ring → ℕ → ℕ
  edge_at records r x = elim (slice_get records x) [ Some c ↦ (on r c).edge | None ↦ 0 ]

  -- the ring along which crossing x is left
  abbrev pub leaving_at : List (Record M) → ℕ → Ring
  leaving_at records x = elim (slice_get records x) [ Some c ↦ c.leaving | None ↦ One ]

  -- whether crossing y stands before crossing x on a ring, or level with it
  abbrev pub not_after_at : (M → M → Bool) → List (Record M) → Ring → ℕ → ℕ → Bool
  not_after_at le records r y x = elim (slice_get records y) [ Some b ↦ elim (slice_get records x) [ Some c ↦ le (on r b).mark (on r c).mark | None ↦ false ] | None ↦ false ]
