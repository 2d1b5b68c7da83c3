-- The chart of two rings, over the meaning of any arithmetic. Assumes nothing.
use Rattle.std.specs.Prelude.{ℕ, ◌+◌, ◌*◌, Bool, cond, List, [], ◌∷◌, length, Some, None, Option, ◌==◌, nat_lt}
use Rattle.plane.specs.declared.ring.Ring.{Ring}
use Rattle.plane.specs.declared.ring.Ring.TheVariants.{One, Two}
use Rattle.plane.specs.Meaning.{Meaning}
use Rattle.plane.specs.Refusals.{Told, tells}
use Rattle.plane.specs.Rings.{inside}
use Rattle.rules.specs.Chart.{Chart}
use Rattle.chart.specs.declared.layout.Corners.{Corners}
use Rattle.chart.specs.declared.record.Record.{Record}
use Rattle.chart.specs.Chains.{along}
use Rattle.chart.specs.Order.{Ordered}
use Rattle.chart.specs.Records.{records_of, edge_at, leaving_at, not_after_at}
use Rattle.chart.specs.Words.{count}

-- the chart of rings with so many corners, of which these are the crossings
abbrev pub chart_from : {M : Type 0} → (M → M → Bool) → Corners → List (Record M) → Option Ring → Chart
chart_from le n records inner =
    record {
      corners = λ r. count r n;
      count = length records;
      edge = edge_at records;
      leaving = leaving_at records;
      along = λ r e. along (not_after_at le records r) (edge_at records r) e (length records);
      inner = inner;
    }

-- the refusal of so many records and words for so many crossings: 1 for a ring without corners, 5 for tables too small
abbrev pub refused_for : ℕ → ℕ → ℕ → ℕ → ℕ → Option Told
refused_for one two found records words =
    cond (one == 0) (Some (tells 1 0)) (cond (two == 0) (Some (tells 1 0)) (cond (nat_lt records found) (Some (tells 5 0)) (cond (nat_lt words (6 * found + one + two + 8)) (Some (tells 5 0)) None)))

module _ {S R C M P : Type 0} (meaning : Meaning S R C M P) (a : S) where
  -- the ring that lies inside the other, by the first corner of either
  abbrev pub inner_of : List C → List C → Option Ring
  inner_of [] two = None
  inner_of (p ∷ ps) [] = None
  inner_of (p ∷ ps) (q ∷ qs) = cond (inside meaning a p (q ∷ qs)) (Some One) (cond (inside meaning a q (p ∷ ps)) (Some Two) None)

  -- the same where there is no crossing, and none elsewhere
  abbrev pub inner_where : ℕ → List C → List C → Option Ring
  inner_where found one two = cond (found == 0) (inner_of one two) None

  -- the chart of two rings
  abbrev pub chart_of : List C → List C → Chart
  chart_of one two = chart_from (meaning.not_after a) (record { one = length one; two = length two }) (records_of meaning a one two) (inner_where (length (records_of meaning a one two)) one two)

  -- along each edge an earlier crossing does not stand after a later one, by the marks on that ring, and where level it has the smaller number
  abbrev pub InOrder : List C → List C → Type 0
  InOrder one two = (r : Ring) (e : ℕ) → Ordered (not_after_at (meaning.not_after a) (records_of meaning a one two) r) ((chart_of one two).along r e)
