-- The words that tell the records, alone or at the front of a table, tell the chart. Assumes nothing.
use Rattle.std.proofs.Common.{◌≡◌, ℕ, ◌+◌, ◌<◌, Bool, false, List, ◌++◌, length, Some, None, Option, ap, ◌∙◌, subst, ap₂}
use Rattle.plane.specs.declared.ring.Ring.{Ring}
use Rattle.plane.specs.declared.ring.Ring.TheVariants.{One, Two}
use Rattle.chart.specs.declared.layout.Corners.{Corners}
use Rattle.chart.specs.declared.record.Record.{Record}
use Rattle.chart.specs.Chains.{Links}
use Rattle.chart.specs.Charts.{chart_from}
use Rattle.chart.specs.Records.{on, edge_at, leaving_at, not_after_at}
use Rattle.chart.specs.Words.{ToldBy, Chained, start, base, side_word}
use Rattle.chart.proofs.Along.{along_same}
use Rattle.chart.proofs.Reading.{at_front}

pub told_by : {M : Type 0} (le : M → M → Bool) (n : Corners) (rs : List (Record M)) (inner : Option Ring) (ws : List ℕ) → Chained le n rs (length rs) ws → ToldBy ws (chart_from le n rs inner)
told_by le n rs inner ws told =
    record { chains = told.0; edge_one = told.1.edge_one; edge_two = told.1.edge_two; side = told.1.side; waiting = told.1.waiting }

-- what stands behind the records does not matter
module _ {M : Type 0} (rs more : List (Record M)) where
  pub edge-front : (r : Ring) (x : ℕ) → x < length rs → edge_at (rs ++ more) r x ≡ edge_at rs r x
  edge-front r x h = ap (λ (o : Option (Record M)). elim o [ Some c ↦ (on r c).edge | None ↦ 0 ]) (at_front rs more x h)

  leaving-front : (x : ℕ) → x < length rs → leaving_at (rs ++ more) x ≡ leaving_at rs x
  leaving-front x h = ap (λ (o : Option (Record M)). elim o [ Some c ↦ c.leaving | None ↦ One ]) (at_front rs more x h)

  order-front : (le : M → M → Bool) (r : Ring) (y x : ℕ) → y < length rs → x < length rs → not_after_at le (rs ++ more) r y x ≡ not_after_at le rs r y x
  order-front le r y x hy hx =
      ap₂ (λ (o p : Option (Record M)). elim o [ Some b ↦ elim p [ Some c ↦ le (on r b).mark (on r c).mark | None ↦ false ] | None ↦ false ]) (at_front rs more y hy) (at_front rs more x hx)

  pub told-front : (le : M → M → Bool) (n : Corners) (inner : Option Ring) (ws : List ℕ) → Chained le n (rs ++ more) (length rs) ws → ToldBy ws (chart_from le n rs inner)
  told-front le n inner ws told =
      record {
        chains = λ r e h.
            subst (Links ws (base r n) (start r n + e))
            (along_same (not_after_at le (rs ++ more) r) (not_after_at le rs r) (edge_at (rs ++ more) r) (edge_at rs r) e (length rs) (order-front le r) (edge-front r))
            (told.0 r e h);
        edge_one = λ x h. told.1.edge_one x h ∙ edge-front One x h;
        edge_two = λ x h. told.1.edge_two x h ∙ edge-front Two x h;
        side = λ x h. told.1.side x h ∙ ap side_word (leaving-front x h);
        waiting = told.1.waiting;
      }
