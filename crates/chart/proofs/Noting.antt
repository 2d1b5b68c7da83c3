-- There are as many records as crossings. Assumes nothing.
use Rattle.std.proofs.Common.{◌≡◌, ℕ, ◌+◌, cond, List, [], ◌∷◌, ◌++◌, length, take, drop, count_by, sym, refl, ap, ◌∙◌, ap₂, arith}
use Rattle.std.specs.List.{sum_by, cons_option, filter_map, flat_map, enumerate_from}
use Rattle.std.proofs.Math.Seq.{take-append_seam}
use Rattle.std.proofs.lemmas.List.{length-append}
use Rattle.std.proofs.lemmas.List.Sums.{sum_by-cons}
use Rattle.plane.specs.declared.answer.Meet.{Meet}
use Rattle.plane.specs.declared.answer.Meet.TheVariants.{Apart, Crossing, Overlap}
use Rattle.plane.specs.declared.edge.Edge.{Edge}
use Rattle.plane.specs.declared.ring.Ring.{Ring}
use Rattle.plane.specs.Meaning.{Meaning}
use Rattle.plane.specs.Rings.{edges}
use Rattle.chart.specs.declared.record.Record.{Record}
use Rattle.chart.specs.Crossings.{is_crossing, meeting, crosses, crossings}
use Rattle.chart.specs.Records.{leaving_side, record_by, record_at, records_on, records_of}
use Rattle.chart.proofs.Pairs.{by_edge}

-- what crosses gives one record more
length_by : {M : Type 0} (side : Ring) (i j : ℕ) (r : Meet M) (rest : List (Record M)) → length (cons_option (record_by side i j r) rest) ≡ cond (is_crossing r) 1 0 + length rest
length_by side i j Apart rest = omega arith
length_by side i j (Crossing p q) rest = omega arith
length_by side i j (Overlap p q r s) rest = omega arith

module _ {S R C M P : Type 0} (meaning : Meaning S R C M P) (a : S) where
  length_on : (i : ℕ) (e : Edge C) (j : ℕ) (fs : List (Edge C)) → length (filter_map (record_at meaning a (i, e)) (enumerate_from j fs)) ≡ count_by (crosses meaning a e) fs
  length_on i e j [] = refl
  length_on i e j (f ∷ fs) =
      length_by (leaving_side meaning a e f) i j (meeting meaning a e f) (filter_map (record_at meaning a (i, e)) (enumerate_from (j + 1) fs)) ∙ ap (λ n. cond (crosses meaning a e f) 1 0 + n) (length_on i e (j + 1) fs)
      ∙ sym (sum_by-cons (λ f. cond (crosses meaning a e f) 1 0) f fs)

  -- by the edges: the library's length-flat_map sums over the edges behind their numbers, and has nothing that leaves the numbers out
  length_from : (two : List C) (i : ℕ) (es : List (Edge C)) → length (flat_map (records_on meaning a two) (enumerate_from i es)) ≡ sum_by (λ e. count_by (crosses meaning a e) (edges two)) es
  length_from two i [] = refl
  length_from two i (e ∷ es) =
      length-append (records_on meaning a two (i, e)) (flat_map (records_on meaning a two) (enumerate_from (i + 1) es)) ∙ ap₂ (λ m n. m + n) (length_on i e 0 (edges two)) (length_from two (i + 1) es)
      ∙ sym (sum_by-cons (λ e. count_by (crosses meaning a e) (edges two)) e es)

  pub length-records : (one two : List C) → length (records_of meaning a one two) ≡ crossings meaning a one two
  length-records one two = length_from two 0 (edges one) ∙ sym (by_edge meaning a one two)

  -- so many at the front of a table are the records, where they were written there
  pub front_written : (one two : List C) (old now : List (Record M)) (found : ℕ) → found ≡ crossings meaning a one two → now ≡ records_of meaning a one two ++ drop (length (records_of meaning a one two)) old → take found now ≡ records_of meaning a one two
  front_written one two old now found all is =
      let rs = records_of meaning a one two in
      ap (take found) is ∙ ap (λ k. take k (rs ++ drop (length rs) old)) (all ∙ sym (length-records one two)) ∙ take-append_seam rs (drop (length rs) old)
