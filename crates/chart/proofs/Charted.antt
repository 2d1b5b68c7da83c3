-- The chart of two rings is sound, and its crossings are in order along each edge. Assumes nothing.
use Rattle.std.proofs.Common.{◌≡◌, ℕ, ◌+◌, ◌<◌, ◌≤◌, true, false, ◌⊎◌, List, [], ◌∷◌, length, Some, None, Option, sym, refl, ◌∙◌, subst, ap₂, inl, inr, ⊎_elim, arith}
use Rattle.std.specs.List.{AllByRecursion, slice_get, cons_option, filter_map, flat_map, enumerate_from}
use Rattle.std.proofs.ByRecursion.{All-append, All-get_or}
use Rattle.std.proofs.lemmas.Option.{slice_get_cases}
use Rattle.plane.specs.declared.answer.Meet.{Meet}
use Rattle.plane.specs.declared.answer.Meet.TheVariants.{Apart, Crossing, Overlap}
use Rattle.plane.specs.declared.ring.Ring.{Ring}
use Rattle.plane.specs.declared.ring.Ring.TheVariants.{One, Two}
use Rattle.plane.specs.Meaning.{Meaning, Marks, Given}
use Rattle.plane.specs.Meaning.{Ordered as OrderedMarks}
use Rattle.plane.specs.Rings.{edges}
use Rattle.plane.specs.declared.edge.Edge.{Edge}
use Rattle.plane.proofs.Edges.{length-edges}
use Rattle.rules.specs.Chart.{Sound}
use Rattle.chart.specs.declared.record.Record.{Record}
use Rattle.chart.specs.Charts.{InOrder, chart_of}
use Rattle.chart.specs.Crossings.{meeting}
use Rattle.chart.specs.Order.{Lawful}
use Rattle.chart.specs.Records.{on, leaving_side, record_by, record_at, records_on, records_of, edge_at, not_after_at}
use Rattle.chart.specs.Words.{count}
use Rattle.chart.proofs.Along.{along_has, along_all, along_once, along_ordered}

all_more : {X : Type 0} (P : X → Type 0) (o : Option X) (xs : List X) → ((x : X) → o ≡ Some x → P x) → AllByRecursion P xs → AllByRecursion P (cons_option o xs)
all_more P None xs p a = a
all_more P (Some x) xs p a = (p x refl, a)

-- what holds of each record holds of the one at an index
at_all : {X : Type 0} (P : X → Type 0) (xs : List X) (k : ℕ) → AllByRecursion P xs → k < length xs → (x : X) × (slice_get xs k ≡ Some x) × P x
at_all P xs k a h = ⊎_elim (λ p. (p.0, p.2, subst P p.3 (All-get_or P xs k p.0 h a))) (λ p. absurd (omega arith)) (slice_get_cases xs k).1

module _ {S R C M P : Type 0} (meaning : Meaning S R C M P) (a : S) where
  -- a record of edges that the rings have, and of marks that are given
  abbrev Fine : ℕ → ℕ → Record M → Type 0
  Fine n m c = (c.one.edge < n) × (c.two.edge < m) × Given meaning a c.one.mark × Given meaning a c.two.mark

  fine_by : (n m i j : ℕ) (e f : Edge C) (r : Meet M) → i < n → j < m → r ≡ meeting meaning a e f → (c : Record M) → record_by (leaving_side meaning a e f) i j r ≡ Some c → Fine n m c
  fine_by n m i j e f Apart hi hj is c some = absurd cc
  fine_by n m i j e f (Overlap p q r s) hi hj is c some = absurd cc
  fine_by n m i j e f (Crossing p q) hi hj is c some =
      let given : (x : M) → Marks x (Crossing p q) → Given meaning a x = λ x h. record { from = e.from; to = e.to; from' = f.from; to' = f.to; is = subst (Marks x) is h } in
      let same : record { one = record { edge = i; mark = p }; two = record { edge = j; mark = q }; leaving = leaving_side meaning a e f } ≡ c = cc in
      subst (Fine n m) same (hi, hj, given p (inl refl), given q (inr refl))

  fine_on : (n m i j : ℕ) (e : Edge C) (fs : List (Edge C)) → i < n → j + length fs ≤ m → AllByRecursion (Fine n m) (filter_map (record_at meaning a (i, e)) (enumerate_from j fs))
  fine_on n m i j e [] hi hj = tt
  fine_on n m i j e (f ∷ fs) hi hj =
      all_more (Fine n m) (record_at meaning a (i, e) (j, f)) (filter_map (record_at meaning a (i, e)) (enumerate_from (j + 1) fs)) (fine_by n m i j e f (meeting meaning a e f) hi (omega arith) refl) (fine_on n m i (j + 1) e fs hi (omega arith))

  fine_from : (n m i : ℕ) (es : List (Edge C)) (two : List C) → i + length es ≤ n → length two ≤ m → AllByRecursion (Fine n m) (flat_map (records_on meaning a two) (enumerate_from i es))
  fine_from n m i [] two hi hj = tt
  fine_from n m i (e ∷ es) two hi hj = All-append (Fine n m) (records_on meaning a two (i, e)) (flat_map (records_on meaning a two) (enumerate_from (i + 1) es)) (fine_on n m i 0 e (edges two) (omega arith) (omega (arith, length-edges two, hj))) (fine_from n m (i + 1) es two (omega arith) hj)

  fine : (one two : List C) → AllByRecursion (Fine (length one) (length two)) (records_of meaning a one two)
  fine one two = fine_from (length one) (length two) 0 (edges one) two (omega (arith, length-edges one)) (omega arith)

  -- each crossing lies on an edge that its ring has
  pub edge_low : (one two : List C) (r : Ring) (x : ℕ) → x < length (records_of meaning a one two) → edge_at (records_of meaning a one two) r x < count r (record { one = length one; two = length two })
  edge_low one two r x h = go r (at_all (Fine (length one) (length two)) (records_of meaning a one two) x (fine one two) h)
    where
      go : (r : Ring) → (c : Record M) × (slice_get (records_of meaning a one two) x ≡ Some c) × Fine (length one) (length two) c → edge_at (records_of meaning a one two) r x < count r (record { one = length one; two = length two })
      go One p = subst (λ (o : Option (Record M)). elim o [ Some c ↦ c.one.edge | None ↦ 0 ] < length one) (sym p.1) p.2.0
      go Two p = subst (λ (o : Option (Record M)). elim o [ Some c ↦ c.two.edge | None ↦ 0 ] < length two) (sym p.1) p.2.1

  -- its mark is given
  given_on : (one two : List C) (r : Ring) (c : Record M) → Fine (length one) (length two) c → Given meaning a (on r c).mark
  given_on one two One c f = f.2
  given_on one two Two c f = f.3

  -- the order of two crossings is that of their marks
  order_is : (cs : List (Record M)) (r : Ring) (y x : ℕ) (b c : Record M) → slice_get cs y ≡ Some b → slice_get cs x ≡ Some c → not_after_at (meaning.not_after a) cs r y x ≡ meaning.not_after a (on r b).mark (on r c).mark
  order_is cs r y x b c eb ec = ap₂ (λ (o p : Option (Record M)). elim o [ Some b ↦ elim p [ Some c ↦ meaning.not_after a (on r b).mark (on r c).mark | None ↦ false ] | None ↦ false ]) eb ec

  -- the order of the crossings on a ring is lawful
  pub lawful : OrderedMarks meaning a → (one two : List C) (r : Ring) → Lawful (not_after_at (meaning.not_after a) (records_of meaning a one two) r) (length (records_of meaning a one two))
  lawful law one two r = (total, trans)
    where
      total : (x y : ℕ) → x < length (records_of meaning a one two) → y < length (records_of meaning a one two) → (not_after_at (meaning.not_after a) (records_of meaning a one two) r x y ≡ true) ⊎ (not_after_at (meaning.not_after a) (records_of meaning a one two) r y x ≡ true)
      total x y hx hy =
          let p = at_all (Fine (length one) (length two)) (records_of meaning a one two) x (fine one two) hx in
          let q = at_all (Fine (length one) (length two)) (records_of meaning a one two) y (fine one two) hy in
          ⊎_elim
          (λ t. inl (order_is (records_of meaning a one two) r x y p.0 q.0 p.1 q.1 ∙ t))
          (λ t. inr (order_is (records_of meaning a one two) r y x q.0 p.0 q.1 p.1 ∙ t))
          (law.total (on r p.0).mark (on r q.0).mark (given_on one two r p.0 p.2) (given_on one two r q.0 q.2))

      trans : (x y z : ℕ) → x < length (records_of meaning a one two) → y < length (records_of meaning a one two) → z < length (records_of meaning a one two) → not_after_at (meaning.not_after a) (records_of meaning a one two) r x y ≡ true → not_after_at (meaning.not_after a) (records_of meaning a one two) r y z ≡ true → not_after_at (meaning.not_after a) (records_of meaning a one two) r x z ≡ true
      trans x y z hx hy hz s t =
          let p = at_all (Fine (length one) (length two)) (records_of meaning a one two) x (fine one two) hx in
          let q = at_all (Fine (length one) (length two)) (records_of meaning a one two) y (fine one two) hy in
          let o = at_all (Fine (length one) (length two)) (records_of meaning a one two) z (fine one two) hz in
          order_is (records_of meaning a one two) r x z p.0 o.0 p.1 o.1
          ∙ law.trans (on r p.0).mark (on r q.0).mark (on r o.0).mark (given_on one two r p.0 p.2) (given_on one two r q.0 q.2) (given_on one two r o.0 o.2)
          (sym (order_is (records_of meaning a one two) r x y p.0 q.0 p.1 q.1) ∙ s)
          (sym (order_is (records_of meaning a one two) r y z q.0 o.0 q.1 o.1) ∙ t)

  -- along each edge the crossings are in order
  pub in_order : OrderedMarks meaning a → (one two : List C) → InOrder meaning a one two
  in_order law one two r e =
      along_ordered (not_after_at (meaning.not_after a) (records_of meaning a one two) r) (edge_at (records_of meaning a one two) r) e (length (records_of meaning a one two)) (length (records_of meaning a one two)) (lawful law one two r) (omega arith)

  -- the chart is sound
  pub sound : (one two : List C) → 0 < length one → 0 < length two → Sound (chart_of meaning a one two)
  sound one two some some' =
      let n = length (records_of meaning a one two) in
      let goes = not_after_at (meaning.not_after a) (records_of meaning a one two) in
      let edge = edge_at (records_of meaning a one two) in
      record {
        some_corner = each;
        on_its_edge = λ r e x i. along_has (goes r) (edge r) e n x i;
        all_there = λ r x h. (edge_low one two r x h, along_all (goes r) (edge r) (edge r x) n x h refl);
        there_once = λ r e. along_once (goes r) (edge r) e n;
      }
    where
      each : (r : Ring) → 0 < count r (record { one = length one; two = length two })
      each One = some
      each Two = some'
