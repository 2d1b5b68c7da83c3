-- How many bytes a reading looks at. Assumes nothing.
use Rattle.std.proofs.Common.{◌≡◌, ℕ, zero, suc, ◌+◌, ◌-◌, ◌*◌, ◌<◌, ◌≤◌, ◌⊎◌, List, [], ◌∷◌, length, take, drop, Ok, Err, Result, sym, refl, ap, inl, inr, arith}
use Rattle.std.proofs.lemmas.List.{drop-take, length-drop, take_all}
use Rattle.std.proofs.lemmas.Bool.{cases_lt}
use Rattle.std.proofs.lemmas.Grind.{common_steps}
use Rattle.plane.specs.Refusals.{Told}
use Rattle.plane.specs.Outlines.{most_corners}
use Rattle.decimetre.specs.Exact.{Pair}
use Rattle.plane.specs.declared.ring.Ring.{Ring}
use Rattle.plane.specs.declared.ring.Ring.TheVariants.{One, Two}
use Rattle.job.specs.declared.reader.Kind.TheVariants.{Corner}
use Rattle.job.specs.Format.{added, Lists, none, pairs_in, puts, by_kind, read_from}
use Rattle.job.specs.Laws.{Enough}
use Rattle.job.proofs.Readings.{reads_one}
use Rattle.job.proofs.Splits.{Few, few_none, few_after}

-- a record's kind is in its first byte, its pair in the first five
added_prefix : (at k : ℕ) (ps : List Pair) (left : List ℕ) → added at ps (take (5 + k) left) ≡ added at ps left
added_prefix at k ps left = grind (arith, common_steps)

-- a corner is one pair more
grows : (at : ℕ) (ps : List Pair) (left : List ℕ) (qs : List Pair) → Ok qs ≡ added at ps left → length qs ≡ length ps + 1
grows at ps left qs e = grind (arith, common_steps)

-- the bytes that the corners still to come have, and the end record
abbrev budget : Lists → ℕ
budget l = 5 * ((most_corners - length l.one) + (most_corners - length l.two)) + 1

budget-room : (l : Lists) (ring : Ring) → Few l → length (pairs_in ring l) < most_corners → 6 ≤ budget l
budget-room l ring few h = let f = few ring in grind (arith, common_steps)

budget-less : (l : Lists) (ring : Ring) (qs : List Pair) → Few l → length (pairs_in ring l) < most_corners → length qs ≡ length (pairs_in ring l) + 1 → 5 + budget (puts ring qs l) ≤ budget l
budget-less l ring qs few h e = let f = few ring in grind (arith, common_steps)

-- any record, if what follows it is read alike
module _ (at m : ℕ) (l : Lists) (left : List ℕ) (few : Few l) (b : budget l ≤ m) (on : (k : Lists) → budget k ≤ m - 5 → Few k → read_from (at + 5) k (take (m - 5) (drop 5 left)) ≡ read_from (at + 5) k (drop 5 left)) where
  corner_prefix : (ring : Ring) → by_kind read_from at l (take m left) (Corner ring) ≡ by_kind read_from at l left (Corner ring)
  corner_prefix ring = go (cases_lt (length (pairs_in ring l)) most_corners) (added at (pairs_in ring l) left) refl
    where
      go : (length (pairs_in ring l) < most_corners) ⊎ (most_corners ≤ length (pairs_in ring l)) → (r : Result (List Pair) Told) → r ≡ added at (pairs_in ring l) left → by_kind read_from at l (take m left) (Corner ring) ≡ by_kind read_from at l left (Corner ring)
      go (inr h) r e = grind arith
      go (inl h) (Err t) e =
          let room = budget-room l ring few h in
          let five : 5 + (m - 5) ≡ m = omega arith in
          let same = added_prefix at (m - 5) (pairs_in ring l) left in
          grind arith
      go (inl h) (Ok qs) e =
          let room = budget-room l ring few h in
          let five : 5 + (m - 5) ≡ m = omega arith in
          let same = added_prefix at (m - 5) (pairs_in ring l) left in
          let rest = drop-take 5 (m - 5) left in
          let n = grows at (pairs_in ring l) left qs e in
          let after = on (puts ring qs l) (omega (arith, budget-less l ring qs few h n)) (few_after l ring qs few h n) in
          grind arith

  record_prefix : read_from at l (take m left) ≡ read_from at l left
  record_prefix = grind (arith, common_steps, reads_one at l (take m left), reads_one at l left, corner_prefix One, corner_prefix Two)

prefix : (n at m : ℕ) (l : Lists) (left : List ℕ) → length left ≤ n → Few l → budget l ≤ m → read_from at l (take m left) ≡ read_from at l left
prefix n at m l [] h few b = ap (read_from at l) (take_all m [] (omega arith))
prefix zero at m l (a ∷ left) h few b = absurd (omega arith)
prefix (suc n) at m l (a ∷ left) h few b = record_prefix at m l (a ∷ left) few b (λ k c f. prefix n (at + 5) (m - 5) k (drop 5 (a ∷ left)) (simp length-drop (omega arith)) f c)

pub enough : Enough
enough bytes = sym (prefix (length bytes) 0 10241 none bytes (omega arith) few_none (omega arith))
