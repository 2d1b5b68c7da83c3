-- A record that is read from the table. Assumes nothing.
use Rattle.std.proofs.Common.{◌≡◌, ℕ, zero, suc, ◌<◌, List, [], ◌∷◌, ◌++◌, length, get_or, Some, None, Option, sym, refl, ap, arith}
use Rattle.std.specs.List.{slice_get}
use Rattle.std.proofs.lemmas.Option.{slice_get_read}
use Rattle.plane.specs.declared.ring.Ring.{Ring}
use Rattle.plane.specs.declared.ring.Ring.TheVariants.{One}
use Rattle.chart.specs.declared.record.Record.{Record}
use Rattle.chart.specs.Records.{on, edge_at, leaving_at}

-- what stands behind does not matter
pub at_front : {X : Type 0} (xs ys : List X) (k : ℕ) → k < length xs → slice_get (xs ++ ys) k ≡ slice_get xs k
at_front [] ys k h = absurd (omega arith)
at_front (x ∷ xs) ys zero h = refl
at_front (x ∷ xs) ys (suc k) h = at_front xs ys k (omega arith)

-- the edge of a record that is read
pub edge_read_lem : {M : Type 0} (records : List (Record M)) (ring : Ring) (x : ℕ) (c : Record M) → x < length records → c ≡ get_or records x c → (on ring c).edge ≡ edge_at records ring x
edge_read_lem {M} records ring x c h e = sym (ap (λ (o : Option (Record M)). elim o [ Some c ↦ (on ring c).edge | None ↦ 0 ]) (slice_get_read records _ x c refl h e))

-- and its leaving side
pub leaving_read : {M : Type 0} (records : List (Record M)) (x : ℕ) (c : Record M) → x < length records → c ≡ get_or records x c → c.leaving ≡ leaving_at records x
leaving_read {M} records x c h e = sym (ap (λ (o : Option (Record M)). elim o [ Some c ↦ c.leaving | None ↦ One ]) (slice_get_read records _ x c refl h e))
