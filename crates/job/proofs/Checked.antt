-- The pairs of a job that was read pass a check wherever there are places for them. Assumes nothing.
use Rattle.std.proofs.Common.{◌≡◌, ℕ, ◌≤◌, is_none, List, [], ◌∷◌, length, None, Ok, sym, refl, ap, ◌∙◌, subst, arith}
use Rattle.std.specs.List.{position_or_len, AllByRecursion as All}
use Rattle.std.proofs.lemmas.Grind.{common_steps}
use Rattle.plane.specs.Outlines.{most_corners, checked}
use Rattle.decimetre.specs.Exact.{Pair, admitted, exact}
use Rattle.plane.specs.declared.ring.Ring.{Ring}
use Rattle.job.specs.Format.{Record, Lists, pairs_in}
use Rattle.job.specs.Laws.{Fine, Split, of_ring}
use Rattle.job.proofs.Splits.{ring_of, written_of}

-- none is wild among pairs that are fine
none_wild : (ps : List Pair) → All Fine ps → position_or_len (λ p. is_none (admitted p)) ps ≡ length ps
none_wild [] h = refl
none_wild (p ∷ ps) h = let fine = h.0 in let more = none_wild ps h.1 in grind (arith, common_steps)

-- a ring that passes a check: its pairs are fine, and not too many
pub record Passes (ps : List Pair) : Type 0 where
  pub fine : All Fine ps
  pub few : length ps ≤ most_corners

pub not_refused : (ps : List Pair) (places : ℕ) → Passes ps → length ps ≤ places → checked exact ps places ≡ None
not_refused ps places h room = let tame = none_wild ps h.fine in grind (arith, common_steps)

-- the pairs of one ring among fine records are fine
of_ring-fine : (ring : Ring) (rs : List Record) → All (λ r. Fine r.pair) rs → All Fine (of_ring ring rs)
of_ring-fine ring [] h = tt
of_ring-fine ring (r ∷ rs) h = let fine = h.0 in let more = of_ring-fine ring rs h.1 in grind (arith, common_steps)

-- both rings of a job that was read pass
pub rings_pass : (bytes : List ℕ) (l : Lists) → Split bytes (Ok l) → (ring : Ring) → Passes (pairs_in ring l)
rings_pass bytes l split ring =
    let w = written_of bytes l split in
    let is : of_ring ring w.records ≡ pairs_in ring l = sym (ap (pairs_in ring) w.pairs ∙ ring_of ring w.records) in
    subst Passes is (record { fine = of_ring-fine ring w.records w.good.fine; few = w.good.few ring })
