-- The reading one record at a time. Assumes nothing.
use Rattle.std.proofs.Common.{◌≡◌, ℕ, zero, suc, ◌+◌, ◌≤◌, List, [], ◌∷◌, length, drop, Ok, Err, Result, refl, arith}
use Rattle.std.proofs.lemmas.List.{length-drop, drop-drop}
use Rattle.std.proofs.lemmas.Grind.{common_steps}
use Rattle.plane.specs.Refusals.{Told, tells}
use Rattle.plane.specs.declared.ring.Ring.{Ring}
use Rattle.job.specs.declared.reader.Kind.TheVariants as kind
use Rattle.job.specs.Format.{and_then, kind_at, added, Lists, pairs_in, puts, one_record, read_on, read_from}

abbrev Onward : Type 0
Onward = ℕ → Lists → List ℕ → Result Lists Told

-- two readings that agree on what follows a record agree on it
one_same : (f g : Onward) (at : ℕ) (l : Lists) (left : List ℕ) → ((m : Lists) → f (at + 5) m (drop 5 left) ≡ g (at + 5) m (drop 5 left)) → one_record f at l left ≡ one_record g at l left
one_same f g at l left h = grind arith

-- more turns than there are bytes change nothing
enough : (m n at : ℕ) (l : Lists) (left : List ℕ) → length left ≤ m → length left ≤ n → read_on m at l left ≡ read_on n at l left
unfolding read_on
enough zero zero at l left p q = refl
enough zero (suc n) at l [] p q = refl
enough zero (suc n) at l (b ∷ more) p q = absurd (omega arith)
enough (suc m) zero at l [] p q = refl
enough (suc m) zero at l (b ∷ more) p q = absurd (omega arith)
enough (suc m) (suc n) at l [] p q = refl
enough (suc m) (suc n) at l (b ∷ more) p q = one_same (read_on m) (read_on n) at l (b ∷ more) (λ k. enough m n (at + 5) k (drop 5 (b ∷ more)) (simp length-drop (omega arith)) (simp length-drop (omega arith)))

-- so reading is one record, and then reading again
pub reads_one : (at : ℕ) (l : Lists) (left : List ℕ) → read_from at l left ≡ one_record read_from at l left
unfolding read_on
reads_one at l [] = refl
reads_one at l (b ∷ more) = one_same (read_on (length more)) read_from at l (b ∷ more) (λ k. enough (length more) (length (drop 5 (b ∷ more))) (at + 5) k (drop 5 (b ∷ more)) (simp length-drop (omega arith)) (omega arith))

-- nothing is left at the end of the bytes
pub reads_none : (bytes : List ℕ) (at : ℕ) (l : Lists) → at ≡ length bytes → Err (tells 13 (length bytes)) ≡ read_from at l (drop at bytes)
reads_none bytes at l e = grind (arith, common_steps, reads_one at l [])

-- a corner's record leads on to the next
pub reads_on : (bytes : List ℕ) (at : ℕ) (l m : Lists) (ring : Ring) → Ok (kind.Corner ring) ≡ kind_at at (drop at bytes) → Ok m ≡ and_then (added at (pairs_in ring l) (drop at bytes)) (λ ps. Ok (puts ring ps l)) → (at + 5 ≤ length bytes) × (read_from (at + 5) m (drop (at + 5) bytes) ≡ read_from at l (drop at bytes))
reads_on bytes at l m ring k a =
    let long : 5 ≤ length (drop at bytes) = grind (arith, common_steps) in
    let next = drop-drop 5 at bytes in
    (omega (arith, simp length-drop at long), grind (arith, reads_one at l (drop at bytes)))
