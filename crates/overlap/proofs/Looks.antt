-- What is found in the outlines of a job is what its pairs tell. Assumes nothing.
use Rattle.std.proofs.Common.{◌≡◌, ℕ, ◌+◌, List, [], ◌∷◌, map, get_or, Some, None, Ok, Err, Result, sym, refl, ap, ◌∙◌, ap₂, arith, w8, Fits}
use Rattle.std.proofs.lemmas.Option.{cond_some}
use Rattle.std.proofs.lemmas.Grind.{common_steps}
use Rattle.plane.specs.declared.refusal.Refusal.{Refusal}
use Rattle.plane.specs.Refusals.{Told, told, refused}
use Rattle.plane.specs.Outlines.{Corners, most_corners}
use Rattle.decimetre.specs.Exact.{Pair}
use Rattle.decimetre.specs.declared.corner.Corner.{Corner}
use Rattle.decimetre.specs.Exact.{exact, near, corner_of}
use Rattle.plane.specs.declared.ring.Ring.TheVariants.{One, Two}
use Rattle.job.specs.Format.{Lists, read_job, and_then}
use Rattle.job.specs.Outlined.{Outlines, placed}
use Rattle.job.proofs.Checked.{rings_pass}
use Rattle.job.proofs.Splits.{split_of}
use Rattle.overlap.specs.Look.{found_between, found_in, look_at}

corners_are : (ps : List Pair) (cs : List Corner) → Corners exact ps cs → cs ≡ map corner_of ps
corners_are [] [] h = refl
corners_are [] (c ∷ cs) h = absurd h
corners_are (p ∷ ps) [] h = absurd h
corners_are (p ∷ ps) (c ∷ cs) h = ap₂ ◌∷◌ (sym (cond_some (near (corner_of p)) (corner_of p) c h.0).1) (corners_are ps cs h.1)

-- what is counted in the outlines of a reading
pub found_is : (answer : Result Lists Told) (one two : List Corner) → Outlines answer one two → Ok (found_between one two) ≡ and_then answer (λ l. Ok (found_in l))
found_is (Ok l) one two held = ap₂ (λ cs ds. Ok (found_between cs ds)) (corners_are l.one one held.0) (corners_are l.two two held.1)
found_is (Err t) one two held = absurd held

-- a refusal is that of the reading, since there are places for every job
pub refused_is : {X : Type 0} (bytes : List ℕ) (places : ℕ) (r : Result X Refusal) (e : Refusal) → ((i : ℕ) → Fits w8 (get_or bytes i 0)) → places ≡ most_corners + most_corners → r ≡ Err e → refused r ≡ placed places (read_job bytes) → Err (told e) ≡ look_at bytes
refused_is bytes places r e fits size is tells = go (read_job bytes) refl (sym (ap refused is) ∙ tells)
  where
    go : (answer : Result Lists Told) → read_job bytes ≡ answer → Some (told e) ≡ placed places answer → Err (told e) ≡ and_then answer (λ l. Ok (found_in l))
    go (Err t) from said = cc
    go (Ok l) from said =
        let split = split_of bytes (Ok l) fits (sym from) in
        let few = (rings_pass bytes l split One).few in
        let few' = (rings_pass bytes l split Two).few in
        let none : placed places (Ok l) ≡ None = grind (arith, common_steps) in
        absurd cc
