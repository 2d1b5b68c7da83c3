-- The corners of an outline are those that pass the test of corners. Assumes nothing.
use Rattle.std.proofs.Common.{◌≡◌, Bool, true, false, cond, List, Some, None, sym, refl, ap, ◌∙◌}
use Rattle.std.proofs.ByRecursion.{All-weaker}
use Rattle.std.proofs.lemmas.Bool.{cond-true}
use Rattle.std.specs.List.{AllByRecursion}
use Rattle.plane.specs.Meaning.{Admitted}
use Rattle.single.specs.declared.corner.Corner.{Corner}
use Rattle.single.specs.Admitted.{is_admitted, corner_of}
use Rattle.single.specs.Single.{single}

-- a corner that is admitted is the corner of its own two numbers
pub is_admitted_lem : (c : Corner) → is_admitted c ≡ true → Admitted single c
is_admitted_lem c e = (record { x = c.x; y = c.y }, cond-true (is_admitted c) (Some c) None e)

pub was_admitted : (c : Corner) → Admitted single c → is_admitted c ≡ true
was_admitted c (pair, e) = go (is_admitted (corner_of pair)) refl e
  where
    go : (b : Bool) → is_admitted (corner_of pair) ≡ b → cond b (Some (corner_of pair)) None ≡ Some c → is_admitted c ≡ true
    go true f g = let s : corner_of pair ≡ c = cc in ap is_admitted (sym s) ∙ f
    go false f g = absurd cc

-- the same of all the corners of an outline
pub all_admitted_lem : (cs : List Corner) → AllByRecursion (λ c. is_admitted c ≡ true) cs → AllByRecursion (Admitted single) cs
all_admitted_lem = All-weaker (λ c. is_admitted c ≡ true) (Admitted single) is_admitted_lem

pub were_admitted : (cs : List Corner) → AllByRecursion (Admitted single) cs → AllByRecursion (λ c. is_admitted c ≡ true) cs
were_admitted = All-weaker (Admitted single) (λ c. is_admitted c ≡ true) was_admitted
