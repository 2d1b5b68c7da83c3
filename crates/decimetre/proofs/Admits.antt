-- The corners that are admitted are the near ones. Assumes nothing.
use Rattle.std.proofs.Common.{◌≡◌, Bool, true, false, cond, List, Some, None, sym, refl, ap, ◌∙◌}
use Rattle.std.proofs.ByRecursion.{All-weaker}
use Rattle.std.proofs.lemmas.Bool.{cond-true}
use Rattle.std.specs.List.{AllByRecursion}
use Rattle.plane.specs.Meaning.{Admitted}
use Rattle.decimetre.specs.declared.corner.Corner.{Corner}
use Rattle.decimetre.specs.Exact.{near, corner_of, exact}

pub near_from-admitted : (c : Corner) → Admitted exact c → near c ≡ true
near_from-admitted c (pair, is) = go (near (corner_of pair)) refl is
  where
    go : (b : Bool) → near (corner_of pair) ≡ b → cond b (Some (corner_of pair)) None ≡ Some c → near c ≡ true
    go true e h = let same : corner_of pair ≡ c = cc in ap near (sym same) ∙ e
    go false e h = absurd cc

pub admitted_from_near : (c : Corner) → near c ≡ true → Admitted exact c
admitted_from_near c e = (record { x = c.x; y = c.y }, cond-true (near c) (Some c) None e)

-- the same of all the corners of an outline
pub every_near : (cs : List Corner) → AllByRecursion (Admitted exact) cs → AllByRecursion (λ c. near c ≡ true) cs
every_near = All-weaker (Admitted exact) (λ c. near c ≡ true) near_from-admitted

pub all_admitted_lem : (cs : List Corner) → AllByRecursion (λ c. near c ≡ true) cs → AllByRecursion (Admitted exact) cs
all_admitted_lem = All-weaker (λ c. near c ≡ true) (Admitted exact) admitted_from_near
