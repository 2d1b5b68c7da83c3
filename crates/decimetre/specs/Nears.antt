-- What the test of a corner tells, and when it passes. Assumes nothing.
use Rattle.std.specs.Prelude.{◌≡◌, Bool, true, false, cond, ◌&&◌, Some, None, Option, nat_le, unsigned_abs, refl}
use Rattle.std.proofs.Common.{sym, ◌∙◌}
use Rattle.std.proofs.lemmas.Bool.{leb-true, le-leb, and_from, and_parts}
use Rattle.std.proofs.lemmas.Option.{cond_some}
use Rattle.decimetre.specs.declared.corner.Corner.{Corner}
use Rattle.decimetre.specs.Exact.{farthest, near, near3, Near, near_of}

pub near_told : (c : Corner) → near c ≡ true → Near c
near_told c e =
    let both = and_parts (nat_le (unsigned_abs c.x) farthest) (nat_le (unsigned_abs c.y) farthest) e in
    (leb-true (unsigned_abs c.x) farthest both.0, leb-true (unsigned_abs c.y) farthest both.1)

pub near_from : (c : Corner) → Near c → near c ≡ true
near_from c h =
    and_from (nat_le (unsigned_abs c.x) farthest) (nat_le (unsigned_abs c.y) farthest) (le-leb (unsigned_abs c.x) farthest h.0) (le-leb (unsigned_abs c.y) farthest h.1)

pub near3_from : (a b c : Corner) → Near a → Near b → Near c → near3 a b c ≡ true
near3_from a b c h k l = and_from (near a && near b) (near c) (and_from (near a) (near b) (near_from a h) (near_from b k)) (near_from c l)

-- a corner that was found near, and is the one that was asked for
pub is_near : (c : Corner) {d : Corner} {o : Option Corner} → o ≡ near_of c → o ≡ Some d → near c ≡ true
is_near c {d} e h = (cond_some (near c) c d (sym e ∙ h)).0

pub is_same : (c : Corner) {d : Corner} {o : Option Corner} → o ≡ near_of c → o ≡ Some d → c ≡ d
is_same c {d} e h = (cond_some (near c) c d (sym e ∙ h)).1

-- and one that was not
pub is_far : (c : Corner) {o : Option Corner} → o ≡ near_of c → o ≡ None → near c ≡ false
is_far c e h = go (near c) (sym e ∙ h)
  where
    go : (t : Bool) → cond t (Some c) None ≡ None → t ≡ false
    go true k = cc
    go false k = refl
