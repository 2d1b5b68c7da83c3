-- What the definitions of a check give at a loop's step, and what a check that does not refuse has shown. Assumes nothing.
use Rattle.std.proofs.Common.{◌≡◌, ℕ, zero, suc, ◌<◌, ◌≤◌, not, is_none, List, [], ◌∷◌, length, get_or, take, set, Some, None, sym, refl, ap, ◌∙◌, arith}
use Rattle.std.specs.List.{AllByRecursion}
use Rattle.std.specs.List.{position_or_len}
use Rattle.std.proofs.lemmas.List.Sums.{prefix_len_passes}
use Rattle.plane.specs.Meaning.{Meaning, Admitted}
use Rattle.plane.specs.Outlines.{Corners, most_corners, first_wild, checked}

module _ {S R C M P : Type 0} (m : Meaning S R C M P) where
  -- where all are admitted, each pair that is read is
  pub wild_read : (raw : List R) (i : ℕ) (r : R) → first_wild m raw ≡ None → i < length raw → r ≡ get_or raw i r → m.admitted r ≡ None → ⊥
  wild_read raw i r none within read wild =
      let before : i < position_or_len (λ r. is_none (m.admitted r)) raw = grind arith in
      let tame = prefix_len_passes (λ r. not (is_none (m.admitted r))) raw i r before in
      absurd cc

  -- one corner more
  pub corners_more : (rs : List R) (cs : List C) (i : ℕ) (r : R) (c : C) → i < length rs → i < length cs → r ≡ get_or rs i r → m.admitted r ≡ Some c → Corners m (take i rs) (take i cs) → Corners m (take (suc i) rs) (take (suc i) (set cs i c))
  corners_more [] cs i r c h k e a inv = absurd (omega arith)
  corners_more (r' ∷ rs) [] i r c h k e a inv = absurd (omega arith)
  corners_more (r' ∷ rs) (c' ∷ cs) zero r c h k e a inv = (sym (ap m.admitted e) ∙ a, tt)
  corners_more (r' ∷ rs) (c' ∷ cs) (suc i) r c h k e a inv = (inv.0, corners_more rs cs i r c (omega arith) (omega arith) e a inv.1)

  -- corners of pairs are admitted, and as many as the pairs
  pub corners_admitted : (rs : List R) (cs : List C) → Corners m rs cs → AllByRecursion (Admitted m) cs
  corners_admitted [] [] h = tt
  corners_admitted [] (c ∷ cs) h = absurd h
  corners_admitted (r ∷ rs) [] h = absurd h
  corners_admitted (r ∷ rs) (c ∷ cs) h = ((r, h.0), corners_admitted rs cs h.1)

  pub corners-length : (rs : List R) (cs : List C) → Corners m rs cs → length cs ≡ length rs
  corners-length [] [] h = refl
  corners-length [] (c ∷ cs) h = absurd h
  corners-length (r ∷ rs) [] h = absurd h
  corners-length (r ∷ rs) (c ∷ cs) h = ap suc (corners-length rs cs h.1)

  -- a check that does not refuse has shown that there are few
  pub short_from_checked : (raw : List R) (places : ℕ) → checked m raw places ≡ None → length raw ≤ most_corners
  short_from_checked raw places none = grind arith
