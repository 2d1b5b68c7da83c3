-- The edges of a ring: how many there are, those still to come, and which is where. Assumes nothing.
use Rattle.std.proofs.Common.{◌≡◌, ℕ, zero, suc, ◌+◌, ◌-◌, ◌%◌, ◌<◌, List, [], ◌∷◌, ◌++◌, length, get_or, take, drop, sym, refl, ap, ◌∙◌, inl, inr, mod-eq_of_lt, add-one, arith}
use native.Mathlib.Nat.{mod_self}
use Rattle.plane.specs.declared.edge.Edge.{Edge}
use Rattle.std.proofs.lemmas.Bool.{cases_lt}
use Rattle.std.proofs.lemmas.List.{length-append, length-drop, length-take, get_or_append_left, get_or-append_right, get_or-drop, get_or-take}
use Rattle.plane.specs.Rings.{paired, edges}

module _ {C : Type 0} where
  -- the pairs still to come, where rest is left of a ring
  abbrev pub to_come : List C → List C → List (Edge C)
  to_come rest ring = paired rest (drop 1 rest ++ take 1 ring)

  length-paired : (xs ys : List C) → length ys ≡ length xs → length (paired xs ys) ≡ length xs
  length-paired [] ys e = refl
  length-paired (x ∷ xs) [] e = absurd (omega arith)
  length-paired (x ∷ xs) (y ∷ ys) e = ap suc (length-paired xs ys (omega arith))

  -- a ring has as many edges as corners
  pub length-edges : (ps : List C) → length (edges ps) ≡ length ps
  unfolding edges
  length-edges ps = length-paired ps (drop 1 ps ++ take 1 ps) (simp (length-append, length-drop, length-take) (omega arith))

  paired_read : (xs ys : List C) (i : ℕ) (p q : C) → i < length xs → length ys ≡ length xs → p ≡ get_or xs i p → q ≡ get_or ys i q → drop i (paired xs ys) ≡ record { from = p; to = q } ∷ drop (suc i) (paired xs ys)
  paired_read [] ys i p q h l u v = absurd (omega arith)
  paired_read (x ∷ xs) [] i p q h l u v = absurd (omega arith)
  paired_read (x ∷ xs) (y ∷ ys) zero p q h l u v = cc
  paired_read (x ∷ xs) (y ∷ ys) (suc i) p q h l u v = paired_read xs ys i p q (omega arith) (omega arith) u v

  turned_read : (ps : List C) (i : ℕ) (q : C) → i < length ps → get_or (drop 1 ps ++ take 1 ps) i q ≡ get_or ps ((i + 1) % length ps) q
  turned_read ps i q h = elim (cases_lt (i + 1) (length ps)) [
    | inl lt ↦
        let within : i < length (drop 1 ps) = simp length-drop (omega arith) in
        let at : 1 + i ≡ (i + 1) % length ps = omega (arith, mod-eq_of_lt lt) in
        get_or_append_left (drop 1 ps) (take 1 ps) q i within ∙ get_or-drop 1 ps i q ∙ ap (λ k. get_or ps k q) at
    | inr ge ↦
        let len : length (drop 1 ps) ≡ i = simp length-drop (omega arith) in
        let last : i + 1 ≡ length ps = omega arith in
        let at : (i + 1) % length ps ≡ 0 = ap (λ k. (i + 1) % k) (sym last) ∙ mod_self (i + 1) in
        let here : i - i ≡ 0 = omega arith in
        get_or-append_right (drop 1 ps) (take 1 ps) i i q len (omega arith) ∙ ap (λ k. get_or (take 1 ps) k q) here ∙ get_or-take 1 ps 0 q (omega arith) ∙ ap (λ k. get_or ps k q) (sym at)
  ]

  -- edge i runs from corner i to the next corner round the ring
  pub edges_read : (ps : List C) (i : ℕ) (p q : C) → i < length ps → p ≡ get_or ps i p → q ≡ get_or ps ((i + 1) % length ps) q → drop i (edges ps) ≡ record { from = p; to = q } ∷ drop (i + 1) (edges ps)
  unfolding edges
  edges_read ps i p q h u v = rw add-one (paired_read ps (drop 1 ps ++ take 1 ps) i p q h (simp (length-append, length-drop, length-take) (omega arith)) u (v ∙ sym (turned_read ps i q h)))
