-- A chart that passes a test, which computes, is sound.
use Rattle.std.proofs.Common.{◌≡◌, ℕ, ◌<◌, ◌≤◌, Bool, true, not, ◌&&◌, eqb, ltb, List, [], ◌∷◌, ap, ◌∙◌, subst, inl, inr, ⊎_elim}
use Rattle.std.specs.List.{list_all}
use Rattle.std.proofs.lemmas.Bool.{eqb-true, ltb-true, and_parts, not-true, cases_lt}
use Rattle.plane.specs.declared.ring.Ring.{Ring}
use Rattle.plane.specs.declared.ring.Ring.TheVariants.{One, Two}
use Rattle.rules.specs.Lists.{In, Once, has, upto}
use Rattle.rules.specs.Chart.{Chart, Sound}
use Rattle.rules.proofs.Members.{has_in, not_in, in_upto}

-- each of a list passes the test that all of it pass
every_in : (test : ℕ → Bool) (l : List ℕ) → list_all test l ≡ true → (x : ℕ) → In x l → test x ≡ true
every_in test [] h x i = absurd i
every_in test (y ∷ ys) h x (inl e) = ap test e ∙ (and_parts (test y) (list_all test ys) h).0
every_in test (y ∷ ys) h x (inr i) = every_in test ys (and_parts (test y) (list_all test ys) h).1 x i

-- the test of Once
abbrev distinct : List ℕ → Bool
distinct [] = true
distinct (x ∷ xs) = not (has x xs) && distinct xs

distinct_once : (l : List ℕ) → distinct l ≡ true → Once l
distinct_once [] h = tt
distinct_once (x ∷ xs) h = let k = and_parts (not (has x xs)) (distinct xs) h in (not_in x xs (not-true (has x xs) k.0), distinct_once xs k.1)

module _ (c : Chart) where
  -- a crossing along edge e is one of the chart, and lies on e
  abbrev lies_there : Ring → ℕ → ℕ → Bool
  lies_there r e x = ltb x c.count && eqb (c.edge r x) e

  -- all along edge e, and none of them twice
  abbrev edge_sound : Ring → ℕ → Bool
  edge_sound r e = list_all (lies_there r e) (c.along r e) && distinct (c.along r e)

  -- a crossing of the chart stands along its edge, and the ring has that edge
  abbrev stands_there : Ring → ℕ → Bool
  stands_there r x = ltb (c.edge r x) (c.corners r) && has x (c.along r (c.edge r x))

  -- the test of a ring: it has a corner, all its edges are sound, and all crossings stand there
  abbrev pub ring_sound : Ring → Bool
  ring_sound r = ltb 0 (c.corners r) && (list_all (edge_sound r) (upto (c.corners r)) && list_all (stands_there r) (upto c.count))

  module _ (r : Ring) (passes : ring_sound r ≡ true) (bare : (e : ℕ) → c.corners r ≤ e → c.along r e ≡ []) where
    some : 0 < c.corners r
    some = ltb-true 0 (c.corners r) (and_parts _ _ passes).0

    edges : list_all (edge_sound r) (upto (c.corners r)) ≡ true
    edges = (and_parts _ _ (and_parts (ltb 0 (c.corners r)) _ passes).1).0

    all : (x : ℕ) → x < c.count → stands_there r x ≡ true
    all x h = every_in (stands_there r) (upto c.count) (and_parts (list_all (edge_sound r) (upto (c.corners r))) _ (and_parts (ltb 0 (c.corners r)) _ passes).1).1 x (in_upto c.count x h)

    on_its_edge : (e x : ℕ) → In x (c.along r e) → (x < c.count) × (c.edge r x ≡ e)
    on_its_edge e x i = ⊎_elim there (λ h. absurd (subst (In x) (bare e h) i)) (cases_lt e (c.corners r))
      where
        there : e < c.corners r → (x < c.count) × (c.edge r x ≡ e)
        there h =
            let k = every_in (lies_there r e) (c.along r e) (and_parts _ _ (every_in (edge_sound r) _ edges e (in_upto (c.corners r) e h))).0 x i in
            let p = and_parts (ltb x c.count) (eqb (c.edge r x) e) k in
            (ltb-true x c.count p.0, eqb-true (c.edge r x) e p.1)

    all_there : (x : ℕ) → x < c.count → (c.edge r x < c.corners r) × In x (c.along r (c.edge r x))
    all_there x h =
        let p = and_parts (ltb (c.edge r x) (c.corners r)) (has x (c.along r (c.edge r x))) (all x h) in
        (ltb-true (c.edge r x) (c.corners r) p.0, has_in x (c.along r (c.edge r x)) p.1)

    there_once : (e : ℕ) → Once (c.along r e)
    there_once e = ⊎_elim (λ h. distinct_once (c.along r e) (and_parts (list_all (lies_there r e) (c.along r e)) _ (every_in (edge_sound r) _ edges e (in_upto (c.corners r) e h))).1) (λ h. rw (bare e h) tt) (cases_lt e (c.corners r))

  pub sound_by_test : ring_sound One ≡ true → ring_sound Two ≡ true → ((r : Ring) (e : ℕ) → c.corners r ≤ e → c.along r e ≡ []) → Sound c
  sound_by_test one two bare = record { some_corner = λ r. some r (passes r) (bare r); on_its_edge = λ r. on_its_edge r (passes r) (bare r); all_there = λ r. all_there r (passes r) (bare r); there_once = λ r. there_once r (passes r) (bare r) }
    where
      passes : (r : Ring) → ring_sound r ≡ true
      passes One = one
      passes Two = two
