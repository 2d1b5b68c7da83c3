-- What is left of a walk, as a number that each event lessens.
use Rattle.std.proofs.Common.{◌≡◌, ℕ, ◌+◌, ◌-◌, ◌<◌, ◌≤◌, false, cond, eqb, List, [], ◌∷◌, length, Some, Option, refl, subst, inl, inr, arith}
use Rattle.rules.specs.declared.event.Event.{Event}
use Rattle.rules.specs.Lists.{In, has, upto}
use Rattle.rules.specs.Chart.{Chart, Sound, Place, corner, crossing}
use Rattle.rules.specs.Rules.{crossings, under_way, due, due_in, due_place, at, event_of, limit}
use Rattle.rules.proofs.Members.{in_upto}
use Rattle.rules.proofs.Places.{Valid, own}
use Rattle.rules.proofs.Trails.{Allowed}
use Rattle.rules.proofs.Stretches.{leads_valid}
use Rattle.rules.proofs.TrailRounds.{first_fresh, Under, Standing}

-- k for each of the list that is not among the others
abbrev pub lacking : ℕ → List ℕ → List ℕ → ℕ
lacking k others [] = 0
lacking k others (x ∷ xs) = cond (has x others) 0 k + lacking k others xs

lacking-less : (k y : ℕ) (others xs : List ℕ) → lacking k (y ∷ others) xs ≤ lacking k others xs
lacking-less k y others [] = omega arith
lacking-less k y others (x ∷ xs) = grind (arith, lacking-less k y others xs)

pub lacking_new : (k y : ℕ) (others xs : List ℕ) → In y xs → has y others ≡ false → lacking k (y ∷ others) xs + k ≤ lacking k others xs
lacking_new k y others [] i h = elim i [ ]
lacking_new k y others (x ∷ xs) (inl p) h = grind (arith, lacking-less)
lacking_new k y others (x ∷ xs) (inr i) h = grind (arith, lacking_new k y others xs i h)

-- how many events a loop under way may still have, its closing among them
abbrev pub room : Chart → List Event → ℕ
room c [] = 0
room c (e ∷ es) = limit c + 1 - length (e ∷ es)

abbrev pub weight : Chart → List Event → ℕ
weight c past = lacking (limit c + 2) (crossings past) (upto c.count) + room c (under_way past)

module _ (c : Chart) (sound : Sound c) (some : eqb c.count 0 ≡ false) where
  lighter_crossing : (past : List Event) (x : ℕ) → x < c.count → has x (crossings past) ≡ false → length (under_way past) < limit c → weight c (event_of c x ∷ past) < weight c past
  lighter_crossing past x v h b = let g = lacking_new (limit c + 2) x (crossings past) (upto c.count) (in_upto c.count x v) h in omega arith

  lighter_at : (past : List Event) (f : Event) (fs : List Event) (q : Place) → under_way past ≡ f ∷ fs → Valid c q → length (under_way past) < limit c → weight c (at c past q ∷ past) < weight c past
  lighter_at past f fs (corner r i) u v b = grind arith
  lighter_at past f fs (crossing y s) u v b = grind (arith, lighter_crossing)

  pub lighter : (past : List Event) (o : Option ℕ) (e : Event) → Allowed c past o → Standing c past → length (under_way past) < limit c → due c (record { past = past; chosen = o }) ≡ Some e → weight c (e ∷ past) < weight c past
  lighter past o e a k b h = go (under_way past) refl h
    where
      go : (u : List Event) → under_way past ≡ u → due_in c (record { past = past; chosen = o }) u ≡ Some e → weight c (e ∷ past) < weight c past
      go [] u d = grind (arith, first_fresh, lighter_crossing)
      go (f ∷ fs) u d =
          let j : at c past (due_place c f fs) ≡ e = cc in
          let w : Under c (f ∷ fs) = subst (Under c) u k.under in
          rw (← j) (lighter_at past f fs (due_place c f fs) u (leads_valid c sound (due_place c f fs) (own c w.0) (f ∷ fs) w.1 w.2) b)
