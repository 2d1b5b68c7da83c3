-- A loop closes where it began: the first crossing met again is its own start.
use Rattle.std.proofs.Common.{◌≡◌, ℕ, ◌<◌, ◌⊎◌, List, [], ◌∷◌, ◌++◌, sym, refl, ap, ◌∙◌, subst, inl, inr}
use Rattle.plane.specs.declared.ring.Ring.{Ring}
use Rattle.rules.specs.declared.event.Event.{Event}
use Rattle.rules.specs.Lists.{In, Once, Turned}
use Rattle.rules.specs.Chart.{Chart, Sound, crossing, Alternate}
use Rattle.rules.specs.Rules.{crossings}
use Rattle.rules.proofs.Members.{in_left, in_right, in_either, once_left, once_apart}
use Rattle.rules.proofs.Places.{own}
use Rattle.rules.proofs.Stretches.{Leads, crossings-append, first_in, ComesBefore, back_alike}
use Rattle.rules.proofs.Sides.{keeps_own, keeps_is_own, leads_keeps}
use Rattle.rules.proofs.Rounds.{flat, holding, in_flat, turned_in, turned_back, Round, part_own, round_from}

-- a crossing of the first part is a crossing of the whole
pub crossing-left : (x : ℕ) (l a b : List Event) → l ≡ a ++ b → In x (crossings a) → In x (crossings l)
crossing-left x l a b e i = rw (ap crossings e ∙ crossings-append a b) (in_left x (crossings a) (crossings b) i)

module _ (c : Chart) (sound : Sound c) (alt : Alternate c) where
  -- met again in the loop itself
  in_itself : (x y : ℕ) (a b : List Event) → x < c.count → y < c.count → Once (crossings a ++ crossings b) → In y (crossings a) →
      Leads c (own c y) a (own c y) → Leads c (own c y) b (own c x) → own c y ≡ own c x
  in_itself x y a [] v w o i h k = k
  in_itself x y a (g ∷ b) v w o i h k = absurd (go (back_alike c sound (own c y) (own c y) (own c x) a (g ∷ b) w v h k))
    where
      go : ComesBefore c (own c y) a (own c x) (g ∷ b) ⊎ ComesBefore c (own c x) (g ∷ b) (own c y) a → ⊥
      go (inl (t, e, f)) = let j = first_in c (own c y) g b x (c.leaving x) k in once_apart x (crossings a) (crossings (g ∷ b)) o (crossing-left x a (g ∷ b) t e j) j
      go (inr (t, e, f)) = once_apart y (crossings a) (crossings (g ∷ b)) o i (crossing-left y (g ∷ b) a t e i)

  -- met again in an earlier round
  not_earlier : (x y : ℕ) (u l : List Event) (ls : List (List Event)) → x < c.count → In x (crossings u) → Leads c (own c y) u (own c x) →
      Round c l → In l ls → In y (crossings l) → Once (crossings u ++ flat ls) → ⊥
  not_earlier x y u l ls v i k r il iy o =
      let f = round_from c sound alt y l r iy in
      let apart : (z : ℕ) → In z (crossings u) → In z (crossings l) → ⊥ = λ z p q. once_apart z (crossings u) (flat ls) o p (in_flat z l ls il q) in
      go f.0 f.2 apart (back_alike c sound (own c y) (own c x) (own c y) u f.0 v f.1 k f.3)
    where
      go : (m : List Event) → Turned m l → ((z : ℕ) → In z (crossings u) → In z (crossings l) → ⊥) → ComesBefore c (own c x) u (own c y) m ⊎ ComesBefore c (own c y) m (own c x) u → ⊥
      go m t d (inl (s, e, f)) = d y (crossing-left y u m s e (turned_in y l m (turned_back m l t) iy)) iy
      go m t d (inr (s, e, f)) = d x i (turned_in x m l t (crossing-left x m u s e i))

  pub closes_own : (x y : ℕ) (s : Ring) (u : List Event) (ls : List (List Event)) → x < c.count → In x (crossings u) → Leads c (crossing y s) u (own c x) →
      ((l : List Event) → In l ls → Round c l) → Once (crossings u ++ flat ls) → In y (crossings u ++ flat ls) → Leads c (own c x) u (own c x)
  closes_own x y s u ls v i k rs o iy =
      let g = leads_keeps c sound alt (crossing y s) (own c x) u (keeps_own c x v) k in
      let k' : Leads c (own c y) u (own c x) = rw (← keeps_is_own c y s g) k in
      go g.0 k' (in_either y (crossings u) (flat ls) iy)
    where
      go : y < c.count → Leads c (own c y) u (own c x) → In y (crossings u) ⊎ In y (flat ls) → Leads c (own c x) u (own c x)
      go w h (inl j) =
          let p = part_own c sound alt (own c y) x y u v h j in
          let o' : Once (crossings p.0 ++ crossings p.1) = rw (← ap crossings p.2 ∙ crossings-append p.0 p.1) (once_left (crossings u) (flat ls) o) in
          subst (λ z. Leads c z u (own c x)) (in_itself x y p.0 p.1 v w o' p.6 p.4 p.5) h
      go w h (inr j) =
          let q = holding y ls j in
          let il : In q.loop ls = subst (In q.loop) (sym q.is) (in_right q.loop q.before (q.loop ∷ q.behind_it) (inl refl)) in
          absurd (not_earlier x y u q.loop ls v i h (rs q.loop il) il q.has_it o)
