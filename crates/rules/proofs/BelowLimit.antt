-- Once some walk of the chart has finished, no loop of any walk of it comes to the limit.
use Rattle.std.proofs.Common.{◌≡◌, ℕ, ◌<◌, ◌≤◌, false, ◌⊎◌, List, [], ◌∷◌, ◌++◌, length, sym, refl, ap, ◌∙◌, subst, inl, inr, append_assoc, append-nil, arith, length-append}
use Rattle.plane.specs.declared.ring.Ring.{Ring}
use Rattle.rules.specs.declared.event.Event.{Event}
use Rattle.rules.specs.declared.event.Event.TheVariants.{Crossing, Corner, Closing}
use Rattle.rules.specs.Lists.{In, Once, Turned}
use Rattle.rules.specs.Chart.{Chart, Sound, Place, crossing, next, Alternate}
use Rattle.rules.specs.Rules.{State, crossings, under_way, due_place, limit, at_limit, Finished}
use Rattle.rules.proofs.Members.{in_right, once_left, once_apart}
use Rattle.rules.proofs.Places.{event_at, own}
use Rattle.rules.proofs.Reached.{Within}
use Rattle.rules.proofs.AtEnd.{none_lost}
use Rattle.rules.proofs.Loops.{closed}
use Rattle.rules.proofs.Stretches.{Leads, crossings-append, first_in}
use Rattle.rules.proofs.Rounds.{flat, holding, round_from, turned_in, turned_back}
use Rattle.rules.proofs.TrailRounds.{crossings_parts, Under, Standing}
use Rattle.rules.proofs.FinishedLoops.{finished-flat}

-- where each event came under the limit, the loop under way is not past it, and each complete loop stayed below it
pub within_bounds : (c : Chart) (past : List Event) → Within c past → (length (under_way past) ≤ limit c) × ((l : List Event) → In l (closed past) → length l < limit c)
within_bounds c [] w = (omega arith, λ l i. elim i [ ])
within_bounds c (Crossing x a b ∷ es) w = grind (arith, within_bounds c es w.1)
within_bounds c (Corner r i ∷ es) w = grind (arith, within_bounds c es w.1)
within_bounds c (Closing ∷ es) w = let k = within_bounds c es w.1 in (omega arith, λ l. go l k.0 k.1)
  where
    go : (l : List Event) → length (under_way es) ≤ limit c → ((l : List Event) → In l (closed es) → length l < limit c) → (l ≡ under_way es) ⊎ In l (closed es) → length l < limit c
    go l h f (inl e) = grind arith
    go l h f (inr i) = f l i

pub turned-length : (l m : List Event) → Turned l m → length l ≡ length m
turned-length l m t = grind (arith, length-append)

-- the longer stretch goes on from where the shorter ends
abbrev pub Extends : Chart → Place → List Event → Place → List Event → Type 0
Extends c q l q' m = (t : List Event) × (l ≡ t ++ m) × Leads c q t q'

module _ (c : Chart) where
  -- a stretch without its oldest event
  less_first : (q p : Place) (e : Event) (l : List Event) → Leads c q (e ∷ l) p → (t : List Event) × (e ∷ l ≡ t ++ (event_at c p ∷ [])) × Leads c q t (next c p)
  less_first q p e [] h = grind arith
  less_first q p e (f ∷ l) h =
      let k = less_first h.0 p f l h.3 in
      (e ∷ k.0, ap {B = List Event} (λ t. e ∷ t) k.1, (h.0, h.1, h.2, k.2))

  -- two stretches from one place agree as far as both go
  pub forth_alike : (q q' p : Place) (l m : List Event) → Leads c q l p → Leads c q' m p → Extends c q l q' m ⊎ Extends c q' m q l
  forth_alike q q' p [] m h k = inr (m, sym (append-nil m), rw h k)
  forth_alike q q' p (e ∷ l) m h k = go (forth_alike h.0 q' p l m h.3 k)
    where
      go : Extends c h.0 l q' m ⊎ Extends c q' m h.0 l → Extends c q (e ∷ l) q' m ⊎ Extends c q' m q (e ∷ l)
      go (inl (t, a, f)) = inl (e ∷ t, ap {B = List Event} (λ r. e ∷ r) a, (h.0, h.1, h.2, f))
      go (inr ([], a, f)) = inl (e ∷ [], ap {B = List Event} (λ r. e ∷ r) (sym a), (h.0, h.1, h.2, sym f))
      go (inr (g ∷ t, a, f)) =
          let j = less_first q' h.0 g t f in
          inr (j.0, a ∙ ap (λ r. r ++ l) j.1 ∙ append_assoc j.0 (event_at c h.0 ∷ []) l ∙ ap (λ r. j.0 ++ (r ∷ l)) (sym h.2), rw h.1 j.2)

  -- a stretch from a crossing with nothing twice is no longer than its round
  pub not_past_round : (q : Place) (x : ℕ) (s : Ring) (u m : List Event) → Leads c q u (crossing x s) → Leads c (crossing x s) m (crossing x s) → In x (crossings m) → Once (crossings u) → length u ≤ length m
  not_past_round q x s u m h k i o = go (forth_alike q (crossing x s) (crossing x s) u m h k)
    where
      go : Extends c q u (crossing x s) m ⊎ Extends c (crossing x s) m q u → length u ≤ length m
      go (inl ([], a, f)) = let e = ap length a in omega arith
      go (inl (g ∷ t, a, f)) = absurd (once_apart x (crossings (g ∷ t)) (crossings m) (rw (← ap crossings a ∙ crossings-append (g ∷ t) m) o) (first_in c q g t x s f) i)
      go (inr (t, a, f)) = let e = ap length a ∙ length-append t u in omega arith

-- the round of a crossing, below the limit
abbrev pub Short : Chart → ℕ → Type 0
Short c x = (m : List Event) × Leads c (own c x) m (own c x) × In x (crossings m) × (length m < limit c)

module _ (c : Chart) (sound : Sound c) (alt : Alternate c) where
  pub all_short : (s : State) → Standing c s.past → Within c s.past → Finished c s → (x : ℕ) → x < c.count → Short c x
  all_short s k w h x v =
      let g = holding x (closed s.past) (rw (← finished-flat c s h) (none_lost c sound s h x v)) in
      let i : In g.loop (closed s.past) = subst (In g.loop) (sym g.is) (in_right g.loop g.before (g.loop ∷ g.behind_it) (inl refl)) in
      let r = round_from c sound alt x g.loop (k.rounds g.loop i) g.has_it in
      let b : length g.loop < limit c = (within_bounds c s.past w).1 g.loop i in
      (r.0, r.3, turned_in x g.loop r.0 (turned_back r.0 g.loop r.2) g.has_it, rw (turned-length r.0 g.loop r.2) b)

pub below_limit : (c : Chart) → ((x : ℕ) → x < c.count → Short c x) → (past : List Event) → Once (crossings past) → Standing c past → length (under_way past) < limit c
below_limit c short past once k = go (under_way past) k.under (once_left (crossings (under_way past)) (flat (closed past)) (rw (← crossings_parts past) once))
  where
    go : (u : List Event) → Under c u → Once (crossings u) → length u < limit c
    go [] n o = omega arith
    go (e ∷ es) n o =
        let r = short n.0 n.1 in
        let b = not_past_round c (due_place c e es) n.0 (c.leaving n.0) (e ∷ es) r.0 n.2 r.1 r.2 o in
        let b' = r.3 in
        omega arith

pub not_at_limit : (c : Chart) (s : State) → length (under_way s.past) < limit c → at_limit c s ≡ false
not_at_limit c s h = grind arith
