-- Stretches of a walk: the events that are handed over from place to place, the latest first; two that end at one place agree as far as both go back.
use Rattle.std.proofs.Common.{◌≡◌, ℕ, ◌⊎◌, List, [], ◌∷◌, ◌++◌, sym, refl, ap, ◌∙◌, inl, inr, arith}
use Rattle.plane.specs.declared.ring.Ring.{Ring}
use Rattle.rules.specs.declared.event.Event.{Event}
use Rattle.rules.specs.declared.event.Event.TheVariants.{Crossing, Corner, Closing}
use Rattle.rules.specs.Lists.{In}
use Rattle.rules.specs.Chart.{Chart, Sound, Place, corner, crossing, next}
use Rattle.rules.specs.Rules.{crossings}
use Rattle.rules.proofs.Places.{Valid, event_at, valid_next, next_injective}

-- from place p on the events l, the latest first, are handed over one place after another, and then q comes next
abbrev pub Leads : Chart → Place → List Event → Place → Type 0
Leads c q [] p = q ≡ p
Leads c q (e ∷ l) p = (r : Place) × (q ≡ next c r) × (e ≡ event_at c r) × Leads c r l p

pub crossings-append : (l m : List Event) → crossings (l ++ m) ≡ crossings l ++ crossings m
crossings-append [] m = refl
crossings-append (Crossing x a b ∷ l) m = ap {B = List ℕ} (λ t. x ∷ t) (crossings-append l m)
crossings-append (Corner r i ∷ l) m = crossings-append l m
crossings-append (Closing ∷ l) m = crossings-append l m

-- a stretch parted at a crossing of it: the newer part begins there
pub record Parted (c : Chart) (q : Place) (l : List Event) (p : Place) (y : ℕ) : Type 0 where
  pub newer : List Event
  pub older : List Event
  pub side : Ring
  pub is : l ≡ newer ++ older
  pub to_it : Leads c (crossing y side) older p
  pub from_it : Leads c q newer (crossing y side)
  pub has_it : In y (crossings newer)

module _ (c : Chart) where
  pub leads_on : (q r p : Place) (l m : List Event) → Leads c q l r → Leads c r m p → Leads c q (l ++ m) p
  leads_on q r p [] m h k = rw h k
  leads_on q r p (e ∷ l) m h k = (h.0, h.1, h.2, leads_on h.0 r p l m h.3 k)

  -- the oldest event is what stands at the first place
  pub first_in : (q : Place) (e : Event) (l : List Event) (x : ℕ) (s : Ring) → Leads c q (e ∷ l) (crossing x s) → In x (crossings (e ∷ l))
  first_in q e [] x s h = rw (h.2 ∙ ap (event_at c) h.3) (inl refl)
  first_in q e (f ∷ l) x s h = grind (arith, crossings-append, first_in h.0 f l x s h.3)

  part_here : (q p r : Place) (l : List Event) (y z a b : ℕ) → y ≡ z → q ≡ next c r → Crossing z a b ≡ event_at c r → Leads c r l p → Parted c q (Crossing z a b ∷ l) p y
  part_here q p (corner s i) l y z a b h n e k = cc
  part_here q p (crossing w s) l y z a b h n e k =
      let g : w ≡ y = cc in
      record {
        newer = Crossing z a b ∷ [];
        older = l;
        side = s;
        is = refl;
        to_it = rw (← g) k;
        from_it = (crossing w s, n, e, ap (λ t. crossing t s) g);
        has_it = inl h;
      }

  part_later : (q p : Place) (e : Event) (l : List Event) (y : ℕ) → Leads c q (e ∷ l) p → ((r : Place) → Leads c r l p → Parted c r l p y) → Parted c q (e ∷ l) p y
  part_later q p e l y h f =
      let k = f h.0 h.3 in
      record {
        newer = e ∷ k.newer;
        older = k.older;
        side = k.side;
        is = ap {B = List Event} (λ t. e ∷ t) k.is;
        to_it = k.to_it;
        from_it = (h.0, h.1, h.2, k.from_it);
        has_it = grind arith;
      }

  pub parted : (q p : Place) (l : List Event) (y : ℕ) → Leads c q l p → In y (crossings l) → Parted c q l p y
  parted q p [] y h i = elim i [ ]
  parted q p (Crossing z a b ∷ l) y h (inl e) = part_here q p h.0 l y z a b e h.1 h.2 h.3
  parted q p (Crossing z a b ∷ l) y h (inr i) = part_later q p (Crossing z a b) l y h (λ r k. parted r p l y k i)
  parted q p (Corner s j ∷ l) y h i = part_later q p (Corner s j) l y h (λ r k. parted r p l y k i)
  parted q p (Closing ∷ l) y h i = grind arith

-- Where each place has one place before it, two stretches that end at one place agree as far as both go back.
abbrev pub ComesBefore : Chart → Place → List Event → Place → List Event → Type 0
ComesBefore c p l p' m = (t : List Event) × (l ≡ m ++ t) × Leads c p' t p

module _ (c : Chart) (sound : Sound c) where
  pub leads_valid : (q p : Place) (l : List Event) → Valid c p → Leads c q l p → Valid c q
  leads_valid q p [] v h = rw h v
  leads_valid q p (e ∷ l) v h = rw h.1 (valid_next c sound h.0 (leads_valid h.0 p l v h.3))

  pub back_alike : (q p p' : Place) (l m : List Event) → Valid c p → Valid c p' → Leads c q l p → Leads c q m p' → ComesBefore c p l p' m ⊎ ComesBefore c p' m p l
  back_alike q p p' l [] v v' h k = inl (l, refl, rw (← k) h)
  back_alike q p p' [] (f ∷ m) v v' h k = inr (f ∷ m, refl, rw (← h) k)
  back_alike q p p' (e ∷ l) (f ∷ m) v v' h k =
      let w = leads_valid h.0 p l v h.3 in
      let w' = leads_valid k.0 p' m v' k.3 in
      let g : h.0 ≡ k.0 = next_injective c sound h.0 k.0 w w' (sym h.1 ∙ k.1) in
      let ef : e ≡ f = h.2 ∙ ap (event_at c) g ∙ sym k.2 in
      go ef (back_alike k.0 p p' l m v v' (rw (← g) h.3) k.3)
    where
      go : e ≡ f → ComesBefore c p l p' m ⊎ ComesBefore c p' m p l → ComesBefore c p (e ∷ l) p' (f ∷ m) ⊎ ComesBefore c p' (f ∷ m) p (e ∷ l)
      go ef (inl x) = inl (x.0, (λ i. ef i ∷ x.1 i), x.2)
      go ef (inr x) = inr (x.0, (λ i. sym ef i ∷ x.1 i), x.2)
