-- A trail has no crossing and no corner twice, none that the chart has not, and each crossing with its own edges: each corner is led to by the item of the place before it, which came earlier.
use Rattle.std.proofs.Common.{◌≡◌, ℕ, ◌<◌, true, false, ◌⊎◌, List, [], ◌∷◌, sym, refl, ap, ◌∙◌, subst, inl, inr, ⊎_elim, arith}
use Rattle.plane.specs.declared.ring.Ring.{Ring}
use Rattle.plane.specs.declared.ring.Ring.TheVariants.{One, Two}
use Rattle.rules.specs.declared.event.Event.{Event}
use Rattle.rules.specs.declared.event.Event.TheVariants.{Crossing, Corner, Closing}
use Rattle.rules.specs.Lists.{In, Once}
use Rattle.rules.specs.Chart.{Chart, Sound, Place, corner, crossing, next}
use Rattle.rules.specs.Rules.{crossings, corners_of}
use Rattle.rules.proofs.Members.{not_in}
use Rattle.rules.proofs.Places.{Valid, event_at, valid_next, prev, prev_next}
use Rattle.rules.proofs.Trails.{Trail}
use Rattle.rules.proofs.NextEvent.{round_over, Free, Starts, with_crossing, with_round, Came, first_of_loop, end_of_loop, within_loop, on_trails}

-- A crossing or a corner.
pub data Item : Type 0 where
  the_crossing : ℕ → Item
  the_corner : Ring → ℕ → Item

-- the crossings and corners handed over
abbrev pub items : List Event → List Item
items [] = []
items (Crossing x a b ∷ es) = the_crossing x ∷ items es
items (Corner r i ∷ es) = the_corner r i ∷ items es
items (Closing ∷ es) = items es

-- the chart has this crossing, or this corner
abbrev pub Known : Chart → Item → Type 0
Known c (the_crossing x) = x < c.count
Known c (the_corner r i) = i < c.corners r

-- what stands at a place
abbrev pub item_of : Place → Item
item_of (corner r i) = the_corner r i
item_of (crossing x r) = the_crossing x

pub items_at : (c : Chart) (p : Place) (past : List Event) → items (event_at c p ∷ past) ≡ item_of p ∷ items past
items_at c (corner r i) past = refl
items_at c (crossing x r) past = refl

pub in_crossings : (x : ℕ) (past : List Event) → In (the_crossing x) (items past) → In x (crossings past)
in_crossings x [] i = absurd i
in_crossings x (Crossing y a b ∷ es) (inl e) = inl (cc)
in_crossings x (Crossing y a b ∷ es) (inr i) = inr (in_crossings x es i)
in_crossings x (Corner r j ∷ es) (inl e) = cc
in_crossings x (Corner r j ∷ es) (inr i) = in_crossings x es i
in_crossings x (Closing ∷ es) i = in_crossings x es i

pub in_items : (x : ℕ) (past : List Event) → In x (crossings past) → In (the_crossing x) (items past)
in_items x [] i = absurd i
in_items x (Crossing y a b ∷ es) (inl e) = inl (ap the_crossing e)
in_items x (Crossing y a b ∷ es) (inr i) = inr (in_items x es i)
in_items x (Corner r j ∷ es) i = inr (in_items x es i)
in_items x (Closing ∷ es) i = in_items x es i

-- no crossing twice
pub once_crossings : (past : List Event) → Once (items past) → Once (crossings past)
once_crossings [] o = tt
once_crossings (Crossing x a b ∷ es) o = ((λ i. o.0 (in_items x es i)), once_crossings es o.1)
once_crossings (Corner r i ∷ es) o = once_crossings es o.1
once_crossings (Closing ∷ es) o = once_crossings es o

pub corner_in_items : (p : Ring × ℕ) (past : List Event) → In p (corners_of past) → In (the_corner p.0 p.1) (items past)
corner_in_items p [] i = absurd i
corner_in_items p (Crossing x a b ∷ es) i = inr (corner_in_items p es i)
corner_in_items p (Corner r j ∷ es) (inl e) = inl (ap (λ q. the_corner q.0 q.1) e)
corner_in_items p (Corner r j ∷ es) (inr i) = inr (corner_in_items p es i)
corner_in_items p (Closing ∷ es) i = corner_in_items p es i

-- no corner twice
pub once_corners : (past : List Event) → Once (items past) → Once (corners_of past)
once_corners [] o = tt
once_corners (Crossing x a b ∷ es) o = once_corners es o.1
once_corners (Corner r j ∷ es) o = ((λ i. o.0 (corner_in_items (r, j) es i)), once_corners es o.1)
once_corners (Closing ∷ es) o = once_corners es o

-- what leads to an item, among those before it: to a corner, unless it begins a round of the corners, the item of the place before it
abbrev pub LedTo : Chart → Item → List Item → Type 0
LedTo c (the_crossing x) l = Unit {0}
LedTo c (the_corner r i) l = (round_over c i ≡ true) ⊎ In (item_of (prev c (corner r i))) l

abbrev pub Led : Chart → List Item → Type 0
Led c [] = Unit {0}
Led c (y ∷ l) = LedTo c y l × Led c l

led_to_more : (c : Chart) (y z : Item) (l : List Item) → LedTo c y l → LedTo c y (z ∷ l)
led_to_more c (the_crossing x) z l h = tt
led_to_more c (the_corner r i) z l (inl e) = inl e
led_to_more c (the_corner r i) z l (inr k) = inr (inr k)

-- what leads to an item came before the latest
pub led_before : (c : Chart) (y z : Item) (l : List Item) → Led c (z ∷ l) → In y (z ∷ l) → LedTo c y l
led_before c y z [] h (inl e) = rw e h.0
led_before c y z [] h (inr k) = absurd k
led_before c y z (w ∷ l) h (inl e) = rw e h.0
led_before c y z (w ∷ l) h (inr k) = led_to_more c y w l (led_before c y w l h.1 k)

pub came_place : (c : Chart) (sound : Sound c) (past : List Event) (e : Event) → Came c sound past e → (e ≡ Closing) ⊎ ((p : Place) × (e ≡ event_at c p) × Valid c p)
came_place c sound past e (first_of_loop w (with_crossing x is below _)) = inr (crossing x (c.leaving x), is, below)
came_place c sound past e (first_of_loop w (with_round r is _ _)) = inr (corner r 0, is, sound.some_corner r)
came_place c sound past e (end_of_loop f us _ is) = inl is
came_place c sound past e (within_loop q rest _ valid is _) = inr (next c q, is, valid_next c sound q valid)

module _ (c : Chart) (sound : Sound c) where
  AllKnown : List Event → Type 0
  AllKnown past = (y : Item) → In y (items past) → Known c y

  -- each item of a trail is one of the chart
  pub all_known : {past : List Event} → Trail c past → (y : Item) → In y (items past) → Known c y
  unfolding AllKnown
  all_known = on_trails c sound AllKnown (λ y i. absurd i) more
    where
      put : (past : List Event) (p : Place) → Valid c p → AllKnown past → AllKnown (event_at c p ∷ past)
      put past p valid h y i = grind arith

      more : (past : List Event) (e : Event) → Trail c past → AllKnown past → Came c sound past e → AllKnown (e ∷ past)
      more past e _ h w =
          ⊎_elim (λ is. rw is h)
          (λ k. rw k.1 (put past k.0 k.2 h))
          (came_place c sound past e w)

  Edges : List Event → Type 0
  Edges past = (x a b : ℕ) → In (Crossing x a b) past → (a ≡ c.edge One x) × (b ≡ c.edge Two x)

  -- each crossing of a trail came with its own edges
  pub edges_true : {past : List Event} → Trail c past → (x a b : ℕ) → In (Crossing x a b) past → (a ≡ c.edge One x) × (b ≡ c.edge Two x)
  unfolding Edges
  edges_true = on_trails c sound Edges (λ x a b i. absurd i) more
    where
      closing : (past : List Event) → Edges past → Edges (Closing ∷ past)
      closing past h x a b (inl e) = cc
      closing past h x a b (inr i) = h x a b i

      more : (past : List Event) (e : Event) → Trail c past → Edges past → Came c sound past e → Edges (e ∷ past)
      more past e _ h w = grind arith

  led_to_next : (past : List Event) (q : Place) (rest : List Event) → past ≡ event_at c q ∷ rest → Valid c q → (p : Place) → next c q ≡ p → LedTo c (item_of p) (items past)
  led_to_next past q rest is valid (crossing x r) e = tt
  led_to_next past q rest is valid (corner r i) e = inr (rw (ap items is ∙ items_at c q rest) (inl (ap item_of (ap (prev c) (sym e) ∙ prev_next c sound q valid))))

  led_first : (past : List Event) (e : Event) → Led c (items past) → Starts c past e → Led c (items (e ∷ past))
  led_first past e h (with_crossing x is _ _) = rw is (tt, h)
  led_first past e h (with_round r is none _) = grind arith

  led_more : (past : List Event) (e : Event) → Trail c past → Led c (items past) → Came c sound past e → Led c (items (e ∷ past))
  led_more past e _ h (first_of_loop _ s) = led_first past e h s
  led_more past e _ h (end_of_loop _ _ _ is) = rw is h
  led_more past e _ h (within_loop q rest was valid is _) = rw is (rw (items_at c (next c q) past) (led_to_next past q rest was valid (next c q) refl, h))

  pub led : {past : List Event} → Trail c past → Led c (items past)
  led = on_trails c sound (λ past. Led c (items past)) tt led_more

  -- at a place where no loop closes stands an item that was not handed over
  new_next : (q : Place) (l : List Item) → Led c (item_of q ∷ l) → Once (item_of q ∷ l) → Valid c q → (r : Ring) (i : ℕ) → next c q ≡ corner r i → round_over c i ≡ false → In (the_corner r i) (item_of q ∷ l) → ⊥
  new_next q l h u valid r i e free k =
      ⊎_elim (λ q. cc)
      (λ j. u.0 (rw (← ap item_of (ap (prev c) (sym e) ∙ prev_next c sound q valid)) j))
      (led_before c (the_corner r i) (item_of q) l h k)

  new_at : (past : List Event) (q : Place) (rest : List Event) → past ≡ event_at c q ∷ rest → Led c (items past) → Once (items past) → Valid c q → (p : Place) → next c q ≡ p → Free c past p → In (item_of p) (items past) → ⊥
  new_at past q rest was h u valid (crossing x r) e free k = not_in x (crossings past) free (in_crossings x past k)
  new_at past q rest was h u valid (corner r i) e free k = new_next q (items rest) (subst (Led c) same h) (subst Once same u) valid r i e free (subst (In (the_corner r i)) same k)
    where
      same : items past ≡ item_of q ∷ items rest
      same = ap items was ∙ items_at c q rest

  once_first : (past : List Event) (e : Event) → Once (items past) → Starts c past e → Once (items (e ∷ past))
  once_first past e u (with_crossing x is _ free) = rw is (λ k. not_in x (crossings past) free (in_crossings x past k), u)
  once_first past e u (with_round r is _ none) = grind arith

  once_more : (past : List Event) (e : Event) → Trail c past → Once (items past) → Came c sound past e → Once (items (e ∷ past))
  once_more past e _ u (first_of_loop _ s) = once_first past e u s
  once_more past e _ u (end_of_loop _ _ _ is) = rw is u
  once_more past e t u (within_loop q rest was valid is free) = rw is (rw (items_at c (next c q) past) (new_at past q rest was (led t) u valid (next c q) refl free, u))

  pub once : {past : List Event} → Trail c past → Once (items past)
  once = on_trails c sound (λ past. Once (items past)) tt once_more

  pub trail_once : {past : List Event} → Trail c past → Once (crossings past)
  trail_once {past} t = once_crossings past (once t)

  pub trail_once_corners : {past : List Event} → Trail c past → Once (corners_of past)
  trail_once_corners {past} t = once_corners past (once t)

  -- none of a trail is unknown to the chart

  pub known-crossing : {past : List Event} → Trail c past → (x : ℕ) → In x (crossings past) → x < c.count
  known-crossing {past} t x i = all_known t (the_crossing x) (in_items x past i)

  pub known-corner : {past : List Event} → Trail c past → (r : Ring) (i : ℕ) → In (r, i) (corners_of past) → i < c.corners r
  known-corner {past} t r i j = all_known t (the_corner r i) (corner_in_items (r, i) past j)
