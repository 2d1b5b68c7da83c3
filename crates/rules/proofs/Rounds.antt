-- Loops as full rounds: each is the round of any crossing of it, turned; and two walks that pass the same crossings have loops that pair off.
use Rattle.std.proofs.Common.{◌≡◌, ℕ, ◌<◌, ◌⊎◌, List, [], ◌∷◌, ◌++◌, sym, refl, ap, ◌∙◌, inl, inr, append-nil}
use Rattle.std.specs.List.{flat_map}
use Rattle.std.proofs.lemmas.List.Concat.{flat_map-append}
use Rattle.rules.specs.declared.event.Event.{Event}
use Rattle.rules.specs.Lists.{In, Once, Turned, Paired, no_more, pair}
use Rattle.rules.specs.Chart.{Chart, Sound, Place, crossing, Alternate}
use Rattle.rules.specs.Rules.{crossings}
use Rattle.rules.proofs.Members.{in_left, in_right, in_either, in_swap, once_left, once_right, once_apart, once_swap, once_less, middle_apart, in_less, in_more}
use Rattle.rules.proofs.Places.{own}
use Rattle.rules.proofs.Stretches.{Leads, crossings-append, leads_on, first_in, parted, ComesBefore, back_alike}
use Rattle.rules.proofs.Sides.{keeps_own, keeps_is_own, leads_keeps}

-- the crossings of all the loops
abbrev pub flat : List (List Event) → List ℕ
flat ls = flat_map crossings ls

pub record Holding (ls : List (List Event)) (x : ℕ) : Type 0 where
  pub before : List (List Event)
  pub loop : List Event
  pub behind_it : List (List Event)
  pub is : ls ≡ before ++ (loop ∷ behind_it)
  pub has_it : In x (crossings loop)

pub holding : (x : ℕ) (ls : List (List Event)) → In x (flat ls) → Holding ls x
holding x [] i = elim i [ ]
holding x (l ∷ ls) i = go (holding x ls) (in_either x (crossings l) (flat ls) i)
  where
    go : (In x (flat ls) → Holding ls x) → In x (crossings l) ⊎ In x (flat ls) → Holding (l ∷ ls) x
    go f (inl j) = record { before = []; loop = l; behind_it = ls; is = refl; has_it = j }
    go f (inr j) = let h = f j in record { before = l ∷ h.before; loop = h.loop; behind_it = h.behind_it; is = ap {B = List (List Event)} (λ t. l ∷ t) h.is; has_it = h.has_it }

pub in_flat : (x : ℕ) (l : List Event) (ls : List (List Event)) → In l ls → In x (crossings l) → In x (flat ls)
in_flat x l [] h i = elim h [ ]
in_flat x l (m ∷ ls) (inl p) i = in_left x (crossings m) (flat ls) (rw (← p) i)
in_flat x l (m ∷ ls) (inr h) i = in_right x (crossings m) (flat ls) (in_flat x l ls h i)

pub turned_in : (x : ℕ) (l m : List Event) → Turned l m → In x (crossings l) → In x (crossings m)
turned_in x l m t i =
    let i' : In x (crossings t.0 ++ crossings t.1) = rw (← ap crossings t.2 ∙ crossings-append t.0 t.1) i in
    rw (ap crossings t.3 ∙ crossings-append t.1 t.0) (in_swap x (crossings t.0) (crossings t.1) i')

pub turned_once : (l m : List Event) → Turned l m → Once (crossings l) → Once (crossings m)
turned_once l m t o =
    let o' : Once (crossings t.0 ++ crossings t.1) = rw (← ap crossings t.2 ∙ crossings-append t.0 t.1) o in
    rw (ap crossings t.3 ∙ crossings-append t.1 t.0) (once_swap (crossings t.0) (crossings t.1) o')

pub turned_back : {A : Type 0} (l m : List A) → Turned l m → Turned m l
turned_back l m t = (t.1, t.0, t.3, t.2)

-- a full round: from a crossing's own place back to it
pub record Round (c : Chart) (l : List Event) : Type 0 where
  pub start_at : ℕ
  pub known : start_at < c.count
  pub begins : In start_at (crossings l)
  pub goes_round : Leads c (own c start_at) l (own c start_at)

-- two lists of loops over the same crossings, none twice
pub record Alike (c : Chart) (ls ms : List (List Event)) : Type 0 where
  pub rounds : (l : List Event) → In l ls → Round c l
  pub rounds' : (m : List Event) → In m ms → Round c m
  pub once : Once (flat ls)
  pub once' : Once (flat ms)
  pub to : (x : ℕ) → In x (flat ls) → In x (flat ms)
  pub from : (x : ℕ) → In x (flat ms) → In x (flat ls)

-- the crossings of the loops with one loop among them, and without it
flat_with : (b a : List (List Event)) (m : List Event) → flat (b ++ (m ∷ a)) ≡ flat b ++ (crossings m ++ flat a)
flat_with b a m = flat_map-append crossings b (m ∷ a)

without_a_pair : (c : Chart) (l m : List Event) (ls b a : List (List Event)) → Turned l m → Alike c (l ∷ ls) (b ++ (m ∷ a)) → Alike c ls (b ++ a)
without_a_pair c l m ls b a t k = record {
  rounds = λ n i. k.rounds n (inr i);
  rounds' = λ n i. k.rounds' n (in_more n b (m ∷ []) a i);
  once = once_right (crossings l) (flat ls) k.once;
  once' = rw (flat_map-append crossings b a) (once_less (flat b) (crossings m) (flat a) once'');
  to = λ x i. rw (flat_map-append crossings b a) (in_less x (flat b) (crossings m) (flat a) (not_in_m x i) (rw (← flat_with b a m) (k.to x (in_right x (crossings l) (flat ls) i))));
  from = λ x i. not_in_l x (rw (← flat_map-append crossings b a) i) (in_either x (crossings l) (flat ls) (k.from x (rw (flat_with b a m) (in_more x (flat b) (crossings m) (flat a) (rw (← flat_map-append crossings b a) i)))));
}
  where
    once'' : Once (flat b ++ (crossings m ++ flat a))
    once'' = rw (← flat_with b a m) k.once'

    not_in_m : (x : ℕ) → In x (flat ls) → In x (crossings m) → ⊥
    not_in_m x i j = once_apart x (crossings l) (flat ls) k.once (turned_in x m l (turned_back l m t) j) i

    not_in_l : (x : ℕ) → In x (flat b ++ flat a) → In x (crossings l) ⊎ In x (flat ls) → In x (flat ls)
    not_in_l x i (inl j) = absurd (middle_apart x (flat b) (crossings m) (flat a) once'' (turned_in x l m t j) i)
    not_in_l x i (inr j) = j

module _ (c : Chart) (sound : Sound c) (alt : Alternate c) where
  -- a stretch from a crossing's own place, parted at another crossing of it
  pub part_own : (q : Place) (x y : ℕ) (l : List Event) → x < c.count → Leads c q l (own c x) → In y (crossings l) →
      (a : List Event) × (b : List Event) × (l ≡ a ++ b) × (y < c.count) × Leads c q a (own c y) × Leads c (own c y) b (own c x) × In y (crossings a)
  part_own q x y l v h i =
      let k = parted c q (own c x) l y h i in
      let g = leads_keeps c sound alt (crossing y k.side) (own c x) k.older (keeps_own c x v) k.to_it in
      let e = keeps_is_own c y k.side g in
      (k.newer, k.older, k.is, g.0, rw (← e) k.from_it, rw (← e) k.to_it, k.has_it)

  -- a round, read from another of its crossings on
  pub round_from : (y : ℕ) (l : List Event) → Round c l → In y (crossings l) → (m : List Event) × (y < c.count) × Turned m l × Leads c (own c y) m (own c y)
  round_from y l r i =
      let k = part_own (own c r.start_at) r.start_at y l r.known r.goes_round i in
      (k.1 ++ k.0, k.3, (k.1, k.0, refl, k.2), leads_on c (own c y) (own c r.start_at) (own c y) k.1 k.0 k.5 k.4)

  no_rest : (x : ℕ) (m t : List Event) → In x (crossings m) → Once (crossings (m ++ t)) → Leads c (own c x) t (own c x) → t ≡ []
  no_rest x m [] i o h = refl
  no_rest x m (e ∷ t) i o h = absurd (once_apart x (crossings m) (crossings (e ∷ t)) (rw (← crossings-append m (e ∷ t)) o) i (first_in c (own c x) e t x (c.leaving x) h))

  -- a crossing has one round
  pub one_round : (x : ℕ) (l m : List Event) → x < c.count → Once (crossings l) → Once (crossings m) → In x (crossings l) → In x (crossings m) →
      Leads c (own c x) l (own c x) → Leads c (own c x) m (own c x) → l ≡ m
  one_round x l m v o o' i i' h k = go (back_alike c sound (own c x) (own c x) (own c x) l m v v h k)
    where
      go : ComesBefore c (own c x) l (own c x) m ⊎ ComesBefore c (own c x) m (own c x) l → l ≡ m
      go (inl (t, e, f)) = e ∙ ap (λ s. m ++ s) (no_rest x m t i' (rw (← e) o) f) ∙ append-nil m
      go (inr (t, e, f)) = sym (e ∙ ap (λ s. l ++ s) (no_rest x l t i (rw (← e) o') f) ∙ append-nil l)

  pub turns_to : (l m : List Event) (r : Round c l) → Round c m → Once (crossings l) → Once (crossings m) → In r.start_at (crossings m) → Turned l m
  turns_to l m r r' o o' i =
      let k = round_from r.start_at m r' i in
      let n = k.0 in
      let i' : In r.start_at (crossings n) = turned_in r.start_at m n (turned_back n m k.2) i in
      let o'' : Once (crossings n) = turned_once m n (turned_back n m k.2) o' in
      let e : l ≡ n = one_round r.start_at l n r.known o o'' r.begins i' r.goes_round k.3 in
      rw e k.2

  pub pairs_off : (ls ms : List (List Event)) → Alike c ls ms → Paired ls ms
  pairs_off [] [] k = no_more
  pairs_off [] (m ∷ ms) k = let r = k.rounds' m (inl refl) in absurd (k.from r.start_at (in_left r.start_at (crossings m) (flat ms) r.begins))
  pairs_off (l ∷ ls) ms k =
      let r = k.rounds l (inl refl) in
      let h = holding r.start_at ms (k.to r.start_at (in_left r.start_at (crossings l) (flat ls) r.begins)) in
      let k' : Alike c (l ∷ ls) (h.before ++ (h.loop ∷ h.behind_it)) = rw (← h.is) k in
      let r' = k'.rounds' h.loop (in_right h.loop h.before (h.loop ∷ h.behind_it) (inl refl)) in
      let o' : Once (crossings h.loop) = once_left (crossings h.loop) (flat h.behind_it) (once_right (flat h.before) (crossings h.loop ++ flat h.behind_it) (rw (← flat_with h.before h.behind_it h.loop) k'.once')) in
      let t = turns_to l h.loop r r' (once_left (crossings l) (flat ls) k.once) o' h.has_it in
      rw h.is (pair h.before h.behind_it t (pairs_off ls (h.before ++ h.behind_it) (without_a_pair c l h.loop ls h.before h.behind_it t k')))
