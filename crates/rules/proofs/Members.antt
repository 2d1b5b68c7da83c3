-- Laws of the words on lists: what stands in a list, once, behind another, or as the first that is not among others.
use Rattle.std.proofs.Common.{◌≡◌, ℕ, zero, suc, ◌<◌, ◌≤◌, true, false, eqb, ◌⊎◌, List, [], ◌∷◌, ◌++◌, map, reverse, length, Some, None, sym, refl, ap, ◌∙◌, inl, inr, ⊎_elim, arith}
use mathlib.Core.List.{reverse-cons}
use Rattle.std.specs.List.{flat_map}
use Rattle.std.proofs.lemmas.Bool.{eqb-true, eq-eqb, or_cases, or_left, or_right, cases_eq, cond_both}
use Rattle.std.proofs.lemmas.List.{length-append}
use Rattle.rules.specs.Lists.{In, Once, has, upto, first_but}

-- the test of In

pub in_has : (x : ℕ) (l : List ℕ) → In x l → has x l ≡ true
in_has x [] i = absurd i
in_has x (y ∷ ys) (inl e) = or_left (eqb x y) (has x ys) (eq-eqb x y e)
in_has x (y ∷ ys) (inr i) = or_right (eqb x y) (has x ys) (in_has x ys i)

pub has_in : (x : ℕ) (l : List ℕ) → has x l ≡ true → In x l
has_in x [] h = cc
has_in x (y ∷ ys) h = ⊎_elim (λ e. inl (eqb-true x y e)) (λ e. inr (has_in x ys e)) (or_cases (eqb x y) (has x ys) h)

pub not_in : (x : ℕ) (l : List ℕ) → has x l ≡ false → In x l → ⊥
not_in x l h i = cc (in_has x l i)

module _ {A : Type 0} where
  -- two lists, one behind the other

  pub in_left : (x : A) (l m : List A) → In x l → In x (l ++ m)
  in_left x [] m i = absurd i
  in_left x (y ∷ ys) m (inl e) = inl e
  in_left x (y ∷ ys) m (inr i) = inr (in_left x ys m i)

  pub in_right : (x : A) (l m : List A) → In x m → In x (l ++ m)
  in_right x [] m i = i
  in_right x (y ∷ ys) m i = inr (in_right x ys m i)

  pub in_either : (x : A) (l m : List A) → In x (l ++ m) → In x l ⊎ In x m
  in_either x [] m i = inr i
  in_either x (y ∷ ys) m (inl e) = inl (inl e)
  in_either x (y ∷ ys) m (inr i) = ⊎_elim (λ j. inl (inr j)) inr (in_either x ys m i)

  pub in_swap : (x : A) (l m : List A) → In x (l ++ m) → In x (m ++ l)
  in_swap x l m i = ⊎_elim (in_right x m l) (in_left x m l) (in_either x l m i)

  pub in_reverse : (x : A) (l : List A) → In x (reverse l) → In x l
  in_reverse x [] i = i
  in_reverse x (y ∷ l) i = ⊎_elim (λ j. inr (in_reverse x l j)) (⊎_elim inl absurd) (in_either x (reverse l) (y ∷ []) (rw (← reverse-cons y l) i))

  pub once_left : (l m : List A) → Once (l ++ m) → Once l
  once_left [] m o = tt
  once_left (x ∷ l) m o = ((λ i. o.0 (in_left x l m i)), once_left l m o.1)

  pub once_right : (l m : List A) → Once (l ++ m) → Once m
  once_right [] m o = o
  once_right (x ∷ l) m o = once_right l m o.1

  pub once_apart : (x : A) (l m : List A) → Once (l ++ m) → In x l → In x m → ⊥
  once_apart x [] m o i j = absurd i
  once_apart x (y ∷ l) m o (inl p) j = o.0 (in_right y l m (rw (← p) j))
  once_apart x (y ∷ l) m o (inr i) j = once_apart x l m o.1 i j

  pub once_both : (l m : List A) → Once l → Once m → ((x : A) → In x l → In x m → ⊥) → Once (l ++ m)
  once_both [] m o q d = q
  once_both (x ∷ l) m o q d = ((λ i. ⊎_elim o.0 (d x (inl refl)) (in_either x l m i)), once_both l m o.1 q (λ y i. d y (inr i)))

  pub once_swap : (l m : List A) → Once (l ++ m) → Once (m ++ l)
  once_swap l m o = once_both m l (once_right l m o) (once_left l m o) (λ x i j. once_apart x l m o j i)

  -- a middle m between a and b, and a and b alone

  pub once_less : (a m b : List A) → Once (a ++ (m ++ b)) → Once (a ++ b)
  once_less a m b o = grind (arith, once_both, once_left, once_right, once_apart, in_right)

  pub middle_apart : (x : A) (a m b : List A) → Once (a ++ (m ++ b)) → In x m → In x (a ++ b) → ⊥
  middle_apart x a m b o i j =
      ⊎_elim (λ k. once_apart x a (m ++ b) o k (in_left x m b i)) (once_apart x m b (once_right a (m ++ b) o) i) (in_either x a b j)

  pub in_less : (x : A) (a m b : List A) → (In x m → ⊥) → In x (a ++ (m ++ b)) → In x (a ++ b)
  in_less x a m b d i = ⊎_elim (in_left x a b) (λ j. ⊎_elim (λ k. absurd (d k)) (in_right x a b) (in_either x m b j)) (in_either x a (m ++ b) i)

  pub in_more : (x : A) (a m b : List A) → In x (a ++ b) → In x (a ++ (m ++ b))
  in_more x a m b i = ⊎_elim (in_left x a (m ++ b)) (λ j. in_right x a (m ++ b) (in_right x m b j)) (in_either x a b i)

  -- the list without one that stands in it
  abbrev pub without : (x : A) (l : List A) → In x l → List A
  without x [] i = absurd i
  without x (y ∷ ys) (inl e) = ys
  without x (y ∷ ys) (inr i) = y ∷ without x ys i

  length_without : (x : A) (l : List A) (i : In x l) → length l ≡ suc (length (without x l i))
  length_without x [] i = absurd i
  length_without x (y ∷ ys) (inl e) = refl
  length_without x (y ∷ ys) (inr i) = ap suc (length_without x ys i)

  in_without : (x : A) (l : List A) (i : In x l) (z : A) → In z l → (z ≡ x) ⊎ In z (without x l i)
  in_without x [] i z j = absurd i
  in_without x (y ∷ ys) (inl e) z (inl d) = inl (d ∙ sym e)
  in_without x (y ∷ ys) (inl e) z (inr j) = inr j
  in_without x (y ∷ ys) (inr i) z (inl d) = inr (inl d)
  in_without x (y ∷ ys) (inr i) z (inr j) = ⊎_elim inl (λ k. inr (inr k)) (in_without x ys i z j)

  -- pigeonhole: what stands once each in l, all of it in m, is no more than m has
  pub once_fits : (l m : List A) → Once l → ((x : A) → In x l → In x m) → length l ≤ length m
  once_fits [] m u f = omega arith
  once_fits (x ∷ xs) m u f =
      let i = f x (inl refl) in
      let h = once_fits xs (without x m i) u.1 (λ z j. ⊎_elim (λ e. absurd (u.0 (rw (← e) j))) (λ k. k) (in_without x m i z (f z (inr j)))) in
      let n = length_without x m i in
      omega arith

  pub in_joined : (f : ℕ → List A) (x : A) (y : ℕ) (l : List ℕ) → In y l → In x (f y) → In x (flat_map f l)
  in_joined f x y [] j i = absurd j
  in_joined f x y (z ∷ zs) (inl e) i = in_left x (f z) (flat_map f zs) (rw (← e) i)
  in_joined f x y (z ∷ zs) (inr j) i = in_right x (f z) (flat_map f zs) (in_joined f x y zs j i)

  pub from_joined : (f : ℕ → List A) (x : A) (l : List ℕ) → In x (flat_map f l) → (y : ℕ) × In x (f y)
  from_joined f x [] i = absurd i
  from_joined f x (y ∷ ys) i = ⊎_elim (λ j. (y, j)) (from_joined f x ys) (in_either x (f y) (flat_map f ys) i)

pub in_map : {A B : Type 0} (f : A → B) (x : A) (l : List A) → In x l → In (f x) (map f l)
in_map f x [] i = absurd i
in_map f x (y ∷ ys) (inl e) = inl (ap f e)
in_map f x (y ∷ ys) (inr i) = inr (in_map f x ys i)

pub in_upto : (n i : ℕ) → i < n → In i (upto n)
in_upto zero i h = absurd (omega arith)
in_upto (suc n) i h = ⊎_elim (λ e. in_right i (upto n) (n ∷ []) (inl e)) (λ d. in_left i (upto n) (n ∷ []) (in_upto n i (omega arith))) (cases_eq i n)

pub upto_below : (n i : ℕ) → In i (upto n) → i < n
upto_below zero i h = absurd h
upto_below (suc n) i h = ⊎_elim (λ j. let k = upto_below n i j in omega arith) (⊎_elim (λ e. omega arith) absurd) (in_either i (upto n) (n ∷ []) h)

pub upto_once : (n : ℕ) → Once (upto n)
upto_once zero = tt
upto_once (suc n) = once_both (upto n) (n ∷ []) (upto_once n) (absurd, tt) (λ x i. ⊎_elim (λ e. let h = upto_below n x i in omega arith) absurd)

pub length-upto : (n : ℕ) → length (upto n) ≡ n
length-upto zero = refl
length-upto (suc n) = grind (arith, length-append, length-upto n)

pub first_but_some : (others l : List ℕ) (x : ℕ) → first_but others l ≡ Some x → In x l × (has x others ≡ false)
first_but_some others [] x p = cc
first_but_some others (y ∷ ys) x p =
    cond_both (has y others) (first_but others ys) (Some y) (λ o. o ≡ Some x → In x (y ∷ ys) × (has x others ≡ false))
    (λ _ q. let r = first_but_some others ys x q in (inr r.0, r.1))
    (λ e q. let s : y ≡ x = cc in (inl (sym s), rw (← s) e))
    p

pub first_but_none : (others l : List ℕ) → first_but others l ≡ None → (x : ℕ) → In x l → In x others
first_but_none others [] p x i = absurd i
first_but_none others (y ∷ ys) p x i =
    cond_both (has y others) (first_but others ys) (Some y) (λ o. o ≡ None → In x others)
    (λ e q. ⊎_elim (λ d. rw d (has_in y others e)) (first_but_none others ys q x) i)
    (λ _ q. cc)
    p
