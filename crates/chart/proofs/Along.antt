-- The list along an edge: who is in it, and its order. Assumes nothing.
use Rattle.std.proofs.Common.{◌≡◌, ℕ, zero, suc, ◌<◌, ◌≤◌, Bool, true, false, cond, eqb, ◌⊎◌, List, [], ◌∷◌, length, sym, refl, ap, ◌∙◌, subst, inl, inr, ⊎_elim, arith}
use Rattle.std.proofs.lemmas.Bool.{cond_both, eqb-true, eqb-false, both_ways, cases_eq}
use Rattle.std.proofs.ByRecursion.{All-weaker}
use Rattle.rules.specs.Lists.{In, Once}
use Rattle.chart.specs.Chains.{Below, insert, along}
use Rattle.chart.specs.Order.{Lawful, Ordered}
use Rattle.chart.proofs.Writes.{below_in}

-- who is in it
pub insert_in : (goes : ℕ → ℕ → Bool) (x : ℕ) (list : List ℕ) (z : ℕ) → In z (insert goes x list) → (z ≡ x) ⊎ In z list
insert_in goes x [] z = λ i. i
insert_in goes x (y ∷ ys) z =
    cond_both (goes y x) (y ∷ insert goes x ys) (x ∷ y ∷ ys) (λ l. In z l → (z ≡ x) ⊎ In z (y ∷ ys))
    (λ _. ⊎_elim (λ e. inr (inl e)) (λ j. ⊎_elim (λ e. inl e) (λ k. inr (inr k)) (insert_in goes x ys z j)))
    (λ _ j. j)

pub in_insert : (goes : ℕ → ℕ → Bool) (x : ℕ) (list : List ℕ) (z : ℕ) → (z ≡ x) ⊎ In z list → In z (insert goes x list)
in_insert goes x [] z i = i
in_insert goes x (y ∷ ys) z i =
    cond_both (goes y x) (y ∷ insert goes x ys) (x ∷ y ∷ ys) (λ l. In z l)
    (λ _. ⊎_elim (λ e. inr (in_insert goes x ys z (inl e))) (⊎_elim (λ e. inl e) (λ j. inr (in_insert goes x ys z (inr j)))) i)
    (λ _. i)

pub insert_once : (goes : ℕ → ℕ → Bool) (x : ℕ) (list : List ℕ) → (In x list → ⊥) → Once list → Once (insert goes x list)
insert_once goes x [] out o = (λ i. i, tt)
insert_once goes x (y ∷ ys) out o =
    cond_both (goes y x) (y ∷ insert goes x ys) (x ∷ y ∷ ys) Once
    (λ _. (λ i. ⊎_elim (λ e. out (inl (sym e))) o.0 (insert_in goes x ys y i), insert_once goes x ys (λ i. out (inr i)) o.1))
    (λ _. (out, o))

pub insert_below : (goes : ℕ → ℕ → Bool) (x n : ℕ) (list : List ℕ) → x < n → Below n list → Below n (insert goes x list)
insert_below goes x n [] h b = (h, tt)
insert_below goes x n (y ∷ ys) h b =
    cond_both (goes y x) (y ∷ insert goes x ys) (x ∷ y ∷ ys) (Below n) (λ _. (b.0, insert_below goes x n ys h b.1)) (λ _. (h, b))

pub insert-length : (goes : ℕ → ℕ → Bool) (x : ℕ) (list : List ℕ) → length (insert goes x list) ≡ suc (length list)
insert-length goes x [] = refl
insert-length goes x (y ∷ ys) =
    cond_both (goes y x) (y ∷ insert goes x ys) (x ∷ y ∷ ys) (λ l. length l ≡ suc (suc (length ys))) (λ _. ap suc (insert-length goes x ys)) (λ _. refl)

-- what x has to be to stand before z
abbrev Stands : (ℕ → ℕ → Bool) → ℕ → ℕ → Type 0
Stands goes x z = (goes x z ≡ true) × (goes z x ≡ true → x < z)

insert-front : (goes : ℕ → ℕ → Bool) (n x y : ℕ) (ys : List ℕ) → Lawful goes n → x < n → Below x (y ∷ ys) → Ordered goes (y ∷ ys) → goes y x ≡ false → (z : ℕ) → In z (y ∷ ys) → Stands goes x z
insert-front goes n x y ys law h b o f z i = ⊎_elim first later i
  where
    xy : goes x y ≡ true
    xy = ⊎_elim (λ t. absurd (both_ways (goes y x) f t)) (λ t. t) (law.0 y x (omega (arith, b.0)) h)

    first : z ≡ y → Stands goes x z
    first e = subst (Stands goes x) (sym e) (xy, λ t. absurd (both_ways (goes y x) f t))

    later : In z ys → Stands goes x z
    later j =
        let yz = (o.0 z j).0 in
        let lt : z < n = omega (arith, below_in x ys z b.1 j) in
        let ly : y < n = omega (arith, b.0) in
        (law.1 x y z h ly lt xy yz, λ t. absurd (both_ways (goes y x) f (law.1 y z x ly lt h yz t)))

pub insert_ordered : (goes : ℕ → ℕ → Bool) (n x : ℕ) (list : List ℕ) → Lawful goes n → x < n → Below x list → Ordered goes list → Ordered goes (insert goes x list)
insert_ordered goes n x [] law h b o = (λ y i. absurd i, tt)
insert_ordered goes n x (y ∷ ys) law h b o =
    cond_both (goes y x) (y ∷ insert goes x ys) (x ∷ y ∷ ys) (Ordered goes)
    (λ t. (λ z i. ⊎_elim (λ e. subst (Stands goes y) (sym e) (t, λ _. b.0)) (o.0 z) (insert_in goes x ys z i), insert_ordered goes n x ys law h b.1 o.1))
    (λ f. (insert-front goes n x y ys law h b o f, o))

module _ (goes : ℕ → ℕ → Bool) (edge_of : ℕ → ℕ) (e : ℕ) where
  pub along_below : (n : ℕ) → Below n (along goes edge_of e n)
  along_below zero = tt
  along_below (suc n) =
      let b : Below (suc n) (along goes edge_of e n) = All-weaker (λ x. x < n) (λ x. x < suc n) (λ x h. omega arith) (along goes edge_of e n) (along_below n) in
      cond_both (eqb (edge_of n) e) (insert goes n (along goes edge_of e n)) (along goes edge_of e n) (Below (suc n)) (λ _. insert_below goes n (suc n) _ (omega arith) b) (λ _. b)

  pub along-length : (n : ℕ) → length (along goes edge_of e n) ≤ n
  along-length zero = omega arith
  along-length (suc n) =
      let b = along-length n in
      cond_both (eqb (edge_of n) e) (insert goes n (along goes edge_of e n)) (along goes edge_of e n) (λ l. length l ≤ suc n) (λ _. omega (arith, insert-length goes n (along goes edge_of e n))) (λ _. omega arith)

  pub along_once : (n : ℕ) → Once (along goes edge_of e n)
  along_once zero = tt
  along_once (suc n) =
      cond_both (eqb (edge_of n) e) (insert goes n (along goes edge_of e n)) (along goes edge_of e n) Once
      (λ _. insert_once goes n _ (λ i. omega (arith, below_in n (along goes edge_of e n) n (along_below n) i)) (along_once n))
      (λ _. along_once n)

  pub along_has : (n x : ℕ) → In x (along goes edge_of e n) → (x < n) × (edge_of x ≡ e)
  along_has zero x = λ i. absurd i
  along_has (suc n) x =
      cond_both (eqb (edge_of n) e) (insert goes n (along goes edge_of e n)) (along goes edge_of e n) (λ l. In x l → (x < suc n) × (edge_of x ≡ e))
      (λ t i. ⊎_elim (λ p. (omega arith, ap edge_of p ∙ eqb-true (edge_of n) e t)) (λ j. (omega (arith, (along_has n x j).0), (along_has n x j).1)) (insert_in goes n _ x i))
      (λ _ j. (omega (arith, (along_has n x j).0), (along_has n x j).1))

  pub along_all : (n x : ℕ) → x < n → edge_of x ≡ e → In x (along goes edge_of e n)
  along_all zero x h p = absurd (omega arith)
  along_all (suc n) x h p =
      cond_both (eqb (edge_of n) e) (insert goes n (along goes edge_of e n)) (along goes edge_of e n) (In x)
      (λ _. in_insert goes n _ x (⊎_elim (λ q. inl q) (λ ne. inr (along_all n x (omega arith) p)) (cases_eq x n)))
      (λ f. along_all n x (⊎_elim (λ q. absurd (eqb-false (edge_of n) e f (ap edge_of (sym q) ∙ p))) (λ ne. omega arith) (cases_eq x n)) p)

  pub along_ordered : (n m : ℕ) → Lawful goes m → n ≤ m → Ordered goes (along goes edge_of e n)
  along_ordered zero m law h = tt
  along_ordered (suc n) m law h =
      let o : Ordered goes (along goes edge_of e n) = along_ordered n m law (omega arith) in
      cond_both (eqb (edge_of n) e) (insert goes n (along goes edge_of e n)) (along goes edge_of e n) (Ordered goes) (λ _. insert_ordered goes m n _ law h (along_below n) o) (λ _. o)

insert_same : (goes goes' : ℕ → ℕ → Bool) (x : ℕ) (list : List ℕ) → ((y : ℕ) → In y list → goes y x ≡ goes' y x) → insert goes x list ≡ insert goes' x list
insert_same goes goes' x [] h = refl
insert_same goes goes' x (y ∷ ys) h = rw (h y (inl refl), insert_same goes goes' x ys (λ z i. h z (inr i))) refl

-- the list along an edge rests on the crossings in question alone
pub along_same : (goes goes' : ℕ → ℕ → Bool) (edges edges' : ℕ → ℕ) (e n : ℕ) → ((y x : ℕ) → y < n → x < n → goes y x ≡ goes' y x) → ((x : ℕ) → x < n → edges x ≡ edges' x)
    → along goes edges e n ≡ along goes' edges' e n
along_same goes goes' edges edges' e zero hg he = refl
along_same goes goes' edges edges' e (suc n) hg he =
    let list = along goes edges e n in
    ap (λ (v : ℕ). cond (eqb v e) (insert goes n list) list) (he n (omega arith))
    ∙ (ap (λ (l : List ℕ). cond (eqb (edges' n) e) l list) (insert_same goes goes' n list (λ y i. hg y n (omega (arith, below_in n list y (along_below goes edges e n) i)) (omega arith)))
    ∙ ap (λ (l : List ℕ). cond (eqb (edges' n) e) (insert goes' n l) l) (along_same goes goes' edges edges' e n (λ y x hy hx. hg y x (omega arith) (omega arith)) (λ x h. he x (omega arith))))
