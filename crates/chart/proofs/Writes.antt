-- What two writes make of a chain, and of the others. Assumes nothing.
use Rattle.std.proofs.Common.{◌≡◌, ℕ, ◌+◌, ◌*◌, ◌<◌, ◌≤◌, Bool, true, false, cond, ◌⊎◌, List, [], ◌∷◌, length, get_or, set, sym, refl, ◌∙◌, subst, inl, inr, arith, length-set, get_or-set_other, get_or-set_same}
use Rattle.std.proofs.lemmas.Bool.{cond_both}
use Rattle.rules.specs.Lists.{In, Once}
use Rattle.chart.specs.Chains.{Below, Links, insert, spot}

-- k is one of the slots that this reading comes by
abbrev pub On : ℕ → ℕ → List ℕ → ℕ → Type 0
On base slot [] k = k ≡ slot
On base slot (x ∷ xs) k = (k ≡ slot) ⊎ On base (base + 6 * x) xs k

-- words in which x is put into its place in the chain from the slot
abbrev pub Puts : (ℕ → ℕ → Bool) → List ℕ → List ℕ → ℕ → ℕ → ℕ → Type 0
Puts goes ws ws' base slot x =
    (list : List ℕ) → Links ws base slot list → Below x list → Once list → length list ≤ x → Links ws' base slot (insert goes x list)

-- words that differ in no slot but those of that chain and x's
abbrev pub Keeps : List ℕ → List ℕ → ℕ → ℕ → ℕ → Type 0
Keeps ws ws' base slot x =
    (list : List ℕ) → Links ws base slot list → Below x list → length list ≤ x
    → (k : ℕ) → (On base slot list k → ⊥) → (k ≡ base + 6 * x → ⊥) → get_or ws' k 0 ≡ get_or ws k 0

-- by In, a word of the rules: the library's all-has asks for the index
pub below_in : (n : ℕ) (list : List ℕ) (y : ℕ) → Below n list → In y list → y < n
below_in n [] y b i = absurd i
below_in n (x ∷ xs) y b (inl e) = subst (λ (v : ℕ). v < n) (sym e) b.0
below_in n (x ∷ xs) y b (inr i) = below_in n xs y b.1 i

-- a slot of a chain is its first, or the pointer of one of its crossings
pub on_in : (base slot : ℕ) (list : List ℕ) (k : ℕ) → On base slot list k → (k ≡ slot) ⊎ ((y : ℕ) × In y list × (k ≡ base + 6 * y))
on_in base slot [] k o = inl o
on_in base slot (x ∷ xs) k (inl e) = inl e
on_in base slot (x ∷ xs) k (inr o) = after (on_in base (base + 6 * x) xs k o)
  where
    after : (k ≡ base + 6 * x) ⊎ ((y : ℕ) × In y xs × (k ≡ base + 6 * y)) → (k ≡ slot) ⊎ ((y : ℕ) × In y (x ∷ xs) × (k ≡ base + 6 * y))
    after (inl e) = inr (x, inl refl, e)
    after (inr p) = inr (p.0, inr p.1, p.2)

pub spot_on : (goes : ℕ → ℕ → Bool) (base x slot : ℕ) (list : List ℕ) → On base slot list (spot goes base x slot list)
spot_on goes base x slot [] = refl
spot_on goes base x slot (y ∷ ys) =
    cond_both (goes y x) (spot goes base x (base + 6 * y) ys) slot (On base slot (y ∷ ys)) (λ _. inr (spot_on goes base x (base + 6 * y) ys)) (λ _. inl refl)

-- a chain is kept by what writes none of its slots
pub links_kept : (ws ws' : List ℕ) (base slot : ℕ) (list : List ℕ) → ((k : ℕ) → On base slot list k → get_or ws' k 0 ≡ get_or ws k 0) → Links ws base slot list → Links ws' base slot list
links_kept ws ws' base slot [] same h = same slot refl ∙ h
links_kept ws ws' base slot (x ∷ xs) same h =
    (same slot (inl refl) ∙ h.0, links_kept ws ws' base (base + 6 * x) xs (λ k o. same k (inr o)) h.1)

-- no pointer of the list is at the slot
abbrev pub Apart : ℕ → ℕ → List ℕ → Type 0
Apart base slot list = (y : ℕ) → In y list → slot ≡ base + 6 * y → ⊥

-- x put in at the slot f
abbrev pub Put : List ℕ → List ℕ → ℕ → ℕ → ℕ → Type 0
Put ws ws' base x f =
    (get_or ws' f 0 ≡ x) × (get_or ws' (base + 6 * x) 0 ≡ get_or ws f 0) × ((k : ℕ) → (k ≡ f → ⊥) → (k ≡ base + 6 * x → ⊥) → get_or ws' k 0 ≡ get_or ws k 0)

pub put_at : (ws ws' : List ℕ) (base x f h : ℕ) → f ≡ h → Put ws ws' base x f → Put ws ws' base x h
put_at ws ws' base x f h e p = subst (Put ws ws' base x) e p

pub put_writes : (ws : List ℕ) (base x f : ℕ) → f < base + 6 * x → base + 6 * x < length ws → Put ws (set (set ws (base + 6 * x) (get_or ws f 0)) f x) base x f
put_writes ws base x f lt room =
    let n : ℕ = base + 6 * x in
    let v : ℕ = get_or ws f 0 in
    let one : List ℕ = set ws n v in
    let long : f < length one = subst (λ (m : ℕ). f < m) (sym (length-set ws n v)) (omega arith) in (
      get_or-set_same one f x 0 long,
      get_or-set_other one f n x 0 (omega arith) ∙ get_or-set_same ws n v 0 room,
      λ k no_f no_n. get_or-set_other one f k x 0 no_f ∙ get_or-set_other ws n k v 0 no_n,
    )

-- a slot of the rest is apart from the slot before it
rest_apart : (base slot y : ℕ) (ys : List ℕ) (k : ℕ) → Apart base slot (y ∷ ys) → On base (base + 6 * y) ys k → slot ≡ k → ⊥
rest_apart base slot y ys k apart o e = by (on_in base (base + 6 * y) ys k o)
  where
    by : (k ≡ base + 6 * y) ⊎ ((z : ℕ) × In z ys × (k ≡ base + 6 * z)) → ⊥
    by (inl p) = apart y (inl refl) (e ∙ p)
    by (inr p) = apart p.0 (inr p.1) (e ∙ p.2)

-- a slot of crossings below x is not x's pointer
pub below_apart : (base slot x : ℕ) (list : List ℕ) (k : ℕ) → (slot ≡ base + 6 * x → ⊥) → Below x list → On base slot list k → k ≡ base + 6 * x → ⊥
below_apart base slot x list k other b o e = by (on_in base slot list k o)
  where
    by : (k ≡ slot) ⊎ ((z : ℕ) × In z list × (k ≡ base + 6 * z)) → ⊥
    by (inl p) = other (sym p ∙ e)
    by (inr p) = omega (arith, below_in x list p.0 b p.1, p.2)

put_way : (goes : ℕ → ℕ → Bool) (base x slot y : ℕ) (ys : List ℕ) (ws ws' : List ℕ) → Apart base slot (y ∷ ys) → (slot ≡ base + 6 * x → ⊥) → Below x (y ∷ ys) → Links ws base slot (y ∷ ys)
    → (Put ws ws' base x (spot goes base x (base + 6 * y) ys) → Links ws' base (base + 6 * y) (insert goes x ys))
    → (t : Bool) → Put ws ws' base x (cond t (spot goes base x (base + 6 * y) ys) slot) → Links ws' base slot (cond t (y ∷ insert goes x ys) (x ∷ y ∷ ys))
put_way goes base x slot y ys ws ws' apart other b h rest true p =
    (p.2 slot (rest_apart base slot y ys (spot goes base x (base + 6 * y) ys) apart (spot_on goes base x (base + 6 * y) ys)) other ∙ h.0, rest p)
put_way goes base x slot y ys ws ws' apart other b h rest false p = (
  p.0,
  (
    p.1 ∙ h.0,
    links_kept ws ws' base (base + 6 * y) ys
        (λ k o. p.2 k (λ e. rest_apart base slot y ys k apart o (sym e)) (below_apart base (base + 6 * y) x ys k (omega (arith, b.0)) b.1 o))
        h.1,
  ),
)

-- the words then give the list with x in its place
pub put_links : (goes : ℕ → ℕ → Bool) (base x slot : ℕ) (list : List ℕ) (ws ws' : List ℕ) → Apart base slot list → (slot ≡ base + 6 * x → ⊥) → Below x list → Once list → Links ws base slot list
    → Put ws ws' base x (spot goes base x slot list) → Links ws' base slot (insert goes x list)
put_links goes base x slot [] ws ws' apart other b o h p = (p.0, p.1 ∙ h)
put_links goes base x slot (y ∷ ys) ws ws' apart other b o h p =
    put_way goes base x slot y ys ws ws' apart other b h
    (put_links goes base x (base + 6 * y) ys ws ws'
    (λ z i e. let same : z ≡ y = omega arith in o.0 (subst (λ (v : ℕ). In v ys) same i))
    (omega (arith, b.0)) b.1 o.1 h.1)
    (goes y x) p

-- and every other slot is as it was
pub put_keeps : (goes : ℕ → ℕ → Bool) (base x slot : ℕ) (list : List ℕ) (ws ws' : List ℕ) → Put ws ws' base x (spot goes base x slot list)
    → (k : ℕ) → (On base slot list k → ⊥) → (k ≡ base + 6 * x → ⊥) → get_or ws' k 0 ≡ get_or ws k 0
put_keeps goes base x slot list ws ws' p k off other =
    p.2 k (λ e. off (subst (On base slot list) (sym e) (spot_on goes base x slot list))) other

-- the two writes that put x into its place
pub placed : (goes : ℕ → ℕ → Bool) (base x slot at p : ℕ) (ws : List ℕ) → p ≡ base + 6 * x → slot < base → at < base + 6 * x → base + 6 * x < length ws
    → ((list : List ℕ) → Links ws base slot list → Below x list → length list ≤ x → at ≡ spot goes base x slot list)
    → Puts goes ws (set (set ws p (get_or ws at 0)) at x) base slot x × Keeps ws (set (set ws p (get_or ws at 0)) at x) base slot x
placed goes base x slot at p ws same first within room finds =
    let ws' : List ℕ = set (set ws p (get_or ws at 0)) at x in
    let put : Put ws ws' base x at = subst (λ (v : ℕ). Put ws (set (set ws v (get_or ws at 0)) at x) base x at) (sym same) (put_writes ws base x at within room) in (
      λ list h b o n. put_links goes base x slot list ws ws' (λ y i. omega arith) (omega arith) b o h (put_at ws ws' base x at (spot goes base x slot list) (finds list h b n) put),
      λ list h b n. put_keeps goes base x slot list ws ws' (put_at ws ws' base x at (spot goes base x slot list) (finds list h b n) put),
    )
