-- The crossings along an edge: how each is put into its place, and the chain of pointers that tells them in one list of words.
-- A crossing x has its pointer at `base + 6 * x`, where `base` tells the ring. Assumes nothing.
use Rattle.std.specs.Prelude.{◌≡◌, ℕ, zero, suc, ◌+◌, ◌*◌, ◌<◌, Bool, cond, List, [], ◌∷◌, ◌==◌, slice_index}
use Rattle.std.specs.List.{AllByRecursion}

-- each is below n
abbrev pub Below : ℕ → List ℕ → Type 0
Below n = AllByRecursion (λ x. x < n)

-- the list is what the words give, read from the slot on
abbrev pub Links : List ℕ → ℕ → ℕ → List ℕ → Type 0
Links ws base slot [] = slice_index ws slot ≡ 4294967295
Links ws base slot (x ∷ xs) = (slice_index ws slot ≡ x) × Links ws base (base + 6 * x) xs

-- x put behind those that stand before it, up to the first that does not
abbrev pub insert : (ℕ → ℕ → Bool) → ℕ → List ℕ → List ℕ
insert goes x [] = x ∷ []
insert goes x (y ∷ ys) = cond (goes y x) (y ∷ insert goes x ys) (x ∷ y ∷ ys)

-- the slot at which x is put in
abbrev pub spot : (ℕ → ℕ → Bool) → ℕ → ℕ → ℕ → List ℕ → ℕ
spot goes base x slot [] = slot
spot goes base x slot (y ∷ ys) = cond (goes y x) (spot goes base x (base + 6 * y) ys) slot

-- the crossings below n on the edge e, in order
abbrev pub along : (ℕ → ℕ → Bool) → (ℕ → ℕ) → ℕ → ℕ → List ℕ
along goes edge_of e zero = []
along goes edge_of e (suc n) = cond (edge_of n == e) (insert goes n (along goes edge_of e n)) (along goes edge_of e n)
