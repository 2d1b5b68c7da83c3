-- What a list of the crossings along an edge has to be. Assumes nothing.
use Rattle.std.specs.Prelude.{◌≡◌, ℕ, ◌<◌, Bool, true, ◌⊎◌, List, [], ◌∷◌}
use Rattle.rules.specs.Lists.{In}

-- the ids below n are in a total order, in which several may be level
abbrev pub Lawful : (ℕ → ℕ → Bool) → ℕ → Type 0
Lawful goes n =
    ((a b : ℕ) → a < n → b < n → (goes a b ≡ true) ⊎ (goes b a ≡ true))
    × ((a b c : ℕ) → a < n → b < n → c < n → goes a b ≡ true → goes b c ≡ true → goes a c ≡ true)

-- each is not after those behind it, and where level with one has the smaller id
abbrev pub Ordered : (ℕ → ℕ → Bool) → List ℕ → Type 0
Ordered goes [] = Unit {0}
Ordered goes (x ∷ xs) = ((y : ℕ) → In y xs → (goes x y ≡ true) × (goes y x ≡ true → x < y)) × Ordered goes xs
