-- The walk along a chain, up to the slot at which a crossing is put in. Assumes nothing.
use Rattle.std.proofs.Common.{◌≡◌, ℕ, ◌+◌, ◌*◌, ◌<◌, ◌≤◌, Bool, true, false, List, [], ◌∷◌, length, get_or, sym, ap, ◌∙◌, subst, arith}
use Rattle.std.proofs.lemmas.Bool.{cond-true, cond-false}
use Rattle.chart.specs.Chains.{Below, Links, spot}

-- what is left of the list at a slot, and that it leads to the same place
abbrev pub Rest : (ℕ → ℕ → Bool) → List ℕ → ℕ → ℕ → ℕ → ℕ → ℕ → List ℕ → Type 0
Rest goes ws base id slot at turn list =
    (rest : List ℕ) × Links ws base at rest × Below id rest × (turn + length rest ≤ id) × (spot goes base id slot list ≡ spot goes base id at rest)

abbrev pub Walked : (ℕ → ℕ → Bool) → List ℕ → ℕ → ℕ → ℕ → ℕ → ℕ → Type 0
Walked goes ws base id slot at turn =
    (list : List ℕ) → Links ws base slot list → Below id list → length list ≤ id → Rest goes ws base id slot at turn list

pub walked_none : (goes : ℕ → ℕ → Bool) (ws : List ℕ) (base id slot at : ℕ) → at ≡ slot → Walked goes ws base id slot at 0
walked_none goes ws base id slot at e list h b n = (list, subst (λ v. Links ws base v list) (sym e) h, b, omega arith, ap (λ v. spot goes base id v list) (sym e))

step : (goes : ℕ → ℕ → Bool) (ws : List ℕ) (base id slot at turn y : ℕ) (list rest : List ℕ) → id < 4294967296 → get_or ws at 0 ≡ y → y < id → goes y id ≡ true
    → Links ws base at rest → Below id rest → turn + length rest ≤ id → spot goes base id slot list ≡ spot goes base id at rest
    → Rest goes ws base id slot (base + 6 * y) (turn + 1) list
step goes ws base id slot at turn y list [] f e lt g h b n s = absurd (omega arith)
step goes ws base id slot at turn y list (z ∷ zs) f e lt g h b n s =
    let same : z ≡ y = sym h.0 ∙ e in
    let gz : goes z id ≡ true = subst (λ (v : ℕ). goes v id ≡ true) (sym same) g in
    subst (λ (v : ℕ). Rest goes ws base id slot (base + 6 * v) (turn + 1) list) same
    (zs, h.1, b.1, omega arith, s ∙ cond-true (goes z id) _ _ gz)

pub walked_more : (goes : ℕ → ℕ → Bool) (ws : List ℕ) (base id slot at turn y : ℕ) → id < 4294967296 → get_or ws at 0 ≡ y → y < id → goes y id ≡ true → Walked goes ws base id slot at turn → Walked goes ws base id slot (base + 6 * y) (turn + 1)
walked_more goes ws base id slot at turn y f e lt g w list h b n =
    let r = w list h b n in
    step goes ws base id slot at turn y list r.0 f e lt g r.1 r.2 r.3 r.4

stop : (goes : ℕ → ℕ → Bool) (ws : List ℕ) (base id slot at turn : ℕ) (list rest : List ℕ) → (get_or ws at 0 < id → goes (get_or ws at 0) id ≡ false)
    → Links ws base at rest → Below id rest → spot goes base id slot list ≡ spot goes base id at rest
    → at ≡ spot goes base id slot list
stop goes ws base id slot at turn list [] g h b s = sym s
stop goes ws base id slot at turn list (z ∷ zs) g h b s =
    let gz : goes z id ≡ false = subst (λ (v : ℕ). v < id → goes v id ≡ false) h.0 g b.0 in
    sym (s ∙ cond-false (goes z id) _ _ gz)

-- the walk stops at what does not stand before
pub walked_stop : (goes : ℕ → ℕ → Bool) (ws : List ℕ) (base id slot at turn : ℕ) → (get_or ws at 0 < id → goes (get_or ws at 0) id ≡ false) → Walked goes ws base id slot at turn
    → (list : List ℕ) → Links ws base slot list → Below id list → length list ≤ id → at ≡ spot goes base id slot list
walked_stop goes ws base id slot at turn g w list h b n =
    let r = w list h b n in
    stop goes ws base id slot at turn list r.0 g r.1 r.2 r.4
