-- One more crossing on a ring: its own edge gains it, and the other edges and the other ring stay. Assumes nothing.
use Rattle.std.proofs.Common.{◌≡◌, ℕ, suc, ◌+◌, ◌*◌, ◌<◌, ◌≤◌, Bool, eqb, List, get_or, sym, ap, ◌∙◌, subst, ⊎_elim, arith}
use Rattle.std.proofs.lemmas.Bool.{cond_both, eqb-true, eqb-false}
use Rattle.rules.specs.Lists.{In}
use Rattle.chart.specs.Chains.{Links, insert, along}
use Rattle.chart.proofs.Writes.{On, on_in, links_kept, below_apart}
use Rattle.chart.proofs.Along.{along_below, along_has}

-- two chains with no slot in common
pub strangers : (base slot : ℕ) (list : List ℕ) (base' slot' : ℕ) (list' : List ℕ) (k : ℕ)
    → (slot ≡ slot' → ⊥) → ((z : ℕ) → In z list' → slot ≡ base' + 6 * z → ⊥) → ((y : ℕ) → In y list → base + 6 * y ≡ slot' → ⊥) → ((y z : ℕ) → In y list → In z list' → base + 6 * y ≡ base' + 6 * z → ⊥)
    → On base slot list k → On base' slot' list' k → ⊥
strangers base slot list base' slot' list' k ss sz ys yz o o' =
    ⊎_elim
    (λ e. ⊎_elim (λ e'. ss (sym e ∙ e')) (λ p'. sz p'.0 p'.1 (sym e ∙ p'.2)) (on_in base' slot' list' k o'))
    (λ p. ⊎_elim (λ e'. ys p.0 p.1 (sym p.2 ∙ e')) (λ p'. yz p.0 p'.0 p.1 p'.1 (sym p.2 ∙ p'.2)) (on_in base' slot' list' k o'))
    (on_in base slot list k o)

module _ (goes : ℕ → ℕ → Bool) (edge_of : ℕ → ℕ) (base start n id : ℕ) (ws ws' : List ℕ) where
  -- what the writes leave alone
  abbrev pub Keeps : Type 0
  Keeps =
      (k : ℕ) → (On base (start + edge_of id) (along goes edge_of (edge_of id) id) k → ⊥) → (k ≡ base + 6 * id → ⊥) → get_or ws' k 0 ≡ get_or ws k 0

  elsewhere : (e : ℕ) → start + n ≤ base → edge_of id < n → e < n → (edge_of id ≡ e → ⊥) → (k : ℕ) → On base (start + e) (along goes edge_of e id) k → On base (start + edge_of id) (along goes edge_of (edge_of id) id) k → ⊥
  elsewhere e room there here differs k =
      strangers base (start + e) (along goes edge_of e id) base (start + edge_of id) (along goes edge_of (edge_of id) id) k
      (λ p. differs (omega arith)) (λ z i. omega arith) (λ y i. omega arith)
      (λ y z i j p. let same : y ≡ z = omega arith in differs (sym (along_has goes edge_of (edge_of id) id z j).1 ∙ (ap edge_of (sym same) ∙ (along_has goes edge_of e id y i).1)))

  pub step_own : start + n ≤ base → edge_of id < n
      → ((e : ℕ) → e < n → Links ws base (start + e) (along goes edge_of e id))
      → Links ws' base (start + edge_of id) (insert goes id (along goes edge_of (edge_of id) id))
      → Keeps
      → (e : ℕ) → e < n → Links ws' base (start + e) (along goes edge_of e (suc id))
  step_own room there links puts keeps e here =
      cond_both (eqb (edge_of id) e) (insert goes id (along goes edge_of e id)) (along goes edge_of e id) (Links ws' base (start + e))
      (λ t. subst (λ (v : ℕ). Links ws' base (start + v) (insert goes id (along goes edge_of v id))) (eqb-true (edge_of id) e t) puts)
      (λ f.
      links_kept ws ws' base (start + e) (along goes edge_of e id)
      (λ k o. keeps k (elsewhere e room there here (eqb-false (edge_of id) e f) k o) (below_apart base (start + e) id (along goes edge_of e id) k (omega arith) (along_below goes edge_of e id) o))
      (links e here))

  pub step_other : (base' slot' : ℕ) (list' : List ℕ) → edge_of id < n
      → (slot' ≡ start + edge_of id → ⊥) → ((z : ℕ) → slot' ≡ base + 6 * z → ⊥) → ((y : ℕ) → base' + 6 * y ≡ start + edge_of id → ⊥) → ((y z : ℕ) → base' + 6 * y ≡ base + 6 * z → ⊥)
      → Keeps → Links ws base' slot' list' → Links ws' base' slot' list'
  step_other base' slot' list' there ss sz ys yz keeps =
      links_kept ws ws' base' slot' list'
      (λ k o.
      keeps k
      (strangers base' slot' list' base (start + edge_of id) (along goes edge_of (edge_of id) id) k ss (λ z i. sz z) (λ y i. ys y) (λ y z i j. yz y z) o)
      (λ e. ⊎_elim (λ p. sz id (sym p ∙ e)) (λ p. yz p.0 id (sym p.2 ∙ e)) (on_in base' slot' list' k o)))
