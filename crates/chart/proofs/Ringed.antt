-- One more crossing on a ring, in the layout of the words. Assumes nothing.
use Rattle.std.proofs.Common.{◌≡◌, ℕ, ◌+◌, ◌*◌, ◌<◌, ◌≤◌, Bool, List, get_or, sym, subst, ⊎_elim, add-one, arith}
use Rattle.plane.specs.declared.ring.Ring.{Ring}
use Rattle.plane.specs.declared.ring.Ring.TheVariants.{One, Two}
use Rattle.chart.specs.declared.record.Record.{Record}
use Rattle.chart.specs.declared.layout.Corners.{Corners}
use Rattle.chart.specs.Chains.{along}
use Rattle.rules.specs.Chart.{other}
use Rattle.chart.specs.Records.{edge_at, not_after_at}
use Rattle.chart.specs.Words.{Linked, Unlinked, count, start, base}
use Rattle.chart.proofs.Along.{along_below, along_once, along-length}
use Rattle.chart.proofs.Writes.{On, Puts, Keeps, on_in}
use Rattle.chart.proofs.Steps.{step_own, step_other}

pub room : (ring : Ring) (n : Corners) → start ring n + count ring n ≤ base ring n
room One n = omega arith
room Two n = omega arith

apart : (ring : Ring) (n : Corners) (e e' : ℕ) → e < count (other ring) n → e' < count ring n
    → (start (other ring) n + e ≡ start ring n + e' → ⊥) × ((z : ℕ) → start (other ring) n + e ≡ base ring n + 6 * z → ⊥)
    × ((y : ℕ) → base (other ring) n + 6 * y ≡ start ring n + e' → ⊥) × ((y z : ℕ) → base (other ring) n + 6 * y ≡ base ring n + 6 * z → ⊥)
apart One n e e' h h' = (omega arith, omega arith, omega arith, omega arith)
apart Two n e e' h h' = (omega arith, omega arith, omega arith, omega arith)

pub past : (ring : Ring) (n : Corners) → start ring n + count ring n ≤ n.one + n.two
past One n = omega arith
past Two n = omega arith

pub no_pointer : (ring : Ring) (n : Corners) (x j : ℕ) → 2 ≤ j → j < 6 → (y : ℕ) → n.one + n.two + 6 * x + j ≡ base ring n + 6 * y → ⊥
no_pointer One n x j lo hi y e = omega arith
no_pointer Two n x j lo hi y e = omega arith

-- the chains of a ring hold no word that is not a pointer
pub chain_off : (n : Corners) (ring : Ring) (e : ℕ) (list : List ℕ) (x j : ℕ) → e < count ring n → 2 ≤ j → j < 6 → On (base ring n) (start ring n + e) list (n.one + n.two + 6 * x + j) → ⊥
chain_off n ring e list x j there lo hi o =
    ⊎_elim (λ p. omega (arith, room ring n, past ring n, p)) (λ p. no_pointer ring n x j lo hi p.0 p.2) (on_in (base ring n) (start ring n + e) list (n.one + n.two + 6 * x + j) o)

pub unlinked_by : (n : Corners) (ring : Ring) (e : ℕ) (list : List ℕ) (id : ℕ) (ws ws' : List ℕ) → e < count ring n
    → ((k : ℕ) → (On (base ring n) (start ring n + e) list k → ⊥) → (k ≡ base ring n + 6 * id → ⊥) → get_or ws' k 0 ≡ get_or ws k 0) → Unlinked n ws ws'
unlinked_by n ring e list id ws ws' there keeps x j lo hi =
    keeps (n.one + n.two + 6 * x + j) (chain_off n ring e list x j there lo hi) (no_pointer ring n x j lo hi id)

module _ {M : Type 0} (le : M → M → Bool) (corners : Corners) (cs : List (Record M)) (ring : Ring) (id : ℕ) (ws ws' : List ℕ) where
  pub linked_own : edge_at cs ring id < count ring corners
      → Puts (not_after_at le cs ring) ws ws' (base ring corners) (start ring corners + edge_at cs ring id) id → Keeps ws ws' (base ring corners) (start ring corners + edge_at cs ring id) id
      → Linked le corners cs ring id ws → Linked le corners cs ring (id + 1) ws'
  linked_own there puts keeps linked =
      let goes = not_after_at le cs ring in
      let edges = edge_at cs ring in
      let list = along goes edges (edges id) id in
      let links = linked (edges id) there in
      let below = along_below goes edges (edges id) id in
      let long = along-length goes edges (edges id) id in
      subst (λ (n : ℕ). Linked le corners cs ring n ws') (sym (add-one id))
      (step_own goes edges (base ring corners) (start ring corners) (count ring corners) id ws ws' (room ring corners) there linked
      (puts list links below (along_once goes edges (edges id) id) long) (keeps list links below long))

  pub linked_other : (n : ℕ) → edge_at cs ring id < count ring corners
      → Keeps ws ws' (base ring corners) (start ring corners + edge_at cs ring id) id
      → Linked le corners cs ring id ws → Linked le corners cs (other ring) n ws → Linked le corners cs (other ring) n ws'
  linked_other n there keeps linked across e here =
      let goes = not_after_at le cs ring in
      let edges = edge_at cs ring in
      let off = apart ring corners e (edges id) here there in
      step_other goes edges (base ring corners) (start ring corners) (count ring corners) id ws ws' (base (other ring) corners) (start (other ring) corners + e)
      (along (not_after_at le cs (other ring)) (edge_at cs (other ring)) e n) there off.0 off.1 off.2 off.3
      (keeps (along goes edges (edges id) id) (linked (edges id) there) (along_below goes edges (edges id) id) (along-length goes edges (edges id) id))
      (across e here)

  pub linked_rest : edge_at cs ring id < count ring corners
      → Keeps ws ws' (base ring corners) (start ring corners + edge_at cs ring id) id
      → Linked le corners cs ring id ws → Unlinked corners ws ws'
  linked_rest there keeps linked =
      let goes = not_after_at le cs ring in
      let edges = edge_at cs ring in
      let list = along goes edges (edges id) id in
      unlinked_by corners ring (edges id) list id ws ws' there (keeps list (linked (edges id) there) (along_below goes edges (edges id) id) (along-length goes edges (edges id) id))

pub each_ring : (P : Ring → Type 0) → P One → P Two → (ring : Ring) → P ring
each_ring P a b One = a
each_ring P a b Two = b

pub low_base : (ring : Ring) (n : Corners) → base ring n ≤ n.one + n.two + 1
low_base One n = omega arith
low_base Two n = omega arith
