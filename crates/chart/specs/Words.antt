-- The chart in words: a slot for each edge of ring one, then of ring two, and then six words for each crossing:
-- the next along ring one, the next along ring two, its edge on either, the side on which it is left, and whether it was handed over. Assumes nothing.
use Rattle.std.specs.Prelude.{◌≡◌, ℕ, ◌+◌, ◌*◌, ◌<◌, ◌≤◌, Bool, List, length, slice_index, slice_set}
use Rattle.plane.specs.declared.ring.Ring.{Ring}
use Rattle.plane.specs.declared.ring.Ring.TheVariants.{One, Two}
use Rattle.rules.specs.Chart.{Chart}
use Rattle.chart.specs.declared.layout.Corners.{Corners}
use Rattle.chart.specs.declared.record.Record.{Record}
use Rattle.chart.specs.Chains.{Links, along}
use Rattle.chart.specs.Records.{edge_at, leaving_at, not_after_at}

-- how many corners, and so edges, a ring has
abbrev pub count : Ring → Corners → ℕ
count One n = n.one
count Two n = n.two

-- the slot of a ring's first edge
abbrev pub start : Ring → Corners → ℕ
start One n = 0
start Two n = n.one

-- where the pointer of crossing 0 along a ring stands
abbrev pub base : Ring → Corners → ℕ
base One n = n.one + n.two
base Two n = n.one + n.two + 1

-- the word for a leaving side
abbrev pub side_word : Ring → ℕ
side_word One = 1
side_word Two = 2

-- how many corners the rings of a chart have
abbrev pub sizes : Chart → Corners
sizes c = record { one = c.corners One; two = c.corners Two }

-- the words tell a chart: from the slot of each edge the crossings along it, and of each crossing its edges, its leaving side, and that it was not handed over
pub record ToldBy (ws : List ℕ) (c : Chart) : Type 0 where
  pub chains : (r : Ring) (e : ℕ) → e < c.corners r → Links ws (base r (sizes c)) (start r (sizes c) + e) (c.along r e)
  pub edge_one : (x : ℕ) → x < c.count → slice_index ws (c.corners One + c.corners Two + 6 * x + 2) ≡ c.edge One x
  pub edge_two : (x : ℕ) → x < c.count → slice_index ws (c.corners One + c.corners Two + 6 * x + 3) ≡ c.edge Two x
  pub side : (x : ℕ) → x < c.count → slice_index ws (c.corners One + c.corners Two + 6 * x + 4) ≡ side_word (c.leaving x)
  pub waiting : (x : ℕ) → x < c.count → slice_index ws (c.corners One + c.corners Two + 6 * x + 5) ≡ 0

module _ {M : Type 0} where
  -- each crossing lies on an edge that its ring has
  abbrev pub OnEdges : Corners → List (Record M) → Type 0
  OnEdges n records = (ring : Ring) (x : ℕ) → x < length records → edge_at records ring x < count ring n

  -- from the slot of each edge of a ring the words give the crossings below m along it
  abbrev pub Linked : (M → M → Bool) → Corners → List (Record M) → Ring → ℕ → List ℕ → Type 0
  Linked le n records ring m ws =
      (e : ℕ) → e < count ring n → Links ws (base ring n) (start ring n + e) (along (not_after_at le records ring) (edge_at records ring) e m)

  -- the last four words of a crossing whose first word is at k
  abbrev pub described : List ℕ → ℕ → Record M → List ℕ
  described ws k c = slice_set (slice_set (slice_set (slice_set ws (k + 2) c.one.edge) (k + 3) c.two.edge) (k + 4) (side_word c.leaving)) (k + 5) 0

  -- the last four words of each crossing below m
  pub record Described (n : Corners) (records : List (Record M)) (m : ℕ) (ws : List ℕ) : Type 0 where
    pub edge_one : (x : ℕ) → x < m → slice_index ws (n.one + n.two + 6 * x + 2) ≡ edge_at records One x
    pub edge_two : (x : ℕ) → x < m → slice_index ws (n.one + n.two + 6 * x + 3) ≡ edge_at records Two x
    pub side : (x : ℕ) → x < m → slice_index ws (n.one + n.two + 6 * x + 4) ≡ side_word (leaving_at records x)
    pub waiting : (x : ℕ) → x < m → slice_index ws (n.one + n.two + 6 * x + 5) ≡ 0

-- the crossings below m are told by the words
abbrev pub Chained : {M : Type 0} → (M → M → Bool) → Corners → List (Record M) → ℕ → List ℕ → Type 0
Chained le n records m ws = ((ring : Ring) → Linked le n records ring m ws) × Described n records m ws

-- of each crossing's six words, the four that are no pointers are the same
abbrev pub Unlinked : Corners → List ℕ → List ℕ → Type 0
Unlinked n ws ws' =
    (x j : ℕ) → 2 ≤ j → j < 6 → slice_index ws' (n.one + n.two + 6 * x + j) ≡ slice_index ws (n.one + n.two + 6 * x + j)
