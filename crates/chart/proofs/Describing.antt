-- The last four words of each crossing, and what they leave alone. Assumes nothing.
use Rattle.std.proofs.Common.{◌≡◌, ℕ, ◌+◌, ◌*◌, ◌<◌, ◌≤◌, Bool, List, length, get_or, drop, sym, ap, ◌∙◌, subst, ⊎_elim, arith, length-set, get_or-set_other, get_or-set_same}
use Rattle.std.proofs.lemmas.List.{drop-set-lt}
use Rattle.std.proofs.lemmas.Bool.{cases_eq}
use Rattle.plane.specs.declared.ring.Ring.{Ring}
use Rattle.plane.specs.declared.ring.Ring.TheVariants.{One, Two}
use Rattle.chart.specs.declared.record.Record.{Record}
use Rattle.chart.specs.declared.layout.Corners.{Corners}
use Rattle.chart.specs.Chains.{along}
use Rattle.chart.specs.Records.{edge_at, leaving_at, not_after_at}
use Rattle.chart.specs.Words.{Chained, Linked, Unlinked, Described, described, side_word, start, base}
use Rattle.chart.proofs.Reading.{edge_read_lem, leaving_read}
use Rattle.chart.proofs.Ringed.{chain_off, each_ring}
use Rattle.chart.proofs.Writes.{On, links_kept}

module _ {M : Type 0} (ws : List ℕ) (k : ℕ) (c : Record M) where
  -- nothing else is written
  pub described_other : (i : ℕ) → (i ≡ k + 2 → ⊥) → (i ≡ k + 3 → ⊥) → (i ≡ k + 4 → ⊥) → (i ≡ k + 5 → ⊥) → get_or (described ws k c) i 0 ≡ get_or ws i 0
  described_other i n2 n3 n4 n5 = grind (arith, get_or-set_other, get_or-set_same, length-set)

  pub described_rest : drop (k + 6) (described ws k c) ≡ drop (k + 6) ws
  described_rest = grind (arith, drop-set-lt)

  pub described_2 : k + 6 ≤ length ws → get_or (described ws k c) (k + 2) 0 ≡ c.one.edge
  described_2 room = grind (arith, get_or-set_other, get_or-set_same, length-set)

  pub described_3 : k + 6 ≤ length ws → get_or (described ws k c) (k + 3) 0 ≡ c.two.edge
  described_3 room = grind (arith, get_or-set_other, get_or-set_same, length-set)

  pub described_4 : k + 6 ≤ length ws → get_or (described ws k c) (k + 4) 0 ≡ side_word c.leaving
  described_4 room = grind (arith, get_or-set_other, get_or-set_same, length-set)

  pub described_5 : k + 6 ≤ length ws → get_or (described ws k c) (k + 5) 0 ≡ 0
  described_5 room = grind (arith, get_or-set_other, get_or-set_same, length-set)

module _ {M : Type 0} (n : Corners) (cs : List (Record M)) (id : ℕ) where
  -- the writing of pointers keeps them
  pub described_kept : (ws ws' : List ℕ) → Unlinked n ws ws' → Described n cs id ws → Described n cs id ws'
  described_kept ws ws' same d =
      record {
        edge_one = λ x h. same x 2 (omega arith) (omega arith) ∙ d.edge_one x h;
        edge_two = λ x h. same x 3 (omega arith) (omega arith) ∙ d.edge_two x h;
        side = λ x h. same x 4 (omega arith) (omega arith) ∙ d.side x h;
        waiting = λ x h. same x 5 (omega arith) (omega arith) ∙ d.waiting x h;
      }

  -- they keep the chains
  pub described_linked : (le : M → M → Bool) (ring : Ring) (m : ℕ) (ws : List ℕ) (c : Record M) → Linked le n cs ring m ws → Linked le n cs ring m (described ws (n.one + n.two + 6 * id) c)
  described_linked le ring m ws c linked e here =
      let list = along (not_after_at le cs ring) (edge_at cs ring) e m in
      let k = n.one + n.two + 6 * id in
      let off : (i j : ℕ) → On (base ring n) (start ring n + e) list i → 2 ≤ j → j < 6 → i ≡ k + j → ⊥ = λ i j o lo hi p. chain_off n ring e list id j here lo hi (subst (On (base ring n) (start ring n + e) list) p o) in
      links_kept ws (described ws k c) (base ring n) (start ring n + e) list
      (λ i o. described_other ws k c i (off i 2 o (omega arith) (omega arith)) (off i 3 o (omega arith) (omega arith)) (off i 4 o (omega arith) (omega arith)) (off i 5 o (omega arith) (omega arith)))
      (linked e here)

  -- one crossing more
  pub described_more : (ws : List ℕ) (c : Record M) → n.one + n.two + 6 * id + 6 ≤ length ws → id < length cs → c ≡ get_or cs id c → Described n cs id ws → Described n cs (id + 1) (described ws (n.one + n.two + 6 * id) c)
  described_more ws c room h e d =
      let k = n.one + n.two + 6 * id in
      let each : (j : ℕ) (F : ℕ → ℕ) → 2 ≤ j → j < 6 → get_or (described ws k c) (k + j) 0 ≡ F id → ((x : ℕ) → x < id → get_or ws (n.one + n.two + 6 * x + j) 0 ≡ F x) → (x : ℕ) → x < id + 1 → get_or (described ws k c) (n.one + n.two + 6 * x + j) 0 ≡ F x
      = λ j F lo hi new old x lt.
      ⊎_elim
      (λ same. subst (λ (v : ℕ). get_or (described ws k c) (n.one + n.two + 6 * v + j) 0 ≡ F v) (sym same) new)
      (λ ne. described_other ws k c (n.one + n.two + 6 * x + j) (omega arith) (omega arith) (omega arith) (omega arith) ∙ old x (omega arith))
      (cases_eq x id) in
      record {
        edge_one = each 2 (edge_at cs One) (omega arith) (omega arith) (described_2 ws k c room ∙ edge_read_lem cs One id c h e) d.edge_one;
        edge_two = each 3 (edge_at cs Two) (omega arith) (omega arith) (described_3 ws k c room ∙ edge_read_lem cs Two id c h e) d.edge_two;
        side = each 4 (λ x. side_word (leaving_at cs x)) (omega arith) (omega arith) (described_4 ws k c room ∙ ap side_word (leaving_read cs id c h e)) d.side;
        waiting = each 5 (λ x. 0) (omega arith) (omega arith) (described_5 ws k c room) d.waiting;
      }

  -- both chains and the other words
  pub chained_more : (le : M → M → Bool) (ws ws' : List ℕ) (c : Record M) → n.one + n.two + 6 * id + 6 ≤ length ws → id < length cs → c ≡ get_or cs id c → ws' ≡ described ws (n.one + n.two + 6 * id) c
      → Linked le n cs One (id + 1) ws → Linked le n cs Two (id + 1) ws → Described n cs id ws → Chained le n cs (id + 1) ws'
  chained_more le ws ws' c room h e is one two d =
      subst (Chained le n cs (id + 1)) (sym is)
      (each_ring (λ ring. Linked le n cs ring (id + 1) (described ws (n.one + n.two + 6 * id) c)) (described_linked le One (id + 1) ws c one) (described_linked le Two (id + 1) ws c two), described_more ws c room h e d)
