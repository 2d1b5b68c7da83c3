-- Every loop ends within its bound, and too long is answered exactly where the loop under way needs more than its limit.
use Rattle.std.proofs.Common.{◌≡◌, ℕ, zero, suc, ◌+◌, ◌-◌, ◌≤◌, true, false, List, [], ◌∷◌, length, Some, None, Option, refl, ap, inl, inr, arith}
use Rattle.std.proofs.lemmas.Bool.{cond-true}
use Rattle.plane.specs.declared.refusal.Refusal.TheVariants.{LoopTooLong}
use Rattle.plane.specs.Refusals.{told}
use Rattle.plane.specs.declared.ring.Ring.TheVariants.{One, Two}
use Rattle.rules.specs.declared.event.Event.{Event}
use Rattle.rules.specs.declared.event.Event.TheVariants.{Crossing, Corner, Closing}
use Rattle.rules.specs.Chart.{Chart, Sound}
use Rattle.rules.specs.Rules.{State, under_way, due, hand_over, limit, at_limit, Finished, Answer, refused, step, begin, Taken, accepts, Reason, spent, long, Ran, run}
use Rattle.rules.specs.Promise.{ClosesIn, Needs, TooLong, Bounded}
use Rattle.rules.specs.Strings.{Reached}
use Rattle.rules.proofs.Trails.{Traced, handed_traced}
use Rattle.rules.proofs.Calls.{on_step, on_begin, Stops, stops_long, stops_at_end, stops_by_taker, on_runs}
use Rattle.rules.proofs.Reached.{reached_traced}
use Rattle.rules.proofs.Unrepeated.{items}
use Rattle.rules.proofs.Counting.{few_items}

-- the loop under way has no more events than the walk has items
under_way-items : (past : List Event) → length (under_way past) ≤ length (items past)
under_way-items [] = omega arith
under_way-items (Crossing x a b ∷ es) = let h = under_way-items es in omega arith
under_way-items (Corner r i ∷ es) = let h = under_way-items es in omega arith
under_way-items (Closing ∷ es) = omega arith

-- at its limit a loop is under way, so that the walk is not finished
pub not_finished : (c : Chart) (s : State) → length (under_way s.past) ≡ limit c → Finished c s → ⊥
not_finished c s full h = grind arith

module _ (c : Chart) (sound : Sound c) where
  -- as many as the chart has items
  abbrev all : ℕ
  all = c.count + c.corners One + c.corners Two

  one_sooner : (k : ℕ) (s : State) (e : Event) → due c s ≡ Some e → (e ≡ Closing → ⊥) → (j : ℕ) × ClosesIn c (hand_over s e) j × (j ≤ k + 1) → (j : ℕ) × ClosesIn c s j × (j ≤ suc k + 1)
  one_sooner k s e d more r = (suc r.0, (e, d, inr (more, r.1)), omega arith)

  -- the items not yet handed over bound the events up to the closing
  closing_comes : (k : ℕ) (s : State) (e : Event) → Traced c s → due c s ≡ Some e → all ≤ length (items s.past) + k → (j : ℕ) × ClosesIn c s j × (j ≤ k + 1)
  closing_comes k s Closing h d f = (suc zero, (Closing, d, inl (refl, refl)), omega arith)
  closing_comes zero s (Crossing x a b) h d f = absurd (let n = few_items c sound (handed_traced c s (Crossing x a b) h d).trail in omega arith)
  closing_comes (suc k) s (Crossing x a b) h d f =
      one_sooner k s (Crossing x a b) d (λ q. cc)
      (closing_comes k (hand_over s (Crossing x a b)) _ (handed_traced c s (Crossing x a b) h d) refl (omega arith))
  closing_comes zero s (Corner r i) h d f = absurd (let n = few_items c sound (handed_traced c s (Corner r i) h d).trail in omega arith)
  closing_comes (suc k) s (Corner r i) h d f =
      one_sooner k s (Corner r i) d (λ q. cc)
      (closing_comes k (hand_over s (Corner r i)) _ (handed_traced c s (Corner r i) h d) refl (omega arith))

  pub loop-ends : (s : State) → Traced c s → (Finished c s → ⊥) → (m : ℕ) × Needs c s m × (m ≤ all + 1)
  loop-ends s h more = go (due c s) refl
    where
      go : (o : Option Event) → due c s ≡ o → (m : ℕ) × Needs c s m × (m ≤ all + 1)
      go None d = absurd (more d)
      go (Some e) d =
          let n = few_items c sound h.trail in
          let u = under_way-items s.past in
          let r = closing_comes (all - length (items s.past)) s e h d (omega arith) in
          (length (under_way s.past) + r.0, (r.0, refl, r.1), omega arith)

  -- at its limit the loop under way needs more
  pub too_long_at : (s : State) → Traced c s → at_limit c s ≡ true → TooLong c s
  too_long_at s h l = grind (arith, loop-ends, not_finished)

  pub limit_at : (s : State) → TooLong c s → at_limit c s ≡ true
  limit_at s h = grind arith

  step_too_long : (s : State) → Traced c s → ((step c s).0 ≡ refused (told LoopTooLong) → TooLong c s) × (TooLong c s → (step c s).0 ≡ refused (told LoopTooLong))
  step_too_long s h = (
    on_step c s (λ r. r.0 ≡ refused (told LoopTooLong) → TooLong c s) (λ _ q. cc) (λ l _. too_long_at s h l) (λ e _ _ q. cc),
    λ t. on_step c s (λ r. r.0 ≡ refused (told LoopTooLong)) (λ d. absurd (not_finished c s t.3 d)) (λ _. refl) (λ e l _. cc (limit_at s t)),
  )

  begin_too_long : (s : State) (x : ℕ) → Traced c s → ((begin c s x).0 ≡ refused (told LoopTooLong) → TooLong c s) × (TooLong c s → (begin c s x).0 ≡ refused (told LoopTooLong))
  begin_too_long s x h = (
    on_begin c s x (λ r. r.0 ≡ refused (told LoopTooLong) → TooLong c s) (λ l _. too_long_at s h l) (λ n d q. absurd (d (cc))) (λ _ _ _ q. cc),
    λ t. ap (λ (r : Answer × State). r.0) (cond-true (at_limit c s) (refused (told LoopTooLong), s) _ (limit_at s t)),
  )

  module _ {S : Type 0} (rule : S → Event → Taken S) where
    run_too_long : (k : ℕ) (s : State) (t : S) → Traced c s → ((run c rule k s t).why ≡ spent → ⊥) → ((run c rule k s t).why ≡ long → TooLong c (run c rule k s t).walk) × (TooLong c (run c rule k s t).walk → (run c rule k s t).why ≡ long)
    run_too_long = on_runs c rule P (λ s t h n. absurd (n refl)) stop (λ _ s t e u r _ d _ f h. f (handed_traced c s e h d))
      where
        P : ℕ → State → S → Ran S → Type 0
        P _ s t r = Traced c s → (r.why ≡ spent → ⊥) → (r.why ≡ long → TooLong c r.walk) × (TooLong c r.walk → r.why ≡ long)

        stop : (k : ℕ) (s : State) (t : S) (w : Reason) → Stops c s w → Traced c s → (w ≡ spent → ⊥) → (w ≡ long → TooLong c s) × (TooLong c s → w ≡ long)
        stop k s t w (stops_at_end d) h n = grind arith
        stop k s t w (stops_long l) h n = (λ _. too_long_at s h l, λ _. refl)
        stop k s t w (stops_by_taker m l) h n = (λ q. cc, λ b. cc (limit_at s b))

    -- a run of up to k events is spent exactly where it handed over k
    run_is_spent : (k : ℕ) (s : State) (t : S) → ((run c rule k s t).why ≡ spent → length (run c rule k s t).handed ≡ k) × (length (run c rule k s t).handed ≡ k → (run c rule k s t).why ≡ spent)
    run_is_spent = on_runs c rule P (λ s t. (λ _. refl, λ _. refl)) stop more
      where
        P : ℕ → State → S → Ran S → Type 0
        P k s t r = (r.why ≡ spent → length r.handed ≡ k) × (length r.handed ≡ k → r.why ≡ spent)

        stop : (k : ℕ) (s : State) (t : S) (w : Reason) → Stops c s w → (w ≡ spent → 0 ≡ suc k) × (0 ≡ suc k → w ≡ spent)
        stop k s t w (stops_at_end _) = (λ q. cc, λ q. cc)
        stop k s t w (stops_long _) = (λ q. cc, λ q. cc)
        stop k s t w (stops_by_taker _ _) = (λ q. cc, λ q. cc)

        more : (k : ℕ) (s : State) (t : S) (e : Event) (u : S) (r : Ran S) → at_limit c s ≡ false → due c s ≡ Some e → rule t e ≡ accepts u → P k (hand_over s e) u r → (r.why ≡ spent → suc (length r.handed) ≡ suc k) × (suc (length r.handed) ≡ suc k → r.why ≡ spent)
        more k s t e u r _ _ _ h = grind arith

    pub bounded_at : (s : State) → Reached c s → Bounded c rule s
    bounded_at s r =
        let h = reached_traced c s r in
        record {
          ends = loop-ends s h;
          step_long = step_too_long s h;
          begin_long = λ x. begin_too_long s x h;
          run_long = λ k t. run_too_long k s t h;
          run_spent = λ k t. run_is_spent k s t;
        }
