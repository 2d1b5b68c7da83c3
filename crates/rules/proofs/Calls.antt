-- What a call can come to: the cases of a step, of a begin and of a run.
use Rattle.std.proofs.Common.{◌≡◌, ℕ, zero, suc, ◌<◌, true, false, Some, None, Option, refl, arith}
use Rattle.plane.specs.declared.refusal.Refusal.TheVariants.{LoopTooLong}
use Rattle.plane.specs.Refusals.{Told, told}
use Rattle.rules.specs.declared.event.Event.{Event}
use Rattle.rules.specs.Lists.{has}
use Rattle.rules.specs.Chart.{Chart}
use Rattle.rules.specs.Rules.{State, under_way, crossings, due, hand_over, at_limit, amid, Answer, gave, finished, done, refused, stepped, step, begin, Taken, accepts, refuses, Reason, spent, at_end, long, by_taker, Ran, ended, one_more, run_taken, run_due, run}

-- a step finds the walk finished, is refused as too long, or hands over what is due
module _ (c : Chart) (s : State) (P : Answer × State → Type 0)
    (none : due c s ≡ None → P (finished, s))
    (full : at_limit c s ≡ true → P (refused (told LoopTooLong), s))
    (hand : (e : Event) → at_limit c s ≡ false → due c s ≡ Some e → P (gave e, hand_over s e)) where
  on_stepped : (o : Option Event) → due c s ≡ o → P (stepped c s o)
  on_stepped None d = none d
  on_stepped (Some e) d = grind arith

  pub on_step : P (step c s)
  on_step = on_stepped (due c s) refl

-- a begin is refused as too long or otherwise, or leaves its choice
module _ (c : Chart) (s : State) (x : ℕ) (P : Answer × State → Type 0)
    (full : at_limit c s ≡ true → P (refused (told LoopTooLong), s))
    (refuse : (n : Told) → (n ≡ told LoopTooLong → ⊥) → P (refused n, s))
    (choose : x < c.count → has x (crossings s.past) ≡ false → amid (under_way s.past) ≡ false → P (done, record { past = s.past; chosen = Some x })) where
  pub on_begin : P (begin c s x)
  on_begin = grind arith

-- why a run that may hand over one more ends at a walk
pub data Stops (c : Chart) (s : State) : Reason → Type 0 where
  stops_at_end : due c s ≡ None → Stops c s at_end
  stops_long : at_limit c s ≡ true → Stops c s long
  stops_by_taker : (n : Told) → at_limit c s ≡ false → Stops c s (by_taker n)

-- a run of up to k events is spent, ends before that, or hands one event over and goes on
module _ {S : Type 0} (c : Chart) (rule : S → Event → Taken S) (P : ℕ → State → S → Ran S → Type 0)
    (none : (s : State) (t : S) → P 0 s t (ended spent s t))
    (stop : (k : ℕ) (s : State) (t : S) (w : Reason) → Stops c s w → P (suc k) s t (ended w s t))
    (hand : (k : ℕ) (s : State) (t : S) (e : Event) (u : S) (r : Ran S) → at_limit c s ≡ false → due c s ≡ Some e → rule t e ≡ accepts u → P k (hand_over s e) u r → P (suc k) s t (one_more e r)) where
  module _ (k : ℕ) (more : (s : State) (t : S) → P k s t (run c rule k s t)) (s : State) (t : S) where
    on_taken : (e : Event) → at_limit c s ≡ false → due c s ≡ Some e → (a : Taken S) → rule t e ≡ a → P (suc k) s t (run_taken (run c rule k) s t e a)
    on_taken e l d (accepts u) q = grind arith
    on_taken e l d (refuses n) q = stop k s t (by_taker n) (stops_by_taker n l)

    on_due : (o : Option Event) → due c s ≡ o → P (suc k) s t (run_due c rule (run c rule k) s t o)
    on_due None d = stop k s t at_end (stops_at_end d)
    on_due (Some e) d = grind (arith, stops_long, on_taken)

  pub on_runs : (k : ℕ) (s : State) (t : S) → P k s t (run c rule k s t)
  on_runs zero s t = none s t
  on_runs (suc k) s t = on_due k (on_runs k) s t (due c s) refl
