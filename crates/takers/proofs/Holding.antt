-- What the takers come to over many events. Assumes nothing.
use Rattle.std.proofs.Common.{◌≡◌, ℕ, zero, suc, Bool, true, false, cond, ltb, List, [], ◌∷◌, ◌++◌, length, take, Some, None, refl, ap, ◌∙◌, append_assoc, append-nil, arith}
use Rattle.rules.specs.declared.event.Event.{Event}
use Rattle.rules.specs.declared.event.Event.TheVariants.{Crossing, Corner, Closing}
use Rattle.rules.specs.Rules.{Taken, accepts, refuses}
use Rattle.rules.specs.Strings.{of_none, of_one}
use Rattle.takers.specs.Takers.{placed, capped}
use Rattle.takers.specs.Laws.{ListHolds, TallyAdds, accepted}

-- a rule by a test: what it accepts is the value
gave : {S : Type 0} (b : Bool) (t u : S) → placed (cond b (Some t) None) ≡ accepts u → u ≡ t
gave true t u e = cc
gave false t u e = cc

pub list_holds : ListHolds
list_holds room held after [] of_none = simp append-nil
list_holds room held after (e ∷ es) (of_one {u = u} is more) =
    let one = gave (ltb (length held) room) (room, held ++ e ∷ []) u is in
    list_holds room (held ++ e ∷ []) after es (rw one at more) ∙ simp append_assoc

pub tally_adds : TallyAdds
tally_adds t u [] of_none = grind arith
tally_adds t u (Crossing x a b ∷ es) (of_one {u = v} is more) = let rest = tally_adds v u es more in grind arith
tally_adds t u (Corner r i ∷ es) (of_one {u = v} is more) = let rest = tally_adds v u es more in grind arith
tally_adds t u (Closing ∷ es) (of_one {u = v} is more) = let rest = tally_adds v u es more in grind arith

module _ {S : Type 0} (rule : S → Event → Taken S) where
  none_at_zero : (s : S) (es : List Event) → accepted (capped rule) (0, s) es ≡ []
  none_at_zero s [] = refl
  none_at_zero s (e ∷ es) = none_at_zero s es

  pub caps_at : (k : ℕ) (s : S) (es : List Event) → accepted (capped rule) (k, s) es ≡ take k (accepted rule s es)
  caps_at zero s es = none_at_zero s es
  caps_at (suc k) s [] = refl
  caps_at (suc k) s (e ∷ es) = go (rule s e) refl (λ t. caps_at k t es) (caps_at (suc k) s es)
    where
      go : (o : Taken S) → rule s e ≡ o → ((t : S) → accepted (capped rule) (k, t) es ≡ take k (accepted rule t es)) → accepted (capped rule) (suc k, s) es ≡ take (suc k) (accepted rule s es)
          → accepted (capped rule) (suc k, s) (e ∷ es) ≡ take (suc k) (accepted rule s (e ∷ es))
      go (accepts t) is on same = rw (is, accepted) (ap (λ l. e ∷ l) (on t))
      go (refuses why) is on same = rw (is, accepted) same
