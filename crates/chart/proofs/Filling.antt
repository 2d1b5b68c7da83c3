-- Records that are written to the front of a table one behind another. Assumes nothing.
use Rattle.std.proofs.Common.{◌≡◌, ℕ, ◌+◌, ◌-◌, ◌<◌, ◌≤◌, List, [], ◌∷◌, ◌++◌, length, take, drop, set, sym, ap, ◌∙◌, arith}
use Rattle.std.proofs.lemmas.List.{append_assoc, length-append, length-set, length-take-le, take_more_set, drop-set-lt, drop-drop}
use Rattle.std.proofs.lemmas.Grind.{drop_more_same}

-- what is the same from an index on is the same from a later one on
pub drop_further : {X : Type 0} (xs ys : List X) (m n : ℕ) → m ≤ n → drop m xs ≡ drop m ys → drop n xs ≡ drop n ys
drop_further xs ys m n le e =
    let at : m + (n - m) ≡ n = omega arith in
    ap (λ (k : ℕ). drop k xs) (sym at) ∙ sym (drop-drop (n - m) m xs) ∙ ap (drop (n - m)) e ∙ drop-drop (n - m) m ys ∙ ap (λ (k : ℕ). drop k ys) at

-- of the list `all`, which goes to the front of the table `old`, `rest` is still to be written, from the index `found` on
pub record Filled {X : Type 0} (old now : List X) (found : ℕ) (all rest : List X) : Type 0 where
  pub same_length : length now ≡ length old
  pub within : found ≤ length now
  pub front : take found now ++ rest ≡ all
  pub back : drop found now ≡ drop found old

-- there is room for several that are written next
pub filled_room : {X : Type 0} (old now all : List X) (found : ℕ) (whole some rest : List X) → length all ≤ length old → whole ≡ some ++ rest → Filled old now found all whole → found + length some ≤ length now
filled_room old now all found whole some rest fits e f = omega (arith, f.same_length, ap length f.front, length-append (take found now) whole, length-take-le found now f.within, ap length e, length-append some rest)

-- one is written
pub filled_more : {X : Type 0} (old now all : List X) (found : ℕ) (x : X) (whole rest : List X) → found < length now → whole ≡ x ∷ rest → Filled old now found all whole → Filled old (set now found x) (found + 1) all rest
filled_more old now all found x whole rest room e f =
    record {
      same_length = length-set now found x ∙ f.same_length;
      within = omega (arith, length-set now found x);
      front = ap (λ l. l ++ rest) (take_more_set now found x room) ∙ append_assoc (take found now) (x ∷ []) rest ∙ ap (λ l. take found now ++ l) (sym e) ∙ f.front;
      back = drop-set-lt (found + 1) now found x (omega arith) ∙ drop_more_same now old found f.back;
    }

-- they are written
pub filled_part : {X : Type 0} (old now next all : List X) (found found' : ℕ) (whole some rest : List X) → whole ≡ some ++ rest → Filled old now found all whole
    → length next ≡ length now → found' ≤ length next → take found' next ≡ take found now ++ some → drop found' next ≡ drop found' now → Filled old next found' all rest
filled_part old now next all found found' whole some rest e f same fits front back =
    let many : found' ≡ found + length some = omega (arith, length-take-le found' next fits, ap length front, length-append (take found now) some, length-take-le found now f.within) in
    record {
      same_length = same ∙ f.same_length;
      within = fits;
      front = ap (λ l. l ++ rest) front ∙ append_assoc (take found now) some rest ∙ ap (λ l. take found now ++ l) (sym e) ∙ f.front;
      back = back ∙ drop_further now old found found' (omega arith) f.back;
    }
