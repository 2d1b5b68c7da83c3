-- The complete loops of a past, read backwards as the past is, and that they are the loops of the walk.
use Rattle.std.proofs.Common.{◌≡◌, List, [], ◌∷◌, ◌++◌, map, reverse, length, sym, refl, ap, ◌∙◌, subst, append_assoc, append-nil, arith}
use mathlib.Core.List.{map-append, reverse-append, reverse-cons}
use Rattle.std.proofs.lemmas.List.{length-map, length-reverse}
use Rattle.rules.specs.declared.event.Event.{Event}
use Rattle.rules.specs.declared.event.Event.TheVariants.{Crossing, Corner, Closing}
use Rattle.rules.specs.Lists.{Turned, Paired, no_more, pair}
use Rattle.rules.specs.Rules.{State, closings, under_way}
use Rattle.rules.specs.Promise.{gather, loops}

-- the complete loops of a past, the latest loop first, the latest event first
abbrev pub closed : List Event → List (List Event)
closed [] = []
closed (Crossing x a b ∷ es) = closed es
closed (Corner r i ∷ es) = closed es
closed (Closing ∷ es) = under_way es ∷ closed es

-- both turned round
abbrev forth : List (List Event) → List (List Event)
forth ls = map reverse (reverse ls)

forth_cons : (l : List Event) (ls : List (List Event)) → forth (l ∷ ls) ≡ forth ls ++ (reverse l ∷ [])
forth_cons l ls = grind (arith, reverse-cons, map-append)

turned_past : (e : Event) (es rest : List Event) → reverse (e ∷ es) ++ rest ≡ reverse es ++ (e ∷ rest)
turned_past e es rest = grind (arith, reverse-cons, append_assoc)

gather_on : (past rest : List Event) → gather [] (reverse past ++ rest) ≡ forth (closed past) ++ gather (reverse (under_way past)) rest
gather_on [] rest = refl
gather_on (Crossing x a b ∷ es) rest = grind (arith, turned_past, reverse-cons, gather_on es (Crossing x a b ∷ rest))
gather_on (Corner r i ∷ es) rest = grind (arith, turned_past, reverse-cons, gather_on es (Corner r i ∷ rest))
gather_on (Closing ∷ es) rest = grind (arith, turned_past, forth_cons, append_assoc, gather_on es (Closing ∷ rest))

pub loops_closed : (s : State) → loops s ≡ map reverse (reverse (closed s.past))
loops_closed s = ap (gather []) (sym (append-nil (reverse s.past))) ∙ gather_on s.past [] ∙ append-nil (forth (closed s.past))

count_closed : (past : List Event) → closings past ≡ length (closed past)
count_closed [] = refl
count_closed (Crossing x a b ∷ es) = count_closed es
count_closed (Corner r i ∷ es) = count_closed es
count_closed (Closing ∷ es) = let h = count_closed es in omega arith

pub count_loops : (s : State) → closings s.past ≡ length (loops s)
count_loops s = grind (arith, count_closed, loops_closed, length-map, length-reverse)

-- loops pair off with themselves, and those that pair off do so read the other way round

pub paired_self : {A : Type 0} (ls : List (List A)) → Paired ls ls
paired_self [] = no_more
paired_self (l ∷ ls) = pair [] ls (l, [], sym (append-nil l), refl) (paired_self ls)

turned-reverse : {A : Type 0} (l m : List A) → Turned l m → Turned (reverse l) (reverse m)
turned-reverse l m t = (reverse t.1, reverse t.0, ap reverse t.2 ∙ reverse-append t.0 t.1, ap reverse t.3 ∙ reverse-append t.1 t.0)

paired-reverse : {A : Type 0} (ls ms : List (List A)) → Paired ls ms → Paired (map reverse ls) (map reverse ms)
paired-reverse ls ms no_more = no_more
paired-reverse ls ms (pair {l = l} {m = m} {ls = ls'} b a t p) =
    rw (map-append reverse b (m ∷ a))
    (pair (map reverse b) (map reverse a) (turned-reverse l m t) (subst (Paired (map reverse ls')) (map-append reverse b a) (paired-reverse ls' (b ++ a) p)))

pub loops_paired : (s t : State) → Paired (reverse (closed s.past)) (reverse (closed t.past)) → Paired (loops s) (loops t)
loops_paired s t h = grind (arith, loops_closed, paired-reverse)
