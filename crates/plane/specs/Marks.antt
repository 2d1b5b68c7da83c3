-- Positions on an edge, and how edges of one line overlap. Assumes nothing.
use Rattle.std.specs.Prelude.{Some, None, Option}
use Rattle.plane.specs.declared.answer.Meet.{Meet}
use Rattle.plane.specs.declared.answer.Meet.TheVariants.{Apart, Overlap}
use Rattle.plane.specs.declared.answer.End.TheVariants as ends
use Rattle.plane.specs.declared.answer.End as plane
use Rattle.plane.specs.declared.mark.Mark.{Mark}
use Rattle.plane.specs.declared.mark.Mark.TheVariants.{Start, Inside, End}

-- the end of its edge at which a mark stands, if it stands at one
abbrev pub end_of : {P : Type 0} → Mark P → Option plane.End
end_of Start = Some ends.Start
end_of (Inside p) = None
end_of End = Some ends.Finish

-- what f makes of two marks that are both there, or else the other answer
abbrev pub both : {A B : Type 0} → Option A → Option A → (A → A → B) → B → B
both None n f other = other
both (Some m) None f other = other
both (Some m) (Some n) f other = f m n

-- by where c and d lie on the edge ab, and a and b on the edge cd: the first pair that is there
abbrev pub overlap_of : {P : Type 0} → Option (Mark P) → Option (Mark P) → Option (Mark P) → Option (Mark P) → Meet (Mark P)
overlap_of c d a b =
    both c d (λ m n. Overlap m Start n End)
    (both a b (λ m n. Overlap Start m End n)
    (both c b (λ m n. Overlap m Start End n)
    (both c a (λ m n. Overlap m Start Start n)
    (both d b (λ m n. Overlap m End End n)
    (both d a (λ m n. Overlap m End Start n) Apart)))))
