-- What a refusal tells: its number and its place. Assumes nothing.
use Rattle.std.specs.Prelude.{ℕ, Some, None, Ok, Err, Option, Result}
use Rattle.plane.specs.declared.refusal.Refusal.{Refusal}
use Rattle.plane.specs.declared.refusal.Refusal.TheVariants.{NoCorners, TooManyCorners, NotAdmitted, BadTolerance, TablesTooSmall, Unknown, InsideLoop, HandedOver, LoopTooLong, NoPlace, LimitReached, UnknownKind, CutShort}

-- the number that stands for each reason
abbrev pub number_of : Refusal → ℕ
number_of NoCorners = 1
number_of (TooManyCorners k) = 2
number_of (NotAdmitted k) = 3
number_of BadTolerance = 4
number_of TablesTooSmall = 5
number_of (Unknown k) = 6
number_of InsideLoop = 7
number_of HandedOver = 8
number_of LoopTooLong = 9
number_of NoPlace = 10
number_of LimitReached = 11
number_of (UnknownKind k) = 12
number_of (CutShort k) = 13

-- where the fault lies
abbrev pub place_of : Refusal → ℕ
place_of NoCorners = 0
place_of (TooManyCorners k) = k
place_of (NotAdmitted k) = k
place_of BadTolerance = 0
place_of TablesTooSmall = 0
place_of (Unknown k) = k
place_of InsideLoop = 0
place_of HandedOver = 0
place_of LoopTooLong = 0
place_of NoPlace = 0
place_of LimitReached = 0
place_of (UnknownKind k) = k
place_of (CutShort k) = k

-- a number and a place: what a caller is told
pub record Told : Type 0 where
  pub number : ℕ
  pub place : ℕ

abbrev pub tells : ℕ → ℕ → Told
tells n p = record { number = n; place = p }

abbrev pub told : Refusal → Told
told e = tells (number_of e) (place_of e)

-- what an answer tells if it is a refusal
abbrev pub refused : {X : Type 0} → Result X Refusal → Option Told
refused (Ok x) = None
refused (Err e) = Some (told e)
