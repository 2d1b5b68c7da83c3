-- The format of a job: how its records are written as bytes, and how bytes are read. Assumes nothing.
use Rattle.std.specs.Prelude.{ℕ, zero, suc, ◌+◌, ◌-◌, ◌*◌, ◌/◌, ◌%◌, ◌<◌, cond, List, [], ◌∷◌, ◌++◌, length, drop, ℤ, pos, negsuc, Some, None, Ok, Err, Option, Result, ◌==◌, nat_lt, slice_index}
use Rattle.plane.specs.declared.refusal.Refusal.{Refusal}
use Rattle.plane.specs.Refusals.{Told, tells, told}
use Rattle.plane.specs.Outlines.{most_corners}
use Rattle.decimetre.specs.declared.corner.Corner.{Corner}
use Rattle.decimetre.specs.Exact.{Pair, admitted}
use Rattle.plane.specs.declared.ring.Ring.{Ring}
use Rattle.plane.specs.declared.ring.Ring.TheVariants.{One, Two}
use Rattle.job.specs.declared.reader.Kind.{Kind}
use Rattle.job.specs.declared.reader.Kind.TheVariants as kind

-- the byte that each kind of record begins with
abbrev pub kind_byte : Kind → ℕ
kind_byte (kind.Corner One) = 0x11
kind_byte (kind.Corner Two) = 0x12
kind_byte kind.End = 0x14

-- two bytes hold the numbers from -32,768 to 32,767
abbrev pub InTwoBytes : ℤ → Type 0
InTwoBytes (pos n) = n < 32768
InTwoBytes (negsuc n) = n < 32768

-- the sixteen bits of such a number: a negative one is counted back from 65,536
abbrev pub bits_of : ℤ → ℕ
bits_of (pos n) = n
bits_of (negsuc n) = 65535 - n

-- its two bytes, the high one first
abbrev pub number_bytes : ℤ → List ℕ
number_bytes z = bits_of z / 256 ∷ bits_of z % 256 ∷ []

-- a corner's record
pub record Record : Type 0 where
  pub ring : Ring
  pub pair : Pair

-- is written as its kind, x and y
abbrev pub bytes_of : Record → List ℕ
bytes_of r = kind_byte (kind.Corner r.ring) ∷ (number_bytes r.pair.x ++ number_bytes r.pair.y)

-- records are written one after the other
abbrev pub written : List Record → List ℕ
written [] = []
written (r ∷ rs) = bytes_of r ++ written rs

-- an answer as its caller sees it: f of its value, or what a refusal tells
abbrev pub seen : {X Y : Type 0} → (X → Y) → Result X Refusal → Result Y Told
seen f (Ok x) = Ok (f x)
seen f (Err e) = Err (told e)

-- the same of the value itself
abbrev pub answered : {X : Type 0} → Result X Refusal → Result X Told
answered r = seen (λ x. x) r

-- goes on with a value, and passes a refusal on
abbrev pub and_then : {X Y : Type 0} → Result X Told → (X → Result Y Told) → Result Y Told
and_then (Ok x) f = f x
and_then (Err t) f = Err t

-- the kind that a byte begins
abbrev pub kind_of : ℕ → Option Kind
kind_of b = cond (b == 0x11) (Some (kind.Corner One)) (cond (b == 0x12) (Some (kind.Corner Two)) (cond (b == 0x14) (Some kind.End) None))

-- no such kind is number 12
abbrev pub known : ℕ → Option Kind → Result Kind Told
known at (Some k) = Ok k
known at None = Err (tells 12 at)

-- the kind of the record that the bytes left begin with, at the offset at: number 13 where nothing is left
abbrev pub kind_at : ℕ → List ℕ → Result Kind Told
kind_at at [] = Err (tells 13 at)
kind_at at (b ∷ more) = known at (kind_of b)

-- the number of two bytes
abbrev pub number_of : ℕ → ℕ → ℤ
number_of high low = cond (nat_lt high 128) (pos (high * 256 + low)) (negsuc (65535 - (high * 256 + low)))

-- the pair in the four bytes after the kind
abbrev pub pair_of : List ℕ → Pair
pair_of left = record { x = number_of (slice_index left 1) (slice_index left 2); y = number_of (slice_index left 3) (slice_index left 4) }

-- fewer bytes are number 13
abbrev pub pair_at : ℕ → List ℕ → Result Pair Told
pair_at at left = cond (nat_lt (length left) 5) (Err (tells 13 at)) (Ok (pair_of left))

-- a pair that is not admitted is number 3
abbrev pub fitting : ℕ → Pair → Option Corner → Result Pair Told
fitting at p (Some c) = Ok p
fitting at p None = Err (tells 3 at)

-- a ring's pairs with that of the record which the bytes left begin with: number 2 where there are the most already
abbrev pub added : ℕ → List Pair → List ℕ → Result (List Pair) Told
added at ps left = cond (nat_lt (length ps) most_corners) (and_then (pair_at at left) (λ p. and_then (fitting at p (admitted p)) (λ p. Ok (ps ++ p ∷ [])))) (Err (tells 2 at))

-- the pairs of the two rings
pub record Lists : Type 0 where
  pub one : List Pair
  pub two : List Pair

-- no pairs yet
abbrev pub none : Lists
none = record { one = []; two = [] }

-- those of one ring
abbrev pub pairs_in : Ring → Lists → List Pair
pairs_in One l = l.one
pairs_in Two l = l.two

-- others in their place
abbrev pub puts : Ring → List Pair → Lists → Lists
puts One ps l = record { one = ps; two = l.two }
puts Two ps l = record { one = l.one; two = ps }

-- a record by its kind: the end gives the lists, and after a corner on reads what follows
abbrev pub by_kind : (ℕ → Lists → List ℕ → Result Lists Told) → ℕ → Lists → List ℕ → Kind → Result Lists Told
by_kind on at l left (kind.Corner ring) = and_then (added at (pairs_in ring l) left) (λ ps. on (at + 5) (puts ring ps l) (drop 5 left))
by_kind on at l left kind.End = Ok l

-- the record that the bytes left begin with, and then on
abbrev pub one_record : (ℕ → Lists → List ℕ → Result Lists Told) → ℕ → Lists → List ℕ → Result Lists Told
one_record on at l left = and_then (kind_at at left) (by_kind on at l left)

-- the reading of the bytes left, at the offset at and with the pairs so far: of n records at most
unfoldable pub read_on : ℕ → ℕ → Lists → List ℕ → Result Lists Told
read_on zero at l left = Err (tells 13 at)
read_on (suc n) at l left = one_record (read_on n) at l left

-- of all, since there are no more records than bytes
abbrev pub read_from : ℕ → Lists → List ℕ → Result Lists Told
read_from at l left = read_on (length left) at l left

-- the job that bytes are, or why they are none
abbrev pub read_job : List ℕ → Result Lists Told
read_job bytes = read_from 0 none bytes
