-- What the reading of a job comes to, over all byte strings. Assumes nothing.
use Rattle.std.specs.Prelude.{◌≡◌, ℕ, ◌<◌, ◌≤◌, Bool, true, false, List, [], ◌∷◌, ◌++◌, map, length, take, is_some, Ok, Err, filter, Result, ◌≢◌}
use Rattle.std.specs.List.{AllByRecursion}
use Rattle.plane.specs.Refusals.{Told, tells}
use Rattle.plane.specs.Outlines.{most_corners}
use Rattle.decimetre.specs.Exact.{Pair, admitted}
use Rattle.plane.specs.declared.ring.Ring.{Ring}
use Rattle.plane.specs.declared.ring.Ring.TheVariants.{One, Two}
use Rattle.job.specs.declared.reader.Kind.{Kind}
use Rattle.job.specs.declared.reader.Kind.TheVariants.{Corner, End}
use Rattle.job.specs.Format.{kind_byte, InTwoBytes, Record, bytes_of, written, Lists, pairs_in, read_job}

-- whether two rings are the same one; a derived `==` has no word that a definition could cite
abbrev pub same_ring : Ring → Ring → Bool
same_ring One One = true
same_ring One Two = false
same_ring Two One = false
same_ring Two Two = true

-- the pairs of a ring among records, in order
abbrev pub of_ring : Ring → List Record → List Pair
of_ring ring rs = map (λ r. r.pair) (filter (λ r. same_ring ring r.ring) rs)

-- those of both
abbrev pub rings_of : List Record → Lists
rings_of rs = record { one = of_ring One rs; two = of_ring Two rs }

-- a pair that becomes a corner
abbrev pub Fine : Pair → Type 0
Fine p = is_some (admitted p) ≡ true

-- records of which none is refused: each pair is admitted, and there are not too many of a ring
pub record Good (rs : List Record) : Type 0 where
  pub fine : AllByRecursion (λ r. Fine r.pair) rs
  pub few : (ring : Ring) → length (of_ring ring rs) ≤ most_corners

-- the answer that the first record of the bytes left decides, at the offset at and with the pairs so far:
-- it ends the job, or there is none, or its kind is strange, its ring full, its body cut short or its pair wild
pub data Front (l : Lists) (at : ℕ) (left : List ℕ) (answer : Result Lists Told) : Type 0 where
  ended : (more : List ℕ) → left ≡ kind_byte End ∷ more → answer ≡ Ok l → Front l at left answer
  missing : left ≡ [] → answer ≡ Err (tells 13 at) → Front l at left answer
  strange : (b : ℕ) (more : List ℕ) → left ≡ b ∷ more → ((k : Kind) → b ≢ kind_byte k) → answer ≡ Err (tells 12 at) → Front l at left answer
  full : (ring : Ring) (more : List ℕ) → left ≡ kind_byte (Corner ring) ∷ more → length (pairs_in ring l) ≡ most_corners → answer ≡ Err (tells 2 at) → Front l at left answer
  cut : (ring : Ring) (more : List ℕ) → left ≡ kind_byte (Corner ring) ∷ more → length (pairs_in ring l) < most_corners → length more < 4 → answer ≡ Err (tells 13 at) → Front l at left answer
  wild : (r : Record) (more : List ℕ) → left ≡ bytes_of r ++ more → length (pairs_in r.ring l) < most_corners → InTwoBytes r.pair.x → InTwoBytes r.pair.y → is_some (admitted r.pair) ≡ false → answer ≡ Err (tells 3 at) → Front l at left answer

-- bytes as good records and a rest whose first record decides the answer, at its own offset
pub record Split (bytes : List ℕ) (answer : Result Lists Told) : Type 0 where
  pub records : List Record
  pub rest : List ℕ
  pub whole : bytes ≡ written records ++ rest
  pub good : Good records
  pub front : Front (rings_of records) (length (written records)) rest answer

-- every byte string is so split, and what decides is the answer
abbrev pub EverySplit : Type 0
EverySplit = (bytes : List ℕ) → AllByRecursion (λ b. b < 256) bytes → Split bytes (read_job bytes)

-- and no other answer is given to what is so split
abbrev pub SplitDecides : Type 0
SplitDecides = (bytes : List ℕ) (answer : Result Lists Told) → Split bytes answer → read_job bytes ≡ answer

-- good records are read back, whatever follows the end record
abbrev pub ReadsBack : Type 0
ReadsBack = (rs : List Record) (more : List ℕ) → Good rs → read_job (written rs ++ kind_byte End ∷ more) ≡ Ok (rings_of rs)

-- the records of a list
abbrev pub corners : Ring → List Pair → List Record
corners ring ps = map (λ p. record { ring = ring; pair = p }) ps

-- so two lists that are written one after the other are read back
abbrev pub ListsReadBack : Type 0
ListsReadBack = (l : Lists) (more : List ℕ) → ((ring : Ring) → AllByRecursion Fine (pairs_in ring l)) → ((ring : Ring) → length (pairs_in ring l) ≤ most_corners) → read_job (written (corners One l.one ++ corners Two l.two) ++ kind_byte End ∷ more) ≡ Ok l

-- bytes that are good records of these pairs, and the end record
pub record Written (bytes : List ℕ) (l : Lists) : Type 0 where
  pub records : List Record
  pub more : List ℕ
  pub whole : bytes ≡ written records ++ kind_byte End ∷ more
  pub good : Good records
  pub pairs : l ≡ rings_of records

-- nothing else is read without a refusal
abbrev pub OnlySo : Type 0
OnlySo = (bytes : List ℕ) (l : Lists) → AllByRecursion (λ b. b < 256) bytes → read_job bytes ≡ Ok l → Written bytes l

-- no job needs more bytes than two rings of the most corners and the end record
abbrev pub Enough : Type 0
Enough = (bytes : List ℕ) → read_job bytes ≡ read_job (take 10241 bytes)
