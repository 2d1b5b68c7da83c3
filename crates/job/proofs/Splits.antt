-- Bytes as good records and a rest whose first record decides. Assumes nothing.
use Rattle.std.proofs.Common.{◌≡◌, ℕ, zero, suc, ◌+◌, ◌<◌, ◌≤◌, Bool, true, false, ◌⊎◌, List, [], ◌∷◌, ◌++◌, length, get_or, is_some, None, Ok, Err, Result, sym, refl, ap, ◌∙◌, subst, ap₂, subst₂, inl, inr, add-zero, zero-add, arith, w8, Fits}
use Rattle.std.proofs.lemmas.List.{length_push}
use Rattle.std.proofs.ByRecursion.{All-append, All-from_get_or, All-map}
use Rattle.std.proofs.lemmas.Bool.{cases_lt, cases_eq}
use Rattle.std.specs.List.{AllByRecursion as All}
use Rattle.std.proofs.lemmas.Grind.{common_steps}
use Rattle.plane.specs.Refusals.{Told, tells}
use Rattle.plane.specs.Outlines.{most_corners}
use Rattle.decimetre.specs.Exact.{Pair, admitted}
use Rattle.plane.specs.declared.ring.Ring.{Ring}
use Rattle.plane.specs.declared.ring.Ring.TheVariants.{One, Two}
use Rattle.job.specs.declared.reader.Kind.{Kind}
use Rattle.job.specs.declared.reader.Kind.TheVariants.{Corner, End}
use Rattle.job.specs.Format.{kind_byte, InTwoBytes, number_of, Record, bytes_of, written, kind_of, pair_at, Lists, none, pairs_in, puts, read_from, read_job}
use Rattle.job.specs.Laws.{same_ring, of_ring, rings_of, corners, Fine, Front, Split, Written, ReadsBack, ListsReadBack, OnlySo}
use Rattle.job.specs.Laws.Front.{ended, missing, strange, full, cut, wild}
use Rattle.job.proofs.Numbers.{number_back, fine_in_two, in_two, bytes_back}
use Rattle.job.proofs.Readings.{reads_one}

no_kind : (b : ℕ) → (b ≡ 17 → ⊥) → (b ≡ 18 → ⊥) → (b ≡ 20 → ⊥) → kind_of b ≡ None
no_kind b p q r = grind (arith, common_steps)

-- a kind that a byte begins, or that it begins none
byte_back : (b : ℕ) → ((k : Kind) → b ≡ kind_byte k → ⊥) ⊎ ((k : Kind) × (b ≡ kind_byte k))
byte_back b = go (cases_eq b 17) (cases_eq b 18) (cases_eq b 20)
  where
    go : (b ≡ 17) ⊎ (b ≡ 17 → ⊥) → (b ≡ 18) ⊎ (b ≡ 18 → ⊥) → (b ≡ 20) ⊎ (b ≡ 20 → ⊥) → ((k : Kind) → b ≡ kind_byte k → ⊥) ⊎ ((k : Kind) × (b ≡ kind_byte k))
    go (inl e) q r = inr (Corner One, e)
    go (inr p) (inl e) r = inr (Corner Two, e)
    go (inr p) (inr q) (inl e) = inr (End, e)
    go (inr p) (inr q) (inr r) = inl (λ k e. grind (arith, common_steps))

-- the record at the front
module _ (at : ℕ) (r : Record) (more : List ℕ) where
  pair_back : InTwoBytes r.pair.x → InTwoBytes r.pair.y → Ok r.pair ≡ pair_at at (bytes_of r ++ more)
  pair_back p q = grind (arith, common_steps, number_back)

  -- a good one is added to its ring
  fine_read : (l : Lists) → length (pairs_in r.ring l) < most_corners → Fine r.pair → read_from (at + 5) (puts r.ring (pairs_in r.ring l ++ r.pair ∷ []) l) more ≡ read_from at l (bytes_of r ++ more)
  fine_read l room f =
      let t = fine_in_two r.pair f in
      grind (arith, pair_back t.0 t.1, reads_one at l (bytes_of r ++ more))

-- what the front decides is what is read
module _ (l : Lists) (at : ℕ) where
  pub decided : {left : List ℕ} {answer : Result Lists Told} → Front l at left answer → read_from at l left ≡ answer
  decided (ended more e a) = grind (arith, reads_one at l (kind_byte End ∷ more))
  decided (missing e a) = grind (arith, reads_one at l [])
  decided (strange b more e n a) = grind (arith, reads_one at l (b ∷ more), no_kind b (n (Corner One)) (n (Corner Two)) (n End))
  decided (full ring more e h a) = grind (arith, reads_one at l (kind_byte (Corner ring) ∷ more))
  decided (cut ring more e h s a) = grind (arith, reads_one at l (kind_byte (Corner ring) ∷ more))
  decided (wild r more e h p q w a) = grind (arith, reads_one at l (bytes_of r ++ more), pair_back at r more p q)

-- lists with the pairs of records after them
abbrev joins : Lists → List Record → Lists
joins l rs = record { one = l.one ++ of_ring One rs; two = l.two ++ of_ring Two rs }

joins_none : (l : Lists) → joins l [] ≡ l
joins_none l = grind (arith, common_steps)

joins_more : (l : Lists) (ring : Ring) (p : Pair) (rs : List Record) → joins (puts ring (pairs_in ring l ++ p ∷ []) l) rs ≡ joins l (record { ring = ring; pair = p } ∷ rs)
joins_more l ring p rs = grind (arith, common_steps)

abbrev pub Few : Lists → Type 0
Few l = (ring : Ring) → length (pairs_in ring l) ≤ most_corners

has_room : (l : Lists) (ring : Ring) (p : Pair) (rs : List Record) → Few (joins l (record { ring = ring; pair = p } ∷ rs)) → length (pairs_in ring l) < most_corners
has_room l ring p rs f = let few = f ring in grind (arith, common_steps)

-- good records are read one by one
goes : (rs : List Record) (at : ℕ) (l : Lists) (rest : List ℕ) → All (λ r. Fine r.pair) rs → Few (joins l rs) → read_from at l (written rs ++ rest) ≡ read_from (at + length (written rs)) (joins l rs) rest
goes [] at l rest f few = ap₂ (λ a m. read_from a m rest) (omega arith) (sym (joins_none l))
goes (r ∷ rs) at l rest f few =
    let m = puts r.ring (pairs_in r.ring l ++ r.pair ∷ []) l in
    let j = joins_more l r.ring r.pair rs in
    let a : (at + 5) + length (written rs) ≡ at + length (written (r ∷ rs)) = omega arith in
    sym (fine_read at r (written rs ++ rest) l (has_room l r.ring r.pair rs few) f.0)
    ∙ (goes rs (at + 5) m rest f.1 (subst Few (sym j) few) ∙ ap₂ (λ a m. read_from a m rest) a j)

-- the pairs of a ring are those of its records
pub ring_of : (ring : Ring) (rs : List Record) → pairs_in ring (rings_of rs) ≡ of_ring ring rs
ring_of ring rs = grind arith

pub split_decides : (bytes : List ℕ) (answer : Result Lists Told) → Split bytes answer → read_job bytes ≡ answer
split_decides bytes answer s =
    let read = goes s.records 0 none s.rest s.good.fine (λ ring. omega (arith, s.good.few ring, ap length (ring_of ring s.records))) in
    let front = decided (rings_of s.records) (length (written s.records)) s.front in
    let whole = ap read_job s.whole in
    grind (arith, common_steps)

-- a split of the bytes left, from the lists so far
record Parts (at : ℕ) (l : Lists) (left : List ℕ) : Type 0 where
  records : List Record
  rest : List ℕ
  whole : left ≡ written records ++ rest
  fine : All (λ r. Fine r.pair) records
  few : Few (joins l records)
  front : Front (joins l records) (at + length (written records)) rest (read_from at l left)

-- what decides at once
at_once : (at : ℕ) (l : Lists) (left : List ℕ) (answer : Result Lists Told) → Few l → Front l at left answer → Parts at l left
at_once at l left answer few f = record {
  records = [];
  rest = left;
  whole = refl;
  fine = tt;
  few = subst Few (sym (joins_none l)) few;
  front = subst (λ x. Front (joins l []) (at + 0) left x) (sym (decided l at f)) (subst₂ (λ m a. Front m a left answer) (sym (joins_none l)) (sym (add-zero at)) f);
}

-- or after a good record
later : (at : ℕ) (l : Lists) (r : Record) (more : List ℕ) → length (pairs_in r.ring l) < most_corners → Fine r.pair → Parts (at + 5) (puts r.ring (pairs_in r.ring l ++ r.pair ∷ []) l) more → Parts at l (bytes_of r ++ more)
later at l r more h f p =
    let j = joins_more l r.ring r.pair p.records in
    let a : (at + 5) + length (written p.records) ≡ at + length (written (r ∷ p.records)) = omega arith in
    record {
      records = r ∷ p.records;
      rest = p.rest;
      whole = ap (λ x. bytes_of r ++ x) p.whole;
      fine = (f, p.fine);
      few = subst Few j p.few;
      front = subst (λ x. Front (joins l (r ∷ p.records)) (at + length (written (r ∷ p.records))) p.rest x) (fine_read at r more l h f) (subst₂ (λ m k. Front m k p.rest (read_from (at + 5) (puts r.ring (pairs_in r.ring l ++ r.pair ∷ []) l) more)) j a p.front);
    }

abbrev Byte : ℕ → Type 0
Byte b = b < 256

pub few_after : (l : Lists) (ring : Ring) (qs : List Pair) → Few l → length (pairs_in ring l) < most_corners → length qs ≡ length (pairs_in ring l) + 1 → Few (puts ring qs l)
few_after l ring qs few h e other = let f = few other in grind (arith, common_steps)

-- what follows is split, whatever the lists
abbrev Onward : ℕ → List ℕ → Type 0
Onward at left = (m : Lists) (more : List ℕ) → length more ≤ length left → All Byte more → Few m → Parts (at + 5) m more

-- a corner's record that is whole, with room for its pair
module _ (at : ℕ) (l : Lists) (few : Few l) where
  at_record : (r : Record) (more : List ℕ) → InTwoBytes r.pair.x → InTwoBytes r.pair.y → length (pairs_in r.ring l) < most_corners → ((m : Lists) → Few m → Parts (at + 5) m more) → Parts at l (bytes_of r ++ more)
  at_record r more p q h on = go (is_some (admitted r.pair)) refl
    where
      go : (t : Bool) → is_some (admitted r.pair) ≡ t → Parts at l (bytes_of r ++ more)
      go true t = later at l r more h t (on _ (few_after l r.ring _ few h (length_push (pairs_in r.ring l) r.pair)))
      go false t = at_once at l (bytes_of r ++ more) (Err (tells 3 at)) few (wild r more refl h p q t refl)

  at_whole : (ring : Ring) (a b c d : ℕ) (more : List ℕ) → All Byte (a ∷ b ∷ c ∷ d ∷ more) → length (pairs_in ring l) < most_corners → ((m : Lists) → Few m → Parts (at + 5) m more) → Parts at l (kind_byte (Corner ring) ∷ a ∷ b ∷ c ∷ d ∷ more)
  at_whole ring a b c d more bs h on =
      subst
      (Parts at l)
      (ap₂ (λ x y. kind_byte (Corner ring) ∷ (x ++ y) ++ more) (bytes_back a b bs.0 bs.1.0) (bytes_back c d bs.1.1.0 bs.1.1.1.0))
      (at_record (record { ring = ring; pair = record { x = number_of a b; y = number_of c d } }) more (in_two a b bs.0 bs.1.0) (in_two c d bs.1.1.0 bs.1.1.1.0) h on)

  -- any corner's record
  at_corner : (ring : Ring) (left : List ℕ) → All Byte left → Onward at left → Parts at l (kind_byte (Corner ring) ∷ left)
  at_corner ring left bs on = go (cases_lt (length (pairs_in ring l)) most_corners) left bs on
    where
      short : length (pairs_in ring l) < most_corners → (more : List ℕ) → length more < 4 → Parts at l (kind_byte (Corner ring) ∷ more)
      short h more s = at_once at l (kind_byte (Corner ring) ∷ more) (Err (tells 13 at)) few (cut ring more refl h s refl)

      go : (length (pairs_in ring l) < most_corners) ⊎ (most_corners ≤ length (pairs_in ring l)) → (left : List ℕ) → All Byte left → Onward at left → Parts at l (kind_byte (Corner ring) ∷ left)
      go (inr h) left bs on = at_once at l (kind_byte (Corner ring) ∷ left) (Err (tells 2 at)) few (full ring left refl (omega (arith, few ring)) refl)
      go (inl h) [] bs on = short h [] (omega arith)
      go (inl h) (a ∷ []) bs on = short h (a ∷ []) (omega arith)
      go (inl h) (a ∷ b ∷ []) bs on = short h (a ∷ b ∷ []) (omega arith)
      go (inl h) (a ∷ b ∷ c ∷ []) bs on = short h (a ∷ b ∷ c ∷ []) (omega arith)
      go (inl h) (a ∷ b ∷ c ∷ d ∷ more) bs on = at_whole ring a b c d more bs h (λ m f. on m more (omega arith) bs.1.1.1.1 f)

  at_kind : (k : Kind) (left : List ℕ) → All Byte left → Onward at left → Parts at l (kind_byte k ∷ left)
  at_kind (Corner ring) left bs on = at_corner ring left bs on
  at_kind End left bs on = at_once at l (kind_byte End ∷ left) (Ok l) few (ended left refl refl)

  at_byte : (b : ℕ) (left : List ℕ) → All Byte left → Onward at left → Parts at l (b ∷ left)
  at_byte b left bs on = go (byte_back b)
    where
      go : ((k : Kind) → b ≡ kind_byte k → ⊥) ⊎ ((k : Kind) × (b ≡ kind_byte k)) → Parts at l (b ∷ left)
      go (inl n) = at_once at l (b ∷ left) (Err (tells 12 at)) few (strange b left refl n refl)
      go (inr p) = subst (λ x. Parts at l (x ∷ left)) (sym p.1) (at_kind p.0 left bs on)

splits : (n at : ℕ) (l : Lists) (left : List ℕ) → length left ≤ n → All Byte left → Few l → Parts at l left
splits n at l [] h bs few = at_once at l [] (Err (tells 13 at)) few (missing refl refl)
splits zero at l (b ∷ left) h bs few = absurd (omega arith)
splits (suc n) at l (b ∷ left) h bs few = at_byte at l few b left bs.1 (λ m more s bs f. splits n (at + 5) m more (omega arith) bs f)

pub few_none : Few none
few_none ring = grind arith

pub every_split : (bytes : List ℕ) → All (λ b. b < 256) bytes → Split bytes (read_job bytes)
every_split bytes bs =
    let p = splits (length bytes) 0 none bytes (omega arith) bs few_none in
    record {
      records = p.records;
      rest = p.rest;
      whole = p.whole;
      good = record { fine = p.fine; few = λ ring. omega (arith, p.few ring, ap length (ring_of ring p.records)) };
      front = subst (λ a. Front (rings_of p.records) a p.rest (read_job bytes)) (zero-add (length (written p.records))) p.front;
    }

-- the same for an answer that is what is read, of bytes that a machine holds
pub split_of : (bytes : List ℕ) (answer : Result Lists Told) → ((i : ℕ) → Fits w8 (get_or bytes i 0)) → answer ≡ read_job bytes → Split bytes answer
split_of bytes answer fits e = subst (Split bytes) (sym e) (every_split bytes (All-from_get_or (λ b. b < 256) bytes 0 (λ i h. (fits i).fits)))

pub reads_back : ReadsBack
reads_back rs more g = split_decides (written rs ++ kind_byte End ∷ more) (Ok (rings_of rs)) (record { records = rs; rest = kind_byte End ∷ more; whole = refl; good = g; front = ended more refl refl })

-- only good records and the end record are read without a refusal
pub written_of : (bytes : List ℕ) (l : Lists) → Split bytes (Ok l) → Written bytes l
written_of bytes l s = go s.front
  where
    go : Front (rings_of s.records) (length (written s.records)) s.rest (Ok l) → Written bytes l
    go (ended more w a) = record { records = s.records; more = more; whole = s.whole ∙ ap (λ x. written s.records ++ x) w; good = s.good; pairs = cc }
    go (missing w a) = grind arith
    go (strange b more w n a) = grind arith
    go (full ring more w h a) = grind arith
    go (cut ring more w h k a) = grind arith
    go (wild r more w h p q t a) = grind arith

pub only_so : OnlySo
only_so bytes l bs e = written_of bytes l (subst (Split bytes) e (every_split bytes bs))

-- the corners of one ring are its own, and none of the other's
own : (ring : Ring) (ps : List Pair) → of_ring ring (corners ring ps) ≡ ps
own ring [] = refl
own ring (p ∷ ps) = let e = own ring ps in grind (arith, common_steps)

not_other : (ring other : Ring) (ps : List Pair) → same_ring ring other ≡ false → of_ring ring (corners other ps) ≡ []
not_other ring other [] e = refl
not_other ring other (p ∷ ps) e = let f = not_other ring other ps e in grind (arith, common_steps)

rings_back : (l : Lists) → rings_of (corners One l.one ++ corners Two l.two) ≡ l
rings_back l = grind (arith, common_steps, own One l.one, own Two l.two, not_other One Two l.two refl, not_other Two One l.one refl)

pub lists_read_back : ListsReadBack
lists_read_back l more fine few =
    let rs = corners One l.one ++ corners Two l.two in
    let both = All-append (λ r. Fine r.pair) (corners One l.one) (corners Two l.two) (All-map (λ r. Fine r.pair) (λ p. record { ring = One; pair = p }) l.one (fine One)) (All-map (λ r. Fine r.pair) (λ p. record { ring = Two; pair = p }) l.two (fine Two)) in
    reads_back rs more (record { fine = both; few = λ ring. omega (arith, few ring, ap length (ring_of ring rs), ap (λ m. length (pairs_in ring m)) (rings_back l)) }) ∙ ap Ok (rings_back l)
