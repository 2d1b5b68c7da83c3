-- What single precision answers to each question. Assumes nothing.
use Rattle.std.specs.Prelude.{Float}
use Rattle.plane.specs.declared.pair.Pair.{Pair}
use Rattle.plane.specs.declared.mark.Mark.{Mark}
use Rattle.plane.specs.Meaning.{Meaning}
use Rattle.plane.specs.Marks.{end_of}
use Rattle.single.specs.declared.tolerance.Single.{Single}
use Rattle.single.specs.declared.corner.Corner.{Corner}
use Rattle.single.specs.declared.corner.Weights.{Weights}
use Rattle.single.specs.declared.corner.Point.{Point}
use Rattle.single.specs.Admitted.{admitted}
use Rattle.single.specs.Triangle.{orientation_of, turn_of, against_of, passed_of}
use Rattle.single.specs.Marks.{not_after, point_at, point_of}
use Rattle.single.specs.Meets.{meet_of}

-- the arithmetic's value carries the tolerance
abbrev pub single : Meaning Single (Pair Float) Corner (Mark Weights) Point
single = record {
  admitted = admitted;
  side = λ s a b c. orientation_of a b c s.tolerance;
  meet = λ s a b c d. meet_of a b c d s.tolerance;
  not_after = λ _ m n. not_after m n;
  passed = λ _ p a b. passed_of p a b;
  turn = λ s a b c d. turn_of a b c d s.tolerance;
  against = λ _ a b c d. against_of a b c d;
  end_of = λ _ m. end_of m;
  point_at = λ _ a b m. point_at a b m;
  point_of = λ _ c. point_of c;
}
