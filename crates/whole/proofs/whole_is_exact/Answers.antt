use Rattle.whole.proofs.Sides.{walk_slight, exact_side, exact_turn, exact_against, exact_passed}
use Rattle.whole.proofs.Meets.{exact_parallel, exact_crossing}
use Rattle.whole.proofs.Between.{exact_between}
use Rattle.whole.proofs.Shapes.{exact_meet}
use Rattle.whole.proofs.Inside.{exact_inside}
use Rattle.whole.proofs.whole_is_exact.Goals as goal

pub returns : goal.returns
returns c =
    record {
      slight = walk_slight;
      side = exact_side;
      turn = exact_turn;
      against = exact_against;
      parallel = exact_parallel;
      crossing = exact_crossing;
      between = exact_between;
      meet = exact_meet;
      passed = exact_passed;
      inside = exact_inside;
    }
