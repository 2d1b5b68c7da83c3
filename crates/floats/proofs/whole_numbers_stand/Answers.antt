use Rattle.floats.proofs.Whole as whole
use Rattle.floats.proofs.whole_numbers_stand.Goals as goal

pub returns : goal.returns
returns c =
    record {
      held = whole.held;
      sum = whole.sum_whole;
      difference = whole.difference_whole;
      product = whole.product_whole;
      negation = whole.negation_whole;
      compared = whole.compared;
      same_difference = whole.same_difference;
      same_product = whole.same_product;
      minus_nought = whole.minus_nought;
    }
