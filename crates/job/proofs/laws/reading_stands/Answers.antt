-- The laws, each by its proof. Named on the function with `using`, these lemmas leave `decides` open.
use Rattle.job.proofs.Splits.{every_split, split_decides, reads_back, lists_read_back, only_so}
use Rattle.job.proofs.Prefixes as prefixes
use Rattle.job.proofs.laws.reading_stands.Goals as goal

pub returns : goal.returns
returns c = record { split = every_split; decides = split_decides; back = reads_back; lists = lists_read_back; only = only_so; enough = prefixes.enough }
