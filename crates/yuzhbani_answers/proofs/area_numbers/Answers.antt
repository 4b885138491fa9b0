-- An area is had back from its numbers.
use Rattle.std.proofs.Common.{rules}
use Rattle.yuzhbani_answers.proofs.NumberLaws.{area_back}
use Rattle.yuzhbani_answers.proofs.area_numbers.Goals as goal

pub returns-clause-area_back : goal.returns-clause-area_back
returns-clause-area_back c = area_back c.args.area (search rules)
