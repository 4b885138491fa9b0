-- Four numbers that are stored one after another stand there.
use Rattle.std.proofs.Common.{cond, ◌∙◌}
use Rattle.planner_rules.proofs.Lent.{four_stored}
use Rattle.planner_rules.proofs.EndLaws.{bit_is}
use Rattle.planner.proofs.runs.put_run.Goals as goal

pub returns-clause-list_after : goal.returns-clause-list_after
returns-clause-list_after c =
    let a = c.args in
    rw (c.from.ensures, c.from-2.ensures, c.from-3.ensures ∙ bit_is a.mark) (four_stored a.list.now a.at a.first a.last a.size (cond a.mark 1 0) c.requires)
