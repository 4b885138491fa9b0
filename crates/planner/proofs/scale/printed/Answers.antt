-- What a run takes of a page is what the section says: past the title, and not past it.
use Rattle.std.proofs.Common.{sym, ◌∙◌}
use Rattle.planner_rules.specs.Scale.{space_of}
use Rattle.planner_rules.proofs.ScaleLaws.{printed_past, printed_before}
use Rattle.planner.proofs.scale.printed.Goals as goal

pub returns-then-is_passed_by-clause-value : goal.returns-then-is_passed_by-clause-value
returns-then-is_passed_by-clause-value c =
    printed_past (space_of c.args.page.side) c.args.title c.args.first c.args.size (sym c.is_passed_by.ensures ∙ c.if-is_passed_by.true)

pub returns-clause-value : goal.returns-clause-value
returns-clause-value c =
    printed_before (space_of c.args.page.side) c.args.title c.args.first c.args.size (sym c.is_passed_by.ensures ∙ c.if-is_passed_by.false)
