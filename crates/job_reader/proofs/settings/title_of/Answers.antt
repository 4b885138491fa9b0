-- `job_reader::settings::title_of` meets its contract.
use Rattle.std.proofs.Common.{◌≡◌, refl, true, ap, ◌∙◌, rules}
use Rattle.job_records.specs.Marks.{place}
use Rattle.job_records.specs.Records.{rank}
use Rattle.job_reader.specs.Settings.{title_from}
use Rattle.job_reader.specs.Walk.{is_title}
use Rattle.job_walk.proofs.WalkLaws.{looked_marked, from_none, from_one}
use Rattle.job_reader.proofs.settings.title_of.Goals as goal

pub returns-in_default : goal.returns-in_default
returns-in_default c =
    from_none (looked_marked (place c.args.wanted) c.args.job c.find_record.ensures) title_from c.in_default.is refl

-- a record with such a mark that is of no such kind
pub unreachable-requires : goal.unreachable-requires
unreachable-requires c =
    let l = looked_marked (place c.args.wanted) c.args.job c.find_record.ensures in
    let ranked : is_title (rank c.in-Some.found) ≡ true = ap is_title (l.ranked _ c.in-Some.is) ∙ c.requires in
    search rules

pub returns-in-TitleRows : goal.returns-in-TitleRows
returns-in-TitleRows c =
    from_one (looked_marked (place c.args.wanted) c.args.job c.find_record.ensures) title_from c.in-Some.is c.in-TitleRows.is (λ t. refl)

pub returns-in-TitleColumns : goal.returns-in-TitleColumns
returns-in-TitleColumns c =
    rw (c.from.ensures, c.from-in-TitleColumns.ensures)
    (from_one (looked_marked (place c.args.wanted) c.args.job c.find_record.ensures) title_from c.in-Some.is c.in-TitleColumns.is (λ t. refl))
