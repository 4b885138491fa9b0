-- `job_reader::settings::margins_of` meets its contract.
use Rattle.std.proofs.Common.{◌≡◌, refl, ◌∙◌, rules}
use Rattle.job_records.specs.Records.{MG, rank}
use Rattle.job_reader.specs.Settings.{margins_from}
use Rattle.job_walk.proofs.WalkLaws.{looked_marked, from_none, from_one}
use Rattle.job_reader.proofs.settings.margins_of.Goals as goal

pub returns-in_err-margins : goal.returns-in_err-margins
returns-in_err-margins c = c.from_residual.ensures ∙ from_none (looked_marked MG c.args.job c.find_record.ensures) margins_from c.in_err-margins.was refl

-- a record with such a mark that is of no such kind
pub unreachable-requires : goal.unreachable-requires
unreachable-requires c =
    let ranked : rank c.in_ok-margins.field-0 ≡ MG = (looked_marked MG c.args.job c.find_record.ensures).ranked _ c.in_ok-margins.was in
    search rules

pub returns : goal.returns
returns c = from_one (looked_marked MG c.args.job c.find_record.ensures) margins_from c.in_ok-margins.was c.in-Margin.is (λ t. refl)
