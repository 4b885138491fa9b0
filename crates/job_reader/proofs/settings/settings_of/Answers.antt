-- `job_reader::settings::settings_of` meets its contract.
use Rattle.std.proofs.Common.{ap, ◌∙◌}
use Rattle.job_records.specs.Records.{LP, UC}
use Rattle.job_walk.specs.Areas.{limit_from}
use Rattle.job_walk.proofs.WalkLaws.{marked_in_place, all_areas}
use Rattle.job_reader.proofs.settings.settings_of.Goals as goal

pub returns : goal.returns
returns c =
    rw (
      c.number_of.ensures,
      c.is_there.ensures,
      c.margins_of.ensures,
      c.number_of-2.ensures,
      c.number_of-3.ensures,
      c.number_of-4.ensures,
      c.flag_of.ensures,
      c.flag_of-2.ensures,
      c.is_there-2.ensures,
      c.limit_of.ensures ∙ ap limit_from (marked_in_place LP c.args.job),
      c.limit_of-2.ensures ∙ ap limit_from (marked_in_place UC c.args.job),
      all_areas c.args.job c.requires _ c.areas_of.ensures,
      c.title_of.ensures,
      c.title_of-2.ensures,
    )
