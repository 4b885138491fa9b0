-- `job_reader::settings::is_there` meets its contract.
use Rattle.std.proofs.Common.{◌≡◌, refl, ap, ◌∙◌, List, [], ◌∷◌}
use Rattle.std.specs.Prelude.{is_some}
use Rattle.job_records.specs.Marks.{place}
use Rattle.job_records.specs.Records.{records, marked}
use Rattle.job_records.specs.declared.records.Record.{Record}
use Rattle.job_walk.specs.Walk.{first_of}
use Rattle.job_walk.proofs.WalkLaws.{looked_marked}
use Rattle.job_reader.specs.Settings.{is_there}
use Rattle.job_reader.proofs.settings.is_there.Goals as goal

one_there : (rs : List Record) → is_some (first_of rs) ≡ is_there rs
one_there [] = refl
one_there (r ∷ rs) = refl

pub returns : goal.returns
returns c =
    c.is_some.ensures
    ∙ ap is_some (looked_marked (place c.args.wanted) c.args.job c.find_record.ensures).is
    ∙ one_there (marked (place c.args.wanted) (records c.args.job.bytes.now))
