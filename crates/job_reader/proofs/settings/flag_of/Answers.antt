-- `job_reader::settings::flag_of` meets its contract.
use Rattle.std.proofs.Common.{◌≡◌, ℕ, List, ◌∷◌, refl, true, ap, ◌∙◌, rules}
use Rattle.std.specs.Prelude.{Some}
use mathlib.Core.Logic.{◌⊎◌, inl, inr}
use Rattle.job_records.specs.declared.records.Record.{Record}
use Rattle.job_records.specs.declared.records.Record.TheVariants.{Fit, Order}
use Rattle.job_records.specs.Marks.{place}
use Rattle.job_records.specs.Records.{rank}
use Rattle.job_reader.specs.Settings.{flag_from}
use Rattle.job_reader.specs.Walk.{is_flag}
use Rattle.job_walk.proofs.WalkLaws.{looked_marked, from_none, from_one}
use Rattle.job_reader.proofs.settings.flag_of.Goals as goal

-- the flag of a record
flag_here : {r : Record} {x : ℕ} → (r ≡ Fit x) ⊎ (r ≡ Order x) → (t : List Record) → flag_from (r ∷ t) ≡ Some x
flag_here (inl i) t = rw i
flag_here (inr i) t = rw i

pub returns-in_err-x : goal.returns-in_err-x
returns-in_err-x c = c.from_residual.ensures ∙ from_none (looked_marked (place c.args.wanted) c.args.job c.find_record.ensures) flag_from c.in_err-x.was refl

-- a record with such a mark that is of no such kind
pub unreachable-requires : goal.unreachable-requires
unreachable-requires c =
    let l = looked_marked (place c.args.wanted) c.args.job c.find_record.ensures in
    let ranked : is_flag (rank c.in_ok-x.field-0) ≡ true = ap is_flag (l.ranked _ c.in_ok-x.was) ∙ c.requires in
    search rules

pub returns-in-Fit : goal.returns-in-Fit
returns-in-Fit c =
    let l = looked_marked (place c.args.wanted) c.args.job c.find_record.ensures in
    from_one l flag_from c.in_ok-x.was refl (flag_here c.in-Fit.is)

pub returns-in-Fit-2 : goal.returns-in-Fit-2
returns-in-Fit-2 c =
    let l = looked_marked (place c.args.wanted) c.args.job c.find_record.ensures in
    from_one l flag_from c.in_ok-x.was refl (flag_here c.in-Fit.is)
