-- `job_reader::settings::number_of` meets its contract.
use Rattle.std.proofs.Common.{◌≡◌, ℕ, List, ◌∷◌, refl, true, ap, ◌∙◌, rules}
use Rattle.std.specs.Prelude.{Some}
use mathlib.Core.Logic.{◌⊎◌, inl, inr}
use Rattle.job_records.specs.declared.records.Record.{Record}
use Rattle.job_records.specs.declared.records.Record.TheVariants.{Paper, Scale, Wide, High}
use Rattle.job_records.specs.Marks.{place}
use Rattle.job_records.specs.Records.{rank}
use Rattle.job_reader.specs.Settings.{number_from}
use Rattle.job_reader.specs.Walk.{is_number}
use Rattle.job_walk.proofs.WalkLaws.{looked_marked, from_none, from_one}
use Rattle.job_reader.proofs.settings.number_of.Goals as goal

-- the number of a record
number_here : {r : Record} {x : ℕ} → (r ≡ Paper x) ⊎ ((r ≡ Scale x) ⊎ ((r ≡ Wide x) ⊎ (r ≡ High x))) → (t : List Record) → number_from (r ∷ t) ≡ Some x
number_here (inl i) t = rw i
number_here (inr (inl i)) t = rw i
number_here (inr (inr (inl i))) t = rw i
number_here (inr (inr (inr i))) t = rw i

pub returns-in_err-x : goal.returns-in_err-x
returns-in_err-x c = c.from_residual.ensures ∙ from_none (looked_marked (place c.args.wanted) c.args.job c.find_record.ensures) number_from c.in_err-x.was refl

-- a record with such a mark that is of no such kind
pub unreachable-requires : goal.unreachable-requires
unreachable-requires c =
    let l = looked_marked (place c.args.wanted) c.args.job c.find_record.ensures in
    let ranked : is_number (rank c.in_ok-x.field-0) ≡ true = ap is_number (l.ranked _ c.in_ok-x.was) ∙ c.requires in
    search rules

pub returns-in-Paper : goal.returns-in-Paper
returns-in-Paper c =
    let l = looked_marked (place c.args.wanted) c.args.job c.find_record.ensures in
    from_one l number_from c.in_ok-x.was refl (number_here c.in-Paper.is)

pub returns-in-Paper-2 : goal.returns-in-Paper-2
returns-in-Paper-2 c =
    let l = looked_marked (place c.args.wanted) c.args.job c.find_record.ensures in
    from_one l number_from c.in_ok-x.was refl (number_here c.in-Paper.is)

pub returns-in-Paper-3 : goal.returns-in-Paper-3
returns-in-Paper-3 c =
    let l = looked_marked (place c.args.wanted) c.args.job c.find_record.ensures in
    from_one l number_from c.in_ok-x.was refl (number_here c.in-Paper.is)

pub returns-in-Paper-4 : goal.returns-in-Paper-4
returns-in-Paper-4 c =
    let l = looked_marked (place c.args.wanted) c.args.job c.find_record.ensures in
    from_one l number_from c.in_ok-x.was refl (number_here c.in-Paper.is)
