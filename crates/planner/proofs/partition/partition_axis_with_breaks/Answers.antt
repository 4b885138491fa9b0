-- A no refuses, and else the body is cut.
use Rattle.std.proofs.Common.{ℕ, ◌≤◌, ap, ◌∙◌, arith}
use Rattle.std.proofs.lemmas.Result.{err_from_is_err_and}
use Rattle.planner_rules.specs.declared.titles.Axis.{Axis}
use Rattle.planner_rules.specs.declared.titles.Axis.TheVariants.{Rows, Columns}
use Rattle.planner_rules.specs.Titles.{limit_of}
use Rattle.planner_rules.specs.Partition.{first_no, body_runs}
use Rattle.planner_rules.proofs.QuestionLaws.{positive}
use Rattle.planner_rules.proofs.PartitionLaws.{is_refused, is_asked, refuses}
use Rattle.planner.proofs.partition.partition_axis_with_breaks.Goals as goal

grid : (a : Axis) → limit_of a ≤ 1048575
unfolding limit_of
grid Rows = omega arith
grid Columns = omega arith

pub returns-in_err-partition_refusal : goal.returns-in_err-partition_refusal
returns-in_err-partition_refusal c =
    let a = c.args in
    let is = a.lists.slots.indexes.now in
    let ss = a.lists.slots.sizes.now in
    let fs = a.lists.merges.firsts.now in
    let ls = a.lists.merges.lasts.now in
    let r = c.in_err-partition_refusal.field-0.0 in
    let asked = c.in_err-partition_refusal.ensures ∙ ap (λ (n : ℕ). first_no n a.setup is ss fs ls) c.limit.ensures in
    let p = err_from_is_err_and c.from_residual.result c.from_residual.ensures.1 in
    rw (p.1, p.2)
    (refuses _ (body_runs a.setup is ss fs ls a.lists.breaks.now) r a.list.now (is_refused _ _ _ _ _ _ _ _ _ asked (positive r)))

pub of-slots-requires : goal.of-slots-requires
of-slots-requires c =
    let a = c.args in
    let is = a.lists.slots.indexes.now in
    let ss = a.lists.slots.sizes.now in
    let fs = a.lists.merges.firsts.now in
    let ls = a.lists.merges.lasts.now in
    let asked = c.in_ok-partition_refusal.ensures ∙ ap (λ (n : ℕ). first_no n a.setup is ss fs ls) c.limit.ensures in
    (is_asked (limit_of a.axis) a.setup is ss fs ls a.lists.breaks.now a.list.now _ asked (omega arith) (grid a.axis)).slots

pub returns : goal.returns
returns c =
    let a = c.args in
    let is = a.lists.slots.indexes.now in
    let ss = a.lists.slots.sizes.now in
    let fs = a.lists.merges.firsts.now in
    let ls = a.lists.merges.lasts.now in
    let asked = c.in_ok-partition_refusal.ensures ∙ ap (λ (n : ℕ). first_no n a.setup is ss fs ls) c.limit.ensures in
    rw (is_asked (limit_of a.axis) a.setup is ss fs ls a.lists.breaks.now a.list.now _ asked (omega arith) (grid a.axis)).goes_on
    (rw (c.of-slots.ensures.0, c.of-slots.ensures.1) at c.partition_body.ensures)
