-- The slots that are found are the body.
use Rattle.std.proofs.Common.{◌≡◌, ℕ, ◌+◌, ap, ◌∙◌, arith}
use Rattle.planner_rules.specs.Slots.{below}
use Rattle.planner_rules.specs.Lent.{room_in}
use Rattle.planner_rules.proofs.PartitionLaws.{start_within, answers_empty, found_body}
use Rattle.planner.proofs.partition.partition_body.Goals as goal

pub returns-then-to-from : goal.returns-then-to-from
returns-then-to-from c =
    let a = c.args in
    let to_is = c.place_of-to.ensures.value ∙ ap (λ (k : ℕ). below (k + 1) a.slots.indexes.now) c.from.ensures in
    let zeros = c.default.ensures in
    let none : c.default.result ≡ record { runs = 0; expansions = 0; shifts = 0 } =
    λ i. record { runs = zeros.0 i; expansions = zeros.1.0 i; shifts = zeros.1.1 i } in
    rw none
    (answers_empty a.setup a.slots.indexes.now a.slots.sizes.now a.merges.firsts.now a.merges.lasts.now a.breaks.now a.list.now
    (omega (
      arith,
      c.if-to-from.true,
      c.place_of-from.ensures.value,
      ap (λ (k : ℕ). below k a.slots.indexes.now) c.body_start-start.ensures,
      to_is,
    )))

pub overflow_cast-frame : goal.overflow_cast-frame
overflow_cast-frame c =
    let a = c.args in
    let to_is = c.place_of-to.ensures.value ∙ ap (λ (k : ℕ). below (k + 1) a.slots.indexes.now) c.from.ensures in
    let within = start_within c.body_start-start.result a.setup.last a.slots.indexes.now
    (omega (arith, c.if-to-from.false, c.place_of-from.ensures.value, to_is)) in
    record { fits = omega (arith, within, c.well_formed) }

pub returns : goal.returns
returns c =
    let a = c.args in
    let to_is = c.place_of-to.ensures.value ∙ ap (λ (k : ℕ). below (k + 1) a.slots.indexes.now) c.from.ensures in
    found_body a.setup a.slots.indexes.now a.slots.sizes.now a.merges.firsts.now a.merges.lasts.now a.breaks.now c.body_start-start.result
    c.place_of-from.result c.place_of-to.result c.body_start-start.ensures c.place_of-from.ensures.value to_is (room_in a.list.now)
    c.partition_slots.result a.list.now _
    (rw (c.part.ensures.indexes_are, c.part.ensures.sizes_are) at c.partition_slots.ensures)
