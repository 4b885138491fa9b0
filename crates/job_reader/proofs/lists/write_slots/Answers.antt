-- `job_reader::lists::write_slots` meets its contract.
use Rattle.std.proofs.Common.{ap, arith}
use Rattle.job_reader.specs.declared.lists.Measured.{Measured}
use Rattle.job_reader.proofs.WalkLaws.{kind_done, kind_next, sorted_next}
use Rattle.job_reader.proofs.Lent.{one_full, one_store, one_done}
use Rattle.job_reader.proofs.lists.write_slots.Goals as goal
use Rattle.job_reader.proofs.lists.write_slots.Goals.{else-loop-k-test, then-loop-k-test+in_default}

-- none of the kind is left: the lists are full, or none comes next
pub invariant_of-result : goal.invariant_of-result
invariant_of-result c = record {
  sorted =
      elim c.loop-k-test.branch [
        | else-loop-k-test w ↦
            rw c.requires.next_value (sorted_next _ _ c.loop-k.invariant.going.sorted
            (one_full c.loop-k.invariant.indexes (omega (arith, w.loop-k-test.false))))
        | then-loop-k-test+in_default w ↦
            rw c.requires.next_value (sorted_next _ _ c.loop-k.invariant.going.sorted
            (kind_done c.loop-k.invariant.going w.next_of.ensures w.in_default.is))
      ];
}

pub returns-clause-indexes_after : goal.returns-clause-indexes_after
returns-clause-indexes_after c =
    elim c.loop-k-test.branch [
      | else-loop-k-test w ↦ one_done c.loop-k.invariant.indexes (one_full c.loop-k.invariant.indexes (omega (arith, w.loop-k-test.false)))
      | then-loop-k-test+in_default w ↦ one_done c.loop-k.invariant.indexes (kind_done c.loop-k.invariant.going w.next_of.ensures w.in_default.is)
    ]

pub returns-clause-sizes_after : goal.returns-clause-sizes_after
returns-clause-sizes_after c =
    elim c.loop-k-test.branch [
      | else-loop-k-test w ↦ one_done c.loop-k.invariant.sizes (one_full c.loop-k.invariant.sizes (omega (arith, w.loop-k-test.false)))
      | then-loop-k-test+in_default w ↦ one_done c.loop-k.invariant.sizes (kind_done c.loop-k.invariant.going w.next_of.ensures w.in_default.is)
    ]

pub slice_bounds-s-count : goal.slice_bounds-s-count
slice_bounds-s-count c = (kind_next c.loop-k.invariant.going c.next_of.ensures c.in-Some.is).used.within

pub slice_bounds-s-start : goal.slice_bounds-s-start
slice_bounds-s-start c = omega (arith, (kind_next c.loop-k.invariant.going c.next_of.ensures c.in-Some.is).used.within)

pub slot_of-slot-requires : goal.slot_of-slot-requires
slot_of-slot-requires c = rw (kind_next c.loop-k.invariant.going c.next_of.ensures c.in-Some.is).rank_is c.requires.first_value

pub loop-k-preserved : goal.loop-k-preserved
loop-k-preserved c =
    let next = kind_next c.loop-k.invariant.going c.next_of.ensures c.in-Some.is in
    record {
      going = next.on;
      indexes = one_store c.loop-k.invariant.indexes next.head (ap (λ (m : Measured). m.index) c.slot_of-slot.ensures);
      sizes = one_store c.loop-k.invariant.sizes next.head (ap (λ (m : Measured). m.size) c.slot_of-slot.ensures);
      still = record { indexes = c.loop-k.invariant.still.indexes; sizes = c.loop-k.invariant.still.sizes };
    }
