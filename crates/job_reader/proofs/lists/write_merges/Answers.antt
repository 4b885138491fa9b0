-- `job_reader::lists::write_merges` meets its contract.
use Rattle.std.proofs.Common.{ap, ◌∙◌, arith}
use Rattle.job_records.specs.declared.records.Range.{Range}
use Rattle.job_reader.proofs.WalkLaws.{kind_done, kind_next, sorted_next}
use Rattle.job_reader.proofs.Lent.{one_full, one_store, one_done}
use Rattle.job_reader.proofs.lists.write_merges.Goals as goal
use Rattle.job_reader.proofs.lists.write_merges.Goals.{else-loop-k-test, then-loop-k-test+in_default}

-- none of the kind is left: the lists are full, or none comes next
pub invariant_of-result : goal.invariant_of-result
invariant_of-result c = record {
  sorted =
      elim c.loop-k-test.branch [
        | else-loop-k-test w ↦
            rw c.requires.first_value at (sorted_next _ _ c.loop-k.invariant.going.sorted
            (one_full c.loop-k.invariant.first_rows (omega (arith, w.loop-k-test.false))))
        | then-loop-k-test+in_default w ↦
            rw c.requires.first_value at (sorted_next _ _ c.loop-k.invariant.going.sorted
            (kind_done c.loop-k.invariant.going w.next_of.ensures w.in_default.is))
      ];
}

pub returns-clause-first_rows_after : goal.returns-clause-first_rows_after
returns-clause-first_rows_after c =
    elim c.loop-k-test.branch [
      | else-loop-k-test w ↦ one_done c.loop-k.invariant.first_rows (one_full c.loop-k.invariant.first_rows (omega (arith, w.loop-k-test.false)))
      | then-loop-k-test+in_default w ↦ one_done c.loop-k.invariant.first_rows (kind_done c.loop-k.invariant.going w.next_of.ensures w.in_default.is)
    ]

pub returns-clause-first_columns_after : goal.returns-clause-first_columns_after
returns-clause-first_columns_after c =
    elim c.loop-k-test.branch [
      | else-loop-k-test w ↦ one_done c.loop-k.invariant.first_columns (one_full c.loop-k.invariant.first_columns (omega (arith, w.loop-k-test.false)))
      | then-loop-k-test+in_default w ↦ one_done c.loop-k.invariant.first_columns (kind_done c.loop-k.invariant.going w.next_of.ensures w.in_default.is)
    ]

pub returns-clause-last_rows_after : goal.returns-clause-last_rows_after
returns-clause-last_rows_after c =
    elim c.loop-k-test.branch [
      | else-loop-k-test w ↦ one_done c.loop-k.invariant.last_rows (one_full c.loop-k.invariant.last_rows (omega (arith, w.loop-k-test.false)))
      | then-loop-k-test+in_default w ↦ one_done c.loop-k.invariant.last_rows (kind_done c.loop-k.invariant.going w.next_of.ensures w.in_default.is)
    ]

pub returns-clause-last_columns_after : goal.returns-clause-last_columns_after
returns-clause-last_columns_after c =
    elim c.loop-k-test.branch [
      | else-loop-k-test w ↦ one_done c.loop-k.invariant.last_columns (one_full c.loop-k.invariant.last_columns (omega (arith, w.loop-k-test.false)))
      | then-loop-k-test+in_default w ↦ one_done c.loop-k.invariant.last_columns (kind_done c.loop-k.invariant.going w.next_of.ensures w.in_default.is)
    ]

pub slice_bounds-s-count : goal.slice_bounds-s-count
slice_bounds-s-count c = (kind_next c.loop-k.invariant.going c.next_of.ensures c.in-Some.is).used.within

pub slice_bounds-s-start : goal.slice_bounds-s-start
slice_bounds-s-start c = omega (arith, (kind_next c.loop-k.invariant.going c.next_of.ensures c.in-Some.is).used.within)

pub cells_of-cells-requires : goal.cells_of-cells-requires
cells_of-cells-requires c = (kind_next c.loop-k.invariant.going c.next_of.ensures c.in-Some.is).rank_is ∙ c.requires.first_value

pub loop-k-preserved : goal.loop-k-preserved
loop-k-preserved c =
    let next = kind_next c.loop-k.invariant.going c.next_of.ensures c.in-Some.is in
    record {
      going = next.on;
      first_rows = one_store c.loop-k.invariant.first_rows next.head (ap (λ (m : Range). m.first_row) c.cells_of-cells.ensures);
      first_columns = one_store c.loop-k.invariant.first_columns next.head (ap (λ (m : Range). m.first_column) c.cells_of-cells.ensures);
      last_rows = one_store c.loop-k.invariant.last_rows next.head (ap (λ (m : Range). m.last_row) c.cells_of-cells.ensures);
      last_columns = one_store c.loop-k.invariant.last_columns next.head (ap (λ (m : Range). m.last_column) c.cells_of-cells.ensures);
      rows_still = record { firsts = c.loop-k.invariant.rows_still.firsts; lasts = c.loop-k.invariant.rows_still.lasts };
      columns_still = record { firsts = c.loop-k.invariant.columns_still.firsts; lasts = c.loop-k.invariant.columns_still.lasts };
    }
