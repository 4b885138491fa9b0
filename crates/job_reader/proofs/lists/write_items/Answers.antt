-- `job_reader::lists::write_items` meets its contract: each kind of items is read from where the one before it ends.
use Rattle.std.proofs.Common.{ap, arith}
use Rattle.job_records.specs.Marks.{place}
use Rattle.job_reader.proofs.ReadingLaws.{kept_on, values_from}
use Rattle.job_reader.proofs.lists.write_items.Goals as goal

pub returns-clause-all_written : goal.returns-clause-all_written
returns-clause-all_written c =
    let rows = c.past_settings-rows.ensures.kept in
    let columns = kept_on rows c.write_slots-columns.ensures.kept (omega arith) in
    let merges = kept_on columns c.write_slots-merges.ensures.kept (omega arith) in
    let row_breaks = kept_on merges c.write_merges-row_breaks.ensures.kept (omega arith) in
    let column_breaks = kept_on row_breaks c.write_breaks-column_breaks.ensures.kept (omega arith) in
    record {
      row_indexes_are = values_from rows (ap place c.past_settings-rows.ensures.first) 0 _ c.write_slots-columns.ensures.indexes_after;
      row_sizes_are = values_from rows (ap place c.past_settings-rows.ensures.first) 1 _ c.write_slots-columns.ensures.sizes_after;
      column_indexes_are = values_from columns (ap place c.write_slots-columns.ensures.first) 0 _ c.write_slots-merges.ensures.indexes_after;
      column_sizes_are = values_from columns (ap place c.write_slots-columns.ensures.first) 1 _ c.write_slots-merges.ensures.sizes_after;
      merge_first_rows_are = values_from merges (ap place c.write_slots-merges.ensures.first) 0 _ c.write_merges-row_breaks.ensures.first_rows_after;
      merge_first_columns_are = values_from merges (ap place c.write_slots-merges.ensures.first) 1 _ c.write_merges-row_breaks.ensures.first_columns_after;
      merge_last_rows_are = values_from merges (ap place c.write_slots-merges.ensures.first) 2 _ c.write_merges-row_breaks.ensures.last_rows_after;
      merge_last_columns_are = values_from merges (ap place c.write_slots-merges.ensures.first) 3 _ c.write_merges-row_breaks.ensures.last_columns_after;
      row_breaks_are = values_from row_breaks (ap place c.write_merges-row_breaks.ensures.first) 0 _ c.write_breaks-column_breaks.ensures.breaks_after;
      column_breaks_are = values_from column_breaks (ap place c.write_breaks-column_breaks.ensures.first) 0 _ c.write_breaks.ensures.breaks_after;
    }
