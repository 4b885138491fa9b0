-- `job_reader::lists::write_breaks` meets its contract.
use Rattle.std.proofs.Common.{◌∙◌, arith}
use Rattle.std.proofs.lemmas.List.{set-get_or}
use Rattle.job_reader.proofs.WalkLaws.{kind_done, kind_next, sorted_next}
use Rattle.job_reader.proofs.Lent.{one_full, one_store, one_done}
use Rattle.job_reader.proofs.lists.write_breaks.Goals as goal
use Rattle.job_reader.proofs.lists.write_breaks.Goals.{else-loop-index-test, then-loop-index-test+in_default}

-- none of the kind is left: the lists are full, or none comes next
pub invariant_of-result : goal.invariant_of-result
invariant_of-result c = record {
  sorted =
      elim c.loop-index-test.branch [
        | else-loop-index-test w ↦
            rw c.requires.next_value (sorted_next _ _ c.loop-index.invariant.going.sorted
            (one_full c.loop-index.invariant.numbers (omega (arith, w.loop-index-test.false))))
        | then-loop-index-test+in_default w ↦
            rw c.requires.next_value (sorted_next _ _ c.loop-index.invariant.going.sorted
            (kind_done c.loop-index.invariant.going w.next_of.ensures w.in_default.is))
      ];
}

pub returns-clause-breaks_after : goal.returns-clause-breaks_after
returns-clause-breaks_after c =
    elim c.loop-index-test.branch [
      | else-loop-index-test w ↦
          w.breaks-is ∙ one_done c.loop-index.invariant.numbers
          (one_full c.loop-index.invariant.numbers (omega (arith, w.loop-index-test.false)))
      | then-loop-index-test+in_default w ↦
          w.breaks-is ∙ set-get_or _ _ 0 ∙ one_done c.loop-index.invariant.numbers
          (kind_done c.loop-index.invariant.going w.next_of.ensures w.in_default.is)
    ]

pub slice_bounds-s-count : goal.slice_bounds-s-count
slice_bounds-s-count c = (kind_next c.loop-index.invariant.going c.next_of.ensures c.in-Some.is).used.within

pub slice_bounds-s-start : goal.slice_bounds-s-start
slice_bounds-s-start c = omega (arith, (kind_next c.loop-index.invariant.going c.next_of.ensures c.in-Some.is).used.within)

pub break_of-requires : goal.break_of-requires
break_of-requires c = rw (kind_next c.loop-index.invariant.going c.next_of.ensures c.in-Some.is).rank_is c.requires.first_value

pub loop-index-preserved : goal.loop-index-preserved
loop-index-preserved c =
    let next = kind_next c.loop-index.invariant.going c.next_of.ensures c.in-Some.is in
    record {
      going = next.on;
      numbers = one_store c.loop-index.invariant.numbers next.head c.break_of.ensures;
    }
