-- `next` gives the first of the records that are left.
use Rattle.std.proofs.Common.{length, ap, arith, rules}
use Rattle.job_walk.proofs.WalkLaws.{walk_end, walk_used, walk_on}
use Rattle.job_walk.proofs.RecordsIterator.next.Goals as goal

pub returns-in_err-head-clause-steps : goal.returns-in_err-head-clause-steps
returns-in_err-head-clause-steps c =
    let none = walk_end c.args.self.now.rest.now c.next_record.ensures c.in_err-head.was in
    rw c.from_residual.ensures (none, none)

pub slice_bounds-self-count : goal.slice_bounds-self-count
slice_bounds-self-count c = (walk_used c.args.self.now.rest.now c.next_record.ensures c.in_ok-head.was).within

pub slice_bounds-self-start : goal.slice_bounds-self-start
slice_bounds-self-start c = omega (arith, (walk_used c.args.self.now.rest.now c.next_record.ensures c.in_ok-head.was).within)

pub returns-clause-steps : goal.returns-clause-steps
returns-clause-steps c = walk_on c.args.self.now.rest.now c.next_record.ensures c.in_ok-head.was

pub returns-clause-goes : goal.returns-clause-goes
returns-clause-goes c = let shorter = ap length (walk_on c.args.self.now.rest.now c.next_record.ensures c.in_ok-head.was) in search rules
