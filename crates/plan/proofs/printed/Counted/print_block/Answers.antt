-- `plan::printed::Counted::print_block` meets its contract: a block holds a page, and none past the plan's count.
use Rattle.std.proofs.Common.{arith, rules, ◌≡◌, Ok}
use Rattle.job_report.proofs.WholeLaws.{block_told}
use Rattle.plan.proofs.printed.Counted.print_block.Goals as goal

pub returns : goal.returns
returns g c =
    let is : c.area_block-answer.result ≡ Ok c.in_ok-pages.field-0 = search rules in
    let got = block_told _ _ _ _ _ _ _ (rw is at c.area_block-answer.ensures) in
    record { some = got.1.some; to_count = omega (arith, got.1.to_count) }
