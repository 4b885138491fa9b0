-- The numbers are the page's: marks are written as 0 and 1.
use Rattle.yuzhbani_answers.specs.Numbers.{page_numbers}
use Rattle.yuzhbani_answers.proofs.NumberLaws.{as_bit}
use Rattle.yuzhbani_answers.proofs.page_numbers.Goals as goal

pub returns : goal.returns
unfolding page_numbers
returns c =
    let p = c.args.page in
    let row_body = as_bit p.rows.empty_body in
    let row_break = as_bit p.rows.manual_break in
    let column_body = as_bit p.columns.empty_body in
    let column_break = as_bit p.columns.manual_break in
    cc
