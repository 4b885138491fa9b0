-- `resolved` finds the row of the table, which is the definition's list.
use Rattle.std.proofs.Common.{◌≡◌, ap, sym, ◌∙◌, rules}
use Rattle.std.specs.Prelude.{◌==◌, option_map}
use Rattle.std.specs.List.{find}
use Rattle.std.proofs.lemmas.Iterator.{YieldsList-from_slice}
use Rattle.std.proofs.lemmas.Iterator.Search.{find_from_yields_List}
use borrow.Author.Tests.{tests}
use Rattle.units.specs.Outcome.{given}
use Rattle.geometry.proofs.Sheets.{table, table_is, paper_by, found_by}
use Rattle.geometry.proofs.paper.resolved.Goals as goal

pub returns-in-Some : goal.returns-in-Some
returns-in-Some c =
    let n = c.args.code in
    let e : option_map (λ y. y.now) c.find.result ≡ find (λ r. r.0 == n) table =
    find_from_yields_List (λ r. r.0 == n) _ _ _ c.find.ensures.ran (YieldsList-from_slice table c.iter.ensures.rest) (λ x b q k. search (rules, tests)) in
    ap given c.upright.ensures ∙ ap (λ o. paper_by (option_map (λ y. y.now) o)) (sym c.in-Some.is) ∙ ap paper_by e ∙ found_by n table ∙ table_is n

pub returns-in-None : goal.returns-in-None
returns-in-None c =
    let n = c.args.code in
    let e : option_map (λ y. y.now) c.find.result ≡ find (λ r. r.0 == n) table =
    find_from_yields_List (λ r. r.0 == n) _ _ _ c.find.ensures.ran (YieldsList-from_slice table c.iter.ensures.rest) (λ x b q k. search (rules, tests)) in
    ap given c.upright-in-None.ensures ∙ ap (λ o. paper_by (option_map (λ y. y.now) o)) (sym c.in-None.is) ∙ ap paper_by e ∙ found_by n table ∙ table_is n
