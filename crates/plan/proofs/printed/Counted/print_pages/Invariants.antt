-- No page is printed past the plan's count; what is left of it falls.
use Rattle.std.proofs.Common.{◌-◌, ◌≤◌, ◌≡◌}
use Rattle.plan.proofs.printed.Counted.print_pages.Given as goal

abbrev pub invariant-loop-done : goal.invariant-loop-done
invariant-loop-done g l = (l.self.plan.pages ≡ l.pages) × (l.done ≤ l.pages)

abbrev pub decreases-loop-done : goal.decreases-loop-done
decreases-loop-done g l = l.pages - l.done
