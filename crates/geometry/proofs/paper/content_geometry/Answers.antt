-- `content_geometry` returns what the definition says of margins that are absent, hold, or do not.
use Rattle.geometry.specs.Paper.{content_geometry}
use Rattle.geometry.proofs.paper.content_geometry.Goals as goal

pub returns-in_default : goal.returns-in_default
unfolding content_geometry
returns-in_default c = rw (c.default_content.ensures, c.in_default.is)

pub returns-then-margins_hold : goal.returns-then-margins_hold
unfolding content_geometry
returns-then-margins_hold c = rw (c.content_between.ensures, c.in-Some.is, ← c.margins_hold.ensures, c.if-margins_hold.true)

pub returns-else-margins_hold : goal.returns-else-margins_hold
unfolding content_geometry
returns-else-margins_hold c =
    rw (c.default_content-else-margins_hold.ensures, c.in-Some.is, ← c.margins_hold.ensures, c.if-margins_hold.false)
