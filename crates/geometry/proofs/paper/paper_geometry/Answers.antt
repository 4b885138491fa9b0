-- `paper_geometry` returns what its three helpers give, one after the other, as the definition has it.
use Rattle.geometry.specs.Paper.{paper_geometry}
use Rattle.geometry.proofs.paper.paper_geometry.Goals as goal

pub returns : goal.returns
unfolding paper_geometry
returns c = rw (c.turned.ensures, ← c.unwrap_or.ensures, ← c.resolved.ensures)
