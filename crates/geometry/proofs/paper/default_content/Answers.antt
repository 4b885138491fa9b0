-- `default_content` returns what the default margins leave: in units they are its three constants.
use Rattle.geometry.specs.Paper.{content_between, default_margins}
use Rattle.geometry.proofs.Constants.{default_side, default_end, default_line}
use Rattle.geometry.proofs.paper.default_content.Goals as goal

pub returns : goal.returns
unfolding content_between default_margins
returns c =
    rw (c.content_from.ensures, c.from_raw-side.ensures, c.from_raw-end.ensures, c.from_raw-line.ensures, default_side, default_end, default_line)
