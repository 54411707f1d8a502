use Rattle.std.proofs.Common.{sym, ◌∙◌}
use Rattle.m2_control.specs.Control.{tag_of}
use Rattle.m2_control.proofs.Numbering.{same_tag}
use Rattle.m2_control.proofs.control.Control.read.Goals as goal

pub returns-in-Some-clause-only : goal.returns-in-Some-clause-only
returns-in-Some-clause-only c = λ x spelled e. c.read_tagged.ensures.only x spelled (same_tag (tag_of x) c.in-Some.known (e ∙ sym c.in-Some.ensures.some))
