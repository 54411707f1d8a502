use Rattle.m2_frame.specs.Reading.{whole}
use Rattle.m2_frame.specs.Text.{text_of}
use Rattle.m2_frame.proofs.Spelled.{item_text-judged}
use Rattle.m2_frame.proofs.Written.{text_of-written}
use Rattle.m2_frame.proofs.laws.a_written_frame_is_read.Goals as goal

pub returns-clause-read : goal.returns-clause-read
returns-clause-read c f more fits bytes = item_text-judged (whole f) (text_of f) more (text_of-written f fits bytes)

pub returns-clause-written : goal.returns-clause-written
returns-clause-written c = text_of-written
