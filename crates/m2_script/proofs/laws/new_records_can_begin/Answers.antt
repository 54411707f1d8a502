use Rattle.m2_script.proofs.Bare.{bare_can_begin}
use Rattle.m2_script.proofs.laws.new_records_can_begin.Goals as goal

pub returns : goal.returns
returns c = λ nodes links lines sound k word x rs there is port bytes numbers unused. bare_can_begin nodes links lines sound k word rs is x there port bytes numbers unused
