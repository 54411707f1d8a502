-- What tells an owner owns nothing, so it may go to any thread.
use denote.RattleType.{RattleType}
use denote.Param.Send.{IsSend}
use Rattle.m2_mailbox.specs.contracts.slip.Told.{the_row}

pub send : (O : RattleType) → IsSend (the_row O)
send O = record { owned = λ d vs. ((λ vss. (tt, ((λ uss. (tt, tt)), tt))), tt); leaving = λ k f vs. tt }
