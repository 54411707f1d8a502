-- What becomes of ends in memory where nodes act and something passes between them.
use Rattle.m2_growth.specs.AskLaws.{ArrivalsAreTheOpeners}
use Rattle.m2_growth.specs.InStepLaws.{CallsKeepEnds, FaultsStayMet, FlowsStayMet, MeetingsStayMet, TurnsKeepEnds, TurnsStayInStep, TurnsStayMet}

-- Behind turns, meetings, flows and faults the two ends of each socket are in step: what an open end has got, followed by what is
-- readable there, is what flowed of what the other has put; all that came to an end the other had put; and each socket that a port made
-- has its end still. So what a half hands on to be judged is under the address of the node that opened its socket.
pub record EndsStayInStep : Type 0 where
  pub in_step : TurnsStayInStep
  pub turns : TurnsStayMet
  pub turns_keep : TurnsKeepEnds
  pub meetings : MeetingsStayMet
  pub flows : FlowsStayMet
  pub faults : FaultsStayMet
  pub calls_keep : CallsKeepEnds
  pub arrivals : ArrivalsAreTheOpeners
