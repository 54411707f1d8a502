-- What the two sides have in common stays at every kind of entry, of either side.
use Rattle.m2_journal.specs.Items as item
use Rattle.m2_never_reset.specs.CrossingLaws.{AnswersAreSteps}
use Rattle.m2_never_reset.specs.PairLaws.{PairedStays}
use Rattle.m2_never_reset.proofs.StaysResting.{posts_stay, dials_stay, acked_stays, closed_stays}
use Rattle.m2_never_reset.proofs.StaysWriting.{numbered_stays, wrote_stays}
use Rattle.m2_never_reset.proofs.StaysReading.{read_stays, obeyed_stays}
use Rattle.m2_never_reset.proofs.StaysAccepting.{accepted_stays}
use Rattle.m2_never_reset.proofs.StaysOpening.{opened_stays, asked_stays}
use Rattle.m2_never_reset.proofs.StaysJudging.{judged_stays}

pub paired_stays : AnswersAreSteps → PairedStays
paired_stays tables f g (item.post place planned) not_down = posts_stay f g place planned
paired_stays tables f g (item.dial planned) not_down = dials_stay f g planned
paired_stays tables f g (item.opened socket) not_down = opened_stays f g socket
paired_stays tables f g (item.read socket bytes) not_down = read_stays f g socket bytes
paired_stays tables f g (item.wrote socket bytes) not_down = wrote_stays f g socket bytes
paired_stays tables f g (item.closed socket broken) not_down = closed_stays f g socket broken
paired_stays tables f g (item.judged socket ask number answer unread trail) not_down =
    judged_stays tables f g socket ask number answer unread trail
paired_stays tables f g (item.asked by number) not_down = asked_stays f g by number
paired_stays tables f g (item.numbered number) not_down = numbered_stays f g number
paired_stays tables f g (item.accepted number key) not_down = accepted_stays f g number key
paired_stays tables f g (item.acked number) not_down = acked_stays f g number
paired_stays tables f g (item.obeyed full) not_down = obeyed_stays f g full
paired_stays tables f g (item.down planned step) not_down = elim not_down [ ]
