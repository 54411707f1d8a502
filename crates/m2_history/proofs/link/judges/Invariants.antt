use Rattle.std.proofs.Common.{◌≡◌, map}
use Rattle.m2_fabric.specs.Sockets.{is_among}
use Rattle.m2_journal.specs.State.{Judgement}
use Rattle.m2_record.specs.TakenTrails.{judgements_in}
use Rattle.m2_history.proofs.link.judges.Given as goal

-- none of those so far
abbrev pub invariant-loop-e : goal.invariant-loop-e
invariant-loop-e l =
    is_among l.socket (map (λ (j : Judgement). j.socket) (judgements_in l.e-iterator))
    ≡ is_among l.socket (map (λ (j : Judgement). j.socket) (judgements_in l.journal.items))
