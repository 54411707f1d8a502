-- What a record remembers of its peer is as it was made.
use Rattle.std.proofs.Common.{◌≡◌, ap, ◌∙◌}
use Rattle.m2_journal.specs.Items.{items_of}
use Rattle.m2_journal.specs.Laws.{ReplaysAreSound}
use Rattle.m2_journal.specs.State.{State}
use Rattle.m2_session.specs.declared.session.Session.{Session}
use Rattle.m2_record.specs.IsRecord.{IsRecord}
use Rattle.m2_record.specs.RecordNow.{IsSessionOf, RecordNow, speaks_of}

pub is_session_of : (r : RecordNow) → ReplaysAreSound → IsRecord r → IsSessionOf r.core.facts r.core.live.session
is_session_of r law h =
    let replay = h.at_state.replay in
    let sound = (law r.core.facts (items_of (speaks_of r) r.journal) replay.lawful).session in
    let same : r.core.live.session ≡ _ = h.at_state.core.session ∙ ap (λ (s : State). s.session) replay.state in
    record {
      mine = ap (λ (s : Session). s.mine) same ∙ sound.mine;
      peer = ap (λ (s : Session). s.peer) same ∙ sound.peer;
      policy = ap (λ (s : Session). s.policy) same ∙ sound.policy;
    }
