-- A record has a feed where its phase has one, as the state has to which its journal leads.
use Rattle.std.proofs.Common.{◌≡◌, Option, Some, None, refl, sym, ap, subst, ◌∙◌}
use Rattle.std.specs.Option.{is_some}
use Rattle.m2_turn.specs.m2_core.Agrees.{FeedsAgree}
use Rattle.m2_bytes_fit.specs.m2_feed.FeedNow.{FeedNow}
use Rattle.m2_weave.specs.m2_journal.Items.{items_of}
use Rattle.m2_weave.specs.m2_journal.Laws as journal
use Rattle.m2_weave.specs.m2_journal.SideFacts.{SideFacts}
use Rattle.m2_weave.specs.m2_journal.State.{Feed, State}
use Rattle.m2_weave.proofs.m2_journal.Fed.{are_lawful}
use Rattle.m2_turn.specs.m2_session.declared.session.Session.{Session}
use Rattle.m2_turn.specs.m2_session.Phases.{is_among, with_feed}
use Rattle.m2_turn.specs.m2_record.IsRecord.{IsRecord}
use Rattle.m2_turn.specs.m2_record.RecordNow.{RecordNow, speaks_of}
use Rattle.m2_growth.specs.Records.{IsFed}

same_some : (f : SideFacts) (s : State) (v : Option FeedNow) (d : Option Feed) → FeedsAgree f s v d → is_some v ≡ is_some d
same_some f s (Some v) (Some d) agree = refl
same_some f s (Some v) None agree = absurd agree
same_some f s None (Some d) agree = absurd agree
same_some f s None None agree = refl

pub record_fed : (r : RecordNow) → IsRecord r → IsFed r
record_fed r h =
    same_some r.core.facts h.state r.core.live.feed h.state.feed h.at_state.core.feed ∙ fed
    ∙ ap (λ (s : Session). is_among s.phase with_feed) (sym h.at_state.core.session)
  where
    fed : journal.IsFed h.state
    fed = subst journal.IsFed (sym h.at_state.replay.state) (are_lawful.fed r.core.facts (items_of (speaks_of r) r.journal) h.at_state.replay.lawful)
