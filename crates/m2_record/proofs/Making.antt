-- A new record is the replay of no entries.
use Rattle.std.proofs.Common.{ℕ, [], refl, arith}
use Rattle.m2_core.specs.Waits.{AreWaits}
use Rattle.m2_core.specs.Agrees.{Agrees}
use Rattle.m2_core.specs.CoreNow.{at_start}
use Rattle.m2_journal.specs.SideFacts.{SideFacts}
use Rattle.m2_journal.specs.State.{start}
use Rattle.m2_shared.specs.declared.peer_type.PeerType.{PeerType}
use Rattle.m2_record.specs.IsRecord.{IsRecord, new_record}
use Rattle.m2_record.specs.RecordNow.{Rooms}
use Rattle.m2_record.proofs.Kept.{first-within}
use Rattle.m2_bytes.proofs.m2_lemmas.Booleans.{false_isnt_true}

pub new-is-record : (f : SideFacts) (place : ℕ) (peer : PeerType) (room : Rooms) → AreWaits f.node → Agrees (at_start f peer) (start f) → IsRecord (record (new_record f place peer) { room = room })
new-is-record f place peer room w a = record {
  state = start f;
  at_state = record {
    replay = record {
      lawful = tt;
      covering = record { steps = omega arith; read = λ k. refl; written = λ k. refl; runs = λ k. refl };
      state = refl;
    };
    core = a;
    steps = refl;
    reach = refl;
    parcels = ([], refl, refl);
    spent = tt;
    feed = tt;
    room = tt;
    few = omega arith;
  };
  settled = refl;
  closed = refl;
  trails = record { sockets = refl; each = tt };
  kept = record {
    ends = refl;
    whole = tt;
    parcels = tt;
    plan = tt;
    queue = record { kept = tt; waiting = tt };
    waits = first-within f.node w;
    held = λ e. absurd (false_isnt_true e);
  };
}
