-- The turns of two records that are alike: their steps, one after another, and what these hand out. This project's own.
use Rattle.std.specs.Prelude.{◌≡◌, ◌≢◌, ℕ, List, Option, None}
use Rattle.m2_dispatch.specs.Heard.{Heard}
use Rattle.m2_dispatch.specs.declared.letter.Letter.{Letter}
use Rattle.m2_dispatch.specs.declared.parcel.Parcel.{Parcel}
use Rattle.m2_dispatch.specs.m2_shared.Gates.{Gate, places, words}
use Rattle.m2_dispatch.specs.m2_shared.Numbers.{SeenNumberPass}
use Rattle.m2_dispatch.specs.m2_shared.Place.{IsAlone}
use Rattle.m2_script.specs.m2_center.m2_core.CoreNow.{IsAskedIfSigned}
use Rattle.m2_script.specs.m2_center.m2_record.RecordNow.{RecordNow}
use Rattle.m2_script.specs.m2_center.m2_turn.Outbox.{OutboxNow}
use Rattle.m2_script.specs.m2_center.m2_turn.RecordTurn.{Means, Turning, TurnsAs}
use Rattle.m2_script.specs.m2_center.m2_turn.declared.record_turn.RecordTurn.{RecordTurn}
use Rattle.m2_script.specs.m2_center.m2_turn.declared.record_turn.RecordTurn.TheVariants as turn
use Rattle.m2_exact.specs.Cores.{FeedIsInMemory}
use Rattle.m2_exact.specs.Holding.{AreAlone}
use Rattle.m2_exact.specs.Records.{bare_numbers, plain}

-- Where parcels go, by what is printed of it: the calls that the dispatcher of fast kinds had, and the parcels that are in the mail or
-- held. What a dispatcher has besides is its own.
pub record PlainOut : Type 0 where
  pub fast : List Heard
  pub mail : List Parcel
  pub held : Option Letter

abbrev pub plain_out : {D : Type 0} → (D → List Heard) → OutboxNow D → PlainOut
plain_out heard o = record { fast = heard o.fast; mail = o.mail; held = o.held }

pub record PlainTurning : Type 0 where
  pub side : RecordNow
  pub out : PlainOut
  pub bytes : Gate → ℕ
  pub numbers : SeenNumberPass

abbrev pub plain_turning : {D : Type 0} → (D → List Heard) → Turning D → PlainTurning
plain_turning heard t = record { side = plain t.side; out = plain_out heard t.out; bytes = words t.bytes; numbers = bare_numbers t.numbers }

-- a record's feed is over an end in memory, and nothing was asked there before both sides had signed
pub record IsFit (r : RecordNow) : Type 0 where
  pub memory : FeedIsInMemory r.core
  pub asked : IsAskedIfSigned r.core.live.session.phase r.core.live.feed

-- no thread shares the words
pub record HasAlone (m : Means) : Type 0 where
  pub throttles : AreAlone (places m.throttles)
  pub counter : IsAlone m.counter

-- a turn that found memory, in its steps and for its letters
pub record Turned {D : Type 0} (heard : D → List Heard) (m : Means) (result : RecordTurn) (old new : Turning D) : Type 0 where
  pub turns : TurnsAs heard m result old new
  pub memory : result ≢ turn.NoMemory
  pub none_held : new.out.held ≡ None

-- Turns that begin alike end with the same, and leave what is alike; the record stays fit.
pub record LikeRecordsTurnAlike (D : Type 0) (heard : D → List Heard) : Type 0 where
  pub turns : (m : Means) (one other : RecordTurn) (old last new behind : Turning D) → HasAlone m → IsFit old.side → plain_turning heard old ≡ plain_turning heard last →
      Turned heard m one old new → Turned heard m other last behind → (one ≡ other) × (plain_turning heard new ≡ plain_turning heard behind)
  pub stays : (m : Means) (result : RecordTurn) (old new : Turning D) → IsFit old.side → Turned heard m result old new → IsFit new.side
