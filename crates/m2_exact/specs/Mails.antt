-- The mails of two centers that are alike, emptied. This project's own.
use Rattle.std.specs.Prelude.{◌≡◌, ◌≢◌, ℕ, List}
use Rattle.m2_dispatch.specs.Heard.{Heard}
use Rattle.m2_dispatch.specs.declared.letter.Letter.{Letter}
use Rattle.m2_dispatch.specs.m2_shared.Gates.{Gate, Places, words}
use Rattle.m2_script.specs.m2_center.m2_turn.Mailing.{Mailing, Mails}
use Rattle.m2_script.specs.m2_center.m2_turn.declared.mailing.Mailed.{Mailed}
use Rattle.m2_script.specs.m2_center.m2_turn.declared.mailing.Mailed.TheVariants as mailed
use Rattle.m2_exact.specs.Holding.{AreAlone}
use Rattle.m2_exact.specs.RecordTurns.{PlainOut, plain_out}

-- where parcels go, the letters that wait in the queue, and the calls that its dispatcher had
pub record PlainMailing : Type 0 where
  pub out : PlainOut
  pub waiting : List Letter
  pub queued : List Heard
  pub bytes : Gate → ℕ

abbrev pub plain_mailing : {D : Type 0} → (D → List Heard) → Mailing D → PlainMailing
plain_mailing heard m = record {
  out = plain_out heard m.out;
  waiting = m.queue.queued.waiting;
  queued = heard m.queue.queued.inner;
  bytes = words m.queue.bytes;
}

-- Mails that are alike are emptied alike, where memory lasts and no thread shares the words of the throttles.
pub record LikeMailsEmptyAlike (D : Type 0) (heard : D → List Heard) : Type 0 where
  pub mails : (places : Places) (one other : Mailed) (old last new behind : Mailing D) → AreAlone places → plain_mailing heard old ≡ plain_mailing heard last → one ≢ mailed.NoMemory →
      other ≢ mailed.NoMemory → Mails heard places one old new → Mails heard places other last behind → (one ≡ other) × (plain_mailing heard new ≡ plain_mailing heard behind)
