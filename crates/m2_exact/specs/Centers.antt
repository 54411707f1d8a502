-- The turns of two centers that are alike: each accepts, its halves and its records take their turns, and its mail is emptied. This
-- project's own.
use Rattle.std.specs.Prelude.{◌≡◌, ℕ, List, map, None, Ok, IsSome}
use Rattle.std.specs.List.{AllByRecursion}
use Rattle.m2_script.specs.m2_center.Center.{CenterNow}
use Rattle.m2_script.specs.m2_center.CenterTurn.{TakesTurn}
use Rattle.m2_script.specs.m2_center.Reaching.{waiting_at}
use Rattle.m2_dispatch.specs.Heard.{Heard}
use Rattle.m2_dispatch.specs.declared.letter.Letter.{Letter}
use Rattle.m2_dispatch.specs.m2_shared.Numbers.{SeenNumberPass}
use Rattle.m2_dispatch.specs.m2_shared.Gates.{Gate, words}
use Rattle.m2_fabric.specs.Kinds.{IsInMemory}
use Rattle.m2_fabric.specs.Port.{SeenPort}
use Rattle.m2_script.specs.m2_center.m2_turn.Halves.{AllHalves}
use Rattle.m2_script.specs.m2_center.m2_turn.Hearing.{IsHalfInMemory}
use Rattle.m2_script.specs.m2_center.m2_turn.RecordTurn.{Means}
use Rattle.m2_script.specs.m2_center.m2_record.RecordNow.{RecordNow}
use Rattle.m2_exact.specs.Accepts.{plain_halves}
use Rattle.m2_exact.specs.Records.{bare_numbers, plain}
use Rattle.m2_exact.specs.RecordTurns.{HasAlone, IsFit, PlainOut, plain_out}

-- A center by what is printed or decided by it: without room, without where the parts of asks lie, and of a dispatcher only what it
-- heard.
pub record PlainCenter : Type 0 where
  pub entity : ℕ
  pub port : SeenPort
  pub halves : AllHalves
  pub records : List RecordNow
  pub out : PlainOut
  pub waiting : List Letter
  pub queued : List Heard
  pub bytes : Gate → ℕ
  pub numbers : SeenNumberPass

abbrev pub plain_center : {D : Type 0} → (D → List Heard) → CenterNow D → PlainCenter
plain_center heard c = record {
  entity = c.entity;
  port = c.port;
  halves = plain_halves c.halves;
  records = map plain c.records;
  out = plain_out heard c.out;
  waiting = c.queued.waiting;
  queued = heard c.queued.inner;
  bytes = words c.bytes;
  numbers = bare_numbers c.numbers;
}

-- its records are fit; its port, the ends of its halves, and those that wait at the port are in memory
pub record IsFitCenter {D : Type 0} (c : CenterNow D) : Type 0 where
  pub records : AllByRecursion IsFit c.records
  pub halves : AllByRecursion IsHalfInMemory c.halves.pending
  pub port : IsSome c.port.waiting
  pub waits : AllByRecursion IsInMemory (waiting_at c.port)

-- Turns that begin alike, found memory, and after which no letter is held, leave what is alike, and the center stays fit.
pub record LikeCentersTurnAlike (E D : Type 0) (heard : D → List Heard) : Type 0 where
  pub turns : (m : Means) (old last new behind : CenterNow D) → HasAlone m → IsFitCenter old → plain_center heard old ≡ plain_center heard last → TakesTurn E heard m (Ok tt) old new →
      TakesTurn E heard m (Ok tt) last behind → new.out.held ≡ None → behind.out.held ≡ None → plain_center heard new ≡ plain_center heard behind
  pub stays : (m : Means) (old new : CenterNow D) → IsFitCenter old → TakesTurn E heard m (Ok tt) old new → new.out.held ≡ None → IsFitCenter new
