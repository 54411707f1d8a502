-- A center that has nothing to do. This project's own.
use Rattle.std.specs.Prelude.{ℕ, ◌&&◌, not, Bool}
use Rattle.std.specs.List.{list_all, list_any}
use Rattle.std.specs.Option.{is_some}
use Rattle.m2_center.specs.Center.{CenterNow}
use Rattle.m2_center.specs.CenterTurn.{mailing_in}
use Rattle.m2_turn.specs.Busy.{is_busy}
use Rattle.m2_turn.specs.Mailing.{is_mailed}
use Rattle.m2_turn.specs.RecordsTurn as records

-- the port's last accept found no socket, and no half is busy
abbrev pub is_unheard : {D : Type 0} → CenterNow D → Bool
is_unheard c = c.port.quiet && not (list_any is_busy c.halves.pending)

-- each record is idle at this moment
abbrev pub are_idle : {D : Type 0} → (now : ℕ) → CenterNow D → Bool
are_idle now c = list_all (records.is_idle now) c.records

-- no letter is held or waits, and no parcel is in the mail
abbrev pub is_delivered : {D : Type 0} → CenterNow D → Bool
is_delivered c = not (is_some c.out.held) && is_mailed (mailing_in c)

abbrev pub is_idle : {D : Type 0} → (now : ℕ) → CenterNow D → Bool
is_idle now c = is_unheard c && are_idle now c && is_delivered c
