-- A turn in which a center did nothing, and what a turn is said to have come to. This project's own.
use Rattle.std.specs.Prelude.{◌≡◌, ℕ, ◌+◌, ◌==◌, ◌&&◌, ◌||◌, not, if◌then◌else◌, Bool, true, false, List, [], ◌∷◌, length, Ok, Err}
use Rattle.std.specs.Option.{is_some}
use Rattle.m2_record.specs.RecordNow.{RecordNow}
use Rattle.m2_turn.specs.Handing.{handed_in}
use Rattle.m2_turn.specs.Mailing.{is_mailed}
use Rattle.m2_center.specs.declared.counting.Count.{Count}
use Rattle.m2_center.specs.declared.turning.CenterTurn.{CenterTurn}
use Rattle.m2_center.specs.declared.turning.CenterTurn.TheVariants as turn
use Rattle.m2_center.specs.Center.{CenterNow}
use Rattle.m2_center.specs.CenterTurn.{Answer, mailing_in}

-- how many entries stand in the journals of these records
abbrev pub entries_in : List RecordNow → ℕ
entries_in [] = 0
entries_in (r ∷ rs) = length r.journal + entries_in rs

-- what a center has done by now, and whether something waits to be handed on
abbrev pub count_in : {D : Type 0} → CenterNow D → Count
count_in c = record {
  entries = entries_in c.records;
  sockets = length c.port.made;
  mailed = is_mailed (mailing_in c);
  holding = is_some c.out.held;
}

-- There is no entry and no socket more; nothing waited in the mail or in the queue, and a letter that was held is held still.
abbrev pub is_still : (before behind : Count) → Bool
is_still before behind =
    (behind.entries == before.entries) && (behind.sockets == before.sockets) && before.mailed && (not before.holding || behind.holding)

-- A turn in which nothing was done: no entry was made in a journal, no socket was accepted or opened, and nothing was handed on, by
-- a record, into the queue or to a dispatcher. Journals, the sockets of a port and the parcels that were handed out only grow.
abbrev pub is_dry : {D : Type 0} → (old new : CenterNow D) → Bool
is_dry old new = is_still (count_in old) (count_in new) && (handed_in new.records == handed_in old.records)

-- Dry exactly where nothing was done, as long as memory lasted
abbrev pub SaysTurn : {D : Type 0} → CenterTurn → (old new : CenterNow D) → Type 0
SaysTurn turn.Moved old new = is_dry old new ≡ false
SaysTurn turn.Dry old new = is_dry old new ≡ true
SaysTurn turn.NoMemory old new = Unit {0}

-- by whether memory lasted, whether a record handed a parcel out, and whether nothing else was done
abbrev pub ended_so : Answer → (handed still : Bool) → CenterTurn
ended_so (Err e) handed still = turn.NoMemory
ended_so (Ok u) handed still = if handed || not still then turn.Moved else turn.Dry
