-- All that is promised of the journals and logs of a lossless link whose sides may be marked down, in one.
use Rattle.std.specs.Prelude.{◌≡◌, ◌≢◌, ℕ, ◌≤◌, true, false, ◌∷◌, ◌++◌, List}
use Rattle.m2_bytes_fit.specs.Orders.{OrderEntry, entries_of}
use Rattle.m2_channel.specs.Observed.{Logs}
use Rattle.m2_journal.specs.Items as item
use Rattle.m2_journal.specs.SideFacts.{SideFacts}
use Rattle.m2_journal.specs.m2_fabric.declared.socket.SocketId.{SocketId}
use Rattle.m2_journal.specs.m2_fabric.Sockets.{goes_to}
use Rattle.m2_channel.specs.Lossy.{IsByteOrder}
use Rattle.m2_never_reset.specs.Orders.{SideItem, near_item, far_item, near_after, far_after, AreNodes}
use Rattle.m2_lives.specs.LifeAfterLife.{BothComeInLives}
use Rattle.m2_lives.specs.ObservedLaws.{BothAcceptInLives, IsHistoryOfLives, accepted_in}
use Rattle.m2_lives.specs.ObservedRun.{AreBroughtInLives, AreLogsInLives}

-- What an entry counts as acknowledged, the other side has accepted by then in its life of the name of that which the entry's side is
-- in, and which isn't 0.
pub record AreAcknowledgedInLives (f g : SideFacts) (order : List SideItem) : Type 0 where
  pub near : (before more : List SideItem) (number : ℕ) → order ≡ before ++ near_item (item.acked number) ∷ more →
      ((near_after f before).life ≢ 0) × (number ≤ accepted_in (near_after f before).life (far_after g before))
  pub far : (before more : List SideItem) (number : ℕ) → order ≡ before ++ far_item (item.acked number) ∷ more →
      ((far_after g before).life ≢ 0) × (number ≤ accepted_in (far_after g before).life (near_after f before))

pub record AreInLives (f g : SideFacts) (order : List SideItem) (near_logs far_logs : Logs) : Type 0 where
  pub history : IsHistoryOfLives f g order
  -- each life of a side accepts from the one life of its name of the other
  pub accepted : BothAcceptInLives f g order
  pub acknowledged : AreAcknowledgedInLives f g order
  -- what is observed is a run of the channel with lives, in which no reset comes without a mark before it
  pub observed : AreBroughtInLives f g order near_logs far_logs
  -- what is heard comes life after life
  pub comes : BothComeInLives f g order near_logs far_logs

-- so it is in every order of a lossless link in which each byte was written before it is read at the other end
abbrev pub BytesComeInLives : Type 0
BytesComeInLives = (f g : SideFacts) (order : List OrderEntry) (near_logs far_logs : Logs) → AreNodes f g → ((k : SocketId) → goes_to f.peer k ≡ true → goes_to g.peer k ≡ false) →
    IsByteOrder f g order → AreLogsInLives f g (entries_of order) near_logs far_logs → AreInLives f g (entries_of order) near_logs far_logs
