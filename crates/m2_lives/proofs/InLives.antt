-- All that is promised of a lossless link with mark-downs, by the laws that say the parts.
use Rattle.std.proofs.Common.{◌≡◌, List, [], ◌∷◌, ◌++◌, sym, subst, append_assoc}
use Rattle.m2_channel.proofs.Orders.{fit_first, lawful_first}
use Rattle.m2_journal.specs.Items as item
use Rattle.m2_journal.specs.Replay.{AreLawful}
use Rattle.m2_journal.specs.SideFacts.{SideFacts}
use Rattle.m2_journal.specs.State.{start}
use Rattle.m2_never_reset.specs.Orders.{SideItem, near_item, far_item, near_items, far_items, AreNodes}
use Rattle.m2_never_reset.proofs.Sided.{far_append, near_append}
use Rattle.m2_bytes_fit.specs.Orders.{entries_of}
use Rattle.m2_lives.specs.InLives.{AreAcknowledgedInLives, BytesComeInLives}
use Rattle.m2_lives.specs.LifeAfterLife.{LifeAfterLife}
use Rattle.m2_lives.specs.ObservedLaws.{AcknowledgedIsAcceptedInItsLife, BytesGiveLives, EachLifeAcceptsFromOne, IsHistoryOfLives}
use Rattle.m2_lives.specs.ObservedRun.{ObservedIsARunOfLives}

-- the first entries of a history are one
history_first : (f g : SideFacts) (order more : List SideItem) → IsHistoryOfLives f g (order ++ more) → IsHistoryOfLives f g order
history_first f g order more h = record {
  near_lawful = lawful_first f (near_items order) (near_items more) (start f) (subst (λ is. AreLawful f is (start f)) (near_append order more) h.near_lawful);
  far_lawful = lawful_first g (far_items order) (far_items more) (start g) (subst (λ is. AreLawful g is (start g)) (far_append order more) h.far_lawful);
  fits = fit_first f g order more (start f) (start g) h.fits;
}

-- with an entry more
history_to : (f g : SideFacts) (order before more : List SideItem) (x : SideItem) → order ≡ before ++ x ∷ more → IsHistoryOfLives f g order → IsHistoryOfLives f g (before ++ x ∷ [])
history_to f g order before more x e h = history_first f g (before ++ x ∷ []) more (subst (IsHistoryOfLives f g) (sym (append_assoc before (x ∷ []) more)) (subst (IsHistoryOfLives f g) e h))

pub record Parts : Type 0 where
  pub bytes : BytesGiveLives
  pub accepted : EachLifeAcceptsFromOne
  pub acknowledged : AcknowledgedIsAcceptedInItsLife
  pub observed : ObservedIsARunOfLives
  pub heard : LifeAfterLife

all_acknowledged : AcknowledgedIsAcceptedInItsLife → (f g : SideFacts) (order : List SideItem) → AreNodes f g → IsHistoryOfLives f g order → AreAcknowledgedInLives f g order
all_acknowledged law f g order nodes h = record {
  near = λ before more number e. (law f g before number nodes).near (history_to f g order before more (near_item (item.acked number)) e h);
  far = λ before more number e. (law f g before number nodes).far (history_to f g order before more (far_item (item.acked number)) e h);
}

pub come_in_lives : Parts → BytesComeInLives
come_in_lives parts f g order near_logs far_logs nodes apart bytes logs =
    let h = parts.bytes f g order nodes apart bytes in
    record {
      history = h;
      accepted = parts.accepted f g (entries_of order) nodes h;
      acknowledged = all_acknowledged parts.acknowledged f g (entries_of order) nodes h;
      observed = parts.observed f g (entries_of order) near_logs far_logs nodes h logs;
      comes = parts.heard f g (entries_of order) near_logs far_logs nodes h logs;
    }
