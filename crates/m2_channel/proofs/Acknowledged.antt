-- What an Acked entry names was accepted by the other side before it.
use Rattle.std.proofs.Common.{ℕ, ◌≤◌, List, [], ◌∷◌, ◌++◌, length, subst}
use Rattle.m2_never_reset.specs.m2_journal.Items as item
use Rattle.m2_never_reset.specs.m2_journal.Items.{JournalItem}
use Rattle.m2_never_reset.specs.m2_journal.Lawful.{Lawful}
use Rattle.m2_never_reset.specs.m2_journal.Replay.{AreLawful, after_items}
use Rattle.m2_never_reset.specs.m2_journal.SideFacts.{SideFacts}
use Rattle.m2_never_reset.specs.m2_journal.State.{State, start}
use Rattle.m2_never_reset.specs.m2_journal.Steps.{after}
use Rattle.m2_never_reset.specs.LinkOf.{letters}
use Rattle.m2_never_reset.specs.Orders.{SideItem, near_item, far_item, near_items, far_items, near_after, far_after, AreNodes, IsHistory, LosslessIsNeverReset}
use Rattle.m2_channel.specs.ObservedLaws.{AcknowledgedIsAccepted}
use Rattle.m2_channel.proofs.Quiet.{acked-leads}
use Rattle.m2_channel.proofs.Orders.{near_on, far_on}
use Rattle.m2_channel.proofs.Through.{raised_to}
use Rattle.m2_never_reset.proofs.Sided.{near_append, far_append}

lawful_behind : (f : SideFacts) (is js : List JournalItem) (s : State) → AreLawful f (is ++ js) s → AreLawful f js (after_items f is s)
lawful_behind f [] js s h = h
lawful_behind f (i ∷ is) js s h = lawful_behind f is js (after f i s) h.1

-- a count that was raised to a number and isn't above another
counted : (f : SideFacts) (number : ℕ) (s : State) (most : ℕ) → Lawful f (item.acked number) s → (after f (item.acked number) s).out.queue.base ≤ most → number ≤ most
counted f number s most lawful h =
    raised_to s.out.queue.base number most (subst (λ n. n ≤ most) (acked-leads f number s lawful).base h)

near_counted : LosslessIsNeverReset → (f g : SideFacts) (before : List SideItem) (number : ℕ) → AreNodes f g →
    IsHistory f g (before ++ near_item (item.acked number) ∷ []) → number ≤ length (letters (far_after g before).deliveries)
near_counted never f g before number nodes history =
    let more = near_item (item.acked number) ∷ [] in
    let now = never f g (before ++ more) nodes history in
    let lawful = lawful_behind f (near_items before) (item.acked number ∷ []) (start f)
    (subst (λ is. AreLawful f is (start f)) (near_append before more) history.near_lawful) in
    counted f number (near_after f before) (length (letters (far_after g before).deliveries)) lawful.0
    (subst (λ s. s.out.queue.base ≤ length (letters (far_after g before).deliveries)) (near_on f before more)
    (subst (λ t. (near_after f (before ++ more)).out.queue.base ≤ length (letters t.deliveries)) (far_on g before more) now.brought_over.far.base))

far_counted : LosslessIsNeverReset → (f g : SideFacts) (before : List SideItem) (number : ℕ) → AreNodes f g →
    IsHistory f g (before ++ far_item (item.acked number) ∷ []) → number ≤ length (letters (near_after f before).deliveries)
far_counted never f g before number nodes history =
    let more = far_item (item.acked number) ∷ [] in
    let now = never f g (before ++ more) nodes history in
    let lawful = lawful_behind g (far_items before) (item.acked number ∷ []) (start g)
    (subst (λ is. AreLawful g is (start g)) (far_append before more) history.far_lawful) in
    counted g number (far_after g before) (length (letters (near_after f before).deliveries)) lawful.0
    (subst (λ s. s.out.queue.base ≤ length (letters (near_after f before).deliveries)) (far_on g before more)
    (subst (λ t. (far_after g (before ++ more)).out.queue.base ≤ length (letters t.deliveries)) (near_on f before more) now.brought_over.near.base))

pub was_accepted : LosslessIsNeverReset → AcknowledgedIsAccepted
was_accepted never f g before number nodes = record {
  near = λ history. near_counted never f g before number nodes history;
  far = λ history. far_counted never f g before number nodes history;
}
