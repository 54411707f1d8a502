-- Two journals in one order that fits, from the start of both: it is a run of the link between the two sides, so all that
-- is promised of such runs holds where it leads.
use Rattle.std.specs.Prelude.{◌≡◌, ◌≢◌, ℕ, ◌+◌, ◌<◌, ◌≤◌, ◌^◌, ◌⊎◌, true, false, List, [], ◌∷◌, ◌++◌, length, map, Some}
use Rattle.std.specs.List.{AllByRecursion, filter}
use Rattle.m2_dispatch.specs.Heard.{is_key}
use Rattle.m2_session.specs.m2_policy.declared.path.Key.{Key}
use Rattle.m2_queues.specs.m2_message.Message.{Content, unnumbered}
use Rattle.m2_session.specs.m2_policy.Policy.{allows}
use Rattle.m2_journal.specs.Items as item
use Rattle.m2_journal.specs.Items.{JournalItem}
use Rattle.m2_journal.specs.Lawful.{key_of}
use Rattle.m2_journal.specs.Plan.{to_post}
use Rattle.m2_journal.specs.Replay.{AreLawful, after_items}
use Rattle.m2_journal.specs.SideFacts.{SideFacts}
use Rattle.m2_journal.specs.State.{State, start}
use Rattle.m2_journal.specs.Steps.{after}
use Rattle.m2_never_reset.specs.Link.{new_link}
use Rattle.m2_never_reset.specs.Order.{AreFirstOf}
use Rattle.m2_never_reset.specs.Steps.{Run}
use Rattle.m2_never_reset.specs.Fits.{Fits}
use Rattle.m2_never_reset.specs.PairLaws.{IsNoDown}
use Rattle.m2_never_reset.specs.LinkOf.{role_of, letters, link_of}
use Rattle.m2_never_reset.specs.Paired.{Paired}
use Rattle.m2_never_reset.specs.Trouble.{trouble_at}

-- ---- an order of two journals

-- an entry of one of the sides
pub data SideItem : Type 0 where
  near_item : JournalItem → SideItem
  far_item : JournalItem → SideItem

-- the journal of each side, in an order of both
abbrev pub near_items : List SideItem → List JournalItem
near_items [] = []
near_items (near_item i ∷ order) = i ∷ near_items order
near_items (far_item i ∷ order) = near_items order

abbrev pub far_items : List SideItem → List JournalItem
far_items [] = []
far_items (near_item i ∷ order) = far_items order
far_items (far_item i ∷ order) = i ∷ far_items order

-- the two sides fit behind each of these entries
abbrev pub FitThroughout : (f g : SideFacts) → List SideItem → (near far : State) → Type 0
FitThroughout f g [] a b = Unit {0}
FitThroughout f g (near_item i ∷ order) a b = Fits (after f i a) b × FitThroughout f g order (after f i a) b
FitThroughout f g (far_item i ∷ order) a b = Fits a (after g i b) × FitThroughout f g order a (after g i b)

-- both journals are lawful, no side is marked down by its own node, and the order of their entries fits
pub record IsHistory (f g : SideFacts) (order : List SideItem) : Type 0 where
  pub near_lawful : AreLawful f (near_items order) (start f)
  pub far_lawful : AreLawful g (far_items order) (start g)
  pub near_not_down : AllByRecursion IsNoDown (near_items order)
  pub far_not_down : AllByRecursion IsNoDown (far_items order)
  pub fits : FitThroughout f g order (start f) (start g)

-- where an order leads either side
abbrev pub near_after : SideFacts → List SideItem → State
near_after f order = after_items f (near_items order) (start f)

abbrev pub far_after : SideFacts → List SideItem → State
far_after g order = after_items g (far_items order) (start g)

-- the trouble of its entries together
abbrev pub trouble_in : (f g : SideFacts) → List SideItem → (near far : State) → ℕ
trouble_in f g [] a b = 0
trouble_in f g (near_item i ∷ order) a b = trouble_at f i a b + trouble_in f g order (after f i a) b
trouble_in f g (far_item i ∷ order) a b = trouble_at g i b a + trouble_in f g order a (after g i b)

-- ---- it is a run of the link

-- and the two sides have in common what they have to, and fit
pub record LeadsTo (f g : SideFacts) (order : List SideItem) : Type 0 where
  pub run : Run (role_of f) (role_of g) new_link
      (link_of (trouble_in f g order (start f) (start g)) (near_after f order) (far_after g order))
  pub paired : Paired (near_after f order) (far_after g order)
  pub fits : Fits (near_after f order) (far_after g order)

abbrev pub HistoriesAreRuns : Type 0
HistoriesAreRuns = (f g : SideFacts) (order : List SideItem) → f.policy.lossy ≡ false → g.policy.lossy ≡ false →
    IsHistory f g order → LeadsTo f g order

-- ---- what follows for two lossless sides

-- two nodes at different places, whose policies towards each other are an allowed pair, and not lossy
pub record AreNodes (f g : SideFacts) : Type 0 where
  pub allowed : allows f.policy g.policy ≡ true
  pub near_keeps : f.policy.lossy ≡ false
  pub far_keeps : g.policy.lossy ≡ false
  pub places : f.node.number ≢ g.node.number
  pub near_salt : f.node.salt < 2 ^ 16
  pub far_salt : g.node.salt < 2 ^ 16

-- no message is thrown away, and nothing that was accepted is numbered anew
abbrev pub NoTroubleInHistories : Type 0
NoTroubleInHistories = (f g : SideFacts) (order : List SideItem) → AreNodes f g → IsHistory f g order →
    trouble_in f g order (start f) (start g) ≡ 0

-- what the reader accepted of what the sender numbered
pub record IsBroughtOver (reader sender : State) : Type 0 where
  -- each message once, in the order of their numbers
  pub prefix : AreFirstOf (letters reader.deliveries) (map unnumbered sender.out.numbered)
  pub last : reader.last ≡ length (letters reader.deliveries)
  -- and what the sender counts as acknowledged was accepted
  pub base : sender.out.queue.base ≤ length (letters reader.deliveries)

pub record AreBroughtOver (a b : State) : Type 0 where
  pub near : IsBroughtOver a b
  pub far : IsBroughtOver b a

abbrev pub MessagesComeInOrder : Type 0
MessagesComeInOrder = (f g : SideFacts) (order : List SideItem) → AreNodes f g → IsHistory f g order →
    AreBroughtOver (near_after f order) (far_after g order)

-- both sides keep these two cookies
pub record KeepCookies (client server : ℕ) (a b : State) : Type 0 where
  pub near_client : a.session.client_cookie ≡ client
  pub near_server : a.session.server_cookie ≡ server
  pub far_client : b.session.client_cookie ≡ client
  pub far_server : b.session.server_cookie ≡ server

-- two cookies that both keep however the order goes on
pub record AreSettled (f g : SideFacts) (order : List SideItem) : Type 0 where
  pub client : ℕ
  pub server : ℕ
  pub client_kept : client ≢ 0
  pub server_kept : server ≢ 0
  pub stay : (more : List SideItem) → IsHistory f g (order ++ more) →
      KeepCookies client server (near_after f (order ++ more)) (far_after g (order ++ more))

-- from the first message that either side has accepted on, no session is reset
abbrev pub AcceptedIsSettled : Type 0
AcceptedIsSettled = (f g : SideFacts) (order : List SideItem) → AreNodes f g → IsHistory f g order →
    (letters (near_after f order).deliveries ≢ []) ⊎ (letters (far_after g order).deliveries ≢ []) →
    AreSettled f g order

-- ---- messages as they were posted

-- the messages that entries post, in order
abbrev pub posted_in : JournalItem → List Content
posted_in (item.post place (Some (to_post m))) = m ∷ []
posted_in _ = []

abbrev pub posts_in : List JournalItem → List Content
posts_in [] = []
posts_in (i ∷ is) = posted_in i ++ posts_in is

-- the messages that have this key, a priority with a dispatch path, at a node
abbrev pub of_key : SideFacts → Key → List Content → List Content
of_key f key ms = filter (λ m. is_key (key_of f m) key) ms

-- Of each key at the reader, what it accepted is a prefix of what was posted to it, in order, each once. A message is the
-- same whatever numbers the runtime wrote into it.
abbrev pub ComeAsPosted : SideFacts → (reader : State) → (posted : List Content) → Type 0
ComeAsPosted f reader posted = (key : Key) → AreFirstOf (of_key f key (letters reader.deliveries)) (of_key f key (map unnumbered posted))

-- a reset with the full mark, which throws messages away
abbrev pub IsNoFullReset : JournalItem → Type 0
IsNoFullReset (item.obeyed true) = ⊥
IsNoFullReset _ = Unit {0}

-- ---- all of it

-- What is promised of a history of two lossless sides, clause by clause.
pub record IsNeverReset (f g : SideFacts) (order : List SideItem) : Type 0 where
  -- nothing is thrown away, and numbers are set back only where neither side had accepted a message
  pub no_trouble : trouble_in f g order (start f) (start g) ≡ 0
  -- no full reset is obeyed
  pub near_obeys_none : AllByRecursion IsNoFullReset (near_items order)
  pub far_obeys_none : AllByRecursion IsNoFullReset (far_items order)
  -- from the first acceptance on both keep the same two cookies, of which none is 0
  pub cookies : (letters (near_after f order).deliveries ≢ []) ⊎ (letters (far_after g order).deliveries ≢ []) → AreSettled f g order
  -- messages come in order, each once, and what is counted acknowledged was accepted
  pub brought_over : AreBroughtOver (near_after f order) (far_after g order)
  -- of each key they come as they were posted
  pub near_posted : ComeAsPosted f (near_after f order) (posts_in (far_items order))
  pub far_posted : ComeAsPosted g (far_after g order) (posts_in (near_items order))

abbrev pub LosslessIsNeverReset : Type 0
LosslessIsNeverReset = (f g : SideFacts) (order : List SideItem) → AreNodes f g → IsHistory f g order → IsNeverReset f g order

-- ---- there are histories

-- one in which a message comes over and is acknowledged
pub record AMessageComesOver : Type 0 where
  pub f : SideFacts
  pub g : SideFacts
  pub order : List SideItem
  pub nodes : AreNodes f g
  pub history : IsHistory f g order
  pub message : Content
  pub accepted : letters (far_after g order).deliveries ≡ message ∷ []
  pub acknowledged : (near_after f order).out.queue.base ≡ 1
