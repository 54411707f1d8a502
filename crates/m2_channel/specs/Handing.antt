-- From what a record hands on to what its node's two dispatchers are called with: messages of a fast key go to the one at once,
-- and all else goes through the queue before the other. The two ways are Ceph's.
use Rattle.std.specs.Prelude.{◌≡◌, ℕ, ◌==◌, if◌then◌else◌, List, [], ◌∷◌, ◌++◌, map, take, false}
use Rattle.std.specs.List.{AllByRecursion, filter}
use Rattle.m2_dispatch.specs.Heard as heard
use Rattle.m2_dispatch.specs.Heard.{Heard, is_path}
use Rattle.m2_dispatch.specs.declared.letter.Letter.{Letter}
use Rattle.m2_dispatch.specs.declared.parcel.Parcel.{Parcel}
use Rattle.m2_dispatch.specs.declared.parcel.Parcel.TheVariants as parcel
use Rattle.m2_dispatch.specs.Laws.{Call, Put, Turn, History, IsSublist, start, after_call}
use Rattle.m2_dispatch.specs.Letters.{heard_in}
use Rattle.m2_dispatch.specs.Parcel.{heard_at_put}
use Rattle.m2_dispatch.specs.m2_message.Message.{content_of, unnumbered}
use Rattle.m2_dispatch.specs.m2_policy.declared.path.Key.{Key}
use Rattle.m2_dispatch.specs.m2_policy.declared.path.Path.TheVariants.{Fast}
use Rattle.m2_never_reset.specs.m2_journal.State as state
use Rattle.m2_never_reset.specs.m2_journal.State.{Delivery, State}
use Rattle.m2_channel.specs.Channel as channel
use Rattle.m2_channel.specs.Observed.{all_of, handed, IsLetter}
use Rattle.m2_channel.specs.ObservedLaws.{IsLogOf}

-- ---- the two ways

-- what is dispatched at once of what is handed on, and of which peer
abbrev pub heard_at_once : ℕ → List Delivery → List Heard
heard_at_once peer [] = []
heard_at_once peer (state.letter number life key m ∷ ds) =
    if is_path key.path Fast then heard.message peer key number life m ∷ heard_at_once peer ds else heard_at_once peer ds
heard_at_once peer (_ ∷ ds) = heard_at_once peer ds

-- what goes through the queue
abbrev pub queued_of : List Delivery → List Delivery
queued_of [] = []
queued_of (state.letter number life key m ∷ ds) = if is_path key.path Fast then queued_of ds else state.letter number life key m ∷ queued_of ds
queued_of (d ∷ ds) = d ∷ queued_of ds

-- the calls of a log that are of this peer, in order
abbrev pub calls_of : ℕ → List Heard → List Heard
calls_of peer log = filter (λ h. heard.peer_of h == peer) log

-- the calls are the first ones of these
abbrev pub AreFirstCalls : List Heard → List Heard → Type 0
AreFirstCalls calls all = (more : List Heard) × (all ≡ calls ++ more)

-- ---- through the queue

abbrev pub peer_of : Parcel → ℕ
peer_of (parcel.Letter l) = l.peer
peer_of (parcel.Discard peer) = peer
peer_of (parcel.RemoteReset peer) = peer

-- those of a peer among the parcels that were put, in order
abbrev pub parcels_of : ℕ → List Call → List Parcel
parcels_of peer [] = []
parcels_of peer (Put p ∷ calls) = if peer_of p == peer then p ∷ parcels_of peer calls else parcels_of peer calls
parcels_of peer (Turn ∷ calls) = parcels_of peer calls

-- a parcel is this delivery
abbrev pub IsParcelOf : Parcel → Delivery → Type 0
IsParcelOf (parcel.Letter l) (state.letter number life key m) = (l.key ≡ key) × (l.number ≡ number) × (l.life ≡ life) × (content_of l.message ≡ m)
IsParcelOf (parcel.Discard peer) state.discarded = Unit {0}
IsParcelOf (parcel.RemoteReset peer) state.remote_reset = Unit {0}
IsParcelOf _ _ = ⊥

-- the parcels are the first ones of these deliveries, in order
abbrev pub AreParcelsOf : List Parcel → List Delivery → Type 0
AreParcelsOf [] ds = Unit {0}
AreParcelsOf (p ∷ ps) [] = ⊥
AreParcelsOf (p ∷ ps) (d ∷ ds) = IsParcelOf p d × AreParcelsOf ps ds

-- ---- what is heard

-- at a call, where these letters wait
abbrev pub heard_at : Call → List Letter → List Heard
heard_at (Put p) waiting = heard_at_put p
heard_at Turn waiting = map heard_in (take 1 waiting)

abbrev pub heard_by_calls : ℕ → History → List Call → List Heard
heard_by_calls peer h [] = []
heard_by_calls peer h (c ∷ calls) = heard_at c h.waiting ++ heard_by_calls peer (after_call peer h c) calls

-- ---- what is promised

abbrev pub IsNoResetOf : ℕ → Heard → Type 0
IsNoResetOf peer (heard.reset p) = (p == peer) ≡ false
IsNoResetOf peer _ = Unit {0}

-- what a record's peer is heard to send, by a log
pub record IsHeardOf (peer : ℕ) (log : List Heard) (s : State) : Type 0 where
  -- as long as nothing was thrown away, of each key the first ones of what the record accepted, in order, each once
  pub first : IsLogOf peer log s
  -- and always, of each key some of it, in order, each once
  pub some : (key : Key) → IsSublist (map unnumbered (heard.of_key peer key log)) (channel.of_key key (handed s.deliveries))
  -- and where the record handed on messages alone, no reset of the peer
  pub no_reset : AllByRecursion IsLetter s.deliveries → AllByRecursion (IsNoResetOf peer) log

-- So it is by both dispatchers together, where the calls of the one are the first of the record's messages of fast keys, and the
-- parcels of the peer that were put into the queue before the other are the first ones of all else that the record handed on.
abbrev pub LogsAreLogs : Type 0
LogsAreLogs = (peer : ℕ) (fast : List Heard) (calls : List Call) (s : State) →
    AreFirstCalls (calls_of peer fast) (heard_at_once peer s.deliveries) → AreParcelsOf (parcels_of peer calls) (queued_of s.deliveries) →
    IsHeardOf peer (all_of (record { fast = fast; queued = heard_by_calls peer start calls })) s
