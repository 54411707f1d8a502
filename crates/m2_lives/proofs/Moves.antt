-- A side of a lossless link as lives see it, and what it may do: each entry of its journal is one of these moves. What a move
-- changes is noted in the side's ledger.
use Rattle.std.proofs.Common.{◌≡◌, ◌≢◌, ℕ, ◌+◌, ◌-◌, ◌<◌, ◌≤◌, ◌⊎◌, max, Bool, true, false, List, [], ◌∷◌, ◌++◌, drop, map, Option, Some, None}
use Rattle.std.specs.Prelude.{slice_get}
use Rattle.std.specs.List.{AllByRecursion}
use Rattle.m2_channel.specs.Channel.{keyed}
use Rattle.m2_journal.specs.Laws.{taken_among}
use Rattle.m2_journal.specs.OutFrames as out
use Rattle.m2_journal.specs.OutFrames.{OutFrame}
use Rattle.m2_journal.specs.State.{Feed, SentFrame, State}
use Rattle.m2_journal.specs.m2_control.declared.fields.TheConstants.{GREATEST_NUMBER}
use Rattle.m2_journal.specs.m2_control.declared.keepalive.Keepalive.{Keepalive}
use Rattle.m2_journal.specs.m2_fabric.declared.socket.SocketId.{SocketId}
use Rattle.m2_journal.specs.m2_fabric.Sockets.{is_among}
use Rattle.m2_journal.specs.m2_message.Message.{Content, unnumbered}
use Rattle.m2_journal.specs.m2_policy.declared.path.Key.{Key}
use Rattle.m2_journal.specs.m2_session.declared.session.Phase.{Phase}
use Rattle.m2_journal.specs.m2_session.declared.session.Phase.TheVariants as phase
use Rattle.m2_never_reset.specs.Frames.{answers_on}
use Rattle.m2_never_reset.specs.Paired.{IsToCome}
use Rattle.m2_lives.specs.Lives.{Has, LifeMessage}
use Rattle.m2_lives.specs.Observed.{handed_in_lives}
use Rattle.m2_lives.proofs.Ledger.{Ledger, count, HasAskedFor, IsAcceptance}

-- ---- a side

pub record Spot : Type 0 where
  pub socket : SocketId
  pub opened : Bool
  pub taken : ℕ
  pub resumed : Option ℕ

pub record View : Type 0 where
  pub phase : Phase
  pub server : ℕ
  pub life : ℕ
  pub last : ℕ
  pub base : ℕ
  pub numbered : List Content
  pub accepted : List LifeMessage
  pub feed : Option Spot
  pub sent : List SentFrame
  pub opened : List SocketId
  pub taken : List SocketId
  pub top : ℕ

abbrev pub spot_of : Option Feed → Option Spot
spot_of (Some d) = Some (record { socket = d.socket; opened = d.opened; taken = d.taken; resumed = d.resumed })
spot_of None = None

abbrev pub view : State → View
view s = record {
  phase = s.session.phase;
  server = s.session.server_cookie;
  life = s.life;
  last = s.last;
  base = s.out.queue.base;
  numbered = map unnumbered s.out.numbered;
  accepted = handed_in_lives s.deliveries;
  feed = spot_of s.feed;
  sent = s.sent;
  opened = s.opened;
  taken = taken_among s.judgements;
  top = s.top;
}

-- ---- what it does

pub data Move : Type 0 where
  rests : Move
  opens : SocketId → Move
  -- the feed is left
  leaves : Phase → Move
  asks_ident : (client global : ℕ) → Move
  asks_reconnect : (client global connect : ℕ) → Move
  -- an answer is taken that has it ask again
  asks_again : Move
  -- a reset is obeyed, behind which these keep a number
  obeys : (kept : List Content) → Move
  -- an offer is taken
  settles : (cookie global : ℕ) → (kept : List Content) → Move
  -- its session is resumed
  goes_on : (seen : ℕ) → Move
  -- an ask is judged, and not accepted
  refuses : SocketId → (number : ℕ) → List OutFrame → Move
  -- an ask is accepted, or its session resumed
  takes : SocketId → (cookie number : ℕ) → (kept : List Content) → Move
  resumes : SocketId → (number seen : ℕ) → Move
  -- the same, where the side gives up a socket of its own
  gives_way : Phase → SocketId → (number : ℕ) → List OutFrame → Move
  -- messages get numbers
  orders : (more : List Content) → Move
  -- and the one that has this number is composed
  numbers : (more : List Content) → (number : ℕ) → Content → Move
  -- a frame that no entry names is wholly put
  acknowledges : (number : ℕ) → Move
  answers : Keepalive → Move
  -- so far the feed is taken then
  accepts : Key → Content → (taken : ℕ) → Move
  counts : (number : ℕ) → Move
  goes_down : Move

abbrev pub sent_by : Option Spot → OutFrame → List SentFrame
sent_by (Some p) w = record { socket = p.socket; frame = w } ∷ []
sent_by None w = []

abbrev pub on_socket : SocketId → List OutFrame → List SentFrame
on_socket k ws = map (λ (w : OutFrame). record { socket = k; frame = w }) ws

abbrev pub taken_more : Option Spot → Option Spot
taken_more (Some p) = Some (record p { taken = p.taken + 1 })
taken_more None = None

abbrev pub taken_to : ℕ → Option Spot → Option Spot
taken_to n (Some p) = Some (record p { taken = n })
taken_to n None = None

-- a life begins, named by this cookie
abbrev pub anew : (cookie : ℕ) → (kept : List Content) → View → View
anew cookie kept v = record v { server = cookie; life = cookie; last = 0; base = 0; numbered = kept }

abbrev pub taken_spot : SocketId → Option ℕ → Option Spot
taken_spot k resumed = Some (record { socket = k; opened = false; taken = 0; resumed = resumed })

abbrev pub moved : Move → View → View
moved rests v = v
moved (opens k) v = record v { phase = phase.Connecting; feed = Some (record { socket = k; opened = true; taken = 0; resumed = None }); opened = v.opened ++ k ∷ [] }
moved (leaves p) v = record v { phase = p; feed = None }
moved (asks_ident client global) v = record v { phase = phase.IdentSent; sent = v.sent ++ sent_by v.feed (out.ident client global); top = global }
moved (asks_reconnect client global connect) v =
    record v { phase = phase.ReconnectSent; sent = v.sent ++ sent_by v.feed (out.reconnect client v.server global connect v.last); top = global }
moved asks_again v = record v { phase = phase.Connecting; feed = taken_more v.feed }
moved (obeys kept) v = record (anew 0 kept v) { phase = phase.Connecting; feed = taken_more v.feed }
moved (settles cookie global kept) v = record (anew cookie kept v) { phase = phase.Ready; feed = taken_more v.feed }
moved (goes_on seen) v = record v { phase = phase.Ready; feed = taken_more v.feed }
moved (refuses k number ws) v = record v { sent = v.sent ++ on_socket k ws; top = number }
moved (gives_way p k number ws) v = record v { phase = p; feed = None; sent = v.sent ++ on_socket k ws; top = number }
moved (orders more) v = record v { numbered = v.numbered ++ more }
moved (takes k cookie number kept) v = record (anew cookie kept v) {
  phase = phase.Ready;
  feed = taken_spot k None;
  sent = v.sent ++ record { socket = k; frame = out.server_ident cookie number } ∷ [];
  taken = v.taken ++ k ∷ [];
  top = number;
}
moved (resumes k number seen) v = record v {
  phase = phase.Ready;
  feed = taken_spot k (Some seen);
  sent = v.sent ++ record { socket = k; frame = out.reconnect_ok v.last } ∷ [];
  taken = v.taken ++ k ∷ [];
  top = number;
}
moved (numbers more number m) v = record v { numbered = v.numbered ++ more; sent = v.sent ++ sent_by v.feed (out.message number v.last m) }
moved (acknowledges number) v = record v { sent = v.sent ++ sent_by v.feed (out.acknowledgement number) }
moved (answers k) v = record v { sent = v.sent ++ sent_by v.feed (out.keepalive_answer k) }
moved (accepts key m taken) v = record v { last = v.last + 1; accepted = v.accepted ++ record { life = v.life; message = keyed key m } ∷ []; feed = taken_to taken v.feed }
moved (counts number) v = record v { base = max v.base number }
moved goes_down v = record (anew 0 [] v) { phase = phase.Absent; feed = None }

-- ---- when each may come, beside what the other side has done

abbrev pub OnSpot : Option Spot → (Spot → Type 0) → Type 0
OnSpot (Some p) P = P p
OnSpot None P = ⊥

abbrev pub IfSpot : Option Spot → (Spot → Type 0) → Type 0
IfSpot (Some p) P = P p
IfSpot None P = Unit {0}

-- the next answer on the feed is this one
abbrev pub IsNextAnswer : List SentFrame → OutFrame → Spot → Type 0
IsNextAnswer theirs w p = (more : List OutFrame) × (drop p.taken (answers_on p.socket theirs) ≡ w ∷ more)

-- nothing is to come there
abbrev pub NothingComes : List SentFrame → Spot → Type 0
NothingComes theirs p = drop p.taken (answers_on p.socket theirs) ≡ []

-- it was sent on the feed's socket
abbrev pub WasSent : List SentFrame → OutFrame → Spot → Type 0
WasSent theirs w p = Has (λ (x : SentFrame). (x.socket ≡ p.socket) × (x.frame ≡ w)) theirs

-- a frame that acknowledges up to this number
abbrev pub Acknowledges : (number : ℕ) → OutFrame → Type 0
Acknowledges number (out.message n acked m) = acked ≡ number
Acknowledges number (out.acknowledgement acked) = acked ≡ number
Acknowledges number (out.reconnect_ok seen) = seen ≡ number
Acknowledges number _ = ⊥

-- it acknowledges up to this number: a frame on the feed, or the ask that was resumed
abbrev pub IsTold : List SentFrame → (number : ℕ) → Spot → Type 0
IsTold theirs number p = ((w : OutFrame) × WasSent theirs w p × Acknowledges number w) ⊎ (p.resumed ≡ Some number)

-- the answers that take no socket
abbrev pub IsRefusalFrame : OutFrame → Type 0
IsRefusalFrame (out.reset full) = Unit {0}
IsRefusalFrame (out.retry connect) = Unit {0}
IsRefusalFrame (out.retry_global global) = Unit {0}
IsRefusalFrame out.wait = Unit {0}
IsRefusalFrame _ = ⊥

pub record MayAsk (v : View) (global : ℕ) (theirs : List SentFrame) : Type 0 where
  pub phase : v.phase ≡ phase.Connecting
  pub drawn : v.top < global
  pub nothing : OnSpot v.feed (NothingComes theirs)

pub record MayTake (v : View) (k : SocketId) (number : ℕ) (their_taken : List SocketId) : Type 0 where
  pub not_opened : is_among k v.opened ≡ false
  pub not_taken : is_among k v.taken ≡ false
  pub not_theirs : is_among k their_taken ≡ false
  pub drawn : v.top < number
  pub within : number ≤ GREATEST_NUMBER

pub record MayNumber (v : View) (more : List Content) (number : ℕ) (m : Content) : Type 0 where
  pub phase : v.phase ≡ phase.Ready
  pub from : 1 ≤ number
  pub is : slice_get (v.numbered ++ more) (number - 1) ≡ Some (unnumbered m)

abbrev pub May : (mint : ℕ → ℕ) → (y : Ledger) → Move → View → Type 0
May mint y rests v = Unit {0}
May mint y (opens k) v = (is_among k v.opened ≡ false) × (is_among k v.taken ≡ false)
May mint y (leaves p) v = Unit {0}
May mint y (asks_ident client global) v = MayAsk v global y.sent
May mint y (asks_reconnect client global connect) v = MayAsk v global y.sent × (v.server ≢ 0)
May mint y asks_again v = (v.phase ≡ phase.ReconnectSent) × OnSpot v.feed (λ p. (w : OutFrame) × IsNextAnswer y.sent w p × (IsAcceptance w → ⊥))
May mint y (obeys kept) v = (v.phase ≡ phase.ReconnectSent) × OnSpot v.feed (λ p. (w : OutFrame) × IsNextAnswer y.sent w p × (IsAcceptance w → ⊥))
May mint y (settles cookie global kept) v = (v.phase ≡ phase.IdentSent) × OnSpot v.feed (IsNextAnswer y.sent (out.server_ident cookie global))
May mint y (goes_on seen) v = (v.phase ≡ phase.ReconnectSent) × OnSpot v.feed (IsNextAnswer y.sent (out.reconnect_ok seen))
May mint y (refuses k number ws) v = AllByRecursion IsRefusalFrame ws × (v.top ≤ number)
May mint y (gives_way p k number ws) v = AllByRecursion IsRefusalFrame ws × (v.top ≤ number)
May mint y (orders more) v = Unit {0}
May mint y (takes k cookie number kept) v = MayTake v k number y.taken × (cookie ≡ mint number)
May mint y (resumes k number seen) v = MayTake v k number y.taken × HasAskedFor k v.server y.sent × (v.server ≢ 0) × (seen ≤ count v.server y)
May mint y (numbers more number m) v = MayNumber v more number m
May mint y (acknowledges number) v = (v.phase ≡ phase.Ready) × (number ≤ v.last)
May mint y (answers k) v = v.phase ≡ phase.Ready
May mint y (accepts key m taken) v = (v.phase ≡ phase.Ready) × OnSpot v.feed (λ p. (acked : ℕ) × WasSent y.sent (out.message (v.last + 1) acked m) p)
May mint y (counts number) v = (v.phase ≡ phase.Ready) × OnSpot v.feed (IsTold y.sent number)
May mint y goes_down v = Unit {0}

-- whether a life begins
abbrev pub begins : Move → Bool
begins (obeys kept) = true
begins (settles cookie global kept) = true
begins (takes k cookie number kept) = true
begins goes_down = true
begins m = false

-- what a phase has to come in Connecting
abbrev pub NothingIn : Phase → List OutFrame → Type 0
NothingIn phase.Connecting ws = ws ≡ []
NothingIn _ ws = Unit {0}

pub nothing_in : (p : Phase) (ws : List OutFrame) → IsToCome p ws → NothingIn p ws
nothing_in phase.Connecting ws h = h
nothing_in phase.Absent ws h = tt
nothing_in phase.IdentSent ws h = tt
nothing_in phase.ReconnectSent ws h = tt
nothing_in phase.Ready ws h = tt
nothing_in phase.Standby ws h = tt
nothing_in phase.Wait ws h = tt
