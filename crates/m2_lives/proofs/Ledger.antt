-- What the two sides of a link have done so far, as far as lives speak of it, and what is true of that. All of it only grows: so
-- what is true of a frame that was sent stays true, and an ask that is judged late or a frame that nobody reads do no harm.
use Rattle.std.proofs.Common.{◌≡◌, ◌≢◌, ℕ, ◌-◌, ◌≤◌, ◌⊎◌, true, List, [], ◌∷◌, ◌++◌, length, map, Option, Some, None}
use Rattle.std.specs.Prelude.{slice_get}
use Rattle.std.specs.List.{AllByRecursion, filter_map}
use Rattle.m2_channel.specs.Channel.{KeyedMessage}
use Rattle.m2_journal.specs.OutFrames as out
use Rattle.m2_journal.specs.OutFrames.{OutFrame}
use Rattle.m2_journal.specs.State.{SentFrame}
use Rattle.m2_journal.specs.m2_fabric.declared.socket.SocketId.{SocketId}
use Rattle.m2_journal.specs.m2_fabric.Sockets.{is_among}
use Rattle.m2_journal.specs.m2_message.Message.{Content, unnumbered}
use Rattle.m2_never_reset.specs.Asks.{Ask, by_ident, by_reconnect}
use Rattle.m2_never_reset.specs.Frames.{asks_on, no_ask, last_ask}
use Rattle.m2_never_reset.specs.Order.{AreFirstOf}
use Rattle.m2_never_reset.specs.Roles.{IsNumber}
use Rattle.m2_lives.specs.Lives.{Has, LifeMessage, of_life}
use Rattle.m2_lives.specs.LivesLaws.{AreNames}
use Rattle.m2_lives.specs.ObservedLaws.{NumberedLife}

-- ---- what is noted of a side

-- a socket on which a side was in Ready, and the name of the life in which it was
pub record Stay : Type 0 where
  pub socket : SocketId
  pub name : ℕ

pub record Ledger : Type 0 where
  -- the lives that have ended, and the current one
  pub ended : List NumberedLife
  pub now : NumberedLife
  -- what was accepted, each message with the life that it was accepted in
  pub accepted : List LifeMessage
  pub stays : List Stay
  pub sent : List SentFrame
  pub opened : List SocketId
  pub taken : List SocketId
  -- the greatest number used
  pub top : ℕ

abbrev pub lives : Ledger → List NumberedLife
lives x = x.ended ++ x.now ∷ []

abbrev pub names : Ledger → List ℕ
names x = map (λ (l : NumberedLife). l.name) (lives x)

-- what was accepted in the life of this name
abbrev pub contents : ℕ → Ledger → List Content
contents name x = map (λ (m : KeyedMessage). m.message) (of_life name x.accepted)

abbrev pub count : ℕ → Ledger → ℕ
count name x = length (of_life name x.accepted)

-- it was in Ready on this socket in the life of this name
abbrev pub HasStay : SocketId → ℕ → Ledger → Type 0
HasStay k name x = Has (λ (s : Stay). (s.socket ≡ k) × (s.name ≡ name)) x.stays

-- in the life of this name, the message with this place among the numbered ones
abbrev pub HasNumbered : (name place : ℕ) → Content → Ledger → Type 0
HasNumbered name place m x = Has (λ (l : NumberedLife). (l.name ≡ name) × (slice_get l.numbered place ≡ Some m)) (lives x)

-- ---- what is true of a frame

-- it was sent in the life of this name
pub record SentIn (k : SocketId) (acked name : ℕ) (x : Ledger) : Type 0 where
  pub stay : HasStay k name x
  -- what it acknowledges was accepted in that life
  pub within : acked ≤ count name x

abbrev pub IsTrueFrame : (mint : ℕ → ℕ) → Ledger → SocketId → OutFrame → Type 0
IsTrueFrame mint x k (out.message number acked m) = (name : ℕ) × SentIn k acked name x × (1 ≤ number) × HasNumbered name (number - 1) (unnumbered m) x
IsTrueFrame mint x k (out.acknowledgement number) = (name : ℕ) × SentIn k number name x
IsTrueFrame mint x k (out.reconnect_ok seen) = (name : ℕ) × SentIn k seen name x × (is_among k x.taken ≡ true)
IsTrueFrame mint x k (out.server_ident cookie global) = HasStay k cookie x × (is_among k x.taken ≡ true) × (cookie ≡ mint global) × IsNumber global × (global ≤ x.top)
IsTrueFrame mint x k (out.reconnect client server global connect seen) = (server ≢ 0) × (seen ≤ count server x)
IsTrueFrame mint x k _ = Unit {0}

-- ---- acceptances and asks

-- the cookies that were offered, and where
abbrev pub offered_by : SocketId → OutFrame → Option Stay
offered_by k (out.server_ident cookie global) = Some (record { socket = k; name = cookie })
offered_by k _ = None

abbrev pub offer_of : SentFrame → Option Stay
offer_of w = offered_by w.socket w.frame

abbrev pub offers : List SentFrame → List Stay
offers sent = filter_map offer_of sent

abbrev pub IsAcceptance : OutFrame → Type 0
IsAcceptance (out.server_ident cookie global) = Unit {0}
IsAcceptance (out.reconnect_ok seen) = Unit {0}
IsAcceptance _ = ⊥

abbrev pub HasAccepted : SocketId → List SentFrame → Type 0
HasAccepted k sent = Has (λ (w : SentFrame). (w.socket ≡ k) × IsAcceptance w.frame) sent

-- a reconnect that names the session by this server cookie
abbrev pub IsAskFor : ℕ → Ask → Type 0
IsAskFor name (by_ident i) = ⊥
IsAskFor name (by_reconnect r) = r.server ≡ name

-- the last ask of a side on a socket is for the session of this name
abbrev pub HasAskedFor : SocketId → ℕ → List SentFrame → Type 0
HasAskedFor k name sent = IsAskFor name (last_ask no_ask (asks_on k sent))

abbrev pub AreApart : List ℕ → Type 0
AreApart [] = Unit {0}
AreApart (n ∷ ns) = AllByRecursion (λ m. m ≢ n) ns × AreApart ns

abbrev pub StaysAreApart : List Stay → Type 0
StaysAreApart [] = Unit {0}
StaysAreApart (s ∷ ss) = AllByRecursion (λ (t : Stay). t.socket ≢ s.socket) ss × StaysAreApart ss

-- a socket that was opened, or taken
abbrev pub IsThere : Ledger → SocketId → Type 0
IsThere x k = (is_among k x.opened ≡ true) ⊎ (is_among k x.taken ≡ true)

-- ---- of one side

pub record IsLedger (mint : ℕ → ℕ) (x : Ledger) : Type 0 where
  -- no two lives have one name
  pub named : AreNames (names x)
  -- nothing was accepted in a life that isn't there, nor in one without a name
  pub known : (n : ℕ) → (n ≡ 0) ⊎ AllByRecursion (λ m. m ≢ n) (names x) → of_life n x.accepted ≡ []
  -- it is in Ready once on a socket
  pub once : StaysAreApart x.stays
  pub there : AllByRecursion (λ (s : Stay). IsThere x s.socket) x.stays
  pub frames : AllByRecursion (λ (w : SentFrame). IsTrueFrame mint x w.socket w.frame) x.sent
  -- no cookie is offered twice
  pub offered : AreApart (map (λ (s : Stay). s.name) (offers x.sent))

-- ---- of a side beside the other

-- where a name comes from: it is none, the side has drawn it, or the other side has offered it where this one was in Ready by it
abbrev pub ComesFrom : (mint : ℕ → ℕ) → (x y : Ledger) → ℕ → Type 0
ComesFrom mint x y n = (n ≡ 0) ⊎ ((g : ℕ) × IsNumber g × (g ≤ x.top) × (n ≡ mint g)) ⊎ Has (λ (s : Stay). (s.name ≡ n) × HasStay s.socket n x) (offers y.sent)

pub record IsBeside (mint : ℕ → ℕ) (x y : Ledger) : Type 0 where
  -- where it has opened the socket, the other has accepted there first
  pub opener : AllByRecursion (λ (s : Stay). is_among s.socket x.opened ≡ true → HasAccepted s.socket y.sent) x.stays
  pub names : AllByRecursion (ComesFrom mint x y) (names x)
  -- what it has accepted in a life is the first ones of what the other has numbered in its life of that name
  pub prefix : (n : ℕ) → (contents n x ≡ []) ⊎ Has (λ (l : NumberedLife). (l.name ≡ n) × AreFirstOf (contents n x) l.numbered) (lives y)
  -- where the other has resumed a session, this side's last ask was for it
  pub asked : (k : SocketId) (seen n : ℕ) → Has (λ (w : SentFrame). (w.socket ≡ k) × (w.frame ≡ out.reconnect_ok seen)) y.sent → HasStay k n y → HasAskedFor k n x.sent

pub record AreLedgers (mine theirs : ℕ → ℕ) (x y : Ledger) : Type 0 where
  pub near : IsLedger mine x
  pub far : IsLedger theirs y
  pub near_beside : IsBeside mine x y
  pub far_beside : IsBeside theirs y x
  -- on a socket both are in Ready by one name
  pub agree : (k : SocketId) (n m : ℕ) → HasStay k n x → HasStay k m y → n ≡ m
