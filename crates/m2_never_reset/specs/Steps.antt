-- What may happen on a link: each step with what has to be so before it, and the link after it. The steps ask for
-- little more than safety rests on: connect numbers, the order of addresses and what was lost in Ready have no part
-- in it. That the judgement tables of a session answer by these steps is a law of its own (`AnswersAreSteps`). A side
-- that is marked down by its own node is outside.
use Rattle.std.specs.Prelude.{◌≡◌, ◌≢◌, ℕ, ◌+◌, ◌-◌, ◌<◌, ◌≤◌, ◌⊎◌, max, Bool, true, false, Some}
use Rattle.std.specs.Prelude.{List, [], ◌∷◌, ◌++◌, length, drop, slice_get}
use Rattle.m2_session.specs.m2_control.declared.fields.TheConstants.{GREATEST_NUMBER}
use Rattle.m2_journal.specs.m2_fabric.declared.socket.SocketId.{SocketId}
use Rattle.m2_queues.specs.m2_message.Message.{Content}
use Rattle.m2_session.specs.Reconnect.{Reconnect}
use Rattle.m2_never_reset.specs.Roles.{Role}
use Rattle.m2_never_reset.specs.Asks.{Ident, Ask, by_ident, by_reconnect, Refusal, reset, retry, wait, Asks, AtMost}
use Rattle.m2_never_reset.specs.Mails.{Mail, letter, ack, acked_by, heard_with}
use Rattle.m2_never_reset.specs.Link.{Stand, absent, standby, waiting, connecting, asking, refused}
use Rattle.m2_never_reset.specs.Link.{offered, resumed, ready, Node, Joined, apart, by_near, by_far, Link, link, flip}

-- ---- sockets and asks

-- a side without a socket
abbrev pub IsAtRest : Stand → Type 0
IsAtRest absent = Unit {0}
IsAtRest standby = Unit {0}
IsAtRest waiting = Unit {0}
IsAtRest _ = ⊥

-- a side that has left its socket keeps its session
abbrev pub HasLeft : Stand → Type 0
HasLeft standby = Unit {0}
HasLeft waiting = Unit {0}
HasLeft _ = ⊥

-- no unjudged ask is new but that of the socket on which the side stood
abbrev pub LeavesAt : Stand → Asks → Asks → Type 0
LeavesAt s old new = (k : SocketId) (a : Ask) → new k ≡ Some a → (old k ≡ Some a) ⊎ (s ≡ asking a)

-- a global number above all that the side has drawn
pub record IsDrawn (x : Node) (number : ℕ) : Type 0 where
  pub above : x.greatest < number
  pub within : number ≤ GREATEST_NUMBER

-- an ident carries the kept client cookie, and where none is kept that of its own number
abbrev pub CarriesClient : Role → Node → Ident → Type 0
CarriesClient p x i = ((x.client ≢ 0) × (i.cookie ≡ x.client)) ⊎ ((x.client ≡ 0) × (i.cookie ≡ p.mint i.global))

abbrev pub reconnect_of : Node → (global connect : ℕ) → Reconnect
reconnect_of x global connect =
    record { client = x.client; server = x.server; global = global; connect = connect; seen = x.last }

-- ---- judgements

-- the ident is another client's than that of the session which is kept
pub record IsAnotherClient (x : Node) (i : Ident) : Type 0 where
  pub client : x.client ≢ 0
  pub server : x.server ≢ 0
  pub another : i.cookie ≢ x.client

-- An ident is accepted where no session is kept or its number isn't an old one. What another client's session had is
-- thrown away where the policy says so.
pub record Accepts (p : Role) (x : Node) (s : Stand) (i : Ident) (full : Bool) : Type 0 where
  pub not_old : (x.peer_global ≤ i.global) ⊎ (s ≡ absent)
  pub in_full : (full ≡ false) ⊎ ((p.policy.resetcheck ≡ true) × IsAnotherClient x i)

-- a reconnect names the session by both its cookies
pub record Names (r : Reconnect) (x : Node) : Type 0 where
  pub client : r.client ≡ x.client
  pub server : r.server ≡ x.server
  pub kept : x.server ≢ 0

-- a reconnect is resumed where it names the session and its number isn't an old one
pub record Resumes (x : Node) (r : Reconnect) : Type 0 where
  pub names : Names r x
  pub not_old : x.peer_global ≤ r.global

-- no session is kept, or not the one that the reconnect names
abbrev pub IsForgotten : Node → Stand → Reconnect → Type 0
IsForgotten x s r = (s ≡ absent) ⊎ (r.client ≢ x.client) ⊎ ((x.server ≢ 0) × (r.server ≢ x.server))

-- A reset has the mark of the policy where the session is forgotten. It has no mark where the session isn't
-- established yet; the side has then given up a socket of its own.
abbrev pub MayReset : Role → Node → Stand → Reconnect → Bool → Type 0
MayReset p x s r full =
    (IsForgotten x s r × (full ≡ p.policy.resetcheck)) ⊎ ((x.server ≡ 0) × IsAtRest s × (full ≡ false))

-- what an ask may be answered that takes no socket
abbrev pub MayRefuse : Role → Node → Stand → Ask → Refusal → Type 0
MayRefuse p x s (by_ident i) wait = Unit {0}
MayRefuse p x s (by_reconnect r) (reset full) = MayReset p x s r full
MayRefuse p x s (by_reconnect r) retry = Names r x
MayRefuse p x s (by_reconnect r) wait = Names r x
MayRefuse p x s _ _ = ⊥

-- ---- numbers that are set back

-- what has a number keeps its order and is numbered from 1 again; in full it is thrown away
abbrev pub still_numbered : Bool → Node → List Content
still_numbered true x = []
still_numbered false x = drop x.base x.numbered

abbrev pub set_back : Bool → Node → Node
set_back full x = record x { last = 0; base = 0; numbered = still_numbered full x }

abbrev pub times : Bool → ℕ
times true = 1
times false = 0

-- the trouble that it is to both
abbrev pub troubled : Bool → Node → Node → ℕ → ℕ
troubled full x y n = n + (times full + (length x.accepted + length y.accepted))

-- ---- a side after a judgement

-- the cookie of the session is that of the number drawn
abbrev pub after_acceptance : Role → Node → Ident → (full : Bool) → (number : ℕ) → Asks → Node
after_acceptance p x i full number asks = record (set_back full x) {
  client = i.cookie;
  server = p.mint number;
  peer_global = max x.peer_global i.global;
  greatest = number;
  heard = 0;
  asks = asks;
}

abbrev pub after_resumption : Node → Reconnect → (number : ℕ) → Asks → Node
after_resumption x r number asks =
    record x { peer_global = max x.peer_global r.global; greatest = number; heard = r.seen; asks = asks }

-- ---- a side after what it took

abbrev pub after_offer : Node → (cookie global : ℕ) → Node
after_offer x cookie global = record (set_back false x) { server = cookie; peer_global = max x.peer_global global }

abbrev pub after_letter : Node → (number acked : ℕ) → Content → Node
after_letter x number acked m =
    record x { last = number; heard = max x.heard acked; accepted = x.accepted ++ m ∷ [] }

-- ---- mail

-- one mail more is on its way to a side
abbrev pub with_mail : Mail → Stand → Stand
with_mail m (offered cookie global ms) = offered cookie global (ms ++ m ∷ [])
with_mail m (resumed seen ms) = resumed seen (ms ++ m ∷ [])
with_mail m (ready ms) = ready (ms ++ m ∷ [])
with_mail m s = s

-- it comes to the other side where the feeds are one socket
abbrev pub mailed : Mail → Joined → Stand → Stand
mailed m apart s = s
mailed m by_near s = with_mail m s
mailed m by_far s = with_mail m s

-- ---- steps: the near side acts

pub data Step (p : Role) : Link → Link → Type 0 where
  -- it opens a socket
  dials : (x y : Node) (s t : Stand) (j : Joined) (n : ℕ) (asks : Asks) →
      p.policy.server ≡ false → IsAtRest s → AtMost x.asks asks →
      Step p (link x s y t j n)
      (link (record x { heard = 0; asks = asks }) connecting y t apart n)
  asks_by_ident : (x y : Node) (t : Stand) (j : Joined) (n : ℕ) (i : Ident) →
      x.server ≡ 0 → IsDrawn x i.global → CarriesClient p x i →
      Step p (link x connecting y t j n)
      (link (record x { client = i.cookie; greatest = i.global }) (asking (by_ident i)) y t j n)
  asks_by_reconnect : (x y : Node) (t : Stand) (j : Joined) (n : ℕ) (global connect : ℕ) →
      x.server ≢ 0 → IsDrawn x global →
      Step p (link x connecting y t j n)
      (link (record x { greatest = global }) (asking (by_reconnect (reconnect_of x global connect))) y t j n)
  -- its socket breaks, it is told to wait, or it gives up a socket of its own
  leaves : (x y : Node) (s t u : Stand) (j : Joined) (n : ℕ) (asks : Asks) →
      HasLeft u → LeavesAt s x.asks asks →
      Step p (link x s y t j n)
      (link (record x { heard = 0; asks = asks }) u y t apart n)
  -- it judges the ask on which the other side stands
  accepts : (x y : Node) (s : Stand) (j : Joined) (n : ℕ) →
      (i : Ident) (full : Bool) (number : ℕ) (mine theirs : Asks) →
      Accepts p x s i full → IsDrawn x number → LeavesAt s x.asks mine → AtMost y.asks theirs →
      Step p (link x s y (asking (by_ident i)) j n)
      (link (after_acceptance p x i full number mine) (ready []) (record y { asks = theirs })
      (offered (p.mint number) number []) by_far (troubled full x y n))
  resumes : (x y : Node) (s : Stand) (j : Joined) (n : ℕ) (r : Reconnect) (number : ℕ) (mine theirs : Asks) →
      Resumes x r → IsDrawn x number → LeavesAt s x.asks mine → AtMost y.asks theirs →
      Step p (link x s y (asking (by_reconnect r)) j n)
      (link (after_resumption x r number mine) (ready []) (record y { asks = theirs }) (resumed x.last []) by_far n)
  refuses : (x y : Node) (s : Stand) (j : Joined) (n : ℕ) (a : Ask) (refusal : Refusal) (number : ℕ) (theirs : Asks) →
      MayRefuse p x s a refusal → IsDrawn x number → AtMost y.asks theirs →
      Step p (link x s y (asking a) j n)
      (link (record x { greatest = number }) s (record y { asks = theirs }) (refused a refusal) j n)
  -- it judges an ask on a socket that the other side has left; nobody hears the answer
  accepts_left : (x y : Node) (s t : Stand) (j : Joined) (n : ℕ) →
      (k : SocketId) (i : Ident) (full : Bool) (number : ℕ) (mine theirs : Asks) → y.asks k ≡ Some (by_ident i) →
      Accepts p x s i full → IsDrawn x number → LeavesAt s x.asks mine → AtMost y.asks theirs →
      Step p (link x s y t j n)
      (link (after_acceptance p x i full number mine) (ready []) (record y { asks = theirs })
      t apart (troubled full x y n))
  resumes_left : (x y : Node) (s t : Stand) (j : Joined) (n : ℕ) →
      (k : SocketId) (r : Reconnect) (number : ℕ) (mine theirs : Asks) → y.asks k ≡ Some (by_reconnect r) →
      Resumes x r → IsDrawn x number → LeavesAt s x.asks mine → AtMost y.asks theirs →
      Step p (link x s y t j n)
      (link (after_resumption x r number mine) (ready []) (record y { asks = theirs }) t apart n)
  refuses_left : (x y : Node) (s t : Stand) (j : Joined) (n : ℕ) (number : ℕ) (theirs : Asks) →
      IsDrawn x number → AtMost y.asks theirs →
      Step p (link x s y t j n)
      (link (record x { greatest = number }) s (record y { asks = theirs }) t j n)
  -- it takes the answer to its ask
  takes_offer : (x y : Node) (t : Stand) (j : Joined) (n : ℕ) (cookie global : ℕ) (ms : List Mail) →
      Step p (link x (offered cookie global ms) y t j n)
      (link (after_offer x cookie global) (ready ms) y t j (troubled false x y n))
  takes_resumption : (x y : Node) (t : Stand) (j : Joined) (n : ℕ) (seen : ℕ) (ms : List Mail) →
      Step p (link x (resumed seen ms) y t j n)
      (link (record x { heard = max x.heard seen }) (ready ms) y t j n)
  asks_again : (x y : Node) (t : Stand) (j : Joined) (n : ℕ) (a : Ask) →
      Step p (link x (refused a retry) y t j n)
      (link x connecting y t j n)
  obeys : (x y : Node) (t : Stand) (j : Joined) (n : ℕ) (a : Ask) →
      Step p (link x (refused a (reset false)) y t j n)
      (link (record (set_back false x) { server = 0 }) connecting y t j (troubled false x y n))
  -- in full, it forgets both cookies
  obeys_in_full : (x y : Node) (t : Stand) (j : Joined) (n : ℕ) (a : Ask) →
      Step p (link x (refused a (reset true)) y t j n)
      (link (record (set_back true x) { client = 0; server = 0 }) connecting y t j (troubled true x y n))
  -- messages get numbers
  numbers : (x y : Node) (ms : List Mail) (t : Stand) (j : Joined) (n : ℕ) (more : List Content) →
      Step p (link x (ready ms) y t j n)
      (link (record x { numbered = x.numbered ++ more }) (ready ms) y t j n)
  -- it writes the message that has the number
  writes : (x y : Node) (ms : List Mail) (t : Stand) (j : Joined) (n : ℕ) (number : ℕ) (m : Content) →
      1 ≤ number → slice_get x.numbered (number - 1) ≡ Some m →
      Step p (link x (ready ms) y t j n)
      (link x (ready ms) y (mailed (letter number x.last m) j t) j n)
  acknowledges : (x y : Node) (ms : List Mail) (t : Stand) (j : Joined) (n : ℕ) (number : ℕ) →
      number ≤ x.last →
      Step p (link x (ready ms) y t j n)
      (link x (ready ms) y (mailed (ack number) j t) j n)
  -- it accepts the message after the last one, and passes over any other mail
  accepts_mail : (x y : Node) (ms : List Mail) (t : Stand) (j : Joined) (n : ℕ) (number acked : ℕ) (m : Content) →
      number ≡ x.last + 1 →
      Step p (link x (ready (letter number acked m ∷ ms)) y t j n)
      (link (after_letter x number acked m) (ready ms) y t j n)
  passes_mail : (x y : Node) (mail : Mail) (ms : List Mail) (t : Stand) (j : Joined) (n : ℕ) →
      Step p (link x (ready (mail ∷ ms)) y t j n)
      (link (record x { heard = max x.heard (acked_by mail) }) (ready ms) y t j n)
  -- it counts as acknowledged what the feed has acknowledged, by what was taken or by what has come
  counts : (x y : Node) (ms : List Mail) (t : Stand) (j : Joined) (n : ℕ) (number : ℕ) →
      x.base < number → number ≤ heard_with x.heard ms →
      Step p (link x (ready ms) y t j n)
      (link (record x { base = number }) (ready ms) y t j n)

-- any number of steps, each by either side
pub data Run (p q : Role) : Link → Link → Type 0 where
  done : (l : Link) → Run p q l l
  near_acts : (l m n : Link) → Step p l m → Run p q m n → Run p q l n
  far_acts : (l m n : Link) → Step q (flip l) (flip m) → Run p q m n → Run p q l n
