-- What a feed's code has come to, beside the feed that its journal is replayed to. The replay hears all bytes at once; the
-- code takes them step by step, and so it lies behind: by what its half is still to answer, and by frames that are passed
-- over. This project's own.
use Rattle.std.specs.Prelude.{◌≡◌, ◌≢◌, ℕ, ◌≤◌, ◌&&◌, Bool, true, false, List, [], ◌∷◌, ◌++◌, length, drop, Option, Some, None}
use Rattle.std.specs.List.{AllByRecursion}
use Rattle.m2_control.specs.declared.keepalive.Keepalive.{Keepalive}
use Rattle.m2_frame.specs.Reading.{Item}
use Rattle.m2_handshake.specs.declared.stage.HalfSide.TheVariants.{Opener}
use Rattle.m2_handshake.specs.Course.{Course, course_of, text_of}
use Rattle.m2_handshake.specs.Moves.{is_authed}
use Rattle.m2_handshake.specs.Standing.{Standing}
use Rattle.m2_journal.specs.Feeds.{greets, signs, silent_feed, is_passed, stamps_in, first_owed}
use Rattle.m2_journal.specs.OutFrames as out
use Rattle.m2_journal.specs.OutFrames.{OutFrame, is_unnamed, acknowledges, keepalives_answered}
use Rattle.m2_journal.specs.Said.{Split, split, said}
use Rattle.m2_journal.specs.SideFacts.{SideFacts}
use Rattle.m2_journal.specs.State.{PartText, Feed, State}
use Rattle.m2_session.specs.declared.session.Phase.TheVariants.{Ready}
use Rattle.m2_session.specs.Phases as phase
use Rattle.m2_feed.specs.declared.writing.Writing.{Writing}
use Rattle.m2_feed.specs.declared.writing.Writing.TheVariants.{Nothing, Named, Acknowledgement, KeepaliveAnswer}
use Rattle.m2_feed.specs.FeedNow.{Reading, shaking, framing, FeedNow}

-- ---- words

abbrev pub is_ready : State → Bool
is_ready s = phase.is s.session.phase Ready

-- a text that is passed over where the record stands
abbrev pub passes_over : State → Item → Bool
passes_over s item = is_ready s && is_passed s.last (said item)

-- ---- while the opener's half reads

-- The replay has the half at rest at once, with all that it writes until then; where both sides have signed by then, it
-- has no half, and what is unread is split into texts. Of those none is taken.
pub record Shakes (h : Standing) (v : FeedNow) (d : Feed) : Type 0 where
  pub side : h.side ≡ Opener
  pub unsigned : is_authed h.stage ≡ false
  pub hand : d.hand ≡ (signs (course_of h []).standing (silent_feed d.socket true 0 false)).hand
  pub got : d.got ≡ (signs (course_of h []).standing (silent_feed d.socket true 0 false)).got
  pub rest : d.rest ≡ (signs (course_of h []).standing (silent_feed d.socket true 0 false)).rest
  pub texts : d.texts ≡ greets (v.composed ++ text_of (course_of h []).events) []
  pub taken : d.taken ≡ 0
  pub answered : d.answered ≡ 0
  pub writing : v.writing ≡ Nothing
  pub stamps : v.stamps ≡ []

-- ---- what is written, once both sides have signed

-- a text that isn't that of an entry, of which some is put: all that may be going on there have the same length, and are
-- of one kind
abbrev pub IsOfKind : (OutFrame → Type 0) → (len : ℕ) → PartText → Type 0
IsOfKind kind len t = kind t.frame × (length t.left ≡ len)

abbrev pub IsAcknowledgement : OutFrame → Type 0
IsAcknowledgement (out.acknowledgement number) = Unit {0}
IsAcknowledgement _ = ⊥

abbrev pub IsKeepaliveAnswer : OutFrame → Type 0
IsKeepaliveAnswer (out.keepalive_answer k) = Unit {0}
IsKeepaliveAnswer _ = ⊥

-- this text is one of these
abbrev pub HasText : PartText → List PartText → Type 0
HasText t texts = (before : List PartText) × (after : List PartText) × (texts ≡ before ++ t ∷ after)

pub record GoesOnWith (kind : OutFrame → Type 0) (w : OutFrame) (left : List ℕ) (texts : List PartText) : Type 0 where
  pub some : left ≢ []
  pub one : HasText (record { frame = w; left = left }) texts
  pub all : AllByRecursion (IsOfKind kind (length left)) texts

-- an acknowledgement up to this number may be put now
pub record MayAcknowledge (f : SideFacts) (s : State) (d : Feed) (number : ℕ) : Type 0 where
  pub owes : s.owes ≡ true
  pub kept : f.policy.lossy ≡ false
  pub from : first_owed d ≤ number
  pub to : number ≤ s.last

-- the first keepalive that isn't answered is this one
abbrev pub IsNextStamp : Keepalive → List Keepalive → Type 0
IsNextStamp k stamps = (later : List Keepalive) × (stamps ≡ k ∷ later)

-- what is left of a frame that an entry names, or of a handshake
pub record WritesNamed (acks : Bool) (left : List ℕ) (d : Feed) : Type 0 where
  pub frame : OutFrame
  pub named : is_unnamed frame ≡ false
  pub pays : acknowledges frame ≡ acks
  pub some : left ≢ []
  pub texts : d.texts ≡ record { frame = frame; left = left } ∷ []

-- an acknowledgement that is composed, and one of which some is put
pub record WritesAcknowledgement (f : SideFacts) (s : State) (v : FeedNow) (d : Feed) (number : ℕ) : Type 0 where
  pub ready : is_ready s ≡ true
  pub may : MayAcknowledge f s d number
  pub texts : d.texts ≡ []
  pub composed : v.composed ≡ out.text_of f (out.acknowledgement number)

pub record HasPutAcknowledgement (s : State) (v : FeedNow) (d : Feed) (number : ℕ) : Type 0 where
  pub ready : is_ready s ≡ true
  pub goes_on : GoesOnWith IsAcknowledgement (out.acknowledgement number) v.composed d.texts

-- the answer to the next keepalive that is composed, and one of which some is put
pub record WritesKeepaliveAnswer (f : SideFacts) (s : State) (v : FeedNow) (d : Feed) : Type 0 where
  pub ready : is_ready s ≡ true
  pub stamp : Keepalive
  pub next : IsNextStamp stamp v.stamps
  pub texts : d.texts ≡ []
  pub composed : v.composed ≡ out.text_of f (out.keepalive_answer stamp)

pub record HasPutKeepaliveAnswer (s : State) (v : FeedNow) (d : Feed) : Type 0 where
  pub ready : is_ready s ≡ true
  pub stamp : Keepalive
  pub next : IsNextStamp stamp v.stamps
  pub goes_on : GoesOnWith IsKeepaliveAnswer (out.keepalive_answer stamp) v.composed d.texts

abbrev pub WritesAs : Writing → SideFacts → State → FeedNow → Feed → Type 0
WritesAs Nothing f s v d = (v.composed ≡ []) × (d.texts ≡ [])
WritesAs (Named acks) f s v d = WritesNamed acks v.composed d
WritesAs (Acknowledgement number false) f s v d = WritesAcknowledgement f s v d number
WritesAs (Acknowledgement number true) f s v d = HasPutAcknowledgement s v d number
WritesAs (KeepaliveAnswer false) f s v d = WritesKeepaliveAnswer f s v d
WritesAs (KeepaliveAnswer true) f s v d = HasPutKeepaliveAnswer s v d

-- ---- once both sides have signed

-- Of the texts that the replay has got some were taken, the next ones the code has passed over, and the others are still
-- before it. Outside Ready no MESSAGE is granted.
pub record Frames (f : SideFacts) (s : State) (v : FeedNow) (d : Feed) (rest : List ℕ) (granted : Bool) : Type 0 where
  pub hand : d.hand ≡ None
  pub before : List Item
  pub passed : List Item
  pub left : List Item
  pub got : d.got ≡ before ++ passed ++ left
  pub taken : d.taken ≡ length before
  pub splits : split rest ≡ record { items = left; rest = d.rest }
  pub passes : AllByRecursion (λ item. passes_over s item ≡ true) passed
  pub ungranted : is_ready s ≡ false → granted ≡ false
  pub answered : d.answered ≤ length (stamps_in (before ++ passed))
  pub stamps : v.stamps ≡ drop d.answered (stamps_in (before ++ passed))
  pub writes : WritesAs v.writing f s v d

abbrev pub ReadsAs : Reading → SideFacts → State → FeedNow → Feed → Type 0
ReadsAs (shaking h) f s v d = Shakes h v d
ReadsAs (framing rest granted) f s v d = Frames f s v d rest granted

pub record Stands (f : SideFacts) (s : State) (v : FeedNow) (d : Feed) : Type 0 where
  pub socket : v.end.id ≡ d.socket
  pub opened : v.opened ≡ d.opened
  pub reads : ReadsAs v.reading f s v d
