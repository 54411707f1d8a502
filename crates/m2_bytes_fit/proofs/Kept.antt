-- What lawful entries of one journal keep of each socket: what was put there are the texts of the frames that were sent, what
-- was got is what the feed has heard, and what was sent there are the answers that were judged, and then the record's frames.
use Rattle.std.proofs.Common.{◌≡◌, ℕ, ◌⊎◌, inl, inr, Bool, true, false, if◌then◌else◌, List, [], ◌∷◌, ◌++◌, Option, Some, None, refl, sym, ap, ◌∙◌, subst, append_assoc, append-nil}
use Rattle.std.specs.List.{AllByRecursion, flat_map}
use Rattle.m2_feed.specs.m2_fabric.declared.socket.SocketId.{SocketId}
use Rattle.m2_feed.specs.m2_fabric.Sockets.{is_among, same_socket}
use Rattle.m2_feed.specs.m2_handshake.Course.{Course, opener_course, text_of}
use Rattle.m2_feed.specs.m2_handshake.Greeting.{greeting}
use Rattle.m2_feed.specs.m2_handshake.Moves.{is_authed}
use Rattle.m2_feed.specs.m2_handshake.Standing.{fed}
use Rattle.m2_feed.proofs.m2_handshake.Speaking.{opener_greets, text_is_front}
use Rattle.m2_feed.specs.m2_session.SessionLaws.{takes}
use Rattle.m2_feed.specs.m2_journal.declared.entry.JudgedItem.{JudgedItem}
use Rattle.m2_feed.specs.m2_journal.Feeds.{signs, silent_feed, split_into}
use Rattle.m2_feed.specs.m2_journal.Items.{JournalItem}
use Rattle.m2_feed.specs.m2_journal.Lawful.{judged_on}
use Rattle.m2_feed.specs.m2_journal.Laws.{IfFed}
use Rattle.m2_feed.specs.m2_journal.OutFrames.{OutFrame, is_unnamed, replies_of}
use Rattle.m2_feed.specs.m2_journal.Said.{split}
use Rattle.m2_feed.specs.m2_journal.SideFacts.{SideFacts, opener_half}
use Rattle.m2_feed.specs.m2_journal.State.{PartText, Feed, State}
use Rattle.m2_feed.proofs.Courses.{ran}
use Rattle.m2_never_reset.specs.Frames.{is_ask, frames_on}
use Rattle.m2_bytes_fit.specs.Ends.{read_on, wrote_on, takings_on}
use Rattle.m2_bytes_fit.specs.Texts.{texts_of}
use Rattle.m2_bytes_fit.proofs.Less.{FeedLess, SameBytes}
use Rattle.m2_bytes_fit.proofs.Lists.{some_not_none}
use Rattle.m2_bytes_fit.proofs.Puts.{HasPut, IsPut, is_put, late_text}
use Rattle.m2_bytes_fit.proofs.Says.{NoAsk}

-- ---- what is seen of a socket

pub record View : Type 0 where
  pub read : List ℕ
  pub wrote : List ℕ
  pub takings : List (List ℕ)
  pub opened : Bool
  pub judged : List JudgedItem
  pub frames : List OutFrame
  pub feed : Option Feed

abbrev pub feed_on : SocketId → Option Feed → Option Feed
feed_on k (Some d) = if same_socket k d.socket then Some d else None
feed_on k None = None

abbrev pub view : List JournalItem → State → SocketId → View
view is s k = record {
  read = read_on k is;
  wrote = wrote_on k is;
  takings = takings_on k is;
  opened = is_among k s.opened;
  judged = judged_on k s.judgements;
  frames = frames_on k s.sent;
  feed = feed_on k s.feed;
}

abbrev pub replied : List JudgedItem → List OutFrame
replied judged = flat_map (λ i. replies_of i.answer) judged

-- ---- a socket that the side opened

-- the opener's half, by all that was read there
abbrev pub course_at : SideFacts → (read : List ℕ) → Course
course_at f read = opener_course f.node.rules.auth f.node.entity f.peer read

abbrev pub greeting_of : SideFacts → List ℕ
greeting_of f = greeting f.node.rules.auth f.node.entity f.peer []

-- the feed that has heard it
abbrev pub heard_of : SideFacts → SocketId → (read : List ℕ) → Feed
heard_of f k read = signs (course_at f read).standing (silent_feed k true 0 false)

abbrev pub IsNamed : PartText → Type 0
IsNamed t = is_unnamed t.frame ≡ false

pub record OpenedFeed (f : SideFacts) (read wrote : List ℕ) (frames : List OutFrame) (d : Feed) : Type 0 where
  pub opened : d.opened ≡ true
  pub hand : d.hand ≡ (heard_of f d.socket read).hand
  pub got : d.got ≡ (heard_of f d.socket read).got
  pub rest : d.rest ≡ (heard_of f d.socket read).rest
  pub put : HasPut f wrote (text_of (course_at f read).events ++ texts_of f frames) d.texts
  -- before both sides have signed it sends nothing
  pub unsigned : (d.hand ≡ None) ⊎ ((frames ≡ []) × AllByRecursion IsNamed d.texts)

-- asks, and behind them what is none
pub record AsksComeFirst (frames : List OutFrame) : Type 0 where
  pub asks : List OutFrame
  pub mails : List OutFrame
  pub all : frames ≡ asks ++ mails
  pub are : AllByRecursion (λ w. is_ask w ≡ true) asks
  pub none : AllByRecursion NoAsk mails

pub record OpenedKept (f : SideFacts) (v : View) : Type 0 where
  pub unjudged : v.judged ≡ []
  pub put : IsPut f v.wrote (greeting_of f) v.frames
  pub order : AsksComeFirst v.frames
  pub feed : IfFed v.feed (OpenedFeed f v.read v.wrote v.frames)

-- ---- a socket of the peer

pub record UntakenKept (v : View) : Type 0 where
  pub read : v.read ≡ []
  pub wrote : v.wrote ≡ []
  pub feed : v.feed ≡ None
  pub frames : v.frames ≡ replied v.judged

pub record TakenFeed (f : SideFacts) (unread read wrote : List ℕ) (after : List OutFrame) (d : Feed) : Type 0 where
  pub opened : d.opened ≡ false
  pub hand : d.hand ≡ None
  pub got : d.got ≡ (split (unread ++ read)).items
  pub rest : d.rest ≡ (split (unread ++ read)).rest
  pub put : HasPut f wrote (texts_of f after) d.texts

pub record TakenKept (f : SideFacts) (unread : List ℕ) (v : View) : Type 0 where
  pub before : List JudgedItem
  pub last : JudgedItem
  pub judged : v.judged ≡ before ++ last ∷ []
  pub took : takes last.answer ≡ true
  pub after : List OutFrame
  pub frames : v.frames ≡ replied v.judged ++ after
  pub no_asks : AllByRecursion NoAsk v.frames
  pub put : IsPut f v.wrote [] after
  pub feed : IfFed v.feed (TakenFeed f unread v.read v.wrote after)

-- ---- any socket

abbrev pub KeptBy : SideFacts → (opened : Bool) → (takings : List (List ℕ)) → View → Type 0
KeptBy f true [] v = OpenedKept f v
KeptBy f false [] v = UntakenKept v
KeptBy f false (u ∷ []) v = TakenKept f u v
KeptBy f opened takings v = ⊥

abbrev pub Kept : SideFacts → View → Type 0
Kept f v = KeptBy f v.opened v.takings v

-- ---- the feed is left, or stays

abbrev pub with_feed : Option Feed → View → View
with_feed o v = record v { feed = o }

less_if : (o p : Option Feed) (P : Feed → Type 0) → ((d e : Feed) → SameBytes d e → P d → P e) → FeedLess o p → IfFed o P → IfFed p P
less_if o None P each l h = tt
less_if None (Some e) P each l h = absurd l
less_if (Some d) (Some e) P each l h = each d e l h

opened_same : (f : SideFacts) (read wrote : List ℕ) (frames : List OutFrame) (d e : Feed) → SameBytes d e → OpenedFeed f read wrote frames d → OpenedFeed f read wrote frames e
opened_same f read wrote frames d e same h = record {
  opened = same.opened ∙ h.opened;
  hand = same.hand ∙ h.hand ∙ ap (λ k. (heard_of f k read).hand) (sym same.socket);
  got = same.got ∙ h.got ∙ ap (λ k. (heard_of f k read).got) (sym same.socket);
  rest = same.rest ∙ h.rest ∙ ap (λ k. (heard_of f k read).rest) (sym same.socket);
  put = subst (HasPut f wrote (text_of (course_at f read).events ++ texts_of f frames)) (sym same.texts) h.put;
  unsigned =
      subst (λ o. (o ≡ None) ⊎ ((frames ≡ []) × AllByRecursion IsNamed e.texts)) (sym same.hand)
      (subst (λ ts. (d.hand ≡ None) ⊎ ((frames ≡ []) × AllByRecursion IsNamed ts)) (sym same.texts) h.unsigned);
}

taken_same : (f : SideFacts) (unread read wrote : List ℕ) (after : List OutFrame) (d e : Feed) → SameBytes d e → TakenFeed f unread read wrote after d → TakenFeed f unread read wrote after e
taken_same f unread read wrote after d e same h = record {
  opened = same.opened ∙ h.opened;
  hand = same.hand ∙ h.hand;
  got = same.got ∙ h.got;
  rest = same.rest ∙ h.rest;
  put = subst (HasPut f wrote (texts_of f after)) (sym same.texts) h.put;
}

none_less : (o p : Option Feed) → FeedLess o p → o ≡ None → p ≡ None
none_less o None l e = refl
none_less None (Some d) l e = absurd l
none_less (Some c) (Some d) l e = some_not_none e

pub kept_less : (f : SideFacts) (v : View) (o : Option Feed) → FeedLess v.feed o → Kept f v → Kept f (with_feed o v)
kept_less f v o less h = at v.opened v.takings h
  where
    at : (b : Bool) (ts : List (List ℕ)) → KeptBy f b ts v → KeptBy f b ts (with_feed o v)
    at true [] k = record {
      unjudged = k.unjudged;
      put = k.put;
      order = k.order;
      feed = less_if v.feed o (OpenedFeed f v.read v.wrote v.frames) (opened_same f v.read v.wrote v.frames) less k.feed;
    }
    at true (u ∷ us) k = absurd k
    at false [] k = record { read = k.read; wrote = k.wrote; feed = none_less v.feed o less k.feed; frames = k.frames }
    at false (u ∷ []) k = record {
      before = k.before;
      last = k.last;
      judged = k.judged;
      took = k.took;
      after = k.after;
      frames = k.frames;
      no_asks = k.no_asks;
      put = k.put;
      feed = less_if v.feed o (TakenFeed f u v.read v.wrote k.after) (taken_same f u v.read v.wrote k.after) less k.feed;
    }
    at false (u ∷ u' ∷ us) k = absurd k

-- ---- what was put on an opened socket, from its feed

hand_signed : (f : SideFacts) (k : SocketId) (read : List ℕ) → (heard_of f k read).hand ≡ None → is_authed (course_at f read).standing.stage ≡ true
hand_signed f k read e = at (is_authed (course_at f read).standing.stage) refl e
  where
    at : (b : Bool) → is_authed (course_at f read).standing.stage ≡ b →
        (if b then split_into (split (course_at f read).standing.rest) (record (silent_feed k true 0 false) { hand = None })
        else record (silent_feed k true 0 false) { hand = Some (course_at f read).standing }).hand ≡ None → is_authed (course_at f read).standing.stage ≡ true
    at true q h = q
    at false q h = some_not_none h

pub signed_text : (f : SideFacts) (read : List ℕ) → is_authed (course_at f read).standing.stage ≡ true → text_of (course_at f read).events ≡ greeting_of f
signed_text f read q = opener_greets.computed f.node.rules.auth f.node.entity f.peer read q

pub opened_put : (f : SideFacts) (read wrote : List ℕ) (frames : List OutFrame) (d : Feed) → OpenedFeed f read wrote frames d → IsPut f wrote (greeting_of f) frames
opened_put f read wrote frames d h = by_hand h.unsigned
  where
    text : List ℕ
    text = text_of (course_at f read).events

    unsigned_so : (texts : List PartText) → HasPut f wrote (text ++ texts_of f frames) texts → frames ≡ [] → AllByRecursion IsNamed texts → IsPut f wrote (greeting_of f) frames
    unsigned_so texts put none named =
        let front = text_is_front f.node.rules.auth f.node.entity f.peer read (course_at f read).events (course_at f read).standing (ran (fed (opener_half f) read)).runs in
        at texts put named front
      where
        nothing : texts_of f frames ≡ []
        nothing = ap (texts_of f) none

        at : (texts : List PartText) → HasPut f wrote (text ++ texts_of f frames) texts → AllByRecursion IsNamed texts → (more : List ℕ) × (greeting_of f ≡ text ++ more) → IsPut f wrote (greeting_of f) frames
        at [] p n (more, e) = record {
          late = [];
          left = more;
          all = ap (λ l. l ++ more) (p.none refl ∙ ap (λ l. text ++ l) nothing ∙ append-nil text) ∙ sym e ∙ sym (append-nil (greeting_of f))
              ∙ ap (λ l. greeting_of f ++ l) (sym nothing) ∙ ap (λ ws. greeting_of f ++ texts_of f ws) (sym (append-nil frames));
          begun = tt;
        }
        at (t ∷ ts) p n (more, e) =
            let late : late_text f t.frame ≡ [] = rw n.0 refl in
            record {
              late = [];
              left = t.left ++ more;
              all = sym (append_assoc wrote t.left more)
                  ∙ ap (λ l. l ++ more) (p.each.0.0 ∙ ap (λ l. (text ++ texts_of f frames) ++ l) late ∙ append-nil (text ++ texts_of f frames) ∙ ap (λ l. text ++ l) nothing ∙ append-nil text)
                  ∙ sym e ∙ sym (append-nil (greeting_of f)) ∙ ap (λ l. greeting_of f ++ l) (sym nothing) ∙ ap (λ ws. greeting_of f ++ texts_of f ws) (sym (append-nil frames));
              begun = tt;
            }

    by_hand : (d.hand ≡ None) ⊎ ((frames ≡ []) × AllByRecursion IsNamed d.texts) → IsPut f wrote (greeting_of f) frames
    by_hand (inl none) =
        let signed = hand_signed f d.socket read (sym h.hand ∙ none) in
        is_put f wrote (greeting_of f) frames d.texts (subst (λ l. HasPut f wrote (l ++ texts_of f frames) d.texts) (signed_text f read signed) h.put)
    by_hand (inr (none, named)) = unsigned_so d.texts h.put none named
