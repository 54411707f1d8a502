-- What a reader has accepted is some of what the writer has composed, in order: what it accepted before it came to its feed was
-- composed before anything was composed there, and what it accepted since are the first ones there.
use Rattle.std.proofs.Common.{◌≡◌, ℕ, ◌+◌, Bool, not, List, [], ◌∷◌, ◌++◌, length, map, Option, Some, None, refl, sym, ap, ◌∙◌, subst, arith, append-nil, append_assoc, length-append}
use Rattle.std.specs.Prelude.{slice_get}
use Rattle.std.specs.List.{filter, filter_map}
use Rattle.std.proofs.lemmas.List.{map-append, length-map}
use Rattle.std.proofs.lemmas.List.Elements.{filter-append, filter_map-append}
use Rattle.m2_channel.specs.Channel.{KeyedMessage}
use Rattle.m2_channel.proofs.Keys.{one_more}
use Rattle.m2_never_reset.specs.Order.{AreFirstOf}
use Rattle.m2_dispatch.specs.Laws.{IsSublist}
use Rattle.m2_journal.specs.m2_fabric.declared.socket.SocketId.{SocketId}
use Rattle.m2_journal.specs.m2_fabric.Sockets.{same_socket}
use Rattle.m2_journal.specs.SideFacts.{SideFacts}
use Rattle.m2_journal.specs.State.{SentFrame}
use Rattle.m2_journal.specs.m2_message.Message.{Content, unnumbered}
use Rattle.m2_never_reset.specs.Frames.{is_ask, answers_on}
use Rattle.m2_journal.specs.m2_session.declared.session.Phase.{Phase}
use Rattle.m2_journal.specs.m2_session.declared.session.Phase.TheVariants as phase
use Rattle.m2_channel.proofs.Frames.{AreNumbered, Mail, mail_of, mails_on, mails_in, plain, messages_on, messages_in, numbered_at, on_is_some, stands_on}
use Rattle.m2_channel.proofs.Moves.{Spot, View, Move, rests, posts, opens, leaves, gives_up, refuses, takes_on, asks, settles, numbers, accepts, moved, May, IsBrought, OnSpot}
use Rattle.m2_channel.proofs.Sublists.{some_both, some_first, some_of_some}

-- ---- frames in two parts

abbrev Here : SocketId → SentFrame → Bool
Here k x = same_socket k x.socket

pub on_both : (k : SocketId) (xs ys : List SentFrame) → messages_on k (xs ++ ys) ≡ messages_on k xs ++ messages_on k ys
on_both k xs ys =
    ap (λ l. map plain (filter_map mail_of (filter (λ w. not (is_ask w)) (map (λ (x : SentFrame). x.frame) l)))) (filter-append (Here k) xs ys)
    ∙ ap (λ l. map plain (filter_map mail_of (filter (λ w. not (is_ask w)) l))) (map-append (λ (x : SentFrame). x.frame) (filter (Here k) xs) (filter (Here k) ys))
    ∙ ap (λ l. map plain (filter_map mail_of l)) (filter-append (λ w. not (is_ask w)) (map (λ (x : SentFrame). x.frame) (filter (Here k) xs)) (map (λ (x : SentFrame). x.frame) (filter (Here k) ys)))
    ∙ ap (map plain) (filter_map-append mail_of (answers_on k xs) (answers_on k ys))
    ∙ map-append plain (mails_on k xs) (mails_on k ys)

pub in_both : (xs ys : List SentFrame) → messages_in (xs ++ ys) ≡ messages_in xs ++ messages_in ys
in_both xs ys = ap (map plain) (filter_map-append (λ (x : SentFrame). mail_of x.frame) xs ys) ∙ map-append plain (mails_in xs) (mails_in ys)

-- ---- what a reader has accepted

abbrev pub contents : List KeyedMessage → List Content
contents xs = map (λ (x : KeyedMessage). x.message) xs

-- in Ready as many as the last number says, and none before
abbrev pub CountIs : Phase → (last : ℕ) → List Content → Type 0
CountIs phase.Ready last now = last ≡ length now
CountIs p last now = now ≡ []

pub record ReadsOn (k : SocketId) (p : Phase) (last : ℕ) (now : List Content) (before sent : List SentFrame) : Type 0 where
  pub fresh : messages_on k before ≡ []
  pub first : AreFirstOf now (messages_on k sent)
  pub count : CountIs p last now

abbrev pub ReadsAt : Option Spot → Phase → (last : ℕ) → List Content → (before sent : List SentFrame) → Type 0
ReadsAt (Some p) q last now before sent = ReadsOn p.socket q last now before sent
ReadsAt None q last now before sent = now ≡ []

-- the writer has composed these frames
pub record Reads (r : View) (sent : List SentFrame) : Type 0 where
  pub before : List SentFrame
  pub after : List SentFrame
  pub parts : sent ≡ before ++ after
  pub old : List Content
  pub now : List Content
  pub all : contents r.accepted ≡ old ++ now
  pub past : IsSublist old (messages_in before)
  pub feed : ReadsAt r.feed r.phase r.last now before sent

-- so it is some of all
pub reads_some : (r : View) (sent : List SentFrame) → Reads r sent → IsSublist (contents r.accepted) (messages_in sent)
reads_some r sent h =
    subst (λ l. IsSublist l (messages_in sent)) (sym h.all)
    (subst (IsSublist (h.old ++ h.now)) (sym (ap messages_in h.parts ∙ in_both h.before h.after))
    (some_both h.old (messages_in h.before) h.now (messages_in h.after) h.past (at r.feed h.feed)))
  where
    at : (o : Option Spot) → ReadsAt o r.phase r.last h.now h.before sent → IsSublist h.now (messages_in h.after)
    at None e = subst (λ l. IsSublist l (messages_in h.after)) (sym e) tt
    at (Some p) e =
        let here : messages_on p.socket sent ≡ messages_on p.socket h.after =
        ap (messages_on p.socket) h.parts ∙ on_both p.socket h.before h.after ∙ ap (λ l. l ++ messages_on p.socket h.after) e.fresh in
        some_of_some h.now (messages_on p.socket h.after) (messages_in h.after)
        (subst (IsSublist h.now) (sym e.first.1 ∙ here) (some_first h.now e.first.0)) (on_is_some p.socket h.after)

-- ---- the writer sends more

pub reads_more : (r : View) (sent more : List SentFrame) → Reads r sent → Reads r (sent ++ more)
reads_more r sent more h = record {
  before = h.before;
  after = h.after ++ more;
  parts = ap (λ l. l ++ more) h.parts ∙ append_assoc h.before h.after more;
  old = h.old;
  now = h.now;
  all = h.all;
  past = h.past;
  feed = at r.feed h.feed;
}
  where
    at : (o : Option Spot) → ReadsAt o r.phase r.last h.now h.before sent → ReadsAt o r.phase r.last h.now h.before (sent ++ more)
    at None e = e
    at (Some p) e = record {
      fresh = e.fresh;
      first = (e.first.0 ++ messages_on p.socket more, on_both p.socket sent more ∙ ap (λ l. l ++ messages_on p.socket more) e.first.1 ∙ append_assoc h.now e.first.0 (messages_on p.socket more));
      count = e.count;
    }

-- ---- the reader moves

-- where it comes to a socket nothing was composed there
abbrev pub IsFresh : Move → List SentFrame → Type 0
IsFresh (opens k) sent = messages_on k sent ≡ []
IsFresh (takes_on k cookie global item) sent = messages_on k sent ≡ []
IsFresh m sent = Unit {0}

get_at : {X : Type 0} (xs ys : List X) (y : X) → slice_get (xs ++ y ∷ ys) (length xs) ≡ Some y
get_at [] ys y = refl
get_at (x ∷ xs) ys y = get_at xs ys y

-- what it accepted since is no more than what the socket's first ones are
one_brought : (sent : List SentFrame) (p : Spot) (last : ℕ) (now : List Content) (x : KeyedMessage) → AreNumbered 0 (mails_on p.socket sent) → IsBrought sent p last x → last ≡ length now →
    AreFirstOf now (messages_on p.socket sent) → AreFirstOf (now ++ x.message ∷ []) (messages_on p.socket sent)
one_brought sent p last now x numbered b count first =
    let m : Mail = record { number = last + 1; content = b.content } in
    let at = stands_on p.socket sent b.place (last + 1) b.acked b.content b.more b.first in
    let place = numbered_at 0 at.before at.behind m (subst (AreNumbered 0) at.all numbered) in
    let sizes = length-map at.before plain in
    let size : length now ≡ length (map plain at.before) = omega (arith, place, count, sizes) in
    let whole : messages_on p.socket sent ≡ map plain at.before ++ plain m ∷ map plain at.behind = ap (map plain) at.all ∙ map-append plain at.before (m ∷ at.behind) in
    subst (λ z. AreFirstOf (now ++ z ∷ []) (messages_on p.socket sent)) (sym b.same)
    (one_more now (messages_on p.socket sent) (unnumbered b.content) first
    (ap₂ whole size ∙ get_at (map plain at.before) (map plain at.behind) (plain m)))
  where
    ap₂ : {xs ys : List Content} {n k : ℕ} → xs ≡ ys → n ≡ k → slice_get xs n ≡ slice_get ys k
    ap₂ e g = rw (e, g) refl

module _ (f : SideFacts) (sent : List SentFrame) (r : View) (h : Reads r sent) where
  -- the feed and what was accepted stay
  still : (w : View) → w.accepted ≡ r.accepted → ReadsAt w.feed w.phase w.last h.now h.before sent → Reads w sent
  still w e at = record { before = h.before; after = h.after; parts = h.parts; old = h.old; now = h.now; all = ap contents e ∙ h.all; past = h.past; feed = at }

  -- all that was accepted is past
  anew : (w : View) → w.accepted ≡ r.accepted → ReadsAt w.feed w.phase w.last [] sent sent → Reads w sent
  anew w e at = record {
    before = sent;
    after = [];
    parts = sym (append-nil sent);
    old = contents r.accepted;
    now = [];
    all = ap contents e ∙ sym (append-nil (contents r.accepted));
    past = reads_some r sent h;
    feed = at;
  }

  asked : (c g : ℕ) → May f sent (asks c g) r → Reads (moved (asks c g) r) sent
  asked c g may = still (moved (asks c g) r) refl (at r.feed (subst (λ p. ReadsAt r.feed p r.last h.now h.before sent) may h.feed))
    where
      at : (o : Option Spot) → ReadsAt o phase.Connecting r.last h.now h.before sent → ReadsAt o phase.IdentSent r.last h.now h.before sent
      at None e = e
      at (Some p) e = record { fresh = e.fresh; first = e.first; count = e.count }

  settled : (c : ℕ) → May f sent (settles c) r → Reads (moved (settles c) r) sent
  settled c may = still (moved (settles c) r) refl (at r.feed (subst (λ p. ReadsAt r.feed p r.last h.now h.before sent) may h.feed))
    where
      at : (o : Option Spot) → ReadsAt o phase.IdentSent r.last h.now h.before sent → ReadsAt o phase.Ready 0 h.now h.before sent
      at None e = e
      at (Some p) e = record { fresh = e.fresh; first = e.first; count = sym (ap length e.count) }

  accepted_one : (x : KeyedMessage) → ((k : SocketId) → AreNumbered 0 (mails_on k sent)) → May f sent (accepts x) r → Reads (moved (accepts x) r) sent
  accepted_one x numbered may = at r.feed may.brought (subst (λ p. ReadsAt r.feed p r.last h.now h.before sent) may.phase h.feed)
    where
      at : (o : Option Spot) → OnSpot o (λ p. IsBrought sent p r.last x) → ReadsAt o phase.Ready r.last h.now h.before sent → Reads (moved (accepts x) (record r { feed = o })) sent
      at None b e = absurd b
      at (Some p) b e = record {
        before = h.before;
        after = h.after;
        parts = h.parts;
        old = h.old;
        now = h.now ++ x.message ∷ [];
        all = map-append (λ (x : KeyedMessage). x.message) r.accepted (x ∷ []) ∙ ap (λ l. l ++ x.message ∷ []) h.all ∙ append_assoc h.old h.now (x.message ∷ []);
        past = h.past;
        feed = subst (λ q. ReadsOn p.socket q (r.last + 1) (h.now ++ x.message ∷ []) h.before sent) (sym may.phase) (record {
          fresh = e.fresh;
          first = one_brought sent p r.last h.now x (numbered p.socket) b e.count e.first;
          count = let parts = length-append h.now (x.message ∷ []) in omega (arith, e.count, parts);
        });
      }

  pub reads_after : (m : Move) → ((k : SocketId) → AreNumbered 0 (mails_on k sent)) → May f sent m r → IsFresh m sent → Reads (moved m r) sent
  reads_after rests numbered may fresh = h
  reads_after (posts m) numbered may fresh = still (moved (posts m) r) refl h.feed
  reads_after (opens k) numbered may fresh = anew (moved (opens k) r) refl (record { fresh = fresh; first = (messages_on k sent, refl); count = refl })
  reads_after (leaves p thrown) numbered may fresh = anew (moved (leaves p thrown) r) refl refl
  reads_after gives_up numbered may fresh = anew (moved gives_up r) refl refl
  reads_after (refuses k ws item) numbered may fresh = still (moved (refuses k ws item) r) refl h.feed
  reads_after (takes_on k c g item) numbered may fresh = anew (moved (takes_on k c g item) r) refl (record { fresh = fresh; first = (messages_on k sent, refl); count = refl })
  reads_after (asks c g) numbered may fresh = asked c g may
  reads_after (settles c) numbered may fresh = settled c may
  reads_after (numbers n m) numbered may fresh = still (moved (numbers n m) r) refl h.feed
  reads_after (accepts x) numbered may fresh = accepted_one x numbered may
