-- Records that are alike compose alike, but for want of memory, and draw one number for an ask.
use Rattle.std.proofs.Common.{◌≡◌, ℕ, ◌+◌, ◌++◌, List, Bool, true, false, Option, None, Some, Ok, refl, sym, subst, ◌∙◌, ap, arith}
use Rattle.std.specs.Prelude.{◌≢◌}
use Rattle.std.specs.Option.{option_map}
use Rattle.m2_fabric.proofs.m2_lemmas.Options.{some_same}
use Rattle.m2_script.specs.m2_center.m2_core.Asking.{AsksWith, IsDraw}
use Rattle.m2_script.specs.m2_center.m2_core.Calls.{ask_event, ask_frame, asks_ident}
use Rattle.m2_script.specs.m2_center.m2_core.CoreNow.{CoreNow}
use Rattle.m2_script.specs.m2_center.m2_core.LiveNow.{LiveNow}
use Rattle.m2_script.specs.m2_center.m2_core.Numbering.{HasNumbered}
use Rattle.m2_script.specs.m2_center.m2_core.Composing.{HasAcknowledged, HasAnswered}
use Rattle.m2_script.specs.m2_center.m2_core.OnFeed.{AnswersStamp, ChangesRoom, ComposesAsk, ComposesFeed, ComposesMessage}
use Rattle.m2_script.specs.m2_center.m2_core.ToCompose.{text_on, to_compose}
use Rattle.m2_script.specs.m2_center.m2_core.declared.asking.CoreAsk.{CoreAsk}
use Rattle.m2_script.specs.m2_center.m2_core.declared.asking.CoreAsk.TheVariants as ask
use Rattle.m2_script.specs.m2_center.m2_core.declared.to_compose.CoreText.{CoreText}
use Rattle.m2_script.specs.m2_center.m2_core.declared.to_compose.CoreText.TheVariants as text
use Rattle.m2_dispatch.specs.m2_frame.Text as frame
use Rattle.m2_dispatch.specs.m2_message.Message.{Content, with_numbers}
use Rattle.m2_dispatch.specs.m2_message.MessageFrame.{parts_of}
use Rattle.m2_dispatch.specs.m2_queues.OutQueues.{Outgoing, after_next, after_sent, message_at, next_number}
use Rattle.m2_dispatch.specs.m2_shared.Draw.{drawn_after, word_told, IsDrawAlone}
use Rattle.m2_dispatch.specs.m2_shared.Numbers.{SeenNumberPass}
use Rattle.m2_dispatch.specs.m2_shared.Place.{IsAlone, Place}
use Rattle.m2_dispatch.specs.m2_shared.declared.draw.Draw.{Draw}
use Rattle.m2_dispatch.specs.m2_shared.declared.draw.Draw.TheVariants as draw
use Rattle.m2_script.specs.m2_center.m2_feed.Calls.{answer_text}
use Rattle.m2_script.specs.m2_center.m2_feed.FeedNow.{FeedNow}
use Rattle.m2_script.specs.m2_center.m2_feed.declared.writing.Writing.{Writing}
use Rattle.m2_script.specs.m2_center.m2_feed.declared.writing.Writing.TheVariants as writing
use Rattle.m2_script.specs.m2_center.m2_feed.m2_control.declared.keepalive.Keepalive.{Keepalive}
use Rattle.m2_script.specs.m2_center.m2_feed.m2_journal.OutFrames as out
use Rattle.m2_script.specs.m2_center.m2_feed.m2_journal.OutFrames.{OutFrame}
use Rattle.m2_script.specs.m2_center.m2_feed.m2_journal.declared.entry.Entry.{Entry}
use Rattle.m2_script.specs.m2_center.m2_feed.m2_session.Steps.{step_of}
use Rattle.m2_script.specs.m2_center.m2_feed.m2_session.declared.session.Session.{Session}
use Rattle.m2_script.specs.m2_center.m2_record.Calls.{Asks, ChangesCore, ComposesAs, DrawsAs, GetsEntries, asked_entries, composed_ask, numbered_entries}
use Rattle.m2_script.specs.m2_center.m2_record.RecordNow.{RecordNow}
use Rattle.m2_script.specs.m2_center.m2_record.declared.composing.Composed.{Composed}
use Rattle.m2_script.specs.m2_center.m2_record.declared.composing.Composed.TheVariants as composed
use Rattle.m2_exact.proofs.Fronts as fronts
use Rattle.m2_exact.specs.Cores.{roomless, roomless_feed}
use Rattle.m2_exact.specs.Records.{bare_numbers, plain}

-- ---- what a record gets

module _ (r s new behind : RecordNow) (like : plain r ≡ plain s) (same : roomless new.core ≡ roomless behind.core) where
  pub gets : (one other : List Entry) → one ≡ other → GetsEntries one r new → GetsEntries other s behind → plain new ≡ plain behind
  gets one other are h k =
      ap plain h
      ∙ ap (λ (c : CoreNow). record (plain r) { core = c; journal = r.journal ++ one }) same
      ∙ ap (λ (es : List Entry). record (plain r) { core = roomless behind.core; journal = r.journal ++ es }) are
      ∙ ap (λ (x : RecordNow). record x { core = roomless behind.core; journal = x.journal ++ other }) like
      ∙ sym (ap plain k)

  pub changes : ChangesCore r new → ChangesCore s behind → plain new ≡ plain behind
  changes h k =
      ap plain h
      ∙ ap (λ (c : CoreNow). record (plain r) { core = c }) same
      ∙ ap (λ (x : RecordNow). record x { core = roomless behind.core }) like
      ∙ sym (ap plain k)

-- ---- a number is drawn

draw_one : (a b : Draw) (n m : ℕ) → n ≡ m → IsDrawAlone a n → IsDrawAlone b m → a ≡ b
draw_one (draw.Number x) (draw.Number y) n m same h k = ap (λ (z : ℕ). draw.Number z) (h.0 ∙ ap (λ (z : ℕ). z + 1) same ∙ sym k.0)
draw_one (draw.Number x) draw.Spent n m same h k = absurd (omega (arith, h.1, k, same))
draw_one draw.Spent (draw.Number y) n m same h k = absurd (omega (arith, k.1, h, same))
draw_one draw.Spent draw.Spent n m same h k = refl
draw_one (draw.Again x y) b n m same h k = absurd h
draw_one (draw.Number x) (draw.Again z w) n m same h k = absurd k
draw_one draw.Spent (draw.Again z w) n m same h k = absurd k

-- passes to counters that are alone, with one number drawn last
module _ (p q : Place) (before behind old new : SeenNumberPass) (alone : IsAlone p) (here : IsAlone q) (like : bare_numbers before ≡ bare_numbers old) where
  pub draws_one : (a b : Draw) → IsDraw p a before behind → IsDraw q b old new → (a ≡ b) × (bare_numbers behind ≡ bare_numbers new)
  draws_one a b h k =
      let same = draw_one a b before.least old.least (ap (λ (x : SeenNumberPass). x.least) like) (h.alone alone) (k.alone here) in (
        same,
        ap (λ (n : ℕ). record (bare_numbers behind) { least = n }) (h.least ∙ ap word_told same ∙ sym k.least)
            ∙ ap (λ (l : List ℕ). record (bare_numbers new) { drawn = l })
            (h.drawn ∙ ap (λ (d : Draw). drawn_after d before.drawn) same ∙ ap (λ (x : SeenNumberPass). drawn_after b x.drawn) like ∙ sym k.drawn),
      )

-- ---- texts

text_one : (w : Writing) (t u : List ℕ) (x y new behind : Option FeedNow) → t ≡ u → option_map roomless_feed x ≡ option_map roomless_feed y →
    ComposesFeed (Ok tt) w t x new → ComposesFeed (Ok tt) w u y behind → option_map roomless_feed new ≡ option_map roomless_feed behind
text_one w t u (Some v) (Some z) (Some new) (Some behind) same like h k =
    ap (λ (y : FeedNow). Some (roomless_feed y)) h
    ∙ ap (λ (l : List ℕ). Some (record (roomless_feed v) { composed = l; writing = w })) same
    ∙ ap (λ (y : FeedNow). Some (record y { composed = u; writing = w })) (some_same (roomless_feed v) (roomless_feed z) like)
    ∙ sym (ap (λ (y : FeedNow). Some (roomless_feed y)) k)
text_one w t u (Some v) (Some z) (Some new) None same like h k = absurd k
text_one w t u (Some v) (Some z) None behind same like h k = absurd h
text_one w t u (Some v) None new behind same like h k = absurd k
text_one w t u None y new behind same like h k = absurd h

of_ask : (t : List ℕ) (x new : Option FeedNow) → ComposesAsk t x new → ComposesFeed (Ok tt) (writing.Named false) t x new
of_ask t (Some v) (Some new) h = h
of_ask t (Some v) None h = absurd h
of_ask t None new h = absurd h

abbrev message_text : ℕ → ℕ → Content → List ℕ
message_text number last m = frame.text_of (parts_of (with_numbers number last m))

of_message : (number last : ℕ) (m : Content) (x new : Option FeedNow) → ComposesMessage number last m x new → ComposesFeed (Ok tt) (writing.Named true) (message_text number last m) x new
of_message number last m (Some v) (Some new) h = h
of_message number last m (Some v) None h = absurd h
of_message number last m None new h = absurd h

of_answer : (x new : Option FeedNow) → AnswersStamp (Ok tt) x new → (stamps : List Keepalive) × (option_map (λ (v : FeedNow). v.stamps) x ≡ Some stamps)
    × ComposesFeed (Ok tt) (writing.KeepaliveAnswer false) (answer_text stamps) x new
of_answer (Some v) (Some new) h = (v.stamps, refl, h)
of_answer (Some v) None h = absurd h
of_answer None new h = absurd h

room_changes : (x y new behind : Option FeedNow) → option_map roomless_feed x ≡ option_map roomless_feed y → ChangesRoom x new → ChangesRoom y behind →
    option_map roomless_feed new ≡ option_map roomless_feed behind
room_changes (Some v) (Some w) (Some new) (Some behind) like h k =
    ap (λ (y : FeedNow). Some (roomless_feed y)) h ∙ like ∙ sym (ap (λ (y : FeedNow). Some (roomless_feed y)) k)
room_changes (Some v) (Some w) (Some new) None like h k = absurd k
room_changes (Some v) (Some w) None behind like h k = absurd h
room_changes (Some v) None new behind like h k = absurd k
room_changes None y new behind like h k = absurd h

same_stamps : (x y : Option FeedNow) (l m : List Keepalive) → option_map roomless_feed x ≡ option_map roomless_feed y → option_map (λ (v : FeedNow). v.stamps) x ≡ Some l →
    option_map (λ (v : FeedNow). v.stamps) y ≡ Some m → l ≡ m
same_stamps (Some v) (Some w) l m like h k =
    let both = ap (λ (z : FeedNow). z.stamps) (some_same (roomless_feed v) (roomless_feed w) like) in cc (h, k, both)
same_stamps (Some v) None l m like h k = absurd (cc k)
same_stamps None y l m like h k = absurd (cc h)

-- ---- cores

frame_one : (ident : Bool) (number : ℕ) (l k : LiveNow) → l.session ≡ k.session → l.last ≡ k.last → ask_frame ident number l ≡ ask_frame ident number k
frame_one true number l k session last = ap (λ (s : Session). out.ident s.client_cookie number) session
frame_one false number l k session last =
    ap (λ (s : Session). out.reconnect s.client_cookie s.server_cookie number s.connect l.last) session
    ∙ ap (λ (n : ℕ). out.reconnect k.session.client_cookie k.session.server_cookie number k.session.connect n) last

module _ (c d new behind : CoreNow) (like : roomless c ≡ roomless d) where
  feeds : option_map roomless_feed c.live.feed ≡ option_map roomless_feed d.live.feed
  feeds = ap (λ (k : CoreNow). k.live.feed) like

  asks_one : (n : ℕ) → AsksWith n c new → AsksWith n d behind → roomless new ≡ roomless behind
  asks_one n h k =
      let session : new.live.session ≡ behind.live.session =
      h.event ∙ ap (λ (x : CoreNow). (step_of x.live.session (ask_event x.facts (asks_ident x.live) n)).session) like ∙ sym k.event in
      let last : new.live.last ≡ behind.live.last = ap (λ (x : CoreNow). x.live.last) h.only ∙ ap (λ (x : CoreNow). x.live.last) like ∙ sym (ap (λ (x : CoreNow). x.live.last) k.only) in
      let words : out.text_of c.facts (ask_frame (asks_ident c.live) n new.live) ≡ out.text_of d.facts (ask_frame (asks_ident d.live) n behind.live) =
      ap (λ (x : CoreNow). out.text_of x.facts (ask_frame (asks_ident x.live) n new.live)) like
      ∙ ap (λ (f : OutFrame). out.text_of d.facts f) (frame_one (asks_ident d.live) n new.live behind.live session last) in
      let same = text_one (writing.Named false) _ _ c.live.feed d.live.feed new.live.feed behind.live.feed words feeds (of_ask _ c.live.feed new.live.feed h.text) (of_ask _ d.live.feed behind.live.feed k.text) in
      ap roomless h.only
      ∙ ap (λ (x : Option FeedNow). record c { live = record c.live { session = new.live.session; feed = x }; top = n }) same
      ∙ ap (λ (s : Session). record c { live = record c.live { session = s; feed = option_map roomless_feed behind.live.feed }; top = n }) session
      ∙ ap (λ (x : CoreNow). record x { live = record x.live { session = behind.live.session; feed = option_map roomless_feed behind.live.feed }; top = n }) like
      ∙ sym (ap roomless k.only)

  numbers_one : (n m : ℕ) → HasNumbered (Ok n) c new → HasNumbered (Ok m) d behind → (n ≡ m) × (roomless new ≡ roomless behind)
  numbers_one n m h k =
      let number : n ≡ m = some_same n m (sym h.numbers.next ∙ ap (λ (x : CoreNow). next_number x.live.out.queue) like ∙ k.numbers.next) in
      let message : h.numbers.message ≡ k.numbers.message =
      some_same h.numbers.message k.numbers.message
      (sym h.numbers.there ∙ ap (λ (x : CoreNow). message_at (after_next x.live.out.queue) n) like ∙ ap (λ (i : ℕ). message_at (after_next d.live.out.queue) i) number ∙ k.numbers.there) in
      let words : message_text n c.live.last h.numbers.message ≡ message_text m d.live.last k.numbers.message =
      ap (λ (i : ℕ). message_text i c.live.last h.numbers.message) number
      ∙ ap (λ (x : CoreNow). message_text m x.live.last h.numbers.message) like
      ∙ ap (λ (x : Content). message_text m d.live.last x) message in
      let same = text_one (writing.Named true) _ _ c.live.feed d.live.feed new.live.feed behind.live.feed words feeds
      (of_message n c.live.last h.numbers.message c.live.feed new.live.feed h.numbers.composes) (of_message m d.live.last k.numbers.message d.live.feed behind.live.feed k.numbers.composes) in (
        number,
        ap roomless h.only
            ∙ ap (λ (x : Option FeedNow). record c { live = record c.live { out = new.live.out; feed = x } }) same
            ∙ ap (λ (o : Outgoing). record c { live = record c.live { out = o; feed = option_map roomless_feed behind.live.feed } }) h.numbers.queue
            ∙ ap (λ (x : CoreNow). record x { live = record x.live { out = record x.live.out { queue = after_sent (after_next x.live.out.queue) }; feed = option_map roomless_feed behind.live.feed } }) like
            ∙ sym (ap (λ (o : Outgoing). record d { live = record d.live { out = o; feed = option_map roomless_feed behind.live.feed } }) k.numbers.queue)
            ∙ sym (ap roomless k.only),
      )

  acknowledges_one : HasAcknowledged (Ok tt) c new → HasAcknowledged (Ok tt) d behind → roomless new ≡ roomless behind
  acknowledges_one h k =
      let number : c.live.last ≡ d.live.last = ap (λ (x : CoreNow). x.live.last) like in
      let words = ap (λ (x : CoreNow). out.text_of x.facts (out.acknowledgement x.live.last)) like in
      fronts.with_feed c d new behind like
      (text_one (writing.Acknowledgement d.live.last false) _ _ c.live.feed d.live.feed new.live.feed behind.live.feed words feeds
      (subst (λ (n : ℕ). ComposesFeed (Ok tt) (writing.Acknowledgement n false) (out.text_of c.facts (out.acknowledgement c.live.last)) c.live.feed new.live.feed) number h.composes) k.composes)
      h.only k.only

  answers_one : HasAnswered (Ok tt) c new → HasAnswered (Ok tt) d behind → roomless new ≡ roomless behind
  answers_one h k =
      let (l, is, says) = of_answer c.live.feed new.live.feed h.composes in
      let (m, are, said) = of_answer d.live.feed behind.live.feed k.composes in
      let same = ap (λ (x : List Keepalive). answer_text x) (same_stamps c.live.feed d.live.feed l m feeds is are) in
      fronts.with_feed c d new behind like (text_one (writing.KeepaliveAnswer false) _ _ c.live.feed d.live.feed new.live.feed behind.live.feed same feeds says said) h.only k.only

-- ---- what is to be composed

pub to_compose_plain : (c : CoreNow) → to_compose c ≡ to_compose (roomless c)
to_compose_plain c = by c.live.feed
  where
    by : (x : Option FeedNow) → text_on x c ≡ text_on (option_map roomless_feed x) (roomless c)
    by (Some v) = refl
    by None = refl

-- ---- an ask

abbrev drawn_by : CoreAsk → Draw
drawn_by (ask.Asked ident number) = draw.Number number
drawn_by ask.Spent = draw.Spent
drawn_by (ask.Again seen now) = draw.Again seen now
drawn_by ask.NoMemory = draw.Spent

-- an ask that found memory, with what is left of the pass
record HasMemory (one : Composed) (p : Place) (before behind : SeenNumberPass) (r new : RecordNow) : Type 0 where
  pub asked : CoreAsk
  pub is : one ≡ composed_ask asked
  pub draws : IsDraw p (drawn_by asked) before behind
  pub asks : Asks asked r new
  pub memory : asked ≢ ask.NoMemory

asks_so : (one : Composed) (p : Place) (before behind : SeenNumberPass) (r new : RecordNow) → one ≢ composed.NoMemory → ComposesAs text.Ask one r new → DrawsAs one p before behind →
    HasMemory one p before behind r new
asks_so (composed.Asked ident number) p before behind r new m h d = record { asked = ask.Asked ident number; is = refl; draws = d; asks = h; memory = λ e. cc e }
asks_so composed.Spent p before behind r new m h d = record { asked = ask.Spent; is = refl; draws = d; asks = h; memory = λ e. cc e }
asks_so (composed.Again seen now) p before behind r new m h d = record { asked = ask.Again seen now; is = refl; draws = d; asks = h; memory = λ e. cc e }
asks_so composed.NoMemory p before behind r new m h d = absurd (m refl)
asks_so one p before behind r new m h d = absurd h

pub one_number : (n m : ℕ) → draw.Number n ≡ draw.Number m → n ≡ m
one_number n m e = cc e

-- two asks, for which one number was drawn
two_asks : (a b : CoreAsk) (r s new behind : RecordNow) → plain r ≡ plain s → drawn_by a ≡ drawn_by b → a ≢ ask.NoMemory → b ≢ ask.NoMemory → Asks a r new → Asks b s behind →
    (a ≡ b) × (plain new ≡ plain behind)
two_asks (ask.Asked i n) (ask.Asked j m) r s new behind like same x y (h, l, g) (k, o, f) =
    let number = one_number n m same in
    let core = ap (λ (z : RecordNow). z.core) like in
    let ident : i ≡ j = h.0 ∙ ap (λ (c : CoreNow). asks_ident c.live) core ∙ sym k.0 in
    let both : ask.Asked i n ≡ ask.Asked j m = ap (λ (b : Bool). ask.Asked b n) ident ∙ ap (λ (z : ℕ). ask.Asked j z) number in
    let cores = asks_one r.core s.core new.core behind.core core m (subst (λ (z : ℕ). AsksWith z r.core new.core) number l) o in
    (both, gets r s new behind like cores _ _ (ap asked_entries both) g f)
two_asks ask.Spent ask.Spent r s new behind like same x y (h, (l, only), g) (k, (o, last), f) =
    let core = ap (λ (z : RecordNow). z.core) like in
    let feeds = ap (λ (c : CoreNow). c.live.feed) core in
    (refl, gets r s new behind like (fronts.with_feed r.core s.core new.core behind.core core (room_changes r.core.live.feed s.core.live.feed new.core.live.feed behind.core.live.feed feeds l o) only last) _ _ refl g f)
two_asks (ask.Again p q) (ask.Again t u) r s new behind like same x y (h, (l, only), g) (k, (o, last), f) =
    let core = ap (λ (z : RecordNow). z.core) like in
    let feeds = ap (λ (c : CoreNow). c.live.feed) core in
    let both : ask.Again p q ≡ ask.Again t u = one_again p q t u same in
    (both, gets r s new behind like (fronts.with_feed r.core s.core new.core behind.core core (room_changes r.core.live.feed s.core.live.feed new.core.live.feed behind.core.live.feed feeds l o) only last) _ _ refl g f)
  where
    one_again : (p q t u : ℕ) → draw.Again p q ≡ draw.Again t u → ask.Again p q ≡ ask.Again t u
    one_again p q t u e = cc e
two_asks ask.NoMemory b r s new behind like same x y h k = absurd (x refl)
two_asks a ask.NoMemory r s new behind like same x y h k = absurd (y refl)
two_asks (ask.Asked i n) ask.Spent r s new behind like same x y h k = absurd (cc same)
two_asks (ask.Asked i n) (ask.Again t u) r s new behind like same x y h k = absurd (cc same)
two_asks ask.Spent (ask.Asked j m) r s new behind like same x y h k = absurd (cc same)
two_asks ask.Spent (ask.Again t u) r s new behind like same x y h k = absurd (cc same)
two_asks (ask.Again p q) (ask.Asked j m) r s new behind like same x y h k = absurd (cc same)
two_asks (ask.Again p q) ask.Spent r s new behind like same x y h k = absurd (cc same)

-- ---- all texts

-- two answers that agree, with what they leave of records and of passes
pub record Agree (one other : Composed) (new behind : RecordNow) (left last : SeenNumberPass) : Type 0 where
  pub answers : one ≡ other
  pub records : plain new ≡ plain behind
  pub numbers : bare_numbers left ≡ bare_numbers last

is_answered : (one : Composed) (p : Place) (before behind : SeenNumberPass) (r new : RecordNow) → one ≢ composed.NoMemory → ComposesAs text.KeepaliveAnswer one r new → DrawsAs one p before behind →
    (one ≡ composed.Answered) × HasAnswered (Ok tt) r.core new.core × ChangesCore r new × (behind ≡ before)
is_answered composed.Answered p before behind r new m h d = (refl, h.0, h.1, d)
is_answered composed.NoMemory p before behind r new m h d = absurd (m refl)
is_answered one p before behind r new m h d = absurd h

is_numbered : (one : Composed) (p : Place) (before behind : SeenNumberPass) (r new : RecordNow) → one ≢ composed.NoMemory → ComposesAs text.Message one r new → DrawsAs one p before behind →
    (n : ℕ) × (one ≡ composed.Numbered n) × HasNumbered (Ok n) r.core new.core × GetsEntries (numbered_entries (Ok n)) r new × (behind ≡ before)
is_numbered (composed.Numbered n) p before behind r new m h d = (n, refl, h.0, h.1, d)
is_numbered composed.NoMemory p before behind r new m h d = absurd (m refl)
is_numbered one p before behind r new m h d = absurd h

is_acknowledged : (one : Composed) (p : Place) (before behind : SeenNumberPass) (r new : RecordNow) → one ≢ composed.NoMemory → ComposesAs text.Acknowledgement one r new →
    DrawsAs one p before behind → (one ≡ composed.Acknowledged) × HasAcknowledged (Ok tt) r.core new.core × ChangesCore r new × (behind ≡ before)
is_acknowledged composed.Acknowledged p before behind r new m h d = (refl, h.0, h.1, d)
is_acknowledged composed.NoMemory p before behind r new m h d = absurd (m refl)
is_acknowledged one p before behind r new m h d = absurd h

module _ (one other : Composed) (m : one ≢ composed.NoMemory) (k : other ≢ composed.NoMemory) (r s new behind : RecordNow) (like : plain r ≡ plain s) (p q : Place) (alone : IsAlone p)
    (here : IsAlone q) (before left old last : SeenNumberPass) (numbers : bare_numbers before ≡ bare_numbers old) where
  core : roomless r.core ≡ roomless s.core
  core = ap (λ (z : RecordNow). z.core) like

  kept : left ≡ before → last ≡ old → bare_numbers left ≡ bare_numbers last
  kept h g = ap bare_numbers h ∙ numbers ∙ sym (ap bare_numbers g)

  pub composes_one : (t : CoreText) → ComposesAs t one r new → ComposesAs t other s behind → DrawsAs one p before left → DrawsAs other q old last → Agree one other new behind left last
  composes_one text.Ask h g d e =
      let a = asks_so one p before left r new m h d in
      let b = asks_so other q old last s behind k g e in
      let both = draws_one p q before left old last alone here numbers (drawn_by a.asked) (drawn_by b.asked) a.draws b.draws in
      let asks = two_asks a.asked b.asked r s new behind like both.0 a.memory b.memory a.asks b.asks in
      record { answers = a.is ∙ ap composed_ask asks.0 ∙ sym b.is; records = asks.1; numbers = both.1 }
  composes_one text.KeepaliveAnswer h g d e =
      let (is, a, c, stays) = is_answered one p before left r new m h d in
      let (are, b, f, stay) = is_answered other q old last s behind k g e in
      record { answers = is ∙ sym are; records = changes r s new behind like (answers_one r.core s.core new.core behind.core core a b) c f; numbers = kept stays stay }
  composes_one text.Message h g d e =
      let (n, is, a, c, stays) = is_numbered one p before left r new m h d in
      let (i, are, b, f, stay) = is_numbered other q old last s behind k g e in
      let both = numbers_one r.core s.core new.core behind.core core n i a b in
      record {
        answers = is ∙ ap (λ (z : ℕ). composed.Numbered z) both.0 ∙ sym are;
        records = gets r s new behind like both.1 _ _ (ap (λ (z : ℕ). numbered_entries (Ok z)) both.0) c f;
        numbers = kept stays stay;
      }
  composes_one text.Acknowledgement h g d e =
      let (is, a, c, stays) = is_acknowledged one p before left r new m h d in
      let (are, b, f, stay) = is_acknowledged other q old last s behind k g e in
      record { answers = is ∙ sym are; records = changes r s new behind like (acknowledges_one r.core s.core new.core behind.core core a b) c f; numbers = kept stays stay }
