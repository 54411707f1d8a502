-- The laws of a feed beside its replay.
use Rattle.std.proofs.Common.{◌≡◌, ◌≢◌, ℕ, ◌+◌, ◌≤◌, ◌<◌, Bool, true, false, not, List, [], ◌∷◌, ◌++◌, length, take, drop, Option, Some, None, Ok, refl, sym, ap, ◌∙◌, subst, arith, append-nil}
use Rattle.std.specs.Prelude.{◌&&◌, nat_lt}
use Rattle.std.specs.Option.{option_to_list}
use Rattle.std.proofs.lemmas.Bool.{true≢false, lt-ltb}
use Rattle.std.proofs.lemmas.List.{take-append-drop, length-take-le}
use Rattle.m2_control.specs.declared.keepalive.Keepalive.{Keepalive}
use Rattle.m2_fabric.specs.End.{SeenEnd}
use Rattle.m2_fabric.specs.declared.end.EndRead.{EndRead}
use Rattle.m2_fabric.specs.declared.end.EndRead.TheVariants as read
use Rattle.m2_frame.specs.Reading.{Item, whole}
use Rattle.m2_frame.proofs.Cutting.{same_text}
use Rattle.m2_handshake.specs.declared.answer.HalfStep.{HalfStep}
use Rattle.m2_handshake.specs.declared.answer.HalfStep.TheVariants as half
use Rattle.m2_handshake.specs.Half.{Answers}
use Rattle.m2_handshake.specs.Standing.{Standing}
use Rattle.m2_journal.specs.Feeds.{greets, hears, opened_feed, taken_feed, silent_feed, split_into, is_passed, answer_said, next_place, next_said, narrowed, texts_at, stamp_of, stamps_in, begun}
use Rattle.m2_journal.specs.OutFrames as out
use Rattle.m2_journal.specs.OutFrames.{OutFrame, is_unnamed, acknowledges}
use Rattle.m2_journal.specs.Said.{Split, split, said}
use Rattle.m2_journal.specs.SideFacts.{SideFacts, opener_half}
use Rattle.m2_journal.specs.State.{Feed, State}
use Rattle.m2_journal.specs.Steps.{takes_answer, puts}
use Rattle.m2_feed.specs.declared.answers.FeedWrite.{FeedWrite}
use Rattle.m2_feed.specs.declared.answers.FeedWrite.TheVariants as put
use Rattle.m2_feed.specs.declared.writing.Writing.{Writing}
use Rattle.m2_feed.specs.declared.writing.Writing.TheVariants.{Nothing, Named, Acknowledgement, KeepaliveAnswer}
use Rattle.m2_feed.specs.Calls as calls
use Rattle.m2_feed.specs.Calls.{GreetsOn, HalfWrites, IsFront, NotesStamp, OnlyReads, Passes, after_greeting, after_put, at_acceptance, at_opening, greeting_left, heard, is_empty, is_signing, passed, pays, writing_left, stamps_left}
use Rattle.m2_feed.specs.FeedNow.{FeedNow, Reading, shaking, framing, is_framing}
use Rattle.m2_feed.specs.FeedLaws.{ChangesBeside, ComposesBeside, GreetsBeside, HearsBeside, IsAcceptance, OpensBeside, PassesBeside, PassesThe, PutsBeside, PutsKeep, ReadsBeside, StaysBeside, TakesBeside, TakesOverBeside, gives, takes}
use Rattle.m2_feed.specs.Stands.{Frames, IsNextStamp, MayAcknowledge, ReadsAs, Shakes, Stands, WritesAs, is_ready, passes_over}
use Rattle.m2_feed.proofs.Begun.{greeting-put}
use Rattle.m2_feed.proofs.Framing.{frames-hear, frames-idle, frames-pass, frames-ready, idle-next, idle-takes, ready-place, ready-takes, same, writes-same}
use Rattle.m2_feed.proofs.Puts.{frames-put}
use Rattle.m2_feed.proofs.Texts.{no_bytes}
use Rattle.m2_feed.proofs.Shaking.{answers-on, begins-shaking, hears-on, signs-on}

-- ---- where a feed begins

pub opens : OpensBeside
opens f s end last owes v is =
    let h = opener_half f in
    let d = opened_feed f end.id last owes in
    let b = begins-shaking h v d end.id last owes refl refl (ap (λ (x : FeedNow). x.composed) is) (ap (λ (x : FeedNow). x.writing) is) (ap (λ (x : FeedNow). x.stamps) is) refl in
    let reading : v.reading ≡ shaking h = ap (λ (x : FeedNow). x.reading) is in
    record {
      socket = ap (λ (x : FeedNow). x.end.id) is ∙ sym b.0;
      opened = ap (λ (x : FeedNow). x.opened) is ∙ sym b.1;
      reads = subst (λ r. ReadsAs r f s v d) (sym reading) b.2;
    }

pub takes_over : TakesOverBeside
takes_over f s end rest resumed last owes w v a is =
    let d : Feed = record (taken_feed end.id rest resumed last owes) { texts = begun f w ∷ [] } in
    let reading : v.reading ≡ framing rest false = ap (λ (x : FeedNow). x.reading) is in
    let composed : v.composed ≡ out.text_of f w = ap (λ (x : FeedNow). x.composed) is in
    let writing : v.writing ≡ Named false = ap (λ (x : FeedNow). x.writing) is in
    let stamps : v.stamps ≡ [] = ap (λ (x : FeedNow). x.stamps) is in
    let writes : WritesAs (Named false) f s v d = record {
      frame = w;
      named = a.named;
      pays = a.silent;
      some = λ e. a.some (sym composed ∙ e);
      texts = ap (λ (l : List ℕ). record { frame = w; left = l } ∷ []) (sym composed);
    } in
    let frames : Frames f s v d rest false = record {
      hand = refl;
      before = [];
      passed = [];
      left = (split rest).items;
      got = refl;
      taken = refl;
      splits = refl;
      passes = tt;
      ungranted = λ q. refl;
      answered = omega arith;
      stamps = stamps;
      writes = subst (λ (y : Writing). WritesAs y f s v d) (sym writing) writes;
    } in
    record {
      socket = ap (λ (x : FeedNow). x.end.id) is;
      opened = ap (λ (x : FeedNow). x.opened) is;
      reads = subst (λ r. ReadsAs r f s v d) (sym reading) frames;
    }

-- ---- what changes a feed

-- a value of which nothing but the end and the room is another
reads-same : (r : Reading) (f : SideFacts) (s : State) (v x : FeedNow) (d : Feed) → x.composed ≡ v.composed → x.writing ≡ v.writing → x.stamps ≡ v.stamps →
    ReadsAs r f s v d → ReadsAs r f s x d
reads-same (shaking h) f s v x d composed writing stamps k = record {
  side = k.side;
  unsigned = k.unsigned;
  hand = k.hand;
  got = k.got;
  rest = k.rest;
  texts = rw composed k.texts;
  taken = k.taken;
  answered = k.answered;
  writing = writing ∙ k.writing;
  stamps = stamps ∙ k.stamps;
}
reads-same (framing rest granted) f s v x d composed writing stamps k = record {
  hand = k.hand;
  before = k.before;
  passed = k.passed;
  left = k.left;
  got = k.got;
  taken = k.taken;
  splits = k.splits;
  passes = k.passes;
  ungranted = k.ungranted;
  answered = k.answered;
  stamps = stamps ∙ k.stamps;
  writes = subst (λ (y : Writing). WritesAs y f s x d) (sym writing) (writes-same v.writing f s s v x d d composed stamps refl refl (same s) k.writes);
}

moves-nothing : (f : SideFacts) (s : State) (old new : FeedNow) (d : Feed) → Stands f s old d → new ≡ record old { end = new.end; room = new.room } → new.end.id ≡ old.end.id → Stands f s new d
moves-nothing f s old new d k is id =
    let reading : new.reading ≡ old.reading = ap (λ (x : FeedNow). x.reading) is in
    record {
      socket = id ∙ k.socket;
      opened = ap (λ (x : FeedNow). x.opened) is ∙ k.opened;
      reads = subst (λ r. ReadsAs r f s new d) (sym reading)
          (reads-same old.reading f s old new d (ap (λ (x : FeedNow). x.composed) is) (ap (λ (x : FeedNow). x.writing) is) (ap (λ (x : FeedNow). x.stamps) is) k.reads);
    }

-- what is said of a feed that has another value, and stands beside another feed of the replay
abbrev Onto : SideFacts → State → Reading → FeedNow → Feed → Feed → Type 0
Onto f s r x d e = (e.socket ≡ d.socket) × (e.opened ≡ d.opened) × ReadsAs r f s x e

onto : (f : SideFacts) (s t : State) (old new : FeedNow) (d e : Feed) (r : Reading) → Stands f s old d → new.end.id ≡ old.end.id → new.opened ≡ old.opened → new.reading ≡ r →
    Onto f t r new d e → Stands f t new e
onto f s t old new d e r k id opened reading o = record {
  socket = id ∙ k.socket ∙ sym o.0;
  opened = opened ∙ k.opened ∙ sym o.1;
  reads = subst (λ y. ReadsAs y f t new e) (sym reading) o.2;
}

heard-beside : (f : SideFacts) (s : State) (bytes : List ℕ) (old new : FeedNow) (d : Feed) → Stands f s old d →
    new ≡ record old { end = new.end; reading = heard bytes old.reading } → new.end.id ≡ old.end.id → Stands f s new (hears bytes d)
heard-beside f s bytes old new d k is id =
    onto f s s old new d (hears bytes d) (heard bytes old.reading) k id (ap (λ (x : FeedNow). x.opened) is) (ap (λ (x : FeedNow). x.reading) is) (at old.reading k.reads)
  where
    at : (r : Reading) → ReadsAs r f s old d → Onto f s (heard bytes r) new d (hears bytes d)
    at (shaking h) p =
        let o = hears-on h bytes old new d p (ap (λ (x : FeedNow). x.composed) is) (ap (λ (x : FeedNow). x.writing) is) (ap (λ (x : FeedNow). x.stamps) is) in
        (o.socket, o.opened, o.shakes)
    at (framing rest granted) p =
        let o = frames-hear f s bytes old new d rest granted (ap (λ (x : FeedNow). x.composed) is) (ap (λ (x : FeedNow). x.writing) is) (ap (λ (x : FeedNow). x.stamps) is) p in (
          ap (λ (y : Feed). y.socket) o.0,
          ap (λ (y : Feed). y.opened) o.0,
          subst (λ (y : Feed). Frames f s new y (rest ++ bytes) granted) (sym o.0) o.1,
        )

-- ---- the half

abbrev AfterGreeting : HalfStep → Standing → List ℕ → FeedNow → FeedNow → Type 0
AfterGreeting answer after composed old new = new ≡ record (after_greeting answer after composed old) { room = new.room }

signed-frames : (f : SideFacts) (s : State) (g : Standing) (x : FeedNow) (d : Feed) → d.hand ≡ None → d.got ≡ (split g.rest).items → d.rest ≡ (split g.rest).rest →
    d.texts ≡ greets x.composed [] → d.taken ≡ 0 → d.answered ≡ 0 → x.writing ≡ greeting_left x.composed → x.stamps ≡ [] → Frames f s x d g.rest false
signed-frames f s g x d hand got rest texts taken answered writing stamps = record {
  hand = hand;
  before = [];
  passed = [];
  left = (split g.rest).items;
  got = got;
  taken = taken;
  splits = ap (λ (l : List ℕ). record { items = (split g.rest).items; rest = l }) (sym rest);
  passes = tt;
  ungranted = λ q. refl;
  answered = omega (arith, answered);
  stamps = stamps ∙ ap (λ (n : ℕ). drop n []) (sym answered);
  writes = subst (λ (y : Writing). WritesAs y f s x d) (sym writing) (left x.composed refl);
}
  where
    some-there : (b : ℕ) (bs : List ℕ) → b ∷ bs ≢ []
    some-there b bs e = cc

    left : (l : List ℕ) → x.composed ≡ l → WritesAs (greeting_left l) f s x d
    left [] e = (e, texts ∙ ap (λ (l : List ℕ). greets l []) e)
    left (b ∷ bs) e = record {
      frame = out.greeting;
      named = refl;
      pays = refl;
      some = λ q. some-there b bs (sym e ∙ q);
      texts = texts ∙ ap (λ (l : List ℕ). greets l []) e ∙ ap (λ (l : List ℕ). record { frame = out.greeting; left = l } ∷ []) (sym e);
    }

greets-not : (f : SideFacts) (s : State) (answer : HalfStep) (old new : FeedNow) (d : Feed) → Stands f s old d → (g : GreetsOn answer old new) → is_signing answer ≡ false →
    new ≡ record old { reading = shaking g.after; composed = new.composed; room = new.room } → Stands f s new d
greets-not f s answer old new d k g n is =
    let h : Shakes g.before old d = subst (λ r. ReadsAs r f s old d) g.stood k.reads in
    let shakes : Shakes g.after new d =
    answers-on answer g.before g.after g.writes.0 old new d g.writes.2 n g.writes.1 (ap (λ (x : FeedNow). x.writing) is) (ap (λ (x : FeedNow). x.stamps) is) h in
    onto f s s old new d d (shaking g.after) k (ap (λ (x : FeedNow). x.end.id) is) (ap (λ (x : FeedNow). x.opened) is) (ap (λ (x : FeedNow). x.reading) is) (refl, refl, shakes)

pub greets_on : GreetsBeside
greets_on f s half.NotYet old new d k g = greets-not f s half.NotYet old new d k g refl g.leaves
greets_on f s half.Wrote old new d k g = greets-not f s half.Wrote old new d k g refl g.leaves
greets_on f s (half.Fault e) old new d k g = greets-not f s (half.Fault e) old new d k g refl g.leaves
greets_on f s half.NoMemory old new d k g = greets-not f s half.NoMemory old new d k g refl g.leaves
greets_on f s half.Authed old new d k g =
    let h : Shakes g.before old d = subst (λ r. ReadsAs r f s old d) g.stood k.reads in
    let o = signs-on g.before g.after g.writes.0 old new d g.writes.2 g.writes.1 h in
    let is = g.leaves in
    let frames : Frames f s new d g.after.rest false =
    signed-frames f s g.after new d o.hand o.got o.rest o.texts h.taken h.answered (ap (λ (x : FeedNow). x.writing) is) (ap (λ (x : FeedNow). x.stamps) is ∙ h.stamps) in
    onto f s s old new d d (framing g.after.rest false) k (ap (λ (x : FeedNow). x.end.id) is) (ap (λ (x : FeedNow). x.opened) is) (ap (λ (x : FeedNow). x.reading) is) (refl, refl, frames)

-- ---- frames

passed-beside : (f : SideFacts) (s : State) (item : Item) (len : ℕ) (old new : FeedNow) (d : Feed) → Stands f s old d →
    IsFront old.reading item len → passes_over s item ≡ true →
    new ≡ record old { reading = passed len old.reading; stamps = old.stamps ++ option_to_list (stamp_of (said item)) } → Stands f s new d
passed-beside f s item len old new d k front passes is =
    onto f s s old new d d (passed len old.reading) k (ap (λ (x : FeedNow). x.end.id) is) (ap (λ (x : FeedNow). x.opened) is) (ap (λ (x : FeedNow). x.reading) is) (at old.reading front k.reads)
  where
    at : (r : Reading) → IsFront r item len → ReadsAs r f s old d → Onto f s (passed len r) new d d
    at (shaking h) i p = absurd i
    at (framing rest granted) i p =
        (refl, refl, frames-pass f s item len old new d rest granted i.1 passes (ap (λ (x : FeedNow). x.composed) is) (ap (λ (x : FeedNow). x.writing) is) (ap (λ (x : FeedNow). x.stamps) is) p)

answer-next : (f : SideFacts) (s : State) (item : Item) (len : ℕ) (v : FeedNow) (d : Feed) → Stands f s v d →
    is_ready s ≡ false → IsFront v.reading item len → answer_said d ≡ Some (said item)
answer-next f s item len v d k q front = at v.reading front k.reads
  where
    at : (r : Reading) → IsFront r item len → ReadsAs r f s v d → answer_said d ≡ Some (said item)
    at (shaking h) i p = absurd i
    at (framing rest granted) i p = idle-next f s item len v d rest granted q i.1 p

answer-beside : (f : SideFacts) (s : State) (item : Item) (len : ℕ) (old new : FeedNow) (d : Feed) → Stands f s old d →
    is_ready s ≡ false → IsFront old.reading item len → stamp_of (said item) ≡ None →
    new ≡ record old { reading = passed len old.reading } → Stands f s new (takes_answer d)
answer-beside f s item len old new d k q front none is =
    onto f s s old new d (takes_answer d) (passed len old.reading) k (ap (λ (x : FeedNow). x.end.id) is) (ap (λ (x : FeedNow). x.opened) is) (ap (λ (x : FeedNow). x.reading) is) (at old.reading front k.reads)
  where
    at : (r : Reading) → IsFront r item len → ReadsAs r f s old d → Onto f s (passed len r) new d (takes_answer d)
    at (shaking h) i p = absurd i
    at (framing rest granted) i p =
        (refl, refl, idle-takes f s item len old new d rest granted q i.1 none (ap (λ (x : FeedNow). x.composed) is) (ap (λ (x : FeedNow). x.writing) is) (ap (λ (x : FeedNow). x.stamps) is) p)

text-next : (f : SideFacts) (s : State) (item : Item) (len : ℕ) (v : FeedNow) (d : Feed) → Stands f s v d →
    is_ready s ≡ true → is_passed s.last (said item) ≡ false → IsFront v.reading item len → next_said s.last d ≡ Some (said item)
text-next f s item len v d k q stops front = at v.reading front k.reads
  where
    at : (r : Reading) → IsFront r item len → ReadsAs r f s v d → next_said s.last d ≡ Some (said item)
    at (shaking h) i p = absurd i
    at (framing rest granted) i p = (ready-place f s item len v d rest granted q i.1 stops p).1

text-beside : (f : SideFacts) (s : State) (item : Item) (len : ℕ) (old new : FeedNow) (d : Feed) → Stands f s old d →
    is_ready s ≡ true → IsFront old.reading item len → is_passed s.last (said item) ≡ false →
    new ≡ record old { reading = passed len old.reading } → Stands f s new (record d { taken = next_place s.last d + 1 })
text-beside f s item len old new d k q front stops is =
    onto f s s old new d (record d { taken = next_place s.last d + 1 }) (passed len old.reading) k (ap (λ (x : FeedNow). x.end.id) is) (ap (λ (x : FeedNow). x.opened) is) (ap (λ (x : FeedNow). x.reading) is) (at old.reading front k.reads)
  where
    at : (r : Reading) → IsFront r item len → ReadsAs r f s old d → Onto f s (passed len r) new d (record d { taken = next_place s.last d + 1 })
    at (shaking h) i p = absurd i
    at (framing rest granted) i p =
        (refl, refl, ready-takes f s item len old new d rest granted q i.1 stops (ap (λ (x : FeedNow). x.composed) is) (ap (λ (x : FeedNow). x.writing) is) (ap (λ (x : FeedNow). x.stamps) is) p)

-- the item at the front is the one that is passed
front-passed : (item other : Item) (len : ℕ) (old new : Reading) → IsFront old item len → Passes old other new → new ≡ passed len old
front-passed item other len old new front p = at old front p
  where
    at : (r : Reading) → IsFront r item len → Passes r other new → new ≡ passed len r
    at (shaking h) i p = absurd i
    at (framing rest granted) i p =
        let same = same_text item other len p.0 (sym i.1 ∙ p.1.1) in
        p.2 ∙ ap (λ (n : ℕ). framing (drop n rest) false) (sym same.1)

-- a call that only passes the item at the front
only-passed : (item : Item) (old new : FeedNow) → (p : PassesThe item old.reading new.reading) → OnlyReads old new → new ≡ record old { reading = passed p.len old.reading }
only-passed item old new p only = only ∙ ap (λ r. record old { reading = r }) (front-passed item p.other p.len old.reading new.reading p.front p.passes)

pub passes_on : PassesBeside
passes_on = record { plain = plain; keepalive = keepalive }
  where
    plain : (f : SideFacts) (s : State) (item : Item) (old new : FeedNow) (d : Feed) → Stands f s old d →
        passes_over s item ≡ true → stamp_of (said item) ≡ None → PassesThe item old.reading new.reading → OnlyReads old new → Stands f s new d
    plain f s item old new d k over none p only =
        let r = passed p.len old.reading in
        let same : old.stamps ≡ old.stamps ++ option_to_list (stamp_of (said item)) =
        sym (append-nil old.stamps) ∙ ap (λ o. old.stamps ++ option_to_list o) (sym none) in
        passed-beside f s item p.len old new d k p.front over
        (only-passed item old new p only ∙ ap (λ (l : List Keepalive). record old { reading = r; stamps = l }) same)

    keepalive : (f : SideFacts) (s : State) (item : Item) (k : Keepalive) (len : ℕ) (old new : FeedNow) (d : Feed) → Stands f s old d →
        passes_over s item ≡ true → stamp_of (said item) ≡ Some k → IsFront old.reading item len → NotesStamp (Ok tt) k old new → Stands f s new d
    keepalive f s item stamp len old new d k over some front notes =
        let reading : new.reading ≡ passed len old.reading = front-passed item (whole notes.0.0) len old.reading new.reading front notes.0.1 in
        passed-beside f s item len old new d k front over
        (notes.1 ∙ ap (λ r. record old { reading = r; stamps = old.stamps ++ stamp ∷ [] }) reading
        ∙ ap (λ o. record old { reading = passed len old.reading; stamps = old.stamps ++ option_to_list o }) (sym some))

pub takes_on : TakesBeside
takes_on = record {
  answer_next = answer-next;
  answer = λ f s item old new d k q none p only. answer-beside f s item p.len old new d k q p.front none (only-passed item old new p only);
  text_next = text-next;
  text = λ f s item old new d k q stops p only. text-beside f s item p.len old new d k q p.front stops (only-passed item old new p only);
}

-- ---- another state

pub changes : ChangesBeside
changes = record { idle = idle; ready = ready }
  where
    idle : (f : SideFacts) (s t : State) (v : FeedNow) (d : Feed) (floor : ℕ) (owed : Bool) → Stands f s v d →
        is_ready s ≡ false → Stands f t v (record d { floor = floor; owed = owed })
    idle f s t v d floor owed k q = record { socket = k.socket; opened = k.opened; reads = at v.reading k.reads }
      where
        at : (r : Reading) → ReadsAs r f s v d → ReadsAs r f t v (record d { floor = floor; owed = owed })
        at (shaking h) p = record {
          side = p.side;
          unsigned = p.unsigned;
          hand = p.hand;
          got = p.got;
          rest = p.rest;
          texts = p.texts;
          taken = p.taken;
          answered = p.answered;
          writing = p.writing;
          stamps = p.stamps;
        }
        at (framing rest granted) p = frames-idle f s t v d floor owed rest granted q p

    ready : (f : SideFacts) (s t : State) (v : FeedNow) (d : Feed) → Stands f s v d →
        is_ready t ≡ true → s.last ≤ t.last → (s.owes ≡ true → t.owes ≡ true) → Stands f t v d
    ready f s t v d k q last owes = record { socket = k.socket; opened = k.opened; reads = at v.reading k.reads }
      where
        at : (r : Reading) → ReadsAs r f s v d → ReadsAs r f t v d
        at (shaking h) p = p
        at (framing rest granted) p = frames-ready f s t v d rest granted q last owes p

-- ---- writing

-- nothing is composed, and so nothing is begun
idle-writes : (w : Writing) (f : SideFacts) (s : State) (v : FeedNow) (d : Feed) → v.composed ≡ [] → WritesAs w f s v d → d.texts ≡ []
idle-writes Nothing f s v d e h = h.1
idle-writes (Named acks) f s v d e h = absurd (h.some e)
idle-writes (Acknowledgement number false) f s v d e h = h.texts
idle-writes (Acknowledgement number true) f s v d e h = absurd (h.goes_on.some e)
idle-writes (KeepaliveAnswer false) f s v d e h = h.texts
idle-writes (KeepaliveAnswer true) f s v d e h = absurd (h.goes_on.some e)

composed-frames : (f : SideFacts) (s : State) (v x : FeedNow) (d e : Feed) (rest : List ℕ) (granted : Bool) → Frames f s v d rest granted → x.stamps ≡ v.stamps →
    e.hand ≡ d.hand → e.got ≡ d.got → e.rest ≡ d.rest → e.taken ≡ d.taken → e.answered ≡ d.answered → WritesAs x.writing f s x e → Frames f s x e rest granted
composed-frames f s v x d e rest granted k stamps hand got unread taken answered writes = record {
  hand = hand ∙ k.hand;
  before = k.before;
  passed = k.passed;
  left = k.left;
  got = got ∙ k.got;
  taken = taken ∙ k.taken;
  splits = k.splits ∙ ap (λ (l : List ℕ). record { items = k.left; rest = l }) (sym unread);
  passes = k.passes;
  ungranted = k.ungranted;
  answered = rw answered k.answered;
  stamps = stamps ∙ k.stamps ∙ ap (λ (n : ℕ). drop n (stamps_in (k.before ++ k.passed))) (sym answered);
  writes = writes;
}

composed-reads : (f : SideFacts) (s : State) (old new : FeedNow) (d e : Feed) → Stands f s old d → is_framing old.reading ≡ true →
    new.end.id ≡ old.end.id → new.opened ≡ old.opened → new.reading ≡ old.reading → new.stamps ≡ old.stamps → e.socket ≡ d.socket → e.opened ≡ d.opened →
    e.hand ≡ d.hand → e.got ≡ d.got → e.rest ≡ d.rest → e.taken ≡ d.taken → e.answered ≡ d.answered → WritesAs new.writing f s new e → Stands f s new e
composed-reads f s old new d e k framed id opened reading stamps socket whose hand got unread taken answered writes =
    onto f s s old new d e old.reading k id opened reading (socket, whose, at old.reading framed k.reads)
  where
    at : (r : Reading) → is_framing r ≡ true → ReadsAs r f s old d → ReadsAs r f s new e
    at (shaking h) q p = absurd (true≢false (sym q))
    at (framing rest granted) q p = composed-frames f s old new d e rest granted p stamps hand got unread taken answered writes

put_texts : (f : SideFacts) (s : State) (v : FeedNow) (d : Feed) → Stands f s v d → is_framing v.reading ≡ true → is_empty v.composed ≡ true → d.texts ≡ []
put_texts f s v d k framed none = at v.reading framed k.reads
  where
    at : (r : Reading) → is_framing r ≡ true → ReadsAs r f s v d → d.texts ≡ []
    at (shaking h) q p = absurd (true≢false (sym q))
    at (framing rest granted) q p = idle-writes v.writing f s v d (no_bytes v.composed none) p.writes

pub composes_on : ComposesBeside
composes_on = record { all_put = put_texts; named = named; acknowledgement = acknowledgement; keepalive_answer = keepalive_answer }
  where
    named : (f : SideFacts) (s : State) (w : OutFrame) (old new : FeedNow) (d : Feed) → Stands f s old d →
        is_framing old.reading ≡ true → is_unnamed w ≡ false → out.text_of f w ≢ [] →
        calls.Composes (Named (acknowledges w)) (out.text_of f w) old new → Stands f s new (record d { texts = begun f w ∷ [] })
    named f s w old new d k framed n some is =
        let composed : new.composed ≡ out.text_of f w = ap (λ (x : FeedNow). x.composed) is in
        let e : Feed = record d { texts = begun f w ∷ [] } in
        let writes : WritesAs (Named (acknowledges w)) f s new e = record {
          frame = w;
          named = n;
          pays = refl;
          some = λ q. some (sym composed ∙ q);
          texts = ap (λ (l : List ℕ). record { frame = w; left = l } ∷ []) (sym composed);
        } in
        composed-reads f s old new d e k framed (ap (λ (x : FeedNow). x.end.id) is) (ap (λ (x : FeedNow). x.opened) is) (ap (λ (x : FeedNow). x.reading) is) (ap (λ (x : FeedNow). x.stamps) is)
        refl refl refl refl refl refl refl (subst (λ (y : Writing). WritesAs y f s new e) (sym (ap (λ (x : FeedNow). x.writing) is)) writes)

    acknowledgement : (f : SideFacts) (s : State) (number : ℕ) (old new : FeedNow) (d : Feed) → Stands f s old d →
        is_framing old.reading ≡ true → is_empty old.composed ≡ true → is_ready s ≡ true → MayAcknowledge f s d number →
        calls.Composes (Acknowledgement number false) (out.text_of f (out.acknowledgement number)) old new → Stands f s new d
    acknowledgement f s number old new d k framed none q may is =
        let writes : WritesAs (Acknowledgement number false) f s new d =
        record { ready = q; may = may; texts = put_texts f s old d k framed none; composed = ap (λ (x : FeedNow). x.composed) is } in
        composed-reads f s old new d d k framed (ap (λ (x : FeedNow). x.end.id) is) (ap (λ (x : FeedNow). x.opened) is) (ap (λ (x : FeedNow). x.reading) is) (ap (λ (x : FeedNow). x.stamps) is)
        refl refl refl refl refl refl refl (subst (λ (y : Writing). WritesAs y f s new d) (sym (ap (λ (x : FeedNow). x.writing) is)) writes)

    keepalive_answer : (f : SideFacts) (s : State) (k : Keepalive) (old new : FeedNow) (d : Feed) → Stands f s old d →
        is_framing old.reading ≡ true → is_empty old.composed ≡ true → is_ready s ≡ true → IsNextStamp k old.stamps →
        calls.Composes (KeepaliveAnswer false) (out.text_of f (out.keepalive_answer k)) old new → Stands f s new d
    keepalive_answer f s stamp old new d k framed none q next is =
        let writes : WritesAs (KeepaliveAnswer false) f s new d = record {
          ready = q;
          stamp = stamp;
          next = (next.0, ap (λ (x : FeedNow). x.stamps) is ∙ next.1);
          texts = put_texts f s old d k framed none;
          composed = ap (λ (x : FeedNow). x.composed) is;
        } in
        composed-reads f s old new d d k framed (ap (λ (x : FeedNow). x.end.id) is) (ap (λ (x : FeedNow). x.opened) is) (ap (λ (x : FeedNow). x.reading) is) (ap (λ (x : FeedNow). x.stamps) is)
        refl refl refl refl refl refl refl (subst (λ (y : Writing). WritesAs y f s new d) (sym (ap (λ (x : FeedNow). x.writing) is)) writes)

-- ---- putting

record PutsLeft (f : SideFacts) (s : State) (bytes left : List ℕ) (old new : FeedNow) (d : Feed) : Type 0 where
  text : nat_lt 0 (length (narrowed bytes (texts_at f s d))) ≡ true
  feed : Feed
  fed : (puts f bytes d s).feed ≡ Some feed
  owes : (puts f bytes d s).owes ≡ (s.owes && not (is_empty left && calls.acknowledges old.writing))
  stands : Stands f (puts f bytes d s) new feed

module _ (f : SideFacts) (s : State) (bytes left : List ℕ) (old new : FeedNow) (d : Feed) (k : Stands f s old d) (whole : old.composed ≡ bytes ++ left) (some : 0 < length bytes)
    (composed : new.composed ≡ left) (writing : new.writing ≡ writing_left (is_empty left) old.writing)
    (stamps : new.stamps ≡ stamps_left (is_empty left) old.writing old.stamps) (id : new.end.id ≡ old.end.id) (opened : new.opened ≡ old.opened) (reading : new.reading ≡ old.reading) where
  quiet : (b : Bool) → false ≡ (b && calls.acknowledges Nothing)
  quiet true = refl
  quiet false = refl

  still : (b : Bool) → writing_left b Nothing ≡ Nothing
  still true = refl
  still false = refl

  kept : (b : Bool) (l : List Keepalive) → stamps_left b Nothing l ≡ l
  kept true l = refl
  kept false l = refl

  shaken : (h : Standing) → old.reading ≡ shaking h → Shakes h old d → PutsLeft f s bytes left old new d
  shaken h r p =
      let same : new.writing ≡ old.writing = writing ∙ ap (writing_left (is_empty left)) p.writing ∙ still (is_empty left) ∙ sym p.writing in
      let all : new.stamps ≡ old.stamps = stamps ∙ ap (λ w. stamps_left (is_empty left) w old.stamps) p.writing ∙ kept (is_empty left) old.stamps in
      let o = greeting-put f s bytes left h old new d p some whole composed same all in
      record {
        text = o.text;
        feed = o.feed;
        fed = o.fed;
        owes = o.owes ∙ ap (λ b. s.owes && not b) (quiet (is_empty left) ∙ ap (λ w. is_empty left && calls.acknowledges w) (sym p.writing));
        stands = onto f s (puts f bytes d s) old new d o.feed (shaking h) k id opened (reading ∙ r) (o.socket, o.opened, o.shakes);
      }

  framed : (rest : List ℕ) (granted : Bool) → old.reading ≡ framing rest granted → Frames f s old d rest granted → PutsLeft f s bytes left old new d
  framed rest granted r p =
      let o = frames-put f s old new d rest granted bytes p some old.writing left p.writes whole composed writing stamps in
      record {
        text = o.text;
        feed = o.feed;
        fed = o.fed;
        owes = o.owes;
        stands = onto f s (puts f bytes d s) old new d o.feed (framing rest granted) k id opened (reading ∙ r) (o.socket, o.opened, o.frames);
      }

  puts-at : (r : Reading) → old.reading ≡ r → ReadsAs r f s old d → PutsLeft f s bytes left old new d
  puts-at (shaking h) e p = shaken h e p
  puts-at (framing rest granted) e p = framed rest granted e p

pub puts_on : PutsKeep
puts_on f s n acknowledged old new d k w =
    let some : 0 < n = w.0.0.some in
    let fits : n ≤ length old.composed = w.0.0.fits in
    let is = w.2 in
    let id : new.end.id ≡ old.end.id = ap (λ (e : SeenEnd). e.id) w.0.2 in
    let bytes : List ℕ = take n old.composed in
    let left : List ℕ = drop n old.composed in
    let whole : old.composed ≡ bytes ++ left = sym (take-append-drop n old.composed) in
    let len : length bytes ≡ n = length-take-le n old.composed fits in
    let some_bytes : 0 < length bytes = omega (arith, len, some) in
    let o =
    puts-at f s bytes left old new d k whole some_bytes (ap (λ (x : FeedNow). x.composed) is) (ap (λ (x : FeedNow). x.writing) is) (ap (λ (x : FeedNow). x.stamps) is)
    id (ap (λ (x : FeedNow). x.opened) is) (ap (λ (x : FeedNow). x.reading) is) old.reading refl k.reads in
    record {
      count = len;
      log = ap (λ (e : SeenEnd). e.log.put) w.0.2;
      lawful = record { some = lt-ltb 0 (length bytes) some_bytes; text = o.text };
      feed = o.feed;
      fed = o.fed;
      owes = o.owes ∙ ap (λ b. s.owes && not b) (sym w.1);
      stands = o.stands;
    }

-- ---- what moves no byte

stays-room : (f : SideFacts) (s : State) (old new : FeedNow) (d : Feed) → Stands f s old d → calls.IsSameButRoom old new → Stands f s new d
stays-room f s old new d k is =
    let end : new.end ≡ old.end = ap (λ (x : FeedNow). x.end) is in
    moves-nothing f s old new d k (is ∙ ap (λ (e : SeenEnd). record old { end = e; room = new.room }) (sym end)) (ap (λ (e : SeenEnd). e.id) end)

stays-end : (f : SideFacts) (s : State) (old new : FeedNow) (d : Feed) → Stands f s old d → new ≡ record old { end = new.end } → new.end.id ≡ old.end.id → Stands f s new d
stays-end f s old new d k is id =
    let room : new.room ≡ old.room = ap (λ (x : FeedNow). x.room) is in
    moves-nothing f s old new d k (is ∙ ap (λ r. record old { end = new.end; room = r }) (sym room)) id

stays-same : (f : SideFacts) (s : State) (old new : FeedNow) (d : Feed) → Stands f s old d → new ≡ old → Stands f s new d
stays-same f s old new d k is = subst (λ (x : FeedNow). Stands f s x d) (sym is) k

-- a read that gave nothing is heard as it was
unheard : (f : SideFacts) (s : State) (old new : FeedNow) (d : Feed) → Stands f s old d → new.reading ≡ old.reading → new ≡ record old { end = new.end; reading = new.reading } →
    new.end.id ≡ old.end.id → Stands f s new d
unheard f s old new d k reading only id = stays-end f s old new d k (only ∙ ap (λ r. record old { end = new.end; reading = r }) reading) id

pub stays : StaysBeside
stays = record { end = stays-end; room = stays-room; read = read_on; write = write_on }
  where
    read_on : (f : SideFacts) (s : State) (answer : EndRead) (old new : FeedNow) (d : Feed) → Stands f s old d →
        gives answer ≡ false → calls.ReadsOn answer old new → Stands f s new d
    read_on f s (read.Got n) old new d k quiet_call h = absurd (true≢false quiet_call)
    read_on f s read.NotYet old new d k quiet_call h = unheard f s old new d k h.hears.heard h.only (ap (λ (e : SeenEnd). e.id) h.hears.reads.1)
    read_on f s read.Ended old new d k quiet_call h = unheard f s old new d k h.hears.heard h.only (ap (λ (e : SeenEnd). e.id) h.hears.reads.1)
    read_on f s read.Failed old new d k quiet_call h = unheard f s old new d k h.hears.heard h.only (ap (λ (e : SeenEnd). e.id) h.hears.reads.1)
    read_on f s read.NoMemory old new d k quiet_call h = stays-same f s old new d k h

    write_on : (f : SideFacts) (s : State) (answer : FeedWrite) (old new : FeedNow) (d : Feed) → Stands f s old d →
        takes answer ≡ false → calls.WritesOn answer old new → Stands f s new d
    write_on f s (put.Put n acknowledged) old new d k quiet_call h = absurd (true≢false quiet_call)
    write_on f s put.NotYet old new d k quiet_call h = stays-end f s old new d k h.1 (ap (λ (e : SeenEnd). e.id) h.0.1)
    write_on f s put.Failed old new d k quiet_call h = stays-end f s old new d k h.1 (ap (λ (e : SeenEnd). e.id) h.0.1)
    write_on f s put.NoMemory old new d k quiet_call h = stays-same f s old new d k h

pub hears_on : HearsBeside
hears_on f s n old new d k h =
    let piece : List ℕ = h.hears.piece in
    let reads = h.hears.reads in
    record {
      bytes = take n piece;
      some = reads.0.some;
      count = length-take-le n piece reads.0.fits;
      log = ap (λ (e : SeenEnd). e.log.got) reads.2;
      stands =
          heard-beside f s (take n piece) old new d k
          (h.only ∙ ap (λ r. record old { end = new.end; reading = r }) h.hears.heard)
          (ap (λ (e : SeenEnd). e.id) reads.2);
    }
