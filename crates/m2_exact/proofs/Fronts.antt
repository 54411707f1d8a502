-- What cores that are alike but for room answer to the front of their feeds, and what that leaves of them.
use Rattle.std.proofs.Common.{◌≡◌, ℕ, ◌++◌, List, [], ◌∷◌, Ok, Option, None, Some, refl, sym, subst, ◌∙◌, ap}
use Rattle.std.specs.Prelude.{◌≢◌}
use Rattle.std.specs.Option.{option_map}
use Rattle.m2_fabric.proofs.m2_lemmas.Options.{some_same}
use Rattle.m2_script.specs.m2_center.m2_core.CoreNow.{CoreNow}
use Rattle.m2_script.specs.m2_center.m2_core.LiveCalls.{live_with}
use Rattle.m2_script.specs.m2_center.m2_core.OnFeed.{GreetsFeed, PassesItem}
use Rattle.m2_script.specs.m2_center.m2_core.Shaken.{HasShaken}
use Rattle.m2_script.specs.m2_center.m2_feed.m2_control.declared.keepalive.Keepalive.{Keepalive}
use Rattle.m2_script.specs.m2_center.m2_feed.Calls.{GreetsOn, IsFront, NotesStamp, Passes, after_greeting}
use Rattle.m2_script.specs.m2_center.m2_feed.FeedNow.{FeedNow, Reading, framing, shaking}
use Rattle.m2_script.specs.m2_center.m2_turn.m2_handshake.m2_frame.Frame.{Parts}
use Rattle.m2_script.specs.m2_center.m2_turn.m2_handshake.m2_frame.Reading.{Item, whole}
use Rattle.m2_script.specs.m2_center.m2_turn.m2_handshake.declared.answer.HalfStep.{HalfStep}
use Rattle.m2_script.specs.m2_center.m2_turn.m2_handshake.declared.answer.HalfStep.TheVariants as half
use Rattle.m2_script.specs.m2_center.m2_turn.m2_handshake.Half.{Answers, Writer}
use Rattle.m2_script.specs.m2_center.m2_turn.m2_handshake.Standing.{Standing}
use Rattle.m2_exact.proofs.Cores as cores
use Rattle.m2_exact.proofs.Handshakes as handshakes
use Rattle.m2_exact.specs.Cores.{roomless, roomless_feed}

-- ---- a half answers

greeting_roomless : (answer : HalfStep) (s : Standing) (composed : List ℕ) (v : FeedNow) →
    roomless_feed (after_greeting answer s composed v) ≡ after_greeting answer s composed (roomless_feed v)
greeting_roomless half.Authed s composed v = refl
greeting_roomless half.NotYet s composed v = refl
greeting_roomless half.Wrote s composed v = refl
greeting_roomless (half.Fault f) s composed v = refl
greeting_roomless half.NoMemory s composed v = refl

same_standing : (r : Reading) (s t : Standing) → r ≡ shaking s → r ≡ shaking t → s ≡ t
same_standing r s t h k = cc (h, k)

greets_on : (one other : HalfStep) (v w new behind : FeedNow) → roomless_feed v ≡ roomless_feed w → one ≢ half.NoMemory → other ≢ half.NoMemory →
    GreetsOn one v new → GreetsOn other w behind → (one ≡ other) × (roomless_feed new ≡ roomless_feed behind)
greets_on one other v w new behind like m n g h =
    let stood : h.before ≡ g.before = same_standing v.reading h.before g.before (ap (λ (x : FeedNow). x.reading) like ∙ h.stood) g.stood in
    let (words, wrote, does) = g.writes in
    let (more, put, did) = h.writes in
    let both = handshakes.answers one other (record { standing = g.before; out = [] }) (record { standing = g.after; out = words }) (record { standing = h.after; out = more }) m n does
    (subst (λ (s : Standing). Answers other (record { standing = s; out = [] }) (record { standing = h.after; out = more })) stood did) in
    let composed : new.composed ≡ behind.composed =
    wrote ∙ ap (λ (l : List ℕ). v.composed ++ l) (ap (λ (x : Writer). x.out) both.1) ∙ ap (λ (l : List ℕ). l ++ more) (ap (λ (x : FeedNow). x.composed) like) ∙ sym put in (
      both.0,
      ap roomless_feed g.leaves
          ∙ greeting_roomless one g.after new.composed v
          ∙ ap (λ (x : FeedNow). after_greeting one g.after new.composed x) like
          ∙ ap (λ (l : List ℕ). after_greeting one g.after l (roomless_feed w)) composed
          ∙ ap (λ (x : Writer). after_greeting one x.standing behind.composed (roomless_feed w)) both.1
          ∙ ap (λ (a : HalfStep). after_greeting a h.after behind.composed (roomless_feed w)) both.0
          ∙ sym (greeting_roomless other h.after behind.composed w)
          ∙ sym (ap roomless_feed h.leaves),
    )

greets_feed : (one other : HalfStep) (x y new behind : Option FeedNow) → option_map roomless_feed x ≡ option_map roomless_feed y → one ≢ half.NoMemory → other ≢ half.NoMemory →
    GreetsFeed one x new → GreetsFeed other y behind → (one ≡ other) × (option_map roomless_feed new ≡ option_map roomless_feed behind)
greets_feed one other (Some v) (Some w) (Some new) (Some behind) like m n g h =
    let both = greets_on one other v w new behind (some_same (roomless_feed v) (roomless_feed w) like) m n g h in
    (both.0, ap (λ (x : FeedNow). Some x) both.1)
greets_feed one other (Some v) (Some w) (Some new) None like m n g h = absurd h
greets_feed one other (Some v) (Some w) None behind like m n g h = absurd g
greets_feed one other (Some v) None new behind like m n g h = absurd h
greets_feed one other None y new behind like m n g h = absurd g

-- the feed alone changes
pub with_feed : (c d new behind : CoreNow) → roomless c ≡ roomless d → option_map roomless_feed new.live.feed ≡ option_map roomless_feed behind.live.feed →
    new ≡ record c { live = live_with new.live.feed c.live } → behind ≡ record d { live = live_with behind.live.feed d.live } → roomless new ≡ roomless behind
with_feed c d new behind like feeds only last =
    ap roomless only ∙ ap (λ (x : Option FeedNow). record c { live = live_with x c.live }) feeds
    ∙ ap (λ (k : CoreNow). record k { live = live_with (option_map roomless_feed behind.live.feed) k.live }) like ∙ sym (ap roomless last)

pub shakes : (one other : HalfStep) (c d new behind : CoreNow) → roomless c ≡ roomless d → one ≢ half.NoMemory → other ≢ half.NoMemory →
    HasShaken one c new → HasShaken other d behind → (one ≡ other) × (roomless new ≡ roomless behind)
shakes one other c d new behind like m n g h =
    let both = greets_feed one other c.live.feed d.live.feed new.live.feed behind.live.feed (ap (λ (k : CoreNow). k.live.feed) like) m n g.greets h.greets in
    (both.0, with_feed c d new behind like both.1 g.only h.only)

-- ---- what is passed

frame_one : (r : Reading) (a b : Parts) (n m : ℕ) → IsFront r (whole a) n → IsFront r (whole b) m → a ≡ b
frame_one (framing rest granted) a b n m h k = cc (h.1, k.1)
frame_one (shaking s) a b n m h k = absurd h

-- what is read alone changes
reads_only : (v w x y : FeedNow) → roomless_feed v ≡ roomless_feed w → x.reading ≡ y.reading → x ≡ record v { reading = x.reading } → y ≡ record w { reading = y.reading } →
    roomless_feed x ≡ roomless_feed y
reads_only v w x y like reading only last =
    ap roomless_feed only ∙ ap (λ (r : Reading). record (roomless_feed v) { reading = r }) reading ∙ ap (λ (z : FeedNow). record z { reading = y.reading }) like ∙ sym (ap roomless_feed last)

pub passes_item : (a b : Item) (v w x y : Option FeedNow) → option_map roomless_feed v ≡ option_map roomless_feed w → PassesItem a v x → PassesItem b w y →
    option_map roomless_feed x ≡ option_map roomless_feed y
passes_item a b (Some v) (Some w) (Some x) (Some y) like (p, only) (q, last) =
    let same = some_same (roomless_feed v) (roomless_feed w) like in
    let read = ap (λ (z : FeedNow). z.reading) same in
    ap (λ (z : FeedNow). Some z)
    (reads_only v w x y same (cores.passes_one w.reading x.reading y.reading p.other q.other (subst (λ (r : Reading). Passes r p.other x.reading) read p.passes) q.passes) only last)
passes_item a b (Some v) (Some w) (Some x) None like p q = absurd q
passes_item a b (Some v) (Some w) None y like p q = absurd p
passes_item a b (Some v) None x y like p q = absurd q
passes_item a b None w x y like p q = absurd p

-- and by the frame at the front
pub frames_one : (a b : Parts) (v w x y : Option FeedNow) → option_map roomless_feed v ≡ option_map roomless_feed w → PassesItem (whole a) v x → PassesItem (whole b) w y → a ≡ b
frames_one a b (Some v) (Some w) (Some x) (Some y) like (p, only) (q, last) =
    let read = ap (λ (z : FeedNow). z.reading) (some_same (roomless_feed v) (roomless_feed w) like) in
    frame_one w.reading a b p.len q.len (subst (λ (r : Reading). IsFront r (whole a) p.len) read p.front) q.front
frames_one a b (Some v) (Some w) (Some x) None like p q = absurd q
frames_one a b (Some v) (Some w) None y like p q = absurd p
frames_one a b (Some v) None x y like p q = absurd q
frames_one a b None w x y like p q = absurd p

pub stamps_feed : (v w x y : FeedNow) (k : Keepalive) → roomless_feed v ≡ roomless_feed w → NotesStamp (Ok tt) k v x → NotesStamp (Ok tt) k w y → roomless_feed x ≡ roomless_feed y
stamps_feed v w x y k like ((f, p), only) ((g, q), last) =
    let read = cores.passes_one w.reading x.reading y.reading (whole f) (whole g) (subst (λ (r : Reading). Passes r (whole f) x.reading) (ap (λ (z : FeedNow). z.reading) like) p) q in
    ap roomless_feed only
    ∙ ap (λ (r : Reading). record (roomless_feed v) { reading = r; stamps = v.stamps ++ k ∷ [] }) read
    ∙ ap (λ (z : FeedNow). record z { reading = y.reading; stamps = z.stamps ++ k ∷ [] }) like
    ∙ sym (ap roomless_feed last)
