-- Records that are alike judge asks that say the same alike, but for want of memory; and they hear news alike.
use Rattle.std.proofs.Common.{◌≡◌, ℕ, ◌&&◌, ◌++◌, List, [], ◌∷◌, Bool, true, false, if◌then◌else◌, Option, None, Some, refl, sym, subst, ◌∙◌, ap}
use Rattle.std.specs.Prelude.{IfSome, IsSome}
use Rattle.std.specs.Option.{is_none, option_map}
use Rattle.m2_fabric.proofs.m2_lemmas.Options.{some_same}
use Rattle.m2_fabric.specs.End as end
use Rattle.m2_fabric.specs.End.{SeenEnd}
use Rattle.m2_fabric.specs.Kinds.{IsInMemory}
use Rattle.m2_fabric.specs.Sockets.{same_socket}
use Rattle.m2_fabric.specs.Port.{one_hears}
use Rattle.m2_fabric.specs.declared.end.News.{News}
use Rattle.m2_fabric.specs.declared.socket.SocketId.{SocketId}
use Rattle.m2_trail.specs.Asks.{facts_of_ask}
use Rattle.m2_trail.specs.Incoming as incoming
use Rattle.m2_trail.specs.Incoming.{IncomingNow, after_judging, items_of}
use Rattle.m2_trail.specs.Trails.{TrailNow, unread_of}
use Rattle.m2_script.proofs.m2_center.m2_turn.m2_core.Judged.{refuses_by}
use Rattle.m2_script.specs.m2_center.m2_core.CoreNow.{CoreNow, IsAskedIfSigned}
use Rattle.m2_script.specs.m2_center.m2_core.Counting.{to_count}
use Rattle.m2_script.specs.m2_center.m2_core.Effects.{closed_if}
use Rattle.m2_script.specs.m2_center.m2_core.Judging.{acceptance_text, told_of, verdict_on}
use Rattle.m2_script.specs.m2_center.m2_core.LiveCalls.{live_with, resumed_by_ask}
use Rattle.m2_script.specs.m2_center.m2_core.LiveNow.{LiveNow}
use Rattle.m2_script.specs.m2_center.m2_core.OnFeed.{feed_after_news}
use Rattle.m2_script.specs.m2_center.m2_core.TakingOver.{IsTakenFeed, after_answering, after_taking}
use Rattle.m2_script.specs.m2_center.m2_core.Waits.{stepped}
use Rattle.m2_script.specs.m2_center.m2_core.declared.verdict.Verdict.{Verdict}
use Rattle.m2_script.specs.m2_center.m2_feed.FeedNow.{FeedNow, framing, is_framing}
use Rattle.m2_script.specs.m2_center.m2_feed.declared.writing.Writing.TheVariants.{Named}
use Rattle.m2_script.specs.m2_center.m2_feed.m2_journal.SideFacts.{cookie_of}
use Rattle.m2_script.specs.m2_center.m2_feed.m2_journal.Steps.{kept_of}
use Rattle.m2_script.specs.m2_center.m2_feed.m2_journal.declared.entry.JudgedItem.{JudgedItem}
use Rattle.m2_script.specs.m2_center.m2_feed.m2_session.SessionLaws.{takes}
use Rattle.m2_script.specs.m2_center.m2_feed.m2_session.declared.answer.Answer.{Answer}
use Rattle.m2_script.specs.m2_center.m2_feed.m2_session.declared.ask.AskFacts.{AskFacts}
use Rattle.m2_script.specs.m2_center.m2_turn.m2_handshake.Asks.{bare_ask}
use Rattle.m2_script.specs.m2_center.m2_turn.m2_handshake.declared.ask.Ask.{Ask}
use Rattle.m2_script.specs.m2_center.m2_turn.m2_handshake.declared.ask.Ask.TheVariants.{Ident, Reconnect}
use Rattle.m2_script.specs.m2_center.m2_record.Calls.{CountsResumption, after_news, left_by}
use Rattle.m2_script.specs.m2_center.m2_record.Judging.{JudgesAs, TakenHalf, TakesOver, after_answer, after_taking_over, effects_at, half_of, with_judged}
use Rattle.m2_script.specs.m2_center.m2_record.RecordNow.{RecordNow}
use Rattle.m2_script.specs.m2_center.m2_record.declared.judging.Judged.{Judged}
use Rattle.m2_script.specs.m2_center.m2_record.declared.judging.Judged.TheVariants as judged
use Rattle.m2_exact.proofs.Cores as cores
use Rattle.m2_exact.proofs.InMemory as ends
use Rattle.m2_exact.proofs.Plain as calls
use Rattle.m2_exact.proofs.Plain.{none}
use Rattle.m2_exact.proofs.Signing as signing
use Rattle.m2_exact.proofs.Staying as staying
use Rattle.m2_exact.proofs.Steps as steps
use Rattle.m2_exact.specs.Cores.{FeedIsInMemory, OnMemory, roomless, roomless_feed}
use Rattle.m2_exact.specs.Halves as half
use Rattle.m2_exact.specs.Judgements.{BackInMemory, Judges, LikeRecordsJudgeAlike, bare_judged, lacks}
use Rattle.m2_exact.specs.Records.{plain}
use Rattle.m2_exact.specs.RecordTurns.{IsFit}

-- ---- asks

facts_bare : (ask : Ask) → facts_of_ask ask ≡ facts_of_ask (bare_ask ask)
facts_bare (Ident i) = refl
facts_bare (Reconnect r) = refl

items_bare : (o : Option Ask) (answer : Answer) → items_of o answer ≡ items_of (option_map bare_ask o) answer
items_bare (Some ask) answer = ap (λ (f : AskFacts). record { ask = f; answer = answer } ∷ []) (facts_bare ask)
items_bare None answer = refl

judging_plain : (answer : Answer) (room : ℕ) (a : IncomingNow) → half.plain (after_judging answer room a) ≡ after_judging answer 0 (half.plain a)
judging_plain answer room a = ap (λ (items : List JudgedItem). record (half.plain a) { trail = incoming.with_judged items a.trail; is_judged = true }) (items_bare a.ask answer)

-- ---- an answer that takes no socket

answered : (v : Verdict) (socket : SocketId) (now : ℕ) (r : RecordNow) → plain (after_answer v socket now r) ≡ after_answer v socket now (plain r)
answered v socket now r =
    let e = effects_at v r in
    let closed = closed_if e.close r.core.live.feed in
    ap (λ (x : RecordNow). record x {
      core = roomless (after_answering v r.core);
      waits = stepped r.core.facts.node now r.core.live.session.phase (after_answering v r.core).live.session.phase r.waits;
      held = r.held && is_none closed;
    }) (calls.left e (with_judged v socket r))
    ∙ ap (λ (l : LiveNow). record (left_by e (with_judged v socket (plain r))) {
      core = record r.core { live = l; top = v.number };
      waits = stepped r.core.facts.node now r.core.live.session.phase l.session.phase r.waits;
      held = r.held && is_none closed;
    }) (cores.tells_seen none (told_of r.core.facts v) r.core.live)
    ∙ ap (λ (x : Option SeenEnd). record (after_answer v socket now (plain r)) { held = r.held && is_none x }) (cores.closed_seen none e.close r.core.live.feed)

-- ---- an answer that takes the socket

-- the feed that begins on it
abbrev first_feed : Verdict → TakenHalf → CoreNow → FeedNow
first_feed v h c = record {
  end = h.end;
  opened = false;
  reading = framing h.unread false;
  composed = acceptance_text c.facts v c.live.last;
  writing = Named false;
  stamps = [];
  room = record { payload = 0; text = 0 };
}

abbrev taken_record : Verdict → TakenHalf → (now : ℕ) → RecordNow → RecordNow
taken_record v h now r = after_taking_over v h (first_feed v h r.core) now r

taken : (v : Verdict) (h : TakenHalf) (d : FeedNow) (now : ℕ) (r : RecordNow) → roomless_feed d ≡ first_feed v h r.core → plain (after_taking_over v h d now r) ≡ taken_record v h now (plain r)
taken v h d now r is =
    let e = effects_at v r in
    let resumed = resumed_by_ask v.ask in
    ap (λ (x : RecordNow). record x {
      core = roomless (after_taking v d r.core);
      trails = r.trails ++ h.trail ∷ [];
      waits = stepped r.core.facts.node now r.core.live.session.phase (after_taking v d r.core).live.session.phase r.waits;
      held = false;
    }) (calls.left e (with_judged v h.end.id r))
    ∙ ap (λ (l : LiveNow). record (left_by e (with_judged v h.end.id (plain r))) {
      core = record r.core { live = record l { feed = Some (roomless_feed d); resumed = resumed }; dials = false; top = v.number };
      trails = r.trails ++ h.trail ∷ [];
      waits = stepped r.core.facts.node now r.core.live.session.phase l.session.phase r.waits;
      held = false;
    }) (cores.tells_seen none (told_of r.core.facts v) r.core.live)
    ∙ ap (λ (x : FeedNow). record (taken_record v h now (plain r)) {
      core = record (taken_record v h now (plain r)).core { live = record (taken_record v h now (plain r)).core.live { feed = Some x } };
    }) is

takes_over : (v : Verdict) (h : TakenHalf) (now : ℕ) (r new : RecordNow) → TakesOver v h now r new → plain new ≡ taken_record v h now (plain r)
takes_over v h now r new (each, some) = by new.core.live.feed each some
  where
    by : (x : Option FeedNow) → IfSome x (λ d. IsTakenFeed v h.end h.unread r.core d × (new ≡ record (after_taking_over v h d now r) { room = new.room })) → IsSome x →
        plain new ≡ taken_record v h now (plain r)
    by (Some d) (is, only) some = ap plain only ∙ taken v h d now r (ap roomless_feed is)
    by None each some = absurd (cc some)

-- ---- by the answer

abbrev pub taken_so : {E : Type 0} → Answer → Judged E
taken_so answer = judged.Taken answer

abbrev pub back_so : {E : Type 0} → Answer → IncomingNow → Judged E
back_so answer a = judged.Back answer a

-- Taken, where the answer takes a socket, and else back
abbrev judged_by : {E : Type 0} → (takes : Bool) → Answer → IncomingNow → Judged E
judged_by true answer a = judged.Taken answer
judged_by false answer a = judged.Back answer (after_judging answer 0 a)

-- what an answer leaves, and what is counted then
abbrev Leaves : (takes : Bool) → Verdict → IncomingNow → (now : ℕ) → RecordNow → RecordNow → Type 0
Leaves true v a now r new = (mid : RecordNow) × (plain mid ≡ taken_record v (half_of v.answer a) now (plain r)) × CountsResumption mid new
Leaves false v a now r new = plain new ≡ after_answer v a.end.id now (plain r)

judged_so : {E : Type 0} (j : Judged E) (v : Verdict) (a : IncomingNow) (now : ℕ) (r new : RecordNow) → lacks j ≡ false → JudgesAs j v a now r new →
    (bare_judged j ≡ judged_by (takes v.answer) v.answer (half.plain a)) × Leaves (takes v.answer) v a now r new
judged_so {E} (judged.Taken answer) v a now r new m (is, may, h) =
    let yes : takes v.answer ≡ true = sym (ap takes is) ∙ may in (
      ap (λ (x : Answer). taken_so {E = E} x) is ∙ ap (λ (b : Bool). judged_by {E = E} b v.answer (half.plain a)) (sym yes),
      subst (λ (b : Bool). Leaves b v a now r new) (sym yes)
          (h.taken, takes_over v (half_of v.answer a) now r h.taken (subst (λ (x : Answer). TakesOver v (half_of x a) now r h.taken) is h.over), h.counts),
    )
judged_so {E} (judged.Back answer arrival) v a now r new m (is, may, back, only) =
    let not_taken : takes v.answer ≡ false = sym (ap takes is) ∙ may in (
      ap (λ (x : IncomingNow). back_so {E = E} answer x) (ap half.plain back ∙ judging_plain answer arrival.room a)
          ∙ ap (λ (x : Answer). back_so {E = E} x (after_judging x 0 (half.plain a))) is
          ∙ ap (λ (b : Bool). judged_by {E = E} b v.answer (half.plain a)) (sym not_taken),
      subst (λ (b : Bool). Leaves b v a now r new) (sym not_taken) (ap plain only ∙ answered v a.end.id now r),
    )
judged_so (judged.NoMemory arrival) v a now r new m h = absurd (cc m)

same_half : (answer : Answer) (a b : IncomingNow) → half.plain a ≡ half.plain b → half_of answer a ≡ half_of answer b
same_half answer a b like = by a ∙ ap (half_of answer) like ∙ sym (by b)
  where
    by : (a : IncomingNow) → half_of answer a ≡ half_of answer (half.plain a)
    by a = ap (λ (items : List JudgedItem). let trail : TrailNow = incoming.with_judged items a.trail in record { end = a.end; unread = unread_of trail a.end.log; trail = trail }) (items_bare a.ask answer)

leaves_one : (b : Bool) (v w : Verdict) (x y : IncomingNow) (now : ℕ) (r s new behind : RecordNow) → v ≡ w → half.plain x ≡ half.plain y → plain r ≡ plain s → Leaves b v x now r new →
    Leaves b w y now s behind → plain new ≡ plain behind
leaves_one true v w x y now r s new behind same like alike (mid, is, c) (amid, are, d) =
    let both : plain mid ≡ plain amid =
    is
    ∙ ap (λ (u : Verdict). taken_record u (half_of u.answer x) now (plain r)) same
    ∙ ap (λ (h : TakenHalf). taken_record w h now (plain r)) (same_half w.answer x y like)
    ∙ ap (taken_record w (half_of w.answer y) now) alike
    ∙ sym are in
    steps.counts (to_count mid.core.live) mid amid new behind both refl c d
leaves_one false v w x y now r s new behind same like alike h g =
    h
    ∙ ap (λ (u : Verdict). after_answer u x.end.id now (plain r)) same
    ∙ ap (λ (z : IncomingNow). after_answer w z.end.id now (plain r)) like
    ∙ ap (after_answer w y.end.id now) alike
    ∙ sym g

same_verdict : (o p : Ask) (number : ℕ) (c d : CoreNow) → bare_ask o ≡ bare_ask p → roomless c ≡ roomless d → verdict_on (facts_of_ask o) number c.live ≡ verdict_on (facts_of_ask p) number d.live
same_verdict o p number c d asks like =
    ap (λ (f : AskFacts). verdict_on f number c.live) (facts_bare o ∙ ap facts_of_ask asks ∙ sym (facts_bare p)) ∙ ap (λ (k : CoreNow). verdict_on (facts_of_ask p) number k.live) like

-- the ask, and what was judged
asked : {E : Type 0} (j : Judged E) (a : IncomingNow) (number now : ℕ) (r new : RecordNow) → Judges j a number now r new →
    (ask : Ask) × (a.ask ≡ Some ask) × JudgesAs j (verdict_on (facts_of_ask ask) number r.core.live) a now r new
asked j a number now r new h = by a.ask h.asked h.judges
  where
    by : (o : Option Ask) → IsSome o → IfSome o (λ ask. JudgesAs j (verdict_on (facts_of_ask ask) number r.core.live) a now r new) →
        (ask : Ask) × (o ≡ Some ask) × JudgesAs j (verdict_on (facts_of_ask ask) number r.core.live) a now r new
    by (Some ask) some h = (ask, refl, h)
    by None some h = absurd (cc some)

judges_one : {E : Type 0} (one other : Judged E) (a b : IncomingNow) (number now : ℕ) (r s new behind : RecordNow) → half.plain a ≡ half.plain b → plain r ≡ plain s → Judges one a number now r new →
    Judges other b number now s behind → (bare_judged one ≡ bare_judged other) × (plain new ≡ plain behind)
judges_one {E} one other a b number now r s new behind like alike h g =
    let (o, is, judges) = asked one a number now r new h in
    let (p, are, judged) = asked other b number now s behind g in
    let asks = some_same (bare_ask o) (bare_ask p) (sym (ap (option_map bare_ask) is) ∙ ap (λ (x : IncomingNow). x.ask) like ∙ ap (option_map bare_ask) are) in
    let v = verdict_on (facts_of_ask o) number r.core.live in
    let w = verdict_on (facts_of_ask p) number s.core.live in
    let same : v ≡ w = same_verdict o p number r.core s.core asks (ap (λ (x : RecordNow). x.core) alike) in
    let first = judged_so one v a now r new h.memory judges in
    let second = judged_so other w b now s behind g.memory judged in (
      first.0
          ∙ ap (λ (u : Verdict). judged_by {E = E} (takes u.answer) u.answer (half.plain a)) same
          ∙ ap (λ (x : IncomingNow). judged_by {E = E} (takes w.answer) w.answer x) like
          ∙ sym second.0,
      leaves_one (takes w.answer) v w a b now r s new behind same like alike (subst (λ (u : Verdict). Leaves (takes u.answer) v a now r new) same first.1) second.1,
    )

-- ---- it stays fit

-- both sides have signed on a socket that is taken
taken_fit : (v : Verdict) (h : TakenHalf) (now : ℕ) (r new : RecordNow) → IsInMemory h.end → TakesOver v h now r new → IsFit new
taken_fit v h now r new m (each, some) = let both = by new.core.live.feed each some in record { memory = both.0; asked = both.1 }
  where
    by : (x : Option FeedNow) → IfSome x (λ d. IsTakenFeed v h.end h.unread r.core d × (new ≡ record (after_taking_over v h d now r) { room = new.room })) → IsSome x →
        OnMemory x × IsAskedIfSigned new.core.live.session.phase x
    by (Some d) (is, only) some =
        let signed : is_framing d.reading ≡ true = ap (λ (z : FeedNow). is_framing z.reading) is in
        (subst (λ (z : FeedNow). IsInMemory z.end) (sym is) m, λ e. absurd (cc (signed, e)))
    by None each some = absurd (cc some)

judged_fit : {E : Type 0} (j : Judged E) (v : Verdict) (a : IncomingNow) (now : ℕ) (r new : RecordNow) → IsInMemory a.end → IsFit r → lacks j ≡ false → JudgesAs j v a now r new →
    IsFit new × BackInMemory j
judged_fit (judged.Taken answer) v a now r new m f k (is, may, h) =
    let over = taken_fit v (half_of answer a) now r h.taken m h.over in
    let n = to_count h.taken.core.live in
    (record { memory = staying.counts n h.taken.core new.core over.memory h.counts.0; asked = signing.counts n h.taken.core new.core over.asked h.counts.0 }, tt)
judged_fit (judged.Back answer arrival) v a now r new m f k (is, may, back, only) =
    let told = told_of r.core.facts v in (
      record {
        memory = subst (λ (z : RecordNow). FeedIsInMemory z.core) (sym only) (ends.told told r.core.live f.memory);
        asked = subst (λ (z : RecordNow). IsAskedIfSigned z.core.live.session.phase z.core.live.feed) (sym only)
            (signing.told_quietly told r.core.live (refuses_by v.ask.ident (kept_of r.core.facts v.ask) v.answer (cookie_of r.core.facts v.number) (sym (ap takes is) ∙ may)) f.asked);
      },
      subst (λ (x : IncomingNow). IsInMemory x.end) (sym back) m,
    )
judged_fit (judged.NoMemory arrival) v a now r new m f k h = absurd (cc k)

stays : {E : Type 0} (j : Judged E) (a : IncomingNow) (number now : ℕ) (old new : RecordNow) → IsInMemory a.end → IsFit old → Judges j a number now old new → IsFit new × BackInMemory j
stays j a number now old new m f h = let (ask, is, judges) = asked j a number now old new h in judged_fit j (verdict_on (facts_of_ask ask) number old.core.live) a now old new m f h.memory judges

-- ---- news

news_plain : (id : SocketId) (news : News) (bytes : List ℕ) (r : RecordNow) → plain (after_news id news bytes r) ≡ after_news id news bytes (plain r)
news_plain id news bytes r = by r.core.live.feed
  where
    on : (b : Bool) (v : FeedNow) → plain (if b then record r { core = record r.core { live = live_with (feed_after_news news bytes (Some v)) r.core.live } } else record r { core = record r.core { live = live_with (Some v) r.core.live }; spent = one_hears id (end.after_news news bytes) r.spent })
        ≡ (if b then record (plain r) { core = record r.core { live = live_with (feed_after_news news bytes (Some (roomless_feed v))) r.core.live } }
        else record (plain r) { core = record r.core { live = live_with (Some (roomless_feed v)) r.core.live }; spent = one_hears id (end.after_news news bytes) r.spent })
    on true v = refl
    on false v = refl

    by : (x : Option FeedNow) → plain (after_news id news bytes (record r { core = record r.core { live = live_with x r.core.live } }))
        ≡ after_news id news bytes (plain (record r { core = record r.core { live = live_with x r.core.live } }))
    by (Some v) = on (same_socket id v.end.id) v
    by None = refl

news_one : (id : SocketId) (news : News) (bytes : List ℕ) (r s : RecordNow) → plain r ≡ plain s → plain (after_news id news bytes r) ≡ plain (after_news id news bytes s)
news_one id news bytes r s like = news_plain id news bytes r ∙ ap (after_news id news bytes) like ∙ sym (news_plain id news bytes s)

pub alike : {E : Type 0} → LikeRecordsJudgeAlike E
alike = record { judges = judges_one; stays = stays; news = news_one }
