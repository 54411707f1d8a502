-- While the opener's half reads: what is heard, what it answers, and where it signs.
use Rattle.std.specs.Prelude.{is_none, if◌then◌else◌, ◌&&◌}
use Rattle.std.proofs.Common.{◌≡◌, ℕ, ◌+◌, ◌≤◌, Bool, true, false, List, [], ◌∷◌, ◌++◌, Some, None, refl, sym, ap, ◌∙◌, subst, append_assoc, append-nil}
use Rattle.std.proofs.lemmas.Bool.{true≢false}
use Rattle.m2_frame.specs.Reading.{Item}
use Rattle.m2_handshake.specs.declared.answer.HalfStep.{HalfStep}
use Rattle.m2_handshake.specs.declared.answer.HalfStep.TheVariants as half
use Rattle.m2_handshake.specs.declared.stage.HalfSide.TheVariants.{Opener}
use Rattle.m2_handshake.specs.declared.stage.Stage.{Stage}
use Rattle.m2_handshake.specs.declared.stage.Stage.TheVariants.{Opening, Banner, Waits, Authed, Asked, Ended, Faulty}
use Rattle.m2_fabric.specs.declared.socket.SocketId.{SocketId}
use Rattle.m2_handshake.specs.declared.fault.HalfFault.{HalfFault}
use Rattle.m2_handshake.specs.Asking.{is_ready}
use Rattle.m2_handshake.specs.Course.{Event, Runs, IsRested, Course, course_of, text_of, no_exchange}
use Rattle.m2_handshake.specs.Half.{Answers, Writer}
use Rattle.m2_handshake.specs.Moves.{is_authed}
use Rattle.m2_handshake.specs.Standing.{Standing, fed, fed_at, faulted_at}
use Rattle.m2_handshake.proofs.Course.{ended, feeds, grows, rests_there}
use Rattle.m2_handshake.proofs.Leading.{is_faulty}
use Rattle.m2_handshake.proofs.Reaching.{begins, leads_on, fed_none_at}
use Rattle.m2_handshake.proofs.Turns.{fed_stage}
use Rattle.m2_journal.specs.Feeds.{greets, signs, goes_on, hears, hears_at, split_into, silent_feed}
use Rattle.m2_journal.specs.Said.{Split, split}
use Rattle.m2_journal.specs.State.{Feed}
use Rattle.m2_journal.proofs.Splitting.{split-feed}
use Rattle.m2_journal.specs.Lawful as journal
use Rattle.m2_journal.specs.Lawful.{has_failed}
use Rattle.m2_feed.specs.declared.writing.Writing.TheVariants.{Nothing}
use Rattle.m2_feed.specs.Calls.{is_signing}
use Rattle.m2_feed.specs.FeedNow.{FeedNow}
use Rattle.m2_feed.specs.Stands.{Shakes}
use Rattle.m2_feed.proofs.Answering.{signs_only_as}
use Rattle.m2_feed.proofs.Courses.{ran, goes-on, going_on, rested-course, texts-append, runs-side}

-- ---- where the replay's half has come to

abbrev signs_at : Bool → Standing → Feed → Feed
signs_at b s d = if b then split_into (split s.rest) (record d { hand = None }) else record d { hand = Some s }

abbrev Alike : Feed → Feed → Type 0
Alike d e = (d.hand ≡ e.hand) × (d.got ≡ e.got) × (d.rest ≡ e.rest)

signs_at-alike : (b : Bool) (s : Standing) (d e : Feed) → d.got ≡ e.got → d.rest ≡ e.rest → Alike (signs_at b s d) (signs_at b s e)
signs_at-alike true s d e h k = (refl, ap (λ (l : List Item). l ++ (split s.rest).items) h, refl)
signs_at-alike false s d e h k = (refl, h, k)

pub signs-alike : (s : Standing) (d e : Feed) → d.got ≡ e.got → d.rest ≡ e.rest → Alike (signs s d) (signs s e)
signs-alike s d e h k = signs_at-alike (is_authed s.stage) s d e h k

abbrev Kept : Feed → Feed → Type 0
Kept d e = (e.texts ≡ d.texts) × (e.taken ≡ d.taken) × (e.answered ≡ d.answered) × (e.socket ≡ d.socket) × (e.opened ≡ d.opened)

signs_at-kept : (b : Bool) (s : Standing) (d : Feed) → Kept d (signs_at b s d)
signs_at-kept true s d = (refl, refl, refl, refl, refl)
signs_at-kept false s d = (refl, refl, refl, refl, refl)

pub signs-kept : (s : Standing) (d : Feed) → Kept d (signs s d)
signs-kept s d = signs_at-kept (is_authed s.stage) s d

signs-where : (b : Bool) (s : Standing) (d : Feed) → is_authed s.stage ≡ b → signs s d ≡ signs_at b s d
signs-where b s d e = ap (λ x. signs_at x s d) e

-- ---- greetings

pub greets-greets : (xs ys : List ℕ) → greets ys (greets xs []) ≡ greets (xs ++ ys) []
greets-greets [] ys = refl
greets-greets (x ∷ xs) [] = ap (λ (l : List ℕ). greets l []) (sym (append-nil (x ∷ xs)))
greets-greets (x ∷ xs) (y ∷ ys) = refl

-- ---- beside a course

abbrev pub Beside : Course → FeedNow → Feed → Type 0
Beside c v d =
    Alike d (signs c.standing (silent_feed d.socket true 0 false))
    × (d.texts ≡ greets (v.composed ++ text_of c.events) [])

beside : (h : Standing) (v : FeedNow) (d : Feed) → Shakes h v d → Beside (course_of h []) v d
beside h v d k = ((k.hand, k.got, k.rest), k.texts)

joined : (h g : Standing) (v x : FeedNow) (d e : Feed) → Shakes h v d → g.side ≡ h.side → is_authed g.stage ≡ false →
    x.writing ≡ v.writing → x.stamps ≡ v.stamps → e.taken ≡ d.taken → e.answered ≡ d.answered → Beside (course_of g []) x e → Shakes g x e
joined h g v x d e k side unsigned writing stamps taken answered b = record {
  side = side ∙ k.side;
  unsigned = unsigned;
  hand = b.0.0;
  got = b.0.1;
  rest = b.0.2;
  texts = b.1;
  taken = taken ∙ k.taken;
  answered = answered ∙ k.answered;
  writing = writing ∙ k.writing;
  stamps = stamps ∙ k.stamps;
}

fed_side_at : (stage : Stage) (s : Standing) (more : List ℕ) → s.stage ≡ stage → (fed s more).side ≡ s.side
fed_side_at (Faulty f) s more e = ap (λ x. (fed_at x s more).side) e
fed_side_at Opening s more e = ap (λ x. (fed_at x s more).side) e
fed_side_at Banner s more e = ap (λ x. (fed_at x s more).side) e
fed_side_at (Waits a) s more e = ap (λ x. (fed_at x s more).side) e
fed_side_at Authed s more e = ap (λ x. (fed_at x s more).side) e
fed_side_at Asked s more e = ap (λ x. (fed_at x s more).side) e
fed_side_at Ended s more e = ap (λ x. (fed_at x s more).side) e

signed_whole : (stage : Stage) → is_authed stage ≡ true → is_faulty stage ≡ false
signed_whole Opening q = absurd (true≢false (sym q))
signed_whole Banner q = absurd (true≢false (sym q))
signed_whole (Waits a) q = absurd (true≢false (sym q))
signed_whole Authed q = refl
signed_whole Asked q = refl
signed_whole Ended q = refl
signed_whole (Faulty f) q = absurd (true≢false (sym q))

-- ---- hearing

-- the replay has no half any more
hears-signed : (h : Standing) (bytes : List ℕ) (v x : FeedNow) (d : Feed) → Shakes h v d → x.composed ≡ v.composed →
    is_authed (course_of h []).standing.stage ≡ true → (hears bytes d ≡ split_into (split (d.rest ++ bytes)) d) × Beside (course_of (fed h bytes) []) x (split_into (split (d.rest ++ bytes)) d)
hears-signed h bytes v x d k composed q =
    let c = course_of h [] in
    let s = c.standing in
    let r = ran h in
    let e = silent_feed d.socket true 0 false in
    let was : signs s e ≡ signs_at true s e = signs-where true s e q in
    let hand : d.hand ≡ None = k.hand ∙ ap (λ (y : Feed). y.hand) was in
    let got : d.got ≡ (split s.rest).items = k.got ∙ ap (λ (y : Feed). y.got) was in
    let rest : d.rest ≡ (split s.rest).rest = k.rest ∙ ap (λ (y : Feed). y.rest) was in
    let t = fed s bytes in
    let opener : s.side ≡ Opener = runs-side c.events h s r.runs ∙ k.side in
    let signed : is_authed t.stage ≡ true = ap is_authed (fed_stage s bytes) ∙ q in
    let side : t.side ≡ Opener = fed_side_at s.stage s bytes refl ∙ opener in
    let rested : course_of t [] ≡ record { events = []; standing = t } = rested-course t (rests_there.signed t side signed) in
    let on : course_of (fed h bytes) [] ≡ going_on c.events (course_of t []) = goes-on c.events (fed h bytes) t (feeds c.events h s bytes r.runs) r.no_replies in
    let to : course_of (fed h bytes) [] ≡ record { events = c.events ++ []; standing = t } = on ∙ ap (going_on c.events) rested in
    let is : signs t e ≡ signs_at true t e = signs-where true t e signed in
    let unread : t.rest ≡ s.rest ++ bytes = ap (λ (y : Standing). y.rest) (grows s bytes (signed_whole s.stage q)) in
    let pieces : split t.rest ≡ record { items = (split s.rest).items ++ (split ((split s.rest).rest ++ bytes)).items; rest = (split ((split s.rest).rest ++ bytes)).rest } =
    ap split unread ∙ split-feed s.rest bytes in
    let new = split_into (split (d.rest ++ bytes)) d in
    let more : split (d.rest ++ bytes) ≡ split ((split s.rest).rest ++ bytes) = ap (λ (l : List ℕ). split (l ++ bytes)) rest in (
      ap (λ o. hears_at o bytes d) hand,
      subst (λ y. Beside y x new) (sym to) (
        (
          hand ∙ sym (ap (λ (y : Feed). y.hand) is),
          ap (λ (l : List Item). l ++ (split (d.rest ++ bytes)).items) got ∙ ap (λ (y : Split). (split s.rest).items ++ y.items) more
              ∙ sym (ap (λ (y : Split). y.items) pieces) ∙ sym (ap (λ (y : Feed). y.got) is),
          ap (λ (y : Split). y.rest) more ∙ sym (ap (λ (y : Split). y.rest) pieces) ∙ sym (ap (λ (y : Feed). y.rest) is),
        ),
        k.texts ∙ ap (λ (l : List ℕ). greets (l ++ text_of c.events) []) (sym composed) ∙ ap (λ es. greets (x.composed ++ text_of es) []) (sym (append-nil c.events)),
      ),
    )

-- the replay's half hears them
hears-shaking : (h : Standing) (bytes : List ℕ) (v x : FeedNow) (d : Feed) → Shakes h v d → x.composed ≡ v.composed →
    is_authed (course_of h []).standing.stage ≡ false →
    (hears bytes d ≡ goes_on (course_of (fed (course_of h []).standing bytes) []) d)
    × Beside (course_of (fed h bytes) []) x (goes_on (course_of (fed (course_of h []).standing bytes) []) d)
hears-shaking h bytes v x d k composed q =
    let c = course_of h [] in
    let s = c.standing in
    let r = ran h in
    let e = silent_feed d.socket true 0 false in
    let was : signs s e ≡ signs_at false s e = signs-where false s e q in
    let hand : d.hand ≡ Some s = k.hand ∙ ap (λ (y : Feed). y.hand) was in
    let got : d.got ≡ [] = k.got ∙ ap (λ (y : Feed). y.got) was in
    let rest : d.rest ≡ [] = k.rest ∙ ap (λ (y : Feed). y.rest) was in
    let t = fed s bytes in
    let c2 = course_of t [] in
    let on : course_of (fed h bytes) [] ≡ going_on c.events c2 = goes-on c.events (fed h bytes) t (feeds c.events h s bytes r.runs) r.no_replies in
    let put : Feed = record d { texts = greets (text_of c2.events) d.texts } in
    let new = signs c2.standing put in
    let kept = signs-kept c2.standing put in (
      ap (λ o. hears_at o bytes d) hand,
      subst (λ y. Beside y x new) (sym on) (
        signs-alike c2.standing put (silent_feed new.socket true 0 false) got rest,
        kept.0 ∙ ap (greets (text_of c2.events)) k.texts ∙ greets-greets (v.composed ++ text_of c.events) (text_of c2.events)
            ∙ ap (λ (l : List ℕ). greets l []) (append_assoc v.composed (text_of c.events) (text_of c2.events))
            ∙ ap (λ (l : List ℕ). greets (v.composed ++ l) []) (sym (texts-append c.events c2.events))
            ∙ ap (λ (l : List ℕ). greets (l ++ text_of (c.events ++ c2.events)) []) (sym composed),
      ),
    )

pub record HearsShaking (h : Standing) (bytes : List ℕ) (x : FeedNow) (d : Feed) : Type 0 where
  pub socket : (hears bytes d).socket ≡ d.socket
  pub opened : (hears bytes d).opened ≡ d.opened
  pub shakes : Shakes (fed h bytes) x (hears bytes d)

pub hears-on : (h : Standing) (bytes : List ℕ) (v x : FeedNow) (d : Feed) → Shakes h v d → x.composed ≡ v.composed → x.writing ≡ v.writing → x.stamps ≡ v.stamps →
    HearsShaking h bytes x d
hears-on h bytes v x d k composed writing stamps = at (is_authed (course_of h []).standing.stage) refl
  where
    at : (b : Bool) → is_authed (course_of h []).standing.stage ≡ b → HearsShaking h bytes x d
    at true q =
        let both = hears-signed h bytes v x d k composed q in
        let e : Feed = split_into (split (d.rest ++ bytes)) d in
        let is : hears bytes d ≡ e = both.0 in
        let shakes : Shakes (fed h bytes) x e =
        joined h (fed h bytes) v x d e k (fed_side_at h.stage h bytes refl) (ap is_authed (fed_stage h bytes) ∙ k.unsigned) writing stamps refl refl both.1 in
        record {
          socket = ap (λ (y : Feed). y.socket) is;
          opened = ap (λ (y : Feed). y.opened) is;
          shakes = subst (Shakes (fed h bytes) x) (sym is) shakes;
        }
    at false q =
        let both = hears-shaking h bytes v x d k composed q in
        let c2 = course_of (fed (course_of h []).standing bytes) [] in
        let e : Feed = goes_on c2 d in
        let is : hears bytes d ≡ e = both.0 in
        let kept = signs-kept c2.standing (record d { texts = greets (text_of c2.events) d.texts }) in
        let shakes : Shakes (fed h bytes) x e =
        joined h (fed h bytes) v x d e k (fed_side_at h.stage h bytes refl) (ap is_authed (fed_stage h bytes) ∙ k.unsigned) writing stamps kept.1 kept.2 both.1 in
        record {
          socket = ap (λ (y : Feed). y.socket) is ∙ kept.3;
          opened = ap (λ (y : Feed). y.opened) is ∙ kept.4;
          shakes = subst (Shakes (fed h bytes) x) (sym is) shakes;
        }

-- ---- answering

-- the half has done what the replay's half did first
abbrev LedTo : (h g : Standing) → (words : List ℕ) → Type 0
LedTo h g words = (ds : List Event) × (course_of h [] ≡ going_on ds (course_of g [])) × (text_of ds ≡ words) × (g.side ≡ h.side)

led : (answer : HalfStep) (h g : Standing) (words : List ℕ) → Answers answer (record { standing = h; out = [] }) (record { standing = g; out = words }) → LedTo h g words
led answer h g words a =
    let on = leads_on.nexts answer h (record { standing = h; out = [] }) (record { standing = g; out = words }) no_exchange (begins h) a in
    let r = on.2 in
    let runs : Runs r.events h g = subst (λ (s : Standing). Runs r.events s g) (fed_none_at h.stage h) r.runs in
    (r.events, goes-on r.events h g runs r.replies, r.text ∙ sym on.1, runs-side r.events h g runs)

beside-on : (h g : Standing) (words : List ℕ) (v x : FeedNow) (d : Feed) → LedTo h g words → x.composed ≡ v.composed ++ words → Shakes h v d → Beside (course_of g []) x d
beside-on h g words v x d l composed k =
    let c = course_of g [] in
    let b : Beside (going_on l.0 c) v d = subst (λ y. Beside y v d) l.1 (beside h v d k) in (
      b.0,
      b.1 ∙ ap (λ (y : List ℕ). greets (v.composed ++ y) []) (texts-append l.0 c.events)
          ∙ ap (λ (y : List ℕ). greets (v.composed ++ (y ++ text_of c.events)) []) l.2
          ∙ ap (λ (y : List ℕ). greets y []) (sym (append_assoc v.composed words (text_of c.events)))
          ∙ ap (λ (y : List ℕ). greets (y ++ text_of c.events) []) (sym composed),
    )

pub answers-on : (answer : HalfStep) (h g : Standing) (words : List ℕ) (v x : FeedNow) (d : Feed) →
    Answers answer (record { standing = h; out = [] }) (record { standing = g; out = words }) → is_signing answer ≡ false →
    x.composed ≡ v.composed ++ words → x.writing ≡ v.writing → x.stamps ≡ v.stamps → Shakes h v d → Shakes g x d
answers-on answer h g words v x d a n composed writing stamps k =
    let l = led answer h g words a in
    let signs = signs_only_as answer (record { standing = h; out = [] }) (record { standing = g; out = words }) a in
    joined h g v x d d k l.3 (signs.goes_on n k.unsigned) writing stamps refl refl (beside-on h g words v x d l composed k)

-- where it has signed, so has the replay's half, and stands at the same bytes
pub record HasSigned (g : Standing) (x : FeedNow) (d : Feed) : Type 0 where
  pub hand : d.hand ≡ None
  pub got : d.got ≡ (split g.rest).items
  pub rest : d.rest ≡ (split g.rest).rest
  pub texts : d.texts ≡ greets x.composed []

ready-signed : (g : Standing) → is_ready g ≡ true → is_authed g.stage ≡ true
ready-signed g q = at (is_authed g.stage) (is_none g.held) q
  where
    at : (a b : Bool) → (a && b) ≡ true → a ≡ true
    at true b q = refl
    at false b q = absurd (true≢false (sym q))

pub signs-on : (h g : Standing) (words : List ℕ) (v x : FeedNow) (d : Feed) →
    Answers half.Authed (record { standing = h; out = [] }) (record { standing = g; out = words }) →
    x.composed ≡ v.composed ++ words → Shakes h v d → HasSigned g x d
signs-on h g words v x d a composed k =
    let l = led half.Authed h g words a in
    let signs_now = signs_only_as half.Authed (record { standing = h; out = [] }) (record { standing = g; out = words }) a in
    let q : is_authed g.stage ≡ true = ready-signed g (signs_now.signs refl k.unsigned) in
    let rested = rested-course g (rests_there.signed g (l.3 ∙ k.side) q) in
    let b : Beside (record { events = []; standing = g }) x d = subst (λ y. Beside y x d) rested (beside-on h g words v x d l composed k) in
    let e = silent_feed d.socket true 0 false in
    let is : signs g e ≡ signs_at true g e = signs-where true g e q in
    record {
      hand = b.0.0 ∙ ap (λ (y : Feed). y.hand) is;
      got = b.0.1 ∙ ap (λ (y : Feed). y.got) is;
      rest = b.0.2 ∙ ap (λ (y : Feed). y.rest) is;
      texts = b.1 ∙ ap (λ (y : List ℕ). greets y []) (append-nil x.composed);
    }

-- a half that fails has failed in the replay
pub fails-there : (e : HalfFault) (h g : Standing) (words : List ℕ) (v x : FeedNow) (d : Feed) →
    Answers (half.Fault e) (record { standing = h; out = [] }) (record { standing = g; out = words }) → Shakes h v d → has_failed d.hand ≡ true
fails-there e h g words v x d a k =
    let l = led (half.Fault e) h g words a in
    let stage : is_faulty g.stage ≡ true = ap (λ (w : Writer). is_faulty w.standing.stage) a.ends.1 ∙ faulted-stage a.mid.stage e a.mid refl in
    let rested = rested-course g (faulty-rests g.stage g refl stage) in
    let there : (course_of h []).standing ≡ g = ap (λ (c : Course). c.standing) l.1 ∙ ap (λ (c : Course). c.standing) rested in
    let s = (course_of h []).standing in
    let failed : is_faulty s.stage ≡ true = ap (λ (y : Standing). is_faulty y.stage) there ∙ stage in
    let is : signs s (silent_feed d.socket true 0 false) ≡ signs_at false s (silent_feed d.socket true 0 false) = signs-where false s (silent_feed d.socket true 0 false) (faulty-unsigned s.stage failed) in
    ap has_failed (k.hand ∙ ap (λ (y : Feed). y.hand) is) ∙ same-faulty s.stage failed
  where
    faulted-stage : (stage : Stage) (e : HalfFault) (s : Standing) → stage ≡ s.stage → is_faulty (faulted_at stage e s).stage ≡ true
    faulted-stage (Faulty f) e s q = ap is_faulty (sym q)
    faulted-stage Opening e s q = refl
    faulted-stage Banner e s q = refl
    faulted-stage (Waits awaited) e s q = refl
    faulted-stage Authed e s q = refl
    faulted-stage Asked e s q = refl
    faulted-stage Ended e s q = refl

    faulty-rests : (stage : Stage) (s : Standing) → s.stage ≡ stage → is_faulty stage ≡ true → IsRested s
    faulty-rests (Faulty f) s e q = ended f s e
    faulty-rests Opening s e q = absurd (true≢false (sym q))
    faulty-rests Banner s e q = absurd (true≢false (sym q))
    faulty-rests (Waits awaited) s e q = absurd (true≢false (sym q))
    faulty-rests Authed s e q = absurd (true≢false (sym q))
    faulty-rests Asked s e q = absurd (true≢false (sym q))
    faulty-rests Ended s e q = absurd (true≢false (sym q))

    faulty-unsigned : (stage : Stage) → is_faulty stage ≡ true → is_authed stage ≡ false
    faulty-unsigned (Faulty f) q = refl
    faulty-unsigned Opening q = absurd (true≢false (sym q))
    faulty-unsigned Banner q = absurd (true≢false (sym q))
    faulty-unsigned (Waits awaited) q = absurd (true≢false (sym q))
    faulty-unsigned Authed q = absurd (true≢false (sym q))
    faulty-unsigned Asked q = absurd (true≢false (sym q))
    faulty-unsigned Ended q = absurd (true≢false (sym q))

    same-faulty : (stage : Stage) → is_faulty stage ≡ true → journal.is_faulty stage ≡ true
    same-faulty (Faulty f) q = refl
    same-faulty Opening q = absurd (true≢false (sym q))
    same-faulty Banner q = absurd (true≢false (sym q))
    same-faulty (Waits awaited) q = absurd (true≢false (sym q))
    same-faulty Authed q = absurd (true≢false (sym q))
    same-faulty Asked q = absurd (true≢false (sym q))
    same-faulty Ended q = absurd (true≢false (sym q))

-- ---- where it begins

pub begins-shaking : (h : Standing) (v : FeedNow) (d : Feed) (socket : SocketId) (last : ℕ) (owes : Bool) → h.side ≡ Opener → is_authed h.stage ≡ false →
    v.composed ≡ [] → v.writing ≡ Nothing → v.stamps ≡ [] → d ≡ goes_on (course_of h []) (silent_feed socket true last owes) →
    (d.socket ≡ socket) × (d.opened ≡ true) × Shakes h v d
begins-shaking h v d socket last owes side unsigned composed writing stamps is =
    let c = course_of h [] in
    let put : Feed = record (silent_feed socket true last owes) { texts = greets (text_of c.events) [] } in
    let new = signs c.standing put in
    let kept = signs-kept c.standing put in
    let alike = signs-alike c.standing put (silent_feed new.socket true 0 false) refl refl in
    let shakes : Shakes h v new = record {
      side = side;
      unsigned = unsigned;
      hand = alike.0;
      got = alike.1;
      rest = alike.2;
      texts = kept.0 ∙ ap (λ (l : List ℕ). greets (l ++ text_of c.events) []) (sym composed);
      taken = kept.1;
      answered = kept.2;
      writing = writing;
      stamps = stamps;
    } in
    (ap (λ (y : Feed). y.socket) is ∙ kept.3, ap (λ (y : Feed). y.opened) is ∙ kept.4, subst (Shakes h v) (sym is) shakes)
