-- Bytes are put: they are lawful, and the feed stands where the replay does.
use Rattle.std.proofs.Common.{◌≡◌, ◌≢◌, ℕ, zero, suc, ◌+◌, ◌-◌, ◌≤◌, ◌<◌, ◌==◌, Bool, true, false, cond, not, List, [], ◌∷◌, ◌++◌, length, take, drop, map, Option, Some, None, refl, sym, ap, ◌∙◌, subst, arith, append_assoc, append-nil, length-drop}
use Rattle.std.specs.Prelude.{◌&&◌, if◌then◌else◌, nat_lt, slice_get}
use Rattle.std.specs.List.{AllByRecursion, range_with_len, prefix_len}
use Rattle.std.specs.Option.{option_to_list}
use Rattle.std.proofs.lemmas.Bool.{true≢false}
use Rattle.std.proofs.lemmas.List.{length-append, drop-drop}
use Rattle.m2_control.specs.declared.keepalive.Keepalive.{Keepalive}
use Rattle.m2_frame.specs.Reading.{Item}
use Rattle.m2_fabric.specs.declared.socket.SocketId.{SocketId}
use Rattle.m2_journal.specs.Feeds.{greets, is_passed, begun, narrowed, finished, texts_at, unnamed, acknowledgements, keepalive_answers, next_place, next_stamp, stamps_in, first_owed}
use Rattle.m2_journal.specs.OutFrames as out
use Rattle.m2_journal.specs.OutFrames.{OutFrame, acknowledgement, keepalive_answer, greeting, is_unnamed, acknowledges, keepalives_answered}
use Rattle.m2_journal.specs.Said.{said}
use Rattle.m2_journal.specs.SideFacts.{SideFacts}
use Rattle.m2_journal.specs.State.{PartText, Feed, State}
use Rattle.m2_journal.specs.Steps.{puts, puts_on, puts_whole, sends, with_feed}
use Rattle.m2_session.specs.declared.session.Phase.TheVariants.{Ready}
use Rattle.m2_session.specs.declared.session.Session.{Session}
use Rattle.m2_session.specs.Phases as phase
use Rattle.m2_feed.specs.declared.writing.Writing.{Writing}
use Rattle.m2_feed.specs.declared.writing.Writing.TheVariants.{Nothing, Named, Acknowledgement, KeepaliveAnswer}
use Rattle.m2_feed.specs.Calls as calls
use Rattle.m2_feed.specs.Calls.{is_empty, writing_left, stamps_left}
use Rattle.m2_feed.specs.FeedNow.{FeedNow}
use Rattle.m2_feed.specs.Stands.{Frames, GoesOnWith, WritesAcknowledgement, WritesAs, WritesKeepaliveAnswer, HasText, IsOfKind, IsAcknowledgement, IsKeepaliveAnswer, is_ready, passes_over}
use Rattle.m2_feed.proofs.Framing.{all-map, drop-all, stamps-append, ready-passes}
use Rattle.m2_feed.proofs.Putting.{suc_isnt_zero, Narrows, narrowed-there, has-some, whole-put, part-put, range-has, no-answers, no-acks, acks-narrow, answer-narrows, narrows, narrowed-append}

-- ---- another state in which the same is passed over

passes-same : (s t : State) → t.session ≡ s.session → t.last ≡ s.last → (y : Item) → passes_over s y ≡ true → passes_over t y ≡ true
passes-same s t e l y h =
    ap (λ (x : Session). phase.is x.phase Ready && is_passed t.last (said y)) e ∙ ap (λ (n : ℕ). is_ready s && is_passed n (said y)) l ∙ h

rebuilt : (f : SideFacts) (s t : State) (v x : FeedNow) (d e : Feed) (rest : List ℕ) (granted : Bool) → (k : Frames f s v d rest granted) →
    t.session ≡ s.session → t.last ≡ s.last → e.hand ≡ d.hand → e.got ≡ d.got → e.rest ≡ d.rest → e.taken ≡ d.taken →
    e.answered ≤ length (stamps_in (k.before ++ k.passed)) → x.stamps ≡ drop e.answered (stamps_in (k.before ++ k.passed)) →
    WritesAs x.writing f t x e → Frames f t x e rest granted
rebuilt f s t v x d e rest granted k session last hand got unread taken answered stamps writes = record {
  hand = hand ∙ k.hand;
  before = k.before;
  passed = k.passed;
  left = k.left;
  got = got ∙ k.got;
  taken = taken ∙ k.taken;
  splits = k.splits ∙ ap (λ (l : List ℕ). record { items = k.left; rest = l }) (sym unread);
  passes = all-map (λ y. passes_over s y ≡ true) (λ y. passes_over t y ≡ true) (passes-same s t session last) k.passed k.passes;
  ungranted = λ q. k.ungranted (ap (λ (y : Session). phase.is y.phase Ready) (sym session) ∙ q);
  answered = answered;
  stamps = stamps;
  writes = writes;
}

-- ---- the state after

pub record PutsFrames (f : SideFacts) (s : State) (bytes : List ℕ) (pays : Bool) (x : FeedNow) (d : Feed) (rest : List ℕ) (granted : Bool) : Type 0 where
  pub text : nat_lt 0 (length (narrowed bytes (texts_at f s d))) ≡ true
  pub feed : Feed
  pub fed : (puts f bytes d s).feed ≡ Some feed
  pub socket : feed.socket ≡ d.socket
  pub opened : feed.opened ≡ d.opened
  pub owes : (puts f bytes d s).owes ≡ (s.owes && not pays)
  pub frames : Frames f (puts f bytes d s) x feed rest granted

-- the feed after a text was wholly put
abbrev pub feed-whole : PartText → Feed → State → Feed
feed-whole t d s = record d { texts = []; floor = s.last; owed = s.owes && not (acknowledges t.frame); answered = d.answered + keepalives_answered t.frame }

pub record Late (t : PartText) (d : Feed) (s : State) : Type 0 where
  pub feed : (puts_whole t d s).feed ≡ Some (feed-whole t d s)
  pub owes : (puts_whole t d s).owes ≡ (s.owes && not (acknowledges t.frame))
  pub session : (puts_whole t d s).session ≡ s.session
  pub last : (puts_whole t d s).last ≡ s.last

pub late : (t : PartText) (d : Feed) (s : State) → Late t d s
late t d s =
    let mid : State = record s { feed = Some (feed-whole t d s); owes = s.owes && not (acknowledges t.frame) } in
    record {
      feed = feed_at (is_unnamed t.frame) mid;
      owes = owes_at (is_unnamed t.frame) mid;
      session = session_at (is_unnamed t.frame) mid;
      last = last_at (is_unnamed t.frame) mid;
    }
  where
    feed_at : (b : Bool) (m : State) → (if b then sends d.socket (t.frame ∷ []) m else m).feed ≡ m.feed
    feed_at true m = refl
    feed_at false m = refl

    owes_at : (b : Bool) (m : State) → (if b then sends d.socket (t.frame ∷ []) m else m).owes ≡ m.owes
    owes_at true m = refl
    owes_at false m = refl

    session_at : (b : Bool) (m : State) → (if b then sends d.socket (t.frame ∷ []) m else m).session ≡ m.session
    session_at true m = refl
    session_at false m = refl

    last_at : (b : Bool) (m : State) → (if b then sends d.socket (t.frame ∷ []) m else m).last ≡ m.last
    last_at true m = refl
    last_at false m = refl

-- a text is wholly put
wholly : (f : SideFacts) (s : State) (kind : OutFrame → Type 0) (w : OutFrame) (bytes : List ℕ) (pays : Bool) (count : ℕ) (v x : FeedNow) (d : Feed) (rest : List ℕ) (granted : Bool) →
    (k : Frames f s v d rest granted) → Narrows kind w [] (narrowed bytes (texts_at f s d)) →
    ((o : OutFrame) → kind o → (acknowledges o ≡ pays) × (keepalives_answered o ≡ count)) →
    d.answered + count ≤ length (stamps_in (k.before ++ k.passed)) → x.stamps ≡ drop (d.answered + count) (stamps_in (k.before ++ k.passed)) →
    x.composed ≡ [] → x.writing ≡ Nothing → PutsFrames f s bytes pays x d rest granted
wholly f s kind w bytes pays count v x d rest granted k n kinds within stamps composed writing =
    let ts = narrowed bytes (texts_at f s d) in
    let put = whole-put kind w ts d s n in
    let t = put.0 in
    let of_kind = kinds t.frame put.1 in
    let l = late t d s in
    let e = feed-whole t d s in
    let count_is : e.answered ≡ d.answered + count = ap (λ (m : ℕ). d.answered + m) of_kind.1 in
    let frames : Frames f (puts_whole t d s) x e rest granted =
    rebuilt f s (puts_whole t d s) v x d e rest granted k l.session l.last refl refl refl refl (omega (arith, within, count_is))
    (stamps ∙ ap (λ (m : ℕ). drop m (stamps_in (k.before ++ k.passed))) (sym count_is))
    (subst (λ (y : Writing). WritesAs y f (puts_whole t d s) x e) (sym writing) (composed, refl)) in
    record {
      text = has-some (record { frame = w; left = [] }) ts n.one;
      feed = e;
      fed = ap (λ (y : State). y.feed) put.2 ∙ l.feed;
      socket = refl;
      opened = refl;
      owes = ap (λ (y : State). y.owes) put.2 ∙ l.owes ∙ ap (λ (b : Bool). s.owes && not b) of_kind.0;
      frames = subst (λ (y : State). Frames f y x e rest granted) (sym put.2) frames;
    }

pub and_true : (b : Bool) → b ≡ (b && true)
and_true true = refl
and_true false = refl

-- some of a text is put
partly : (f : SideFacts) (s : State) (kind : OutFrame → Type 0) (w : OutFrame) (bytes : List ℕ) (b : ℕ) (bs : List ℕ) (v x : FeedNow) (d : Feed) (rest : List ℕ) (granted : Bool) →
    Frames f s v d rest granted → Narrows kind w (b ∷ bs) (narrowed bytes (texts_at f s d)) → x.stamps ≡ v.stamps →
    WritesAs x.writing f (with_feed (record d { texts = narrowed bytes (texts_at f s d) }) s) x (record d { texts = narrowed bytes (texts_at f s d) }) →
    PutsFrames f s bytes false x d rest granted
partly f s kind w bytes b bs v x d rest granted k n stamps writes =
    let ts = narrowed bytes (texts_at f s d) in
    let put : puts f bytes d s ≡ with_feed (record d { texts = ts }) s = part-put kind b bs ts d s n.all in
    let e : Feed = record d { texts = ts } in
    let t = with_feed e s in
    record {
      text = has-some (record { frame = w; left = b ∷ bs }) ts n.one;
      feed = e;
      fed = ap (λ (y : State). y.feed) put;
      socket = refl;
      opened = refl;
      owes = ap (λ (y : State). y.owes) put ∙ and_true s.owes;
      frames = subst (λ (y : State). Frames f y x e rest granted) (sym put)
          (rebuilt f s t v x d e rest granted k refl refl refl refl refl refl k.answered (stamps ∙ k.stamps) writes);
    }

-- ---- which texts may be put

pub texts-begun : (f : SideFacts) (s : State) (d : Feed) (t : PartText) → HasText t d.texts → texts_at f s d ≡ d.texts
texts-begun f s d t h = ap (λ (ts : List PartText). if length ts == 0 then unnamed f s d else ts) h.2 ∙ some h.0 ∙ sym h.2
  where
    some : (xs : List PartText) → (if length (xs ++ t ∷ h.1) == 0 then unnamed f s d else (xs ++ t ∷ h.1)) ≡ xs ++ t ∷ h.1
    some [] = ap (λ (b : Bool). if b then unnamed f s d else (t ∷ h.1)) (suc_isnt_zero (length h.1))
    some (x ∷ xs) = ap (λ (b : Bool). if b then unnamed f s d else (x ∷ (xs ++ t ∷ h.1))) (suc_isnt_zero (length (xs ++ t ∷ h.1)))

texts-unnamed : (f : SideFacts) (s : State) (d : Feed) → d.texts ≡ [] → is_ready s ≡ true → texts_at f s d ≡ acknowledgements f s d ++ keepalive_answers f s d
texts-unnamed f s d e q =
    ap (λ (ts : List PartText). if length ts == 0 then unnamed f s d else ts) e
    ∙ ap (λ (b : Bool). if b then (acknowledgements f s d ++ keepalive_answers f s d) else []) q

-- a text that is begun goes on
pub begun-narrows : (f : SideFacts) (s : State) (kind : OutFrame → Type 0) (w : OutFrame) (bytes left composed : List ℕ) (d : Feed) → composed ≡ bytes ++ left →
    HasText (record { frame = w; left = composed }) d.texts → AllByRecursion (IsOfKind kind (length composed)) d.texts →
    Narrows kind w left (narrowed bytes (texts_at f s d))
begun-narrows f s kind w bytes left composed d is one all =
    subst (λ ts. Narrows kind w left (narrowed bytes ts)) (sym (texts-begun f s d (record { frame = w; left = composed }) one))
    (narrows kind w bytes left d.texts
    (subst (λ (l : List ℕ). HasText (record { frame = w; left = l }) d.texts) is one)
    (subst (λ (l : List ℕ). AllByRecursion (IsOfKind kind (length l)) d.texts) is all))

-- ---- the next keepalive that may be answered

get-drop : (n : ℕ) (xs : List Keepalive) (k : Keepalive) (later more : List Keepalive) → drop n xs ≡ k ∷ later → slice_get (xs ++ more) n ≡ Some k
get-drop zero xs k later more e = ap (λ (l : List Keepalive). slice_get (l ++ more) 0) e
get-drop (suc n) [] k later more e = absurd cc
get-drop (suc n) (x ∷ xs) k later more e = get-drop n xs k later more e

prefix-passed : (p : Item → Bool) (xs ys : List Item) → AllByRecursion (λ x. p x ≡ true) xs → prefix_len p (xs ++ ys) ≡ length xs + prefix_len p ys
prefix-passed p [] ys h = omega arith
prefix-passed p (x ∷ xs) ys h =
    ap (λ (b : Bool). cond b (1 + prefix_len p (xs ++ ys)) 0) h.0 ∙ ap (λ (n : ℕ). 1 + n) (prefix-passed p xs ys h.1) ∙ omega arith

take-on : (xs ys : List Item) (n : ℕ) → take (length xs + n) (xs ++ ys) ≡ xs ++ take n ys
take-on [] ys n = let e : 0 + n ≡ n = omega arith in ap (λ (m : ℕ). take m ys) e
take-on (x ∷ xs) ys n =
    let e : suc (length xs) + n ≡ suc (length xs + n) = omega arith in
    ap (λ (m : ℕ). take m (x ∷ (xs ++ ys))) e ∙ ap (λ (l : List Item). x ∷ l) (take-on xs ys n)

next-answered : (f : SideFacts) (s : State) (v : FeedNow) (d : Feed) (rest : List ℕ) (granted : Bool) (k : Keepalive) (later : List Keepalive) → is_ready s ≡ true →
    v.stamps ≡ k ∷ later → Frames f s v d rest granted → next_stamp s.last d ≡ Some k
next-answered f s v d rest granted k later q stamps h =
    let p : Item → Bool = λ x. is_passed s.last (said x) in
    let front : List Item = h.before ++ h.passed in
    let j : ℕ = prefix_len p h.left in
    let got : d.got ≡ h.before ++ (h.passed ++ h.left) = h.got ∙ append_assoc h.before h.passed h.left in
    let from : drop d.taken d.got ≡ h.passed ++ h.left = ap (λ (n : ℕ). drop n d.got) h.taken ∙ ap (drop (length h.before)) got ∙ drop-all h.before (h.passed ++ h.left) in
    let place : next_place s.last d ≡ length front + j =
    ap (λ (n : ℕ). n + prefix_len p (drop d.taken d.got)) h.taken ∙ ap (λ (y : List Item). length h.before + prefix_len p y) from
    ∙ ap (λ (n : ℕ). length h.before + n) (prefix-passed p h.passed h.left (ready-passes s h.passed q h.passes))
    ∙ (let n = length-append h.before h.passed in omega (arith, n)) in
    let taken : take (next_place s.last d) d.got ≡ front ++ take j h.left =
    ap (λ (n : ℕ). take n d.got) place ∙ ap (take (length front + j)) h.got ∙ take-on front h.left j in
    let all : stamps_in (take (next_place s.last d) d.got) ≡ stamps_in front ++ stamps_in (take j h.left) =
    ap stamps_in taken ∙ stamps-append front (take j h.left) in
    ap (λ (l : List Keepalive). slice_get l d.answered) all
    ∙ get-drop d.answered (stamps_in front) k later (stamps_in (take j h.left)) (sym h.stamps ∙ stamps)

-- ---- acknowledgements and answers that are put first

acks-are : (f : SideFacts) (s : State) (d : Feed) → s.owes ≡ true → f.policy.lossy ≡ false →
    acknowledgements f s d ≡ map (λ n. begun f (acknowledgement n)) (range_with_len (first_owed d) (s.last + 1 - first_owed d))
acks-are f s d o l =
    let all : List PartText = map (λ n. begun f (acknowledgement n)) (range_with_len (first_owed d) (s.last + 1 - first_owed d)) in
    ap (λ (b : Bool). if b && not f.policy.lossy then all else []) o ∙ ap (λ (b : Bool). if not b then all else []) l

acks-first : (f : SideFacts) (s : State) (v : FeedNow) (d : Feed) (rest : List ℕ) (granted : Bool) (n : ℕ) (bytes left : List ℕ) →
    WritesAcknowledgement f s v d n → 0 < length bytes → v.composed ≡ bytes ++ left → Narrows IsAcknowledgement (acknowledgement n) left (narrowed bytes (texts_at f s d))
acks-first f s v d rest granted n bytes left w some is =
    let text : out.text_of f (acknowledgement n) ≡ bytes ++ left = sym w.composed ∙ is in
    let ns : List ℕ = range_with_len (first_owed d) (s.last + 1 - first_owed d) in
    let from = w.may.from in
    let to = w.may.to in
    let there = range-has (first_owed d) (s.last + 1 - first_owed d) n from (omega (arith, from, to)) in
    let gone : narrowed bytes (keepalive_answers f s d) ≡ [] = no-answers f n bytes left (option_to_list (next_stamp s.last d)) some text in
    let acks : List PartText = map (λ n. begun f (acknowledgement n)) ns in
    let all : narrowed bytes (texts_at f s d) ≡ narrowed bytes acks =
    ap (narrowed bytes) (texts-unnamed f s d w.texts w.ready) ∙ narrowed-append bytes (acknowledgements f s d) (keepalive_answers f s d)
    ∙ ap (λ (l : List PartText). narrowed bytes (acknowledgements f s d) ++ l) gone ∙ append-nil (narrowed bytes (acknowledgements f s d))
    ∙ ap (narrowed bytes) (acks-are f s d w.may.owes w.may.kept) in
    subst (Narrows IsAcknowledgement (acknowledgement n) left) (sym all) (acks-narrow f n ns bytes left there text)

answers-first : (f : SideFacts) (s : State) (v : FeedNow) (d : Feed) (rest : List ℕ) (granted : Bool) (bytes left : List ℕ) →
    (w : WritesKeepaliveAnswer f s v d) → Frames f s v d rest granted → 0 < length bytes → v.composed ≡ bytes ++ left →
    Narrows IsKeepaliveAnswer (keepalive_answer w.stamp) left (narrowed bytes (texts_at f s d))
answers-first f s v d rest granted bytes left w k some is =
    let text : out.text_of f (keepalive_answer w.stamp) ≡ bytes ++ left = sym w.composed ∙ is in
    let next = next-answered f s v d rest granted w.stamp w.next.0 w.ready w.next.1 k in
    let one : keepalive_answers f s d ≡ begun f (keepalive_answer w.stamp) ∷ [] = ap (λ o. map (λ k. begun f (keepalive_answer k)) (option_to_list o)) next in
    let all : narrowed bytes (texts_at f s d) ≡ narrowed bytes (begun f (keepalive_answer w.stamp) ∷ []) =
    ap (narrowed bytes) (texts-unnamed f s d w.texts w.ready) ∙ narrowed-append bytes (acknowledgements f s d) (keepalive_answers f s d)
    ∙ ap (λ (l : List PartText). l ++ narrowed bytes (keepalive_answers f s d)) (none (s.owes && not f.policy.lossy))
    ∙ ap (narrowed bytes) one in
    subst (Narrows IsKeepaliveAnswer (keepalive_answer w.stamp) left) (sym all) (answer-narrows f w.stamp bytes left text)
  where
    none : (b : Bool) → narrowed bytes (if b then map (λ n. begun f (acknowledgement n)) (range_with_len (first_owed d) (s.last + 1 - first_owed d)) else []) ≡ []
    none true = no-acks f w.stamp bytes left (range_with_len (first_owed d) (s.last + 1 - first_owed d)) some (sym w.composed ∙ is)
    none false = refl

-- ---- what the code has left

some-left : (b : ℕ) (bs : List ℕ) → b ∷ bs ≢ []
some-left b bs e = cc

no-keepalive : (w : OutFrame) → is_unnamed w ≡ false → keepalives_answered w ≡ 0
no-keepalive (keepalive_answer k) h = absurd (true≢false h)
no-keepalive w h = refl

of-ack : (o : OutFrame) → IsAcknowledgement o → (acknowledges o ≡ true) × (keepalives_answered o ≡ 0)
of-ack (acknowledgement n) h = (refl, refl)
of-ack w h = elim h [ ]

of-answer : (o : OutFrame) → IsKeepaliveAnswer o → (acknowledges o ≡ false) × (keepalives_answered o ≡ 1)
of-answer (keepalive_answer k) h = (refl, refl)
of-answer w h = elim h [ ]

module _ (f : SideFacts) (s : State) (v x : FeedNow) (d : Feed) (rest : List ℕ) (granted : Bool) (bytes : List ℕ) (k : Frames f s v d rest granted) (some : 0 < length bytes) where
  -- no stamp is answered
  same-stamps : (x.stamps ≡ v.stamps) → (d.answered + 0 ≤ length (stamps_in (k.before ++ k.passed))) × (x.stamps ≡ drop (d.answered + 0) (stamps_in (k.before ++ k.passed)))
  same-stamps e = (let n = k.answered in omega (arith, n), e ∙ k.stamps ∙ ap (λ (m : ℕ). drop m (stamps_in (k.before ++ k.passed))) (omega arith))

  -- the first one is
  first-answered : (stamp : Keepalive) (later : List Keepalive) → v.stamps ≡ stamp ∷ later → x.stamps ≡ drop 1 v.stamps →
      (d.answered + 1 ≤ length (stamps_in (k.before ++ k.passed))) × (x.stamps ≡ drop (d.answered + 1) (stamps_in (k.before ++ k.passed)))
  first-answered stamp later e q =
      let all : List Keepalive = stamps_in (k.before ++ k.passed) in
      let n = length-drop d.answered all in
      let some : length (drop d.answered all) ≡ suc (length later) = ap length (sym k.stamps ∙ e) in
      (omega (arith, n, some), q ∙ ap (drop 1) k.stamps ∙ drop-drop 1 d.answered all)

  named-put : (acks : Bool) (left : List ℕ) → WritesAs (Named acks) f s v d → v.composed ≡ bytes ++ left → x.composed ≡ left →
      x.writing ≡ writing_left (is_empty left) (Named acks) → x.stamps ≡ v.stamps → PutsFrames f s bytes (is_empty left && acks) x d rest granted
  named-put acks left w is composed writing stamps = at left is composed writing
    where
      of-named : (o : OutFrame) → o ≡ w.frame → (acknowledges o ≡ acks) × (keepalives_answered o ≡ 0)
      of-named o e = (ap acknowledges e ∙ w.pays, ap keepalives_answered e ∙ no-keepalive w.frame w.named)

      one : HasText (record { frame = w.frame; left = v.composed }) d.texts
      one = ([], [], w.texts)

      all : AllByRecursion (IsOfKind (λ o. o ≡ w.frame) (length v.composed)) d.texts
      all = subst (AllByRecursion (IsOfKind (λ o. o ≡ w.frame) (length v.composed))) (sym w.texts) ((refl, refl), tt)

      at : (left : List ℕ) → v.composed ≡ bytes ++ left → x.composed ≡ left → x.writing ≡ writing_left (is_empty left) (Named acks) → PutsFrames f s bytes (is_empty left && acks) x d rest granted
      at [] is composed writing =
          let same = same-stamps stamps in
          wholly f s (λ o. o ≡ w.frame) w.frame bytes acks 0 v x d rest granted k (begun-narrows f s (λ o. o ≡ w.frame) w.frame bytes [] v.composed d is one all) of-named same.0 same.1 composed writing
      at (b ∷ bs) is composed writing =
          let n = begun-narrows f s (λ o. o ≡ w.frame) w.frame bytes (b ∷ bs) v.composed d is one all in
          let ts = narrowed bytes (texts_at f s d) in
          let single : ts ≡ record { frame = w.frame; left = x.composed } ∷ [] =
          ap (narrowed bytes) (texts-begun f s d (record { frame = w.frame; left = v.composed }) one ∙ w.texts)
          ∙ ap (λ (l : List ℕ). narrowed bytes (record { frame = w.frame; left = l } ∷ [])) is
          ∙ narrowed-there bytes (b ∷ bs) w.frame [] ∙ ap (λ (l : List ℕ). record { frame = w.frame; left = l } ∷ []) (sym composed) in
          let t = with_feed (record d { texts = ts }) s in
          partly f s (λ o. o ≡ w.frame) w.frame bytes b bs v x d rest granted k n stamps
          (subst (λ (y : Writing). WritesAs y f t x (record d { texts = ts })) (sym writing)
          (record { frame = w.frame; named = w.named; pays = w.pays; some = λ e. some-left b bs (sym composed ∙ e); texts = single }))

  ack-put : (number : ℕ) (left : List ℕ) → Narrows IsAcknowledgement (acknowledgement number) left (narrowed bytes (texts_at f s d)) → is_ready s ≡ true → x.composed ≡ left →
      x.writing ≡ writing_left (is_empty left) (Acknowledgement number true) → x.stamps ≡ v.stamps → PutsFrames f s bytes (is_empty left && true) x d rest granted
  ack-put number [] n q composed writing stamps =
      let same = same-stamps stamps in
      wholly f s IsAcknowledgement (acknowledgement number) bytes true 0 v x d rest granted k n of-ack same.0 same.1 composed writing
  ack-put number (b ∷ bs) n q composed writing stamps =
      let ts = narrowed bytes (texts_at f s d) in
      let t = with_feed (record d { texts = ts }) s in
      partly f s IsAcknowledgement (acknowledgement number) bytes b bs v x d rest granted k n stamps
      (subst (λ (y : Writing). WritesAs y f t x (record d { texts = ts })) (sym writing)
      (record {
        ready = q;
        goes_on = subst (λ (l : List ℕ). GoesOnWith IsAcknowledgement (acknowledgement number) l ts) (sym composed) (record { some = some-left b bs; one = n.one; all = n.all });
      }))

  answer-put : (stamp : Keepalive) (later : List Keepalive) (left : List ℕ) → Narrows IsKeepaliveAnswer (keepalive_answer stamp) left (narrowed bytes (texts_at f s d)) → is_ready s ≡ true →
      v.stamps ≡ stamp ∷ later → x.composed ≡ left → x.writing ≡ writing_left (is_empty left) (KeepaliveAnswer true) →
      x.stamps ≡ stamps_left (is_empty left) (KeepaliveAnswer true) v.stamps → PutsFrames f s bytes (is_empty left && false) x d rest granted
  answer-put stamp later [] n q next composed writing stamps =
      let first = first-answered stamp later next stamps in
      wholly f s IsKeepaliveAnswer (keepalive_answer stamp) bytes false 1 v x d rest granted k n of-answer first.0 first.1 composed writing
  answer-put stamp later (b ∷ bs) n q next composed writing stamps =
      let ts = narrowed bytes (texts_at f s d) in
      let t = with_feed (record d { texts = ts }) s in
      partly f s IsKeepaliveAnswer (keepalive_answer stamp) bytes b bs v x d rest granted k n stamps
      (subst (λ (y : Writing). WritesAs y f t x (record d { texts = ts })) (sym writing)
      (record {
        ready = q;
        stamp = stamp;
        next = (later, stamps ∙ next);
        goes_on = subst (λ (l : List ℕ). GoesOnWith IsKeepaliveAnswer (keepalive_answer stamp) l ts) (sym composed) (record { some = some-left b bs; one = n.one; all = n.all });
      }))

  -- once both sides have signed
  pub frames-put : (w : Writing) (left : List ℕ) → WritesAs w f s v d → v.composed ≡ bytes ++ left → x.composed ≡ left →
      x.writing ≡ writing_left (is_empty left) w → x.stamps ≡ stamps_left (is_empty left) w v.stamps →
      PutsFrames f s bytes (is_empty left && calls.acknowledges w) x d rest granted
  frames-put Nothing left w is composed writing stamps = absurd (empty bytes some (sym is ∙ w.0))
    where
      empty : (xs : List ℕ) → 0 < length xs → xs ++ left ≡ [] → ⊥
      empty [] h e = omega (arith, h)
      empty (y ∷ ys) h e = cc
  frames-put (Named acks) left w is composed writing stamps = named-put acks left w is composed writing (stamps ∙ kept (is_empty left))
    where
      kept : (b : Bool) → stamps_left b (Named acks) v.stamps ≡ v.stamps
      kept true = refl
      kept false = refl
  frames-put (Acknowledgement number false) left w is composed writing stamps =
      ack-put number left (acks-first f s v d rest granted number bytes left w some is) w.ready composed (writing ∙ same (is_empty left)) (stamps ∙ kept (is_empty left))
    where
      kept : (b : Bool) → stamps_left b (Acknowledgement number false) v.stamps ≡ v.stamps
      kept true = refl
      kept false = refl

      same : (b : Bool) → writing_left b (Acknowledgement number false) ≡ writing_left b (Acknowledgement number true)
      same true = refl
      same false = refl
  frames-put (Acknowledgement number true) left w is composed writing stamps =
      ack-put number left (begun-narrows f s IsAcknowledgement (acknowledgement number) bytes left v.composed d is w.goes_on.one w.goes_on.all) w.ready composed writing (stamps ∙ kept (is_empty left))
    where
      kept : (b : Bool) → stamps_left b (Acknowledgement number true) v.stamps ≡ v.stamps
      kept true = refl
      kept false = refl
  frames-put (KeepaliveAnswer false) left w is composed writing stamps =
      answer-put w.stamp w.next.0 left (answers-first f s v d rest granted bytes left w k some is) w.ready w.next.1 composed (writing ∙ same (is_empty left)) (stamps ∙ kept (is_empty left))
    where
      kept : (b : Bool) → stamps_left b (KeepaliveAnswer false) v.stamps ≡ stamps_left b (KeepaliveAnswer true) v.stamps
      kept true = refl
      kept false = refl

      same : (b : Bool) → writing_left b (KeepaliveAnswer false) ≡ writing_left b (KeepaliveAnswer true)
      same true = refl
      same false = refl
  frames-put (KeepaliveAnswer true) left w is composed writing stamps =
      answer-put w.stamp w.next.0 left (begun-narrows f s IsKeepaliveAnswer (keepalive_answer w.stamp) bytes left v.composed d is w.goes_on.one w.goes_on.all) w.ready w.next.1 composed writing stamps
