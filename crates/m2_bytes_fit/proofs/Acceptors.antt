-- An acceptor that is fed the front of what an opener writes is asked just the asks among its frames, in order, and writes its
-- welcome and its replies.
use Rattle.std.proofs.Common.{◌≡◌, ℕ, ◌<◌, ◌^◌, ◌==◌, ◌⊎◌, inl, inr, List, [], ◌∷◌, ◌++◌, length, drop, map, Option, Some, None, Result, Ok, Err, refl, sym, ap, ◌∙◌, subst, append_assoc, append-nil}
use Rattle.std.specs.List.{AllByRecursion, flat_map}
use Rattle.std.proofs.lemmas.List.{map-append}
use Rattle.std.proofs.lemmas.Grind.{flat_map-append}
use Rattle.std.proofs.Math.Seq.{drop-append_seam}
use Rattle.m2_feed.specs.m2_addr.declared.addr.Addr.{Addr}
use Rattle.m2_feed.specs.m2_control.declared.control.Control.{Control}
use Rattle.m2_feed.specs.m2_control.declared.control.Control.TheVariants as control
use Rattle.m2_feed.specs.m2_control.Laws.{HasAddrRanges}
use Rattle.m2_feed.specs.m2_frame.Frame.{Parts, message_tag}
use Rattle.m2_feed.specs.m2_frame.Text as frame
use Rattle.m2_feed.specs.m2_handshake.declared.ask.Ask.{Ask}
use Rattle.m2_feed.specs.m2_handshake.declared.fault.HalfFault.{HalfFault}
use Rattle.m2_feed.specs.m2_handshake.declared.fault.HalfFault.TheVariants.{Unexpected}
use Rattle.m2_feed.specs.m2_handshake.declared.stage.HalfSide.{HalfSide}
use Rattle.m2_feed.specs.m2_handshake.declared.stage.HalfSide.TheVariants.{Acceptor}
use Rattle.m2_feed.specs.m2_handshake.declared.stage.Stage.{Stage}
use Rattle.m2_feed.specs.m2_handshake.declared.stage.Stage.TheVariants.{Opening, Banner, Waits, Authed, Asked, Ended, Faulty}
use Rattle.m2_feed.specs.m2_handshake.Asking.{after_reply}
use Rattle.m2_feed.specs.m2_handshake.Asks.{asked_of, under, ask_in}
use Rattle.m2_feed.specs.m2_handshake.Course as course
use Rattle.m2_feed.specs.m2_handshake.Course.{course_move_at, course_move, signed_move, Event, silent, wrote, failed, replied, Step, rests, goes, step_by, step_of, answered, Goes, Runs, text_in, asks_in, replies_in, text_of, asks_of, replies_of, Exchange, Reaches, Signs}
use Rattle.m2_feed.specs.m2_handshake.Greeting.{greeting, welcome}
use Rattle.m2_feed.specs.m2_handshake.Laws.{IsPrefix, GoesOnTo}
use Rattle.m2_feed.specs.m2_handshake.Moves.{Move, stays, quiet, writes, signs, asks, fails, take_frame, after_asking, read_held, refuse_held}
use Rattle.m2_feed.specs.m2_handshake.Reading.{Found, refused, framed, found_in}
use Rattle.m2_feed.specs.m2_handshake.Standing.{Standing, fed, fed_at, acceptor_at_start}
use Rattle.m2_feed.specs.m2_handshake.Texts.{frame_text, IsReply}
use Rattle.m2_feed.proofs.m2_handshake.Course.{feeds, next, ways}
use Rattle.m2_feed.proofs.m2_handshake.Greeting.{at, payload_read, signs_there}
use Rattle.m2_feed.proofs.m2_handshake.Leading.{either}
use Rattle.m2_feed.proofs.m2_handshake.Reaching.{fed_twice}
use Rattle.m2_feed.proofs.m2_handshake.Sizes.{as_sent, found_nothing, found_sent}
use Rattle.m2_feed.specs.m2_journal.OutFrames as out
use Rattle.m2_feed.specs.m2_journal.OutFrames.{OutFrame, client_ident_of}
use Rattle.m2_feed.specs.m2_journal.SideFacts.{SideFacts}
use Rattle.m2_never_reset.specs.Asks as crossing
use Rattle.m2_feed.specs.FeedLaws.{reconnect_of}
use Rattle.m2_never_reset.specs.Fits.{ask_by}
use Rattle.m2_never_reset.specs.Frames.{ask_of}
use Rattle.m2_trail.specs.Asks.{facts_of_ask}
use Rattle.m2_bytes_fit.specs.Texts.{texts_of}
use Rattle.m2_bytes_fit.proofs.Says.{CanBeWritten, part, text_made, writable}
use Rattle.m2_feed.proofs.m2_lemmas.Lists.{all_back, empty_front}

-- an ask, as the frame that asks it
abbrev pub as_asked : Ask → Option crossing.Ask
as_asked a = Some (ask_by (facts_of_ask a))

-- ---- where it stands before these frames

-- a frame in hand is the first of them
abbrev InHand : SideFacts → Option Parts → (rest : List ℕ) → List OutFrame → Type 0
InHand f None rest ws = rest ≡ texts_of f ws
InHand f (Some p) rest [] = ⊥
InHand f (Some p) rest (w ∷ ws) = (p ≡ part f w) × (rest ≡ texts_of f ws)

abbrev IsBefore : SideFacts → Stage → Option Parts → (rest : List ℕ) → List OutFrame → Type 0
IsBefore f Authed held rest ws = InHand f held rest ws
IsBefore f Asked held rest ws = (held ≡ None) × (rest ≡ texts_of f ws)
IsBefore f Ended held rest ws = InHand f held rest ws
IsBefore f (Faulty x) held rest ws = Unit {0}
IsBefore f _ held rest ws = ⊥

record StandsBefore (f : SideFacts) (s : Standing) (ws : List OutFrame) : Type 0 where
  side : s.side ≡ Acceptor
  before : IsBefore f s.stage s.held s.rest ws

-- ---- an ask in hand

abbrev AsksAs : OutFrame → Result (Ask × Addr) HalfFault → Type 0
AsksAs w (Ok x) = ask_of w ≡ as_asked x.0
AsksAs w (Err e) = Unit {0}

under_as : (w : OutFrame) (a : Ask) (main : Result Addr HalfFault) → ask_of w ≡ as_asked a → AsksAs w (under a main)
under_as w a (Ok main) e = e
under_as w a (Err x) e = tt

asks_as : (f : SideFacts) (peer : Option Addr) (w : OutFrame) → CanBeWritten f w → AsksAs w (ask_in peer (part f w))
asks_as f peer out.greeting k = absurd k
asks_as f peer (out.ident cookie global) k =
    let c = client_ident_of f cookie global in
    subst (λ r. AsksAs (out.ident cookie global) (asked_of peer r)) (sym (payload_read c k.ranges k.bounds))
    (under_as (out.ident cookie global) _ _ refl)
asks_as f peer (out.reconnect client server global connect seen) k =
    let c = reconnect_of f client server global connect seen in
    subst (λ r. AsksAs (out.reconnect client server global connect seen) (asked_of peer r)) (sym (payload_read c k.ranges k.bounds))
    (under_as (out.reconnect client server global connect seen) _ _ refl)
asks_as f peer (out.server_ident cookie global) k = tt
asks_as f peer (out.reconnect_ok seen) k = tt
asks_as f peer (out.reset full) k = tt
asks_as f peer (out.retry connect) k = tt
asks_as f peer (out.retry_global global) k = tt
asks_as f peer out.wait k = tt
asks_as f peer (out.message number acked m) k = tt
asks_as f peer (out.acknowledgement number) k = tt
asks_as f peer (out.keepalive_answer s) k = tt

-- ---- a move

record AsksFirst (f : SideFacts) (ws : List OutFrame) (a : Ask) (b : Standing) : Type 0 where
  frame : OutFrame
  left : List OutFrame
  all : ws ≡ frame ∷ left
  is : ask_of frame ≡ as_asked a
  stands : StandsBefore f b left

abbrev MovesSo : SideFacts → List OutFrame → Move → Type 0
MovesSo f ws stays = Unit {0}
MovesSo f ws (quiet b) = StandsBefore f b ws
MovesSo f ws (writes words b) = ⊥
MovesSo f ws (signs b) = ⊥
MovesSo f ws (asks a b) = AsksFirst f ws a b
MovesSo f ws (fails x) = Unit {0}

abbrev IsIn : Stage → Type 0
IsIn Authed = Unit {0}
IsIn Ended = Unit {0}
IsIn _ = ⊥

hand_in : (f : SideFacts) (stage : Stage) (held : Option Parts) (rest : List ℕ) (ws : List OutFrame) → IsIn stage → InHand f held rest ws → IsBefore f stage held rest ws
hand_in f Authed held rest ws i h = h
hand_in f Ended held rest ws i h = h
hand_in f Opening held rest ws i h = absurd i
hand_in f Banner held rest ws i h = absurd i
hand_in f (Waits a) held rest ws i h = absurd i
hand_in f Asked held rest ws i h = absurd i
hand_in f (Faulty x) held rest ws i h = absurd i

takes_so : (f : SideFacts) (ws : List OutFrame) (s : Standing) → AllByRecursion (CanBeWritten f) ws → s.side ≡ Acceptor → IsIn s.stage →
    s.rest ≡ texts_of f ws → MovesSo f ws (take_frame s (found_in s.rest))
takes_so f [] s k side i e = subst (λ r. MovesSo f [] (take_frame s (found_in r))) (sym e) (subst (λ x. MovesSo f [] (take_frame s x)) (sym found_nothing) tt)
takes_so f (w ∷ ws) s k side i e =
    let t = frame.text_of (part f w) in
    let is : s.rest ≡ t ++ texts_of f ws = e ∙ ap (λ l. l ++ texts_of f ws) (text_made f w k.0) in
    let sent = writable f w k.0 in
    let front : found_in s.rest ≡ as_sent (part f w) (length t) = ap found_in is ∙ found_sent (part f w) (texts_of f ws) sent.fits sent.bytes in
    let left : drop (length t) s.rest ≡ texts_of f ws = ap (drop (length t)) is ∙ drop-append_seam t (texts_of f ws) in
    subst (λ x. MovesSo f (w ∷ ws) (take_frame s x)) (sym front)
    (either (λ (x : Found). MovesSo f (w ∷ ws) (take_frame s x)) ((part f w).tag == message_tag) (refused (Unexpected message_tag)) (framed (part f w) (length t)) tt
    (record { side = side; before = hand_in f s.stage (Some (part f w)) (drop (length t) s.rest) (w ∷ ws) i (refl, left) }))

after_so : (f : SideFacts) (w : OutFrame) (ws : List OutFrame) (s : Standing) (r : Result (Ask × Addr) HalfFault) → s.side ≡ Acceptor →
    s.rest ≡ texts_of f ws → AsksAs w r → MovesSo f (w ∷ ws) (after_asking s r)
after_so f w ws s (Ok x) side e a = record { frame = w; left = ws; all = refl; is = a; stands = record { side = side; before = (refl, e) } }
after_so f w ws s (Err x) side e a = tt

reads_so : (f : SideFacts) (ws : List OutFrame) (s : Standing) (held : Option Parts) → s.held ≡ held → AllByRecursion (CanBeWritten f) ws → s.side ≡ Acceptor →
    s.stage ≡ Authed → InHand f held s.rest ws → MovesSo f ws (read_held s held)
reads_so f ws s None h k side q i = takes_so f ws s k side (subst IsIn (sym q) tt) i
reads_so f [] s (Some p) h k side q i = absurd i
reads_so f (w ∷ ws) s (Some p) h k side q i =
    after_so f w ws s (ask_in s.peer p) side i.1 (subst (λ x. AsksAs w (ask_in s.peer x)) (sym i.0) (asks_as f s.peer w k.0))

refuses_so : (f : SideFacts) (ws : List OutFrame) (s : Standing) (held : Option Parts) → s.held ≡ held → AllByRecursion (CanBeWritten f) ws → s.side ≡ Acceptor →
    s.stage ≡ Ended → InHand f held s.rest ws → MovesSo f ws (refuse_held s held)
refuses_so f ws s None h k side q i = takes_so f ws s k side (subst IsIn (sym q) tt) i
refuses_so f ws s (Some p) h k side q i = tt

moves_at : (f : SideFacts) (ws : List OutFrame) (stage : Stage) (s : Standing) → s.stage ≡ stage → AllByRecursion (CanBeWritten f) ws → s.side ≡ Acceptor →
    IsBefore f stage s.held s.rest ws → MovesSo f ws (course_move_at stage s)
moves_at f ws Opening s q k side i = absurd i
moves_at f ws Banner s q k side i = absurd i
moves_at f ws (Waits a) s q k side i = absurd i
moves_at f ws Authed s q k side i = subst (λ (x : HalfSide). MovesSo f ws (signed_move x (read_held s s.held))) (sym side) (reads_so f ws s s.held refl k side q i)
moves_at f ws Asked s q k side i = tt
moves_at f ws Ended s q k side i = subst (λ (x : HalfSide). MovesSo f ws (signed_move x (refuse_held s s.held))) (sym side) (refuses_so f ws s s.held refl k side q i)
moves_at f ws (Faulty x) s q k side i = tt

moves_so : (f : SideFacts) (ws : List OutFrame) (s : Standing) → AllByRecursion (CanBeWritten f) ws → StandsBefore f s ws → MovesSo f ws (course_move s)
moves_so f ws s k i = moves_at f ws s.stage s refl k i.side i.before

-- ---- a step

-- what was done used up these frames, each of them an ask
record Went (f : SideFacts) (ws : List OutFrame) (done : List Event) (b : Standing) : Type 0 where
  used : List OutFrame
  left : List OutFrame
  all : ws ≡ used ++ left
  asks : map as_asked (asks_of done) ≡ map ask_of used
  text : text_of done ≡ flat_map frame_text (replies_of done)
  stands : StandsBefore f b left

abbrev GoesSo : SideFacts → List OutFrame → Step → Type 0
GoesSo f ws rests = Unit {0}
GoesSo f ws (goes e b) = Went f ws (e ∷ []) b

goes_so : (f : SideFacts) (ws : List OutFrame) (a : Standing) (m : Move) → a.side ≡ Acceptor → MovesSo f ws m → GoesSo f ws (step_by m a)
goes_so f ws a stays side k = tt
goes_so f ws a (quiet b) side k = record { used = []; left = ws; all = refl; asks = refl; text = refl; stands = k }
goes_so f ws a (writes words b) side k = absurd k
goes_so f ws a (signs b) side k = absurd k
goes_so f ws a (asks q b) side k =
    record { used = k.frame ∷ []; left = k.left; all = k.all; asks = ap (λ x. x ∷ []) (sym k.is); text = refl; stands = k.stands }
goes_so f ws a (fails x) side k = record { used = []; left = ws; all = refl; asks = refl; text = refl; stands = record { side = side; before = tt } }

own_so : (f : SideFacts) (ws : List OutFrame) (e : Event) (a b : Standing) → AllByRecursion (CanBeWritten f) ws → StandsBefore f a ws → step_of a ≡ goes e b → Went f ws (e ∷ []) b
own_so f ws e a b k i g = subst (GoesSo f ws) g (goes_so f ws a (course_move a) i.side (moves_so f ws a k i))

-- a reply
reply_so : (f : SideFacts) (c : Control) (held : Option Parts) (rest : List ℕ) (ws : List OutFrame) → IsReply c → held ≡ None → rest ≡ texts_of f ws →
    IsBefore f (after_reply c) held rest ws
reply_so f (control.IdentMissingFeatures p) held rest ws i h e = subst (λ x. InHand f x rest ws) (sym h) e
reply_so f (control.SessionReset p) held rest ws i h e = subst (λ x. InHand f x rest ws) (sym h) e
reply_so f (control.SessionRetry p) held rest ws i h e = subst (λ x. InHand f x rest ws) (sym h) e
reply_so f (control.SessionRetryGlobal p) held rest ws i h e = subst (λ x. InHand f x rest ws) (sym h) e
reply_so f (control.Wait p) held rest ws i h e = subst (λ x. InHand f x rest ws) (sym h) e
reply_so f c held rest ws i h e = elim i [ ]

replied_so : (f : SideFacts) (ws : List OutFrame) (c : Control) (a b : Standing) → StandsBefore f a ws → (a.stage ≡ Asked) × IsReply c × (b ≡ answered c a) →
    Went f ws (replied c ∷ []) b
replied_so f ws c a b i g =
    let owed : IsBefore f Asked a.held a.rest ws = subst (λ (x : Stage). IsBefore f x a.held a.rest ws) g.0 i.before in
    let there : StandsBefore f (answered c a) ws = record { side = i.side; before = reply_so f c a.held a.rest ws g.1 owed.0 owed.1 } in
    record { used = []; left = ws; all = refl; asks = refl; text = refl; stands = subst (λ (s : Standing). StandsBefore f s ws) (sym g.2) there }

step_so : (f : SideFacts) (ws : List OutFrame) (e : Event) (a b : Standing) → AllByRecursion (CanBeWritten f) ws → StandsBefore f a ws → Goes a e b → Went f ws (e ∷ []) b
step_so f ws silent a b k i g = own_so f ws silent a b k i g
step_so f ws (wrote words) a b k i g = own_so f ws (wrote words) a b k i g
step_so f ws (course.asked q) a b k i g = own_so f ws (course.asked q) a b k i g
step_so f ws (failed x) a b k i g = own_so f ws (failed x) a b k i g
step_so f ws (replied c) a b k i g = replied_so f ws c a b i g

alone : {X : Type 0} (xs : List X) → xs ++ [] ≡ xs
alone xs = append-nil xs

runs_so : (f : SideFacts) (ws : List OutFrame) (es : List Event) (a b : Standing) → AllByRecursion (CanBeWritten f) ws → StandsBefore f a ws → Runs es a b → Went f ws es b
runs_so f ws [] a b k i r = record { used = []; left = ws; all = refl; asks = refl; text = refl; stands = subst (λ (s : Standing). StandsBefore f s ws) r i }
runs_so f ws (e ∷ es) a b k i (m, g, r) =
    let one = step_so f ws e a m k i g in
    let more = runs_so f one.left es m b (all_back (CanBeWritten f) one.used one.left (subst (AllByRecursion (CanBeWritten f)) one.all k)) one.stands r in
    let first_asks : asks_of (e ∷ []) ≡ asks_in e = alone (asks_in e) in
    let first_text : text_of (e ∷ []) ≡ text_in e = alone (text_in e) in
    let first_replies : replies_of (e ∷ []) ≡ replies_in e = alone (replies_in e) in
    record {
      used = one.used ++ more.used;
      left = more.left;
      all = one.all ∙ ap (λ l. one.used ++ l) more.all ∙ sym (append_assoc one.used more.used more.left);
      asks =
          map-append as_asked (asks_in e) (asks_of es)
          ∙ ap (λ l. l ++ map as_asked (asks_of es)) (ap (map as_asked) (sym first_asks) ∙ one.asks)
          ∙ ap (λ l. map ask_of one.used ++ l) more.asks
          ∙ sym (map-append ask_of one.used more.used);
      text =
          ap (λ l. l ++ text_of es) (sym first_text ∙ one.text ∙ ap (flat_map frame_text) first_replies)
          ∙ ap (λ l. flat_map frame_text (replies_in e) ++ l) more.text
          ∙ sym (flat_map-append frame_text (replies_in e) (replies_of es));
      stands = more.stands;
    }

-- ---- from the start

-- before both sides have signed it is asked nothing
pub record HasWelcomed (own : ℕ) (seen : Addr) (x : Exchange) : Type 0 where
  pub text : IsPrefix x.text (welcome own seen)
  pub asks : x.asks ≡ []
  pub replies : x.replies ≡ []

-- and then it is asked the first of the frames
pub record IsAsked (f : SideFacts) (own : ℕ) (seen : Addr) (ws : List OutFrame) (more : List ℕ) (x : Exchange) (s : Standing) : Type 0 where
  pub text : x.text ≡ welcome own seen ++ flat_map frame_text x.replies
  pub used : List OutFrame
  pub left : List OutFrame
  pub all : ws ≡ used ++ left
  pub asks : map as_asked x.asks ≡ map ask_of used
  pub rest : s.stage ≡ Asked → s.rest ++ more ≡ texts_of f left

fed_stage : (s : Standing) (more : List ℕ) → s.stage ≡ Asked → ((fed s more).stage ≡ Asked) × ((fed s more).rest ≡ s.rest ++ more)
fed_stage s more q =
    (subst (λ (x : Stage). (fed_at x s more).stage ≡ Asked) (sym q) q, subst (λ (x : Stage). (fed_at x s more).rest ≡ s.rest ++ more) (sym q) refl)

pub accepts : (f : SideFacts) (own : ℕ) (seen : Addr) (ws : List OutFrame) (bytes more : List ℕ) (x : Exchange) (s : Standing) →
    f.node.entity < 2 ^ 8 → HasAddrRanges f.peer → AllByRecursion (CanBeWritten f) ws →
    bytes ++ more ≡ greeting f.node.rules.auth f.node.entity f.peer (texts_of f ws) → Reaches (acceptor_at_start own seen) x s → x.bytes ≡ bytes →
    HasWelcomed own seen x ⊎ IsAsked f own seen ws more x s
accepts f own seen ws bytes more x s small ranges k e r given =
    by_way (ways first r.events start signed (fed s more) (replies_of r.events) first_runs all_runs (sym (ap (λ l. l ++ replies_of r.events) first_replies)))
  where
    start : Standing
    start = fed (acceptor_at_start own seen) (greeting f.node.rules.auth f.node.entity f.peer (texts_of f ws))

    signed : Standing
    signed = at own seen Authed None (texts_of f ws)

    signing_there : Signs (acceptor_at_start own seen) (record { bytes = greeting f.node.rules.auth f.node.entity f.peer (texts_of f ws); replies = []; text = welcome own seen; asks = [] }) signed
    signing_there = signs_there f.node.rules.auth f.node.entity own f.peer seen (texts_of f ws) small ranges

    mid : Standing
    mid = signing_there.0

    greets : Reaches (acceptor_at_start own seen) (record { bytes = greeting f.node.rules.auth f.node.entity f.peer (texts_of f ws); replies = []; text = welcome own seen; asks = [] }) mid
    greets = signing_there.1

    first : List Event
    first = greets.events ++ silent ∷ []

    signing : Goes mid silent signed
    signing = ap (λ m. step_by m mid) signing_there.2

    first_runs : Runs first start signed
    first_runs = next greets.events silent start mid signed greets.runs signing

    first_replies : replies_of first ≡ []
    first_replies = flat_map-append replies_in greets.events (silent ∷ []) ∙ ap (λ l. l ++ []) greets.replies

    first_asks : asks_of first ≡ []
    first_asks = flat_map-append asks_in greets.events (silent ∷ []) ∙ ap (λ l. l ++ []) greets.asks

    first_text : text_of first ≡ welcome own seen
    first_text = flat_map-append text_in greets.events (silent ∷ []) ∙ append-nil (text_of greets.events) ∙ greets.text

    all_runs : Runs r.events start (fed s more)
    all_runs =
        subst (λ (z : Standing). Runs r.events z (fed s more))
        (fed_twice (acceptor_at_start own seen) x.bytes more ∙ ap (λ l. fed (acceptor_at_start own seen) (l ++ more)) given ∙ ap (fed (acceptor_at_start own seen)) e)
        (feeds r.events (fed (acceptor_at_start own seen) x.bytes) s more r.runs)

    by_way : GoesOnTo first signed r.events (fed s more) ⊎ GoesOnTo r.events (fed s more) first signed →
        HasWelcomed own seen x ⊎ IsAsked f own seen ws more x s
    by_way (inl (es, is_all, on)) =
        let before : StandsBefore f signed ws = record { side = refl; before = refl } in
        let went = runs_so f ws es signed (fed s more) k before on in
        inr (record {
          text =
              sym r.text ∙ ap text_of is_all ∙ flat_map-append text_in first es ∙ ap (λ l. l ++ text_of es) first_text
              ∙ ap (λ l. welcome own seen ++ l) (went.text ∙ ap (flat_map frame_text) (sym (sym r.replies ∙ ap replies_of is_all ∙ flat_map-append replies_in first es ∙ ap (λ l. l ++ replies_of es) first_replies)));
          used = went.used;
          left = went.left;
          all = went.all;
          asks =
              ap (map as_asked) (sym r.asks ∙ ap asks_of is_all ∙ flat_map-append asks_in first es ∙ ap (λ l. l ++ asks_of es) first_asks)
              ∙ went.asks;
          rest = λ q.
              let there = fed_stage s more q in
              sym there.1 ∙ (subst (λ (z : Stage). IsBefore f z (fed s more).held (fed s more).rest went.left) there.0 went.stands.before).1;
        })
    by_way (inr (es, is_all, on)) =
        inl (record {
          text = (text_of es, sym first_text ∙ ap text_of is_all ∙ flat_map-append text_in r.events es ∙ ap (λ l. l ++ text_of es) r.text);
          asks = sym r.asks ∙ empty_front (asks_of r.events) (asks_of es) (sym (flat_map-append asks_in r.events es) ∙ ap asks_of (sym is_all) ∙ first_asks);
          replies = sym r.replies ∙ empty_front (replies_of r.events) (replies_of es) (sym (flat_map-append replies_in r.events es) ∙ ap replies_of (sym is_all) ∙ first_replies);
        })
