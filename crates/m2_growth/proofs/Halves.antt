-- A half that reads what a side writes on a socket that it opened is asked under that side's address alone: its first ask is the
-- first frame behind the greeting, and later ones are taken under the address of the first.
use Rattle.std.proofs.Common.{◌≡◌, ℕ, ◌⊎◌, inl, inr, ◌==◌, List, [], ◌∷◌, ◌++◌, length, drop, map, Option, Some, None, Result, Ok, Err, refl, sym, ap, ◌∙◌, subst}
use Rattle.std.specs.List.{AllByRecursion}
use Rattle.std.proofs.lemmas.Grind.{flat_map-append}
use Rattle.m2_fabric.specs.m2_addr.declared.addr.Addr.{Addr}
use Rattle.m2_weave.specs.m2_control.declared.control.Control.{Control}
use Rattle.m2_weave.specs.m2_control.declared.control.Control.TheVariants as control
use Rattle.m2_dispatch.specs.m2_frame.Frame.{Parts, message_tag}
use Rattle.m2_dispatch.specs.m2_frame.Text as frame
use Rattle.m2_turn.specs.m2_handshake.declared.ask.Ask.{Ask}
use Rattle.m2_turn.specs.m2_handshake.declared.fault.HalfFault.{HalfFault}
use Rattle.m2_turn.specs.m2_handshake.declared.stage.HalfSide.{HalfSide}
use Rattle.m2_turn.specs.m2_handshake.declared.stage.HalfSide.TheVariants.{Acceptor}
use Rattle.m2_turn.specs.m2_handshake.declared.stage.Stage.{Stage}
use Rattle.m2_turn.specs.m2_handshake.declared.stage.Stage.TheVariants.{Opening, Banner, Waits, Authed, Asked, Ended, Faulty}
use Rattle.m2_turn.specs.m2_handshake.Asking.{after_reply}
use Rattle.m2_turn.specs.m2_handshake.Asks.{ask_in}
use Rattle.m2_turn.specs.m2_handshake.Course as course
use Rattle.m2_turn.specs.m2_handshake.Course.{course_move_at, course_move, signed_move, Event, silent, wrote, failed, replied, Step, rests, goes, step_by, step_of, answered, Goes, Runs, asks_in, replies_in, asks_of, replies_of, Exchange, Reaches}
use Rattle.m2_turn.specs.m2_handshake.Greeting.{greeting}
use Rattle.m2_turn.specs.m2_handshake.Laws.{GoesOnTo}
use Rattle.m2_turn.specs.m2_handshake.Moves.{Move, stays, quiet, writes, signs, asks, fails, take_frame, after_asking, read_held, refuse_held}
use Rattle.m2_turn.specs.m2_handshake.Standing.{Standing, fed, acceptor_at_start}
use Rattle.m2_turn.specs.m2_handshake.Texts.{IsReply}
use Rattle.m2_turn.proofs.m2_handshake.Course.{feeds, next, ways}
use Rattle.m2_turn.proofs.m2_handshake.Greeting.{at, signs_there}
use Rattle.m2_turn.proofs.m2_handshake.Reaching.{fed_twice}
use Rattle.m2_turn.specs.m2_handshake.declared.fault.HalfFault.TheVariants.{Unexpected}
use Rattle.m2_turn.specs.m2_handshake.Reading.{Found, begun, refused, framed, found_in}
use Rattle.m2_turn.proofs.m2_handshake.Leading.{either}
use Rattle.m2_turn.proofs.m2_handshake.Sizes.{as_sent, found_sent}
use Rattle.m2_weave.specs.m2_journal.OutFrames.{OutFrame}
use Rattle.m2_weave.specs.m2_journal.SideFacts.{SideFacts}
use Rattle.m2_bytes_fit.specs.m2_trail.Asks.{IsMain}
use Rattle.m2_bytes_fit.specs.Halves.{KeepsRanges}
use Rattle.m2_bytes_fit.specs.Texts.{texts_of}
use Rattle.m2_bytes_fit.proofs.Acceptors.{HasWelcomed, IsAsked, accepts, as_asked}
use Rattle.m2_bytes_fit.proofs.Lists.{not_nil}
use Rattle.m2_bytes_fit.proofs.Says.{part}
use Rattle.m2_bytes_fit.specs.m2_never_reset.Frames.{ask_of}
use Rattle.m2_growth.specs.AskLaws.{AskedBy}
use Rattle.m2_growth.proofs.Frames.{BeginsAs, IsMine, IsUnder, MayBegin, asks_under, begins_as}
use Rattle.m2_turn.proofs.m2_handshake.Idents.{same_means}
use Rattle.m2_fabric.proofs.m2_lemmas.Lists.{all_append, empty_front}

-- ---- where it stands

module _ (f : SideFacts) (w : OutFrame) (k : BeginsAs f w) (behind : List ℕ) where
  -- before its first ask: the first frame is in hand, or unread
  abbrev InHand : Option Parts → (rest : List ℕ) → Type 0
  InHand (Some p) rest = p ≡ part f w
  InHand None rest = rest ≡ frame.text_of (part f w) ++ behind

  abbrev Knows : Option Addr → Option Parts → (rest : List ℕ) → Type 0
  Knows None held rest = InHand held rest
  Knows (Some peer) held rest = peer ≡ f.mine

  abbrev IsAt : Stage → Option Addr → Option Parts → (rest : List ℕ) → Type 0
  IsAt Authed peer held rest = Knows peer held rest
  IsAt Asked peer held rest = peer ≡ Some f.mine
  IsAt Ended peer held rest = peer ≡ Some f.mine
  IsAt (Faulty x) peer held rest = Unit {0}
  IsAt _ peer held rest = ⊥

  record Stands (s : Standing) : Type 0 where
    side : s.side ≡ Acceptor
    place : IsAt s.stage s.peer s.held s.rest

  abbrev IsMineToo : Ask → Type 0
  IsMineToo a = IsMain a f.mine

  -- ---- a move

  abbrev MovesSo : Move → Type 0
  MovesSo stays = Unit {0}
  MovesSo (quiet b) = Stands b
  MovesSo (writes words b) = ⊥
  MovesSo (signs b) = ⊥
  MovesSo (asks a b) = IsMineToo a × Stands b
  MovesSo (fails x) = Unit {0}

  abbrev IsIn : Stage → Type 0
  IsIn Authed = Unit {0}
  IsIn Ended = Unit {0}
  IsIn _ = ⊥

  known_at : (stage : Stage) (peer : Option Addr) (held : Option Parts) (rest : List ℕ) → IsIn stage → peer ≡ Some f.mine → IsAt stage peer held rest
  known_at Authed peer held rest i e = subst (λ p. Knows p held rest) (sym e) refl
  known_at Ended peer held rest i e = e
  known_at Asked peer held rest i e = absurd i
  known_at Opening peer held rest i e = absurd i
  known_at Banner peer held rest i e = absurd i
  known_at (Waits a) peer held rest i e = absurd i
  known_at (Faulty x) peer held rest i e = absurd i

  takes_known : (s : Standing) (found : Found) → s.side ≡ Acceptor → IsIn s.stage → s.peer ≡ Some f.mine → MovesSo (take_frame s found)
  takes_known s begun side i e = tt
  takes_known s (refused x) side i e = tt
  takes_known s (framed p n) side i e = record { side = side; place = known_at s.stage s.peer (Some p) (drop n s.rest) i e }

  after_so : (s : Standing) (r : Result (Ask × Addr) HalfFault) → s.side ≡ Acceptor → IsUnder s.peer r → IsMine f.mine r → MovesSo (after_asking s r)
  after_so s (Ok x) side u m = (subst (IsMain x.0) m u.0, record { side = side; place = ap (λ (a : Addr). Some a) m })
  after_so s (Err x) side u m = tt

  mine_again : (r : Result (Ask × Addr) HalfFault) → IsUnder (Some f.mine) r → IsMine f.mine r
  mine_again (Ok x) u = sym (same_means f.mine x.1 u.1)
  mine_again (Err x) u = tt

  reads_so : (s : Standing) (peer : Option Addr) (held : Option Parts) → s.peer ≡ peer → s.held ≡ held → s.side ≡ Acceptor → s.stage ≡ Authed →
      Knows peer held s.rest → MovesSo (read_held s held)
  reads_so s None None e h side q i =
      let t = frame.text_of (part f w) in
      let front : found_in s.rest ≡ as_sent (part f w) (length t) = ap found_in i ∙ found_sent (part f w) behind k.writable.fits k.writable.bytes in
      subst (λ x. MovesSo (take_frame s x)) (sym front)
      (either (λ (x : Found). MovesSo (take_frame s x)) ((part f w).tag == message_tag) (refused (Unexpected message_tag)) (framed (part f w) (length t)) tt (record {
        side = side;
        place = subst (λ (z : Stage). IsAt z s.peer (Some (part f w)) (drop (length t) s.rest)) (sym q)
            (subst (λ p. Knows p (Some (part f w)) (drop (length t) s.rest)) (sym e) refl);
      }))
  reads_so s None (Some p) e h side q i =
      after_so s (ask_in s.peer p) side (asks_under s.peer p) (subst (λ a. IsMine f.mine (ask_in a p)) (sym e) (subst (λ x. IsMine f.mine (ask_in None x)) (sym i) k.mine))
  reads_so s (Some m) None e h side q i = takes_known s (found_in s.rest) side (subst IsIn (sym q) tt) (e ∙ ap (λ (a : Addr). Some a) i)
  reads_so s (Some m) (Some p) e h side q i =
      let known : s.peer ≡ Some f.mine = e ∙ ap (λ (a : Addr). Some a) i in
      after_so s (ask_in s.peer p) side (asks_under s.peer p) (mine_again (ask_in s.peer p) (subst (λ a. IsUnder a (ask_in s.peer p)) known (asks_under s.peer p)))

  refuses_so : (s : Standing) (held : Option Parts) → s.side ≡ Acceptor → s.stage ≡ Ended → s.peer ≡ Some f.mine → MovesSo (refuse_held s held)
  refuses_so s None side q e = takes_known s (found_in s.rest) side (subst IsIn (sym q) tt) e
  refuses_so s (Some p) side q e = tt

  moves_at : (stage : Stage) (s : Standing) → s.stage ≡ stage → s.side ≡ Acceptor → IsAt stage s.peer s.held s.rest → MovesSo (course_move_at stage s)
  moves_at Opening s q side i = absurd i
  moves_at Banner s q side i = absurd i
  moves_at (Waits a) s q side i = absurd i
  moves_at Authed s q side i = subst (λ (x : HalfSide). MovesSo (signed_move x (read_held s s.held))) (sym side) (reads_so s s.peer s.held refl refl side q i)
  moves_at Asked s q side i = tt
  moves_at Ended s q side i = subst (λ (x : HalfSide). MovesSo (signed_move x (refuse_held s s.held))) (sym side) (refuses_so s s.held side q i)
  moves_at (Faulty x) s q side i = tt

  -- ---- steps

  abbrev GoesSo : Step → Type 0
  GoesSo rests = Unit {0}
  GoesSo (goes e b) = AllByRecursion IsMineToo (asks_in e) × Stands b

  goes_so : (a : Standing) (m : Move) → a.side ≡ Acceptor → MovesSo m → GoesSo (step_by m a)
  goes_so a stays side h = tt
  goes_so a (quiet b) side h = (tt, h)
  goes_so a (writes words b) side h = absurd h
  goes_so a (signs b) side h = absurd h
  goes_so a (asks q b) side h = ((h.0, tt), h.1)
  goes_so a (fails x) side h = (tt, record { side = side; place = tt })

  own_so : (e : Event) (a b : Standing) → Stands a → step_of a ≡ goes e b → AllByRecursion IsMineToo (asks_in e) × Stands b
  own_so e a b i g = subst GoesSo g (goes_so a (course_move a) i.side (moves_at a.stage a refl i.side i.place))

  -- a reply
  replies_so : (c : Control) (peer : Option Addr) (held : Option Parts) (rest : List ℕ) → IsReply c → peer ≡ Some f.mine → IsAt (after_reply c) peer held rest
  replies_so (control.IdentMissingFeatures p) peer held rest i e = e
  replies_so (control.SessionReset p) peer held rest i e = known_at Authed peer held rest tt e
  replies_so (control.SessionRetry p) peer held rest i e = known_at Authed peer held rest tt e
  replies_so (control.SessionRetryGlobal p) peer held rest i e = known_at Authed peer held rest tt e
  replies_so (control.Wait p) peer held rest i e = e
  replies_so c peer held rest i e = elim i [ ]

  replied_so : (c : Control) (a b : Standing) → Stands a → (a.stage ≡ Asked) × IsReply c × (b ≡ answered c a) → Stands b
  replied_so c a b i g =
      let owed : a.peer ≡ Some f.mine = subst (λ (z : Stage). IsAt z a.peer a.held a.rest) g.0 i.place in
      let there : Stands (answered c a) = record { side = i.side; place = replies_so c a.peer a.held a.rest g.1 owed } in
      subst Stands (sym g.2) there

  step_so : (e : Event) (a b : Standing) → Stands a → Goes a e b → AllByRecursion IsMineToo (asks_in e) × Stands b
  step_so silent a b i g = own_so silent a b i g
  step_so (wrote words) a b i g = own_so (wrote words) a b i g
  step_so (course.asked q) a b i g = own_so (course.asked q) a b i g
  step_so (failed x) a b i g = own_so (failed x) a b i g
  step_so (replied c) a b i g = (tt, replied_so c a b i g)

  runs_so : (es : List Event) (a b : Standing) → Stands a → Runs es a b → AllByRecursion IsMineToo (asks_of es)
  runs_so [] a b i r = tt
  runs_so (e ∷ es) a b i (m, g, r) =
      let one = step_so e a m i g in
      all_append IsMineToo (asks_in e) (asks_of es) one.0 (runs_so es m b one.1 r)

-- ---- from the start

-- what was done until both sides have signed
record SignsFirst (own : ℕ) (seen : Addr) (bytes more : List ℕ) : Type 0 where
  events : List Event
  runs : Runs events (fed (acceptor_at_start own seen) bytes) (at own seen Authed None more)
  replies : replies_of events ≡ []
  asks : asks_of events ≡ []

signs_first : (f : SideFacts) → KeepsRanges f → (own : ℕ) (seen : Addr) (more : List ℕ) → SignsFirst own seen (greeting f.node.rules.auth f.node.entity f.peer more) more
signs_first f k own seen more =
    let there = signs_there f.node.rules.auth f.node.entity own f.peer seen more k.entity k.peer in
    let mid = there.0 in
    let r = there.1 in
    record {
      events = r.events ++ silent ∷ [];
      runs = next r.events silent (fed (acceptor_at_start own seen) (greeting f.node.rules.auth f.node.entity f.peer more)) mid (at own seen Authed None more) r.runs (ap (λ m. step_by m mid) there.2);
      replies = flat_map-append replies_in r.events (silent ∷ []) ∙ ap (λ l. l ++ []) r.replies;
      asks = flat_map-append asks_in r.events (silent ∷ []) ∙ ap (λ l. l ++ []) r.asks;
    }

asked_first : (f : SideFacts) → KeepsRanges f → (own : ℕ) (seen : Addr) (w : OutFrame) (ws : List OutFrame) (more : List ℕ) (x : Exchange) (s : Standing) → MayBegin w →
    x.bytes ++ more ≡ greeting f.node.rules.auth f.node.entity f.peer (texts_of f (w ∷ ws)) → Reaches (acceptor_at_start own seen) x s → AskedBy f.mine x
asked_first f k own seen w ws more x s may e r =
    by_way (ways first.events r.events start signed (fed s more) (replies_of r.events) first.runs all_runs (sym (ap (λ l. l ++ replies_of r.events) first.replies)))
  where
    all : List ℕ
    all = texts_of f (w ∷ ws)

    start : Standing
    start = fed (acceptor_at_start own seen) (greeting f.node.rules.auth f.node.entity f.peer all)

    signed : Standing
    signed = at own seen Authed None all

    first : SignsFirst own seen (greeting f.node.rules.auth f.node.entity f.peer all) all
    first = signs_first f k own seen all

    its : BeginsAs f w
    its = begins_as f k w may

    stands : Stands f w its (texts_of f ws) signed
    stands = record { side = refl; place = ap (λ l. l ++ texts_of f ws) its.text }

    all_runs : Runs r.events start (fed s more)
    all_runs =
        subst (λ (z : Standing). Runs r.events z (fed s more))
        (fed_twice (acceptor_at_start own seen) x.bytes more ∙ ap (fed (acceptor_at_start own seen)) e)
        (feeds r.events (fed (acceptor_at_start own seen) x.bytes) s more r.runs)

    by_way : GoesOnTo first.events signed r.events (fed s more) ⊎ GoesOnTo r.events (fed s more) first.events signed → AskedBy f.mine x
    by_way (inl (es, is_all, on)) =
        let asks_are : x.asks ≡ asks_of es = sym r.asks ∙ ap asks_of is_all ∙ flat_map-append asks_in first.events es ∙ ap (λ l. l ++ asks_of es) first.asks in
        subst (AllByRecursion (λ a. IsMain a f.mine)) (sym asks_are) (runs_so f w its (texts_of f ws) es signed (fed s more) stands on)
    by_way (inr (es, is_all, on)) =
        let none : x.asks ≡ [] = sym r.asks ∙ empty_front (asks_of r.events) (asks_of es) (sym (flat_map-append asks_in r.events es) ∙ ap asks_of (sym is_all) ∙ first.asks) in
        subst (AllByRecursion (λ a. IsMain a f.mine)) (sym none) tt

no_map : {X Y : Type 0} (g : X → Y) (xs : List X) → map g xs ≡ [] → xs ≡ []
no_map g [] e = refl
no_map g (x ∷ xs) e = not_nil e

asked_nothing : (f : SideFacts) → KeepsRanges f → (own : ℕ) (seen : Addr) (more : List ℕ) (x : Exchange) (s : Standing) →
    x.bytes ++ more ≡ greeting f.node.rules.auth f.node.entity f.peer [] → Reaches (acceptor_at_start own seen) x s → AskedBy f.mine x
asked_nothing f k own seen more x s e r = by (accepts f own seen [] x.bytes more x s k.entity k.peer tt e r refl)
  where
    by : HasWelcomed own seen x ⊎ IsAsked f own seen [] more x s → AskedBy f.mine x
    by (inl h) = subst (AllByRecursion (λ a. IsMain a f.mine)) (sym h.asks) tt
    by (inr h) =
        let none : x.asks ≡ [] = no_map as_asked x.asks (h.asks ∙ ap (map ask_of) (empty_front h.used h.left (sym h.all))) in
        subst (AllByRecursion (λ a. IsMain a f.mine)) (sym none) tt

-- the first of them asks, or is one that no entry names
abbrev pub BeginSo : List OutFrame → Type 0
BeginSo [] = Unit {0}
BeginSo (w ∷ ws) = MayBegin w

pub asked_by : (f : SideFacts) → KeepsRanges f → (own : ℕ) (seen : Addr) (ws : List OutFrame) (more : List ℕ) (x : Exchange) (s : Standing) → BeginSo ws →
    x.bytes ++ more ≡ greeting f.node.rules.auth f.node.entity f.peer (texts_of f ws) → Reaches (acceptor_at_start own seen) x s → AskedBy f.mine x
asked_by f k own seen [] more x s b e r = asked_nothing f k own seen more x s e r
asked_by f k own seen (w ∷ ws) more x s b e r = asked_first f k own seen w ws more x s b e r
