-- One record of a holding does something, and all else there stays.
use Rattle.std.proofs.Common.{◌≡◌, true, List, [], ◌∷◌, ◌++◌, map, refl, sym, ap, subst, ◌∙◌, append_assoc}
use Rattle.std.specs.List.{AllByRecursion, IsDistinct}
use Rattle.m2_fabric.specs.m2_addr.declared.addr.Addr.{Addr}
use Rattle.m2_fabric.specs.declared.socket.SocketId.{SocketId}
use Rattle.m2_fabric.specs.End.{SeenEnd}
use Rattle.m2_fabric.specs.Port.{SeenPort}
use Rattle.m2_fabric.specs.Sockets.{goes_to, is_among}
use Rattle.m2_turn.specs.m2_handshake.Asks.{same_addr}
use Rattle.m2_weave.specs.m2_journal.State.{Judgement}
use Rattle.m2_turn.specs.m2_record.Calls.{IsSameButRoom}
use Rattle.m2_turn.specs.m2_record.RecordNow.{RecordNow, ends_of}
use Rattle.m2_turn.specs.m2_record.TakenTrails.{judgements_in}
use Rattle.m2_turn.specs.Beside.{MadeOn}
use Rattle.m2_turn.specs.Halves.{AllHalves}
use Rattle.m2_turn.specs.Hearing.{ends_in}
use Rattle.m2_turn.specs.Sessions.{PendingNow, is_asker, peer_of}
use Rattle.m2_bytes_fit.specs.m2_trail.Arrivals.{LooseNow}
use Rattle.m2_bytes_fit.specs.m2_trail.Trails.{TrailNow}
use Rattle.m2_weave.specs.Later.{GoesOn}
use Rattle.m2_growth.specs.Ends.{AreOfTheirOwn, EndsGrow}
use Rattle.m2_growth.specs.Halves.{AskedOnMade, AskedTowards, HasItsHalves, IsHeardBy, all_left, asked_on, sockets_left}
use Rattle.m2_growth.specs.Holding.{AreOwn, Grows, Holding, IsToCome, LeadsElsewhere, all_ends, ends_held, waiting_at}
use Rattle.m2_growth.specs.Records.{IsFed, RecordGrows, RecordsGrow, ends_of_all}
use Rattle.m2_growth.proofs.Asked.{asked_but_one, none_since}
use Rattle.m2_growth.proofs.Ends.{AreLater, AreMade, AreStill, later_between, made_later, on_by}
use Rattle.m2_growth.proofs.Going.{halves_same, record_chain, record_same, records_same}
use Rattle.m2_growth.proofs.OneJudge.{one_same}
use Rattle.m2_growth.proofs.Owned.{own_all}
use Rattle.m2_fabric.proofs.Sockets.{among_front}
use Rattle.m2_fabric.proofs.m2_lemmas.Lists.{all_so_of}

-- ---- lists with one item changed

pub all_but_one : {X : Type 0} (P Q : X → Type 0) (x y : X) (xs ys : List X) → ((z : X) → P z → Q z) → (P x → Q y) → AllByRecursion P (xs ++ x ∷ ys) → AllByRecursion Q (xs ++ y ∷ ys)
all_but_one P Q x y [] ys so one all = (one all.0, all_so_of P Q ys so all.1)
all_but_one P Q x y (z ∷ xs) ys so one all = (so z all.0, all_but_one P Q x y xs ys so one all.1)

map_but_one : {X Y : Type 0} (f : X → Y) (x y : X) (xs ys : List X) → f y ≡ f x → map f (xs ++ y ∷ ys) ≡ map f (xs ++ x ∷ ys)
map_but_one f x y [] ys e = ap (λ z. z ∷ map f ys) e
map_but_one f x y (z ∷ xs) ys e = ap (λ l. f z ∷ l) (map_but_one f x y xs ys e)

records_but_one : (r s : RecordNow) (before rest : List RecordNow) → RecordGrows r s → RecordsGrow (before ++ r ∷ rest) (before ++ s ∷ rest)
records_but_one r s [] rest g = (g, records_same rest)
records_but_one r s (x ∷ xs) rest g = (record_same x, records_but_one r s xs rest g)

-- ---- its ends amid the others

pub ends_joined : (rs ss : List RecordNow) → ends_of_all (rs ++ ss) ≡ ends_of_all rs ++ ends_of_all ss
ends_joined [] ss = refl
ends_joined (r ∷ rs) ss = ap (λ l. ends_of r ++ l) (ends_joined rs ss) ∙ sym (append_assoc (ends_of r) (ends_of_all rs) (ends_of_all ss))

abbrev pub holding : SeenPort → List RecordNow → AllHalves → Holding
holding port records halves = record { port = port; records = records; halves = halves }

-- the ends behind its own, of those that are held
abbrev pub ends_behind : List RecordNow → AllHalves → List SeenEnd
ends_behind rest halves = ends_of_all rest ++ ends_in halves

pub held_around : (before rest : List RecordNow) (r : RecordNow) (halves : AllHalves) →
    ends_of_all (before ++ r ∷ rest) ++ ends_in halves ≡ ends_of_all before ++ (ends_of r ++ ends_behind rest halves)
held_around before rest r halves =
    ap (λ l. l ++ ends_in halves) (ends_joined before (r ∷ rest)) ∙ append_assoc (ends_of_all before) (ends_of r ++ ends_of_all rest) (ends_in halves)
    ∙ ap (λ l. ends_of_all before ++ l) (append_assoc (ends_of r) (ends_of_all rest) (ends_in halves))

pub all_around : (p : SeenPort) (before rest : List RecordNow) (r : RecordNow) (halves : AllHalves) →
    all_ends (holding p (before ++ r ∷ rest) halves) ≡ ends_of_all before ++ (ends_of r ++ (ends_behind rest halves ++ waiting_at p))
all_around p before rest r halves =
    ap (λ l. l ++ waiting_at p) (held_around before rest r halves) ∙ append_assoc (ends_of_all before) (ends_of r ++ ends_behind rest halves) (waiting_at p)
    ∙ ap (λ l. ends_of_all before ++ l) (append_assoc (ends_of r) (ends_behind rest halves) (waiting_at p))

-- ---- what it does

-- The record grows, and has judged no more and taken no more.
pub record Advances (old new : RecordNow) : Type 0 where
  pub grows : RecordGrows old new
  pub judged : judgements_in new.journal ≡ judgements_in old.journal
  pub trails : new.trails ≡ old.trails
  pub fed : IsFed old → IsFed new

-- what is seen of it is the same, but that its plan may go on
pub advances_alike : (r s : RecordNow) → s.place ≡ r.place → s.core.facts ≡ r.core.facts → GoesOn r.plan s.plan → s.journal ≡ r.journal → s.trails ≡ r.trails → (IsFed r → IsFed s) → Advances r s
advances_alike r s place facts plan journal trails fed = record {
  grows = record { place = place; facts = facts; plan = plan; journal = on_by r.journal s.journal journal; trails = on_by r.trails s.trails trails };
  judged = ap judgements_in journal;
  trails = trails;
  fed = fed;
}

pub advances_room : (r s : RecordNow) → IsSameButRoom r s → Advances r s
advances_room r s e =
    advances_alike r s (ap (λ x. x.place) e) (ap (λ x. x.core.facts) e) (on_by r.plan s.plan (ap (λ x. x.plan) e)) (ap (λ x. x.journal) e) (ap (λ x. x.trails) e) (λ h. subst IsFed (sym e) h)

pub advances_chain : (r s t : RecordNow) → Advances r s → Advances s t → Advances r t
advances_chain r s t a b = record {
  grows = record_chain r s t a.grows b.grows;
  judged = b.judged ∙ a.judged;
  trails = b.trails ∙ a.trails;
  fed = λ h. b.fed (a.fed h);
}

-- the port has made more sockets, or none
pub record PortGoes (p q : SeenPort) : Type 0 where
  pub at : q.at ≡ p.at
  pub made : MadeOn p.made q.made
  pub waiting : q.waiting ≡ p.waiting

-- what is to be known of the ends
pub record EndsGo (old new : Holding) : Type 0 where
  pub held : AreOfTheirOwn (ends_held new)
  pub grow : EndsGrow (all_ends old) (all_ends new)
  pub made : AreMade new.port.made (ends_held new)
  pub to_come : AllByRecursion (IsToCome new.port) (waiting_at new.port)

made_still : (p q : SeenPort) → PortGoes p q → (k : SocketId) → is_among k p.made ≡ true → is_among k q.made ≡ true
made_still p q g k h = subst (λ l. is_among k l ≡ true) (sym g.made.1) (among_front k p.made g.made.0 h)

still_asked : (r s : RecordNow) → Advances r s → asked_on s ≡ asked_on r
still_asked r s a = ap (map (λ (j : Judgement). j.socket)) a.judged

pub one_goes : (p q : SeenPort) (before rest : List RecordNow) (r s : RecordNow) (halves : AllHalves) → PortGoes p q → Advances r s →
    EndsGo (holding p (before ++ r ∷ rest) halves) (holding q (before ++ s ∷ rest) halves) →
    AreOwn (holding p (before ++ r ∷ rest) halves) → Grows (holding p (before ++ r ∷ rest) halves) (holding q (before ++ s ∷ rest) halves)
one_goes p q before rest r s halves port a ends own = record {
  grows = record {
    at = port.at;
    made = port.made;
    records = records_but_one r s before rest a.grows;
    halves = halves_same halves (before ++ s ∷ rest);
    ends = ends.grow;
    asked = asked_but_one (all_ends (holding p (before ++ r ∷ rest) halves)) (all_ends (holding q (before ++ s ∷ rest) halves)) before rest r s (none_since r s a.grows.journal a.judged);
  };
  own = record {
    held = ends.held;
    made = ends.made;
    waiting = subst (λ (o : _). AreOfTheirOwn (waiting_at (record p { waiting = o }))) (sym port.waiting) own.waiting;
    to_come = ends.to_come;
    elsewhere = all_but_one (LeadsElsewhere p) (LeadsElsewhere q) r s before rest
        (λ x away k h. ap (λ at. goes_to at k) port.at ∙ away k h)
        (λ away k h. ap (λ at. goes_to at k) port.at ∙ away k (subst (λ (f : Addr). goes_to f k ≡ true) (ap (λ f. f.peer) a.grows.facts) h))
        own.elsewhere;
    fed = all_but_one IsFed IsFed r s before rest (λ x h. h) a.fed own.fed;
    on_socket = own.on_socket;
    here = all_so_of (λ (l : LooseNow). goes_to p.at l.end.id ≡ true) (λ (l : LooseNow). goes_to q.at l.end.id ≡ true) (all_left halves) (λ l h. ap (λ at. goes_to at l.end.id) port.at ∙ h) own.here;
  };
  judged = λ was. record {
    each = all_but_one (HasItsHalves (all_left halves)) (HasItsHalves (all_left halves)) r s before rest (λ x h. h)
        (λ has k h. subst (λ (ts : List TrailNow). is_among k (map (λ (t : TrailNow). t.socket) ts ++ sockets_left (all_left halves)) ≡ true) (sym a.trails) (has k (subst (λ l. is_among k l ≡ true) (still_asked r s a) h)))
        was.each;
    made = all_but_one (AskedOnMade p.made) (AskedOnMade q.made) r s before rest
        (λ x has k h. made_still p q port k (has k h))
        (λ has k h. made_still p q port k (has k (subst (λ l. is_among k l ≡ true) (still_asked r s a) h)))
        was.made;
    here = all_but_one (AskedTowards p.at) (AskedTowards q.at) r s before rest
        (λ x has k h. ap (λ at. goes_to at k) port.at ∙ has k h)
        (λ has k h. ap (λ at. goes_to at k) port.at ∙ has k (subst (λ l. is_among k l ≡ true) (still_asked r s a) h))
        was.here;
    one_judge = one_same r s before rest (still_asked r s a) was.one_judge;
    askers = all_so_of (IsHeardBy (before ++ r ∷ rest)) (IsHeardBy (before ++ s ∷ rest)) halves.pending
        (λ x. heard_by_one x)
        was.askers;
    peers = subst (IsDistinct same_addr) (sym (map_but_one peer_of r s before rest (ap (λ f. f.peer) a.grows.facts))) was.peers;
  };
}
  where
    heard_by_one : (x : PendingNow) → IsHeardBy (before ++ r ∷ rest) x → IsHeardBy (before ++ s ∷ rest) x
    heard_by_one x = all_but_one
        (λ (y : RecordNow). is_among x.half.trail.socket (asked_on y) ≡ true → is_asker x.asker (peer_of y) ≡ true)
        (λ (y : RecordNow). is_among x.half.trail.socket (asked_on y) ≡ true → is_asker x.asker (peer_of y) ≡ true)
        r s before rest (λ y h. h)
        (λ has h. ap (λ f. is_asker x.asker f.peer) a.grows.facts ∙ has (subst (λ l. is_among x.half.trail.socket l ≡ true) (still_asked r s a) h))

-- ---- the port does nothing

-- nothing of it but what it counts changes
pub record PortStays (p q : SeenPort) : Type 0 where
  pub at : q.at ≡ p.at
  pub made : q.made ≡ p.made
  pub waiting : q.waiting ≡ p.waiting

-- the record's ends are the same, later
pub one_advances : (p q : SeenPort) (before rest : List RecordNow) (r s : RecordNow) (halves : AllHalves) → PortStays p q → Advances r s → AreLater (ends_of r) (ends_of s) →
    AreOwn (holding p (before ++ r ∷ rest) halves) → Grows (holding p (before ++ r ∷ rest) halves) (holding q (before ++ s ∷ rest) halves)
one_advances p q before rest r s halves port a later own =
    one_goes p q before rest r s halves (record { at = port.at; made = on_by p.made q.made port.made; waiting = port.waiting }) a
    (record { held = held.own; grow = all.grow; made = subst (λ m. AreMade m (ends_held new)) (sym port.made) (made_later p.made (ends_held old) (ends_held new) held.none own.made); to_come = comes }) own
  where
    old : Holding
    old = holding p (before ++ r ∷ rest) halves

    new : Holding
    new = holding q (before ++ s ∷ rest) halves

    waits : waiting_at q ≡ waiting_at p
    waits = ap (λ o. waiting_at (record p { waiting = o })) port.waiting

    held : AreStill (ends_held old) (ends_held new)
    held = subst (λ l. AreLater l (ends_held new)) (sym (held_around before rest r halves))
        (subst (AreLater (ends_of_all before ++ (ends_of r ++ ends_behind rest halves))) (sym (held_around before rest s halves))
        (later_between (ends_of_all before) (ends_of r) (ends_of s) (ends_behind rest halves) later))
        own.held

    all : AreStill (all_ends old) (all_ends new)
    all = subst (λ l. AreLater l (all_ends new)) (sym (all_around p before rest r halves))
        (subst (AreLater (ends_of_all before ++ (ends_of r ++ (ends_behind rest halves ++ waiting_at p)))) (sym (all_around q before rest s halves ∙ ap (λ l. ends_of_all before ++ (ends_of s ++ (ends_behind rest halves ++ l))) waits))
        (later_between (ends_of_all before) (ends_of r) (ends_of s) (ends_behind rest halves ++ waiting_at p) later))
        (own_all old own)

    comes : AllByRecursion (IsToCome q) (waiting_at q)
    comes = subst (AllByRecursion (IsToCome q)) (sym waits) (all_so_of (IsToCome p) (IsToCome q) (waiting_at p) (λ e h. record { here = ap (λ at. goes_to at e.id) port.at ∙ h.here; new = ap (is_among e.id) port.made ∙ h.new }) own.to_come)
