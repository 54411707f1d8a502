-- A connect that is due: the socket is a new one, and where it is made it is the feed of a record that had none.
use Rattle.std.proofs.Common.{◌≡◌, ℕ, ◌&&◌, ◌||◌, Bool, true, false, not, List, [], ◌∷◌, ◌++◌, Option, Some, None, Result, IfSome, IsSome, nat_le, refl, sym, ap, subst, ◌∙◌, append-nil}
use Rattle.std.specs.List.{AllByRecursion}
use Rattle.std.specs.Option.{is_some, option_map}
use Rattle.std.proofs.lemmas.List.Elements.{filter_map-append}
use Rattle.m2_turn.specs.m2_session.Dials.{at_rest}
use Rattle.m2_fabric.specs.m2_bytes.declared.memory.NoMemory as memory
use Rattle.m2_turn.specs.m2_core.Calls.{IsOpening}
use Rattle.m2_turn.specs.m2_core.CoreNow.{may_dial}
use Rattle.m2_fabric.specs.declared.port.Connect.{Connect}
use Rattle.m2_fabric.specs.declared.port.Connect.TheVariants as connect
use Rattle.m2_fabric.specs.declared.socket.SocketId.{SocketId}
use Rattle.m2_fabric.specs.End.{Inflow, SeenEnd, nothing_told}
use Rattle.m2_fabric.specs.Port as port
use Rattle.m2_fabric.specs.Port.{IsNewEnd, SeenPort}
use Rattle.m2_fabric.specs.Sockets.{goes_to, is_among, same_socket}
use Rattle.m2_bytes_fit.specs.m2_feed.FeedNow.{FeedNow}
use Rattle.m2_weave.specs.m2_journal.declared.entry.Entry.TheVariants as entry
use Rattle.m2_turn.specs.m2_record.declared.due.Due.{Due}
use Rattle.m2_turn.specs.m2_record.declared.due.Due.TheVariants as due
use Rattle.m2_turn.specs.m2_record.Calls.{IsSameButRoom, after_missing, with_opened}
use Rattle.m2_turn.specs.m2_record.Calls as record_calls
use Rattle.m2_turn.specs.m2_record.Due.{due_step}
use Rattle.m2_turn.specs.m2_record.RecordNow.{RecordNow, ends_of, feed_end}
use Rattle.m2_turn.specs.m2_record.Sources.{end_at}
use Rattle.m2_turn.specs.m2_record.TakenTrails.{judgement_of, judgements_in}
use Rattle.m2_turn.specs.m2_session.declared.session.Phase.{Phase}
use Rattle.m2_turn.specs.m2_session.declared.session.Phase.TheVariants.{Absent, Connecting, IdentSent, ReconnectSent, Ready, Standby, Wait}
use Rattle.m2_turn.specs.m2_session.Phases as phase
use Rattle.m2_turn.specs.m2_session.Phases.{with_feed}
use Rattle.m2_turn.specs.Connecting.{AtPort, DialsFor, DialsIfDue, Takes}
use Rattle.m2_turn.specs.Halves.{AllHalves}
use Rattle.m2_growth.specs.Ends.{AreOfTheirOwn, IsNewborn}
use Rattle.m2_growth.specs.Holding.{AreOwn, Grows, Holding, IsToCome, LeadsElsewhere, all_ends, ends_held, waiting_at}
use Rattle.m2_growth.specs.Records.{IsFed, ends_of_all}
use Rattle.m2_growth.proofs.Among.{mid_out}
use Rattle.m2_growth.proofs.Due.{to_be_connected}
use Rattle.m2_growth.proofs.Ends.{AreMade, AreWith, later_by, made_none, made_so, none_cons, none_join, none_parts, on_by, with_between}
use Rattle.m2_growth.proofs.OneRecord.{Advances, advances_alike, advances_chain, advances_room, PortGoes, all_around, ends_behind, held_around, holding, one_advances, one_goes}
use Rattle.m2_growth.proofs.Owned.{own_all, waiting_here}
use Rattle.m2_growth.proofs.Going.{grows_by}
use Rattle.m2_fabric.proofs.Sockets.{among_neither, same_equal}
use Rattle.m2_fabric.proofs.m2_lemmas.Booleans.{both_of_and, false_isnt_true}
use Rattle.m2_fabric.proofs.m2_lemmas.Lists.{all_so_of}

-- ---- a record may dial only where it has no feed

resting : (p : Phase) (server wants : Bool) → not server && ((phase.is_among p at_rest && wants) || phase.is p Wait) ≡ true → phase.is_among p with_feed ≡ false
resting Absent server wants h = refl
resting Standby server wants h = refl
resting Wait server wants h = refl
resting Connecting true wants h = absurd (false_isnt_true h)
resting Connecting false wants h = absurd (false_isnt_true h)
resting IdentSent true wants h = absurd (false_isnt_true h)
resting IdentSent false wants h = absurd (false_isnt_true h)
resting ReconnectSent true wants h = absurd (false_isnt_true h)
resting ReconnectSent false wants h = absurd (false_isnt_true h)
resting Ready true wants h = absurd (false_isnt_true h)
resting Ready false wants h = absurd (false_isnt_true h)

no_feed : (o : Option FeedNow) → is_some o ≡ false → o ≡ None
no_feed (Some v) h = absurd (false_isnt_true (sym h))
no_feed None h = refl

pub unfed : (now at : ℕ) (r : RecordNow) → due_step now r ≡ due.Connect at → IsFed r → r.core.live.feed ≡ None
unfed now at r e fed = no_feed r.core.live.feed (fed ∙ resting r.core.live.session.phase r.core.live.session.policy.server _ may)
  where
    may : may_dial r.core ≡ true
    may = (both_of_and (may_dial r.core) (nat_le r.waits.next_dial now) (to_be_connected now at r e)).0

-- ---- where no socket is made

missed_alike : (now : ℕ) (r mid s : RecordNow) → IsSameButRoom r mid → s ≡ after_missing now mid → Advances r s
missed_alike now r mid s e f =
    advances_alike r s (ap (λ x. x.place) f ∙ ap (λ x. x.place) e) (ap (λ x. x.core.facts) f ∙ ap (λ x. x.core.facts) e) (on_by r.plan s.plan (ap (λ x. x.plan) f ∙ ap (λ x. x.plan) e))
    (ap (λ x. x.journal) f ∙ ap (λ x. x.journal) e) (ap (λ x. x.trails) f ∙ ap (λ x. x.trails) e) (λ h. subst IsFed (sym f) (subst IsFed (sym e) h))

-- ---- where one is made

-- the record has the feed that it opened, before the ends that it had
pub record Opens (e : SeenEnd) (r s : RecordNow) : Type 0 where
  pub advances : Advances r s
  pub ends : ends_of s ≡ e ∷ ends_of r

opened_at : (e : SeenEnd) (r s : RecordNow) (o : Option FeedNow) → r.core.live.feed ≡ None → s.core.live.feed ≡ o → IfSome o (λ v. IsOpening r.core.facts e v × (s ≡ record (with_opened v e.id r) { room = s.room })) → IsSome o → Opens e r s
opened_at e r s (Some v) none is (opening, h) _ = record {
  advances = record {
    grows = record {
      place = ap (λ x. x.place) h;
      facts = ap (λ x. x.core.facts) h;
      plan = on_by r.plan s.plan (ap (λ x. x.plan) h);
      journal = (entry.Opened e.id ∷ [], ap (λ x. x.journal) h);
      trails = on_by r.trails s.trails (ap (λ x. x.trails) h);
    };
    judged = ap (λ x. judgements_in x.journal) h ∙ filter_map-append judgement_of r.journal (entry.Opened e.id ∷ []) ∙ append-nil (judgements_in r.journal);
    trails = ap (λ x. x.trails) h;
    fed = λ _. ap is_some is ∙ sym (ap (λ (x : RecordNow). phase.is_among x.core.live.session.phase with_feed) h);
  };
  ends = ap (λ x. feed_end x ++ s.spent) is ∙ ap (λ (x : SeenEnd). x ∷ s.spent) (ap (λ (x : FeedNow). x.end) opening) ∙ ap (λ l. e ∷ l) (ap (λ x. x.spent) h) ∙ ap (λ x. e ∷ (feed_end x ++ r.spent)) (sym none);
}
opened_at e r s None none is h some = absurd (false_isnt_true some)

opens : (e : SeenEnd) (r mid s : RecordNow) → r.core.live.feed ≡ None → IsSameButRoom r mid → record_calls.Connects e mid s → Opens e r s
opens e r mid s none room h =
    let opened = opened_at e mid s s.core.live.feed (ap (λ x. x.core.live.feed) room ∙ none) refl h.0 h.1 in
    record {
      advances = advances_chain r mid s (advances_room r mid room) opened.advances;
      ends = opened.ends ∙ ap (λ x. e ∷ ends_of x) room;
    }

-- ---- the socket

-- nothing has come to an end that did nothing and was told nothing
newborn : (e : SeenEnd) (made : List SocketId) (at : _) → IsNewEnd at made e → IfSome e.inflow (λ i. i ≡ nothing_told) → IsNewborn e
newborn e made at new told = at_inflow e.inflow told
  where
    at_inflow : (o : Option Inflow) → IfSome o (λ i. i ≡ nothing_told) → IfSome (option_map (λ (i : Inflow). e.log.got ++ i.readable) o) (λ bytes. bytes ≡ [])
    at_inflow (Some i) h = rw (new.unused, h) refl
    at_inflow None h = tt

not_before : (k : SocketId) (xs ys : List SocketId) → is_among k (xs ++ ys) ≡ false → (is_among k xs ≡ false) × (is_among k ys ≡ false)
not_before k [] ys h = (refl, h)
not_before k (x ∷ xs) ys h = at (same_socket k x) h (not_before k xs ys)
  where
    at : (b : Bool) → b || is_among k (xs ++ ys) ≡ false → (is_among k (xs ++ ys) ≡ false → (is_among k xs ≡ false) × (is_among k ys ≡ false)) → (b || is_among k xs ≡ false) × (is_among k ys ≡ false)
    at true h rest = absurd (false_isnt_true (sym h))
    at false h rest = rest h

not_one : (k x : SocketId) → is_among k (x ∷ []) ≡ false → same_socket k x ≡ false
not_one k x h = at (same_socket k x) h
  where
    at : (b : Bool) → b || false ≡ false → b ≡ false
    at true h = absurd (false_isnt_true (sym h))
    at false h = refl

-- ---- in a holding

pub connects : (p q : SeenPort) (before rest : List RecordNow) (r s : RecordNow) (halves : AllHalves) (e : SeenEnd) → r.core.live.feed ≡ None → Opens e r s →
    port.Connects (connect.Made e) r.core.facts.peer p q → LeadsElsewhere p r →
    AreOwn (holding p (before ++ r ∷ rest) halves) → Grows (holding p (before ++ r ∷ rest) halves) (holding q (before ++ s ∷ rest) halves)
connects p q before rest r s halves e none opened (new, told, h) away own =
    one_goes p q before rest r s halves goes opened.advances (record { held = held.own; grow = all.grow; made = made; to_come = comes }) own
  where
    old : Holding
    old = holding p (before ++ r ∷ rest) halves

    later : Holding
    later = holding q (before ++ s ∷ rest) halves

    goes : PortGoes p q
    goes = record { at = ap (λ x. x.at) h; made = (e.id ∷ [], ap (λ x. x.made) h); waiting = ap (λ x. x.waiting) h }

    waits : waiting_at q ≡ waiting_at p
    waits = ap waiting_at h

    first : List SeenEnd
    first = ends_of_all before

    behind : List SeenEnd
    behind = ends_of r ++ ends_behind rest halves

    was : ends_held old ≡ first ++ behind
    was = held_around before rest r halves

    is : ends_held later ≡ first ++ e ∷ behind
    is = held_around before rest s halves ∙ ap (λ l. first ++ (l ++ ends_behind rest halves)) opened.ends

    was_all : all_ends old ≡ first ++ (ends_of r ++ (ends_behind rest halves ++ waiting_at p))
    was_all = all_around p before rest r halves

    is_all : all_ends later ≡ first ++ e ∷ (ends_of r ++ (ends_behind rest halves ++ waiting_at p))
    is_all = all_around q before rest s halves ∙ ap (λ l. first ++ (l ++ (ends_behind rest halves ++ waiting_at q))) opened.ends
        ∙ ap (λ l. first ++ e ∷ (ends_of r ++ (ends_behind rest halves ++ l))) waits

    unmade : is_among e.id p.made ≡ false
    unmade = new.first

    born : IsNewborn e
    born = newborn e p.made r.core.facts.peer new told.0

    none_held : end_at (ends_held old) e.id ≡ None
    none_held = made_none p.made (ends_held old) e.id own.made unmade

    none_all : end_at (all_ends old) e.id ≡ None
    none_all = none_join (ends_held old) (waiting_at p) e.id none_held (waiting_here p (waiting_at p) e.id own.to_come (away e.id new.towards))

    held : AreWith (ends_held old) (ends_held later)
    held = subst (λ l. AreWith l (ends_held later)) (sym was) (subst (AreWith (first ++ behind)) (sym is)
        (with_between e first behind born (subst (λ l. end_at l e.id ≡ None) was none_held) (subst AreOfTheirOwn was own.held)))

    all : AreWith (all_ends old) (all_ends later)
    all = subst (λ l. AreWith l (all_ends later)) (sym was_all) (subst (AreWith (first ++ (ends_of r ++ (ends_behind rest halves ++ waiting_at p)))) (sym is_all)
        (with_between e first (ends_of r ++ (ends_behind rest halves ++ waiting_at p)) born (subst (λ l. end_at l e.id ≡ None) was_all none_all) (subst AreOfTheirOwn was_all (own_all old own))))

    -- each is of a socket that was made before, but for the new one
    none_of : (k : SocketId) → is_among k (p.made ++ e.id ∷ []) ≡ false → end_at (first ++ e ∷ behind) k ≡ None
    none_of k not_made =
        let two = not_before k p.made (e.id ∷ []) not_made in
        let parts = none_parts first behind k (subst (λ l. end_at l k ≡ None) was (made_none p.made (ends_held old) k own.made two.0)) in
        none_join first (e ∷ behind) k parts.0 (none_cons e behind k (not_one k e.id two.1) parts.1)

    made : AreMade q.made (ends_held later)
    made = subst (AreMade q.made) (sym is) (subst (λ m. AreMade m (first ++ e ∷ behind)) (sym (ap (λ x. x.made) h)) (made_so (p.made ++ e.id ∷ []) (first ++ e ∷ behind) none_of))

    other : (w : SeenEnd) → IsToCome p w → same_socket w.id e.id ≡ false
    other w come = at (same_socket w.id e.id) refl
      where
        at : (b : Bool) → same_socket w.id e.id ≡ b → b ≡ false
        at true same = absurd (false_isnt_true (sym (away e.id new.towards) ∙ ap (goes_to p.at) (sym (same_equal w.id e.id same)) ∙ come.here))
        at false same = refl

    come_still : (w : SeenEnd) → IsToCome p w → IsToCome q w
    come_still w come = record {
      here = ap (λ x. goes_to x.at w.id) h ∙ come.here;
      new = ap (λ x. is_among w.id x.made) h ∙ among_neither w.id p.made (e.id ∷ []) come.new (ap (λ b. b || false) (other w come));
    }

    comes : AllByRecursion (IsToCome q) (waiting_at q)
    comes = subst (AllByRecursion (IsToCome q)) (sym waits) (all_so_of (IsToCome p) (IsToCome q) (waiting_at p) come_still own.to_come)

-- ---- a dial

takes : (made : Connect SeenEnd) (now : ℕ) (p q : SeenPort) (before rest : List RecordNow) (r s : RecordNow) (halves : AllHalves) → r.core.live.feed ≡ None →
    port.Connects made r.core.facts.peer p q → Takes made now r s → LeadsElsewhere p r →
    AreOwn (holding p (before ++ r ∷ rest) halves) → Grows (holding p (before ++ r ∷ rest) halves) (holding q (before ++ s ∷ rest) halves)
takes (connect.Made e) now p q before rest r s halves none c (mid, room, opened) away own =
    connects p q before rest r s halves e none (opens e r mid s none room opened) c away own
takes connect.Failed now p q before rest r s halves none (_, e) (mid, room, missed) away own =
    one_advances p q before rest r s halves (record { at = ap (λ x. x.at) e; made = ap (λ x. x.made) e; waiting = ap (λ x. x.waiting) e }) (missed_alike now r mid s room missed)
    (later_by (ends_of r) (ends_of s) (ap ends_of missed ∙ ap ends_of room)) own
takes connect.NoMemory now p q before rest r s halves none e room away own =
    one_advances p q before rest r s halves (record { at = ap (λ x. x.at) e; made = ap (λ x. x.made) e; waiting = ap (λ x. x.waiting) e }) (advances_room r s room)
    (later_by (ends_of r) (ends_of s) (ap ends_of room)) own

-- where none is due nothing is done
rests : (old new : AtPort) (before rest : List RecordNow) (halves : AllHalves) → new ≡ old →
    AreOwn (holding old.port (before ++ old.side ∷ rest) halves) → Grows (holding old.port (before ++ old.side ∷ rest) halves) (holding new.port (before ++ new.side ∷ rest) halves)
rests old new before rest halves e own =
    grows_by (holding old.port (before ++ old.side ∷ rest) halves) (holding new.port (before ++ new.side ∷ rest) halves) (ap (λ (a : AtPort). holding a.port (before ++ a.side ∷ rest) halves) e) own

dials_for : (d : Due) (result : Result (Unit {0}) memory.NoMemory) (now : ℕ) (old new : AtPort) (before rest : List RecordNow) (halves : AllHalves) → due_step now old.side ≡ d → DialsFor d result now old new →
    AreOwn (holding old.port (before ++ old.side ∷ rest) halves) → Grows (holding old.port (before ++ old.side ∷ rest) halves) (holding new.port (before ++ new.side ∷ rest) halves)
dials_for (due.Connect at) result now old new before rest halves is d own =
    takes d.made now old.port new.port before rest old.side new.side halves (unfed now at old.side is (mid_out IsFed old.side before rest own.fed).0) d.port d.takes
    (mid_out (LeadsElsewhere old.port) old.side before rest own.elsewhere).0 own
dials_for due.Nothing result now old new before rest halves is (_, e) own = rests old new before rest halves e own
dials_for due.Plan result now old new before rest halves is (_, e) own = rests old new before rest halves e own
dials_for due.Hand result now old new before rest halves is (_, e) own = rests old new before rest halves e own
dials_for due.Write result now old new before rest halves is (_, e) own = rests old new before rest halves e own
dials_for due.Frame result now old new before rest halves is (_, e) own = rests old new before rest halves e own
dials_for due.Read result now old new before rest halves is (_, e) own = rests old new before rest halves e own
dials_for due.Compose result now old new before rest halves is (_, e) own = rests old new before rest halves e own

pub dials : (result : Result (Unit {0}) memory.NoMemory) (now : ℕ) (old new : AtPort) (before rest : List RecordNow) (halves : AllHalves) → DialsIfDue result now old new →
    AreOwn (holding old.port (before ++ old.side ∷ rest) halves) → Grows (holding old.port (before ++ old.side ∷ rest) halves) (holding new.port (before ++ new.side ∷ rest) halves)
dials result now old new before rest halves d own = dials_for (due_step now old.side) result now old new before rest halves refl d own
