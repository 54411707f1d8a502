-- A center that is on its course stays so: in a turn, at a poll, and where time passes.
use Rattle.std.proofs.Common.{◌≡◌, ℕ, ◌+◌, ◌≤◌, List, map, sym, ap, ◌∙◌, arith}
use Rattle.m2_fabric.specs.m2_addr.declared.addr.Addr.{Addr}
use Rattle.m2_fabric.specs.Port.{with_poll}
use Rattle.m2_fabric.proofs.m2_lemmas.Lists.{all_so}
use Rattle.m2_cluster.specs.m2_center.Center.{CenterNow}
use Rattle.m2_cluster.specs.m2_center.m2_core.Waits.{IsWithin}
use Rattle.m2_cluster.specs.m2_center.m2_record.IsRecord.{IsRecord}
use Rattle.m2_cluster.specs.m2_center.m2_record.RecordNow.{RecordNow}
use Rattle.m2_growth.specs.Holding.{AreOwn, HaveTheirHalves, IsToCome, waiting_at}
use Rattle.m2_links_go_on.specs.Course.{DialsInTime, holding_in, missed_by}
use Rattle.m2_links_go_on.specs.CourseLaws.{DialsStayInTime, LastsStayGiven, MadeStays, MissedStayCounted, PollsStayOnCourse, SocketsStayApart, SocketsStayHeld, TurnsStayOnCourse, WaitingStaysOnCourse}
use Rattle.m2_links_go_on.specs.Made.{NodeMade, SideMade, side_made}
use Rattle.m2_links_go_on.proofs.CourseMoving.{counted, dials_in_time, lasts_given, sides_still}
use Rattle.m2_links_go_on.proofs.CourseSockets.{keeps_sockets}
use Rattle.m2_links_go_on.proofs.CourseTurns.{center_goes}

-- ---- row by row

abbrev node_of : (entity : ℕ) → Addr → List SideMade → NodeMade
node_of entity at sides = record { entity = entity; at = at; sides = sides }

pub made_stays : (D E : Type 0) → MadeStays D E
made_stays D E heard m answer old new t =
    let g = center_goes m E heard answer old new t in
    ap (λ x. node_of x new.port.at (map side_made new.records)) g.entity
    ∙ (ap (λ x. node_of old.entity x (map side_made new.records)) g.all.at ∙ ap (node_of old.entity old.port.at) (sides_still m.now old.records new.records g.all.each))

pub sockets_stay_held : (D E : Type 0) → SocketsStayHeld D E
sockets_stay_held D E heard m answer old new t own held = (keeps_sockets E heard m answer old new t own).held held

pub sockets_stay_apart : (D E : Type 0) → SocketsStayApart D E
sockets_stay_apart D E heard m answer old new t was = (center_goes m E heard answer old new t).all.once was

plus_none : (n : ℕ) → n + 0 ≡ n
plus_none n = omega arith

pub missed_stay_counted : (D E : Type 0) → MissedStayCounted D E
missed_stay_counted D E heard m answer old new t was =
    let g = center_goes m E heard answer old new t in
    counted new.port.missed (missed_by new.records + 0) (missed_by new.records) (plus_none (missed_by new.records))
    (g.all.missed 0 (counted old.port.missed (missed_by old.records) (missed_by old.records + 0) (sym (plus_none (missed_by old.records))) was))

pub lasts_stay_given : (D E C : Type 0) (may_give : C → ℕ → Type 0) → LastsStayGiven D E C may_give
lasts_stay_given D E C may_give heard m answer old new t clock given was =
    lasts_given m.now (may_give clock) old.records new.records given (center_goes m E heard answer old new t).all.each was

-- a moment passes
later : (moment now : ℕ) → moment ≤ now → (r : RecordNow) → DialsInTime moment r → DialsInTime now r
later moment now le r was = omega (arith, le, was)

pub dials_stay_in_time : (D E : Type 0) → DialsStayInTime D E
dials_stay_in_time D E heard m answer old new t moment le are was =
    dials_in_time m.now old.records new.records (center_goes m E heard answer old new t).all.each
    (all_so IsRecord (λ (r : RecordNow). IsWithin r.core.facts.node r.waits) (λ r is. is.kept.waits) old.records are)
    (all_so (DialsInTime moment) (DialsInTime m.now) (later moment m.now le) old.records was)

-- ---- all of a turn

pub turns_stay_on_course : (D E C : Type 0) (may_give : C → ℕ → Type 0) → TurnsStayOnCourse D E C may_give
turns_stay_on_course D E C may_give heard m answer old new t clock moment node given le are was =
    let sockets = keeps_sockets E heard m answer old new t was.own in
    record {
      given = given;
      made = made_stays D E heard m answer old new t ∙ was.made;
      own = sockets.grows.own;
      held = sockets.held was.held;
      once = sockets_stay_apart D E heard m answer old new t was.once;
      halves = sockets.grows.judged was.halves;
      missed = missed_stay_counted D E heard m answer old new t was.missed;
      last = lasts_stay_given D E C may_give heard m answer old new t clock given was.last;
      dials = dials_stay_in_time D E heard m answer old new t moment le are was.dials;
    }

-- ---- between turns

-- a poll changes the count of faults alone
polled_own : {D : Type 0} (faults : ℕ) (c : CenterNow D) → AreOwn (holding_in c) → AreOwn (holding_in (record c { port = with_poll faults c.port }))
polled_own faults c own = record {
  held = own.held;
  made = own.made;
  waiting = own.waiting;
  to_come = all_so (IsToCome c.port) (IsToCome (with_poll faults c.port)) (λ e is. record { here = is.here; new = is.new }) (waiting_at c.port) own.to_come;
  elsewhere = own.elsewhere;
  fed = own.fed;
  on_socket = own.on_socket;
  here = own.here;
}

polled_halves : {D : Type 0} (faults : ℕ) (c : CenterNow D) → HaveTheirHalves (holding_in c) → HaveTheirHalves (holding_in (record c { port = with_poll faults c.port }))
polled_halves faults c was = record { each = was.each; made = was.made; here = was.here; one_judge = was.one_judge; askers = was.askers; peers = was.peers }

pub polls_stay_on_course : (D C : Type 0) (may_give : C → ℕ → Type 0) → PollsStayOnCourse D C may_give
polls_stay_on_course D C may_give clock moment faults node c was = record {
  given = was.given;
  made = was.made;
  own = polled_own faults c was.own;
  held = was.held;
  once = was.once;
  halves = polled_halves faults c was.halves;
  missed = was.missed;
  last = was.last;
  dials = was.dials;
}

pub waiting_stays_on_course : (D C : Type 0) (may_give : C → ℕ → Type 0) → WaitingStaysOnCourse D C may_give
waiting_stays_on_course D C may_give clock moment now node c given le was = record {
  given = given;
  made = was.made;
  own = was.own;
  held = was.held;
  once = was.once;
  halves = was.halves;
  missed = was.missed;
  last = was.last;
  dials = all_so (DialsInTime moment) (DialsInTime now) (later moment now le) c.records was.dials;
}
