use Rattle.m2_shared.specs.Gates.{places}
use Rattle.std.proofs.Common.{◌≤◌, Err, Ok, ap, refl, subst, sym}
use Rattle.m2_record.specs.Calls.{Owns}
use Rattle.m2_record.specs.Due.{due_step}
use Rattle.m2_record.proofs.Topmost.{top-fits}
use Rattle.m2_turn.specs.RecordTurn.{means_of}
use Rattle.m2_turn.specs.RecordsTurn.{amid, around}
use Rattle.m2_turn.proofs.InOrder.{dialled, not_dialled}
use Rattle.m2_turn.proofs.MoreHanded.{says_none, says_same, says_then}
use Rattle.m2_turn.proofs.Steady.{dialled_steady}
use Rattle.m2_turn.proofs.Told.{beside, keeps_on, none_made}
use Rattle.m2_turn.proofs.records_turn.turn_one.Goals as goal

pub returns-then-not-is_free-clause-fit : goal.returns-then-not-is_free-clause-fit
returns-then-not-is_free-clause-fit g c = top-fits c.args.side.now c.is_record.ensures

pub turn_record-ended-requires-clause-owned : goal.turn_record-ended-requires-clause-owned
turn_record-ended-requires-clause-owned g c = c.connect_if_due.ensures.owned (places c.args.work.now.throttles.now) c.requires.supplied.owned

pub returns-in-Ok-clause-turns : goal.returns-in-Ok-clause-turns
returns-in-Ok-clause-turns g c =
    dialled g.D.Dispatcher.heard (means_of c.args.now c.args.work.now) c.come_to.result (amid c.args.side.now (around (g.P.Port.seen c.args.port.now) c.args.out.now c.args.work.now))
    (amid c.turn_record-ended.new.side (around (g.P.Port.seen c.connect_if_due.new.port) c.turn_record-ended.new.out c.turn_record-ended.new.work)) (sym c.if-not-is_free.ensures)
    (record {
      mid = record { side = c.connect_if_due.new.side; port = g.P.Port.seen c.connect_if_due.new.port };
      dials = c.in-Ok.ensures.dials;
      ended = c.turn_record-ended.result;
      turns = c.turn_record-ended.ensures.turns;
      port = refl;
      comes = c.come_to.ensures;
    })

pub returns-in-Ok-clause-supplied : goal.returns-in-Ok-clause-supplied
returns-in-Ok-clause-supplied g c = record {
  owned = subst (λ t. Owns (places t) c.turn_record-ended.new.side) (sym c.turn_record-ended.ensures.same.throttles) c.turn_record-ended.ensures.owned;
  top = c.turn_record-ended.ensures.top;
  made = c.turn_record-ended.ensures.stays.made (g.P.Port.seen c.connect_if_due.new.port).made c.connect_if_due.ensures.made;
}

pub returns-in-Ok-clause-fit : goal.returns-in-Ok-clause-fit
returns-in-Ok-clause-fit g c = top-fits c.turn_record-ended.new.side c.is_record-in-Ok.ensures

pub returns-in-Ok-clause-keeps : goal.returns-in-Ok-clause-keeps
returns-in-Ok-clause-keeps g c =
    keeps_on (g.P.Port.seen c.args.port.now).made (g.P.Port.seen c.args.port.now).made c.args.side.now c.connect_if_due.new.side c.turn_record-ended.new.side (none_made (g.P.Port.seen c.args.port.now).made)
    c.connect_if_due.ensures.keeps (beside (g.P.Port.seen c.args.port.now).made c.connect_if_due.new.side c.turn_record-ended.new.side c.turn_record-ended.ensures.stays)

pub returns-in-Err-clause-turns : goal.returns-in-Err-clause-turns
returns-in-Err-clause-turns g c =
    not_dialled g.D.Dispatcher.heard (means_of c.args.now c.args.work.now) (amid c.args.side.now (around (g.P.Port.seen c.args.port.now) c.args.out.now c.args.work.now))
    (amid c.connect_if_due.new.side (around (g.P.Port.seen c.connect_if_due.new.port) c.args.out.now c.args.work.now)) (sym c.if-not-is_free.ensures)
    (record { dials = c.in-Err.ensures.dials; only = refl })

pub returns-in-Err-clause-supplied : goal.returns-in-Err-clause-supplied
returns-in-Err-clause-supplied g c = record {
  owned = c.connect_if_due.ensures.owned (places c.args.work.now.throttles.now) c.requires.supplied.owned;
  top = subst (λ n. n ≤ c.args.work.now.number_pass.now.least) (sym c.connect_if_due.ensures.top) c.requires.supplied.top;
  made = c.connect_if_due.ensures.made;
}

pub returns-in-Err-clause-fit : goal.returns-in-Err-clause-fit
returns-in-Err-clause-fit g c = top-fits c.connect_if_due.new.side c.is_record-in-Err.ensures

pub returns-then-not-is_free-clause-handed : goal.returns-then-not-is_free-clause-handed
returns-then-not-is_free-clause-handed g c = says_none c.args.handed.now c.args.side.now.handed

pub returns-in-Ok-clause-handed : goal.returns-in-Ok-clause-handed
returns-in-Ok-clause-handed g c =
    says_then _ _ _ _ _ _
    (says_same c.args.handed.now _ _
    (ap (λ x. x.2)
    (dialled_steady (due_step c.args.now c.args.side.now) (Ok tt) c.args.now (record { side = c.args.side.now; port = g.P.Port.seen c.args.port.now })
    (record { side = c.connect_if_due.new.side; port = g.P.Port.seen c.connect_if_due.new.port }) c.in-Ok.ensures.dials)))
    c.turn_record-ended.ensures.handed

pub returns-in-Err-clause-handed : goal.returns-in-Err-clause-handed
returns-in-Err-clause-handed g c =
    says_same c.args.handed.now _ _
    (ap (λ x. x.2)
    (dialled_steady (due_step c.args.now c.args.side.now) (Err (record {})) c.args.now (record { side = c.args.side.now; port = g.P.Port.seen c.args.port.now })
    (record { side = c.connect_if_due.new.side; port = g.P.Port.seen c.connect_if_due.new.port }) c.in-Err.ensures.dials))
