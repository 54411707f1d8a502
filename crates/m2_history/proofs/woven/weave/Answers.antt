use Rattle.m2_history.specs.Counted.{logs_of}
use Rattle.m2_history.proofs.WovenSides.{delivered_in, in_order_in, to_a_mark_in, unreset}
use Rattle.m2_history.proofs.woven.weave.Goals as goal

pub returns-clause-never_reset : goal.returns-clause-never_reset
returns-clause-never_reset g c =
    unreset c.args.a.now.record.now c.args.b.now.record.now c.args.loose.now.items c.records_are_sides.ensures c.is_record.ensures c.is_record-2.ensures c.weave_sides.result
    c.woven_is_never_reset.ensures c.weave_sides.ensures

pub returns-clause-delivered : goal.returns-clause-delivered
returns-clause-delivered g c =
    delivered_in c.args.a.now.record.now c.args.b.now.record.now c.args.loose.now.items c.records_are_sides.ensures c.is_record.ensures c.is_record-2.ensures
    (logs_of c.args.a.now.fast.now.items c.args.a.now.log.now.items) (logs_of c.args.b.now.fast.now.items c.args.b.now.log.now.items) c.weave_sides.result
    c.woven_is_delivered.ensures c.weave_sides.ensures

pub returns-clause-to_a_mark : goal.returns-clause-to_a_mark
returns-clause-to_a_mark g c =
    to_a_mark_in c.args.a.now.record.now c.args.b.now.record.now c.args.loose.now.items c.records_are_sides.ensures c.is_record.ensures c.is_record-2.ensures
    (logs_of c.args.a.now.fast.now.items c.args.a.now.log.now.items) (logs_of c.args.b.now.fast.now.items c.args.b.now.log.now.items) c.weave_sides.result
    c.woven_is_a_run_to_a_mark.ensures c.weave_sides.ensures

pub returns-clause-lossy : goal.returns-clause-lossy
returns-clause-lossy g c =
    in_order_in c.args.a.now.record.now c.args.b.now.record.now c.args.loose.now.items c.records_are_sides.ensures c.is_record.ensures c.is_record-2.ensures
    (logs_of c.args.a.now.fast.now.items c.args.a.now.log.now.items) (logs_of c.args.b.now.fast.now.items c.args.b.now.log.now.items) c.weave_sides.result
    c.woven_comes_in_order.ensures c.weave_sides.ensures
