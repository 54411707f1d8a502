-- The ends of one record more, the last one of those that are left, which were turned round.
use Rattle.std.proofs.Common.{rules, ◌≡◌, [], map, sym, subst}
use Rattle.m2_dispatch.specs.m2_shared.Gates.{places}
use Rattle.m2_node.specs.m2_script.m2_record.Calls.{Owns}
use Rattle.m2_node.specs.m2_script.m2_center.Finishing.{AllOwn}
use Rattle.m2_node.proofs.m2_script.m2_center.Granted.{before_last}
use Rattle.m2_run.proofs.Giving.{none_given, none_left, one_record}
use Rattle.m2_run.proofs.gathering.give_records.Goals as goal
use Rattle.m2_bytes.proofs.m2_lemmas.Lists.{all_reverse}

pub records-init : goal.records-init
records-init g c =
    let at = places c.args.throttles.now in
    record {
      passes = c.requires.passes;
      owned = subst (AllOwn at) (sym c.reverse.ensures.items) (all_reverse (Owns at) c.args.records.items c.requires.owned);
      given = λ all o. none_given c.args.cuts.now c.args.made.now c.args.records.items c.reverse.new.self.items (map g.E.End.seen c.args.into.now.items) all c.reverse.ensures.items o;
    }

pub ends-ends-requires-clause-owned : goal.ends-ends-requires-clause-owned
ends-ends-requires-clause-owned g c =
    let at = places c.args.throttles.now in
    (before_last (Owns at) c.pop.new.self.items c.in-Some.side (subst (AllOwn at) c.in-Some.ensures.items c.records.invariant.owned)).1

pub records-preserved : goal.records-preserved
records-preserved g c =
    let l = c.records in
    let at = places c.args.throttles.now in
    let seen = g.E.End.seen in
    record {
      passes = c.ends-ends.ensures.passes;
      owned = (before_last (Owns at) c.pop.new.self.items c.in-Some.side (subst (AllOwn at) c.in-Some.ensures.items l.invariant.owned)).0;
      given = one_record c.args.cuts.now c.args.made.now l.given c.give_ends-given.result (map seen c.args.into.now.items) (map seen l.into.items) (map seen c.give_ends-given.new.into.items)
          c.ends-ends.result.items c.args.records.items l.records.items c.pop.new.self.items c.in-Some.side c.in-Some.ensures.items c.ends-ends.ensures.ends c.give_ends-given.ensures.given
          c.give_ends-given.ensures.before l.invariant.given;
    }

pub returns : goal.returns
returns g c =
    let l = c.records in
    let seen = g.E.End.seen in
    let none : l.records.items ≡ [] = search rules in
    none_left c.args.cuts.now c.args.made.now l.given (map seen c.args.into.now.items) (map seen l.into.items) c.args.records.items l.records.items none l.invariant.given
