-- One way more.
use Rattle.std.specs.Prelude.{slice_get}
use Rattle.std.proofs.Common.{◌≡◌, ◌+◌, ◌-◌, ◌++◌, [], rules, subst, sym, arith}
use Rattle.std.specs.List.{AllByRecursion}
use Rattle.m2_bytes.proofs.m2_lemmas.Lists.{all_last}
use Rattle.m2_node.specs.Begins.{IsNewWay}
use Rattle.m2_node.specs.Rooms.{homes_from}
use Rattle.m2_node.proofs.DoorsBegin.{all_ways, first_way, next_way, ways_more}
use Rattle.m2_node.proofs.beginning.Doors.ways.Goals as goal

pub centers-init : goal.centers-init
centers-init g c =
    let none : c.in_ok-ways.ways.items ≡ [] = search rules in
    record {
      doors = λ rest doors. first_way (slice_get g.B.Inboxes.inboxes) c.args.self.now c.args.centers rest doors;
      new = subst (AllByRecursion IsNewWay) (sym none) tt;
    }

pub way-requires : goal.way-requires
way-requires g c =
    let l = c.centers in
    let n = c.args.centers in (
      homes_from (l.center + 1) (n - (l.center + 1)) n ++ c.requires.0,
      next_way (slice_get g.B.Inboxes.inboxes) l.self (homes_from 0 l.center n) l.center n c.requires.0 c.centers-test.true (l.invariant.doors c.requires.0 c.requires.1),
    )

pub centers-preserved : goal.centers-preserved
centers-preserved g c =
    let l = c.centers in
    let n = c.args.centers in
    record {
      doors = λ rest doors.
          ways_more (slice_get g.B.Inboxes.inboxes) c.way.new.self l.center n (homes_from (l.center + 1) (n - (l.center + 1)) n ++ rest)
          (c.in_ok-way.ensures.doors (homes_from (l.center + 1) (n - (l.center + 1)) n ++ rest)
          (next_way (slice_get g.B.Inboxes.inboxes) l.self (homes_from 0 l.center n) l.center n rest c.centers-test.true (l.invariant.doors rest doors)));
      new = subst (AllByRecursion IsNewWay) (sym c.in_ok-push.ensures.items) (all_last IsNewWay l.ways.items c.in_ok-way.way l.invariant.new c.in_ok-way.ensures.new);
    }

pub returns-clause-doors : goal.returns-clause-doors
returns-clause-doors g c = λ rest doors.
    let l = c.centers in
    let all : l.center ≡ c.args.centers = let most = l.auto.center-end in let past = c.centers-test.false in omega (arith, most, past) in
    all_ways (slice_get g.B.Inboxes.inboxes) l.self l.center c.args.centers rest all (l.invariant.doors rest doors)
