-- Its ends, its port and its calls, one after the other.
use Rattle.std.proofs.Common.{[], ◌∷◌, map, subst}
use Rattle.std.specs.Prelude.{OnOk, Result, Ok, Err}
use Rattle.std.specs.List.{flat_map}
use Rattle.std.specs.Option.{option_map}
use Rattle.m2_run.specs.Gathering.{GivenNow, Gives, Opens}
use Rattle.m2_run.specs.Kept.{ends_of_record}
use Rattle.m2_run.specs.Rests.{EndedCenterNow}
use Rattle.m2_run.proofs.Giving.{center_gives}
use Rattle.m2_run.proofs.gathering.give_center.Goals as goal

on_ok_so : {T E P Q : Type 0} (r : Result T E) → (P → Q) → OnOk r P → OnOk r Q
on_ok_so (Ok x) f p = f p
on_ok_so (Err e) f p = tt

pub returns : goal.returns
returns g c =
    let port = g.P.Port.seen in
    let seen = g.P.End.End.seen in
    let cuts = c.args.cuts.now in
    let into = c.into.inside in
    let center = c.center.inside in
    let old : GivenNow = record { ports = map port into.ports.items; ends = map seen into.ends.items; fast = into.fast.items } in
    let new : GivenNow = record {
      ports = map port c.add_port.new.into.items;
      ends = map seen c.give_records.new.into.items;
      fast = c.add_log.new.into.items;
    } in
    let d : EndedCenterNow = record {
      port = option_map port center.port;
      made = center.made.items;
      records = center.records.items;
      fast = center.fast.items;
      queued = center.queued.items;
    } in
    on_ok_so c.add_log.result (λ last.
    subst (λ (o : GivenNow). Gives cuts (c.args.center ∷ []) o new) c.into.view_is
    (subst (λ (e : EndedCenterNow). Gives cuts (e ∷ []) old new) c.center.view_is
    (center_gives cuts d old new
    (subst (λ made. Opens cuts made (flat_map ends_of_record center.records.items) (map seen into.ends.items) (map seen c.give_records.new.into.items)) c.as_slice.ensures
    c.in_ok-give_records.ensures)
    c.in_ok-add_port.ensures last))) c.add_log.ensures
