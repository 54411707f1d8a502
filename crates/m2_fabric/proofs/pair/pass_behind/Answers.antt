use Rattle.m2_fabric.proofs.Over.{behind_is_all, behind_tell_all, over_behind, over_within}
use Rattle.m2_fabric.specs.News.{logs_of}
use Rattle.std.proofs.Common.{subst}
use Rattle.m2_fabric.specs.Over.{AreOver}
use Rattle.m2_fabric.proofs.pair.pass_behind.Goals as goal

pub split_at_mut-live-requires : goal.split_at_mut-live-requires
split_at_mut-live-requires g c = over_within c.args.over c.args.sockets.now c.requires.over

pub returns-clause-over : goal.returns-clause-over
returns-clause-over g c =
    let s = c.split_at_mut-live in
    over_behind c.args.over s.result.0.now s.result.1.now c.pass_sockets.new.sockets s.ensures.front_len (subst (AreOver c.args.over) s.ensures.value c.requires.over)

pub returns-clause-sockets : goal.returns-clause-sockets
returns-clause-sockets g c =
    let s = c.split_at_mut-live in
    behind_is_all c.pass_sockets.result c.args.what.now (logs_of (g.H.Holder.seen c.args.h.now)) c.args.first c.args.second c.args.over c.args.sockets.now s.result.0.now s.result.1.now c.pass_sockets.new.sockets
    s.ensures.value s.ensures.front_len c.requires.over c.pass_sockets.ensures.sockets

pub returns-clause-told : goal.returns-clause-told
returns-clause-told g c =
    let s = c.split_at_mut-live in
    behind_tell_all c.pass_sockets.result c.args.what.now c.args.first c.args.second c.args.over c.args.sockets.now s.result.0.now s.result.1.now (g.H.Holder.seen c.args.h.now) (g.H.Holder.seen c.pass_sockets.new.h)
    s.ensures.value s.ensures.front_len c.requires.over c.pass_sockets.ensures.told
