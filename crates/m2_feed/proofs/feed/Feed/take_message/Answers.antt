use Rattle.m2_feed.proofs.Fronts.{takes}
use Rattle.m2_feed.proofs.feed.Feed.take_message.Goals as goal

pub returns : goal.returns
returns g c =
    takes c.in_ok-message.message c.args.self.now c.pass.new.self c.in_ok-message.ensures c.pass.ensures.passes c.pass.ensures.only
