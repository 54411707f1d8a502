use Rattle.m2_record.proofs.Hearing.{feed-after, spent-after}
use Rattle.m2_record.proofs.record.Record.hear.Goals as goal

pub invariant_of-self : goal.invariant_of-self
invariant_of-self g c = feed-after c.hear.result c.args.news c.args.bytes.now _ c.hear.new.self c.self.invariant c.hear.ensures.ok c.hear.ensures.err c.hear.ensures.stays

pub invariant_of-self-else-is_feed : goal.invariant_of-self-else-is_feed
invariant_of-self-else-is_feed g c = spent-after c.first_hears.result c.args.id.now c.args.news c.args.bytes.now _ _ _ c.self.invariant c.first_hears.ensures.room c.first_hears.ensures.ok c.first_hears.ensures.err
