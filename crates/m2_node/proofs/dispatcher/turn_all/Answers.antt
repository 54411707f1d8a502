-- One letter more.
use Rattle.m2_node.proofs.Dispatched.{none_first, one_first}
use Rattle.m2_node.proofs.dispatcher.turn_all.Goals as goal

pub turning-init : goal.turning-init
turning-init c = record { some = none_first c.args.queue.now; letters = c.requires.letters; passes = c.requires.passes }

pub turning-preserved : goal.turning-preserved
turning-preserved c = record {
  some = one_first c.args.queue.now c.turning.queue c.turn.new.self c.turning.invariant.some c.in-One.ensures.waiting c.in-One.ensures.heard;
  letters = c.turn.ensures.letters;
  passes = c.turn.ensures.passes;
}
