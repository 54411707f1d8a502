use Rattle.m2_frame.proofs.Memory.{Stays-fed}
use Rattle.m2_frame.proofs.decoder.Decoder.feed.Goals as goal

pub find_on-self-inside-requires : goal.find_on-self-inside-requires
find_on-self-inside-requires c =
    let d = c.self.inside in
    rw (c.as_slice.ensures, c.in_ok-extend_from_slice.ensures.ok) (Stays-fed d.finding d.buffer.items c.args.piece.now d.granted c.self.invariant.found)
