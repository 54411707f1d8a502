use Rattle.m2_frame_facts.proofs.Said.{bad_frames_said}
use Rattle.m2_frame_facts.proofs.status.put_bad_frames.Goals as goal

pub returns : goal.returns
returns c =
    bad_frames_said c.put_fault.result c.args.text.now.bytes c.push_all.new.self.bytes c.put_decimal.new.out.bytes c.put_fault.new.text.bytes c.args.place c.args.fault
    c.in_ok-push_all.ensures.0 c.in_ok-put_decimal.ensures.0 c.put_fault.ensures
