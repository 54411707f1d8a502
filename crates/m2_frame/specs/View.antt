-- A frame in place, as a frame.
use Rattle.m2_frame.specs.declared.view.FrameView.{FrameView}
use Rattle.m2_frame.specs.Frame.{Parts}

abbrev pub parts_seen : FrameView → Parts
parts_seen v = record { tag = v.tag; first = v.first.now; second = v.second.now; third = v.third.now; fourth = v.fourth.now }
