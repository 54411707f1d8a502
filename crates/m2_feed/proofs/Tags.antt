-- The tags that may come.
use Rattle.std.proofs.Common.{◌≡◌, ◌≢◌, true, false, refl}
use Rattle.m2_control.specs.Control.{takes_memory}
use Rattle.m2_session.specs.declared.session.Phase.{Phase}
use Rattle.m2_frame.specs.declared.tag.Tag.{Tag}
use Rattle.m2_frame.specs.declared.tag.Tag.TheVariants as tag
use Rattle.m2_feed.specs.FrameHeard.{may_come}

-- but for an ident they are read without memory
pub is_plain : (t : Tag) (p : Phase) → may_come t p ≡ true → t ≢ tag.ServerIdent → takes_memory t ≡ false
is_plain tag.ServerIdent p e n = absurd (n refl)
is_plain t p e n = cc
