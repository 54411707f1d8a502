use Rattle.std.proofs.Common.{◌≡◌, ℕ, ◌<◌, length}
use Rattle.std.specs.Prelude.{slice_index}
use Rattle.m2_control.specs.Banner.{magic}
use Rattle.m2_control.proofs.banner.is_ceph.Given as goal

abbrev pub invariant-bytes : goal.invariant-bytes
invariant-bytes l = (k : ℕ) → k < l.i → k < length l.bytes → slice_index l.bytes k ≡ slice_index magic k
