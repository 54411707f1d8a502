use Rattle.m2_history.proofs.Whole.{never_reset}
use Rattle.m2_history.proofs.woven_laws.woven_is_never_reset.Goals as goal

pub returns : goal.returns
returns c = never_reset c.woven_bytes_fit.ensures c.bytes_give_fits.ensures c.lossless_bytes_are_never_reset.ensures
