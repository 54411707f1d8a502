use Rattle.std.proofs.Common.{refl, ap, length, arith}
use Rattle.std.proofs.lemmas.List.{length-take}
use Rattle.m2_addr.proofs.Shape.{is_shape, takes_shape}
use Rattle.m2_addr.specs.Shape.{shape}
use Rattle.m2_addr.proofs.reading.read_parts.Goals as goal

pub returns-clause-found : goal.returns-clause-found
returns-clause-found c =
    let s = shape (record { version = c.in_ok-version.version; rest = c.in_ok-rest.rest; kind = c.in_ok-kind.kind; nonce = c.in_ok-kind.nonce; socket = c.in_ok-kind.socket }) in
    let is = is_shape s c.in_ok-version.version c.in_ok-version.length c.in_ok-rest.rest.now c.read_body.ensures.bytes c.in_ok-kind.ensures.exact refl refl (omega (arith, c.in_ok-rest.ensures.0, ap length c.in_ok-rest.ensures.1, length-take c.in_ok-version.length c.read_head.new.r)) c.in_ok-version.ensures.fits.1 c.in_ok-version.ensures.fits.0 c.in_ok-version.ensures.fits.2 c.in_ok-version.ensures.fits.3 in
    takes_shape c.args.r.now c.read_head.new.r c.take.new.self c.in_ok-version.version c.in_ok-version.length s is c.in_ok-version.ensures.text c.in_ok-rest.ensures.0 refl c.in_ok-rest.ensures.1 c.in_ok-rest.ensures.2
