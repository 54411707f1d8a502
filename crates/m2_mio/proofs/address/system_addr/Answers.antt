use Rattle.std.proofs.Common.{◌≡◌, ap, ◌∙◌, w32, refl, rules}
use Rattle.std.specs.Int.{from_be_bytes}
use Rattle.std.specs.Net.Addr.{ipv4_bits, IsIpv4OfBits}
use Rattle.std.proofs.lemmas.Nat.{from_be_bytes-to_be_bytes_4}
use Rattle.m2_mio.proofs.address.system_addr.Goals as goal

pub returns : goal.returns
unfolding ipv4_bits IsIpv4OfBits
returns c =
    let ip : ipv4_bits c.from_bits.result ≡ c.args.at.now.ip = ap (from_be_bytes w32) c.from_bits.ensures ∙ from_be_bytes-to_be_bytes_4 c.args.at.now.ip (search rules) in
    rw (c.new.ensures.ip, c.new.ensures.port, ip) refl
