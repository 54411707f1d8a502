use Rattle.std.proofs.Common.{rules, ◌≡◌, ℕ, List, ◌++◌, ap}
use Rattle.std.specs.Int.{w64, cast_unsigned}
use Rattle.m2_addr.specs.Vector.{vector_text}
use Rattle.m2_addr.specs.Addr.{ipv4_text}
use Rattle.m2_control.specs.Ident.{tail_text}
use Rattle.m2_control.proofs.Wrote.{tail_of}
use Rattle.m2_control.proofs.Wrote.{Wrote, started, then, instead}
use Rattle.m2_control.proofs.client_ident.ClientIdent.write.Goals as goal

pub returns : goal.returns
returns c =
    let bits : c.cast_unsigned.result ≡ cast_unsigned w64 c.args.self.now.gid = search rules in
    let t0 : List ℕ = vector_text c.args.self.now.addrs in
    let s0 : Wrote c.args.out.now c.write.new.out t0 = started c.args.out.now c.reserve.new.self c.write.new.out t0 c.in_ok-reserve.ensures.bytes c.in_ok-reserve.ensures.grows c.in_ok-write.ensures.text in
    let t1 : List ℕ = ipv4_text c.args.self.now.target in
    let s1 : Wrote c.args.out.now c.write_addr.new.out (t0 ++ t1) = then c.args.out.now c.write.new.out c.write_addr.new.out (t0) t1 s0 c.in_ok-write_addr.ensures.text in
    let t2 : List ℕ = tail_text (record { gid = c.args.self.now.gid; global = c.args.self.now.global; supported = c.args.self.now.supported; required = c.args.self.now.required; flags = c.args.self.now.flags; cookie = c.args.self.now.cookie }) in
    let s2 : Wrote c.args.out.now c.put_words.new.out ((t0 ++ t1) ++ t2) = then c.args.out.now c.write_addr.new.out c.put_words.new.out ((t0 ++ t1)) t2 s1 (instead c.write_addr.new.out c.put_words.new.out _ t2 (ap (λ (n : ℕ). tail_of n c.args.self.now.global c.args.self.now.supported c.args.self.now.required c.args.self.now.flags c.args.self.now.cookie) bits) c.in_ok-put_words.ensures) in
    s2
