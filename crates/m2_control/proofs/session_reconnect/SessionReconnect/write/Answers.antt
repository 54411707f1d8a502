use Rattle.std.proofs.Common.{ℕ, List, ◌++◌}
use Rattle.std.specs.Int.{w64, to_le_bytes}
use Rattle.m2_addr.specs.Vector.{vector_text}
use Rattle.m2_control.proofs.Wrote.{Wrote, started, then}
use Rattle.m2_control.proofs.session_reconnect.SessionReconnect.write.Goals as goal

pub returns : goal.returns
returns c =
    let t0 : List ℕ = vector_text c.args.self.now.addrs in
    let s0 : Wrote c.args.out.now c.write.new.out t0 = started c.args.out.now c.reserve.new.self c.write.new.out t0 c.in_ok-reserve.ensures.bytes c.in_ok-reserve.ensures.grows c.in_ok-write.ensures.text in
    let t1 : List ℕ = to_le_bytes w64 c.args.self.now.client in
    let s1 : Wrote c.args.out.now c.put_u64.new.out (t0 ++ t1) = then c.args.out.now c.write.new.out c.put_u64.new.out (t0) t1 s0 c.in_ok-put_u64.ensures in
    let t2 : List ℕ = to_le_bytes w64 c.args.self.now.server in
    let s2 : Wrote c.args.out.now c.put_u64-2.new.out ((t0 ++ t1) ++ t2) = then c.args.out.now c.put_u64.new.out c.put_u64-2.new.out ((t0 ++ t1)) t2 s1 c.in_ok-put_u64-2.ensures in
    let t3 : List ℕ = to_le_bytes w64 c.args.self.now.global in
    let s3 : Wrote c.args.out.now c.put_u64-3.new.out (((t0 ++ t1) ++ t2) ++ t3) = then c.args.out.now c.put_u64-2.new.out c.put_u64-3.new.out (((t0 ++ t1) ++ t2)) t3 s2 c.in_ok-put_u64-3.ensures in
    let t4 : List ℕ = to_le_bytes w64 c.args.self.now.connect in
    let s4 : Wrote c.args.out.now c.put_u64-4.new.out ((((t0 ++ t1) ++ t2) ++ t3) ++ t4) = then c.args.out.now c.put_u64-3.new.out c.put_u64-4.new.out ((((t0 ++ t1) ++ t2) ++ t3)) t4 s3 c.in_ok-put_u64-4.ensures in
    let t5 : List ℕ = to_le_bytes w64 c.args.self.now.seen in
    let s5 : Wrote c.args.out.now c.put_u64-5.new.out (((((t0 ++ t1) ++ t2) ++ t3) ++ t4) ++ t5) = then c.args.out.now c.put_u64-4.new.out c.put_u64-5.new.out (((((t0 ++ t1) ++ t2) ++ t3) ++ t4)) t5 s4 c.in_ok-put_u64-5.ensures in
    s5
