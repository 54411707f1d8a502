use Rattle.std.proofs.Common.{ℕ, List, ◌++◌}
use Rattle.std.specs.Int.{w16, w64, to_le_bytes}
use Rattle.m2_control.specs.Banner.{magic}
use Rattle.m2_control.proofs.Wrote.{Wrote, started, then}
use Rattle.m2_control.proofs.banner.write_banner.Goals as goal

pub returns : goal.returns
returns c =
    let t0 : List ℕ = magic in
    let s0 : Wrote c.args.out.now c.push_all.new.self t0 = started c.args.out.now c.reserve.new.self c.push_all.new.self t0 c.in_ok-reserve.ensures.bytes c.in_ok-reserve.ensures.grows c.in_ok-push_all.ensures in
    let t1 : List ℕ = to_le_bytes w16 16 in
    let s1 : Wrote c.args.out.now c.put_u16.new.out (t0 ++ t1) = then c.args.out.now c.push_all.new.self c.put_u16.new.out (t0) t1 s0 c.in_ok-put_u16.ensures in
    let t2 : List ℕ = to_le_bytes w64 c.args.b.now.supported in
    let s2 : Wrote c.args.out.now c.put_u64.new.out ((t0 ++ t1) ++ t2) = then c.args.out.now c.put_u16.new.out c.put_u64.new.out ((t0 ++ t1)) t2 s1 c.in_ok-put_u64.ensures in
    let t3 : List ℕ = to_le_bytes w64 c.args.b.now.required in
    let s3 : Wrote c.args.out.now c.put_u64-2.new.out (((t0 ++ t1) ++ t2) ++ t3) = then c.args.out.now c.put_u64.new.out c.put_u64-2.new.out (((t0 ++ t1) ++ t2)) t3 s2 c.in_ok-put_u64-2.ensures in
    s3
