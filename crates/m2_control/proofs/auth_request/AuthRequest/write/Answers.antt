use Rattle.std.proofs.Common.{ℕ, List, ◌++◌, ap}
use Rattle.std.specs.Int.{w32, to_le_bytes}
use Rattle.m2_control.specs.Fields.{list_text, string_text}
use Rattle.m2_control.proofs.Wrote.{Wrote, started, then, instead}
use Rattle.m2_control.proofs.auth_request.AuthRequest.write.Goals as goal

pub returns : goal.returns
returns c =
    let t0 : List ℕ = to_le_bytes w32 c.args.self.now.method in
    let s0 : Wrote c.args.out.now c.put_u32.new.out t0 = started c.args.out.now c.reserve.new.self c.put_u32.new.out t0 c.in_ok-reserve.ensures.bytes c.in_ok-reserve.ensures.grows c.in_ok-put_u32.ensures in
    let t1 : List ℕ = list_text c.args.self.now.modes.items in
    let s1 : Wrote c.args.out.now c.put_numbers.new.out (t0 ++ t1) = then c.args.out.now c.put_u32.new.out c.put_numbers.new.out (t0) t1 s0 (instead c.put_u32.new.out c.put_numbers.new.out _ t1 (ap list_text c.as_slice-modes.ensures) c.in_ok-put_numbers.ensures) in
    let t2 : List ℕ = string_text c.args.self.now.payload.bytes in
    let s2 : Wrote c.args.out.now c.put_string.new.out ((t0 ++ t1) ++ t2) = then c.args.out.now c.put_numbers.new.out c.put_string.new.out ((t0 ++ t1)) t2 s1 (instead c.put_numbers.new.out c.put_string.new.out _ t2 (ap string_text c.as_slice-payload.ensures) c.in_ok-put_string.ensures) in
    s2
