use Rattle.std.proofs.Common.{rules, ◌≡◌, ℕ, List, ◌++◌, ap}
use Rattle.std.specs.Int.{w32, to_le_bytes, cast_unsigned}
use Rattle.m2_control.specs.Fields.{list_text}
use Rattle.m2_control.proofs.Wrote.{Wrote, started, then, instead}
use Rattle.m2_control.proofs.auth_bad_method.AuthBadMethod.write.Goals as goal

pub returns : goal.returns
returns c =
    let bits : c.cast_unsigned.result ≡ cast_unsigned w32 c.args.self.now.outcome = search rules in
    let t0 : List ℕ = to_le_bytes w32 c.args.self.now.method in
    let s0 : Wrote c.args.out.now c.put_u32.new.out t0 = started c.args.out.now c.reserve.new.self c.put_u32.new.out t0 c.in_ok-reserve.ensures.bytes c.in_ok-reserve.ensures.grows c.in_ok-put_u32.ensures in
    let t1 : List ℕ = to_le_bytes w32 (cast_unsigned w32 c.args.self.now.outcome) in
    let s1 : Wrote c.args.out.now c.put_u32-2.new.out (t0 ++ t1) = then c.args.out.now c.put_u32.new.out c.put_u32-2.new.out (t0) t1 s0 (instead c.put_u32.new.out c.put_u32-2.new.out _ t1 (ap (to_le_bytes w32) bits) c.in_ok-put_u32-2.ensures) in
    let t2 : List ℕ = list_text c.args.self.now.methods.items in
    let s2 : Wrote c.args.out.now c.put_numbers.new.out ((t0 ++ t1) ++ t2) = then c.args.out.now c.put_u32-2.new.out c.put_numbers.new.out ((t0 ++ t1)) t2 s1 (instead c.put_u32-2.new.out c.put_numbers.new.out _ t2 (ap list_text c.as_slice-methods.ensures) c.in_ok-put_numbers.ensures) in
    let t3 : List ℕ = list_text c.args.self.now.modes.items in
    let s3 : Wrote c.args.out.now c.put_numbers-2.new.out (((t0 ++ t1) ++ t2) ++ t3) = then c.args.out.now c.put_numbers.new.out c.put_numbers-2.new.out (((t0 ++ t1) ++ t2)) t3 s2 (instead c.put_numbers.new.out c.put_numbers-2.new.out _ t3 (ap list_text c.as_slice-modes.ensures) c.in_ok-put_numbers-2.ensures) in
    s3
