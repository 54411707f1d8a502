use Rattle.std.proofs.Common.{◌≡◌, ◌≤◌, ◌∙◌, ap, sym, drop, take, length, arith, false}
use Rattle.m2_frame.specs.Reading.{first_len, first_is_right}
use Rattle.m2_frame.specs.Judging.{first_part}
use Rattle.m2_frame.proofs.Judge.{opens_short, opens_wrong}
use Rattle.m2_frame.proofs.judging.opening_of.Goals as goal

pub returns-then-body-len : goal.returns-then-body-len
returns-then-body-len c =
    let body : length c.split_at.result.1.now ≡ length (drop 32 c.args.rest.now) = ap length c.split_at.ensures.back in
    opens_short c.args.rest.now c.args.p.now c.requires (omega (arith, body, c.if-body-len.true, c.len_of_first-len.ensures.value))

pub returns-else-is_first_right : goal.returns-else-is_first_right
returns-else-is_first_right c =
    let rest = c.args.rest.now in
    let p = c.args.p.now in
    let body : length c.split_at.result.1.now ≡ length (drop 32 rest) = ap length c.split_at.ensures.back in
    let whole : first_len p ≤ length (drop 32 rest) = omega (arith, body, c.if-body-len.false, c.len_of_first-len.ensures.value) in
    let first : c.split_at-2.result.0.now ≡ first_part p rest =
    c.split_at-2.ensures.front ∙ ap (λ b. take c.len_of_first-len.result b) c.split_at.ensures.back ∙ ap (λ n. take n (drop 32 rest)) c.len_of_first-len.ensures.value in
    let wrong : first_is_right p (first_part p rest) ≡ false = ap (first_is_right p) (sym first) ∙ sym c.is_first_right.ensures ∙ c.if-is_first_right.false in
    opens_wrong rest p c.requires whole wrong
