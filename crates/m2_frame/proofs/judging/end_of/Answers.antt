use Rattle.std.proofs.Common.{◌≡◌, ◌∙◌, ap, drop, take, length, arith}
use Rattle.m2_frame.specs.Reading.{first_len, judge_rest}
use Rattle.m2_frame.specs.Judging.{later_part}
use Rattle.m2_frame.proofs.Judge.{ends_short, ends_whole}
use Rattle.m2_frame.proofs.judging.end_of.Goals as goal

pub returns-then-after-len : goal.returns-then-after-len
returns-then-after-len c =
    let rest = c.args.rest.now in
    let p = c.args.p.now in
    let after : c.split_at-2.result.1.now ≡ drop (first_len p) (drop 32 rest) =
    c.split_at-2.ensures.back ∙ ap (λ b. drop c.len_of_first.result b) c.split_at.ensures.back ∙ ap (λ n. drop n (drop 32 rest)) c.len_of_first.ensures.value in
    let len : length c.split_at-2.result.1.now ≡ length (drop (first_len p) (drop 32 rest)) = ap length after in
    ends_short rest p c.requires (omega (arith, len, c.if-after-len.true, c.len_of_later-len.ensures.value))

pub returns : goal.returns
returns c =
    let rest = c.args.rest.now in
    let p = c.args.p.now in
    let after : c.split_at-2.result.1.now ≡ drop (first_len p) (drop 32 rest) =
    c.split_at-2.ensures.back ∙ ap (λ b. drop c.len_of_first.result b) c.split_at.ensures.back ∙ ap (λ n. drop n (drop 32 rest)) c.len_of_first.ensures.value in
    let len : length c.split_at-2.result.1.now ≡ length (drop (first_len p) (drop 32 rest)) = ap length after in
    let later : c.split_at-3.result.0.now ≡ later_part p rest =
    c.split_at-3.ensures.front ∙ ap (λ b. take c.len_of_later-len.result b) after ∙ ap (λ n. take n (drop (first_len p) (drop 32 rest))) c.len_of_later-len.ensures.value in
    ends_whole rest p c.judged_rest.result c.requires (omega (arith, len, c.if-after-len.false, c.len_of_later-len.ensures.value)) (c.judged_rest.ensures ∙ ap (judge_rest p) later)
