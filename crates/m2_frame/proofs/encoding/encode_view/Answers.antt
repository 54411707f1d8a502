use Rattle.std.proofs.Common.{◌≡◌, ◌+◌, ◌≤◌, ◌++◌, length, ap, ◌∙◌, arith, append_assoc}
use Rattle.std.proofs.lemmas.List.{length-append}
use Rattle.std.proofs.lemmas.Result.{err_from_is_err_and}
use Rattle.m2_frame.specs.View.{parts_seen}
use Rattle.m2_frame.specs.Preamble.{preamble_of, preamble_text}
use Rattle.m2_frame.specs.Text.{text_of, first_text, later_text}
use Rattle.m2_frame.proofs.Lengths.{length-text_of, length-preamble_text}
use Rattle.m2_frame.proofs.Room.{Appends-then, Appends-no_room}
use Rattle.m2_frame.proofs.encoding.encode_view.Goals as goal

pub returns-in_err-reserve : goal.returns-in_err-reserve
returns-in_err-reserve c =
    let f = parts_seen c.args.f.now in
    let p = err_from_is_err_and c.from_residual.result c.from_residual.ensures.1 in
    let first : c.first_len.result ≡ length (first_text f.first) = c.first_len.ensures in
    let whole : 32 + c.first_len.result + c.later_len.result ≡ length (text_of f) = omega (arith, length-text_of f, first, c.later_len.ensures) in
    rw p.1 (Appends-no_room p.0 c.args.out.now c.reserve.new.self (text_of f) (32 + c.first_len.result + c.later_len.result) whole c.in_err-reserve.ensures.bytes c.in_err-reserve.ensures.grows c.in_err-reserve.ensures.succeeds)

pub returns : goal.returns
unfolding text_of
returns c =
    let f = parts_seen c.args.f.now in
    let old = c.args.out.now in
    let mid = c.put_first.new.out in
    let front = preamble_text (preamble_of f) in
    let wrote : c.write.result ≡ front = c.write.ensures ∙ ap preamble_text c.seen.ensures in
    let front_len : length c.write.result ≡ 32 = ap length wrote ∙ length-preamble_text (preamble_of f) in
    let reserved : c.first_len.result ≡ length (first_text f.first) = c.first_len.ensures in
    let bytes : mid.bytes ≡ old.bytes ++ (front ++ first_text f.first) =
    rw (c.in_ok-put_first.ensures.0, c.in_ok-push_all.ensures.0, c.in_ok-reserve.ensures.bytes, wrote) (append_assoc old.bytes front (first_text f.first)) in
    let len : length (front ++ first_text f.first) ≡ 32 + length (first_text f.first) = length-append front (first_text f.first) ∙ ap (λ n. n + length (first_text f.first)) (length-preamble_text (preamble_of f)) in
    let a : c.reserve.new.self.room ≤ c.push_all.new.self.room + length c.write.result = c.in_ok-push_all.ensures.1 in
    let b : c.push_all.new.self.room ≤ mid.room + length (first_text f.first) = c.in_ok-put_first.ensures.1 in
    let r : 32 + c.first_len.result + c.later_len.result ≤ c.reserve.new.self.room = c.in_ok-reserve.ensures.room in
    let g : old.room ≤ c.reserve.new.self.room = c.in_ok-reserve.ensures.grows in
    let l : c.later_len.result ≡ length (later_text f) = c.later_len.ensures in
    let room : old.room ≤ mid.room + length (front ++ first_text f.first) = omega (arith, len, a, b, g, front_len) in
    let left : length (later_text f) ≤ mid.room = omega (arith, a, b, r, l, front_len, reserved) in
    Appends-then c.put_later.result old mid c.put_later.new.out (front ++ first_text f.first) (later_text f) bytes room left c.put_later.ensures
