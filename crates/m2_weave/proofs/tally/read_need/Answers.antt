-- By whether the two pieces are the same.
use Rattle.std.proofs.Common.{◌≡◌, ◌+◌, ◌∙◌, length, not, refl, sym, ap, true≢false, arith}
use Rattle.std.proofs.lemmas.Bool.Decides.{nat_tests}
use Rattle.m2_weave.specs.declared.counted.Need.TheVariants.{AtLeast}
use Rattle.m2_weave.specs.Counting.{side_number}
use Rattle.m2_weave.proofs.Tallies.{Found, need_never, need_least}
use Rattle.m2_weave.proofs.tally.read_need.Goals as goal

pub returns-then-same : goal.returns-then-same
returns-then-same c =
    let f : Found c.args.sockets.now c.args.socket.now c.args.opener c.args.from c.args.count c.named_place-place.result c.got_at.result.now c.put_at.result.now
    c.piece-bytes.result.now c.piece-there.result.now = record {
      place_is = c.named_place-place.ensures.place;
      got_is = c.got_at.ensures;
      put_is = c.put_at.ensures;
      bytes_are = c.piece-bytes.ensures;
      there_are = c.piece-there.ensures;
    } in
    let some : length c.piece-bytes.result.now ≡ 0 → ⊥ = λ z. grind (arith, nat_tests, z) in
    ap (λ n. AtLeast n (c.args.from + length c.piece-bytes.result.now)) c.writes-counter.ensures
    ∙ need_least c.args.sockets.now c.args.socket.now c.args.opener c.args.from c.args.count c.named_place-place.result (side_number (not c.args.opener))
    c.got_at.result.now c.put_at.result.now c.piece-bytes.result.now c.piece-there.result.now f (c.is_same-same.ensures.0 c.if-same.true) some refl

pub returns : goal.returns
returns c =
    let f : Found c.args.sockets.now c.args.socket.now c.args.opener c.args.from c.args.count c.named_place-place.result c.got_at.result.now c.put_at.result.now
    c.piece-bytes.result.now c.piece-there.result.now = record {
      place_is = c.named_place-place.ensures.place;
      got_is = c.got_at.ensures;
      put_is = c.put_at.ensures;
      bytes_are = c.piece-bytes.ensures;
      there_are = c.piece-there.ensures;
    } in
    need_never c.args.sockets.now c.args.socket.now c.args.opener c.args.from c.args.count c.named_place-place.result c.got_at.result.now
    c.put_at.result.now c.piece-bytes.result.now c.piece-there.result.now f (λ e. true≢false (sym (c.is_same-same.ensures.1 e) ∙ c.if-same.false))
