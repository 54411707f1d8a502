use Rattle.std.proofs.Common.{◌∙◌, [], ◌∷◌, ◌++◌, Ok, subst}
use Rattle.m2_handshake.specs.declared.progress.Progress.{Progress}
use Rattle.m2_handshake.specs.declared.progress.Progress.TheVariants.{On}
use Rattle.m2_handshake.specs.Half.{Advances, StaysSigned, writer}
use Rattle.m2_handshake.specs.Moves.{move_of}
use Rattle.m2_handshake.proofs.Granting.{signed_on}
use Rattle.m2_handshake.proofs.Path.{then_quietly}
use Rattle.m2_handshake.proofs.half.Half.next.Goals as goal

pub moves-preserved : goal.moves-preserved
moves-preserved c =
    let before = writer c.moves.self c.moves.out in
    let after = writer c.advance.new.self c.advance.new.out in
    let went : Advances (Ok On) before after = subst (λ (p : Progress). Advances (Ok p) before after) c.in-Ok-On.field-0-is c.in-Ok-On.ensures.exact in
    let kept : StaysSigned c.moves.self c.advance.new.self = λ q. (c.advance.ensures.signed q).1 in
    record {
      passed = (
        c.moves.invariant.passed.0 ++ c.advance.new.self.standing ∷ [],
        then_quietly move_of c.moves.invariant.passed.0 c.args.self.now.standing c.moves.self.standing c.advance.new.self.standing c.moves.invariant.passed.1 went.0,
      );
      unwritten = went.1 ∙ c.moves.invariant.unwritten;
      signed = signed_on c.args.self.now c.moves.self c.advance.new.self c.moves.invariant.signed kept;
    }
