use Rattle.std.proofs.Common.{◌∙◌, [], ◌∷◌, ◌++◌, Ok, Option, None, subst}
use Rattle.m2_handshake.specs.declared.ask.Ask.{Ask}
use Rattle.m2_handshake.specs.Asking.{AskAdvances}
use Rattle.m2_handshake.specs.Moves.{ask_move_of}
use Rattle.m2_handshake.proofs.Path.{then_quietly}
use Rattle.m2_handshake.proofs.half.Half.ask.Goals as goal

pub moves-preserved : goal.moves-preserved
moves-preserved c =
    let before = c.moves.self.standing in
    let after = c.advance_ask.new.self.standing in
    let went : AskAdvances (Ok None) before after = subst (λ (o : Option Ask). AskAdvances (Ok o) before after) c.in-Ok-None.field-0-is c.in-Ok-None.ensures.exact in
    record {
      passed = (
        c.moves.invariant.passed.0 ++ c.advance_ask.new.self.standing ∷ [],
        then_quietly ask_move_of c.moves.invariant.passed.0 c.args.self.now.standing c.moves.self.standing c.advance_ask.new.self.standing c.moves.invariant.passed.1 went,
      );
      acceptor = c.advance_ask.ensures.side_stays ∙ c.moves.invariant.acceptor;
    }
