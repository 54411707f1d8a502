use Rattle.std.proofs.Common.{◌≡◌, drop, rules}
use Rattle.m2_shared.specs.Gates.{places}
use Rattle.m2_dispatch.specs.Waiting.{letters_in}
use Rattle.m2_dispatch.proofs.Letters.{owned-drop}
use Rattle.m2_dispatch.proofs.Ordered.{greatest_first}
use Rattle.m2_dispatch.proofs.dispatch.Dispatch.turn.Goals as goal

pub returns-then-is_err-clause-greatest : goal.returns-then-is_err-clause-greatest
returns-then-is_err-clause-greatest g c = rw (← c.self.view_is) (greatest_first c.self.inside.waiting.items c.self.invariant)

pub returns-in-Ok-clause-greatest : goal.returns-in-Ok-clause-greatest
returns-in-Ok-clause-greatest g c = rw (← c.self.view_is) (greatest_first c.self.inside.waiting.items c.self.invariant)

pub returns-in-Ok-clause-letters : goal.returns-in-Ok-clause-letters
returns-in-Ok-clause-letters g c =
    let rest : letters_in c.take.new.waiting.items ≡ drop 1 c.args.self.now.waiting = search rules in
    rw rest (owned-drop (places c.args.throttles.now) c.args.self.now.waiting c.requires.letters)

pub returns-in-Err-clause-greatest : goal.returns-in-Err-clause-greatest
returns-in-Err-clause-greatest g c = rw (← c.self.view_is) (greatest_first c.self.inside.waiting.items c.self.invariant)

pub returns-in-Err-clause-letters : goal.returns-in-Err-clause-letters
returns-in-Err-clause-letters g c =
    let same : letters_in c.put_back.new.waiting.items ≡ c.args.self.now.waiting = search rules in
    rw same c.requires.letters
