-- The number at the socket's place rises, or there is none.
use Rattle.std.proofs.Common.{arith}
use Rattle.std.proofs.lemmas.List.{get_or_read}
use Rattle.m2_weave.proofs.Tallies.{none_risen, risen_so}
use Rattle.m2_weave.proofs.table.SocketNames.raise.Goals as goal

pub returns-then-place-len-clause-risen : goal.returns-then-place-len-clause-risen
returns-then-place-len-clause-risen c =
    none_risen c.args.self.now c.args.numbers.now.items c.args.socket.now c.args.amount (omega (arith, c.place-place.ensures, c.len.ensures))

pub returns-clause-risen : goal.returns-clause-risen
returns-clause-risen c =
    risen_so c.args.self.now c.args.numbers.now.items c.args.socket.now c.args.amount c.place-place.result c.index-number.result.now
    c.place-place.ensures
    (get_or_read c.args.numbers.now.items c.place-place.result c.index-number.result.now (omega (arith, c.len.ensures)) c.index-number.ensures 0)
    (omega arith)
