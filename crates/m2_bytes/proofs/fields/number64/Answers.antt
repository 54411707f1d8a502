-- The bytes of a field are below 256, so the number that they make spells them again.
use Rattle.std.proofs.Common.{arith, rules}
use Rattle.std.proofs.lemmas.Nat.{le_bytes_8}
use Rattle.m2_bytes.proofs.fields.number64.Goals as goal

pub returns-clause-written : goal.returns-clause-written
returns-clause-written c = le_bytes_8 c.args.field.now _ c.requires (λ i. omega (arith, c.type_inv.field i)) (search rules)
