-- No two kinds have one number.
use Rattle.std.proofs.Common.{◌≡◌, refl, arith}
use Rattle.m2_scenario.specs.declared.kind.Kind.{Kind}
use Rattle.m2_scenario.specs.declared.kind.Kind.TheVariants as kind
use Rattle.m2_scenario.specs.Kind.{number_of_kind}

pub numbers_differ : (j k : Kind) → number_of_kind j ≡ number_of_kind k → j ≡ k
numbers_differ kind.Unknown kind.Unknown e = refl
numbers_differ kind.Words kind.Words e = refl
numbers_differ kind.Number kind.Number e = refl
numbers_differ kind.Name kind.Name e = refl
numbers_differ kind.NoNode kind.NoNode e = refl
numbers_differ kind.Taken kind.Taken e = refl
numbers_differ kind.Address kind.Address e = refl
numbers_differ kind.Policy kind.Policy e = refl
numbers_differ kind.Link kind.Link e = refl
numbers_differ kind.Hex kind.Hex e = refl
numbers_differ kind.Mode kind.Mode e = refl
numbers_differ kind.Limit kind.Limit e = refl
numbers_differ j k e = absurd (omega (arith, e))
