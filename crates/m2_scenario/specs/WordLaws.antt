-- What holds of kinds.
use Rattle.std.specs.Prelude.{◌≡◌}
use Rattle.m2_scenario.specs.declared.kind.Kind.{Kind}
use Rattle.m2_scenario.specs.Kind.{number_of_kind}

-- a number names one kind
abbrev pub NumbersDiffer : Type 0
NumbersDiffer = (j k : Kind) → number_of_kind j ≡ number_of_kind k → j ≡ k
