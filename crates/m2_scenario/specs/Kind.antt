-- The kinds of badness by their numbers, as docs/SCENARIOS.md has them.
use Rattle.std.specs.Prelude.{ℕ}
use Rattle.m2_scenario.specs.declared.kind.Kind.{Kind}
use Rattle.m2_scenario.specs.declared.kind.Kind.TheVariants as kind

abbrev pub number_of_kind : Kind → ℕ
number_of_kind kind.Unknown = 1
number_of_kind kind.Words = 2
number_of_kind kind.Number = 3
number_of_kind kind.Name = 4
number_of_kind kind.NoNode = 5
number_of_kind kind.Taken = 6
number_of_kind kind.Address = 7
number_of_kind kind.Policy = 8
number_of_kind kind.Link = 9
number_of_kind kind.Hex = 10
number_of_kind kind.Mode = 11
number_of_kind kind.Limit = 12
