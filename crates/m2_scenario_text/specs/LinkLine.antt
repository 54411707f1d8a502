-- `link A B POLICY POLICY`: A's policy, then B's.
use Rattle.std.specs.Prelude.{◌==◌, nat_lt, not, List, length, Result, Ok}
use Rattle.m2_policy.specs.Policy.{allows}
use Rattle.m2_scenario.specs.Text.{Word, word}
use Rattle.m2_scenario.specs.declared.limits.TheConstants.{MOST_LINKS}
use Rattle.m2_scenario.specs.Draft.{Draft, with_link, are_joined}
use Rattle.m2_scenario_text.specs.declared.flaw.Flaw.{Flaw}
use Rattle.m2_scenario_text.specs.declared.flaw.Wanted.TheVariants as wanted
use Rattle.m2_scenario_text.specs.Flaw.{◌>>=◌, counted, or_want, want, want_first}
use Rattle.m2_scenario_text.specs.Vocabulary.{policy_of}
use Rattle.m2_scenario_text.specs.Pair.{place_of}

unfoldable pub link_line : Draft → List Word → Result Draft Flaw
link_line d ws = do
  _ ← counted 4 4 ws
  of_a ← or_want 2 wanted.PolicyName (policy_of (word ws 2))
  of_b ← or_want 3 wanted.PolicyName (policy_of (word ws 3))
  _ ← want 3 wanted.FittingPolicy (allows of_a of_b)
  a ← place_of 0 d.nodes (word ws 0)
  b ← place_of 1 d.nodes (word ws 1)
  _ ← want 1 wanted.OtherNode (not (a == b))
  _ ← want 1 wanted.UnlinkedNode (not (are_joined d.links a b))
  _ ← want_first wanted.FewerLinks (nat_lt (length d.links) MOST_LINKS)
  Ok (with_link d (record { a = a; b = b; of_a = of_a; of_b = of_b }))
