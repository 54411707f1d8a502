-- `cut A B BYTES`, and the lines of `sim` alone: `turn A`, `flow A B` or `flow A B SOCKET BYTES`,
-- `fault A B` or `fault A B SOCKET`, and `settle N`.
use Rattle.std.specs.Prelude.{ℕ, ◌+◌, ◌==◌, nat_le, nat_lt, not, List, [], ◌∷◌, length, drop, count_by, sum_by, Result, Ok}
use Rattle.m2_scenario.specs.Text.{Word, word}
use Rattle.m2_scenario_text.specs.declared.flaw.Flaw.{Flaw}
use Rattle.m2_scenario_text.specs.declared.flaw.Wanted.TheVariants as wanted
use Rattle.m2_scenario_text.specs.Flaw.{◌>>=◌, counted, number_at, want, want_first}
use Rattle.m2_scenario_text.specs.Pair.{place_of, pair_of}
use Rattle.m2_scenario.specs.declared.limits.TheConstants.{MOST_CUTS, MOST_BYTES_BEFORE_CUT, MOST_FAULTS, MOST_ROUNDS}
use Rattle.m2_scenario_text.specs.declared.sim_lines.TheConstants.{MOST_ROUNDS_OF_A_LINE}
use Rattle.m2_scenario.specs.Draft.{Draft, with_line, is_cut, is_fault, rounds_of, cut, turn, flow, fault, settle}

unfoldable pub cut_line : Draft → List Word → Result Draft Flaw
cut_line d ws = do
  _ ← counted 3 3 ws
  bytes ← number_at 2 0 18446744073709551615 (word ws 2)
  pair ← pair_of d (word ws 0) (word ws 1)
  _ ← want 2 wanted.EarlierCut (nat_le bytes MOST_BYTES_BEFORE_CUT)
  _ ← want_first wanted.FewerCuts (nat_lt (count_by is_cut d.lines) MOST_CUTS)
  Ok (with_line d (cut pair.0 pair.1 bytes))

unfoldable pub turn_line : Draft → List Word → Result Draft Flaw
turn_line d ws = do
  _ ← counted 1 1 ws
  a ← place_of 0 d.nodes (word ws 0)
  Ok (with_line d (turn a))

-- the socket and the bytes of a flow: all of all sockets where no word is left
unfoldable pub flow_of : List Word → Result (ℕ × ℕ) Flaw
flow_of [] = Ok (0, 18446744073709551615)
flow_of (w ∷ ws) = do
  socket ← number_at 2 1 4294967295 w
  most ← number_at 3 0 18446744073709551615 (word ws 0)
  Ok (socket, most)

unfoldable pub flow_line : Draft → List Word → Result Draft Flaw
flow_line d ws = do
  _ ← counted 2 4 ws
  _ ← want 3 wanted.MoreWords (not (length ws == 3))
  what ← flow_of (drop 2 ws)
  pair ← pair_of d (word ws 0) (word ws 1)
  Ok (with_line d (flow pair.0 pair.1 what.0 what.1))

-- the socket of a fault: the newest, which is said by 0, where no word is left
unfoldable pub fault_of : List Word → Result ℕ Flaw
fault_of [] = Ok 0
fault_of (w ∷ ws) = number_at 2 1 4294967295 w

unfoldable pub fault_line : Draft → List Word → Result Draft Flaw
fault_line d ws = do
  _ ← counted 2 3 ws
  socket ← fault_of (drop 2 ws)
  pair ← pair_of d (word ws 0) (word ws 1)
  _ ← want_first wanted.FewerFaults (nat_lt (count_by is_fault d.lines) MOST_FAULTS)
  Ok (with_line d (fault pair.0 pair.1 socket))

unfoldable pub settle_line : Draft → List Word → Result Draft Flaw
settle_line d ws = do
  _ ← counted 1 1 ws
  rounds ← number_at 0 1 MOST_ROUNDS_OF_A_LINE (word ws 0)
  _ ← want 0 wanted.FewerRounds (nat_le (sum_by rounds_of d.lines + rounds) MOST_ROUNDS)
  Ok (with_line d (settle rounds))
