-- The numbers on which what is promised of a file, of a load and of a turn rests. Definitions cite them by the names of the code's constants;
-- here they stand as docs/SCENARIOS.md and docs/PROTOCOL.md give them. This project's own.
use Rattle.std.specs.Prelude.{◌≡◌, ℕ, ◌+◌, ◌*◌, ◌/◌, ◌%◌, ◌^◌, ◌==◌, ◌&&◌, nat_lt, if◌then◌else◌, [], ◌∷◌, ◌++◌}
use Rattle.m2_scenario.specs.Draft.{settle}
use Rattle.m2_scenario.specs.Draws.{next_state}
use Rattle.m2_scenario.specs.Generated.{first_lines, generated, is_faulted, settle_by}
use Rattle.m2_scenario.specs.declared.limits.TheConstants.{MOST_BYTES_BEFORE_CUT, MOST_CENTERS, MOST_CUTS, MOST_FAULTS, MOST_LINKS, MOST_NODES, MOST_PART_BYTES, MOST_POSTS, MOST_ROUNDS, USUAL_LIMIT}
use Rattle.m2_scenario.specs.declared.word.TheConstants.{MOST_NAME_BYTES}
use Rattle.m2_scenario.specs.m2_dispatch.m2_shared.declared.limits.TheConstants.{LAST_NUMBER}
use Rattle.m2_scenario_text.specs.declared.lines.TheConstants.{MOST_THROTTLE}
use Rattle.m2_scenario_text.specs.declared.plan_lines.TheConstants.{LEAST_PRIORITY, MOST_PRIORITY}
use Rattle.m2_scenario_text.specs.declared.reading.TheConstants.{MOST_BYTES}
use Rattle.m2_scenario_text.specs.declared.run_lines.TheConstants.{MOST_LIMIT}
use Rattle.m2_scenario_text.specs.declared.sim_lines.TheConstants.{MOST_ROUNDS_OF_A_LINE}
use Rattle.m2_exact.specs.m2_script.m2_center.m2_feed.m2_control.declared.fields.TheConstants.{GREATEST_NUMBER}
use Rattle.m2_exact.specs.m2_script.m2_center.m2_turn.declared.accepting.TheConstants.{MOST_ACCEPTS}
use Rattle.m2_exact.specs.m2_script.m2_center.m2_turn.declared.half_turn.TheConstants.{MOST_ASKS}
use Rattle.m2_exact.specs.m2_script.m2_center.m2_turn.declared.outbox.TheConstants.{MOST_MAIL}
use Rattle.m2_exact.specs.m2_script.m2_center.m2_turn.declared.pending.TheConstants.{MOST_HALVES}
use Rattle.m2_exact.specs.m2_script.m2_center.m2_turn.declared.record_turn.TheConstants.{MOST_STEPS}

-- of a scenario file: bytes, milliseconds where it is a limit, and priorities
pub record OfFiles : Type 0 where
  pub file : MOST_BYTES ≡ 4194304
  pub nodes : MOST_NODES ≡ 16
  pub links : MOST_LINKS ≡ 120
  pub centers : MOST_CENTERS ≡ 4
  pub name : MOST_NAME_BYTES ≡ 16
  pub throttle : MOST_THROTTLE ≡ 402653184
  pub posts : MOST_POSTS ≡ 20000
  pub least_priority : LEAST_PRIORITY ≡ 64
  pub most_priority : MOST_PRIORITY ≡ 255
  pub part : MOST_PART_BYTES ≡ 65536
  pub cuts : MOST_CUTS ≡ 64
  pub before_cut : MOST_BYTES_BEFORE_CUT ≡ 1048576
  pub faults : MOST_FAULTS ≡ 64
  pub rounds_of_a_line : MOST_ROUNDS_OF_A_LINE ≡ 10000
  pub rounds : MOST_ROUNDS ≡ 20000
  pub most_limit : MOST_LIMIT ≡ 60000
  pub usual_limit : USUAL_LIMIT ≡ 10000

-- of a generated scenario: behind which posts there is a fault and a round, how many rounds come last, and how a draw's state goes on
pub record OfLoads : Type 0 where
  pub fault : (i : ℕ) → is_faulted i ≡ ((i % 16 == 15) && nat_lt (i / 16) 64)
  pub round : (i : ℕ) → settle_by i ≡ (if i % 8 == 7 then settle 1 ∷ [] else [])
  pub last_rounds : (posts seed : ℕ) → (generated posts seed).lines ≡ first_lines seed posts ++ settle 200 ∷ []
  pub state : (x : ℕ) → next_state x ≡ (x * 6364136223846793005 + 1442695040888963407) % 2 ^ 64

-- of a session, above which a record gives it up, and of global numbers; and of a turn: sockets accepted, asks of a half, steps of a record,
-- halves that stand, and parcels in the mail
pub record OfNodes : Type 0 where
  pub greatest : GREATEST_NUMBER ≡ 2 ^ 40
  pub last_number : LAST_NUMBER ≡ 2 ^ 40
  pub accepts : MOST_ACCEPTS ≡ 4096
  pub asks : MOST_ASKS ≡ 4096
  pub steps : MOST_STEPS ≡ 4096
  pub halves : MOST_HALVES ≡ 64
  pub mail : MOST_MAIL ≡ 1024
