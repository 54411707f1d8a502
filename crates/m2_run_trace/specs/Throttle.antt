-- What a node's throttle has out, as a line. This project's own.
use Rattle.std.specs.Option.{unwrap_or}
use Rattle.std.specs.Prelude.{ℕ, ◌==◌, if◌then◌else◌, [], ◌++◌, codes}
use Rattle.m2_dispatch.specs.m2_shared.Throttle.{out_alone}
use Rattle.m2_run_trace.specs.Telling.{Telling, TracedCenter}
use Rattle.m2_run_trace.specs.Words.{throttle_head}
use Rattle.m2_trace.specs.Words.{Text, number_word}

-- how many bytes are granted and not given back; of a throttle that threads share nothing is told
abbrev pub out_of : TracedCenter → ℕ
out_of c = unwrap_or (out_alone c.bytes.dispatch) 0

-- `NODE throttle OUT`
unfoldable pub throttle_line : Telling → (out : ℕ) → Text
throttle_line t out = throttle_head t.own.name ++ number_word out ++ codes "\n"

-- where it isn't what it was
abbrev pub changed_throttle : Telling → (old : ℕ) → Text
changed_throttle t old = if out_of t.center == old then [] else throttle_line t (out_of t.center)
