-- What is passed on to which end, and what a holder is then. This project's own.
use Rattle.std.specs.Prelude.{◌≡◌, ℕ, ◌+◌, ◌==◌, nat_le, ◌&&◌, ◌||◌, Bool, true, false, if◌then◌else◌, List, [], ◌∷◌, ◌++◌, length, take, drop, map, flat_map, Option, Some, None}
use Rattle.std.specs.Option.{option_map}
use Rattle.m2_fabric.specs.End.{SeenEnd, after_news}
use Rattle.m2_fabric.specs.Holder.{EndName, SeenHolder, end_had}
use Rattle.m2_fabric.specs.Log.{Log}
use Rattle.m2_fabric.specs.Sockets.{same_socket}
use Rattle.m2_fabric.specs.declared.end.News.{News}
use Rattle.m2_fabric.specs.declared.end.News.TheVariants as news
use Rattle.m2_fabric.specs.declared.socket.SocketId.{SocketId}
use Rattle.m2_fabric.specs.Kept.{SeenPair, back, reader, same_end, there, writer}
use Rattle.m2_fabric.specs.declared.direction.Direction.{Direction}
use Rattle.m2_fabric.specs.declared.direction.Progress.{Progress}
use Rattle.m2_fabric.specs.declared.kept.Kept.{Kept}
use Rattle.m2_fabric.specs.declared.passing.Passing.{Passing}

-- ---- what ends did

-- the log of each end, None where there is none or it waits for an accept
abbrev pub Logs : Type 0
Logs = EndName → Option Log

abbrev pub logs_of : SeenHolder → Logs
logs_of h e = option_map (λ (s : SeenEnd). s.log) (end_had h e)

abbrev pub is_closed : Option Log → Bool
is_closed None = false
is_closed (Some log) = log.closed

abbrev pub put_of : Option Log → List ℕ
put_of None = []
put_of (Some log) = log.put

-- ---- what one direction passes on

pub record Told : Type 0 where
  pub news : News
  pub bytes : List ℕ

-- the next bytes of a list behind those that flowed, at most so many
abbrev pub moved : ℕ → ℕ → List ℕ → List ℕ
moved most flowed put = take most (drop flowed put)

abbrev pub flow_told : List ℕ → List Told
flow_told [] = []
flow_told (byte ∷ bytes) = record { news = news.Flow; bytes = byte ∷ bytes } ∷ []

-- an end is told that the other was closed, and, where all that the other wrote has flowed, that nothing more will come
abbrev pub closing_told : Bool → Bool → List Told
closing_told false all = []
closing_told true false = record { news = news.Closed; bytes = [] } ∷ []
closing_told true true = record { news = news.Closed; bytes = [] } ∷ record { news = news.Ended; bytes = [] } ∷ []

-- all of a list has flowed
abbrev pub all_flowed : ℕ → List ℕ → Bool
all_flowed flowed put = nat_le (length put) flowed

-- what flows, and then whether the end that writes is closed
abbrev pub told_of : ℕ → Progress → Option Log → List Told
told_of most p log =
    let bytes = moved most p.flowed (put_of log) in
    flow_told bytes ++ closing_told (is_closed log) (all_flowed (p.flowed + length bytes) (put_of log))

-- A direction passes nothing on once the end that reads is closed; from then on it is over.
abbrev pub passed_on : ℕ → Logs → Direction → List Told
passed_on most logs d = if d.progress.over || is_closed (logs (reader d)) then [] else told_of most d.progress (logs (writer d))

abbrev pub progress_after : ℕ → Logs → Direction → Progress
progress_after most logs d =
    if d.progress.over then d.progress else
    if is_closed (logs (reader d)) then record d.progress { over = true } else
    record d.progress { flowed = d.progress.flowed + length (moved most d.progress.flowed (put_of (logs (writer d)))) }

-- ---- what a call passes on

abbrev pub is_any_or : Option ℕ → ℕ → Bool
is_any_or None n = true
is_any_or (Some m) n = m == n

abbrev pub is_any_socket_or : Option SocketId → SocketId → Bool
is_any_socket_or None id = true
is_any_socket_or (Some socket) id = same_socket socket id

-- a call is about a direction
abbrev pub is_about : Passing → Direction → Bool
is_about what d = (what.from == d.from) && is_any_or what.to d.to && is_any_socket_or what.socket d.id

abbrev pub told_by : Passing → Logs → Direction → List Told
told_by what logs d = if is_about what d then passed_on what.most logs d else []

abbrev pub progress_by : Passing → Logs → Direction → Progress
progress_by what logs d = if is_about what d then progress_after what.most logs d else d.progress

abbrev pub kept_after : Passing → Logs → ℕ → ℕ → Kept → Kept
kept_after what logs first second k = record {
  id = k.id;
  there = progress_by what logs (there first second k);
  back = progress_by what logs (back first second k);
}

abbrev pub pair_after : Passing → Logs → SeenPair → SeenPair
pair_after what logs p = record p { sockets = map (kept_after what logs p.first p.second) p.sockets }

-- what an end is told by the directions that lead to it
abbrev pub told_to : Passing → Logs → List Direction → EndName → List Told
told_to what logs ds e = flat_map (λ (d : Direction). if same_end (reader d) e then told_by what logs d else []) ds

-- ---- a holder whose ends were told

abbrev pub hears : List Told → SeenEnd → SeenEnd
hears [] s = s
hears (t ∷ ts) s = hears ts (after_news t.news t.bytes s)

-- Each end was told this, in order, and nothing else changed.
pub record AreTold (news : EndName → List Told) (old new : SeenHolder) : Type 0 where
  pub nodes : new.nodes ≡ old.nodes
  pub at : (node : ℕ) → new.at node ≡ old.at node
  pub made : (node : ℕ) → new.made node ≡ old.made node
  pub ends : (e : EndName) → new.ends e.node e.id ≡ option_map (hears (news e)) (old.ends e.node e.id)
  pub waits : (e : EndName) → new.waits e.node e.id ≡ old.waits e.node e.id
  pub line : (node : ℕ) → new.line node ≡ old.line node

-- one end alone is told this
abbrev pub only : EndName → List Told → EndName → List Told
only end ts e = if same_end end e then ts else []

-- a node's end of a socket is told that it fails, unless it is closed
abbrev pub failing : ℕ → Logs → SocketId → EndName → List Told
failing node logs id =
    let end : EndName = record { node = node; id = id } in
    if is_closed (logs end) then (λ e. []) else only end (record { news = news.Failed; bytes = [] } ∷ [])
