-- What is known of a half that was asked, of one that no record took, and of what a record takes. This project's own.
use Rattle.std.specs.Prelude.{◌≡◌, ℕ, true, false, List, [], ◌∷◌, ◌++◌, Some, None}
use Rattle.std.specs.List.{AllByRecursion}
use Rattle.m2_fabric.specs.End.{SeenEnd, after_closing}
use Rattle.m2_handshake.specs.declared.ask.Ask.{Ask}
use Rattle.m2_handshake.specs.declared.stage.Stage.TheVariants.{Asked}
use Rattle.m2_handshake.specs.Asks.{bare_ask}
use Rattle.m2_handshake.specs.Course.{Exchange, Reaches}
use Rattle.m2_journal.specs.declared.entry.Entry.TheVariants as entry
use Rattle.m2_journal.specs.declared.entry.JudgedItem.{JudgedItem}
use Rattle.m2_journal.specs.Lawful.{may_ask_again}
use Rattle.m2_trail.specs.Asks.{facts_of_ask}
use Rattle.m2_trail.specs.Trails.{TrailNow, begins, IsWholeTrail}
use Rattle.m2_trail.specs.Incoming.{IncomingNow, with_entry}

-- ---- a half that was asked

-- the half was fed just what the end got, has written just what the end has put, and owes the reply to this ask, its last
pub record OwesReply (ask : Ask) (v : IncomingNow) : Type 0 where
  pub exchange : Exchange
  pub comes : Reaches (begins v.trail) exchange v.half
  pub bytes : exchange.bytes ≡ v.end.log.got
  pub text : exchange.text ≡ v.end.log.put
  pub earlier : List Ask
  pub last : exchange.asks ≡ earlier ++ bare_ask ask ∷ []
  pub owed : v.half.stage ≡ Asked

-- the ask is the last one of those that were judged, or the next one after them; after each earlier answer the half asks
-- again
pub record IsLastOrNext (ask : Ask) (v : IncomingNow) : Type 0 where
  pub before : List JudgedItem
  pub next : v.is_judged ≡ false → v.trail.judged ≡ before
  pub last : v.is_judged ≡ true → (i : JudgedItem) × (v.trail.judged ≡ before ++ i ∷ []) × (i.ask ≡ facts_of_ask ask)
  pub again : AllByRecursion (λ (i : JudgedItem). may_ask_again i.answer ≡ true) before

pub record IsArrival (v : IncomingNow) : Type 0 where
  pub unclosed : v.end.log.closed ≡ false
  pub trail : IsWholeTrail v.trail v.end
  pub put : v.left ≡ []
  pub unrefused : v.refused ≡ None
  pub ask : Ask
  pub in_hand : v.ask ≡ Some ask
  pub owes : OwesReply ask v
  pub place : IsLastOrNext ask v

-- ---- a half that no record took

pub record LooseNow : Type 0 where
  pub end : SeenEnd
  pub trail : TrailNow

-- it is left as it is
abbrev pub left_of : IncomingNow → LooseNow
left_of v = record { end = v.end; trail = v.trail }

-- its end is closed
abbrev pub closed_of : IncomingNow → LooseNow
closed_of v = record { end = after_closing v.end; trail = with_entry (entry.Closed v.trail.socket) v.trail }

-- ---- what a record takes

-- bytes that end others
abbrev pub IsEndOf : List ℕ → List ℕ → Type 0
IsEndOf bytes all = (before : List ℕ) × (all ≡ before ++ bytes)
