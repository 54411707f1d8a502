-- How the entries of a journal lie: the asks that were judged stand in a list of their own, and an entry has the place
-- of its own there.
use Rattle.std.specs.Prelude.{◌+◌, ◌≤◌, List, [], ◌∷◌, Option, Some, IsSome, slice_get, vec_len, vec_capacity}
use Rattle.std.specs.List.{AllByRecursion, filter_map}
use Rattle.std.specs.Option.{option_map}
use Rattle.m2_bytes.specs.Items.{Holding}
use Rattle.m2_journal.specs.declared.entry.Entry.{Entry}
use Rattle.m2_journal.specs.declared.entry.Entry.TheVariants as entry
use Rattle.m2_journal.specs.declared.entries.JudgedAsk.{JudgedAsk}
use Rattle.m2_journal.specs.declared.entries.ShortEntry.{ShortEntry}
use Rattle.m2_journal.specs.declared.entries.ShortEntry.TheVariants as short
use Rattle.m2_journal.specs.declared.entries.EntryList.TheInside.{Inside}
use Rattle.m2_journal.specs.declared.entries.Entries.TheInside as left

-- the ask that an entry judges, if it judges one
abbrev pub asks_in : Entry → List JudgedAsk
asks_in (entry.Judged socket ask number answer) = record { socket = socket; ask = ask; number = number; answer = answer } ∷ []
asks_in _ = []

abbrev pub judged_entry : JudgedAsk → Entry
judged_entry judged = entry.Judged judged.socket judged.ask judged.number judged.answer

-- the entry that a short one stands for, of a list with these asks
abbrev pub entry_of : List JudgedAsk → ShortEntry → Option Entry
entry_of asks (short.Post place) = Some (entry.Post place)
entry_of asks short.Dial = Some entry.Dial
entry_of asks (short.Opened socket) = Some (entry.Opened socket)
entry_of asks (short.Read socket count) = Some (entry.Read socket count)
entry_of asks (short.Wrote socket count) = Some (entry.Wrote socket count)
entry_of asks (short.Closed socket) = Some (entry.Closed socket)
entry_of asks (short.Judged place) = option_map judged_entry (slice_get asks place)
entry_of asks (short.Asked ident number) = Some (entry.Asked ident number)
entry_of asks (short.Numbered number) = Some (entry.Numbered number)
entry_of asks (short.Accepted number key) = Some (entry.Accepted number key)
entry_of asks (short.Acked number) = Some (entry.Acked number)
entry_of asks (short.Obeyed full) = Some (entry.Obeyed full)
entry_of asks (short.Down planned) = Some (entry.Down planned)

abbrev pub entries_of : List JudgedAsk → List ShortEntry → List Entry
entries_of asks shorts = filter_map (entry_of asks) shorts

-- each stands for an entry
abbrev pub StandForEntries : List JudgedAsk → List ShortEntry → Type 0
StandForEntries asks shorts = AllByRecursion (λ s. IsSome (entry_of asks s)) shorts

abbrev pub entries_now : Inside → Holding Entry
entries_now w = record { items = entries_of w.asks.items w.entries.items; room = w.room }

-- what holds of the fields: as many asks may come as entries
pub record AreEntries (w : Inside) : Type 0 where
  pub stand : StandForEntries w.asks.items w.entries.items
  pub entry_room : vec_len w.entries + w.room ≤ vec_capacity w.entries
  pub ask_room : vec_len w.asks + w.room ≤ vec_capacity w.asks

abbrev pub entries_left : left.Inside → List Entry
entries_left l = entries_of l.asks.now l.left.now

abbrev pub AreLeft : left.Inside → Type 0
AreLeft l = StandForEntries l.asks.now l.left.now
