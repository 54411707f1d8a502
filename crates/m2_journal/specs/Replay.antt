-- A record is what its journal is replayed to.
use Rattle.std.specs.Prelude.{◌≡◌, List, [], ◌∷◌}
use Rattle.m2_journal.specs.declared.entry.Entry.{Entry}
use Rattle.m2_journal.specs.Items.{JournalItem, Sources, AreCovering, items_of}
use Rattle.m2_journal.specs.Lawful.{Lawful}
use Rattle.m2_journal.specs.SideFacts.{SideFacts}
use Rattle.m2_journal.specs.State.{State, start}
use Rattle.m2_journal.specs.Steps.{after}

abbrev pub after_items : SideFacts → List JournalItem → State → State
after_items f [] s = s
after_items f (i ∷ is) s = after_items f is (after f i s)

-- each entry is lawful where those before it lead
abbrev pub AreLawful : SideFacts → List JournalItem → State → Type 0
AreLawful f [] s = Unit {0}
AreLawful f (i ∷ is) s = Lawful f i s × AreLawful f is (after f i s)

abbrev pub replay : SideFacts → Sources → List Entry → State
replay f sources journal = after_items f (items_of sources journal) (start f)

-- The entries are lawful one after the other, they cover what they speak of, and this is where they lead.
pub record IsReplay (f : SideFacts) (sources : Sources) (journal : List Entry) (s : State) : Type 0 where
  pub lawful : AreLawful f (items_of sources journal) (start f)
  pub covering : AreCovering sources journal
  pub state : s ≡ replay f sources journal
