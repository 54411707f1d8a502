-- What contracts see of a side that is woven.
use Rattle.std.specs.Prelude.{List}
use Rattle.m2_fabric.specs.End.{SeenEnd}
use Rattle.m2_journal.specs.declared.entry.Entry.{Entry}
use Rattle.m2_trail.specs.Trails.{TrailNow}

-- its journal, the trails of the halves that it took, and its ends
pub record PartsNow : Type 0 where
  pub journal : List Entry
  pub trails : List TrailNow
  pub ends : List SeenEnd
