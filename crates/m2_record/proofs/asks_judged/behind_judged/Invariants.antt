use Rattle.std.proofs.Common.{◌≡◌, ◌++◌, List}
use Rattle.m2_journal.specs.declared.entry.JudgedItem.{JudgedItem}
use Rattle.m2_journal.specs.Lawful.{judged_on}
use Rattle.m2_record.specs.TakenTrails.{judgements_in}
use Rattle.m2_record.proofs.asks_judged.behind_judged.Given as goal

-- where what is left begins with what the entries to come have judged, all begins with what all have
abbrev pub invariant-loop-e : goal.invariant-loop-e
invariant-loop-e l = (rest : List JudgedItem) → l.left ≡ judged_on l.socket (judgements_in l.e-iterator) ++ rest → l.asks ≡ judged_on l.socket (judgements_in l.journal.items) ++ rest
