-- When a side judges an ask. This project's own.
use Rattle.std.specs.Prelude.{◌≡◌, false}
use Rattle.m2_fabric.specs.Sockets.{IsNewTo}
use Rattle.m2_handshake.specs.declared.ident.IdentCheck.{IdentCheck}
use Rattle.m2_handshake.specs.declared.ident.IdentCheck.TheVariants.{Missing}
use Rattle.m2_journal.specs.Lawful.{judged_on}
use Rattle.m2_trail.specs.Incoming.{IncomingNow}
use Rattle.m2_record.specs.RecordNow.{RecordNow, ends_of, ids_of}
use Rattle.m2_record.specs.TakenTrails.{judgements_in}

-- features are missing
abbrev pub IfMissing : IdentCheck → Type 0 → Type 0
IfMissing (Missing bits) P = P
IfMissing check P = Unit {0}

-- It isn't judged, its half named the kind of the record's node, and its socket is one of which the record has no end and has
-- judged just what its trail says.
pub record IsKnown (a : IncomingNow) (r : RecordNow) : Type 0 where
  pub unjudged : a.is_judged ≡ false
  pub entity : a.trail.entity ≡ r.core.facts.node.entity
  pub new : IsNewTo (ids_of (ends_of r)) a.end.id
  pub judged : a.trail.judged ≡ judged_on a.end.id (judgements_in r.journal)
