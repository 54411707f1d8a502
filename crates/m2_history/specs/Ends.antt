-- What contracts see of an end that is woven, and of a side.
use Rattle.m2_history.specs.declared.parts.EndPart.{EndPart}
use Rattle.m2_history.specs.Woven.{EndNow}

abbrev pub end_now : EndPart → EndNow
end_now e = record { socket = e.socket; opener = e.opener; got = e.log.now.got.bytes; put = e.log.now.put.bytes }
