-- The names of fields, and what stands around each in a line and in JSON. The names are this project's own, as near to Ceph's
-- as they can be.
use Rattle.std.specs.Prelude.{ℕ, List, codes}
use Rattle.m2_frame_facts.specs.declared.field_name.FieldName.{FieldName}
use Rattle.m2_frame_facts.specs.declared.field_name.FieldName.TheVariants as name
use Rattle.m2_frame_facts.specs.declared.style.Style.{Style}
use Rattle.m2_frame_facts.specs.declared.style.Style.TheVariants as style

abbrev pub name_of : FieldName → List ℕ
name_of name.MessageType = codes "type"
name_of name.MessageName = codes "name"
name_of name.Seq = codes "seq"
name_of name.Tid = codes "tid"
name_of name.Priority = codes "priority"
name_of name.Ack = codes "ack"
name_of name.Front = codes "front"
name_of name.Middle = codes "middle"
name_of name.Data = codes "data"
name_of name.Entity = codes "entity"
name_of name.Seen = codes "seen"
name_of name.Method = codes "method"
name_of name.Modes = codes "modes"
name_of name.Payload = codes "payload"
name_of name.Outcome = codes "result"
name_of name.Methods = codes "methods"
name_of name.GlobalId = codes "global_id"
name_of name.Mode = codes "mode"
name_of name.Signature = codes "signature"
name_of name.Addrs = codes "addrs"
name_of name.Target = codes "target"
name_of name.Gid = codes "gid"
name_of name.Global = codes "global"
name_of name.Supported = codes "supported"
name_of name.Required = codes "required"
name_of name.Flags = codes "flags"
name_of name.Cookie = codes "cookie"
name_of name.Features = codes "features"
name_of name.ClientCookie = codes "client_cookie"
name_of name.ServerCookie = codes "server_cookie"
name_of name.Connect = codes "connect"
name_of name.Full = codes "full"
name_of name.Seconds = codes "seconds"
name_of name.Nanoseconds = codes "nanoseconds"
name_of name.Fault = codes "fault"
name_of name.Field = codes "field"
name_of name.Aborted = codes "aborted"

-- a field stands behind what was before it
abbrev pub before_name : Style → List ℕ
before_name style.Line = codes " "
before_name style.Json = codes ",\""

abbrev pub behind_name : Style → List ℕ
behind_name style.Line = codes "="
behind_name style.Json = codes "\":"
