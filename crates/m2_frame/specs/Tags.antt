-- The numbers and names of the tags, which of them are those of control frames, and which this profile
-- negotiates. Source: Ceph's msgr2 documentation; what is negotiated is this project's profile.
use Rattle.std.specs.Prelude.{ℕ, ◌==◌, Bool, true, false, if◌then◌else◌, List, [], Option, Some, None, codes}
use Rattle.m2_frame.specs.declared.tag.Tag.{Tag}
use Rattle.m2_frame.specs.declared.tag.Tag.TheVariants as tag

abbrev pub tag_number : Tag → ℕ
tag_number tag.Hello = 1
tag_number tag.AuthRequest = 2
tag_number tag.AuthBadMethod = 3
tag_number tag.AuthReplyMore = 4
tag_number tag.AuthRequestMore = 5
tag_number tag.AuthDone = 6
tag_number tag.AuthSignature = 7
tag_number tag.ClientIdent = 8
tag_number tag.ServerIdent = 9
tag_number tag.IdentMissingFeatures = 10
tag_number tag.SessionReconnect = 11
tag_number tag.SessionReset = 12
tag_number tag.SessionRetry = 13
tag_number tag.SessionRetryGlobal = 14
tag_number tag.SessionReconnectOk = 15
tag_number tag.Wait = 16
tag_number tag.Message = 17
tag_number tag.Keepalive = 18
tag_number tag.KeepaliveAck = 19
tag_number tag.Ack = 20
tag_number tag.CompressionRequest = 21
tag_number tag.CompressionDone = 22

-- the tag with a number
abbrev pub tag_in : ℕ → Option Tag
tag_in number =
    if number == 1 then Some tag.Hello
    else if number == 2 then Some tag.AuthRequest
    else if number == 3 then Some tag.AuthBadMethod
    else if number == 4 then Some tag.AuthReplyMore
    else if number == 5 then Some tag.AuthRequestMore
    else if number == 6 then Some tag.AuthDone
    else if number == 7 then Some tag.AuthSignature
    else if number == 8 then Some tag.ClientIdent
    else if number == 9 then Some tag.ServerIdent
    else if number == 10 then Some tag.IdentMissingFeatures
    else if number == 11 then Some tag.SessionReconnect
    else if number == 12 then Some tag.SessionReset
    else if number == 13 then Some tag.SessionRetry
    else if number == 14 then Some tag.SessionRetryGlobal
    else if number == 15 then Some tag.SessionReconnectOk
    else if number == 16 then Some tag.Wait
    else if number == 17 then Some tag.Message
    else if number == 18 then Some tag.Keepalive
    else if number == 19 then Some tag.KeepaliveAck
    else if number == 20 then Some tag.Ack
    else if number == 21 then Some tag.CompressionRequest
    else if number == 22 then Some tag.CompressionDone
    else None

abbrev pub name_of : Tag → List ℕ
name_of tag.Hello = codes "HELLO"
name_of tag.AuthRequest = codes "AUTH_REQUEST"
name_of tag.AuthBadMethod = codes "AUTH_BAD_METHOD"
name_of tag.AuthReplyMore = codes "AUTH_REPLY_MORE"
name_of tag.AuthRequestMore = codes "AUTH_REQUEST_MORE"
name_of tag.AuthDone = codes "AUTH_DONE"
name_of tag.AuthSignature = codes "AUTH_SIGNATURE"
name_of tag.ClientIdent = codes "CLIENT_IDENT"
name_of tag.ServerIdent = codes "SERVER_IDENT"
name_of tag.IdentMissingFeatures = codes "IDENT_MISSING_FEATURES"
name_of tag.SessionReconnect = codes "SESSION_RECONNECT"
name_of tag.SessionReset = codes "SESSION_RESET"
name_of tag.SessionRetry = codes "SESSION_RETRY"
name_of tag.SessionRetryGlobal = codes "SESSION_RETRY_GLOBAL"
name_of tag.SessionReconnectOk = codes "SESSION_RECONNECT_OK"
name_of tag.Wait = codes "WAIT"
name_of tag.Message = codes "MESSAGE"
name_of tag.Keepalive = codes "KEEPALIVE2"
name_of tag.KeepaliveAck = codes "KEEPALIVE2_ACK"
name_of tag.Ack = codes "ACK"
name_of tag.CompressionRequest = codes "COMPRESSION_REQUEST"
name_of tag.CompressionDone = codes "COMPRESSION_DONE"

abbrev pub name_if : Option Tag → List ℕ
name_if (Some t) = name_of t
name_if None = []

-- the name of the tag with a number, and nothing where there is none
abbrev pub name_in : ℕ → List ℕ
name_in number = name_if (tag_in number)

-- a control frame has one segment; all are but MESSAGE
abbrev pub is_control : Tag → Bool
is_control tag.Message = false
is_control _ = true

-- the longer authentications and compression aren't negotiated
abbrev pub is_negotiated : Tag → Bool
is_negotiated tag.AuthReplyMore = false
is_negotiated tag.AuthRequestMore = false
is_negotiated tag.CompressionRequest = false
is_negotiated tag.CompressionDone = false
is_negotiated _ = true
