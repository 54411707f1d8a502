-- What a side knows from its start, where it stands, and what its dispatchers were called with, as lines. This project's own.
use Rattle.std.specs.Prelude.{ℕ, ◌++◌, codes}
use Rattle.m2_dispatch.specs.Heard.{Heard, message, reset}
use Rattle.m2_journal.specs.declared.facts.NodeFacts.{NodeFacts}
use Rattle.m2_journal.specs.declared.facts.PlanStep.{PlanStep}
use Rattle.m2_journal.specs.declared.facts.PlanStep.TheVariants as step
use Rattle.m2_message.specs.Message.{Content, content_of}
use Rattle.m2_policy.specs.declared.path.Key.{Key}
use Rattle.m2_policy.specs.declared.policy.Policy.{Policy}
use Rattle.m2_session.specs.declared.session.Phase.{Phase}
use Rattle.m2_session.specs.declared.session.Phase.TheVariants as phase
use Rattle.m2_session.specs.declared.session.Session.{Session}
use Rattle.m2_trace.specs.Words.{Text, number_word, flag_word, bytes_word, address_word, key_words, line}

-- ---- what it knows from its start

-- whether it is lossy, a server, allows standby and checks for resets
unfoldable pub policy_words : Policy → Text
policy_words p = flag_word p.lossy ++ flag_word p.server ++ flag_word p.standby ++ flag_word p.resetcheck

unfoldable pub identity_words : NodeFacts → Text
identity_words f = number_word f.entity ++ number_word f.number ++ number_word f.salt

unfoldable pub features_words : NodeFacts → Text
features_words f = number_word f.supports ++ number_word f.requires_

-- in milliseconds
unfoldable pub waits_words : NodeFacts → Text
waits_words f = number_word f.first_wait ++ number_word f.most_wait

-- its address and its policy
unfoldable pub address_line : (side : Text) → Session → Text
address_line side s = line side (codes "address") (address_word s.mine ++ policy_words s.policy)

-- what its node tells
unfoldable pub node_line : (side : Text) → NodeFacts → Text
node_line side f = line side (codes "node") (identity_words f ++ features_words f ++ waits_words f)

unfoldable pub start_lines : (side : Text) → Session → NodeFacts → Text
start_lines side s f = address_line side s ++ node_line side f

-- ---- its plan

unfoldable pub parts_words : Content → Text
parts_words m = bytes_word m.front ++ bytes_word m.middle ++ bytes_word m.tail

unfoldable pub post_words : Content → Text
post_words m = codes " post" ++ number_word m.header.kind ++ number_word m.header.priority ++ parts_words m

unfoldable pub step_words : PlanStep → Text
step_words (step.Post m) = post_words (content_of m)
step_words step.Dial = codes " dial"
step_words step.Down = codes " down"

unfoldable pub step_line : (side : Text) → PlanStep → Text
step_line side s = line side (codes "plan") (step_words s)

-- ---- where it stands

unfoldable pub phase_word : Phase → Text
phase_word phase.Absent = codes " absent"
phase_word phase.Connecting = codes " connecting"
phase_word phase.IdentSent = codes " ident_sent"
phase_word phase.ReconnectSent = codes " reconnect_sent"
phase_word phase.Ready = codes " ready"
phase_word phase.Standby = codes " standby"
phase_word phase.Wait = codes " wait"

unfoldable pub numbers_words : Session → Text
numbers_words s = number_word s.peer_global ++ number_word s.connect ++ flag_word s.lost_ready

unfoldable pub session_words : Session → Text
session_words s = phase_word s.phase ++ number_word s.client_cookie ++ number_word s.server_cookie ++ numbers_words s

unfoldable pub session_line : (side : Text) → Session → Text
session_line side s = line side (codes "session") (session_words s)

-- ---- what its dispatchers were called with

-- its number, priority and path, kind and parts
unfoldable pub message_words : Key → (number : ℕ) → Content → Text
message_words key number m = number_word number ++ key_words key ++ number_word m.header.kind ++ parts_words m

unfoldable pub heard_words : Heard → Text
heard_words (message peer key number life m) = codes " message" ++ message_words key number m
heard_words (reset peer) = codes " reset"

unfoldable pub heard_line : (side : Text) → Heard → Text
heard_line side h = line side (codes "handed") (heard_words h)
