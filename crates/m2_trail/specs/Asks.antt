-- The asks of a half, by their numbers and by who asks. The numbers are those that the judges of a session take.
use Rattle.std.specs.Prelude.{◌≡◌, ℕ, Bool, true, false, Ok}
use Rattle.m2_addr.specs.declared.addr.Addr.{Addr}
use Rattle.m2_addr.specs.Vector.{main_of}
use Rattle.m2_session.specs.declared.ask.AskFacts.{AskFacts}
use Rattle.m2_session.specs.Asks.{facts_of_ident, facts_of_reconnect}
use Rattle.m2_handshake.specs.declared.ask.Ask.{Ask}
use Rattle.m2_handshake.specs.declared.ask.Ask.TheVariants.{Ident, Reconnect}
use Rattle.m2_handshake.specs.declared.ident.IdentCheck.{IdentCheck}
use Rattle.m2_handshake.specs.declared.ident.IdentCheck.TheVariants.{Fine}
use Rattle.m2_handshake.specs.Greeting.{addrs_of}
use Rattle.m2_handshake.specs.Ident.{Agrees, client_check}
use Rattle.m2_policy.specs.declared.policy.Policy.{Policy}

abbrev pub facts_of_ask : Ask → AskFacts
facts_of_ask (Ident i) = facts_of_ident i
facts_of_ask (Reconnect r) = facts_of_reconnect r

abbrev pub is_ident : Ask → Bool
is_ident (Ident i) = true
is_ident (Reconnect r) = false

-- whose ask it is
abbrev pub IsMain : Ask → Addr → Type 0
IsMain ask main = main_of (addrs_of ask) ≡ Ok main

-- what is looked at in an ask before its session judges it: nothing in a reconnect
abbrev pub check_of : Ask → Addr → Policy → ℕ → IdentCheck
check_of (Ident i) mine policy required = client_check i mine policy required
check_of (Reconnect r) mine policy required = Fine

-- an ident says the same of the session as this side's policy; a reconnect says nothing of it
abbrev pub AgreesWith : Policy → Ask → Type 0
AgreesWith policy (Ident i) = Agrees i.flags policy
AgreesWith policy (Reconnect r) = Unit {0}
