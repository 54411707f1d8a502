-- What each side looks at in the ident of the other before its session does: an acceptor at the target, the lossy flag
-- and the features, an opener at the main address and the lossy flag, in this order. Ceph looks at the same things; the
-- faults are this project's profile.
use Rattle.std.specs.Prelude.{◌≡◌, ◌≢◌, ◌==◌, ◌%◌, ℕ, Bool, true, false, not, if◌then◌else◌, Result, Ok, Err}
use Rattle.m2_addr.specs.declared.addr.Addr.{Addr}
use Rattle.m2_control.specs.declared.client_ident.ClientIdent.{ClientIdent}
use Rattle.m2_control.specs.declared.server_facts.ServerFacts.{ServerFacts}
use Rattle.m2_policy.specs.declared.policy.Policy.{Policy}
use Rattle.m2_policy.specs.Features.{missing_bits}
use Rattle.m2_handshake.specs.declared.fault.HalfFault.{HalfFault}
use Rattle.m2_handshake.specs.declared.fault.HalfFault.TheVariants.{WrongAddress, FlagDisagrees}
use Rattle.m2_handshake.specs.declared.ident.IdentCheck.{IdentCheck}
use Rattle.m2_handshake.specs.declared.ident.IdentCheck.TheVariants.{Fine, Missing, Fault}
use Rattle.m2_handshake.specs.Asks.{same_addr}

-- bit 0 of an ident's flags says that its session is lossy
abbrev pub is_lossy : ℕ → Bool
is_lossy flags = flags % 2 == 1

-- both sides say the same of the session
abbrev pub Agrees : ℕ → Policy → Type 0
Agrees flags policy = is_lossy flags ≡ policy.lossy

-- ---- a CLIENT_IDENT at an acceptor

-- each answer exactly where its row says
abbrev pub IsCheck : IdentCheck → ClientIdent → Addr → Policy → ℕ → Type 0
IsCheck (Fault WrongAddress) i mine policy requires = i.target ≢ mine
IsCheck (Fault FlagDisagrees) i mine policy requires = (i.target ≡ mine) × (is_lossy i.flags ≢ policy.lossy)
IsCheck (Missing bits) i mine policy requires = (i.target ≡ mine) × Agrees i.flags policy × (bits ≡ missing_bits requires i.supported) × (bits ≢ 0)
IsCheck Fine i mine policy requires = (i.target ≡ mine) × Agrees i.flags policy × (missing_bits requires i.supported ≡ 0)
IsCheck (Fault _) i mine policy requires = ⊥

-- ---- a SERVER_IDENT at an opener that dialled an address

abbrev pub IsServerCheck : Result (Unit {0}) HalfFault → ServerFacts → Addr → Policy → Type 0
IsServerCheck (Err WrongAddress) i dialled policy = i.main ≢ dialled
IsServerCheck (Err FlagDisagrees) i dialled policy = (i.main ≡ dialled) × (is_lossy i.flags ≢ policy.lossy)
IsServerCheck (Ok _) i dialled policy = (i.main ≡ dialled) × Agrees i.flags policy
IsServerCheck (Err _) i dialled policy = ⊥

-- ---- the same as functions

abbrev pub same_flag : Bool → Bool → Bool
same_flag true b = b
same_flag false b = not b

abbrev pub feature_check : ℕ → IdentCheck
feature_check bits = if bits == 0 then Fine else Missing bits

abbrev pub client_check : ClientIdent → Addr → Policy → ℕ → IdentCheck
client_check i mine policy requires =
    if same_addr i.target mine then
    (if same_flag (is_lossy i.flags) policy.lossy then feature_check (missing_bits requires i.supported) else Fault FlagDisagrees)
    else Fault WrongAddress

abbrev pub server_check : ServerFacts → Addr → Policy → Result (Unit {0}) HalfFault
server_check i dialled policy =
    if same_addr i.main dialled then (if same_flag (is_lossy i.flags) policy.lossy then Ok tt else Err FlagDisagrees)
    else Err WrongAddress
