-- The words that scenarios have of their own: entities, policies and lists of kinds of message.
use Rattle.std.specs.Prelude.{ℕ, nat_lt, if◌then◌else◌, List, [], ◌∷◌, ◌++◌, length, Option, Some, None, Result, Ok, codes}
use Rattle.std.specs.Str.{bytes_eq}
use Rattle.m2_policy.specs.declared.policy.Policy.{Policy}
use Rattle.m2_policy.specs.Policy.{lossy_client, lossless_client, lossless_peer, stateless_server, stateful_server}
use Rattle.m2_scenario.specs.declared.kind.Kind.TheVariants as kind
use Rattle.m2_scenario.specs.Text.{Word, pieces}
use Rattle.m2_scenario.specs.Word.{number_of}
use Rattle.m2_scenario_text.specs.declared.flaw.Flaw.{Flaw}
use Rattle.m2_scenario_text.specs.declared.flaw.Wanted.TheVariants as wanted
use Rattle.m2_scenario_text.specs.Flaw.{◌>>=◌, said, want}

-- the types of entity, with Ceph's numbers
unfoldable pub entity_of : Word → Option ℕ
entity_of w =
    if bytes_eq w (codes "mon") then Some 1 else
    if bytes_eq w (codes "mds") then Some 2 else
    if bytes_eq w (codes "osd") then Some 4 else
    if bytes_eq w (codes "client") then Some 8 else
    if bytes_eq w (codes "mgr") then Some 16 else None

unfoldable pub policy_of : Word → Option Policy
policy_of w =
    if bytes_eq w (codes "lossy_client") then Some lossy_client else
    if bytes_eq w (codes "lossless_client") then Some lossless_client else
    if bytes_eq w (codes "lossless_peer") then Some lossless_peer else
    if bytes_eq w (codes "stateless_server") then Some stateless_server else
    if bytes_eq w (codes "stateful_server") then Some stateful_server else None

-- one more kind, of at most 16
unfoldable pub kind_added : ℕ → List ℕ → Word → Result (List ℕ) Flaw
kind_added behind ks w = do
  k ← said behind wanted.KindsOfMessage (number_of kind.Number 0 65535 w)
  _ ← want behind wanted.FewerKinds (nat_lt (length ks) 16)
  Ok (ks ++ k ∷ [])

-- the kinds that words add, in order
abbrev pub kinds_from : ℕ → List ℕ → List Word → Result (List ℕ) Flaw
kinds_from behind ks [] = Ok ks
kinds_from behind ks (w ∷ ws) = kind_added behind ks w >>= (λ more. kinds_from behind more ws)

-- kinds with commas between them
unfoldable pub kinds_of : ℕ → Word → Result (List ℕ) Flaw
kinds_of behind w = kinds_from behind [] (pieces 44 w)
