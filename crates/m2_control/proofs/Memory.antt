-- The payloads without lists, byte strings and addresses never want memory.
use Rattle.std.proofs.Common.{◌≡◌, ◌≢◌, ℕ, Bool, true, false, if◌then◌else◌, List, Result, Ok, Err, refl}
use Rattle.std.specs.Int.{Width, w8, w32, w64}
use Rattle.m2_addr.specs.Reading.{◌>>=◌, number, checked, ◌⊳◌, made}
use Rattle.m2_frame.specs.declared.tag.Tag.{Tag}
use Rattle.m2_frame.specs.declared.tag.Tag.TheVariants as tag
use Rattle.m2_control.specs.declared.fault.ControlFault.{ControlFault}
use Rattle.m2_control.specs.declared.fault.ControlFault.TheVariants.{Short, BadValue, NoMemory}
use Rattle.m2_control.specs.Fields.{bounded_at, flag_at}
use Rattle.m2_control.specs.Control.{takes_memory, fields_at}

abbrev Never : {A : Type 0} → (List ℕ → Result (A × List ℕ) ControlFault) → Type 0
Never read = (bytes : List ℕ) → read bytes ≡ Err NoMemory → ⊥

bind_never : {A B : Type 0} (r : Result A ControlFault) (k : A → Result B ControlFault) → (r ≡ Err NoMemory → ⊥) → ((x : A) → k x ≡ Err NoMemory → ⊥) → (r >>= k) ≡ Err NoMemory → ⊥
bind_never (Ok x) k first next h = next x h
bind_never (Err e) k first next h = let same : e ≡ NoMemory = cc in first (rw same refl)

short_never : {A : Type 0} (b : Bool) (x : A) → (if b then (let r : Result A ControlFault = Err Short in r) else Ok x) ≡ Err NoMemory → ⊥
short_never true x h = cc
short_never false x h = cc

number_never : (w : Width) → Never (number w Short)
number_never w bytes h = short_never _ _ h

passes_never : {A : Type 0} (b : Bool) (x : A) (fault : ControlFault) → fault ≢ NoMemory → (if b then (let r : Result A ControlFault = Ok x in r) else Err fault) ≡ Err NoMemory → ⊥
passes_never true x fault other h = cc
passes_never false x fault other h = other cc

checked_never : {A : Type 0} (test : A → Bool) (fault : ControlFault) (read : List ℕ → Result (A × List ℕ) ControlFault) → fault ≢ NoMemory → Never read → Never (checked test fault read)
checked_never test fault read other never bytes h = bind_never (read bytes) (λ x. if test x.0 then Ok x else Err fault) (never bytes) (λ x e. passes_never (test x.0) x fault other e) h

made_never : {A B : Type 0} (make : A → B) (read : List ℕ → Result (A × List ℕ) ControlFault) → Never read → Never (made make read)
made_never make read never bytes h = bind_never (read bytes) (λ x. Ok (make x.0, x.1)) (never bytes) (λ x e. cc) h

seq_never : {A B : Type 0} (first : List ℕ → Result (A × List ℕ) ControlFault) (second : List ℕ → Result (B × List ℕ) ControlFault) → Never first → Never second → Never (first ⊳ second)
seq_never first second one two bytes h =
    bind_never (first bytes) (λ x. second x.1 >>= λ y. Ok ((x.0, y.0), y.1)) (one bytes)
    (λ x e. bind_never (second x.1) (λ y. Ok ((x.0, y.0), y.1)) (two x.1) (λ y d. cc) e) h

bounded_never : (field : ℕ) → Never (bounded_at field)
unfolding bounded_at
bounded_never field = checked_never _ (BadValue field) (number w64 Short) (λ e. cc) (number_never w64)

flag_never : (field : ℕ) → Never (flag_at field)
unfolding flag_at
flag_never field = made_never _ _ (checked_never _ (BadValue field) (number w8 Short) (λ e. cc) (number_never w8))

stamp_never : Never (number w32 Short ⊳ number w32 Short)
stamp_never = seq_never _ _ (number_never w32) (number_never w32)

pub fields_never : (t : Tag) (bytes : List ℕ) → takes_memory t ≡ false → fields_at t bytes ≡ Err NoMemory → ⊥
fields_never tag.Hello bytes plain h = cc
fields_never tag.AuthRequest bytes plain h = cc
fields_never tag.AuthBadMethod bytes plain h = cc
fields_never tag.AuthReplyMore bytes plain h = cc
fields_never tag.AuthRequestMore bytes plain h = cc
fields_never tag.AuthDone bytes plain h = cc
fields_never tag.AuthSignature bytes plain h = cc
fields_never tag.ClientIdent bytes plain h = cc
fields_never tag.ServerIdent bytes plain h = cc
fields_never tag.IdentMissingFeatures bytes plain h = made_never _ _ (made_never _ _ (number_never w64)) bytes h
fields_never tag.SessionReconnect bytes plain h = cc
fields_never tag.SessionReset bytes plain h = made_never _ _ (made_never _ _ (flag_never 1)) bytes h
fields_never tag.SessionRetry bytes plain h = made_never _ _ (made_never _ _ (bounded_never 1)) bytes h
fields_never tag.SessionRetryGlobal bytes plain h = made_never _ _ (made_never _ _ (bounded_never 1)) bytes h
fields_never tag.SessionReconnectOk bytes plain h = made_never _ _ (made_never _ _ (bounded_never 1)) bytes h
fields_never tag.Wait bytes plain h = cc
fields_never tag.Message bytes plain h = cc
fields_never tag.Keepalive bytes plain h = made_never _ _ (made_never _ _ stamp_never) bytes h
fields_never tag.KeepaliveAck bytes plain h = made_never _ _ (made_never _ _ stamp_never) bytes h
fields_never tag.Ack bytes plain h = made_never _ _ (made_never _ _ (bounded_never 1)) bytes h
fields_never tag.CompressionRequest bytes plain h = cc
fields_never tag.CompressionDone bytes plain h = cc
