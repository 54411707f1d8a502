-- What an acceptor's half replies: to a judged ask the frame of the answer, where it takes no socket, and to an ident of
-- which features are missing a refusal. The frames are Ceph's; that a refusal is the last reply is this project's profile.
use Rattle.std.specs.Prelude.{ℕ, zero, suc, false, List, [], ◌∷◌, ◌++◌, slice_get, Option, Some, None}
use Rattle.std.specs.List.{flat_map}
use Rattle.m2_control.specs.declared.control.Control.{Control}
use Rattle.m2_control.specs.declared.control.Control.TheVariants as control
use Rattle.m2_journal.specs.declared.entry.JudgedItem.{JudgedItem}
use Rattle.m2_session.specs.declared.answer.Answer.{Answer}
use Rattle.m2_session.specs.declared.answer.Answer.TheVariants as answer

-- an answer that takes the socket is written by whoever takes it, and Close is said by closing
abbrev pub reply_to : Answer → List Control
reply_to answer.Wait = control.Wait (record {}) ∷ []
reply_to (answer.Reset full) = control.SessionReset (record { full = full }) ∷ []
reply_to answer.ResetPending = control.SessionReset (record { full = false }) ∷ []
reply_to (answer.RetryGlobal number) = control.SessionRetryGlobal (record { global = number }) ∷ []
reply_to (answer.Retry number) = control.SessionRetry (record { connect = number }) ∷ []
reply_to _ = []

abbrev pub first_reply : Answer → Option Control
first_reply a = slice_get (reply_to a) 0

abbrev pub replies_to : List JudgedItem → List Control
replies_to judged = flat_map (λ (i : JudgedItem). reply_to i.answer) judged

-- the refusal of an ident, which names the missing features
abbrev pub refusal : ℕ → Control
refusal bits = control.IdentMissingFeatures (record { bits = bits })

-- at most one
abbrev pub refusal_of : Option ℕ → List Control
refusal_of (Some bits) = refusal bits ∷ []
refusal_of None = []

-- all replies of a half: those to its judged asks, and behind them at most one refusal
abbrev pub all_replies : List JudgedItem → Option ℕ → List Control
all_replies judged refused = replies_to judged ++ refusal_of refused

-- the replies to the first so many judged asks; a refusal stands only behind all of them
abbrev pub first_replies : List JudgedItem → ℕ → Option ℕ → List Control
first_replies [] n refused = refusal_of refused
first_replies (i ∷ is) zero refused = []
first_replies (i ∷ is) (suc n) refused = reply_to i.answer ++ first_replies is n refused
