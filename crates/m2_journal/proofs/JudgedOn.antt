-- What was judged on a socket, and lawful lists in parts.
use Rattle.std.proofs.Common.{List, [], ◌∷◌, ◌++◌, ◌≡◌, Bool, true, false, ◌||◌, if◌then◌else◌, map, refl, sym, ℕ, ◌+◌, ap, ◌∙◌}
use Rattle.std.specs.List.{filter}
use Rattle.m2_fabric.proofs.Sockets.{same_turned}
use Rattle.m2_fabric.specs.Sockets.{is_among, same_socket}
use Rattle.m2_fabric.specs.declared.socket.SocketId.{SocketId}
use Rattle.m2_journal.specs.Items as item
use Rattle.m2_journal.specs.Items.{JournalItem, raised}
use Rattle.m2_journal.specs.Lawful.{judged_on}
use Rattle.m2_journal.specs.Replay.{AreLawful, after_items}
use Rattle.m2_journal.specs.SideFacts.{SideFacts}
use Rattle.m2_journal.specs.State.{State, Judgement}
use Rattle.m2_journal.specs.Steps.{after}
use Rattle.m2_bytes.proofs.m2_lemmas.Booleans.{from_false_true}

pub lawful_front : (f : SideFacts) (is js : List JournalItem) (s : State) → AreLawful f (is ++ js) s → AreLawful f is s × AreLawful f js (after_items f is s)
lawful_front f [] js s h = (tt, h)
lawful_front f (i ∷ is) js s h = let more = lawful_front f is js (after f i s) h.1 in ((h.0, more.0), more.1)

pub unjudged : (k : SocketId) (js : List Judgement) → is_among k (map (λ (j : Judgement). j.socket) js) ≡ false → judged_on k js ≡ []
unjudged k [] h = refl
unjudged k (j ∷ js) h = at (same_socket k j.socket) h (unjudged k js)
  where
    at : (b : Bool) → b || is_among k (map (λ (j : Judgement). j.socket) js) ≡ false → (is_among k (map (λ (j : Judgement). j.socket) js) ≡ false → judged_on k js ≡ []) →
        map (λ (j : Judgement). j.item) (if b then j ∷ filter (λ j. same_socket k j.socket) js else filter (λ j. same_socket k j.socket) js) ≡ []
    at true e on = from_false_true (sym e)
    at false e on = on e

pub raised_here : (x k : SocketId) (c : ℕ) (counts : SocketId → ℕ) (b : Bool) → same_socket k x ≡ b → raised x c counts k ≡ (if b then counts k + c else counts k)
raised_here x k c counts b e = ap (λ t. if t then counts k + c else counts k) (same_turned x k ∙ e)
