-- What stands at a feed's front where it is no frame that is looked at: a MESSAGE, or no whole text.
use Rattle.std.proofs.Common.{◌≡◌, ◌≢◌, ℕ, ◌==◌, Bool, true, false, List, [], ◌∷◌, length, take, drop, Some, None, Result, Ok, Err, refl, sym, ap, ◌∙◌, subst}
use Rattle.std.specs.Prelude.{if◌then◌else◌, nat_lt, slice_get}
use Rattle.std.proofs.lemmas.Bool.{eqb-true}
use Rattle.m2_feed.specs.FeedNow.{FeedNow}
use Rattle.m2_feed.specs.Stands.{Frames}
use Rattle.m2_frame.specs.declared.epilogue.Late.{Late}
use Rattle.m2_frame.specs.declared.epilogue.Late.TheVariants.{Complete, Aborted}
use Rattle.m2_frame.specs.declared.fault.FrameFault.{FrameFault}
use Rattle.m2_frame.specs.declared.fault.FrameFault.TheVariants.{BadSegmentCrc}
use Rattle.m2_frame.specs.declared.preamble.Preamble.{Preamble}
use Rattle.m2_frame.specs.declared.preamble.TheConstants.{PREAMBLE_BYTES}
use Rattle.m2_frame.specs.Frame.{Parts, message_tag}
use Rattle.m2_frame.specs.Preamble.{read_preamble}
use Rattle.m2_frame.specs.Reading.{Item, whole, dropped, start, bad, text, asked_by, first_is_right, first_len, later_len, frame_in, front_of, judge, judge_body, judge_first, judge_later, judge_rest, size_asked, size_in, size_of, text_len}
use Rattle.m2_frame.proofs.Cutting.{bad_isnt_text, same_text, start_isnt_text}
use Rattle.m2_handshake.proofs.Leading.{either}
use Rattle.m2_journal.proofs.Splitting.{split-open}
use Rattle.m2_journal.specs.Said.{Said, says, brings, garbles, Split, said, said_by, said_of_message}
use Rattle.m2_journal.specs.SideFacts.{SideFacts}
use Rattle.m2_journal.specs.State.{Feed, State}
use Rattle.m2_message.specs.declared.header_text.TheConstants.{HEADER_BYTES}
use Rattle.m2_message.specs.MessageFrame.{message_in}
use Rattle.m2_frame.specs.Tags.{tag_in}
use Rattle.m2_bytes.proofs.m2_lemmas.Options.{none_isnt_some}

-- ---- a size that is asked for is that of a MESSAGE

pub item_tag : Item → ℕ
item_tag (whole f) = f.tag
item_tag (dropped tag) = tag

front-tag : (p : Preamble) (first later : List ℕ) (r : Result Late FrameFault) (i : Item) (n : ℕ) → front_of p first later r ≡ text i n → item_tag i ≡ p.tag
unfolding item_tag
front-tag p first later (Ok Complete) i n e = ap item_tag (sym (same_text (whole (frame_in p first later)) i (text_len p) n e).0)
front-tag p first later (Ok Aborted) i n e = ap item_tag (sym (same_text (dropped p.tag) i (text_len p) n e).0)
front-tag p first later (Err f) i n e = absurd (bad_isnt_text f i n e)

later-tag : (p : Preamble) (first after : List ℕ) (i : Item) (n : ℕ) → judge_later p first after ≡ text i n → item_tag i ≡ p.tag
unfolding judge_later
later-tag p first after i n =
    either (λ m. m ≡ text i n → item_tag i ≡ p.tag) (nat_lt (length after) (later_len p)) start (front_of p first (take (later_len p) after) (judge_rest p (take (later_len p) after)))
    (λ e. absurd (start_isnt_text i n e)) (front-tag p first (take (later_len p) after) (judge_rest p (take (later_len p) after)) i n)

first-tag : (p : Preamble) (body : List ℕ) (i : Item) (n : ℕ) → judge_first p body ≡ text i n → item_tag i ≡ p.tag
unfolding judge_first
first-tag p body i n =
    let after = if first_is_right p (take (first_len p) body) then judge_later p (take (first_len p) body) (drop (first_len p) body) else bad (BadSegmentCrc 0) in
    either (λ m. m ≡ text i n → item_tag i ≡ p.tag) (nat_lt (length body) (first_len p)) start after
    (λ e. absurd (start_isnt_text i n e))
    (either (λ m. m ≡ text i n → item_tag i ≡ p.tag) (first_is_right p (take (first_len p) body)) (judge_later p (take (first_len p) body) (drop (first_len p) body)) (bad (BadSegmentCrc 0))
    (later-tag p (take (first_len p) body) (drop (first_len p) body) i n) (λ e. absurd (bad_isnt_text (BadSegmentCrc 0) i n e)))

pub judge-tag : (rest : List ℕ) (p : Preamble) (i : Item) (n : ℕ) → read_preamble (take PREAMBLE_BYTES rest) ≡ Ok p → judge rest ≡ text i n → item_tag i ≡ p.tag
unfolding judge
judge-tag rest p i n read =
    either (λ m. m ≡ text i n → item_tag i ≡ p.tag) (nat_lt (length rest) PREAMBLE_BYTES) start (judge_body (read_preamble (take PREAMBLE_BYTES rest)) (drop PREAMBLE_BYTES rest))
    (λ e. absurd (start_isnt_text i n e))
    (λ e. first-tag p (drop PREAMBLE_BYTES rest) i n (ap (λ r. judge_body r (drop PREAMBLE_BYTES rest)) (sym read) ∙ e))

abbrev pub Asks : List ℕ → Type 0
Asks rest = (p : Preamble) × (read_preamble (take PREAMBLE_BYTES rest) ≡ Ok p) × (p.tag ≡ message_tag)

pub size-in : (p : Preamble) (n : ℕ) → size_in p ≡ Some n → p.tag ≡ message_tag
size-in p n e = eqb-true p.tag message_tag (at (p.tag == message_tag) e)
  where
    at : (b : Bool) → (if b then Some (asked_by p) else None) ≡ Some n → b ≡ true
    at true e = refl
    at false e = absurd (none_isnt_some n e)

pub size-asks : (rest : List ℕ) (n : ℕ) → size_of rest ≡ Some n → Asks rest
unfolding size_of
size-asks rest n =
    either (λ m. m ≡ Some n → Asks rest) (nat_lt (length rest) PREAMBLE_BYTES) None (size_asked (read_preamble (take PREAMBLE_BYTES rest)))
    (λ e. absurd (none_isnt_some n e)) (at (read_preamble (take PREAMBLE_BYTES rest)) refl)
  where
    at : (r : Result Preamble FrameFault) → read_preamble (take PREAMBLE_BYTES rest) ≡ r → size_asked r ≡ Some n → Asks rest
    at (Ok p) q e = (p, q, size-in p n e)
    at (Err f) q e = absurd (none_isnt_some n e)

-- what a MESSAGE says is no payload
abbrev pub IsNoPayload : Said → Type 0
IsNoPayload (says c) = ⊥
IsNoPayload _ = Unit {0}

pub message-says : (f : Parts) → IsNoPayload (said_of_message f)
message-says f = at (length f.first == HEADER_BYTES)
  where
    at : (b : Bool) → IsNoPayload (if b then brings (message_in f) else garbles)
    at true = tt
    at false = tt

pub item-says : (i : Item) → item_tag i ≡ message_tag → IsNoPayload (said i)
unfolding item_tag
item-says (whole f) e = subst (λ t. IsNoPayload (said_by (tag_in t) f)) (sym e) (message-says f)
item-says (dropped tag) e = tt

-- ---- no whole text is there

pub get-past : (xs : List Item) → slice_get xs (length xs) ≡ None
get-past [] = refl
get-past (x ∷ xs) = get-past xs

-- no whole text is there: nothing is left, and the bytes are the replay's
pub open-there : (f : SideFacts) (s : State) (v : FeedNow) (d : Feed) (rest : List ℕ) (granted : Bool) → ((i : Item) (n : ℕ) → judge rest ≢ text i n) → (k : Frames f s v d rest granted) →
    (k.left ≡ []) × (d.rest ≡ rest)
open-there f s v d rest granted none k =
    let both : record { items = k.left; rest = d.rest } ≡ record { items = []; rest = rest } = sym k.splits ∙ split-open rest none in
    (ap (λ (c : Split). c.items) both, ap (λ (c : Split). c.rest) both)
