-- Bytes of a handshake are put.
use Rattle.std.proofs.Common.{◌≡◌, ◌≢◌, ℕ, ◌+◌, ◌<◌, Bool, true, false, not, List, [], ◌∷◌, ◌++◌, length, Some, refl, sym, ap, ◌∙◌, subst, arith, append_assoc}
use Rattle.std.specs.Prelude.{◌&&◌, nat_lt}
use Rattle.std.specs.List.{AllByRecursion}
use Rattle.m2_handshake.specs.Course.{course_of, text_of}
use Rattle.m2_handshake.specs.Standing.{Standing}
use Rattle.m2_journal.specs.Feeds.{greets, signs, silent_feed, narrowed, texts_at}
use Rattle.m2_journal.specs.OutFrames.{OutFrame, greeting, acknowledges, keepalives_answered}
use Rattle.m2_journal.specs.SideFacts.{SideFacts}
use Rattle.m2_journal.specs.State.{PartText, Feed, State}
use Rattle.m2_journal.specs.Steps.{puts, puts_whole, with_feed}
use Rattle.m2_feed.specs.FeedNow.{FeedNow}
use Rattle.m2_feed.specs.Stands.{HasText, IsOfKind, Shakes}
use Rattle.m2_feed.proofs.Putting.{Narrows, narrowed-there, has-some, whole-put, part-put}
use Rattle.m2_feed.proofs.Puts.{Late, late, and_true, begun-narrows, feed-whole, texts-begun}

greets-some : (bytes more : List ℕ) → 0 < length bytes → greets (bytes ++ more) [] ≡ record { frame = greeting; left = bytes ++ more } ∷ []
greets-some [] more h = absurd (omega (arith, h))
greets-some (b ∷ bs) more h = refl

pub record PutsGreeting (f : SideFacts) (s : State) (bytes left : List ℕ) (h : Standing) (x : FeedNow) (d : Feed) : Type 0 where
  pub text : nat_lt 0 (length (narrowed bytes (texts_at f s d))) ≡ true
  pub feed : Feed
  pub fed : (puts f bytes d s).feed ≡ Some feed
  pub socket : feed.socket ≡ d.socket
  pub opened : feed.opened ≡ d.opened
  pub owes : (puts f bytes d s).owes ≡ (s.owes && true)
  pub shakes : Shakes h x feed

module _ (f : SideFacts) (s : State) (bytes left : List ℕ) (h : Standing) (v x : FeedNow) (d : Feed) (k : Shakes h v d) (some : 0 < length bytes)
    (is : v.composed ≡ bytes ++ left) (composed : x.composed ≡ left) (writing : x.writing ≡ v.writing) (stamps : x.stamps ≡ v.stamps) where
  -- what of the handshake is left with what the half is still to write
  all_left : List ℕ
  all_left = left ++ text_of (course_of h []).events

  texts : d.texts ≡ record { frame = greeting; left = bytes ++ all_left } ∷ []
  unfolding all_left
  texts =
      k.texts ∙ ap (λ (l : List ℕ). greets (l ++ text_of (course_of h []).events) []) is
      ∙ ap (λ (l : List ℕ). greets l []) (append_assoc bytes left (text_of (course_of h []).events)) ∙ greets-some bytes (left ++ text_of (course_of h []).events) some

  one : HasText (record { frame = greeting; left = bytes ++ all_left }) d.texts
  one = ([], [], texts)

  narrow : Narrows (λ o. o ≡ greeting) greeting all_left (narrowed bytes (texts_at f s d))
  narrow =
      begun-narrows f s (λ o. o ≡ greeting) greeting bytes all_left (bytes ++ all_left) d refl one
      (subst (AllByRecursion (IsOfKind (λ o. o ≡ greeting) (length (bytes ++ all_left)))) (sym texts) ((refl, refl), tt))

  single : narrowed bytes (texts_at f s d) ≡ record { frame = greeting; left = all_left } ∷ []
  single = ap (narrowed bytes) (texts-begun f s d (record { frame = greeting; left = bytes ++ all_left }) one ∙ texts) ∙ narrowed-there bytes all_left greeting []

  -- the rest of what is known of the half stays
  shakes_on : (e : Feed) → e.socket ≡ d.socket → e.hand ≡ d.hand → e.got ≡ d.got → e.rest ≡ d.rest → e.taken ≡ d.taken → e.answered ≡ d.answered →
      e.texts ≡ greets all_left [] → Shakes h x e
  unfolding all_left
  shakes_on e socket hand got rest taken answered new = record {
    side = k.side;
    unsigned = k.unsigned;
    hand = hand ∙ k.hand ∙ ap (λ z. (signs (course_of h []).standing (silent_feed z true 0 false)).hand) (sym socket);
    got = got ∙ k.got ∙ ap (λ z. (signs (course_of h []).standing (silent_feed z true 0 false)).got) (sym socket);
    rest = rest ∙ k.rest ∙ ap (λ z. (signs (course_of h []).standing (silent_feed z true 0 false)).rest) (sym socket);
    texts = new ∙ ap (λ (l : List ℕ). greets (l ++ text_of (course_of h []).events) []) (sym composed);
    taken = taken ∙ k.taken;
    answered = answered ∙ k.answered;
    writing = writing ∙ k.writing;
    stamps = stamps ∙ k.stamps;
  }

  put_at : (l : List ℕ) → l ≡ all_left → PutsGreeting f s bytes left h x d
  put_at [] e =
      let ts = narrowed bytes (texts_at f s d) in
      let put = whole-put (λ o. o ≡ greeting) greeting ts d s (subst (λ (y : List ℕ). Narrows (λ o. o ≡ greeting) greeting y ts) (sym e) narrow) in
      let t = put.0 in
      let l = late t d s in
      let new : Feed = feed-whole t d s in
      record {
        text = has-some (record { frame = greeting; left = all_left }) ts narrow.one;
        feed = new;
        fed = ap (λ (y : State). y.feed) put.2 ∙ l.feed;
        socket = refl;
        opened = refl;
        owes = ap (λ (y : State). y.owes) put.2 ∙ l.owes ∙ ap (λ (o : OutFrame). s.owes && not (acknowledges o)) put.1;
        shakes = shakes_on new refl refl refl refl refl
            (ap (λ (o : OutFrame). d.answered + keepalives_answered o) put.1 ∙ omega arith)
            (ap (λ (y : List ℕ). greets y []) e);
      }
  put_at (b ∷ bs) e =
      let ts = narrowed bytes (texts_at f s d) in
      let all : AllByRecursion (IsOfKind (λ o. o ≡ greeting) (length (b ∷ bs))) ts =
      subst (λ (y : List ℕ). AllByRecursion (IsOfKind (λ o. o ≡ greeting) (length y)) ts) (sym e) narrow.all in
      let put = part-put (λ o. o ≡ greeting) b bs ts d s all in
      let new : Feed = record d { texts = ts } in
      record {
        text = has-some (record { frame = greeting; left = all_left }) ts narrow.one;
        feed = new;
        fed = ap (λ (y : State). y.feed) put;
        socket = refl;
        opened = refl;
        owes = ap (λ (y : State). y.owes) put ∙ and_true s.owes;
        shakes = shakes_on new refl refl refl refl refl refl
            (single ∙ ap (λ (y : List ℕ). record { frame = greeting; left = y } ∷ []) (sym e) ∙ ap (λ (y : List ℕ). greets y []) e);
      }

  pub greeting-put : PutsGreeting f s bytes left h x d
  greeting-put = put_at all_left refl
