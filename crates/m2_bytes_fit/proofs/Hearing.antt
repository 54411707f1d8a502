-- A feed that reads more bytes has heard all that was read on its socket.
use Rattle.std.proofs.Common.{◌≡◌, ℕ, ◌⊎◌, inl, inr, Bool, true, false, if◌then◌else◌, List, [], ◌∷◌, ◌++◌, Some, None, refl, sym, ap, ◌∙◌, subst, append_assoc, append-nil}
use Rattle.std.specs.List.{AllByRecursion}
use Rattle.m2_feed.specs.m2_fabric.declared.socket.SocketId.{SocketId}
use Rattle.m2_feed.specs.m2_frame.Reading.{Item}
use Rattle.m2_feed.specs.m2_handshake.declared.stage.HalfSide.TheVariants.{Opener}
use Rattle.m2_feed.specs.m2_handshake.Course.{Course, course_of, text_of}
use Rattle.m2_feed.specs.m2_handshake.Moves.{is_authed}
use Rattle.m2_feed.specs.m2_handshake.Standing.{Standing, fed}
use Rattle.m2_feed.proofs.m2_handshake.Course.{feeds, rests_there}
use Rattle.m2_feed.proofs.m2_handshake.Reaching.{fed_twice}
use Rattle.m2_feed.specs.m2_journal.Feeds.{greets, signs, split_into, goes_on, hears_at, hears, silent_feed}
use Rattle.m2_feed.specs.m2_journal.OutFrames.{OutFrame}
use Rattle.m2_feed.specs.m2_journal.Said.{Split, split}
use Rattle.m2_feed.specs.m2_journal.SideFacts.{SideFacts, opener_half}
use Rattle.m2_feed.specs.m2_journal.State.{PartText, Feed}
use Rattle.m2_feed.proofs.m2_journal.Splitting.{split-feed}
use Rattle.m2_feed.proofs.Courses.{ran, goes-on, going_on, rested-course, texts-append, runs-side}
use Rattle.m2_bytes_fit.specs.Texts.{texts_of}
use Rattle.m2_bytes_fit.proofs.Kept.{course_at, heard_of, IsNamed, OpenedFeed, TakenFeed}
use Rattle.m2_bytes_fit.proofs.Lists.{not_nil, some_not_none}
use Rattle.m2_bytes_fit.proofs.Openers.{fed_rest}
use Rattle.m2_bytes_fit.proofs.Puts.{HasPut, late_text}
use Rattle.m2_feed.proofs.m2_lemmas.Booleans.{from_false_true}

-- ---- what signs

abbrev signs_if : Bool → Standing → Feed → Feed
signs_if b s d = if b then split_into (split s.rest) (record d { hand = None }) else record d { hand = Some s }

signs_so : (b : Bool) (s : Standing) (d : Feed) → is_authed s.stage ≡ b → signs s d ≡ signs_if b s d
signs_so b s d e = ap (λ x. signs_if x s d) e

-- ---- the course goes on

course_on : (f : SideFacts) (read bytes : List ℕ) →
    course_at f (read ++ bytes) ≡ going_on (course_at f read).events (course_of (fed (course_at f read).standing bytes) [])
course_on f read bytes =
    let begin = opener_half f in
    let c = course_at f read in
    let r = ran (fed begin read) in
    ap (λ s. course_of s []) (sym (fed_twice begin read bytes))
    ∙ goes-on c.events (fed (fed begin read) bytes) (fed c.standing bytes) (feeds c.events (fed begin read) c.standing bytes r.runs) r.no_replies

opener_there : (f : SideFacts) (read : List ℕ) → (course_at f read).standing.side ≡ Opener
opener_there f read =
    let c = course_at f read in
    let r = ran (fed (opener_half f) read) in
    runs-side c.events (fed (opener_half f) read) c.standing r.runs

-- ---- both sides have signed

record HearsOn (f : SideFacts) (k : SocketId) (read bytes : List ℕ) : Type 0 where
  hand : (heard_of f k (read ++ bytes)).hand ≡ None
  got : (heard_of f k (read ++ bytes)).got ≡ (heard_of f k read).got ++ (split ((heard_of f k read).rest ++ bytes)).items
  rest : (heard_of f k (read ++ bytes)).rest ≡ (split ((heard_of f k read).rest ++ bytes)).rest
  was : (heard_of f k read).hand ≡ None
  text : text_of (course_at f (read ++ bytes)).events ≡ text_of (course_at f read).events

hears_on : (f : SideFacts) (k : SocketId) (read bytes : List ℕ) → is_authed (course_at f read).standing.stage ≡ true → HearsOn f k read bytes
hears_on f k read bytes q =
    let c = course_at f read in
    let s = c.standing in
    let t = fed s bytes in
    let e = silent_feed k true 0 false in
    let there = fed_rest s bytes q in
    let signed : is_authed t.stage ≡ true = ap is_authed there.0 ∙ q in
    let rested : course_of t [] ≡ record { events = []; standing = t } = rested-course t (rests_there.signed t (there.2 ∙ opener_there f read) signed) in
    let on : course_at f (read ++ bytes) ≡ record { events = c.events ++ []; standing = t } = course_on f read bytes ∙ ap (going_on c.events) rested in
    let old : heard_of f k read ≡ signs_if true s e = signs_so true s e q in
    let new : heard_of f k (read ++ bytes) ≡ signs_if true t e = ap (λ (x : Course). signs x.standing e) on ∙ signs_so true t e signed in
    let pieces : split t.rest ≡ record { items = (split s.rest).items ++ (split ((split s.rest).rest ++ bytes)).items; rest = (split ((split s.rest).rest ++ bytes)).rest } =
    ap split there.1 ∙ split-feed s.rest bytes in
    let left : (heard_of f k read).rest ≡ (split s.rest).rest = ap (λ (d : Feed). d.rest) old in
    let more : split ((heard_of f k read).rest ++ bytes) ≡ split ((split s.rest).rest ++ bytes) = ap (λ (l : List ℕ). split (l ++ bytes)) left in
    record {
      hand = ap (λ (d : Feed). d.hand) new;
      got =
          ap (λ (d : Feed). d.got) new ∙ ap (λ (x : Split). x.items) pieces
          ∙ ap (λ (l : List Item). l ++ (split ((split s.rest).rest ++ bytes)).items) (sym (ap (λ (d : Feed). d.got) old))
          ∙ ap (λ (x : Split). (heard_of f k read).got ++ x.items) (sym more);
      rest = ap (λ (d : Feed). d.rest) new ∙ ap (λ (x : Split). x.rest) pieces ∙ ap (λ (x : Split). x.rest) (sym more);
      was = ap (λ (d : Feed). d.hand) old;
      text = ap (λ (x : Course). text_of x.events) on ∙ ap text_of (append-nil c.events);
    }

-- ---- before that, what is written goes behind what is begun

pub record Greets (f : SideFacts) (wrote all words : List ℕ) (texts : List PartText) : Type 0 where
  pub put : HasPut f wrote (all ++ words) (greets words texts)
  pub named : AllByRecursion IsNamed (greets words texts)

pub greets_so : (f : SideFacts) (wrote all words : List ℕ) (texts : List PartText) → HasPut f wrote all texts → AllByRecursion IsNamed texts → Greets f wrote all words texts
greets_so f wrote all [] texts p n = record { put = subst (λ l. HasPut f wrote l texts) (sym (append-nil all)) p; named = n }
greets_so f wrote all (b ∷ bs) [] p n = record {
  put = record {
    each = ((ap (λ l. l ++ b ∷ bs) (p.none refl) ∙ sym (append-nil (all ++ b ∷ bs)), λ u. from_false_true u), tt);
    none = λ q. not_nil q;
  };
  named = (refl, tt);
}
greets_so f wrote all (b ∷ bs) (t ∷ ts) p n =
    let late : late_text f t.frame ≡ [] = rw n.0 refl in
    record {
      put = record {
        each = (
          (
            sym (append_assoc wrote t.left (b ∷ bs)) ∙ ap (λ l. l ++ b ∷ bs) (p.each.0.0 ∙ ap (λ l. all ++ l) late ∙ append-nil all)
                ∙ sym (append-nil (all ++ b ∷ bs)) ∙ ap (λ l. (all ++ b ∷ bs) ++ l) (sym late),
            λ u. from_false_true (sym n.0 ∙ u),
          ),
          tt,
        );
        none = λ q. not_nil q;
      };
      named = (n.0, tt);
    }

-- ---- the feed of a socket that was opened

not_none : (s : Standing) → Some s ≡ None → ⊥
not_none s e = some_not_none e

pub opened_hears : (f : SideFacts) (read bytes wrote : List ℕ) (frames : List OutFrame) (d : Feed) → OpenedFeed f read wrote frames d →
    ((hears bytes d).socket ≡ d.socket) × OpenedFeed f (read ++ bytes) wrote frames (hears bytes d)
opened_hears f read bytes wrote frames d h = at (is_authed (course_at f read).standing.stage) refl
  where
    c : Course
    c = course_at f read

    at : (b : Bool) → is_authed (course_at f read).standing.stage ≡ b → ((hears bytes d).socket ≡ d.socket) × OpenedFeed f (read ++ bytes) wrote frames (hears bytes d)
    at true q =
        let on = hears_on f d.socket read bytes q in
        let none : d.hand ≡ None = h.hand ∙ on.was in
        let e : Feed = split_into (split (d.rest ++ bytes)) d in
        let is : hears bytes d ≡ e = ap (λ o. hears_at o bytes d) none in
        let more : split (d.rest ++ bytes) ≡ split ((heard_of f d.socket read).rest ++ bytes) = ap (λ l. split (l ++ bytes)) h.rest in
        subst (λ (x : Feed). (x.socket ≡ d.socket) × OpenedFeed f (read ++ bytes) wrote frames x) (sym is) (
          refl,
          record {
            opened = h.opened;
            hand = none ∙ sym on.hand;
            got = ap (λ l. l ++ (split (d.rest ++ bytes)).items) h.got ∙ ap (λ (x : Split). (heard_of f d.socket read).got ++ x.items) more ∙ sym on.got;
            rest = ap (λ (x : Split). x.rest) more ∙ sym on.rest;
            put = subst (λ l. HasPut f wrote (l ++ texts_of f frames) d.texts) (sym on.text) h.put;
            unsigned = inl none;
          },
        )
    at false q = by_hand h.unsigned
      where
        s : Standing
        s = c.standing

        silent : Feed
        silent = silent_feed d.socket true 0 false

        was : heard_of f d.socket read ≡ signs_if false s silent
        was = signs_so false s silent q

        hand : d.hand ≡ Some s
        hand = h.hand ∙ ap (λ (x : Feed). x.hand) was

        got : d.got ≡ []
        got = h.got ∙ ap (λ (x : Feed). x.got) was

        rest : d.rest ≡ []
        rest = h.rest ∙ ap (λ (x : Feed). x.rest) was

        c2 : Course
        c2 = course_of (fed s bytes) []

        on : course_at f (read ++ bytes) ≡ going_on c.events c2
        on = course_on f read bytes

        put : Feed
        put = record d { texts = greets (text_of c2.events) d.texts }

        is : hears bytes d ≡ goes_on c2 d
        is = ap (λ o. hears_at o bytes d) hand

        by_hand : (d.hand ≡ None) ⊎ ((frames ≡ []) × AllByRecursion IsNamed d.texts) → ((hears bytes d).socket ≡ d.socket) × OpenedFeed f (read ++ bytes) wrote frames (hears bytes d)
        by_hand (inl none) = absurd (not_none s (sym hand ∙ none))
        by_hand (inr (none, named)) =
            subst (λ (x : Feed). (x.socket ≡ d.socket) × OpenedFeed f (read ++ bytes) wrote frames x) (sym is)
            (by_sign (is_authed c2.standing.stage) refl)
          where
            nothing : texts_of f frames ≡ []
            nothing = ap (texts_of f) none

            greeted : Greets f wrote (text_of c.events ++ texts_of f frames) (text_of c2.events) d.texts
            greeted = greets_so f wrote (text_of c.events ++ texts_of f frames) (text_of c2.events) d.texts h.put named

            whole : (text_of c.events ++ texts_of f frames) ++ text_of c2.events ≡ text_of (course_at f (read ++ bytes)).events ++ texts_of f frames
            whole =
                ap (λ l. (text_of c.events ++ l) ++ text_of c2.events) nothing ∙ ap (λ l. l ++ text_of c2.events) (append-nil (text_of c.events))
                ∙ sym (texts-append c.events c2.events) ∙ ap (λ (x : Course). text_of x.events) (sym on)
                ∙ sym (append-nil (text_of (course_at f (read ++ bytes)).events)) ∙ ap (λ l. text_of (course_at f (read ++ bytes)).events ++ l) (sym nothing)

            has : HasPut f wrote (text_of (course_at f (read ++ bytes)).events ++ texts_of f frames) put.texts
            has = subst (λ l. HasPut f wrote l put.texts) whole greeted.put

            heard : (b : Bool) → is_authed c2.standing.stage ≡ b → heard_of f d.socket (read ++ bytes) ≡ signs_if b c2.standing silent
            heard b e = ap (λ (x : Course). signs x.standing silent) on ∙ signs_so b c2.standing silent e

            by_sign : (b : Bool) → is_authed c2.standing.stage ≡ b → ((goes_on c2 d).socket ≡ d.socket) × OpenedFeed f (read ++ bytes) wrote frames (goes_on c2 d)
            by_sign true e =
                subst (λ (x : Feed). (x.socket ≡ d.socket) × OpenedFeed f (read ++ bytes) wrote frames x) (sym (signs_so true c2.standing put e)) (
                  refl,
                  record {
                    opened = h.opened;
                    hand = sym (ap (λ (x : Feed). x.hand) (heard true e));
                    got = ap (λ l. l ++ (split c2.standing.rest).items) got ∙ sym (ap (λ (x : Feed). x.got) (heard true e));
                    rest = sym (ap (λ (x : Feed). x.rest) (heard true e));
                    put = has;
                    unsigned = inl refl;
                  },
                )
            by_sign false e =
                subst (λ (x : Feed). (x.socket ≡ d.socket) × OpenedFeed f (read ++ bytes) wrote frames x) (sym (signs_so false c2.standing put e)) (
                  refl,
                  record {
                    opened = h.opened;
                    hand = sym (ap (λ (x : Feed). x.hand) (heard false e));
                    got = got ∙ sym (ap (λ (x : Feed). x.got) (heard false e));
                    rest = rest ∙ sym (ap (λ (x : Feed). x.rest) (heard false e));
                    put = has;
                    unsigned = inr (none, greeted.named);
                  },
                )

-- ---- the feed of a socket that was taken

pub taken_hears : (f : SideFacts) (unread read bytes wrote : List ℕ) (after : List OutFrame) (d : Feed) → TakenFeed f unread read wrote after d →
    ((hears bytes d).socket ≡ d.socket) × TakenFeed f unread (read ++ bytes) wrote after (hears bytes d)
taken_hears f unread read bytes wrote after d h =
    let e : Feed = split_into (split (d.rest ++ bytes)) d in
    let is : hears bytes d ≡ e = ap (λ o. hears_at o bytes d) h.hand in
    let pieces : split (unread ++ (read ++ bytes)) ≡ record { items = (split (unread ++ read)).items ++ (split ((split (unread ++ read)).rest ++ bytes)).items; rest = (split ((split (unread ++ read)).rest ++ bytes)).rest } =
    ap split (sym (append_assoc unread read bytes)) ∙ split-feed (unread ++ read) bytes in
    let more : split (d.rest ++ bytes) ≡ split ((split (unread ++ read)).rest ++ bytes) = ap (λ l. split (l ++ bytes)) h.rest in
    subst (λ (x : Feed). (x.socket ≡ d.socket) × TakenFeed f unread (read ++ bytes) wrote after x) (sym is) (
      refl,
      record {
        opened = h.opened;
        hand = h.hand;
        got = ap (λ l. l ++ (split (d.rest ++ bytes)).items) h.got ∙ ap (λ (x : Split). (split (unread ++ read)).items ++ x.items) more ∙ sym (ap (λ (x : Split). x.items) pieces);
        rest = ap (λ (x : Split). x.rest) more ∙ sym (ap (λ (x : Split). x.rest) pieces);
        put = h.put;
      },
    )
