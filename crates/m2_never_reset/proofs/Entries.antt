-- Every kind of entry, of either side.
use Rattle.std.proofs.Common.{◌≡◌, ◌+◌, Bool, true, false, not, if◌then◌else◌, List, Option, Some, None, refl, sym, ap, ◌∙◌, subst}
use Rattle.m2_journal.specs.m2_fabric.declared.socket.SocketId.{SocketId}
use Rattle.m2_journal.specs.m2_fabric.Sockets.{is_among, same_socket}
use Rattle.m2_queues.specs.QueueLaws.{EachNumberIsAPlace, CallsGoOn}
use Rattle.m2_journal.specs.Items as item
use Rattle.m2_journal.specs.Lawful.{judged_sockets}
use Rattle.m2_journal.specs.Laws.{IfFed, taken_among}
use Rattle.m2_journal.specs.State.{Feed, State}
use Rattle.m2_journal.specs.Steps.{after}
use Rattle.m2_never_reset.specs.CrossingLaws.{AnswersAreSteps}
use Rattle.m2_never_reset.specs.Link.{Joined, apart, by_near, by_far, turned, Link, link, flip}
use Rattle.m2_never_reset.specs.Roles.{Role}
use Rattle.m2_never_reset.specs.Steps.{Step, Run, done, near_acts, far_acts}
use Rattle.m2_never_reset.specs.Fits.{AreItsAsks, Fits}
use Rattle.m2_never_reset.specs.LinkOf.{role_of, joined_by, link_of}
use Rattle.m2_never_reset.specs.PairLaws.{EntriesAreSteps, EntriesOfEitherAreSteps, LinksTurn}
use Rattle.m2_never_reset.specs.Trouble.{trouble_at}
use Rattle.m2_never_reset.proofs.Plans.{posts_are, dials_are}
use Rattle.m2_never_reset.proofs.Opened.{opened_is}
use Rattle.m2_never_reset.proofs.Closed.{closed_is}
use Rattle.m2_never_reset.proofs.Asked.{asked_is}
use Rattle.m2_never_reset.proofs.Numbered.{numbered_is}
use Rattle.m2_never_reset.proofs.Accepted.{accepted_is}
use Rattle.m2_never_reset.proofs.Acked.{acked_is}
use Rattle.m2_never_reset.proofs.Obeyed.{obeyed_is}
use Rattle.m2_never_reset.proofs.Wrote.{wrote_is}
use Rattle.m2_never_reset.proofs.Read.{read_is}
use Rattle.m2_never_reset.proofs.Judged.{judged_is}
use Rattle.m2_never_reset.proofs.Sockets.{at_among, taken_is_judged}
use Rattle.m2_queues.proofs.m2_lemmas.Booleans.{from_false_true}
use Rattle.m2_journal.proofs.m2_fabric.Sockets.{same_equal, same_turned}

pub entries_are : AnswersAreSteps → EachNumberIsAPlace → CallsGoOn → EntriesAreSteps
entries_are tables places go_on f g (item.post place planned) not_down = posts_are f g place planned
entries_are tables places go_on f g (item.dial planned) not_down = dials_are f g planned
entries_are tables places go_on f g (item.opened socket) not_down = opened_is f g socket
entries_are tables places go_on f g (item.read socket bytes) not_down = read_is f g socket bytes
entries_are tables places go_on f g (item.wrote socket bytes) not_down = wrote_is f g socket bytes
entries_are tables places go_on f g (item.closed socket broken) not_down = closed_is f g socket broken
entries_are tables places go_on f g (item.judged socket ask number answer unread trail) not_down =
    judged_is tables f g socket ask number answer unread trail
entries_are tables places go_on f g (item.asked by number) not_down = asked_is f g by number
entries_are tables places go_on f g (item.numbered number) not_down = numbered_is places go_on f g number
entries_are tables places go_on f g (item.accepted number key) not_down = accepted_is f g number key
entries_are tables places go_on f g (item.acked number) not_down = acked_is f g number
entries_are tables places go_on f g (item.obeyed full) not_down = obeyed_is f g full
entries_are tables places go_on f g (item.down planned step) not_down = elim not_down [ ]

-- ---- the link as the other side sees it

turned_twice : (j : Joined) → turned (turned j) ≡ j
turned_twice apart = refl
turned_twice by_near = refl
turned_twice by_far = refl

pub flipped_twice : (l : Link) → flip (flip l) ≡ l
flipped_twice l = ap (λ j. link l.near l.near_stand l.far l.far_stand j l.trouble) (turned_twice l.joined)

-- a run of one side is one of the other
pub turns : (p q : Role) (l m : Link) → Run p q l m → Run q p (flip l) (flip m)
turns p q _ _ (done l) = done (flip l)
turns p q _ _ (near_acts l m n step run) =
    far_acts (flip l) (flip m) (flip n)
    (subst (λ k. Step p k (flip (flip m))) (sym (flipped_twice l)) (subst (λ k. Step p l k) (sym (flipped_twice m)) step)) (turns p q m n run)
turns p q _ _ (far_acts l m n step run) = near_acts (flip l) (flip m) (flip n) step (turns p q m n run)

-- of a socket that is the feed of both one side is the opener
abbrev OneOpened : Option Feed → Option Feed → Type 0
OneOpened (Some d) (Some e) = same_socket d.socket e.socket ≡ true → d.opened ≡ not e.opened
OneOpened _ _ = Unit {0}

joined_turn : (o p : Option Feed) → OneOpened o p → turned (joined_by o p) ≡ joined_by p o
joined_turn None None h = refl
joined_turn None (Some e) h = refl
joined_turn (Some d) None h = refl
joined_turn (Some d) (Some e) h = at (same_socket d.socket e.socket) refl
  where
    which : (x y : Bool) → x ≡ not y → turned (if x then by_near else by_far) ≡ (if y then by_near else by_far)
    which true false e = refl
    which false true e = refl
    which true true e = from_false_true (sym e)
    which false false e = from_false_true e

    at : (t : Bool) → same_socket d.socket e.socket ≡ t →
        turned (joined_by (Some d) (Some e)) ≡ joined_by (Some e) (Some d)
    at true s =
        let other : same_socket e.socket d.socket ≡ true = same_turned e.socket d.socket ∙ s in
        ap (λ b. turned (if b then (if d.opened then by_near else by_far) else apart)) other
        ∙ which d.opened e.opened (h s) ∙ ap (λ b. if b then (if e.opened then by_near else by_far) else apart) (sym s)
    at false s =
        let other : same_socket e.socket d.socket ≡ false = same_turned e.socket d.socket ∙ s in
        ap (λ b. turned (if b then (if d.opened then by_near else by_far) else apart)) other
        ∙ ap (λ b. if b then (if e.opened then by_near else by_far) else apart) (sym s)

-- where a feed is a socket that was opened or taken, as it says
abbrev IsFound : List SocketId → List SocketId → Option Feed → Type 0
IsFound opened taken o = IfFed o (λ d. is_among d.socket (if d.opened then opened else taken) ≡ true)

one_opened : (a b : State) → Fits a b → (o p : Option Feed) → IsFound a.opened (taken_among a.judgements) o →
    IsFound b.opened (taken_among b.judgements) p → OneOpened o p
one_opened a b fits None None h k = tt
one_opened a b fits None (Some e) h k = tt
one_opened a b fits (Some d) None h k = tt
one_opened a b fits (Some d) (Some e) h k = λ s. at d.opened e.opened h k (same_equal d.socket e.socket s)
  where
    at : (x y : Bool) → is_among d.socket (if x then a.opened else taken_among a.judgements) ≡ true →
        is_among e.socket (if y then b.opened else taken_among b.judgements) ≡ true → d.socket ≡ e.socket → x ≡ not y
    at true false h k s = refl
    at false true h k s = refl
    at true true h k s = from_false_true (sym (fits.opened_apart d.socket h) ∙ subst (λ z. is_among z b.opened ≡ true) (sym s) k)
    at false false h k s =
        let mine = at_among (AreItsAsks b.opened b.sent a.judgements) (judged_sockets a) d.socket fits.near_judges
        (taken_is_judged a.judgements d.socket h) in
        let theirs = at_among (AreItsAsks a.opened a.sent b.judgements) (judged_sockets b) e.socket fits.far_judges
        (taken_is_judged b.judgements e.socket k) in
        from_false_true (sym (fits.opened_apart e.socket theirs.opened) ∙ subst (λ z. is_among z b.opened ≡ true) s mine.opened)

pub links_turn : LinksTurn
links_turn f g n a b near far fits =
    ap (λ j. link (link_of n b a).near (link_of n b a).near_stand (link_of n b a).far (link_of n b a).far_stand j n)
    (joined_turn a.feed b.feed (one_opened a b fits a.feed b.feed near.sound.feed far.sound.feed))

-- the words of an order, as the other side sees them
pub fits_turn : (a b : State) → Fits a b → Fits b a
fits_turn a b fits = record {
  near_hears = fits.far_hears;
  far_hears = fits.near_hears;
  near_judges = fits.far_judges;
  far_judges = fits.near_judges;
  opened_apart = λ k h. at k (is_among k a.opened) refl h;
}
  where
    at : (k : SocketId) (t : Bool) → is_among k a.opened ≡ t → is_among k b.opened ≡ true → is_among k a.opened ≡ false
    at k true e h = from_false_true (sym (fits.opened_apart k e) ∙ h)
    at k false e h = e

pub either_is : AnswersAreSteps → EachNumberIsAPlace → CallsGoOn → EntriesOfEitherAreSteps
either_is tables places go_on = record {
  near = entries_are tables places go_on;
  far = λ f g i not_down n a b may.
      let run = entries_are tables places go_on g f i not_down n b a may in
      let before : flip (link_of n b a) ≡ link_of n a b = links_turn g f n b a may.near_replayed may.far_replayed may.fits in
      let behind = links_turn g f (n + trouble_at g i b a)
      (after g i b) a may.after_replayed may.far_replayed may.fits_after in
      subst (λ l. Run (role_of f) (role_of g) l (link_of (n + trouble_at g i b a) a (after g i b))) before
      (subst (λ l. Run (role_of f) (role_of g) (flip (link_of n b a)) l) behind (turns (role_of g) (role_of f) _ _ run));
}
