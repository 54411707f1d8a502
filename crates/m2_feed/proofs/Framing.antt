-- Once both sides have signed: what stands at the front of the decoder is the next text of the replay that isn't passed
-- over, and what is heard, passed or taken keeps it so.
use Rattle.std.proofs.Common.{◌≡◌, ◌≢◌, ℕ, suc, ◌+◌, ◌-◌, ◌≤◌, ◌<◌, ◌==◌, Bool, true, false, cond, List, [], ◌∷◌, ◌++◌, length, take, drop, map, Option, Some, None, refl, sym, ap, ◌∙◌, subst, arith, append_assoc, append-nil}
use Rattle.std.specs.Prelude.{◌&&◌, nat_le, slice_get, option_map}
use Rattle.std.specs.List.{AllByRecursion, filter_map, cons_option, prefix_len}
use Rattle.std.specs.Option.{option_to_list}
use Rattle.std.proofs.lemmas.Bool.{true≢false, leb-true, le-leb}
use Rattle.std.proofs.lemmas.List.{drop-append-le, length-append}
use Rattle.m2_control.specs.declared.control.Control.TheVariants as control
use Rattle.m2_control.specs.declared.keepalive.Keepalive.{Keepalive}
use Rattle.m2_frame.specs.Reading.{Item, text, judge}
use Rattle.m2_journal.specs.Feeds.{split_into, hears, hears_at, is_passed, stamp_of, stamps_in, said_at, answer_said, next_place, next_said, first_owed}
use Rattle.m2_journal.specs.Said.{Said, says, brings, aborts, garbles, Split, split, said, behind}
use Rattle.m2_journal.specs.SideFacts.{SideFacts}
use Rattle.m2_journal.specs.State.{PartText, Feed, State}
use Rattle.m2_journal.specs.Steps.{takes_answer}
use Rattle.m2_journal.proofs.Splitting.{split-feed, split-next}
use Rattle.m2_feed.specs.declared.writing.Writing.{Writing}
use Rattle.m2_feed.specs.declared.writing.Writing.TheVariants.{Nothing, Named, Acknowledgement, KeepaliveAnswer}
use Rattle.m2_feed.specs.FeedNow.{FeedNow}
use Rattle.m2_feed.specs.Stands.{Frames, MayAcknowledge, WritesAs, WritesNamed, WritesAcknowledgement, HasPutAcknowledgement, WritesKeepaliveAnswer, HasPutKeepaliveAnswer, IsNextStamp, is_ready, passes_over}

-- ---- lists

cons-append : (o : Option Keepalive) (xs ys zs : List Keepalive) → xs ≡ ys ++ zs → cons_option o xs ≡ cons_option o ys ++ zs
cons-append (Some k) xs ys zs e = ap (λ (l : List Keepalive). k ∷ l) e
cons-append None xs ys zs e = e

pub stamps-append : (xs ys : List Item) → stamps_in (xs ++ ys) ≡ stamps_in xs ++ stamps_in ys
stamps-append [] ys = refl
stamps-append (x ∷ xs) ys = cons-append (stamp_of (said x)) (stamps_in (xs ++ ys)) (stamps_in xs) (stamps_in ys) (stamps-append xs ys)

pub stamps-more : (xs : List Item) (item : Item) → stamps_in (xs ++ item ∷ []) ≡ stamps_in xs ++ option_to_list (stamp_of (said item))
stamps-more xs item = stamps-append xs (item ∷ []) ∙ ap (λ (l : List Keepalive). stamps_in xs ++ l) (at (stamp_of (said item)))
  where
    at : (o : Option Keepalive) → cons_option o [] ≡ option_to_list o
    at (Some k) = refl
    at None = refl

pub all-append : (P : Item → Type 0) (xs : List Item) (y : Item) → AllByRecursion P xs → P y → AllByRecursion P (xs ++ y ∷ [])
all-append P [] y h k = (k, tt)
all-append P (x ∷ xs) y h k = (h.0, all-append P xs y h.1 k)

pub all-map : (P Q : Item → Type 0) → ((x : Item) → P x → Q x) → (xs : List Item) → AllByRecursion P xs → AllByRecursion Q xs
all-map P Q f [] h = tt
all-map P Q f (x ∷ xs) h = (f x h.0, all-map P Q f xs h.1)

-- the first that doesn't pass
pub prefix-all : (p : Item → Bool) (xs : List Item) (y : Item) (ys : List Item) → AllByRecursion (λ x. p x ≡ true) xs → p y ≡ false → prefix_len p (xs ++ y ∷ ys) ≡ length xs
prefix-all p [] y ys h k = ap (λ (b : Bool). cond b (1 + prefix_len p ys) 0) k
prefix-all p (x ∷ xs) y ys h k =
    ap (λ (b : Bool). cond b (1 + prefix_len p (xs ++ y ∷ ys)) 0) h.0
    ∙ ap (λ (n : ℕ). 1 + n) (prefix-all p xs y ys h.1 k) ∙ omega arith

pub drop-all : (xs ys : List Item) → drop (length xs) (xs ++ ys) ≡ ys
drop-all [] ys = refl
drop-all (x ∷ xs) ys = drop-all xs ys

pub get-there : (xs : List Item) (y : Item) (ys : List Item) → slice_get (xs ++ y ∷ ys) (length xs) ≡ Some y
get-there [] y ys = refl
get-there (x ∷ xs) y ys = get-there xs y ys

-- ---- what is written stays

pub writes-same : (w : Writing) (f : SideFacts) (s t : State) (v x : FeedNow) (d e : Feed) →
    x.composed ≡ v.composed → x.stamps ≡ v.stamps → e.texts ≡ d.texts → first_owed e ≡ first_owed d →
    (is_ready s ≡ true → (is_ready t ≡ true) × (s.last ≤ t.last) × (s.owes ≡ true → t.owes ≡ true)) →
    WritesAs w f s v d → WritesAs w f t x e
writes-same Nothing f s t v x d e composed stamps texts first on h = (composed ∙ h.0, texts ∙ h.1)
writes-same (Named acks) f s t v x d e composed stamps texts first on h = record {
  frame = h.frame;
  named = h.named;
  pays = h.pays;
  some = λ q. h.some (sym composed ∙ q);
  texts = texts ∙ h.texts ∙ ap (λ (l : List ℕ). record { frame = h.frame; left = l } ∷ []) (sym composed);
}
writes-same (Acknowledgement number false) f s t v x d e composed stamps texts first on h =
    let k = on h.ready in
    record {
      ready = k.0;
      may = record { owes = k.2 h.may.owes; kept = h.may.kept; from = rw first h.may.from; to = omega (arith, h.may.to, k.1) };
      texts = texts ∙ h.texts;
      composed = composed ∙ h.composed;
    }
writes-same (Acknowledgement number true) f s t v x d e composed stamps texts first on h =
    record { ready = (on h.ready).0; goes_on = rw (composed, texts) h.goes_on }
writes-same (KeepaliveAnswer false) f s t v x d e composed stamps texts first on h = record {
  ready = (on h.ready).0;
  stamp = h.stamp;
  next = rw stamps h.next;
  texts = texts ∙ h.texts;
  composed = composed ∙ h.composed;
}
writes-same (KeepaliveAnswer true) f s t v x d e composed stamps texts first on h =
    record { ready = (on h.ready).0; stamp = h.stamp; next = rw stamps h.next; goes_on = rw (composed, texts) h.goes_on }

abbrev Same : State → State → Type 0
Same s t = is_ready s ≡ true → (is_ready t ≡ true) × (s.last ≤ t.last) × (s.owes ≡ true → t.owes ≡ true)

pub same : (s : State) → Same s s
same s q = (q, omega arith, λ o. o)

-- ---- hearing

pub frames-hear : (f : SideFacts) (s : State) (bytes : List ℕ) (v x : FeedNow) (d : Feed) (rest : List ℕ) (granted : Bool) →
    x.composed ≡ v.composed → x.writing ≡ v.writing → x.stamps ≡ v.stamps →
    Frames f s v d rest granted → (hears bytes d ≡ split_into (split (d.rest ++ bytes)) d) × Frames f s x (split_into (split (d.rest ++ bytes)) d) (rest ++ bytes) granted
frames-hear f s bytes v x d rest granted composed writing stamps k =
    let more = split (d.rest ++ bytes) in
    let e : Feed = split_into more d in (
      ap (λ o. hears_at o bytes d) k.hand,
      record {
        hand = k.hand;
        before = k.before;
        passed = k.passed;
        left = k.left ++ more.items;
        got = ap (λ (l : List Item). l ++ more.items) k.got ∙ append_assoc (k.before ++ k.passed) k.left more.items;
        taken = k.taken;
        splits = split-feed rest bytes ∙ ap (λ (c : Split). record { items = c.items ++ (split (c.rest ++ bytes)).items; rest = (split (c.rest ++ bytes)).rest }) k.splits;
        passes = k.passes;
        ungranted = k.ungranted;
        answered = k.answered;
        stamps = stamps ∙ k.stamps;
        writes = subst (λ (w : Writing). WritesAs w f s x e) (sym writing) (writes-same v.writing f s s v x d e composed stamps refl refl (same s) k.writes);
      },
    )

-- ---- the front

-- the first of what is left, and what follows it
pub record Left (item : Item) (len : ℕ) (rest : List ℕ) (left : List Item) (end : List ℕ) : Type 0 where
  pub more : List Item
  pub is : left ≡ item ∷ more
  pub then : split (drop len rest) ≡ record { items = more; rest = end }

pub at-front : (item : Item) (len : ℕ) (rest end : List ℕ) (left : List Item) → split rest ≡ record { items = left; rest = end } → judge rest ≡ text item len → Left item len rest left end
at-front item len rest end left s j =
    let next : split rest ≡ behind item (split (drop len rest)) = split-next rest item len j in
    let both : record { items = left; rest = end } ≡ behind item (split (drop len rest)) = sym s ∙ next in
    record {
      more = (split (drop len rest)).items;
      is = ap (λ (c : Split). c.items) both;
      then = ap (λ (l : List ℕ). record { items = (split (drop len rest)).items; rest = l }) (sym (ap (λ (c : Split). c.rest) both));
    }

-- ---- passing

pub frames-pass : (f : SideFacts) (s : State) (item : Item) (len : ℕ) (v x : FeedNow) (d : Feed) (rest : List ℕ) (granted : Bool) →
    judge rest ≡ text item len → passes_over s item ≡ true →
    x.composed ≡ v.composed → x.writing ≡ v.writing → x.stamps ≡ v.stamps ++ option_to_list (stamp_of (said item)) →
    Frames f s v d rest granted → Frames f s x d (drop len rest) false
frames-pass f s item len v x d rest granted j passes composed writing stamps k =
    let l = at-front item len rest d.rest k.left k.splits j in
    let one : List Item = item ∷ [] in
    let more = option_to_list (stamp_of (said item)) in
    let ends : stamps_in (k.before ++ (k.passed ++ one)) ≡ stamps_in (k.before ++ k.passed) ++ more =
    ap stamps_in (sym (append_assoc k.before k.passed one)) ∙ stamps-more (k.before ++ k.passed) item in
    let all : x.stamps ≡ drop d.answered (stamps_in (k.before ++ (k.passed ++ one))) =
    stamps ∙ ap (λ (y : List Keepalive). y ++ more) k.stamps ∙ sym (drop-append-le d.answered (stamps_in (k.before ++ k.passed)) more k.answered) ∙ ap (drop d.answered) (sym ends) in
    record {
      hand = k.hand;
      before = k.before;
      passed = k.passed ++ one;
      left = l.more;
      got = k.got ∙ ap (λ (y : List Item). k.before ++ k.passed ++ y) l.is ∙ sym (append_assoc (k.before ++ k.passed) one l.more) ∙ ap (λ (y : List Item). y ++ l.more) (append_assoc k.before k.passed one);
      taken = k.taken;
      splits = l.then;
      passes = all-append (λ y. passes_over s y ≡ true) k.passed item k.passes passes;
      ungranted = λ q. refl;
      answered = (let n = length-append (stamps_in (k.before ++ k.passed)) more in omega (arith, k.answered, ap length ends, n));
      stamps = all;
      writes = subst (λ (w : Writing). WritesAs w f s x d) (sym writing) (writes-pass v.writing f s v x d more composed stamps k.writes);
    }
  where
    -- a stamp that is noted stands behind the next one
    later-stamp : (k : Keepalive) (xs more : List Keepalive) → IsNextStamp k xs → IsNextStamp k (xs ++ more)
    later-stamp k xs more h = (h.0 ++ more, ap (λ (l : List Keepalive). l ++ more) h.1)

    writes-pass : (w : Writing) (f : SideFacts) (s : State) (v x : FeedNow) (d : Feed) (more : List Keepalive) →
        x.composed ≡ v.composed → x.stamps ≡ v.stamps ++ more → WritesAs w f s v d → WritesAs w f s x d
    writes-pass Nothing f s v x d more composed stamps h = (composed ∙ h.0, h.1)
    writes-pass (Named acks) f s v x d more composed stamps h = rw composed h
    writes-pass (Acknowledgement number false) f s v x d more composed stamps h =
        record { ready = h.ready; may = h.may; texts = h.texts; composed = composed ∙ h.composed }
    writes-pass (Acknowledgement number true) f s v x d more composed stamps h = record { ready = h.ready; goes_on = rw composed h.goes_on }
    writes-pass (KeepaliveAnswer false) f s v x d more composed stamps h = record {
      ready = h.ready;
      stamp = h.stamp;
      next = rw stamps (later-stamp h.stamp v.stamps more h.next);
      texts = h.texts;
      composed = composed ∙ h.composed;
    }
    writes-pass (KeepaliveAnswer true) f s v x d more composed stamps h =
        record { ready = h.ready; stamp = h.stamp; next = rw stamps (later-stamp h.stamp v.stamps more h.next); goes_on = rw composed h.goes_on }

-- ---- taking

took : (f : SideFacts) (s : State) (item : Item) (len : ℕ) (v x : FeedNow) (d : Feed) (rest : List ℕ) (granted : Bool) (taken : ℕ) →
    (k : Frames f s v d rest granted) → taken ≡ length k.before + length k.passed + 1 → judge rest ≡ text item len → stamp_of (said item) ≡ None →
    x.composed ≡ v.composed → x.writing ≡ v.writing → x.stamps ≡ v.stamps →
    Frames f s x (record d { taken = taken }) (drop len rest) false
took f s item len v x d rest granted taken k place j none composed writing stamps =
    let l = at-front item len rest d.rest k.left k.splits j in
    let one : List Item = item ∷ [] in
    let before : List Item = k.before ++ k.passed ++ one in
    let ends : stamps_in before ≡ stamps_in (k.before ++ k.passed) =
    stamps-more (k.before ++ k.passed) item ∙ ap (λ o. stamps_in (k.before ++ k.passed) ++ option_to_list o) none ∙ append-nil (stamps_in (k.before ++ k.passed)) in
    let whole : stamps_in (before ++ []) ≡ stamps_in (k.before ++ k.passed) = ap stamps_in (append-nil before) ∙ ends in
    record {
      hand = k.hand;
      before = before;
      passed = [];
      left = l.more;
      got = k.got ∙ ap (λ (y : List Item). k.before ++ k.passed ++ y) l.is ∙ sym (append_assoc (k.before ++ k.passed) one l.more) ∙ ap (λ (y : List Item). y ++ l.more) (sym (append-nil before));
      taken = (let a = length-append (k.before ++ k.passed) one in let b = length-append k.before k.passed in omega (arith, place, a, b));
      splits = l.then;
      passes = tt;
      ungranted = λ q. refl;
      answered = (let n = k.answered in omega (arith, n, ap length whole));
      stamps = stamps ∙ k.stamps ∙ ap (drop d.answered) (sym whole);
      writes = subst (λ (w : Writing). WritesAs w f s x (record d { taken = taken })) (sym writing)
          (writes-same v.writing f s s v x d (record d { taken = taken }) composed stamps refl refl (same s) k.writes);
    }

-- outside Ready nothing was passed over
none-passed : (s : State) (xs : List Item) → is_ready s ≡ false → AllByRecursion (λ x. passes_over s x ≡ true) xs → xs ≡ []
none-passed s [] q h = refl
none-passed s (x ∷ xs) q h = absurd (true≢false (sym h.0 ∙ ap (λ b. b && is_passed s.last (said x)) q))

pub idle-place : (f : SideFacts) (s : State) (v : FeedNow) (d : Feed) (rest : List ℕ) (granted : Bool) → is_ready s ≡ false →
    (k : Frames f s v d rest granted) → (d.taken ≡ length k.before + length k.passed) × (d.got ≡ k.before ++ k.left)
idle-place f s v d rest granted q k =
    let no_more = none-passed s k.passed q k.passes in (
      k.taken ∙ sym (ap (λ (l : List Item). length k.before + length l) no_more ∙ omega arith),
      k.got ∙ ap (λ (l : List Item). k.before ++ l ++ k.left) no_more ∙ ap (λ (l : List Item). l ++ k.left) (append-nil k.before),
    )

pub idle-next : (f : SideFacts) (s : State) (item : Item) (len : ℕ) (v : FeedNow) (d : Feed) (rest : List ℕ) (granted : Bool) → is_ready s ≡ false →
    judge rest ≡ text item len → Frames f s v d rest granted → answer_said d ≡ Some (said item)
idle-next f s item len v d rest granted q j k =
    let l = at-front item len rest d.rest k.left k.splits j in
    let place = idle-place f s v d rest granted q k in
    let got : d.got ≡ k.before ++ item ∷ l.more = place.1 ∙ ap (λ (y : List Item). k.before ++ y) l.is in
    ap (λ (n : ℕ). said_at d.got n) k.taken ∙ ap (λ (y : List Item). said_at y (length k.before)) got
    ∙ ap (option_map said) (get-there k.before item l.more)

pub idle-takes : (f : SideFacts) (s : State) (item : Item) (len : ℕ) (v x : FeedNow) (d : Feed) (rest : List ℕ) (granted : Bool) → is_ready s ≡ false →
    judge rest ≡ text item len → stamp_of (said item) ≡ None → x.composed ≡ v.composed → x.writing ≡ v.writing → x.stamps ≡ v.stamps →
    Frames f s v d rest granted → Frames f s x (takes_answer d) (drop len rest) false
idle-takes f s item len v x d rest granted q j none composed writing stamps k =
    let place = idle-place f s v d rest granted q k in
    took f s item len v x d rest granted (d.taken + 1) k (ap (λ (n : ℕ). n + 1) place.0) j none composed writing stamps

-- in Ready what was passed over is what the replay passes over
pub ready-passes : (s : State) (xs : List Item) → is_ready s ≡ true → AllByRecursion (λ x. passes_over s x ≡ true) xs → AllByRecursion (λ x. is_passed s.last (said x) ≡ true) xs
ready-passes s xs q h =
    all-map (λ x. passes_over s x ≡ true) (λ x. is_passed s.last (said x) ≡ true) (λ x p. sym (ap (λ b. b && is_passed s.last (said x)) q) ∙ p) xs h

pub ready-place : (f : SideFacts) (s : State) (item : Item) (len : ℕ) (v : FeedNow) (d : Feed) (rest : List ℕ) (granted : Bool) → is_ready s ≡ true →
    judge rest ≡ text item len → is_passed s.last (said item) ≡ false → (k : Frames f s v d rest granted) →
    (next_place s.last d ≡ length k.before + length k.passed) × (next_said s.last d ≡ Some (said item))
ready-place f s item len v d rest granted q j stops k =
    let l = at-front item len rest d.rest k.left k.splits j in
    let got : d.got ≡ k.before ++ (k.passed ++ item ∷ l.more) = k.got ∙ ap (λ (y : List Item). k.before ++ k.passed ++ y) l.is ∙ append_assoc k.before k.passed (item ∷ l.more) in
    let p : Item → Bool = λ x. is_passed s.last (said x) in
    let from : drop d.taken d.got ≡ k.passed ++ item ∷ l.more =
    ap (λ (n : ℕ). drop n d.got) k.taken ∙ ap (drop (length k.before)) got ∙ drop-all k.before (k.passed ++ item ∷ l.more) in
    let place : next_place s.last d ≡ length k.before + length k.passed =
    ap (λ (n : ℕ). n + prefix_len p (drop d.taken d.got)) k.taken
    ∙ ap (λ (y : List Item). length k.before + prefix_len p y) from
    ∙ ap (λ (n : ℕ). length k.before + n) (prefix-all p k.passed item l.more (ready-passes s k.passed q k.passes) stops) in
    let there : d.got ≡ (k.before ++ k.passed) ++ item ∷ l.more = k.got ∙ ap (λ (y : List Item). k.before ++ k.passed ++ y) l.is in (
      place,
      ap (λ (n : ℕ). said_at d.got n) (place ∙ sym (length-append k.before k.passed))
          ∙ ap (λ (y : List Item). said_at y (length (k.before ++ k.passed))) there
          ∙ ap (option_map said) (get-there (k.before ++ k.passed) item l.more),
    )

-- a text that isn't passed over in Ready is no keepalive
pub no-stamp : (last : ℕ) (x : Said) → is_passed last x ≡ false → stamp_of x ≡ None
no-stamp last (says (control.Keepalive p)) h = absurd (true≢false h)
no-stamp last (says c) h = refl
no-stamp last (brings m) h = refl
no-stamp last aborts h = refl
no-stamp last garbles h = refl

pub ready-takes : (f : SideFacts) (s : State) (item : Item) (len : ℕ) (v x : FeedNow) (d : Feed) (rest : List ℕ) (granted : Bool) → is_ready s ≡ true →
    judge rest ≡ text item len → is_passed s.last (said item) ≡ false → x.composed ≡ v.composed → x.writing ≡ v.writing → x.stamps ≡ v.stamps →
    Frames f s v d rest granted → Frames f s x (record d { taken = next_place s.last d + 1 }) (drop len rest) false
ready-takes f s item len v x d rest granted q j stops composed writing stamps k =
    let place = ready-place f s item len v d rest granted q j stops k in
    took f s item len v x d rest granted (next_place s.last d + 1) k (ap (λ (n : ℕ). n + 1) place.0) j (no-stamp s.last (said item) stops) composed writing stamps

-- ---- another state

pub frames-idle : (f : SideFacts) (s t : State) (v : FeedNow) (d : Feed) (floor : ℕ) (owed : Bool) (rest : List ℕ) (granted : Bool) → is_ready s ≡ false →
    Frames f s v d rest granted → Frames f t v (record d { floor = floor; owed = owed }) rest granted
frames-idle f s t v d floor owed rest granted q k = record {
  hand = k.hand;
  before = k.before;
  passed = k.passed;
  left = k.left;
  got = k.got;
  taken = k.taken;
  splits = k.splits;
  passes = subst (AllByRecursion (λ x. passes_over t x ≡ true)) (sym (none-passed s k.passed q k.passes)) tt;
  ungranted = λ _. k.ungranted q;
  answered = k.answered;
  stamps = k.stamps;
  writes = idle-writes v.writing k.writes;
}
  where
    idle-writes : (w : Writing) → WritesAs w f s v d → WritesAs w f t v (record d { floor = floor; owed = owed })
    idle-writes Nothing h = h
    idle-writes (Named acks) h = record { frame = h.frame; named = h.named; pays = h.pays; some = h.some; texts = h.texts }
    idle-writes (Acknowledgement number false) h = absurd (true≢false (sym h.ready ∙ q))
    idle-writes (Acknowledgement number true) h = absurd (true≢false (sym h.ready ∙ q))
    idle-writes (KeepaliveAnswer false) h = absurd (true≢false (sym h.ready ∙ q))
    idle-writes (KeepaliveAnswer true) h = absurd (true≢false (sym h.ready ∙ q))

-- what is passed over stays so as more is accepted
passed-on : (a b : ℕ) (x : Said) → a ≤ b → is_passed a x ≡ true → is_passed b x ≡ true
passed-on a b (says (control.Ack p)) h k = refl
passed-on a b (says (control.Keepalive p)) h k = refl
passed-on a b (says (control.KeepaliveAck p)) h k = refl
passed-on a b (says c) h k = k
passed-on a b (brings m) h k = le-leb m.header.seq b (let le = leb-true m.header.seq a k in omega (arith, le, h))
passed-on a b aborts h k = refl
passed-on a b garbles h k = k

passes-on : (s t : State) (x : Item) → is_ready t ≡ true → s.last ≤ t.last → passes_over s x ≡ true → passes_over t x ≡ true
passes-on s t x q h k = ap (λ b. b && is_passed t.last (said x)) q ∙ passed-on s.last t.last (said x) h (second (is_ready s) (is_passed s.last (said x)) k)
  where
    second : (a b : Bool) → (a && b) ≡ true → b ≡ true
    second true b q = q
    second false b q = absurd (true≢false (sym q))

pub frames-ready : (f : SideFacts) (s t : State) (v : FeedNow) (d : Feed) (rest : List ℕ) (granted : Bool) →
    is_ready t ≡ true → s.last ≤ t.last → (s.owes ≡ true → t.owes ≡ true) → Frames f s v d rest granted → Frames f t v d rest granted
frames-ready f s t v d rest granted q last owes k = record {
  hand = k.hand;
  before = k.before;
  passed = k.passed;
  left = k.left;
  got = k.got;
  taken = k.taken;
  splits = k.splits;
  passes = all-map (λ x. passes_over s x ≡ true) (λ x. passes_over t x ≡ true) (λ x. passes-on s t x q last) k.passed k.passes;
  ungranted = λ n. absurd (true≢false (sym q ∙ n));
  answered = k.answered;
  stamps = k.stamps;
  writes = writes-same v.writing f s t v v d d refl refl refl refl (λ _. (q, last, owes)) k.writes;
}
