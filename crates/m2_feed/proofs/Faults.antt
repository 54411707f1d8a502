-- What the code finds wrong is a fault of the replay; what it finds acknowledged the replay was told.
use Rattle.std.proofs.Common.{◌≡◌, ◌≢◌, ℕ, ◌+◌, ◌≤◌, ◌<◌, ◌==◌, Bool, true, false, not, List, [], ◌∷◌, ◌++◌, length, take, drop, Option, Some, None, Result, Ok, Err, refl, sym, ap, ◌∙◌, subst, append-nil}
use Rattle.std.specs.Prelude.{◌&&◌, ◌||◌, if◌then◌else◌, nat_lt, option_map}
use Rattle.std.specs.List.{cons_option, filter_map, list_any}
use Rattle.std.specs.Option.{is_some, option_to_list}
use Rattle.std.proofs.lemmas.Bool.{eq-eqb, lt-ltb}
use Rattle.m2_frame.specs.declared.fault.FrameFault.{FrameFault}
use Rattle.m2_frame.specs.Frame.{message_tag}
use Rattle.m2_frame.specs.Reading.{Item, Front, start, bad, text, judge, owed_at, size_of}
use Rattle.m2_frame.proofs.Cutting.{bad_isnt_text, start_isnt_text}
use Rattle.m2_handshake.specs.declared.answer.HalfStep.TheVariants as half
use Rattle.m2_handshake.specs.declared.fault.HalfFault.{HalfFault}
use Rattle.m2_journal.specs.Feeds.{answer_said, next_said, is_passed, said_at, told, told_by}
use Rattle.m2_journal.specs.Lawful.{acknowledges_too_much, begins_message, has_failed, is_bad, is_broken, is_early_message, is_refused, said_next}
use Rattle.m2_journal.specs.Said.{said}
use Rattle.m2_journal.specs.SideFacts.{SideFacts}
use Rattle.m2_journal.specs.State.{Feed, State}
use Rattle.m2_session.specs.Phases as phase
use Rattle.m2_feed.specs.Calls.{GreetsOn, IsBad, IsFront, Owes}
use Rattle.m2_feed.specs.FeedNow.{FeedNow, Reading, shaking, framing}
use Rattle.m2_feed.specs.FeedLaws.{FindsFaults, HearsTold}
use Rattle.m2_feed.specs.Stands.{Frames, ReadsAs, Shakes, Stands, is_ready, passes_over}
use Rattle.m2_feed.proofs.Framing.{at-front, idle-next, idle-place, ready-place}
use Rattle.m2_feed.proofs.Shaking.{fails-there}
use Rattle.m2_bytes.proofs.m2_lemmas.Booleans.{fifth_of_five}
use Rattle.m2_feed.proofs.Heeding.{no_message}
use Rattle.m2_feed.proofs.AnswerSizes.{item_tag, get-past, item-says, judge-tag, open-there, size-asks}

-- ---- one fault of several

or2 : (a b c d e : Bool) → b ≡ true → (a || b || c || d || e) ≡ true
or2 true b c d e h = refl
or2 false b c d e h = ap (λ x. false || x || c || d || e) h

or3 : (a b c d e : Bool) → c ≡ true → (a || b || c || d || e) ≡ true
or3 true b c d e h = refl
or3 false true c d e h = refl
or3 false false c d e h = ap (λ x. false || false || x || d || e) h

or4 : (a b c d e : Bool) → d ≡ true → (a || b || c || d || e) ≡ true
or4 true b c d e h = refl
or4 false true c d e h = refl
or4 false false true d e h = refl
or4 false false false d e h = ap (λ x. false || false || false || x || e) h

module _ (s : State) (d : Feed) where
  broken-bad : is_bad (judge d.rest) ≡ true → is_broken s d ≡ true
  broken-bad h = or2 (has_failed d.hand) (is_bad (judge d.rest)) (is_refused s.session.phase s.last (said_next s d)) (is_early_message s d) (acknowledges_too_much s d) h

  broken-refused : is_refused s.session.phase s.last (said_next s d) ≡ true → is_broken s d ≡ true
  broken-refused h = or3 (has_failed d.hand) (is_bad (judge d.rest)) (is_refused s.session.phase s.last (said_next s d)) (is_early_message s d) (acknowledges_too_much s d) h

  broken-early : is_early_message s d ≡ true → is_broken s d ≡ true
  broken-early h = or4 (has_failed d.hand) (is_bad (judge d.rest)) (is_refused s.session.phase s.last (said_next s d)) (is_early_message s d) (acknowledges_too_much s d) h

  broken-told : acknowledges_too_much s d ≡ true → is_broken s d ≡ true
  broken-told h = fifth_of_five (has_failed d.hand) (is_bad (judge d.rest)) (is_refused s.session.phase s.last (said_next s d)) (is_early_message s d) (acknowledges_too_much s d) h

-- ---- the text at the front is the one that is said next

said-there : (f : SideFacts) (s : State) (item : Item) (len : ℕ) (v : FeedNow) (d : Feed) (rest : List ℕ) (granted : Bool) → judge rest ≡ text item len →
    passes_over s item ≡ false → Frames f s v d rest granted → said_next s d ≡ Some (said item)
said-there f s item len v d rest granted j stops k = at (is_ready s) refl
  where
    at : (b : Bool) → is_ready s ≡ b → said_next s d ≡ Some (said item)
    at true q =
        let halts : is_passed s.last (said item) ≡ false = sym (ap (λ b. b && is_passed s.last (said item)) q) ∙ stops in
        ap (λ b. if b then next_said s.last d else answer_said d) q ∙ (ready-place f s item len v d rest granted q j halts k).1
    at false q = ap (λ b. if b then next_said s.last d else answer_said d) q ∙ idle-next f s item len v d rest granted q j k

refused-there : (f : SideFacts) (s : State) (item : Item) (len : ℕ) (v : FeedNow) (d : Feed) (rest : List ℕ) (granted : Bool) → judge rest ≡ text item len →
    passes_over s item ≡ false → is_refused s.session.phase s.last (Some (said item)) ≡ true → Frames f s v d rest granted → is_broken s d ≡ true
refused-there f s item len v d rest granted j stops refuses k =
    broken-refused s d (ap (is_refused s.session.phase s.last) (said-there f s item len v d rest granted j stops k) ∙ refuses)

-- ---- a size that is asked for is that of a MESSAGE

early-open : (f : SideFacts) (s : State) (n : ℕ) (v : FeedNow) (d : Feed) (rest : List ℕ) (granted : Bool) → is_ready s ≡ false → size_of rest ≡ Some n →
    ((i : Item) (n : ℕ) → judge rest ≢ text i n) → Frames f s v d rest granted → is_broken s d ≡ true
early-open f s n v d rest granted q size none k =
    let open_at = open-there f s v d rest granted none k in
    let place = idle-place f s v d rest granted q k in
    let got : d.got ≡ k.before = place.1 ∙ ap (λ (l : List Item). k.before ++ l) open_at.0 ∙ append-nil k.before in
    let said_none : answer_said d ≡ None =
    ap (λ (m : ℕ). said_at d.got m) k.taken ∙ ap (λ (l : List Item). said_at l (length k.before)) got ∙ ap (option_map said) (get-past k.before) in
    broken-early s d
    (ap (λ b. not b && begins_message (answer_said d) d.rest) q ∙ ap (λ o. begins_message o d.rest) said_none
    ∙ ap (λ (l : List ℕ). begins_message None l) open_at.1 ∙ ap is_some size)

early-there : (f : SideFacts) (s : State) (n : ℕ) (v : FeedNow) (d : Feed) (rest : List ℕ) (granted : Bool) → is_ready s ≡ false → owed_at rest granted ≡ Some n →
    Frames f s v d rest granted → is_broken s d ≡ true
early-there f s n v d rest granted q owes k = at (judge rest) refl
  where
    size : size_of rest ≡ Some n
    size = ap (λ g. if g then None else size_of rest) (sym (k.ungranted q)) ∙ owes

    at : (front : Front) → judge rest ≡ front → is_broken s d ≡ true
    at start e = early-open f s n v d rest granted q size (λ i n t. start_isnt_text i n (sym e ∙ t)) k
    at (bad x) e = early-open f s n v d rest granted q size (λ i n t. bad_isnt_text x i n (sym e ∙ t)) k
    at (text item len) e =
        let asks = size-asks rest n size in
        let tag : item_tag item ≡ message_tag = judge-tag rest asks.0 item len asks.1 e ∙ asks.2 in
        refused-there f s item len v d rest granted e (ap (λ b. b && is_passed s.last (said item)) q) (no_message s.session.phase s.last (said item) q (item-says item tag)) k

-- ---- what is told

any-told : (p : ℕ → Bool) (xs : List Item) (item : Item) (more : List Item) (n : ℕ) → told_by (said item) ≡ Some n → p n ≡ true →
    list_any p (filter_map (λ item. told_by (said item)) (xs ++ item ∷ more)) ≡ true
any-told p [] item more n e h =
    ap (λ o. list_any p (cons_option o (filter_map (λ item. told_by (said item)) more))) e
    ∙ ap (λ b. b || list_any p (filter_map (λ item. told_by (said item)) more)) h
any-told p (x ∷ xs) item more n e h = later (told_by (said x)) (any-told p xs item more n e h)
  where
    later : (o : Option ℕ) → list_any p (filter_map (λ item. told_by (said item)) (xs ++ item ∷ more)) ≡ true →
        list_any p (cons_option o (filter_map (λ item. told_by (said item)) (xs ++ item ∷ more))) ≡ true
    later (Some m) k = ap (λ b. p m || b) k ∙ or_true (p m)
      where
        or_true : (b : Bool) → (b || true) ≡ true
        or_true true = refl
        or_true false = refl
    later None k = k

any-resumed : (p : ℕ → Bool) (o : Option ℕ) (ns : List ℕ) → list_any p ns ≡ true → list_any p (option_to_list o ++ ns) ≡ true
any-resumed p None ns h = h
any-resumed p (Some n) ns h = ap (λ b. p n || b) h ∙ or_true (p n)
  where
    or_true : (b : Bool) → (b || true) ≡ true
    or_true true = refl
    or_true false = refl

told-there : (f : SideFacts) (s : State) (item : Item) (len number : ℕ) (v : FeedNow) (d : Feed) (rest : List ℕ) (granted : Bool) (p : ℕ → Bool) → judge rest ≡ text item len →
    told_by (said item) ≡ Some number → p number ≡ true → Frames f s v d rest granted → list_any p (told d) ≡ true
told-there f s item len number v d rest granted p j e h k =
    let l = at-front item len rest d.rest k.left k.splits j in
    let got : d.got ≡ (k.before ++ k.passed) ++ item ∷ l.more = k.got ∙ ap (λ (y : List Item). k.before ++ k.passed ++ y) l.is in
    any-resumed p d.resumed (filter_map (λ item. told_by (said item)) d.got)
    (ap (λ (y : List Item). list_any p (filter_map (λ item. told_by (said item)) y)) got ∙ any-told p (k.before ++ k.passed) item l.more number e h)

-- ---- the laws

pub finds_faults : FindsFaults
finds_faults = record { of_half = of_half; frame = frame; early = early; refused = refused; too_much = too_much }
  where
    of_half : (f : SideFacts) (s : State) (e : HalfFault) (old new : FeedNow) (d : Feed) → Stands f s old d →
        GreetsOn (half.Fault e) old new → has_failed d.hand ≡ true
    of_half f s e old new d k g =
        let h : Shakes g.before old d = subst (λ r. ReadsAs r f s old d) g.stood k.reads in
        fails-there e g.before g.after g.writes.0 old new d g.writes.2 h

    frame : (f : SideFacts) (s : State) (e : FrameFault) (v : FeedNow) (d : Feed) → Stands f s v d →
        IsBad v.reading e → is_broken s d ≡ true
    frame f s e v d k b = at v.reading b k.reads
      where
        at : (r : Reading) → IsBad r e → ReadsAs r f s v d → is_broken s d ≡ true
        at (shaking h) i p = absurd i
        at (framing rest granted) i p =
            let open_at = open-there f s v d rest granted (λ x n t. bad_isnt_text e x n (sym i.1 ∙ t)) p in
            broken-bad s d (ap (λ (l : List ℕ). is_bad (judge l)) open_at.1 ∙ ap is_bad i.1)

    early : (f : SideFacts) (s : State) (n : ℕ) (v : FeedNow) (d : Feed) → Stands f s v d →
        is_ready s ≡ false → Owes v.reading n → is_broken s d ≡ true
    early f s n v d k q owes = at v.reading owes k.reads
      where
        at : (r : Reading) → Owes r n → ReadsAs r f s v d → is_broken s d ≡ true
        at (shaking h) i p = absurd i
        at (framing rest granted) i p = early-there f s n v d rest granted q i p

    refused : (f : SideFacts) (s : State) (item : Item) (len : ℕ) (v : FeedNow) (d : Feed) → Stands f s v d →
        IsFront v.reading item len → passes_over s item ≡ false → is_refused s.session.phase s.last (Some (said item)) ≡ true → is_broken s d ≡ true
    refused f s item len v d k front stops refuses = at v.reading front k.reads
      where
        at : (r : Reading) → IsFront r item len → ReadsAs r f s v d → is_broken s d ≡ true
        at (shaking h) i p = absurd i
        at (framing rest granted) i p = refused-there f s item len v d rest granted i.1 stops refuses p

    too_much : (f : SideFacts) (s : State) (item : Item) (len number : ℕ) (v : FeedNow) (d : Feed) → Stands f s v d →
        IsFront v.reading item len → told_by (said item) ≡ Some number → s.out.queue.written < number → is_broken s d ≡ true
    too_much f s item len number v d k front e above = at v.reading front k.reads
      where
        at : (r : Reading) → IsFront r item len → ReadsAs r f s v d → is_broken s d ≡ true
        at (shaking h) i p = absurd i
        at (framing rest granted) i p =
            broken-told s d (told-there f s item len number v d rest granted (nat_lt s.out.queue.written) i.1 e (lt-ltb s.out.queue.written number above) p)

pub hears_told : HearsTold
hears_told f s item len number v d k front e = at v.reading front k.reads
  where
    at : (r : Reading) → IsFront r item len → ReadsAs r f s v d → list_any (λ n. n == number) (told d) ≡ true
    at (shaking h) i p = absurd i
    at (framing rest granted) i p = told-there f s item len number v d rest granted (λ n. n == number) i.1 e (eq-eqb number number refl) p
