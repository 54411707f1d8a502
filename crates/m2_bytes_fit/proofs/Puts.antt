-- What a journal's entries have put on a socket, beside the frames that were sent there: the texts of these frames, as far as
-- they are put, and maybe the front of one that no entry names.
use Rattle.std.proofs.Common.{◌≡◌, ◌≢◌, ℕ, Bool, true, false, if◌then◌else◌, List, [], ◌∷◌, ◌++◌, length, drop, map, Option, Some, None, refl, sym, ap, ◌∙◌, subst, append_assoc, append-nil}
use Rattle.std.specs.Prelude.{◌==◌, ◌&&◌, not}
use Rattle.std.specs.List.{AllByRecursion, filter}
use Rattle.std.specs.Option.{option_to_list}
use Rattle.std.proofs.lemmas.Bool.{eqb-true, and_parts}
use Rattle.std.proofs.lemmas.Grind.{flat_map-append}
use Rattle.m2_feed.specs.m2_control.declared.keepalive.Keepalive.{Keepalive}
use Rattle.m2_feed.specs.m2_control.Banner.{begins}
use Rattle.m2_feed.specs.m2_session.declared.session.Phase.TheVariants as phase
use Rattle.m2_feed.specs.m2_session.Phases as phases
use Rattle.m2_feed.specs.m2_journal.Feeds.{begun, without_first, narrowed, finished, owed_numbers, next_stamp, acknowledgements, keepalive_answers, unnamed, texts_at}
use Rattle.m2_feed.specs.m2_journal.OutFrames as out
use Rattle.m2_feed.specs.m2_journal.OutFrames.{OutFrame, is_unnamed}
use Rattle.m2_feed.specs.m2_journal.SideFacts.{SideFacts}
use Rattle.m2_feed.specs.m2_journal.State.{PartText, Feed, State}
use Rattle.m2_never_reset.proofs.Answered.{nothing_isnt_some}
use Rattle.m2_bytes_fit.proofs.Lists.{not_nil}
use Rattle.m2_bytes_fit.specs.Texts.{texts_of}
use Rattle.m2_feed.proofs.m2_lemmas.Lists.{empty_of_length, all_append}
use Rattle.m2_feed.proofs.m2_lemmas.Options.{some_same}
use Rattle.m2_feed.proofs.m2_lemmas.Booleans.{from_false_true}

-- a frame that no entry names isn't among those sent before it is wholly put
abbrev pub late_text : SideFacts → OutFrame → List ℕ
late_text f w = if is_unnamed w then out.text_of f w else []

abbrev pub GoesOnSo : SideFacts → (wrote all : List ℕ) → PartText → Type 0
GoesOnSo f wrote all t = (wrote ++ t.left ≡ all ++ late_text f t.frame) × (is_unnamed t.frame ≡ true → t.left ≢ [])

-- where the texts of all that was sent are these, and so much of them was put
pub record HasPut (f : SideFacts) (wrote all : List ℕ) (texts : List PartText) : Type 0 where
  pub each : AllByRecursion (GoesOnSo f wrote all) texts
  pub none : texts ≡ [] → wrote ≡ all

-- ---- what stays where the feed is left

abbrev pub IsLate : List OutFrame → (left : List ℕ) → Type 0
IsLate [] left = Unit {0}
IsLate (w ∷ []) left = (is_unnamed w ≡ true) × (left ≢ [])
IsLate _ left = ⊥

-- what was put is the front of something and of the texts of these frames, and maybe of the front of one that is late
pub record IsPut (f : SideFacts) (wrote front : List ℕ) (frames : List OutFrame) : Type 0 where
  pub late : List OutFrame
  pub left : List ℕ
  pub all : wrote ++ left ≡ front ++ texts_of f (frames ++ late)
  pub begun : IsLate late left

pub texts_both : (f : SideFacts) (ws vs : List OutFrame) → texts_of f (ws ++ vs) ≡ texts_of f ws ++ texts_of f vs
texts_both f ws vs = flat_map-append (out.text_of f) ws vs

pub text_alone : (f : SideFacts) (w : OutFrame) → texts_of f (w ∷ []) ≡ out.text_of f w
text_alone f w = append-nil (out.text_of f w)

put_first : (f : SideFacts) (wrote front : List ℕ) (frames : List OutFrame) (t : PartText) → GoesOnSo f wrote (front ++ texts_of f frames) t → IsPut f wrote front frames
put_first f wrote front frames t h = at (is_unnamed t.frame) refl h.0
  where
    at : (b : Bool) → is_unnamed t.frame ≡ b → wrote ++ t.left ≡ (front ++ texts_of f frames) ++ (if b then out.text_of f t.frame else []) → IsPut f wrote front frames
    at true e g = record {
      late = t.frame ∷ [];
      left = t.left;
      all = g ∙ append_assoc front (texts_of f frames) (out.text_of f t.frame)
          ∙ ap (λ l. front ++ l) (ap (λ l. texts_of f frames ++ l) (sym (text_alone f t.frame)) ∙ sym (texts_both f frames (t.frame ∷ [])));
      begun = (e, h.1 e);
    }
    at false e g = record {
      late = [];
      left = t.left;
      all = g ∙ append-nil (front ++ texts_of f frames) ∙ ap (λ l. front ++ texts_of f l) (sym (append-nil frames));
      begun = tt;
    }

pub is_put : (f : SideFacts) (wrote front : List ℕ) (frames : List OutFrame) (texts : List PartText) → HasPut f wrote (front ++ texts_of f frames) texts → IsPut f wrote front frames
is_put f wrote front frames [] h = record {
  late = [];
  left = [];
  all = append-nil wrote ∙ h.none refl ∙ ap (λ l. front ++ texts_of f l) (sym (append-nil frames));
  begun = tt;
}
is_put f wrote front frames (t ∷ ts) h = put_first f wrote front frames t h.each.0

-- ---- a frame is composed

named_text : (f : SideFacts) (b : Bool) (xs : List ℕ) → b ≡ false → (if b then xs else []) ≡ []
named_text f true xs e = from_false_true (sym e)
named_text f false xs e = refl

pub composed_put : (f : SideFacts) (wrote front : List ℕ) (frames : List OutFrame) (w : OutFrame) → is_unnamed w ≡ false → wrote ≡ front ++ texts_of f frames →
    HasPut f wrote (front ++ texts_of f (frames ++ w ∷ [])) (begun f w ∷ [])
composed_put f wrote front frames w named e = record {
  each = (
    (
      ap (λ l. l ++ out.text_of f w) e ∙ append_assoc front (texts_of f frames) (out.text_of f w)
          ∙ ap (λ l. front ++ l) (ap (λ l. texts_of f frames ++ l) (sym (text_alone f w)) ∙ sym (texts_both f frames (w ∷ [])))
          ∙ sym (ap (λ l. (front ++ texts_of f (frames ++ w ∷ [])) ++ l) (named_text f (is_unnamed w) (out.text_of f w) named) ∙ append-nil _),
      λ u. from_false_true (sym named ∙ u),
    ),
    tt,
  );
  none = λ q. not_nil q;
}

-- ---- bytes are put

begins_is : (bytes left : List ℕ) → begins bytes left ≡ true → left ≡ bytes ++ drop (length bytes) left
begins_is [] left e = refl
begins_is (b ∷ bs) [] e = from_false_true e
begins_is (b ∷ bs) (c ∷ cs) e =
    let parts = and_parts (b == c) (begins bs cs) e in
    ap (λ l. c ∷ l) (begins_is bs cs parts.1) ∙ ap (λ x. x ∷ (bs ++ drop (length bs) cs)) (sym (eqb-true b c parts.0))

-- whether or not it is whole
abbrev pub GoesOnHere : SideFacts → (wrote all : List ℕ) → PartText → Type 0
GoesOnHere f wrote all t = wrote ++ t.left ≡ all ++ late_text f t.frame

pub here : (f : SideFacts) (wrote all : List ℕ) (texts : List PartText) → AllByRecursion (GoesOnSo f wrote all) texts → AllByRecursion (GoesOnHere f wrote all) texts
here f wrote all [] h = tt
here f wrote all (t ∷ ts) h = (h.0.0, here f wrote all ts h.1)

filtered : (P : PartText → Type 0) (test : PartText → Bool) (texts : List PartText) → AllByRecursion P texts →
    AllByRecursion (λ t. P t × (test t ≡ true)) (filter test texts)
filtered P test [] h = tt
filtered P test (t ∷ ts) h = at (test t) refl (filtered P test ts h.1)
  where
    at : (b : Bool) → test t ≡ b → AllByRecursion (λ t. P t × (test t ≡ true)) (filter test ts) → AllByRecursion (λ t. P t × (test t ≡ true)) (filter test (t ∷ ts))
    at true e more = rw e ((h.0, e), more)
    at false e more = rw e more

shortened : (f : SideFacts) (wrote all bytes : List ℕ) (texts : List PartText) →
    AllByRecursion (λ t. GoesOnHere f wrote all t × (begins bytes t.left ≡ true)) texts →
    AllByRecursion (GoesOnHere f (wrote ++ bytes) all) (map (without_first (length bytes)) texts)
shortened f wrote all bytes [] h = tt
shortened f wrote all bytes (t ∷ ts) h = (
  append_assoc wrote bytes (drop (length bytes) t.left) ∙ ap (λ l. wrote ++ l) (sym (begins_is bytes t.left h.0.1)) ∙ h.0.0,
  shortened f wrote all bytes ts h.1,
)

pub narrowed_here : (f : SideFacts) (wrote all bytes : List ℕ) (texts : List PartText) → AllByRecursion (GoesOnHere f wrote all) texts →
    AllByRecursion (GoesOnHere f (wrote ++ bytes) all) (narrowed bytes texts)
narrowed_here f wrote all bytes texts h =
    shortened f wrote all bytes (filter (λ t. begins bytes t.left) texts)
    (filtered (GoesOnHere f wrote all) (λ t. begins bytes t.left) texts h)

some_length : {X : Type 0} (xs : List X) → (length xs == 0) ≡ false → xs ≢ []
some_length [] e q = from_false_true (sym e)
some_length (x ∷ xs) e q = not_nil q

-- where a text is whole all of it was put
pub found_whole : (f : SideFacts) (wrote all : List ℕ) (texts : List PartText) (t : PartText) → AllByRecursion (GoesOnHere f wrote all) texts →
    finished texts ≡ Some t → wrote ≡ all ++ late_text f t.frame
found_whole f wrote all [] t h e = nothing_isnt_some t e
found_whole f wrote all (x ∷ xs) t h e = at (length x.left == 0) refl (found_whole f wrote all xs t h.1)
  where
    at : (b : Bool) → (length x.left == 0) ≡ b → (finished xs ≡ Some t → wrote ≡ all ++ late_text f t.frame) → wrote ≡ all ++ late_text f t.frame
    at true k later =
        subst (λ z. wrote ≡ all ++ late_text f z.frame) (some_same x t (rw k at e))
        (sym (append-nil wrote) ∙ ap (λ l. wrote ++ l) (sym (empty_of_length x.left k)) ∙ h.0)
    at false k later = later (rw k at e)

some_isnt_none : {X Y : Type 0} (x : X) → Some x ≡ None → Y
some_isnt_none x e = nothing_isnt_some x (sym e)

pub none_whole : (f : SideFacts) (wrote all : List ℕ) (texts : List PartText) → AllByRecursion (GoesOnHere f wrote all) texts →
    finished texts ≡ None → AllByRecursion (GoesOnSo f wrote all) texts
none_whole f wrote all [] h e = tt
none_whole f wrote all (x ∷ xs) h e = at (length x.left == 0) refl (none_whole f wrote all xs h.1)
  where
    at : (b : Bool) → (length x.left == 0) ≡ b → (finished xs ≡ None → AllByRecursion (GoesOnSo f wrote all) xs) → AllByRecursion (GoesOnSo f wrote all) (x ∷ xs)
    at true k later = some_isnt_none x (rw k at e)
    at false k later = ((h.0, λ u. some_length x.left k), later (rw k at e))

-- ---- what may be put

acks_here : (f : SideFacts) (wrote all : List ℕ) (ns : List ℕ) → wrote ≡ all → AllByRecursion (GoesOnHere f wrote all) (map (λ n. begun f (out.acknowledgement n)) ns)
acks_here f wrote all [] e = tt
acks_here f wrote all (n ∷ ns) e = (ap (λ l. l ++ out.text_of f (out.acknowledgement n)) e, acks_here f wrote all ns e)

stamps_here : (f : SideFacts) (wrote all : List ℕ) (o : Option Keepalive) → wrote ≡ all → AllByRecursion (GoesOnHere f wrote all) (map (λ k. begun f (out.keepalive_answer k)) (option_to_list o))
stamps_here f wrote all (Some k) e = (ap (λ l. l ++ out.text_of f (out.keepalive_answer k)) e, tt)
stamps_here f wrote all None e = tt

unnamed_here : (f : SideFacts) (s : State) (d : Feed) (wrote all : List ℕ) → wrote ≡ all → AllByRecursion (GoesOnHere f wrote all) (unnamed f s d)
unnamed_here f s d wrote all e = at (phases.is s.session.phase phase.Ready)
  where
    acks : (b : Bool) → AllByRecursion (GoesOnHere f wrote all) (if b then map (λ n. begun f (out.acknowledgement n)) (owed_numbers s d) else [])
    acks true = acks_here f wrote all (owed_numbers s d) e
    acks false = tt

    at : (b : Bool) → AllByRecursion (GoesOnHere f wrote all) (if b then acknowledgements f s d ++ keepalive_answers f s d else [])
    at true = all_append (GoesOnHere f wrote all) (acknowledgements f s d) (keepalive_answers f s d) (acks (s.owes && not f.policy.lossy)) (stamps_here f wrote all (next_stamp s.last d) e)
    at false = tt

pub texts_here : (f : SideFacts) (s : State) (d : Feed) (wrote all : List ℕ) → HasPut f wrote all d.texts → AllByRecursion (GoesOnHere f wrote all) (texts_at f s d)
texts_here f s d wrote all h = at (length d.texts == 0) refl
  where
    at : (b : Bool) → (length d.texts == 0) ≡ b → AllByRecursion (GoesOnHere f wrote all) (if b then unnamed f s d else d.texts)
    at true e = unnamed_here f s d wrote all (h.none (empty_of_length d.texts e))
    at false e = here f wrote all d.texts h.each

-- ---- what was put stays so where more is to be put behind it

pub all_more : (f : SideFacts) (wrote all : List ℕ) (w : OutFrame) → wrote ≡ all ++ late_text f w → is_unnamed w ≡ true → wrote ≡ all ++ texts_of f (w ∷ [])
all_more f wrote all w e u = at (is_unnamed w) u e
  where
    at : (b : Bool) → b ≡ true → wrote ≡ all ++ (if b then out.text_of f w else []) → wrote ≡ all ++ texts_of f (w ∷ [])
    at true q g = g ∙ ap (λ l. all ++ l) (sym (text_alone f w))
    at false q g = from_false_true q
