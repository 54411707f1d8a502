-- What a feed has heard, text for text of what was sent; and what of it acknowledges.
use Rattle.std.proofs.Common.{◌≡◌, ℕ, zero, suc, ◌+◌, ◌≤◌, List, [], ◌∷◌, ◌++◌, length, take, drop, max, Option, Some, None, refl, sym, ap, ◌∙◌, arith}
use Rattle.std.specs.Prelude.{slice_get}
use Rattle.m2_queues.specs.m2_frame.Reading.{Item}
use Rattle.m2_journal.specs.Feeds.{told_by}
use Rattle.m2_journal.specs.Said.{said}
use Rattle.m2_journal.specs.OutFrames.{OutFrame}
use Rattle.m2_never_reset.specs.Mails.{Mail, acked_by, heard_with}
use Rattle.m2_never_reset.specs.Fits.{AreSaid}
use Rattle.m2_never_reset.specs.Frames.{mail_of, mails}
use Rattle.m2_never_reset.specs.LinkOf.{raised_by, heard_in}

pub first_mail : (w : OutFrame) (m : Mail) (vs : List OutFrame) → mail_of w ≡ Some m → mails (w ∷ vs) ≡ m ∷ mails vs
first_mail w m vs e = rw e refl

-- the mail that a text is, if any
abbrev pub as_list : Option Mail → List Mail
as_list (Some m) = m ∷ []
as_list None = []

pub mails_split : (w : OutFrame) (vs : List OutFrame) → mails (w ∷ vs) ≡ as_list (mail_of w) ++ mails vs
mails_split w vs = by_mail (mail_of w) refl
  where
    by_mail : (o : Option Mail) → mail_of w ≡ o → mails (w ∷ vs) ≡ as_list o ++ mails vs
    by_mail (Some m) e = rw e refl
    by_mail None e = rw e refl

-- what it tells is what the text tells, where it is passed over or taken
abbrev pub heard_if : ℕ → Option Mail → ℕ
heard_if told (Some m) = max told (acked_by m)
heard_if told None = told

pub heard_as_list : (told : ℕ) (o : Option Mail) → heard_if told o ≡ heard_with told (as_list o)
heard_as_list told (Some m) = refl
heard_as_list told None = refl

pub heard-append : (told : ℕ) (ms ns : List Mail) → heard_with told (ms ++ ns) ≡ heard_with (heard_with told ms) ns
heard-append told [] ns = refl
heard-append told (m ∷ ms) ns = heard-append (max told (acked_by m)) ms ns

pub heard_in-append : (told : ℕ) (is js : List Item) → heard_in told (is ++ js) ≡ heard_in (heard_in told is) js
heard_in-append told [] js = refl
heard_in-append told (i ∷ is) js = heard_in-append (raised_by told (told_by (said i))) is js

-- ---- places on the feed

abbrev nil_of : (X : Type 0) → List X
nil_of X = []

pub AreSaid-drop : (n : ℕ) (is : List Item) (vs : List OutFrame) → n ≤ length vs → AreSaid is vs →
    AreSaid (drop n is) (drop n vs)
AreSaid-drop zero is vs l h = h
AreSaid-drop (suc n) [] vs l h = tt
AreSaid-drop (suc n) (i ∷ is) [] l h = absurd (omega (arith, l))
AreSaid-drop (suc n) (i ∷ is) (w ∷ vs) l h = AreSaid-drop n is vs (omega (arith, l)) h.1

pub get-drop : {X : Type 0} (n k : ℕ) (xs : List X) → slice_get xs (n + k) ≡ slice_get (drop n xs) k
get-drop zero k xs = ap (slice_get xs) (let e : zero + k ≡ k = omega arith in e)
get-drop (suc n) k [] = refl
get-drop (suc n) k (x ∷ xs) =
    ap (slice_get (x ∷ xs)) (let e : suc n + k ≡ suc (n + k) = omega arith in e) ∙ get-drop n k xs

drop-nil : {X : Type 0} (k : ℕ) → drop k (nil_of X) ≡ nil_of X
drop-nil zero = refl
drop-nil (suc k) = refl

pub drop-behind : {X : Type 0} (n k : ℕ) (xs : List X) → drop k (drop n xs) ≡ drop (n + k) xs
drop-behind zero k xs = ap (λ m. drop m xs) (let e : k ≡ zero + k = omega arith in e)
drop-behind (suc n) k [] = drop-nil k ∙ sym (drop-nil (suc n + k))
drop-behind (suc n) k (x ∷ xs) =
    drop-behind n k xs ∙ ap (λ m. drop m (x ∷ xs)) (let e : suc (n + k) ≡ suc n + k = omega arith in e)

pub take-more : {X : Type 0} (n k : ℕ) (xs : List X) → take (n + k) xs ≡ take n xs ++ take k (drop n xs)
take-more zero k xs = ap (λ m. take m xs) (let e : zero + k ≡ k = omega arith in e)
take-more (suc n) k [] = take-nil (suc n + k) ∙ sym (take-nil k)
  where
    take-nil : {X : Type 0} (k : ℕ) → take k (nil_of X) ≡ nil_of X
    take-nil zero = refl
    take-nil (suc k) = refl
take-more (suc n) k (x ∷ xs) =
    ap (λ m. take m (x ∷ xs)) (let e : suc n + k ≡ suc (n + k) = omega arith in e) ∙ ap (λ l. x ∷ l) (take-more n k xs)
