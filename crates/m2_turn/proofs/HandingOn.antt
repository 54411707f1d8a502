-- What is handed on, parcel after parcel and letter after letter.
use Rattle.std.proofs.Common.{◌≡◌, List, [], ◌∷◌, ◌++◌, map, refl, sym, ap, ◌∙◌, subst, append-nil, append_assoc}
use Rattle.std.proofs.lemmas.List.{map-append}
use Rattle.std.proofs.lemmas.List.Concat.{flat_map-append}
use Rattle.std.specs.List.{AllByRecursion}
use Rattle.m2_bytes.proofs.m2_lemmas.Lists.{all_append}
use Rattle.m2_dispatch.specs.Heard.{Heard}
use Rattle.m2_dispatch.specs.declared.letter.Letter.{Letter}
use Rattle.m2_dispatch.specs.declared.parcel.Parcel.{Parcel}
use Rattle.m2_dispatch.specs.declared.parcel.Parcel.TheVariants as parcel
use Rattle.m2_dispatch.specs.declared.turn.DispatchTurn.TheVariants as turn
use Rattle.m2_dispatch.specs.Dispatch.{Queued}
use Rattle.m2_dispatch.specs.Letters.{AreOwned, heard_in}
use Rattle.m2_dispatch.specs.Parcel.{AllOwned, IsOwned, heard_at_put, heard_for, heard_for_all, letters_on}
use Rattle.m2_dispatch.specs.Turn.{IsTurn, dispatched}
use Rattle.m2_shared.specs.Place.{IsShared}
use Rattle.m2_shared.specs.Gates.{Gate, Places}
use Rattle.m2_shared.specs.declared.throttles.TakePasses.{TakePasses}
use Rattle.m2_turn.specs.HandingOn.{HandsAllOn, HandsLetters, HandsNoLetter, HandsOn, IsNoDiscard, letters_among, resets_on}
use Rattle.m2_turn.specs.Mailing.{DispatchesSome, PutsSome, mailing, queueing}
use Rattle.m2_turn.specs.Outbox.{OutboxNow}
use Rattle.m2_turn.proofs.Emptied.{split_at_one}

pub heard_for_both : (xs ys : List Parcel) → heard_for_all (xs ++ ys) ≡ heard_for_all xs ++ heard_for_all ys
heard_for_both xs ys = flat_map-append heard_for xs ys

pub nothing_on : {D : Type 0} (heard : D → List Heard) (places : Places) (d : D) (into : List Parcel) → HandsOn heard places d d into into
nothing_on heard places d into = record { more = []; last = sym (append-nil into); heard_more = sym (append-nil (heard d)); no_discard = tt; owned = tt }

pub on_both : {D : Type 0} (heard : D → List Heard) (places : Places) (old mid new : D) (into between behind : List Parcel) →
    HandsOn heard places old mid into between → HandsOn heard places mid new between behind → HandsOn heard places old new into behind
on_both heard places old mid new into between behind a b = record {
  more = a.more ++ b.more;
  last = b.last ∙ ap (λ l. l ++ b.more) a.last ∙ append_assoc into a.more b.more;
  heard_more = b.heard_more ∙ ap (λ l. l ++ heard_for_all b.more) a.heard_more ∙ append_assoc (heard old) (heard_for_all a.more) (heard_for_all b.more)
      ∙ ap (λ l. heard old ++ l) (sym (heard_for_both a.more b.more));
  no_discard = all_append IsNoDiscard a.more b.more a.no_discard b.no_discard;
  owned = all_append (IsOwned places) a.more b.more a.owned b.owned;
}

-- ---- parcels that are put

resets_heard : (x : Parcel) → heard_at_put x ≡ heard_for_all (resets_on x)
resets_heard (parcel.Letter l) = refl
resets_heard (parcel.Discard peer) = refl
resets_heard (parcel.RemoteReset peer) = refl

resets_owned : (places : Places) (x : Parcel) → AllOwned places (resets_on x)
resets_owned places (parcel.Letter l) = tt
resets_owned places (parcel.Discard peer) = tt
resets_owned places (parcel.RemoteReset peer) = (tt, tt)

resets_are_none : (x : Parcel) → AllByRecursion IsNoDiscard (resets_on x)
resets_are_none (parcel.Letter l) = tt
resets_are_none (parcel.Discard peer) = tt
resets_are_none (parcel.RemoteReset peer) = (tt, tt)

-- one is put
pub one_on : {D : Type 0} (heard : D → List Heard) (places : Places) (x : Parcel) (old new : D) (into behind : List Parcel) → heard new ≡ heard old ++ heard_at_put x →
    behind ≡ into ++ resets_on x → HandsOn heard places old new into behind
one_on heard places x old new into behind told last = record {
  more = resets_on x;
  last = last;
  heard_more = told ∙ ap (λ l. heard old ++ l) (resets_heard x);
  no_discard = resets_are_none x;
  owned = resets_owned places x;
}

-- ---- the letters among what is handed on

among_both : (xs ys : List Parcel) → letters_among (xs ++ ys) ≡ letters_among xs ++ letters_among ys
among_both [] ys = refl
among_both (parcel.Letter l ∷ xs) ys = ap (λ ls. l ∷ ls) (among_both xs ys)
among_both (parcel.Discard peer ∷ xs) ys = among_both xs ys
among_both (parcel.RemoteReset peer ∷ xs) ys = among_both xs ys

among_resets : (x : Parcel) → letters_among (resets_on x) ≡ []
among_resets (parcel.Letter l) = refl
among_resets (parcel.Discard peer) = refl
among_resets (parcel.RemoteReset peer) = refl

among_letters : (ls : List Letter) → letters_among (letters_on ls) ≡ ls
among_letters [] = refl
among_letters (l ∷ ls) = ap (λ rest. l ∷ rest) (among_letters ls)

pub none_so_far : {D : Type 0} (heard : D → List Heard) (places : Places) (d : D) (into : List Parcel) → HandsNoLetter heard places d d into into
unfolding nothing_on
none_so_far heard places d into = record { on = nothing_on heard places d into; none = refl }

pub reset_on : {D : Type 0} (heard : D → List Heard) (places : Places) (x : Parcel) (old new : D) (into behind : List Parcel) → heard new ≡ heard old ++ heard_at_put x →
    behind ≡ into ++ resets_on x → HandsNoLetter heard places old new into behind
unfolding one_on
reset_on heard places x old new into behind told last = record { on = one_on heard places x old new into behind told last; none = among_resets x }

pub no_letters : {D : Type 0} (heard : D → List Heard) (places : Places) (old mid new : D) (into between behind : List Parcel) →
    HandsNoLetter heard places old mid into between → HandsNoLetter heard places mid new between behind → HandsNoLetter heard places old new into behind
unfolding on_both
no_letters heard places old mid new into between behind a b = record {
  on = on_both heard places old mid new into between behind a.on b.on;
  none = among_both a.on.more b.on.more ∙ ap (λ ls. ls ++ letters_among b.on.more) a.none ∙ b.none;
}

-- one couldn't be put
pub no_letter_left : {D : Type 0} (heard : D → List Heard) (places : Places) (old mid new : D) (into between behind : List Parcel) → HandsNoLetter heard places old mid into between →
    heard new ≡ heard mid → behind ≡ between → HandsNoLetter heard places old new into behind
no_letter_left heard places old mid new into between behind a told same = record {
  on = record { more = a.on.more; last = same ∙ a.on.last; heard_more = told ∙ a.on.heard_more; no_discard = a.on.no_discard; owned = a.on.owned };
  none = a.none;
}

-- ---- letters that are handed on

abbrev pub no_letter_on : {D : Type 0} (heard : D → List Heard) (q : Queued D) (into : List Parcel) → HandsAllOn heard q q into into
no_letter_on heard q into = record { dispatched = []; waiting = refl; heard_more = sym (append-nil (heard q.inner)); last = sym (append-nil into); owned = λ places owned. (owned, tt) }

abbrev pub one_letter_on : {D : Type 0} (heard : D → List Heard) (old mid new : Queued D) (into between behind : List Parcel) → HandsAllOn heard old mid into between → IsTurn turn.One mid.waiting new.waiting →
    heard new.inner ≡ heard mid.inner ++ map heard_in (dispatched turn.One mid.waiting) → behind ≡ between ++ letters_on (dispatched turn.One mid.waiting) →
    ((places : Places) → AreOwned places mid.waiting → AreOwned places new.waiting × AllOwned places (letters_on (dispatched turn.One mid.waiting))) → HandsAllOn heard old new into behind
one_letter_on heard old mid new into between behind d turned told last owned =
    let one = dispatched turn.One mid.waiting in
    record {
      dispatched = d.dispatched ++ one;
      waiting = d.waiting ∙ ap (λ l. d.dispatched ++ l) (split_at_one turn.One mid.waiting new.waiting turned) ∙ sym (append_assoc d.dispatched one new.waiting);
      heard_more = told ∙ ap (λ l. l ++ map heard_in one) d.heard_more ∙ append_assoc (heard old.inner) (map heard_in d.dispatched) (map heard_in one)
          ∙ ap (λ l. heard old.inner ++ l) (sym (map-append heard_in d.dispatched one));
      last = last ∙ ap (λ l. l ++ letters_on one) d.last ∙ append_assoc into (letters_on d.dispatched) (letters_on one) ∙ ap (λ l. into ++ l) (sym (map-append parcel.Letter d.dispatched one));
      owned = λ places all.
          let first = d.owned places all in
          let second = owned places first.0 in
          (second.0, subst (AllOwned places) (sym (map-append parcel.Letter d.dispatched one)) (all_append (IsOwned places) (letters_on d.dispatched) (letters_on one) first.1 second.1));
    }

-- none was, for want of memory
pub no_letter_more : {D : Type 0} (heard : D → List Heard) (old mid new : Queued D) (into between behind : List Parcel) → HandsAllOn heard old mid into between → IsTurn turn.NoMemory mid.waiting new.waiting →
    heard new.inner ≡ heard mid.inner ++ [] → behind ≡ between ++ [] → HandsAllOn heard old new into behind
no_letter_more heard old mid new into between behind d (some, same) told last = record {
  dispatched = d.dispatched;
  waiting = d.waiting ∙ ap (λ l. d.dispatched ++ l) (sym same);
  heard_more = told ∙ append-nil (heard mid.inner) ∙ d.heard_more;
  last = last ∙ append-nil between ∙ d.last;
  owned = λ places all. let first = d.owned places all in (subst (AreOwned places) (sym same) first.0, first.1);
}

letters_heard : (ls : List Letter) → heard_for_all (letters_on ls) ≡ map heard_in ls
letters_heard [] = refl
letters_heard (l ∷ ls) = ap (λ hs. heard_in l ∷ hs) (letters_heard ls)

letters_are_none : (ls : List Letter) → AllByRecursion IsNoDiscard (letters_on ls)
letters_are_none [] = tt
letters_are_none (l ∷ ls) = (tt, letters_are_none ls)

-- all of them are dispatched, as contracts see it of words that threads share
pub are_dispatched : {D : Type 0} (heard : D → List Heard) (places : Places) (old new : Queued D) (pass : TakePasses) (into behind : List Parcel) → ((gate : Gate) → IsShared (places gate)) → HandsAllOn heard old new into behind →
    DispatchesSome heard places (queueing old pass) (queueing new pass)
are_dispatched heard places old new pass into behind shared on =
    record { dispatched = on.dispatched; waiting = on.waiting; heard_more = on.heard_more; word = (λ gate alone. absurd (shared gate alone)) }

pub letters_are_on : {D : Type 0} (heard : D → List Heard) (places : Places) (old new : Queued D) (into behind : List Parcel) → AreOwned places old.waiting → HandsAllOn heard old new into behind →
    HandsOn heard places old.inner new.inner into behind
letters_are_on heard places old new into behind owned on = record {
  more = letters_on on.dispatched;
  last = on.last;
  heard_more = on.heard_more ∙ ap (λ l. heard old.inner ++ l) (sym (letters_heard on.dispatched));
  no_discard = letters_are_none on.dispatched;
  owned = (on.owned places owned).1;
}

-- ---- what waited first

module _ {D : Type 0} (heard : D → List Heard) (places : Places) (out between : OutboxNow D) (old mid : Queued D) (passes amid : TakePasses) (into put : List Parcel)
    (puts : PutsSome heard places (mailing out old passes) (mailing between mid amid)) (on : HandsNoLetter heard places old.inner mid.inner into put) where
  -- memory ran out for a parcel
  pub first_of_none : HandsLetters (mailing out old passes) (mailing between mid amid) into put
  first_of_none = record { put = puts.put; mail = puts.mail; more = on.on.more; last = on.on.last; waiting = sym puts.waiting ∙ ap (λ ls. ls ++ mid.waiting) (sym on.none) }

  -- letters are handed on behind what is put
  pub first_of_all : (new : Queued D) (last : TakePasses) (behind : List Parcel) → HandsAllOn heard mid new put behind → HandsLetters (mailing out old passes) (mailing between new last) into behind
  first_of_all new last behind all = record {
    put = puts.put;
    mail = puts.mail;
    more = on.on.more ++ letters_on all.dispatched;
    last = all.last ∙ ap (λ l. l ++ letters_on all.dispatched) on.on.last ∙ append_assoc into on.on.more (letters_on all.dispatched);
    waiting = sym puts.waiting ∙ all.waiting ∙ ap (λ ls. ls ++ new.waiting)
        (sym (among_both on.on.more (letters_on all.dispatched) ∙ ap (λ ls. ls ++ letters_among (letters_on all.dispatched)) on.none ∙ among_letters all.dispatched));
  }
