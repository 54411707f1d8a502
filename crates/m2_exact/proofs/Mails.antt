-- Mails that are alike are emptied alike, but for want of memory.
use Rattle.std.proofs.Common.{◌≡◌, ℕ, ◌-◌, ◌&&◌, ◌++◌, List, [], ◌∷◌, map, Bool, true, false, refl, sym, ◌∙◌, ap}
use Rattle.std.proofs.Math.Path.{fun_ext}
use Rattle.std.specs.Prelude.{◌≢◌}
use Rattle.std.proofs.lemmas.List.{append-nil}
use Rattle.m2_fabric.proofs.m2_lemmas.Booleans.{both_of_and}
use Rattle.m2_dispatch.specs.Heard.{Heard}
use Rattle.m2_dispatch.specs.Letters.{granted, heard_in}
use Rattle.m2_dispatch.specs.declared.letter.Letter.{Letter}
use Rattle.m2_dispatch.specs.declared.parcel.Parcel.{Parcel}
use Rattle.m2_dispatch.specs.m2_shared.Gates.{Gate, Places, words}
use Rattle.m2_script.specs.m2_center.m2_turn.Mailing.{Mailing, Mails, MailsSome, after_puts, all_thrown_away, heard_at_puts, is_mailed, is_none}
use Rattle.m2_script.specs.m2_center.m2_turn.declared.mailing.Mailed.{Mailed}
use Rattle.m2_script.specs.m2_center.m2_turn.declared.mailing.Mailed.TheVariants as mailed
use Rattle.m2_exact.specs.Mails.{LikeMailsEmptyAlike, PlainMailing, plain_mailing}
use Rattle.m2_exact.specs.Holding.{AreAlone}
use Rattle.m2_exact.specs.RecordTurns.{PlainOut, plain_out}

is_nothing : {X : Type 0} (xs : List X) → is_none xs ≡ true → xs ≡ []
is_nothing [] h = refl
is_nothing (x ∷ xs) h = absurd (cc h)

-- what is left of mail that was emptied
abbrev emptied : PlainMailing → PlainMailing
emptied p =
    let waiting = after_puts p.out.mail p.waiting in
    record {
      out = record p.out { mail = [] };
      waiting = [];
      queued = (p.queued ++ heard_at_puts p.out.mail) ++ map heard_in waiting;
      bytes = λ gate. (p.bytes gate - granted (all_thrown_away p.out.mail p.waiting) gate) - granted waiting gate;
    }

module _ {D : Type 0} (heard : D → List Heard) (places : Places) (alone : AreAlone places) where
  -- all was put, and all that waited then was dispatched
  record Empties (old new : Mailing D) : Type 0 where
    pub some : MailsSome heard places old new
    pub mail : new.out.mail ≡ []
    pub waiting : new.queue.queued.waiting ≡ []

  empties : (old new : Mailing D) → MailsSome heard places old new → is_mailed new ≡ true → Empties old new
  empties old new h gone =
      let both = both_of_and (is_none new.out.mail) (is_none new.queue.queued.waiting) gone in
      record { some = h; mail = is_nothing new.out.mail both.0; waiting = is_nothing new.queue.queued.waiting both.1 }

  module _ (old new : Mailing D) (h : Empties old new) where
    all_put : h.some.puts.put ≡ old.out.mail
    all_put = sym (h.some.puts.mail ∙ ap (λ (xs : List Parcel). h.some.puts.put ++ xs) h.mail ∙ append-nil h.some.puts.put)

    all_dispatched : h.some.dispatches.dispatched ≡ after_puts old.out.mail old.queue.queued.waiting
    all_dispatched =
        sym (h.some.dispatches.waiting ∙ ap (λ (xs : List Letter). h.some.dispatches.dispatched ++ xs) h.waiting ∙ append-nil h.some.dispatches.dispatched)
        ∙ h.some.puts.waiting ∙ ap (λ (xs : List Parcel). after_puts xs old.queue.queued.waiting) all_put

    calls : heard new.queue.queued.inner ≡ (emptied (plain_mailing heard old)).queued
    calls =
        h.some.dispatches.heard_more
        ∙ ap (λ (hs : List Heard). hs ++ map heard_in h.some.dispatches.dispatched) (h.some.puts.heard_more ∙ ap (λ (xs : List Parcel). heard old.queue.queued.inner ++ heard_at_puts xs) all_put)
        ∙ ap (λ (ls : List Letter). (heard old.queue.queued.inner ++ heard_at_puts old.out.mail) ++ map heard_in ls) all_dispatched

    same : words new.queue.bytes ≡ (emptied (plain_mailing heard old)).bytes
    same = fun_ext (λ gate. h.some.dispatches.word gate (alone gate)
        ∙ ap (λ (n : ℕ). n - granted h.some.dispatches.dispatched gate)
        (h.some.puts.word gate (alone gate) ∙ ap (λ (xs : List Parcel). words old.queue.bytes gate - granted (all_thrown_away xs old.queue.queued.waiting) gate) all_put)
        ∙ ap (λ (ls : List Letter). (words old.queue.bytes gate - granted (all_thrown_away old.out.mail old.queue.queued.waiting) gate) - granted ls gate) all_dispatched)

    out : plain_out heard new.out ≡ record (plain_out heard old.out) { mail = [] }
    out = ap (plain_out heard) h.some.puts.out ∙ ap (λ (xs : List Parcel). record (plain_out heard old.out) { mail = xs }) h.mail

    leaves : plain_mailing heard new ≡ emptied (plain_mailing heard old)
    leaves =
        ap (λ (o : PlainOut). record (plain_mailing heard new) { out = o }) out
        ∙ ap (λ (ls : List Letter). record (plain_mailing heard new) { out = record (plain_out heard old.out) { mail = [] }; waiting = ls }) h.waiting
        ∙ ap (λ (hs : List Heard). record (plain_mailing heard new) { out = record (plain_out heard old.out) { mail = [] }; waiting = []; queued = hs }) calls
        ∙ ap (λ (n : Gate → ℕ). record (emptied (plain_mailing heard old)) { bytes = n }) same

  -- Moved, but where there was nothing
  abbrev result_of : Bool → Mailed
  result_of true = mailed.Dry
  result_of false = mailed.Moved

  ends : (one : Mailed) (old new : Mailing D) → one ≢ mailed.NoMemory → Mails heard places one old new → (one ≡ result_of (is_mailed old)) × Empties old new
  ends mailed.Moved old new m (h, was, is) = (sym (ap result_of was), empties old new h is)
  ends mailed.Dry old new m (h, was, is) = (sym (ap result_of was), empties old new h is)
  ends mailed.NoMemory old new m h = absurd (m refl)

  mails : (one other : Mailed) (old last new behind : Mailing D) → plain_mailing heard old ≡ plain_mailing heard last → one ≢ mailed.NoMemory → other ≢ mailed.NoMemory → Mails heard places one old new →
      Mails heard places other last behind → (one ≡ other) × (plain_mailing heard new ≡ plain_mailing heard behind)
  mails one other old last new behind like m k h g =
      let first = ends one old new m h in
      let second = ends other last behind k g in (
        first.0 ∙ ap (λ (p : PlainMailing). result_of (is_none p.out.mail && is_none p.waiting)) like ∙ sym second.0,
        leaves old new first.1 ∙ ap emptied like ∙ sym (leaves last behind second.1),
      )

pub alike : {D : Type 0} (heard : D → List Heard) → LikeMailsEmptyAlike D heard
alike heard = record { mails = λ place one other old last new behind alone. mails heard place alone one other old last new behind }
