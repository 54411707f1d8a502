-- What a resumption acknowledges is counted, by the step that takes it: one entry, or none.
use Rattle.std.proofs.Common.{◌≡◌, ℕ, List, ◌++◌, Option, Some, None, sym, ap, subst, ◌∙◌, arith}
use Rattle.std.specs.List.{AllByRecursion}
use Rattle.std.proofs.lemmas.List.{append-nil}
use Rattle.m2_core.specs.LiveNow as live
use Rattle.m2_core.specs.Counting.{CountsIf, to_count}
use Rattle.m2_core.specs.CoreNow.{CoreNow}
use Rattle.m2_dispatch.specs.Parcel.{IsOwned}
use Rattle.m2_journal.specs.declared.entry.Entry.{Entry}
use Rattle.m2_record.specs.Calls.{CountsResumption, HasRoomFor, Owns, acked_entries}
use Rattle.m2_record.specs.IsRecord.{IsRecord}
use Rattle.m2_record.specs.RecordNow.{RecordNow, Rooms}
use Rattle.m2_record.proofs.Fronts.{same}
use Rattle.m2_record.proofs.Heeding.{counts, none-made}
use Rattle.m2_shared.specs.Gates.{AreHeld, Places}

-- ---- the entry

pub counted-after : (r : RecordNow) (c : CoreNow) (journal : List Entry) (room : Rooms) (n : Option ℕ) → IsRecord r → room.ends ≡ r.room.ends → CountsIf n r.core c →
    journal ≡ r.journal ++ acked_entries n → IsRecord (record r { core = c; journal = journal; room = room })
counted-after r c journal room (Some number) h ends x j = counts r c room number journal h ends x j
counted-after r c journal room None h ends x j =
    subst (λ (l : List Entry). IsRecord (record r { core = c; journal = l; room = room })) (sym (j ∙ append-nil r.journal)) (none-made r c room h ends (same r.core c x))

pub counted-leaves : (r : RecordNow) (c : CoreNow) (journal : List Entry) (room : Rooms) (n : Option ℕ) (old : RecordNow) → r ≡ old → n ≡ to_count r.core.live → CountsIf n r.core c →
    journal ≡ r.journal ++ acked_entries n → CountsResumption old (record r { core = c; journal = journal; room = room })
counted-leaves r c journal room n old e is x j =
    subst (λ (o : RecordNow). CountsResumption o (record r { core = c; journal = journal; room = room })) e (
      subst (λ (m : Option ℕ). CountsIf m r.core c) is x,
      ap (λ (l : List Entry). record r { core = c; journal = l; room = room }) (j ∙ ap (λ (m : Option ℕ). r.journal ++ acked_entries m) is),
    )

-- ---- what it leaves alone

granted-stays : (n : Option ℕ) (b c : CoreNow) → CountsIf n b c → c.live.granted ≡ b.live.granted
granted-stays (Some number) b c x = ap (λ (z : CoreNow). z.live.granted) x.only
granted-stays None b c x = ap (λ (z : CoreNow). z.live.granted) x

pub counted-owned : (n : Option ℕ) (r : RecordNow) (c : CoreNow) (place : Places) (old new : RecordNow) → r ≡ old → CountsIf n r.core c → new.core ≡ c → new.parcels ≡ r.parcels → Owns place old → Owns place new
counted-owned n r c place old new e x is p o =
    let owns : Owns place r = subst (Owns place) (sym e) o in
    record {
      feed = subst (AreHeld place) (sym (ap (λ (z : CoreNow). z.live.granted) is ∙ granted-stays n r.core c x)) owns.feed;
      parcels = subst (AllByRecursion (IsOwned place)) (sym p) owns.parcels;
    }

core-top : (n : Option ℕ) (b c : CoreNow) → CountsIf n b c → c.top ≡ b.top
core-top (Some number) b c x = ap (λ (z : CoreNow). z.top) x.only
core-top None b c x = ap (λ (z : CoreNow). z.top) x

pub counted-top : (old new : RecordNow) → CountsResumption old new → new.core.top ≡ old.core.top
counted-top old new h = core-top (to_count old.core.live) old.core new.core h.0

-- ---- room for it

pub two_of_three : (r : Rooms) → HasRoomFor 3 r → HasRoomFor 2 r
two_of_three r h = (let entries = h.entries in let parcels = h.parcels in record { entries = omega (arith, entries); parcels = omega (arith, parcels) })
