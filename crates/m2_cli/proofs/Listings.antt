-- What `frames` leaves, however passing on and saying went.
use Rattle.std.proofs.Common.{◌≡◌, ℕ, ◌≤◌, List, length, take, refl, sym, ap, ◌∙◌, subst, arith, ◌⊎◌, inl, inr, []}
use Rattle.std.specs.Prelude.{◌≢◌}
use Rattle.std.proofs.Math.Seq.{take-length}
use Rattle.m2_edge.specs.Faults.{HasRisen}
use Rattle.m2_edge.specs.Sink.{SeenSink, IsFlushed}
use Rattle.m2_edge.specs.Source.{IsPrefixOf, SeenSource}
use Rattle.m2_listing.proofs.Steps.{Broken-here}
use Rattle.m2_listing.specs.Listing.{IsAll, IsFaultCause, Listed, Lists, ListsPrefix}
use Rattle.m2_listing.specs.declared.listing.Listing.{Listing}
use Rattle.m2_listing.specs.declared.listing.Listing.TheVariants as listing
use Rattle.m2_cli.specs.declared.frames.TheConstants.{LIMIT}
use Rattle.m2_cli.specs.declared.status.Status.{Status}
use Rattle.m2_cli.specs.declared.status.Status.TheVariants as status
use Rattle.m2_cli.specs.Edge.{Edge, IsCause, StandsSomewhere}
use Rattle.m2_cli.specs.Frames.{IsListedInPart, IsPassedOn, ListsFile, StandsBy, of_file, plain_line, status_of_listing}
use Rattle.m2_cli.specs.Print.{SaysStatus}

-- ---- a prefix of the lines

all_prefix : (bytes : List ℕ) (src : SeenSource) → IsAll [] bytes src → IsPrefixOf bytes src.given
all_prefix bytes src h = (length src.given, sym h.given ∙ sym (take-length src.given))

-- whatever was listed, a prefix of the lines was written
lists_prefix : (l : Listing) (src : SeenSource) (old new : SeenSink) → Lists l of_file src old new → ListsPrefix of_file src old new
lists_prefix listing.Whole src old new (bytes, place, all, short, listed) = (bytes, all_prefix bytes src all, Broken-here plain_line bytes [] place old new listed)
lists_prefix (listing.Bad place f) src old new (bytes, rest, some, short, judged, listed) = (bytes, some, Broken-here plain_line bytes rest place old new listed)
lists_prefix (listing.Cut place) src old new (bytes, rest, all, short, judged, some, listed) = (bytes, all_prefix bytes src all, Broken-here plain_line bytes rest place old new listed)
lists_prefix (listing.TooLong place) src old new (bytes, rest, cut, judged, listed) = (bytes, (LIMIT, cut.cut ∙ ap (take LIMIT) (sym cut.given)), Broken-here plain_line bytes rest place old new listed)
lists_prefix listing.ReadFault src old new h = h
lists_prefix listing.WriteFault src old new h = h
lists_prefix listing.NoMemory src old new h = h

-- ---- after passing on, which takes nothing

listed_later : (bytes rest : List ℕ) (place : ℕ) (old mid new : SeenSink) → new.taken ≡ mid.taken → Listed plain_line bytes rest place old mid → Listed plain_line bytes rest place old new
listed_later bytes rest place old mid new e h = record { items = h.items; splits = h.splits; counted = h.counted; written = e ∙ h.written }

prefix_later : (src : SeenSource) (old mid new : SeenSink) → new.taken ≡ mid.taken → ListsPrefix of_file src old mid → ListsPrefix of_file src old new
prefix_later src old mid new e (bytes, some, h) =
    (bytes, some, record { items = h.items; rest = h.rest; splits = h.splits; written = (h.written.0, e ∙ h.written.1) })

lists_later : (l : Listing) (src : SeenSource) (old mid new : SeenSink) → new.taken ≡ mid.taken → Lists l of_file src old mid → Lists l of_file src old new
lists_later listing.Whole src old mid new e (bytes, place, all, short, listed) = (bytes, place, all, short, listed_later bytes _ place old mid new e listed)
lists_later (listing.Bad place f) src old mid new e (bytes, rest, some, short, judged, listed) = (bytes, rest, some, short, judged, listed_later bytes rest place old mid new e listed)
lists_later (listing.Cut place) src old mid new e (bytes, rest, all, short, judged, some, listed) = (bytes, rest, all, short, judged, some, listed_later bytes rest place old mid new e listed)
lists_later (listing.TooLong place) src old mid new e (bytes, rest, cut, judged, listed) = (bytes, rest, cut, judged, listed_later bytes rest place old mid new e listed)
lists_later listing.ReadFault src old mid new e h = prefix_later src old mid new e h
lists_later listing.WriteFault src old mid new e h = prefix_later src old mid new e h
lists_later listing.NoMemory src old mid new e h = prefix_later src old mid new e h

stands_somewhere : (l : Listing) (file : List ℕ) (old new : SeenSource) → StandsBy l file old new → StandsSomewhere file old new
stands_somewhere listing.Whole file old new h = inr h
stands_somewhere (listing.Bad place f) file old new h = inr h
stands_somewhere (listing.Cut place) file old new h = inr h
stands_somewhere (listing.TooLong place) file old new h = inr h
stands_somewhere listing.ReadFault file old new h = h
stands_somewhere listing.WriteFault file old new h = inr h
stands_somewhere listing.NoMemory file old new h = inr h

-- how a listing ended: where the source stands, what was listed, and why it may have failed
pub record Ended (l : Listing) (file : List ℕ) (before after : Edge) : Type 0 where
  pub stands : StandsBy l file before.source after.source
  pub lists : Lists l of_file after.source before.out after.out
  pub cause : IsFaultCause l before.source.faults after.source.faults before.out.faults after.out.faults

in_part : (l : Listing) (file : List ℕ) (before after : Edge) → Ended l file before after → IsListedInPart file before after
in_part l file before after h = record {
  stands = stands_somewhere l file before.source after.source h.stands;
  lists = lists_prefix l after.source before.out after.out h.lists;
}

cause_later : (l : Listing) (s t o p q : ℕ) → IsFaultCause l s t o p → p ≤ q → IsFaultCause l s t o q
cause_later listing.Whole s t o p q h le = tt
cause_later (listing.Bad place f) s t o p q h le = tt
cause_later (listing.Cut place) s t o p q h le = tt
cause_later (listing.TooLong place) s t o p q h le = tt
cause_later listing.ReadFault s t o p q h le = h
cause_later listing.WriteFault s t o p q h le = risen_later o p q h le
  where
    risen_later : (o p q : ℕ) → HasRisen o p → p ≤ q → HasRisen o q
    risen_later o p q h le = omega arith
cause_later listing.NoMemory s t o p q h le = tt

-- a rise later is one from the start
risen_before : (o p q : ℕ) → o ≤ p → HasRisen p q → HasRisen o q
risen_before o p q le h = omega arith

-- what was listed, whose lines were then passed on
pub ended_passed : (l : Listing) (file : List ℕ) (before after : Edge) (mid : SeenSink) → StandsBy l file before.source after.source
    → Lists l of_file after.source before.out mid → IsFaultCause l before.source.faults after.source.faults before.out.faults mid.faults
    → after.out.taken ≡ mid.taken → mid.faults ≤ after.out.faults → Ended l file before after
ended_passed l file before after mid stands lists cause same rises = record {
  stands = stands;
  lists = lists_later l after.source before.out mid after.out same lists;
  cause = cause_later l _ _ _ mid.faults after.out.faults cause rises;
}

-- the listing is whole and passed on
pub lists_flushed : (l : Listing) (file : List ℕ) (before after : Edge) → Ended l file before after
    → (l ≢ listing.WriteFault → IsFlushed after.out) → ListsFile file (status_of_listing l) before after
lists_flushed listing.Whole file before after h f = (h.stands, h.lists, f (λ e. absurd cc))
lists_flushed (listing.Bad place x) file before after h f = (h.stands, (listing.Bad place x, refl, h.lists), f (λ e. absurd cc))
lists_flushed (listing.Cut place) file before after h f = (h.stands, (listing.Cut place, refl, h.lists), f (λ e. absurd cc))
lists_flushed (listing.TooLong place) file before after h f = (h.stands, (listing.TooLong place, refl, h.lists), f (λ e. absurd cc))
lists_flushed listing.ReadFault file before after h f = (h.cause, in_part listing.ReadFault file before after h, f (λ e. absurd cc))
lists_flushed listing.WriteFault file before after h f = (h.cause, in_part listing.WriteFault file before after h)
lists_flushed listing.NoMemory file before after h f = in_part listing.NoMemory file before after h

pub lists_passed : (l r : Listing) (file : List ℕ) (before after : Edge) (mid : SeenSink) → Ended l file before after → before.out.faults ≤ mid.faults
    → IsPassedOn l r mid after.out → ListsFile file (status_of_listing r) before after
lists_passed l r file before after mid h rises (inl (same, f)) =
    let P : Listing → Type 0 = λ x. ListsFile file (status_of_listing x) before after in subst P (sym same) (lists_flushed l file before after h f)
lists_passed l r file before after mid h rises (inr (failed, risen)) =
    let P : Listing → Type 0 = λ x. ListsFile file (status_of_listing x) before after in
    subst P (sym failed) (risen_before before.out.faults mid.faults after.out.faults rises risen, in_part l file before after h)

-- its cause
pub listing_caused : (work : Status) (file : List ℕ) (before after : Edge) → ListsFile file work before after → IsCause work before after
listing_caused status.Done file before after h = tt
listing_caused status.Usage file before after h = tt
listing_caused (status.BadScenario line kind) file before after h = tt
listing_caused status.ReadFault file before after h = h.0
listing_caused status.WriteFault file before after h = inl h.0
listing_caused (status.Left count) file before after h = tt
listing_caused status.NoMemory file before after h = tt
listing_caused (status.BadFrames place fault) file before after h = tt
listing_caused (status.BindFault node) file before after h = tt
listing_caused (status.Unfit socket opener place why) file before after h = tt
listing_caused (status.Stalled left) file before after h = tt

-- what it came to, how that was said, and its cause
pub listing_ends : (l r : Listing) (s answered : Status) (file : List ℕ) (before after : Edge) (mid : SeenSink) → Ended l file before after
    → before.out.faults ≤ mid.faults → IsPassedOn l r mid after.out → s ≡ status_of_listing r
    → SaysStatus [] s answered before.err after.err ⊎ SaysStatus [] status.NoMemory answered before.err after.err
    → (work : Status) × SaysStatus [] work answered before.err after.err × ListsFile file work before after
listing_ends l r s answered file before after mid h rises passed e (inl said) =
    let P : Status → Type 0 = λ x. ListsFile file x before after in (s, said, subst P (sym e) (lists_passed l r file before after mid h rises passed))
listing_ends l r s answered file before after mid h rises passed e (inr said) = (status.NoMemory, said, in_part l file before after h)

-- a count that falls in neither of two calls
pub no_fall : (o p q : ℕ) → o ≤ p → p ≤ q → o ≤ q
no_fall o p q first second = omega arith
