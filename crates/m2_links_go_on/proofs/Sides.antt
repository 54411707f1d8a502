-- Where journals and halves go on, their strands are later ones.
use Rattle.std.proofs.Common.{◌≡◌, Bool, true, false, if◌then◌else◌, List, [], ◌∷◌, ◌++◌, map, refl, sym, ap, ◌∙◌, subst, Some}
use Rattle.std.specs.List.{AllByRecursion}
use Rattle.std.proofs.lemmas.List.{map-append}
use Rattle.m2_fabric.specs.declared.socket.SocketId.{SocketId}
use Rattle.m2_fabric.specs.Sockets.{same_socket}
use Rattle.m2_history.specs.HalfStrands.{strand_of}
use Rattle.m2_history.specs.Link.{StrandsAreTidy}
use Rattle.m2_history.specs.Woven.{BothNow, strands_of}
use Rattle.m2_weave.specs.m2_journal.declared.entry.Entry.{Entry}
use Rattle.m2_history.specs.m2_trail.Trails.{TrailNow}
use Rattle.m2_links_go_on.specs.TurnLaws.{SidesAreLater, SidesInTurnsAreWoven}
use Rattle.m2_links_go_on.specs.Sides.{HasGoneOn, IsHalf, JournalGoesOn, SidesGoOn, done_on, half_on, halves_of, loose_halves, woven_now}
use Rattle.m2_links_go_on.proofs.Halves.{half_on_goes, never_opens}
use Rattle.m2_links_go_on.proofs.HalfReads.{reads_of_sides}
use Rattle.m2_links_go_on.proofs.Whose.{HasLater, Told, far, later_by_who, look_far, look_half, near, strand_in, strands_told, told_apart, told_half, told_journal, told_of}
use Rattle.m2_weave.specs.TurnLaws.{FlowedWasWritten, TurnsAreWoven}
use Rattle.m2_weave.specs.Later.{StrandGoesOn}
use Rattle.m2_weave.specs.declared.strand.StrandItem.TheVariants.{Noted}
use Rattle.m2_weave.specs.Strands.{begun_at, has_opened, journal_of, read_by, read_by_halves, total}
use Rattle.m2_fabric.proofs.m2_lemmas.Lists.{all_append, all_front, all_back}
use Rattle.m2_fabric.proofs.Sockets.{same_equal}

-- ---- the half on a socket

some-one : (t u : TrailNow) → Some t ≡ Some u → t ≡ u
some-one t u e = cc

record IsFound (k : SocketId) (P : TrailNow → Type 0) (u : TrailNow) : Type 0 where
  socket : u.socket ≡ k
  holds : P u

half-found : (P : TrailNow → Type 0) (k : SocketId) (ts : List TrailNow) (u : TrailNow) → AllByRecursion P ts → half_on k ts ≡ Some u → IsFound k P u
half-found P k [] u all e = absurd cc
half-found P k (t ∷ ts) u all e = at (same_socket k t.socket) refl e (half-found P k ts u all.1)
  where
    at : (b : Bool) → same_socket k t.socket ≡ b → (if b then Some t else half_on k ts) ≡ Some u → (half_on k ts ≡ Some u → IsFound k P u) → IsFound k P u
    at true is e later = subst (IsFound k P) (some-one t u e) (record { socket = sym (same_equal k t.socket is); holds = all.0 })
    at false is e later = later e

module _ (old new : BothNow) (on : SidesGoOn old new) where
  -- ---- journals

  begun-if : (js ks : List Entry) (k : SocketId) (b : Bool) → has_opened (journal_of js) k ≡ b → has_opened (journal_of ks) k ≡ b →
      (b ≡ false → done_on k (halves_of new) ≡ done_on k (halves_of old)) → begun_at (strands_of new) (journal_of ks) k ≡ begun_at (strands_of old) (journal_of js) k
  begun-if js ks k true is now same =
      ap (λ b. if b then 0 else read_by_halves (strands_of new) k) now ∙ sym (ap (λ b. if b then 0 else read_by_halves (strands_of old) k) is)
  begun-if js ks k false is now same =
      let read : read_by_halves (strands_of new) k ≡ read_by_halves (strands_of old) k =
      reads_of_sides new k on.now ∙ ap (λ es. total (read_by k) (map Noted es)) (same refl) ∙ sym (reads_of_sides old k on.before) in
      ap (λ b. if b then 0 else read_by_halves (strands_of new) k) now ∙ read ∙ sym (ap (λ b. if b then 0 else read_by_halves (strands_of old) k) is)

  journal-on : (js ks : List Entry) → JournalGoesOn (halves_of old) (halves_of new) js ks → StrandGoesOn (woven_now old) (woven_now new) (journal_of js) (journal_of ks)
  journal-on js ks goes = record {
    items = (map Noted goes.entries.0, ap (map Noted) goes.entries.1 ∙ map-append Noted js goes.entries.0);
    reads = goes.reads;
    writes = goes.writes;
    begun = λ k is. begun-if js ks k (has_opened (journal_of js) k) refl (goes.reads k is) (goes.behind k is);
  }

  -- ---- halves

  half-later : (t : TrailNow) → IsHalf t → HasGoneOn (halves_of new) t → HasLater (woven_now old) (woven_now new) (told_of new) (told_half t)
  half-later t is gone =
      let its = half-found IsHalf t.socket (halves_of new) gone.0 on.now.each gone.1 in (
        strand_of gone.0,
        look_half new t.socket ∙ ap strand_in gone.1,
        record {
          items = half_on_goes t gone.0 is its.socket gone.2;
          reads = λ k at. never_opens gone.0 k its.holds ∙ sym (never_opens t k is);
          writes = λ k at. never_opens gone.0 k its.holds ∙ sym (never_opens t k is);
          begun = λ k at. refl;
        },
      )

  halves-later : (ts : List TrailNow) → AllByRecursion IsHalf ts → AllByRecursion (HasGoneOn (halves_of new)) ts →
      AllByRecursion (HasLater (woven_now old) (woven_now new) (told_of new)) (map told_half ts)
  halves-later [] each gone = tt
  halves-later (t ∷ ts) each gone = (half-later t each.0 gone.0, halves-later ts each.1 gone.1)

  -- ---- all strands

  all-later : AllByRecursion (HasLater (woven_now old) (woven_now new) (told_of new)) (told_of old)
  all-later =
      let P : Told → Type 0 = HasLater (woven_now old) (woven_now new) (told_of new) in
      let taken = old.a.trails ++ old.b.trails in
      let loose = loose_halves old.a.journal old.b.journal old.loose in
      let is_half = all_front IsHalf taken loose on.before.each in
      let has_gone = all_front (HasGoneOn (halves_of new)) taken loose on.halves in
      let near_ones = told_journal near old.a.journal ∷ map told_half old.a.trails in
      let far_ones = told_journal far old.b.journal ∷ map told_half old.b.trails in
      all_append P (near_ones ++ far_ones) (map told_half loose)
      (all_append P near_ones far_ones (
        (journal_of new.a.journal, refl, journal-on old.a.journal new.a.journal on.near),
        halves-later old.a.trails (all_front IsHalf old.a.trails old.b.trails is_half)
            (all_front (HasGoneOn (halves_of new)) old.a.trails old.b.trails has_gone),
      ) (
        (journal_of new.b.journal, look_far new, journal-on old.b.journal new.b.journal on.far),
        halves-later old.b.trails (all_back IsHalf old.a.trails old.b.trails is_half)
            (all_back (HasGoneOn (halves_of new)) old.a.trails old.b.trails has_gone),
      ))
      (halves-later loose (all_back IsHalf taken loose on.before.each) (all_back (HasGoneOn (halves_of new)) taken loose on.halves))

pub sides_are_later : SidesAreLater
sides_are_later old new on =
    later_by_who (woven_now old) (woven_now new) (told_of old) (told_of new) (strands_told old) (strands_told new) (told_apart old on.before) (all-later old new on) on.got on.put

pub sides_are_woven : SidesAreLater → StrandsAreTidy → FlowedWasWritten → TurnsAreWoven → SidesInTurnsAreWoven
sides_are_woven later tidy written woven old new turn order =
    woven (woven_now old) (woven_now new)
    (written (woven_now old) (woven_now new) (record {
      later = later old new turn.go_on;
      got = turn.got;
      written = turn.written;
      flowed = turn.flowed;
      tidy = tidy.tidy new (woven_now new).bytes turn.kept;
    }))
    order
