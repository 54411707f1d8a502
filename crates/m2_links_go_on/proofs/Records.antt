-- Two sides that records keep go on where their records do: what a record has read on a socket it had opened or taken, and then it
-- neither opens it nor does its half more.
use Rattle.std.proofs.Common.{◌≡◌, ◌⊎◌, inl, inr, Bool, true, false, ◌||◌, if◌then◌else◌, List, [], ◌∷◌, ◌++◌, map, refl, sym, ap, ◌∙◌, subst, arith, append-nil, Some}
use Rattle.std.specs.List.{AllByRecursion, IsDistinct, list_any}
use Rattle.std.proofs.lemmas.List.{map-append}
use Rattle.std.proofs.lemmas.List.Elements.{filter_map-append}
use Rattle.std.proofs.lemmas.List.Folds.{list_any-append}
use Rattle.m2_fabric.specs.declared.socket.SocketId.{SocketId}
use Rattle.m2_fabric.specs.Sockets.{is_among, same_socket}
use Rattle.m2_history.specs.Parts.{PartsNow}
use Rattle.m2_history.specs.Woven.{BothNow}
use Rattle.m2_weave.specs.m2_journal.Items.{at_start, items_from}
use Rattle.m2_weave.specs.m2_journal.Laws.{taken_among}
use Rattle.m2_weave.specs.m2_journal.State.{start}
use Rattle.m2_history.specs.m2_record.TakenTrails.{taken_by, taken_in}
use Rattle.m2_history.specs.m2_trail.Trails.{TrailNow}
use Rattle.m2_links_go_on.specs.TurnLaws.{RecordsAreSidesThatGoOn}
use Rattle.m2_links_go_on.specs.Records.{IsSide, PartsGoOn, RecordsGoOn}
use Rattle.m2_links_go_on.specs.Sides.{HalfGoesOn, HasGoneOn, JournalGoesOn, SidesGoOn, done_on, entries_in, half_on, halves_of, loose_halves}
use Rattle.m2_weave.specs.Later.{HasRead, HasWritten}
use Rattle.m2_weave.specs.declared.strand.StrandItem.TheVariants.{Noted}
use Rattle.m2_weave.specs.Strands.{has_opened, journal_of, opens}
use Rattle.m2_history.specs.WovenLink.{sources_in}
use Rattle.m2_history.proofs.Journals.{IsQuietOn, judged_are, opened_are, opened_unjudged, taken_are, unknown_quiet}
use Rattle.m2_history.proofs.Moved.{unjudged_untaken, quiet_reads, quiet_writes}
use Rattle.m2_history.proofs.Names.{items_add}
use Rattle.m2_fabric.proofs.m2_lemmas.Booleans.{or_left}
use Rattle.m2_fabric.proofs.m2_lemmas.Lists.{all_append, all_front, all_back}
use Rattle.m2_fabric.proofs.Sockets.{apart_turned, same_equal, same_refl}

pub clash : {X : Type 0} (b : Bool) → b ≡ true → b ≡ false → X
clash true e f = absurd (cc)
clash false e f = absurd (cc)

-- ---- halves of which no two are on one socket

skipped : (t : TrailNow) (all us : List TrailNow) → AllByRecursion (λ (k : SocketId). same_socket t.socket k ≡ false) (map (λ (u : TrailNow). u.socket) us) →
    AllByRecursion (λ (u : TrailNow). half_on u.socket all ≡ Some u) us → AllByRecursion (λ (u : TrailNow). half_on u.socket (t ∷ all) ≡ Some u) us
skipped t all [] apart own = tt
skipped t all (u ∷ us) apart own = (
  ap (λ b. if b then Some t else half_on u.socket all) (apart_turned t.socket u.socket apart.0) ∙ own.0,
  skipped t all us apart.1 own.1,
)

-- each is the one on its socket
pub own_half : (ts : List TrailNow) → IsDistinct same_socket (map (λ (t : TrailNow). t.socket) ts) → AllByRecursion (λ (t : TrailNow). half_on t.socket ts ≡ Some t) ts
unfolding IsDistinct
own_half [] d = tt
own_half (t ∷ ts) d = (ap (λ b. if b then Some t else half_on t.socket ts) (same_refl t.socket), skipped t ts ts d.0 (own_half ts d.1))

-- ---- one side

-- of a half that it had taken, among all halves before and behind
pub record Stays (before now : List TrailNow) (t : TrailNow) : Type 0 where
  pub was : half_on t.socket before ≡ Some t
  pub is : half_on t.socket now ≡ Some t

both-stay : (before now ts : List TrailNow) → AllByRecursion (λ (t : TrailNow). half_on t.socket before ≡ Some t) ts →
    AllByRecursion (λ (t : TrailNow). half_on t.socket now ≡ Some t) ts → AllByRecursion (Stays before now) ts
both-stay before now [] was is = tt
both-stay before now (t ∷ ts) was is = (record { was = was.0; is = is.0 }, both-stay before now ts was.1 is.1)

same-half : (t : TrailNow) → HalfGoesOn t t
same-half t = record { entries = ([], sym (append-nil t.entries)); asks = ([], sym (append-nil t.judged_after)); behind = tt }

go-on : (before now ts : List TrailNow) → AllByRecursion (Stays before now) ts → AllByRecursion (HasGoneOn now) ts
go-on before now [] stay = tt
go-on before now (t ∷ ts) stay = ((t, stay.0.is, same-half t), go-on before now ts stay.1)

-- on the socket of one of them nothing more was done
done-same : (before now : List TrailNow) (k : SocketId) (ts : List TrailNow) → AllByRecursion (Stays before now) ts → is_among k (map (λ (t : TrailNow). t.socket) ts) ≡ true →
    done_on k now ≡ done_on k before
done-same before now k [] stay h = absurd (cc)
done-same before now k (t ∷ ts) stay h = at (same_socket k t.socket) refl h (done-same before now k ts stay.1)
  where
    at : (b : Bool) → same_socket k t.socket ≡ b → (b || is_among k (map (λ (t : TrailNow). t.socket) ts)) ≡ true →
        (is_among k (map (λ (t : TrailNow). t.socket) ts) ≡ true → done_on k now ≡ done_on k before) → done_on k now ≡ done_on k before
    at true same h later =
        subst (λ x. done_on x now ≡ done_on x before) (sym (same_equal k t.socket same)) (ap entries_in stay.0.is ∙ sym (ap entries_in stay.0.was))
    at false differ h later = later h

-- ---- one journal

-- it has moved nothing on a socket that it had neither opened nor taken
moved-none : (p : PartsNow) → IsSide p → (k : SocketId) → has_opened (journal_of p.journal) k ≡ false → is_among k (taken_in p.journal) ≡ false → AllByRecursion (IsQuietOn k) p.journal
moved-none p side k closed untaken =
    let f = side.0 in
    let src = sources_in side.1 p in
    let adds = items_add f (items_from src at_start p.journal) (start f) in
    unknown_quiet f src p.journal at_start [] k side.2.lawful (record {
      opened = ap (is_among k) adds.opened ∙ opened_are src at_start p.journal k ∙ closed;
      taken = ap (λ js. is_among k (taken_among js)) (adds.judgements ∙ judged_are src at_start p.journal) ∙ sym (ap (is_among k) (taken_are p.journal)) ∙ untaken;
    })

pub taken_or : (p : PartsNow) → IsSide p → (k : SocketId) → HasRead (journal_of p.journal) k ⊎ HasWritten (journal_of p.journal) k → has_opened (journal_of p.journal) k ≡ false →
    is_among k (taken_in p.journal) ≡ true
taken_or p side k moved closed = at (is_among k (taken_in p.journal)) refl moved
  where
    at : (b : Bool) → is_among k (taken_in p.journal) ≡ b → HasRead (journal_of p.journal) k ⊎ HasWritten (journal_of p.journal) k → is_among k (taken_in p.journal) ≡ true
    at true is moved = is
    at false is (inl read) = absurd (omega (arith, read, quiet_reads k p.journal (moved-none p side k closed is)))
    at false is (inr wrote) = absurd (omega (arith, wrote, quiet_writes k p.journal (moved-none p side k closed is)))

module _ (p q : PartsNow) (on : PartsGoOn p q) where
  opened-on : (k : SocketId) → has_opened (journal_of p.journal) k ≡ true → has_opened (journal_of q.journal) k ≡ true
  opened-on k h =
      ap (λ es. has_opened (journal_of es) k) on.journal.1 ∙ ap (list_any (opens k)) (map-append Noted p.journal on.journal.0)
      ∙ list_any-append (opens k) (map Noted p.journal) (map Noted on.journal.0) ∙ or_left (list_any (opens k) (map Noted p.journal)) _ h

  taken-on : (k : SocketId) → is_among k (taken_in p.journal) ≡ true → is_among k (taken_in q.journal) ≡ true
  taken-on k h =
      ap (λ es. is_among k (taken_in es)) on.journal.1 ∙ ap (is_among k) (filter_map-append taken_by p.journal on.journal.0)
      ∙ list_any-append (same_socket k) (taken_in p.journal) (taken_in on.journal.0) ∙ or_left (is_among k (taken_in p.journal)) _ h

  -- a socket that it had taken it doesn't open
  not-opened : (k : SocketId) → is_among k (taken_in p.journal) ≡ true → has_opened (journal_of q.journal) k ≡ false
  not-opened k taken = at (has_opened (journal_of q.journal) k) refl
    where
      at : (b : Bool) → has_opened (journal_of q.journal) k ≡ b → has_opened (journal_of q.journal) k ≡ false
      at false is = is
      at true is =
          clash (is_among k (taken_in q.journal)) (taken-on k taken)
          (unjudged_untaken k q.journal (opened_unjudged on.now.0 (sources_in on.now.1 q) q.journal at_start k on.now.2.lawful is))

  same-end : (k : SocketId) → HasRead (journal_of p.journal) k ⊎ HasWritten (journal_of p.journal) k → has_opened (journal_of q.journal) k ≡ has_opened (journal_of p.journal) k
  same-end k moved = at (has_opened (journal_of p.journal) k) refl
    where
      at : (b : Bool) → has_opened (journal_of p.journal) k ≡ b → has_opened (journal_of q.journal) k ≡ has_opened (journal_of p.journal) k
      at true is = opened-on k is ∙ sym is
      at false is = not-opened k (taken_or p on.before k moved is) ∙ sym is

  journal-goes-on : (before now : List TrailNow) → AllByRecursion (Stays before now) p.trails → JournalGoesOn before now p.journal q.journal
  journal-goes-on before now stay = record {
    entries = on.journal;
    reads = λ k read. same-end k (inl read);
    writes = λ k wrote. same-end k (inr wrote);
    behind = λ k read closed.
        done-same before now k p.trails stay (ap (is_among k) on.before.2.trails.sockets ∙ taken_or p on.before k (inl read) closed);
  }

-- ---- both sides

module _ (old new : BothNow) (on : RecordsGoOn old new) where
  abbrev Own : List TrailNow → TrailNow → Type 0
  Own all t = half_on t.socket all ≡ Some t

  olds : AllByRecursion (Own (halves_of old)) (halves_of old)
  olds = own_half (halves_of old) on.before.apart

  news : AllByRecursion (Own (halves_of new)) (halves_of new)
  news = own_half (halves_of new) on.now.apart

  abbrev loose_of : BothNow → List TrailNow
  loose_of x = loose_halves x.a.journal x.b.journal x.loose

  near-stay : AllByRecursion (Stays (halves_of old) (halves_of new)) old.a.trails
  near-stay =
      both-stay (halves_of old) (halves_of new) old.a.trails
      (all_front (Own (halves_of old)) old.a.trails old.b.trails (all_front (Own (halves_of old)) (old.a.trails ++ old.b.trails) (loose_of old) olds))
      (all_front (Own (halves_of new)) old.a.trails on.near.trails.0 (subst (AllByRecursion (Own (halves_of new))) on.near.trails.1
      (all_front (Own (halves_of new)) new.a.trails new.b.trails (all_front (Own (halves_of new)) (new.a.trails ++ new.b.trails) (loose_of new) news))))

  far-stay : AllByRecursion (Stays (halves_of old) (halves_of new)) old.b.trails
  far-stay =
      both-stay (halves_of old) (halves_of new) old.b.trails
      (all_back (Own (halves_of old)) old.a.trails old.b.trails (all_front (Own (halves_of old)) (old.a.trails ++ old.b.trails) (loose_of old) olds))
      (all_front (Own (halves_of new)) old.b.trails on.far.trails.0 (subst (AllByRecursion (Own (halves_of new))) on.far.trails.1
      (all_back (Own (halves_of new)) new.a.trails new.b.trails (all_front (Own (halves_of new)) (new.a.trails ++ new.b.trails) (loose_of new) news))))

  pub go_on : SidesGoOn old new
  go_on = record {
    before = on.before;
    now = on.now;
    near = journal-goes-on old.a new.a on.near (halves_of old) (halves_of new) near-stay;
    far = journal-goes-on old.b new.b on.far (halves_of old) (halves_of new) far-stay;
    halves =
        all_append (HasGoneOn (halves_of new)) (old.a.trails ++ old.b.trails) (loose_of old)
        (all_append (HasGoneOn (halves_of new)) old.a.trails old.b.trails (go-on (halves_of old) (halves_of new) old.a.trails near-stay)
        (go-on (halves_of old) (halves_of new) old.b.trails far-stay)) on.loose;
    got = on.got;
    put = on.put;
  }

pub records_go_on : RecordsAreSidesThatGoOn
records_go_on old new on = go_on old new on
