-- Two kept sides and the loose halves beside them: their strands are tidy, and their sockets have ends.
use Rattle.std.proofs.Common.{◌≡◌, ℕ, zero, suc, ◌+◌, ◌≤◌, if◌then◌else◌, ◌||◌, Bool, true, false, List, [], ◌∷◌, ◌++◌, length, map, take, refl, sym, ap, ◌∙◌, subst, arith}
use Rattle.std.specs.List.{AllByRecursion}
use Rattle.std.proofs.lemmas.List.{map-append}
use Rattle.std.proofs.lemmas.List.Folds.{list_any-append}
use Rattle.m2_fabric.specs.declared.socket.SocketId.{SocketId}
use Rattle.m2_fabric.specs.End.{SeenEnd}
use Rattle.m2_fabric.specs.Sockets.{is_among, same_socket}
use Rattle.m2_journal.specs.declared.entry.Entry.{Entry}
use Rattle.m2_journal.specs.declared.entry.Entry.TheVariants as entry
use Rattle.m2_journal.specs.State.{Judgement}
use Rattle.m2_record.specs.TakenTrails.{judgements_in}
use Rattle.m2_trail.specs.Arrivals.{LooseNow}
use Rattle.m2_trail.specs.Trails as trail
use Rattle.m2_trail.specs.Trails.{TrailNow, IsWholeTrail}
use Rattle.m2_weave.specs.declared.strand.StrandItem.{StrandItem}
use Rattle.m2_weave.specs.declared.strand.StrandItem.TheVariants.{Noted}
use Rattle.m2_weave.specs.Counting.{AreNamed, IsNamed}
use Rattle.m2_weave.specs.Rule.{Woven, strand_at}
use Rattle.m2_weave.specs.Strands.{Bytes, StrandNow, handed_by, judged_by, journal_of, total}
use Rattle.m2_weave.specs.Tidy.{AreTidy, IsTidyStrand}
use Rattle.m2_history.specs.HalfStrands.{strand_of}
use Rattle.m2_history.specs.Link.{AreKept, HasEnd, HaveHalves, IsKeptHalf, IsOnSocket, IsWholeHalf, StrandsAreTidy, end_ids, half_sockets}
use Rattle.m2_history.specs.Parts.{PartsNow}
use Rattle.m2_history.specs.Woven as woven
use Rattle.m2_history.specs.Woven.{BothNow, EndNow, as_judged, end_of, half_end, is_of_link, judged_times, knows, loose_ends, loose_strands, strands_of, strands_of_side}
use Rattle.m2_history.proofs.Tidiness.{all_at, all_handed, all_in, at_whole, first_few, half_tidy, handed_in, journal_tidy, judged_noted, none_handed, whole_append, whole_of}
use Rattle.m2_history.proofs.Kept.{of-runs}
use Rattle.m2_fabric.proofs.Sockets.{same_equal, same_refl}
use Rattle.m2_bytes.proofs.m2_lemmas.Lists.{all_append, all_map, all_so}
use Rattle.m2_bytes.proofs.m2_lemmas.Booleans.{or_left, or_right}

-- ---- the entries of a loose half

pub of-close : (k : SocketId) (closed : Bool) → AllByRecursion (IsOnSocket k) (trail.closing k closed)
of-close k true = (refl, tt)
of-close k false = tt

loose-entries : (l : LooseNow) → IsWholeTrail l.trail l.end → AllByRecursion (IsOnSocket l.trail.socket) l.trail.entries
loose-entries l whole =
    subst (AllByRecursion (IsOnSocket l.trail.socket)) (sym whole.entries)
    (all_append (IsOnSocket l.trail.socket) (map (trail.entry_of l.trail.socket) l.end.log.runs) (trail.closing l.trail.socket l.end.log.closed)
    (of-runs l.trail.socket l.end.log.runs) (of-close l.trail.socket l.end.log.closed))

-- ---- the strands of all

-- what holds of both journals and of all halves holds of each strand
all-strands : (P : StrandNow → Type 0) (x : BothNow) → P (journal_of x.a.journal) → P (journal_of x.b.journal) → AllByRecursion (λ t. P (strand_of t)) x.a.trails →
    AllByRecursion (λ t. P (strand_of t)) x.b.trails → AllByRecursion P (loose_strands x.a.journal x.b.journal x.loose) → AllByRecursion P (strands_of x)
all-strands P x ja jb ta tb ls =
    all_append P (strands_of_side x.a.journal x.a.trails ++ strands_of_side x.b.journal x.b.trails) (loose_strands x.a.journal x.b.journal x.loose)
    (all_append P (strands_of_side x.a.journal x.a.trails) (strands_of_side x.b.journal x.b.trails) (ja, all_map P strand_of x.a.trails ta) (jb, all_map P strand_of x.b.trails tb)) ls

all-loose : (P : StrandNow → Type 0) (a b : List Entry) (ls : List LooseNow) → AllByRecursion (λ l. is_of_link a b l ≡ true → P (strand_of (as_judged a b l.trail))) ls →
    AllByRecursion P (loose_strands a b ls)
all-loose P a b [] all = tt
all-loose P a b (l ∷ ls) all = at (is_of_link a b l) refl (all-loose P a b ls all.1)
  where
    at : (c : Bool) → is_of_link a b l ≡ c → AllByRecursion P (loose_strands a b ls) →
        AllByRecursion P ((if is_of_link a b l then strand_of (as_judged a b l.trail) ∷ [] else []) ++ loose_strands a b ls)
    at true e rest = rw e (all.0 e, rest)
    at false e rest = rw e rest

-- ---- they are tidy

sum-of : (f : StrandItem → ℕ) (x : BothNow) → whole_of f (strands_of x)
    ≡ ((total f (journal_of x.a.journal).items + whole_of f (map strand_of x.a.trails)) + (total f (journal_of x.b.journal).items + whole_of f (map strand_of x.b.trails)))
    + whole_of f (loose_strands x.a.journal x.b.journal x.loose)
sum-of f x =
    omega (
      arith,
      whole_append f (strands_of_side x.a.journal x.a.trails ++ strands_of_side x.b.journal x.b.trails) (loose_strands x.a.journal x.b.journal x.loose),
      whole_append f (strands_of_side x.a.journal x.a.trails) (strands_of_side x.b.journal x.b.trails),
    )

no-more : (k : SocketId) (t : TrailNow) (n : ℕ) → total (handed_by k) (strand_of t).items ≡ (if same_socket k t.socket then length t.judged_after else 0) →
    (same_socket k t.socket ≡ true → length t.judged_after ≤ n) → total (handed_by k) (strand_of t).items ≤ n
no-more k t n e h = at (same_socket k t.socket) refl
  where
    at : (b : Bool) → same_socket k t.socket ≡ b → total (handed_by k) (strand_of t).items ≤ n
    at true is = omega (arith, e, ap (λ b. if b then length t.judged_after else 0) is, h is)
    at false is = omega (arith, e, ap (λ b. if b then length t.judged_after else 0) is)

abbrev judges-nothing : (k : SocketId) (i : StrandItem) → Type 0
judges-nothing k i = judged_by k i ≡ 0

none-total : (k : SocketId) (is : List StrandItem) → AllByRecursion (judges-nothing k) is → total (judged_by k) is ≡ 0
none-total k [] all = refl
none-total k (i ∷ is) all = omega (arith, all.0, none-total k is all.1)

on-nothing : (k x : SocketId) (e : Entry) → IsOnSocket x e → judges-nothing k (Noted e)
on-nothing k x (entry.Judged y ask number answer) h = absurd h
on-nothing k x (entry.Read y count) h = refl
on-nothing k x (entry.Wrote y count) h = refl
on-nothing k x (entry.Closed y) h = refl
on-nothing k x (entry.Post place) h = refl
on-nothing k x entry.Dial h = refl
on-nothing k x (entry.Opened y) h = refl
on-nothing k x (entry.Asked ident number) h = refl
on-nothing k x (entry.Numbered number) h = refl
on-nothing k x (entry.Accepted number key) h = refl
on-nothing k x (entry.Acked number) h = refl
on-nothing k x (entry.Obeyed full) h = refl
on-nothing k x (entry.Down planned) h = refl

half-judges : (k : SocketId) (t : TrailNow) (n : ℕ) → AllByRecursion (IsOnSocket t.socket) t.entries → total (judged_by k) (strand_of t).items ≤ n
half-judges k t n on =
    omega (
      arith,
      none-total k (strand_of t).items
          (all_in (judges-nothing k) t.socket refl t.judged_after 0 t.entries (all_so (IsOnSocket t.socket) (λ e. judges-nothing k (Noted e)) (on-nothing k t.socket) t.entries on)),
    )

module _ (x : BothNow) (bytes : Bytes) (kept : AreKept x) where
  abbrev w : Woven
  w = record { strands = strands_of x; bytes = bytes }

  abbrev near : List Entry
  near = x.a.journal

  abbrev far : List Entry
  far = x.b.journal

  of-loose : (P : StrandNow → Type 0) → ((l : LooseNow) → IsWholeTrail l.trail l.end → is_of_link near far l ≡ true → P (strand_of (as_judged near far l.trail))) →
      AllByRecursion P (loose_strands near far x.loose)
  of-loose P h = all-loose P near far x.loose (all_so IsWholeHalf (λ l. is_of_link near far l ≡ true → P (strand_of (as_judged near far l.trail))) h x.loose kept.whole)

  tidy-strands : AllByRecursion (λ (s : StrandNow). IsTidyStrand s.of_half s.items) (strands_of x)
  tidy-strands =
      all-strands (λ (s : StrandNow). IsTidyStrand s.of_half s.items) x (journal_tidy near) (journal_tidy far)
      (all_so (IsKeptHalf (end_ids x.a) near) (λ t. IsTidyStrand (strand_of t).of_half (strand_of t).items) (λ t h. half_tidy t h.entries) x.a.trails kept.near.halves)
      (all_so (IsKeptHalf (end_ids x.b) far) (λ t. IsTidyStrand (strand_of t).of_half (strand_of t).items) (λ t h. half_tidy t h.entries) x.b.trails kept.far.halves)
      (of-loose (λ (s : StrandNow). IsTidyStrand s.of_half s.items) (λ l h of. half_tidy (as_judged near far l.trail) (loose-entries l h)))

  -- ---- what is judged is handed on

  abbrev handed : SocketId → ℕ
  handed k = whole_of (handed_by k) (strands_of x)

  among-either : (k : SocketId) → (is_among k (map (λ (j : Judgement). j.socket) (judgements_in near)) || is_among k (map (λ (j : Judgement). j.socket) (judgements_in far))) ≡ true →
      is_among k (map (λ (j : Judgement). j.socket) (judgements_in near ++ judgements_in far)) ≡ true
  among-either k h =
      ap (is_among k) (map-append (λ (j : Judgement). j.socket) (judgements_in near) (judgements_in far))
      ∙ list_any-append (same_socket k) (map (λ (j : Judgement). j.socket) (judgements_in near)) (map (λ (j : Judgement). j.socket) (judgements_in far)) ∙ h

  near-handed : (k : SocketId) → total (judged_by k) (journal_of near).items ≤ handed k
  near-handed k =
      omega (
        arith,
        sum-of (handed_by k) x,
        all_handed k (end_ids x.a) near near far x.a.trails x.loose kept.near.halves kept.whole kept.link.loose kept.link.near (omega arith)
            (λ h. among-either k (or_left _ _ h)) (λ h. or_left _ _ h),
      )

  far-handed : (k : SocketId) → total (judged_by k) (journal_of far).items ≤ handed k
  far-handed k =
      omega (
        arith,
        sum-of (handed_by k) x,
        all_handed k (end_ids x.b) far near far x.b.trails x.loose kept.far.halves kept.whole kept.link.loose kept.link.far (omega arith)
            (λ h. among-either k (or_right _ _ h)) (λ h. or_right _ _ h),
      )

  judged-strands : (k : SocketId) → AllByRecursion (λ (s : StrandNow). total (judged_by k) s.items ≤ handed k) (strands_of x)
  judged-strands k =
      all-strands (λ (s : StrandNow). total (judged_by k) s.items ≤ handed k) x (near-handed k) (far-handed k)
      (all_so (IsKeptHalf (end_ids x.a) near) (λ t. total (judged_by k) (strand_of t).items ≤ handed k) (λ t h. half-judges k t (handed k) h.entries) x.a.trails kept.near.halves)
      (all_so (IsKeptHalf (end_ids x.b) far) (λ t. total (judged_by k) (strand_of t).items ≤ handed k) (λ t h. half-judges k t (handed k) h.entries) x.b.trails kept.far.halves)
      (of-loose (λ (s : StrandNow). total (judged_by k) s.items ≤ handed k) (λ l h of. half-judges k (as_judged near far l.trail) (handed k) (loose-entries l h)))

  -- ---- what is handed on is judged

  abbrev judged : SocketId → ℕ
  judged k = whole_of (judged_by k) (strands_of x)

  both-judged : (k : SocketId) → judged_times near far k ≤ judged k
  both-judged k = omega (arith, sum-of (judged_by k) x)

  taken-judged : (k : SocketId) (ids : List SocketId) (journal : List Entry) → total (judged_by k) (map Noted journal) ≤ judged_times near far k → (t : TrailNow) → IsKeptHalf ids journal t →
      total (handed_by k) (strand_of t).items ≤ judged k
  taken-judged k ids journal fewer t h =
      no-more k t (judged k) (handed_in k t.socket t.judged_after 0 t.entries) (λ is. omega (arith, mine is, fewer, both-judged k))
    where
      mine : same_socket k t.socket ≡ true → length t.judged_after ≡ total (judged_by k) (map Noted journal)
      mine is = h.many ∙ ap length h.judged ∙ sym (judged_noted t.socket journal) ∙ ap (λ y. total (judged_by y) (map Noted journal)) (sym (same_equal k t.socket is))

  take-few : (n : ℕ) (ns : List ℕ) → length (take n ns) ≤ n
  take-few zero ns = omega arith
  take-few (suc n) [] = omega arith
  take-few (suc n) (m ∷ ns) = omega (arith, take-few n ns)

  loose-judged : (k : SocketId) (l : LooseNow) → total (handed_by k) (strand_of (as_judged near far l.trail)).items ≤ judged k
  loose-judged k l =
      no-more k (as_judged near far l.trail) (judged k) (handed_in k l.trail.socket (as_judged near far l.trail).judged_after 0 l.trail.entries)
      (λ is. omega (arith, take-few (judged_times near far l.trail.socket) l.trail.judged_after, ap (judged_times near far) (same_equal k l.trail.socket is), both-judged k))

  handed-strands : (k : SocketId) → AllByRecursion (λ (s : StrandNow). total (handed_by k) s.items ≤ judged k) (strands_of x)
  handed-strands k =
      all-strands (λ (s : StrandNow). total (handed_by k) s.items ≤ judged k) x (omega (arith, none_handed k near)) (omega (arith, none_handed k far))
      (all_so (IsKeptHalf (end_ids x.a) near) (λ t. total (handed_by k) (strand_of t).items ≤ judged k) (taken-judged k (end_ids x.a) near (omega arith)) x.a.trails kept.near.halves)
      (all_so (IsKeptHalf (end_ids x.b) far) (λ t. total (handed_by k) (strand_of t).items ≤ judged k) (taken-judged k (end_ids x.b) far (omega arith)) x.b.trails kept.far.halves)
      (of-loose (λ (s : StrandNow). total (handed_by k) s.items ≤ judged k) (λ l h of. loose-judged k l))

  tidy : AreTidy w
  tidy = record {
    strands = tidy-strands;
    judged = λ j k. omega (arith, all_at (λ (s : StrandNow). total (judged_by k) s.items ≤ handed k) (omega arith) (strands_of x) (judged-strands k) j, at_whole (handed_by k) (strands_of x));
    answered = λ j n count k there.
        omega (
          arith,
          first_few (handed_by k) n (strand_at w j).items,
          all_at (λ (s : StrandNow). total (handed_by k) s.items ≤ judged k) (omega arith) (strands_of x) (handed-strands k) j,
          at_whole (judged_by k) (strands_of x),
        );
  }

  -- ---- their sockets have ends

  abbrev names : List SocketId
  names = map (λ (e : EndNow). e.socket) (woven.ends_of x)

  ids-of : (journal : List Entry) (es : List SeenEnd) → map (λ (e : EndNow). e.socket) (map (end_of journal) es) ≡ map (λ (e : SeenEnd). e.id) es
  ids-of journal [] = refl
  ids-of journal (e ∷ es) = ap (λ l. e.id ∷ l) (ids-of journal es)

  names-are : names ≡ (end_ids x.a ++ end_ids x.b) ++ map (λ (e : EndNow). e.socket) (loose_ends near far x.loose)
  names-are =
      map-append (λ (e : EndNow). e.socket) (map (end_of near) x.a.ends ++ map (end_of far) x.b.ends) (loose_ends near far x.loose)
      ∙ ap (λ l. l ++ map (λ (e : EndNow). e.socket) (loose_ends near far x.loose))
      (map-append (λ (e : EndNow). e.socket) (map (end_of near) x.a.ends) (map (end_of far) x.b.ends) ∙ ap (λ l. l ++ map (λ (e : EndNow). e.socket) (map (end_of far) x.b.ends)) (ids-of near x.a.ends)
      ∙ ap (λ l. end_ids x.a ++ l) (ids-of far x.b.ends))

  among-names : (k : SocketId) → ((is_among k (end_ids x.a) || is_among k (end_ids x.b)) || is_among k (map (λ (e : EndNow). e.socket) (loose_ends near far x.loose))) ≡ true → is_among k names ≡ true
  among-names k h =
      ap (is_among k) names-are ∙ list_any-append (same_socket k) (end_ids x.a ++ end_ids x.b) (map (λ (e : EndNow). e.socket) (loose_ends near far x.loose))
      ∙ ap (λ c. c || is_among k (map (λ (e : EndNow). e.socket) (loose_ends near far x.loose))) (list_any-append (same_socket k) (end_ids x.a) (end_ids x.b)) ∙ h

  near-named : (k : SocketId) → is_among k (end_ids x.a) ≡ true → is_among k names ≡ true
  near-named k h = among-names k (or_left _ _ (or_left _ _ h))

  far-named : (k : SocketId) → is_among k (end_ids x.b) ≡ true → is_among k names ≡ true
  far-named k h = among-names k (or_left _ _ (or_right _ _ h))

  loose-there : (k : SocketId) (ls : List LooseNow) → AllByRecursion IsWholeHalf ls → is_among k (map (λ (l : LooseNow). l.trail.socket) ls) ≡ true →
      (knows near k || knows far k) ≡ true → is_among k (map (λ (e : EndNow). e.socket) (loose_ends near far ls)) ≡ true
  loose-there k [] whole h of = absurd cc
  loose-there k (l ∷ ls) whole h of = at (same_socket k l.trail.socket) refl h (λ g. loose-there k ls whole.1 g of)
    where
      among-more : (c : Bool) → is_among k (map (λ (e : EndNow). e.socket) (loose_ends near far ls)) ≡ true →
          is_among k (map (λ (e : EndNow). e.socket) ((if c then half_end l ∷ [] else []) ++ loose_ends near far ls)) ≡ true
      among-more true h = or_right _ _ h
      among-more false h = h

      at : (c : Bool) → same_socket k l.trail.socket ≡ c → (c || is_among k (map (λ (l : LooseNow). l.trail.socket) ls)) ≡ true →
          (is_among k (map (λ (l : LooseNow). l.trail.socket) ls) ≡ true → is_among k (map (λ (e : EndNow). e.socket) (loose_ends near far ls)) ≡ true) →
          is_among k (map (λ (e : EndNow). e.socket) ((if is_of_link near far l then half_end l ∷ [] else []) ++ loose_ends near far ls)) ≡ true
      at true e h rest =
          let same : k ≡ l.end.id = same_equal k l.trail.socket e ∙ whole.0.socket in
          let here : is_of_link near far l ≡ true = subst (λ y. (knows near y || knows far y) ≡ true) same of in
          let yes : same_socket k l.end.id ≡ true = subst (λ y. same_socket k y ≡ true) same (same_refl k) in
          rw here (or_left _ _ yes)
      at false e h rest = among-more (is_of_link near far l) (rest h)

  -- a half that has judged asks is there
  half-named : (k : SocketId) (p : PartsNow) → (is_among k (end_ids p) ≡ true → is_among k names ≡ true) → AllByRecursion (IsKeptHalf (end_ids p) p.journal) p.trails →
      (knows near k || knows far k) ≡ true → is_among k (half_sockets p.trails x.loose) ≡ true → is_among k names ≡ true
  half-named k p ends halves of h =
      let split = list_any-append (same_socket k) (map (λ (t : TrailNow). t.socket) p.trails) (map (λ (l : LooseNow). l.trail.socket) x.loose) in
      by_where (is_among k (map (λ (t : TrailNow). t.socket) p.trails)) (is_among k (map (λ (l : LooseNow). l.trail.socket) x.loose)) refl refl (sym split ∙ h)
    where
      taken-there : (ts : List TrailNow) → AllByRecursion (IsKeptHalf (end_ids p) p.journal) ts → is_among k (map (λ (t : TrailNow). t.socket) ts) ≡ true → is_among k (end_ids p) ≡ true
      taken-there [] all h = absurd cc
      taken-there (t ∷ ts) all h = at (same_socket k t.socket) refl h (taken-there ts all.1)
        where
          at : (c : Bool) → same_socket k t.socket ≡ c → (c || is_among k (map (λ (t : TrailNow). t.socket) ts)) ≡ true →
              (is_among k (map (λ (t : TrailNow). t.socket) ts) ≡ true → is_among k (end_ids p) ≡ true) → is_among k (end_ids p) ≡ true
          at true e h rest = subst (λ y. is_among y (end_ids p) ≡ true) (sym (same_equal k t.socket e)) all.0.end
          at false e h rest = rest h

      by_where : (c d : Bool) → is_among k (map (λ (t : TrailNow). t.socket) p.trails) ≡ c → is_among k (map (λ (l : LooseNow). l.trail.socket) x.loose) ≡ d → (c || d) ≡ true → is_among k names ≡ true
      by_where true d e f h = ends (taken-there p.trails halves e)
      by_where false d e f h = among-names k (or_right _ _ (loose-there k x.loose kept.whole (f ∙ h) of))

  -- the entries of a journal

  journal-named : (p : PartsNow) → ((k : SocketId) → is_among k (end_ids p) ≡ true → is_among k names ≡ true) → AllByRecursion (IsKeptHalf (end_ids p) p.journal) p.trails →
      (es : List Entry) → ((k : SocketId) → knows es k ≡ true → (knows near k || knows far k) ≡ true) → AllByRecursion (HasEnd (end_ids p)) es →
      HaveHalves p.trails x.loose (judgements_in es) → AllByRecursion (IsNamed names) (map Noted es)
  journal-named p ends halves [] of named have = tt
  journal-named p ends halves (entry.Read k count ∷ es) of named have = (ends k named.0, journal-named p ends halves es of named.1 have)
  journal-named p ends halves (entry.Wrote k count ∷ es) of named have = (ends k named.0, journal-named p ends halves es of named.1 have)
  journal-named p ends halves (entry.Judged k ask number answer ∷ es) of named have =
      (half-named k p (ends k) halves (of k (or_left _ _ (same_refl k))) have.0, journal-named p ends halves es (λ y h. of y (or_right _ _ h)) named.1 have.1)
  journal-named p ends halves (entry.Opened k ∷ es) of named have = (tt, journal-named p ends halves es (λ y h. of y (or_right _ _ h)) named.1 have)
  journal-named p ends halves (entry.Post place ∷ es) of named have = (tt, journal-named p ends halves es of named.1 have)
  journal-named p ends halves (entry.Dial ∷ es) of named have = (tt, journal-named p ends halves es of named.1 have)
  journal-named p ends halves (entry.Closed k ∷ es) of named have = (tt, journal-named p ends halves es of named.1 have)
  journal-named p ends halves (entry.Asked ident number ∷ es) of named have = (tt, journal-named p ends halves es of named.1 have)
  journal-named p ends halves (entry.Numbered number ∷ es) of named have = (tt, journal-named p ends halves es of named.1 have)
  journal-named p ends halves (entry.Accepted number key ∷ es) of named have = (tt, journal-named p ends halves es of named.1 have)
  journal-named p ends halves (entry.Acked number ∷ es) of named have = (tt, journal-named p ends halves es of named.1 have)
  journal-named p ends halves (entry.Obeyed full ∷ es) of named have = (tt, journal-named p ends halves es of named.1 have)
  journal-named p ends halves (entry.Down planned ∷ es) of named have = (tt, journal-named p ends halves es of named.1 have)

  -- those of a half
  on-named : (k : SocketId) → is_among k names ≡ true → (e : Entry) → IsOnSocket k e → IsNamed names (Noted e)
  on-named k h (entry.Read y count) e = subst (λ z. is_among z names ≡ true) (sym e) h
  on-named k h (entry.Wrote y count) e = subst (λ z. is_among z names ≡ true) (sym e) h
  on-named k h (entry.Closed y) e = tt
  on-named k h (entry.Judged y ask number answer) e = absurd e
  on-named k h (entry.Post place) e = tt
  on-named k h entry.Dial e = tt
  on-named k h (entry.Opened y) e = tt
  on-named k h (entry.Asked ident number) e = tt
  on-named k h (entry.Numbered number) e = tt
  on-named k h (entry.Accepted number key) e = tt
  on-named k h (entry.Acked number) e = tt
  on-named k h (entry.Obeyed full) e = tt
  on-named k h (entry.Down planned) e = tt

  strand-named : (t : TrailNow) → is_among t.socket names ≡ true → AllByRecursion (IsOnSocket t.socket) t.entries → AllByRecursion (IsNamed names) (strand_of t).items
  strand-named t h on = all_in (IsNamed names) t.socket h t.judged_after 0 t.entries (all_so (IsOnSocket t.socket) (λ e. IsNamed names (Noted e)) (on-named t.socket h) t.entries on)

  loose-name : (ls : List LooseNow) → AllByRecursion IsWholeHalf ls → ((k : SocketId) → is_among k (map (λ (e : EndNow). e.socket) (loose_ends near far ls)) ≡ true → is_among k names ≡ true) →
      AllByRecursion (λ l. is_of_link near far l ≡ true → AllByRecursion (IsNamed names) (strand_of (as_judged near far l.trail)).items) ls
  loose-name [] whole h = tt
  loose-name (l ∷ ls) whole h = (first, loose-name ls whole.1 (λ k e. h k (among-more (is_of_link near far l) k e)))
    where
      among-more : (c : Bool) (k : SocketId) → is_among k (map (λ (e : EndNow). e.socket) (loose_ends near far ls)) ≡ true →
          is_among k (map (λ (e : EndNow). e.socket) ((if c then half_end l ∷ [] else []) ++ loose_ends near far ls)) ≡ true
      among-more true k h = or_right _ _ h
      among-more false k h = h

      here : is_of_link near far l ≡ true → is_among l.trail.socket (map (λ (e : EndNow). e.socket) ((if is_of_link near far l then half_end l ∷ [] else []) ++ loose_ends near far ls)) ≡ true
      here e =
          let yes : same_socket l.trail.socket l.end.id ≡ true = subst (λ y. same_socket l.trail.socket y ≡ true) whole.0.socket (same_refl l.trail.socket) in
          rw e (or_left _ _ yes)

      first : is_of_link near far l ≡ true → AllByRecursion (IsNamed names) (strand_of (as_judged near far l.trail)).items
      first e = strand-named (as_judged near far l.trail) (h l.trail.socket (here e)) (loose-entries l whole.0)

  named : AreNamed names w
  named =
      all-strands (λ (s : StrandNow). AllByRecursion (IsNamed names) s.items) x
      (journal-named x.a near-named kept.near.halves near (λ k h. or_left _ _ h) kept.near.named kept.link.near)
      (journal-named x.b far-named kept.far.halves far (λ k h. or_right _ _ h) kept.far.named kept.link.far)
      (all_so (IsKeptHalf (end_ids x.a) near) (λ t. AllByRecursion (IsNamed names) (strand_of t).items) (λ t h. strand-named t (near-named t.socket h.end) h.entries) x.a.trails kept.near.halves)
      (all_so (IsKeptHalf (end_ids x.b) far) (λ t. AllByRecursion (IsNamed names) (strand_of t).items) (λ t h. strand-named t (far-named t.socket h.end) h.entries) x.b.trails kept.far.halves)
      (all-loose (λ (s : StrandNow). AllByRecursion (IsNamed names) s.items) near far x.loose (loose-name x.loose kept.whole (λ k h. among-names k (or_right _ _ h))))

pub strands_are_tidy : StrandsAreTidy
strands_are_tidy = record { tidy = λ x bytes kept. tidy x bytes kept; named = λ x bytes kept. named x bytes kept }
