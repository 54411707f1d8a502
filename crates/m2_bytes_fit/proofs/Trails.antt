-- A trail gives what bytes that fit want of a half, at each point of an order of its entries and of its judgements.
use Rattle.std.proofs.Common.{◌≡◌, ℕ, zero, suc, ◌≤◌, ◌<◌, ◌⊎◌, inl, inr, Bool, true, false, if◌then◌else◌, List, [], ◌∷◌, ◌++◌, length, take, slice_get, slice_index, Option, Some, None, refl, sym, ap, ◌∙◌, subst, arith, append_assoc, append-nil}
use Rattle.std.proofs.lemmas.Bool.{cases_lt, le-ltb}
use Rattle.std.proofs.lemmas.List.{take_all}
use Rattle.std.proofs.lemmas.List.Elements.{filter_map-append}
use Rattle.m2_feed.specs.m2_control.declared.control.Control.{Control}
use Rattle.m2_feed.specs.m2_fabric.declared.socket.SocketId.{SocketId}
use Rattle.m2_feed.specs.m2_fabric.Log.{Log}
use Rattle.m2_feed.specs.m2_fabric.Sockets.{same_socket}
use Rattle.m2_feed.specs.m2_handshake.Course.{no_exchange}
use Rattle.m2_feed.specs.m2_handshake.Laws.{IsPrefix}
use Rattle.m2_feed.specs.m2_handshake.Standing.{Standing, fed}
use Rattle.m2_feed.proofs.m2_handshake.Reaching.{leads_on}
use Rattle.m2_feed.specs.m2_journal.declared.entry.Entry.{Entry}
use Rattle.m2_feed.specs.m2_journal.declared.entry.Entry.TheVariants as entry
use Rattle.m2_feed.specs.m2_journal.declared.entry.JudgedItem.{JudgedItem}
use Rattle.m2_feed.specs.m2_journal.Items.{run_of, runs_on}
use Rattle.m2_trail.specs.Replies.{reply_to, replies_to, refusal_of, all_replies, first_replies}
use Rattle.m2_trail.specs.Trails.{TrailNow, ComesToAsk, ComesToWrite, IsTrailOf, begins, got_by, how_many_below, judged_by, put_by, read_by, replies_by, written_by}
use Rattle.m2_trail.proofs.Judged.{behind, none_is_first}
use Rattle.m2_trail.proofs.Points.{prefix_trans}
use Rattle.m2_trail.proofs.Runs.{read_by-append, written_by-append}
use Rattle.m2_bytes_fit.specs.Trails.{IsWrote, IsPointOf, IsHalfAt, bytes_after, TrailsTellEachPoint}

-- ---- first parts of lists

first_part : {A : Type 0} (a b : ℕ) (xs : List A) → a ≤ b → IsPrefix (take a xs) (take b xs)
first_part zero b xs h = (take b xs, refl)
first_part (suc a) zero xs h = absurd (omega (arith, h))
first_part (suc a) (suc b) [] h = ([], refl)
first_part (suc a) (suc b) (x ∷ xs) h =
    let p = first_part a b xs (omega (arith, h)) in
    (p.0, ap (λ l. x ∷ l) p.1)

-- one more, or none is there
abbrev OneMore : {A : Type 0} → List A → ℕ → Type 0
OneMore {A} xs n = (take (suc n) xs ≡ take n xs) ⊎ ((x : A) × (slice_get xs n ≡ Some x) × (take (suc n) xs ≡ take n xs ++ x ∷ []))

one_more : {A : Type 0} (xs : List A) (n : ℕ) → OneMore xs n
one_more [] zero = inl refl
one_more [] (suc n) = inl refl
one_more (x ∷ xs) zero = inr (x, refl, refl)
one_more (x ∷ xs) (suc n) = longer (one_more xs n)
  where
    longer : OneMore xs n → OneMore (x ∷ xs) (suc n)
    longer (inl e) = inl (ap (λ l. x ∷ l) e)
    longer (inr it) = inr (it.0, it.1, ap (λ l. x ∷ l) it.2)

-- the runs of the first entries
runs_first : (k : SocketId) (a b : ℕ) (es : List Entry) → a ≤ b → IsPrefix (runs_on k (take a es)) (runs_on k (take b es))
runs_first k a b es h =
    let p = first_part a b es h in
    (runs_on k p.0, ap (runs_on k) p.1 ∙ filter_map-append (run_of k) (take a es) p.0)

got_first : (k : SocketId) (a b : ℕ) (es : List Entry) (log : Log) → a ≤ b → IsPrefix (got_by (runs_on k (take a es)) log) (got_by (runs_on k (take b es)) log)
got_first k a b es log h =
    let p = runs_first k a b es h in
    let sizes = ap read_by p.1 ∙ read_by-append (runs_on k (take a es)) p.0 in
    first_part (read_by (runs_on k (take a es))) (read_by (runs_on k (take b es))) log.got (omega (arith, sizes))

-- ---- more bytes

asks_more : (begin : Standing) (bytes more : List ℕ) (replies : List Control) (judged : List JudgedItem) → ComesToAsk begin bytes replies judged →
    ComesToAsk begin (bytes ++ more) replies judged
asks_more begin bytes more replies judged a = record {
  exchange = record a.exchange { bytes = a.exchange.bytes ++ more };
  standing = fed a.standing more;
  comes = leads_on.feeds begin a.standing a.exchange more a.comes;
  fed = ap (λ l. l ++ more) a.fed;
  given = a.given;
  first = a.first;
}

writes_more : (begin : Standing) (bytes more : List ℕ) (replies : List Control) (text : List ℕ) → ComesToWrite begin bytes replies text →
    ComesToWrite begin (bytes ++ more) replies text
writes_more begin bytes more replies text w = record {
  exchange = record w.exchange { bytes = w.exchange.bytes ++ more };
  standing = fed w.standing more;
  comes = leads_on.feeds begin w.standing w.exchange more w.comes;
  fed = ap (λ l. l ++ more) w.fed;
  given = w.given;
  written = w.written;
}

-- ---- the replies that may be given

-- one reply, and behind it all others
all_of_more : (i : JudgedItem) (is : List JudgedItem) (refused : Option ℕ) → all_replies (i ∷ is) refused ≡ reply_to i.answer ++ all_replies is refused
all_of_more i is refused = append_assoc (reply_to i.answer) (replies_to is) (refusal_of refused)

behind_it : (i : JudgedItem) (is : List JudgedItem) (refused : Option ℕ) (xs : List Control) → IsPrefix xs (all_replies is refused) →
    IsPrefix (reply_to i.answer ++ xs) (all_replies (i ∷ is) refused)
behind_it i is refused xs p =
    subst (IsPrefix (reply_to i.answer ++ xs)) (sym (all_of_more i is refused)) (behind (reply_to i.answer) xs (all_replies is refused) p)

-- those to the first asks are first among all
first_of_all : (is : List JudgedItem) (c : ℕ) (refused : Option ℕ) → IsPrefix (first_replies is c refused) (all_replies is refused)
first_of_all [] c refused = ([], sym (append-nil (refusal_of refused)))
first_of_all (i ∷ is) zero refused = none_is_first (all_replies (i ∷ is) refused)
first_of_all (i ∷ is) (suc c) refused = behind_it i is refused (first_replies is c refused) (first_of_all is c refused)

-- where more asks come behind, the refusal isn't among them
first_of_some : (is : List JudgedItem) (c j : ℕ) (refused : Option ℕ) → c ≤ j → j < length is → IsPrefix (first_replies is c refused) (all_replies (take j is) None)
first_of_some [] c j refused h few = absurd (omega (arith, few))
first_of_some (i ∷ is) zero j refused h few = none_is_first (all_replies (take j (i ∷ is)) None)
first_of_some (i ∷ is) (suc c) zero refused h few = absurd (omega (arith, h))
first_of_some (i ∷ is) (suc c) (suc j) refused h few =
    behind_it i (take j is) None (first_replies is c refused) (first_of_some is c j refused (omega (arith, h)) (omega (arith, few)))

-- those to the asks before one
first_before : (is : List JudgedItem) (place : ℕ) (refused : Option ℕ) → IsPrefix (replies_to (take place is)) (all_replies (take (suc place) is) refused)
first_before is zero refused = none_is_first (all_replies (take 1 is) refused)
first_before [] (suc place) refused = none_is_first (all_replies [] refused)
first_before (i ∷ is) (suc place) refused = behind_it i (take (suc place) is) refused (replies_to (take place is)) (first_before is place refused)

-- ---- the last entry that writes

-- a place up to which all that was put is put, and before which so many asks were judged
record PutBy (t : TrailNow) (entries judged : ℕ) : Type 0 where
  place : ℕ
  before : place ≤ entries
  same : written_by (runs_on t.socket (take place t.entries)) ≡ written_by (runs_on t.socket (take entries t.entries))
  answered : judged_by t place ≤ judged

none_below : (ns : List ℕ) → how_many_below 0 ns ≡ 0
none_below [] = refl
none_below (n ∷ ns) = ap (λ b. if b then suc (how_many_below 0 ns) else 0) (le-ltb n 0 (omega arith))

writes_nothing : (k : SocketId) (e : Entry) → (IsWrote (Some e) → ⊥) → written_by (runs_on k (e ∷ [])) ≡ 0
writes_nothing k (entry.Wrote socket count) h = absurd (h tt)
writes_nothing k (entry.Read socket count) h = at (same_socket k socket) refl
  where
    at : (b : Bool) → same_socket k socket ≡ b → written_by (runs_on k (entry.Read socket count ∷ [])) ≡ 0
    at true e = rw e refl
    at false e = rw e refl
writes_nothing k (entry.Post place) h = refl
writes_nothing k entry.Dial h = refl
writes_nothing k (entry.Opened socket) h = refl
writes_nothing k (entry.Closed socket) h = refl
writes_nothing k (entry.Judged socket ask number answer) h = refl
writes_nothing k (entry.Asked ident number) h = refl
writes_nothing k (entry.Numbered number) h = refl
writes_nothing k (entry.Accepted number key) h = refl
writes_nothing k (entry.Acked number) h = refl
writes_nothing k (entry.Obeyed full) h = refl
writes_nothing k (entry.Down planned) h = refl

wrote_or_not : (e : Entry) → IsWrote (Some e) ⊎ (IsWrote (Some e) → ⊥)
wrote_or_not (entry.Wrote socket count) = inl tt
wrote_or_not (entry.Read socket count) = inr (λ h. h)
wrote_or_not (entry.Post place) = inr (λ h. h)
wrote_or_not entry.Dial = inr (λ h. h)
wrote_or_not (entry.Opened socket) = inr (λ h. h)
wrote_or_not (entry.Closed socket) = inr (λ h. h)
wrote_or_not (entry.Judged socket ask number answer) = inr (λ h. h)
wrote_or_not (entry.Asked ident number) = inr (λ h. h)
wrote_or_not (entry.Numbered number) = inr (λ h. h)
wrote_or_not (entry.Accepted number key) = inr (λ h. h)
wrote_or_not (entry.Acked number) = inr (λ h. h)
wrote_or_not (entry.Obeyed full) = inr (λ h. h)
wrote_or_not (entry.Down planned) = inr (λ h. h)

put_by_then : (t : TrailNow) (entries judged : ℕ) → ((n : ℕ) → n < entries → IsWrote (slice_get t.entries n) → judged_by t (suc n) ≤ judged) → PutBy t entries judged
put_by_then t zero judged h = record { place = 0; before = omega arith; same = refl; answered = omega (arith, none_below t.judged_after) }
put_by_then t (suc n) judged h = at (one_more t.entries n) (put_by_then t n judged (λ m less. h m (omega (arith, less))))
  where
    on : PutBy t n judged → written_by (runs_on t.socket (take n t.entries)) ≡ written_by (runs_on t.socket (take (suc n) t.entries)) → PutBy t (suc n) judged
    on it e = record { place = it.place; before = omega (arith, it.before); same = it.same ∙ e; answered = it.answered }

    by_entry : (e : Entry) → slice_get t.entries n ≡ Some e → take (suc n) t.entries ≡ take n t.entries ++ e ∷ [] → PutBy t n judged →
        IsWrote (Some e) ⊎ (IsWrote (Some e) → ⊥) → PutBy t (suc n) judged
    by_entry e there more it (inl wrote) =
        record { place = suc n; before = omega arith; same = refl; answered = h n (omega arith) (subst IsWrote (sym there) wrote) }
    by_entry e there more it (inr not_wrote) =
        let runs = ap (runs_on t.socket) more ∙ filter_map-append (run_of t.socket) (take n t.entries) (e ∷ []) in
        let sizes = ap written_by runs ∙ written_by-append (runs_on t.socket (take n t.entries)) (runs_on t.socket (e ∷ [])) in
        on it (omega (arith, sizes, writes_nothing t.socket e not_wrote))

    at : OneMore t.entries n → PutBy t n judged → PutBy t (suc n) judged
    at (inl e) it = on it (sym (ap (λ l. written_by (runs_on t.socket l)) e))
    at (inr more) it = by_entry more.0 more.1 more.2 it (wrote_or_not more.0)

-- ---- what is known at a point

module _ (t : TrailNow) (log : Log) (entries judged : ℕ) (f : IsTrailOf t log) (p : IsPointOf t entries judged) where
  abbrev got : List ℕ
  got = (bytes_after t log entries).got

  abbrev put : List ℕ
  put = (bytes_after t log entries).put

  -- its asks
  asks_at : (n : ℕ) → judged ≡ n → (refused : Option ℕ) → ComesToAsk (begins t) got (all_replies (take n t.judged) refused) (take n t.judged)
  asks_at zero e refused = record {
    exchange = record no_exchange { bytes = got };
    standing = fed (begins t) got;
    comes = leads_on.feeds (begins t) (begins t) no_exchange got (leads_on.begins (begins t));
    fed = refl;
    given = none_is_first (all_replies [] refused);
    first = ([], refl);
  }
  asks_at (suc place) e refused =
      let asked = f.asks place (omega (arith, e, p.few)) in
      let n = slice_index t.judged_after place in
      let more = got_first t.socket n entries t.entries log (p.asked place (omega (arith, e))) in
      let on = asks_more (begins t) (got_by (runs_on t.socket (take n t.entries)) log) more.0 (replies_to (take place t.judged)) (take (suc place) t.judged) asked in
      let there : ComesToAsk (begins t) got (replies_to (take place t.judged)) (take (suc place) t.judged) =
      subst (λ bytes. ComesToAsk (begins t) bytes (replies_to (take place t.judged)) (take (suc place) t.judged)) (sym more.1) on in
      record {
        exchange = there.exchange;
        standing = there.standing;
        comes = there.comes;
        fed = there.fed;
        given = prefix_trans there.exchange.replies (replies_to (take place t.judged)) (all_replies (take (suc place) t.judged) refused) there.given (first_before t.judged place refused);
        first = there.first;
      }

  -- its text
  writes_at : (replies : List Control) → ((c : ℕ) → c ≤ judged → IsPrefix (first_replies t.judged c f.refused) replies) → ComesToWrite (begins t) got replies put
  writes_at replies first =
      let it = put_by_then t entries judged p.answered in
      let point = f.points it.place in
      let more = got_first t.socket it.place entries t.entries log it.before in
      let on = writes_more (begins t) (got_by (runs_on t.socket (take it.place t.entries)) log) more.0 (replies_by t f.refused it.place) (put_by (runs_on t.socket (take it.place t.entries)) log) point in
      let text : put_by (runs_on t.socket (take it.place t.entries)) log ≡ put = ap (λ n. take n log.put) it.same in
      let there : ComesToWrite (begins t) got (replies_by t f.refused it.place) put =
      subst (λ bytes. ComesToWrite (begins t) bytes (replies_by t f.refused it.place) put) (sym more.1)
      (subst (λ words. ComesToWrite (begins t) (got_by (runs_on t.socket (take it.place t.entries)) log ++ more.0) (replies_by t f.refused it.place) words) text on) in
      record {
        exchange = there.exchange;
        standing = there.standing;
        comes = there.comes;
        fed = there.fed;
        given = prefix_trans there.exchange.replies (replies_by t f.refused it.place) replies there.given (first (judged_by t it.place) it.answered);
        written = there.written;
      }

  half_at : (judged < length t.judged) ⊎ (length t.judged ≤ judged) → IsHalfAt (begins t) (bytes_after t log entries) (take judged t.judged)
  half_at (inl less) = record {
    refused = None;
    refused_fits = tt;
    asks = asks_at judged refl None;
    writes = writes_at (all_replies (take judged t.judged) None) (λ c h. first_of_some t.judged c judged f.refused h less);
  }
  half_at (inr all) = record {
    refused = f.refused;
    refused_fits = f.refused_fits;
    asks = asks_at judged refl f.refused;
    writes = writes_at (all_replies (take judged t.judged) f.refused)
        (λ c h. subst (λ l. IsPrefix (first_replies t.judged c f.refused) (all_replies l f.refused)) (sym (take_all judged t.judged all)) (first_of_all t.judged c f.refused));
  }

pub tell_each_point : TrailsTellEachPoint
tell_each_point t log entries judged f p = half_at t log entries judged f p (cases_lt judged (length t.judged))
