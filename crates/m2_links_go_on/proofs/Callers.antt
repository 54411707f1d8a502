-- What the records of a node have judged of its halves: all that was judged of a half one of them has.
use Rattle.std.proofs.Common.{◌≡◌, ℕ, ◌⊎◌, inl, inr, Bool, true, false, ◌||◌, if◌then◌else◌, List, [], ◌∷◌, map, refl, sym, ap, ◌∙◌}
use Rattle.std.specs.List.{AllByRecursion, list_any}
use Rattle.m2_fabric.specs.declared.socket.SocketId.{SocketId}
use Rattle.m2_fabric.specs.Sockets.{is_among}
use Rattle.m2_growth.proofs.m2_bytes_fit.Judges.{not_judged_on}
use Rattle.m2_growth.specs.Halves.{IsOneOf, all_left}
use Rattle.m2_growth.proofs.Among.{of_each}
use Rattle.m2_weave.specs.m2_journal.declared.entry.JudgedItem.{JudgedItem}
use Rattle.m2_weave.specs.m2_journal.Lawful.{judged_on}
use Rattle.m2_history.specs.m2_record.RecordNow.{RecordNow}
use Rattle.m2_history.specs.m2_record.TakenTrails.{judgements_in}
use Rattle.m2_cluster.specs.m2_center.m2_turn.Halves.{AllHalves, sessions_with}
use Rattle.m2_cluster.specs.m2_center.m2_turn.Sessions.{AreConsistent, Caller, IsCaller, IsTold, PendingNow, Supply, WasCaller, caller_in, caller_of, is_asker, peer_of}
use Rattle.m2_history.specs.m2_trail.Arrivals.{LooseNow, left_of}
use Rattle.m2_links_go_on.proofs.LinkRecords.{asked_some}
use Rattle.m2_links_go_on.proofs.Standing.{judged_sockets}
use Rattle.m2_fabric.proofs.m2_lemmas.Lists.{all_append, all_map, all_so}
use Rattle.m2_fabric.proofs.m2_lemmas.Booleans.{false_isnt_true}

-- a half as records see it
pub record IsCalled (made : List SocketId) (records : List RecordNow) (l : LooseNow) : Type 0 where
  pub caller : Caller
  pub socket : caller.socket ≡ l.end.id
  pub judged : caller.judged ≡ l.trail.judged
  pub is : IsCaller made records caller

pub are_called : (supply : Supply) (entity : ℕ) (made : List SocketId) (records : List RecordNow) (h : AllHalves) → AreConsistent supply entity (sessions_with made records h) → AllByRecursion (IsCalled made records) (all_left h)
are_called supply entity made records h c =
    all_append (IsCalled made records) (map (λ (p : PendingNow). left_of p.half) h.pending) h.loose
    (all_map (IsCalled made records) (λ (p : PendingNow). left_of p.half) h.pending
    (all_so (λ (p : PendingNow). IsCaller made records (caller_in p)) (λ (p : PendingNow). IsCalled made records (left_of p.half))
    (λ p is. record { caller = caller_in p; socket = refl; judged = refl; is = is }) h.pending c.halves))
    (all_so (WasCaller made records) (IsCalled made records) (λ l was. record { caller = caller_of was.asker l; socket = refl; judged = refl; is = was.caller }) h.loose c.loose)

-- what a record that has judged asks on its socket has judged is all
pub told_all : (c : Caller) (r : RecordNow) → IsTold c r → is_among c.socket (judged_sockets r.journal) ≡ true → c.judged ≡ judged_on c.socket (judgements_in r.journal)
told_all c r told asked = at (is_asker c.asker (peer_of r)) refl
  where
    at : (b : Bool) → is_asker c.asker (peer_of r) ≡ b → c.judged ≡ judged_on c.socket (judgements_in r.journal)
    at true is = sym (ap (λ b. if b then c.judged else []) is) ∙ told.judged
    at false is = absurd (asked_some c.socket (judgements_in r.journal) asked (sym told.judged ∙ ap (λ b. if b then c.judged else []) is))

-- one of a list of which it holds
record OneWhere (f : RecordNow → Bool) (rs : List RecordNow) : Type 0 where
  one : RecordNow
  there : IsOneOf one rs
  so : f one ≡ true

one_where : (f : RecordNow → Bool) (rs : List RecordNow) → list_any f rs ≡ true → OneWhere f rs
one_where f [] h = absurd (false_isnt_true h)
one_where f (r ∷ rs) h = at (f r) refl h (one_where f rs)
  where
    at : (b : Bool) → f r ≡ b → b || list_any f rs ≡ true → (list_any f rs ≡ true → OneWhere f rs) → OneWhere f (r ∷ rs)
    at true is h rest = record { one = r; there = inl refl; so = is }
    at false is h rest = let found = rest h in record { one = found.one; there = inr found.there; so = found.so }

-- it was judged by one of the records
pub record IsJudgedBy (records : List RecordNow) (k : SocketId) (judged : List JudgedItem) : Type 0 where
  pub side : RecordNow
  pub there : IsOneOf side records
  pub asked : is_among k (judged_sockets side.journal) ≡ true
  pub all : judged ≡ judged_on k (judgements_in side.journal)

-- nothing was judged, or one of the records has judged all
pub judged_by_one : (made : List SocketId) (records : List RecordNow) (c : Caller) → IsCaller made records c → (c.judged ≡ []) ⊎ IsJudgedBy records c.socket c.judged
judged_by_one made records c is = at (list_any (λ r. is_asker c.asker (peer_of r)) records) refl
  where
    of_one : OneWhere (λ r. is_asker c.asker (peer_of r)) records → (c.judged ≡ []) ⊎ IsJudgedBy records c.socket c.judged
    of_one found = by (is_among c.socket (judged_sockets found.one.journal)) refl
      where
        all : c.judged ≡ judged_on c.socket (judgements_in found.one.journal)
        all = sym (ap (λ b. if b then c.judged else []) found.so) ∙ (of_each (IsTold c) found.one records is.told found.there).judged

        by : (b : Bool) → is_among c.socket (judged_sockets found.one.journal) ≡ b → (c.judged ≡ []) ⊎ IsJudgedBy records c.socket c.judged
        by true asked = inr (record { side = found.one; there = found.there; asked = asked; all = all })
        by false asked = inl (all ∙ not_judged_on c.socket (judgements_in found.one.journal) asked)

    at : (b : Bool) → list_any (λ r. is_asker c.asker (peer_of r)) records ≡ b → (c.judged ≡ []) ⊎ IsJudgedBy records c.socket c.judged
    at true any = of_one (one_where (λ r. is_asker c.asker (peer_of r)) records any)
    at false none = inl (is.unheard none)
