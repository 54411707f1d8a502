-- One entry more: what the journal speaks of goes on as it was, and the journal covers it.
use Rattle.std.proofs.Common.{◌≡◌, ℕ, ◌+◌, ◌≤◌, Bool, true, false, List, [], ◌∷◌, ◌++◌, length, Option, Some, None, refl, sym, ap, subst, ◌∙◌, arith, length-append}
use Rattle.std.proofs.lemmas.List.{append-nil}
use Rattle.std.proofs.lemmas.List.Elements.{filter_map-append}
use Rattle.m2_fabric.specs.declared.log.Run.{Run}
use Rattle.m2_fabric.specs.declared.log.Run.TheVariants as run
use Rattle.m2_fabric.specs.declared.socket.SocketId.{SocketId}
use Rattle.m2_fabric.specs.Sockets.{same_socket}
use Rattle.m2_journal.specs.declared.entry.Entry.{Entry}
use Rattle.m2_journal.specs.declared.entry.Entry.TheVariants as entry
use Rattle.m2_journal.specs.Growth.{IsExtended, AreThere, Continues}
use Rattle.m2_journal.specs.Items.{Sources, Places, Counts, raised, AreCovering, passed, passed_by, at_start, reach_of, run_of, runs_on}
use Rattle.m2_record.specs.Entered.{KeepLogs, HaveRead, HavePut, AreSettled, MovesNothing, StepIsThere}
use Rattle.m2_fabric.proofs.Sockets.{same_refl, same_equal, apart_turned}

-- ---- one entry at the end of a journal

passed_by-append : (es fs : List Entry) (p : Places) → passed_by (es ++ fs) p ≡ passed_by fs (passed_by es p)
passed_by-append [] fs p = refl
passed_by-append (e ∷ es) fs p = passed_by-append es fs (passed e p)

pub reach-more : (journal : List Entry) (e : Entry) → reach_of (journal ++ e ∷ []) ≡ passed e (reach_of journal)
reach-more journal e = passed_by-append journal (e ∷ []) at_start

one_run : (o : Option Run) (k : SocketId) (e : Entry) → run_of k e ≡ o → runs_on k (e ∷ []) ≡ (elim o as (λ _. List Run) [ None ↦ [] | Some x ↦ x ∷ [] ])
one_run (Some x) k e h = rw h refl
one_run None k e h = rw h refl

runs-more : (k : SocketId) (journal : List Entry) (e : Entry) (o : Option Run) → run_of k e ≡ o →
    runs_on k (journal ++ e ∷ []) ≡ runs_on k journal ++ (elim o as (λ _. List Run) [ None ↦ [] | Some x ↦ x ∷ [] ])
runs-more k journal e o h = filter_map-append (run_of k) journal (e ∷ []) ∙ ap (λ l. runs_on k journal ++ l) (one_run o k e h)

-- ---- an entry that moves nothing

run-none : (k : SocketId) (e : Entry) → MovesNothing e → run_of k e ≡ None
run-none k (entry.Read socket count) h = absurd h
run-none k (entry.Wrote socket count) h = absurd h
run-none k _ h = refl

read-stays : (e : Entry) (p : Places) → MovesNothing e → (passed e p).read ≡ p.read
read-stays (entry.Post place) p h = refl
read-stays entry.Dial p h = refl
read-stays (entry.Down true) p h = refl
read-stays (entry.Down false) p h = refl
read-stays (entry.Read socket count) p h = absurd h
read-stays (entry.Wrote socket count) p h = absurd h
read-stays _ p h = refl

written-stays : (e : Entry) (p : Places) → MovesNothing e → (passed e p).written ≡ p.written
written-stays (entry.Post place) p h = refl
written-stays entry.Dial p h = refl
written-stays (entry.Down true) p h = refl
written-stays (entry.Down false) p h = refl
written-stays (entry.Read socket count) p h = absurd h
written-stays (entry.Wrote socket count) p h = absurd h
written-stays _ p h = refl

steps-fit : (s : Sources) (journal : List Entry) (e : Entry) → (reach_of journal).steps ≤ length s.plan → StepIsThere s journal e → (passed e (reach_of journal)).steps ≤ length s.plan
steps-fit s journal (entry.Post place) h t = omega (arith, t)
steps-fit s journal entry.Dial h t = omega (arith, t)
steps-fit s journal (entry.Down true) h t = omega (arith, t)
steps-fit s journal (entry.Down false) h t = h
steps-fit s journal (entry.Read socket count) h t = h
steps-fit s journal (entry.Wrote socket count) h t = h
steps-fit s journal _ h t = h

longer : {X : Type 0} (n : ℕ) (old new : List X) → IsExtended old new → n ≤ length old → n ≤ length new
longer n old new g h = let e = ap length g.1 in let l = length-append old g.0 in omega (arith, e, l, h)

-- ---- what goes on

pub there : (s : Sources) (journal : List Entry) → AreCovering s journal → AreThere s (reach_of journal)
there s journal c = record {
  steps = c.steps;
  read = λ k. (let e = c.read k in omega (arith, e));
  written = λ k. (let e = c.written k in omega (arith, e));
}

same-extended : {X : Type 0} (old new : List X) → new ≡ old → IsExtended old new
same-extended old new e = ([], e ∙ sym (append-nil old))

pub kept-continues : (old new : Sources) (journal : List Entry) → AreCovering old journal → KeepLogs old new → AreSettled old new journal → Continues old new journal
kept-continues old new journal c g settled = record {
  grow = record { plan = g.plan; got = λ k. same-extended (old.got k) (new.got k) (g.got k); put = λ k. same-extended (old.put k) (new.put k) (g.put k) };
  there = there old journal c;
  settled = settled;
}

-- a plan, and flags, that go on
pub kept-covers : (old new : Sources) (journal : List Entry) → AreCovering old journal → KeepLogs old new → AreCovering new journal
kept-covers old new journal c g = record {
  steps = longer (reach_of journal).steps old.plan new.plan g.plan c.steps;
  read = λ k. c.read k ∙ sym (ap length (g.got k));
  written = λ k. c.written k ∙ sym (ap length (g.put k));
  runs = λ k. g.runs k ∙ c.runs k;
}

pub still-covers : (old new : Sources) (journal : List Entry) (e : Entry) → AreCovering old journal → KeepLogs old new → MovesNothing e → StepIsThere new journal e →
    AreCovering new (journal ++ e ∷ [])
still-covers old new journal e c g still step =
    let kept = kept-covers old new journal c g in
    record {
      steps = rw (reach-more journal e) (steps-fit new journal e kept.steps step);
      read = λ k. rw (reach-more journal e, read-stays e (reach_of journal) still) (kept.read k);
      written = λ k. rw (reach-more journal e, written-stays e (reach_of journal) still) (kept.written k);
      runs = λ k. kept.runs k ∙ sym (runs-more k journal e None (run-none k e still) ∙ append-nil (runs_on k journal));
    }

-- ---- bytes that were read

-- the count of a socket is raised, and of no other
raised-there : (socket k : SocketId) (n : ℕ) (c : Counts) → same_socket socket k ≡ true → raised socket n c k ≡ c k + n
raised-there socket k n c h = rw h refl

raised-not : (socket k : SocketId) (n : ℕ) (c : Counts) → same_socket socket k ≡ false → raised socket n c k ≡ c k
raised-not socket k n c h = rw h refl

module _ (old new : Sources) (journal : List Entry) (socket : SocketId) (bytes : List ℕ) (c : AreCovering old journal) where
  e-read : Entry
  e-read = entry.Read socket (length bytes)

  e-put : Entry
  e-put = entry.Wrote socket (length bytes)

  pub read-continues : HaveRead socket bytes old new → AreSettled old new journal → Continues old new journal
  read-continues g settled = record {
    grow = record {
      plan = g.plan;
      got = λ k. grown k (same_socket k socket) refl;
      put = λ k. same-extended (old.put k) (new.put k) (g.put k);
    };
    there = there old journal c;
    settled = settled;
  }
    where
      grown : (k : SocketId) (b : Bool) → same_socket k socket ≡ b → IsExtended (old.got k) (new.got k)
      grown k true h = subst (λ j. IsExtended (old.got j) (new.got j)) (sym (same_equal k socket h)) (bytes, g.got)
      grown k false h = same-extended (old.got k) (new.got k) (g.other_got k h)

  pub read-covers : HaveRead socket bytes old new → AreCovering new (journal ++ entry.Read socket (length bytes) ∷ [])
  read-covers g = record {
    steps = rw (reach-more journal (entry.Read socket (length bytes))) (longer (reach_of journal).steps old.plan new.plan g.plan c.steps);
    read = λ k. rw (reach-more journal (entry.Read socket (length bytes))) (counted k (same_socket socket k) refl);
    written = λ k. rw (reach-more journal (entry.Read socket (length bytes))) (c.written k ∙ sym (ap length (g.put k)));
    runs = λ k. listed k (same_socket k socket) refl;
  }
    where
      counted : (k : SocketId) (b : Bool) → same_socket socket k ≡ b → raised socket (length bytes) (reach_of journal).read k ≡ length (new.got k)
      counted k true h = subst (λ j. raised socket (length bytes) (reach_of journal).read j ≡ length (new.got j)) (same_equal socket k h)
          (raised-there socket socket (length bytes) (reach_of journal).read (same_refl socket) ∙ ap (λ n. n + length bytes) (c.read socket) ∙ sym (length-append (old.got socket) bytes) ∙ sym (ap length g.got))
      counted k false h = raised-not socket k (length bytes) (reach_of journal).read h ∙ c.read k ∙ sym (ap length (g.other_got k (apart_turned socket k h)))

      listed : (k : SocketId) (b : Bool) → same_socket k socket ≡ b → new.runs k ≡ runs_on k (journal ++ entry.Read socket (length bytes) ∷ [])
      listed k true h = subst (λ j. new.runs j ≡ runs_on j (journal ++ entry.Read socket (length bytes) ∷ [])) (sym (same_equal k socket h))
          (g.runs ∙ ap (λ l. l ++ run.Read (length bytes) ∷ []) (c.runs socket)
          ∙ sym (runs-more socket journal (entry.Read socket (length bytes)) (Some (run.Read (length bytes))) (rw (same_refl socket) refl)))
      listed k false h = g.other_runs k h ∙ c.runs k
          ∙ sym (runs-more k journal (entry.Read socket (length bytes)) None (rw h refl) ∙ append-nil (runs_on k journal))

  pub put-continues : HavePut socket bytes old new → AreSettled old new journal → Continues old new journal
  put-continues g settled = record {
    grow = record {
      plan = g.plan;
      got = λ k. same-extended (old.got k) (new.got k) (g.got k);
      put = λ k. grown k (same_socket k socket) refl;
    };
    there = there old journal c;
    settled = settled;
  }
    where
      grown : (k : SocketId) (b : Bool) → same_socket k socket ≡ b → IsExtended (old.put k) (new.put k)
      grown k true h = subst (λ j. IsExtended (old.put j) (new.put j)) (sym (same_equal k socket h)) (bytes, g.put)
      grown k false h = same-extended (old.put k) (new.put k) (g.other_put k h)

  pub put-covers : HavePut socket bytes old new → AreCovering new (journal ++ entry.Wrote socket (length bytes) ∷ [])
  put-covers g = record {
    steps = rw (reach-more journal (entry.Wrote socket (length bytes))) (longer (reach_of journal).steps old.plan new.plan g.plan c.steps);
    read = λ k. rw (reach-more journal (entry.Wrote socket (length bytes))) (c.read k ∙ sym (ap length (g.got k)));
    written = λ k. rw (reach-more journal (entry.Wrote socket (length bytes))) (counted k (same_socket socket k) refl);
    runs = λ k. listed k (same_socket k socket) refl;
  }
    where
      counted : (k : SocketId) (b : Bool) → same_socket socket k ≡ b → raised socket (length bytes) (reach_of journal).written k ≡ length (new.put k)
      counted k true h = subst (λ j. raised socket (length bytes) (reach_of journal).written j ≡ length (new.put j)) (same_equal socket k h)
          (raised-there socket socket (length bytes) (reach_of journal).written (same_refl socket) ∙ ap (λ n. n + length bytes) (c.written socket) ∙ sym (length-append (old.put socket) bytes) ∙ sym (ap length g.put))
      counted k false h = raised-not socket k (length bytes) (reach_of journal).written h ∙ c.written k ∙ sym (ap length (g.other_put k (apart_turned socket k h)))

      listed : (k : SocketId) (b : Bool) → same_socket k socket ≡ b → new.runs k ≡ runs_on k (journal ++ entry.Wrote socket (length bytes) ∷ [])
      listed k true h = subst (λ j. new.runs j ≡ runs_on j (journal ++ entry.Wrote socket (length bytes) ∷ [])) (sym (same_equal k socket h))
          (g.runs ∙ ap (λ l. l ++ run.Wrote (length bytes) ∷ []) (c.runs socket)
          ∙ sym (runs-more socket journal (entry.Wrote socket (length bytes)) (Some (run.Wrote (length bytes))) (rw (same_refl socket) refl)))
      listed k false h = g.other_runs k h ∙ c.runs k
          ∙ sym (runs-more k journal (entry.Wrote socket (length bytes)) None (rw h refl) ∙ append-nil (runs_on k journal))
