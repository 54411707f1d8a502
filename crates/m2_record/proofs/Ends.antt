-- What a list of ends tells of a socket, where the list changes.
use Rattle.std.proofs.Common.{◌≡◌, Bool, true, false, List, [], ◌∷◌, ◌++◌, Option, Some, None, refl, sym, subst, ◌∙◌, ap}
use Rattle.std.specs.Prelude.{if◌then◌else◌}
use Rattle.m2_fabric.specs.declared.socket.SocketId.{SocketId}
use Rattle.m2_fabric.specs.End.{SeenEnd, after_closing}
use Rattle.m2_fabric.specs.Sockets.{IsNewTo, is_among, same_socket}
use Rattle.m2_journal.specs.declared.entry.Entry.{Entry}
use Rattle.m2_record.specs.IsRecord.{closed_in}
use Rattle.m2_record.specs.RecordNow.{ids_of}
use Rattle.m2_record.specs.Sources.{broken_of, end_at, got_of, put_of, runs_of}
use Rattle.m2_bytes.proofs.m2_lemmas.Booleans.{neither_of_or, false_isnt_true}
use Rattle.m2_fabric.proofs.Sockets.{same_equal, same_refl}

-- ---- among

-- the first of a list is that of its socket
pub end-first : (e : SeenEnd) (es : List SeenEnd) → end_at (e ∷ es) e.id ≡ Some e
end-first e es = ap (λ b. if b then Some e else end_at es e.id) (same_refl e.id)

-- a socket that is new to a list of ends has none there
pub end-new : (ends : List SeenEnd) (k : SocketId) → IsNewTo (ids_of ends) k → end_at ends k ≡ None
end-new [] k h = refl
end-new (e ∷ es) k h = let two = neither_of_or (same_socket k e.id) (is_among k (ids_of es)) h in rw two.0 (end-new es k two.1)

-- an end more is that of its socket, where it is the first
pub end-last : (ends : List SeenEnd) (f : SeenEnd) (k : SocketId) → IsNewTo (ids_of ends) k → end_at (ends ++ f ∷ []) k ≡ end_at (f ∷ []) k
end-last [] f k h = refl
end-last (e ∷ es) f k h = let two = neither_of_or (same_socket k e.id) (is_among k (ids_of es)) h in rw two.0 (end-last es f k two.1)

pub end-other : (ends : List SeenEnd) (f : SeenEnd) (k : SocketId) → same_socket k f.id ≡ false → end_at (ends ++ f ∷ []) k ≡ end_at ends k
end-other [] f k h = rw h refl
end-other (e ∷ es) f k h = at (same_socket k e.id) (end-other es f k h)
  where
    at : (b : Bool) → end_at (es ++ f ∷ []) k ≡ end_at es k → (if b then Some e else end_at (es ++ f ∷ []) k) ≡ (if b then Some e else end_at es k)
    at true rest = refl
    at false rest = rest

-- ---- ends that tell the same

pub record TellTheSame (old new : Option SeenEnd) : Type 0 where
  pub got : got_of new ≡ got_of old
  pub put : put_of new ≡ put_of old
  pub runs : runs_of new ≡ runs_of old
  pub broken : broken_of new ≡ broken_of old

pub tells-itself : (o : Option SeenEnd) → TellTheSame o o
tells-itself o = record { got = refl; put = refl; runs = refl; broken = refl }

-- the first end is closed, and is the last
pub moved-last : (e : SeenEnd) (spent : List SeenEnd) (k : SocketId) → IsNewTo (ids_of spent) e.id →
    TellTheSame (end_at (e ∷ spent) k) (end_at (spent ++ after_closing e ∷ []) k)
moved-last e spent k h = at (same_socket k e.id) refl
  where
    at : (b : Bool) → same_socket k e.id ≡ b → TellTheSame (end_at (e ∷ spent) k) (end_at (spent ++ after_closing e ∷ []) k)
    at true g = rw (g, end-last spent (after_closing e) k (subst (IsNewTo (ids_of spent)) (sym (same_equal k e.id g)) h), g)
        (record { got = refl; put = refl; runs = refl; broken = refl })
    at false g = rw (g, end-other spent (after_closing e) k g) (tells-itself (end_at spent k))

-- ---- what stays, beside a journal

-- the logs are the same, and so are the flags where an entry has closed a socket
pub record EndsStay (journal : List Entry) (old new : List SeenEnd) : Type 0 where
  pub got : (k : SocketId) → got_of (end_at new k) ≡ got_of (end_at old k)
  pub put : (k : SocketId) → put_of (end_at new k) ≡ put_of (end_at old k)
  pub runs : (k : SocketId) → runs_of (end_at new k) ≡ runs_of (end_at old k)
  pub broken : (k : SocketId) → is_among k (closed_in journal) ≡ true → broken_of (end_at new k) ≡ broken_of (end_at old k)

pub ends-same : (journal : List Entry) (ends : List SeenEnd) → EndsStay journal ends ends
ends-same journal ends = record { got = λ k. refl; put = λ k. refl; runs = λ k. refl; broken = λ k h. refl }

pub ends-moved : (journal : List Entry) (e : SeenEnd) (spent : List SeenEnd) → IsNewTo (ids_of spent) e.id →
    EndsStay journal (e ∷ spent) (spent ++ after_closing e ∷ [])
ends-moved journal e spent h = record {
  got = λ k. (moved-last e spent k h).got;
  put = λ k. (moved-last e spent k h).put;
  runs = λ k. (moved-last e spent k h).runs;
  broken = λ k c. (moved-last e spent k h).broken;
}

-- an end on which nothing was done
pub record HasDoneNothing (e : SeenEnd) : Type 0 where
  pub got : e.log.got ≡ []
  pub put : e.log.put ≡ []
  pub runs : e.log.runs ≡ []

-- it comes to ends that don't have its socket, which no entry has closed
pub ends-fresh : (journal : List Entry) (e : SeenEnd) (spent : List SeenEnd) → HasDoneNothing e → IsNewTo (ids_of spent) e.id → IsNewTo (closed_in journal) e.id →
    EndsStay journal spent (e ∷ spent)
ends-fresh journal e spent h new unclosed = record {
  got = λ k. got-at k (same_socket k e.id) refl;
  put = λ k. put-at k (same_socket k e.id) refl;
  runs = λ k. runs-at k (same_socket k e.id) refl;
  broken = λ k c. broken-at k c (same_socket k e.id) refl;
}
  where
    none : (k : SocketId) → same_socket k e.id ≡ true → end_at spent k ≡ None
    none k g = end-new spent k (subst (IsNewTo (ids_of spent)) (sym (same_equal k e.id g)) new)

    got-at : (k : SocketId) (b : Bool) → same_socket k e.id ≡ b → got_of (end_at (e ∷ spent) k) ≡ got_of (end_at spent k)
    got-at k true g = rw (g, none k g) h.got
    got-at k false g = rw g refl

    put-at : (k : SocketId) (b : Bool) → same_socket k e.id ≡ b → put_of (end_at (e ∷ spent) k) ≡ put_of (end_at spent k)
    put-at k true g = rw (g, none k g) h.put
    put-at k false g = rw g refl

    runs-at : (k : SocketId) (b : Bool) → same_socket k e.id ≡ b → runs_of (end_at (e ∷ spent) k) ≡ runs_of (end_at spent k)
    runs-at k true g = rw (g, none k g) h.runs
    runs-at k false g = rw g refl

    broken-at : (k : SocketId) → is_among k (closed_in journal) ≡ true → (b : Bool) → same_socket k e.id ≡ b → broken_of (end_at (e ∷ spent) k) ≡ broken_of (end_at spent k)
    broken-at k c true g = absurd (false_isnt_true (sym (subst (IsNewTo (closed_in journal)) (sym (same_equal k e.id g)) unclosed) ∙ c))
    broken-at k c false g = rw g refl
