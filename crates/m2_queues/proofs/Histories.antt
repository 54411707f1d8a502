-- What every history keeps, call by call.
use Rattle.std.proofs.Common.{◌≡◌, ℕ, zero, suc, ◌+◌, ◌-◌, ◌<◌, ◌≤◌, Bool, true, false, List, [], ◌∷◌, ◌++◌, length, take, drop, slice_get, ltb, leb, eqb, refl, sym, ap, ◌∙◌, arith, append_assoc, length-append, length-drop}
use Rattle.std.proofs.lemmas.List.{append-nil, take-append-drop, drop-append-le, drop-drop}
use Rattle.std.proofs.lemmas.List.Elements.{filter-append}
use Rattle.std.proofs.lemmas.Bool.Decides.{nat_tests}
use Rattle.m2_message.specs.Message.{Content, priority_of}
use Rattle.m2_queues.proofs.ByRank.{Falls}
use Rattle.m2_queues.proofs.Joining.{falls-put_behind, rank-put_behind}
use Rattle.m2_queues.specs.OutQueues.{message_at, newly_numbered}
use Rattle.m2_queues.specs.QueueLaws.{Call, Post, Next, Sent, Acked, Requeue, Renumber, Discard, History, start_of, after_call, after_calls, history_of, of_priority, SetsBack}

pub falls-rest : (ms : List Content) → Falls priority_of ms → Falls priority_of (drop 1 ms)
falls-rest [] h = tt
falls-rest (m ∷ ms) h = h.1

-- what holds after every list of calls
pub record Holds (h : History) : Type 0 where
  pub kept : h.queue.kept ≡ drop h.queue.base h.numbered
  pub within : h.queue.base ≤ length h.numbered
  pub given : h.queue.written ≤ length h.numbered
  pub falls : Falls priority_of h.queue.waiting
  pub each : (p : ℕ) → of_priority p h.dropped ++ of_priority p h.numbered ++ of_priority p h.queue.waiting ≡ of_priority p h.posted

pub holds_at_start : (keeps : Bool) → Holds (start_of keeps)
holds_at_start keeps = record { kept = refl; within = omega arith; given = omega arith; falls = tt; each = λ p. refl }

after_a_post : (h : History) (m : Content) → Holds h → Holds (after_call h (Post m))
after_a_post h m k = record {
  kept = k.kept;
  within = k.within;
  given = k.given;
  falls = falls-put_behind priority_of h.queue.waiting m k.falls;
  each = λ p. rw (rank-put_behind priority_of p h.queue.waiting m k.falls, filter-append) (
      sym (append_assoc (of_priority p h.dropped ++ of_priority p h.numbered) (of_priority p h.queue.waiting) (of_priority p (m ∷ []))) ∙ ap (λ l. l ++ of_priority p (m ∷ [])) (k.each p));
}

-- a list in two parts has of each priority what its parts have
parts : (p n : ℕ) (ms : List Content) → of_priority p (take n ms) ++ of_priority p (drop n ms) ≡ of_priority p ms
parts p n ms = sym (filter-append (λ m. eqb (priority_of m) p) (take n ms) (drop n ms)) ∙ ap (of_priority p) (take-append-drop n ms)

after_a_next : (h : History) → Holds h → Holds (after_call h Next)
after_a_next h k = go (ltb h.queue.cursor (length h.queue.kept)) refl
  where
    go : (b : Bool) → ltb h.queue.cursor (length h.queue.kept) ≡ b → Holds (after_call h Next)
    go true e = rw (e, append-nil) k
    go false e = rw e (record {
      kept = ap (λ l. l ++ take 1 h.queue.waiting) k.kept ∙ sym (drop-append-le h.queue.base h.numbered (take 1 h.queue.waiting) k.within);
      within = rw length-append (omega (arith, k.within));
      given = rw length-append (omega (arith, k.given));
      falls = falls-rest h.queue.waiting k.falls;
      each = λ p.
          let D = of_priority p h.dropped in
          let N = of_priority p h.numbered in
          let T = of_priority p (take 1 h.queue.waiting) in
          let R = of_priority p (drop 1 h.queue.waiting) in
          ap (λ l. D ++ l ++ R) (filter-append (λ m. eqb (priority_of m) p) h.numbered (take 1 h.queue.waiting))
          ∙ ap (λ l. l ++ R) (sym (append_assoc D N T)) ∙ append_assoc (D ++ N) T R ∙ ap (λ l. D ++ N ++ l) (parts p 1 h.queue.waiting) ∙ k.each p;
    })

after_a_sent : (h : History) → Holds h → Holds (after_call h Sent)
after_a_sent h k = go (ltb h.queue.cursor (length h.queue.kept)) h.queue.keeps refl refl
  where
    go : (b c : Bool) → ltb h.queue.cursor (length h.queue.kept) ≡ b → h.queue.keeps ≡ c → Holds (after_call h Sent)
    go false c e f = rw e k
    go true true e f =
        let there : h.queue.cursor < length h.queue.kept = grind (arith, nat_tests) in
        rw (e, f) (record { kept = k.kept; within = k.within; given = omega (arith, k.given, k.within, ap length k.kept, length-drop h.queue.base h.numbered); falls = k.falls; each = k.each })
    go true false e f =
        let there : h.queue.cursor < length h.queue.kept = grind (arith, nat_tests) in
        rw (e, f) (record {
          kept = ap (drop 1) k.kept ∙ drop-drop 1 h.queue.base h.numbered;
          within = omega (arith, k.within, ap length k.kept, length-drop h.queue.base h.numbered);
          given = omega (arith, k.given, k.within, ap length k.kept, length-drop h.queue.base h.numbered);
          falls = k.falls;
          each = k.each;
        })

after_an_acked : (h : History) (n : ℕ) → Holds h → Holds (after_call h (Acked n))
after_an_acked h n k = go (leb n h.queue.written) refl
  where
    go : (b : Bool) → leb n h.queue.written ≡ b → Holds (after_call h (Acked n))
    go false e = rw e k
    go true e =
        let sent : n ≤ h.queue.written = grind (arith, nat_tests) in
        rw e (record {
          kept = ap (drop (n - h.queue.base)) k.kept ∙ drop-drop (n - h.queue.base) h.queue.base h.numbered ∙ ap (λ (i : ℕ). drop i h.numbered) (omega arith);
          within = omega (arith, k.within, k.given);
          given = k.given;
          falls = k.falls;
          each = k.each;
        })

after_a_renumber : (h : History) → Holds h → Holds (after_call h Renumber)
after_a_renumber h k = record {
  kept = k.kept;
  within = omega arith;
  given = omega arith;
  falls = k.falls;
  each = λ p.
      let D = of_priority p h.dropped in
      let T = of_priority p (take h.queue.base h.numbered) in
      let R = of_priority p (drop h.queue.base h.numbered) in
      let W = of_priority p h.queue.waiting in
      ap (λ l. l ++ R ++ W) (filter-append (λ m. eqb (priority_of m) p) h.dropped (take h.queue.base h.numbered))
      ∙ ap (λ l. l ++ W) (append_assoc D T R ∙ ap (λ l. D ++ l) (parts p h.queue.base h.numbered)) ∙ k.each p;
}

holds_after : (h : History) (c : Call) → Holds h → Holds (after_call h c)
holds_after h (Post m) k = after_a_post h m k
holds_after h Next k = after_a_next h k
holds_after h Sent k = after_a_sent h k
holds_after h (Acked n) k = after_an_acked h n k
holds_after h Requeue k = record { kept = k.kept; within = k.within; given = k.given; falls = k.falls; each = k.each }
holds_after h Renumber k = after_a_renumber h k
holds_after h Discard k = record { kept = refl; within = omega arith; given = omega arith; falls = tt; each = λ p. refl }

all_after : (h : History) (calls : List Call) → Holds h → Holds (after_calls h calls)
all_after h [] k = k
all_after h (c ∷ cs) k = all_after (after_call h c) cs (holds_after h c k)

pub holds : (keeps : Bool) (calls : List Call) → Holds (history_of keeps calls)
holds keeps calls = all_after (start_of keeps) calls (holds_at_start keeps)

pub numbered_stay : (h : History) (c : Call) → ¬ SetsBack c → (more : List Content) × ((after_call h c).numbered ≡ h.numbered ++ more)
numbered_stay h (Post m) k = ([], sym (append-nil _))
numbered_stay h Next k = (newly_numbered h.queue, refl)
numbered_stay h Sent k = ([], sym (append-nil _))
numbered_stay h (Acked n) k = ([], sym (append-nil _))
numbered_stay h Requeue k = ([], sym (append-nil _))
numbered_stay h Renumber k = absurd (k tt)
numbered_stay h Discard k = absurd (k tt)

slice_get-drop : (b i : ℕ) (ms : List Content) → slice_get (drop b ms) i ≡ slice_get ms (b + i)
slice_get-drop zero i ms = ap (λ (k : ℕ). slice_get ms k) (omega arith)
slice_get-drop (suc b) i [] = refl
slice_get-drop (suc b) i (m ∷ ms) = slice_get-drop b i ms ∙ sym (ap (λ (k : ℕ). slice_get (m ∷ ms) k) (let e : suc b + i ≡ suc (b + i) = omega arith in e))

pub numbers_are_places : (h : History) (number : ℕ) → Holds h → h.queue.base < number → message_at h.queue number ≡ slice_get h.numbered (number - 1)
numbers_are_places h number k past =
    let test : ltb h.queue.base number ≡ true = grind (arith, nat_tests) in
    rw (test, k.kept) (slice_get-drop h.queue.base (number - h.queue.base - 1) h.numbered ∙ ap (λ (i : ℕ). slice_get h.numbered i) (omega arith))

pub calls-append : (h : History) (cs ds : List Call) → after_calls h (cs ++ ds) ≡ after_calls (after_calls h cs) ds
calls-append h [] ds = refl
calls-append h (c ∷ cs) ds = calls-append (after_call h c) cs ds
