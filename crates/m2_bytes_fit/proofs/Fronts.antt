-- What is split of the front of frames' texts are the first of these frames, also where a text begins behind them that is
-- not whole.
use Rattle.std.proofs.Common.{◌≡◌, ◌≢◌, ℕ, suc, ◌+◌, ◌≤◌, ◌⊎◌, inl, inr, List, [], ◌∷◌, ◌++◌, length, take, drop, map, refl, sym, ap, ◌∙◌, subst, arith, append_assoc, length-append}
use Rattle.std.specs.List.{AllByRecursion, flat_map}
use Rattle.std.proofs.lemmas.List.{append-nil, take-append-le, take_all}
use Rattle.std.proofs.Math.Seq.{drop-append_seam}
use Rattle.m2_feed.specs.m2_frame.Frame.{Parts}
use Rattle.m2_feed.specs.m2_frame.Reading.{whole, start, text, judge}
use Rattle.m2_feed.specs.m2_frame.Stream.{IsOpen}
use Rattle.m2_feed.specs.m2_frame.Text as frame
use Rattle.m2_feed.proofs.m2_frame.Cutting.{start_isnt_text, text-begun}
use Rattle.m2_feed.proofs.m2_frame.Spelled.{item_text-judged}
use Rattle.m2_feed.proofs.m2_frame.Written.{text_of-written}
use Rattle.m2_feed.specs.m2_journal.Laws.{IsWritable}
use Rattle.m2_feed.specs.m2_journal.Said.{split}
use Rattle.m2_feed.proofs.m2_journal.Splitting.{split-next, split-open}
use Rattle.m2_bytes_fit.proofs.Lists.{compare, EndsBefore, EndsBehind}

pub is_judged : (p : Parts) → IsWritable p → (more : List ℕ) → judge (frame.text_of p ++ more) ≡ text (whole p) (length (frame.text_of p))
is_judged p w more = item_text-judged (whole p) (frame.text_of p) more (text_of-written p w.fits w.bytes)

some_longer : {X : Type 0} (xs : List X) → xs ≢ [] → 1 ≤ length xs
some_longer [] n = absurd (n refl)
some_longer (x ∷ xs) n = omega arith

-- the front of one text has no whole text
pub begun_is_open : (p : Parts) → IsWritable p → (bytes more : List ℕ) → more ≢ [] → bytes ++ more ≡ frame.text_of p → IsOpen bytes
begun_is_open p w bytes more some e i n q =
    let t : List ℕ = frame.text_of p in
    let all : judge t ≡ text (whole p) (length t) = subst (λ l. judge l ≡ text (whole p) (length t)) (append-nil t) (is_judged p w []) in
    let long = some_longer more some in
    let sizes : length bytes + length more ≡ length t = sym (length-append bytes more) ∙ ap length e in
    let front : take (length bytes) t ≡ bytes =
    ap (take (length bytes)) (sym e) ∙ take-append-le (length bytes) bytes more (omega arith) ∙ take_all (length bytes) bytes (omega arith) in
    start_isnt_text i n (sym (subst (λ l. judge l ≡ start) front (text-begun t (whole p) (length bytes) all (omega (arith, long, sizes)))) ∙ q)

pub nothing_split : (bytes : List ℕ) → IsOpen bytes → (split bytes).items ≡ []
nothing_split bytes o = ap (λ c. c.items) (split-open bytes o)

-- of the front of these texts and of what follows them, the texts are those of the first frames, if no front of what follows
-- has a text
pub record AreFirst (fs : List Parts) (bytes : List ℕ) : Type 0 where
  pub count : ℕ
  pub items : (split bytes).items ≡ map whole (take count fs)

pub front_items : (fs : List Parts) (last bytes more : List ℕ) → AllByRecursion IsWritable fs →
    ((b : List ℕ) → b ++ more ≡ last → (split b).items ≡ []) → bytes ++ more ≡ flat_map frame.text_of fs ++ last → AreFirst fs bytes
front_items [] last bytes more w none e = record { count = 0; items = none bytes e }
front_items (p ∷ fs) last bytes more w none e =
    by_place (compare bytes more t (rest ++ last) (e ∙ append_assoc t rest last)) (λ b q. front_items fs last b more w.1 none q)
  where
    t : List ℕ
    t = frame.text_of p

    rest : List ℕ
    rest = flat_map frame.text_of fs

    by_place : EndsBefore bytes more t (rest ++ last) ⊎ EndsBehind bytes more t (rest ++ last) →
        ((b : List ℕ) → b ++ more ≡ rest ++ last → AreFirst fs b) → AreFirst (p ∷ fs) bytes
    by_place (inl h) again =
        record { count = 0; items = nothing_split bytes (begun_is_open p w.0 bytes h.more h.some (sym h.longer)) }
    by_place (inr h) again =
        let first = again h.more h.behind in
        let next = split-next (t ++ h.more) (whole p) (length t) (is_judged p w.0 h.more) in
        let left : drop (length t) (t ++ h.more) ≡ h.more = drop-append_seam t h.more in
        record {
          count = suc first.count;
          items =
              ap (λ l. (split l).items) h.longer ∙ ap (λ c. c.items) next ∙ ap (λ l. whole p ∷ (split l).items) left
              ∙ ap (λ l. whole p ∷ l) first.items;
        }
