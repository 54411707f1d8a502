-- A stream has one reading, and it stays as more comes.
use Rattle.std.proofs.Common.{◌≡◌, ℕ, ◌+◌, ◌<◌, ◌≤◌, Bool, true, false, cond, List, [], ◌∷◌, length, take, drop, ◌++◌, Result, Ok, Err, refl, sym, ap, ◌∙◌, subst, arith, length-drop, inl, inr}
use Rattle.std.proofs.lemmas.Bool.{cases_lt}
use Rattle.std.proofs.lemmas.List.{drop-append-le, take-append-drop, length-take-le}
use Rattle.m2_frame.specs.declared.epilogue.Late.{Late}
use Rattle.m2_frame.specs.declared.epilogue.Late.TheVariants.{Complete, Aborted}
use Rattle.m2_frame.specs.declared.fault.FrameFault.{FrameFault}
use Rattle.m2_frame.specs.declared.fault.FrameFault.TheVariants.{BadSegmentCrc}
use Rattle.m2_frame.specs.declared.preamble.Preamble.{Preamble}
use Rattle.m2_frame.specs.Preamble.{read_preamble}
use Rattle.m2_frame.specs.Reading.{Item, Front, start, bad, text, first_len, later_len, first_is_right, text_len, front_of, judge_rest, judge_later, judge_first, judge_body, judge}
use Rattle.m2_frame.specs.Stream.{Splits, IsOpen}
use Rattle.m2_frame.proofs.Judge.{judge-short, judge-whole, judge_first-short, judge_first-whole, after_first, judge_later-short, judge_later-whole, judge-settled}

front_within : (p : Preamble) (first later : List ℕ) (r : Result Late FrameFault) (i : Item) (n : ℕ) → front_of p first later r ≡ text i n → text_len p ≡ n
front_within p first later (Ok Complete) i n e = cc
front_within p first later (Ok Aborted) i n e = cc
front_within p first later (Err f) i n e = absurd cc

pub start_isnt_bad : (f : FrameFault) → start ≡ bad f → ⊥
start_isnt_bad f e = cc

pub start_isnt_text : (i : Item) (n : ℕ) → start ≡ text i n → ⊥
start_isnt_text i n e = cc

pub bad_isnt_text : (f : FrameFault) (i : Item) (n : ℕ) → bad f ≡ text i n → ⊥
bad_isnt_text f i n e = cc

later_within : (p : Preamble) (first after : List ℕ) (i : Item) (n : ℕ) → judge_later p first after ≡ text i n → n ≤ 32 + first_len p + length after
later_within p first after i n e =
    elim (cases_lt (length after) (later_len p)) [
      | inl lt ↦ absurd (start_isnt_text i n (sym (judge_later-short p first after lt) ∙ e))
      | inr le ↦
          let l = take (later_len p) after in
          let same : text_len p ≡ n = front_within p first l (judge_rest p l) i n (sym (judge_later-whole p first after le) ∙ e) in
          omega (arith, same, le)
    ]

cond_within : (b : Bool) (x y : Front) (i : Item) (n m : ℕ) → (x ≡ text i n → n ≤ m) → (y ≡ text i n → n ≤ m) → cond b x y ≡ text i n → n ≤ m
cond_within true x y i n m hx hy e = hx e
cond_within false x y i n m hx hy e = hy e

first_within : (p : Preamble) (body : List ℕ) (i : Item) (n : ℕ) → judge_first p body ≡ text i n → n ≤ 32 + length body
unfolding after_first
first_within p body i n e =
    elim (cases_lt (length body) (first_len p)) [
      | inl lt ↦ absurd (start_isnt_text i n (sym (judge_first-short p body lt) ∙ e))
      | inr le ↦
          let f = take (first_len p) body in
          let a = drop (first_len p) body in
          cond_within (first_is_right p f) (judge_later p f a) (bad (BadSegmentCrc 0)) i n (32 + length body)
          (λ h. omega (arith, later_within p f a i n h, length-drop (first_len p) body, le))
          (λ h. absurd (bad_isnt_text (BadSegmentCrc 0) i n h))
          (sym (judge_first-whole p body le) ∙ e)
    ]

body_within : (r : Result Preamble FrameFault) (body : List ℕ) (i : Item) (n : ℕ) → judge_body r body ≡ text i n → n ≤ 32 + length body
body_within (Ok p) body i n e = first_within p body i n e
body_within (Err f) body i n e = absurd (bad_isnt_text f i n e)

later_long : (p : Preamble) (first after : List ℕ) (i : Item) (n : ℕ) → judge_later p first after ≡ text i n → 32 ≤ n
later_long p first after i n e =
    elim (cases_lt (length after) (later_len p)) [
      | inl lt ↦ absurd (start_isnt_text i n (sym (judge_later-short p first after lt) ∙ e))
      | inr le ↦
          let l = take (later_len p) after in
          let same : text_len p ≡ n = front_within p first l (judge_rest p l) i n (sym (judge_later-whole p first after le) ∙ e) in
          omega (arith, same)
    ]

cond_long : (b : Bool) (x y : Front) (i : Item) (n : ℕ) → (x ≡ text i n → 32 ≤ n) → (y ≡ text i n → 32 ≤ n) → cond b x y ≡ text i n → 32 ≤ n
cond_long true x y i n hx hy e = hx e
cond_long false x y i n hx hy e = hy e

first_long : (p : Preamble) (body : List ℕ) (i : Item) (n : ℕ) → judge_first p body ≡ text i n → 32 ≤ n
unfolding after_first
first_long p body i n e =
    elim (cases_lt (length body) (first_len p)) [
      | inl lt ↦ absurd (start_isnt_text i n (sym (judge_first-short p body lt) ∙ e))
      | inr le ↦
          let f = take (first_len p) body in
          let a = drop (first_len p) body in
          cond_long (first_is_right p f) (judge_later p f a) (bad (BadSegmentCrc 0)) i n
          (λ h. later_long p f a i n h) (λ h. absurd (bad_isnt_text (BadSegmentCrc 0) i n h)) (sym (judge_first-whole p body le) ∙ e)
    ]

body_long : (r : Result Preamble FrameFault) (body : List ℕ) (i : Item) (n : ℕ) → judge_body r body ≡ text i n → 32 ≤ n
body_long (Ok p) body i n e = first_long p body i n e
body_long (Err f) body i n e = absurd (bad_isnt_text f i n e)

-- a text has a preamble at least
pub text_long : (rest : List ℕ) (i : Item) (n : ℕ) → judge rest ≡ text i n → 32 ≤ n
text_long rest i n e =
    elim (cases_lt (length rest) 32) [
      | inl lt ↦ absurd (start_isnt_text i n (sym (judge-short rest lt) ∙ e))
      | inr le ↦ body_long (read_preamble (take 32 rest)) (drop 32 rest) i n (sym (judge-whole rest le) ∙ e)
    ]

-- a text lies within the bytes that were judged
pub text_within : (rest : List ℕ) (i : Item) (n : ℕ) → judge rest ≡ text i n → n ≤ length rest
text_within rest i n e =
    elim (cases_lt (length rest) 32) [
      | inl lt ↦ absurd (start_isnt_text i n (sym (judge-short rest lt) ∙ e))
      | inr le ↦ omega (arith, body_within (read_preamble (take 32 rest)) (drop 32 rest) i n (sym (judge-whole rest le) ∙ e), length-drop 32 rest, le)
    ]

-- what is a text stays one, whatever follows: no text is a prefix of another
pub text_stays : (rest more : List ℕ) (i : Item) (n : ℕ) → judge rest ≡ text i n → judge (rest ++ more) ≡ text i n
text_stays rest more i n e =
    elim (judge-settled rest more) [
      | inl s ↦ absurd (start_isnt_text i n (sym s ∙ e))
      | inr s ↦ s.1 ∙ e
    ]

-- what is bad stays so, with its first fault
pub fault_stays : (rest more : List ℕ) (f : FrameFault) → judge rest ≡ bad f → judge (rest ++ more) ≡ bad f
fault_stays rest more f e =
    elim (judge-settled rest more) [
      | inl s ↦ absurd (start_isnt_bad f (sym s ∙ e))
      | inr s ↦ s.1 ∙ e
    ]

pub Splits-feed : (items : List Item) (stream rest more : List ℕ) → Splits stream items rest → Splits (stream ++ more) items (rest ++ more)
Splits-feed [] stream rest more e = ap (λ (s : List ℕ). s ++ more) e
Splits-feed (i ∷ is) stream rest more h = (
  h.0,
  text_stays stream more i h.0 h.1,
  subst (λ (s : List ℕ). Splits s is (rest ++ more)) (sym (drop-append-le h.0 stream more (text_within stream i h.0 h.1))) (Splits-feed is (drop h.0 stream) rest more h.2),
)

pub Splits-next : (items : List Item) (stream rest : List ℕ) (i : Item) (n : ℕ) → Splits stream items rest → judge rest ≡ text i n → Splits stream (items ++ i ∷ []) (drop n rest)
Splits-next [] stream rest i n e h = (n, ap judge e ∙ h, ap (drop n) e)
Splits-next (j ∷ js) stream rest i n s h = (s.0, s.1, Splits-next js (drop s.0 stream) rest i n s.2 h)

pub same_text : (i j : Item) (n m : ℕ) → text i n ≡ text j m → (i ≡ j) × (n ≡ m)
same_text i j n m e = (cc, cc)

pub Splits-once : (is js : List Item) (stream rest other : List ℕ) → Splits stream is rest → IsOpen rest → Splits stream js other → IsOpen other → (is ≡ js) × (rest ≡ other)
Splits-once [] [] stream rest other a o b p = (refl, sym a ∙ b)
Splits-once [] (j ∷ js) stream rest other a o b p = absurd (o j b.0 (ap judge (sym a) ∙ b.1))
Splits-once (i ∷ is) [] stream rest other a o b p = absurd (p i a.0 (ap judge (sym b) ∙ a.1))
Splits-once (i ∷ is) (j ∷ js) stream rest other a o b p =
    let same = same_text i j a.0 b.0 (sym a.1 ∙ b.1) in
    let moved : Splits (drop a.0 stream) js other = subst (λ n. Splits (drop n stream) js other) (sym same.1) b.2 in
    let rest_same = Splits-once is js (drop a.0 stream) rest other a.2 o moved p in
    (ap (λ x. x ∷ is) same.0 ∙ ap (λ xs. j ∷ xs) rest_same.0, rest_same.1)

-- a proper prefix of a text is a start
pub text-begun : (bytes : List ℕ) (i : Item) (k : ℕ) → judge bytes ≡ text i (length bytes) → k < length bytes → judge (take k bytes) ≡ start
text-begun bytes i k whole short = by_front (judge (take k bytes)) refl
  where
    by_front : (x : Front) → judge (take k bytes) ≡ x → x ≡ start
    by_front start e = refl
    by_front (bad f) e =
        let more : judge bytes ≡ bad f = subst (λ (l : List ℕ). judge l ≡ bad f) (take-append-drop k bytes) (fault_stays (take k bytes) (drop k bytes) f e) in
        absurd (bad_isnt_text f i (length bytes) (sym more ∙ whole))
    by_front (text j n) e =
        let more : judge bytes ≡ text j n = subst (λ (l : List ℕ). judge l ≡ text j n) (take-append-drop k bytes) (text_stays (take k bytes) (drop k bytes) j n e) in
        let same = same_text j i n (length bytes) (sym more ∙ whole) in
        let within = text_within (take k bytes) j n e in
        let few = length-take-le k bytes (omega (arith, short)) in
        absurd (omega (arith, same.1, within, few, short))

-- one reading goes on where another ends
pub Splits-append : (is js : List Item) (stream mid rest : List ℕ) → Splits stream is mid → Splits mid js rest → Splits stream (is ++ js) rest
Splits-append [] js stream mid rest s t = subst (λ (l : List ℕ). Splits l js rest) (sym s) t
Splits-append (i ∷ is) js stream mid rest s t = (s.0, s.1, Splits-append is js (drop s.0 stream) mid rest s.2 t)
