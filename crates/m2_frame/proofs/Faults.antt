-- The judgement finds the first row of the tables that the bytes have.
use Rattle.std.proofs.Common.{◌≡◌, ◌≢◌, ℕ, zero, suc, ◌+◌, ◌*◌, ◌-◌, ◌%◌, ◌<◌, ◌≤◌, Bool, true, false, cond, ltb, List, length, take, drop, Result, Ok, Err, refl, sym, ap, ◌∙◌, subst, arith, length-drop, ◌⊎◌, inl, inr}
use Rattle.std.specs.Prelude.{◌==◌, ◌||◌, ◌&&◌, not, nat_lt, slice_index}
use Rattle.std.proofs.lemmas.Bool.{cases_lt, lt-ltb, le-ltb, ltb-true, ltb-false, eqb-true, eqb-false, cond-true, cond-false, or_cases, or_parts, and_cases, and_parts, not-true}
use Rattle.std.proofs.lemmas.List.{length-take-le}
use Rattle.m2_frame.specs.declared.tag.TheConstants.{FIRST_TAG, LAST_TAG}
use Rattle.m2_crc.specs.Crc.{crc_of}
use Rattle.m2_frame.specs.declared.epilogue.Late.{Late}
use Rattle.m2_frame.specs.declared.epilogue.Late.TheVariants.{Complete, Aborted}
use Rattle.m2_frame.specs.declared.fault.FrameFault.{FrameFault}
use Rattle.m2_frame.specs.declared.fault.FrameFault.TheVariants.{BadPreambleCrc, BadCount, LastEmpty, Compressed, BadTag, BadSegments, TooLong, BadSegmentCrc, BadLate}
use Rattle.m2_frame.specs.declared.frame.TheConstants.{MOST_SEGMENTS}
use Rattle.m2_frame.specs.declared.preamble.Preamble.{Preamble}
use Rattle.m2_frame.specs.Faults.{said_by, preamble_part, HasLongSegment, HasWrongCrc, part_end, HasCause, row_of, IsBad}
use Rattle.m2_frame.specs.Frame.{most_segments, segment_limit}
use Rattle.m2_frame.specs.Judging.{first_part, later_part}
use Rattle.m2_frame.specs.Preamble.{number_at, last_length, is_too_long, judge_fields, read_preamble}
use Rattle.m2_frame.specs.Reading.{Front, start, bad, text, first_len, later_len, text_len, first_is_right, is_wrong, second_in, third_in, fourth_in, epilogue_in, judge_epilogue, judge_rest, front_of, judge_later, judge_first, judge_body, judge}
use Rattle.m2_frame.specs.Text.{segment_crc}
use Rattle.m2_frame.proofs.Parsed.{place_right}
use Rattle.m2_frame.proofs.Preambles.{preamble_in-text, preamble_text-read}
use Rattle.m2_frame.proofs.Judge.{judge-short, judge-whole, after_first, judge_first-short, judge_first-whole, judge_later-short, judge_later-whole}

-- ---- the order of the rows

-- a segment that a frame can have
IsListed : FrameFault → Type 0
IsListed (BadSegmentCrc segment) = segment < 4
IsListed _ = Unit {0}

cause_at : ℕ → FrameFault
cause_at n =
    cond (n == 1) BadPreambleCrc (cond (n == 2) BadCount (cond (n == 3) LastEmpty (cond (n == 4) Compressed
    (cond (n == 5) BadTag (cond (n == 6) BadSegments (cond (n == 7) TooLong (cond (n == 12) BadLate (BadSegmentCrc (n - 8)))))))))

cause_at-row : (f : FrameFault) → IsListed f → cause_at (row_of f) ≡ f
unfolding IsListed cause_at
cause_at-row BadPreambleCrc h = refl
cause_at-row BadCount h = refl
cause_at-row LastEmpty h = refl
cause_at-row Compressed h = refl
cause_at-row BadTag h = refl
cause_at-row BadSegments h = refl
cause_at-row TooLong h = refl
cause_at-row (BadSegmentCrc zero) h = refl
cause_at-row (BadSegmentCrc (suc zero)) h = refl
cause_at-row (BadSegmentCrc (suc (suc zero))) h = refl
cause_at-row (BadSegmentCrc (suc (suc (suc zero)))) h = refl
cause_at-row (BadSegmentCrc (suc (suc (suc (suc n))))) h = absurd (omega (arith, h))
cause_at-row BadLate h = refl

same_row : (f g : FrameFault) → IsListed f → IsListed g → row_of f ≡ row_of g → f ≡ g
same_row f g a b e = sym (cause_at-row f a) ∙ ap cause_at e ∙ cause_at-row g b

wrong_listed : (segment : ℕ) (p : Preamble) (first later : List ℕ) → HasWrongCrc segment p first later → segment < 4
wrong_listed zero p first later h = omega arith
wrong_listed (suc zero) p first later h = omega arith
wrong_listed (suc (suc zero)) p first later h = omega arith
wrong_listed (suc (suc (suc zero))) p first later h = omega arith
wrong_listed (suc (suc (suc (suc n)))) p first later h = absurd h

listed : (rest : List ℕ) (f : FrameFault) → HasCause rest f → IsListed f
unfolding IsListed
listed rest BadPreambleCrc h = tt
listed rest BadCount h = tt
listed rest LastEmpty h = tt
listed rest Compressed h = tt
listed rest BadTag h = tt
listed rest BadSegments h = tt
listed rest TooLong h = tt
listed rest (BadSegmentCrc s) h = wrong_listed s (said_by rest) (first_part (said_by rest) rest) (later_part (said_by rest) rest) h.1
listed rest BadLate h = tt

-- no cause of a row above n
NoneBelow : List ℕ → ℕ → Type 0
NoneBelow rest n = (g : FrameFault) → row_of g < n → HasCause rest g → ⊥

next_row : (rest : List ℕ) (f : FrameFault) → IsListed f → NoneBelow rest (row_of f) → (HasCause rest f → ⊥) → NoneBelow rest (row_of f + 1)
unfolding NoneBelow
next_row rest f l none not g lt h =
    elim (cases_lt (row_of g) (row_of f)) [
      | inl less ↦ none g less h
      | inr le ↦ not (subst (HasCause rest) (same_row g f (listed rest g h) l (omega (arith, lt, le))) h)
    ]

-- what is refused, or goes on
Refuses : {A : Type 0} → List ℕ → Type 0 → Result A FrameFault → Type 0
Refuses rest then (Ok _) = then
Refuses rest then (Err f) = IsBad f rest

row : {A : Type 0} (rest : List ℕ) (then : Type 0) (f : FrameFault) (b : Bool) (x : Result A FrameFault) → IsListed f → NoneBelow rest (row_of f) → (b ≡ true → HasCause rest f) → (b ≡ false → HasCause rest f → ⊥)
    → (b ≡ false → NoneBelow rest (row_of f + 1) → Refuses rest then x) → Refuses rest then (cond b (Err f) x)
unfolding Refuses NoneBelow
row rest then f true x l none has hasnt more = record { has = has refl; first = none }
row rest then f false x l none has hasnt more = more refl (next_row rest f l none (hasnt refl))

zero_listed : IsListed (BadSegmentCrc zero)
unfolding IsListed
zero_listed = omega arith

-- ---- the preamble

or_is : (a b : Bool) (A B : Type 0) → (a ≡ true → A) → (b ≡ true → B) → (a || b) ≡ true → A ⊎ B
or_is a b A B f g e = elim (or_cases a b e) [ inl h ↦ inl (f h) | inr h ↦ inr (g h) ]

or_isnt : (a b : Bool) (A B : Type 0) → (a ≡ false → A → ⊥) → (b ≡ false → B → ⊥) → (a || b) ≡ false → A ⊎ B → ⊥
or_isnt a b A B f g e (inl h) = f (or_parts a b e).0 h
or_isnt a b A B f g e (inr h) = g (or_parts a b e).1 h

long_found : (p : Preamble) → is_too_long p ≡ true → HasLongSegment p
long_found p e =
    let most = segment_limit p.tag in
    elim (or_cases (ltb most p.first || ltb most p.second || ltb most p.third) (ltb most p.fourth) e) [
      | inr d ↦ inr (inr (inr (ltb-true most p.fourth d)))
      | inl abc ↦ elim (or_cases (ltb most p.first || ltb most p.second) (ltb most p.third) abc) [
        | inr c ↦ inr (inr (inl (ltb-true most p.third c)))
        | inl ab ↦ elim (or_cases (ltb most p.first) (ltb most p.second) ab) [
          | inr b ↦ inr (inl (ltb-true most p.second b))
          | inl a ↦ inl (ltb-true most p.first a)
        ]
      ]
    ]

long_missing : (p : Preamble) → is_too_long p ≡ false → HasLongSegment p → ⊥
long_missing p e h =
    let most = segment_limit p.tag in
    let d = or_parts (ltb most p.first || ltb most p.second || ltb most p.third) (ltb most p.fourth) e in
    let c = or_parts (ltb most p.first || ltb most p.second) (ltb most p.third) d.0 in
    let b = or_parts (ltb most p.first) (ltb most p.second) c.0 in
    elim h [
      | inl x ↦ omega (arith, x, ltb-false most p.first b.0)
      | inr y ↦ elim y [
        | inl x ↦ omega (arith, x, ltb-false most p.second b.1)
        | inr z ↦ elim z [
          | inl x ↦ omega (arith, x, ltb-false most p.third c.1)
          | inr x ↦ omega (arith, x, ltb-false most p.fourth d.1)
        ]
      ]
    ]

last_found : (p : Preamble) → (nat_lt 1 p.count && (last_length p == 0)) ≡ true → (1 < p.count) × (last_length p ≡ 0)
last_found p e = let b = and_parts (nat_lt 1 p.count) (last_length p == 0) e in (ltb-true 1 p.count b.0, eqb-true (last_length p) 0 b.1)

last_missing : (p : Preamble) → (nat_lt 1 p.count && (last_length p == 0)) ≡ false → (1 < p.count) × (last_length p ≡ 0) → ⊥
last_missing p e h =
    elim (and_cases (nat_lt 1 p.count) (last_length p == 0) e) [
      | inl x ↦ let le : p.count ≤ 1 = ltb-false 1 p.count x in let lt = h.0 in omega (arith, le, lt)
      | inr x ↦ eqb-false (last_length p) 0 x h.1
    ]

fields_refuse : (rest : List ℕ) → 32 ≤ length rest → NoneBelow rest 2 → Refuses rest (NoneBelow rest 8) (judge_fields (slice_index (preamble_part rest) 26) (said_by rest))
unfolding Refuses IsListed
fields_refuse rest there none =
    let p = said_by rest in
    row rest (NoneBelow rest 8) BadCount _ _ tt none
    (λ e. (there, or_is (p.count == 0) (nat_lt MOST_SEGMENTS p.count) (p.count ≡ 0) (MOST_SEGMENTS < p.count) (eqb-true p.count 0) (ltb-true MOST_SEGMENTS p.count) e))
    (λ e h. or_isnt (p.count == 0) (nat_lt MOST_SEGMENTS p.count) (p.count ≡ 0) (MOST_SEGMENTS < p.count) (eqb-false p.count 0) (λ x y. let le = ltb-false MOST_SEGMENTS p.count x in omega (arith, le, y)) e h.1)
    (λ _ none3. row rest (NoneBelow rest 8) LastEmpty _ _ tt none3 (λ e. (there, last_found p e)) (λ e h. last_missing p e h.1)
    (λ _ none4. row rest (NoneBelow rest 8) Compressed _ _ tt none4 (λ e. (there, eqb-true (slice_index (preamble_part rest) 26 % 2) 1 e)) (λ e h. eqb-false (slice_index (preamble_part rest) 26 % 2) 1 e h.1)
    (λ _ none5. row rest (NoneBelow rest 8) BadTag _ _ tt none5
    (λ e. (there, or_is (nat_lt p.tag FIRST_TAG) (nat_lt LAST_TAG p.tag) (p.tag < FIRST_TAG) (LAST_TAG < p.tag) (ltb-true p.tag FIRST_TAG) (ltb-true LAST_TAG p.tag) e))
    (λ e h. or_isnt (nat_lt p.tag FIRST_TAG) (nat_lt LAST_TAG p.tag) (p.tag < FIRST_TAG) (LAST_TAG < p.tag) (λ x y. let le = ltb-false p.tag FIRST_TAG x in omega (arith, le, y)) (λ x y. let le = ltb-false LAST_TAG p.tag x in omega (arith, le, y)) e h.1)
    (λ _ none6. row rest (NoneBelow rest 8) BadSegments _ _ tt none6
    (λ e. (there, ltb-true (most_segments p.tag) p.count e))
    (λ e h. let le = ltb-false (most_segments p.tag) p.count e in let lt = h.1 in omega (arith, le, lt))
    (λ _ none7. row rest (NoneBelow rest 8) TooLong _ _ tt none7 (λ e. (there, long_found p e)) (λ e h. long_missing p e h.1)
    (λ _ none8. none8))))))

row_some : (g : FrameFault) → 1 ≤ row_of g
row_some BadPreambleCrc = omega arith
row_some BadCount = omega arith
row_some LastEmpty = omega arith
row_some Compressed = omega arith
row_some BadTag = omega arith
row_some BadSegments = omega arith
row_some TooLong = omega arith
row_some (BadSegmentCrc s) = omega arith
row_some BadLate = omega arith

preamble_refuses : (rest : List ℕ) → 32 ≤ length rest → Refuses rest (NoneBelow rest 8) (read_preamble (preamble_part rest))
unfolding Refuses NoneBelow IsListed read_preamble
preamble_refuses rest there =
    let t = preamble_part rest in
    let crc = crc_of 0 (take 28 t) in
    let none : NoneBelow rest 1 = λ g h _. let some = row_some g in omega (arith, h, some) in
    by_crc (crc == number_at 28 t) (eqb-true crc (number_at 28 t)) (eqb-false crc (number_at 28 t)) none
  where
    by_crc : (b : Bool) → (b ≡ true → crc_of 0 (take 28 (preamble_part rest)) ≡ number_at 28 (preamble_part rest))
        → (b ≡ false → crc_of 0 (take 28 (preamble_part rest)) ≢ number_at 28 (preamble_part rest)) → NoneBelow rest 1
        → Refuses rest (NoneBelow rest 8) (cond b (judge_fields (slice_index (preamble_part rest) 26) (said_by rest)) (Err BadPreambleCrc))
    by_crc true same differs none =
        fields_refuse rest there (next_row rest BadPreambleCrc tt none (λ h. h.1 (same refl)))
    by_crc false same differs none = record { has = (there, differs refl); first = none }

-- ---- the front

None : List ℕ → Type 0
None rest = (g : FrameFault) → HasCause rest g → ⊥

Says : List ℕ → Front → Type 0
Says rest start = None rest
Says rest (bad f) = IsBad f rest
Says rest (text item n) = None rest

end_after : (g : FrameFault) (p : Preamble) → 32 ≤ part_end g p
end_after BadPreambleCrc p = omega arith
end_after BadCount p = omega arith
end_after LastEmpty p = omega arith
end_after Compressed p = omega arith
end_after BadTag p = omega arith
end_after BadSegments p = omega arith
end_after TooLong p = omega arith
end_after (BadSegmentCrc zero) p = omega arith
end_after (BadSegmentCrc (suc s)) p = omega arith
end_after BadLate p = omega arith

-- what isn't whole has no cause
none_short : (rest : List ℕ) → length rest < 32 → None rest
unfolding None
none_short rest short g h = let end = end_after g (said_by rest) in let there = h.0 in omega (arith, short, end, there)

none_sized : (rest : List ℕ) → NoneBelow rest 8 → length rest < 32 + first_len (said_by rest) → None rest
unfolding None NoneBelow
none_sized rest none short BadPreambleCrc h = none BadPreambleCrc (omega arith) h
none_sized rest none short BadCount h = none BadCount (omega arith) h
none_sized rest none short LastEmpty h = none LastEmpty (omega arith) h
none_sized rest none short Compressed h = none Compressed (omega arith) h
none_sized rest none short BadTag h = none BadTag (omega arith) h
none_sized rest none short BadSegments h = none BadSegments (omega arith) h
none_sized rest none short TooLong h = none TooLong (omega arith) h
none_sized rest none short (BadSegmentCrc zero) h = let there = h.0 in omega (arith, short, there)
none_sized rest none short (BadSegmentCrc (suc s)) h = let there = h.0 in omega (arith, short, there)
none_sized rest none short BadLate h = let there = h.0 in omega (arith, short, there)

none_sealed : (rest : List ℕ) → NoneBelow rest 9 → length rest < text_len (said_by rest) → None rest
unfolding None NoneBelow
none_sealed rest none short BadPreambleCrc h = none BadPreambleCrc (omega arith) h
none_sealed rest none short BadCount h = none BadCount (omega arith) h
none_sealed rest none short LastEmpty h = none LastEmpty (omega arith) h
none_sealed rest none short Compressed h = none Compressed (omega arith) h
none_sealed rest none short BadTag h = none BadTag (omega arith) h
none_sealed rest none short BadSegments h = none BadSegments (omega arith) h
none_sealed rest none short TooLong h = none TooLong (omega arith) h
none_sealed rest none short (BadSegmentCrc zero) h = none (BadSegmentCrc zero) (omega arith) h
none_sealed rest none short (BadSegmentCrc (suc s)) h = let there = h.0 in omega (arith, short, there)
none_sealed rest none short BadLate h = let there = h.0 in omega (arith, short, there)

-- a frame of one segment ends behind it
several : (s : ℕ) (p : Preamble) (first later : List ℕ) → HasWrongCrc (suc s) p first later → 1 < p.count
several zero p first later h = h.0
several (suc zero) p first later h = let lt = h.0 in omega (arith, lt)
several (suc (suc zero)) p first later h = let lt = h.0 in omega (arith, lt)
several (suc (suc (suc s))) p first later h = absurd h

none_alone : (rest : List ℕ) → NoneBelow rest 9 → (said_by rest).count ≤ 1 → None rest
unfolding None NoneBelow
none_alone rest none alone BadPreambleCrc h = none BadPreambleCrc (omega arith) h
none_alone rest none alone BadCount h = none BadCount (omega arith) h
none_alone rest none alone LastEmpty h = none LastEmpty (omega arith) h
none_alone rest none alone Compressed h = none Compressed (omega arith) h
none_alone rest none alone BadTag h = none BadTag (omega arith) h
none_alone rest none alone BadSegments h = none BadSegments (omega arith) h
none_alone rest none alone TooLong h = none TooLong (omega arith) h
none_alone rest none alone (BadSegmentCrc zero) h = none (BadSegmentCrc zero) (omega arith) h
none_alone rest none alone (BadSegmentCrc (suc s)) h =
    let p = said_by rest in
    let lt = several s p (first_part p rest) (later_part p rest) h.1 in omega (arith, alone, lt)
none_alone rest none alone BadLate h = let lt = h.1.0 in omega (arith, alone, lt)

row_last : (g : FrameFault) → IsListed g → row_of g < 13
unfolding IsListed
row_last BadPreambleCrc h = omega arith
row_last BadCount h = omega arith
row_last LastEmpty h = omega arith
row_last Compressed h = omega arith
row_last BadTag h = omega arith
row_last BadSegments h = omega arith
row_last TooLong h = omega arith
row_last (BadSegmentCrc s) h = omega (arith, h)
row_last BadLate h = omega arith

none_left : (rest : List ℕ) → NoneBelow rest 12 → (HasCause rest BadLate → ⊥) → None rest
unfolding None NoneBelow IsListed
none_left rest none last g h = next_row rest BadLate tt none last g (row_last g (listed rest g h)) h

place_wrong : (place count : ℕ) (epilogue segment : List ℕ) → is_wrong place count epilogue segment ≡ true → (place < count) × (number_at (4 * place - 3) epilogue ≢ segment_crc segment)
place_wrong place count epilogue segment e =
    let n = number_at (4 * place - 3) epilogue in
    let crc = segment_crc segment in
    let b = and_parts (ltb place count) (not (n == crc)) e in
    (ltb-true place count b.0, eqb-false n crc (not-true (n == crc) b.1))

abbrev late_bits : List ℕ → ℕ
late_bits rest = slice_index (epilogue_in (said_by rest) (later_part (said_by rest) rest)) 0 % 16

epilogue_refuses : (rest : List ℕ) → NoneBelow rest 9 → text_len (said_by rest) ≤ length rest → 1 < (said_by rest).count → Refuses rest (None rest) (judge_epilogue (said_by rest) (later_part (said_by rest) rest))
unfolding Refuses IsListed judge_epilogue NoneBelow
epilogue_refuses rest none there many =
    let p = said_by rest in
    let later = later_part p rest in
    let e = epilogue_in p later in
    let low = slice_index e 0 % 16 in
    row rest (None rest) (BadSegmentCrc 1) _ _ (omega arith) none
    (λ w. (there, place_wrong 1 p.count e (second_in p later) w)) (λ w h. h.1.1 (place_right 1 p.count e (second_in p later) w h.1.0))
    (λ _ none10. row rest (None rest) (BadSegmentCrc 2) _ _ (omega arith) none10
    (λ w. (there, place_wrong 2 p.count e (third_in p later) w)) (λ w h. h.1.1 (place_right 2 p.count e (third_in p later) w h.1.0))
    (λ _ none11. row rest (None rest) (BadSegmentCrc 3) _ _ (omega arith) none11
    (λ w. (there, place_wrong 3 p.count e (fourth_in p later) w)) (λ w h. h.1.1 (place_right 3 p.count e (fourth_in p later) w h.1.0))
    (λ _ none12. late_refuses (low == 0xE) (low == 0x1) (eqb-true low 0xE) (eqb-false low 0xE) (eqb-true low 0x1) (eqb-false low 0x1) none12)))
  where
    late_refuses : (b c : Bool) → (b ≡ true → late_bits rest ≡ 0xE) → (b ≡ false → late_bits rest ≢ 0xE) → (c ≡ true → late_bits rest ≡ 0x1) → (c ≡ false → late_bits rest ≢ 0x1)
        → NoneBelow rest 12 → Refuses rest (None rest) (cond b (Ok Complete) (cond c (Ok Aborted) (Err BadLate)))
    late_refuses true c is isnt is1 isnt1 none12 = none_left rest none12 (λ h. h.1.1 (is refl))
    late_refuses false true is isnt is1 isnt1 none12 = none_left rest none12 (λ h. h.1.2 (is1 refl))
    late_refuses false false is isnt is1 isnt1 none12 = record { has = (there, (many, isnt refl, isnt1 refl)); first = none12 }

rest_refuses : (rest : List ℕ) → NoneBelow rest 9 → text_len (said_by rest) ≤ length rest → Refuses rest (None rest) (judge_rest (said_by rest) (later_part (said_by rest) rest))
unfolding Refuses
rest_refuses rest none there =
    let p = said_by rest in
    let later = later_part p rest in
    elim (cases_lt 1 p.count) [
      | inl many ↦ subst (Refuses rest (None rest)) (sym (cond-true (ltb 1 p.count) (judge_epilogue p later) (Ok Complete) (lt-ltb 1 p.count many))) (epilogue_refuses rest none there many)
      | inr alone ↦ subst (Refuses rest (None rest)) (sym (cond-false (ltb 1 p.count) (judge_epilogue p later) (Ok Complete) (le-ltb 1 p.count alone))) (none_alone rest none alone)
    ]

front_says : (rest first later : List ℕ) (p : Preamble) (r : Result Late FrameFault) → Refuses rest (None rest) r → Says rest (front_of p first later r)
unfolding Refuses Says
front_says rest first later p (Ok Complete) h = h
front_says rest first later p (Ok Aborted) h = h
front_says rest first later p (Err f) h = h

later_says : (rest : List ℕ) → NoneBelow rest 9 → 32 + first_len (said_by rest) ≤ length rest → Says rest (judge_later (said_by rest) (first_part (said_by rest) rest) (drop (first_len (said_by rest)) (drop 32 rest)))
unfolding Says
later_says rest none there =
    let p = said_by rest in
    let first = first_part p rest in
    let after = drop (first_len p) (drop 32 rest) in
    let long : length after ≡ length rest - 32 - first_len p = length-drop (first_len p) (drop 32 rest) ∙ ap (λ n. n - first_len p) (length-drop 32 rest) in
    elim (cases_lt (length after) (later_len p)) [
      | inl lt ↦ subst (Says rest) (sym (judge_later-short p first after lt)) (none_sealed rest none (omega (arith, long, lt, there)))
      | inr le ↦ subst (Says rest) (sym (judge_later-whole p first after le)) (front_says rest first (later_part p rest) p (judge_rest p (later_part p rest)) (rest_refuses rest none (omega (arith, long, le, there))))
    ]

first_says : (rest : List ℕ) → NoneBelow rest 8 → 32 ≤ length rest → Says rest (judge_first (said_by rest) (drop 32 rest))
unfolding Says after_first NoneBelow
first_says rest none there =
    let p = said_by rest in
    let body = drop 32 rest in
    let long : length body ≡ length rest - 32 = length-drop 32 rest in
    elim (cases_lt (length body) (first_len p)) [
      | inl lt ↦ subst (Says rest) (sym (judge_first-short p body lt)) (none_sized rest none (omega (arith, long, lt)))
      | inr le ↦ subst (Says rest) (sym (judge_first-whole p body le)) (by_first (first_is_right p (first_part p rest)) refl (omega (arith, long, le, there)))
    ]
  where
    right_missing : first_is_right (said_by rest) (first_part (said_by rest) rest) ≡ true → HasCause rest (BadSegmentCrc zero) → ⊥
    right_missing e h =
        let crc = segment_crc (take (said_by rest).first (first_part (said_by rest) rest)) in
        let n = number_at (said_by rest).first (first_part (said_by rest) rest) in
        elim (or_cases ((said_by rest).first == 0) (n == crc) e) [
          | inl none ↦ let some = h.1.0 in let empty = eqb-true (said_by rest).first 0 none in omega (arith, some, empty)
          | inr same ↦ h.1.1 (eqb-true n crc same)
        ]

    wrong_found : 32 + first_len (said_by rest) ≤ length rest → first_is_right (said_by rest) (first_part (said_by rest) rest) ≡ false → HasCause rest (BadSegmentCrc zero)
    wrong_found whole e =
        let crc = segment_crc (take (said_by rest).first (first_part (said_by rest) rest)) in
        let n = number_at (said_by rest).first (first_part (said_by rest) rest) in
        let b = or_parts ((said_by rest).first == 0) (n == crc) e in
        let some : (said_by rest).first ≡ 0 → ⊥ = eqb-false (said_by rest).first 0 b.0 in
        (whole, (omega (arith, some), eqb-false n crc b.1))

    by_first : (b : Bool) → first_is_right (said_by rest) (first_part (said_by rest) rest) ≡ b → 32 + first_len (said_by rest) ≤ length rest → Says rest (cond b (judge_later (said_by rest) (first_part (said_by rest) rest) (drop (first_len (said_by rest)) (drop 32 rest))) (bad (BadSegmentCrc 0)))
    by_first true e whole = later_says rest (next_row rest (BadSegmentCrc zero) zero_listed none (right_missing e)) whole
    by_first false e whole = record { has = wrong_found whole e; first = none }

body_says : (rest : List ℕ) (r : Result Preamble FrameFault) → 32 ≤ length rest → read_preamble (take 32 rest) ≡ r → Refuses rest (NoneBelow rest 8) r → Says rest (judge_body r (drop 32 rest))
unfolding Says Refuses
body_says rest (Ok q) there e none =
    let read = preamble_text-read q (take 32 rest) (length-take-le 32 rest there) e in
    subst (λ (x : Preamble). Says rest (judge_first x (drop 32 rest))) (preamble_in-text q (take 32 rest) read.0 read.1.counted) (first_says rest none there)
body_says rest (Err f) there e wrong = wrong

judge-says : (rest : List ℕ) → Says rest (judge rest)
unfolding Says
judge-says rest =
    elim (cases_lt (length rest) 32) [
      | inl lt ↦ subst (Says rest) (sym (judge-short rest lt)) (none_short rest lt)
      | inr le ↦ subst (Says rest) (sym (judge-whole rest le)) (body_says rest (read_preamble (take 32 rest)) le refl (preamble_refuses rest le))
    ]

-- ---- the law

pub judged_is_bad : (rest : List ℕ) (f : FrameFault) → judge rest ≡ bad f → IsBad f rest
unfolding Says
judged_is_bad rest f e = subst (Says rest) e (judge-says rest)

-- the first cause is one
same_bad : (rest : List ℕ) (f g : FrameFault) → IsBad f rest → IsBad g rest → f ≡ g
same_bad rest f g a b =
    elim (cases_lt (row_of f) (row_of g)) [
      | inl lt ↦ absurd (b.first f lt a.has)
      | inr ge ↦ elim (cases_lt (row_of g) (row_of f)) [
        | inl lt ↦ absurd (a.first g lt b.has)
        | inr le ↦ same_row f g (listed rest f a.has) (listed rest g b.has) (omega (arith, ge, le))
      ]
    ]

pub bad_is_judged : (rest : List ℕ) (f : FrameFault) → IsBad f rest → judge rest ≡ bad f
unfolding Says None
bad_is_judged rest f h = by_front (judge rest) (judge-says rest)
  where
    by_front : (x : Front) → Says rest x → x ≡ bad f
    by_front start none = absurd (none f h.has)
    by_front (bad g) is = ap bad (same_bad rest g f is h)
    by_front (text item n) none = absurd (none f h.has)

pub right_has_none : (rest : List ℕ) → ((f : FrameFault) → judge rest ≢ bad f) → (g : FrameFault) → HasCause rest g → ⊥
unfolding Says None
right_has_none rest right = by_front (judge rest) (judge-says rest) right
  where
    by_front : (x : Front) → Says rest x → ((f : FrameFault) → x ≢ bad f) → (g : FrameFault) → HasCause rest g → ⊥
    by_front start none fine = none
    by_front (bad g) is fine = absurd (fine g refl)
    by_front (text item n) none fine = none
